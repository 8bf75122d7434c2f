-- A run in which no fault is counted is done, has an invalid command line or a refused file, or is out of memory.
use Rattle.std.proofs.Common.{◌≡◌, ◌⊎◌, inl, inr, ℕ, List, [], ◌∷◌, Option, None, Some, IsSome, Result, Err, refl, sym, ap, ◌∙◌, subst, arith}
use Rattle.std.specs.List.{AllByRecursion}
use Rattle.std.specs.Option.{ForSome}
use Rattle.base_core.specs.Causes.{Rose}
use Rattle.command_line.specs.Command.{AnswerCommand, Command, Answer, Init, Check, Compact, Migrate, Help, IsCommand}
use Rattle.disk_core.specs.Disk.{DiskState}
use Rattle.disk_core.specs.declared.disk.Disk.{Ghosts}
use Rattle.ext_ops.specs.Offered.{Offered}
use Rattle.link_core.specs.Host.{HandsOutDisk, HostState}
use Rattle.link_core.specs.Link.{SinkState}
use Rattle.record_core.specs.declared.change.Change.{Change}
use Rattle.repo_step.specs.declared.outcome.Outcome.{Outcome}
use Rattle.repo_step.specs.declared.outcome.Outcome.TheVariants.{Done, NoMemory, DiskFault, Closed}
use Rattle.repo_step.specs.Setting.{Setting, State}
use Rattle.repo_step.specs.History.{AreClosed, Entry, GoesOn, IsWhole, OutcomesFrom, after, step_of}
use Rattle.repo_store.specs.Files.{TurnsTaken}
use Rattle.repo_store.specs.Law.{HasFault}
use Rattle.repo_store.proofs.OverFiles.{whole_fault}
use Rattle.repo_store.specs.declared.fault.StoreFault.TheVariants as stores
use Rattle.session_core.specs.declared.end.SessionEnd.{SessionEnd}
use Rattle.session_core.specs.declared.end.SessionEnd.TheVariants.{Ended, Cut, Framing, ReadFault, WriteFault}
use Rattle.repo_top.specs.declared.check.Numbers.{Numbers}
use Rattle.repo_top.specs.declared.file_run.FileEnd.{FileEnd}
use Rattle.repo_top.specs.declared.file_run.FileEnd.TheVariants as ends
use Rattle.repo_top.specs.declared.outcome.NoSession.{NoSession}
use Rattle.repo_top.specs.declared.outcome.NoSession.TheVariants as reasons
use Rattle.repo_top.specs.Answer.{LeavesDisk, RanAnswer}
use Rattle.repo_top.specs.Commands.{CountsNoFault, EndsEarly, HasNoLink, IsFaultless, IsOfInput, IsRunOf, IsWithoutFault, IsWords, RanAs, World}
use Rattle.repo_top.specs.Files.{CheckLeaves, HandsBack, InitLeaves, IsOfPrinting, Prints, handed, made_line}
use Rattle.repo_top.specs.Rewrites.{RewriteLeaves}
use Rattle.repo_top.specs.Start.{HasReason, OnDisk}
use Rattle.store_files.specs.First.{Migrates}
use Rattle.store_files.specs.Rewriting.{Compacts}
use Rattle.store_files.specs.declared.fault.RewriteFault.{RewriteFault}
use Rattle.store_files.specs.declared.fault.RewriteFault.TheVariants as rewrites
use Rattle.repo_top.specs.declared.outcome.Note.TheVariants as notes
use Rattle.repo_top.specs.Run.{Exit, Left, Views, exit, exit_of_file, exit_of_session, exit_without_session, left}

module _ {E : Type 0} (g : Ghosts E) where
  -- a disk that had no fault and counted none has none
  no_rise : (before after : E) → (g.state before).faults ≡ 0 → ¬ Rose 0 (g.state after).faults
      → Rose (g.state before).faults (g.state after).faults → ⊥
  no_rise before after zero none rose = none (omega (arith, rose, zero))

  none_by : (o : Option ℕ) → (IsSome o → ⊥) → o ≡ None
  none_by None not = refl
  none_by (Some x) not = absurd (not refl)

  -- no turn met a disk fault, and the store was not closed
  no_fault : (opened disk : Option E) (turns : TurnsTaken) → LeavesDisk g opened disk turns
      → ForSome opened (λ d. (g.state d).faults ≡ 0) → ForSome disk (λ d. ¬ Rose 0 (g.state d).faults) → HasFault turns.history → ⊥
  no_fault None None turns leaves zero none is = whole_fault turns.history leaves.1.whole is
  no_fault (Some o) (Some d) turns leaves zero none is = no_rise o d (zero o refl) (none d refl) (leaves.fault is).0
  no_fault None (Some d) turns leaves zero none is = leaves
  no_fault (Some o) None turns leaves zero none is = leaves

  not_closed : (opened disk : Option E) (turns : TurnsTaken) → LeavesDisk g opened disk turns
      → (HasFault turns.history → ⊥) → turns.closed ≡ None
  not_closed None None turns leaves none = leaves.1.not_closed
  not_closed (Some o) (Some d) turns leaves none = none_by turns.closed (λ some. none (leaves.closed some))
  not_closed None (Some d) turns leaves none = absurd leaves
  not_closed (Some o) None turns leaves none = absurd leaves

  not_on : (opened disk : Option E) (Also : DiskState → DiskState → Type 0)
      → OnDisk g.state opened disk (λ before after. Rose before.faults after.faults × Also before after)
      → ForSome opened (λ d. (g.state d).faults ≡ 0) → ForSome disk (λ d. ¬ Rose 0 (g.state d).faults) → ⊥
  not_on None None Also on zero none = on
  not_on (Some o) (Some d) Also on zero none = no_rise o d (zero o refl) (none d refl) on.0
  not_on None (Some d) Also on zero none = on
  not_on (Some o) None Also on zero none = on

-- the exit of a session over a store that is open
of_session : (x : Exit) (closed : Option ℕ) (end : SessionEnd) → x ≡ exit_of_session closed end → (x.status ≡ 7 → ⊥)
    → closed ≡ None → IsWithoutFault x.status
of_session x None Ended is seven closed = inl (ap (λ (e : Exit). e.status) is)
of_session x None (Cut place) is seven closed = inl (ap (λ (e : Exit). e.status) is)
of_session x None (Framing place reason) is seven closed = inl (ap (λ (e : Exit). e.status) is)
of_session x None ReadFault is seven closed = absurd (seven (ap (λ (e : Exit). e.status) is))
of_session x None WriteFault is seven closed = absurd (seven (ap (λ (e : Exit). e.status) is))
of_session x (Some count) end is seven closed = absurd (cc closed)

of_input : (x : Exit) (closed : Option ℕ) (end : SessionEnd) → x ≡ exit_of_session closed end → (x.status ≡ 7 → ⊥)
    → closed ≡ None → IsOfInput end
of_input x None Ended is seven closed = tt
of_input x None (Cut place) is seven closed = tt
of_input x None (Framing place reason) is seven closed = tt
of_input x None ReadFault is seven closed = seven (ap (λ (e : Exit). e.status) is)
of_input x None WriteFault is seven closed = seven (ap (λ (e : Exit). e.status) is)
of_input x (Some count) end is seven closed = absurd (cc closed)

-- a legal history in which no turn met a disk fault has none that is closed
whole_turn : (o : Outcome) (change : Option Change) (on closed : Type 0) → GoesOn o change on closed → (o ≡ DiskFault → ⊥)
    → IsWhole o × on
whole_turn Done change on closed goes none = (tt, goes)
whole_turn NoMemory change on closed goes none = (tt, goes)
whole_turn DiskFault change on closed goes none = absurd (none refl)
whole_turn Closed change on closed goes none = absurd goes

whole_on : (setting : Setting) (s : State) (es : List Entry) → OutcomesFrom setting (λ e. e) s es → (HasFault es → ⊥)
    → AllByRecursion (λ e. IsWhole e.outcome) es
whole_on setting s [] legal none = tt
whole_on setting s (e ∷ es) legal none =
    let turn = whole_turn e.outcome (step_of setting s e).change (OutcomesFrom setting (λ x. x) (after setting s e) es) (AreClosed (λ x. x) es) legal (λ is. none (inl is)) in
    (turn.0, whole_on setting (after setting s e) es turn.1 (λ fault. none (inr fault)))

module _ {E T : Type 0} (v : Views E T) (command : AnswerCommand) (offers : Offered) (old new : HostState) where
  of_reason : (opened disk : Option E) (x : Exit) (reason : NoSession) → x ≡ exit_without_session reason
      → HasReason v.disk.state command old new opened disk reason → ¬ Rose old.faults new.faults
      → ForSome opened (λ d. (v.disk.state d).faults ≡ 0) → ForSome disk (λ d. ¬ Rose 0 (v.disk.state d).faults)
      → IsWithoutFault x.status
  of_reason opened disk x reasons.Host is has host zero none = absurd (host has)
  of_reason opened disk x (reasons.File named) is has host zero none = inr (inr (inr (inr (ap (λ (e : Exit). e.status) is))))
  of_reason opened disk x (reasons.Disk count) is has host zero none = absurd (not_on v.disk opened disk _ has zero none)
  of_reason opened disk x (reasons.Store fault) is has host zero none = inr (inr (inl (ap (λ (e : Exit). e.status) is)))
  of_reason opened disk x reasons.Memory is has host zero none = inr (inr (inr (inl (ap (λ (e : Exit). e.status) is))))

  of_answer : (x : Exit) (opened disk : Option E) (begun link : Option T) (end : Option SessionEnd) (past : List Entry)
      → RanAnswer v command offers old new (left x opened disk begun link end past) → ¬ Rose old.faults new.faults
      → ForSome disk (λ d. ¬ Rose 0 (v.disk.state d).faults) → ForSome link (λ l. ¬ Rose 0 (v.link l).faults)
      → IsFaultless (left x opened disk begun link end past)
  of_answer x opened disk (Some b) (Some l) (Some e) past ran host none no_link =
      let s = ran.session in
      let seven : x.status ≡ 7 → ⊥ = λ is. no_link l refl (s.link_fault is) in
      let no : HasFault s.turns.history → ⊥ = no_fault v.disk opened disk s.turns s.disk ran.opened.no_fault none in
      let still : s.turns.closed ≡ None = not_closed v.disk opened disk s.turns s.disk no in
      record {
        status = of_session x s.turns.closed e s.exit seven still;
        turns = whole_on s.turns.setting s.turns.first past s.past.legal.outcomes (λ fault. no (subst (λ (h : List Entry). HasFault h) (sym s.history) fault));
        end = λ end is. subst (λ (o : SessionEnd). IsOfInput o) (cc is) (of_input x s.turns.closed e s.exit seven still);
      }
  of_answer x opened disk None None None past ran host none no_link =
      let s = ran.session in
      record {
        status = of_reason opened disk x s.reason s.exit s.has host ran.opened.no_fault none;
        turns = subst (λ (h : List Entry). AllByRecursion (λ e. IsWhole e.outcome) h) (sym s.past) tt;
        end = λ end is. absurd (cc is);
      }
  of_answer x opened disk None None (Some e) past ran host none no_link = absurd ran.session
  of_answer x opened disk None (Some l) None past ran host none no_link = absurd ran.session
  of_answer x opened disk None (Some l) (Some e) past ran host none no_link = absurd ran.session
  of_answer x opened disk (Some b) None None past ran host none no_link = absurd ran.session
  of_answer x opened disk (Some b) None (Some e) past ran host none no_link = absurd ran.session
  of_answer x opened disk (Some b) (Some l) None past ran host none no_link = absurd ran.session

-- a run without a link has no turns and no end
no_turns : {E T : Type 0} (run : Left E T) → HasNoLink run → IsWithoutFault run.exit.status → IsFaultless run
no_turns run none status = record {
  status = status;
  turns = subst (λ (h : List Entry). AllByRecursion (λ e. IsWhole e.outcome) h) (sym none.past) tt;
  end = λ end is. absurd (cc (sym none.end ∙ is));
}

-- ---- commands over a file

-- what a run of a file's command has, by its end
IsEndWithoutFault : FileEnd → Type 0
IsEndWithoutFault ends.Done = Unit {0}
IsEndWithoutFault (ends.Store fault) = Unit {0}
IsEndWithoutFault (ends.Full used asked) = Unit {0}
IsEndWithoutFault (ends.NotEmpty n) = Unit {0}
IsEndWithoutFault ends.Memory = Unit {0}
IsEndWithoutFault ends.Host = ⊥
IsEndWithoutFault (ends.Disk count) = ⊥
IsEndWithoutFault ends.Out = ⊥

of_end : (x : Exit) (end : FileEnd) → x ≡ exit_of_file end → IsEndWithoutFault end → IsWithoutFault x.status
unfolding IsEndWithoutFault
of_end x ends.Done is none = inl (ap (λ (e : Exit). e.status) is)
of_end x (ends.Store fault) is none = inr (inr (inl (ap (λ (e : Exit). e.status) is)))
of_end x (ends.Full used asked) is none = inr (inr (inl (ap (λ (e : Exit). e.status) is)))
of_end x (ends.NotEmpty n) is none = inr (inr (inl (ap (λ (e : Exit). e.status) is)))
of_end x ends.Memory is none = inr (inr (inr (inl (ap (λ (e : Exit). e.status) is))))
of_end x ends.Host is none = absurd none
of_end x (ends.Disk count) is none = absurd none
of_end x ends.Out is none = absurd none

module _ {E : Type 0} (g : Ghosts E) (path : List ℕ) (old new : HostState) (host : ¬ Rose old.faults new.faults) where
  -- a host that failed counted it
  not_host : (opened : Option E) → HandsOutDisk g.state path old new (handed opened ends.Host) → opened ≡ None → ⊥
  not_host None hands is = host (hands.asks.cause refl)
  not_host (Some d) hands is = absurd (cc is)

  zero_at : (o : E) (end : FileEnd) → HandsOutDisk g.state path old new (handed (Some o) end) → (g.state o).faults ≡ 0
  zero_at o end hands = hands.no_fault

  init_end : (area : ℕ) (end : FileEnd) (opened disk : Option E) (before after : SinkState) → HandsOutDisk g.state path old new (handed opened end)
      → HandsBack g.state (InitLeaves area) end opened disk → Prints end (made_line area) before after
      → ForSome disk (λ d. ¬ Rose 0 (g.state d).faults) → ¬ Rose before.faults after.faults → IsEndWithoutFault end
  unfolding IsEndWithoutFault
  init_end area ends.Done opened disk before after hands back prints none out = tt
  init_end area (ends.Store fault) opened disk before after hands back prints none out = tt
  init_end area (ends.Full used asked) opened disk before after hands back prints none out = tt
  init_end area (ends.NotEmpty n) opened disk before after hands back prints none out = tt
  init_end area ends.Memory opened disk before after hands back prints none out = tt
  init_end area ends.Out opened disk before after hands back prints none out = out prints.rose
  init_end area ends.Host None disk before after hands back prints none out = not_host None hands refl
  init_end area ends.Host (Some o) None before after hands back prints none out = back
  init_end area ends.Host (Some o) (Some d) before after hands back prints none out = back
  init_end area (ends.Disk count) (Some o) (Some d) before after hands back prints none out =
      no_rise g o d (zero_at o (ends.Disk count) hands) (none d refl) (back.0.disk_fault refl)
  init_end area (ends.Disk count) None None before after hands back prints none out = back
  init_end area (ends.Disk count) None (Some d) before after hands back prints none out = back
  init_end area (ends.Disk count) (Some o) None before after hands back prints none out = back

  check_end : (n : Numbers) (text : List ℕ) (end : FileEnd) (opened disk : Option E) (before after : SinkState) → HandsOutDisk g.state path old new (handed opened end)
      → HandsBack g.state (CheckLeaves n) end opened disk → Prints end text before after
      → ForSome disk (λ d. ¬ Rose 0 (g.state d).faults) → ¬ Rose before.faults after.faults → IsEndWithoutFault end
  unfolding IsEndWithoutFault
  check_end n text ends.Done opened disk before after hands back prints none out = tt
  check_end n text (ends.Store fault) opened disk before after hands back prints none out = tt
  check_end n text (ends.Full used asked) opened disk before after hands back prints none out = tt
  check_end n text (ends.NotEmpty k) opened disk before after hands back prints none out = tt
  check_end n text ends.Memory opened disk before after hands back prints none out = tt
  check_end n text ends.Out opened disk before after hands back prints none out = out prints.rose
  check_end n text ends.Host None disk before after hands back prints none out = not_host None hands refl
  check_end n text ends.Host (Some o) None before after hands back prints none out = back
  check_end n text ends.Host (Some o) (Some d) before after hands back prints none out = back
  check_end n text (ends.Disk count) (Some o) (Some d) before after hands back prints none out =
      no_rise g o d (zero_at o (ends.Disk count) hands) (none d refl) (back.0.disk_fault refl)
  check_end n text (ends.Disk count) None None before after hands back prints none out = back
  check_end n text (ends.Disk count) None (Some d) before after hands back prints none out = back
  check_end n text (ends.Disk count) (Some o) None before after hands back prints none out = back

  -- a file that was written anew, or that was refused
  module _ {R : Type 0} (Does : DiskState → DiskState → Result R RewriteFault → Type 0)
      (rises : (s t : DiskState) → Does s t (Err (rewrites.Store stores.DiskFault)) → Rose s.faults t.faults) where
    rewrite_end : (done : R) (text : List ℕ) (end : FileEnd) (opened disk : Option E) (before after : SinkState) → HandsOutDisk g.state path old new (handed opened end)
        → HandsBack g.state (RewriteLeaves Does done) end opened disk → Prints end text before after
        → ForSome disk (λ d. ¬ Rose 0 (g.state d).faults) → ¬ Rose before.faults after.faults → IsEndWithoutFault end
    unfolding IsEndWithoutFault
    rewrite_end n text ends.Done opened disk before after hands back prints none out = tt
    rewrite_end n text (ends.Store fault) opened disk before after hands back prints none out = tt
    rewrite_end n text (ends.Full used asked) opened disk before after hands back prints none out = tt
    rewrite_end n text (ends.NotEmpty k) opened disk before after hands back prints none out = tt
    rewrite_end n text ends.Memory opened disk before after hands back prints none out = tt
    rewrite_end n text ends.Out opened disk before after hands back prints none out = out prints.rose
    rewrite_end n text ends.Host None disk before after hands back prints none out = not_host None hands refl
    rewrite_end n text ends.Host (Some o) None before after hands back prints none out = back
    rewrite_end n text ends.Host (Some o) (Some d) before after hands back prints none out = back
    rewrite_end n text (ends.Disk count) (Some o) (Some d) before after hands back prints none out =
        no_rise g o d (zero_at o (ends.Disk count) hands) (none d refl) (rises (g.state o) (g.state d) back.0)
    rewrite_end n text (ends.Disk count) None None before after hands back prints none out = back
    rewrite_end n text (ends.Disk count) None (Some d) before after hands back prints none out = back
    rewrite_end n text (ends.Disk count) (Some o) None before after hands back prints none out = back

-- a text was printed, or the sink counted a fault
printed : (end : FileEnd) → IsOfPrinting end → (text : List ℕ) (before after : SinkState) → Prints end text before after
    → ¬ Rose before.faults after.faults → IsEndWithoutFault end
unfolding IsEndWithoutFault
printed ends.Done of text before after prints out = tt
printed ends.Out of text before after prints out = out prints.rose
printed ends.Host of text before after prints out = of
printed ends.Memory of text before after prints out = tt
printed (ends.Disk count) of text before after prints out = of
printed (ends.Store fault) of text before after prints out = tt
printed (ends.Full used asked) of text before after prints out = tt
printed (ends.NotEmpty n) of text before after prints out = tt

of_command : {E T : Type 0} (v : Views E T) (command : Command) (offers : Offered) (before after : World) (run : Left E T)
    → RanAs v command offers before after run → CountsNoFault v before after run → IsFaultless run
of_command v (Answer command) offers before after run ran none =
    of_answer v command offers before.host after.host run.exit run.opened run.disk run.begun run.link run.end run.past ran.0
    none.host none.disk none.link
of_command v (Init command) offers before after run ran none =
    no_turns run ran.no_link
    (of_end run.exit ran.end ran.exit (init_end v.disk command.file before.host after.host none.host command.area ran.end run.opened run.disk
    before.out after.out ran.host ran.file ran.out none.disk none.out))
of_command v (Check file) offers before after run ran none =
    no_turns run ran.no_link
    (of_end run.exit ran.end ran.exit (check_end v.disk file before.host after.host none.host ran.checks.numbers _ ran.end run.opened run.disk
    before.out after.out ran.host ran.checks.file ran.checks.out none.disk none.out))
of_command v (Compact file) offers before after run ran none =
    no_turns run ran.no_link
    (of_end run.exit ran.end ran.exit (rewrite_end v.disk file before.host after.host none.host Compacts (λ s t does. does.0) ran.rewrites.done _ ran.end run.opened run.disk
    before.out after.out ran.host ran.rewrites.file ran.rewrites.out none.disk none.out))
of_command v (Migrate file) offers before after run ran none =
    no_turns run ran.no_link
    (of_end run.exit ran.end ran.exit (rewrite_end v.disk file before.host after.host none.host Migrates (λ s t does. does.0) ran.rewrites.done _ ran.end run.opened run.disk
    before.out after.out ran.host ran.rewrites.file ran.rewrites.out none.disk none.out))
of_command v (Help topic) offers before after run ran none =
    no_turns run ran.no_link (of_end run.exit ran.end ran.exit (printed ran.end ran.of_printing ran.text before.out after.out ran.out none.out))

of_early : {E T : Type 0} (words : List (List ℕ)) (before after : World) (run : Left E T) → EndsEarly words before after run
    → IsFaultless run
of_early words before after run early = no_turns run early.no_link (by early.exit)
  where
    by : ((run.exit.status ≡ 2) × IsWords run.exit.note × ¬ IsCommand words) ⊎ (run.exit ≡ exit 4 notes.Memory)
        → IsWithoutFault run.exit.status
    by (inl invalid) = inr (inl invalid.0)
    by (inr memory) = inr (inr (inr (inl (ap (λ (e : Exit). e.status) memory))))

pub complete : {E T : Type 0} (v : Views E T) (words : List (List ℕ)) (offers : Offered) (before after : World) (run : Left E T)
    → IsRunOf v words offers before after run → CountsNoFault v before after run → IsFaultless run
complete v words offers before after run (inl ran) none = of_command v ran.command offers before after run ran.ran none
complete v words offers before after run (inr early) none = of_early words before after run early
