-- What a run of `answer` leaves at each of its ends.
use Rattle.std.proofs.Common.{◌≡◌, ◌⊎◌, inl, inr, ℕ, ◌≤◌, ◌+◌, List, [], ◌∷◌, Option, None, Some, IfSome, Result, Ok, Err, refl, sym, ap, ◌∙◌, subst, arith}
use Rattle.base_core.specs.Causes.{Rose}
use Rattle.disk_core.specs.Disk.{DiskState}
use Rattle.disk_core.specs.declared.disk.Disk.{Ghosts}
use Rattle.command_line.specs.Command.{AnswerCommand}
use Rattle.doip_segment.specs.declared.outcome.Limits.{Limits}
use Rattle.ext_ops.specs.Offered.{Offered}
use Rattle.journal_core.specs.declared.journal.Journal.{Journal}
use Rattle.link_core.specs.Host.{CallCounts, HandsOut, HandsOutConsole, Holdings, HostState, IsFresh, IsNew, TakesFirst, asked_console, asked_disk, asked_file, with_consoles}
use Rattle.link_core.specs.Link.{LinkState}
use Rattle.link_core.specs.declared.host.HostFault.{HostFault}
use Rattle.repo_state.specs.Contents.{Contents}
use Rattle.repo_step.specs.Setting.{Setting, state}
use Rattle.repo_step.specs.History.{Entry, session_pairs}
use Rattle.repo_store.specs.Files.{LawOfFiles, RanOver, IsDiskless, TurnsTaken, turns_taken}
use Rattle.repo_store.specs.Opening.{Opens}
use Rattle.repo_store.specs.Saved.{disk_in, room_in}
use Rattle.repo_store.specs.Store.{Seen, seen, state_in}
use Rattle.session_core.specs.declared.end.SessionEnd.{SessionEnd}
use Rattle.session_core.specs.declared.end.SessionEnd.TheVariants.{Ended, Cut, Framing, ReadFault, WriteFault}
use Rattle.session_core.specs.Session.{Conversation, EndsSo}
use Rattle.repo_top.specs.declared.outcome.NoSession.{NoSession}
use Rattle.repo_top.specs.AccountsFile.{AsksOnce}
use Rattle.repo_top.specs.Answer.{AnswerAsks, CalledFor, CalledOnce, IsBegun, IsServed, LeavesDisk, RanAnswer, consoles_left, holdings_left}
use Rattle.repo_top.specs.Run.{Counted, Exit, Left, Views, exit_of_session, exit_without_session, left, status_at}
use Rattle.repo_top.specs.Session.{IsPast, LeavesStore}
use Rattle.repo_top.specs.Start.{AsksForDisk, HasAccounts, HasNoStart, HasReason, HasStarted, IsLeftAlone, IsOfStore, IsOpened, Starts, files_left, reason_of_host}
use Rattle.repo_top.proofs.StartLemmas.{host_reason, not_of_host}

-- ---- what was asked of the host

file_asked : (path : Option (List ℕ)) (old a : CallCounts) → AsksOnce path old a → CalledFor path old.file a.file
file_asked None old a asks = ap (λ c. c.file) asks
file_asked (Some path) old a (inl e) = inl (ap (λ c. c.file) e)
file_asked (Some path) old a (inr e) = inr (ap (λ c. c.file) e)

file_others : (count : CallCounts → ℕ) → ((c : CallCounts) → count (asked_file c) ≡ count c) → (path : Option (List ℕ))
    (old a : CallCounts) → AsksOnce path old a → count a ≡ count old
file_others count keeps None old a asks = ap count asks
file_others count keeps (Some path) old a (inl e) = ap count e
file_others count keeps (Some path) old a (inr e) = ap count e ∙ keeps old

disk_asked : (path : Option (List ℕ)) (a b : CallCounts) → AsksForDisk path a b → CalledFor path a.disk b.disk
disk_asked None a b asks = ap (λ c. c.disk) asks
disk_asked (Some path) a b (inl e) = inl (ap (λ c. c.disk) e)
disk_asked (Some path) a b (inr e) = inr (ap (λ c. c.disk) e)

disk_others : (count : CallCounts → ℕ) → ((c : CallCounts) → count (asked_disk c) ≡ count c) → (path : Option (List ℕ))
    (a b : CallCounts) → AsksForDisk path a b → count b ≡ count a
disk_others count keeps None a b asks = ap count asks
disk_others count keeps (Some path) a b (inl e) = ap count e
disk_others count keeps (Some path) a b (inr e) = ap count e ∙ keeps a

called_for : (path : Option (List ℕ)) (o m n k : ℕ) → CalledFor path m n → m ≡ o → k ≡ n → CalledFor path o k
called_for path o m n k called is same = subst (λ (x : ℕ). CalledFor path x k) is (subst (λ (x : ℕ). CalledFor path m x) (sym same) called)

-- the console was asked for once, or not
abbrev AsksConsole : CallCounts → CallCounts → Type 0
AsksConsole b new = (new ≡ b) ⊎ (new ≡ asked_console b)

console_asked : (b new : CallCounts) → AsksConsole b new → CalledOnce b.console new.console
console_asked b new (inl e) = inl (ap (λ c. c.console) e)
console_asked b new (inr e) = inr (ap (λ c. c.console) e)

console_others : (count : CallCounts → ℕ) → ((c : CallCounts) → count (asked_console c) ≡ count c) → (b new : CallCounts)
    → AsksConsole b new → count new ≡ count b
console_others count keeps b new (inl e) = ap count e
console_others count keeps b new (inr e) = ap count e ∙ keeps b

once_at : (o m n : ℕ) → CalledOnce m n → m ≡ o → CalledOnce o n
once_at o m n called is = subst (λ (x : ℕ). CalledOnce x n) is called

-- what is held after a start, and after no console or one
none_held : (E T : Type 0) (path : Option (List ℕ)) (opened : Option E) (h : Holdings)
    → holdings_left {E = E} {T = T} path opened None h ≡ files_left path opened h
none_held E T None None h = refl
none_held E T None (Some d) h = refl
none_held E T (Some path) None h = refl
none_held E T (Some path) (Some d) h = refl

consoles_of : {E : Type 0} (path : Option (List ℕ)) (opened : Option E) (h : Holdings) → (files_left path opened h).consoles ≡ h.consoles
consoles_of None None h = refl
consoles_of None (Some d) h = refl
consoles_of (Some path) None h = refl
consoles_of (Some path) (Some d) h = refl

-- what the host did with the consoles that it held
consoles_at : {T : Type 0} (look : T → LinkState) (mid new : HostState) (k : Holdings) (result : Result T HostFault) → mid.holds ≡ Some k
    → HandsOutConsole look mid new result
    → HandsOut (λ bytes link. IsNew bytes (look link)) k.consoles (λ rest. new.holds ≡ Some (with_consoles rest k)) result
consoles_at look mid new k result is hands =
    subst (λ (o : Option Holdings). IfSome o (λ h. HandsOut (λ bytes link. IsNew bytes (look link)) h.consoles (λ rest. new.holds ≡ Some (with_consoles rest h)) result)) is hands.first

-- the console that was handed out is the first, and the others are left
takes : {T : Type 0} (state : T → LinkState) (consoles : List (List ℕ)) (Left : List (List ℕ) → Type 0) (begun : T)
    → TakesFirst (λ bytes link. IsNew bytes (state link)) consoles Left begun → Left (consoles_left (Some begun) consoles)
takes state [] Left begun t = absurd t
takes state (first ∷ others) Left begun t = t.1

takes_first : {T : Type 0} (state : T → LinkState) (consoles : List (List ℕ)) (Left : List (List ℕ) → Type 0) (begun : T) (input : List ℕ)
    (others : List (List ℕ)) → consoles ≡ input ∷ others
    → TakesFirst (λ bytes link. IsNew bytes (state link)) consoles Left begun → IsNew input (state begun)
takes_first state [] Left begun input others is t = absurd t
takes_first state (first ∷ rest) Left begun input others is t = subst (λ (b : List ℕ). IsNew b (state begun)) (cc is) t.0

module _ {E T : Type 0} (state : E → DiskState) (command : AnswerCommand) (old mid new : HostState) (run : Left E T) where
  -- what was asked in all, from what the start asked and what was asked of the console
  asked : Starts state command old mid run.opened → AsksConsole mid.calls new.calls
      → Counted old.handed.links new.handed.links run.link → Counted old.handed.disks new.handed.disks run.disk
      → new.handed.listeners ≡ mid.handed.listeners → mid.faults ≤ new.faults
      → ((h : Holdings) → old.holds ≡ Some h → new.holds ≡ Some (holdings_left command.store run.opened run.begun h))
      → AnswerAsks command old new run
  asked starts console links disks listeners later holds = record {
    links = links;
    disks = disks;
    listeners = listeners ∙ starts.listeners;
    console = once_at old.calls.console mid.calls.console new.calls.console (console_asked mid.calls new.calls console)
        (disk_others (λ c. c.console) (λ c. refl) command.store starts.between mid.calls starts.disk
        ∙ file_others (λ c. c.console) (λ c. refl) command.accounts old.calls starts.between starts.file);
    file = called_for command.accounts old.calls.file old.calls.file starts.between.file new.calls.file
        (file_asked command.accounts old.calls starts.between starts.file) refl
        (console_others (λ c. c.file) (λ c. refl) mid.calls new.calls console
        ∙ disk_others (λ c. c.file) (λ c. refl) command.store starts.between mid.calls starts.disk);
    disk = called_for command.store old.calls.disk starts.between.disk mid.calls.disk new.calls.disk
        (disk_asked command.store starts.between mid.calls starts.disk)
        (file_others (λ c. c.disk) (λ c. refl) command.accounts old.calls starts.between starts.file)
        (console_others (λ c. c.disk) (λ c. refl) mid.calls new.calls console);
    listen = console_others (λ c. c.listen) (λ c. refl) mid.calls new.calls console
        ∙ (disk_others (λ c. c.listen) (λ c. refl) command.store starts.between mid.calls starts.disk
        ∙ file_others (λ c. c.listen) (λ c. refl) command.accounts old.calls starts.between starts.file);
    dial = console_others (λ c. c.dial) (λ c. refl) mid.calls new.calls console
        ∙ (disk_others (λ c. c.dial) (λ c. refl) command.store starts.between mid.calls starts.disk
        ∙ file_others (λ c. c.dial) (λ c. refl) command.accounts old.calls starts.between starts.file);
    later = omega (arith, starts.later, later);
    holds = holds;
  }

-- ---- a run without a session

none_begun : {T : Type 0} (state : T → LinkState) (holds : Option Holdings) → IsBegun state holds None
none_begun state holds = record {
  fresh = λ link is. absurd (cc);
  first = λ h input others held consoles link is. absurd (cc);
}

-- the parts of a run that has no session
record Parts (E T : Type 0) : Type 0 where
  exit : Exit
  opened : Option E
  disk : Option E
  begun : Option T
  link : Option T
  end : Option SessionEnd
  past : List Entry

abbrev run_of : {E T : Type 0} → Parts E T → Left E T
run_of p = left p.exit p.opened p.disk p.begun p.link p.end p.past

abbrev parts : {E T : Type 0} → Exit → Option E → Option E → Option T → Option T → Option SessionEnd → List Entry
    → Parts E T
parts exit opened disk begun link end past =
    record { exit = exit; opened = opened; disk = disk; begun = begun; link = link; end = end; past = past }

abbrev alone : {E T : Type 0} → Exit → Option E → Option E → Left E T
alone x opened disk = left x opened disk None None None []

-- A run without a session, whose disk is one or none.
early : {E T : Type 0} (v : Views E T) (command : AnswerCommand) (offers : Offered) (old new : HostState) (x : Exit)
    (opened disk at_opened at_disk : Option E) (begun link : Option T) (end : Option SessionEnd) (past : List Entry)
    (reason : NoSession) → x ≡ exit_without_session reason
    → opened ≡ at_opened → disk ≡ at_disk → begun ≡ None → link ≡ None → end ≡ None → past ≡ []
    → HasReason v.disk.state command old new at_opened at_disk reason → (IsOfStore reason → HasAccounts command old.holds)
    → IsLeftAlone v.disk.state at_opened at_disk → IsOpened v.disk.state command.store old.holds at_opened
    → AnswerAsks command old new (alone {E = E} {T = T} x at_opened at_disk)
    → RanAnswer v command offers old new (left x opened disk begun link end past)
early {E} {T} v command offers old new x opened disk at_opened at_disk begun link end past reason is p q r s t u has accounts left_alone is_opened asks =
    subst (λ (w : Parts E T). RanAnswer v command offers old new (run_of w))
    (λ i. parts x (sym p i) (sym q i) (sym r i) (sym s i) (sym t i) (sym u i)) (record {
      session = record { reason = reason; exit = is; has = has; accounts = accounts; past = refl; disk = left_alone };
      stored = λ there. absurd (cc);
      opened = is_opened;
      begun = none_begun v.link old.holds;
      asks = asks;
    })

-- the disk that is handed back stands for the one that was handed out
pub counted_back : {E : Type 0} (before now : ℕ) (state : E → DiskState) (opened disk : Option E) → IsLeftAlone state opened disk → Counted before now opened
    → Counted before now disk
counted_back before now state (Some x) (Some y) alone counted = counted
counted_back before now state None None alone counted = counted
counted_back before now state (Some x) None alone counted = absurd alone
counted_back before now state None (Some y) alone counted = absurd alone

-- a start that ended early
pub not_started : {E T : Type 0} (v : Views E T) (command : AnswerCommand) (offers : Offered) (old new : HostState) (x : Exit)
    (opened disk at_opened at_disk : Option E) (begun link : Option T) (end : Option SessionEnd) (past : List Entry)
    (reason : NoSession) → x ≡ exit_without_session reason
    → opened ≡ at_opened → disk ≡ at_disk → begun ≡ None → link ≡ None → end ≡ None → past ≡ []
    → HasNoStart v.disk.state command old new at_opened at_disk reason
    → RanAnswer v command offers old new (left x opened disk begun link end past)
not_started {E} {T} v command offers old new x opened disk at_opened at_disk begun link end past reason is p q r s t u start =
    early v command offers old new x opened disk at_opened at_disk begun link end past reason is p q r s t u start.has start.accounts start.alone
    start.starts.handed
    (asked v.disk.state command old new new (alone {E = E} {T = T} x at_opened at_disk) start.starts (inl refl) start.starts.links
    (counted_back old.handed.disks new.handed.disks v.disk.state at_opened at_disk start.alone start.starts.disks) refl (omega arith)
    (λ h held. start.starts.holds h held ∙ ap Some (sym (none_held E T command.store at_opened h))))

-- a store was opened, and the host handed no console out
pub no_console : {E T : Type 0} (v : Views E T) (command : AnswerCommand) (offers : Offered) (old mid new : HostState) (x : Exit)
    (opened disk at_opened at_disk : Option E) (begun link : Option T) (end : Option SessionEnd) (past : List Entry)
    (reason : NoSession) (fault : HostFault) → reason ≡ reason_of_host fault → x ≡ exit_without_session reason
    → opened ≡ at_opened → disk ≡ at_disk → begun ≡ None → link ≡ None → end ≡ None → past ≡ []
    → Starts v.disk.state command old mid at_opened → HandsOutConsole v.link mid new (Err fault)
    → IsLeftAlone v.disk.state at_opened at_disk
    → RanAnswer v command offers old new (left x opened disk begun link end past)
no_console {E} {T} v command offers old mid new x opened disk at_opened at_disk begun link end past reason fault why is p q r s t u start hands left_alone =
    let same : exit_without_session reason ≡ exit_without_session (reason_of_host fault) = ap exit_without_session why in
    early v command offers old new x opened disk at_opened at_disk begun link end past (reason_of_host fault) (is ∙ same) p q r s t u
    (host_reason v.disk.state command old mid new at_opened at_disk fault start.later (λ failed. hands.asks.cause (ap Err failed)))
    (λ of. absurd (not_of_host fault of)) left_alone start.handed
    (asked v.disk.state command old mid new (alone {E = E} {T = T} x at_opened at_disk) start (inr hands.asks.calls)
    (hands.link.links ∙ start.links)
    (subst (λ (n : ℕ). Counted old.handed.disks n at_disk) (sym hands.link.disks)
    (counted_back old.handed.disks mid.handed.disks v.disk.state at_opened at_disk left_alone start.disks))
    hands.link.listeners hands.asks.later
    (λ h held. consoles_at v.link mid new (files_left command.store at_opened h) (Err fault) (start.holds h held) hands
    ∙ ap Some (sym (none_held E T command.store at_opened h))))

module _ {D : Type 0} (g : Ghosts D) where
  -- an opening leaves the disk alone
  pub opened_alone : (disk : Option D) (j : Option (Journal D g)) (c : Contents) → Opens disk j c → IsLeftAlone g.state disk (disk_in j)
  opened_alone None None c opened = tt
  opened_alone None (Some j) c opened = absurd (cc opened.0)
  opened_alone (Some disk) None c opened = absurd opened
  opened_alone (Some disk) (Some j) c opened = opened.alone

  -- what a session leaves of the disk of its store
  leaves_disk : LawOfFiles g → (disk : Option D) (j : Option (Journal D g)) (c : Contents) (cl : Option ℕ) (given : Option (List ℕ)) (setting : Setting)
      (past : List Entry) (back : Option D) (closed : Option ℕ) → Opens disk j c → cl ≡ None
      → LeavesStore setting (seen j c cl given) past back closed
      → LeavesDisk g disk back (turns_taken setting (state c (room_in j)) past closed)
  leaves_disk law disk j c (Some n) given setting past back closed opened none left = absurd (cc none)
  leaves_disk law None (Some j) c None given setting past back closed opened none left = absurd (cc opened.0)
  leaves_disk law (Some disk) None c None given setting past back closed opened none left = absurd opened
  leaves_disk law None None c None given setting past back closed opened none left =
      let on = law.without c given setting left.last past left.runs in
      let turns : Option ℕ → TurnsTaken = λ (n : Option ℕ). turns_taken setting (state c None) past n in
      subst (λ (o : Option D). LeavesDisk g None o (turns closed)) (sym (left.disk_is ∙ on.0))
      (ap (λ (d : Contents). state d None) opened.1, subst (λ (n : Option ℕ). IsDiskless (turns n)) (sym left.closed_is) on.1)
  leaves_disk law (Some disk) (Some j) c None given setting past back closed opened none left =
      let on = law.over disk j c given setting left.last past opened left.runs in
      let turns : Option ℕ → TurnsTaken = λ (n : Option ℕ). turns_taken setting (state c (room_in (Some j))) past n in
      subst (λ (o : Option D). LeavesDisk g (Some disk) o (turns closed)) (sym (left.disk_is ∙ on.1))
      (subst (λ (n : Option ℕ). RanOver (g.state disk) (g.state on.0) (turns n)) (sym left.closed_is) on.2)

-- status 7 comes at a fault of the link alone
rose_at : (limits : Limits) (x : Conversation) (at_end rose : Type 0) (end : SessionEnd) → status_at end ≡ 7
    → EndsSo limits x at_end rose end → rose
rose_at limits x at_end rose Ended seven h = absurd (omega (arith, seven))
rose_at limits x at_end rose (Cut place) seven h = absurd (omega (arith, seven))
rose_at limits x at_end rose (Framing place reason) seven h = absurd (omega (arith, seven))
rose_at limits x at_end rose ReadFault seven h = h.2
rose_at limits x at_end rose WriteFault seven h = h.0

link_fault : (limits : Limits) (x : Conversation) (at_end rose : Type 0) (closed : Option ℕ) (end : SessionEnd)
    → (exit_of_session closed end).status ≡ 7 → EndsSo limits x at_end rose end → rose
link_fault limits x at_end rose None end seven h = rose_at limits x at_end rose end seven h
link_fault limits x at_end rose (Some count) end seven h = absurd (omega (arith, seven))

-- the console that was handed out is one, and counted
begun_at : {T : Type 0} (look : T → LinkState) (mid new : HostState) (holds : Option Holdings) (begun : T)
    → ((h : Holdings) → holds ≡ Some h → (k : Holdings) × (mid.holds ≡ Some k) × (k.consoles ≡ h.consoles))
    → HandsOutConsole look mid new (Ok begun) → IsBegun look holds (Some begun)
begun_at look mid new holds begun held hands = record {
  fresh = λ link is. subst (λ l. IsFresh (look l)) (cc is) hands.link.fresh;
  first = λ h input others is consoles link at.
      let k = held h is in
      subst (λ l. IsNew input (look l)) (cc at)
      (takes_first look k.0.consoles _ begun input others (k.2 ∙ consoles) (consoles_at look mid new k.0 (Ok begun) k.1 hands));
}

-- the disk that a session hands back stands for the one that was handed out
disks_back : {E : Type 0} (g : Ghosts E) (opened disk : Option E) (turns : TurnsTaken) → LeavesDisk g opened disk turns
    → (o m n : ℕ) → Counted o m opened → n ≡ m → Counted o n disk
disks_back g (Some a) (Some b) turns on o m n counted is = is ∙ counted
disks_back g None None turns on o m n counted is = is ∙ counted
disks_back g (Some a) None turns on o m n counted is = absurd on
disks_back g None (Some b) turns on o m n counted is = absurd on

-- A store was opened, a console handed out, and a session served on it.
with_session : {E T : Type 0} (v : Views E T) (command : AnswerCommand) (offers : Offered) (old mid new : HostState)
    (x : Exit) (opened disk : Option E) (begun link : T) (end : SessionEnd) (past : List Entry) (first : Seen E v.disk)
    (setting : Setting) (limits : Limits) (closed : Option ℕ) → x ≡ exit_of_session closed end
    → HasStarted {g = v.disk} command offers old mid opened first setting limits
    → HandsOutConsole v.link mid new (Ok begun) → LawOfFiles v.disk
    → IsPast setting (state_in first) 0 0 past → LeavesStore setting first past disk closed
    → IsServed limits (session_pairs setting (state_in first) 0 0 past) (v.link begun) (v.link link) end
    → RanAnswer v command offers old new (left x opened disk (Some begun) (Some link) (Some end) past)
with_session {E} {T} v command offers old mid new x opened disk begun link end past first setting limits closed is started hands law is_past leaves served =
    let fresh = hands.link.fresh in
    let turns : TurnsTaken = turns_taken setting (state_in first) past closed in
    let run : Left E T = left x opened disk (Some begun) (Some link) (Some end) past in
    let on : LeavesDisk v.disk opened disk turns =
    leaves_disk v.disk law opened first.journal first.contents first.closed first.given setting past disk closed started.opens started.not_closed leaves in
    let start = started.starts in
    record {
      session = record {
        turns = turns;
        limits = limits;
        set_up = started.set_up;
        history = refl;
        past = is_past;
        served = served;
        disk = on;
        chain = record { begun = first; opens = started.opens; not_closed = started.not_closed; first = refl; leaves = leaves };
        exit = is;
        link_fault = λ seven. subst (λ (n : ℕ). Rose n (v.link link).faults) fresh.no_fault
            (link_fault limits served.served.conversation _ _ closed end (ap (λ (e : Exit). e.status) (sym is) ∙ seven) served.served.ends);
      };
      stored = λ there. sym started.there;
      opened = start.handed;
      begun = begun_at v.link mid new old.holds begun (λ h held. (files_left command.store opened h, start.holds h held, consoles_of command.store opened h)) hands;
      asks = asked v.disk.state command old mid new run start (inr hands.asks.calls)
          (hands.link.links ∙ ap (λ (n : ℕ). n + 1) start.links)
          (disks_back v.disk opened disk turns on _ _ _ start.disks hands.link.disks)
          hands.link.listeners hands.asks.later
          (λ h held. let k = files_left command.store opened h in
          takes v.link k.consoles (λ rest. new.holds ≡ Some (with_consoles rest k)) begun (consoles_at v.link mid new k (Ok begun) (start.holds h held) hands)
          ∙ ap (λ (c : List (List ℕ)). Some (with_consoles (consoles_left (Some begun) c) k)) (consoles_of command.store opened h));
    }

-- the same, by the link as the run names it
pub ran_session : {E T : Type 0} (v : Views E T) (command : AnswerCommand) (offers : Offered) (old mid new : HostState)
    (x : Exit) (opened disk : Option E) (shown begun link : T) (end : SessionEnd) (past : List Entry) (first : Seen E v.disk)
    (setting : Setting) (limits : Limits) (closed : Option ℕ) → shown ≡ begun → x ≡ exit_of_session closed end
    → HasStarted {g = v.disk} command offers old mid opened first setting limits
    → HandsOutConsole v.link mid new (Ok begun) → LawOfFiles v.disk
    → IsPast setting (state_in first) 0 0 past → LeavesStore setting first past disk closed
    → IsServed limits (session_pairs setting (state_in first) 0 0 past) (v.link begun) (v.link link) end
    → RanAnswer v command offers old new (left x opened disk (Some shown) (Some link) (Some end) past)
ran_session {E} {T} v command offers old mid new x opened disk shown begun link end past first setting limits closed same is started hands law is_past leaves served =
    subst (λ (b : T). RanAnswer v command offers old new (left x opened disk (Some b) (Some link) (Some end) past)) (sym same)
    (with_session v command offers old mid new x opened disk begun link end past first setting limits closed is started hands law is_past leaves served)
