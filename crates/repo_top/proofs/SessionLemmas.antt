-- The history of the session of a run, turn by turn.
use Rattle.std.proofs.Common.{◌≡◌, ◌≢◌, ℕ, List, [], ◌∷◌, ◌++◌, map, get_or, Bool, true, false, if◌then◌else◌, Option, refl, sym, ap, ◌∙◌, subst, arith, eq-eqb}
use Rattle.std.specs.List.{AllByRecursion}
use Rattle.std.specs.Option.{ForSome}
use Rattle.disk_core.specs.declared.disk.Disk.{Ghosts}
use Rattle.doip_segment.specs.Segments.{Segment}
use Rattle.doip_message.specs.Fixed.{memory_reply, disk_reply, closed_reply}
use Rattle.doip_message.specs.Pairs.{pair}
use Rattle.doip_message.specs.Reply.{Replied, reply_text}
use Rattle.history_lock.proofs.Histories.{runs_snoc}
use Rattle.repo_step.specs.declared.brought.Brought.{Brought}
use Rattle.repo_step.specs.declared.outcome.Outcome.{Outcome}
use Rattle.repo_step.specs.declared.outcome.Outcome.TheVariants.{Done, NoMemory, DiskFault, Closed}
use Rattle.repo_step.specs.Setting.{Setting, State}
use Rattle.repo_step.specs.Step.{step}
use Rattle.repo_step.specs.History.{Entry, Exchange, after, exchange_of, exchanges_of, is_of, reply, reply_with, session_pairs, state_of, step_of}
use Rattle.repo_step.specs.Laws.{IsNoFixedText}
use Rattle.repo_step.proofs.Histories.{pairs_more}
use Rattle.repo_store.specs.Law.{GivesTimes, IsTurn}
use Rattle.repo_store.specs.Store.{Seen, Turns, entry_of, state_in}
use Rattle.repo_top.specs.Session.{HasItsCause, HasTimesOf, IsReady, Seat}

all_more : {X : Type 0} (P : X → Type 0) (xs : List X) (x : X) → AllByRecursion P xs → P x
    → AllByRecursion P (xs ++ x ∷ [])
all_more P [] x all one = (one, tt)
all_more P (y ∷ xs) x all one = (all.0, all_more P xs x all.1 one)

own : (lane session : ℕ) (message : List Segment) (outcome : Outcome) (moment : ℕ) (brought : Brought)
    → is_of lane session (entry_of lane session message outcome moment brought) ≡ true
own lane session message outcome moment brought = rw (eq-eqb lane lane refl, eq-eqb session session refl) refl

module _ {D : Type 0} (g : Ghosts D) where
  -- a store after one turn more of its session
  pub ready_more : (setting : Setting) (first mid now : Seen D g) (lane session : ℕ) (es : List Entry)
      (message : List Segment) (outcome : Outcome) (moment : ℕ) (brought : Brought) (text : List ℕ)
      → IsReady setting first lane session es mid
      → Turns setting mid (entry_of lane session message outcome moment brought) text now
      → IsReady setting first lane session (es ++ entry_of lane session message outcome moment brought ∷ []) now
  ready_more setting first mid now lane session es message outcome moment brought text ready turns = record {
    runs = runs_snoc (IsTurn setting) first es mid (entry_of lane session message outcome moment brought) now ready.runs
        (text, turns);
    no_other = all_more _ es (entry_of lane session message outcome moment brought) ready.no_other
        (own lane session message outcome moment brought);
  }

  -- what IsReady speaks of
  record Kept : Type 0 where
    at : Seat g
    past : List Entry
    now : Seen D g

  abbrev kept : Seat g → List Entry → Seen D g → Kept
  kept at past now = record { at = at; past = past; now = now }

  abbrev pub seat : Setting → Seen D g → ℕ → ℕ → Seat g
  seat setting first lane session = record { setting = setting; first = first; lane = lane; session = session }

  pub same_seat : (a b : Setting) (m n : Seen D g) (c d s t : ℕ) → a ≡ b → m ≡ n → c ≡ d → s ≡ t → seat a m c s ≡ seat b n d t
  same_seat a b m n c d s t p q r k = λ i. seat (p i) (q i) (r i) (k i)

  -- a store before its session
  pub ready_first : (setting : Setting) (first now : Seen D g) (lane session : ℕ) (es : List Entry) → es ≡ [] → first ≡ now
      → IsReady setting first lane session es now
  ready_first setting first now lane session [] is same = record { runs = same; no_other = tt }
  ready_first setting first now lane session (e ∷ es) is same = absurd (cc is)

  -- the same of equal parts
  pub ready_at : (a b : Seat g) (es fs : List Entry) (m n : Seen D g) → b ≡ a → fs ≡ es → n ≡ m
      → IsReady a.setting a.first a.lane a.session es m → IsReady b.setting b.first b.lane b.session fs n
  ready_at a b es fs m n p q r ready =
      subst (λ (x : Kept). IsReady x.at.setting x.at.first x.at.lane x.at.session x.past x.now)
      (λ i. kept (sym p i) (sym q i) (sym r i)) ready

  pub pairs_at : (a b : Seat g) (es fs : List Entry) → b ≡ a → fs ≡ es
      → session_pairs b.setting (state_in b.first) b.lane b.session fs
      ≡ session_pairs a.setting (state_in a.first) a.lane a.session es
  pairs_at a b es fs p q =
      ap (λ (x : Kept). session_pairs x.at.setting (state_in x.at.first) x.at.lane x.at.session x.past)
      (λ i. kept (p i) (q i) a.first)

-- the pair of one turn more
pub pairs_with : (setting : Setting) (first : State) (lane session : ℕ) (es : List Entry) (message : List Segment)
    (outcome : Outcome) (moment : ℕ) (brought : Brought) (text : List ℕ)
    → text ≡ reply_text (reply setting (state_of setting first es) (entry_of lane session message outcome moment brought))
    → session_pairs setting first lane session (es ++ entry_of lane session message outcome moment brought ∷ [])
    ≡ session_pairs setting first lane session es ++ pair message text ∷ []
pairs_with setting first lane session es message outcome moment brought text is =
    pairs_more setting (λ e. e) (is_of lane session) first es (entry_of lane session message outcome moment brought)
    (own lane session message outcome moment brought)
    ∙ ap (λ (t : List ℕ). session_pairs setting first lane session es ++ pair message t ∷ []) (sym is)

-- ---- the cause of each text of the store's own

letter : (p q : Replied) → reply_text p ≡ reply_text q → get_or (reply_text p) 26 0 ≡ get_or (reply_text q) 26 0
letter p q same = ap (λ (w : List ℕ). get_or w 26 0) same

disk_memory : reply_text disk_reply ≢ reply_text memory_reply
disk_memory same = let e : 100 ≡ 119 = letter disk_reply memory_reply same in absurd (omega (arith, e))

closed_memory : reply_text closed_reply ≢ reply_text memory_reply
closed_memory same = let e : 115 ≡ 119 = letter closed_reply memory_reply same in absurd (omega (arith, e))

closed_disk : reply_text closed_reply ≢ reply_text disk_reply
closed_disk same = let e : 115 ≡ 100 = letter closed_reply disk_reply same in absurd (omega (arith, e))

memory_cause : (o : Outcome) (made : Replied) → IsNoFixedText made
    → reply_text (reply_with o made) ≡ reply_text memory_reply → o ≡ NoMemory
memory_cause Done made none same = absurd (none.memory same)
memory_cause NoMemory made none same = refl
memory_cause DiskFault made none same = absurd (disk_memory same)
memory_cause Closed made none same = absurd (closed_memory same)

disk_cause : (o : Outcome) (made : Replied) → IsNoFixedText made
    → reply_text (reply_with o made) ≡ reply_text disk_reply → o ≡ DiskFault
disk_cause Done made none same = absurd (none.disk same)
disk_cause NoMemory made none same = absurd (disk_memory (sym same))
disk_cause DiskFault made none same = refl
disk_cause Closed made none same = absurd (closed_disk same)

closed_cause : (o : Outcome) (made : Replied) → IsNoFixedText made
    → reply_text (reply_with o made) ≡ reply_text closed_reply → o ≡ Closed
closed_cause Done made none same = absurd (none.closed same)
closed_cause NoMemory made none same = absurd (closed_memory (sym same))
closed_cause DiskFault made none same = absurd (closed_disk (sym same))
closed_cause Closed made none same = refl

abbrev NoFixed : Type 0
NoFixed = (setting : Setting) (brought : Brought) (state : State) (message : List Segment)
    → IsNoFixedText (step setting brought state message).reply

its_cause : NoFixed → (setting : Setting) (s : State) (e : Entry) → HasItsCause (exchange_of setting s e)
its_cause none setting s e =
    let made = none setting e.brought s e.message in
    record {
      memory = memory_cause e.outcome (step_of setting s e).reply made;
      disk = disk_cause e.outcome (step_of setting s e).reply made;
      closed = closed_cause e.outcome (step_of setting s e).reply made;
    }

all_if : (b : Bool) (x : Exchange) (xs : List Exchange) → HasItsCause x → AllByRecursion HasItsCause xs
    → AllByRecursion HasItsCause (if b then x ∷ xs else xs)
all_if true x xs one all = (one, all)
all_if false x xs one all = all

pub causes : ((setting : Setting) (brought : Brought) (state : State) (message : List Segment)
    → IsNoFixedText (step setting brought state message).reply) → (setting : Setting) (lane session : ℕ) (s : State)
    (es : List Entry) → AllByRecursion HasItsCause (exchanges_of setting (is_of lane session) s es)
causes none setting lane session s [] = tt
causes none setting lane session s (e ∷ es) =
    all_if (is_of lane session e) (exchange_of setting s e) (exchanges_of setting (is_of lane session) (after setting s e) es)
    (its_cause none setting s e) (causes none setting lane session (after setting s e) es)

-- a clock that had given nothing gave these times alone
pub times_of : (old now : Option (List ℕ)) (es : List Entry) → ForSome old (λ times. times ≡ [])
    → GivesTimes old now (map (λ e. e.brought.time) es) → HasTimesOf now es
times_of old now es unused gives = λ times is.
    let g = gives times is in
    g.2 ∙ ap (λ (before : List ℕ). before ++ map (λ e. e.brought.time) es) (unused g.0 g.1)
