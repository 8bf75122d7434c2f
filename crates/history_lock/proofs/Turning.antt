-- From the slot that was taken to the history that has the turn.
use Rattle.std.proofs.Common.{◌≡◌, ℕ, List, [], ◌∷◌, ◌++◌, ap, sym, subst, ◌∙◌}
use mathlib.Core.List.{map-append}
use Rattle.atomic_table.specs.Table.{Me, rest}
use Rattle.history_lock.specs.declared.board.Entered.{Entered}
use Rattle.history_lock.specs.declared.board.Slot.{Slot}
use Rattle.history_lock.specs.declared.board.View.{View}
use Rattle.history_lock.specs.History.{entered, entries, Leads, Runs}
use Rattle.history_lock.specs.Told.{IsServing}
use Rattle.history_lock.proofs.Histories.{runs_snoc}

-- the slot in hand has the value that the history leaves
pub in_hand : {T E : Type 0} (leads : T → E → T → Type 0) (first : T) (m : Me (Slot T E) (View T E)) (slot : Slot T E) → IsServing leads first m → m.1 ≡ (0, slot) ∷ rest m.1
    → Runs leads first (entries m.0.seen) slot.value × (rest m.1 ≡ [])
in_hand {T} {E} leads first m slot (slot', value', carried, there, runs, come, quiet) now =
    let one : ℕ × Slot T E = (0, slot) in let other : ℕ × Slot T E = (0, slot') in let lists : one ∷ rest m.1 ≡ other ∷ [] = sym now ∙ carried in let pairs : one ≡ other = cc (lists) in
    let values : slot.value ≡ slot'.value = ap (λ (y : ℕ × Slot T E). y.1.value) pairs in let alike : value' ≡ slot.value = sym there ∙ sym values in
    (subst (Runs leads first (entries m.0.seen)) alike runs, ap rest carried)

-- the history with one turn more leaves the value after that turn
pub runs_on : {T C E R : Type 0} (step : T → C → E → R → T → Type 0) (first : T) (seen seen' : List (Entered E)) (k : ℕ) (old : T) (call : C) (e : E) (reply : R) (new : T)
    → Runs (Leads step) first (entries seen) old → step old call e reply new → seen' ≡ seen → Runs (Leads step) first (entries (seen' ++ entered k e ∷ [])) new
runs_on step first seen seen' k old call e reply new runs turn same =
    subst (λ es. Runs (Leads step) first es new) (sym (map-append (λ t. t.entry) seen' (entered k e ∷ [])))
    (subst (λ es. Runs (Leads step) first es new) (λ i. entries (sym same i) ++ e ∷ []) (runs_snoc (Leads step) first (entries seen) old e new runs (call, reply, turn)))

-- a step is one of values that are equal to its own
pub alike : {T C E R : Type 0} (step : T → C → E → R → T → Type 0) {old old' : T} {call call' : C} {e : E} {reply reply' : R} {new new' : T}
    → old ≡ old' → call ≡ call' → reply ≡ reply' → new ≡ new' → step old call e reply new → step old' call' e reply' new'
alike {T} {C} {E} {R} step {e = e} o c r n turn = subst (λ (x : T × C × R × T). step x.0 x.1 e x.2 x.3) (λ i. (o i, c i, r i, n i)) turn
