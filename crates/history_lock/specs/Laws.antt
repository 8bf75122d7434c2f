-- What proofs above may use of histories, shares and runs.
use Rattle.std.specs.Prelude.{◌≡◌, ℕ, ◌<◌, List, [], ◌∷◌, ◌++◌}
use Rattle.history_lock.specs.declared.board.Entered.{Entered}
use Rattle.history_lock.specs.declared.board.Share.{Share}
use Rattle.history_lock.specs.History.{entered, entries_by, number_of, held, grown, HoldsOwn, Runs}

module _ {E : Type 0} where
  -- none of these turns was taken under a number that is held
  abbrev pub NoneHeld : List (Share E) → List (Entered E) → Type 0
  NoneHeld ss turns = (k : ℕ) → 0 < held k ss → entries_by k turns ≡ []

  -- the turns between what shares had seen and a turn of their first number are turns of others
  abbrev pub NoneBetween : List (Entered E) → List (Entered E) → List (Share E) → E → Type 0
  NoneBetween before between ss e =
      HoldsOwn before ss
      → HoldsOwn ((before ++ between) ++ entered (number_of ss) e ∷ []) (grown e ss)
      → NoneHeld ss between

  -- the turns that shares see later, alone or as a part of these shares, are turns of others
  abbrev pub NoneNew : List (Entered E) → List (Entered E) → List (Share E) → List (Share E) → Type 0
  NoneNew before more ss now = HoldsOwn before ss → HoldsOwn (before ++ more) now → NoneHeld ss more

module _ {T E : Type 0} (leads : T → E → T → Type 0) where
  -- a run goes on by a turn that begins at its last value
  abbrev pub GoesOnByOne : T → List E → T → E → T → Type 0
  GoesOnByOne first es mid e last = Runs leads first es mid → leads mid e last → Runs leads first (es ++ e ∷ []) last

  -- two runs, of which the second begins at the last value of the first, are one
  abbrev pub GoesOn : T → List E → T → List E → T → Type 0
  GoesOn first es mid fs last = Runs leads first es mid → Runs leads mid fs last → Runs leads first (es ++ fs) last

  -- a run of two lists of entries has a value between them
  abbrev pub Parts : T → List E → List E → T → Type 0
  Parts first es fs last =
      Runs leads first (es ++ fs) last → (mid : T) × Runs leads first es mid × Runs leads mid fs last
