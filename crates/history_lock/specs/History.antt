-- Histories of turns, the shares of those who took them, and the values that histories lead to.
use Rattle.std.specs.Prelude.{◌≡◌, ℕ, ◌+◌, ◌<◌, eqb, cond, if◌then◌else◌, List, [], ◌∷◌, ◌++◌, map}
use Rattle.history_lock.specs.declared.board.Entered.{Entered}
use Rattle.history_lock.specs.declared.board.Share.{Share}

-- 1 if the numbers are equal, and else 0
abbrev pub same : ℕ → ℕ → ℕ
same n m = cond (eqb n m) 1 0

module _ {E : Type 0} where
  -- the turn with this number and entry
  abbrev pub entered : ℕ → E → Entered E
  entered k e = record { by = k; entry = e }

  -- the entries of a history
  abbrev pub entries : List (Entered E) → List E
  entries = map (λ t. t.entry)

  -- the entries of the turns that were taken under one number, in their order
  abbrev pub entries_by : ℕ → List (Entered E) → List E
  entries_by k [] = []
  entries_by k (t ∷ ts) = if eqb t.by k then t.entry ∷ entries_by k ts else entries_by k ts

  -- each turn was taken under a number below n
  abbrev pub AreBelow : ℕ → List (Entered E) → Type 0
  AreBelow n [] = Unit {0}
  AreBelow n (t ∷ ts) = (t.by < n) × AreBelow n ts

  -- the share of one number: the entries of the turns that were taken under it
  abbrev pub share_of : ℕ → List E → Share E
  share_of k own = record { number = k; own = own }

  -- the first number of some shares
  abbrev pub number_of : List (Share E) → ℕ
  number_of [] = 0
  number_of (s ∷ ss) = s.number

  -- the entries of the first number
  abbrev pub own_of : List (Share E) → List E
  own_of [] = []
  own_of (s ∷ ss) = s.own

  -- the shares of the other numbers
  abbrev pub other_shares : List (Share E) → List (Share E)
  other_shares [] = []
  other_shares (s ∷ ss) = ss

  -- the first of these shares is the one of this number
  abbrev pub FirstIs : ℕ → List (Share E) → Type 0
  FirstIs k ss = ss ≡ share_of k (own_of ss) ∷ other_shares ss

  -- one entry more under the first number
  abbrev pub grown : E → List (Share E) → List (Share E)
  grown e [] = []
  grown e (s ∷ ss) = share_of s.number (s.own ++ e ∷ []) ∷ ss

  -- how often a number is among the shares
  abbrev pub held : ℕ → List (Share E) → ℕ
  held k [] = 0
  held k (s ∷ ss) = same k s.number + held k ss

  -- each number below n is held
  abbrev pub HoldsAll : ℕ → List (Share E) → Type 0
  HoldsAll n ss = (k : ℕ) → k < n → 0 < held k ss

  -- each share has the entries of its number in the history
  abbrev pub AreOwn : List (Entered E) → List (Share E) → Type 0
  AreOwn history [] = Unit {0}
  AreOwn history (s ∷ ss) = (s.own ≡ entries_by s.number history) × AreOwn history ss

  -- the same as one equation of lists
  abbrev pub HoldsOwn : List (Entered E) → List (Share E) → Type 0
  HoldsOwn history ss = map (λ s. s.own) ss ≡ map (λ s. entries_by s.number history) ss

-- some call and reply make this turn, from one value to another
abbrev pub Leads : {T C E R : Type 0} → (T → C → E → R → T → Type 0) → T → E → T → Type 0
Leads {T} {C} {E} {R} step old e new = (call : C) × (reply : R) × step old call e reply new

-- the first value becomes the last by one turn for each entry
abbrev pub Runs : {T E : Type 0} → (T → E → T → Type 0) → T → List E → T → Type 0
Runs leads first [] last = first ≡ last
Runs {T} leads first (e ∷ es) last = (next : T) × leads first e next × Runs leads next es last
