-- The exchanges of a history, as it grows and where its entries have the same causes.
use Rattle.std.proofs.Common.{◌≡◌, List, [], ◌∷◌, ◌++◌, map, Bool, true, false, if◌then◌else◌, refl, sym, ap, ◌∙◌}
use Rattle.std.specs.List.{AllByRecursion}
use Rattle.repo_step.specs.Setting.{Setting, State}
use Rattle.repo_step.specs.History.{Entry, Exchange, after, exchange_of, exchanges_where, pair_of, pairs_where, state_after}
use Rattle.repo_step.specs.Laws.{Cause, cause_of}

grows : {X : Type 0} (b : Bool) (x : X) (r t u : List X) → r ≡ t ++ u
    → (if b then x ∷ r else r) ≡ (if b then x ∷ t else t) ++ u
grows true x r t u e = ap (λ w. x ∷ w) e
grows false x r t u e = e

-- the state after one list of items and another
pub state-append : {A : Type 0} (setting : Setting) (entry_of : A → Entry) (state : State) (xs ys : List A)
    → state_after setting entry_of state (xs ++ ys)
    ≡ state_after setting entry_of (state_after setting entry_of state xs) ys
state-append setting entry_of state [] ys = refl
state-append setting entry_of state (x ∷ xs) ys = state-append setting entry_of (after setting state (entry_of x)) xs ys

module _ {A : Type 0} (setting : Setting) (entry_of : A → Entry) (passes : A → Bool) where
  -- the exchanges of one list of items and another
  pub exchanges-append : (state : State) (xs ys : List A)
      → exchanges_where setting entry_of passes state (xs ++ ys)
      ≡ exchanges_where setting entry_of passes state xs
      ++ exchanges_where setting entry_of passes (state_after setting entry_of state xs) ys
  exchanges-append state [] ys = refl
  exchanges-append state (x ∷ xs) ys =
      let next : State = after setting state (entry_of x) in
      grows (passes x) (exchange_of setting state (entry_of x))
      (exchanges_where setting entry_of passes next (xs ++ ys))
      (exchanges_where setting entry_of passes next xs)
      (exchanges_where setting entry_of passes (state_after setting entry_of next xs) ys) (exchanges-append next xs ys)

  -- one more item that passes
  pub exchanges_more : (state : State) (xs : List A) (x : A) → passes x ≡ true
      → exchanges_where setting entry_of passes state (xs ++ x ∷ [])
      ≡ exchanges_where setting entry_of passes state xs
      ++ exchange_of setting (state_after setting entry_of state xs) (entry_of x) ∷ []
  exchanges_more state xs x is =
      let last : Exchange = exchange_of setting (state_after setting entry_of state xs) (entry_of x) in
      exchanges-append state xs (x ∷ [])
      ∙ ap (λ (b : Bool). exchanges_where setting entry_of passes state xs ++ (if b then last ∷ [] else [])) is

  -- no item that passes
  pub exchanges_none : (state : State) (xs : List A) → AllByRecursion (λ x. passes x ≡ false) xs
      → exchanges_where setting entry_of passes state xs ≡ []
  exchanges_none state [] none = refl
  exchanges_none state (x ∷ xs) none =
      let next : State = after setting state (entry_of x) in
      let later : List Exchange = exchanges_where setting entry_of passes next xs in
      ap (λ (b : Bool). if b then exchange_of setting state (entry_of x) ∷ later else later) none.0 ∙ exchanges_none next xs none.1

  map-over : {X Y : Type 0} (f : X → Y) (xs ys : List X) → map f (xs ++ ys) ≡ map f xs ++ map f ys
  map-over f [] ys = refl
  map-over f (x ∷ xs) ys = ap (λ w. f x ∷ w) (map-over f xs ys)

  -- the same of the pairs
  pub pairs-append : (state : State) (xs ys : List A)
      → pairs_where setting entry_of passes state (xs ++ ys)
      ≡ pairs_where setting entry_of passes state xs
      ++ pairs_where setting entry_of passes (state_after setting entry_of state xs) ys
  pairs-append state xs ys =
      ap (map pair_of) (exchanges-append state xs ys)
      ∙ map-over pair_of (exchanges_where setting entry_of passes state xs)
      (exchanges_where setting entry_of passes (state_after setting entry_of state xs) ys)

  pub pairs_more : (state : State) (xs : List A) (x : A) → passes x ≡ true
      → pairs_where setting entry_of passes state (xs ++ x ∷ [])
      ≡ pairs_where setting entry_of passes state xs
      ++ pair_of (exchange_of setting (state_after setting entry_of state xs) (entry_of x)) ∷ []
  pairs_more state xs x is =
      ap (map pair_of) (exchanges_more state xs x is)
      ∙ map-over pair_of (exchanges_where setting entry_of passes state xs)
      (exchange_of setting (state_after setting entry_of state xs) (entry_of x) ∷ [])

  pub pairs_none : (state : State) (xs : List A) → AllByRecursion (λ x. passes x ≡ false) xs
      → pairs_where setting entry_of passes state xs ≡ []
  pairs_none state xs none = ap (map pair_of) (exchanges_none state xs none)

-- an entry with this cause
abbrev entry_by : Cause → Entry
entry_by c = record { lane = 0; session = 0; message = c.message; outcome = c.outcome; moment = 0; brought = c.brought }

first_of : {X : Type 0} → X → List X → X
first_of x [] = x
first_of x (y ∷ ys) = y

rest_of : {X : Type 0} → List X → List X
rest_of [] = []
rest_of (x ∷ xs) = xs

passing : {X : Type 0} (b : Bool) (x : X) (xs : List X) → b ≡ true → (if b then x ∷ xs else xs) ≡ x ∷ xs
passing b x xs is = ap (λ (b : Bool). if b then x ∷ xs else xs) is

-- Items that all pass, with equal causes in order, have equal pairs, whatever gives the items.
pub pairs_same : {A B : Type 0} (setting : Setting) (entry_of : A → Entry) (other_of : B → Entry)
    (passes : A → Bool) (admits : B → Bool) (state : State) (xs : List A) (ys : List B)
    → AllByRecursion (λ x. passes x ≡ true) xs → AllByRecursion (λ y. admits y ≡ true) ys
    → map (λ x. cause_of (entry_of x)) xs ≡ map (λ y. cause_of (other_of y)) ys
    → pairs_where setting entry_of passes state xs ≡ pairs_where setting other_of admits state ys
unfolding first_of rest_of
pairs_same setting entry_of other_of passes admits state [] [] all others same = refl
pairs_same setting entry_of other_of passes admits state [] (y ∷ ys) all others same = absurd (cc same)
pairs_same setting entry_of other_of passes admits state (x ∷ xs) [] all others same = absurd (cc same)
pairs_same setting entry_of other_of passes admits state (x ∷ xs) (y ∷ ys) all others same =
    let e : Entry = entry_of x in
    let f : Entry = other_of y in
    let one : cause_of e ≡ cause_of f = ap (first_of (cause_of e)) same in
    let next : State = after setting state e in
    let later : State = after setting state f in
    let pair : pair_of (exchange_of setting state e) ≡ pair_of (exchange_of setting state f) =
    ap (λ c. pair_of (exchange_of setting state (entry_by c))) one in
    let states : next ≡ later = ap (λ c. after setting state (entry_by c)) one in
    let more : pairs_where setting entry_of passes next xs ≡ pairs_where setting other_of admits next ys =
    pairs_same setting entry_of other_of passes admits next xs ys all.1 others.1 (ap rest_of same) in
    ap (map pair_of)
    (passing (passes x) (exchange_of setting state e) (exchanges_where setting entry_of passes next xs) all.0)
    ∙ ((λ i. pair i ∷ more i)
    ∙ (ap (λ (s : State). pair_of (exchange_of setting state f) ∷ pairs_where setting other_of admits s ys) states
    ∙ sym (ap (map pair_of)
    (passing (admits y) (exchange_of setting state f) (exchanges_where setting other_of admits later ys) others.0))))
