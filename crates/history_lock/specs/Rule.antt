-- The rule of the table.
use Rattle.std.specs.Prelude.{◌≡◌, ◌⊎◌, ℕ, zero, suc, ◌+◌, ◌*◌, ◌%◌, ◌^◌, ◌<◌, ◌≤◌, true, false, ltb, cond, List, [], ◌∷◌, length, slice_index, Some}
use mathlib.Core.Option.{some}
use mathlib.Core.List.{IsPrefix}
use lib.ListN.{get_elem?}
use Rattle.atomic_table.specs.Table.{State}
use Rattle.history_lock.specs.declared.board.Entered.{Entered}
use Rattle.history_lock.specs.declared.board.Share.{Share}
use Rattle.history_lock.specs.declared.board.View.{View}
use Rattle.history_lock.specs.declared.board.Slot.{Slot}
use Rattle.history_lock.specs.History.{entries, same, share_of, held, AreOwn, AreBelow, Runs}

-- 1 if the first number is below the second, and else 0
abbrev pub below : ℕ → ℕ → ℕ
below n m = cond (ltb n m) 1 0

-- how often a number is in a list
abbrev pub times : ℕ → List ℕ → ℕ
times n [] = 0
times n (m ∷ ms) = same n m + times n ms

-- a weight of all items together
abbrev pub total : {A : Type 0} → (A → ℕ) → List A → ℕ
total f [] = 0
total f (x ∷ xs) = f x + total f xs

-- the shares of the numbers below n, the largest first, with no entries
abbrev pub fresh : {E : Type 0} → ℕ → List (Share E)
fresh zero = []
fresh (suc n) = share_of n [] ∷ fresh n

-- each of these lists is a prefix of the history
abbrev pub AreBegun : {A : Type 0} → List (List A) → List A → Type 0
AreBegun [] history = Unit {0}
AreBegun (x ∷ xs) history = IsPrefix x history × AreBegun xs history

-- The word that counts the tickets that were drawn. Words that different threads write are 16 words apart, so that
-- they share no cache line.
abbrev pub ticket_word : ℕ
ticket_word = 0

-- the word that counts the turns that were taken
abbrev pub serving_word : ℕ
serving_word = 16

-- the word of a pass's number, which counts the turns that were taken under it
abbrev pub number_word : ℕ → ℕ
number_word k = (k + 2) * 16

-- how many words a table with so many passes has
abbrev pub word_count : ℕ → ℕ
word_count passes = (passes + 2) * 16

-- each share's number is below n, and its word counts its entries, the first one's with what is announced
abbrev pub AreCounted : {E : Type 0} → ℕ → List ℕ → ℕ → List (Share E) → Type 0
AreCounted n words announced [] = Unit {0}
AreCounted n words announced (s ∷ ss) =
    (s.number < n) × (slice_index words (number_word s.number) ≡ (length s.own + announced) % 2 ^ 64)
    × AreCounted n words 0 ss

-- what a view knows is true of the history and the words
pub record Fits {T E : Type 0} (first : T) (passes : ℕ)
    (history : List (Entered E)) (words : List ℕ) (v : View T E) : Type 0 where
  pub first_is : (x : T) → v.first ≡ Some x → x ≡ first
  pub seen : IsPrefix v.seen history
  pub noted : AreBegun v.noted history
  pub come : v.come ≡ true → (v.tickets ≡ length history ∷ []) × (v.seen ≡ history)
  pub announced : v.come ≡ false → v.announced ≡ []
  pub own : AreOwn history v.shares
  pub own_seen : AreOwn v.seen v.shares
  pub counted : AreCounted passes words (length v.announced) v.shares
  pub queued : length v.tickets ≤ length v.shares

module _ {T E : Type 0} where
  -- the value is at home, and is what the history leaves
  abbrev pub IsHome : (T → E → T → Type 0) → T → List (Entered E) → State (Slot T E) (View T E) → Type 0
  IsHome leads first history s =
      (slot : Slot T E) × (value : T) × (get_elem? s.homes 0 ≡ some (some slot))
      × (slot.value ≡ value) × Runs leads first (entries history) value

  -- the value is out with a seat whose turn has come
  abbrev pub IsOut : State (Slot T E) (View T E) → Type 0
  IsOut s = (id : ℕ) × (v : View T E) × (get_elem? s.views id ≡ some v) × (v.come ≡ true)

  -- the value is in one of the two
  abbrev pub IsKeptValue : (T → E → T → Type 0) → T → List (Entered E) → State (Slot T E) (View T E) → Type 0
  IsKeptValue leads first history s = IsHome leads first history s ⊎ IsOut s

-- there is one history, which the words count, the views have seen and the value follows
pub record Kept {T E : Type 0} (leads : T → E → T → Type 0) (first : T) (passes : ℕ)
    (s : State (Slot T E) (View T E)) : Type 0 where
  pub history : List (Entered E)
  pub drawn : ℕ
  pub few : passes ≤ 64
  pub wide : length s.words ≡ word_count passes
  pub deep : length s.homes ≡ 1
  pub ticket : slice_index s.words ticket_word ≡ drawn % 2 ^ 64
  pub serving : slice_index s.words serving_word ≡ length history % 2 ^ 64
  pub each_view : (id : ℕ) (v : View T E) → get_elem? s.views id ≡ some v → Fits first passes history s.words v
  pub tickets : (n : ℕ) → total (λ v. times n v.tickets) s.views + below n (length history) ≡ below n drawn
  pub queue : total (λ v. length v.tickets) s.views + length history ≡ drawn
  pub numbers : (k : ℕ) → total (λ v. held k v.shares) s.views ≡ below k passes
  pub whole : total (λ v. length v.shares) s.views ≡ passes
  pub taken : AreBelow passes history
  pub value : IsKeptValue leads first history s

-- the view of a lock's first seat
abbrev pub opening_view : {T E : Type 0} → T → ℕ → View T E
opening_view first passes = record {
  first = Some first;
  seen = [];
  noted = [];
  shares = fresh passes;
  tickets = [];
  come = false;
  announced = [];
}
