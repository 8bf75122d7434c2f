-- What each step on the table tells the seat that takes it.
use Rattle.std.specs.Prelude.{◌≡◌, ◌≢◌, ℕ, ◌%◌, ◌^◌, ◌≤◌, true, false, ltb, if◌then◌else◌, List, [], ◌∷◌, ◌++◌, length, Some, None}
use mathlib.Core.List.{IsPrefix}
use Rattle.atomic_table.specs.Table.{Me, Step}
use Rattle.history_lock.specs.declared.board.Entered.{Entered}
use Rattle.history_lock.specs.declared.board.Share.{Share}
use Rattle.history_lock.specs.declared.board.View.{View}
use Rattle.history_lock.specs.declared.board.Slot.{Slot}
use Rattle.history_lock.specs.declared.chosen.Chosen.{Chosen}
use Rattle.history_lock.specs.History.{entered, entries, number_of, grown, other_shares, AreOwn, Leads, Runs}

-- the first share alone
abbrev pub first_share : {E : Type 0} → List (Share E) → List (Share E)
first_share [] = []
first_share (s ∷ ss) = s ∷ []

-- the longer of two lists, the first if they are as long
abbrev pub longer : {A : Type 0} → List A → List A → List A
longer xs ys = if ltb (length xs) (length ys) then ys else xs

-- each of these lists that is no longer than the last is a prefix of it
abbrev pub AreSeen : {A : Type 0} → List (List A) → List A → Type 0
AreSeen [] seen = Unit {0}
AreSeen (x ∷ xs) seen = (length x ≤ length seen → IsPrefix x seen) × AreSeen xs seen

module _ {T E : Type 0} where
  -- nothing is under way: no ticket is out, and nothing is announced or noted
  abbrev pub IsResting : View T E → Type 0
  IsResting v = (v.tickets ≡ []) × (v.come ≡ false) × (v.announced ≡ []) × (v.noted ≡ [])

  -- the view with this ticket out
  abbrev pub waiting : View T E → ℕ → View T E
  waiting v t = record {
    first = v.first;
    seen = v.seen;
    noted = v.noted;
    shares = v.shares;
    tickets = t ∷ [];
    come = v.come;
    announced = v.announced;
  }

  -- the view when its turn has come, after this history
  abbrev pub arrived : View T E → List (Entered E) → View T E
  arrived v history = record {
    first = v.first;
    seen = history;
    noted = v.noted;
    shares = v.shares;
    tickets = v.tickets;
    come = true;
    announced = v.announced;
  }

  -- the view with this entry announced
  abbrev pub announcing : View T E → E → View T E
  announcing v e = record {
    first = v.first;
    seen = v.seen;
    noted = v.noted;
    shares = v.shares;
    tickets = v.tickets;
    come = v.come;
    announced = e ∷ [];
  }

  -- the view when its entry has joined the history
  abbrev pub publishing : View T E → E → View T E
  publishing v e = record {
    first = v.first;
    seen = v.seen ++ entered (number_of v.shares) e ∷ [];
    noted = v.noted;
    shares = grown e v.shares;
    tickets = [];
    come = false;
    announced = [];
  }

  -- the view with nothing noted
  abbrev pub settled : View T E → View T E
  settled v = record {
    first = v.first;
    seen = v.seen;
    noted = [];
    shares = v.shares;
    tickets = v.tickets;
    come = v.come;
    announced = v.announced;
  }

  -- what is seen and these shares, with nothing under way
  abbrev pub resting_with : View T E → List (Share E) → View T E
  resting_with v ss = record {
    first = v.first;
    seen = v.seen;
    noted = [];
    shares = ss;
    tickets = [];
    come = false;
    announced = [];
  }

  -- what is seen, with no number
  abbrev pub note_of : View T E → View T E
  note_of v = resting_with v []

  -- the first number alone
  abbrev pub one_of : View T E → View T E
  one_of v = resting_with v (first_share v.shares)

  -- the other numbers
  abbrev pub rest_of : View T E → View T E
  rest_of v = record {
    first = v.first;
    seen = v.seen;
    noted = v.noted;
    shares = other_shares v.shares;
    tickets = v.tickets;
    come = v.come;
    announced = v.announced;
  }

  -- the longer history, with both noted, and all numbers
  abbrev pub both_of : View T E → View T E → View T E
  both_of v w = record {
    first = v.first;
    seen = longer v.seen w.seen;
    noted = v.seen ∷ w.seen ∷ [];
    shares = v.shares ++ w.shares;
    tickets = v.tickets;
    come = v.come;
    announced = v.announced;
  }

  -- the view of a seat that was joined into another
  abbrev pub spent : View T E
  spent = record {
    first = None;
    seen = [];
    noted = [];
    shares = [];
    tickets = [];
    come = false;
    announced = [];
  }

-- the view of a seat and the slots that it holds
abbrev pub SeatState : Type 0 → Type 0 → Type 0
SeatState T E = Me (Slot T E) (View T E)

-- a step on the table
abbrev pub TableStep : Type 0 → Type 0 → Type 0
TableStep T E = Step (Slot T E)

module _ {T E : Type 0} where
  -- nothing is under way, and no slot is held
  abbrev pub IsIdle : SeatState T E → Type 0
  IsIdle m = IsResting m.0 × (m.1 ≡ [])

  -- a ticket was drawn
  abbrev pub drew : TableStep T E → SeatState T E → ℕ → SeatState T E → Type 0
  drew st m n m' = (t : ℕ) × (n ≡ t % 2 ^ 64) × (m' ≡ (waiting m.0 t, m.1))

  -- the turn has come: the whole history was seen, and the slot is taken, which has the value that the history leaves
  abbrev pub Arrives : (T → E → T → Type 0) → T → SeatState T E → SeatState T E → Type 0
  Arrives leads first m m' =
      (history : List (Entered E)) × (slot : Slot T E) × (value : T)
      × IsPrefix m.0.seen history × (m' ≡ (arrived m.0 history, (0, slot) ∷ []))
      × (slot.value ≡ value) × Runs leads first (entries history) value

  -- the turn of the ticket has come if it is the number found
  abbrev pub looked : (T → E → T → Type 0) → TableStep T E → SeatState T E → ℕ → SeatState T E → Type 0
  looked leads st m n m' =
      (t : ℕ) (first : T) → m.0.tickets ≡ t ∷ [] → m.0.first ≡ Some first
      → (n ≡ t % 2 ^ 64 → Arrives leads first m m') × (n ≢ t % 2 ^ 64 → m' ≡ m)

  -- the entry of the turn in hand was announced
  abbrev pub announced : TableStep T E → SeatState T E → ℕ → SeatState T E → Type 0
  announced st m n m' =
      (slot : Slot T E) (chosen : Chosen E) → m.1 ≡ (0, slot) ∷ [] → slot.entry ≡ Some chosen
      → m' ≡ (announcing m.0 chosen.entry, m.1)

  -- what was announced has joined the history, and the value is at home
  abbrev pub published : TableStep T E → SeatState T E → ℕ → SeatState T E → Type 0
  published st m n m' =
      (e : E) → m.0.announced ≡ e ∷ [] → (m' ≡ (publishing m.0 e, [])) × AreOwn m'.0.seen m'.0.shares

  -- what was noted is seen
  abbrev pub settles : TableStep T E → SeatState T E → ℕ → SeatState T E → Type 0
  settles st m n m' = (m' ≡ (settled m.0, m.1)) × AreSeen m.0.noted m.0.seen × AreOwn m.0.seen m.0.shares

  -- the value in hand is what the history leaves, as the turn has come
  abbrev pub IsServing : (T → E → T → Type 0) → T → SeatState T E → Type 0
  IsServing leads first m =
      (slot : Slot T E) × (value : T) × (m.1 ≡ (0, slot) ∷ []) × (slot.value ≡ value)
      × Runs leads first (entries m.0.seen) value × (m.0.come ≡ true) × (m.0.announced ≡ [])

  -- a turn was taken on what the history leaves, and the slot in hand has the value after it and its entry
  abbrev pub HasServed : {C R : Type 0}
      → (T → C → E → R → T → Type 0) → T → SeatState T E → C → R → SeatState T E → Type 0
  HasServed step first m call reply m' =
      (old : T) × (slot : Slot T E) × (chosen : Chosen E)
      × Runs (Leads step) first (entries m.0.seen) old × step old call chosen.entry reply slot.value
      × (slot.entry ≡ Some chosen) × (m' ≡ (m.0, (0, slot) ∷ []))

  -- a turn was taken on what the history leaves, and has joined the history
  abbrev pub Serves : {C R : Type 0}
      → (T → C → E → R → T → Type 0) → T → SeatState T E → C → R → SeatState T E → Type 0
  Serves step first m call reply m' =
      (old : T) × (entry : E) × (new : T)
      × Runs (Leads step) first (entries m.0.seen) old × step old call entry reply new
      × (m' ≡ (publishing m.0 entry, [])) × AreOwn m'.0.seen m'.0.shares
