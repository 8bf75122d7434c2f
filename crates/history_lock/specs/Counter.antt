-- What the shares of passes over a counter add up to.
use Rattle.std.specs.Prelude.{ℕ, List, length}
use Rattle.history_lock.specs.declared.board.Share.{Share}
use Rattle.history_lock.specs.Rule.{total}

-- how many turns were taken under these numbers
abbrev pub turns_of : {E : Type 0} → List (Share E) → ℕ
turns_of = total (λ s. length s.own)

-- the sum of the entries under these numbers
abbrev pub added_of : List (Share ℕ) → ℕ
added_of = total (λ s. total (λ e. e) s.own)
