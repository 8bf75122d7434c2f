-- Numbers as bytes, the highest first.
use Rattle.std.specs.Prelude.{ℕ, List}
use Rattle.std.specs.Int.{w16, w32, w64, to_be_bytes}

-- a number in two bytes
unfoldable pub in_two : ℕ → List ℕ
in_two n = to_be_bytes w16 n

-- a number in four bytes
unfoldable pub in_four : ℕ → List ℕ
in_four n = to_be_bytes w32 n

-- a number in eight bytes
unfoldable pub in_eight : ℕ → List ℕ
in_eight n = to_be_bytes w64 n
