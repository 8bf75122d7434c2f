-- A text with no byte below 0x20 has no line feed.
use Rattle.std.proofs.Common.{◌≢◌, ◌≤◌, ℕ, List, [], ◌∷◌, arith}
use Rattle.std.specs.List.{All, AllByRecursion}
use Rattle.std.proofs.lemmas.List.Elements.{recursion_from_All}

above : (bytes : List ℕ) → AllByRecursion (λ b. 32 ≤ b) bytes → AllByRecursion (λ b. b ≢ 10) bytes
above [] h = tt
above (b ∷ bytes) h = ((λ e. let low = h.0 in omega arith), above bytes h.1)

pub no_feed : (bytes : List ℕ) → All (λ b. 32 ≤ b) bytes → AllByRecursion (λ b. b ≢ 10) bytes
no_feed bytes h = above bytes (recursion_from_All _ bytes h)
