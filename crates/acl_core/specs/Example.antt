-- One group with one user, for a test of what groups grant.
use Rattle.std.specs.Prelude.{ℕ, List, codes, nat_eq, Bool, false, ◌&&◌}
use Rattle.std.specs.Cmp.Lexicographic.{pointwise}

-- the group `g` has the user `alice`
abbrev pub is_alice_in_g : List ℕ → List ℕ → Bool
is_alice_in_g group user = pointwise nat_eq group (codes "g") && pointwise nat_eq user (codes "alice")

-- no group has a user
abbrev pub is_in_none : List ℕ → List ℕ → Bool
is_in_none group user = false
