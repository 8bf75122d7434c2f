-- What a repository's extensions offer, as plain data.
use Rattle.std.specs.Prelude.{ℕ, List, map, nat_eq, String, string_bytes, Option}
use Rattle.std.specs.Cmp.Lexicographic.{pointwise}
use Rattle.std.specs.Map.{lookup}
use Rattle.std.specs.declared.alloc.Global.{Global}
use Rattle.ext_ops.specs.declared.code.ExtCode.{ExtCode}
use Rattle.ext_ops.specs.declared.code.HookCode.{HookCode}

-- the operations with the codes of their extensions, and the hooks with theirs, by name, in the order in which they
-- were added
pub record Offered : Type 0 where
  pub operations : List (List ℕ × ExtCode)
  pub hooks : List (List ℕ × HookCode)

abbrev pub offered : List (List ℕ × ExtCode) → List (List ℕ × HookCode) → Offered
offered operations hooks = record { operations = operations; hooks = hooks }

-- the code at a name
abbrev pub code_at : {C : Type 0} → List ℕ → List (List ℕ × C) → Option C
code_at name = lookup (λ n. pointwise nat_eq name n)

-- the entries of a table of strings, with the strings as their bytes
abbrev pub named : {C : Type 0} → List (String Global × C) → List (List ℕ × C)
named = map (λ e. (string_bytes e.0, e.1))
