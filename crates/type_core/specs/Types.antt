-- What was read of type objects, as contracts see it: by the names of their types.
use Rattle.std.specs.Prelude.{ℕ, List, map, String, string_bytes, refl}
use Rattle.std.specs.Coded.{Coded, code_by, coded×, coded_list, coded_ℕ}
use Rattle.std.specs.FinMap as finite
use Rattle.std.specs.declared.alloc.Global.{Global}
use Rattle.type_core.specs.declared.content.TypeContent.{TypeContent}
use Rattle.type_core.specs.Least.{id_cmp}

-- contents by name, and how many more find room
pub record Stated : Type 0 where
  pub contents : finite.FinMap id_cmp TypeContent
  pub spare : ℕ

-- the entries with their names as bytes
abbrev pub named_in : {X : Type 0} → List (String Global × X) → List (List ℕ × X)
named_in = map (λ e. (string_bytes e.0, e.1))

-- the finite map that entries are
abbrev pub map_in : {X : Type 0} → List (String Global × X) → finite.FinMap id_cmp X
map_in es = finite.from_entries (named_in es)

-- by which proofs tell them apart, from the code of a content
abbrev pub stated_code : Coded TypeContent → Coded Stated
stated_code content =
    code_by (finite.FinMap id_cmp TypeContent × ℕ) (coded× (finite.code (coded_list coded_ℕ) content) coded_ℕ)
    (λ s. (s.contents, s.spare)) (λ p. record { contents = p.0; spare = p.1 }) (λ _. refl)
