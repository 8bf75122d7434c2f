-- How the logic stores what a schema states: as marks, each of which builds on the schemas before it.
use Rattle.std.specs.Prelude.{◌≡◌, ℕ, List, [], ◌∷◌, Option, Some, None, refl}
use Rattle.std.specs.Coded.{Coded, code_by, coded×, coded_ℕ, coded_list, coded_option}
use Rattle.std.proofs.Common.{◌∙◌}
use Rattle.schema_core.specs.declared.words.Words.{Words}
use Rattle.schema_core.specs.contracts.words.Words as W
use Rattle.schema_core.specs.Rules.{Rules, rules, Properties, no_properties, property, Within, anything, each, plain}

-- the words of a new schema, or the key under which the last schema goes into the one before it; neither where it is
-- the schema of the items
abbrev Mark : Type 0
Mark = Option Words × Option (List ℕ)

-- the marks of a schema, before those that follow
abbrev mutual
  marks : Rules → List Mark → List Mark
  marks (rules w ps it) rest = (Some w, None) ∷ within_marks it (property_marks ps rest)

  property_marks : Properties → List Mark → List Mark
  property_marks no_properties rest = rest
  property_marks (property k r ps) rest = property_marks ps (marks r ((None, Some k) ∷ rest))

  within_marks : Within → List Mark → List Mark
  within_marks anything rest = rest
  within_marks (each r) rest = marks r ((None, None) ∷ rest)

-- a schema under a key goes before the properties of a schema
abbrev with_property : List ℕ → Rules → Rules → Rules
with_property k r (rules w ps it) = rules w (property k r ps) it

-- a schema becomes that of the items
abbrev with_items : Rules → Rules → Rules
with_items r (rules w ps it) = rules w ps (each r)

-- the last schema goes into the one before it
abbrev put_in : (Rules → Rules → Rules) → List Rules → List Rules
put_in f [] = []
put_in f (r ∷ []) = []
put_in f (r ∷ s ∷ done) = f r s ∷ done

-- the schemas after one mark
abbrev after_mark : Mark → List Rules → List Rules
after_mark m done = by_parts m.0 m.1
  where
    by_parts : Option Words → Option (List ℕ) → List Rules
    by_parts (Some w) key = rules w no_properties anything ∷ done
    by_parts None (Some k) = put_in (with_property k) done
    by_parts None None = put_in with_items done

-- the schemas after all marks
abbrev built : List Mark → List Rules → List Rules
built [] done = done
built (m ∷ ms) done = built ms (after_mark m done)

mutual
  built-marks : (r : Rules) (rest : List Mark) (done : List Rules) → built (marks r rest) done ≡ built rest (r ∷ done)
  built-marks (rules w ps it) rest done =
      built-within_marks it w (property_marks ps rest) done ∙ built-property_marks ps w it rest done

  built-property_marks : (ps : Properties) (w : Words) (it : Within) (rest : List Mark) (done : List Rules)
      → built (property_marks ps rest) (rules w no_properties it ∷ done) ≡ built rest (rules w ps it ∷ done)
  built-property_marks no_properties w it rest done = refl
  built-property_marks (property k r ps) w it rest done =
      built-property_marks ps w it (marks r ((None, Some k) ∷ rest)) done
      ∙ built-marks r ((None, Some k) ∷ rest) (rules w ps it ∷ done)

  built-within_marks : (it : Within) (w : Words) (rest : List Mark) (done : List Rules)
      → built (within_marks it rest) (rules w no_properties anything ∷ done)
      ≡ built rest (rules w no_properties it ∷ done)
  built-within_marks anything w rest done = refl
  built-within_marks (each r) w rest done = built-marks r ((None, None) ∷ rest) (rules w no_properties anything ∷ done)

-- the schema that was built last
abbrev last : List Rules → Rules
last [] = plain
last (r ∷ rs) = r

-- the marks of a schema build it again
pub last-built : (r : Rules) → last (built (marks r []) []) ≡ r
last-built r = λ i. last (built-marks r [] [] i)

-- a schema is stored as its marks
abbrev pub rules_code : Coded Rules
rules_code =
    code_by (List Mark) (coded_list (coded× (coded_option W.the_row.coded) (coded_option (coded_list coded_ℕ))))
    (λ r. marks r []) (λ ms. last (built ms [])) last-built
