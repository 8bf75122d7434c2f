-- What the schema of a type finds wrong with the content of an object. This project's own.
use Rattle.std.specs.Prelude.{ℕ, List, Bool, not, if◌then◌else◌, Option, option_map, find}
use Rattle.std.specs.List.{list_any}
use Rattle.doip_json.specs.Written.{pointer_of}
use Rattle.dobj_model.specs.declared.object.ObjectValue.{ObjectValue}
use Rattle.schema_core.specs.declared.collecting.Reference.{Reference}
use Rattle.schema_core.specs.Rules.{Rules}
use Rattle.schema_core.specs.First.{names_of}
use Rattle.schema_core.specs.FirstFailure as first
use Rattle.schema_core.specs.References.{references_in}
use Rattle.type_core.specs.declared.failing.Failure.{Failure}
use Rattle.type_core.specs.Names.{is_text, checked_content}

-- the word of a failure, and the pointer of what fails it
abbrev pub failure_of : first.Failure → Failure
failure_of f = record { word = f.1; pointer = pointer_of (names_of f.0) }

-- the first failure of the content of an object
abbrev pub first_failing : Rules → ObjectValue → Option Failure
first_failing schema o = option_map failure_of (first.first_failure schema (checked_content o))

-- a reference is met by an object that has the identifier, and one of the types
abbrev pub is_met : (List ℕ → List ℕ → Bool) → Reference → Bool
is_met is_of r = list_any (is_of r.id) r.types

-- whether an identifier is of an object of a type, after an object took its place among others
abbrev pub is_of_with : ObjectValue → (List ℕ → List ℕ → Bool) → List ℕ → List ℕ → Bool
is_of_with o is_of id type_name = if is_text o.id id then is_text o.type_name type_name else is_of id type_name

-- the pointer of the first reference that isn't met
abbrev pub unmet_among : (List ℕ → List ℕ → Bool) → List Reference → Option (List ℕ)
unmet_among is_of references = option_map (λ r. r.pointer) (find (λ r. not (is_met is_of r)) references)

-- that of the content of an object, by itself and others
abbrev pub first_unmet : Rules → ObjectValue → (List ℕ → List ℕ → Bool) → Option (List ℕ)
first_unmet schema o is_of = unmet_among (is_of_with o is_of) (references_in schema (checked_content o))
