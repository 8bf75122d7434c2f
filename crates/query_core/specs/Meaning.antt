-- What a query means: the objects of which it holds. This project's own.
use Rattle.std.specs.Prelude.{Bool, true, not, ◌&&◌, ◌||◌}
use Rattle.std.specs.List.{list_any}
use Rattle.dobj_model.specs.declared.object.ObjectValue.{ObjectValue}
use Rattle.dobj_field.specs.Reach.{reached, passes}
use Rattle.query_text.specs.Query.{Disjunction, Conjunction, Term, alone, either, single, both, negated, group, every, test}

-- The query holds of the object.
abbrev mutual
  pub holds : Disjunction → ObjectValue → Bool
  holds (alone c) object = conjunction_holds c object
  holds (either c q) object = conjunction_holds c object || holds q object

  -- each term of the conjunction does
  pub conjunction_holds : Conjunction → ObjectValue → Bool
  conjunction_holds (single t) object = term_holds t object
  conjunction_holds (both t c) object = term_holds t object && conjunction_holds c object

  -- the term does: a test where a value that its field reaches passes it, `*:*` always
  pub term_holds : Term → ObjectValue → Bool
  term_holds (negated t) object = not (term_holds t object)
  term_holds (group q) object = holds q object
  term_holds every object = true
  term_holds (test field on) object = list_any (passes on) (reached field object)
