use Rattle.std.proofs.Common.{[], arith}
use Rattle.repo_step.proofs.DraftLemmas.{filled_elements, filled_object}
use Rattle.repo_step.proofs.operations.create.create.Goals as goal

pub object_of-object-requires-clause-elements : goal.object_of-object-requires-clause-elements
object_of-object-requires-clause-elements c =
    filled_elements c.in_ok-id.field-0 c.in_ok-id.ensures.becomes (λ e. []) (λ e. omega arith) c.in_ok-elements.elements.items
    c.in_ok-elements.ensures

pub object_of-object-requires-clause-object : goal.object_of-object-requires-clause-object
object_of-object-requires-clause-object c =
    filled_object c.in_ok-id.field-0 c.in_ok-id.ensures.becomes (λ e. []) (λ e. omega arith) c.in_ok-elements.elements.items
    c.in_ok-elements.ensures c.in_ok-named.named.id c.in-Some.type_name c.in_ok-metadata.metadata
    c.in_ok-metadata.ensures.range
