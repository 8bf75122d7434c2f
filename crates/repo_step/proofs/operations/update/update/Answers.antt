use Rattle.repo_step.specs.operations.Update.{bytes_stored}
use Rattle.repo_step.proofs.DraftLemmas.{filled_elements, filled_object, stored_few}
use Rattle.repo_step.proofs.operations.update.update.Goals as goal

pub object_of-updated-requires-clause-elements : goal.object_of-updated-requires-clause-elements
object_of-updated-requires-clause-elements c =
    let object = c.args.object.now in
    filled_elements c.in_ok-id.field-0 c.in_ok-id.ensures.becomes (λ e. bytes_stored e.id object)
    (λ e. stored_few e.id object c.value.ensures.object.elements) c.in_ok-elements.elements.items c.in_ok-elements.ensures

pub object_of-updated-requires-clause-object : goal.object_of-updated-requires-clause-object
object_of-updated-requires-clause-object c =
    let object = c.args.object.now in
    filled_object c.in_ok-id.field-0 c.in_ok-id.ensures.becomes (λ e. bytes_stored e.id object)
    (λ e. stored_few e.id object c.value.ensures.object.elements) c.in_ok-elements.elements.items c.in_ok-elements.ensures
    c.in_ok-id-3.id c.in_ok-type_name.type_name c.in_ok-metadata.metadata c.in_ok-metadata.ensures.range
