use Rattle.std.proofs.Common.{option_map}
use Rattle.doip_json.specs.Meaning.{value_of}
use Rattle.repo_step.proofs.operations.input.draft_read.Goals as goal

pub returns-in-Ok-clause-becomes : goal.returns-in-Ok-clause-becomes
returns-in-Ok-clause-becomes c =
    let input = option_map value_of c.args.value in
    let segments = c.args.parts.now.segments in
    let draft = c.in-Ok.draft in
    record {
      within = c.drafts_keep_their_bounds.ensures input segments draft c.requires.brought c.in-Ok.ensures;
      elements = λ es. c.drafts_make_objects.ensures.elements input segments draft es c.requires.brought c.in-Ok.ensures;
      objects = λ o. c.drafts_make_objects.ensures.objects input segments draft o c.requires.brought c.in-Ok.ensures;
    }
