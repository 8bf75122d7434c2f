use Rattle.std.proofs.Common.{option_map, ap, ◌∙◌}
use Rattle.doip_json.specs.Meaning.{value_of}
use Rattle.acl_core.specs.File.{string_in}
use Rattle.acl_core.specs.Rights.{grants}
use Rattle.acl_core.proofs.WordLemmas.{text_grants, text_passes, other_passes, no_string}
use Rattle.acl_core.proofs.rights.words_grant.Goals as goal
use Rattle.acl_core.proofs.rights.words_grant.Goals.{in-Text+else-word_grants, in_default}

pub returns-then-word_grants : goal.returns-then-word_grants
returns-then-word_grants g c =
    let test = grants (g.G.Groups.is_in c.args.groups.now) (option_map (λ name. name.now) c.args.creator) (option_map (λ name. name.now) c.args.own) c.args.caller.now in
    text_grants test c.args.words.now c.loop-i.i (value_of c.item.result.now) c.in-Text.word c.word_grants.result c.item.ensures
    (ap (λ j. string_in (value_of j)) c.in-Text.is) (c.word_grants.ensures ∙ ap test c.get.ensures.text) c.if-word_grants.true c.loop-i.invariant

pub loop-i-preserved : goal.loop-i-preserved
loop-i-preserved g c =
    let test = grants (g.G.Groups.is_in c.args.groups.now) (option_map (λ name. name.now) c.args.creator) (option_map (λ name. name.now) c.args.own) c.args.caller.now in
    elim c.match-item.branch [
      | in-Text+else-word_grants w ↦
          text_passes test c.args.words.now c.loop-i.i (value_of c.item.result.now) w.in-Text.word w.word_grants.result c.item.ensures
          (ap (λ j. string_in (value_of j)) w.in-Text.is) (w.word_grants.ensures ∙ ap test w.get.ensures.text) w.if-word_grants.false c.loop-i.invariant
      | in_default w ↦
          other_passes test c.args.words.now c.loop-i.i (value_of c.item.result.now) c.item.ensures (no_string c.item.result.now w.in_default.not-Text) c.loop-i.invariant
    ]
