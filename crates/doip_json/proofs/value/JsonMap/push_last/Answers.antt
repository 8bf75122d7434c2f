use Rattle.std.proofs.Common.{sym, subst, ap, ◌∙◌, [], ◌∷◌, ◌++◌}
use Rattle.std.specs.Map.{keys_of}
use Rattle.doip_json.specs.Value.{table, entries_from}
use Rattle.doip_json.specs.Sound.{IsSound, IsAscending}
use Rattle.doip_json.specs.Meaning.{value_of, pairs_of}
use Rattle.doip_json.proofs.Entries.{sound_last, pairs_of-append}
use Rattle.doip_json.proofs.value.JsonMap.push_last.Goals as goal

pub invariant_of-self-2 : goal.invariant_of-self-2
invariant_of-self-2 c =
    let es = c.self.inside.entries.items in
    let more = ap pairs_of c.in_ok-push.ensures.items ∙ pairs_of-append es c.args.key c.args.value in
    let sorted = subst (λ ps. IsAscending (keys_of (ps ++ (c.args.key, value_of c.args.value) ∷ []))) (sym c.self.view_is) c.requires in
    subst (λ ps. IsSound (table (entries_from ps))) (sym more) (sound_last (pairs_of es) c.args.key (value_of c.args.value) c.self.invariant sorted c.get.ensures.utf8 c.recall.ensures)
