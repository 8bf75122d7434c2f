use Rattle.std.proofs.Common.{◌<◌, ap, rules}
use Rattle.doip_json.specs.Meaning.{value_of}
use Rattle.schema_core.proofs.OwnLemmas.{by_items}
use Rattle.schema_core.proofs.words.Words.has_too_many.Goals as goal

pub returns-in-Some-Items : goal.returns-in-Some-Items
returns-in-Some-Items c =
    by_items _ _ c.in-Some-Items.most c.in-Some-Items.list (λ most n. most < n) _ c.in-Some-Items.is-0
    (ap value_of c.in-Some-Items.is-1) (search rules)
