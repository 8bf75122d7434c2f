use Rattle.std.proofs.Common.{◌∙◌, ap}
use Rattle.std.specs.BTreeMap.{insert_entry}
use Rattle.doip_json.specs.Meaning.{value_of}
use Rattle.doip_json.proofs.Ascending.{compared}
use Rattle.ext_ops.proofs.EntryLemmas.{trimmed_more}
use Rattle.ext_ops.proofs.trimming.trimmed_entries.Goals as goal

pub loop-i-preserved : goal.loop-i-preserved
loop-i-preserved c =
    let key = c.in_ok-key.ensures ∙ c.get.ensures.text in
    let made = value_of c.in_ok-trimmed_value.field-0 in
    c.in_ok-put.ensures.ok ∙ (ap (λ k. insert_entry compared c.loop-i.made k made) key
    ∙ trimmed_more c.args.entries.now c.loop-i.made c.loop-i.i c.key_at.result.now (value_of c.value_at.result.now) made c.len-i-end.ensures.ascending c.key_at.ensures c.value_at.ensures c.loop-i.invariant c.in_ok-trimmed_value.ensures)
