use Rattle.std.proofs.Common.{take, codes, map, string_bytes, Some, option_map, unwrap_or, sym, ap, ◌∙◌, arith}
use Rattle.std.proofs.lemmas.List.{take_all}
use Rattle.std.proofs.lemmas.Result.{IfOk-weaker}
use Rattle.doip_json.specs.Value.{entries_from}
use Rattle.doip_json.specs.Meaning.{value_of}
use Rattle.doip_json.proofs.Building.{entry_of-depth}
use Rattle.doip_json.proofs.Lists.{entry_depth}
use Rattle.schema_core.specs.Rules.{no_properties, anything, each}
use Rattle.schema_core.specs.Reading.{schemas_in, each_schema, rules_in}
use Rattle.schema_core.proofs.ReadingLemmas.{evenly, keyed-are, one_more, is_new, goes_last, properties_at-found, within_at-found, schemas_plain}
use Rattle.schema_core.proofs.reading.+reading.Goals as goal

pub each_of-stated-requires : goal.each_of-stated-requires
each_of-stated-requires t c = (omega (arith, entry_depth c.args.map.now c.loop-i.i (value_of c.value_at.result.now) c.value_at.ensures), tt)

pub each_of-loop-i-preserved : goal.each_of-loop-i-preserved
each_of-loop-i-preserved t c =
    let es = c.args.map.now in
    let i = c.loop-i.i in
    let key = c.in_ok-key.key in
    let keys = c.loop-i.keys.keys in
    let are = c.loop-i.invariant in
    let has = c.key_at.ensures ∙ ap Some (sym (c.in_ok-key.ensures.ok ∙ c.get.ensures.text)) in
    let new = is_new es i keys key c.len-i-end.ensures.ascending are.keys_are has in
    let more = one_more es i (value_of c.value_at.result.now) keys c.loop-i.schemas.items key c.in_ok-schema.schema has c.value_at.ensures c.in_ok-schema.ensures are in
    record {
      keys_are = ap (map string_bytes) (c.in_ok-insert.ensures.keys ∙ goes_last keys key new) ∙ more.keys_are;
      schemas_are = c.in_ok-push.ensures.items ∙ more.schemas_are;
    }

pub each_of-returns-clause-even : goal.each_of-returns-clause-even
each_of-returns-clause-even t c =
    let es = c.args.map.now in
    let i = c.loop-i.i in
    evenly (take i es) c.loop-i.keys.keys c.loop-i.schemas.items c.loop-i.invariant

pub each_of-returns-clause-stated : goal.each_of-returns-clause-stated
each_of-returns-clause-stated t c =
    let es = c.args.map.now in
    let i = c.loop-i.i in
    keyed-are (take i es) c.loop-i.keys.keys c.loop-i.schemas.items c.loop-i.invariant
    ∙ ap (λ xs. each_schema (entries_from xs)) (take_all i es (omega (arith, c.len-i-end.ensures.len)))

pub items_of-stated-requires : goal.items_of-stated-requires
items_of-stated-requires t c = (omega (arith, entry_of-depth (entries_from c.args.map.now) (codes "items") (value_of c.in-Some.value.now) (sym c.in-Some.ensures)), tt)

pub items_of-returns-in_ok-new-in-Some : goal.items_of-returns-in_ok-new-in-Some
items_of-returns-in_ok-new-in-Some t c =
    ap each (c.in_ok-new-in-Some.ensures.ok ∙ c.in_ok-schema-in-Some.ensures)
    ∙ (ap (λ o. unwrap_or (option_map (λ v. each (rules_in v)) o) anything) c.in-Some.ensures ∙ sym (within_at-found (entries_from c.args.map.now)))

pub items_of-returns-in-None : goal.items_of-returns-in-None
items_of-returns-in-None t c =
    ap (λ o. unwrap_or (option_map (λ v. each (rules_in v)) o) anything) c.in-None.ensures ∙ sym (within_at-found (entries_from c.args.map.now))

pub properties_of-schemas_of-requires : goal.properties_of-schemas_of-requires
properties_of-schemas_of-requires t c = (omega (arith, entry_of-depth (entries_from c.args.map.now) (codes "properties") (value_of c.in-Some.value.now) (sym c.in-Some.ensures)), tt)

pub properties_of-returns-in-Some-clause-stated : goal.properties_of-returns-in-Some-clause-stated
properties_of-returns-in-Some-clause-stated t c =
    let found = ap (λ o. unwrap_or (option_map schemas_in o) no_properties) c.in-Some.ensures ∙ sym (properties_at-found (entries_from c.args.map.now)) in
    IfOk-weaker c.schemas_of.result _ _ (λ made so. so ∙ found) c.schemas_of.ensures.stated

pub properties_of-returns-in-None-clause-stated : goal.properties_of-returns-in-None-clause-stated
properties_of-returns-in-None-clause-stated t c =
    c.no_properties.ensures.stated
    ∙ (ap (λ o. unwrap_or (option_map schemas_in o) no_properties) c.in-None.ensures ∙ sym (properties_at-found (entries_from c.args.map.now)))

pub schemas_of-returns-in_default-clause-stated : goal.schemas_of-returns-in_default-clause-stated
schemas_of-returns-in_default-clause-stated t c =
    c.no_properties.ensures.stated ∙ schemas_plain c.args.value.now c.in_default.not-Table
