use Rattle.std.proofs.Common.{◌≡◌, Some, sym, ◌∙◌}
use Rattle.doip_json.specs.Meaning.{value_of}
use Rattle.dobj_model.specs.Shown.{object_with, shown_form}
use Rattle.record_core.proofs.Found.{is_table}
use Rattle.record_core.proofs.Forms.{without_times, has_metadata, five, is_some_of}
use Rattle.record_core.proofs.shown.first_json.Goals as goal

pub table_there-metadata-requires : goal.table_there-metadata-requires
table_there-metadata-requires c =
    let o = c.args.object.now in
    let same : Some (value_of c.in_ok-object_json.field-0) ≡ Some (object_with c.table_there-shown.result) = c.table_there-shown.ensures in
    let shown : object_with c.table_there-shown.result ≡ shown_form o = cc (same, c.in_ok-object_json.ensures) in
    is_table _ (five o.metadata) (c.remove.ensures.value ∙ has_metadata c.table_there-shown.result c.table_there-attributes.result o shown (sym c.table_there-attributes.ensures ∙ c.take.ensures.value))

pub returns : goal.returns
returns c =
    let o = c.args.object.now in
    let s0 = c.table_there-shown.result in
    let same : Some (value_of c.in_ok-object_json.field-0) ≡ Some (object_with s0) = c.table_there-shown.ensures in
    let shown : object_with s0 ≡ shown_form o = cc (same, c.in_ok-object_json.ensures) in
    without_times o s0 c.take.new.self c.put-2.new.self c.table_there-attributes.result c.remove.new.self c.put.new.self c.table_there-metadata.result c.remove-2.new.self c.remove-3.new.self c.in_ok-of.field-0 c.in_ok-of-2.field-0
    c.value.ensures.object.attributes.no_metadata
    shown
    (sym c.table_there-attributes.ensures ∙ c.take.ensures.value)
    (c.take.ensures.some (is_some_of c.take.result _ c.table_there-attributes.ensures))
    (sym c.table_there-metadata.ensures ∙ c.remove.ensures.value)
    c.remove.ensures.rest
    c.remove-2.ensures.rest
    c.remove-3.ensures.rest
    c.in_ok-put.ensures.ok
    c.in_ok-of.ensures
    c.in_ok-put-2.ensures.ok
    c.in_ok-of-2.ensures
