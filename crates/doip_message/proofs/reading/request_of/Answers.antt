use Rattle.std.proofs.Common.{refl, option_map}
use Rattle.doip_json.specs.Value.{table, entries_from}
use Rattle.doip_json.specs.Meaning.{value_of}
use Rattle.doip_message.specs.Fields.{view_of, asking_view}
use Rattle.doip_message.proofs.RequestLemmas.{asks, fails}
use Rattle.doip_message.proofs.reading.request_of.Goals as goal

pub returns-in-Ok-asking_of : goal.returns-in-Ok-asking_of
returns-in-Ok-asking_of c =
    asks c.args.message.now.segments (table (entries_from c.in-Ok.object)) (view_of c.fields_of-fields.result) (option_map value_of c.take.new.self)
    c.fields_of-fields.result.request_id c.take.result c.in-Ok-optional_text_of.request_id (asking_view c.in-Ok-asking_of.asking)
    c.in-Ok.ensures c.fields_of-fields.ensures refl c.take.ensures.value c.in-Ok-optional_text_of.ensures c.in-Ok-asking_of.ensures

pub returns-in-Err-asking_of : goal.returns-in-Err-asking_of
returns-in-Err-asking_of c =
    fails c.args.message.now.segments (table (entries_from c.in-Ok.object)) (view_of c.fields_of-fields.result) (option_map value_of c.take.new.self)
    c.fields_of-fields.result.request_id c.take.result c.in-Ok-optional_text_of.request_id c.in-Err-asking_of.why
    c.in-Ok.ensures c.fields_of-fields.ensures refl c.take.ensures.value c.in-Ok-optional_text_of.ensures c.in-Err-asking_of.ensures
