use Rattle.std.proofs.Common.{option_map}
use Rattle.doip_json.specs.Value.{text, entries_from}
use Rattle.doip_json.specs.Meaning.{value_of}
use Rattle.doip_message.specs.Asked.{content_of}
use Rattle.doip_message.specs.Reply.{output_value}
use Rattle.doip_exchange.specs.Question.{attributes_asked}
use Rattle.doip_exchange.proofs.Keys.{puts_ascend}
use Rattle.doip_exchange.proofs.writing.first_entries_of.Goals as goal

pub returns : goal.returns
returns c =
    let q = c.args.request.now in
    rw (
      c.in_ok-put_if_some-6.ensures,
      c.in_ok-put_if_some-5.ensures,
      c.in_ok-put_if_some-4.ensures,
      c.in_ok-put_if_some-3.ensures,
      c.in_ok-put_if_some-2.ensures,
      c.in_ok-put_if_some.ensures,
      c.empty-entries.ensures,
      c.in_ok-attributes.ensures,
      c.in_ok-authentication.ensures,
      c.in_ok-input.ensures,
      c.in_ok-operation.ensures,
      c.in_ok-request_id.ensures,
      c.in_ok-target.ensures,
    )
    (puts_ascend (attributes_asked (entries_from q.attributes)) (option_map value_of q.authentication)
    (output_value (content_of q.input)) (text q.operation_id) (option_map text q.request_id) (text q.target_id))
