use Rattle.doip_message.specs.Asked.{content_of}
use Rattle.doip_message.specs.Reading.{further}
use Rattle.doip_exchange.specs.Held.{view_of}
use Rattle.doip_exchange.proofs.AnswerLemmas.{replied_by}
use Rattle.doip_exchange.proofs.reading.response_with.Goals as goal

pub returns : goal.returns
returns c =
    replied_by (view_of c.args.fields) (further c.args.message.now.segments) c.in_ok-request_id.request_id
    c.in_ok-status.status c.status_of.result c.in_ok-attributes.attributes (content_of c.in_ok-output.output)
    c.in_ok-request_id.ensures c.in_ok-status.ensures c.in_ok-attributes.ensures c.in_ok-output.ensures c.status_of.ensures
