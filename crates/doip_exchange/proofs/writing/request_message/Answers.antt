use Rattle.std.proofs.Common.{ℕ, List, ◌∷◌, ap, ◌∙◌, subst}
use Rattle.doip_json.specs.Value.{Value, table, entries_from}
use Rattle.doip_json.specs.Sound.{IsSound}
use Rattle.doip_json.specs.Text.{text_of}
use Rattle.doip_segment.specs.declared.kind.Kind.TheVariants as kinds
use Rattle.doip_segment.specs.Segments.{segment}
use Rattle.doip_message.specs.Asked.{asked_of, content_of}
use Rattle.doip_message.specs.Reading.{request}
use Rattle.doip_message.specs.Reply.{output_parts}
use Rattle.doip_exchange.proofs.QuestionLemmas.{sound_question_back}
use Rattle.doip_exchange.proofs.writing.request_message.Goals as goal

pub returns-clause-segments : goal.returns-clause-segments
returns-clause-segments c =
    c.in_ok-message.ensures.segments
    ∙ ap (λ (es : List (List ℕ × Value)). segment kinds.Json (text_of (table (entries_from es)))
    ∷ output_parts (content_of c.args.request.now.input)) c.in_ok-first.ensures

pub returns-clause-reads_back : goal.returns-clause-reads_back
returns-clause-reads_back c = λ askable.
    ap request (returns-clause-segments c)
    ∙ sound_question_back (asked_of c.args.request.now) askable
    (subst (λ (es : List (List ℕ × Value)). IsSound (table (entries_from es))) c.in_ok-first.ensures
    c.message_with.ensures.sound)
