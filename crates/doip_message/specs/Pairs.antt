-- Messages, each with the text of the reply to it.
use Rattle.std.specs.Prelude.{ℕ, List, map, flat_map}
use Rattle.doip_segment.specs.Segments.{Segment}

-- A message, and the text of its reply.
pub record Pair : Type 0 where
  pub message : List Segment
  pub text : List ℕ

-- the pair of these two
abbrev pub pair : List Segment → List ℕ → Pair
pair message text = record { message = message; text = text }

-- the messages of pairs, in order
abbrev pub messages_of : List Pair → List (List Segment)
messages_of = map (λ p. p.message)

-- the texts of the replies, in order, joined
abbrev pub texts_of : List Pair → List ℕ
texts_of = flat_map (λ p. p.text)
