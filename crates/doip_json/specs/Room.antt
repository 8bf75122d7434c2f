-- The room in which a value's text is written.
use Rattle.std.specs.Prelude.{ℕ, ◌+◌, ◌<◌, ◌≤◌, List, [], ◌∷◌, length, Result, MatchResult}
use Rattle.json.specs.Token.{Token}
use Rattle.json.specs.Print.{token_text}
use Rattle.doip_json.specs.Value.{Value}
use Rattle.doip_json.specs.Tokens.{tokens_of}

-- each token's text, and a byte beside it
abbrev pub tokens_room : List Token → ℕ
tokens_room [] = 0
tokens_room (t ∷ ts) = length (token_text t) + 1 + tokens_room ts

-- the room of a value: its text is no longer
abbrev pub room_of : Value → ℕ
room_of v = tokens_room (tokens_of v)

-- A write takes at most this much of the spare room, and fails only if there was less. Private writers are stated by
-- it.
abbrev pub TakesRoom : {T E : Type 0} → Result T E → ℕ → ℕ → ℕ → Type 0
TakesRoom result before after room = MatchResult result (λ _. before ≤ after + room) (λ _. before < room)
