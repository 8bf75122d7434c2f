-- Spellings one after another, and the framing of the bytes that they begin.
use Rattle.std.proofs.Common.{ℕ, List, [], ◌∷◌, ◌++◌, refl, sym, ap, ◌∙◌, subst, append_assoc, append-nil}
use Rattle.doip_segment.specs.declared.outcome.Limits.{Limits}
use Rattle.doip_segment.specs.Segments.{Segment}
use Rattle.doip_segment.specs.Framing.{Spelt, Framed, NothingSpelt}
use Rattle.std.specs.Prelude.{◌≡◌}

-- The bytes are spellings of these messages, in order, and nothing else.
abbrev pub Spells : Limits → List ℕ → List (List Segment) → Type 0
Spells limits bytes [] = bytes ≡ []
Spells limits bytes (message ∷ messages) =
    (prefix after : List ℕ) × Spelt limits prefix message × (bytes ≡ prefix ++ after) × Spells limits after messages

-- one message more
pub spells_more : (limits : Limits) (bytes spelling : List ℕ) (messages : List (List Segment)) (message : List Segment)
    → Spells limits bytes messages → Spelt limits spelling message
    → Spells limits (bytes ++ spelling) (messages ++ message ∷ [])
spells_more limits bytes spelling [] message h one =
    (spelling, [], one, ap (λ (w : List ℕ). w ++ spelling) h ∙ sym (append-nil spelling), refl)
spells_more limits bytes spelling (m ∷ messages) message h one = (
  h.0,
  h.1 ++ spelling,
  h.2,
  ap (λ (w : List ℕ). w ++ spelling) h.3 ∙ append_assoc h.0 h.1 spelling,
  spells_more limits h.1 spelling messages message h.4 one,
)

-- what follows the spellings is framed as it is alone
pub spells_framed : (limits : Limits) (bytes after : List ℕ) (messages others : List (List Segment)) (rest : List ℕ)
    → Spells limits bytes messages → Framed limits after others rest
    → Framed limits (bytes ++ after) (messages ++ others) rest
spells_framed limits bytes after [] others rest h framed =
    subst (λ (w : List ℕ). Framed limits w others rest) (sym (ap (λ (w : List ℕ). w ++ after) h)) framed
spells_framed limits bytes after (m ∷ messages) others rest h framed = (
  h.0,
  h.1 ++ after,
  h.2,
  ap (λ (w : List ℕ). w ++ after) h.3 ∙ append_assoc h.0 h.1 after,
  spells_framed limits h.1 after messages others rest h.4 framed,
)

-- spellings and a rest of which no prefix is one
pub spells_rest : (limits : Limits) (bytes rest : List ℕ) (messages : List (List Segment))
    → Spells limits bytes messages → NothingSpelt limits rest → Framed limits (bytes ++ rest) messages rest
spells_rest limits bytes rest messages h none =
    subst (λ (ms : List (List Segment)). Framed limits (bytes ++ rest) ms rest) (append-nil messages)
    (spells_framed limits bytes rest messages [] rest h (refl, none))
