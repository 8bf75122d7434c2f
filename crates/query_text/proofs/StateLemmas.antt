-- What may follow where something is open.
use Rattle.std.proofs.Common.{◌≡◌, ℕ, Bool, true, false, List, [], ◌∷◌, Some, refl, ap}
use Rattle.query_text.specs.declared.nesting.Due.TheVariants.{Operator}
use Rattle.query_text.specs.declared.nesting.Opened.{Opened}
use Rattle.query_text.specs.declared.nesting.Opened.TheVariants.{Group, Negation}
use Rattle.query_text.specs.declared.query.Token.{Token}
use Rattle.query_text.specs.declared.query.Token.TheVariants.{Close}
use Rattle.query_text.specs.Spelling.{Spelt}
use Rattle.query_text.specs.Reading.{term_ended, runs, Next}
use Rattle.query_text.proofs.ValueLemmas.{AfterValue}

-- a `)` for each parenthesis
unfoldable pub close_tokens : List Opened → List Token
close_tokens [] = []
close_tokens (Group ∷ opened) = Close ∷ close_tokens opened
close_tokens (Negation ∷ opened) = close_tokens opened

unfoldable pub close_text : List Opened → List ℕ
close_text [] = []
close_text (Group ∷ opened) = 41 ∷ close_text opened
close_text (Negation ∷ opened) = close_text opened

pub close_spelt : (strict : Bool) (opened : List Opened) → Spelt strict (close_text opened) (close_tokens opened)
unfolding close_text close_tokens
close_spelt strict [] = refl
close_spelt strict (Group ∷ opened) =
    ([], 41 ∷ [], close_text opened, refl, refl, refl, refl, close_spelt strict opened)
close_spelt strict (Negation ∷ opened) = close_spelt strict opened

pub close_runs : (opened : List Opened)
    → runs (Some (record { due = Operator; opened = term_ended opened })) (close_tokens opened) ≡ true
unfolding close_tokens
close_runs [] = refl
close_runs (Group ∷ opened) = close_runs opened
close_runs (Negation ∷ opened) = close_runs opened

pub white_spelt : (strict : Bool) (text : List ℕ) (tokens : List Token) → Spelt strict text tokens
    → Spelt strict (32 ∷ text) tokens
white_spelt strict text [] said = said
white_spelt strict text (token ∷ tokens) (white, spelling, rest, are, is, token_is, follows, more) =
    (32 ∷ white, spelling, rest, ap (λ t. 32 ∷ t) are, is, token_is, follows, more)

-- what may end a query after a term
pub next_goes : (opened : List Opened) (strict : Bool) → Next opened strict (32 ∷ close_text opened)
next_goes opened strict = (
  refl,
  (
    close_tokens opened,
    white_spelt strict (close_text opened) (close_tokens opened)
        (close_spelt strict opened),
    close_runs opened,
  ),
)

pub after_next : (opened : List Opened) → AfterValue (Next opened)
after_next opened = record {
  live = (32 ∷ close_text opened, next_goes opened true);
  lax = (32 ∷ close_text opened, next_goes opened false);
  glue = λ strict text said. said.0;
}
