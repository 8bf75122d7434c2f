-- What a decoder that wants more bytes has taken.
use Rattle.std.proofs.Common.{◌≡◌, inl, inr, ℕ, List, sym, ◌∙◌}
use Rattle.std.specs.List.{AllByRecursion}
use Rattle.doip_segment.specs.declared.outcome.Step.TheVariants as steps
use Rattle.doip_segment.specs.Grammar.{IsWhite}
use Rattle.doip_segment.specs.Decoding.{Decoding, EndsBetween}

-- a decoder that wants more bytes and ends between messages has taken white bytes alone
pub white_between : (d : Decoding) (rest : List ℕ) → d.standing ≡ steps.More → EndsBetween d rest
    → AllByRecursion IsWhite rest
white_between d rest none (inl stands) = let e = sym none ∙ stands in absurd (cc e)
white_between d rest none (inr both) = both.1

-- and the other way round
pub between_white : (d : Decoding) (rest : List ℕ) → d.standing ≡ steps.More → AllByRecursion IsWhite rest
    → EndsBetween d rest
between_white d rest none white = inr (none, white)
