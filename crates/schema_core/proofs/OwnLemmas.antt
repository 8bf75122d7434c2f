-- What a value fails by itself.
use Rattle.std.proofs.Common.{◌≡◌, ℕ, ◌<◌, ◌≤◌, List, [], ◌∷◌, length, get_or, suc, zero, Bool, IsTrue, Option, Some, refl, sym, ap, arith, ◌↔◌}
use Rattle.doip_json.specs.Value.{Value, list, values_from}
use Rattle.doip_json.proofs.PlainLists.{values_listed}
use Rattle.schema_core.specs.declared.word.SchemaWord.{SchemaWord}
use Rattle.schema_core.specs.declared.word.SchemaWord.TheVariants as word
use Rattle.schema_core.specs.First.{turn_of}
use Rattle.schema_core.specs.declared.words.Words.{Words}
use Rattle.schema_core.specs.Failing.{array_in, AreBothAnd, FailsHere}

-- a test on the number of items, if the array and the bound are there
pub by_items : (o : Option ℕ) (v : Value) (bound : ℕ) (vs : List Value) (P : ℕ → ℕ → Type 0) (b : Bool)
    → o ≡ Some bound → v ≡ list (values_from vs) → (IsTrue b ↔ P bound (length vs))
    → (IsTrue b ↔ AreBothAnd o (array_in v) (λ n xs. P n (length xs)))
by_items o v bound vs P b there is both = rw (there, is, values_listed vs) both

-- the words in the order in which they are tried on one value
abbrev pub order : List SchemaWord
order =
    word.Kind ∷ word.Enum ∷ word.Minimum ∷ word.Maximum ∷ word.MinLength ∷ word.MaxLength ∷ word.MinItems ∷ word.MaxItems
    ∷ word.Required ∷ []

pub in_turn : (i : ℕ) → i < 9 → turn_of (get_or order i word.Kind) ≡ i
in_turn zero h = refl
in_turn (suc zero) h = refl
in_turn (suc (suc zero)) h = refl
in_turn (suc (suc (suc zero))) h = refl
in_turn (suc (suc (suc (suc zero)))) h = refl
in_turn (suc (suc (suc (suc (suc zero))))) h = refl
in_turn (suc (suc (suc (suc (suc (suc zero)))))) h = refl
in_turn (suc (suc (suc (suc (suc (suc (suc zero))))))) h = refl
in_turn (suc (suc (suc (suc (suc (suc (suc (suc zero)))))))) h = refl
in_turn (suc (suc (suc (suc (suc (suc (suc (suc (suc i))))))))) h = absurd (omega arith)

-- the word whose turn it is
pub whose_turn : (w : SchemaWord) (i : ℕ) → turn_of w ≡ i → i < 9 → get_or order i word.Kind ≡ w
whose_turn word.Kind i e h = ap (λ n. get_or order n word.Kind) (sym e)
whose_turn word.Enum i e h = ap (λ n. get_or order n word.Kind) (sym e)
whose_turn word.Minimum i e h = ap (λ n. get_or order n word.Kind) (sym e)
whose_turn word.Maximum i e h = ap (λ n. get_or order n word.Kind) (sym e)
whose_turn word.MinLength i e h = ap (λ n. get_or order n word.Kind) (sym e)
whose_turn word.MaxLength i e h = ap (λ n. get_or order n word.Kind) (sym e)
whose_turn word.MinItems i e h = ap (λ n. get_or order n word.Kind) (sym e)
whose_turn word.MaxItems i e h = ap (λ n. get_or order n word.Kind) (sym e)
whose_turn word.Required i e h = ap (λ n. get_or order n word.Kind) (sym e)
whose_turn word.AdditionalProperties i e h = absurd (omega arith)
whose_turn word.Properties i e h = absurd (omega arith)
whose_turn word.Items i e h = absurd (omega arith)

-- a word that has no turn among these has no failure by itself
pub out_of_turn : (words : Words) (v : Value) (w : SchemaWord) → 9 ≤ turn_of w → ¬ (FailsHere words v w)
out_of_turn words v word.Kind late fails = absurd (omega arith)
out_of_turn words v word.Enum late fails = absurd (omega arith)
out_of_turn words v word.Minimum late fails = absurd (omega arith)
out_of_turn words v word.Maximum late fails = absurd (omega arith)
out_of_turn words v word.MinLength late fails = absurd (omega arith)
out_of_turn words v word.MaxLength late fails = absurd (omega arith)
out_of_turn words v word.MinItems late fails = absurd (omega arith)
out_of_turn words v word.MaxItems late fails = absurd (omega arith)
out_of_turn words v word.Required late fails = absurd (omega arith)
out_of_turn words v word.AdditionalProperties late fails = fails
out_of_turn words v word.Properties late fails = fails
out_of_turn words v word.Items late fails = fails
