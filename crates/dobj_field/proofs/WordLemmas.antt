-- A text that begins as a word of the grammar does, and goes on otherwise.
use Rattle.std.proofs.Common.{◌≡◌, ◌≢◌, ℕ, ◌+◌, ◌<◌, ◌≤◌, List, [], ◌∷◌, ◌++◌, length, get_or, take, drop, refl, sym}
use Rattle.std.proofs.Common.{ap, ◌∙◌, subst, arith, codes, length-append}
use Rattle.std.proofs.lemmas.List.{take-append-drop, get_or_append_left, get_or-take, length-take}
use Rattle.dobj_field.specs.declared.field.Field.TheVariants.{Id, OfType, Pointer}
use Rattle.dobj_field.specs.Field.{NamesField}
use Rattle.dobj_field.specs.Breaks.{BreaksAt}

-- a field whose text begins with `t`
names_type : (text : List ℕ) → get_or text 0 0 ≡ 116 → NamesField text → text ≡ codes "type"
names_type text head (Id, same) =
    let first : get_or text 0 0 ≡ 105 = ap (λ (l : List ℕ). get_or l 0 0) same in absurd (omega arith)
names_type text head (OfType, same) = same
names_type text head (Pointer tokens, (rest, same, found)) =
    let first : get_or text 0 0 ≡ 47 = ap (λ (l : List ℕ). get_or l 0 0) same in absurd (omega arith)

-- a field whose text begins with neither `/` nor `t`
names_id : (text : List ℕ) → get_or text 0 0 ≢ 47 → get_or text 0 0 ≢ 116 → NamesField text → text ≡ codes "id"
names_id text slash t (Id, same) = same
names_id text slash t (OfType, same) = absurd (t (ap (λ (l : List ℕ). get_or l 0 0) same))
names_id text slash t (Pointer tokens, (rest, same, found)) = absurd (slash (ap (λ (l : List ℕ). get_or l 0 0) same))

-- the byte at a place that both have
byte_there : (text more : List ℕ) (n : ℕ) → n < length text → get_or (take (n + 1) text ++ more) n 0 ≡ get_or text n 0
byte_there text more n h =
    get_or_append_left (take (n + 1) text) more 0 n (omega (arith, length-take (n + 1) text))
    ∙ get_or-take (n + 1) text n 0 (omega arith)

first_there : (text more : List ℕ) (n : ℕ) → n < length text → get_or (take (n + 1) text ++ more) 0 0 ≡ get_or text 0 0
first_there text more n h =
    get_or_append_left (take (n + 1) text) more 0 0 (omega (arith, length-take (n + 1) text))
    ∙ get_or-take (n + 1) text 0 0 (omega arith)

long : (text more : List ℕ) (n : ℕ) → n < length text → n < length (take (n + 1) text ++ more)
long text more n h = omega (arith, length-append (take (n + 1) text) more, length-take (n + 1) text)

names_nothing : NamesField [] → ⊥
names_nothing (Id, same) = cc
names_nothing (OfType, same) = cc
names_nothing (Pointer tokens, (rest, same, found)) = cc

-- the text has n bytes of the word, and no more of them
pub word_breaks : (text word : List ℕ) (n : ℕ) → 0 < length text → n ≤ length text → n ≤ length word
    → take n text ≡ take n word
    → (n < length text → n < length word → get_or text n 0 ≡ get_or word n 0 → ⊥)
    → (n ≡ length word → n ≡ length text → ⊥)
    → NamesField word → ((other : List ℕ) → get_or other 0 0 ≡ get_or text 0 0 → NamesField other → other ≡ word)
    → BreaksAt NamesField text n
word_breaks text word n some in_text in_word same differs whole named only = record {
  within = in_text;
  begins = (drop n word, subst NamesField (sym (ap (λ t. t ++ drop n word) same ∙ take-append-drop n word)) named);
  ends = λ h more other.
      let is = only (take (n + 1) text ++ more) (first_there text more n h) other in
      differs h (subst (λ l. n < length l) is (long text more n h))
      (sym (byte_there text more n h) ∙ ap (λ (l : List ℕ). get_or l n 0) is);
  short = λ e other. let is = only text refl other in whole (e ∙ ap length is) e;
}

pub type_breaks : (text : List ℕ) (n : ℕ) → 0 < length text → get_or text 0 0 ≡ 116 → n ≤ length text → n ≤ 4
    → take n text ≡ take n (codes "type")
    → (n < length text → n < 4 → get_or text n 0 ≡ get_or (codes "type") n 0 → ⊥) → (n ≡ 4 → n ≡ length text → ⊥)
    → BreaksAt NamesField text n
type_breaks text n some head in_text in_word same differs whole =
    word_breaks text (codes "type") n some in_text in_word same differs whole (OfType, refl)
    (λ other e. names_type other (e ∙ head))

pub id_breaks : (text : List ℕ) (n : ℕ) → 0 < length text → get_or text 0 0 ≢ 47 → get_or text 0 0 ≢ 116
    → n ≤ length text → n ≤ 2 → take n text ≡ take n (codes "id")
    → (n < length text → n < 2 → get_or text n 0 ≡ get_or (codes "id") n 0 → ⊥) → (n ≡ 2 → n ≡ length text → ⊥)
    → BreaksAt NamesField text n
id_breaks text n some slash t in_text in_word same differs whole =
    word_breaks text (codes "id") n some in_text in_word same differs whole (Id, refl)
    (λ other e. names_id other (λ h. slash (sym e ∙ h)) (λ h. t (sym e ∙ h)))

pub empty_breaks : (text : List ℕ) → length text ≡ 0 → BreaksAt NamesField text 0
empty_breaks [] none = record {
  within = omega arith;
  begins = (codes "id", (Id, refl));
  ends = λ h. absurd (omega arith);
  short = λ e named. names_nothing named;
}
empty_breaks (x ∷ text) none = absurd (omega arith)
