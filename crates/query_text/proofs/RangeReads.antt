-- A range that is read part by part.
use Rattle.std.proofs.Common.{◌≡◌, ℕ, ◌+◌, ◌<◌, ◌≤◌, ◌⊎◌, inl, inr, ℤ, Bool, true, false, List, [], ◌∷◌, ◌++◌, length, take, drop, Option, Some, None, Result, Err, refl, sym, ap, ◌∙◌, subst, arith, append_assoc, length-drop}
use Rattle.std.proofs.lemmas.List.{length-take}
use Rattle.std.proofs.Math.Seq.{take-add}
use Rattle.dobj_field.specs.declared.reach.ScalarTest.{ScalarTest}
use Rattle.dobj_field.specs.declared.reach.ScalarTest.TheVariants.{Equals, Begins, Between}
use Rattle.query_text.specs.declared.nesting.Opened.{Opened}
use Rattle.query_text.specs.Spelling.{begins_word, IsWord, IsRange, IsValue, IsGap, IsBound}
use Rattle.query_text.specs.Faults.{IsFault}
use Rattle.query_text.specs.Stages.{first, Leads, Word, White, Gap, Bound, Value, Range}
use Rattle.query_text.specs.Reading.{Next, is_sharp, Apart, IsBoundRead, NoBound, BreaksBound, IsWhiteRead, IsWordRead, BreaksWord, IsValueRead, BreaksValue, Shared}
use Rattle.query_text.proofs.Languages.{stage_on, stage_fault}
use Rattle.query_text.proofs.StageLemmas.{Live, word_leads, word_faults, white_leads, gap_leads, gap_faults, white_live, word_live, gap_live}
use Rattle.query_text.proofs.BoundLemmas.{AfterBound, bound_leads, star_leads, past_bound, no_bound, lone_minus}
use Rattle.query_text.proofs.ValueLemmas.{AfterValue}
use Rattle.query_text.proofs.StateLemmas.{after_next}
use Rattle.query_text.proofs.RangeLemmas.{word_sharp, bound_sharp, gap_after, close_after}

heads : (x y : ℕ) (a b : List ℕ) → x ∷ a ≡ y ∷ b → x ≡ y
heads x y a b same = cc

tails : (x y : ℕ) (a b : List ℕ) → x ∷ a ≡ y ∷ b → a ≡ b
tails x y a b same = cc

square_word : (bytes rest text : List ℕ) → 91 ∷ text ≡ bytes ++ rest → begins_word bytes ≡ true → ⊥
square_word [] rest text are begins = cc
square_word (x ∷ bytes) rest text are begins =
    let byte : x ≡ 91 = sym (heads 91 x text (bytes ++ rest) are) in
    let bad : begins_word (91 ∷ bytes) ≡ true = subst (λ y. begins_word (y ∷ bytes) ≡ true) byte begins in cc

square_prefix : (start bytes rest text spelt : List ℕ) → 91 ∷ text ≡ bytes ++ rest → bytes ≡ start ++ 42 ∷ []
    → IsWord start spelt ⊎ ((start ≡ []) × (spelt ≡ [])) → ⊥
square_prefix start bytes rest text spelt are is (inl word) =
    square_word start (42 ∷ rest) text (are ∙ (ap (λ b. b ++ rest) is ∙ append_assoc start (42 ∷ []) rest)) word.0
square_prefix start bytes rest text spelt are is (inr none) =
    let byte = heads 91 42 text rest (are ∙ (ap (λ b. b ++ rest) is ∙ ap (λ s. (s ++ 42 ∷ []) ++ rest) none.0)) in
    absurd (omega arith)

-- the parts of a range, and what follows
range_of : (before one gap later two after tail : List ℕ) → List ℕ
range_of before one gap later two after tail =
    before ++ (one ++ (gap ++ 84 ∷ 79 ∷ (later ++ (two ++ (after ++ 93 ∷ tail)))))

range_joined : (before one gap later two after tail : List ℕ)
    → range_of before one gap later two after [] ++ tail ≡ range_of before one gap later two after tail
unfolding range_of
range_joined before one gap later two after tail = simp append_assoc

square_range : (K : Bool → List ℕ → Type 0) (strict : Bool) (bytes rest text : List ℕ) (low high : Option ℤ)
    → 91 ∷ text ≡ bytes ++ rest
    → IsRange strict bytes low high → K strict rest → Range K strict text
unfolding range_of
square_range K strict bytes rest text low high are is said =
    let inside = range_of is.before is.first is.gap is.later_gap is.second is.after [] in
    let whole : text ≡ range_of is.before is.first is.gap is.later_gap is.second is.after rest =
    tails 91 91 text (inside ++ rest) (are ∙ ap (λ b. b ++ rest) is.are)
    ∙ range_joined is.before is.first is.gap is.later_gap is.second is.after rest in (
      is.before,
      is.first ++ (is.gap ++ 84 ∷ 79 ∷ (is.later_gap ++ (is.second ++ (is.after ++ 93 ∷ rest)))),
      whole,
      is.before_white,
      (
        is.first,
        is.gap ++ 84 ∷ 79 ∷ (is.later_gap ++ (is.second ++ (is.after ++ 93 ∷ rest))),
        low,
        refl,
        is.low_is,
        (
          is.gap,
          84 ∷ 79 ∷ (is.later_gap ++ (is.second ++ (is.after ++ 93 ∷ rest))),
          refl,
          is.gap_is,
          (
            is.later_gap ++ (is.second ++ (is.after ++ 93 ∷ rest)),
            refl,
            (
              is.later_gap,
              is.second ++ (is.after ++ 93 ∷ rest),
              refl,
              is.later_gap_is,
              (
                is.second,
                is.after ++ 93 ∷ rest,
                high,
                refl,
                is.high_is,
                (is.after, 93 ∷ rest, refl, is.after_white, (rest, refl, said)),
              ),
            ),
          ),
        ),
      ),
    )

square_test : (K : Bool → List ℕ → Type 0) (strict : Bool) (bytes rest text : List ℕ) (test : ScalarTest)
    → 91 ∷ text ≡ bytes ++ rest
    → IsValue strict bytes test → K strict rest → Range K strict text
square_test K strict bytes rest text (Equals spelt) are (inl word) said =
    absurd (square_word bytes rest text are word.0)
square_test K strict bytes rest text (Equals spelt) are (inr quoted) said =
    let byte = heads 91 34 text ((quoted.0 ++ 34 ∷ []) ++ rest) (are ∙ ap (λ b. b ++ rest) quoted.1) in
    absurd (omega arith)
square_test K strict bytes rest text (Begins spelt) are is said =
    absurd (square_prefix is.0 bytes rest text spelt are is.1 is.2)
square_test K strict bytes rest text (Between low high) are is said =
    square_range K strict bytes rest text low high are is said

square_spells : (K : Bool → List ℕ → Type 0) (strict : Bool) (text : List ℕ) → Range K strict text
    → Value K strict (91 ∷ text)
unfolding range_of
square_spells K strict text (
  before,
  r1,
  are1,
  before_white,
  (
    one,
    r2,
    low,
    are2,
    low_is,
    (
      gap,
      r3,
      are3,
      gap_is,
      (
        r4,
        are4,
        (
          later,
          r5,
          are5,
          later_is,
          (two, r6, high, are6, high_is, (after, r7, are7, after_white, (rest, are8, said))),
        ),
      ),
    ),
  ),
) =
    let whole : text ≡ range_of before one gap later two after rest =
    are1 ∙ ap (λ t. before ++ t) (are2 ∙ ap (λ t. one ++ t) (are3 ∙ ap (λ t. gap ++ t) (are4 ∙ ap (λ t. 84 ∷ 79 ∷ t)
    (are5 ∙ ap (λ t. later ++ t) (are6 ∙ ap (λ t. two ++ t) (are7 ∙ ap (λ t. after ++ t) are8)))))) in (
      91 ∷ range_of before one gap later two after [],
      rest,
      Between low high,
      ap (λ t. 91 ∷ t) (whole ∙ sym (range_joined before one gap later two after rest)),
      record {
        before = before;
        first = one;
        gap = gap;
        later_gap = later;
        second = two;
        after = after;
        are = refl;
        before_white = before_white;
        low_is = low_is;
        gap_is = gap_is;
        later_gap_is = later_is;
        high_is = high_is;
        after_white = after_white;
      },
      said,
    )

pub square_leads : (K : Bool → List ℕ → Type 0) (rest : List ℕ) → Leads (Value K) (Range K) (91 ∷ []) rest
square_leads K rest = record {
  forth = λ strict more said. square_spells K strict more said;
  back = λ strict more same (bytes, after, test, are, is, said). square_test K strict bytes after more test are is said;
}

abbrev pub Part8 : (Bool → List ℕ → Type 0) → Bool → List ℕ → Type 0
Part8 K = Word (93 ∷ []) K

abbrev pub Part7 : (Bool → List ℕ → Type 0) → Bool → List ℕ → Type 0
Part7 K = White (Part8 K)

abbrev pub Part6 : (Bool → List ℕ → Type 0) → Bool → List ℕ → Type 0
Part6 K = Bound (Part7 K)

abbrev pub Part5 : (Bool → List ℕ → Type 0) → Bool → List ℕ → Type 0
Part5 K = Gap (Part6 K)

abbrev pub Part4 : (Bool → List ℕ → Type 0) → Bool → List ℕ → Type 0
Part4 K = Word (84 ∷ 79 ∷ []) (Part5 K)

abbrev pub Part3 : (Bool → List ℕ → Type 0) → Bool → List ℕ → Type 0
Part3 K = Gap (Part4 K)

abbrev pub Part2 : (Bool → List ℕ → Type 0) → Bool → List ℕ → Type 0
Part2 K = Bound (Part3 K)

live8 : (K : Bool → List ℕ → Type 0) → Live K → Live (Part8 K)
live8 K live = word_live (93 ∷ []) K live

star_live : (N : Bool → List ℕ → Type 0) → Live N → Live (Bound N)
star_live N live = (42 ∷ live.0, (42 ∷ [], live.0, None, refl, refl, live.1))

live6 : (K : Bool → List ℕ → Type 0) → Live K → Live (Part6 K)
live6 K live = star_live (Part7 K) (white_live (Part8 K) (live8 K live))

live5 : (K : Bool → List ℕ → Type 0) → Live K → Live (Part5 K)
live5 K live = gap_live (Part6 K) (live6 K live)

live4 : (K : Bool → List ℕ → Type 0) → Live K → Live (Part4 K)
live4 K live = word_live (84 ∷ 79 ∷ []) (Part5 K) (live5 K live)

lax4 : (K : Bool → List ℕ → Type 0) → ((more : List ℕ) × K false more) → (more : List ℕ) × Part4 K false more
lax4 K lax =
    let eight : Part8 K false (93 ∷ lax.0) = (lax.0, refl, lax.1) in
    let seven : Part7 K false (93 ∷ lax.0) = ([], 93 ∷ lax.0, refl, refl, eight) in
    let six : Part6 K false (42 ∷ 93 ∷ lax.0) = (42 ∷ [], 93 ∷ lax.0, None, refl, refl, seven) in
    let five : Part5 K false (32 ∷ 42 ∷ 93 ∷ lax.0) = (32 ∷ [], 42 ∷ 93 ∷ lax.0, refl, ((λ e. cc), refl), six) in
    (84 ∷ 79 ∷ 32 ∷ 42 ∷ 93 ∷ lax.0, (32 ∷ 42 ∷ 93 ∷ lax.0, refl, five))

after3 : (K : Bool → List ℕ → Type 0) → AfterValue K → AfterBound (Part3 K)
after3 K k = gap_after (Part4 K) (live4 K k.live) (lax4 K k.lax)

after7 : (K : Bool → List ℕ → Type 0) → AfterValue K → AfterBound (Part7 K)
after7 K k = close_after K k.live k.lax

-- a text is read up to this place, and goes on so
pub record Stage (text : List ℕ) (at : ℕ) (Part : (Bool → List ℕ → Type 0) → Bool → List ℕ → Type 0) : Type 0 where
  pub fits : at ≤ length text
  pub leads : (opened : List Opened) → Leads (Value (Next opened)) (Part (Next opened)) (take at text) (drop at text)

on : (text : List ℕ) (at n end : ℕ) (Part Then : (Bool → List ℕ → Type 0) → Bool → List ℕ → Type 0)
    → Stage text at Part → end ≡ at + n → end ≤ length text
    → ((opened : List Opened) → Leads (Part (Next opened)) (Then (Next opened)) (take n (drop at text))
    (drop n (drop at text))) → Stage text end Then
on text at n end Part Then s is fits a = record {
  fits = fits;
  leads = λ opened. subst (λ e. Leads (Value (Next opened)) (Then (Next opened)) (take e text) (drop e text)) (sym is)
      (stage_on (Value (Next opened)) (Part (Next opened)) (Then (Next opened)) text at n (s.leads opened) (a opened));
}

fails : (text : List ℕ) (at k place : ℕ) (Part : (Bool → List ℕ → Type 0) → Bool → List ℕ → Type 0)
    → Stage text at Part → place ≡ at + k
    → ((opened : List Opened) → IsFault (Part (Next opened)) (drop at text) k) → BreaksValue text place
fails text at k place Part s is fault opened =
    subst (IsFault (Value (Next opened)) text) (sym is)
    (stage_fault (Value (Next opened)) (Part (Next opened)) text at k s.fits (s.leads opened) (fault opened))

pub opened_range : (text : List ℕ) → Stage (91 ∷ text) 1 Range
opened_range text = record { fits = omega arith; leads = λ opened. square_leads (Next opened) text }

pub white_read : (text : List ℕ) (at end : ℕ) → Stage text at Range → IsWhiteRead text at end → Stage text end Part2
white_read text at end s w = on text at w.len end Range Part2 s w.end_is w.fits
    (λ opened. white_leads (take w.len (drop at text)) (drop w.len (drop at text)) (Part2 (Next opened))
    (bound_sharp (Part3 (Next opened))) w.white w.sharp)

pub closing_white : (text : List ℕ) (at end : ℕ) → Stage text at Part7 → IsWhiteRead text at end → Stage text end Part8
closing_white text at end s w =
    on text at w.len end Part7 Part8 s w.end_is w.fits
    (λ opened. white_leads (take w.len (drop at text)) (drop w.len (drop at text)) (Part8 (Next opened))
    (word_sharp 93 [] (Next opened) refl) w.white w.sharp)

bound_goes : (N : Bool → List ℕ → Type 0) → AfterBound N → (bytes rest : List ℕ) (bound : Option ℤ)
    → IsBound true bytes bound → Apart bound rest → Leads (Bound N) N bytes rest
bound_goes N n bytes rest None is apart = subst (λ b. Leads (Bound N) N b rest) (sym is) (star_leads N rest)
bound_goes N n bytes rest (Some z) is apart = bound_leads N n bytes rest z is.0 is.1 apart

pub low_read : (text : List ℕ) (at end : ℕ) (bound : Option ℤ) → Stage text at Part2 → IsBoundRead text at bound end
    → Stage text end Part3
low_read text at end bound s b =
    on text at b.len end Part2 Part3 s b.end_is b.fits
    (λ opened. bound_goes (Part3 (Next opened)) (after3 (Next opened) (after_next opened)) (take b.len (drop at text))
    (drop b.len (drop at text)) bound b.is b.apart)

pub high_read : (text : List ℕ) (at end : ℕ) (bound : Option ℤ) → Stage text at Part6 → IsBoundRead text at bound end
    → Stage text end Part7
high_read text at end bound s b =
    on text at b.len end Part6 Part7 s b.end_is b.fits
    (λ opened. bound_goes (Part7 (Next opened)) (after7 (Next opened) (after_next opened)) (take b.len (drop at text))
    (drop b.len (drop at text)) bound b.is b.apart)

some_white : (text : List ℕ) (at end : ℕ) (w : IsWhiteRead text at end) → at < end → IsGap (take w.len (drop at text))
some_white text at end w far = (
  (λ none. absurd
      (omega (
        arith,
        ap (length {A = ℕ}) none,
        length-take w.len
            (drop at text),
        length-drop at text,
        w.end_is,
        w.fits,
      ))),
  w.white,
)

pub gap_read : (text : List ℕ) (at end : ℕ) → Stage text at Part3 → IsWhiteRead text at end → at < end
    → Stage text end Part4
gap_read text at end s w far = on text at w.len end Part3 Part4 s w.end_is w.fits
    (λ opened. gap_leads (take w.len (drop at text)) (drop w.len (drop at text)) (Part4 (Next opened))
    (word_sharp 84 (79 ∷ []) (Part5 (Next opened)) refl) (some_white text at end w far) w.sharp)

pub later_gap_read : (text : List ℕ) (at end : ℕ) → Stage text at Part5 → IsWhiteRead text at end → at < end
    → Stage text end Part6
later_gap_read text at end s w far =
    on text at w.len end Part5 Part6 s w.end_is w.fits
    (λ opened. gap_leads (take w.len (drop at text)) (drop w.len (drop at text)) (Part6 (Next opened))
    (bound_sharp (Part7 (Next opened))) (some_white text at end w far) w.sharp)

pub to_read : (text : List ℕ) (at end : ℕ) → Stage text at Part4 → IsWordRead text at (84 ∷ 79 ∷ []) end
    → Stage text end Part5
to_read text at end s w = on text at 2 end Part4 Part5 s w.end_is w.fits
    (λ opened. subst (λ b. Leads (Part4 (Next opened)) (Part5 (Next opened)) b (drop 2 (drop at text))) (sym w.is)
    (word_leads (84 ∷ 79 ∷ []) (drop 2 (drop at text)) (Part5 (Next opened))))

pub close_read : (text : List ℕ) (at end : ℕ) → Stage text at Part8 → IsWordRead text at (93 ∷ []) end
    → Stage text end (λ K. K)
close_read text at end s w = on text at 1 end Part8 (λ K. K) s w.end_is w.fits
    (λ opened. subst (λ b. Leads (Part8 (Next opened)) (Next opened) b (drop 1 (drop at text))) (sym w.is)
    (word_leads (93 ∷ []) (drop 1 (drop at text)) (Next opened)))

bound_fails : (N : Bool → List ℕ → Type 0) → AfterBound N → (rest : List ℕ) (k : ℕ) → NoBound rest k
    → IsFault (Bound N) rest k
bound_fails N n rest k (inl (zero_is, blunt, minus, star)) =
    subst (IsFault (Bound N) rest) (sym zero_is) (no_bound N n rest blunt minus star)
bound_fails N n rest k (inr (inl (one, (more, are, blunt)))) =
    subst (λ r. IsFault (Bound N) r k) (sym are)
    (subst (IsFault (Bound N) (45 ∷ more)) (sym one) (lone_minus N n more blunt))
bound_fails N n rest k (inr (inr (zero_is, (numeral, more, number, are, is, past)))) =
    subst (λ r. IsFault (Bound N) r k) (sym are)
    (subst (IsFault (Bound N) (numeral ++ more)) (sym zero_is) (past_bound N n numeral more number is past))

pub low_fails : (text : List ℕ) (at place : ℕ) → Stage text at Part2 → BreaksBound text at place
    → BreaksValue text place
low_fails text at place s b = fails text at b.0 place Part2 s b.1
    (λ opened. bound_fails (Part3 (Next opened)) (after3 (Next opened) (after_next opened)) (drop at text) b.0 b.3)

pub high_fails : (text : List ℕ) (at place : ℕ) → Stage text at Part6 → BreaksBound text at place
    → BreaksValue text place
high_fails text at place s b = fails text at b.0 place Part6 s b.1
    (λ opened. bound_fails (Part7 (Next opened)) (after7 (Next opened) (after_next opened)) (drop at text) b.0 b.3)

no_white : (text : List ℕ) (at end : ℕ) (w : IsWhiteRead text at end) → end ≡ at → is_sharp (drop at text) ≡ true
no_white text at end w none =
    let nothing : w.len ≡ 0 = omega (arith, w.end_is) in
    subst (λ n. is_sharp (drop n (drop at text)) ≡ true) nothing w.sharp

pub gap_fails : (text : List ℕ) (at end : ℕ) → Stage text at Part3 → IsWhiteRead text at end → end ≡ at
    → BreaksValue text at
gap_fails text at end s w none =
    fails text at 0 at Part3 s (omega arith)
    (λ opened. gap_faults (drop at text) (Part4 (Next opened)) (live4 (Next opened) (after_next opened).live)
    (no_white text at end w none))

pub later_gap_fails : (text : List ℕ) (at end : ℕ) → Stage text at Part5 → IsWhiteRead text at end → end ≡ at
    → BreaksValue text at
later_gap_fails text at end s w none =
    fails text at 0 at Part5 s (omega arith)
    (λ opened. gap_faults (drop at text) (Part6 (Next opened)) (live6 (Next opened) (after_next opened).live)
    (no_white text at end w none))

word_fails : (rest word : List ℕ) (k : ℕ) (N : Bool → List ℕ → Type 0) → Live N → k < length word → Shared rest word k
    → IsFault (Word word N) rest k
word_fails rest word k N live fits s = word_faults word rest k N live fits s.text s.same (λ inside. s.other inside fits)

pub to_fails : (text : List ℕ) (at place : ℕ) → Stage text at Part4 → BreaksWord text at (84 ∷ 79 ∷ []) place
    → BreaksValue text place
to_fails text at place s b = fails text at b.0 place Part4 s b.1
    (λ opened. word_fails (drop at text) (84 ∷ 79 ∷ []) b.0 (Part5 (Next opened))
    (live5 (Next opened) (after_next opened).live) b.3 b.4)

pub close_fails : (text : List ℕ) (at place : ℕ) → Stage text at Part8 → BreaksWord text at (93 ∷ []) place
    → BreaksValue text place
close_fails text at place s b =
    fails text at b.0 place Part8 s b.1
    (λ opened. word_fails (drop at text) (93 ∷ []) b.0 (Next opened) (after_next opened).live b.3 b.4)

-- a text with a `[` at its head
pub range_begins : (text : List ℕ) → first text ≡ Some 91 → Stage text 1 Range
range_begins [] head = cc
range_begins (x ∷ text) head =
    let byte : x ≡ 91 = cc in subst (λ y. Stage (y ∷ text) 1 Range) (sym byte) (opened_range text)

pub err_same : {T E : Type 0} (r : Result T E) (a b : E) → r ≡ Err a → r ≡ Err b → a ≡ b
err_same r a b one two = cc

grows : (text : List ℕ) (at n end : ℕ) → end ≡ at + n → take end text ≡ take at text ++ take n (drop at text)
grows text at n end is = ap (λ k. take k text) is ∙ take-add at n text

first_byte : (text : List ℕ) → first text ≡ Some 91 → take 1 text ≡ 91 ∷ []
first_byte [] head = cc
first_byte (x ∷ text) head = let byte : x ≡ 91 = cc in ap (λ y. y ∷ []) byte

eight : (a b c d e f g : List ℕ) → ((((((((91 ∷ []) ++ a) ++ b) ++ c) ++ 84 ∷ 79 ∷ []) ++ d) ++ e) ++ f) ++ 93 ∷ []
    ≡ 91 ∷ (a ++ (b ++ (c ++ 84 ∷ 79 ∷ (d ++ (e ++ (f ++ 93 ∷ []))))))
eight a b c d e f g = simp append_assoc

-- a range that was read
pub range_value : (text : List ℕ) (start low_end to gap second high_end close end : ℕ) (low high : Option ℤ)
    → first text ≡ Some 91
    → IsWhiteRead text 1 start → IsBoundRead text start low low_end → IsWhiteRead text low_end to → low_end < to
    → IsWordRead text to (84 ∷ 79 ∷ []) gap
    → IsWhiteRead text gap second → gap < second → IsBoundRead text second high high_end
    → IsWhiteRead text high_end close → IsWordRead text close (93 ∷ []) end
    → Stage text end (λ K. K) → IsValueRead text (Between low high) end
range_value text start low_end to gap second high_end close end low high head w1 b1 g1 far1 t g2 far2 b2 w2 z s =
    let p1 = take w1.len (drop 1 text) in
    let p2 = take b1.len (drop start text) in
    let p3 = take g1.len (drop low_end text) in
    let p5 = take g2.len (drop gap text) in
    let p6 = take b2.len (drop second text) in
    let p7 = take w2.len (drop high_end text) in
    let e1 : take start text ≡ (91 ∷ []) ++ p1 = grows text 1 w1.len start w1.end_is
    ∙ ap (λ b. b ++ p1) (first_byte text head) in
    let e2 : take low_end text ≡ ((91 ∷ []) ++ p1) ++ p2 = grows text start b1.len low_end b1.end_is
    ∙ ap (λ b. b ++ p2) e1 in
    let e3 : take to text ≡ (((91 ∷ []) ++ p1) ++ p2) ++ p3 = grows text low_end g1.len to g1.end_is
    ∙ ap (λ b. b ++ p3) e2 in
    let e4 : take gap text ≡ ((((91 ∷ []) ++ p1) ++ p2) ++ p3) ++ 84 ∷ 79 ∷ [] =
    grows text to 2 gap t.end_is ∙ (ap (λ b. b ++ take 2 (drop to text)) e3
    ∙ ap (λ b. ((((91 ∷ []) ++ p1) ++ p2) ++ p3) ++ b) t.is) in
    let e5 : take second text ≡ (((((91 ∷ []) ++ p1) ++ p2) ++ p3) ++ 84 ∷ 79 ∷ []) ++ p5 =
    grows text gap g2.len second g2.end_is ∙ ap (λ b. b ++ p5) e4 in
    let e6 : take high_end text ≡ ((((((91 ∷ []) ++ p1) ++ p2) ++ p3) ++ 84 ∷ 79 ∷ []) ++ p5) ++ p6 =
    grows text second b2.len high_end b2.end_is ∙ ap (λ b. b ++ p6) e5 in
    let e7 : take close text ≡ (((((((91 ∷ []) ++ p1) ++ p2) ++ p3) ++ 84 ∷ 79 ∷ []) ++ p5) ++ p6) ++ p7 =
    grows text high_end w2.len close w2.end_is ∙ ap (λ b. b ++ p7) e6 in
    let e8 : take end text ≡ ((((((((91 ∷ []) ++ p1) ++ p2) ++ p3) ++ 84 ∷ 79 ∷ []) ++ p5) ++ p6) ++ p7) ++ 93 ∷ [] =
    grows text close 1 end z.end_is
    ∙ (ap (λ b. b ++ take 1 (drop close text)) e7
    ∙ ap (λ b. ((((((((91 ∷ []) ++ p1) ++ p2) ++ p3) ++ 84 ∷ 79 ∷ []) ++ p5) ++ p6) ++ p7) ++ b) z.is) in
    record {
      fits = z.fits;
      is = record {
        before = p1;
        first = p2;
        gap = p3;
        later_gap = p5;
        second = p6;
        after = p7;
        are = e8 ∙ eight p1 p2 p3 p5 p6 p7 [];
        before_white = w1.white;
        low_is = b1.is;
        gap_is = some_white text low_end to g1 far1;
        later_gap_is = some_white text gap second g2 far2;
        high_is = b2.is;
        after_white = w2.white;
      };
      leads = s.leads;
    }
