-- Of what stands at the head of a text there is one reading: a field, and a value.
use Rattle.std.proofs.Common.{◌≡◌, ◌≢◌, ℕ, ◌⊎◌, inl, inr, ℤ, true, false, List, [], ◌∷◌, ◌++◌, length, take, drop, Option, Some, None, refl, sym, ap, ◌∙◌, subst, arith, append_assoc, append-nil}
use Rattle.std.specs.Prelude.{◌==◌}
use Rattle.std.proofs.lemmas.Bool.Decides.{eqb_tells}
use Rattle.std.proofs.Math.Seq.{take-append_seam, drop-append_seam}
use Rattle.dobj_field.specs.Field.{tokens_of, IsField}
use Rattle.dobj_field.specs.declared.field.Field.{Field}
use Rattle.dobj_field.specs.declared.field.Field.TheVariants.{Id, OfType, Pointer}
use Rattle.dobj_field.specs.declared.reach.ScalarTest.{ScalarTest}
use Rattle.dobj_field.specs.declared.reach.ScalarTest.TheVariants.{Equals, Begins, Between}
use Rattle.query_text.specs.declared.parts.Stop.TheVariants.{Colon}
use Rattle.query_text.specs.Parts.{untaken}
use Rattle.query_text.specs.Spelling.{ended, taking, unescaped, ends_word, ends_quoted, begins_word, is_digit, all_digits, number_after, after_value, IsWord, IsBound, IsRange, IsValue}
use Rattle.query_text.specs.Stages.{first}
use Rattle.query_text.specs.Reading.{is_sharp, no_digit, signed_number}
use Rattle.query_text.proofs.CutLemmas.{both}
use Rattle.query_text.proofs.StageLemmas.{white_split}
use Rattle.query_text.proofs.TextLemmas.{through, no_more, word_back, quoted_back}
use Rattle.query_text.proofs.ValueLemmas.{after_ends, no_quoted_word, no_quoted_square, quoted_inside, quoted_prefix}
use Rattle.query_text.proofs.BoundLemmas.{numeral_of, numeral_extends, numeral_no_star, not_both}
use Rattle.query_text.proofs.RangeLemmas.{numeral_sharp, gap_blunt, white_word_blunt}
use Rattle.query_text.proofs.NameLemmas.{ends_at}

pub heads : (x y : ℕ) (a b : List ℕ) → x ∷ a ≡ y ∷ b → x ≡ y
heads x y a b same = cc

pub tails : (x y : ℕ) (a b : List ℕ) → x ∷ a ≡ y ∷ b → a ≡ b
tails x y a b same = cc

-- a text names at most one field
pub one_field : (text : List ℕ) (one other : Field) → IsField text one → IsField text other → one ≡ other
one_field text Id Id a b = refl
one_field text Id OfType a b = let bad = heads 105 116 (100 ∷ []) (121 ∷ 112 ∷ 101 ∷ []) (sym a ∙ b) in
    absurd (omega arith)
one_field text Id (Pointer tokens) a b = let bad = heads 105 47 (100 ∷ []) b.0 (sym a ∙ b.1) in absurd (omega arith)
one_field text OfType Id a b = let bad = heads 116 105 (121 ∷ 112 ∷ 101 ∷ []) (100 ∷ []) (sym a ∙ b) in
    absurd (omega arith)
one_field text OfType OfType a b = refl
one_field text OfType (Pointer tokens) a b = let bad = heads 116 47 (121 ∷ 112 ∷ 101 ∷ []) b.0 (sym a ∙ b.1) in
    absurd (omega arith)
one_field text (Pointer tokens) Id a b = let bad = heads 47 105 a.0 (100 ∷ []) (sym a.1 ∙ b) in absurd (omega arith)
one_field text (Pointer tokens) OfType a b = let bad = heads 47 116 a.0 (121 ∷ 112 ∷ 101 ∷ []) (sym a.1 ∙ b) in
    absurd (omega arith)
one_field text (Pointer tokens) (Pointer others) a b =
    let rests : a.0 ≡ b.0 = tails 47 47 a.0 b.0 (sym a.1 ∙ b.1) in
    let same : Some tokens ≡ Some others = sym a.2 ∙ (ap tokens_of rests ∙ b.2) in
    let whole : tokens ≡ others = cc in ap Pointer whole

-- two beginnings of one length
pub same_cut : (a b c d : List ℕ) → length a ≡ length c → a ++ b ≡ c ++ d → (a ≡ c) × (b ≡ d)
same_cut a b c d long whole = (
  sym (take-append_seam a b)
      ∙ (ap (take (length a)) whole ∙ (ap (λ n. take n (c ++ d)) long ∙ take-append_seam c d)),
  sym (drop-append_seam a b)
      ∙ (ap (drop (length a)) whole ∙ (ap (λ n. drop n (c ++ d)) long ∙ drop-append_seam c d)),
)

-- a field before a colon
pub one_name : (name other r s : List ℕ) (f g : Field) → IsField name f → IsField other g
    → name ++ 58 ∷ r ≡ other ++ 58 ∷ s → (f ≡ g) × (r ≡ s)
one_name name other r s f g is also whole =
    let long : length name ≡ length other = sym (ends_at name r f is)
    ∙ (ap (untaken Colon) whole ∙ ends_at other s g also) in
    let parts = same_cut name (58 ∷ r) other (58 ∷ s) long whole in
    (one_field name f g is (subst (λ n. IsField n g) (sym parts.0) also), tails 58 58 r s parts.1)

-- a word or a prefix at the head of a text, by what follows it
record WordView (text rest : List ℕ) (test : ScalarTest) : Type 0 where
  pub word : List ℕ
  pub after : List ℕ
  pub same : word ++ after ≡ text
  pub closed : taking ends_word false word ≡ Some false
  pub stop : ended ends_word after ≡ true
  pub tail : ((after ≡ rest) × (test ≡ Equals (unescaped false word)))
      ⊎ ((after ≡ 42 ∷ rest) × (test ≡ Begins (unescaped false word)))

prefix_view : (start bytes rest spelt : List ℕ) → bytes ≡ start ++ 42 ∷ []
    → IsWord start spelt ⊎ ((start ≡ []) × (spelt ≡ [])) → WordView (bytes ++ rest) rest (Begins spelt)
prefix_view start bytes rest spelt is (inl word) = record {
  word = start;
  after = 42 ∷ rest;
  same = sym (ap (λ b. b ++ rest) is ∙ append_assoc start (42 ∷ []) rest);
  closed = word.1.0;
  stop = refl;
  tail = inr (refl, ap Begins word.1.1);
}
prefix_view start bytes rest spelt is (inr none) = record {
  word = [];
  after = 42 ∷ rest;
  same = sym (ap (λ b. b ++ rest) is ∙ ap (λ s. (s ++ 42 ∷ []) ++ rest) none.0);
  closed = refl;
  stop = refl;
  tail = inr (refl, ap Begins none.1);
}

word_view : (bytes rest : List ℕ) (test : ScalarTest) → IsValue true bytes test → after_value rest ≡ true
    → first (bytes ++ rest) ≢ Some 34 → first (bytes ++ rest) ≢ Some 91
    → WordView (bytes ++ rest) rest test
word_view bytes rest (Equals spelt) (inl word) ends quote square = record {
  word = bytes;
  after = rest;
  same = refl;
  closed = word.1.0;
  stop = after_ends rest ends;
  tail = inl (refl, ap Equals word.1.1);
}
word_view bytes rest (Equals spelt) (inr quoted) ends quote square =
    absurd (quote (ap (λ b. first (b ++ rest)) quoted.1))
word_view bytes rest (Begins spelt) is ends quote square = prefix_view is.0 bytes rest spelt is.1 is.2
word_view bytes rest (Between low high) is ends quote square = absurd (square (ap (λ b. first (b ++ rest)) is.are))

no_star_after : (rest more : List ℕ) → after_value rest ≡ true → rest ≡ 42 ∷ more → ⊥
no_star_after rest more ends is = let bad : false ≡ true = ap after_value (sym is) ∙ ends in cc

by_tails : (word other after rest s : List ℕ) (t u : ScalarTest) → after_value rest ≡ true → after_value s ≡ true
    → word ≡ other
    → ((after ≡ rest) × (t ≡ Equals (unescaped false word)))
    ⊎ ((after ≡ 42 ∷ rest) × (t ≡ Begins (unescaped false word)))
    → ((after ≡ s) × (u ≡ Equals (unescaped false other))) ⊎ ((after ≡ 42 ∷ s) × (u ≡ Begins (unescaped false other)))
    → (t ≡ u) × (rest ≡ s)
by_tails word other after rest s t u ends also same (inl a) (inl b) =
    (a.1 ∙ (ap (λ w. Equals (unescaped false w)) same ∙ sym b.1), sym a.0 ∙ b.0)
by_tails word other after rest s t u ends also same (inl a) (inr b) =
    absurd (no_star_after rest s ends (sym a.0 ∙ b.0))
by_tails word other after rest s t u ends also same (inr a) (inl b) =
    absurd (no_star_after s rest also (sym b.0 ∙ a.0))
by_tails word other after rest s t u ends also same (inr a) (inr b) =
    (a.1 ∙ (ap (λ w. Begins (unescaped false w)) same ∙ sym b.1), tails 42 42 rest s (sym a.0 ∙ b.0))

one_view : (text rest s : List ℕ) (t u : ScalarTest) → after_value rest ≡ true → after_value s ≡ true
    → WordView text rest t → WordView text s u → (t ≡ u) × (rest ≡ s)
one_view text rest s t u ends also a b =
    let on = through ends_word word_back false a.word b.word a.after b.after false a.closed a.stop b.closed
    (a.same ∙ sym b.same) in
    let end = no_more ends_word word_back on.rest a.after b.after on.closed b.stop on.same in
    let whole : a.word ≡ b.word = on.are ∙ (ap (λ r. b.word ++ r) end.0 ∙ append-nil b.word) in
    by_tails a.word b.word b.after rest s t u ends also whole
    (subst (λ r. ((r ≡ rest) × (t ≡ Equals (unescaped false a.word)))
    ⊎ ((r ≡ 42 ∷ rest) × (t ≡ Begins (unescaped false a.word)))) end.1 a.tail) b.tail

-- a text in quotes, by what follows it
record QuoteView (text rest : List ℕ) (test : ScalarTest) : Type 0 where
  pub inside : List ℕ
  pub same : inside ++ 34 ∷ rest ≡ text
  pub closed : taking ends_quoted false inside ≡ Some false
  pub is : test ≡ Equals (unescaped false inside)

quote_view : (bytes rest text : List ℕ) (test : ScalarTest) → 34 ∷ text ≡ bytes ++ rest → IsValue true bytes test
    → QuoteView text rest test
quote_view bytes rest text (Equals spelt) are (inl word) = absurd (no_quoted_word bytes rest text are word.0 word.1.0)
quote_view bytes rest text (Equals spelt) are (inr quoted) = record {
  inside = quoted.0;
  same = quoted_inside bytes rest text quoted.0 are quoted.1;
  closed = quoted.2.0;
  is = ap Equals quoted.2.1;
}
quote_view bytes rest text (Begins spelt) are is = absurd (quoted_prefix is.0 bytes rest text spelt are is.1 is.2)
quote_view bytes rest text (Between low high) are is = absurd (no_quoted_square bytes rest text _ are is.are)

one_quoted : (text rest s : List ℕ) (t u : ScalarTest) → QuoteView text rest t → QuoteView text s u
    → (t ≡ u) × (rest ≡ s)
one_quoted text rest s t u a b =
    let on = through ends_quoted quoted_back false a.inside b.inside (34 ∷ rest) (34 ∷ s) false a.closed refl b.closed
    (a.same ∙ sym b.same) in
    let end = no_more ends_quoted quoted_back on.rest (34 ∷ rest) (34 ∷ s) on.closed refl on.same in
    let whole : a.inside ≡ b.inside = on.are ∙ (ap (λ r. b.inside ++ r) end.0 ∙ append-nil b.inside) in
    (a.is ∙ (ap (λ i. Equals (unescaped false i)) whole ∙ sym b.is), tails 34 34 rest s end.1)

no_more_digits : (digits rest more : List ℕ) → all_digits digits ≡ true → no_digit more ≡ true → more ≡ digits ++ rest
    → (digits ≡ []) × (more ≡ rest)
no_more_digits [] rest more all blunt same = (refl, same)
no_more_digits (x ∷ digits) rest [] all blunt same = cc
no_more_digits (x ∷ digits) rest (y ∷ more) all blunt same =
    let byte = heads y x more (digits ++ rest) same in
    absurd (not_both (is_digit y) (subst (λ z. is_digit z ≡ true) (sym byte)
    (both (is_digit x) (all_digits digits) all).0) blunt)

-- a bound, by what follows it
one_bound : (bytes other a b : List ℕ) (one two : Option ℤ) → IsBound true bytes one → IsBound true other two
    → no_digit a ≡ true → no_digit b ≡ true → bytes ++ a ≡ other ++ b → (one ≡ two) × (a ≡ b)
one_bound bytes other a b None None is also blunt blunt2 same =
    let whole : 42 ∷ a ≡ 42 ∷ b = ap (λ x. x ++ a) (sym is) ∙ (same ∙ ap (λ x. x ++ b) also) in
    (refl, tails 42 42 a b whole)
one_bound bytes other a b None (Some z) is also blunt blunt2 same =
    absurd (numeral_no_star other b a z (numeral_of other z also.0) (sym same ∙ ap (λ x. x ++ a) is))
one_bound bytes other a b (Some y) None is also blunt blunt2 same =
    absurd (numeral_no_star bytes a b y (numeral_of bytes y is.0) (same ∙ ap (λ x. x ++ b) also))
one_bound bytes other a b (Some y) (Some z) is also blunt blunt2 same =
    let p = numeral_of bytes y is.0 in
    let q = numeral_of other z also.0 in
    let e = numeral_extends bytes other a b y z p q blunt2 same in
    let end = no_more_digits e.1.digits b a e.1.all blunt e.1.same in
    let digits : q.digits ≡ p.digits = e.1.are ∙ (ap (λ d. p.digits ++ d) end.0 ∙ append-nil p.digits) in
    let number : y ≡ z = p.number_is
    ∙ (ap (λ m. signed_number m (number_after 0 p.digits)) e.0
    ∙ (ap (λ d. signed_number q.minus (number_after 0 d)) (sym digits) ∙ sym q.number_is)) in
    (ap Some number, end.1)

bound_dark : (bytes rest : List ℕ) (bound : Option ℤ) → IsBound true bytes bound → is_sharp (bytes ++ rest) ≡ true
bound_dark bytes rest None is = ap (λ b. is_sharp (b ++ rest)) is
bound_dark bytes rest (Some z) is = numeral_sharp bytes rest z is.0

-- the text of a range and what follows it, a part at a time
range_text : (bytes rest : List ℕ) (low high : Option ℤ) (r : IsRange true bytes low high)
    → bytes ++ rest
    ≡ 91 ∷ (r.before ++ (r.first ++ (r.gap ++ 84 ∷ 79 ∷ (r.later_gap ++ (r.second ++ (r.after ++ 93 ∷ rest))))))
range_text bytes rest low high r = ap (λ b. b ++ rest) r.are ∙ simp append_assoc

one_range : (bytes other rest s : List ℕ) (low high low2 high2 : Option ℤ) → IsRange true bytes low high
    → IsRange true other low2 high2 → bytes ++ rest ≡ other ++ s
    → (low ≡ low2) × (high ≡ high2) × (rest ≡ s)
one_range bytes other rest s low high low2 high2 p q same =
    let end : List ℕ = p.after ++ 93 ∷ rest in
    let end2 : List ℕ = q.after ++ 93 ∷ s in
    let to : List ℕ = 84 ∷ 79 ∷ (p.later_gap ++ (p.second ++ end)) in
    let to2 : List ℕ = 84 ∷ 79 ∷ (q.later_gap ++ (q.second ++ end2)) in
    let whole = sym (range_text bytes rest low high p) ∙ (same ∙ range_text other s low2 high2 q) in
    let inside = tails 91 91 (p.before ++ (p.first ++ (p.gap ++ to))) (q.before ++ (q.first ++ (q.gap ++ to2))) whole in
    let begun = white_split p.before q.before (p.first ++ (p.gap ++ to)) (q.first ++ (q.gap ++ to2)) p.before_white
    q.before_white (bound_dark p.first (p.gap ++ to) low p.low_is) (bound_dark q.first (q.gap ++ to2) low2 q.low_is)
    inside in
    let lows = one_bound p.first q.first (p.gap ++ to) (q.gap ++ to2) low low2 p.low_is q.low_is
    (gap_blunt p.gap to p.gap_is) (gap_blunt q.gap to2 q.gap_is) begun in
    let words = white_split p.gap q.gap to to2 p.gap_is.1 q.gap_is.1 refl refl lows.1 in
    let gaps = tails 79 79 (p.later_gap ++ (p.second ++ end)) (q.later_gap ++ (q.second ++ end2))
    (tails 84 84 (79 ∷ (p.later_gap ++ (p.second ++ end))) (79 ∷ (q.later_gap ++ (q.second ++ end2))) words) in
    let seconds = white_split p.later_gap q.later_gap (p.second ++ end) (q.second ++ end2) p.later_gap_is.1
    q.later_gap_is.1 (bound_dark p.second end high p.high_is) (bound_dark q.second end2 high2 q.high_is) gaps in
    let highs = one_bound p.second q.second end end2 high high2 p.high_is q.high_is
    (white_word_blunt p.after rest p.after_white) (white_word_blunt q.after s q.after_white) seconds in
    let close = white_split p.after q.after (93 ∷ rest) (93 ∷ s) p.after_white q.after_white refl refl highs.1 in
    (lows.0, highs.0, tails 93 93 rest s close)

-- a range, where a `[` stands at the head
record RangeView (text rest : List ℕ) (test : ScalarTest) : Type 0 where
  pub bytes : List ℕ
  pub low : Option ℤ
  pub high : Option ℤ
  pub same : bytes ++ rest ≡ text
  pub range : IsRange true bytes low high
  pub is : test ≡ Between low high

no_square_word : (bytes rest text : List ℕ) → 91 ∷ text ≡ bytes ++ rest → begins_word bytes ≡ true → ⊥
no_square_word [] rest text are begins = cc
no_square_word (x ∷ bytes) rest text are begins =
    let byte = heads 91 x text (bytes ++ rest) are in
    let bad : false ≡ true = subst (λ y. begins_word (y ∷ bytes) ≡ true) (sym byte) begins in cc

no_square_prefix : (start bytes rest text spelt : List ℕ) → 91 ∷ text ≡ bytes ++ rest → bytes ≡ start ++ 42 ∷ []
    → IsWord start spelt ⊎ ((start ≡ []) × (spelt ≡ [])) → ⊥
no_square_prefix start bytes rest text spelt are is (inl word) =
    no_square_word start (42 ∷ rest) text
    (are ∙ (ap (λ b. b ++ rest) is ∙ append_assoc start (42 ∷ []) rest)) word.0
no_square_prefix start bytes rest text spelt are is (inr none) =
    let byte = heads 91 42 text rest (are ∙ (ap (λ b. b ++ rest) is ∙ ap (λ s. (s ++ 42 ∷ []) ++ rest) none.0)) in
    absurd (omega arith)

range_view : (bytes rest text : List ℕ) (test : ScalarTest) → 91 ∷ text ≡ bytes ++ rest → IsValue true bytes test
    → RangeView (91 ∷ text) rest test
range_view bytes rest text (Equals spelt) are (inl word) = absurd (no_square_word bytes rest text are word.0)
range_view bytes rest text (Equals spelt) are (inr quoted) =
    let byte = heads 91 34 text ((quoted.0 ++ 34 ∷ []) ++ rest) (are ∙ ap (λ b. b ++ rest) quoted.1) in
    absurd (omega arith)
range_view bytes rest text (Begins spelt) are is = absurd (no_square_prefix is.0 bytes rest text spelt are is.1 is.2)
range_view bytes rest text (Between low high) are is =
    record { bytes = bytes; low = low; high = high; same = sym are; range = is; is = refl }

one_ranged : (text rest s : List ℕ) (t u : ScalarTest) → RangeView text rest t → RangeView text s u
    → (t ≡ u) × (rest ≡ s)
one_ranged text rest s t u a b =
    let parts = one_range a.bytes b.bytes rest s a.low a.high b.low b.high a.range b.range (a.same ∙ sym b.same) in
    (a.is ∙ (ap (λ l. Between l a.high) parts.0 ∙ (ap (Between b.low) parts.1 ∙ sym b.is)), parts.2)

-- the value at the head of a text, and what follows it
pub one_value : (text bytes other rest s : List ℕ) (t u : ScalarTest) → text ≡ bytes ++ rest → text ≡ other ++ s
    → IsValue true bytes t → IsValue true other u → after_value rest ≡ true → after_value s ≡ true
    → (t ≡ u) × (rest ≡ s)
one_value [] bytes other rest s t u are also is same ends end2 =
    one_view [] rest s t u ends end2
    (subst (λ x. WordView x rest t) (sym are) (word_view bytes rest t is ends
    (λ e. nothing (ap first are ∙ e)) (λ e. nothing (ap first are ∙ e))))
    (subst (λ x. WordView x s u) (sym also) (word_view other s u same end2
    (λ e. nothing (ap first also ∙ e)) (λ e. nothing (ap first also ∙ e))))
  where
    nothing : {n : ℕ} → None ≡ Some n → ⊥
    nothing e = cc
one_value (x ∷ text) bytes other rest s t u are also is same ends end2 = by_byte (eqb_tells x 34) (eqb_tells x 91)
  where
    some_same : (n : ℕ) → Some x ≡ Some n → x ≡ n
    some_same n e = cc

    by_byte : ((x == 34) ≡ true) × (x ≡ 34) ⊎ ((x == 34) ≡ false) × (x ≢ 34)
        → ((x == 91) ≡ true) × (x ≡ 91) ⊎ ((x == 91) ≡ false) × (x ≢ 91) → (t ≡ u) × (rest ≡ s)
    by_byte (inl quote) q =
        one_quoted text rest s t u
        (quote_view bytes rest text t (ap (λ y. y ∷ text) (sym quote.1) ∙ are) is)
        (quote_view other s text u (ap (λ y. y ∷ text) (sym quote.1) ∙ also) same)
    by_byte (inr plain) (inl square) =
        one_ranged (91 ∷ text) rest s t u
        (range_view bytes rest text t (ap (λ y. y ∷ text) (sym square.1) ∙ are) is)
        (range_view other s text u (ap (λ y. y ∷ text) (sym square.1) ∙ also) same)
    by_byte (inr plain) (inr dark) =
        one_view (x ∷ text) rest s t u ends end2
        (subst (λ y. WordView y rest t) (sym are) (word_view bytes rest t is ends
        (λ e. plain.1 (some_same 34 (ap first are ∙ e))) (λ e. dark.1 (some_same 91 (ap first are ∙ e)))))
        (subst (λ y. WordView y s u) (sym also) (word_view other s u same end2
        (λ e. plain.1 (some_same 34 (ap first also ∙ e))) (λ e. dark.1 (some_same 91 (ap first also ∙ e)))))
