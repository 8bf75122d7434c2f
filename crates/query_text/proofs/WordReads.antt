-- Words and quoted texts that were scanned.
use Rattle.std.proofs.Common.{◌≡◌, ◌≢◌, ℕ, ◌+◌, ◌<◌, ◌≤◌, inl, inr, Bool, true, false, List, [], ◌∷◌, ◌++◌, length, get_or, take, drop, Some, refl, sym, ap, ◌∙◌, subst, arith, append-nil, length-drop, ne_eqb, eqb-true, suc, IsUtf8}
use Rattle.std.proofs.lemmas.List.{take-append-drop, take_all, drop_more, take_more, length-take}
use Rattle.dobj_field.specs.declared.reach.ScalarTest.TheVariants.{Equals, Begins}
use Rattle.query_text.specs.declared.scanning.Within.TheVariants.{Word, Quotes}
use Rattle.query_text.specs.declared.scanning.Scanned.{Scanned}
use Rattle.query_text.specs.Spelling.{ended, taking, unescaped, ends_word, ends_quoted, begins_word, IsPrefix, after_value}
use Rattle.query_text.specs.Faults.{IsFault}
use Rattle.query_text.specs.Stages.{first, Leads, Value}
use Rattle.query_text.specs.Reading.{starred, Plain, Next, IsScanned, IsValueRead, BreaksValue}
use Rattle.query_text.proofs.ValueLemmas.{word_value_leads, prefix_value_leads, dangling, no_value, quoted_leads, unclosed, word_begins, unfollowed}
use Rattle.query_text.proofs.Languages.{stage_fault}
use Rattle.dobj_field.proofs.Utf8.{cut_at_ascii}
use Rattle.dobj_field.specs.declared.reach.ScalarTest.{ScalarTest}
use Rattle.query_text.proofs.StateLemmas.{after_next}

all_taken : (rest : List ℕ) (n : ℕ) → drop n rest ≡ [] → take n rest ≡ rest
all_taken rest n none = sym (append-nil (take n rest))
    ∙ (ap (λ d. take n rest ++ d) (sym none) ∙ take-append-drop n rest)

no_open : (rest : List ℕ) → taking ends_word false rest ≡ Some true → rest ≢ []
no_open rest flag none = let bad : Some false ≡ Some true = ap (taking ends_word false) (sym none) ∙ flag in cc

-- a word whose last byte is a `\`
pub word_dangles : (rest : List ℕ) (s : Scanned) → IsScanned Word rest s → s.taking ≡ true → Plain rest
    → BreaksValue rest s.len
word_dangles rest s is taken plain opened =
    let whole : take s.len rest ≡ rest = all_taken rest s.len (is.open_end taken) in
    let flag : taking ends_word false rest ≡ Some true = ap (taking ends_word false) (sym whole)
    ∙ (is.flag ∙ ap Some taken) in
    let far : length rest ≡ s.len =
    omega (arith, is.fits, length-drop s.len rest, ap (length {A = ℕ}) (is.open_end taken)) in
    subst (IsFault (Value (Next opened)) rest) far
    (dangling (Next opened) (after_next opened) rest (no_open rest flag) flag plain)

-- the next byte, if there is one
pub first_at : (rest : List ℕ) (n x : ℕ) → first (drop n rest) ≡ Some x → (n < length rest) × (get_or rest n 0 ≡ x)
first_at rest n x is = by_place (drop n rest) refl is
  where
    by_place : (more : List ℕ) → drop n rest ≡ more → first more ≡ Some x → (n < length rest) × (get_or rest n 0 ≡ x)
    by_place [] same said = cc
    by_place (y ∷ more) same said =
        let there : n < length rest = omega (arith, ap (length {A = ℕ}) same, length-drop n rest) in
        let parts : get_or rest n 0 ∷ drop (n + 1) rest ≡ y ∷ more = sym (drop_more rest n 0 there) ∙ same in
        let head : get_or rest n 0 ≡ y = cc in
        let byte : y ≡ x = cc in (there, head ∙ byte)

unflagged : (b : Bool) → b ≡ false → Some b ≡ Some false
unflagged b is = ap Some is

prefix_of : (word spelt : List ℕ) → spelt ≡ unescaped false word → taking ends_word false word ≡ Some false
    → Plain (word ++ 42 ∷ []) → IsPrefix (word ++ 42 ∷ []) spelt
prefix_of [] spelt is closed plain = ([], refl, inr (refl, is))
prefix_of (x ∷ word) spelt is closed plain =
    (x ∷ word, refl, inl (rw (ne_eqb x 91 (λ e. plain.1 (ap Some e))) refl, (closed, is)))

byte_of : (x y : ℕ) → Some x ≡ Some y → x ≡ y
byte_of x y same = cc

plain_star : (word more rest : List ℕ) → rest ≡ word ++ 42 ∷ more → Plain rest → Plain (word ++ 42 ∷ [])
plain_star [] more rest are plain =
    (λ e. let same = byte_of 42 34 e in omega arith, λ e. let same = byte_of 42 91 e in omega arith)
plain_star (x ∷ word) more rest are plain = (λ e. plain.0 (ap first are ∙ e), λ e. plain.1 (ap first are ∙ e))

-- a prefix
pub prefix_reads : (rest : List ℕ) (s : Scanned) → IsScanned Word rest s → s.taking ≡ false → Plain rest
    → s.len < length rest
    → get_or rest s.len 0 ≡ 42 → IsValueRead rest (Begins s.text) (s.len + 1)
prefix_reads rest s is closed plain inside star =
    let word = take s.len rest in
    let bytes : take (s.len + 1) rest ≡ word ++ 42 ∷ [] = take_more rest s.len 0 inside
    ∙ ap (λ x. word ++ x ∷ []) star in
    let more = drop (s.len + 1) rest in
    let whole : rest ≡ word ++ 42 ∷ more = sym (take-append-drop s.len rest)
    ∙ ap (λ d. word ++ d) (drop_more rest s.len 0 inside ∙ ap (λ x. x ∷ more) star) in
    let flag : taking ends_word false word ≡ Some false = is.flag ∙ ap Some closed in
    let prefix = prefix_of word s.text is.text flag (plain_star word more rest whole plain) in
    record {
      fits = omega arith;
      is = subst (λ b. IsPrefix b s.text) (sym bytes) prefix;
      leads = λ opened. subst (λ b. Leads (Value (Next opened)) (Next opened) b more) (sym bytes)
          (prefix_value_leads (Next opened) (after_next opened) word more s.text prefix flag (subst Plain whole plain));
    }

not_star : (rest : List ℕ) (n : ℕ) → (n < length rest → get_or rest n 0 ≡ 42 → ⊥) → first (drop n rest) ≢ Some 42
not_star rest n other is = let there = first_at rest n 42 is in other there.0 there.1

-- no value
pub word_lacks : (rest : List ℕ) (s : Scanned) → IsScanned Word rest s → s.len ≡ 0 → Plain rest
    → (s.len < length rest → get_or rest s.len 0 ≡ 42 → ⊥)
    → BreaksValue rest 0
word_lacks rest s is none plain other opened =
    let same : drop s.len rest ≡ rest = ap (λ n. drop n rest) none in
    no_value (Next opened) (after_next opened) rest (ap (ended ends_word) (sym same) ∙ is.stop)
    (λ e. not_star rest s.len other (ap first same ∙ e)) plain

some_word : (rest : List ℕ) (n : ℕ) → 0 < n → n ≤ length rest → take n rest ≢ []
some_word rest n some fits none = absurd (omega (arith, ap (length {A = ℕ}) none, length-take n rest))

plain_taken : (word more rest : List ℕ) → word ++ more ≡ rest → word ≢ [] → Plain rest → Plain word
plain_taken [] more rest are some plain = absurd (some refl)
plain_taken (x ∷ word) more rest are some plain =
    (λ e. plain.0 (ap first (sym are) ∙ e), λ e. plain.1 (ap first (sym are) ∙ e))

-- a word
pub word_reads : (rest : List ℕ) (s : Scanned) → IsScanned Word rest s → s.taking ≡ false → Plain rest → 0 < s.len
    → (s.len < length rest → get_or rest s.len 0 ≡ 42 → ⊥) → IsValueRead rest (Equals s.text) s.len
word_reads rest s is closed plain some other =
    let word = take s.len rest in
    let whole = take-append-drop s.len rest in
    let long : word ≢ [] = some_word rest s.len some is.fits in
    let flag : taking ends_word false word ≡ Some false = is.flag ∙ ap Some closed in
    let begins : begins_word word ≡ true = ap begins_word (sym (append-nil word))
    ∙ word_begins word [] long (plain_taken word (drop s.len rest) rest whole long plain) in
    record {
      fits = is.fits;
      is = inl (begins, (flag, is.text));
      leads = λ opened. word_value_leads (Next opened) (after_next opened) word (drop s.len rest)
          (begins, (flag, refl)) is.stop
          (not_star rest s.len other) (subst Plain (sym whole) plain);
    }

-- the text in quotes, up to the byte after them
pub quoted_reads : (rest : List ℕ) (s : Scanned) → IsScanned Quotes rest s → s.taking ≡ false → s.len < length rest
    → IsValueRead (34 ∷ rest) (Equals s.text) (s.len + 2)
quoted_reads rest s is closed inside =
    let text = take s.len rest in
    let more = drop (s.len + 1) rest in
    let flag : taking ends_quoted false text ≡ Some false = is.flag ∙ ap Some closed in
    let head : drop s.len rest ≡ get_or rest s.len 0 ∷ more = drop_more rest s.len 0 inside in
    let quote : get_or rest s.len 0 ≡ 34 =
    eqb-true (get_or rest s.len 0) 34 (subst (λ d. ended ends_quoted d ≡ true) head is.stop) in
    let two : s.len + 2 ≡ suc (s.len + 1) = omega arith in
    let bytes : take (s.len + 2) (34 ∷ rest) ≡ 34 ∷ (text ++ 34 ∷ []) =
    ap (λ n. take n (34 ∷ rest)) two
    ∙ ap (λ t. 34 ∷ t) (take_more rest s.len 0 inside ∙ ap (λ x. text ++ x ∷ []) quote) in
    let after : drop (s.len + 2) (34 ∷ rest) ≡ more = ap (λ n. drop n (34 ∷ rest)) two in
    record {
      fits = omega arith;
      is = inr (text, bytes, (flag, is.text));
      leads = λ opened. rw (bytes, after) (quoted_leads (Next opened) text more flag);
    }

-- quotes that nothing closes
pub quoted_breaks : (rest : List ℕ) (s : Scanned) → IsScanned Quotes rest s → length rest ≤ s.len
    → BreaksValue (34 ∷ rest) (s.len + 1)
quoted_breaks rest s is over opened =
    let whole : take s.len rest ≡ rest = take_all s.len rest over in
    let far : length (34 ∷ rest) ≡ s.len + 1 = omega (arith, is.fits) in
    subst (IsFault (Value (Next opened)) (34 ∷ rest)) far
    (unclosed (Next opened) (after_next opened) rest s.taking (ap (taking ends_quoted false) (sym whole) ∙ is.flag))

untaken_inside : (rest : List ℕ) (s : Scanned) → IsScanned Quotes rest s → s.len < length rest → s.taking ≡ false
untaken_inside rest s is inside = by_flag s.taking refl
  where
    by_flag : (b : Bool) → s.taking ≡ b → s.taking ≡ false
    by_flag true same = absurd (omega (arith, ap (length {A = ℕ}) (is.open_end same), length-drop s.len rest))
    by_flag false same = same

split_first : (rest : List ℕ) (x : ℕ) → first rest ≡ Some x → rest ≡ x ∷ drop 1 rest
split_first [] x head = cc
split_first (y ∷ rest) x head = let byte : y ≡ x = cc in ap (λ z. z ∷ rest) byte

-- the text in quotes that a text begins with
pub quotes_read : (rest : List ℕ) (s : Scanned) → first rest ≡ Some 34 → IsScanned Quotes (drop 1 rest) s
    → (s.len + 1 ≡ length rest → ⊥)
    → IsValueRead rest (Equals s.text) (s.len + 1 + 1)
quotes_read rest s head is other =
    let far = length-drop 1 rest in
    let whole = split_first rest 34 head in
    let some = ap (length {A = ℕ}) whole in
    let inside : s.len < length (drop 1 rest) = omega (arith, is.fits, far, some) in
    let two : s.len + 2 ≡ s.len + 1 + 1 = omega arith in
    subst (λ r. IsValueRead r (Equals s.text) (s.len + 1 + 1)) (sym whole)
    (subst (IsValueRead (34 ∷ drop 1 rest) (Equals s.text)) two
    (quoted_reads (drop 1 rest) s is (untaken_inside (drop 1 rest) s is inside) inside))

pub quotes_break : (rest : List ℕ) (s : Scanned) → first rest ≡ Some 34 → IsScanned Quotes (drop 1 rest) s
    → s.len + 1 ≡ length rest → BreaksValue rest (s.len + 1)
quotes_break rest s head is end =
    let far = length-drop 1 rest in
    let whole = split_first rest 34 head in
    subst (λ r. BreaksValue r (s.len + 1)) (sym whole) (quoted_breaks (drop 1 rest) s is (omega (arith, far)))

pub text_inside : (rest : List ℕ) → first rest ≡ Some 34 → IsUtf8 rest → IsUtf8 (drop 1 rest)
text_inside rest head text = (cut_at_ascii [] (drop 1 rest) 34 (omega arith)
    (subst IsUtf8 (split_first rest 34 head) text)).1

-- a value that nothing may follow so
pub value_unfollowed : (rest : List ℕ) (test : ScalarTest) (len : ℕ) → IsValueRead rest test len
    → after_value (drop len rest) ≡ false → BreaksValue rest len
value_unfollowed rest test len is wrong opened =
    let same : len + 0 ≡ len = omega arith in
    subst (IsFault (Value (Next opened)) rest) same
    (stage_fault (Value (Next opened)) (Next opened) rest len 0 is.fits (is.leads opened)
    (unfollowed (Next opened) (after_next opened) (drop len rest) wrong))

-- a `*` stands at a place, or none
pub star_there : (rest : List ℕ) (n : ℕ) → starred (drop n rest) ≡ true → (n < length rest) × (get_or rest n 0 ≡ 42)
star_there rest n is = first_at rest n 42 (by_rest (drop n rest) is)
  where
    by_rest : (more : List ℕ) → starred more ≡ true → first more ≡ Some 42
    by_rest [] said = cc
    by_rest (x ∷ more) said = ap Some (eqb-true x 42 said)

pub no_star_there : (rest : List ℕ) (n : ℕ) → starred (drop n rest) ≡ false → n < length rest → get_or rest n 0 ≡ 42 → ⊥
no_star_there rest n is inside star =
    let bad : true ≡ false = sym (ap starred (drop_more rest n 0 inside ∙ ap (λ x. x ∷ drop (n + 1) rest) star))
    ∙ is in cc
