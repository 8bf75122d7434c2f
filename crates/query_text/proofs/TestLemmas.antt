-- Tests: a field, a colon and a value.
use Rattle.std.proofs.Common.{◌≡◌, ◌≢◌, ℕ, ◌+◌, ◌<◌, ◌≤◌, ◌⊎◌, inl, inr, ℤ, Bool, true, false, List, [], ◌∷◌, ◌++◌, length, take, drop, Some, None, refl, sym, ap, ◌∙◌, subst, arith, append_assoc, IsUtf8, length-drop}
use Rattle.std.specs.Prelude.{not, ◌||◌, ◌==◌}
use Rattle.std.proofs.lemmas.Bool.{cases_lt}
use Rattle.std.proofs.lemmas.List.{take-append-drop, drop-drop, drop_all}
use Rattle.std.proofs.Math.Seq.{take-add}
use Rattle.std.proofs.lemmas.Str.{IsUtf8-append}
use Rattle.dobj_field.specs.Breaks.{BreaksAt}
use Rattle.dobj_field.specs.Field.{IsField, NamesField, is_white}
use Rattle.dobj_field.specs.declared.field.Field.{Field}
use Rattle.dobj_field.specs.declared.reach.ScalarTest.{ScalarTest}
use Rattle.dobj_field.specs.declared.reach.ScalarTest.TheVariants.{Equals, Begins, Between}
use Rattle.dobj_field.proofs.Utf8.{cut_at_ascii, one_ascii}
use Rattle.query_text.specs.declared.parts.Stop.TheVariants.{Colon}
use Rattle.query_text.specs.declared.nesting.Due.TheVariants.{Term}
use Rattle.query_text.specs.declared.nesting.Opened.{Opened}
use Rattle.query_text.specs.declared.query.Token.{Token}
use Rattle.query_text.specs.declared.query.Token.TheVariants.{Open, Close, Not, And, Or, Every, Test}
use Rattle.query_text.specs.Parts.{untaken, past_white}
use Rattle.query_text.specs.Spelling.{taking, ends_word, begins_word, IsWord, IsValue, IsNumeral, IsToken, Spelt, follows, after_value}
use Rattle.query_text.specs.Faults.{IsFault}
use Rattle.query_text.specs.Stages.{first, Leads, White, Value}
use Rattle.query_text.specs.Reading.{moves, runs, Rest, Next, Tested, is_sharp, IsWhiteRead, IsValueRead, IsTestRead, BreaksValue, BreaksTest, BreaksThere}
use Rattle.query_text.proofs.Languages.{stage_on, stage_fault}
use Rattle.query_text.proofs.StageLemmas.{Live, Sharp, white_leads, white_live}
use Rattle.query_text.proofs.TextLemmas.{no_stop, word_back}
use Rattle.query_text.proofs.StateLemmas.{after_next}
use Rattle.query_text.proofs.NameLemmas.{name_leads, name_breaks, no_colon, taken_again, colon_there}
use Rattle.query_text.proofs.CutLemmas.{skip_white, white_small, small_by, small_either, utf8_past_white}
use Rattle.query_text.proofs.TokenLemmas.{token_first, token_class, class_of, class_byte, no_runs}

white_ends : (x : ℕ) → is_white x ≡ true → ends_word x ≡ true
white_ends x white = ap (λ w. w || (x == 40) || (x == 41) || (x == 34) || (x == 42)) white

dark_word : (bytes rest : List ℕ) → begins_word bytes ≡ true → taking ends_word false bytes ≡ Some false
    → is_sharp (bytes ++ rest) ≡ true
dark_word [] rest begins flag = cc
dark_word (x ∷ bytes) rest begins flag = by_white (is_white x) refl
  where
    by_white : (b : Bool) → is_white x ≡ b → not (is_white x) ≡ true
    by_white true white = absurd (no_stop ends_word word_back x bytes false (white_ends x white) flag)
    by_white false white = ap not white

prefix_sharp : (start rest spelt : List ℕ) → IsWord start spelt ⊎ ((start ≡ []) × (spelt ≡ []))
    → is_sharp ((start ++ 42 ∷ []) ++ rest) ≡ true
prefix_sharp start rest spelt (inl word) = ap is_sharp (append_assoc start (42 ∷ []) rest)
    ∙ dark_word start (42 ∷ rest) word.0 word.1.0
prefix_sharp start rest spelt (inr none) = ap (λ s. is_sharp ((s ++ 42 ∷ []) ++ rest)) none.0

pub value_bytes_sharp : (strict : Bool) (bytes rest : List ℕ) (test : ScalarTest) → IsValue strict bytes test
    → is_sharp (bytes ++ rest) ≡ true
value_bytes_sharp strict bytes rest (Equals spelt) (inl word) = dark_word bytes rest word.0 word.1.0
value_bytes_sharp strict bytes rest (Equals spelt) (inr quoted) = ap (λ b. is_sharp (b ++ rest)) quoted.1
value_bytes_sharp strict bytes rest (Begins spelt) is = ap (λ b. is_sharp (b ++ rest)) is.1
    ∙ prefix_sharp is.0 rest spelt is.2
value_bytes_sharp strict bytes rest (Between low high) is = ap (λ b. is_sharp (b ++ rest)) is.are

value_sharp : (K : Bool → List ℕ → Type 0) → Sharp (Value K)
value_sharp K strict text said = ap is_sharp said.3 ∙ value_bytes_sharp strict said.0 said.1 said.2 said.4

value_live : (K : Bool → List ℕ → Type 0) → Live K → Live (Value K)
value_live K live = (48 ∷ live.0, (48 ∷ [], live.0, Equals (48 ∷ []), refl, inl (refl, (refl, refl)), live.1))

after_colon_live : (opened : List Opened) → Live (White (Value (Next opened)))
after_colon_live opened = white_live (Value (Next opened)) (value_live (Next opened) (after_next opened).live)

-- up to the value of a test
to_value : (opened : List Opened) (rest : List ℕ) (n start : ℕ) (field : Field) → n ≡ untaken Colon rest
    → n < length rest → IsField (take n rest) field
    → IsWhiteRead rest (n + 1) start → Leads (Tested opened) (Value (Next opened)) (take start rest) (drop start rest)
to_value opened rest n start field is inside named w =
    let K = Next opened in
    let one = name_leads (White (Value K)) rest n field is inside named in
    let two = white_leads (take w.len (drop (n + 1) rest)) (drop w.len (drop (n + 1) rest)) (Value K)
    (value_sharp K) w.white w.sharp in
    subst (λ s. Leads (Tested opened) (Value K) (take s rest) (drop s rest)) (sym w.end_is)
    (stage_on (Tested opened) (White (Value K)) (Value K) rest (n + 1) w.len one two)

-- a test that was read
pub test_reads : (rest : List ℕ) (n start len : ℕ) (field : Field) (test : ScalarTest) → n ≡ untaken Colon rest
    → n < length rest → IsField (take n rest) field
    → IsWhiteRead rest (n + 1) start → IsValueRead (drop start rest) test len
    → after_value (drop len (drop start rest)) ≡ true
    → IsTestRead rest (Test field test) (start + len)
test_reads rest n start len field test is inside named w v follows_it =
    let white = take w.len (drop (n + 1) rest) in
    let value = take len (drop start rest) in
    let e1 : take start rest ≡ (take n rest ++ 58 ∷ []) ++ white =
    ap (λ k. take k rest) w.end_is ∙
    (take-add (n + 1) w.len rest ∙ ap (λ b. b ++ white) (taken_again rest n is inside)) in
    let e2 : take (start + len) rest ≡ ((take n rest ++ 58 ∷ []) ++ white) ++ value = take-add start len rest
    ∙ ap (λ b. b ++ value) e1 in
    let e3 : ((take n rest ++ 58 ∷ []) ++ white) ++ value ≡ take n rest ++ 58 ∷ (white ++ value) = simp append_assoc in
    record {
      some = omega (arith, w.end_is);
      fits = omega (arith, v.fits, length-drop start rest, w.fits);
      is = (take n rest, white, value, e2 ∙ e3, named, w.white, v.is);
      is_test = refl;
      follows_it = ap after_value (sym (drop-drop len start rest)) ∙ follows_it;
      leads = λ opened. stage_on (Tested opened) (Value (Next opened)) (Next opened) rest start len
          (to_value opened rest n start field is inside named w) (v.leads opened);
    }

there : (L : Bool → List ℕ → Type 0) (rest : List ℕ) (place : ℕ) → 0 < place → IsFault L rest place
    → BreaksThere L rest place
there L rest place far (inl b) = inl b
there L rest place far (inr p) = inr (far, p)

pub test_value_fails : (rest : List ℕ) (n start place : ℕ) (field : Field) → n ≡ untaken Colon rest → n < length rest
    → IsField (take n rest) field
    → IsWhiteRead rest (n + 1) start → BreaksValue (drop start rest) place → BreaksTest rest (start + place)
test_value_fails rest n start place field is inside named w fault opened =
    there (Tested opened) rest (start + place) (omega (arith, w.end_is))
    (stage_fault (Tested opened) (Value (Next opened)) rest start place w.fits
    (to_value opened rest n start field is inside named w) (fault opened))

pub test_name_fails : (rest : List ℕ) (n place : ℕ) → n ≡ untaken Colon rest → n ≤ length rest
    → BreaksAt NamesField (take n rest) place → BreaksTest rest place
test_name_fails rest n place is fits b opened =
    inl (name_breaks (White (Value (Next opened))) (after_colon_live opened) rest n place is fits b)

pub test_ends : (rest : List ℕ) (n : ℕ) (field : Field) → n ≡ untaken Colon rest → n ≡ length rest
    → IsField (take n rest) field → BreaksTest rest n
test_ends rest n field is end named opened =
    inl (no_colon (White (Value (Next opened))) (after_colon_live opened) rest n field is end named)

sharp_past : (rest : List ℕ) → is_sharp rest ≡ true → past_white rest ≡ rest
sharp_past [] keen = refl
sharp_past (x ∷ rest) keen = by_white (is_white x) refl
  where
    by_white : (b : Bool) → is_white x ≡ b → past_white (x ∷ rest) ≡ x ∷ rest
    by_white true white = let bad : false ≡ true = sym (ap not white) ∙ keen in cc
    by_white false white = rw white refl

-- UTF-8 after white bytes
pub white_utf8 : (bytes : List ℕ) (at end : ℕ) → IsWhiteRead bytes at end → IsUtf8 (drop at bytes)
    → IsUtf8 (drop end bytes)
white_utf8 bytes at end w text =
    let after = drop w.len (drop at bytes) in
    let same : past_white (drop at bytes) ≡ after =
    ap past_white (sym (take-append-drop w.len (drop at bytes)))
    ∙ (skip_white (take w.len (drop at bytes)) after w.white ∙ sharp_past after w.sharp) in
    let there_is : after ≡ drop end bytes = drop-drop w.len at bytes ∙ ap (λ k. drop k bytes) (sym w.end_is) in
    subst IsUtf8 (same ∙ there_is) (utf8_past_white (drop at bytes) text)

-- UTF-8 after a colon
pub colon_utf8 : (rest : List ℕ) (n : ℕ) → n ≡ untaken Colon rest → n < length rest → IsUtf8 rest
    → IsUtf8 (drop (n + 1) rest)
colon_utf8 rest n is inside text =
    (cut_at_ascii (take n rest) (drop (n + 1) rest) 58 (omega arith)
    (subst IsUtf8 (colon_there rest n is inside) text)).1

after_small : (x : ℕ) (rest : List ℕ) → after_value (x ∷ rest) ≡ true → x < 128
after_small x rest = small_either x _ _ (white_small x) (small_by x 41 (omega arith))

-- UTF-8 after a value
pub value_utf8 : (rest : List ℕ) (len : ℕ) → after_value (drop len rest) ≡ true → IsUtf8 rest → IsUtf8 (drop len rest)
value_utf8 rest len follows_it text = by_rest (drop len rest) refl follows_it
  where
    by_rest : (more : List ℕ) → drop len rest ≡ more → after_value more ≡ true → IsUtf8 more
    by_rest [] same said = (cut_at_ascii [] [] 48 (omega arith) (one_ascii 48 (omega arith))).1
    by_rest (x ∷ more) same said =
        let whole : rest ≡ take len rest ++ x ∷ more = sym (take-append-drop len rest)
        ∙ ap (λ t. take len rest ++ t) same in
        let small = after_small x more said in
        IsUtf8-append (x ∷ []) more (one_ascii x small)
        (cut_at_ascii (take len rest) more x small (subst IsUtf8 whole text)).1

numeral_there : (numeral : List ℕ) (number : ℤ) (more : List ℕ) → IsNumeral numeral number → numeral ++ more ≡ [] → ⊥
numeral_there [] number more (digits, are, inl is) none = are.0 (sym is.0)
numeral_there [] number more (digits, are, inr is) none = cc
numeral_there (x ∷ numeral) number more is none = cc

-- the place is in the text
pub value_within : (rest : List ℕ) (place : ℕ) → BreaksValue rest place → place ≤ length rest
value_within rest place fault = by_fault (fault [])
  where
    by_fault : IsFault (Value (Next [])) rest place → place ≤ length rest
    by_fault (inl b) = b.within
    by_fault (inr p) = by_place (cases_lt (length rest) place)
      where
        by_place : (length rest < place) ⊎ (place ≤ length rest) → place ≤ length rest
        by_place (inl far) = absurd (numeral_there p.numeral p.number p.rest p.is
            (sym p.here ∙ drop_all place rest (omega arith)))
        by_place (inr fits) = fits

-- a test at the head, where a term is due
pub tested_leads : (opened : List Opened) (x : ℕ) (rest : List ℕ) → first rest ≡ Some x → not (is_white x) ≡ true
    → class_byte x ≢ 40 → class_byte x ≢ 78 → class_byte x ≢ 42
    → Leads (Rest (record { due = Term; opened = opened })) (Tested opened) [] rest
unfolding class_of
tested_leads opened x rest head dark no_open no_not no_every = record {
  forth = λ strict more (
    name,
    r,
    field,
    are,
    named,
    (white, r2, are2, white_is, (bytes, after, test, are3, value_is, (glue, (tokens, spelt, goes)))),
  ). (
    Test field test ∷ tokens,
    (
      [],
      name ++ 58 ∷ (white ++ bytes),
      after,
      are ∙ (ap (λ t. name ++ 58 ∷ t) (are2 ∙ ap (λ t. white ++ t) are3)
          ∙ (ap (λ t. name ++ 58 ∷ t) (sym (append_assoc white bytes after))
          ∙ sym (append_assoc name (58 ∷ (white ++ bytes)) after))),
      refl,
      (name, white, bytes, refl, named, white_is, value_is),
      glue,
      spelt,
    ),
    goes,
  );
  back = λ strict more same said.
      let tail = starts more same in
      let t = token_first (record { due = Term; opened = opened }) strict x tail.0 dark
      (subst (Rest (record { due = Term; opened = opened }) strict) tail.1 said) in
      let class = token_class strict t.spelling t.rest t.token x t.is (ap first (sym t.are)) in
      subst (Tested opened strict) (sym (tail.1 ∙ t.are))
      (by_token strict t.token t.spelling t.rest t.tokens class t.is t.follows_it t.spelt t.goes);
}
  where
    starts : (more : List ℕ) → first more ≡ first rest → (tail : List ℕ) × (more ≡ x ∷ tail)
    starts [] same = let bad : None ≡ Some x = same ∙ head in cc
    starts (y ∷ more) same =
        let byte : Some y ≡ Some x = same ∙ head in
        let is : y ≡ x = cc in (more, ap (λ z. z ∷ more) is)

    by_token : (strict : Bool) (token : Token) (spelling after : List ℕ) (tokens : List Token)
        → class_byte x ≡ class_of token → IsToken strict spelling token
        → follows token after ≡ true → Spelt strict after tokens
        → runs (moves (record { due = Term; opened = opened }) token) tokens ≡ true
        → Tested opened strict (spelling ++ after)
    by_token strict Open spelling after tokens class is glue spelt goes = absurd (no_open class)
    by_token strict Close spelling after tokens class is glue spelt goes = absurd (no_runs tokens goes)
    by_token strict Not spelling after tokens class is glue spelt goes = absurd (no_not class)
    by_token strict And spelling after tokens class is glue spelt goes = absurd (no_runs tokens goes)
    by_token strict Or spelling after tokens class is glue spelt goes = absurd (no_runs tokens goes)
    by_token strict Every spelling after tokens class is glue spelt goes = absurd (no_every class)
    by_token strict (Test field test) spelling after tokens class
        (name, white, bytes, are, named, white_is, value_is) glue spelt goes = (
          name,
          white ++ (bytes ++ after),
          field,
          ap (λ s. s ++ after) are ∙ (append_assoc name (58 ∷ (white ++ bytes)) after
              ∙ ap (λ t. name ++ 58 ∷ t) (append_assoc white bytes after)),
          named,
          (white, bytes ++ after, refl, white_is, (bytes, after, test, refl, value_is, (glue, (tokens, spelt, goes)))),
        )

pub there_fits : (L : Bool → List ℕ → Type 0) (rest : List ℕ) (place : ℕ) → BreaksThere L rest place
    → place ≤ length rest
there_fits L rest place (inl b) = b.within
there_fits L rest place (inr (far, p)) = by_place (cases_lt (length rest) place)
  where
    by_place : (length rest < place) ⊎ (place ≤ length rest) → place ≤ length rest
    by_place (inl past) = absurd (numeral_there p.numeral p.number p.rest p.is
        (sym p.here ∙ drop_all place rest (omega arith)))
    by_place (inr fits) = fits
