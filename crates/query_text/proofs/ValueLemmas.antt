-- Words, prefixes and quoted texts as values.
use Rattle.std.proofs.Common.{◌≡◌, ◌≢◌, ℕ, ◌+◌, ◌⊎◌, inl, inr, Bool, true, false, List, [], ◌∷◌, ◌++◌, length, take, Some, refl, sym, ap, ◌∙◌, subst, arith, append_assoc, append-nil, true≢false, ne_eqb}
use Rattle.std.specs.Prelude.{◌||◌, ◌==◌}
use Rattle.std.proofs.lemmas.List.{take_all}
use Rattle.dobj_field.specs.Field.{is_white}
use Rattle.dobj_field.specs.declared.reach.ScalarTest.{ScalarTest}
use Rattle.dobj_field.specs.declared.reach.ScalarTest.TheVariants.{Equals, Begins, Between}
use Rattle.query_text.specs.Spelling.{ended, taking, unescaped, ends_word, ends_quoted, begins_word, after_value, IsWord, IsQuoted, IsPrefix, IsValue}
use Rattle.query_text.specs.Reading.{Plain}
use Rattle.query_text.specs.Faults.{IsFault}
use Rattle.query_text.specs.Stages.{first, Leads, Value}
use Rattle.query_text.proofs.Languages.{first_taken}
use Rattle.query_text.proofs.StageLemmas.{Live}
use Rattle.query_text.proofs.TextLemmas.{taking_on, through, no_more, word_back, quoted_back}

-- what may follow a value
pub record AfterValue (K : Bool → List ℕ → Type 0) : Type 0 where
  pub live : Live K
  pub lax : (more : List ℕ) × K false more
  pub glue : (strict : Bool) (text : List ℕ) → K strict text → after_value text ≡ true

ends_in : (w o c q s : Bool) → (w || c) ≡ true → (w || o || c || q || s) ≡ true
ends_in true o c q s said = refl
ends_in false true true q s said = refl
ends_in false false true q s said = refl
ends_in false o false q s said = cc

pub after_ends : (text : List ℕ) → after_value text ≡ true → ended ends_word text ≡ true
after_ends [] said = refl
after_ends (x ∷ rest) said = ends_in (is_white x) (x == 40) (x == 41) (x == 34) (x == 42) said

-- a text whose value is a word, or a prefix
pub record WordLike (K : Bool → List ℕ → Type 0) (strict : Bool) (text : List ℕ) : Type 0 where
  pub word : List ℕ
  pub rest : List ℕ
  pub same : word ++ rest ≡ text
  pub closed : taking ends_word false word ≡ Some false
  pub stop : ended ends_word rest ≡ true
  pub tail : ((begins_word word ≡ true) × K strict rest) ⊎ ((after : List ℕ) × (rest ≡ 42 ∷ after) × K strict after)

wordlike : (K : Bool → List ℕ → Type 0) → AfterValue K → (strict : Bool) (text : List ℕ) → first text ≢ Some 34
    → first text ≢ Some 91
    → Value K strict text → WordLike K strict text
wordlike K k strict text quote square (bytes, rest, Equals spelt, are, inl word, said) = record {
  word = bytes;
  rest = rest;
  same = sym are;
  closed = word.1.0;
  stop = after_ends rest (k.glue strict rest said);
  tail = inl (word.0, said);
}
wordlike K k strict text quote square (bytes, rest, Equals spelt, are, inr (inside, is, quoted), said) =
    absurd (quote (ap first (are ∙ ap (λ b. b ++ rest) is)))
wordlike K k strict text quote square (bytes, rest, Begins spelt, are, (start, is, inl word), said) = record {
  word = start;
  rest = 42 ∷ rest;
  same = sym (are ∙ (ap (λ b. b ++ rest) is ∙ append_assoc start (42 ∷ []) rest));
  closed = word.1.0;
  stop = refl;
  tail = inr (rest, refl, said);
}
wordlike K k strict text quote square (bytes, rest, Begins spelt, are, (start, is, inr none), said) = record {
  word = [];
  rest = 42 ∷ rest;
  same = sym (are ∙ (ap (λ b. b ++ rest) is ∙ ap (λ s. (s ++ 42 ∷ []) ++ rest) none.0));
  closed = refl;
  stop = refl;
  tail = inr (rest, refl, said);
}
wordlike K k strict text quote square (bytes, rest, Between low high, are, is, said) =
    absurd (square (ap first (are ∙ ap (λ b. b ++ rest) is.are)))

-- what follows the word that was scanned
after_word : (K : Bool → List ℕ → Type 0) → AfterValue K → (strict : Bool) (word more : List ℕ)
    → taking ends_word false word ≡ Some false
    → ended ends_word more ≡ true → first (word ++ more) ≢ Some 34 → first (word ++ more) ≢ Some 91
    → Value K strict (word ++ more)
    → ((begins_word word ≡ true) × K strict more) ⊎ ((after : List ℕ) × (more ≡ 42 ∷ after) × K strict after)
after_word K k strict word more closed stop quote square said =
    let like = wordlike K k strict (word ++ more) quote square said in
    let t = through ends_word word_back false like.word word like.rest more false like.closed like.stop closed
    like.same in
    let end = no_more ends_word word_back t.rest like.rest more t.closed stop t.same in
    let whole : like.word ≡ word = t.are ∙ (ap (λ r. word ++ r) end.0 ∙ append-nil word) in
    by_tail like.tail whole end.1
  where
    by_tail : {w r : List ℕ} → ((begins_word w ≡ true) × K strict r)
        ⊎ ((after : List ℕ) × (r ≡ 42 ∷ after) × K strict after) → w ≡ word → r ≡ more
        → ((begins_word word ≡ true) × K strict more) ⊎ ((after : List ℕ) × (more ≡ 42 ∷ after) × K strict after)
    by_tail (inl (begins, goes)) whole same = inl (ap begins_word (sym whole) ∙ begins, subst (K strict) same goes)
    by_tail (inr (after, is, goes)) whole same = inr (after, sym same ∙ is, goes)

plain_as : (word more rest : List ℕ) → first more ≡ first rest → Plain (word ++ rest) → Plain (word ++ more)
plain_as [] more rest same plain = (λ e. plain.0 (sym same ∙ e), λ e. plain.1 (sym same ∙ e))
plain_as (x ∷ word) more rest same plain = plain

ended_as : (more rest : List ℕ) → first more ≡ first rest → ended ends_word rest ≡ true → ended ends_word more ≡ true
ended_as [] rest same stop = refl
ended_as (x ∷ more) [] same stop = cc
ended_as (x ∷ more) (y ∷ rest) same stop = let byte : x ≡ y = cc in rw byte stop

no_star : (more rest after : List ℕ) → first more ≡ first rest → first rest ≢ Some 42 → more ≡ 42 ∷ after → ⊥
no_star more rest after same other is = other (sym same ∙ ap first is)

pub word_value_leads : (K : Bool → List ℕ → Type 0) → AfterValue K → (word rest : List ℕ)
    → IsWord word (unescaped false word) → ended ends_word rest ≡ true
    → first rest ≢ Some 42 → Plain (word ++ rest) → Leads (Value K) K word rest
word_value_leads K k word rest is stop other plain = record {
  forth = λ strict more said. (word, more, Equals (unescaped false word), refl, inl is, said);
  back = λ strict more same said.
      let also = plain_as word more rest same plain in
      goes (after_word K k strict word more is.1.0 (ended_as more rest same stop) also.0 also.1 said) same;
}
  where
    goes : {strict : Bool} {more : List ℕ} → ((begins_word word ≡ true) × K strict more)
        ⊎ ((after : List ℕ) × (more ≡ 42 ∷ after) × K strict after)
        → first more ≡ first rest → K strict more
    goes (inl said) same = said.1
    goes {more = more} (inr (after, is, said)) same = absurd (no_star more rest after same other is)

pub prefix_value_leads : (K : Bool → List ℕ → Type 0) → AfterValue K → (word rest spelt : List ℕ)
    → IsPrefix (word ++ 42 ∷ []) spelt
    → taking ends_word false word ≡ Some false → Plain (word ++ 42 ∷ rest) → Leads (Value K) K (word ++ 42 ∷ []) rest
prefix_value_leads K k word rest spelt is closed plain = record {
  forth = λ strict more said. (word ++ 42 ∷ [], more, Begins spelt, refl, is, said);
  back = λ strict more same said.
      let also = plain_as word (42 ∷ more) (42 ∷ rest) refl plain in
      goes strict more (after_word K k strict word (42 ∷ more) closed refl also.0 also.1
      (subst (Value K strict) (append_assoc word (42 ∷ []) more) said));
}
  where
    goes : (strict : Bool) (more : List ℕ)
        → ((begins_word word ≡ true) × K strict (42 ∷ more))
        ⊎ ((after : List ℕ) × (42 ∷ more ≡ 42 ∷ after) × K strict after) → K strict more
    goes strict more (inl said) = let bad : false ≡ true = k.glue strict (42 ∷ more) said.1 in cc
    goes strict more (inr (after, is, said)) = let same : more ≡ after = cc in subst (K strict) (sym same) said

pub word_begins : (word more : List ℕ) → word ≢ [] → Plain word → begins_word (word ++ more) ≡ true
word_begins [] more some plain = absurd (some refl)
word_begins (x ∷ word) more some plain = rw (ne_eqb x 91 (λ e. plain.1 (ap Some e))) refl

open_end : (rest r : List ℕ) → rest ++ r ≡ [] → taking ends_word true rest ≡ Some false → ⊥
open_end [] r same said = cc
open_end (x ∷ rest) r same said = cc

-- a word that ends with a `\`
pub dangling : (K : Bool → List ℕ → Type 0) → AfterValue K → (word : List ℕ) → word ≢ []
    → taking ends_word false word ≡ Some true → Plain word
    → IsFault (Value K) word (length word)
dangling K k word some taken plain = inl (record {
  within = omega arith;
  begins = (
    48 ∷ k.live.0,
    (
      word ++ 48 ∷ [],
      k.live.0,
      Equals (unescaped false (word ++ 48 ∷ [])),
      ap (λ t. t ++ 48 ∷ k.live.0) (take_all (length word) word (omega arith))
          ∙ sym (append_assoc word (48 ∷ []) k.live.0),
      inl (word_begins word (48 ∷ []) some plain, (taking_on ends_word false word (48 ∷ []) true taken, refl)),
      k.live.1,
    ),
  );
  ends = λ inside. absurd (omega arith);
  short = λ whole said.
      let like = wordlike K k false word plain.0 plain.1 said in
      let t = through ends_word word_back false like.word word like.rest [] true like.closed like.stop taken
      (like.same ∙ sym (append-nil word)) in
      open_end t.rest like.rest t.same t.closed;
})

plain_first : (text rest : List ℕ) → first text ≡ first rest → Plain rest → Plain text
plain_first text rest same plain = (λ e. plain.0 (sym same ∙ e), λ e. plain.1 (sym same ∙ e))

-- no value begins at the head
pub no_value : (K : Bool → List ℕ → Type 0) → AfterValue K → (rest : List ℕ) → ended ends_word rest ≡ true
    → first rest ≢ Some 42 → Plain rest
    → IsFault (Value K) rest 0
no_value K k rest stop other plain = inl (record {
  within = omega arith;
  begins = (48 ∷ k.live.0, (48 ∷ [], k.live.0, Equals (48 ∷ []), refl, inl (refl, (refl, refl)), k.live.1));
  ends = λ inside more said. nothing (take (0 + 1) rest ++ more) (first_taken rest more 0 inside) said;
  short = λ whole said. nothing rest refl said;
})
  where
    tail : (text : List ℕ) → first text ≡ first rest → ((false ≡ true) × K false text)
        ⊎ ((after : List ℕ) × (text ≡ 42 ∷ after) × K false after) → ⊥
    tail text same (inl said) = true≢false (sym said.0)
    tail text same (inr (after, is, said)) = no_star text rest after same other is

    nothing : (text : List ℕ) → first text ≡ first rest → Value K false text → ⊥
    nothing text same said =
        let also = plain_first text rest same plain in
        tail text same (after_word K k false [] text refl (ended_as text rest same stop) also.0 also.1 said)

-- a text whose value is in quotes
pub record QuoteLike (K : Bool → List ℕ → Type 0) (strict : Bool) (text : List ℕ) : Type 0 where
  pub inside : List ℕ
  pub rest : List ℕ
  pub same : inside ++ 34 ∷ rest ≡ text
  pub closed : taking ends_quoted false inside ≡ Some false
  pub goes : K strict rest

pub no_quoted_word : (bytes rest text : List ℕ) → 34 ∷ text ≡ bytes ++ rest → begins_word bytes ≡ true
    → taking ends_word false bytes ≡ Some false → ⊥
no_quoted_word [] rest text are begins said = cc
no_quoted_word (x ∷ bytes) rest text are begins said =
    let byte : x ≡ 34 = cc in
    let bad : taking ends_word false (34 ∷ bytes) ≡ Some false =
    subst (λ y. taking ends_word false (y ∷ bytes) ≡ Some false) byte said in cc

no_quoted_star : (start bytes rest text : List ℕ) → 34 ∷ text ≡ bytes ++ rest → bytes ≡ start ++ 42 ∷ [] → start ≡ []
    → ⊥
no_quoted_star start bytes rest text are is none =
    let whole : 34 ∷ text ≡ 42 ∷ rest = are ∙ (ap (λ b. b ++ rest) is ∙ ap (λ s. (s ++ 42 ∷ []) ++ rest) none) in cc

pub no_quoted_square : (bytes rest text inside : List ℕ) → 34 ∷ text ≡ bytes ++ rest → bytes ≡ 91 ∷ inside → ⊥
no_quoted_square bytes rest text inside are is =
    let whole : 34 ∷ text ≡ 91 ∷ (inside ++ rest) = are ∙ ap (λ b. b ++ rest) is in cc

pub quoted_inside : (bytes rest text inside : List ℕ) → 34 ∷ text ≡ bytes ++ rest → bytes ≡ 34 ∷ (inside ++ 34 ∷ [])
    → inside ++ 34 ∷ rest ≡ text
quoted_inside bytes rest text inside are is =
    let whole : 34 ∷ text ≡ 34 ∷ ((inside ++ 34 ∷ []) ++ rest) = are ∙ ap (λ b. b ++ rest) is in
    let more : text ≡ (inside ++ 34 ∷ []) ++ rest = cc in
    sym (more ∙ append_assoc inside (34 ∷ []) rest)

pub quoted_prefix : (start bytes rest text spelt : List ℕ) → 34 ∷ text ≡ bytes ++ rest → bytes ≡ start ++ 42 ∷ []
    → IsWord start spelt ⊎ ((start ≡ []) × (spelt ≡ [])) → ⊥
quoted_prefix start bytes rest text spelt are is (inl word) =
    no_quoted_word start (42 ∷ rest) text
    (are ∙ (ap (λ b. b ++ rest) is ∙ append_assoc start (42 ∷ []) rest)) word.0 word.1.0
quoted_prefix start bytes rest text spelt are is (inr none) = no_quoted_star start bytes rest text are is none.0

quoted_equals : (K : Bool → List ℕ → Type 0) (strict : Bool) (bytes rest text spelt : List ℕ)
    → 34 ∷ text ≡ bytes ++ rest
    → IsWord bytes spelt ⊎ IsQuoted bytes spelt → K strict rest → QuoteLike K strict text
quoted_equals K strict bytes rest text spelt are (inl word) said =
    absurd (no_quoted_word bytes rest text are word.0 word.1.0)
quoted_equals K strict bytes rest text spelt are (inr quoted) said =
    record {
      inside = quoted.0;
      rest = rest;
      same = quoted_inside bytes rest text quoted.0 are quoted.1;
      closed =
          quoted.2.0;
      goes = said;
    }

quoted_test : (K : Bool → List ℕ → Type 0) (strict : Bool) (bytes rest text : List ℕ) (test : ScalarTest)
    → 34 ∷ text ≡ bytes ++ rest
    → IsValue strict bytes test → K strict rest → QuoteLike K strict text
quoted_test K strict bytes rest text (Equals spelt) are is said =
    quoted_equals K strict bytes rest text spelt are is said
quoted_test K strict bytes rest text (Begins spelt) are is said =
    absurd (quoted_prefix is.0 bytes rest text spelt are is.1 is.2)
quoted_test K strict bytes rest text (Between low high) are is said =
    absurd (no_quoted_square bytes rest text _ are is.are)

quotelike : (K : Bool → List ℕ → Type 0) (strict : Bool) (text : List ℕ) → Value K strict (34 ∷ text)
    → QuoteLike K strict text
quotelike K strict text said = quoted_test K strict said.0 said.1 text said.2 said.3 said.4 said.5

pub quoted_leads : (K : Bool → List ℕ → Type 0) (inside rest : List ℕ) → taking ends_quoted false inside ≡ Some false
    → Leads (Value K) K (34 ∷ (inside ++ 34 ∷ [])) rest
quoted_leads K inside rest closed = record {
  forth = λ strict more said. (
    34 ∷ (inside ++ 34 ∷ []),
    more,
    Equals (unescaped false inside),
    refl,
    inr
        (inside, refl, (closed, refl)),
    said,
  );
  back = λ strict more same said.
      let like = quotelike K strict ((inside ++ 34 ∷ []) ++ more) said in
      let t = through ends_quoted quoted_back false like.inside inside (34 ∷ like.rest)
      (34 ∷ more) false like.closed refl closed
      (like.same ∙ append_assoc inside (34 ∷ []) more) in
      let end = no_more ends_quoted quoted_back t.rest (34 ∷ like.rest) (34 ∷ more) t.closed refl t.same in
      let rests : 34 ∷ like.rest ≡ 34 ∷ more = end.1 in
      let whole : like.rest ≡ more = cc in
      subst (K strict) whole like.goes;
}

closing : Bool → List ℕ
closing true = 48 ∷ []
closing false = []

closes : (f : Bool) → taking ends_quoted f (closing f) ≡ Some false
unfolding closing
closes true = refl
closes false = refl

nothing_after : (rest r : List ℕ) → rest ++ 34 ∷ r ≡ [] → ⊥
nothing_after [] r same = cc
nothing_after (x ∷ rest) r same = cc

-- quotes that nothing closes
pub unclosed : (K : Bool → List ℕ → Type 0) → AfterValue K → (inside : List ℕ) (f : Bool)
    → taking ends_quoted false inside ≡ Some f
    → IsFault (Value K) (34 ∷ inside) (length (34 ∷ inside))
unclosed K k inside f taken = inl (record {
  within = omega arith;
  begins = (
    closing f ++ 34 ∷ k.live.0,
    (
      34 ∷ ((inside ++ closing f) ++ 34 ∷ []),
      k.live.0,
      Equals (unescaped false (inside ++ closing f)),
      ap (λ t. t ++ (closing f ++ 34 ∷ k.live.0)) (take_all (length (34 ∷ inside)) (34 ∷ inside) (omega arith))
          ∙ ap (λ t. 34 ∷ t) (sym (append_assoc (inside ++ closing f) (34 ∷ []) k.live.0
          ∙ append_assoc inside (closing f) (34 ∷ k.live.0))),
      inr (inside ++ closing f, refl, (taking_on ends_quoted false inside (closing f) f taken ∙ closes f, refl)),
      k.live.1,
    ),
  );
  ends = λ within. absurd (omega arith);
  short = λ whole said.
      let like = quotelike K false inside said in
      let t = through ends_quoted quoted_back false like.inside inside (34 ∷ like.rest) [] f like.closed refl taken
      (like.same ∙ sym (append-nil inside)) in
      nothing_after t.rest like.rest t.same;
})

followed_as : (more rest : List ℕ) → first more ≡ first rest → after_value more ≡ after_value rest
followed_as [] [] same = refl
followed_as [] (y ∷ rest) same = cc
followed_as (x ∷ more) [] same = cc
followed_as (x ∷ more) (y ∷ rest) same = let byte : x ≡ y = cc in rw byte refl

-- a value is read, and what follows it may not
pub unfollowed : (K : Bool → List ℕ → Type 0) → AfterValue K → (rest : List ℕ) → after_value rest ≡ false
    → IsFault K rest 0
unfollowed K k rest wrong = inl (record {
  within = omega arith;
  begins = k.live;
  ends = λ inside more said. true≢false (sym (k.glue false (take (0 + 1) rest ++ more) said)
      ∙ (followed_as (take (0 + 1) rest ++ more) rest (first_taken rest more 0 inside) ∙ wrong));
  short = λ whole said. true≢false (sym (k.glue false rest said) ∙ wrong);
})
