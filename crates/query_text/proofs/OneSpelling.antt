-- A text is a query with at most one list of tokens.
use Rattle.std.proofs.Common.{◌≡◌, ℕ, true, List, [], ◌∷◌, ◌++◌, Some, refl, sym, ap, ◌∙◌, subst, append_assoc}
use Rattle.std.specs.Prelude.{not}
use Rattle.std.proofs.lemmas.List.{append_cancel_left}
use Rattle.dobj_field.specs.Field.{is_white, IsField}
use Rattle.dobj_field.specs.declared.field.Field.{Field}
use Rattle.dobj_field.specs.declared.field.Field.TheVariants.{Id, OfType, Pointer}
use Rattle.dobj_field.specs.declared.reach.ScalarTest.{ScalarTest}
use Rattle.query_text.specs.declared.query.Token.{Token}
use Rattle.query_text.specs.declared.query.Token.TheVariants.{Open, Close, Not, And, Or, Every, Test}
use Rattle.query_text.specs.Parts.{all_white}
use Rattle.query_text.specs.Spelling.{after_value, follows, IsToken, Spelt, IsQueryText}
use Rattle.query_text.specs.Stages.{first}
use Rattle.query_text.specs.Reading.{sharp_of, is_sharp}
use Rattle.query_text.proofs.CutLemmas.{both}
use Rattle.query_text.proofs.StageLemmas.{white_split}
use Rattle.query_text.proofs.TestLemmas.{value_bytes_sharp}
use Rattle.query_text.proofs.TokenLemmas.{Keyword, class_of, token_class, only, open_word, close_word, not_word, and_word, or_word, every_word}
use Rattle.query_text.proofs.OneValues.{one_name, one_value}

-- a test and its parts
test_same : (f g : Field) (t u : ScalarTest) → f ≡ g → t ≡ u → Test f t ≡ Test g u
test_same f g t u fields tests = ap (λ h. Test h t) fields ∙ ap (Test g) tests

-- a test at the head of a text, and what follows it
one_test : (bytes other rest s : List ℕ) (f g : Field) (t u : ScalarTest) → IsToken true bytes (Test f t)
    → IsToken true other (Test g u) → after_value rest ≡ true → after_value s ≡ true → bytes ++ rest ≡ other ++ s
    → (Test f t ≡ Test g u) × (rest ≡ s)
one_test bytes other rest s f g t u (name, white, value, are, named, dark, is)
    (name2, white2, value2, are2, named2, dark2, is2) ends end2 same =
    let one : bytes ++ rest ≡ name ++ 58 ∷ (white ++ (value ++ rest)) = ap (λ b. b ++ rest) are ∙ simp append_assoc in
    let two : other ++ s ≡ name2 ++ 58 ∷ (white2 ++ (value2 ++ s)) = ap (λ b. b ++ s) are2 ∙ simp append_assoc in
    let names = one_name name name2 (white ++ (value ++ rest)) (white2 ++ (value2 ++ s)) f g named named2
    (sym one ∙ (same ∙ two)) in
    let values = white_split white white2 (value ++ rest) (value2 ++ s) dark dark2
    (value_bytes_sharp true value rest t is) (value_bytes_sharp true value2 s u is2) names.1 in
    let end = one_value (value ++ rest) value value2 rest s t u refl values is is2 ends end2 in
    (test_same f g t u names.0 end.0, end.1)

-- a token that a word writes, and what follows it
one_keyword : (kw token : Token) (word : List ℕ) (h : ℕ) (bytes other rest s : List ℕ) → Keyword kw word h
    → IsToken true bytes kw → IsToken true other token → bytes ++ rest ≡ other ++ s → (kw ≡ token) × (rest ≡ s)
one_keyword kw token word h bytes other rest s k is also same =
    let spelled : bytes ≡ word = k.written true bytes is in
    let head : first (other ++ s) ≡ Some h = ap first (sym same)
    ∙ (ap (λ b. first (b ++ rest)) spelled ∙ k.head rest) in
    let class : class_of token ≡ h = sym (token_class true other s token h also head) ∙ k.plain in
    let found : token ≡ kw = only token kw h class k.some k.code in
    let spelled2 : other ≡ word = k.written true other (subst (IsToken true other) found also) in (
      sym found,
      append_cancel_left word rest s
          (ap (λ b. b ++ rest) (sym spelled) ∙ (same ∙ ap (λ b. b ++ s) spelled2)),
    )

turned : {t u : Token} {a b : List ℕ} → (t ≡ u) × (a ≡ b) → (u ≡ t) × (b ≡ a)
turned both_are = (sym both_are.0, sym both_are.1)

-- the token at the head of a text, and what follows it
one_token : (token other : Token) (bytes more rest s : List ℕ) → IsToken true bytes token → IsToken true more other
    → follows token rest ≡ true → follows other s ≡ true → bytes ++ rest ≡ more ++ s
    → (token ≡ other) × (rest ≡ s)
one_token Open other bytes more rest s is also a b same =
    one_keyword Open other _ _ bytes more rest s open_word is also same
one_token Close other bytes more rest s is also a b same =
    one_keyword Close other _ _ bytes more rest s close_word is also same
one_token Not other bytes more rest s is also a b same =
    one_keyword Not other _ _ bytes more rest s not_word is also same
one_token And other bytes more rest s is also a b same =
    one_keyword And other _ _ bytes more rest s and_word is also same
one_token Or other bytes more rest s is also a b same =
    one_keyword Or other _ _ bytes more rest s or_word is also same
one_token Every other bytes more rest s is also a b same =
    one_keyword Every other _ _ bytes more rest s every_word is also same
one_token (Test f t) Open bytes more rest s is also a b same =
    turned (one_keyword Open (Test f t) _ _ more bytes s rest open_word also is (sym same))
one_token (Test f t) Close bytes more rest s is also a b same =
    turned (one_keyword Close (Test f t) _ _ more bytes s rest close_word also is (sym same))
one_token (Test f t) Not bytes more rest s is also a b same =
    turned (one_keyword Not (Test f t) _ _ more bytes s rest not_word also is (sym same))
one_token (Test f t) And bytes more rest s is also a b same =
    turned (one_keyword And (Test f t) _ _ more bytes s rest and_word also is (sym same))
one_token (Test f t) Or bytes more rest s is also a b same =
    turned (one_keyword Or (Test f t) _ _ more bytes s rest or_word also is (sym same))
one_token (Test f t) Every bytes more rest s is also a b same =
    turned (one_keyword Every (Test f t) _ _ more bytes s rest every_word also is (sym same))
one_token (Test f t) (Test g u) bytes more rest s is also a b same = one_test bytes more rest s f g t u is also a b same

keyword_dark : (kw : Token) (word : List ℕ) (h : ℕ) (bytes rest : List ℕ) → Keyword kw word h → IsToken true bytes kw
    → is_sharp (bytes ++ rest) ≡ true
keyword_dark kw word h bytes rest k is =
    ap (λ b. is_sharp (b ++ rest)) (k.written true bytes is) ∙ (ap sharp_of (k.head rest) ∙ k.dark)

field_dark : (name rest : List ℕ) (field : Field) → IsField name field → is_sharp (name ++ rest) ≡ true
field_dark name rest Id is = ap (λ n. is_sharp (n ++ rest)) is
field_dark name rest OfType is = ap (λ n. is_sharp (n ++ rest)) is
field_dark name rest (Pointer tokens) is = ap (λ n. is_sharp (n ++ rest)) is.1

-- a token begins with no white byte
token_dark : (token : Token) (bytes rest : List ℕ) → IsToken true bytes token → is_sharp (bytes ++ rest) ≡ true
token_dark Open bytes rest is = keyword_dark Open _ _ bytes rest open_word is
token_dark Close bytes rest is = keyword_dark Close _ _ bytes rest close_word is
token_dark Not bytes rest is = keyword_dark Not _ _ bytes rest not_word is
token_dark And bytes rest is = keyword_dark And _ _ bytes rest and_word is
token_dark Or bytes rest is = keyword_dark Or _ _ bytes rest or_word is
token_dark Every bytes rest is = keyword_dark Every _ _ bytes rest every_word is
token_dark (Test f t) bytes rest (name, white, value, are, named, dark, is) =
    ap is_sharp (ap (λ b. b ++ rest) are ∙ append_assoc name (58 ∷ (white ++ value)) rest)
    ∙ field_dark name (58 ∷ (white ++ value) ++ rest) f named

some_byte : (x : ℕ) (bytes : List ℕ) → x ∷ bytes ≡ [] → ⊥
some_byte x bytes none = cc

-- a token has a byte
token_some : (token : Token) (bytes : List ℕ) → IsToken true bytes token → bytes ≡ [] → ⊥
token_some Open bytes is none = some_byte 40 [] (sym is ∙ none)
token_some Close bytes is none = some_byte 41 [] (sym is ∙ none)
token_some Not bytes is none = some_byte 78 (79 ∷ 84 ∷ []) (sym is ∙ none)
token_some And bytes is none = some_byte 65 (78 ∷ 68 ∷ []) (sym is ∙ none)
token_some Or bytes is none = some_byte 79 (82 ∷ []) (sym is ∙ none)
token_some Every bytes is none = some_byte 42 (58 ∷ 42 ∷ []) (sym is ∙ none)
token_some (Test f t) bytes (name, white, value, are, named, dark, is) none =
    let bad : name ++ 58 ∷ (white ++ value) ≡ [] = sym are ∙ none in no_colon name (white ++ value) bad
  where
    no_colon : (a b : List ℕ) → a ++ 58 ∷ b ≡ [] → ⊥
    no_colon [] b said = cc
    no_colon (x ∷ a) b said = cc

-- white bytes have no token
white_end : (white bytes rest : List ℕ) → all_white (white ++ (bytes ++ rest)) ≡ true
    → is_sharp (bytes ++ rest) ≡ true → (bytes ≡ [] → ⊥) → ⊥
white_end (x ∷ white) bytes rest all dark some =
    white_end white bytes rest (both (is_white x) (all_white (white ++ (bytes ++ rest))) all).1 dark some
white_end [] [] rest all dark some = some refl
white_end [] (x ∷ bytes) rest all dark some =
    let white : is_white x ≡ true = (both (is_white x) (all_white (bytes ++ rest)) all).0 in
    let bad : not true ≡ true = ap not (sym white) ∙ dark in cc

pub one_spelling : (tokens others : List Token) (text : List ℕ) → Spelt true text tokens → Spelt true text others
    → tokens ≡ others
one_spelling [] [] text a b = refl
one_spelling [] (other ∷ others) text a (white, bytes, rest, are, dark, is, goes, more) =
    absurd (white_end white bytes rest (ap all_white (sym are) ∙ a) (token_dark other bytes rest is)
    (token_some other bytes is))
one_spelling (token ∷ tokens) [] text (white, bytes, rest, are, dark, is, goes, more) b =
    absurd (white_end white bytes rest (ap all_white (sym are) ∙ b) (token_dark token bytes rest is)
    (token_some token bytes is))
one_spelling (token ∷ tokens) (other ∷ others) text (white, bytes, rest, are, dark, is, goes, more)
    (white2, bytes2, rest2, are2, dark2, is2, goes2, more2) =
    let split = white_split white white2 (bytes ++ rest) (bytes2 ++ rest2) dark dark2
    (token_dark token bytes rest is) (token_dark other bytes2 rest2 is2) (sym are ∙ are2) in
    let one = one_token token other bytes bytes2 rest rest2 is is2 goes goes2 split in
    let on = one_spelling tokens others rest more (subst (λ r. Spelt true r others) (sym one.1) more2) in
    ap (λ t. t ∷ tokens) one.0 ∙ ap (λ l. other ∷ l) on

pub one_list_of_tokens : (text : List ℕ) (tokens others : List Token) → IsQueryText true text tokens
    → IsQueryText true text others
    → tokens ≡ others
one_list_of_tokens text tokens others a b = one_spelling tokens others text a.0 b.0
