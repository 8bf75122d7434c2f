-- Tokens at the head of a text.
use Rattle.std.proofs.Common.{◌≡◌, ◌≢◌, ℕ, ◌+◌, ◌⊎◌, inl, inr, Bool, true, false, List, [], ◌∷◌, ◌++◌, length, take, drop, Option, Some, None, refl, sym, ap, ◌∙◌, subst, arith, append_assoc, true≢false}
use Rattle.std.specs.Prelude.{◌==◌, ◌||◌, if◌then◌else◌, not}
use Rattle.std.proofs.lemmas.List.{take-append-drop}
use Rattle.dobj_field.specs.Field.{IsField, is_white}
use Rattle.dobj_field.specs.declared.field.Field.{Field}
use Rattle.dobj_field.specs.declared.field.Field.TheVariants.{Id, OfType, Pointer}
use Rattle.query_text.specs.declared.nesting.Due.{Due}
use Rattle.query_text.specs.declared.nesting.Due.TheVariants.{Term, Operator}
use Rattle.query_text.specs.declared.nesting.Opened.{Opened}
use Rattle.query_text.specs.declared.nesting.Opened.TheVariants.{Group, Negation}
use Rattle.query_text.specs.declared.nesting.Nesting.{Nesting}
use Rattle.query_text.specs.declared.query.Token.{Token}
use Rattle.query_text.specs.declared.query.Token.TheVariants.{Open, Close, Not, And, Or, Every, Test}
use Rattle.query_text.specs.Parts.{all_white}
use Rattle.query_text.specs.Spelling.{Spelt, IsToken, follows, after_operator, after_value}
use Rattle.query_text.specs.Faults.{BreaksOff}
use Rattle.query_text.specs.Stages.{first, Leads, Word}
use Rattle.query_text.specs.Reading.{moves, runs, Rest, Glued, is_settled_by, IsSettled, IsKeyword, BreaksKeyword}
use Rattle.query_text.proofs.Languages.{first_taken, lead_on, breaks_on, breaks_as}
use Rattle.query_text.proofs.StageLemmas.{Live, word_leads, word_breaks}
use Rattle.query_text.proofs.StateLemmas.{close_tokens, close_text, close_spelt, close_runs, white_spelt}
use Rattle.query_text.proofs.CutLemmas.{both}

-- the first token of a text, and the rest
pub record TokenFirst (nesting : Nesting) (strict : Bool) (text : List ℕ) : Type 0 where
  pub token : Token
  pub spelling : List ℕ
  pub rest : List ℕ
  pub tokens : List Token
  pub are : text ≡ spelling ++ rest
  pub is : IsToken strict spelling token
  pub follows_it : follows token rest ≡ true
  pub spelt : Spelt strict rest tokens
  pub goes : runs (moves nesting token) tokens ≡ true

not_white : (x : ℕ) → not (is_white x) ≡ true → is_white x ≡ true → ⊥
not_white x dark white = let bad : false ≡ true = sym (ap not white) ∙ dark in cc

pub token_first : (nesting : Nesting) (strict : Bool) (x : ℕ) (text : List ℕ) → not (is_white x) ≡ true
    → Rest nesting strict (x ∷ text) → TokenFirst nesting strict (x ∷ text)
token_first nesting strict x text dark ([], spelt, goes) =
    absurd (not_white x dark (both (is_white x) (all_white text) spelt).0)
token_first nesting strict x text dark
    (token ∷ tokens, ([], spelling, rest, are, white_is, is, follows_it, spelt), goes) = record {
      token = token;
      spelling = spelling;
      rest = rest;
      tokens = tokens;
      are = are;
      is = is;
      follows_it = follows_it;
      spelt = spelt;
      goes = goes;
    }
token_first nesting strict x text dark
    (token ∷ tokens, (y ∷ white, spelling, rest, are, white_is, is, follows_it, spelt), goes) =
    let byte : x ≡ y = cc in
    absurd (not_white x dark (subst (λ z. is_white z ≡ true) (sym byte)
    (both (is_white y) (all_white white) white_is).0))

-- the byte with which a token begins, and 0 for a test
unfoldable pub class_of : Token → ℕ
class_of Open = 40
class_of Close = 41
class_of Not = 78
class_of And = 65
class_of Or = 79
class_of Every = 42
class_of (Test field test) = 0

unfoldable pub class_byte : ℕ → ℕ
class_byte x = if (x == 105) || (x == 116) || (x == 47) then 0 else x

field_class : (name rest : List ℕ) (field : Field) (x : ℕ) → IsField name field → first (name ++ rest) ≡ Some x
    → class_byte x ≡ 0
unfolding class_byte
field_class name rest Id x is head =
    let byte : Some 105 ≡ Some x = ap (λ n. first (n ++ rest)) (sym is) ∙ head in
    let same : 105 ≡ x = cc in rw (sym same) refl
field_class name rest OfType x is head =
    let byte : Some 116 ≡ Some x = ap (λ n. first (n ++ rest)) (sym is) ∙ head in
    let same : 116 ≡ x = cc in rw (sym same) refl
field_class name rest (Pointer tokens) x is head =
    let byte : Some 47 ≡ Some x = ap (λ n. first (n ++ rest)) (sym is.1) ∙ head in
    let same : 47 ≡ x = cc in rw (sym same) refl

word_class : (word spelling rest : List ℕ) (x h : ℕ) → first (word ++ rest) ≡ Some h → class_byte h ≡ h
    → spelling ≡ word → first (spelling ++ rest) ≡ Some x → class_byte x ≡ h
word_class word spelling rest x h head plain is said =
    let byte : Some x ≡ Some h = sym said ∙ (ap (λ s. first (s ++ rest)) is ∙ head) in
    let same : x ≡ h = cc in ap class_byte same ∙ plain

pub plain_class : (class_byte 40 ≡ 40) × (class_byte 41 ≡ 41) × (class_byte 78 ≡ 78) × (class_byte 65 ≡ 65)
    × (class_byte 79 ≡ 79) × (class_byte 42 ≡ 42)
unfolding class_byte
plain_class = (refl, refl, refl, refl, refl, refl)

pub token_class : (strict : Bool) (spelling rest : List ℕ) (token : Token) (x : ℕ) → IsToken strict spelling token
    → first (spelling ++ rest) ≡ Some x → class_byte x ≡ class_of token
unfolding class_of
token_class strict spelling rest Open x is head = word_class (40 ∷ []) spelling rest x 40 refl plain_class.0 is head
token_class strict spelling rest Close x is head = word_class (41 ∷ []) spelling rest x 41 refl plain_class.1 is head
token_class strict spelling rest Not x is head =
    word_class (78 ∷ 79 ∷ 84 ∷ []) spelling rest x 78 refl plain_class.2 is head
token_class strict spelling rest And x is head =
    word_class (65 ∷ 78 ∷ 68 ∷ []) spelling rest x 65 refl plain_class.3 is head
token_class strict spelling rest Or x is head = word_class (79 ∷ 82 ∷ []) spelling rest x 79 refl plain_class.4 is head
token_class strict spelling rest Every x is head =
    word_class (42 ∷ 58 ∷ 42 ∷ []) spelling rest x 42 refl plain_class.5 is head
token_class strict spelling rest (Test field test) x is head =
    field_class is.0 (58 ∷ (is.1 ++ is.2) ++ rest) field x is.4
    (ap first (sym (append_assoc is.0 (58 ∷ (is.1 ++ is.2)) rest))
    ∙ (ap (λ s. first (s ++ rest)) (sym is.3) ∙ head))

unfoldable pub decode : ℕ → Option Token
decode x =
    if x == 40 then Some Open else if x == 41 then Some Close else if x == 78 then Some Not
    else if x == 65 then Some And else if x == 79 then Some Or else if x == 42 then Some Every else None

decoded : (token : Token) → (class_of token ≡ 0) ⊎ (decode (class_of token) ≡ Some token)
unfolding class_of decode
decoded Open = inr refl
decoded Close = inr refl
decoded Not = inr refl
decoded And = inr refl
decoded Or = inr refl
decoded Every = inr refl
decoded (Test field test) = inl refl

-- the token that begins with this byte
pub only : (token kw : Token) (h : ℕ) → class_of token ≡ h → h ≢ 0 → decode h ≡ Some kw → token ≡ kw
only token kw h is some said = by_case (decoded token)
  where
    by_case : (class_of token ≡ 0) ⊎ (decode (class_of token) ≡ Some token) → token ≡ kw
    by_case (inl none) = absurd (some (sym is ∙ none))
    by_case (inr found) =
        let both_are : Some token ≡ Some kw = sym found ∙ (ap decode is ∙ said) in cc

pub no_runs : (tokens : List Token) → runs None tokens ≡ true → ⊥
no_runs tokens said = cc

dark_as : (x : ℕ) (more rest : List ℕ) → first more ≡ first rest → first rest ≡ Some x → (tail : List ℕ)
    × (more ≡ x ∷ tail)
dark_as x [] rest same head = let bad : None ≡ Some x = same ∙ head in cc
dark_as x (y ∷ more) rest same head =
    let byte : Some y ≡ Some x = same ∙ head in
    let is : y ≡ x = cc in (more, ap (λ z. z ∷ more) is)

-- a token that a word writes
pub record Keyword (kw : Token) (word : List ℕ) (h : ℕ) : Type 0 where
  pub head : (rest : List ℕ) → first (word ++ rest) ≡ Some h
  pub some : h ≢ 0
  pub dark : not (is_white h) ≡ true
  pub plain : class_byte h ≡ h
  pub code : decode h ≡ Some kw
  pub writes : (strict : Bool) → IsToken strict word kw
  pub written : (strict : Bool) (spelling : List ℕ) → IsToken strict spelling kw → spelling ≡ word

kw_goes : (nesting next : Nesting) (kw token : Token) (word : List ℕ) (strict : Bool) (spelling rest : List ℕ)
    (tokens : List Token)
    → moves nesting kw ≡ Some next → token ≡ kw → ((s : List ℕ) → IsToken strict s kw → s ≡ word)
    → IsToken strict spelling token → follows token rest ≡ true
    → Spelt strict rest tokens → runs (moves nesting token) tokens ≡ true
    → Word word (Glued (follows kw) (Rest next)) strict (spelling ++ rest)
kw_goes nesting next kw token word strict spelling rest tokens moved same written is follows_it spelt goes =
    let spelled : spelling ≡ word = written spelling (subst (IsToken strict spelling) same is) in (
      rest,
      ap (λ s. s ++ rest) spelled,
      (
        subst (λ t. follows t rest ≡ true) same follows_it,
        (
          tokens,
          spelt,
          ap (λ m. runs m tokens) (sym moved)
              ∙ (ap (λ t. runs (moves nesting t) tokens) (sym same) ∙ goes),
        ),
      ),
    )

kw_back : (nesting next : Nesting) (kw : Token) (word : List ℕ) (h : ℕ) (strict : Bool) (text : List ℕ)
    → Keyword kw word h → moves nesting kw ≡ Some next
    → Rest nesting strict (h ∷ text) → Word word (Glued (follows kw) (Rest next)) strict (h ∷ text)
kw_back nesting next kw word h strict text k moved said =
    let t = token_first nesting strict h text k.dark said in
    let class : class_byte h ≡ class_of t.token =
    token_class strict t.spelling t.rest t.token h t.is (ap first (sym t.are)) in
    let same = only t.token kw h (sym class ∙ k.plain) k.some k.code in
    subst (Word word (Glued (follows kw) (Rest next)) strict) (sym t.are)
    (kw_goes nesting next kw t.token word strict t.spelling t.rest t.tokens moved same
    (k.written strict) t.is t.follows_it t.spelt t.goes)

-- a keyword at the head
pub kw_leads : (nesting next : Nesting) (kw : Token) (word : List ℕ) (h : ℕ) (rest : List ℕ) → Keyword kw word h
    → moves nesting kw ≡ Some next
    → first rest ≡ Some h → Leads (Rest nesting) (Word word (Glued (follows kw) (Rest next))) [] rest
kw_leads nesting next kw word h rest k moved head = record {
  forth = λ strict more (after, are, (glue, (tokens, spelt, goes))).
      (kw ∷ tokens, ([], word, after, are, refl, k.writes strict, glue, spelt), ap (λ m. runs m tokens) moved ∙ goes);
  back = λ strict more same said.
      let tail = dark_as h more rest same head in
      subst (Word word (Glued (follows kw) (Rest next)) strict) (sym tail.1)
      (kw_back nesting next kw word h strict tail.0 k moved (subst (Rest nesting strict) tail.1 said));
}

pub white_follows : (token : Token) (text : List ℕ) → follows token (32 ∷ text) ≡ true
white_follows Open text = refl
white_follows Close text = refl
white_follows Not text = refl
white_follows And text = refl
white_follows Or text = refl
white_follows Every text = refl
white_follows (Test field test) text = refl

operator_as : (more rest : List ℕ) → first more ≡ first rest → after_operator more ≡ after_operator rest
operator_as [] [] same = refl
operator_as [] (y ∷ rest) same = cc
operator_as (x ∷ more) [] same = cc
operator_as (x ∷ more) (y ∷ rest) same = let byte : x ≡ y = cc in rw byte refl

value_as : (more rest : List ℕ) → first more ≡ first rest → after_value more ≡ after_value rest
value_as [] [] same = refl
value_as [] (y ∷ rest) same = cc
value_as (x ∷ more) [] same = cc
value_as (x ∷ more) (y ∷ rest) same = let byte : x ≡ y = cc in rw byte refl

pub follows_as : (token : Token) (more rest : List ℕ) → first more ≡ first rest
    → follows token more ≡ follows token rest
follows_as Open more rest same = refl
follows_as Close more rest same = refl
follows_as Not more rest same = operator_as more rest same
follows_as And more rest same = operator_as more rest same
follows_as Or more rest same = operator_as more rest same
follows_as Every more rest same = value_as more rest same
follows_as (Test field test) more rest same = value_as more rest same

after_close : (opened : List Opened) → after_value (close_text opened) ≡ true
unfolding close_text
after_close [] = refl
after_close (Group ∷ opened) = refl
after_close (Negation ∷ opened) = after_close opened

-- what ends a query, after white bytes
ending : Due → List Opened → List ℕ
ending Term opened = 42 ∷ 58 ∷ 42 ∷ close_text opened
ending Operator opened = close_text opened

ending_goes : (due : Due) (opened : List Opened) (strict : Bool) → is_settled_by due opened
    → Rest (record { due = due; opened = opened }) strict (32 ∷ ending due opened)
unfolding ending
ending_goes Term opened strict settled = (
  Every ∷ close_tokens opened,
  white_spelt strict (42 ∷ 58 ∷ 42 ∷ close_text opened) (Every ∷ close_tokens opened)
      ([], 42 ∷ 58 ∷ 42 ∷ [], close_text opened, refl, refl, refl, after_close opened, close_spelt strict opened),
  close_runs opened,
)
ending_goes Operator opened strict settled = (
  close_tokens opened,
  white_spelt strict (close_text opened) (close_tokens opened) (close_spelt strict opened),
  ap (λ o. runs (Some (record { due = Operator; opened = o })) (close_tokens opened)) (sym settled) ∙ close_runs opened,
)

-- some query goes on after white bytes
pub ends_somehow : (nesting : Nesting) (strict : Bool) → IsSettled nesting → (more : List ℕ)
    × Rest nesting strict (32 ∷ more)
ends_somehow nesting strict settled =
    (ending nesting.due nesting.opened, ending_goes nesting.due nesting.opened strict settled)

pub glued_live : (token : Token) (nesting : Nesting) → IsSettled nesting → Live (Glued (follows token) (Rest nesting))
glued_live token nesting settled =
    let end = ends_somehow nesting true settled in (32 ∷ end.0, (white_follows token end.0, end.1))

-- what may not follow a token
pub misplaced : (token : Token) (nesting : Nesting) → IsSettled nesting → (rest : List ℕ) → follows token rest ≡ false
    → BreaksOff (Glued (follows token) (Rest nesting)) rest 0
misplaced token nesting settled rest wrong = record {
  within = omega arith;
  begins = glued_live token nesting settled;
  ends = λ inside more said. true≢false
      (sym said.0 ∙ (follows_as token (take (0 + 1) rest ++ more) rest (first_taken rest more 0 inside) ∙ wrong));
  short = λ whole said. true≢false (sym said.0 ∙ wrong);
}

-- no token may stand at the head
pub stuck : (nesting : Nesting) → IsSettled nesting → (rest : List ℕ) (x : ℕ) → first rest ≡ Some x
    → not (is_white x) ≡ true
    → ((token : Token) → class_byte x ≡ class_of token → moves nesting token ≡ None) → BreaksOff (Rest nesting) rest 0
stuck nesting settled rest x head dark never = record {
  within = omega arith;
  begins = let end = ends_somehow nesting true settled in (32 ∷ end.0, end.1);
  ends = λ inside more said. none (take (0 + 1) rest ++ more) (first_taken rest more 0 inside) said;
  short = λ whole said. none rest refl said;
}
  where
    none : (text : List ℕ) → first text ≡ first rest → Rest nesting false text → ⊥
    none text same said =
        let tail = dark_as x text rest same head in
        let t = token_first nesting false x tail.0 dark (subst (Rest nesting false) tail.1 said) in
        let class = token_class false t.spelling t.rest t.token x t.is (ap first (sym t.are)) in
        no_runs t.tokens (ap (λ m. runs m t.tokens) (sym (never t.token class)) ∙ t.goes)

pub open_word : Keyword Open (40 ∷ []) 40
unfolding class_byte decode
open_word = record {
  head = λ rest. refl;
  some = λ e. omega arith;
  dark = refl;
  plain = refl;
  code = refl;
  writes =
      λ strict. refl;
  written = λ strict spelling is. is;
}

pub close_word : Keyword Close (41 ∷ []) 41
unfolding class_byte decode
close_word = record {
  head = λ rest. refl;
  some = λ e. omega arith;
  dark = refl;
  plain = refl;
  code = refl;
  writes =
      λ strict. refl;
  written = λ strict spelling is. is;
}

pub not_word : Keyword Not (78 ∷ 79 ∷ 84 ∷ []) 78
unfolding class_byte decode
not_word = record {
  head = λ rest. refl;
  some = λ e. omega arith;
  dark = refl;
  plain = refl;
  code = refl;
  writes =
      λ strict. refl;
  written = λ strict spelling is. is;
}

pub and_word : Keyword And (65 ∷ 78 ∷ 68 ∷ []) 65
unfolding class_byte decode
and_word = record {
  head = λ rest. refl;
  some = λ e. omega arith;
  dark = refl;
  plain = refl;
  code = refl;
  writes =
      λ strict. refl;
  written = λ strict spelling is. is;
}

pub or_word : Keyword Or (79 ∷ 82 ∷ []) 79
unfolding class_byte decode
or_word = record {
  head = λ rest. refl;
  some = λ e. omega arith;
  dark = refl;
  plain = refl;
  code = refl;
  writes =
      λ strict. refl;
  written = λ strict spelling is. is;
}

pub every_word : Keyword Every (42 ∷ 58 ∷ 42 ∷ []) 42
unfolding class_byte decode
every_word = record {
  head = λ rest. refl;
  some = λ e. omega arith;
  dark = refl;
  plain = refl;
  code = refl;
  writes =
      λ strict. refl;
  written = λ strict spelling is. is;
}

-- the keyword was read
pub kw_read : (nesting next : Nesting) (kw : Token) (word : List ℕ) (h : ℕ) (rest : List ℕ) → Keyword kw word h
    → moves nesting kw ≡ Some next
    → first rest ≡ Some h → IsKeyword rest word kw
    → Leads (Rest nesting) (Glued (follows kw) (Rest next)) (take (length word) rest) (drop (length word) rest)
kw_read nesting next kw word h rest k moved head is =
    let N = Glued (follows kw) (Rest next) in
    let after = drop (length word) rest in
    let whole : rest ≡ word ++ after = sym (take-append-drop (length word) rest) ∙ ap (λ t. t ++ after) is.is in
    subst (λ t. Leads (Rest nesting) N t after) (sym is.is)
    (lead_on (Rest nesting) (Word word N) N [] word after
    (subst (Leads (Rest nesting) (Word word N) []) whole (kw_leads nesting next kw word h rest k moved head))
    (word_leads word after N))

-- the keyword wasn't
pub kw_fails : (nesting next : Nesting) (kw : Token) (word : List ℕ) (h : ℕ) (rest : List ℕ) (place : ℕ)
    → Keyword kw word h → moves nesting kw ≡ Some next
    → IsSettled next → first rest ≡ Some h → BreaksKeyword rest word kw place → BreaksOff (Rest nesting) rest place
kw_fails nesting next kw word h rest place k moved settled head (inl (short, shared)) =
    let N = Glued (follows kw) (Rest next) in
    breaks_as (Rest nesting) (Word word N) rest place (kw_leads nesting next kw word h rest k moved head)
    (word_breaks word rest place N (glued_live kw next settled) short shared.text shared.same
    (λ inside. shared.other inside short))
kw_fails nesting next kw word h rest place k moved settled head (inr (far, fits, is, wrong)) =
    let N = Glued (follows kw) (Rest next) in
    let after = drop place rest in
    let whole : rest ≡ word ++ after = sym (take-append-drop place rest) ∙ ap (λ t. t ++ after) is in
    let leads = lead_on (Rest nesting) (Word word N) N [] word after
    (subst (Leads (Rest nesting) (Word word N) []) whole (kw_leads nesting next kw word h rest k moved head))
    (word_leads word after N) in
    let there : length word + 0 ≡ place = omega arith in
    subst (λ t. BreaksOff (Rest nesting) t place) (sym whole)
    (subst (BreaksOff (Rest nesting) (word ++ after)) there
    (breaks_on (Rest nesting) N word after 0 leads (misplaced kw next settled after wrong)))
