-- The token at the head, by its first byte.
use Rattle.std.proofs.Common.{◌≡◌, ◌≢◌, ℕ, ◌<◌, inl, inr, Bool, true, false, List, [], ◌∷◌, ◌++◌, length, get_or, take, drop, Some, None, Result, Ok, Err, IfOk, refl, sym, ap, ◌∙◌, subst, arith, IsUtf8}
use Rattle.std.specs.Prelude.{not, ◌==◌, ◌||◌, if◌then◌else◌}
use Rattle.std.proofs.lemmas.List.{take-append-drop}
use Rattle.std.proofs.lemmas.Bool.{le-ltb, lt-ltb}
use Rattle.dobj_field.specs.Field.{is_white}
use Rattle.dobj_field.proofs.Utf8.{cut_at_ascii}
use Rattle.query_text.specs.declared.nesting.Due.{Due}
use Rattle.query_text.specs.declared.nesting.Due.TheVariants.{Term, Operator}
use Rattle.query_text.specs.declared.nesting.Opened.{Opened}
use Rattle.query_text.specs.declared.nesting.Opened.TheVariants.{Group, Negation}
use Rattle.query_text.specs.declared.nesting.Nesting.{Nesting}
use Rattle.query_text.specs.declared.query.Token.{Token}
use Rattle.query_text.specs.declared.query.Token.TheVariants.{Open, Close, Not, And, Or, Every, Test}
use Rattle.query_text.specs.Spelling.{IsToken}
use Rattle.query_text.specs.Stages.{first, Leads}
use Rattle.query_text.specs.Reading.{term_ended, begins_group, deeper, moves, moves_by, Rest, Next, Tested, is_a_test, is_settled_by, IsSettled, is_sharp, IsKeyword, BreaksKeyword, BreaksThere, IsTokenRead, IsTestRead, BreaksTest}
use Rattle.query_text.proofs.Languages.{lead_on, breaks_as, past_as}
use Rattle.query_text.proofs.TokenLemmas.{Keyword, kw_read, kw_fails, stuck, only, class_of, class_byte, open_word, close_word, not_word}
use Rattle.query_text.proofs.TestLemmas.{tested_leads, value_utf8}

pub term_twice : (opened : List Opened) → term_ended (term_ended opened) ≡ term_ended opened
term_twice [] = refl
term_twice (Negation ∷ opened) = term_twice opened
term_twice (Group ∷ opened) = refl

abbrev pub Small : List ℕ → Type 0
Small [] = Unit {0}
Small (x ∷ word) = (x < 128) × Small word

utf8_after : (word rest : List ℕ) → Small word → IsUtf8 (word ++ rest) → IsUtf8 rest
utf8_after [] rest small text = text
utf8_after (x ∷ word) rest small text = utf8_after word rest small.1 (cut_at_ascii [] (word ++ rest) x small.0 text).1

-- the first byte
pub head_is : (rest : List ℕ) → 0 < length rest → first rest ≡ Some (get_or rest 0 0)
head_is [] some = absurd (omega arith)
head_is (x ∷ rest) some = refl

pub dark_head : (rest : List ℕ) → 0 < length rest → is_sharp rest ≡ true → not (is_white (get_or rest 0 0)) ≡ true
dark_head [] some sharp = absurd (omega arith)
dark_head (x ∷ rest) some sharp = sharp

-- a keyword that was read
pub kw_token : (nesting next : Nesting) (kw : Token) (word : List ℕ) (h : ℕ) (rest : List ℕ) (token : Token) (len : ℕ)
    → Keyword kw word h → Small word → 0 < length word
    → moves nesting kw ≡ Some next → IsSettled next → first rest ≡ Some h → IsUtf8 rest → token ≡ kw
    → len ≡ length word → IsKeyword rest word kw
    → IsTokenRead nesting rest token len
kw_token nesting next kw word h rest token len k small some moved settled head text same far is =
    let after = drop (length word) rest in
    let whole : rest ≡ word ++ after = sym (take-append-drop (length word) rest) ∙ ap (λ t. t ++ after) is.is in
    subst (λ n. IsTokenRead nesting rest token n) (sym far)
    (subst (λ t. IsTokenRead nesting rest t (length word)) (sym same) (record {
      some = some;
      fits = is.fits;
      is = subst (λ b. IsToken true b kw) (sym is.is) (k.writes true);
      follows_it = is.follows_it;
      next = next;
      moves_is = moved;
      settled = settled;
      leads = kw_read nesting next kw word h rest k moved head is;
      utf8 = utf8_after word after small (subst IsUtf8 whole text);
    }))

opens_by : (one : Opened) (opened : List Opened) → length opened < 64
    → deeper one opened ≡ Some (record { due = Term; opened = one ∷ opened })
opens_by one opened room = ap (λ b. if b then Some (record { due = Term; opened = one ∷ opened }) else None)
    (lt-ltb (length opened) 64 room)

full_by : (one : Opened) (opened : List Opened) → (length opened < 64 → ⊥) → deeper one opened ≡ None
full_by one opened full = ap (λ b. if b then Some (record { due = Term; opened = one ∷ opened }) else None)
    (le-ltb (length opened) 64 (omega (arith, full)))

pub opens_group : (nesting : Nesting) → nesting.due ≡ Term → length nesting.opened < 64
    → moves nesting Open ≡ Some (record { due = Term; opened = Group ∷ nesting.opened })
opens_group nesting due room = ap (λ d. moves_by d nesting.opened Open) due ∙ opens_by Group nesting.opened room

pub opens_not : (nesting : Nesting) → nesting.due ≡ Term → length nesting.opened < 64
    → moves nesting Not ≡ Some (record { due = Term; opened = Negation ∷ nesting.opened })
opens_not nesting due room = ap (λ d. moves_by d nesting.opened Not) due ∙ opens_by Negation nesting.opened room

pub reads_every : (nesting : Nesting) → nesting.due ≡ Term
    → moves nesting Every ≡ Some (record { due = Operator; opened = term_ended nesting.opened })
reads_every nesting due = ap (λ d. moves_by d nesting.opened Every) due

pub reads_and : (nesting : Nesting) → nesting.due ≡ Operator
    → moves nesting And ≡ Some (record { due = Term; opened = nesting.opened })
reads_and nesting due = ap (λ d. moves_by d nesting.opened And) due

pub reads_or : (nesting : Nesting) → nesting.due ≡ Operator
    → moves nesting Or ≡ Some (record { due = Term; opened = nesting.opened })
reads_or nesting due = ap (λ d. moves_by d nesting.opened Or) due

closes_by : (opened : List Opened) → begins_group opened ≡ true
    → moves_by Operator opened Close ≡ Some (record { due = Operator; opened = term_ended (drop 1 opened) })
closes_by [] is = cc
closes_by (Group ∷ opened) is = refl
closes_by (Negation ∷ opened) is = cc

pub reads_close : (nesting : Nesting) → nesting.due ≡ Operator → begins_group nesting.opened ≡ true
    → moves nesting Close ≡ Some (record { due = Operator; opened = term_ended (drop 1 nesting.opened) })
reads_close nesting due is = ap (λ d. moves_by d nesting.opened Close) due ∙ closes_by nesting.opened is

closes_none : (opened : List Opened) → begins_group opened ≡ false → moves_by Operator opened Close ≡ None
closes_none [] is = refl
closes_none (Group ∷ opened) is = cc
closes_none (Negation ∷ opened) is = refl

settled_term : (due : Due) (opened : List Opened) → due ≡ Term → is_settled_by due opened
settled_term Term opened is = tt
settled_term Operator opened is = cc

-- a keyword for which there is no room
full : (nesting : Nesting) (kw : Token) (word : List ℕ) (h : ℕ) (rest : List ℕ) → Keyword kw word h
    → IsSettled nesting → first rest ≡ Some h → moves nesting kw ≡ None
    → BreaksThere (Rest nesting) rest 0
full nesting kw word h rest k settled head none =
    inl (stuck nesting settled rest h head k.dark
    (λ token class. ap (moves nesting) (only token kw h (sym class ∙ k.plain) k.some k.code) ∙ none))

pub full_group : (nesting : Nesting) (rest : List ℕ) → nesting.due ≡ Term → first rest ≡ Some 40
    → (length nesting.opened < 64 → ⊥) → BreaksThere (Rest nesting) rest 0
full_group nesting rest due head no_room =
    full nesting Open (40 ∷ []) 40 rest open_word (settled_term nesting.due nesting.opened due) head
    (ap (λ d. moves_by d nesting.opened Open) due ∙ full_by Group nesting.opened no_room)

pub full_not : (nesting : Nesting) (rest : List ℕ) → nesting.due ≡ Term → first rest ≡ Some 78
    → (length nesting.opened < 64 → ⊥) → BreaksThere (Rest nesting) rest 0
full_not nesting rest due head no_room =
    full nesting Not (78 ∷ 79 ∷ 84 ∷ []) 78 rest not_word (settled_term nesting.due nesting.opened due) head
    (ap (λ d. moves_by d nesting.opened Not) due ∙ full_by Negation nesting.opened no_room)

pub no_group : (nesting : Nesting) (rest : List ℕ) → nesting.due ≡ Operator → IsSettled nesting → first rest ≡ Some 41
    → begins_group nesting.opened ≡ false → BreaksThere (Rest nesting) rest 0
no_group nesting rest due settled head none =
    full nesting Close (41 ∷ []) 41 rest close_word settled head
    (ap (λ d. moves_by d nesting.opened Close) due ∙ closes_none nesting.opened none)

back_by : (t : Bool) (x h : ℕ) → (if t then 0 else x) ≡ h → h ≢ 0 → x ≡ h
back_by true x h is some = absurd (some (sym is))
back_by false x h is some = is

class_back : (x h : ℕ) → class_byte x ≡ h → h ≢ 0 → x ≡ h
unfolding class_byte
class_back x h is some = back_by ((x == 105) || (x == 116) || (x == 47)) x h is some

-- no operator begins so
pub no_operator : (nesting : Nesting) (rest : List ℕ) (x : ℕ) → nesting.due ≡ Operator → IsSettled nesting
    → first rest ≡ Some x → not (is_white x) ≡ true
    → x ≢ 41 → x ≢ 65 → x ≢ 79 → BreaksThere (Rest nesting) rest 0
unfolding class_of
no_operator nesting rest x due settled head dark no_close no_and no_or =
    inl (stuck nesting settled rest x head dark
    (λ token class. ap (λ d. moves_by d nesting.opened token) due ∙ never token class))
  where
    never : (token : Token) → class_byte x ≡ class_of token → moves_by Operator nesting.opened token ≡ None
    never Open class = refl
    never Close class = absurd (no_close (class_back x 41 class (λ e. omega arith)))
    never Not class = refl
    never And class = absurd (no_and (class_back x 65 class (λ e. omega arith)))
    never Or class = absurd (no_or (class_back x 79 class (λ e. omega arith)))
    never Every class = refl
    never (Test field test) class = refl

-- a keyword that wasn't read
pub kw_breaks : (nesting next : Nesting) (kw : Token) (word : List ℕ) (h : ℕ) (rest : List ℕ) (place : ℕ)
    → Keyword kw word h → moves nesting kw ≡ Some next
    → IsSettled next → first rest ≡ Some h → BreaksKeyword rest word kw place → BreaksThere (Rest nesting) rest place
kw_breaks nesting next kw word h rest place k moved settled head b =
    inl (kw_fails nesting next kw word h rest place k moved settled head b)

to_test : (nesting : Nesting) (rest : List ℕ) (x : ℕ) → nesting.due ≡ Term → first rest ≡ Some x
    → not (is_white x) ≡ true → x ≢ 40 → x ≢ 78 → x ≢ 42
    → Leads (Rest nesting) (Tested nesting.opened) [] rest
to_test nesting rest x due head dark no_open no_not no_every =
    subst (λ d. Leads (Rest (record { due = d; opened = nesting.opened })) (Tested nesting.opened) [] rest) (sym due)
    (tested_leads nesting.opened x rest head dark (λ e. no_open (class_back x 40 e (λ z. omega arith)))
    (λ e. no_not (class_back x 78 e (λ z. omega arith)))
    (λ e. no_every (class_back x 42 e (λ z. omega arith))))

pub test_breaks : (nesting : Nesting) (rest : List ℕ) (x place : ℕ) → nesting.due ≡ Term → first rest ≡ Some x
    → not (is_white x) ≡ true → x ≢ 40 → x ≢ 78 → x ≢ 42
    → BreaksTest rest place → BreaksThere (Rest nesting) rest place
test_breaks nesting rest x place due head dark no_open no_not no_every b = by_fault (b nesting.opened)
  where
    by_fault : BreaksThere (Tested nesting.opened) rest place → BreaksThere (Rest nesting) rest place
    by_fault (inl off) = inl (breaks_as (Rest nesting) (Tested nesting.opened) rest place
        (to_test nesting rest x due head dark no_open no_not no_every) off)
    by_fault (inr past) = inr (
      past.0,
      past_as (Rest nesting) (Tested nesting.opened) rest place
          (to_test nesting rest x due head dark no_open no_not no_every) past.1,
    )

test_by : (nesting : Nesting) (rest : List ℕ) (token : Token) (len : ℕ) → nesting.due ≡ Term
    → Leads (Rest nesting) (Tested nesting.opened) [] rest → IsUtf8 rest → is_a_test token ≡ true
    → IsTestRead rest token len → IsTokenRead nesting rest token len
test_by nesting rest Open len due leads text test is = cc
test_by nesting rest Close len due leads text test is = cc
test_by nesting rest Not len due leads text test is = cc
test_by nesting rest And len due leads text test is = cc
test_by nesting rest Or len due leads text test is = cc
test_by nesting rest Every len due leads text test is = cc
test_by nesting rest (Test field on) len due leads text test is = record {
  some = is.some;
  fits = is.fits;
  is = is.is;
  follows_it = is.follows_it;
  next = record { due = Operator; opened = term_ended nesting.opened };
  moves_is = ap (λ d. moves_by d nesting.opened (Test field on)) due;
  settled = term_twice nesting.opened;
  leads = lead_on (Rest nesting) (Tested nesting.opened) (Next nesting.opened) [] (take len rest) (drop len rest)
      (subst (Leads (Rest nesting) (Tested nesting.opened) []) (sym (take-append-drop len rest)) leads)
      (is.leads nesting.opened);
  utf8 = value_utf8 rest len is.follows_it text;
}

pub test_token : (nesting : Nesting) (rest : List ℕ) (x : ℕ) (token : Token) (len : ℕ) → nesting.due ≡ Term
    → first rest ≡ Some x → not (is_white x) ≡ true → x ≢ 40 → x ≢ 78 → x ≢ 42
    → IsUtf8 rest → IsTestRead rest token len → IsTokenRead nesting rest token len
test_token nesting rest x token len due head dark no_open no_not no_every text is =
    test_by nesting rest token len due (to_test nesting rest x due head dark no_open no_not no_every) text is.is_test is

-- what `keyword` gives
pub kw_ok : {E : Type 0} (nesting next : Nesting) (kw : Token) (word : List ℕ) (h : ℕ) (rest : List ℕ)
    (r : Result (Token × ℕ) E) → Keyword kw word h → Small word → 0 < length word
    → moves nesting kw ≡ Some next → IsSettled next → first rest ≡ Some h → IsUtf8 rest → IfOk r (λ read. read.0 ≡ kw)
    → IfOk r (λ read. read.1 ≡ length word)
    → IfOk r (λ read. IsKeyword rest word kw) → IfOk r (λ read. IsTokenRead nesting rest read.0 read.1)
kw_ok nesting next kw word h rest (Ok read) k small some moved settled head text same far is =
    kw_token nesting next kw word h rest read.0 read.1 k small some moved settled head text same far is
kw_ok nesting next kw word h rest (Err fault) k small some moved settled head text same far is = tt

-- what `test_token` gives
pub test_ok : {E : Type 0} (nesting : Nesting) (rest : List ℕ) (x : ℕ) (r : Result (Token × ℕ) E) → nesting.due ≡ Term
    → first rest ≡ Some x → not (is_white x) ≡ true
    → x ≢ 40 → x ≢ 78 → x ≢ 42 → IsUtf8 rest → IfOk r (λ read. IsTestRead rest read.0 read.1)
    → IfOk r (λ read. IsTokenRead nesting rest read.0 read.1)
test_ok nesting rest x (Ok read) due head dark no_open no_not no_every text is =
    test_token nesting rest x read.0 read.1 due head dark no_open no_not no_every text is
test_ok nesting rest x (Err fault) due head dark no_open no_not no_every text is = tt
