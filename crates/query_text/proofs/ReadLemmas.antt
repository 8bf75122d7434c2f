-- A query that is read token by token.
use Rattle.std.proofs.Common.{◌≡◌, ℕ, zero, suc, ◌+◌, ◌<◌, ◌≤◌, ◌⊎◌, inl, inr, Bool, true, false, List, [], ◌∷◌, ◌++◌, length, take, drop, Option, Some, None, refl, sym, ap, ◌∙◌, subst, arith, append_assoc, append-nil, IsUtf8, length-drop, length-append, true≢false}
use Rattle.std.specs.Prelude.{not, ◌&&◌}
use Rattle.std.proofs.lemmas.Bool.{cases_lt}
use Rattle.std.proofs.lemmas.List.{take-append-drop, take_all, drop_all, drop-drop}
use Rattle.std.proofs.Math.Seq.{take-add}
use Rattle.dobj_field.specs.Field.{is_white, IsField}
use Rattle.dobj_field.specs.declared.field.Field.{Field}
use Rattle.dobj_field.specs.declared.field.Field.TheVariants.{Id, OfType, Pointer}
use Rattle.query_text.specs.declared.nesting.Nesting.{Nesting}
use Rattle.query_text.specs.declared.query.Token.{Token}
use Rattle.query_text.specs.declared.query.Token.TheVariants.{Open, Close, Not, And, Or, Every, Test}
use Rattle.query_text.specs.Parts.{all_white}
use Rattle.query_text.specs.Spelling.{Spelt, IsToken, follows, IsQueryText, AQuery}
use Rattle.query_text.specs.Faults.{IsFault}
use Rattle.query_text.specs.Stages.{first, Leads}
use Rattle.query_text.specs.Reading.{start, moves, runs, is_done, Rest, Glued, IsSettled, is_sharp, IsWhiteRead, IsTokenRead, BreaksThere}
use Rattle.query_text.proofs.Languages.{lead_none, stage_on, stage_fault, breaks_as, past_as}
use Rattle.query_text.proofs.CutLemmas.{both}
use Rattle.query_text.proofs.NameLemmas.{longer}
use Rattle.query_text.proofs.StateLemmas.{white_spelt}
use Rattle.query_text.proofs.TokenLemmas.{follows_as, white_follows, ends_somehow}
use Rattle.query_text.proofs.TestLemmas.{white_utf8}
use Rattle.query_text.proofs.TreeLemmas.{query_runs, runs_query}

-- what may come after the last token, where no white byte has come
abbrev pub touches : Option Token → List ℕ → Bool
touches None rest = true
touches (Some token) rest = follows token rest

touch_as : (glue : Option Token) (more rest : List ℕ) → first more ≡ first rest → touches glue rest ≡ true
    → touches glue more ≡ true
touch_as None more rest same said = refl
touch_as (Some token) more rest same said = follows_as token more rest same ∙ said

white_touch : (glue : Option Token) (text : List ℕ) → touches glue (32 ∷ text) ≡ true
white_touch None text = refl
white_touch (Some token) text = white_follows token text

-- no token begins with a white byte
field_dark : (name rest : List ℕ) (field : Field) → IsField name field → is_sharp (name ++ rest) ≡ true
field_dark name rest Id is = ap (λ n. is_sharp (n ++ rest)) is
field_dark name rest OfType is = ap (λ n. is_sharp (n ++ rest)) is
field_dark name rest (Pointer tokens) is = ap (λ n. is_sharp (n ++ rest)) is.1

token_dark : (strict : Bool) (spelling rest : List ℕ) (token : Token) → IsToken strict spelling token
    → is_sharp (spelling ++ rest) ≡ true
token_dark strict spelling rest Open is = ap (λ s. is_sharp (s ++ rest)) is
token_dark strict spelling rest Close is = ap (λ s. is_sharp (s ++ rest)) is
token_dark strict spelling rest Not is = ap (λ s. is_sharp (s ++ rest)) is
token_dark strict spelling rest And is = ap (λ s. is_sharp (s ++ rest)) is
token_dark strict spelling rest Or is = ap (λ s. is_sharp (s ++ rest)) is
token_dark strict spelling rest Every is = ap (λ s. is_sharp (s ++ rest)) is
token_dark strict spelling rest (Test field on) is =
    ap (λ s. is_sharp (s ++ rest)) is.3
    ∙ (ap is_sharp (append_assoc is.0 (58 ∷ (is.1 ++ is.2)) rest)
    ∙ field_dark is.0 (58 ∷ (is.1 ++ is.2) ++ rest) field is.4)

-- no token has no bytes
no_token : (strict : Bool) (token : Token) → IsToken strict [] token → ⊥
no_token strict Open is = cc
no_token strict Close is = cc
no_token strict Not is = cc
no_token strict And is = cc
no_token strict Or is = cc
no_token strict Every is = cc
no_token strict (Test field on) is = no_colon is.0 (is.1 ++ is.2) is.3
  where
    no_colon : (name more : List ℕ) → [] ≡ name ++ 58 ∷ more → ⊥
    no_colon [] more same = cc
    no_colon (x ∷ name) more same = cc

white_both : (a b : List ℕ) → all_white a ≡ true → all_white b ≡ true → all_white (a ++ b) ≡ true
white_both [] b one two = two
white_both (x ∷ a) b one two =
    let parts = both (is_white x) (all_white a) one in ap (λ w. w && all_white (a ++ b)) parts.0
    ∙ white_both a b parts.1 two

white_rest : (a b : List ℕ) → all_white (a ++ b) ≡ true → all_white b ≡ true
white_rest [] b said = said
white_rest (x ∷ a) b said = white_rest a b (both (is_white x) (all_white (a ++ b)) said).1

spelt_more : (strict : Bool) (white more : List ℕ) (tokens : List Token) → all_white white ≡ true
    → Spelt strict more tokens → Spelt strict (white ++ more) tokens
spelt_more strict white more [] is said = white_both white more is said
spelt_more strict white more (token ∷ tokens) is (other, spelling, rest, are, also, token_is, follows_it, spelt) = (
  white ++ other,
  spelling,
  rest,
  ap (λ m. white ++ m) are
      ∙ sym (append_assoc white other (spelling ++ rest)),
  white_both white other is also,
  token_is,
  follows_it,
  spelt,
)

dark_white : (more rest spelling : List ℕ) → 0 < length more → all_white more ≡ true → spelling ≡ more ++ rest
    → is_sharp spelling ≡ true → ⊥
dark_white [] rest spelling some white same dark = omega arith
dark_white (x ∷ more) rest spelling some white same dark =
    let bright : is_white x ≡ true = (both (is_white x) (all_white more) white).0 in
    let bad : false ≡ true = sym (ap not bright) ∙ (ap is_sharp (sym same) ∙ dark) in cc

white_part : (a b : List ℕ) → all_white (a ++ b) ≡ true → all_white b ≡ true
white_part a b said = white_rest a b said

spelt_less : (strict : Bool) (white more : List ℕ) (tokens : List Token) → all_white white ≡ true
    → Spelt strict (white ++ more) tokens → Spelt strict more tokens
spelt_less strict white more [] is said = white_rest white more said
spelt_less strict white more (token ∷ tokens) is (other, spelling, rest, are, also, token_is, follows_it, spelt) =
    by_length (cases_lt (length other) (length white))
  where
    by_length : (length other < length white) ⊎ (length white ≤ length other) → Spelt strict more (token ∷ tokens)
    by_length (inl short) =
        let parts = longer other (spelling ++ rest) white more (sym are) (omega arith) in
        let some : 0 < length parts.0 = omega (arith, ap (length {A = ℕ}) parts.1, length-append other parts.0) in
        absurd (dark_white parts.0 more (spelling ++ rest) some
        (white_rest other parts.0 (ap all_white (sym parts.1) ∙ is)) parts.2
        (token_dark strict spelling rest token token_is))
    by_length (inr long) =
        let parts = longer white more other (spelling ++ rest) are long in (
          parts.0,
          spelling,
          rest,
          parts.2,
          white_rest white parts.0
              (ap all_white (sym parts.1) ∙ also),
          token_is,
          follows_it,
          spelt,
        )

-- white bytes after the last token
record WhiteStep (glue : Option Token) (nesting : Nesting) (white rest : List ℕ) : Type 0 where
  next : Option Token
  touch : touches next rest ≡ true
  leads : Leads (Glued (touches glue) (Rest nesting)) (Glued (touches next) (Rest nesting)) white rest
  spelt : (more : List ℕ) (others : List Token) → touches next more ≡ true → Spelt true more others
      → (touches glue (white ++ more) ≡ true) × Spelt true (white ++ more) others

white_step : (glue : Option Token) (nesting : Nesting) (white rest : List ℕ) → all_white white ≡ true
    → touches glue (white ++ rest) ≡ true → WhiteStep glue nesting white rest
white_step glue nesting [] rest is touch = record {
  next = glue;
  touch = touch;
  leads = lead_none (Glued (touches glue) (Rest nesting)) rest;
  spelt = λ more others touch_more said. (touch_more, said);
}
white_step glue nesting (x ∷ white) rest is touch = record {
  next = None;
  touch = refl;
  leads = record {
    forth = λ strict more said. (
      touch_as glue (x ∷ (white ++ more)) (x ∷ (white ++ rest)) refl touch,
      (said.1.0, spelt_more strict (x ∷ white) more said.1.0 is said.1.1, said.1.2),
    );
    back = λ strict more same said.
        (refl, (said.1.0, spelt_less strict (x ∷ white) more said.1.0 is said.1.1, said.1.2));
  };
  spelt = λ more others touch_more said. (
    touch_as glue (x ∷ (white ++ more)) (x ∷ (white ++ rest)) refl touch,
    spelt_more true
        (x ∷ white) more others is said,
  );
}

-- a text is read up to this place
pub record ReadTo (text : List ℕ) (at : ℕ) (nesting : Nesting) (tokens : List Token) : Type 0 where
  pub fits : at ≤ length text
  pub utf8 : IsUtf8 (drop at text)
  pub sharp : is_sharp (drop at text) ≡ true
  pub settled : IsSettled nesting
  pub glue : Option Token
  pub touch : touches glue (drop at text) ≡ true
  pub leads : Leads (Rest start) (Glued (touches glue) (Rest nesting)) (take at text) (drop at text)
  pub spelt : (more : List ℕ) (others : List Token) → touches glue more ≡ true → Spelt true more others
      → Spelt true (take at text ++ more) (tokens ++ others)
  pub goes : (others : List Token) → runs (Some start) (tokens ++ others) ≡ runs (Some nesting) others

-- a text whose tokens are read, before the white bytes after them
record TokensRead (text : List ℕ) (at : ℕ) (glue : Option Token) (nesting : Nesting)
    (tokens : List Token) : Type 0 where
  fits : at ≤ length text
  utf8 : IsUtf8 (drop at text)
  settled : IsSettled nesting
  touch : touches glue (drop at text) ≡ true
  leads : Leads (Rest start) (Glued (touches glue) (Rest nesting)) (take at text) (drop at text)
  spelt : (more : List ℕ) (others : List Token) → touches glue more ≡ true → Spelt true more others
      → Spelt true (take at text ++ more) (tokens ++ others)
  goes : (others : List Token) → runs (Some start) (tokens ++ others) ≡ runs (Some nesting) others

past_white_bytes : (text : List ℕ) (at end : ℕ) (glue : Option Token) (nesting : Nesting) (tokens : List Token)
    → TokensRead text at glue nesting tokens
    → IsWhiteRead text at end → ReadTo text end nesting tokens
past_white_bytes text at end glue nesting tokens r w =
    let white = take w.len (drop at text) in
    let after = drop w.len (drop at text) in
    let there : after ≡ drop end text = drop-drop w.len at text ∙ ap (λ k. drop k text) (sym w.end_is) in
    let bytes : take end text ≡ take at text ++ white = ap (λ k. take k text) w.end_is ∙ take-add at w.len text in
    let step = white_step glue nesting white after w.white
    (ap (touches glue) (take-append-drop w.len (drop at text)) ∙ r.touch) in
    record {
      fits = w.fits;
      utf8 = white_utf8 text at end w r.utf8;
      sharp = ap is_sharp (sym there) ∙ w.sharp;
      settled = r.settled;
      glue = step.next;
      touch = ap (touches step.next) (sym there) ∙ step.touch;
      leads = subst (λ e. Leads (Rest start) (Glued (touches step.next) (Rest nesting)) (take e text) (drop e text))
          (sym w.end_is)
          (stage_on (Rest start) (Glued (touches glue) (Rest nesting))
          (Glued (touches step.next) (Rest nesting)) text at w.len r.leads step.leads);
      spelt = λ more others touch said.
          let one = step.spelt more others touch said in
          subst (λ t. Spelt true t (tokens ++ others))
          (sym (ap (λ t. t ++ more) bytes ∙ append_assoc (take at text) white more))
          (r.spelt (white ++ more) others one.0 one.1);
      goes = r.goes;
    }

-- before the first token
pub read_start : (text : List ℕ) (at : ℕ) → IsUtf8 text → IsWhiteRead text 0 at → ReadTo text at start []
read_start text at utf8 w = past_white_bytes text 0 at None start [] (record {
  fits = omega arith;
  utf8 = utf8;
  settled = tt;
  touch = refl;
  leads = record { forth = λ strict more said. said.1; back = λ strict more same said. (refl, said) };
  spelt = λ more others touch said. said;
  goes = λ others. refl;
}) w

taken_first : (rest more : List ℕ) (k : ℕ) → 0 < k → 0 < length rest → first (take k rest ++ more) ≡ first rest
taken_first [] more k some there = absurd (omega arith)
taken_first (x ∷ rest) more zero some there = absurd (omega arith)
taken_first (x ∷ rest) more (suc k) some there = refl

token_leads : (glue : Option Token) (nesting : Nesting) (rest : List ℕ) (token : Token) (len : ℕ)
    (t : IsTokenRead nesting rest token len) → touches glue rest ≡ true
    → Leads (Glued (touches glue) (Rest nesting)) (Glued (touches (Some token)) (Rest t.next)) (take len rest)
    (drop len rest)
token_leads glue nesting rest token len t touch = record {
  forth = λ strict more said. (
    touch_as glue (take len rest ++ more) rest
        (taken_first rest more len t.some (omega (arith, t.some, t.fits))) touch,
    t.leads.forth strict more said,
  );
  back = λ strict more same said. t.leads.back strict more same said.1;
}

-- one more token
pub read_token : (text : List ℕ) (at : ℕ) (nesting next : Nesting) (tokens : List Token) (token : Token) (len end : ℕ)
    → ReadTo text at nesting tokens
    → IsTokenRead nesting (drop at text) token len → moves nesting token ≡ Some next → IsWhiteRead text (at + len) end
    → ReadTo text end next (tokens ++ token ∷ [])
read_token text at nesting next tokens token len end r t moved w =
    let rest = drop at text in
    let there = drop-drop len at text in
    let same_next : t.next ≡ next = some_same t.next next (sym t.moves_is ∙ moved) in
    past_white_bytes text (at + len) end (Some token) next (tokens ++ token ∷ []) (record {
      fits = omega (arith, t.fits, length-drop at text, r.fits);
      utf8 = subst IsUtf8 there t.utf8;
      settled = subst IsSettled same_next t.settled;
      touch = ap (follows token) (sym there) ∙ t.follows_it;
      leads = subst (λ n. Leads (Rest start) (Glued (touches (Some token)) (Rest n)) (take (at + len) text)
          (drop (at + len) text)) same_next
          (stage_on (Rest start) (Glued (touches r.glue) (Rest nesting))
          (Glued (touches (Some token)) (Rest t.next)) text at len r.leads
          (token_leads r.glue nesting rest token len t r.touch));
      spelt = λ more others touch said.
          subst (Spelt true (take (at + len) text ++ more)) (sym (append_assoc tokens (token ∷ []) others))
          (subst (λ s. Spelt true s (tokens ++ token ∷ others))
          (sym (ap (λ b. b ++ more) (take-add at len text) ∙ append_assoc (take at text) (take len rest) more))
          (r.spelt (take len rest ++ more) (token ∷ others)
          (touch_as r.glue (take len rest ++ more) rest
          (taken_first rest more len t.some (omega (arith, t.some, t.fits))) r.touch)
          ([], take len rest, more, refl, refl, t.is, touch, said)));
      goes = λ others. ap (runs (Some start)) (append_assoc tokens (token ∷ []) others)
          ∙ (r.goes (token ∷ others) ∙ ap (λ m. runs m others) moved);
    }) w
  where
    some_same : (a b : Nesting) → Some a ≡ Some b → a ≡ b
    some_same a b same = cc

-- the text is a query, whose rest is the rest of one
query_leads : (text : List ℕ) → Leads AQuery (Rest start) [] text
query_leads text = record {
  forth = λ strict more (tokens, spelt, goes). (tokens, (spelt, runs_query tokens goes));
  back = λ strict more same said. (said.0, said.1.0, query_runs said.0 said.1.1.0 said.1.1.1);
}

fault_there : (text : List ℕ) (place : ℕ) → IsFault (Rest start) text place → IsFault AQuery text place
fault_there text place (inl b) = inl (breaks_as AQuery (Rest start) text place (query_leads text) b)
fault_there text place (inr p) = inr (past_as AQuery (Rest start) text place (query_leads text) p)

glued_begins : (glue : Option Token) (nesting : Nesting) (rest : List ℕ) (k : ℕ) → 0 < length rest
    → touches glue rest ≡ true
    → ((more : List ℕ) × Rest nesting true (take k rest ++ more)) → (more : List ℕ)
    × Glued (touches glue) (Rest nesting) true (take k rest ++ more)
glued_begins glue nesting rest zero some touch (more, said) =
    (32 ∷ more, (white_touch glue more, (said.0, white_spelt true more said.0 said.1, said.2)))
glued_begins glue nesting rest (suc k) some touch (more, said) = (
  more,
  (
    touch_as glue (take (suc k) rest ++ more) rest
        (taken_first rest more (suc k) (omega arith) some) touch,
    said,
  ),
)

glued_fault : (glue : Option Token) (nesting : Nesting) (rest : List ℕ) (place : ℕ) → 0 < length rest
    → touches glue rest ≡ true → BreaksThere (Rest nesting) rest place
    → IsFault (Glued (touches glue) (Rest nesting)) rest place
glued_fault glue nesting rest place some touch (inl b) = inl (record {
  within = b.within;
  begins = glued_begins glue nesting rest place some touch b.begins;
  ends = λ inside more said. b.ends inside more said.1;
  short = λ whole said. b.short whole said.1;
})
glued_fault glue nesting rest place some touch (inr (far, p)) =
    let begins = p.begins in
    let reads = p.reads in
    inr (record {
      numeral = p.numeral;
      number = p.number;
      rest = p.rest;
      here = p.here;
      is = p.is;
      past = p.past;
      begins = (
        begins.0,
        (
          touch_as glue (take place rest ++ 45 ∷ begins.0) rest
              (taken_first rest (45 ∷ begins.0) place far some) touch,
          begins.1,
        ),
      );
      reads = (
        reads.0,
        (
          touch_as glue (take place rest ++ (p.numeral ++ reads.0)) rest
              (taken_first rest (p.numeral ++ reads.0) place far some) touch,
          reads.1,
        ),
      );
      never = λ more said. p.never more said.1;
    })

-- a fault at the next token
pub read_fault : (text : List ℕ) (at place : ℕ) (nesting : Nesting) (tokens : List Token)
    → ReadTo text at nesting tokens → at < length text
    → BreaksThere (Rest nesting) (drop at text) place → IsFault AQuery text (at + place)
read_fault text at place nesting tokens r inside b =
    fault_there text (at + place) (stage_fault (Rest start)
    (Glued (touches r.glue) (Rest nesting)) text at place r.fits r.leads
    (glued_fault r.glue nesting (drop at text) place (omega (arith, length-drop at text)) r.touch b))

nothing_spelt : (nesting : Nesting) (strict : Bool) → is_done nesting ≡ false → Rest nesting strict [] → ⊥
nothing_spelt nesting strict open_still ([], spelt, goes) = true≢false (sym goes ∙ open_still)
nothing_spelt nesting strict open_still
    (token ∷ tokens, (white, spelling, rest, are, is, token_is, follows_it, spelt), goes) =
    no_token strict token (subst (λ s. IsToken strict s token) (none white spelling rest are) token_is)
  where
    none : (a b c : List ℕ) → [] ≡ a ++ (b ++ c) → b ≡ []
    none [] [] c same = refl
    none [] (x ∷ b) c same = cc
    none (x ∷ a) b c same = cc

-- the text ends too early
pub read_short : (text : List ℕ) (at : ℕ) (nesting : Nesting) (tokens : List Token) → ReadTo text at nesting tokens
    → length text ≤ at → is_done nesting ≡ false
    → IsFault AQuery text at
read_short text at nesting tokens r over open_still =
    let none : drop at text ≡ [] = drop_all at text over in
    let there : at + 0 ≡ at = omega arith in
    let end = ends_somehow nesting true r.settled in
    fault_there text at (subst (IsFault (Rest start) text) there
    (stage_fault (Rest start) (Glued (touches r.glue) (Rest nesting)) text at 0 r.fits r.leads
    (subst (λ d. IsFault (Glued (touches r.glue) (Rest nesting)) d 0) (sym none)
    (inl (record {
      within = omega arith;
      begins = (32 ∷ end.0, (white_touch r.glue end.0, end.1));
      ends = λ inside. absurd (omega arith);
      short = λ whole said. nothing_spelt nesting false open_still said.1;
    })))))

-- the text is a query
pub read_whole : (text : List ℕ) (at : ℕ) (nesting : Nesting) (tokens : List Token) → ReadTo text at nesting tokens
    → length text ≤ at → is_done nesting ≡ true
    → IsQueryText true text tokens
read_whole text at nesting tokens r over done =
    let none : drop at text ≡ [] = drop_all at text over in
    let spelt = r.spelt [] [] (ap (touches r.glue) (sym none) ∙ r.touch) refl in
    let whole : take at text ++ [] ≡ text = append-nil (take at text) ∙ take_all at text over in (
      subst (λ t. Spelt true t tokens) whole (subst (Spelt true (take at text ++ [])) (append-nil tokens) spelt),
      runs_query tokens (ap (runs (Some start)) (sym (append-nil tokens)) ∙ (r.goes [] ∙ done)),
    )
