-- Tokens that lead to the end of a query are those of a query, and only these.
use Rattle.std.proofs.Common.{◌≡◌, ℕ, ◌+◌, ◌<◌, ◌≤◌, ◌⊎◌, inl, inr, Bool, true, false, List, [], ◌∷◌, ◌++◌, length, Some, None, refl, sym, ap, ◌∙◌, subst, arith, append_assoc, append-nil}
use Rattle.std.specs.Prelude.{ltb, if◌then◌else◌}
use Rattle.std.proofs.lemmas.Bool.{lt-ltb, ltb-true}
use Rattle.query_text.specs.declared.nesting.Due.{Due}
use Rattle.query_text.specs.declared.nesting.Due.TheVariants as due
use Rattle.query_text.specs.declared.nesting.Due.TheVariants.{Operator}
use Rattle.query_text.specs.declared.nesting.Opened.{Opened}
use Rattle.query_text.specs.declared.nesting.Opened.TheVariants.{Group, Negation}
use Rattle.query_text.specs.declared.nesting.Nesting.{Nesting}
use Rattle.query_text.specs.declared.query.Token.{Token}
use Rattle.query_text.specs.declared.query.Token.TheVariants.{Open, Close, Not, And, Or, Every, Test}
use Rattle.query_text.specs.Query.{Disjunction, Conjunction, Term, alone, either, single, both, negated, group, every, test, tokens_of, conjunction_tokens, term_tokens, depth_of, conjunction_depth, term_depth, IsQuery}
use Rattle.query_text.specs.Reading.{term_ended, deeper, runs, start}
use Rattle.query_text.proofs.TokenReads.{term_twice}

abbrev at_term : List Opened → Nesting
at_term opened = record { due = due.Term; opened = opened }

abbrev at_operator : List Opened → Nesting
at_operator opened = record { due = Operator; opened = opened }

ended_less : (opened : List Opened) → length (term_ended opened) ≤ length opened
ended_less [] = omega arith
ended_less (Negation ∷ opened) = let less = ended_less opened in omega arith
ended_less (Group ∷ opened) = omega arith

goes_deeper : (one : Opened) (opened : List Opened) (more : List Token) → length opened < 64
    → runs (deeper one opened) more ≡ runs (Some (at_term (one ∷ opened))) more
goes_deeper one opened more room =
    ap (λ b. runs (if b then Some (at_term (one ∷ opened)) else None) more) (lt-ltb (length opened) 64 room)

mutual
  whole_runs : (q : Disjunction) (opened : List Opened) (more : List Token) → length opened + depth_of q ≤ 64
      → runs (Some (at_term opened)) (tokens_of q ++ more) ≡ runs (Some (at_operator (term_ended opened))) more
  whole_runs (alone c) opened more deep = conjunction_runs c opened more deep
  whole_runs (either c q) opened more deep =
      let less = ended_less opened in
      ap (runs (Some (at_term opened))) (append_assoc (conjunction_tokens c) (Or ∷ tokens_of q) more)
      ∙ (conjunction_runs c opened (Or ∷ (tokens_of q ++ more)) (omega arith)
      ∙ (whole_runs q (term_ended opened) more (omega arith)
      ∙ ap (λ o. runs (Some (at_operator o)) more) (term_twice opened)))

  conjunction_runs : (c : Conjunction) (opened : List Opened) (more : List Token)
      → length opened + conjunction_depth c ≤ 64
      → runs (Some (at_term opened)) (conjunction_tokens c ++ more) ≡ runs (Some (at_operator (term_ended opened))) more
  conjunction_runs (single t) opened more deep = term_runs t opened more deep
  conjunction_runs (both t c) opened more deep =
      let less = ended_less opened in
      ap (runs (Some (at_term opened))) (append_assoc (term_tokens t) (And ∷ conjunction_tokens c) more)
      ∙ (term_runs t opened (And ∷ (conjunction_tokens c ++ more)) (omega arith)
      ∙ (conjunction_runs c (term_ended opened) more (omega arith)
      ∙ ap (λ o. runs (Some (at_operator o)) more) (term_twice opened)))

  term_runs : (t : Term) (opened : List Opened) (more : List Token) → length opened + term_depth t ≤ 64
      → runs (Some (at_term opened)) (term_tokens t ++ more) ≡ runs (Some (at_operator (term_ended opened))) more
  term_runs (negated t) opened more deep = goes_deeper Negation opened (term_tokens t ++ more) (omega arith)
      ∙ term_runs t (Negation ∷ opened) more (omega arith)
  term_runs (group q) opened more deep =
      ap (λ rest. runs (Some (at_term opened)) (Open ∷ rest)) (append_assoc (tokens_of q) (Close ∷ []) more)
      ∙ (goes_deeper Group opened (tokens_of q ++ Close ∷ more) (omega arith)
      ∙ whole_runs q (Group ∷ opened) (Close ∷ more) (omega arith))
  term_runs every opened more deep = refl
  term_runs (test field on) opened more deep = refl

-- the tokens of a query lead to its end
pub query_runs : (tokens : List Token) (q : Disjunction) → IsQuery tokens q → runs (Some start) tokens ≡ true
query_runs tokens q is = ap (runs (Some start)) (is.0 ∙ sym (append-nil (tokens_of q)))
    ∙ whole_runs q [] [] (omega (arith, is.1))

-- nothing, or an operator and what a query goes on with
abbrev IsTail : ℕ → List Token → Type 0
IsTail n tail = (tail ≡ []) ⊎ ((q : Disjunction) × (depth_of q + n ≤ 64)
    × ((tail ≡ And ∷ tokens_of q) ⊎ (tail ≡ Or ∷ tokens_of q)))

-- the parentheses that are open are closed, with tails after them
abbrev Closes : List Opened → List Token → Type 0
Closes [] rest = rest ≡ []
Closes (Negation ∷ opened) rest = Closes opened rest
Closes (Group ∷ opened) rest =
    (tail more : List Token) × (rest ≡ Close ∷ (tail ++ more)) × IsTail (length (term_ended opened)) tail
    × Closes opened more

record TermThen (opened : List Opened) (tokens : List Token) : Type 0 where
  term : Term
  tail : List Token
  rest : List Token
  are : tokens ≡ term_tokens term ++ (tail ++ rest)
  deep : term_depth term + length opened ≤ 64
  is_tail : IsTail (length (term_ended opened)) tail
  closes : Closes opened rest

record TailThen (opened : List Opened) (tokens : List Token) : Type 0 where
  tail : List Token
  rest : List Token
  are : tokens ≡ tail ++ rest
  is_tail : IsTail (length (term_ended opened)) tail
  closes : Closes opened rest

joined_and : (t : Term) (n : ℕ) (q : Disjunction) → term_depth t + n ≤ 64 → depth_of q + n ≤ 64
    → (whole : Disjunction) × (tokens_of whole ≡ term_tokens t ++ And ∷ tokens_of q) × (depth_of whole + n ≤ 64)
joined_and t n (alone c) deep also = (alone (both t c), refl, omega arith)
joined_and t n (either c q) deep also =
    (either (both t c) q, append_assoc (term_tokens t) (And ∷ conjunction_tokens c) (Or ∷ tokens_of q), omega arith)

-- a term and a tail are a query
combined : (t : Term) (n : ℕ) (tail : List Token) → term_depth t + n ≤ 64 → IsTail n tail
    → (q : Disjunction) × (tokens_of q ≡ term_tokens t ++ tail) × (depth_of q + n ≤ 64)
combined t n tail deep (inl none) =
    (alone (single t), sym (append-nil (term_tokens t)) ∙ ap (λ l. term_tokens t ++ l) (sym none), deep)
combined t n tail deep (inr (q, also, inl is)) =
    let whole = joined_and t n q deep also in (whole.0, whole.1 ∙ ap (λ l. term_tokens t ++ l) (sym is), whole.2)
combined t n tail deep (inr (q, also, inr is)) =
    (either (single t) q, ap (λ l. term_tokens t ++ l) (sym is), omega arith)

closes_back : (opened : List Opened) (rest : List Token) → Closes (term_ended opened) rest → Closes opened rest
closes_back [] rest said = said
closes_back (Negation ∷ opened) rest said = closes_back opened rest said
closes_back (Group ∷ opened) rest said = said

went_deeper : (one : Opened) (opened : List Opened) (more : List Token) (b : Bool) → ltb (length opened) 64 ≡ b
    → runs (if b then Some (at_term (one ∷ opened)) else None) more ≡ true → (length opened < 64)
    × (runs (Some (at_term (one ∷ opened))) more ≡ true)
went_deeper one opened more true is said = (ltb-true (length opened) 64 is, said)
went_deeper one opened more false is said = cc

Completes : Due → List Opened → List Token → Type 0
Completes due.Term opened tokens = TermThen opened tokens
Completes Operator opened tokens = TailThen opened tokens

after_group : (opened : List Opened) (tokens : List Token) → TermThen (Group ∷ opened) tokens
    → TermThen opened (Open ∷ tokens)
after_group opened tokens said =
    let q = combined said.term (length (Group ∷ opened)) said.tail said.deep said.is_tail in
    let tail = said.closes.0 in
    let more = said.closes.1 in
    let whole : tokens ≡ tokens_of q.0 ++ Close ∷ (tail ++ more) =
    said.are ∙ (sym (append_assoc (term_tokens said.term) said.tail said.rest)
    ∙ (ap (λ l. l ++ said.rest) (sym q.1) ∙ ap (λ l. tokens_of q.0 ++ l) said.closes.2)) in
    record {
      term = group q.0;
      tail = tail;
      rest = more;
      are = ap (λ l. Open ∷ l) (whole ∙ sym (append_assoc (tokens_of q.0) (Close ∷ []) (tail ++ more)));
      deep = omega (arith, q.2);
      is_tail = said.closes.3;
      closes = said.closes.4;
    }

after_not : (opened : List Opened) (tokens : List Token) → TermThen (Negation ∷ opened) tokens
    → TermThen opened (Not ∷ tokens)
after_not opened tokens said = record {
  term = negated said.term;
  tail = said.tail;
  rest = said.rest;
  are = ap (λ l. Not ∷ l) said.are;
  deep = omega (arith, said.deep);
  is_tail = said.is_tail;
  closes = said.closes;
}

after_item : (t : Term) (token : Token) (opened : List Opened) (tokens : List Token) → term_tokens t ≡ token ∷ []
    → term_depth t ≡ 0 → length opened ≤ 64
    → TailThen (term_ended opened) tokens → TermThen opened (token ∷ tokens)
after_item t token opened tokens is flat fits said = record {
  term = t;
  tail = said.tail;
  rest = said.rest;
  are = ap (λ l. token ∷ l) said.are ∙ ap (λ l. l ++ (said.tail ++ said.rest)) (sym is);
  deep = omega arith;
  is_tail = subst (λ o. IsTail (length o) said.tail) (term_twice opened) said.is_tail;
  closes = closes_back opened said.rest said.closes;
}

after_operator_by : (token : Token) (opened : List Opened) (tokens : List Token)
    → ((q : Disjunction) (n : ℕ) → depth_of q + n ≤ 64 → IsTail n (token ∷ tokens_of q))
    → TermThen opened tokens → TailThen opened (token ∷ tokens)
after_operator_by token opened tokens tails said =
    let less = ended_less opened in
    let q = combined said.term (length (term_ended opened)) said.tail (omega (arith, said.deep)) said.is_tail in
    record {
      tail = token ∷ tokens_of q.0;
      rest = said.rest;
      are = ap (λ l. token ∷ l) (said.are
          ∙ (sym (append_assoc (term_tokens said.term) said.tail said.rest) ∙ ap (λ l. l ++ said.rest) (sym q.1)));
      is_tail = tails q.0 (length (term_ended opened)) q.2;
      closes = said.closes;
    }

after_close : (opened : List Opened) (tokens : List Token) → TailThen (term_ended opened) tokens
    → TailThen (Group ∷ opened) (Close ∷ tokens)
after_close opened tokens said = record {
  tail = [];
  rest = Close ∷ tokens;
  are = refl;
  is_tail = inl refl;
  closes = (
    said.tail,
    said.rest,
    ap (λ l. Close ∷ l) said.are,
    subst (λ o. IsTail (length o) said.tail) (term_twice opened) said.is_tail,
    closes_back opened said.rest said.closes,
  );
}

completes : (tokens : List Token) (due : Due) (opened : List Opened) → length opened ≤ 64
    → runs (Some (record { due = due; opened = opened })) tokens ≡ true
    → Completes due opened tokens
unfolding Completes
completes [] due.Term opened fits said = cc
completes [] Operator [] fits said = record { tail = []; rest = []; are = refl; is_tail = inl refl; closes = refl }
completes [] Operator (one ∷ opened) fits said = cc
completes (Open ∷ tokens) due.Term opened fits said =
    let deeper_is = went_deeper Group opened tokens (ltb (length opened) 64) refl said in
    after_group opened tokens (completes tokens due.Term (Group ∷ opened) (omega (arith, deeper_is.0)) deeper_is.1)
completes (Close ∷ tokens) due.Term opened fits said = cc
completes (Not ∷ tokens) due.Term opened fits said =
    let deeper_is = went_deeper Negation opened tokens (ltb (length opened) 64) refl said in
    after_not opened tokens (completes tokens due.Term (Negation ∷ opened) (omega (arith, deeper_is.0)) deeper_is.1)
completes (And ∷ tokens) due.Term opened fits said = cc
completes (Or ∷ tokens) due.Term opened fits said = cc
completes (Every ∷ tokens) due.Term opened fits said =
    let less = ended_less opened in
    after_item every Every opened tokens refl refl fits
    (completes tokens Operator (term_ended opened) (omega arith) said)
completes (Test field on ∷ tokens) due.Term opened fits said =
    let less = ended_less opened in
    after_item (test field on) (Test field on) opened tokens refl refl fits
    (completes tokens Operator (term_ended opened) (omega arith) said)
completes (Open ∷ tokens) Operator opened fits said = cc
completes (Close ∷ tokens) Operator [] fits said = cc
completes (Close ∷ tokens) Operator (Group ∷ opened) fits said =
    let less = ended_less opened in
    after_close opened tokens (completes tokens Operator (term_ended opened) (omega arith) said)
completes (Close ∷ tokens) Operator (Negation ∷ opened) fits said = cc
completes (Not ∷ tokens) Operator opened fits said = cc
completes (And ∷ tokens) Operator opened fits said =
    after_operator_by And opened tokens (λ q n deep. inr (q, deep, inl refl))
    (completes tokens due.Term opened fits said)
completes (Or ∷ tokens) Operator opened fits said =
    after_operator_by Or opened tokens (λ q n deep. inr (q, deep, inr refl))
    (completes tokens due.Term opened fits said)
completes (Every ∷ tokens) Operator opened fits said = cc
completes (Test field on ∷ tokens) Operator opened fits said = cc

whole_query : (tokens : List Token) → TermThen [] tokens → (q : Disjunction) × IsQuery tokens q
whole_query tokens said =
    let q = combined said.term 0 said.tail said.deep said.is_tail in (
      q.0,
      (
        said.are ∙ (ap (λ r. term_tokens said.term ++ (said.tail ++ r)) said.closes
            ∙ (ap (λ l. term_tokens said.term ++ l) (append-nil said.tail) ∙ sym q.1)),
        omega (arith, q.2),
      ),
    )

-- tokens that lead to the end of a query are those of one
pub runs_query : (tokens : List Token) → runs (Some start) tokens ≡ true → (q : Disjunction) × IsQuery tokens q
unfolding Completes
runs_query tokens said = whole_query tokens (completes tokens due.Term [] (omega arith) said)
