-- What the tokens of a query give, level by level.
use Rattle.std.proofs.Common.{◌≡◌, ◌<◌, ◌≤◌, ◌+◌, Bool, true, false, List, [], ◌∷◌, ◌++◌, length, Some, None, refl, sym, ap, ◌∙◌, arith, append_assoc, append-nil}
use Rattle.std.specs.Prelude.{not, ◌&&◌, ◌||◌, if◌then◌else◌}
use Rattle.std.proofs.Math.Bool.{and_assoc, or_assoc}
use Rattle.std.proofs.lemmas.Bool.{lt-ltb}
use Rattle.dobj_model.specs.declared.object.ObjectValue.{ObjectValue}
use Rattle.query_core.specs.declared.matching.Level.{Level}
use Rattle.query_text.specs.declared.query.Token.{Token}
use Rattle.query_text.specs.declared.query.Token.TheVariants.{Open, Close, And, Or}
use Rattle.query_text.specs.Query.{Disjunction, Conjunction, Term, alone, either, single, both, negated, group, every, test, tokens_of, conjunction_tokens, term_tokens, depth_of, conjunction_depth, term_depth, IsQuery}
use Rattle.query_core.specs.Meaning.{holds, conjunction_holds, term_holds}
use Rattle.query_core.specs.Levels.{fresh, known, turned, joined, outcome}

-- a level with no `NOT` before its next term
abbrev ready : Bool → Bool → Level
ready found all = record { found = found; all = all; negated = false }

-- what follows looks at no more of a level than what is known of it
Looks : ObjectValue → List Level → List Token → Type 0
Looks object outer more = (a b : Level) → known a ≡ known b → outcome object a outer more ≡ outcome object b outer more

turned_twice : (n v : Bool) → (if not n then not v else v) ≡ (if n then not (not v) else not v)
turned_twice true true = refl
turned_twice true false = refl
turned_twice false v = refl

opens : (object : ObjectValue) (level : Level) (outer : List Level) (rest : List Token) → length outer < 64
    → outcome object level outer (Open ∷ rest) ≡ outcome object fresh (level ∷ outer) rest
opens object level outer rest room =
    ap (λ b. if b then outcome object fresh (level ∷ outer) rest else None) (lt-ltb (length outer) 64 room)

looks_close : (object : ObjectValue) (around : Level) (outer : List Level) (more : List Token)
    → Looks object (around ∷ outer) (Close ∷ more)
unfolding Looks
looks_close object around outer more a b same = ap (λ v. outcome object (joined around v) outer more) same

looks_end : (object : ObjectValue) → Looks object [] []
unfolding Looks
looks_end object a b same = ap Some same

looked : (object : ObjectValue) (outer : List Level) (more : List Token) → Looks object outer more
    → (a b : Level) → known a ≡ known b → outcome object a outer more ≡ outcome object b outer more
unfolding Looks
looked object outer more looks a b same = looks a b same

mutual
  whole_outcome : (q : Disjunction) (object : ObjectValue) (found : Bool) (outer : List Level) (more : List Token)
      → Looks object outer more
      → length outer + depth_of q ≤ 64
      → outcome object (ready found true) outer (tokens_of q ++ more) ≡ outcome object
      (ready found (holds q object)) outer more
  whole_outcome (alone c) object found outer more looks deep = conjunction_outcome c object found true outer more deep
  whole_outcome (either c q) object found outer more looks deep =
      let v = conjunction_holds c object in
      ap (outcome object (ready found true) outer) (append_assoc (conjunction_tokens c) (Or ∷ tokens_of q) more)
      ∙ (conjunction_outcome c object found true outer (Or ∷ (tokens_of q ++ more)) (omega arith)
      ∙ (whole_outcome q object (found || v) outer more looks (omega arith)
      ∙ looked object outer more looks (ready (found || v) (holds q object)) (ready found (v || holds q object))
      (or_assoc found v (holds q object))))

  conjunction_outcome : (c : Conjunction) (object : ObjectValue) (found all : Bool) (outer : List Level)
      (more : List Token)
      → length outer + conjunction_depth c ≤ 64
      → outcome object (ready found all) outer (conjunction_tokens c ++ more) ≡ outcome object
      (ready found (all && conjunction_holds c object)) outer more
  conjunction_outcome (single t) object found all outer more deep =
      term_outcome t object (ready found all) outer more deep
  conjunction_outcome (both t c) object found all outer more deep =
      ap (outcome object (ready found all) outer) (append_assoc (term_tokens t) (And ∷ conjunction_tokens c) more)
      ∙ (term_outcome t object (ready found all) outer (And ∷ (conjunction_tokens c ++ more)) (omega arith)
      ∙ (conjunction_outcome c object found (all && term_holds t object) outer more (omega arith)
      ∙ ap (λ v. outcome object (ready found v) outer more)
      (and_assoc all (term_holds t object) (conjunction_holds c object))))

  term_outcome : (t : Term) (object : ObjectValue) (level : Level) (outer : List Level) (more : List Token)
      → length outer + term_depth t ≤ 64
      → outcome object level outer (term_tokens t ++ more) ≡ outcome object
      (joined level (term_holds t object)) outer more
  term_outcome (negated t) object level outer more deep =
      term_outcome t object (turned level) outer more (omega arith)
      ∙ ap (λ v. outcome object (ready level.found (level.all && v)) outer more)
      (turned_twice level.negated (term_holds t object))
  term_outcome (group q) object level outer more deep =
      ap (λ rest. outcome object level outer (Open ∷ rest)) (append_assoc (tokens_of q) (Close ∷ []) more)
      ∙ (opens object level outer (tokens_of q ++ Close ∷ more) (omega arith)
      ∙ whole_outcome q object false (level ∷ outer) (Close ∷ more) (looks_close object level outer more) (omega arith))
  term_outcome every object level outer more deep = refl
  term_outcome (test field on) object level outer more deep = refl

pub query_outcome : (tokens : List Token) (q : Disjunction) (object : ObjectValue) → IsQuery tokens q
    → outcome object fresh [] tokens ≡ Some (holds q object)
query_outcome tokens q object is =
    ap (outcome object fresh []) (is.0 ∙ sym (append-nil (tokens_of q)))
    ∙ whole_outcome q object false [] [] (looks_end object) (omega (arith, is.1))
