-- Queries: what they are made of, and their tokens. This project's own.
use Rattle.std.specs.Prelude.{◌≡◌, ◌≤◌, ℕ, suc, max, List, [], ◌∷◌, ◌++◌}
use Rattle.dobj_field.specs.declared.field.Field.{Field}
use Rattle.dobj_field.specs.declared.reach.ScalarTest.{ScalarTest}
use Rattle.query_text.specs.declared.query.Token.{Token}
use Rattle.query_text.specs.declared.query.Token.TheVariants.{Open, Close, Not, And, Or, Every, Test}

mutual
  -- query = conjunction { "OR" conjunction }
  pub data Disjunction : Type 0 where
    alone : Conjunction → Disjunction
    either : Conjunction → Disjunction → Disjunction

  -- conjunction = term { "AND" term }
  pub data Conjunction : Type 0 where
    single : Term → Conjunction
    both : Term → Conjunction → Conjunction

  -- term = "NOT" term | "(" query ")" | "*:*" | a test of a field
  pub data Term : Type 0 where
    negated : Term → Term
    group : Disjunction → Term
    every : Term
    test : Field → ScalarTest → Term

-- The tokens of a query, in the order in which they are written.
abbrev mutual
  pub tokens_of : Disjunction → List Token
  tokens_of (alone c) = conjunction_tokens c
  tokens_of (either c q) = conjunction_tokens c ++ Or ∷ tokens_of q

  -- those of a conjunction
  pub conjunction_tokens : Conjunction → List Token
  conjunction_tokens (single t) = term_tokens t
  conjunction_tokens (both t c) = term_tokens t ++ And ∷ conjunction_tokens c

  -- those of a term
  pub term_tokens : Term → List Token
  term_tokens (negated t) = Not ∷ term_tokens t
  term_tokens (group q) = Open ∷ tokens_of q ++ Close ∷ []
  term_tokens every = Every ∷ []
  term_tokens (test field on) = Test field on ∷ []

-- How deep parentheses and `NOT` nest, counted together.
abbrev mutual
  pub depth_of : Disjunction → ℕ
  depth_of (alone c) = conjunction_depth c
  depth_of (either c q) = max (conjunction_depth c) (depth_of q)

  -- in a conjunction
  pub conjunction_depth : Conjunction → ℕ
  conjunction_depth (single t) = term_depth t
  conjunction_depth (both t c) = max (term_depth t) (conjunction_depth c)

  -- in a term
  pub term_depth : Term → ℕ
  term_depth (negated t) = suc (term_depth t)
  term_depth (group q) = suc (depth_of q)
  term_depth every = 0
  term_depth (test field on) = 0

-- the tokens are those of this query, which nests at most 64 deep
abbrev pub IsQuery : List Token → Disjunction → Type 0
IsQuery tokens query = (tokens ≡ tokens_of query) × (depth_of query ≤ 64)
