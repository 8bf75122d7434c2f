-- The bytes of elements: the first element with an identifier, and one pair of segments after another.
use Rattle.std.proofs.Common.{◌≡◌, ℕ, zero, suc, ◌+◌, ◌<◌, List, [], ◌∷◌, ◌++◌, length, drop, take, set, get_or, nat_eq}
use Rattle.std.proofs.Common.{true, false, if◌then◌else◌, is_none, is_some, Option, Some, None, Result, Ok, Err, codes}
use Rattle.std.proofs.Common.{refl, sym, ap, subst, ◌∙◌, append_assoc, arith}
use Rattle.std.proofs.lemmas.List.{take_more, get_or_default}
use Rattle.std.specs.Cmp.Lexicographic.{pointwise}
use Rattle.doip_json.specs.Value.{Value}
use Rattle.doip_json.specs.Look.{field_of}
use Rattle.doip_segment.specs.declared.kind.Kind.TheVariants as kinds
use Rattle.doip_segment.specs.Segments.{Segment, segment, segment_of}
use Rattle.dobj_draft.specs.declared.draft.ObjectFault.{ObjectFault}
use Rattle.dobj_draft.specs.declared.draft.DraftElement.{DraftElement}
use Rattle.dobj_draft.specs.Draft.{◌>>=◌, value_of_kind, named_in, expected, bytes_in, is_waiting, with_payload, filled}
use Rattle.dobj_draft.specs.Draft.{with_bytes, payloads}
use Rattle.dobj_draft.specs.Waiting.{IsFirst}
use Rattle.dobj_model.proofs.Between.{drop_at}

set_between : {X : Type 0} (xs : List X) (i : ℕ) (y : X) → i < length xs → set xs i y ≡ take i xs ++ y ∷ drop (i + 1) xs
set_between [] i y within = absurd (omega arith)
set_between (x ∷ xs) zero y within = refl
set_between (x ∷ xs) (suc i) y within =
    ap (λ r. x ∷ r) (set_between xs i y (omega arith)) ∙ ap (λ n. x ∷ (take i xs ++ y ∷ drop n (x ∷ xs))) (next i)
  where
    next : (n : ℕ) → suc (n + 1) ≡ suc n + 1
    next n = omega arith

pub first_fills : (id : List ℕ) (es : List DraftElement) (i : ℕ) (x : DraftElement) → x ≡ get_or es i x → i < length es
    → pointwise nat_eq id x.id ≡ true
    → ((bytes : List ℕ) → filled id bytes es ≡ take i es ++ filled id bytes (drop i es)) → IsFirst id es i
first_fills id es i x is within named before = record {
  within = within;
  fills = λ e at bytes.
      let same : x ≡ e = is ∙ (get_or_default es i x e within ∙ sym at) in
      let yes : pointwise nat_eq id e.id ≡ true = subst (λ y. pointwise nat_eq id y.id ≡ true) same named in
      before bytes ∙ (ap (λ r. take i es ++ filled id bytes r) (drop_at es i e at within)
      ∙ (ap (λ b. take i es ++ (if b then with_payload bytes e ∷ drop (i + 1) es else e ∷ filled id bytes
      (drop (i + 1) es))) yes ∙ sym (set_between es i (with_payload bytes e) within)));
}

pub waits_later : (id : List ℕ) (es : List DraftElement) (i : ℕ) (x : DraftElement) → x ≡ get_or es i x → i < length es
    → pointwise nat_eq id x.id ≡ false → is_waiting id (drop i es) ≡ is_waiting id (drop (i + 1) es)
waits_later id es i x is within other =
    ap (is_waiting id) (drop_at es i x is within)
    ∙ ap (λ b. if b then is_none x.bytes else is_waiting id (drop (i + 1) es)) other

pub waits_here : (id : List ℕ) (es : List DraftElement) (i : ℕ) (x : DraftElement) → x ≡ get_or es i x → i < length es
    → pointwise nat_eq id x.id ≡ true → is_waiting id (drop i es) ≡ is_none x.bytes
waits_here id es i x is within named =
    ap (is_waiting id) (drop_at es i x is within)
    ∙ ap (λ b. if b then is_none x.bytes else is_waiting id (drop (i + 1) es)) named

pub fills_later : (id : List ℕ) (es : List DraftElement) (i : ℕ) (x : DraftElement) → x ≡ get_or es i x → i < length es
    → pointwise nat_eq id x.id ≡ false → (bytes : List ℕ)
    → take i es ++ filled id bytes (drop i es) ≡ take (i + 1) es ++ filled id bytes (drop (i + 1) es)
fills_later id es i x is within other bytes =
    let rest = filled id bytes (drop (i + 1) es) in
    ap (λ r. take i es ++ filled id bytes r) (drop_at es i x is within)
    ∙ (ap (λ b. take i es ++ (if b then with_payload bytes x ∷ drop (i + 1) es else x ∷ rest)) other
    ∙ (sym (append_assoc (take i es) (x ∷ []) rest)
    ∙ ap (λ t. t ++ rest) (sym (take_more es i x within ∙ ap (λ y. take i es ++ y ∷ []) (sym is)))))

then_ok : {A : Type 0} (r : Result A ObjectFault) → (r >>= (λ x. Ok x)) ≡ r
then_ok (Ok x) = refl
then_ok (Err e) = refl

pair_first : (n : ℕ) (s : Segment) (more : List Segment) (es : List DraftElement)
    → payloads n (s ∷ more) es ≡ (with_bytes n s more es >>= payloads (n + 2) (drop 1 more))
pair_first n s [] es = sym (then_ok (with_bytes n s [] es))
pair_first n s (b ∷ rest) es = refl

drop_nothing : {X : Type 0} (n : ℕ) → [] ≡ drop {A = X} n []
drop_nothing zero = refl
drop_nothing (suc n) = refl

drop_next : {X : Type 0} (xs : List X) (i : ℕ) → drop 1 (drop i xs) ≡ drop (i + 1) xs
drop_next [] zero = refl
drop_next [] (suc i) = drop_nothing (suc i + 1)
drop_next (x ∷ xs) zero = refl
drop_next (x ∷ xs) (suc i) = drop_next xs i ∙ ap (λ n. drop n (x ∷ xs)) (next i)
  where
    next : (n : ℕ) → suc (n + 1) ≡ suc n + 1
    next n = omega arith

-- one pair
pub pair_step : (segs : List Segment) (at : ℕ) (es : List DraftElement) → at < length segs
    → payloads (suc at) (drop at segs) es ≡ (with_bytes (suc at) (segment_of segs at) (drop (at + 1) segs) es
    >>= payloads (suc at + 2) (drop (at + 1 + 1) segs))
pair_step segs at es within =
    let s = segment_of segs at in
    ap (λ ss. payloads (suc at) ss es) (drop_at segs at s
    (get_or_default segs at (segment kinds.Json []) s within) within)
    ∙ (pair_first (suc at) s (drop (at + 1) segs) es
    ∙ ap (λ ss. with_bytes (suc at) s (drop (at + 1) segs) es >>= payloads (suc at + 2) ss) (drop_next segs (at + 1)))

some_not_none : {X : Type 0} (o : Option X) → is_some o ≡ true → is_none o ≡ false
some_not_none None e = absurd (cc)
some_not_none (Some x) e = refl

pub came_already : (id : List ℕ) (es : List DraftElement) (i : ℕ) (x y : DraftElement) → x ≡ get_or es i x
    → i < length es → pointwise nat_eq id x.id ≡ true → true ≡ is_some (get_or es i y).bytes
    → is_waiting id (drop i es) ≡ false
came_already id es i x y is within named came =
    waits_here id es i x is within named
    ∙ some_not_none x.bytes (ap (λ e. is_some e.bytes) (is ∙ get_or_default es i x y within) ∙ sym came)

-- a pair that is taken
pub pair_taken : (n : ℕ) (s : Segment) (rest : List Segment) (es : List DraftElement) (v : Value) (id bytes : List ℕ)
    → value_of_kind n s.kind s.bytes ≡ Ok v
    → named_in n (field_of (codes "id") v) ≡ Ok id → expected id es ≡ Ok tt → bytes_in (suc n) rest ≡ Ok bytes
    → with_bytes n s rest es ≡ Ok (filled id bytes es)
pair_taken n s rest es v id bytes e1 e2 e3 e4 =
    ap (λ r. r >>= (λ w. named_in n (field_of (codes "id") w)
    >>= (λ i. expected i es >>= (λ _. bytes_in (suc n) rest >>= (λ b. Ok (filled i b es)))))) e1
    ∙ (ap (λ r. r >>= (λ i. expected i es >>= (λ _. bytes_in (suc n) rest >>= (λ b. Ok (filled i b es))))) e2
    ∙ (ap (λ r. r >>= (λ _. bytes_in (suc n) rest >>= (λ b. Ok (filled id b es)))) e3
    ∙ ap (λ r. r >>= (λ b. Ok (filled id b es))) e4))

blank : DraftElement
blank = record { id = []; type_name = None; attributes = None; bytes = None }

pub filled_there : (id : List ℕ) (es new : List DraftElement) (place : ℕ) (bytes : List ℕ) → IsFirst id es place
    → ((e : DraftElement) → e ≡ get_or es place e → new ≡ set es place (with_payload bytes e))
    → filled id bytes es ≡ new
filled_there id es new place bytes first sets =
    let e = get_or es place blank in
    let here : e ≡ get_or es place e = get_or_default es place blank e first.within in
    first.fills e here bytes ∙ sym (sets e here)
