-- The head of a put, and an element's bytes: bytes that begin with them have one of each.
use Rattle.std.proofs.Common.{◌≡◌, ℕ, ◌^◌, ◌<◌, List, ◌++◌, length, take, drop, sym, ◌∙◌, ap, arith, length-append}
use Rattle.std.proofs.lemmas.List.{take_at, drop_at}
use Rattle.record_core.specs.Body.{head}
use Rattle.record_core.specs.Numbers.{in_four, in_eight}
use Rattle.record_core.proofs.Numbers.{length-four, length-eight, same_four, same_eight}

-- two pieces of one length, each with a rest
pub same_piece : (a b x y : List ℕ) → length a ≡ length b → a ++ x ≡ b ++ y → (a ≡ b) × (x ≡ y)
same_piece a b x y long is = (
  sym (take_at a x (length b) long) ∙ ap (λ (l : List ℕ). take (length b) l) is ∙ take_at b y (length b) (λ _. length b),
  sym (drop_at a x (length b) long) ∙ ap (λ (l : List ℕ). drop (length b) l) is ∙ drop_at b y (length b) (λ _. length b),
)

-- a piece with its length in eight bytes
pub same_payload : (a b x y : List ℕ) → length a < 2 ^ 64 → length b < 2 ^ 64 → in_eight (length a) ++ (a ++ x) ≡ in_eight (length b) ++ (b ++ y) → (a ≡ b) × (x ≡ y)
same_payload a b x y small below is =
    let parts = same_eight (length a) (length b) (a ++ x) (b ++ y) small below is in
    same_piece a b x y parts.0 parts.1

pub record SameHead (c : ℕ) (s : List ℕ) (n : ℕ) (p : List ℕ) (d : ℕ) (t : List ℕ) (m : ℕ) (q : List ℕ) : Type 0 where
  pub counter : c ≡ d
  pub shown : s ≡ t
  pub count : n ≡ m
  pub payloads : p ≡ q

pub same_head : (c : ℕ) (s : List ℕ) (n : ℕ) (p : List ℕ) (d : ℕ) (t : List ℕ) (m : ℕ) (q : List ℕ) → c < 2 ^ 64 → d < 2 ^ 64 → length s < 2 ^ 32 → length t < 2 ^ 32 → n < 2 ^ 32 → m < 2 ^ 32
    → head c s n p ≡ head d t m q → SameHead c s n p d t m q
same_head c s n p d t m q c_small d_small s_small t_small n_small m_small is =
    let first = same_eight c d (in_four (length s) ++ (s ++ (in_four n ++ p))) (in_four (length t) ++ (t ++ (in_four m ++ q))) c_small d_small is in
    let second = same_four (length s) (length t) (s ++ (in_four n ++ p)) (t ++ (in_four m ++ q)) s_small t_small first.1 in
    let third = same_piece s t (in_four n ++ p) (in_four m ++ q) second.0 second.1 in
    let fourth = same_four n m p q n_small m_small third.1 in
    record { counter = first.0; shown = third.0; count = fourth.0; payloads = fourth.1 }

-- ---- too few bytes

pub short_head : (bytes : List ℕ) (c : ℕ) (s : List ℕ) (n : ℕ) (p : List ℕ) → length bytes < 8 → bytes ≡ head c s n p → ⊥
short_head bytes c s n p short is = absurd (omega (arith, ap length is, length-append (in_eight c) (in_four (length s) ++ (s ++ (in_four n ++ p))), length-eight c))

module _ (bytes rest : List ℕ) (c d : ℕ) (small : d < 2 ^ 64) (cut : bytes ≡ in_eight d ++ rest) where
  pub after_counter : (s : List ℕ) (n : ℕ) (p : List ℕ) → c < 2 ^ 64 → bytes ≡ head c s n p → rest ≡ in_four (length s) ++ (s ++ (in_four n ++ p))
  after_counter s n p below is = (same_eight d c rest (in_four (length s) ++ (s ++ (in_four n ++ p))) small below (sym cut ∙ is)).1

pub short_size : (rest : List ℕ) (s : List ℕ) (n : ℕ) (p : List ℕ) → length rest < 4 → rest ≡ in_four (length s) ++ (s ++ (in_four n ++ p)) → ⊥
short_size rest s n p short is = absurd (omega (arith, ap length is, length-append (in_four (length s)) (s ++ (in_four n ++ p)), length-four (length s)))

pub after_size : (bytes rest : List ℕ) (size : ℕ) (s : List ℕ) (n : ℕ) (p : List ℕ) → size < 2 ^ 32 → length s < 2 ^ 32 → bytes ≡ in_four size ++ rest → bytes ≡ in_four (length s) ++ (s ++ (in_four n ++ p))
    → (size ≡ length s) × (rest ≡ s ++ (in_four n ++ p))
after_size bytes rest size s n p small below cut is = same_four size (length s) rest (s ++ (in_four n ++ p)) small below (sym cut ∙ is)

pub short_text : (rest : List ℕ) (size : ℕ) (s : List ℕ) (n : ℕ) (p : List ℕ) → length rest < size → size ≡ length s → rest ≡ s ++ (in_four n ++ p) → ⊥
short_text rest size s n p short same is = absurd (omega (arith, ap length is, length-append s (in_four n ++ p), same))

pub short_count : (bytes text rest : List ℕ) (s : List ℕ) (n : ℕ) (p : List ℕ) → length text ≡ length s → length rest < 4 → bytes ≡ text ++ rest → bytes ≡ s ++ (in_four n ++ p) → ⊥
short_count bytes text rest s n p same short cut is =
    let tail = (same_piece text s rest (in_four n ++ p) same (sym cut ∙ is)).1 in
    absurd (omega (arith, ap length tail, length-append (in_four n) p, length-four n))

pub short_payload : (bytes : List ℕ) (a x : List ℕ) → length bytes < 8 → bytes ≡ in_eight (length a) ++ (a ++ x) → ⊥
short_payload bytes a x short is = absurd (omega (arith, ap length is, length-append (in_eight (length a)) (a ++ x), length-eight (length a)))

pub short_bytes : (bytes rest : List ℕ) (size : ℕ) (a x : List ℕ) → size < 2 ^ 64 → length a < 2 ^ 64 → bytes ≡ in_eight size ++ rest → length rest < size → bytes ≡ in_eight (length a) ++ (a ++ x) → ⊥
short_bytes bytes rest size a x small below cut short is =
    let parts = same_eight size (length a) rest (a ++ x) small below (sym cut ∙ is) in
    absurd (omega (arith, parts.0, ap length parts.1, length-append a x))
