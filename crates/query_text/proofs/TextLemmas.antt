-- Words and quoted texts, a byte at a time.
use Rattle.std.proofs.Common.{◌≡◌, ℕ, Bool, true, false, List, [], ◌∷◌, ◌++◌, Some, None, refl, sym, ap, ◌∙◌, subst, eqb-true, true≢false}
use Rattle.std.specs.Prelude.{◌==◌}
use Rattle.query_text.specs.Spelling.{ended, taking, unescaped, ends_word, ends_quoted}

on_byte : (ends : ℕ → Bool) (x : ℕ) (a b : List ℕ) (g p q : Bool) → (x == 92) ≡ p → ends x ≡ q
    → (taking ends true a ≡ Some g → taking ends true (a ++ b) ≡ taking ends g b)
    → (taking ends false a ≡ Some g → taking ends false (a ++ b) ≡ taking ends g b)
    → taking ends false (x ∷ a) ≡ Some g → taking ends false (x ∷ (a ++ b)) ≡ taking ends g b
on_byte ends x a b g true q is ends_is one two said = rw is (one (rw is at said))
on_byte ends x a b g false true is ends_is one two said = let bad : None ≡ Some g = rw (is, ends_is) at said in cc
on_byte ends x a b g false false is ends_is one two said = rw (is, ends_is) (two (rw (is, ends_is) at said))

-- the flag after bytes, and then after more
pub taking_on : (ends : ℕ → Bool) (f : Bool) (a b : List ℕ) (g : Bool) → taking ends f a ≡ Some g
    → taking ends f (a ++ b) ≡ taking ends g b
taking_on ends f [] b g said = let same : f ≡ g = cc in ap (λ h. taking ends h b) same
taking_on ends true (x ∷ a) b g said = taking_on ends false a b g said
taking_on ends false (x ∷ a) b g said =
    on_byte ends x a b g (x == 92) (ends x) refl refl (taking_on ends true a b g) (taking_on ends false a b g) said

spells_byte : (ends : ℕ → Bool) (x : ℕ) (a b : List ℕ) (g p q : Bool) → (x == 92) ≡ p → ends x ≡ q
    → (taking ends true a ≡ Some g → unescaped true (a ++ b) ≡ unescaped true a ++ unescaped g b)
    → (taking ends false a ≡ Some g → unescaped false (a ++ b) ≡ unescaped false a ++ unescaped g b)
    → taking ends false (x ∷ a) ≡ Some g → unescaped false (x ∷ (a ++ b)) ≡ unescaped false (x ∷ a) ++ unescaped g b
spells_byte ends x a b g true q is ends_is one two said = rw is (one (rw is at said))
spells_byte ends x a b g false true is ends_is one two said = let bad : None ≡ Some g = rw (is, ends_is) at said in cc
spells_byte ends x a b g false false is ends_is one two said = rw is (ap (λ t. x ∷ t) (two (rw (is, ends_is) at said)))

-- what bytes spell, and then more
pub spells_on : (ends : ℕ → Bool) (f : Bool) (a b : List ℕ) (g : Bool) → taking ends f a ≡ Some g
    → unescaped f (a ++ b) ≡ unescaped f a ++ unescaped g b
spells_on ends f [] b g said = let same : f ≡ g = cc in ap (λ h. unescaped h b) same
spells_on ends true (x ∷ a) b g said = ap (λ t. x ∷ t) (spells_on ends false a b g said)
spells_on ends false (x ∷ a) b g said =
    spells_byte ends x a b g (x == 92) (ends x) refl refl (spells_on ends true a b g) (spells_on ends false a b g) said

-- bytes that go through others, and on
pub record Through (ends : ℕ → Bool) (g : Bool) (w w2 r1 r2 : List ℕ) : Type 0 where
  pub rest : List ℕ
  pub are : w ≡ w2 ++ rest
  pub same : rest ++ r1 ≡ r2
  pub closed : taking ends g rest ≡ Some false

with_byte : (ends : ℕ → Bool) (g : Bool) (x y : ℕ) (w w2 r1 r2 : List ℕ) → y ≡ x → Through ends g w w2 r1 r2
    → Through ends g (y ∷ w) (x ∷ w2) r1 r2
with_byte ends g x y w w2 r1 r2 byte t =
    record { rest = t.rest; are = ap (λ z. z ∷ w) byte ∙ ap (λ l. x ∷ l) t.are; same = t.same; closed = t.closed }

through_byte : (ends : ℕ → Bool) → ends 92 ≡ false → (x : ℕ) (w w2 r1 r2 : List ℕ) (g p q : Bool) → (x == 92) ≡ p
    → ends x ≡ q
    → (taking ends true w ≡ Some false → taking ends true w2 ≡ Some g → Through ends g w w2 r1 r2)
    → (taking ends false w ≡ Some false → taking ends false w2 ≡ Some g → Through ends g w w2 r1 r2)
    → taking ends false (x ∷ w) ≡ Some false → taking ends false (x ∷ w2) ≡ Some g → Through ends g w w2 r1 r2
through_byte ends back x w w2 r1 r2 g true q is ends_is one two said also = one (rw is at said) (rw is at also)
through_byte ends back x w w2 r1 r2 g false true is ends_is one two said also = let bad : None ≡ Some g =
    rw (is, ends_is) at also in cc
through_byte ends back x w w2 r1 r2 g false false is ends_is one two said also =
    two (rw (is, ends_is) at said) (rw (is, ends_is) at also)

not_ended : (ends : ℕ → Bool) → ends 92 ≡ false → (x : ℕ) (w2 : List ℕ) (g p : Bool) → (x == 92) ≡ p
    → (x ≡ 92 → ends x ≡ false) → ends x ≡ true
    → taking ends false (x ∷ w2) ≡ Some g → ⊥
not_ended ends back x w2 g true is plain stop said = let e : x ≡ 92 = eqb-true x 92 is in
    true≢false (sym stop ∙ plain e)
not_ended ends back x w2 g false is plain stop said = let bad : None ≡ Some g = rw (is, stop) at said in cc

-- a byte that ends a text isn't read as one of it
pub no_stop : (ends : ℕ → Bool) → ends 92 ≡ false → (x : ℕ) (rest : List ℕ) (g : Bool) → ends x ≡ true
    → taking ends false (x ∷ rest) ≡ Some g → ⊥
no_stop ends back x rest g stop said = not_ended ends back x rest g (x == 92) refl (λ e. rw e back) stop said

pub through : (ends : ℕ → Bool) → ends 92 ≡ false → (f : Bool) (w w2 r1 r2 : List ℕ) (g : Bool)
    → taking ends f w ≡ Some false → ended ends r1 ≡ true
    → taking ends f w2 ≡ Some g → w ++ r1 ≡ w2 ++ r2 → Through ends g w w2 r1 r2
through ends back f w [] r1 r2 g said stop also same =
    let flag : f ≡ g = cc in record
    { rest = w; are = refl; same = same; closed = subst (λ h. taking ends h w ≡ Some false) flag said }
through ends back f [] (x ∷ w2) [] r2 g said stop also same = cc
through ends back f [] (x ∷ w2) (y ∷ r1) r2 g said stop also same =
    let flag : f ≡ false = cc in
    let byte : y ≡ x = cc in
    absurd (no_stop ends back x w2 g (subst (λ z. ends z ≡ true) byte stop)
    (subst (λ h. taking ends h (x ∷ w2) ≡ Some g) flag also))
through ends back true (y ∷ w) (x ∷ w2) r1 r2 g said stop also same =
    let byte : y ≡ x = cc in
    let more : w ++ r1 ≡ w2 ++ r2 = cc in
    with_byte ends g x y w w2 r1 r2 byte (through ends back false w w2 r1 r2 g said stop also more)
through ends back false (y ∷ w) (x ∷ w2) r1 r2 g said stop also same =
    let byte : y ≡ x = cc in
    let more : w ++ r1 ≡ w2 ++ r2 = cc in
    with_byte ends g x y w w2 r1 r2 byte (through_byte ends back x w w2 r1 r2 g (x == 92) (ends x) refl refl
    (λ a b. through ends back true w w2 r1 r2 g a stop b more)
    (λ a b. through ends back false w w2 r1 r2 g a stop b more)
    (subst (λ z. taking ends false (z ∷ w) ≡ Some false) byte said) also)

-- a text that ends with the bytes ends nowhere later
pub no_more : (ends : ℕ → Bool) → ends 92 ≡ false → (rest r1 more : List ℕ) → taking ends false rest ≡ Some false
    → ended ends more ≡ true → rest ++ r1 ≡ more
    → (rest ≡ []) × (r1 ≡ more)
no_more ends back [] r1 more said stop same = (refl, same)
no_more ends back (x ∷ rest) r1 [] said stop same = cc
no_more ends back (x ∷ rest) r1 (y ∷ more) said stop same =
    let byte : x ≡ y = cc in
    absurd (no_stop ends back x rest false (subst (λ z. ends z ≡ true) (sym byte) stop) said)

pub word_back : ends_word 92 ≡ false
word_back = refl

pub quoted_back : ends_quoted 92 ≡ false
quoted_back = refl
