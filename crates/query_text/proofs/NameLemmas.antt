-- Fields before a colon.
use Rattle.std.proofs.Common.{◌≡◌, ◌≢◌, ℕ, suc, ◌+◌, ◌<◌, ◌≤◌, ◌⊎◌, inl, inr, Bool, true, false, List, [], ◌∷◌, ◌++◌, length, take, drop, refl, sym, ap, ◌∙◌, subst, arith, append_assoc, length-append, length-drop, eqb-true}
use Rattle.std.specs.Prelude.{◌==◌}
use Rattle.std.proofs.lemmas.Bool.{cases_lt}
use Rattle.std.proofs.lemmas.Bool.Decides.{eqb_tells}
use Rattle.std.proofs.lemmas.List.{take-append-drop, drop-drop, length-take, take-take}
use Rattle.std.proofs.Math.Seq.{take-append_seam}
use Rattle.dobj_field.specs.Breaks.{BreaksAt}
use Rattle.dobj_field.specs.Field.{IsField, NamesField}
use Rattle.dobj_field.specs.declared.field.Field.{Field}
use Rattle.query_text.specs.declared.parts.Stop.{Stop}
use Rattle.query_text.specs.declared.parts.Stop.TheVariants.{Colon}
use Rattle.query_text.specs.Parts.{stops, untaken, BeginsWith}
use Rattle.query_text.specs.Faults.{BreaksOff}
use Rattle.query_text.specs.Stages.{Leads, Name}
use Rattle.query_text.proofs.StageLemmas.{Live}
use Rattle.query_text.proofs.PartLemmas.{stop_here, step_one, step_two}
use Rattle.query_text.proofs.FieldLemmas.{field_end, colon_ends}
use Rattle.query_text.proofs.CutLemmas.{stop_after}

-- where the first of two beginnings is no longer than the second
pub longer : (a b c d : List ℕ) → a ++ b ≡ c ++ d → length a ≤ length c → (more : List ℕ) × (c ≡ a ++ more)
    × (b ≡ more ++ d)
longer [] b c d same fits = (c, refl, same)
longer (x ∷ a) b [] d same fits = absurd (omega arith)
longer (x ∷ a) b (y ∷ c) d same fits =
    let byte : x ≡ y = cc in
    let on : a ++ b ≡ c ++ d = cc in
    let more = longer a b c d on (omega arith) in
    (more.0, ap (λ z. z ∷ c) (sym byte) ∙ ap (λ l. x ∷ l) more.1, more.2)

lone_again : (stop : Stop) (x y : ℕ) (z w : List ℕ) → x ≢ 92 → stops stop x ≡ true → ((y == 92) ≡ true) × (y ≡ 92)
    ⊎ ((y == 92) ≡ false) × (y ≢ 92)
    → (b : Bool) → stops stop y ≡ b → untaken stop (y ∷ x ∷ z) ≡ 1 → untaken stop (y ∷ x ∷ w) ≡ 1
lone_again stop x y z w plain here (inl back) b is said =
    absurd (omega (arith, sym said ∙ (ap (λ k. untaken stop (k ∷ x ∷ z)) back.1 ∙ step_two stop x z)))
lone_again stop x y z w plain here (inr byte) true is said =
    absurd (omega (arith, sym said ∙ stop_here stop y (x ∷ z) byte.1 is))
lone_again stop x y z w plain here (inr byte) false is said = step_one stop y (x ∷ w) byte.1 is
    ∙ omega (arith, stop_here stop x w plain here)

again_by : (stop : Stop) (x y y2 : ℕ) (a z w : List ℕ) → ((y == 92) ≡ true) × (y ≡ 92) ⊎ ((y == 92) ≡ false)
    × (y ≢ 92) → (b : Bool) → stops stop y ≡ b
    → (untaken stop (a ++ x ∷ z) ≡ length a → untaken stop (a ++ x ∷ w) ≡ length a)
    → (untaken stop (y2 ∷ (a ++ x ∷ z)) ≡ suc (length a) → untaken stop (y2 ∷ (a ++ x ∷ w)) ≡ suc (length a))
    → untaken stop (y ∷ y2 ∷ (a ++ x ∷ z)) ≡ suc (suc (length a))
    → untaken stop (y ∷ y2 ∷ (a ++ x ∷ w)) ≡ suc (suc (length a))
again_by stop x y y2 a z w (inl back) b is one two said =
    let was = ap (λ k. untaken stop (k ∷ y2 ∷ (a ++ x ∷ z))) back.1 ∙ step_two stop y2 (a ++ x ∷ z) in
    let now = ap (λ k. untaken stop (k ∷ y2 ∷ (a ++ x ∷ w))) back.1 ∙ step_two stop y2 (a ++ x ∷ w) in
    let more = one (omega (arith, said, was)) in omega (arith, now, more)
again_by stop x y y2 a z w (inr byte) true is one two said =
    absurd (omega (arith, said, stop_here stop y (y2 ∷ (a ++ x ∷ z)) byte.1 is))
again_by stop x y y2 a z w (inr byte) false is one two said =
    let was = step_one stop y (y2 ∷ (a ++ x ∷ z)) byte.1 is in
    let now = step_one stop y (y2 ∷ (a ++ x ∷ w)) byte.1 is in
    let more = two (omega (arith, said, was)) in omega (arith, now, more)

-- what follows the first stop doesn't count
untaken_again : (stop : Stop) (a : List ℕ) (x : ℕ) (z w : List ℕ) → x ≢ 92 → stops stop x ≡ true
    → untaken stop (a ++ x ∷ z) ≡ length a
    → untaken stop (a ++ x ∷ w) ≡ length a
untaken_again stop [] x z w plain here said = stop_here stop x w plain here
untaken_again stop (y ∷ []) x z w plain here said = lone_again stop x y z w plain
    here (eqb_tells y 92) (stops stop y) refl said
untaken_again stop (y ∷ y2 ∷ a) x z w plain here said =
    again_by stop x y y2 a z w (eqb_tells y 92) (stops stop y) refl
    (untaken_again stop a x z w plain here) (untaken_again stop (y2 ∷ a) x z w plain here) said

colon_by : (rest : List ℕ) (n : ℕ) (tail : List ℕ) → drop n rest ≡ tail → BeginsWith Colon tail → n < length rest
    → rest ≡ take n rest ++ 58 ∷ drop (n + 1) rest
colon_by rest n [] is stands inside = absurd (omega (arith, ap (length {A = ℕ}) is, length-drop n rest))
colon_by rest n (x ∷ tail) is stands inside =
    let colon : x ≡ 58 = eqb-true x 58 stands in
    let after : drop (n + 1) rest ≡ tail = sym (drop-drop 1 n rest) ∙ ap (λ d. drop 1 d) is in
    sym (take-append-drop n rest) ∙ (ap (λ r. take n rest ++ r) is ∙ rw (colon, after) refl)

-- the colon after a name
pub colon_there : (rest : List ℕ) (n : ℕ) → n ≡ untaken Colon rest → n < length rest
    → rest ≡ take n rest ++ 58 ∷ drop (n + 1) rest
colon_there rest n is inside =
    colon_by rest n (drop n rest) refl
    (subst (λ k. BeginsWith Colon (drop k rest)) (sym is) (stop_after Colon rest)) inside

no_backslash58 : (x : ℕ) → x ≡ 58 → x ≢ 92
no_backslash58 x is e = omega arith

-- the name's length doesn't depend on what follows its colon
same_end : (rest : List ℕ) (n : ℕ) (more : List ℕ) → n ≡ untaken Colon rest → n < length rest
    → untaken Colon (take n rest ++ 58 ∷ more) ≡ n
same_end rest n more is inside =
    let long : length (take n rest) ≡ n = omega (arith, length-take n rest) in
    let was : untaken Colon (take n rest ++ 58 ∷ drop (n + 1) rest) ≡ length (take n rest) =
    ap (untaken Colon) (sym (colon_there rest n is inside)) ∙ (sym is ∙ sym long) in
    untaken_again Colon (take n rest) 58 (drop (n + 1) rest) more (no_backslash58 58 refl) refl was ∙ long

pub ends_at : (name r : List ℕ) (field : Field) → IsField name field → untaken Colon (name ++ 58 ∷ r) ≡ length name
ends_at name r field is = field_end Colon colon_ends name (58 ∷ r) field refl is

pub taken_again : (rest : List ℕ) (n : ℕ) → n ≡ untaken Colon rest → n < length rest
    → take (n + 1) rest ≡ take n rest ++ 58 ∷ []
taken_again rest n is inside =
    let long : n + 1 ≡ length (take n rest ++ 58 ∷ []) =
    omega (arith, length-take n rest, length-append (take n rest) (58 ∷ [])) in
    let whole : rest ≡ (take n rest ++ 58 ∷ []) ++ drop (n + 1) rest =
    colon_there rest n is inside ∙ sym (append_assoc (take n rest) (58 ∷ []) (drop (n + 1) rest)) in
    ap (take (n + 1)) whole ∙ (ap (λ k. take k ((take n rest ++ 58 ∷ []) ++ drop (n + 1) rest)) long
    ∙ take-append_seam (take n rest ++ 58 ∷ []) (drop (n + 1) rest))

pub name_leads : (N : Bool → List ℕ → Type 0) (rest : List ℕ) (n : ℕ) (field : Field) → n ≡ untaken Colon rest
    → n < length rest → IsField (take n rest) field
    → Leads (Name N) N (take (n + 1) rest) (drop (n + 1) rest)
name_leads N rest n field is inside named =
    let bytes = taken_again rest n is inside in
    let on : (more : List ℕ) → take (n + 1) rest ++ more ≡ take n rest ++ 58 ∷ more =
    (λ more. ap (λ t. t ++ more) bytes ∙ append_assoc (take n rest) (58 ∷ []) more) in
    record {
      forth = λ strict more said. (take n rest, more, field, on more, named, said);
      back = λ strict more same (name, r, other, are, also, said).
          let whole : take n rest ++ 58 ∷ more ≡ name ++ 58 ∷ r = sym (on more) ∙ are in
          let far : length name ≡ n = sym (ends_at name r other also)
          ∙ (ap (untaken Colon) (sym whole) ∙ same_end rest n more is inside) in
          let parts = longer name (58 ∷ r) (take n rest) (58 ∷ more) (sym whole)
          (omega (arith, far, length-take n rest)) in
          let none : parts.0 ≡ [] = no_length parts.0
          (omega (arith, far, length-take n rest, ap (length {A = ℕ}) parts.1, length-append name parts.0)) in
          let tail : 58 ∷ r ≡ 58 ∷ more = parts.2 ∙ ap (λ p. p ++ 58 ∷ more) none in
          let rests : r ≡ more = cc in
          subst (N strict) rests said;
    }
  where
    no_length : (list : List ℕ) → length list ≡ 0 → list ≡ []
    no_length [] said = refl
    no_length (x ∷ list) said = absurd (omega arith)

-- a text whose name isn't a field breaks where the name does
colon_after : (N : Bool → List ℕ → Type 0) (rest : List ℕ) → length rest ≤ untaken Colon rest → Name N false rest → ⊥
colon_after N rest over (name, r, field, are, is, said) =
    let far = ap (untaken Colon) are
    ∙ ends_at name r field is in omega (arith, far, ap (length {A = ℕ}) are, length-append name (58 ∷ r))

-- the name ends before the place
name_before : (rest name r more : List ℕ) (p : ℕ) (field : Field) → p ≤ length rest
    → take p rest ++ more ≡ name ++ 58 ∷ r → IsField name field → length name < p
    → (untaken Colon rest ≡ length name) × (take (length name) rest ≡ name)
name_before rest name r more p field within are is before =
    let long : length (take p rest) ≡ p = omega (arith, length-take p rest) in
    let parts = longer name (58 ∷ r) (take p rest) more (sym are) (omega (arith, long)) in
    by_more parts.0 parts.1 parts.2 (omega (arith, ap (length {A = ℕ}) parts.1, length-append name parts.0, long))
  where
    by_more : (m : List ℕ) → take p rest ≡ name ++ m → 58 ∷ r ≡ m ++ more → 0 < length m
        → (untaken Colon rest ≡ length name) × (take (length name) rest ≡ name)
    by_more [] one two some = absurd (omega arith)
    by_more (x ∷ m) one two some =
        let colon : x ≡ 58 = cc in
        let whole : rest ≡ name ++ 58 ∷ (m ++ drop p rest) =
        sym (take-append-drop p rest) ∙
        (ap (λ t. t ++ drop p rest) (one ∙ ap (λ y. name ++ y ∷ m) colon)
        ∙ append_assoc name (58 ∷ m) (drop p rest)) in (
          ap (untaken Colon) whole ∙ ends_at name (m ++ drop p rest) field is,
          ap (take (length name)) whole ∙ take-append_seam name (58 ∷ (m ++ drop p rest)),
        )

-- the name goes on past the place
name_past : (rest : List ℕ) (n : ℕ) (name m r : List ℕ) (field : Field) → n ≡ untaken Colon rest → n < length rest
    → name ≡ take (n + 1) rest ++ m → IsField name field → ⊥
name_past rest n name m r field is inside are named =
    let whole : name ++ 58 ∷ r ≡ take n rest ++ 58 ∷ (m ++ 58 ∷ r) =
    ap (λ t. t ++ 58 ∷ r) (are ∙ ap (λ t. t ++ m) (taken_again rest n is inside))
    ∙ (append_assoc (take n rest ++ 58 ∷ []) m (58 ∷ r) ∙ append_assoc (take n rest) (58 ∷ []) (m ++ 58 ∷ r)) in
    let far : length name ≡ n = sym (ends_at name r field named)
    ∙ (ap (untaken Colon) whole ∙ same_end rest n (m ++ 58 ∷ r) is inside) in
    omega (arith, far, ap (length {A = ℕ}) are, length-append (take (n + 1) rest) m, length-take (n + 1) rest)

pub name_breaks : (N : Bool → List ℕ → Type 0) → Live N → (rest : List ℕ) (n place : ℕ) → n ≡ untaken Colon rest
    → n ≤ length rest
    → BreaksAt NamesField (take n rest) place → BreaksOff (Name N) rest place
name_breaks N live rest n place is fits b =
    let long : length (take n rest) ≡ n = omega (arith, length-take n rest) in
    let low : place ≤ n = omega (arith, b.within, long) in
    let begins = b.begins in
    let taken : take place (take n rest) ≡ take place rest = take-take place n rest low in
    record {
      within = omega arith;
      begins = (
        begins.0 ++ 58 ∷ live.0,
        (
          take place rest ++ begins.0,
          live.0,
          begins.1.0,
          sym (append_assoc (take place rest) begins.0 (58 ∷ live.0)),
          subst (λ t. IsField (t ++ begins.0) begins.1.0) taken begins.1.1,
          live.1,
        ),
      );
      ends = λ inside more (name, r, field, are, named, said).
          by_length inside more name r field are named (cases_lt (length name) (place + 1));
      short = λ whole said. colon_after N rest (omega arith) said;
    }
  where
    by_length : place < length rest → (more name r : List ℕ) (field : Field)
        → take (place + 1) rest ++ more ≡ name ++ 58 ∷ r → IsField name field
        → (length name < place + 1) ⊎ (place + 1 ≤ length name) → ⊥
    by_length inside more name r field are named (inl before) =
        let long : length (take n rest) ≡ n = omega (arith, length-take n rest) in
        let parts = name_before rest name r more (place + 1) field (omega arith) are named before in
        let far : length name ≡ n = sym parts.0 ∙ sym is in
        let whole : place ≡ length (take n rest) = omega (arith, long, far, b.within) in
        b.short whole (field, subst (λ t. IsField t field) (sym parts.1 ∙ ap (λ k. take k rest) far) named)
    by_length inside more name r field are named (inr past) =
        let long : length (take n rest) ≡ n = omega (arith, length-take n rest) in
        let parts = longer (take (place + 1) rest) more name (58 ∷ r) are
        (omega (arith, length-take (place + 1) rest)) in
        by_place parts.0 parts.1 (cases_lt place n)
      where
        by_place : (m : List ℕ) → name ≡ take (place + 1) rest ++ m → (place < n) ⊎ (n ≤ place) → ⊥
        by_place m one (inl low) =
            let long : length (take n rest) ≡ n = omega (arith, length-take n rest) in
            let again : take (place + 1) (take n rest) ≡ take (place + 1) rest =
            take-take (place + 1) n rest (omega arith) in
            b.ends (omega (arith, long)) m (
              field,
              subst (λ t. IsField t field)
                  (one ∙ ap (λ t. t ++ m) (sym again)) named,
            )
        by_place m one (inr over) =
            let long : length (take n rest) ≡ n = omega (arith, length-take n rest) in
            let same : place ≡ n = omega (arith, b.within, long) in
            name_past rest n name m r field is (omega arith) (one ∙ ap (λ k. take (k + 1) rest ++ m) same) named

-- a field with no colon after it
pub no_colon : (N : Bool → List ℕ → Type 0) → Live N → (rest : List ℕ) (n : ℕ) (field : Field)
    → n ≡ untaken Colon rest → n ≡ length rest → IsField (take n rest) field
    → BreaksOff (Name N) rest n
no_colon N live rest n field is end named = record {
  within = omega arith;
  begins = (58 ∷ live.0, (take n rest, live.0, field, refl, named, live.1));
  ends = λ inside. absurd (omega arith);
  short = λ whole said. colon_after N rest (omega arith) said;
}
