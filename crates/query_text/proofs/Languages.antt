-- Languages one after another, and faults in them.
use Rattle.std.proofs.Common.{◌≡◌, ℕ, ℤ, suc, ◌+◌, ◌<◌, ◌≤◌, inl, inr, Bool, true, false, List, [], ◌∷◌, ◌++◌, length, take, drop, refl, sym, ap, ◌∙◌, subst, arith, append_assoc, length-append}
use Rattle.std.proofs.Math.Seq.{take-append-add, drop-append_seam, take-add}
use Rattle.std.proofs.lemmas.List.{drop-drop, take-append-drop, length-take}
use Rattle.query_text.specs.Spelling.{IsNumeral}
use Rattle.query_text.specs.Faults.{BreaksOff, PastRange, IsFault}
use Rattle.query_text.specs.Stages.{first, Leads}

pub same_first : (bytes more rest : List ℕ) → first more ≡ first rest → first (bytes ++ more) ≡ first (bytes ++ rest)
same_first [] more rest same = same
same_first (x ∷ bytes) more rest same = refl

pub lead_on : (L M N : Bool → List ℕ → Type 0) (one two rest : List ℕ) → Leads L M one (two ++ rest)
    → Leads M N two rest
    → Leads L N (one ++ two) rest
lead_on L M N one two rest a b = record {
  forth = λ strict more said. subst (L strict) (sym (append_assoc one two more))
      (a.forth strict (two ++ more) (b.forth strict more said));
  back = λ strict more same said. b.back strict more same
      (a.back strict (two ++ more) (same_first two more rest same) (subst (L strict) (append_assoc one two more) said));
}

pub lead_none : (L : Bool → List ℕ → Type 0) (rest : List ℕ) → Leads L L [] rest
lead_none L rest = record { forth = λ strict more said. said; back = λ strict more same said. said }

pub first_taken : (rest more : List ℕ) (k : ℕ) → k < length rest → first (take (k + 1) rest ++ more) ≡ first rest
first_taken [] more k inside = absurd (omega arith)
first_taken (x ∷ rest) more k inside = let one : k + 1 ≡ suc k = omega arith in rw one refl

-- a numeral has a byte
numeral_first : (numeral : List ℕ) (number : ℤ) (more rest : List ℕ) → IsNumeral numeral number
    → first (numeral ++ more) ≡ first (numeral ++ rest)
numeral_first [] number more rest (digits, are, inl is) = absurd (are.0 (sym is.0))
numeral_first [] number more rest (digits, are, inr is) = cc
numeral_first (x ∷ numeral) number more rest is = refl

pub breaks_on : (L N : Bool → List ℕ → Type 0) (bytes rest : List ℕ) (k : ℕ) → Leads L N bytes rest → BreaksOff N rest k
    → BreaksOff L (bytes ++ rest) (length bytes + k)
breaks_on L N bytes rest k a b =
    let long = length-append bytes rest in
    let one : length bytes + k + 1 ≡ length bytes + (k + 1) = omega arith in
    let on : (n : ℕ) (more : List ℕ)
    → take (length bytes + n) (bytes ++ rest) ++ more ≡ bytes ++ (take n rest ++ more) =
    (λ n more. ap (λ t. t ++ more) (take-append-add bytes rest n) ∙ append_assoc bytes (take n rest) more) in
    record {
      within = omega (arith, b.within);
      begins = (
        b.begins.0,
        subst (L true) (sym (on k b.begins.0))
            (a.forth true (take k rest ++ b.begins.0) b.begins.1),
      );
      ends = λ inside more said. b.ends (omega arith) more
          (a.back false (take (k + 1) rest ++ more) (first_taken rest more k (omega arith))
          (subst (L false) (ap (λ n. take n (bytes ++ rest) ++ more) one ∙ on (k + 1) more) said));
      short = λ whole said. b.short (omega arith) (a.back false rest refl said);
    }

pub past_on : (L N : Bool → List ℕ → Type 0) (bytes rest : List ℕ) (k : ℕ) → Leads L N bytes rest → PastRange N rest k
    → PastRange L (bytes ++ rest) (length bytes + k)
past_on L N bytes rest k a p =
    let on : (more : List ℕ) → take (length bytes + k) (bytes ++ rest) ++ more ≡ bytes ++ (take k rest ++ more) =
    (λ more. ap (λ t. t ++ more) (take-append-add bytes rest k) ∙ append_assoc bytes (take k rest) more) in
    record {
      numeral = p.numeral;
      number = p.number;
      rest = p.rest;
      here = sym (drop-drop k (length bytes) (bytes ++ rest)) ∙ (ap (drop k) (drop-append_seam bytes rest) ∙ p.here);
      is = p.is;
      past = p.past;
      begins = (
        p.begins.0,
        subst (L true) (sym (on (45 ∷ p.begins.0)))
            (a.forth true (take k rest ++ 45 ∷ p.begins.0) p.begins.1),
      );
      reads = (
        p.reads.0,
        subst (L false) (sym (on (p.numeral ++ p.reads.0)))
            (a.forth false (take k rest ++ (p.numeral ++ p.reads.0)) p.reads.1),
      );
      never = λ more said. p.never more (a.back true (take k rest ++ (p.numeral ++ more))
          (same_first (take k rest) (p.numeral ++ more) (p.numeral ++ p.rest)
          (numeral_first p.numeral p.number more p.rest p.is)
          ∙ (ap (λ d. first (take k rest ++ d)) (sym p.here) ∙ ap first (take-append-drop k rest)))
          (subst (L true) (on (p.numeral ++ more)) said));
    }

pub fault_on : (L N : Bool → List ℕ → Type 0) (bytes rest : List ℕ) (k : ℕ) → Leads L N bytes rest → IsFault N rest k
    → IsFault L (bytes ++ rest) (length bytes + k)
fault_on L N bytes rest k a (inl b) = inl (breaks_on L N bytes rest k a b)
fault_on L N bytes rest k a (inr p) = inr (past_on L N bytes rest k a p)

-- where a language goes on as another from the start
pub breaks_as : (L N : Bool → List ℕ → Type 0) (rest : List ℕ) (k : ℕ) → Leads L N [] rest → BreaksOff N rest k
    → BreaksOff L rest k
breaks_as L N rest k a b = let none : length {A = ℕ} [] + k ≡ k = omega arith in
    subst (BreaksOff L rest) none (breaks_on L N [] rest k a b)

pub past_as : (L N : Bool → List ℕ → Type 0) (rest : List ℕ) (k : ℕ) → Leads L N [] rest → PastRange N rest k
    → PastRange L rest k
past_as L N rest k a p = let none : length {A = ℕ} [] + k ≡ k = omega arith in
    subst (PastRange L rest) none (past_on L N [] rest k a p)

-- from a place of a text on
pub stage_on : (L X Y : Bool → List ℕ → Type 0) (text : List ℕ) (at n : ℕ) → Leads L X (take at text) (drop at text)
    → Leads X Y (take n (drop at text)) (drop n (drop at text)) → Leads L Y (take (at + n) text) (drop (at + n) text)
stage_on L X Y text at n a b =
    let rest = drop at text in
    let joined = lead_on L X Y (take at text) (take n rest) (drop n rest)
    (subst (Leads L X (take at text)) (sym (take-append-drop n rest)) a) b in
    subst (Leads L Y (take (at + n) text)) (drop-drop n at text)
    (subst (λ t. Leads L Y t (drop n rest)) (sym (take-add at n text)) joined)

pub stage_fault : (L X : Bool → List ℕ → Type 0) (text : List ℕ) (at k : ℕ) → at ≤ length text
    → Leads L X (take at text) (drop at text)
    → IsFault X (drop at text) k → IsFault L text (at + k)
stage_fault L X text at k fits a fault =
    let far : length (take at text) ≡ at = omega (arith, length-take at text) in
    subst (λ n. IsFault L text (n + k)) far
    (subst (λ t. IsFault L t (length (take at text) + k)) (take-append-drop at text)
    (fault_on L X (take at text) (drop at text) k a fault))
