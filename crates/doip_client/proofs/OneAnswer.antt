-- One input has one answer.
use Rattle.std.proofs.Common.{◌≡◌, ℕ, ◌+◌, ◌⊎◌, inl, inr, List, [], ◌++◌, length, take, Result, Ok, Err, refl, sym, ap, ap₂, ◌∙◌, subst, append-nil}
use Rattle.std.proofs.Math.Seq.{take-append_seam}
use Rattle.doip_segment.specs.declared.outcome.Limits.{Limits}
use Rattle.doip_segment.specs.declared.outcome.Reason.{Reason}
use Rattle.doip_segment.specs.Segments.{Segment}
use Rattle.doip_segment.specs.Framing.{NothingSpelt, Broken, IsUnfinished, saturated}
use Rattle.doip_segment.proofs.LawLemmas.{one_prefix, one_broken}
use Rattle.doip_message.specs.Reply.{Replied}
use Rattle.doip_client.specs.declared.fault.ClientFault.{ClientFault}
use Rattle.doip_client.specs.declared.fault.ClientFault.TheVariants.{WriteFault, ReadFault, Cut, Framing, BadResponse, OtherId, Memory}
use Rattle.doip_client.specs.Exchange.{Exchange, Answers, Outcome, IsLastPlace, IsFaultless, ReadOneInput, answered}

abbrev framing_fault : ℕ → Reason → Result Replied ClientFault
framing_fault place reason = Err (Framing place reason)

abbrev cut_fault : ℕ → Result Replied ClientFault
cut_fault place = Err (Cut place)

-- the bytes break first
record Breaks (limits : Limits) (x : Exchange) (r : Result Replied ClientFault) : Type 0 where
  place : ℕ
  reason : Reason
  is : r ≡ framing_fault place reason
  broken : Broken limits (x.took ++ x.after) (length x.took) reason
  unspelt : NothingSpelt limits (x.took ++ x.after)
  last : IsLastPlace x place

-- the bytes end first
record Ends (limits : Limits) (x : Exchange) (r : Result Replied ClientFault) : Type 0 where
  place : ℕ
  is : r ≡ cut_fault place
  unfinished : IsUnfinished limits x.took
  nothing : x.after ≡ []
  last : IsLastPlace x place

-- what the bytes begin with
abbrev Found : Limits → Exchange → Result Replied ClientFault → Type 0
Found limits x r = Answers limits x r ⊎ (Breaks limits x r ⊎ Ends limits x r)

found : (limits : Limits) (x : Exchange) (r : Result Replied ClientFault) → Outcome limits x r → IsFaultless r
    → Found limits x r
found limits x (Ok p) h f = inl h.1
found limits x (Err WriteFault) h f = absurd f
found limits x (Err ReadFault) h f = absurd f
found limits x (Err (Cut place)) h f =
    inr (inr (record { place = place; is = refl; unfinished = h.1; nothing = h.2; last = h.3 }))
found limits x (Err (Framing place reason)) h f =
    inr (inl (record { place = place; reason = reason; is = refl; broken = h.1; unspelt = h.2; last = h.3 }))
found limits x (Err (BadResponse why)) h f = inl h.1
found limits x (Err (OtherId sent came)) h f = inl h.1
found limits x (Err Memory) h f = absurd f

-- all that there was to read was taken
all_taken : (x : Exchange) → x.after ≡ [] → x.took ≡ x.took ++ x.after
all_taken x nothing = sym (ap (λ (w : List ℕ). x.took ++ w) nothing ∙ append-nil x.took)

-- prefixes of one list, equally long
same_prefix : (a b c d : List ℕ) → a ++ b ≡ c ++ d → length a ≡ length c → a ≡ c
same_prefix a b c d same long =
    sym (take-append_seam a b) ∙ (ap (λ (w : List ℕ). take (length a) w) same
    ∙ (ap (λ (n : ℕ). take n (c ++ d)) long ∙ take-append_seam c d))

same_place : (x y : Exchange) (p q : ℕ) → IsLastPlace x p → IsLastPlace y q → x.before ≡ y.before
    → length x.took ≡ length y.took → p ≡ q
same_place x y p q first second before long =
    first ∙ (ap₂ (λ (n m : ℕ). saturated (n + m)) before long ∙ sym second)

one_found : (limits : Limits) (x y : Exchange) (r s : Result Replied ClientFault) → x.sent ≡ y.sent
    → x.before ≡ y.before → x.took ++ x.after ≡ y.took ++ y.after → Found limits x r → Found limits y s
    → (r ≡ s) × (x.took ≡ y.took)
one_found limits x y r s sent before input (inl a) (inl b) =
    let same = one_prefix x.took x.after y.took y.after a.0 b.0 input a.1.spelling b.1.spelling in (
      sym a.2 ∙ (ap₂ answered sent same.1 ∙ b.2),
      same.0,
    )
one_found limits x y r s sent before input (inl a) (inr (inl b)) =
    absurd (b.unspelt x.took x.after a.0 (sym input) a.1)
one_found limits x y r s sent before input (inl a) (inr (inr b)) =
    absurd (b.unfinished.unspelt x.took x.after a.0 (all_taken y b.nothing ∙ sym input) a.1)
one_found limits x y r s sent before input (inr (inl a)) (inl b) =
    absurd (a.unspelt y.took y.after b.0 input b.1)
one_found limits x y r s sent before input (inr (inl a)) (inr (inl b)) =
    let one = one_broken limits (y.took ++ y.after) (length x.took) (length y.took) a.reason b.reason
    (subst (λ (w : List ℕ). Broken limits w (length x.took) a.reason) input a.broken) b.broken in
    let place = same_place x y a.place b.place a.last b.last before one.0 in (
      a.is ∙ (ap₂ framing_fault place one.1 ∙ sym b.is),
      same_prefix x.took x.after y.took y.after input one.0,
    )
one_found limits x y r s sent before input (inr (inl a)) (inr (inr b)) =
    absurd (b.unfinished.unbroken (length x.took) a.reason
    (subst (λ (w : List ℕ). Broken limits w (length x.took) a.reason) (input ∙ sym (all_taken y b.nothing)) a.broken))
one_found limits x y r s sent before input (inr (inr a)) (inl b) =
    absurd (a.unfinished.unspelt y.took y.after b.0 (all_taken x a.nothing ∙ input) b.1)
one_found limits x y r s sent before input (inr (inr a)) (inr (inl b)) =
    absurd (a.unfinished.unbroken (length y.took) b.reason
    (subst (λ (w : List ℕ). Broken limits w (length y.took) b.reason) (sym input ∙ sym (all_taken x a.nothing)) b.broken))
one_found limits x y r s sent before input (inr (inr a)) (inr (inr b)) =
    let took = all_taken x a.nothing ∙ (input ∙ sym (all_taken y b.nothing)) in
    let place = same_place x y a.place b.place a.last b.last before (ap (λ (w : List ℕ). length w) took) in (
      a.is ∙ (ap cut_fault place ∙ sym b.is),
      took,
    )

pub one_answer : (limits : Limits) (one other : Exchange) (first second : Result Replied ClientFault)
    → ReadOneInput limits one other first second → (first ≡ second) × (one.took ≡ other.took)
one_answer limits one other first second h =
    one_found limits one other first second h.sent h.before h.input
    (found limits one first h.first_outcome h.first_faultless)
    (found limits other second h.second_outcome h.second_faultless)
