-- What a write that a crash cuts short makes of what another one left.
use Rattle.std.proofs.Common.{◌≡◌, ℕ, ◌+◌, ◌-◌, ◌≤◌, min, List, length, take, drop, sym, ◌∙◌, ap, arith}
use Rattle.std.proofs.lemmas.List.{take_min, take-take, drop-drop}
use Rattle.disk_core.specs.Disk.{Torn}

-- torn in a part of the range, torn in the range
pub torn_inside : (place n at size : ℕ) (old new : List ℕ) → place ≤ at → at + size ≤ place + n → Torn at size old new → Torn place n old new
torn_inside place n at size old new low high torn = record {
  before =
      let shorter : min place (length old) ≤ min at (length old) = omega arith in
      sym (take-take (min place (length old)) (min at (length old)) new shorter) ∙ ap (λ (l : List ℕ). take (min place (length old)) l) torn.before
      ∙ (let less : min place (length old) ≤ at = omega arith in take-take (min place (length old)) at old less) ∙ take_min place old;
  after =
      let sum : (at + size) + ((place + n) - (at + size)) ≡ place + n = omega arith in
      ap (λ (k : ℕ). drop k new) (sym sum) ∙ sym (drop-drop ((place + n) - (at + size)) (at + size) new)
      ∙ ap (λ (l : List ℕ). drop ((place + n) - (at + size)) l) torn.after
      ∙ drop-drop ((place + n) - (at + size)) (at + size) old ∙ ap (λ (k : ℕ). drop k old) sum;
  no_shorter = torn.no_shorter;
  no_longer = omega (arith, torn.no_longer);
}

-- torn twice in one range
pub torn_then : (place n : ℕ) (a b c : List ℕ) → Torn place n a b → Torn place n b c → Torn place n a c
torn_then place n a b c first second = record {
  before =
      let shorter : min place (length a) ≤ min place (length b) = omega (arith, first.no_shorter) in
      sym (take-take (min place (length a)) (min place (length b)) c shorter) ∙ ap (λ (l : List ℕ). take (min place (length a)) l) second.before
      ∙ (let less : min place (length a) ≤ place = omega arith in take-take (min place (length a)) place b less) ∙ first.before;
  after = second.after ∙ first.after;
  no_shorter = omega (arith, first.no_shorter, second.no_shorter);
  no_longer = omega (arith, first.no_longer, second.no_longer);
}

-- torn in the range, and then in a part of it
pub torn_part : (place n at size : ℕ) → place ≤ at → at + size ≤ place + n → (a b c : List ℕ) → Torn place n a b → Torn at size b c → Torn place n a c
torn_part place n at size low high a b c first second = torn_then place n a b c first (torn_inside place n at size b c low high second)
