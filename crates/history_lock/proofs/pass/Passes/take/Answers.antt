use Rattle.std.proofs.Common.{◌≡◌, [], ◌∷◌, ◌++◌, Option, Some, None, IfSome, length, slice_get, option_to_list, refl, ap, ◌∙◌, arith}
use Rattle.history_lock.specs.Passes.{taken_of}
use Rattle.history_lock.proofs.Lists.{get_longer, get_last}
use Rattle.history_lock.proofs.pass.Passes.take.Goals as goal

where_some : {A : Type 0} (o : Option A) (P : A → Type 0) → ((x : A) → o ≡ Some x → P x) → IfSome o P
where_some None P f = tt
where_some (Some x) P f = f x refl

pub invariant_of-self : goal.invariant_of-self
invariant_of-self g c = let room = c.args.self.now.room in let len = c.pop.ensures.len in record {
  room = omega arith;
  dealt = λ k p at. c.args.self.now.dealt k p (ap (λ xs. slice_get xs k) c.pop.ensures.items ∙ get_longer c.pop.new.self.items _ p k at);
}

pub returns-clause-of_lock : goal.returns-clause-of_lock
returns-clause-of_lock g c = where_some c.pop.result _ (λ p is.
    let items = c.pop.ensures.items ∙ ap (λ o. c.pop.new.self.items ++ option_to_list o) is in
    let facts = c.args.self.now.dealt (length c.pop.new.self.items) p (ap (λ xs. slice_get xs (length c.pop.new.self.items)) items ∙ get_last c.pop.new.self.items p) in
    λ i. (facts.0 i, facts.1 i))

pub returns-clause-unseen : goal.returns-clause-unseen
returns-clause-unseen g c = where_some c.pop.result _ (λ p is.
    let items = c.pop.ensures.items ∙ ap (λ o. c.pop.new.self.items ++ option_to_list o) is in
    let facts = c.args.self.now.dealt (length c.pop.new.self.items) p (ap (λ xs. slice_get xs (length c.pop.new.self.items)) items ∙ get_last c.pop.new.self.items p) in
    facts.2)

pub returns-clause-alone : goal.returns-clause-alone
returns-clause-alone g c = where_some c.pop.result _ (λ p is.
    let items = c.pop.ensures.items ∙ ap (λ o. c.pop.new.self.items ++ option_to_list o) is in
    let facts = c.args.self.now.dealt (length c.pop.new.self.items) p (ap (λ xs. slice_get xs (length c.pop.new.self.items)) items ∙ get_last c.pop.new.self.items p) in
    let len = c.pop.ensures.len in let one : length (option_to_list c.pop.result) ≡ 1 = ap (λ o. length (option_to_list o)) is in
    let long = c.pop.new.self.ok.0 in let place = facts.4 in let number : p.number ≡ taken_of c.args.self.now = omega arith in
    facts.3 ∙ ap (λ n. (record { number = n; own = [] }) ∷ []) number)
