use Rattle.std.proofs.Common.{◌≡◌, ◌↔◌, ◌+◌, ℕ, List, Bool, ◌∙◌, subst}
use Rattle.std.specs.Prelude.{Contains, IsTrue}
use Rattle.disk_core.specs.declared.calls.DiskCall.{DiskCall}
use Rattle.disk_core.specs.declared.calls.Failing.{Failing}
use Rattle.disk_core.proofs.CountLemmas.{kind_counted}
use Rattle.disk_core.proofs.calls.Log.is_listed.Goals as goal

listed_by : (xs failing : List Failing) (call : DiskCall) (m n : ℕ) (listed : Bool) → xs ≡ failing → m ≡ n
    → IsTrue listed ↔ Contains xs (record { call = call; nth = m + 1 }) → IsTrue listed ↔ Contains failing (record { call = call; nth = n + 1 })
listed_by xs failing call m n listed same count is =
    subst (λ (l : List Failing). IsTrue listed ↔ Contains l (record { call = call; nth = n + 1 })) same
    (subst (λ (k : ℕ). IsTrue listed ↔ Contains xs (record { call = call; nth = k + 1 })) count is)

pub returns : goal.returns
returns c =
    let log = c.args.self.now in
    listed_by c.deref.result.now log.failing.items c.args.call c.of.result _ c.names.result c.deref.ensures.value (c.of.ensures ∙ kind_counted c.args.call log.counts log.calls.items log.counted) c.names.ensures
