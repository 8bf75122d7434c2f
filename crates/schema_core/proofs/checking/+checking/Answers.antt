use Rattle.std.proofs.Common.{sym, ap, ◌∙◌, subst, arith}
use Rattle.std.proofs.lemmas.Result.{err_from_is_err_and}
use Rattle.doip_json.specs.Meaning.{value_of}
use Rattle.doip_json.proofs.Lists.{entry_depth}
use Rattle.schema_core.specs.Reading.{fault_at, IsFaultOf}
use Rattle.schema_core.proofs.ReadingLemmas.{next_entry, value_next, first_goes_on, first_stops, schemas_go_on, schemas_stop}
use Rattle.schema_core.proofs.checking.+checking.Goals as goal

pub check_keys-check_key-requires : goal.check_keys-check_key-requires
check_keys-check_key-requires t c = (omega (arith, entry_depth c.args.map.now c.loop-i.i (value_of c.value_at.result.now) c.value_at.ensures), tt)

pub check_keys-returns-in_err-check_key-clause-err : goal.check_keys-returns-in_err-check_key-clause-err
check_keys-returns-in_err-check_key-clause-err t c =
    let es = c.args.map.now in
    let v = value_of c.value_at.result.now in
    let next = next_entry es c.loop-i.i c.key_at.result.now v c.key_at.ensures c.value_at.ensures in
    let p = err_from_is_err_and c.from_residual.result c.from_residual.ensures.1 in
    rw (p.1, p.2) (first_stops es c.loop-i.i c.key_at.result.now v next c.in_err-check_key.field-0.0 c.loop-i.invariant
    (subst (λ k. IsFaultOf (fault_at k v) c.in_err-check_key.field-0.0) c.get.ensures.text c.in_err-check_key.ensures.err))

pub check_keys-loop-i-preserved : goal.check_keys-loop-i-preserved
check_keys-loop-i-preserved t c =
    let es = c.args.map.now in
    let v = value_of c.value_at.result.now in
    let next = next_entry es c.loop-i.i c.key_at.result.now v c.key_at.ensures c.value_at.ensures in
    first_goes_on es c.loop-i.i c.key_at.result.now v next c.loop-i.invariant
    (ap (λ k. fault_at k v) (sym c.get.ensures.text) ∙ c.in_ok-check_key.ensures.ok)

pub check_schemas-check-requires : goal.check_schemas-check-requires
check_schemas-check-requires t c = (omega (arith, entry_depth c.args.map.now c.loop-i.i (value_of c.value_at.result.now) c.value_at.ensures), tt)

pub check_schemas-returns-in_err-check-clause-err : goal.check_schemas-returns-in_err-check-clause-err
check_schemas-returns-in_err-check-clause-err t c =
    let es = c.args.map.now in
    let v = value_of c.value_at.result.now in
    let next = value_next es c.loop-i.i v c.value_at.ensures in
    let p = err_from_is_err_and c.from_residual.result c.from_residual.ensures.1 in
    rw (p.1, p.2) (schemas_stop es c.loop-i.i next.0 v next.1 c.in_err-check.field-0.0 c.loop-i.invariant c.in_err-check.ensures.err)

pub check_schemas-loop-i-preserved : goal.check_schemas-loop-i-preserved
check_schemas-loop-i-preserved t c =
    let es = c.args.map.now in
    let v = value_of c.value_at.result.now in
    let next = value_next es c.loop-i.i v c.value_at.ensures in
    schemas_go_on es c.loop-i.i next.0 v next.1 c.loop-i.invariant c.in_ok-check.ensures.ok
