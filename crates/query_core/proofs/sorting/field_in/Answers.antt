use Rattle.std.proofs.Common.{rules}
use Rattle.dobj_field.specs.Field.{NamesField}
use Rattle.query_core.proofs.SortingLemmas.{breaks_refuses}
use Rattle.query_core.proofs.sorting.field_in.Goals as goal

pub returns-in-Err-At-clause-refused : goal.returns-in-Err-At-clause-refused
returns-in-Err-At-clause-refused c is named =
    let read = rw c.unwrap.ensures at c.from_utf8.ensures.cases in
    breaks_refuses NamesField c.unwrap.result.now c.in-Err-At.field-0-0
    (c.in-Err-At.ensures.place c.in-Err-At.field-0-0 (search rules))
    (rw read.0 named)
