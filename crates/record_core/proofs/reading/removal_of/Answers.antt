use Rattle.std.proofs.Common.{length, sym, ap, subst, ◌∙◌, arith}
use Rattle.std.specs.Prelude.{IsUtf8}
use Rattle.dobj_model.specs.Name.{IsName, IsNameOf}
use Rattle.record_core.proofs.Bodies.{not_removal, short_removal, removal_parts}
use Rattle.record_core.proofs.reading.removal_of.Goals as goal

pub returns-in_default : goal.returns-in_default
returns-in_default c = not_removal c.args.format c.args.content.now (λ id name utf8 is. short_removal c.args.content.now id c.in_default.ensures.none is)

pub returns-then-name-length : goal.returns-then-name-length
returns-then-name-length c = not_removal c.args.format c.args.content.now (λ id name utf8 is.
    let parts = removal_parts c.args.content.now c.in-Some.name.now id c.in-Some.length c.in-Some.ensures.small c.in-Some.ensures.some name is in
    absurd (omega (arith, parts.0, ap length parts.1, c.if-name-length.true)))

pub returns-in_default-from_utf8 : goal.returns-in_default-from_utf8
returns-in_default-from_utf8 c = not_removal c.args.format c.args.content.now (λ id name utf8 is.
    let parts = removal_parts c.args.content.now c.in-Some.name.now id c.in-Some.length c.in-Some.ensures.small c.in-Some.ensures.some name is in
    c.in_default-from_utf8.ensures.cases.0 (subst IsUtf8 (sym parts.1) utf8))

pub returns-in-None : goal.returns-in-None
returns-in-None c = not_removal c.args.format c.args.content.now (λ id name utf8 is.
    let parts = removal_parts c.args.content.now c.in-Some.name.now id c.in-Some.length c.in-Some.ensures.small c.in-Some.ensures.some name is in
    let none = subst (IsNameOf c.in-Ok.name.now) c.in-None.is c.in_ok-id.ensures in
    none (subst IsName (sym (c.in-Ok.ensures.cases.0 ∙ parts.1)) name))
