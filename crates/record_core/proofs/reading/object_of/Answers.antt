use Rattle.std.proofs.Common.{◌≡◌, Err, sym, ◌∙◌, subst, arith}
use Rattle.doip_json.specs.Meaning.{value_of}
use Rattle.dobj_model.specs.Object.{IsObject}
use Rattle.record_core.specs.Fields.{fields_at}
use Rattle.record_core.proofs.Bodies.{expected, text_reads, value_is, fields_are, fields_same, are_listed, made_of, fails, value_never, fields_never, yields_never}
use Rattle.record_core.proofs.reading.object_of.Goals as goal

pub returns-in_err-json_of-clause-found : goal.returns-in_err-json_of-clause-found
returns-in_err-json_of-clause-found c = λ o kept times is bytes.
    let fault = c.in_err-json_of.field-0.0 in
    let failed : c.from_residual.result ≡ Err fault = grind arith in
    fails fault c.from_residual.result o (value_never fault c.args.shown.now _ c.in_err-json_of.ensures (text_reads c.args.format o kept times c.args.shown.now is)) failed

pub returns-in_err-fields-clause-found : goal.returns-in_err-fields-clause-found
returns-in_err-fields-clause-found c = λ o kept times is bytes.
    let fault = c.in_err-fields.field-0.0 in
    let failed : c.from_residual-in_err-fields.result ≡ Err fault = grind arith in
    let v = value_of c.in_ok-json_of.field-0 in
    let same = value_is c.args.format o kept times c.args.shown.now v is c.in_ok-json_of.ensures in
    fails fault c.from_residual-in_err-fields.result o (fields_never fault (fields_at c.args.format v) (expected o) c.in_err-fields.ensures (fields_are c.args.format o kept times v same)) failed

pub returns-in_err-elements-clause-found : goal.returns-in_err-elements-clause-found
returns-in_err-elements-clause-found c = λ o kept times is bytes.
    let fault = c.in_err-elements.field-0.0 in
    let failed : c.from_residual-in_err-elements.result ≡ Err fault = grind arith in
    let v = value_of c.in_ok-json_of.field-0 in
    let same = value_is c.args.format o kept times c.args.shown.now v is c.in_ok-json_of.ensures in
    let fields = fields_same c.args.format o kept times v c.in_ok-fields.fields same c.in_ok-fields.ensures in
    fails fault c.from_residual-in_err-elements.result o (yields_never fault o.elements (c.in_err-elements.ensures.found o.elements kept.object.elements (are_listed o c.in_ok-fields.fields c.args.payloads.now kept fields bytes))) failed

pub returns-in_default-clause-found : goal.returns-in_default-clause-found
returns-in_default-clause-found c = λ o kept times is bytes.
    let v = value_of c.in_ok-json_of.field-0 in
    let same = value_is c.args.format o kept times c.args.shown.now v is c.in_ok-json_of.ensures in
    let fields = fields_same c.args.format o kept times v c.in_ok-fields.fields same c.in_ok-fields.ensures in
    let elements = c.in_ok-elements.ensures.found o.elements kept.object.elements (are_listed o c.in_ok-fields.fields c.args.payloads.now kept fields bytes) in
    let whole = made_of o c.in_ok-fields.fields c.in_ok-elements.elements fields elements in
    c.in_default.ensures (subst IsObject (sym whole) kept.object)

pub returns-clause-found : goal.returns-clause-found
returns-clause-found c = λ o kept times is bytes.
    let v = value_of c.in_ok-json_of.field-0 in
    let same = value_is c.args.format o kept times c.args.shown.now v is c.in_ok-json_of.ensures in
    let fields = fields_same c.args.format o kept times v c.in_ok-fields.fields same c.in_ok-fields.ensures in
    let elements = c.in_ok-elements.ensures.found o.elements kept.object.elements (are_listed o c.in_ok-fields.fields c.args.payloads.now kept fields bytes) in
    c.in-Some.ensures.1 ∙ made_of o c.in_ok-fields.fields c.in_ok-elements.elements fields elements
