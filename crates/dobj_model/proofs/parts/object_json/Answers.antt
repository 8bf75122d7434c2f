use Rattle.std.proofs.Common.{◌≡◌, ◌++◌, Option, None, Some, Result, Ok, Err, ap, sym, ◌∙◌, arith}
use Rattle.std.specs.Prelude.{IfSome}
use Rattle.doip_json.specs.declared.fault.TextFault.{TextFault}
use Rattle.doip_json.specs.Faults.{text_fault_of}
use Rattle.doip_json.specs.Value.{Value}
use Rattle.doip_json.specs.Meaning.{value_of}
use Rattle.doip_json.specs.Read.{reading}
use Rattle.doip_json.specs.Text.{text_of}
use Rattle.doip_json.specs.Sound.{IsSound}
use Rattle.doip_json.proofs.ReadBack.{reading-text_of}
use Rattle.dobj_model.specs.declared.object.ObjectValue.{ObjectValue}
use Rattle.dobj_model.specs.Object.{IsObject}
use Rattle.dobj_model.specs.Shown.{shown_form}
use Rattle.dobj_model.proofs.Forms.{shown_shallow}
use Rattle.dobj_model.proofs.parts.object_json.Goals as goal

-- the text of a shown form reads back
reads : (o : ObjectValue) → IsObject o → IsSound (shown_form o)
    → reading (text_of (shown_form o)) 127 ≡ Ok (shown_form o)
reads o object sound =
    let shallow = shown_shallow o object.nests in
    reading-text_of (shown_form o) 127 sound (omega (arith, shallow)) (omega arith)

no_fault : (r : Result Value TextFault) (v : Value) (o : Option TextFault) (told : TextFault) → r ≡ Ok v
    → o ≡ Some told → IfSome o (λ fault. r ≡ Err fault) → ⊥
no_fault r v (Some fault) told back is said = absurd (let no = sym said ∙ back in cc)
no_fault r v None told back is said = absurd (cc)

pub returns-in-Ok : goal.returns-in-Ok
returns-in-Ok c =
    let o = c.args.object.now in
    let v = shown_form o in
    let bytes : c.as_slice.result.now ≡ text_of v =
    c.as_slice.ensures.value
    ∙ (c.in_ok-append_text.ensures.ok ∙ ap (λ bs. bs ++ text_of v) c.new-shown.ensures.items) in
    let back : Ok (value_of c.in-Ok.json) ≡ Ok v =
    sym c.in-Ok.ensures.value
    ∙ (ap (λ bs. reading bs 127) bytes ∙ reads o c.value.ensures.object c.value.ensures.sound) in
    let same : value_of c.in-Ok.json ≡ v = cc in same

pub unreachable-requires : goal.unreachable-requires
unreachable-requires c =
    let o = c.args.object.now in
    let v = shown_form o in
    let bytes : c.as_slice.result.now ≡ text_of v =
    c.as_slice.ensures.value
    ∙ (c.in_ok-append_text.ensures.ok ∙ ap (λ bs. bs ++ text_of v) c.new-shown.ensures.items) in
    let back : reading c.as_slice.result.now 127 ≡ Ok v =
    ap (λ bs. reading bs 127) bytes ∙ reads o c.value.ensures.object c.value.ensures.sound in
    no_fault (reading c.as_slice.result.now 127) v (text_fault_of c.in-Err.fault) c.in-Some.field-0 back
    (sym c.text_fault.ensures ∙ c.in-Some.is) c.in-Err.ensures.fault
