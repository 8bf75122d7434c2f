-- What a text reads as, step by step.
use Rattle.std.proofs.Common.{◌≡◌, ℕ, ◌<◌, ◌≤◌, List, Bool, true, false, nat_le, if◌then◌else◌, Option, Some, None, Result, Ok, Err, IsUtf8, refl, ap, ◌∙◌, arith}
use Rattle.std.proofs.lemmas.Bool.Decides.{nat_tests}
use Rattle.std.proofs.lemmas.Str.{is_utf8-from_IsUtf8, IsUtf8-from_is_utf8}
use Rattle.std.specs.Str.{is_utf8}
use Rattle.serde_json.specs.Data as parsed
use Rattle.serde_json.specs.Read.{read}
use Rattle.doip_json.specs.declared.fault.JsonFault.TheVariants as faults
use Rattle.doip_json.specs.declared.fault.TextFault.{TextFault}
use Rattle.doip_json.specs.declared.fault.TextFault.TheVariants.{NotJson, TooDeep, NotWhole}
use Rattle.doip_json.specs.Faults.{text_fault_of}
use Rattle.std.proofs.Common.{IfOk, IfErr, IfSome}
use Rattle.doip_json.specs.declared.fault.JsonFault.{JsonFault}
use Rattle.doip_json.specs.declared.value.Json.{Json}
use Rattle.doip_json.specs.Value.{Value, depth_of}
use Rattle.doip_json.proofs.Depths.{depth_of-value_in}
use Rattle.doip_json.specs.Meaning.{value_of}
use Rattle.doip_json.specs.Whole.{IsNotWhole}
use Rattle.doip_json.specs.Read.{value_in, or_fault, within_depth, if_data, reading}

pub reading_some : (bytes : List ℕ) (depth : ℕ) (d : parsed.Data) → IsUtf8 bytes → read bytes ≡ Some d → reading bytes depth ≡ within_depth depth d
reading_some bytes depth d utf8 is = ap (λ b. if_data depth (if b then read bytes else None)) (is_utf8-from_IsUtf8 bytes utf8) ∙ ap (if_data depth) is

none_if : (b : Bool) (bytes : List ℕ) (depth : ℕ) → (b ≡ true → read bytes ≡ None) → if_data depth (if b then read bytes else None) ≡ Err NotJson
none_if true bytes depth none = ap (if_data depth) (none refl)
none_if false bytes depth none = refl

pub reading_none : (bytes : List ℕ) (depth : ℕ) → (IsUtf8 bytes → read bytes ≡ None) → reading bytes depth ≡ Err NotJson
reading_none bytes depth none = none_if (is_utf8 bytes) bytes depth (λ e. none (IsUtf8-from_is_utf8 bytes e))

le_true : (a b : ℕ) → a ≤ b → nat_le a b ≡ true
le_true a b h = grind (arith, nat_tests)

le_false : (a b : ℕ) → b < a → nat_le a b ≡ false
le_false a b h = grind (arith, nat_tests)

pub within_shallow : (depth : ℕ) (d : parsed.Data) → parsed.depth d ≤ depth → within_depth depth d ≡ or_fault NotWhole (value_in d)
within_shallow depth d h = ap (λ b. if b then or_fault NotWhole (value_in d) else Err TooDeep) (le_true _ _ h)

pub within_deep : (depth : ℕ) (d : parsed.Data) → depth < parsed.depth d → within_depth depth d ≡ Err TooDeep
within_deep depth d h = ap (λ b. if b then or_fault NotWhole (value_in d) else Err TooDeep) (le_false _ _ h)

pub converted_value : (r : Result Json JsonFault) (o : Option Value) (outcome : Result Value TextFault) → outcome ≡ or_fault NotWhole o → IfOk r (λ json. o ≡ Some (value_of json)) → IfOk r (λ json. outcome ≡ Ok (value_of json))
converted_value (Ok json) o outcome is value = is ∙ ap (or_fault NotWhole) value
converted_value (Err fault) o outcome is value = tt

as_told : (fault : JsonFault) (o : Option Value) (outcome : Result Value TextFault) → outcome ≡ or_fault NotWhole o → IsNotWhole o fault → IfSome (text_fault_of fault) (λ told. outcome ≡ Err told)
as_told faults.NotJson o outcome is why = let same = (why (λ e. cc)).0 in absurd (cc)
as_told faults.TooDeep o outcome is why = let same = (why (λ e. cc)).0 in absurd (cc)
as_told faults.NotWhole o outcome is why = is ∙ ap (or_fault NotWhole) (why (λ e. cc)).1
as_told faults.Memory o outcome is why = tt

pub converted_fault : (r : Result Json JsonFault) (o : Option Value) (outcome : Result Value TextFault) → outcome ≡ or_fault NotWhole o → IfErr r (IsNotWhole o)
    → IfErr r (λ fault. IfSome (text_fault_of fault) (λ told. outcome ≡ Err told))
converted_fault (Ok json) o outcome is why = tt
converted_fault (Err fault) o outcome is why = as_told fault o outcome is why

pub converted_depth : (r : Result Json JsonFault) (d : parsed.Data) (depth : ℕ) → parsed.depth d ≤ depth → IfOk r (λ json. value_in d ≡ Some (value_of json)) → IfOk r (λ json. depth_of (value_of json) ≤ depth)
converted_depth (Ok json) d depth shallow value = let same = depth_of-value_in d (value_of json) value in omega arith
converted_depth (Err fault) d depth shallow value = tt
