-- What bytes that are the body of a change begin with, and what is read of them.
use Rattle.std.proofs.Common.{◌≡◌, ℕ, suc, ◌<◌, ◌≤◌, ◌^◌, List, [], ◌∷◌, ◌++◌, length, map, get_or, Option, Some, None, unwrap_or, Result, Ok, Err, codes, refl, sym, ap, ◌∙◌, subst, append-nil, arith}
use Rattle.std.specs.Prelude.{IsUtf8}
use Rattle.std.specs.List.{flat_map, All, AllByRecursion}
use Rattle.std.specs.BTreeMap.{insert_entry}
use Rattle.doip_json.specs.Value.{Value, text}
use Rattle.doip_json.specs.Read.{reading}
use Rattle.doip_json.specs.declared.fault.TextFault.{TextFault}
use Rattle.doip_json.specs.Text.{text_of}
use Rattle.doip_json.proofs.Ascending.{compared}
use Rattle.doip_json.proofs.PlainLists.{entries_listed}
use Rattle.dobj_model.specs.declared.elements.Element.{Element}
use Rattle.dobj_model.specs.declared.metadata.Metadata.{Metadata}
use Rattle.dobj_model.specs.declared.object.ObjectValue.{ObjectValue}
use Rattle.dobj_model.specs.Name.{IsName}
use Rattle.dobj_model.specs.Shown.{number, element_form, metadata_form}
use Rattle.dobj_model.proofs.Forms.{form_length, total-insert}
use Rattle.dobj_model.proofs.Totals.{table_total}
use Rattle.record_core.specs.declared.change.Change.{Change}
use Rattle.record_core.specs.declared.change.Change.TheVariants.{Put, Remove, Counter}
use Rattle.record_core.specs.declared.change.RecordFault.{RecordFault}
use Rattle.record_core.specs.declared.change.RecordFault.TheVariants.{NotARecord, Memory}
use Rattle.record_core.specs.declared.fields.Fields.{Fields}
use Rattle.record_core.specs.declared.format.Format.{Format}
use Rattle.record_core.specs.declared.format.Format.TheVariants.{First, Second}
use Rattle.record_core.specs.Body.{metadata_in, form_in, payload, head, put_content}
use Rattle.record_core.specs.Cuts.{Yields, AreListed, IsValueOf}
use Rattle.record_core.specs.Fields.{fields_at, fields_in, Finds}
use Rattle.record_core.specs.Numbers.{in_two, in_eight}
use Rattle.record_core.specs.Reading.{IsBodyOf, Reads}
use Rattle.record_core.specs.Storable.{IsCounter, IsCounterIfThere, IsKept, HasTimesOf}
use Rattle.record_core.proofs.Forms.{reads_form}
use Rattle.record_core.proofs.Found.{fields_back, entries_of_form}
use Rattle.record_core.proofs.Heads.{SameHead, same_head}
use Rattle.record_core.proofs.Numbers.{length-two, length-eight, same_two, same_eight}

-- ---- kinds

pub kinds_differ : (j k : ℕ) (a b : List ℕ) → j ∷ a ≡ k ∷ b → j ≡ k
kinds_differ j k a b is = ap (λ (l : List ℕ). get_or l 0 0) is

pub same_rest : (k : ℕ) (a b : List ℕ) → k ∷ a ≡ k ∷ b → a ≡ b
same_rest k a b is = cc

module _ (format : Format) (content : List ℕ) where
  pub not_put : ((o : ObjectValue) (counter : Option ℕ) → IsKept o → HasTimesOf format o → IsCounterIfThere counter → content ≡ put_content format o counter → ⊥) → (c : Change) → IsBodyOf format (1 ∷ content) c → ⊥
  not_put none (Put o counter) body = none o counter body.change_is body.of_format body.storable (same_rest 1 content (put_content format o counter) body.is)
  not_put none (Remove id) body = let same = kinds_differ 1 2 content (in_two (length id) ++ id) body.is in absurd (omega (arith, same))
  not_put none (Counter n) body = let same = kinds_differ 1 3 content (in_eight n) body.is in absurd (omega (arith, same))

  pub not_removal : ((id : List ℕ) → IsName id → IsUtf8 id → content ≡ in_two (length id) ++ id → ⊥) → (c : Change) → IsBodyOf format (2 ∷ content) c → ⊥
  not_removal none (Put o counter) body = let same = kinds_differ 2 1 content (put_content format o counter) body.is in absurd (omega (arith, same))
  not_removal none (Remove id) body = none id body.change_is.0 body.change_is.1 (same_rest 2 content (in_two (length id) ++ id) body.is)
  not_removal none (Counter n) body = let same = kinds_differ 2 3 content (in_eight n) body.is in absurd (omega (arith, same))

  pub not_counter : ((n : ℕ) → IsCounter n → content ≡ in_eight n → ⊥) → (c : Change) → IsBodyOf format (3 ∷ content) c → ⊥
  not_counter none (Put o counter) body = let same = kinds_differ 3 1 content (put_content format o counter) body.is in absurd (omega (arith, same))
  not_counter none (Remove id) body = let same = kinds_differ 3 2 content (in_two (length id) ++ id) body.is in absurd (omega (arith, same))
  not_counter none (Counter n) body = none n body.storable (same_rest 3 content (in_eight n) body.is)

-- ---- a removal and a counter

pub short_removal : (content id : List ℕ) → length content < 2 → content ≡ in_two (length id) ++ id → ⊥
short_removal content id short is = absurd (omega (arith, ap length is, length_two_more (in_two (length id)) id, length-two (length id)))
  where
    length_two_more : (a b : List ℕ) → length a ≤ length (a ++ b)
    length_two_more [] b = omega arith
    length_two_more (x ∷ a) b = omega (arith, length_two_more a b)

pub removal_parts : (content name id : List ℕ) (size : ℕ) → size < 2 ^ 16 → content ≡ in_two size ++ name → IsName id → content ≡ in_two (length id) ++ id → (size ≡ length id) × (name ≡ id)
removal_parts content name id size small cut is_name is = same_two size (length id) name id small (omega (arith, is_name.1)) (sym cut ∙ is)

pub short_counter : (content : List ℕ) (n : ℕ) → length content < 8 → content ≡ in_eight n → ⊥
short_counter content n short is = absurd (omega (arith, ap length is, length-eight n))

pub counter_parts : (content rest : List ℕ) (m n : ℕ) → m < 2 ^ 64 → content ≡ in_eight m ++ rest → IsCounter n → content ≡ in_eight n → (m ≡ n) × (rest ≡ [])
counter_parts content rest m n small cut is_counter is = same_eight m n rest [] small (omega (arith, is_counter.1)) (sym cut ∙ (is ∙ sym (append-nil (in_eight n))))

-- ---- a put

metadata_shorter : (format : Format) (m : Metadata) → length (text_of (metadata_in format m)) ≤ length (text_of (metadata_form m))
metadata_shorter First m =
    omega (
      arith,
      table_total ((codes "createdBy", text m.created_by) ∷ (codes "modifiedBy", text m.modified_by) ∷ (codes "revision", number m.revision) ∷ []),
      table_total ((codes "createdBy", text m.created_by) ∷ (codes "createdOn", number m.created_on) ∷ (codes "modifiedBy", text m.modified_by) ∷ (codes "modifiedOn", number m.modified_on) ∷ (codes "revision", number m.revision) ∷ []),
    )
metadata_shorter Second m = omega arith

pub some_counter : (counter : Option ℕ) → IsCounterIfThere counter → unwrap_or counter 0 < 2 ^ 64
some_counter None is = omega arith
some_counter (Some n) is = omega (arith, is.1)

pub text_short : (format : Format) (o : ObjectValue) → IsKept o → length (text_of (form_in format o)) < 2 ^ 32
text_short format o kept =
    let absent = kept.object.attributes.no_metadata in
    let own = insert_entry compared o.attributes (codes "metadata") (metadata_in format o.metadata) in
    let shown = insert_entry compared o.attributes (codes "metadata") (metadata_form o.metadata) in
    let own_total = total-insert o.attributes (codes "metadata") (metadata_in format o.metadata) absent in
    let total = total-insert o.attributes (codes "metadata") (metadata_form o.metadata) absent in
    omega (arith, form_length own o.elements o.id o.type_name (omega (arith, own_total)), form_length shown o.elements o.id o.type_name (omega (arith, total)), own_total, total, metadata_shorter format o.metadata, kept.object.short)

-- the head that was cut off is that of the object
pub head_matches : (format : Format) (o : ObjectValue) (counter : Option ℕ) (content : List ℕ) (c : ℕ) (s : List ℕ) (n : ℕ) (p : List ℕ) → content ≡ head c s n p → (c < 2 ^ 64) × (length s < 2 ^ 32) × (n < 2 ^ 32)
    → IsKept o → IsCounterIfThere counter → content ≡ put_content format o counter → SameHead c s n p (unwrap_or counter 0) (text_of (form_in format o)) (length o.elements) (flat_map payload o.elements)
head_matches format o counter content c s n p cut small kept minted is =
    same_head c s n p (unwrap_or counter 0) (text_of (form_in format o)) (length o.elements) (flat_map payload o.elements) small.0 (some_counter counter minted) small.1 (text_short format o kept) small.2 (omega (arith, kept.object.elements.few)) (sym cut ∙ is)

-- ---- an object

-- what is found of an object but for the bytes of its elements
abbrev pub expected : ObjectValue → Fields
expected o = record { id = o.id; type_name = o.type_name; attributes = o.attributes; metadata = o.metadata; elements = map element_form o.elements }

module _ (format : Format) (o : ObjectValue) (kept : IsKept o) (times : HasTimesOf format o) where
  pub text_reads : (shown : List ℕ) → shown ≡ text_of (form_in format o) → reading shown 67 ≡ Ok (form_in format o)
  text_reads shown is = ap (λ l. reading l 67) is ∙ reads_form format o kept

  same_ok : (v w : Value) (r : Result Value TextFault) → r ≡ Ok v → r ≡ Ok w → v ≡ w
  same_ok v w r p q = cc

  pub value_is : (shown : List ℕ) (v : Value) → shown ≡ text_of (form_in format o) → reading shown 67 ≡ Ok v → v ≡ form_in format o
  value_is shown v is read = same_ok v (form_in format o) (reading shown 67) read (text_reads shown is)

  pub fields_are : (v : Value) → v ≡ form_in format o → fields_at format v ≡ Some (expected o)
  fields_are v is =
      ap (fields_at format) is ∙ (ap (fields_in format) (entries_listed (entries_of_form format o)) ∙ fields_back format o kept.id kept.type_name times kept.object.attributes.no_metadata)

  same_some : (f g : Fields) → Some f ≡ Some g → f ≡ g
  same_some f g is = cc

  pub fields_same : (v : Value) (fields : Fields) → v ≡ form_in format o → fields_at format v ≡ Some fields → fields ≡ expected o
  fields_same v fields is found = same_some fields (expected o) (sym found ∙ fields_are v is)

pub small_all : (es : List Element) → All (λ e. length e.bytes < 10 ^ 10) es → AllByRecursion (λ e. length e.bytes < 2 ^ 64) es
small_all [] all = tt
small_all (e ∷ es) all = (omega (arith, all 0 e (omega arith)), small_all es (λ k d h. all (suc k) d (omega arith)))

pub are_listed : (o : ObjectValue) (fields : Fields) (payloads : List ℕ) → IsKept o → fields ≡ expected o → payloads ≡ flat_map payload o.elements → AreListed fields.elements payloads o.elements
are_listed o fields payloads kept is bytes = record { names = kept.elements; sizes = small_all o.elements kept.object.elements.small; listed = ap (λ f. f.elements) is; bytes = bytes }

-- an object that is made of what was found
pub made_of : (o : ObjectValue) (fields : Fields) (es : List Element) → fields ≡ expected o → es ≡ o.elements
    → record { id = fields.id; type_name = fields.type_name; attributes = fields.attributes; metadata = fields.metadata; elements = es } ≡ o
made_of o fields es is same = λ j. record { id = (is j).id; type_name = (is j).type_name; attributes = (is j).attributes; metadata = (is j).metadata; elements = same j }

-- ---- faults that are handed on

pub fails : {X : Type 0} (fault : RecordFault) (r : Result X RecordFault) (x : X) → (fault ≡ NotARecord → ⊥) → r ≡ Err fault → Yields r x
fails NotARecord r x never is = absurd (never refl)
fails Memory r x never is = subst (λ s. Yields s x) (sym is) tt

pub value_never : (fault : RecordFault) (shown : List ℕ) (v : Value) → IsValueOf shown (Err fault) → reading shown 67 ≡ Ok v → fault ≡ NotARecord → ⊥
value_never NotARecord shown v none is same = none v is
value_never Memory shown v none is same = absurd (cc)

none_or_some : (found : Option Fields) (f : Fields) → found ≡ None → found ≡ Some f → ⊥
none_or_some found f none some = let never : None ≡ Some f = sym none ∙ some in absurd (cc)

pub fields_never : (fault : RecordFault) (found : Option Fields) (f : Fields) → Finds (Err fault) found → found ≡ Some f → fault ≡ NotARecord → ⊥
fields_never NotARecord found f none some same = none_or_some found f none some
fields_never Memory found f none some same = absurd (cc)

pub yields_never : {X : Type 0} (fault : RecordFault) (x : X) → Yields (Err fault) x → fault ≡ NotARecord → ⊥
yields_never NotARecord x never same = never
yields_never Memory x free same = absurd (cc)

pub put_fails : (format : Format) (content : List ℕ) (fault : RecordFault) (r : Result Change RecordFault) → r ≡ Err fault → (fault ≡ NotARecord → (c : Change) → IsBodyOf format (1 ∷ content) c → ⊥) → Reads format (1 ∷ content) r
put_fails format content NotARecord r is none = subst (Reads format (1 ∷ content)) (sym is) (none refl)
put_fails format content Memory r is none = subst (Reads format (1 ∷ content)) (sym is) tt
