-- The shown form in each format: it is sound and shallow, so its text reads back, and format 1 has it without the times.
use Rattle.std.proofs.Common.{◌≡◌, ℕ, ◌≤◌, List, [], ◌∷◌, Bool, true, false, nat_eq, if◌then◌else◌, Option, Some, None, option_map, Ok, rules, codes, refl, ap, ◌∙◌, subst, arith}
use Rattle.std.specs.BTreeMap.{insert_entry}
use Rattle.std.specs.List.Sorted.{IsStrictlySortedBy}
use Rattle.std.specs.Map.{remove_entry}
use Rattle.std.specs.Cmp.Lexicographic.{pointwise}
use Rattle.doip_json.specs.Value.{Value, null, text, table, Entries, no_entries, entry, entries_from, depth_of}
use Rattle.std.specs.Prelude.{IsSome}
use Rattle.doip_json.specs.declared.value.Json.{Json}
use Rattle.doip_json.specs.Meaning.{value_of}
use Rattle.doip_json.specs.Look.{entry_of}
use Rattle.doip_json.specs.Read.{reading}
use Rattle.doip_json.specs.Sound.{IsSound, EntriesAreSound}
use Rattle.doip_json.specs.Text.{text_of}
use Rattle.doip_json.proofs.Ascending.{Pairs, compared}
use Rattle.doip_json.proofs.Building.{entry_of-insert, deepest_entry-insert}
use Rattle.doip_json.proofs.Entries.{sound_put}
use Rattle.doip_json.proofs.Lists.{same_entries}
use Rattle.doip_json.proofs.ReadBack.{reading-text_of}
use Rattle.doip_json.proofs.Removed.{sound_without}
use Rattle.dobj_model.specs.declared.metadata.Metadata.{Metadata}
use Rattle.dobj_model.specs.declared.object.ObjectValue.{ObjectValue}
use Rattle.dobj_model.specs.Shown.{object_with, number, metadata_form, shown_form, bare_form}
use Rattle.dobj_model.proofs.Forms.{letters, form_shallow, form_attributes, form_elements}
use Rattle.record_core.specs.declared.format.Format.{Format}
use Rattle.record_core.specs.declared.format.Format.TheVariants.{First, Second}
use Rattle.record_core.specs.Body.{metadata_in, form_in}
use Rattle.record_core.specs.Storable.{IsKept}
use Rattle.record_core.proofs.Found.{remove-insert, entries_of_form}

-- ---- soundness

found_sound : (b : Bool) (w : Value) (o : Option Value) (v : Value) → (if b then Some w else o) ≡ Some v → IsSound w → (o ≡ Some v → IsSound v) → IsSound v
found_sound true w o v is one later = let same : w ≡ v = cc in subst IsSound same one
found_sound false w o v is one later = later is

sound_at : (es : Entries) (k : List ℕ) (v : Value) → EntriesAreSound es → entry_of k es ≡ Some v → IsSound v
sound_at no_entries k v all is = absurd (cc)
sound_at (entry l w es) k v all is = found_sound (pointwise nat_eq k l) w (entry_of k es) v is all.1 (sound_at es k v all.2)

metadata_sound : (format : Format) (m : Metadata) → IsSound (metadata_form m) → IsSound (metadata_in format m)
unfolding IsStrictlySortedBy
metadata_sound First m h = (
  ((refl, (refl, tt)), ((refl, tt), (tt, tt))),
  (letters _ refl, h.1.1, (letters _ refl, h.1.2.2.1, (letters _ refl, h.1.2.2.2.2.1, tt))),
)
metadata_sound Second m h = h

sound_with : (es : Pairs) (v w : Value) → entry_of (codes "metadata") (entries_from es) ≡ None → IsSound (object_with (insert_entry compared es (codes "metadata") v)) → IsSound w → IsSound (object_with (insert_entry compared es (codes "metadata") w))
sound_with es v w absent sound one =
    let bare : IsSound (object_with es) = subst (λ l. IsSound (table (entries_from l))) (remove-insert es (codes "metadata") v absent) (sound_without (codes "metadata") (insert_entry compared es (codes "metadata") v) sound) in
    sound_put es (codes "metadata") w bare (letters _ refl) one

form_sound : (format : Format) (o : ObjectValue) → entry_of (codes "metadata") (entries_from o.attributes) ≡ None → IsSound (shown_form o) → IsSound (form_in format o)
form_sound format o absent sound =
    let shown = insert_entry compared o.attributes (codes "metadata") (metadata_form o.metadata) in
    let inside : IsSound (object_with shown) = sound.1.1 in
    let one : IsSound (metadata_form o.metadata) = sound_at (entries_from shown) (codes "metadata") (metadata_form o.metadata) inside.1 (entry_of-insert o.attributes (codes "metadata") (metadata_form o.metadata)) in
    (sound.0, (sound.1.0, sound_with o.attributes (metadata_form o.metadata) (metadata_in format o.metadata) absent inside (metadata_sound format o.metadata one), sound.1.2))

metadata_shallow : (format : Format) (m : Metadata) → depth_of (metadata_in format m) ≤ 62
metadata_shallow First m = omega arith
metadata_shallow Second m = omega arith

form_shallow_in : (format : Format) (o : ObjectValue) → depth_of (bare_form o) ≤ 64 → depth_of (form_in format o) ≤ 64
form_shallow_in format o h =
    form_shallow (insert_entry compared o.attributes (codes "metadata") (metadata_in format o.metadata)) o.elements o.id o.type_name
    (deepest_entry-insert o.attributes (codes "metadata") (metadata_in format o.metadata) 62 (form_attributes o.attributes o.elements o.id o.type_name h) (metadata_shallow format o.metadata))
    (form_elements o.attributes o.elements o.id o.type_name h)

-- the text reads as the form
pub reads_form : (format : Format) (o : ObjectValue) → IsKept o → reading (text_of (form_in format o)) 67 ≡ Ok (form_in format o)
reads_form format o kept =
    let shallow = form_shallow_in format o kept.object.nests in
    reading-text_of (form_in format o) 67 (form_sound format o kept.object.attributes.no_metadata kept.sound) (omega (arith, shallow)) (omega arith)

-- ---- without the times

abbrev pub five : Metadata → Pairs
five m = (codes "createdBy", text m.created_by) ∷ (codes "createdOn", number m.created_on) ∷ (codes "modifiedBy", text m.modified_by) ∷ (codes "modifiedOn", number m.modified_on) ∷ (codes "revision", number m.revision) ∷ []

same_some : (es fs : Pairs) → Some (object_with es) ≡ Some (object_with fs) → es ≡ fs
same_some es fs is = let inner : object_with es ≡ object_with fs = cc in same_entries es fs inner

-- what a look in the shown form finds
pub has_attributes : (s : Pairs) (o : ObjectValue) → object_with s ≡ shown_form o → entry_of (codes "attributes") (entries_from s) ≡ Some (object_with (insert_entry compared o.attributes (codes "metadata") (metadata_form o.metadata)))
has_attributes s o is = ap (λ s. entry_of (codes "attributes") (entries_from s)) (same_entries s (entries_of_form Second o) is)

pub has_metadata : (s a : Pairs) (o : ObjectValue) → object_with s ≡ shown_form o → Some (object_with a) ≡ entry_of (codes "attributes") (entries_from s) → entry_of (codes "metadata") (entries_from a) ≡ Some (metadata_form o.metadata)
has_metadata s a o is taken =
    let es = insert_entry compared o.attributes (codes "metadata") (metadata_form o.metadata) in
    ap (λ a. entry_of (codes "metadata") (entries_from a)) (same_some a es (taken ∙ has_attributes s o is)) ∙ entry_of-insert o.attributes (codes "metadata") (metadata_form o.metadata)

-- the object whose attributes are taken out of one, without their `metadata`, given back with another
pub without_times : (o : ObjectValue) (s0 s1 s2 a0 a1 a2 m0 m1 m2 : Pairs) (k l : List ℕ) → entry_of (codes "metadata") (entries_from o.attributes) ≡ None → object_with s0 ≡ shown_form o
    → Some (object_with a0) ≡ entry_of (codes "attributes") (entries_from s0) → s1 ≡ insert_entry compared s0 (codes "attributes") null
    → Some (object_with m0) ≡ entry_of (codes "metadata") (entries_from a0) → a1 ≡ remove_entry (pointwise nat_eq (codes "metadata")) a0
    → m1 ≡ remove_entry (pointwise nat_eq (codes "createdOn")) m0 → m2 ≡ remove_entry (pointwise nat_eq (codes "modifiedOn")) m1
    → a2 ≡ insert_entry compared a1 k (object_with m2) → k ≡ codes "metadata" → s2 ≡ insert_entry compared s1 l (object_with a2) → l ≡ codes "attributes"
    → object_with s2 ≡ form_in First o
without_times o s0 s1 s2 a0 a1 a2 m0 m1 m2 k l absent shown taken first found rest once twice put k_is last l_is =
    let second = metadata_form o.metadata in
    let es = insert_entry compared o.attributes (codes "metadata") second in
    let s0_is : s0 ≡ entries_of_form Second o = same_entries s0 (entries_of_form Second o) shown in
    let a0_is : a0 ≡ es = same_some a0 es (taken ∙ ap (λ s. entry_of (codes "attributes") (entries_from s)) s0_is) in
    let found_is : Some (object_with m0) ≡ Some second = found ∙ (ap (λ a. entry_of (codes "metadata") (entries_from a)) a0_is ∙ entry_of-insert o.attributes (codes "metadata") second) in
    let m0_is : m0 ≡ five o.metadata = same_some m0 (five o.metadata) found_is in
    let m2_is : object_with m2 ≡ metadata_in First o.metadata = ap object_with twice ∙ ap (λ m. object_with (remove_entry (pointwise nat_eq (codes "modifiedOn")) m)) (once ∙ ap (remove_entry (pointwise nat_eq (codes "createdOn"))) m0_is) in
    let a1_is : a1 ≡ o.attributes = rest ∙ (ap (remove_entry (pointwise nat_eq (codes "metadata"))) a0_is ∙ remove-insert o.attributes (codes "metadata") second absent) in
    let a2_is : a2 ≡ insert_entry compared o.attributes (codes "metadata") (metadata_in First o.metadata) = put ∙ (λ j. insert_entry compared (a1_is j) (k_is j) (m2_is j)) in
    ap object_with last ∙ (λ j. object_with (insert_entry compared ((first ∙ ap (λ s. insert_entry compared s (codes "attributes") null) s0_is) j) (l_is j) (object_with (a2_is j))))

pub is_some_of : (o : Option Json) (v : Value) → option_map value_of o ≡ Some v → IsSome o
is_some_of None v is = absurd (cc)
is_some_of (Some j) v is = search rules
