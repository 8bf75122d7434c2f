-- Values that are read of a text: no key comes twice, and they nest no deeper and are no longer than was asked.
use Rattle.std.proofs.Common.{◌≡◌, ℕ, ◌≤◌, List, length, Bool, true, false, if◌then◌else◌, Option, Some, None, Result}
use Rattle.std.proofs.Common.{Ok, Err, option_and_then, nat_le, nat_eq, refl, sym, ap, subst, ◌∙◌, arith}
use Rattle.std.specs.Prelude.{⊤}
use Rattle.std.specs.Str.{is_utf8}
use Rattle.std.specs.Ordering.{match_ordering, is_eq}
use Rattle.std.specs.declared.cmp.Ordering.{Ordering}
use Rattle.std.specs.declared.cmp.Ordering.TheVariants.{Less, Equal, Greater}
use Rattle.std.specs.Cmp.Lexicographic.{pointwise, texts_ties, nat_list_cmp_total}
use Rattle.std.proofs.lemmas.Bool.Decides.{nat_tests}
use Rattle.serde_json.specs.Data as parsed
use Rattle.serde_json.specs.Find.{as_integer}
use Rattle.serde_json.specs.Read.{max_depth, read, number_of, of_json, of_items, of_members}
use Rattle.json.specs.Json as tree
use Rattle.json.specs.Lex.{tokens}
use Rattle.doip_json.specs.declared.fault.TextFault.{TextFault}
use Rattle.doip_json.specs.declared.fault.TextFault.TheVariants.{NotWhole, TooDeep}
use Rattle.doip_json.specs.Value.{Value, null, truth, whole, text, list, table, Values, no_values, value, Entries}
use Rattle.doip_json.specs.Value.{no_entries, entry}
use Rattle.doip_json.specs.Look.{entry_of, field_of}
use Rattle.doip_json.specs.Read.{reading, value_in, values_in, entries_in, if_data, or_fault}
use Rattle.doip_json.proofs.Ascending.{compared, below}
use Rattle.doip_json.proofs.Building.{field_of-depth}
use Rattle.doip_json.proofs.Depths.{some_mapped, some_paired, depth_of-value_in}
use Rattle.doip_json.proofs.NoLonger.{no_longer}
use Rattle.doip_json.proofs.Sizes.{some_then}
use Rattle.doip_segment.specs.Framing.{most_total}
use Rattle.doip_segment.specs.declared.kind.Kind.{Kind}
use Rattle.doip_segment.specs.declared.kind.Kind.TheVariants as kinds
use Rattle.dobj_draft.specs.Draft.{segment_depth, value_read, value_of_kind}
use Rattle.dobj_draft.specs.Made.{KeysDiffer, ItemsDiffer, EntriesDiffer, IsBrought}
use Rattle.dobj_draft.proofs.Attributes.{field_differs}
use Rattle.dobj_draft.proofs.Kept.{ok_value}
use Rattle.dobj_draft.proofs.Listing.{field_shorter}

-- ---- the keys of each object that is parsed ascend

abbrev AreAbove : List ℕ → parsed.Members → Type 0
AreAbove k parsed.no_members = ⊤
AreAbove k (parsed.member l d ms) = (compared k l ≡ Less) × AreAbove k ms

abbrev mutual
  IsOrdered : parsed.Data → Type 0
  IsOrdered parsed.null = ⊤
  IsOrdered (parsed.boolean b) = ⊤
  IsOrdered (parsed.number n) = ⊤
  IsOrdered (parsed.string s) = ⊤
  IsOrdered (parsed.array ds) = ItemsOrdered ds
  IsOrdered (parsed.object ms) = MembersOrdered ms

  ItemsOrdered : parsed.Items → Type 0
  ItemsOrdered parsed.no_items = ⊤
  ItemsOrdered (parsed.item d ds) = IsOrdered d × ItemsOrdered ds

  MembersOrdered : parsed.Members → Type 0
  MembersOrdered parsed.no_members = ⊤
  MembersOrdered (parsed.member k d ms) = AreAbove k ms × IsOrdered d × MembersOrdered ms

above_more : (k l : List ℕ) (ms : parsed.Members) → compared k l ≡ Less → AreAbove l ms → AreAbove k ms
above_more k l parsed.no_members lower all = tt
above_more k l (parsed.member m d ms) lower all =
    (nat_list_cmp_total.trans k l m lower all.0, above_more k l ms lower all.1)

above_put : (b k : List ℕ) (d : parsed.Data) (ms : parsed.Members) → compared b k ≡ Less → AreAbove b ms
    → AreAbove b (parsed.put k d ms)
above_put b k d parsed.no_members one all = (one, tt)
above_put b k d (parsed.member l e ms) one all =
    elim (compared k l) as (λ o. AreAbove b (match_ordering o (parsed.member k d (parsed.member l e ms))
    (parsed.member l d ms) (parsed.member l e (parsed.put k d ms)))) [
      | Less ↦ (one, all)
      | Equal ↦ all
      | Greater ↦ (all.0, above_put b k d ms one all.1)
    ]

ordered_here : (k l : List ℕ) (d e : parsed.Data) (ms : parsed.Members) → IsOrdered d
    → MembersOrdered (parsed.member l e ms) → MembersOrdered (parsed.put k d ms) → (o : Ordering) → compared k l ≡ o
    → MembersOrdered (match_ordering o (parsed.member k d (parsed.member l e ms)) (parsed.member l d ms)
    (parsed.member l e (parsed.put k d ms)))
ordered_here k l d e ms one all later Less is = ((is, above_more k l ms is all.0), one, all)
ordered_here k l d e ms one all later Equal is = (all.0, one, all.2)
ordered_here k l d e ms one all later Greater is = (above_put l k d ms (below k l is) all.0, all.1, later)

ordered_put : (k : List ℕ) (d : parsed.Data) (ms : parsed.Members) → IsOrdered d → MembersOrdered ms
    → MembersOrdered (parsed.put k d ms)
ordered_put k d parsed.no_members one all = (tt, one, tt)
ordered_put k d (parsed.member l e ms) one all =
    ordered_here k l d e ms one all (ordered_put k d ms one all.2) (compared k l) refl

mutual
  json_ordered : (j : tree.Json) (d : parsed.Data) → of_json j ≡ Some d → IsOrdered d
  json_ordered tree.null d e = let is : parsed.null ≡ d = cc in subst IsOrdered is tt
  json_ordered (tree.boolean b) d e = let is : parsed.boolean b ≡ d = cc in subst IsOrdered is tt
  json_ordered (tree.number s) d e =
      let some = some_mapped parsed.number (number_of s) d e in subst IsOrdered (sym some.2) tt
  json_ordered (tree.string s) d e = let is : parsed.string s ≡ d = cc in subst IsOrdered is tt
  json_ordered (tree.array js) d e =
      let some = some_mapped parsed.array (of_items js) d e in
      subst IsOrdered (sym some.2) (items_ordered js some.0 some.1)
  json_ordered (tree.object ms) d e =
      let some =
      some_mapped parsed.object (of_members ms parsed.no_members) d e in
      subst IsOrdered (sym some.2) (members_ordered ms parsed.no_members some.0 some.1 tt)

  items_ordered : (js : tree.Items) (ds : parsed.Items) → of_items js ≡ Some ds → ItemsOrdered ds
  items_ordered tree.no_items ds e = let is : parsed.no_items ≡ ds = cc in subst ItemsOrdered is tt
  items_ordered (tree.item j js) ds e =
      let some = some_paired parsed.item (of_json j) (of_items js) ds e in
      subst ItemsOrdered (sym some.4) (json_ordered j some.0 some.2, items_ordered js some.1 some.3)

  members_ordered : (ms : tree.Members) (found made : parsed.Members) → of_members ms found ≡ Some made
      → MembersOrdered found → MembersOrdered made
  members_ordered tree.no_members found made e all = let is : found ≡ made = cc in subst MembersOrdered is all
  members_ordered (tree.member k j ms) found made e all =
      let some = some_then (of_json j) (λ d. of_members ms (parsed.put k d found)) made e in
      members_ordered ms (parsed.put k some.0 found) made some.2
      (ordered_put k some.0 found (json_ordered j some.0 some.1) all)

-- ---- so the keys of values differ

above_none : (k : List ℕ) (ms : parsed.Members) (es : Entries) → entries_in ms ≡ Some es → AreAbove k ms
    → entry_of k es ≡ None
above_none k parsed.no_members es e all = let is : no_entries ≡ es = cc in subst (λ x. entry_of k x ≡ None) is refl
above_none k (parsed.member l d ms) es e all =
    let some = some_paired (entry l) (value_in d) (entries_in ms) es e in
    let other : pointwise nat_eq k l ≡ false = texts_ties k l ∙ ap is_eq all.0 in
    let here : entry_of k (entry l some.0 some.1) ≡ None = rw other (above_none k ms some.1 some.3 all.1) in
    subst (λ x. entry_of k x ≡ None) (sym some.4) here

mutual
  value_differs : (d : parsed.Data) (v : Value) → value_in d ≡ Some v → IsOrdered d → KeysDiffer v
  value_differs parsed.null v e all = let is : null ≡ v = cc in subst KeysDiffer is tt
  value_differs (parsed.boolean b) v e all = let is : truth b ≡ v = cc in subst KeysDiffer is tt
  value_differs (parsed.number n) v e all =
      let some = some_mapped whole (as_integer n) v e in subst KeysDiffer (sym some.2) tt
  value_differs (parsed.string s) v e all = let is : text s ≡ v = cc in subst KeysDiffer is tt
  value_differs (parsed.array ds) v e all =
      let some = some_mapped list (values_in ds) v e in
      subst KeysDiffer (sym some.2) (items_differ ds some.0 some.1 all)
  value_differs (parsed.object ms) v e all =
      let some = some_mapped table (entries_in ms) v e in
      subst KeysDiffer (sym some.2) (members_differ ms some.0 some.1 all)

  items_differ : (ds : parsed.Items) (vs : Values) → values_in ds ≡ Some vs → ItemsOrdered ds → ItemsDiffer vs
  items_differ parsed.no_items vs e all = let is : no_values ≡ vs = cc in subst ItemsDiffer is tt
  items_differ (parsed.item d ds) vs e all =
      let some = some_paired value (value_in d) (values_in ds) vs e in
      subst ItemsDiffer (sym some.4) (value_differs d some.0 some.2 all.0, items_differ ds some.1 some.3 all.1)

  members_differ : (ms : parsed.Members) (es : Entries) → entries_in ms ≡ Some es → MembersOrdered ms → EntriesDiffer es
  members_differ parsed.no_members es e all = let is : no_entries ≡ es = cc in subst EntriesDiffer is tt
  members_differ (parsed.member k d ms) es e all =
      let some = some_paired (entry k) (value_in d) (entries_in ms) es e in
      subst EntriesDiffer (sym some.4) (
        above_none k ms some.1 some.3 all.0,
        value_differs d some.0 some.2 all.1,
        members_differ ms some.1 some.3 all.2,
      )

-- ---- what a text brings

read_value : (o : Option Value) (v : Value) → or_fault NotWhole o ≡ Ok v → o ≡ Some v
read_value None v e = absurd (cc)
read_value (Some w) v e = cc

shallow_value : (b : Bool) (o : Option Value) (v : Value) → (if b then or_fault NotWhole o else Err TooDeep) ≡ Ok v
    → (b ≡ true) × (o ≡ Some v)
shallow_value true o v e = (refl, read_value o v e)
shallow_value false o v e = absurd (cc)

utf8_read : (b : Bool) (o : Option parsed.Data) (d : parsed.Data) → (if b then o else None) ≡ Some d → o ≡ Some d
utf8_read true o d e = e
utf8_read false o d e = absurd (cc)

-- what was parsed of a text
record IsParsed (bytes : List ℕ) (depth : ℕ) (v : Value) : Type 0 where
  parsed_data : parsed.Data
  is_read : read bytes ≡ Some parsed_data
  nests : nat_le (parsed.depth parsed_data) depth ≡ true
  gives : value_in parsed_data ≡ Some v

parsed_from : (bytes : List ℕ) (depth : ℕ) (v : Value) (o : Option parsed.Data) → if_data depth o ≡ Ok v
    → ((d : parsed.Data) → o ≡ Some d → read bytes ≡ Some d) → IsParsed bytes depth v
parsed_from bytes depth v None e is = absurd (cc)
parsed_from bytes depth v (Some d) e is =
    let both = shallow_value (nat_le (parsed.depth d) depth) (value_in d) v e in
    record { parsed_data = d; is_read = is d refl; nests = both.0; gives = both.1 }

parsed_of : (bytes : List ℕ) (depth : ℕ) (v : Value) → reading bytes depth ≡ Ok v → IsParsed bytes depth v
parsed_of bytes depth v e =
    parsed_from bytes depth v (if is_utf8 bytes then read bytes else None) e
    (λ d is. utf8_read (is_utf8 bytes) (read bytes) d is)

tree_ordered : (o : Option tree.Json) (d : parsed.Data) → option_and_then of_json o ≡ Some d → IsOrdered d
tree_ordered None d e = absurd (cc)
tree_ordered (Some j) d e = json_ordered j d e

read_ordered : (bytes : List ℕ) (d : parsed.Data) → read bytes ≡ Some d → IsOrdered d
read_ordered bytes d e =
    tree_ordered (option_and_then (λ p. tree.if_last p.0 p.1) (tree.value max_depth (tokens bytes))) d e

low_depth : (m n : ℕ) → nat_le m n ≡ true → m ≤ n
low_depth m n e = grind (arith, nat_tests)

pub text_brings : (bytes : List ℕ) (depth : ℕ) (v : Value) → reading bytes depth ≡ Ok v → depth ≤ segment_depth
    → length bytes ≤ most_total → IsBrought v
text_brings bytes depth v e low short =
    let p = parsed_of bytes depth v e in
    let d = p.parsed_data in
    record {
      differ = value_differs d v p.gives (read_ordered bytes d p.is_read);
      nests = omega (arith, depth_of-value_in d v p.gives, low_depth (parsed.depth d) depth p.nests);
      short = omega (arith, no_longer bytes depth v e);
    }

-- what lies at a key of it
pub property_brings : (k : List ℕ) (v w : Value) → IsBrought v → field_of k v ≡ Some w → IsBrought w
property_brings k v w b is = record {
  differ = field_differs k v w b.differ is;
  nests = omega (arith, field_of-depth v w k is, b.nests);
  short = omega (arith, field_shorter k v w is, b.short);
}

-- what a segment brings
pub kind_brings : (n : ℕ) (kind : Kind) (bytes : List ℕ) (v : Value) → value_of_kind n kind bytes ≡ Ok v
    → length bytes ≤ most_total → IsBrought v
kind_brings n kinds.Bytes bytes v e short = absurd (cc)
kind_brings n kinds.Json bytes v e short = here (reading bytes segment_depth) refl e
  where
    here : (r : Result Value TextFault) → reading bytes segment_depth ≡ r → value_read n r ≡ Ok v → IsBrought v
    here (Ok w) is same = text_brings bytes segment_depth v (is ∙ ap Ok (ok_value w v same)) (omega arith) short
    here (Err fault) is same = absurd (cc)
