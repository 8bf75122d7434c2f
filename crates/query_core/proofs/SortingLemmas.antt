-- The parts of a text that names keys.
use Rattle.std.proofs.Common.{◌⊎◌, inl, inr, eqb-true, ◌≡◌, ℕ, ◌+◌, ◌<◌, ◌≤◌, List, [], ◌∷◌, ◌++◌, length, take, drop, Some, IsUtf8, refl, sym, ap, ◌∙◌, subst, arith, append_assoc, length-append, length-drop}
use Rattle.std.proofs.lemmas.Bool.{cases_lt}
use Rattle.std.proofs.lemmas.List.{take-append-drop, take_all, drop-drop, length-take}
use Rattle.std.proofs.Math.Seq.{take-append_seam, drop-append_seam}
use Rattle.dobj_field.specs.Breaks.{BreaksAt}
use Rattle.dobj_field.specs.Field.{IsField}
use Rattle.dobj_field.specs.declared.field.Field.{Field}
use Rattle.dobj_field.specs.declared.field.Field.TheVariants.{Id, OfType, Pointer}
use Rattle.dobj_field.proofs.Utf8.{cut_at_ascii}
use Rattle.query_text.specs.declared.parts.Stop.TheVariants.{Comma, White}
use Rattle.query_text.specs.Parts.{untaken, past_white, BeginsWith}
use Rattle.query_text.proofs.FieldLemmas.{field_end, white_ends}
use Rattle.query_text.proofs.CutLemmas.{skip_white, stop_after}
use Rattle.query_core.specs.declared.order.SortKey.{SortKey}
use Rattle.query_core.specs.Sorting.{direction_in, IsSortPart, AreSortParts, NamesKeys}

-- a text that breaks somewhere isn't in the language
pub breaks_refuses : (Language : List ℕ → Type 0) (text : List ℕ) (place : ℕ) → BreaksAt Language text place
    → Language text → ⊥
breaks_refuses Language text place b whole = refused (cases_lt place (length text))
  where
    refused : (place < length text) ⊎ (length text ≤ place) → ⊥
    refused (inl inside) = b.ends inside (drop (place + 1) text)
        (subst Language (sym (take-append-drop (place + 1) text)) whole)
    refused (inr over) = let within : place ≤ length text = b.within in b.short (omega arith) whole

-- a field begins with no white byte
field_begins : (text rest : List ℕ) (field : Field) → IsField text field → past_white (text ++ rest) ≡ text ++ rest
field_begins text rest Id is = rw is refl
field_begins text rest OfType is = rw is refl
field_begins text rest (Pointer tokens) is = rw is.1 refl

-- a part is known by its field and its direction
pub part_known : (part : List ℕ) (key : SortKey) → IsSortPart part key
    → IsField (take (untaken White (past_white part)) (past_white part)) key.field
    × (direction_in (drop (untaken White (past_white part)) (past_white part)) ≡ Some key.descending)
part_known part key (before, name, rest, is, white, field, stands, direction) =
    let body : past_white part ≡ name ++ rest = ap past_white is
    ∙ (skip_white before (name ++ rest) white ∙ field_begins name rest key.field field) in
    let end : untaken White (name ++ rest) ≡ length name =
    field_end White white_ends name rest key.field stands field in
    rw (body, end, take-append_seam name rest, drop-append_seam name rest) (field, direction)

-- the text is read up to this place, and these are its keys
pub record SortedTo (text : List ℕ) (at : ℕ) (keys : List SortKey) : Type 0 where
  pub within : at ≤ length text
  pub on : (more : List SortKey) → AreSortParts (drop at text) more → AreSortParts text (keys ++ more)
  pub back : (others : List SortKey) → AreSortParts text others → (more : List SortKey)
      × AreSortParts (drop at text) more
  pub utf8 : IsUtf8 (drop at text)

pub sorting_start : (text : List ℕ) → IsUtf8 text → SortedTo text 0 []
sorting_start text utf8 = record {
  within = omega arith;
  on = λ more parts. parts;
  back = λ others parts. (others, parts);
  utf8 = utf8;
}

-- a comma stands where the first part ends
comma_there : (rest : List ℕ) (n : ℕ) (tail : List ℕ) → drop n rest ≡ tail → BeginsWith Comma tail → n < length rest
    → rest ≡ take n rest ++ 44 ∷ drop (n + 1) rest
comma_there rest n [] is stands inside = let long = ap (length {A = ℕ}) is in
    absurd (omega (arith, long, length-drop n rest))
comma_there rest n (x ∷ tail) is stands inside =
    let comma : x ≡ 44 = eqb-true x 44 stands in
    let after : drop (n + 1) rest ≡ tail = sym (drop-drop 1 n rest) ∙ ap (λ d. drop 1 d) is in
    sym (take-append-drop n rest) ∙ (ap (λ r. take n rest ++ r) is ∙ rw (comma, after) refl)

more_parts : (rest : List ℕ) (key : SortKey) (more : List SortKey) → untaken Comma rest < length rest
    → IsSortPart (take (untaken Comma rest) rest) key → AreSortParts (drop (untaken Comma rest + 1) rest) more
    → AreSortParts rest (key ∷ more)
more_parts rest key [] inside part parts = absurd parts
more_parts rest key (next ∷ more) inside part parts =
    let n = untaken Comma rest in (
      take n rest,
      drop (n + 1) rest,
      comma_there rest n (drop n rest) refl (stop_after Comma rest) inside,
      omega (arith, length-take n rest),
      part,
      parts,
    )

-- the parts of a text begin with the bytes before the first comma
first_part : (rest : List ℕ) (keys : List SortKey) → AreSortParts rest keys → (key : SortKey)
    × IsSortPart (take (untaken Comma rest) rest) key
first_part rest [] parts = absurd parts
first_part rest (key ∷ []) parts = (key, rw (take_all (untaken Comma rest) rest (omega (arith, parts.0))) parts.1)
first_part rest (key ∷ next ∷ keys) (part, after, is, long, one, parts) =
    let same : take (untaken Comma rest) rest ≡ part =
    rw long (ap (take (length part)) is ∙ take-append_seam part (44 ∷ after)) in
    (key, rw same one)

later_parts : (rest : List ℕ) (keys : List SortKey) → untaken Comma rest < length rest → AreSortParts rest keys
    → (more : List SortKey) × AreSortParts (drop (untaken Comma rest + 1) rest) more
later_parts rest [] inside parts = absurd parts
later_parts rest (key ∷ []) inside parts = absurd (omega (arith, parts.0))
later_parts rest (key ∷ next ∷ keys) inside (part, after, is, long, one, parts) =
    let whole : rest ≡ (part ++ 44 ∷ []) ++ after = is ∙ sym (append_assoc part (44 ∷ []) after) in
    let far : untaken Comma rest + 1 ≡ length (part ++ 44 ∷ []) = omega (arith, long, length-append part (44 ∷ [])) in
    let same : drop (untaken Comma rest + 1) rest ≡ after =
    rw far (ap (drop (length (part ++ 44 ∷ []))) whole ∙ drop-append_seam (part ++ 44 ∷ []) after) in
    (next ∷ keys, rw same parts)

pub sorting_next : (text : List ℕ) (at : ℕ) (keys : List SortKey) (key : SortKey) (n : ℕ) → SortedTo text at keys
    → n ≡ untaken Comma (drop at text)
    → n < length (drop at text) → IsSortPart (take n (drop at text)) key
    → SortedTo text (at + (n + 1)) (keys ++ key ∷ [])
sorting_next text at keys key n r is inside part =
    let rest = drop at text in
    let after : drop (n + 1) rest ≡ drop (at + (n + 1)) text = drop-drop (n + 1) at text in
    let whole : rest ≡ take n rest ++ 44 ∷ drop (n + 1) rest =
    rw is (comma_there rest (untaken Comma rest) (drop (untaken Comma rest) rest) refl (stop_after Comma rest)
    (rw is at inside)) in
    record {
      within = omega (arith, length-drop at text, r.within, inside);
      on = λ more parts. rw (append_assoc keys (key ∷ []) more)
          (r.on (key ∷ more) (more_parts rest key more (rw is at inside) (rw is at part)
          (subst (λ m. AreSortParts (drop (m + 1) rest) more) is (rw after parts))));
      back = λ others parts. let first = r.back others parts in
          let later = later_parts rest first.0 (rw is at inside) first.1 in
          (later.0, rw (sym after) (subst (λ m. AreSortParts (drop (m + 1) rest) later.0) (sym is) later.1));
      utf8 = rw (sym after) (cut_at_ascii (take n rest) (drop (n + 1) rest) 44 (omega arith)
          (subst IsUtf8 whole r.utf8)).1;
    }

pub names_parts : (text : List ℕ) (keys : List SortKey) → 0 < length text → AreSortParts text keys → NamesKeys text keys
names_parts [] keys some parts = absurd (omega arith)
names_parts (x ∷ text) keys some parts = parts

parts_named : (text : List ℕ) (keys : List SortKey) → 0 < length text → NamesKeys text keys → AreSortParts text keys
parts_named [] keys some parts = absurd (omega arith)
parts_named (x ∷ text) keys some parts = parts

pub sorting_last : (text : List ℕ) (at : ℕ) (keys : List SortKey) (key : SortKey) (n : ℕ) → 0 < length text
    → SortedTo text at keys
    → n ≡ untaken Comma (drop at text) → n ≡ length (drop at text) → IsSortPart (take n (drop at text)) key
    → NamesKeys text (keys ++ key ∷ [])
sorting_last text at keys key n some r is whole part =
    names_parts text (keys ++ key ∷ []) some
    (r.on (key ∷ []) (sym is ∙ whole, rw (take_all n (drop at text) (omega arith)) at part))

pub sorting_refused : (text : List ℕ) (at : ℕ) (keys : List SortKey) (n : ℕ) → 0 < length text → SortedTo text at keys
    → n ≡ untaken Comma (drop at text) → ((key : SortKey) → IsSortPart (take n (drop at text)) key → ⊥)
    → (others : List SortKey) → NamesKeys text others → ⊥
sorting_refused text at keys n some r is refused others parts =
    let first = r.back others (parts_named text others some parts) in
    let one = first_part (drop at text) first.0 first.1 in
    refused one.0 (subst (λ m. IsSortPart (take m (drop at text)) one.0) (sym is) one.1)
