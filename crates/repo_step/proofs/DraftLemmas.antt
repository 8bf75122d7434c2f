-- The objects that drafts become.
use Rattle.std.proofs.Common.{◌≡◌, ◌<◌, ℕ, List, [], ◌∷◌, length, map, Option, None, Some, IfSome, unwrap_or, option_map, refl, ap, sym, subst, arith, suc, find, Bool, true, false, cond, nat_eq}
use Rattle.std.specs.List.{All}
use Rattle.std.specs.Cmp.Lexicographic.{pointwise}
use Rattle.std.proofs.lemmas.List.Elements.{All-map}
use Rattle.dobj_model.specs.declared.elements.Element.{Element}
use Rattle.dobj_model.specs.declared.metadata.Metadata.{Metadata}
use Rattle.dobj_model.specs.declared.object.ObjectValue.{ObjectValue}
use Rattle.dobj_model.specs.Name.{IsName}
use Rattle.dobj_model.specs.Elements.{element_bound, AreElements}
use Rattle.dobj_model.specs.Object.{IsObject, IsMetadata}
use Rattle.dobj_draft.specs.declared.draft.Draft.{Draft}
use Rattle.dobj_draft.specs.declared.draft.DraftElement.{DraftElement}
use Rattle.dobj_draft.specs.Made.{listed, unfilled, AreListed, AreSmall}
use Rattle.repo_step.specs.Drafts.{CanBecome, object_with}
use Rattle.repo_step.specs.operations.Update.{bytes_stored}

-- the bytes that came, or fewer than an element may have
fewer : (came : Option (List ℕ)) (other : List ℕ) → IfSome came (λ bytes. length bytes < element_bound)
    → length other < element_bound → length (unwrap_or came other) < element_bound
fewer None other small stored = stored
fewer (Some bytes) other small stored = small

-- each element of a draft with bytes, by a function that keeps all else
module _ (d : Draft) (can : CanBecome d) (fill : DraftElement → List ℕ) (few : (e : DraftElement) → length (fill e) < element_bound) where
  abbrev pub filled : DraftElement → Element
  filled e = record { id = e.id; type_name = e.type_name; attributes = e.attributes; bytes = unwrap_or e.bytes (fill e) }

  are_listed : AreListed d.elements (map filled d.elements)
  are_listed = by d.elements
    where
      by : (es : List DraftElement) → map listed (map filled es) ≡ map unfilled es
      by [] = refl
      by (e ∷ es) = ap (λ l. unfilled e ∷ l) (by es)

  are_small : AreSmall (map filled d.elements)
  are_small = All-map (λ e. length e.bytes < element_bound) filled d.elements (λ k e below. fewer _ _ (can.within.small k e below) (few _))

  pub filled_elements : (es : List Element) → es ≡ map filled d.elements → AreElements es
  filled_elements es is = subst AreElements (sym is) (can.elements (map filled d.elements) are_listed are_small)

  pub filled_object : (es : List Element) → es ≡ map filled d.elements → (id type_name : List ℕ) (m : Metadata) → IsMetadata m
      → IsName id → IsName type_name → IsObject (object_with id type_name d.attributes m es)
  filled_object es is id type_name m kept named typed =
      subst (λ es. IsObject (object_with id type_name d.attributes m es)) (sym is)
      (can.objects (object_with id type_name d.attributes m (map filled d.elements)) (record {
        id = named;
        type_name = typed;
        attributes = refl;
        metadata = kept;
        elements = are_listed;
        small = are_small;
      }))

-- stored bytes are fewer than an element may have
pub stored_few : (id : List ℕ) (o : ObjectValue) → AreElements o.elements → length (bytes_stored id o) < element_bound
stored_few id o kept = by o.elements (λ k e below. kept.small k e below)
  where
    by : (es : List Element) → All (λ e. length e.bytes < element_bound) es
        → length (unwrap_or (option_map (λ e. e.bytes) (find (λ e. pointwise nat_eq e.id id) es)) []) < element_bound
    by [] small = omega arith
    by (e ∷ es) small = at (pointwise nat_eq e.id id) (by es (λ k d below. small (suc k) d (omega (arith, below))))
      where
        at : (b : Bool) → length (unwrap_or (option_map (λ e. e.bytes) (find (λ e. pointwise nat_eq e.id id) es)) []) < element_bound
            → length (unwrap_or (option_map (λ e. e.bytes) (cond b (Some e) (find (λ e. pointwise nat_eq e.id id) es))) []) < element_bound
        at true rest = small 0 e (omega arith)
        at false rest = rest
