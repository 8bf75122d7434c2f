-- References that are all met, and references of which one is to an identifier, as tests of every reference.
use Rattle.std.proofs.Common.{◌≡◌, ℕ, List, [], ◌∷◌, Bool, true, false, cond, not, ◌&&◌, ◌||◌, Option, Some, None, option_map, is_none, unwrap_or, find, refl, sym, ap, ◌∙◌}
use Rattle.std.specs.List.{list_any}
use Rattle.doip_json.specs.Value.{null}
use Rattle.dobj_model.specs.declared.object.ObjectValue.{ObjectValue}
use Rattle.schema_core.specs.declared.collecting.Reference.{Reference}
use Rattle.schema_core.specs.FirstFailure as first
use Rattle.schema_core.specs.Rules.{Rules}
use Rattle.schema_core.specs.References.{references_in, all_pass}
use Rattle.type_core.specs.Names.{is_text, content_of}
use Rattle.type_core.specs.Checked.{failure_of, is_met, unmet_among}
use Rattle.type_core.specs.Sound.{fits}

pub met_is : (f : List ℕ → List ℕ → Bool) (rs : List Reference)
    → all_pass (λ id types. list_any (f id) types) rs ≡ is_none (unmet_among f rs)
met_is f [] = refl
met_is f (r ∷ rs) = by (is_met f r) (met_is f rs)
  where
    by : (b : Bool) → all_pass (λ id types. list_any (f id) types) rs ≡ is_none (unmet_among f rs)
        → (b && all_pass (λ id types. list_any (f id) types) rs)
        ≡ is_none (option_map (λ r. r.pointer) (cond (not b) (Some r) (find (λ r. not (is_met f r)) rs)))
    by true e = e
    by false e = refl

pub other_is : (id : List ℕ) (rs : List Reference)
    → not (all_pass (λ i types. not (is_text i id)) rs) ≡ list_any (λ r. is_text r.id id) rs
other_is id [] = refl
other_is id (r ∷ rs) = by (is_text r.id id) (other_is id rs)
  where
    by : (b : Bool) → not (all_pass (λ i types. not (is_text i id)) rs) ≡ list_any (λ r. is_text r.id id) rs
        → not (not b && all_pass (λ i types. not (is_text i id)) rs) ≡ (b || list_any (λ r. is_text r.id id) rs)
    by true e = refl
    by false e = e

pub none_mapped : {A B : Type 0} (f : A → B) (o : Option A) → is_none (option_map f o) ≡ is_none o
none_mapped f None = refl
none_mapped f (Some a) = refl

-- an object without content fits as `null` does
pub fit_without : (f : List ℕ → List ℕ → Bool) (o : ObjectValue) (s : Rules) → None ≡ content_of o
    → (is_none (first.first_failure s null) && is_none (unmet_among f (references_in s null))) ≡ fits f o s
fit_without f o s none =
    ap (λ b. b
    && is_none (unmet_among f (references_in s null))) (sym (none_mapped failure_of (first.first_failure s null)))
    ∙ ap
    (λ c.
    is_none (option_map failure_of (first.first_failure s (unwrap_or c null)))
    && is_none (unmet_among f (references_in s (unwrap_or c null)))) none
