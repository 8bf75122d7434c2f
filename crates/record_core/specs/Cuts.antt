-- What private readers return of a record's bytes.
use Rattle.std.specs.Prelude.{◌≡◌, ◌<◌, ◌^◌, ℕ, List, length, map, Option, unwrap_or, Result, Ok, Err, ⊤}
use Rattle.std.specs.List.{flat_map, AllByRecursion}
use Rattle.doip_json.specs.declared.value.Json.{Json}
use Rattle.doip_json.specs.Value.{Value}
use Rattle.doip_json.specs.Meaning.{value_of}
use Rattle.doip_json.specs.Read.{reading}
use Rattle.dobj_model.specs.declared.elements.Element.{Element}
use Rattle.dobj_model.specs.Name.{IsName}
use Rattle.dobj_model.specs.Shown.{element_form}
use Rattle.record_core.specs.declared.change.RecordFault.{RecordFault}
use Rattle.record_core.specs.declared.change.RecordFault.TheVariants.{NotARecord, Memory}
use Rattle.record_core.specs.Body.{payload}
use Rattle.record_core.specs.Storable.{IsCounterIfThere}

-- this is returned, unless memory ran out
abbrev pub Yields : {X : Type 0} → Result X RecordFault → X → Type 0
Yields (Ok x) y = x ≡ y
Yields (Err NotARecord) y = ⊥
Yields (Err Memory) y = ⊤

-- the counter of a put that this number stands for
abbrev pub IsCounted : ℕ → Result (Option ℕ) RecordFault → Type 0
IsCounted n (Ok counter) = IsCounterIfThere counter × (unwrap_or counter 0 ≡ n)
IsCounted n (Err fault) = (fault ≡ NotARecord)
    × ((counter : Option ℕ) → IsCounterIfThere counter → unwrap_or counter 0 ≡ n → ⊥)

-- the value of a text, which nests at most 67 deep
abbrev pub IsValueOf : List ℕ → Result Json RecordFault → Type 0
IsValueOf shown (Ok json) = reading shown 67 ≡ Ok (value_of json)
IsValueOf shown (Err NotARecord) = (v : Value) → reading shown 67 ≡ Ok v → ⊥
IsValueOf shown (Err Memory) = ⊤

-- these elements are listed, and these are their bytes
pub record AreListed (items : List Value) (payloads : List ℕ) (es : List Element) : Type 0 where
  pub names : AllByRecursion (λ e. IsName e.id) es
  pub sizes : AllByRecursion (λ e. length e.bytes < 2 ^ 64) es
  pub listed : items ≡ map element_form es
  pub bytes : payloads ≡ flat_map payload es

-- the element and the rest, unless memory ran out
abbrev pub YieldsFirst : {R : Type 0} → (R → List ℕ) → Result (Element × R) RecordFault → Element → List ℕ → Type 0
YieldsFirst now (Ok p) e more = (p.0 ≡ e) × (now p.1 ≡ more)
YieldsFirst now (Err NotARecord) e more = ⊥
YieldsFirst now (Err Memory) e more = ⊤

-- these items, unless memory ran out
abbrev pub YieldsItems : {R X : Type 0} → (R → List X) → Result R RecordFault → List X → Type 0
YieldsItems items (Ok v) es = items v ≡ es
YieldsItems items (Err NotARecord) es = ⊥
YieldsItems items (Err Memory) es = ⊤
