-- Why data that were parsed are no value. A private conversion is stated by it.
use Rattle.std.specs.Prelude.{◌≡◌, ◌≢◌, Option, None}
use Rattle.doip_json.specs.declared.fault.JsonFault.{JsonFault}
use Rattle.doip_json.specs.declared.fault.JsonFault.TheVariants.{NotWhole, Memory}

-- unless memory ran out, a number isn't an integer, so there is no value
abbrev pub IsNotWhole : {X : Type 0} → Option X → JsonFault → Type 0
IsNotWhole found fault = fault ≢ Memory → (fault ≡ NotWhole) × (found ≡ None)
