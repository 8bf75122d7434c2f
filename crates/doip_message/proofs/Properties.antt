-- Properties of a first segment, read one after another.
use Rattle.std.proofs.Common.{◌≡◌, ◌≢◌, ℕ, List, [], ◌∷◌, length, Some, refl}
use Rattle.doip_json.specs.Value.{Value, table, entries_from}
use Rattle.doip_message.specs.Reading.{authentication_in}

-- a JSON object with entries is who asks
pub some_authentication : (es : List (List ℕ × Value)) → length es ≢ 0 → Some (table (entries_from es)) ≡ authentication_in (Some (table (entries_from es)))
some_authentication [] h = absurd (h refl)
some_authentication (e ∷ es) h = refl
