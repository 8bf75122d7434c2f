-- The information of a service (DOIP 2.0).
use Rattle.std.specs.Prelude.{ℕ, List, [], ◌∷◌, pos, codes}
use Rattle.doip_json.specs.Value.{Value, text, whole, table, entries_from}

-- how to reach a service at this address and port (DOIP 2.0, the service's information)
abbrev pub addresses : List ℕ → ℕ → List (List ℕ × Value)
addresses address port =
    (codes "ipAddress", text address) ∷ (codes "port", whole (pos port))
    ∷ (codes "protocol", text (codes "TCP")) ∷ (codes "protocolVersion", text (codes "2.0")) ∷ []

-- the information of a service
abbrev pub information : List ℕ → List ℕ → ℕ → Value
information service address port =
    table (entries_from ((codes "attributes", table (entries_from (addresses address port)))
    ∷ (codes "id", text service) ∷ (codes "type", text (codes "0.TYPE/DOIPServiceInfo")) ∷ []))
