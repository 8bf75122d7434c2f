-- What a text reads as (RFC 8259, by the definition of reading of `serde_json`; that numbers are integers, and that a
-- depth is asked for, is this project's own).
use Rattle.std.specs.Prelude.{ℕ, List, nat_le, if◌then◌else◌, Option, Some, None, option_map, option_and_then, Result, Ok, Err}
use Rattle.std.specs.Str.{is_utf8}
use Rattle.serde_json.specs.Data as parsed
use Rattle.serde_json.specs.Find.{as_integer}
use Rattle.serde_json.specs.Read.{read}
use Rattle.doip_json.specs.declared.fault.TextFault.{TextFault}
use Rattle.doip_json.specs.declared.fault.TextFault.TheVariants.{NotJson, TooDeep, NotWhole}
use Rattle.doip_json.specs.Value.{Value, null, truth, whole, text, list, table, Values, no_values, value, Entries, no_entries, entry}

-- The value of `serde_json`'s data, if each number in them is an integer of 64 bits.
abbrev mutual
  pub value_in : parsed.Data → Option Value
  value_in parsed.null = Some null
  value_in (parsed.boolean b) = Some (truth b)
  value_in (parsed.number n) = option_map whole (as_integer n)
  value_in (parsed.string s) = Some (text s)
  value_in (parsed.array ds) = option_map list (values_in ds)
  value_in (parsed.object ms) = option_map table (entries_in ms)

  -- the items of an array
  pub values_in : parsed.Items → Option Values
  values_in parsed.no_items = Some no_values
  values_in (parsed.item d ds) = option_and_then (λ v. option_map (value v) (values_in ds)) (value_in d)

  -- the entries of an object
  pub entries_in : parsed.Members → Option Entries
  entries_in parsed.no_members = Some no_entries
  entries_in (parsed.member k d ms) = option_and_then (λ v. option_map (entry k v) (entries_in ms)) (value_in d)

-- a value, or the fault that there is none
abbrev pub or_fault : TextFault → Option Value → Result Value TextFault
or_fault fault None = Err fault
or_fault fault (Some v) = Ok v

-- the value of data that nest no deeper than the depth: too deep is reported before not whole
abbrev pub within_depth : ℕ → parsed.Data → Result Value TextFault
within_depth depth d = if nat_le (parsed.depth d) depth then or_fault NotWhole (value_in d) else Err TooDeep

-- the value of what was parsed
abbrev pub if_data : ℕ → Option parsed.Data → Result Value TextFault
if_data depth None = Err NotJson
if_data depth (Some d) = within_depth depth d

-- The value of a text at a depth, or the first fault: the bytes are UTF-8, and `serde_json` reads them.
abbrev pub reading : List ℕ → ℕ → Result Value TextFault
reading bytes depth = if_data depth (if is_utf8 bytes then read bytes else None)
