-- The fault of a text that a fault of reading is.
use Rattle.std.specs.Prelude.{Option, Some, None}
use Rattle.doip_json.specs.declared.fault.JsonFault.{JsonFault}
use Rattle.doip_json.specs.declared.fault.JsonFault.TheVariants as faults
use Rattle.doip_json.specs.declared.fault.TextFault.{TextFault}
use Rattle.doip_json.specs.declared.fault.TextFault.TheVariants.{NotJson, TooDeep, NotWhole}

-- each fault but out of memory is a fault of the text
abbrev pub text_fault_of : JsonFault → Option TextFault
text_fault_of faults.NotJson = Some NotJson
text_fault_of faults.TooDeep = Some TooDeep
text_fault_of faults.NotWhole = Some NotWhole
text_fault_of faults.Memory = None
