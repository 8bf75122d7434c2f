-- What the operations share.
use Rattle.std.specs.Prelude.{ℕ, List, [], Option, Some, None, Result, Ok, Err}
use Rattle.doip_json.specs.Value.{Value, Entries}
use Rattle.doip_json.specs.Look.{entry_of}
use Rattle.doip_message.specs.Asked.{Content, no_content, one_value, parts}
use Rattle.dobj_draft.specs.declared.draft.Draft.{Draft}
use Rattle.dobj_draft.specs.declared.draft.ObjectFault.{ObjectFault}
use Rattle.dobj_draft.specs.Draft.{draft, unless_null}
use Rattle.repo_step.specs.declared.refusal.Refusal.{Refusal}
use Rattle.repo_step.specs.declared.refusal.Refusal.TheVariants.{BadInput}

-- an argument that is there; `null` counts as absent
abbrev pub argument : List ℕ → Entries → Option Value
argument key arguments = unless_null (entry_of key arguments)

-- a fault of the input is a refusal
abbrev pub or_refused : Result Draft ObjectFault → Result Draft Refusal
or_refused (Ok d) = Ok d
or_refused (Err fault) = Err (BadInput fault)

-- the draft that the input of a request is, or the refusal of its first fault
abbrev pub drafted : Content → Result Draft Refusal
drafted no_content = or_refused (draft None [])
drafted (one_value v) = or_refused (draft (Some v) [])
drafted (parts ss) = or_refused (draft None ss)
