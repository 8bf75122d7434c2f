-- What an operation comes to.
use Rattle.std.specs.Prelude.{ℕ, List, Option, None, Some, Result, Ok}
use Rattle.doip_json.specs.Value.{Value}
use Rattle.doip_message.specs.Asked.{Content, no_content, one_value}
use Rattle.dobj_model.specs.declared.object.ObjectValue.{ObjectValue}
use Rattle.dobj_model.specs.Shown.{shown_form}
use Rattle.record_core.specs.declared.change.Change.{Change}
use Rattle.record_core.specs.declared.change.Change.TheVariants.{Put, Remove}
use Rattle.repo_step.specs.declared.refusal.Refusal.{Refusal}

-- the output in the reply, and the change, if there is one
pub record Effect : Type 0 where
  pub output : Content
  pub change : Option Change

-- the effect of an operation, or its first refusal
abbrev pub Attempt : Type 0
Attempt = Result Effect Refusal

-- an output, and no change
abbrev pub outputs : Content → Attempt
outputs output = Ok (record { output = output; change = None })

-- one value as output, and no change
abbrev pub shows : Value → Attempt
shows v = outputs (one_value v)

-- an object is put, and shown
abbrev pub puts : ObjectValue → Option ℕ → Attempt
puts object counter = Ok (record { output = one_value (shown_form object); change = Some (Put object counter) })

-- an object is removed, and nothing is output
abbrev pub removes : List ℕ → Attempt
removes id = Ok (record { output = no_content; change = Some (Remove id) })
