-- What a reply shows, as an output.
use Rattle.std.specs.Prelude.{Option, None, Some, Result, Ok, Err}
use Rattle.doip_json.specs.Meaning.{value_of}
use Rattle.doip_message.specs.Asked.{Content, no_content, one_value, parts}
use Rattle.dobj_model.specs.Shown.{shown_form}
use Rattle.dobj_model.specs.Parts.{object_segments}
use Rattle.record_core.specs.declared.change.Change.{Change}
use Rattle.record_core.specs.declared.change.Change.TheVariants.{Put, Remove, Counter}
use Rattle.repo_step.specs.declared.shown.Shown.{Shown}
use Rattle.repo_step.specs.declared.shown.Shown.TheVariants as shows
use Rattle.repo_step.specs.declared.shown.Made.{Made}
use Rattle.repo_step.specs.declared.planned.Planned.{Planned}
use Rattle.repo_step.specs.declared.refusal.Refusal.{Refusal}
use Rattle.repo_step.specs.Information.{information}
use Rattle.repo_step.specs.Effect.{Effect, Attempt}
use Rattle.repo_step.specs.Step.{Plan, plan_with}
use Rattle.repo_step.specs.operations.Retrieve.{element_content}

-- the object that a change puts
abbrev pub new_content : Option Change → Content
new_content None = no_content
new_content (Some (Put o counter)) = one_value (shown_form o)
new_content (Some (Remove id)) = no_content
new_content (Some (Counter n)) = no_content

-- the output that is shown, beside this change
abbrev pub content_shown : Option Change → Shown → Content
content_shown change shows.Nothing = no_content
content_shown change (shows.Information config) =
    one_value (information config.now.service config.now.address config.now.port)
content_shown change (shows.Value json) = one_value (value_of json)
content_shown change (shows.Stored o) = one_value (shown_form o.now)
content_shown change (shows.WithElements o) = parts (object_segments o.now)
content_shown change (shows.OfElement e) = element_content e.now
content_shown change shows.New = new_content change

-- the effect of what an operation made
abbrev pub effect_of : Made → Effect
effect_of m = record { output = content_shown m.change m.shown; change = m.change }

-- the attempt of a planned turn
abbrev pub attempt_of : Result Made Refusal → Attempt
attempt_of (Ok m) = Ok (effect_of m)
attempt_of (Err refusal) = Err refusal

-- the plan that a planned turn is
abbrev pub planned_of : Planned → Plan
planned_of p = plan_with p.request_id (attempt_of p.attempt)
