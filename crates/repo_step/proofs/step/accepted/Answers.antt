use Rattle.std.proofs.Common.{◌∙◌, sym, refl, option_map}
use Rattle.doip_json.specs.Value.{entries_from}
use Rattle.doip_json.specs.Meaning.{value_of}
use Rattle.doip_message.specs.Asked.{content_of}
use Rattle.ext_ops.specs.Offered.{offered}
use Rattle.repo_step.specs.Asking.{properties}
use Rattle.repo_step.specs.Turn.{setting_in, state_in}
use Rattle.repo_step.proofs.StepLemmas.{stop_caller, no_operation, for_service, no_target, for_object, extension_code}
use Rattle.repo_step.proofs.step.accepted.Goals as goal

pub returns-in-Err : goal.returns-in-Err
returns-in-Err g c =
    let offers = offered c.args.extensions.now.operations c.args.extensions.now.hooks in
    let asked = properties c.args.target_id.now c.args.operation_id.now (entries_from c.args.attributes.now)
    (option_map (λ v. value_of v.now) c.args.authentication) (content_of c.args.input) in
    stop_caller (setting_in c.args.turn offers) c.args.turn.brought (state_in c.args.turn) asked c.in-Err.stop
    (c.in-Err.ensures.caller offers)

pub returns-in_default : goal.returns-in_default
returns-in_default g c =
    let offers = offered c.args.extensions.now.operations c.args.extensions.now.hooks in
    let setting = setting_in c.args.turn offers in
    let asked = properties c.args.target_id.now c.args.operation_id.now (entries_from c.args.attributes.now)
    (option_map (λ v. value_of v.now) c.args.authentication) (content_of c.args.input) in
    no_operation setting c.args.turn.brought (state_in c.args.turn) asked c.in-Ok.caller (c.in-Ok.ensures.caller offers)
    (sym (c.operation_in.ensures setting refl) ∙ c.in_default.is)

pub returns-then-is_service : goal.returns-then-is_service
returns-then-is_service g c =
    let offers = offered c.args.extensions.now.operations c.args.extensions.now.hooks in
    let setting = setting_in c.args.turn offers in
    let asked = properties c.args.target_id.now c.args.operation_id.now (entries_from c.args.attributes.now)
    (option_map (λ v. value_of v.now) c.args.authentication) (content_of c.args.input) in
    for_service setting c.args.turn.brought (state_in c.args.turn) asked c.in-Ok.caller (c.in-Ok.ensures.caller offers) c.in-Some.operation
    (sym (c.operation_in.ensures setting refl) ∙ c.in-Some.is) c.at_service.result (c.if-is_service.ensures offers)
    (c.at_service.ensures offers asked refl)

pub returns-in_default-get : goal.returns-in_default-get
returns-in_default-get g c =
    let offers = offered c.args.extensions.now.operations c.args.extensions.now.hooks in
    let setting = setting_in c.args.turn offers in
    let asked = properties c.args.target_id.now c.args.operation_id.now (entries_from c.args.attributes.now)
    (option_map (λ v. value_of v.now) c.args.authentication) (content_of c.args.input) in
    no_target setting c.args.turn.brought (state_in c.args.turn) asked c.in-Ok.caller (c.in-Ok.ensures.caller offers) c.in-Some.operation
    (sym (c.operation_in.ensures setting refl) ∙ c.in-Some.is) (c.if-is_service.ensures offers)
    (sym c.in_default-get.ensures.found)

pub at_object-requires-clause-extension : goal.at_object-requires-clause-extension
at_object-requires-clause-extension g c = λ code same.
    let offers = offered c.args.extensions.now.operations c.args.extensions.now.hooks in
    let setting = setting_in c.args.turn offers in
    extension_code setting c.args.operation_id.now c.in-Some.operation code
    (sym (c.operation_in.ensures setting refl) ∙ c.in-Some.is) same

pub returns : goal.returns
returns g c =
    let offers = offered c.args.extensions.now.operations c.args.extensions.now.hooks in
    let setting = setting_in c.args.turn offers in
    let asked = properties c.args.target_id.now c.args.operation_id.now (entries_from c.args.attributes.now)
    (option_map (λ v. value_of v.now) c.args.authentication) (content_of c.args.input) in
    for_object setting c.args.turn.brought (state_in c.args.turn) asked c.in-Ok.caller (c.in-Ok.ensures.caller offers) c.in-Some.operation
    (sym (c.operation_in.ensures setting refl) ∙ c.in-Some.is) c.at_object.result c.in-Some-get.object.now (c.if-is_service.ensures offers)
    (sym c.in-Some-get.ensures.found) (c.at_object.ensures asked refl refl)
