use Rattle.doip_message.specs.Asked.{asked_of}
use Rattle.doip_message.specs.Reading.{request}
use Rattle.ext_ops.specs.Offered.{offered}
use Rattle.repo_step.specs.Setting.{setting_of, state}
use Rattle.repo_step.proofs.AnswerLemmas.{plan_of_fault}
use Rattle.repo_step.proofs.InputLemmas.{request_brought}
use Rattle.repo_step.proofs.step.answer.Goals as goal

pub requested-requires : goal.requested-requires
requested-requires g c = record {
  brought = request_brought c.messages_bring_values.ensures.texts c.messages_bring_values.ensures.properties
      c.args.message.now.segments c.requires.short (asked_of c.in-Ok.request) c.in-Ok.ensures;
}

pub returns-in-Err : goal.returns-in-Err
returns-in-Err g c = record {
  plan = plan_of_fault
      (setting_of c.args.config.now (offered c.args.extensions.now.operations c.args.extensions.now.hooks))
      c.args.brought (state c.args.table.now.contents c.args.room) c.in-Err.field-0.request_id c.in-Err.field-0.why
      c.invalid.result c.planned.result (request c.args.message.now.segments) c.in-Err.ensures c.invalid.ensures
      c.planned.ensures;
}
