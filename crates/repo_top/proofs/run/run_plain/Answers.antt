use Rattle.std.proofs.Common.{refl, subst, inl}
use Rattle.ext_ops.specs.Offered.{offered}
use Rattle.repo_top.specs.Commands.{world}
use Rattle.command_line.specs.Command.{Answer, AreArgumentsOf, answer_in, command_in}
use Rattle.repo_top.specs.Run.{views}
use Rattle.repo_top.proofs.Completeness.{complete}
use Rattle.repo_top.proofs.run.run_plain.Goals as goal

pub returns-in-Answer-clause-complete : goal.returns-in-Answer-clause-complete
returns-in-Answer-clause-complete g c = λ none.
    let are = subst (λ a. AreArgumentsOf (command_in a) c.args.words.now) c.in-Answer.is c.in-Ok.ensures.ok in
    complete (views g.H.Disk.Disk g.H.Link.Link.state) c.args.words.now (offered c.args.extensions.operations c.args.extensions.hooks)
    (world (g.H.Host.state c.args.host.now) (g.S.Sink.state c.args.out.now)) (world (g.H.Host.state c.run_answer.new.host) (g.S.Sink.state c.args.out.now)) _
    (inl (record { command = Answer (answer_in c.in-Answer.arguments); are = are; ran = (c.run_answer.ensures.run, refl) })) none
