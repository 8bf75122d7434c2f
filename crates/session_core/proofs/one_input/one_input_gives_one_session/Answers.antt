use Rattle.session_core.proofs.OneInputLemmas.{whole, read_the_same}
use Rattle.session_core.proofs.one_input.one_input_gives_one_session.Goals as goal

pub returns-clause-messages : goal.returns-clause-messages
returns-clause-messages c = λ limits one other h.
    c.cuts_do_not_matter.ensures.messages limits (whole one) (whole other) (read_the_same limits one other h) h.first_faultless.1 h.second_faultless.1

pub returns-clause-end : goal.returns-clause-end
returns-clause-end c = λ limits one other h.
    c.cuts_do_not_matter.ensures.end limits (whole one) (whole other) (read_the_same limits one other h) h.first_faultless h.second_faultless

pub returns-clause-written : goal.returns-clause-written
returns-clause-written c = λ limits one other h same.
    c.cuts_do_not_matter.ensures.written limits (whole one) (whole other) (read_the_same limits one other h) h.first_faultless.1 h.second_faultless.1 same
