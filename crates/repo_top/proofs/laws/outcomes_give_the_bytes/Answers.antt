use Rattle.std.proofs.Common.{◌≡◌, List, map, sym, ap, ◌∙◌}
use Rattle.doip_message.specs.Pairs.{messages_of, texts_of}
use Rattle.session_core.specs.Session.{Transcript}
use Rattle.repo_step.specs.Setting.{Setting, State}
use Rattle.repo_step.specs.History.{Entry}
use Rattle.repo_top.specs.Session.{IsSessionOf, HaveSameOutcomes}
use Rattle.repo_top.proofs.LawLemmas.{own_messages, same_causes}
use Rattle.repo_top.proofs.laws.outcomes_give_the_bytes.Goals as goal
use Rattle.repo_top.proofs.laws.outcomes_give_the_bytes.Goals.{After-equal_causes_give_equal_texts}

-- the same messages and the same outcomes give the same texts
texts : After-equal_causes_give_equal_texts → (setting : Setting) (first : State) (past other : List Entry) (t u : Transcript) → IsSessionOf setting first past t → IsSessionOf setting first other u
    → messages_of t.pairs ≡ messages_of u.pairs → HaveSameOutcomes past other → texts_of t.pairs ≡ texts_of u.pairs
texts c setting first past other t u has had messages same =
    let spoke : map (λ e. e.message) past ≡ map (λ e. e.message) other =
    sym (own_messages setting first 0 0 past has.past.no_other) ∙ (sym (ap messages_of has.pairs) ∙ (messages ∙ (ap messages_of had.pairs ∙ own_messages setting first 0 0 other had.past.no_other))) in
    let causes = same_causes past other spoke same.outcomes same.brought in
    let pairs = c.equal_causes_give_equal_texts.ensures setting first 0 0 0 0 past other has.past.no_other had.past.no_other causes in
    ap texts_of (has.pairs ∙ (pairs ∙ sym had.pairs))

pub returns-clause-input : goal.returns-clause-input
returns-clause-input c = λ setting first limits past other t u has had one same.
    let messages = c.one_input_gives_one_session.ensures.messages limits t u one in
    (c.one_input_gives_one_session.ensures.written limits t u one (texts c setting first past other t u has had messages same), c.one_input_gives_one_session.ensures.end limits t u one)

pub returns-clause-read : goal.returns-clause-read
returns-clause-read c = λ setting first limits past other t u has had both same ended ended'.
    let messages = c.cuts_do_not_matter.ensures.messages limits t u both ended ended' in
    c.cuts_do_not_matter.ensures.written limits t u both ended ended' (texts c setting first past other t u has had messages same)
