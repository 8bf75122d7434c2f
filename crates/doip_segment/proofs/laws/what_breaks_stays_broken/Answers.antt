use Rattle.doip_segment.proofs.StayLemmas.{stays, rest_unspelt, framed_on}
use Rattle.doip_segment.proofs.laws.what_breaks_stays_broken.Goals as goal

pub returns-clause-framed : goal.returns-clause-framed
returns-clause-framed c = λ limits bytes more messages rest place reason framed broken.
    framed_on limits bytes more messages rest framed (stays limits rest more place reason (rest_unspelt limits bytes messages rest framed) broken).unspelt

pub returns-clause-broken : goal.returns-clause-broken
returns-clause-broken c = λ limits bytes more messages rest place reason framed broken.
    (stays limits rest more place reason (rest_unspelt limits bytes messages rest framed) broken).broken
