use Rattle.and_overlay.proofs.Again.{goes_the_same_way, set_again, told_by_look, goes_on_earlier}
use Rattle.and_overlay.proofs.laws.a_trial_goes_the_same_way.Goals as goal

pub returns-clause-told : goal.returns-clause-told
returns-clause-told c = goes_the_same_way

pub returns-clause-set : goal.returns-clause-set
returns-clause-set c = set_again

pub returns-clause-looks : goal.returns-clause-looks
returns-clause-looks c = told_by_look

pub returns-clause-earlier : goal.returns-clause-earlier
returns-clause-earlier c = goes_on_earlier
