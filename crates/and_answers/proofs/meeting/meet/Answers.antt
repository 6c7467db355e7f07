use Rattle.and_answers.proofs.RunLemmas.{behind_more}
use Rattle.and_answers.proofs.meeting.meet.Goals as goal

pub returns-then-one-other-clause-behind : goal.returns-then-one-other-clause-behind
returns-then-one-other-clause-behind c =
    λ last first second. (first, behind_more last c.args.one c.args.other c.if-one-other.true first second)

pub returns-then-one-other-2-clause-behind : goal.returns-then-one-other-2-clause-behind
returns-then-one-other-2-clause-behind c =
    λ last first second. (second, behind_more last c.args.other c.args.one c.if-one-other-2.true second first)
