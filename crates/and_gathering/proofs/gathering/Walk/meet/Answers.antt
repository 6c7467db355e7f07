use Rattle.and_gathering.specs.Gathering.{followed}
use Rattle.std.proofs.Common.{refl}
use Rattle.and_gathering.proofs.gathering.Walk.meet.Goals as goal

pub returns-else-self-all : goal.returns-else-self-all
returns-else-self-all c = λ ok.
    let some = c.in-Some.ensures.some in
    followed c.in-Some.taken some.0 some.1 (c.follow.ensures ok) refl refl
