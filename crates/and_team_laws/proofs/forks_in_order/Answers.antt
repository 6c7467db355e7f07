use Rattle.and_team_laws.proofs.Agreeing.{uncut, each_order}
use Rattle.and_team_laws.proofs.forks_in_order.Goals as goal

pub returns-clause-some_order : goal.returns-clause-some_order
returns-clause-some_order c P limit teams history entries forks failed r =
    let u = uncut P limit teams history entries forks failed r in
    (u.ordered, u.are, u.as_many)

pub returns-clause-each_order : goal.returns-clause-each_order
returns-clause-each_order c = each_order
