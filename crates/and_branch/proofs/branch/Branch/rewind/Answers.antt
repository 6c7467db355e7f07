use Rattle.std.proofs.Common.{refl, ap}
use Rattle.std.proofs.lemmas.Result.{on_ok_weaker}
use Rattle.and_pending.specs.Pending.{Pending, goals_of}
use Rattle.and_branch_parts.proofs.PassedGoals.{all_rewound}
use Rattle.and_branch.proofs.branch.Branch.rewind.Goals as goal

pub returns-clause-moved : goal.returns-clause-moved
returns-clause-moved g c =
    all_rewound _ c.args.self.now c.self.view_is c.self.inside.goals c.rewind.new.self (refl, refl, refl) c.rewind.result c.rewind.ensures

pub returns-clause-first : goal.returns-clause-first
returns-clause-first g c =
    on_ok_weaker c.rewind.result (λ is. ap (λ (q : Pending). goals_of q.left) is) c.rewind.ensures
