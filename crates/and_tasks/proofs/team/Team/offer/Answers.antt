use Rattle.std.proofs.Common.{◌∙◌, ◌∷◌}
use Rattle.and_cells.specs.Ranges.{NamedProgram}
use Rattle.and_tasks.specs.declared.placed.PlacedBranch.{PlacedBranch}
use Rattle.and_tasks.specs.declared.stack.Task.TheVariants.{One}
use Rattle.and_tasks.proofs.Having.{key_in_hand}
use Rattle.and_tasks.proofs.Sharing.{published_team, works_published, works_not_free, works_spent, works_back}
use Rattle.and_tasks.proofs.team.Team.offer.Goals as goal

pub publish-requires-clause-hand : goal.publish-requires-clause-hand
publish-requires-clause-hand g c =
    let s = c.args.self.now in
    key_in_hand g.N.Naming.program c.args.shared.now.tree.now s.pass c.args.branch s.stack.items c.requires.works.has

pub invariant_of-self : goal.invariant_of-self
invariant_of-self g c =
    let s = c.args.self.now in
    let told = c.publish.ensures in
    let same = published_team (λ (x : PlacedBranch g.row.N.Denot). x.branch.key) c.args.cell (record { branch = c.args.branch }) s.pass
    c.publish.new.pass c.publish.result told.done told.not_free told.spent in
    record { number_is = same ∙ s.number_is; left_shares = s.left_shares }

pub returns-in-Done-clause-none : goal.returns-in-Done-clause-none
returns-in-Done-clause-none g c =
    let s = c.args.self.now in
    works_published g.N.Naming.program c.args.shared.now.tree.now c.args.cell c.args.branch s.pass c.publish.new.pass s.found s.stack.items
    c.requires.works (c.publish.ensures.done c.in-Done.is)

pub returns-in-NotFree-clause-some : goal.returns-in-NotFree-clause-some
returns-in-NotFree-clause-some g c =
    let P : NamedProgram = g.N.Naming.program in
    let tree = c.args.shared.now.tree.now in
    let s = c.args.self.now in
    let b = c.args.branch in
    let back = c.publish.ensures.not_free c.in-NotFree.branch c.in-NotFree.seen c.in-NotFree.is in
    works_back P tree c.publish.new.pass s.found s.stack.items _ c.in-NotFree.branch back.0
    (works_not_free P tree c.args.cell b.key _ s.pass c.publish.new.pass s.found (One b ∷ s.stack.items) c.requires.works back.1)

pub returns-in-Spent-clause-some : goal.returns-in-Spent-clause-some
returns-in-Spent-clause-some g c =
    let P : NamedProgram = g.N.Naming.program in
    let tree = c.args.shared.now.tree.now in
    let s = c.args.self.now in
    let b = c.args.branch in
    let back = c.publish.ensures.spent c.in-Spent.branch c.in-Spent.is in
    works_back P tree c.publish.new.pass s.found s.stack.items _ c.in-Spent.branch back.0
    (works_spent P tree c.args.cell b.key s.pass c.publish.new.pass s.found (One b ∷ s.stack.items) c.requires.works back.1)
