use Rattle.std.proofs.Common.{arith, ap, ◌∙◌}
use Rattle.std.proofs.lemmas.List.{length-replicate}
use Rattle.and_tree.specs.Plain.{Plain}
use Rattle.and_team_rows.proofs.Scripted.{left_and_looked, opened_stage, team_on, cell_on, root_taken, root_claimed}
use Rattle.and_team_rows.proofs.plain.with_claimed_root.Goals as goal

pub claim-requires : goal.claim-requires
claim-requires c =
    let same = left_and_looked c.in-Ok.tree c.left.new.self c.look.new.self _ _ _ _ _ c.left.ensures c.look.ensures
    ∙ ap (λ (p : Plain). p.state) c.in-Ok.ensures.ok in
    let stage = opened_stage c.look.new.self.state c.args.teams same in record {
      team = team_on 0 stage (rw length-replicate c.requires.0);
      cell = cell_on 0 stage (omega (arith, c.requires.0));
    }

pub returns-in-Taken-clause-key : goal.returns-in-Taken-clause-key
returns-in-Taken-clause-key c =
    let same = left_and_looked c.in-Ok.tree c.left.new.self c.look.new.self _ _ _ _ _ c.left.ensures c.look.ensures
    ∙ ap (λ (p : Plain). p.state) c.in-Ok.ensures.ok in
    root_taken c.args.teams same c.requires.0 (c.in_ok-branch.ensures.taken c.in-Taken.branch (rw c.in-Taken.is)).1

pub returns-in-Taken-clause-hands : goal.returns-in-Taken-clause-hands
returns-in-Taken-clause-hands c =
    let same = left_and_looked c.in-Ok.tree c.left.new.self c.look.new.self _ _ _ _ _ c.left.ensures c.look.ensures
    ∙ ap (λ (p : Plain). p.state) c.in-Ok.ensures.ok in
    (root_claimed c.args.teams same c.requires.0 (c.in_ok-branch.ensures.taken c.in-Taken.branch (rw c.in-Taken.is)).1).hands_are

pub returns-in-Taken-clause-cells : goal.returns-in-Taken-clause-cells
returns-in-Taken-clause-cells c =
    let same = left_and_looked c.in-Ok.tree c.left.new.self c.look.new.self _ _ _ _ _ c.left.ensures c.look.ensures
    ∙ ap (λ (p : Plain). p.state) c.in-Ok.ensures.ok in
    (root_claimed c.args.teams same c.requires.0 (c.in_ok-branch.ensures.taken c.in-Taken.branch (rw c.in-Taken.is)).1).cells_are
