use Rattle.std.proofs.Common.{rules, ◌∙◌, ap, ◌∷◌, [], ◌++◌}
use Rattle.and_workers.specs.Waiting.{waiting, waiting_for}
use Rattle.and_workers.proofs.Suspending.{one_more}
use Rattle.and_workers.proofs.suspended.Suspended.wait.Goals as goal

pub returns-clause-ok : goal.returns-clause-ok
returns-clause-ok c =
    let gs = c.self.inside.goals.items in
    let cs = c.self.inside.cells.items in
    ap (λ goals. waiting goals c.push_reserved.new.self.items) (search rules)
    ∙ ap (λ cells. waiting (gs ++ c.args.goal ∷ []) cells) (search rules)
    ∙ one_more gs cs c.args.goal c.args.cell c.self.invariant
    ∙ ap (λ ws. ws ++ waiting_for c.args.goal c.args.cell ∷ []) c.self.view_is
