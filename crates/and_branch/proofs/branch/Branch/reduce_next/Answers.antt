use Rattle.std.proofs.Common.{sym, ap, ◌∙◌, subst, Ok}
use Rattle.std.proofs.lemmas.Result.{on_ok_weaker}
use Rattle.and_model.specs.Programs.{clause_at, clause_weight}
use Rattle.and_cells.specs.Ranges.{NamedProgram}
use Rattle.and_reduction.specs.Items.{AreItemsOf, IsHeadOf}
use Rattle.and_branch_parts.specs.Branches.{Held}
use Rattle.and_branch_parts.specs.Next.{IsReduced}
use Rattle.and_branch_parts.specs.Origins.{KeepsBack}
use Rattle.and_branch.proofs.BodiesRun.{entered_at, kept_to}
use Rattle.and_branch.proofs.branch.Branch.reduce_next.Goals as goal

pub enter_next-requires-clause-weight : goal.enter_next-requires-clause-weight
enter_next-requires-clause-weight g c =
    c.weight-weight.ensures ∙ ap (λ (p : NamedProgram). clause_weight (clause_at p.program c.args.clause.0)) (sym c.requires.program)

pub enter_next-requires-clause-head : goal.enter_next-requires-clause-head
enter_next-requires-clause-head g c =
    subst (λ (p : NamedProgram). IsHeadOf p c.args.clause.0 c.head-head.result.0) (sym c.requires.program)
    (c.head-head.ensures.node, c.head-head.ensures.there)

pub enter_next-requires-clause-items : goal.enter_next-requires-clause-items
enter_next-requires-clause-items g c =
    subst (λ (p : NamedProgram). AreItemsOf p c.args.clause.0 c.items-items.result.now) (sym c.requires.program)
    (record { nodes = c.items-items.ensures.items; body = c.items-items.ensures.body })

pub put_body-requires-clause-items : goal.put_body-requires-clause-items
put_body-requires-clause-items g c =
    subst (λ (p : NamedProgram). AreItemsOf p c.args.clause.0 c.items-items.result.now) (sym c.requires.program)
    (record { nodes = c.items-items.ensures.items; body = c.items-items.ensures.body })

pub returns-in-Solved-clause-used : goal.returns-in-Solved-clause-used
returns-in-Solved-clause-used g c =
    on_ok_weaker c.put_body.result (λ is. ap (λ (b : Held). b.used) is ∙ c.in_ok-enter_next.ensures.used) c.put_body.ensures.put

pub returns-in-Solved-clause-reduced : goal.returns-in-Solved-clause-reduced
returns-in-Solved-clause-reduced g c =
    let P = g.N.Naming.program in
    let node = c.self.inside.used in
    let entered = entered_at P c.args.clause.0 c.args.self.now.used node c.args.self.now c.enter_next.new.self
    (sym (ap (λ (b : Held). b.used) c.self.view_is)) (c.enter_next.ensures.entered (c.in_ok-enter_next.was ∙ ap Ok c.in-Solved.is)) in
    on_ok_weaker c.put_body.result (λ is. subst (λ (b : Held). IsReduced P c.args.self.now b c.args.clause.0) (sym is) entered)
    c.put_body.ensures.put

pub returns-in-Solved-clause-back : goal.returns-in-Solved-clause-back
returns-in-Solved-clause-back g c =
    let back = kept_to g.N.Naming.program c.args.clause.0 c.self.inside.used 0 c.args.self.now c.enter_next.new.self
    c.in_ok-enter_next.ensures.back in
    on_ok_weaker c.put_body.result (λ is. subst (λ (b : Held). KeepsBack c.args.self.now b) (sym is) back) c.put_body.ensures.put

pub returns-in-NoSolution-clause-reduced : goal.returns-in-NoSolution-clause-reduced
returns-in-NoSolution-clause-reduced g c =
    (c.enter_next.ensures.fails (c.in_ok-enter_next.was ∙ ap Ok c.in-NoSolution.is)).0
