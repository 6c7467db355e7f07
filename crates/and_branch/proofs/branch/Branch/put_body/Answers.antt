use Rattle.std.proofs.Common.{◌≡◌, map, refl, sym, subst}
use Rattle.std.specs.Prelude.{OnOk, drop}
use Rattle.and_model.specs.Programs.{clause_at}
use Rattle.and_program.specs.Items.{node_item}
use Rattle.and_program.specs.Skeletons.{item_of}
use Rattle.and_cells.specs.Ranges.{NamedProgram}
use Rattle.and_branch_parts.specs.Next.{HasPut, goals_from}
use Rattle.and_branch.proofs.BodiesRun.{all_put}
use Rattle.and_branch.proofs.branch.Branch.put_body.Goals as goal

pub push_body_from-requires-clause-items : goal.push_body_from-requires-clause-items
push_body_from-requires-clause-items g c =
    subst (λ (p : NamedProgram). map (item_of p.skeleton.nodes) (map node_item c.args.items.now) ≡ (clause_at p.program c.args.clause.0).body)
    c.requires.program c.requires.items.body

pub returns-clause-put : goal.returns-clause-put
returns-clause-put g c =
    all_put (goals_from c.args.clause.0 c.args.node c.args.from (drop c.args.from (clause_at g.N.Naming.program.program c.args.clause.0).body)) _
    c.args.self.now c.self.view_is c.self.inside.goals c.push_body_from.new.goals (refl, refl, refl) c.push_body_from.result
    (subst (λ (p : NamedProgram). OnOk c.push_body_from.result
    (HasPut (goals_from c.args.clause.0 c.args.node c.args.from (drop c.args.from (clause_at p.program c.args.clause.0).body))
    c.self.inside.goals c.push_body_from.new.goals)) (sym c.requires.program) c.push_body_from.ensures)
