use Rattle.std.proofs.Common.{◌≡◌, sym, ◌∙◌, subst}
use Rattle.and_program.specs.Loaded.{shape_at}
use Rattle.and_program.specs.Shown.{shown}
use Rattle.and_program.specs.declared.node.NodeKind.TheVariants.{Variable}
use Rattle.and_cells.specs.Ranges.{NamedProgram}
use Rattle.and_determinacy.proofs.SureParts.{kind_variable}
use Rattle.and_determinacy.proofs.seeing.argument_meets.Goals as goal

pub take-requires-clause-asked : goal.take-requires-clause-asked
take-requires-clause-asked g c =
    let P = g.N.Naming.program in
    let n = c.args.asked.0 in
    kind_variable P c.requires.falls n c.in-Variable.number
    (subst (λ (Q : NamedProgram). shown (shape_at Q.skeleton n) ≡ Variable c.in-Variable.number) (sym c.requires.program)
    (sym c.kind.ensures.shape ∙ c.in-Variable.is))
