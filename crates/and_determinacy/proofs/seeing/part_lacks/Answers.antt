use Rattle.std.proofs.Common.{◌≡◌, length, refl, sym, ap, ◌∙◌, subst, rules}
use Rattle.and_program.specs.Loaded.{shape_at, arguments_at}
use Rattle.and_program.specs.Shown.{shown, count_of}
use Rattle.and_program.specs.declared.node.NodeKind.TheVariants.{Variable, Number, Compound}
use Rattle.and_cells.specs.Ranges.{NamedProgram}
use Rattle.and_determinacy.proofs.SureParts.{kind_variable, number_solid, compound_solid, constant_ground, no_arguments}
use Rattle.and_determinacy.proofs.SureSteps.{constant_lacks}
use Rattle.and_determinacy.proofs.seeing.part_lacks.Goals as goal

pub variable_lacks-requires-clause-asked : goal.variable_lacks-requires-clause-asked
variable_lacks-requires-clause-asked g c =
    let P = g.N.Naming.program in
    let n = c.args.asked.0 in
    kind_variable P c.requires.falls n c.in-Variable.number
    (subst (λ (Q : NamedProgram). shown (shape_at Q.skeleton n) ≡ Variable c.in-Variable.number) (sym c.requires.program)
    (sym c.kind.ensures.shape ∙ c.in-Variable.is))

pub returns-in-Number : goal.returns-in-Number
returns-in-Number g c = λ e.
    let P = g.N.Naming.program in
    let n = c.args.asked.0 in
    let kind = subst (λ (Q : NamedProgram). shown (shape_at Q.skeleton n) ≡ Number c.in-Number.field-0) (sym c.requires.program)
    (sym c.kind.ensures.shape ∙ c.in-Number.is) in
    let counted = subst (λ (Q : NamedProgram). count_of c.kind.result ≡ length (arguments_at Q.skeleton n)) (sym c.requires.program) c.kind.ensures.count in
    constant_lacks P c.args.cells.now c.args.held.now.items c.args.given.now.items n
    (constant_ground P c.requires.falls n (no_arguments (arguments_at P.skeleton n) 0 (sym (ap count_of c.in-Number.is) ∙ counted) refl)
    (number_solid P c.requires.falls n c.in-Number.field-0 kind))

pub returns-in-Compound : goal.returns-in-Compound
returns-in-Compound g c = λ e.
    let P = g.N.Naming.program in
    let n = c.args.asked.0 in
    let nothing : c.in-Compound.count ≡ 0 = search rules in
    let kind = subst (λ (Q : NamedProgram). shown (shape_at Q.skeleton n) ≡ Compound c.in-Compound.name c.in-Compound.count) (sym c.requires.program)
    (sym c.kind.ensures.shape ∙ c.in-Compound.is) in
    let counted = subst (λ (Q : NamedProgram). count_of c.kind.result ≡ length (arguments_at Q.skeleton n)) (sym c.requires.program) c.kind.ensures.count in
    constant_lacks P c.args.cells.now c.args.held.now.items c.args.given.now.items n
    (constant_ground P c.requires.falls n
    (no_arguments (arguments_at P.skeleton n) c.in-Compound.count (sym (ap count_of c.in-Compound.is) ∙ counted) nothing)
    (compound_solid P c.requires.falls n c.in-Compound.name c.in-Compound.count kind))
