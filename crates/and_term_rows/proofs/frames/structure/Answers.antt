use Rattle.std.proofs.Common.{arith, length, sym, ◌∙◌, subst}
use Rattle.and_model.specs.declared.reference.Ref.TheVariants.{Node}
use Rattle.and_program.specs.Loaded.{program_of}
use Rattle.and_cells.specs.Ranges.{NamedProgram, IsInRange}
use Rattle.and_cells.specs.Parts.{named}
use Rattle.and_term_rows.proofs.Structures.{structure_fits}
use Rattle.and_term_rows.proofs.frames.structure.Goals as goal

pub returns-in-Compound-clause-in_range : goal.returns-in-Compound-clause-in_range
returns-in-Compound-clause-in_range g c =
    let loaded = c.args.loaded.now in
    let r = Node c.args.node c.args.base in
    let words = length c.args.cells.now in
    let law = c.skeleton_is_of_the_program.ensures in
    subst (λ (P : NamedProgram). IsInRange P words r) (sym c.requires.program)
    (structure_fits (named loaded) (length (program_of loaded).names) words c.args.base c.args.node c.in-Compound.name c.in-Compound.count law.within
    law.few c.requires.node
    (sym c.kind.ensures.shape ∙ c.in-Compound.is) (omega arith) c.len.ensures.sound.short)
