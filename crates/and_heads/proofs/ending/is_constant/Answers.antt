use Rattle.std.proofs.Common.{refl, sym, ◌∙◌, arith}
use Rattle.std.proofs.lemmas.Bool.Decides.{nat_tests}
use Rattle.and_cells.specs.Parts.{named}
use Rattle.and_program.specs.Loaded.{shape_at}
use Rattle.and_heads.proofs.Constants.{number_ends, name_ends}
use Rattle.and_heads.proofs.ending.is_constant.Goals as goal

pub returns-in-Number : goal.returns-in-Number
returns-in-Number c = λ _ row floor base.
    let P = named c.args.loaded.now in
    number_ends P c.args.node row floor base c.in-Number.field-0 (shape_at P.skeleton c.args.node.0) refl (sym c.in-Number.is ∙ c.kind.ensures.shape)

pub returns-in-Compound : goal.returns-in-Compound
returns-in-Compound c = λ is row floor base.
    let P = named c.args.loaded.now in
    name_ends P c.args.node row floor base c.in-Compound.name c.in-Compound.count (shape_at P.skeleton c.args.node.0) (grind (arith, nat_tests, is)) refl
    (sym c.in-Compound.is ∙ c.kind.ensures.shape)
