use Rattle.std.proofs.Common.{ap, arith, ◌≤◌, length}
use Rattle.and_drafts.specs.Parts.{part_shape}
use Rattle.and_drafts.proofs.Meeting.{read_variable, few_arguments}
use Rattle.and_drafts.proofs.draft.ClauseDraft.part.Goals as goal

pub overflow_cast-result : goal.overflow_cast-result
overflow_cast-result c =
    let few : length c.in-Compound.arguments.items ≤ 255 =
    few_arguments c.args.self.now.parts.items c.args.place c.index.result.now c.in-Compound.name c.in-Compound.arguments.items c.requires
    c.args.self.now.narrow c.index.ensures (ap part_shape c.in-Compound.is) in
    omega arith

pub returns-in-Variable : goal.returns-in-Variable
returns-in-Variable c =
    read_variable c.args.self.now.parts.items c.args.place c.index.result.now c.in-Variable.name c.bytes.result.now c.in-Variable.number c.requires
    c.args.self.now.numbered c.index.ensures c.in-Variable.is c.bytes.ensures
