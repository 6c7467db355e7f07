use Rattle.std.proofs.Common.{w64, subst, [], refl}
use Rattle.std.proofs.lemmas.Int.{to_z-of_z}
use Rattle.and_branch_laws.specs.Settling.{IsWritten}
use Rattle.and_branch_laws.proofs.Loading.{loaded_is}
use Rattle.and_cells.specs.Parts.{part_at}
use Rattle.and_model.specs.declared.reference.Ref.TheVariants.{Number}
use Rattle.and_step_laws.proofs.AskedNumbers.{number_asked_for}
use Rattle.and_reduction.specs.Asked.{the_pair}
use Rattle.and_reduction.proofs.running.ask_number.Goals as goal

pub returns : goal.returns
returns g c =
    let P = g.N.Naming.program in
    let k = c.skeleton_is_of_the_program.ensures in
    let facts = loaded_is P c.args.loaded.now c.requires.program k.skeleton k.own_variables k.few in
    let written = subst (IsWritten c.args.cells.now c.write.new.cells c.args.pair) (to_z-of_z w64 c.args.value c.ranges.value)
    c.write.ensures.written in
    let left = part_at P c.args.base c.args.node.0 in
    number_asked_for P facts c.args.cells.now c.write.new.cells c.args.base c.args.node.0 c.args.pair c.args.value c.requires.goal written left refl []
    (the_pair left (Number c.args.pair)) refl refl c.write.ensures.sound c.requires.settled
