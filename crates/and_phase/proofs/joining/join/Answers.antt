use Rattle.std.proofs.Common.{Option, IfSome, subst}
use Rattle.and_cells.specs.Parts.{named}
use Rattle.and_program.specs.Loaded.{program_of}
use Rattle.and_gathering.specs.Gathering.{IsGathered}
use Rattle.and_gathering.specs.declared.gathering.Gathered.{Gathered}
use Rattle.and_phase.proofs.Left.{fits_row, pairs_in_range}
use Rattle.and_phase.proofs.joining.join.Goals as goal

pub looks_whole-requires-clause-fits : goal.looks_whole-requires-clause-fits
looks_whole-requires-clause-fits c =
    fits_row (named c.args.loaded.now) c.requires.phased.0 c.args.cells c.args.tolds.now c.requires.phased.1

pub looks_whole-requires-clause-pairs : goal.looks_whole-requires-clause-pairs
looks_whole-requires-clause-pairs c = λ live.
    let gathered = subst (λ (o : Option Gathered). IfSome o (IsGathered (program_of c.args.loaded.now) c.args.goals.now c.args.used c.args.limit
    c.args.tolds.now)) c.in-Some.is c.in_ok-gather.ensures in
    pairs_in_range (named c.args.loaded.now) c.requires.phased.0 c.args.cells c.args.tolds.now c.requires.phased.1 c.args.goals.now c.args.used
    c.args.limit c.in-Some.done gathered live
