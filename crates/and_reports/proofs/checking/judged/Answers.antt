use Rattle.and_program.specs.Loaded.{program_of}
use Rattle.and_modes.specs.Kept.{assignment_of}
use Rattle.and_reports.proofs.CheckingLemmas.{judged_is}
use Rattle.and_reports.proofs.checking.judged.Goals as goal

pub returns : goal.returns
returns c =
    judged_is (program_of c.args.loaded.now) (assignment_of c.in_ok-modes.modes) c.verdict.result c.in_ok-modes.ensures
    c.verdict.ensures.safe c.verdict.ensures.waits
