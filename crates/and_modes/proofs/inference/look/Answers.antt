use Rattle.std.proofs.Common.{◌∙◌}
use Rattle.and_program.specs.Loaded.{program_of}
use Rattle.and_modes.specs.Kept.{assignment_of}
use Rattle.and_modes.proofs.Looking.{looked}
use Rattle.and_modes.proofs.inference.look.Goals as goal

pub returns : goal.returns
returns c = λ fell is.
    looked (program_of c.args.loaded.now) c.args.no.0 c.deref.result.now (assignment_of c.args.modes.now) (assignment_of c.lower_all.new.modes) fell
    c.requires (c.deref.ensures.value ∙ c.in_ok-demands.ensures) (c.lower_all.ensures fell is)
