use Rattle.and_program.specs.Loaded.{program_of}
use Rattle.and_replies.proofs.VerifyLemmas.{divided_within, part_proved, none_proved}
use Rattle.and_replies.proofs.verifying.is_proved.Goals as goal

pub slice_bounds-check_proof-start : goal.slice_bounds-check_proof-start
slice_bounds-check_proof-start c = divided_within c.args.bytes.now c.args.place c.in-Some.place c.in-Some.is c.requires

pub returns-in-Some : goal.returns-in-Some
returns-in-Some c =
    part_proved (program_of c.args.loaded.now) c.args.bytes.now c.args.place c.in-Some.place c.check_proof.result c.in-Some.is c.requires
    c.check_proof.ensures

pub returns-in-None : goal.returns-in-None
returns-in-None c = none_proved (program_of c.args.loaded.now) c.args.bytes.now c.args.place c.in-None.is
