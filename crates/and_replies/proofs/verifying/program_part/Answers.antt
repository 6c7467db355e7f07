use Rattle.std.proofs.Common.{ap, sym}
use Rattle.std.proofs.lemmas.List.{length-take-le}
use Rattle.and_questions.specs.Verified as specs
use Rattle.and_replies.proofs.VerifyLemmas.{divided_within, part_before}
use Rattle.and_replies.proofs.verifying.program_part.Goals as goal

pub slice_bounds-result-end : goal.slice_bounds-result-end
slice_bounds-result-end c =
    sym (length-take-le c.in-Some.place c.args.bytes.now
    (divided_within c.args.bytes.now c.args.place c.in-Some.place c.in-Some.is c.requires))

pub returns-in-Some : goal.returns-in-Some
returns-in-Some c = part_before c.args.bytes.now c.args.place c.in-Some.place c.in-Some.is

pub returns-in-None : goal.returns-in-None
returns-in-None c = ap (specs.program_part c.args.bytes.now) (sym c.in-None.is)
