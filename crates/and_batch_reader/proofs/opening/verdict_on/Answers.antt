use Rattle.std.proofs.Common.{subst}
use Rattle.std.specs.Option.{IfSome}
use Rattle.and_program.specs.Loaded.{program_of}
use Rattle.and_reader.specs.Beginning.{IsBeginning, IsGoneOn}
use Rattle.and_batch_reader.proofs.Judged.{judged_read}
use Rattle.and_batch_reader.proofs.opening.verdict_on.Goals as goal

pub returns-in-Whole-clause-judged : goal.returns-in-Whole-clause-judged
returns-in-Whole-clause-judged c = λ begun.
    let here = subst (λ o. IfSome o IsBeginning) c.in-Some.is begun in
    let went = subst (IsGoneOn c.args.text.now) c.in-Whole.is (c.in_ok-whole.ensures.text here) in
    judged_read c.args.text.now (program_of c.in-Whole.whole.asked.loaded) went.1

pub returns-in-Whole-clause-beginning : goal.returns-in-Whole-clause-beginning
returns-in-Whole-clause-beginning c = λ begun.
    let here = subst (λ o. IfSome o IsBeginning) c.in-Some.is begun in
    let went = subst (IsGoneOn c.args.text.now) c.in-Whole.is (c.in_ok-whole.ensures.text here) in
    c.into_beginning.ensures.beginning went.0

pub returns-in_ok-refusal_in-in-Left-clause-beginning : goal.returns-in_ok-refusal_in-in-Left-clause-beginning
returns-in_ok-refusal_in-in-Left-clause-beginning c = λ begun.
    let here = subst (λ o. IfSome o IsBeginning) c.in-Some.is begun in
    subst (IsGoneOn c.args.text.now) c.in-Left.is (c.in_ok-whole.ensures.text here)
