use Rattle.std.proofs.Common.{map, ◌∙◌, ◌++◌}
use Rattle.and_model.specs.declared.numbers.ClauseNo.{ClauseNo}
use Rattle.and_fork_texts.specs.Texts.{numbers_text}
use Rattle.and_forks.proofs.WrittenLines.{number_more}
use Rattle.and_forks.proofs.lines.write_numbers.Goals as goal

pub loop-place-preserved : goal.loop-place-preserved
loop-place-preserved c =
    number_more c.args.clauses.now c.loop-place.place c.at-clause.result.now c.loop-place.text c.append.new.self
    c.append-in-loop-place.new.self (c.args.text.now ++ numbers_text (map (λ (n : ClauseNo). n.0) c.args.clauses.now)) _
    c.at-clause.ensures c.in_ok-append.ensures c.in_ok-append-2.ensures (c.as_bytes.ensures.value ∙ c.format.ensures.text)
    c.loop-place.invariant
