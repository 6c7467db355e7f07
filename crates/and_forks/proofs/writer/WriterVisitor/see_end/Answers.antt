use Rattle.std.proofs.Common.{refl}
use Rattle.std.proofs.lemmas.Result.{on_ok_weaker}
use Rattle.and_answers.specs.Kept.{outcome_with}
use Rattle.and_traces.specs.Traces.{Report, ended}
use Rattle.and_forks.specs.Told.{lines_of}
use Rattle.and_forks.proofs.Traced.{written_of, more_told}
use Rattle.and_forks.proofs.writer.WriterVisitor.see_end.Goals as goal

pub returns-clause-told : goal.returns-clause-told
returns-clause-told c = λ seen has.
    let s = c.args.self.now in
    let r : Report = record { depth = c.args.depth; event = ended c.args._named.value (outcome_with c.args.floundered c.args.line) } in
    on_ok_weaker c.put_end.result (more_told s.met s.lines c.put_end.new.self seen r c.requires.going refl has)
    (c.put_end.ensures (lines_of seen) (written_of s.met s.lines seen c.requires.going has))
