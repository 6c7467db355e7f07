use Rattle.std.proofs.Common.{refl}
use Rattle.std.proofs.lemmas.Result.{on_ok_weaker}
use Rattle.and_traces.specs.Traces.{Report, failed}
use Rattle.and_forks.specs.Told.{lines_of}
use Rattle.and_forks.proofs.Traced.{written_of, more_told}
use Rattle.and_forks.proofs.writer.WriterVisitor.see_failed.Goals as goal

pub returns-clause-told : goal.returns-clause-told
returns-clause-told c = λ seen has.
    let s = c.args.self.now in
    let r : Report = record { depth = c.args.depth; event = failed } in
    on_ok_weaker c.put_failed.result (more_told s.met s.lines c.put_failed.new.self seen r c.requires.going refl has)
    (c.put_failed.ensures (lines_of seen) (written_of s.met s.lines seen c.requires.going has))
