use Rattle.and_forks.proofs.Traced.{cut_told}
use Rattle.and_forks.proofs.writer.WriterVisitor.see_cut.Goals as goal

pub returns-clause-told : goal.returns-clause-told
returns-clause-told c = λ seen has. cut_told c.args.self.now.lines seen c.args._depth c.args.heavy
