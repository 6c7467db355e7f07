use Rattle.std.proofs.Common.{sym, subst}
use Rattle.and_reader.specs.Beginning.{IsBegunSo}
use Rattle.and_reader.proofs.kept.Whole.into_beginning.Goals as goal

pub returns-clause-beginning : goal.returns-clause-beginning
returns-clause-beginning c = λ begun.
    subst (IsBegunSo c.args.self.front.items c.args.self.end) (sym c.into_clauses.ensures.table) begun
