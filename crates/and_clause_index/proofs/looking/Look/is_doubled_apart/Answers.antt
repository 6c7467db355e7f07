use Rattle.std.proofs.Common.{sym, subst, ◌∙◌}
use Rattle.and_model.specs.Programs.{clause_at}
use Rattle.and_cells.specs.Ranges.{NamedProgram}
use Rattle.and_clause_index.specs.Prints.{IsDoubled}
use Rattle.and_clause_index.proofs.Doubled.{doubled_apart}
use Rattle.and_clause_index.proofs.looking.Look.is_doubled_apart.Goals as goal

pub returns : goal.returns
returns c = λ is P row node base same look has.
    let clause = c.args.clause in
    let here = subst IsDoubled c.head.ensures.term (c.is_doubled.ensures is) in
    let twice = subst (λ (Q : NamedProgram). IsDoubled (clause_at Q.program clause.0).head) (sym same) here in
    doubled_apart P row node base c.args.self.now look clause twice (sym c.is_apart.ensures ∙ c.if-not-is_apart.false) has
