use Rattle.std.proofs.Common.{sym, ap, subst, ◌∙◌}
use Rattle.and_clause_index.specs.Served.{AreServed}
use Rattle.and_clause_index.specs.Tables.{tried, entry_at}
use Rattle.and_clause_index.proofs.Serving.{first_serves}
use Rattle.and_determinacy.proofs.judging.clauses_to_try.Goals as goal

pub returns : goal.returns
returns g c =
    let P = g.N.Naming.program in
    let entry = entry_at c.args.table.now c.args.node.0 in
    subst (AreServed P c.args.cells.now c.args.node.0 c.args.base) (sym (c.clauses.ensures ∙ ap (tried entry) c.first.ensures))
    (first_serves P c.args.cells.now c.args.node.0 c.args.base c.args.look.now c.requires.look entry c.requires.known)
