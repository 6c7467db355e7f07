use Rattle.std.proofs.Common.{subst}
use Rattle.and_drafts.specs.Drafts.{draft_of}
use Rattle.and_clauses.specs.Makes.{Keeps}
use Rattle.and_clauses.specs.Views.{table_of}
use Rattle.and_clauses.proofs.Adding.{one_query, unasked}
use Rattle.and_clauses.proofs.table.ClauseTable.set_query.Goals as goal

pub invariant_of-self : goal.invariant_of-self
invariant_of-self c =
    let one = one_query (draft_of c.args.draft.now).finished c.requires in
    let none = unasked c.args.self.now.query c.is_some.result c.is_some.ensures c.if-is_some.false in
    let keep = subst (λ q. Keeps c.args.self.now.lists q c.args.self.now.used (table_of c.args.self.now)) none c.args.self.now.kept in
    record { kept = (c.in-Ok.ensures.set one.0 keep one.1).2 }
