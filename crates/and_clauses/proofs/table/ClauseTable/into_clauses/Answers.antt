use Rattle.std.proofs.Common.{subst}
use Rattle.and_clauses.specs.Makes.{Keeps}
use Rattle.and_clauses.specs.Views.{table_of}
use Rattle.and_clauses.proofs.Adding.{unasked}
use Rattle.and_clauses.proofs.Sealed.{Finds-same}
use Rattle.and_clauses.proofs.table.ClauseTable.into_clauses.Goals as goal

pub invariant_of-result : goal.invariant_of-result
invariant_of-result c =
    let t = c.args.self in
    let none = unasked t.query c.is_some.result c.is_some.ensures c.if-is_some.false in
    record {
      kept = subst (λ q. Keeps t.lists q t.used (table_of t)) none t.kept;
      found = Finds-same c.in_ok-numbers.numbers c.deref.result.now t.lists.nodes.items c.deref-2.result.now t.lists.clauses.items c.deref.ensures.value
          c.deref-2.ensures.value c.in_ok-numbers.ensures;
    }
