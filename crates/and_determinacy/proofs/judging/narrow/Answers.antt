use Rattle.std.proofs.Common.{sym, subst}
use Rattle.std.specs.Prelude.{IfOk, IfSome}
use Rattle.and_guards.specs.Goals.{IsNodeOf}
use Rattle.and_clause_index.specs.Served.{AreServed}
use Rattle.and_determinacy.specs.Candidates.{IsNarrowed}
use Rattle.and_determinacy.specs.Watching.{TwoStayWhile}
use Rattle.and_determinacy.proofs.Searching.{few_left}
use Rattle.and_determinacy.proofs.judging.narrow.Goals as goal

pub clauses_for-clauses-requires-clause-known : goal.clauses_for-clauses-requires-clause-known
clauses_for-clauses-requires-clause-known g c =
    c.requires.table.calls c.args.goal.clause.0 c.args.goal.item c.args.node.0 c.requires.node.there

pub returns-then-clauses-lt2-clause-narrowed : goal.returns-then-clauses-lt2-clause-narrowed
returns-then-clauses-lt2-clause-narrowed g c =
    few_left g.N.Naming.program c.args.cells.now c.args.goal c.args.node.0 c.requires.node c.clauses_for-clauses.result.now
    c.clauses_for-clauses.ensures.served c.narrowed_to.result c.narrowed_to.ensures.nothing c.narrowed_to.ensures.one
    c.narrowed_to.ensures.never

pub narrow_by_prints-requires-clause-node : goal.narrow_by_prints-requires-clause-node
narrow_by_prints-requires-clause-node g c =
    subst (λ r. IsNodeOf g.N.Naming.program r c.args.goal c.args.node.0) (sym c.clauses_for-clauses.ensures.unchanged) c.requires.node

pub narrow_by_prints-requires-clause-served : goal.narrow_by_prints-requires-clause-served
narrow_by_prints-requires-clause-served g c =
    subst (λ r. AreServed g.N.Naming.program r c.args.node.0 c.args.goal.base c.clauses_for-clauses.result.now)
    (sym c.clauses_for-clauses.ensures.unchanged) c.clauses_for-clauses.ensures.served

pub returns-clause-narrowed : goal.returns-clause-narrowed
returns-clause-narrowed g c =
    subst (λ r. IfOk c.narrow_by_prints.result (IsNarrowed g.N.Naming.program r c.args.goal)) c.clauses_for-clauses.ensures.unchanged
    c.narrow_by_prints.ensures.narrowed

pub returns-clause-told : goal.returns-clause-told
returns-clause-told g c = λ is.
    subst (λ r. IfSome c.narrow_by_prints.new.trials.rests (TwoStayWhile g.N.Naming.program r c.args.goal))
    c.clauses_for-clauses.ensures.unchanged (c.narrow_by_prints.ensures.told is)
