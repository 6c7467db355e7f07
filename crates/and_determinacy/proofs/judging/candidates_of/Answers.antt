use Rattle.std.proofs.Common.{subst}
use Rattle.std.specs.Prelude.{OnOk}
use Rattle.and_determinacy.specs.Candidates.{AreCandidates}
use Rattle.and_determinacy.proofs.judging.candidates_of.Goals as goal

pub clauses_to_try-clauses-requires-clause-known : goal.clauses_to_try-clauses-requires-clause-known
clauses_to_try-clauses-requires-clause-known g c =
    c.requires.table.calls c.args.goal.clause.0 c.args.goal.item c.node_of-node.result.0 c.node_of-node.ensures.there

pub returns-clause-candidates : goal.returns-clause-candidates
returns-clause-candidates g c =
    subst (λ row. OnOk c.pick.result (AreCandidates g.N.Naming.program row c.args.goal c.pick.new.out)) c.look_at.ensures.unchanged
    c.pick.ensures.candidates
