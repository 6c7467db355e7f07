use Rattle.and_clauses.specs.Copies.{numbering_at}
use Rattle.and_clauses.specs.Lifts.{nodes_under, named_under}
use Rattle.and_clauses.proofs.LiftSteps.{called_own}
use Rattle.and_clauses.proofs.lifting.lifted_item.Goals as goal

pub lifted_call-requires-clause-own : goal.lifted_call-requires-clause-own
lifted_call-requires-clause-own c =
    called_own (nodes_under c.args.lifting) (named_under c.args.lifting) (numbering_at c.args.scope) c.args.piece.now c.in-Disjunction.number
    c.in-Disjunction.is c.requires.own
