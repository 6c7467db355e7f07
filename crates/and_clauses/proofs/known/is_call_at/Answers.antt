use Rattle.and_program.specs.Skeletons
use Rattle.and_clauses.specs.Copies.{numbers_in}
use Rattle.and_clauses.proofs.Placing.{shape_there}
use Rattle.and_clauses.proofs.known.is_call_at.Goals as goal

pub returns-in-Some : goal.returns-in-Some
returns-in-Some c = λ same.
    shape_there c.args.nodes.now c.args.node.0 (Skeletons.compound c.args.name.0 (numbers_in c.args.arguments.now)) c.in-Some.found.now
    c.in-Some.ensures.lookup.3.0 c.in-Some.ensures.lookup.1 (c.is_call.ensures same)
