use Rattle.std.proofs.Common.{ap}
use Rattle.std.specs.Prelude.{Bool, Ok}
use Rattle.and_cells.specs.Seen.{word_at}
use Rattle.and_cells.specs.Meaning.{equations_of}
use Rattle.and_laws.proofs.Solving.{solves_front}
use Rattle.and_unify.specs.Pairs.{equations_of_pairs}
use Rattle.and_unify.proofs.settling.given_ends.Goals as goal

pub returns-then-not-branch-clause-no_solution : goal.returns-then-not-branch-clause-no_solution
returns-then-not-branch-clause-no_solution g c = λ is solvable.
    let P = g.N.Naming.program in
    let row = c.args.cells.now in
    let of_row = solves_front solvable.0 (equations_of P row) (equations_of_pairs P (word_at row) c.args.pairs.now) solvable.1 in
    c.in_ok-row_ends.ensures.no_solution (ap (λ (b : Bool). Ok b) c.if-not-branch.true) (solvable.0, of_row)
