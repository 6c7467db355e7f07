use Rattle.std.proofs.Common.{◌≡◌, ◌<◌, [], length, get_or, sym, subst, arith}
use Rattle.and_program.specs.Loaded.{skeleton_of, arguments_at}
use Rattle.and_program.specs.Shown.{argument_of}
use Rattle.and_program.specs.Skeletons.{node_term}
use Rattle.and_cells.specs.Ranges.{NamedProgram}
use Rattle.and_clause_index.specs.Looks.{Fits}
use Rattle.and_clause_index.proofs.Glimpses.{argument_fits, argument_is}
use Rattle.and_guards.proofs.Resolved.{falls_in}
use Rattle.and_clause_index.proofs.looking.known_first.Goals as goal

pub kind_in-requires-clause-node : goal.kind_in-requires-clause-node
kind_in-requires-clause-node g c =
    let P = g.C.Cells.program in
    let words = (g.C.Cells.seen c.args.cells.now).words in
    let node = c.args.node.0 in
    let argument = c.argument-argument.result.0 in
    let fall = falls_in P c.args.loaded.now c.requires.program c.skeleton_is_of_the_program.ensures.skeleton.0 in
    let there : 0 < length (arguments_at (skeleton_of c.args.loaded.now) node) = omega arith in
    let low : 0 < length (arguments_at P.skeleton node) =
    subst (λ (Q : NamedProgram). 0 < length (arguments_at Q.skeleton node)) (sym c.requires.program) there in
    let is : argument ≡ get_or (arguments_at P.skeleton node) 0 0 =
    subst (λ (Q : NamedProgram). argument ≡ get_or (arguments_at Q.skeleton node) 0 0) (sym c.requires.program)
    c.argument-argument.ensures.node in
    argument_fits P fall [] words c.args.base node 0 argument c.requires.node low is

pub returns-clause-fits : goal.returns-clause-fits
returns-clause-fits g c = λ row has s solves.
    let P = g.C.Cells.program in
    let node = c.args.node.0 in
    let base = c.args.base in
    let argument = c.argument-argument.result.0 in
    let fall = falls_in P c.args.loaded.now c.requires.program c.skeleton_is_of_the_program.ensures.skeleton.0 in
    let there : 0 < length (arguments_at (skeleton_of c.args.loaded.now) node) = omega arith in
    let low : 0 < length (arguments_at P.skeleton node) =
    subst (λ (Q : NamedProgram). 0 < length (arguments_at Q.skeleton node)) (sym c.requires.program) there in
    let term : node_term P.skeleton.nodes argument ≡ argument_of (node_term P.skeleton.nodes node) 0 =
    subst (λ (Q : NamedProgram). node_term Q.skeleton.nodes argument ≡ argument_of (node_term Q.skeleton.nodes node) 0)
    (sym c.requires.program) c.argument-argument.ensures.term in
    subst (Fits c.kind_in.result) (argument_is P fall row s base node argument 0 low term) (c.kind_in.ensures.fits row has s solves)
