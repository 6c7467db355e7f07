use Rattle.std.proofs.Common.{◌≡◌, ◌<◌, [], length, get_or, refl, sym, subst, arith}
use Rattle.and_model.specs.Terms.{apply}
use Rattle.and_program.specs.Loaded.{skeleton_of, arguments_at}
use Rattle.and_program.specs.Shown.{argument_of}
use Rattle.and_program.specs.Skeletons.{node_term}
use Rattle.and_cells.specs.Ranges.{NamedProgram}
use Rattle.and_branch_laws.specs.Variables.{placed}
use Rattle.and_clause_index.specs.Prints.{mark, argument_kind, Tells}
use Rattle.and_clause_index.proofs.Glimpses.{argument_fits, mark_told}
use Rattle.and_guards.proofs.Resolved.{falls_in}
use Rattle.and_clause_index.proofs.looking.known_mark.Goals as goal

pub kind_in-requires-clause-node : goal.kind_in-requires-clause-node
kind_in-requires-clause-node g c =
    let P = g.C.Cells.program in
    let words = (g.C.Cells.seen c.args.cells.now).words in
    let node = c.args.node.0 in
    let place = c.args.place in
    let argument = c.argument-argument.result.0 in
    let fall = falls_in P c.args.loaded.now c.requires.program c.skeleton_is_of_the_program.ensures.skeleton.0 in
    let there : place < length (arguments_at (skeleton_of c.args.loaded.now) node) = omega arith in
    let low : place < length (arguments_at P.skeleton node) =
    subst (λ (Q : NamedProgram). place < length (arguments_at Q.skeleton node)) (sym c.requires.program) there in
    let is : argument ≡ get_or (arguments_at P.skeleton node) place 0 =
    subst (λ (Q : NamedProgram). argument ≡ get_or (arguments_at Q.skeleton node) place 0) (sym c.requires.program)
    c.argument-argument.ensures.node in
    argument_fits P fall [] words c.args.base node place argument c.requires.node low is

pub returns-clause-tells : goal.returns-clause-tells
returns-clause-tells g c = λ row has s solves.
    let P = g.C.Cells.program in
    let node = c.args.node.0 in
    let base = c.args.base in
    let place = c.args.place in
    let argument = c.argument-argument.result.0 in
    let kind = c.kind_in.result in
    let fall = falls_in P c.args.loaded.now c.requires.program c.skeleton_is_of_the_program.ensures.skeleton.0 in
    let there : place < length (arguments_at (skeleton_of c.args.loaded.now) node) = omega arith in
    let low : place < length (arguments_at P.skeleton node) =
    subst (λ (Q : NamedProgram). place < length (arguments_at Q.skeleton node)) (sym c.requires.program) there in
    let term : node_term P.skeleton.nodes argument ≡ argument_of (node_term P.skeleton.nodes node) place =
    subst (λ (Q : NamedProgram). node_term Q.skeleton.nodes argument ≡ argument_of (node_term Q.skeleton.nodes node) place)
    (sym c.requires.program) c.argument-argument.ensures.term in
    subst (λ m. Tells m (mark (argument_kind (apply s (placed base (node_term P.skeleton.nodes node))) place))) (sym c.mark_of.ensures)
    (mark_told P fall row s base node argument place kind low term (c.kind_in.ensures.fits row has s solves))

pub returns-then-place-count-clause-tells : goal.returns-then-place-count-clause-tells
returns-then-place-count-clause-tells g c = λ row has s solves some. absurd (some refl)
