use Rattle.std.proofs.Common.{◌≡◌, ◌<◌, [], length, get_or, sym, subst, arith}
use Rattle.and_model.specs.Terms.{apply}
use Rattle.and_program.specs.Loaded.{skeleton_of, arguments_at}
use Rattle.and_program.specs.Shown.{argument_of}
use Rattle.and_program.specs.Skeletons.{node_term}
use Rattle.and_cells.specs.Ranges.{NamedProgram, IsInRange, IsInRangeOrHalf}
use Rattle.and_cells.specs.Seen.{LeadsTo}
use Rattle.and_cells.proofs.Chains.{reads_more}
use Rattle.and_branch_laws.specs.Variables.{placed}
use Rattle.and_program.specs.declared.node.NodeKind.TheVariants.{Variable}
use Rattle.and_clause_index.specs.Looks.{IsGlimpseAt}
use Rattle.and_clause_index.specs.declared.prints.Marks.{Marks}
use Rattle.and_clause_index.proofs.Glimpses.{argument_fits, glimpse_told, node_leads, nothing_told, seen_before}
use Rattle.and_guards.proofs.Resolved.{resolved_is, falls_in, part_in_range}
use Rattle.and_clause_index.proofs.looking.argument_glimpse.Goals as goal

pub deref-at-requires-clause-in_range : goal.deref-at-requires-clause-in_range
deref-at-requires-clause-in_range g c =
    let P = g.C.Cells.program in
    let words = (g.C.Cells.seen c.args.cells.now).words in
    let node = c.args.node.0 in
    let place = c.args.place in
    let argument = c.argument-argument.result.0 in
    let fall = falls_in P c.args.loaded.now c.requires.program c.skeleton_is_of_the_program.ensures.skeleton.0 in
    let there : place < length (arguments_at (skeleton_of c.args.loaded.now) node) = omega arith in
    let low : place < length (arguments_at P.skeleton node) =
    subst (λ (Q : NamedProgram). place < length (arguments_at Q.skeleton node)) (sym c.requires.program) there in
    let at : argument ≡ get_or (arguments_at P.skeleton node) place 0 =
    subst (λ (Q : NamedProgram). argument ≡ get_or (arguments_at Q.skeleton node) place 0) (sym c.requires.program)
    c.argument-argument.ensures.node in
    let is = resolved_is P c.args.loaded.now c.argument-argument.result c.args.base c.resolve.result c.requires.program c.resolve.ensures in
    subst (IsInRange P words) (sym is)
    (part_in_range P words argument c.args.base fall (argument_fits P fall [] words c.args.base node place argument c.requires.node low at))

pub end_glimpse-requires-clause-in_range : goal.end_glimpse-requires-clause-in_range
end_glimpse-requires-clause-in_range g c =
    subst (λ n. IsInRangeOrHalf g.C.Cells.program n c.deref-at.result) (sym c.deref-at.ensures.reads.words) c.deref-at.ensures.in_range

pub returns-clause-grew : goal.returns-clause-grew
returns-clause-grew g c =
    g.met.C.Cells.grew_on c.args.cells.now c.deref-at.new.cells c.end_glimpse.new.cells c.deref-at.ensures.grew c.end_glimpse.ensures.grew

pub returns-clause-reads : goal.returns-clause-reads
returns-clause-reads g c =
    reads_more (g.C.Cells.seen c.args.cells.now) (g.C.Cells.seen c.deref-at.new.cells) (g.C.Cells.seen c.end_glimpse.new.cells)
    c.deref-at.ensures.reads c.end_glimpse.ensures.reads

pub returns-clause-glimpse : goal.returns-clause-glimpse
returns-clause-glimpse g c = λ row has s solves.
    let P = g.C.Cells.program in
    let mid = g.C.Cells.seen c.deref-at.new.cells in
    let node = c.args.node.0 in
    let base = c.args.base in
    let place = c.args.place in
    let argument = c.argument-argument.result.0 in
    let at = c.deref-at.result in
    let fall = falls_in P c.args.loaded.now c.requires.program c.skeleton_is_of_the_program.ensures.skeleton.0 in
    let there : place < length (arguments_at (skeleton_of c.args.loaded.now) node) = omega arith in
    let low : place < length (arguments_at P.skeleton node) =
    subst (λ (Q : NamedProgram). place < length (arguments_at Q.skeleton node)) (sym c.requires.program) there in
    let term : node_term P.skeleton.nodes argument ≡ argument_of (node_term P.skeleton.nodes node) place =
    subst (λ (Q : NamedProgram). node_term Q.skeleton.nodes argument ≡ argument_of (node_term Q.skeleton.nodes node) place)
    (sym c.requires.program) c.argument-argument.ensures.term in
    let is = resolved_is P c.args.loaded.now c.argument-argument.result base c.resolve.result c.requires.program c.resolve.ensures in
    let leads = subst (λ r. LeadsTo mid r at) is c.deref-at.ensures.leads in
    let before = seen_before mid (g.C.Cells.seen c.end_glimpse.new.cells) row c.end_glimpse.ensures.reads has in
    let t = apply s (placed base (node_term P.skeleton.nodes argument)) in
    glimpse_told P fall row s base node argument place c.end_glimpse.result low term
    (c.end_glimpse.ensures.glimpse row has s t solves (node_leads P fall row s solves base argument at mid before leads))

pub returns-then-place-count-clause-glimpse : goal.returns-then-place-count-clause-glimpse
returns-then-place-count-clause-glimpse g c = λ row has s solves.
    let call = apply s (placed c.args.base (node_term g.C.Cells.program.skeleton.nodes c.args.node.0)) in
    subst (λ (m : Marks). IsGlimpseAt (record { kind = Variable 0; marks = m }) call c.args.place) (sym c.none.ensures)
    (nothing_told call c.args.place)
