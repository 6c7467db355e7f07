use Rattle.std.proofs.Common.{length, sym, subst}
use Rattle.and_model.specs.Terms.{apply}
use Rattle.and_program.specs.Loaded.{skeleton_of}
use Rattle.and_program.specs.Skeletons.{node_term}
use Rattle.and_cells.specs.Meaning.{StandsFor}
use Rattle.and_cells.specs.Parts.{named}
use Rattle.and_cells.specs.Ranges.{NamedProgram, IsInRange}
use Rattle.and_print.proofs.Parting.{node_resolved}
use Rattle.and_proof.proofs.explaining.name_term.Goals as goal

pub resolve-term-requires-clause-there : goal.resolve-term-requires-clause-there
resolve-term-requires-clause-there g c = let (s, m) = c.requires.means in let r = m.in_range in r.there

pub resolve-term-requires-clause-base : goal.resolve-term-requires-clause-base
resolve-term-requires-clause-base g c = let (s, m) = c.requires.means in let r = m.in_range in r.base_below

pub show_term-requires-clause-in_range : goal.show_term-requires-clause-in_range
show_term-requires-clause-in_range g c =
    let P = named c.args.loaded.now in
    let row = c.args.cells.now in
    let (s, m) = c.requires.means in
    let means = node_resolved P row c.args.node c.args.base s m c.resolve-term.result c.resolve-term.ensures in
    subst (λ (Q : NamedProgram). IsInRange Q (length row) c.resolve-term.result) (sym c.requires.program) means.in_range

pub show_term-requires-clause-stands : goal.show_term-requires-clause-stands
show_term-requires-clause-stands g c =
    let P = named c.args.loaded.now in
    let row = c.args.cells.now in
    let (s, m) = c.requires.means in
    let means = node_resolved P row c.args.node c.args.base s m c.resolve-term.result c.resolve-term.ensures in
    let t = apply s (node_term (skeleton_of c.args.loaded.now).nodes c.args.node.0) in
    (t, subst (λ (Q : NamedProgram). StandsFor Q row c.resolve-term.result t) (sym c.requires.program) means.stands)

pub returns : goal.returns
returns g c = λ s m.
    let P = named c.args.loaded.now in
    let row = c.args.cells.now in
    let means = node_resolved P row c.args.node c.args.base s m c.resolve-term.result c.resolve-term.ensures in
    let t = apply s (node_term (skeleton_of c.args.loaded.now).nodes c.args.node.0) in
    (c.in_ok-show_term.ensures t (subst (λ (Q : NamedProgram). StandsFor Q row c.resolve-term.result t) (sym c.requires.program) means.stands)).0
