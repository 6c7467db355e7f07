use Rattle.std.proofs.Common.{◌≡◌, ◌++◌, length, refl, sym, subst}
use Rattle.and_model.specs.Lines.{shown}
use Rattle.and_cells.specs.Meaning.{StandsFor}
use Rattle.and_cells.specs.Parts.{named}
use Rattle.and_cells.specs.Ranges.{NamedProgram, IsInRange}
use Rattle.and_branch_laws.proofs.Loading.{loaded_is}
use Rattle.and_proof.proofs.ReadCalls.{clause_there, node_there, node_range, read_means}
use Rattle.and_proof.proofs.explaining.show_call.Goals as goal

pub call_at-node-requires-clause-clause : goal.call_at-node-requires-clause-clause
call_at-node-requires-clause-clause g c =
    let l = c.args.loaded.now in
    let s = c.skeleton_is_of_the_program.ensures in
    let facts = loaded_is (named l) l refl s.skeleton s.own_variables s.few in
    let (r, x) = c.requires.call in clause_there l facts c.args.cells.now c.args.taken r x

pub call_at-node-requires-clause-call : goal.call_at-node-requires-clause-call
call_at-node-requires-clause-call g c =
    let l = c.args.loaded.now in
    let s = c.skeleton_is_of_the_program.ensures in
    let facts = loaded_is (named l) l refl s.skeleton s.own_variables s.few in
    let (r, x) = c.requires.call in node_there l facts c.args.cells.now c.args.taken r x

pub resolve-call-requires-clause-there : goal.resolve-call-requires-clause-there
resolve-call-requires-clause-there g c =
    let l = c.args.loaded.now in
    let s = c.skeleton_is_of_the_program.ensures in
    let facts = loaded_is (named l) l refl s.skeleton s.own_variables s.few in
    let (r, x) = c.requires.call in
    let range = node_range l facts c.args.cells.now c.args.taken r x c.call_at-node.result c.call_at-node.ensures in range.there

pub resolve-call-requires-clause-base : goal.resolve-call-requires-clause-base
resolve-call-requires-clause-base g c =
    let l = c.args.loaded.now in
    let s = c.skeleton_is_of_the_program.ensures in
    let facts = loaded_is (named l) l refl s.skeleton s.own_variables s.few in
    let (r, x) = c.requires.call in
    let range = node_range l facts c.args.cells.now c.args.taken r x c.call_at-node.result c.call_at-node.ensures in range.base_below

pub show_term-requires-clause-in_range : goal.show_term-requires-clause-in_range
show_term-requires-clause-in_range g c =
    let l = c.args.loaded.now in
    let s = c.skeleton_is_of_the_program.ensures in
    let facts = loaded_is (named l) l refl s.skeleton s.own_variables s.few in
    let (r, x) = c.requires.call in
    let row = c.args.cells.now in
    let found = c.resolve-call.result in
    let means = read_means l facts row c.args.taken r x c.call_at-node.result c.call_at-node.ensures found c.resolve-call.ensures in
    subst (λ (Q : NamedProgram). IsInRange Q (length row) found) (sym c.requires.program) means.in_range

pub show_term-requires-clause-stands : goal.show_term-requires-clause-stands
show_term-requires-clause-stands g c =
    let l = c.args.loaded.now in
    let s = c.skeleton_is_of_the_program.ensures in
    let facts = loaded_is (named l) l refl s.skeleton s.own_variables s.few in
    let (r, x) = c.requires.call in
    let row = c.args.cells.now in
    let found = c.resolve-call.result in
    let means = read_means l facts row c.args.taken r x c.call_at-node.result c.call_at-node.ensures found c.resolve-call.ensures in
    (r.call, subst (λ (Q : NamedProgram). StandsFor Q row found r.call) (sym c.requires.program) means.stands)

pub returns : goal.returns
returns g c = λ r x.
    let l = c.args.loaded.now in
    let s = c.skeleton_is_of_the_program.ensures in
    let facts = loaded_is (named l) l refl s.skeleton s.own_variables s.few in
    let row = c.args.cells.now in
    let found = c.resolve-call.result in
    let means = read_means l facts row c.args.taken r x c.call_at-node.result c.call_at-node.ensures found c.resolve-call.ensures in
    let shown_is = c.in_ok-show_term.ensures r.call (subst (λ (Q : NamedProgram). StandsFor Q row found r.call) (sym c.requires.program) means.stands) in (
      shown_is.0,
      subst (λ (Q : NamedProgram). c.show_term.new.out ≡ c.args.out.now ++ shown Q.program.names c.show_term.new.names r.call) c.requires.program shown_is.1,
    )
