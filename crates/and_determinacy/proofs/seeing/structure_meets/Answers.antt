use Rattle.std.proofs.Common.{◌≡◌, ◌≢◌, [], ◌∷◌, length, sym, ◌∙◌, subst, rules}
use Rattle.and_program.specs.Loaded.{arguments_at, shape_at, skeleton_of}
use Rattle.and_program.specs.Shown.{shown}
use Rattle.and_cells.specs.Ranges.{NamedProgram}
use Rattle.and_model.specs.Terms.{framed}
use Rattle.and_program.specs.Skeletons.{node_term}
use Rattle.and_branch_laws.specs.Judging.{outside}
use Rattle.and_branch_laws.specs.Variables.{cells_from, placed}
use Rattle.and_determinacy.specs.Seeing.{argument_pairs}
use Rattle.and_determinacy.proofs.Parted.{kinds_apart, parted_so}
use Rattle.and_determinacy.proofs.SureParts.{structure_meets, structures_one}
use Rattle.and_determinacy.proofs.SureRefs.{solid_node}
use Rattle.and_determinacy.proofs.SureSteps.{frame}
use Rattle.and_determinacy.proofs.seeing.structure_meets.Goals as goal

pub returns-clause-meets : goal.returns-clause-meets
returns-clause-meets g c = λ e.
    let P = g.N.Naming.program in
    let S = skeleton_of c.args.loaded.now in
    let node = c.args.node in
    let asked = c.args.asked.0 in
    let one : c.kind-kind.result ≡ c.kind-wanted.result = search rules in
    let same : shown (shape_at S node.0) ≡ shown (shape_at S asked) = sym c.kind-kind.ensures.shape ∙ one ∙ c.kind-wanted.ensures.shape in
    let kinds = subst (λ (Q : NamedProgram). shown (shape_at Q.skeleton node.0) ≡ shown (shape_at Q.skeleton asked)) (sym c.requires.program) same in
    structure_meets P c.requires.falls c.args.cells.now c.args.held.now.items c.parts_meet.new.held.items c.args.given.now.items
    c.parts_meet.new.given.items node c.args.base asked kinds c.requires.solid (c.parts_meet.ensures.meets e)

pub returns-then-ne-clause-apart : goal.returns-then-ne-clause-apart
returns-then-ne-clause-apart g c = λ e.
    let P = g.N.Naming.program in
    let S = skeleton_of c.args.loaded.now in
    let row = c.args.cells.now in
    let node = c.args.node in
    let base = c.args.base in
    let asked = c.args.asked.0 in
    let other : c.kind-kind.result ≢ c.kind-wanted.result = search rules in
    let differ : shown (shape_at S node.0) ≢ shown (shape_at S asked) =
    λ same. other (c.kind-kind.ensures.shape ∙ same ∙ sym c.kind-wanted.ensures.shape) in
    let kinds = subst (λ (Q : NamedProgram). shown (shape_at Q.skeleton node.0) ≢ shown (shape_at Q.skeleton asked)) (sym c.requires.program) differ in
    λ s solves noted met.
    kinds_apart P c.requires.falls node.0 asked kinds (solid_node P row (length row) node base c.requires.in_range) c.requires.solid (cells_from base)
    frame s met.0

pub returns-clause-apart : goal.returns-clause-apart
returns-clause-apart g c = λ e.
    let P = g.N.Naming.program in
    let S = skeleton_of c.args.loaded.now in
    let row = c.args.cells.now in
    let node = c.args.node in
    let base = c.args.base in
    let asked = c.args.asked.0 in
    let held = c.args.held.now.items in
    let given = c.args.given.now.items in
    let one : c.kind-kind.result ≡ c.kind-wanted.result = search rules in
    let same : shown (shape_at S node.0) ≡ shown (shape_at S asked) = sym c.kind-kind.ensures.shape ∙ one ∙ c.kind-wanted.ensures.shape in
    let kinds = subst (λ (Q : NamedProgram). shown (shape_at Q.skeleton node.0) ≡ shown (shape_at Q.skeleton asked)) (sym c.requires.program) same in
    parted_so P row given (argument_pairs P base (arguments_at P.skeleton node.0) (arguments_at P.skeleton asked))
    ((placed base (node_term P.skeleton.nodes node.0), framed outside (node_term P.skeleton.nodes asked)) ∷ [])
    (structures_one P c.requires.falls row held held given given node base asked kinds) (c.parts_meet.ensures.apart e)
