use Rattle.std.proofs.Common.{ℕ, ◌+◌, List, drop, get_or, ap, sym, subst}
use Rattle.std.specs.List.{flat_map}
use Rattle.std.proofs.lemmas.List.{drop_all, drop_more}
use Rattle.and_model.specs.Programs.{Item}
use Rattle.and_model.specs.Terms.{Term}
use Rattle.and_model.specs.declared.numbers.ClauseNo.{ClauseNo}
use Rattle.and_program.specs.Loaded.{program_of, skeleton_of}
use Rattle.and_program.specs.Skeletons.{Shape, node_term}
use Rattle.and_lint.specs.Bodies.{clauses_of, variable_for}
use Rattle.and_lint.specs.Held.{Nears}
use Rattle.and_lint.proofs.Growing.{nears_end, nears_first, nears_on}
use Rattle.and_lint.proofs.bodies.add_alternatives.Goals as goal

pub loop-no-init : goal.loop-no-init
loop-no-init c = λ items variables told.
    let ss : List Shape = (skeleton_of c.args.loaded.now).nodes in
    let t : Term = node_term ss c.args.goal.0 in
    let nos : List ClauseNo = clauses_of (program_of c.args.loaded.now) t in
    let f : ClauseNo → List Item = λ d. items d.0 in
    let g : ClauseNo → List ℕ = λ d. flat_map (variable_for t) (variables d.0) in
    subst (λ (ds : List ClauseNo). Nears ss c.args.body.now (flat_map f nos) (flat_map g nos) c.args.body.now (flat_map f ds) (flat_map g ds))
    (sym c.clauses_of-no-items.ensures) (nears_first ss c.args.body.now (flat_map f nos) (flat_map g nos))

pub loop-no-preserved : goal.loop-no-preserved
loop-no-preserved c = λ items variables told.
    let ss : List Shape = (skeleton_of c.args.loaded.now).nodes in
    let t : Term = node_term ss c.args.goal.0 in
    let nos : List ClauseNo = clauses_of (program_of c.args.loaded.now) t in
    let f : ClauseNo → List Item = λ d. items d.0 in
    let g : ClauseNo → List ℕ = λ d. flat_map (variable_for t) (variables d.0) in
    let ds : List ClauseNo = c.clauses_of-no-items.result.now in
    let i : ℕ = c.loop-no.no-index in
    let d : ClauseNo = get_or ds i (record { 0 = 0 }) in
    nears_on ss c.args.body.now c.loop-no.body c.add_alternative.new.body (flat_map f nos) (f d) (flat_map f (drop (i + 1) ds))
    (flat_map g nos) (g d) (flat_map g (drop (i + 1) ds)) (flat_map f (drop i ds)) (flat_map g (drop i ds))
    (c.loop-no.invariant items variables told)
    (ap (λ (xs : List ClauseNo). flat_map f xs) (drop_more ds i (record { 0 = 0 }) c.loop-no-test.true))
    (ap (λ (xs : List ClauseNo). flat_map g xs) (drop_more ds i (record { 0 = 0 }) c.loop-no-test.true))
    (c.in_ok-add_alternative.ensures items variables told)

pub returns : goal.returns
returns c = λ items variables told.
    let ss : List Shape = (skeleton_of c.args.loaded.now).nodes in
    let t : Term = node_term ss c.args.goal.0 in
    let nos : List ClauseNo = clauses_of (program_of c.args.loaded.now) t in
    let f : ClauseNo → List Item = λ d. items d.0 in
    let g : ClauseNo → List ℕ = λ d. flat_map (variable_for t) (variables d.0) in
    let ds : List ClauseNo = c.clauses_of-no-items.result.now in
    let i : ℕ = c.loop-no.no-index in
    nears_end ss c.args.body.now c.loop-no.body (flat_map f nos) (flat_map f (drop i ds)) (flat_map g nos) (flat_map g (drop i ds))
    (c.loop-no.invariant items variables told)
    (ap (λ (xs : List ClauseNo). flat_map f xs) (drop_all i ds c.loop-no-test.false))
    (ap (λ (xs : List ClauseNo). flat_map g xs) (drop_all i ds c.loop-no-test.false))
