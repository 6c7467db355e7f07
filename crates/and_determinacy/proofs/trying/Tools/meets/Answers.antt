use Rattle.std.proofs.Common.{ℕ, ◌≡◌, true, false, true≢false, not, List, [], map, refl, sym, ap, ◌∙◌, subst}
use Rattle.std.specs.Prelude.{IfSome}
use Rattle.and_model.specs.Candidates.{guard}
use Rattle.and_model.specs.declared.reference.Ref.{Ref}
use Rattle.and_model.specs.Programs.{clause_at}
use Rattle.and_program.specs.Skeletons.{node_term, NodeItem}
use Rattle.and_program.specs.Loaded.{nodes_at}
use Rattle.and_cells.specs.Ranges.{NamedProgram}
use Rattle.and_cells.specs.Parts.{named}
use Rattle.and_program.specs.Items.{node_item}
use Rattle.and_guards.specs.Guards.{GuardCanBeRead}
use Rattle.and_determinacy.specs.Watching.{HaveWhatWasSet, StaysWhile}
use Rattle.and_guards.proofs.Nodes.{loaded_is}
use Rattle.and_determinacy.proofs.Prepared.{made_call, made_head, made_in_range, made_settled, made_whole, made_new, made_reads}
use Rattle.and_determinacy.proofs.Prepared.{no_candidate, tried, only_tried}
use Rattle.and_determinacy.proofs.Staying.{stays}
use Rattle.and_determinacy.proofs.TakenBack.{nothing_set}
use Rattle.and_determinacy.proofs.Told.{both_told}
use Rattle.and_determinacy.proofs.trying.Tools.meets.Goals as goal

-- the items of a clause, by their nodes
items_under : (N P : NamedProgram) (c : ℕ) (items : List NodeItem) → N ≡ P → items ≡ (nodes_at P.skeleton c).items
    → items ≡ (nodes_at N.skeleton c).items
items_under N P c items same is = subst (λ (Q : NamedProgram). items ≡ (nodes_at Q.skeleton c).items) (sym same) is

pub settle_call-requires-clause-call : goal.settle_call-requires-clause-call
settle_call-requires-clause-call g c =
    let facts = loaded_is g.N.Naming.program c.args.loaded.now c.requires.program c.skeleton_is_of_the_program.ensures.skeleton
    c.skeleton_is_of_the_program.ensures.own_variables c.skeleton_is_of_the_program.ensures.few in
    made_call g.N.Naming.program facts c.args.cells.now c.requires.short c.args.node.0 c.args.base c.args.clause.0 c.requires.node c.requires.of _ _ _
    c.in_ok-floor.ensures.prepared

pub settle_call-requires-clause-head : goal.settle_call-requires-clause-head
settle_call-requires-clause-head g c =
    let facts = loaded_is g.N.Naming.program c.args.loaded.now c.requires.program c.skeleton_is_of_the_program.ensures.skeleton
    c.skeleton_is_of_the_program.ensures.own_variables c.skeleton_is_of_the_program.ensures.few in
    made_head g.N.Naming.program facts c.args.cells.now c.requires.short c.args.node.0 c.args.base c.args.clause.0 c.requires.node c.requires.of _ _ _
    c.in_ok-floor.ensures.prepared

pub settle_call-requires-clause-in_range : goal.settle_call-requires-clause-in_range
settle_call-requires-clause-in_range g c =
    let facts = loaded_is g.N.Naming.program c.args.loaded.now c.requires.program c.skeleton_is_of_the_program.ensures.skeleton
    c.skeleton_is_of_the_program.ensures.own_variables c.skeleton_is_of_the_program.ensures.few in
    made_in_range g.N.Naming.program facts c.args.cells.now c.requires.short c.args.node.0 c.args.base c.args.clause.0 c.requires.node c.requires.of _ _ _
    c.in_ok-floor.ensures.prepared

pub settle_call-requires-clause-settled : goal.settle_call-requires-clause-settled
settle_call-requires-clause-settled g c =
    let facts = loaded_is g.N.Naming.program c.args.loaded.now c.requires.program c.skeleton_is_of_the_program.ensures.skeleton
    c.skeleton_is_of_the_program.ensures.own_variables c.skeleton_is_of_the_program.ensures.few in
    made_settled g.N.Naming.program facts c.args.cells.now c.requires.short c.args.node.0 c.args.base c.args.clause.0 c.requires.node c.requires.of _ _ _
    c.in_ok-floor.ensures.prepared c.requires.settled

pub settle_call-requires-clause-no_half : goal.settle_call-requires-clause-no_half
settle_call-requires-clause-no_half g c =
    let facts = loaded_is g.N.Naming.program c.args.loaded.now c.requires.program c.skeleton_is_of_the_program.ensures.skeleton
    c.skeleton_is_of_the_program.ensures.own_variables c.skeleton_is_of_the_program.ensures.few in
    made_whole g.N.Naming.program facts c.args.cells.now c.requires.short c.args.node.0 c.args.base c.args.clause.0 c.requires.node c.requires.of _ _ _
    c.in_ok-floor.ensures.prepared

pub settle_call-requires-clause-new : goal.settle_call-requires-clause-new
settle_call-requires-clause-new g c =
    let facts = loaded_is g.N.Naming.program c.args.loaded.now c.requires.program c.skeleton_is_of_the_program.ensures.skeleton
    c.skeleton_is_of_the_program.ensures.own_variables c.skeleton_is_of_the_program.ensures.few in
    made_new g.N.Naming.program facts c.args.cells.now c.requires.short c.args.node.0 c.args.base c.args.clause.0 c.requires.node c.requires.of _ _ _
    c.in_ok-floor.ensures.prepared

pub is_guard_false-requires-clause-readable : goal.is_guard_false-requires-clause-readable
is_guard_false-requires-clause-readable g c =
    let facts = loaded_is g.N.Naming.program c.args.loaded.now c.requires.program c.skeleton_is_of_the_program.ensures.skeleton
    c.skeleton_is_of_the_program.ensures.own_variables c.skeleton_is_of_the_program.ensures.few in
    let items = items_under g.N.Naming.program (named c.args.loaded.now) c.args.clause.0 (map node_item c.items-items.result.now) c.requires.program
    c.items-items.ensures.items in
    let settles = c.in-Solved.ensures.settles in
    subst (GuardCanBeRead g.N.Naming.program c.settle_call.new.cells c.in_ok-floor.floor) (sym items)
    (made_reads g.N.Naming.program facts c.args.cells.now c.requires.short c.args.node.0 c.args.base c.args.clause.0 c.requires.node c.requires.of _ _ _
    c.in_ok-floor.ensures.prepared c.settle_call.new.cells settles.keeps settles.halves)

pub returns-then-refuted-clause-fits : goal.returns-then-refuted-clause-fits
returns-then-refuted-clause-fits g c = λ b e.
    let facts = loaded_is g.N.Naming.program c.args.loaded.now c.requires.program c.skeleton_is_of_the_program.ensures.skeleton
    c.skeleton_is_of_the_program.ensures.own_variables c.skeleton_is_of_the_program.ensures.few in
    let items = items_under g.N.Naming.program (named c.args.loaded.now) c.args.clause.0 (map node_item c.items-items.result.now) c.requires.program
    c.items-items.ensures.items in
    let answer : false ≡ b = cc in
    tried g.N.Naming.program facts c.args.cells.now c.requires.short c.args.node.0 c.args.base c.args.clause.0 c.requires.node c.requires.of _ _ _
    c.in_ok-floor.ensures.prepared c.settle_call.new.cells c.in-Solved.ensures.settles _ items c.in_ok-refuted-in-Solved.refuted
    (c.in_ok-refuted-in-Solved.ensures.judged c.in_ok-refuted-in-Solved.refuted refl) b (ap not c.if-refuted.true ∙ answer)

pub returns-then-refuted-clause-only_set : goal.returns-then-refuted-clause-only_set
returns-then-refuted-clause-only_set g c =
    only_tried g.N.Naming.program c.args.cells.now c.prepare.new.cells c.settle_call.new.cells _ _ c.args.clause.0 _ _ c.in_ok-floor.ensures.prepared
    c.in-Solved.ensures.bound c.in_ok-refuted-in-Solved.ensures.unchanged

pub returns-in_ok-add-in-Solved-clause-fits : goal.returns-in_ok-add-in-Solved-clause-fits
returns-in_ok-add-in-Solved-clause-fits g c = λ b e.
    let facts = loaded_is g.N.Naming.program c.args.loaded.now c.requires.program c.skeleton_is_of_the_program.ensures.skeleton
    c.skeleton_is_of_the_program.ensures.own_variables c.skeleton_is_of_the_program.ensures.few in
    let items = items_under g.N.Naming.program (named c.args.loaded.now) c.args.clause.0 (map node_item c.items-items.result.now) c.requires.program
    c.items-items.ensures.items in
    let answer : true ≡ b = cc in
    tried g.N.Naming.program facts c.args.cells.now c.requires.short c.args.node.0 c.args.base c.args.clause.0 c.requires.node c.requires.of _ _ _
    c.in_ok-floor.ensures.prepared c.settle_call.new.cells c.in-Solved.ensures.settles _ items c.in_ok-refuted-in-Solved.refuted
    (c.in_ok-refuted-in-Solved.ensures.judged c.in_ok-refuted-in-Solved.refuted refl) b (ap not c.if-refuted.false ∙ answer)

pub returns-in_ok-add-in-Solved-clause-only_set : goal.returns-in_ok-add-in-Solved-clause-only_set
returns-in_ok-add-in-Solved-clause-only_set g c =
    only_tried g.N.Naming.program c.args.cells.now c.prepare.new.cells c.settle_call.new.cells _ _ c.args.clause.0 _ _ c.in_ok-floor.ensures.prepared
    c.in-Solved.ensures.bound c.in_ok-refuted-in-Solved.ensures.unchanged

pub returns-in_ok-add-in-Solved-clause-stays : goal.returns-in_ok-add-in-Solved-clause-stays
returns-in_ok-add-in-Solved-clause-stays g c = λ e.
    let P = g.N.Naming.program in
    let facts = loaded_is P c.args.loaded.now c.requires.program c.skeleton_is_of_the_program.ensures.skeleton
    c.skeleton_is_of_the_program.ensures.own_variables c.skeleton_is_of_the_program.ensures.few in
    let settles = c.in-Solved.ensures.settles in
    let set = c.in-Solved.ensures.bound in
    let row = c.args.cells.now in
    let wide = c.prepare.new.cells in
    let new = c.settle_call.new.cells in
    let node = c.args.node.0 in
    let base = c.args.base in
    let clause = c.args.clause.0 in
    let floor = c.in_ok-floor.floor in
    let bound = c.settle_call.new.self in
    let told = c.add.new.self in
    let have = subst (λ (r : List Ref). IfSome told (HaveWhatWasSet P r floor bound)) c.in_ok-refuted-in-Solved.ensures.unchanged
    (subst (λ (bs : List ℕ). IfSome told (HaveWhatWasSet P c.is_guard_false.new.cells floor bs)) c.bound.ensures
    c.in_ok-add-in-Solved.ensures.have) in
    both_told (λ has. guard [] (clause_at P.program clause).body ≡ []) (HaveWhatWasSet P new floor bound)
    (λ has. StaysWhile P row base (node_term P.skeleton.nodes node) has clause) told
    (λ has no_guard had. stays P facts row wide new _ node base clause floor bound has c.in_ok-floor.ensures.prepared c.requires.settled
    c.requires.node c.requires.of set settles.halves (settles.solved refl) no_guard had)
    c.in_ok-add-in-Solved.ensures.no_guard have

pub returns-in-NoSolution-clause-fits : goal.returns-in-NoSolution-clause-fits
returns-in-NoSolution-clause-fits g c = λ b e.
    let facts = loaded_is g.N.Naming.program c.args.loaded.now c.requires.program c.skeleton_is_of_the_program.ensures.skeleton
    c.skeleton_is_of_the_program.ensures.own_variables c.skeleton_is_of_the_program.ensures.few in
    let same : false ≡ b = cc in
    let none_is = no_candidate g.N.Naming.program facts c.args.cells.now c.requires.short c.args.node.0 c.args.base c.args.clause.0
    c.requires.node c.requires.of _ _ _
    c.in_ok-floor.ensures.prepared (c.in-NoSolution.ensures.settles.no_solution refl) in
    ((λ is. absurd (true≢false (sym is ∙ sym same))), (λ k. absurd (none_is k)))

pub returns-in-NoSolution-clause-only_set : goal.returns-in-NoSolution-clause-only_set
returns-in-NoSolution-clause-only_set g c =
    only_tried g.N.Naming.program c.args.cells.now c.prepare.new.cells c.settle_call.new.cells _ _ c.args.clause.0 _ _ c.in_ok-floor.ensures.prepared
    c.in-NoSolution.ensures.bound refl

pub returns-in_err-floor-clause-only_set : goal.returns-in_err-floor-clause-only_set
returns-in_err-floor-clause-only_set g c =
    nothing_set c.args.cells.now c.prepare.new.cells c.args.self.now.solver c.requires.nothing_set c.in_err-floor.ensures.unchanged

pub returns-in_err-refuted-in-Solved-clause-only_set : goal.returns-in_err-refuted-in-Solved-clause-only_set
returns-in_err-refuted-in-Solved-clause-only_set g c =
    only_tried g.N.Naming.program c.args.cells.now c.prepare.new.cells c.settle_call.new.cells _ _ c.args.clause.0 _ _ c.in_ok-floor.ensures.prepared
    c.in-Solved.ensures.bound c.is_guard_false.ensures.unchanged

pub returns-in_err-add-in-Solved-clause-only_set : goal.returns-in_err-add-in-Solved-clause-only_set
returns-in_err-add-in-Solved-clause-only_set g c =
    only_tried g.N.Naming.program c.args.cells.now c.prepare.new.cells c.settle_call.new.cells _ _ c.args.clause.0 _ _ c.in_ok-floor.ensures.prepared
    c.in-Solved.ensures.bound c.in_ok-refuted-in-Solved.ensures.unchanged

pub returns-in-Memory-clause-only_set : goal.returns-in-Memory-clause-only_set
returns-in-Memory-clause-only_set g c =
    only_tried g.N.Naming.program c.args.cells.now c.prepare.new.cells c.settle_call.new.cells _ _ c.args.clause.0 _ _ c.in_ok-floor.ensures.prepared
    c.in-Memory.ensures.bound refl
