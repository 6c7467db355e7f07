use Rattle.std.proofs.Common.{ℕ, ◌≡◌, ◌<◌, ◌++◌, ◌∷◌, List, [], Some, length, sym, ap, ◌∙◌, subst}
use Rattle.std.specs.Prelude.{slice_get, All}
use Rattle.std.proofs.lemmas.List.Elements.{All-nil, All-cons}
use Rattle.and_model.specs.declared.reference.Ref.{Ref}
use Rattle.and_program.specs.Loaded.{nodes_at}
use Rattle.and_program.specs.Skeletons.{call}
use Rattle.and_cells.specs.Ranges.{NamedProgram, IsInRange}
use Rattle.and_determinacy.specs.Watching.{IsWatched}
use Rattle.and_guards.proofs.Nodes.{has_node, node_is, loaded_is}
use Rattle.and_determinacy.proofs.Resting.{rests_on}
use Rattle.and_guards.proofs.Resolved.{resolved_is, falls_in, part_in_range}
use Rattle.and_determinacy.proofs.Watched.{root_watched}
use Rattle.and_determinacy.proofs.watching.watch.Goals as goal

-- a list that was emptied, and to which one was put
visits_are : (empty visits : List Ref) (root : Ref) → empty ≡ [] → visits ≡ empty ++ root ∷ [] → visits ≡ root ∷ []
visits_are empty visits root none put = put ∙ ap (λ (rs : List Ref). rs ++ root ∷ []) none

pub call_at-requires-clause-call : goal.call_at-requires-clause-call
call_at-requires-clause-call g c =
    let P = g.N.Naming.program in
    let goal = c.args.goal in
    let facts = loaded_is P c.args.loaded.now c.requires.program c.skeleton_is_of_the_program.ensures.skeleton
    c.skeleton_is_of_the_program.ensures.own_variables c.skeleton_is_of_the_program.ensures.few in
    subst (λ (Q : NamedProgram). (n : ℕ) × (slice_get (nodes_at Q.skeleton goal.clause.0).items goal.item ≡ Some (call n)))
    c.requires.program (has_node P facts c.args.cells.now goal c.requires.goal)

pub resolve-root-requires-clause-there : goal.resolve-root-requires-clause-there
resolve-root-requires-clause-there g c =
    let P = g.N.Naming.program in
    let goal = c.args.goal in
    let facts = loaded_is P c.args.loaded.now c.requires.program c.skeleton_is_of_the_program.ensures.skeleton
    c.skeleton_is_of_the_program.ensures.own_variables c.skeleton_is_of_the_program.ensures.few in
    let node = node_is P facts c.args.cells.now goal c.requires.goal c.call_at.result.0
    (subst (λ (Q : NamedProgram). slice_get (nodes_at Q.skeleton goal.clause.0).items goal.item ≡ Some (call c.call_at.result.0))
    (sym c.requires.program) c.call_at.ensures) in
    subst (λ (Q : NamedProgram). c.call_at.result.0 < length Q.skeleton.nodes) c.requires.program node.reads.in_range.there

pub resolve-root-requires-clause-base : goal.resolve-root-requires-clause-base
resolve-root-requires-clause-base g c =
    let P = g.N.Naming.program in
    let goal = c.args.goal in
    let facts = loaded_is P c.args.loaded.now c.requires.program c.skeleton_is_of_the_program.ensures.skeleton
    c.skeleton_is_of_the_program.ensures.own_variables c.skeleton_is_of_the_program.ensures.few in
    let node = node_is P facts c.args.cells.now goal c.requires.goal c.call_at.result.0
    (subst (λ (Q : NamedProgram). slice_get (nodes_at Q.skeleton goal.clause.0).items goal.item ≡ Some (call c.call_at.result.0))
    (sym c.requires.program) c.call_at.ensures) in
    node.reads.in_range.base_below

pub gather_apart-requires-clause-in_range : goal.gather_apart-requires-clause-in_range
gather_apart-requires-clause-in_range g c =
    let P = g.N.Naming.program in
    let goal = c.args.goal in
    let row = c.args.cells.now in
    let facts = loaded_is P c.args.loaded.now c.requires.program c.skeleton_is_of_the_program.ensures.skeleton
    c.skeleton_is_of_the_program.ensures.own_variables c.skeleton_is_of_the_program.ensures.few in
    let node = node_is P facts row goal c.requires.goal c.call_at.result.0
    (subst (λ (Q : NamedProgram). slice_get (nodes_at Q.skeleton goal.clause.0).items goal.item ≡ Some (call c.call_at.result.0))
    (sym c.requires.program) c.call_at.ensures) in
    let fall = falls_in P c.args.loaded.now c.requires.program c.skeleton_is_of_the_program.ensures.skeleton.0 in
    let is = resolved_is P c.args.loaded.now c.call_at.result goal.base c.resolve-root.result c.requires.program c.resolve-root.ensures in
    let root = subst (IsInRange P (length row)) (sym is) (part_in_range P (length row) c.call_at.result.0 goal.base fall node.reads.in_range) in
    subst (All (IsInRange P (length row))) (sym (visits_are c.clear.new.self.items c.push.new.self.items c.resolve-root.result
    c.clear.ensures.items c.in_ok-push.ensures.items))
    (All-cons (IsInRange P (length row)) c.resolve-root.result [] root (All-nil (IsInRange P (length row))))

pub returns-else-not-all-clause-all : goal.returns-else-not-all-clause-all
returns-else-not-all-clause-all g c = λ e.
    let P = g.N.Naming.program in
    let goal = c.args.goal in
    let row = c.args.cells.now in
    let facts = loaded_is P c.args.loaded.now c.requires.program c.skeleton_is_of_the_program.ensures.skeleton
    c.skeleton_is_of_the_program.ensures.own_variables c.skeleton_is_of_the_program.ensures.few in
    let node = node_is P facts row goal c.requires.goal c.call_at.result.0
    (subst (λ (Q : NamedProgram). slice_get (nodes_at Q.skeleton goal.clause.0).items goal.item ≡ Some (call c.call_at.result.0))
    (sym c.requires.program) c.call_at.ensures) in
    let fall = falls_in P c.args.loaded.now c.requires.program c.skeleton_is_of_the_program.ensures.skeleton.0 in
    let is = resolved_is P c.args.loaded.now c.call_at.result goal.base c.resolve-root.result c.requires.program c.resolve-root.ensures in
    let root = c.resolve-root.result in
    let visits = c.push.new.self.items in
    let out = c.gather_apart.new.out.items in
    let longer = c.in_ok-all.ensures.longer in
    let all = c.in_ok-all.ensures.all (cc) in
    let watched = root_watched P row c.len-words.result c.len-begun.result c.args.out.now.items longer.0 out root visits longer.1
    (c.len-begun.ensures ∙ c.args.out.now.ok.0)
    (visits_are c.clear.new.self.items visits root c.clear.ensures.items c.in_ok-push.ensures.items) all in
    let below = subst (λ (n : ℕ). IsWatched P row n longer.0 root) c.len-words.ensures.value watched in (
      longer.0,
      longer.1,
      rests_on P row goal c.call_at.result.0 longer.0 fall c.len-words.ensures.sound c.requires.settled node
          (subst (IsWatched P row (length row) longer.0) is below),
    )
