use Rattle.std.proofs.Common.{ℕ, ◌≤◌, ◌∙◌, ◌+◌, List, ap, subst, refl, drop, length, ◌++◌, ◌∷◌, [], rules}
use Rattle.std.proofs.lemmas.List.{drop_all}
use Rattle.and_branch.specs.Children.{Fork}
use Rattle.and_histories.specs.PlainTree as plain
use Rattle.and_histories.specs.PlainTree.{Key, children}
use Rattle.and_tree.specs.Replies.{is_last}
use Rattle.and_team_laws.specs.Owed.{SameItems}
use Rattle.and_tasks.proofs.Having.{child_in_hand, child_ended}
use Rattle.and_tasks.proofs.team.Team.give_up_children.Goals as goal

pub give_up_child-requires-clause-tree : goal.give_up_child-requires-clause-tree
give_up_child-requires-clause-tree g c = c.loop-place.invariant.1 ∙ c.requires.tree

pub give_up_child-requires-clause-hand : goal.give_up_child-requires-clause-hand
give_up_child-requires-clause-hand g c =
    let f : Fork = c.args.level.now.point in
    let place : ℕ = c.loop-place.place in
    let clause : ℕ = c.clause_left.result.0 in
    child_in_hand c.loop-place.self.pass.hand c.requires.hand.0 (c.args.level.now.longer.value ++ clause ∷ []) f.longer (drop place f.clauses)
    (drop (place + 1) f.clauses) clause c.clause_left.ensures (ap (λ (k : Key). k ++ clause ∷ []) c.requires.longer)
    (c.loop-place.invariant.0 c.requires.hand.0 c.requires.hand.1)

pub loop-place-init : goal.loop-place-init
loop-place-init g c = ((λ rest same. same), refl, refl, refl, refl, refl)

pub loop-place-preserved : goal.loop-place-preserved
loop-place-preserved g c =
    let f : Fork = c.args.level.now.point in
    let place : ℕ = c.loop-place.place in
    let clause : ℕ = c.clause_left.result.0 in
    let i = c.loop-place.invariant in (
      (λ rest same.
          child_ended rest (c.args.level.now.longer.value ++ clause ∷ []) f.longer (drop place f.clauses) (drop (place + 1) f.clauses) clause
          plain.given_up (is_last c.give_up_child.result) c.loop-place.self.pass c.give_up_child.new.pass c.clause_left.ensures
          (ap (λ (k : Key). k ++ clause ∷ []) c.requires.longer) c.give_up_child.ensures (i.0 rest same)),
      c.give_up_child.ensures.tree ∙ i.1,
      i.2,
      i.3,
      i.4,
      i.5,
    )

pub returns-clause-hand : goal.returns-clause-hand
returns-clause-hand g c = λ rest same.
    let f : Fork = c.args.level.now.point in
    let place : ℕ = c.loop-place.place in
    let past : length f.clauses ≤ place = search rules in
    subst (λ (cs : List ℕ). SameItems c.loop-place.self.pass.hand (children f.longer cs ++ rest)) (drop_all place f.clauses past)
    (c.loop-place.invariant.0 rest same)

pub returns-clause-tree : goal.returns-clause-tree
returns-clause-tree g c = c.loop-place.invariant.1

pub returns-clause-same : goal.returns-clause-same
returns-clause-same g c = (
  c.loop-place.invariant.2,
  c.loop-place.invariant.3,
  c.loop-place.invariant.4,
  c.loop-place.invariant.5,
)
