use Rattle.std.proofs.Common.{ℕ, ◌++◌, ◌∷◌, [], ap}
use Rattle.and_branch.specs.Children.{Fork}
use Rattle.and_cells.specs.Ranges.{NamedProgram}
use Rattle.and_histories.specs.PlainTree.{Key}
use Rattle.and_tree.specs.Replies.{is_last}
use Rattle.and_tasks.proofs.Having.{all_keys, children_there, child_in_hand, has_last_given_up}
use Rattle.and_tasks.proofs.Ready.{child_shares, last_ready}
use Rattle.and_tasks.proofs.team.Team.last_child.Goals as goal

pub last_in_place-requires-clause-children : goal.last_in_place-requires-clause-children
last_in_place-requires-clause-children g c =
    let s = c.args.self.now in
    children_there g.N.Naming.program c.args.shared.now.tree.now c.args.level s.stack.items s.pass c.requires.works.has

pub last_in_place-requires-clause-key : goal.last_in_place-requires-clause-key
last_in_place-requires-clause-key g c = c.requires.left.begins

pub last_in_place-requires-clause-some : goal.last_in_place-requires-clause-some
last_in_place-requires-clause-some g c = c.requires.works.has.tasks_are.0.some

pub last_in_place-requires-clause-back : goal.last_in_place-requires-clause-back
last_in_place-requires-clause-back g c = c.requires.left.back

pub returns-in-Ok-clause-ready : goal.returns-in-Ok-clause-ready
returns-in-Ok-clause-ready g c =
    let s = c.args.self.now in
    let (rest, child) = c.in-Ok.ensures.child in
    let P : NamedProgram = g.N.Naming.program in
    let tree = c.args.shared.now.tree.now in
    let common = c.lesser-common in
    last_ready P tree s.pass s.found c.args.level rest c.last_in_place.new.branch s.stack.items common.result c.requires.works child
    c.requires.one c.in-Ok.ensures.back c.requires.served
    (child_shares P tree s.pass s.found c.args.level c.args.hand.now.branch s.stack.items c.args.hand.now.common common.result c.requires.works c.requires.left
    c.requires.shares common.ensures.first common.ensures.second)

pub give_up_child-requires-clause-hand : goal.give_up_child-requires-clause-hand
give_up_child-requires-clause-hand g c =
    let f : Fork = c.args.level.point in
    let s = c.args.self.now in
    let clause : ℕ = c.clause_left-clause.result.0 in
    child_in_hand s.pass.hand (all_keys s.stack.items) (c.args.level.longer.value ++ clause ∷ []) f.longer f.clauses _ clause
    c.clause_left-clause.ensures (ap (λ (k : Key). k ++ clause ∷ []) c.requires.works.has.tasks_are.0.longer) c.requires.works.has.hand

pub returns-clause-given_up : goal.returns-clause-given_up
returns-clause-given_up g c =
    let P : NamedProgram = g.N.Naming.program in
    let s = c.args.self.now in
    let clause : ℕ = c.clause_left-clause.result.0 in
    has_last_given_up P c.args.shared.now.tree.now c.args.level (c.args.level.longer.value ++ clause ∷ []) clause s.stack.items
    (is_last c.give_up_child.result) s.pass c.give_up_child.new.pass c.requires.one c.clause_left-clause.ensures
    (ap (λ (k : Key). k ++ clause ∷ []) c.requires.works.has.tasks_are.0.longer) c.give_up_child.ensures c.requires.works.has
