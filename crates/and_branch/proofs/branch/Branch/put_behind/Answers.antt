use Rattle.std.proofs.Common.{ℕ, suc, ◌≡◌, ◌+◌, ◌<◌, length, sym, ap, subst, arith}
use Rattle.and_model.specs.declared.goal.Goal.{Goal}
use Rattle.and_model.specs.declared.numbers.NodeNo.{NodeNo}
use Rattle.and_branch_parts.specs.Next.{is_goal_item}
use Rattle.and_branch_parts.proofs.LoadedPrograms.{is_loaded}
use Rattle.and_branch.specs.Bodies.{with_body, with_next, IsCallInHand}
use Rattle.and_branch.proofs.BodiesRun.{call_in_hand}
use Rattle.and_branch.proofs.branch.Branch.put_behind.Goals as goal

pub returns-in-Some-clause-call : goal.returns-in-Some-clause-call
returns-in-Some-clause-call g c = λ h m is.
    let P = g.N.Naming.program in
    let says = c.skeleton_is_of_the_program.ensures in
    let loaded = is_loaded P c.args.loaded.now c.requires.program says.skeleton says.own_variables says.few in
    let below : c.args.place < length c.args.items.now = let count = c.requires.count in omega arith in
    let one : suc c.args.place ≡ c.args.place + 1 = omega arith in
    let node = c.called_by.ensures.call c.in-Some.called c.in-Some.is in
    let put = subst (λ (k : ℕ). c.put_body.new.self ≡ with_body P c.args.clause.0 c.args.node k c.args.self.now) (sym one)
    c.in_ok-put_body.ensures.put in
    let both = call_in_hand P loaded c.args.clause.0 c.args.node c.args.place c.args.items.now c.requires.items _ below c.args.self.now
    c.requires.branch c.requires.live (ap is_goal_item node) c.in-Some.called.0 node c.put_body.new.self put c.body_goal-goal.result
    c.body_goal-goal.ensures in
    let same : c.body_goal-goal.result ≡ h = cc in
    let called : c.in-Some.called ≡ m = cc in
    subst (λ (k : NodeNo). IsCallInHand P c.put_body.new.self h k.0
    × (with_next h c.put_body.new.self ≡ with_body P c.args.clause.0 c.args.node c.args.place c.args.self.now)) called
    (subst (λ (x : Goal). IsCallInHand P c.put_body.new.self x c.in-Some.called.0
    × (with_next x c.put_body.new.self ≡ with_body P c.args.clause.0 c.args.node c.args.place c.args.self.now)) same both)
