use Rattle.std.proofs.Common.{ℕ, List, Ok, ap, sym, subst}
use Rattle.std.specs.Prelude.{Option, IfSome}
use Rattle.and_determinacy.specs.Watching.{TwoStayWhile, RestsOn}
use Rattle.and_branch_parts.specs.Branches.{Held}
use Rattle.and_branch_parts.proofs.WatchedGoals.{gained_alone}
use Rattle.and_branch.proofs.CallsWatched.{call_asleep, two_stay}
use Rattle.and_branch.proofs.branch.Branch.watch_call.Goals as goal

pub watch_goal-requires-clause-asleep : goal.watch_goal-requires-clause-asleep
watch_goal-requires-clause-asleep g c =
    let P = g.N.Naming.program in
    let stay = subst (λ (r : Option (List ℕ)). IfSome r (TwoStayWhile P c.args.self.now.row c.args.goal)) (sym c.in-Some.ensures) c.requires.told in
    call_asleep P c.args.self.now.row (record { goal = c.args.goal; cells = c.in-Some.cells.now }) c.requires.goal.term c.requires.goal.is_call stay

pub watch_goal-requires-then-branch-clause-asleep : goal.watch_goal-requires-then-branch-clause-asleep
watch_goal-requires-then-branch-clause-asleep g c =
    let P = g.N.Naming.program in
    let row = c.args.self.now.row in
    let (gained, longer, rests) = c.in_ok-watch.ensures.all (ap (λ b. Ok b) c.if-branch.true) in
    let is = gained_alone c.deref.result.now _ c.clear.new.self.items gained c.deref.ensures.value longer c.clear.ensures.items in
    let here = subst (λ (b : Held). RestsOn P b.row c.args.goal gained) c.self.view_is rests in
    call_asleep P row (record { goal = c.args.goal; cells = c.deref.result.now }) c.requires.goal.term c.requires.goal.is_call
    (subst (λ (l : List ℕ). TwoStayWhile P row c.args.goal l) (sym is) (two_stay P row c.args.goal gained c.requires.several here))
