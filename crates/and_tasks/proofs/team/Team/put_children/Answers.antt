use Rattle.std.proofs.Common.{◌≡◌, ◌∙◌, ◌∷◌, Some, ap, sym, subst, refl}
use Rattle.std.specs.Prelude.{Option}
use Rattle.std.specs.Option.{option_or}
use Rattle.and_model.specs.declared.goal.Cut.{Cut}
use Rattle.and_cells.specs.Ranges.{NamedProgram}
use Rattle.and_branch.specs.Children.{Fork}
use Rattle.and_code.specs.Telling.{IsTold}
use Rattle.and_code.specs.declared.telling.CodeSoFar.{CodeSoFar}
use Rattle.and_tree.specs.Passes.{TreeId}
use Rattle.and_tasks.specs.Working.{AreServed, Serves, Works, forked}
use Rattle.and_tasks.specs.declared.stack.Level.{Level}
use Rattle.and_tasks.specs.declared.stack.Task.TheVariants.{Children}
use Rattle.and_tasks.proofs.Having.{key_there}
use Rattle.and_tasks.proofs.Ready.{none_shares, shares_still}
use Rattle.and_tasks.proofs.ToldKeys.{begins_same}
use Rattle.and_tasks.proofs.Turns.{begins_longer, few_children, few_in_hand, justified_fork, forked_works}
use Rattle.and_tasks.proofs.team.Team.put_children.Goals as goal

pub fork-requires-clause-hand : goal.fork-requires-clause-hand
fork-requires-clause-hand g c =
    let s = c.args.self.now in
    let f : Fork = c.args.choicepoint in
    key_there g.N.Naming.program c.args.shared.now.tree.now s.pass f.parent s.stack.items f.parent.key refl c.requires.works.has

pub fork-requires-clause-longer : goal.fork-requires-clause-longer
fork-requires-clause-longer g c =
    let (t, o, first, branch, are, is_cut, state) = c.requires.split in
    begins_longer g.N.Naming.program c.args.choicepoint t branch are

pub fork-requires-clause-is_fork : goal.fork-requires-clause-is_fork
fork-requires-clause-is_fork g c =
    let s = c.args.self.now in
    let (t, o, first, branch, are, is_cut, state) = c.requires.split in
    justified_fork g.N.Naming.program c.args.shared.now.tree.now s.pass s.found c.args.choicepoint s.stack.items t o first c.requires.works
    branch are state

pub fork-requires-clause-few : goal.fork-requires-clause-few
fork-requires-clause-few g c =
    let P : NamedProgram = g.N.Naming.program in
    let s = c.args.self.now in
    let f : Fork = c.args.choicepoint in
    let (t, o, first, branch, are, is_cut, state) = c.requires.split in
    few_in_hand P c.args.shared.now.tree.now s.pass f.parent s.stack.items f.clauses c.requires.works.has c.requires.few
    (few_children P c.args.shared.now.loaded.now f t o first c.requires.program state)

pub put_fork-requires-clause-works : goal.put_fork-requires-clause-works
put_fork-requires-clause-works g c κs within =
    let P : NamedProgram = g.N.Naming.program in
    let tree : TreeId = c.args.shared.now.tree.now in
    let s = c.args.self.now in
    let f : Fork = c.args.choicepoint in
    let was : c.replace-told.result ≡ c.args.hand.now.told = c.replace-told.ensures.value in
    let l : Level g.row.N.Denot = record { point = f; told = c.replace-told.result; longer = c.of-longer.result } in
    let (t, o, first, branch, are, is_cut, state) = c.requires.split in
    let counted = c.count_fork.ensures in
    let kept = c.keep_cut.ensures in
    subst (λ (m : Level g.row.N.Denot). Works P tree c.fork.new.pass c.keep_cut.new.self (Children m ∷ s.stack.items)) (sym c.new-level.ensures)
    (forked_works P tree s.pass c.fork.new.pass s.found c.keep_cut.new.self l s.stack.items t o first c.args.cut c.requires.works
    branch are is_cut state (few_children P c.args.shared.now.loaded.now f t o first c.requires.program state)
    (subst (λ (u : CodeSoFar). IsTold P.program f.parent.reductions u f.longer) (sym was) c.requires.told)
    (ap (λ (u : CodeSoFar). u.length) was ∙ c.requires.length)
    (c.of-longer.ensures ∙ c.key.ensures ∙ c.requires.key) (kept.rest ∙ counted.rest.1)
    (kept.counts.0 ∙ counted.forks) (kept.counts.1 ∙ counted.failed)
    (kept.cut ∙ ap (λ (x : Option Cut). option_or x c.args.cut) counted.rest.0) c.fork.ensures)

pub put_fork-requires-clause-left : goal.put_fork-requires-clause-left
put_fork-requires-clause-left g c κs within =
    let left = c.args.hand.now.branch in
    subst (λ (m : Level g.row.N.Denot). Serves m left) (sym c.new-level.ensures)
    (record { back = c.requires.left; begins = begins_same c.args.choicepoint.longer left.key c.requires.key })

pub put_fork-requires-clause-served : goal.put_fork-requires-clause-served
put_fork-requires-clause-served g c κs within =
    subst (λ (m : Level g.row.N.Denot). AreServed (Some (forked m)) c.args.self.now.stack.items) (sym c.new-level.ensures) c.requires.served

pub put_fork-requires-clause-shares : goal.put_fork-requires-clause-shares
put_fork-requires-clause-shares g c κs within =
    let h = c.args.hand.now in
    shares_still c.args.self.now.found c.keep_cut.new.self h.common h.branch.key (c.keep_cut.ensures.rest ∙ c.count_fork.ensures.rest.1)
    c.requires.shares

pub invariant_of-self : goal.invariant_of-self
invariant_of-self g c =
    let s = c.args.self.now in
    record {
      number_is = c.fork.ensures.team ∙ s.number_is;
      left_shares = none_shares c.keep_cut.new.self s.common s.left c.requires.none;
    }
