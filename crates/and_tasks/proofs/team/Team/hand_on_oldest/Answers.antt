use Rattle.std.proofs.Common.{◌∷◌, Some, refl, subst}
use Rattle.std.proofs.lemmas.Result.{on_ok_weaker}
use Rattle.std.specs.Prelude.{IfSome, IfNone}
use Rattle.and_cells.specs.Ranges.{NamedProgram}
use Rattle.and_branch.specs.Branches.{Held}
use Rattle.and_tasks.specs.Working.{Has}
use Rattle.and_tasks.specs.declared.stack.Task.TheVariants.{One}
use Rattle.and_tasks.proofs.Sharing.{at_work_below, has_either_below, served_still, works_still}
use Rattle.and_tasks.proofs.team.Team.hand_on_oldest.Goals as goal

pub returns-in_default-clause-at_work : goal.returns-in_default-clause-at_work
returns-in_default-clause-at_work g c =
    let P : NamedProgram = g.N.Naming.program in
    let tree = c.args.shared.now.tree.now in
    let s = c.args.self.now in
    let t = c.take_oldest.new.self in
    let has = subst (λ o. IfNone o (Has P tree t.pass t.stack.items)) c.in_default.is c.in_ok-taken.ensures.none in record {
      works = works_still P tree s.pass t.pass s.found t.found s.stack.items t.stack.items c.requires.at_work.works c.in_ok-taken.ensures.pass
          c.take_oldest.ensures.same.1 has;
      served = c.in_ok-taken.ensures.served;
    }

pub returns-in_default-clause-has : goal.returns-in_default-clause-has
returns-in_default-clause-has g c = (returns-in_default-clause-at_work g c).works.has

pub offer-requires-clause-works : goal.offer-requires-clause-works
offer-requires-clause-works g c κs within =
    let P : NamedProgram = g.N.Naming.program in
    let tree = c.args.shared.now.tree.now in
    let s = c.args.self.now in
    let t = c.take_oldest.new.self in
    let taken = c.in_ok-taken.ensures in
    works_still P tree s.pass t.pass s.found t.found s.stack.items (One c.in-Some.branch ∷ t.stack.items) c.requires.at_work.works taken.pass
    c.take_oldest.ensures.same.1
    (subst (λ o. IfSome o (λ (d : Held). Has P tree t.pass (One d ∷ t.stack.items))) c.in-Some.is taken.branch)

pub returns-in-None-clause-at_work : goal.returns-in-None-clause-at_work
returns-in-None-clause-at_work g c =
    let t = c.take_oldest.new.self in
    let u = c.offer.new.self in record {
      works = c.in-None.ensures.none;
      served = served_still (Some c.args.left.now) (Some c.args.left.now) t.stack u.stack c.in_ok-taken.ensures.served c.offer.ensures.same.1 refl;
    }

pub returns-in-None-clause-has : goal.returns-in-None-clause-has
returns-in-None-clause-has g c = c.in-None.ensures.none.has

pub put_below-requires-clause-has : goal.put_below-requires-clause-has
put_below-requires-clause-has g c κs within = (c.offer.new.self.stack.items, c.in-Some-offer.ensures.some.has)

pub returns-in-Some-offer-clause-has : goal.returns-in-Some-offer-clause-has
returns-in-Some-offer-clause-has g c =
    let u = c.offer.new.self in
    let put = c.put_below in
    has_either_below g.N.Naming.program c.args.shared.now.tree.now put.result u.pass put.new.self.pass (One c.in-Some-offer.back) u.stack.items
    put.new.self.stack.items c.in-Some-offer.ensures.some.has put.ensures.put put.ensures.given_up

pub returns-in-Some-offer-clause-at_work : goal.returns-in-Some-offer-clause-at_work
returns-in-Some-offer-clause-at_work g c =
    let t = c.take_oldest.new.self in
    let u = c.offer.new.self in
    let put = c.put_below in
    let v = put.new.self in
    let left = Some c.args.left.now in
    on_ok_weaker put.result
    (at_work_below g.N.Naming.program c.args.shared.now.tree.now u.pass v.pass u.found v.found c.in-Some-offer.back u.stack.items v.stack.items left
    left c.in-Some-offer.ensures.some (served_still left left t.stack u.stack c.in_ok-taken.ensures.served c.offer.ensures.same.1 refl)
    put.ensures.same.1 refl)
    put.ensures.put
