use Rattle.std.proofs.Common.{◌∙◌, ap, sym, subst, arith, ◌≡◌, ◌<◌, length, vec_capacity}
use Rattle.and_store_laws.specs.AtWork.{place_at}
use Rattle.and_store.specs.Calls.{HangsGoal, MissesPlace, FindsWaiter, FindsSet}
use Rattle.and_store.specs.Told.{mine_of, HangTold}
use Rattle.and_store.proofs.Goals_told.{noted_twice, hung_pass, hung_tells, missed_tells, finds_waiter, is_closed, is_occupied, finds_set}
use Rattle.and_store.proofs.store.Store.hang.Goals as goal

pub invariant_of-pass : goal.invariant_of-pass
invariant_of-pass g c =
    let p = c.pass.inside in
    let v = p.seat.me.0 in
    let w = c.hang_waiter-place.new.seat.me.0 in
    let found = c.hang_waiter-place.result in
    let P = g.N.Naming.program in
    let twice = noted_twice P c.upper_word.result c.lower_word.result v _ c.note_word-2.new.seat.me.0 c.note_word.ensures.told.0 c.note_word-2.ensures.told.0 in
    let told = subst (λ u. HangTold P c.args.cell c.args.goal u found w) twice.1 c.hang_waiter-place.ensures.told.0 in
    let waiters : v.about.waiters ≡ c.args.self.now.about.waiters =
    ap (λ z. z.store.about.waiters) c.pass.view_is ∙ ap (λ z. z.about.waiters) c.requires.store in
    let own : v.about.waiters ≡ c.self.inside.waiters = waiters ∙ sym (ap (λ z. z.about.waiters) c.self.view_is) ∙ c.self.invariant.waiters_are in
    let left : p.hung < v.about.waiters = subst (λ n. p.hung < n) (sym own) c.if-pass-self.false in (
      c.hang_waiter-place.ensures.told.1,
      hung_pass P c.args.cell c.args.goal v w found p.number p.hung p.is_refused p.frames_end p.taken.items (vec_capacity p.taken) p.handed c.pass.invariant.1
          twice.0 _ twice.2 told left c.if-place-eq-EMPTY.true,
    )

pub returns-then-place-eq-EMPTY-clause-done : goal.returns-then-place-eq-EMPTY-clause-done
returns-then-place-eq-EMPTY-clause-done g c =
    let p = c.pass.inside in
    let v = p.seat.me.0 in
    let w = c.hang_waiter-place.new.seat.me.0 in
    let found = c.hang_waiter-place.result in
    let P = g.N.Naming.program in
    let twice = noted_twice P c.upper_word.result c.lower_word.result v _ c.note_word-2.new.seat.me.0 c.note_word.ensures.told.0 c.note_word-2.ensures.told.0 in
    let told = subst (λ u. HangTold P c.args.cell c.args.goal u found w) twice.1 c.hang_waiter-place.ensures.told.0 in
    let waiters : v.about.waiters ≡ c.args.self.now.about.waiters =
    ap (λ z. z.store.about.waiters) c.pass.view_is ∙ ap (λ z. z.about.waiters) c.requires.store in
    let own : v.about.waiters ≡ c.self.inside.waiters = waiters ∙ sym (ap (λ z. z.about.waiters) c.self.view_is) ∙ c.self.invariant.waiters_are in
    let left : p.hung < v.about.waiters = subst (λ n. p.hung < n) (sym own) c.if-pass-self.false in
    λ done. subst (λ n. HangsGoal n c.args.cell c.args.goal c.args.pass.now.pass (mine_of w).pass) waiters
    (subst (λ q. HangsGoal v.about.waiters c.args.cell c.args.goal q (mine_of w).pass) (ap (λ z. z.pass) c.pass.view_is)
    (hung_tells P c.args.cell c.args.goal v w found p.number p.hung p.is_refused p.frames_end p.taken.items (vec_capacity p.taken) p.handed
    c.pass.invariant.1 twice.0 _ twice.2 told left c.if-place-eq-EMPTY.true))

pub returns-then-place-ne-CLOSED-clause-occupied : goal.returns-then-place-ne-CLOSED-clause-occupied
returns-then-place-ne-CLOSED-clause-occupied g c =
    let p = c.pass.inside in
    let v = p.seat.me.0 in
    let w = c.hang_waiter-place.new.seat.me.0 in
    let found = c.hang_waiter-place.result in
    let P = g.N.Naming.program in
    let twice = noted_twice P c.upper_word.result c.lower_word.result v _ c.note_word-2.new.seat.me.0 c.note_word.ensures.told.0 c.note_word-2.ensures.told.0 in
    let told = subst (λ u. HangTold P c.args.cell c.args.goal u found w) twice.1 c.hang_waiter-place.ensures.told.0 in
    let waiters : v.about.waiters ≡ c.args.self.now.about.waiters =
    ap (λ z. z.store.about.waiters) c.pass.view_is ∙ ap (λ z. z.about.waiters) c.requires.store in
    let own : v.about.waiters ≡ c.self.inside.waiters = waiters ∙ sym (ap (λ z. z.about.waiters) c.self.view_is) ∙ c.self.invariant.waiters_are in
    let left : p.hung < v.about.waiters = subst (λ n. p.hung < n) (sym own) c.if-pass-self.false in
    let e = c.pass.invariant.1.hung_are in
    let few : length c.args.pass.now.pass.hung < c.args.self.now.about.waiters =
    subst (λ n. length c.args.pass.now.pass.hung < n) waiters
    (subst (λ q. length q.hung < v.about.waiters) (ap (λ z. z.pass) c.pass.view_is) (omega (arith, e, left))) in
    let who = is_occupied (place_at told.held.places c.args.cell) found told.found_is c.if-place-eq-EMPTY.false c.if-place-ne-CLOSED.true in
    let finds = subst (λ q. FindsWaiter c.args.cell q (mine_of w).pass) (ap (λ z. z.pass) c.pass.view_is)
    (finds_waiter P c.args.cell c.args.goal v w found p.number p.hung p.is_refused p.frames_end p.taken.items (vec_capacity p.taken) p.handed
    c.pass.invariant.1 twice.0 _ twice.2 told c.if-place-eq-EMPTY.false who.0 who.1) in
    λ back is. (cc, few, finds)

pub returns-clause-bound : goal.returns-clause-bound
returns-clause-bound g c =
    let p = c.pass.inside in
    let v = p.seat.me.0 in
    let w = c.hang_waiter-place.new.seat.me.0 in
    let found = c.hang_waiter-place.result in
    let P = g.N.Naming.program in
    let twice = noted_twice P c.upper_word.result c.lower_word.result v _ c.note_word-2.new.seat.me.0 c.note_word.ensures.told.0 c.note_word-2.ensures.told.0 in
    let told = subst (λ u. HangTold P c.args.cell c.args.goal u found w) twice.1 c.hang_waiter-place.ensures.told.0 in
    let waiters : v.about.waiters ≡ c.args.self.now.about.waiters =
    ap (λ z. z.store.about.waiters) c.pass.view_is ∙ ap (λ z. z.about.waiters) c.requires.store in
    let own : v.about.waiters ≡ c.self.inside.waiters = waiters ∙ sym (ap (λ z. z.about.waiters) c.self.view_is) ∙ c.self.invariant.waiters_are in
    let left : p.hung < v.about.waiters = subst (λ n. p.hung < n) (sym own) c.if-pass-self.false in
    let e = c.pass.invariant.1.hung_are in
    let few : length c.args.pass.now.pass.hung < c.args.self.now.about.waiters =
    subst (λ n. length c.args.pass.now.pass.hung < n) waiters
    (subst (λ q. length q.hung < v.about.waiters) (ap (λ z. z.pass) c.pass.view_is) (omega (arith, e, left))) in
    let misses = subst (λ q. MissesPlace c.args.cell (place_at told.held.places c.args.cell) q (mine_of w).pass) (ap (λ z. z.pass) c.pass.view_is)
    (missed_tells P c.args.cell c.args.goal v w found p.number p.hung p.is_refused p.frames_end p.taken.items (vec_capacity p.taken) p.handed
    c.pass.invariant.1 twice.0 _ twice.2 told c.if-place-eq-EMPTY.false) in
    let is = is_closed (place_at told.held.places c.args.cell) found told.found_is c.if-place-ne-CLOSED.false in
    let missed = subst (λ k. MissesPlace c.args.cell k c.args.pass.now.pass (mine_of w).pass) is misses in
    let all = finds_set P c.args.self.now.about c.args.cell c.look-to.result c.args.pass.now.pass (mine_of w).pass c.look-to.new.pass.pass missed
    c.look-to.ensures.looks in
    λ to back same.
    let to_is : c.look-to.result ≡ to = cc in
    (cc, few, subst (λ r. FindsSet P c.args.self.now.about c.args.cell r c.args.pass.now.pass c.look-to.new.pass.pass) to_is all)
