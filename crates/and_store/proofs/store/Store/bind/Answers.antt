use Rattle.std.proofs.Common.{◌∙◌, ap, sym, subst, ◌≡◌, drop, vec_capacity, arith}
use Rattle.and_model.specs.Words.{word_of}
use Rattle.and_store.specs.Calls.{LooksAt, SetsCell, ClosesPlace}
use Rattle.and_store.specs.Sight.{About}
use Rattle.and_store.specs.Told.{mine_of}
use Rattle.and_store.proofs.Binding.{won_set, won_some, won_none, closes_some, closes_none, between, waiter_fits}
use Rattle.and_store.proofs.Telling.{look_so}
use Rattle.and_store.proofs.store.Store.bind.Goals as goal

pub returns-then-found-ne0-clause-already : goal.returns-then-found-ne0-clause-already
returns-then-found-ne0-clause-already g c =
    let told = c.set_cell-found.ensures.told.0.1 c.if-found-ne0.true in
    let looks = look_so g.N.Naming.program c.args.cell _ c.set_cell-found.result _ _ c.reference.result _
    (ap (λ z. z.store.about) c.pass.view_is ∙ ap (λ z. z.about) c.requires.store) (ap (λ z. z.pass) c.pass.view_is) told c.reference.ensures in
    λ r is.
    let same : c.reference.result ≡ r = cc in (
      subst (λ r. LooksAt g.N.Naming.program c.args.self.now.about c.args.cell r c.args.pass.now.pass (mine_of c.set_cell-found.new.seat.me.0).pass) same looks,
      (λ free. c.if-found-ne0.true (told.found_is ∙ ap word_of (sym (c.reference.ensures _ told.named (sym told.found_is)) ∙ same ∙ free))),
      ap (λ z. z.kept) c.pass.view_is,
    )

pub invariant_of-pass-then-place-ge-FIRST_WAITER : goal.invariant_of-pass-then-place-ge-FIRST_WAITER
invariant_of-pass-then-place-ge-FIRST_WAITER g c =
    let p = c.pass.inside in
    let w = c.close_place-place.new.seat.me.0 in
    let found = c.close_place-place.result in
    let set = c.set_cell-found.ensures.told.0.0 c.if-found-ne0.false in (
      c.close_place-place.ensures.told.1,
      rw (c.push_reserved.ensures.items, c.push_reserved.ensures.capacity)
          (won_some g.N.Naming.program c.args.cell c.args.to p.seat.me.0 c.set_cell-found.new.seat.me.0 w found p.number p.hung p.is_refused
          p.frames_end p.taken.items
          (vec_capacity p.taken) p.handed c.pass.invariant.1 set c.close_place-place.ensures.told.0 c.if-place-ge-FIRST_WAITER.true),
    )

pub invariant_of-pass-else-place-ge-FIRST_WAITER : goal.invariant_of-pass-else-place-ge-FIRST_WAITER
invariant_of-pass-else-place-ge-FIRST_WAITER g c =
    let p = c.pass.inside in
    let w = c.close_place-place.new.seat.me.0 in
    let found = c.close_place-place.result in
    let set = c.set_cell-found.ensures.told.0.0 c.if-found-ne0.false in (
      c.close_place-place.ensures.told.1,
      won_none g.N.Naming.program c.args.cell c.args.to p.seat.me.0 c.set_cell-found.new.seat.me.0 w found p.number p.hung p.is_refused
          p.frames_end p.taken.items
          (vec_capacity p.taken) p.handed c.pass.invariant.1 set c.close_place-place.ensures.told.0 c.if-place-ge-FIRST_WAITER.false,
    )

pub returns-then-place-ge-FIRST_WAITER-clause-won : goal.returns-then-place-ge-FIRST_WAITER-clause-won
returns-then-place-ge-FIRST_WAITER-clause-won g c =
    let p = c.pass.inside in
    let w = c.close_place-place.new.seat.me.0 in
    let found = c.close_place-place.result in
    let set = c.set_cell-found.ensures.told.0.0 c.if-found-ne0.false in
    let b = between g.N.Naming.program c.args.cell c.args.to p.seat.me.0 c.set_cell-found.new.seat.me.0 w found p.number p.hung p.is_refused
    p.frames_end p.taken.items
    (vec_capacity p.taken) p.handed c.pass.invariant.1 set c.close_place-place.ensures.told.0 in
    let about : p.seat.me.0.about ≡ c.args.self.now.about = ap (λ z. z.store.about) c.pass.view_is ∙ ap (λ z. z.about) c.requires.store in
    λ won. record {
      between = b;
      set = subst (λ (a : About). SetsCell a c.args.cell c.args.to c.args.pass.now.pass b) about
          (subst (λ q. SetsCell p.seat.me.0.about c.args.cell c.args.to q b) (ap (λ z. z.pass) c.pass.view_is)
          (won_set g.N.Naming.program c.args.cell c.args.to p.seat.me.0 c.set_cell-found.new.seat.me.0 w found p.number p.hung p.is_refused
          p.frames_end p.taken.items
          (vec_capacity p.taken) p.handed c.pass.invariant.1 set c.close_place-place.ensures.told.0));
      closes = subst (λ l. ClosesPlace c.args.cell b (mine_of w).pass l (drop p.handed c.push_reserved.new.self.items)) (ap (λ z. z.kept) c.pass.view_is)
          (rw c.push_reserved.ensures.items
          (closes_some g.N.Naming.program c.args.cell c.args.to p.seat.me.0 c.set_cell-found.new.seat.me.0 w found p.number p.hung p.is_refused
          p.frames_end p.taken.items
          (vec_capacity p.taken) p.handed c.pass.invariant.1 set c.close_place-place.ensures.told.0 c.if-place-ge-FIRST_WAITER.true));
    }

pub returns-else-place-ge-FIRST_WAITER-clause-won : goal.returns-else-place-ge-FIRST_WAITER-clause-won
returns-else-place-ge-FIRST_WAITER-clause-won g c =
    let p = c.pass.inside in
    let w = c.close_place-place.new.seat.me.0 in
    let found = c.close_place-place.result in
    let set = c.set_cell-found.ensures.told.0.0 c.if-found-ne0.false in
    let b = between g.N.Naming.program c.args.cell c.args.to p.seat.me.0 c.set_cell-found.new.seat.me.0 w found p.number p.hung p.is_refused
    p.frames_end p.taken.items
    (vec_capacity p.taken) p.handed c.pass.invariant.1 set c.close_place-place.ensures.told.0 in
    let about : p.seat.me.0.about ≡ c.args.self.now.about = ap (λ z. z.store.about) c.pass.view_is ∙ ap (λ z. z.about) c.requires.store in
    λ won. record {
      between = b;
      set = subst (λ (a : About). SetsCell a c.args.cell c.args.to c.args.pass.now.pass b) about
          (subst (λ q. SetsCell p.seat.me.0.about c.args.cell c.args.to q b) (ap (λ z. z.pass) c.pass.view_is)
          (won_set g.N.Naming.program c.args.cell c.args.to p.seat.me.0 c.set_cell-found.new.seat.me.0 w found p.number p.hung p.is_refused
          p.frames_end p.taken.items
          (vec_capacity p.taken) p.handed c.pass.invariant.1 set c.close_place-place.ensures.told.0));
      closes = subst (λ l. ClosesPlace c.args.cell b (mine_of w).pass l (drop p.handed p.taken.items)) (ap (λ z. z.kept) c.pass.view_is)
          (closes_none g.N.Naming.program c.args.cell c.args.to p.seat.me.0 c.set_cell-found.new.seat.me.0 w found p.number p.hung p.is_refused
          p.frames_end p.taken.items
          (vec_capacity p.taken) p.handed c.pass.invariant.1 set c.close_place-place.ensures.told.0 c.if-place-ge-FIRST_WAITER.false);
    }

pub overflow_cast-place : goal.overflow_cast-place
overflow_cast-place g c =
    let p = c.pass.inside in
    let set = c.set_cell-found.ensures.told.0.0 c.if-found-ne0.false in
    let fits = waiter_fits g.N.Naming.program c.args.cell c.args.to p.seat.me.0 c.set_cell-found.new.seat.me.0 c.close_place-place.new.seat.me.0
    c.close_place-place.result c.pass.invariant.1.modest set
    c.close_place-place.ensures.told.0 in
    omega (arith, fits)
