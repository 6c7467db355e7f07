use Rattle.std.proofs.Common.{◌∙◌, ap, sym, subst, refl, inr, arith, ◌+◌, ◌<◌, ◌≤◌, ◌≡◌, vec_capacity}
use Rattle.and_store.specs.Calls.{GetsNone, TakesFrame}
use Rattle.and_store.specs.Passes.{IsPass}
use Rattle.and_store.specs.Told.{mine_of}
use Rattle.and_store.proofs.Binding.{given_pass, given_tells, refused_tells}
use Rattle.and_store.proofs.store.Store.take_frame.Goals as goal

pub overflow_add-mark : goal.overflow_add-mark
overflow_add-mark g c = let t = c.raise_mark-mark.ensures.told.0 in let a = t.found_is in let b = t.small in omega (arith, a, b)

pub returns-then-mark-weight-clause-none : goal.returns-then-mark-weight-clause-none
returns-then-mark-weight-clause-none g c =
    let p = c.pass.inside in
    let v = p.seat.me.0 in
    let old = subst (λ b. IsPass v p.number p.hung b p.frames_end p.taken.items (vec_capacity p.taken) p.handed) c.if-pass.false c.pass.invariant.1 in
    let now : v.about.words ≡ c.args.self.now.about.words = ap (λ z. z.store.about.words) c.pass.view_is ∙ ap (λ z. z.about.words) c.requires.store in
    let words : v.about.words ≡ c.self.inside.words = now ∙ sym (ap (λ z. z.about.words) c.self.view_is) ∙ c.self.invariant.words_are in
    let above : v.about.words < c.raise_mark-mark.result + c.args.weight =
    subst (λ n. n < c.raise_mark-mark.result + c.args.weight) (sym words) c.if-mark-weight.true in
    subst (λ n. GetsNone n c.args.weight c.args.pass.now.pass (mine_of c.raise_mark-mark.new.seat.me.0).pass) now
    (subst (λ q. GetsNone v.about.words c.args.weight q (mine_of c.raise_mark-mark.new.seat.me.0).pass) (ap (λ z. z.pass) c.pass.view_is)
    (inr (
      old.refused_is refl,
      refused_tells g.N.Naming.program c.args.weight v c.raise_mark-mark.new.seat.me.0 c.raise_mark-mark.result p.number p.hung p.frames_end p.taken.items
          (vec_capacity p.taken) p.handed old c.raise_mark-mark.ensures.told.0 above,
    )))

pub invariant_of-pass-2 : goal.invariant_of-pass-2
invariant_of-pass-2 g c =
    let p = c.pass.inside in
    let v = p.seat.me.0 in
    let w = c.raise_mark-mark.new.seat.me.0 in
    let found = c.raise_mark-mark.result in
    let old = subst (λ b. IsPass v p.number p.hung b p.frames_end p.taken.items (vec_capacity p.taken) p.handed) c.if-pass.false c.pass.invariant.1 in
    let now : v.about.words ≡ c.args.self.now.about.words = ap (λ z. z.store.about.words) c.pass.view_is ∙ ap (λ z. z.about.words) c.requires.store in
    let words : v.about.words ≡ c.self.inside.words = now ∙ sym (ap (λ z. z.about.words) c.self.view_is) ∙ c.self.invariant.words_are in
    let fits : found + c.args.weight ≤ v.about.words = subst (λ n. found + c.args.weight ≤ n) (sym words) c.if-mark-weight.false in (
      c.raise_mark-mark.ensures.told.1,
      subst (λ b. IsPass w p.number p.hung b (found + c.args.weight) p.taken.items (vec_capacity p.taken) p.handed) (sym c.if-pass.false)
          (given_pass g.N.Naming.program c.args.weight v w found p.number p.hung p.frames_end p.taken.items (vec_capacity p.taken) p.handed old
          c.raise_mark-mark.ensures.told.0 fits),
    )

pub returns-clause-some : goal.returns-clause-some
returns-clause-some g c =
    let p = c.pass.inside in
    let v = p.seat.me.0 in
    let w = c.raise_mark-mark.new.seat.me.0 in
    let found = c.raise_mark-mark.result in
    let old = subst (λ b. IsPass v p.number p.hung b p.frames_end p.taken.items (vec_capacity p.taken) p.handed) c.if-pass.false c.pass.invariant.1 in
    let now : v.about.words ≡ c.args.self.now.about.words = ap (λ z. z.store.about.words) c.pass.view_is ∙ ap (λ z. z.about.words) c.requires.store in
    let words : v.about.words ≡ c.self.inside.words = now ∙ sym (ap (λ z. z.about.words) c.self.view_is) ∙ c.self.invariant.words_are in
    let fits : found + c.args.weight ≤ v.about.words = subst (λ n. found + c.args.weight ≤ n) (sym words) c.if-mark-weight.false in
    subst (λ n. TakesFrame n found c.args.weight c.args.pass.now.pass (mine_of w).pass) now
    (subst (λ q. TakesFrame v.about.words found c.args.weight q (mine_of w).pass) (ap (λ z. z.pass) c.pass.view_is)
    (given_tells g.N.Naming.program c.args.weight v w found p.number p.hung p.frames_end p.taken.items (vec_capacity p.taken) p.handed old
    c.raise_mark-mark.ensures.told.0 fits))
