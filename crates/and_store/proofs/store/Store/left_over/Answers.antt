use Rattle.std.proofs.Common.{◌∙◌, ap, sym, subst, ◌≡◌, ◌<◌, ◌≤◌, ◌*◌, ◌++◌, ℕ, List, Bool, take, drop, length, get_or, false, arith, All}
use Rattle.std.proofs.lemmas.List.Elements.{All-append, All-filter}
use Rattle.std.specs.Prelude.{not}
use Rattle.and_store.specs.Left.{handed_out, left_numbers, waiters_hung, numbered, in_order}
use Rattle.and_store.proofs.Over.{order_more, left_so, written_back, number_put}
use Rattle.and_store.proofs.store.Store.left_over.Goals as goal

pub loop-number-preserved : goal.loop-number-preserved
loop-number-preserved g c =
    let ps = c.args.passes.now in
    let number : ℕ = c.loop-number.number in
    let bound : ℕ = c.args.self.now.about.seats * c.args.self.now.about.waiters in
    let marks = take c.in_ok-marks.marks.len (c.mark_handed_out.new.marks ++ drop (length c.mark_handed_out.new.marks) c.in_ok-marks.marks.items) in
    let own : List ℕ = waiters_hung (numbered number ps) in (
      c.in_ok-push_left.ensures.pushed ∙ ap (λ l. c.loop-number.left.items ++ left_numbers l own) c.as_slice.ensures.value
          ∙ number_put marks number ps c.loop-number.left.items c.loop-number.invariant.0,
      subst (All (λ w. w < bound)) (sym (order_more number ps))
          (All-append (λ w. w < bound) (waiters_hung (in_order number ps)) own c.loop-number.invariant.1 c.in_ok-push_left.ensures.below),
    )

pub returns-clause-left : goal.returns-clause-left
returns-clause-left g c =
    let ps = c.args.passes.now in
    let bound : ℕ = c.args.self.now.about.seats * c.args.self.now.about.waiters in
    let new = c.mark_handed_out.new.marks in
    let items = c.in_ok-marks.marks.items in
    let marks = take c.in_ok-marks.marks.len (new ++ drop (length new) items) in
    let long : length items ≡ c.in_ok-marks.marks.len = sym c.in_ok-marks.marks.ok.0 in
    let written : marks ≡ new = written_back new items c.in_ok-marks.marks.len (c.mark_handed_out.ensures.len ∙ ap length c.as_mut_slice.ensures.value) long in
    let seats : c.self.inside.seats ≡ c.args.self.now.about.seats = sym c.self.invariant.seats_are ∙ ap (λ z. z.about.seats) c.self.view_is in
    let each : c.self.inside.waiters ≡ c.args.self.now.about.waiters = sym c.self.invariant.waiters_are ∙ ap (λ z. z.about.waiters) c.self.view_is in
    let many : length c.as_mut_slice.result.now ≡ bound =
    ap length c.as_mut_slice.ensures.value ∙ long ∙ c.in_ok-marks.ensures.len ∙ ap (λ (n : ℕ). n * c.self.inside.waiters) seats
    ∙ ap (λ (n : ℕ). c.args.self.now.about.seats * n) each in
    let last : c.loop-number.number ≤ c.self.inside.seats = c.loop-number.auto.number-end in
    let done : c.loop-number.number ≡ c.self.inside.seats = omega (arith, last, c.loop-number-test.false) in
    let all : c.loop-number.number ≡ c.args.self.now.about.seats = done ∙ seats in
    c.loop-number.invariant.0 ∙ ap (λ (n : ℕ). left_numbers marks (waiters_hung (in_order n ps))) all
    ∙ left_so marks (handed_out ps) (waiters_hung (in_order c.args.self.now.about.seats ps)) bound
    (λ w h. ap (λ (l : List Bool). get_or l w false) written ∙ c.mark_handed_out.ensures.marked w (subst (λ (n : ℕ). w < n) (sym many) h))
    (subst (λ (n : ℕ). All (λ w. w < bound) (waiters_hung (in_order n ps))) all c.loop-number.invariant.1)

pub returns-clause-below : goal.returns-clause-below
returns-clause-below g c =
    let bound : ℕ = c.args.self.now.about.seats * c.args.self.now.about.waiters in
    let new = c.mark_handed_out.new.marks in
    let marks = take c.in_ok-marks.marks.len (new ++ drop (length new) c.in_ok-marks.marks.items) in
    subst (All (λ w. w < bound)) (sym c.loop-number.invariant.0)
    (All-filter (λ n. not (get_or marks n false)) (λ w. w < bound) (waiters_hung (in_order c.loop-number.number c.args.passes.now)) c.loop-number.invariant.1)
