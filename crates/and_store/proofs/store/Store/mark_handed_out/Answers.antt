use Rattle.std.proofs.Common.{◌∙◌, ap, sym, subst, ◌≡◌, ◌<◌, ℕ, List, take, length, get_or, false}
use Rattle.and_store.specs.Left.{is_among, either_one, handed_by, handed_out}
use Rattle.and_store.specs.Passes.{PassSeen}
use Rattle.and_store.specs.Told.{waiters_of}
use Rattle.and_store.proofs.Gathered.{next_pass}
use Rattle.and_store.proofs.Over.{handed_is, handed_more}
use Rattle.and_store.proofs.store.Store.mark_handed_out.Goals as goal

pub loop-i-preserved : goal.loop-i-preserved
loop-i-preserved g c =
    let ps = c.args.passes.now in
    let p = c.index-passes-i.result in
    let i = c.loop-i.i in
    let same : c.as_slice-passes.result.now ≡ ps = c.as_slice-passes.ensures.value ∙ c.passes.view_is in
    let within : i < length ps = subst (λ (l : List PassSeen). i < length l) same c.loop-i-test.true in
    let at : p ≡ get_or ps i p = c.index-passes-i.is ∙ ap (λ (l : List PassSeen). get_or l i p) same in
    let next = next_pass ps i p within at in
    let own = c.pass.invariant.1 in
    let handed : take c.pass.inside.handed c.as_slice.result.now ≡ handed_by p =
    ap (take c.pass.inside.handed) c.as_slice.ensures.value
    ∙ handed_is p c.pass.inside.taken.items c.pass.inside.handed (own.taken_are ∙ ap (λ (q : PassSeen). waiters_of q.pass.took) c.pass.view_is)
    (sym (ap (λ (q : PassSeen). q.kept) c.pass.view_is)) own.handed_out in (
      c.mark.ensures.len ∙ c.loop-i.invariant.0,
      λ w within_marks. c.mark.ensures.marked w (subst (λ (n : ℕ). w < n) (sym c.loop-i.invariant.0) within_marks)
          ∙ ap (λ l. either_one (is_among w l) (get_or c.loop-i.marks w false)) handed
          ∙ ap (either_one (is_among w (handed_by p))) (c.loop-i.invariant.1 w within_marks)
          ∙ sym (ap (λ (l : List PassSeen). is_among w (handed_out l)) next ∙ handed_more w (take i ps) p),
    )
