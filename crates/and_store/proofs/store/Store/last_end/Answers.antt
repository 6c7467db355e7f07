use Rattle.std.proofs.Common.{◌∙◌, ap, sym, subst, inl, inr, arith, ◌≡◌, ◌≤◌, ◌<◌, ◌⊎◌, ℕ, take, length, get_or, List}
use Rattle.std.proofs.lemmas.List.Elements.{All-contains}
use Rattle.and_store.specs.Ended.{LastEnds, passes_of}
use Rattle.and_store.specs.Passes.{PassSeen, last_end}
use Rattle.and_store.proofs.Gathered.{ends_on, next_pass, pass_in}
use Rattle.and_store.proofs.store.Store.last_end.Goals as goal
use Rattle.and_store.proofs.store.Store.last_end.Goals.{then-pass-end, else-pass-end}

pub loop-i-preserved : goal.loop-i-preserved
loop-i-preserved g c =
    let ps = c.args.passes.now in
    let p = c.index-passes-i.result in
    let i = c.loop-i.i in
    let same : c.as_slice-passes.result.now ≡ ps = c.as_slice-passes.ensures.value ∙ c.passes.view_is in
    let within : i < length ps = subst (λ (l : List PassSeen). i < length l) same c.loop-i-test.true in
    let at : p ≡ get_or ps i p = c.index-passes-i.is ∙ ap (λ (l : List PassSeen). get_or l i p) same in
    let of = All-contains (λ (p : PassSeen). p.store ≡ c.args.self.now) ps p c.requires.store (pass_in ps i p within at) in
    let ends = c.pass.invariant.1 in
    let found_is : c.pass.inside.frames_end ≡ last_end p.pass.frames = ends.ends ∙ ap (λ (q : PassSeen). last_end q.pass.frames) c.pass.view_is in
    let fits : c.pass.inside.frames_end ≤ c.args.self.now.about.words =
    subst (λ (n : ℕ). c.pass.inside.frames_end ≤ n) (ap (λ (q : PassSeen). q.store.about.words) c.pass.view_is ∙ ap (λ z. z.about.words) of) ends.ends_fit in
    let which : ((c.loop-i.end < c.pass.inside.frames_end) × (c.if-pass-end.end ≡ c.pass.inside.frames_end))
    ⊎ ((c.pass.inside.frames_end ≤ c.loop-i.end) × (c.if-pass-end.end ≡ c.loop-i.end)) =
    elim c.if-pass-end.branch [ then-pass-end w ↦ inl (w.if-pass-end.true, w.end-is) | else-pass-end w ↦ inr (w.if-pass-end.false, w.end-is) ] in
    let next = next_pass ps i p within at in (
      subst (λ (l : _). LastEnds c.args.self.now.about (passes_of l) c.if-pass-end.end) (sym next)
          (ends_on c.args.self.now.about (take i ps) c.loop-i.end c.pass.inside.frames_end p c.loop-i.invariant.0 found_is c.if-pass-end.end which),
      let old = c.loop-i.invariant.1 in elim which [ inl x ↦ (let e = x.1 in omega (arith, e, fits)) | inr x ↦ (let e = x.1 in omega (arith, e, old)) ],
    )
