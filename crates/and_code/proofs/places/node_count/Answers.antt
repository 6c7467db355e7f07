use Rattle.std.proofs.Common.{◌≡◌, ◌<◌, Some, sym, ap, ◌∙◌, inl, inr, arith}
use Rattle.std.specs.Prelude.{slice_get}
use Rattle.std.proofs.lemmas.Bool.{cases_lt}
use Rattle.std.proofs.lemmas.Option.{same_Some, slice_get-get_or}
use Rattle.and_model.specs.declared.goal.Reduction.{Reduction}
use Rattle.and_branch_laws.proofs.Lists.{all_of}
use Rattle.and_code.proofs.places.node_count.Goals as goal

pub loop-place-preserved : goal.loop-place-preserved
loop-place-preserved c = λ k r low e.
    let here_is = c.at.result.now in
    let first = c.larger-count.ensures.first in
    let second = c.larger-count.ensures.second in
    elim (cases_lt k c.loop-place.place) [
      | inl before ↦ let old = c.loop-place.invariant k r before e in omega arith
      | inr past ↦
          let at : k ≡ c.loop-place.place = omega arith in
          let same : r ≡ here_is = same_Some r here_is (sym e ∙ ap (slice_get c.args.reductions.now) at ∙ c.at.ensures) in
          let parent = ap (λ (x : Reduction). x.parent) same in
          omega arith
    ]

pub returns : goal.returns
returns c =
    let rs = c.args.reductions.now in
    all_of (λ (r : Reduction). r.parent < c.loop-place.count) rs (λ r there.
    c.loop-place.invariant there.0 r (let low = there.1 in omega arith)
    (slice_get-get_or rs there.0 r there.1 ∙ ap (λ (x : Reduction). Some x) there.2))
