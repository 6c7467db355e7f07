use Rattle.std.proofs.Common.{◌∙◌, ap, sym, length}
use Rattle.std.proofs.lemmas.List.{drop_all}
use Rattle.std.proofs.Common.{ℕ, List}
use Rattle.and_lint.specs.Kept.{all_counted}
use Rattle.and_lint.proofs.Counts.{counted_on, length-counted}
use Rattle.and_lint.proofs.counting.count_variables.Goals as goal

pub loop-number-preserved : goal.loop-number-preserved
loop-number-preserved c = (
  ap (λ (ks : List ℕ). length ks) c.count_variable.ensures ∙ length-counted c.loop-number.counts _ ∙ c.loop-number.invariant.0,
  counted_on c.args.counts.now c.loop-number.counts c.count_variable.new.counts c.args.variables.now c.args.variables.now c.loop-number.number-index
      c.loop-number-test.true c.loop-number.invariant.1 c.count_variable.ensures,
)

pub returns : goal.returns
returns c =
    sym (ap (λ (ks : List ℕ). all_counted c.loop-number.counts ks) (drop_all c.loop-number.number-index c.args.variables.now c.loop-number-test.false))
    ∙ c.loop-number.invariant.1
