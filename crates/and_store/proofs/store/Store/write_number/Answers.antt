use Rattle.std.proofs.Common.{◌≡◌, ◌+◌, ap, suc, subst, arith, w64, ◌∙◌}
use Rattle.std.proofs.lemmas.Int.{to_z-of_z}
use Rattle.and_cells.specs.Numbers.{high_half, low_half}
use Rattle.and_store.specs.Calls.{FillsWord, WritesPair}
use Rattle.and_store.proofs.Working.{pair_known}
use Rattle.and_store.proofs.store.Store.write_number.Goals as goal

pub overflow_add-pair : goal.overflow_add-pair
overflow_add-pair g c =
    let m = c.self.invariant.modest.words in
    let e = ap (λ z. z.about.words) c.self.view_is in
    let within = c.requires.pair in
    omega (arith, m, e, within)

pub returns-clause-written : goal.returns-clause-written
returns-clause-written g c =
    let P = g.N.Naming.program in
    let a = c.args.self.now.about in
    let next : c.args.pair + 1 ≡ suc c.args.pair = omega arith in
    let value = to_z-of_z w64 c.args.value c.ranges.value in
    let middle = c.fill-high.new.pass.pass in
    let end = c.fill-low.new.pass.pass in record {
      high = c.fill-high.result;
      low = c.fill-low.result;
      between = middle;
      first = subst (λ h. FillsWord P a c.args.pair h c.fill-high.result c.args.pass.now.pass middle) (c.halves-high.ensures.high ∙ ap high_half value)
          c.fill-high.ensures.fills;
      second = subst (λ n. FillsWord P a n (low_half c.args.value) c.fill-low.result middle end) next
          (subst (λ h. FillsWord P a (c.args.pair + 1) h c.fill-low.result middle end) (c.halves-high.ensures.low ∙ ap low_half value)
          c.fill-low.ensures.fills);
      holds = to_z-of_z w64 c.joined.result (record { sfits = c.joined.type_inv }) ∙ c.joined.ensures;
    }

pub returns-clause-known : goal.returns-clause-known
returns-clause-known g c =
    pair_known g.N.Naming.program c.args.self.now.about c.args.pair c.args.value _ c.args.pass.now.pass c.fill-low.new.pass.pass (returns-clause-written g c)
