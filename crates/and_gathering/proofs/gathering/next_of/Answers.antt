use Rattle.std.proofs.Common.{arith, ◌≡◌, Some, ◌<◌, refl, sym, subst, get_or, length}
use Rattle.std.specs.Prelude.{slice_get}
use Rattle.std.proofs.lemmas.Option.{slice_get_read, slice_get-get_or}
use Rattle.and_gathering.specs.Gathering.{made_by}
use Rattle.and_gathering.specs.declared.links.Taken.TheVariants.{Reduced}
use Rattle.and_handed.specs.declared.told.HandedOn.{HandedOn}
use Rattle.and_gathering.proofs.Stepping.{step_is}
use Rattle.and_gathering.proofs.gathering.next_of.Goals as goal

pub returns-then-reduction-node : goal.returns-then-reduction-node
returns-then-reduction-node c =
    let told = c.index-tolds-worker.result in
    let there = get_or c.args.tolds.now c.args.worker told in
    let place = get_or c.args.places.now c.args.worker 0 in
    let below : place < length there.made.items = let long = there.made.ok.0 in let len = c.len.ensures in omega (arith, c.if-place-len.false, len, long) in
    record {
      told = told;
      place = place;
      who = slice_get_read c.args.tolds.now (length c.args.tolds.now) c.args.worker told refl (omega arith) c.index-tolds-worker.is;
      from = slice_get-get_or c.args.places.now c.args.worker 0 (omega arith);
      step = subst (λ (t : HandedOn). slice_get (made_by t) place ≡ Some (Reduced c.index.result.now.goal c.index-2.result.now.reduction))
          (sym c.index-tolds-worker.is) (step_is there place c.index.result.now c.index-2.result.now below c.index.ensures c.index-2.ensures);
      here = c.if-reduction-node.true;
    }
