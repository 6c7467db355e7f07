use Rattle.std.proofs.Common.{arith}
use Rattle.std.proofs.lemmas.Grind.{common_steps}
use Rattle.and_io.proofs.FlowLemmas.{stays_on, adds_more, next_piece}
use Rattle.and_io.proofs.writing.write_all_counted.Goals as goal

pub writing-preserved : goal.writing-preserved
writing-preserved g c =
    record {
      within = let step = c.in-Ok.ensures.within in grind (arith, common_steps);
      gained = adds_more _ _ _ _ _ _ (next_piece c.writing.written c.in-Ok.n c.args.bytes.now c.in-Ok.ensures.within c.writing.invariant.within)
          c.writing.invariant.gained c.in-Ok.ensures.gains;
      count = omega arith;
      stays = stays_on _ _ _ _ c.writing.invariant.stays c.in-Ok.ensures.stays;
    }
