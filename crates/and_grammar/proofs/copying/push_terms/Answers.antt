use Rattle.std.proofs.Common.{◌-◌, length, reverse, refl, arith}
use Rattle.and_grammar.proofs.CopyLemmas.{terms_first, terms_next, terms_last}
use Rattle.and_grammar.proofs.copying.push_terms.Goals as goal

pub loop-left-init : goal.loop-left-init
loop-left-init c = record { few = omega arith; same = terms_first c.args.places.now (reverse c.args.pending.now.items) (length c.args.places.now) refl }

pub loop-left-preserved : goal.loop-left-preserved
loop-left-preserved c = record {
  few = omega (arith, c.loop-left.invariant.few);
  same = terms_next c.args.places.now (reverse c.args.pending.now.items) c.loop-left.pending.items c.push.new.self.items c.loop-left.left (c.loop-left.left - 1)
      (omega arith) c.loop-left.invariant.few c.in_ok-push.ensures.items c.loop-left.invariant.same;
}

pub returns : goal.returns
returns c = terms_last c.args.places.now (reverse c.args.pending.now.items) c.loop-left.pending.items c.loop-left.left (omega arith) c.loop-left.invariant.same
