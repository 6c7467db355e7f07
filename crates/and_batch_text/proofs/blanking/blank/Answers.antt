use Rattle.std.proofs.Common.{arith, refl, inl, inr, length, ap, ◌∙◌}
use Rattle.and_batch_text.specs.Views.{span_of}
use Rattle.and_batch_text.proofs.Blanks.{between, blanked-length, blanked_begun, blanked_next, blanked_whole}
use Rattle.and_batch_text.proofs.blanking.blank.Goals as goal

pub loop-place-init : goal.loop-place-init
loop-place-init c = record { from = omega arith; to = inr refl; blank = blanked_begun c.args.span.start c.args.bytes.now }

pub blank_at-requires : goal.blank_at-requires
blank_at-requires c =
    let i = c.loop-place.invariant in
    let long = ap length i.blank ∙ blanked-length (between c.args.span.start c.loop-place.place) 0 c.args.bytes.now in
    omega (arith, c.loop-place-test.true, c.lesser-end.ensures.other, long)

pub loop-place-preserved : goal.loop-place-preserved
loop-place-preserved c =
    let i = c.loop-place.invariant in record {
      from = omega (arith, i.from);
      to = inl (omega (arith, c.loop-place-test.true));
      blank = blanked_next c.args.span.start c.loop-place.place c.args.bytes.now c.loop-place.bytes c.blank_at.new.bytes i.from i.blank c.blank_at.ensures;
    }

pub returns : goal.returns
returns c =
    let i = c.loop-place.invariant in
    let least = c.lesser-end in
    blanked_whole (span_of c.args.span) c.loop-place.place least.result c.args.bytes.now c.loop-place.bytes least.ensures.one least.ensures.other
    least.ensures.either i.to (omega (arith, c.loop-place-test.false)) i.blank
