use Rattle.std.proofs.Common.{Ok, List, All, ap, subst, arith}
use Rattle.and_model.specs.declared.goal.Frame.{Frame}
use Rattle.and_cells.specs.Parts.{named}
use Rattle.and_model.specs.declared.reference.Ref.{Ref}
use Rattle.and_program.specs.Loaded.{program_of, skeleton_of}
use Rattle.and_row_check.specs.Places.{IsInPlace, IsWholeFrame}
use Rattle.and_row_check.proofs.Bounds.{no_spans}
use Rattle.and_row_check.proofs.Wholeness.{none_looked, one_looked, all_looked}
use Rattle.and_row_check.proofs.looking.is_whole.Goals as goal

pub loop-place-init : goal.loop-place-init
loop-place-init c = record {
  spans = no_spans (skeleton_of c.args.loaded.now).nodes c.new-spans.result.spans.items c.new-spans.ensures;
  looked = none_looked (named c.args.loaded.now) c.args.frames.now c.args.cells.now;
}

pub loop-place-preserved : goal.loop-place-preserved
loop-place-preserved c =
    let yes = ap (λ b. Ok b) c.if-not-branch.false in
    record {
      spans = c.in_ok-is_in_place.ensures.spans;
      looked = one_looked (named c.args.loaded.now) c.args.frames.now c.args.cells.now c.loop-place.place c.loop-place.invariant.looked
          (c.in_ok-may_stand.ensures.stands yes) (c.in_ok-may_stand.ensures.written yes)
          (subst (λ (r : Ref). IsInPlace (named c.args.loaded.now) c.args.frames.now c.loop-place.place r) c.word.ensures
          (c.in_ok-is_in_place.ensures.in_place (ap (λ b. Ok b) c.if-not-branch-2.false)));
    }

pub returns : goal.returns
returns c = λ _.
    let over = c.loop-place-test.false in
    let long = c.len-place-end.ensures in
    all_looked (named c.args.loaded.now) c.args.frames.now c.args.cells.now c.loop-place.place c.loop-place.invariant.looked (omega (arith, over, long))
    (subst (λ (fs : List Frame). All (IsWholeFrame (program_of c.args.loaded.now) c.args.cells.now) fs) c.as_slice.ensures
    (c.are_whole_frames.ensures c.if-not-are_whole_frames.false)) c.requires.short
