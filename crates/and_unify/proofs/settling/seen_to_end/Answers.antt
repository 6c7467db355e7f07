use Rattle.std.proofs.Common.{false, subst, ap, get_or, arith}
use Rattle.std.specs.Prelude.{Bool, Ok}
use Rattle.std.proofs.lemmas.List.Elements.{All-more}
use Rattle.and_model.specs.declared.reference.Ref.TheVariants.{Cell}
use Rattle.and_cells.specs.Ends.{Ends}
use Rattle.and_unify.specs.Settling.{EndsFrom}
use Rattle.and_unify.proofs.settling.seen_to_end.Goals as goal

pub loop-place-preserved : goal.loop-place-preserved
loop-place-preserved g c =
    let P = g.N.Naming.program in
    let ends = c.in_ok-is_seen_to_end.ensures.ends (ap (λ (b : Bool). Ok b) c.if-not-branch.false) in
    record {
      met = λ given. c.in_ok-is_seen_to_end.ensures.met (c.loop-place.invariant.met given);
      seen = All-more (EndsFrom P c.args.cells.now c.args.floor) c.args.bound.now c.loop-place.place 0 (omega arith) c.loop-place.invariant.seen (
        λ low. subst (λ n. Ends P c.args.cells.now n false (Cell (get_or c.args.bound.now c.loop-place.place 0))) (c.floor_beside-from.ensures.below low) ends,
        λ high. subst (λ n. Ends P c.args.cells.now n false (Cell (get_or c.args.bound.now c.loop-place.place 0)))
            (c.floor_beside-from.ensures.above high) ends,
      );
    }
