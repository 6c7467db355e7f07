use Rattle.std.proofs.Common.{refl, inl, inr}
use Rattle.and_cells.proofs.Chains.{reads_more}
use Rattle.and_unify.specs.Turns.{stand, on_old, on_new}
use Rattle.and_unify.proofs.TurnPicks.{old_fits, new_fits, lighter_after_old, lighter_after_new}
use Rattle.and_unify.proofs.turning.take_turn.Goals as goal

pub step-requires-clause-in_range : goal.step-requires-clause-in_range
step-requires-clause-in_range g c =
    let fit = old_fits g.C.Cells.program c.in-Old.pair _ _ (c.pick_next.ensures.old_pair c.in-Old.pair c.in-Old.is) c.requires.pairs c.requires.rights in
    (fit.left_in_range, fit.right_in_range)

pub step-requires-clause-written : goal.step-requires-clause-written
step-requires-clause-written g c =
    let fit = old_fits g.C.Cells.program c.in-Old.pair _ _ (c.pick_next.ensures.old_pair c.in-Old.pair c.in-Old.is) c.requires.pairs c.requires.rights in
    (fit.left_written, fit.right_written)

pub step-requires-in-New-clause-in_range : goal.step-requires-in-New-clause-in_range
step-requires-in-New-clause-in_range g c =
    let fit = new_fits g.C.Cells.program c.in-New.pair _ _ (c.pick_next.ensures.new_pair c.in-New.pair c.in-New.is) c.requires.pairs in
    (fit.left_in_range, fit.right_in_range)

pub step-requires-in-New-clause-written : goal.step-requires-in-New-clause-written
step-requires-in-New-clause-written g c =
    let fit = new_fits g.C.Cells.program c.in-New.pair _ _ (c.pick_next.ensures.new_pair c.in-New.pair c.in-New.is) c.requires.pairs in
    (fit.left_written, fit.right_written)

pub returns-in-Old-clause-again : goal.returns-in-Old-clause-again
returns-in-Old-clause-again g c = λ is.
    let mid = stand (g.C.Cells.seen c.pick_next.new.cells) c.pick_next.new.pairs c.pick_next.new.work c.pick_next.new.fuel in
    on_old c.in-Old.pair mid (c.pick_next.ensures.old_pair c.in-Old.pair c.in-Old.is) (c.step.ensures.done (c.after.ensures.again is)) refl refl refl

pub returns-in-Old-clause-lighter : goal.returns-in-Old-clause-lighter
returns-in-Old-clause-lighter g c = λ is.
    lighter_after_old c.in-Old.pair _ _ c.step.new.classes c.step.new.list (c.pick_next.ensures.old_pair c.in-Old.pair c.in-Old.is)
    (c.step.ensures.lighter (c.after.ensures.again is))

pub returns-in-Old-clause-stopped : goal.returns-in-Old-clause-stopped
returns-in-Old-clause-stopped g c = λ is.
    let stopped = c.step.ensures.stopped (c.after.ensures.stopped is) in
    (reads_more _ _ _ c.pick_next.ensures.reads stopped.0, stopped.1)

pub returns-in-Old-clause-apart : goal.returns-in-Old-clause-apart
returns-in-Old-clause-apart g c = λ one other is.
    let mid = stand (g.C.Cells.seen c.pick_next.new.cells) c.pick_next.new.pairs c.pick_next.new.work c.pick_next.new.fuel in record {
      p = c.in-Old.pair;
      mid = mid;
      picks = inl (c.pick_next.ensures.old_pair c.in-Old.pair c.in-Old.is);
      meets = c.step.ensures.apart one other (c.after.ensures.apart one other is);
      fuel = refl;
    }

pub returns-in-New-clause-again : goal.returns-in-New-clause-again
returns-in-New-clause-again g c = λ is.
    let mid = stand (g.C.Cells.seen c.pick_next.new.cells) c.pick_next.new.pairs c.pick_next.new.work c.pick_next.new.fuel in
    on_new c.in-New.pair mid (c.pick_next.ensures.new_pair c.in-New.pair c.in-New.is)
    (c.step-in-New.ensures.done (c.after-in-New.ensures.again is)) refl refl refl

pub returns-in-New-clause-lighter : goal.returns-in-New-clause-lighter
returns-in-New-clause-lighter g c = λ is.
    lighter_after_new c.in-New.pair _ _ c.step-in-New.new.classes c.step-in-New.new.list (c.pick_next.ensures.new_pair c.in-New.pair c.in-New.is)
    (c.step-in-New.ensures.lighter (c.after-in-New.ensures.again is))

pub returns-in-New-clause-stopped : goal.returns-in-New-clause-stopped
returns-in-New-clause-stopped g c = λ is.
    let stopped = c.step-in-New.ensures.stopped (c.after-in-New.ensures.stopped is) in
    (reads_more _ _ _ c.pick_next.ensures.reads stopped.0, stopped.1)

pub returns-in-New-clause-apart : goal.returns-in-New-clause-apart
returns-in-New-clause-apart g c = λ one other is.
    let mid = stand (g.C.Cells.seen c.pick_next.new.cells) c.pick_next.new.pairs c.pick_next.new.work c.pick_next.new.fuel in record {
      p = c.in-New.pair;
      mid = mid;
      picks = inr (c.pick_next.ensures.new_pair c.in-New.pair c.in-New.is);
      meets = c.step-in-New.ensures.apart one other (c.after-in-New.ensures.apart one other is);
      fuel = refl;
    }
