use Rattle.std.proofs.Common.{◌≡◌, Some, refl, ap, ◌∙◌, inl}
use Rattle.and_cells.proofs.Chains.{reads_nothing}
use Rattle.and_unify.proofs.TurnPicks.{last_fits}
use Rattle.and_unify.proofs.turning.pick_next.Goals as goal

pub returns-in-Some-clause-old_pair : goal.returns-in-Some-clause-old_pair
returns-in-Some-clause-old_pair g c = λ p is.
    let same : c.in-Some.pair ≡ p = cc in record {
      reads = reads_nothing (g.C.Cells.seen c.args.cells.now);
      out = inl (c.pop.ensures.some p (c.in-Some.is ∙ ap Some same), refl);
      taken = refl;
      links = refl;
      fuel = refl;
    }

pub returns-in_default-pop-clause-nothing : goal.returns-in_default-pop-clause-nothing
returns-in_default-pop-clause-nothing g c = λ is.
    let pairs = c.pop-2.ensures.none c.in_default-pop.is in record {
      reads = reads_nothing (g.C.Cells.seen c.args.cells.now);
      done = (pairs.0, (c.pop.ensures.none c.in_default.is).0, pairs.1);
      fuel = refl;
    }

pub deref-place-requires-clause-in_range : goal.deref-place-requires-clause-in_range
deref-place-requires-clause-in_range g c =
    let s = g.C.Cells.seen c.args.cells.now in
    let fit = last_fits g.C.Cells.program s c.args.pairs.now c.pop-2.new.self c.in-Some-pop.pair
    (c.pop-2.ensures.some c.in-Some-pop.pair c.in-Some-pop.is) c.requires.pairs in
    fit.left_in_range

pub deref-place-requires-clause-written : goal.deref-place-requires-clause-written
deref-place-requires-clause-written g c =
    let s = g.C.Cells.seen c.args.cells.now in
    let fit = last_fits g.C.Cells.program s c.args.pairs.now c.pop-2.new.self c.in-Some-pop.pair
    (c.pop-2.ensures.some c.in-Some-pop.pair c.in-Some-pop.is) c.requires.pairs in
    fit.left_written

pub returns-then-fuel-eq0-clause-old_pair : goal.returns-then-fuel-eq0-clause-old_pair
returns-then-fuel-eq0-clause-old_pair g c = λ p is. absurd ((c.put_back.ensures.only p).0 is)

pub returns-then-fuel-eq0-clause-new_pair : goal.returns-then-fuel-eq0-clause-new_pair
returns-then-fuel-eq0-clause-new_pair g c = λ p is. absurd ((c.put_back.ensures.only p).1 is)

pub returns-then-fuel-eq0-clause-nothing : goal.returns-then-fuel-eq0-clause-nothing
returns-then-fuel-eq0-clause-nothing g c = λ is. absurd ((c.put_back.ensures.only c.in-Some-pop.pair).2 is)
