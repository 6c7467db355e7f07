use Rattle.std.proofs.Common.{length, false, inl, inr, ap, ◌∙◌, subst}
use Rattle.std.specs.Prelude.{Bool, Ok}
use Rattle.std.proofs.lemmas.List.Elements.{All-contains}
use Rattle.and_cells.specs.Ranges.{IsInRange}
use Rattle.and_cells.specs.Ends.{Ends}
use Rattle.and_unify.specs.declared.pairs.Pair.{Pair}
use Rattle.and_unify.proofs.SettlingPairs.{contains_place, halved_pairs, one_more}
use Rattle.and_unify.proofs.settling.sides_end.Goals as goal

pub returns-then-not-branch-clause-no_solution : goal.returns-then-not-branch-clause-no_solution
returns-then-not-branch-clause-no_solution g c = λ is.
    let at = contains_place c.args.pairs.now c.loop-place.place c.at-pair.result.now c.at-pair.ensures in
    halved_pairs g.N.Naming.program c.args.cells.now c.args.pairs.now c.at-pair.result.now at
    (λ t s. inl (c.in_ok-ends.ensures.names_half (ap (λ (b : Bool). Ok b) c.if-not-branch.true) t s))

pub ends-requires-in-loop-place-clause-in_range : goal.ends-requires-in-loop-place-clause-in_range
ends-requires-in-loop-place-clause-in_range g c =
    let at = contains_place c.args.pairs.now c.loop-place.place c.at-pair.result.now c.at-pair.ensures in
    let both = All-contains (λ (p : Pair). IsInRange g.N.Naming.program (length c.args.cells.now) p.left
    × IsInRange g.N.Naming.program (length c.args.cells.now) p.right)
    c.args.pairs.now c.at-pair.result.now c.requires.in_range at in
    both.1

pub returns-then-not-branch-2-clause-no_solution : goal.returns-then-not-branch-2-clause-no_solution
returns-then-not-branch-2-clause-no_solution g c = λ is.
    let at = contains_place c.args.pairs.now c.loop-place.place c.at-pair.result.now c.at-pair.ensures in
    halved_pairs g.N.Naming.program c.args.cells.now c.args.pairs.now c.at-pair.result.now at
    (λ t s. inr (c.in_ok-ends-2.ensures.names_half (ap (λ (b : Bool). Ok b) c.if-not-branch-2.true) t s))

pub loop-place-preserved : goal.loop-place-preserved
loop-place-preserved g c =
    let row = c.args.cells.now in
    let floor = c.args.explorer.now.floor in
    let P = g.N.Naming.program in
    let one = c.in_ok-ends.ensures in
    let other = c.in_ok-ends-2.ensures in
    let first = ap (λ (b : Bool). Ok b) c.if-not-branch.false in
    let second = ap (λ (b : Bool). Ok b) c.if-not-branch-2.false in
    let same_floor = one.settings.0 ∙ c.loop-place.invariant.floor in
    let left = subst (λ f. Ends P row f false c.at-pair.result.now.left) c.loop-place.invariant.floor (one.ends first) in
    let right = subst (λ f. Ends P row f false c.at-pair.result.now.right) same_floor (other.ends second) in record {
      finished = other.finished second;
      floor = other.settings.0 ∙ same_floor;
      no_halves = other.settings.1 ∙ one.settings.1 ∙ c.loop-place.invariant.no_halves;
      ends = one_more (λ (p : Pair). Ends P row floor false p.left × Ends P row floor false p.right) c.args.pairs.now c.loop-place.place
          c.at-pair.result.now c.at-pair.ensures
          c.loop-place.invariant.ends (left, right);
    }
