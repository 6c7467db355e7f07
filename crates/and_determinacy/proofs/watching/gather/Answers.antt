use Rattle.std.proofs.Common.{ℕ, ◌≡◌, ◌++◌, ◌+◌, List, [], length, append-nil, append_assoc, sym, ap, ◌∙◌, arith}
use Rattle.std.specs.Prelude.{All}
use Rattle.std.proofs.lemmas.Grind.{common_steps}
use Rattle.std.proofs.lemmas.List.{length-append, nil_from_length}
use Rattle.and_determinacy.specs.Watching.{IsWatched}
use Rattle.and_determinacy.proofs.Watched.{suffice_with, suffice_taken, suffice_nothing}
use Rattle.and_determinacy.proofs.watching.gather.Goals as goal

pub loop-left-init : goal.loop-left-init
loop-left-init g c = record {
  low = c.requires.begun;
  gained = ([], sym (append-nil c.args.out.now.items));
  rest = record { in_range = c.requires.in_range; owes = λ cells sub all. all };
}

pub loop-left-preserved : goal.loop-left-preserved
loop-left-preserved g c =
    let P = g.N.Naming.program in
    let row = c.args.cells.now in
    let floor = c.args.floor in
    let begun = c.args.begun in
    let first = c.args.out.now.items in
    let had = c.loop-left.out.items in
    let has = c.follow.new.out.items in
    let inv = c.loop-left.invariant in
    let step = c.in_ok-follow-in-Some.ensures in
    let goal = λ (cells : List ℕ). All (IsWatched P row floor cells) c.args.visits.now.items in
    let taken = suffice_taken P row floor begun goal c.in-Some.at c.loop-left.visits.items c.pop.new.self.items had inv.rest c.in-Some.ensures.items in
    let long : length has ≡ length had + length step.gained = ap length step.listed ∙ length-append had step.gained in
    record {
      low = omega (arith, inv.low);
      gained = (
        inv.gained.0 ++ step.gained,
        step.listed ∙ ap (λ (l : List ℕ). l ++ step.gained) inv.gained.1 ∙ append_assoc first inv.gained.0 step.gained,
      );
      rest = suffice_with P row floor begun goal c.in-Some.at c.pop.new.self.items c.follow.new.visits.items had has inv.low taken.1 step;
    }

pub follow-requires-clause-in_range : goal.follow-requires-clause-in_range
follow-requires-clause-in_range g c =
    let P = g.N.Naming.program in
    let row = c.args.cells.now in
    let goal = λ (cells : List ℕ). All (IsWatched P row c.args.floor cells) c.args.visits.now.items in
    (suffice_taken P row c.args.floor c.args.begun goal c.in-Some.at c.loop-left.visits.items c.pop.new.self.items c.loop-left.out.items
    c.loop-left.invariant.rest c.in-Some.ensures.items).0

pub returns-in-None-clause-all : goal.returns-in-None-clause-all
returns-in-None-clause-all g c = λ e.
    let P = g.N.Naming.program in
    let row = c.args.cells.now in
    let none = c.in-None.ensures.cases.0 in
    let empty = nil_from_length c.loop-left.visits.items (grind (arith, common_steps, none)) in
    suffice_nothing P row c.args.floor c.args.begun (λ (cells : List ℕ). All (IsWatched P row c.args.floor cells) c.args.visits.now.items)
    c.loop-left.visits.items c.loop-left.out.items c.loop-left.invariant.rest empty
