use Rattle.std.proofs.Common.{◌≡◌, ◌+◌, [], drop}
use Rattle.and_model.specs.Lines.{place_of}
use Rattle.and_judging.specs.Sorts.{own}
use Rattle.and_clauses.proofs.lifting.place_in.Given as goal

abbrev pub invariant-loop-other : goal.invariant-loop-other
invariant-loop-other l = record {
  place : l.place ≡ l.other-index;
  ahead : l.place + place_of ([], l.variable) (own (drop l.other-index l.variables)) ≡ place_of ([], l.variable) (own l.variables);
}
