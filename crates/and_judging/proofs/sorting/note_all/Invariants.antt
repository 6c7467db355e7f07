use Rattle.std.proofs.Common.{◌≡◌, drop}
use Rattle.and_model.specs.Lines.{first_seen}
use Rattle.and_judging.specs.Sorts.{own}
use Rattle.and_judging.proofs.sorting.note_all.Given as goal

abbrev pub invariant-loop-variable : goal.invariant-loop-variable
invariant-loop-variable l =
    first_seen (own l.variables.items) (own (drop l.variable-index l.others)) ≡ first_seen (own l.initial.variables.items) (own l.others)
