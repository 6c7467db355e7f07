use Rattle.std.proofs.Common.{◌≡◌, ◌++◌, length, map, take, drop}
use Rattle.and_program.specs.Nodes.{names_of}
use Rattle.and_judging.specs.Unknown.{call_at}
use Rattle.and_judging.specs.Marks.{marks_in, calls_in_marks}
use Rattle.and_judging.specs.Sorts.{shapes_under}
use Rattle.and_judging.proofs.unknown.append_calls.Given as goal

abbrev pub invariant-loop-token : goal.invariant-loop-token
invariant-loop-token l = record {
  owed : let ss = shapes_under (names_of l.names.keys) l.parts in
      l.calls.items ++ map (call_at l.line) (calls_in_marks (marks_in ss (drop l.token-index l.tokens)))
      ≡ l.initial.calls.items ++ map (call_at l.line) (calls_in_marks (marks_in ss l.tokens));
  kept : take (length l.initial.calls.items) l.calls.items ≡ l.initial.calls.items;
}
