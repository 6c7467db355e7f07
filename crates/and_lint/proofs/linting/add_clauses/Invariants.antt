use Rattle.std.proofs.Common.{◌-◌, ◌+◌, false, get_or, length}
use Rattle.std.specs.List.{flat_map, range_with_len}
use Rattle.and_program.specs.Loaded.{program_of}
use Rattle.and_lint.specs.Findings.{lines_of}
use Rattle.and_lint.specs.Kept.{Comes}
use Rattle.and_lint.proofs.linting.add_clauses.Given as goal

abbrev pub invariant-loop-number : goal.invariant-loop-number
invariant-loop-number l =
    let P = program_of l.loaded in
    let f = lines_of P (λ c. get_or l.reached c false) in
    let n = length P.clauses in
    Comes l.initial.findings (flat_map f (range_with_len 1 n)) l.findings (flat_map f (range_with_len l.number (n + 1 - l.number)))
