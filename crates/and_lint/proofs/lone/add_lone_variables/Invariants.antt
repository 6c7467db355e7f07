use Rattle.std.proofs.Common.{◌-◌}
use Rattle.std.specs.List.{flat_map, range_with_len}
use Rattle.and_model.specs.Programs.{clause_at}
use Rattle.and_program.specs.Loaded.{program_of}
use Rattle.and_lint.specs.Findings.{once_lines_of}
use Rattle.and_lint.specs.Kept.{Comes}
use Rattle.and_lint.proofs.lone.add_lone_variables.Given as goal

abbrev pub invariant-loop-variable : goal.invariant-loop-variable
invariant-loop-variable l =
    let k = clause_at (program_of l.loaded) l.no.0 in
    Comes l.initial.findings (flat_map (once_lines_of k l.variables) (range_with_len 0 k.variables))
    l.findings (flat_map (once_lines_of k l.variables) (range_with_len l.variable (k.variables - l.variable)))
