-- Programs whose clauses name their own variables alone, and what holds of every program that is loaded.
use Rattle.std.specs.Prelude.{ℕ, ◌+◌, ◌≤◌, length}
use Rattle.and_model.specs.Programs.{clause_at}
use Rattle.and_model.specs.OwnVariables.{HasOwnVariables}
use Rattle.and_model.specs.declared.limits.TheConstants.{MAX_NODES}
use Rattle.and_program.specs.Skeletons.{IsSkeleton}
use Rattle.and_cells.specs.Ranges.{NamedProgram}

-- Each variable of a term of the query and of each clause is one of the clause's own.
abbrev pub OwnVariables : NamedProgram → Type 0
OwnVariables P = (c : ℕ) → HasOwnVariables (clause_at P.program c)

-- What holds of every program that is loaded: the nodes are those of its clauses, these name their own variables
-- alone, the query's variables have their written names, and words can name the nodes.
pub record IsLoaded (P : NamedProgram) : Type 0 where
  pub skeleton : IsSkeleton P.skeleton P.program
  pub own : OwnVariables P
  pub written : length P.program.query.written ≤ P.program.query.variables
  pub few : length P.skeleton.nodes ≤ MAX_NODES + 1
