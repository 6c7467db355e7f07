use Rattle.std.proofs.Common.{◌≡◌, take, None}
use Rattle.std.specs.Prelude.{filter}
use Rattle.and_branch_parts.specs.Forking.{fits_in, first_other}
use Rattle.and_branch.proofs.state.all_fit.Given as goal

abbrev pub invariant-loop-place : goal.invariant-loop-place
invariant-loop-place g l = record {
  fitting : take l.place l.clauses ≡ filter (fits_in g.N.Naming.program l.limit l.cells) (take l.place l.clauses);
  heavy : None ≡ first_other (fits_in g.N.Naming.program l.limit l.cells) (take l.place l.clauses);
}
