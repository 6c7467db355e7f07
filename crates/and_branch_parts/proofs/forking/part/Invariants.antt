use Rattle.std.proofs.Common.{◌≡◌, take, filter}
use Rattle.and_branch_parts.specs.Forking.{fits_in, first_other}
use Rattle.and_branch_parts.proofs.forking.part.Given as goal

abbrev pub invariant-loop-place : goal.invariant-loop-place
invariant-loop-place g l = record {
  fitting : l.parted.fitting ≡ filter (fits_in g.N.Naming.program l.limit l.cells) (take l.place l.clauses);
  heavy : l.parted.heavy ≡ first_other (fits_in g.N.Naming.program l.limit l.cells) (take l.place l.clauses);
}
