use Rattle.std.proofs.Common.{◌≡◌, [], drop}
use Rattle.and_program.specs.Nodes.{names_of}
use Rattle.and_drafts.specs.Numbered.{bytes_of, including_all}
use Rattle.and_judging.proofs.numbering.name_set.Given as goal

abbrev pub invariant-loop-row : goal.invariant-loop-row
invariant-loop-row l = including_all (names_of l.names.keys) (bytes_of (drop l.row-index l.rows)) ≡ including_all [] (bytes_of l.rows)
