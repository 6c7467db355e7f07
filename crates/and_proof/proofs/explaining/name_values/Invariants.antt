use Rattle.and_model.specs.Terms.{Substitution}
use Rattle.and_program.specs.Loaded.{program_of}
use Rattle.and_cells.specs.Parts.{named}
use Rattle.and_print.specs.Given.{GivesQuery}
use Rattle.and_proof.proofs.NamedAlong.{NamesLeft, values_from}
use Rattle.and_proof.proofs.explaining.name_values.Given as goal

abbrev pub invariant-loop-number : goal.invariant-loop-number
invariant-loop-number g l = (s : Substitution) → GivesQuery (named l.loaded) l.cells s
    → NamesLeft (values_from (program_of l.loaded).query.written s 0) (values_from (program_of l.loaded).query.written s l.number) l.initial.names l.names
