use Rattle.and_program.specs.Loaded.{program_of}
use Rattle.and_clause_index.specs.Sieves.{print_in}
use Rattle.and_clause_index.specs.Tables.{head_print}
use Rattle.and_clause_index.proofs.Additions.{entry_for}
use Rattle.and_clause_index.proofs.Sifting.{printed, prints_are, sieve_moves}
use Rattle.and_clause_index.proofs.table.entry_of.Goals as goal

pub sieve_of-requires : goal.sieve_of-requires
sieve_of-requires c =
    printed (program_of c.args.loaded.now) c.args.prints.now c.requires.prints c.args.clauses.now c.requires.clauses

pub asked_of-asked-requires-clause-prints : goal.asked_of-asked-requires-clause-prints
asked_of-asked-requires-clause-prints c =
    printed (program_of c.args.loaded.now) c.args.prints.now c.requires.prints c.args.clauses.now c.requires.clauses

pub returns : goal.returns
returns c =
    let P = program_of c.args.loaded.now in
    let clauses = c.args.clauses.now in
    let prints = c.args.prints.now in
    let same = prints_are P prints c.requires.prints clauses c.requires.clauses in
    entry_for P clauses _ c.in_ok-clauses.ensures.items c.in_ok-by_first.ensures
    (sieve_moves (print_in prints) (head_print P) clauses same c.in_ok-sieve.sieve c.in_ok-sieve.ensures)
