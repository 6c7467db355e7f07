use Rattle.std.proofs.Common.{arith}
use Rattle.and_program.specs.Nodes.{names_of}
use Rattle.and_drafts.proofs.Naming.{place-le}
use Rattle.and_clauses.proofs.lifting.copy_part.Goals as goal

pub overflow_cast-number : goal.overflow_cast-number
overflow_cast-number c =
    omega (arith, c.number_of-number.ensures, place-le c.bytes.result.now (names_of c.args.lifting.names.now.keys), c.requires.few_names)
