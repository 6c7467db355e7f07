use Rattle.std.proofs.Common.{arith}
use Rattle.and_program.proofs.LoadedLemmas.{variable_fits, count_fits}
use Rattle.and_program.proofs.loaded.show.Goals as goal

pub overflow_cast-result : goal.overflow_cast-result
overflow_cast-result c = omega (arith, variable_fits c.requires.0 c.args.node.now c.in-Variable.number c.requires.1 c.in-Variable.is)

pub overflow_cast-result-in-Compound : goal.overflow_cast-result-in-Compound
overflow_cast-result-in-Compound c =
    omega (
      arith,
      count_fits c.requires.0 c.args.node.now c.in-Compound.name c.in-Compound.arguments c.requires.1 c.in-Compound.is,
      c.len.ensures,
      c.in-Compound.arguments.ok.0,
    )
