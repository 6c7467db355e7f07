use Rattle.std.proofs.Common.{rules, arith, ◌<◌, ◌-◌}
use Rattle.and_row_check.proofs.looking.is_variable_of.Goals as goal

pub returns : goal.returns
returns c = λ yes.
    let lower : c.args.cell - c.args.frame.base - 1 < c.from.result = search (rules, yes) in
    let count = c.from.ensures in let variables = c.variables.ensures in record {
      variable = c.args.cell - c.args.frame.base - 1;
      among = omega (arith, lower, count, variables);
      at = omega arith;
    }
