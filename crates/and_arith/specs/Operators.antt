-- The names of the operations on two numbers.
use Rattle.std.specs.Prelude.{ℕ}
use Rattle.and_model.specs.declared.builtins.TheConstants.{PLUS, MINUS, TIMES, DIVIDE, MODULO, REMAINDER, LEAST}
use Rattle.and_model.specs.declared.builtins.TheConstants.{GREATEST}
use Rattle.and_arith.specs.declared.operations.Operator.{Operator}
use Rattle.and_arith.specs.declared.operations.Operator.TheVariants.{Add, Subtract, Times, Divide, Modulo, Remainder}
use Rattle.and_arith.specs.declared.operations.Operator.TheVariants.{Least, Greatest}

-- the name of an operation
abbrev pub name_of : Operator → ℕ
name_of Add = PLUS
name_of Subtract = MINUS
name_of Times = TIMES
name_of Divide = DIVIDE
name_of Modulo = MODULO
name_of Remainder = REMAINDER
name_of Least = LEAST
name_of Greatest = GREATEST
