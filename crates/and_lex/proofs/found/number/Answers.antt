use Rattle.std.proofs.Common.{◌<◌, arith}
use Rattle.std.proofs.lemmas.Bool.Decides.{nat_tests}
use Rattle.and_language.specs.Tokens.{number_of}
use Rattle.and_lex.proofs.Numbers.{number_large}
use Rattle.and_lex.proofs.found.number.Goals as goal

pub returns-then-value : goal.returns-then-value
returns-then-value c =
    let h : 9223372036854775808 < number_of c.args.digits.now =
    number_large c.loop-digit.value c.loop-digit.digit-index c.args.digits.now c.loop-digit-test.true c.loop-digit.invariant.0 c.if-value.true in
    grind (arith, nat_tests)
