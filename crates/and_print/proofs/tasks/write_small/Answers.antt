use Rattle.std.proofs.lemmas.Result.{on_ok_weaker}
use Rattle.and_print.proofs.Digits.{digit_written, digits_written}
use Rattle.and_print.proofs.tasks.write_small.Goals as goal

pub returns-then-number-lt10 : goal.returns-then-number-lt10
returns-then-number-lt10 c =
    on_ok_weaker c.append.result (digit_written c.args.number c.args.out.now c.append.new.self c.if-number-lt10.true) c.append.ensures

pub returns-then-number-lt100 : goal.returns-then-number-lt100
returns-then-number-lt100 c =
    on_ok_weaker c.append-then-number-lt100.result
    (digits_written c.args.number c.args.out.now c.append-then-number-lt100.new.self c.if-number-lt10.false c.if-number-lt100.true)
    c.append-then-number-lt100.ensures
