use Rattle.std.proofs.Common.{rules, sym, arith}
use Rattle.and_command.proofs.NumberLemmas.{parses, unread}
use Rattle.and_command.proofs.options.number_in.Goals as goal

pub returns-in_default-3 : goal.returns-in_default-3
returns-in_default-3 c =
    let digits = parses c.args.word.now c.parse.result c.parse.ensures.value.0 (search rules) in
    sym (unread c.args.longest c.args.least c.args.most c.args.word.now (search (rules, arith)) (rw c.in_default.is at digits))
