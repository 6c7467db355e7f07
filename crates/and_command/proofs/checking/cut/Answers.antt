use Rattle.std.proofs.Common.{rules, arith}
use Rattle.std.proofs.lemmas.Str.Pattern.{split_parts}
use Rattle.and_command.proofs.WordLemmas.{cut_by}
use Rattle.and_command.proofs.checking.cut.Goals as goal

pub returns : goal.returns
returns c = cut_by c.args.word.now c.split_once.result (split_parts 61 c.args.word.now c.split_once.result (search rules) (omega arith))
