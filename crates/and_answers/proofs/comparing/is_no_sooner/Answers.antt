use Rattle.std.proofs.Common.{arith, drop}
use Rattle.std.proofs.lemmas.Bool.{ltb-true, ltb-false}
use Rattle.and_answers.proofs.CompareLemmas.{read_at, follows_here, apart_here}
use Rattle.and_answers.proofs.comparing.is_no_sooner.Goals as goal

pub returns-clause-later : goal.returns-clause-later
returns-clause-later c =
    let one = c.args.one.now in
    let other = c.args.other.now in
    let a = c.at.result.now.0 in
    let b = c.at-2.result.now.0 in
    λ is. follows_here (drop c.args.one_from one) (drop c.args.other_from other) _ _ a b (read_at one c.args.one_from a c.at.ensures)
    (read_at other c.args.other_from b c.at-2.ensures) (ltb-true a b is)

pub returns-clause-sooner : goal.returns-clause-sooner
returns-clause-sooner c =
    let one = c.args.one.now in
    let other = c.args.other.now in
    let a = c.at.result.now.0 in
    let b = c.at-2.result.now.0 in
    let first = read_at one c.args.one_from a c.at.ensures in
    let second = read_at other c.args.other_from b c.at-2.ensures in
    let apart = apart_here (drop c.args.one_from one) (drop c.args.other_from other) _ _ a b first second c.requires.parted in
    λ is.
    let no_less = ltb-false a b is in
    follows_here (drop c.args.other_from other) (drop c.args.one_from one) _ _ b a second first (omega (arith, no_less, apart))
