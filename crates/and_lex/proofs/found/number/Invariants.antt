use Rattle.std.proofs.Common.{◌≡◌, ◌≤◌, drop}
use Rattle.and_language.specs.Tokens.{number_behind}
use Rattle.and_lex.proofs.found.number.Given as goal

abbrev pub invariant-loop-digit : goal.invariant-loop-digit
invariant-loop-digit l = (number_behind l.value (drop l.digit-index l.digits) ≡ number_behind 0 l.digits) × (l.value ≤ 9223372036854776055)
