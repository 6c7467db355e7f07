use Rattle.std.proofs.Common.{ap, arith}
use Rattle.and_reader.specs.declared.state.Bracket.{Bracket}
use Rattle.and_reader.specs.Standing.{bracket_of}
use Rattle.and_reader.specs.Views.{name_of}
use Rattle.and_reader.proofs.state.check_comma.Goals as goal

pub returns-then-more-ge-MAX_ARGUMENTS-clause-err : goal.returns-then-more-ge-MAX_ARGUMENTS-clause-err
returns-then-more-ge-MAX_ARGUMENTS-clause-err c es = (name_of c.in-Arguments.field-0, ap (λ (b : Bracket). bracket_of b es) c.in-Arguments.is, omega arith)
