use Rattle.std.proofs.Common.{subst}
use Rattle.and_beginnings.specs.Beginnings.{IsValidTo}
use Rattle.and_reader.proofs.reading.beginning.is_text_to.Goals as goal

pub returns : goal.returns
returns c = λ yes. subst (λ xs. IsValidTo xs c.args.place) c.new-lexer.ensures.text (c.go_to.ensures.valid yes)
