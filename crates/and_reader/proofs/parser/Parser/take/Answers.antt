use Rattle.std.proofs.Common.{◌≡◌, Some, None, ◌∙◌}
use Rattle.and_automaton.specs.Machine.{start, inside, opened_list, over, wanted, numeral, operand}
use Rattle.and_reader.specs.declared.state.Mode.TheVariants as modes
use Rattle.and_reader.specs.Views.{word_of}
use Rattle.and_reader.proofs.AnswerLemmas.{answers, inside_no_directive}
use Rattle.and_reader.proofs.parser.Parser.take.Goals as goal

pub returns-in-Operand-clause-answer : goal.returns-in-Operand-clause-answer
returns-in-Operand-clause-answer c start h = let e : modes.Operand ≡ modes.Start = c.in-Operand.ensures.value ∙ h.0 in absurd cc
returns-in-Operand-clause-answer c (inside l fs p wanted) h = let e : modes.Operand ≡ modes.Wanted = c.in-Operand.ensures.value ∙ h.0 in absurd cc
returns-in-Operand-clause-answer c (inside l fs p numeral) h = let e : modes.Operand ≡ modes.Numeral = c.in-Operand.ensures.value ∙ h.0 in absurd cc
returns-in-Operand-clause-answer c (inside l fs p (operand w None)) h =
    let s = h.1 in
    answers (inside l fs p (operand w None)) (word_of c.args.word) c.take_operator.result c.take_operator.new.self
    (inside_no_directive l fs p (operand w None) (word_of c.args.word))
    (c.take_operator.ensures.answer l fs p w
    (record {
      part = s.part;
      alternatives = s.alternatives;
      before = s.before;
      frames = s.frames;
      pending = s.pending;
      opened = s.opened;
      nesting = s.nesting;
      finished = s.finished;
    }))
returns-in-Operand-clause-answer c (inside l fs p (operand w (Some b))) h = let e : modes.Operand ≡ modes.Atom h.0 =
    c.in-Operand.ensures.value ∙ h.1 in absurd cc
returns-in-Operand-clause-answer c (opened_list l fs p) h = let e : modes.Operand ≡ modes.OpenedList = c.in-Operand.ensures.value ∙ h.0 in absurd cc
returns-in-Operand-clause-answer c (over q t) h = absurd h
