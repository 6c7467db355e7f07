use Rattle.std.proofs.Common.{None, refl, ap}
use Rattle.std.specs.Prelude.{codes}
use Rattle.and_automaton.specs.Machine
use Rattle.and_automaton.specs.Machine.{at700, operator_exceeds}
use Rattle.and_reader.specs.declared.words.Word.{Word}
use Rattle.and_reader.specs.Views.{word_of}
use Rattle.and_reader.proofs.parser.Parser.take_operator.Goals as goal

pub take_close_bracket-requires : goal.take_close_bracket-requires
take_close_bracket-requires c = let q = c.requires in (q.0, q.1, at700 q.2 q.3, c.in_ok-finish_pending-in-CloseBracket.ensures.ok q.0 q.1 q.2 q.3 q.4)

pub take_close_list-requires : goal.take_close_list-requires
take_close_list-requires c = let q = c.requires in (q.0, q.1, at700 q.2 q.3, c.in_ok-finish_pending-in-CloseList.ensures.ok q.0 q.1 q.2 q.3 q.4)

pub take_close_brace-requires : goal.take_close_brace-requires
take_close_brace-requires c = let q = c.requires in (q.0, q.1, at700 q.2 q.3, c.in_ok-finish_pending-in-CloseBrace.ensures.ok q.0 q.1 q.2 q.3 q.4)

pub take_semicolon-requires : goal.take_semicolon-requires
take_semicolon-requires c = let q = c.requires in (q.0, q.1, at700 q.2 q.3, c.in_ok-finish_pending-in-Semicolon.ensures.ok q.0 q.1 q.2 q.3 q.4)

pub take_end-requires : goal.take_end-requires
take_end-requires c = let q = c.requires in (q.0, q.1, at700 q.2 q.3, c.in_ok-finish_pending-in-End.ensures.ok q.0 q.1 q.2 q.3 q.4)

pub returns-in_ok-take_sum-in-Minus-clause-answer : goal.returns-in_ok-take_sum-in-Minus-clause-answer
returns-in_ok-take_sum-in-Minus-clause-answer c l fs p w s = (
  Machine.take_sum l fs p w (codes "-"),
  ap (λ (x : Word). Machine.take_operator l fs p w None (word_of x)) c.in-Minus.is,
  ap (λ (x : Word). operator_exceeds fs p (word_of x)) c.in-Minus.is,
  refl,
  c.in_ok-take_sum-in-Minus.ensures.ok l fs p w s,
)
