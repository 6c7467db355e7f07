use Rattle.std.proofs.Common.{◌≡◌, Bool, true, false, cond, [], ◌∷◌, List, Some, None, refl, sym, ◌∙◌, subst}
use Rattle.and_language.specs.Grammar.{nil}
use Rattle.and_automaton.specs.Machine
use Rattle.and_automaton.specs.Machine.{State, inside, opened_list, operand, take_operand, operand_exceeds, nothing_pending, closes_list}
use Rattle.and_reader.specs.Answered.{Answered}
use Rattle.and_reader.specs.Views.{word_of}
use Rattle.and_reader.proofs.AnswerLemmas.{answers, closing_step, opened_no_directive}
use Rattle.and_reader.proofs.parser.Parser.take_first.Goals as goal

pub returns-then-closes_list-clause-answer : goal.returns-then-closes_list-clause-answer
returns-then-closes_list-clause-answer c l fs p few s =
    let e : closes_list (word_of c.args.word) ≡ true = sym c.closes_list.ensures ∙ c.if-closes_list.true in
    (inside l fs p (operand nil None), closing_step l fs p (word_of c.args.word) e, refl, c.in_ok-put_atom.ensures.ok l fs p s)

pub returns-clause-answer : goal.returns-clause-answer
returns-clause-answer c l fs p few s =
    let x = word_of c.args.word in
    let e : closes_list x ≡ false = sym c.closes_list.ensures ∙ c.if-closes_list.false in
    let gs : List Machine.Frame = record { bracket = Machine.elements; before = []; outside = p } ∷ fs in
    answers (opened_list l fs p) x c.take_operand.result c.take_operand.new.self (opened_no_directive l fs p x)
    (subst (λ (b : Bool). Answered (cond b (Some (inside l fs p (operand nil None))) (take_operand l gs nothing_pending x))
    (operand_exceeds gs nothing_pending x) x c.take_operand.result c.take_operand.new.self) (sym e)
    (c.take_operand.ensures.answer l gs nothing_pending (c.in_ok-open.ensures.ok l fs p s).1))
