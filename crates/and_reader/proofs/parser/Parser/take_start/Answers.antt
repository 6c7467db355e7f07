use Rattle.std.proofs.Common.{◌≡◌, Bool, cond, [], Option, Some, refl, sym, ◌∙◌, subst}
use Rattle.std.proofs.lemmas.List.{length-reverse}
use Rattle.and_automaton.specs.Machine
use Rattle.and_automaton.specs.Machine.{State, start, in_part, take_operand, operand_exceeds, nothing_pending}
use Rattle.and_reader.specs.declared.words.First.TheVariants as firsts
use Rattle.and_reader.specs.Answered.{Answered, first_of}
use Rattle.and_reader.specs.Views.{word_of}
use Rattle.and_reader.proofs.AnswerLemmas.{answers, query_step, other_first, other_no_directive}
use Rattle.and_reader.proofs.StandLemmas.{count_frames}
use Rattle.and_reader.proofs.parser.Parser.take_start.Goals as goal

pub returns-in-Query-clause-answer : goal.returns-in-Query-clause-answer
returns-in-Query-clause-answer c s =
    let e : firsts.Query ≡ first_of (word_of c.args.word) = sym c.in-Query.is ∙ c.start_of.ensures in (
      in_part Machine.query,
      query_step (word_of c.args.word) e,
      refl,
      c.begin.ensures.ok (record { part = Machine.query; alternatives = []; before = [] }) (length-reverse c.args.self.now.frames.items
          ∙ count_frames c.args.self.now.frames.items [] s.frames) refl refl refl s.opened s.finished,
    )

pub returns-in-Other-clause-answer : goal.returns-in-Other-clause-answer
returns-in-Other-clause-answer c s =
    let x = word_of c.args.word in
    let e : firsts.Other ≡ first_of x = sym c.in-Other.is ∙ c.start_of.ensures in
    let l : Machine.Outermost = record { part = Machine.head; alternatives = []; before = [] } in
    let r : Option State = take_operand l [] nothing_pending x in
    answers start x c.take_operand.result c.take_operand.new.self (other_no_directive x e)
    (subst (λ (b : Bool). Answered (cond b (Some (in_part Machine.query)) r) (operand_exceeds [] nothing_pending x) x c.take_operand.result
    c.take_operand.new.self) (sym (other_first x e))
    (c.take_operand.ensures.answer l [] nothing_pending s))
