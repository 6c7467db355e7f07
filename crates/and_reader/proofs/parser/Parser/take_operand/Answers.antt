use Rattle.std.proofs.Common.{Some, None, refl, ap}
use Rattle.and_syntax.specs.Written.{variable, compound, none}
use Rattle.and_automaton.specs.Machine
use Rattle.and_automaton.specs.Machine.{inside, operand, operand_exceeds}
use Rattle.and_reader.specs.declared.words.Word.{Word}
use Rattle.and_reader.specs.declared.words.Name.TheVariants as names
use Rattle.and_reader.specs.Views.{word_of}
use Rattle.and_reader.proofs.parser.Parser.take_operand.Goals as goal

pub returns-in_ok-put_variable-in-Variable-clause-answer : goal.returns-in_ok-put_variable-in-Variable-clause-answer
returns-in_ok-put_variable-in-Variable-clause-answer c l fs p s = (
  inside l fs p (operand (variable c.in-Variable.name.now) None),
  ap (λ (x : Word). Machine.take_operand l fs p (word_of x)) c.in-Variable.is,
  ap (λ (x : Word). operand_exceeds fs p (word_of x)) c.in-Variable.is,
  refl,
  c.in_ok-put_variable-in-Variable.ensures.ok l fs p s,
)

pub returns-in-Quoted-clause-answer : goal.returns-in-Quoted-clause-answer
returns-in-Quoted-clause-answer c l fs p s = (
  inside l fs p (operand (compound c.in-Quoted.text none) (Some c.in-Quoted.text)),
  ap (λ (x : Word). Machine.take_operand l fs p (word_of x)) c.in-Quoted.is,
  ap (λ (x : Word). operand_exceeds fs p (word_of x)) c.in-Quoted.is,
  refl,
  (
    names.Quoted c.in-Quoted.text,
    refl,
    refl,
    refl,
    record {
      part = s.part;
      alternatives = s.alternatives;
      before = s.before;
      frames = s.frames;
      pending = s.pending;
      opened = s.opened;
      nesting = s.nesting;
      finished = s.finished;
    },
  ),
)
