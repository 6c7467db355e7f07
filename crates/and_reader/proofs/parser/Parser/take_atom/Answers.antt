use Rattle.std.proofs.Common.{◌≡◌, Some, false, refl}
use Rattle.and_syntax.specs.Written.{compound, none}
use Rattle.and_language.specs.Words.{is_reserved}
use Rattle.and_automaton.specs.Machine.{inside, operand}
use Rattle.and_reader.specs.declared.words.Name.TheVariants as names
use Rattle.and_reader.proofs.parser.Parser.take_atom.Goals as goal

pub returns-clause-answer : goal.returns-clause-answer
returns-clause-answer c l fs p s =
    let b = c.args.name.now in
    let free : is_reserved b ≡ false = cc in (
      inside l fs p (operand (compound b none) (Some b)),
      rw free refl,
      refl,
      refl,
      (
        names.Written c.args.name,
        refl,
        refl,
        refl,
        record {
          part = s.part;
          alternatives = s.alternatives;
          before = s.before;
          frames = s.frames;
          pending = s.pending;
          opened = s.opened;
          nesting = s.nesting;
          finished = s.finished;
        },
      ),
    )
