use Rattle.std.proofs.Common.{None, ◌∷◌, refl, sym, ap, ◌∙◌}
use Rattle.and_syntax.specs.Written.{Written}
use Rattle.and_automaton.specs.Machine.{inside, operand, list}
use Rattle.and_reader.specs.Standing.{waiting, with_lefts}
use Rattle.and_reader.proofs.TermLemmas.{list_is}
use Rattle.and_reader.proofs.parser.Parser.close_list.Goals as goal

pub returns-clause-answer : goal.returns-clause-answer
returns-clause-answer c l fs f a part alternatives before frames many is opened nested t =
    let rest = with_lefts f.outside (waiting l fs) in (
      inside l fs f.outside (operand (list f.before a) None),
      refl,
      refl,
      refl,
      c.leave.ensures.ok l fs f (list f.before a) part alternatives before frames is opened nested
          (c.in_ok-finish_pairs.ensures.ok a f.before rest t (sym many) ∙ ap (λ (v : Written). v ∷ rest) (list_is f.before a)),
    )
