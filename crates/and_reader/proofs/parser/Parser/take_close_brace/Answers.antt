use Rattle.std.proofs.Common.{◌≡◌, [], ◌∷◌, length, None, refl, sym, ap, ◌∙◌, arith}
use Rattle.std.specs.Prelude.{codes}
use Rattle.and_syntax.specs.Written.{Written}
use Rattle.and_language.specs.Grammar.{unary}
use Rattle.and_automaton.specs.Machine
use Rattle.and_automaton.specs.Machine.{inside, operand, at1100}
use Rattle.and_reader.specs.declared.state.Bracket.{Bracket}
use Rattle.and_reader.specs.Standing.{bracket_of, alternatives_in, with_lefts, waiting}
use Rattle.and_reader.proofs.StandLemmas.{popped, bracket_there}
use Rattle.and_reader.proofs.parser.Parser.take_close_brace.Goals as goal

pub finish_disjunction-requires : goal.finish_disjunction-requires
finish_disjunction-requires c = let q = c.requires in bracket_there c.args.self.now c.pop.new.self.items c.in-Some.frame q.0 q.1 q.2 c.in-Some.ensures.items q.3

pub finish-requires : goal.finish-requires
finish-requires c =
    let q = c.requires in
    let (w, b, es, rest, is, lb, le) = bracket_there c.args.self.now c.pop.new.self.items c.in-Some.frame q.0 q.1 q.2 c.in-Some.ensures.items q.3 in
    omega (arith, ap length (c.in_ok-finish_disjunction-in-Braces.ensures.ok w b es rest is lb le))

pub returns-in_ok-finish-in-Braces-clause-answer : goal.returns-in_ok-finish-in-Braces-clause-answer
returns-in_ok-finish-in-Braces-clause-answer c l [] a s =
    absurd (popped c.args.self.now.frames.items c.pop.new.self.items c.in-Some.frame [] c.in-Some.ensures.items s.frames)
returns-in_ok-finish-in-Braces-clause-answer c l (f ∷ fs) a s =
    let q = popped c.args.self.now.frames.items c.pop.new.self.items c.in-Some.frame (f ∷ fs) c.in-Some.ensures.items s.frames in
    let es = alternatives_in f.bracket in
    let e : f.bracket ≡ Machine.braces es = sym q.0.bracket ∙ ap (λ (b : Bracket). bracket_of b es) c.in-Braces.is in
    let rest = with_lefts f.outside (waiting l fs) in
    let v : Written = at1100 es f.before a in
    let w : Written = unary (codes "{}") v in (
      inside l fs f.outside (operand w None),
      ap (λ (b : Machine.Bracket). Machine.take_close_brace l (record { bracket = b; before = f.before; outside = f.outside } ∷ fs) a) e,
      refl,
      refl,
      c.leave.ensures.ok l fs f w s.part s.alternatives s.before q.1 q.0.outside s.opened s.nesting
          (c.in_ok-finish-in-Braces.ensures.ok (v ∷ []) rest
          (c.in_ok-finish_disjunction-in-Braces.ensures.ok a f.before es rest s.finished (sym q.0.before) (sym q.0.alternatives)) refl),
    )
