use Rattle.std.proofs.Common.{◌+◌, ◌≡◌, [], ◌∷◌, ◌++◌, length, None, refl, sym, ap, ◌∙◌, arith}
use Rattle.and_model.specs.Lines.{Bytes}
use Rattle.and_syntax.specs.Written
use Rattle.and_syntax.specs.Written.{Written, Many}
use Rattle.and_automaton.specs.Machine
use Rattle.and_automaton.specs.Machine.{inside, operand, at1100}
use Rattle.and_reader.specs.declared.state.Bracket.{Bracket}
use Rattle.and_reader.specs.Standing.{bracket_of, alternatives_in, with_lefts, waiting}
use Rattle.and_reader.specs.Views.{name_of}
use Rattle.and_reader.proofs.TermLemmas.{arguments_are}
use Rattle.and_reader.proofs.StandLemmas.{popped, bracket_there}
use Rattle.and_reader.proofs.parser.Parser.take_close_bracket.Goals as goal

pub finish_disjunction-requires : goal.finish_disjunction-requires
finish_disjunction-requires c = let q = c.requires in bracket_there c.args.self.now c.pop.new.self.items c.in-Some.frame q.0 q.1 q.2 c.in-Some.ensures.items q.3

pub returns-in_ok-finish_disjunction-in-Plain-clause-answer : goal.returns-in_ok-finish_disjunction-in-Plain-clause-answer
returns-in_ok-finish_disjunction-in-Plain-clause-answer c l [] a s =
    absurd (popped c.args.self.now.frames.items c.pop.new.self.items c.in-Some.frame [] c.in-Some.ensures.items s.frames)
returns-in_ok-finish_disjunction-in-Plain-clause-answer c l (f ∷ fs) a s =
    let q = popped c.args.self.now.frames.items c.pop.new.self.items c.in-Some.frame (f ∷ fs) c.in-Some.ensures.items s.frames in
    let es = alternatives_in f.bracket in
    let e : f.bracket ≡ Machine.plain es = sym q.0.bracket ∙ ap (λ (b : Bracket). bracket_of b es) c.in-Plain.is in
    let rest = with_lefts f.outside (waiting l fs) in (
      inside l fs f.outside (operand (at1100 es f.before a) None),
      ap (λ (b : Machine.Bracket). Machine.take_close_bracket l (record { bracket = b; before = f.before; outside = f.outside } ∷ fs) a) e,
      refl,
      refl,
      c.leave.ensures.ok l fs f (at1100 es f.before a) s.part s.alternatives s.before q.1 q.0.outside s.opened s.nesting
          (c.in_ok-finish_disjunction-in-Plain.ensures.ok a f.before es rest s.finished (sym q.0.before) (sym q.0.alternatives)),
    )

pub returns-in_ok-finish-in-Arguments-clause-answer : goal.returns-in_ok-finish-in-Arguments-clause-answer
returns-in_ok-finish-in-Arguments-clause-answer c l [] a s =
    absurd (popped c.args.self.now.frames.items c.pop.new.self.items c.in-Some.frame [] c.in-Some.ensures.items s.frames)
returns-in_ok-finish-in-Arguments-clause-answer c l (f ∷ fs) a s =
    let q = popped c.args.self.now.frames.items c.pop.new.self.items c.in-Some.frame (f ∷ fs) c.in-Some.ensures.items s.frames in
    let n = name_of c.in-Arguments.name in
    let e : f.bracket ≡ Machine.arguments n = sym q.0.bracket ∙ ap (λ (b : Bracket). bracket_of b (alternatives_in f.bracket)) c.in-Arguments.is in
    let rest = with_lefts f.outside (waiting l fs) in
    let w : Written = Written.compound n (Machine.many f.before (Written.more a Written.none)) in
    let many : length (a ∷ f.before) ≡ c.in-Some.frame.before + 1 = let k = q.0.before in omega arith in (
      inside l fs f.outside (operand w None),
      ap (λ (b : Machine.Bracket). Machine.take_close_bracket l (record { bracket = b; before = f.before; outside = f.outside } ∷ fs) a) e,
      refl,
      refl,
      c.leave-in-Arguments.ensures.ok l fs f w s.part s.alternatives s.before q.1 q.0.outside s.opened s.nesting
          (c.in_ok-finish-in-Arguments.ensures.ok (a ∷ f.before) rest (s.finished
          ∙ ap (λ (b : Machine.Bracket). a ∷ (f.before ++ (alternatives_in b ++ rest))) e) many
          ∙ ap (λ (ts : Many). Written.compound c.bytes.result.now ts ∷ rest) (arguments_are f.before (a ∷ []))
          ∙ ap (λ (b : Bytes). Written.compound b (Machine.many f.before (Written.more a Written.none)) ∷ rest) c.bytes.ensures),
    )
