use Rattle.std.proofs.Common.{suc, ◌≡◌, true, [], ◌∷◌, ◌++◌, length, refl, sym, ap, ◌∙◌, arith}
use Rattle.and_automaton.specs.Machine
use Rattle.and_automaton.specs.Machine.{inside, wanted, nothing_pending}
use Rattle.and_reader.specs.Standing.{bracket_of, alternatives_in, with_lefts, waiting}
use Rattle.and_reader.specs.Answered.{takes_bar}
use Rattle.and_reader.proofs.AnswerLemmas.{bar_bracket}
use Rattle.and_reader.proofs.StandLemmas.{popped}
use Rattle.and_reader.proofs.parser.Parser.take_bar.Goals as goal

pub returns-clause-answer : goal.returns-clause-answer
returns-clause-answer c l [] a s = absurd (popped c.args.self.now.frames.items c.pop.new.self.items c.in-Some.frame [] c.in-Some.ensures.items s.frames)
returns-clause-answer c l (f ∷ fs) a s =
    let q = popped c.args.self.now.frames.items c.pop.new.self.items c.in-Some.frame (f ∷ fs) c.in-Some.ensures.items s.frames in
    let may : takes_bar (bracket_of c.in-Some.frame.bracket (alternatives_in f.bracket)) ≡ true = sym (c.takes_bar.ensures (alternatives_in f.bracket)) ∙ cc in
    let e : f.bracket ≡ Machine.elements = bar_bracket f.bracket (ap takes_bar (sym q.0.bracket) ∙ may) in
    let more : c.in-Some-checked_add.before ≡ suc (length f.before) = let n = q.0.before in omega (arith, c.in-Some-checked_add.ensures.1) in
    let g : Machine.Frame = record { bracket = Machine.tail; before = a ∷ f.before; outside = f.outside } in (
      inside l (g ∷ fs) nothing_pending wanted,
      ap (λ (b : Machine.Bracket). Machine.take_bar l (record { bracket = b; before = f.before; outside = f.outside } ∷ fs) a) e,
      refl,
      refl,
      c.in_ok-enter.ensures.ok l fs g s.part s.alternatives s.before q.1
          (record { bracket = refl; alternatives = refl; before = more; outside = q.0.outside; narrow = tt }) s.opened s.nesting
          (s.finished ∙ ap (λ (b : Machine.Bracket). a ∷ (f.before ++ (alternatives_in b ++ with_lefts f.outside (waiting l fs)))) e),
    )
