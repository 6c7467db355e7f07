use Rattle.std.proofs.Common.{◌≡◌, [], ◌∷◌, ◌++◌, length, Option, false, refl, sym, ap, ◌∙◌, arith, subst}
use Rattle.and_language.specs.Grammar.{cell, nil}
use Rattle.and_automaton.specs.Machine
use Rattle.and_language.specs.Words
use Rattle.and_automaton.specs.Machine.{State, inside, operand, list}
use Rattle.and_reader.specs.declared.state.Bracket.{Bracket}
use Rattle.and_reader.specs.Standing.{terms, bracket_of, alternatives_in, with_lefts, waiting}
use Rattle.and_reader.specs.Answered.{Answered}
use Rattle.and_reader.proofs.StandLemmas.{popped, few_before}
use Rattle.and_reader.proofs.parser.Parser.take_close_list.Goals as goal

pub finish-requires-in-Elements : goal.finish-requires-in-Elements
finish-requires-in-Elements c =
    let q = c.requires in
    let t = c.in_ok-finish-in-Elements.ensures.ok [] (q.2 ∷ waiting q.0 q.1) q.3.finished refl in
    omega (arith, ap length t)

pub close_list-requires-clause-many : goal.close_list-requires-clause-many
close_list-requires-clause-many c =
    let q = c.requires in
    let t = c.in_ok-finish-in-Elements.ensures.ok [] (q.2 ∷ waiting q.0 q.1) q.3.finished refl in
    let u = c.in_ok-finish-in-Elements-2.ensures.ok (nil ∷ q.2 ∷ []) (waiting q.0 q.1) t refl in
    few_before (terms c.finish-in-Elements.new.draft) (cell q.2 nil) q.0 c.in-Some.frame _ q.1
    (popped c.args.self.now.frames.items c.pop.new.self.items c.in-Some.frame q.1 c.in-Some.ensures.items q.3.frames) u

pub returns-in_ok-finish-in-Elements-2-clause-answer : goal.returns-in_ok-finish-in-Elements-2-clause-answer
returns-in_ok-finish-in-Elements-2-clause-answer c l [] a s =
    absurd (popped c.args.self.now.frames.items c.pop.new.self.items c.in-Some.frame [] c.in-Some.ensures.items s.frames)
returns-in_ok-finish-in-Elements-2-clause-answer c l (f ∷ fs) a s =
    let q = popped c.args.self.now.frames.items c.pop.new.self.items c.in-Some.frame (f ∷ fs) c.in-Some.ensures.items s.frames in
    let e : f.bracket ≡ Machine.elements = sym q.0.bracket ∙ ap (λ (b : Bracket). bracket_of b (alternatives_in f.bracket)) c.in-Elements.is in
    let t = c.in_ok-finish-in-Elements.ensures.ok [] (a ∷ waiting l (f ∷ fs)) s.finished refl in
    let u = c.in_ok-finish-in-Elements-2.ensures.ok (nil ∷ a ∷ []) (waiting l (f ∷ fs)) t refl in
    let rest = with_lefts f.outside (waiting l fs) in
    let left = u ∙ ap (λ (b : Machine.Bracket). cell a nil ∷ (f.before ++ (alternatives_in b ++ rest))) e in
    subst (λ (r : Option State). Answered r false Words.close_list c.close_list.result c.close_list.new.self)
    (sym (ap (λ (b : Machine.Bracket). Machine.take_close_list l (record { bracket = b; before = f.before; outside = f.outside } ∷ fs) a) e))
    (c.close_list.ensures.answer l fs f (cell a nil) s.part s.alternatives s.before q.1 q.0.before q.0.outside s.opened s.nesting left)

pub returns-in-Tail-clause-answer : goal.returns-in-Tail-clause-answer
returns-in-Tail-clause-answer c l [] a s = absurd (popped c.args.self.now.frames.items c.pop.new.self.items c.in-Some.frame [] c.in-Some.ensures.items s.frames)
returns-in-Tail-clause-answer c l (f ∷ fs) a s =
    let q = popped c.args.self.now.frames.items c.pop.new.self.items c.in-Some.frame (f ∷ fs) c.in-Some.ensures.items s.frames in
    let e : f.bracket ≡ Machine.tail = sym q.0.bracket ∙ ap (λ (b : Bracket). bracket_of b (alternatives_in f.bracket)) c.in-Tail.is in
    let rest = with_lefts f.outside (waiting l fs) in
    let left = s.finished ∙ ap (λ (b : Machine.Bracket). a ∷ (f.before ++ (alternatives_in b ++ rest))) e in
    subst (λ (r : Option State). Answered r false Words.close_list c.close_list-in-Tail.result c.close_list-in-Tail.new.self)
    (sym (ap (λ (b : Machine.Bracket). Machine.take_close_list l (record { bracket = b; before = f.before; outside = f.outside } ∷ fs) a) e))
    (c.close_list-in-Tail.ensures.answer l fs f a s.part s.alternatives s.before q.1 q.0.before q.0.outside s.opened s.nesting left)
