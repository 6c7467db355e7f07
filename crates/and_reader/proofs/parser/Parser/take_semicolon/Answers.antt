use Rattle.std.proofs.Common.{◌≡◌, suc, true, List, [], ◌∷◌, ◌++◌, length, refl, sym, ap, ◌∙◌, arith}
use Rattle.and_syntax.specs.Written.{Written}
use Rattle.and_automaton.specs.Machine
use Rattle.and_automaton.specs.Machine.{inside, wanted, nothing_pending, conjunction}
use Rattle.and_reader.specs.Standing.{bracket_of, alternatives_in, with_lefts, waiting}
use Rattle.and_reader.specs.Answered.{takes_semicolon}
use Rattle.and_reader.proofs.TermLemmas.{conjunction_is}
use Rattle.and_reader.proofs.AnswerLemmas.{with_alternative, semicolon_step, alternatives_with, bracket_with, narrow_with}
use Rattle.and_reader.proofs.StandLemmas.{popped, few_before, count_frames, none_taken, none_open, at_outermost}
use Rattle.and_reader.proofs.parser.Parser.take_semicolon.Goals as goal

pub take_outer_semicolon-requires : goal.take_outer_semicolon-requires
take_outer_semicolon-requires c =
    let q = c.requires in
    let none = none_taken c.pop.result _ c.in_default.not-Some c.pop.ensures.cases in
    let n = count_frames c.args.self.now.frames.items q.1 q.3.frames in
    let s = at_outermost c.args.self.now q.0 q.1 q.2 q.3 (omega (arith, n, none.0, c.args.self.now.frames.ok.0)) in (
      q.0,
      q.2,
      record {
        part = s.part;
        alternatives = s.alternatives;
        before = s.before;
        frames = none_open c.pop.new.self.items (omega (arith, none.1, c.pop.new.self.ok.0));
        opened = s.opened;
        nesting = s.nesting;
        finished = s.finished;
      },
    )

pub finish_pairs-requires : goal.finish_pairs-requires
finish_pairs-requires c =
    let q = c.requires in
    few_before _ q.2 q.0 c.in-Some.frame _ q.1
    (popped c.args.self.now.frames.items c.pop.new.self.items c.in-Some.frame q.1 c.in-Some.ensures.items q.3.frames) q.3.finished

pub returns-in_default-clause-answer : goal.returns-in_default-clause-answer
returns-in_default-clause-answer c l [] a s =
    let none = none_taken c.pop.result _ c.in_default.not-Some c.pop.ensures.cases in
    c.take_outer_semicolon.ensures.answer l a
    (record {
      part = s.part;
      alternatives = s.alternatives;
      before = s.before;
      frames = none_open c.pop.new.self.items (omega (arith, none.1, c.pop.new.self.ok.0));
      opened = s.opened;
      nesting = s.nesting;
      finished = s.finished;
    })
returns-in_default-clause-answer c l (f ∷ fs) a s =
    let none = none_taken c.pop.result _ c.in_default.not-Some c.pop.ensures.cases in
    let n = count_frames c.args.self.now.frames.items (f ∷ fs) s.frames in
    absurd (omega (arith, none.0, c.args.self.now.frames.ok.0))

pub returns-clause-answer : goal.returns-clause-answer
returns-clause-answer c l [] a s = absurd (popped c.args.self.now.frames.items c.pop.new.self.items c.in-Some.frame [] c.in-Some.ensures.items s.frames)
returns-clause-answer c l (f ∷ fs) a s =
    let q = popped c.args.self.now.frames.items c.pop.new.self.items c.in-Some.frame (f ∷ fs) c.in-Some.ensures.items s.frames in
    let es = alternatives_in f.bracket in
    let may : takes_semicolon (bracket_of c.in-Some.frame.bracket es) ≡ true = sym (c.takes_semicolon.ensures es) ∙ cc in
    let t : takes_semicolon f.bracket ≡ true = ap takes_semicolon (sym q.0.bracket) ∙ may in
    let v : Written = conjunction f.before a in
    let rest = with_lefts f.outside (waiting l fs) in
    let more : c.in-Some-checked_add.alternatives ≡ suc (length es) = let n = q.0.alternatives in omega (arith, c.in-Some-checked_add.ensures.1) in
    let g : Machine.Frame = record { bracket = with_alternative f.bracket v; before = []; outside = f.outside } in
    let now = alternatives_with f.bracket v t in (
      inside l (g ∷ fs) nothing_pending wanted,
      semicolon_step l fs f.bracket f.before f.outside a t,
      refl,
      refl,
      c.in_ok-enter.ensures.ok l fs g s.part s.alternatives s.before q.1
          (record {
            bracket = bracket_with c.in-Some.frame.bracket f.bracket v q.0.bracket t;
            alternatives = more ∙ sym (ap length now);
            before = refl;
            outside = q.0.outside;
            narrow = narrow_with f.bracket v t;
          }) s.opened s.nesting
          (c.in_ok-finish_pairs.ensures.ok a f.before (es ++ rest) s.finished (sym q.0.before)
          ∙ ap (λ (u : Written). u ∷ (es ++ rest)) (conjunction_is f.before a) ∙ ap (λ (us : List Written). us ++ rest) (sym now)),
    )
