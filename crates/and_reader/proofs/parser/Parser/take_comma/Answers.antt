use Rattle.std.proofs.Common.{ℕ, suc, ◌≡◌, [], ◌∷◌, length, refl, ◌∙◌, arith, subst}
use Rattle.std.proofs.lemmas.List.{length-reverse}
use Rattle.std.proofs.lemmas.Result.{err_from_is_err_and}
use Rattle.and_reader.specs.declared.refusal.Cause.{Cause}
use Rattle.and_automaton.specs.Machine
use Rattle.and_automaton.specs.Machine.{inside, wanted, nothing_pending}
use Rattle.and_reader.specs.Standing.{bracket_of, alternatives_in, IsNarrow}
use Rattle.and_reader.specs.Answered.{TakesComma, IsCommaFault}
use Rattle.and_reader.proofs.AnswerLemmas.{comma_step, comma_within, comma_refused}
use Rattle.and_reader.proofs.StandLemmas.{popped, count_frames, none_taken}
use Rattle.and_reader.proofs.parser.Parser.take_comma.Goals as goal

pub returns-in_default-clause-answer : goal.returns-in_default-clause-answer
returns-in_default-clause-answer c l [] a s =
    let none = none_taken c.pop.result _ c.in_default.not-Some c.pop.ensures.cases in
    let m : Machine.Outermost = record { part = l.part; alternatives = l.alternatives; before = a ∷ l.before } in
    let more : c.in-Some-checked_add.more ≡ suc (length l.before) = let n = s.before in omega (arith, c.in-Some-checked_add.ensures.1) in (
      inside m [] nothing_pending wanted,
      refl,
      refl,
      refl,
      c.begin.ensures.ok m (length-reverse c.pop.new.self.items ∙ omega (arith, none.1, c.pop.new.self.ok.0)) s.part s.alternatives more s.opened s.finished,
    )
returns-in_default-clause-answer c l (f ∷ fs) a s =
    let none = none_taken c.pop.result _ c.in_default.not-Some c.pop.ensures.cases in
    let n = count_frames c.args.self.now.frames.items (f ∷ fs) s.frames in
    absurd (omega (arith, none.0, c.args.self.now.frames.ok.0))

pub returns-clause-answer : goal.returns-clause-answer
returns-clause-answer c l [] a s = absurd (popped c.args.self.now.frames.items c.pop.new.self.items c.in-Some.frame [] c.in-Some.ensures.items s.frames)
returns-clause-answer c l (f ∷ fs) a s =
    let q = popped c.args.self.now.frames.items c.pop.new.self.items c.in-Some.frame (f ∷ fs) c.in-Some.ensures.items s.frames in
    let k = c.in_ok-check_comma.ensures.ok (alternatives_in f.bracket) in
    let more : c.in-Some-checked_add-2.before ≡ suc (length f.before) = let n = q.0.before in omega (arith, c.in-Some-checked_add-2.ensures.1) in
    let narrow : IsNarrow f.bracket (suc (length f.before)) =
    subst (λ (b : Machine.Bracket). IsNarrow b (suc (length f.before))) q.0.bracket
    (subst (λ (n : ℕ). IsNarrow (bracket_of c.in-Some.frame.bracket (alternatives_in f.bracket)) n) more k.1) in
    let g : Machine.Frame = record { bracket = f.bracket; before = a ∷ f.before; outside = f.outside } in (
      inside l (g ∷ fs) nothing_pending wanted,
      comma_step l fs f.bracket f.before f.outside a (subst TakesComma q.0.bracket k.0),
      comma_within fs f.bracket f.before f.outside narrow,
      refl,
      c.in_ok-enter.ensures.ok l fs g s.part s.alternatives s.before q.1
          (record { bracket = q.0.bracket; alternatives = q.0.alternatives; before = more; outside = q.0.outside; narrow = narrow }) s.opened
          s.nesting s.finished,
    )

pub returns-in_err-check_comma-clause-answer : goal.returns-in_err-check_comma-clause-answer
returns-in_err-check_comma-clause-answer c l [] a s =
    absurd (popped c.args.self.now.frames.items c.pop.new.self.items c.in-Some.frame [] c.in-Some.ensures.items s.frames)
returns-in_err-check_comma-clause-answer c l (f ∷ fs) a s =
    let q = popped c.args.self.now.frames.items c.pop.new.self.items c.in-Some.frame (f ∷ fs) c.in-Some.ensures.items s.frames in
    let x : Cause = c.in_err-check_comma.field-0.0 in
    let more : c.in-Some-checked_add-2.before ≡ suc (length f.before) = let n = q.0.before in omega (arith, c.in-Some-checked_add-2.ensures.1) in
    let fault = subst (λ (b : Machine.Bracket). IsCommaFault b c.in-Some-checked_add-2.before x) q.0.bracket
    (c.in_err-check_comma.ensures.err (alternatives_in f.bracket)) in
    let told = comma_refused l fs f.bracket f.before f.outside a c.in-Some-checked_add-2.before x more fault in
    let p = err_from_is_err_and c.from_residual.result c.from_residual.ensures.1 in
    rw (p.1, p.2) told
