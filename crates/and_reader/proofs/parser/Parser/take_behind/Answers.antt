use Rattle.std.proofs.Common.{ℕ, ◌+◌, ◌≡◌, Bool, true, false, cond, leb, [], ◌∷◌, Option, Some, None, refl, sym, ap, ◌∙◌, subst}
use Rattle.std.specs.Prelude.{◌&&◌}
use Rattle.and_model.specs.Lines.{Bytes}
use Rattle.and_syntax.specs.Written.{compound, none}
use Rattle.and_automaton.specs.Machine
use Rattle.and_automaton.specs.Machine.{State, inside, operand, wanted, take_operator, operator_exceeds, nothing_pending, depth, step}
use Rattle.and_reader.specs.Answered.{Answered, is_functor_bracket}
use Rattle.and_reader.specs.Standing.{Stands}
use Rattle.and_reader.specs.Views.{word_of, name_of}
use Rattle.and_reader.proofs.AnswerLemmas.{answers, functor_step, functor_exceeds, functor_limit, other_step, inside_no_directive}
use Rattle.and_reader.proofs.parser.Parser.take_behind.Goals as goal
use Rattle.and_model.specs.declared.limits.TheConstants.{MAX_NESTING}

pub returns-then-is_deep-clause-answer : goal.returns-then-is_deep-clause-answer
returns-then-is_deep-clause-answer c l fs p s =
    let x = word_of c.args.word in
    let b = name_of c.args.name in
    let e : is_functor_bracket x ≡ true = sym c.is_behind.ensures ∙ c.if-is_behind.true in
    let sum : c.args.self.now.pending.minuses + c.args.self.now.depth ≡ p.minuses + depth fs =
    ap (λ (n : ℕ). n + c.args.self.now.depth) s.pending.minuses ∙ ap (λ (n : ℕ). p.minuses + n) s.opened in
    let deep : leb MAX_NESTING (c.args.self.now.pending.minuses + c.args.self.now.depth) ≡ true = cc in (
      inside l (record { bracket = Machine.arguments b; before = []; outside = p } ∷ fs) nothing_pending wanted,
      functor_step l fs p (compound b none) b x e,
      functor_exceeds fs p x e ∙ ap (leb MAX_NESTING) (sym sum) ∙ deep,
      functor_limit x e,
    )

pub returns-then-is_behind-clause-answer : goal.returns-then-is_behind-clause-answer
returns-then-is_behind-clause-answer c l fs p s =
    let x = word_of c.args.word in
    let b = name_of c.args.name in
    let w = compound b none in
    let e : is_functor_bracket x ≡ true = sym c.is_behind.ensures ∙ c.if-is_behind.true in
    let sum : c.args.self.now.pending.minuses + c.args.self.now.depth ≡ p.minuses + depth fs =
    ap (λ (n : ℕ). n + c.args.self.now.depth) s.pending.minuses ∙ ap (λ (n : ℕ). p.minuses + n) s.opened in
    let shallow : leb MAX_NESTING (c.args.self.now.pending.minuses + c.args.self.now.depth) ≡ false = cc in
    let within : operator_exceeds fs p x ≡ false = functor_exceeds fs p x e ∙ ap (leb MAX_NESTING) (sym sum) ∙ shallow in (
      inside l (record { bracket = Machine.arguments b; before = []; outside = p } ∷ fs) nothing_pending wanted,
      ap (λ (d : Bool). cond (true && d) None (take_operator l fs p w (Some b) x)) within ∙ functor_step l fs p w b x e,
      refl,
      c.in_ok-open.ensures.ok l fs p s,
    )

pub returns-clause-answer : goal.returns-clause-answer
returns-clause-answer c l fs p s =
    let x = word_of c.args.word in
    let b = name_of c.args.name in
    let w = compound b none in
    let e : is_functor_bracket x ≡ false = sym c.is_behind.ensures ∙ c.if-is_behind.false in
    let stands : Stands c.put_atom.new.self l fs p (w ∷ []) =
    subst (λ (d : Bytes). Stands c.put_atom.new.self l fs p (compound d none ∷ [])) c.bytes.ensures (c.in_ok-put_atom.ensures.ok l fs p s).1 in
    answers (inside l fs p (operand w (Some b))) x c.take_operator.result c.take_operator.new.self (inside_no_directive l fs p (operand w (Some b)) x)
    (subst (λ (r : Option State). Answered r (operator_exceeds fs p x) x c.take_operator.result c.take_operator.new.self) (other_step l fs p w b x e)
    (c.take_operator.ensures.answer l fs p w stands))
