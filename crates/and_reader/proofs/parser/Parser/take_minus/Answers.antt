use Rattle.std.proofs.Common.{ℕ, suc, ◌+◌, ◌≡◌, true, false, leb, None, refl, sym, ap, ◌∙◌, arith}
use Rattle.std.specs.Prelude.{codes}
use Rattle.std.proofs.lemmas.Bool.{leb-false}
use Rattle.and_syntax.specs.Written.{compound, none}
use Rattle.and_language.specs.Words
use Rattle.and_automaton.specs.Machine
use Rattle.and_automaton.specs.Machine.{inside, wanted, numeral, operand, operand_exceeds, depth}
use Rattle.and_reader.specs.declared.words.Before.{Before}
use Rattle.and_reader.specs.Views.{before_of}
use Rattle.and_reader.proofs.parser.Parser.take_minus.Goals as goal
use Rattle.and_model.specs.declared.limits.TheConstants.{MAX_NESTING}

pub returns-then-is_deep-clause-answer : goal.returns-then-is_deep-clause-answer
returns-then-is_deep-clause-answer c l fs p s =
    let sum : c.args.self.now.pending.minuses + c.args.self.now.depth ≡ p.minuses + depth fs =
    ap (λ (n : ℕ). n + c.args.self.now.depth) s.pending.minuses ∙ ap (λ (n : ℕ). p.minuses + n) s.opened in
    let deep : leb MAX_NESTING (c.args.self.now.pending.minuses + c.args.self.now.depth) ≡ true = cc in (
      inside l fs (record p { minuses = suc p.minuses }) wanted,
      ap (λ (b : Before). Machine.take_operand l fs p (Words.minus (before_of b))) c.in-Operand.is,
      ap (λ (b : Before). operand_exceeds fs p (Words.minus (before_of b))) c.in-Operand.is ∙ ap (leb MAX_NESTING) (sym sum) ∙ deep,
      refl,
    )

pub returns-in-Integer-clause-answer : goal.returns-in-Integer-clause-answer
returns-in-Integer-clause-answer c l fs p s = (
  inside l fs p numeral,
  ap (λ (b : Before). Machine.take_operand l fs p (Words.minus (before_of b))) c.in-Integer.is,
  ap (λ (b : Before). operand_exceeds fs p (Words.minus (before_of b))) c.in-Integer.is,
  refl,
  (
    refl,
    record {
      part = s.part;
      alternatives = s.alternatives;
      before = s.before;
      frames = s.frames;
      pending = s.pending;
      opened = s.opened;
      nesting = s.nesting;
      finished = s.finished;
    },
  ),
)

pub returns-in_ok-put_atom-in-Stop-clause-answer : goal.returns-in_ok-put_atom-in-Stop-clause-answer
returns-in_ok-put_atom-in-Stop-clause-answer c l fs p s = (
  inside l fs p (operand (compound (codes "-") none) None),
  ap (λ (b : Before). Machine.take_operand l fs p (Words.minus (before_of b))) c.in-Stop.is,
  ap (λ (b : Before). operand_exceeds fs p (Words.minus (before_of b))) c.in-Stop.is,
  refl,
  c.in_ok-put_atom-in-Stop.ensures.ok l fs p s,
)

pub returns-else-is_deep-clause-answer : goal.returns-else-is_deep-clause-answer
returns-else-is_deep-clause-answer c l fs p s =
    let sum : c.args.self.now.pending.minuses + c.args.self.now.depth ≡ p.minuses + depth fs =
    ap (λ (n : ℕ). n + c.args.self.now.depth) s.pending.minuses ∙ ap (λ (n : ℕ). p.minuses + n) s.opened in
    let shallow : leb MAX_NESTING (c.args.self.now.pending.minuses + c.args.self.now.depth) ≡ false = cc in
    let few = leb-false MAX_NESTING (c.args.self.now.pending.minuses + c.args.self.now.depth) shallow in
    let one : c.args.self.now.pending.minuses + 1 ≡ suc p.minuses = let n = s.pending.minuses in omega arith in (
      inside l fs (record p { minuses = suc p.minuses }) wanted,
      ap (λ (b : Before). Machine.take_operand l fs p (Words.minus (before_of b))) c.in-Operand.is,
      ap (λ (b : Before). operand_exceeds fs p (Words.minus (before_of b))) c.in-Operand.is ∙ ap (leb MAX_NESTING) (sym sum) ∙ shallow,
      refl,
      (
        refl,
        record {
          part = s.part;
          alternatives = s.alternatives;
          before = s.before;
          frames = s.frames;
          pending = record { relation = s.pending.relation; sum = s.pending.sum; product = s.pending.product; minuses = one };
          opened = s.opened;
          nesting = omega arith;
          finished = s.finished;
        },
      ),
    )
