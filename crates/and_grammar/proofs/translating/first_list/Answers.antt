use Rattle.std.proofs.Common.{arith, ◌≡◌, List, ap, sym, ◌∙◌, subst, Some}
use Rattle.and_syntax.specs.Written.{Written}
use Rattle.and_translation.specs.Bodies.{first_terminals, elements}
use Rattle.and_grammar.specs.Views.{term_at}
use Rattle.and_grammar.proofs.translating.first_list.Goals as goal

pub loop-left-preserved : goal.loop-left-preserved
loop-left-preserved c = record {
  there = omega (arith, c.loop-left.invariant.there, c.in-Both.ensures.1.left);
  same = sym (ap first_terminals c.in-Both.ensures.0) ∙ c.loop-left.invariant.same;
}

pub loop-left-smaller : goal.loop-left-smaller
loop-left-smaller c = omega (arith, c.in-Both.ensures.1.smaller)

pub returns-in-Terminals : goal.returns-in-Terminals
returns-in-Terminals c =
    let l = c.in-Terminals.ensures in (
      c.loop-left.invariant.there,
      subst (λ (ts : List Written). elements (term_at c.args.rule.now c.loop-left.first) ≡ Some ts)
          (sym (ap first_terminals l.same) ∙ c.loop-left.invariant.same) l.listed,
    )

pub returns-in-Nothing : goal.returns-in-Nothing
returns-in-Nothing c = sym c.loop-left.invariant.same ∙ ap first_terminals c.in-Nothing.ensures

pub returns-in-Goals : goal.returns-in-Goals
returns-in-Goals c = sym c.loop-left.invariant.same ∙ ap first_terminals c.in-Goals.ensures.0

pub returns-in-Nonterminal : goal.returns-in-Nonterminal
returns-in-Nonterminal c = sym c.loop-left.invariant.same ∙ ap first_terminals c.in-Nonterminal.ensures.same

pub returns-in-Either : goal.returns-in-Either
returns-in-Either c = sym c.loop-left.invariant.same ∙ ap first_terminals c.in-Either.ensures.0

pub returns-in-Impure : goal.returns-in-Impure
returns-in-Impure c = sym c.loop-left.invariant.same ∙ ap first_terminals c.in-Impure.ensures
