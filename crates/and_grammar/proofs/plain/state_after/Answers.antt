use Rattle.std.proofs.Common.{true, false, sym, ◌∙◌, subst}
use Rattle.and_translation.specs.Bodies.{Body, goals}
use Rattle.and_grammar.specs.declared.bodies.BodyPart.{BodyPart}
use Rattle.and_grammar.specs.declared.bodies.BodyPart.TheVariants.{Terminals, Goals, Nonterminal}
use Rattle.and_grammar.specs.Views.{term_at, body_at, IsBody}
use Rattle.and_grammar.specs.Plain.{Advances}
use Rattle.and_grammar.proofs.PlainLemmas.{nothing_stays, goals_stay, first_stay, others_advance, call_advances, if_some}
use Rattle.and_grammar.proofs.plain.state_after.Goals as goal

pub returns-in-Nothing : goal.returns-in-Nothing
returns-in-Nothing c =
    let b : Body = body_at c.args.rule.now c.args.place in
    nothing_stays b c.args.first c.args.state (subst (λ (x : BodyPart). IsBody c.args.rule.now c.args.place x b) c.in-Nothing.is c.requires.part)

pub returns-in-Goals : goal.returns-in-Goals
returns-in-Goals c =
    let b : Body = body_at c.args.rule.now c.args.place in
    let is : IsBody c.args.rule.now c.args.place (Goals c.in-Goals.goals) b =
    subst (λ (x : BodyPart). IsBody c.args.rule.now c.args.place x b) c.in-Goals.is c.requires.part in
    goals_stay b c.args.first c.args.state (term_at c.args.rule.now c.in-Goals.goals) is.0

pub returns-then-first : goal.returns-then-first
returns-then-first c =
    let b : Body = body_at c.args.rule.now c.args.place in
    let is : IsBody c.args.rule.now c.args.place Terminals b =
    subst (λ (x : BodyPart). IsBody c.args.rule.now c.args.place x b) c.in-Terminals.is c.requires.part in
    first_stay b c.args.first c.args.state is.items is.same c.if-first.true

pub returns-else-first : goal.returns-else-first
returns-else-first c =
    let b : Body = body_at c.args.rule.now c.args.place in
    let is : IsBody c.args.rule.now c.args.place Terminals b =
    subst (λ (x : BodyPart). IsBody c.args.rule.now c.args.place x b) c.in-Terminals.is c.requires.part in
    if_some c.next_state.result _ (Advances b c.args.first c.args.state)
    (λ k e. others_advance b c.args.first c.args.state k is.items is.same c.if-first.false e) c.next_state.ensures

pub returns-else-is_wide : goal.returns-else-is_wide
returns-else-is_wide c =
    let b : Body = body_at c.args.rule.now c.args.place in
    let is : IsBody c.args.rule.now c.args.place Nonterminal b =
    subst (λ (x : BodyPart). IsBody c.args.rule.now c.args.place x b) c.in-Nonterminal.is c.requires.part in
    if_some c.next_state-in-Nonterminal.result _ (Advances b c.args.first c.args.state)
    (λ k e. call_advances c.args.rule.now c.args.place c.args.first c.args.state k is (sym c.is_wide.ensures ∙ c.if-is_wide.false) e)
    c.next_state-in-Nonterminal.ensures
