use Rattle.std.proofs.Common.{ℕ, List, ◌∷◌, ◌||◌, reverse, refl, ap, ◌∙◌, ◌≡◌}
use Rattle.and_translation.specs.Bodies.{nothing, terminals, goals}
use Rattle.and_grammar.specs.Views.{term_at}
use Rattle.and_grammar.specs.Checked.{LooksAt}
use Rattle.and_grammar.proofs.CopyLemmas.{on_ok}
use Rattle.and_grammar.proofs.Looking.{both_left, either_left, none_wrong, impure_here, call_here}
use Rattle.and_grammar.proofs.checking.look_at.Goals as goal

pub returns-in-Both : goal.returns-in-Both
returns-in-Both c =
    let d = c.args.rule.now in
    let rest : List ℕ = reverse c.args.pending.now.items in
    let after : List ℕ = reverse c.push_two.new.pending.items in
    on_ok c.push_two.result (after ≡ c.in-Both.left ∷ c.in-Both.right ∷ rest) (LooksAt d (c.args.place ∷ rest) after c.args.found.now c.args.found.now)
    (λ e. both_left d c.args.place rest after c.args.found.now c.args.found.now c.in-Both.left c.in-Both.right c.in-Both.ensures e refl refl) c.push_two.ensures

pub returns-in-Either : goal.returns-in-Either
returns-in-Either c =
    let d = c.args.rule.now in
    let rest : List ℕ = reverse c.args.pending.now.items in
    let after : List ℕ = reverse c.push_two-in-Either.new.pending.items in
    on_ok c.push_two-in-Either.result (after ≡ c.in-Either.left ∷ c.in-Either.right ∷ rest)
    (LooksAt d (c.args.place ∷ rest) after c.args.found.now c.args.found.now)
    (λ e. either_left d c.args.place rest after c.args.found.now c.args.found.now c.in-Either.left c.in-Either.right c.in-Either.ensures e refl refl)
    c.push_two-in-Either.ensures

pub returns-in-Nonterminal : goal.returns-in-Nonterminal
returns-in-Nonterminal c =
    let rest : List ℕ = reverse c.args.pending.now.items in
    call_here c.args.rule.now c.args.place rest rest c.args.found.now (record { impure = c.args.found.now.impure; wide = c.either-found.result })
    c.in-Nonterminal.ensures refl refl
    (c.either-found.ensures ∙ ap (λ b. c.args.found.now.wide || b) c.is_wide-wide.ensures)

pub returns-in-Impure : goal.returns-in-Impure
returns-in-Impure c =
    let rest : List ℕ = reverse c.args.pending.now.items in
    impure_here c.args.rule.now c.args.place rest rest c.args.found.now _ c.in-Impure.ensures refl refl refl

pub returns-in-Nothing : goal.returns-in-Nothing
returns-in-Nothing c =
    let rest : List ℕ = reverse c.args.pending.now.items in
    none_wrong c.args.rule.now c.args.place rest rest c.args.found.now c.args.found.now nothing c.in-Nothing.ensures refl refl refl refl refl

pub returns-in-Terminals : goal.returns-in-Terminals
returns-in-Terminals c =
    let rest : List ℕ = reverse c.args.pending.now.items in
    none_wrong c.args.rule.now c.args.place rest rest c.args.found.now c.args.found.now (terminals c.in-Terminals.ensures.items) c.in-Terminals.ensures.same
    refl refl refl refl refl

pub returns-in-Goals : goal.returns-in-Goals
returns-in-Goals c =
    let rest : List ℕ = reverse c.args.pending.now.items in
    none_wrong c.args.rule.now c.args.place rest rest c.args.found.now c.args.found.now (goals (term_at c.args.rule.now c.in-Goals.goals)) c.in-Goals.ensures.0
    refl refl refl refl refl
