use Rattle.std.proofs.Common.{List, ◌∷◌, ◌≡◌, reverse, false, refl}
use Rattle.and_translation.specs.Bodies.{nothing, terminals, goals, nonterminal, both, impure}
use Rattle.and_grammar.specs.declared.threading.Task.{Task}
use Rattle.and_grammar.specs.declared.threading.Task.TheVariants.{Body, Others, EndAlternative, Join}
use Rattle.and_grammar.specs.Views.{term_at, body_at}
use Rattle.and_grammar.specs.Acts.{Splits}
use Rattle.and_grammar.proofs.CopyLemmas.{on_ok}
use Rattle.and_grammar.proofs.ThreadLemmas.{split_last, split_more}
use Rattle.and_grammar.proofs.threading.push_others.Goals as goal

pub returns-in-Either : goal.returns-in-Either
returns-in-Either c =
    let todo : List Task = reverse c.args.pending.now.items in
    let after : List Task = reverse c.push_alternatives.new.pending.items in
    on_ok c.push_alternatives.result (after ≡ Body c.in-Either.left false ∷ EndAlternative c.args.into
    ∷ Others c.in-Either.right c.args.from c.args.into ∷ Join ∷ todo)
    (Splits c.args.rule.now (Others c.args.place c.args.from c.args.into ∷ todo) after c.args.from)
    (λ e. split_more c.args.rule.now c.args.place c.args.from c.args.into todo after c.in-Either.left c.in-Either.right c.in-Either.ensures e)
    c.push_alternatives.ensures

pub returns-in-Nothing : goal.returns-in-Nothing
returns-in-Nothing c =
    let todo : List Task = reverse c.args.pending.now.items in
    let after : List Task = reverse c.push_alternative.new.pending.items in
    on_ok c.push_alternative.result (after ≡ Body c.args.place false ∷ EndAlternative c.args.into ∷ todo)
    (Splits c.args.rule.now (Others c.args.place c.args.from c.args.into ∷ todo) after c.args.from)
    (λ e. split_last c.args.rule.now c.args.place c.args.from c.args.into todo after nothing c.in-Nothing.ensures refl e) c.push_alternative.ensures

pub returns-in-Terminals : goal.returns-in-Terminals
returns-in-Terminals c =
    let todo : List Task = reverse c.args.pending.now.items in
    let after : List Task = reverse c.push_alternative-in-Terminals.new.pending.items in
    on_ok c.push_alternative-in-Terminals.result (after ≡ Body c.args.place false ∷ EndAlternative c.args.into ∷ todo)
    (Splits c.args.rule.now (Others c.args.place c.args.from c.args.into ∷ todo) after c.args.from)
    (λ e. split_last c.args.rule.now c.args.place c.args.from c.args.into todo after (terminals c.in-Terminals.ensures.items) c.in-Terminals.ensures.same refl
    e) c.push_alternative-in-Terminals.ensures

pub returns-in-Goals : goal.returns-in-Goals
returns-in-Goals c =
    let todo : List Task = reverse c.args.pending.now.items in
    let after : List Task = reverse c.push_alternative-in-Goals.new.pending.items in
    on_ok c.push_alternative-in-Goals.result (after ≡ Body c.args.place false ∷ EndAlternative c.args.into ∷ todo)
    (Splits c.args.rule.now (Others c.args.place c.args.from c.args.into ∷ todo) after c.args.from)
    (λ e. split_last c.args.rule.now c.args.place c.args.from c.args.into todo after (goals (term_at c.args.rule.now c.in-Goals.goals)) c.in-Goals.ensures.0
    refl e) c.push_alternative-in-Goals.ensures

pub returns-in-Nonterminal : goal.returns-in-Nonterminal
returns-in-Nonterminal c =
    let todo : List Task = reverse c.args.pending.now.items in
    let after : List Task = reverse c.push_alternative-in-Nonterminal.new.pending.items in
    on_ok c.push_alternative-in-Nonterminal.result (after ≡ Body c.args.place false ∷ EndAlternative c.args.into ∷ todo)
    (Splits c.args.rule.now (Others c.args.place c.args.from c.args.into ∷ todo) after c.args.from)
    (λ e. split_last c.args.rule.now c.args.place c.args.from c.args.into todo after
    (nonterminal c.in-Nonterminal.ensures.name c.in-Nonterminal.ensures.arguments) c.in-Nonterminal.ensures.same refl e)
    c.push_alternative-in-Nonterminal.ensures

pub returns-in-Both : goal.returns-in-Both
returns-in-Both c =
    let todo : List Task = reverse c.args.pending.now.items in
    let after : List Task = reverse c.push_alternative-in-Both.new.pending.items in
    on_ok c.push_alternative-in-Both.result (after ≡ Body c.args.place false ∷ EndAlternative c.args.into ∷ todo)
    (Splits c.args.rule.now (Others c.args.place c.args.from c.args.into ∷ todo) after c.args.from)
    (λ e. split_last c.args.rule.now c.args.place c.args.from c.args.into todo after
    (both (body_at c.args.rule.now c.in-Both.left) (body_at c.args.rule.now c.in-Both.right)) c.in-Both.ensures.0 refl e) c.push_alternative-in-Both.ensures

pub returns-in-Impure : goal.returns-in-Impure
returns-in-Impure c =
    let todo : List Task = reverse c.args.pending.now.items in
    let after : List Task = reverse c.push_alternative-in-Impure.new.pending.items in
    on_ok c.push_alternative-in-Impure.result (after ≡ Body c.args.place false ∷ EndAlternative c.args.into ∷ todo)
    (Splits c.args.rule.now (Others c.args.place c.args.from c.args.into ∷ todo) after c.args.from)
    (λ e. split_last c.args.rule.now c.args.place c.args.from c.args.into todo after impure c.in-Impure.ensures refl e) c.push_alternative-in-Impure.ensures
