use Rattle.std.proofs.Common.{arith, refl, reverse, List, ◌∷◌, cond}
use Rattle.and_translation.specs.Bodies.{Body, nothing, terminals, goals, nonterminal, impure}
use Rattle.and_grammar.specs.declared.threading.Task.{Task}
use Rattle.and_grammar.specs.declared.threading.Task.TheVariants as tasks
use Rattle.and_grammar.specs.Views.{term_at, body_at}
use Rattle.and_grammar.specs.Counts.{Counts}
use Rattle.and_grammar.proofs.CopyLemmas.{on_ok}
use Rattle.and_grammar.proofs.ThreadLemmas.{first_same}
use Rattle.and_grammar.proofs.CountLemmas.{first_list, body_counted, both_counted, either_counted}
use Rattle.and_grammar.proofs.counting.Counted.take_body.Goals as goal

pub returns-in-Nothing : goal.returns-in-Nothing
returns-in-Nothing c =
    let todo : List Task = reverse c.args.pending.now.items in
    body_counted c.args.rule.now c.args.place c.args.first todo todo c.args.self.now c.args.self.now nothing
    (first_same c.args.first (body_at c.args.rule.now c.args.place) nothing c.in-Nothing.ensures refl) refl refl refl

pub returns-in-Terminals : goal.returns-in-Terminals
returns-in-Terminals c =
    let todo : List Task = reverse c.args.pending.now.items in
    let l = c.in-Terminals.ensures in
    on_ok c.take_terminals.result _ (Counts c.args.rule.now (tasks.Body c.args.place c.args.first ∷ todo) todo c.args.self.now c.take_terminals.new.self)
    (λ made. body_counted c.args.rule.now c.args.place c.args.first todo todo c.args.self.now c.take_terminals.new.self
    (cond c.args.first nothing (terminals l.items)) (first_list c.args.first (body_at c.args.rule.now c.args.place) l.items l.same) refl made.0 made.1)
    (c.take_terminals.ensures l.items)

pub returns-in-Goals : goal.returns-in-Goals
returns-in-Goals c =
    let todo : List Task = reverse c.args.pending.now.items in
    let b : Body = goals (term_at c.args.rule.now c.in-Goals.goals) in
    body_counted c.args.rule.now c.args.place c.args.first todo todo c.args.self.now c.args.self.now b
    (first_same c.args.first (body_at c.args.rule.now c.args.place) b c.in-Goals.ensures.0 refl) refl refl refl

pub returns-in-Nonterminal : goal.returns-in-Nonterminal
returns-in-Nonterminal c =
    let todo : List Task = reverse c.args.pending.now.items in
    let l = c.in-Nonterminal.ensures in
    let b : Body = nonterminal l.name l.arguments in
    on_ok c.advance.result _ (Counts c.args.rule.now (tasks.Body c.args.place c.args.first ∷ todo) todo c.args.self.now c.advance.new.self)
    (λ made. body_counted c.args.rule.now c.args.place c.args.first todo todo c.args.self.now c.advance.new.self b
    (first_same c.args.first (body_at c.args.rule.now c.args.place) b l.same refl) refl made.0 made.1) c.advance.ensures

pub returns-in_ok-push_both-in-Both : goal.returns-in_ok-push_both-in-Both
returns-in_ok-push_both-in-Both c =
    both_counted c.args.rule.now c.args.place c.args.first (reverse c.args.pending.now.items) _ c.args.self.now c.args.self.now
    c.in-Both.left c.in-Both.right c.in-Both.ensures c.in_ok-push_both-in-Both.ensures refl refl

pub returns-in_ok-self-in-Either : goal.returns-in_ok-self-in-Either
returns-in_ok-self-in-Either c =
    either_counted c.args.rule.now c.args.place c.args.first (reverse c.args.pending.now.items) _ c.args.self.now _
    c.in-Either.left c.in-Either.right c.in-Either.ensures c.in_ok-push_alternatives-in-Either.ensures refl (omega (arith, c.in_ok-self-in-Either.ensures))

pub returns-in-Impure : goal.returns-in-Impure
returns-in-Impure c =
    let todo : List Task = reverse c.args.pending.now.items in
    body_counted c.args.rule.now c.args.place c.args.first todo todo c.args.self.now c.args.self.now impure
    (first_same c.args.first (body_at c.args.rule.now c.args.place) impure c.in-Impure.ensures refl) refl refl refl
