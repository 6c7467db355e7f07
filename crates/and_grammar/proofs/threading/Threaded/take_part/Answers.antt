use Rattle.std.proofs.Common.{ap, arith, refl, reverse, List, ◌∷◌}
use Rattle.and_translation.specs.Bodies.{Body, nothing, goals, nonterminal, impure}
use Rattle.and_drafts.specs.Drafts.{Draft, draft_of}
use Rattle.and_grammar.specs.declared.threading.Task.{Task}
use Rattle.and_grammar.specs.declared.threading.Task.TheVariants as tasks
use Rattle.and_grammar.specs.declared.threading.Threaded.{Threaded}
use Rattle.and_grammar.specs.declared.bodies.BodyPart.TheVariants.{Nothing, Terminals, Goals, Nonterminal, Both, Either, Impure}
use Rattle.and_grammar.specs.Views.{term_at}
use Rattle.and_grammar.specs.Acts.{Steps}
use Rattle.and_grammar.proofs.CopyLemmas.{on_ok, on_ok_two}
use Rattle.and_grammar.proofs.Viewing.{known}
use Rattle.and_grammar.proofs.ThreadLemmas.{nothing_made, body_done, terminals_done, both_opened, either_opened, all_below}
use Rattle.and_grammar.proofs.threading.Threaded.take_part.Goals as goal

pub returns-in-Nothing : goal.returns-in-Nothing
returns-in-Nothing c =
    let todo : List Task = reverse c.args.pending.now.items in
    body_done c.args.rule.now c.args.place c.args.first todo todo c.args.self.now c.args.self.now c.requires.counted c.requires.below
    nothing (known c.args.rule.now c.args.place c.args.part Nothing c.in-Nothing.is c.requires.part) refl refl (nothing_made c.args.self.now c.requires.counted)

pub returns-in-Terminals : goal.returns-in-Terminals
returns-in-Terminals c =
    let todo : List Task = reverse c.args.pending.now.items in
    let l = known c.args.rule.now c.args.place c.args.part Terminals c.in-Terminals.is c.requires.part in
    on_ok c.take_terminals.result _ (Steps c.args.rule.now (tasks.Body c.args.place c.args.first ∷ todo) todo c.args.self.now c.take_terminals.new.self)
    (terminals_done c.args.rule.now c.args.place c.args.first todo todo c.args.self.now c.take_terminals.new.self c.requires.counted c.requires.below
    l.items l.same refl) (c.take_terminals.ensures l.items l.listed)

pub returns-in-Goals : goal.returns-in-Goals
returns-in-Goals c =
    let todo : List Task = reverse c.args.pending.now.items in
    on_ok c.take_goals.result _ (Steps c.args.rule.now (tasks.Body c.args.place c.args.first ∷ todo) todo c.args.self.now c.take_goals.new.self)
    (body_done c.args.rule.now c.args.place c.args.first todo todo c.args.self.now c.take_goals.new.self c.requires.counted c.requires.below
    (goals (term_at c.args.rule.now c.in-Goals.goals))
    (known c.args.rule.now c.args.place c.args.part (Goals c.in-Goals.goals) c.in-Goals.is c.requires.part).0 refl refl) c.take_goals.ensures

pub returns-in-Nonterminal : goal.returns-in-Nonterminal
returns-in-Nonterminal c =
    let todo : List Task = reverse c.args.pending.now.items in
    let l = known c.args.rule.now c.args.place c.args.part Nonterminal c.in-Nonterminal.is c.requires.part in
    on_ok c.take_nonterminal.result _
    (Steps c.args.rule.now (tasks.Body c.args.place c.args.first ∷ todo) todo c.args.self.now c.take_nonterminal.new.self)
    (body_done c.args.rule.now c.args.place c.args.first todo todo c.args.self.now c.take_nonterminal.new.self c.requires.counted c.requires.below
    (nonterminal l.name l.arguments) l.same refl refl) (c.take_nonterminal.ensures l.name l.arguments l.named)

pub returns-in_ok-push_both-in-Both : goal.returns-in_ok-push_both-in-Both
returns-in_ok-push_both-in-Both c =
    let todo : List Task = reverse c.args.pending.now.items in
    both_opened c.args.rule.now c.args.place c.args.first todo _ c.args.self.now c.args.self.now c.requires.counted c.requires.below
    c.in-Both.left c.in-Both.right
    (known c.args.rule.now c.args.place c.args.part (Both c.in-Both.left c.in-Both.right) c.in-Both.is c.requires.part) c.in_ok-push_both-in-Both.ensures
    (record { line = refl; stand = refl; counted = c.requires.counted })

pub returns-in-Either : goal.returns-in-Either
returns-in-Either c =
    let todo : List Task = reverse c.args.pending.now.items in
    let new : Threaded = c.open.new.self in
    on_ok_two c.open.result _ _ (Steps c.args.rule.now (tasks.Body c.args.place c.args.first ∷ todo) (reverse c.open.new.pending.items) c.args.self.now new)
    (λ s p. either_opened c.args.rule.now c.args.place c.args.first todo (reverse c.open.new.pending.items) c.args.self.now new
    c.requires.counted c.requires.below c.in-Either.left c.in-Either.right
    (known c.args.rule.now c.args.place c.args.part (Either c.in-Either.left c.in-Either.right) c.in-Either.is c.requires.part) p
    (all_below c.args.self.now new c.requires.counted (ap (λ (d : Draft). d.line) c.open.ensures.out)
    (draft_of c.args.self.now.out).finished c.args.self.now.state _ (ap (λ (d : Draft). d.finished) c.open.ensures.out) s.2 s.0 (omega (arith, s.1))))
    c.open.ensures.state c.open.ensures.pending

pub returns-in-Impure : goal.returns-in-Impure
returns-in-Impure c =
    let todo : List Task = reverse c.args.pending.now.items in
    body_done c.args.rule.now c.args.place c.args.first todo todo c.args.self.now c.args.self.now c.requires.counted c.requires.below
    impure (known c.args.rule.now c.args.place c.args.part Impure c.in-Impure.is c.requires.part) refl refl (nothing_made c.args.self.now c.requires.counted)
