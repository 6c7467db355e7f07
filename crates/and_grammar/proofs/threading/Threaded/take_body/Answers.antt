use Rattle.std.proofs.Common.{ap, sym, subst, reverse, length, List, [], ◌∷◌, ◌≡◌, ◌∙◌, false, refl, arith}
use Rattle.std.proofs.lemmas.List.{reverse-append}
use Rattle.and_grammar.specs.declared.bodies.BodyPart.TheVariants.{Both}
use Rattle.and_grammar.specs.declared.threading.Task.{Task}
use Rattle.and_grammar.specs.declared.threading.Task.TheVariants as tasks
use Rattle.and_grammar.specs.Acts.{acts_of, stand_of, AreBelow, Steps}
use Rattle.and_grammar.proofs.CopyLemmas.{on_ok}
use Rattle.and_grammar.proofs.Viewing.{known}
use Rattle.and_grammar.proofs.ThreadLemmas.{both_opened, steps_on}
use Rattle.and_grammar.proofs.threading.Threaded.take_body.Goals as goal

pub take_part-requires-2-clause-within : goal.take_part-requires-2-clause-within
take_part-requires-2-clause-within c =
    let is = known c.args.rule.now c.args.place c.body_part-part.result (Both c.in-Both.left c.in-Both.right) c.in-Both.is c.body_part-part.ensures in
    omega (arith, c.requires.within, is.1.left)

pub take_part-requires-2-clause-below : goal.take_part-requires-2-clause-below
take_part-requires-2-clause-below c =
    let e : reverse c.push.new.self.items ≡ tasks.Body c.in-Both.right false ∷ reverse c.args.pending.now.items =
    ap reverse c.in_ok-push.ensures.items ∙ reverse-append c.args.pending.now.items (tasks.Body c.in-Both.right false ∷ []) in
    subst (λ (ts : List Task). AreBelow (acts_of c.args.rule.now ts) (length (stand_of c.args.self.now).below)) (sym e) c.requires.below

pub returns : goal.returns
returns c =
    let d = c.args.rule.now in
    let todo : List Task = reverse c.args.pending.now.items in
    let l : Task = tasks.Body c.in-Both.left c.args.first in
    let e : reverse c.push.new.self.items ≡ tasks.Body c.in-Both.right false ∷ todo =
    ap reverse c.in_ok-push.ensures.items ∙ reverse-append c.args.pending.now.items (tasks.Body c.in-Both.right false ∷ []) in
    let is = known d c.args.place c.body_part-part.result (Both c.in-Both.left c.in-Both.right) c.in-Both.is c.body_part-part.ensures in
    let opened : Steps d (tasks.Body c.args.place c.args.first ∷ todo) (l ∷ reverse c.push.new.self.items) c.args.self.now c.args.self.now =
    both_opened d c.args.place c.args.first todo (l ∷ reverse c.push.new.self.items) c.args.self.now c.args.self.now c.requires.counted c.requires.below
    c.in-Both.left c.in-Both.right is (ap (λ (ts : List Task). l ∷ ts) e) (record { line = refl; stand = refl; counted = c.requires.counted }) in
    on_ok c.take_part-2.result _ (Steps d (tasks.Body c.args.place c.args.first ∷ todo) (reverse c.take_part-2.new.pending.items) c.args.self.now
    c.take_part-2.new.self)
    (λ s. steps_on d (tasks.Body c.args.place c.args.first ∷ todo) (l ∷ reverse c.push.new.self.items) (reverse c.take_part-2.new.pending.items)
    c.args.self.now c.args.self.now c.take_part-2.new.self opened s) c.take_part-2.ensures
