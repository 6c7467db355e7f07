use Rattle.std.proofs.Common.{Bool, ◌≡◌, cond, refl, sym, subst, OnOk}
use Rattle.and_translation.specs.Bodies.{nothing, terminals}
use Rattle.and_translation.specs.Translation.{walk}
use Rattle.and_grammar.proofs.counting.Counted.take_terminals.Goals as goal

pub returns-then-first : goal.returns-then-first
returns-then-first c = λ items.
    let s = c.args.self.now.state in
    let n = c.args.self.now.next in
    subst (λ (f : Bool). (s ≡ (walk (cond f nothing (terminals items)) s n).behind) × (n ≡ (walk (cond f nothing (terminals items)) s n).next))
    (sym c.if-first.true) (refl, refl)

pub returns : goal.returns
returns c = λ items.
    let s = c.args.self.now.state in
    let n = c.args.self.now.next in
    subst
    (λ (f : Bool). OnOk c.advance.result ((c.advance.new.self.state ≡ (walk (cond f nothing (terminals items)) s n).behind)
    × (c.advance.new.self.next ≡ (walk (cond f nothing (terminals items)) s n).next)))
    (sym c.if-first.false) c.advance.ensures
