use Rattle.std.proofs.Common.{◌≡◌, ◌<◌, ◌∙◌, sym, subst, leb, false, refl}
use Rattle.std.proofs.lemmas.Bool.{leb-false}
use Rattle.and_modes.specs.Modes.{rank}
use Rattle.and_modes.specs.declared.level.Level.{Level}
use Rattle.and_modes.proofs.Lowering.{lowers_called, lowers_succeeded}
use Rattle.and_modes.proofs.assignment.Modes.lower.Goals as goal

pub returns-in_ok-insert-in-Called-clause-fell : goal.returns-in_ok-insert-in-Called-clause-fell
returns-in_ok-insert-in-Called-clause-fell c = λ ok.
    let d = c.args.demand in
    let above : leb (rank c.level.result) (rank d.level) ≡ false = sym c.is_at_least.ensures ∙ c.if-is_at_least.false in (
      subst (λ (l : Level). rank d.level < rank l) c.level.ensures (leb-false (rank c.level.result) (rank d.level) above),
      lowers_called c.args.self.now (record { called = c.insert.new.self; succeeded = c.args.self.now.succeeded }) d c.in-Called.is refl
          c.in_ok-insert-in-Called.ensures.updates.0,
    )

pub returns-in_ok-insert-in-Succeeded-clause-fell : goal.returns-in_ok-insert-in-Succeeded-clause-fell
returns-in_ok-insert-in-Succeeded-clause-fell c = λ ok.
    let d = c.args.demand in
    let above : leb (rank c.level.result) (rank d.level) ≡ false = sym c.is_at_least.ensures ∙ c.if-is_at_least.false in (
      subst (λ (l : Level). rank d.level < rank l) c.level.ensures (leb-false (rank c.level.result) (rank d.level) above),
      lowers_succeeded c.args.self.now (record { called = c.args.self.now.called; succeeded = c.insert-in-Succeeded.new.self }) d c.in-Succeeded.is refl
          c.in_ok-insert-in-Succeeded.ensures.updates.0,
    )
