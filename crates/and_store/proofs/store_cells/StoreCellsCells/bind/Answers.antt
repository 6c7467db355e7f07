use Rattle.std.proofs.Common.{ap, sym, subst, ◌∙◌, ℕ}
use Rattle.and_cells.specs.Seen.{Keeps, Sets, Finds}
use Rattle.and_store.specs.Worked.{seen_by, shown}
use Rattle.and_store.proofs.Working.{bound_once, bound_used, bound_keeps, bound_sets, bound_finds, may_stand}
use Rattle.and_store.proofs.store_cells.StoreCellsCells.bind.Goals as goal

pub invariant_of-self : goal.invariant_of-self
invariant_of-self g c = record {
  of = c.bind.ensures.store ∙ c.args.self.now.of;
  once = bound_once g.N.Naming.program _ c.args.cell c.args.to c.bind.result c.args.self.now.pass c.bind.new.pass c.bind.ensures.won c.bind.ensures.already
      c.args.self.now.once;
}

pub returns-clause-grew : goal.returns-clause-grew
returns-clause-grew g c =
    bound_used g.N.Naming.program _ c.args.cell c.args.to c.bind.result c.args.self.now.pass c.bind.new.pass c.bind.ensures.won c.bind.ensures.already
    c.requires.cell (may_stand g.N.Naming.program c.args.self.now.pass.store.about.words c.args.cell c.args.to c.requires.to c.requires.falls)
    c.bind.ensures.store
    (ap (λ z. z.about) c.args.self.now.of)

pub returns-clause-keeps : goal.returns-clause-keeps
returns-clause-keeps g c =
    let words = ap (λ z. z.about.words) c.bind.ensures.store in
    let at = ap (λ z. z.about.words) c.args.self.now.of in
    subst (λ (n : ℕ). Keeps (seen_by c.args.self.now.pass) (shown n c.bind.new.pass.pass)) (sym words)
    (subst (λ (n : ℕ). Keeps (shown n c.args.self.now.pass.pass) (shown n c.bind.new.pass.pass)) (sym at)
    (bound_keeps g.N.Naming.program _ c.args.cell c.args.to c.bind.result c.args.self.now.pass c.bind.new.pass c.bind.ensures.won c.bind.ensures.already))

pub returns-clause-won : goal.returns-clause-won
returns-clause-won g c =
    let words = ap (λ z. z.about.words) c.bind.ensures.store in
    let at = ap (λ z. z.about.words) c.args.self.now.of in
    λ won. subst (λ (n : ℕ). Sets c.args.cell c.args.to (seen_by c.args.self.now.pass) (shown n c.bind.new.pass.pass)) (sym words)
    (subst (λ (n : ℕ). Sets c.args.cell c.args.to (shown n c.args.self.now.pass.pass) (shown n c.bind.new.pass.pass)) (sym at)
    (bound_sets g.N.Naming.program _ c.args.cell c.args.to c.bind.result c.args.self.now.pass c.bind.new.pass c.bind.ensures.won c.bind.ensures.already won))

pub returns-clause-already : goal.returns-clause-already
returns-clause-already g c =
    let words = ap (λ z. z.about.words) c.bind.ensures.store in
    let at = ap (λ z. z.about.words) c.args.self.now.of in
    λ r is. subst (λ (n : ℕ). Finds g.N.Naming.program c.args.cell r (seen_by c.args.self.now.pass) (shown n c.bind.new.pass.pass)) (sym words)
    (subst (λ (n : ℕ). Finds g.N.Naming.program c.args.cell r (shown n c.args.self.now.pass.pass) (shown n c.bind.new.pass.pass)) (sym at)
    (bound_finds g.N.Naming.program _ c.args.cell c.args.to c.bind.result c.args.self.now.pass c.bind.new.pass c.bind.ensures.won c.bind.ensures.already r is))
