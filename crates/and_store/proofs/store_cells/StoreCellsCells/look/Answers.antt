use Rattle.std.proofs.Common.{ap, sym, subst, ◌∙◌, ℕ}
use Rattle.and_cells.specs.Seen.{OnlyReads, Finds, Misses}
use Rattle.and_store.specs.Calls.{LooksAt}
use Rattle.and_store.specs.Sight.{About}
use Rattle.and_store.specs.Worked.{seen_by, shown}
use Rattle.and_store.proofs.Working.{looks_once, looks_reads, looks_used, finds_so, misses_so}
use Rattle.and_store.proofs.store_cells.StoreCellsCells.look.Goals as goal

pub invariant_of-self : goal.invariant_of-self
invariant_of-self g c = record {
  of = c.look.ensures.same.0 ∙ c.args.self.now.of;
  once = looks_once g.N.Naming.program _ c.args.cell c.look.result c.args.self.now.pass.pass c.look.new.pass.pass c.look.ensures.looks c.args.self.now.once;
}

pub returns-clause-grew : goal.returns-clause-grew
returns-clause-grew g c =
    looks_used g.N.Naming.program c.args.self.now.pass c.look.new.pass c.look.ensures.same.0 c.args.cell c.look.result c.requires
    (subst (λ (a : About). LooksAt g.N.Naming.program a c.args.cell c.look.result c.args.self.now.pass.pass c.look.new.pass.pass)
    (sym (ap (λ z. z.about) c.args.self.now.of))
    c.look.ensures.looks) c.look.ensures.same.1

pub returns-clause-only_reads : goal.returns-clause-only_reads
returns-clause-only_reads g c =
    let words = ap (λ z. z.about.words) c.look.ensures.same.0 in
    let at = ap (λ z. z.about.words) c.args.self.now.of in
    subst (λ (n : ℕ). OnlyReads (seen_by c.args.self.now.pass) (shown n c.look.new.pass.pass)) (sym words)
    (subst (λ (n : ℕ). OnlyReads (shown n c.args.self.now.pass.pass) (shown n c.look.new.pass.pass)) (sym at)
    (looks_reads g.N.Naming.program _ c.args.cell c.look.result c.args.self.now.pass.pass c.look.new.pass.pass c.look.ensures.looks))

pub returns-clause-found : goal.returns-clause-found
returns-clause-found g c =
    let words = ap (λ z. z.about.words) c.look.ensures.same.0 in
    let at = ap (λ z. z.about.words) c.args.self.now.of in
    λ some_found. subst (λ (n : ℕ). Finds g.N.Naming.program c.args.cell c.look.result (seen_by c.args.self.now.pass) (shown n c.look.new.pass.pass))
    (sym words)
    (subst (λ (n : ℕ). Finds g.N.Naming.program c.args.cell c.look.result (shown n c.args.self.now.pass.pass) (shown n c.look.new.pass.pass)) (sym at)
    (finds_so g.N.Naming.program _ c.args.cell c.look.result c.args.self.now.pass.pass c.look.new.pass.pass c.look.ensures.looks some_found))

pub returns-clause-free : goal.returns-clause-free
returns-clause-free g c =
    let words = ap (λ z. z.about.words) c.look.ensures.same.0 in
    let at = ap (λ z. z.about.words) c.args.self.now.of in
    λ free. subst (λ (n : ℕ). Misses c.args.self.now.pass.store.about.words c.args.cell (seen_by c.args.self.now.pass) (shown n c.look.new.pass.pass))
    (sym words)
    (subst (λ (n : ℕ). Misses n c.args.cell (shown n c.args.self.now.pass.pass) (shown n c.look.new.pass.pass)) (sym at)
    (misses_so g.N.Naming.program _ c.args.cell c.look.result c.args.self.now.pass.pass c.look.new.pass.pass c.look.ensures.looks free))
