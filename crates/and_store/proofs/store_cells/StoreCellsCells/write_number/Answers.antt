use Rattle.std.proofs.Common.{ap, sym, subst, ◌∙◌, ℕ, ℤ, w64, FitsSigned, to_z, of_z}
use Rattle.std.proofs.lemmas.Int.{to_z-of_z}
use Rattle.and_store.specs.Calls.{WritesPair}
use Rattle.and_model.specs.Store.{Pass}
use Rattle.and_cells.specs.Ranges.{NamedProgram}
use Rattle.and_cells.specs.Seen.{Keeps, WritesNumber}
use Rattle.and_cells.proofs.Chains.{writes_keeps, writes_known}
use Rattle.and_store.specs.Sight.{About}
use Rattle.and_store.specs.Worked.{seen_by, shown}
use Rattle.and_store.proofs.Working.{writes_so, writes_used, pair_once}
use Rattle.and_store.proofs.store_cells.StoreCellsCells.write_number.Goals as goal

is_written : (P : NamedProgram) (a : About) (pair : ℕ) (value result : ℤ) (p q : Pass) → FitsSigned w64 value
    → WritesPair P a pair (to_z w64 (of_z w64 value)) result p q → WritesPair P a pair value result p q
is_written P a pair value result p q fits w = subst (λ (v : ℤ). WritesPair P a pair v result p q) (to_z-of_z w64 value fits) w

pub invariant_of-self : goal.invariant_of-self
invariant_of-self g c = record {
  of = c.write_number.ensures.same.0 ∙ c.args.self.now.of;
  once = pair_once g.N.Naming.program _ c.args.pair c.args.value c.write_number.result c.args.self.now.pass.pass c.write_number.new.pass.pass
      (is_written g.N.Naming.program _ c.args.pair c.args.value c.write_number.result c.args.self.now.pass.pass c.write_number.new.pass.pass c.ranges.value
      c.write_number.ensures.written) c.args.self.now.once;
}

pub returns-clause-grew : goal.returns-clause-grew
returns-clause-grew g c =
    writes_used g.N.Naming.program c.args.self.now.pass c.write_number.new.pass c.write_number.ensures.same.0 c.args.pair c.args.value
    c.write_number.result c.requires
    (subst (λ (a : About). WritesPair g.N.Naming.program a c.args.pair c.args.value c.write_number.result c.args.self.now.pass.pass
    c.write_number.new.pass.pass)
    (sym (ap (λ z. z.about) c.args.self.now.of))
    (is_written g.N.Naming.program _ c.args.pair c.args.value c.write_number.result c.args.self.now.pass.pass c.write_number.new.pass.pass c.ranges.value
    c.write_number.ensures.written)) c.write_number.ensures.same.1

pub returns-clause-written : goal.returns-clause-written
returns-clause-written g c =
    let words = ap (λ z. z.about.words) c.write_number.ensures.same.0 in
    let at = ap (λ z. z.about.words) c.args.self.now.of in
    subst (λ (r : ℤ). WritesNumber g.N.Naming.program c.args.pair c.args.value r (seen_by c.args.self.now.pass) (seen_by c.write_number.new.pass))
    (sym (to_z-of_z w64 c.write_number.result (record { sfits = c.write_number.type_inv })))
    (subst (λ (n : ℕ). WritesNumber g.N.Naming.program c.args.pair c.args.value c.write_number.result (seen_by c.args.self.now.pass)
    (shown n c.write_number.new.pass.pass)) (sym words)
    (subst (λ (n : ℕ). WritesNumber g.N.Naming.program c.args.pair c.args.value c.write_number.result (shown n c.args.self.now.pass.pass)
    (shown n c.write_number.new.pass.pass)) (sym at)
    (writes_so g.N.Naming.program _ c.args.pair c.args.value c.write_number.result c.args.self.now.pass.pass c.write_number.new.pass.pass
    (is_written g.N.Naming.program _ c.args.pair c.args.value c.write_number.result c.args.self.now.pass.pass c.write_number.new.pass.pass c.ranges.value
    c.write_number.ensures.written) c.ranges.value)))

pub returns-clause-keeps : goal.returns-clause-keeps
returns-clause-keeps g c =
    let words = ap (λ z. z.about.words) c.write_number.ensures.same.0 in
    let at = ap (λ z. z.about.words) c.args.self.now.of in
    subst (λ (n : ℕ). Keeps (seen_by c.args.self.now.pass) (shown n c.write_number.new.pass.pass)) (sym words)
    (subst (λ (n : ℕ). Keeps (shown n c.args.self.now.pass.pass) (shown n c.write_number.new.pass.pass)) (sym at)
    (writes_keeps g.N.Naming.program c.args.pair c.args.value c.write_number.result _ _
    (writes_so g.N.Naming.program _ c.args.pair c.args.value c.write_number.result c.args.self.now.pass.pass c.write_number.new.pass.pass
    (is_written g.N.Naming.program _ c.args.pair c.args.value c.write_number.result c.args.self.now.pass.pass c.write_number.new.pass.pass c.ranges.value
    c.write_number.ensures.written) c.ranges.value)))

pub returns-clause-known : goal.returns-clause-known
returns-clause-known g c =
    writes_known g.N.Naming.program c.args.pair c.args.value c.write_number.result _ _
    (writes_so g.N.Naming.program _ c.args.pair c.args.value c.write_number.result c.args.self.now.pass.pass c.write_number.new.pass.pass
    (is_written g.N.Naming.program _ c.args.pair c.args.value c.write_number.result c.args.self.now.pass.pass c.write_number.new.pass.pass c.ranges.value
    c.write_number.ensures.written) c.ranges.value)
