use Rattle.std.proofs.Common.{ap, sym, subst, ◌∙◌, ℕ, ℤ, w64}
use Rattle.std.proofs.lemmas.Int.{to_z-of_z}
use Rattle.and_cells.specs.Seen.{OnlyReads, ReadsNumber}
use Rattle.and_store.specs.Calls.{ReadsPair}
use Rattle.and_store.specs.Sight.{About}
use Rattle.and_store.specs.Worked.{seen_by, shown}
use Rattle.and_store.proofs.Working.{reads_so, pair_reads, reads_used, read_once}
use Rattle.and_store.proofs.store_cells.StoreCellsCells.number.Goals as goal

pub invariant_of-self : goal.invariant_of-self
invariant_of-self g c = record {
  of = c.number.ensures.same.0 ∙ c.args.self.now.of;
  once = read_once g.N.Naming.program _ c.args.pair c.number.result c.args.self.now.pass.pass c.number.new.pass.pass c.number.ensures.read c.args.self.now.once;
}

pub returns-clause-grew : goal.returns-clause-grew
returns-clause-grew g c =
    reads_used g.N.Naming.program c.args.self.now.pass c.number.new.pass c.number.ensures.same.0 c.args.pair c.number.result c.requires.pair
    (subst (λ (a : About). ReadsPair g.N.Naming.program a c.args.pair c.number.result c.args.self.now.pass.pass c.number.new.pass.pass)
    (sym (ap (λ z. z.about) c.args.self.now.of))
    c.number.ensures.read) c.number.ensures.same.1

pub returns-clause-only_reads : goal.returns-clause-only_reads
returns-clause-only_reads g c =
    let words = ap (λ z. z.about.words) c.number.ensures.same.0 in
    let at = ap (λ z. z.about.words) c.args.self.now.of in
    subst (λ (n : ℕ). OnlyReads (seen_by c.args.self.now.pass) (shown n c.number.new.pass.pass)) (sym words)
    (subst (λ (n : ℕ). OnlyReads (shown n c.args.self.now.pass.pass) (shown n c.number.new.pass.pass)) (sym at)
    (pair_reads g.N.Naming.program _ c.args.pair c.number.result c.args.self.now.pass.pass c.number.new.pass.pass c.number.ensures.read))

pub returns-clause-read : goal.returns-clause-read
returns-clause-read g c =
    let words = ap (λ z. z.about.words) c.number.ensures.same.0 in
    let at = ap (λ z. z.about.words) c.args.self.now.of in
    subst (λ (v : ℤ). ReadsNumber g.N.Naming.program c.args.pair v (seen_by c.args.self.now.pass) (seen_by c.number.new.pass))
    (sym (to_z-of_z w64 c.number.result (record { sfits = c.number.type_inv })))
    (subst (λ (n : ℕ). ReadsNumber g.N.Naming.program c.args.pair c.number.result (seen_by c.args.self.now.pass) (shown n c.number.new.pass.pass)) (sym words)
    (subst (λ (n : ℕ). ReadsNumber g.N.Naming.program c.args.pair c.number.result (shown n c.args.self.now.pass.pass) (shown n c.number.new.pass.pass)) (sym at)
    (reads_so g.N.Naming.program _ c.args.pair c.number.result c.args.self.now.pass.pass c.number.new.pass.pass c.number.ensures.read)))
