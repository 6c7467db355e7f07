use Rattle.std.proofs.Common.{◌≡◌, refl, sym, subst, ◌∙◌}
use Rattle.std.proofs.lemmas.Option.{same_Some}
use Rattle.and_model.specs.Terms.{Term, apply}
use Rattle.and_program.specs.Skeletons.{node_term}
use Rattle.and_program.specs.Shown.{shown_term}
use Rattle.and_cells.proofs.Chains.{reads_more}
use Rattle.and_cells.specs.Ranges.{IsNodeInRange, IsInRangeOrHalf}
use Rattle.and_branch_laws.specs.Variables.{placed}
use Rattle.and_clause_index.specs.Looks.{MayBe}
use Rattle.and_clause_index.specs.Prints.{mark, argument_kind, Tells}
use Rattle.and_clause_index.proofs.Glimpses.{fits_tells, seen_before}
use Rattle.and_clause_index.proofs.looking.end_glimpse.Goals as goal

pub known_mark-first-requires-clause-node : goal.known_mark-first-requires-clause-node
known_mark-first-requires-clause-node g c =
    let range = subst (IsInRangeOrHalf g.C.Cells.program (g.C.Cells.seen c.args.cells.now).words) c.in-Node.is c.requires.in_range in
    subst (λ n. IsNodeInRange g.C.Cells.program n c.in-Node.node.0 c.in-Node.base) (sym c.kind_of-kind.ensures.reads.words) range.0

pub known_mark-second-requires-clause-node : goal.known_mark-second-requires-clause-node
known_mark-second-requires-clause-node g c =
    let range = subst (IsInRangeOrHalf g.C.Cells.program (g.C.Cells.seen c.args.cells.now).words) c.in-Node.is c.requires.in_range in
    subst (λ n. IsNodeInRange g.C.Cells.program n c.in-Node.node.0 c.in-Node.base)
    (sym (c.known_mark-first.ensures.reads.words ∙ c.kind_of-kind.ensures.reads.words)) range.0

pub returns-in-Node-clause-grew : goal.returns-in-Node-clause-grew
returns-in-Node-clause-grew g c =
    let kind = c.kind_of-kind.new.cells in
    let first = c.known_mark-first.new.cells in
    g.met.C.Cells.grew_on c.args.cells.now first c.known_mark-second.new.cells
    (g.met.C.Cells.grew_on c.args.cells.now kind first c.kind_of-kind.ensures.grew c.known_mark-first.ensures.grew) c.known_mark-second.ensures.grew

pub returns-in-Node-clause-reads : goal.returns-in-Node-clause-reads
returns-in-Node-clause-reads g c =
    let old = g.C.Cells.seen c.args.cells.now in
    let kind = g.C.Cells.seen c.kind_of-kind.new.cells in
    let first = g.C.Cells.seen c.known_mark-first.new.cells in
    reads_more old first (g.C.Cells.seen c.known_mark-second.new.cells)
    (reads_more old kind first c.kind_of-kind.ensures.reads c.known_mark-first.ensures.reads) c.known_mark-second.ensures.reads

pub returns-in-Node-clause-glimpse : goal.returns-in-Node-clause-glimpse
returns-in-Node-clause-glimpse g c = λ row has s t solves may.
    let P = g.C.Cells.program in
    let node = c.in-Node.node in
    let base = c.in-Node.base in
    let kind = c.kind_of-kind.result in
    let first = g.C.Cells.seen c.known_mark-first.new.cells in
    let after_first = seen_before first (g.C.Cells.seen c.known_mark-second.new.cells) row c.known_mark-second.ensures.reads has in
    let after_kind = seen_before (g.C.Cells.seen c.kind_of-kind.new.cells) first row c.known_mark-first.ensures.reads after_first in
    let fits = c.kind_of-kind.ensures.fits row after_kind s t may in
    let same : apply s (placed base (node_term P.skeleton.nodes node.0)) ≡ t =
    same_Some (apply s (placed base (node_term P.skeleton.nodes node.0))) t (subst (λ r. MayBe P row s r t) c.in-Node.is may refl) in
    record {
      kind = fits;
      own = subst (λ m. Tells m (mark (shown_term t))) (sym c.mark_of-own.ensures) (fits_tells kind t fits);
      first = subst (λ (u : Term). Tells c.known_mark-first.result (mark (argument_kind u 0))) same
          (c.known_mark-first.ensures.tells row after_first s solves);
      second = subst (λ (u : Term). Tells c.known_mark-second.result (mark (argument_kind u 1))) same
          (c.known_mark-second.ensures.tells row has s solves);
    }

pub returns-in_default-clause-glimpse : goal.returns-in_default-clause-glimpse
returns-in_default-clause-glimpse g c = λ row has s t solves may.
    let kind = c.kind_of-kind.result in
    let fits = c.kind_of-kind.ensures.fits row has s t may in
    record {
      kind = fits;
      own = subst (λ m. Tells m (mark (shown_term t))) (sym c.mark_of-own.ensures) (fits_tells kind t fits);
      first = λ some. absurd (some refl);
      second = λ some. absurd (some refl);
    }
