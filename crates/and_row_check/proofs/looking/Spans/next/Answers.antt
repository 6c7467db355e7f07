use Rattle.std.proofs.Common.{ℕ, ◌≡◌, length, sym, subst, ◌∙◌}
use Rattle.and_program.specs.Loaded.{skeleton_of}
use Rattle.and_program.specs.Skeletons.{node_term}
use Rattle.and_row_check.specs.Places.{AreBelow}
use Rattle.and_row_check.proofs.Bounds.{all_below}
use Rattle.and_row_check.proofs.looking.Spans.next.Goals as goal

pub returns-in-Compound : goal.returns-in-Compound
returns-in-Compound c =
    let nodes = (skeleton_of c.args.loaded.now).nodes in
    let place : c.len.result ≡ length c.args.self.now.spans.items = c.len.ensures ∙ c.args.self.now.spans.ok.0 in
    subst (λ (n : ℕ). AreBelow c.most.result (node_term nodes n)) place
    (all_below (node_term nodes c.len.result) c.in-Compound.name c.in-Compound.count c.most.result (sym c.in-Compound.ensures.term) c.most.ensures)
