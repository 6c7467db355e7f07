use Rattle.std.proofs.Common.{◌≡◌, ◌∙◌, List, [], ℕ, map, ◌∷◌, length, ap, sym, subst}
use Rattle.std.specs.List.{flat_map}
use Rattle.and_model.specs.Terms.{Term}
use Rattle.and_model.specs.declared.numbers.NodeNo.{NodeNo}
use Rattle.and_program.specs.Loaded.{skeleton_of}
use Rattle.and_program.specs.Skeletons.{Shape, node_term}
use Rattle.std.proofs.Common.{Option}
use Rattle.and_lint.specs.Kept.{Walked, ahead}
use Rattle.and_lint.proofs.Steps.{fewer_ahead, there_alone}
use Rattle.and_model.specs.Terms.{Path}
use Rattle.and_model.specs.Lines.{first_seen}
use Rattle.and_lint.specs.Kept.{unframed, variable_here}
use Rattle.and_lint.proofs.Counts.{first_seen-append, variables_here}
use Rattle.and_lint.proofs.Steps.{ahead_alone}
use Rattle.and_lint.proofs.names.variables_in_order.Goals as goal

pub loop-left-init : goal.loop-left-init
loop-left-init c =
    let ss : List Shape = (skeleton_of c.args.loaded.now).nodes in
    let alone : c.push.new.self.items ≡ c.args.node ∷ [] = rw c.new-left.ensures.items at c.in_ok-push.ensures.items in
    let none : c.new-seen.result.items ≡ [] = c.new-seen.ensures.items in (
      there_alone (length ss) c.push.new.self.items c.args.node alone c.requires,
      ap (λ (ks : List ℕ). first_seen (map unframed ks) (flat_map variable_here (ahead ss c.push.new.self.items))) none
          ∙ ap (λ (ts : List Term). first_seen [] (flat_map variable_here ts)) (ahead_alone ss c.push.new.self.items c.args.node alone)
          ∙ ap (λ (vs : List (Path × ℕ)). first_seen [] vs) (sym (variables_here (node_term ss c.args.node.0))),
    )

pub loop-left-smaller : goal.loop-left-smaller
loop-left-smaller c =
    let ss : List Shape = (skeleton_of c.args.loaded.now).nodes in
    let step = subst (λ (o : Option NodeNo). Walked ss c.loop-left.left.items c.next_subterm.new.left.items o) c.in-Some.is c.in_ok-next.ensures in
    fewer_ahead (ahead ss c.loop-left.left.items) (ahead ss c.next_subterm.new.left.items) (node_term ss c.in-Some.next.0) step.2

pub next_subterm-requires : goal.next_subterm-requires
next_subterm-requires c = c.loop-left.invariant.0

pub loop-left-preserved : goal.loop-left-preserved
loop-left-preserved c =
    let ss : List Shape = (skeleton_of c.args.loaded.now).nodes in
    let step = subst (λ (o : Option NodeNo). Walked ss c.loop-left.left.items c.next_subterm.new.left.items o) c.in-Some.is c.in_ok-next.ensures in
    let rest : List (Path × ℕ) = flat_map variable_here (ahead ss c.next_subterm.new.left.items) in (
      step.1,
      ap (λ (vs : List (Path × ℕ)). first_seen vs rest) c.in_ok-see-in-Some.ensures
          ∙ sym (first_seen-append (map unframed c.loop-left.seen.items) (variable_here (node_term ss c.in-Some.next.0)) rest)
          ∙ sym (ap (λ (ts : List Term). first_seen (map unframed c.loop-left.seen.items) (flat_map variable_here ts)) step.2) ∙ c.loop-left.invariant.1,
    )

pub returns-in-None : goal.returns-in-None
returns-in-None c =
    let ss : List Shape = (skeleton_of c.args.loaded.now).nodes in
    sym (ap (λ (ts : List Term). first_seen (map unframed c.loop-left.seen.items) (flat_map variable_here ts))
    (subst (λ (o : Option NodeNo). Walked ss c.loop-left.left.items c.next_subterm.new.left.items o) c.in-None.is c.in_ok-next.ensures))
    ∙ c.loop-left.invariant.1
