use Rattle.std.proofs.Common.{◌≡◌, ◌∙◌, ◌++◌, List, [], ◌∷◌, ℕ, Option, length, ap, sym, subst, append_assoc, append-nil}
use Rattle.std.specs.List.{flat_map}
use Rattle.and_model.specs.Terms.{Term}
use Rattle.and_model.specs.declared.numbers.NodeNo.{NodeNo}
use Rattle.and_program.specs.Loaded.{skeleton_of}
use Rattle.and_program.specs.Skeletons.{Shape, node_term}
use Rattle.and_lint.specs.Bodies.{number_here}
use Rattle.and_lint.specs.Kept.{Walked, ahead}
use Rattle.and_lint.proofs.Steps.{fewer_ahead, there_alone}
use Rattle.and_lint.proofs.occurring.push_variables.Goals as goal

pub loop-left-init : goal.loop-left-init
loop-left-init c =
    let ss : List Shape = (skeleton_of c.args.loaded.now).nodes in
    let alone : c.push.new.self.items ≡ c.args.node ∷ [] = rw c.new-left.ensures.items at c.in_ok-push.ensures.items in (
      there_alone (length ss) c.push.new.self.items c.args.node alone c.requires,
      ap (λ (ns : List NodeNo). c.args.variables.now.items ++ flat_map number_here (ahead ss ns)) alone,
    )

pub loop-left-smaller : goal.loop-left-smaller
loop-left-smaller c =
    let ss : List Shape = (skeleton_of c.args.loaded.now).nodes in
    let step = subst (λ (o : Option NodeNo). Walked ss c.loop-left.left.items c.next_subterm.new.left.items o) c.in-Some.is c.in_ok-next.ensures in
    fewer_ahead (ahead ss c.loop-left.left.items) (ahead ss c.next_subterm.new.left.items) (node_term ss c.in-Some.next.0) step.2

pub next_subterm-requires : goal.next_subterm-requires
next_subterm-requires c = c.loop-left.invariant.0

pub loop-left-preserved : goal.loop-left-preserved
loop-left-preserved c =
    let ss : List Shape = (skeleton_of c.args.loaded.now).nodes in
    let step = subst (λ (o : Option NodeNo). Walked ss c.loop-left.left.items c.next_subterm.new.left.items o) c.in-Some.is c.in_ok-next.ensures in
    let rest : List ℕ = flat_map number_here (ahead ss c.next_subterm.new.left.items) in (
      step.1,
      ap (λ (vs : List ℕ). vs ++ rest) c.in_ok-push_variable-in-Some.ensures
          ∙ append_assoc c.loop-left.variables.items (number_here (node_term ss c.in-Some.next.0)) rest
          ∙ sym (ap (λ (ts : List Term). c.loop-left.variables.items ++ flat_map number_here ts) step.2) ∙ c.loop-left.invariant.1,
    )

pub returns-in-None : goal.returns-in-None
returns-in-None c =
    let ss : List Shape = (skeleton_of c.args.loaded.now).nodes in
    sym (append-nil c.loop-left.variables.items)
    ∙ sym (ap (λ (ts : List Term). c.loop-left.variables.items ++ flat_map number_here ts)
    (subst (λ (o : Option NodeNo). Walked ss c.loop-left.left.items c.next_subterm.new.left.items o) c.in-None.is c.in_ok-next.ensures))
    ∙ c.loop-left.invariant.1
