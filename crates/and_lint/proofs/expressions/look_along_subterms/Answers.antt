use Rattle.std.proofs.Common.{◌≡◌, List, [], ◌∷◌, length, ap, sym, subst}
use Rattle.std.specs.List.{flat_map}
use Rattle.and_model.specs.Terms.{Term}
use Rattle.and_model.specs.declared.numbers.NodeNo.{NodeNo}
use Rattle.and_program.specs.Loaded.{program_of, skeleton_of}
use Rattle.and_program.specs.Skeletons.{Shape, node_term}
use Rattle.std.proofs.Common.{Option}
use Rattle.and_lint.specs.Kept.{Walked, ahead}
use Rattle.and_lint.proofs.Steps.{fewer_ahead, there_alone}
use Rattle.and_model.specs.Lines.{Bytes}
use Rattle.and_model.specs.Programs.{clause_at}
use Rattle.and_lint.specs.Findings.{no_value_lines_of}
use Rattle.and_lint.specs.Kept.{Comes}
use Rattle.and_lint.specs.Subterms.{subterms}
use Rattle.and_lint.proofs.Adding.{comes_end, comes_first, comes_more}
use Rattle.and_lint.proofs.expressions.look_along_subterms.Goals as goal

pub loop-left-init : goal.loop-left-init
loop-left-init c =
    let ss : List Shape = (skeleton_of c.args.loaded.now).nodes in
    let alone : c.push.new.self.items ≡ c.args.node ∷ [] = rw c.new-left.ensures.items at c.in_ok-push.ensures.items in
    let f : Term → List Bytes = no_value_lines_of (program_of c.args.loaded.now) (clause_at (program_of c.args.loaded.now) c.args.no.0) in
    let all : List Bytes = flat_map f (flat_map subterms (node_term ss c.args.node.0 ∷ [])) in (
      there_alone (length ss) c.push.new.self.items c.args.node alone c.requires.node,
      subst (λ (ns : List NodeNo). Comes c.args.findings.now all c.args.findings.now (flat_map f (ahead ss ns))) (sym alone)
          (comes_first c.args.findings.now all),
    )

pub loop-left-smaller : goal.loop-left-smaller
loop-left-smaller c =
    let ss : List Shape = (skeleton_of c.args.loaded.now).nodes in
    let step = subst (λ (o : Option NodeNo). Walked ss c.loop-left.left.items c.next_subterm.new.left.items o) c.in-Some.is c.in_ok-next.ensures in
    fewer_ahead (ahead ss c.loop-left.left.items) (ahead ss c.next_subterm.new.left.items) (node_term ss c.in-Some.next.0) step.2

pub next_subterm-requires : goal.next_subterm-requires
next_subterm-requires c = c.loop-left.invariant.0

pub loop-left-preserved : goal.loop-left-preserved
loop-left-preserved c =
    let ss : List Shape = (skeleton_of c.args.loaded.now).nodes in
    let step = subst (λ (o : Option NodeNo). Walked ss c.loop-left.left.items c.next_subterm.new.left.items o) c.in-Some.is c.in_ok-next.ensures in
    let f : Term → List Bytes = no_value_lines_of (program_of c.args.loaded.now) (clause_at (program_of c.args.loaded.now) c.args.no.0) in
    let all : List Bytes = flat_map f (flat_map subterms (node_term ss c.args.node.0 ∷ [])) in (
      step.1,
      comes_more c.args.findings.now c.loop-left.findings c.look_at_subterm.new.findings all (flat_map f (ahead ss c.loop-left.left.items))
          (f (node_term ss c.in-Some.next.0)) (flat_map f (ahead ss c.next_subterm.new.left.items)) c.loop-left.invariant.1
          (ap (λ (ts : List Term). flat_map f ts) step.2) c.in_ok-look_at_subterm-in-Some.ensures,
    )

pub returns-in-None : goal.returns-in-None
returns-in-None c =
    let ss : List Shape = (skeleton_of c.args.loaded.now).nodes in
    let f : Term → List Bytes = no_value_lines_of (program_of c.args.loaded.now) (clause_at (program_of c.args.loaded.now) c.args.no.0) in
    comes_end c.args.findings.now c.loop-left.findings (flat_map f (flat_map subterms (node_term ss c.args.node.0 ∷ [])))
    (flat_map f (ahead ss c.loop-left.left.items))
    c.loop-left.invariant.1 (ap (λ (ts : List Term). flat_map f ts)
    (subst (λ (o : Option NodeNo). Walked ss c.loop-left.left.items c.next_subterm.new.left.items o) c.in-None.is c.in_ok-next.ensures))
