use Rattle.std.proofs.Common.{List, length, subst}
use Rattle.and_model.specs.declared.numbers.NodeNo.{NodeNo}
use Rattle.and_program.specs.Loaded.{skeleton_of}
use Rattle.and_program.specs.Skeletons.{Shape}
use Rattle.and_lint.specs.Kept.{AreThere}
use Rattle.and_lint.proofs.Steps.{goes_on, there_popped}
use Rattle.and_lint.proofs.walking.next_subterm.Goals as goal

pub push_arguments-requires : goal.push_arguments-requires
push_arguments-requires c =
    let ss : List Shape = (skeleton_of c.args.loaded.now).nodes in
    let both = there_popped (length ss) c.pop.new.self.items c.in-Some.node
    (subst (λ (ns : List NodeNo). AreThere (length ss) ns) c.in-Some.ensures.items c.requires) in
    record { node = both.1; stack = both.0 }

pub returns-in_ok-push_arguments-in-Some : goal.returns-in_ok-push_arguments-in-Some
returns-in_ok-push_arguments-in-Some c =
    let ss : List Shape = (skeleton_of c.args.loaded.now).nodes in
    let both = there_popped (length ss) c.pop.new.self.items c.in-Some.node
    (subst (λ (ns : List NodeNo). AreThere (length ss) ns) c.in-Some.ensures.items c.requires) in (
      both.1,
      c.in_ok-push_arguments-in-Some.ensures.there,
      goes_on ss c.args.left.now.items c.pop.new.self.items c.push_arguments.new.stack.items c.in-Some.node c.in-Some.ensures.items
          c.in_ok-push_arguments-in-Some.ensures.terms,
    )
