use Rattle.std.proofs.Common.{ap, ◌∙◌, ◌+◌, ◌++◌, ◌∷◌, [], length, reverse, arith}
use Rattle.and_source.specs.Lifted.{renumbered}
use Rattle.and_program.specs.Skeletons.{node_term}
use Rattle.and_program.specs.Nodes.{shapes_of}
use Rattle.and_judging.specs.Outlined.{size_of}
use Rattle.and_clauses.specs.Copies.{numbering_at, numbers_in, tasks_in}
use Rattle.and_clauses.specs.Lifts.{names_under, nodes_under}
use Rattle.and_clauses.specs.declared.lifting.Copying.TheVariants.{Term, Name}
use Rattle.and_clauses.proofs.CopySteps.{first_copied, first_task, last_task, term_turn, name_turn}
use Rattle.and_clauses.proofs.lifting.copied.Goals as goal

pub loop-next-init : goal.loop-next-init
loop-next-init c =
    let ss = nodes_under c.args.lifting in
    let old = shapes_of c.args.nodes.now.items in record {
      copying = first_copied ss (numbering_at c.args.scope) (length c.args.lifting.parts.now) (length (names_under c.args.lifting)) old
          (length old + size_of (node_term ss c.args.root))
          c.args.root (numbers_in c.clear-2.new.self.items) (tasks_in (reverse c.push.new.self.items)) c.requires.there c.requires.own
          c.requires.room.falls c.requires.room.within (omega arith)
          (ap numbers_in c.clear-2.ensures.items)
          (first_task c.clear.new.self.items c.push.new.self.items (Term c.args.root) c.clear.ensures.items c.in_ok-push.ensures.items);
    }

pub loop-next-smaller-in-Continue-branch-2 : goal.loop-next-smaller-in-Continue-branch-2
loop-next-smaller-in-Continue-branch-2 c =
    let ss = nodes_under c.args.lifting in
    let names = names_under c.args.lifting in
    let old = shapes_of c.args.nodes.now.items in
    let popped = last_task c.loop-next.lists.pending.items c.pop.new.self.items (Term c.in-Term.part)
    (c.in-Some.ensures.items ∙ ap (λ t. c.pop.new.self.items ++ t ∷ []) c.in-Term.is) in
    (term_turn names c.args.lifting.parts.now (numbering_at c.args.scope) c.requires.lifting.falls c.requires.lifting.narrow c.requires.lifting.all_named
    old (shapes_of c.loop-next.nodes.items) (shapes_of c.copy_part.new.nodes.items) (length old + size_of (node_term ss c.args.root))
    (numbers_in c.loop-next.lists.finished.items) (numbers_in c.copy_part.new.finished.items) c.in-Term.part
    (tasks_in (reverse c.loop-next.lists.pending.items))
    (tasks_in (reverse c.pop.new.self.items)) (tasks_in (reverse c.copy_part.new.pending.items))
    (renumbered (numbering_at c.args.scope) (node_term ss c.args.root)) popped c.loop-next.invariant.copying c.in_ok-copy_part-in-Term.ensures.copies).less

pub loop-next-preserved-in-Continue-branch-2 : goal.loop-next-preserved-in-Continue-branch-2
loop-next-preserved-in-Continue-branch-2 c =
    let ss = nodes_under c.args.lifting in
    let names = names_under c.args.lifting in
    let old = shapes_of c.args.nodes.now.items in
    let popped = last_task c.loop-next.lists.pending.items c.pop.new.self.items (Term c.in-Term.part)
    (c.in-Some.ensures.items ∙ ap (λ t. c.pop.new.self.items ++ t ∷ []) c.in-Term.is) in record {
      copying = (term_turn names c.args.lifting.parts.now (numbering_at c.args.scope) c.requires.lifting.falls c.requires.lifting.narrow
          c.requires.lifting.all_named
          old (shapes_of c.loop-next.nodes.items) (shapes_of c.copy_part.new.nodes.items) (length old + size_of (node_term ss c.args.root))
          (numbers_in c.loop-next.lists.finished.items) (numbers_in c.copy_part.new.finished.items) c.in-Term.part
          (tasks_in (reverse c.loop-next.lists.pending.items))
          (tasks_in (reverse c.pop.new.self.items)) (tasks_in (reverse c.copy_part.new.pending.items))
          (renumbered (numbering_at c.args.scope) (node_term ss c.args.root)) popped c.loop-next.invariant.copying
          c.in_ok-copy_part-in-Term.ensures.copies).copying;
    }

pub loop-next-preserved : goal.loop-next-preserved
loop-next-preserved c =
    let ss = nodes_under c.args.lifting in
    let new = numbering_at c.args.scope in
    let parts = length c.args.lifting.parts.now in
    let names = length (names_under c.args.lifting) in
    let old = shapes_of c.args.nodes.now.items in
    let most = length old + size_of (node_term ss c.args.root) in
    let whole = renumbered new (node_term ss c.args.root) in
    let popped = last_task c.loop-next.lists.pending.items c.pop.new.self.items (Name c.in-Name.name c.in-Name.count)
    (c.in-Some.ensures.items ∙ ap (λ t. c.pop.new.self.items ++ t ∷ []) c.in-Name.is) in record {
      copying = name_turn ss new parts names old (shapes_of c.loop-next.nodes.items) (shapes_of c.finish_name.new.nodes.items) most
          c.loop-next.lists.finished.items
          c.finish_name.new.finished.items c.in-Name.name.0
          c.in-Name.count (tasks_in (reverse c.loop-next.lists.pending.items)) (tasks_in (reverse c.pop.new.self.items)) whole popped
          c.loop-next.invariant.copying
          c.in_ok-finish_name-in-Name.ensures.nodes c.in_ok-finish_name-in-Name.ensures.finished;
    }
