use Rattle.std.proofs.Common.{[], ◌∷◌, ◌++◌, refl, ap, ◌∙◌}
use Rattle.and_cells.specs.Parts.{named}
use Rattle.and_unify.specs.Turns.{sets}
use Rattle.and_unify.proofs.TurnArguments.{one_shape, steps_down}
use Rattle.and_unify.proofs.stepping.step.Goals as goal

pub descend-requires : goal.descend-requires
descend-requires g c =
    one_shape g.C.Cells.program (named c.args.loaded.now) c.args.pair.left c.args.pair.right c.in-Structures.left c.in-Structures.right
    (g.C.Cells.seen c.args.cells.now) (g.C.Cells.seen c.meet.new.cells)
    c.requires.program (c.meet.ensures.structures c.in-Structures.left c.in-Structures.right c.in-Structures.is)

pub returns-in-Bound-clause-done : goal.returns-in-Bound-clause-done
returns-in-Bound-clause-done g c = λ is. sets c.in-Bound.cell (c.meet.ensures.bound c.in-Bound.cell c.in-Bound.is) refl refl (c.note.ensures
    ∙ ap (λ xs. xs ++ c.in-Bound.cell ∷ []) c.make_room.ensures.items)

pub returns-in-Structures-clause-done : goal.returns-in-Structures-clause-done
returns-in-Structures-clause-done g c = λ is.
    steps_down g.C.Cells.program (named c.args.loaded.now) c.args.pair c.in-Structures.left c.in-Structures.right (g.C.Cells.seen c.args.cells.now)
    (g.C.Cells.seen c.meet.new.cells)
    c.args.classes.now c.descend.new.classes c.args.list.now c.descend.new.list c.args.bound.now.items c.make_room.new.list.items
    c.requires.program (c.meet.ensures.structures c.in-Structures.left c.in-Structures.right c.in-Structures.is) c.make_room.ensures.items
    (c.descend.ensures.done is)

pub returns-in-Structures-clause-stopped : goal.returns-in-Structures-clause-stopped
returns-in-Structures-clause-stopped g c =
    λ is. ((c.meet.ensures.structures c.in-Structures.left c.in-Structures.right c.in-Structures.is).lead.reads, c.make_room.ensures.items)

pub returns-in-Apart-clause-apart : goal.returns-in-Apart-clause-apart
returns-in-Apart-clause-apart g c = λ one other is. c.meet.ensures.apart one other (cc)

pub returns-in-Apart-clause-stopped : goal.returns-in-Apart-clause-stopped
returns-in-Apart-clause-stopped g c = λ is. ((c.meet.ensures.apart c.in-Apart.left c.in-Apart.right c.in-Apart.is).lead.reads, c.make_room.ensures.items)
