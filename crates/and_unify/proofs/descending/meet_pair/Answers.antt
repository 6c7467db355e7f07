use Rattle.std.proofs.Common.{[], ◌∷◌, ◌++◌, refl, ap, ◌∙◌}
use Rattle.and_unify.specs.Turns.{alike, sets}
use Rattle.and_unify.proofs.descending.meet_pair.Goals as goal

pub returns-in-Same-clause-meets : goal.returns-in-Same-clause-meets
returns-in-Same-clause-meets g c = λ list links. (links, alike (c.meet.ensures.same c.in-Same.is) refl refl c.make_room.ensures.items)

pub returns-in-Bound-clause-meets : goal.returns-in-Bound-clause-meets
returns-in-Bound-clause-meets g c = λ list links. (
  links,
  sets c.in-Bound.cell (c.meet.ensures.bound c.in-Bound.cell c.in-Bound.is) refl refl (c.note.ensures
      ∙ ap (λ xs. xs ++ c.in-Bound.cell ∷ []) c.make_room.ensures.items),
)

pub returns-in-Structures-clause-meets : goal.returns-in-Structures-clause-meets
returns-in-Structures-clause-meets g c = (c.meet.ensures.structures c.in-Structures.left c.in-Structures.right c.in-Structures.is, c.make_room.ensures.items)

pub returns-in-Apart-clause-meets : goal.returns-in-Apart-clause-meets
returns-in-Apart-clause-meets g c = (c.meet.ensures.apart c.in-Apart.left c.in-Apart.right c.in-Apart.is, c.make_room.ensures.items)
