use Rattle.std.proofs.Common.{sym, subst}
use Rattle.and_histories.specs.PlainTree.{Holds}
use Rattle.and_tree.specs.Plain.{Placed}
use Rattle.and_tree.proofs.Placing.{held_hand}
use Rattle.and_tree.proofs.places.Places.put_in_place.Goals as goal

pub put_in_place-requires : goal.put_in_place-requires
put_in_place-requires g c =
    held_hand c.self.inside.hands.items c.args.team c.args.key.now c.index_mut.result.now c.index_mut.ensures.value
    (subst (λ (x : Placed). Holds x.state c.args.team c.args.key.now) (sym c.self.view_is) c.requires)
