use Rattle.std.proofs.Common.{◌∙◌, length, ap, arith, rules}
use Rattle.std.proofs.lemmas.List.{length_push}
use Rattle.std.proofs.Math.ListN.{length-set}
use Rattle.and_overlay.proofs.PlaceLemmas.{asked_of, kept_push}
use Rattle.and_overlay.proofs.places.PlaceList.push.Goals as goal

pub overflow_cast-slot : goal.overflow_cast-slot
overflow_cast-slot c =
    let fits = asked_of c.self.inside.places.items c.self.inside.slots.items _ c.args.place c.args.self.now c.self.view_is
    c.self.invariant c.requires.room c.requires.apart in
    let many = c.self.inside.places.ok.0 in
    let few = c.self.invariant.few in
    let below = fits.2 in
    search rules

pub put-requires : goal.put-requires
put-requires c =
    let fits = asked_of c.self.inside.places.items c.self.inside.slots.items _ c.args.place c.args.self.now c.self.view_is
    c.self.invariant c.requires.room c.requires.apart in
    let many = c.self.inside.places.ok.0 in
    let room = c.self.invariant.room in
    let below = fits.2 in
    omega arith

pub invariant_of-self : goal.invariant_of-self
invariant_of-self c =
    let fits = asked_of c.self.inside.places.items c.self.inside.slots.items _ c.args.place c.args.self.now c.self.view_is
    c.self.invariant c.requires.room c.requires.apart in
    kept_push c.self.inside.places.items c.self.inside.slots.items c.put.new.places.items _ _ c.args.place c.len-slot.result
    c.self.invariant fits.0 fits.1
    c.put.ensures.items (c.len-slot.ensures ∙ c.self.inside.places.ok.0) c.put.ensures.room

pub returns-clause-few : goal.returns-clause-few
returns-clause-few c =
    let fits = asked_of c.self.inside.places.items c.self.inside.slots.items _ c.args.place c.args.self.now c.self.view_is
    c.self.invariant c.requires.room c.requires.apart in
    let below = fits.2 in
    let one_more = ap length c.put.ensures.items ∙ length_push c.self.inside.places.items c.args.place in
    let long = length-set c.self.inside.slots.items c.args.place c.len-slot.result in
    omega arith
