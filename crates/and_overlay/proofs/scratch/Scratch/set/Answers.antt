use Rattle.std.proofs.Common.{◌∙◌, length, ap, arith}
use Rattle.std.proofs.lemmas.List.{length-map, length_push}
use Rattle.and_overlay.proofs.scratch.Scratch.set.Goals as goal

pub put-requires : goal.put-requires
put-requires g c =
    let few = c.push.ensures.few in
    let listed = ap length c.push.ensures.listed ∙ length_push c.args.self.now.places.listed c.args.setting.place in
    let same = c.push.ensures.room in
    let stand = ap length c.args.self.now.settings_stand in
    let long = length-map c.args.self.now.settings.items (λ s. s.place) in
    let many = c.args.self.now.settings.ok.0 in
    let room = c.args.self.now.settings_room in
    omega arith
