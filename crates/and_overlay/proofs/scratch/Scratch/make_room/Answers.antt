use Rattle.std.proofs.Common.{◌≤◌, ◌∙◌, map, vec_capacity, ap, sym, arith, inl, inr}
use Rattle.and_overlay.proofs.scratch.Scratch.make_room.Goals as goal

pub invariant_of-self-then-room-words : goal.invariant_of-self-then-room-words
invariant_of-self-then-room-words g c =
    let old = c.args.self.now in
    let room : c.make_room-then-room-words.new.self.room ≤ vec_capacity c.reserve.new.self = elim c.make_room-then-room-words.ensures.room [
      | inl same ↦ (let before = old.settings_room in let wider = c.reserve.ensures.capacity in omega arith)
      | inr more ↦ (let enough = c.in_ok-reserve.ensures.ok in let words = more.1 in omega arith)
    ] in record {
      settings_stand = ap (map (λ s. s.place)) c.reserve.ensures.items ∙ old.settings_stand
          ∙ sym c.make_room-then-room-words.ensures.listed;
      settings_room = room;
    }
