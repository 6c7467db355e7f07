use Rattle.std.proofs.Common.{ap, sym, subst, ◌∙◌, ◌≡◌}
use Rattle.and_model.specs.Prefixes.{IsPrefix}
use Rattle.and_tree.specs.Passes.{Hears, PassSeen}
use Rattle.and_tree.specs.Sight.{mine_of, Sight, hears, note_of}
use Rattle.and_tree.proofs.Dealing.{notes, tells}
use Rattle.and_tree.proofs.Sizes.{live_in}
use Rattle.and_tree.proofs.Telling.{heard, heard_told, pass_of}
use Rattle.and_tree.proofs.tree.Tree.tell.Goals as goal

pub split_seat-note-requires : goal.split_seat-note-requires
split_seat-note-requires g c = (
  ap (λ z. z.tree.table) c.other.view_is ∙ ap (λ z. z.table) c.requires.tree.1 ∙ sym (ap (λ z. z.table) c.self.view_is),
  live_in _ _ _ c.self.invariant,
  notes g.B.Keyed.key_of g.B.Keyed.Stands c.self.inside.table.shared.key c.other.inside.seat.id c.other.inside.seat.me.0 c.other.invariant.1.alone.0,
)

pub join_seat-requires : goal.join_seat-requires
join_seat-requires g c =
    let table = sym (ap (λ z. z.table) c.self.view_is) in
    let note = c.split_seat-note.ensures in (
      ap (λ z. z.tree.table) c.pass.view_is ∙ ap (λ z. z.table) c.requires.tree.0 ∙ table,
      note.3 ∙ ap (λ z. z.tree.table) c.other.view_is ∙ ap (λ z. z.table) c.requires.tree.1 ∙ table,
      ap (λ m. m.1) note.4,
      live_in _ _ _ c.self.invariant,
      tells g.B.Keyed.key_of g.B.Keyed.Stands c.self.inside.table.shared.key c.pass.inside.seat.id c.split_seat-note.result.id c.pass.inside.seat.me.0
          c.split_seat-note.result.me.0 c.pass.invariant.1.alone.0
          (ap (λ (m : _). m.0.members) note.4),
    )

pub returns-clause-told : goal.returns-clause-told
returns-clause-told g c =
    let v = c.pass.inside.seat.me.0 in
    let w = c.learn.new.seat.me.0 in
    let middle : c.join_seat.new.seat.me.0 ≡ hears v c.split_seat-note.result.me.0 = ap (λ m. m.0) c.join_seat.ensures.2 in
    let table = c.learn.ensures.same ∙ c.join_seat.ensures.0 in
    let note : c.split_seat-note.result.me.0 ≡ note_of c.other.inside.seat.me.0 = ap (λ m. m.0) c.split_seat-note.ensures.4 in
    let all = heard c.join_seat.new.seat.me.0 w c.learn.ensures.told.0 c.pass.inside.seat.table_id in (
      subst (λ (p : PassSeen). Hears p (pass_of c.learn.new.seat.table_id w)) c.pass.view_is
          (subst (λ z. Hears (pass_of c.pass.inside.seat.table_id v) (pass_of z w)) (sym table)
          (subst (λ (u : Sight). Hears (pass_of c.pass.inside.seat.table_id u) (pass_of c.pass.inside.seat.table_id w)) middle all)),
      subst (λ (p : PassSeen). IsPrefix p.seen (mine_of w).seen) c.other.view_is
          (subst (λ (u : Sight). IsPrefix u.told (mine_of w).seen) (middle ∙ ap (hears v) note)
          (heard_told c.join_seat.new.seat.me.0 w c.learn.ensures.told.0)),
    )
