use Rattle.std.proofs.Common.{ap, refl, sym, subst, ◌∙◌, ◌≡◌, ℕ, List, Option, ◌∷◌, [], Some}
use Rattle.atomic_table.specs.Table.{rest}
use Rattle.and_histories.specs.PlainTree.{publish}
use Rattle.and_tree.specs.Sight.{mine_of, Sight}
use Rattle.and_tree.specs.Told.{CanCall, CallTold}
use Rattle.and_tree.proofs.Sizes.{key_in_slot}
use Rattle.and_tree.proofs.tree.Tree.put_in.Goals as goal

pub open_cell-requires-clause-can : goal.open_cell-requires-clause-can
open_cell-requires-clause-can g c =
    let K = g.B.Keyed.key_of in
    let me = c.args.seat.now.me in
    let is : c.exchange-empty.new.seat.me ≡ (me.0, (c.args.cell, Some c.args.branch) ∷ []) =
    c.exchange-empty.ensures.3 ∙ ap (λ l. (me.0, (c.args.cell, Some c.args.branch) ∷ rest l)) c.requires.slot in
    subst (λ (m : Sight × List (ℕ × Option _)). CanCall c.args.self.now.about m.0 (publish (mine_of m.0).team c.args.cell (key_in_slot K m.1)))
    (sym is) c.requires.can

pub open_cell-requires-clause-branch : goal.open_cell-requires-clause-branch
open_cell-requires-clause-branch g c =
    let K = g.B.Keyed.key_of in
    let me = c.args.seat.now.me in
    let is : c.exchange-empty.new.seat.me ≡ (me.0, (c.args.cell, Some c.args.branch) ∷ []) =
    c.exchange-empty.ensures.3 ∙ ap (λ l. (me.0, (c.args.cell, Some c.args.branch) ∷ rest l)) c.requires.slot in (
      key_in_slot K c.exchange-empty.new.seat.me.1,
      refl,
      record { branch = c.args.branch; slots_are = ap (λ m. m.1) is; stands = c.requires.stands; key_is = sym (ap (λ m. key_in_slot K m.1) is) },
    )

pub returns-clause-told : goal.returns-clause-told
returns-clause-told g c =
    let K = g.B.Keyed.key_of in
    let me = c.args.seat.now.me in
    let is : c.exchange-empty.new.seat.me ≡ (me.0, (c.args.cell, Some c.args.branch) ∷ []) =
    c.exchange-empty.ensures.3 ∙ ap (λ l. (me.0, (c.args.cell, Some c.args.branch) ∷ rest l)) c.requires.slot in
    let told = c.open_cell.ensures.told in (
      told.0,
      subst (λ (m : Sight × List (ℕ × Option _)). CallTold (publish (mine_of m.0).team c.args.cell (key_in_slot K m.1)) m.0 told.0
          c.open_cell.new.seat.me.0) is told.1,
      told.2,
    )
