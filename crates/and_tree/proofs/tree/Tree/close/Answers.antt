use Rattle.std.proofs.Common.{◌∙◌, ap, sym, subst, List, [], ◌∷◌, ◌≡◌, length}
use Rattle.std.specs.Slots.{slots_items}
use Rattle.and_histories.specs.Histories.{HistoryEntry}
use Rattle.and_tree.specs.Counted.{tally}
use Rattle.and_tree.specs.Ended.{Closes, IsGathered, history_in, history_of}
use Rattle.and_tree.specs.Sight.{About, Sight}
use Rattle.and_tree.proofs.Gathered.{closes_so}
use Rattle.and_tree.proofs.tree.Tree.close.Goals as goal

same_view : (v w : Sight) (vs : List Sight) → vs ≡ v ∷ [] → vs ≡ w ∷ [] → w ≡ v
same_view v w vs a b = let e = sym b ∙ a in cc

pub returns : goal.returns
returns g c =
    let ps = c.args.passes in
    let a : About = c.self.inside.table.shared.key in
    let about : a ≡ c.args.self.about = ap (λ z. z.about) c.self.view_is in
    let v : Sight = c.into_seat.result.me.0 in
    let counts = tally c.gather-seat.result.1 in
    let same : v ≡ c.gather-seat.result.0.me.0 =
    same_view c.gather-seat.result.0.me.0 v c.into_badge-badge.result.views c.into_badge-badge.ensures.2 c.into_seat.ensures.2 in
    let gathered : IsGathered a v ps = subst (λ (b : About). IsGathered b v ps) (sym about)
    (subst (λ (v : Sight). IsGathered c.args.self.about v ps) (sym same) c.gather-seat.ensures.gathered) in
    let all : length ps ≡ a.teams = c.requires.all ∙ ap (λ (b : About). b.teams) (sym about) in
    let history : history_of v.members ≡ history_in c.of-last.result.value.views =
    ap history_in (sym c.into_seat.ensures.2 ∙ ap (λ b. b.views) (sym c.of-last.ensures)) in
    subst (λ (l : List HistoryEntry). Closes c.args.self.about ps l counts) history
    (subst (λ (b : About). Closes b ps (history_of v.members) counts) about
    (closes_so g.B.Keyed.key_of g.B.Keyed.Stands a ps _ v (slots_items c.close_with.result.words) (slots_items c.close_with.result.slots) gathered all
    c.close_with.ensures.values.2 counts c.gather-seat.ensures.counts))
