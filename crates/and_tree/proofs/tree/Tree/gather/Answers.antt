use Rattle.std.proofs.Common.{◌∙◌, ◌++◌, ◌∷◌, [], ap, sym, subst, append_assoc, append-nil}
use Rattle.and_tree.specs.Counted.{tally}
use Rattle.and_tree.specs.Ended.{IsGathered, tally_of_all}
use Rattle.and_tree.specs.Plain.{Tally, added}
use Rattle.and_tree.specs.Sight.{About, Sight}
use Rattle.and_tree.proofs.Dealing.{gathers}
use Rattle.and_tree.proofs.Gathered.{gathers_one, gathers_on, of_tree, keeps_count}
use Rattle.and_tree.proofs.Sizes.{live_in}
use Rattle.and_tree.proofs.Tallies.{added_turned, tally_of_one}
use Rattle.and_tree.proofs.tree.Tree.gather.Goals as goal

pub join_seat-requires : goal.join_seat-requires
join_seat-requires g c =
    let table = sym (ap (λ z. z.table) c.self.view_is) in
    let i = c.loop-pass.invariant in
    let of = of_tree c.args.self.now c.args.passes c.loop-pass.passes c.pop-in-loop-pass.new.self i.2.0 c.in-Some-pop.pass c.requires.tree i.2.1
    c.in-Some-pop.ensures.last in (
      ap (λ z. z.tree.table) c.pass.view_is ∙ ap (λ z. z.table) of ∙ table,
      i.0 ∙ table,
      i.1,
      live_in _ _ _ c.self.invariant,
      gathers g.B.Keyed.key_of g.B.Keyed.Stands c.self.inside.table.shared.key c.pass.inside.seat.id c.loop-pass.all.id c.pass.inside.seat.me.0
          c.loop-pass.all.me.0 c.pass.invariant.1.alone.0,
    )

pub loop-pass-init : goal.loop-pass-init
loop-pass-init g c =
    let of = of_tree c.args.self.now c.args.passes c.args.passes c.pop.new.self [] c.in-Some.last c.requires.tree (sym (append-nil c.args.passes))
    c.in-Some.ensures.last in
    let view = c.all.view_is in (
      ap (λ z. z.tree.table) view ∙ ap (λ z. z.table) of,
      c.all.invariant.0,
      (
        c.in-Some.last ∷ [],
        c.in-Some.ensures.last,
        gathers_one c.args.self.now.about c.all.inside.seat.me.0 c.in-Some.last (ap (λ z. z.tree.about) view ∙ ap (λ z. z.about) of) c.all.invariant.1.alone.0
            (ap (λ z. z.team) view) (ap (λ z. z.seen) view),
        keeps_count c.all.inside.seat.table_id c.all.inside.seat.me.0 c.all.inside.team (tally c.all.inside.counts) c.in-Some.last c.all.invariant.1 view
            ∙ tally_of_one c.in-Some.last,
      ),
    )

pub loop-pass-preserved : goal.loop-pass-preserved
loop-pass-preserved g c =
    let i = c.loop-pass.invariant in
    let p = c.in-Some-pop.pass in
    let view = c.pass.view_is in
    let of = of_tree c.args.self.now c.args.passes c.loop-pass.passes c.pop-in-loop-pass.new.self i.2.0 p c.requires.tree i.2.1 c.in-Some-pop.ensures.last in
    let a : About = c.args.self.now.about in
    let own = gathers_one a c.pass.inside.seat.me.0 p (ap (λ z. z.tree.about) view ∙ ap (λ z. z.about) of) c.pass.invariant.1.alone.0 (ap (λ z. z.team) view)
    (ap (λ z. z.seen) view) in
    let both = gathers_on a c.pass.inside.seat.me.0 c.loop-pass.all.me.0 p i.2.0 own i.2.2 in
    let count = keeps_count c.pass.inside.seat.table_id c.pass.inside.seat.me.0 c.pass.inside.team (tally c.pass.inside.counts) p c.pass.invariant.1 view in
    let now = c.join_seat.ensures in (
      now.0 ∙ ap (λ z. z.tree.table) view ∙ ap (λ z. z.table) of,
      ap (λ m. m.1) now.2 ∙ c.pass.invariant.0,
      (
        p ∷ i.2.0,
        i.2.1 ∙ ap (λ l. l ++ i.2.0) c.in-Some-pop.ensures.last ∙ append_assoc c.pop-in-loop-pass.new.self (p ∷ []) i.2.0,
        subst (λ (v : Sight). IsGathered a v (p ∷ i.2.0)) (sym (ap (λ m. m.0) now.2)) both,
        c.add.ensures ∙ ap (λ (t : Tally). added t (tally c.pass.inside.counts)) i.2.3 ∙ ap (added (tally_of_all i.2.0)) count
            ∙ added_turned (tally_of_all i.2.0) _,
      ),
    )
