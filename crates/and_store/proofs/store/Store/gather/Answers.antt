use Rattle.std.proofs.Common.{◌∙◌, ap, sym, subst, ◌++◌, ◌∷◌, [], append_assoc}
use Rattle.and_store.specs.Ended.{IsGathered}
use Rattle.and_store.specs.Sight.{About, Sight}
use Rattle.and_store.proofs.Dealing.{gathers}
use Rattle.and_store.proofs.Gathered.{gathers_on, from_store}
use Rattle.and_store.proofs.Sizes.{table_some}
use Rattle.and_store.proofs.store.Store.gather.Goals as goal

pub join_seat-requires : goal.join_seat-requires
join_seat-requires g c =
    let table = sym (ap (λ z. z.table) c.self.view_is) in
    let i = c.loop-pass.invariant in
    let of = from_store c.args.self.now c.args.passes c.loop-pass.passes c.pop-in-loop-pass.new.self i.2.0 c.in-Some-pop.pass c.requires.store i.2.1
    c.in-Some-pop.ensures.last in
    let seat = c.into_seat-seat.ensures in (
      seat.table.0 ∙ ap (λ z. z.table) of ∙ table,
      i.0 ∙ table,
      i.1,
      table_some _ _ _ _ _ _ c.self.invariant,
      gathers g.N.Naming.program c.self.inside.table.shared.key _ _ c.into_seat-seat.result.me.0 c.loop-pass.all.me.0 seat.alone.0 seat.alone.1,
    )

pub loop-pass-preserved : goal.loop-pass-preserved
loop-pass-preserved g c =
    let i = c.loop-pass.invariant in
    let of = from_store c.args.self.now c.args.passes c.loop-pass.passes c.pop-in-loop-pass.new.self i.2.0 c.in-Some-pop.pass c.requires.store i.2.1
    c.in-Some-pop.ensures.last in
    let seat = c.into_seat-seat.ensures in
    let a : About = c.args.self.now.about in
    let own : IsGathered a c.into_seat-seat.result.me.0 (c.in-Some-pop.pass ∷ []) =
    subst (λ (b : About). IsGathered b c.into_seat-seat.result.me.0 (c.in-Some-pop.pass ∷ [])) (ap (λ z. z.about) of) seat.gathered in
    let both = gathers_on a c.into_seat-seat.result.me.0 c.loop-pass.all.me.0 c.in-Some-pop.pass i.2.0 own i.2.2 in
    let now = c.join_seat.ensures in (
      now.0 ∙ seat.table.0 ∙ ap (λ z. z.table) of,
      ap (λ m. m.1) now.2 ∙ seat.table.1,
      (
        c.in-Some-pop.pass ∷ i.2.0,
        i.2.1 ∙ ap (λ l. l ++ i.2.0) c.in-Some-pop.ensures.last ∙ append_assoc c.pop-in-loop-pass.new.self (c.in-Some-pop.pass ∷ []) i.2.0,
        subst (λ (v : Sight). IsGathered a v (c.in-Some-pop.pass ∷ i.2.0)) (sym (ap (λ m. m.0) now.2)) both,
      ),
    )
