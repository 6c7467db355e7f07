use Rattle.std.proofs.Common.{ap, refl, ◌∙◌}
use Rattle.and_pending.specs.declared.watch.Range.{Range}
use Rattle.and_pending.specs.declared.watch.Watch.TheVariants.{Unwatched, One, Two}
use Rattle.and_pending.proofs.CopiedGoals.{copied_alone, copied_listed}
use Rattle.and_pending.proofs.copying.with_cells.Goals as goal

pub returns-in-Unwatched : goal.returns-in-Unwatched
returns-in-Unwatched c = copied_alone c.args.from.now c.args.cells.now.items c.args.pending Unwatched c.in-Unwatched.is (λ l. tt) (λ l m. refl)

pub returns-in-One : goal.returns-in-One
returns-in-One c = copied_alone c.args.from.now c.args.cells.now.items c.args.pending (One c.in-One.cell) c.in-One.is (λ l. tt) (λ l m. refl)

pub returns-in-Two : goal.returns-in-Two
returns-in-Two c =
    copied_alone c.args.from.now c.args.cells.now.items c.args.pending (Two c.in-Two.one c.in-Two.other) c.in-Two.is (λ l. tt) (λ l m. refl)

pub returns-in_ok-moved-in-Listed : goal.returns-in_ok-moved-in-Listed
returns-in_ok-moved-in-Listed c =
    copied_listed c.args.from.now c.args.cells.now.items _ c.extend_from_slice.new.self.items c.args.pending c.in-Listed.range c.in_ok-moved-in-Listed.moved
    c.in-Listed.is refl c.in_ok-extend_from_slice-in-Listed.ensures.items
    (ap (λ (r : Range). r.first) c.in_ok-moved-in-Listed.ensures ∙ c.len-first.ensures ∙ c.args.cells.now.ok.0)
    (ap (λ (r : Range). r.past) c.in_ok-moved-in-Listed.ensures ∙ c.len.ensures ∙ c.extend_from_slice.new.self.ok.0)
