use Rattle.std.proofs.Common.{ℕ, ◌≡◌, ◌<◌, ◌≤◌, false, length, subst, arith}
use Rattle.std.specs.Prelude.{All}
use Rattle.std.proofs.lemmas.List.{take_all}
use Rattle.std.proofs.lemmas.List.Elements.{All-contains}
use Rattle.and_model.specs.Store.{is_half}
use Rattle.and_model.specs.declared.reference.Ref.TheVariants.{Cell}
use Rattle.and_cells.specs.Seen.{word_at}
use Rattle.and_cells.specs.Ends.{Ends}
use Rattle.and_unify.specs.Settling.{EndsFrom}
use Rattle.and_unify.proofs.SettlingSeen.{seen_or_explored, ends_above}
use Rattle.and_unify.proofs.settling.bound_end.Goals as goal

pub returns-then-seen-bound-clause-above : goal.returns-then-seen-bound-clause-above
returns-then-seen-bound-clause-above g c = λ is cell listed whole.
    let P = g.N.Naming.program in
    let row = c.args.cells.now in
    let past : length c.args.bound.now ≤ c.in_ok-seen.seen = let all = c.if-seen-bound.true in omega arith in
    let ends = subst (All (EndsFrom P row c.args.floor)) (take_all c.in_ok-seen.seen c.args.bound.now past) c.in_ok-seen.ensures.seen.1 in
    ends_above P row c.args.floor cell (All-contains (EndsFrom P row c.args.floor) c.args.bound.now cell ends listed)

pub returns-clause-below : goal.returns-clause-below
returns-clause-below g c = λ is.
    let P = g.N.Naming.program in
    let row = c.args.cells.now in
    seen_or_explored (EndsFrom P row c.args.floor) (λ (cell : ℕ). cell < c.args.floor → is_half (word_at row cell) ≡ false → Ends P row 0 false (Cell cell))
    c.args.bound.now c.in_ok-seen.seen c.in_ok-seen.ensures.seen.1 (λ cell ends low whole. ends.0 low) (c.explored_from.ensures.below is)

pub returns-clause-above : goal.returns-clause-above
returns-clause-above g c = λ is.
    let P = g.N.Naming.program in
    let row = c.args.cells.now in
    seen_or_explored (EndsFrom P row c.args.floor) (λ (cell : ℕ). is_half (word_at row cell) ≡ false → Ends P row c.args.floor false (Cell cell))
    c.args.bound.now c.in_ok-seen.seen c.in_ok-seen.ensures.seen.1 (λ cell ends whole. ends_above P row c.args.floor cell ends)
    (c.explored_from.ensures.above is)
