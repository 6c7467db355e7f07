use Rattle.std.proofs.Common.{◌+◌, ◌≡◌, ◌<◌, ◌++◌, ◌∷◌, [], List, ℕ, length, take, get_or, sym, ap, subst, arith}
use Rattle.std.proofs.lemmas.List.{take_more, take_all, get_or_default}
use Rattle.std.proofs.lemmas.List.Elements.{All-contains}
use Rattle.and_model.specs.declared.reference.Ref.{Ref}
use Rattle.and_determinacy.specs.Watching.{AreListed}
use Rattle.and_determinacy.proofs.Told.{nothing_listed, past_listed, one_listed}
use Rattle.and_determinacy.proofs.rests.list_below.Goals as goal
use Rattle.and_determinacy.proofs.rests.list_below.Goals.{then-cell-floor+in_ok-list_cell+in_ok-follow_cell, else-cell-floor}

pub loop-cell-init : goal.loop-cell-init
loop-cell-init g c =
    nothing_listed g.N.Naming.program c.args.cells.now c.args.floor c.args.visits.now.items c.args.out.now.items c.requires.empty

pub follow_cell-requires-clause-in_range : goal.follow_cell-requires-clause-in_range
follow_cell-requires-clause-in_range g c =
    let bound = c.args.bound.now in
    let i = c.loop-cell.cell-index in
    let cell : ℕ = get_or bound i 0 in
    let low : i < length bound = omega arith in
    All-contains (λ (x : ℕ). x < length c.args.cells.now) bound cell c.requires.in_row (i, low, sym (get_or_default bound i 0 cell low))

pub loop-cell-preserved : goal.loop-cell-preserved
loop-cell-preserved g c =
    let P = g.N.Naming.program in
    let row = c.args.cells.now in
    let bound = c.args.bound.now in
    let floor = c.args.floor in
    let first = c.args.out.now.items in
    let i = c.loop-cell.cell-index in
    let cell : ℕ = get_or bound i 0 in
    let low : i < length bound = omega arith in
    let more : take (i + 1) bound ≡ take i bound ++ cell ∷ [] = take_more bound i 0 low in
    let visits = c.loop-cell.visits.items in
    let out = c.loop-cell.out.items in
    let are = c.loop-cell.invariant in
    subst (λ (bs : List ℕ). AreListed P row bs floor c.if-cell-floor.visits.items first c.if-cell-floor.out.items) (sym more) (elim c.if-cell-floor.branch [
      | then-cell-floor+in_ok-list_cell+in_ok-follow_cell w ↦
          subst (λ (rs : List Ref). AreListed P row (take i bound ++ cell ∷ []) floor rs first c.if-cell-floor.out.items) (sym (ap (λ v. v.items) w.visits-is))
          (subst (λ (xs : List ℕ). AreListed P row (take i bound ++ cell ∷ []) floor w.follow_cell.new.visits.items first xs)
          (sym (ap (λ v. v.items) w.out-is))
          (one_listed P row floor (take i bound) visits first out are cell w.list_cell.new.out.items w.follow_cell.new.out.items
          w.follow_cell.new.visits.items w.in_ok-list_cell.ensures w.in_ok-follow_cell.ensures))
      | else-cell-floor w ↦
          subst (λ (rs : List Ref). AreListed P row (take i bound ++ cell ∷ []) floor rs first c.if-cell-floor.out.items) (sym (ap (λ v. v.items) w.visits-is))
          (subst (λ (xs : List ℕ). AreListed P row (take i bound ++ cell ∷ []) floor visits first xs) (sym (ap (λ v. v.items) w.out-is))
          (past_listed P row floor (take i bound) visits first out are cell w.if-cell-floor.false))
    ])

pub returns : goal.returns
returns g c =
    let bound = c.args.bound.now in
    let all : take c.loop-cell.cell-index bound ≡ bound = take_all c.loop-cell.cell-index bound (omega arith) in
    subst (λ (bs : List ℕ). AreListed g.N.Naming.program c.args.cells.now bs c.args.floor c.loop-cell.visits.items c.args.out.now.items
    c.loop-cell.out.items) all c.loop-cell.invariant
