use Rattle.std.proofs.Common.{ℕ, ◌≡◌, ◌<◌, refl, arith}
use Rattle.and_model.specs.declared.reference.Ref.{Ref}
use Rattle.and_model.specs.declared.reference.Ref.TheVariants.{Cell}
use Rattle.and_cells.specs.Rows.{plain}
use Rattle.and_heads.proofs.Filling.{leads_at_once, filled}
use Rattle.and_heads.proofs.arguments.link.Goals as goal

-- A cell below another falls to it.
falls : (from cell : ℕ) → from < cell → (other : ℕ) → Cell from ≡ Cell other → other < cell
falls from cell below other e = let same : from ≡ other = cc in omega (arith, below, same)

pub take-requires-clause-in_row : goal.take-requires-clause-in_row
take-requires-clause-in_row g c = c.requires.in_range.1

pub take-requires-clause-in_range : goal.take-requires-clause-in_range
take-requires-clause-in_range g c = c.requires.in_range.0

pub take-requires-clause-falls : goal.take-requires-clause-falls
take-requires-clause-falls g c = falls c.args.from c.args.cell c.if-from-cell.true

pub take-requires-clause-written : goal.take-requires-clause-written
take-requires-clause-written g c = λ pair e. absurd (cc)

pub returns-then-from-cell-clause-meets : goal.returns-then-from-cell-clause-meets
returns-then-from-cell-clause-meets g c =
    let s = plain c.args.cells.now in
    let to : Ref = Cell c.args.from in
    filled g.N.Naming.program s (plain c.take.new.cells) to (Cell c.args.cell) c.args.cell to c.args.parts.now.items c.args.bound.now.items
    c.take.new.bound.items c.take.result c.take.ensures.apart c.take.ensures.given_up c.take.ensures.done refl (leads_at_once s to to refl) refl
    (falls c.args.from c.args.cell c.if-from-cell.true) c.requires.in_range.1 c.requires.in_range.0 (λ pair e. absurd (cc))
