use Rattle.std.proofs.Common.{ℕ, ◌≡◌, Some, refl, ◌∙◌, subst}
use Rattle.std.specs.Prelude.{reverse}
use Rattle.and_cells.specs.Meaning.{IsCircle}
use Rattle.and_circles.proofs.Walking.{closes}
use Rattle.and_circles.proofs.walk.Walk.circle.Goals as goal

one_value : (n m : ℕ) → Some n ≡ Some m → m ≡ n
one_value n m e = cc

pub unreachable-requires : goal.unreachable-requires
unreachable-requires g c =
    let w = c.args.self.now in
    let found = closes g.N.Naming.program c.args.cells.now w.floor w.halves c.requires.taking.0 w.marks c.args.at (reverse w.visits.items)
    c.requires.taking.1 c.requires.open in
    let none = c.in-None.ensures in
    let some = found.1 in
    absurd (cc)

pub returns : goal.returns
returns g c =
    let w = c.args.self.now in
    let found = closes g.N.Naming.program c.args.cells.now w.floor w.halves c.requires.taking.0 w.marks c.args.at (reverse w.visits.items)
    c.requires.taking.1 c.requires.open in
    (c.in-Some.cell, refl, subst (IsCircle g.N.Naming.program c.args.cells.now) (one_value c.in-Some.cell found.0 (c.in-Some.ensures ∙ found.1)) found.2)
