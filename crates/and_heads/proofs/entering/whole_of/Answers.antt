use Rattle.std.proofs.Common.{◌≢◌, length, refl, sym, subst, arith}
use Rattle.and_model.specs.declared.reference.Ref.{Ref}
use Rattle.and_model.specs.declared.reference.Ref.TheVariants.{Node}
use Rattle.and_cells.specs.Ranges.{IsInRange}
use Rattle.and_cells.specs.Rows.{plain}
use Rattle.and_heads.proofs.Begins.{of_one_shape}
use Rattle.and_heads.proofs.entering.whole_of.Goals as goal

pub returns : goal.returns
returns g c =
    let P = g.N.Naming.program in
    let row = c.args.cells.now in
    let one : Ref = Node c.in-Node.node c.in-Node.base in
    let other : Ref = Node c.in-Node-other.there c.in-Node-other.by in
    let both = c.in_ok-count.ensures.same c.in_ok-count.count refl in
    let some : c.in_ok-count.count ≢ 0 = λ e. omega (arith, c.if-count-eq0.false, e) in (
      λ i. record { left = sym c.in-Node.is i; right = sym c.in-Node-other.is i },
      of_one_shape P (plain row) (length row) one other c.in_ok-first.first c.in_ok-second.second c.in_ok-count.count c.in_ok-first.ensures.head
          c.in_ok-second.ensures.head both.0 both.1 some (subst (IsInRange P (length row)) c.in-Node.is c.requires.one_in_range)
          (subst (IsInRange P (length row)) c.in-Node-other.is c.requires.other_in_range),
    )
