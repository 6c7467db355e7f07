use Rattle.std.proofs.Common.{List, length, sym, subst}
use Rattle.and_model.specs.declared.reference.Ref.{Ref}
use Rattle.and_cells.specs.Rows.{IsSound, plain}
use Rattle.and_cells.specs.Seen.{word_at}
use Rattle.and_cells.specs.Meaning.{IsSettled}
use Rattle.and_unify.specs.Pairs.{AreInRange, AreWritten, NameNoHalf}
use Rattle.and_unify.specs.Settling.{AreNewFrom, Settles, SetsPlaces}
use Rattle.and_unify.specs.Setting.{HaveBeenSet}
use Rattle.and_heads.proofs.Becoming.{set_back, back}
use Rattle.and_heads.proofs.settling.HeadSolver.settle_further.Goals as goal

pub take_back-requires : goal.take_back-requires
take_back-requires g c =
    let row = c.args.cells.now in
    let back = set_back row c.settle_directly.new.cells c.settle_directly.new.bound.items c.deref.result.now c.len-words.result c.len-words.ensures.value
    c.deref.ensures.value c.settle_directly.ensures.bound in
    subst (IsSound g.N.Naming.program) (sym back) c.len-words.ensures.sound

pub settle_by_solver-requires-clause-in_range : goal.settle_by_solver-requires-clause-in_range
settle_by_solver-requires-clause-in_range g c =
    let same = back c.args.cells.now _ _ _ _ _ c.len-words.ensures.value c.deref.ensures.value c.settle_directly.ensures.bound c.take_back.ensures in
    subst (λ (r : List Ref). AreInRange g.N.Naming.program (length r) c.args.pairs.now) (sym same) c.requires.in_range

pub settle_by_solver-requires-clause-written : goal.settle_by_solver-requires-clause-written
settle_by_solver-requires-clause-written g c =
    let same = back c.args.cells.now _ _ _ _ _ c.len-words.ensures.value c.deref.ensures.value c.settle_directly.ensures.bound c.take_back.ensures in
    subst (λ (r : List Ref). AreWritten (plain r) c.args.pairs.now) (sym same) c.requires.written

pub settle_by_solver-requires-clause-settled : goal.settle_by_solver-requires-clause-settled
settle_by_solver-requires-clause-settled g c =
    let same = back c.args.cells.now _ _ _ _ _ c.len-words.ensures.value c.deref.ensures.value c.settle_directly.ensures.bound c.take_back.ensures in
    subst (λ (r : List Ref). IsSettled g.N.Naming.program r) (sym same) c.requires.settled

pub settle_by_solver-requires-clause-no_half : goal.settle_by_solver-requires-clause-no_half
settle_by_solver-requires-clause-no_half g c =
    let same = back c.args.cells.now _ _ _ _ _ c.len-words.ensures.value c.deref.ensures.value c.settle_directly.ensures.bound c.take_back.ensures in
    subst (λ (r : List Ref). NameNoHalf g.N.Naming.program (word_at r) c.args.pairs.now) (sym same) c.requires.no_half

pub settle_by_solver-requires-clause-new : goal.settle_by_solver-requires-clause-new
settle_by_solver-requires-clause-new g c =
    let same = back c.args.cells.now _ _ _ _ _ c.len-words.ensures.value c.deref.ensures.value c.settle_directly.ensures.bound c.take_back.ensures in
    subst (λ (r : List Ref). AreNewFrom g.N.Naming.program r c.args.pairs.now c.args.floor) (sym same) c.requires.new

pub returns-clause-settles : goal.returns-clause-settles
returns-clause-settles g c =
    let same = back c.args.cells.now _ _ _ _ _ c.len-words.ensures.value c.deref.ensures.value c.settle_directly.ensures.bound c.take_back.ensures in
    subst (λ (r : List Ref). Settles g.N.Naming.program r c.settle_by_solver.new.cells c.args.pairs.now c.settle_by_solver.result) same
    c.settle_by_solver.ensures.settles

pub returns-clause-bound : goal.returns-clause-bound
returns-clause-bound g c =
    let same = back c.args.cells.now _ _ _ _ _ c.len-words.ensures.value c.deref.ensures.value c.settle_directly.ensures.bound c.take_back.ensures in
    subst (λ (r : List Ref). HaveBeenSet r c.settle_by_solver.new.cells c.settle_by_solver.new.solver) same c.settle_by_solver.ensures.bound

pub returns-clause-places : goal.returns-clause-places
returns-clause-places g c =
    let same = back c.args.cells.now _ _ _ _ _ c.len-words.ensures.value c.deref.ensures.value c.settle_directly.ensures.bound c.take_back.ensures in
    subst (λ (r : List Ref). SetsPlaces g.N.Naming.program r c.settle_by_solver.new.cells c.args.pairs.now) same c.settle_by_solver.ensures.places
