use Rattle.std.proofs.Common.{◌≡◌, List, length, sym, subst, ◌∙◌}
use Rattle.and_model.specs.declared.reference.Ref.{Ref}
use Rattle.and_cells.specs.Rows.{IsSound, plain}
use Rattle.and_cells.specs.Seen.{word_at}
use Rattle.and_cells.specs.Ranges.{IsNodeInRange}
use Rattle.and_cells.specs.Meaning.{IsSettled}
use Rattle.and_unify.specs.Pairs.{AreInRange, AreWritten, NameNoHalf}
use Rattle.and_unify.specs.Settling.{AreNewFrom, Settles, SetsPlaces}
use Rattle.and_unify.specs.Setting.{HaveBeenSet}
use Rattle.and_heads.specs.Calls.{call_and_head}
use Rattle.and_heads.proofs.Becoming.{set_back, back}
use Rattle.and_heads.proofs.settling.HeadSolver.settle_call.Goals as goal

pub take_back-requires : goal.take_back-requires
take_back-requires g c =
    let row = c.args.cells.now in
    let set = c.settle_call_directly.ensures.bound in
    let many : c.len-words.result ≡ length row = c.len-words.ensures.value ∙ set.words in
    let back = set_back row c.settle_call_directly.new.cells c.settle_call_directly.new.bound.items c.deref.result.now c.len-words.result many
    c.deref.ensures.value set in
    subst (IsSound g.N.Naming.program) (sym back) c.len-before.ensures.sound

pub settle_call_by_solver-requires-clause-call : goal.settle_call_by_solver-requires-clause-call
settle_call_by_solver-requires-clause-call g c =
    let set = c.settle_call_directly.ensures.bound in
    let many : c.len-words.result ≡ length c.args.cells.now = c.len-words.ensures.value ∙ set.words in
    let same = back c.args.cells.now _ _ _ _ _ many c.deref.ensures.value set c.take_back.ensures in
    subst (λ (r : List Ref). IsNodeInRange g.N.Naming.program (length r) c.args.call.0 c.args.base) (sym same) c.requires.call

pub settle_call_by_solver-requires-clause-head : goal.settle_call_by_solver-requires-clause-head
settle_call_by_solver-requires-clause-head g c =
    let set = c.settle_call_directly.ensures.bound in
    let many : c.len-words.result ≡ length c.args.cells.now = c.len-words.ensures.value ∙ set.words in
    let same = back c.args.cells.now _ _ _ _ _ many c.deref.ensures.value set c.take_back.ensures in
    subst (λ (r : List Ref). IsNodeInRange g.N.Naming.program (length r) c.args.head.0 c.args.floor) (sym same) c.requires.head

pub settle_call_by_solver-requires-clause-in_range : goal.settle_call_by_solver-requires-clause-in_range
settle_call_by_solver-requires-clause-in_range g c =
    let set = c.settle_call_directly.ensures.bound in
    let many : c.len-words.result ≡ length c.args.cells.now = c.len-words.ensures.value ∙ set.words in
    let same = back c.args.cells.now _ _ _ _ _ many c.deref.ensures.value set c.take_back.ensures in
    subst (λ (r : List Ref). AreInRange g.N.Naming.program (length r)
    (call_and_head g.N.Naming.program c.args.base c.args.call.0 c.args.floor c.args.head.0)) (sym same) c.requires.in_range

pub settle_call_by_solver-requires-clause-written : goal.settle_call_by_solver-requires-clause-written
settle_call_by_solver-requires-clause-written g c =
    let set = c.settle_call_directly.ensures.bound in
    let many : c.len-words.result ≡ length c.args.cells.now = c.len-words.ensures.value ∙ set.words in
    let same = back c.args.cells.now _ _ _ _ _ many c.deref.ensures.value set c.take_back.ensures in
    subst (λ (r : List Ref). AreWritten (plain r) (call_and_head g.N.Naming.program c.args.base c.args.call.0 c.args.floor c.args.head.0)) (sym same)
    c.requires.written

pub settle_call_by_solver-requires-clause-settled : goal.settle_call_by_solver-requires-clause-settled
settle_call_by_solver-requires-clause-settled g c =
    let set = c.settle_call_directly.ensures.bound in
    let many : c.len-words.result ≡ length c.args.cells.now = c.len-words.ensures.value ∙ set.words in
    let same = back c.args.cells.now _ _ _ _ _ many c.deref.ensures.value set c.take_back.ensures in
    subst (λ (r : List Ref). IsSettled g.N.Naming.program r) (sym same) c.requires.settled

pub settle_call_by_solver-requires-clause-no_half : goal.settle_call_by_solver-requires-clause-no_half
settle_call_by_solver-requires-clause-no_half g c =
    let set = c.settle_call_directly.ensures.bound in
    let many : c.len-words.result ≡ length c.args.cells.now = c.len-words.ensures.value ∙ set.words in
    let same = back c.args.cells.now _ _ _ _ _ many c.deref.ensures.value set c.take_back.ensures in
    subst (λ (r : List Ref). NameNoHalf g.N.Naming.program (word_at r)
    (call_and_head g.N.Naming.program c.args.base c.args.call.0 c.args.floor c.args.head.0)) (sym same) c.requires.no_half

pub settle_call_by_solver-requires-clause-new : goal.settle_call_by_solver-requires-clause-new
settle_call_by_solver-requires-clause-new g c =
    let set = c.settle_call_directly.ensures.bound in
    let many : c.len-words.result ≡ length c.args.cells.now = c.len-words.ensures.value ∙ set.words in
    let same = back c.args.cells.now _ _ _ _ _ many c.deref.ensures.value set c.take_back.ensures in
    subst (λ (r : List Ref). AreNewFrom g.N.Naming.program r (call_and_head g.N.Naming.program c.args.base c.args.call.0 c.args.floor c.args.head.0)
    c.args.floor) (sym same) c.requires.new

pub returns-clause-settles : goal.returns-clause-settles
returns-clause-settles g c =
    let set = c.settle_call_directly.ensures.bound in
    let many : c.len-words.result ≡ length c.args.cells.now = c.len-words.ensures.value ∙ set.words in
    let same = back c.args.cells.now _ _ _ _ _ many c.deref.ensures.value set c.take_back.ensures in
    subst (λ (r : List Ref). Settles g.N.Naming.program r c.settle_call_by_solver.new.cells
    (call_and_head g.N.Naming.program c.args.base c.args.call.0 c.args.floor c.args.head.0)
    c.settle_call_by_solver.result) same c.settle_call_by_solver.ensures.settles

pub returns-clause-bound : goal.returns-clause-bound
returns-clause-bound g c =
    let set = c.settle_call_directly.ensures.bound in
    let many : c.len-words.result ≡ length c.args.cells.now = c.len-words.ensures.value ∙ set.words in
    let same = back c.args.cells.now _ _ _ _ _ many c.deref.ensures.value set c.take_back.ensures in
    subst (λ (r : List Ref). HaveBeenSet r c.settle_call_by_solver.new.cells c.settle_call_by_solver.new.self) same c.settle_call_by_solver.ensures.bound

pub returns-clause-places : goal.returns-clause-places
returns-clause-places g c =
    let set = c.settle_call_directly.ensures.bound in
    let many : c.len-words.result ≡ length c.args.cells.now = c.len-words.ensures.value ∙ set.words in
    let same = back c.args.cells.now _ _ _ _ _ many c.deref.ensures.value set c.take_back.ensures in
    subst (λ (r : List Ref). SetsPlaces g.N.Naming.program r c.settle_call_by_solver.new.cells
    (call_and_head g.N.Naming.program c.args.base c.args.call.0 c.args.floor c.args.head.0)) same c.settle_call_by_solver.ensures.places
