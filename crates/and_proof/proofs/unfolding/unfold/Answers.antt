use Rattle.std.proofs.Common.{ℕ, ◌≡◌, ◌+◌, List, take, drop, ap, sym, ◌∙◌, subst, arith}
use Rattle.std.specs.Prelude.{◌==◌}
use Rattle.and_branch_laws.proofs.Loading.{loaded_is}
use Rattle.and_proof.specs.Proofs.{HasProof}
use Rattle.and_proof.specs.Unfolding.{IsUnfolding, ReplacesTo}
use Rattle.and_proof.proofs.Unfolded.{parts_at, take_whole, empty_is, some_is, none_whole}
use Rattle.and_proof.proofs.unfolding.unfold.Goals as goal

pub returns-then-not-branch-clause-none : goal.returns-then-not-branch-clause-none
returns-then-not-branch-clause-none g c = λ e has. c.in_ok-begin_query.ensures.none (let t = c.if-not-branch.true in cc) c.args.code.now has

pub places-init : goal.places-init
places-init g c = c.in_ok-begin_query.ensures.begun (let t = c.if-not-branch.false in cc)

pub replace_next-requires-clause-unfolding : goal.replace_next-requires-clause-unfolding
replace_next-requires-clause-unfolding g c = (take c.places.place c.args.code.now, c.places.invariant)

pub returns-then-not-branch-2-clause-none : goal.returns-then-not-branch-2-clause-none
returns-then-not-branch-2-clause-none g c = λ e has.
    let P = g.N.Naming.program in
    let code = c.args.code.now in
    let n = c.places.place in
    let parts = parts_at code n c.at.result.now.0 c.at.ensures in
    subst (ReplacesTo P c.replace_next.new.cells c.replace_next.new.goals c.at.result.now.0 (take n code)) c.if-not-branch-2.true
    (c.in_ok-replace_next.ensures (take n code) c.places.invariant) (drop (n + 1) code)
    (subst (λ (l : List ℕ). HasProof P.program l) parts.0 has)

pub places-preserved : goal.places-preserved
places-preserved g c =
    let P = g.N.Naming.program in
    let code = c.args.code.now in
    let n = c.places.place in
    let parts = parts_at code n c.at.result.now.0 c.at.ensures in
    subst (λ (l : List ℕ). IsUnfolding P c.replace_next.new.cells c.replace_next.new.goals l) (sym parts.1)
    (subst (ReplacesTo P c.replace_next.new.cells c.replace_next.new.goals c.at.result.now.0 (take n code)) c.if-not-branch-2.false
    (c.in_ok-replace_next.ensures (take n code) c.places.invariant))

pub pass_arithmetic-requires-clause-unfolding : goal.pass_arithmetic-requires-clause-unfolding
pass_arithmetic-requires-clause-unfolding g c = (take c.places.place c.args.code.now, c.places.invariant)

pub returns-clause-unfolded : goal.returns-clause-unfolded
returns-clause-unfolded g c = λ e.
    let P = g.N.Naming.program in
    let code = c.args.code.now in
    let n = c.places.place in
    let whole : take n code ≡ code = take_whole code n (let a = c.len-place-end.ensures in let b = c.places-test.false in omega arith) in
    let empty = c.is_empty.ensures ∙ ap (λ (m : ℕ). m == 0) c.pass_arithmetic.new.goals.ahead.ok.0 in
    let x = c.in_ok-pass_arithmetic.ensures.unfolding (take n code) c.places.invariant in (
      subst (λ (l : List ℕ). IsUnfolding P c.places.cells c.pass_arithmetic.new.goals l) whole x,
      empty_is c.pass_arithmetic.new.goals.ahead.items c.is_empty.result empty (cc),
    )

pub returns-clause-none : goal.returns-clause-none
returns-clause-none g c = λ e has.
    let P = g.N.Naming.program in
    let s = c.skeleton_is_of_the_program.ensures in
    let facts = loaded_is P c.args.loaded.now c.requires.program s.skeleton s.own_variables s.few in
    let code = c.args.code.now in
    let n = c.places.place in
    let whole : take n code ≡ code = take_whole code n (let a = c.len-place-end.ensures in let b = c.places-test.false in omega arith) in
    let empty = c.is_empty.ensures ∙ ap (λ (m : ℕ). m == 0) c.pass_arithmetic.new.goals.ahead.ok.0 in
    let x = c.in_ok-pass_arithmetic.ensures.unfolding (take n code) c.places.invariant in
    none_whole P facts c.places.cells c.pass_arithmetic.new.goals (take n code) x c.in_ok-pass_arithmetic.ensures.at_call
    (some_is c.pass_arithmetic.new.goals.ahead.items c.is_empty.result empty (λ is. cc))
    (subst (λ (l : List ℕ). HasProof P.program l) (sym whole) has)
