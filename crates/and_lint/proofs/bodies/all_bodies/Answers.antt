use Rattle.std.proofs.Common.{ℕ, suc, ◌≡◌, ◌+◌, ◌-◌, ◌∙◌, List, length, arith, sym, subst}
use Rattle.std.proofs.lemmas.List.{length-set}
use Rattle.and_model.specs.Programs.{Program}
use Rattle.and_program.specs.Loaded.{program_of, skeleton_of}
use Rattle.and_program.specs.Skeletons.{Shape}
use Rattle.and_lint.specs.declared.bodies.Body.{Body}
use Rattle.and_lint.proofs.Growing.{TellsFrom, length_empty, none_told, one_told}
use Rattle.and_lint.proofs.bodies.all_bodies.Goals as goal

pub loop-left-init : goal.loop-left-init
loop-left-init c =
    let ss : List Shape = (skeleton_of c.args.loaded.now).nodes in
    let P : Program = program_of c.args.loaded.now in
    let n : ℕ = c.clause_count-left.result + 1 in
    let many : n ≡ suc (length P.clauses) = let e = c.clause_count-left.ensures.count in omega arith in (
      omega (arith, many),
      length_empty c.in_ok-bodies.bodies.items n c.in_ok-bodies.ensures.items ∙ many,
      none_told ss P c.in_ok-bodies.bodies.items n n c.in_ok-bodies.ensures.items c.in_ok-bodies.ensures.variables (omega (arith, many)),
    )

pub loop-left-preserved : goal.loop-left-preserved
loop-left-preserved c =
    let ss : List Shape = (skeleton_of c.args.loaded.now).nodes in
    let P : Program = program_of c.args.loaded.now in
    let bs : List Body = c.loop-left.bodies.items in
    let i : ℕ = c.loop-left.left - 1 in
    let some = c.loop-left-test.true in
    let few = c.loop-left.invariant.0 in
    let long = c.loop-left.invariant.1 in
    let next : c.loop-left.left ≡ suc i = omega (arith, some) in
    let told : TellsFrom ss P bs (suc i) = subst (λ (k : ℕ). TellsFrom ss P bs k) next c.loop-left.invariant.2 in
    let told_there : TellsFrom ss P c.deref.result.now (suc i) = subst (λ (ds : List Body). TellsFrom ss P ds (suc i)) (sym c.deref.ensures.value) told in (
      omega (arith, few),
      length-set bs i c.in_ok-body.body ∙ long,
      one_told ss P bs c.in_ok-body.body i (omega (arith, some, few, long)) (omega (arith, some, few)) told
          (c.in_ok-body.ensures _ _ told_there),
    )
