use Rattle.std.proofs.Common.{◌≡◌, ◌++◌, [], List, reverse, append-nil, ap, sym, ◌∙◌, subst}
use Rattle.and_model.specs.declared.goal.Goal.{Goal}
use Rattle.and_cells.specs.Parts.{named}
use Rattle.and_cells.specs.Ranges.{NamedProgram}
use Rattle.and_proof.specs.Proofs.{HasProof}
use Rattle.and_proof.specs.Stacks.{in_order}
use Rattle.and_proof.specs.declared.waiting.Waiting.{Waiting}
use Rattle.and_proof.proofs.Proving.{whole_of, run_proved, none_proved}
use Rattle.and_proof.proofs.explaining.explain_named.Goals as goal

-- the goals behind which work begins
all_behind : (w : Waiting) (goals : List Goal) → w.left.items ≡ goals → w.right.items ≡ [] → in_order w ≡ goals
all_behind w goals left right = ap (λ l. w.left.items ++ reverse l) right ∙ append-nil w.left.items ∙ left

pub unfold-requires-clause-empty : goal.unfold-requires-clause-empty
unfold-requires-clause-empty g c = c.in_ok-cells.ensures

pub unfold-requires-clause-no_goals : goal.unfold-requires-clause-no_goals
unfold-requires-clause-no_goals g c = (c.new-goals.ensures.ahead, c.new-goals.ensures.passed, c.new-goals.ensures.taken)

pub returns-then-not-branch-clause-none : goal.returns-then-not-branch-clause-none
returns-then-not-branch-clause-none g c = λ n has.
    c.in_ok-unfold.ensures.none (let t = c.if-not-branch.true in cc)
    (subst (λ (Q : NamedProgram). HasProof Q.program c.args.code.now) (sym c.requires) has)

pub run_arithmetic-requires-clause-whole : goal.run_arithmetic-requires-clause-whole
run_arithmetic-requires-clause-whole g c =
    let P = g.N.Naming.program in
    let code = c.args.code.now in
    let row = c.unfold.new.cells in
    let goals = c.unfold.new.goals in
    let u = c.in_ok-unfold.ensures.unfolded (let t = c.if-not-branch.false in cc) in
    let x = u.0 in
    let w = c.behind-waiting.result in
    let start : in_order w ≡ goals.passed.items = all_behind w goals.passed.items c.behind-waiting.ensures.left c.behind-waiting.ensures.right in
    (x.reductions, x.tree, whole_of P row goals code x u.1 (in_order w) start)

pub run_arithmetic-requires-clause-behind : goal.run_arithmetic-requires-clause-behind
run_arithmetic-requires-clause-behind g c = c.behind-waiting.ensures.right

pub returns-then-not-branch-2-clause-none : goal.returns-then-not-branch-2-clause-none
returns-then-not-branch-2-clause-none g c = λ n has.
    let P = g.N.Naming.program in
    let code = c.args.code.now in
    let row = c.unfold.new.cells in
    let goals = c.unfold.new.goals in
    let u = c.in_ok-unfold.ensures.unfolded (let t = c.if-not-branch.false in cc) in
    let x = u.0 in
    let w = c.behind-waiting.result in
    let start : in_order w ≡ goals.passed.items = all_behind w goals.passed.items c.behind-waiting.ensures.left c.behind-waiting.ensures.right in
    none_proved P row goals code x u.1 w start (c.in_ok-run_arithmetic.ensures.none (let t = c.if-not-branch-2.true in cc))
    (subst (λ (Q : NamedProgram). HasProof Q.program code) (sym c.requires) has)

pub text_of-requires-clause-proved : goal.text_of-requires-clause-proved
text_of-requires-clause-proved g c =
    let u = c.in_ok-unfold.ensures.unfolded (let t = c.if-not-branch.false in cc) in
    let w = c.behind-waiting.result in (
      c.args.code.now,
      run_proved g.N.Naming.program c.unfold.new.cells c.unfold.new.goals c.args.code.now u.0 u.1 (named c.args.loaded.now) c.requires
          c.run_arithmetic.new.cells w c.run_arithmetic.new.waiting c.in_ok-left.left c.deref.result.now
          (all_behind w c.unfold.new.goals.passed.items c.behind-waiting.ensures.left c.behind-waiting.ensures.right)
          (c.in_ok-run_arithmetic.ensures.run (let t = c.if-not-branch-2.false in cc))
          (c.in_ok-run_arithmetic.ensures.still (let t = c.if-not-branch-2.false in cc)) c.in_ok-left.ensures c.deref.ensures.value,
    )

pub returns-clause-some : goal.returns-clause-some
returns-clause-some g c =
    let u = c.in_ok-unfold.ensures.unfolded (let t = c.if-not-branch.false in cc) in
    let w = c.behind-waiting.result in
    c.in_ok-text_of.ensures c.args.code.now
    (run_proved g.N.Naming.program c.unfold.new.cells c.unfold.new.goals c.args.code.now u.0 u.1 (named c.args.loaded.now) c.requires
    c.run_arithmetic.new.cells w c.run_arithmetic.new.waiting c.in_ok-left.left c.deref.result.now
    (all_behind w c.unfold.new.goals.passed.items c.behind-waiting.ensures.left c.behind-waiting.ensures.right)
    (c.in_ok-run_arithmetic.ensures.run (let t = c.if-not-branch-2.false in cc))
    (c.in_ok-run_arithmetic.ensures.still (let t = c.if-not-branch-2.false in cc)) c.in_ok-left.ensures c.deref.ensures.value)
