use Rattle.std.proofs.Common.{◌≡◌, ◌≤◌, ◌∙◌, ◌++◌, List, ℕ, ap, sym, arith, append-nil}
use Rattle.and_model.specs.Terms.{Term}
use Rattle.and_program.specs.Loaded.{skeleton_of}
use Rattle.and_program.specs.Skeletons.{node_term}
use Rattle.and_program.specs.Shown.{count_of, shown_term}
use Rattle.and_lint.proofs.Growing.{argument_beyond}
use Rattle.and_lint.proofs.occurring.push_argument.Goals as goal

pub returns-then-place-count : goal.returns-then-place-count
returns-then-place-count c =
    let t : Term = node_term (skeleton_of c.args.loaded.now).nodes c.args.goal.0 in
    let many : c.count.result ≡ count_of (shown_term t) = c.count.ensures ∙ ap count_of c.kind.ensures.term in
    let few : count_of (shown_term t) ≤ c.args.place = let over = c.if-place-count.true in omega arith in
    sym (append-nil c.args.variables.now.items) ∙ ap (λ (vs : List ℕ). c.args.variables.now.items ++ vs) (sym (argument_beyond t c.args.place few))
