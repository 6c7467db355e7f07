use Rattle.std.proofs.Common.{ℕ, ◌≡◌, ◌++◌, Option, ◌∙◌, sym}
use Rattle.std.proofs.lemmas.Result.{IfOk-weaker}
use Rattle.and_program.specs.Loaded.{skeleton_of}
use Rattle.and_program.specs.Skeletons.{node_term}
use Rattle.and_modes.specs.Known.{environment}
use Rattle.and_modes.specs.Waiting.{numbers_in, first_unknown}
use Rattle.and_modes.proofs.Firsts.{first_on_left, first_on_right}
use Rattle.and_modes.proofs.waiting.first_in_two.Goals as goal

pub returns-in-Some : goal.returns-in-Some
returns-in-Some c =
    let nodes = (skeleton_of c.args.loaded.now).nodes in
    sym (first_on_left (environment c.args.known.now.levels) (numbers_in (node_term nodes c.args.left.0))
    (numbers_in (node_term nodes c.args.right.0)) c.in-Some.variable
    (sym c.in_ok-variable.ensures ∙ c.in-Some.is))

pub returns-in-None : goal.returns-in-None
returns-in-None c =
    let nodes = (skeleton_of c.args.loaded.now).nodes in
    let e = environment c.args.known.now.levels in
    let left = numbers_in (node_term nodes c.args.left.0) in
    let right = numbers_in (node_term nodes c.args.right.0) in
    let both = first_on_right e left right (sym c.in_ok-variable.ensures ∙ c.in-None.is) in
    IfOk-weaker c.first_in-in-None.result (λ (v : Option ℕ). v ≡ first_unknown e right)
    (λ (v : Option ℕ). v ≡ first_unknown e (left ++ right))
    (λ v is. is ∙ sym both) c.first_in-in-None.ensures
