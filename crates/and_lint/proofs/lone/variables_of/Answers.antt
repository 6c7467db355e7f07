use Rattle.std.proofs.Common.{ℕ, List, [], ◌∷◌, ◌++◌, ◌∙◌, ap}
use Rattle.and_model.specs.Terms.{Term}
use Rattle.and_model.specs.Programs.{Clause, clause_at}
use Rattle.and_program.specs.Loaded.{program_of, skeleton_of}
use Rattle.and_program.specs.Skeletons.{node_term}
use Rattle.and_lint.specs.Bodies.{numbers_in}
use Rattle.and_lint.proofs.lone.variables_of.Goals as goal

pub returns : goal.returns
returns c =
    let k : Clause = clause_at (program_of c.args.loaded.now) c.args.no.0 in
    let h : Term = node_term (skeleton_of c.args.loaded.now).nodes c.head.result.0 in
    c.in_ok-extend_from_slice.ensures.items
    ∙ ap (λ (vs : List ℕ). vs ++ c.variables_at.result.now) (c.in_ok-push_variables.ensures
    ∙ ap (λ (vs : List ℕ). vs ++ numbers_in (h ∷ [])) c.new-variables.ensures.items ∙ ap (λ (t : Term). numbers_in (t ∷ [])) c.head.ensures.term)
    ∙ ap (λ (vs : List ℕ). numbers_in (k.head ∷ []) ++ vs) c.variables_at.ensures
