use Rattle.std.proofs.Common.{ap, ◌∙◌}
use Rattle.and_model.specs.Lines.{first_seen}
use Rattle.and_model.specs.Terms.{variables_of, apply}
use Rattle.and_program.specs.Loaded.{skeleton_of}
use Rattle.and_program.specs.Skeletons.{node_term}
use Rattle.and_proof.proofs.explaining.name_both.Goals as goal

pub name_term-requires-clause-means : goal.name_term-requires-clause-means
name_term-requires-clause-means g c = let (s, m) = c.requires.means in (s, m.0)

pub name_term-requires-2-clause-means : goal.name_term-requires-2-clause-means
name_term-requires-2-clause-means g c = let (s, m) = c.requires.means in (s, m.1)

pub returns : goal.returns
returns g c = λ s left right.
    c.in_ok-name_term-2.ensures s right
    ∙ ap (λ vs. first_seen vs (variables_of (apply s (node_term (skeleton_of c.args.loaded.now).nodes c.args.right.0)))) (c.in_ok-name_term.ensures s left)
