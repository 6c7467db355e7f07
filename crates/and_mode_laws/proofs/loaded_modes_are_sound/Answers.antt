use Rattle.std.proofs.Common.{ℕ, ◌≡◌, ◌∙◌, ap}
use Rattle.and_model.specs.Terms.{none}
use Rattle.and_program.specs.declared.loaded.Loaded.{Loaded}
use Rattle.and_program.specs.Loaded.{program_of}
use Rattle.and_program.specs.Nodes.{shapes_of}
use Rattle.and_program.specs.Skeletons.{node_term}
use Rattle.and_program.proofs.LoadedLemmas.{query_head}
use Rattle.and_modes.specs.Modes.{arguments_of}
use Rattle.and_modes.specs.Kept.{assignment_of}
use Rattle.and_mode_laws.proofs.Soundness.{calls_have_levels, never_flounders}
use Rattle.and_mode_laws.proofs.loaded_modes_are_sound.Goals as goal

-- the query's head is the atom `true`
query_is_plain : (l : Loaded) → arguments_of (program_of l).query.head ≡ none
query_is_plain l =
    let ss = shapes_of l.nodes.items in
    ap (λ (n : ℕ). arguments_of (node_term ss n)) l.kept.query_true ∙ ap arguments_of (query_head ss l.kept.begins)

pub returns-clause-levels : goal.returns-clause-levels
returns-clause-levels c =
    λ well. calls_have_levels (program_of c.args.loaded.now) (assignment_of c.args.modes.now) (query_is_plain c.args.loaded.now) well

pub returns-clause-never_flounders : goal.returns-clause-never_flounders
returns-clause-never_flounders c =
    λ well. never_flounders (program_of c.args.loaded.now) (assignment_of c.args.modes.now) (query_is_plain c.args.loaded.now) well
