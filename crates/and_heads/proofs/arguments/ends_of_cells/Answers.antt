use Rattle.and_heads.proofs.arguments.ends_of_cells.Goals as goal

pub enter_ends-requires-clause-written : goal.enter_ends-requires-clause-written
enter_ends-requires-clause-written g c = (λ pair e. absurd (cc), λ pair e. absurd (cc))
