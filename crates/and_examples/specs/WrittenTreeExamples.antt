-- Trees that are written down: what is decided in them, and where something is cut off.
use Rattle.std.specs.Prelude.{List, [], ◌∷◌}
use Rattle.and_model.specs.Reductions.{Reduction}
use Rattle.and_model.specs.declared.goal.Goal.{Goal}

-- ---- nat(z). nat(s(N)) :- nat(N). ?- nat(X). Clause 2 was used twice, at the places 2 and 4.
abbrev pub twice : List Reduction
twice = record { parent = 0; item = 0; clause = 2; node = 2 }
    ∷ record { parent = 2; item = 0; clause = 2; node = 4 } ∷ []

-- the call of the second use
abbrev pub innermost : Goal
innermost = record { node = 4; item = 0; clause = record { 0 = 2 }; base = 4 }

abbrev pub no_goal : Goal
no_goal = record { node = 0; item = 0; clause = record { 0 = 0 }; base = 0 }
