-- What settling with pairs comes to.
use Rattle.std.proofs.Common.{ℕ, List, ◌++◌, refl, sym, subst}
use Rattle.and_model.specs.Solutions.{Equation, Solvable, MostGeneral}
use Rattle.and_model.specs.declared.reference.Ref.{Ref}
use Rattle.and_cells.specs.Ranges.{NamedProgram}
use Rattle.and_cells.specs.Rows.{IsSound}
use Rattle.and_cells.specs.Meaning.{equations_of}
use Rattle.and_branch_laws.specs.Settling.{Settled}
use Rattle.and_unify.specs.Settling.{Settles}
use Rattle.and_unify.specs.declared.pairs.Pair.{Pair}
use Rattle.and_unify.specs.declared.settling.Settled.TheVariants.{Solved, NoSolution}
use Rattle.and_step_laws.specs.Asking.{Ask}

-- What was settled with pairs was settled with the equations that they ask for.
pub settled_with : (P : NamedProgram) (row new : List Ref) (floor : ℕ) (pairs : List Pair) (es : List Equation) → Ask P row floor pairs es
    → Settles P row new pairs Solved → IsSound P new → Settled P row new es
settled_with P row new floor pairs es asked s sound =
    let general = s.solved refl in
    record {
      solved = record {
        solution = general.solution;
        most_general = subst
            (λ (ds : List Equation). MostGeneral general.solution (equations_of P row ++ ds)) asked.equations general.most_general;
        of_cells = general.of_cells;
      };
      sound = sound;
      settled = s.settled refl;
      keeps = s.keeps;
      halves = s.halves;
    }

-- What has no solution with pairs has none with these equations.
pub unsolved_with : (P : NamedProgram) (row new : List Ref) (floor : ℕ) (pairs : List Pair) (es : List Equation) → Ask P row floor pairs es
    → Settles P row new pairs NoSolution → Solvable (equations_of P row ++ es) → ⊥
unsolved_with P row new floor pairs es asked s so =
    s.no_solution refl (subst (λ (ds : List Equation). Solvable (equations_of P row ++ ds)) (sym asked.equations) so)
