-- Pairs that were settled, and the equations for which they ask.
use Rattle.std.proofs.Common.{◌≡◌, List, ◌++◌, sym, subst}
use Rattle.and_model.specs.Solutions.{Equation, Solvable}
use Rattle.and_model.specs.declared.reference.Ref.{Ref}
use Rattle.and_cells.specs.Ranges.{NamedProgram}
use Rattle.and_cells.specs.Rows.{IsSound}
use Rattle.and_cells.specs.Seen.{word_at}
use Rattle.and_cells.specs.Meaning.{equations_of}
use Rattle.and_cells.specs.Solved.{IsMostGeneral}
use Rattle.and_branch_laws.specs.Settling.{Settled}
use Rattle.and_unify.specs.Pairs.{equations_of_pairs}
use Rattle.and_unify.specs.Settling.{Settles}
use Rattle.and_unify.specs.declared.pairs.Pair.{Pair}
use Rattle.and_unify.specs.declared.settling.Settled.{Settled as Answer}
use Rattle.and_unify.specs.declared.settling.Settled.TheVariants.{Solved, NoSolution}

module _ (P : NamedProgram) (old new : List Ref) (pairs : List Pair) (es : List Equation) (answer : Answer)
    (ask : equations_of_pairs P (word_at old) pairs ≡ es) (settles : Settles P old new pairs answer) where
  -- The row was settled with these,
  pub settled_asked : IsSound P new → answer ≡ Solved → Settled P old new es
  settled_asked sound is = record {
    solved = subst (λ (ds : List Equation). IsMostGeneral P new (equations_of P old ++ ds)) ask (settles.solved is);
    sound = sound;
    settled = settles.settled is;
    keeps = settles.keeps;
    halves = settles.halves;
  }

  -- or they have no solution.
  pub unsolved_asked : answer ≡ NoSolution → Solvable (equations_of P old ++ es) → ⊥
  unsolved_asked is so =
      settles.no_solution is (subst (λ (ds : List Equation). Solvable (equations_of P old ++ ds)) (sym ask) so)
