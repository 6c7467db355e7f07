-- A call that was taken off, and a clause that is entered for it.
use Rattle.std.proofs.Common.{ℕ, ◌≡◌, ◌-◌, ◌≤◌, true, List, [], ◌∷◌, ◌++◌, length, sym, subst, arith}
use Rattle.and_model.specs.Programs.{is_of, clause_at, clause_weight}
use Rattle.and_model.specs.Stands.{term_of}
use Rattle.and_model.specs.declared.limits.TheConstants.{MAX_LIMIT}
use Rattle.and_model.specs.declared.reference.Ref.{Ref}
use Rattle.and_program.specs.Loaded.{program_of}
use Rattle.and_program.specs.declared.loaded.Loaded.{Loaded}
use Rattle.and_cells.specs.Parts.{named}
use Rattle.and_cells.specs.Ranges.{NamedProgram}
use Rattle.and_proof.specs.Unfolding.{IsUnfolding, IsAtCall, IsCalled, Enters}
use Rattle.and_proof.specs.declared.goals.Ahead.{Ahead}
use Rattle.and_proof.specs.declared.goals.Goals.{Goals}
use Rattle.and_proof.proofs.Stepped.{next_called}

pub is_called : (P : NamedProgram) (row : List Ref) (before goals : Goals) (next : Ahead) (cs : List ℕ) → IsAtCall P before
    → before.ahead.items ≡ goals.ahead.items ++ next ∷ [] → before.passed.items ≡ goals.passed.items → before.taken.items ≡ goals.taken.items
    → IsUnfolding P row before cs → IsCalled P row goals next cs
is_called P row before goals next cs at ahead passed taken x =
    let (term, item) = next_called P before goals.ahead.items next at ahead in
    record { before = before; unfolded = x; ahead = ahead; passed = passed; taken = taken; term = term; is_call = item }

-- The clause is of the call's predicate, and its weight was found to fit.
pub enters : (l : Loaded) (P : NamedProgram) (row : List Ref) (goals : Goals) (next : Ahead) (clause : ℕ) (cs : List ℕ) → P ≡ named l
    → is_of (program_of l) (term_of (program_of l) next.goal) clause ≡ true
    → (weight : ℕ) → weight ≡ clause_weight (clause_at (program_of l) clause) → weight ≤ MAX_LIMIT - length row
    → IsCalled P row goals next cs → Enters P row goals next clause cs
enters l P row goals next clause cs same of_it weight weighs low x =
    let short = x.unfolded.short in
    let is : weight ≡ clause_weight (clause_at P.program clause) =
    subst (λ (Q : NamedProgram). weight ≡ clause_weight (clause_at Q.program clause)) (sym same) weighs in
    record {
      called = x;
      of_it = subst (λ (Q : NamedProgram). is_of Q.program (term_of Q.program next.goal) clause ≡ true) (sym same) of_it;
      fits = omega (arith, low, is, short);
    }
