-- What prints leave.
use Rattle.std.proofs.Common.{ℕ, ◌≡◌, false, List, sym, ◌∙◌, subst}
use Rattle.and_model.specs.Terms.{Term, variable, Substitution, apply}
use Rattle.and_model.specs.Programs.{clause_at}
use Rattle.and_model.specs.declared.numbers.ClauseNo.{ClauseNo}
use Rattle.and_model.specs.declared.reference.Ref.{Ref}
use Rattle.and_program.specs.Skeletons.{node_term}
use Rattle.and_cells.specs.Ranges.{NamedProgram}
use Rattle.and_branch_laws.specs.Judging.{outside}
use Rattle.and_branch_laws.specs.Variables.{placed}
use Rattle.and_laws.proofs.Substitutions.{apply_then}
use Rattle.and_clause_index.specs.Looks.{IsLook, IsLeft}
use Rattle.and_clause_index.specs.Prints.{print_of, are_apart, PrintTells}
use Rattle.and_clause_index.specs.Served.{NodeHas}
use Rattle.and_clause_index.specs.declared.looking.Look.{Look}
use Rattle.and_clause_index.specs.declared.prints.Print.{Print}
use Rattle.and_clause_index.specs.declared.table.Determinacy.{Determinacy}
use Rattle.and_clause_index.specs.Tables.{IsTableOf, print_at}
use Rattle.and_clause_index.proofs.ClauseLists.{clause_there}
use Rattle.and_clause_index.proofs.Printing.{instance_tells, prints_meet}

-- A candidate is left by the prints.
pub candidate_left : (P : NamedProgram) (table : Determinacy) → IsTableOf P table → (row : List Ref) (node base : ℕ) (look : Look)
    → IsLook P row node base look → (c : ClauseNo) → NodeHas P row node base c → IsLeft table look c
candidate_left P table is_of row node base look is c has =
    let (s, solves) = has.1 in
    let own : Term = node_term P.skeleton.nodes node in
    let head : Term = (clause_at P.program c.0).head in
    let call : Term = apply s (placed base own) in
    let clauses : Substitution = λ r j. s outside j in
    let same : call ≡ apply clauses head = solves.0 ∙ apply_then (λ r j. variable outside j) s head in
    let told : PrintTells (print_of head) (print_of call) =
    subst (λ (t : Term). PrintTells (print_of head) (print_of t)) (sym same) (instance_tells clauses head) in
    let at : print_at table c.0 ≡ print_of head = is_of.prints.each c.0 (clause_there P.program (placed base own) c.0 has.0) in
    subst (λ (p : Print). are_apart look.print p ≡ false) (sym at)
    (prints_meet look.print (print_of head) (print_of call) (is s solves.1).print told)
