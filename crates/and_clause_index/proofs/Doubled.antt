-- A head whose first two arguments are one variable, and a call whose first two can't be made one.
use Rattle.std.proofs.Common.{ℕ, ◌≡◌, ◌<◌, true, true≢false, List, [], sym, ap, ◌∙◌, subst, arith}
use Rattle.and_model.specs.Terms
use Rattle.and_model.specs.Terms.{Term, variable, Substitution, apply}
use Rattle.and_model.specs.Programs.{clause_at}
use Rattle.and_model.specs.declared.numbers.ClauseNo.{ClauseNo}
use Rattle.and_model.specs.declared.reference.Ref.{Ref}
use Rattle.and_program.specs.Loaded.{shape_at}
use Rattle.and_program.specs.Shown.{shown, shown_term, count_of, argument_of}
use Rattle.and_program.specs.Skeletons
use Rattle.and_program.specs.Skeletons.{Shape, Skeleton, shape_term, terms_behind, node_term, AllFall}
use Rattle.and_program.specs.declared.node.NodeKind.{NodeKind}
use Rattle.and_program.specs.declared.node.NodeKind.TheVariants.{Variable}
use Rattle.and_laws.proofs.Substitutions.{apply_then}
use Rattle.and_cells.specs.Ranges.{NamedProgram}
use Rattle.and_cell_laws.proofs.Structures.{node_term_shape}
use Rattle.and_branch_laws.specs.Judging.{outside}
use Rattle.and_branch_laws.specs.Variables.{placed}
use Rattle.and_clause_index.specs.Looks.{IsLook}
use Rattle.and_clause_index.specs.Prints.{mark, argument_kind, marks_at, marks_differ, MarksTell, AreOneVariable, IsDoubled}
use Rattle.and_clause_index.specs.Served.{NodeHas}
use Rattle.and_clause_index.specs.declared.looking.Look.{Look}
use Rattle.and_clause_index.specs.declared.prints.Marks.{Marks}
use Rattle.and_clause_index.proofs.Differing.{argument_applied, count_later}
use Rattle.and_clause_index.proofs.Printing.{argument_there, all_meet}

-- ---- One variable

variable_shape : (ts : List Term) (s : Shape) (k : ℕ) → shown s ≡ Variable k → shape_term ts s ≡ Terms.variable [] k
variable_shape ts (Skeletons.variable j) k e = let same : j ≡ k = cc in ap (λ (n : ℕ). Terms.variable [] n) same
variable_shape ts (Skeletons.number z) k e = absurd (cc)
variable_shape ts (Skeletons.compound c ns) k e = absurd (cc)

module _ (skeleton : Skeleton) (fall : AllFall 0 skeleton.nodes) where
  variable_is : (node k : ℕ) → shown (shape_at skeleton node) ≡ Variable k → node_term skeleton.nodes node ≡ Terms.variable [] k
  variable_is node k e =
      node_term_shape skeleton.nodes node fall ∙ variable_shape (terms_behind [] skeleton.nodes) (shape_at skeleton node) k e

  -- Arguments that are one variable are the same.
  pub doubled : (node first second : ℕ) (one other : NodeKind) → 1 < count_of (shown_term (node_term skeleton.nodes node))
      → node_term skeleton.nodes first ≡ argument_of (node_term skeleton.nodes node) 0
      → node_term skeleton.nodes second ≡ argument_of (node_term skeleton.nodes node) 1
      → one ≡ shown (shape_at skeleton first) → other ≡ shown (shape_at skeleton second) → AreOneVariable one other
      → IsDoubled (node_term skeleton.nodes node)
  doubled node first second one other low at_first at_second is_first is_second are = record {
    there = low;
    same = sym at_first ∙ variable_is first are.0 (sym is_first ∙ are.1) ∙ sym (variable_is second are.0 (sym is_second ∙ are.2)) ∙ at_second;
  }

-- ---- Instances

-- the marks of a term and of its first two arguments
abbrev marks_of : Term → Marks
marks_of t = record { own = mark (shown_term t); first = mark (argument_kind t 0); second = mark (argument_kind t 1) }

marks_applied : (s : Substitution) (t : Term) (j : ℕ) → j < count_of (shown_term t) → marks_at (apply s t) j ≡ marks_of (apply s (argument_of t j))
marks_applied s t j low =
    let own : argument_kind (apply s t) j ≡ shown_term (argument_of (apply s t) j) = argument_there (apply s t) j (count_later s t j low) in
    let u : Term = argument_of (apply s t) j in
    ap (λ (k : NodeKind). record { own = mark k; first = mark (argument_kind u 0); second = mark (argument_kind u 1) }) own
    ∙ ap marks_of (argument_applied s t j low)

-- So are the marks of an instance's.
doubled_marks : (s : Substitution) (t : Term) → IsDoubled t → marks_at (apply s t) 0 ≡ marks_at (apply s t) 1
doubled_marks s t is =
    let more : 1 < count_of (shown_term t) = is.there in
    let some : 0 < count_of (shown_term t) = omega arith in
    marks_applied s t 0 some ∙ ap (λ (u : Term). marks_of (apply s u)) is.same ∙ sym (marks_applied s t 1 more)

-- ---- A call

pub doubled_apart : (P : NamedProgram) (row : List Ref) (node base : ℕ) (look : Look) → IsLook P row node base look → (c : ClauseNo)
    → IsDoubled (clause_at P.program c.0).head → marks_differ look.print.first look.print.second ≡ true
    → NodeHas P row node base c → ⊥
doubled_apart P row node base look is_look c is apart has =
    let (s, solves) = has.1 in
    let head : Term = (clause_at P.program c.0).head in
    let call : Term = apply s (placed base (node_term P.skeleton.nodes node)) in
    let clauses : Substitution = λ r j. s outside j in
    let same : call ≡ apply clauses head = solves.0 ∙ apply_then (λ r j. variable outside j) s head in
    let twice : marks_at call 0 ≡ marks_at call 1 =
    ap (λ (t : Term). marks_at t 0) same ∙ doubled_marks clauses head is ∙ sym (ap (λ (t : Term). marks_at t 1) same) in
    let told = (is_look s solves.1).print in
    let one : MarksTell look.print.first (marks_at call 1) = subst (MarksTell look.print.first) twice told.first in
    true≢false (sym apart ∙ all_meet look.print.first look.print.second (marks_at call 1) one told.second)
