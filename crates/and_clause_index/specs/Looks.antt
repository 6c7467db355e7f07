-- What a look at a call tells of it, and which clauses it leaves.
use Rattle.std.specs.Prelude.{ℕ, ◌≡◌, ◌≢◌, ◌⊎◌, false, List, Some}
use Rattle.and_model.specs.Terms.{Term, Substitution, apply}
use Rattle.and_model.specs.Solutions.{Solves}
use Rattle.and_model.specs.Store.{is_half}
use Rattle.and_model.specs.declared.numbers.ClauseNo.{ClauseNo}
use Rattle.and_model.specs.declared.reference.Ref.{Ref}
use Rattle.and_program.specs.Shown.{shown_term, argument_of}
use Rattle.and_program.specs.Skeletons.{node_term}
use Rattle.and_program.specs.declared.node.NodeKind.{NodeKind}
use Rattle.and_program.specs.declared.node.NodeKind.TheVariants.{Variable, Number, Compound}
use Rattle.and_cells.specs.Ranges.{NamedProgram}
use Rattle.and_cells.specs.Seen.{Seen, Knows, IsSetTo, word_at}
use Rattle.and_cells.specs.Meaning.{equations_of}
use Rattle.and_cells.specs.Joined.{value}
use Rattle.and_branch_laws.specs.Variables.{placed}
use Rattle.and_clause_index.specs.Prints.{mark, argument_kind, marks_at, print_of, are_apart, Tells, MarksTell}
use Rattle.and_clause_index.specs.Prints.{PrintTells}
use Rattle.and_clause_index.specs.Tables.{print_at}
use Rattle.and_clause_index.specs.declared.looking.Glimpse.{Glimpse}
use Rattle.and_clause_index.specs.declared.looking.Look.{Look}
use Rattle.and_clause_index.specs.declared.table.Determinacy.{Determinacy}

-- The term begins so. A variable says nothing.
abbrev pub Fits : NodeKind → Term → Type 0
Fits (Variable k) t = Unit {0}
Fits (Number z) t = shown_term t ≡ Number z
Fits (Compound c n) t = shown_term t ≡ Compound c n

-- What is known of a term differs from what a term of a head begins with.
abbrev pub KindsDiffer : NodeKind → NodeKind → Type 0
KindsDiffer (Variable k) head = ⊥
KindsDiffer (Number z) (Variable k) = ⊥
KindsDiffer (Number z) (Number y) = z ≢ y
KindsDiffer (Number z) (Compound d m) = Unit {0}
KindsDiffer (Compound c n) (Variable k) = ⊥
KindsDiffer (Compound c n) (Number y) = Unit {0}
KindsDiffer (Compound c n) (Compound d m) = (c.0 ≢ d.0) ⊎ (n ≢ m)

-- The call is as was seen.
pub record Shows (look : Look) (call : Term) : Type 0 where
  pub first : Fits look.first (argument_of call 0)
  pub print : PrintTells look.print (print_of call)

-- So it is under whatever solves the equations of the row: this was seen of the node in the frame at the base.
abbrev pub IsLook : NamedProgram → List Ref → (node base : ℕ) → Look → Type 0
IsLook P row node base look =
    (s : Substitution) → Solves s (equations_of P row)
    → Shows look (apply s (placed base (node_term P.skeleton.nodes node)))

-- What is known is set in the row.
abbrev pub IsSeenIn : Seen → List Ref → Type 0
IsSeenIn s row = (place : ℕ) (r : Ref) → Knows s place r → IsSetTo row place r

-- It is so of whatever solves the equations of a row that has what is known.
abbrev pub IsCertain : NamedProgram → Seen → (Substitution → Type 0) → Type 0
IsCertain P seen Q = (row : List Ref) → IsSeenIn seen row → (s : Substitution) → Solves s (equations_of P row) → Q s

-- This was seen of the node in the frame at the base, over cells that others may set too: it is a look in each row
-- that has what is known.
abbrev pub IsLookOver : NamedProgram → Seen → (node base : ℕ) → Look → Type 0
IsLookOver P seen node base look = (row : List Ref) → IsSeenIn seen row → IsLook P row node base look

-- The print of the clause's head does not tell it apart from what was seen.
abbrev pub IsLeft : Determinacy → Look → ClauseNo → Type 0
IsLeft table look c = are_apart look.print (print_at table c.0) ≡ false

-- ---- While it is taken

-- A substitution gives the end of a chain this value, if it is no word of a pair.
abbrev pub MayBe : NamedProgram → List Ref → Substitution → (at : Ref) → Term → Type 0
MayBe P row s at t = is_half at ≡ false → value P (word_at row) s at ≡ Some t

-- The term begins as was seen, and so do its first two arguments.
pub record IsGlimpse (glimpse : Glimpse) (t : Term) : Type 0 where
  pub kind : Fits glimpse.kind t
  pub own : Tells glimpse.marks.own (mark (shown_term t))
  pub first : Tells glimpse.marks.first (mark (argument_kind t 0))
  pub second : Tells glimpse.marks.second (mark (argument_kind t 1))

-- So does the argument of a term at a place, if there is one.
pub record IsGlimpseAt (glimpse : Glimpse) (t : Term) (j : ℕ) : Type 0 where
  pub kind : Fits glimpse.kind (argument_of t j)
  pub marks : MarksTell glimpse.marks (marks_at t j)
