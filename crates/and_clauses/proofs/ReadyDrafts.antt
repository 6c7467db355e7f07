-- What was judged is ready to be made.
use Rattle.std.proofs.Common.{ℕ, ◌≡◌, ◌≤◌, List, [], ◌∷◌, length, Option, refl, ap, ◌∙◌, arith}
use Rattle.and_model.specs.Lines.{Bytes}
use Rattle.and_syntax.specs.Written.{Written, named}
use Rattle.and_syntax.specs.Clauses.{Parts}
use Rattle.and_syntax.specs.Tables.{Table, empty}
use Rattle.and_program.specs.Skeletons.{Shape}
use Rattle.and_program.specs.declared.entry.ClauseEntry.{ClauseEntry}
use Rattle.and_drafts.specs.Drafts.{draft_of}
use Rattle.and_drafts.specs.Numbered.{Extends}
use Rattle.and_clauses.specs.Kept.{IsKept}
use Rattle.and_judging.specs.Verdicts.{IsUnder, IsJudged}
use Rattle.and_clauses.specs.Makes.{HasRoom, AreSides, IsReady}
use Rattle.and_judging.specs.declared.data.Called.{Called}
use Rattle.and_drafts.specs.declared.draft.ClauseDraft.{ClauseDraft}
use Rattle.and_judging.specs.declared.judging.Judged.{Judged}
use Rattle.and_judging.specs.declared.judging.Used.{Used}
use Rattle.and_clauses.proofs.AddedClauses.{named-le}
use Rattle.and_clauses.proofs.Keeping.{sized_table}
use Rattle.and_clauses.proofs.MadeClauses.{within_more}

-- the one term
pub one_of : {X : Type 0} (xs : List X) → length xs ≡ 1 → (x : X) × (xs ≡ x ∷ [])
one_of [] e = absurd (omega (arith, e))
one_of (x ∷ []) e = (x, refl)
one_of (x ∷ y ∷ xs) e = absurd (omega (arith, e))

-- a table that has so much, and the one that is kept
abbrev pub some_table : List Bytes → Used → Table
some_table names used = sized_table empty names used

pub under_some : (w : Written) (old names : List Bytes) (used : Used) → names ≡ named old w → IsUnder (some_table old used) w names used
under_some w old names used e = record { names_are = e; nodes = refl; numbers = refl; disjunctions = refl }

pub under_kept : (ss : List Shape) (es : List ClauseEntry) (query : Option ClauseEntry) (calls : List Called) (old names : List Bytes) (used : Used) (T : Table)
    (w : Written) → IsKept ss es query calls old used T → names ≡ named old w → IsUnder T w names used
under_kept ss es query calls old names used T w k e = record {
  names_are = e ∙ ap (λ xs. named xs w) k.all_names;
  nodes = k.all_nodes;
  numbers = k.all_numbers;
  disjunctions = k.all_disjunctions;
}

longer : (xs ys : List Bytes) → Extends xs ys → length xs ≤ length ys
longer [] ys e = omega arith
longer (x ∷ xs) [] e = absurd (omega (arith, ap length e))
longer (x ∷ xs) (y ∷ ys) e = let rest : Extends xs ys = cc in omega (arith, longer xs ys rest)

pub ready_made : (T : Table) (w : Written) (ps : Parts) (c n : ℕ) (old names : List Bytes) (us : List Shape) (used : Used) (d : ClauseDraft) (j : Judged)
    (head : Option ℕ) → (draft_of d).finished ≡ w ∷ [] → T.names ≡ old → IsUnder T w names used → Extends old names → HasRoom us old used
    → IsJudged T w d.parts.items ps c n j → AreSides T w d.parts.items head ps → IsReady T w ps c n names us d j head used.disjunctions
ready_made T w ps c n old names us used d j head one names_old under grown room judged sides = record {
  one = one;
  names_are = under.names_are;
  judged = judged;
  sides = sides;
  begins = room.begins;
  falls = room.falls;
  within = within_more (length old) (length names) us (longer old names grown) room.within;
  first_is = under.disjunctions;
  few_nodes = omega (arith, room.few_nodes, under.nodes);
  few_names = omega (arith, ap length under.names_are, named-le T.names w, ap length names_old, room.few_names, under.nodes);
  few_disjunctions = omega (arith, under.disjunctions, under.nodes, room.few_disjunctions);
}
