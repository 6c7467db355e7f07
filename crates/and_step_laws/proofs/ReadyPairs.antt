-- Pairs that can be handed to unification, and the equations that they ask for.
use Rattle.std.proofs.Common.{ℕ, suc, ℤ, ◌≡◌, false, List, [], ◌∷◌, ◌++◌, append-nil, length, refl, sym, ap, ◌∙◌, subst, inl, inr}
use Rattle.std.specs.Prelude.{All, Contains}
use Rattle.std.proofs.lemmas.Grind.{flat_map-append}
use Rattle.std.proofs.lemmas.List.Elements.{All-nil, All-cons, All-append, Contains-append_cases}
use Rattle.and_model.specs.Terms.{number}
use Rattle.and_model.specs.Solutions.{Equation}
use Rattle.and_model.specs.Store.{is_half}
use Rattle.and_model.specs.declared.reference.Ref.{Ref}
use Rattle.and_model.specs.declared.reference.Ref.TheVariants.{Free, Number}
use Rattle.and_program.specs.Skeletons.{node_term, AllFall}
use Rattle.and_laws.proofs.Ordered.{contains_none}
use Rattle.and_cells.specs.Ranges.{NamedProgram, IsInRange, IsPairInRange}
use Rattle.and_cells.specs.Rows.{plain}
use Rattle.and_cells.specs.Seen.{word_at, IsSetTo, IsWrittenIfNumber}
use Rattle.and_cells.specs.Meaning.{shallow_cells, equations_between}
use Rattle.and_cells.specs.Parts.{part_at}
use Rattle.and_branch_laws.specs.Settling.{IsWritten}
use Rattle.and_branch_laws.specs.Variables.{placed}
use Rattle.and_branch_laws.proofs.Lists.{all_of}
use Rattle.and_branch_laws.proofs.PairEquations.{part_cells, nodes_ask, number_asks}
use Rattle.and_unify.specs.Pairs.{equations_of_pairs}
use Rattle.and_unify.specs.Settling.{KeepsBelow}
use Rattle.and_unify.specs.declared.pairs.Pair.{Pair}
use Rattle.and_branch_laws.specs.Goals.{CanBeRead}
use Rattle.and_step_laws.specs.Asking.{AreReady, Ask}
use Rattle.and_branch_laws.proofs.Resolved.{part_in_range, part_written}

-- no pairs
pub none_ready : (P : NamedProgram) (row : List Ref) (floor : ℕ) (pairs : List Pair) → pairs ≡ [] → AreReady P row floor pairs
none_ready P row floor pairs e =
    let none : AreReady P row floor [] = record {
      in_range = All-nil (λ (p : Pair). IsInRange P (length row) p.left × IsInRange P (length row) p.right);
      written = All-nil (λ (p : Pair). IsWrittenIfNumber (plain row) p.left × IsWrittenIfNumber (plain row) p.right);
      whole = All-nil (λ (p : Pair). All (λ (cell : ℕ). is_half (word_at row cell) ≡ false)
          (shallow_cells P p.left ++ shallow_cells P p.right));
      sides = All-nil (λ (p : Pair). KeepsBelow P floor p.left × KeepsBelow P floor p.right);
    } in
    subst (AreReady P row floor) (sym e) none

-- A pair that can be handed to unification, and asks for these equations.
pub record IsReady (P : NamedProgram) (row : List Ref) (floor : ℕ) (p : Pair) (es : List Equation) : Type 0 where
  pub in_range : IsInRange P (length row) p.left × IsInRange P (length row) p.right
  pub written : IsWrittenIfNumber (plain row) p.left × IsWrittenIfNumber (plain row) p.right
  pub whole : All (λ (cell : ℕ). is_half (word_at row cell) ≡ false) (shallow_cells P p.left ++ shallow_cells P p.right)
  pub sides : KeepsBelow P floor p.left × KeepsBelow P floor p.right
  pub equations : equations_between P (word_at row) p.left p.right ≡ es

-- One more of them is put at the end.
pub one_more : (P : NamedProgram) (row : List Ref) (floor : ℕ) (pairs : List Pair) (p : Pair) (es : List Equation)
    → AreReady P row floor pairs
    → IsReady P row floor p es → Ask P row floor (pairs ++ p ∷ []) (equations_of_pairs P (word_at row) pairs ++ es)
one_more P row floor pairs p es old new =
    let one : (Q : Pair → Type 0) → Q p → All Q (p ∷ []) = λ Q q. All-cons Q p [] q (All-nil Q) in
    record {
      ready = record {
        in_range = All-append (λ (q : Pair). IsInRange P (length row) q.left × IsInRange P (length row) q.right) pairs (p ∷ []) old.in_range
            (one (λ (q : Pair). IsInRange P (length row) q.left × IsInRange P (length row) q.right) new.in_range);
        written = All-append (λ (q : Pair). IsWrittenIfNumber (plain row) q.left × IsWrittenIfNumber (plain row) q.right) pairs
            (p ∷ []) old.written
            (one (λ (q : Pair). IsWrittenIfNumber (plain row) q.left × IsWrittenIfNumber (plain row) q.right) new.written);
        whole = All-append (λ (q : Pair). All (λ (cell : ℕ). is_half (word_at row cell) ≡ false)
            (shallow_cells P q.left ++ shallow_cells P q.right))
            pairs (p ∷ []) old.whole
            (one (λ (q : Pair). All (λ (cell : ℕ). is_half (word_at row cell) ≡ false) (shallow_cells P q.left ++ shallow_cells P q.right))
            new.whole);
        sides = All-append (λ (q : Pair). KeepsBelow P floor q.left × KeepsBelow P floor q.right) pairs (p ∷ []) old.sides
            (one (λ (q : Pair). KeepsBelow P floor q.left × KeepsBelow P floor q.right) new.sides);
      };
      equations =
          flat_map-append (λ (q : Pair). equations_between P (word_at row) q.left q.right) pairs (p ∷ [])
          ∙ ap (λ (ds : List Equation). equations_of_pairs P (word_at row) pairs ++ ds)
          (append-nil (equations_between P (word_at row) p.left p.right) ∙ new.equations);
    }

-- the only one
pub only_one : (P : NamedProgram) (row : List Ref) (floor : ℕ) (pairs new : List Pair) (p : Pair) (es : List Equation) → pairs ≡ []
    → new ≡ pairs ++ p ∷ [] → IsReady P row floor p es → Ask P row floor new es
only_one P row floor pairs new p es none is ready =
    let asked : Ask P row floor (p ∷ []) es = one_more P row floor [] p es (none_ready P row floor [] refl) ready in
    subst (λ (ps : List Pair). Ask P row floor ps es) (sym (is ∙ ap (λ (ps : List Pair). ps ++ p ∷ []) none)) asked

-- no cell of a node that can be read is a word of a pair
part_whole : (P : NamedProgram) (row : List Ref) (base n : ℕ) → AllFall 0 P.skeleton.nodes → CanBeRead P row base n → (cell : ℕ)
    → Contains (shallow_cells P (part_at P base n)) cell → is_half (word_at row cell) ≡ false
part_whole P row base n fall reads cell c =
    let (v, at, is) = part_cells P base n fall cell c in
    ap (λ (m : ℕ). is_half (word_at row m)) is ∙ reads.whole v at

-- Two nodes that can be read in their frames, of which none goes across the floor.
pub nodes_ready : (P : NamedProgram) (row : List Ref) (floor b n d m : ℕ) → AllFall 0 P.skeleton.nodes → CanBeRead P row b n
    → CanBeRead P row d m → KeepsBelow P floor (part_at P b n) → KeepsBelow P floor (part_at P d m)
    → IsReady P row floor (record { left = part_at P b n; right = part_at P d m })
    ((placed b (node_term P.skeleton.nodes n), placed d (node_term P.skeleton.nodes m)) ∷ [])
nodes_ready P row floor b n d m fall left right one other = record {
  in_range = (part_in_range P (length row) n b fall left.in_range, part_in_range P (length row) m d fall right.in_range);
  written = (part_written P (plain row) b n, part_written P (plain row) d m);
  whole = all_of (λ (cell : ℕ). is_half (word_at row cell) ≡ false) (shallow_cells P (part_at P b n) ++ shallow_cells P (part_at P d m))
      (λ cell c. elim (Contains-append_cases (shallow_cells P (part_at P b n)) (shallow_cells P (part_at P d m)) cell c) [
        | inl i ↦ part_whole P row b n fall left cell i
        | inr i ↦ part_whole P row d m fall right cell i
      ]);
  sides = (one, other);
  equations = nodes_ask P (word_at row) b n d m fall left.whole right.whole;
}

-- A node and a number that was written.
pub number_ready : (P : NamedProgram) (old row : List Ref) (floor b n pair : ℕ) (z : ℤ) → AllFall 0 P.skeleton.nodes
    → IsWritten old row pair z
    → IsPairInRange (length row) pair → CanBeRead P row b n → KeepsBelow P floor (part_at P b n)
    → IsReady P row floor (record { left = part_at P b n; right = Number pair }) ((placed b (node_term P.skeleton.nodes n), number z) ∷ [])
number_ready P old row floor b n pair z fall written there left one = record {
  in_range = (part_in_range P (length row) n b fall left.in_range, there);
  written = (
    part_written P (plain row) b n,
    λ other e.
        let same : pair ≡ other = cc in
        let set : (place : ℕ) → (word_at row place ≡ Free → ⊥)
        → (r : Ref) × IsSetTo row place r = λ place some. (word_at row place, (refl, some)) in
        inl (
          subst (λ (p : ℕ). (r : Ref) × IsSetTo row p r) same (set pair (λ free. let both = sym written.high ∙ free in cc)),
          subst (λ (p : ℕ). (r : Ref) × IsSetTo row (suc p) r) same (set (suc pair) (λ free. let both = sym written.low ∙ free in cc)),
        ),
  );
  whole = all_of (λ (cell : ℕ). is_half (word_at row cell) ≡ false) (shallow_cells P (part_at P b n) ++ [])
      (λ cell c. elim (Contains-append_cases (shallow_cells P (part_at P b n)) [] cell c) [
        | inl i ↦ part_whole P row b n fall left cell i
        | inr i ↦ absurd (contains_none cell i)
      ]);
  sides = (one, λ below. elim below [ ]);
  equations = number_asks P old row b n pair z fall written left.whole;
}
