-- Paths that end at a look.
use Rattle.std.proofs.Common.{ℕ, ◌≡◌, ◌<◌, suc, false, sym, ◌∙◌, subst, inl, inr, List, length, arith}
use Rattle.std.specs.Prelude.{◌≢◌}
use Rattle.std.proofs.lemmas.Bool.{cases_lt}
use Rattle.and_model.specs.declared.numbers.NodeNo.{NodeNo}
use Rattle.and_model.specs.declared.reference.Ref.{Ref}
use Rattle.and_model.specs.declared.reference.Ref.TheVariants.{Free, Cell, Node, Number}
use Rattle.and_program.specs.Loaded.{arguments_at}
use Rattle.and_program.specs.Skeletons.{AllFall}
use Rattle.and_cells.specs.Ranges.{NamedProgram, IsInRange}
use Rattle.and_cells.specs.Seen.{word_at}
use Rattle.and_cells.specs.Ends.{Ends}
use Rattle.and_circles.specs.Following.{argument_part}
use Rattle.and_circles.proofs.Sufficing.{part_fits, structure_ends}
use Rattle.and_heads.specs.Ending.{GoesOn}

module _ (P : NamedProgram) (row : List Ref) (floor cell : ℕ) (word : Ref) (is : word ≡ word_at row cell) where
  -- The word is free,
  pub free_word : word ≡ Free → Ends P row floor false (Cell cell)
  free_word none = Ends.free cell (sym is ∙ none)

  -- or a number,
  pub number_word : (pair : ℕ) → word ≡ Number pair → Ends P row floor false (Cell cell)
  number_word pair here = Ends.set cell (Number pair) (sym is ∙ here, λ e. absurd (cc)) (Ends.number pair)

  -- or a cell from which it ends,
  pub cell_word : (other : ℕ) → word ≡ Cell other → Ends P row floor false (Cell other) → Ends P row floor false (Cell cell)
  cell_word other here ends = Ends.set cell (Cell other) (sym is ∙ here, λ e. absurd (cc)) ends

  -- or a structure.
  pub node_word : (node : NodeNo) (base : ℕ) → word ≡ Node node base → Ends P row floor false (Node node base) → Ends P row floor false (Cell cell)
  node_word node base here ends = Ends.set cell (Node node base) (sym is ∙ here, λ e. absurd (cc)) ends

-- A path that goes on at a cell or at a structure to which a cell is set.
pub word_goes_on : (P : NamedProgram) (row : List Ref) (floor cell : ℕ) (word next : Ref) → word ≡ word_at row cell → word ≢ Free → word ≡ next
    → IsInRange P (length row) word → GoesOn P row floor (Cell cell) next
word_goes_on P row floor cell word next is set same fits = record {
  in_range = subst (IsInRange P (length row)) same fits;
  ends = λ ends. Ends.set cell next (sym is ∙ same, λ e. set (same ∙ e)) ends;
}

-- A path that goes on at the last part of a structure, where all others end.
pub part_goes_on : (P : NamedProgram) (row : List Ref) (floor : ℕ) (node : NodeNo) (base last : ℕ) (part next : Ref) → AllFall 0 P.skeleton.nodes
    → IsInRange P (length row) (Node node base) → length (arguments_at P.skeleton node.0) ≡ suc last → part ≡ argument_part P node base last → part ≡ next
    → ((k : ℕ) → k < last → Ends P row floor false (argument_part P node base k)) → GoesOn P row floor (Node node base) next
part_goes_on P row floor node base last part next falls fits count is same others = record {
  in_range = subst (IsInRange P (length row)) (sym is ∙ same) (part_fits P row node base falls fits last (omega arith));
  ends = λ ends. structure_ends P row node base floor (λ k below. each ends k below);
}
  where
    each : Ends P row floor false next → (k : ℕ) → k < length (arguments_at P.skeleton node.0) → Ends P row floor false (argument_part P node base k)
    each ends k below = elim (cases_lt k last) [
      | inl before ↦ others k before
      | inr past ↦
          let here : last ≡ k = omega arith in
          subst (λ n. Ends P row floor false (argument_part P node base n)) here (subst (Ends P row floor false) (sym same ∙ is) ends)
    ]
