-- What is owed when one cell more is set, and what it comes to in the end.
use Rattle.std.proofs.Common.{ℕ, ◌≡◌, ◌≢◌, ◌<◌, List, [], ◌∷◌, ◌++◌, length, set, refl, sym, ap, subst, ◌∙◌, ◌⊎◌, inl, inr, arith, false}
use Rattle.std.specs.Prelude.{All}
use Rattle.std.proofs.lemmas.List.Elements.{All-push, All-weaker}
use Rattle.std.proofs.Math.ListN.{length-set}
use Rattle.and_model.specs.declared.numbers.NodeNo.{NodeNo}
use Rattle.and_model.specs.declared.reference.Ref.{Ref}
use Rattle.and_model.specs.declared.reference.Ref.TheVariants.{Free, Cell, Node, Number, Half}
use Rattle.and_program.specs.Loaded.{arguments_at}
use Rattle.and_cells.specs.Ranges.{NamedProgram}
use Rattle.and_cells.specs.Seen.{word_at}
use Rattle.and_cells.specs.Ends.{Ends}
use Rattle.and_cells.proofs.Keeping.{word_set_here, word_set_other}
use Rattle.and_circles.proofs.Sufficing.{structure_ends}
use Rattle.and_unify.specs.Settling.{EndsFrom}
use Rattle.and_heads.specs.declared.owing.Owed.{Owed}
use Rattle.and_heads.specs.declared.owing.Owed.TheVariants.{Nothing, One, Several}
use Rattle.and_heads.specs.Owing.{EndsAt, EndsAtWord, with_one, Owes, AreOwed}
use Rattle.and_heads.proofs.Looking.{number_word, cell_word, node_word}

-- A list that was made room on, and is longer by one.
pub one_longer : (xs ys zs : List ℕ) (cell : ℕ) → zs ≡ ys ++ cell ∷ [] → ys ≡ xs → zs ≡ xs ++ cell ∷ []
one_longer xs ys zs cell put same = put ∙ ap (λ (ns : List ℕ). ns ++ cell ∷ []) same

module _ (P : NamedProgram) (floor : ℕ) where
  module _ (row : List Ref) (cell : ℕ) (to : Ref) (below : cell < length row) (free : word_at row cell ≡ Free) where
    -- A cell that ends at its word does so when another one was set,
    word_stays : (other : ℕ) → EndsAtWord P floor row other → EndsAtWord P floor (set row cell to) other
    word_stays other ends =
        let differ : other ≢ cell = λ same. subst (EndsAt P floor other) (ap (word_at row) same ∙ free) ends in
        subst (EndsAt P floor other) (sym (word_set_other row cell other to differ)) ends

    -- and this one does if it ends at what it was set to.
    word_here : EndsAt P floor cell to → EndsAtWord P floor (set row cell to) cell
    word_here ends = subst (EndsAt P floor cell) (sym (word_set_here row cell cell to below refl)) ends

    in_row : (other : ℕ) → other < length row → other < length (set row cell to)
    in_row other low = subst (λ (n : ℕ). other < n) (sym (length-set row cell to)) low

    module _ (bound : List ℕ) where
      -- It ends, so that no more is owed than before,
      as_before : (owed : Owed) → EndsAt P floor cell to → AreOwed P floor row bound owed → AreOwed P floor (set row cell to) (bound ++ cell ∷ []) owed
      as_before Nothing ends all =
          All-push (EndsAtWord P floor (set row cell to)) bound cell
          (All-weaker (EndsAtWord P floor row) (EndsAtWord P floor (set row cell to)) word_stays bound all) (word_here ends)
      as_before (One first) ends all = (
        in_row first all.0,
        All-push (λ (other : ℕ). (other ≡ first) ⊎ EndsAtWord P floor (set row cell to) other) bound cell
            (All-weaker (λ (other : ℕ). (other ≡ first) ⊎ EndsAtWord P floor row other)
            (λ (other : ℕ). (other ≡ first) ⊎ EndsAtWord P floor (set row cell to) other)
            (λ other or. elim or [ inl same ↦ inl same | inr word ↦ inr (word_stays other word) ]) bound all.1) (inr (word_here ends)),
      )
      as_before Several ends all = tt

      -- or it is owed too.
      with_this : (owed : Owed) → AreOwed P floor row bound owed → AreOwed P floor (set row cell to) (bound ++ cell ∷ []) (with_one owed cell)
      with_this Nothing all = (
        in_row cell below,
        All-push (λ (other : ℕ). (other ≡ cell) ⊎ EndsAtWord P floor (set row cell to) other) bound cell
            (All-weaker (EndsAtWord P floor row) (λ (other : ℕ). (other ≡ cell) ⊎ EndsAtWord P floor (set row cell to) other)
            (λ other word. inr (word_stays other word)) bound all) (inl refl),
      )
      with_this (One first) all = tt
      with_this Several all = tt

      pub one_more : (old new : Owed) → Owes P floor cell to old new → AreOwed P floor row bound old
          → AreOwed P floor (set row cell to) (bound ++ cell ∷ []) new
      one_more old new owes all = elim owes [
        | inl same ↦ subst (AreOwed P floor (set row cell to) (bound ++ cell ∷ [])) (sym same.0) (as_before old same.1 all)
        | inr more ↦ subst (AreOwed P floor (set row cell to) (bound ++ cell ∷ [])) (sym more) (with_this old all)
      ]

  module _ (row : List Ref) where
    module _ (cell : ℕ) where
      -- Each path from a cell that ends at its word ends.
      ended_at : (word : Ref) → word ≡ word_at row cell → EndsAt P floor cell word → EndsFrom P row floor cell
      ended_at Free is ends = elim ends [ ]
      ended_at (Cell other) is ends = (
        λ low. let high = ends.0 in absurd (omega (arith, low, high)),
        λ _. cell_word P row floor cell (Cell other) is other refl (Ends.low (Cell other) ends.1),
      )
      ended_at (Node node base) is (inl ends) = (
        λ low. let high = ends.0 in absurd (omega (arith, low, high)),
        λ _. node_word P row floor cell (Node node base) is node base refl (Ends.low (Node node base) ends.1),
      )
      ended_at (Node node base) is (inr none) = (
        λ _. node_word P row 0 cell (Node node base) is node base refl (bare node base none 0),
        λ _. node_word P row floor cell (Node node base) is node base refl (bare node base none floor),
      )
        where
          bare : (node : NodeNo) (base : ℕ) → length (arguments_at P.skeleton node.0) ≡ 0 → (from : ℕ) → Ends P row from false (Node node base)
          bare node base none from = structure_ends P row node base from (λ place below. absurd (omega (arith, below, none)))
      ended_at (Number pair) is ends = (
        λ _. number_word P row 0 cell (Number pair) is pair refl,
        λ _. number_word P row floor cell (Number pair) is pair refl,
      )
      ended_at (Half bits) is ends = elim ends [ ]

    ended : (cell : ℕ) → EndsAtWord P floor row cell → EndsFrom P row floor cell
    ended cell ends = ended_at cell (word_at row cell) refl ends

    -- So all do where nothing is owed,
    pub all_ended : (bound : List ℕ) → All (EndsAtWord P floor row) bound → All (EndsFrom P row floor) bound
    all_ended bound all = All-weaker (EndsAtWord P floor row) (EndsFrom P row floor) ended bound all

    -- or one alone, of which it is seen.
    pub all_but_one : (bound : List ℕ) (cell : ℕ) → All (λ (other : ℕ). (other ≡ cell) ⊎ EndsAtWord P floor row other) bound → EndsFrom P row floor cell
        → All (EndsFrom P row floor) bound
    all_but_one bound cell all ends =
        All-weaker (λ (other : ℕ). (other ≡ cell) ⊎ EndsAtWord P floor row other) (EndsFrom P row floor)
        (λ other or. elim or [ inl same ↦ subst (EndsFrom P row floor) (sym same) ends | inr word ↦ ended other word ]) bound all
