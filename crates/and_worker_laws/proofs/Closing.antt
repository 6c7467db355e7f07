-- What a phase leaves is a branch of the tree with which it ends.
use Rattle.std.proofs.Common.{ℕ, ◌+◌, ◌<◌, ◌≡◌, ◌≢◌, true, false, not, List, [], ◌∷◌, ◌++◌, map, length, refl, ap, sym, subst, ◌∙◌, inl, inr, arith, Contains}
use Rattle.std.specs.Prelude.{All, AllPairs}
use Rattle.std.proofs.lemmas.List.Elements.{All-contains}
use Rattle.std.proofs.lemmas.List.Kept.{AllPairs-cons}
use Rattle.and_model.specs.Terms.{Path, Substitution}
use Rattle.and_model.specs.Solutions.{Equation, Solves, Entails}
use Rattle.and_model.specs.Programs.{clause_at}
use Rattle.and_model.specs.Trees.{QueryTree, equations, weight}
use Rattle.and_model.specs.Reductions.{Reduction, Makes}
use Rattle.and_model.specs.Stands.{Framed, IsFramed}
use Rattle.and_model.specs.Store.{is_half}
use Rattle.and_model.specs.declared.goal.Goal.{Goal}
use Rattle.and_model.specs.declared.reference.Ref.{Ref}
use Rattle.and_laws.specs.Naming.{under}
use Rattle.and_laws.proofs.Equality.{bool_cases}
use Rattle.and_laws.proofs.Pairwise.{all_pairs_none, all_pairs_first, all_pairs_rest}
use Rattle.and_laws.proofs.Printing.{same_path_true}
use Rattle.and_laws.proofs.Solving.{solves_join, solves_front, solves_back}
use Rattle.and_laws.proofs.Substitutions.{then}
use Rattle.and_model.specs.Lines.{same_path}
use Rattle.and_cells.specs.Ranges.{NamedProgram, IsGoalInRange}
use Rattle.and_cells.specs.Seen.{word_at}
use Rattle.and_cells.specs.Meaning.{cell_variable, equations_of}
use Rattle.and_cells.proofs.Among.{among_map}
use Rattle.and_phase_laws.specs.Sharing.{Meant, Alike}
use Rattle.and_branch_laws.specs.OwnVariables.{OwnVariables}
use Rattle.and_branch_laws.specs.Variables.{EquationsSpeakOf, IsVariable, IsWholeCell}
use Rattle.and_branch_laws.specs.Tasks.{tasks, RanAmong}
use Rattle.and_branch_laws.specs.Kept.{HasFreePair, node_item_at, goal_of, task_of, Unsettled}
use Rattle.and_branch_laws.proofs.Growing.{left_speaks}
use Rattle.and_branch_laws.proofs.Lists.{all_of}
use Rattle.and_branch_laws.proofs.Naming.{variables_fit}
use Rattle.and_branch_laws.proofs.Places.{frame_within}
use Rattle.and_branch_laws.proofs.Speaking.{equations_speak_more, equations_speak_join, under_then, then_under}
use Rattle.and_worker_laws.specs.PhaseCells.{IsNamedCell, all_but, put_apart, cell_equations}
use Rattle.and_worker_laws.proofs.PhaseCells.{alike_cells}
use Rattle.and_worker_laws.specs.Acts.{Act, RunInCells, weight_taken}
use Rattle.and_worker_laws.specs.Facts.{known_by}
use Rattle.and_worker_laws.specs.Leavings.{IsCellOf, IsLeftIn, AreReady}
use Rattle.and_worker_laws.proofs.Opening.{HasCells}

-- ---- Lists that were mapped

pub all_mapped : {X Y : Type 0} (Q : Y → Type 0) (f : X → Y) (xs : List X) (ys : List Y) → map f xs ≡ ys → All Q ys → All (λ (x : X). Q (f x)) xs
all_mapped Q f xs ys e all = all_of (λ x. Q (f x)) xs (λ x h. All-contains Q ys (f x) all (subst (λ l. Contains l (f x)) e (among_map f x xs h)))

pairs_mapped : {X Y : Type 0} (R : Y → Y → Type 0) (f : X → Y) (xs : List X) → AllPairs R (map f xs) → AllPairs (λ (x y : X). R (f x) (f y)) xs
pairs_mapped R f [] p = all_pairs_none (λ x y. R (f x) (f y))
pairs_mapped R f (x ∷ xs) p =
    AllPairs-cons (λ y z. R (f y) (f z)) x xs (all_mapped (R (f x)) f xs (map f xs) refl (all_pairs_first R (f x) (map f xs) p))
    (pairs_mapped R f xs (all_pairs_rest R (f x) (map f xs) p))

-- ---- What is left in the cells

module _ (P : NamedProgram) (own : OwnVariables P) (all : List Reduction) (u : QueryTree P.program) (made : Makes P.program all u)
    (c : HasCells P all) (used : ℕ) (cells : List Equation) (acts : List Act) (runs : List RunInCells) (weighs : weight u ≡ used + weight_taken P.program acts)
    (row : List Ref) (pairs : List Equation) (l : IsLeftIn P all used cells acts runs row pairs) where
  pub row_long : length row ≡ weight u
  row_long = l.long ∙ sym weighs

  -- A cell of the tree's variables is a whole cell of the row,
  whole_cell : (v : Path × ℕ) → IsCellOf P all v → IsWholeCell row v
  whole_cell v i =
      let is = i.is in
      let within = frame_within P.program all u made is.node is.clause is.clause_is in
      let fits = variables_fit (clause_at P.program is.clause) in
      let low = is.own in
      let at = i.at in
      let long : length row ≡ weight u = row_long in
      let below : v.1 < length row = omega arith in
      (i.cell, below, subst (λ (n : ℕ). is_half (word_at row n) ≡ false) (sym at) (l.whole i.variable is))

  -- and stands for a variable that has it.
  named_cell : (v : Path × ℕ) → IsCellOf P all v → IsNamedCell c.cells v
  named_cell v i =
      let is = i.is in
      let are = c.are in
      let (n, at) = are.all i.variable is in
      let here : cell_variable n ≡ cell_variable (is.node + 1 + i.variable.1) =
      sym (are.named i.variable n at is) ∙ c.named is.node i.variable.0 is.place i.variable.1 in
      let same : n ≡ is.node + 1 + i.variable.1 = cc in
      (i.cell, (i.variable, subst (λ (m : ℕ). Contains c.cells (i.variable, m)) (same ∙ sym i.at) at))

  pub speak_of_cells : EquationsSpeakOf (IsNamedCell c.cells) (equations_of P row ++ pairs)
  speak_of_cells = equations_speak_join (IsNamedCell c.cells) (equations_of P row) pairs
      (equations_speak_more (IsCellOf P all) (IsNamedCell c.cells) named_cell (equations_of P row) l.row_speaks)
      (equations_speak_more (IsCellOf P all) (IsNamedCell c.cells) named_cell pairs l.pairs_speak)

  -- The row and the pairs state, apart, what is known and the pairs do.
  abbrev known_apart : List Equation
  known_apart = under (put_apart c.apart) pairs ++ (under (put_apart c.apart) (known_by cells acts) ++ cell_equations c.apart c.cells)

  abbrev row_apart : List Equation
  row_apart = under (put_apart c.apart) (equations_of P row ++ pairs) ++ cell_equations c.apart c.cells

  to_known : (s : Substitution) → Solves s row_apart → Solves s known_apart
  to_known s p =
      let a : Substitution = put_apart c.apart in
      let both : Solves (then a s) (equations_of P row ++ pairs) =
      under_then a s (equations_of P row ++ pairs) (solves_front s (under a (equations_of P row ++ pairs)) (cell_equations c.apart c.cells) p) in
      solves_join s (under a pairs) (under a (known_by cells acts) ++ cell_equations c.apart c.cells)
      (then_under a s pairs (solves_back (then a s) (equations_of P row) pairs both))
      (solves_join s (under a (known_by cells acts)) (cell_equations c.apart c.cells)
      (then_under a s (known_by cells acts) (l.states (then a s) (solves_front (then a s) (equations_of P row) pairs both)))
      (solves_back s (under a (equations_of P row ++ pairs)) (cell_equations c.apart c.cells) p))

  to_row : (s : Substitution) → Solves s known_apart → Solves s row_apart
  to_row s p =
      let a : Substitution = put_apart c.apart in
      let rest : Solves s (under a (known_by cells acts) ++ cell_equations c.apart c.cells) =
      solves_back s (under a pairs) (under a (known_by cells acts) ++ cell_equations c.apart c.cells) p in
      let of_row : Solves (then a s) (equations_of P row) =
      l.stated_by (then a s) (under_then a s (known_by cells acts) (solves_front s (under a (known_by cells acts)) (cell_equations c.apart c.cells) rest)) in
      let of_pairs : Solves (then a s) pairs =
      under_then a s pairs (solves_front s (under a pairs) (under a (known_by cells acts) ++ cell_equations c.apart c.cells) p) in
      solves_join s (under a (equations_of P row ++ pairs)) (cell_equations c.apart c.cells)
      (then_under a s (equations_of P row ++ pairs) (solves_join (then a s) (equations_of P row) pairs of_row of_pairs))
      (solves_back s (under a (known_by cells acts)) (cell_equations c.apart c.cells) rest)

  row_alike : (meant : Meant) (solved : List Equation) → Alike meant known_apart solved → Alike meant row_apart solved
  row_alike meant solved a = (
    λ s p. a.0 s (to_known s p),
    λ s p. let (r, q, agree) = a.1 s p in (r, to_row r q, agree),
  )

  cells_meant : (v : Path × ℕ) (n : ℕ) → Contains c.cells (v, n) → all_but c.apart v.0 v.1 ≡ true
  cells_meant v n i =
      let are = c.are in
      elim (bool_cases (same_path v.0 c.apart)) [
        | inl is ↦ absurd (are.elsewhere v n i (same_path_true v.0 c.apart is))
        | inr is ↦ ap not is
      ]

  -- ---- and of the goals

  module _ (left : List Goal) (ready : AreReady P row left) (rest : List Framed) (goals_are : map goal_of rest ≡ left) (framed : All (IsFramed all) rest)
      (based : All (λ (f : Framed). f.goal.base ≡ f.goal.node) rest) (once : AllPairs (λ (g h : Goal). g ≢ h) left)
      (solved : List Equation) (ran : RanAmong (equations u) (tasks u) solved (map (task_of P.program) rest))
      (meant : Meant) (meant_are : meant ≡ all_but c.apart) (alike : Alike meant known_apart solved) where
    pub entails_both : Entails (equations_of P row ++ pairs) (under c.names solved) × Entails (under c.names solved) (equations_of P row ++ pairs)
    entails_both =
        alike_cells (IsVariable P all) c.names c.apart c.cells c.are (all_but c.apart) (equations_of P row ++ pairs) solved
        (left_speaks P own all u made solved (map (task_of P.program) rest) ran).0 speak_of_cells c.only cells_meant
        (row_alike (all_but c.apart) solved (subst (λ (m : Meant). Alike m known_apart solved) meant_are alike))

    pub unsettled : Unsettled P all row pairs rest u
    unsettled = record {
      has = record {
        made = made;
        long = row_long;
        sound = l.sound;
        framed = framed;
        based = based;
        in_range = all_mapped (IsGoalInRange P (length row)) goal_of rest left goals_are ready.in_range;
        once = pairs_mapped (λ (g h : Goal). g ≢ h) goal_of rest (subst (λ (gs : List Goal). AllPairs (λ (g h : Goal). g ≢ h) gs) (sym goals_are) once);
        solved = solved;
        ran = ran;
        names = c.names;
        named = c.named;
        whole = l.whole;
        free = all_mapped (λ (g : Goal). HasFreePair P row g (node_item_at P g)) goal_of rest left goals_are ready.free;
      };
      speaks = equations_speak_more (IsCellOf P all) (IsWholeCell row) whole_cell pairs l.pairs_speak;
      states = entails_both.0;
      stated = entails_both.1;
    }
