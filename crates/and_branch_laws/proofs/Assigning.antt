-- A branch that ran an `is` goal, wrote its number, and settled its left side with that, keeps what a branch keeps.
use Rattle.std.proofs.Common.{ℕ, ℤ, suc, ◌+◌, ◌≡◌, ◌<◌, ◌≤◌, false, List, [], ◌∷◌, ◌++◌, length, map, Some, refl, sym, ap, ◌∙◌, subst, inl}
use Rattle.std.proofs.Common.{inr, ◌⊎◌, arith, Contains}
use Rattle.std.proofs.lemmas.List.Elements.{All-contains}
use Rattle.and_model.specs.Terms.{Path, Term, number, none, more, apply, framed}
use Rattle.and_model.specs.Solutions.{Equation, Solvable, Entails}
use Rattle.and_model.specs.Arithmetic.{value}
use Rattle.and_model.specs.Programs.{arithmetic, is, clause_at, clause_weight}
use Rattle.and_model.specs.Closure.{equals, added, Known}
use Rattle.and_model.specs.Trees.{QueryTree, equations}
use Rattle.and_model.specs.Reached.{Dead}
use Rattle.and_model.specs.Reductions.{Reduction}
use Rattle.and_model.specs.Stands.{ClauseHas, Framed, IsFramed}
use Rattle.and_model.specs.Store.{is_half}
use Rattle.and_model.specs.declared.goal.Goal.{Goal}
use Rattle.and_model.specs.declared.reference.Ref.{Ref}
use Rattle.and_model.specs.declared.reference.Ref.TheVariants.{Free}
use Rattle.and_program.specs.Skeletons
use Rattle.and_laws.specs.Naming.{under}
use Rattle.and_laws.proofs.Solving.{solves_join, solves_front, solves_back}
use Rattle.and_cells.specs.Ranges.{NamedProgram, IsGoalInRange, pair_of}
use Rattle.and_cells.specs.Rows.{IsSound}
use Rattle.and_cells.specs.Seen.{word_at, IsSetTo}
use Rattle.and_cells.specs.Meaning.{equations_of, shallow_cells}
use Rattle.and_branch_laws.specs.OwnVariables.{IsLoaded}
use Rattle.and_branch_laws.specs.Variables.{SpeaksOf, EquationsSpeakOf, IsVariable, placed, IsWholeCell}
use Rattle.and_branch_laws.specs.Tasks.{tasks, RanAmong}
use Rattle.and_branch_laws.specs.Settling.{Settled, IsWritten}
use Rattle.and_branch_laws.specs.Kept.{item_at, task_of, node_item_at, HasFreePair, Kept, Unsettled}
use Rattle.and_branch_laws.proofs.Lists.{all_of}
use Rattle.and_branch_laws.proofs.Speaking.{speaks_variable, speaks_applied, equations_speak_under}
use Rattle.and_branch_laws.proofs.Places.{clause_once, frame_within}
use Rattle.and_branch_laws.proofs.Naming.{variables_fit}
use Rattle.and_branch_laws.proofs.Growing.{nothing_said}
use Rattle.and_branch_laws.proofs.Keeping
use Rattle.and_branch_laws.proofs.Reading.{row_general}
use Rattle.and_branch_laws.proofs.Clauses.{goal_range_more}
use Rattle.and_branch_laws.proofs.Settling.{unsettled_is_dead, settled_kept}
use Rattle.and_branch_laws.proofs.Unnamed.{IsOther, unnamed_not_named}
use Rattle.and_branch_laws.proofs.Pairs
use Rattle.and_branch_laws.proofs.Running
use Rattle.and_branch_laws.proofs.Dropping

module _ (P : NamedProgram) (loaded : IsLoaded P) (rs : List Reduction) (row : List Ref) (front : List Framed) (f : Framed)
    (back : List Framed) (tree : QueryTree P.program)
    (k : Kept P rs row (front ++ f ∷ back) tree) (l r : Term) (item : item_at P.program f.goal ≡ arithmetic (is l r)) (u : Term) (z : ℤ)
    (known : Known k.solved (is (framed f.frame l) (framed f.frame r)) (more u none)) (valued : value u ≡ Some z)
    (nl nr num : ℕ) (node : node_item_at P f.goal ≡ Skeletons.is nl nr num) (mid : List Ref) (mid_sound : IsSound P mid)
    (written : IsWritten row mid (pair_of P f.goal.clause.0 f.goal.base num) z) where
  abbrev kept : List Framed
  kept = front ++ f ∷ back

  f_kept : Contains kept f
  f_kept = Dropping.f_kept P loaded.own rs row front f back tree k (is l r) item (more u none) known

  abbrev pair : ℕ
  pair = pair_of P f.goal.clause.0 f.goal.base num

  added_is : added (is (framed f.frame l) (framed f.frame r)) (more u none) ≡ (framed f.frame l, number z) ∷ []
  added_is = ap (equals (framed f.frame l)) valued

  based : f.goal.base ≡ f.goal.node
  based = Keeping.base_of P loaded.own rs row kept tree k f f_kept

  clause_is : ClauseHas rs f.goal.node f.goal.clause.0
  clause_is = Keeping.clause_of P loaded.own rs row kept tree k f f_kept

  within : (f.goal.base + 1 + (clause_at P.program f.goal.clause.0).variables ≤ pair)
      × (suc pair < f.goal.base + clause_weight (clause_at P.program f.goal.clause.0))
  within =
      let c : ℕ = f.goal.clause.0 in
      let Claim : ℕ → Type 0 = λ b. (b + 1 + (clause_at P.program c).variables ≤ pair_of P c b num)
      × (suc (pair_of P c b num) < b + clause_weight (clause_at P.program c)) in
      subst Claim (sym based) (Pairs.pair_within P loaded rs tree k.made f.goal.node c f.goal.item nl nr num clause_is node)

  -- no variable has its cell there
  no_variable : (m : ℕ) → (m ≡ pair) ⊎ (m ≡ suc pair) → (v : Path × ℕ) (i : IsVariable P rs v) → i.node + 1 + v.1 ≡ m → ⊥
  no_variable m in_pair v i e =
      let w = within in
      let low = w.0 in
      let high = w.1 in
      let b = based in
      Pairs.behind_variables P rs tree k.made f.goal.node f.goal.clause.0 clause_is m
      (elim in_pair [ inl a ↦ omega arith | inr a ↦ omega arith ]) (elim in_pair [ inl a ↦ omega arith | inr a ↦ omega arith ]) v i e

  was_free : (word_at row pair ≡ Free) × (word_at row (suc pair) ≡ Free)
  was_free = Pairs.free_pair P row f.goal (node_item_at P f.goal) nl nr num node
      (All-contains (λ (g : Framed). HasFreePair P row g.goal (node_item_at P g.goal)) kept f k.free f_kept)

  others_speak : (m : ℕ) → (m ≡ pair) ⊎ (m ≡ suc pair) → EquationsSpeakOf (IsOther m) (under k.names k.solved)
  others_speak m in_pair =
      equations_speak_under (IsVariable P rs) (IsOther m) k.names k.solved
      (λ v i. subst (λ x. SpeaksOf (IsOther m) x) (sym (Keeping.name_of P loaded.own rs row kept tree k v i))
      (speaks_variable (IsOther m) [] (i.node + 1 + v.1) (λ e s. no_variable m in_pair v i s)))
      (Keeping.solved_speaks P loaded.own rs row kept tree k)

  not_named : (m : ℕ) → (m ≡ pair) ⊎ (m ≡ suc pair) → (place : ℕ) (q : Ref) → IsSetTo row place q → is_half q ≡ false → (place ≡ m → ⊥)
      → Contains (shallow_cells P q) m → ⊥
  not_named m in_pair place q set whole apart named =
      let g = row_general P loaded.own rs row kept tree k in
      unnamed_not_named P row (under k.names k.solved) k.sound k.stated g.solution (k.states g.solution g.most_general.0) m
      (others_speak m in_pair) place q set whole apart named

  pub to_row : Entails (equations_of P mid) (equations_of P row)
  to_row = let w = was_free in Dropping.mid_states P row mid pair z k.sound mid_sound written w.0 w.1 not_named

  pub to_mid : Entails (equations_of P row) (equations_of P mid)
  to_mid = let w = was_free in Dropping.mid_stated P row mid pair z k.sound mid_sound written w.0 w.1 not_named

  -- ---- The left side, in the tree and in the cells

  named_left : apply k.names (framed f.frame l) ≡ placed f.goal.base l
  named_left = Keeping.named_in_cells P loaded.own rs row kept tree k f f_kept l

  left_speaks : SpeaksOf (IsVariable P rs) (framed f.frame l)
  left_speaks = Running.framed_speaks P loaded.own rs row kept tree k f f_kept (is l r) item l
      (Running.goal_speaks P loaded.own rs row kept tree k f f_kept (is l r) item).0

  abbrev solved : List Equation
  solved = (framed f.frame l, number z) ∷ k.solved

  next_ran : RanAmong (equations tree) (tasks tree) ((framed f.frame l, number z) ∷ k.solved) (map (task_of P.program) (front ++ back))
  next_ran =
      subst (λ (es : List Equation). RanAmong (equations tree) (tasks tree) (es ++ k.solved) (map (task_of P.program) (front ++ back)))
      added_is
      (Dropping.dropped_ran P loaded.own rs row front f back tree k (is l r) item (more u none) known)

  abbrev asked : List Equation
  asked = (placed f.goal.base l, number z) ∷ []

  -- The row with the number states the tree's equations and the left side with the number.
  next_states : Entails (equations_of P mid ++ (placed f.goal.base l, number z) ∷ [])
      (under k.names ((framed f.frame l, number z) ∷ k.solved))
  next_states t h = (
    ap (apply t) named_left ∙ (solves_back t (equations_of P mid) asked h).0,
    k.states t (to_row t (solves_front t (equations_of P mid) asked h)),
  )

  next_stated : Entails (under k.names ((framed f.frame l, number z) ∷ k.solved))
      (equations_of P mid ++ (placed f.goal.base l, number z) ∷ [])
  next_stated t h = solves_join t (equations_of P mid) asked (to_mid t (k.stated t h.1)) (ap (apply t) (sym named_left) ∙ h.0, tt)

  -- words that are no halves are none but those of the pair
  still_whole : (m : ℕ) → (m ≡ pair → ⊥) → (m ≡ suc pair → ⊥) → is_half (word_at row m) ≡ false → is_half (word_at mid m) ≡ false
  still_whole m one other whole = ap is_half (written.others m one other) ∙ whole

  next_whole : (v : Path × ℕ) (i : IsVariable P rs v) → is_half (word_at mid (i.node + 1 + v.1)) ≡ false
  next_whole v i = still_whole (i.node + 1 + v.1) (λ e. no_variable (i.node + 1 + v.1) (inl e) v i refl)
      (λ e. no_variable (i.node + 1 + v.1) (inr e) v i refl) (k.whole v i)

  next_speaks : EquationsSpeakOf (IsWholeCell mid) ((placed f.goal.base l, number z) ∷ [])
  next_speaks =
      let cell : (v : Path × ℕ) → IsVariable P rs v → SpeaksOf (IsWholeCell mid) (k.names v.0 v.1) =
      λ v i.
      (
      let fits = variables_fit (clause_at P.program i.clause) in
      let low = i.own in
      let ends = frame_within P.program rs tree k.made i.node i.clause i.clause_is in
      let long = written.long in
      let all = k.long in
      subst (λ y. SpeaksOf (IsWholeCell mid) y) (sym (Keeping.name_of P loaded.own rs row kept tree k v i))
      (speaks_variable (IsWholeCell mid) [] (i.node + 1 + v.1) (refl, omega arith, next_whole v i))) in (
        subst (λ y. SpeaksOf (IsWholeCell mid) y) named_left
            (speaks_applied (IsVariable P rs) (IsWholeCell mid) k.names (framed f.frame l) cell left_speaks),
        nothing_said (IsWholeCell mid),
        tt,
      )

  -- ---- The pairs of the other goals

  other_goal : (h : Framed) → Contains (front ++ back) h → h.goal.node ≡ f.goal.node → h.goal.item ≡ f.goal.item → ⊥
  other_goal h i nodes items =
      let j : Contains kept h = Dropping.still_kept P loaded.own rs row front f back tree k (is l r) item (more u none) known h i in
      let mine = Keeping.clause_of P loaded.own rs row kept tree k h j in
      let clauses : h.goal.clause.0 ≡ f.goal.clause.0 = clause_once P.program rs tree k.made f.goal.node h.goal.clause.0 f.goal.clause.0
      (subst (λ n. ClauseHas rs n h.goal.clause.0) nodes mine) clause_is in
      let bases : h.goal.base ≡ f.goal.base = Keeping.base_of P loaded.own rs row kept tree k h j ∙ nodes ∙ sym based in
      Dropping.others_apart P loaded.own rs row front f back tree k (is l r) item (more u none) known h i
      (same_goal h.goal f.goal nodes items clauses bases)
    where
      same_goal : (a b : Goal) → a.node ≡ b.node → a.item ≡ b.item → a.clause.0 ≡ b.clause.0 → a.base ≡ b.base → a ≡ b
      same_goal a b n i c e = λ j. record { node = n j; item = i j; clause = record { 0 = c j }; base = e j }

  -- a word of another goal's pair is as it was
  other_word : (m : ℕ) → (m ≡ pair → ⊥) → (m ≡ suc pair → ⊥) → word_at row m ≡ Free → word_at mid m ≡ Free
  other_word m one other free = written.others m one other ∙ free

  other_free : (h : Framed) → Contains (front ++ back) h → HasFreePair P mid h.goal (node_item_at P h.goal)
  other_free h i =
      let j : Contains kept h = Dropping.still_kept P loaded.own rs row front f back tree k (is l r) item (more u none) known h i in
      let d : ℕ = h.goal.clause.0 in
      let b : h.goal.base ≡ h.goal.node = Keeping.base_of P loaded.own rs row kept tree k h j in
      let b2 = based in
      let has : ClauseHas rs h.goal.node d = Keeping.clause_of P loaded.own rs row kept tree k h j in
      Pairs.has_free_pair P mid h.goal (node_item_at P h.goal) (λ l2 r2 other e.
      let was = Pairs.free_pair P row h.goal (node_item_at P h.goal) l2 r2 other e
      (All-contains (λ (y : Framed). HasFreePair P row y.goal (node_item_at P y.goal)) kept h k.free j) in
      let apart = Pairs.pairs_apart P loaded rs tree k.made h.goal.node d h.goal.item l2 r2 other f.goal.node f.goal.clause.0 f.goal.item
      nl nr num has clause_is e node (other_goal h i) in (
        other_word (pair_of P d h.goal.base other) (λ s. elim apart [ inl a ↦ omega arith | inr a ↦ omega arith ])
            (λ s. elim apart [ inl a ↦ omega arith | inr a ↦ omega arith ]) was.0,
        other_word (suc (pair_of P d h.goal.base other)) (λ s. elim apart [ inl a ↦ omega arith | inr a ↦ omega arith ])
            (λ s. elim apart [ inl a ↦ omega arith | inr a ↦ omega arith ]) was.1,
      ))

  -- What holds of the branch before its cells are settled.
  pub assigned : Unsettled P rs mid ((placed f.goal.base l, number z) ∷ []) (front ++ back) tree
  assigned = record {
    has = record {
      made = k.made;
      long = written.long ∙ k.long;
      sound = mid_sound;
      framed = Dropping.all_without (IsFramed rs) (IsFramed rs) front f back (λ g y. y) k.framed;
      based = Dropping.all_without (λ (g : Framed). g.goal.base ≡ g.goal.node) (λ (g : Framed). g.goal.base ≡ g.goal.node) front f back
          (λ g y. y) k.based;
      in_range = Dropping.all_without (λ (g : Framed). IsGoalInRange P (length row) g.goal)
          (λ (g : Framed). IsGoalInRange P (length mid) g.goal) front f back
          (λ g y. let e = written.long in goal_range_more P (length row) (length mid) g.goal (omega arith) y) k.in_range;
      once = Dropping.still_once P loaded.own rs row front f back tree k (is l r) item (more u none) known;
      solved = solved;
      ran = next_ran;
      names = k.names;
      named = k.named;
      whole = next_whole;
      free = all_of (λ (g : Framed). HasFreePair P mid g.goal (node_item_at P g.goal)) (front ++ back) other_free;
    };
    speaks = next_speaks;
    states = next_states;
    stated = next_stated;
  }

  -- So where they have no solution, the tree is dead,
  pub unsolved_is_dead : (Solvable (equations_of P mid ++ (placed f.goal.base l, number z) ∷ []) → ⊥) → Dead tree
  unsolved_is_dead none_is = unsettled_is_dead P loaded rs mid asked (front ++ back) tree assigned none_is

  -- and where they were settled, the branch goes on.
  pub assigned_kept : (new : List Ref) → Settled P mid new ((placed f.goal.base l, number z) ∷ []) → Kept P rs new (front ++ back) tree
  assigned_kept new x = settled_kept P loaded rs mid asked (front ++ back) tree assigned new x
