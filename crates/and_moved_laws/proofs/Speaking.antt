-- A branch whose row is part of its whole one stands for its key.
use Rattle.std.proofs.Common.{ℕ, ◌+◌, ◌≡◌, ◌<◌, List, [], ◌∷◌, ◌++◌, map, refl, sym, ap, ◌∙◌, subst, inr}
use Rattle.std.proofs.Common.{Contains}
use Rattle.std.specs.Prelude.{All}
use Rattle.std.proofs.lemmas.List.{map-append}
use Rattle.and_model.specs.Terms.{Path, Term, Substitution, variables_of, apply}
use Rattle.and_model.specs.Trees.{QueryTree}
use Rattle.and_model.specs.Reached.{ReachedBy}
use Rattle.and_model.specs.Lines.{goal_term}
use Rattle.and_model.specs.Reductions.{Reduction}
use Rattle.and_model.specs.Stands.{Framed, IsFramed, in_tree, term_of, numbers_below, AreVariants, IsLive}
use Rattle.and_model.specs.Store.{Frame}
use Rattle.and_model.specs.declared.goal.Goal.{Goal}
use Rattle.and_model.specs.declared.reference.Ref.{Ref}
use Rattle.and_model.specs.declared.reference.Ref.TheVariants.{Cell}
use Rattle.and_laws.proofs.Ordered.{contains_first, contains_more}
use Rattle.and_laws.proofs.Covering.{reached_covers}
use Rattle.and_laws.proofs.Keys.{reached_decided}
use Rattle.and_laws.proofs.Substitutions.{then, same, apply_then}
use Rattle.and_cells.specs.Ranges.{NamedProgram}
use Rattle.and_cells.specs.Meaning.{StandsFor}
use Rattle.and_cells.proofs.OneTerm.{apply_agree}
use Rattle.and_cell_laws.proofs.Images.{contains_image, contains_origin}
use Rattle.and_branch_laws.specs.OwnVariables.{IsLoaded}
use Rattle.and_branch_laws.specs.Tasks.{Task, arithmetic_among}
use Rattle.and_branch_laws.specs.Views.{View, IsReadIn, branch_of, StandsIn}
use Rattle.and_branch_laws.specs.Kept.{task_of, goal_of, calls_kept, arithmetic_kept}
use Rattle.and_branch_laws.proofs.Lists.{all_of}
use Rattle.and_branch_laws.proofs.Reading.{mapped, below_cases, arithmetic_are, goals_first, first_contains}
use Rattle.and_branch_laws.proofs.Reading.{row_reading, goal_read, query_read, tree_solution, solved_general, read_variants}
use Rattle.and_branch_laws.proofs.Tasks.{tree_ran}
use Rattle.and_moved_laws.specs.Parts.{moving, framed_moved}
use Rattle.and_moved_laws.specs.KeptParts.{PartKept, PartKeptIn}
use Rattle.and_moved_laws.proofs.Extending.{drawn}
use Rattle.and_moved_laws.proofs.KeptParts.{kept_goal, query_there}
use Rattle.and_moved_laws.proofs.Backward.{cell_back, variants_back}
use Rattle.and_moved_laws.proofs.MovedGoals.{tasks_same, first_moved}
use Rattle.and_moved_laws.proofs.PartGoals.{goal_placed, calls_of_tree}

-- ---- What is read

module _ (P : NamedProgram) (loaded : IsLoaded P) (rs : List Reduction) (frames : List Frame) (part : List Ref) (kept : List Framed)
    (tree : QueryTree P.program) (k : PartKept P rs frames part kept tree) where
  abbrev M : List Framed
  M = map (framed_moved k.at) kept

  -- what the whole row's cells stand for
  abbrev reading_there : (base n : ℕ) → Term
  reading_there base n = row_reading P loaded.own rs k.whole (map (framed_moved k.at) kept) tree k.keeps base n

  -- and the part's
  abbrev pub part_reading : (base n : ℕ) → Term
  part_reading base n =
      let m = k.is_part in
      apply (drawn k.at m.rises same) (row_reading P loaded.own rs k.whole (map (framed_moved k.at) kept) tree k.keeps (k.at base) n)

  goal_back : (f : Framed) → Contains kept f → (v : Path × ℕ) → Contains (variables_of (term_of P.program f.goal)) v
      → StandsFor P part (Cell (f.goal.base + 1 + v.1)) (part_reading f.goal.base v.1)
      × (apply (moving k.at) (part_reading f.goal.base v.1) ≡ reading_there (k.at f.goal.base) v.1)
  goal_back f h v c =
      let o = kept_goal P loaded.own rs frames part kept tree k f h in
      let there : StandsFor P k.whole (Cell (k.at f.goal.base + 1 + v.1)) (reading_there (k.at f.goal.base) v.1) =
      goal_read P loaded.own rs k.whole M tree k.keeps (framed_moved k.at f) (contains_image (framed_moved k.at) kept f h) v c in
      cell_back P k.at part k.whole k.is_part (f.goal.base + 1 + v.1) (reading_there (k.at f.goal.base) v.1)
      (subst (λ (cell : ℕ). StandsFor P k.whole (Cell cell) (reading_there (k.at f.goal.base) v.1)) (sym (o.together v c)) there)

  query_back : (n : ℕ) → n < P.program.query.variables → StandsFor P part (Cell (0 + 1 + n)) (part_reading 0 n)
      × (apply (moving k.at) (part_reading 0 n) ≡ reading_there 0 n)
  query_back n low =
      let there : StandsFor P k.whole (Cell (0 + 1 + n)) (reading_there 0 n) = query_read P loaded.own rs k.whole M tree k.keeps n low in
      let start : reading_there (k.at 0) n ≡ reading_there 0 n = ap (λ (b : ℕ). reading_there b n) k.stays in
      let both = cell_back P k.at part k.whole k.is_part (0 + 1 + n) (reading_there (k.at 0) n)
      (subst (λ (cell : ℕ). StandsFor P k.whole (Cell cell) (reading_there (k.at 0) n)) (sym (query_there P loaded.own rs frames part kept tree k n low))
      (subst (λ (t : Term). StandsFor P k.whole (Cell (0 + 1 + n)) t) (sym start) there)) in
      (both.0, both.1 ∙ start)

  -- ---- Variants of what a most general solution of the tree makes

  abbrev ns : List ℕ
  ns = numbers_below P.program.query.variables

  abbrev read_of : Framed → Term
  read_of f = apply (λ q n. part_reading f.goal.base n) (term_of P.program f.goal)

  abbrev read_there : Framed → Term
  read_there f = apply (λ q n. reading_there f.goal.base n) (term_of P.program f.goal)

  goals_named : (fs : List Framed) → ((f : Framed) → Contains fs f → Contains kept f)
      → map (apply (moving k.at)) (map read_of fs) ≡ map read_there (map (framed_moved k.at) fs)
  goals_named [] among = refl
  goals_named (f ∷ fs) among =
      let h : Contains kept f = among f (contains_first f fs) in
      let first : apply (moving k.at) (read_of f) ≡ read_there (framed_moved k.at f) =
      apply_then (λ q n. part_reading f.goal.base n) (moving k.at) (term_of P.program f.goal)
      ∙ apply_agree (then (λ q n. part_reading f.goal.base n) (moving k.at)) (λ q n. reading_there (k.at f.goal.base) n) (term_of P.program f.goal)
      (λ v c. (goal_back f h v c).1) in
      ap (λ (t : Term). t ∷ map (apply (moving k.at)) (map read_of fs)) first
      ∙ ap (λ (l : List Term). read_there (framed_moved k.at f) ∷ l) (goals_named fs (λ g i. among g (contains_more f g fs i)))

  list_named : map (apply (moving k.at)) (map (part_reading 0) ns ++ map read_of (goals_first P.program kept))
      ≡ map (reading_there 0) ns ++ map read_there (goals_first P.program M)
  list_named =
      map-append (apply (moving k.at)) (map (part_reading 0) ns) (map read_of (goals_first P.program kept))
      ∙ ap (λ (l : List Term). l ++ map (apply (moving k.at)) (map read_of (goals_first P.program kept)))
      (mapped (moving k.at) (part_reading 0) (reading_there 0) ns (λ n c. (query_back n (below_cases P.program.query.variables n c)).1))
      ∙ ap (λ (l : List Term). map (reading_there 0) ns ++ l) (goals_named (goals_first P.program kept) (λ f c. first_contains P.program kept f c))
      ∙ ap (λ (l : List Framed). map (reading_there 0) ns ++ map read_there l) (sym (first_moved P.program k.at kept))

  abbrev solution : Substitution
  solution = tree_solution P loaded.own rs k.whole (map (framed_moved k.at) kept) tree k.keeps

  solved_same : (fs : List Framed) → map (λ (f : Framed). apply solution (in_tree P.program f)) (map (framed_moved k.at) fs)
      ≡ map (λ (f : Framed). apply solution (in_tree P.program f)) fs
  solved_same [] = refl
  solved_same (f ∷ fs) = ap (λ (l : List Term). apply solution (in_tree P.program f) ∷ l) (solved_same fs)

  variants : AreVariants (map (part_reading 0) ns ++ map read_of (goals_first P.program kept))
      (map (solution []) ns ++ map (λ (f : Framed). apply solution (in_tree P.program f)) (goals_first P.program kept))
  variants =
      let m = k.is_part in
      let solved : Framed → Term = λ f. apply solution (in_tree P.program f) in
      let others : map (solution []) ns ++ map solved (goals_first P.program M) ≡ map (solution []) ns ++ map solved (goals_first P.program kept) =
      ap (λ (l : List Framed). map (solution []) ns ++ map solved l) (first_moved P.program k.at kept)
      ∙ ap (λ (l : List Term). map (solution []) ns ++ l) (solved_same (goals_first P.program kept)) in
      variants_back k.at m.rises (map (part_reading 0) ns ++ map read_of (goals_first P.program kept))
      (map (reading_there 0) ns ++ map read_there (goals_first P.program M))
      (map (solution []) ns ++ map solved (goals_first P.program kept)) list_named
      (subst (λ (l : List Term). AreVariants (map (reading_there 0) ns ++ map read_there (goals_first P.program M)) l) others
      (read_variants P loaded.own rs k.whole M tree k.keeps))

  -- ---- The live branch

  pub live : (v : View) → v.reductions ≡ rs → map goal_of (calls_kept P.program kept) ≡ v.goals
      → map goal_of (arithmetic_kept P.program kept) ≡ v.waiting → IsLive P.program (branch_of v part_reading) tree
  live v is_rs goals waiting =
      let w = k.keeps in
      let left : List Task = map (task_of P.program) M in
      let same_tasks : left ≡ map (task_of P.program) kept = tasks_same P.program k.at kept in
      record {
        goals = calls_kept P.program kept;
        waiting = arithmetic_kept P.program kept;
        goals_are = goals;
        waiting_are = waiting;
        framed = subst (λ (l : List Reduction). All (IsFramed l) (goals_first P.program kept)) (sym is_rs)
            (all_of (IsFramed rs) (goals_first P.program kept) (λ f c. goal_placed P rs frames part kept tree k f (first_contains P.program kept f c)));
        calls = calls_of_tree P rs frames part kept tree k;
        solved = w.solved;
        waits = arithmetic_among left;
        ran = tree_ran tree w.solved left w.ran;
        not_run = arithmetic_are P.program kept ∙ ap (λ (l : List Task). map goal_term (arithmetic_among l)) (sym same_tasks);
        solution = solution;
        general = (solved_general P loaded.own rs k.whole M tree k.keeps).1;
        read = variants;
      }

  pub goals_read : (gs : List Goal) → map goal_of (goals_first P.program kept) ≡ gs → IsReadIn P part part_reading gs
  goals_read gs are =
      let Read : Goal → Type 0 = λ g. (v : Path × ℕ) → Contains (variables_of (term_of P.program g)) v
      → StandsFor P part (Cell (g.base + 1 + v.1)) (part_reading g.base v.1) in
      record {
        query = λ n low. (query_back n low).0;
        goals = subst (λ (l : List Goal). All Read l) are (all_of Read (map goal_of (goals_first P.program kept)) (λ g h.
            let (f, i, is) = contains_origin goal_of (goals_first P.program kept) g h in
            subst Read (sym is) (λ v c. (goal_back f (first_contains P.program kept f i) v c).0)));
      }

-- What the branch keeps makes it stand for its key.
pub parts_stand : (P : NamedProgram) → IsLoaded P → (limit : ℕ) (key : List ℕ) (v : View) (tree : QueryTree P.program) → PartKeptIn P v tree
    → ReachedBy P.program limit key tree → v.limit ≡ limit → v.key ≡ key → StandsIn v key P limit
parts_stand P loaded limit key v tree x reached of_limit of_key =
    let k : PartKept P v.reductions x.frames v.row x.kept tree = x.keeps in
    let w = k.keeps in
    let all_goals : map goal_of (goals_first P.program x.kept) ≡ v.goals ++ v.waiting =
    map-append goal_of (calls_kept P.program x.kept) (arithmetic_kept P.program x.kept)
    ∙ ap (λ (l : List Goal). l ++ map goal_of (arithmetic_kept P.program x.kept)) x.goals
    ∙ ap (λ (l : List Goal). v.goals ++ l) x.waiting in
    record {
      reading = part_reading P loaded v.reductions x.frames v.row x.kept tree x.keeps;
      stands = record {
        tree = tree;
        made = w.made;
        decides = reached_decided P.program limit key tree reached;
        reached = reached;
        used = x.used;
        limit_kept = of_limit;
        key_kept = of_key;
        agrees = reached_covers P.program limit key tree reached;
        state = inr (x.live, live P loaded v.reductions x.frames v.row x.kept tree x.keeps v refl x.goals x.waiting);
      };
      read = λ is_live. goals_read P loaded v.reductions x.frames v.row x.kept tree x.keeps (v.goals ++ v.waiting) all_goals;
    }
