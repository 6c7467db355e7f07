-- Goals of arithmetic that can be run: their nodes can be read, and a number can be written into the pair of an `is` goal.
use Rattle.std.proofs.Common.{ℕ, suc, ◌+◌, ◌≡◌, ◌<◌, false, List, [], ◌++◌, length, sym, ap, ◌∙◌, subst}
use Rattle.std.proofs.Common.{arith}
use Rattle.std.specs.Prelude.{Contains}
use Rattle.std.proofs.lemmas.List.Elements.{Contains-append_left, Contains-append_right}
use Rattle.and_model.specs.Terms.{Path, variables_of}
use Rattle.and_model.specs.Arithmetic.{Relation}
use Rattle.and_model.specs.Programs
use Rattle.and_model.specs.Programs.{Item, Arithmetic, clause_at}
use Rattle.and_model.specs.Stands.{item_term}
use Rattle.and_model.specs.Store.{is_half}
use Rattle.and_model.specs.OwnVariables.{IsOwn}
use Rattle.and_model.specs.declared.goal.Goal.{Goal}
use Rattle.and_model.specs.declared.reference.Ref.{Ref}
use Rattle.and_program.specs.Skeletons
use Rattle.and_program.specs.Skeletons.{NodeItem, Shape, node_term, item_of}
use Rattle.and_cells.specs.Ranges.{NamedProgram, IsItemInRange, IsGoalInRange, pair_of}
use Rattle.and_cells.specs.Seen.{word_at}
use Rattle.and_branch_laws.specs.OwnVariables.{IsLoaded}
use Rattle.and_branch_laws.specs.Kept.{item_at, node_item_at, HasFreePair}
use Rattle.and_branch_laws.proofs.Clauses.{goal_clause_there}
use Rattle.and_branch_laws.proofs.Growing.{body_is_own}
use Rattle.and_branch_laws.proofs.Owning.{ItemSpeaksOf, item_speaks}
use Rattle.and_branch_laws.specs.Goals.{CanBeRead}
use Rattle.and_step_laws.specs.Assigning.{CanBeAssigned}
use Rattle.and_step_laws.specs.Runs.{CanBeRun, HasUnnamedPair}
use Rattle.and_branch_laws.proofs.Nodes.{item_here, item_ranges}
use Rattle.and_step_laws.specs.Running.{IsRunnable}

-- The variables of a goal's item are the clause's own.
item_own : (P : NamedProgram) (loaded : IsLoaded P) (words : ℕ) (g : Goal) → IsGoalInRange P words g
    → ItemSpeaksOf (IsOwn (clause_at P.program g.clause.0).variables) (item_of P.skeleton.nodes (node_item_at P g))
item_own P loaded words g in_range =
    subst (λ (i : Item). ItemSpeaksOf (IsOwn (clause_at P.program g.clause.0).variables) i) (item_here P loaded words g in_range)
    (item_speaks (clause_at P.program g.clause.0).variables (clause_at P.program g.clause.0).body
    (body_is_own P loaded.own g.clause.0) g.item)

-- what no item of arithmetic is
no_call : (ss : List Shape) (i : NodeItem) (n : ℕ) (a : Arithmetic) → i ≡ Skeletons.call n → item_of ss i ≡ Programs.arithmetic a → ⊥
no_call ss i n a is e = let both = sym (ap (item_of ss) is) ∙ e in absurd (cc)

no_equal : (ss : List Shape) (i : NodeItem) (n m : ℕ) (a : Arithmetic) → i ≡ Skeletons.equal n m
    → item_of ss i ≡ Programs.arithmetic a → ⊥
no_equal ss i n m a is e = let both = sym (ap (item_of ss) is) ∙ e in absurd (cc)

no_fail : (ss : List Shape) (i : NodeItem) (a : Arithmetic) → i ≡ Skeletons.fail → item_of ss i ≡ Programs.arithmetic a → ⊥
no_fail ss i a is e = let both = sym (ap (item_of ss) is) ∙ e in absurd (cc)

module _ (P : NamedProgram) (loaded : IsLoaded P) (row : List Ref) (g : Goal) (can : CanBeRun P row g) where
  here : item_at P.program g ≡ item_of P.skeleton.nodes (node_item_at P g)
  here = item_here P loaded (length row) g can.in_range

  ranges : IsItemInRange P (length row) g.clause.0 g.base (node_item_at P g)
  ranges = item_ranges P loaded (length row) g can.in_range

  -- a goal of arithmetic by its nodes is one as the program has it
  arithmetic_here : item_of P.skeleton.nodes (node_item_at P g) ≡ Programs.arithmetic can.what
  arithmetic_here = sym here ∙ can.is_arithmetic

  module _ (i : NodeItem) (is : node_item_at P g ≡ i) where
    item_so : item_at P.program g ≡ item_of P.skeleton.nodes i
    item_so = here ∙ ap (item_of P.skeleton.nodes) is

    range_so : IsItemInRange P (length row) g.clause.0 g.base i
    range_so = subst (λ (x : NodeItem). IsItemInRange P (length row) g.clause.0 g.base x) is ranges

    whole_so : (v : Path × ℕ) → Contains (variables_of (item_term (item_of P.skeleton.nodes i))) v
        → is_half (word_at row (g.base + 1 + v.1)) ≡ false
    whole_so v c = can.whole v (subst (λ (x : Item). Contains (variables_of (item_term x)) v) (sym item_so) c)

    free_so : HasFreePair P row g i
    free_so = subst (λ (x : NodeItem). HasFreePair P row g x) is can.free

    unnamed_so : HasUnnamedPair P row g i
    unnamed_so = subst (λ (x : NodeItem). HasUnnamedPair P row g x) is can.unnamed

    own_so : ItemSpeaksOf (IsOwn (clause_at P.program g.clause.0).variables) (item_of P.skeleton.nodes i)
    own_so = subst (λ (x : NodeItem). ItemSpeaksOf (IsOwn (clause_at P.program g.clause.0).variables) (item_of P.skeleton.nodes x)) is
        (item_own P loaded (length row) g can.in_range)

  -- Both sides of a comparison can be read.
  compared_reads : (o : Relation) (n m : ℕ) → node_item_at P g ≡ Skeletons.compare o n m
      → CanBeRead P row g.base n × CanBeRead P row g.base m
  compared_reads o n m is =
      let i : NodeItem = Skeletons.compare o n m in
      let range = range_so i is in
      let a : List (Path × ℕ) = variables_of (node_term P.skeleton.nodes n) in
      let b : List (Path × ℕ) = variables_of (node_term P.skeleton.nodes m) in (
        record { in_range = range.0; whole = λ v c. whole_so i is v (Contains-append_left a (b ++ []) v c) },
        record { in_range = range.1; whole = λ v c. whole_so i is v (Contains-append_right a (b ++ []) v (Contains-append_left b [] v c)) },
      )

  -- The right side of an `is` goal can be read, and a number can be settled with the left one.
  assigned_reads : (n m pair : ℕ) → node_item_at P g ≡ Skeletons.is n m pair → CanBeRead P row g.base m
  assigned_reads n m pair is =
      let i : NodeItem = Skeletons.is n m pair in
      let range = range_so i is in
      let a : List (Path × ℕ) = variables_of (node_term P.skeleton.nodes n) in
      let b : List (Path × ℕ) = variables_of (node_term P.skeleton.nodes m) in
      record { in_range = range.1; whole = λ v c. whole_so i is v (Contains-append_right a (b ++ []) v (Contains-append_left b [] v c)) }

  pair_in_range : (n m pair : ℕ) → node_item_at P g ≡ Skeletons.is n m pair → suc (pair_of P g.clause.0 g.base pair) < length row
  pair_in_range n m pair is = (range_so (Skeletons.is n m pair) is).2

  can_be_assigned : (n m pair : ℕ) → node_item_at P g ≡ Skeletons.is n m pair
      → CanBeAssigned P row g.base n (pair_of P g.clause.0 g.base pair)
  can_be_assigned n m pair is =
      let i : NodeItem = Skeletons.is n m pair in
      let range = range_so i is in
      let free = free_so i is in
      let unnamed = unnamed_so i is in
      let own = own_so i is in
      let a : List (Path × ℕ) = variables_of (node_term P.skeleton.nodes n) in
      let b : List (Path × ℕ) = variables_of (node_term P.skeleton.nodes m) in
      record {
        reads = record { in_range = range.0; whole = λ v c. whole_so i is v (Contains-append_left a (b ++ []) v c) };
        pair_is_free = record {
          in_range = range.2;
          high_free = free.0;
          low_free = free.1;
          high_unnamed = unnamed.0;
          low_unnamed = unnamed.1;
        };
        before = λ v c. let low = (own.0 v c).1 in omega arith;
      }

  -- The item of the goal is one of arithmetic, whose nodes can be read.
  pub runnable : (i : NodeItem) → node_item_at P g ≡ i → IsRunnable P row g i
  runnable (Skeletons.call n) is = no_call P.skeleton.nodes (node_item_at P g) n can.what is arithmetic_here
  runnable (Skeletons.equal n m) is = no_equal P.skeleton.nodes (node_item_at P g) n m can.what is arithmetic_here
  runnable (Skeletons.is n m pair) is = record {
    item_is = item_so (Skeletons.is n m pair) is;
    node = is;
    there = goal_clause_there P loaded (length row) g can.in_range;
    right = assigned_reads n m pair is;
    within = pair_in_range n m pair is;
    left = can_be_assigned n m pair is;
  }
  runnable (Skeletons.compare o n m) is =
      let reads = compared_reads o n m is in
      record { item_is = item_so (Skeletons.compare o n m) is; left = reads.0; right = reads.1 }
  runnable Skeletons.fail is = no_fail P.skeleton.nodes (node_item_at P g) can.what is arithmetic_here
