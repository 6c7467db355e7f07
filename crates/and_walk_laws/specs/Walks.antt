-- Walks of a tree, as a search on one thread goes about it: what it finds, what it counts, and whether the limit cut
-- anything off (the basic Andorra model: Santos Costa, Warren and Yang, 1991; the limit is this project's own).
use Rattle.std.specs.Prelude.{ℕ, ◌+◌, ◌<◌, ◌≤◌, Bool, true, false, ◌||◌, List, [], ◌∷◌, ◌++◌}
use Rattle.and_model.specs.Programs.{Program}
use Rattle.and_model.specs.Trees.{QueryTree, Open, code, weight}
use Rattle.and_model.specs.Reached.{Step, Shut, Dead, Split, SplitClauses}
use Rattle.and_model.specs.Listing.{Outcome, Ends, Entry}

module _ (P : Program) (limit : ℕ) where
  mutual
    -- Walks t entries forks failed is_cut: a walk of the tree finds these entries, in this order, and meets so many
    -- forks and failures. It is cut where a tree on the way weighs more than the limit. A goal with at most one
    -- candidate is reduced, and where the tree is then too heavy, the walk ends. A Dead tree counts as a failure. A
    -- tree that ends is found. A Shut tree with open goals counts as a fork, and the splits by its clauses are walked
    -- one after another.
    pub data Walks : QueryTree P → List Entry → ℕ → ℕ → Bool → Type 0 where
      stepped : (t next : QueryTree P) (entries : List Entry) (forks failed : ℕ) (is_cut : Bool) → Step t next
          → Walks next entries forks failed is_cut
          → Walks t entries forks failed is_cut
      over : (t next : QueryTree P) → Step t next → limit < weight next → Walks t [] 0 0 true
      dead : (t : QueryTree P) → Dead t → Walks t [] 0 1 false
      ended : (t : QueryTree P) (o : Outcome) → weight t ≤ limit → Ends t o
          → Walks t (record { code = code t; outcome = o } ∷ []) 0 0 false
      forked : (t : QueryTree P) (cs : List ℕ) (entries : List Entry) (forks failed : ℕ) (is_cut : Bool) → Shut t
          → Open t
          → SplitClauses t cs
          → WalksSplits t cs entries forks failed is_cut → Walks t entries (1 + forks) failed is_cut

    -- The splits by these clauses, one after another. One that weighs more than the limit is cut off.
    pub data WalksSplits : QueryTree P → List ℕ → List Entry → ℕ → ℕ → Bool → Type 0 where
      no_more : (t : QueryTree P) → WalksSplits t [] [] 0 0 false
      walked : (t next : QueryTree P) (c : ℕ) (cs : List ℕ) (entries others : List Entry)
          (forks failed more_forks more_failed : ℕ)
          (is_cut is_more_cut : Bool)
          → Split t c next → Walks next entries forks failed is_cut
          → WalksSplits t cs others more_forks more_failed is_more_cut
          → WalksSplits t (c ∷ cs) (entries ++ others) (forks + more_forks) (failed + more_failed)
          (is_cut || is_more_cut)
      too_heavy : (t next : QueryTree P) (c : ℕ) (cs : List ℕ) (others : List Entry) (more_forks more_failed : ℕ)
          (is_more_cut : Bool)
          → Split t c next → limit < weight next → WalksSplits t cs others more_forks more_failed is_more_cut
          → WalksSplits t (c ∷ cs) others more_forks more_failed true

  -- the walks of trees one after another, as they stand on a stack, the top first
  pub data WalksAll : List (QueryTree P) → List Entry → ℕ → ℕ → Bool → Type 0 where
    empty : WalksAll [] [] 0 0 false
    one_more : (t : QueryTree P) (ts : List (QueryTree P)) (entries others : List Entry)
        (forks failed more_forks more_failed : ℕ)
        (is_cut is_more_cut : Bool)
        → Walks t entries forks failed is_cut → WalksAll ts others more_forks more_failed is_more_cut
        → WalksAll (t ∷ ts) (entries ++ others) (forks + more_forks) (failed + more_failed) (is_cut || is_more_cut)

  -- Owes t stack entries forks failed is_cut: whatever the walks of all trees on the stack find, what was found so
  -- far and then that is a walk of the tree.
  abbrev pub Owes : QueryTree P → List (QueryTree P) → List Entry → ℕ → ℕ → Bool → Type 0
  Owes t stack entries forks failed is_cut =
      (others : List Entry) (more_forks more_failed : ℕ) (is_more_cut : Bool)
      → WalksAll stack others more_forks more_failed is_more_cut
      → Walks t (entries ++ others) (forks + more_forks) (failed + more_failed) (is_cut || is_more_cut)

  -- SplitsThatFit t cs ts is_cut: of the splits by these clauses, those that weigh at most the limit, in order; it is
  -- cut where one weighs more.
  pub data SplitsThatFit : QueryTree P → List ℕ → List (QueryTree P) → Bool → Type 0 where
    no_more : (t : QueryTree P) → SplitsThatFit t [] [] false
    light : (t next : QueryTree P) (c : ℕ) (cs : List ℕ) (ts : List (QueryTree P)) (is_cut : Bool) → Split t c next
        → weight next ≤ limit
        → SplitsThatFit t cs ts is_cut
        → SplitsThatFit t (c ∷ cs) (next ∷ ts) is_cut
    too_heavy : (t next : QueryTree P) (c : ℕ) (cs : List ℕ) (ts : List (QueryTree P)) (is_cut : Bool) → Split t c next
        → limit < weight next → SplitsThatFit t cs ts is_cut
        → SplitsThatFit t (c ∷ cs) ts true

-- SplitsBy t cs ts: the trees are the splits by these clauses, in order.
pub data SplitsBy {P : Program} : QueryTree P → List ℕ → List (QueryTree P) → Type 0 where
  no_more : (t : QueryTree P) → SplitsBy t [] []
  one_more : (t next : QueryTree P) (c : ℕ) (cs : List ℕ) (ts : List (QueryTree P)) → Split t c next → SplitsBy t cs ts
      → SplitsBy t (c ∷ cs) (next ∷ ts)
