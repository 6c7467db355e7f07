-- Explorations of a tree by reductions, as the basic Andorra model goes about them (Santos Costa, Warren and Yang,
-- 1991).
use Rattle.std.specs.Prelude.{ℕ, ◌≢◌, ◌<◌, ◌≤◌, ◌↔◌, List, [], ◌∷◌, ◌++◌, AllPairs, Contains}
use Rattle.and_model.specs.Programs.{Program}
use Rattle.and_model.specs.Trees.{QueryTree, Open, code, weight}
use Rattle.and_model.specs.Reached.{Step, Shut, Dead, Split}
use Rattle.and_model.specs.Listing.{Outcome, Ends, Entry}

module _ (P : Program) (limit : ℕ) where
  mutual
    -- Explores t found: an exploration of the tree finds these entries. A goal with one candidate is reduced, a tree
    -- that is too heavy or Dead is given up, a tree that ends is found, and a Shut tree with open goals is split by
    -- each candidate of its leftmost one, in any order.
    pub data Explores : QueryTree P → List Entry → Type 0 where
      stepped : (t next : QueryTree P) (found : List Entry) → Step t next → Explores next found → Explores t found
      heavy : (t : QueryTree P) → limit < weight t → Explores t []
      dead : (t : QueryTree P) → Dead t → Explores t []
      ended : (t : QueryTree P) (o : Outcome) → weight t ≤ limit → Ends t o
          → Explores t (record { code = code t; outcome = o } ∷ [])
      forked : (t : QueryTree P) (cs : List ℕ) (found : List Entry) → Shut t → Open t → AllPairs (λ c d. c ≢ d) cs
          → ((c : ℕ) → Contains cs c ↔ ((next : QueryTree P) × Split t c next))
          → ExploresSplits t cs found → Explores t found

    -- the splits by these clauses, one after another
    pub data ExploresSplits : QueryTree P → List ℕ → List Entry → Type 0 where
      none : (t : QueryTree P) → ExploresSplits t [] []
      more : (t next : QueryTree P) (c : ℕ) (cs : List ℕ) (found others : List Entry) → Split t c next
          → Explores next found → ExploresSplits t cs others → ExploresSplits t (c ∷ cs) (found ++ others)
