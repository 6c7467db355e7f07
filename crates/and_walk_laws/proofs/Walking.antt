-- Walks are explorations.
use Rattle.std.proofs.Common.{ℕ, ◌<◌, ◌≢◌, Bool, List, [], arith, AllPairs}
use Rattle.and_model.specs.Programs.{Program}
use Rattle.and_model.specs.Trees.{QueryTree}
use Rattle.and_model.specs.Listing.{Entry}
use Rattle.and_laws.specs.Explorations.{Explores, ExploresSplits}
use Rattle.and_walk_laws.specs.Walks.{Walks, WalksSplits}

-- numbers that rise differ
pub distinct : (cs : List ℕ) → AllPairs (λ c d. c < d) cs → AllPairs (λ c d. c ≢ d) cs
distinct cs rising i j d h k e = let r = rising i j d h k in absurd (omega (arith, r, e))

module _ (P : Program) (limit : ℕ) where
  mutual
    pub explored : (t : QueryTree P) (es : List Entry) (f m : ℕ) (b : Bool) → Walks P limit t es f m b → Explores P limit t es
    explored t es f m b (Walks.stepped t' v ks g n d st w) = Explores.stepped t' v ks st (explored v ks g n d w)
    explored t es f m b (Walks.over t' v st h) = Explores.stepped t' v [] st (Explores.heavy v h)
    explored t es f m b (Walks.dead t' x) = Explores.dead t' x
    explored t es f m b (Walks.ended t' o h e) = Explores.ended t' o h e
    explored t es f m b (Walks.forked t' cs ks g n d s o v w) = Explores.forked t' cs ks s o (distinct cs v.0) v.1
        (explored_splits t' cs ks g n d w)

    explored_splits : (t : QueryTree P) (cs : List ℕ) (es : List Entry) (f m : ℕ) (b : Bool) → WalksSplits P limit t cs es f m b
        → ExploresSplits P limit t cs es
    explored_splits t cs es f m b (WalksSplits.no_more t') = ExploresSplits.none t'
    explored_splits t cs es f m b (WalksSplits.walked t' v c ds ks js f1 m1 f2 m2 b1 b2 sp w x) =
        ExploresSplits.more t' v c ds ks js sp (explored v ks f1 m1 b1 w) (explored_splits t' ds js f2 m2 b2 x)
    explored_splits t cs es f m b (WalksSplits.too_heavy t' v c ds js f2 m2 b2 sp h x) =
        ExploresSplits.more t' v c ds [] js sp (Explores.heavy v h) (explored_splits t' ds js f2 m2 b2 x)
