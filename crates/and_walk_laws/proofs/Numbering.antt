-- A walk that was not cut finds the same within every larger limit, and counts all forks and failures.
use Rattle.std.proofs.Common.{ℕ, ◌≡◌, ◌≤◌, ◌<◌, ◌↔◌, Bool, true, false, ◌||◌, true≢false, List, [], refl, arith, Contains}
use Rattle.and_model.specs.Programs.{Program}
use Rattle.and_model.specs.Trees.{Agenda, Tree, QueryTree, query_agenda, blank, weight}
use Rattle.and_model.specs.Reached.{Step, Shut, Steps, Numbers, NumbersOfSplits}
use Rattle.and_model.specs.Limits.{query_alone, OverLimit}
use Rattle.and_model.specs.Listing.{Outcome, Ends, Entry, Listing, Exhausted, too_heavy}
use Rattle.and_laws.specs.Entries.{IsWithin}
use Rattle.and_laws.specs.Explorations.{Explores, ExploresSplits}
use Rattle.and_laws.proofs.Order.{blank_weighs, whole_has_none}
use Rattle.and_laws.proofs.Codes.{listing_in_order}
use Rattle.and_laws.proofs.Members.{listing_entries, entries_listing}
use Rattle.and_laws.proofs.Exploring.{explored_entries}
use Rattle.and_walk_laws.specs.Walks.{Walks, WalksSplits}
use Rattle.and_walk_laws.proofs.Walking.{distinct, explored}

-- where neither is so, each is not
or_false : (a b : Bool) → a || b ≡ false → (a ≡ false) × (b ≡ false)
or_false false b e = (refl, e)
or_false true b e = absurd (true≢false e)

-- A tree that ends is Shut.
ends_shut : {P : Program} (t : QueryTree P) (o : Outcome) → Ends t o → Shut t
ends_shut t o a = (a.1, a.2, a.3, (a.4, a.5.0), λ p. absurd (whole_has_none t a.0 p))

-- A Step before Steps makes Steps,
step_then : {P : Program} {ag : Agenda} (t u v : Tree P ag) → Step t u → Steps u v → Steps t v
step_then t u v st (Steps.none v') = Steps.more t t v' (Steps.none t) st
step_then t u v st (Steps.more u' x n ss s) = Steps.more t x n (step_then t u' x st ss) s

-- and keeps the numbers.
numbers_before : {P : Program} {ag : Agenda} (t u : Tree P ag) (f m : ℕ) → Step t u → Numbers u f m → Numbers t f m
numbers_before t u f m st (Numbers.dead u' d ss x) = Numbers.dead t d (step_then t u' d st ss) x
numbers_before t u f m st (Numbers.whole u' s ss x w) = Numbers.whole t s (step_then t u' s st ss) x w
numbers_before t u f m st (Numbers.forked u' s cs g n ss x o v k) = Numbers.forked t s cs g n (step_then t u' s st ss) x o v k

module _ (P : Program) (limit : ℕ) where
  mutual
    pub numbered : (t : QueryTree P) (es : List Entry) (f m : ℕ) (b : Bool) → Walks P limit t es f m b → b ≡ false → Numbers t f m
    numbered t es f m b (Walks.stepped t' v ks g n d st w) e = numbers_before t' v g n st (numbered v ks g n d w e)
    numbered t es f m b (Walks.over t' v st h) e = absurd (true≢false e)
    numbered t es f m b (Walks.dead t' x) e = Numbers.dead t' t' (Steps.none t') x
    numbered t es f m b (Walks.ended t' o h a) e = Numbers.whole t' t' (Steps.none t') (ends_shut t' o a) a.0
    numbered t es f m b (Walks.forked t' cs ks g n d s o v w) e = Numbers.forked t' t' cs g n (Steps.none t') s o v
        (splits_numbered t' cs ks g n d w e)

    splits_numbered : (t : QueryTree P) (cs : List ℕ) (es : List Entry) (f m : ℕ) (b : Bool) → WalksSplits P limit t cs es f m b
        → b ≡ false → NumbersOfSplits t cs f m
    splits_numbered t cs es f m b (WalksSplits.no_more t') e = NumbersOfSplits.none t'
    splits_numbered t cs es f m b (WalksSplits.walked t' v c ds ks js f1 m1 f2 m2 b1 b2 sp w x) e =
        let both = or_false b1 b2 e in
        NumbersOfSplits.more t' v c ds f1 m1 f2 m2 sp (numbered v ks f1 m1 b1 w both.0) (splits_numbered t' ds js f2 m2 b2 x both.1)
    splits_numbered t cs es f m b (WalksSplits.too_heavy t' v c ds js f2 m2 b2 sp h x) e = absurd (true≢false e)

  module _ (larger : ℕ) (more : limit ≤ larger) where
    mutual
      pub explored_beyond : (t : QueryTree P) (es : List Entry) (f m : ℕ) (b : Bool) → Walks P limit t es f m b → b ≡ false
          → Explores P larger t es
      explored_beyond t es f m b (Walks.stepped t' v ks g n d st w) e = Explores.stepped t' v ks st (explored_beyond v ks g n d w e)
      explored_beyond t es f m b (Walks.over t' v st h) e = absurd (true≢false e)
      explored_beyond t es f m b (Walks.dead t' x) e = Explores.dead t' x
      explored_beyond t es f m b (Walks.ended t' o h a) e = Explores.ended t' o (omega (arith, h, more)) a
      explored_beyond t es f m b (Walks.forked t' cs ks g n d s o v w) e = Explores.forked t' cs ks s o (distinct cs v.0) v.1
          (splits_beyond t' cs ks g n d w e)

      splits_beyond : (t : QueryTree P) (cs : List ℕ) (es : List Entry) (f m : ℕ) (b : Bool) → WalksSplits P limit t cs es f m b
          → b ≡ false → ExploresSplits P larger t cs es
      splits_beyond t cs es f m b (WalksSplits.no_more t') e = ExploresSplits.none t'
      splits_beyond t cs es f m b (WalksSplits.walked t' v c ds ks js f1 m1 f2 m2 b1 b2 sp w x) e =
          let both = or_false b1 b2 e in
          ExploresSplits.more t' v c ds ks js sp (explored_beyond v ks f1 m1 b1 w both.0) (splits_beyond t' ds js f2 m2 b2 x both.1)
      splits_beyond t cs es f m b (WalksSplits.too_heavy t' v c ds js f2 m2 b2 sp h x) e = absurd (true≢false e)

-- Where a list has the entries within both limits, and no others, what is listed within the one is listed within the other.
listed_alike : (P : Program) (a b : ℕ) (es : List Entry) → ((e : Entry) → Contains es e ↔ IsWithin P a e)
    → ((e : Entry) → Contains es e ↔ IsWithin P b e)
    → (ls : List Entry) → Listing P a ls → Listing P b ls
listed_alike P a b es at_a at_b ls x =
    entries_listing P b ls (listing_in_order P a ls x)
    (λ e. (
      λ i. (at_b e).0 ((at_a e).1 ((listing_entries P a ls x e).0 i)),
      λ r. (listing_entries P a ls x e).1 ((at_a e).0 ((at_b e).1 r)),
    ))

-- So every larger limit has the same listing.
pub whole_exhausts : (P : Program) (limit : ℕ) (es : List Entry) (f m : ℕ) → Walks P limit (blank (query_agenda P)) es f m false
    → Exhausted P limit
whole_exhausts P limit es f m w larger more ls =
    let here : (e : Entry) → Contains es e ↔ IsWithin P limit e = explored_entries P limit es
    (explored P limit (blank (query_agenda P)) es f m false w) in
    let there : (e : Entry) → Contains es e ↔ IsWithin P larger e = explored_entries P larger es
    (explored_beyond P limit larger more (blank (query_agenda P)) es f m false w refl) in
    (listed_alike P larger limit es there here ls, listed_alike P limit larger es here there ls)

-- A query that weighs more than the limit lists nothing, and is over the limit by itself.
pub alone_over : (P : Program) (limit : ℕ) → limit < weight (blank {P = P} (query_agenda P))
    → Listing P limit [] × OverLimit P limit query_alone
alone_over P limit h = (too_heavy h, omega (arith, h, blank_weighs P (query_agenda P)))
