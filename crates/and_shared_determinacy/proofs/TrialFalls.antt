-- What a trial on an overlay says of a clause.
use Rattle.std.proofs.Common.{ℕ, ◌≡◌, List, [], ◌∷◌, map, sym, ap, subst, ◌∙◌}
use Rattle.and_model.specs.Terms.{Substitution}
use Rattle.and_model.specs.Programs.{clause_at}
use Rattle.and_model.specs.declared.numbers.ClauseNo.{ClauseNo}
use Rattle.and_model.specs.declared.reference.Ref.{Ref}
use Rattle.and_program.specs.Skeletons.{NodeItem, node_term, item_of, AllFall}
use Rattle.and_cells.specs.Ranges.{NamedProgram, IsNodeInRange}
use Rattle.and_cells.specs.Seen.{Seen, Knows, IsCoherent, OnlyReads}
use Rattle.and_cells.specs.Meaning.{Words}
use Rattle.and_cells.specs.Parts.{part_at}
use Rattle.and_overlay.specs.Overlaid.{Own, seen_over, IsOver}
use Rattle.and_unify.specs.declared.pairs.Pair.{Pair}
use Rattle.and_shared_determinacy.specs.Truths.{IsTrue, AreTrue, LearntAreTrue, ArePairsTrue}
use Rattle.and_shared_determinacy.specs.Matches.{MatchesAll, NeverMatch}
use Rattle.and_shared_determinacy.specs.Weighing.{GuardFailsOver}
use Rattle.and_clause_index.specs.Selecting.{IsNoCandidate}
use Rattle.and_shared_determinacy.proofs.Truths.{reads_true, learnt_before}
use Rattle.and_shared_determinacy.proofs.Falling.{begun_hold, learnt_hold, falls_apart, falls_guarded}

-- An overlay with nothing set in it, and the same after some calls: what is known below stays known.
pub record IsTrial (P : NamedProgram) (below now : Seen) (frame frame_now : ℕ) (own own_now : List Own) (looked looked_now : List ℕ) : Type 0 where
  pub nothing : own ≡ []
  pub begun : IsOver P below frame own looked
  pub begun_coherent : IsCoherent below
  pub over : IsOver P now frame_now own_now looked_now
  pub coherent : IsCoherent now
  pub keeps : (place : ℕ) (r : Ref) → Knows below place r → Knows now place r

module _ (P : NamedProgram) (fall : AllFall 0 P.skeleton.nodes) (below now : Seen) (frame frame_now : ℕ) (own own_now : List Own) (looked looked_now : List ℕ)
    (trial : IsTrial P below now frame frame_now own own_now looked looked_now) (words node base : ℕ) (long : words ≡ now.words)
    (range : IsNodeInRange P words node base)
    (c : ClauseNo) (head : ℕ) (head_is : node_term P.skeleton.nodes head ≡ (clause_at P.program c.0).head) where
  abbrev pub asked : List Pair
  asked = record { left = part_at P base node; right = part_at P words head } ∷ []

  begins : (w : Words) (t : Substitution) → AreTrue P w t now → AreTrue P w t (seen_over below frame own looked)
  begins w t are = subst (λ (o : List Own). AreTrue P w t (seen_over below frame o looked)) (sym trial.nothing)
      (begun_hold (IsTrue P w t) P now are below frame looked (subst (λ (o : List Own). IsOver P below frame o looked) trial.nothing trial.begun)
      trial.begun_coherent trial.keeps)

  learns : (w : Words) (t : Substitution) → AreTrue P w t now → LearntAreTrue P w t (seen_over now frame_now own_now looked_now)
  learns w t are = learnt_hold (IsTrue P w t) P now are frame_now own_now looked_now trial.over trial.coherent

  in_range : IsNodeInRange P now.words node base
  in_range = subst (λ (n : ℕ). IsNodeInRange P n node base) long range

  pairs_here : (w : Words) (t : Substitution) → ArePairsTrue P w t (record { left = part_at P base node; right = part_at P now.words head } ∷ [])
      → ArePairsTrue P w t asked
  pairs_here w t are = subst (λ (n : ℕ). ArePairsTrue P w t (record { left = part_at P base node; right = part_at P n head } ∷ [])) (sym long) are

  -- The pairs have no solution,
  pub apart_falls : NeverMatch P asked (seen_over below frame own looked) (seen_over now frame_now own_now looked_now) → IsNoCandidate P now node base c
  apart_falls never = falls_apart P fall now trial.over.below node base in_range c head head_is
      (λ w t both. never w t (begins w t both.0) (learns w t both.0) (pairs_here w t both.1))

  -- or the guard fails.
  pub guard_falls : (matched : Seen) (items : List NodeItem) → map (item_of P.skeleton.nodes) items ≡ (clause_at P.program c.0).body
      → MatchesAll P asked (seen_over below frame own looked) matched → OnlyReads matched (seen_over now frame_now own_now looked_now)
      → GuardFailsOver P (seen_over now frame_now own_now looked_now) words items → IsNoCandidate P now node base c
  guard_falls matched items body_is matches reads fails = falls_guarded P fall now trial.over.below node base in_range c head head_is
      (seen_over now frame_now own_now looked_now) items body_is
      (λ w t both.
      let learnt = learns w t both.0 in
      let mid = matches w t (begins w t both.0) (learnt_before P w t matched (seen_over now frame_now own_now looked_now) (reads.learnt, reads.gains) learnt)
      (pairs_here w t both.1) in
      reads_true P w t matched (seen_over now frame_now own_now looked_now) reads mid learnt)
      (subst (λ (n : ℕ). GuardFailsOver P (seen_over now frame_now own_now looked_now) n items) long fails)

abbrev one_pair : Ref → Ref → List Pair
one_pair l r = record { left = l; right = r } ∷ []

-- the pair that was asked, where its sides are found
pub asked_are : (pairs : List Pair) (l r left right : Ref) → pairs ≡ record { left = l; right = r } ∷ [] → l ≡ left → r ≡ right
    → pairs ≡ record { left = left; right = right } ∷ []
asked_are pairs l r left right is one two =
    is ∙ ap (λ (x : Ref). one_pair x r) one ∙ ap (λ (x : Ref). one_pair left x) two
