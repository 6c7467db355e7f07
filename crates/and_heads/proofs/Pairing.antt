-- Pairs of a list that are met one after the other.
use Rattle.std.proofs.Common.{ℕ, suc, ◌+◌, ◌≡◌, ◌≤◌, List, [], ◌∷◌, ◌++◌, length, drop, slice_get, Some, sym, ap, subst, ◌∙◌, append-nil, arith}
use Rattle.std.proofs.Math.Seq.{drop-cons}
use Rattle.std.proofs.lemmas.List.{drop_all}
use Rattle.std.proofs.lemmas.Option.{get_or_from_slice_get, slice_get_within}
use Rattle.and_program.specs.Skeletons.{AllFall}
use Rattle.and_cells.specs.Ranges.{NamedProgram}
use Rattle.and_cells.specs.Seen.{Seen}
use Rattle.and_unify.specs.declared.pairs.Pair.{Pair}
use Rattle.and_unify.specs.Pairs.{AreInRange, AreWritten}
use Rattle.and_unify.specs.Running.{Runs, start}
use Rattle.and_unify.proofs.DescentRuns.{PairTurn, asked_turn}
use Rattle.and_heads.specs.declared.parts.Part.{Part}
use Rattle.and_heads.specs.Parts.{arguments_of_parts}

module _ (P : NamedProgram) (old s : Seen) (asked : List Pair) (began bound : List ℕ) where
  -- Nothing was met yet.
  pub none_met : (parts : List Part) → parts ≡ [] → Runs P old asked began old (asked ++ arguments_of_parts P parts) began
  none_met parts none = subst (λ (ps : List Part). Runs P old asked began old (asked ++ arguments_of_parts P ps) began) (sym none)
      (subst (λ xs. Runs P old asked began old xs began) (sym (append-nil asked)) start)

  -- All were met.
  pub all_met : (list : List Pair) (k : ℕ) → length asked ≤ k → Runs P old asked began s (drop k asked ++ list) bound → Runs P old asked began s list bound
  all_met list k past runs = subst (λ xs. Runs P old asked began s (xs ++ list) bound) (drop_all k asked past) runs

  module _ (list : List Pair) (pair : Pair) (k : ℕ) (at : slice_get asked k ≡ Some pair)
      (runs : Runs P old asked began s (drop k asked ++ list) bound) where
    -- A turn at a place: the pair there is the first of those that are to do, and it fits.
    pub pair_turn : AllFall 0 P.skeleton.nodes → AreInRange P old.words asked → AreWritten old asked
        → PairTurn P old s asked (drop (k + 1) asked ++ list) began bound pair
    pair_turn fall range written =
        let next : suc k ≡ k + 1 = omega arith in
        asked_turn P old s asked (drop (k + 1) asked ++ list) began bound pair fall range written
        (subst (λ xs. Runs P old asked began s (xs ++ list) bound)
        (drop-cons asked k pair (slice_get_within asked k pair at)
        ∙ ap (λ (p : Pair). p ∷ drop (suc k) asked) (get_or_from_slice_get asked k pair pair at)
        ∙ ap (λ (n : ℕ). pair ∷ drop n asked) next)
        runs)
