-- What is so of the clauses that are left, and of those that are left out.
use Rattle.std.proofs.Common.{ℕ, ◌≡◌, ◌≢◌, List, [], ◌∷◌, sym, subst, ◌∙◌, inl, inr, ◌⊎◌}
use Rattle.std.specs.Prelude.{All, AllPairs, Contains}
use Rattle.std.proofs.lemmas.List.Elements.{All-nil, All-contains, Contains-append_left, Contains-append_right, Contains-append_cases}
use Rattle.std.proofs.lemmas.List.Kept.{AllPairs-cons}
use Rattle.and_model.specs.declared.numbers.ClauseNo.{ClauseNo}
use Rattle.and_laws.proofs.Ordered.{contains_cases, contains_none}
use Rattle.and_laws.proofs.Pairwise.{all_pairs_none, all_pairs_join}
use Rattle.and_branch_laws.proofs.Lists.{all_of, pairs_left, pairs_across}
use Rattle.and_cells.specs.Ranges.{NamedProgram}
use Rattle.and_cells.specs.Seen.{Seen, OnlyReads}
use Rattle.and_clause_index.specs.Selecting.{IsNoCandidate}
use Rattle.and_shared_determinacy.specs.declared.selecting.Tried.{Tried}
use Rattle.and_shared_determinacy.specs.declared.selecting.Tried.TheVariants.{Stays, Falls, Memory}
use Rattle.and_shared_determinacy.specs.Sifting.{AreSifted, nothing, kept, dropped}

-- What is so of what was left out may be weakened.
pub sifted_later : (Out Later : ClauseNo → Type 0) → ((c : ClauseNo) → Out c → Later c) → (ks cs : List ClauseNo) → AreSifted Out ks cs → AreSifted Later ks cs
sifted_later Out Later weaker ks cs nothing = nothing
sifted_later Out Later weaker ks cs (kept ls ds k rest) = kept ls ds k (sifted_later Out Later weaker ls ds rest)
sifted_later Out Later weaker ks cs (dropped ls ds k out rest) = dropped ls ds k (weaker k out) (sifted_later Out Later weaker ls ds rest)

module _ (Out : ClauseNo → Type 0) where
  -- What is left is of the list,
  pub sifted_there : (ks cs : List ClauseNo) → AreSifted Out ks cs → (c : ClauseNo) → Contains cs c → Contains ks c
  sifted_there ks cs nothing c i = absurd (contains_none c i)
  sifted_there ks cs (kept ls ds k rest) c i = elim (Contains-append_cases ds (k ∷ []) c i) [
    | inl old ↦ Contains-append_left ls (k ∷ []) c (sifted_there ls ds rest c old)
    | inr last ↦ Contains-append_right ls (k ∷ []) c last
  ]
  sifted_there ks cs (dropped ls ds k out rest) c i = Contains-append_left ls (k ∷ []) c (sifted_there ls ds rest c i)

  -- the rest is as said,
  pub sifted_all : (ks cs : List ClauseNo) → AreSifted Out ks cs → (c : ClauseNo) → Contains ks c → Contains cs c ⊎ Out c
  sifted_all ks cs nothing c i = absurd (contains_none c i)
  sifted_all ks cs (kept ls ds k rest) c i = elim (Contains-append_cases ls (k ∷ []) c i) [
    | inl old ↦ elim (sifted_all ls ds rest c old) [ inl there ↦ inl (Contains-append_left ds (k ∷ []) c there) | inr out ↦ inr out ]
    | inr last ↦ inl (Contains-append_right ds (k ∷ []) c last)
  ]
  sifted_all ks cs (dropped ls ds k is_out rest) c i = elim (Contains-append_cases ls (k ∷ []) c i) [
    | inl old ↦ sifted_all ls ds rest c old
    | inr last ↦ elim (contains_cases k c [] last) [ inl e ↦ inr (subst Out (sym e) is_out) | inr none ↦ absurd (contains_none c none) ]
  ]

  -- and it is in the list's order.
  pub sifted_in_order : (R : ClauseNo → ClauseNo → Type 0) (ks cs : List ClauseNo) → AreSifted Out ks cs → AllPairs R ks → AllPairs R cs
  sifted_in_order R ks cs nothing r = r
  sifted_in_order R ks cs (kept ls ds k rest) r =
      let before : AllPairs R ds = sifted_in_order R ls ds rest (pairs_left R ls (k ∷ []) r) in
      let across : All (λ (x : ClauseNo). All (R x) (k ∷ [])) ls = pairs_across R ls (k ∷ []) r in
      all_pairs_join R ds (k ∷ []) before (AllPairs-cons R k [] (All-nil (R k)) (all_pairs_none R))
      (all_of (λ (x : ClauseNo). All (R x) (k ∷ [])) ds (λ x c.
      All-contains (λ (y : ClauseNo). All (R y) (k ∷ [])) ls x across (sifted_there ls ds rest x c)))
  sifted_in_order R ks cs (dropped ls ds k out rest) r = sifted_in_order R ls ds rest (pairs_left R ls (k ∷ []) r)

-- What is no candidate is none once more is known.
pub no_candidate_later : (P : NamedProgram) (old new : Seen) (node base : ℕ) (c : ClauseNo) → OnlyReads old new → IsNoCandidate P old node base c
    → IsNoCandidate P new node base c
no_candidate_later P old new node base c reads fell row has whole candidate =
    fell row (record { long = has.long ∙ reads.words; set = λ p r knows. has.set p r (reads.keeps p r knows) }) whole candidate

pub stays_some : (r : Tried) → r ≡ Stays → r ≢ Memory
stays_some r one two = let both : Stays ≡ Memory = sym one ∙ two in cc

pub falls_some : (r : Tried) → r ≡ Falls → r ≢ Memory
falls_some r one two = let both : Falls ≡ Memory = sym one ∙ two in cc
