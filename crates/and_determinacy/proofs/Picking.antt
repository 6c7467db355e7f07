-- Lists of just those clauses of another of which something holds, in order.
use Rattle.std.proofs.Common.{List, [], ◌∷◌, ◌++◌, sym, subst, inl, inr}
use Rattle.std.specs.Prelude.{All, AllPairs, Contains}
use Rattle.std.proofs.lemmas.List.Elements.{All-nil, All-contains, Contains-append_left, Contains-append_right, Contains-append_cases}
use Rattle.std.proofs.lemmas.List.Kept.{AllPairs-cons}
use Rattle.and_model.specs.declared.numbers.ClauseNo.{ClauseNo}
use Rattle.and_laws.proofs.Ordered.{contains_cases, contains_none}
use Rattle.and_laws.proofs.Pairwise.{all_pairs_none, all_pairs_join}
use Rattle.and_branch_laws.proofs.Lists.{all_of, pairs_left, pairs_across}

-- Picks Q ks cs: the list cs has just those of ks of which Q holds, in order.
pub data Picks (Q : ClauseNo → Type 0) : List ClauseNo → List ClauseNo → Type 0 where
  nothing : Picks Q [] []
  picked : (ks cs : List ClauseNo) (k : ClauseNo) → Q k → Picks Q ks cs → Picks Q (ks ++ k ∷ []) (cs ++ k ∷ [])
  passed : (ks cs : List ClauseNo) (k : ClauseNo) → (Q k → ⊥) → Picks Q ks cs → Picks Q (ks ++ k ∷ []) cs

module _ (Q : ClauseNo → Type 0) where
  -- What was picked is of the list, and Q holds of it,
  pub picked_is : (ks cs : List ClauseNo) → Picks Q ks cs → (c : ClauseNo) → Contains cs c → Contains ks c × Q c
  picked_is ks cs nothing c i = absurd (contains_none c i)
  picked_is ks cs (picked ls ds k q rest) c i = elim (Contains-append_cases ds (k ∷ []) c i) [
    | inl old ↦ (let r = picked_is ls ds rest c old in (Contains-append_left ls (k ∷ []) c r.0, r.1))
    | inr last ↦ elim (contains_cases k c [] last) [
      | inl e ↦ (Contains-append_right ls (k ∷ []) c last, subst Q (sym e) q)
      | inr none ↦ absurd (contains_none c none)
    ]
  ]
  picked_is ks cs (passed ls ds k q rest) c i =
      let r = picked_is ls ds rest c i in (Contains-append_left ls (k ∷ []) c r.0, r.1)

  -- and all such are.
  pub all_picked : (ks cs : List ClauseNo) → Picks Q ks cs → (c : ClauseNo) → Contains ks c → Q c → Contains cs c
  all_picked ks cs nothing c i q = absurd (contains_none c i)
  all_picked ks cs (picked ls ds k holds rest) c i q = elim (Contains-append_cases ls (k ∷ []) c i) [
    | inl old ↦ Contains-append_left ds (k ∷ []) c (all_picked ls ds rest c old q)
    | inr last ↦ Contains-append_right ds (k ∷ []) c last
  ]
  all_picked ks cs (passed ls ds k fails rest) c i q = elim (Contains-append_cases ls (k ∷ []) c i) [
    | inl old ↦ all_picked ls ds rest c old q
    | inr last ↦ elim (contains_cases k c [] last) [
      | inl e ↦ absurd (fails (subst Q e q))
      | inr none ↦ absurd (contains_none c none)
    ]
  ]

  -- They are in the list's order.
  pub picked_in_order : (R : ClauseNo → ClauseNo → Type 0) (ks cs : List ClauseNo) → Picks Q ks cs → AllPairs R ks → AllPairs R cs
  picked_in_order R ks cs nothing r = r
  picked_in_order R ks cs (picked ls ds k q rest) r =
      let before : AllPairs R ds = picked_in_order R ls ds rest (pairs_left R ls (k ∷ []) r) in
      let across : All (λ (x : ClauseNo). All (R x) (k ∷ [])) ls = pairs_across R ls (k ∷ []) r in
      all_pairs_join R ds (k ∷ []) before (AllPairs-cons R k [] (All-nil (R k)) (all_pairs_none R))
      (all_of (λ (x : ClauseNo). All (R x) (k ∷ [])) ds (λ x c.
      All-contains (λ (y : ClauseNo). All (R y) (k ∷ [])) ls x across (picked_is ls ds rest x c).0))
  picked_in_order R ks cs (passed ls ds k q rest) r = picked_in_order R ls ds rest (pairs_left R ls (k ∷ []) r)
