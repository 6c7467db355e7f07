-- Each move keeps the rule of a queue.
use Rattle.std.proofs.Common.{◌≡◌, ℕ, zero, suc, ◌+◌, ◌-◌, ◌<◌, List, [], ◌∷◌, ◌++◌, set, sym, refl, ap, ◌∙◌, subst, arith, ⊎_elim}
use mathlib.Core.Option.{some, some-injective, some-ne-none}
use lib.ListN.{get_elem?}
use Rattle.atomic_table.proofs.Lists.{at_set, at_snoc}
use Rattle.and_shares.specs.declared.share.Share.{Share}
use Rattle.and_shares.specs.Bags.{weigh}
use Rattle.and_shares.specs.Balance.{share, total, IdleIsEmpty, Balanced, HasLeft}
use Rattle.and_shares.proofs.Totals.{weigh-append, total_set, total-snoc, only_one}

abbrev IsIdle : {T : Type 0} → Share T → Type 0
IsIdle u = u.parts ≡ 0 → (u.put ≡ []) × (u.taken ≡ [])

idle_set : {T : Type 0} (views : List (Share T)) (port : ℕ) (w : Share T) → IsIdle w → IdleIsEmpty views → IdleIsEmpty (set views port w)
idle_set views port w ok idle j u at = ⊎_elim (λ t. subst IsIdle t.1 ok) (λ t. idle j u t.1) (at_set views port j w u at)

pub put_in : {T : Type 0} (all port : ℕ) (v : Share T) (xs items : List T) (views : List (Share T)) → 0 < v.parts → Balanced all items views
    → get_elem? views port ≡ some v → Balanced all (items ++ xs) (set views port (share v.parts (v.put ++ xs) v.taken))
put_in all port v xs items views some_part b at =
    let w = share v.parts (v.put ++ xs) v.taken in (
      (let s = total_set (λ u. u.parts) views port v w at in let p = b.0 in omega arith),
      (λ h.
          let s = total_set (λ u. weigh h u.put) views port v w at in
          let t = total_set (λ u. weigh h u.taken) views port v w at in
          let p = b.1 h in
          omega (arith, weigh-append h v.put xs, weigh-append h items xs)),
      idle_set views port w (λ none. absurd (omega arith)) b.2,
    )

pub taken_out : {T : Type 0} (all port : ℕ) (v : Share T) (xs items : List T) (views : List (Share T)) → 0 < v.parts
    → Balanced all (xs ++ items) views → get_elem? views port ≡ some v → Balanced all items (set views port (share v.parts v.put (v.taken ++ xs)))
taken_out all port v xs items views some_part b at =
    let w = share v.parts v.put (v.taken ++ xs) in (
      (let s = total_set (λ u. u.parts) views port v w at in let p = b.0 in omega arith),
      (λ h.
          let s = total_set (λ u. weigh h u.put) views port v w at in
          let t = total_set (λ u. weigh h u.taken) views port v w at in
          let p = b.1 h in
          omega (arith, weigh-append h v.taken xs, weigh-append h xs items)),
      idle_set views port w (λ none. absurd (omega arith)) b.2,
    )

pub forked : {T : Type 0} (all port : ℕ) (v : Share T) (items : List T) (views : List (Share T)) → 1 < v.parts → Balanced all items views
    → get_elem? views port ≡ some v → Balanced all items (set views port (share (v.parts - 1) v.put v.taken) ++ share 1 [] [] ∷ [])
forked {T} all port v items views more b at =
    let w = share (v.parts - 1) v.put v.taken in
    let n : Share T = share 1 [] [] in (
      (let s = total_set (λ u. u.parts) views port v w at in let p = b.0 in omega (arith, total-snoc (λ u. u.parts) (set views port w) n)),
      (λ h.
          let s = total_set (λ u. weigh h u.put) views port v w at in
          let t = total_set (λ u. weigh h u.taken) views port v w at in
          let p = b.1 h in
          omega (arith, total-snoc (λ u. weigh h u.put) (set views port w) n, total-snoc (λ u. weigh h u.taken) (set views port w) n)),
      λ j u here. ⊎_elim (λ old. idle_set views port w (λ none. absurd (omega arith)) b.2 j u old)
          (λ new. subst IsIdle new (λ none. absurd (omega arith))) (at_snoc (set views port w) n u j here),
    )

pub merged : {T : Type 0} (all port : ℕ) (v : Share T) (other : ℕ) (u : Share T) (items : List T) (views : List (Share T)) → 0 < v.parts
    → Balanced all items views → get_elem? views port ≡ some v
    → get_elem? (set views port (share (v.parts + u.parts) (v.put ++ u.put) (v.taken ++ u.taken))) other ≡ some u
    → Balanced all items (set (set views port (share (v.parts + u.parts) (v.put ++ u.put) (v.taken ++ u.taken))) other (share 0 [] []))
merged {T} all port v other u items views some_part b at at_other =
    let w = share (v.parts + u.parts) (v.put ++ u.put) (v.taken ++ u.taken) in
    let spent : Share T = share 0 [] [] in
    let between = set views port w in (
      (let s = total_set (λ a. a.parts) views port v w at in let t = total_set (λ a. a.parts) between other u spent at_other in let p = b.0 in
          omega arith),
      (λ h.
          let s = total_set (λ a. weigh h a.put) views port v w at in
          let s' = total_set (λ a. weigh h a.put) between other u spent at_other in
          let t = total_set (λ a. weigh h a.taken) views port v w at in
          let t' = total_set (λ a. weigh h a.taken) between other u spent at_other in
          let p = b.1 h in
          omega (arith, weigh-append h v.put u.put, weigh-append h v.taken u.taken)),
      idle_set between other spent (λ none. (refl, refl)) (idle_set views port w (λ none. absurd (omega arith)) b.2),
    )

pub learnt : {T : Type 0} (parts port : ℕ) (v : Share T) (items : List T) (views : List (Share T)) → Balanced parts items views
    → get_elem? views port ≡ some v → HasLeft parts v items
learnt parts port v items views b at all h =
    let same : total (λ u. u.parts) views ≡ v.parts = b.0 ∙ sym all in
    let put = only_one (λ u. weigh h u.put) views port v at (λ p u here none. ap (weigh h) (b.2 p u here none).0) same in
    let taken = only_one (λ u. weigh h u.taken) views port v at (λ p u here none. ap (weigh h) (b.2 p u here none).1) same in
    let p = b.1 h in
    omega arith

pub begun : {T : Type 0} (parts : ℕ) → Balanced {T = T} parts [] (share parts [] [] ∷ [])
begun {T} parts = (omega arith, (λ h. refl), first)
  where
    first : IdleIsEmpty {T = T} (share parts [] [] ∷ [])
    first zero v at none = subst (λ (u : Share T). (u.put ≡ []) × (u.taken ≡ [])) (some-injective (share parts [] []) v at) (refl, refl)
    first (suc n) v at none = absurd (some-ne-none v (sym at))
