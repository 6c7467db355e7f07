-- Each move keeps the rule of the queue.
use Rattle.std.proofs.Common.{◌≡◌, ℕ, ◌+◌, ◌-◌, ◌<◌, [], ◌∷◌, ◌++◌, refl}
use Rattle.crossbeam_queue.specs.Fifo.{Pushes, Pops, Forks, Merges, Learns}
use Rattle.and_shares.specs.declared.share.Share.{Share}
use Rattle.and_shares.specs.Balance.{share, HasLeft}
use Rattle.and_shares.proofs.Moves.{put_in, taken_out, forked, merged, learnt, begun}
use Rattle.and_batch.specs.Balance.{IsBalanced}

pub puts : (n port : ℕ) (v : Share ℕ) (x : ℕ) → 0 < v.parts
    → Pushes IsBalanced n port v x (λ w. w ≡ share v.parts (v.put ++ x ∷ []) v.taken)
puts n port v x some_part numbers views room b at = (
  share v.parts (v.put ++ x ∷ []) v.taken,
  put_in 9 port v (x ∷ []) numbers views some_part b at,
  refl,
)

pub takes : (port : ℕ) (v : Share ℕ) → 0 < v.parts → Pops IsBalanced port v (λ x w. w ≡ share v.parts v.put (v.taken ++ x ∷ []))
takes port v some_part x numbers views b at = (
  share v.parts v.put (v.taken ++ x ∷ []),
  taken_out 9 port v (x ∷ []) numbers views some_part b at,
  refl,
)

pub forks : (port : ℕ) (v : Share ℕ) → 1 < v.parts → Forks IsBalanced port v (share (v.parts - 1) v.put v.taken) (share 1 [] [])
forks port v more numbers views b at = forked 9 port v numbers views more b at

pub merges : (port : ℕ) (v : Share ℕ) (other : ℕ) (u : Share ℕ) → 0 < v.parts
    → Merges IsBalanced port v other u (share (v.parts + u.parts) (v.put ++ u.put) (v.taken ++ u.taken)) (share 0 [] [])
merges port v other u some_part numbers views b at two at_other = merged 9 port v other u numbers views some_part b at at_other

pub learns : (port : ℕ) (v : Share ℕ) → Learns IsBalanced port v (HasLeft 9 v)
learns port v numbers views b at = learnt 9 port v numbers views b at

pub begins : IsBalanced [] (share 9 [] [] ∷ [])
begins = begun 9
