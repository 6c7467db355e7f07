-- Each move keeps the rule of a deque.
use Rattle.std.proofs.Common.{◌≡◌, ℕ, ◌+◌, ◌-◌, ◌<◌, List, [], ◌∷◌, ◌++◌, refl, arith}
use Rattle.crossbeam_deque.specs.Tasks.{Pushes, Takes, Finds, FindsFew, Forks, Merges, Learns}
use Rattle.and_model.specs.declared.goal.Goal.{Goal}
use Rattle.and_shares.specs.declared.share.Share.{Share}
use Rattle.and_shares.specs.Balance.{share, HasLeft}
use Rattle.and_shares.proofs.Moves.{put_in, taken_out, forked, merged, learnt, begun}
use Rattle.and_goals.specs.Balance.{IsBalanced, WasEmpty}

pub puts : (port : ℕ) (v : Share Goal) (xs : List Goal) → 0 < v.parts → Pushes IsBalanced port v xs (λ w. w ≡ share v.parts (v.put ++ xs) v.taken)
puts port v xs some_part goals views b at = (share v.parts (v.put ++ xs) v.taken, put_in 8 port v xs goals views some_part b at, refl)

pub takes : (port most : ℕ) (v : Share Goal) → 0 < v.parts
    → Takes IsBalanced port v most (λ xs w. w ≡ share v.parts v.put (v.taken ++ xs))
takes port most v some_part xs goals views _ _ b at = (
  share v.parts v.put (v.taken ++ xs),
  taken_out 8 port v xs goals views some_part b at,
  refl,
)

pub finds : (port : ℕ) (v : Share Goal) → Finds IsBalanced port v (WasEmpty v)
finds port v views b at = (views, port, b, at)

pub finds_few : (port : ℕ) (v : Share Goal) → FindsFew IsBalanced 0 port v (WasEmpty v)
finds_few port v [] views few b at = (views, port, b, at)
finds_few port v (x ∷ xs) views few b at = absurd (omega arith)

pub forks : (port : ℕ) (v : Share Goal) → 1 < v.parts → Forks IsBalanced port v (share (v.parts - 1) v.put v.taken) (share 1 [] [])
forks port v more goals views b at = forked 8 port v goals views more b at

pub merges : (port : ℕ) (v : Share Goal) (other : ℕ) (u : Share Goal) → 0 < v.parts
    → Merges IsBalanced port v other u (share (v.parts + u.parts) (v.put ++ u.put) (v.taken ++ u.taken)) (share 0 [] [])
merges port v other u some_part goals views b at two at_other = merged 8 port v other u goals views some_part b at at_other

pub learns : (port : ℕ) (v : Share Goal) → Learns IsBalanced port v (HasLeft 8 v)
learns port v goals views b at = learnt 8 port v goals views b at

pub begins : IsBalanced [] (share 8 [] [] ∷ [])
begins = begun 8
