-- What contracts see of a plain tree, and what its calls make of it (this project's own).
use Rattle.std.specs.Prelude.{ℕ, ◌+◌, ◌-◌, ◌^◌, ◌≡◌, min, Option, None, Some}
use Rattle.and_histories.specs.PlainTree.{Key, State, Content, free, opened, Event, Reply, fork, publish, claim}
use Rattle.and_histories.specs.PlainTree.{clear, end, look, left, Ending}
use Rattle.and_histories.specs.PlainTree.{answered, retired, given_up, Does, opening}

-- how many forks were made and keys ended in each way
pub record Tally : Type 0 where
  pub forks : ℕ
  pub answers : ℕ
  pub retired : ℕ
  pub given_up : ℕ

-- the limit of the branches, the state, and what was counted
pub record Plain : Type 0 where
  pub limit : ℕ
  pub state : State
  pub tally : Tally

-- one more, which stays at the largest number of 64 bits
abbrev pub one_more : ℕ → ℕ
one_more n = min (n + 1) (2 ^ 64 - 1)

abbrev pub ended_so : Ending → Tally → Tally
ended_so answered t = record t { answers = one_more t.answers }
ended_so retired t = record t { retired = one_more t.retired }
ended_so given_up t = record t { given_up = one_more t.given_up }

-- what an event counts
abbrev pub tallied : Event → Tally → Tally
tallied (fork team key longer clauses) t = record t { forks = one_more t.forks }
tallied (publish team cell key) t = t
tallied (claim team cell serial) t = t
tallied (clear team cell) t = t
tallied (end team key how) t = ended_so how t
tallied (look team cell) t = t
tallied (left team) t = t

abbrev pub none_yet : Tally
none_yet = record { forks = 0; answers = 0; retired = 0; given_up = 0 }

-- the sums of two tallies
abbrev pub total : ℕ → ℕ → ℕ
total one other = min (one + other) (2 ^ 64 - 1)

abbrev pub added : Tally → Tally → Tally
added t u =
    record {
      forks = total t.forks u.forks;
      answers = total t.answers u.answers;
      retired = total t.retired u.retired;
      given_up = total t.given_up u.given_up;
    }

-- a tree of so many teams whose root is open
abbrev pub fresh_tree : (limit teams : ℕ) → Plain
fresh_tree limit teams = record { limit = limit; state = opening teams; tally = none_yet }

-- The event was answered so, and the tree p became q.
pub record Turns (event : Event) (reply : Reply) (p q : Plain) : Type 0 where
  pub does : Does p.state event reply q.state
  pub limit : q.limit ≡ p.limit
  pub tally : q.tally ≡ tallied event p.tally

-- A claim that takes clears the cell, too.
pub record Takes (team cell serial : ℕ) (key : Key) (p q : Plain) : Type 0 where
  pub between : Plain
  pub claims : Turns (claim team cell serial) (Reply.taken key) p between
  pub clears : Turns (clear team cell) Reply.cleared between q

-- where the keys of a plain tree are, and the limit of the branches
pub record Placed : Type 0 where
  pub limit : ℕ
  pub state : State

-- what lies in a cell: a branch, or none
abbrev pub content_of : {B : Type 0} → (B → Key) → Option B → Content
content_of key_of None = free
content_of key_of (Some branch) = opened (key_of branch)
