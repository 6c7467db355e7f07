-- Each turn of a walk lowers the bound on the turns that are left.
use Rattle.std.proofs.Common.{ℕ, zero, suc, ◌+◌, ◌-◌, ◌*◌, ◌^◌, ◌≡◌, ◌<◌, ◌≤◌, List, ◌∷◌, length, sym, ap, ◌∙◌, subst, arith}
use Rattle.std.proofs.Common.{inl, inr}
use Rattle.std.proofs.lemmas.Bool.{cases_lt}
use Rattle.std.proofs.Math.Nat.{suc-mul, mul-le-mul_right}
use Rattle.and_branch.specs.Branches.{Held}
use Rattle.and_branch.specs.Children.{Fork}
use Rattle.and_visit.specs.Walking.{Place, One, Children, branch_turns, turns}

some_turn : (most room : ℕ) → 1 ≤ branch_turns most room
some_turn most zero = omega arith
some_turn most (suc room) = omega arith

one_more : (most room : ℕ) → 1 ≤ most → branch_turns most room ≤ branch_turns most (suc room)
one_more most room some =
    let x : ℕ = 1 + branch_turns most room in
    let grows : 1 * x ≤ most * x = mul-le-mul_right x some in
    omega (arith, grows)

-- A branch with more room has as many turns at least.
pub more_room : (most small large : ℕ) → 1 ≤ most → small ≤ large → branch_turns most small ≤ branch_turns most large
more_room most small zero some h =
    let e : small ≡ 0 = omega arith in
    subst (λ n. branch_turns most n ≤ branch_turns most 0) (sym e) (omega arith)
more_room most small (suc large) some h = elim (cases_lt large small) [
  | inl above ↦
      (let e : small ≡ suc large = omega arith in
      subst (λ n. branch_turns most n ≤ branch_turns most (suc large)) (sym e) (omega arith))
  | inr below ↦ (let up = more_room most small large some below in let one = one_more most large some in omega (arith, up, one))
]

-- A fork has fewer turns than a branch with room for one child more.
forked_below : (most room count : ℕ) → count ≤ most → 1 + count * (1 + branch_turns most room) < branch_turns most (suc room)
forked_below most room count few =
    let x : ℕ = 1 + branch_turns most room in
    let below : count * x ≤ most * x = mul-le-mul_right x few in
    omega (arith, below)

module _ (limit : ℕ) where
  -- What is on top is taken off.
  pub fewer_gone : (x : Place) (xs : List Place) → turns limit xs < turns limit (x ∷ xs)
  fewer_gone (One depth b) xs = let some = some_turn (2 ^ 64) (limit - b.used) in omega (arith, some)
  fewer_gone (Children depth f) xs = omega arith

  -- The branch on top grows.
  pub grown_turns : (depth : ℕ) (b c : Held) (xs : List Place) → b.used ≤ c.used
      → turns limit (One depth c ∷ xs) ≤ turns limit (One depth b ∷ xs)
  grown_turns depth b c xs h =
      let less = more_room (2 ^ 64) (limit - c.used) (limit - b.used) (omega arith) (omega arith) in
      omega (arith, less)

  -- The branch on top is forked.
  pub fewer_forked : (d e : ℕ) (b : Held) (f : Fork) (xs : List Place) → f.parent.used ≡ b.used → b.used < limit → length f.clauses ≤ 2 ^ 64
      → turns limit (Children e f ∷ xs) < turns limit (One d b ∷ xs)
  fewer_forked d e b f xs parent room few =
      let left : ℕ = limit - suc f.parent.used in
      let one : limit - b.used ≡ suc left = omega arith in
      let same = ap (λ n. branch_turns (2 ^ 64) n) one in
      let below = forked_below (2 ^ 64) left (length f.clauses) few in
      omega (arith, same, below)

  -- A child is taken, and others are left;
  pub fewer_next : (d : ℕ) (f g : Fork) (b : Held) (xs : List Place) → length f.clauses ≡ suc (length g.clauses) → g.parent.used ≡ f.parent.used
      → f.parent.used < b.used → turns limit (One d b ∷ Children d g ∷ xs) < turns limit (Children d f ∷ xs)
  fewer_next d f g b xs one parent grows =
      let left : ℕ = limit - suc f.parent.used in
      let x : ℕ = 1 + branch_turns (2 ^ 64) left in
      let count : ℕ = length f.clauses in
      let others : ℕ = length g.clauses in
      let child = more_room (2 ^ 64) (limit - b.used) left (omega arith) (omega arith) in
      let same : others * (1 + branch_turns (2 ^ 64) (limit - suc g.parent.used)) ≡ others * x =
      ap (λ n. others * (1 + branch_turns (2 ^ 64) (limit - suc n))) parent in
      let all : count * x ≡ others * x + x = ap (λ n. n * x) one ∙ suc-mul others x in
      omega (arith, child, same, all)

  -- or none is.
  pub fewer_last : (d : ℕ) (f : Fork) (others : ℕ) (b : Held) (xs : List Place) → length f.clauses ≡ suc others → f.parent.used < b.used
      → turns limit (One d b ∷ xs) < turns limit (Children d f ∷ xs)
  fewer_last d f others b xs one grows =
      let left : ℕ = limit - suc f.parent.used in
      let x : ℕ = 1 + branch_turns (2 ^ 64) left in
      let count : ℕ = length f.clauses in
      let child = more_room (2 ^ 64) (limit - b.used) left (omega arith) (omega arith) in
      let all : count * x ≡ others * x + x = ap (λ n. n * x) one ∙ suc-mul others x in
      omega (arith, child, all)
