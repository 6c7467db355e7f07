-- The fork on top of a stack, where it stands.
use Rattle.std.proofs.Common.{ℕ, ◌+◌, ◌≡◌, ◌<◌, ◌≤◌, List, [], ◌∷◌, ◌++◌, get_or, length, set, take, reverse, refl, sym, ap, ◌∙◌, subst, arith}
use Rattle.std.proofs.lemmas.List.{length-reverse, length_push, reverse-append, set_at, take_all, take_more}
use Rattle.and_cells.specs.Ranges.{NamedProgram}
use Rattle.and_code.specs.Telling.{left_of}
use Rattle.and_branch.specs.Branches.{Held}
use Rattle.and_branch.specs.Children.{IsChild}
use Rattle.and_branch.specs.Origins.{GoesBack}
use Rattle.and_traces.specs.Traces.{Report}
use Rattle.and_visit.specs.Walking.{IsLeft, HasNext, left_on_top, places_of, turns}
use Rattle.and_visit.specs.declared.stack.Hand.{Hand}
use Rattle.and_visit.specs.declared.stack.Level.{Level}
use Rattle.and_visit.proofs.Going.{next_ready}

some_on_top : {N : Type 0} (ls : List (Level N)) → 1 < left_on_top ls → 1 ≤ length ls
some_on_top [] many = absurd (omega arith)
some_on_top (l ∷ ls) many = omega arith

-- Where some child is to come, there is a fork,
pub some_stacked : {N : Type 0} (ls : List (Level N)) → 1 < left_on_top (reverse ls) → 1 ≤ length ls
some_stacked ls many = let some = some_on_top (reverse ls) many in let long = length-reverse ls in omega arith

-- and where there is none, none is.
pub none_on_top : {N : Type 0} (ls : List (Level N)) → length ls ≡ 0 → left_on_top (reverse ls) ≡ 0
none_on_top [] none = refl
none_on_top (l ∷ ls) none = absurd (omega arith)

module _ {N : Type 0} (ls : List (Level N)) (i : ℕ) (long : i + 1 ≡ length ls) (level : Level N) (read : level ≡ get_or ls i level) where
  -- (A stack is its last fork and those before it.)
  parted : ls ≡ take i ls ++ level ∷ []
  parted =
      sym (take_all (i + 1) ls (omega arith)) ∙ take_more ls i level (omega arith) ∙ ap (λ (l : Level N). take i ls ++ l ∷ []) (sym read)

  before_top : length (take i ls) ≡ i
  before_top =
      let all = ap (λ (xs : List (Level N)). length xs) parted in
      let more = length_push (take i ls) level in
      omega arith

  -- The last fork is on top,
  pub on_top : reverse ls ≡ level ∷ reverse (take i ls)
  on_top = ap (λ (xs : List (Level N)). reverse xs) parted ∙ reverse-append (take i ls) (level ∷ [])

  -- and is changed there.
  pub changed_on_top : (new : Level N) → reverse (set ls i new) ≡ new ∷ reverse (take i ls)
  changed_on_top new =
      ap (λ (xs : List (Level N)). reverse (set xs i new)) parted
      ∙ ap (λ (xs : List (Level N)). reverse xs) (set_at (take i ls) level [] new i before_top)
      ∙ reverse-append (take i ls) (new ∷ [])

module _ {N : Type 0} (P : NamedProgram) (limit : ℕ) (Seen : List Report → Type 0) (ls : List (Level N)) (i : ℕ) (long : i + 1 ≡ length ls)
    (left : Held) (x : IsLeft P limit Seen (reverse ls) left) (level : Level N) (read : level ≡ get_or ls i level) where
  -- What is left is left of a child of the fork on top,
  pub left_above : IsLeft P limit Seen (level ∷ reverse (take i ls)) left
  left_above = subst (λ (xs : List (Level N)). IsLeft P limit Seen xs left) (on_top ls i long level read) x

  -- and the next child of it comes in hand.
  pub next_above : 1 < left_on_top (reverse ls) → (new : Level N) (h : Hand N) → new ≡ record level { point = new.point }
      → IsChild P level.point new.point h.branch → GoesBack level.point.parent h.branch → h.told.length ≡ level.told.length
      → left_of h.told ≡ left_of level.told → h.depth ≡ level.depth
      → HasNext P limit (turns limit (places_of (reverse ls))) Seen (reverse (set ls i new)) h
  next_above many new h same is back length_is left_is depth =
      let below : List (Level N) = reverse (take i ls) in
      let top : reverse ls ≡ level ∷ below = on_top ls i long level read in
      let after : reverse (set ls i new) ≡ record level { point = new.point } ∷ below =
      subst (λ (l : Level N). reverse (set ls i new) ≡ l ∷ below) same (changed_on_top ls i long level read new) in
      let more : 1 < length level.point.clauses = subst (λ (xs : List (Level N)). 1 < left_on_top xs) top many in
      subst (λ (xs : List (Level N)). HasNext P limit (turns limit (places_of xs)) Seen (reverse (set ls i new)) h) (sym top)
      (subst (λ (n : ℕ). HasNext P limit (turns limit (places_of (level ∷ below))) Seen (reverse (set ls i new))
      (record { branch = h.branch; told = h.told; depth = n })) (sym depth)
      (next_ready P limit Seen below level left left_above (reverse (set ls i new)) new.point h.branch h.told is more back length_is left_is after))
