-- A walk over the goals of a tree.
use Rattle.std.proofs.Common.{ℕ, suc, ◌+◌, ◌*◌, ◌^◌, ◌≡◌, ◌<◌, ◌≤◌, List, [], ◌∷◌, ◌++◌, length, reverse}
use Rattle.std.proofs.Common.{ap, sym, ◌∙◌, subst, arith, append_assoc, append-nil}
use Rattle.std.specs.Prelude.{IsPermutation}
use Rattle.std.proofs.lemmas.List.{reverse-append, length-append}
use Rattle.std.proofs.lemmas.List.Sorted.{IsPermutation-refl, length_permutation}
use Rattle.and_model.specs.Programs.{Program}
use Rattle.and_model.specs.declared.goal.Goal.{Goal}
use Rattle.and_gathering.specs.Gathering.{Walks, IsMet, IsFollowed, goal_taken, unmet, kept, followed, over, stays, ran, reduced}
use Rattle.and_gathering.specs.declared.links.Taken.{Taken}
use Rattle.and_gathering.specs.declared.links.Taken.TheVariants.{Reduced, Ran}
use Rattle.and_gathering.specs.declared.gathering.Walk.{Walk}
use Rattle.and_gathering.proofs.Stepping.{moved_over, nothing_left}

-- Walking P goals taken w: whatever is left and met of the stack, there is a walk of all the goals on which this, and what was left and met so far,
-- is left and met. What was met is out of what was taken.
pub record Walking (P : Program) (goals : List Goal) (taken : List Taken) (w : Walk) : Type 0 where
  pub met : List Taken
  pub owes : (rest : List Goal) (more : List Taken) → Walks P (reverse w.stack.items) rest more → Walks P goals (w.left.items ++ rest) (met ++ more)
  pub all : IsPermutation taken (met ++ unmet w.links)
  pub count : length met ≡ w.found

pub walk_begins : (P : Program) (goals : List Goal) (taken : List Taken) (w : Walk) → reverse w.stack.items ≡ goals → w.left.items ≡ []
    → unmet w.links ≡ taken → w.found ≡ 0 → Walking P goals taken w
walk_begins P goals taken w stack left links found = record {
  met = [];
  owes = λ rest more walks. subst (λ (l : List Goal). Walks P goals (l ++ rest) more) (sym left)
      (subst (λ (l : List Goal). Walks P l rest more) stack walks);
  all = subst (IsPermutation taken) (sym links) (IsPermutation-refl taken);
  count = sym found;
}

-- A goal that was popped and met.
pub walk_goes_on : (P : Program) (goals : List Goal) (taken : List Taken) (w popped new : Walk) (goal : Goal) → Walking P goals taken w
    → w.stack.items ≡ popped.stack.items ++ goal ∷ [] → popped.left.items ≡ w.left.items → unmet popped.links ≡ unmet w.links → popped.found ≡ w.found
    → IsMet P goal popped new → Walking P goals taken new
walk_goes_on P goals taken w popped new goal walking pop left links found met =
    let turned : reverse w.stack.items ≡ goal ∷ reverse popped.stack.items = ap reverse pop ∙ reverse-append popped.stack.items (goal ∷ []) in
    let owed : (rest : List Goal) (more : List Taken) → Walks P (goal ∷ reverse popped.stack.items) rest more
    → Walks P goals (w.left.items ++ rest) (walking.met ++ more) =
    λ rest more walks. walking.owes rest more (subst (λ (l : List Goal). Walks P l rest more) (sym turned) walks) in
    go met turned owed
  where
    go : IsMet P goal popped new → reverse w.stack.items ≡ goal ∷ reverse popped.stack.items
        → ((rest : List Goal) (more : List Taken) → Walks P (goal ∷ reverse popped.stack.items) rest more
        → Walks P goals (w.left.items ++ rest) (walking.met ++ more)) → Walking P goals taken new
    go (kept same_links same_stack more_left same_found) turned owed = record {
      met = walking.met;
      owes = λ rest more walks.
          let on = owed (goal ∷ rest) more (stays goal (reverse popped.stack.items) rest more
          (subst (λ (l : List Goal). Walks P (reverse l) rest more) same_stack walks)) in
          subst (λ (l : List Goal). Walks P goals l (walking.met ++ more))
          (sym (append_assoc w.left.items (goal ∷ []) rest) ∙ ap (λ (l : List Goal). l ++ rest)
          (ap (λ (l : List Goal). l ++ goal ∷ []) (sym left) ∙ sym more_left)) on;
      all = subst (λ (l : List Taken). IsPermutation taken (walking.met ++ l)) (sym (same_links ∙ links)) walking.all;
      count = walking.count ∙ sym (same_found ∙ found);
    }
    go (followed t is out follows same_left more_found) turned owed = record {
      met = walking.met ++ t ∷ [];
      owes = λ rest more walks.
          let on = owed rest (t ∷ more) (step t is follows rest more walks) in
          subst (λ (l : List Taken). Walks P goals (new.left.items ++ rest) l) (sym (append_assoc walking.met (t ∷ []) more))
          (subst (λ (l : List Goal). Walks P goals (l ++ rest) (walking.met ++ t ∷ more)) (sym (same_left ∙ left)) on);
      all = moved_over taken walking.met (unmet w.links) (unmet new.links) t walking.all
          (subst (λ (l : List Taken). IsPermutation l (t ∷ unmet new.links)) links out);
      count = let sum = length-append walking.met (t ∷ []) in let so = walking.count in omega (arith, sum, so, found, more_found);
    }
      where
        step : (t : Taken) → goal_taken t ≡ goal → IsFollowed P t popped.stack.items new.stack.items → (rest : List Goal) (more : List Taken)
            → Walks P (reverse new.stack.items) rest more → Walks P (goal ∷ reverse popped.stack.items) rest (t ∷ more)
        step (Ran g) is follows rest more walks =
            subst (λ (h : Goal). Walks P (h ∷ reverse popped.stack.items) rest (Ran g ∷ more)) is
            (ran g (reverse popped.stack.items) rest more (subst (λ (l : List Goal). Walks P (reverse l) rest more) follows walks))
        step (Reduced g r) is follows rest more walks =
            subst (λ (h : Goal). Walks P (h ∷ reverse popped.stack.items) rest (Reduced g r ∷ more)) is
            (reduced g r (reverse popped.stack.items) rest more follows.0 follows.1
            (subst (λ (l : List Goal). Walks P l rest more) follows.2 walks))

-- The end of the walk: nothing is on the stack, and as much was met as was taken.
pub walk_ends : (P : Program) (goals : List Goal) (taken : List Taken) (w : Walk) → Walking P goals taken w → w.stack.items ≡ []
    → length taken ≤ w.found → (met : List Taken) × Walks P goals w.left.items met × IsPermutation taken met
walk_ends P goals taken w walking none few =
    let on = walking.owes [] [] (subst (λ (l : List Goal). Walks P (reverse l) [] []) (sym none) over) in (
      walking.met,
      subst (λ (l : List Goal). Walks P goals l walking.met) (append-nil w.left.items)
          (subst (λ (l : List Taken). Walks P goals (w.left.items ++ []) l) (append-nil walking.met) on),
      nothing_left taken walking.met (unmet w.links) walking.all (let so = walking.count in omega (arith, so, few)),
    )

-- what is still to be done of a walk: each goal met is one that was taken, or is one less on the stack
abbrev pub walk_left : Walk → ℕ
walk_left w = length (unmet w.links) * 2 ^ 64 + length w.stack.items

pub walk_shrinks : (P : Program) (w popped new : Walk) (goal : Goal) → w.stack.items ≡ popped.stack.items ++ goal ∷ []
    → unmet popped.links ≡ unmet w.links → IsMet P goal popped new → length new.stack.items < 2 ^ 64 → walk_left new < walk_left w
walk_shrinks P w popped new goal pop links (kept same_links same_stack more_left same_found) short =
    let a = ap length pop in let b = length-append popped.stack.items (goal ∷ []) in
    let c = ap length same_stack in let d : length (unmet new.links) ≡ length (unmet w.links) = ap length (same_links ∙ links) in
    let lower : length new.stack.items < length w.stack.items = omega (arith, a, b, c) in
    subst (λ (n : ℕ). n * 2 ^ 64 + length new.stack.items < walk_left w) (sym d) (omega (arith, lower))
walk_shrinks P w popped new goal pop links (followed t is out follows same_left more_found) short =
    let a : suc (length (unmet new.links)) ≡ length (unmet popped.links) = length_permutation (unmet popped.links) (t ∷ unmet new.links) out in
    let d : length (unmet popped.links) ≡ length (unmet w.links) = ap length links in
    omega (arith, a, d, short)
