-- Goals that are left, and what is watched of them.
use Rattle.std.proofs.Common.{ℕ, ◌≡◌, List, [], ◌∷◌, ◌++◌, map, refl, ap, sym, ◌∙◌, subst, inl, inr, Contains}
use Rattle.std.specs.Prelude.{Option, None, Some}
use Rattle.std.proofs.lemmas.List.{map-append}
use Rattle.std.proofs.lemmas.List.Elements.{Contains-append_left, Contains-append_right, Contains-append_cases}
use Rattle.and_model.specs.declared.goal.Goal.{Goal}
use Rattle.and_pending.specs.Pending as pending
use Rattle.and_pending.specs.Pending.{goals_of, unwatched}
use Rattle.and_branch_parts.specs.Watching.{Watched, with_watched, all_watched}

-- ---- Two lists

with_append : (g : Goal) (cells : Option (List ℕ)) (xs ys : List Watched) → with_watched g cells (xs ++ ys) ≡ with_watched g cells xs ++ ys
with_append g None xs ys = refl
with_append g (Some cells) xs ys = refl

pub watched_append : (xs ys : List pending.Watched) → all_watched (xs ++ ys) ≡ all_watched xs ++ all_watched ys
watched_append [] ys = refl
watched_append (x ∷ xs) ys =
    ap (λ (ws : List Watched). with_watched x.goal x.cells ws) (watched_append xs ys) ∙ with_append x.goal x.cells (all_watched xs) (all_watched ys)

pub goals_append : (xs ys : List pending.Watched) → goals_of (xs ++ ys) ≡ goals_of xs ++ goals_of ys
goals_append xs ys = map-append (λ (w : pending.Watched). w.goal) xs ys

-- ---- Goals that are not watched

pub none_watched : (gs : List Goal) → all_watched (map unwatched gs) ≡ []
none_watched [] = refl
none_watched (g ∷ gs) = none_watched gs

pub goals_back : (gs : List Goal) → goals_of (map unwatched gs) ≡ gs
goals_back [] = refl
goals_back (g ∷ gs) = ap (λ (l : List Goal). g ∷ l) (goals_back gs)

-- With such goals in between the same is watched.
pub watched_put : (xs : List pending.Watched) (gs : List Goal) (ys : List pending.Watched)
    → all_watched (xs ++ (map unwatched gs ++ ys)) ≡ all_watched (xs ++ ys)
watched_put xs gs ys =
    watched_append xs (map unwatched gs ++ ys)
    ∙ ap (λ (ws : List Watched). all_watched xs ++ ws)
    (watched_append (map unwatched gs) ys ∙ ap (λ (ws : List Watched). ws ++ all_watched ys) (none_watched gs))
    ∙ sym (watched_append xs ys)

-- ---- One goal less

pub watched_with : (g : Goal) (cells : Option (List ℕ)) (ws : List Watched) (w : Watched) → Contains ws w → Contains (with_watched g cells ws) w
watched_with g None ws w h = h
watched_with g (Some cells) ws w h = Contains-append_right (record { goal = g; cells = cells } ∷ []) ws w h

pub watched_before : (xs : List pending.Watched) (p : pending.Watched) (ys : List pending.Watched) (w : Watched)
    → Contains (all_watched (xs ++ ys)) w → Contains (all_watched (xs ++ p ∷ ys)) w
watched_before xs p ys w h =
    elim (Contains-append_cases (all_watched xs) (all_watched ys) w (subst (λ (ws : List Watched). Contains ws w) (watched_append xs ys) h)) [
      | inl i ↦ subst (λ (ws : List Watched). Contains ws w) (sym (watched_append xs (p ∷ ys)))
          (Contains-append_left (all_watched xs) (all_watched (p ∷ ys)) w i)
      | inr i ↦ subst (λ (ws : List Watched). Contains ws w) (sym (watched_append xs (p ∷ ys)))
          (Contains-append_right (all_watched xs) (all_watched (p ∷ ys)) w (watched_with p.goal p.cells (all_watched ys) w i))
    ]
