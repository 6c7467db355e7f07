use Rattle.std.proofs.Common.{◌≡◌, ℕ, List, [], ◌∷◌, ◌++◌, map, ap, ◌∙◌}
use Rattle.std.proofs.lemmas.List.{map-append}
use Rattle.and_model.specs.Listing.{Entry}
use Rattle.and_answers.specs.Kept.{listed}
use Rattle.and_team_rows.proofs.ThreeCodes.{three_apart}
use Rattle.and_team_rows.proofs.found.merged.Goals as goal

codes : List Entry → List (List ℕ)
codes es = map (λ e. e.code) es

pub returns : goal.returns
unfolding codes
returns c =
    let after : List ℕ → List Entry → List (List ℕ) = λ code es. codes es ++ code ∷ [] in
    let first = c.in_ok-add.ensures ∙ ap (after (2 ∷ [])) c.new-one.ensures.entries in
    let one : codes (listed c.count_fork.new.self) ≡ (2 ∷ []) ∷ (1 ∷ []) ∷ [] =
    ap codes c.count_fork.ensures.rest.1 ∙ c.in_ok-add-2.ensures ∙ ap (λ (l : List (List ℕ)). l ++ (1 ∷ []) ∷ []) first in
    let third = c.in_ok-add-3.ensures ∙ ap (after (3 ∷ [])) c.new-other.ensures.entries in
    let other : codes (listed c.count_failed-2.new.self) ≡ (3 ∷ []) ∷ [] =
    ap codes (c.count_failed-2.ensures.rest.1 ∙ c.count_failed.ensures.rest.1) ∙ third in
    let joined = map-append (λ (e : Entry). e.code) (listed c.count_fork.new.self) (listed c.count_failed-2.new.self) in
    three_apart (listed c.in_ok-both.both) (ap codes c.in_ok-both.ensures.entries ∙ joined ∙ (λ i. one i ++ other i))
