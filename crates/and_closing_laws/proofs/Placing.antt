-- The places of reductions that were made, in the tree that is written down.
use Rattle.std.proofs.Common.{ℕ, ◌≡◌, inl, inr, List, [], ◌∷◌, ◌++◌, refl, sym, ap, subst, ◌∙◌, Contains}
use Rattle.std.proofs.lemmas.List.Elements.{All-contains}
use Rattle.and_model.specs.Terms.{Path}
use Rattle.and_model.specs.Programs.{Program, clause_at}
use Rattle.and_model.specs.Reductions.{Reduction, PlaceHas}
use Rattle.and_model.specs.Stands.{Framed}
use Rattle.and_model.specs.declared.goal.Goal.{Goal}
use Rattle.and_branch_laws.specs.Kept.{goal_of}
use Rattle.and_branch_laws.specs.Reducing.{body_goals}
use Rattle.and_branch_laws.proofs.BodyGoals.{body_goals_all}
use Rattle.and_store_laws.proofs.Lists.{contains_first, contains_more, contains_cases, contains_none, map_contains}
use Rattle.and_worker_laws.specs.Acts
use Rattle.and_worker_laws.specs.Acts.{Act, IsThere, IsTaken, AreTaken, goals_of_body, reductions}

-- ---- Places

-- A goal of a body stands at the reduction's place.
pub body_goal_node : (P : Program) (r : Reduction) (g : Goal) → Contains (goals_of_body P r) g → g.node ≡ r.node
body_goal_node P r g among =
    let goals : List Framed = body_goals r.clause r.node [] 0 (clause_at P r.clause).body in
    let (f, there, is) = map_contains goal_of g goals among in
    ap (λ (g : Goal). g.node) (sym is)
    ∙ All-contains (λ (f : Framed). f.goal.node ≡ r.node) goals f
    (body_goals_all (λ (f : Framed). f.goal.node ≡ r.node) r.clause r.node [] 0 (clause_at P r.clause).body (λ j low high. refl)) there

-- Each reduction that was made has a place, where the goals of the opening have places.
module _ (P : Program) (opening : List Goal) (used : ℕ) (rs : List Reduction)
    (open_places : (g : Goal) → Contains opening g → (q : Path) × PlaceHas rs g.node q) where
  goal_place : (before : List Act) (g : Goal)
      → ((n : ℕ) (h : Goal) (r : Reduction) → Contains before (Acts.takes n h r) → (q : Path) × PlaceHas rs r.node q)
      → IsThere P opening before g → (q : Path) × PlaceHas rs g.node q
  goal_place before g places (inl old) = open_places g old
  goal_place before g places (inr (n, h, r, done, body)) =
      let (q, place) = places n h r done in
      (q, subst (λ k. PlaceHas rs k q) (sym (body_goal_node P r g body)) place)

  pub act_place : (acts : List Act) → AreTaken P opening used acts
      → ((n : ℕ) (g : Goal) (r : Reduction) → Contains acts (Acts.takes n g r) → Contains rs r)
      → (n : ℕ) (g : Goal) (r : Reduction) → Contains acts (Acts.takes n g r) → (q : Path) × PlaceHas rs r.node q
  act_place [] taken there n g r among = absurd (contains_none (Acts.takes n g r) among)
  act_place (Acts.takes m h s ∷ acts) taken there n g r among =
      let before : (n : ℕ) (g : Goal) (r : Reduction) → Contains acts (Acts.takes n g r) → (q : Path) × PlaceHas rs r.node q =
      act_place acts taken.1 (λ n g r c. there n g r (contains_more (Acts.takes m h s) (Acts.takes n g r) acts c)) in
      elim (contains_cases (Acts.takes m h s) (Acts.takes n g r) acts among) [
        | inl same ↦
            let one : r ≡ s = cc in
            let (q, place) = goal_place acts h before taken.0.there in
            let here : PlaceHas rs s.node (q ++ s.item ∷ []) =
            PlaceHas.reduced s q (there m h s (contains_first (Acts.takes m h s) acts)) (subst (λ k. PlaceHas rs k q) (sym taken.0.parent) place) in
            (q ++ s.item ∷ [], subst (λ (z : Reduction). PlaceHas rs z.node (q ++ s.item ∷ [])) (sym one) here)
        | inr more ↦ before n g r more
      ]
  act_place (Acts.sets m d ∷ acts) taken there n g r among = elim (contains_cases (Acts.sets m d) (Acts.takes n g r) acts among) [
    | inl same ↦ absurd (cc)
    | inr more ↦ act_place acts taken (λ n g r c. there n g r (contains_more (Acts.sets m d) (Acts.takes n g r) acts c)) n g r more
  ]
  act_place (Acts.fails m ∷ acts) taken there n g r among = elim (contains_cases (Acts.fails m) (Acts.takes n g r) acts among) [
    | inl same ↦ absurd (cc)
    | inr more ↦ act_place acts taken (λ n g r c. there n g r (contains_more (Acts.fails m) (Acts.takes n g r) acts c)) n g r more
  ]
