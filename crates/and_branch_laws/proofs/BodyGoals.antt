-- The goals of a body that took a call.
use Rattle.std.proofs.Common.{ℕ, suc, ◌+◌, ◌≡◌, ◌≢◌, ◌<◌, ◌≤◌, List, [], ◌∷◌, ◌++◌, length, map, get_or, refl, ap, ◌∙◌, arith}
use Rattle.std.specs.Prelude.{All, AllPairs}
use Rattle.std.proofs.lemmas.List.Elements.{All-nil, All-cons}
use Rattle.std.proofs.lemmas.List.Kept.{AllPairs-cons}
use Rattle.and_laws.proofs.Pairwise.{all_pairs_none}
use Rattle.and_model.specs.Terms.{Path, framed}
use Rattle.and_model.specs.Programs.{Program, Item, call, equal, arithmetic, fail, arithmetic_in, clause_at}
use Rattle.and_model.specs.Stands.{Framed, in_tree, item_term}
use Rattle.and_model.specs.declared.goal.Goal.{Goal}
use Rattle.and_branch_laws.specs.Tasks.{Task, take, run, body_tasks}
use Rattle.and_branch_laws.specs.Reducing.{goal_at, body_goals}
use Rattle.and_branch_laws.specs.Kept.{item_at, task_in, task_of}

-- What holds of the goals that are items holds of all.
pub body_goals_all : (Q : Framed → Type 0) (c n : ℕ) (q : Path) (i : ℕ) (items : List Item)
    → ((j : ℕ) → i ≤ j → j < i + length items → Q (goal_at c n q j)) → All Q (body_goals c n q i items)
body_goals_all Q c n q i [] h = All-nil Q
body_goals_all Q c n q i (call g ∷ items) h = All-cons Q (goal_at c n q i) (body_goals c n q (suc i) items)
    (h i (omega arith) (omega arith)) (body_goals_all Q c n q (suc i) items (λ j l m. h j (omega arith) (omega arith)))
body_goals_all Q c n q i (equal a b ∷ items) h = body_goals_all Q c n q (suc i) items (λ j l m. h j (omega arith) (omega arith))
body_goals_all Q c n q i (arithmetic a ∷ items) h = All-cons Q (goal_at c n q i) (body_goals c n q (suc i) items)
    (h i (omega arith) (omega arith)) (body_goals_all Q c n q (suc i) items (λ j l m. h j (omega arith) (omega arith)))
body_goals_all Q c n q i (fail ∷ items) h = body_goals_all Q c n q (suc i) items (λ j l m. h j (omega arith) (omega arith))

-- No two are one.
items_apart : (c n : ℕ) (q : Path) (i j : ℕ) → i < j → (goal_at c n q i).goal ≢ (goal_at c n q j).goal
items_apart c n q i j l e = let same : i ≡ j = ap (λ (g : Goal). g.item) e in omega arith

pub body_goals_once : (c n : ℕ) (q : Path) (i : ℕ) (items : List Item)
    → AllPairs (λ (f g : Framed). f.goal ≢ g.goal) (body_goals c n q i items)
body_goals_once c n q i [] = all_pairs_none (λ (f g : Framed). f.goal ≢ g.goal)
body_goals_once c n q i (call g ∷ items) =
    AllPairs-cons (λ (f g : Framed). f.goal ≢ g.goal) (goal_at c n q i) (body_goals c n q (suc i) items)
    (body_goals_all (λ (h : Framed). (goal_at c n q i).goal ≢ h.goal) c n q (suc i) items (λ j l m. items_apart c n q i j l))
    (body_goals_once c n q (suc i) items)
body_goals_once c n q i (equal a b ∷ items) = body_goals_once c n q (suc i) items
body_goals_once c n q i (arithmetic a ∷ items) =
    AllPairs-cons (λ (f g : Framed). f.goal ≢ g.goal) (goal_at c n q i) (body_goals c n q (suc i) items)
    (body_goals_all (λ (h : Framed). (goal_at c n q i).goal ≢ h.goal) c n q (suc i) items (λ j l m. items_apart c n q i j l))
    (body_goals_once c n q (suc i) items)
body_goals_once c n q i (fail ∷ items) = body_goals_once c n q (suc i) items

-- They are the body's tasks.
pub shift : (body items : List Item) (i : ℕ) (x : Item) → ((j : ℕ) → get_or body (i + j) fail ≡ get_or (x ∷ items) j fail) → (j : ℕ)
    → get_or body (suc i + j) fail ≡ get_or items j fail
shift body items i x h j = let e : suc i + j ≡ i + suc j = omega arith in ap (λ (k : ℕ). get_or body k fail) e ∙ h (suc j)

pub here_is : (body items : List Item) (i : ℕ) (x : Item) → ((j : ℕ) → get_or body (i + j) fail ≡ get_or (x ∷ items) j fail)
    → get_or body i fail ≡ x
here_is body items i x h = let e : i ≡ i + 0 = omega arith in ap (λ (k : ℕ). get_or body k fail) e ∙ h 0

pub body_goals_tasks : (P : Program) (c n : ℕ) (q : Path) (i : ℕ) (items : List Item)
    → ((j : ℕ) → get_or (clause_at P c).body (i + j) fail ≡ get_or items j fail)
    → map (task_of P) (body_goals c n q i items) ≡ body_tasks q i items
body_goals_tasks P c n q i [] h = refl
body_goals_tasks P c n q i (call g ∷ items) h =
    let body : List Item = (clause_at P c).body in
    let item : item_at P (goal_at c n q i).goal ≡ call g = here_is body items i (call g) h in
    let terms : in_tree P (goal_at c n q i) ≡ framed q g = ap (λ (x : Item). framed q (item_term x)) item in
    let first : task_of P (goal_at c n q i) ≡ take (q ++ i ∷ []) (framed q g) = ap (λ (x : Item). task_in P (goal_at c n q i) x) item
    ∙ ap (λ t. take (q ++ i ∷ []) t) terms in
    ap (λ (t : Task). t ∷ map (task_of P) (body_goals c n q (suc i) items)) first
    ∙ ap (λ (l : List Task). take (q ++ i ∷ []) (framed q g) ∷ l)
    (body_goals_tasks P c n q (suc i) items (shift body items i (call g) h))
body_goals_tasks P c n q i (equal a b ∷ items) h = body_goals_tasks P c n q (suc i) items (shift (clause_at P c).body items i (equal a b) h)
body_goals_tasks P c n q i (arithmetic a ∷ items) h =
    let body : List Item = (clause_at P c).body in
    let item : item_at P (goal_at c n q i).goal ≡ arithmetic a = here_is body items i (arithmetic a) h in
    let first : task_of P (goal_at c n q i) ≡ run (arithmetic_in q a) = ap (λ (x : Item). task_in P (goal_at c n q i) x) item in
    ap (λ (t : Task). t ∷ map (task_of P) (body_goals c n q (suc i) items)) first
    ∙ ap (λ (l : List Task). run (arithmetic_in q a) ∷ l) (body_goals_tasks P c n q (suc i) items (shift body items i (arithmetic a) h))
body_goals_tasks P c n q i (fail ∷ items) h = body_goals_tasks P c n q (suc i) items (shift (clause_at P c).body items i fail h)
