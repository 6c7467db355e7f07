-- A code has one proof.
use Rattle.std.proofs.Common.{ℕ, ◌≡◌, List, [], ◌∷◌, length, map, refl, ap, sym, ◌∙◌, subst, Some, arith}
use Rattle.and_model.specs.Terms.{Term, variable, Substitution, apply}
use Rattle.and_model.specs.Solutions.{Equation, MostGeneral, Entails}
use Rattle.and_model.specs.Programs.{Program, Arithmetic}
use Rattle.and_model.specs.Trees.{QueryTree, equations, arithmetics, Closed}
use Rattle.and_model.specs.Lines.{Bytes, goal_term}
use Rattle.and_laws.proofs.Closing.{closure_order, closes_anyhow}
use Rattle.and_laws.proofs.Printing.{Twins}
use Rattle.and_laws.proofs.Substitutions.{apply_through}
use Rattle.and_proof.specs.Proofs.{Replaced, all_replaced, solved_by, proof_of, ProofText}
use Rattle.and_proof.proofs.Variants.{AreAlike, one_proof}

module _ (s t : Substitution) (forth : (x : Term) → apply t (apply s x) ≡ apply t x) (back : (x : Term) → apply s (apply t x) ≡ apply s x) where
  goals_twin : (gs : List Arithmetic) → Twins s t (map (λ g. apply s (goal_term g)) gs) (map (λ g. apply t (goal_term g)) gs)
  goals_twin [] = tt
  goals_twin (g ∷ gs) = (sym (forth (goal_term g)), sym (back (goal_term g)), goals_twin gs)

  calls_alike : (rs : List Replaced) → AreAlike s t (map (solved_by s) rs) (map (solved_by t) rs)
  calls_alike [] = tt
  calls_alike (r ∷ rs) = (refl, refl, sym (forth r.call), sym (back r.call), calls_alike rs)

  -- Solutions that go through each other give one proof.
  pub through_one : (P : Program) (gs : List Arithmetic) (rs : List Replaced)
      → proof_of P s (map (λ g. apply s (goal_term g)) gs) (map (solved_by s) rs) ≡ proof_of P t (map (λ g. apply t (goal_term g)) gs) (map (solved_by t) rs)
  through_one P gs rs =
      one_proof s t s t (length P.query.written) (λ k low. (sym (forth (variable [] k)), sym (back (variable [] k)))) P (omega arith)
      (map (λ g. apply s (goal_term g)) gs) (map (λ g. apply t (goal_term g)) gs) (map (solved_by s) rs) (map (solved_by t) rs) (goals_twin gs)
      (calls_alike rs)

-- So do two most general solutions of equations that entail each other.
pub general_one : (P : Program) (es ds : List Equation) (s t : Substitution) (gs : List Arithmetic) (rs : List Replaced)
    → MostGeneral s es → MostGeneral t ds → Entails es ds → Entails ds es
    → proof_of P s (map (λ g. apply s (goal_term g)) gs) (map (solved_by s) rs) ≡ proof_of P t (map (λ g. apply t (goal_term g)) gs) (map (solved_by t) rs)
general_one P es ds s t gs rs m n f b =
    through_one s t (λ x. sym (apply_through s t (m.1 t (b t n.0)) x)) (λ x. sym (apply_through t s (n.1 s (f s m.0)) x)) P gs rs

-- The text of a tree's proof, whichever of its closures and solutions it is written of.
tree_text : (P : Program) (t : QueryTree P) (es ds : List Equation) (gs ws : List Arithmetic) (s r : Substitution) → Closed t es gs → Closed t ds ws
    → MostGeneral s es → MostGeneral r ds
    → proof_of P s (map (λ g. apply s (goal_term g)) gs) (map (solved_by s) (all_replaced t))
    ≡ proof_of P r (map (λ g. apply r (goal_term g)) ws) (map (solved_by r) (all_replaced t))
tree_text P t es ds gs ws s r one other m n =
    let order = closure_order (equations t) (arithmetics t) es gs ds ws (closes_anyhow (equations t) (arithmetics t) es gs one)
    (closes_anyhow (equations t) (arithmetics t) ds ws other) in
    let same : gs ≡ ws = order.2 (s, m.0) in
    general_one P es ds s r gs (all_replaced t) m n order.0 order.1
    ∙ ap (λ l. proof_of P r (map (λ g. apply r (goal_term g)) l) (map (solved_by r) (all_replaced t))) same

some_same : {X : Type 0} (a b : X) → Some a ≡ Some b → a ≡ b
some_same a b e = cc

pub one_text : (P : Program) (cs : List ℕ) (a b : Bytes) → ProofText P cs a → ProofText P cs b → a ≡ b
one_text P cs a b x y =
    let same : y.tree ≡ x.tree = some_same y.tree x.tree (sym y.unfolds ∙ x.unfolds) in
    let closed : Closed x.tree y.solved y.waits = subst (λ t. Closed t y.solved y.waits) same y.closed in
    x.text_is ∙ tree_text P x.tree x.solved y.solved x.waits y.waits x.solution y.solution x.closed closed x.general y.general
    ∙ ap (λ t. proof_of P y.solution (map (λ g. apply y.solution (goal_term g)) y.waits) (map (solved_by y.solution) (all_replaced t))) (sym same)
    ∙ sym y.text_is
