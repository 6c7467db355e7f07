-- From an unfolding to a proof.
use Rattle.std.proofs.Common.{ℕ, ◌≡◌, List, [], ◌++◌, append-nil, length, reverse, ap, sym, ◌∙◌, subst, arith, Some}
use Rattle.and_model.specs.Trees.{HasOutcome}
use Rattle.and_model.specs.declared.goal.Goal.{Goal}
use Rattle.and_model.specs.declared.reference.Ref.{Ref}
use Rattle.and_cells.specs.Ranges.{NamedProgram}
use Rattle.and_branch_laws.specs.Kept.{Kept}
use Rattle.and_proof.specs.Proofs.{HasProof, all_replaced}
use Rattle.and_proof.specs.Rounds.{KeepsWhole, HasNone}
use Rattle.and_proof.specs.Stacks.{in_order}
use Rattle.and_proof.specs.Unfolding.{ahead_of, AreTaken, IsUnfolding, IsWholeIn, AllWait, IsProved}
use Rattle.and_proof.specs.declared.goals.Goals.{Goals}
use Rattle.and_proof.specs.declared.goals.Taken.{Taken}
use Rattle.and_proof.specs.declared.waiting.Waiting.{Waiting}
use Rattle.and_proof.proofs.Stepped.{none_of}

module _ (P : NamedProgram) (row : List Ref) (goals : Goals) (cs : List ℕ) (x : IsUnfolding P row goals cs) (none_ahead : goals.ahead.items ≡ []) where
  -- Where nothing lies ahead the tree is whole, and arithmetic alone is left.
  pub whole_of : (waiting : List Goal) → waiting ≡ goals.passed.items → IsWholeIn P x.reductions row waiting x.tree
  whole_of waiting same =
      let empty : x.back ≡ [] = none_of ahead_of x.back (x.ahead ∙ ap reverse none_ahead) in record {
        kept = x.front;
        keeps = subst (λ l. Kept P x.reductions row l x.tree) (ap (λ l. x.front ++ l) empty ∙ append-nil x.front) x.keeps;
        goals = x.passed ∙ sym same;
        no_call = x.no_call;
        short = x.short;
      }

  -- Where the arithmetic waits it is a proof.
  proved_of : (new : List Ref) (waiting : List Goal) (taken : List Taken) → IsWholeIn P x.reductions new waiting x.tree → AllWait P new waiting
      → taken ≡ goals.taken.items → IsProved P new waiting taken cs
  proved_of new waiting taken whole waits same =
      let k = x.keeps in
      let a = k.long in
      let j = whole.keeps in
      let b = j.long in
      let long : length row ≡ length new = omega (arith, a, b) in record {
        tree = x.tree;
        unfolds = x.unfolds;
        reductions = x.reductions;
        whole = whole;
        waits = waits;
        replaced = subst (λ (n : ℕ). AreTaken P x.reductions n taken (all_replaced x.tree)) long
            (subst (λ es. AreTaken P x.reductions (length row) es (all_replaced x.tree)) (sym same) x.taken);
      }

  -- So it is once the arithmetic was run, over whatever program this is.
  pub run_proved : (Q : NamedProgram) → P ≡ Q → (new : List Ref) (w now : Waiting) (left : List Goal) (taken : List Taken)
      → in_order w ≡ goals.passed.items → KeepsWhole P row new w now → AllWait P new (in_order now) → left ≡ in_order now
      → taken ≡ goals.taken.items → IsProved Q new left taken cs
  run_proved Q same new w now left taken start keeps waits all there =
      let whole = keeps x.reductions x.tree (whole_of (in_order w) start) in
      subst (λ (R : NamedProgram). IsProved R new left taken cs) same
      (proved_of new left taken (subst (λ (l : List Goal). IsWholeIn P x.reductions new l x.tree) (sym all) whole)
      (subst (λ (l : List Goal). AllWait P new l) (sym all) waits) there)

  -- Where the goals leave no outcome the code has no proof.
  pub none_proved : (w : Waiting) → in_order w ≡ goals.passed.items → HasNone P row w → HasProof P.program cs → ⊥
  none_proved w same none_is (u, unfolds, outcome, fits) =
      let tree : u ≡ x.tree = some_same u x.tree (sym unfolds ∙ x.unfolds) in
      none_is x.reductions x.tree (whole_of (in_order w) same) (subst (λ t. HasOutcome t) tree outcome)
    where
      some_same : {X : Type 0} (a b : X) → Some a ≡ Some b → a ≡ b
      some_same a b e = cc
