-- The node of the next goal.
use Rattle.std.proofs.Common.{ℕ, ◌≡◌, List, ◌∷◌, sym, ◌∙◌, subst}
use Rattle.and_model.specs.declared.goal.Goal.{Goal}
use Rattle.and_cells.specs.Ranges.{NamedProgram}
use Rattle.and_branch_laws.specs.Goals.{IsNodeOf}
use Rattle.and_branch_parts.specs.Branches.{Held}
use Rattle.and_branch.specs.Nodes.{IsNextNode}

first_is : (g h : Goal) (gs hs : List Goal) → g ∷ gs ≡ h ∷ hs → g ≡ h
first_is g h gs hs e = cc

-- where a goal comes next, its node is the next one's
pub node_of_first : (P : NamedProgram) (b : Held) (g : Goal) (rest : List Goal) → b.right ≡ g ∷ rest → (n : ℕ) → IsNodeOf P b.row g n
    → IsNextNode P b n
node_of_first P b g rest next n node = λ h others e.
    subst (λ (x : Goal). IsNodeOf P b.row x n) (first_is g h rest others (sym next ∙ e)) node

-- the same of the branch that the parts of the code stand for
pub node_of_seen : (P : NamedProgram) (b seen : Held) → b ≡ seen → (g : Goal) (rest : List Goal) → b.right ≡ g ∷ rest → (n : ℕ)
    → IsNodeOf P b.row g n → IsNextNode P seen n
node_of_seen P b seen is g rest next n node = subst (λ (x : Held). IsNextNode P x n) is (node_of_first P b g rest next n node)
