-- Bodies that ask for nothing.
use Rattle.std.proofs.Common.{ℕ, ◌+◌, ◌≡◌, ◌<◌, ◌≤◌, List, [], ◌∷◌, ◌++◌, length, get_or, drop, sym, ap, ◌∙◌}
use Rattle.std.proofs.lemmas.List.{at_drop_more, drop_all}
use Rattle.and_model.specs.Terms.{Term}
use Rattle.and_model.specs.Solutions.{Equation}
use Rattle.and_model.specs.Programs.{Item}
use Rattle.and_program.specs.Items.{node_item}
use Rattle.and_program.specs.Skeletons.{Shape, item_of}
use Rattle.and_program.specs.declared.item.ItemNode.{ItemNode}
use Rattle.and_branch_laws.specs.Reducing.{body_equations}
use Rattle.and_step_laws.proofs.AskedPairs.{body_of}
use Rattle.and_step_laws.proofs.NewFrames.{first_asked}
use Rattle.and_reduction.specs.Items.{AsksNothing}

-- what the items from a place on ask for, whatever their nodes are, is what all ask for
abbrev pub AskAsMuch : List ItemNode → (index : ℕ) → Type 0
AskAsMuch items index = (put : Term → Term) (nodes : List Shape)
    → body_equations put (body_of nodes (drop index items)) ≡ body_equations put (body_of nodes items)

-- An item that asks for nothing was passed over,
pub one_passed : (items : List ItemNode) (index : ℕ) (other : ItemNode) → index < length items → AsksNothing (get_or items index other ∷ [])
    → AskAsMuch items index → AskAsMuch items (index + 1)
one_passed items index other low nothing all put nodes =
    let x : Item = item_of nodes (node_item (get_or items index other)) in
    let rest : List Item = body_of nodes (drop (index + 1) items) in
    let parted : drop index items ≡ get_or items index other ∷ drop (index + 1) items =
    at_drop_more (λ (xs : List ItemNode). xs) items index other low in
    ap (λ (es : List Equation). es ++ body_equations put rest) (sym (nothing put nodes))
    ∙ sym (first_asked put x rest)
    ∙ ap (λ (xs : List ItemNode). body_equations put (body_of nodes xs)) (sym parted)
    ∙ all put nodes

-- and so were all.
pub all_passed : (items : List ItemNode) (index : ℕ) → length items ≤ index → AskAsMuch items index → AsksNothing items
all_passed items index past all put nodes =
    sym (all put nodes) ∙ ap (λ (xs : List ItemNode). body_equations put (body_of nodes xs)) (drop_all index items past)
