-- The parts of a structure, of which it is looked at one by one whether they are known to be ground.
use Rattle.std.proofs.Common.{ℕ, ◌+◌, ◌≡◌, ◌<◌, ◌≤◌, ◌⊎◌, inl, inr, List, [], ◌∷◌, ◌++◌, length, get_or, take, refl, sym, ap, subst, ◌∙◌, arith}
use Rattle.std.specs.Prelude.{All}
use Rattle.std.proofs.lemmas.List.{take_all, length-map, get_or-map}
use Rattle.std.proofs.lemmas.List.Elements.{All-more}
use Rattle.and_model.specs.declared.numbers.NodeNo.{NodeNo}
use Rattle.and_model.specs.declared.reference.Ref.{Ref}
use Rattle.and_model.specs.declared.reference.Ref.TheVariants.{Free, Node}
use Rattle.and_program.specs.Skeletons
use Rattle.and_program.specs.Skeletons.{Shape}
use Rattle.and_program.specs.Loaded.{shape_at, arguments_at, skeleton_of}
use Rattle.and_program.specs.declared.loaded.Loaded.{Loaded}
use Rattle.and_program.specs.Shown.{resolved}
use Rattle.and_cells.specs.Ranges.{NamedProgram, IsNodeInRange, IsNoVariable, CanHold}
use Rattle.and_cells.specs.Parts.{named, parts_of, part_at}
use Rattle.and_cells.specs.Ground.{IsEndOrAmong, LeadsToKnown, AreFounded}
use Rattle.and_cells.proofs.Grounding.{founded_push}

-- an argument is found where its node is resolved
argument_at : (P : NamedProgram) (node a : NodeNo) (base place : ℕ) (r d : Ref) → place < length (arguments_at P.skeleton node.0)
    → a.0 ≡ get_or (arguments_at P.skeleton node.0) place 0 → r ≡ resolved (shape_at P.skeleton a.0) a base
    → get_or (parts_of P (Node node base)) place d ≡ r
argument_at P node a base place r d within is found =
    get_or-map (part_at P base) (arguments_at P.skeleton node.0) place 0 d within ∙ ap (part_at P base) (sym is) ∙ sym found

module _ (P : NamedProgram) (known : List Ref) (node : NodeNo) (base place : ℕ) where
  -- one part more is known
  pub part_known : (a : NodeNo) (r : Ref) → place < length (arguments_at P.skeleton node.0) → a.0 ≡ get_or (arguments_at P.skeleton node.0) place 0
      → r ≡ resolved (shape_at P.skeleton a.0) a base → All (IsEndOrAmong P known) (take place (parts_of P (Node node base))) → IsEndOrAmong P known r
      → All (IsEndOrAmong P known) (take (place + 1) (parts_of P (Node node base)))
  part_known a r within is found before here =
      let count : length (parts_of P (Node node base)) ≡ length (arguments_at P.skeleton node.0) =
      length-map (arguments_at P.skeleton node.0) (part_at P base) in
      All-more (IsEndOrAmong P known) (parts_of P (Node node base)) place Free (omega arith) before
      (subst (IsEndOrAmong P known) (sym (argument_at P node a base place r Free within is found)) here)

  -- all parts are
  pub parts_known : length (arguments_at P.skeleton node.0) ≤ place → All (IsEndOrAmong P known) (take place (parts_of P (Node node base)))
      → All (IsEndOrAmong P known) (parts_of P (Node node base))
  parts_known long all =
      let count : length (parts_of P (Node node base)) ≡ length (arguments_at P.skeleton node.0) =
      length-map (arguments_at P.skeleton node.0) (part_at P base) in
      subst (All (IsEndOrAmong P known)) (take_all place (parts_of P (Node node base)) (omega arith)) all

-- a structure without arguments has no parts
pub no_parts : (P : NamedProgram) (node : NodeNo) (base : ℕ) → length (arguments_at P.skeleton node.0) ≡ 0 → parts_of P (Node node base) ≡ []
no_parts P node base none = empty (parts_of P (Node node base)) (length-map (arguments_at P.skeleton node.0) (part_at P base) ∙ none)
  where
    empty : (rs : List Ref) → length rs ≡ 0 → rs ≡ []
    empty [] e = refl
    empty (r ∷ rs) e = absurd (omega arith)

-- the node of a part is that of the argument
same_node : (s : Shape) (a n : NodeNo) (base b : ℕ) → resolved s a base ≡ Node n b → a ≡ n
same_node (Skeletons.variable k) a n base b e = absurd (let x = e in cc)
same_node (Skeletons.number z) a n base b e = cc
same_node (Skeletons.compound c ms) a n base b e = cc

pub part_there : (P : NamedProgram) (a : NodeNo) (base count : ℕ) (r : Ref) → r ≡ resolved (shape_at P.skeleton a.0) a base → a.0 < count
    → (n : NodeNo) (b : ℕ) → r ≡ Node n b → n.0 < count
part_there P a base count r found low n b is =
    subst (λ (m : NodeNo). m.0 < count) (same_node (shape_at P.skeleton a.0) a n base b (sym found ∙ is)) low

-- the node that a word names is there
pub word_there : (P : NamedProgram) (l : Loaded) (words place : ℕ) (r : Ref) → P ≡ named l → CanHold P words place r
    → (n : NodeNo) (b : ℕ) → r ≡ Node n b → n.0 < length (skeleton_of l).nodes
word_there P l words place r same fits n b is =
    let in_range : IsNodeInRange P words n.0 b × IsNoVariable P n.0 = subst (CanHold P words place) is fits in
    subst (λ (Q : NamedProgram). n.0 < length Q.skeleton.nodes) same in_range.0.there

-- One more is known, if there is room, or none.
pub founded_put : (P : NamedProgram) (row known new : List Ref) (r : Ref) → (new ≡ known ++ r ∷ []) ⊎ (new ≡ known) → AreFounded P row known
    → LeadsToKnown P row known r → AreFounded P row new
founded_put P row known new r (inl more) founded leads = subst (AreFounded P row) (sym more) (founded_push P row known r founded leads)
founded_put P row known new r (inr same) founded leads = subst (AreFounded P row) (sym same) founded
