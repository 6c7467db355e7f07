-- The equations between references are those of the terms in their frames, where no cell of these is a word of a pair.
use Rattle.std.proofs.Common.{ℕ, ℤ, suc, ◌+◌, ◌≡◌, Bool, false, cond, List, [], ◌∷◌, ◌++◌, append-nil, map, Option, Some, refl, sym, ap}
use Rattle.std.proofs.Common.{◌∙◌, subst, inl, inr, Contains}
use Rattle.std.specs.Prelude.{filter}
use Rattle.std.proofs.lemmas.List.Elements.{Contains-append_cases}
use Rattle.and_model.specs.Terms.{Path, Term, number, variables_of}
use Rattle.and_model.specs.Solutions.{Equation, Entails, falsehood}
use Rattle.and_model.specs.Store.{is_half}
use Rattle.and_model.specs.declared.reference.Ref.{Ref}
use Rattle.and_model.specs.declared.reference.Ref.TheVariants.{Number}
use Rattle.and_program.specs.Skeletons
use Rattle.and_program.specs.Skeletons.{Shape, node_term, shape_term, terms_behind, AllFall}
use Rattle.and_program.specs.Shown.{resolved}
use Rattle.and_program.specs.Loaded.{shape_at}
use Rattle.and_model.specs.declared.numbers.NodeNo.{NodeNo}
use Rattle.and_laws.proofs.Ordered.{contains_first, contains_more, contains_cases, contains_none}
use Rattle.and_laws.proofs.Solving.{solves_join, solves_front, solves_back}
use Rattle.and_cells.specs.Ranges.{NamedProgram}
use Rattle.and_cells.specs.Numbers.{number_of, high_half}
use Rattle.and_cells.specs.Seen.{word_at}
use Rattle.and_cells.specs.Meaning.{Words, shallow_term, shallow_cells, same_terms, equations_between, number_in, equations_of}
use Rattle.and_cells.specs.Parts.{part_at}
use Rattle.and_cell_laws.proofs.Structures.{node_term_shape}
use Rattle.and_cell_laws.proofs.Images.{contains_origin}
use Rattle.and_branch_laws.specs.Variables.{placed}
use Rattle.and_branch_laws.specs.Settling.{IsWritten, Settled}

-- where no element passes a test, none is kept
filter_none : {X : Type 0} (p : X → Bool) (xs : List X) → ((x : X) → Contains xs x → p x ≡ false) → filter p xs ≡ []
filter_none p [] h = refl
filter_none p (x ∷ xs) h =
    ap (λ (b : Bool). cond b (x ∷ filter p xs) (filter p xs)) (h x (contains_first x xs))
    ∙ filter_none p xs (λ y c. h y (contains_more x y xs c))

-- References with these terms, of which no cell is a word of a pair, state that the terms are the same.
pub between_terms : (P : NamedProgram) (w : Words) (l r : Ref) (t u : Term) → shallow_term P w l ≡ Some t → shallow_term P w r ≡ Some u
    → ((cell : ℕ) → Contains (shallow_cells P l ++ shallow_cells P r) cell → is_half (w cell) ≡ false)
    → equations_between P w l r ≡ (t, u) ∷ []
between_terms P w l r t u left right whole =
    let halves : map (λ (cell : ℕ). falsehood) (filter (λ (cell : ℕ). is_half (w cell)) (shallow_cells P l ++ shallow_cells P r)) ≡ [] =
    ap (map (λ (cell : ℕ). falsehood)) (filter_none (λ (cell : ℕ). is_half (w cell)) (shallow_cells P l ++ shallow_cells P r) whole) in
    ap (λ (es : List Equation). same_terms (shallow_term P w l) (shallow_term P w r) ++ es) halves
    ∙ append-nil (same_terms (shallow_term P w l) (shallow_term P w r))
    ∙ ap (λ (x : Option Term). same_terms x (shallow_term P w r)) left
    ∙ ap (λ (y : Option Term). same_terms (Some t) y) right

-- The term of a node, where it is found in the frame, is that of the node in the cells of the frame,
resolved_term : (P : NamedProgram) (w : Words) (ts : List Term) (s : Shape) (node : NodeNo) (base : ℕ)
    → node_term P.skeleton.nodes node.0 ≡ shape_term ts s
    → shallow_term P w (resolved s node base) ≡ Some (placed base (node_term P.skeleton.nodes node.0))
resolved_term P w ts (Skeletons.variable k) node base e = ap (λ (t : Term). Some (placed base t)) (sym e)
resolved_term P w ts (Skeletons.number z) node base e = refl
resolved_term P w ts (Skeletons.compound c ns) node base e = refl

pub part_term : (P : NamedProgram) (w : Words) (base n : ℕ) → AllFall 0 P.skeleton.nodes
    → shallow_term P w (part_at P base n) ≡ Some (placed base (node_term P.skeleton.nodes n))
part_term P w base n fall = resolved_term P w (terms_behind [] P.skeleton.nodes) (shape_at P.skeleton n) (record { 0 = n }) base
    (node_term_shape P.skeleton.nodes n fall)

-- and its cells are those of the node's variables.
resolved_cells : (P : NamedProgram) (ts : List Term) (s : Shape) (node : NodeNo) (base : ℕ)
    → node_term P.skeleton.nodes node.0 ≡ shape_term ts s → (cell : ℕ) → Contains (shallow_cells P (resolved s node base)) cell
    → (v : Path × ℕ) × Contains (variables_of (node_term P.skeleton.nodes node.0)) v × (cell ≡ base + 1 + v.1)
resolved_cells P ts (Skeletons.variable k) node base e cell c = elim (contains_cases (base + 1 + k) cell [] c) [
  | inl same ↦ (([], k), subst (λ (t : Term). Contains (variables_of t) ([], k)) (sym e) (contains_first ([], k) []), same)
  | inr i ↦ absurd (contains_none cell i)
]
resolved_cells P ts (Skeletons.number z) node base e cell c = contains_origin (λ (v : Path × ℕ). base + 1 + v.1)
    (variables_of (node_term P.skeleton.nodes node.0)) cell c
resolved_cells P ts (Skeletons.compound d ns) node base e cell c = contains_origin (λ (v : Path × ℕ). base + 1 + v.1)
    (variables_of (node_term P.skeleton.nodes node.0)) cell c

pub part_cells : (P : NamedProgram) (base n : ℕ) → AllFall 0 P.skeleton.nodes → (cell : ℕ)
    → Contains (shallow_cells P (part_at P base n)) cell
    → (v : Path × ℕ) × Contains (variables_of (node_term P.skeleton.nodes n)) v × (cell ≡ base + 1 + v.1)
part_cells P base n fall cell c = resolved_cells P (terms_behind [] P.skeleton.nodes) (shape_at P.skeleton n) (record { 0 = n }) base
    (node_term_shape P.skeleton.nodes n fall) cell c

-- the cells of the node's variables, in the frame at the base, are no words of pairs
abbrev pub IsWholeIn : NamedProgram → Words → (base node : ℕ) → Type 0
IsWholeIn P w base n = (v : Path × ℕ) → Contains (variables_of (node_term P.skeleton.nodes n)) v → is_half (w (base + 1 + v.1)) ≡ false

part_whole : (P : NamedProgram) (w : Words) (base n : ℕ) → AllFall 0 P.skeleton.nodes → IsWholeIn P w base n → (cell : ℕ)
    → Contains (shallow_cells P (part_at P base n)) cell → is_half (w cell) ≡ false
part_whole P w base n fall whole cell c =
    let (v, at, is) = part_cells P base n fall cell c in
    ap (λ (m : ℕ). is_half (w m)) is ∙ whole v at

-- So two nodes, each found in its frame, ask for the equation of their terms in the cells of their frames,
pub nodes_ask : (P : NamedProgram) (w : Words) (b n d m : ℕ) → AllFall 0 P.skeleton.nodes → IsWholeIn P w b n → IsWholeIn P w d m
    → equations_between P w (part_at P b n)
    (part_at P d m) ≡ (placed b (node_term P.skeleton.nodes n), placed d (node_term P.skeleton.nodes m)) ∷ []
nodes_ask P w b n d m fall left right =
    between_terms P w (part_at P b n) (part_at P d m) (placed b (node_term P.skeleton.nodes n)) (placed d (node_term P.skeleton.nodes m))
    (part_term P w b n fall) (part_term P w d m fall)
    (λ cell c. elim (Contains-append_cases (shallow_cells P (part_at P b n)) (shallow_cells P (part_at P d m)) cell c) [
      | inl i ↦ part_whole P w b n fall left cell i
      | inr i ↦ part_whole P w d m fall right cell i
    ])

-- and a node with a number that was written asks for that of its term with the number.
pub number_asks : (P : NamedProgram) (row mid : List Ref) (b n pair : ℕ) (z : ℤ) → AllFall 0 P.skeleton.nodes → IsWritten row mid pair z
    → IsWholeIn P (word_at mid) b n
    → equations_between P (word_at mid) (part_at P b n) (Number pair) ≡ (placed b (node_term P.skeleton.nodes n), number z) ∷ []
number_asks P row mid b n pair z fall written left =
    let number_is : number_in (word_at mid) pair ≡ number z =
    ap (λ (x : Ref). number (number_of x (word_at mid (suc pair)))) written.high
    ∙ ap (λ (x : Ref). number (number_of (high_half z) x)) written.low ∙ ap (λ (y : ℤ). number y) written.holds in
    between_terms P (word_at mid) (part_at P b n) (Number pair) (placed b (node_term P.skeleton.nodes n)) (number z)
    (part_term P (word_at mid) b n fall) (ap (λ (t : Term). Some t) number_is)
    (λ cell c. elim (Contains-append_cases (shallow_cells P (part_at P b n)) [] cell c) [
      | inl i ↦ part_whole P (word_at mid) b n fall left cell i
      | inr i ↦ absurd (contains_none cell i)
    ])

-- Settling with equations is settling with others that ask for the same.
pub settled_alike : (P : NamedProgram) (old new : List Ref) (es ds : List Equation) → Entails es ds → Entails ds es → Settled P old new es
    → Settled P old new ds
settled_alike P old new es ds there back x =
    let g = x.solved in
    let to : Entails (equations_of P old ++ es) (equations_of P old ++ ds) = λ s p. solves_join s (equations_of P old) ds
    (solves_front s (equations_of P old) es p) (there s (solves_back s (equations_of P old) es p)) in
    let fro : Entails (equations_of P old ++ ds) (equations_of P old ++ es) = λ s p. solves_join s (equations_of P old) es
    (solves_front s (equations_of P old) ds p) (back s (solves_back s (equations_of P old) ds p)) in
    record {
      solved = record {
        solution = g.solution;
        most_general = (to g.solution g.most_general.0, λ t p. g.most_general.1 t (fro t p));
        of_cells = g.of_cells;
      };
      sound = x.sound;
      settled = x.settled;
      keeps = x.keeps;
      halves = x.halves;
    }
