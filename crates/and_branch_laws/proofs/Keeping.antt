-- What follows from what a branch keeps.
use Rattle.std.proofs.Common.{ℕ, ◌≡◌, ◌+◌, true, List, [], ◌∷◌, ◌++◌, map, refl, ap, sym, ◌∙◌, subst, inl, inr, Contains}
use Rattle.std.specs.Prelude.{◌↔◌}
use Rattle.std.proofs.lemmas.Bool.{true≢false}
use Rattle.std.proofs.lemmas.List.Elements.{All-contains}
use Rattle.and_model.specs.Terms.{Path, Term, variable, Substitution, apply, framed}
use Rattle.and_model.specs.Solutions.{Solves}
use Rattle.and_model.specs.Programs.{Program, Item, call, equal, arithmetic, fail}
use Rattle.and_model.specs.Candidates.{Candidate}
use Rattle.and_model.specs.Trees.{Agenda, Tree, QueryTree, done, left, by, equate, reckon, Open, path, call_of, equations}
use Rattle.and_model.specs.Reductions.{Reduction, PlaceHas}
use Rattle.and_model.specs.Stands.{ClauseHas, Framed, IsFramed, in_tree, term_of}
use Rattle.and_model.specs.declared.reference.Ref.{Ref}
use Rattle.and_laws.proofs.PrefixLemmas.{not_empty}
use Rattle.and_laws.proofs.Ordered.{contains_cases, contains_none}
use Rattle.and_laws.proofs.Substitutions.{then, apply_then}
use Rattle.and_cells.specs.Ranges.{NamedProgram}
use Rattle.and_cells.specs.Meaning.{cell_variable, equations_of}
use Rattle.and_cell_laws.proofs.Images.{contains_image}
use Rattle.and_branch_laws.specs.OwnVariables.{OwnVariables}
use Rattle.and_branch_laws.specs.Variables.{SpeaksOf, EquationsSpeakOf, IsVariable, AreNames, placed}
use Rattle.and_branch_laws.specs.Tasks.{take, run, tasks}
use Rattle.and_branch_laws.specs.Kept.{item_at, task_in, task_of, is_call, IsCall, Kept}
use Rattle.and_branch_laws.proofs.Speaking.{speaks_variable, back_under, under_then}
use Rattle.and_branch_laws.proofs.Places.{place_not_open}
use Rattle.and_branch_laws.proofs.Naming.{LeadsBack, some_back, names_lead_back}
use Rattle.and_branch_laws.proofs.Growing.{TreeSpeaksOf, made_speaks, TasksSpeakOf, call_speaks, left_speaks as left_speaks_of}
use Rattle.and_branch_laws.proofs.Tasks.{ran_contains}
use Rattle.and_branch_laws.proofs.Renaming
use Rattle.and_branch_laws.proofs.Renaming.{IsCell, Renames}

-- Names of a frame put a clause's terms into its cells.
pub names_place : (rs : List Reduction) (names : Substitution) → AreNames rs names → (n : ℕ) (q : Path) → PlaceHas rs n q → (t : Term)
    → apply names (framed q t) ≡ placed n t
names_place rs names named n q place t =
    apply_then (λ r k. variable q k) names t ∙ ap (λ (s : Substitution). apply s t) (λ i r k. named n q place k i)

-- A call among a tree's tasks is one of its open goals.
open_of : {P : Program} {ag : Agenda} (t : Tree P ag) (q : Path) (g : Term) → Contains (tasks t) (take q g) → (o : Open t)
    × (path t o ≡ q) × (call_of t o ≡ g)
open_of done q g h = absurd (contains_none (take q g) h)
open_of (left {q = q'} {g = g'} t) q g h = elim (contains_cases (take q' g') (take q g) (tasks t) h) [
  | inl e ↦ (let paths : q' ≡ q = cc in let calls : g' ≡ g = cc in (inl tt, paths, calls))
  | inr i ↦ let r = open_of t q g i in (inr r.0, r.1, r.2)
]
open_of (by d k t) q g h = open_of t q g h
open_of (equate t) q g h = open_of t q g h
open_of (reckon {a = a} t) q g h = elim (contains_cases (run a) (take q g) (tasks t) h) [ inl e ↦ absurd (cc) | inr i ↦ open_of t q g i ]

-- A goal that is a call is the task of taking it, with the term of its item.
take_is : (P : Program) (f : Framed) (i : Item) → is_call (task_in P f i) ≡ true
    → task_in P f i ≡ take (f.frame ++ f.goal.item ∷ []) (in_tree P f)
take_is P f (call g) e = refl
take_is P f (equal a b) e = refl
take_is P f (arithmetic a) e = absurd (true≢false (sym e))
take_is P f fail e = refl

pub task_is : (P : Program) (f : Framed) → IsCall P f → task_of P f ≡ take (f.frame ++ f.goal.item ∷ []) (in_tree P f)
task_is P f e = take_is P f (item_at P f.goal) e

module _ (P : NamedProgram) (own : OwnVariables P) (rs : List Reduction) (row : List Ref) (kept : List Framed)
    (tree : QueryTree P.program) (k : Kept P rs row kept tree) where
  -- the way back from the cells
  abbrev pub back_of : Substitution
  back_of = let found = some_back P.program rs tree k.made in found.0

  pub leads : LeadsBack P.program rs back_of
  leads = let found = some_back P.program rs tree k.made in found.1

  pub lead_back : (v : Path × ℕ) → IsVariable P rs v → apply back_of (k.names v.0 v.1) ≡ variable v.0 v.1
  lead_back v i = names_lead_back P rs k.names back_of k.named leads v i

  -- a variable's name is its cell
  pub name_of : (v : Path × ℕ) (i : IsVariable P rs v) → k.names v.0 v.1 ≡ cell_variable (i.node + 1 + v.1)
  name_of v i = k.named i.node v.0 i.place v.1

  pub names_are_cells : (v : Path × ℕ) → IsVariable P rs v → SpeaksOf IsCell (k.names v.0 v.1)
  names_are_cells v i = subst (λ t. SpeaksOf IsCell t) (sym (name_of v i)) (speaks_variable IsCell [] (i.node + 1 + v.1) refl)

  -- The tree, what is solved and what is left speak of the tree's variables.
  pub tree_speaks : TreeSpeaksOf (IsVariable P rs) tree
  tree_speaks = made_speaks P own rs tree k.made

  pub solved_speaks : EquationsSpeakOf (IsVariable P rs) k.solved
  solved_speaks = (left_speaks_of P own rs tree k.made k.solved (map (task_of P.program) kept) k.ran).0

  pub left_speaks : TasksSpeakOf (IsVariable P rs) (map (task_of P.program) kept)
  left_speaks = (left_speaks_of P own rs tree k.made k.solved (map (task_of P.program) kept) k.ran).1

  -- What solves the tree's equations solves the row's, after the way back; and what solves the row's solves the tree's, after the names.
  pub to_row : (s : Substitution) → Solves s k.solved → Solves (then back_of s) (equations_of P row)
  to_row s p = k.stated (then back_of s) (back_under (IsVariable P rs) k.names back_of s k.solved lead_back solved_speaks p)

  pub to_solved : (s : Substitution) → Solves s (equations_of P row) → Solves (then k.names s) k.solved
  to_solved s p = under_then k.names s k.solved (k.states s p)

  -- A kept goal's place.
  pub place_of : (f : Framed) → Contains kept f → PlaceHas rs f.goal.node f.frame
  place_of f h = (All-contains (IsFramed rs) kept f k.framed h).0

  pub clause_of : (f : Framed) → Contains kept f → ClauseHas rs f.goal.node f.goal.clause.0
  clause_of f h = (All-contains (IsFramed rs) kept f k.framed h).1

  pub base_of : (f : Framed) → Contains kept f → f.goal.base ≡ f.goal.node
  base_of f h = All-contains (λ (g : Framed). g.goal.base ≡ g.goal.node) kept f k.based h

  -- A term of its clause is, with the variables named, the term in its cells.
  pub named_in_cells : (f : Framed) → Contains kept f → (t : Term) → apply k.names (framed f.frame t) ≡ placed f.goal.base t
  named_in_cells f h t = names_place rs k.names k.named f.goal.node f.frame (place_of f h) t
      ∙ ap (λ (n : ℕ). placed n t) (sym (base_of f h))

  -- A kept call is an open goal of the tree.
  pub task_kept : (f : Framed) → Contains kept f → Contains (tasks tree) (task_of P.program f)
  task_kept f h = ran_contains (equations tree) (tasks tree) k.solved (map (task_of P.program) kept) k.ran (task_of P.program f)
      (contains_image (task_of P.program) kept f h)

  pub kept_open : (f : Framed) → Contains kept f → IsCall P.program f
      → (o : Open tree) × (path tree o ≡ f.frame ++ f.goal.item ∷ []) × (call_of tree o ≡ in_tree P.program f)
  kept_open f h e = open_of tree (f.frame ++ f.goal.item ∷ []) (in_tree P.program f)
      (subst (λ x. Contains (tasks tree) x) (task_is P.program f e) (task_kept f h))

  -- It speaks of the tree's variables.
  pub call_speaks_of : (f : Framed) → Contains kept f → IsCall P.program f → SpeaksOf (IsVariable P rs) (in_tree P.program f)
  call_speaks_of f h e =
      let (o, paths, calls) = kept_open f h e in
      subst (λ t. SpeaksOf (IsVariable P rs) t) calls (call_speaks (IsVariable P rs) tree tree_speaks o)

  -- So its candidates in the tree and in the cells are the same.
  renames : (f : Framed) → Contains kept f → IsCall P.program f → (fresh : Path) → (fresh ≡ [] → ⊥)
      → Renames P.program (IsVariable P rs) k.names back_of k.solved (equations_of P row) (in_tree P.program f)
      (f.frame ++ f.goal.item ∷ []) fresh
  renames f h e fresh no_cell =
      let (o, paths, calls) = kept_open f h e in
      record {
        leads_back = lead_back;
        to_cells = names_are_cells;
        equations = solved_speaks;
        call = call_speaks_of f h e;
        apart = λ v i same. place_not_open P.program rs tree k.made o i.node v.0 i.place (sym same ∙ sym paths);
        longer = λ same. not_empty f.frame f.goal.item (sym same);
        no_cell = no_cell;
        states = k.states;
        stated = k.stated;
      }

  pub candidates_of_cells : (f : Framed) → Contains kept f → IsCall P.program f → (fresh : Path) → (fresh ≡ [] → ⊥) → (c : ℕ)
      → Candidate P.program k.solved (f.frame ++ f.goal.item ∷ []) (in_tree P.program f) c ↔ Candidate P.program
      (equations_of P row) fresh (placed f.goal.base (term_of P.program f.goal)) c
  candidates_of_cells f h e fresh no_cell c =
      let p : Path = f.frame ++ f.goal.item ∷ [] in
      let r = renames f h e fresh no_cell in
      let same : apply k.names (in_tree P.program f) ≡ placed f.goal.base (term_of P.program f.goal) =
      named_in_cells f h (term_of P.program f.goal) in (
        λ x. subst (λ t. Candidate P.program (equations_of P row) fresh t c) same
            (Renaming.to_cells P.program (IsVariable P rs) k.names back_of k.solved (equations_of P row)
            (in_tree P.program f) p fresh r c x),
        λ x. Renaming.to_tree P.program (IsVariable P rs) k.names back_of k.solved (equations_of P row) (in_tree P.program f) p fresh r c
            (subst (λ t. Candidate P.program (equations_of P row) fresh t c) (sym same) x),
      )
