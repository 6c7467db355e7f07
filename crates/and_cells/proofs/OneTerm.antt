-- A reference stands for one term at most.
use Rattle.std.proofs.Common.{ℕ, ◌≡◌, ◌+◌, List, refl, sym, ap, subst, ◌∙◌, lit<}
use Rattle.std.specs.Prelude.{Contains}
use Rattle.std.proofs.lemmas.List.Elements.{Contains-append_left, Contains-append_right}
use Rattle.and_model.specs.Terms.{Path, Term, Terms, Substitution, variable, number, compound, none, more, apply, apply_all, variables_of, variables_in}
use Rattle.and_program.specs.Skeletons.{node_term}
use Rattle.and_model.specs.declared.reference.Ref.{Ref}
use Rattle.and_model.specs.declared.reference.Ref.TheVariants.{Free, Cell, Node, Number, Half}
use Rattle.and_cells.specs.Ranges.{NamedProgram}
use Rattle.and_cells.specs.Seen.{word_at}
use Rattle.and_cells.specs.Meaning.{StandsFor, unbound, bound, structure, integer, cell_variable, number_in}

-- two substitutions that agree on the variables of a term make the same of it
mutual
  pub apply_agree : (s z : Substitution) (t : Term) → ((v : Path × ℕ) → Contains (variables_of t) v → s v.0 v.1 ≡ z v.0 v.1) → apply s t ≡ apply z t
  apply_agree s z (variable q k) agree = agree (q, k) (0, lit< tt, refl)
  apply_agree s z (number n) agree = refl
  apply_agree s z (compound c ts) agree = ap (compound c) (apply_all_agree s z ts agree)

  -- the same of a list of terms
  pub apply_all_agree : (s z : Substitution) (ts : Terms) → ((v : Path × ℕ) → Contains (variables_in ts) v → s v.0 v.1 ≡ z v.0 v.1)
      → apply_all s ts ≡ apply_all z ts
  apply_all_agree s z none agree = refl
  apply_all_agree s z (more t ts) agree =
      let head : apply s t ≡ apply z t = apply_agree s z t (λ v c. agree v (Contains-append_left (variables_of t) (variables_in ts) v c)) in
      let rest : apply_all s ts ≡ apply_all z ts = apply_all_agree s z ts (λ v c. agree v (Contains-append_right (variables_of t) (variables_in ts) v c)) in
      ap (λ x. more x (apply_all s ts)) head ∙ ap (λ xs. more (apply z t) xs) rest

abbrev cell_of : Ref → ℕ
cell_of Free = 0
cell_of (Cell cell) = cell
cell_of (Node node base) = base
cell_of (Number pair) = pair
cell_of (Half bits) = bits

same_term : (P : NamedProgram) (row : List Ref) (r : Ref) (t : Term) (q : Ref) (u : Term) → StandsFor P row r t → r ≡ q → StandsFor P row q u → t ≡ u
same_term P row r t q u (unbound cell below free) e (unbound other low is_free) = ap cell_variable (ap cell_of e)
same_term P row r t q u (unbound cell below free) e (bound other w u' set rest) = absurd (set.1 (sym set.0 ∙ ap (word_at row) (sym (ap cell_of e)) ∙ free))
same_term P row r t q u (unbound cell below free) e (structure node base s all) = absurd (cc)
same_term P row r t q u (unbound cell below free) e (integer pair) = absurd (cc)
same_term P row r t q u (bound cell v t' set rest) e (unbound other low is_free) = absurd (set.1 (sym set.0 ∙ ap (word_at row) (ap cell_of e) ∙ is_free))
same_term P row r t q u (bound cell v t' set rest) e (bound other w u' set' rest') =
    same_term P row v t' w u' rest (sym set.0 ∙ ap (word_at row) (ap cell_of e) ∙ set'.0) rest'
same_term P row r t q u (bound cell v t' set rest) e (structure node base s all) = absurd (cc)
same_term P row r t q u (bound cell v t' set rest) e (integer pair) = absurd (cc)
same_term P row r t q u (structure node base s all) e (unbound other low is_free) = absurd (cc)
same_term P row r t q u (structure node base s all) e (bound other w u' set rest) = absurd (cc)
same_term P row r t q u (structure node base s all) e (structure node' base' z all') =
    let same_node : node ≡ node' = cc in
    let same_base : base ≡ base' = ap cell_of e in
    apply_agree s z (node_term P.skeleton.nodes node.0) (λ v c.
    same_term P row (Cell (base + 1 + v.1)) (s v.0 v.1) (Cell (base' + 1 + v.1)) (z v.0 v.1) (all v c) (ap (λ b. Cell (b + 1 + v.1)) same_base)
    (all' v (subst (λ n. Contains (variables_of (node_term P.skeleton.nodes n.0)) v) same_node c)))
    ∙ ap (λ n. apply z (node_term P.skeleton.nodes n.0)) same_node
same_term P row r t q u (structure node base s all) e (integer pair) = absurd (cc)
same_term P row r t q u (integer pair) e (unbound other low is_free) = absurd (cc)
same_term P row r t q u (integer pair) e (bound other w u' set rest) = absurd (cc)
same_term P row r t q u (integer pair) e (structure node base s all) = absurd (cc)
same_term P row r t q u (integer pair) e (integer other) = ap (number_in (word_at row)) (ap cell_of e)

pub one_term : (P : NamedProgram) (row : List Ref) (r : Ref) (t u : Term) → StandsFor P row r t → StandsFor P row r u → t ≡ u
one_term P row r t u one other = same_term P row r t r u one refl other
