-- Cells of which no equation speaks are free, unless they are words of pairs, and are named by no other.
use Rattle.std.proofs.Common.{ℕ, ◌+◌, ◌≡◌, false, pos, List, [], length, get_or, Some, refl, sym, ap, ◌∙◌, subst, inl, inr, ◌⊎◌, arith}
use Rattle.std.specs.Prelude.{Contains}
use Rattle.std.proofs.lemmas.Bool.{true≢false}
use Rattle.std.proofs.lemmas.Option.{same_Some}
use Rattle.std.proofs.lemmas.List.Elements.{Contains-append_cases}
use Rattle.and_model.specs.Terms.{Path, Term, Terms, variable, number, compound, none, more, Substitution, apply, apply_all, variables_of}
use Rattle.and_model.specs.Terms.{variables_in}
use Rattle.and_model.specs.Solutions.{Equation, Solves, Entails}
use Rattle.and_model.specs.Store.{is_half}
use Rattle.and_model.specs.declared.numbers.NodeNo.{NodeNo}
use Rattle.and_model.specs.declared.reference.Ref.{Ref}
use Rattle.and_model.specs.declared.reference.Ref.TheVariants.{Free, Cell, Node, Number, Half}
use Rattle.and_program.specs.Skeletons
use Rattle.and_program.specs.Skeletons.{Shape, node_term, shape_term, terms_behind}
use Rattle.and_program.proofs.NodeTerms.{node_term_at}
use Rattle.and_laws.proofs.Equality.{variable_or}
use Rattle.and_laws.proofs.Ordered.{contains_cases, contains_none}
use Rattle.and_cells.specs.Ranges.{NamedProgram, IsInRange, CanHold}
use Rattle.and_cells.specs.Rows.{IsSound}
use Rattle.and_cells.specs.Seen.{word_at, IsSetTo}
use Rattle.and_cells.specs.Meaning.{shallow_cells, equations_of}
use Rattle.and_cells.specs.Joined.{value}
use Rattle.and_cell_laws.proofs.Structures.{in_frame, value_of_node}
use Rattle.and_cell_laws.proofs.Images.{contains_origin}
use Rattle.and_cell_laws.proofs.Circles.{shape_is_no_variable}
use Rattle.and_cell_laws.proofs.Between.{one_value}
use Rattle.and_branch_laws.specs.Variables.{EquationsSpeakOf}
use Rattle.and_branch_laws.proofs.Speaking.{speaks_solves}
use Rattle.and_branch_laws.proofs.Rows.{words_solved}

-- the variable is another than this cell
abbrev pub IsOther : ℕ → Path × ℕ → Type 0
IsOther m v = v.0 ≡ [] → v.1 ≡ m → ⊥

-- ---- Another term for one cell

put_at : Substitution → Term → (q : Path) (k : ℕ) → {m : ℕ} → ((q ≡ []) × (k ≡ m)) ⊎ (q ≡ [] → k ≡ m → ⊥) → Term
put_at s x q k (inl e) = x
put_at s x q k (inr n) = s q k

put : Substitution → ℕ → Term → Substitution
put s m x q k = put_at s x q k (variable_or q k [] m)

put_here : (s : Substitution) (m : ℕ) (x : Term) → put s m x [] m ≡ x
unfolding put put_at
put_here s m x = go (variable_or [] m [] m)
  where
    go : (d : (([] ≡ []) × (m ≡ m)) ⊎ ([] ≡ [] → m ≡ m → ⊥)) → put_at s x [] m d ≡ x
    go (inl e) = refl
    go (inr n) = absurd (n refl refl)

put_other : (s : Substitution) (m : ℕ) (x : Term) (v : Path × ℕ) → IsOther m v → put s m x v.0 v.1 ≡ s v.0 v.1
unfolding put put_at
put_other s m x v o = go (variable_or v.0 v.1 [] m)
  where
    go : (d : ((v.0 ≡ []) × (v.1 ≡ m)) ⊎ (v.0 ≡ [] → v.1 ≡ m → ⊥)) → put_at s x v.0 v.1 d ≡ s v.0 v.1
    go (inl e) = absurd (o e.0 e.1)
    go (inr n) = refl

-- ---- What agrees on a term agrees on its variables

mutual
  agree_within : (s z : Substitution) (t : Term) → apply s t ≡ apply z t → (v : Path × ℕ) → Contains (variables_of t) v
      → s v.0 v.1 ≡ z v.0 v.1
  agree_within s z (variable q k) e v c = elim (contains_cases (q, k) v [] c) [
    | inl same ↦ ap (λ (w : Path × ℕ). s w.0 w.1) same ∙ e ∙ sym (ap (λ (w : Path × ℕ). z w.0 w.1) same)
    | inr i ↦ absurd (contains_none v i)
  ]
  agree_within s z (number n) e v c = absurd (contains_none v c)
  agree_within s z (compound n ts) e v c = all_agree_within s z ts (cc) v c

  all_agree_within : (s z : Substitution) (ts : Terms) → apply_all s ts ≡ apply_all z ts → (v : Path × ℕ) → Contains (variables_in ts) v
      → s v.0 v.1 ≡ z v.0 v.1
  all_agree_within s z none e v c = absurd (contains_none v c)
  all_agree_within s z (more t ts) e v c = elim (Contains-append_cases (variables_of t) (variables_in ts) v c) [
    | inl i ↦ agree_within s z t (cc) v i
    | inr i ↦ all_agree_within s z ts (cc) v i
  ]

-- ---- What a structure stands for is no variable

shape_no_variable : (s : Substitution) (ts : List Term) (shape : Shape) (q : Path) (n : ℕ) → ((k : ℕ) → shape ≡ Skeletons.variable k → ⊥)
    → apply s (shape_term ts shape) ≡ variable q n → ⊥
shape_no_variable s ts (Skeletons.variable k) q n no_variable e = no_variable k refl
shape_no_variable s ts (Skeletons.number z) q n no_variable e = cc
shape_no_variable s ts (Skeletons.compound c ns) q n no_variable e = cc

node_no_variable : (P : NamedProgram) (words : ℕ) (node : NodeNo) (base : ℕ) (s : Substitution) (q : Path) (n : ℕ)
    → IsInRange P words (Node node base) → apply s (node_term P.skeleton.nodes node.0) ≡ variable q n → ⊥
node_no_variable P words node base s q n fits e =
    let d : Shape = Skeletons.number (pos 0) in
    let at = node_term_at P.skeleton.nodes node.0 d fits.0.there in
    shape_no_variable s _ (get_or P.skeleton.nodes node.0 d) q n (shape_is_no_variable P node.0 fits.1 fits.0.there)
    (sym (ap (apply s) at) ∙ e)

module _ (P : NamedProgram) (row : List Ref) (ds : List Equation) (sound : IsSound P row) (entails : Entails ds (equations_of P row))
    (s : Substitution) (solves : Solves s ds)
    (m : ℕ) (speaks : EquationsSpeakOf (IsOther m) ds) where
  one : Term
  one = variable [] 0

  two : Term
  two = variable [] 1

  differ : one ≡ two → ⊥
  unfolding one two
  differ e = cc

  put_solves : (x : Term) → Solves (put s m x) (equations_of P row)
  put_solves x = entails (put s m x) (speaks_solves (IsOther m) s (put s m x) ds (λ v o. sym (put_other s m x v o)) speaks solves)

  -- what a set word has for its value, whatever is put for the cell
  value_put : (x : Term) (place : ℕ) (r : Ref) → IsSetTo row place r → is_half r ≡ false
      → Some (put s m x [] place) ≡ value P (word_at row) (put s m x) r
  value_put x place r set whole = one_value P (word_at row) (put s m x) (Cell place) r
      (words_solved P row (put s m x) (put_solves x) place r set whole)

  -- the cell is not set, but perhaps to a half
  not_set : (r : Ref) → IsSetTo row m r → is_half r ≡ false → CanHold P (length row) m r → ⊥
  unfolding one
  not_set Free set whole fits = set.1 refl
  not_set (Cell c) set whole fits =
      let o : IsOther m ([], c) = λ e f. omega arith in
      let is_one : one ≡ s [] c =
      same_Some one (s [] c)
      (ap (λ (x : Term). Some x) (sym (put_here s m one)) ∙ value_put one m (Cell c) set whole
      ∙ ap (λ (x : Term). Some x) (put_other s m one ([], c) o)) in
      let is_two : two ≡ s [] c =
      same_Some two (s [] c)
      (ap (λ (x : Term). Some x) (sym (put_here s m two)) ∙ value_put two m (Cell c) set whole
      ∙ ap (λ (x : Term). Some x) (put_other s m two ([], c) o)) in
      differ (is_one ∙ sym is_two)
  not_set (Node node base) set whole fits =
      let e : Some (put s m one [] m) ≡ Some (apply (in_frame (put s m one) base) (node_term P.skeleton.nodes node.0)) =
      value_put one m (Node node base) set whole ∙ value_of_node P (word_at row) (put s m one) node base in
      let same = same_Some (put s m one [] m) (apply (in_frame (put s m one) base) (node_term P.skeleton.nodes node.0)) e in
      node_no_variable P (length row) node base (in_frame (put s m one) base) [] 0 fits (sym same ∙ put_here s m one)
  not_set (Number pair) set whole fits = let e = value_put one m (Number pair) set whole in let f = put_here s m one in cc
  not_set (Half bits) set whole fits = true≢false whole

  pub unnamed_is_free : is_half (word_at row m) ≡ false → word_at row m ≡ Free
  unnamed_is_free whole = go (word_at row m) refl
    where
      go : (r : Ref) → word_at row m ≡ r → word_at row m ≡ Free
      go Free e = e
      go (Cell c) e = absurd (not_set (Cell c) (e, λ f. absurd (cc)) refl (subst (λ x. CanHold P (length row) m x) e (sound.fits m)))
      go (Node node base) e =
          absurd (not_set (Node node base) (e, λ f. absurd (cc)) refl (subst (λ x. CanHold P (length row) m x) e (sound.fits m)))
      go (Number pair) e = absurd
          (not_set (Number pair) (e, λ f. absurd (cc)) refl (subst (λ x. CanHold P (length row) m x) e (sound.fits m)))
      go (Half bits) e = absurd (true≢false (sym (ap is_half e) ∙ whole))

  -- so a set word, at another place, does not name it
  apart_values : (place : ℕ) (r : Ref) → (place ≡ m → ⊥) → IsSetTo row place r → is_half r ≡ false
      → value P (word_at row) (put s m one) r ≡ value P (word_at row) (put s m two) r
  apart_values place r apart set whole =
      let o : IsOther m ([], place) = λ e f. apart f in
      sym (value_put one place r set whole)
      ∙ ap (λ (x : Term). Some x) (put_other s m one ([], place) o ∙ sym (put_other s m two ([], place) o))
      ∙ value_put two place r set whole

  named_apart : (r : Ref) → value P (word_at row) (put s m one) r ≡ value P (word_at row) (put s m two) r → Contains (shallow_cells P r) m
      → ⊥
  named_apart Free e c = contains_none m c
  named_apart (Cell cell) e c = elim (contains_cases cell m [] c) [
    | inl same ↦
        let at : put s m one [] cell ≡ put s m two [] cell = same_Some (put s m one [] cell) (put s m two [] cell) e in
        differ (sym (put_here s m one) ∙ ap (put s m one []) same ∙ at ∙ sym (ap (put s m two []) same) ∙ put_here s m two)
    | inr i ↦ contains_none m i
  ]
  named_apart (Node node base) e c =
      let body : Term = node_term P.skeleton.nodes node.0 in
      let (v, at, is) = contains_origin (λ (v : Path × ℕ). base + 1 + v.1) (variables_of body) m c in
      let terms : apply (in_frame (put s m one) base) body ≡ apply (in_frame (put s m two) base) body =
      same_Some (apply (in_frame (put s m one) base) body) (apply (in_frame (put s m two) base) body)
      (sym (value_of_node P (word_at row) (put s m one) node base) ∙ e ∙ value_of_node P (word_at row) (put s m two) node base) in
      let agree : put s m one [] (base + 1 + v.1) ≡ put s m two [] (base + 1 + v.1) = agree_within (in_frame (put s m one) base)
      (in_frame (put s m two) base) body terms v at in
      differ (sym (put_here s m one) ∙ ap (put s m one []) is ∙ agree ∙ sym (ap (put s m two []) is) ∙ put_here s m two)
  named_apart (Number pair) e c = contains_none m c
  named_apart (Half bits) e c = contains_none m c

  pub unnamed_not_named : (place : ℕ) (r : Ref) → IsSetTo row place r → is_half r ≡ false → (place ≡ m → ⊥)
      → Contains (shallow_cells P r) m → ⊥
  unnamed_not_named place r set whole apart c = named_apart r (apart_values place r apart set whole) c
