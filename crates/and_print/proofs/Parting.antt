-- What structures begin with, and their arguments one after another.
use Rattle.std.proofs.Common.{ℕ, ℤ, zero, suc, pos, ◌≡◌, ◌+◌, ◌<◌, ◌≤◌, List, [], length, get_or, take, Some, refl, sym, ap, ◌∙◌, subst, arith, lit<, Bool}
use Rattle.std.proofs.Common.{true, false, true≢false, not, nat_eq, Option}
use Rattle.std.specs.Prelude.{Contains, MatchOption, None, is_some}
use Rattle.std.proofs.lemmas.Option.{get_or_from_slice_get}
use Rattle.std.proofs.lemmas.List.Elements.{All-contains, Contains-append_left, Contains-append_right, Contains-get_or}
use Rattle.and_model.specs.Terms
use Rattle.and_model.specs.Terms.{Path, Term, Terms, number, compound, none, more, variables_of, variables_in, Substitution, apply, apply_all}
use Rattle.and_model.specs.Lines.{is_cell, point_name, is_nil, nil_name}
use Rattle.and_model.specs.declared.numbers.NodeNo.{NodeNo}
use Rattle.and_model.specs.declared.reference.Ref.{Ref}
use Rattle.and_model.specs.declared.reference.Ref.TheVariants.{Cell, Node}
use Rattle.and_model.specs.Terms.{width}
use Rattle.and_program.specs.Skeletons
use Rattle.and_program.specs.Skeletons.{Shape, node_term, terms_behind, shape_term}
use Rattle.and_program.specs.declared.node.NodeKind as glance
use Rattle.and_program.specs.declared.node.NodeKind.{NodeKind}
use Rattle.and_program.specs.Loaded.{shape_at, arguments_at}
use Rattle.and_program.specs.Shown.{shown_term, count_of, term_at, argument_of, resolved}
use Rattle.and_program.proofs.NodeTerms.{node_term_at}
use Rattle.and_cells.specs.Ranges.{NamedProgram, IsNodeInRange, IsNoVariable}
use Rattle.and_cells.specs.Meaning.{StandsFor, structure}
use Rattle.and_print.specs.declared.roots.Arguments.{Arguments}
use Rattle.and_print.specs.Goals.{NodeMeans}
use Rattle.and_print.specs.Roots.{Means, ArgumentsMean, Splits, Pairs, terms_from}

-- what a structure's node means
pub record StructureMeans (P : NamedProgram) (row : List Ref) (node base : ℕ) (t : Term) : Type 0 where
  pub values : Substitution
  pub means : NodeMeans P row node base values
  pub term : t ≡ apply values (node_term P.skeleton.nodes node)

pub structure_means : (P : NamedProgram) (row : List Ref) (node : NodeNo) (base : ℕ) (t : Term) → IsNodeInRange P (length row) node.0 base
    → StandsFor P row (Node node base) t → StructureMeans P row node.0 base t
structure_means P row node base t in_range (structure n b s all) = record { values = s; means = record { in_range = in_range; cells = all }; term = refl }

number_shown : (u : Term) (z : ℤ) → glance.TheVariants.Number z ≡ shown_term u → u ≡ number z
number_shown (Terms.variable q k) z e = absurd (cc)
number_shown (number y) z e = cc
number_shown (compound c ts) z e = absurd (cc)

abbrev name_shown : NodeKind → ℕ
name_shown (glance.TheVariants.Variable k) = 0
name_shown (glance.TheVariants.Number z) = 0
name_shown (glance.TheVariants.Compound c n) = c.0

compound_shown : (u : Term) (name n : ℕ) → glance.TheVariants.Compound (record { 0 = name }) n ≡ shown_term u
    → (ts : Terms) × (u ≡ compound name ts) × (width ts ≡ n)
compound_shown (Terms.variable q k) name n e = absurd (cc)
compound_shown (number y) name n e = absurd (cc)
compound_shown (compound c ts) name n e = (ts, sym (ap (λ (k : ℕ). compound k ts) (ap name_shown e)), sym (ap count_of e))

pub number_root : (P : NamedProgram) (row : List Ref) (node : NodeNo) (base : ℕ) (z : ℤ) (t : Term) → Means P row (Node node base) t
    → glance.TheVariants.Number z ≡ shown_term (node_term P.skeleton.nodes node.0) → t ≡ number z
number_root P row node base z t m e =
    let s = structure_means P row node base t m.in_range.0 m.stands in s.term ∙ ap (apply s.values) (number_shown (node_term P.skeleton.nodes node.0) z e)

pub compound_root : (P : NamedProgram) (row : List Ref) (node : NodeNo) (base name n : ℕ) (t : Term) → Means P row (Node node base) t
    → glance.TheVariants.Compound (record { 0 = name }) n ≡ shown_term (node_term P.skeleton.nodes node.0) → n ≡ length (arguments_at P.skeleton node.0)
    → (ts : Terms) × (t ≡ compound name ts) × ArgumentsMean P row (record { node = node; base = base; place = 0; count = n }) ts
compound_root P row node base name n t m e counted =
    let s = structure_means P row node base t m.in_range.0 m.stands in
    let (all, is, wide) = compound_shown (node_term P.skeleton.nodes node.0) name n e in (
      apply_all s.values all,
      s.term ∙ ap (apply s.values) is,
      record {
        in_range = m.in_range.0;
        counted = counted;
        name = name;
        all = all;
        node = is;
        width_is = wide;
        values = s.values;
        cells = λ v c. s.means.cells v (subst (λ (u : Term). Contains (variables_of u) v) (sym is) c);
        terms = refl;
      },
    )

no_variable : (P : NamedProgram) (n : ℕ) (s : Shape) → shape_at P.skeleton n ≡ s → ((k : ℕ) → s ≡ Skeletons.variable k → ⊥) → IsNoVariable P n
no_variable P n s e other k is = other k (sym e ∙ get_or_from_slice_get P.skeleton.nodes n (Skeletons.variable k) (Skeletons.number (pos 0)) is)

module _ (P : NamedProgram) (row : List Ref) (n : NodeNo) (base : ℕ) (values : Substitution) (m : NodeMeans P row n.0 base values) where
  at_node : IsNoVariable P n.0 → Means P row (Node n base) (apply values (node_term P.skeleton.nodes n.0))
  at_node other = record { in_range = (m.in_range, other); stands = structure n base values m.cells }

  shape_means : (s : Shape) → shape_at P.skeleton n.0 ≡ s → Means P row (resolved s n base) (apply values (node_term P.skeleton.nodes n.0))
  shape_means (Skeletons.variable k) e =
      let is : node_term P.skeleton.nodes n.0 ≡ Terms.variable [] k =
      node_term_at P.skeleton.nodes n.0 (Skeletons.number (pos 0)) m.in_range.there ∙ ap (shape_term (terms_behind [] (take n.0 P.skeleton.nodes))) e in
      let there : Contains (variables_of (node_term P.skeleton.nodes n.0)) ([], k) =
      subst (λ (u : Term). Contains (variables_of u) ([], k)) (sym is) (0, lit< tt, refl) in
      record {
        in_range = All-contains (λ (v : Path × ℕ). base + 1 + v.1 < length row) (variables_of (node_term P.skeleton.nodes n.0)) ([], k) m.in_range.cells there;
        stands = subst (λ (u : Term). StandsFor P row (Cell (base + 1 + k)) (apply values u)) (sym is) (m.cells ([], k) there);
      }
  shape_means (Skeletons.number z) e = at_node (no_variable P n.0 (Skeletons.number z) e (λ k f. absurd (cc)))
  shape_means (Skeletons.compound c ns) e = at_node (no_variable P n.0 (Skeletons.compound c ns) e (λ k f. absurd (cc)))

  -- where the term of a node is found
  pub node_found : Means P row (resolved (shape_at P.skeleton n.0) n base) (apply values (node_term P.skeleton.nodes n.0))
  node_found = shape_means (shape_at P.skeleton n.0) refl

  pub node_resolved : (r : Ref) → r ≡ resolved (shape_at P.skeleton n.0) n base → Means P row r (apply values (node_term P.skeleton.nodes n.0))
  node_resolved r e = subst (λ (q : Ref). Means P row q (apply values (node_term P.skeleton.nodes n.0))) (sym e) node_found

terms_step : (n : ℕ) (ts : Terms) → n < width ts → terms_from n ts ≡ more (term_at ts n) (terms_from (suc n) ts)
terms_step n none lt = absurd (omega arith)
terms_step zero (more t ts) lt = refl
terms_step (suc n) (more t ts) lt = terms_step n ts (omega arith)

terms_end : (n : ℕ) (ts : Terms) → width ts ≤ n → terms_from n ts ≡ none
terms_end zero none le = refl
terms_end (suc n) none le = refl
terms_end zero (more t ts) le = absurd (omega arith)
terms_end (suc n) (more t ts) le = terms_end n ts (omega arith)

variable_at : (n : ℕ) (ts : Terms) (v : Path × ℕ) → n < width ts → Contains (variables_of (term_at ts n)) v → Contains (variables_in ts) v
variable_at n none v lt c = absurd (omega arith)
variable_at zero (more t ts) v lt c = Contains-append_left (variables_of t) (variables_in ts) v c
variable_at (suc n) (more t ts) v lt c = Contains-append_right (variables_of t) (variables_in ts) v (variable_at n ts v (omega arith) c)

-- no arguments are left
pub arguments_end : (P : NamedProgram) (row : List Ref) (a : Arguments) (ts : Terms) → a.count ≤ a.place → ArgumentsMean P row a ts → ts ≡ none
arguments_end P row a ts le m = m.terms ∙ ap (apply_all m.values) (terms_end a.place m.all (omega (arith, m.width_is)))

-- the first argument, by its node, and those after it
module _ (P : NamedProgram) (row : List Ref) (a : Arguments) (ts : Terms) (m : ArgumentsMean P row a ts) (n : NodeNo) (lt : a.place < a.count)
    (term : node_term P.skeleton.nodes n.0 ≡ argument_of (node_term P.skeleton.nodes a.node.0) a.place) (below : n.0 < a.node.0) where
  argument_is : node_term P.skeleton.nodes n.0 ≡ term_at m.all a.place
  argument_is = term ∙ ap (λ (u : Term). argument_of u a.place) m.node

  argument_means : NodeMeans P row n.0 a.base m.values
  argument_means =
      let there : (v : Path × ℕ) → Contains (variables_of (node_term P.skeleton.nodes n.0)) v → Contains (variables_in m.all) v =
      λ v c. variable_at a.place m.all v (omega (arith, m.width_is)) (subst (λ (u : Term). Contains (variables_of u) v) argument_is c) in
      let back : (v : Path × ℕ) → Contains (variables_in m.all) v → Contains (variables_of (node_term P.skeleton.nodes a.node.0)) v =
      λ v c. subst (λ (u : Term). Contains (variables_of u) v) (sym m.node) c in
      let within : (k : ℕ) (d : Path × ℕ) → k < length (variables_of (node_term P.skeleton.nodes n.0))
      → a.base + 1 + (get_or (variables_of (node_term P.skeleton.nodes n.0)) k d).1 < length row =
      λ k d h. let v : Path × ℕ = get_or (variables_of (node_term P.skeleton.nodes n.0)) k d in
      All-contains (λ (w : Path × ℕ). a.base + 1 + w.1 < length row) (variables_of (node_term P.skeleton.nodes a.node.0)) v m.in_range.cells
      (back v (there v (Contains-get_or (variables_of (node_term P.skeleton.nodes n.0)) k d h))) in
      record {
        in_range = record {
          there = (let h = m.in_range.there in omega arith);
          nameable = (let h = m.in_range.nameable in omega arith);
          base_below = m.in_range.base_below;
          cells = within;
        };
        cells = λ v c. m.cells v (there v c);
      }

  pub arguments_split : (first : Ref) (next : ℕ) → first ≡ resolved (shape_at P.skeleton n.0) n a.base → next ≡ a.place + 1
      → Splits P row first (record { node = a.node; base = a.base; place = next; count = a.count }) ts
  arguments_split first next is later = record {
    term = apply m.values (term_at m.all a.place);
    terms = apply_all m.values (terms_from (suc a.place) m.all);
    both = m.terms ∙ ap (apply_all m.values) (terms_step a.place m.all (omega (arith, m.width_is)));
    first_means = subst (λ (r : Ref). Means P row r (apply m.values (term_at m.all a.place))) (sym is)
        (subst (λ (u : Term). Means P row (resolved (shape_at P.skeleton n.0) n a.base) (apply m.values u)) argument_is
        (node_found P row n a.base m.values argument_means));
    rest_means = record {
      in_range = m.in_range;
      counted = m.counted;
      name = m.name;
      all = m.all;
      node = m.node;
      width_is = m.width_is;
      values = m.values;
      cells = m.cells;
      terms = let e : next ≡ suc a.place = omega arith in ap (λ (k : ℕ). apply_all m.values (terms_from k m.all)) (sym e);
    };
  }

-- lists of other lengths than two
pub no_pair : (ts : Terms) → ts ≡ none → is_cell point_name ts ≡ false
no_pair ts e = ap (is_cell point_name) e

module _ (P : NamedProgram) (row : List Ref) (first second : Ref) (rest last : Arguments) (ts : Terms) (s : Splits P row first rest ts) where
  pub one_alone : s.terms ≡ none → is_cell point_name ts ≡ false
  one_alone e = ap (is_cell point_name) (s.both ∙ ap (more s.term) e)

  module _ (z : Splits P row second last s.terms) where
    both_are : ts ≡ more s.term (more z.term z.terms)
    both_are = s.both ∙ ap (more s.term) z.both

    pub two_alone : z.terms ≡ none → Pairs P row first second ts
    two_alone e = record {
      one = s.term;
      other = z.term;
      both = both_are ∙ ap (λ (us : Terms). more s.term (more z.term us)) e;
      left_means = s.first_means;
      right_means = z.first_means;
    }

    pub three_or_more : (third : Ref) (others : Arguments) → Splits P row third others z.terms → is_cell point_name ts ≡ false
    three_or_more third others y = ap (is_cell point_name) (both_are ∙ ap (λ (us : Terms). more s.term (more z.term us)) y.both)

-- the empty list is its name without arguments
pub empty_if_none : (P : NamedProgram) (row : List Ref) (o : Option (Ref × Arguments)) (b : Bool) (name : ℕ) (ts : Terms) → name ≡ nil_name → is_some o ≡ not b
    → MatchOption o (ts ≡ none) (λ s. Splits P row s.0 s.1 ts) → b ≡ is_nil name ts
empty_if_none P row None true name ts e f m = sym (ap (is_nil name) m ∙ ap (λ (n : ℕ). nat_eq n nil_name) e)
empty_if_none P row None false name ts e f m = absurd (true≢false (sym f))
empty_if_none P row (Some s) true name ts e f m = absurd (true≢false f)
empty_if_none P row (Some s) false name ts e f m = sym (ap (is_nil name) m.both)
