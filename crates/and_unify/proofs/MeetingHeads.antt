-- What references to numbers and structures begin with, and whether two of them differ.
use Rattle.std.proofs.Common.{ℕ, suc, ℤ, ◌≡◌, ◌≢◌, ◌⊎◌, Bool, true, false, List, map, take, pos, Option, Some, refl, sym, ap, subst, ◌∙◌, inl, inr}
use Rattle.std.proofs.Common.{true≢false, eqb, not, rules, tests, [], ◌+◌}
use Rattle.std.proofs.lemmas.List.{length-map}
use Rattle.std.proofs.lemmas.Option.{slice_get_within, get_or_from_slice_get}
use Rattle.std.proofs.lemmas.Bool.{cases_eq}
use Rattle.std.proofs.lemmas.Bool.Decides.{Decides-int_eq, Decides-eqb}
use Rattle.and_model.proofs.Tested.{first_true, second_true}
use Rattle.and_model.specs.Terms.{Term, Terms, Substitution, variable, number, compound, none, more, apply, apply_all}
use Rattle.and_model.specs.declared.numbers.NameNo.{NameNo}
use Rattle.and_model.specs.declared.numbers.NodeNo.{NodeNo}
use Rattle.and_model.specs.declared.reference.Ref.{Ref}
use Rattle.and_model.specs.declared.reference.Ref.TheVariants as reference
use Rattle.and_model.specs.Terms.{width}
use Rattle.and_program.specs.declared.node.NodeKind.TheVariants as kind
use Rattle.and_program.specs.Shown.{shown_term}
use Rattle.and_program.specs.Skeletons as skeletons
use Rattle.and_program.specs.Skeletons.{term_list, nth, shape_term, terms_behind, node_term}
use Rattle.and_program.proofs.NodeTerms.{node_term_at}
use Rattle.and_program.proofs.PredicateLemmas.{width-term_list}
use Rattle.and_cells.specs.Ranges.{NamedProgram}
use Rattle.and_cells.specs.Numbers.{number_of}
use Rattle.and_cells.specs.Seen.{Seen, Knows, ReadsNumber}
use Rattle.and_cells.specs.Meaning.{Words, cell_variable, shallow_term}
use Rattle.and_cells.specs.Parts.{IsStructure}
use Rattle.and_cells.specs.Known.{HasKnown}
use Rattle.and_unify.specs.Pairs.{DifferAtHeads, AreApart}
use Rattle.and_unify.specs.Heads.{IsNumber, at_node, in_pair, HasHead}
use Rattle.and_unify.specs.Meeting.{AreAlike}
use Rattle.and_unify.specs.contracts.heads.HeadPartialEq.TheImpl as derived
use Rattle.and_unify.specs.declared.heads.Head.{Head}
use Rattle.and_unify.specs.declared.heads.Head.TheVariants.{Number, Name}

-- a number that was read from a pair
pub number_head : (P : NamedProgram) (pair : ℕ) (r : Ref) (value result : ℤ) (old new : Seen) → r ≡ reference.Number pair → value ≡ result
    → ReadsNumber P pair result old new → HasHead P new r (Number value)
number_head P pair r value result old new is same reads =
    subst (IsNumber P new value) (sym is) (in_pair pair reads.high reads.low reads.high_known reads.low_known (same ∙ reads.holds))

-- In words that have what is known, such a reference is that number.
pub number_term : (P : NamedProgram) (s : Seen) (r : Ref) (z : ℤ) → IsNumber P s z r → (w : Words) → HasKnown s w → shallow_term P w r ≡ Some (number z)
number_term P s r z (at_node node base is) w has = ap (λ t. Some (apply (λ q k. cell_variable (base + 1 + k)) t)) is
number_term P s r z (in_pair pair high low high_known low_known is) w has =
    ap (λ h. Some (number (number_of h (w (suc pair))))) (has pair high high_known)
    ∙ ap (λ l. Some (number (number_of high l))) (has (suc pair) low low_known)
    ∙ ap (λ x. Some (number x)) (sym is)

-- what a reference begins with, it begins with later
pub head_later : (P : NamedProgram) (old new : Seen) (r : Ref) (head : Head) → ((p : ℕ) (q : Ref) → Knows old p q → Knows new p q) → HasHead P old r head
    → HasHead P new r head
head_later P old new r (Number z) keeps (at_node node base is) = at_node node base is
head_later P old new r (Number z) keeps (in_pair pair high low high_known low_known is) =
    in_pair pair high low (keeps pair high high_known) (keeps (suc pair) low low_known) is
head_later P old new r (Name name count) keeps has = has

-- the node of a number
pub node_number : (P : NamedProgram) (s : Seen) (node : NodeNo) (base : ℕ) (given z : ℤ) → given ≡ z
    → kind.Number z ≡ shown_term (node_term P.skeleton.nodes node.0) → IsNumber P s given (reference.Node node base)
node_number P s node base given z same shown =
    subst (λ (x : ℤ). IsNumber P s x (reference.Node node base)) (sym same) (at_node node base (by (node_term P.skeleton.nodes node.0) shown))
  where
    by : (t : Term) → kind.Number z ≡ shown_term t → t ≡ number z
    by (variable q k) e = absurd (cc)
    by (number y) e = let same : y ≡ z = cc in ap number same
    by (compound c ts) e = absurd (cc)

width_applied : (s : Substitution) (ts : Terms) → width (apply_all s ts) ≡ width ts
width_applied s none = refl
width_applied s (more t ts) = ap (λ (n : ℕ). suc n) (width_applied s ts)

-- the term of a structure has its name and number of arguments
record Structured (P : NamedProgram) (w : Words) (r : Ref) (name count : ℕ) : Type 0 where
  arguments : Terms
  term : shallow_term P w r ≡ Some (compound name arguments)
  counted : width arguments ≡ count

structured : (P : NamedProgram) (w : Words) (r : Ref) (name count : ℕ) → IsStructure P r name count → Structured P w r name count
structured P w r name count is = record {
  arguments = apply_all s ts;
  term = ap (shallow_term P w) is.reference ∙ ap (λ t. Some (apply s t)) node;
  counted = width_applied s ts ∙ width-term_list (map (nth front) is.arguments) ∙ length-map is.arguments (nth front) ∙ is.counted;
}
  where
    s : Substitution
    s = λ q k. cell_variable (is.base + 1 + k)

    front : List Term
    front = terms_behind [] (take is.node.0 P.skeleton.nodes)

    ts : Terms
    ts = term_list (map (nth front) is.arguments)

    node : node_term P.skeleton.nodes is.node.0 ≡ compound name ts
    node =
        node_term_at P.skeleton.nodes is.node.0 (skeletons.number (pos 0)) (slice_get_within P.skeleton.nodes is.node.0 _ is.shape)
        ∙ ap (shape_term front) (get_or_from_slice_get P.skeleton.nodes is.node.0 (skeletons.compound name is.arguments) (skeletons.number (pos 0)) is.shape)

differ_by : (t u p q : Option Term) → t ≡ p → u ≡ q → DifferAtHeads p q → DifferAtHeads t u
differ_by t u p q left right differ = subst (λ x. DifferAtHeads x u) (sym left) (subst (λ x. DifferAtHeads p x) (sym right) differ)

names_differ : (name called : NameNo) (count many : ℕ) → Name name count ≢ Name called many → (name.0 ≢ called.0) ⊎ (count ≢ many)
names_differ name called count many differ = by (cases_eq name.0 called.0)
  where
    by : (name.0 ≡ called.0) ⊎ (name.0 ≢ called.0) → (name.0 ≢ called.0) ⊎ (count ≢ many)
    by (inl same) = inr (λ counts. differ (λ i. Name (record { 0 = same i }) (counts i)))
    by (inr others) = inl others

-- references that begin with different heads are apart
pub heads_apart : (P : NamedProgram) (s : Seen) (one other : Ref) (left right : Head) → HasHead P s one left → HasHead P s other right → left ≢ right
    → AreApart P s one other
heads_apart P s one other (Number z) (Number y) first second differ =
    inr (inr (λ w has. differ_by _ _ (Some (number z)) (Some (number y)) (number_term P s one z first w has) (number_term P s other y second w has)
    (λ e. differ (ap Number e))))
heads_apart P s one other (Number z) (Name name count) first second differ =
    inr (inr (λ w has. let b =
    structured P w other name.0 count second in differ_by _ _ (Some (number z)) (Some (compound name.0 b.arguments))
    (number_term P s one z first w has) b.term tt))
heads_apart P s one other (Name name count) (Number y) first second differ =
    inr (inr (λ w has. let a =
    structured P w one name.0 count first in differ_by _ _ (Some (compound name.0 a.arguments)) (Some (number y)) a.term
    (number_term P s other y second w has) tt))
heads_apart P s one other (Name name count) (Name called many) first second differ =
    inr (inr (λ w has.
    let a = structured P w one name.0 count first in
    let b = structured P w other called.0 many second in
    differ_by _ _ (Some (compound name.0 a.arguments)) (Some (compound called.0 b.arguments)) a.term b.term
    (elim (names_differ name called count many differ) [ inl names ↦ inl names | inr counts ↦ inr (λ e. counts (sym a.counted ∙ e ∙ b.counted)) ])))

-- two numbers that begin alike are alike
pub numbers_alike : (P : NamedProgram) (s : Seen) (one other : Ref) (left right : Head) (z : ℤ) → left ≡ Number z → right ≡ Number z → HasHead P s one left
    → HasHead P s other right → AreAlike P s one other
numbers_alike P s one other left right z is same first second =
    let a : HasHead P s one (Number z) = subst (HasHead P s one) is first in
    let b : HasHead P s other (Number z) = subst (HasHead P s other) same second in
    inr (λ w has. (z, number_term P s one z a w has, number_term P s other z b w has))

-- the comparison of heads that the code uses tells any two apart
abbrev is_same_head : Head → Head → Bool
is_same_head = derived.eq-value.it

pub same_head : (a b : Head) → is_same_head a b ≡ true → a ≡ b
same_head (Number z) (Number y) e = ap Number ((Decides-int_eq z y).0 e)
same_head (Name name count) (Name called many) e =
    let names : name.0 ≡ called.0 = (Decides-eqb name.0 called.0).0 (first_true (eqb name.0 called.0) (eqb count many) e) in
    let counts : count ≡ many = (Decides-eqb count many).0 (second_true (eqb name.0 called.0) (eqb count many) e) in
    (λ i. Name (record { 0 = names i }) (counts i))
same_head a b e = absurd (true≢false (sym e))

pub same_head_itself : (a : Head) → is_same_head a a ≡ true
same_head_itself (Number z) = (Decides-int_eq z z).1 refl
same_head_itself (Name name count) = search (rules, tests)

pub differ_head : (a b : Head) → is_same_head a b ≡ false → a ≢ b
differ_head a b e is = true≢false (sym (same_head_itself a) ∙ ap (is_same_head a) is ∙ e)

opposite : (b c : Bool) → c ≡ not b → b ≡ not c
opposite true c e = sym (ap not e)
opposite false c e = sym (ap not e)

-- what `!=` tells
pub differ_told : (a b : Head) → true ≡ not (is_same_head a b) → a ≢ b
differ_told a b e = differ_head a b (opposite (is_same_head a b) true e)

pub same_told : (a b : Head) → false ≡ not (is_same_head a b) → a ≡ b
same_told a b e = same_head a b (opposite (is_same_head a b) false e)
