-- What two references that are no cells begin with, and what that says of their terms.
use Rattle.std.proofs.Common.{ℕ, suc, ℤ, ◌+◌, ◌≡◌, ◌≢◌, List, [], ◌∷◌, ◌++◌, length, Some, refl, sym, ap, subst, ◌∙◌, inl, inr}
use Rattle.std.specs.Prelude.{Contains}
use Rattle.std.proofs.lemmas.Option.{same_Some}
use Rattle.std.proofs.lemmas.List.Elements.{Contains-append_cases}
use Rattle.and_model.specs.Terms.{Term, Terms, Substitution, apply, none, more, width}
use Rattle.and_model.specs.Terms as terms
use Rattle.and_model.specs.declared.numbers.NameNo.{NameNo}
use Rattle.and_model.specs.declared.reference.Ref.{Ref}
use Rattle.and_program.specs.Skeletons.{AllFall}
use Rattle.and_cells.specs.Ranges.{NamedProgram, IsInRange}
use Rattle.and_cells.specs.Seen.{Seen, Knows, OnlyReads}
use Rattle.and_cells.specs.Meaning.{Words, cell_variable}
use Rattle.and_cells.specs.Joined.{value}
use Rattle.and_cells.specs.Parts.{IsStructure, parts_of}
use Rattle.and_laws.proofs.Ordered.{contains_cases, contains_none}
use Rattle.and_cells.proofs.Chains.{written_later}
use Rattle.and_cell_laws.proofs.Structures.{HaveValues, value_of_structure}
use Rattle.and_unify.specs.Turns.{pairs_of}
use Rattle.and_unify.specs.Meeting.{AreOfOneShape}
use Rattle.and_unify.specs.Heads.{IsNumber, at_node, in_pair, HasHead}
use Rattle.and_unify.specs.declared.heads.Head.{Head}
use Rattle.and_unify.specs.declared.heads.Head.TheVariants.{Number, Name}
use Rattle.and_unify.proofs.MeetingSteps.{Compared, both_read, first_later, structures_compared}
use Rattle.and_unify.specs.declared.pairs.Pair.{Pair}
use Rattle.and_unify.proofs.TurnParts.{parts_counted, parts_agree, part_in_range, part_written, sides_of_pairs}
use Rattle.and_shared_determinacy.specs.Truths.{AreOne, AreTrue, CanFollow, CanFollowPairs, LeadsOn, AreNeverOne}
use Rattle.and_shared_determinacy.proofs.Truths.{number_is, reads_true}

-- ---- What a reference begins with

-- A number has this value, where what is known is true.
number_value : (P : NamedProgram) (w : Words) (t : Substitution) (s : Seen) (r : Ref) (z : ℤ) → IsNumber P s z r → AreTrue P w t s
    → value P w t r ≡ Some (terms.number z)
number_value P w t s r z (at_node node base is) are = ap (λ (u : Term). Some (apply t (apply (λ q k. cell_variable (base + 1 + k)) u))) is
number_value P w t s r z (in_pair pair high low high_known low_known is) are =
    ap (λ (u : Term). Some (apply t u)) (number_is P w t s pair high low are high_known low_known) ∙ ap (λ (x : ℤ). Some (terms.number x)) (sym is)

-- values are as many as the references
as_many_values : (P : NamedProgram) (w : Words) (t : Substitution) (rs : List Ref) (us : Terms) → HaveValues P w t rs us → length rs ≡ width us
as_many_values P w t [] none has = refl
as_many_values P w t [] (more u us) has = absurd has
as_many_values P w t (r ∷ rs) none has = absurd has
as_many_values P w t (r ∷ rs) (more u us) has = ap suc (as_many_values P w t rs us has.1)

abbrev arguments_of : Term → Terms
arguments_of (terms.variable q k) = none
arguments_of (terms.number z) = none
arguments_of (terms.compound c ts) = ts

abbrev name_of : Term → ℕ
name_of (terms.variable q k) = 0
name_of (terms.number z) = 0
name_of (terms.compound c ts) = c

abbrev number_of_term : Term → ℤ → ℤ
number_of_term (terms.variable q k) z = z
number_of_term (terms.number y) z = y
number_of_term (terms.compound c ts) z = z

number_no_compound : (z : ℤ) (c : ℕ) (ts : Terms) → terms.number z ≡ terms.compound c ts → ⊥
number_no_compound z c ts e = cc

-- ---- What both say

module _ (P : NamedProgram) (fall : AllFall 0 P.skeleton.nodes) (one other : Ref) (left right : Head) (old mid new : Seen)
    (c : Compared P one other left right old mid new) where
  reads : OnlyReads old new
  reads = both_read P one other left right old mid new c

  -- what begins with different heads has no one term
  apart_by : (w : Words) (t : Substitution) → AreTrue P w t new → AreOne P w t one other → (a b : Head) → HasHead P new one a
      → HasHead P new other b → a ≢ b → ⊥
  apart_by w t are (u, x, y) (Number z) (Number v) first second differ =
      let same : terms.number z ≡ terms.number v = same_Some (terms.number z) (terms.number v)
      (sym (number_value P w t new one z first are) ∙ x.is ∙ sym y.is ∙ number_value P w t new other v second are) in
      differ (ap Number (ap (λ (k : Term). number_of_term k z) same))
  apart_by w t are (u, x, y) (Number z) (Name name count) first second differ =
      let (us, is, has) = value_of_structure P w t other name.0 count fall second in
      number_no_compound z name.0 us (same_Some (terms.number z) (terms.compound name.0 us)
      (sym (number_value P w t new one z first are) ∙ x.is ∙ sym y.is ∙ is))
  apart_by w t are (u, x, y) (Name name count) (Number v) first second differ =
      let (us, is, has) = value_of_structure P w t one name.0 count fall first in
      number_no_compound v name.0 us (same_Some (terms.number v) (terms.compound name.0 us)
      (sym (number_value P w t new other v second are) ∙ y.is ∙ sym x.is ∙ is))
  apart_by w t are (u, x, y) (Name name count) (Name called many) first second differ =
      let (us, is, has) = value_of_structure P w t one name.0 count fall first in
      let (vs, too, have) = value_of_structure P w t other called.0 many fall second in
      let same : terms.compound name.0 us ≡ terms.compound called.0 vs =
      same_Some (terms.compound name.0 us) (terms.compound called.0 vs) (sym is ∙ x.is ∙ sym y.is ∙ too) in
      let names : name.0 ≡ called.0 = ap name_of same in
      let counts : count ≡ many =
      sym (parts_counted P one name.0 count first) ∙ as_many_values P w t (parts_of P one) us has ∙ ap (λ (k : Term). width (arguments_of k)) same
      ∙ sym (as_many_values P w t (parts_of P other) vs have) ∙ parts_counted P other called.0 many second in
      differ (λ i. Name (record { 0 = names i }) (counts i))

  pub heads_never_one : left ≢ right → AreNeverOne P one other old new
  heads_never_one differ w t are learnt alike =
      apart_by w t (reads_true P w t old new reads are learnt) alike left right (first_later P one other left right old mid new c) c.second differ

  -- two numbers that begin alike ask for no more
  pub numbers_lead_on : (pairs : List Pair) → LeadsOn P one other old new pairs pairs
  numbers_lead_on pairs w t are learnt alike before = (reads_true P w t old new reads are learnt, before)

  module _ (name : NameNo) (count : ℕ) (left_is : left ≡ Name name count) (same : left ≡ right) where
    left_structure : IsStructure P one name.0 count
    left_structure = subst (HasHead P new one) left_is (first_later P one other left right old mid new c)

    right_structure : IsStructure P other name.0 count
    right_structure = subst (HasHead P new other) (sym same ∙ left_is) c.second

    pub of_one_shape : IsInRange P old.words one → IsInRange P old.words other → AreOfOneShape P old.words one other
    of_one_shape first second = (structures_compared P one other one other left right name count old mid new c same left_is refl refl first second).shape

    -- structures of one name ask for their arguments
    pub arguments_lead_on : (before after : List Pair) → after ≡ before ++ pairs_of (parts_of P one) (parts_of P other)
        → LeadsOn P one other old new before after
    arguments_lead_on before after is w t are learnt (u, x, y) true_before_it = (
      reads_true P w t old new reads are learnt,
      λ p among. elim (Contains-append_cases before (pairs_of (parts_of P one) (parts_of P other)) p (subst (λ (ps : List Pair). Contains ps p) is among)) [
        | inl early ↦ true_before_it p early
        | inr late ↦ (
            let a = parts_agree P w t one other name.0 count fall left_structure right_structure
            (record { term = u; left = x.is; right = y.is; left_whole = x.whole; right_whole = y.whole }) p late in
            (a.term, record { is = a.left; whole = a.left_whole }, record { is = a.right; whole = a.right_whole }))
      ],
    )

-- ---- What can be followed

pub follow_later : (P : NamedProgram) (old new : Seen) (r : Ref) → ((p : ℕ) (q : Ref) → Knows old p q → Knows new p q) → new.words ≡ old.words
    → CanFollow P old r → CanFollow P new r
follow_later P old new r keeps words can =
    (subst (λ (n : ℕ). IsInRange P n r) (sym words) can.0, written_later old new r keeps can.1)

pub follow_pairs_later : (P : NamedProgram) (old new : Seen) (pairs : List Pair) → ((p : ℕ) (q : Ref) → Knows old p q → Knows new p q) → new.words ≡ old.words
    → CanFollowPairs P old pairs → CanFollowPairs P new pairs
follow_pairs_later P old new pairs keeps words can p among =
    let both = can p among in
    (follow_later P old new p.left keeps words both.0, follow_later P old new p.right keeps words both.1)

-- the arguments of structures that can be followed can be
pub follow_arguments : (P : NamedProgram) (fall : AllFall 0 P.skeleton.nodes) (s : Seen) (one other : Ref) (before after : List Pair) → CanFollow P s one
    → CanFollow P s other
    → after ≡ before ++ pairs_of (parts_of P one) (parts_of P other) → CanFollowPairs P s before → CanFollowPairs P s after
follow_arguments P fall s one other before after left right is can p among =
    elim (Contains-append_cases before (pairs_of (parts_of P one) (parts_of P other)) p (subst (λ (ps : List Pair). Contains ps p) is among)) [
      | inl early ↦ can p early
      | inr late ↦ (
          let (in_left, in_right) = sides_of_pairs (parts_of P one) (parts_of P other) p late in (
            (part_in_range P s.words one p.left fall left.0 in_left, part_written P s one p.left in_left),
            (part_in_range P s.words other p.right fall right.0 in_right, part_written P s other p.right in_right),
          ))
    ]

-- one pair more that can be followed
pub follow_push : (P : NamedProgram) (s : Seen) (before after : List Pair) (l r : Ref) → CanFollow P s l → CanFollow P s r
    → after ≡ before ++ record { left = l; right = r } ∷ [] → CanFollowPairs P s before → CanFollowPairs P s after
follow_push P s before after l r left right is can p among =
    let last : Pair = record { left = l; right = r } in
    elim (Contains-append_cases before (last ∷ []) p (subst (λ (ps : List Pair). Contains ps p) is among)) [
      | inl early ↦ can p early
      | inr late ↦ elim (contains_cases last p [] late) [
        | inl e ↦ subst (λ (x : Pair). CanFollow P s x.left × CanFollow P s x.right) (sym e) (left, right)
        | inr none_is ↦ absurd (contains_none p none_is)
      ]
    ]

-- ---- Under another name of the program

pub list_as_named : (P Q : NamedProgram) (before after : List Pair) (one other : Ref) → P ≡ Q → after ≡ before ++ pairs_of (parts_of Q one) (parts_of Q other)
    → after ≡ before ++ pairs_of (parts_of P one) (parts_of P other)
list_as_named P Q before after one other same is = is ∙ ap (λ (x : NamedProgram). before ++ pairs_of (parts_of x one) (parts_of x other)) (sym same)

pub shape_as_named : (P Q : NamedProgram) (words : ℕ) (one other : Ref) → P ≡ Q → AreOfOneShape P words one other → (n : ℕ) × AreOfOneShape Q n one other
shape_as_named P Q words one other same shape = (words, subst (λ (x : NamedProgram). AreOfOneShape x words one other) same shape)
