-- The values that references yield under what is known.
use Rattle.std.proofs.Common.{ℕ, ℤ, suc, ◌≡◌, ◌≤◌, inl, inr, List, [], ◌∷◌, ◌++◌, map, length, Option, Some, None, refl, ap, sym, ◌∙◌, subst, arith}
use Rattle.std.specs.Prelude.{Contains}
use Rattle.and_model.specs.Terms as terms
use Rattle.and_model.specs.Terms.{Term, Terms, variables_of, variables_in}
use Rattle.and_model.specs.Arithmetic.{value, values, operated}
use Rattle.and_model.specs.declared.numbers.NodeNo.{NodeNo}
use Rattle.and_model.specs.declared.reference.Ref.{Ref}
use Rattle.and_model.specs.declared.reference.Ref.TheVariants.{Cell, Node, Half}
use Rattle.and_program.specs.Shown.{arguments_in}
use Rattle.and_cells.specs.Ranges.{NamedProgram}
use Rattle.and_cells.specs.Seen.{Seen, Knows, LeadsTo, here, onward}
use Rattle.and_cells.specs.Numbers.{number_of}
use Rattle.and_cells.specs.Parts.{part_at, parts_of}
use Rattle.and_cells.proofs.Chains.{leads_later}
use Rattle.and_cells.proofs.Among.{among_none, among_cases}
use Rattle.and_value_laws.specs.Values.{KnownAs, AllKnownAs, bound, integer, literal, structure, no_parts, more_parts}
use Rattle.and_laws.specs.Sizes.{size, sizes}
use Rattle.and_arith.specs.Turns.{IsEnd, of_pair, of_half, of_literal, IsStructureAt, IsComeTo}
use Rattle.and_value_laws.proofs.KnownTerms.{IsOnce, node_cases, cell_cases, pair_cases, half_has_none, all_first, all_none}

-- the parts of a structure, by its shape
pub parts_are : (P : NamedProgram) (node : NodeNo) (base : ℕ) (is : IsStructureAt P node) → parts_of P (Node node base) ≡ map (part_at P base) is.arguments
parts_are P node base is = ap (λ s. map (part_at P base) (arguments_in s)) is.shape

-- what it is known as is a name over what its parts are known as
pub made_of_parts : (P : NamedProgram) (s : Seen) (node : NodeNo) (base : ℕ) (t : Term) (is : IsStructureAt P node) → KnownAs P s (Node node base) t
    → (us : Terms) × AllKnownAs P s (parts_of P (Node node base)) us × (t ≡ terms.compound is.name us)
made_of_parts P s node base t is known = elim (node_cases P s node base t known) [
  | inl number ↦ let shape = sym is.shape ∙ number.1 in absurd (cc)
  | inr made ↦
      let shape = sym made.shape ∙ is.shape in
      let same_name : made.name ≡ is.name = cc in (
        made.terms_of,
        subst (λ x. AllKnownAs P s (map (part_at P base) (arguments_in x)) made.terms_of) (sym made.shape) made.parts,
        made.is ∙ ap (λ n. terms.compound n made.terms_of) same_name,
      )
]

-- all of them are values
abbrev pub AreSome : List (Option ℤ) → Type 0
AreSome [] = Unit {0}
AreSome (v ∷ vs) = ((z : ℤ) × (v ≡ Some z)) × AreSome vs

-- what an operation gives a value for has values
pub operated_some : (name : ℕ) (vs : List (Option ℤ)) (z : ℤ) → operated name vs ≡ Some z → AreSome vs
operated_some name [] z e = tt
operated_some name (None ∷ vs) z e = absurd (cc)
operated_some name (Some a ∷ []) z e = ((a, refl), tt)
operated_some name (Some a ∷ None ∷ vs) z e = absurd (cc)
operated_some name (Some a ∷ Some b ∷ []) z e = ((a, refl), ((b, refl), tt))
operated_some name (Some a ∷ Some b ∷ c ∷ vs) z e = absurd (cc)

module _ (P : NamedProgram) (s : Seen) where
  -- A part is known as a smaller term.
  pub smaller : (rs : List Ref) (ts : Terms) (q : Ref) → AllKnownAs P s rs ts → Contains rs q → (u : Term) × KnownAs P s q u × (size u ≤ sizes ts)
  smaller rs ts q no_parts c = absurd (among_none q c)
  smaller rs ts q (more_parts r t rest others first more) c = elim (among_cases r q rest c) [
    | inl e ↦ (t, subst (λ (x : Ref). KnownAs P s x t) (sym e) first, omega (arith))
    | inr later ↦ let w = smaller rest others q more later in (w.0, w.1, omega (arith, w.2))
  ]

  -- What a reference yields: each term that it is known as has this value and no variable, and where there is a value it is known as one.
  pub record Yields (r : Ref) (v : Option ℤ) : Type 0 where
    pub of_term : (t : Term) → KnownAs P s r t → (value t ≡ v) × (variables_of t ≡ [])
    pub has_term : (z : ℤ) → v ≡ Some z → (t : Term) × KnownAs P s r t

  abbrev pub AllYield : List Ref → List (Option ℤ) → Type 0
  AllYield [] [] = Unit {0}
  AllYield [] (v ∷ vs) = ⊥
  AllYield (r ∷ rs) [] = ⊥
  AllYield (r ∷ rs) (v ∷ vs) = Yields r v × AllYield rs vs

  pub all_append : (rs qs : List Ref) (vs ws : List (Option ℤ)) → AllYield rs vs → AllYield qs ws → AllYield (rs ++ qs) (vs ++ ws)
  all_append [] qs [] ws a b = b
  all_append [] qs (v ∷ vs) ws a b = absurd a
  all_append (r ∷ rs) qs [] ws a b = absurd a
  all_append (r ∷ rs) qs (v ∷ vs) ws a b = (a.0, all_append rs qs vs ws a.1 b)

  pub all_counted : (rs : List Ref) (vs : List (Option ℤ)) → AllYield rs vs → length vs ≡ length rs
  all_counted [] [] y = refl
  all_counted [] (v ∷ vs) y = absurd y
  all_counted (r ∷ rs) [] y = absurd y
  all_counted (r ∷ rs) (v ∷ vs) y = ap suc (all_counted rs vs y.1)

  terms_yield : (rs : List Ref) (ts : Terms) (vs : List (Option ℤ)) → AllKnownAs P s rs ts → AllYield rs vs → (values ts ≡ vs) × (variables_in ts ≡ [])
  terms_yield [] ts [] known yields = (ap values (all_none P s ts known), ap variables_in (all_none P s ts known))
  terms_yield [] ts (v ∷ vs) known yields = absurd yields
  terms_yield (r ∷ rs) ts [] known yields = absurd yields
  terms_yield (r ∷ rs) ts (v ∷ vs) known yields =
      let w = all_first P s r rs ts known in
      let first = yields.0.of_term w.0 w.3 in
      let others = terms_yield rs w.1 vs w.4 yields.1 in (
        ap values w.2 ∙ ap (λ x. x ∷ values w.1) first.0 ∙ ap (λ xs. v ∷ xs) others.0,
        ap variables_in w.2 ∙ ap (λ xs. xs ++ variables_in w.1) first.1 ∙ others.1,
      )

  all_known : (rs : List Ref) (vs : List (Option ℤ)) → AllYield rs vs → AreSome vs → (ts : Terms) × AllKnownAs P s rs ts
  all_known [] [] yields some = (terms.none, no_parts)
  all_known [] (v ∷ vs) yields some = absurd yields
  all_known (r ∷ rs) [] yields some = absurd yields
  all_known (r ∷ rs) (v ∷ vs) yields some =
      let first = yields.0.has_term some.0.0 some.0.1 in
      let others = all_known rs vs yields.1 some.1 in
      (terms.more first.0 others.0, more_parts r first.0 rs others.0 first.1 others.1)

  -- A structure yields what its name makes of the values of its parts.
  pub structure_yields : (node : NodeNo) (base : ℕ) (is : IsStructureAt P node) (vs : List (Option ℤ)) → AllYield (parts_of P (Node node base)) vs
      → Yields (Node node base) (operated is.name vs)
  structure_yields node base is vs yields = record {
    of_term = λ t known.
        let made = made_of_parts P s node base t is known in
        let both = terms_yield (parts_of P (Node node base)) made.0 vs made.1 yields in
        (ap value made.2 ∙ ap (operated is.name) both.0, ap variables_of made.2 ∙ both.1);
    has_term = λ z e.
        let some = operated_some is.name vs z e in
        let all = all_known (parts_of P (Node node base)) vs yields some in (
          terms.compound is.name all.0,
          structure node base is.name is.arguments all.0 is.shape (subst (λ rs. AllKnownAs P s rs all.0) (parts_are P node base is) all.1),
        );
  }

  -- Two references that are known as the same terms.
  pub record AreSame (p q : Ref) : Type 0 where
    pub onward : (t : Term) → KnownAs P s p t → KnownAs P s q t
    pub back : (t : Term) → KnownAs P s q t → KnownAs P s p t

  pub same_yields : (p q : Ref) (v : Option ℤ) → AreSame p q → Yields q v → Yields p v
  same_yields p q v same y = record {
    of_term = λ t known. y.of_term t (same.onward t known);
    has_term = λ z e. let has = y.has_term z e in (has.0, same.back has.0 has.1);
  }

  pub same_on : (p q r : Ref) → AreSame p q → AreSame q r → AreSame p r
  same_on p q r a b = record { onward = λ t known. b.onward t (a.onward t known); back = λ t known. a.back t (b.back t known) }

  -- what has no term yields no value
  pub nothing_yields : (r : Ref) → ((t : Term) → KnownAs P s r t → ⊥) → Yields r None
  nothing_yields r nothing = record { of_term = λ t known. absurd (nothing t known); has_term = λ z e. absurd (cc) }

  module _ (once : IsOnce s) where
    -- a cell that is known to be set is the same as what it is set to
    pub set_same : (cell : ℕ) (r : Ref) → Knows s cell r → AreSame (Cell cell) r
    set_same cell r knows = record {
      onward = λ t known. elim (cell_cases P s cell t known) [
        | inl free ↦ absurd (free.0 r knows)
        | inr set ↦ subst (λ x. KnownAs P s x t) (once cell set.0 r set.1 knows) set.2
      ];
      back = λ t known. bound cell r t knows known;
    }

    -- what leads to a reference is the same
    pub leads_same : (p q : Ref) → LeadsTo s p q → AreSame p q
    leads_same p q (here r) = record { onward = λ t known. known; back = λ t known. known }
    leads_same p q (onward cell r to knows leads) = same_on (Cell cell) r to (set_same cell r knows) (leads_same r to leads)

    -- a part is the same as what it comes to
    pub come_same : (part : Ref) (by : Option ℕ) (place : Ref) → IsComeTo s part by place → AreSame part place
    come_same part None place e = subst (λ x. AreSame part x) (sym e) (record { onward = λ t known. known; back = λ t known. known })
    come_same part (Some cell) place come = same_on part (Cell cell) place (leads_same part (Cell cell) come.0) (set_same cell place come.1)

    -- What a reference without parts yields.
    pub end_yields : (place : Ref) (v : Option ℤ) → IsEnd P s place v → Yields place v
    end_yields place v (of_pair pair high low a b fits) = record {
      of_term = λ t known.
          let p = pair_cases P s pair t known in
          let is = p.is ∙ ap (λ x. terms.number (number_of x p.low)) (once pair p.high high p.knows_high a)
          ∙ ap (λ x. terms.number (number_of high x)) (once (suc pair) p.low low p.knows_low b) in
          (ap value is ∙ fits, ap variables_of is);
      has_term = λ z e. (terms.number (number_of high low), integer pair high low a b);
    }
    end_yields place v (of_half bits) = nothing_yields (Half bits) (half_has_none P s bits)
    end_yields place v (of_literal node base z fits at) = record {
      of_term = λ t known. elim (node_cases P s node base t known) [
        | inl number ↦
            let shape = sym number.1 ∙ at in
            let same : number.0 ≡ z = cc in
            let is : t ≡ terms.number z = number.2 ∙ ap (λ x. terms.number x) same in
            (ap value is ∙ fits, ap variables_of is)
        | inr made ↦ let shape = sym at ∙ made.shape in absurd (cc)
      ];
      has_term = λ y e. (terms.number z, literal node base z at);
    }

-- a reference without parts stays one as more is known
pub end_later : (P : NamedProgram) (s t : Seen) (place : Ref) (v : Option ℤ) → ((p : ℕ) (q : Ref) → Knows s p q → Knows t p q)
    → IsEnd P s place v → IsEnd P t place v
end_later P s t place v knows (of_pair pair high low a b fits) = of_pair pair high low (knows pair high a) (knows (suc pair) low b) fits
end_later P s t place v knows (of_half bits) = of_half bits
end_later P s t place v knows (of_literal node base z fits at) = of_literal node base z fits at

-- and a part comes to what it came to
pub come_later : (s t : Seen) (part : Ref) (by : Option ℕ) (place : Ref) → ((p : ℕ) (q : Ref) → Knows s p q → Knows t p q) → IsComeTo s part by place
    → IsComeTo t part by place
come_later s t part None place knows come = come
come_later s t part (Some cell) place knows come = (leads_later s t part (Cell cell) knows come.0, knows cell place come.1)
