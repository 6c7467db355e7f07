-- The terms of references under what is known.
use Rattle.std.proofs.Common.{ℕ, ℤ, suc, ◌≡◌, ◌≢◌, ◌⊎◌, inl, inr, List, [], ◌∷◌, map, refl, ap, sym, ◌∙◌, subst}
use Rattle.and_model.specs.Terms as terms
use Rattle.and_model.specs.Terms.{Path, Term, Terms, variables_of, variables_in}
use Rattle.and_model.specs.declared.numbers.NodeNo.{NodeNo}
use Rattle.and_model.specs.declared.reference.Ref.{Ref}
use Rattle.and_model.specs.declared.reference.Ref.TheVariants.{Free, Cell, Node, Number, Half}
use Rattle.and_program.specs.Skeletons as shapes
use Rattle.and_program.specs.Loaded.{shape_at}
use Rattle.and_cells.specs.Ranges.{NamedProgram}
use Rattle.and_cells.specs.Seen.{Seen, Knows}
use Rattle.and_cells.specs.Numbers.{number_of}
use Rattle.and_cells.specs.Meaning.{cell_variable}
use Rattle.and_cells.specs.Parts.{part_at}
use Rattle.and_value_laws.specs.Values.{KnownAs, AllKnownAs, unbound, bound, integer, literal, structure, no_parts, more_parts}

-- no place is known to be set to two words
abbrev pub IsOnce : Seen → Type 0
IsOnce s = (place : ℕ) (q r : Ref) → Knows s place q → Knows s place r → q ≡ r

-- More may be known than before, and no place twice.
pub record Extends (s t : Seen) : Type 0 where
  pub knows : (place : ℕ) (r : Ref) → Knows s place r → Knows t place r
  pub once : IsOnce t

-- both words of a pair are known to be set to these
pub record IsPair (s : Seen) (pair : ℕ) (t : Term) : Type 0 where
  pub high : Ref
  pub low : Ref
  pub knows_high : Knows s pair high
  pub knows_low : Knows s (suc pair) low
  pub is : t ≡ terms.number (number_of high low)

-- a structure's term is its name over those of its parts
pub record IsMadeOf (P : NamedProgram) (s : Seen) (node : NodeNo) (base : ℕ) (t : Term) : Type 0 where
  pub name : ℕ
  pub arguments : List ℕ
  pub terms_of : Terms
  pub shape : shape_at P.skeleton node.0 ≡ shapes.compound name arguments
  pub parts : AllKnownAs P s (map (part_at P base) arguments) terms_of
  pub is : t ≡ terms.compound name terms_of

-- what a node's term is: a number, or a structure's
abbrev pub NodeCases : NamedProgram → Seen → NodeNo → (base : ℕ) → Term → Type 0
NodeCases P s node base t = ((z : ℤ) × (shape_at P.skeleton node.0 ≡ shapes.number z) × (t ≡ terms.number z)) ⊎ IsMadeOf P s node base t

-- what a cell's term is: itself, or that of what it is set to
abbrev pub CellCases : NamedProgram → Seen → (cell : ℕ) → Term → Type 0
CellCases P s cell t = (((r : Ref) → Knows s cell r → ⊥) × (t ≡ cell_variable cell)) ⊎ ((r : Ref) × Knows s cell r × KnownAs P s r t)

module _ (P : NamedProgram) (s : Seen) where
  node_cases_at : (r : Ref) (t : Term) (node : NodeNo) (base : ℕ) → r ≡ Node node base → KnownAs P s r t → NodeCases P s node base t
  node_cases_at r t node base e (unbound cell none) = absurd (cc)
  node_cases_at r t node base e (bound cell q u knows rest) = absurd (cc)
  node_cases_at r t node base e (integer pair high low a b) = absurd (cc)
  node_cases_at r t node base e (literal n b z at) =
      let same : n ≡ node = cc in inl (z, subst (λ (m : NodeNo). shape_at P.skeleton m.0 ≡ shapes.number z) same at, refl)
  node_cases_at r t node base e (structure n b name arguments ts at parts) =
      let same : n ≡ node = cc in
      let same_base : b ≡ base = cc in
      inr (record {
        name = name;
        arguments = arguments;
        terms_of = ts;
        shape = subst (λ (m : NodeNo). shape_at P.skeleton m.0 ≡ shapes.compound name arguments) same at;
        parts = subst (λ (x : ℕ). AllKnownAs P s (map (part_at P x) arguments) ts) same_base parts;
        is = refl;
      })

  pub node_cases : (node : NodeNo) (base : ℕ) (t : Term) → KnownAs P s (Node node base) t → NodeCases P s node base t
  node_cases node base t known = node_cases_at (Node node base) t node base refl known

  cell_cases_at : (r : Ref) (t : Term) (cell : ℕ) → r ≡ Cell cell → KnownAs P s r t → CellCases P s cell t
  cell_cases_at r t cell e (unbound c none) =
      let same : c ≡ cell = cc in inl (subst (λ (x : ℕ). (q : Ref) → Knows s x q → ⊥) same none, ap cell_variable same)
  cell_cases_at r t cell e (bound c q u knows rest) = let same : c ≡ cell = cc in inr (q, subst (λ (x : ℕ). Knows s x q) same knows, rest)
  cell_cases_at r t cell e (integer pair high low a b) = absurd (cc)
  cell_cases_at r t cell e (literal n b z at) = absurd (cc)
  cell_cases_at r t cell e (structure n b name arguments ts at parts) = absurd (cc)

  pub cell_cases : (cell : ℕ) (t : Term) → KnownAs P s (Cell cell) t → CellCases P s cell t
  cell_cases cell t known = cell_cases_at (Cell cell) t cell refl known

  pair_cases_at : (r : Ref) (t : Term) (pair : ℕ) → r ≡ Number pair → KnownAs P s r t → IsPair s pair t
  pair_cases_at r t pair e (unbound c none) = absurd (cc)
  pair_cases_at r t pair e (bound c q u knows rest) = absurd (cc)
  pair_cases_at r t pair e (integer p high low a b) =
      let same : p ≡ pair = cc in
      record {
        high = high;
        low = low;
        knows_high = subst (λ (x : ℕ). Knows s x high) same a;
        knows_low = subst (λ (x : ℕ). Knows s (suc x) low) same b;
        is = refl;
      }
  pair_cases_at r t pair e (literal n b z at) = absurd (cc)
  pair_cases_at r t pair e (structure n b name arguments ts at parts) = absurd (cc)

  pub pair_cases : (pair : ℕ) (t : Term) → KnownAs P s (Number pair) t → IsPair s pair t
  pair_cases pair t known = pair_cases_at (Number pair) t pair refl known

  no_term_at : (r : Ref) (t : Term) → KnownAs P s r t → (r ≢ Free) × ((bits : ℕ) → r ≢ Half bits)
  no_term_at r t (unbound c none) = ((λ e. cc), (λ bits e. cc))
  no_term_at r t (bound c q u knows rest) = ((λ e. cc), (λ bits e. cc))
  no_term_at r t (integer p high low a b) = ((λ e. cc), (λ bits e. cc))
  no_term_at r t (literal n b z at) = ((λ e. cc), (λ bits e. cc))
  no_term_at r t (structure n b name arguments ts at parts) = ((λ e. cc), (λ bits e. cc))

  -- a half has no term
  pub half_has_none : (bits : ℕ) (t : Term) → KnownAs P s (Half bits) t → ⊥
  half_has_none bits t known = (no_term_at (Half bits) t known).1 bits refl

  -- the terms of a list that begins with this one
  pub all_first : (r : Ref) (rs : List Ref) (us : Terms) → AllKnownAs P s (r ∷ rs) us
      → (t : Term) × (ts : Terms) × (us ≡ terms.more t ts) × KnownAs P s r t × AllKnownAs P s rs ts
  all_first r rs us known = at (r ∷ rs) us refl known
    where
      at : (qs : List Ref) (us : Terms) → qs ≡ r ∷ rs → AllKnownAs P s qs us
          → (t : Term) × (ts : Terms) × (us ≡ terms.more t ts) × KnownAs P s r t × AllKnownAs P s rs ts
      at qs us e no_parts = absurd (cc)
      at qs us e (more_parts q t qs' ts first rest) =
          let same : q ≡ r = cc in
          let others : qs' ≡ rs = cc in
          (t, ts, refl, subst (λ x. KnownAs P s x t) same first, subst (λ xs. AllKnownAs P s xs ts) others rest)

  pub all_none : (us : Terms) → AllKnownAs P s [] us → us ≡ terms.none
  all_none us known = at [] us refl known
    where
      at : (qs : List Ref) (us : Terms) → qs ≡ [] → AllKnownAs P s qs us → us ≡ terms.none
      at qs us e no_parts = refl
      at qs us e (more_parts q t rest ts first others) = absurd (cc)

module _ (P : NamedProgram) (s : Seen) (once : IsOnce s) where
  mutual
    -- Under what is known a reference has one term at most.
    pub one_known : (r : Ref) (t u : Term) → KnownAs P s r t → KnownAs P s r u → t ≡ u
    one_known r t u (unbound cell none) other = elim (cell_cases P s cell u other) [ inl free ↦ sym free.1 | inr set ↦ absurd (none set.0 set.1) ]
    one_known r t u (bound cell q v knows rest) other = elim (cell_cases P s cell u other) [
      | inl free ↦ absurd (free.0 q knows)
      | inr set ↦ one_known q v u rest (subst (λ x. KnownAs P s x u) (once cell set.0 q set.1 knows) set.2)
    ]
    one_known r t u (integer pair high low a b) other =
        let p = pair_cases P s pair u other in
        ap (λ x. terms.number (number_of x low)) (once pair high p.high a p.knows_high)
        ∙ ap (λ x. terms.number (number_of p.high x)) (once (suc pair) low p.low b p.knows_low) ∙ sym p.is
    one_known r t u (literal node base z at) other = elim (node_cases P s node base u other) [
      | inl number ↦ let same : z ≡ number.0 = cc in ap (λ x. terms.number x) same ∙ sym number.2
      | inr made ↦ let shape = sym at ∙ made.shape in absurd (cc)
    ]
    one_known r t u (structure node base name arguments ts at parts) other = elim (node_cases P s node base u other) [
      | inl number ↦ let shape = sym at ∙ number.1 in absurd (cc)
      | inr made ↦
          let shape = sym at ∙ made.shape in
          let same_name : name ≡ made.name = cc in
          let same_arguments : made.arguments ≡ arguments = cc in
          let others : AllKnownAs P s (map (part_at P base) arguments) made.terms_of =
          subst (λ ns. AllKnownAs P s (map (part_at P base) ns) made.terms_of) same_arguments made.parts in
          ap (λ n. terms.compound n ts) same_name
          ∙ ap (λ xs. terms.compound made.name xs) (all_one (map (part_at P base) arguments) ts made.terms_of parts others) ∙ sym made.is
    ]

    all_one : (rs : List Ref) (ts us : Terms) → AllKnownAs P s rs ts → AllKnownAs P s rs us → ts ≡ us
    all_one rs ts us no_parts other = sym (all_none P s us other)
    all_one rs ts us (more_parts r t rest others first more) other =
        let w = all_first P s r rest us other in
        ap (λ x. terms.more x others) (one_known r t w.0 first w.3) ∙ ap (λ xs. terms.more w.0 xs) (all_one rest others w.1 more w.4) ∙ sym w.2
