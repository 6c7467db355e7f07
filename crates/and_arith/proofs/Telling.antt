-- What a look at an expression tells.
use Rattle.std.proofs.Common.{ℕ, ℤ, suc, ◌≡◌, ◌≢◌, inl, inr, List, [], ◌∷◌, ◌++◌, map, length, get_or, Some, refl, ap, sym, ◌∙◌, subst, arith, FitsSigned, w64}
use Rattle.std.specs.Prelude.{Contains}
use Rattle.and_model.specs.Terms.{Term, variables_of, variables_in}
use Rattle.and_model.specs.Arithmetic.{operated}
use Rattle.and_model.specs.declared.numbers.NameNo.{NameNo}
use Rattle.and_model.specs.declared.numbers.NodeNo.{NodeNo}
use Rattle.and_model.specs.declared.reference.Ref.{Ref}
use Rattle.and_model.specs.declared.reference.Ref.TheVariants as reference
use Rattle.and_program.specs.Shown.{shown, arguments_in}
use Rattle.and_program.specs.Loaded.{shape_at, arguments_at}
use Rattle.and_program.specs.declared.node.NodeKind.TheVariants as kind
use Rattle.and_program.specs.Skeletons.{AllFall}
use Rattle.and_cells.specs.Ranges.{NamedProgram, IsInRange}
use Rattle.and_cells.specs.Rows.{IsSound, plain}
use Rattle.and_cells.specs.Seen.{Seen, LeadsTo, IsWrittenIfNumber, word_at}
use Rattle.and_cells.specs.Numbers.{number_of}
use Rattle.and_cells.specs.Parts.{part_at, parts_of}
use Rattle.and_cells.proofs.PlainRows.{plain_reads_number}
use Rattle.and_cells.proofs.Among.{among_first, among_more}
use Rattle.and_value_laws.specs.Values.{Reaches, whole, set, part, KnownAs, AllKnownAs, IsFirstFree, HasValue}
use Rattle.and_arith.specs.Glances.{IsNumber, IsTold, IsGivenBy, IsOfTwo}
use Rattle.and_arith.specs.declared.values.Valued.{Valued}
use Rattle.and_arith.specs.declared.values.Valued.TheVariants as valued
use Rattle.and_value_laws.proofs.KnownTerms.{IsOnce, cell_cases, all_first, all_none}
use Rattle.and_arith.proofs.Yielding.{Yields, AllYield, made_of_parts, structure_yields, same_yields, leads_same, end_yields}
use Rattle.and_arith.proofs.Stepping.{literal_ends, pair_ends, structure_shown}
use Rattle.and_arith.proofs.Covering.{reaches_on}
use Rattle.and_arith.proofs.Ranging.{part_in_range, part_written}

-- a row has one word at a place
row_once : (row : List Ref) → IsOnce (plain row)
row_once row place q r a b = sym a.0 ∙ b.0

module _ (P : NamedProgram) (s : Seen) where
  -- a number, by what a reference yields, and the other way round
  yields_number : (r : Ref) (z : ℤ) → Yields P s r (Some z) → IsNumber P s r z
  yields_number r z y = record { term = y.has_term z refl; each = y.of_term }

  number_yields : (r : Ref) (z : ℤ) → IsNumber P s r z → Yields P s r (Some z)
  number_yields r z n = record { of_term = n.each; has_term = λ y e. n.term }

  -- what a reference that is reached leads to is reached
  reaches_through : (r q to : Ref) → Reaches P s r q → Reaches P s q to → Reaches P s r to
  reaches_through r q to first (whole x e) = subst (Reaches P s r) (sym e) first
  reaches_through r q to first (set cell x rest knows) = set cell x (reaches_through r q (reference.Cell cell) first rest) knows
  reaches_through r q to first (part node base x rest among) = part node base x (reaches_through r q (reference.Node node base) first rest) among

module _ (P : NamedProgram) (row : List Ref) (node : NodeNo) (base name : ℕ) (one other : Ref) (two : IsOfTwo P node base name one other) where
  -- the terms of both parts, whose variables are those of the whole
  parts_known : (t : Term) → KnownAs P (plain row) (reference.Node node base) t
      → (u : Term) × (v : Term) × KnownAs P (plain row) one u × KnownAs P (plain row) other v
      × (variables_of t ≡ variables_of u ++ (variables_of v ++ []))
  parts_known t known =
      let made = made_of_parts P (plain row) node base t two.is known in
      let first = all_first P (plain row) one (other ∷ []) made.0 (subst (λ rs. AllKnownAs P (plain row) rs made.0) two.both made.1) in
      let second = all_first P (plain row) other [] first.1 first.4 in
      let none = all_none P (plain row) second.1 second.4 in (
        first.0,
        second.0,
        first.3,
        second.3,
        ap variables_of made.2 ∙ ap variables_in first.2 ∙ ap (λ ts. variables_of first.0 ++ variables_in ts) second.2
            ∙ ap (λ ts. variables_of first.0 ++ (variables_of second.0 ++ variables_in ts)) none,
      )

  part_reached : (q cell : _) → Contains (one ∷ other ∷ []) q → Reaches P (plain row) q (reference.Cell cell)
      → Reaches P (plain row) (reference.Node node base) (reference.Cell cell)
  part_reached q cell among reaches =
      let here = reference.Node node base in
      reaches_through P (plain row) here q (reference.Cell cell)
      (part node base q (whole here refl) (subst (λ rs. Contains rs q) (sym two.both) among)) reaches

  -- What the first part tells, unless it is a number.
  pub left_told : (v : Valued) → ((z : ℤ) → v ≢ valued.Number z) → IsTold P row one v → IsTold P row (reference.Node node base) v
  left_told (valued.Number z) other_than told = absurd (other_than z refl)
  left_told valued.NoValue other_than told = tt
  left_told (valued.Waits cell) other_than told = (
    told.0,
    part_reached one cell (among_first one (other ∷ [])) told.1,
    (λ t known.
        let k = parts_known t known in
        let own = told.2 k.0 k.2 in
        (own.0 ++ (variables_of k.1 ++ []), k.4 ∙ ap (λ xs. xs ++ (variables_of k.1 ++ [])) own.1)),
  )
  left_told valued.PutOff other_than told = tt
  left_told valued.Memory other_than told = tt

  -- What the second tells, unless it is a number, where the first is one.
  pub right_told : (x : ℤ) → IsNumber P (plain row) one x → (v : Valued) → ((z : ℤ) → v ≢ valued.Number z) → IsTold P row other v
      → IsTold P row (reference.Node node base) v
  right_told x first (valued.Number z) other_than told = absurd (other_than z refl)
  right_told x first valued.NoValue other_than told = tt
  right_told x first (valued.Waits cell) other_than told = (
    told.0,
    part_reached other cell (among_more one other (other ∷ []) (among_first other [])) told.1,
    (λ t known.
        let k = parts_known t known in
        let own = told.2 k.1 k.3 in (
          own.0 ++ [],
          k.4 ∙ ap (λ xs. xs ++ (variables_of k.1 ++ [])) (first.each k.0 k.2).1 ∙ ap (λ xs. xs ++ []) own.1,
        )),
  )
  right_told x first valued.PutOff other_than told = tt
  right_told x first valued.Memory other_than told = tt

  -- What both tell that are numbers.
  pub both_told : (x y : ℤ) → IsNumber P (plain row) one x → IsNumber P (plain row) other y → (v : Valued) → IsGivenBy name x y v
      → IsTold P row (reference.Node node base) v
  both_told x y first second (valued.Number z) given =
      let here = reference.Node node base in
      let all : AllYield P (plain row) (parts_of P here) (Some x ∷ Some y ∷ []) = subst (λ rs. AllYield P (plain row) rs (Some x ∷ Some y ∷ [])) (sym two.both)
      (number_yields P (plain row) one x first, (number_yields P (plain row) other y second, tt)) in
      yields_number P (plain row) here z
      (subst (Yields P (plain row) here) (ap (λ n. operated n (Some x ∷ Some y ∷ [])) (sym two.called) ∙ given)
      (structure_yields P (plain row) node base two.is (Some x ∷ Some y ∷ []) all))
  both_told x y first second valued.NoValue given = tt
  both_told x y first second (valued.Waits cell) given = absurd given
  both_told x y first second valued.PutOff given = tt
  both_told x y first second valued.Memory given = tt

-- Both parts are in range, and no numbers in pairs.
pub parts_fit : (P : NamedProgram) (row : List Ref) (expression : Ref) (node : NodeNo) (base name : ℕ) (one other : Ref) → AllFall 0 P.skeleton.nodes
    → IsOfTwo P node base name one other → expression ≡ reference.Node node base → IsInRange P (length row) expression
    → (IsInRange P (length row) one × IsWrittenIfNumber (plain row) one) × (IsInRange P (length row) other × IsWrittenIfNumber (plain row) other)
parts_fit P row expression node base name one other fall two is fits =
    let here = subst (IsInRange P (length row)) is fits in
    let left : Contains (parts_of P (reference.Node node base)) one = subst (λ rs. Contains rs one) (sym two.both) (among_first one (other ∷ [])) in
    let right : Contains (parts_of P (reference.Node node base)) other =
    subst (λ rs. Contains rs other) (sym two.both) (among_more one other (other ∷ []) (among_first other [])) in (
      (part_in_range P fall (length row) node base one here left, part_written P (plain row) node base one left),
      (part_in_range P fall (length row) node base other here right, part_written P (plain row) node base other right),
    )

-- a list of two
two_of : (ms : List ℕ) → length ms ≡ 2 → ms ≡ get_or ms 0 0 ∷ get_or ms 1 0 ∷ []
two_of [] e = absurd (omega arith)
two_of (m ∷ []) e = absurd (omega arith)
two_of (m ∷ k ∷ []) e = refl
two_of (m ∷ k ∷ j ∷ ms) e = absurd (omega arith)

-- The arguments of a node that shows a name with two.
pub of_two_parts : (N P : NamedProgram) (node : NodeNo) (base : ℕ) (name : NameNo) (count : ℕ) (one other : Ref) → N ≡ P
    → kind.Compound name count ≡ shown (shape_at P.skeleton node.0) → count ≡ 2
    → one ≡ part_at P base (get_or (arguments_at P.skeleton node.0) 0 0) → other ≡ part_at P base (get_or (arguments_at P.skeleton node.0) 1 0)
    → IsOfTwo N node base name.0 one other
of_two_parts N P node base name count one other same shows is_two first second =
    let s = structure_shown P node name count (shape_at P.skeleton node.0) refl (omega (arith, is_two)) shows in
    let arguments : List ℕ = arguments_at P.skeleton node.0 in
    let own : arguments ≡ s.0.arguments = ap arguments_in s.0.shape in
    let counted : length arguments ≡ 2 = ap length own ∙ sym s.2 ∙ is_two in
    let found : parts_of P (reference.Node node base) ≡ one ∷ other ∷ [] = ap (map (part_at P base)) (two_of arguments counted)
    ∙ ap (λ (r : Ref). r ∷ part_at P base (get_or arguments 1 0) ∷ []) (sym first) ∙ ap (λ (r : Ref). one ∷ r ∷ []) (sym second) in
    subst (λ (Q : NamedProgram). IsOfTwo Q node base name.0 one other) (sym same) (record { is = s.0; called = s.1; both = found })

-- A node that shows a number.
pub literal_told : (N P : NamedProgram) (row : List Ref) (node : NodeNo) (base : ℕ) (at : Ref) (z y : ℤ) → N ≡ P → at ≡ reference.Node node base
    → FitsSigned w64 z → y ≡ z → kind.Number z ≡ shown (shape_at P.skeleton node.0) → IsTold N row at (valued.Number y)
literal_told N P row node base at z y same is fits read shows =
    let here = reference.Node node base in
    let own : IsNumber P (plain row) here z = yields_number P (plain row) here z
    (end_yields P (plain row) (row_once row) here (Some z) (literal_ends P (plain row) node base z fits shows)) in
    subst (λ (Q : NamedProgram). IsNumber Q (plain row) at y) (sym same)
    (subst (λ (r : Ref). IsNumber P (plain row) r y) (sym is) (subst (λ (x : ℤ). IsNumber P (plain row) here x) (sym read) own))

-- A pair of words that was read.
pub pair_told : (P : NamedProgram) (row : List Ref) (pair : ℕ) (at : Ref) (z y : ℤ) → IsSound P row → at ≡ reference.Number pair
    → IsWrittenIfNumber (plain row) at → FitsSigned w64 z → y ≡ z → z ≡ number_of (word_at row pair) (word_at row (suc pair))
    → IsTold P row at (valued.Number y)
pair_told P row pair at z y sound is written fits read holds =
    let here = reference.Number pair in
    let reads = plain_reads_number P row pair (suc pair) (word_at row pair) (word_at row (suc pair)) z sound refl (written pair is) refl refl holds in
    let own : IsNumber P (plain row) here z = yields_number P (plain row) here z
    (end_yields P (plain row) (row_once row) here (Some z) (pair_ends P (plain row) (plain row) pair z fits reads)) in
    subst (λ (r : Ref). IsNumber P (plain row) r y) (sym is) (subst (λ (x : ℤ). IsNumber P (plain row) here x) (sym read) own)

-- A free cell.
pub free_told : (P : NamedProgram) (row : List Ref) (cell : ℕ) (at : Ref) → at ≡ reference.Cell cell → word_at row cell ≡ reference.Free
    → IsTold P row at (valued.Waits cell)
free_told P row cell at is free =
    let here = reference.Cell cell in
    let first : IsFirstFree P (plain row) here cell = λ t known. elim (cell_cases P (plain row) cell t known) [
      | inl own ↦ ([], ap variables_of own.1)
      | inr taken ↦ absurd (taken.1.1 (sym taken.1.0 ∙ free))
    ] in
    subst (λ (r : Ref). IsTold P row r (valued.Waits cell)) (sym is) (free, whole here refl, first)

-- What the end of a chain tells, the chain tells.
pub chain_told : (P : NamedProgram) (row : List Ref) (r end : Ref) (v : Valued) → LeadsTo (plain row) r end → IsTold P row end v → IsTold P row r v
chain_told P row r end (valued.Number z) leads told =
    yields_number P (plain row) r z
    (same_yields P (plain row) r end (Some z) (leads_same P (plain row) (row_once row) r end leads) (number_yields P (plain row) end z told))
chain_told P row r end valued.NoValue leads told = tt
chain_told P row r end (valued.Waits cell) leads told = (
  told.0,
  reaches_through P (plain row) r end (reference.Cell cell) (reaches_on P (plain row) r r end leads (whole r refl)) told.1,
  (λ t known. told.2 t ((leads_same P (plain row) (row_once row) r end leads).onward t known)),
)
chain_told P row r end valued.PutOff leads told = tt
chain_told P row r end valued.Memory leads told = tt

module _ (P : NamedProgram) (row : List Ref) (r : Ref) (v : Valued) where
  -- A value that is told is the expression's.
  pub told_value : (z : ℤ) → v ≡ valued.Number z → IsTold P row r v → HasValue P (plain row) r z
  told_value z is told =
      let n : IsNumber P (plain row) r z = subst (IsTold P row r) is told in
      (n.term.0, n.term.1, (n.each n.term.0 n.term.1).0)

  -- And a cell for which it waits.
  pub told_waits : (cell : ℕ) → v ≡ valued.Waits cell → IsTold P row r v
      → (word_at row cell ≡ reference.Free) × Reaches P (plain row) r (reference.Cell cell) × IsFirstFree P (plain row) r cell
  told_waits cell is told = subst (IsTold P row r) is told
