-- What made a call one with a clause's head in a row does so in later rows, while the cells are free that this set or looked at.
use Rattle.std.proofs.Common.{ℕ, suc, ◌+◌, ◌≡◌, ◌<◌, ◌≤◌, ◌⊎◌, false, true, true≢false, List, [], ◌∷◌, length, Some}
use Rattle.std.proofs.Common.{refl, sym, ap, ◌∙◌, subst, inl, inr, arith}
use Rattle.std.specs.Prelude.{Contains}
use Rattle.std.proofs.lemmas.Bool.{cases_lt}
use Rattle.std.proofs.lemmas.Option.{same_Some}
use Rattle.std.proofs.lemmas.List.Elements.{All-contains}
use Rattle.and_model.specs.Terms.{Path, Term, number, variable, variables_of, is_ground, Substitution, apply, framed}
use Rattle.and_model.specs.Solutions.{Equation, Solves}
use Rattle.and_model.specs.Store.{is_half}
use Rattle.and_model.specs.declared.reference.Ref.{Ref}
use Rattle.and_model.specs.declared.reference.Ref.TheVariants.{Free, Cell}
use Rattle.and_program.specs.Skeletons.{node_term}
use Rattle.and_laws.proofs.Equality.{bool_cases}
use Rattle.and_laws.proofs.Ordered.{contains_first, contains_cases, contains_none}
use Rattle.and_laws.proofs.Solving.{solves_then}
use Rattle.and_laws.proofs.Substitutions.{then, apply_then, same, apply_same, apply_ground}
use Rattle.and_cells.specs.Ranges.{NamedProgram}
use Rattle.and_cells.specs.Rows.{IsSound}
use Rattle.and_cells.specs.Seen.{word_at, Grows, AreFree}
use Rattle.and_cells.specs.Numbers.{number_of}
use Rattle.and_cells.specs.Joined.{value}
use Rattle.and_cells.specs.Meaning
use Rattle.and_cells.specs.Meaning.{StandsFor, Holds, IsSettled, cell_variable, equations_of}
use Rattle.and_cells.specs.Solved.{IsMostGeneral}
use Rattle.and_cells.proofs.OneTerm.{one_term, apply_agree}
use Rattle.and_cell_laws.proofs.Between.{set_agrees}
use Rattle.and_cell_laws.proofs.Settling.{settled_rows_have_terms}
use Rattle.and_cell_laws.proofs.Structures.{in_frame, value_of_node}
use Rattle.and_cell_laws.proofs.TermsOfRows.{stands_whole, cell_is_below, cell_is_whole, rows_with_terms_are_solutions}
use Rattle.and_branch_laws.specs.Variables.{cells_from, placed}
use Rattle.and_branch_laws.specs.Judging.{outside}
use Rattle.and_branch_laws.specs.Running.{IsRead}
use Rattle.and_branch_laws.proofs.Speaking.{variables_applied}
use Rattle.and_unify.specs.Setting.{HaveBeenSet}
use Rattle.and_determinacy.specs.Watching.{HaveWhatWasSet}
use Rattle.and_guards.proofs.Held.{variable_is_held, image_has}
use Rattle.and_determinacy.proofs.Growing.{IsNumberSet}
use Rattle.and_guards.proofs.Reading.{AreWhole}
use Rattle.and_guards.proofs.Listed.{among_or_not}
use Rattle.and_guards.proofs.Valuing.{has_no_variable}
use Rattle.and_guards.proofs.Widening.{solved_alike}

-- ---- Terms in rows

-- the variable is a free cell of the row
abbrev IsFreeCell : List Ref → Path × ℕ → Type 0
IsFreeCell row v = (v.0 ≡ []) × (v.1 < length row) × (word_at row v.1 ≡ Free)

-- So is each variable of what a reference stands for.
free_variable : (P : NamedProgram) (row : List Ref) (r : Ref) (t : Term) → StandsFor P row r t → (v : Path × ℕ)
    → Contains (variables_of t) v → IsFreeCell row v
free_variable P row r t (Meaning.unbound cell below free) v c = elim (contains_cases ([], cell) v [] c) [
  | inl e ↦ subst (IsFreeCell row) (sym e) (refl, below, free)
  | inr none_left ↦ absurd (contains_none v none_left)
]
free_variable P row r t (Meaning.bound cell q u set rest) v c = free_variable P row q u rest v c
free_variable P row r t (Meaning.structure node base s all) v c =
    let found = variables_applied s (node_term P.skeleton.nodes node.0) v c in
    let w = found.0 in
    free_variable P row (Cell (base + 1 + w.1)) (s w.0 w.1) (all w found.1) v found.2
free_variable P row r t (Meaning.integer pair) v c = absurd (contains_none v c)

-- a free cell stays a variable
pub variable_given : (P : NamedProgram) (row : List Ref) (es : List Equation) (g : IsMostGeneral P row es) (cell : ℕ) → cell < length row
    → word_at row cell ≡ Free → g.solution [] cell ≡ cell_variable cell
variable_given P row es g cell below free =
    one_term P row (Cell cell) (g.solution [] cell) (cell_variable cell) (g.of_cells cell below (ap is_half free))
    (Meaning.unbound cell below free)

-- What solves a later row gives each cell what it makes of the term for which the cell stood.
module _ (P : NamedProgram) (row later : List Ref) (sound : IsSound P row) (grows : Grows row later) (t : Substitution)
    (solves : Solves t (equations_of P later)) where
  value_later : (r : Ref) (u : Term) → StandsFor P row r u → IsNumberSet row r → value P (word_at later) t r ≡ Some (apply t u)
  value_later r u (Meaning.unbound cell below free) written = refl
  value_later r u (Meaning.bound cell q w set rest) written =
      set_agrees P later t cell q solves (grows.set cell q set) (stands_whole P row q w rest)
      ∙ value_later q w rest (λ pair e. sound.written cell pair (set.0 ∙ e))
  value_later r u (Meaning.structure node base z all) written =
      let body : Term = node_term P.skeleton.nodes node.0 in
      let agree : apply (in_frame t base) body ≡ apply (then z t) body =
      apply_agree (in_frame t base) (then z t) body (λ v c. same_Some (t [] (base + 1 + v.1)) (apply t (z v.0 v.1))
      (value_later (Cell (base + 1 + v.1)) (z v.0 v.1) (all v c) (λ pair e. absurd (cc)))) in
      value_of_node P (word_at later) t node base ∙ ap (λ (x : Term). Some x) (agree ∙ sym (apply_then z t body))
  value_later r u (Meaning.integer pair) written =
      let both = written pair refl in
      let high : word_at later pair ≡ word_at row pair = (grows.set pair (word_at row pair) (refl, both.0)).0 in
      let low : word_at later (suc pair) ≡ word_at row (suc pair) = (grows.set (suc pair) (word_at row (suc pair)) (refl, both.1)).0 in
      ap (λ (x : Ref). Some (number (number_of x (word_at later (suc pair))))) high
      ∙ ap (λ (x : Ref). Some (number (number_of (word_at row pair) x))) low

  given_later : (cell : ℕ) (u : Term) → StandsFor P row (Cell cell) u → t [] cell ≡ apply t u
  given_later cell u stands = same_Some (t [] cell) (apply t u) (value_later (Cell cell) u stands (λ pair e. absurd (cc)))

-- ---- The solution

-- what the substitution gives a cell below the floor, and the cell itself from there on
at_place : (floor : ℕ) → Substitution → (k : ℕ) → (k < floor) ⊎ (floor ≤ k) → Term
at_place floor s k (inl low) = s [] k
at_place floor s k (inr past) = cell_variable k

below : (floor : ℕ) → Substitution → Substitution
below floor s q k = at_place floor s k (cases_lt k floor)

below_low : (floor : ℕ) (s : Substitution) (k : ℕ) → k < floor → below floor s [] k ≡ s [] k
unfolding below at_place
below_low floor s k low = go (cases_lt k floor)
  where
    go : (d : (k < floor) ⊎ (floor ≤ k)) → at_place floor s k d ≡ s [] k
    go (inl lower) = refl
    go (inr past) = absurd (omega arith)

below_past : (floor : ℕ) (s : Substitution) (k : ℕ) → floor ≤ k → below floor s [] k ≡ cell_variable k
unfolding below at_place
below_past floor s k past = go (cases_lt k floor)
  where
    go : (d : (k < floor) ⊎ (floor ≤ k)) → at_place floor s k d ≡ cell_variable k
    go (inl lower) = absurd (omega arith)
    go (inr other) = refl

-- Cells have what the second gives them, under the first; the variables of the frame outside what the first gives the cells behind the
-- floor, where cells below it have what both give.
fitted : (floor : ℕ) → (first second : Substitution) → Substitution
fitted floor first second [] k = apply first (second [] k)
fitted floor first second (n ∷ q) k = apply (below floor (then second first)) (first [] (floor + 1 + k))

-- ---- What was set, and what later rows make of it

-- A call was made one with a clause's head behind the row, as these equations ask. What that set, and what it was set to, is among the cells.
pub record Tried (P : NamedProgram) (row wide new : List Ref) (bound cells : List ℕ) (es : List Equation) (base : ℕ) (call head : Term) : Type 0 where
  pub sound : IsSound P row
  pub settled : IsSettled P row
  pub longer : length row ≤ length wide
  pub words : (place : ℕ) → word_at wide place ≡ word_at row place
  pub whole : AreWhole row base call
  pub set : HaveBeenSet wide new bound
  pub halves : (cell : ℕ) → is_half (word_at new cell) ≡ true → is_half (word_at wide cell) ≡ true
  pub general : IsMostGeneral P new es
  pub states : Solves general.solution (equations_of P row)
  pub one : apply general.solution (placed base call) ≡ apply general.solution (placed (length row) head)
  pub has : HaveWhatWasSet P new (length row) bound cells

module _ (P : NamedProgram) (row wide new : List Ref) (bound cells : List ℕ) (es : List Equation) (base : ℕ) (call head : Term)
    (tried : Tried P row wide new bound cells es base call head) (later : List Ref) (grows : Grows row later) (later_sound : IsSound P later)
    (later_settled : IsSettled P later) (free : AreFree later cells) where
  now : IsMostGeneral P row (equations_of P row)
  now = rows_with_terms_are_solutions P row tried.sound ((settled_rows_have_terms P row tried.sound).0 tried.settled)

  then_later : IsMostGeneral P later (equations_of P later)
  then_later = rows_with_terms_are_solutions P later later_sound ((settled_rows_have_terms P later later_sound).0 later_settled)

  abbrev first : Substitution
  first = tried.general.solution

  abbrev second : Substitution
  second = then_later.solution

  abbrev low : Substitution
  low = below (length row) (then second first)

  new_long : length row ≤ length new
  new_long = let longer = tried.longer in let words = tried.set.words in omega arith

  -- a free cell among the cells is one in the later row
  later_variable : (cell : ℕ) → cell < length row → Contains cells cell → second [] cell ≡ cell_variable cell
  later_variable cell under c =
      let long = grows.longer in
      variable_given P later (equations_of P later) then_later cell (omega arith)
      (All-contains (λ (x : ℕ). word_at later x ≡ Free) cells cell free c)

  new_variable : (cell : ℕ) → cell < length new → word_at new cell ≡ Free → first [] cell ≡ cell_variable cell
  new_variable cell under is = variable_given P new es tried.general cell under is

  -- A free cell of the new row stays, if it is behind the floor or among the cells.
  unmoved : (u : Path × ℕ) → IsFreeCell new u → (u.1 < length row → Contains cells u.1) → low u.0 u.1 ≡ variable u.0 u.1
  unmoved u is among = subst (λ (q : Path). low q u.1 ≡ variable q u.1) (sym is.0) (elim (cases_lt u.1 (length row)) [
    | inl under ↦
        below_low (length row) (then second first) u.1 under ∙ ap (apply first) (later_variable u.1 under (among under))
        ∙ new_variable u.1 is.1 is.2
    | inr past ↦ below_past (length row) (then second first) u.1 past
  ])

  -- a cell that was set is no half
  set_whole : (b : ℕ) → word_at row b ≡ Free → is_half (word_at new b) ≡ false
  set_whole b was = elim (bool_cases (is_half (word_at new b))) [
    | inl e ↦ absurd (true≢false (sym (tried.halves b e) ∙ ap is_half (tried.words b ∙ was)))
    | inr e ↦ e
  ]

  -- So the term of a cell that was set stays,
  set_unmoved : (b : ℕ) → b < length row → word_at row b ≡ Free → Contains bound b → apply low (first [] b) ≡ first [] b
  set_unmoved b under was c =
      let stands : StandsFor P new (Cell b) (first [] b) = tried.general.of_cells b (omega (arith, new_long)) (set_whole b was) in
      apply_agree low same (first [] b) (λ u i.
      let is : IsFreeCell new u = free_variable P new (Cell b) (first [] b) stands u i in
      let held : Holds P new (Cell b) u.1 = variable_is_held P new (Cell b) (first [] b) stands u i in
      unmoved u is ((tried.has b c under).1 u.1 held is.2))
      ∙ apply_same (first [] b)

  -- and each free cell of the row has what the new row gives it.
  of_free : (v : ℕ) → v < length row → word_at row v ≡ Free → apply first (second [] v) ≡ apply low (first [] v)
  of_free v under was = elim (among_or_not bound v) [
    | inl c ↦ ap (apply first) (later_variable v under (tried.has v c under).0) ∙ sym (set_unmoved v under was c)
    | inr none ↦
        let is : first [] v ≡ cell_variable v = new_variable v (omega (arith, new_long)) (tried.set.others v none ∙ tried.words v ∙ was) in
        sym (below_low (length row) (then second first) v under) ∙ sym (ap (apply low) is)
  ]

  of_cell : (x : ℕ) → x < length row → is_half (word_at row x) ≡ false → apply first (second [] x) ≡ apply low (first [] x)
  of_cell x under whole =
      let t : Term = now.solution [] x in
      let stands : StandsFor P row (Cell x) t = now.of_cells x under whole in
      ap (apply first) (given_later P row later tried.sound grows second then_later.most_general.0 x t stands)
      ∙ apply_then second first t
      ∙ apply_agree (then second first) (then first low) t (λ u i.
      let is : IsFreeCell row u = free_variable P row (Cell x) t stands u i in
      subst (λ (q : Path). then second first q u.1 ≡ then first low q u.1) (sym is.0) (of_free u.1 is.1 is.2))
      ∙ sym (apply_then first low t)
      ∙ sym (ap (apply low) (now.most_general.1 first tried.states [] x))

  -- ---- The call and the clause

  pub both : Substitution
  both = fitted (length row) tried.general.solution then_later.solution

  -- a term of the clause in the frame outside is what the new row makes of it, with what later rows give
  both_outside : (t : Term) → apply both (framed outside t) ≡ apply low (apply first (placed (length row) t))
  unfolding both fitted
  both_outside t =
      apply_then (λ q k. variable outside k) both t
      ∙ sym (apply_then (cells_from (length row)) (then first low) t)
      ∙ sym (apply_then first low (placed (length row) t))

  -- and so is the call.
  both_call : apply both (placed base call) ≡ apply low (apply first (placed base call))
  unfolding both fitted
  both_call =
      apply_then (cells_from base) both call
      ∙ apply_agree (then (cells_from base) both) (then (cells_from base) (then first low)) call
      (λ v c. of_cell (base + 1 + v.1) (tried.whole v c).0 (tried.whole v c).1)
      ∙ sym (apply_then (cells_from base) (then first low) call)
      ∙ sym (apply_then first low (placed base call))

  both_later : Solves both (equations_of P later)
  unfolding both fitted
  both_later = solved_alike P later (then second first) both later_sound (λ cell under. refl)
      (solves_then second first (equations_of P later) then_later.most_general.0)

  -- So what makes the call one with the head in the new row does in the later one.
  pub both_solve : Solves both ((placed base call, framed outside head) ∷ equations_of P later)
  both_solve = (both_call ∙ ap (apply low) tried.one ∙ sym (both_outside head), both_later)

  -- ---- Terms that the clause reads

  -- what a term reads as in the new row
  both_read : (t u : Term) → IsRead P new (length row) t u → apply both (framed outside t) ≡ apply low u
  both_read t u r =
      both_outside t
      ∙ ap (apply low) (apply_then (cells_from (length row)) first t
      ∙ apply_agree (then (cells_from (length row)) first) r.values t (λ v c.
      let cell : ℕ = length row + 1 + v.1 in
      let x : Term = r.values v.0 v.1 in
      let stands : StandsFor P new (Cell cell) x = r.cells v c in
      one_term P new (Cell cell) (first [] cell) x
      (tried.general.of_cells cell (cell_is_below P new cell x stands) (cell_is_whole P new cell x stands)) stands)
      ∙ sym r.reads)

  -- A ground one is that,
  pub both_ground : (t u : Term) → IsRead P new (length row) t u → is_ground u ≡ true → apply both (framed outside t) ≡ u
  both_ground t u r ground = both_read t u r ∙ apply_ground low u ground

  -- and one with a cell from the floor on, or among the cells, does not become ground.
  pub both_wait : (t u : Term) (cell : ℕ) → IsRead P new (length row) t u → Contains (variables_of u) ([], cell)
      → (cell < length row → Contains cells cell) → is_ground (apply both (framed outside t)) ≡ true → ⊥
  both_wait t u cell r c among ground =
      let (w, at, inside) = variables_applied r.values t ([], cell) (subst (λ (x : Term). Contains (variables_of x) ([], cell)) r.reads c) in
      let is : IsFreeCell new ([], cell) =
      free_variable P new (Cell (length row + 1 + w.1)) (r.values w.0 w.1) (r.cells w at) ([], cell) inside in
      let there : Contains (variables_of (low [] cell)) ([], cell) =
      subst (λ (x : Term). Contains (variables_of x) ([], cell)) (sym (unmoved ([], cell) is among)) (contains_first ([], cell) []) in
      has_no_variable (apply low u) (subst (λ (x : Term). is_ground x ≡ true) (both_read t u r) ground) ([], cell)
      (image_has low u ([], cell) ([], cell) c there)
