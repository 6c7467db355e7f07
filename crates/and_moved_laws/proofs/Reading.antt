-- What is read of terms in a part is what is read in the whole row, with the cells named anew.
use Rattle.std.proofs.Common.{ℕ, ◌+◌, ◌≡◌, ◌&&◌, Bool, List, [], ◌∷◌, map, refl, sym, ap, ◌∙◌, subst}
use Rattle.std.proofs.Common.{Contains}
use Rattle.std.proofs.lemmas.List.Elements.{Contains-append_left, Contains-append_right}
use Rattle.and_model.specs.Terms.{Path, Term, Terms, Substitution, variable, number, compound, more, apply, apply_all, variables_of, variables_in}
use Rattle.and_model.specs.Terms.{is_ground, are_ground}
use Rattle.and_model.specs.Programs.{Item, arithmetic, Arithmetic, is, compare}
use Rattle.and_model.specs.Closure.{needs}
use Rattle.and_model.specs.Lines.{goal_term}
use Rattle.and_model.specs.Stands.{Framed, item_term}
use Rattle.and_model.specs.declared.reference.Ref.{Ref}
use Rattle.and_model.specs.declared.reference.Ref.TheVariants.{Cell}
use Rattle.and_laws.proofs.Substitutions.{then, apply_then}
use Rattle.and_cells.specs.Ranges.{NamedProgram}
use Rattle.and_cells.specs.Rows.{IsSound}
use Rattle.and_cells.specs.Meaning.{StandsFor, IsSettled, equations_of}
use Rattle.and_cells.specs.Solved.{IsMostGeneral}
use Rattle.and_cells.proofs.OneTerm.{one_term, apply_agree}
use Rattle.and_cell_laws.proofs.Images.{contains_image, contains_origin}
use Rattle.and_cell_laws.proofs.Settling.{settled_rows_have_terms}
use Rattle.and_cell_laws.proofs.TermsOfRows.{cell_is_below, cell_is_whole, rows_with_terms_are_solutions}
use Rattle.and_branch_laws.specs.Running.{IsRead, AreRead}
use Rattle.and_branch_laws.specs.Judging.{NoneIsGround}
use Rattle.and_branch_laws.specs.Kept.{item_at}
use Rattle.and_moved_laws.specs.Parts.{moving, MovesTogether, IsPartOf, IsGoalOfPart, framed_moved}
use Rattle.and_moved_laws.proofs.Standing.{stands_moved, stands_back, sound_part, settled_part}

-- ---- Ground terms

-- Naming cells anew makes no term ground, and leaves each that is.
mutual
  pub moved_ground : (at : ℕ → ℕ) (t : Term) → is_ground (apply (moving at) t) ≡ is_ground t
  moved_ground at (variable [] k) = refl
  moved_ground at (variable (n ∷ q) k) = refl
  moved_ground at (number z) = refl
  moved_ground at (compound c ts) = all_moved_ground at ts

  pub all_moved_ground : (at : ℕ → ℕ) (ts : Terms) → are_ground (apply_all (moving at) ts) ≡ are_ground ts
  all_moved_ground at Terms.none = refl
  all_moved_ground at (more t ts) =
      ap (λ (b : Bool). b && are_ground (apply_all (moving at) ts)) (moved_ground at t)
      ∙ ap (λ (b : Bool). is_ground t && b) (all_moved_ground at ts)

-- ---- Terms that are read

module _ (P : NamedProgram) (at : ℕ → ℕ) (part whole : List Ref) (m : IsPartOf P at part whole) (base : ℕ) where
  -- What is read in the part is read in the whole row, with the cells named anew,
  pub read_there : (t u : Term) → MovesTogether at base t → IsRead P part base t u → IsRead P whole (at base) t (apply (moving at) u)
  read_there t u near r = record {
    values = then r.values (moving at);
    cells = λ v c. subst (λ (cell : ℕ). StandsFor P whole (Cell cell) (apply (moving at) (r.values v.0 v.1))) (near v c)
        (stands_moved P at part whole m (Cell (base + 1 + v.1)) (r.values v.0 v.1) tt (r.cells v c));
    reads = ap (apply (moving at)) r.reads ∙ apply_then r.values (moving at) t;
  }

  pub all_read_there : (ts us : Terms) → ((v : Path × ℕ) → Contains (variables_in ts) v → at (base + 1 + v.1) ≡ at base + 1 + v.1)
      → AreRead P part base ts us → AreRead P whole (at base) ts (apply_all (moving at) us)
  all_read_there Terms.none Terms.none near r = tt
  all_read_there Terms.none (more u us) near r = elim r [ ]
  all_read_there (more t ts) Terms.none near r = elim r [ ]
  all_read_there (more t ts) (more u us) near r = (
    read_there t u (λ v c. near v (Contains-append_left (variables_of t) (variables_in ts) v c)) r.0,
    all_read_there ts us (λ v c. near v (Contains-append_right (variables_of t) (variables_in ts) v c)) r.1,
  )

  module _ (sound : IsSound P whole) (settled : IsSettled P whole) where
    -- the part as a solution of its own equations
    part_general : IsMostGeneral P part (equations_of P part)
    part_general =
        let sound_here : IsSound P part = sound_part P at part whole m sound in
        rows_with_terms_are_solutions P part sound_here
        ((settled_rows_have_terms P part sound_here).0 (settled_part P at part whole m sound settled))

    -- what it gives to variables of a clause whose frame is at the base
    abbrev values_here : Substitution
    values_here q k = let g = part_general in g.solution [] (base + 1 + k)

    abbrev IsReadBack : Term → Term → Type 0
    IsReadBack t u = (w : Term) × IsRead P part base t w × (u ≡ apply (moving at) w)

    -- and the other way round.
    pub read_here : (t u : Term) → MovesTogether at base t → IsRead P whole (at base) t u
        → (w : Term) × IsRead P part base t w × (u ≡ apply (moving at) w)
    read_here t u near r =
        let g = part_general in
        let back : (v : Path × ℕ) → Contains (variables_of t) v
        → (w : Term) × StandsFor P part (Cell (base + 1 + v.1)) w × (r.values v.0 v.1 ≡ apply (moving at) w) = λ v c.
        stands_back P at part whole m (Cell (base + 1 + v.1)) (r.values v.0 v.1) tt
        (subst (λ (cell : ℕ). StandsFor P whole (Cell cell) (r.values v.0 v.1)) (sym (near v c)) (r.cells v c)) in
        let stands : (v : Path × ℕ) → Contains (variables_of t) v → StandsFor P part (Cell (base + 1 + v.1)) (values_here v.0 v.1) = λ v c.
        let (w, here, named) = back v c in
        g.of_cells (base + 1 + v.1) (cell_is_below P part (base + 1 + v.1) w here) (cell_is_whole P part (base + 1 + v.1) w here) in
        let agree : (v : Path × ℕ) → Contains (variables_of t) v → r.values v.0 v.1 ≡ then values_here (moving at) v.0 v.1 = λ v c.
        let (w, here, named) = back v c in
        named ∙ ap (apply (moving at)) (one_term P part (Cell (base + 1 + v.1)) w (values_here v.0 v.1) here (stands v c)) in (
          apply values_here t,
          record { values = values_here; cells = stands; reads = refl },
          r.reads ∙ apply_agree r.values (then values_here (moving at)) t agree ∙ sym (apply_then values_here (moving at) t),
        )

    pub all_read_here : (ts us : Terms) → ((v : Path × ℕ) → Contains (variables_in ts) v → at (base + 1 + v.1) ≡ at base + 1 + v.1)
        → AreRead P whole (at base) ts us → (ws : Terms) × AreRead P part base ts ws × (us ≡ apply_all (moving at) ws)
    all_read_here Terms.none Terms.none near r = (Terms.none, tt, refl)
    all_read_here Terms.none (more u us) near r = elim r [ ]
    all_read_here (more t ts) Terms.none near r = elim r [ ]
    all_read_here (more t ts) (more u us) near r =
        let (w, one, one_is) = read_here t u (λ v c. near v (Contains-append_left (variables_of t) (variables_in ts) v c)) r.0 in
        let (ws, others, others_are) = all_read_here ts us (λ v c. near v (Contains-append_right (variables_of t) (variables_in ts) v c)) r.1 in (
          more w ws,
          (one, others),
          ap (λ (x : Term). more x us) one_is ∙ ap (λ (xs : Terms). more (apply (moving at) w) xs) others_are,
        )

-- ---- Arithmetic that waits

-- A variable of the terms that a goal of arithmetic needs is one of the goal's.
needed_variable : (a : Arithmetic) (v : Path × ℕ) → Contains (variables_in (needs a)) v → Contains (variables_of (goal_term a)) v
needed_variable (is l r) v c = Contains-append_right (variables_of l) (variables_in (more r Terms.none)) v c
needed_variable (compare o a b) v c = c

module _ (P : NamedProgram) (at : ℕ → ℕ) (part whole : List Ref) (m : IsPartOf P at part whole) (kept : List Framed)
    (goals : (f : Framed) → Contains kept f → IsGoalOfPart P at part f.goal) where
  near_needs : (f : Framed) (a : Arithmetic) → Contains kept f → item_at P.program f.goal ≡ arithmetic a
      → (v : Path × ℕ) → Contains (variables_in (needs a)) v → at (f.goal.base + 1 + v.1) ≡ at f.goal.base + 1 + v.1
  near_needs f a h e v c =
      let o = goals f h in
      o.together v (subst (λ (i : Item). Contains (variables_of (item_term i)) v) (sym e) (needed_variable a v c))

  -- Where no arithmetic reads as ground terms in the part, none does in the whole row,
  pub none_ground_there : IsSound P whole → IsSettled P whole → NoneIsGround P part kept → NoneIsGround P whole (map (framed_moved at) kept)
  none_ground_there sound settled none_is f a us h e r ground =
      let (g, there, from) = contains_origin (framed_moved at) kept f h in
      let item : item_at P.program g.goal ≡ arithmetic a = ap (λ (x : Framed). item_at P.program x.goal) (sym from) ∙ e in
      let read : AreRead P whole (at g.goal.base) (needs a) us = subst (λ (x : Framed). AreRead P whole x.goal.base (needs a) us) from r in
      let (ws, here, are) = all_read_here P at part whole m g.goal.base sound settled (needs a) us (near_needs g a there item) read in
      none_is g a ws there item here (sym (all_moved_ground at ws) ∙ ap are_ground (sym are) ∙ ground)

  -- and the other way round.
  pub none_ground_here : NoneIsGround P whole (map (framed_moved at) kept) → NoneIsGround P part kept
  none_ground_here none_is f a us h e r ground =
      none_is (framed_moved at f) a (apply_all (moving at) us) (contains_image (framed_moved at) kept f h) e
      (all_read_there P at part whole m f.goal.base (needs a) us (near_needs f a h e) r) (all_moved_ground at us ∙ ground)
