-- Where a part of a row is settled with equations, the whole row is settled with the same ones, whose cells are named
-- anew.
use Rattle.std.proofs.Common.{ℕ, suc, ◌+◌, ◌^◌, ◌≡◌, ◌≢◌, ◌<◌, ◌≤◌, true, false, List, [], ◌++◌, length, refl, sym, ap, ◌∙◌, subst, inl, inr, arith}
use Rattle.std.proofs.lemmas.Bool.{true≢false}
use Rattle.std.proofs.lemmas.List.Elements.{All-contains}
use Rattle.and_model.specs.Terms.{Path, Term, Substitution, apply, variables_of}
use Rattle.and_model.specs.Solutions.{Equation, Solves, Entails}
use Rattle.and_model.specs.Store.{is_half}
use Rattle.and_model.specs.declared.reference.Ref.{Ref}
use Rattle.and_model.specs.declared.reference.Ref.TheVariants.{Free, Cell, Node, Number, Half}
use Rattle.and_program.specs.Skeletons.{node_term}
use Rattle.and_laws.specs.Naming.{under}
use Rattle.and_laws.proofs.Equality.{bool_cases}
use Rattle.and_laws.proofs.Solving.{solves_join, solves_front}
use Rattle.and_laws.proofs.Substitutions.{then}
use Rattle.and_cells.specs.Ranges.{NamedProgram, CanHold}
use Rattle.and_cells.specs.Rows.{IsSound, plain}
use Rattle.and_cells.specs.Seen.{word_at, IsSetTo, Keeps}
use Rattle.and_cells.specs.Meaning.{Words, StandsFor, unbound, bound, structure, integer, number_in, cell_variable, equations_between, equations_of, IsSettled}
use Rattle.and_cells.specs.Joined.{value}
use Rattle.and_cells.specs.Solved.{HasTerm, AllHaveTerms, IsMostGeneral}
use Rattle.and_cell_laws.proofs.Between.{one_value, names_no_half, between_solved, set_is_below}
use Rattle.and_cell_laws.proofs.Settling.{settled_rows_have_terms}
use Rattle.and_cell_laws.proofs.TermsOfRows.{stands_whole, rows_with_terms_are_solutions}
use Rattle.and_cell_laws.proofs.TermsOfStructures.{node_has_term}
use Rattle.and_cells.proofs.Keeping.{sound_extend}
use Rattle.and_branch_laws.specs.Settling.{widened, Settled}
use Rattle.and_branch_laws.specs.Variables.{EquationsSpeakOf, IsWholeCell}
use Rattle.and_branch_laws.proofs.Lists.{all_of}
use Rattle.and_branch_laws.proofs.Rows.{words_solved, row_solved, kept_entails, settled_stated, settled_states_new}
use Rattle.and_branch_laws.proofs.Speaking.{equations_speak_more, then_under}
use Rattle.and_moved_laws.specs.Parts.{moved, moving, IsTogether, IsPartOf, NamesTogether}
use Rattle.and_moved_laws.proofs.Moving.{moved_free, moved_half, from_number, keeps_order, within_whole, within_part, same_half}
use Rattle.and_branch_laws.proofs.Widening.{settled_still}
use Rattle.and_moved_laws.proofs.Composing.{part_widened}
use Rattle.and_moved_laws.proofs.Standing.{stands_moved, sound_part}
use Rattle.and_moved_laws.proofs.Solving.{between_there, solves_part, solves_part_with}
use Rattle.and_moved_laws.proofs.Filling.{Origin, origin, filled, filled_length, filled_here, filled_elsewhere, part_filled}

-- A reference has the same value where the words of a pair are the same.
same_value : (P : NamedProgram) (w z : Words) (t : Substitution) (r : Ref)
    → ((pair : ℕ) → r ≡ Number pair → (w pair ≡ z pair) × (w (suc pair) ≡ z (suc pair))) → value P w t r ≡ value P z t r
same_value P w z t Free e = refl
same_value P w z t (Cell cell) e = refl
same_value P w z t (Node node base) e = refl
same_value P w z t (Number pair) e = let both = e pair refl in let high = both.0 in let low = both.1 in cc
same_value P w z t (Half bits) e = refl

module _ (P : NamedProgram) (at : ℕ → ℕ) (part whole : List Ref) (m : IsPartOf P at part whole) (sound : IsSound P whole) (new : List Ref)
    (es : List Equation) (x : Settled P part new es) (names : NamesTogether P at new) where
  pub long : length new ≡ length part
  long = let y = x.keeps in y.words

  -- the whole row with the new words
  abbrev pub later : List Ref
  later = filled P at part whole m new long

  later_length : length later ≡ length whole
  later_length = filled_length P at part whole m new long

  here : (c : ℕ) → word_at later (at c) ≡ moved at (word_at new c)
  here = filled_here P at part whole m new long

  pub elsewhere : (p : ℕ) → ((c : ℕ) → at c ≡ p → ⊥) → word_at later p ≡ word_at whole p
  elsewhere = filled_elsewhere P at part whole m new long

  pub part_later : IsPartOf P at new later
  part_later = part_filled P at part whole m new long names.together

  from : (p : ℕ) → Origin at p
  from p = origin at m.rises p

  -- ---- What stays

  keeps_words : (place : ℕ) (r : Ref) → IsSetTo whole place r → IsSetTo later place r
  keeps_words place r set = elim (from place) [
    | inl found ↦
        let c : ℕ = found.0 in
        let was : word_at whole (at c) ≡ r = ap (word_at whole) found.1 ∙ set.0 in
        let set_here : word_at part c ≢ Free = λ free. set.1 (sym was ∙ m.words c ∙ ap (moved at) free) in
        let stays : IsSetTo new c (word_at part c) = (let y = x.keeps in y.knows c (word_at part c) (refl, set_here)) in
        (ap (word_at later) (sym found.1) ∙ here c ∙ ap (moved at) stays.0 ∙ sym (m.words c) ∙ was, set.1)
    | inr nowhere ↦ (elsewhere place nowhere ∙ set.0, set.1)
  ]

  keeps_later : Keeps (plain whole) (plain later)
  keeps_later = record { knows = keeps_words; known = ([], refl); missed = ([], refl); words = later_length }

  halves_later : (cell : ℕ) → is_half (word_at later cell) ≡ true → is_half (word_at whole cell) ≡ true
  halves_later cell half = elim (from cell) [
    | inl found ↦
        let c : ℕ = found.0 in
        let of_new : is_half (word_at new c) ≡ true =
        sym (moved_half at (word_at new c)) ∙ ap is_half (sym (here c) ∙ ap (word_at later) found.1) ∙ half in
        ap (λ (p : ℕ). is_half (word_at whole p)) (sym found.1) ∙ same_half P at part whole m c ∙ x.halves c of_new
    | inr nowhere ↦ ap is_half (sym (elsewhere cell nowhere)) ∙ half
  ]

  -- words that are no halves are none now
  whole_later : (cell : ℕ) → is_half (word_at whole cell) ≡ false → is_half (word_at later cell) ≡ false
  whole_later cell no_half = elim (bool_cases (is_half (word_at later cell))) [
    | inr e ↦ e
    | inl e ↦ absurd (true≢false (sym (halves_later cell e) ∙ no_half))
  ]

  whole_new : (cell : ℕ) → is_half (word_at part cell) ≡ false → is_half (word_at new cell) ≡ false
  whole_new cell no_half = elim (bool_cases (is_half (word_at new cell))) [
    | inr e ↦ e
    | inl e ↦ absurd (true≢false (sym (x.halves cell e) ∙ no_half))
  ]

  -- ---- It is sound

  fits_moved : (place : ℕ) (r : Ref) → IsTogether P at r → ((base : ℕ) → ((node : _) → r ≡ Node node base → base ≤ length new))
      → CanHold P (length new) place r → CanHold P (length later) (at place) (moved at r)
  fits_moved place Free h low fits = tt
  fits_moved place (Cell cell) h low fits = m.rises cell place fits
  fits_moved place (Node node base) h low fits =
      let vs : List (Path × ℕ) = variables_of (node_term P.skeleton.nodes node.0) in (
        record {
          there = fits.0.there;
          nameable = fits.0.nameable;
          base_below =
              let l : at base ≤ at (length part + 0) = keeps_order at m.rises base (length part + 0) (
              let b = low base node refl in let e = long in omega arith) in
              let e = m.beyond 0 in
              let s = sound.short in
              omega arith;
          cells = all_of (λ (v : Path × ℕ). at base + 1 + v.1 < length later) vs (λ v c.
              let below : base + 1 + v.1 < length new = All-contains (λ (y : Path × ℕ). base + 1 + y.1 < length new) vs v fits.0.cells c in
              let there : at (base + 1 + v.1) < length later = within_whole P at new later part_later (base + 1 + v.1) below in
              let e = h v c in
              omega arith);
        },
        fits.1,
      )
  fits_moved place (Number pair) h low fits =
      let there : at (suc pair) < length later = within_whole P at new later part_later (suc pair) fits in
      let e = h in
      omega arith
  fits_moved place (Half bits) h low fits = tt

  fits_later : (place : ℕ) → CanHold P (length later) place (word_at later place)
  fits_later place = elim (from place) [
    | inl found ↦
        let c : ℕ = found.0 in
        let moved_fits : CanHold P (length later) (at c) (moved at (word_at new c)) =
        fits_moved c (word_at new c) (names.together c) (λ base node e. names.within c node base e) (x.sound.fits c) in
        subst (λ (p : ℕ). CanHold P (length later) p (word_at later p)) found.1
        (subst (λ (r : Ref). CanHold P (length later) (at c) r) (sym (here c)) moved_fits)
    | inr nowhere ↦
        subst (λ (r : Ref). CanHold P (length later) place r) (sym (elsewhere place nowhere))
        (subst (λ (n : ℕ). CanHold P n place (word_at whole place)) (sym later_length) (sound.fits place))
  ]

  written_later : (place pair : ℕ) → word_at later place ≡ Number pair → (word_at later pair ≢ Free) × (word_at later (suc pair) ≢ Free)
  written_later place pair e = elim (from place) [
    | inl found ↦
        let c : ℕ = found.0 in
        let of_new : Number pair ≡ moved at (word_at new c) = sym e ∙ ap (word_at later) (sym found.1) ∙ here c in
        let (p, is, pair_is) = from_number at (word_at new c) pair of_new in
        let both = x.sound.written c p is in
        let near : at (suc p) ≡ suc (at p) = subst (λ (r : Ref). IsTogether P at r) is (names.together c) in (
          λ free. both.0 (moved_free at (word_at new p) (sym (here p) ∙ ap (word_at later) (sym pair_is) ∙ free)),
          λ free. both.1 (moved_free at (word_at new (suc p))
              (sym (here (suc p)) ∙ ap (word_at later) (near ∙ ap suc (sym pair_is)) ∙ free)),
        )
    | inr nowhere ↦
        let both = sound.written place pair (sym (elsewhere place nowhere) ∙ e) in
        let high : IsSetTo later pair (word_at whole pair) = keeps_words pair (word_at whole pair) (refl, both.0) in
        let low : IsSetTo later (suc pair) (word_at whole (suc pair)) = keeps_words (suc pair) (word_at whole (suc pair)) (refl, both.1) in
        ((λ free. both.0 (sym high.0 ∙ free)), (λ free. both.1 (sym low.0 ∙ free)))
  ]

  sound_later : IsSound P later
  sound_later = record { fits = fits_later; written = written_later; short = let l = later_length in let s = sound.short in omega arith }

  -- ---- Its cells have terms

  all_new : AllHaveTerms P new
  all_new = (settled_rows_have_terms P new x.sound).0 x.settled

  -- those of the part
  term_here : (c : ℕ) → c < length new → is_half (word_at new c) ≡ false → HasTerm P later (Cell (at c))
  term_here c low no_half =
      let has : HasTerm P new (Cell c) = all_new c low no_half in
      (apply (moving at) has.0, stands_moved P at new later part_later (Cell c) has.0 tt has.1)

  term_of_origin : (cell c : ℕ) → at c ≡ cell → cell < length whole → is_half (word_at whole cell) ≡ false → HasTerm P later (Cell cell)
  term_of_origin cell c e low no_half =
      let inside : c < length part = within_part P at part whole m c (omega (arith, e, low)) in
      let of_part : is_half (word_at part c) ≡ false =
      sym (same_half P at part whole m c) ∙ ap (λ (p : ℕ). is_half (word_at whole p)) e ∙ no_half in
      subst (λ (p : ℕ). HasTerm P later (Cell p)) e (term_here c (omega (arith, inside, long)) (whole_new c of_part))

  -- and the others: what had a term has one still.
  term_still : (r : Ref) (u : Term) → StandsFor P whole r u → HasTerm P later r
  term_still r u (unbound cell below free) = elim (from cell) [
    | inl found ↦ term_of_origin cell found.0 found.1 below (ap is_half free)
    | inr nowhere ↦ (cell_variable cell, unbound cell (omega (arith, below, later_length)) (elsewhere cell nowhere ∙ free))
  ]
  term_still r u (bound cell q t set rest) = elim (from cell) [
    | inl found ↦ term_of_origin cell found.0 found.1 (set_is_below whole cell q set) (ap is_half set.0 ∙ stands_whole P whole q t rest)
    | inr nowhere ↦
        let has : HasTerm P later q = term_still q t rest in
        (has.0, bound cell q has.0 (elsewhere cell nowhere ∙ set.0, set.1) has.1)
  ]
  term_still r u (structure node base s all) =
      node_has_term P later node base (λ v c. term_still (Cell (base + 1 + v.1)) (s v.0 v.1) (all v c))
  term_still r u (integer pair) = (number_in (word_at later) pair, integer pair)

  module _ (settled : IsSettled P whole) where
    all_later : AllHaveTerms P later
    all_later cell below no_half = elim (from cell) [
      | inl found ↦
          let c : ℕ = found.0 in
          let e : at c ≡ cell = found.1 in
          let inside : c < length new = within_part P at new later part_later c (omega (arith, e, below)) in
          let of_new : is_half (word_at new c) ≡ false =
          sym (moved_half at (word_at new c)) ∙ ap is_half (sym (here c) ∙ ap (word_at later) e) ∙ no_half in
          subst (λ (p : ℕ). HasTerm P later (Cell p)) e (term_here c inside of_new)
      | inr nowhere ↦
          let was : HasTerm P whole (Cell cell) = (settled_rows_have_terms P whole sound).0 settled cell (omega (arith, below, later_length))
          (ap is_half (sym (elsewhere cell nowhere)) ∙ no_half) in
          term_still (Cell cell) was.0 was.1
    ]

    -- ---- What it states

    -- It states what there was, and the equations,
    states_later : EquationsSpeakOf (IsWholeCell part) es → Entails (equations_of P later) (equations_of P whole ++ under (moving at) es)
    states_later speaks t s =
        let now : EquationsSpeakOf (IsWholeCell new) es = equations_speak_more (IsWholeCell part) (IsWholeCell new)
        (λ v w. (w.0, (let l = long in let low = w.1 in omega arith), whole_new v.1 w.2)) es speaks in
        let of_new : Solves (then (moving at) t) (equations_of P new) = solves_part P at new later part_later t s in
        solves_join t (equations_of P whole) (under (moving at) es) (kept_entails P whole later sound keeps_later t s)
        (then_under (moving at) t es
        (settled_states_new P part new es (sound_part P at part whole m sound) x now (then (moving at) t) of_new))

    -- and nothing else.
    stated_later : Entails (equations_of P whole ++ under (moving at) es) (equations_of P later)
    stated_later t s =
        let of_new : Solves (then (moving at) t) (equations_of P new) =
        settled_stated P part new es (sound_part P at part whole m sound) x (then (moving at) t) (solves_part_with P at part whole m t es s) in
        row_solved P later t (λ place r set no_half. elim (from place) [
          | inl found ↦
              let c : ℕ = found.0 in
              let q : Ref = word_at new c in
              let word : moved at q ≡ r = sym (here c) ∙ ap (word_at later) found.1 ∙ set.0 in
              let set_here : q ≢ Free = λ free. set.1 (sym word ∙ ap (moved at) free) in
              let no_half_here : is_half q ≡ false = sym (moved_half at q) ∙ ap is_half word ∙ no_half in
              let solved : Solves t (equations_between P (word_at later) (Cell (at c)) (moved at q)) =
              between_there P at new later part_later t c q (names.together c)
              (words_solved P new (then (moving at) t) of_new c q (refl, set_here) no_half_here) in
              subst (λ (p : ℕ). Solves t (equations_between P (word_at later) (Cell p) r)) found.1
              (subst (λ (y : Ref). Solves t (equations_between P (word_at later) (Cell (at c)) y)) word solved)
          | inr nowhere ↦
              let was : IsSetTo whole place r = (sym (elsewhere place nowhere) ∙ set.0, set.1) in
              let solved : Solves t (equations_between P (word_at whole) (Cell place) r) =
              words_solved P whole t (solves_front t (equations_of P whole) (under (moving at) es) s) place r was no_half in
              let same : value P (word_at later) t r ≡ value P (word_at whole) t r =
              same_value P (word_at later) (word_at whole) t r (λ pair e.
              let both = sound.written place pair (was.0 ∙ e) in
              let high : IsSetTo later pair (word_at whole pair) = keeps_words pair (word_at whole pair) (refl, both.0) in
              let low : IsSetTo later (suc pair) (word_at whole (suc pair)) = keeps_words (suc pair) (word_at whole (suc pair)) (refl, both.1) in
              (high.0, low.0)) in
              between_solved P (word_at later) t (Cell place) r (t [] place) refl
              (same ∙ sym (one_value P (word_at whole) t (Cell place) r solved))
              (λ cell c. whole_later cell (names_no_half P (word_at whole) t (Cell place) r solved cell c))
        ])

    -- So it is settled from what there was with the equations.
    pub settled_later : EquationsSpeakOf (IsWholeCell part) es → Settled P whole later (under (moving at) es)
    settled_later speaks =
        let own : IsMostGeneral P later (equations_of P later) = rows_with_terms_are_solutions P later sound_later all_later in
        record {
          solved = record {
            solution = own.solution;
            most_general = (
              states_later speaks own.solution own.most_general.0,
              λ t s q k. own.most_general.1 t (stated_later t s) q k,
            );
            of_cells = own.of_cells;
          };
          sound = sound_later;
          settled = (settled_rows_have_terms P later sound_later).1 all_later;
          keeps = keeps_later;
          halves = halves_later;
        }

-- Some row is.
pub settling_of_parts : (P : NamedProgram) (at : ℕ → ℕ) (part whole new : List Ref) (es : List Equation)
    → IsPartOf P at part whole → IsSound P whole → IsSettled P whole
    → EquationsSpeakOf (IsWholeCell part) es → Settled P part new es → NamesTogether P at new
    → (row : List Ref) × IsPartOf P at new row × Settled P whole row (under (moving at) es)
    × ((p : ℕ) → ((c : ℕ) → at c ≡ p → ⊥) → word_at row p ≡ word_at whole p)
settling_of_parts P at part whole new es m sound settled speaks x names = (
  later P at part whole m sound new es x names,
  part_later P at part whole m sound new es x names,
  settled_later P at part whole m sound new es x names settled speaks,
  elsewhere P at part whole m sound new es x names,
)

-- So it is with free words behind both.
pub settling_behind : (P : NamedProgram) (at : ℕ → ℕ) (part whole new : List Ref) (by : ℕ) (es : List Equation)
    → IsPartOf P at part whole → IsSound P whole → IsSettled P whole → length whole + by ≤ 2 ^ 22 + 256
    → EquationsSpeakOf (IsWholeCell (widened part by)) es → Settled P (widened part by) new es → NamesTogether P at new
    → (row : List Ref) × IsPartOf P at new row × Settled P (widened whole by) row (under (moving at) es)
    × ((p : ℕ) → ((c : ℕ) → at c ≡ p → ⊥) → word_at row p ≡ word_at (widened whole by) p)
settling_behind P at part whole new by es m sound settled short speaks x names =
    let wide : IsSound P (widened whole by) = sound_extend P whole by sound short in
    settling_of_parts P at (widened part by) (widened whole by) new es (part_widened P at part whole by m) wide
    (settled_still P whole by sound wide settled) speaks x names
