-- References of a part stand for the same as those that they are in the whole row.
use Rattle.std.proofs.Common.{ℕ, suc, ◌+◌, ◌≡◌, ◌<◌, List, length, refl, sym, ap, ◌∙◌, subst, arith}
use Rattle.std.proofs.lemmas.List.Elements.{All-contains}
use Rattle.and_model.specs.Terms.{Path, Term, apply, variables_of}
use Rattle.and_model.specs.declared.reference.Ref.{Ref}
use Rattle.and_model.specs.declared.reference.Ref.TheVariants.{Free, Cell, Node, Number, Half}
use Rattle.and_program.specs.Skeletons.{node_term}
use Rattle.and_laws.proofs.Substitutions.{then, apply_then}
use Rattle.and_cells.specs.Ranges.{NamedProgram, CanHold}
use Rattle.and_cells.specs.Numbers.{bits_of}
use Rattle.and_cells.specs.Rows.{IsSound}
use Rattle.and_cells.specs.Seen.{word_at}
use Rattle.and_cells.specs.Meaning.{StandsFor, unbound, bound, structure, integer, number_in, IsSettled}
use Rattle.and_cells.specs.Solved.{HasTerm, AllHaveTerms}
use Rattle.and_cells.proofs.OneTerm.{one_term}
use Rattle.and_cell_laws.proofs.TermsOfStructures.{node_has_term}
use Rattle.and_cell_laws.proofs.Settling.{settled_rows_have_terms}
use Rattle.and_branch_laws.proofs.Lists.{all_of}
use Rattle.and_moved_laws.specs.Parts.{moved, moving, IsTogether, IsPartOf}
use Rattle.and_moved_laws.proofs.Moving.{moved_free, moved_bits, from_cell, from_node, from_number, no_lower, falls_back}
use Rattle.and_moved_laws.proofs.Moving.{within_whole, within_part, no_longer, free_in_part, same_half}

module _ (P : NamedProgram) (at : ℕ → ℕ) (part whole : List Ref) (m : IsPartOf P at part whole) where
  -- ---- Terms

  -- A pair holds the same number.
  pub same_number : (pair : ℕ) → at (suc pair) ≡ suc (at pair) → number_in (word_at whole) (at pair) ≡ number_in (word_at part) pair
  same_number pair e =
      let high : bits_of (word_at whole (at pair)) ≡ bits_of (word_at part pair) =
      ap bits_of (m.words pair) ∙ moved_bits at (word_at part pair) in
      let low : bits_of (word_at whole (suc (at pair))) ≡ bits_of (word_at part (suc pair)) =
      ap (λ (p : ℕ). bits_of (word_at whole p)) (sym e) ∙ ap bits_of (m.words (suc pair)) ∙ moved_bits at (word_at part (suc pair)) in
      cc

  -- What stands for a term stands for it in the whole row, with its cells named anew.
  pub stands_moved : (r : Ref) (t : Term) → IsTogether P at r → StandsFor P part r t → StandsFor P whole (moved at r) (apply (moving at) t)
  stands_moved r t h (unbound cell below free) =
      unbound (at cell) (within_whole P at part whole m cell below) (m.words cell ∙ ap (moved at) free)
  stands_moved r t h (bound cell q u set rest) =
      bound (at cell) (moved at q) (apply (moving at) u) (m.words cell ∙ ap (moved at) set.0, λ e. set.1 (moved_free at q e))
      (stands_moved q u (subst (λ (x : Ref). IsTogether P at x) set.0 (m.together cell)) rest)
  stands_moved r t h (structure node base s all) =
      let body : Term = node_term P.skeleton.nodes node.0 in
      subst (λ (u : Term). StandsFor P whole (Node node (at base)) u) (sym (apply_then s (moving at) body))
      (structure node (at base) (then s (moving at)) (λ v c.
      subst (λ (cell : ℕ). StandsFor P whole (Cell cell) (apply (moving at) (s v.0 v.1))) (h v c)
      (stands_moved (Cell (base + 1 + v.1)) (s v.0 v.1) tt (all v c))))
  stands_moved r t h (integer pair) =
      subst (λ (u : Term). StandsFor P whole (Number (at pair)) u) (same_number pair h) (integer (at pair))

  -- What has a term in the whole row has one in the part.
  pub term_in_part : (r q : Ref) (u : Term) → q ≡ moved at r → IsTogether P at r → StandsFor P whole q u → HasTerm P part r
  term_in_part r q u e h (unbound cell below free) =
      let (c, is, from) = from_cell at r cell e in
      let low : c < length part = within_part P at part whole m c (omega (arith, from, below)) in
      let word : word_at part c ≡ Free = free_in_part P at part whole m c (ap (word_at whole) (sym from) ∙ free) in
      subst (λ (x : Ref). HasTerm P part x) (sym is) (_, unbound c low word)
  term_in_part r q u e h (bound cell p t set rest) =
      let (c, is, from) = from_cell at r cell e in
      let word : p ≡ moved at (word_at part c) = sym set.0 ∙ ap (word_at whole) from ∙ m.words c in
      let has : HasTerm P part (word_at part c) = term_in_part (word_at part c) p t word (m.together c) rest in
      subst (λ (x : Ref). HasTerm P part x) (sym is)
      (has.0, bound c (word_at part c) has.0 (refl, λ free. set.1 (word ∙ ap (moved at) free)) has.1)
  term_in_part r q u e h (structure node base s all) =
      let (b, is, from) = from_node at r node base e in
      let near : IsTogether P at (Node node b) = subst (λ (x : Ref). IsTogether P at x) is h in
      subst (λ (x : Ref). HasTerm P part x) (sym is) (node_has_term P part node b (λ v c.
      term_in_part (Cell (b + 1 + v.1)) (Cell (base + 1 + v.1)) (s v.0 v.1)
      (ap (λ (x : ℕ). Cell (x + 1 + v.1)) from ∙ ap (λ (x : ℕ). Cell x) (sym (near v c))) tt (all v c)))
  term_in_part r q u e h (integer pair) =
      let (p, is, from) = from_number at r pair e in
      subst (λ (x : Ref). HasTerm P part x) (sym is) (_, integer p)

  -- So what stands for a term there is what stands for one here.
  pub stands_back : (r : Ref) (u : Term) → IsTogether P at r → StandsFor P whole (moved at r) u
      → (t : Term) × StandsFor P part r t × (u ≡ apply (moving at) t)
  stands_back r u h stands =
      let has : HasTerm P part r = term_in_part r (moved at r) u refl h stands in
      (has.0, has.1, one_term P whole (moved at r) u (apply (moving at) has.0) stands (stands_moved r has.0 h has.1))

  -- ---- Sound and settled rows

  fits_in_part : IsSound P whole → (place : ℕ) (r : Ref) → IsTogether P at r → CanHold P (length whole) (at place) (moved at r)
      → CanHold P (length part) place r
  fits_in_part sound place Free h fits = tt
  fits_in_part sound place (Cell cell) h fits = falls_back at m.rises cell place fits
  fits_in_part sound place (Node node base) h fits =
      let vs : List (Path × ℕ) = variables_of (node_term P.skeleton.nodes node.0) in (
        record {
          there = fits.0.there;
          nameable = fits.0.nameable;
          base_below = let l = no_lower at m.rises base in let b = fits.0.base_below in omega arith;
          cells = all_of (λ (v : Path × ℕ). base + 1 + v.1 < length part) vs (λ v c. within_part P at part whole m (base + 1 + v.1) (
              let low : at base + 1 + v.1 < length whole = All-contains (λ (x : Path × ℕ). at base + 1 + x.1 < length whole) vs v fits.0.cells c in
              let e = h v c in
              omega arith));
        },
        fits.1,
      )
  fits_in_part sound place (Number pair) h fits = within_part P at part whole m (suc pair) (let e = h in let l = fits in omega arith)
  fits_in_part sound place (Half bits) h fits = tt

  pub sound_part : IsSound P whole → IsSound P part
  sound_part sound = record {
    fits = λ place. fits_in_part sound place (word_at part place) (m.together place)
        (subst (λ (r : Ref). CanHold P (length whole) (at place) r) (m.words place) (sound.fits (at place)));
    written = λ place pair e.
        let both = sound.written (at place) (at pair) (m.words place ∙ ap (moved at) e) in
        let near : at (suc pair) ≡ suc (at pair) = subst (λ (r : Ref). IsTogether P at r) e (m.together place) in (
          λ free. both.0 (m.words pair ∙ ap (moved at) free),
          λ free. both.1 (ap (word_at whole) (sym near) ∙ m.words (suc pair) ∙ ap (moved at) free),
        );
    short = let l = no_longer P at part whole m in let s = sound.short in omega arith;
  }

  pub settled_part : IsSound P whole → IsSettled P whole → IsSettled P part
  settled_part sound settled =
      let all : AllHaveTerms P whole = (settled_rows_have_terms P whole sound).0 settled in
      (settled_rows_have_terms P part (sound_part sound)).1 (λ cell below half.
      let has : HasTerm P whole (Cell (at cell)) =
      all (at cell) (within_whole P at part whole m cell below) (same_half P at part whole m cell ∙ half) in
      term_in_part (Cell cell) (Cell (at cell)) has.0 refl tt has.1)
