-- Terms whose cells are named back, and cells of the part that are read in the whole row.
use Rattle.std.proofs.Common.{ℕ, ◌≡◌, ◌<◌, List, [], ◌∷◌, map, refl, sym, ap, ◌∙◌, subst}
use Rattle.and_model.specs.Terms.{Term, Substitution, apply}
use Rattle.and_model.specs.Stands.{AreVariants}
use Rattle.and_model.specs.declared.reference.Ref.{Ref}
use Rattle.and_model.specs.declared.reference.Ref.TheVariants.{Cell}
use Rattle.and_laws.proofs.Substitutions.{then, same, apply_then, apply_same}
use Rattle.and_cells.specs.Ranges.{NamedProgram}
use Rattle.and_cells.specs.Meaning.{StandsFor}
use Rattle.and_moved_laws.specs.Parts.{moving, IsPartOf}
use Rattle.and_moved_laws.proofs.Extending.{drawn, drawn_back}
use Rattle.and_moved_laws.proofs.Standing.{stands_back}

-- ---- Cells that are named anew, and back

module _ (at : ℕ → ℕ) (rises : (p q : ℕ) → p < q → at p < at q) where
  -- the way back
  abbrev pub back : Substitution
  back = drawn at rises same

  pub named_back : (t : Term) → apply back (apply (moving at) t) ≡ t
  named_back t = apply_then (moving at) (drawn at rises same) t ∙ ap (λ (s : Substitution). apply s t) (drawn_back at rises same) ∙ apply_same t

  pub all_named_back : (ts : List Term) → map (apply back) (map (apply (moving at)) ts) ≡ ts
  all_named_back [] = refl
  all_named_back (t ∷ ts) = ap (λ (x : Term). x ∷ map (apply back) (map (apply (moving at)) ts)) (named_back t)
      ∙ ap (λ (l : List Term). t ∷ l) (all_named_back ts)

map_then : (r s : Substitution) (ts : List Term) → map (apply (then r s)) ts ≡ map (apply s) (map (apply r) ts)
map_then r s [] = refl
map_then r s (t ∷ ts) = ap (λ (x : Term). x ∷ map (apply (then r s)) ts) (sym (apply_then r s t))
    ∙ ap (λ (l : List Term). apply s (apply r t) ∷ l) (map_then r s ts)

-- Terms that are variants of others are so with their cells named anew.
pub variants_back : (at : ℕ → ℕ) (rises : (p q : ℕ) → p < q → at p < at q) (here there others : List Term)
    → map (apply (moving at)) here ≡ there → AreVariants there others → AreVariants here others
variants_back at rises here there others named v =
    let to : Substitution = v.0.0 in
    let fro : Substitution = v.1.0 in (
      (then (moving at) to, map_then (moving at) to here ∙ ap (map (apply to)) named ∙ v.0.1),
      (
        then fro (back at rises),
        map_then fro (back at rises) others ∙ ap (map (apply (back at rises))) (v.1.1 ∙ sym named) ∙ all_named_back at rises here,
      ),
    )

-- Each list of terms is one of variants of itself.
all_same : (ts : List Term) → map (apply same) ts ≡ ts
all_same [] = refl
all_same (t ∷ ts) = ap (λ (x : Term). x ∷ map (apply same) ts) (apply_same t) ∙ ap (λ (l : List Term). t ∷ l) (all_same ts)

pub variants_same : (ts : List Term) → AreVariants ts ts
variants_same ts = ((same, all_same ts), (same, all_same ts))

-- A cell of the whole row that is the part's reads in the part as it does there, named back.
pub cell_back : (P : NamedProgram) (at : ℕ → ℕ) (part whole : List Ref) (m : IsPartOf P at part whole) (c : ℕ) (t : Term)
    → StandsFor P whole (Cell (at c)) t → StandsFor P part (Cell c) (apply (back at m.rises) t)
    × (apply (moving at) (apply (back at m.rises) t) ≡ t)
cell_back P at part whole m c t stands =
    let (u, here, named) = stands_back P at part whole m (Cell c) t tt stands in
    let e : apply (back at m.rises) t ≡ u = ap (apply (back at m.rises)) named ∙ named_back at m.rises u in
    (subst (λ (x : Term). StandsFor P part (Cell c) x) (sym e) here, ap (apply (moving at)) e ∙ sym named)
