-- The line that is read in a part is that of the whole row.
use Rattle.std.proofs.Common.{ℕ, ◌+◌, ◌≡◌, ◌<◌, List, [], ◌++◌, map, refl, sym, ap, ◌∙◌, subst, Contains}
use Rattle.std.proofs.lemmas.List.{map-append, length-map}
use Rattle.std.proofs.lemmas.List.Elements.{All-contains}
use Rattle.and_model.specs.Terms.{Path, Term, Substitution, apply, variables_of}
use Rattle.and_model.specs.Programs.{Arithmetic}
use Rattle.and_model.specs.Lines.{goal_term, line}
use Rattle.and_model.specs.Stands.{Framed, term_of, numbers_below, AreVariants}
use Rattle.and_model.specs.declared.goal.Goal.{Goal}
use Rattle.and_model.specs.declared.reference.Ref.{Ref}
use Rattle.and_model.specs.declared.reference.Ref.TheVariants.{Cell}
use Rattle.and_laws.proofs.Printing.{variants_line}
use Rattle.and_laws.proofs.Substitutions.{then, apply_then}
use Rattle.and_cells.specs.Ranges.{NamedProgram}
use Rattle.and_cells.specs.Meaning.{StandsFor}
use Rattle.and_cell_laws.proofs.Images.{contains_image, contains_origin}
use Rattle.and_branch_laws.specs.OwnVariables.{IsLoaded}
use Rattle.and_branch_laws.specs.Kept.{goal_of}
use Rattle.and_branch_laws.specs.Lines.{LineIsRead}
use Rattle.and_branch_laws.proofs.Lists.{all_of}
use Rattle.and_branch_laws.proofs.Reading.{mapped}
use Rattle.and_moved_laws.specs.Parts.{moving, IsPartOf, IsGoalOfPart, goal_moved, framed_moved}
use Rattle.and_moved_laws.proofs.Backward.{variants_back, variants_same}
use Rattle.and_moved_laws.proofs.MovedGoals.{goals_moved, trees_stay}
use Rattle.and_moved_laws.proofs.Standing.{stands_moved}

-- ---- The line

module _ (P : NamedProgram) (at : ℕ → ℕ) (part whole : List Ref) (m : IsPartOf P at part whole) (waiting : List Goal)
    (query : (k : ℕ) → k < P.program.query.variables → at (0 + 1 + k) ≡ 0 + 1 + k)
    (goals : (g : Goal) → Contains waiting g → IsGoalOfPart P at part g) (r : LineIsRead P part waiting) where
  -- the terms that are read, their cells named anew
  abbrev pub terms_there : Substitution
  terms_there = then r.terms (moving at)

  pub goal_read : (f : Framed) → Contains (map (framed_moved at) r.framed) f → (v : Path × ℕ) → Contains (variables_of (term_of P.program f.goal)) v
      → StandsFor P whole (Cell (f.goal.base + 1 + v.1)) (terms_there f.frame v.1)
  goal_read f h v c =
      let (g, there, is) = contains_origin (framed_moved at) r.framed f h in
      let among : Contains waiting g.goal = subst (λ (l : List Goal). Contains l g.goal) r.goals_are (contains_image goal_of r.framed g there) in
      let o = goals g.goal among in
      let i : Contains (variables_of (term_of P.program g.goal)) v =
      subst (λ (x : Framed). Contains (variables_of (term_of P.program x.goal)) v) is c in
      let here : StandsFor P part (Cell (g.goal.base + 1 + v.1)) (r.terms g.frame v.1) =
      All-contains (λ (x : Framed). (w : Path × ℕ) → Contains (variables_of (term_of P.program x.goal)) w
      → StandsFor P part (Cell (x.goal.base + 1 + w.1)) (r.terms x.frame w.1)) r.framed g r.goals there v i in
      let read : StandsFor P whole (Cell (at g.goal.base + 1 + v.1)) (terms_there g.frame v.1) =
      subst (λ (cell : ℕ). StandsFor P whole (Cell cell) (terms_there g.frame v.1)) (o.together v i)
      (stands_moved P at part whole m (Cell (g.goal.base + 1 + v.1)) (r.terms g.frame v.1) tt here) in
      subst (λ (x : Framed). StandsFor P whole (Cell (x.goal.base + 1 + v.1)) (terms_there x.frame v.1)) (sym is) read

  -- They are what is read in the whole row.
  unfoldable pub line_there : LineIsRead P whole (map (goal_moved at) waiting)
  line_there = record {
    terms = terms_there;
    framed = map (framed_moved at) r.framed;
    waits = r.waits;
    goals_are = goals_moved at r.framed ∙ ap (map (goal_moved at)) r.goals_are;
    waits_are = trees_stay P at r.framed ∙ r.waits_are;
    query = λ k low. subst (λ (cell : ℕ). StandsFor P whole (Cell cell) (terms_there [] k)) (query k low)
        (stands_moved P at part whole m (Cell (0 + 1 + k)) (r.terms [] k) tt (r.query k low));
    goals = all_of (λ (f : Framed). (v : Path × ℕ) → Contains (variables_of (term_of P.program f.goal)) v
        → StandsFor P whole (Cell (f.goal.base + 1 + v.1)) (terms_there f.frame v.1)) (map (framed_moved at) r.framed) goal_read;
  }

  variants : AreVariants
      (map (r.terms []) (numbers_below P.program.query.variables) ++ map (λ (a : Arithmetic). apply r.terms (goal_term a)) r.waits)
      (map (terms_there []) (numbers_below P.program.query.variables) ++ map (λ (a : Arithmetic). apply terms_there (goal_term a)) r.waits)
  variants =
      let ns : List ℕ = numbers_below P.program.query.variables in
      let here : Arithmetic → Term = λ a. apply r.terms (goal_term a) in
      let there : Arithmetic → Term = λ a. apply terms_there (goal_term a) in
      let all_there : List Term = map (terms_there []) ns ++ map there r.waits in
      let named : map (apply (moving at)) (map (r.terms []) ns ++ map here r.waits) ≡ all_there =
      map-append (apply (moving at)) (map (r.terms []) ns) (map here r.waits)
      ∙ ap (λ (l : List Term). l ++ map (apply (moving at)) (map here r.waits))
      (mapped (moving at) (r.terms []) (terms_there []) ns (λ n c. refl))
      ∙ ap (λ (l : List Term). map (terms_there []) ns ++ l)
      (mapped (moving at) here there r.waits (λ a c. apply_then r.terms (moving at) (goal_term a))) in
      variants_back at m.rises (map (r.terms []) ns ++ map here r.waits) all_there all_there named (variants_same all_there)

  -- So the line is the same.
  pub line_same : IsLoaded P → line P.program r.terms r.waits ≡ line P.program terms_there r.waits
  line_same loaded =
      variants_line P.program P.program.query.variables r.terms terms_there (map (λ (a : Arithmetic). apply r.terms (goal_term a)) r.waits)
      (map (λ (a : Arithmetic). apply terms_there (goal_term a)) r.waits) loaded.written
      (length-map r.waits (λ (a : Arithmetic). apply r.terms (goal_term a))
      ∙ sym (length-map r.waits (λ (a : Arithmetic). apply terms_there (goal_term a)))) variants

-- A line of the whole row, with the same goals and the same text.
pub line_of_part : (P : NamedProgram) (at : ℕ → ℕ) (part whole : List Ref) (waiting : List Goal) (r : LineIsRead P part waiting) → IsLoaded P
    → IsPartOf P at part whole → ((k : ℕ) → k < P.program.query.variables → at (0 + 1 + k) ≡ 0 + 1 + k)
    → ((g : Goal) → Contains waiting g → IsGoalOfPart P at part g)
    → (w : LineIsRead P whole (map (goal_moved at) waiting)) × (w.waits ≡ r.waits)
    × (line P.program w.terms w.waits ≡ line P.program r.terms r.waits)
unfolding line_there
line_of_part P at part whole waiting r loaded m query goals =
    (line_there P at part whole m waiting query goals r, refl, sym (line_same P at part whole m waiting query goals r loaded))
