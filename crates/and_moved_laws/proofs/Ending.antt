-- The line that is read in the whole row is read in the part.
use Rattle.std.proofs.Common.{ℕ, not, ◌+◌, ◌≡◌, ◌<◌, List, [], ◌∷◌, ◌++◌, map, refl, sym, ap, ◌∙◌, subst, inl, inr, Contains}
use Rattle.std.proofs.lemmas.List.{map-append, length-map}
use Rattle.std.proofs.lemmas.List.Elements.{All-contains}
use Rattle.and_model.specs.Terms.{Path, Term, Substitution, variable, apply, variables_of}
use Rattle.and_model.specs.Programs.{Arithmetic}
use Rattle.and_model.specs.Trees.{QueryTree}
use Rattle.and_model.specs.Reductions.{Reduction}
use Rattle.and_model.specs.Lines.{goal_term, line}
use Rattle.and_model.specs.Listing.{outcome_of, Ends}
use Rattle.and_model.specs.Stands.{Framed, term_of, in_tree, numbers_below}
use Rattle.and_model.specs.Store.{Frame}
use Rattle.and_model.specs.declared.goal.Goal.{Goal}
use Rattle.and_model.specs.declared.reference.Ref.{Ref}
use Rattle.and_model.specs.declared.reference.Ref.TheVariants.{Cell}
use Rattle.and_laws.proofs.Printing.{variants_line}
use Rattle.and_laws.proofs.Substitutions.{then, same, apply_then}
use Rattle.and_cells.specs.Ranges.{NamedProgram}
use Rattle.and_cells.specs.Meaning.{StandsFor}
use Rattle.and_cells.proofs.OneTerm.{apply_agree}
use Rattle.and_cell_laws.proofs.Images.{contains_image, contains_origin}
use Rattle.and_branch_laws.specs.OwnVariables.{IsLoaded}
use Rattle.and_branch_laws.specs.Kept.{goal_of, arithmetic_kept, is_call, task_of}
use Rattle.and_branch_laws.specs.Judging.{NoneIsGround, NoCall}
use Rattle.and_branch_laws.specs.Lines.{LineIsRead}
use Rattle.and_branch_laws.proofs.Lining
use Rattle.and_branch_laws.proofs.Lists.{all_of, filter_contains}
use Rattle.and_branch_laws.proofs.Reading.{mapped, below_cases}
use Rattle.and_moved_laws.specs.Parts.{moving, IsPartOf, IsGoalOfPart, goal_moved, framed_moved}
use Rattle.and_moved_laws.specs.KeptParts.{PartKept}
use Rattle.and_moved_laws.proofs.Extending.{drawn}
use Rattle.and_moved_laws.proofs.Filling.{Origin, origin}
use Rattle.and_moved_laws.proofs.KeptParts.{kept_goal, query_there}
use Rattle.and_moved_laws.proofs.Moving.{one_origin}
use Rattle.and_moved_laws.proofs.Backward.{cell_back, variants_back, variants_same}
use Rattle.and_moved_laws.proofs.MovedGoals.{goals_moved, trees_stay, arithmetic_moved}
use Rattle.and_moved_laws.proofs.States.{none_there, no_call_there}

map_twice : {X Y Z : Type 0} (f : X → Y) (g : Y → Z) (xs : List X) → map g (map f xs) ≡ map (λ (x : X). g (f x)) xs
map_twice f g [] = refl
map_twice f g (x ∷ xs) = ap (λ (l : List _). g (f x) ∷ l) (map_twice f g xs)

-- ---- The way back of places

abbrev pub back_from : (at : ℕ → ℕ) (p : ℕ) → Origin at p → ℕ
back_from at p (inl found) = found.0
back_from at p (inr nowhere) = p

module _ (P : NamedProgram) (at : ℕ → ℕ) (part whole : List Ref) (m : IsPartOf P at part whole) (waiting : List Goal)
    (query : (k : ℕ) → k < P.program.query.variables → at (0 + 1 + k) ≡ 0 + 1 + k)
    (goals : (g : Goal) → Contains waiting g → IsGoalOfPart P at part g) (w : LineIsRead P whole (map (goal_moved at) waiting)) where
  -- the part's place of a place
  abbrev pub place_back : ℕ → ℕ
  place_back p = back_from at p (origin at m.rises p)

  back_again : (c : ℕ) (o : Origin at (at c)) → back_from at (at c) o ≡ c
  back_again c (inl found) = one_origin at m.rises found.0 c found.1
  back_again c (inr nowhere) = absurd (nowhere c refl)

  pub goals_back : (gs : List Goal) → map (goal_moved place_back) (map (goal_moved at) gs) ≡ gs
  goals_back [] = refl
  goals_back (g ∷ gs) =
      ap (λ (b : ℕ). record { node = g.node; item = g.item; clause = g.clause; base = b } ∷ map (goal_moved place_back) (map (goal_moved at) gs))
      (back_again g.base (origin at m.rises (at g.base)))
      ∙ ap (λ (l : List Goal). g ∷ l) (goals_back gs)

  -- the terms that are read, their cells named back
  abbrev pub terms_here : Substitution
  terms_here = then w.terms (drawn at m.rises same)

  -- the goal of the part that a goal of the line is
  found_goal : (f : Framed) → Contains w.framed f → (g : Goal) × Contains waiting g × (f.goal ≡ goal_moved at g)
  found_goal f h = contains_origin (goal_moved at) waiting f.goal
      (subst (λ (l : List Goal). Contains l f.goal) w.goals_are (contains_image goal_of w.framed f h))

  goal_back : (f : Framed) → Contains w.framed f → (v : Path × ℕ) → Contains (variables_of (term_of P.program f.goal)) v
      → StandsFor P part (Cell (place_back f.goal.base + 1 + v.1)) (terms_here f.frame v.1)
      × (apply (moving at) (terms_here f.frame v.1) ≡ w.terms f.frame v.1)
  goal_back f h v c =
      let (g, there, is) = found_goal f h in
      let o = goals g there in
      let i : Contains (variables_of (term_of P.program g)) v = subst (λ (x : Goal). Contains (variables_of (term_of P.program x)) v) is c in
      let read : StandsFor P whole (Cell (f.goal.base + 1 + v.1)) (w.terms f.frame v.1) =
      All-contains (λ (x : Framed). (u : Path × ℕ) → Contains (variables_of (term_of P.program x.goal)) u
      → StandsFor P whole (Cell (x.goal.base + 1 + u.1)) (w.terms x.frame u.1)) w.framed f w.goals h v c in
      let at_base : StandsFor P whole (Cell (at g.base + 1 + v.1)) (w.terms f.frame v.1) =
      subst (λ (x : Goal). StandsFor P whole (Cell (x.base + 1 + v.1)) (w.terms f.frame v.1)) is read in
      let both = cell_back P at part whole m (g.base + 1 + v.1) (w.terms f.frame v.1)
      (subst (λ (cell : ℕ). StandsFor P whole (Cell cell) (w.terms f.frame v.1)) (sym (o.together v i)) at_base) in
      let base : place_back f.goal.base ≡ g.base =
      ap (λ (x : Goal). place_back x.base) is ∙ back_again g.base (origin at m.rises (at g.base)) in
      (subst (λ (b : ℕ). StandsFor P part (Cell (b + 1 + v.1)) (terms_here f.frame v.1)) (sym base) both.0, both.1)

  pub query_back : (n : ℕ) → n < P.program.query.variables → StandsFor P part (Cell (0 + 1 + n)) (terms_here [] n)
      × (apply (moving at) (terms_here [] n) ≡ w.terms [] n)
  query_back n low = cell_back P at part whole m (0 + 1 + n) (w.terms [] n)
      (subst (λ (cell : ℕ). StandsFor P whole (Cell cell) (w.terms [] n)) (sym (query n low)) (w.query n low))

  pub read_back : (f : Framed) → Contains (map (framed_moved place_back) w.framed) f → (v : Path × ℕ)
      → Contains (variables_of (term_of P.program f.goal)) v → StandsFor P part (Cell (f.goal.base + 1 + v.1)) (terms_here f.frame v.1)
  read_back f h v c =
      let (g, there, is) = contains_origin (framed_moved place_back) w.framed f h in
      subst (λ (x : Framed). StandsFor P part (Cell (x.goal.base + 1 + v.1)) (terms_here x.frame v.1)) (sym is)
      (goal_back g there v (subst (λ (x : Framed). Contains (variables_of (term_of P.program x.goal)) v) is c)).0

  -- They are what is read in the part.
  unfoldable pub line_here : LineIsRead P part waiting
  line_here = record {
    terms = terms_here;
    framed = map (framed_moved place_back) w.framed;
    waits = w.waits;
    goals_are = goals_moved place_back w.framed ∙ ap (map (goal_moved place_back)) w.goals_are ∙ goals_back waiting;
    waits_are = trees_stay P place_back w.framed ∙ w.waits_are;
    query = λ n low. (query_back n low).0;
    goals = all_of (λ (f : Framed). (v : Path × ℕ) → Contains (variables_of (term_of P.program f.goal)) v
        → StandsFor P part (Cell (f.goal.base + 1 + v.1)) (terms_here f.frame v.1)) (map (framed_moved place_back) w.framed)
        read_back;
  }

  -- ---- Its text

  abbrev goal_here : Framed → Term
  goal_here f = apply terms_here (in_tree P.program f)

  abbrev goal_there : Framed → Term
  goal_there f = apply w.terms (in_tree P.program f)

  goal_named : (f : Framed) → Contains w.framed f → apply (moving at) (goal_here f) ≡ goal_there f
  goal_named f h =
      let t : Term = term_of P.program f.goal in
      let q : Substitution = λ r n. variable f.frame n in
      ap (apply (moving at)) (apply_then q terms_here t) ∙ apply_then (then q terms_here) (moving at) t
      ∙ apply_agree (then (then q terms_here) (moving at)) (then q w.terms) t (λ v c. (goal_back f h v c).1)
      ∙ sym (apply_then q w.terms t)

  -- the goals that wait by their terms
  by_trees : (s : Substitution) → map (λ (a : Arithmetic). apply s (goal_term a)) w.waits ≡ map (λ (f : Framed). apply s (in_tree P.program f)) w.framed
  by_trees s = sym (map_twice goal_term (apply s) w.waits) ∙ ap (map (apply s)) (sym w.waits_are) ∙ map_twice (in_tree P.program) (apply s) w.framed

  abbrev ns : List ℕ
  ns = numbers_below P.program.query.variables

  list_named : map (apply (moving at)) (map (terms_here []) ns ++ map (λ (a : Arithmetic). apply terms_here (goal_term a)) w.waits)
      ≡ map (w.terms []) ns ++ map (λ (a : Arithmetic). apply w.terms (goal_term a)) w.waits
  list_named =
      let here_list : List Term = map (λ (a : Arithmetic). apply terms_here (goal_term a)) w.waits in
      map-append (apply (moving at)) (map (terms_here []) ns) here_list
      ∙ ap (λ (l : List Term). l ++ map (apply (moving at)) here_list)
      (mapped (moving at) (terms_here []) (w.terms []) ns (λ n c. (query_back n (below_cases P.program.query.variables n c)).1))
      ∙ ap (λ (l : List Term). map (w.terms []) ns ++ map (apply (moving at)) l) (by_trees terms_here)
      ∙ ap (λ (l : List Term). map (w.terms []) ns ++ l) (mapped (moving at) goal_here goal_there w.framed goal_named)
      ∙ ap (λ (l : List Term). map (w.terms []) ns ++ l) (sym (by_trees w.terms))

  pub line_same : IsLoaded P → line P.program terms_here w.waits ≡ line P.program w.terms w.waits
  line_same loaded =
      let here_list : List Term = map (λ (a : Arithmetic). apply terms_here (goal_term a)) w.waits in
      let there_list : List Term = map (λ (a : Arithmetic). apply w.terms (goal_term a)) w.waits in
      let all_there : List Term = map (w.terms []) ns ++ there_list in
      variants_line P.program P.program.query.variables terms_here w.terms here_list there_list loaded.written
      (length-map w.waits (λ (a : Arithmetic). apply terms_here (goal_term a))
      ∙ sym (length-map w.waits (λ (a : Arithmetic). apply w.terms (goal_term a))))
      (variants_back at m.rises (map (terms_here []) ns ++ here_list) all_there all_there list_named (variants_same all_there))

-- ---- The line of a branch

module _ (P : NamedProgram) (loaded : IsLoaded P) (rs : List Reduction) (frames : List Frame) (part : List Ref) (kept : List Framed)
    (tree : QueryTree P.program) (k : PartKept P rs frames part kept tree) where
  goal_kept : (g : Goal) → Contains (map goal_of (arithmetic_kept P.program kept)) g → IsGoalOfPart P k.at part g
  goal_kept g h =
      let (f, i, is) = contains_origin goal_of (arithmetic_kept P.program kept) g h in
      subst (λ (x : Goal). IsGoalOfPart P k.at part x) (sym is)
      (kept_goal P loaded.own rs frames part kept tree k f (filter_contains (λ (x : Framed). not (is_call (task_of P.program x))) kept f i))

  -- a line of the whole row, and that the tree ends with it
  abbrev EndsWith : List Goal → Type 0
  EndsWith waiting = (w : LineIsRead P k.whole waiting) × (NoneIsGround P part kept → NoCall P kept
      → Ends tree (outcome_of w.waits (line P.program w.terms w.waits)))

  line_there : EndsWith (map (goal_moved k.at) (map goal_of (arithmetic_kept P.program kept)))
  line_there =
      let M : List Framed = map (framed_moved k.at) kept in
      let whole = Lining.line_of_cells P loaded rs k.whole M tree k.keeps in
      let are : map goal_of (arithmetic_kept P.program M) ≡ map (goal_moved k.at) (map goal_of (arithmetic_kept P.program kept)) =
      ap (map goal_of) (arithmetic_moved P.program k.at kept) ∙ goals_moved k.at (arithmetic_kept P.program kept) in
      subst EndsWith are (
        whole.0,
        λ none_is no_call. whole.1 (none_there P loaded rs frames part kept tree k none_is)
            (no_call_there P loaded rs frames part kept tree k kept no_call),
      )

  -- From a part the terms of a line can be read, and where no call is left and no arithmetic can run, the tree ends with its line.
  pub line_of_part : (r : LineIsRead P part (map goal_of (arithmetic_kept P.program kept)))
      × (NoneIsGround P part kept → NoCall P kept → Ends tree (outcome_of r.waits (line P.program r.terms r.waits)))
  unfolding line_here
  line_of_part =
      let waiting : List Goal = map goal_of (arithmetic_kept P.program kept) in
      let w : LineIsRead P k.whole (map (goal_moved k.at) waiting) = line_there.0 in (
        line_here P k.at part k.whole k.is_part waiting (query_there P loaded.own rs frames part kept tree k) goal_kept w,
        λ none_is no_call. subst (λ (text : _). Ends tree (outcome_of w.waits text))
            (sym (line_same P k.at part k.whole k.is_part waiting (query_there P loaded.own rs frames part kept tree k) goal_kept w loaded))
            (line_there.1 none_is no_call),
      )
