-- The line of a branch whose tree has no open goal.
use Rattle.std.proofs.Common.{ℕ, ◌+◌, ◌≡◌, not, List, [], ◌∷◌, ◌++◌, map, refl, sym, ap, ◌∙◌, subst, inl, inr, Contains}
use Rattle.std.proofs.lemmas.List.{map-append, length-map}
use Rattle.std.proofs.lemmas.List.Elements.{Contains-append_cases}
use Rattle.and_model.specs.Terms.{Path, Term, variable, none, more, variables_of, variables_in, Substitution, apply}
use Rattle.and_model.specs.Solutions.{MostGeneral}
use Rattle.and_model.specs.Programs.{Arithmetic, is, compare}
use Rattle.and_model.specs.Trees.{QueryTree, equations, arithmetics}
use Rattle.and_model.specs.Reductions.{Reduction, query}
use Rattle.and_model.specs.Stands.{Framed, term_of, numbers_below, AreVariants}
use Rattle.and_model.specs.Lines.{goal_term, line}
use Rattle.and_model.specs.Listing.{outcome_of, Ends}
use Rattle.and_model.specs.declared.reference.Ref.{Ref}
use Rattle.and_model.specs.declared.reference.Ref.TheVariants.{Cell}
use Rattle.and_laws.proofs.Deciding.{closes_total}
use Rattle.and_laws.proofs.Printing.{variants_line, one_line}
use Rattle.and_laws.proofs.Ordered.{contains_cases, contains_none}
use Rattle.and_laws.proofs.Substitutions.{then, apply_then}
use Rattle.and_laws.proofs.Unifying.{unify}
use Rattle.and_cells.specs.Ranges.{NamedProgram}
use Rattle.and_cells.specs.Meaning.{StandsFor}
use Rattle.and_branch_laws.specs.OwnVariables.{IsLoaded}
use Rattle.and_branch_laws.specs.Variables.{SpeaksOf, ArithmeticSpeaksOf, IsVariable}
use Rattle.and_branch_laws.specs.Tasks.{Task, take, run, arithmetic_among}
use Rattle.and_branch_laws.specs.Lines.{LineIsRead}
use Rattle.and_branch_laws.specs.Judging.{NoneIsGround, NoCall}
use Rattle.and_branch_laws.specs.Kept.{task_of, goal_of, arithmetic_kept, is_call, Kept}
use Rattle.and_branch_laws.proofs.Lists.{all_of, filter_contains}
use Rattle.and_branch_laws.proofs.Growing.{TasksSpeakOf}
use Rattle.and_branch_laws.proofs.Keeping
use Rattle.and_branch_laws.proofs.Reading.{mapped, below_cases, arithmetic_are, row_solution, row_reading, goal_read, query_read}
use Rattle.and_branch_laws.proofs.Reading.{query_speaks, tree_solution, solved_general, to_tree_term, to_row_term}
use Rattle.and_branch_laws.proofs.Judging.{closed_is, solved_solvable, tree_whole}

-- a goal of arithmetic as a term speaks of its variables
pub goal_term_speaks : (V : Path × ℕ → Type 0) (a : Arithmetic) → ArithmeticSpeaksOf V a → SpeaksOf V (goal_term a)
goal_term_speaks V (is l r) s v c = elim (Contains-append_cases (variables_of l) (variables_in (more r none)) v c) [
  | inl i ↦ s.0 v i
  | inr i ↦ elim (Contains-append_cases (variables_of r) [] v i) [ inl j ↦ s.1 v j | inr j ↦ absurd (contains_none v j) ]
]
goal_term_speaks V (compare o l r) s v c = elim (Contains-append_cases (variables_of l) (variables_in (more r none)) v c) [
  | inl i ↦ s.0 v i
  | inr i ↦ elim (Contains-append_cases (variables_of r) [] v i) [ inl j ↦ s.1 v j | inr j ↦ absurd (contains_none v j) ]
]

-- so do those among tasks that speak of them
pub among_speaks : (V : Path × ℕ → Type 0) (ts : List Task) → TasksSpeakOf V ts → (a : Arithmetic) → Contains (arithmetic_among ts) a
    → ArithmeticSpeaksOf V a
among_speaks V [] s a h = absurd (contains_none a h)
among_speaks V (take q g ∷ ts) s a h = among_speaks V ts s.1 a h
among_speaks V (run b ∷ ts) s a h = elim (contains_cases b a (arithmetic_among ts) h) [
  | inl e ↦ subst (λ (x : Arithmetic). ArithmeticSpeaksOf V x) (sym e) s.0
  | inr i ↦ among_speaks V ts s.1 a i
]

module _ (P : NamedProgram) (loaded : IsLoaded P) (rs : List Reduction) (row : List Ref) (kept : List Framed) (tree : QueryTree P.program)
    (k : Kept P rs row kept tree) where
  abbrev waits : List Arithmetic
  waits = arithmetic_among (map (task_of P.program) kept)

  -- what the cells stand for, by the variables of the tree
  abbrev terms : Substitution
  terms = then k.names (row_solution P loaded.own rs row kept tree k)

  named_term : (f : Framed) (h : Contains kept f) (n : ℕ) → row_reading P loaded.own rs row kept tree k f.goal.base n ≡ terms f.frame n
  named_term f h n =
      let z : Substitution = row_solution P loaded.own rs row kept tree k in
      ap (λ (b : ℕ). z [] (b + 1 + n)) (Keeping.base_of P loaded.own rs row kept tree k f h)
      ∙ ap (apply z) (sym (k.named f.goal.node f.frame (Keeping.place_of P loaded.own rs row kept tree k f h) n))

  pub line_read : LineIsRead P row (map goal_of (arithmetic_kept P.program kept))
  line_read = record {
    terms = terms;
    framed = arithmetic_kept P.program kept;
    waits = waits;
    goals_are = refl;
    waits_are = arithmetic_are P.program kept;
    query = λ n low. subst (λ (t : Term). StandsFor P row (Cell (0 + 1 + n)) t)
        (ap (apply (row_solution P loaded.own rs row kept tree k)) (sym (k.named 0 [] query n)))
        (query_read P loaded.own rs row kept tree k n low);
    goals = all_of (λ (f : Framed). (v : Path × ℕ) → Contains (variables_of (term_of P.program f.goal)) v
        → StandsFor P row (Cell (f.goal.base + 1 + v.1)) (terms f.frame v.1)) (arithmetic_kept P.program kept)
        (λ f c v i.
        let h : Contains kept f = filter_contains (λ (g : Framed). not (is_call (task_of P.program g))) kept f c in
        subst (λ (t : Term). StandsFor P row (Cell (f.goal.base + 1 + v.1)) t) (named_term f h v.1)
        (goal_read P loaded.own rs row kept tree k f h v i));
  }

  -- ---- Its line is that of the tree's equations

  abbrev general : Substitution
  general = tree_solution P loaded.own rs row kept tree k

  goal_to_tree : (a : Arithmetic) → Contains waits a
      → apply (then (Keeping.back_of P loaded.own rs row kept tree k) general) (apply terms (goal_term a)) ≡ apply general (goal_term a)
  goal_to_tree a h =
      let back : Substitution = Keeping.back_of P loaded.own rs row kept tree k in
      let speaks : SpeaksOf (IsVariable P rs) (goal_term a) =
      goal_term_speaks (IsVariable P rs) a
      (among_speaks (IsVariable P rs) (map (task_of P.program) kept) (Keeping.left_speaks P loaded.own rs row kept tree k) a h) in
      ap (apply (then back general)) (sym (apply_then k.names (row_solution P loaded.own rs row kept tree k) (goal_term a)))
      ∙ to_tree_term P loaded.own rs row kept tree k (goal_term a) speaks

  term_to_row : (t : Term) → apply terms (apply general t) ≡ apply terms t
  term_to_row t = to_row_term P loaded.own rs row kept tree k t ∙ apply_then k.names (row_solution P loaded.own rs row kept tree k) t

  line_variants : AreVariants
      (map (general []) (numbers_below P.program.query.variables) ++ map (λ (a : Arithmetic). apply general (goal_term a)) waits)
      (map (terms []) (numbers_below P.program.query.variables) ++ map (λ (a : Arithmetic). apply terms (goal_term a)) waits)
  line_variants =
      let ns : List ℕ = numbers_below P.program.query.variables in
      let in_tree_of : Arithmetic → Term = λ a. apply general (goal_term a) in
      let read_of : Arithmetic → Term = λ a. apply terms (goal_term a) in
      let one : Substitution = terms in
      let other : Substitution = then (Keeping.back_of P loaded.own rs row kept tree k) general in
      let first : map (apply one) (map (general []) ns) ≡ map (terms []) ns = mapped one (general []) (terms []) ns
      (λ n c. term_to_row (variable [] n)) in
      let second : map (apply one) (map in_tree_of waits) ≡ map read_of waits = mapped one in_tree_of read_of waits
      (λ a c. term_to_row (goal_term a)) in
      let third : map (apply other) (map (terms []) ns) ≡ map (general []) ns =
      mapped other (terms []) (general []) ns
      (λ n c. to_tree_term P loaded.own rs row kept tree k (variable [] n)
      (query_speaks P loaded.own rs row kept tree k n (below_cases P.program.query.variables n c))) in
      let fourth : map (apply other) (map read_of waits) ≡ map in_tree_of waits = mapped other read_of in_tree_of waits
      (λ a c. goal_to_tree a c) in (
        (
          one,
          map-append (apply one) (map (general []) ns) (map in_tree_of waits)
              ∙ ap (λ (l : List Term). l ++ map (apply one) (map in_tree_of waits)) first
              ∙ ap (λ (l : List Term). map (terms []) ns ++ l) second,
        ),
        (
          other,
          map-append (apply other) (map (terms []) ns) (map read_of waits)
              ∙ ap (λ (l : List Term). l ++ map (apply other) (map read_of waits)) third
              ∙ ap (λ (l : List Term). map (general []) ns ++ l) fourth,
        ),
      )

  line_same : line P.program general waits ≡ line P.program terms waits
  line_same =
      variants_line P.program P.program.query.variables general terms (map (λ (a : Arithmetic). apply general (goal_term a)) waits)
      (map (λ (a : Arithmetic). apply terms (goal_term a)) waits) loaded.written
      (length-map waits (λ (a : Arithmetic). apply general (goal_term a))
      ∙ sym (length-map waits (λ (a : Arithmetic). apply terms (goal_term a)))) line_variants

  -- Where no call is left and no arithmetic can run, the tree ends with the line that is read.
  pub line_ends : NoneIsGround P row kept → NoCall P kept → Ends tree (outcome_of waits (line P.program terms waits))
  line_ends none_is n =
      let (es, gs, closed) = closes_total (equations tree) (arithmetics tree) in
      let is_closed = closed_is P loaded rs row kept tree k none_is es gs closed in
      let so = solved_solvable P loaded rs row kept tree k in
      let m : (s : Substitution)
      × MostGeneral s es = elim (unify es) [ inl found ↦ found | inr bad ↦ absurd (bad (so.0, is_closed.1 so.0 so.1)) ] in
      let closed_line : line P.program m.0 gs ≡ line P.program general gs =
      one_line P.program es k.solved m.0 general gs m.1 (solved_general P loaded.own rs row kept tree k).1 is_closed.0 is_closed.1 in
      let lines : line P.program terms waits ≡ line P.program m.0 gs = sym line_same
      ∙ ap (λ (l : List Arithmetic). line P.program general l) (sym is_closed.2) ∙ sym closed_line in
      let outcomes : outcome_of waits (line P.program terms waits) ≡ outcome_of gs (line P.program m.0 gs) =
      ap (λ (l : List Arithmetic). outcome_of l (line P.program terms waits)) (sym is_closed.2) ∙ ap (outcome_of gs) lines in
      (tree_whole P loaded rs row kept tree k n, es, gs, closed, m.0, m.1, outcomes)

  -- Both together
  pub line_of_cells : (r : LineIsRead P row (map goal_of (arithmetic_kept P.program kept)))
      × (NoneIsGround P row kept → NoCall P kept → Ends tree (outcome_of r.waits (line P.program r.terms r.waits)))
  unfolding line_read
  line_of_cells = (line_read, line_ends)
