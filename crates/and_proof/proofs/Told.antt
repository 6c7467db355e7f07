-- What is read in the cells for a proof that is kept there, and that it is the proof's.
use Rattle.std.proofs.Common.{ℕ, ◌≡◌, ◌+◌, not, Bool, true, false, cond, List, [], ◌∷◌, length, map, refl, sym, ap, ◌∙◌}
use Rattle.std.proofs.Common.{subst, inl, inr, arith, Contains}
use Rattle.std.specs.Prelude.{All}
use Rattle.std.proofs.lemmas.List.Elements.{All-map}
use Rattle.and_model.specs.Terms.{Path, Term, variable, framed, variables_of, Substitution, apply}
use Rattle.and_model.specs.Solutions.{MostGeneral}
use Rattle.and_model.specs.Programs.{Arithmetic}
use Rattle.and_model.specs.Trees.{QueryTree, equations, arithmetics}
use Rattle.and_model.specs.Reductions.{Reduction, query}
use Rattle.and_model.specs.Stands.{Framed, in_tree, term_of}
use Rattle.and_model.specs.Lines.{Bytes, goal_term}
use Rattle.and_model.specs.declared.goal.Goal.{Goal}
use Rattle.and_model.specs.declared.reference.Ref.{Ref}
use Rattle.and_model.specs.declared.reference.Ref.TheVariants.{Cell}
use Rattle.and_laws.proofs.Deciding.{closes_total}
use Rattle.and_laws.proofs.Ordered.{contains_first, contains_more}
use Rattle.and_laws.proofs.Printing.{Twins}
use Rattle.and_laws.proofs.Substitutions.{then, apply_then}
use Rattle.and_laws.proofs.Unifying.{unify}
use Rattle.and_cells.specs.Ranges.{NamedProgram, IsGoalInRange}
use Rattle.and_cells.specs.Meaning.{StandsFor}
use Rattle.and_cell_laws.proofs.Images.{contains_image}
use Rattle.and_branch_laws.specs.OwnVariables.{IsLoaded}
use Rattle.and_branch_laws.specs.Variables.{SpeaksOf, IsVariable}
use Rattle.and_branch_laws.specs.Tasks.{arithmetic_among}
use Rattle.and_branch_laws.specs.Judging.{NoneIsGround, NoCall}
use Rattle.and_branch_laws.specs.Kept.{task_of, is_call, goal_of, arithmetic_kept, Kept}
use Rattle.and_branch_laws.proofs.Judging.{closed_is, solved_solvable, tree_whole}
use Rattle.and_branch_laws.proofs.Keeping
use Rattle.and_branch_laws.proofs.Lists.{all_of}
use Rattle.and_branch_laws.proofs.Owning.{term_speaks}
use Rattle.and_branch_laws.proofs.Reading.{row_solution, row_reading, cell_read, goal_read, query_read, query_speaks, tree_solution, solved_general}
use Rattle.and_branch_laws.proofs.Reading.{to_tree_term, to_row_term, arithmetic_are}
use Rattle.and_branch_laws.proofs.Speaking.{speaks_applied, speaks_variable}
use Rattle.and_branch_laws.proofs.Lining.{goal_term_speaks, among_speaks}
use Rattle.and_print.specs.Given.{Given, GivesGoal}
use Rattle.and_proof.specs.Proofs.{Replaced, all_replaced, solved_by, proof_of, ProofText}
use Rattle.and_proof.specs.Unfolding.{IsTaken, AreTaken, IsWholeIn, AllWait, IsProved}
use Rattle.and_proof.specs.Written.{IsCallRead, AreCallsRead}
use Rattle.and_proof.specs.declared.goals.Taken.{Taken}
use Rattle.and_proof.proofs.OneText.{general_one}
use Rattle.and_proof.proofs.Variants.{AreAlike, one_proof}

-- ---- What goals and calls speak of

-- where no kept goal is a call, all are arithmetic
pub all_arithmetic : (P : NamedProgram) (kept : List Framed) → NoCall P kept → arithmetic_kept P.program kept ≡ kept
all_arithmetic P [] n = refl
all_arithmetic P (f ∷ kept) n =
    let none_is : is_call (task_of P.program f) ≡ false = other (is_call (task_of P.program f)) (n f (contains_first f kept)) in
    ap (λ b. cond (not b) (f ∷ arithmetic_kept P.program kept) (arithmetic_kept P.program kept)) none_is
    ∙ ap (λ l. f ∷ l) (all_arithmetic P kept (λ g i. n g (contains_more f g kept i)))
  where
    other : (b : Bool) → (b ≡ true → ⊥) → b ≡ false
    other true h = absurd (h refl)
    other false h = refl

module _ (P : NamedProgram) (loaded : IsLoaded P) (rs : List Reduction) (row : List Ref) (waiting : List Goal) (tree : QueryTree P.program)
    (x : IsWholeIn P rs row waiting tree) where
  abbrev kept : List Framed
  kept = x.kept

  abbrev k : Kept P rs row x.kept tree
  k = x.keeps

  abbrev pub waits : List Arithmetic
  waits = arithmetic_among (map (task_of P.program) x.kept)

  -- what the cells stand for, by the variables of the tree
  abbrev pub terms : Substitution
  terms = let y = x.keeps in then y.names (row_solution P loaded.own rs row x.kept tree x.keeps)

  pub named_term : (f : Framed) (h : Contains x.kept f) (n : ℕ) → row_reading P loaded.own rs row x.kept tree x.keeps f.goal.base n ≡ terms f.frame n
  named_term f h n =
      let y = x.keeps in
      let z : Substitution = row_solution P loaded.own rs row x.kept tree x.keeps in
      ap (λ (b : ℕ). z [] (b + 1 + n)) (Keeping.base_of P loaded.own rs row x.kept tree x.keeps f h)
      ∙ ap (apply z) (sym (y.named f.goal.node f.frame (Keeping.place_of P loaded.own rs row x.kept tree x.keeps f h) n))

  -- What a line is written of.
  abbrev pub given : Given P row waiting
  given =
      let y = x.keeps in
      let all : arithmetic_kept P.program x.kept ≡ x.kept = all_arithmetic P x.kept x.no_call in
      record {
        terms = terms;
        framed = x.kept;
        waits = waits;
        goals_are = x.goals;
        waits_are = ap (map (in_tree P.program)) (sym all) ∙ arithmetic_are P.program x.kept;
        query = λ n low. subst (λ (t : Term). StandsFor P row (Cell (0 + 1 + n)) t)
            (ap (apply (row_solution P loaded.own rs row x.kept tree x.keeps)) (sym (y.named 0 [] query n)))
            (query_read P loaded.own rs row x.kept tree x.keeps n low);
        goals = all_of (GivesGoal P row terms) x.kept (λ f h v c.
            subst (λ (t : Term). StandsFor P row (Cell (f.goal.base + 1 + v.1)) t) (named_term f h v.1)
            (goal_read P loaded.own rs row x.kept tree x.keeps f h v c));
      }

  pub goals_in_range : All (IsGoalInRange P (length row)) waiting
  goals_in_range =
      let y = x.keeps in
      subst (All (IsGoalInRange P (length row))) x.goals (All-map (IsGoalInRange P (length row)) goal_of x.kept y.in_range)

  -- ---- Calls

  module _ (e : Taken) (r : Replaced) (y : IsTaken P rs (length row) e r) where
    abbrev f : Framed
    f = y.framed

    abbrev variable_of : (v : Path × ℕ) → Contains (variables_of (term_of P.program e.call)) v → IsVariable P rs (f.frame, v.1)
    variable_of v c = record {
      node = f.goal.node;
      clause = f.goal.clause.0;
      place = y.there.0;
      clause_is = y.there.1;
      own = (term_speaks P loaded.own f.goal v (subst (λ (g : Goal). Contains (variables_of (term_of P.program g)) v) (sym y.goal) c)).1;
    }

    call_speaks : SpeaksOf (IsVariable P rs) r.call
    call_speaks =
        let t : Term = term_of P.program f.goal in
        subst (SpeaksOf (IsVariable P rs)) (sym y.call_is)
        (speaks_applied (λ (v : Path × ℕ). Contains (variables_of t) v) (IsVariable P rs) (λ q n. variable f.frame n) t
        (λ v c. speaks_variable (IsVariable P rs) f.frame v.1
        (variable_of v (subst (λ (g : Goal). Contains (variables_of (term_of P.program g)) v) y.goal c))) (λ v c. c))

    cell_stands : (v : Path × ℕ) → Contains (variables_of (term_of P.program e.call)) v
        → StandsFor P row (Cell (e.call.base + 1 + v.1)) (terms f.frame v.1)
    cell_stands v c =
        let z = x.keeps in
        let i = variable_of v c in
        let node : f.goal.node ≡ e.call.base = ap (λ (g : Goal). g.node) y.goal ∙ sym y.based in
        let read = cell_read P loaded.own rs row x.kept tree x.keeps (f.frame, v.1) i in
        let named : row_reading P loaded.own rs row x.kept tree x.keeps f.goal.node v.1 ≡ terms f.frame v.1 =
        ap (apply (row_solution P loaded.own rs row x.kept tree x.keeps)) (sym (z.named f.goal.node f.frame y.there.0 v.1)) in
        subst (λ (n : ℕ). StandsFor P row (Cell (n + 1 + v.1)) (terms f.frame v.1)) node
        (subst (λ (t : Term). StandsFor P row (Cell (f.goal.node + 1 + v.1)) t) named read)

    call_read : IsCallRead P row e (solved_by terms r)
    call_read = record {
      means = record {
        in_range = y.in_range;
        values = λ q n. terms f.frame n;
        cells = cell_stands;
        term = ap (apply terms) (y.call_is ∙ ap (λ (g : Goal). framed f.frame (term_of P.program g)) y.goal)
            ∙ apply_then (λ q n. variable f.frame n) terms (term_of P.program e.call);
      };
      term = y.term;
      is_call = y.is_call;
      depth = y.depth;
      clause = y.clause;
      numbered = y.numbered;
    }

  pub calls_read : (es : List Taken) (all : List Replaced) → AreTaken P rs (length row) es all → AreCallsRead P row es (map (solved_by terms) all)
  calls_read [] [] a = tt
  calls_read [] (r ∷ rest) a = elim a [ ]
  calls_read (e ∷ es) [] a = elim a [ ]
  calls_read (e ∷ es) (r ∷ rest) a = (call_read e r a.0, calls_read es rest a.1)

  -- ---- The proof of the tree

  abbrev general : Substitution
  general = tree_solution P loaded.own rs row x.kept tree x.keeps

  abbrev returning : Substitution
  returning = then (Keeping.back_of P loaded.own rs row x.kept tree x.keeps) general

  forth : (t : Term) → apply terms (apply general t) ≡ apply terms t
  forth t = let y = x.keeps in to_row_term P loaded.own rs row x.kept tree x.keeps t
      ∙ apply_then y.names (row_solution P loaded.own rs row x.kept tree x.keeps) t

  back : (t : Term) → SpeaksOf (IsVariable P rs) t → apply returning (apply terms t) ≡ apply general t
  back t speaks = let y = x.keeps in
      ap (apply returning) (sym (apply_then y.names (row_solution P loaded.own rs row x.kept tree x.keeps) t))
      ∙ to_tree_term P loaded.own rs row x.kept tree x.keeps t speaks

  goals_twin : (gs : List Arithmetic) → ((a : Arithmetic) → Contains gs a → SpeaksOf (IsVariable P rs) (goal_term a))
      → Twins returning terms (map (λ g. apply general (goal_term g)) gs) (map (λ g. apply terms (goal_term g)) gs)
  goals_twin [] s = tt
  goals_twin (g ∷ gs) s =
      (sym (forth (goal_term g)), sym (back (goal_term g) (s g (contains_first g gs))), goals_twin gs (λ a i. s a (contains_more g a gs i)))

  calls_alike : (es : List Taken) (all : List Replaced) → AreTaken P rs (length row) es all
      → AreAlike returning terms (map (solved_by general) all) (map (solved_by terms) all)
  calls_alike [] [] a = tt
  calls_alike [] (r ∷ rest) a = elim a [ ]
  calls_alike (e ∷ es) [] a = elim a [ ]
  calls_alike (e ∷ es) (r ∷ rest) a =
      (refl, refl, sym (forth r.call), sym (back r.call (call_speaks e r a.0)), calls_alike es rest a.1)

  waits_speak : (a : Arithmetic) → Contains waits a → SpeaksOf (IsVariable P rs) (goal_term a)
  waits_speak a h = goal_term_speaks (IsVariable P rs) a
      (among_speaks (IsVariable P rs) (map (task_of P.program) x.kept) (Keeping.left_speaks P loaded.own rs row x.kept tree x.keeps) a h)

  -- What is read in the cells is written as what the tree's solution makes.
  read_same : (es : List Taken) (all : List Replaced) → AreTaken P rs (length row) es all
      → proof_of P.program general (map (λ g. apply general (goal_term g)) waits) (map (solved_by general) all)
      ≡ proof_of P.program terms (map (λ g. apply terms (goal_term g)) waits) (map (solved_by terms) all)
  read_same es all a =
      one_proof returning terms general terms P.program.query.variables
      (λ n low. (
        sym (forth (variable [] n)),
        sym (back (variable [] n) (query_speaks P loaded.own rs row x.kept tree x.keeps n low)),
      )) P.program loaded.written (map (λ g. apply general (goal_term g)) waits) (map (λ g. apply terms (goal_term g)) waits)
      (map (solved_by general) all) (map (solved_by terms) all) (goals_twin waits waits_speak) (calls_alike es all a)

  none_ground : AllWait P row waiting → NoneIsGround P row x.kept
  none_ground wait f a us i e read ground =
      wait f.goal (subst (λ (gs : List Goal). Contains gs f.goal) x.goals (contains_image goal_of x.kept f i)) a us e read ground

-- The text that is read in the cells is that of the proof.
pub proof_told : (P : NamedProgram) (loaded : IsLoaded P) (row : List Ref) (waiting : List Goal) (taken : List Taken) (cs : List ℕ)
    (y : IsProved P row waiting taken cs) (text : Bytes)
    → text ≡ proof_of P.program (terms P loaded y.reductions row waiting y.tree y.whole)
    (map (λ g. apply (terms P loaded y.reductions row waiting y.tree y.whole) (goal_term g)) (waits P loaded y.reductions row waiting y.tree y.whole))
    (map (solved_by (terms P loaded y.reductions row waiting y.tree y.whole)) (all_replaced y.tree))
    → ProofText P.program cs text
proof_told P loaded row waiting taken cs y text told =
    let x = y.whole in
    let z = x.keeps in
    let rs : List Reduction = y.reductions in
    let ground = none_ground P loaded rs row waiting y.tree x y.waits in
    let (es, gs, closed) = closes_total (equations y.tree) (arithmetics y.tree) in
    let is_closed = closed_is P loaded rs row x.kept y.tree x.keeps ground es gs closed in
    let so = solved_solvable P loaded rs row x.kept y.tree x.keeps in
    let m : (s : Substitution)
    × MostGeneral s es = elim (unify es) [ inl found ↦ found | inr bad ↦ absurd (bad (so.0, is_closed.1 so.0 so.1)) ] in
    let s : Substitution = general P loaded rs row waiting y.tree x in
    let ws : List Arithmetic = waits P loaded rs row waiting y.tree x in
    let all = all_replaced y.tree in
    let one = general_one P.program es z.solved m.0 s ws all m.1 (solved_general P loaded.own rs row x.kept y.tree x.keeps).1
    is_closed.0 is_closed.1 in
    let same : text ≡ proof_of P.program m.0 (map (λ g. apply m.0 (goal_term g)) gs) (map (solved_by m.0) all) =
    told ∙ sym (read_same P loaded rs row waiting y.tree x taken all y.replaced) ∙ sym one
    ∙ ap (λ l. proof_of P.program m.0 (map (λ g. apply m.0 (goal_term g)) l) (map (solved_by m.0) all)) (sym is_closed.2) in
    record {
      tree = y.tree;
      unfolds = y.unfolds;
      fits = let a = z.long in let b = x.short in omega (arith, a, b);
      whole = tree_whole P loaded rs row x.kept y.tree x.keeps x.no_call;
      solved = es;
      waits = gs;
      closed = closed;
      solution = m.0;
      general = m.1;
      text_is = same;
    }
