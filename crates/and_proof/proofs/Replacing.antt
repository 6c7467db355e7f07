-- A call that is replaced by a clause.
use Rattle.std.proofs.Common.{ℕ, suc, ◌≡◌, ◌+◌, ◌≤◌, ◌<◌, true, false, true≢false, cond, List, [], ◌∷◌, ◌++◌, length, map, reverse}
use Rattle.std.proofs.Common.{refl, ap, sym, ◌∙◌, subst, inl, inr, arith, Some, Contains, leb, ltb, ◌&&◌}
use Rattle.std.specs.Prelude.{All}
use Rattle.std.proofs.lemmas.List.{map-append, reverse-append, reverse-reverse, length-append}
use Rattle.std.proofs.lemmas.List.Elements.{All-tail, All-append, All-contains, Contains-append_left, Contains-append_right}
use Rattle.and_model.specs.Terms.{Path, Term, Terms, variable, number, compound, none, more, framed, Substitution, apply_all}
use Rattle.and_model.specs.Solutions.{Solvable}
use Rattle.and_model.specs.Programs.{Program, call, clause_at, clause_weight, is_of, Of, same_count, same_predicate}
use Rattle.and_model.specs.Trees.{QueryTree, query_agenda, Open, IsLeftmost, path, call_of, reduce, equations, Below}
use Rattle.and_model.specs.Reached.{Dead}
use Rattle.and_model.specs.Reductions.{Reduction, PlaceHas, query, reduced, Makes}
use Rattle.and_model.specs.Stands.{Framed, IsFramed, in_tree, term_of, call_in_tree, calls_left}
use Rattle.and_model.specs.declared.goal.Goal.{Goal}
use Rattle.and_model.specs.declared.limits.TheConstants.{MAX_LIMIT}
use Rattle.and_model.specs.declared.reference.Ref.{Ref}
use Rattle.and_laws.proofs.Deciding.{of_bounds}
use Rattle.and_laws.proofs.Keeping
use Rattle.and_laws.proofs.Order.{below_then, below_weight, reduce_weight, whole_has_none, clause_weighs}
use Rattle.and_laws.proofs.Ordered.{contains_first}
use Rattle.and_laws.proofs.Placing.{place_more, parent_below}
use Rattle.and_laws.proofs.Splitting.{leftmost_same, reduce_same}
use Rattle.and_laws.proofs.Unfolding.{unfolding_code}
use Rattle.and_cells.specs.Ranges.{NamedProgram, IsGoalInRange}
use Rattle.and_cells.specs.Meaning.{equations_of}
use Rattle.and_branch_laws.specs.OwnVariables.{IsLoaded}
use Rattle.and_branch_laws.specs.Tasks.{tasks}
use Rattle.and_branch_laws.specs.Reducing.{reduction_in_cells, reduction_by, body_goals}
use Rattle.and_branch_laws.specs.Settling.{widened, Settled}
use Rattle.and_branch_laws.specs.Judging.{NoCall}
use Rattle.and_branch_laws.specs.Kept.{item_at, task_of, IsCall, calls_kept, Kept}
use Rattle.and_branch_laws.proofs.Asking.{goal_cells_whole}
use Rattle.and_branch_laws.proofs.Clauses.{goal_range_more}
use Rattle.and_branch_laws.proofs.Places.{frame_within}
use Rattle.and_branch_laws.proofs.Reading
use Rattle.and_branch_laws.proofs.Stepping
use Rattle.and_branch_laws.proofs.Tasks
use Rattle.and_branch_laws.specs.Goals.{CanBeJudged}
use Rattle.and_proof.specs.Proofs.{Replaced, all_replaced, HasProof}
use Rattle.and_proof.specs.Stacks.{at_depth}
use Rattle.and_proof.specs.Unfolding.{ahead_of, IsGoal, IsTaken, AreTaken, IsUnfolding}
use Rattle.and_proof.specs.declared.goals.Ahead.{Ahead}
use Rattle.and_proof.specs.declared.goals.Goals.{Goals}
use Rattle.and_proof.specs.declared.goals.Taken.{Taken}
use Rattle.and_proof.proofs.Extending.{next_of, one_more_unfolds, one_more_replaced, first_left, none_left}
use Rattle.and_proof.proofs.Stacked.{depths_are}
use Rattle.and_proof.proofs.Stepped.{FirstOf, first_of, none_of, reverse_last, called, calls_behind, all_kinds}

-- ---- Calls and clauses of one predicate

count_applied : (s : Substitution) (ts us : Terms) → same_count (apply_all s ts) us ≡ same_count ts us
count_applied s none none = refl
count_applied s none (more u us) = refl
count_applied s (more t ts) none = refl
count_applied s (more t ts) (more u us) = count_applied s ts us

-- a call in the frame of a path has the predicate that it has in its clause
predicate_framed : (q : Path) (t h : Term) → same_predicate (framed q t) h ≡ same_predicate t h
predicate_framed q (variable r k) h = refl
predicate_framed q (number z) h = refl
predicate_framed q (compound c ts) (variable r k) = refl
predicate_framed q (compound c ts) (number z) = refl
predicate_framed q (compound c ts) (compound d us) = rw (count_applied (λ r k. variable q k) ts us) refl

of_framed : (P : Program) (q : Path) (t : Term) (c : ℕ) → is_of P (framed q t) c ≡ is_of P t c
of_framed P q t c = ap (λ b. ltb 0 c && leb c (length P.clauses) && b) (predicate_framed q t (clause_at P c).head)

-- A path is no longer than the number of its place.
path_within : (P : Program) (rs : List Reduction) (t : QueryTree P) → Makes P rs t → (n : ℕ) (q : Path) → PlaceHas rs n q → length q ≤ n
path_within P rs t m n q query = omega arith
path_within P rs t m n q (reduced r p h place) =
    let before = path_within P rs t m r.parent p place in
    let below = parent_below P rs t m r h in
    let long = length-append p (r.item ∷ []) in
    omega (arith, before, below, long)

-- ---- Calls that were replaced, in a larger tree

more_framed : (rs qs : List Reduction) (f : Framed) → ((r : Reduction) → Contains rs r → Contains qs r) → IsFramed rs f → IsFramed qs f
more_framed rs qs f grows h = (
  place_more rs qs grows f.goal.node f.frame h.0,
  elim h.1 [ inl root ↦ inl root | inr x ↦ inr (x.0, grows x.0 x.1, x.2, x.3) ],
)

more_taken : (P : NamedProgram) (rs qs : List Reduction) (words bigger : ℕ) (e : Taken) (r : Replaced)
    → ((x : Reduction) → Contains rs x → Contains qs x) → words ≤ bigger → IsTaken P rs words e r → IsTaken P qs bigger e r
more_taken P rs qs words bigger e r grows l x = record {
  framed = x.framed;
  goal = x.goal;
  there = more_framed rs qs x.framed grows x.there;
  based = x.based;
  in_range = goal_range_more P words bigger e.call l x.in_range;
  term = x.term;
  is_call = x.is_call;
  depth = x.depth;
  clause = x.clause;
  numbered = x.numbered;
  call_is = x.call_is;
}

-- with one more call behind them
taken_behind : (P : NamedProgram) (rs qs : List Reduction) (words bigger : ℕ) (es : List Taken) (all : List Replaced) (e : Taken) (r : Replaced)
    → ((x : Reduction) → Contains rs x → Contains qs x) → words ≤ bigger → AreTaken P rs words es all → IsTaken P qs bigger e r
    → AreTaken P qs bigger (es ++ e ∷ []) (all ++ r ∷ [])
taken_behind P rs qs words bigger [] [] e r grows l old new = (new, tt)
taken_behind P rs qs words bigger [] (y ∷ ys) e r grows l old new = elim old [ ]
taken_behind P rs qs words bigger (x ∷ xs) [] e r grows l old new = elim old [ ]
taken_behind P rs qs words bigger (x ∷ xs) (y ∷ ys) e r grows l old new =
    (more_taken P rs qs words bigger x y grows l old.0, taken_behind P rs qs words bigger xs ys e r grows l old.1 new)

-- ---- The leftmost call

-- the calls of an unfolding that are left
left_behind : (P : NamedProgram) (rs : List Reduction) (row : List Ref) (front back : List Framed) (t : QueryTree P.program)
    → Kept P rs row (front ++ back) t → NoCall P front → map (call_in_tree P.program) (calls_kept P.program back) ≡ calls_left t
left_behind P rs row front back t k n =
    let kept : List Framed = front ++ back in
    ap (map (call_in_tree P.program)) (sym (calls_behind P front back n))
    ∙ Reading.calls_are P.program kept ∙ Tasks.ran_calls (equations t) (tasks t) k.solved (map (task_of P.program) kept) k.ran ∙ Tasks.tasks_calls t

-- Where nothing lies ahead no call is open.
pub none_open : (P : NamedProgram) (row : List Ref) (goals : Goals) (cs : List ℕ) (x : IsUnfolding P row goals cs) → goals.ahead.items ≡ []
    → Open x.tree → ⊥
none_open P row goals cs x none_ahead =
    let empty : x.back ≡ [] = none_of ahead_of x.back (x.ahead ∙ ap reverse none_ahead) in
    let lefts = left_behind P x.reductions row x.front x.back x.tree x.keeps x.no_call in
    none_left x.tree (sym lefts ∙ ap (λ l. map (call_in_tree P.program) (calls_kept P.program l)) empty)

-- So no code goes on from it.
pub none_goes_on : (P : NamedProgram) (row : List Ref) (goals : Goals) (cs rest : List ℕ) (c : ℕ) → IsUnfolding P row goals cs → goals.ahead.items ≡ []
    → HasProof P.program (cs ++ c ∷ rest) → ⊥
none_goes_on P row goals cs rest c x none_ahead (u, unfolds, outcome, fits) =
    let n = next_of P.program cs rest c x.tree u x.unfolds unfolds in none_open P row goals cs x none_ahead n.0

module _ (P : NamedProgram) (loaded : IsLoaded P) (row : List Ref) (goals : Goals) (cs : List ℕ) (rest : List Ahead) (next : Ahead) (term : Term)
    (x : IsUnfolding P row goals cs) (ahead : goals.ahead.items ≡ rest ++ next ∷ []) (item : item_at P.program next.goal ≡ call term) where
  at_next : FirstOf ahead_of x.back next (reverse rest)
  at_next = first_of ahead_of x.back next (reverse rest) (x.ahead ∙ ap reverse ahead ∙ reverse_last rest next)

  abbrev f : Framed
  f = (at_next).first

  goal_is : (at_next).first.goal ≡ next.goal
  goal_is = let n = at_next in ap (λ (a : Ahead). a.goal) n.first_is

  keeps : Kept P x.reductions row (x.front ++ f ∷ (at_next).rest) x.tree
  keeps = let n = at_next in subst (λ l. Kept P x.reductions row (x.front ++ l) x.tree) n.is x.keeps

  f_kept : Contains (x.front ++ f ∷ (at_next).rest) f
  f_kept = let n = at_next in Contains-append_right x.front (f ∷ n.rest) f (contains_first f n.rest)

  f_called : IsCall P.program f
  f_called = called P.program f term (ap (λ (g : Goal). item_at P.program g) goal_is ∙ item)

  -- The next goal can be taken.
  pub next_can : CanBeJudged P row next.goal
  next_can =
      let k = keeps in
      let n = at_next in
      subst (λ (g : Goal). CanBeJudged P row g) goal_is (record {
        in_range = All-contains (λ (h : Framed). IsGoalInRange P (length row) h.goal) (x.front ++ f ∷ n.rest) f k.in_range f_kept;
        term = term;
        is_call = ap (λ (g : Goal). item_at P.program g) goal_is ∙ item;
        whole = goal_cells_whole P loaded.own x.reductions row (x.front ++ f ∷ n.rest) x.tree k f f_kept;
      })

  -- Its depth is small.
  pub depth_fits : next.depth ≤ MAX_LIMIT
  depth_fits =
      let n = at_next in
      let k = keeps in
      let here : IsFramed x.reductions f = All-contains (IsFramed x.reductions) (x.front ++ f ∷ n.rest) f k.framed f_kept in
      let deep = path_within P.program x.reductions x.tree k.made f.goal.node f.frame here.0 in
      let within = frame_within P.program x.reductions x.tree k.made f.goal.node f.goal.clause.0 here.1 in
      let weighs = clause_weighs (clause_at P.program f.goal.clause.0) in
      let depth : suc (length f.frame) ≡ next.depth = ap (λ (a : Ahead). a.depth) n.first_is in
      let long = k.long in
      let short = x.short in
      omega (arith, deep, within, weighs, depth, long, short)

  -- It is the leftmost open call.
  abbrev AtCall : Type 0
  AtCall = (o : Open x.tree) × IsLeftmost x.tree o × (path x.tree o ≡ f.frame ++ f.goal.item ∷ []) × (call_of x.tree o ≡ in_tree P.program f)

  open_call : AtCall
  open_call =
      let n = at_next in
      let lefts = left_behind P x.reductions row x.front (f ∷ n.rest) x.tree keeps x.no_call in
      let calls : calls_kept P.program (f ∷ n.rest) ≡ f ∷ calls_kept P.program n.rest = first_call f n.rest f_called in
      first_left x.tree (f.frame ++ f.goal.item ∷ []) (in_tree P.program f) (map (call_in_tree P.program) (calls_kept P.program n.rest))
      (sym lefts ∙ ap (map (call_in_tree P.program)) calls)
    where
      first_call : (g : Framed) (l : List Framed) → IsCall P.program g → calls_kept P.program (g ∷ l) ≡ g ∷ calls_kept P.program l
      first_call g l c = ap (λ b. cond b (g ∷ calls_kept P.program l) (calls_kept P.program l)) c

  -- A clause of which it is not takes it in no code,
  pub other_predicate : (c : ℕ) (others : List ℕ) → is_of P.program (term_of P.program next.goal) c ≡ false
      → HasProof P.program (cs ++ c ∷ others) → ⊥
  other_predicate c others other (u, unfolds, outcome, fits) =
      let (o, first, where_is, call_is) = open_call in
      let (p, leftmost, of_it, above) = next_of P.program cs others c x.tree u x.unfolds unfolds in
      let same : p ≡ o = leftmost_same x.tree p o leftmost first in
      let is : call_of x.tree p ≡ in_tree P.program f = ap (call_of x.tree) same ∙ call_is in
      true≢false (sym of_it ∙ ap (λ t. is_of P.program t c) is ∙ of_framed P.program f.frame (term_of P.program f.goal) c
      ∙ ap (λ (g : Goal). is_of P.program (term_of P.program g) c) goal_is ∙ other)

  -- nor one that is too heavy.
  pub too_heavy : (c : ℕ) (others : List ℕ) → MAX_LIMIT < length row + clause_weight (clause_at P.program c) → HasProof P.program (cs ++ c ∷ others) → ⊥
  too_heavy c others heavy (u, unfolds, outcome, fits) =
      let (p, leftmost, of_it, above) = next_of P.program cs others c x.tree u x.unfolds unfolds in
      let k = x.keeps in
      absurd (omega (arith, heavy, fits, below_weight above, reduce_weight x.tree p c of_it, k.long))

  -- It is left where the code ends, so it has no outcome.
  pub not_whole : HasProof P.program cs → ⊥
  not_whole (u, unfolds, outcome, fits) =
      let same : x.tree ≡ u = some_same x.tree u (sym x.unfolds ∙ unfolds) in
      whole_has_none u outcome.2 (subst (λ t. Open t) same (open_call).0)
    where
      some_same : {X : Type 0} (a b : X) → Some a ≡ Some b → a ≡ b
      some_same a b e = cc

  module _ (c : ℕ) (of_it : is_of P.program (term_of P.program next.goal) c ≡ true)
      (fits : length row + clause_weight (clause_at P.program c) ≤ MAX_LIMIT) where
    of_call : Of P.program (call_of x.tree (open_call).0) c
    of_call = ap (λ t. is_of P.program t c) (open_call).3 ∙ of_framed P.program f.frame (term_of P.program f.goal) c
        ∙ ap (λ (g : Goal). is_of P.program (term_of P.program g) c) goal_is ∙ of_it

    abbrev after_it : QueryTree P.program
    after_it = reduce x.tree (open_call).0 c of_call

    -- Where what the clause asks has no solution, no code with it has an outcome.
    pub reduced_dead : (others : List ℕ)
        → (Solvable (equations_of P (widened row (clause_weight (clause_at P.program c))) ++ reduction_in_cells P.program next.goal c
        (length row)) → ⊥)
        → HasProof P.program (cs ++ c ∷ others) → ⊥
    reduced_dead others none_is (u, unfolds, outcome, light) =
        let n = at_next in
        let (p, leftmost, of_it_too, above) = next_of P.program cs others c x.tree u x.unfolds unfolds in
        let dead : Dead after_it = Stepping.unsolved_reductions_die P loaded x.reductions row x.front f n.rest x.tree keeps f_called
        (open_call).0 (open_call).2 c of_call
        (subst (λ (g : Goal). Solvable (equations_of P (widened row (clause_weight (clause_at P.program c)))
        ++ reduction_in_cells P.program g c (length row)) → ⊥) (sym goal_is) none_is) in
        let below : Below P.program (query_agenda P.program) after_it u =
        below_then above (reduce_same x.tree (open_call).0 p c of_call of_it_too (open_call).1 leftmost) in
        Keeping.dead_has_none after_it u below outcome dead

    -- Else the code with the clause is unfolded.
    pub entered : (new : List Ref) (after : Goals)
        → Settled P (widened row (clause_weight (clause_at P.program c))) new (reduction_in_cells P.program next.goal c (length row))
        → after.ahead.items ≡ rest ++ reverse (map (at_depth (next.depth + 1)) (body_goals c (length row) [] 0 (clause_at P.program c).body))
        → after.passed.items ≡ goals.passed.items
        → after.taken.items ≡ goals.taken.items ++ record { call = next.goal; clause = record { 0 = c }; depth = next.depth } ∷ []
        → IsUnfolding P new after (cs ++ c ∷ [])
    entered new after settled ahead_is passed_is taken_is =
        let n = at_next in
        let o : Open x.tree = (open_call).0 in
        let q : Path = f.frame ++ f.goal.item ∷ [] in
        let body : List Framed = body_goals c (length row) q 0 (clause_at P.program c).body in
        let plain : List Framed = body_goals c (length row) [] 0 (clause_at P.program c).body in
        let rs : List Reduction = x.reductions ++ reduction_by f.goal c (length row) ∷ [] in
        let kept : Kept P rs new (x.front ++ (body ++ n.rest)) after_it =
        Stepping.reductions_keep P loaded x.reductions row x.front f n.rest x.tree keeps f_called o (open_call).2 c of_call new
        (subst (λ (g : Goal). Settled P (widened row (clause_weight (clause_at P.program c))) new
        (reduction_in_cells P.program g c (length row))) (sym goal_is) settled) in
        let depth : suc (length f.frame) ≡ next.depth = ap (λ (a : Ahead). a.depth) n.first_is in
        let deep : length q ≡ next.depth = length-append f.frame (f.goal.item ∷ []) ∙ one_more (length f.frame) ∙ depth in
        let deeper : suc (length q) ≡ next.depth + 1 = omega (arith, deep) in
        let inner : map ahead_of body ≡ map (at_depth (next.depth + 1)) plain =
        depths_are c (length row) q 0 (clause_at P.program c).body ∙ ap (λ d. map (at_depth d) plain) deeper in
        let put : List Ahead = map (at_depth (next.depth + 1)) plain in
        let stack : reverse after.ahead.items ≡ put ++ reverse rest =
        ap reverse ahead_is ∙ reverse-append rest (reverse put) ∙ ap (λ l. l ++ reverse rest) (reverse-reverse put) in
        let whole_path : length (path x.tree o) ≡ next.depth = ap length (open_call).2 ∙ deep in
        let k = keeps in
        let weighs : length new ≡ length row + clause_weight (clause_at P.program c) =
        let a = kept.long in let b = k.long in omega (arith, a, b, reduce_weight x.tree o c of_call) in
        let grows : (r : Reduction) → Contains x.reductions r → Contains rs r =
        λ r i. Contains-append_left x.reductions (reduction_by f.goal c (length row) ∷ []) r i in
        let e : Taken = record { call = next.goal; clause = record { 0 = c }; depth = next.depth } in
        let r : Replaced = record { depth = length (path x.tree o); clause = c; call = call_of x.tree o } in
        let here : IsFramed x.reductions f = All-contains (IsFramed x.reductions) (x.front ++ f ∷ n.rest) f k.framed f_kept in
        let can = next_can in
        let one : IsTaken P rs (length new) e r = record {
          framed = f;
          goal = goal_is;
          there = more_framed x.reductions rs f grows here;
          based = subst (λ (g : Goal). g.base ≡ g.node) goal_is
              (All-contains (λ (h : Framed). h.goal.base ≡ h.goal.node) (x.front ++ f ∷ n.rest) f k.based f_kept);
          in_range = goal_range_more P (length row) (length new) next.goal (omega (arith, weighs)) can.in_range;
          term = term;
          is_call = item;
          depth = whole_path;
          clause = refl;
          numbered = (of_bounds P.program (call_of x.tree o) c of_call).1;
          call_is = (open_call).3;
        } in
        let codes = unfolding_code P.program cs x.tree x.unfolds in
        let all : all_replaced after_it ≡ all_replaced x.tree ++ r ∷ [] =
        one_more_replaced x.tree o c of_call (open_call).1 (codes.1 ∙ sym codes.0) in
        let taken : AreTaken P rs (length new) (goals.taken.items ++ e ∷ []) (all_replaced x.tree ++ r ∷ []) =
        taken_behind P x.reductions rs (length row) (length new) goals.taken.items (all_replaced x.tree) e r grows (omega (arith, weighs)) x.taken one in
        record {
          tree = after_it;
          unfolds = one_more_unfolds P.program cs c x.tree o of_call (open_call).1 x.unfolds;
          reductions = rs;
          front = x.front;
          back = body ++ n.rest;
          keeps = kept;
          passed = x.passed ∙ sym passed_is;
          no_call = x.no_call;
          kinds = All-append (IsGoal P) body n.rest (all_kinds P c (length row) q)
              (All-tail (IsGoal P) f n.rest (subst (All (IsGoal P)) n.is x.kinds));
          ahead = map-append ahead_of body n.rest ∙ ap (λ l. l ++ map ahead_of n.rest) inner ∙ ap (λ l. put ++ l) n.rest_is ∙ sym stack;
          taken = subst (λ es. AreTaken P rs (length new) es (all_replaced after_it)) (sym taken_is)
              (subst (λ rest. AreTaken P rs (length new) (goals.taken.items ++ e ∷ []) rest) (sym all) taken);
          short = omega (arith, weighs, fits);
        }
      where
        one_more : (n : ℕ) → n + 1 ≡ suc n
        one_more n = omega arith
