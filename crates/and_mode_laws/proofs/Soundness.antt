-- Modes are sound.
use Rattle.std.proofs.Common.{ℕ, suc, ◌≡◌, ◌≤◌, inl, inr, ⊎_elim, List, [], ◌∷◌, ◌++◌, length, map, take, get_or, refl, sym, ap, ◌∙◌}
use Rattle.std.proofs.Common.{arith, subst}
use Rattle.std.proofs.Common.{append_assoc, true}
use Rattle.std.specs.Prelude.{Contains, leb}
use Rattle.std.proofs.Math.Seq.{take-append_seam}
use Rattle.std.proofs.lemmas.Bool.{and_from}
use Rattle.std.proofs.lemmas.List.{get_or_at, map-append}
use Rattle.std.proofs.lemmas.List.Elements.{Contains-append_left, Contains-append_right}
use Rattle.and_model.specs.Terms.{Path, Term, Terms, variable, number, compound, none, more, is_ground, variables_of, variables_in}
use Rattle.and_model.specs.Terms.{Substitution, apply, apply_all}
use Rattle.and_model.specs.Solutions.{Equation, Solves, Solvable, MostGeneral}
use Rattle.and_model.specs.Programs.{Program, Item, Arithmetic, call, equal, arithmetic, fail, clause_at}
use Rattle.and_model.specs.Closure.{needs, Known, Ready}
use Rattle.and_model.specs.Candidates.{In}
use Rattle.and_model.specs.Trees.{Agenda, end, Tree, done, left, by, equate, reckon, QueryTree, equations, arithmetics, IsWhole, Closed}
use Rattle.and_model.specs.Lines.{Bytes, line}
use Rattle.and_model.specs.Listing.{Ends, floundered, answer, outcome_of}
use Rattle.and_laws.proofs.Substitutions.{apply_ground, apply_all_ground, apply_all_through}
use Rattle.and_laws.proofs.Closing
use Rattle.and_laws.proofs.Closing.{closing_keeps, closing_ran, closes_anyhow, Waits, closing_left}
use Rattle.and_laws.proofs.Unifying.{unify}
use Rattle.and_modes.specs.Modes.{rank, Assignment, Environment, is_ground_in, are_ground_in, levels_of, arguments_of, all_raised}
use Rattle.and_modes.specs.Modes.{at_entry, after_item, after_items}
use Rattle.and_modes.specs.Modes.{WellModed, waited_by, waited_at, before_item, IsSafe}
use Rattle.and_modes.specs.declared.level.Level.{Level}
use Rattle.and_modes.specs.declared.level.Level.TheVariants.{Any, Ground, Integer}
use Rattle.and_modes.specs.declared.level.Side.{Side}
use Rattle.and_modes.specs.declared.level.Side.TheVariants.{Called}
use Rattle.and_mode_laws.specs.Levels.{HasLevel, AllHaveLevels, HasItsLevels, IsTaken}
use Rattle.and_mode_laws.proofs.Meeting.{Meets}
use Rattle.and_mode_laws.proofs.WholeTrees.{CallsHave, IsReady, AllReady, Obeys, AllObey, parts, GoalsAreReady, AllAreReady, Passed, past}

-- Where no variable is at the lowest level, terms are ground.
not_any : (l : Level) → (l ≡ Any → ⊥) → leb 1 (rank l) ≡ true
not_any Any n = absurd (n refl)
not_any Ground n = refl
not_any Integer n = refl

mutual
  ground_if : (e : Environment) (t : Term) → ((k : ℕ) → Contains (map (λ (v : Path × ℕ). v.1) (variables_of t)) k → e k ≡ Any → ⊥)
      → is_ground_in e t ≡ true
  ground_if e (variable q k) n = not_any (e k) (n k (0, omega arith, refl))
  ground_if e (number z) n = refl
  ground_if e (compound c ts) n = all_ground_if e ts n

  all_ground_if : (e : Environment) (ts : Terms) → ((k : ℕ) → Contains (map (λ (v : Path × ℕ). v.1) (variables_in ts)) k → e k ≡ Any → ⊥)
      → are_ground_in e ts ≡ true
  all_ground_if e none n = refl
  all_ground_if e (more t ts) n =
      let second : Path × ℕ → ℕ = λ v. v.1 in
      let xs : List ℕ = map second (variables_of t) in
      let ys : List ℕ = map second (variables_in ts) in
      let all : map second (variables_in (more t ts)) ≡ xs ++ ys = map-append second (variables_of t) (variables_in ts) in
      and_from (is_ground_in e t) (are_ground_in e ts)
      (ground_if e t (λ k c. n k (subst (λ (zs : List ℕ). Contains zs k) (sym all) (Contains-append_left xs ys k c))))
      (all_ground_if e ts (λ k c. n k (subst (λ (zs : List ℕ). Contains zs k) (sym all) (Contains-append_right xs ys k c))))

after-append : (m : Assignment) (e : Environment) (xs : List Item) (x : Item)
    → after_items m e (xs ++ x ∷ []) ≡ after_item m (after_items m e xs) x
after-append m e [] x = refl
after-append m e (y ∷ ys) x = after-append m (after_item m e y) ys x

-- the item behind the front of a body
middle : (front items : List Item) (x : Item) → get_or (front ++ x ∷ items) (length front) fail ≡ x
middle front items x = get_or_at front x items fail (length front) refl

-- A goal of a clause that has no variable that waits is ground where it stands.
goal_is_ready : (P : Program) (m : Assignment) → IsSafe P m → (c : ℕ) → c ≤ length P.clauses → (front items : List Item) (a : Arithmetic)
    → (clause_at P c).body ≡ front ++ arithmetic a ∷ items
    → are_ground_in (after_items m (at_entry m (clause_at P c)) front) (needs a) ≡ true
goal_is_ready P m safe c there front items a body =
    let e : Environment = at_entry m (clause_at P c) in
    let here : waited_at P c (length front) ≡ waited_by (arithmetic a) =
    ap (λ (xs : List Item). waited_by (get_or xs (length front) fail)) body ∙ ap waited_by (middle front items (arithmetic a)) in
    let before : before_item P m c (length front) ≡ after_items m e front =
    ap (λ (xs : List Item). after_items m e (take (length front) xs)) body
    ∙ ap (λ (xs : List Item). after_items m e xs) (take-append_seam front (arithmetic a ∷ items)) in
    all_ground_if (after_items m e front) (needs a)
    (λ k waited any. safe (record { clause = c; item = length front; variable = k })
    (there, subst (λ (ks : List ℕ). Contains ks k) (sym here) waited, ap (λ (d : Environment). d k) before ∙ any))

step : (P : Program) (m : Assignment) (c : ℕ) (front items : List Item) (x : Item)
    → GoalsAreReady m (after_items m (at_entry m (clause_at P c)) (front ++ x ∷ [])) items
    → GoalsAreReady m (after_item m (after_items m (at_entry m (clause_at P c)) front) x) items
step P m c front items x ready =
    subst (λ (e : Environment). GoalsAreReady m e items) (after-append m (at_entry m (clause_at P c)) front x) ready

next : (front items : List Item) (x : Item) {body : List Item} → body ≡ front ++ x ∷ items → body ≡ (front ++ x ∷ []) ++ items
next front items x e = e ∙ sym (append_assoc front (x ∷ []) items)

all_goals_ready : (P : Program) (m : Assignment) → IsSafe P m → (c : ℕ) → c ≤ length P.clauses → (front items : List Item)
    → (clause_at P c).body ≡ front ++ items → GoalsAreReady m (after_items m (at_entry m (clause_at P c)) front) items
all_goals_ready P m safe c there front [] body = tt
all_goals_ready P m safe c there front (call g ∷ items) body =
    step P m c front items (call g) (all_goals_ready P m safe c there (front ++ call g ∷ []) items (next front items (call g) body))
all_goals_ready P m safe c there front (equal a b ∷ items) body =
    step P m c front items (equal a b)
    (all_goals_ready P m safe c there (front ++ equal a b ∷ []) items (next front items (equal a b) body))
all_goals_ready P m safe c there front (arithmetic a ∷ items) body = (
  goal_is_ready P m safe c there front items a body,
  step P m c front items (arithmetic a)
      (all_goals_ready P m safe c there (front ++ arithmetic a ∷ []) items (next front items (arithmetic a) body)),
)
all_goals_ready P m safe c there front (fail ∷ items) body =
    step P m c front items fail (all_goals_ready P m safe c there (front ++ fail ∷ []) items (next front items fail body))

pub safe_is_ready : (P : Program) (m : Assignment) → IsSafe P m → AllAreReady P m
safe_is_ready P m safe c there = all_goals_ready P m safe c there [] (clause_at P c).body refl

-- what a most general solution makes ground, each solution makes the same
known_of : (s : Substitution) (ds : List Equation) → MostGeneral s ds → (a : Arithmetic) → IsReady s a → Known ds a (apply_all s (needs a))
known_of s ds general a ready =
    (ready, λ u solved. apply_all_through s u (general.1 u solved) (needs a) ∙ apply_all_ground u (apply_all s (needs a)) ready)

-- nothing is behind the query's body
nothing_left : {P : Program} (m : Assignment) (s : Substitution) (t : Tree P end) → CallsHave m s t
nothing_left m s done = tt

nothing_waits : {P : Program} (s : Substitution) (t : Tree P end) → AllReady s (arithmetics t)
nothing_waits s done = tt

-- Under a most general solution of what a tree closes to, each goal whose terms are ground was run.
obeys_closed : {P : Program} {ag : Agenda} (t : Tree P ag) (ds : List Equation) (ws : List Arithmetic) → Closed t ds ws
    → (s : Substitution) → MostGeneral s ds
    → (a : Arithmetic) → In a (arithmetics t) → Obeys s a
obeys_closed t ds ws closed s general a here ready =
    closing_ran (equations t) (arithmetics t) ds ws (closes_anyhow (equations t) (arithmetics t) ds ws closed) a
    (apply_all s (needs a)) here
    (known_of s ds general a ready) s general.0

all_obey : (s : Substitution) (gs : List Arithmetic) → ((a : Arithmetic) → In a gs → Obeys s a) → AllObey s gs
all_obey s [] obeys = tt
all_obey s (a ∷ gs) obeys = (obeys a (inl refl), all_obey s gs (λ b here. obeys b (inr here)))

all_ready_in : (s : Substitution) (gs : List Arithmetic) (a : Arithmetic) → AllReady s gs → In a gs → IsReady s a
all_ready_in s [] a ready here = elim here [ ]
all_ready_in s (g ∷ gs) a ready (inl same) = let P : Arithmetic → Type 0 = λ b. IsReady s b in subst P (sym same) ready.0
all_ready_in s (g ∷ gs) a ready (inr here) = all_ready_in s gs a ready.1 here

-- the first goal that waits at the end is one of the goals, and not known
first_waits : (ds : List Equation) (gs : List Arithmetic) (w : Arithmetic) (ws : List Arithmetic) → Waits ds gs (w ∷ ws) → In w gs
    × (Ready ds w → ⊥)
first_waits ds gs w ws (Closing.waits g hs vs never rest) = (inl refl, never)
first_waits ds gs w ws (Closing.gone g hs vs ready rest) = let more = first_waits ds hs w ws rest in (inr more.0, more.1)

-- What a substitution makes of a term that has a level has it too.
level_stays : (u : Substitution) (l : Level) (t : Term) → HasLevel l t → HasLevel l (apply u t)
level_stays u Any t has = tt
level_stays u Ground t has = let P : Term → Type 0 = λ x. is_ground x ≡ true in subst P (sym (apply_ground u t has)) has
level_stays u Integer t has = (has.0, ap (apply u) has.1)

levels_stay : (u : Substitution) (levels : ℕ → Level) (i : ℕ) (ts : Terms) → AllHaveLevels levels i ts
    → AllHaveLevels levels i (apply_all u ts)
levels_stay u levels i none have = tt
levels_stay u levels i (more t ts) have = (level_stays u (levels i) t have.0, levels_stay u levels (suc i) ts have.1)

taken_has : {P : Program} {ag : Agenda} (m : Assignment) (s : Substitution) (t : Tree P ag) (goal : Term) (side : Side)
    → CallsHave m s t → IsTaken t goal → HasItsLevels m side s goal
taken_has m s done goal side have taken = elim taken [ ]
taken_has m s (left t) goal side have taken = taken_has m s t goal side have taken
taken_has m s (by c h t) goal side have (inl same) = let P : Term → Type 0 = λ g. HasItsLevels m side s g in subst P same (have.0 side)
taken_has m s (by c h t) goal side have (inr taken) = taken_has m s t goal side have.1 taken
taken_has m s (equate t) goal side have taken = taken_has m s t goal side have taken
taken_has m s (reckon t) goal side have taken = taken_has m s t goal side have taken

-- The whole tree of the query, where its equations and goals close.
module _ (P : Program) (m : Assignment) (plain : arguments_of P.query.head ≡ none) (well : WellModed P m) where
  entry_met : (f : ℕ → Term) → Meets f (at_entry m P.query)
  entry_met f = let E : Terms → Type 0 = λ ts. Meets f (all_raised (λ v. Any) (levels_of m P.query.head Called) 0 ts) in
      subst E (sym plain) (λ k. tt)

  whole_tree : (t : QueryTree P) (ds : List Equation) (ws : List Arithmetic) → IsWhole t → Closed t ds ws → (s : Substitution)
      → MostGeneral s ds
      → Passed m s [] end t (after_items m (at_entry m P.query) P.query.body)
  whole_tree t ds ws whole closed s general =
      past P m s well (parts t) [] 0 P.query.body end t (at_entry m P.query) (omega arith) whole
      (closing_keeps (equations t) (arithmetics t) ds ws (closes_anyhow (equations t) (arithmetics t) ds ws closed) s general.0)
      (all_obey s (arithmetics t) (obeys_closed t ds ws closed s general))
      (entry_met (s [])) (well 0 (omega arith)).0 (λ safe. safe 0 (omega arith))

  calls_have : (t : QueryTree P) (ds : List Equation) (ws : List Arithmetic) → IsWhole t → Closed t ds ws → (s : Substitution)
      → MostGeneral s ds → CallsHave m s t
  calls_have t ds ws whole closed s general = let p = whole_tree t ds ws whole closed s general in p.calls (nothing_left m s p.tree)

  -- no goal waits at the end
  pub none_waits : IsSafe P m → (t : QueryTree P) (ds : List Equation) (ws : List Arithmetic) → IsWhole t → Closed t ds ws
      → (s : Substitution) → MostGeneral s ds → ws ≡ []
  none_waits safe t ds [] whole closed s general = refl
  none_waits safe t ds (w ∷ ws) whole closed s general =
      let p = whole_tree t ds (w ∷ ws) whole closed s general in
      let ready : AllReady s (arithmetics t) = p.ready (safe_is_ready P m safe) (nothing_waits s p.tree) in
      let first = first_waits ds (arithmetics t) w ws
      (closing_left (equations t) (arithmetics t) ds (w ∷ ws) (closes_anyhow (equations t) (arithmetics t) ds (w ∷ ws) closed)
      (s, general.0)) in
      absurd (first.1 (apply_all s (needs w), known_of s ds general w (all_ready_in s (arithmetics t) w ready first.0)))

  -- The calls have their levels in each solution.
  pub calls_have_levels : (t : QueryTree P) (ds : List Equation) (ws : List Arithmetic) → IsWhole t → Closed t ds ws → (u : Substitution)
      → Solves u ds
      → (goal : Term) (side : Side) → IsTaken t goal → HasItsLevels m side u goal
  calls_have_levels t ds ws whole closed u solved goal side taken =
      ⊎_elim
      (λ (found : (s : Substitution) × MostGeneral s ds).
      let s : Substitution = found.0 in
      let have : HasItsLevels m side s goal = taken_has m s t goal side (calls_have t ds ws whole closed s found.1) taken in
      let E : Terms → Type 0 = λ ts. AllHaveLevels (levels_of m goal side) 0 ts in
      subst E (sym (apply_all_through s u (found.1.1 u solved) (arguments_of goal)))
      (levels_stay u (levels_of m goal side) 0 (apply_all s (arguments_of goal)) have))
      (λ (never : Solvable ds → ⊥). absurd (never (u, solved)))
      (unify ds)

  pub never_flounders : IsSafe P m → (t : QueryTree P) (text : Bytes) → Ends t (floundered text) → ⊥
  never_flounders safe t text ends =
      let nothing : ends.2 ≡ [] = none_waits safe t ends.1 ends.2 ends.0 ends.3 ends.4 ends.5 in
      let line_is : Bytes = line P ends.4 ends.2 in
      let is : floundered text ≡ answer line_is = ends.6 ∙ ap (λ (gs : List Arithmetic). outcome_of gs line_is) nothing in
      cc
