-- What a well-moded assignment promises of a whole tree under a substitution.
use Rattle.std.proofs.Common.{ℕ, zero, suc, ◌≡◌, ◌≤◌, ⊎_elim, List, [], ◌∷◌, ◌++◌, refl, sym, ap, ◌∙◌, arith, subst, length}
use Rattle.std.proofs.Common.{true, false, ℤ, Option, Some, None}
use Rattle.std.proofs.lemmas.Bool.{cases_Bool, and_from, cond-true, cond-false}
use Rattle.and_model.specs.Terms
use Rattle.and_model.specs.Terms.{Path, Term, Terms, none, more, are_ground, Substitution, apply, apply_all, framed}
use Rattle.and_model.specs.Solutions.{Solves, falsehood}
use Rattle.and_model.specs.Programs.{Program, Clause, Item, Arithmetic, call, equal, arithmetic, fail, clause_at, Of, head_in}
use Rattle.and_model.specs.Programs.{arithmetic_in}
use Rattle.and_model.specs.Programs as programs
use Rattle.and_model.specs.Arithmetic.{value}
use Rattle.and_model.specs.Closure.{needs, equals, added}
use Rattle.and_model.specs.Trees.{Agenda, agenda, Tree, done, left, by, equate, reckon, equations, arithmetics, IsWhole}
use Rattle.and_modes.specs.Modes.{Assignment, Environment, level_in, raised, is_ground_in, are_ground_in, levels_of, arguments_of, count_of}
use Rattle.and_modes.specs.Modes.{at_entry, after_item, after_items, CallsHaveLevels, WellModed}
use Rattle.and_modes.specs.declared.level.Level.TheVariants.{Any, Integer}
use Rattle.and_modes.specs.declared.level.Side.{Side}
use Rattle.and_modes.specs.declared.level.Side.TheVariants.{Called, Succeeded}
use Rattle.and_mode_laws.specs.Levels.{HasLevel, AllHaveLevels, HasItsLevels}
use Rattle.and_mode_laws.proofs.Meeting.{under, Meets, all_ground_met, level_met, raised_met, all_raised_met, levels_met}
use Rattle.and_mode_laws.proofs.Calling.{in_frame, all_in_frame, count-apply_all, clause_there, alike, levels_alike}

-- each call that a clause took has its levels on both sides
abbrev pub CallsHave : {P : Program} {ag : Agenda} → Assignment → Substitution → Tree P ag → Type 0
CallsHave m s done = Unit {0}
CallsHave m s (left t) = CallsHave m s t
CallsHave m s (by {g = g} c h t) = ((side : Side) → HasItsLevels m side s g) × CallsHave m s t
CallsHave m s (equate t) = CallsHave m s t
CallsHave m s (reckon t) = CallsHave m s t

-- the substitution gives ground terms for those that the goal waits for
abbrev pub IsReady : Substitution → Arithmetic → Type 0
IsReady s a = are_ground (apply_all s (needs a)) ≡ true

abbrev pub AllReady : Substitution → List Arithmetic → Type 0
AllReady s [] = Unit {0}
AllReady s (a ∷ gs) = IsReady s a × AllReady s gs

-- and where it does, it solves what the goal adds then
abbrev pub Obeys : Substitution → Arithmetic → Type 0
Obeys s a = IsReady s a → Solves s (added a (apply_all s (needs a)))

abbrev pub AllObey : Substitution → List Arithmetic → Type 0
AllObey s [] = Unit {0}
AllObey s (a ∷ gs) = Obeys s a × AllObey s gs

-- how many parts a tree has
abbrev pub parts : {P : Program} {ag : Agenda} → Tree P ag → ℕ
parts done = 0
parts (left t) = suc (parts t)
parts (by c h t) = suc (parts t)
parts (equate t) = suc (parts t)
parts (reckon t) = suc (parts t)

-- each arithmetic goal of the body waits for what is ground before it
abbrev pub GoalsAreReady : Assignment → Environment → List Item → Type 0
GoalsAreReady m e [] = Unit {0}
GoalsAreReady m e (call g ∷ items) = GoalsAreReady m (after_item m e (call g)) items
GoalsAreReady m e (equal a b ∷ items) = GoalsAreReady m (after_item m e (equal a b)) items
GoalsAreReady m e (arithmetic a ∷ items) = (are_ground_in e (needs a) ≡ true) × GoalsAreReady m (after_item m e (arithmetic a)) items
GoalsAreReady m e (fail ∷ items) = GoalsAreReady m (after_item m e fail) items

-- so it is in each clause and in the query
abbrev pub AllAreReady : Program → Assignment → Type 0
AllAreReady P m = (c : ℕ) → c ≤ length P.clauses → GoalsAreReady m (at_entry m (clause_at P c)) (clause_at P c).body

-- What is there of a tree behind the items with which it begins, and what follows of these.
pub record Passed {P : Program} {ag : Agenda} (m : Assignment) (s : Substitution) (q : Path) (rest : Agenda) (t : Tree P ag)
    (last : Environment) : Type 0 where
  pub tree : Tree P rest
  pub smaller : parts tree ≤ parts t
  pub whole : IsWhole tree
  pub solved : Solves s (equations tree)
  pub obeyed : AllObey s (arithmetics tree)
  pub meets : Meets (s q) last
  pub calls : CallsHave m s tree → CallsHave m s t
  pub ready : AllAreReady P m → AllReady s (arithmetics tree) → AllReady s (arithmetics t)

pub equal_met : (s : Substitution) (q : Path) (e : Environment) (a b : Term) → Meets (s q) e → apply s (framed q a) ≡ apply s (framed q b)
    → Meets (s q) (raised (raised e a (level_in e b)) b (level_in e a))
equal_met s q e a b meets same =
    let f : ℕ → Term = s q in
    let both : apply (under f) a ≡ apply (under f) b = sym (in_frame s q a) ∙ same ∙ in_frame s q b in
    let left : HasLevel (level_in e b) (apply (under f) a) = subst (HasLevel (level_in e b)) (sym both) (level_met f e meets b) in
    let right : HasLevel (level_in e a) (apply (under f) b) = subst (HasLevel (level_in e a)) both (level_met f e meets a) in
    raised_met f (raised e a (level_in e b)) (raised_met f e meets a (level_in e b) left) b (level_in e a) right

-- the terms that a goal waits for in its frame
needs_in_frame : (s : Substitution) (q : Path) (a : Arithmetic)
    → apply_all s (needs (arithmetic_in q a)) ≡ apply_all (under (s q)) (needs a)
needs_in_frame s q (programs.is l r) = ap (λ (t : Term). more t none) (in_frame s q r)
needs_in_frame s q (programs.compare o a b) =
    ap (λ (t : Term). more t (more (apply s (framed q b)) none)) (in_frame s q a)
    ∙ ap (λ (t : Term). more (apply (under (s q)) a) (more t none)) (in_frame s q b)

pub ready_in_frame : (s : Substitution) (q : Path) (e : Environment) (a : Arithmetic) → Meets (s q) e → are_ground_in e (needs a) ≡ true
    → IsReady s (arithmetic_in q a)
ready_in_frame s q e a meets ground = ap are_ground (needs_in_frame s q a) ∙ all_ground_met (s q) e meets (needs a) ground

-- `0 = 1` has no solution
pub never_false : (s : Substitution) → apply s falsehood.0 ≡ apply s falsehood.1 → ⊥
never_false s e = cc

is_number : (s : Substitution) (t : Term) (v : Option ℤ) → Solves s (equals t v) → (z : ℤ) × (apply s t ≡ Terms.number z)
is_number s t None solved = absurd (never_false s solved.0)
is_number s t (Some z) solved = (z, solved.0)

arithmetic_met : (m : Assignment) (s : Substitution) (q : Path) (e : Environment) (a : Arithmetic) → Meets (s q) e
    → Obeys s (arithmetic_in q a)
    → Meets (s q) (after_item m e (arithmetic a))
arithmetic_met m s q e (programs.is l r) meets obeys =
    let P : Environment → Type 0 = λ d. Meets (s q) d in
    let after : Environment = raised e l Integer in
    ⊎_elim
    (λ (ground : is_ground_in e r ≡ true).
    let ready : are_ground_in e (more r none) ≡ true = and_from (is_ground_in e r) true ground refl in
    let found = is_number s (framed q l) (value (apply s (framed q r))) (obeys (ready_in_frame s q e (programs.is l r) meets ready)) in
    let level : HasLevel Integer (apply (under (s q)) l) = (found.0, sym (in_frame s q l) ∙ found.1) in
    subst P (sym (cond-true (is_ground_in e r) after e ground)) (raised_met (s q) e meets l Integer level))
    (λ (other : is_ground_in e r ≡ false). subst P (sym (cond-false (is_ground_in e r) after e other)) meets)
    (cases_Bool (is_ground_in e r))
arithmetic_met m s q e (programs.compare o a b) meets obeys = meets

-- What the body of a clause promises of the call that it took.
took : (P : Program) (m : Assignment) (s : Substitution) (q p : Path) (g : Term) (c : ℕ) → Of P (framed q g) c
    → apply s (framed q g) ≡ apply s (head_in P p c) → (side : Side)
    → AllHaveLevels (levels_of m (clause_at P c).head side) 0 (apply_all (under (s p)) (arguments_of (clause_at P c).head))
    → AllHaveLevels (levels_of m g side) 0 (apply_all (under (s q)) (arguments_of g))
took P m s q p g c h e side have =
    let id : Type 0 → Type 0 = λ A. A in
    subst id (sym (levels_alike m side (s q) (s p) g (clause_at P c).head (alike P s q p g c h e))) have

takes : (P : Program) (m : Assignment) (s : Substitution) (q p : Path) (g : Term) (c : ℕ) → Of P (framed q g) c
    → apply s (framed q g) ≡ apply s (head_in P p c) → (side : Side)
    → AllHaveLevels (levels_of m g side) 0 (apply_all (under (s q)) (arguments_of g))
    → AllHaveLevels (levels_of m (clause_at P c).head side) 0 (apply_all (under (s p)) (arguments_of (clause_at P c).head))
takes P m s q p g c h e side have =
    let id : Type 0 → Type 0 = λ A. A in
    subst id (levels_alike m side (s q) (s p) g (clause_at P c).head (alike P s q p g c h e)) have

-- the levels of a goal of a clause, in its frame
goal_in_frame : (m : Assignment) (s : Substitution) (q : Path) (g : Term) (side : Side)
    → AllHaveLevels (levels_of m g side) 0 (apply_all (under (s q)) (arguments_of g)) → HasItsLevels m side s (framed q g)
goal_in_frame m s q (Terms.variable r k) side have = tt
goal_in_frame m s q (Terms.number z) side have = tt
goal_in_frame m s q (Terms.compound c ts) side have =
    let P : ℕ → Terms → Type 0 = λ n us. AllHaveLevels (λ place. m c n place side) 0 us in
    let framed_ones : Terms = apply_all (λ r k. Terms.variable q k) ts in
    subst (λ (n : ℕ). P n (apply_all s framed_ones)) (sym (count-apply_all (λ r k. Terms.variable q k) ts))
    (subst (λ (us : Terms). P (count_of ts) us) (sym (all_in_frame s q ts)) have)

both_sides : (m : Assignment) (s : Substitution) (q : Path) (g : Term)
    → AllHaveLevels (levels_of m g Called) 0 (apply_all (under (s q)) (arguments_of g))
    → AllHaveLevels (levels_of m g Succeeded) 0 (apply_all (under (s q)) (arguments_of g)) → (side : Side)
    → HasItsLevels m side s (framed q g)
both_sides m s q g called succeeded Called = goal_in_frame m s q g Called called
both_sides m s q g called succeeded Succeeded = goal_in_frame m s q g Succeeded succeeded

module _ (P : Program) (m : Assignment) (s : Substitution) (well : WellModed P m) where
  -- Going past items: n is at least as many as the parts of the tree.
  pub past : (n : ℕ) (q : Path) (i : ℕ) (items : List Item) (rest : Agenda) (t : Tree P (agenda q i items rest)) (e : Environment)
      → parts t ≤ n → IsWhole t → Solves s (equations t) → AllObey s (arithmetics t) → Meets (s q) e
      → CallsHaveLevels m e items → (AllAreReady P m → GoalsAreReady m e items) → Passed m s q rest t (after_items m e items)
  past n q i [] rest t e few whole solved obeyed meets calls ready = record {
    tree = t;
    smaller = omega arith;
    whole = whole;
    solved = solved;
    obeyed = obeyed;
    meets = meets;
    calls = λ c. c;
    ready = λ safe r. r;
  }
  past zero q i (call g ∷ items) rest (by c h t) e few whole solved obeyed meets calls ready = absurd (omega arith)
  past zero q i (call g ∷ items) rest (left t) e few whole solved obeyed meets calls ready = elim whole [ ]
  past (suc n) q i (call g ∷ items) rest (left t) e few whole solved obeyed meets calls ready = elim whole [ ]
  past (suc n) q i (call g ∷ items) rest (by c h t) e few whole solved obeyed meets calls ready =
      let p : Path = q ++ i ∷ [] in
      let k : Clause = clause_at P c in
      let there : c ≤ length P.clauses = clause_there P (framed q g) c h in
      let called = levels_met (s q) e meets (levels_of m g Called) 0 (arguments_of g) calls.0 in
      let entry : Meets (s p) (at_entry m k) =
      all_raised_met (s p) (λ v. Any) (λ v. tt) (levels_of m k.head Called) 0 (arguments_of k.head)
      (takes P m s q p g c h solved.0 Called called) in
      let body : Passed m s p (agenda q (suc i) items rest) t (after_items m (at_entry m k) k.body) =
      past n p 0 k.body (agenda q (suc i) items rest) t (at_entry m k) (omega arith) whole solved.1 obeyed entry (well c there).0
      (λ safe. safe c there) in
      let succeeded =
      took P m s q p g c h solved.0 Succeeded
      (levels_met (s p) (after_items m (at_entry m k) k.body) body.meets (levels_of m k.head Succeeded) 0 (arguments_of k.head)
      (well c there).1) in
      let after : Environment = after_item m e (call g) in
      let now : Meets (s q) after = all_raised_met (s q) e meets (levels_of m g Succeeded) 0 (arguments_of g) succeeded in
      let fewer = body.smaller in
      let more : Passed m s q rest body.tree (after_items m after items) =
      past n q (suc i) items rest body.tree after (omega arith) body.whole body.solved body.obeyed now calls.1 ready in
      let fewest = more.smaller in
      record {
        tree = more.tree;
        smaller = omega arith;
        whole = more.whole;
        solved = more.solved;
        obeyed = more.obeyed;
        meets = more.meets;
        calls = λ rest_has. (both_sides m s q g called succeeded, body.calls (more.calls rest_has));
        ready = λ safe rest_is. body.ready safe (more.ready safe rest_is);
      }
  past zero q i (equal a b ∷ items) rest (equate t) e few whole solved obeyed meets calls ready = absurd (omega arith)
  past (suc n) q i (equal a b ∷ items) rest (equate t) e few whole solved obeyed meets calls ready =
      let after : Environment = after_item m e (equal a b) in
      let more : Passed m s q rest t (after_items m after items) =
      past n q (suc i) items rest t after (omega arith) whole solved.1 obeyed (equal_met s q e a b meets solved.0) calls ready in
      let fewer = more.smaller in
      record {
        tree = more.tree;
        smaller = omega arith;
        whole = more.whole;
        solved = more.solved;
        obeyed = more.obeyed;
        meets = more.meets;
        calls = more.calls;
        ready = more.ready;
      }
  past zero q i (arithmetic a ∷ items) rest (reckon t) e few whole solved obeyed meets calls ready = absurd (omega arith)
  past (suc n) q i (arithmetic a ∷ items) rest (reckon t) e few whole solved obeyed meets calls ready =
      let after : Environment = after_item m e (arithmetic a) in
      let more : Passed m s q rest t (after_items m after items) =
      past n q (suc i) items rest t after (omega arith) whole solved obeyed.1 (arithmetic_met m s q e a meets obeyed.0) calls
      (λ safe. (ready safe).1) in
      let fewer = more.smaller in
      record {
        tree = more.tree;
        smaller = omega arith;
        whole = more.whole;
        solved = more.solved;
        obeyed = more.obeyed;
        meets = more.meets;
        calls = more.calls;
        ready = λ safe rest_is. (ready_in_frame s q e a meets (ready safe).0, more.ready safe rest_is);
      }
  past n q i (fail ∷ items) rest (equate t) e few whole solved obeyed meets calls ready = absurd (never_false s solved.0)
