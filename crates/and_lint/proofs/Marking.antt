-- Marks of clauses, and the list of those to be gone through.
use Rattle.std.proofs.Common.{ℕ, ℤ, zero, suc, ◌+◌, ◌≡◌, ◌<◌, ◌≤◌, ◌&&◌, ◌||◌, ◌⊎◌, Bool, true, false, eqb, ltb, leb, List, [], ◌∷◌, ◌++◌, length, get_or}
use Rattle.std.proofs.Common.{set, replicate, drop, refl, sym, ap, ◌∙◌, subst, arith, inl, inr, ⊎_elim}
use Rattle.std.specs.Prelude.{Contains}
use Rattle.std.proofs.lemmas.Bool.{false≢true, cases_eq, cases_Bool, eq-eqb, eqb-true, ne_eqb, or_cases, or_left, and_parts, and_right, leb-true}
use Rattle.std.proofs.lemmas.Bool.{ltb-true}
use Rattle.std.proofs.lemmas.List.{get_or-set_same, get_or-set_other, length-set, length_push, length-replicate, drop_more}
use Rattle.std.proofs.lemmas.List.Folds.{list_any_at}
use Rattle.and_model.specs.Terms.{Term, Terms, variable, number, compound, none, more}
use Rattle.and_model.specs.Programs.{Program, Item, call, equal, arithmetic, fail, clause_at, is_of, Of, same_count, same_predicate}
use Rattle.and_model.specs.declared.numbers.ClauseNo.{ClauseNo}
use Rattle.and_program.specs.Shown.{shown_term}
use Rattle.and_program.specs.declared.node.NodeKind.TheVariants.{Variable, Number}
use Rattle.and_lint.specs.Reached.{IsReached, TellsReached, query, called}
use Rattle.and_lint.specs.Marked.{marked, unmarked, is_among, is_first_marked, AreBelow, calls, some_calls, Grows, IsEven, Marks}

pub or_false : (x y : Bool) → y ≡ false → x ≡ x || y
or_false true y e = refl
or_false false y e = sym e

or_assoc : (x y z : Bool) → (x || y) || z ≡ x || (y || z)
or_assoc true y z = refl
or_assoc false y z = refl

or_true : (x y : Bool) → y ≡ true → x || y ≡ true
or_true true y e = refl
or_true false y e = e

pub among_pushed : (ws : List ClauseNo) (m : ClauseNo) (c : ℕ) → is_among (ws ++ m ∷ []) c ≡ is_among ws c || eqb m.0 c
among_pushed [] m c = sym (or_false (eqb m.0 c) false refl)
among_pushed (w ∷ ws) m c = ap (λ (b : Bool). eqb w.0 c || b) (among_pushed ws m c) ∙ sym (or_assoc (eqb w.0 c) (is_among ws c) (eqb m.0 c))

below_pushed : (n : ℕ) (ws : List ClauseNo) (m : ClauseNo) → AreBelow n ws → m.0 < n → AreBelow n (ws ++ m ∷ [])
below_pushed n [] m a lt = (lt, tt)
below_pushed n (w ∷ ws) m a lt = (a.0, below_pushed n ws m a.1 lt)

pub below_popped : (n : ℕ) (ws : List ClauseNo) (m : ClauseNo) → AreBelow n (ws ++ m ∷ []) → AreBelow n ws × (m.0 < n)
below_popped n [] m a = (tt, a.0)
below_popped n (w ∷ ws) m a = let rest = below_popped n ws m a.1 in ((a.0, rest.0), rest.1)

pub below_at : (n : ℕ) (ms : List ClauseNo) (i : ℕ) (d : ClauseNo) → AreBelow n ms → i < length ms → (get_or ms i d).0 < n
below_at n [] i d a lt = absurd (omega arith)
below_at n (m ∷ ms) zero d a lt = a.0
below_at n (m ∷ ms) (suc i) d a lt = below_at n ms i d a.1 (omega arith)

unmarked_set : (marks : List Bool) (i : ℕ) → i < length marks → marked marks i ≡ false → suc (unmarked (set marks i true)) ≡ unmarked marks
unmarked_set [] i lt e = absurd (omega arith)
unmarked_set (true ∷ marks) zero lt e = absurd (false≢true (sym e))
unmarked_set (false ∷ marks) zero lt e = refl
unmarked_set (true ∷ marks) (suc i) lt e = unmarked_set marks i (omega arith) e
unmarked_set (false ∷ marks) (suc i) lt e = ap (λ (n : ℕ). suc n) (unmarked_set marks i (omega arith) e)

pub marked_set : (marks : List Bool) (i c : ℕ) → i < length marks → marked (set marks i true) c ≡ marked marks c || eqb i c
marked_set marks i c lt = ⊎_elim
    (λ (e : i ≡ c). ap (λ (j : ℕ). marked (set marks i true) j) (sym e) ∙ get_or-set_same marks i true false lt
    ∙ sym (or_true (marked marks c) (eqb i c) (eq-eqb i c e)))
    (λ (ne : i ≡ c → ⊥). get_or-set_other marks i c true false (λ e. ne (sym e)) ∙ or_false (marked marks c) (eqb i c) (ne_eqb i c ne))
    (cases_eq i c)

pub grows_same : (marks : List Bool) (work : List ClauseNo) → Grows marks marks work work
grows_same marks work = record {
  long = refl;
  kept = λ c e. e;
  fresh = λ c e. inl e;
  listed = λ c e. inl e;
  still = λ c e. e;
  below = λ a. a;
  measure = refl;
}

pub grows_on : (old now new : List Bool) (before between after : List ClauseNo) → Grows old now before between → Grows now new between after
    → Grows old new before after
grows_on old now new before between after a b = record {
  long = b.long ∙ a.long;
  kept = λ c e. b.kept c (a.kept c e);
  fresh = λ c e. ⊎_elim (λ here. ⊎_elim (λ first. inl first) (λ m. inr (b.kept c m)) (a.fresh c here)) (λ m. inr m) (b.fresh c e);
  listed = λ c e. ⊎_elim (λ m. ⊎_elim (λ first. inl first) (λ here. inr (b.still c here)) (a.listed c m)) (λ here. inr here) (b.listed c e);
  still = λ c e. b.still c (a.still c e);
  below = λ w. b.below (a.below w);
  measure = b.measure ∙ a.measure;
}

-- one clause is marked, and put on the list
pub reach_one : (old : List Bool) (before after : List ClauseNo) (m : ClauseNo) → m.0 < length old → marked old m.0 ≡ false → after ≡ before ++ m ∷ []
    → Grows old (set old m.0 true) before after
reach_one old before after m lt un e =
    let new : List Bool = set old m.0 true in
    let among : (c : ℕ) → is_among after c ≡ is_among before c || eqb m.0 c = λ c.
    ap (λ (ws : List ClauseNo). is_among ws c) e ∙ among_pushed before m c in
    let long : length new ≡ length old = length-set old m.0 true in
    record {
      long = long;
      kept = λ c is. marked_set old m.0 c lt ∙ or_left (marked old c) (eqb m.0 c) is;
      fresh = λ c is. ⊎_elim (λ first. inl first) (λ same. inr (marked_set old m.0 c lt ∙ or_true (marked old c) (eqb m.0 c) same))
          (or_cases (is_among before c) (eqb m.0 c) (sym (among c) ∙ is));
      listed = λ c is. ⊎_elim (λ first. inl first) (λ same. inr (among c ∙ or_true (is_among before c) (eqb m.0 c) same))
          (or_cases (marked old c) (eqb m.0 c) (sym (marked_set old m.0 c lt) ∙ is));
      still = λ c is. among c ∙ or_left (is_among before c) (eqb m.0 c) is;
      below = λ a. subst (λ (ws : List ClauseNo). AreBelow (length new) ws) (sym e)
          (below_pushed (length new) before m (subst (λ (n : ℕ). AreBelow n before) (sym long) a) (omega arith));
      measure = let fewer = unmarked_set old m.0 lt un in
          let more : length after ≡ length before + 1 = ap (λ (ws : List ClauseNo). length ws) e ∙ length_push before m in omega arith;
    }

-- a clause that is marked already
pub reached_before : (marks : List Bool) (m c : ℕ) → marked marks m ≡ true → marked marks c ≡ marked marks c || eqb m c
reached_before marks m c is = ⊎_elim
    (λ (e : m ≡ c). let here : marked marks c ≡ true = ap (λ (i : ℕ). marked marks i) (sym e) ∙ is in here ∙ sym (or_left (marked marks c) (eqb m c) here))
    (λ (ne : m ≡ c → ⊥). or_false (marked marks c) (eqb m c) (ne_eqb m c ne))
    (cases_eq m c)

-- all of these clauses are marked already, where the first is
pub all_before : (marks : List Bool) (ms : List ClauseNo)
    → ((c d : ℕ) → is_among ms c ≡ true → is_among ms d ≡ true → marked marks c ≡ marked marks d) → is_first_marked marks ms ≡ true
    → (c : ℕ) → marked marks c ≡ marked marks c || is_among ms c
all_before marks [] even first c = absurd (false≢true first)
all_before marks (m ∷ ms) even first c = ⊎_elim
    (λ (e : is_among (m ∷ ms) c ≡ true). let here : marked marks c ≡ true =
    even c m.0 e (or_left (eqb m.0 m.0) (is_among ms m.0) (eq-eqb m.0 m.0 refl)) ∙ first in
    here ∙ sym (or_left (marked marks c) (is_among (m ∷ ms) c) here))
    (λ (e : is_among (m ∷ ms) c ≡ false). or_false (marked marks c) (is_among (m ∷ ms) c) e)
    (cases_Bool (is_among (m ∷ ms) c))

-- one clause more of a list is marked
pub one_more_reached : (old now new : List Bool) (ms : List ClauseNo) (i : ℕ) (d : ClauseNo) → i < length ms
    → ((c : ℕ) → marked now c || is_among (drop i ms) c ≡ marked old c || is_among ms c)
    → ((c : ℕ) → marked new c ≡ marked now c || eqb (get_or ms i d).0 c)
    → (c : ℕ) → marked new c || is_among (drop (i + 1) ms) c ≡ marked old c || is_among ms c
one_more_reached old now new ms i d lt before here c =
    ap (λ (b : Bool). b || is_among (drop (i + 1) ms) c) (here c)
    ∙ or_assoc (marked now c) (eqb (get_or ms i d).0 c) (is_among (drop (i + 1) ms) c)
    ∙ ap (λ (ws : List ClauseNo). marked now c || is_among ws c) (sym (drop_more ms i d lt))
    ∙ before c

-- all clauses of a list are marked
pub all_reached : (old new : List Bool) (ms rest : List ClauseNo) → rest ≡ [] → ((c : ℕ) → marked new c || is_among rest c ≡ marked old c || is_among ms c)
    → (c : ℕ) → marked new c ≡ marked old c || is_among ms c
all_reached old new ms rest e all c = or_false (marked new c) (is_among rest c) (ap (λ (ws : List ClauseNo). is_among ws c) e) ∙ all c

-- one item more of a body was looked at
pub one_more_called : (P : Program) (old now new : List Bool) (all items rest : List Item) (item : Item) → items ≡ item ∷ rest
    → ((c : ℕ) → marked now c || some_calls P items c ≡ marked old c || some_calls P all c)
    → ((c : ℕ) → marked new c ≡ marked now c || calls P item c)
    → (c : ℕ) → marked new c || some_calls P rest c ≡ marked old c || some_calls P all c
one_more_called P old now new all items rest item e before here c =
    ap (λ (b : Bool). b || some_calls P rest c) (here c)
    ∙ or_assoc (marked now c) (calls P item c) (some_calls P rest c)
    ∙ ap (λ (xs : List Item). marked now c || some_calls P xs c) (sym e)
    ∙ before c

pub all_called : (P : Program) (old new : List Bool) (all rest : List Item) → rest ≡ []
    → ((c : ℕ) → marked new c || some_calls P rest c ≡ marked old c || some_calls P all c)
    → (c : ℕ) → marked new c ≡ marked old c || some_calls P all c
all_called P old new all rest e done c = or_false (marked new c) (some_calls P rest c) (ap (λ (xs : List Item). some_calls P xs c) e) ∙ done c

-- what no goal can be taken by
pub none_called : (P : Program) (marks : List Bool) (g : Term) → ((h : Term) → same_predicate g h ≡ false)
    → (c : ℕ) → marked marks c ≡ marked marks c || is_of P g c
none_called P marks g other c = or_false (marked marks c) (is_of P g c)
    (and_right (ltb 0 c && leb c (length P.clauses)) (same_predicate g (clause_at P c).head) (other (clause_at P c).head))

same_count_third : (vs ts us ws : Terms) → same_count ts us ≡ true → same_count ts ws ≡ true → same_count vs us ≡ same_count vs ws
same_count_third vs none none none a b = refl
same_count_third vs none none (more w ws) a b = absurd (false≢true b)
same_count_third vs none (more u us) ws a b = absurd (false≢true a)
same_count_third vs (more t ts) none ws a b = absurd (false≢true a)
same_count_third vs (more t ts) (more u us) none a b = absurd (false≢true b)
same_count_third none (more t ts) (more u us) (more w ws) a b = refl
same_count_third (more v vs) (more t ts) (more u us) (more w ws) a b = same_count_third vs ts us ws a b

same_third : (g h a b : Term) → same_predicate h a ≡ true → same_predicate h b ≡ true → same_predicate g a ≡ same_predicate g b
same_third (variable q k) h a b x y = refl
same_third (number z) h a b x y = refl
same_third (compound f vs) (variable q k) a b x y = absurd (false≢true x)
same_third (compound f vs) (number z) a b x y = absurd (false≢true x)
same_third (compound f vs) (compound c ts) (variable q k) b x y = absurd (false≢true x)
same_third (compound f vs) (compound c ts) (number z) b x y = absurd (false≢true x)
same_third (compound f vs) (compound c ts) (compound d us) (variable q k) x y = absurd (false≢true y)
same_third (compound f vs) (compound c ts) (compound d us) (number z) x y = absurd (false≢true y)
same_third (compound f vs) (compound c ts) (compound d us) (compound e ws) x y =
    let one = and_parts (eqb c d) (same_count ts us) x in
    let other = and_parts (eqb c e) (same_count ts ws) y in
    let names : d ≡ e = sym (eqb-true c d one.0) ∙ eqb-true c e other.0 in
    ap (λ (n : ℕ). eqb f n && same_count vs us) names
    ∙ ap (λ (b : Bool). eqb f e && b) (same_count_third vs ts us ws one.1 other.1)

of_parts : (P : Program) (g : Term) (c : ℕ) → is_of P g c ≡ true
    → (ltb 0 c && leb c (length P.clauses) ≡ true) × (same_predicate g (clause_at P c).head ≡ true)
of_parts P g c e = and_parts (ltb 0 c && leb c (length P.clauses)) (same_predicate g (clause_at P c).head) e

same_of : (P : Program) (g h : Term) (c d : ℕ) → is_of P h c ≡ true → is_of P h d ≡ true → is_of P g c ≡ is_of P g d
same_of P g h c d x y =
    let one = of_parts P h c x in
    let other = of_parts P h d y in
    ap (λ (b : Bool). b && same_predicate g (clause_at P c).head) (one.0 ∙ sym other.0)
    ∙ ap (λ (b : Bool). (ltb 0 d && leb d (length P.clauses)) && b) (same_third g h (clause_at P c).head (clause_at P d).head one.1 other.1)

pub of_range : (P : Program) (g : Term) (c : ℕ) → is_of P g c ≡ true → (0 < c) × (c ≤ length P.clauses)
of_range P g c e =
    let both = and_parts (ltb 0 c) (leb c (length P.clauses)) (of_parts P g c e).0 in
    (ltb-true 0 c both.0, leb-true c (length P.clauses) both.1)

pub even_after : (P : Program) (old new : List Bool) (g : Term) → IsEven P old → ((c : ℕ) → marked new c ≡ marked old c || is_of P g c) → IsEven P new
even_after P old new g even here = λ h c d x y.
    here c ∙ ap (λ (b : Bool). b || is_of P g c) (even h c d x y) ∙ ap (λ (b : Bool). marked old d || b) (same_of P g h c d x y) ∙ sym (here d)

all_below : (n : ℕ) (ms : List ClauseNo) → ((c : ℕ) → is_among ms c ≡ true → c < n) → AreBelow n ms
all_below n [] h = tt
all_below n (m ∷ ms) h = (
  h m.0 (or_left (eqb m.0 m.0) (is_among ms m.0) (eq-eqb m.0 m.0 refl)),
  all_below n ms (λ c e. h c (or_true (eqb m.0 c) (is_among ms c) e)),
)

-- the clauses of a goal are there, and all are marked or none is
pub clauses_below : (P : Program) (marks : List Bool) (ms : List ClauseNo) (g : Term) → length marks ≡ suc (length P.clauses)
    → ((c : ℕ) → is_among ms c ≡ is_of P g c) → AreBelow (length marks) ms
clauses_below P marks ms g long are =
    all_below (length marks) ms (λ c e. let range = of_range P g c (sym (are c) ∙ e) in omega arith)

pub clauses_even : (P : Program) (marks : List Bool) (ms : List ClauseNo) (g : Term) → IsEven P marks → ((c : ℕ) → is_among ms c ≡ is_of P g c)
    → (c d : ℕ) → is_among ms c ≡ true → is_among ms d ≡ true → marked marks c ≡ marked marks d
clauses_even P marks ms g even are c d x y = even g c d (sym (are c) ∙ x) (sym (are d) ∙ y)

none_marked : (n c : ℕ) → marked (replicate n false) c ≡ false
none_marked zero c = refl
none_marked (suc n) zero = refl
none_marked (suc n) (suc c) = none_marked n c

-- the query is marked first
pub marks_first : (P : Program) (old new : List Bool) (before after : List ClauseNo) → old ≡ replicate (suc (length P.clauses)) false → before ≡ []
    → ((c : ℕ) → marked new c ≡ marked old c || eqb 0 c) → Grows old new before after → Marks P new after
marks_first P old new before after o b here g =
    let un : (c : ℕ) → marked old c ≡ false = λ c. ap (λ (ms : List Bool). marked ms c) o ∙ none_marked (suc (length P.clauses)) c in
    let only : (c : ℕ) → marked new c ≡ true → 0 ≡ c = λ c e.
    eqb-true 0 c (sym (here c ∙ ap (λ (x : Bool). x || eqb 0 c) (un c)) ∙ e) in
    let unless : (c : ℕ) → 0 < c → marked new c ≡ false = λ c lt.
    here c ∙ ap (λ (x : Bool). x || eqb 0 c) (un c) ∙ ne_eqb 0 c (λ e. omega arith) in
    record {
      long = g.long ∙ ap (λ (ms : List Bool). length ms) o ∙ length-replicate (suc (length P.clauses)) false;
      below = g.below (subst (λ (ws : List ClauseNo). AreBelow (length old) ws) (sym b) tt);
      even = λ h c d x y. unless c (of_range P h c x).0 ∙ sym (unless d (of_range P h d y).0);
      query = here 0 ∙ or_true (marked old 0) true refl;
      ahead = λ c e. ⊎_elim (λ first. absurd (false≢true (ap (λ (ws : List ClauseNo). is_among ws c) (sym b) ∙ first))) (λ m. m) (g.fresh c e);
      sound = λ c e. subst (λ (d : ℕ). IsReached P d) (only c e) query;
      closed = λ c e. ⊎_elim (λ first. absurd (false≢true (sym (un c) ∙ first))) (λ w. inl w) (g.listed c e);
    }

some_goal : (P : Program) (items : List Item) (c : ℕ) → some_calls P items c ≡ true → (g : Term) × Contains items (call g) × Of P g c
some_goal P [] c e = absurd (false≢true e)
some_goal P (call g ∷ items) c e = ⊎_elim
    (λ here. (g, (0, omega arith, refl), here))
    (λ later. let found = some_goal P items c later in (found.0, (suc found.1.0, (let lt = found.1.1 in omega arith), found.1.2), found.2))
    (or_cases (is_of P g c) (some_calls P items c) e)
some_goal P (equal a b ∷ items) c e = let found = some_goal P items c e in
    (found.0, (suc found.1.0, (let lt = found.1.1 in omega arith), found.1.2), found.2)
some_goal P (arithmetic a ∷ items) c e = let found = some_goal P items c e in
    (found.0, (suc found.1.0, (let lt = found.1.1 in omega arith), found.1.2), found.2)
some_goal P (fail ∷ items) c e = let found = some_goal P items c e in
    (found.0, (suc found.1.0, (let lt = found.1.1 in omega arith), found.1.2), found.2)

-- a clause comes off the list, and what it calls is marked
pub marks_on : (P : Program) (old new : List Bool) (work popped after : List ClauseNo) (m : ClauseNo) → Marks P old work → work ≡ popped ++ m ∷ []
    → ((c : ℕ) → marked new c ≡ marked old c || some_calls P (clause_at P m.0).body c) → Grows old new popped after → IsEven P new
    → Marks P new after
marks_on P old new work popped after m marks e here g even =
    let among : (c : ℕ) → is_among work c ≡ is_among popped c || eqb m.0 c = λ c.
    ap (λ (ws : List ClauseNo). is_among ws c) e ∙ among_pushed popped m c in
    let itself : marked old m.0 ≡ true = marks.ahead m.0 (among m.0 ∙ or_true (is_among popped m.0) (eqb m.0 m.0) (eq-eqb m.0 m.0 refl)) in
    let Closed : ℕ → Type 0 = λ c. (is_among after c ≡ true) ⊎ ((d : ℕ) → some_calls P (clause_at P c).body d ≡ true → marked new d ≡ true) in
    let mine : Closed m.0 = inr (λ d s. here d ∙ or_true (marked old d) (some_calls P (clause_at P m.0).body d) s) in
    record {
      long = g.long ∙ marks.long;
      below = g.below (below_popped (length old) popped m (subst (λ (ws : List ClauseNo). AreBelow (length old) ws) e marks.below)).0;
      even = even;
      query = g.kept 0 marks.query;
      ahead = λ c w. ⊎_elim
          (λ first. g.kept c (marks.ahead c (among c ∙ or_left (is_among popped c) (eqb m.0 c) first)))
          (λ x. x)
          (g.fresh c w);
      sound = λ c x. ⊎_elim
          (λ first. marks.sound c first)
          (λ s. let found = some_goal P (clause_at P m.0).body c s in called m.0 c found.0 (marks.sound m.0 itself) found.1 found.2)
          (or_cases (marked old c) (some_calls P (clause_at P m.0).body c) (sym (here c) ∙ x));
      closed = λ c x. ⊎_elim
          (λ first. ⊎_elim
          (λ listed. ⊎_elim
          (λ still. inl (g.still c still))
          (λ same. subst Closed (eqb-true m.0 c same) mine)
          (or_cases (is_among popped c) (eqb m.0 c) (sym (among c) ∙ listed)))
          (λ done. inr (λ d s. g.kept d (done d s)))
          (marks.closed c first))
          (λ w. inl w)
          (g.listed c x);
    }

some_called : (P : Program) (items : List Item) (g : Term) (d : ℕ) → Contains items (call g) → is_of P g d ≡ true → some_calls P items d ≡ true
some_called P items g d there of =
    list_any_at (λ (item : Item). calls P item d) items there.0 (call g) there.1 (ap (λ (item : Item). calls P item d) there.2 ∙ of)

all_marked : (P : Program) (marks : List Bool) (work : List ClauseNo) (c : ℕ) → work ≡ [] → Marks P marks work → IsReached P c → marked marks c ≡ true
all_marked P marks work c e m query = m.query
all_marked P marks work c e m (called b d g r there of) = ⊎_elim
    (λ listed. absurd (false≢true (ap (λ (ws : List ClauseNo). is_among ws b) (sym e) ∙ listed)))
    (λ done. done d (some_called P (clause_at P b).body g d there of))
    (m.closed b (all_marked P marks work b e m r))

pub marks_tell : (P : Program) (marks : List Bool) (work : List ClauseNo) → work ≡ [] → Marks P marks work → TellsReached P (λ c. get_or marks c false)
marks_tell P marks work e m = λ c le. (λ x. m.sound c x, λ r. all_marked P marks work c e m r)

pub no_variable : (t : Term) {k : ℕ} → Variable k ≡ shown_term t → (h : Term) → same_predicate t h ≡ false
no_variable (variable q j) e h = refl
no_variable (number z) e h = refl
no_variable (compound c ts) e h = absurd (cc)

pub no_number : (t : Term) {z : ℤ} → Number z ≡ shown_term t → (h : Term) → same_predicate t h ≡ false
no_number (variable q j) e h = refl
no_number (number z) e h = refl
no_number (compound c ts) e h = absurd (cc)
