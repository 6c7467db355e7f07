-- Programs without arithmetic pass nothing over, and nothing waits.
use Rattle.std.proofs.Common.{ℕ, ◌≡◌, ◌↔◌, List, [], ◌∷◌, ◌++◌, map, refl, ap, sym, subst}
use Rattle.and_model.specs.Terms.{Path, Term, Substitution, apply}
use Rattle.and_model.specs.Programs.{Program, Item, call, equal, arithmetic, fail, Arithmetic, clause_at}
use Rattle.and_model.specs.Simple.{IsSimple, AreSimple}
use Rattle.and_sld.specs.Resolution.{apply_arithmetic, apply_goal, moved, Derives, ended, resolved, equated, passes, Selects, leftmost, later}
use Rattle.and_sld.specs.Resolution.{Reckons, settled, assigned, compared, Computes, IsRefuted, query_goal, query_values}

simple_goal : (s : Substitution) (items : List Item) → AreSimple items → AreSimple (apply_goal s items)
simple_goal s [] a = tt
simple_goal s (call g ∷ items) a = simple_goal s items a
simple_goal s (equal x y ∷ items) a = simple_goal s items a
simple_goal s (arithmetic b ∷ items) a = elim a [ ]
simple_goal s (fail ∷ items) a = simple_goal s items a

simple_join : (items rest : List Item) → AreSimple items → AreSimple rest → AreSimple (items ++ rest)
simple_join [] rest a b = b
simple_join (call g ∷ items) rest a b = simple_join items rest a b
simple_join (equal x y ∷ items) rest a b = simple_join items rest a b
simple_join (arithmetic c ∷ items) rest a b = elim a [ ]
simple_join (fail ∷ items) rest a b = simple_join items rest a b

none_left : (P : Program) → IsSimple P → (frames : List Path) (passed : List Arithmetic) (items : List Item) (values : List Term) (cs : List ℕ)
    (left : List Arithmetic) (found : List Term) → Derives P frames passed items values cs left found → AreSimple items → passed ≡ [] → left ≡ []
none_left P pure frames passed items values cs left found (ended fs ps vs) a e = e
none_left P pure frames passed items values cs left found (resolved fs ps g is vs c ds q s ls ans low high n m r) a e =
    let body : List Item = apply_goal (moved q) (clause_at P c).body in
    let next : AreSimple (apply_goal s (body ++ is)) =
    simple_goal s (body ++ is) (simple_join body is (simple_goal (moved q) (clause_at P c).body (pure c)) a) in
    none_left P pure (q ∷ fs) (map (apply_arithmetic s) ps) (apply_goal s (body ++ is)) (map (apply s) vs) ds ls ans r next (ap (map (apply_arithmetic s)) e)
none_left P pure frames passed items values cs left found (equated fs ps x y is vs ds s ls ans m r) a e =
    none_left P pure fs (map (apply_arithmetic s) ps) (apply_goal s is) (map (apply s) vs) ds ls ans r (simple_goal s is a) (ap (map (apply_arithmetic s)) e)
none_left P pure frames passed items values cs left found (passes fs ps x is vs ds ls ans r) a e = elim a [ ]

none_selected : (gs : List Arithmetic) (g : Arithmetic) (others : List Arithmetic) → Selects gs g others → gs ≡ [] → ⊥
none_selected gs g others (leftmost h hs r) e = absurd (cc)
none_selected gs g others (later a hs h others' r s) e = absurd (cc)

none_reckoned : (gs : List Arithmetic) (values : List Term) (waits : List Arithmetic) (answer : List Term) → Reckons gs values waits answer → gs ≡ []
    → (waits ≡ []) × (answer ≡ values)
none_reckoned gs values waits answer (settled hs vs n) e = (e, refl)
none_reckoned gs values waits answer (assigned hs vs l r others z s ws ans sel v m rest) e = absurd (none_selected hs _ others sel e)
none_reckoned gs values waits answer (compared hs vs k a b others ws ans sel h rest) e = absurd (none_selected hs _ others sel e)

ends_alone : (P : Program) (cs : List ℕ) (answer : List Term) (waiting : List Arithmetic) → IsSimple P → (c : Computes P cs answer waiting)
    → (c.left ≡ []) × (waiting ≡ []) × (answer ≡ c.found)
ends_alone P cs answer waiting pure c =
    let none = none_left P pure ([] ∷ []) [] (query_goal P) (query_values P (moved [])) cs c.left c.found c.derived
    (simple_goal (moved []) P.query.body (pure 0)) refl in
    let ends = none_reckoned c.left c.found waiting answer c.reckoned none in
    (none, ends.0, ends.1)

pub none_wait : (P : Program) (cs : List ℕ) (answer : List Term) (waiting : List Arithmetic) → IsSimple P → Computes P cs answer waiting → waiting ≡ []
none_wait P cs answer waiting pure c = (ends_alone P cs answer waiting pure c).1

pub refuted : (P : Program) (cs : List ℕ) (answer : List Term) → IsSimple P
    → IsRefuted P cs answer ↔ Derives P ([] ∷ []) [] (query_goal P) (query_values P (moved [])) cs [] answer
refuted P cs answer pure = (
  λ c.
      let ends = ends_alone P cs answer [] pure c in
      let derives : List Arithmetic → List Term → Type 0 = λ l v. Derives P ([] ∷ []) [] (query_goal P) (query_values P (moved [])) cs l v in
      subst (λ v. derives [] v) (sym ends.2) (subst (λ l. derives l c.found) ends.0 c.derived),
  λ d. record { left = []; found = answer; derived = d; reckoned = settled [] answer tt },
)
