-- Codes with an outcome have computations, and the two have one answer.
use Rattle.std.proofs.Common.{ℕ, ◌≡◌, ◌↔◌, List, [], ◌∷◌, ◌++◌, map, refl, ap, sym, ◌∙◌, subst, inl, inr, Some, None, pos, length, ◌≤◌}
use Rattle.std.proofs.lemmas.Simd.{map-map}
use Rattle.std.proofs.lemmas.List.{length-map}
use Rattle.and_model.specs.Terms.{Path, Term, variable, number, Substitution, apply}
use Rattle.and_model.specs.Solutions.{Equation, Solves, MostGeneral}
use Rattle.and_model.specs.Programs.{Program, Item, call, equal, arithmetic, fail, Arithmetic, is, compare, clause_at, head_in}
use Rattle.and_model.specs.Closure.{Closes}
use Rattle.and_model.specs.Trees.{Agenda, end, Tree, QueryTree, query_agenda, done, left, by, equate, reckon}
use Rattle.and_model.specs.Trees.{equations, arithmetics, code, IsWhole, Closed, HasOutcome, unfold_code}
use Rattle.and_model.specs.Stands.{AreVariants, numbers_below}
use Rattle.and_model.specs.Lines.{Bytes, line_of, line, goal_term}
use Rattle.and_model.specs.Listing.{Outcome, answer, outcome_of, Ends}
use Rattle.and_laws.proofs.Substitutions.{apply_same, same, then, apply_then}
use Rattle.and_laws.proofs.Solving.{solves_then}
use Rattle.and_laws.proofs.Unifying.{unify}
use Rattle.and_laws.proofs.Unfolding.{unfolding_code, code_unfolds, whole_decided}
use Rattle.and_laws.proofs.Deciding.{of_bounds}
use Rattle.and_laws.proofs.Closing.{closes_anyhow, closure_order}
use Rattle.and_laws.proofs.Printing.{variants_line}
use Rattle.and_sld.specs.Resolution.{apply_arithmetic, apply_item, apply_goal, moved, Derives, ended, resolved, equated, passes, Computes}
use Rattle.and_sld.specs.Resolution.{query_goal, query_values, IsRefuted, Shows}
use Rattle.and_sld.specs.Relevant.{AreRelevant}
use Rattle.and_sld.specs.Atoms.{HasAtoms}
use Rattle.and_sld.proofs.Arithmetics.{terms_under, goals_same, goals_via}
use Rattle.and_sld.proofs.Fronts.{IsFront, IsFresh, fresh_body, fresh_next}
use Rattle.and_sld.proofs.Instances.{via, list_via, stepped, patched, new_frame}
use Rattle.and_sld.proofs.Reading.{Reads, reads_end, reads_call, reads_equal, reads_fail}
use Rattle.and_sld.proofs.Reading.{reads_reckoning, reads_on, reads_body, Agrees, agrees_same, agrees_all}
use Rattle.and_sld.proofs.Resolving.{next_reads, next_agrees, unifier, Found, sound}
use Rattle.and_sld.proofs.Relevant.{relevant_mgu}
use Rattle.and_sld.proofs.Meeting.{closing_solved, Meet, Same, closes_reckons, Closing, reckons_closes}

-- a derivation from the goal by this code, with unifiers of the terms' own variables
abbrev Derivation : Program → List Path → List Arithmetic → List Item → List Term → List ℕ → Type 0
Derivation P frames passed items values cs =
    (left : List Arithmetic) × (found : List Term) × (d : Derives P frames passed items values cs left found) × AreRelevant d

-- A whole tree whose equations have a solution has a derivation by its code.
pub complete : (P : Program) → HasAtoms P → {ag : Agenda} (t : Tree P ag) (frames us : List Path) (τ γ u : Substitution) (passed : List Arithmetic)
    (items : List Item) (values : List Term) → IsWhole t → Solves u (equations t) → IsFresh us ag → Reads τ ag items → Agrees γ τ u ag
    → Derivation P frames passed items values (code t)
complete P atoms done frames us τ γ u passed items values w p f (reads_end) a = (passed, values, ended frames passed values, tt)
complete P atoms (left t) frames us τ γ u passed items values w p f r a = elim w [ ]
complete P atoms (by c h t) frames us τ γ u passed items values w p f (reads_call q g rest x js atom e r) a =
    let n = new_frame frames passed (call x ∷ js) values in
    let new : Path = n.0 in
    let m = relevant_mgu x (head_in P new c) (patched q new u γ) (unifier P atoms us τ q g rest f x e js r c new same u γ a.0 p.0 n.1.2.0) in
    let s : Substitution = m.0 in
    let d = m.1.1 (patched q new u γ) (unifier P atoms us τ q g rest f x e js r c new s u γ a.0 p.0 n.1.2.0) in
    let next : List Item = apply_goal s (apply_goal (moved new) (clause_at P c).body ++ js) in
    let i = complete P atoms t (new ∷ frames) (q ∷ us) (stepped q new s τ) d.0 u (map (apply_arithmetic s) passed) next (map (apply s) values) w p.1
    (fresh_next us q g rest (clause_at P c).body f) (next_reads P atoms us τ q g rest f x e js r c new s)
    (next_agrees P atoms us τ q g rest f x e js r c new s u γ d.0 d.1 n.1.2.1 a.1) in
    let bounds = of_bounds P g c h in
    (i.0, i.1, resolved frames passed x js values c (code t) new s i.0 i.1 bounds.0 bounds.1 n.1 m.1 i.2, (m.2, i.3))
complete P atoms (equate t) frames us τ γ u passed items values w p f (reads_equal a b rest x y js d e r) g =
    let unifies : apply γ x ≡ apply γ y = ap (apply γ) d ∙ g.0 ∙ p.0 ∙ sym g.1 ∙ sym (ap (apply γ) e) in
    let m = relevant_mgu x y γ unifies in
    let s : Substitution = m.0 in
    let k = m.1.1 γ unifies in
    let i = complete P atoms t frames us (then τ s) k.0 u (map (apply_arithmetic s) passed) (apply_goal s js) (map (apply s) values) w p.1 f.2
    (reads_on us s τ (then τ s) (λ z o. sym (apply_then τ s z)) rest js f.2 r)
    (agrees_all γ τ k.0 (then τ s) u (λ z. ap (apply k.0) (sym (apply_then τ s z)) ∙ sym (via s k.0 γ k.1 (apply τ z))) rest g.2) in
    (i.0, i.1, equated frames passed x y js values (code t) s i.0 i.1 m.1 i.2, (m.2, i.3))
complete P atoms (equate t) frames us τ γ u passed items values w p f (reads_fail rest js r) g =
    absurd (let e : number (pos 0) ≡ number (pos 1) = p.0 in cc)
complete P atoms (reckon t) frames us τ γ u passed items values w p f (reads_reckoning a rest x js e r) g =
    let i = complete P atoms t frames us τ γ u (passed ++ x ∷ []) js values w p f.1 r g.1 in
    (i.0, i.1, passes frames passed x js values (code t) i.0 i.1 i.2, i.3)

-- The query's agenda speaks of its own frame alone,
query_fresh : (P : Program) → IsFresh ([] ∷ []) (query_agenda P)
query_fresh P =
    fresh_body ([] ∷ []) [] 0 P.query.body end
    (λ p i j h. elim i [ inl e ↦ subst (λ r. IsFront (j ∷ []) r) e h | inr n ↦ n ]) (inl refl) (λ j. tt) tt

item_same : (i : Item) → apply_item same i ≡ i
item_same (call g) = ap call (apply_same g)
item_same (equal a b) = ap (λ x. equal x (apply same b)) (apply_same a) ∙ ap (λ y. equal a y) (apply_same b)
item_same (arithmetic (is a b)) = ap (λ x. arithmetic (is x (apply same b))) (apply_same a) ∙ ap (λ y. arithmetic (is a y)) (apply_same b)
item_same (arithmetic (compare m a b)) = ap (λ x. arithmetic (compare m x (apply same b))) (apply_same a) ∙ ap (λ y. arithmetic (compare m a y)) (apply_same b)
item_same fail = refl

same_goal : (items : List Item) → apply_goal same (items ++ []) ≡ items
same_goal [] = refl
same_goal (i ∷ items) = ap (λ x. x ∷ apply_goal same (items ++ [])) (item_same i) ∙ ap (λ l. i ∷ l) (same_goal items)

-- and is read in the query as a goal.
query_reads : (P : Program) → HasAtoms P → Reads same (query_agenda P) (query_goal P)
query_reads P atoms =
    subst (λ l. Reads same (query_agenda P) l) (same_goal (query_goal P))
    (reads_body same same [] [] (λ x. refl) 0 P.query.body end [] (atoms 0).1 reads_end)

-- the query's variables, as its frame has them
abbrev own_values : Program → List Term
own_values P = query_values P (moved [])

pub unfolds : (P : Program) (cs : List ℕ) (t : QueryTree P) → IsWhole t → code t ≡ cs → unfold_code P cs ≡ Some t
unfolds P cs t w e = subst (λ l. unfold_code P l ≡ Some t) e (code_unfolds P t (whole_decided t w))

applied_values : (s : Substitution) (f : ℕ → Term) (ns : List ℕ) → map (apply s) (map f ns) ≡ map (λ k. apply s (f k)) ns
applied_values s f ns = map-map (apply s) f ns

each_same : (f g : ℕ → Term) → ((k : ℕ) → f k ≡ g k) → (ns : List ℕ) → map f ns ≡ map g ns
each_same f g h [] = refl
each_same f g h (n ∷ ns) = ap (λ x. x ∷ map f ns) (h n) ∙ ap (λ xs. g n ∷ xs) (each_same f g h ns)

-- what a substitution makes of the query's variables is what it gives them
values_under : (P : Program) (s : Substitution) → map (apply s) (own_values P) ≡ query_values P s
values_under P s = applied_values s (λ k. variable [] k) (numbers_below P.query.variables)

from_some : {A : Type 0} (d x y : A) → Some x ≡ Some y → x ≡ y
from_some d x y e = ap (λ o. elim o [ None ↦ d | Some z ↦ z ]) e

-- A derivation of the query is of a whole tree with its code, whose solutions meet what was found.
record Derived (P : Program) (cs : List ℕ) (left : List Arithmetic) (found : List Term) : Type 0 where
  tree : QueryTree P
  whole : IsWhole tree
  unfolded : unfold_code P cs ≡ Some tree
  meet : Meet (equations tree) (Same (own_values P) found (arithmetics tree) left)

derived_tree : (P : Program) → HasAtoms P → (cs : List ℕ) (left : List Arithmetic) (found : List Term)
    → Derives P ([] ∷ []) [] (query_goal P) (own_values P) cs left found → Derived P cs left found
derived_tree P atoms cs ls vs d =
    let f : Found P ([] ∷ []) (query_agenda P) same [] ls (own_values P) vs cs =
    sound P atoms ([] ∷ []) [] (query_goal P) (own_values P) cs ls vs d ([] ∷ []) same (query_agenda P) (query_fresh P) (query_reads P atoms) in
    let solution_values : map (apply f.solution) (own_values P) ≡ vs =
    values_under P f.solution
    ∙ each_same (λ k. f.solution [] k) (λ k. f.after [] k) (λ k. f.goes [] k (inl refl)) (numbers_below P.query.variables)
    ∙ sym (values_under P f.after) ∙ sym f.values_end in
    record {
      tree = f.tree;
      whole = f.whole;
      unfolded = unfolds P cs f.tree f.whole f.codes;
      meet = (
        λ u p. let g = f.general u u p (agrees_same u (query_agenda P)) in (g.0, (sym g.1, sym g.2)),
        λ v. (
          then f.solution v,
          solves_then f.solution v (equations f.tree) f.solves,
          (
            list_via f.solution v (then f.solution v) (λ q k. refl) (own_values P) ∙ ap (map (apply v)) solution_values,
            goals_via f.solution v (then f.solution v) (λ x. sym (apply_then f.solution v x)) (arithmetics f.tree)
                ∙ ap (map (apply_arithmetic v)) (sym f.goals_end),
          ),
        ),
      );
    }

-- Where a computation ends, the closed equations of the tree meet the answer and the goals that wait.
record ComputedTree (P : Program) (cs : List ℕ) (values : List Term) (waits : List Arithmetic) : Type 0 where
  tree : QueryTree P
  whole : IsWhole tree
  unfolded : unfold_code P cs ≡ Some tree
  closing : Closing (own_values P) (equations tree) (arithmetics tree) waits values

computed_tree : (P : Program) → HasAtoms P → (cs : List ℕ) (values : List Term) (waits : List Arithmetic) → Computes P cs values waits
    → ComputedTree P cs values waits
computed_tree P atoms cs values waits c =
    let d = derived_tree P atoms cs c.left c.found c.derived in
    record {
      tree = d.tree;
      whole = d.whole;
      unfolded = d.unfolded;
      closing = reckons_closes c.left c.found waits values c.reckoned (equations d.tree) (arithmetics d.tree) (own_values P) d.meet;
    }

pub computed_ends : (P : Program) (cs : List ℕ) → HasAtoms P → (values : List Term) × (waits : List Arithmetic) × Computes P cs values waits
    → (t : QueryTree P) × (unfold_code P cs ≡ Some t) × HasOutcome t
computed_ends P cs atoms (values, waits, c) =
    let d = computed_tree P atoms cs values waits c in
    (d.tree, d.unfolded, (d.closing.ends, d.closing.goals, d.whole, d.closing.closes, d.closing.solvable))

ends_relevant : (P : Program) (cs : List ℕ) → HasAtoms P → (t : QueryTree P) × (unfold_code P cs ≡ Some t) × HasOutcome t
    → (values : List Term) × (waits : List Arithmetic) × (c : Computes P cs values waits) × AreRelevant c.derived
ends_relevant P cs atoms (t, e, o) =
    let (es, gs, w, closed, so) = o in
    let solved : Solves so.0 (equations t) = closing_solved (equations t) (arithmetics t) es gs closed so.0 so.1 in
    let r : Derivation P ([] ∷ []) [] (query_goal P) (own_values P) cs =
    subst (λ l. Derivation P ([] ∷ []) [] (query_goal P) (own_values P) l) (unfolding_code P cs t e).0
    (
    complete P atoms t ([] ∷ []) ([] ∷ []) same so.0 so.0 [] (query_goal P) (own_values P) w solved (query_fresh P) (query_reads P atoms)
    (agrees_same so.0 (query_agenda P))
    ) in
    let d = derived_tree P atoms cs r.0 r.1 r.2 in
    let is_tree : d.tree ≡ t = sym (from_some t t d.tree (sym e ∙ d.unfolded)) in
    let meet : Meet (equations t) (Same (own_values P) r.1 (arithmetics t) r.0) =
    subst (λ x. Meet (equations x) (Same (own_values P) r.1 (arithmetics x) r.0)) is_tree d.meet in
    let i = closes_reckons (equations t) (arithmetics t) es gs closed so (own_values P) r.1 r.0 meet in
    (i.answer, i.waits, record { left = r.0; found = r.1; derived = r.2; reckoned = i.reckons }, r.3)

pub ends_computed : (P : Program) (cs : List ℕ) → HasAtoms P → (t : QueryTree P) × (unfold_code P cs ≡ Some t) × HasOutcome t
    → (values : List Term) × (waits : List Arithmetic) × Computes P cs values waits
ends_computed P cs atoms o = let c = ends_relevant P cs atoms o in (c.0, c.1, c.2)

-- the law of relevant unifiers
pub relevant_suffice : (P : Program) (cs : List ℕ) (values : List Term) (waits : List Arithmetic) → HasAtoms P → Computes P cs values waits
    → (other : List Term) × (others : List Arithmetic) × (c : Computes P cs other others) × AreRelevant c.derived
relevant_suffice P cs values waits atoms c = ends_relevant P cs atoms (computed_ends P cs atoms (values, waits, c))

-- Whatever the tree's equations close to meets a computation by its code.
meets_closed : (P : Program) → HasAtoms P → (cs : List ℕ) (values : List Term) (waits : List Arithmetic) (t : QueryTree P) (es : List Equation)
    (gs : List Arithmetic)
    → Computes P cs values waits → unfold_code P cs ≡ Some t → Closed t es gs → Meet es (Same (own_values P) values gs waits)
meets_closed P atoms cs values waits t es gs c e closed =
    let d = computed_tree P atoms cs values waits c in
    let is_tree : d.tree ≡ t = sym (from_some t t d.tree (sym e ∙ d.unfolded)) in
    let k = d.closing in
    let closes : Closes (equations t) (arithmetics t) k.ends k.goals = subst (λ x. Closed x k.ends k.goals) is_tree k.closes in
    let order = closure_order (equations t) (arithmetics t) k.ends k.goals es gs
    (closes_anyhow (equations t) (arithmetics t) k.ends k.goals closes) (closes_anyhow (equations t) (arithmetics t) es gs closed) in
    subst (λ l. Meet es (Same (own_values P) values l waits)) (order.2 k.solvable)
    (λ u p. k.meet.0 u (order.1 u p), λ v. let w = k.meet.1 v in (w.0, order.0 w.0 w.1, w.2))

map_join : {A B : Type 0} (f : A → B) (xs ys : List A) → map f (xs ++ ys) ≡ map f xs ++ map f ys
map_join f [] ys = refl
map_join f (x ∷ xs) ys = ap (λ l. f x ∷ l) (map_join f xs ys)

list_same : (ts : List Term) → map (apply same) ts ≡ ts
list_same [] = refl
list_same (t ∷ ts) = ap (λ x. x ∷ map (apply same) ts) (apply_same t) ∙ ap (λ xs. t ∷ xs) (list_same ts)

-- terms and goals under a substitution, in one list of terms
both_under : (s : Substitution) (xs : List Term) (gs : List Arithmetic)
    → map (apply s) (xs ++ map goal_term gs) ≡ map (apply s) xs ++ map goal_term (map (apply_arithmetic s) gs)
both_under s xs gs = map_join (apply s) xs (map goal_term gs) ∙ ap (λ l. map (apply s) xs ++ l) (sym (terms_under s gs))

-- What a most general solution makes of terms and goals are variants of what meets these.
meet_variants : (es : List Equation) (s : Substitution) (xs ys : List Term) (gs hs : List Arithmetic) → MostGeneral s es → Meet es (Same xs ys gs hs)
    → AreVariants (ys ++ map goal_term hs) (map (apply s) xs ++ map goal_term (map (apply_arithmetic s) gs))
meet_variants es s xs ys gs hs general meet =
    let v = meet.0 s general.0 in
    let w = meet.1 same in
    let through = general.1 w.0 w.1 in
    let ends = map (apply s) xs ++ map goal_term (map (apply_arithmetic s) gs) in (
      (
        v.0,
        both_under v.0 ys hs ∙ ap (λ l. l ++ map goal_term (map (apply_arithmetic v.0) hs)) (sym v.1.0)
            ∙ ap (λ l. map (apply s) xs ++ map goal_term l) (sym v.1.1),
      ),
      (
        w.0,
        both_under w.0 (map (apply s) xs) (map (apply_arithmetic s) gs)
            ∙ ap (λ l. l ++ map goal_term (map (apply_arithmetic w.0) (map (apply_arithmetic s) gs)))
            (sym (list_via s w.0 w.0 through xs) ∙ w.2.0 ∙ list_same ys)
            ∙ ap (λ l. ys ++ map goal_term l) (sym (goals_via s w.0 w.0 (via s w.0 w.0 through) gs) ∙ w.2.1 ∙ goals_same hs),
      ),
    )

-- the law of answers
pub one_answer : (P : Program) (cs : List ℕ) (values : List Term) (waits : List Arithmetic) (t : QueryTree P) (es : List Equation)
    (gs : List Arithmetic) (s : Substitution)
    → HasAtoms P → Computes P cs values waits → unfold_code P cs ≡ Some t → Closed t es gs → MostGeneral s es
    → AreVariants (values ++ map goal_term waits) (query_values P s ++ map goal_term (map (apply_arithmetic s) gs))
one_answer P cs values waits t es gs s atoms c e closed general =
    subst (λ l. AreVariants (values ++ map goal_term waits) (l ++ map goal_term (map (apply_arithmetic s) gs))) (values_under P s)
    (meet_variants es s (own_values P) values gs waits general (meets_closed P atoms cs values waits t es gs c e closed))

-- Variants of the same terms are variants.
composed : (a b c : List Term) (r s : Substitution) → map (apply r) a ≡ b → map (apply s) b ≡ c → map (apply (then r s)) a ≡ c
composed a b c r s e f = list_via r s (then r s) (λ p k. refl) a ∙ ap (map (apply s)) e ∙ f

-- Whatever unifiers and frames were taken, the computations by one code end in variants.
pub same_answers : (P : Program) (cs : List ℕ) (one other : List Term) (waits others : List Arithmetic) → HasAtoms P
    → Computes P cs one waits → Computes P cs other others → AreVariants (one ++ map goal_term waits) (other ++ map goal_term others)
same_answers P cs one other waits others atoms c d =
    let f = computed_tree P atoms cs one waits c in
    let k = f.closing in
    elim (unify k.ends) [
      | inr n ↦ absurd (n k.solvable)
      | inl m ↦
          let a = one_answer P cs one waits f.tree k.ends k.goals m.0 atoms c f.unfolded k.closes m.1 in
          let b = one_answer P cs other others f.tree k.ends k.goals m.0 atoms d f.unfolded k.closes m.1 in
          let terms : List Term = query_values P m.0 ++ map goal_term (map (apply_arithmetic m.0) k.goals) in
          let here : List Term = one ++ map goal_term waits in
          let there : List Term = other ++ map goal_term others in (
            (then a.0.0 b.1.0, composed here terms there a.0.0 b.1.0 a.0.1 b.1.1),
            (then b.0.0 a.1.0, composed there terms here b.0.0 a.1.0 b.0.1 a.1.1),
          )
    ]

-- Goals that meet are as many,
as_many : (u v : Substitution) (gs hs : List Arithmetic) → map (apply_arithmetic u) gs ≡ map (apply_arithmetic v) hs → length gs ≡ length hs
as_many u v gs hs e = sym (length-map gs (apply_arithmetic u)) ∙ ap length e ∙ length-map hs (apply_arithmetic v)

-- so that one outcome comes of both.
one_kind : (gs hs : List Arithmetic) (text : List ℕ) → length gs ≡ length hs → outcome_of gs text ≡ outcome_of hs text
one_kind [] [] text e = refl
one_kind [] (h ∷ hs) text e = absurd (cc)
one_kind (g ∷ gs) [] text e = absurd (cc)
one_kind (g ∷ gs) (h ∷ hs) text e = refl

turned : (xs ys : List Term) → AreVariants xs ys → AreVariants ys xs
turned xs ys v = (v.1, v.0)

mapped_goals : (s : Substitution) (gs : List Arithmetic) → map goal_term (map (apply_arithmetic s) gs) ≡ map (λ g. apply s (goal_term g)) gs
mapped_goals s gs = terms_under s gs ∙ map-map (apply s) goal_term gs

-- Under any most general solution of what the tree closes to, the outcome is what the computation shows.
one_outcome : (P : Program) (cs : List ℕ) (values : List Term) (waits : List Arithmetic) (t : QueryTree P) (es : List Equation)
    (gs : List Arithmetic) (s r : Substitution)
    → HasAtoms P → length P.query.written ≤ P.query.variables → Computes P cs values waits → unfold_code P cs ≡ Some t → Closed t es gs → MostGeneral s es
    → query_values P r ≡ values → outcome_of gs (line P s gs) ≡ outcome_of waits (line_of P r (map goal_term waits))
one_outcome P cs values waits t es gs s r atoms few c e closed general given =
    let meet = meets_closed P atoms cs values waits t es gs c e closed in
    let w = meet.0 s general.0 in
    let many : length gs ≡ length waits = as_many s w.0 gs waits w.1.1 in
    let under : List Term = map (λ g. apply s (goal_term g)) gs in
    let variants : AreVariants (query_values P s ++ under) (query_values P r ++ map goal_term waits) =
    turned (query_values P r ++ map goal_term waits) (query_values P s ++ under) (
    subst (λ l. AreVariants (l ++ map goal_term waits) (query_values P s ++ under)) (sym given)
    (subst (λ l. AreVariants (values ++ map goal_term waits) (query_values P s ++ l)) (mapped_goals s gs)
    (one_answer P cs values waits t es gs s atoms c e closed general))
    ) in
    let lengths : length under ≡ length (map goal_term waits) = length-map gs (λ g. apply s (goal_term g)) ∙ many ∙ sym (length-map waits goal_term) in
    ap (outcome_of gs) (variants_line P P.query.variables s r under (map goal_term waits) few lengths variants)
    ∙ one_kind gs waits (line_of P r (map goal_term waits)) many

-- the law of lines
pub shows_ends : (P : Program) (cs : List ℕ) (values : List Term) (waits : List Arithmetic) (t : QueryTree P) (o : Outcome) → HasAtoms P
    → length P.query.written ≤ P.query.variables → Computes P cs values waits → unfold_code P cs ≡ Some t → Ends t o ↔ Shows P values waits o
shows_ends P cs values waits t o atoms few c e =
    let d = computed_tree P atoms cs values waits c in
    let is_tree : d.tree ≡ t = sym (from_some t t d.tree (sym e ∙ d.unfolded)) in
    let k = d.closing in
    let closed : Closed t k.ends k.goals = subst (λ x. Closed x k.ends k.goals) is_tree k.closes in
    let w = k.meet.1 same in
    let given : query_values P w.0 ≡ values = sym (values_under P w.0) ∙ w.2.0 ∙ list_same values in (
      λ (whole, es, gs, closes, s, general, was).
          (w.0, given, was ∙ one_outcome P cs values waits t es gs s w.0 atoms few c e closes general given),
      λ (r, gives, was).
          elim (unify k.ends) [
            | inr n ↦ absurd (n k.solvable)
            | inl m ↦ (
              subst (λ x. IsWhole x) is_tree d.whole,
              k.ends,
              k.goals,
              closed,
              m.0,
              m.1,
              was ∙ sym (one_outcome P cs values waits t k.ends k.goals m.0 r atoms few c e closed m.1 gives),
            )
          ],
    )

-- A computation has something to show.
shown : (P : Program) (cs : List ℕ) (values : List Term) (waits : List Arithmetic) → HasAtoms P → Computes P cs values waits
    → (text : Bytes) × Shows P values waits (outcome_of waits text)
shown P cs values waits atoms c =
    let k = (computed_tree P atoms cs values waits c).closing in
    let w = k.meet.1 same in
    (line_of P w.0 (map goal_term waits), (w.0, sym (values_under P w.0) ∙ w.2.0 ∙ list_same values, refl))

-- An answer is shown where nothing waits.
answers_wait_not : (waits : List Arithmetic) (text line : Bytes) → answer text ≡ outcome_of waits line → waits ≡ []
answers_wait_not [] text line e = refl
answers_wait_not (g ∷ gs) text line e = absurd (cc)

pub refuted_answers : (P : Program) (cs : List ℕ) → HasAtoms P → length P.query.written ≤ P.query.variables → (values : List Term) × IsRefuted P cs values
    → (t : QueryTree P) × (unfold_code P cs ≡ Some t) × ((text : Bytes) × Ends t (answer text))
refuted_answers P cs atoms few (values, c) =
    let d = computed_ends P cs atoms (values, [], c) in
    let s = shown P cs values [] atoms c in
    (d.0, d.1, (s.0, (shows_ends P cs values [] d.0 (answer s.0) atoms few c d.1).1 s.1))

pub ends_outcome : {P : Program} (t : QueryTree P) (o : Outcome) → Ends t o → HasOutcome t
ends_outcome t o (w, es, gs, closed, s, general, was) = (es, gs, w, closed, (s, general.0))

pub answers_refuted : (P : Program) (cs : List ℕ) → HasAtoms P → length P.query.written ≤ P.query.variables
    → (t : QueryTree P) × (unfold_code P cs ≡ Some t) × ((text : Bytes) × Ends t (answer text)) → (values : List Term) × IsRefuted P cs values
answers_refuted P cs atoms few (t, e, (text, ends)) =
    let c = ends_computed P cs atoms (t, e, ends_outcome t (answer text) ends) in
    let s = (shows_ends P cs c.0 c.1 t (answer text) atoms few c.2 e).0 ends in
    (c.0, subst (λ l. Computes P cs c.0 l) (answers_wait_not c.1 text (line_of P s.0 (map goal_term c.1)) s.2) c.2)
