-- The first variable that an arithmetic goal waits for.
use Rattle.std.proofs.Common.{ℕ, zero, suc, ◌+◌, ◌≡◌, ◌<◌, ◌≤◌, ◌⊎◌, inl, inr, ⊎_elim, List, [], ◌∷◌, ◌++◌, length, map, get_or, take}
use Rattle.std.proofs.Common.{refl, sym, ap, ◌∙◌, arith, subst, Bool, true, false, cond, Some, None}
use Rattle.std.specs.Prelude.{nat_eq, leb, Contains}
use Rattle.std.specs.List.{position_or_len}
use Rattle.std.proofs.lemmas.List.{take_more, get_or_past, get_or-map, length-map, append-nil, map-append}
use Rattle.std.proofs.lemmas.Bool.{cases_Bool, cases_eq, cases_lt, eqb-true, eq-eqb, ne_eqb}
use Rattle.and_model.specs.Terms.{Path, Term, variables_of}
use Rattle.and_model.specs.Arithmetic.{Relation}
use Rattle.and_model.specs.Programs
use Rattle.and_model.specs.Programs.{Program, Clause, Item, fail, clause_at}
use Rattle.and_model.specs.declared.numbers.ClauseNo.{ClauseNo}
use Rattle.and_program.specs.Skeletons.{Shape, item_of}
use Rattle.and_program.specs.Items.{node_item}
use Rattle.and_program.specs.declared.item.ItemNode.{ItemNode}
use Rattle.and_modes.specs.Modes.{rank, Assignment, Environment, after_item, after_items, at_entry, Wait, waited_by, waited_at}
use Rattle.and_modes.specs.Modes.{before_item, WaitsFor, place_waited, IsEarlier}
use Rattle.and_modes.specs.Walked.{unframed}
use Rattle.and_modes.specs.Waiting.{numbers_in, first_unknown, IsVerdictAmong}
use Rattle.and_modes.specs.declared.level.Level.{Level}
use Rattle.and_modes.specs.declared.level.Level.TheVariants.{Any, Ground, Integer}
use Rattle.and_modes.specs.declared.verdicts.Verdict.TheVariants.{Safe, Waits}

-- A level is the lowest exactly where it is not at least ground.
lowest_level : (l : Level) → leb 1 (rank l) ≡ false → l ≡ Any
lowest_level Any e = refl
lowest_level Ground e = absurd (cc)
lowest_level Integer e = absurd (cc)

not_lowest : (l : Level) → leb 1 (rank l) ≡ true → l ≡ Any → ⊥
not_lowest Any e is = cc
not_lowest Ground e is = cc
not_lowest Integer e is = cc

contains_cases : (x : ℕ) (xs : List ℕ) (y : ℕ) → Contains (x ∷ xs) y → (x ≡ y) ⊎ Contains xs y
contains_cases x xs y (zero, lt, e) = inl e
contains_cases x xs y (suc k, lt, e) = inr (k, omega arith, e)

contains_here : (x : ℕ) (xs : List ℕ) → Contains (x ∷ xs) x
contains_here x xs = (0, omega arith, refl)

contains_there : (x : ℕ) (xs : List ℕ) (y : ℕ) → Contains xs y → Contains (x ∷ xs) y
contains_there x xs y c = let lt = c.1 in (suc c.0, omega arith, c.2)

-- where none is told, each is known
pub none_unknown : (e : Environment) (ks : List ℕ) → first_unknown e ks ≡ None → (k : ℕ) → Contains ks k → e k ≡ Any → ⊥
none_unknown e [] none k c any = let lt = c.1 in omega arith
none_unknown e (j ∷ js) none k c any =
    ⊎_elim
    (λ (known : leb 1 (rank (e j)) ≡ true).
    ⊎_elim (λ (same : j ≡ k). not_lowest (e j) known (ap e same ∙ any))
    (λ (rest : Contains js k). none_unknown e js
    (let P : Bool → Type 0 = λ b. cond b (first_unknown e js) (Some j) ≡ None in subst P known none) k rest any)
    (contains_cases j js k c))
    (λ (unknown : leb 1 (rank (e j)) ≡ false).
    let P : Bool → Type 0 = λ b. cond b (first_unknown e js) (Some j) ≡ None in
    let no : Some j ≡ None = subst P unknown none in
    absurd (cc))
    (cases_Bool (leb 1 (rank (e j))))

-- behind a variable that is neither of two, the one stays before the other
later_too : (k i j : ℕ) (js : List ℕ) → (k ≡ j → ⊥) → (i ≡ j → ⊥) → position_or_len (nat_eq k) js < position_or_len (nat_eq i) js
    → position_or_len (nat_eq k) (j ∷ js) < position_or_len (nat_eq i) (j ∷ js)
later_too k i j js other before lt = rw (ne_eqb k j other, ne_eqb i j before) (omega arith)

first_of_all : (k i j : ℕ) (js : List ℕ) → k ≡ j → (i ≡ k → ⊥) → position_or_len (nat_eq k) (j ∷ js) < position_or_len (nat_eq i) (j ∷ js)
first_of_all k i j js same differs =
    let before : (i ≡ j) → ⊥ = λ (e : i ≡ j). differs (e ∙ sym same) in
    rw (eq-eqb k j same, ne_eqb i j before) (omega arith)

-- Where a variable is told, it is the first that is not known.
pub record IsFirst (e : Environment) (ks : List ℕ) (k : ℕ) : Type 0 where
  pub there : Contains ks k
  pub unknown : e k ≡ Any
  pub first : (j : ℕ) → Contains ks j → e j ≡ Any → (j ≡ k) ⊎ (position_or_len (nat_eq k) ks < position_or_len (nat_eq j) ks)

pub some_unknown : (e : Environment) (ks : List ℕ) (k : ℕ) → first_unknown e ks ≡ Some k → IsFirst e ks k
some_unknown e [] k some = absurd (cc)
some_unknown e (j ∷ js) k some =
    let P : Bool → Type 0 = λ b. cond b (first_unknown e js) (Some j) ≡ Some k in
    ⊎_elim
    (λ (known : leb 1 (rank (e j)) ≡ true).
    let rest : IsFirst e js k = some_unknown e js k (subst P known some) in
    let other : (j ≡ k) → ⊥ = λ (same : j ≡ k). not_lowest (e j) known (ap e same ∙ rest.unknown) in
    record {
      there = contains_there j js k rest.there;
      unknown = rest.unknown;
      first = λ i c any.
          ⊎_elim
          (λ (same : j ≡ i). absurd (not_lowest (e j) known (ap e same ∙ any)))
          (λ (later : Contains js i).
          let before : (j ≡ i) → ⊥ = λ (same : j ≡ i). not_lowest (e j) known (ap e same ∙ any) in
          ⊎_elim
          (λ (same : i ≡ k). inl same)
          (λ (lt : position_or_len (nat_eq k) js < position_or_len (nat_eq i) js).
          inr (later_too k i j js (λ (same : k ≡ j). other (sym same)) (λ (same : i ≡ j). before (sym same)) lt))
          (rest.first i later any))
          (contains_cases j js i c);
    })
    (λ (unknown : leb 1 (rank (e j)) ≡ false).
    let here : Some j ≡ Some k = subst P unknown some in
    let same : j ≡ k = cc in
    record {
      there = subst (λ (i : ℕ). Contains (j ∷ js) i) same (contains_here j js);
      unknown = subst (λ (i : ℕ). e i ≡ Any) same (lowest_level (e j) unknown);
      first = λ i c any. ⊎_elim (λ (equal : i ≡ k). inl equal) (λ (differs : i ≡ k → ⊥). inr (first_of_all k i j js (sym same) differs))
          (cases_eq i k);
    })
    (cases_Bool (leb 1 (rank (e j))))

-- the variables of two terms
pub first_on_left : (e : Environment) (xs ys : List ℕ) (k : ℕ) → first_unknown e xs ≡ Some k → first_unknown e (xs ++ ys) ≡ Some k
first_on_left e [] ys k some = absurd (cc)
first_on_left e (x ∷ xs) ys k some =
    let P : Bool → Type 0 = λ b. cond b (first_unknown e xs) (Some x) ≡ Some k → cond b (first_unknown e (xs ++ ys)) (Some x) ≡ Some k in
    (elim (leb 1 (rank (e x))) as P [ true ↦ λ more. first_on_left e xs ys k more | false ↦ λ here. here ]) some

pub first_on_right : (e : Environment) (xs ys : List ℕ) → first_unknown e xs ≡ None → first_unknown e (xs ++ ys) ≡ first_unknown e ys
first_on_right e [] ys none = refl
first_on_right e (x ∷ xs) ys none =
    let P : Bool → Type 0 = λ b. cond b (first_unknown e xs) (Some x) ≡ None
    → cond b (first_unknown e (xs ++ ys)) (Some x) ≡ first_unknown e ys in
    (elim (leb 1 (rank (e x))) as P [ true ↦ λ more. first_on_right e xs ys more | false ↦ λ here. absurd (cc) ]) none

numbers_again : (ks : List ℕ) → ks ≡ map (λ (v : Path × ℕ). v.1) (map unframed ks)
numbers_again [] = refl
numbers_again (k ∷ ks) = ap (λ (js : List ℕ). k ∷ js) (numbers_again ks)

pub numbers_found : (found : List ℕ) (t : Term) → map unframed found ≡ variables_of t → found ≡ numbers_in t
numbers_found found t e = numbers_again found ∙ ap (λ (vs : List (Path × ℕ)). map (λ (v : Path × ℕ). v.1) vs) e

pub waited_by_is : (l r : Term) → waited_by (Programs.arithmetic (Programs.is l r)) ≡ numbers_in r
waited_by_is l r = ap (λ (vs : List (Path × ℕ)). map (λ (v : Path × ℕ). v.1) vs) (append-nil (variables_of r))

pub waited_by_comparison : (o : Relation) (a b : Term)
    → waited_by (Programs.arithmetic (Programs.compare o a b)) ≡ numbers_in a ++ numbers_in b
waited_by_comparison o a b =
    ap (λ (vs : List (Path × ℕ)). map (λ (v : Path × ℕ). v.1) (variables_of a ++ vs)) (append-nil (variables_of b))
    ∙ map-append (λ (v : Path × ℕ). v.1) (variables_of a) (variables_of b)

after_items-append : (m : Assignment) (e : Environment) (xs ys : List Item)
    → after_items m e (xs ++ ys) ≡ after_items m (after_items m e xs) ys
after_items-append m e [] ys = refl
after_items-append m e (x ∷ xs) ys = after_items-append m (after_item m e x) xs ys

pub before_next : (P : Program) (m : Assignment) (c i : ℕ) → i < length (clause_at P c).body
    → before_item P m c (i + 1) ≡ after_item m (before_item P m c i) (get_or (clause_at P c).body i fail)
before_next P m c i lt =
    let k : Clause = clause_at P c in
    ap (λ (items : List Item). after_items m (at_entry m k) items) (take_more k.body i fail lt)
    ∙ after_items-append m (at_entry m k) (take i k.body) (get_or k.body i fail ∷ [])

-- no item of the clause before item i waits
abbrev pub NoneBefore : Program → Assignment → (clause item : ℕ) → Type 0
NoneBefore P m c i = (v : Wait) → v.clause ≡ c → v.item < i → WaitsFor P m v → ⊥

-- what waits at an item, by its clause and its number
waits_there : (P : Program) (m : Assignment) (v : Wait) (c i : ℕ) → v.clause ≡ c → v.item ≡ i → WaitsFor P m v
    → Contains (waited_at P c i) v.variable × (before_item P m c i v.variable ≡ Any)
waits_there P m v c i is_clause is_item w =
    let A : ℕ → ℕ → Type 0 = λ d j. Contains (waited_at P d j) v.variable × (before_item P m d j v.variable ≡ Any) in
    subst (λ (d : ℕ). A d i) is_clause (subst (λ (j : ℕ). A v.clause j) is_item (w.1, w.2))

pub none_before_next : (P : Program) (m : Assignment) (c i : ℕ) → NoneBefore P m c i
    → first_unknown (before_item P m c i) (waited_at P c i) ≡ None → NoneBefore P m c (i + 1)
none_before_next P m c i before none = λ v is_clause lt w.
    ⊎_elim
    (λ (same : v.item ≡ i).
    let there = waits_there P m v c i is_clause same w in
    none_unknown (before_item P m c i) (waited_at P c i) none v.variable there.0 there.1)
    (λ (differs : v.item ≡ i → ⊥). before v is_clause (omega arith) w)
    (cases_eq v.item i)

-- Past the last item nothing waits.
pub none_at_all : (P : Program) (m : Assignment) (c i : ℕ) → length (clause_at P c).body ≤ i → NoneBefore P m c i
    → IsVerdictAmong P m (λ d. nat_eq d c) Safe
none_at_all P m c i past before = λ v seen w.
    let is_clause : v.clause ≡ c = eqb-true v.clause c seen in
    ⊎_elim
    (λ (lt : v.item < i). before v is_clause lt w)
    (λ (le : i ≤ v.item).
    let there = waits_there P m v c v.item is_clause refl w in
    let nothing : waited_at P c v.item ≡ [] = ap waited_by (get_or_past (clause_at P c).body v.item fail (omega arith)) in
    let empty : Contains [] v.variable = subst (λ (ks : List ℕ). Contains ks v.variable) nothing there.0 in
    let lt = empty.1 in
    omega arith)
    (cases_lt v.item i)

-- The variables of the first item that waits come first, from left to right.
first_or_later : (P : Program) (m : Assignment) (c i k : ℕ) (v : Wait) → v.clause ≡ c → NoneBefore P m c i
    → IsFirst (before_item P m c i) (waited_at P c i) k → WaitsFor P m v
    → (v ≡ record { clause = c; item = i; variable = k }) ⊎ IsEarlier P (record { clause = c; item = i; variable = k }) v
first_or_later P m c i k v is_clause before first w =
    let at : ℕ → ℕ → ℕ → Wait = λ d j n. record { clause = d; item = j; variable = n } in
    ⊎_elim
    (λ (same : v.item ≡ i).
    let there = waits_there P m v c i is_clause same w in
    ⊎_elim
    (λ (is_variable : v.variable ≡ k). inl
    (ap (λ (d : ℕ). at d v.item v.variable) is_clause ∙ ap (λ (j : ℕ). at c j v.variable) same ∙ ap (λ (n : ℕ). at c i n) is_variable))
    (λ (lt : position_or_len (nat_eq k) (waited_at P c i) < position_or_len (nat_eq v.variable) (waited_at P c i)).
    let place : place_waited P v ≡ position_or_len (nat_eq v.variable) (waited_at P c i) =
    ap (λ (d : ℕ). position_or_len (nat_eq v.variable) (waited_at P d v.item)) is_clause
    ∙ ap (λ (j : ℕ). position_or_len (nat_eq v.variable) (waited_at P c j)) same in
    inr (inr (inr (inr (sym is_clause, sym same, rw place lt)))))
    (first.first v.variable there.0 there.1))
    (λ (differs : v.item ≡ i → ⊥).
    ⊎_elim
    (λ (lt : v.item < i). absurd (before v is_clause lt w))
    (λ (le : i ≤ v.item). inr (inr (inr (inl (sym is_clause, omega arith)))))
    (cases_lt v.item i))
    (cases_eq v.item i)

-- The first item that waits is told.
pub first_told : (P : Program) (m : Assignment) (c : ClauseNo) (i k : ℕ) → c.0 ≤ length P.clauses → NoneBefore P m c.0 i
    → first_unknown (before_item P m c.0 i) (waited_at P c.0 i) ≡ Some k
    → IsVerdictAmong P m (λ d. nat_eq d c.0) (Waits c i k)
first_told P m c i k there before some =
    let first = some_unknown (before_item P m c.0 i) (waited_at P c.0 i) k some in (
      eq-eqb c.0 c.0 refl,
      (there, first.there, first.unknown),
      λ v seen w.
          first_or_later P m c.0 i k v (eqb-true v.clause c.0 seen) before first w,
    )

-- the items of a body, by the nodes that are its items
pub item_here : (ss : List Shape) (items : List ItemNode) (body : List Item) (i : ℕ) (d : ItemNode)
    → map (item_of ss) (map node_item items) ≡ body → i < length items
    → (get_or body i fail ≡ item_of ss (node_item (get_or items i d))) × (i < length body)
item_here ss items body i d e lt =
    let few : length (map node_item items) ≡ length items = length-map items node_item in
    let all : length (map (item_of ss) (map node_item items)) ≡ length (map node_item items) =
    length-map (map node_item items) (item_of ss) in
    let same : length (map (item_of ss) (map node_item items)) ≡ length body = ap length e in (
      ap (λ (is : List Item). get_or is i fail) (sym e)
          ∙ get_or-map (item_of ss) (map node_item items) i (node_item d) fail (omega arith)
          ∙ ap (item_of ss) (get_or-map node_item items i d (node_item d) lt),
      omega arith,
    )

pub items_past : (ss : List Shape) (items : List ItemNode) (body : List Item) (i : ℕ) → map (item_of ss) (map node_item items) ≡ body
    → length items ≤ i → length body ≤ i
items_past ss items body i e le =
    let few : length (map node_item items) ≡ length items = length-map items node_item in
    let all : length (map (item_of ss) (map node_item items)) ≡ length (map node_item items) =
    length-map (map node_item items) (item_of ss) in
    let same : length (map (item_of ss) (map node_item items)) ≡ length body = ap length e in
    omega arith
