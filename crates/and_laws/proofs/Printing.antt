-- One line: two most general solutions of the same equations differ by a renaming of variables, and a line names its variables by their order.
use Rattle.std.proofs.Common.{ℕ, zero, suc, ◌≡◌, ◌+◌, ◌<◌, ◌≤◌, length, arith, ⊎_elim, List, [], ◌∷◌, ◌++◌, refl, ap, sym, ◌∙◌, subst, inl, inr, true, false}
use Rattle.std.proofs.Common.{true≢false, cond, nat_eq, map, codes, eqb-true, eq-eqb, decimal}
use Rattle.and_model.specs.Terms.{Path, Term, Terms, variable, number, compound, none, more, variables_of, variables_in, Substitution, apply, apply_all}
use Rattle.and_model.specs.Solutions.{Equation, Entails, MostGeneral}
use Rattle.and_model.specs.Programs.{Program, Arithmetic}
use Rattle.and_model.specs.Lines.{Bytes, same_path, same_variable, has, first_seen, place_of, is_cell, is_nil, shown, shown_arguments, shown_rest}
use Rattle.and_model.specs.Lines.{shown_elements, shown_tail, goal_term, shown_variables, variables_along, joined, shown_value, with_waiting}
use Rattle.and_model.specs.Lines.{begins_underscore, line_of, line}
use Rattle.and_model.specs.Stands.{numbers_below, AreVariants}
use Rattle.std.proofs.lemmas.Bool.{cases_lt}
use Rattle.std.proofs.lemmas.List.{length-map, map-append}
use Rattle.and_laws.proofs.Substitutions.{Through, apply_through, and_left, and_right}
use Rattle.and_laws.proofs.Equality.{bool_cases}

abbrev pub Variable : Type 0
Variable = Path × ℕ

-- each of these variables of the query has a number below n
abbrev AllBelow : ℕ → List (Bytes × ℕ) → Type 0
AllBelow n [] = Unit {0}
AllBelow n (v ∷ vs) = (v.1 < n) × AllBelow n vs

-- The tests of paths and of variables are true of the same ones alone.
pub same_path_true : (q r : Path) → same_path q r ≡ true → q ≡ r
same_path_true [] [] e = refl
same_path_true [] (j ∷ r) e = absurd (true≢false (sym e))
same_path_true (i ∷ q) [] e = absurd (true≢false (sym e))
same_path_true (i ∷ q) (j ∷ r) e =
    let first : i ≡ j = eqb-true i j (and_left (nat_eq i j) (same_path q r) e) in
    let rest : q ≡ r = same_path_true q r (and_right (nat_eq i j) (same_path q r) e) in
    cc

-- A path is equal to itself,
pub same_path_self : (q : Path) → same_path q q ≡ true
same_path_self [] = refl
same_path_self (i ∷ q) = rw (eq-eqb i i refl) (same_path_self q)

-- Equal variables have the same path and number,
pub same_variable_true : (v w : Variable) → same_variable v w ≡ true → (v.0 ≡ w.0) × (v.1 ≡ w.1)
same_variable_true v w e =
    (same_path_true v.0 w.0 (and_left (same_path v.0 w.0) (nat_eq v.1 w.1) e), eqb-true v.1 w.1 (and_right (same_path v.0 w.0) (nat_eq v.1 w.1) e))

-- and variables with the same path and number are equal.
pub same_variable_self : (v w : Variable) → v.0 ≡ w.0 → v.1 ≡ w.1 → same_variable v w ≡ true
same_variable_self v w e f = rw (e, f, same_path_self w.0, eq-eqb w.1 w.1 refl) refl

-- Below, s and t go through each other on some terms: t renames the variables of these terms, and s names them back.
module _ (s t : Substitution) where
  -- t gives the first variable the second, and s gives it back
  abbrev pub Pair : Variable → Variable → Type 0
  Pair v w = (t v.0 v.1 ≡ variable w.0 w.1) × (s w.0 w.1 ≡ variable v.0 v.1)

  -- pairs, one after another
  abbrev pub Pairs : List Variable → List Variable → Type 0
  Pairs [] [] = Unit {0}
  Pairs [] (w ∷ ws) = ⊥
  Pairs (v ∷ vs) [] = ⊥
  Pairs (v ∷ vs) (w ∷ ws) = Pair v w × Pairs vs ws

  pairs_join : (vs ws xs ys : List Variable) → Pairs vs ws → Pairs xs ys → Pairs (vs ++ xs) (ws ++ ys)
  pairs_join [] [] xs ys p q = q
  pairs_join [] (w ∷ ws) xs ys p q = elim p [ ]
  pairs_join (v ∷ vs) [] xs ys p q = elim p [ ]
  pairs_join (v ∷ vs) (w ∷ ws) xs ys p q = (p.0, pairs_join vs ws xs ys p.1 q)

  -- pairs are equal on one side where they are on the other
  pair_same : (v w x y : Variable) → Pair v w → Pair x y → same_variable v x ≡ same_variable w y
  pair_same v w x y p q =
      elim (bool_cases (same_variable v x)) [
        | inl e ↦
            let same = same_variable_true v x e in
            let a : v.0 ≡ x.0 = same.0 in let b : v.1 ≡ x.1 = same.1 in
            let one : variable w.0 w.1 ≡ t v.0 v.1 = sym p.0 in
            let two : t x.0 x.1 ≡ variable y.0 y.1 = q.0 in
            let three : variable w.0 w.1 ≡ variable y.0 y.1 = cc in
            e ∙ sym (same_variable_self w y (cc) (cc))
        | inr e ↦ elim (bool_cases (same_variable w y)) [
          | inr f ↦ e ∙ sym f
          | inl f ↦
              let same = same_variable_true w y f in
              let a : w.0 ≡ y.0 = same.0 in let b : w.1 ≡ y.1 = same.1 in
              let one : variable v.0 v.1 ≡ s w.0 w.1 = sym p.1 in
              let two : s y.0 y.1 ≡ variable x.0 x.1 = q.1 in
              let three : variable v.0 v.1 ≡ variable x.0 x.1 = cc in
              absurd (true≢false (sym (same_variable_self v x (cc) (cc)) ∙ e))
        ]
      ]

  -- so pairs are found in lists of pairs at the same places
  has_same : (v w : Variable) (vs ws : List Variable) → Pair v w → Pairs vs ws → has v vs ≡ has w ws
  has_same v w [] [] p q = refl
  has_same v w [] (y ∷ ys) p q = elim q [ ]
  has_same v w (x ∷ xs) [] p q = elim q [ ]
  has_same v w (x ∷ xs) (y ∷ ys) p q = rw (pair_same v w x y p q.0, has_same v w xs ys p q.1) refl

  place_same : (v w : Variable) (vs ws : List Variable) → Pair v w → Pairs vs ws → place_of v vs ≡ place_of w ws
  place_same v w [] [] p q = refl
  place_same v w [] (y ∷ ys) p q = elim q [ ]
  place_same v w (x ∷ xs) [] p q = elim q [ ]
  place_same v w (x ∷ xs) (y ∷ ys) p q = rw (pair_same v w x y p q.0, place_same v w xs ys p q.1) refl

  -- the variables in the order of their first occurrences are pairs too
  pub first_seen_pairs : (seen told vs ws : List Variable) → Pairs seen told → Pairs vs ws → Pairs (first_seen seen vs) (first_seen told ws)
  first_seen_pairs seen told [] [] p q = p
  first_seen_pairs seen told [] (w ∷ ws) p q = elim q [ ]
  first_seen_pairs seen told (v ∷ vs) [] p q = elim q [ ]
  first_seen_pairs seen told (v ∷ vs) (w ∷ ws) p q =
      let next : Pairs (cond (has v seen) seen (seen ++ v ∷ [])) (cond (has w told) told (told ++ w ∷ [])) =
      subst (λ b. Pairs (cond (has v seen) seen (seen ++ v ∷ [])) (cond b told (told ++ w ∷ []))) (has_same v w seen told q.0 p)
      (elim (has v seen) as (λ b. Pairs (cond b seen (seen ++ v ∷ [])) (cond b told (told ++ w ∷ []))) [
        | true ↦ p
        | false ↦ pairs_join seen told (v ∷ []) (w ∷ []) p (q.0, tt)
      ]) in
      first_seen_pairs (cond (has v seen) seen (seen ++ v ∷ [])) (cond (has w told) told (told ++ w ∷ [])) vs ws next q.1

  -- a variable that s gives back is given a variable
  variable_pair : (q : Path) (k : ℕ) (y : Term) → t q k ≡ y → apply s y ≡ variable q k → (w : Variable) × (y ≡ variable w.0 w.1) × Pair (q, k) w
  variable_pair q k (variable r j) e f = ((r, j), refl, (e, f))
  variable_pair q k (number z) e f = absurd (cc)
  variable_pair q k (compound c ts) e f = absurd (cc)

  -- the variables of a term that s gives back, and of what t makes of it, are pairs
  mutual
    term_pairs : (x : Term) → apply s (apply t x) ≡ x → Pairs (variables_of x) (variables_of (apply t x))
    term_pairs (variable q k) e = let p = variable_pair q k (t q k) refl e in subst (λ y. Pairs ((q, k) ∷ []) (variables_of y)) (sym p.1) (p.2, tt)
    term_pairs (number z) e = tt
    term_pairs (compound c ts) e = terms_pairs ts (cc)

    terms_pairs : (xs : Terms) → apply_all s (apply_all t xs) ≡ xs → Pairs (variables_in xs) (variables_in (apply_all t xs))
    terms_pairs none e = tt
    terms_pairs (more x xs) e =
        pairs_join (variables_of x) (variables_of (apply t x)) (variables_in xs) (variables_in (apply_all t xs)) (term_pairs x (cc)) (terms_pairs xs (cc))

  -- what t makes of a list is a list
  is_cell_same : (c : ℕ) (ts : Terms) → is_cell c (apply_all t ts) ≡ is_cell c ts
  is_cell_same c none = refl
  is_cell_same c (more h none) = refl
  is_cell_same c (more h (more u none)) = refl
  is_cell_same c (more h (more u (more x xs))) = refl

  is_nil_same : (c : ℕ) (ts : Terms) → is_nil c (apply_all t ts) ≡ is_nil c ts
  is_nil_same c none = refl
  is_nil_same c (more h ts) = refl

  -- so both are written alike, where the lists of variables are pairs
  module _ (names : List Bytes) (vs ws : List Variable) (known : Pairs vs ws) where
    variable_shown : (q : Path) (k : ℕ) → apply s (t q k) ≡ variable q k → shown names vs (variable q k) ≡ shown names ws (t q k)
    variable_shown q k e =
        let p = variable_pair q k (t q k) refl e in
        let same : shown names vs (variable q k) ≡ shown names ws (variable p.0.0 p.0.1) = ap (λ n. 95 ∷ decimal n) (place_same (q, k) p.0 vs ws p.2 known) in
        same ∙ ap (shown names ws) (sym p.1)

    variable_tail : (q : Path) (k : ℕ) → apply s (t q k) ≡ variable q k → shown_tail names vs (variable q k) ≡ shown_tail names ws (t q k)
    variable_tail q k e =
        let p = variable_pair q k (t q k) refl e in
        let same : shown_tail names vs (variable q k) ≡ shown_tail names ws (variable p.0.0 p.0.1) =
        ap (λ n. 124 ∷ 95 ∷ decimal n) (place_same (q, k) p.0 vs ws p.2 known) in
        same ∙ ap (shown_tail names ws) (sym p.1)

    mutual
      shown_same : (x : Term) → apply s (apply t x) ≡ x → shown names vs x ≡ shown names ws (apply t x)
      shown_same (variable q k) e = variable_shown q k e
      shown_same (number z) e = refl
      shown_same (compound c ts) e =
          let inside : apply_all s (apply_all t ts) ≡ ts = cc in
          rw (is_cell_same c ts, elements_same ts inside, arguments_same ts inside) refl

      arguments_same : (xs : Terms) → apply_all s (apply_all t xs) ≡ xs → shown_arguments names vs xs ≡ shown_arguments names ws (apply_all t xs)
      arguments_same none e = refl
      arguments_same (more x xs) e = rw (shown_same x (cc), rest_same xs (cc)) refl

      rest_same : (xs : Terms) → apply_all s (apply_all t xs) ≡ xs → shown_rest names vs xs ≡ shown_rest names ws (apply_all t xs)
      rest_same none e = refl
      rest_same (more x xs) e = rw (shown_same x (cc), rest_same xs (cc)) refl

      elements_same : (xs : Terms) → apply_all s (apply_all t xs) ≡ xs → shown_elements names vs xs ≡ shown_elements names ws (apply_all t xs)
      elements_same none e = refl
      elements_same (more h none) e = refl
      elements_same (more h (more u us)) e = rw (shown_same h (cc), tail_same u (cc)) refl

      tail_same : (x : Term) → apply s (apply t x) ≡ x → shown_tail names vs x ≡ shown_tail names ws (apply t x)
      tail_same (variable q k) e = variable_tail q k e
      tail_same (number z) e = refl
      tail_same (compound c ts) e =
          let inside : apply_all s (apply_all t ts) ≡ ts = cc in
          rw (is_cell_same c ts, is_nil_same c ts, elements_same ts inside, arguments_same ts inside) refl

    -- (with the renamed term by a name of its own)
    pub shown_twin : (x y : Term) → y ≡ apply t x → x ≡ apply s y → shown names vs x ≡ shown names ws y
    shown_twin x y e f = shown_same x (ap (apply s) (sym e) ∙ sym f) ∙ ap (shown names ws) (sym e)

  -- lists of terms that are renamed so
  abbrev pub Twins : List Term → List Term → Type 0
  Twins [] [] = Unit {0}
  Twins [] (y ∷ ys) = ⊥
  Twins (x ∷ xs) [] = ⊥
  Twins (x ∷ xs) (y ∷ ys) = (y ≡ apply t x) × (x ≡ apply s y) × Twins xs ys

  twins_join : (xs ys us zs : List Term) → Twins xs ys → Twins us zs → Twins (xs ++ us) (ys ++ zs)
  twins_join [] [] us zs p q = q
  twins_join [] (y ∷ ys) us zs p q = elim p [ ]
  twins_join (x ∷ xs) [] us zs p q = elim p [ ]
  twins_join (x ∷ xs) (y ∷ ys) us zs p q = (p.0, p.1, twins_join xs ys us zs p.2 q)

  -- and their variables are pairs
  pub twins_pairs : (xs ys : List Term) → Twins xs ys → Pairs (variables_along xs) (variables_along ys)
  twins_pairs [] [] p = tt
  twins_pairs [] (y ∷ ys) p = elim p [ ]
  twins_pairs (x ∷ xs) [] p = elim p [ ]
  twins_pairs (x ∷ xs) (y ∷ ys) p =
      pairs_join (variables_of x) (variables_of y) (variables_along xs) (variables_along ys)
      (subst (λ z. Pairs (variables_of x) (variables_of z)) (sym p.0) (term_pairs x (ap (apply s) (sym p.0) ∙ sym p.1))) (twins_pairs xs ys p.2)

  -- what t makes of terms that s gives back are their twins
  twins_of : (xs : List Term) → map (apply s) (map (apply t) xs) ≡ xs → Twins xs (map (apply t) xs)
  twins_of [] e = tt
  twins_of (x ∷ xs) e =
      let here : apply s (apply t x) ≡ x = cc in
      let rest : map (apply s) (map (apply t) xs) ≡ xs = cc in
      (refl, sym here, twins_of xs rest)

  -- twins of lists that are joined, where the first parts are equally long
  twins_apart : (xs ys us zs : List Term) → length xs ≡ length ys → Twins (xs ++ us) (ys ++ zs) → Twins xs ys × Twins us zs
  twins_apart [] [] us zs e p = (tt, p)
  twins_apart [] (y ∷ ys) us zs e p = absurd (omega arith)
  twins_apart (x ∷ xs) [] us zs e p = absurd (omega arith)
  twins_apart (x ∷ xs) (y ∷ ys) us zs e p = let r = twins_apart xs ys us zs (omega arith) p.2 in ((p.0, p.1, r.0), r.1)

  -- Values f and g of the query's variables
  module _ (f g : Substitution) where
    abbrev AreTwins : ℕ → Type 0
    AreTwins k = (g [] k ≡ apply t (f [] k)) × (f [] k ≡ apply s (g [] k))

    -- are twins at each number below n, where the lists of them are,
    numbered_twins : (n : ℕ) → Twins (map (f []) (numbers_below n)) (map (g []) (numbers_below n)) → (k : ℕ) → k < n → AreTwins k
    numbered_twins zero p k lt = absurd (omega arith)
    numbered_twins (suc n) p k lt =
        let ns : List ℕ = numbers_below n in
        let ends : Twins (map (f []) ns ++ f [] n ∷ []) (map (g []) ns ++ g [] n ∷ []) =
        rw (← map-append (f []) ns (n ∷ []), ← map-append (g []) ns (n ∷ [])) p in
        let r = twins_apart (map (f []) ns) (map (g []) ns) (f [] n ∷ []) (g [] n ∷ []) (length-map ns (f []) ∙ sym (length-map ns (g []))) ends in
        ⊎_elim
        (λ (low : k < n). numbered_twins n r.0 k low)
        (λ (high : n ≤ k). let last : n ≡ k = omega arith in subst AreTwins last (r.1.0, r.1.1))
        (cases_lt k n)

    -- and so are those of variables that are shown.
    value_twins : (n : ℕ) → ((k : ℕ) → k < n → AreTwins k) → (ones : List (Bytes × ℕ)) → AllBelow n ones
        → Twins (map (λ (v : Bytes × ℕ). f [] v.1) ones) (map (λ (v : Bytes × ℕ). g [] v.1) ones)
    value_twins n known [] low = tt
    value_twins n known (v ∷ ones) low = let one = known v.1 low.0 in (one.0, one.1, value_twins n known ones low.1)

    -- They are written alike,
    values_same : (names : List Bytes) (vs ws : List Variable) → Pairs vs ws → (ones : List (Bytes × ℕ))
        → Twins (map (λ (v : Bytes × ℕ). f [] v.1) ones) (map (λ (v : Bytes × ℕ). g [] v.1) ones)
        → map (shown_value names vs f) ones ≡ map (shown_value names ws g) ones
    values_same names vs ws known [] p = refl
    values_same names vs ws known (v ∷ ones) p =
        let one : shown names vs (f [] v.1) ≡ shown names ws (g [] v.1) = shown_twin names vs ws known (f [] v.1) (g [] v.1) p.0 p.1 in
        rw (one, values_same names vs ws known ones p.2) refl

  -- and so are goals that are twins.
  goals_same : (names : List Bytes) (vs ws : List Variable) → Pairs vs ws → (gs hs : List Term) → Twins gs hs
      → map (shown names vs) gs ≡ map (shown names ws) hs
  goals_same names vs ws known [] [] p = refl
  goals_same names vs ws known [] (h ∷ hs) p = elim p [ ]
  goals_same names vs ws known (g ∷ gs) [] p = elim p [ ]
  goals_same names vs ws known (g ∷ gs) (h ∷ hs) p = rw (shown_twin names vs ws known g h p.0 p.1, goals_same names vs ws known gs hs p.2) refl

  waiting_same : (names : List Bytes) (vs ws : List Variable) → Pairs vs ws → (gs hs : List Term) → Twins gs hs
      → with_waiting names vs gs ≡ with_waiting names ws hs
  waiting_same names vs ws known [] [] p = refl
  waiting_same names vs ws known [] (h ∷ hs) p = elim p [ ]
  waiting_same names vs ws known (g ∷ gs) [] p = elim p [ ]
  waiting_same names vs ws known (g ∷ gs) (h ∷ hs) p = ap (λ l. codes " with " ++ joined l) (goals_same names vs ws known (g ∷ gs) (h ∷ hs) p)

  -- So their lines are the same.
  twins_line : (P : Program) (f g : Substitution) (gs hs : List Term)
      → Twins (map (λ (v : Bytes × ℕ). f [] v.1) (shown_variables 0 P.query.written)) (map (λ (v : Bytes × ℕ). g [] v.1) (shown_variables 0 P.query.written))
      → Twins gs hs → line_of P f gs ≡ line_of P g hs
  twins_line P f g gs hs values goals =
      let ones : List (Bytes × ℕ) = shown_variables 0 P.query.written in
      let xs : List Term = map (λ (v : Bytes × ℕ). f [] v.1) ones ++ gs in
      let ys : List Term = map (λ (v : Bytes × ℕ). g [] v.1) ones ++ hs in
      let twins : Twins xs ys = twins_join (map (λ (v : Bytes × ℕ). f [] v.1) ones) (map (λ (v : Bytes × ℕ). g [] v.1) ones) gs hs values goals in
      let vs : List Variable = first_seen [] (variables_along xs) in
      let ws : List Variable = first_seen [] (variables_along ys) in
      let known : Pairs vs ws = first_seen_pairs [] [] (variables_along xs) (variables_along ys) tt (twins_pairs xs ys twins) in
      rw (values_same f g P.names vs ws known ones values, waiting_same P.names vs ws known gs hs goals) refl

-- the variables that are shown have numbers from k on, below as many as there are
shown_below : (k n : ℕ) (written : List Bytes) → k + length written ≤ n → AllBelow n (shown_variables k written)
shown_below k n [] few = tt
shown_below k n (w ∷ written) few =
    let rest : AllBelow n (shown_variables (suc k) written) = shown_below (suc k) n written (omega arith) in
    let here : k < n = omega arith in
    elim (begins_underscore w) as (λ b. AllBelow n (cond b (shown_variables (suc k) written) ((w, k) ∷ shown_variables (suc k) written))) [
      | true ↦ rest
      | false ↦ (here, rest)
    ]

-- Values of the query's variables with goals that wait, and variants of them, give one line.
pub variants_line : (P : Program) (n : ℕ) (f g : Substitution) (gs hs : List Term) → length P.query.written ≤ n → length gs ≡ length hs
    → AreVariants (map (f []) (numbers_below n) ++ gs) (map (g []) (numbers_below n) ++ hs) → line_of P f gs ≡ line_of P g hs
variants_line P n f g gs hs few long variants =
    let t : Substitution = variants.0.0 in
    let s : Substitution = variants.1.0 in
    let xs : List Term = map (f []) (numbers_below n) ++ gs in
    let ys : List Term = map (g []) (numbers_below n) ++ hs in
    let forth : map (apply t) xs ≡ ys = variants.0.1 in
    let back : map (apply s) (map (apply t) xs) ≡ xs = ap (map (apply s)) forth ∙ variants.1.1 in
    let twins : Twins s t xs ys = subst (λ zs. Twins s t xs zs) forth (twins_of s t xs back) in
    let apart = twins_apart s t (map (f []) (numbers_below n)) (map (g []) (numbers_below n)) gs hs (length-map (numbers_below n) (f [])
    ∙ sym (length-map (numbers_below n) (g []))) twins in
    twins_line s t P f g gs hs
    (value_twins s t f g n (numbered_twins s t f g n apart.0) (shown_variables 0 P.query.written) (shown_below 0 n P.query.written (omega arith))) apart.1

maps_through : (s t : Substitution) → Through s t → (xs : List Term) → map (apply t) (map (apply s) xs) ≡ map (apply t) xs
maps_through s t h [] = refl
maps_through s t h (x ∷ xs) = let one : apply t (apply s x) ≡ apply t x = sym (apply_through s t h x) in rw (one, maps_through s t h xs) refl

-- Two most general solutions of equations that entail each other make variants of any terms.
pub general_variants : (es ds : List Equation) (s t : Substitution) (xs : List Term) → MostGeneral s es → MostGeneral t ds → Entails es ds → Entails ds es
    → AreVariants (map (apply s) xs) (map (apply t) xs)
general_variants es ds s t xs m n f b = ((t, maps_through s t (m.1 t (b t n.0)) xs), (s, maps_through t s (n.1 s (f s m.0)) xs))

values_and_goals : (s : Substitution) (ns : List ℕ) (gs : List Arithmetic)
    → map (apply s) (map (λ k. variable [] k) ns ++ map goal_term gs) ≡ map (s []) ns ++ map (λ g. apply s (goal_term g)) gs
values_and_goals s [] [] = refl
values_and_goals s [] (g ∷ gs) = ap (λ (l : List Term). apply s (goal_term g) ∷ l) (values_and_goals s [] gs)
values_and_goals s (k ∷ ns) gs = ap (λ (l : List Term). s [] k ∷ l) (values_and_goals s ns gs)

-- So they give one line.
pub one_line : (P : Program) (es ds : List Equation) (s t : Substitution) (gs : List Arithmetic) → MostGeneral s es → MostGeneral t ds → Entails es ds
    → Entails ds es → line P s gs ≡ line P t gs
one_line P es ds s t gs m n f b =
    let size : ℕ = length P.query.written in
    let xs : List Term = map (λ k. variable [] k) (numbers_below size) ++ map goal_term gs in
    let variants : AreVariants (map (s []) (numbers_below size) ++ map (λ g. apply s (goal_term g)) gs)
    (map (t []) (numbers_below size) ++ map (λ g. apply t (goal_term g)) gs) =
    subst (λ ys. AreVariants ys (map (t []) (numbers_below size) ++ map (λ g. apply t (goal_term g)) gs)) (values_and_goals s (numbers_below size) gs)
    (subst (λ ys. AreVariants (map (apply s) xs) ys) (values_and_goals t (numbers_below size) gs) (general_variants es ds s t xs m n f b)) in
    variants_line P size s t (map (λ g. apply s (goal_term g)) gs) (map (λ g. apply t (goal_term g)) gs) (omega arith)
    (length-map gs (λ g. apply s (goal_term g)) ∙ sym (length-map gs (λ g. apply t (goal_term g)))) variants
