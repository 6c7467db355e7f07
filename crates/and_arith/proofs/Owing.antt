-- What is owed while tasks are left: the value of the expression, and its first variable.
use Rattle.std.proofs.Common.{ℕ, ℤ, suc, ◌≡◌, ◌≢◌, ◌<◌, ◌⊎◌, List, [], ◌∷◌, ◌++◌, map, length, reverse, Option, None, refl, ap, sym, ◌∙◌, subst, arith, inl}
use Rattle.std.proofs.Common.{inr, append_assoc}
use Rattle.std.specs.Prelude.{Contains}
use Rattle.std.proofs.lemmas.List.{reverse-append, append-nil, length-reverse, reverse-reverse}
use Rattle.std.proofs.lemmas.List.Elements.{Contains-push_cases}
use Rattle.and_model.specs.Terms.{Path, Term, Terms, variables_of, variables_in}
use Rattle.and_model.specs.Arithmetic.{operated}
use Rattle.and_model.specs.declared.numbers.NodeNo.{NodeNo}
use Rattle.and_model.specs.declared.reference.Ref.{Ref}
use Rattle.and_model.specs.declared.reference.Ref.TheVariants.{Cell, Node}
use Rattle.and_cells.specs.Ranges.{NamedProgram}
use Rattle.and_cells.specs.Seen.{Seen}
use Rattle.and_cells.specs.Parts.{parts_of}
use Rattle.and_cells.proofs.Among.{among_none, among_first, among_more, among_cases}
use Rattle.and_value_laws.specs.Values.{KnownAs, AllKnownAs, no_parts, more_parts}
use Rattle.and_laws.specs.Sizes.{size}
use Rattle.and_arith.specs.Taken.{Listed, Gives}
use Rattle.and_arith.specs.Turns.{IsStructureAt, tasks_of}
use Rattle.and_arith.specs.declared.walk.Task.{Task}
use Rattle.and_arith.specs.declared.walk.Task.TheVariants.{Enter, Leave, Keep}
use Rattle.and_value_laws.proofs.KnownTerms.{IsOnce, one_known}
use Rattle.and_arith.proofs.Yielding.{Yields, AllYield, all_append, all_counted, structure_yields, AreSame, same_yields, nothing_yields, made_of_parts}
use Rattle.and_arith.proofs.Yielding.{smaller, parts_are}

abbrev pub Variables : Type 0
Variables = List (Path × ℕ)

-- what is kept of a list whose first task is another
pub keep_later : (t : Task) (cell : ℕ) (ts : List Task) → t ≢ Keep cell → Contains (t ∷ ts) (Keep cell) → Contains ts (Keep cell)
keep_later t cell ts other c = elim (among_cases t (Keep cell) ts c) [ inl e ↦ absurd (other (sym e)) | inr later ↦ later ]

-- what is kept behind parts
pub keep_behind : (rs : List Ref) (cell : ℕ) (ts : List Task) → Contains (map Enter rs ++ ts) (Keep cell) → Contains ts (Keep cell)
keep_behind [] cell ts c = c
keep_behind (r ∷ rs) cell ts c = keep_behind rs cell ts (keep_later (Enter r) cell (map Enter rs ++ ts) (λ e. cc) c)

pub keep_kept : (rs : List Ref) (cell : ℕ) (ts : List Task) → Contains ts (Keep cell) → Contains (map Enter rs ++ ts) (Keep cell)
keep_kept [] cell ts c = c
keep_kept (r ∷ rs) cell ts c = among_more (Enter r) (Keep cell) (map Enter rs ++ ts) (keep_kept rs cell ts c)

-- lists of one length that are joined with others to the same
joined : (xs ys us vs : List (Option ℤ)) → xs ++ ys ≡ us ++ vs → length xs ≡ length us → (xs ≡ us) × (ys ≡ vs)
joined [] ys [] vs e l = (refl, e)
joined [] ys (u ∷ us) vs e l = absurd (omega arith)
joined (x ∷ xs) ys [] vs e l = absurd (omega arith)
joined (x ∷ xs) ys (u ∷ us) vs e l =
    let first : x ≡ u = cc in
    let rest : xs ++ ys ≡ us ++ vs = cc in
    let w = joined xs ys us vs rest (omega (arith, l)) in
    (ap (λ y. y ∷ xs) first ∙ ap (λ zs. u ∷ zs) w.0, w.1)

module _ (P : NamedProgram) (s : Seen) (once : IsOnce s) where
  -- Whatever the parts that are to be entered yield, the expression yields the value that comes of it.
  abbrev pub Owes : (root : Ref) → List Task → List (Option ℤ) → Type 0
  Owes root [] vs = (v : Option ℤ) × (vs ≡ v ∷ []) × Yields P s root v
  Owes root (Enter p ∷ ts) vs = (v : Option ℤ) → Yields P s p v → Owes root ts (v ∷ vs)
  Owes root (Leave name count ∷ ts) vs =
      (ws : List (Option ℤ)) × (others : List (Option ℤ)) × (vs ≡ reverse ws ++ others) × (length ws ≡ count) × Owes root ts (operated name.0 ws ∷ others)
  Owes root (Keep cell ∷ ts) vs = (v : Option ℤ) × (others : List (Option ℤ)) × (vs ≡ v ∷ others) × Yields P s (Cell cell) v × Owes root ts vs

  -- The variables are those of the terms of the parts that are to be entered, from left to right.
  abbrev pub Ahead : List Task → Variables → Type 0
  Ahead [] xs = xs ≡ []
  Ahead (Enter p ∷ ts) xs = (u : Term) × (ys : Variables) × KnownAs P s p u × (xs ≡ variables_of u ++ ys) × Ahead ts ys
  Ahead (Leave name count ∷ ts) xs = Ahead ts xs
  Ahead (Keep cell ∷ ts) xs = Ahead ts xs

  -- The term of the one holds that of the other properly.
  abbrev pub Inside : (whole part : Ref) → Type 0
  Inside q p = (t : Term) → KnownAs P s q t → (u : Term) × KnownAs P s p u × (size u < size t)

  -- What is to be entered is inside the cells that are kept after it.
  abbrev pub Nested : List Task → Type 0
  Nested [] = Unit {0}
  Nested (Enter p ∷ ts) = ((cell : ℕ) → Contains ts (Keep cell) → Inside (Cell cell) p) × Nested ts
  Nested (Leave name count ∷ ts) = Nested ts
  Nested (Keep cell ∷ ts) = Nested ts

  -- What holds while tasks are left.
  pub record Stays (root : Ref) (tasks : List Task) (values : List (Option ℤ)) (taken : Listed) : Type 0 where
    -- A cell that was taken yields its value, or is still to be kept.
    pub facts : (cell : ℕ) (v : Option ℤ) → Contains taken (cell, v) → ((v ≡ None) × Contains tasks (Keep cell)) ⊎ Yields P s (Cell cell) v
    pub nested : Nested tasks
    pub owes : Owes root tasks values
    pub ahead : (t : Term) → KnownAs P s root t → Ahead tasks (variables_of t)

  -- A part that is passed leaves the variables.
  ahead_passes : (p : Ref) (v : Option ℤ) (ts : List Task) (xs : Variables) → Yields P s p v → Ahead (Enter p ∷ ts) xs → Ahead ts xs
  ahead_passes p v ts xs y (u, ys, known, is, ahead) = subst (Ahead ts) (sym (is ∙ ap (λ zs. zs ++ ys) (y.of_term u known).1)) ahead

  -- So a part that yields a value is passed.
  pub passes : (root p : Ref) (v : Option ℤ) (ts : List Task) (values : List (Option ℤ)) (taken : Listed) → Yields P s p v
      → Stays root (Enter p ∷ ts) values taken → Stays root ts (v ∷ values) taken
  passes root p v ts values taken y h = record {
    facts = λ cell w c. elim (h.facts cell w c) [ inl waits ↦ inl (waits.0, keep_later (Enter p) cell ts (λ e. cc) waits.1) | inr yields ↦ inr yields ];
    nested = h.nested.1;
    owes = h.owes v y;
    ahead = λ t known. ahead_passes p v ts (variables_of t) y (h.ahead t known);
  }

  -- A part that leads to a cell which was taken yields the cell's value: where this is still to be kept, there is no term.
  pub recalled : (root p : Ref) (cell : ℕ) (v : Option ℤ) (ts : List Task) (values : List (Option ℤ)) (taken : Listed) → AreSame P s p (Cell cell)
      → Contains taken (cell, v)
      → Stays root (Enter p ∷ ts) values taken → Yields P s p v
  recalled root p cell v ts values taken same c h = elim (h.facts cell v c) [
    | inl waits ↦ subst (Yields P s p) (sym waits.0) (nothing_yields P s p (λ t known.
        let inside = h.nested.0 cell (keep_later (Enter p) cell ts (λ e. cc) waits.1) t (same.onward t known) in
        let e : inside.0 ≡ t = one_known P s once p inside.0 t inside.1 known in
        omega (arith, inside.2, ap size e)))
    | inr yields ↦ same_yields P s p (Cell cell) v same yields
  ]

  -- The parts of a structure come to do.
  owes_parts : (root : Ref) (node : NodeNo) (base : ℕ) (is : IsStructureAt P node) (ts : List Task) (others : List (Option ℤ))
      → ((v : Option ℤ) → Yields P s (Node node base) v → Owes root ts (v ∷ others))
      → (rs done : List Ref) (ws : List (Option ℤ)) → AllYield P s done ws → parts_of P (Node node base) ≡ done ++ rs
      → Owes root (map Enter rs ++ Leave (record { 0 = is.name }) (length is.arguments) ∷ ts) (reverse ws ++ others)
  owes_parts root node base is ts others rest [] done ws all e =
      let whole : AllYield P s (parts_of P (Node node base)) ws = subst (λ ps. AllYield P s ps ws) (sym (e ∙ append-nil done)) all in
      let counted : length ws ≡ length is.arguments = all_counted P s (parts_of P (Node node base)) ws whole ∙ ap length (parts_are P node base is)
      ∙ parts_counted is.arguments in
      (ws, others, refl, counted, rest (operated is.name ws) (structure_yields P s node base is ws whole))
    where
      parts_counted : (ns : List ℕ) → length (map (Rattle.and_cells.specs.Parts.part_at P base) ns) ≡ length ns
      parts_counted [] = refl
      parts_counted (n ∷ ns) = ap suc (parts_counted ns)
  owes_parts root node base is ts others rest (r ∷ rs) done ws all e = λ v y.
      subst (Owes root (map Enter rs ++ Leave (record { 0 = is.name }) (length is.arguments) ∷ ts)) (ap (λ zs. zs ++ others) (reverse-append ws (v ∷ [])))
      (owes_parts root node base is ts others rest rs (done ++ r ∷ []) (ws ++ v ∷ []) (all_append P s done (r ∷ []) ws (v ∷ []) all (y, tt)) (e
      ∙ sym (append_assoc done (r ∷ []) rs)))

  ahead_parts : (tail : List Task) (ys : Variables) → Ahead tail ys → (rs : List Ref) (us : Terms) → AllKnownAs P s rs us
      → Ahead (map Enter rs ++ tail) (variables_in us ++ ys)
  ahead_parts tail ys ahead rs us no_parts = ahead
  ahead_parts tail ys ahead rs us (more_parts r u rest others first more) =
      (u, variables_in others ++ ys, first, append_assoc (variables_of u) (variables_in others) ys, ahead_parts tail ys ahead rest others more)

  nested_parts : (ts : List Task) → Nested ts → (rs : List Ref) → ((r : Ref) (cell : ℕ) → Contains rs r → Contains ts (Keep cell) → Inside (Cell cell) r)
      → Nested (map Enter rs ++ ts)
  nested_parts ts nested [] inside = nested
  nested_parts ts nested (r ∷ rs) inside = (
    (λ cell c. inside r cell (among_first r rs) (keep_behind rs cell ts c)),
    nested_parts ts nested rs (λ x cell i k. inside x cell (among_more r x rs i) k),
  )

  -- A part of a structure is inside what the structure is, and inside what that is inside.
  part_inside : (q p : Ref) (node : NodeNo) (base : ℕ) (is : IsStructureAt P node) (r : Ref) → AreSame P s p (Node node base)
      → Contains (parts_of P (Node node base)) r → Inside q p → Inside q r
  part_inside q p node base is r same among outer = λ t known.
      let o = outer t known in
      let made = made_of_parts P s node base o.0 is (same.onward o.0 o.1) in
      let w = smaller P s (parts_of P (Node node base)) made.0 r made.1 among in
      (w.0, w.1, omega (arith, o.2, w.2, ap size made.2))

  own_inside : (q : Ref) (node : NodeNo) (base : ℕ) (is : IsStructureAt P node) (r : Ref) → AreSame P s q (Node node base)
      → Contains (parts_of P (Node node base)) r → Inside q r
  own_inside q node base is r same among = λ t known.
      let made = made_of_parts P s node base t is (same.onward t known) in
      let w = smaller P s (parts_of P (Node node base)) made.0 r made.1 among in
      (w.0, w.1, omega (arith, w.2, ap size made.2))

  ahead_opens : (p : Ref) (node : NodeNo) (base : ℕ) (is : IsStructureAt P node) (tail ts : List Task) → AreSame P s p (Node node base)
      → ((xs : Variables) → Ahead ts xs → Ahead tail xs)
      → (xs : Variables) → Ahead (Enter p ∷ ts) xs → Ahead (map Enter (parts_of P (Node node base)) ++ tail) xs
  ahead_opens p node base is tail ts same on xs (u, ys, known, e, ahead) =
      let made = made_of_parts P s node base u is (same.onward u known) in
      subst (Ahead (map Enter (parts_of P (Node node base)) ++ tail)) (sym (e ∙ ap (λ zs. zs ++ ys) (ap variables_of made.2)))
      (ahead_parts tail ys (on ys ahead) (parts_of P (Node node base)) made.0 made.1)

  -- A structure that no cell leads to is opened.
  pub opened : (root p : Ref) (node : NodeNo) (base : ℕ) (is : IsStructureAt P node) (ts : List Task) (values : List (Option ℤ)) (taken : Listed)
      → AreSame P s p (Node node base)
      → Stays root (Enter p ∷ ts) values taken → Stays root (tasks_of P node base is.name (length is.arguments) ts) values taken
  opened root p node base is ts values taken same h = record {
    facts = λ cell w c. elim (h.facts cell w c) [
      | inl waits ↦ inl (waits.0, keep_kept parts cell (leave ∷ ts) (among_more leave (Keep cell) ts (keep_later (Enter p) cell ts (λ e. cc) waits.1)))
      | inr yields ↦ inr yields
    ];
    nested = nested_parts (leave ∷ ts) h.nested.1 parts (λ r cell among k.
        part_inside (Cell cell) p node base is r same among (h.nested.0 cell (keep_later leave cell ts (λ e. cc) k)));
    owes = owes_parts root node base is ts values (λ v y. h.owes v (same_yields P s p (Node node base) v same y)) parts [] [] tt refl;
    ahead = λ t known. ahead_opens p node base is (leave ∷ ts) ts same (λ xs a. a) (variables_of t) (h.ahead t known);
  }
    where
      parts : List Ref
      parts = parts_of P (Node node base)

      leave : Task
      leave = Leave (record { 0 = is.name }) (length is.arguments)

  -- A structure is opened, and the cell that is set to it taken.
  pub taken_open : (root p : Ref) (cell : ℕ) (node : NodeNo) (base : ℕ) (is : IsStructureAt P node) (ts : List Task) (values : List (Option ℤ)) (taken : Listed)
      → AreSame P s p (Cell cell) → AreSame P s (Cell cell) (Node node base)
      → Stays root (Enter p ∷ ts) values taken
      → Stays root (tasks_of P node base is.name (length is.arguments) (Keep cell ∷ ts)) values (taken ++ (cell, None) ∷ [])
  taken_open root p cell node base is ts values taken to_cell to_node h = record {
    facts = λ c w k. elim (Contains-push_cases taken (cell, None) (c, w) k) [
      | inl was ↦ elim (h.facts c w was) [
        | inl waits ↦ inl (
          waits.0,
          keep_kept parts c (leave ∷ Keep cell ∷ ts)
              (among_more leave (Keep c) (Keep cell ∷ ts) (among_more (Keep cell) (Keep c) ts (keep_later (Enter p) c ts (λ e. cc) waits.1))),
        )
        | inr yields ↦ inr yields
      ]
      | inr e ↦ inl (
        sym (ap (λ (x : ℕ × Option ℤ). x.1) e),
        keep_kept parts c (leave ∷ Keep cell ∷ ts)
            (among_more leave (Keep c) (Keep cell ∷ ts)
            (subst (λ (t : Task). Contains (Keep cell ∷ ts) t) (ap (λ (x : ℕ × Option ℤ). Keep x.0) e) (among_first (Keep cell) ts))),
      )
    ];
    nested = nested_parts (leave ∷ Keep cell ∷ ts) h.nested.1 parts (λ r c among k.
        elim (among_cases (Keep cell) (Keep c) ts (keep_later leave c (Keep cell ∷ ts) (λ e. cc) k)) [
          | inl e ↦ let own : cell ≡ c = cc in subst (λ x. Inside (Cell x) r) own (own_inside (Cell cell) node base is r to_node among)
          | inr later ↦ part_inside (Cell c) p node base is r same among (h.nested.0 c later)
        ]);
    owes = owes_parts root node base is (Keep cell ∷ ts) values
        (λ v y. (v, values, refl, same_yields P s (Cell cell) (Node node base) v to_node y, h.owes v (same_yields P s p (Node node base) v same y)))
        parts [] [] tt refl;
    ahead = λ t known. ahead_opens p node base is (leave ∷ Keep cell ∷ ts) ts same (λ xs a. a) (variables_of t) (h.ahead t known);
  }
    where
      parts : List Ref
      parts = parts_of P (Node node base)

      leave : Task
      leave = Leave (record { 0 = is.name }) (length is.arguments)

      same : AreSame P s p (Node node base)
      same = Rattle.and_arith.proofs.Yielding.same_on P s p (Cell cell) (Node node base) to_cell to_node

  -- A structure whose parts have their values is left.
  pub left : (root : Ref) (name count : ℕ) (ts : List Task) (values last others : List (Option ℤ)) (taken : Listed) → values ≡ last ++ others
      → length last ≡ count
      → Stays root (Leave (record { 0 = name }) count ∷ ts) values taken → Stays root ts (operated name (reverse last) ∷ others) taken
  left root name count ts values last others taken given counted h = record {
    facts = λ cell w c. elim (h.facts cell w c) [
      | inl waits ↦ inl (waits.0, keep_later (Leave (record { 0 = name }) count) cell ts (λ e. cc) waits.1)
      | inr yields ↦ inr yields
    ];
    nested = h.nested;
    owes = owed h.owes;
    ahead = h.ahead;
  }
    where
      owed : Owes root (Leave (record { 0 = name }) count ∷ ts) values → Owes root ts (operated name (reverse last) ∷ others)
      owed (ws, more, is, long, rest) =
          let both = joined last others (reverse ws) more (sym given ∙ is) (counted ∙ sym long ∙ sym (length-reverse ws)) in
          let same : ws ≡ reverse last = sym (reverse-reverse ws) ∙ ap reverse (sym both.0) in
          subst (λ xs. Owes root ts (operated name xs ∷ others)) same (subst (λ zs. Owes root ts (operated name ws ∷ zs)) (sym both.1) rest)

  -- The value of a cell is kept.
  pub kept : (root : Ref) (cell : ℕ) (ts : List Task) (values others : List (Option ℤ)) (v : Option ℤ) (taken more : Listed) → values ≡ v ∷ others
      → Gives cell v taken more
      → Stays root (Keep cell ∷ ts) values taken → Stays root ts values more
  kept root cell ts values others v taken more given gives h = keeping h.owes
    where
      keeping : Owes root (Keep cell ∷ ts) values → Stays root ts values more
      keeping (w, rest, is, yields, owes) =
          let same : w ≡ v = cc in
          let own : Yields P s (Cell cell) v = subst (Yields P s (Cell cell)) same yields in record {
            facts = λ c x k. elim (gives.only c x k) [
              | inl here ↦ inr (subst (λ y. Yields P s (Cell y) x) (sym here.0) (subst (Yields P s (Cell cell)) (sym here.1) own))
              | inr other ↦ elim (h.facts c x other.1) [
                | inl waits ↦ inl (waits.0, keep_later (Keep cell) c ts (λ e. other.0 (let back : cell ≡ c = cc in sym back)) waits.1)
                | inr yields ↦ inr yields
              ]
            ];
            nested = h.nested;
            owes = owes;
            ahead = h.ahead;
          }

  -- At first the expression is to be entered.
  pub begins : (root : Ref) → Stays root (Enter root ∷ []) [] []
  begins root = record {
    facts = λ cell v c. absurd (among_none (cell, v) c);
    nested = ((λ cell c. absurd (among_none (Keep cell) c)), tt);
    owes = λ v y. (v, refl, y);
    ahead = λ t known. (t, [], known, sym (append-nil (variables_of t)), refl);
  }
