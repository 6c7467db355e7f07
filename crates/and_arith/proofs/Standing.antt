-- What holds while a walk takes turns.
use Rattle.std.proofs.Common.{ℕ, ℤ, suc, ◌≡◌, ◌≢◌, ◌<◌, ◌+◌, ◌⊎◌, List, [], ◌∷◌, ◌++◌, map, length, get_or, reverse, Option, None, ap, sym, ◌∙◌, subst}
use Rattle.std.proofs.Common.{arith, inl, inr}
use Rattle.std.specs.Prelude.{Contains}
use Rattle.std.proofs.lemmas.List.{length-map, length-append, map-append}
use Rattle.std.proofs.lemmas.List.Elements.{Contains-append_left, Contains-append_right, Contains-push, Contains-push_cases, All-push, All-weaker}
use Rattle.std.proofs.lemmas.List.Quantifiers.{all_pairs_push}
use Rattle.and_model.specs.Arithmetic.{operated}
use Rattle.and_model.specs.Store.{Setting, AreDistinct}
use Rattle.and_model.specs.declared.numbers.NodeNo.{NodeNo}
use Rattle.and_model.specs.declared.reference.Ref.{Ref}
use Rattle.and_model.specs.declared.reference.Ref.TheVariants.{Cell, Node}
use Rattle.and_program.specs.Skeletons.{AllFall}
use Rattle.and_cells.specs.Ranges.{NamedProgram, IsInRange}
use Rattle.and_cells.specs.Seen.{Seen, OnlyReads, LeadsTo, Knows, IsWrittenIfNumber}
use Rattle.and_cells.specs.Parts.{part_at, parts_of}
use Rattle.and_cells.proofs.Chains.{reads_more, written_later, leads_later}
use Rattle.and_cells.proofs.Among.{among_first, among_more, among_cases, among_map, map_among}
use Rattle.and_value_laws.specs.Values.{Reaches, set, part}
use Rattle.and_arith.specs.Sizes.{AreOpened}
use Rattle.and_arith.specs.Taken.{Listed, cells_of, IsNew, Gives}
use Rattle.and_arith.specs.Turns.{AreCounted, IsStructureAt, tasks_of}
use Rattle.and_arith.specs.declared.walk.Task.{Task}
use Rattle.and_arith.specs.declared.walk.Task.TheVariants.{Enter, Leave, Keep}
use Rattle.and_value_laws.proofs.KnownTerms.{IsOnce, Extends}
use Rattle.and_arith.proofs.Yielding.{set_same, leads_same, parts_are}
use Rattle.and_arith.proofs.Listing.{any_default}
use Rattle.and_arith.proofs.Owing.{Stays, keep_later, keep_behind, opened, taken_open, left, kept}
use Rattle.and_arith.proofs.Covering.{on_taken, Covered, waiting, at_node, covered_on, chain_covered, reaches_later, reaches_on}
use Rattle.and_arith.proofs.Ranging.{part_in_range, part_written}

-- the cells of settings
abbrev pub places : List Setting → List ℕ
places settings = map (λ (k : Setting). k.place) settings

-- What holds of the tasks and cells: `root` is the expression, and `settings` are those of the cells that were taken.
pub record Stands (P : NamedProgram) (first : Seen) (root : Ref) (settings : List Setting) (now : Seen) (tasks : List Task) (values : List (Option ℤ))
    (taken : Listed) : Type 0 where
  pub reads : OnlyReads first now
  pub once : IsOnce now
  pub in_range : (r : Ref) → Contains tasks (Enter r) → IsInRange P now.words r × IsWrittenIfNumber now r
  pub kept : (cell : ℕ) → Contains tasks (Keep cell) → Contains (cells_of taken) cell
  pub counted : AreCounted tasks (length values)
  pub led : (r : Ref) → Contains tasks (Enter r) → Reaches P now root r
  pub cells : places settings ≡ cells_of taken
  pub opened : AreOpened P now root settings
  pub root_covered : Covered P now tasks (cells_of taken) root
  pub covered : (k : Setting) → Contains settings k → Covered P now tasks (cells_of taken) k.value
  pub later : (t : Seen) (more : Extends now t) → Stays P t more.once root tasks values taken

-- a cell among those that were taken has an entry, and the other way round
pub entry_of_cell : (taken : Listed) (cell : ℕ) → Contains (cells_of taken) cell → IsNew taken cell → ⊥
entry_of_cell taken cell c new =
    let w = map_among (λ (e : ℕ × Option ℤ). e.0) cell taken c in
    new w.0.1 (subst (λ x. Contains taken (x, w.0.1)) w.2 w.1)

pub cell_of_entry : (taken : Listed) (cell : ℕ) (v : Option ℤ) → Contains taken (cell, v) → Contains (cells_of taken) cell
cell_of_entry taken cell v c = among_map (λ (e : ℕ × Option ℤ). e.0) (cell, v) taken c

cells_push : (taken : Listed) (cell : ℕ) (v : Option ℤ) → cells_of (taken ++ (cell, v) ∷ []) ≡ cells_of taken ++ cell ∷ []
cells_push taken cell v = map-append (λ (e : ℕ × Option ℤ). e.0) taken ((cell, v) ∷ [])

-- a task of parts that come to do
enters_cases : (rs : List Ref) (r : Ref) (rest : List Task) → Contains (map Enter rs ++ rest) (Enter r) → Contains rs r ⊎ Contains rest (Enter r)
enters_cases [] r rest c = inr c
enters_cases (x ∷ rs) r rest c = elim (among_cases (Enter x) (Enter r) (map Enter rs ++ rest) c) [
  | inl e ↦ let same : x ≡ r = cc in inl (subst (λ (y : Ref). Contains (x ∷ rs) y) same (among_first x rs))
  | inr later ↦ elim (enters_cases rs r rest later) [ inl i ↦ inl (among_more x r rs i) | inr o ↦ inr o ]
]

enter_there : (rs : List Ref) (r : Ref) (rest : List Task) → Contains rs r → Contains (map Enter rs ++ rest) (Enter r)
enter_there rs r rest c = Contains-append_left (map Enter rs) rest (Enter r) (among_map Enter r rs c)

enter_behind : (rs : List Ref) (t : Task) (rest : List Task) → Contains rest t → Contains (map Enter rs ++ rest) t
enter_behind rs t rest c = Contains-append_right (map Enter rs) rest t c

counted_parts : (rs : List Ref) (rest : List Task) (n : ℕ) → AreCounted rest (length rs + n) → AreCounted (map Enter rs ++ rest) n
counted_parts [] rest n c = subst (AreCounted rest) (let e : 0 + n ≡ n = omega arith in e) c
counted_parts (r ∷ rs) rest n c = counted_parts rs rest (suc n) (subst (AreCounted rest) (let e : suc (length rs) + n ≡ length rs + suc n = omega arith in e) c)

module _ (P : NamedProgram) (fall : AllFall 0 P.skeleton.nodes) (first : Seen) (root : Ref) where
  -- All that holds does so as more is read.
  pub stands_later : (settings : List Setting) (old now : Seen) (tasks : List Task) (values : List (Option ℤ)) (taken : Listed) → OnlyReads old now → IsOnce now
      → Stands P first root settings old tasks values taken → Stands P first root settings now tasks values taken
  stands_later settings old now tasks values taken reads once h = record {
    reads = reads_more first old now h.reads reads;
    once = once;
    in_range = λ r c. let e = h.in_range r c in (subst (λ n. IsInRange P n r) (sym reads.words) e.0, written_later old now r reads.keeps e.1);
    kept = h.kept;
    counted = h.counted;
    led = λ r c. reaches_later P old now root r reads.keeps (h.led r c);
    cells = h.cells;
    opened = record {
      distinct = h.opened.distinct;
      reached = All-weaker (λ (k : Setting). Reaches P old root (Cell k.place) × Knows old k.place k.value) (λ (k : Setting). Reaches P now root (Cell k.place)
          × Knows now k.place k.value)
          (λ k both. (reaches_later P old now root (Cell k.place) reads.keeps both.0, reads.keeps k.place k.value both.1)) settings h.opened.reached;
    };
    root_covered = on root h.root_covered;
    covered = λ k c. on k.value (h.covered k c);
    later = λ t more. h.later t (record { knows = λ p q k. more.knows p q (reads.keeps p q k); once = more.once });
  }
    where
      on : (r : Ref) → Covered P old tasks (cells_of taken) r → Covered P now tasks (cells_of taken) r
      on r c = covered_on P old now tasks tasks (cells_of taken) (cells_of taken) reads.keeps (λ x i. i) (λ q i. waiting q i) r c

  -- what is covered stays so where the part that was entered is covered
  entered_covered : (now : Seen) (p : Ref) (rest tasks : List Task) (taken more : List ℕ) → Covered P now tasks more p
      → ((c : ℕ) → Contains taken c → Contains more c)
      → ((t : Task) → Contains rest t → Contains tasks t) → (q : Ref) → Covered P now (Enter p ∷ rest) taken q → Covered P now tasks more q
  entered_covered now p rest tasks taken more covered kept later q c =
      covered_on P now now (Enter p ∷ rest) tasks taken more (λ x y k. k) kept
      (λ r i. elim (among_cases (Enter p) (Enter r) rest i) [
        | inl e ↦ let same : p ≡ r = cc in subst (λ x. Covered P now tasks more x) same covered
        | inr there ↦ waiting r (later (Enter r) there)
      ]) q c

  -- A part that yields a value at once is passed.
  pub passed_stands : (settings : List Setting) (now : Seen) (p : Ref) (v : Option ℤ) (rest : List Task) (values : List (Option ℤ)) (taken : Listed)
      → Covered P now rest (cells_of taken) p
      → ((t : Seen) (more : Extends now t) → Stays P t more.once root (Enter p ∷ rest) values taken → Stays P t more.once root rest (v ∷ values) taken)
      → Stands P first root settings now (Enter p ∷ rest) values taken → Stands P first root settings now rest (v ∷ values) taken
  passed_stands settings now p v rest values taken covered pass h = record {
    reads = h.reads;
    once = h.once;
    in_range = λ r c. h.in_range r (among_more (Enter p) (Enter r) rest c);
    kept = λ cell c. h.kept cell (among_more (Enter p) (Keep cell) rest c);
    counted = h.counted;
    led = λ r c. h.led r (among_more (Enter p) (Enter r) rest c);
    cells = h.cells;
    opened = h.opened;
    root_covered = on root h.root_covered;
    covered = λ k c. on k.value (h.covered k c);
    later = λ t more. pass t more (h.later t more);
  }
    where
      on : (q : Ref) → Covered P now (Enter p ∷ rest) (cells_of taken) q → Covered P now rest (cells_of taken) q
      on = entered_covered now p rest rest (cells_of taken) (cells_of taken) covered (λ c i. i) (λ t i. i)

  -- A structure that no cell leads to is opened.
  pub opened_stands : (settings : List Setting) (now : Seen) (node : NodeNo) (base : ℕ) (is : IsStructureAt P node) (rest : List Task)
      (values : List (Option ℤ)) (taken : Listed)
      → Stands P first root settings now (Enter (Node node base) ∷ rest) values taken
      → Stands P first root settings now (tasks_of P node base is.name (length is.arguments) rest) values taken
  opened_stands settings now node base is rest values taken h = record {
    reads = h.reads;
    once = h.once;
    in_range = λ r c. elim (enters_cases parts r (leave ∷ rest) c) [
      | inl i ↦ (part_in_range P fall now.words node base r own.0 i, part_written P now node base r i)
      | inr o ↦ h.in_range r (among_more (Enter whole) (Enter r) rest (not_leave r o))
    ];
    kept = λ cell c. h.kept cell (among_more (Enter whole) (Keep cell) rest (keep_later leave cell rest (λ e. cc) (keep_behind parts cell (leave ∷ rest) c)));
    counted = counted_parts parts (leave ∷ rest) (length values) (length values, ap (λ n. n + length values) parts_long, h.counted);
    led = λ r c. elim (enters_cases parts r (leave ∷ rest) c) [
      | inl i ↦ part node base r (h.led whole (among_first (Enter whole) rest)) i
      | inr o ↦ h.led r (among_more (Enter whole) (Enter r) rest (not_leave r o))
    ];
    cells = h.cells;
    opened = h.opened;
    root_covered = on root h.root_covered;
    covered = λ k c. on k.value (h.covered k c);
    later = λ t more. opened P t more.once root whole node base is rest values taken
        (record { onward = λ u known. known; back = λ u known. known }) (h.later t more);
  }
    where
      whole : Ref
      whole = Node node base

      parts : List Ref
      parts = parts_of P (Node node base)

      leave : Task
      leave = Leave (record { 0 = is.name }) (length is.arguments)

      own : IsInRange P now.words (Node node base) × IsWrittenIfNumber now (Node node base)
      own = h.in_range whole (among_first (Enter whole) rest)

      parts_long : length parts ≡ length is.arguments
      parts_long = ap length (parts_are P node base is) ∙ length-map is.arguments (part_at P base)

      not_leave : (r : Ref) → Contains (leave ∷ rest) (Enter r) → Contains rest (Enter r)
      not_leave r c = elim (among_cases leave (Enter r) rest c) [ inl e ↦ absurd (cc) | inr later ↦ later ]

      on : (q : Ref) → Covered P now (Enter whole ∷ rest) (cells_of taken) q → Covered P now (map Enter parts ++ leave ∷ rest) (cells_of taken) q
      on = entered_covered now whole rest (map Enter parts ++ leave ∷ rest) (cells_of taken) (cells_of taken)
          (at_node node base (λ r among. waiting r (enter_there parts r (leave ∷ rest) among))) (λ c i. i)
          (λ t i. enter_behind parts t (leave ∷ rest) (among_more leave t rest i))

  -- A structure is opened, and the cell that is set to it taken.
  pub taken_stands : (settings : List Setting) (now : Seen) (p : Ref) (cell : ℕ) (node : NodeNo) (base : ℕ) (is : IsStructureAt P node) (rest : List Task)
      (values : List (Option ℤ)) (taken : Listed)
      → LeadsTo now p (Cell cell) → Knows now cell (Node node base) → IsInRange P now.words (Node node base) → IsNew taken cell
      → Stands P first root settings now (Enter p ∷ rest) values taken
      → Stands P first root (settings ++ record { place = cell; value = Node node base } ∷ []) now
      (tasks_of P node base is.name (length is.arguments) (Keep cell ∷ rest)) values (taken ++ (cell, None) ∷ [])
  taken_stands settings now p cell node base is rest values taken leads knows fits new h = record {
    reads = h.reads;
    once = h.once;
    in_range = λ r c. elim (enters_cases parts r (leave ∷ Keep cell ∷ rest) c) [
      | inl i ↦ (part_in_range P fall now.words node base r fits i, part_written P now node base r i)
      | inr o ↦ h.in_range r (among_more (Enter p) (Enter r) rest (not_these r o))
    ];
    kept = λ c k. elim (keep_cases c k) [
      | inl e ↦ subst (λ x. Contains (cells_of more) x) e new_there
      | inr o ↦ old_kept c (h.kept c (among_more (Enter p) (Keep c) rest o))
    ];
    counted = counted_parts parts (leave ∷ Keep cell ∷ rest) (length values) (
      length values,
      ap (λ n. n + length values) parts_long,
      (let some : 0 < suc (length values) = omega arith in some, h.counted),
    );
    led = λ r c. elim (enters_cases parts r (leave ∷ Keep cell ∷ rest) c) [
      | inl i ↦ part node base r (set cell (Node node base) cell_led knows) i
      | inr o ↦ h.led r (among_more (Enter p) (Enter r) rest (not_these r o))
    ];
    cells = map-append (λ (k : Setting). k.place) settings (own ∷ []) ∙ ap (λ xs. xs ++ cell ∷ []) h.cells ∙ sym (cells_push taken cell None);
    opened = record {
      distinct = subst AreDistinct (sym (map-append (λ (k : Setting). k.place) settings (own ∷ [])))
          (all_pairs_push (λ n m. n ≢ m) (places settings) cell h.opened.distinct (λ i d below e. apart i d below e));
      reached = All-push (λ (k : Setting). Reaches P now root (Cell k.place) × Knows now k.place k.value) settings own h.opened.reached (cell_led, knows);
    };
    root_covered = on root h.root_covered;
    covered = λ k c. elim (Contains-push_cases settings own k c) [
      | inl was ↦ on k.value (h.covered k was)
      | inr e ↦ subst (λ (x : Setting). Covered P now tasks (cells_of more) x.value) e node_covered
    ];
    later = λ t ext. taken_open P t ext.once root p cell node base is rest values taken
        (leads_same P t ext.once p (Cell cell) (leads_later now t p (Cell cell) ext.knows leads))
        (set_same P t ext.once cell (Node node base) (ext.knows cell (Node node base) knows)) (h.later t ext);
  }
    where
      own : Setting
      own = record { place = cell; value = Node node base }

      more : Listed
      more = taken ++ (cell, None) ∷ []

      parts : List Ref
      parts = parts_of P (Node node base)

      leave : Task
      leave = Leave (record { 0 = is.name }) (length is.arguments)

      tasks : List Task
      tasks = map Enter parts ++ leave ∷ Keep cell ∷ rest

      parts_long : length parts ≡ length is.arguments
      parts_long = ap length (parts_are P node base is) ∙ length-map is.arguments (part_at P base)

      not_these : (r : Ref) → Contains (leave ∷ Keep cell ∷ rest) (Enter r) → Contains rest (Enter r)
      not_these r c = elim (among_cases leave (Enter r) (Keep cell ∷ rest) c) [
        | inl e ↦ absurd (cc)
        | inr later ↦ elim (among_cases (Keep cell) (Enter r) rest later) [ inl e ↦ absurd (cc) | inr o ↦ o ]
      ]

      keep_cases : (c : ℕ) → Contains tasks (Keep c) → (cell ≡ c) ⊎ Contains rest (Keep c)
      keep_cases c k = elim (among_cases (Keep cell) (Keep c) rest
          (keep_later leave c (Keep cell ∷ rest) (λ e. cc) (keep_behind parts c (leave ∷ Keep cell ∷ rest) k))) [
            | inl e ↦ inl (cc)
            | inr o ↦ inr o
          ]

      old_kept : (c : ℕ) → Contains (cells_of taken) c → Contains (cells_of more) c
      old_kept c i = subst (λ xs. Contains xs c) (sym (cells_push taken cell None)) (Contains-append_left (cells_of taken) (cell ∷ []) c i)

      new_there : Contains (cells_of more) cell
      new_there = subst (λ xs. Contains xs cell) (sym (cells_push taken cell None)) (Contains-push (cells_of taken) cell)

      apart : (i d : ℕ) → i < length (places settings) → get_or (places settings) i d ≢ cell
      apart i d below e = entry_of_cell taken cell (subst (λ xs. Contains xs cell) h.cells (i, below, (any_default (places settings) i cell d below ∙ e))) new

      cell_led : Reaches P now root (Cell cell)
      cell_led = reaches_on P now root p (Cell cell) leads (h.led p (among_first (Enter p) rest))

      node_covered : Covered P now tasks (cells_of more) (Node node base)
      node_covered = at_node node base (λ r among. waiting r (enter_there parts r (leave ∷ Keep cell ∷ rest) among))

      on : (q : Ref) → Covered P now (Enter p ∷ rest) (cells_of taken) q → Covered P now tasks (cells_of more) q
      on = entered_covered now p rest tasks (cells_of taken) (cells_of more)
          (chain_covered P now tasks (cells_of more) p cell leads (on_taken cell node base knows new_there)) old_kept
          (λ t i. enter_behind parts t (leave ∷ Keep cell ∷ rest) (among_more leave t (Keep cell ∷ rest) (among_more (Keep cell) t rest i)))

  -- what is covered stays so where a task that enters nothing is gone
  other_covered : (now : Seen) (t : Task) (rest : List Task) (taken more : List ℕ) → ((r : Ref) → t ≢ Enter r) → ((c : ℕ) → Contains taken c → Contains more c)
      → (q : Ref) → Covered P now (t ∷ rest) taken q → Covered P now rest more q
  other_covered now t rest taken more other kept q c =
      covered_on P now now (t ∷ rest) rest taken more (λ x y k. k) kept
      (λ r i. elim (among_cases t (Enter r) rest i) [ inl e ↦ absurd (other r (sym e)) | inr there ↦ waiting r there ]) q c

  -- A structure whose parts have their values is left.
  pub left_stands : (settings : List Setting) (now : Seen) (name count : ℕ) (rest : List Task) (values last others : List (Option ℤ)) (taken : Listed)
      → values ≡ last ++ others → length last ≡ count
      → Stands P first root settings now (Leave (record { 0 = name }) count ∷ rest) values taken
      → Stands P first root settings now rest (operated name (reverse last) ∷ others) taken
  left_stands settings now name count rest values last others taken given counted h = record {
    reads = h.reads;
    once = h.once;
    in_range = λ r c. h.in_range r (among_more leave (Enter r) rest c);
    kept = λ cell c. h.kept cell (among_more leave (Keep cell) rest c);
    counted =
        let (n, sum, next) = h.counted in
        let e : n ≡ length others = omega (arith, sum, ap length given, length-append last others, counted) in
        subst (λ m. AreCounted rest (suc m)) e next;
    led = λ r c. h.led r (among_more leave (Enter r) rest c);
    cells = h.cells;
    opened = h.opened;
    root_covered = on root h.root_covered;
    covered = λ k c. on k.value (h.covered k c);
    later = λ t more. left P t more.once root name count rest values last others taken given counted (h.later t more);
  }
    where
      leave : Task
      leave = Leave (record { 0 = name }) count

      on : (q : Ref) → Covered P now (leave ∷ rest) (cells_of taken) q → Covered P now rest (cells_of taken) q
      on = other_covered now leave rest (cells_of taken) (cells_of taken) (λ r e. cc) (λ c i. i)

  -- The value of a cell is kept.
  pub kept_stands : (settings : List Setting) (now : Seen) (cell : ℕ) (rest : List Task) (values others : List (Option ℤ)) (v : Option ℤ) (taken more : Listed)
      → values ≡ v ∷ others → Gives cell v taken more
      → Stands P first root settings now (Keep cell ∷ rest) values taken → Stands P first root settings now rest values more
  kept_stands settings now cell rest values others v taken more given gives h = record {
    reads = h.reads;
    once = h.once;
    in_range = λ r c. h.in_range r (among_more (Keep cell) (Enter r) rest c);
    kept = λ c k. subst (λ xs. Contains xs c) (sym gives.cells) (h.kept c (among_more (Keep cell) (Keep c) rest k));
    counted = h.counted.1;
    led = λ r c. h.led r (among_more (Keep cell) (Enter r) rest c);
    cells = h.cells ∙ sym gives.cells;
    opened = h.opened;
    root_covered = on root h.root_covered;
    covered = λ k c. on k.value (h.covered k c);
    later = λ t ext. kept P t ext.once root cell rest values others v taken more given gives (h.later t ext);
  }
    where
      on : (q : Ref) → Covered P now (Keep cell ∷ rest) (cells_of taken) q → Covered P now rest (cells_of more) q
      on = other_covered now (Keep cell) rest (cells_of taken) (cells_of more) (λ r e. cc) (λ c i. subst (λ xs. Contains xs c) (sym gives.cells) i)
