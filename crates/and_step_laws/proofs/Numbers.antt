-- Numbers that are written into free pairs of words.
use Rattle.std.proofs.Common.{ℕ, ℤ, suc, ◌+◌, ◌≡◌, ◌≢◌, ◌<◌, true, false, true≢false, List, [], length, refl, sym, ap, ◌∙◌, subst, inl}
use Rattle.std.proofs.Common.{inr, ◌⊎◌, arith, w64}
use Rattle.std.specs.Prelude.{Contains, FitsSigned, set}
use Rattle.std.proofs.Math.ListN.{length-set}
use Rattle.std.proofs.lemmas.Bool.{cases_eq}
use Rattle.std.proofs.lemmas.List.{get_or_past}
use Rattle.and_model.specs.Terms.{Path, variables_of}
use Rattle.and_model.specs.Store.{is_half}
use Rattle.and_model.specs.declared.reference.Ref.{Ref}
use Rattle.and_model.specs.declared.reference.Ref.TheVariants.{Free, Cell, Node, Number, Half}
use Rattle.and_program.specs.Skeletons.{node_term, AllFall}
use Rattle.and_laws.proofs.Ordered.{contains_first, contains_cases, contains_none}
use Rattle.and_cell_laws.proofs.Images.{contains_image}
use Rattle.and_cells.specs.Ranges.{NamedProgram, IsNodeInRange}
use Rattle.and_cells.specs.Rows.{IsSound, plain}
use Rattle.and_cells.specs.Numbers.{high_half, low_half}
use Rattle.and_cells.specs.Seen.{IsSetTo, LeadsTo, here, onward, word_at}
use Rattle.and_cells.specs.Meaning as meaning
use Rattle.and_cells.specs.Meaning.{Holds, IsSettled, shallow_cells}
use Rattle.and_cells.specs.Parts.{part_at}
use Rattle.and_cells.proofs.Chains.{number_of_halves}
use Rattle.and_cells.proofs.Keeping.{word_set_here, word_set_other}
use Rattle.and_branch_laws.specs.Settling.{IsWritten}
use Rattle.and_branch_laws.proofs.Lists.{all_of}
use Rattle.and_unify.specs.Settling.{KeepsBelow, AreNewFrom}
use Rattle.and_unify.specs.declared.pairs.Pair.{Pair}
use Rattle.and_branch_laws.specs.Goals.{CanBeRead}
use Rattle.and_step_laws.specs.Asking.{AreReady}
use Rattle.and_step_laws.specs.Assigning.{IsFreePair, CanBeAssigned}
use Rattle.and_step_laws.specs.Runs.{IsUnnamed}
use Rattle.and_branch_laws.proofs.Resolved.{part_names_below}
use Rattle.and_branch_laws.proofs.Widening.{names_within}

-- Two words that were set to the halves of a number.
halves_written : (old mid new : List Ref) (pair next : ℕ) (z : ℤ) (high low : Ref) → suc pair < length old → next ≡ suc pair
    → mid ≡ set old pair high → new ≡ set mid next low → high ≡ high_half z → low ≡ low_half z → FitsSigned w64 z → IsWritten old new pair z
halves_written old mid new pair next z high low below after first second is_high is_low fits =
    let long : length mid ≡ length old = ap length first ∙ length-set old pair high in
    let mid_word : (place : ℕ)
    → word_at mid place ≡ word_at (set old pair high) place = λ place. ap (λ (r : List Ref). word_at r place) first in
    let new_word : (place : ℕ)
    → word_at new place ≡ word_at (set mid next low) place = λ place. ap (λ (r : List Ref). word_at r place) second in
    record {
      long = ap length second ∙ length-set mid next low ∙ long;
      high = new_word pair ∙ word_set_other mid next pair low (omega arith) ∙ mid_word pair
          ∙ word_set_here old pair pair high (omega arith) refl ∙ is_high;
      low = new_word (suc pair) ∙ word_set_here mid next (suc pair) low (omega arith) (sym after) ∙ is_low;
      others = λ place one other.
          new_word place ∙ word_set_other mid next place low (omega arith) ∙ mid_word place ∙ word_set_other old pair place high one;
      holds = number_of_halves z fits;
    }

-- So it is with two free words that were filled.
pub pair_filled : (old mid new : List Ref) (pair next : ℕ) (z : ℤ) (high low answer : Ref) → suc pair < length old → next ≡ suc pair
    → word_at old (suc pair) ≡ Free → mid ≡ set old pair high → (word_at mid next ≡ Free → (new ≡ set mid next low) × (answer ≡ low))
    → high ≡ high_half z → low ≡ low_half z → FitsSigned w64 z → IsWritten old new pair z
pair_filled old mid new pair next z high low answer below after free first second high_is low_is fits =
    let still : word_at mid next ≡ Free =
    ap (λ (r : List Ref). word_at r next) first ∙ word_set_other old pair next high (omega arith) ∙ ap (word_at old) after ∙ free in
    halves_written old mid new pair next z high low below after first (second still).0 high_is low_is fits

-- A place is a word of the pair, or another.
pub one_of_pair : (pair place : ℕ) → ((place ≡ pair) ⊎ (place ≡ suc pair)) ⊎ ((place ≢ pair) × (place ≢ suc pair))
one_of_pair pair place = elim (cases_eq place pair) [
  | inl e ↦ inl (inl e)
  | inr one ↦ elim (cases_eq place (suc pair)) [ inl e ↦ inl (inr e) | inr other ↦ inr (one, other) ]
]

-- A row that was settled still is, where the pair was free and named by no word.
module _ (P : NamedProgram) (old new : List Ref) (pair : ℕ) (z : ℤ) (free : IsFreePair P old pair)
    (written : IsWritten old new pair z) where
  -- a word that is set is one of the two halves, or was set before
  was_set : (place : ℕ) (r : Ref) → IsSetTo new place r → (is_half r ≡ true) ⊎ IsSetTo old place r
  was_set place r set = elim (one_of_pair pair place) [
    | inl this ↦ inl (elim this [
      | inl e ↦ ap is_half (sym set.0 ∙ ap (word_at new) e ∙ written.high)
      | inr e ↦ ap is_half (sym set.0 ∙ ap (word_at new) e ∙ written.low)
    ])
    | inr other ↦ inr (sym (written.others place other.0 other.1) ∙ set.0, set.1)
  ]

  -- a half leads to no node, and holds no cell
  no_way : (r : Ref) (node : _) (base : ℕ) → is_half r ≡ true → LeadsTo (plain new) r (Node node base) → ⊥
  no_way r node base half (here q) = true≢false (sym half)
  no_way r node base half (onward cell q to knows rest) = true≢false (sym half)

  holds_none : (r : Ref) (cell : ℕ) → is_half r ≡ true → Holds P new r cell → ⊥
  holds_none r cell half (meaning.here c) = true≢false (sym half)
  holds_none r cell half (meaning.onward start q c set rest) = true≢false (sym half)
  holds_none r cell half (meaning.inside node base v c at rest) = true≢false (sym half)

  led_before : (r to : Ref) (node : _) (base : ℕ) → to ≡ Node node base → LeadsTo (plain new) r to → LeadsTo (plain old) r to
  led_before r to node base e (here q) = here q
  led_before r to node base e (onward cell q end knows rest) = elim (was_set cell q knows) [
    | inl half ↦ absurd (no_way q node base half (subst (LeadsTo (plain new) q) e rest))
    | inr set ↦ onward cell q end set (led_before q end node base e rest)
  ]

  held_before : (r : Ref) (cell : ℕ) → Holds P new r cell → Holds P old r cell
  held_before r cell (meaning.here c) = meaning.here c
  held_before r cell (meaning.onward start q c set rest) = elim (was_set start q set) [
    | inl half ↦ absurd (holds_none q c half rest)
    | inr was ↦ meaning.onward start q c was (held_before q c rest)
  ]
  held_before r cell (meaning.inside node base v c at rest) = meaning.inside node base v c at (held_before (Cell (base + 1 + v.1)) c rest)

-- a reference that names a cell is no half
names_whole : (P : NamedProgram) (r : Ref) (cell : ℕ) → Contains (shallow_cells P r) cell → is_half r ≡ false
names_whole P Free cell c = refl
names_whole P (Cell other) cell c = refl
names_whole P (Node node base) cell c = refl
names_whole P (Number pair) cell c = refl
names_whole P (Half bits) cell c = absurd (contains_none cell c)

-- What a reference holds is named by it, or by a word that was set.
held_named : (P : NamedProgram) (row : List Ref) (r : Ref) (cell : ℕ) → Holds P row r cell
    → Contains (shallow_cells P r) cell ⊎ ((by : ℕ) × (q : Ref) × IsSetTo row by q × Contains (shallow_cells P q) cell)
held_named P row r cell (meaning.here c) = inl (contains_first c [])
held_named P row r cell (meaning.onward start q c set rest) = elim (held_named P row q c rest) [
  | inl i ↦ inr (start, q, set, i)
  | inr x ↦ inr x
]
held_named P row r cell (meaning.inside node base v c at rest) = elim (held_named P row (Cell (base + 1 + v.1)) c rest) [
  | inl i ↦ elim (contains_cases (base + 1 + v.1) c [] i) [
    | inl e ↦ inl (subst (λ (x : ℕ). Contains (shallow_cells P (Node node base)) x) (sym e)
        (contains_image (λ (w : Path × ℕ). base + 1 + w.1) (variables_of (node_term P.skeleton.nodes node.0)) v at))
    | inr j ↦ absurd (contains_none c j)
  ]
  | inr x ↦ inr x
]

not_held : (P : NamedProgram) (row : List Ref) (m : ℕ) → IsUnnamed P row m → (by : ℕ) (r : Ref) → IsSetTo row by r → Holds P row r m → ⊥
not_held P row m unnamed by r set holds = elim (held_named P row r m holds) [
  | inl i ↦ unnamed by r set (names_whole P r m i) i
  | inr x ↦ unnamed x.0 x.1 x.2 (names_whole P x.1 m x.3) x.3
]

module _ (P : NamedProgram) (old new : List Ref) (pair : ℕ) (z : ℤ) (free : IsFreePair P old pair)
    (written : IsWritten old new pair z) where
  pub still_settled : IsSettled P old → IsSettled P new
  still_settled settled = record {
    no_circle = λ cell circle. settled.no_circle cell (record {
      node = circle.node;
      base = circle.base;
      leads = led_before P old new pair z free written (Cell cell) (Node circle.node circle.base) circle.node circle.base refl circle.leads;
      holds = held_before P old new pair z free written (Node circle.node circle.base) cell circle.holds;
    });
    no_half = λ place r cell set whole holds. elim (was_set P old new pair z free written place r set) [
      | inl half ↦ absurd (true≢false (sym half ∙ whole))
      | inr was ↦
          let held : Holds P old r cell = held_before P old new pair z free written r cell holds in
          elim (one_of_pair pair cell) [
            | inl this ↦ absurd (elim this [
              | inl e ↦ not_held P old pair free.high_unnamed place r was (subst (λ (x : ℕ). Holds P old r x) e held)
              | inr e ↦ not_held P old (suc pair) free.low_unnamed place r was (subst (λ (x : ℕ). Holds P old r x) e held)
            ])
            | inr other ↦ ap is_half (written.others cell other.0 other.1) ∙ settled.no_half place r cell was whole held
          ]
    ];
  }

  -- What can be read before the pair still can.
  pub still_reads : (base node : ℕ) → CanBeAssigned P old base node pair → CanBeRead P new base node
  still_reads base node can = record {
    in_range = subst (λ (words : ℕ). IsNodeInRange P words node base) (sym written.long) can.reads.in_range;
    whole = λ v c.
        let before = can.before v c in
        ap is_half (written.others (base + 1 + v.1) (omega arith) (omega arith)) ∙ can.reads.whole v c;
  }

-- Where a row has no new words, what is asked of it goes across no floor.
pub nothing_new : (P : NamedProgram) (row : List Ref) (pairs : List Pair) (floor : ℕ) → floor ≡ length row → IsSound P row
    → AreReady P row floor pairs → AreNewFrom P row pairs floor
nothing_new P row pairs floor is sound ready = record {
  within = omega arith;
  free = λ cell past. get_or_past row cell Free (omega arith);
  named_below = λ cell r set. all_of (λ (x : ℕ). x < floor) (shallow_cells P r)
      (λ x c. let low = names_within P row cell r sound set x c in omega arith);
  sides = ready.sides;
}

-- What is found of a node in range goes across no floor at the row's end.
pub part_keeps : (P : NamedProgram) (row : List Ref) (floor base node : ℕ) → AllFall 0 P.skeleton.nodes → floor ≡ length row
    → CanBeRead P row base node → KeepsBelow P floor (part_at P base node)
part_keeps P row floor base node fall is reads below =
    all_of (λ (x : ℕ). x < floor) (shallow_cells P (part_at P base node))
    (λ x c. let low = part_names_below P (length row) node base fall reads.in_range x c in omega arith)
