-- Places of pairs: they are in range, name no word of a pair, and keep to their side of the floor.
use Rattle.std.proofs.Common.{ℕ, ◌+◌, ◌≡◌, ◌≢◌, ◌<◌, false, List, [], ◌∷◌, ◌++◌, length, map, refl, sym, ap, ◌∙◌, subst, inl, inr, arith}
use Rattle.std.specs.Prelude.{Contains, All}
use Rattle.std.proofs.lemmas.Bool.{false≢true}
use Rattle.std.proofs.lemmas.List.Elements.{All-contains, All-contains_itself, All-weaker, Contains-append_left, Contains-append_right, Contains-append_cases}
use Rattle.and_model.specs.Terms.{Path, variables_of}
use Rattle.and_model.specs.Store.{is_half}
use Rattle.and_model.specs.declared.numbers.NodeNo.{NodeNo}
use Rattle.and_model.specs.declared.reference.Ref.{Ref}
use Rattle.and_model.specs.declared.reference.Ref.TheVariants.{Free, Cell, Node, Number, Half}
use Rattle.and_program.specs.Skeletons
use Rattle.and_program.specs.Skeletons.{Shape, node_term, AllFall}
use Rattle.and_program.specs.Loaded.{shape_at, arguments_at}
use Rattle.and_program.specs.Shown.{resolved}
use Rattle.and_cells.specs.Ranges.{NamedProgram, IsInRange, CanHold}
use Rattle.and_cells.specs.Rows.{IsSound, plain}
use Rattle.and_cells.specs.Seen.{word_at, IsSetTo}
use Rattle.and_cells.specs.Meaning
use Rattle.and_cells.specs.Meaning.{Holds, IsSettled, shallow_cells}
use Rattle.and_laws.proofs.Ordered.{contains_first, contains_cases, contains_none}
use Rattle.and_cells.specs.Parts.{parts_of, part_at}
use Rattle.and_cell_laws.proofs.Between.{set_is_below}
use Rattle.and_cell_laws.proofs.Images.{contains_origin}
use Rattle.and_unify.specs.declared.pairs.Pair.{Pair}
use Rattle.and_unify.specs.Pairs.{AreInRange, NameNoHalf}
use Rattle.and_unify.specs.Places
use Rattle.and_unify.specs.Places.{IsPlace, left_sides, sides}
use Rattle.and_unify.specs.Settling.{NamesBelow, KeepsBelow, AreNewFrom}
use Rattle.and_unify.proofs.TurnAgree.{IsWhole}
use Rattle.and_unify.proofs.TurnParts.{cells_of_parts, part_whole, part_in_range}

-- What holds of all that a list contains holds of each element.
pub all_of : {X : Type 0} (P : X → Type 0) (xs : List X) → ((x : X) → Contains xs x → P x) → All P xs
all_of P xs each = All-weaker (Contains xs) P each xs (All-contains_itself xs)

-- A cell below the floor names cells below it.
pub names_itself : (P : NamedProgram) (floor cell : ℕ) → cell < floor → NamesBelow P floor (Cell cell)
names_itself P floor cell below =
    all_of (λ (x : ℕ). x < floor) (cell ∷ [])
    (λ x at. elim (contains_cases cell x [] at) [ inl e ↦ subst (λ (y : ℕ). y < floor) (sym e) below | inr i ↦ absurd (contains_none x i) ])

-- A cell that is no word of a pair names none.
pub whole_itself : (P : NamedProgram) (row : List Ref) (cell : ℕ) → is_half (word_at row cell) ≡ false → IsWhole P (word_at row) (Cell cell)
whole_itself P row cell whole = λ x at.
    elim (contains_cases cell x [] at) [ inl e ↦ ap (λ (y : ℕ). is_half (word_at row y)) e ∙ whole | inr i ↦ absurd (contains_none x i) ]

-- What is in range is no half.
pub in_range_is_whole : (P : NamedProgram) (words : ℕ) (r : Ref) → IsInRange P words r → is_half r ≡ false
in_range_is_whole P words Free fits = refl
in_range_is_whole P words (Cell cell) fits = refl
in_range_is_whole P words (Node node base) fits = refl
in_range_is_whole P words (Number pair) fits = refl
in_range_is_whole P words (Half bits) fits = absurd fits

held_in_row : (P : NamedProgram) (words cell : ℕ) (r : Ref) → cell < words → CanHold P words cell r → r ≢ Free → is_half r ≡ false → IsInRange P words r
held_in_row P words cell Free below fits set whole = absurd (set refl)
held_in_row P words cell (Cell other) below fits set whole = omega arith
held_in_row P words cell (Node node base) below fits set whole = fits
held_in_row P words cell (Number pair) below fits set whole = fits
held_in_row P words cell (Half bits) below fits set whole = absurd (false≢true (sym whole))

-- What a word is set to is in range, unless it is a half.
pub set_in_range : (P : NamedProgram) (row : List Ref) (cell : ℕ) (r : Ref) → IsSound P row → IsSetTo row cell r → is_half r ≡ false
    → IsInRange P (length row) r
set_in_range P row cell r sound set whole =
    let below : cell < length row = set_is_below row cell r set in
    let fits : CanHold P (length row) cell r = subst (CanHold P (length row) cell) set.0 (sound.fits cell) in
    held_in_row P (length row) cell r below fits set.1 whole

-- A reference holds what it names.
pub holds_named : (P : NamedProgram) (row : List Ref) (r : Ref) (cell : ℕ) → Contains (shallow_cells P r) cell → Holds P row r cell
holds_named P row Free cell at = absurd (contains_none cell at)
holds_named P row (Cell c) cell at = elim (contains_cases c cell [] at) [
  | inl e ↦ subst (λ (x : ℕ). Holds P row (Cell x) cell) e (Meaning.here cell)
  | inr i ↦ absurd (contains_none cell i)
]
holds_named P row (Node node base) cell at =
    let (v, has, is) = contains_origin (λ (v : Path × ℕ). base + 1 + v.1) (variables_of (node_term P.skeleton.nodes node.0)) cell at in
    Meaning.inside node base v cell has (subst (λ (x : ℕ). Holds P row (Cell x) cell) is (Meaning.here cell))
holds_named P row (Number pair) cell at = absurd (contains_none cell at)
holds_named P row (Half bits) cell at = absurd (contains_none cell at)

-- A reference in range that names no word of a pair and keeps to its side of the floor.
pub record IsKept (P : NamedProgram) (row : List Ref) (floor : ℕ) (r : Ref) : Type 0 where
  pub in_range : IsInRange P (length row) r
  pub whole : IsWhole P (word_at row) r
  pub keeps : KeepsBelow P floor r

-- So it is of what a word is set to, unless that is a half,
pub word_is_kept : (P : NamedProgram) (row : List Ref) (pairs : List Pair) (floor cell : ℕ) (r : Ref) → IsSound P row → IsSettled P row
    → AreNewFrom P row pairs floor
    → IsSetTo row cell r → is_half r ≡ false → IsKept P row floor r
word_is_kept P row pairs floor cell r sound settled new set whole = record {
  in_range = set_in_range P row cell r sound set whole;
  whole = λ c at. settled.no_half cell r c set whole (holds_named P row r c at);
  keeps = λ below. new.named_below cell r set;
}

base_of_resolved : (s : Shape) (n : NodeNo) (base : ℕ) (m : NodeNo) (b : ℕ) → Node m b ≡ resolved s n base → b ≡ base
base_of_resolved (Skeletons.variable k) n base m b e = absurd (cc)
base_of_resolved (Skeletons.number z) n base m b e = cc
base_of_resolved (Skeletons.compound c ns) n base m b e = cc

-- a structure that is part of another lies in the same frame
base_of_part : (P : NamedProgram) (node : NodeNo) (base : ℕ) (m : NodeNo) (b : ℕ) → Contains (parts_of P (Node node base)) (Node m b) → b ≡ base
base_of_part P node base m b at =
    let (n, among, is) = contains_origin (part_at P base) (arguments_at P.skeleton node.0) (Node m b) at in
    base_of_resolved (shape_at P.skeleton n) (record { 0 = n }) base m b is

keeps_part : (P : NamedProgram) (floor : ℕ) (node : NodeNo) (base : ℕ) (q : Ref) → AllFall 0 P.skeleton.nodes → Contains (parts_of P (Node node base)) q
    → KeepsBelow P floor (Node node base) → KeepsBelow P floor q
keeps_part P floor node base Free fall at keeps = λ below. absurd below
keeps_part P floor node base (Cell cell) fall at keeps = λ below. names_itself P floor cell below
keeps_part P floor node base (Node m b) fall at keeps = λ below.
    let low : base < floor = subst (λ (x : ℕ). x < floor) (base_of_part P node base m b at) below in
    let names : NamesBelow P floor (Node node base) = keeps low in
    all_of (λ (x : ℕ). x < floor) (shallow_cells P (Node m b))
    (λ x named. All-contains (λ (y : ℕ). y < floor) (shallow_cells P (Node node base)) x names (cells_of_parts P (Node node base) (Node m b) x fall at named))
keeps_part P floor node base (Number pair) fall at keeps = λ below. absurd below
keeps_part P floor node base (Half bits) fall at keeps = λ below. absurd below

-- of the parts of such a reference,
pub part_is_kept : (P : NamedProgram) (row : List Ref) (floor : ℕ) (r q : Ref) → AllFall 0 P.skeleton.nodes → Contains (parts_of P r) q → IsKept P row floor r
    → IsKept P row floor q
part_is_kept P row floor Free q fall at kept = absurd (contains_none q at)
part_is_kept P row floor (Cell cell) q fall at kept = absurd (contains_none q at)
part_is_kept P row floor (Node node base) q fall at kept = record {
  in_range = part_in_range P (length row) (Node node base) q fall kept.in_range at;
  whole = part_whole P (word_at row) (Node node base) q fall at kept.whole;
  keeps = keeps_part P floor node base q fall at kept.keeps;
}
part_is_kept P row floor (Number pair) q fall at kept = absurd (contains_none q at)
part_is_kept P row floor (Half bits) q fall at kept = absurd (contains_none q at)

-- of the sides of pairs,
both_are_kept : (P : NamedProgram) (row : List Ref) (pairs : List Pair) (floor : ℕ) (p : Pair) → AreInRange P (length row) pairs
    → NameNoHalf P (word_at row) pairs → AreNewFrom P row pairs floor
    → Contains pairs p → IsKept P row floor p.left × IsKept P row floor p.right
both_are_kept P row pairs floor p fits no_half new at =
    let range = All-contains (λ (p : Pair). IsInRange P (length row) p.left × IsInRange P (length row) p.right) pairs p fits at in
    let whole = All-contains (λ (p : Pair). All (λ (cell : ℕ). is_half (word_at row cell) ≡ false) (shallow_cells P p.left ++ shallow_cells P p.right))
    pairs p no_half at in
    let keeps = All-contains (λ (p : Pair). KeepsBelow P floor p.left × KeepsBelow P floor p.right) pairs p new.sides at in
    let each : (cell : ℕ) → Contains (shallow_cells P p.left ++ shallow_cells P p.right) cell → is_half (word_at row cell) ≡ false =
    λ cell named. All-contains (λ (cell : ℕ). is_half (word_at row cell) ≡ false) (shallow_cells P p.left ++ shallow_cells P p.right) cell whole named in (
      record {
        in_range = range.0;
        whole = λ cell named. each cell (Contains-append_left (shallow_cells P p.left) (shallow_cells P p.right) cell named);
        keeps = keeps.0;
      },
      record {
        in_range = range.1;
        whole = λ cell named. each cell (Contains-append_right (shallow_cells P p.left) (shallow_cells P p.right) cell named);
        keeps = keeps.1;
      },
    )

side_is_kept : (P : NamedProgram) (row : List Ref) (pairs : List Pair) (floor : ℕ) (r : Ref) → AreInRange P (length row) pairs
    → NameNoHalf P (word_at row) pairs → AreNewFrom P row pairs floor
    → Contains (sides pairs) r → IsKept P row floor r
side_is_kept P row pairs floor r fits no_half new at =
    let rights : List Ref = map (λ (p : Pair). p.right) pairs in
    elim (Contains-append_cases (left_sides pairs) rights r at) [
      | inl left ↦
          let (p, among, is) = contains_origin (λ (p : Pair). p.left) pairs r left in
          let both = both_are_kept P row pairs floor p fits no_half new among in
          subst (IsKept P row floor) (sym is) both.0
      | inr right ↦
          let (p, among, is) = contains_origin (λ (p : Pair). p.right) pairs r right in
          let both = both_are_kept P row pairs floor p fits no_half new among in
          subst (IsKept P row floor) (sym is) both.1
    ]

-- and so of all places of the sides.
pub place_is_kept : (P : NamedProgram) (row : List Ref) (pairs : List Pair) (floor : ℕ) (r : Ref) → AllFall 0 P.skeleton.nodes → IsSound P row → IsSettled P row
    → AreInRange P (length row) pairs → NameNoHalf P (word_at row) pairs → AreNewFrom P row pairs floor → IsPlace P (plain row) (sides pairs) r
    → IsKept P row floor r
place_is_kept P row pairs floor r fall sound settled fits no_half new (Places.root q at) = side_is_kept P row pairs floor r fits no_half new at
place_is_kept P row pairs floor r fall sound settled fits no_half new (Places.set cell q place known) =
    let kept : IsKept P row floor (Cell cell) = place_is_kept P row pairs floor (Cell cell) fall sound settled fits no_half new place in
    let whole : is_half r ≡ false = sym (ap is_half known.0) ∙ kept.whole cell (contains_first cell []) in
    word_is_kept P row pairs floor cell r sound settled new known whole
place_is_kept P row pairs floor r fall sound settled fits no_half new (Places.part node base q place at) =
    let kept : IsKept P row floor (Node node base) = place_is_kept P row pairs floor (Node node base) fall sound settled fits no_half new place in
    part_is_kept P row floor (Node node base) r fall at kept
