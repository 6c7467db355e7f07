-- What an expression leads to was passed, or lies below what is to be entered.
use Rattle.std.proofs.Common.{ℕ, ℤ, suc, ◌≡◌, List, [], map, Option, refl, sym, subst}
use Rattle.std.specs.Prelude.{Contains}
use Rattle.and_model.specs.declared.numbers.NodeNo.{NodeNo}
use Rattle.and_model.specs.declared.reference.Ref.{Ref}
use Rattle.and_model.specs.declared.reference.Ref.TheVariants.{Cell, Node, Number, Half}
use Rattle.and_program.specs.Skeletons as shapes
use Rattle.and_program.specs.Shown.{arguments_in}
use Rattle.and_program.specs.Loaded.{shape_at}
use Rattle.and_cells.specs.Ranges.{NamedProgram}
use Rattle.and_cells.specs.Seen.{Seen, Knows, LeadsTo, here, onward}
use Rattle.and_cells.specs.Parts.{part_at, parts_of}
use Rattle.and_cells.proofs.Among.{among_none}
use Rattle.and_value_laws.specs.Values.{Reaches, whole, set, part}
use Rattle.and_arith.specs.Turns.{IsEnd, of_pair, of_half, of_literal}
use Rattle.and_arith.specs.declared.walk.Task.{Task}
use Rattle.and_arith.specs.declared.walk.Task.TheVariants.{Enter}

-- A cell that was passed: it is known to be set to what was passed.
pub data Passed (P : NamedProgram) (s : Seen) (taken : List ℕ) : ℕ → Type 0 where
  on_chain : (cell next : ℕ) → Knows s cell (Cell next) → Passed P s taken next → Passed P s taken cell
  on_pair : (cell pair : ℕ) (high low : Ref) → Knows s cell (Number pair) → Knows s pair high → Knows s (suc pair) low → Passed P s taken cell
  on_half : (cell bits : ℕ) → Knows s cell (Half bits) → Passed P s taken cell
  on_literal : (cell : ℕ) (node : NodeNo) (base : ℕ) (z : ℤ) → Knows s cell (Node node base) → shape_at P.skeleton node.0 ≡ shapes.number z
      → Passed P s taken cell
  on_taken : (cell : ℕ) (node : NodeNo) (base : ℕ) → Knows s cell (Node node base) → Contains taken cell → Passed P s taken cell

-- What was passed, but for what lies below tasks.
pub data Covered (P : NamedProgram) (s : Seen) (tasks : List Task) (taken : List ℕ) : Ref → Type 0 where
  waiting : (r : Ref) → Contains tasks (Enter r) → Covered P s tasks taken r
  at_cell : (cell : ℕ) → Passed P s taken cell → Covered P s tasks taken (Cell cell)
  at_pair : (pair : ℕ) (high low : Ref) → Knows s pair high → Knows s (suc pair) low → Covered P s tasks taken (Number pair)
  at_half : (bits : ℕ) → Covered P s tasks taken (Half bits)
  at_node : (node : NodeNo) (base : ℕ) → ((r : Ref) → Contains (parts_of P (Node node base)) r → Covered P s tasks taken r)
      → Covered P s tasks taken (Node node base)

-- what is known goes on to be known
abbrev pub Onward : Seen → Seen → Type 0
Onward s t = (place : ℕ) (r : Ref) → Knows s place r → Knows t place r

-- a node that is a number has no parts
pub literal_no_parts : (P : NamedProgram) (node : NodeNo) (base : ℕ) (z : ℤ) (r : Ref) → shape_at P.skeleton node.0 ≡ shapes.number z
    → Contains (parts_of P (Node node base)) r → ⊥
literal_no_parts P node base z r at c = among_none r (subst (λ s. Contains (map (part_at P base) (arguments_in s)) r) at c)

module _ (P : NamedProgram) where
  pub passed_on : (s t : Seen) (taken more : List ℕ) → Onward s t → ((c : ℕ) → Contains taken c → Contains more c) → (cell : ℕ) → Passed P s taken cell
      → Passed P t more cell
  passed_on s t taken more knows kept cell (on_chain c next k rest) = on_chain c next (knows c (Cell next) k) (passed_on s t taken more knows kept next rest)
  passed_on s t taken more knows kept cell (on_pair c pair high low k a b) =
      on_pair c pair high low (knows c (Number pair) k) (knows pair high a) (knows (suc pair) low b)
  passed_on s t taken more knows kept cell (on_half c bits k) = on_half c bits (knows c (Half bits) k)
  passed_on s t taken more knows kept cell (on_literal c node base z k at) = on_literal c node base z (knows c (Node node base) k) at
  passed_on s t taken more knows kept cell (on_taken c node base k among) = on_taken c node base (knows c (Node node base) k) (kept c among)

  -- What is covered stays so where each task that is gone is covered.
  pub covered_on : (s t : Seen) (tasks left : List Task) (taken more : List ℕ) → Onward s t → ((c : ℕ) → Contains taken c → Contains more c)
      → ((r : Ref) → Contains tasks (Enter r) → Covered P t left more r) → (r : Ref) → Covered P s tasks taken r → Covered P t left more r
  covered_on s t tasks left taken more knows kept done r (waiting q c) = done q c
  covered_on s t tasks left taken more knows kept done r (at_cell cell p) = at_cell cell (passed_on s t taken more knows kept cell p)
  covered_on s t tasks left taken more knows kept done r (at_pair pair high low a b) = at_pair pair high low (knows pair high a) (knows (suc pair) low b)
  covered_on s t tasks left taken more knows kept done r (at_half bits) = at_half bits
  covered_on s t tasks left taken more knows kept done r (at_node node base parts) =
      at_node node base (λ q c. covered_on s t tasks left taken more knows kept done q (parts q c))

  -- what leads to a cell is one
  pub leads_from_cell : (s : Seen) (p : Ref) (cell : ℕ) → LeadsTo s p (Cell cell) → (c : ℕ) × (p ≡ Cell c)
  leads_from_cell s p cell leads = at p (Cell cell) leads refl
    where
      at : (a b : Ref) → LeadsTo s a b → b ≡ Cell cell → (c : ℕ) × (a ≡ Cell c)
      at a b (here r) e = (cell, e)
      at a b (onward c r to knows rest) e = (c, refl)

  -- What leads to a cell that was passed is covered.
  pub chain_passed : (s : Seen) (taken : List ℕ) (p : Ref) (cell : ℕ) → LeadsTo s p (Cell cell) → Passed P s taken cell
      → (c : ℕ) × (p ≡ Cell c) × Passed P s taken c
  chain_passed s taken p cell leads passed = at p (Cell cell) leads refl
    where
      at : (a b : Ref) → LeadsTo s a b → b ≡ Cell cell → (c : ℕ) × (a ≡ Cell c) × Passed P s taken c
      at a b (here r) e = (cell, e, passed)
      at a b (onward c r to knows rest) e =
          let w : (d : ℕ) × (r ≡ Cell d) × Passed P s taken d = at r to rest e in
          (c, refl, on_chain c w.0 (subst (λ q. Knows s c q) w.1 knows) w.2)

  pub chain_covered : (s : Seen) (tasks : List Task) (taken : List ℕ) (p : Ref) (cell : ℕ) → LeadsTo s p (Cell cell) → Passed P s taken cell
      → Covered P s tasks taken p
  chain_covered s tasks taken p cell leads passed =
      let w = chain_passed s taken p cell leads passed in
      subst (λ q. Covered P s tasks taken q) (sym w.1) (at_cell w.0 w.2)

  -- A reference without parts is covered, and a cell that is set to it was passed.
  pub end_covered : (s : Seen) (tasks : List Task) (taken : List ℕ) (place : Ref) (v : Option ℤ) → IsEnd P s place v → Covered P s tasks taken place
  end_covered s tasks taken place v (of_pair pair high low a b fits) = at_pair pair high low a b
  end_covered s tasks taken place v (of_half bits) = at_half bits
  end_covered s tasks taken place v (of_literal node base z fits at) = at_node node base (λ r c. absurd (literal_no_parts P node base z r at c))

  pub end_passed : (s : Seen) (taken : List ℕ) (place : Ref) (v : Option ℤ) (cell : ℕ) → Knows s cell place → IsEnd P s place v → Passed P s taken cell
  end_passed s taken place v cell knows (of_pair pair high low a b fits) = on_pair cell pair high low knows a b
  end_passed s taken place v cell knows (of_half bits) = on_half cell bits knows
  end_passed s taken place v cell knows (of_literal node base z fits at) = on_literal cell node base z knows at

  -- Where no task is left, all that is below what is covered is.
  pub covered_parts : (s : Seen) (taken : List ℕ) (node : NodeNo) (base : ℕ) (r : Ref) → Covered P s [] taken (Node node base)
      → Contains (parts_of P (Node node base)) r → Covered P s [] taken r
  covered_parts s taken node base r covered c = at (Node node base) covered refl
    where
      at : (q : Ref) → Covered P s [] taken q → q ≡ Node node base → Covered P s [] taken r
      at q (waiting x none) e = absurd (among_none (Enter x) none)
      at q (at_cell cell p) e = absurd (cc)
      at q (at_pair pair high low a b) e = absurd (cc)
      at q (at_half bits) e = absurd (cc)
      at q (at_node n b parts) e = parts r (subst (λ x. Contains (parts_of P x) r) (sym e) c)

  pub covered_cell : (s : Seen) (taken : List ℕ) (cell : ℕ) → Covered P s [] taken (Cell cell) → Passed P s taken cell
  covered_cell s taken cell covered = at (Cell cell) covered refl
    where
      at : (q : Ref) → Covered P s [] taken q → q ≡ Cell cell → Passed P s taken cell
      at q (waiting x none) e = absurd (among_none (Enter x) none)
      at q (at_cell c p) e = let same : c ≡ cell = cc in subst (Passed P s taken) same p
      at q (at_pair pair high low a b) e = absurd (cc)
      at q (at_half bits) e = absurd (cc)
      at q (at_node n b parts) e = absurd (cc)

  pub covered_pair : (s : Seen) (taken : List ℕ) (pair : ℕ) → Covered P s [] taken (Number pair)
      → ((high : Ref) × Knows s pair high) × ((low : Ref) × Knows s (suc pair) low)
  covered_pair s taken pair covered = at (Number pair) covered refl
    where
      at : (q : Ref) → Covered P s [] taken q → q ≡ Number pair → ((high : Ref) × Knows s pair high) × ((low : Ref) × Knows s (suc pair) low)
      at q (waiting x none) e = absurd (among_none (Enter x) none)
      at q (at_cell c p) e = absurd (cc)
      at q (at_pair p high low a b) e = let same : p ≡ pair = cc in ((high, subst (λ x. Knows s x high) same a), (low, subst (λ x. Knows s (suc x) low) same b))
      at q (at_half bits) e = absurd (cc)
      at q (at_node n b parts) e = absurd (cc)

  -- What a passed cell is set to is covered, where it is known to be set to one word.
  pub set_covered : (s : Seen) (taken : List ℕ) → ((place : ℕ) (q r : Ref) → Knows s place q → Knows s place r → q ≡ r)
      → ((cell : ℕ) (node : NodeNo) (base : ℕ) → Contains taken cell → Knows s cell (Node node base) → Covered P s [] taken (Node node base))
      → (cell : ℕ) (r : Ref) → Passed P s taken cell → Knows s cell r → Covered P s [] taken r
  set_covered s taken once below cell r (on_chain c next k rest) knows = subst (λ q. Covered P s [] taken q) (once c (Cell next) r k knows) (at_cell next rest)
  set_covered s taken once below cell r (on_pair c pair high low k a b) knows =
      subst (λ q. Covered P s [] taken q) (once c (Number pair) r k knows) (at_pair pair high low a b)
  set_covered s taken once below cell r (on_half c bits k) knows = subst (λ q. Covered P s [] taken q) (once c (Half bits) r k knows) (at_half bits)
  set_covered s taken once below cell r (on_literal c node base z k at) knows =
      subst (λ q. Covered P s [] taken q) (once c (Node node base) r k knows) (at_node node base (λ x i. absurd (literal_no_parts P node base z x at i)))
  set_covered s taken once below cell r (on_taken c node base k among) knows =
      subst (λ q. Covered P s [] taken q) (once c (Node node base) r k knows) (below c node base among k)

  -- So all that is led to is covered.
  pub all_covered : (s : Seen) (taken : List ℕ) (root : Ref) → ((place : ℕ) (q r : Ref) → Knows s place q → Knows s place r → q ≡ r)
      → ((cell : ℕ) (node : NodeNo) (base : ℕ) → Contains taken cell → Knows s cell (Node node base) → Covered P s [] taken (Node node base))
      → Covered P s [] taken root → (r : Ref) → Reaches P s root r → Covered P s [] taken r
  all_covered s taken root once below covered r (whole q e) = subst (λ x. Covered P s [] taken x) (sym e) covered
  all_covered s taken root once below covered r (set cell q at knows) =
      set_covered s taken once below cell q (covered_cell s taken cell (all_covered s taken root once below covered (Cell cell) at)) knows
  all_covered s taken root once below covered r (part node base q at among) =
      covered_parts s taken node base q (all_covered s taken root once below covered (Node node base) at) among

-- what is led to stays so as more is known
pub reaches_later : (P : NamedProgram) (s t : Seen) (root r : Ref) → Onward s t → Reaches P s root r → Reaches P t root r
reaches_later P s t root r knows (whole q e) = whole q e
reaches_later P s t root r knows (set cell q at k) = set cell q (reaches_later P s t root (Cell cell) knows at) (knows cell q k)
reaches_later P s t root r knows (part node base q at among) = part node base q (reaches_later P s t root (Node node base) knows at) among

-- and so is what that leads to
pub reaches_on : (P : NamedProgram) (s : Seen) (root r to : Ref) → LeadsTo s r to → Reaches P s root r → Reaches P s root to
reaches_on P s root r to (here x) at = at
reaches_on P s root r to (onward cell x y knows leads) at = reaches_on P s root x y leads (set cell x at knows)
