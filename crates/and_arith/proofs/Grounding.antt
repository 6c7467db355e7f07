-- Terms without variables.
use Rattle.std.proofs.Common.{ℕ, ℤ, ◌≡◌, ◌≢◌, List, map, true, Some, refl, ap, sym, ◌∙◌, subst}
use Rattle.std.specs.Prelude.{Contains, ◌&&◌}
use Rattle.and_model.specs.Terms as terms
use Rattle.and_model.specs.Terms.{Term, Terms, is_ground, are_ground}
use Rattle.and_model.specs.Arithmetic.{value, values}
use Rattle.and_model.specs.declared.reference.Ref.{Ref}
use Rattle.and_model.specs.declared.reference.Ref.TheVariants.{Cell, Node}
use Rattle.and_program.specs.Shown.{arguments_in}
use Rattle.and_cells.specs.Ranges.{NamedProgram}
use Rattle.and_cells.specs.Seen.{Seen, Knows, LeadsTo, here, onward}
use Rattle.and_cells.specs.Parts.{part_at}
use Rattle.and_cells.proofs.Among.{among_first, among_more}
use Rattle.and_value_laws.specs.Values.{whole, set, part, KnownAs, AllKnownAs, unbound, bound, integer, literal, structure, no_parts, more_parts, IsGround}
use Rattle.and_arith.proofs.Yielding.{AreSome, operated_some}
use Rattle.and_arith.proofs.Solving.{ground_below}

mutual
  -- A term with a value has no variable.
  pub value_ground : (t : Term) (z : ℤ) → value t ≡ Some z → is_ground t ≡ true
  value_ground (terms.variable q k) z e = absurd (cc)
  value_ground (terms.number y) z e = refl
  value_ground (terms.compound c ts) z e = values_ground ts (operated_some c (values ts) z e)

  values_ground : (ts : Terms) → AreSome (values ts) → are_ground ts ≡ true
  values_ground terms.none some = refl
  values_ground (terms.more t ts) some = ap (λ b. b && are_ground ts) (value_ground t some.0.0 some.0.1) ∙ values_ground ts some.1

-- a cell that leads to what is no cell is known to be set
leads_out : (s : Seen) (r end : Ref) (cell : ℕ) → LeadsTo s r end → r ≡ Cell cell → ((c : ℕ) → end ≢ Cell c) → (q : Ref) × Knows s cell q
leads_out s r end cell (here x) e other = absurd (other cell e)
leads_out s r end cell (onward c q to knows leads) e other = let same : c ≡ cell = cc in (q, subst (λ x. Knows s x q) same knows)

module _ (P : NamedProgram) (s : Seen) where
  mutual
    -- What is ground is known as a term without variables.
    pub ground_known_ground : (r : Ref) (t : Term) → KnownAs P s r t → IsGround P s r → is_ground t ≡ true
    ground_known_ground r t (unbound cell none) ground =
        let w = ground.cells cell (whole (Cell cell) refl) in
        let known = leads_out s (Cell cell) w.0 cell w.1 refl w.2 in
        absurd (none known.0 known.1)
    ground_known_ground r t (bound cell q v knows rest) ground =
        ground_known_ground q v rest (ground_below P s (Cell cell) q (set cell q (whole (Cell cell) refl) knows) ground)
    ground_known_ground r t (integer pair high low a b) ground = refl
    ground_known_ground r t (literal node base z at) ground = refl
    ground_known_ground r t (structure node base name arguments ts at parts) ground =
        all_known_ground (map (part_at P base) arguments) ts parts (λ q c.
        ground_below P s (Node node base) q
        (part node base q (whole (Node node base) refl) (subst (λ x. Contains (map (part_at P base) (arguments_in x)) q) (sym at) c)) ground)

    all_known_ground : (rs : List Ref) (ts : Terms) → AllKnownAs P s rs ts → ((q : Ref) → Contains rs q → IsGround P s q) → are_ground ts ≡ true
    all_known_ground rs ts no_parts each = refl
    all_known_ground rs ts (more_parts r t rest others first more) each =
        ap (λ b. b && are_ground others) (ground_known_ground r t first (each r (among_first r rest)))
        ∙ all_known_ground rest others more (λ q c. each q (among_more r q rest c))
