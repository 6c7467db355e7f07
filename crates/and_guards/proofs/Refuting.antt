-- A comparison is refuted under the equations exactly where it is false in the cells.
use Rattle.std.proofs.Common.{ℕ, ◌+◌, ◌≡◌, ◌<◌, Bool, true, false, true≢false, not, List, [], ◌∷◌, length, map, refl, sym, ap, ◌∙◌, subst, inl, inr}
use Rattle.std.proofs.lemmas.List.Elements.{All-contains}
use Rattle.and_model.specs.Terms.{Path, Term, Terms, none, more, variables_of, is_ground, are_ground, Substitution, apply, framed}
use Rattle.and_model.specs.Solutions.{Equation, Solves}
use Rattle.and_model.specs.Arithmetic.{Relation, holds}
use Rattle.and_model.specs.Programs
use Rattle.and_model.specs.Programs.{Arithmetic}
use Rattle.and_model.specs.Closure.{refutes}
use Rattle.and_model.specs.Candidates.{guard, In, Refuted}
use Rattle.and_model.specs.declared.reference.Ref.{Ref}
use Rattle.and_program.specs.Skeletons.{NodeItem, call, equal, is, compare, fail, node_term, item_of}
use Rattle.and_laws.proofs.Substitutions.{and_left, and_right}
use Rattle.and_cells.specs.Ranges.{NamedProgram}
use Rattle.and_cells.specs.Rows.{IsSound}
use Rattle.and_cells.specs.Solved.{IsMostGeneral}
use Rattle.and_branch_laws.specs.Variables.{SpeaksOf}
use Rattle.and_branch_laws.specs.Judging.{outside}
use Rattle.and_guards.specs.Guards.{CanBeRead, GuardCanBeRead, IsFalseIn, IsGuardFalse}
use Rattle.and_guards.proofs.Moving.{IsLow, Outside, Inside, known_inside, known_outside}
use Rattle.and_branch_laws.proofs.Readings.{AreWhole, read_known, known_read}

pub not_true : (b : Bool) → not b ≡ true → b ≡ false
not_true true e = absurd (true≢false (sym e))
not_true false e = refl

-- ground terms that refute a comparison
record Refutes (o : Relation) (ts : Terms) : Type 0 where
  pub left : Term
  pub right : Term
  pub rest : Terms
  pub terms : ts ≡ more left (more right rest)
  pub left_ground : is_ground left ≡ true
  pub right_ground : is_ground right ≡ true
  pub fails : holds o left right ≡ false

refuting : (o : Relation) (a b : Term) (ts : Terms) → are_ground ts ≡ true → refutes (Programs.compare o a b) ts ≡ true → Refutes o ts
refuting o a b none ground e = absurd (true≢false (sym e))
refuting o a b (more x none) ground e = absurd (true≢false (sym e))
refuting o a b (more x (more y ts)) ground e =
    let others : are_ground (more y ts) ≡ true = and_right (is_ground x) (are_ground (more y ts)) ground in
    record {
      left = x;
      right = y;
      rest = ts;
      terms = refl;
      left_ground = and_left (is_ground x) (are_ground (more y ts)) ground;
      right_ground = and_left (is_ground y) (are_ground ts) others;
      fails = not_true (holds o x y) e;
    }

pub both_ground : (u v : Term) → is_ground u ≡ true → is_ground v ≡ true → are_ground (more u (more v none)) ≡ true
both_ground u v a b = rw (a, b) refl

module _ (P : NamedProgram) (row : List Ref) (sound : IsSound P row) (g : Term) (speaks : SpeaksOf (IsLow (length row)) g) (head : Term)
    (new : List Ref) (general : IsMostGeneral P new (Inside P row sound g speaks head)) where
  abbrev out : List Equation
  out = Outside P row sound g speaks head

  abbrev cells : List Equation
  cells = Inside P row sound g speaks head

  abbrev floor : ℕ
  floor = length row

  to_false : (o : Relation) (a b : Term) → AreWhole new (length row) a → AreWhole new (length row) b
      → Refuted out (Programs.compare o (framed outside a) (framed outside b)) → IsFalseIn P new (length row) o a b
  to_false o a b left right (ts, known, refuted) =
      let r = refuting o (framed outside a) (framed outside b) ts known.0 refuted in
      let one : (s : Substitution) → Solves s out → apply s (framed outside a) ≡ r.left = λ s h. let e = known.1 s h ∙ r.terms in cc in
      let other : (s : Substitution) → Solves s out → apply s (framed outside b) ≡ r.right = λ s h. let e = known.1 s h ∙ r.terms in cc in
      record {
        left = r.left;
        right = r.right;
        left_read = known_read P new cells general floor a r.left left (known_inside P row sound g speaks head a r.left one);
        right_read = known_read P new cells general floor b r.right right (known_inside P row sound g speaks head b r.right other);
        left_ground = r.left_ground;
        right_ground = r.right_ground;
        fails = r.fails;
      }

  to_refuted : (o : Relation) (a b : Term) → IsFalseIn P new (length row) o a b
      → Refuted out (Programs.compare o (framed outside a) (framed outside b))
  to_refuted o a b f = (
    more f.left (more f.right none),
    (
      both_ground f.left f.right f.left_ground f.right_ground,
      λ s h.
          let one : apply s (framed outside a) ≡ f.left =
          known_outside P row sound g speaks head a f.left (read_known P new cells general floor a f.left f.left_read f.left_ground) s h in
          let other : apply s (framed outside b) ≡ f.right =
          known_outside P row sound g speaks head b f.right
          (read_known P new cells general floor b f.right f.right_read f.right_ground) s h in
          ap (λ (x : Term). more x (more (apply s (framed outside b)) none)) one ∙ ap (λ (y : Term). more f.left (more y none)) other,
    ),
    ap not f.fails,
  )

  whole_in : (n : ℕ) → CanBeRead P new (length row) n → AreWhole new (length row) (node_term P.skeleton.nodes n)
  whole_in n r v c = (
    All-contains (λ (v : Path × ℕ). floor + 1 + v.1 < length new) (variables_of (node_term P.skeleton.nodes n)) v r.in_range.cells c,
    r.whole v c,
  )

  -- What is refuted of a guard is false in the cells,
  pub guard_is_false : (items : List NodeItem) → GuardCanBeRead P new (length row) items → (a : Arithmetic)
      → In a (guard outside (map (item_of P.skeleton.nodes) items)) → Refuted out a → IsGuardFalse P new (length row) items
  guard_is_false [] can a i r = elim i [ ]
  guard_is_false (call n ∷ items) can a i r = elim i [ ]
  guard_is_false (equal n m ∷ items) can a i r = elim i [ ]
  guard_is_false (is n m pair ∷ items) can a i r = elim i [ ]
  guard_is_false (fail ∷ items) can a i r = elim i [ ]
  guard_is_false (compare o n m ∷ items) can a (inl e) r =
      inl (to_false o (node_term P.skeleton.nodes n) (node_term P.skeleton.nodes m) (whole_in n can.0) (whole_in m can.1)
      (subst (λ (x : Arithmetic). Refuted out x) e r))
  guard_is_false (compare o n m ∷ items) can a (inr i) r = inr (guard_is_false items can.2 a i r)

  -- and the other way round.
  pub guard_is_refuted : (items : List NodeItem) → IsGuardFalse P new (length row) items
      → (a : Arithmetic) × In a (guard outside (map (item_of P.skeleton.nodes) items)) × Refuted out a
  guard_is_refuted [] f = elim f [ ]
  guard_is_refuted (call n ∷ items) f = elim f [ ]
  guard_is_refuted (equal n m ∷ items) f = elim f [ ]
  guard_is_refuted (is n m pair ∷ items) f = elim f [ ]
  guard_is_refuted (fail ∷ items) f = elim f [ ]
  guard_is_refuted (compare o n m ∷ items) (inl f) = (
    Programs.compare o (framed outside (node_term P.skeleton.nodes n)) (framed outside (node_term P.skeleton.nodes m)),
    inl refl,
    to_refuted o (node_term P.skeleton.nodes n) (node_term P.skeleton.nodes m) f,
  )
  guard_is_refuted (compare o n m ∷ items) (inr f) = let found = guard_is_refuted items f in (found.0, inr found.1, found.2)
