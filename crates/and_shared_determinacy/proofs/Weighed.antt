-- What sides say of a comparison, and comparisons of a guard.
use Rattle.std.proofs.Common.{ℕ, ℤ, zero, suc, ◌+◌, ◌≡◌, ◌<◌, length, get_or, arith, true, false, true≢false, List, [], ◌∷◌, map, drop, Option, Some, None}
use Rattle.std.proofs.Common.{refl, sym, ap, ◌∙◌, subst, inl, inr}
use Rattle.and_model.specs.Arithmetic.{Relation, related, both_related}
use Rattle.and_model.specs.declared.reference.Ref.{Ref}
use Rattle.and_program.specs.Skeletons.{NodeItem, call, equal, is, compare, fail, AllThere}
use Rattle.and_program.specs.Items.{node_item, relation}
use Rattle.and_program.specs.declared.item.ItemNode.{ItemNode}
use Rattle.and_program.specs.declared.item.ItemNode.TheVariants as item
use Rattle.and_model.specs.declared.numbers.NodeNo.{NodeNo}
use Rattle.and_cells.specs.Ranges.{NamedProgram, IsNodeInRange}
use Rattle.and_cells.specs.Seen.{Seen, Knows}
use Rattle.and_cells.specs.Parts.{part_at}
use Rattle.and_guards.specs.declared.guards.Side.{Side}
use Rattle.and_guards.specs.declared.guards.Side.TheVariants.{Waits, NoValue, Number}
use Rattle.and_shared_determinacy.specs.declared.weighing.Found.TheVariants as found
use Rattle.and_guards.specs.Sides.{sides_fail}
use Rattle.and_shared_determinacy.specs.Weighing.{Amounts, IsSideOver, FailsOver, GuardFailsOver, IsGuardInRange}
use Rattle.and_guards.proofs.SideAnswers.{holds_by, none_left, is_false}
use Rattle.and_shared_determinacy.proofs.Truths.{true_before}

-- the side that was found
pub found_side : (a b : Side) → found.Side a ≡ found.Side b → a ≡ b
found_side a b e = cc

pub side_told : (P : NamedProgram) (s : Seen) (r : Ref) (a b : Side) → a ≡ b → IsSideOver P s r a → IsSideOver P s r b
side_told P s r a b e has = subst (IsSideOver P s r) e has

-- ---- More is known

pub amounts_later : (P : NamedProgram) (old new : Seen) (r : Ref) (v : Option ℤ) → ((p : ℕ) (q : Ref) → Knows old p q → Knows new p q)
    → Amounts P old r v → Amounts P new r v
amounts_later P old new r v keeps has w no_half t are =
    let (u, ground, valued, each) = has w no_half t (true_before P w t old new keeps are) in
    (u, ground, valued, λ other too. each other (true_before P w other old new keeps too))

pub side_later : (P : NamedProgram) (old new : Seen) (r : Ref) (a : Side) → ((p : ℕ) (q : Ref) → Knows old p q → Knows new p q) → IsSideOver P old r a
    → IsSideOver P new r a
side_later P old new r (Waits cell) keeps has = tt
side_later P old new r NoValue keeps has = amounts_later P old new r None keeps has
side_later P old new r (Number z) keeps has = amounts_later P old new r (Some z) keeps has

-- ---- What sides say

module _ (P : NamedProgram) (s : Seen) (o : Relation) (l r : Ref) where
  from_amounts : (x y : Option ℤ) → Amounts P s l x → Amounts P s r y → both_related o x y ≡ false → FailsOver P s o l r
  from_amounts x y one two fails = record {
    terms = λ w left right t are.
        let (u, ground, valued, each) = one w left t are in
        let (v, ground_too, valued_too, each_too) = two w right t are in
        (u, v, ground, ground_too, holds_by o u v x y valued valued_too ∙ fails, λ other too. (each other too, each_too other too));
  }

  pub sides_over : (a b : Side) → IsSideOver P s l a → IsSideOver P s r b → sides_fail o a b ≡ true → FailsOver P s o l r
  sides_over (Waits cell) b one two e = absurd (true≢false (sym e))
  sides_over NoValue (Waits cell) one two e = absurd (true≢false (sym e))
  sides_over NoValue NoValue one two e = from_amounts None None one two (none_left o None)
  sides_over NoValue (Number y) one two e = from_amounts None (Some y) one two (none_left o (Some y))
  sides_over (Number x) (Waits cell) one two e = absurd (true≢false (sym e))
  sides_over (Number x) NoValue one two e = from_amounts (Some x) None one two refl
  sides_over (Number x) (Number y) one two e = from_amounts (Some x) (Some y) one two (is_false (related o x y) e)

-- ---- The items of a guard, one after another

pub fails_later : (P : NamedProgram) (old new : Seen) (o : Relation) (l r : Ref) → ((p : ℕ) (q : Ref) → Knows old p q → Knows new p q) → FailsOver P old o l r
    → FailsOver P new o l r
fails_later P old new o l r keeps f = record {
  terms = λ w left right t are.
      let (x, y, one, two, fails, each) = f.terms w left right t (true_before P w t old new keeps are) in
      (x, y, one, two, fails, λ other too. each other (true_before P w other old new keeps too));
}

drop_at : (items : List ItemNode) (k : ℕ) (d : ItemNode) → k < length items → drop k items ≡ get_or items k d ∷ drop (suc k) items
drop_at [] k d low = absurd (omega arith)
drop_at (x ∷ items) zero d low = refl
drop_at (x ∷ items) (suc k) d low = drop_at items k d (omega arith)

-- the comparison that comes next fails
pub fails_here : (P : NamedProgram) (s : Seen) (base : ℕ) (items : List ItemNode) (k : ℕ) (d : ItemNode) (by : _) (left right : NodeNo) → k < length items
    → get_or items k d ≡ item.Compare by left right → FailsOver P s (relation by) (part_at P base left.0) (part_at P base right.0)
    → GuardFailsOver P s base (map node_item (drop k items))
fails_here P s base items k d by left right low at fails =
    subst (λ (xs : List ItemNode). GuardFailsOver P s base (map node_item xs))
    (sym (drop_at items k d low ∙ ap (λ (i : ItemNode). i ∷ drop (suc k) items) at)) (inl fails)

module _ (P : NamedProgram) (base : ℕ) (items : List ItemNode) (k : ℕ) (d : ItemNode) (by : _) (left right : NodeNo) (low : k < length items)
    (at : get_or items k d ≡ item.Compare by left right) where
  rest_is : drop k items ≡ item.Compare by left right ∷ drop (k + 1) items
  rest_is = drop_at items k d low ∙ ap (λ (i : ItemNode). i ∷ drop (suc k) items) at
      ∙ ap (λ (n : ℕ). item.Compare by left right ∷ drop n items) (let e : suc k ≡ k + 1 = omega arith in e)

  -- Behind a comparison the rest of a guard is in range where the whole is,
  pub range_on : (words : ℕ) → IsGuardInRange P words base (map node_item (drop k items)) → IsGuardInRange P words base (map node_item (drop (k + 1) items))
  range_on words range =
      let all : IsGuardInRange P words base (map node_item (item.Compare by left right ∷ drop (k + 1) items)) =
      subst (λ (xs : List ItemNode). IsGuardInRange P words base (map node_item xs)) rest_is range in
      all.2

  -- and where the rest fails, so does the whole.
  pub fails_on : (s : Seen) → GuardFailsOver P s base (map node_item (drop (k + 1) items)) → GuardFailsOver P s base (map node_item (drop k items))
  fails_on s fails = subst (λ (xs : List ItemNode). GuardFailsOver P s base (map node_item xs)) (sym rest_is) (inr fails)

-- The nodes of a guard are in range where all nodes of the program are.
pub guard_in_range : (P : NamedProgram) (words base : ℕ) → ((n : ℕ) → n < length P.skeleton.nodes → IsNodeInRange P words n base)
    → (k : ℕ) (items : List NodeItem)
    → AllThere P.skeleton.nodes k items → IsGuardInRange P words base items
guard_in_range P words base each k [] there = tt
guard_in_range P words base each k (compare o n m ∷ items) there = (each n there.0.0, each m there.0.1, guard_in_range P words base each k items there.1)
guard_in_range P words base each k (call n ∷ items) there = tt
guard_in_range P words base each k (equal n m ∷ items) there = tt
guard_in_range P words base each k (is n m pair ∷ items) there = tt
guard_in_range P words base each k (fail ∷ items) there = tt

pub guard_range_later : (P : NamedProgram) (words more base : ℕ) (items : List NodeItem) → more ≡ words → IsGuardInRange P words base items
    → IsGuardInRange P more base items
guard_range_later P words more base items same range = subst (λ (n : ℕ). IsGuardInRange P n base items) (sym same) range
