-- Branches and their outlines.
use Rattle.std.proofs.Common.{ℕ, ◌≡◌, Bool, List, ap, sym, ◌∙◌, subst}
use Rattle.and_model.specs.declared.goal.Goal.{Goal}
use Rattle.and_reduction.specs.Trails.{Noted}
use Rattle.and_branch_parts.specs.Branches.{Held}
use Rattle.and_branch_parts.specs.Making.{noted_from}
use Rattle.and_branch_parts.specs.Watching.{Watched}
use Rattle.and_branch.specs.Outlines.{IsOutlineOf, outlined}
use Rattle.and_branch.specs.declared.outline.Outline.{Outline}

-- A branch has the outline that is made of it,
pub outline_is : (b old : Held) (o : Outline) → b ≡ old → IsOutlineOf b o → IsOutlineOf old o
outline_is b old o e x = subst (λ (h : Held). IsOutlineOf h o) e x

-- and of the outline, the row and the reductions it is made again.
module _ (first : Held) (o : Outline) (x : IsOutlineOf first o) where
  outlined_is : (b : Held) → outlined b o ≡ record first { key = b.key; row = b.row; reductions = b.reductions; trail = b.trail }
  outlined_is b =
      ap (λ (l : List Goal). record (outlined b o) { left = l }) (sym x.left)
      ∙ ap (λ (l : List Goal). record (outlined b o) { left = first.left; right = l }) (sym x.right)
      ∙ ap (λ (l : List Watched). record (outlined b o) { left = first.left; right = first.right; watches = l }) (sym x.watches)
      ∙ ap (λ (n : ℕ). record (outlined b o) { left = first.left; right = first.right; watches = first.watches; used = n }) (sym x.used)
      ∙ ap (λ (n : ℕ). record (outlined b o) {
        left = first.left;
        right = first.right;
        watches = first.watches;
        used = first.used;
        limit = n;
      }) (sym x.limit)
      ∙ ap (λ (f : Bool). record first { key = b.key; row = b.row; reductions = b.reductions; trail = b.trail; is_failed = f }) (sym x.is_failed)

  module _ (b mid new : Held) (back : mid ≡ record b { row = first.row; reductions = first.reductions; trail = noted_from first.row }) where
    pub outlined_again : new ≡ outlined mid o → new ≡ record first { key = b.key; trail = noted_from first.row }
    outlined_again filled =
        filled ∙ outlined_is mid
        ∙ ap (λ (h : Held). record first { key = h.key; row = h.row; reductions = h.reductions; trail = h.trail }) back

    pub outlined_first : new ≡ record (outlined mid o) { trail = o.trail } → new ≡ record first { key = b.key }
    outlined_first filled =
        filled ∙ ap (λ (h : Held). record h { trail = o.trail }) (outlined_is mid)
        ∙ ap (λ (h : Held). record first { key = h.key; row = h.row; reductions = h.reductions; trail = o.trail }) back
        ∙ ap (λ (n : Noted). record first { key = b.key; trail = n }) (sym x.trail)

-- Whatever the key is, it has its outline.
module _ (b keyed : Held) (same : keyed ≡ record b { key = keyed.key }) where
  pub outline_by_key : (o : Outline) → IsOutlineOf keyed o → IsOutlineOf b o
  outline_by_key o x =
      let y = subst (λ (h : Held). IsOutlineOf h o) same x in
      record {
        left = y.left;
        right = y.right;
        watches = y.watches;
        used = y.used;
        limit = y.limit;
        is_failed = y.is_failed;
        trail = y.trail;
        words = y.words;
        count = y.count;
      }
