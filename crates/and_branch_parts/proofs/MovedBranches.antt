-- Branches whose place of work was moved, and what holds of a branch whose tree has a state.
use Rattle.std.proofs.Common.{ℕ, ◌≡◌, List, length, refl, ap, sym, ◌∙◌, subst, inl, inr, arith}
use Rattle.and_model.specs.Trees.{QueryTree}
use Rattle.and_model.specs.Reached.{ReachedBy}
use Rattle.and_model.specs.Reductions.{Reduction, Makes}
use Rattle.and_model.specs.Stands.{Framed}
use Rattle.and_model.specs.declared.reference.Ref.{Ref}
use Rattle.and_laws.proofs.Placing.{makes_same}
use Rattle.and_cells.specs.Ranges.{NamedProgram}
use Rattle.and_branch_laws.specs.Kept.{Kept}
use Rattle.and_reduction.specs.Trails.{Noted}
use Rattle.and_branch_parts.specs.Branches.{Held, Lives, IsBranchOf}
use Rattle.and_branch_parts.specs.Next.{IsMoved}
use Rattle.and_branch_parts.specs.Watching.{IsAsleep}
use Rattle.and_branch_parts.proofs.KeptOrigins.{kept_then, kept_nowhere}

pub moved_lives : (P : NamedProgram) (old new : Held) (t : QueryTree P.program) → IsMoved old new → Lives P old t → Lives P new t
moved_lives P old new t m lives =
    let kept : List Framed = lives.kept in record {
      kept = lives.kept;
      keeps = subst (λ (l : List Reduction). Kept P l new.row kept t) (sym m.reductions)
          (subst (λ (l : List Ref). Kept P old.reductions l kept t) (sym m.row) lives.keeps);
      goals = lives.goals ∙ sym m.goals;
      long = ap (λ (l : List Ref). length l) m.row ∙ lives.long ∙ sym m.used;
      live = m.is_failed ∙ lives.live;
      asleep = λ w h. subst (λ (l : List Ref). IsAsleep P l w) (sym m.row) (lives.asleep w (m.watches w h));
    }

pub moved_branch : (P : NamedProgram) (old new : Held) (t : QueryTree P.program) → IsMoved old new → IsBranchOf P old t → IsBranchOf P new t
moved_branch P old new t m x = record {
  made = subst (λ (l : List Reduction). Makes P.program l t) (sym m.reductions) x.made;
  reached = subst (λ (k : List ℕ). ReachedBy P.program new.limit k t) (sym m.key)
      (subst (λ (n : ℕ). ReachedBy P.program n old.key t) (sym m.limit) x.reached);
  bounded = let e = m.limit in let l = x.bounded in omega arith;
  used = x.used ∙ sym m.used;
  state = elim x.state [ inl dead ↦ inl (m.is_failed ∙ dead.0, dead.1) | inr lives ↦ inr (moved_lives P old new t m lives) ];
}

pub moved_twice : (one two three : Held) → IsMoved one two → IsMoved two three → IsMoved one three
moved_twice one two three m n = record {
  key = n.key ∙ m.key;
  limit = n.limit ∙ m.limit;
  reductions = n.reductions ∙ m.reductions;
  row = n.row ∙ m.row;
  used = n.used ∙ m.used;
  is_failed = n.is_failed ∙ m.is_failed;
  goals = n.goals ∙ m.goals;
  watches = λ w h. m.watches w (n.watches w h);
  back = kept_then one two three m.back n.back;
}

pub moved_nowhere : (b : Held) → IsMoved b b
moved_nowhere b = record {
  key = refl;
  limit = refl;
  reductions = refl;
  row = refl;
  used = refl;
  is_failed = refl;
  goals = refl;
  watches = λ w h. h;
  back = kept_nowhere b;
}

-- A branch stands for one tree.
pub one_tree : (P : NamedProgram) (b : Held) (t u : QueryTree P.program) → IsBranchOf P b t → IsBranchOf P b u → t ≡ u
one_tree P b t u x y = makes_same P.program b.reductions b.reductions t u x.made y.made (λ r. (λ h. h, λ h. h))

-- What is noted of its row is of no account to what a branch stands for.
pub unnoted_branch : (P : NamedProgram) (b : Held) (n : Noted) (t : QueryTree P.program) → IsBranchOf P b t
    → IsBranchOf P (record b { trail = n }) t
unnoted_branch P b n t x = record {
  made = x.made;
  reached = x.reached;
  bounded = x.bounded;
  used = x.used;
  state = elim x.state [
    | inl dead ↦ inl dead
    | inr l ↦ inr (record { kept = l.kept; keeps = l.keeps; goals = l.goals; long = l.long; live = l.live; asleep = l.asleep })
  ];
}
