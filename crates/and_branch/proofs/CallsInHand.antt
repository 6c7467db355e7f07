-- Calls that are still to be put.
use Rattle.std.proofs.Common.{ℕ, ◌≡◌, ◌+◌, ◌≤◌, ◌<◌, ◌⊎◌, inl, inr, List, ◌∷◌, refl, ap, sym, ◌∙◌, subst, arith}
use Rattle.and_model.specs.Terms.{Term}
use Rattle.and_model.specs.Programs.{call, clause_at, clause_weight}
use Rattle.and_model.specs.Reductions.{Reduction}
use Rattle.and_model.specs.declared.goal.Goal.{Goal}
use Rattle.and_model.specs.declared.reference.Ref.{Ref}
use Rattle.and_cells.specs.Ranges.{NamedProgram}
use Rattle.and_branch_laws.specs.Goals.{IsNodeOf}
use Rattle.and_branch_laws.specs.Kept.{item_at}
use Rattle.and_branch_laws.specs.OwnVariables.{IsLoaded}
use Rattle.and_branch_parts.specs.Branches.{Held, IsOpenGoal, SameKey}
use Rattle.and_branch_parts.specs.Next.{HasNextCall, IsReduced, IsMoved}
use Rattle.and_branch_parts.specs.Origins.{KeepsBack}
use Rattle.and_branch_parts.specs.Rounds.{IsAt, IsAtMost, IsDropped, StepsOn}
use Rattle.and_branch_parts.proofs.KeptOrigins.{kept_then, kept_same}
use Rattle.and_branch_parts.proofs.LookedGoals.{moved_steps, next_ready, no_steps, reduced_steps}
use Rattle.and_branch_parts.proofs.MovedBranches.{moved_branch, moved_lives}
use Rattle.and_branch_parts.proofs.NextReduced.{call_is}
use Rattle.and_branch.specs.Bodies.{with_body, with_next, IsCallInHand}
use Rattle.and_branch.proofs.BodiesRun.{kept_to}

-- ---- The next goal was taken out

module _ (P : NamedProgram) (old mid : Held) (g : Goal) (rest : List Goal) (next : old.right ≡ g ∷ rest) (dropped : IsDropped old mid rest) where
  -- With it the branch is as before, but that less may be watched.
  in_hand : with_next g mid ≡ record old { watches = mid.watches }
  in_hand =
      ap (λ (b : Held). with_next g b) dropped.others ∙ ap (λ (gs : List Goal). record old { right = gs; watches = mid.watches }) (sym next)

  is_moved : IsMoved old (with_next g mid)
  is_moved =
      subst (λ (b : Held). IsMoved old b) (sym in_hand)
      (record {
        key = refl;
        limit = refl;
        reductions = refl;
        row = refl;
        used = refl;
        is_failed = refl;
        goals = refl;
        watches = dropped.watches;
        back = kept_same old (record old { watches = mid.watches }) refl refl refl;
      })

  pub next_in_hand : (c : ℕ) → HasNextCall P old c → HasNextCall P (with_next g mid) c
  next_in_hand c x = record {
    tree = x.tree;
    lives = moved_lives P old (with_next g mid) x.tree is_moved x.lives;
    goal = g;
    rest = mid.right;
    next = refl;
    term = x.term;
    is_call = call_is P old c g rest x next;
    there = x.there;
    fits = let m = is_moved in let used = m.used in let fits = x.fits in omega arith;
  }

  pub same_row : mid.row ≡ old.row
  same_row = ap (λ (b : Held). b.row) dropped.others

  same_right : mid.right ≡ rest
  same_right = ap (λ (b : Held). b.right) dropped.others

  pub same_used : mid.used ≡ old.used
  same_used = ap (λ (b : Held). b.used) dropped.others

  -- What is reduced so was reduced of the branch as it was.
  pub reduced_in_hand : (new : Held) (c : ℕ) → IsReduced P (with_next g mid) new c → IsReduced P old new c
  reduced_in_hand new c x =
      let m = is_moved in record {
        stands = λ t o h others of_it lives limit is is_open reached.
            x.stands t o h others of_it (moved_lives P old (with_next g mid) t m lives) (let e = m.limit in omega arith)
            (ap (λ (gs : List Goal). g ∷ gs) same_right ∙ sym next ∙ is)
            (subst (λ (rs : List Reduction). IsOpenGoal P rs t o h) (sym m.reductions) is_open) reached;
      }

  pub back_in_hand : (new : Held) → KeepsBack mid new → KeepsBack old new
  back_in_hand new back =
      kept_then old mid new
      (kept_same old mid (ap (λ (b : Held). b.row) dropped.others) (ap (λ (b : Held). b.reductions) dropped.others)
      (ap (λ (b : Held). b.trail) dropped.others)) back

  -- The branch comes to it still.
  pub at_in_hand : (n : ℕ) → IsAt P old g → (term : Term) → item_at P.program g ≡ call term → IsNodeOf P old.row g n → IsCallInHand P mid g n
  at_in_hand n x term is_call node =
      let m = is_moved in record {
        at = record {
          branch = (x.branch.0, moved_branch P old (with_next g mid) x.branch.0 m x.branch.1);
          live = m.is_failed ∙ x.live;
          rest = mid.right;
          next = refl;
        };
        term = term;
        is_call = is_call;
        node_is = subst (λ (row : List Ref). IsNodeOf P row g n) (sym same_row) node;
      }

  pub steps_in_hand : StepsOn P old (with_next g mid)
  steps_in_hand = moved_steps P old (with_next g mid) is_moved

-- ---- A call in hand

-- What could be had again of the branch can be, with the goal before its next ones or not.
kept_off : (g : Goal) (old new : Held) → KeepsBack old new → KeepsBack (with_next g old) new
kept_off g old new k = record {
  mark = k.mark;
  again = λ first x. k.again first (record { row = x.row; made = x.made; reductions = x.reductions });
  made = k.made;
  grows = k.grows;
}

-- The branch with it is the branch there is.
pub no_step_to : (P : NamedProgram) (old new : Held) → new ≡ old → StepsOn P old new
no_step_to P old new e = subst (λ (b : Held). StepsOn P old b) (sym e) (no_steps P old)

module _ (P : NamedProgram) (loaded : IsLoaded P) (b : Held) (g : Goal) (n : ℕ) (x : IsCallInHand P b g n) (c : ℕ)
    (last : IsAtMost P b.row g c) (room : b.used + clause_weight (clause_at P.program c) ≤ b.limit) where
  -- It can be reduced,
  pub ready_in_hand : HasNextCall P (with_next g b) c
  ready_in_hand = next_ready P (with_next g b) g x.at c x.term x.is_call last.0 room

  -- and the steps go on when it was,
  pub entered_in_hand : (new : Held) → SameKey b new → IsReduced P (with_next g b) (with_body P c b.used 0 new) c → KeepsBack b new
      → StepsOn P (with_next g b) (with_body P c b.used 0 new)
  entered_in_hand new same reduced back =
      reduced_steps P loaded (with_next g b) (with_body P c b.used 0 new) g x.at (record { key = same.key; limit = same.limit }) x.term
      x.is_call c last room reduced (kept_off g b (with_body P c b.used 0 new) (kept_to P c b.used 0 b new back))

  -- if it has a solution or not.
  pub failed_in_hand : (new : Held) → SameKey b new → IsReduced P (with_next g b) new c → KeepsBack b new → StepsOn P (with_next g b) new
  failed_in_hand new same reduced back =
      reduced_steps P loaded (with_next g b) new g x.at (record { key = same.key; limit = same.limit }) x.term x.is_call c last room reduced
      (kept_off g b new back)

-- ---- The weight

-- It grows with the first call, for which there was room, and is no less after others.
pub has_grown : (first old new weight limit : ℕ) → (first < old) ⊎ ((old ≡ first) × (old + weight ≤ limit)) → old ≤ new
    → (old + weight ≤ limit → old < new) → first < new
has_grown first old new weight limit (inl more) keeps grows = omega arith
has_grown first old new weight limit (inr (same, room)) keeps grows = let more = grows room in omega arith
