-- Bodies whose goals are still to be put.
use Rattle.std.proofs.Common.{ℕ, suc, ◌≡◌, ◌+◌, ◌<◌, true, false, List, [], ◌∷◌, ◌++◌, length, get_or, drop, map, sym, ap, ◌∙◌, subst, Contains}
use Rattle.std.specs.Prelude.{Result, OnOk}
use Rattle.std.proofs.lemmas.List.{get_or-map}
use Rattle.std.proofs.lemmas.Result.{on_ok_weaker}
use Rattle.and_model.specs.Programs.{Item, clause_at, clause_weight}
use Rattle.and_model.specs.Reached.{none}
use Rattle.and_model.specs.declared.goal.Goal.{Goal}
use Rattle.and_model.specs.declared.reference.Ref.{Ref}
use Rattle.and_program.specs.Items.{is_call_node, node_item}
use Rattle.and_program.specs.Skeletons
use Rattle.and_program.specs.Skeletons.{NodeItem}
use Rattle.and_program.specs.declared.item.ItemNode.{ItemNode}
use Rattle.and_cells.specs.Ranges.{NamedProgram}
use Rattle.and_branch_laws.proofs.Nodes.{node_is}
use Rattle.and_branch_laws.specs.Goals.{IsNodeOf}
use Rattle.and_branch_laws.specs.Kept.{goal_of, node_item_at}
use Rattle.and_branch_laws.specs.OwnVariables.{IsLoaded}
use Rattle.and_branch_laws.specs.Reducing.{goal_at, reduction_by, reduction_in_cells}
use Rattle.and_branch_laws.specs.Settling.{Settled, widened}
use Rattle.and_pending.specs.Pending.{Pending, goals_of, unwatched}
use Rattle.and_step_laws.specs.Running.{IsRunnable}
use Rattle.and_step_laws.proofs.Goals.{runnable}
use Rattle.and_reduction.specs.Items.{AreItemsOf}
use Rattle.and_reduction.specs.Runs.{HasRun, CannotHold}
use Rattle.and_branch_parts.specs.Branches.{Held, IsBranch, SameKey}
use Rattle.and_branch_parts.specs.Next.{HasNextCall, IsReduced, HasPut, is_goal_item, goals_from}
use Rattle.and_branch_parts.specs.Origins.{KeepsBack}
use Rattle.and_branch_parts.specs.Rounds.{IsAt, StepsOn}
use Rattle.and_branch_parts.specs.Watching.{Watched, all_watched}
use Rattle.and_branch_parts.proofs.BodyStacks.{goal_first}
use Rattle.and_branch_parts.proofs.GoalsRun.{run_branch, false_branch}
use Rattle.and_branch_parts.proofs.KeptOrigins.{kept_then, kept_same}
use Rattle.and_branch_parts.proofs.LookedGoals.{in_range, judge_ready, kind, run_ready, moved_steps}
use Rattle.and_branch_parts.proofs.NextReduced.{next_lives}
use Rattle.and_branch_parts.proofs.PassedGoals.{HasGoals}
use Rattle.and_branch_parts.proofs.WatchedLists.{goals_append, goals_back, watched_put}
use Rattle.and_branch.specs.Bodies.{with_body, with_next, IsCallInHand}
use Rattle.and_branch.proofs.LookedItems.{is_a_call, is_arithmetic_then, node_there}

-- ---- What is kept

-- What could be had again of the old branch can be, whatever the goals are.
pub kept_apart : (P : NamedProgram) (c n i j : ℕ) (old new : Held) → KeepsBack old new
    → KeepsBack (with_body P c n i old) (with_body P c n j new)
kept_apart P c n i j old new k = record {
  mark = k.mark;
  again = λ first x.
      (let y = k.again first (record { row = x.row; made = x.made; reductions = x.reductions }) in
      record { row = y.row; made = y.made; reductions = y.reductions });
  made = k.made;
  grows = k.grows;
}

kept_from : (P : NamedProgram) (c n i : ℕ) (old new : Held) → KeepsBack old new → KeepsBack (with_body P c n i old) new
kept_from P c n i old new k = record {
  mark = k.mark;
  again = λ first x. k.again first (record { row = x.row; made = x.made; reductions = x.reductions });
  made = k.made;
  grows = k.grows;
}

pub kept_to : (P : NamedProgram) (c n i : ℕ) (old new : Held) → KeepsBack old new → KeepsBack old (with_body P c n i new)
kept_to P c n i old new k = record {
  mark = k.mark;
  again = λ first x. (let y = k.again first x in record { row = y.row; made = y.made; reductions = y.reductions });
  made = k.made;
  grows = k.grows;
}

-- The number of the clause's frame may be told otherwise.
pub entered_at : (P : NamedProgram) (c m n : ℕ) (old new : Held) → m ≡ n → IsReduced P old (with_body P c m 0 new) c
    → IsReduced P old (with_body P c n 0 new) c
entered_at P c m n old new e x = subst (λ (k : ℕ). IsReduced P old (with_body P c k 0 new) c) e x

-- A clause was entered by the next goal, and its body's goals are still to be put.
pub next_entered : (P : NamedProgram) (loaded : IsLoaded P) (old b new : Held) (is : b ≡ old) (c : ℕ) (goal : Goal) (back : List Goal)
    → HasNextCall P b c → b.right ≡ goal ∷ back → SameKey b new → new.reductions ≡ b.reductions ++ reduction_by goal c b.used ∷ []
    → new.used ≡ b.used + clause_weight (clause_at P.program c)
    → Settled P (widened b.row (clause_weight (clause_at P.program c))) new.row (reduction_in_cells P.program goal c (length b.row))
    → new.is_failed ≡ b.is_failed → new.left ≡ b.left → new.right ≡ back
    → ((w : Watched) → Contains new.watches w → Contains b.watches w) → IsReduced P old (with_body P c old.used 0 new) c
next_entered P loaded old b new is c goal back x e same reductions used settled live left right watches =
    entered_at P c b.used old.used old new (ap (λ (h : Held). h.used) is)
    (next_lives P loaded old b (with_body P c b.used 0 new) is c goal back x e (record { key = same.key; limit = same.limit }) reductions used
    settled live left (ap (λ (l : List Goal). goals_from c b.used 0 (clause_at P.program c).body ++ l) right) watches)

-- Goals were put before the next ones.
put_as : (b : Held) (l m r s : List Goal) (v w : List Watched) → l ≡ m → r ≡ s → v ≡ w
    → record b { left = l; right = r; watches = v } ≡ record b { left = m; right = s; watches = w }
put_as b l m r s v w e f h =
    ap (λ (x : List Goal). record b { left = x; right = r; watches = v }) e
    ∙ ap (λ (x : List Goal). record b { left = m; right = x; watches = v }) f
    ∙ ap (λ (x : List Watched). record b { left = m; right = s; watches = x }) h

goals_put : (gs : List Goal) (b old : Held) → b ≡ old → (p q : Pending) → HasGoals b p → HasPut gs p q
    → record b { left = goals_of q.left; right = goals_of q.right; watches = all_watched (q.left ++ q.right) }
    ≡ record old { right = gs ++ old.right }
goals_put gs b old e p q (left, right, watches) put =
    let all : goals_of (map unwatched gs ++ p.right) ≡ gs ++ b.right =
    goals_append (map unwatched gs) p.right ∙ ap (λ (l : List Goal). l ++ goals_of p.right) (goals_back gs)
    ∙ ap (λ (l : List Goal). gs ++ l) (sym right) in
    ap (λ (o : Pending). record b { left = goals_of o.left; right = goals_of o.right; watches = all_watched (o.left ++ o.right) }) put
    ∙ put_as b (goals_of p.left) b.left (goals_of (map unwatched gs ++ p.right)) (gs ++ b.right)
    (all_watched (p.left ++ (map unwatched gs ++ p.right))) b.watches (sym left) all (watched_put p.left gs p.right ∙ sym watches)
    ∙ ap (λ (h : Held). record h { right = gs ++ h.right }) e

pub all_put : {A E : Type 0} (gs : List Goal) (b old : Held) → b ≡ old → (p q : Pending) → HasGoals b p → (r : Result A E)
    → OnOk r (HasPut gs p q)
    → OnOk r (record b { left = goals_of q.left; right = goals_of q.right; watches = all_watched (q.left ++ q.right) }
    ≡ record old { right = gs ++ old.right })
all_put gs b old e p q has r put = on_ok_weaker r (λ one. goals_put gs b old e p q has one) put

-- A branch of which what was read is not different, but for what is noted, has the same goals.
pub stays_on : (P : NamedProgram) (c n i : ℕ) (old mid : Held) → mid ≡ record old { row = mid.row; trail = mid.trail } → mid.row ≡ old.row
    → KeepsBack old mid → StepsOn P (with_body P c n i old) (with_body P c n i mid)
stays_on P c n i old mid is row back =
    moved_steps P (with_body P c n i old) (with_body P c n i mid)
    (record {
      key = ap (λ (b : Held). b.key) is;
      limit = ap (λ (b : Held). b.limit) is;
      reductions = ap (λ (b : Held). b.reductions) is;
      row = row;
      used = ap (λ (b : Held). b.used) is;
      is_failed = ap (λ (b : Held). b.is_failed) is;
      goals = ap (λ (b : Held). b.left ++ (goals_from c n i (drop i (clause_at P.program c).body) ++ b.right)) is;
      watches = λ w h. subst (λ (ws : List Watched). Contains ws w) (ap (λ (b : Held). b.watches) is) h;
      back = kept_apart P c n i i old mid back;
    })

-- ---- An item that is arithmetic

module _ (P : NamedProgram) (loaded : IsLoaded P) (c n i : ℕ) (items : List ItemNode) (are : AreItemsOf P c items) (d : ItemNode)
    (below : i < length items) (b : Held) (branch : IsBranch P (with_body P c n i b)) (live : b.is_failed ≡ false)
    (is_goal : is_goal_item (node_item (get_or items i d)) ≡ true) where
  abbrev goal : Goal
  goal = goal_of (goal_at c n [] i)

  abbrev behind : List Goal
  behind = goals_from c n (suc i) (drop (suc i) (clause_at P.program c).body) ++ b.right

  abbrev whole : Held
  whole = with_body P c n i b

  next : whole.right ≡ goal ∷ behind
  next =
      ap (λ (gs : List Goal). gs ++ b.right)
      (subst (λ (body : List Item). goals_from c n i (drop i body) ≡ goal ∷ goals_from c n (suc i) (drop (suc i) body)) are.body
      (goal_first P.skeleton.nodes items c n i d below is_goal))

  pub at : IsAt P whole goal
  at = record { branch = branch; live = live; rest = behind; next = next }

  item_here : node_item_at P goal ≡ node_item (get_or items i d)
  item_here =
      ap (λ (l : List NodeItem). get_or l i Skeletons.fail) (sym are.nodes) ∙ get_or-map node_item items i d Skeletons.fail below

  can_run : is_call_node (node_item (get_or items i d)) ≡ false → IsRunnable P b.row goal (node_item (get_or items i d))
  can_run other =
      let (a, e) = is_arithmetic_then P loaded (length b.row) goal (in_range P whole goal at) (node_item (get_or items i d)) item_here other
      (kind P whole goal at loaded) in
      runnable P loaded b.row goal (run_ready P whole goal at loaded a e) (node_item (get_or items i d)) item_here

  pub can_run_as : (x : Goal) → x ≡ goal → is_call_node (node_item (get_or items i d)) ≡ false
      → IsRunnable P b.row x (node_item (get_or items i d))
  can_run_as x e other =
      subst (λ (y : Goal). IsRunnable P b.row y (node_item (get_or items i d))) (sym e) (can_run other)

  -- It is a call, and the goals behind it were put: it is in hand, and with it the branch is as it was.
  pub call_in_hand : (m : ℕ) → node_item (get_or items i d) ≡ Skeletons.call m → (new : Held) → new ≡ with_body P c n (suc i) b
      → (h : Goal) → h ≡ goal → IsCallInHand P new h m × (with_next h new ≡ whole)
  call_in_hand m is_node new put h e =
      let same : with_next goal new ≡ whole =
      ap (λ (x : Held). with_next goal x) put ∙ ap (λ (gs : List Goal). record b { right = gs }) (sym next) in
      let (term, is_call) = is_a_call P loaded (length b.row) goal (in_range P whole goal at) (node_item (get_or items i d)) item_here
      (ap is_call_node is_node) in
      let node = node_is P loaded b.row goal (judge_ready P whole goal at loaded term is_call) m
      (node_there P loaded (length b.row) goal (in_range P whole goal at) (node_item (get_or items i d)) item_here m is_node) in
      subst (λ (x : Goal). IsCallInHand P new x m × (with_next x new ≡ whole)) (sym e) (
        record {
          at = subst (λ (x : Held). IsAt P x goal) (sym same) at;
          term = term;
          is_call = is_call;
          node_is = subst (λ (row : List Ref). IsNodeOf P row goal m) (sym (ap (λ (x : Held). x.row) put)) node;
        },
        same,
      )

  module _ (mid : Held) (is : mid ≡ record b { row = mid.row; trail = mid.trail }) (back : KeepsBack b mid) where
    -- It was run, and the goals behind it are still to be put,
    pub ran_on : HasRun P b.row mid.row goal → StepsOn P whole (with_body P c n (suc i) mid)
    ran_on run =
        let after : Held = with_body P c n (suc i) mid in
        record {
          each = λ t x. (
            t,
            run_branch P loaded whole after t x live
                (record { key = ap (λ (h : Held). h.key) is; limit = ap (λ (h : Held). h.limit) is })
                (ap (λ (h : Held). h.reductions) is) (ap (λ (h : Held). h.used) is) goal behind next run
                (ap (λ (h : Held). h.left) is)
                (ap (λ (h : Held). goals_from c n (suc i) (drop (suc i) (clause_at P.program c).body) ++ h.right) is)
                (ap (λ (h : Held). h.is_failed) is ∙ live)
                (λ w h. subst (λ (ws : List Watched). Contains ws w) (ap (λ (h : Held). h.watches) is) h),
            none t,
          );
          back = kept_apart P c n i (suc i) b mid back;
        }

    -- or it cannot hold, and the branch is marked failed.
    pub fails_on : (new : Held) → CannotHold P b.row goal → new ≡ record mid { is_failed = true } → StepsOn P whole new
    fails_on new cannot marked =
        let new_is : new ≡ record b { row = mid.row; trail = mid.trail; is_failed = true } =
        marked ∙ ap (λ (h : Held). record h { is_failed = true }) is in
        record {
          each = λ t x. (
            t,
            false_branch P loaded whole new t x live
                (record { key = ap (λ (h : Held). h.key) new_is; limit = ap (λ (h : Held). h.limit) new_is })
                (ap (λ (h : Held). h.reductions) new_is) (ap (λ (h : Held). h.used) new_is) goal behind next cannot
                (ap (λ (h : Held). h.is_failed) new_is),
            none t,
          );
          back = kept_from P c n i b new (kept_then b mid new back
              (kept_same mid new (ap (λ (h : Held). h.row) marked) (ap (λ (h : Held). h.reductions) marked)
              (ap (λ (h : Held). h.trail) marked)));
        }
