-- What calls that share branches make of what a team keeps.
use Rattle.std.proofs.Common.{ℕ, ◌≡◌, List, [], ◌∷◌, ◌++◌, refl, sym, ap, subst, ◌∙◌, Option, Result, Ok, Err, Vec}
use Rattle.std.specs.declared.alloc.Global.{Global}
use Rattle.std.specs.Prelude.{OnOk, OnErr}
use Rattle.and_cells.specs.Ranges.{NamedProgram}
use Rattle.and_branch.specs.Branches.{Held}
use Rattle.and_histories.specs.PlainTree.{Key, State, Seen, Event, publish, claim, clear, look, left, Does, opening, left_of}
use Rattle.and_histories.specs.PlainTree.{Reply, done, not_free, spent, taken, moved, cleared, number}
use Rattle.and_histories.specs.Histories.{HistoryEntry, Carries, team_of}
use Rattle.and_histories.proofs.Carrying.{carried_in_parts}
use Rattle.and_tree.specs.Passes.{TreeId, PassSeen, Makes, Takes}
use Rattle.and_tree.specs.Replies.{seen_of}
use Rattle.and_tree.specs.declared.replies.CellSeen.{CellSeen}
use Rattle.and_tree.specs.declared.replies.Claimed.{Claimed}
use Rattle.and_tree.specs.declared.replies.Claimed.TheVariants.{Taken, Moved}
use Rattle.and_tree.specs.declared.replies.Published.{Published}
use Rattle.and_tree.specs.declared.replies.Published.TheVariants.{Done, NotFree, Spent}
use Rattle.and_tree.proofs.Hands.{taken_hand}
use Rattle.and_answers.specs.declared.found.Found.{Found}
use Rattle.and_team_laws.specs.Done.{IsPassing}
use Rattle.and_tasks.specs.Placed.{StandsWithin}
use Rattle.and_tasks.specs.Working.{Has, Works, Tells, SeesNone, AreServed, IsAtWork}
use Rattle.and_tasks.specs.declared.placed.PlacedBranch.{PlacedBranch}
use Rattle.and_tasks.specs.declared.stack.Task.{Task}
use Rattle.and_tasks.specs.declared.stack.Task.TheVariants.{One}
use Rattle.and_tasks.proofs.Calls.{looked_hand, counted_hand, moved_hand, not_free_hand, spent_hand}
use Rattle.and_tasks.proofs.Having.{has_still, has_published, has_taken, has_pushed}
use Rattle.and_tasks.proofs.Telling.{tells_passed}

-- ---- no key is left

nothing_left : (s next : State) (team n : ℕ) → Does s (left team) (number n) next → left_of next ≡ n
nothing_left s next team n (Does.counts t is_team) = refl

-- Where no key was counted, none is left at the end of what the pass has seen.
pub sees_none : (p q : PassSeen) (n : ℕ) → Makes (left p.team) (number n) p q → n ≡ 0 → SeesNone q
sees_none p q n m none =
    let e : HistoryEntry = record { event = left p.team; reply = number n } in
    let carried : Carries (opening p.tree.about.teams) ((p.seen ++ m.others) ++ e ∷ []) m.after =
    (carried_in_parts (opening p.tree.about.teams) m.after (p.seen ++ m.others) (e ∷ [])).1 (m.before, m.carried, (m.after, m.does, refl)) in
    record {
      state = m.after;
      carried = subst (λ t. Carries (opening t) q.seen m.after) (sym (ap (λ t. t.about.teams) m.tree))
          (subst (λ h. Carries (opening p.tree.about.teams) h m.after) (sym m.seen) carried);
      none = nothing_left m.before m.after p.team n m.does ∙ none;
    }

-- A claim leaves the team's number as it is, whatever it is answered.
pub claimed_team : {B : Type 0} (key_of : B → Key) (Stands : B → Type 0) (cell serial : ℕ) (p q : PassSeen) (r : Claimed B)
    → ((b : B) → r ≡ Taken b → Stands b × Takes cell serial (key_of b) p q)
    → ((s : CellSeen) → r ≡ Moved s → Makes (claim p.team cell serial) (moved (seen_of s)) p q) → q.team ≡ p.team
claimed_team key_of Stands cell serial p q (Taken b) takes misses = (taken_hand cell serial (key_of b) p q (takes b refl).1).2
claimed_team key_of Stands cell serial p q (Moved s) takes misses = (misses s refl).team

-- So does the wish to publish.
pub published_team : {B : Type 0} (key_of : B → Key) (cell : ℕ) (branch : B) (p q : PassSeen) (r : Published B)
    → (r ≡ Done → Makes (publish p.team cell (key_of branch)) done p q)
    → ((back : B) (s : CellSeen) → r ≡ NotFree back s
    → (back ≡ branch) × Makes (publish p.team cell (key_of branch)) (not_free (seen_of s)) p q)
    → ((back : B) → r ≡ Spent back → (back ≡ branch) × Makes (publish p.team cell (key_of branch)) spent p q) → q.team ≡ p.team
published_team key_of cell branch p q Done opens keeps ends = (opens refl).team
published_team key_of cell branch p q (NotFree back s) opens keeps ends = (keeps back s refl).1.team
published_team key_of cell branch p q (Spent back) opens keeps ends = (ends back refl).1.team

-- The forks are served where neither the stack nor what stands on top was changed.
pub served_still : {N : Type 0} (before now : Option Held) (stack after : Vec (Task N) Global) → AreServed before stack.items → after ≡ stack
    → now ≡ before → AreServed now after.items
served_still {N} before now stack after served same kept =
    subst (λ (o : Option Held). AreServed o after.items) (sym kept)
    (subst (λ (v : Vec (Task N) Global). AreServed before v.items) (sym same) served)

module _ {N : Type 0} (P : NamedProgram) (tree : TreeId) where
  -- ---- calls that leave the hand as it is

  kept : (event : Event) (reply : Reply) (p q : PassSeen) (found : Found) (tasks : List (Task N)) → Works P tree p found tasks
      → Makes event reply p q → team_of event ≡ p.team → IsPassing event → q.hand ≡ p.hand → Works P tree q found tasks
  kept event reply p q found tasks w m of_team is same = record {
    has = has_still P tree p q tasks same m.tree w.has;
    tells = tells_passed P.program tree.about.limit event reply p q found w.tells m of_team is;
  }

  pub works_looked : (cell : ℕ) (reply : Reply) (p q : PassSeen) (found : Found) (tasks : List (Task N)) → Works P tree p found tasks
      → Makes (look p.team cell) reply p q → Works P tree q found tasks
  works_looked cell reply p q found tasks w m = kept (look p.team cell) reply p q found tasks w m refl tt (looked_hand cell reply p q m)

  pub works_counted : (reply : Reply) (p q : PassSeen) (found : Found) (tasks : List (Task N)) → Works P tree p found tasks
      → Makes (left p.team) reply p q → Works P tree q found tasks
  works_counted reply p q found tasks w m = kept (left p.team) reply p q found tasks w m refl tt (counted_hand reply p q m)

  pub works_moved : (cell serial : ℕ) (what : Seen) (p q : PassSeen) (found : Found) (tasks : List (Task N)) → Works P tree p found tasks
      → Makes (claim p.team cell serial) (moved what) p q → Works P tree q found tasks
  works_moved cell serial what p q found tasks w m =
      kept (claim p.team cell serial) (moved what) p q found tasks w m refl tt (moved_hand cell serial what p q m)

  pub works_not_free : (cell : ℕ) (key : Key) (what : Seen) (p q : PassSeen) (found : Found) (tasks : List (Task N)) → Works P tree p found tasks
      → Makes (publish p.team cell key) (not_free what) p q → Works P tree q found tasks
  works_not_free cell key what p q found tasks w m =
      kept (publish p.team cell key) (not_free what) p q found tasks w m refl tt (not_free_hand cell key what p q m)

  pub works_spent : (cell : ℕ) (key : Key) (p q : PassSeen) (found : Found) (tasks : List (Task N)) → Works P tree p found tasks
      → Makes (publish p.team cell key) spent p q → Works P tree q found tasks
  works_spent cell key p q found tasks w m = kept (publish p.team cell key) spent p q found tasks w m refl tt (spent_hand cell key p q m)

  -- ---- calls that move a branch

  -- A branch that is published is no task of the team any more.
  pub works_published : (cell : ℕ) (b : Held) (p q : PassSeen) (found : Found) (tasks : List (Task N)) → Works P tree p found (One b ∷ tasks)
      → Makes (publish p.team cell b.key) done p q → Works P tree q found tasks
  works_published cell b p q found tasks w m = record {
    has = has_published P tree b tasks cell p q m w.has;
    tells = tells_passed P.program tree.about.limit (publish p.team cell b.key) done p q found w.tells m refl tt;
  }

  -- A branch that is claimed is one task more.
  pub works_taken : (cell serial : ℕ) (b : Held) (p q : PassSeen) (found : Found) (tasks : List (Task N)) → Works P tree p found tasks
      → StandsWithin P tree.about.limit b → Takes cell serial b.key p q → Works P tree q found (One b ∷ tasks)
  works_taken cell serial b p q found tasks w stands t =
      let m : PassSeen = t.between in record {
        has = has_taken P tree b tasks cell serial p q t stands w.has;
        tells = tells_passed P.program tree.about.limit (clear p.team cell) cleared m q found
            (tells_passed P.program tree.about.limit (claim p.team cell serial) (taken b.key) p m found w.tells t.claims refl tt) t.clears
            (sym t.claims.team) tt;
      }

  -- A branch that was handed back is the one that was given.
  pub works_back : (p : PassSeen) (found : Found) (tasks : List (Task N)) (given back : PlacedBranch N) → back ≡ given
      → Works P tree p found (One given.branch ∷ tasks) → Works P tree p found (One back.branch ∷ tasks)
  works_back p found tasks given back same w = subst (λ (x : PlacedBranch N). Works P tree p found (One x.branch ∷ tasks)) (sym same) w

  -- ---- what is put on top, and what is taken out

  -- The team has other tasks, and made no call.
  pub works_still : (p q : PassSeen) (found told : Found) (tasks others : List (Task N)) → Works P tree p found tasks → q ≡ p → told ≡ found
      → Has P tree q others → Works P tree q told others
  works_still p q found told tasks others w same kept_found h = record {
    has = h;
    tells = subst (λ (r : PassSeen). Tells P.program tree.about.limit r told) (sym same)
        (subst (λ f. Tells P.program tree.about.limit p f) (sym kept_found) w.tells);
  }

  -- A task that was put on top is one of the others.
  pub has_put : (p q : PassSeen) (x : Task N) (tasks after : List (Task N)) → Has P tree p (x ∷ tasks)
      → (q ≡ p) × (after ≡ tasks ++ x ∷ []) → Has P tree q after
  has_put p q x tasks after h (same, put) =
      subst (λ ts. Has P tree q ts) (sym put)
      (subst (λ (r : PassSeen). Has P tree r (tasks ++ x ∷ [])) (sym same) (has_pushed P tree p tasks x h))

  pub works_put : (p q : PassSeen) (found told : Found) (x : Task N) (tasks after : List (Task N)) → Works P tree p found (x ∷ tasks)
      → told ≡ found → (q ≡ p) × (after ≡ tasks ++ x ∷ []) → Works P tree q told after
  works_put p q found told x tasks after w kept_found put =
      works_still p q found told (x ∷ tasks) after w put.0 kept_found (has_put p q x tasks after w.has put)

  -- So is one that was put below all others.
  pub has_put_below : (p q : PassSeen) (xs : List (Task N)) (after : List (Task N)) → Has P tree p xs → (q ≡ p) × (after ≡ xs) → Has P tree q after
  has_put_below p q xs after h (same, put) =
      subst (λ ts. Has P tree q ts) (sym put) (subst (λ (r : PassSeen). Has P tree r xs) (sym same) h)

  pub at_work_below : (p q : PassSeen) (found told : Found) (b : Held) (tasks after : List (Task N)) (below now : Option Held)
      → Works P tree p found (One b ∷ tasks) → AreServed below tasks → told ≡ found → now ≡ below
      → (q ≡ p) × (after ≡ One b ∷ tasks) → IsAtWork P tree q told after now
  at_work_below p q found told b tasks after below now w s kept_found kept_left put = record {
    works = works_still p q found told (One b ∷ tasks) after w put.0 kept_found (has_put_below p q (One b ∷ tasks) after w.has put);
    served = subst (λ (o : Option Held). AreServed o after) (sym kept_left)
        (subst (λ (ts : List (Task N)). AreServed below ts) (sym put.1) s);
  }

  -- Where it could not be put, it was given up.
  pub has_given : (p q : PassSeen) (x : Task N) (tasks after : List (Task N)) → Has P tree p (x ∷ tasks)
      → (after ≡ tasks) × ((others : List (Task N)) → Has P tree p (x ∷ others) → Has P tree q others) → Has P tree q after
  has_given p q x tasks after h (same, given) = subst (λ ts. Has P tree q ts) (sym same) (given tasks h)

  -- The branch behind it is in hand still.
  pub has_behind_given : (p q : PassSeen) (x y : Task N) (tasks after : List (Task N)) → Has P tree p (x ∷ y ∷ tasks)
      → (after ≡ tasks) × ((others : List (Task N)) → Has P tree p (x ∷ others) → Has P tree q others) → Has P tree q (y ∷ after)
  has_behind_given p q x y tasks after h (same, given) = subst (λ ts. Has P tree q (y ∷ ts)) (sym same) (given (y ∷ tasks) h)

  pub has_either : {A E : Type 0} (r : Result A E) (p q : PassSeen) (x : Task N) (tasks after : List (Task N)) → Has P tree p (x ∷ tasks)
      → OnOk r ((q ≡ p) × (after ≡ tasks ++ x ∷ []))
      → OnErr r ((after ≡ tasks) × ((others : List (Task N)) → Has P tree p (x ∷ others) → Has P tree q others)) → Has P tree q after
  has_either (Ok y) p q x tasks after h put given = has_put p q x tasks after h put
  has_either (Err e) p q x tasks after h put given = has_given p q x tasks after h given

  pub has_either_below : {A E : Type 0} (r : Result A E) (p q : PassSeen) (x : Task N) (tasks after : List (Task N)) → Has P tree p (x ∷ tasks)
      → OnOk r ((q ≡ p) × (after ≡ x ∷ tasks))
      → OnErr r ((after ≡ tasks) × ((others : List (Task N)) → Has P tree p (x ∷ others) → Has P tree q others)) → Has P tree q after
  has_either_below (Ok y) p q x tasks after h put given = has_put_below p q (x ∷ tasks) after h put
  has_either_below (Err e) p q x tasks after h put given = has_given p q x tasks after h given
