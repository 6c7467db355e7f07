-- A branch in hand: how it comes to be there, goes on, ends and is forked, above a stack that it will serve.
use Rattle.std.proofs.Common.{ℕ, ◌≡◌, ◌≢◌, ◌≤◌, inl, inr, List, [], ◌∷◌, ◌++◌, length, take, Option, Some, None, refl, sym, ap, subst, arith, Vec}
use Rattle.std.specs.declared.alloc.Global.{Global}
use Rattle.and_model.specs.Prefixes.{IsPrefix}
use Rattle.and_model.specs.Trees.{QueryTree}
use Rattle.and_cells.specs.Ranges.{NamedProgram}
use Rattle.and_branch.specs.Branches.{Held, IsBranchOf, SameKey}
use Rattle.and_branch.specs.Children.{Fork, IsChild}
use Rattle.and_branch.specs.Origins.{GoesBack, KeepsBack}
use Rattle.and_code.specs.Telling.{IsTold, left_of}
use Rattle.and_reduction.specs.Trails.{Noted}
use Rattle.and_code.specs.declared.telling.CodeSoFar.{CodeSoFar}
use Rattle.and_tree.specs.Passes.{TreeId, PassSeen}
use Rattle.and_answers.specs.declared.found.Found.{Found}
use Rattle.and_answers.specs.Kept.{last_code_or, listed}
use Rattle.and_answers.specs.Tails.{BeginAlike}
use Rattle.and_model.specs.Listing.{Entry}
use Rattle.and_answers.proofs.AlikeLemmas.{none_alike, whole_alike, longer_alike, shorter_alike}
use Rattle.and_tasks.specs.Working.{AreToCome, Has, Works, AreServed, IsServed, Serves, IsAtWork, IsLeftInHand, IsReady, Shares, LeftShares}
use Rattle.and_tasks.specs.Working.{as_told, at_fork, forked}
use Rattle.and_tasks.specs.declared.stack.Hand.{Hand}
use Rattle.and_tasks.specs.declared.stack.Level.{Level}
use Rattle.and_tasks.specs.declared.stack.Task.{Task}
use Rattle.and_tasks.specs.declared.stack.Task.TheVariants.{One, Children, Left}
use Rattle.and_tasks.proofs.Serving.{back_keyed, back_unkeyed, served_off, served_put, served_alone, served_kept, served_keyed}
use Rattle.and_tasks.proofs.ToldKeys.{told_anew, told_kept, begins_key, begins_same, child_told, key_told, last_served, child_served}
use Rattle.and_tasks.proofs.Having.{has_unleft, has_pushed, has_swapped, last_parted, rest_parted}
use Rattle.and_tasks.proofs.Sharing.{works_put}
use Rattle.and_tasks.proofs.Turns.{works_popped, works_stepped, works_kept, has_second_on_top}

-- What could be had again can be, whatever the keys are.
keeps_keyed : (b d : Held) (one two : List ℕ) → KeepsBack b d → KeepsBack (record b { key = one }) (record d { key = two })
keeps_keyed b d one two keeps = record {
  mark = keeps.mark;
  again = λ first x. back_keyed first d two (keeps.again first (back_unkeyed first b one x));
  made = keeps.made;
  grows = keeps.grows;
}

-- What is noted of its row is of no account to what a branch stands for.
other_trail : (P : NamedProgram) (b : Held) (noted : Noted) (t : QueryTree P.program) → IsBranchOf P b t
    → IsBranchOf P (record b { trail = noted }) t
other_trail P b noted t x = record {
  made = x.made;
  reached = x.reached;
  bounded = x.bounded;
  used = x.used;
  state = elim x.state [
    | inl dead ↦ inl dead
    | inr l ↦ inr (record { kept = l.kept; keeps = l.keeps; goals = l.goals; long = l.long; live = l.live; asleep = l.asleep })
  ];
}

module _ {N : Type 0} where
  -- What is left of a branch in hand serves the stack,
  pub ended_served : (h : Hand N) (stack : List (Task N)) → AreServed (Some (as_told h)) stack → AreServed (Some h.branch) stack
  ended_served h stack s = served_keyed h.branch (take h.told.length h.branch.key) h.branch.key stack (begins_key h.told.length h.branch.key) s

  -- and so does the branch, where it was forked.
  pub forked_served : (h : Hand N) (f : Fork) (stack : List (Task N)) → f.parent ≡ h.branch → IsPrefix (take h.told.length h.branch.key) f.longer
      → AreServed (Some (as_told h)) stack → AreServed (Some (at_fork f)) stack
  forked_served h f stack is begins s =
      subst (λ (d : Held). AreServed (Some (record d { key = f.longer })) stack) (sym is)
      (served_keyed h.branch (take h.told.length h.branch.key) f.longer stack begins s)

-- ---- what the next answer has from the last one

-- Only the entries are of account.
pub shares_still : (old new : Found) (common : ℕ) (key : List ℕ) → listed new ≡ listed old → Shares old common key → Shares new common key
shares_still old new common key same s = subst (λ (es : List Entry). BeginAlike (last_code_or [] es) key common) (sym same) s

-- A key that was told is the last code, all of it.
pub told_shares : (found : Found) (key : List ℕ) (n : ℕ) → last_code_or [] (listed found) ≡ key → n ≡ length key → Shares found n key
told_shares found key n last long = subst (λ (m : ℕ). Shares found m key) (sym long) (whole_alike _ key last)

-- Where nothing is left, nothing is asked.
pub none_shares : (found : Found) (common : ℕ) (left : Option Held) → left ≡ None → LeftShares found common left
none_shares found common left none = subst (λ (o : Option Held). LeftShares found common o) (sym none) tt

-- What is left has the key of the branch in hand, as far as it was told,
pub ended_shares : {N : Type 0} (old new : Found) (h : Hand N) → listed new ≡ listed old → Shares old h.common (as_told h).key
    → Shares new h.common h.branch.key
ended_shares old new h same s =
    shares_still old new h.common h.branch.key same
    (longer_alike _ (take h.told.length h.branch.key) h.branch.key h.common (begins_key h.told.length h.branch.key) s)

-- or what was decided in it.
pub forked_shares : {N : Type 0} (found : Found) (h : Hand N) (f : Fork) (left : Held) → left.key ≡ f.longer
    → IsPrefix (take h.told.length h.branch.key) f.longer → Shares found h.common (as_told h).key → Shares found h.common left.key
forked_shares found h f left key begins s =
    subst (λ (k : List ℕ). Shares found h.common k) (sym key) (longer_alike _ (take h.told.length h.branch.key) f.longer h.common begins s)

-- A fork is of the branch that was in hand.
pub told_fork : (P : NamedProgram) (b : Held) (f : Fork) (t : CodeSoFar) → f.parent ≡ b → IsTold P.program b.reductions t f.longer
    → IsTold P.program f.parent.reductions t f.longer
told_fork P b f t is told = subst (λ (d : Held). IsTold P.program d.reductions t f.longer) (sym is) told

pub back_fork : (b left : Held) (f : Fork) → f.parent ≡ b → GoesBack b left → GoesBack f.parent left
back_fork b left f is back = subst (λ (d : Held). GoesBack d left) (sym is) back

module _ {N : Type 0} (P : NamedProgram) (tree : TreeId) (pass : PassSeen) (found : Found) where
  -- A branch in hand has ended, and what is left of it serves the stack.
  pub left_at_work : (h : Hand N) (u v : Vec (Task N) Global) → v ≡ u → AreServed (Some (as_told h)) u.items → Works P tree pass found v.items
      → IsAtWork P tree pass found v.items (Some h.branch)
  left_at_work h u v same s w = record {
    works = w;
    served = ended_served h v.items (subst (λ (x : Vec (Task N) Global). AreServed (Some (as_told h)) x.items) (sym same) s);
  }

  -- It has ended and was told, and its key was told on to the end.
  pub told_at_work : (q : PassSeen) (new : Found) (h : Hand N) (left : Held) (u v : Vec (Task N) Global) → v ≡ u → q ≡ pass
      → left ≡ record h.branch { key = left.key } → IsPrefix (as_told h).key left.key → AreServed (Some (as_told h)) u.items
      → Works P tree pass new u.items → IsAtWork P tree q new v.items (Some left)
  told_at_work q new h left u v same same_pass is longer s w =
      let served : AreServed (Some left) u.items = subst (λ (b : Held). AreServed (Some b) u.items) (sym is)
      (served_keyed h.branch (take h.told.length h.branch.key) left.key u.items longer s) in
      let now : IsAtWork P tree pass new u.items (Some left) = record { works = w; served = served } in
      subst (λ (p : PassSeen). IsAtWork P tree p new v.items (Some left)) (sym same_pass)
      (subst (λ (x : Vec (Task N) Global). IsAtWork P tree pass new x.items (Some left)) (sym same) now)

  -- What was left of a branch is no task that has a key.
  pub works_unleft : (b : Held) (tasks : List (Task N)) → Works P tree pass found (Left b ∷ tasks) → Works P tree pass found tasks
  works_unleft b tasks w = record { has = has_unleft P tree pass b tasks w.has; tells = w.tells }

  pub has_left_put : (b c : Held) (tasks after : List (Task N)) → after ≡ tasks ++ Left c ∷ [] → Has P tree pass (One b ∷ tasks)
      → Has P tree pass (One b ∷ after)
  has_left_put b c tasks after is h =
      subst (λ (ts : List (Task N)). Has P tree pass (One b ∷ ts)) (sym is)
      (has_pushed P tree pass (One b ∷ tasks) (Left c)
      (record { of_tree = h.of_tree; hand = h.hand; tasks_are = (tt, h.tasks_are) }))

  -- A branch on top comes to hand, of whose key nothing is told.
  pub ready_popped : (stack rest : List (Task N)) (left : Option Held) (b : Held) (t : CodeSoFar) → IsAtWork P tree pass found stack left
      → stack ≡ rest ++ One b ∷ [] → IsTold P.program [] t [] → t.length ≡ 0 → IsReady P tree pass found rest (record { branch = b; told = t; common = 0 })
  ready_popped stack rest left b t w is told none = record {
    works = works_popped P tree pass found (One b) rest stack w.works is;
    told = told_anew P b.reductions t b.key none told;
    served = served_alone (Some (as_told {N = N} (record { branch = b; told = t; common = 0 }))) rest
        (served_off left rest (One b) (subst (λ (ts : List (Task N)). AreServed left ts) is w.served)).0;
    shares = none_alike _ _;
  }

  -- What was left of a branch serves the stack again.
  pub left_popped : (stack rest : List (Task N)) (left : Option Held) (b : Held) → IsAtWork P tree pass found stack left
      → stack ≡ rest ++ Left b ∷ [] → IsAtWork P tree pass found rest (Some b)
  left_popped stack rest left b w is = record {
    works = works_unleft b rest (works_popped P tree pass found (Left b) rest stack w.works is);
    served = (served_off left rest (Left b) (subst (λ (ts : List (Task N)). AreServed left ts) is w.served)).0;
  }

  -- The branch in hand went on by Steps under its key,
  pub ready_on : (stack : List (Task N)) (h : Hand N) (d : Held) → IsReady P tree pass found stack h → SameKey h.branch d
      → ((t : QueryTree P.program) → IsBranchOf P h.branch t → (u : QueryTree P.program) × IsBranchOf P d u) → KeepsBack h.branch d
      → IsReady P tree pass found stack (record { branch = d; told = h.told; common = h.common })
  ready_on stack h d r same steps keeps =
      let n : ℕ = h.told.length in record {
        works = works_stepped P tree pass found h.branch d stack r.works same steps;
        told = told_kept P h.branch d h.told same keeps r.told;
        served = served_kept (as_told h) (record d { key = take n d.key }) stack
            (keeps_keyed h.branch d (take n h.branch.key) (take n d.key) keeps)
            (begins_same (take n h.branch.key) (take n d.key) (ap (λ (key : List ℕ). take n key) same.key)) r.served;
        shares = subst (λ (key : List ℕ). Shares found h.common (take n key)) (sym same.key) r.shares;
      }

  -- (what the team has is the same)
  pub ready_still : (q : PassSeen) (new : Found) (u v : Vec (Task N) Global) (h : Hand N) → q ≡ pass → new ≡ found → v ≡ u
      → IsReady P tree pass found u.items h → IsReady P tree q new v.items h
  ready_still q new u v h same_pass kept same r =
      subst (λ (p : PassSeen). IsReady P tree p new v.items h) (sym same_pass)
      (subst (λ (f : Found). IsReady P tree pass f v.items h) (sym kept)
      (subst (λ (w : Vec (Task N) Global). IsReady P tree pass found w.items h) (sym same) r))

  -- or one of a row of its own did.
  pub ready_alone : (stack : List (Task N)) (b d : Held) (t : CodeSoFar) → Works P tree pass found (One b ∷ stack) → AreServed None stack
      → SameKey b d → ((u : QueryTree P.program) → IsBranchOf P b u → (v : QueryTree P.program) × IsBranchOf P d v)
      → IsTold P.program [] t [] → t.length ≡ 0 → IsReady P tree pass found stack (record { branch = d; told = t; common = 0 })
  ready_alone stack b d t w s same steps told none = record {
    works = works_stepped P tree pass found b d stack w same steps;
    told = told_anew P d.reductions t d.key none told;
    served = served_alone (Some (as_told {N = N} (record { branch = d; told = t; common = 0 }))) stack s;
    shares = none_alike _ _;
  }

  -- What was decided in a fork begins as the last code does, as far as what is left above it does.
  pub child_shares : (l : Level N) (left : Held) (stack : List (Task N)) (common least : ℕ) → Works P tree pass found (Children l ∷ stack)
      → Serves l left → Shares found common left.key → least ≤ common → least ≤ l.told.length → Shares found least l.point.longer
  child_shares l left stack common least w serves shares less inside =
      let long = w.has.tasks_are.0.long in
      shorter_alike _ l.point.longer left.key common least less (omega (arith, inside, long)) serves.begins shares

  -- The last child of a fork comes to hand,
  pub last_ready : (l : Level N) (g : Fork) (b : Held) (stack : List (Task N)) (common : ℕ) → Works P tree pass found (Children l ∷ stack)
      → IsChild P l.point g b → length l.point.clauses ≡ 1 → KeepsBack l.point.parent b → AreServed (Some (forked l)) stack
      → Shares found common l.point.longer → IsReady P tree pass found stack (record { branch = b; told = l.told; common = common })
  last_ready l g b stack common w is one keeps s shares =
      let x : AreToCome P tree.about.limit l = w.has.tasks_are.0 in record {
        works = record { has = last_parted P tree l g b stack pass is one w.has; tells = w.tells };
        told = child_told P l.point g b l.told l.told is x.long refl keeps.made refl x.told keeps.grows;
        served = last_served P l.point g b l.told l.told is x.long refl l refl common stack keeps s;
        shares = subst (λ (key : List ℕ). Shares found common key) (sym (key_told P l.point g b l.told l.told is x.long refl)) shares;
      }

  -- (behind the next of several others come)
  pub some_more : (l m : Level N) (b : Held) → IsChild P l.point m.point b → length l.point.clauses ≢ 1 → m.point.clauses ≢ []
  some_more l m b is more none =
      let whole = ap (λ (cs : List ℕ). length cs) is.next in
      let left = ap (λ (cs : List ℕ). length cs) none in
      more (omega (arith, whole, left))

  pub another_parted : (l m : Level N) (b : Held) (stack : List (Task N)) → Works P tree pass found (Children l ∷ stack)
      → IsChild P l.point m.point b → length l.point.clauses ≢ 1 → m ≡ record l { point = m.point }
      → Has P tree pass (Children m ∷ One b ∷ stack)
  another_parted l m b stack w is more same = rest_parted P tree l m b stack pass is same (some_more l m b is more) w.has

  -- and so does the next one, where others come behind it.
  pub another_ready : (q : PassSeen) (new : Found) (l m : Level N) (b : Held) (t : CodeSoFar) (common : ℕ) (stack after : List (Task N))
      → Works P tree pass found (Children l ∷ stack) → IsChild P l.point m.point b → length l.point.clauses ≢ 1
      → m ≡ record l { point = m.point } → t.length ≡ l.told.length → left_of t ≡ left_of l.told → GoesBack l.point.parent b
      → AreServed (Some (forked l)) stack → Shares found common l.point.longer → new ≡ found
      → (q ≡ pass) × (after ≡ stack ++ Children m ∷ []) → IsReady P tree q new after (record { branch = b; told = t; common = common })
  another_ready q new l m b t common stack after w is more same long left back s shares kept (same_pass, put) =
      let x : AreToCome P tree.about.limit l = w.has.tasks_are.0 in
      let has : Has P tree pass (One b ∷ after) =
      has_second_on_top P tree pass (One b) (Children m) stack after
      (has_swapped P tree pass (Children m) (One b) stack (another_parted l m b stack w is more same)) put in record {
        works = works_kept P tree pass q found new (Children l ∷ stack) (One b ∷ after) same_pass kept w
            (subst (λ (r : PassSeen). Has P tree r (One b ∷ after)) (sym same_pass) has);
        told = child_told P l.point m.point b l.told t is x.long long back.made left x.told back.reductions;
        served = subst (λ (ts : List (Task N)). AreServed (Some (as_told {N = N} (record { branch = b; told = t; common = common }))) ts) (sym put)
            (child_served P l.point m.point b l.told t is x.long long l refl common stack m refl back s);
        shares = subst (λ (f : Found). Shares f common (take t.length b.key)) (sym kept)
            (subst (λ (key : List ℕ). Shares found common key) (sym (key_told P l.point m.point b l.told t is x.long long)) shares);
      }

  -- The branch with a row of its own, above what is left of the one that was copied.
  pub own_works : (h : Hand N) (own : Held) (noted : Noted) (stack after : List (Task N)) → IsReady P tree pass found stack h
      → own ≡ record h.branch { trail = noted } → after ≡ stack ++ Left h.branch ∷ []
      → Works P tree pass found (One own ∷ after) × AreServed None after
  own_works h own noted stack after r is put =
      let b : Held = h.branch in
      let stands = r.works.has.tasks_are.0 in
      let copied : Works P tree pass found (One own ∷ stack) =
      works_stepped P tree pass found b own stack r.works
      (record { key = ap (λ (d : Held). d.key) is; limit = ap (λ (d : Held). d.limit) is })
      (λ t x. (t, subst (λ (d : Held). IsBranchOf P d t) (sym is) (other_trail P b noted t x))) in (
        record {
          has = has_left_put own b stack after put copied.has;
          tells = copied.tells;
        },
        subst (λ (ts : List (Task N)). AreServed None ts) (sym put) (served_put None stack (Left b) (ended_served h stack r.served) tt),
      )

  -- A fork was put on the stack, and what is left of the branch that was forked serves it.
  pub fork_at_work : (q : PassSeen) (new : Found) (l : Level N) (left now : Option Held) (stack after : List (Task N))
      → Works P tree pass found (Children l ∷ stack) → IsServed l left → AreServed (Some (forked l)) stack → new ≡ found → now ≡ left
      → (q ≡ pass) × (after ≡ stack ++ Children l ∷ []) → IsAtWork P tree q new after now
  fork_at_work q new l left now stack after w here below kept is put = record {
    works = works_put P tree pass q found new (Children l) stack after w kept put;
    served = subst (λ (o : Option Held). AreServed o after) (sym is)
        (subst (λ (ts : List (Task N)). AreServed left ts) (sym put.1) (served_put left stack (Children l) below (here, tt)));
  }

  -- What is left in hand was put by.
  pub at_work_by : (q : PassSeen) (new : Found) (u v : Vec (Task N) Global) (h : Hand N) (left : Option Held) → q ≡ pass → new ≡ found → v ≡ u
      → left ≡ Some h.branch → IsLeftInHand P tree pass found u.items h → IsAtWork P tree q new v.items left
  at_work_by q new u v h left same_pass kept same is x =
      subst (λ (o : Option Held). IsAtWork P tree q new v.items o) (sym is)
      (subst (λ (p : PassSeen). IsAtWork P tree p new v.items (Some h.branch)) (sym same_pass)
      (subst (λ (f : Found). IsAtWork P tree pass f v.items (Some h.branch)) (sym kept)
      (subst (λ (w : Vec (Task N) Global). IsAtWork P tree pass found w.items (Some h.branch)) (sym same) x.at_work)))
