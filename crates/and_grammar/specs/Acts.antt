-- What is left to do of a body, over bodies, and what comes of it.
use Rattle.std.specs.Prelude.{ℕ, suc, ◌+◌, ◌-◌, ◌*◌, ◌<◌, ◌≤◌, ◌≡◌, Bool, cond, List, [], ◌∷◌, ◌++◌, map, length}
use Rattle.std.specs.Prelude.{take, drop, codes}
use Rattle.and_syntax.specs.Written.{Written, compound, none, more, nodes_of}
use Rattle.and_translation.specs.Bodies.{Body, Alternatives, behind_first, alternatives}
use Rattle.and_translation.specs.Translation.{Walk, state, equation, joined, walk, choose}
use Rattle.and_drafts.specs.Drafts.{draft_of}
use Rattle.and_drafts.specs.declared.draft.ClauseDraft.{ClauseDraft}
use Rattle.and_grammar.specs.Views.{term_at, body_at}
use Rattle.and_grammar.specs.declared.threading.Task.{Task}
use Rattle.and_grammar.specs.declared.threading.Task.TheVariants as tasks
use Rattle.and_grammar.specs.declared.threading.Threaded.{Threaded}

-- Something left to do: a body, the others of some alternatives from a state into one, the end of an alternative, two
-- alternatives that are joined, or the end of a disjunction before which so many goals stand.
pub data Act : Type 0 where
  body : Body → Act
  others : Alternatives → ℕ → ℕ → Act
  ends : ℕ → Act
  join : Act
  resume : ℕ → Act

-- what a task stands for
abbrev pub act_of : ClauseDraft → Task → Act
act_of d (tasks.Body place first) = body (cond first (behind_first (body_at d place)) (body_at d place))
act_of d (tasks.Others place from into) = others (alternatives (body_at d place)) from into
act_of d (tasks.EndAlternative into) = ends into
act_of d tasks.Join = join
act_of d (tasks.EndDisjunction goals) = resume goals

-- A body as far as it is translated: terms that are finished below, the goals of the body or alternative that is at
-- work, its state, and the next new variable.
pub record Stand : Type 0 where
  pub below : List Written
  pub goals : List Written
  pub state : ℕ
  pub next : ℕ

-- the last two terms are alternatives of one disjunction
abbrev pub two_joined : List Written → List Written
two_joined [] = []
two_joined (u ∷ []) = u ∷ []
two_joined (u ∷ v ∷ []) = compound (codes ";") (more u (more v none)) ∷ []
two_joined (u ∷ v ∷ w ∷ ws) = u ∷ two_joined (v ∷ w ∷ ws)

-- all its terms
abbrev pub whole : Stand → List Written
whole s = s.below ++ s.goals

-- one act done
abbrev pub done : Act → Stand → Stand
done (body b) s = let w =
    walk b s.state s.next in record { below = s.below; goals = s.goals ++ w.goals; state = w.behind; next = w.next }
done (others b from into) s = let c =
    choose b from into s.next in record { below = whole s ++ c.goal ∷ []; goals = []; state = into; next = c.next }
done (ends into) s = record {
  below = s.below ++ joined (s.goals ++ equation (state into) (state s.state) ∷ []) ∷ [];
  goals = [];
  state = into;
  next = s.next;
}
done join s = record { below = two_joined (whole s); goals = []; state = s.state; next = s.next }
done (resume n) s =
    let kept = length (whole s) - suc n in record {
      below = take kept (whole s);
      goals = drop kept (whole s);
      state = s.state;
      next = s.next;
    }

abbrev pub all_done : List Act → Stand → Stand
all_done [] s = s
all_done (a ∷ todo) s = all_done todo (done a s)

-- there are enough terms below for what is left to do, where there are k now
abbrev pub AreBelow : List Act → ℕ → Type 0
AreBelow [] k = Unit {0}
AreBelow (body b ∷ todo) k = AreBelow todo k
AreBelow (others b from into ∷ todo) k = AreBelow todo (suc k)
AreBelow (ends into ∷ todo) k = AreBelow todo (suc k)
AreBelow (join ∷ todo) k = (2 ≤ k) × AreBelow todo (k - 1)
AreBelow (resume n ∷ todo) k = (suc n ≤ k) × AreBelow todo (k - suc n)

-- a body of the code as far as it is translated
abbrev pub stand_of : Threaded → Stand
stand_of t =
    let ws = (draft_of t.out).finished in
    let kept = length ws - t.goals in
    record { below = take kept ws; goals = drop kept ws; state = t.state; next = t.next }

abbrev pub acts_of : ClauseDraft → List Task → List Act
acts_of d todo = map (act_of d) todo

-- a task is of the draft's parts
abbrev pub IsTaskWithin : ClauseDraft → Task → Type 0
IsTaskWithin d (tasks.Body place first) = place < (draft_of d).parts
IsTaskWithin d (tasks.Others place from into) = place < (draft_of d).parts
IsTaskWithin d (tasks.EndAlternative into) = Unit {0}
IsTaskWithin d tasks.Join = Unit {0}
IsTaskWithin d (tasks.EndDisjunction goals) = Unit {0}

abbrev pub AreTasksWithin : ClauseDraft → List Task → Type 0
AreTasksWithin d [] = Unit {0}
AreTasksWithin d (t ∷ todo) = IsTaskWithin d t × AreTasksWithin d todo

-- how much is left to do
abbrev pub effort : ClauseDraft → Task → ℕ
effort d (tasks.Body place first) = 8 * nodes_of (term_at d place)
effort d (tasks.Others place from into) = 8 * nodes_of (term_at d place) + 4
effort d (tasks.EndAlternative into) = 1
effort d tasks.Join = 1
effort d (tasks.EndDisjunction goals) = 1

abbrev pub efforts : ClauseDraft → List Task → ℕ
efforts d [] = 0
efforts d (t ∷ todo) = effort d t + efforts d todo

-- A body stands so now.
pub record Makes (old new : Threaded) (s : Stand) : Type 0 where
  pub line : (draft_of new.out).line ≡ (draft_of old.out).line
  pub stand : stand_of new ≡ s
  pub counted : new.goals ≤ length (draft_of new.out).finished

-- A step: in the end it comes to the same, and less is left to do.
pub record Steps (d : ClauseDraft) (before after : List Task) (old new : Threaded) : Type 0 where
  pub line : (draft_of new.out).line ≡ (draft_of old.out).line
  pub same : all_done (acts_of d after) (stand_of new) ≡ all_done (acts_of d before) (stand_of old)
  pub counted : new.goals ≤ length (draft_of new.out).finished
  pub below : AreBelow (acts_of d after) (length (stand_of new).below)
  pub within : AreTasksWithin d before → AreTasksWithin d after
  pub less : efforts d after < efforts d before

-- The others of some alternatives are one alternative, or one before others: in the end it comes to the same from any
-- stand without goals in the state that they begin in.
pub record Splits (d : ClauseDraft) (before after : List Task) (from : ℕ) : Type 0 where
  pub same : (s : Stand) → all_done (acts_of d after)
      (record { below = whole s; goals = []; state = from; next = s.next })
      ≡ all_done (acts_of d before) s
  pub below : (k : ℕ) → AreBelow (acts_of d before) k → AreBelow (acts_of d after) k
  pub within : AreTasksWithin d before → AreTasksWithin d after
  pub less : efforts d after < efforts d before
