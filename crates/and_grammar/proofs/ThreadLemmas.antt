-- Tasks and what they make of a body of the code.
use Rattle.std.proofs.Common.{ℕ, suc, ◌+◌, ◌-◌, ◌<◌, ◌≤◌, ◌≡◌, Bool, true, false, cond, List, [], ◌∷◌, ◌++◌, length, take, drop, reverse}
use Rattle.std.proofs.Common.{codes, refl, sym, ap, ◌∙◌, arith, subst}
use Rattle.std.proofs.lemmas.List.{append-nil, reverse-append, length-append, take-append-drop, length-take-le, length-drop, take-append-le}
use Rattle.std.proofs.lemmas.List.{drop-append-le}
use Rattle.std.proofs.Math.Seq.{take-length}
use Rattle.and_syntax.specs.Written.{Written, compound}
use Rattle.and_translation.specs.Bodies.{Body, Alternatives, nothing, terminals, goals, both, either, last, or, behind_first, alternatives}
use Rattle.and_translation.specs.Translation.{Walk, state, equation, list_before, walk}
use Rattle.and_drafts.specs.Parts.{many}
use Rattle.and_drafts.specs.Drafts.{Draft, draft_of}
use Rattle.and_drafts.specs.declared.draft.ClauseDraft.{ClauseDraft}
use Rattle.and_grammar.specs.declared.bodies.BodyPart.TheVariants.{Both, Either}
use Rattle.and_grammar.specs.declared.threading.Task.{Task}
use Rattle.and_grammar.specs.declared.threading.Task.TheVariants as tasks
use Rattle.and_grammar.specs.declared.threading.Threaded.{Threaded}
use Rattle.and_grammar.specs.Views.{body_at, IsBody, Becomes}
use Rattle.and_grammar.specs.Acts.{Act, body, others, ends, join, resume, act_of, acts_of, Stand, whole, done, all_done, two_joined, AreBelow, stand_of}
use Rattle.and_grammar.specs.Acts.{effort, Makes, Steps, Splits}
use Rattle.and_grammar.proofs.Standing.{two_joined-is, stand, stand_same, disjunction_done, others_done, both_done, enough_below, below_done}
use Rattle.and_grammar.proofs.Looking.{nodes_some}
use Rattle.and_grammar.proofs.CopyLemmas.{split_there}

abbrev terms : Threaded → List Written
terms t = (draft_of t.out).finished

-- the terms of a body are those below and its goals
pub stand_whole : (t : Threaded) → whole (stand_of t) ≡ terms t
stand_whole t = take-append-drop (length (terms t) - t.goals) (terms t)

pub goals_counted : (t : Threaded) → t.goals ≤ length (terms t) → length (stand_of t).goals ≡ t.goals
goals_counted t le = omega (arith, length-drop (length (terms t) - t.goals) (terms t))

-- more goals are there
more_goals : (ws gs : List Written) (k m : ℕ) → k ≤ length ws → m ≡ k + length gs
    → (take (length (ws ++ gs) - m) (ws ++ gs) ≡ take (length ws - k) ws) × (drop (length (ws ++ gs) - m) (ws ++ gs) ≡ drop (length ws - k) ws ++ gs)
more_goals ws gs k m le e =
    let at : length (ws ++ gs) - m ≡ length ws - k = omega (arith, length-append ws gs) in (
      ap (λ (n : ℕ). take n (ws ++ gs)) at ∙ take-append-le (length ws - k) ws gs (omega arith),
      ap (λ (n : ℕ). drop n (ws ++ gs)) at ∙ drop-append-le (length ws - k) ws gs (omega arith),
    )

module _ (old new : Threaded) (counted : old.goals ≤ length (terms old)) (line : (draft_of new.out).line ≡ (draft_of old.out).line) where
  -- a body gave goals
  pub goals_made : (w : Walk) → terms new ≡ terms old ++ w.goals → new.goals ≡ old.goals + length w.goals → new.state ≡ w.behind → new.next ≡ w.next
      → Makes old new (stand (stand_of old).below ((stand_of old).goals ++ w.goals) w.behind w.next)
  goals_made w made number at next =
      let ws : List Written = terms old in
      let parts = more_goals ws w.goals old.goals new.goals counted number in
      let below : (stand_of new).below ≡ (stand_of old).below = ap (λ (vs : List Written). take (length vs - new.goals) vs) made ∙ parts.0 in
      let more : (stand_of new).goals ≡ (stand_of old).goals ++ w.goals = ap (λ (vs : List Written). drop (length vs - new.goals) vs) made ∙ parts.1 in
      record {
        line = line;
        stand = stand_same (stand_of new).below (stand_of old).below (stand_of new).goals ((stand_of old).goals ++ w.goals) new.state new.next below more
            ∙ ap (λ (s : ℕ). stand (stand_of old).below ((stand_of old).goals ++ w.goals) s new.next) at
            ∙ ap (λ (n : ℕ). stand (stand_of old).below ((stand_of old).goals ++ w.goals) w.behind n) next;
        counted = subst (λ (vs : List Written). new.goals ≤ length vs) (sym made) (omega (arith, length-append ws w.goals));
      }

  -- all terms are below
  pub all_below : (ws : List Written) (s n : ℕ) → terms new ≡ ws → new.goals ≡ 0 → new.state ≡ s → new.next ≡ n → Makes old new (stand ws [] s n)
  all_below ws s n made none at next =
      let kept : length (terms new) - new.goals ≡ length (terms new) = omega arith in
      let below : (stand_of new).below ≡ ws = ap (λ (k : ℕ). take k (terms new)) kept ∙ take-length (terms new) ∙ made in
      let no_goals : (stand_of new).goals ≡ [] = ap (λ (k : ℕ). drop k (terms new)) kept ∙ drop-all (terms new) in
      record {
        line = line;
        stand = stand_same (stand_of new).below ws (stand_of new).goals [] new.state new.next below no_goals
            ∙ ap (λ (k : ℕ). stand ws [] k new.next) at ∙ ap (λ (k : ℕ). stand ws [] s k) next;
        counted = omega arith;
      }
    where
      drop-all : (vs : List Written) → drop (length vs) vs ≡ []
      drop-all [] = refl
      drop-all (v ∷ vs) = drop-all vs

-- one goal more, and the same state
pub goal_made : (old new : Threaded) → old.goals ≤ length (terms old) → (draft_of new.out).line ≡ (draft_of old.out).line → (g : Written)
    → terms new ≡ terms old ++ g ∷ [] → new.goals ≡ old.goals + 1 → new.state ≡ old.state → new.next ≡ old.next
    → Makes old new (stand (stand_of old).below ((stand_of old).goals ++ g ∷ []) old.state old.next)
goal_made old new counted line g made number at next =
    goals_made old new counted line (record { goals = g ∷ []; behind = old.state; next = old.next }) made (omega (arith, number)) at next

-- one goal more, and a new state
pub next_made : (old new : Threaded) → old.goals ≤ length (terms old) → (draft_of new.out).line ≡ (draft_of old.out).line → (g : Written)
    → terms new ≡ terms old ++ g ∷ [] → new.goals ≡ old.goals + 1 → new.state ≡ old.next → new.next ≡ old.next + 1
    → Makes old new (stand (stand_of old).below ((stand_of old).goals ++ g ∷ []) old.next (suc old.next))
next_made old new counted line g made number at next =
    goals_made old new counted line (record { goals = g ∷ []; behind = old.next; next = suc old.next }) made (omega (arith, number)) at (omega (arith, next))

-- what goes without saying gives no goals
pub nothing_made : (t : Threaded) → t.goals ≤ length (terms t) → Makes t t (done (body nothing) (stand_of t))
nothing_made t le = goals_made t t le refl (walk nothing t.state t.next) (sym (append-nil (terms t))) (omega arith) refl refl

-- terminals that do not stand first
pub terminals_made : (old new : Threaded) (first : Bool) (items : List Written) → first ≡ false → old.goals ≤ length (terms old)
    → (draft_of new.out).line ≡ (draft_of old.out).line → terms new ≡ terms old ++ equation (state old.state) (list_before items (state old.next)) ∷ []
    → new.goals ≡ old.goals + 1 → new.state ≡ old.next → new.next ≡ old.next + 1
    → Makes old new (done (body (cond first nothing (terminals items))) (stand_of old))
terminals_made old new first items later counted line made number at next =
    subst (λ (f : Bool). Makes old new (done (body (cond f nothing (terminals items))) (stand_of old))) (sym later)
    (next_made old new counted line (equation (state old.state) (list_before items (state old.next))) made number at next)

pub terminals_left_out : (old : Threaded) (first : Bool) (items : List Written) → first ≡ true → old.goals ≤ length (terms old)
    → Makes old old (done (body (cond first nothing (terminals items))) (stand_of old))
terminals_left_out old first items now counted =
    subst (λ (f : Bool). Makes old old (done (body (cond f nothing (terminals items))) (stand_of old))) (sym now) (nothing_made old counted)

pub effort_some : (d : ClauseDraft) (t : Task) → 0 < effort d t
effort_some d (tasks.Body place first) = omega (arith, nodes_some d place)
effort_some d (tasks.Others place from into) = omega arith
effort_some d (tasks.EndAlternative into) = omega arith
effort_some d tasks.Join = omega arith
effort_some d (tasks.EndDisjunction n) = omega arith

module _ (d : ClauseDraft) (t : Task) (todo after : List Task) (old new : Threaded) (left : after ≡ todo)
    (below : AreBelow (acts_of d (t ∷ todo)) (length (stand_of old).below)) where
  -- a task was done at once
  pub step_done : Makes old new (done (act_of d t) (stand_of old)) → Steps d (t ∷ todo) after old new
  step_done m =
      subst (λ (ts : List Task). Steps d (t ∷ todo) ts old new) (sym left) (record {
        line = m.line;
        same = ap (all_done (acts_of d todo)) m.stand;
        counted = m.counted;
        below = subst (λ (s : Stand). AreBelow (acts_of d todo) (length s.below)) (sym m.stand) (below_done (act_of d t) (acts_of d todo) (stand_of old) below);
        within = λ h. h.1;
        less = omega (arith, effort_some d t);
      })

-- a body that is not taken apart is itself behind what stands first
pub first_same : (first : Bool) (b c : Body) → b ≡ c → behind_first c ≡ c → cond first (behind_first b) b ≡ c
first_same true b c e f = ap behind_first e ∙ f
first_same false b c e f = e

pub first_both : (first : Bool) (b x y : Body) → b ≡ both x y → cond first (behind_first b) b ≡ both (cond first (behind_first x) x) y
first_both true b x y e = ap behind_first e
first_both false b x y e = e

module _ (d : ClauseDraft) (place : ℕ) (first : Bool) (todo after : List Task) (old new : Threaded) (counted : old.goals ≤ length (terms old))
    (below : AreBelow (acts_of d todo) (length (stand_of old).below)) where
  -- what a body that is not taken apart makes
  pub body_done : (b : Body) → body_at d place ≡ b → behind_first b ≡ b → after ≡ todo → Makes old new (done (body b) (stand_of old))
      → Steps d (tasks.Body place first ∷ todo) after old new
  body_done b is whole_body left m =
      step_done d (tasks.Body place first) todo after old new left below
      (subst (λ (c : Body). Makes old new (done (body c) (stand_of old))) (sym (first_same first (body_at d place) b is whole_body)) m)

  -- terminals, which are left out where they are first
  pub terminals_done : (ts : List Written) → body_at d place ≡ terminals ts → after ≡ todo
      → Makes old new (done (body (cond first nothing (terminals ts))) (stand_of old))
      → Steps d (tasks.Body place first ∷ todo) after old new
  terminals_done ts is left m =
      step_done d (tasks.Body place first) todo after old new left below
      (subst (λ (c : Body). Makes old new (done (body c) (stand_of old))) (sym (by first)) m)
    where
      by : (f : Bool) → cond f (behind_first (body_at d place)) (body_at d place) ≡ cond f nothing (terminals ts)
      by true = ap behind_first is
      by false = is

  pub both_opened : (l r : ℕ) → IsBody d place (Both l r) (body_at d place) → after ≡ tasks.Body l first ∷ tasks.Body r false ∷ todo
      → Makes old new (stand_of old)
      → Steps d (tasks.Body place first ∷ todo) after old new
  both_opened l r is left m =
      let x : Body = cond first (behind_first (body_at d l)) (body_at d l) in
      let rest : List Act = acts_of d todo in
      subst (λ (ts : List Task). Steps d (tasks.Body place first ∷ todo) ts old new) (sym left) (record {
        line = m.line;
        same = ap (all_done (body x ∷ body (body_at d r) ∷ rest)) m.stand ∙ both_done x (body_at d r) (stand_of old) rest
            ∙ ap (λ (c : Body). all_done (body c ∷ rest) (stand_of old)) (sym (first_both first (body_at d place) (body_at d l) (body_at d r) is.0));
        counted = m.counted;
        below = subst (λ (s : Stand). AreBelow rest (length s.below)) (sym m.stand) below;
        within = λ h. (omega (arith, h.0, is.1.left), (omega (arith, h.0, is.1.right), h.1));
        less = omega (arith, is.1.smaller);
      })

  pub either_opened : (l r : ℕ) → IsBody d place (Either l r) (body_at d place)
      → after ≡ tasks.Body l false ∷ tasks.EndAlternative old.next ∷ tasks.Others r old.state old.next ∷ tasks.Join ∷ tasks.EndDisjunction old.goals ∷ todo
      → Makes old new (stand (terms old) [] old.state (suc old.next)) → Steps d (tasks.Body place first ∷ todo) after old new
  either_opened l r is left m =
      let a : Body = body_at d l in
      let b : Alternatives = alternatives (body_at d r) in
      let s : Stand = stand_of old in
      let rest : List Act = acts_of d todo in
      let front : ℕ → List Act = λ k. body a ∷ ends s.next ∷ others b s.state s.next ∷ join ∷ resume k ∷ rest in
      let enough : length s.below ≤ length (terms old) - old.goals = omega (arith, length-take-le (length (terms old) - old.goals) (terms old) (omega arith)) in
      let there : AreBelow (front old.goals) (length (terms old)) =
      (omega arith, (omega arith, enough_below rest (length s.below) (suc (suc (length (terms old))) - 1 - suc old.goals) below (omega arith))) in
      subst (λ (ts : List Task). Steps d (tasks.Body place first ∷ todo) ts old new) (sym left) (record {
        line = m.line;
        same = ap (all_done (front old.goals)) m.stand
            ∙ ap (λ (ws : List Written). all_done (front old.goals) (stand ws [] s.state (suc s.next))) (sym (stand_whole old))
            ∙ ap (λ (k : ℕ). all_done (front k) (stand (whole s) [] s.state (suc s.next))) (sym (goals_counted old counted))
            ∙ disjunction_done a b s rest
            ∙ ap (λ (c : Body). all_done (body c ∷ rest) s) (sym (first_same first (body_at d place) (either (or a b)) is.0 refl));
        counted = m.counted;
        below = subst (λ (t : Stand). AreBelow (front old.goals) (length t.below)) (sym m.stand) there;
        within = λ h. (omega (arith, h.0, is.1.left), (tt, (omega (arith, h.0, is.1.right), (tt, (tt, h.1)))));
        less = omega (arith, is.1.smaller);
      })

-- The others of some alternatives.
module _ (d : ClauseDraft) (place from into : ℕ) (todo after : List Task) where
  pub split_last : (b : Body) → body_at d place ≡ b → alternatives b ≡ last b → after ≡ tasks.Body place false ∷ tasks.EndAlternative into ∷ todo
      → Splits d (tasks.Others place from into ∷ todo) after from
  split_last b is one left =
      let alone : last (body_at d place) ≡ alternatives (body_at d place) = ap last is ∙ sym one ∙ ap alternatives (sym is) in
      subst (λ (ts : List Task). Splits d (tasks.Others place from into ∷ todo) ts from) (sym left) (record {
        same = λ s. ap (λ (x : Alternatives). all_done (others x from into ∷ acts_of d todo) s) alone;
        below = λ k h. h;
        within = λ h. (h.0, (tt, h.1));
        less = omega arith;
      })

  pub split_more : (l r : ℕ) → IsBody d place (Either l r) (body_at d place)
      → after ≡ tasks.Body l false ∷ tasks.EndAlternative into ∷ tasks.Others r from into ∷ tasks.Join ∷ todo
      → Splits d (tasks.Others place from into ∷ todo) after from
  split_more l r is left =
      let a : Body = body_at d l in
      let b : Alternatives = alternatives (body_at d r) in
      subst (λ (ts : List Task). Splits d (tasks.Others place from into ∷ todo) ts from) (sym left) (record {
        same = λ s. others_done a b from into s (acts_of d todo)
            ∙ ap (λ (x : Alternatives). all_done (others x from into ∷ acts_of d todo) s) (ap alternatives (sym is.0));
        below = λ k h. (omega arith, let z : suc k ≡ suc (suc k) - 1 = omega arith in subst (AreBelow (acts_of d todo)) z h);
        within = λ h. (omega (arith, h.0, is.1.left), (tt, (omega (arith, h.0, is.1.right), (tt, h.1))));
        less = omega (arith, is.1.smaller);
      })

-- others after they were split
pub split_step : (d : ClauseDraft) (place from into : ℕ) (todo after : List Task) (old new : Threaded)
    → Splits d (tasks.Others place from into ∷ todo) after from
    → AreBelow (acts_of d (tasks.Others place from into ∷ todo)) (length (stand_of old).below)
    → Makes old new (stand (terms old) [] from old.next) → Steps d (tasks.Others place from into ∷ todo) after old new
split_step d place from into todo after old new p below m =
    let more : length (stand_of old).below ≤ length (terms old) = omega (arith, length-take-le (length (terms old) - old.goals) (terms old) (omega arith)) in
    let here : stand_of new ≡ stand (whole (stand_of old)) [] from old.next =
    m.stand ∙ ap (λ (ws : List Written). stand ws [] from old.next) (sym (stand_whole old)) in
    record {
      line = m.line;
      same = ap (all_done (acts_of d after)) here ∙ p.same (stand_of old);
      counted = m.counted;
      below = subst (λ (s : Stand). AreBelow (acts_of d after) (length s.below)) (sym m.stand)
          (p.below (length (terms old))
          (enough_below (acts_of d (tasks.Others place from into ∷ todo)) (length (stand_of old).below) (length (terms old)) below more));
      within = p.within;
      less = p.less;
    }

pub last_task : (before rest : List Task) (t : Task) → before ≡ rest ++ t ∷ [] → reverse before ≡ t ∷ reverse rest
last_task before rest t e = ap reverse e ∙ reverse-append rest (t ∷ [])

pub below_few : (t : Threaded) → length (stand_of t).below ≤ length (terms t)
below_few t = omega (arith, length-take-le (length (terms t) - t.goals) (terms t) (omega arith))

-- the last two terms were made one
pub join_made : (old new : Threaded) → old.goals ≤ length (terms old) → 2 ≤ length (terms old)
    → ((ws us : List Written) → terms old ≡ ws ++ us → length us ≡ 2 → Becomes old.out new.out (ws ++ compound (codes ";") (many us) ∷ []))
    → new.goals ≡ 0 → new.state ≡ old.state → new.next ≡ old.next → Makes old new (done join (stand_of old))
join_made old new counted two put no_goals at next =
    let s = split_there (terms old) 2 two in
    let b = by (take (length (terms old) - 2) (terms old)) (drop (length (terms old) - 2) (terms old)) s.0 s.1 in
    all_below old new counted b.line (two_joined (whole (stand_of old))) old.state old.next (b.finished
    ∙ ap two_joined (sym (stand_whole old))) no_goals at next
  where
    by : (ws us : List Written) → terms old ≡ ws ++ us → length us ≡ 2 → Becomes old.out new.out (two_joined (terms old))
    by ws [] e few = absurd (omega arith)
    by ws (u ∷ []) e few = absurd (omega arith)
    by ws (u ∷ v ∷ w ∷ us) e few = absurd (omega arith)
    by ws (u ∷ v ∷ []) e few =
        let b = put ws (u ∷ v ∷ []) e few in
        record { line = b.line; finished = b.finished ∙ sym (two_joined-is ws u v) ∙ ap two_joined (sym e) }

-- terms below are goals again
pub resume_made : (old new : Threaded) (n : ℕ) → suc n ≤ length (terms old) → draft_of new.out ≡ draft_of old.out → new.goals ≡ n + 1 → new.state ≡ old.state
    → new.next ≡ old.next → Makes old new (done (resume n) (stand_of old))
resume_made old new n few same counted_more at next =
    let number : new.goals ≡ suc n = omega (arith, counted_more) in
    let here : whole (stand_of old) ≡ terms new = stand_whole old ∙ sym (ap (λ (d : Draft). d.finished) same) in
    let kept : List Written → ℕ → Stand = λ ws k. stand (take (length ws - k) ws) (drop (length ws - k) ws) old.state old.next in
    record {
      line = ap (λ (d : Draft). d.line) same;
      stand = ap (λ (s : ℕ). stand (stand_of new).below (stand_of new).goals s new.next) at
          ∙ ap (λ (m : ℕ). stand (stand_of new).below (stand_of new).goals old.state m) next
          ∙ ap (kept (terms new)) number ∙ ap (λ (ws : List Written). kept ws (suc n)) (sym here);
      counted = omega (arith, ap (λ (d : Draft). length d.finished) same);
    }

-- all is done: the terms are those that were there and the goals of the whole body
pub record Finished (t : Threaded) (ws : List Written) (w : Walk) : Type 0 where
  pub all : terms t ≡ ws ++ w.goals
  pub few : length w.goals ≡ t.goals

pub all_finished : (t : Threaded) (ws : List Written) (b : Body) → t.goals ≤ length (terms t)
    → stand_of t ≡ stand ws (walk b 0 1).goals (walk b 0 1).behind (walk b 0 1).next → Finished t ws (walk b 0 1)
all_finished t ws b counted e = record {
  all = sym (stand_whole t) ∙ ap whole e;
  few = ap (λ (s : Stand). length s.goals) (sym e) ∙ goals_counted t counted;
}

-- a task that is that one was done at once
pub task_done : (d : ClauseDraft) (t at : Task) (todo : List Task) (old new : Threaded) → t ≡ at
    → AreBelow (acts_of d (t ∷ todo)) (length (stand_of old).below) → Makes old new (done (act_of d at) (stand_of old)) → Steps d (t ∷ todo) todo old new
task_done d t at todo old new is below m =
    step_done d t todo todo old new refl below (subst (λ (x : Task). Makes old new (done (act_of d x) (stand_of old))) (sym is) m)

-- others were split
pub task_split : (d : ClauseDraft) (t : Task) (place from into : ℕ) (todo after : List Task) (old new : Threaded) → t ≡ tasks.Others place from into
    → AreBelow (acts_of d (t ∷ todo)) (length (stand_of old).below) → Splits d (tasks.Others place from into ∷ todo) after from
    → Makes old new (stand (terms old) [] from old.next) → Steps d (t ∷ todo) after old new
task_split d t place from into todo after old new is below p m =
    subst (λ (x : Task). Steps d (x ∷ todo) after old new) (sym is)
    (split_step d place from into todo after old new p
    (subst (λ (x : Task). AreBelow (acts_of d (x ∷ todo)) (length (stand_of old).below)) is below) m)

-- the whole body is to be translated, behind the terms that are there
pub begun : (d : ClauseDraft) (place : ℕ) (ts : List Task) (t : Threaded) → ts ≡ tasks.Body place true ∷ [] → t.goals ≡ 0 → t.state ≡ 0
    → t.next ≡ 1 → all_done (acts_of d ts) (stand_of t) ≡ all_done (body (behind_first (body_at d place)) ∷ []) (stand (terms t) [] 0 1)
begun d place ts t e no_goals at next =
    let here : Makes t t (stand (terms t) [] 0 1) = all_below t t (omega (arith, no_goals)) refl (terms t) 0 1 refl no_goals at next in
    ap (λ (us : List Task). all_done (acts_of d us) (stand_of t)) e
    ∙ ap (all_done (body (behind_first (body_at d place)) ∷ [])) here.stand

-- one step and then another
pub steps_on : (d : ClauseDraft) (before middle after : List Task) (old now new : Threaded) → Steps d before middle old now → Steps d middle after now new
    → Steps d before after old new
steps_on d before middle after old now new one other = record {
  line = other.line ∙ one.line;
  same = other.same ∙ one.same;
  counted = other.counted;
  below = other.below;
  within = λ h. other.within (one.within h);
  less = omega (arith, one.less, other.less);
}
