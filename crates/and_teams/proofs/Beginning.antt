-- Teams that have done nothing, and what they are when they have worked.
use Rattle.std.proofs.Common.{ℕ, zero, suc, ◌+◌, ◌≡◌, ◌<◌, false, List, [], ◌∷◌, ◌++◌}
use Rattle.std.proofs.Common.{reverse, length, refl, sym, ap, subst, ◌∙◌, arith, All, slice_index_or}
use Rattle.std.proofs.Common.{Result, Ok, Err, IfOk, OnOk, is_err, true≢false}
use Rattle.std.specs.Prelude.{None}
use Rattle.std.proofs.lemmas.List.{length-reverse, reverse-append, same_from_push}
use Rattle.std.proofs.lemmas.List.Elements.{All-cons}
use mathlib.Core.List.{reverse-cons}
use Rattle.and_model.specs.Programs.{Program}
use Rattle.and_cells.specs.Ranges.{NamedProgram}
use Rattle.and_laws.proofs.Pairwise.{all_none}
use Rattle.and_tree.specs.Passes.{TreeId, PassSeen, fresh, fresh_from}
use Rattle.and_answers.specs.Kept.{listed}
use Rattle.and_search_laws.specs.Ended.{IsEndSoFar}
use Rattle.and_team_laws.specs.Done.{DidAll}
use Rattle.and_cells.specs.declared.naming.Naming.{Ghosts}
use Rattle.and_tasks.specs.Working.{Works, AreServed, IsAtWork}
use Rattle.and_teams.specs.Ended.{IsFresh, AreFresh, IsWorked, AreDone}
use Rattle.and_tasks.specs.declared.team.Team.{Team}
use Rattle.and_teams.specs.declared.work.Beginning.{Beginning}
use Rattle.and_teams.specs.declared.work.Worked.{Worked}
use Rattle.and_teams.proofs.Gathering.{AreDoneDown}

-- ---- results

-- of a result, where two things hold if it is no error
pub if_ok_both : {X E : Type 0} (r : Result X E) (P Q S : X → Type 0) → IfOk r P → IfOk r Q → ((x : X) → P x → Q x → S x) → IfOk r S
if_ok_both (Ok x) P Q S p q f = f x p q
if_ok_both (Err e) P Q S p q f = tt

-- of one that is no error
pub if_not_err : {X E : Type 0} (r : Result X E) (P : Type 0) → is_err r ≡ false → OnOk r P → P
if_not_err (Ok x) P fine p = p
if_not_err (Err e) P fine p = absurd (true≢false fine)

-- ---- passes, the last taken out

fresh_more : (tree : TreeId) (team count : ℕ) → fresh_from tree team (suc count) ≡ fresh_from tree team count ++ fresh tree (team + count) ∷ []
fresh_more tree team zero = ap (λ n. fresh tree n ∷ []) (omega arith)
fresh_more tree team (suc count) =
    ap (λ l. fresh tree team ∷ l) (fresh_more tree (suc team) count)
    ∙ ap (λ n. fresh tree team ∷ (fresh_from tree (suc team) count ++ fresh tree n ∷ [])) (omega arith)

pub fresh_long : (tree : TreeId) (team count : ℕ) → length (fresh_from tree team count) ≡ count
fresh_long tree team zero = refl
fresh_long tree team (suc count) = let rest = fresh_long tree (suc team) count in omega (arith, rest)

-- The last of the passes of so many teams.
pub last_fresh : (tree : TreeId) (count : ℕ) (rest : List PassSeen) (pass : PassSeen) → fresh_from tree 0 count ≡ rest ++ pass ∷ []
    → (less : ℕ) × (count ≡ suc less) × (rest ≡ fresh_from tree 0 less) × (pass ≡ fresh tree less)
last_fresh tree zero [] pass e = let f = ap length e in absurd (omega (arith, f))
last_fresh tree zero (p ∷ rest) pass e = let f = ap length e in absurd (omega (arith, f))
last_fresh tree (suc count) rest pass e =
    let both = same_from_push rest (fresh_from tree 0 count) pass (fresh tree (0 + count)) (sym e ∙ fresh_more tree 0 count) in
    (count, refl, both.0, both.1 ∙ ap (fresh tree) (omega arith))

-- Its team is as many as are left.
pub last_team : (tree : TreeId) (count : ℕ) (passes rest : List PassSeen) (pass : PassSeen) → passes ≡ fresh_from tree 0 count
    → passes ≡ rest ++ pass ∷ [] → (pass.team ≡ length rest) × (length rest < count)
last_team tree count passes rest pass are is =
    let (less, more, others, last) = last_fresh tree count rest pass (sym are ∙ is) in
    let long : length rest ≡ less = ap length others ∙ fresh_long tree 0 less in
    (ap (λ (p : PassSeen). p.team) last ∙ sym long, omega (arith, more, long))

-- ---- a team with no task, that has done nothing

-- (of a team that was made with a fresh pass)
abbrev pub IsNew : {N : Type 0} {G : Ghosts N} → PassSeen → Team N G → Type 0
IsNew pass t =
    (t.pass ≡ pass) × (listed t.found ≡ []) × (t.found.cut ≡ None) × (t.found.forks ≡ 0) × (t.found.failed ≡ 0) × (t.stack.items ≡ [])

new_works : {N : Type 0} {G : Ghosts N} (P : NamedProgram) (tree : TreeId) (number : ℕ) (t : Team N G) → IsNew (fresh tree number) t
    → Works P tree t.pass t.found t.stack.items
new_works P tree number t new =
    subst (λ (p : PassSeen). Works P tree p t.found t.stack.items) (sym new.0)
    (subst (λ tasks. Works P tree (fresh tree number) t.found tasks) (sym new.5) (record {
      has = record { of_tree = refl; hand = λ g. refl; tasks_are = tt };
      tells = record {
        forks = 0;
        failed = 0;
        is_cut = false;
        did = subst (λ es. DidAll P.program tree.about.limit [] es 0 0 false) (sym new.1) DidAll.none;
        counted = new.3;
        failed_are = new.4;
        end = subst (λ c. IsEndSoFar P.program tree.about.limit t.found 0 0 false c) (sym new.2) (refl, new.3, new.4);
      };
    }))

pub new_at_work : {N : Type 0} {G : Ghosts N} (P : NamedProgram) (tree : TreeId) (number : ℕ) (t : Team N G) → IsNew (fresh tree number) t
    → IsAtWork P tree t.pass t.found t.stack.items t.left
new_at_work P tree number t new = record {
  works = new_works P tree number t new;
  served = subst (λ tasks. AreServed t.left tasks) (sym new.5) tt;
}

-- The beginning of one team more, in front of those that are made.
pub begun_one : {N : Type 0} {G : Ghosts N} (tree : TreeId) (count : ℕ) (teams : List (Beginning N G)) (passes rest : List PassSeen)
    (pass : PassSeen) (t : Beginning N G)
    → passes ≡ fresh_from tree 0 count → passes ≡ rest ++ pass ∷ [] → AreFresh tree count (reverse teams)
    → t.pass ≡ pass
    → (less : ℕ) × (count ≡ suc less) × (rest ≡ fresh_from tree 0 less) × AreFresh tree less (reverse (teams ++ t ∷ []))
begun_one tree count teams passes rest pass t are is others_fresh new =
    let (less, more, others, last) = last_fresh tree count rest pass (sym are ∙ is) in
    let seen : t.pass ≡ fresh tree less = new ∙ last in
    let here : IsFresh tree less t = record {
      number_is = sym t.number_is ∙ ap (λ (p : PassSeen). p.team) seen;
      pass_is = seen;
    } in
    let all : AreFresh tree less (t ∷ reverse teams) = (here, subst (λ n. AreFresh tree n (reverse teams)) more others_fresh) in
    (less, more, others, subst (λ l. AreFresh tree less l) (sym (reverse-append teams (t ∷ []))) all)

-- (of a list that is the same)
pub fresh_items : {N : Type 0} {G : Ghosts N} (tree : TreeId) (count : ℕ) (teams others : List (Beginning N G)) → others ≡ teams
    → AreFresh tree count (reverse teams) → AreFresh tree count (reverse others)
fresh_items tree count teams others same f = subst (λ l. AreFresh tree count (reverse l)) (sym same) f

-- ---- teams that are done, the first first

module _ {N : Type 0} (P : Program) (tree : TreeId) where
  done_and_last : (n : ℕ) (ws : List (Worked N)) (w : Worked N) → AreDone P tree n ws → IsWorked P tree (n + length ws) w
      → AreDone P tree n (ws ++ w ∷ [])
  done_and_last n [] w d last = (subst (λ k. IsWorked P tree k w) (omega arith) last, tt)
  done_and_last n (x ∷ ws) w d last = (d.0, done_and_last (suc n) ws w d.1 (subst (λ k. IsWorked P tree k w) (omega arith) last))

  done_up : (ws : List (Worked N)) → AreDoneDown P tree ws → AreDone P tree 0 (reverse ws)
  done_up [] d = tt
  done_up (w ∷ ws) d =
      subst (λ l. AreDone P tree 0 l) (sym (reverse-cons w ws))
      (done_and_last 0 (reverse ws) w (done_up ws d.1) (subst (λ k. IsWorked P tree k w) (omega (arith, length-reverse ws)) d.0))

-- ---- teams, the last first

module _ {N : Type 0} {G : Ghosts N} (tree : TreeId) where
  abbrev AreFreshDown : List (Beginning N G) → Type 0
  AreFreshDown [] = Unit {0}
  AreFreshDown (t ∷ ts) = IsFresh tree (length ts) t × AreFreshDown ts

  fresh_but_last : (n : ℕ) (ts : List (Beginning N G)) (t : Beginning N G) → AreFresh tree n (ts ++ t ∷ [])
      → AreFresh tree n ts × IsFresh tree (n + length ts) t
  fresh_but_last n [] t f = (tt, subst (λ k. IsFresh tree k t) (omega arith) f.0)
  fresh_but_last n (x ∷ ts) t f =
      let (rest, last) = fresh_but_last (suc n) ts t f.1 in
      ((f.0, rest), subst (λ k. IsFresh tree k t) (omega arith) last)

  fresh_down : (ts : List (Beginning N G)) → AreFresh tree 0 (reverse ts) → AreFreshDown ts
  fresh_down [] f = tt
  fresh_down (t ∷ ts) f =
      let (rest, last) = fresh_but_last 0 (reverse ts) t (subst (λ l. AreFresh tree 0 l) (reverse-cons t ts) f) in
      (subst (λ k. IsFresh tree k t) (omega (arith, length-reverse ts)) last, fresh_down ts rest)

  all_down : (ts : List (Beginning N G)) → AreFreshDown ts → All (λ (t : Beginning N G). t.pass ≡ fresh tree t.number) ts
  all_down [] f = all_none (λ (t : Beginning N G). t.pass ≡ fresh tree t.number)
  all_down (t ∷ ts) f =
      All-cons (λ (t : Beginning N G). t.pass ≡ fresh tree t.number) t ts (f.0.pass_is ∙ ap (fresh tree) (sym f.0.number_is)) (all_down ts f.1)

  -- Each of them has the fresh pass of its number.
  pub all_fresh : (ts : List (Beginning N G)) → AreFresh tree 0 (reverse ts)
      → All (λ (t : Beginning N G). t.pass ≡ fresh tree t.number) ts
  all_fresh ts f = all_down ts (fresh_down ts f)

  module _ (P : Program) where
    -- what each team was when it had worked
    abbrev HaveWorked : List (Beginning N G) → List (Worked N) → Type 0
    HaveWorked ts ws = (i : ℕ) (t : Beginning N G) (w : Worked N) → i < length ts → t ≡ slice_index_or ts i t → w ≡ slice_index_or ws i w
        → IsWorked P tree t.number w

    worked_down : (ts : List (Beginning N G)) (ws : List (Worked N)) → length ws ≡ length ts → AreFreshDown ts → HaveWorked ts ws → AreDoneDown P tree ws
    worked_down [] [] long f each = tt
    worked_down [] (w ∷ ws) long f each = absurd (omega (arith, long))
    worked_down (t ∷ ts) [] long f each = absurd (omega (arith, long))
    worked_down (t ∷ ts) (w ∷ ws) long f each =
        let shorter : length ws ≡ length ts = omega (arith, long) in (
          subst (λ n. IsWorked P tree n w) (f.0.number_is ∙ sym shorter) (each 0 t w (omega arith) refl refl),
          worked_down ts ws shorter f.1 (λ i x y within is at. each (suc i) x y (omega (arith, within)) is at),
        )

    -- All of them are done when each has worked.
    pub all_done : (ts : List (Beginning N G)) (ws : List (Worked N)) → AreFresh tree 0 (reverse ts) → length ws ≡ length ts → HaveWorked ts ws
        → AreDone P tree 0 (reverse ws)
    all_done ts ws f long each = done_up P tree ws (worked_down ts ws long (fresh_down ts f) each)
