-- Steps agree: however goals with one candidate are reduced, the end is the same.
use Rattle.std.proofs.Common.{ℕ, ◌≡◌, List, sym, ◌∙◌, subst, inl, inr}
use Rattle.and_model.specs.Terms.{Path, Term}
use Rattle.and_model.specs.Solutions.{Equation, Entails}
use Rattle.and_model.specs.Programs.{Program, Of}
use Rattle.and_model.specs.Candidates.{Candidate}
use Rattle.and_model.specs.Trees.{Agenda, Tree, path, call_of, reduce, Below}
use Rattle.and_model.specs.Reached.{Step, Shut, Dead, Steps, none, more}
use Rattle.and_laws.proofs.Order.{below_self, below_then, reduce_above, same_trees}
use Rattle.and_laws.proofs.Picking.{picked_or, picked_sound, IsConsistent, closed_grows, candidate_falls}

-- a Shut tree's closed equations have a solution
shut_consistent : {P : Program} {ag : Agenda} (u : Tree P ag) → Shut u → IsConsistent u
shut_consistent u s = (s.0, s.1, s.2, s.3)

-- a candidate for one call is one for the same call
moved : (P : Program) (es : List Equation) (q r : Path) (g h : Term) (c : ℕ) → q ≡ r → g ≡ h → Candidate P es q g c → Candidate P es r h c
moved P es q r g h c e f k = subst (λ x. Candidate P es r x c) f (subst (λ x. Candidate P es x g c) e k)

-- What a Step does, each Shut tree above has done,
pub step_shut : {P : Program} {ag : Agenda} (t next u : Tree P ag) → Below P ag t u → Shut u → Step t next → Below P ag next u
step_shut {P} {ag} t next u b shut st =
    let (es, gs, x, o, c, h, is_next, only) = st in
    let grow : Entails shut.0 es = closed_grows es shut.0 gs shut.1 b x shut.2 in
    elim (picked_or b o) [
      | inl r ↦
          let e : r.0 ≡ c = only r.0 (picked_sound b (shut_consistent u shut) o r es gs x) in
          let all : (k : Of P (call_of t o) c) → Below P ag (reduce t o c k) u =
          subst (λ d. (k : Of P (call_of t o) d) → Below P ag (reduce t o d k) u) e r.2 in
          subst (λ v. Below P ag v u) (sym is_next) (all h)
      | inr p ↦
          let two = shut.4 p.0 in
          let one : (d : ℕ) → Candidate P shut.0 (path u p.0) (call_of u p.0) d
          → d ≡ c = λ d k. only d (candidate_falls P es shut.0 (path t o) (call_of t o) d grow
          (moved P shut.0 (path u p.0) (path t o) (call_of u p.0) (call_of t o) d p.1 p.2 k)) in
          absurd (two.2 (one two.0 two.3 ∙ sym (one two.1 two.4)))
    ]

-- and what Steps do.
pub steps_shut : {P : Program} {ag : Agenda} (t v u : Tree P ag) → Steps t v → Below P ag t u → Shut u → Below P ag v u
steps_shut t v u (none t') b shut = b
steps_shut t v u (more t' w v' ss st) b shut = step_shut w v' u (steps_shut t' w u ss b shut) shut st

-- No Shut tree is above a Dead one.
pub dead_below_shut : {P : Program} {ag : Agenda} (t u : Tree P ag) → Below P ag t u → Dead t → Shut u → ⊥
dead_below_shut {P} {ag} t u b dead shut =
    let (es, gs, x, why) = dead in
    let grow : Entails shut.0 es = closed_grows es shut.0 gs shut.1 b x shut.2 in
    elim why [
      | inl bad ↦ bad (shut.3.0, grow shut.3.0 shut.3.1)
      | inr w ↦ elim (picked_or b w.0) [
        | inl r ↦ w.1 r.0 (picked_sound b (shut_consistent u shut) w.0 r es gs x)
        | inr p ↦ let two = shut.4 p.0 in w.1 two.0
            (candidate_falls P es shut.0 (path t w.0) (call_of t w.0) two.0 grow
            (moved P shut.0 (path u p.0) (path t w.0) (call_of u p.0) (call_of t w.0) two.0 p.1 p.2 two.3))
      ]
    ]

-- A Step goes up,
pub step_above : {P : Program} {ag : Agenda} (t u : Tree P ag) → Step t u → Below P ag t u
step_above {P} {ag} t u st = subst (λ v. Below P ag t v) (sym st.6) (reduce_above t st.3 st.4 st.5)

-- and so do Steps.
pub steps_above : {P : Program} {ag : Agenda} (t u : Tree P ag) → Steps t u → Below P ag t u
steps_above t u (none t') = below_self t'
steps_above t u (more t' w v ss st) = below_then (step_above w v st) (steps_above t' w ss)

-- Steps from one tree never reach both a Dead tree and a Shut tree,
pub two_ends : {P : Program} {ag : Agenda} (t d s : Tree P ag) → Steps t d → Dead d → Steps t s → Shut s → ⊥
two_ends t d s x dead y shut = dead_below_shut d s (steps_shut t d s x (steps_above t s y) shut) dead shut

-- and the Shut trees that they reach are one.
pub one_shut : {P : Program} {ag : Agenda} (t r s : Tree P ag) → Steps t r → Shut r → Steps t s → Shut s → r ≡ s
one_shut t r s x a y b = same_trees r s (steps_shut t r s x (steps_above t s y) b) (steps_shut t s r y (steps_above t r x) a)
