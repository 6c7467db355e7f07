-- Steps keep outcomes, and Dead trees have none.
use Rattle.std.proofs.Common.{◌≡◌, sym, subst, inl, inr}
use Rattle.and_model.specs.Programs.{Program, Of}
use Rattle.and_model.specs.Trees.{Agenda, Tree, call_of, reduce, Below, HasOutcome}
use Rattle.and_model.specs.Reached.{Step, Dead}
use Rattle.and_laws.proofs.Picking.{Picked, picked, picked_candidate, closed_grows}

-- What a Step does, each tree above that has an outcome has done.
pub step_keeps : {P : Program} {ag : Agenda} (t next u : Tree P ag) → Below P ag t u → HasOutcome u → Step t next → Below P ag next u
step_keeps {P} {ag} t next u b out st =
    let (es, gs, x, o, c, h, is_next, only) = st in
    let r : Picked t u o = picked b out.2 o in
    let e : r.0 ≡ c = only r.0 (picked_candidate b out o r es gs x) in
    let all : (k : Of P (call_of t o) c) → Below P ag (reduce t o c k) u = subst (λ d. (k : Of P (call_of t o) d) → Below P ag (reduce t o d k) u) e r.2 in
    subst (λ v. Below P ag v u) (sym is_next) (all h)

-- No tree above a Dead one has an outcome.
pub dead_has_none : {P : Program} {ag : Agenda} (t u : Tree P ag) → Below P ag t u → HasOutcome u → Dead t → ⊥
dead_has_none {P} {ag} t u b out dead =
    let (es, gs, x, why) = dead in
    let (ds, ws, whole, y, so) = out in
    elim why [
      | inl bad ↦ bad (so.0, closed_grows es ds gs ws b x y so.0 so.1)
      | inr w ↦ w.1 (picked b out.2 w.0).0 (picked_candidate b out w.0 (picked b out.2 w.0) es gs x)
    ]
