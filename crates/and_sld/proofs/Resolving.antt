-- Refutations are whole trees whose equations have a solution.
use Rattle.std.proofs.Common.{ℕ, ◌≡◌, List, [], ◌∷◌, ◌++◌, append-nil, map, refl, ap, sym, ◌∙◌, subst, inl, inr}
use Rattle.and_model.specs.Terms.{Path, Term, variable, Substitution, apply, framed}
use Rattle.and_model.specs.Solutions.{Solves}
use Rattle.and_model.specs.Programs.{Program, Item, Arithmetic, clause_at, head_in}
use Rattle.and_model.specs.Trees.{Agenda, goal, agenda, Tree, done, by, equate, reckon, equations, arithmetics, code, IsWhole}
use Rattle.and_model.specs.Lines.{goal_term}
use Rattle.and_laws.proofs.Substitutions.{apply_same, same, then, apply_then}
use Rattle.and_sld.specs.Resolution.{apply_arithmetic, apply_goal, moved, Lacks, ListLacks, GoalLacks, Derives, ended, resolved, equated, passes}
use Rattle.and_sld.specs.Atoms.{HasAtoms}
use Rattle.and_sld.proofs.Arithmetics.{goes_on, goals_same, goals_via}
use Rattle.and_sld.specs.Resolution.{In}
use Rattle.and_sld.proofs.Fronts.{front_self, Over, over_framed, IsFresh, fresh_next}
use Rattle.and_sld.proofs.Instances.{over_via, via, list_via, in_frames, stepped, stepped_own}
use Rattle.and_sld.proofs.Instances.{stepped_other, patched, patched_own, patched_lacks, patched_list, patched_goals, of_unifiable}
use Rattle.and_sld.proofs.Reading.{Reads, reads_end, reads_call, reads_equal, reads_reckoning}
use Rattle.and_sld.proofs.Reading.{reads_on, reads_body, Agrees, agrees_on, agrees_all, agrees_body}

-- Below, the call g at the path q is read as x before the rest, whose goal is items, and is resolved with clause c in a new frame.
module _ (P : Program) (atoms : HasAtoms P) (us : List Path) (τ : Substitution) (q : Path) (g : Term) (rest : Agenda)
    (fresh : IsFresh us (goal q g rest)) (x : Term) (e : x ≡ apply τ g) (items : List Item)
    (reads : Reads τ rest items) (c : ℕ) (new : Path) (s : Substitution) where
  -- a term of the frames in use goes on by s
  old_goes : (y : Term) → Over us y → apply (stepped q new s τ) y ≡ apply s (apply τ y)
  old_goes y o = over_via us τ s (stepped q new s τ) (λ p k i. stepped_other q new s τ p k (λ d. fresh.0 q (subst (λ r. In r us) d i) (front_self q))) y o

  -- a term of the clause is what s makes of it in the new frame
  own_goes : (y : Term) → apply s (framed new y) ≡ apply (stepped q new s τ) (framed q y)
  own_goes y = in_frames s (stepped q new s τ) new q (λ k. sym (stepped_own q new s τ k)) y

  pub next_reads : Reads (stepped q new s τ) (agenda q 0 (clause_at P c).body rest) (apply_goal s (apply_goal (moved new) (clause_at P c).body ++ items))
  next_reads =
      reads_body s (stepped q new s τ) q new own_goes 0 (clause_at P c).body rest items (atoms c).1
      (reads_on us s τ (stepped q new s τ) old_goes rest items fresh.3 reads)

  -- Where u solves the call with the head, and γ gives what the goal has as u gives it, there is a unifier of the goal's call with the head in the new frame.
  pub unifier : (u γ : Substitution) → apply γ (apply τ g) ≡ apply u g → apply u g ≡ apply u (head_in P q c) → Lacks new x
      → apply (patched q new u γ) x ≡ apply (patched q new u γ) (head_in P new c)
  unifier u γ a b l =
      patched_lacks q new u γ x l ∙ ap (apply γ) e ∙ a ∙ b ∙ sym (in_frames (patched q new u γ) u new q (λ k. patched_own q new u γ k) (clause_at P c).head)

  -- What is left of it after s agrees with the next goal.
  pub next_agrees : (u γ δ : Substitution) → ((p : Path) (k : ℕ) → patched q new u γ p k ≡ apply δ (s p k)) → GoalLacks new items → Agrees γ τ u rest
      → Agrees δ (stepped q new s τ) u (agenda q 0 (clause_at P c).body rest)
  next_agrees u γ δ h l a =
      agrees_body δ (stepped q new s τ) u q
      (λ y. ap (apply δ) (sym (own_goes y)) ∙ sym (via s δ (patched q new u γ) h (framed new y))
      ∙ in_frames (patched q new u γ) u new q (λ k. patched_own q new u γ k) y)
      0 (clause_at P c).body rest
      (agrees_on us new γ τ δ (stepped q new s τ) u
      (λ y o k. ap (apply δ) (old_goes y o) ∙ sym (via s δ (patched q new u γ) h (apply τ y)) ∙ patched_lacks q new u γ (apply τ y) k)
      rest items fresh.3 reads l a)

  next_values : (u γ δ : Substitution) → ((p : Path) (k : ℕ) → patched q new u γ p k ≡ apply δ (s p k)) → (values : List Term) → ListLacks new values
      → map (apply δ) (map (apply s) values) ≡ map (apply γ) values
  next_values u γ δ h values l = sym (list_via s δ (patched q new u γ) h values) ∙ patched_list q new u γ values l

  next_goals : (u γ δ : Substitution) → ((p : Path) (k : ℕ) → patched q new u γ p k ≡ apply δ (s p k)) → (gs : List Arithmetic)
      → ListLacks new (map goal_term gs)
      → map (apply_arithmetic δ) (map (apply_arithmetic s) gs) ≡ map (apply_arithmetic γ) gs
  next_goals u γ δ h gs l = sym (goals_via s δ (patched q new u γ) (via s δ (patched q new u γ) h) gs) ∙ patched_goals q new u γ gs l

-- What is found by a derivation: a whole tree with its code, a solution, and that values and goals are as general as any.
pub record Found (P : Program) (us : List Path) (ag : Agenda) (τ : Substitution) (passed left : List Arithmetic) (values found : List Term)
    (cs : List ℕ) : Type 0 where
  pub tree : Tree P ag
  pub whole : IsWhole tree
  pub codes : code tree ≡ cs
  pub after : Substitution
  pub solution : Substitution
  pub solves : Solves solution (equations tree)
  pub goes : (p : Path) (k : ℕ) → In p us → solution p k ≡ apply after (τ p k)
  pub values_end : found ≡ map (apply after) values
  pub goals_end : left ≡ map (apply_arithmetic after) passed ++ map (apply_arithmetic solution) (arithmetics tree)
  pub general : (u γ : Substitution) → Solves u (equations tree) → Agrees γ τ u ag → (δ : Substitution)
      × (map (apply δ) found ≡ map (apply γ) values)
      × (map (apply_arithmetic δ) left ≡ map (apply_arithmetic γ) passed ++ map (apply_arithmetic u) (arithmetics tree))

list_same : (ts : List Term) → ts ≡ map (apply same) ts
list_same [] = refl
list_same (t ∷ ts) = ap (λ x. x ∷ ts) (sym (apply_same t)) ∙ ap (λ xs. apply same t ∷ xs) (list_same ts)

-- one more goal that was passed over
one_more : (f g : Arithmetic → Arithmetic) (xs : List Arithmetic) (y z : Arithmetic) (ws : List Arithmetic) → f y ≡ g z
    → map f (xs ++ y ∷ []) ++ map g ws ≡ map f xs ++ map g (z ∷ ws)
one_more f g [] y z ws e = ap (λ x. x ∷ map g ws) e
one_more f g (x ∷ xs) y z ws e = ap (λ l. f x ∷ l) (one_more f g xs y z ws e)

-- what was passed over goes on
passed_on : (s r : Substitution) (ps : List Arithmetic) → map (apply_arithmetic r) (map (apply_arithmetic s) ps) ≡ map (apply_arithmetic (then s r)) ps
passed_on s r ps = sym (goals_via s r (then s r) (λ x. sym (apply_then s r x)) ps)

pub sound : (P : Program) → HasAtoms P → (frames : List Path) (passed : List Arithmetic) (items : List Item) (values : List Term) (cs : List ℕ)
    (left : List Arithmetic) (found : List Term) → Derives P frames passed items values cs left found
    → (us : List Path) (τ : Substitution) (ag : Agenda) → IsFresh us ag → Reads τ ag items → Found P us ag τ passed left values found cs
sound P atoms frames passed items values cs left found (ended fs ps vs) us τ ag fresh (reads_end) = record {
  tree = done;
  whole = tt;
  codes = refl;
  after = same;
  solution = τ;
  solves = tt;
  goes = λ p k i. sym (apply_same (τ p k));
  values_end = list_same vs;
  goals_end = sym (goals_same ps) ∙ sym (append-nil (map (apply_arithmetic same) ps));
  general = λ u γ p a. (γ, refl, sym (append-nil (map (apply_arithmetic γ) ps)));
}
sound P atoms frames passed items values cs left found (resolved fs ps x is vs c ds new s ls ans low high n m r)
    us τ ag fresh (reads_call q g rest x' is' atom e reads) =
    let i : Found P (q ∷ us) (agenda q 0 (clause_at P c).body rest) (stepped q new s τ) (map (apply_arithmetic s) ps) ls (map (apply s) vs) ans ds =
    sound P atoms (new ∷ fs) (map (apply_arithmetic s) ps) (apply_goal s (apply_goal (moved new) (clause_at P c).body ++ is)) (map (apply s) vs) ds ls ans r
    (q ∷ us) (stepped q new s τ) (agenda q 0 (clause_at P c).body rest)
    (fresh_next us q g rest (clause_at P c).body fresh) (next_reads P atoms us τ q g rest fresh x e is reads c new s) in
    let same_heads : apply (then τ s) g ≡ apply (then (moved new) s) (clause_at P c).head =
    sym (apply_then τ s g) ∙ ap (apply s) (sym e) ∙ m.0 ∙ apply_then (moved new) s (clause_at P c).head in
    let solves_here : apply i.solution g ≡ apply i.solution (head_in P q c) =
    over_via us (stepped q new s τ) i.after i.solution (λ p k j. i.goes p k (inr j)) g fresh.1
    ∙ ap (apply i.after) (
    old_goes P atoms us τ q g rest fresh x e is reads c new s g fresh.1 ∙ ap (apply s) (sym e) ∙ m.0
    ∙ own_goes P atoms us τ q g rest fresh x e is reads c new s (clause_at P c).head
    )
    ∙ sym (over_via (q ∷ us) (stepped q new s τ) i.after i.solution i.goes (head_in P q c) (over_framed (q ∷ us) q (inl refl) (clause_at P c).head)) in
    record {
      tree = by c (of_unifiable P (then τ s) (then (moved new) s) g c atom (atoms c).0 low high same_heads) i.tree;
      whole = i.whole;
      codes = ap (λ l. c ∷ l) i.codes;
      after = then s i.after;
      solution = i.solution;
      solves = (solves_here, i.solves);
      goes = λ p k j.
          i.goes p k (inr j) ∙ ap (apply i.after) (old_goes P atoms us τ q g rest fresh x e is reads c new s (variable p k) j)
          ∙ apply_then s i.after (τ p k);
      values_end = i.values_end ∙ sym (list_via s i.after (then s i.after) (λ p k. refl) vs);
      goals_end = i.goals_end ∙ ap (λ l. l ++ map (apply_arithmetic i.solution) (arithmetics i.tree)) (passed_on s i.after ps);
      general = λ u γ p a.
          let d = m.1 (patched q new u γ) (unifier P atoms us τ q g rest fresh x e is reads c new s u γ a.0 p.0 n.2.0) in
          let k = i.general u d.0 p.1 (next_agrees P atoms us τ q g rest fresh x e is reads c new s u γ d.0 d.1 n.2.1 a.1) in (
            k.0,
            k.1 ∙ next_values P atoms us τ q g rest fresh x e is reads c new s u γ d.0 d.1 vs n.3,
            k.2 ∙ ap (λ l. l ++ map (apply_arithmetic u) (arithmetics i.tree))
                (next_goals P atoms us τ q g rest fresh x e is reads c new s u γ d.0 d.1 ps n.1),
          );
    }
sound P atoms frames passed items values cs left found (equated fs ps x y is vs ds s ls ans m r) us τ ag fresh (reads_equal a b rest x' y' is' d e reads) =
    let i : Found P us rest (then τ s) (map (apply_arithmetic s) ps) ls (map (apply s) vs) ans ds =
    sound P atoms fs (map (apply_arithmetic s) ps) (apply_goal s is) (map (apply s) vs) ds ls ans r us (then τ s) rest fresh.2
    (reads_on us s τ (then τ s) (λ z o. sym (apply_then τ s z)) rest is fresh.2 reads) in
    let onward : (z : Term) → Over us z → apply i.solution z ≡ apply i.after (apply s (apply τ z)) =
    λ z o. over_via us (then τ s) i.after i.solution i.goes z o ∙ ap (apply i.after) (sym (apply_then τ s z)) in
    record {
      tree = equate i.tree;
      whole = i.whole;
      codes = i.codes;
      after = then s i.after;
      solution = i.solution;
      solves = (onward a fresh.0 ∙ ap (apply i.after) (ap (apply s) (sym d) ∙ m.0 ∙ ap (apply s) e) ∙ sym (onward b fresh.1), i.solves);
      goes = λ p k j. i.goes p k j ∙ apply_then s i.after (τ p k);
      values_end = i.values_end ∙ sym (list_via s i.after (then s i.after) (λ p k. refl) vs);
      goals_end = i.goals_end ∙ ap (λ l. l ++ map (apply_arithmetic i.solution) (arithmetics i.tree)) (passed_on s i.after ps);
      general = λ u γ p g.
          let f = m.1 γ (ap (apply γ) d ∙ g.0 ∙ p.0 ∙ sym g.1 ∙ sym (ap (apply γ) e)) in
          let through = via s f.0 γ f.1 in
          let k = i.general u f.0 p.1
          (agrees_all γ τ f.0 (then τ s) u (λ z. ap (apply f.0) (sym (apply_then τ s z)) ∙ sym (through (apply τ z))) rest g.2) in (
            k.0,
            k.1 ∙ sym (list_via s f.0 γ f.1 vs),
            k.2 ∙ ap (λ l. l ++ map (apply_arithmetic u) (arithmetics i.tree)) (sym (goals_via s f.0 γ through ps)),
          );
    }
sound P atoms frames passed items values cs left found (passes fs ps x is vs ds ls ans r) us τ ag fresh (reads_reckoning a rest x' is' e reads) =
    let i : Found P us rest τ (ps ++ x ∷ []) ls vs ans ds = sound P atoms fs (ps ++ x ∷ []) is vs ds ls ans r us τ rest fresh.1 reads in
    let given : apply_arithmetic i.after x ≡ apply_arithmetic i.solution a =
    goes_on τ i.after i.solution a x e (sym (over_via us τ i.after i.solution i.goes (goal_term a) fresh.0)) in
    record {
      tree = reckon i.tree;
      whole = i.whole;
      codes = i.codes;
      after = i.after;
      solution = i.solution;
      solves = i.solves;
      goes = i.goes;
      values_end = i.values_end;
      goals_end = i.goals_end ∙ one_more (apply_arithmetic i.after) (apply_arithmetic i.solution) ps x a (arithmetics i.tree) given;
      general = λ u γ p g.
          let k = i.general u γ p g.1 in
          (k.0, k.1, k.2 ∙ one_more (apply_arithmetic γ) (apply_arithmetic u) ps x a (arithmetics i.tree) (goes_on τ γ u a x e g.0));
    }
