-- Each reduction of a phase takes a call that stood there, and that none before had taken.
use Rattle.std.proofs.Common.{ℕ, ◌≡◌, ◌<◌, ◌+◌, List, [], ◌∷◌, ◌++◌, length, reverse, AllPairs, Contains}
use Rattle.std.proofs.Common.{ap, sym, ◌∙◌, subst, inl, inr, arith}
use Rattle.std.proofs.lemmas.List.Elements.{All-contains, Contains-append_right}
use Rattle.and_model.specs.Programs.{Of}
use Rattle.and_model.specs.Reductions.{Reduction}
use Rattle.and_model.specs.Stands.{term_of}
use Rattle.and_model.specs.Store.{SideBySide, frames_of}
use Rattle.and_model.specs.declared.goal.Goal.{Goal}
use Rattle.and_model.specs.declared.goal.Reduction as declared
use Rattle.and_model.specs.declared.numbers.ClauseNo.{ClauseNo}
use Rattle.and_model.specs.declared.reference.Ref.{Ref}
use Rattle.and_cells.specs.Ranges.{NamedProgram}
use Rattle.and_cells.specs.Seen.{word_at}
use Rattle.and_code.specs.Written.{written, all_written}
use Rattle.and_store_laws.proofs.Lists.{contains_more, contains_map, map_contains, contains_there}
use Rattle.and_store_laws.proofs.Pairwise.{all_first}
use Rattle.and_handed.specs.Handed.{IsSole}
use Rattle.and_handed.specs.declared.told.Reduced.{Reduced}
use Rattle.and_handed.specs.declared.told.HandedOn.{HandedOn}
use Rattle.and_gathering.specs.Gathering.{IsGathered, goal_taken}
use Rattle.and_gathering.specs.declared.gathering.Gathered.{Gathered}
use Rattle.and_gathering.specs.declared.links.Taken.TheVariants as variants
use Rattle.and_worker_laws.specs.Acts
use Rattle.and_worker_laws.specs.Acts.{Act, takes, weight_taken, IsThere, IsTaken, AreTaken}
use Rattle.and_closing_laws.specs.Phases.{HasPhased}
use Rattle.and_closing_laws.specs.Acting.{Ended, all_ended, AreActsOf}
use Rattle.and_closing_laws.proofs.Workers.{acted_of, told_of_ended, ended_of_told, has_ended}
use Rattle.and_closing_laws.proofs.Tiling.{stand_same}
use Rattle.and_closing_laws.proofs.Walking.{Apart, apart_or_one, body_nodes, StandsIn, met_stands, met_behind}
use Rattle.and_closing_laws.proofs.Numbering.{AreNumbered, numbered_stand, taken_listed, listed_taken, numbered_back, came_before, stood_before, each_taken}
use Rattle.and_closing_laws.proofs.Meeting.{made_met, met_made, met_step, step_met, step_made, made_step, tiled_stand, all_apart}
use Rattle.and_closing_laws.proofs.Journals.{journal_behind, acts_numbered}
use Rattle.and_closing_laws.proofs.Taking.{made_act, act_made}

module _ (P : NamedProgram) (first row : List Ref) (tolds : List HandedOn) (h : HasPhased P first row tolds) (goals : List Goal) (used limit : ℕ) (g : Gathered)
    (q : IsGathered P.program goals used limit tolds g) (long : length first ≡ used) (acts : List Act)
    (are : AreActsOf P (word_at row) (all_ended tolds h.passes) (reverse h.journal) acts) where
  abbrev ended : List Ended
  ended = all_ended tolds h.passes

  pub sole_of : (who : Ended) (m : Reduced) → Contains ended who → Contains who.0.made.items m → IsSole P who.1 m
  sole_of who m one among =
      All-contains (IsSole P who.1) who.0.made.items m (acted_of P _ _ h.journal who (has_ended P first row tolds h q.unspoilt who one)).made among

  -- The reductions stand side by side, in the order of the journal.
  pub numbered : AreNumbered P.program used acts
  numbered =
      let side : SideBySide used (frames_of h.journal) =
      subst (λ (n : ℕ). SideBySide n (frames_of h.journal)) (ap (λ (l : List Ref). length l) h.first ∙ long) h.closes.row_fits.frames in
      (acts_numbered P (word_at row) ended used (reverse h.journal) acts (journal_behind P (word_at row) ended used h.journal side) are).0

  -- A call that was met in the tree was taken by some worker,
  pub was_done : (k : Goal) (s : declared.Reduction) → Contains q.met (variants.Reduced k s) → (v : ℕ) × Contains acts (takes v k (written s))
  was_done k s c =
      let m = met_made P.program goals used limit tolds g q k s c in
      let who = ended_of_told P tolds h.passes h.hand_on m.0 m.2 in
      let among : Contains who.0.0.made.items m.1 = subst (λ (t : HandedOn). Contains t.made.items m.1) (sym who.2) m.3 in
      let done = made_act P first row tolds h q.unspoilt goals used limit g q acts are who.0 m.1 who.1 among in (
        who.0.1.pass.number,
        subst (λ (r : declared.Reduction). Contains acts (takes who.0.1.pass.number k (written r))) m.5
            (subst (λ (x : Goal). Contains acts (takes who.0.1.pass.number x (written m.1.reduction))) m.4 done),
      )

  -- and each that was taken was met.
  pub done_met : (v : ℕ) (k : Goal) (r : Reduction) → Contains acts (takes v k r)
      → (s : declared.Reduction) × (written s ≡ r) × Contains q.met (variants.Reduced k s)
  done_met v k r c =
      let m = act_made P first row tolds h acts are v k r c in (
        m.1.reduction,
        m.5,
        subst (λ (x : Goal). Contains q.met (variants.Reduced x m.1.reduction)) m.4
            (made_met P.program goals used limit tolds g q m.0.0 m.1 (told_of_ended tolds h.passes m.0 m.2) m.3),
      )

  -- What stands in the tree was there at the opening, or in the body of a clause that was taken.
  pub there_of : (x : Goal) → StandsIn P.program goals q.met x → IsThere P.program goals acts x
  there_of x (inl at_opening) = inl at_opening
  there_of x (inr b) = let d = was_done b.0 b.1 b.2 in inr (d.0, b.0, written b.1, d.1, b.3)

  -- So it was with each call before it was taken.
  there_before : (front : List Act) (v : ℕ) (k : Goal) (s : declared.Reduction) (before : List Act) → acts ≡ front ++ takes v k (written s) ∷ before
      → Contains q.met (variants.Reduced k s) → StandsIn P.program goals q.met k → IsThere P.program goals before k
  there_before front v k s before is met (inl at_opening) = inl at_opening
  there_before front v k s before is met (inr b) =
      let d = was_done b.0 b.1 b.2 in
      let behind = met_behind P.program q.walks k s met in
      let node = (body_nodes P.program b.1 k b.3).0 in
      inr (
        d.0,
        b.0,
        written b.1,
        came_before P.program used front v k (written s) before (subst (AreNumbered P.program used) is numbered)
            d.0 b.0 (written b.1) (subst (λ (l : List Act). Contains l (takes d.0 b.0 (written b.1))) is d.1) (omega arith),
        b.3,
      )

  module _ (apart : AllPairs Apart goals) (old : (x : Goal) → Contains goals x → x.node < used) where
    -- No two reductions take one call.
    pub one_taken : (v n : ℕ) (k x : Goal) (r s : Reduction) → Contains acts (takes v k r) → Contains acts (takes n x s) → k.node ≡ x.node
        → k.item ≡ x.item → r ≡ s
    one_taken v n k x r s a b node item =
        let first_met = done_met v k r a in
        let second_met = done_met n x s b in
        elim (apart_or_one goal_taken q.met (all_apart P.program goals used limit tolds g q apart old).of_met (variants.Reduced k first_met.0)
        (variants.Reduced x second_met.0) first_met.2 second_met.2) [
          | inl is ↦ (let e : first_met.0 ≡ second_met.0 = cc in sym first_met.1 ∙ ap written e ∙ second_met.1)
          | inr other ↦ absurd (other node item)
        ]

    -- None before had taken it,
    earlier : (front : List Act) (v : ℕ) (before : List Act) (k : Goal) (s : declared.Reduction) → acts ≡ front ++ takes v k (written s) ∷ before
        → Contains acts (takes v k (written s)) → s.node ≡ used + weight_taken P.program before → AreNumbered P.program used before
        → (n : ℕ) (x : Goal) (r : Reduction) → Contains before (takes n x r) → r.parent ≡ k.node → r.item ≡ k.item → ⊥
    earlier front v before k s is here node back n x r c parent item =
        let there : Contains acts (takes n x r) = subst (λ (l : List Act). Contains l (takes n x r)) (sym is)
        (Contains-append_right front (takes v k (written s) ∷ before) (takes n x r) (contains_more (takes v k (written s)) (takes n x r) before c)) in
        let m = act_made P first row tolds h acts are n x r there in
        let sole : IsSole P m.0.1 m.1 = sole_of m.0 m.1 m.2 m.3 in
        let same_node : x.node ≡ k.node = ap (λ (y : Goal). y.node) (sym m.4) ∙ sym sole.parent ∙ ap (λ (y : Reduction). y.parent) m.5 ∙ parent in
        let same_item : x.item ≡ k.item = ap (λ (y : Goal). y.item) (sym m.4) ∙ sym sole.item ∙ ap (λ (y : Reduction). y.item) m.5 ∙ item in
        let one = one_taken n v x k r (written s) there here same_node same_item in
        let at : r.node ≡ s.node = ap (λ (y : Reduction). y.node) one in
        let low = stood_before P.program used before back n x r c in absurd (omega arith)

    -- and it was there.
    taken_so : (front : List Act) (v : ℕ) (before : List Act) (who : Ended) (m : Reduced) → Contains ended who → Contains who.0.made.items m
        → acts ≡ front ++ takes v m.goal (written m.reduction) ∷ before → IsTaken P.program goals used before m.goal (written m.reduction)
    taken_so front v before who m one among is =
        let r : Reduction = written m.reduction in
        let here : Contains acts (takes v m.goal r) =
        subst (λ (l : List Act). Contains l (takes v m.goal r)) (sym is) (contains_there front before (takes v m.goal r)) in
        let met = made_met P.program goals used limit tolds g q who.0 m (told_of_ended tolds h.passes who one) among in
        let sole : IsSole P who.1 m = sole_of who m one among in
        let back = numbered_back P.program used front (takes v m.goal r ∷ before) (subst (AreNumbered P.program used) is numbered) in
        record {
          there = there_before front v m.goal m.reduction before is met (met_stands P.program q.walks (variants.Reduced m.goal m.reduction) met);
          term = sole.can.term;
          is_call = sole.can.is_call;
          parent = sole.parent;
          item = sole.item;
          of = all_first (λ (c : ClauseNo). Of P.program (term_of P.program m.goal) c.0) m.reduction.clause [] sole.sole.of;
          node = back.0;
          once = λ n x s c node item. earlier front v before m.goal m.reduction is here back.0 back.1 n x s c node item;
        }

    is_taken : (front before : List Act) (v : ℕ) (k : Goal) (r : Reduction) → acts ≡ front ++ takes v k r ∷ before
        → IsTaken P.program goals used before k r
    is_taken front before v k r is =
        let here : Contains acts (takes v k r) = subst (λ (l : List Act). Contains l (takes v k r)) (sym is) (contains_there front before (takes v k r)) in
        let m = act_made P first row tolds h acts are v k r here in
        let same : acts ≡ front ++ takes v m.1.goal (written m.1.reduction) ∷ before =
        is ∙ ap (λ (x : Goal). front ++ takes v x r ∷ before) (sym m.4) ∙ ap (λ (x : Reduction). front ++ takes v m.1.goal x ∷ before) (sym m.5) in
        subst (λ (x : Goal). IsTaken P.program goals used before x r) m.4
        (subst (IsTaken P.program goals used before m.1.goal) m.5 (taken_so front v before m.0 m.1 m.2 m.3 same))

    pub are_taken : AreTaken P.program goals used acts
    are_taken = each_taken P.program goals used acts is_taken

  -- ---- the reductions in order

  pub reductions_are : (Acts.reductions acts ≡ all_written g.made) × (used + weight_taken P.program acts ≡ g.end)
  reductions_are =
      stand_same P.program used (Acts.reductions acts) (all_written g.made) (used + weight_taken P.program acts) g.end
      (numbered_stand P.program used acts numbered) (tiled_stand P.program used g.made g.end q.tiled)
      (λ r c. (let t = listed_taken acts r c in let m = done_met t.0 t.1 r t.2 in
      let made = step_made q.steps g.made q.reductions t.1 m.0 (met_step P.program goals used limit tolds g q t.1 m.0 m.2) in
      subst (Contains (all_written g.made)) m.1 (contains_map written m.0 g.made made)))
      (λ r c. (let s = map_contains written r g.made c in let k = made_step q.steps g.made q.reductions s.0 s.1 in
      let d = was_done k.0 s.0 (step_met P.program goals used limit tolds g q k.0 s.0 k.1) in
      subst (Contains (Acts.reductions acts)) s.2 (taken_listed acts d.0 k.0 (written s.0) d.1)))
