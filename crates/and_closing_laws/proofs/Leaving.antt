-- Where the goals of runs and of stuck calls stand, and what is left of a phase.
use Rattle.std.proofs.Common.{ℕ, ◌≡◌, ◌≢◌, ◌<◌, ◌≤◌, true, List, [], ◌∷◌, ◌++◌, length, reverse, get_or, Option, Some, None}
use Rattle.std.proofs.Common.{All, AllPairs, Contains, IsPermutation, refl, ap, sym, ◌∙◌, subst, inl, inr, arith, append_assoc}
use Rattle.std.proofs.lemmas.List.{length-append, length-reverse}
use Rattle.std.proofs.lemmas.List.Elements.{All-contains, Contains-append_left}
use Rattle.and_model.specs.Programs.{Program, call, fail, clause_at}
use Rattle.and_model.specs.Reductions.{Reduction}
use Rattle.and_model.specs.Store.{JournalEntry, gives, fails}
use Rattle.and_model.specs.declared.goal.Goal.{Goal}
use Rattle.and_model.specs.declared.goal.Reduction as declared
use Rattle.and_model.specs.declared.numbers.ClauseNo.{ClauseNo}
use Rattle.and_model.specs.declared.reference.Ref.{Ref}
use Rattle.and_cells.specs.Ranges.{NamedProgram}
use Rattle.and_cells.specs.Seen.{word_at}
use Rattle.and_code.specs.Written.{written}
use Rattle.and_store.specs.Passes.{PassSeen}
use Rattle.and_store_laws.specs.Steps.{entry}
use Rattle.and_store_laws.proofs.Lists.{contains_first, contains_more, contains_cases, contains_none, contains_there, all_of}
use Rattle.and_handed.specs.Handed.{EndsBy, WasRun, HasFrame, frame_of}
use Rattle.and_handed.specs.declared.told.Cause.{Cause}
use Rattle.and_handed.specs.declared.told.Cause.TheVariants.{NoCandidate}
use Rattle.and_handed.specs.declared.told.Ran.{Ran}
use Rattle.and_handed.specs.declared.told.HandedOn.{HandedOn}
use Rattle.and_gathering.specs.Gathering as gathering
use Rattle.and_gathering.specs.Gathering.{IsGathered, Walks, over, stays}
use Rattle.and_gathering.specs.declared.gathering.Gathered.{Gathered}
use Rattle.and_gathering.specs.declared.links.Taken.{Taken}
use Rattle.and_gathering.specs.declared.links.Taken.TheVariants as variants
use Rattle.and_worker_laws.specs.Acts
use Rattle.and_worker_laws.specs.Acts.{Act, takes, RunInCells, IsThere, HasFailed}
use Rattle.and_worker_laws.specs.Unfolding
use Rattle.and_worker_laws.specs.Unfolding.{Unfolds, AreLeftOf}
use Rattle.and_closing_laws.specs.Phases.{HasPhased}
use Rattle.and_closing_laws.specs.Acting.{Ended, all_ended, seen_before_fail, lesser, AreActsOf, AreAllRuns}
use Rattle.and_closing_laws.proofs.Workers.{told_of_ended, ended_of_told, has_ended, run_short}
use Rattle.and_closing_laws.proofs.Walking.{Apart, body_nodes, body_call, StandsIn, met_stands}
use Rattle.and_closing_laws.proofs.Meeting.{made_met, ran_met, step_met, made_step, one_met, met_from, all_apart, goals_run, goals_run_are}
use Rattle.and_closing_laws.proofs.Cutting.{by_then, then_long}
use Rattle.and_closing_laws.proofs.Entries.{act_by, entry_act, acts_long}
use Rattle.and_closing_laws.proofs.Lists.{in_reverse}
use Rattle.and_closing_laws.proofs.Opening.{same_goal}
use Rattle.and_closing_laws.proofs.Taking.{given_act, act_made}
use Rattle.and_closing_laws.proofs.Calls.{was_done, sole_of}
use Rattle.and_closing_laws.proofs.Running.{was_run, goals_of_runs, cut_at}
use Rattle.and_closing_laws.proofs.Standing.{shorter_begins}
use Rattle.and_closing_laws.proofs.Told.{of_run}

-- the calls that were met, each with its reduction
abbrev calls_taken : List Taken → List (Goal × Reduction)
calls_taken [] = []
calls_taken (variants.Reduced k r ∷ met) = (k, written r) ∷ calls_taken met
calls_taken (variants.Ran k ∷ met) = calls_taken met

listed_taken : (met : List Taken) (k : Goal) (r : Reduction) → Contains (calls_taken met) (k, r)
    → (s : declared.Reduction) × (written s ≡ r) × Contains met (variants.Reduced k s)
listed_taken [] k r c = absurd (contains_none (k, r) c)
listed_taken (variants.Reduced x s ∷ met) k r c = elim (contains_cases (x, written s) (k, r) (calls_taken met) c) [
  | inl is ↦ (
    s,
    ap (λ (p : Goal × Reduction). p.1) (sym is),
    subst (λ (y : Goal). Contains (variants.Reduced x s ∷ met) (variants.Reduced y s)) (ap (λ (p : Goal × Reduction). p.0) (sym is))
        (contains_first (variants.Reduced x s) met),
  )
  | inr there ↦ (let d = listed_taken met k r there in (d.0, d.1, contains_more (variants.Reduced x s) (variants.Reduced k d.0) met d.2))
]
listed_taken (variants.Ran x ∷ met) k r c = let d = listed_taken met k r c in (d.0, d.1, contains_more (variants.Ran x) (variants.Reduced k d.0) met d.2)

-- A walk unfolds the goals.
walks_unfold : (P : Program) {goals left : List Goal} {met : List Taken} → Walks P goals left met → Unfolds P goals left (goals_run met) (calls_taken met)
walks_unfold P over = Unfolding.over
walks_unfold P (stays g gs left met w) = Unfolding.stays g gs left (goals_run met) (calls_taken met) (walks_unfold P w)
walks_unfold P (gathering.ran g gs left met w) = Unfolding.runs g gs left (goals_run met) (calls_taken met) (walks_unfold P w)
walks_unfold P (gathering.reduced g r gs left met behind named w) =
    Unfolding.reduces g (written r) gs left (goals_run met) (calls_taken met) (walks_unfold P w)

-- A worker that knows why the tree is dead has called `fail`.
called_fail : (P : NamedProgram) (told : HandedOn) (p : PassSeen) (c : Option Cause) → c ≢ None → EndsBy P told p c
    → Contains p.pass.seen (entry p.pass.number fails)
called_fail P told p None some ends = absurd (some refl)
called_fail P told p (Some cause) some ends =
    subst (λ (l : List JournalEntry). Contains l (entry p.pass.number fails)) (sym ends.2.1) (contains_there ends.2.0 [] (entry p.pass.number fails))

module _ (P : NamedProgram) (first row : List Ref) (tolds : List HandedOn) (h : HasPhased P first row tolds) (goals : List Goal) (used limit : ℕ) (g : Gathered)
    (q : IsGathered P.program goals used limit tolds g) (long : length first ≡ used) (acts : List Act)
    (are : AreActsOf P (word_at row) (all_ended tolds h.passes) (reverse h.journal) acts) where
  abbrev ended : List Ended
  ended = all_ended tolds h.passes

  -- ---- runs

  module _ (runs : List RunInCells) (all : AreAllRuns P first ended runs) where
    -- What a prefix of the journal has is among the entries of as many acts.
    prefix_entries : (front before : List Act) → acts ≡ front ++ before → (older later : List JournalEntry) → h.journal ≡ older ++ later
        → length older ≡ length before → (e : JournalEntry) → Contains older e
        → (js : List JournalEntry) × AreActsOf P (word_at row) ended js before × Contains js e
    prefix_entries front before is older later parts same e has =
        let b = by_then P (word_at row) ended h.journal acts front before are is in
        let long = then_long P (word_at row) ended h.journal before b in
        let more = shorter_begins older later b.early b.late (sym parts ∙ b.cut) (omega arith) in
        (reverse b.early, b.are, in_reverse b.early e (subst (λ (l : List JournalEntry). Contains l e) (sym more.1) (Contains-append_left older more.0 e has)))

    -- The reduction whose frame the goal has came before.
    frame_before : (front before : List Act) (who : Ended) (r : Ran) → acts ≡ front ++ before → Contains ended who
        → lesser (length r.judged.value.pass.seen) (seen_before_fail (length who.1.pass.seen) who.0.cause) ≡ length before
        → (was : WasRun P first who.0 who.1 r) (f : HasFrame P who.0 who.1 r)
        → Contains before (takes who.1.pass.number f.made.goal (written f.made.reduction))
    frame_before front before who r is one at was f =
        let has = has_ended P first row tolds h q.unspoilt who one in
        let cut = cut_at P who.0 who.1 who.0.cause has.ends r.judged.value.pass.seen was.after was.seen who.1.pass.number
        (frame_of P.program f.made) f.before in
        let parts : h.journal ≡ cut.front ++ (cut.rest ++ has.fits.seen.0) =
        has.fits.seen.1 ∙ ap (λ (l : List JournalEntry). l ++ has.fits.seen.0) cut.is ∙ append_assoc cut.front cut.rest has.fits.seen.0 in
        let some = prefix_entries front before is cut.front (cut.rest ++ has.fits.seen.0) parts (cut.long ∙ at)
        (entry who.1.pass.number (gives (frame_of P.program f.made))) cut.has in
        given_act P first row tolds h q.unspoilt goals used limit g q some.0 before some.1
        (entry who.1.pass.number (gives (frame_of P.program f.made))) some.2 who f.made one f.is refl

    -- The goal of a run was there: at the opening,
    there_by : (front before : List Act) (who : Ended) (r : Ran) → acts ≡ front ++ before → Contains ended who → Contains who.0.ran.items r
        → lesser (length r.judged.value.pass.seen) (seen_before_fail (length who.1.pass.seen) who.0.cause) ≡ length before
        → StandsIn P.program goals q.met r.goal → IsThere P.program goals before r.goal
    there_by front before who r is one among at (inl at_opening) = inl at_opening
    -- or in the frame of a clause that its worker had taken.
    there_by front before who r is one among at (inr b) =
        let was = was_run P first row tolds h q.unspoilt who r one among in
        let nodes = body_nodes P.program b.1 r.goal b.3 in
        let from = met_from P.program goals used limit tolds g q b.0 b.1 b.2 in
        let base = nodes.1 in
        elim was.placed [
          | inl low ↦ absurd (omega arith)
          | inr f ↦ (let same = one_met P.program goals used limit tolds g q f.made.goal b.0 f.made.reduction b.1
              (made_met P.program goals used limit tolds g q who.0 f.made (told_of_ended tolds h.passes who one) f.is) b.2 (f.base ∙ nodes.1) in
              inr (
                who.1.pass.number,
                f.made.goal,
                written f.made.reduction,
                frame_before front before who r is one at was f,
                subst (λ (y : declared.Reduction). Contains (Acts.goals_of_body P.program (written y)) r.goal) (sym same.1) b.3,
              ))
        ]

    pub runs_there : (front before : List Act) (x : RunInCells) → acts ≡ front ++ before → Contains runs x → x.at ≡ length before
        → IsThere P.program goals before x.goal
    runs_there front before x is c at =
        let (who, one, own) = of_run P first ended runs all x c in
        let (r, among, its) = own in
        subst (IsThere P.program goals before) (sym its.goal)
        (there_by front before who r is one among (sym its.at ∙ at) (met_stands P.program q.walks (variants.Ran r.goal)
        (ran_met P.program goals used limit tolds g q who.0 r (told_of_ended tolds h.passes who one) among)))

    pub in_time : All (λ (x : RunInCells). x.at ≤ length acts) runs
    in_time = all_of (λ (x : RunInCells). x.at ≤ length acts) runs (λ x c.
        let (who, one, own) = of_run P first ended runs all x c in
        let (r, among, its) = own in
        let was = was_run P first row tolds h q.unspoilt who r one among in
        let has = has_ended P first row tolds h q.unspoilt who one in
        let at = its.at in
        let short = run_short P first who.0 who.1 r was in
        let e = length-append who.1.pass.seen has.fits.seen.0 in
        let f : length h.journal ≡ length (who.1.pass.seen ++ has.fits.seen.0) = ap (λ (l : List JournalEntry). length l) has.fits.seen.1 in
        let i = length-reverse h.journal in
        let j = acts_long P (word_at row) ended (reverse h.journal) acts are in
        omega arith)

  -- ---- stuck calls

  -- A call for which a worker found no candidate was there.
  pub stuck_there : (who : Ended) (k : Goal) → Contains ended who → who.0.cause ≡ Some (NoCandidate k) → IsThere P.program goals acts k
  stuck_there who k one cause =
      let has = has_ended P first row tolds h q.unspoilt who one in
      let ends : EndsBy P who.0 who.1 (Some (NoCandidate k)) = subst (EndsBy P who.0 who.1) cause has.ends in
      let can = ends.0.0 in
      elim (All-contains (λ (t : HandedOn). (x : Goal) → t.cause ≡ Some (NoCandidate x) → gathering.IsThere goals g.made x) tolds who.0 q.there
      (told_of_ended tolds h.passes who one) k cause) [
        | inl at_opening ↦ inl at_opening
        | inr s ↦ (let item : get_or (clause_at P.program s.0.clause.0).body k.item fail ≡ call can.term =
            ap (λ (c : ClauseNo). get_or (clause_at P.program c.0).body k.item fail) s.3 ∙ can.is_call in
            let body = body_call P.program s.0 k.item can.term item in
            let same : record { node = s.0.node; item = k.item; clause = s.0.clause; base = s.0.node } ≡ k =
            same_goal (record { node = s.0.node; item = k.item; clause = s.0.clause; base = s.0.node }) k s.2 refl
            (ap (λ (c : ClauseNo). c.0) s.3) (s.2 ∙ sym s.4) in
            let step = made_step q.steps g.made q.reductions s.0 s.1 in
            let d = was_done P first row tolds h goals used limit g q long acts are step.0 s.0
            (step_met P.program goals used limit tolds g q step.0 s.0 step.1) in
            inr (d.0, step.0, written s.0, d.1, subst (Contains (Acts.goals_of_body P.program (written s.0))) same body))
      ]

  -- ---- fails

  -- Where the tree was found dead, some worker called `fail`.
  pub has_failed : g.failed ≡ true → HasFailed acts
  has_failed dead =
      let t = q.failed dead in
      let who = ended_of_told P tolds h.passes h.hand_on t.0 t.1 in
      let has = has_ended P first row tolds h q.unspoilt who.0 who.1 in
      let some : who.0.0.cause ≢ None = subst (λ (x : HandedOn). x.cause ≢ None) (sym who.2) t.2 in
      let seen = called_fail P who.0.0 who.0.1 who.0.0.cause some has.ends in
      let e : JournalEntry = entry who.0.1.pass.number fails in
      let there : Contains h.journal e =
      subst (λ (l : List JournalEntry). Contains l e) (sym has.fits.seen.1) (Contains-append_left who.0.1.pass.seen has.fits.seen.0 e seen) in
      let (a, done, is) = entry_act P (word_at row) ended (reverse h.journal) acts are e (in_reverse h.journal e there) in
      (who.0.1.pass.number, subst (Contains acts) (act_by P (word_at row) ended e fails a refl is) done)

  -- ---- what is left

  module _ (apart : AllPairs Apart goals) (old : (x : Goal) → Contains goals x → x.node < used) (runs : List RunInCells)
      (all : AreAllRuns P first ended runs) where
    left_not_taken : (x : Goal) → Contains g.goals.items x → (n : ℕ) (k : Goal) (r : Reduction) → Contains acts (takes n k r)
        → r.parent ≡ x.node → r.item ≡ x.item → ⊥
    left_not_taken x c n k r d parent item =
        let m = act_made P first row tolds h acts are n k r d in
        let sole = sole_of P first row tolds h goals used limit g q long acts are m.0 m.1 m.2 m.3 in
        let met = made_met P.program goals used limit tolds g q m.0.0 m.1 (told_of_ended tolds h.passes m.0 m.2) m.3 in
        (all_apart P.program goals used limit tolds g q apart old).across x (variants.Reduced m.1.goal m.1.reduction) c met
        (sym parent ∙ ap (λ (y : Reduction). y.parent) (sym m.5) ∙ sole.parent) (sym item ∙ ap (λ (y : Reduction). y.item) (sym m.5) ∙ sole.item)

    pub are_left : AreLeftOf P.program goals acts runs g.goals.items
    are_left = record {
      ran = goals_run q.met;
      taken = calls_taken q.met;
      unfolds = walks_unfold P.program q.walks;
      was_taken = λ k r c. (let s = listed_taken q.met k r c in let d = was_done P first row tolds h goals used limit g q long acts are k s.0 s.2 in
          (d.0, subst (λ (y : Reduction). Contains acts (takes d.0 k y)) s.1 d.1));
      not_taken = left_not_taken;
      ran_are = subst (IsPermutation (goals_run q.met)) (sym (goals_of_runs P first row tolds h runs all))
          (goals_run_are P.program goals used limit tolds g q (all_apart P.program goals used limit tolds g q apart old));
      once = λ i j d low high e. (all_apart P.program goals used limit tolds g q apart old).of_left i j d low high
          (ap (λ (y : Goal). y.node) e) (ap (λ (y : Goal). y.item) e);
    }
