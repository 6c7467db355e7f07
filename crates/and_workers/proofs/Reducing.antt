-- A reduction that a worker made: its frame was taken, and what it asks was noted.
use Rattle.std.proofs.Common.{ℕ, ◌≡◌, ◌<◌, ◌≤◌, inl, inr, true, false, List, [], ◌∷◌, ◌++◌, map, length, refl, sym, ap, subst, ◌∙◌}
use Rattle.std.proofs.Common.{append-nil, append_assoc, arith, All, Contains, Bool, Result, Ok, Err}
use Rattle.std.specs.Prelude.{OnOk, filter, nat_eq}
use Rattle.std.specs.declared.alloc.AllocError.{AllocError}
use Rattle.std.proofs.lemmas.List.{map-append}
use Rattle.std.proofs.lemmas.List.Elements.{All-nil, All-cons, All-head, All-weaker, All-append}
use Rattle.std.proofs.lemmas.List.Elements.{Contains-append_left, Contains-append_right, Contains-append_cases}
use Rattle.and_model.specs.Terms.{Substitution}
use Rattle.and_model.specs.Solutions.{Equation, Solves}
use Rattle.and_model.specs.Programs.{Of, clause_at, clause_weight}
use Rattle.and_model.specs.Stands.{term_of}
use Rattle.and_model.specs.declared.goal.Reduction.{Reduction}
use Rattle.and_model.specs.Store.{JournalEntry, Frame, Pass, sets, gives}
use Rattle.and_model.specs.declared.goal.Goal.{Goal}
use Rattle.and_model.specs.declared.limits.TheConstants.{MAX_LIMIT}
use Rattle.and_model.specs.declared.numbers.ClauseNo.{ClauseNo}
use Rattle.and_model.specs.declared.reference.Ref.{Ref}
use Rattle.and_program.specs.Skeletons
use Rattle.and_program.specs.Skeletons.{node_term}
use Rattle.and_program.specs.Loaded.{nodes_at}
use Rattle.and_program.specs.declared.loaded.Loaded.{Loaded}
use Rattle.and_cells.specs.Parts.{named}
use Rattle.and_laws.proofs.Deciding.{of_bounds}
use Rattle.and_branch_laws.proofs.Clauses.{goal_clause_there}
use Rattle.and_branch_laws.specs.OwnVariables.{IsLoaded}
use Rattle.and_branch_laws.specs.Reducing.{reduction_in_cells}
use Rattle.and_cells.specs.Ranges.{NamedProgram, IsInRange}
use Rattle.and_cells.specs.Seen.{Seen, IsWrittenIfNumber}
use Rattle.and_cells.specs.Meaning.{Words}
use Rattle.and_clause_index.specs.Selecting.{CanBeTried, AreLeft}
use Rattle.and_workers.specs.Waiting.{Waiting}
use Rattle.and_unify.specs.declared.pairs.Pair.{Pair}
use Rattle.and_unify.specs.Pairs.{equations_of_pairs, NameNoHalf}
use Rattle.and_store.specs.Calls.{TakesFrame, GetsNone}
use Rattle.and_store.specs.Passes.{PassSeen, StoreId}
use Rattle.and_store.specs.Worked.{seen_by, shown}
use Rattle.and_store_laws.proofs.Lists.{contains_first, contains_cases, contains_none}
use Rattle.and_store_laws.specs.Steps.{entry}
use Rattle.and_workers.specs.Asking.{Notes, call_pair, item_pairs, has_fail}
use Rattle.and_workers.specs.AtWork.{IsAtWork, IsNoted}
use Rattle.and_workers.specs.Items.{IsItemOver}
use Rattle.and_handed.specs.Handed.{SolvesAsked, IsKnownRun, FitsSeen, IsWholeFrame, asked_by, frame_of}
use Rattle.and_handed.specs.Handed.{IsSole, WasRun, PairsLeft, HasActed, HasDone, Kills}
use Rattle.and_handed.specs.declared.told.Cause.TheVariants.{NoSolution}
use Rattle.and_handed.specs.declared.told.Reduced.{Reduced}
use Rattle.and_handed.specs.declared.told.Ran.{Ran}
use Rattle.and_handed.specs.declared.told.HandedOn.{HandedOn}
use Rattle.and_workers.proofs.Asked.{Asks, reduction_asked, failing_reduction}
use Rattle.and_workers.proofs.Learning.{others_hang, fits_same}
use Rattle.and_workers.proofs.Quiet.{SawOnly, SetHalves, saw_done, front_is_short, all_set_more, hanging_sets_halves}
use Rattle.and_workers.proofs.Solving.{solves_first_pairs, solves_last_pairs, solves_both_pairs}
use Rattle.and_workers.proofs.Steps.{AllStand}

-- ---- A frame was taken

-- the pass that took a frame, but with the frames that it had
abbrev unframed : (p q : PassSeen) → PassSeen
unframed p q = record q { pass = record q.pass { frames = p.pass.frames } }

taking_sets_nothing : (words base weight : ℕ) (p q : Pass) (f : TakesFrame words base weight p q)
    → SetHalves p.number (f.sees.since ++ entry p.number (gives (record { base = base; weight = weight })) ∷ [])
taking_sets_nothing words base weight p q f e among same s is =
    let last : JournalEntry = entry p.number (gives (record { base = base; weight = weight })) in
    elim (Contains-append_cases f.sees.since (last ∷ []) e among) [
      | inl early ↦ hanging_sets_halves p.number f.sees.since (others_hang p f.sees.since f.sees.of_others) e early same s is
      | inr late ↦ elim (contains_cases last e [] late) [
        | inl here ↦ (let made : gives (record { base = base; weight = weight }) ≡ sets s = ap (λ (e : JournalEntry). e.made) (sym here) ∙ is in absurd (cc))
        | inr more ↦ absurd (contains_none e more)
      ]
    ]

saw_taking : (words base weight : ℕ) (p q : PassSeen) → q.store ≡ p.store → TakesFrame words base weight p.pass q.pass → SawOnly p (unframed p q)
saw_taking words base weight p q store f = record {
  store = store;
  number = ap (λ (x : Pass). x.number) f.becomes;
  since = f.sees.since ++ entry p.pass.number (gives (record { base = base; weight = weight })) ∷ [];
  seen = f.sees.seen ∙ append_assoc p.pass.seen f.sees.since (entry p.pass.number (gives (record { base = base; weight = weight })) ∷ []);
  sets_halves = taking_sets_nothing words base weight p.pass q.pass f;
  frames = refl;
  learnt = [];
  known = ap (λ (x : Pass). x.known) f.becomes ∙ sym (append-nil p.pass.known);
}

-- ---- What was noted

module _ (P : NamedProgram) (told now : HandedOn) (goal : Goal) (clause : ClauseNo) (words floor weight : ℕ) (p q : PassSeen)
    (notes : Notes goal clause floor p told now) (store : q.store ≡ p.store)
    (takes : TakesFrame words floor weight p.pass q.pass)
    (weighs : weight ≡ clause_weight (clause_at P.program clause.0)) where
  old_is_noted : (x : Reduced) → Contains told.made.items x → Contains now.made.items x
  old_is_noted x among = subst (λ l. Contains l x) (sym notes.made) (Contains-append_left told.made.items (notes.one ∷ []) x among)

  one_is_noted : Contains now.made.items notes.one
  one_is_noted = subst (λ l. Contains l notes.one) (sym notes.made)
      (Contains-append_right told.made.items (notes.one ∷ []) notes.one (contains_first notes.one []))

  run_is_noted : (r : Ran) → Contains told.ran.items r → Contains now.ran.items r
  run_is_noted r among = subst (λ l. Contains l r) (sym notes.ran) among

  fits_noted : (w : Words) → FitsSeen P now q w → FitsSeen P told (unframed p q) w
  fits_noted w fits = record {
    has = fits.has;
    made = λ x among. fits.made x (old_is_noted x among);
    ran = λ r among. fits.ran r (run_is_noted r among);
  }

  asked_noted : (first : List Ref) (long : ℕ) (t : Substitution) → SolvesAsked P first now long t → SolvesAsked P first told long t
  asked_noted first long t asked = record {
    made = λ x among before. asked.made x (old_is_noted x among) before;
    ran = λ r among before. asked.ran r (run_is_noted r among) before;
  }

  -- the reduction's frame
  frame_is : frame_of P.program notes.one ≡ record { base = floor; weight = weight }
  frame_is =
      ap (λ (r : Reduction). record { base = r.node; weight = clause_weight (clause_at P.program r.clause.0) }) notes.reduction_is
      ∙ ap (λ (n : ℕ). record { base = floor; weight = n }) (sym weighs)

  asked_is : asked_by P.program notes.one ≡ reduction_in_cells P.program goal clause.0 floor
  asked_is =
      ap (λ (g : Goal). reduction_in_cells P.program g notes.one.reduction.clause.0 notes.one.reduction.node) notes.goal_is
      ∙ ap (λ (r : Reduction). reduction_in_cells P.program goal r.clause.0 r.node) notes.reduction_is

  -- The call was judged, and its frame taken next.
  is_sole : CanBeTried P p.store.about.words goal → AreLeft P (seen_by p) goal (clause ∷ []) → AllStand p.store.about.first p.pass.seen p.pass.known
      → IsSole P q notes.one
  is_sole can sole stand = record {
    can = subst (λ (s : StoreId). CanBeTried P s.about.words notes.one.goal) (sym store) (subst (CanBeTried P p.store.about.words) (sym notes.goal_is) can);
    parent = ap (λ (r : Reduction). r.parent) notes.reduction_is ∙ ap (λ (g : Goal). g.node) (sym notes.goal_is);
    item = ap (λ (r : Reduction). r.item) notes.reduction_is ∙ ap (λ (g : Goal). g.item) (sym notes.goal_is);
    sole = subst (λ (j : PassSeen). AreLeft P (shown q.store.about.words j.pass) notes.one.goal (notes.one.reduction.clause ∷ [])) (sym notes.judged_is)
        (subst (λ (s : StoreId). AreLeft P (shown s.about.words p.pass) notes.one.goal (notes.one.reduction.clause ∷ [])) (sym store)
        (subst (λ (r : Reduction). AreLeft P (seen_by p) notes.one.goal (r.clause ∷ [])) (sym notes.reduction_is)
        (subst (λ (g : Goal). AreLeft P (seen_by p) g (clause ∷ [])) (sym notes.goal_is) sole)));
    knows = subst (λ (j : PassSeen). AllStand q.store.about.first j.pass.seen j.pass.known) (sym notes.judged_is)
        (subst (λ (s : StoreId). AllStand s.about.first p.pass.seen p.pass.known) (sym store) stand);
    since = takes.sees.since;
    of_others = subst (λ (n : ℕ). filter (λ (e : JournalEntry). nat_eq e.pass n) takes.sees.since ≡ []) (sym (ap (λ (x : Pass). x.number) takes.becomes))
        takes.sees.of_others;
    after = [];
    taken = takes.sees.seen
        ∙ ap (λ (j : PassSeen). (j.pass.seen ++ takes.sees.since) ++ entry p.pass.number (gives (record { base = floor; weight = weight })) ∷ [])
        (sym notes.judged_is)
        ∙ ap (λ (n : ℕ). (notes.one.judged.value.pass.seen ++ takes.sees.since) ++ entry n (gives (record { base = floor; weight = weight })) ∷ [])
        (sym (ap (λ (x : Pass). x.number) takes.becomes))
        ∙ ap (λ (f : Frame). (notes.one.judged.value.pass.seen ++ takes.sees.since) ++ entry q.pass.number (gives f) ∷ []) (sym frame_is);
  }

  old_sole : (x : Reduced) → IsSole P (unframed p q) x → IsSole P q x
  old_sole x s = record {
    can = s.can;
    parent = s.parent;
    item = s.item;
    sole = s.sole;
    knows = s.knows;
    since = s.since;
    of_others = s.of_others;
    after = s.after;
    taken = s.taken;
  }

  old_run : (r : Ran) → WasRun P p.store.about.first told (unframed p q) r → WasRun P q.store.about.first now q r
  old_run r run = record {
    placed = elim run.placed [
      | inl early ↦ inl (subst (λ (s : StoreId). r.goal.base < length s.about.first) (sym store) early)
      | inr f ↦ inr (record { made = f.made; is = old_is_noted f.made f.is; base = f.base; clause = f.clause; before = f.before })
    ];
    known = subst (λ (s : StoreId). IsKnownRun P s.about.first r) (sym store) run.known;
    after = run.after;
    seen = run.seen;
  }

  old_done : HasDone P told (told.pairs ++ []) p → HasDone P told (told.pairs ++ []) (unframed p q)
  old_done done = saw_done P told (told.pairs ++ []) p (unframed p q) (saw_taking words floor weight p q store takes) done

  pub reduction_acted : CanBeTried P p.store.about.words goal → AreLeft P (seen_by p) goal (clause ∷ [])
      → AllStand p.store.about.first p.pass.seen p.pass.known → HasDone P told (told.pairs ++ []) p → HasActed P now q
  reduction_acted can sole stand done =
      let old = (old_done done).acted in
      record {
        frames = ap (λ (x : Pass). x.frames) takes.becomes ∙ ap (λ (fs : List Frame). fs ++ record { base = floor; weight = weight } ∷ []) old.frames
            ∙ ap (λ (f : Frame). map (frame_of P.program) told.made.items ++ f ∷ []) (sym frame_is)
            ∙ sym (map-append (frame_of P.program) told.made.items (notes.one ∷ []))
            ∙ ap (map (frame_of P.program)) (sym notes.made);
        made = subst (All (IsSole P q)) (sym notes.made) (All-append (IsSole P q) told.made.items (notes.one ∷ [])
            (All-weaker (IsSole P (unframed p q)) (IsSole P q) old_sole told.made.items old.made)
            (All-cons (IsSole P q) notes.one [] (is_sole can sole stand) (All-nil (IsSole P q))));
        ran = subst (All (WasRun P q.store.about.first now q)) (sym notes.ran)
            (All-weaker (WasRun P q.store.about.first told (unframed p q)) (WasRun P q.store.about.first now q)
            (λ r run. old_run r (subst (λ (s : StoreId). WasRun P s.about.first told (unframed p q) r) store run)) told.ran.items old.ran);
        settings = λ before after s is half w fits t solves asked.
            old.settings before after s is half w (fits_noted w fits) t solves (asked_noted q.store.about.first (length before) t asked);
      }

  -- The reduction solves what it asks.
  one_asked : (w : Words) (t : Substitution) → SolvesAsked P q.store.about.first now (length q.pass.seen) t
      → Solves t (reduction_in_cells P.program goal clause.0 floor)
  one_asked w t asked =
      let shorter : length notes.one.judged.value.pass.seen ≤ length q.pass.seen =
      (let judged = ap (λ (j : PassSeen). length j.pass.seen) notes.judged_is in
      let longer = front_is_short q.pass.seen p.pass.seen (takes.sees.since ++ entry p.pass.number (gives (record { base = floor; weight = weight })) ∷ [])
      (takes.sees.seen ∙ append_assoc p.pass.seen takes.sees.since (entry p.pass.number (gives (record { base = floor; weight = weight })) ∷ [])) in
      omega arith) in
      subst (λ (es : List Equation). Solves t es) asked_is (asked.made notes.one one_is_noted shorter)

  -- Where a body has `fail` nothing solves what was asked.
  pub reduction_kills : ((t : Substitution) → Solves t (reduction_in_cells P.program goal clause.0 floor) → ⊥) → Kills P now q NoSolution
  reduction_kills none w fits t solves asked = none t (one_asked w t asked)

  module _ (Whole : Words → Type 0) (pairs : List Pair) (asks : Asks P p.store.about.words Whole pairs (reduction_in_cells P.program goal clause.0 floor))
      (whole_is : (w : Words) → FitsSeen P now q w → Whole w) where
    none_before : HasDone P told (told.pairs ++ []) p → PairsLeft P told told.pairs (unframed p q)
    none_before done = subst (λ (ps : List Pair). PairsLeft P told ps (unframed p q)) (append-nil told.pairs) (old_done done).pairs_left

    all_asked : (w : Words) → FitsSeen P now q w → (t : Substitution) → SolvesAsked P q.store.about.first told (length q.pass.seen) t
        → Solves t (equations_of_pairs P w pairs) → SolvesAsked P q.store.about.first now (length q.pass.seen) t
    all_asked w fits t asked solved = record {
      made = λ x among before. elim (Contains-append_cases told.made.items (notes.one ∷ []) x (subst (λ l. Contains l x) notes.made among)) [
        | inl early ↦ asked.made x early before
        | inr late ↦ elim (contains_cases notes.one x [] late) [
          | inl here ↦ subst (λ (z : Reduced). Solves t (asked_by P.program z)) (sym here)
              (subst (λ (es : List Equation). Solves t es) (asks.equations w (whole_is w fits) ∙ sym asked_is) solved)
          | inr more ↦ absurd (contains_none x more)
        ]
      ];
      ran = λ r among before. asked.ran r (subst (λ l. Contains l r) notes.ran among) before;
    }

    reduction_pairs : HasDone P told (told.pairs ++ []) p → PairsLeft P now (told.pairs ++ pairs) q
    reduction_pairs done =
        let old = none_before done in
        record {
          in_range = All-append (λ (e : Pair). IsInRange P q.store.about.words e.left × IsInRange P q.store.about.words e.right) told.pairs pairs old.in_range
              (subst (λ (s : StoreId). All (λ (e : Pair). IsInRange P s.about.words e.left × IsInRange P s.about.words e.right) pairs) (sym store)
              asks.in_range);
          written = All-append (λ (e : Pair). IsWrittenIfNumber (seen_by q) e.left × IsWrittenIfNumber (seen_by q) e.right) told.pairs pairs old.written
              (asks.written (seen_by q));
          asked = λ w fits t solves asked. solves_both_pairs P w t told.pairs pairs
              (old.asked w (fits_noted w fits) t solves (asked_noted q.store.about.first (length q.pass.seen) t asked))
              (subst (λ (es : List Equation). Solves t es) (sym (asks.equations w (whole_is w fits))) (one_asked w t asked));
          all = λ w fits t solves solved. all_asked w fits t
              (old.all w (fits_noted w fits) t solves (solves_first_pairs P w t told.pairs pairs solved)) (solves_last_pairs P w t told.pairs pairs solved);
        }

    pub reduction_at_work : (waiting : List Waiting) → CanBeTried P p.store.about.words goal → AreLeft P (seen_by p) goal (clause ∷ [])
        → IsAtWork P told [] waiting p → IsAtWork P now pairs waiting q
    reduction_at_work waiting can sole work = record {
      done = record {
        acted = reduction_acted can sole work.known work.done;
        pairs_left = subst (λ (ps : List Pair). PairsLeft P now (ps ++ pairs) q) (sym notes.pairs) (reduction_pairs work.done);
      };
      no_fail = ap (λ (x : Pass). x.fails) takes.becomes ∙ work.no_fail;
      known = subst (λ (s : StoreId). AllStand s.about.first q.pass.seen q.pass.known) (sym store)
          (subst (AllStand p.store.about.first q.pass.seen) (sym (ap (λ (x : Pass). x.known) takes.becomes))
          (subst (λ (es : List JournalEntry). AllStand p.store.about.first es p.pass.known)
          (sym (takes.sees.seen ∙ append_assoc p.pass.seen takes.sees.since (entry p.pass.number (gives (record { base = floor; weight = weight })) ∷ [])))
          (all_set_more p.store.about.first p.pass.seen (takes.sees.since ++ entry p.pass.number (gives (record { base = floor; weight = weight })) ∷ [])
          p.pass.known work.known)));
      fit = fits_same P p q store (ap (λ (x : Pass). x.known) takes.becomes) work.fit;
      waits = subst (λ (s : StoreId). All (λ (w : Waiting). w.cell < s.about.words) waiting) (sym store) work.waits;
      live = notes.cause ∙ work.live;
    }

    pub reduction_whole : (w : Words) → FitsSeen P now q w → NameNoHalf P w pairs
    reduction_whole w fits = asks.whole w (whole_is w fits)

-- ---- A reduction of a call over the words

-- A call over the words can be tried.
pub call_can_be_tried : (P : NamedProgram) (words : ℕ) (g : Goal) (n : ℕ) → IsItemOver P words g (Skeletons.call n) → CanBeTried P words g
call_can_be_tried P words g n over = record {
  in_range = over.in_range;
  term = node_term P.skeleton.nodes n;
  is_call = sym over.is_item;
}

module _ (P : NamedProgram) (loaded : IsLoaded P) (told now : HandedOn) (goal : Goal) (n : ℕ) (clause : ClauseNo) (words floor weight : ℕ) (p q : PassSeen)
    (notes : Notes goal clause floor p told now) (store : q.store ≡ p.store) (words_are : p.store.about.words ≡ words)
    (takes : TakesFrame words floor weight p.pass q.pass) (weighs : weight ≡ clause_weight (clause_at P.program clause.0)) (short : words ≤ MAX_LIMIT)
    (over : IsItemOver P words goal (Skeletons.call n)) (sole : AreLeft P (seen_by p) goal (clause ∷ [])) (waiting : List Waiting)
    (work : IsAtWork P told [] waiting p) where
  over_pass : IsItemOver P p.store.about.words goal (Skeletons.call n)
  over_pass = subst (λ (k : ℕ). IsItemOver P k goal (Skeletons.call n)) (sym words_are) over

  can : CanBeTried P p.store.about.words goal
  can = call_can_be_tried P p.store.about.words goal n over_pass

  there : clause.0 ≤ length P.program.clauses
  there = (of_bounds P.program (term_of P.program goal) clause.0
      (All-head (λ (c : ClauseNo). Of P.program (term_of P.program goal) c.0) clause [] sole.of)).1

  -- the frames of the call and of the clause
  abbrev AreWhole : Words → Type 0
  AreWhole w = IsWholeFrame P w goal.clause.0 goal.base × IsWholeFrame P w clause.0 floor

  are_whole : (w : Words) → FitsSeen P now q w → AreWhole w
  are_whole w fits =
      let both = fits.made notes.one (one_is_noted P told now goal clause words floor weight p q notes store takes weighs) in (
        subst (λ (g : Goal). IsWholeFrame P w g.clause.0 g.base) notes.goal_is both.0,
        subst (λ (r : Reduction). IsWholeFrame P w r.clause.0 r.node) notes.reduction_is both.1,
      )

  -- the pairs of the reduction
  abbrev pub its_pairs : List Pair
  its_pairs = call_pair P goal.base n clause.0 floor ∷ item_pairs P floor (nodes_at P.skeleton clause.0).items

  its_asks : has_fail (nodes_at P.skeleton clause.0).items ≡ false
      → Asks P p.store.about.words AreWhole its_pairs (reduction_in_cells P.program goal clause.0 floor)
  its_asks none =
      let within = takes.within in
      reduction_asked P loaded p.store.about.words goal n over_pass (goal_clause_there P loaded p.store.about.words goal over_pass.in_range)
      clause.0 floor there
      (omega arith) (omega arith) none

  pub reduced_at_work : has_fail (nodes_at P.skeleton clause.0).items ≡ false → IsAtWork P now its_pairs waiting q
  reduced_at_work none =
      reduction_at_work P told now goal clause words floor weight p q notes store takes weighs AreWhole its_pairs (its_asks none) are_whole waiting can
      sole work

  pub reduced_whole : has_fail (nodes_at P.skeleton clause.0).items ≡ false → (w : Words) → FitsSeen P now q w → NameNoHalf P w its_pairs
  reduced_whole none =
      reduction_whole P told now goal clause words floor weight p q notes store takes weighs AreWhole its_pairs (its_asks none) are_whole

  pub reduced_acted : HasActed P now q
  reduced_acted = reduction_acted P told now goal clause words floor weight p q notes store takes weighs can sole work.known work.done

  pub reduced_kills : has_fail (nodes_at P.skeleton clause.0).items ≡ true → Kills P now q NoSolution
  reduced_kills fails =
      reduction_kills P told now goal clause words floor weight p q notes store takes weighs (failing_reduction P loaded goal clause.0 floor there fails)

-- the clause that is left is one of the program's
pub sole_is_there : (P : NamedProgram) (s : Seen) (g : Goal) (clause : ClauseNo) → AreLeft P s g (clause ∷ []) → clause.0 ≤ length P.program.clauses
sole_is_there P s g clause sole = (of_bounds P.program (term_of P.program g) clause.0
    (All-head (λ (c : ClauseNo). Of P.program (term_of P.program g) c.0) clause [] sole.of)).1

-- what is known stays where no frame was got
pub refused_known : (words weight : ℕ) (p q : Pass) → GetsNone words weight p q → q.known ≡ p.known
refused_known words weight p q (inl same) = ap (λ (x : Pass). x.known) same.1
refused_known words weight p q (inr r) = ap (λ (x : Pass). x.known) r.1.becomes

-- ---- What came of noting it

module _ (P : NamedProgram) (l : Loaded) (program : P ≡ named l) (loaded : IsLoaded P) (told now : HandedOn) (goal : Goal) (n : ℕ) (clause : ClauseNo)
    (row words floor weight : ℕ) (p q judged : PassSeen) (waiting : List Waiting) (pairs : List Pair) (row_is : row ≡ words)
    (taken : (judged ≡ p) × TakesFrame words floor weight p.pass q.pass) (store : q.store ≡ p.store) (words_are : p.store.about.words ≡ words)
    (weighs : weight ≡ clause_weight (clause_at (named l).program clause.0)) (short : row ≤ MAX_LIMIT)
    (over : IsItemOver P row goal (Skeletons.call n)) (sole : AreLeft P (seen_by p) goal (clause ∷ []))
    (work : IsAtWork P told [] waiting p) where
  its_notes : Notes goal clause floor judged told now → Notes goal clause floor p told now
  its_notes noted = subst (λ (j : PassSeen). Notes goal clause floor j told now) taken.0 noted

  its_weight : weight ≡ clause_weight (clause_at P.program clause.0)
  its_weight = subst (λ (Q : NamedProgram). weight ≡ clause_weight (clause_at Q.program clause.0)) (sym program) weighs

  over_words : IsItemOver P words goal (Skeletons.call n)
  over_words = subst (λ (k : ℕ). IsItemOver P k goal (Skeletons.call n)) row_is over

  few_words : words ≤ MAX_LIMIT
  few_words = subst (λ (k : ℕ). k ≤ MAX_LIMIT) row_is short

  fails : (b : Bool) → has_fail (nodes_at (named l).skeleton clause.0).items ≡ b → has_fail (nodes_at P.skeleton clause.0).items ≡ b
  fails b = subst (λ (Q : NamedProgram). has_fail (nodes_at Q.skeleton clause.0).items ≡ b) (sym program)

  pairs_are : pairs ≡ call_pair (named l) goal.base n clause.0 floor ∷ item_pairs (named l) floor (nodes_at (named l).skeleton clause.0).items
      → call_pair P goal.base n clause.0 floor ∷ item_pairs P floor (nodes_at P.skeleton clause.0).items ≡ pairs
  pairs_are asked = sym (subst (λ (Q : NamedProgram). pairs ≡ call_pair Q goal.base n clause.0 floor
      ∷ item_pairs Q floor (nodes_at Q.skeleton clause.0).items) (sym program) asked)

  pub noted_so : (result : Result Bool AllocError) → OnOk result (Notes goal clause floor judged told now)
      → (result ≡ Ok true → pairs ≡ call_pair (named l) goal.base n clause.0 floor
      ∷ item_pairs (named l) floor (nodes_at (named l).skeleton clause.0).items)
      → (result ≡ Ok true → has_fail (nodes_at (named l).skeleton clause.0).items ≡ false)
      → (result ≡ Ok false → has_fail (nodes_at (named l).skeleton clause.0).items ≡ true) → IsNoted P now pairs waiting q result
  noted_so (Ok true) noted asked none failing = (
    subst (λ (ps : List Pair). IsAtWork P now ps waiting q) (pairs_are (asked refl))
        (reduced_at_work P loaded told now goal n clause words floor weight p q (its_notes noted) store words_are taken.1 its_weight few_words over_words
        sole waiting work (fails false (none refl))),
    subst (λ (ps : List Pair). (w : Words) → FitsSeen P now q w → NameNoHalf P w ps) (pairs_are (asked refl))
        (reduced_whole P loaded told now goal n clause words floor weight p q (its_notes noted) store words_are taken.1 its_weight few_words over_words
        sole waiting work (fails false (none refl))),
  )
  noted_so (Ok false) noted asked none failing = (
    (its_notes noted).cause ∙ work.live,
    ap (λ (x : Pass). x.fails) taken.1.becomes ∙ work.no_fail,
    reduced_acted P loaded told now goal n clause words floor weight p q (its_notes noted) store words_are taken.1 its_weight few_words over_words sole
        waiting work,
    reduced_kills P loaded told now goal n clause words floor weight p q (its_notes noted) store words_are taken.1 its_weight few_words over_words sole
        waiting work (fails true (failing refl)),
  )
  noted_so (Err e) noted asked none failing = tt
