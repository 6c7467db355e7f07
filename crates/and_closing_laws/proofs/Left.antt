-- What the workers of a phase leave in the row and in pairs.
use Rattle.std.proofs.Common.{ℕ, ◌+◌, ◌≡◌, inl, inr, false, List, [], ◌∷◌, ◌++◌, map, reverse, flat_map, length, Option, Some, None}
use Rattle.std.proofs.Common.{refl, sym, ap, subst, ◌∙◌, append-nil, arith, Contains}
use Rattle.std.proofs.lemmas.List.Elements.{All-contains, Contains-append_left, Contains-append_right, Contains-append_cases}
use Rattle.and_laws.proofs.Placing.{place_more}
use Rattle.and_laws.proofs.Solving.{solves_front, solves_back, solves_join}
use Rattle.and_model.specs.Terms.{Path, Substitution}
use Rattle.and_model.specs.Solutions.{Equation, Solves}
use Rattle.and_model.specs.Trees.{QueryTree, weight}
use Rattle.and_model.specs.Reductions.{Reduction, PlaceHas}
use Rattle.and_model.specs.Stands.{Framed, IsFramed, ClauseHas}
use Rattle.and_model.specs.Store.{JournalEntry, is_half}
use Rattle.and_model.specs.declared.goal as declared
use Rattle.and_model.specs.declared.goal.Goal.{Goal}
use Rattle.and_model.specs.declared.reference.Ref.{Ref}
use Rattle.and_cells.specs.Ranges.{NamedProgram}
use Rattle.and_cells.specs.Seen.{word_at}
use Rattle.and_cells.specs.Meaning.{equations_of, equations_between, shallow_cells}
use Rattle.and_code.specs.Written.{written, all_written}
use Rattle.and_model.specs.declared.goal.Frame.{Frame}
use Rattle.and_branch_laws.specs.Kept.{Kept, goal_of}
use Rattle.and_branch_laws.specs.Reducing.{reduction_in_cells}
use Rattle.and_branch_laws.specs.Variables.{IsVariable}
use Rattle.and_branch_laws.proofs.Places.{clause_place}
use Rattle.and_store_laws.proofs.Lists.{contains_first, contains_more, contains_cases, contains_none, map_contains, contains_flat, flat_contains, map_append}
use Rattle.and_unify.specs.Pairs.{equations_of_pairs}
use Rattle.and_unify.specs.declared.pairs.Pair.{Pair}
use Rattle.and_worker_laws.specs.Acts
use Rattle.and_worker_laws.specs.Acts.{Act, RunInCells, asked, all_added, added_by_run}
use Rattle.and_worker_laws.specs.Facts.{known_by}
use Rattle.and_worker_laws.specs.Leavings.{IsCellOf, IsLeftIn}
use Rattle.and_handed.specs.Handed.{SolvesAll, SolvesAsked, PairsLeft, EndsBy}
use Rattle.and_handed.specs.declared.told.Cause.{Cause}
use Rattle.and_handed.specs.declared.told.HandedOn.{HandedOn}
use Rattle.and_gathering.specs.Gathering.{IsGathered}
use Rattle.and_gathering.specs.declared.gathering.Gathered.{Gathered}
use Rattle.and_row_check.specs.Places.{all_frames, IsWhole, IsVariableCell, IsSideWhole, ArePairsWhole}
use Rattle.and_closing_laws.specs.Acting.{Ended, all_ended}
use Rattle.and_closing_laws.specs.Phases.{HasPhased}
use Rattle.and_closing_laws.proofs.Asked.{sole_of, run_of, reaches_all, asked_from}
use Rattle.and_closing_laws.proofs.Entries.{act_entry, of_takes}
use Rattle.and_closing_laws.proofs.Frames.{clause_frame, frame_clause, frame_is_whole}
use Rattle.and_closing_laws.proofs.Making.{phase}
use Rattle.and_closing_laws.proofs.Settings.{names}
use Rattle.and_closing_laws.proofs.Workers.{told_of_ended, ended_of_told, judged_short, run_short}
use Rattle.and_closing_laws.proofs.Phase.{Phase, seated, settings_in}
use Rattle.and_closing_laws.proofs.Numbering.{taken_listed, listed_taken}
use Rattle.and_closing_laws.proofs.Placing.{act_place}
use Rattle.and_closing_laws.proofs.Saying.{known_solves, row_knows, knows_row}
use Rattle.and_closing_laws.proofs.Speaking.{between_speaks, flat_speaks, row_speaks}
use Rattle.and_closing_laws.proofs.Structure.{Structure}
use Rattle.and_closing_laws.proofs.Told.{asked_has, says_asked, added_has, says_added, of_run, solved_run}

-- ---- Equations of lists

solves_flat : (t : Substitution) {X : Type 0} (f : X → List Equation) (xs : List X) → ((x : X) → Contains xs x → Solves t (f x)) → Solves t (flat_map f xs)
solves_flat t f [] all = tt
solves_flat t f (x ∷ xs) all = solves_join t (f x) (flat_map f xs) (all x (contains_first x xs)) (solves_flat t f xs (λ y c. all y (contains_more x y xs c)))

flat_solves : (t : Substitution) {X : Type 0} (f : X → List Equation) (xs : List X) → Solves t (flat_map f xs) → (x : X) → Contains xs x → Solves t (f x)
flat_solves t f [] solves x among = absurd (contains_none x among)
flat_solves t f (y ∷ xs) solves x among = elim (contains_cases y x xs among) [
  | inl same ↦ subst (λ z. Solves t (f z)) (sym same) (solves_front t (f y) (flat_map f xs) solves)
  | inr more ↦ flat_solves t f xs (solves_back t (f y) (flat_map f xs) solves) x more
]

-- ---- What was asked, and the pairs

module _ (P : NamedProgram) (opening : List Goal) (first row : List Ref) (journal : List JournalEntry) (words : ℕ) (ended : List Ended)
    (acts : List Act) (runs : List RunInCells) (phase : Phase P opening first row journal words ended acts runs)
    (who : Ended) (one : Contains ended who) (t : Substitution) (known : Solves t (known_by (equations_of P first) acts)) where
  solves_seen : SolvesAll P (word_at row) first who.1.pass.seen t
  solves_seen s among whole =
      let (rest, begins) = (phase.workers who one).fits.seen in
      known_solves P opening first row journal words ended acts runs phase journal [] (sym (append-nil journal)) acts phase.are_acts t known s
      (settings_in first who.1.pass.seen rest journal begins s among) whole

  -- What solves all that was asked solves what the worker did.
  asked_in_end : Solves t (asked P.program acts) → Solves t (all_added runs) → SolvesAsked P first who.0 (length who.1.pass.seen) t
  asked_in_end asks adds =
      asked_from P opening first row journal words ended acts runs phase who one journal [] (sym (append-nil journal)) acts phase.are_acts
      (length who.1.pass.seen) (reaches_all P opening first row journal words ended acts runs phase who one) t known
      (λ m c. asked_has P.program t acts who.1.pass.number m.goal (written m.reduction) c asks)
      (λ x c worker early. added_has t runs x c adds)

  pairs_of : (cause : Option Cause) → cause ≡ None → EndsBy P who.0 (seated first words who.1) cause
      → PairsLeft P who.0 who.0.pairs (seated first words who.1)
  pairs_of None lives ends = ends.1.pairs_left
  pairs_of (Some why) lives ends = absurd (cc)

  -- So its pairs follow,
  pub pairs_follow : who.0.cause ≡ None → Solves t (asked P.program acts) → Solves t (all_added runs)
      → Solves t (equations_of_pairs P (word_at row) who.0.pairs)
  pairs_follow lives asks adds =
      let worker = phase.workers who one in
      (pairs_of who.0.cause lives worker.ends).asked (word_at row) worker.whole t solves_seen (asked_in_end asks adds)

  -- and what it asked follows from its pairs.
  pub pairs_ask : who.0.cause ≡ None → Solves t (equations_of_pairs P (word_at row) who.0.pairs)
      → SolvesAsked P first who.0 (length who.1.pass.seen) t
  pairs_ask lives pairs =
      let worker = phase.workers who one in
      (pairs_of who.0.cause lives worker.ends).all (word_at row) worker.whole t solves_seen pairs

-- ---- At the end

module _ (P : NamedProgram) (opening : List Goal) (first row : List Ref) (journal : List JournalEntry) (words : ℕ) (ended : List Ended)
    (acts : List Act) (runs : List RunInCells) (phase : Phase P opening first row journal words ended acts runs)
    (t : Substitution) (all : (who : Ended) → Contains ended who → SolvesAsked P first who.0 (length who.1.pass.seen) t) where
  pub all_asked : Solves t (asked P.program acts)
  all_asked = says_asked P.program t acts (λ n g r done.
      let (e, among, act) = act_entry P (word_at row) ended (reverse journal) acts phase.are_acts (Acts.takes n g r) done in
      let of = of_takes P (word_at row) ended e n g r act in
      let who : Ended = of.taking.who in
      let made = of.taking.made in
      let this = of.taking.is in
      let goal : g ≡ made.goal = cc in
      let reduction : r ≡ written made.reduction = cc in
      let sole = sole_of P opening first row journal words ended acts runs phase who of.taking.one made of.taking.among in
      let short = judged_short P (seated first words who.1) made sole in
      let asks = (all who of.taking.one).made made of.taking.among (omega arith) in
      subst (λ g. Solves t (reduction_in_cells P.program g r.clause r.node)) (sym goal)
      (subst (λ (z : Reduction). Solves t (reduction_in_cells P.program made.goal z.clause z.node)) (sym reduction) asks))

  pub all_ran : Solves t (all_added runs)
  all_ran = says_added t runs (λ x among.
      let (who, one, own) = of_run P first ended runs phase.are_runs x among in
      let (r, there, of) = own in
      let run = run_of P opening first row journal words ended acts runs phase who one r there in
      let short = run_short P first who.0 (seated first words who.1) r run in
      solved_run P first who r x of t ((all who one).ran r there (omega arith)))

-- ---- Cells

module _ (P : NamedProgram) (old : List declared.Reduction.Reduction) (first row : List Ref) (kept : List Framed)
    (t : QueryTree P.program) (tolds : List HandedOn) (limit : ℕ) (g : Gathered) (k : Kept P (all_written old) first kept t)
    (h : HasPhased P first row tolds) (gathered : IsGathered P.program (map goal_of kept) (weight t) limit tolds g)
    (whole : IsWhole P (all_frames (old ++ g.made)) row) (s : Structure P first row (map goal_of kept) (weight t) tolds g h) where
  abbrev rs : List Reduction
  rs = all_written old ++ all_written g.made

  both_written : all_written (old ++ g.made) ≡ rs
  both_written = map_append written old g.made

  frame_place : (n c : ℕ) → ClauseHas rs n c → (q : Path) × PlaceHas rs n q
  frame_place n c (inl query) = ([], subst (λ n. PlaceHas rs n []) (sym query.0) PlaceHas.query)
  frame_place n c (inr (r, among, node, clause)) = elim (Contains-append_cases (all_written old) (all_written g.made) r among) [
    | inl early ↦
        let (q, place) = clause_place P.program (all_written old) t k.has.made n c (inr (r, early, node, clause)) in
        (q, place_more (all_written old) rs (λ x there. Contains-append_left (all_written old) (all_written g.made) x there) n q place)
    | inr late ↦
        let (worker, goal, done) = listed_taken s.acts r (subst (λ l. Contains l r) (sym s.reductions) late) in
        let (q, place) = act_place P.program (map goal_of kept) (weight t) rs
        (λ goal there.
        let (f, one, its) = map_contains goal_of goal kept there in
        let old_place : PlaceHas (all_written old) f.goal.node f.frame = (All-contains (IsFramed (all_written old)) kept f k.has.framed one).0 in (
          f.frame,
          subst (λ (goal : Goal). PlaceHas rs goal.node f.frame) its
              (place_more (all_written old) rs (λ x there. Contains-append_left (all_written old) (all_written g.made) x there) f.goal.node f.frame old_place),
        ))
        s.acts s.taken
        (λ n goal r there. Contains-append_right (all_written old) (all_written g.made) r
        (subst (λ l. Contains l r) s.reductions (taken_listed s.acts n goal r there)))
        worker goal r done in
        (q, subst (λ n. PlaceHas rs n q) node place)
  ]

  cell_of : (cell : ℕ) → IsVariableCell P.program (all_frames (old ++ g.made)) cell → IsCellOf P rs ([], cell)
  cell_of cell v =
      let clause : ClauseHas rs v.frame.base v.frame.clause.0 =
      subst (λ rs. ClauseHas rs v.frame.base v.frame.clause.0) both_written (frame_clause (old ++ g.made) v.frame v.one) in
      let (q, place) = frame_place v.frame.base v.frame.clause.0 clause in
      record {
        cell = refl;
        variable = (q, v.of_it.variable);
        is = record { node = v.frame.base; clause = v.frame.clause.0; place = place; clause_is = clause; own = v.of_it.among };
        at = v.of_it.at;
      }

  variables_whole : (v : Path × ℕ) (i : IsVariable P rs v) → is_half (word_at row (i.node + 1 + v.1)) ≡ false
  variables_whole v i =
      frame_is_whole P row (all_frames (old ++ g.made)) whole.whole i.node i.clause
      (clause_frame (old ++ g.made) i.node i.clause (subst (λ rs. ClauseHas rs i.node i.clause) (sym both_written) i.clause_is)) v.1 i.own

  -- ---- What is left

  pub is_left : length row ≡ g.end → g.failed ≡ false → ArePairsWhole P (all_frames (old ++ g.made)) row g.pairs
      → IsLeftIn P rs (weight t) (equations_of P first) s.acts s.runs row (equations_of_pairs P (word_at row) g.pairs)
  is_left long lives pairs =
      let opening : List Goal = map goal_of kept in
      let ended : List Ended = all_ended tolds h.passes in
      let f = phase P old first row kept t tolds limit g k h gathered whole s in
      let known : List Equation = known_by (equations_of P first) s.acts in
      let frames : List Frame = all_frames (old ++ g.made) in
      let between : Pair → List Equation = λ (p : Pair). equations_between P (word_at row) p.left p.right in
      let alive : (told : HandedOn) → Contains tolds told → told.cause ≡ None =
      λ told one. All-contains (λ (t : HandedOn). t.cause ≡ None) tolds told (gathered.lives lives) one in
      record {
        long = long ∙ sym s.ends;
        sound = whole.sound;
        whole = variables_whole;
        states = row_knows P opening first row h.journal h.about.words ended s.acts s.runs f;
        stated_by = knows_row P opening first row h.journal h.about.words ended s.acts s.runs f;
        row_speaks = row_speaks (IsCellOf P rs) P row
            (λ x among not cell there. cell_of cell (names P (all_frames (old ++ g.made)) row whole x among not cell there));
        pairs_speak = flat_speaks (IsCellOf P rs) between g.pairs (λ p among.
            let sides = All-contains (λ (p : Pair). IsSideWhole P frames row p.left × IsSideWhole P frames row p.right) g.pairs p pairs among in
            between_speaks (IsCellOf P rs) P (word_at row) p.left p.right (λ cell there.
            elim (Contains-append_cases (shallow_cells P p.left) (shallow_cells P p.right) cell there) [
              | inl one ↦ cell_of cell (All-contains (IsVariableCell P.program frames) (shallow_cells P p.left) cell sides.0.names one)
              | inr other ↦ cell_of cell (All-contains (IsVariableCell P.program frames) (shallow_cells P p.right) cell sides.1.names other)
            ]));
        follow = λ u solves.
            let knows : Solves u known = solves_back u (asked P.program s.acts ++ all_added s.runs) known solves in
            let asks : Solves u (asked P.program s.acts ++ all_added s.runs) = solves_front u (asked P.program s.acts ++ all_added s.runs) known solves in
            solves_flat u between g.pairs (λ p among.
            let (told, one, its) = flat_contains (λ (t : HandedOn). t.pairs) p tolds (subst (λ l. Contains l p) gathered.pairs among) in
            let (who, there, same) = ended_of_told P tolds h.passes h.hand_on told one in
            flat_solves u between who.0.pairs
            (pairs_follow P opening first row h.journal h.about.words ended s.acts s.runs f who there u knows
            (ap (λ (t : HandedOn). t.cause) same ∙ alive told one) (solves_front u (asked P.program s.acts) (all_added s.runs) asks)
            (solves_back u (asked P.program s.acts) (all_added s.runs) asks)) p (subst (λ (t : HandedOn). Contains t.pairs p) (sym same) its));
        all = λ u solves.
            let pairs_solved : Solves u (equations_of_pairs P (word_at row) g.pairs) =
            solves_front u (equations_of_pairs P (word_at row) g.pairs) known solves in
            let knows : Solves u known = solves_back u (equations_of_pairs P (word_at row) g.pairs) known solves in
            let each : (who : Ended) → Contains ended who → SolvesAsked P first who.0 (length who.1.pass.seen) u = λ who there.
            let one : Contains tolds who.0 = told_of_ended tolds h.passes who there in
            pairs_ask P opening first row h.journal h.about.words ended s.acts s.runs f who there u knows (alive who.0 one)
            (solves_flat u between who.0.pairs (λ p among. flat_solves u between g.pairs pairs_solved p
            (subst (λ l. Contains l p) (sym gathered.pairs) (contains_flat (λ (t : HandedOn). t.pairs) who.0 p tolds one among)))) in
            solves_join u (asked P.program s.acts) (all_added s.runs)
            (all_asked P opening first row h.journal h.about.words ended s.acts s.runs f u each)
            (all_ran P opening first row h.journal h.about.words ended s.acts s.runs f u each);
      }
