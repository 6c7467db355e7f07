-- What is used of a phase, from what its workers handed on and what was gathered.
use Rattle.std.proofs.Common.{ℕ, ◌≡◌, ◌<◌, inl, inr, List, ◌++◌, map, reverse, length, Some}
use Rattle.std.proofs.Common.{sym, ap, subst, ◌∙◌, arith, Contains}
use Rattle.std.proofs.lemmas.List.Elements.{All-contains, Contains-append_left, Contains-append_right}
use Rattle.and_model.specs.Trees.{QueryTree, weight}
use Rattle.and_model.specs.Programs.{clause_at}
use Rattle.and_model.specs.Stands.{Framed, IsFramed, ClauseHas}
use Rattle.and_model.specs.Store.{Setting, Row, Fits, Frame, gives, set_in, frames_of, mark}
use Rattle.and_model.specs.declared.goal as declared
use Rattle.and_model.specs.declared.goal.Goal.{Goal}
use Rattle.and_model.specs.declared.numbers.ClauseNo.{ClauseNo}
use Rattle.and_model.specs.declared.reference.Ref.{Ref}
use Rattle.and_cells.specs.Ranges.{NamedProgram}
use Rattle.and_cells.specs.Seen.{word_at}
use Rattle.and_cells.proofs.SetWords.{set_in_is}
use Rattle.and_code.specs.Written.{all_written}
use Rattle.and_model.specs.declared.goal.Frame as framing
use Rattle.and_branch_laws.specs.Kept.{Kept, goal_of}
use Rattle.and_branch_laws.proofs.Clauses.{clause_weighs_more}
use Rattle.and_branch_laws.proofs.Lists.{all_of}
use Rattle.and_branch_laws.proofs.Places.{clause_more}
use Rattle.and_store.specs.Ended.{passes_of}
use Rattle.and_store.specs.Passes.{PassSeen}
use Rattle.and_store_laws.proofs.Lists.{contains_more, contains_map, map_contains}
use Rattle.and_store_laws.proofs.Lists.{map_append}
use Rattle.and_handed.specs.Handed.{EndsBy, IsWholeFrame, settings_from}
use Rattle.and_handed.specs.declared.told.Cause.TheVariants.{NoCandidate}
use Rattle.and_handed.specs.declared.told.Ran as run
use Rattle.and_handed.specs.declared.told.Reduced as making
use Rattle.and_handed.specs.declared.told.HandedOn.{HandedOn}
use Rattle.and_gathering.specs.Gathering as gathering
use Rattle.and_gathering.specs.Gathering.{IsGathered, all_made, all_ran, made_by, ran_by}
use Rattle.and_gathering.specs.declared.gathering.Gathered.{Gathered}
use Rattle.and_gathering.specs.declared.links.Taken.{Taken}
use Rattle.and_gathering.specs.declared.links.Taken.TheVariants.{Reduced, Ran}
use Rattle.and_row_check.specs.Places
use Rattle.and_row_check.specs.Places.{all_frames, IsWhole, IsVariableCell}
use Rattle.and_closing_laws.specs.Acting.{Ended, all_ended, IsTaking}
use Rattle.and_closing_laws.specs.Phases.{HasPhased}
use Rattle.and_closing_laws.proofs.Entries.{act_by, entry_act}
use Rattle.and_closing_laws.proofs.Frames.{HasFrame, frame_at, clause_frame, frame_is_whole, met_has_frame}
use Rattle.and_closing_laws.proofs.Lists.{in_reverse, sides_apart}
use Rattle.and_closing_laws.proofs.Meeting.{made_met, ran_met, met_step, step_made, one_met}
use Rattle.and_closing_laws.proofs.Settings.{no_half, names}
use Rattle.and_closing_laws.proofs.Taking.{entry_worker}
use Rattle.and_closing_laws.proofs.Workers.{told_of_ended, has_ended}
use Rattle.and_closing_laws.proofs.Phase.{Phase, Worker, seated, settings_in}
use Rattle.and_closing_laws.proofs.Standing.{frame_entry}
use Rattle.and_closing_laws.proofs.Structure.{Structure}

-- ---- Workers and their passes

seated_is : (first : List Ref) (words : ℕ) (p : PassSeen) → p.store.about.first ≡ first → p.store.about.words ≡ words → p ≡ seated first words p
seated_is first words p begins wide i = seated (begins i) (wide i) p

-- ---- The phase

module _ (P : NamedProgram) (old : List declared.Reduction.Reduction) (first row : List Ref) (kept : List Framed)
    (t : QueryTree P.program) (tolds : List HandedOn) (limit : ℕ) (g : Gathered) (k : Kept P (all_written old) first kept t)
    (h : HasPhased P first row tolds) (gathered : IsGathered P.program (map goal_of kept) (weight t) limit tolds g)
    (whole : IsWhole P (all_frames (old ++ g.made)) row) (s : Structure P first row (map goal_of kept) (weight t) tolds g h) where
  abbrev frames : List framing.Frame
  frames = all_frames (old ++ g.made)

  row_fits : Row first (passes_of h.passes) h.journal row
  row_fits = subst (λ f. Row f (passes_of h.passes) h.journal row) h.first h.closes.row_fits

  -- ---- Goals and their frames

  opening_has_frame : (goal : Goal) → Contains (map goal_of kept) goal → HasFrame frames goal
  opening_has_frame goal among =
      let (f, there, this) = map_contains goal_of goal kept among in
      let clause : ClauseHas (all_written (old ++ g.made)) f.goal.node f.goal.clause.0 =
      clause_more (all_written old) (all_written (old ++ g.made))
      (λ x c. subst (λ l. Contains l x) (sym (map_append _ old g.made)) (Contains-append_left (all_written old) (all_written g.made) x c))
      f.goal.node f.goal.clause.0 (All-contains (IsFramed (all_written old)) kept f k.has.framed there).1 in
      subst (HasFrame frames) this
      (subst (λ b. Contains frames (frame_at b f.goal.clause.0)) (sym (All-contains (λ (f : Framed). f.goal.base ≡ f.goal.node) kept f k.has.based there))
      (clause_frame (old ++ g.made) f.goal.node f.goal.clause.0 clause))

  met_made : (goal : Goal) (r : declared.Reduction.Reduction) → Contains gathered.met (Reduced goal r) → Contains (old ++ g.made) r
  met_made goal r among =
      Contains-append_right old g.made r (step_made gathered.steps g.made gathered.reductions goal r
      (met_step P.program (map goal_of kept) (weight t) limit tolds g gathered goal r among))

  goal_whole : (goal : Goal) → HasFrame frames goal → IsWholeFrame P (word_at row) goal.clause.0 goal.base
  goal_whole goal has = frame_is_whole P row frames whole.whole goal.base goal.clause.0 has

  met_whole : (x : Taken) → Contains gathered.met x → IsWholeFrame P (word_at row) (gathering.goal_taken x).clause.0 (gathering.goal_taken x).base
  met_whole x among =
      goal_whole (gathering.goal_taken x)
      (met_has_frame P.program (old ++ g.made) (map goal_of kept) g.goals.items gathered.met gathered.walks opening_has_frame met_made x among)

  made_whole : (told : HandedOn) → Contains tolds told → (m : making.Reduced) → Contains told.made.items m
      → IsWholeFrame P (word_at row) m.goal.clause.0 m.goal.base × IsWholeFrame P (word_at row) m.reduction.clause.0 m.reduction.node
  made_whole told one m among =
      let met = made_met P.program (map goal_of kept) (weight t) limit tolds g gathered told m one among in (
        met_whole (Reduced m.goal m.reduction) met,
        frame_is_whole P row frames whole.whole m.reduction.node m.reduction.clause.0
            (contains_more (frame_at 0 0) (Places.frame_of m.reduction) (map Places.frame_of (old ++ g.made))
            (contains_map Places.frame_of m.reduction (old ++ g.made) (met_made m.goal m.reduction met))),
      )

  ran_whole : (told : HandedOn) → Contains tolds told → (r : run.Ran) → Contains told.ran.items r → IsWholeFrame P (word_at row) r.goal.clause.0 r.goal.base
  ran_whole told one r among = met_whole (Ran r.goal) (ran_met P.program (map goal_of kept) (weight t) limit tolds g gathered told r one among)

  -- ---- Workers

  all_set : (s : Setting) → Contains (settings_from first h.journal) s → Contains (set_in row) s
  all_set s among = let words = row_fits.set_words s in words.1 among

  worker : (who : Ended) → Contains (all_ended tolds h.passes) who → Worker P first row h.journal h.about.words who
  worker who one =
      let told = told_of_ended tolds h.passes who one in
      let has = has_ended P first row tolds h gathered.unspoilt who one in
      let (rest, begins) = has.fits.seen in
      record {
        mark = mark h.about.first (passes_of h.passes);
        fits = subst (λ f. Fits f (mark h.about.first (passes_of h.passes)) h.journal who.1.pass) h.first has.fits;
        ends = subst (λ p. EndsBy P who.0 p who.0.cause)
            (seated_is first h.about.words who.1 (ap (λ a. a.first) has.about ∙ h.first) (ap (λ a. a.words) has.about)) has.ends;
        whole = record {
          has = λ s c. (set_in_is row s (all_set s (settings_in first who.1.pass.seen rest h.journal begins s c))).0;
          made = made_whole who.0 told;
          ran = ran_whole who.0 told;
        };
      }

  -- ---- Frames

  weighs : (f : Frame) → Contains (frames_of h.journal) f → 0 < f.weight
  weighs f among =
      let (e, there, gave) = frame_entry h.journal f among in
      let (a, done, act) = entry_act P (word_at row) (all_ended tolds h.passes) (reverse h.journal) s.acts s.are_acts e (in_reverse h.journal e there) in
      let taking : IsTaking P (all_ended tolds h.passes) e.pass f a = act_by P (word_at row) (all_ended tolds h.passes) e (gives f) a gave act in
      let weight = ap (λ (f : Frame). f.weight) taking.frame in
      let more = clause_weighs_more (clause_at P.program taking.made.reduction.clause.0) in
      omega arith

  stuck_frame : (told : HandedOn) → Contains tolds told → (goal : Goal) → told.cause ≡ Some (NoCandidate goal) → HasFrame frames goal
  stuck_frame told one goal cause =
      elim (All-contains (λ (t : HandedOn). (goal : Goal) → t.cause ≡ Some (NoCandidate goal) → gathering.IsThere (map goal_of kept) g.made goal) tolds told
      gathered.there one goal cause) [
        | inl opening ↦ opening_has_frame goal opening
        | inr (r, there, node, clause, base) ↦
            let frame : Contains frames (Places.frame_of r) =
            contains_more (frame_at 0 0) (Places.frame_of r) (map Places.frame_of (old ++ g.made))
            (contains_map Places.frame_of r (old ++ g.made) (Contains-append_right old g.made r there)) in
            subst (λ b. Contains frames (frame_at b goal.clause.0)) (node ∙ sym base)
            (subst (λ (c : ClauseNo). Contains frames (frame_at r.node c.0)) clause frame)
      ]

  pub phase : Phase P (map goal_of kept) first row h.journal h.about.words (all_ended tolds h.passes) s.acts s.runs
  phase = record {
    are_acts = s.are_acts;
    are_runs = s.are_runs;
    workers = worker;
    by_one = entry_worker P first row tolds h gathered.unspoilt;
    set = all_set;
    all_set = λ s among. (let words = row_fits.set_words s in words.0 among);
    once = row_fits.set_once;
    low = h.closes.within;
    clean = λ s among not cell there. no_half P frames row whole cell (names P frames row whole s among not cell there);
    written_first = row_fits.written_first;
    written = row_fits.written;
    frames = sides_apart (length first) (frames_of h.journal) row_fits.frames (all_of (λ (f : Frame). 0 < f.weight) (frames_of h.journal) weighs);
    one = λ who other m n one two among there node.
        one_met P.program (map goal_of kept) (weight t) limit tolds g gathered m.goal n.goal m.reduction n.reduction
        (made_met P.program (map goal_of kept) (weight t) limit tolds g gathered who.0 m (told_of_ended tolds h.passes who one) among)
        (made_met P.program (map goal_of kept) (weight t) limit tolds g gathered other.0 n (told_of_ended tolds h.passes other two) there) node;
    stuck = λ who goal one cause. (s.stuck_there who goal one cause, goal_whole goal (stuck_frame who.0 (told_of_ended tolds h.passes who one) goal cause));
  }
