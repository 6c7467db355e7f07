-- What a worker knew of each of its own acts.
use Rattle.std.proofs.Common.{ℕ, ◌≡◌, inl, inr, List, [], ◌∷◌, ◌++◌, map, length, Option, Some, None}
use Rattle.std.proofs.Common.{refl, sym, ap, subst, ◌∙◌, append_assoc, arith, All, Contains}
use Rattle.std.proofs.lemmas.Bool.{cases_lt}
use Rattle.std.proofs.lemmas.List.{length-append}
use Rattle.std.proofs.lemmas.List.Elements.{All-weaker}
use Rattle.and_laws.proofs.Solving.{solves_back}
use Rattle.and_model.specs.Terms.{apply_all}
use Rattle.and_model.specs.Solutions.{Equation, Solves}
use Rattle.and_model.specs.Programs
use Rattle.and_model.specs.Closure
use Rattle.and_model.specs.Reductions.{Reduction}
use Rattle.and_model.specs.Store.{JournalEntry, Setting, Frame, Known, Pass, sets, gives, fails, set_in, settings_of}
use Rattle.and_model.specs.declared.goal.Goal.{Goal}
use Rattle.and_model.specs.declared.numbers.ClauseNo.{ClauseNo}
use Rattle.and_model.specs.declared.reference.Ref.{Ref}
use Rattle.and_branch_laws.specs.OwnVariables.{OwnVariables}
use Rattle.and_branch_laws.specs.Kept.{item_at}
use Rattle.and_branch_laws.specs.Variables.{cells_from}
use Rattle.and_branch_laws.proofs.Owning.{term_speaks}
use Rattle.and_cells.specs.Ranges.{NamedProgram}
use Rattle.and_cells.specs.Seen.{word_at}
use Rattle.and_cells.specs.Meaning.{equations_of}
use Rattle.and_code.specs.Written.{written}
use Rattle.and_clause_index.specs.Selecting.{AreLeft}
use Rattle.and_store.specs.Worked.{shown}
use Rattle.and_store_laws.specs.Steps.{entry}
use Rattle.and_store_laws.proofs.Lists.{contains_there}
use Rattle.and_worker_laws.specs.Acts
use Rattle.and_worker_laws.specs.Acts.{Act, RunInCells}
use Rattle.and_worker_laws.specs.Facts.{AreAmong, Fact, known_by, told_by}
use Rattle.and_handed.specs.Handed.{settings_from, HasAll, SolvesAll, IsWholeFrame, EndsBy, frame_of}
use Rattle.and_handed.specs.declared.told.Cause.{Cause}
use Rattle.and_handed.specs.declared.told.Cause.TheVariants.{NoCandidate, NoSolution}
use Rattle.and_handed.specs.declared.told.Ran.{Ran}
use Rattle.and_handed.specs.declared.told.Reduced.{Reduced}
use Rattle.and_closing_laws.specs.Acting.{Ended, IsActOf, seen_before_fail, lesser}
use Rattle.and_closing_laws.proofs.Asked.{acted, sole_of, run_of, reaches_at, reaches_fail, asked_by_then, fail_sets_nothing}
use Rattle.and_closing_laws.proofs.Cutting.{ByThen, Next, then_long}
use Rattle.and_closing_laws.proofs.Entries.{of_takes, of_sets, of_fails}
use Rattle.and_closing_laws.proofs.Judged.{judged}
use Rattle.and_closing_laws.proofs.Lists.{one_place}
use Rattle.and_closing_laws.proofs.Phase.{Phase, seated, settings_in, early_has, early_not_free, early_low, early_clean, early_written}
use Rattle.and_closing_laws.proofs.Saying.{known_solves}
use Rattle.and_store_laws.proofs.Going.{made_frames}
use Rattle.and_closing_laws.proofs.Standing.{entry_is, shorter_begins, own_setting_seen, made_gives, some_fail, one_fail}
use Rattle.and_closing_laws.proofs.Told.{of_run, needs_at}

module _ (P : NamedProgram) (own : OwnVariables P) (opening : List Goal) (first row : List Ref) (journal : List JournalEntry) (words : ℕ)
    (ended : List Ended) (acts : List Act) (runs : List RunInCells) (phase : Phase P opening first row journal words ended acts runs) where
  -- what is known where these acts have been done
  abbrev known : List Act → List Equation
  known before = known_by (equations_of P first) before

  -- What was left of a goal, where its pass knew some of what was set by then.
  left_by_then : (before : List Act) (x : ByThen P (word_at row) ended journal before) (pass : Pass)
      → All (λ (k : Known). Contains (settings_from first x.early) k.setting) pass.known → (g : Goal) (cs : List ClauseNo)
      → IsWholeFrame P (word_at row) g.clause.0 g.base → AreLeft P (shown words pass) g cs
      → AreAmong P (known before) g (map (λ (no : ClauseNo). no.0) cs)
  left_by_then before x pass there g cs whole left =
      judged P (word_at row) (settings_from first x.early) words
      (early_has P opening first row journal words ended acts runs phase x.early x.late x.cut)
      (early_not_free P opening first row journal words ended acts runs phase x.early x.late x.cut)
      (early_low P opening first row journal words ended acts runs phase x.early x.late x.cut)
      (early_clean P opening first row journal words ended acts runs phase x.early x.late x.cut)
      (early_written P opening first row journal words ended acts runs phase x.early x.late x.cut)
      pass there g cs (λ v c. whole v.1 (term_speaks P own g v c).1) left (known before)
      (known_solves P opening first row journal words ended acts runs phase x.early x.late x.cut before x.are)

  -- the time before an act
  abbrev just_before : (before : List Act) (a : Act) → Next P (word_at row) ended journal before a → ByThen P (word_at row) ended journal before
  just_before before a x = record { early = x.early; late = x.here ∷ x.late; cut = x.cut; are = x.are }

  -- ---- Reductions

  pub knows_takes : (before : List Act) (n : ℕ) (g : Goal) (r : Reduction) → Next P (word_at row) ended journal before (Acts.takes n g r)
      → Fact P opening (equations_of P first) runs acts before (Acts.takes n g r)
  knows_takes before n g r x =
      let of = of_takes P (word_at row) ended x.here n g r x.act in
      let who : Ended = of.taking.who in
      let made : Reduced = of.taking.made in
      let this = of.taking.is in
      let goal : g ≡ made.goal = cc in
      let reduction : r ≡ written made.reduction = cc in
      let worker = phase.workers who of.taking.one in
      let sole = sole_of P opening first row journal words ended acts runs phase who of.taking.one made of.taking.among in
      let seen : List JournalEntry = made.judged.value.pass.seen in
      let taken : JournalEntry = entry who.1.pass.number (gives (frame_of P.program made)) in
      let (rest, begins) = worker.fits.seen in
      let other : journal ≡ (seen ++ sole.since) ++ taken ∷ (sole.after ++ rest) =
      begins ∙ ap (λ l. l ++ rest) sole.taken ∙ append_assoc (seen ++ sole.since) (taken ∷ sole.after) rest in
      let same : x.early ≡ seen ++ sole.since =
      one_place made_frames (λ (f : Frame). f.base) journal x.early x.late (seen ++ sole.since) (sole.after ++ rest) x.here taken of.frame
      (frame_of P.program made) phase.frames x.cut other (made_gives x.here of.frame of.gave) (made_gives taken (frame_of P.program made) refl)
      (ap (λ (f : Frame). f.base) of.taking.frame) in
      let there : All (λ (k : Known). Contains (settings_from first x.early) k.setting) made.judged.value.pass.known =
      All-weaker (λ (k : Known). Contains (settings_from first seen) k.setting) (λ (k : Known). Contains (settings_from first x.early) k.setting)
      (λ k c. settings_in first seen sole.since x.early same k.setting c) made.judged.value.pass.known sole.knows in
      let one : AreAmong P (known before) made.goal (made.reduction.clause.0 ∷ []) =
      left_by_then before (just_before before (Acts.takes n g r) x) made.judged.value.pass there made.goal (made.reduction.clause ∷ [])
      (worker.whole.made made of.taking.among).0 sole.sole in
      subst (λ g. AreAmong P (known before) g (r.clause ∷ [])) (sym goal)
      (subst (λ (z : Reduction). AreAmong P (known before) made.goal (z.clause ∷ [])) (sym reduction) one)

  -- ---- Settings

  pub knows_sets : (before : List Act) (n : ℕ) (d : Equation) → Next P (word_at row) ended journal before (Acts.sets n d)
      → Fact P opening (equations_of P first) runs acts before (Acts.sets n d)
  knows_sets before n d x t solves =
      let (same, says) = of_sets P (word_at row) ended x.here n d x.act in
      elim says [
        | inl none ↦ subst (λ d. Solves t (d ∷ [])) (sym none) (refl, tt)
        | inr (s, made, whole, said) ↦
            let here : Contains journal x.here = subst (λ l. Contains l x.here) (sym x.cut) (contains_there x.early x.late x.here) in
            let (who, one, number) = phase.by_one x.here here in
            let worker = phase.workers who one in
            let (after, seen) = own_setting_seen first worker.mark journal x.early x.late who.1.pass x.here s worker.fits phase.once x.cut (sym number) made in
            let reaches = reaches_at P opening first row journal words ended acts runs phase who one x.early after x.here seen (sym number)
            (λ f gave. let both : sets s ≡ gives f = sym made ∙ gave in absurd (cc)) in
            let told : Solves t (told_by P (equations_of P first) runs who.1.pass.number before) =
            subst (λ n. Solves t (told_by P (equations_of P first) runs n before)) (same ∙ sym number) solves in
            let asked = asked_by_then P opening first row journal words ended acts runs phase who one x.early (x.here ∷ x.late) x.cut before x.are
            (length x.early) reaches t told in
            let all : SolvesAll P (word_at row) first x.early t =
            known_solves P opening first row journal words ended acts runs phase x.early (x.here ∷ x.late) x.cut before x.are t
            (solves_back t (Acts.asked_by P.program n before ++ Acts.added_by n (length before) runs) (known before) solves) in
            subst (Solves t) said
            ((acted P opening first row journal words ended acts runs phase who one).settings x.early after s
            (seen ∙ ap (λ e. x.early ++ e ∷ after) (entry_is x.here who.1.pass.number (sets s) (sym number) made)) whole (word_at row) worker.whole t all asked)
      ]

  -- ---- Fails

  module _ (who : Ended) (one : Contains ended who) (before : List Act) (x : Next P (word_at row) ended journal before (Acts.fails who.1.pass.number))
      (number : x.here.pass ≡ who.1.pass.number) (failed : x.here.made ≡ fails) where
    some_own : (cause : Option Cause) → EndsBy P who.0 (seated first words who.1) cause → (why : Cause) × (cause ≡ Some why)
    some_own None ends =
        let worker = phase.workers who one in
        let here : Contains journal x.here = subst (λ l. Contains l x.here) (sym x.cut) (contains_there x.early x.late x.here) in
        let some = some_fail who.1.pass journal x.here here number failed in
        let none = ap length (sym worker.fits.fails ∙ ends.0) in
        absurd (omega arith)
    some_own (Some why) ends = (why, refl)

    -- Its `fail` is the last that it has seen.
    last_seen : (why : Cause) → EndsBy P who.0 (seated first words who.1) (Some why) → who.1.pass.seen ≡ x.early ++ entry who.1.pass.number fails ∷ []
    last_seen why ends =
        let worker = phase.workers who one in
        let (rest, begins) = worker.fits.seen in
        let (front, seen) = ends.2 in
        let last : JournalEntry = entry who.1.pass.number fails in
        let other : journal ≡ front ++ last ∷ rest = begins ∙ ap (λ l. l ++ rest) seen ∙ append_assoc front (last ∷ []) rest in
        let same : x.early ≡ front = one_fail who.1.pass journal x.early x.late front rest x.here last (ap length (sym worker.fits.fails ∙ ends.1))
        x.cut other number refl failed refl in
        seen ∙ ap (λ l. l ++ last ∷ []) (sym same)

    why_fails : (why : Cause) → who.0.cause ≡ Some why → EndsBy P who.0 (seated first words who.1) (Some why)
        → Fact P opening (equations_of P first) runs acts before (Acts.fails who.1.pass.number)
    why_fails NoSolution cause ends = inl (λ solvable.
        let (t, solves) = solvable in
        let worker = phase.workers who one in
        let seen = last_seen NoSolution ends in
        let n : ℕ = who.1.pass.number in
        let all : SolvesAll P (word_at row) first who.1.pass.seen t = λ s c whole.
        known_solves P opening first row journal words ended acts runs phase x.early (x.here ∷ x.late) x.cut before x.are t
        (solves_back t (Acts.asked_by P.program n before ++ Acts.added_by n (length before) runs) (known before) solves) s
        (fail_sets_nothing first x.early n s (subst (λ l. Contains (settings_from first l) s) seen c)) whole in
        ends.0 (word_at row) worker.whole t all
        (asked_by_then P opening first row journal words ended acts runs phase who one x.early (x.here ∷ x.late) x.cut before x.are
        (length who.1.pass.seen) (reaches_fail P opening first row journal words ended acts runs phase who one x.early NoSolution seen cause) t solves))
    why_fails (NoCandidate goal) cause ends =
        let worker = phase.workers who one in
        let seen = last_seen (NoCandidate goal) ends in
        let (there, whole) = phase.stuck who goal one cause in
        let knows : All (λ (k : Known). Contains (settings_from first x.early) k.setting) who.1.pass.known =
        All-weaker (λ (k : Known). Contains (set_in first ++ settings_of who.1.pass.seen) k.setting)
        (λ (k : Known). Contains (settings_from first x.early) k.setting)
        (λ k c. fail_sets_nothing first x.early who.1.pass.number k.setting (subst (λ l. Contains (settings_from first l) k.setting) seen c))
        who.1.pass.known worker.fits.known in
        inr (record {
          goal = goal;
          there = there;
          term = ends.0.0.term;
          is_call = ends.0.0.is_call;
          none = left_by_then before (just_before before (Acts.fails who.1.pass.number) x) who.1.pass knows goal [] whole ends.0.1;
        })

  pub knows_fails : (before : List Act) (n : ℕ) → Next P (word_at row) ended journal before (Acts.fails n)
      → Fact P opening (equations_of P first) runs acts before (Acts.fails n)
  knows_fails before n x =
      let (same, failed) = of_fails P (word_at row) ended x.here n x.act in
      let here : Contains journal x.here = subst (λ l. Contains l x.here) (sym x.cut) (contains_there x.early x.late x.here) in
      let (who, one, number) = phase.by_one x.here here in
      let is_its : n ≡ who.1.pass.number = same ∙ sym number in
      let its : Next P (word_at row) ended journal before (Acts.fails who.1.pass.number) =
      record {
        early = x.early;
        here = x.here;
        late = x.late;
        cut = x.cut;
        are = x.are;
        act = subst (λ n. IsActOf P (word_at row) ended x.here (Acts.fails n)) is_its x.act;
      } in
      let ends = (phase.workers who one).ends in
      let (why, cause) = some_own who one before its (sym number) failed who.0.cause ends in
      subst (λ n. Fact P opening (equations_of P first) runs acts before (Acts.fails n)) (sym is_its)
      (why_fails who one before its (sym number) failed why cause (subst (EndsBy P who.0 (seated first words who.1)) cause ends))

  pub knows : (before : List Act) (a : Act) → Next P (word_at row) ended journal before a → Fact P opening (equations_of P first) runs acts before a
  knows before (Acts.takes n g r) x = knows_takes before n g r x
  knows before (Acts.sets n d) x = knows_sets before n d x
  knows before (Acts.fails n) x = knows_fails before n x

  -- ---- Runs

  -- What a run's pass had seen was set by the time of the run.
  module _ (who : Ended) (one : Contains ended who) (r : Ran) (among : Contains who.0.ran.items r) (early late : List JournalEntry)
      (cut : journal ≡ early ++ late) where
    set_by_then : (cause : Option Cause) → EndsBy P who.0 (seated first words who.1) cause
        → length early ≡ lesser (length r.judged.value.pass.seen) (seen_before_fail (length who.1.pass.seen) cause) → (s : Setting)
        → Contains (settings_from first r.judged.value.pass.seen) s → Contains (settings_from first early) s
    set_by_then None ends at s c =
        let run = run_of P opening first row journal words ended acts runs phase who one r among in
        let (rest, begins) = (phase.workers who one).fits.seen in
        let seen : List JournalEntry = r.judged.value.pass.seen in
        let long = ap length run.seen ∙ length-append seen run.after in
        let whole : seen ++ (run.after ++ rest) ≡ early ++ late =
        sym (append_assoc seen run.after rest) ∙ ap (λ l. l ++ rest) (sym run.seen) ∙ sym begins ∙ cut in
        let (m, longer) = shorter_begins seen (run.after ++ rest) early late whole (omega arith) in
        settings_in first seen m early longer s c
    set_by_then (Some why) ends at s c =
        let run = run_of P opening first row journal words ended acts runs phase who one r among in
        let (rest, begins) = (phase.workers who one).fits.seen in
        let (front, last) = ends.2 in
        let seen : List JournalEntry = r.judged.value.pass.seen in
        let long = ap length last ∙ length-append front (entry who.1.pass.number fails ∷ []) in
        elim (cases_lt (length front) (length seen)) [
          | inl all ↦
              let whole : front ++ (entry who.1.pass.number fails ∷ rest) ≡ early ++ late =
              sym (append_assoc front (entry who.1.pass.number fails ∷ []) rest) ∙ ap (λ l. l ++ rest) (sym last) ∙ sym begins ∙ cut in
              let (m, longer) = shorter_begins front (entry who.1.pass.number fails ∷ rest) early late whole (omega arith) in
              settings_in first front m early longer s
              (fail_sets_nothing first front who.1.pass.number s
              (subst (λ l. Contains (settings_from first l) s) last (settings_in first seen run.after who.1.pass.seen run.seen s c)))
          | inr some ↦
              let whole : seen ++ (run.after ++ rest) ≡ early ++ late =
              sym (append_assoc seen run.after rest) ∙ ap (λ l. l ++ rest) (sym run.seen) ∙ sym begins ∙ cut in
              let (m, longer) = shorter_begins seen (run.after ++ rest) early late whole (omega arith) in
              settings_in first seen m early longer s c
        ]

  pub knows_run : (before : List Act) (r : RunInCells) → ByThen P (word_at row) ended journal before → Contains runs r → r.at ≡ length before
      → (item_at P.program r.goal ≡ Programs.arithmetic r.what)
      × Closure.Known (known before) (Acts.arithmetic_at r.goal.base r.what) r.terms
  knows_run before r x among at =
      let (who, one, ran) = of_run P first ended runs phase.are_runs r among in
      let (own_run, there, of) = ran in
      let seen : List JournalEntry = own_run.judged.value.pass.seen in
      let long : length x.early ≡ lesser (length seen) (seen_before_fail (length who.1.pass.seen) who.0.cause) =
      then_long P (word_at row) ended journal before x ∙ sym at ∙ of.at in
      let set : (s : Setting) → Contains (settings_from first seen) s → Contains (settings_from first x.early) s =
      set_by_then who one own_run there x.early x.late x.cut who.0.cause (phase.workers who one).ends long in
      let has : HasAll (word_at row) first seen = λ s c. early_has P opening first row journal words ended acts runs phase x.early x.late x.cut s (set s c) in
      let item : item_at P.program r.goal ≡ Programs.arithmetic r.what = ap (item_at P.program) of.goal ∙ of.terms.is_arithmetic in (
        item,
        (
          of.terms.ground,
          λ t solves.
              let all : SolvesAll P (word_at row) first seen t = λ s c whole.
              known_solves P opening first row journal words ended acts runs phase x.early x.late x.cut before x.are t solves s (set s c) whole in
              ap (apply_all t) (needs_at P first r.goal.base r.what)
              ∙ ap (λ (g : Goal). apply_all t (apply_all (cells_from g.base) (Closure.needs r.what))) of.goal ∙ of.terms.terms (word_at row) has t all,
        ),
      )
