-- What a worker had asked by some time, as its acts and runs have it.
use Rattle.std.proofs.Common.{ℕ, ◌-◌, ◌≡◌, ◌≤◌, inl, inr, List, [], ◌∷◌, ◌++◌, reverse, length, Some}
use Rattle.std.proofs.Common.{refl, sym, ap, subst, ◌∙◌, append_assoc, append-nil, arith, Contains}
use Rattle.std.proofs.lemmas.List.{append_cancel_left, length-append, length-reverse}
use Rattle.std.proofs.lemmas.List.Concat.{flat_map-append}
use Rattle.std.proofs.lemmas.List.Elements.{All-contains, Contains-append_left}
use Rattle.and_laws.proofs.Solving.{solves_front, solves_back}
use Rattle.and_model.specs.Terms.{Substitution}
use Rattle.and_model.specs.Solutions.{Equation, Solves}
use Rattle.and_model.specs.Store.{JournalEntry, Setting, Frame, gives, fails, set_in, settings_of}
use Rattle.and_model.specs.declared.goal.Goal.{Goal}
use Rattle.and_model.specs.declared.reference.Ref.{Ref}
use Rattle.and_cells.specs.Ranges.{NamedProgram}
use Rattle.and_cells.specs.Seen.{word_at}
use Rattle.and_cells.specs.Meaning.{equations_of}
use Rattle.and_code.specs.Written.{written}
use Rattle.and_store_laws.specs.Steps.{entry}
use Rattle.and_store_laws.proofs.Journal.{made_settings}
use Rattle.and_store_laws.proofs.Lists.{contains_there}
use Rattle.and_worker_laws.specs.Acts
use Rattle.and_worker_laws.specs.Acts.{Act, RunInCells, stated, added_by_run, added_by}
use Rattle.and_worker_laws.specs.Facts.{known_by, told_by}
use Rattle.and_handed.specs.Handed
use Rattle.and_handed.specs.Handed.{settings_from, HasAll, SolvesAll, SolvesAsked, SolvesRun, IsSole, WasRun, HasActed, EndsBy, frame_of}
use Rattle.and_handed.specs.declared.told.Cause.{Cause}
use Rattle.and_handed.specs.declared.told.Reduced.{Reduced}
use Rattle.and_handed.specs.declared.told.Ran.{Ran}
use Rattle.and_closing_laws.specs.Acting.{Ended, IsTaking, IsRunOf, AreActsOf, seen_before_fail, lesser}
use Rattle.and_closing_laws.proofs.Entries.{act_by, acts_long, entry_act}
use Rattle.and_closing_laws.proofs.Lists.{where_stands, stands_in, in_reverse}
use Rattle.and_closing_laws.proofs.Phase.{Phase, seated, settings_in, early_has}
use Rattle.and_closing_laws.proofs.Saying.{known_solves}
use Rattle.and_closing_laws.proofs.Standing.{shorter_begins, none_own}
use Rattle.and_closing_laws.proofs.Workers.{acts_of_ending}
use Rattle.and_closing_laws.proofs.Told.{asked_by_has, added_by_has, run_in, run_solved}

-- A `fail` sets nothing.
pub fail_sets_nothing : (first : List Ref) (early : List JournalEntry) (n : ℕ) (s : Setting)
    → Contains (settings_from first (early ++ entry n fails ∷ [])) s → Contains (settings_from first early) s
fail_sets_nothing first early n s among =
    let same : settings_of (early ++ entry n fails ∷ []) ≡ settings_of early =
    flat_map-append made_settings early (entry n fails ∷ []) ∙ append-nil (settings_of early) in
    subst (λ l. Contains (set_in first ++ l) s) same among

module _ (P : NamedProgram) (opening : List Goal) (first row : List Ref) (journal : List JournalEntry) (words : ℕ) (ended : List Ended)
    (acts : List Act) (runs : List RunInCells) (phase : Phase P opening first row journal words ended acts runs)
    (who : Ended) (one : Contains ended who) where
  -- All that the worker had asked when the journal was so long it had asked by this time.
  pub record Reaches (early : List JournalEntry) (long : ℕ) : Type 0 where
    pub made : (m : Reduced) → Contains who.0.made.items m → length m.judged.value.pass.seen ≤ long
        → Contains early (entry who.1.pass.number (gives (frame_of P.program m)))
    pub ran : (r : Ran) → Contains who.0.ran.items r → length r.judged.value.pass.seen ≤ long → (s : Setting)
        → Contains (settings_from first r.judged.value.pass.seen) s → Contains (settings_from first early) s
    pub at : (r : Ran) (x : RunInCells) → Contains who.0.ran.items r → length r.judged.value.pass.seen ≤ long → IsRunOf P first who r x
        → x.at ≤ length early

  pub acted : HasActed P who.0 (seated first words who.1)
  acted = acts_of_ending P who.0 (seated first words who.1) who.0.cause (phase.workers who one).ends

  pub sole_of : (m : Reduced) → Contains who.0.made.items m → IsSole P (seated first words who.1) m
  sole_of m among = All-contains (IsSole P (seated first words who.1)) who.0.made.items m acted.made among

  pub run_of : (r : Ran) → Contains who.0.ran.items r → WasRun P first who.0 (seated first words who.1) r
  run_of r among = All-contains (WasRun P first who.0 (seated first words who.1)) who.0.ran.items r acted.ran among

  -- Where an entry of its own comes next that is no frame, it had asked what was judged before.
  pub reaches_at : (early after : List JournalEntry) (e : JournalEntry) → who.1.pass.seen ≡ early ++ e ∷ after → e.pass ≡ who.1.pass.number
      → ((f : Frame) → e.made ≡ gives f → ⊥) → Reaches early (length early)
  reaches_at early after e seen own no_frame = record {
    made = λ m among short.
        let sole = sole_of m among in
        let judged : List JournalEntry = m.judged.value.pass.seen in
        let taken : JournalEntry = entry who.1.pass.number (gives (frame_of P.program m)) in
        elim (where_stands early e after (judged ++ sole.since) taken sole.after (sym seen ∙ sole.taken)) [
          | inl same ↦ absurd (no_frame (frame_of P.program m) (ap (λ (e : JournalEntry). e.made) same.1))
          | inr r ↦ elim r [
            | inl behind ↦ elim (stands_in judged sole.since early behind.0 e behind.1) [
              | inl long ↦
                  let n = ap length long.1 ∙ length-append early (e ∷ long.0) in
                  absurd (omega arith)
              | inr late ↦
                  let cut : sole.since ≡ late.0 ++ e ∷ behind.0 = append_cancel_left judged sole.since (late.0 ++ e ∷ behind.0)
                  (behind.1 ∙ ap (λ l. l ++ e ∷ behind.0) late.1 ∙ append_assoc judged late.0 (e ∷ behind.0)) in
                  absurd (none_own who.1.pass sole.since e sole.of_others
                  (subst (λ l. Contains l e) (sym cut) (contains_there late.0 behind.0 e)) own)
            ]
            | inr before ↦ subst (λ l. Contains l taken) (sym before.1) (contains_there (judged ++ sole.since) before.0 taken)
          ]
        ];
    ran = λ r among short s c.
        let run = run_of r among in
        let (m, begins) = shorter_begins r.judged.value.pass.seen run.after early (e ∷ after) (sym run.seen ∙ seen) short in
        settings_in first r.judged.value.pass.seen m early begins s c;
    at = λ r x among short of. let at = of.at in omega arith;
  }

  -- Where its own `fail` comes next, it had asked all.
  pub reaches_fail : (early : List JournalEntry) (cause : Cause) → who.1.pass.seen ≡ early ++ entry who.1.pass.number fails ∷ [] → who.0.cause ≡ Some cause
      → Reaches early (length who.1.pass.seen)
  reaches_fail early cause seen failed =
      let e : JournalEntry = entry who.1.pass.number fails in
      let long = ap length seen ∙ length-append early (e ∷ []) in
      record {
        made = λ m among short.
            let sole = sole_of m among in
            let judged : List JournalEntry = m.judged.value.pass.seen in
            let taken : JournalEntry = entry who.1.pass.number (gives (frame_of P.program m)) in
            elim (where_stands early e [] (judged ++ sole.since) taken sole.after (sym seen ∙ sole.taken)) [
              | inl same ↦ (let made : fails ≡ gives (frame_of P.program m) = ap (λ (e : JournalEntry). e.made) same.1 in absurd (cc))
              | inr r ↦ elim r [
                | inl behind ↦
                    let front = ap length behind.1 ∙ length-append early (e ∷ behind.0) in
                    let whole = ap length sole.taken ∙ length-append (judged ++ sole.since) (taken ∷ sole.after) in
                    absurd (omega arith)
                | inr before ↦ subst (λ l. Contains l taken) (sym before.1) (contains_there (judged ++ sole.since) before.0 taken)
              ]
            ];
        ran = λ r among short s c.
            let run = run_of r among in
            fail_sets_nothing first early who.1.pass.number s
            (subst (λ l. Contains (settings_from first l) s) seen (settings_in first r.judged.value.pass.seen run.after who.1.pass.seen run.seen s c));
        at = λ r x among short of.
            let at : x.at ≡ lesser (length r.judged.value.pass.seen) (length who.1.pass.seen - 1) =
            of.at ∙ ap (λ c. lesser (length r.judged.value.pass.seen) (seen_before_fail (length who.1.pass.seen) c)) failed in
            omega arith;
      }

  -- In the end it had asked all.
  pub reaches_all : Reaches journal (length who.1.pass.seen)
  reaches_all =
      let (rest, begins) = (phase.workers who one).fits.seen in
      let long = ap length begins ∙ length-append who.1.pass.seen rest in
      record {
        made = λ m among short.
            let sole = sole_of m among in
            let taken : JournalEntry = entry who.1.pass.number (gives (frame_of P.program m)) in
            subst (λ l. Contains l taken) (sym begins) (Contains-append_left who.1.pass.seen rest taken
            (subst (λ l. Contains l taken) (sym sole.taken) (contains_there (m.judged.value.pass.seen ++ sole.since) sole.after taken)));
        ran = λ r among short s c.
            let run = run_of r among in
            settings_in first who.1.pass.seen rest journal begins s
            (settings_in first r.judged.value.pass.seen run.after who.1.pass.seen run.seen s c);
        at = λ r x among short of. let at = of.at in omega arith;
      }

  -- ---- What was asked by then

  module _ (early late : List JournalEntry) (cut : journal ≡ early ++ late) (before : List Act)
      (are : AreActsOf P (word_at row) ended (reverse early) before) where
    -- The act of a reduction whose frame was taken by then.
    pub taken_act : (m : Reduced) → Contains who.0.made.items m → Contains early (entry who.1.pass.number (gives (frame_of P.program m)))
        → Contains before (Acts.takes who.1.pass.number m.goal (written m.reduction))
    taken_act m among there =
        let e : JournalEntry = entry who.1.pass.number (gives (frame_of P.program m)) in
        let (a, done, is) = entry_act P (word_at row) ended (reverse early) before are e (in_reverse early e there) in
        let taking : IsTaking P ended who.1.pass.number (frame_of P.program m) a = act_by P (word_at row) ended e (gives (frame_of P.program m)) a refl is in
        let node : m.reduction.node ≡ taking.made.reduction.node = ap (λ (f : Frame). f.base) taking.frame in
        let same = phase.one who taking.who m taking.made one taking.one among taking.among node in
        let this : a ≡ Acts.takes who.1.pass.number m.goal (written m.reduction) =
        taking.is ∙ ap (λ g. Acts.takes who.1.pass.number g (written taking.made.reduction)) (sym same.0)
        ∙ ap (λ r. Acts.takes who.1.pass.number m.goal (written r)) (sym same.1) in
        subst (Contains before) this done

    long_is : length before ≡ length early
    long_is = sym (acts_long P (word_at row) ended (reverse early) before are) ∙ length-reverse early

    pub asked_from : (long : ℕ) → Reaches early long → (t : Substitution) → Solves t (known_by (equations_of P first) before)
        → ((m : Reduced) → Contains before (Acts.takes who.1.pass.number m.goal (written m.reduction)) → Solves t (Handed.asked_by P.program m))
        → ((x : RunInCells) → Contains runs x → x.worker ≡ who.1.pass.number → x.at ≤ length before → Solves t (added_by_run x))
        → SolvesAsked P first who.0 long t
    asked_from long reaches t known asks adds = record {
      made = λ m among short. asks m (taken_act m among (reaches.made m among short));
      ran = λ r among short.
          let (x, there, of) = run_in P first ended runs phase.are_runs who one r among in
          let has : HasAll (word_at row) first r.judged.value.pass.seen = λ s c.
          early_has P opening first row journal words ended acts runs phase early late cut s (reaches.ran r among short s c) in
          let solves : SolvesAll P (word_at row) first r.judged.value.pass.seen t = λ s c whole.
          known_solves P opening first row journal words ended acts runs phase early late cut before are t known s (reaches.ran r among short s c) whole in
          let time = reaches.at r x among short of in
          let long = long_is in
          run_solved P first who r x of (word_at row) has t solves (adds x there of.worker (omega arith));
    }

    -- What solves what is told by then solves what the worker had asked.
    pub asked_by_then : (long : ℕ) → Reaches early long → (t : Substitution)
        → Solves t (told_by P (equations_of P first) runs who.1.pass.number before) → SolvesAsked P first who.0 long t
    asked_by_then long reaches t solves =
        let n : ℕ = who.1.pass.number in
        let known : List Equation = known_by (equations_of P first) before in
        let own : List Equation = Acts.asked_by P.program n before in
        let added : List Equation = added_by n (length before) runs in
        let asks : Solves t (own ++ added) = solves_front t (own ++ added) known solves in
        asked_from long reaches t (solves_back t (own ++ added) known solves)
        (λ m c. asked_by_has P.program t before n m.goal (written m.reduction) c (solves_front t own added asks))
        (λ x c worker early_enough. added_by_has t n (length before) runs x c worker early_enough (solves_back t own added asks))
