-- The runs of a phase: each worker's arithmetic, with the terms that it had.
use Rattle.std.proofs.Common.{ℕ, ◌≡◌, false, List, [], ◌∷◌, ◌++◌, map, length, flat_map, Option, Some, None, All, Contains}
use Rattle.std.proofs.Common.{refl, ap, sym, ◌∙◌, subst, inl, inr, arith, append-nil}
use Rattle.std.proofs.lemmas.List.{length-append}
use Rattle.std.proofs.lemmas.List.Elements.{All-contains, Contains-append_cases}
use Rattle.and_model.specs.Store.{JournalEntry, Frame, gives, fails}
use Rattle.and_model.specs.declared.goal.Goal.{Goal}
use Rattle.and_model.specs.declared.reference.Ref.{Ref}
use Rattle.and_cells.specs.Ranges.{NamedProgram}
use Rattle.and_store.specs.Passes.{PassSeen}
use Rattle.and_store_laws.specs.Steps.{entry}
use Rattle.and_store_laws.proofs.Lists.{contains_first, contains_more, contains_cases, contains_none, map_append}
use Rattle.and_handed.specs.Handed.{WasRun, IsKnownRun, EndsBy}
use Rattle.and_handed.specs.declared.told.Cause.{Cause}
use Rattle.and_handed.specs.declared.told.Ran.{Ran}
use Rattle.and_handed.specs.declared.told.HandedOn.{HandedOn}
use Rattle.and_gathering.specs.Gathering.{all_ran, ran_by}
use Rattle.and_gathering.specs.declared.links.Taken.TheVariants as variants
use Rattle.and_worker_laws.specs.Acts.{RunInCells}
use Rattle.and_closing_laws.specs.Phases.{HasPhased, AllHandOn}
use Rattle.and_closing_laws.specs.Acting.{Ended, all_ended, seen_before_fail, lesser, AreRunsOf, AreAllRuns}
use Rattle.and_closing_laws.proofs.Workers.{acted_of, has_ended}
use Rattle.and_closing_laws.proofs.Meeting.{goals_run, goals_run_append}

-- ---- there are runs

module _ (P : NamedProgram) (first row : List Ref) (tolds : List HandedOn) (h : HasPhased P first row tolds)
    (clean : All (λ (t : HandedOn). t.is_spoilt ≡ false) tolds) where
  pub was_run : (who : Ended) (r : Ran) → Contains (all_ended tolds h.passes) who → Contains who.0.ran.items r → WasRun P first who.0 who.1 r
  was_run who r one among =
      let has = has_ended P first row tolds h clean who one in
      let begun : who.1.store.about.first ≡ first = ap (λ a. a.first) has.about ∙ h.first in
      subst (λ (l : List Ref). WasRun P l who.0 who.1 r) begun
      (All-contains (WasRun P who.1.store.about.first who.0 who.1) who.0.ran.items r (acted_of P _ _ h.journal who has).ran among)

  own_runs : (who : Ended) → Contains (all_ended tolds h.passes) who → (rs : List Ran) → ((r : Ran) → Contains rs r → Contains who.0.ran.items r)
      → (own : List RunInCells) × AreRunsOf P first who rs own
  own_runs who one [] sub = ([], tt)
  own_runs who one (r ∷ rs) sub =
      let known : IsKnownRun P first r = (was_run who r one (sub r (contains_first r rs))).known in
      let rest = own_runs who one rs (λ x c. sub x (contains_more r x rs c)) in
      let at : ℕ = lesser (length r.judged.value.pass.seen) (seen_before_fail (length who.1.pass.seen) who.0.cause) in
      let x : RunInCells = record { at = at; worker = who.1.pass.number; goal = r.goal; what = known.0; terms = known.1 } in
      (x ∷ rest.0, (record { worker = refl; goal = refl; terms = known.2; at = refl }, rest.1))

  those_runs : (some : List Ended) → ((who : Ended) → Contains some who → Contains (all_ended tolds h.passes) who)
      → (runs : List RunInCells) × AreAllRuns P first some runs
  those_runs [] sub = ([], refl)
  those_runs (who ∷ some) sub =
      let own = own_runs who (sub who (contains_first who some)) who.0.ran.items (λ r c. c) in
      let others = those_runs some (λ x c. sub x (contains_more who x some c)) in
      (own.0 ++ others.0, (own.0, others.0, refl, own.1, others.1))

  pub runs_are : (runs : List RunInCells) × AreAllRuns P first (all_ended tolds h.passes) runs
  runs_are = those_runs (all_ended tolds h.passes) (λ who c. c)

-- ---- their goals

module _ (P : NamedProgram) (first : List Ref) where
  -- Their goals, in order, are those that the workers ran.
  own_goals : (who : Ended) (rs : List Ran) (own : List RunInCells) → AreRunsOf P first who rs own
      → map (λ (x : RunInCells). x.goal) own ≡ map (λ (r : Ran). r.goal) rs
  own_goals who [] [] are = refl
  own_goals who [] (y ∷ own) are = absurd are
  own_goals who (r ∷ rs) [] are = absurd are
  own_goals who (r ∷ rs) (y ∷ own) are =
      ap (λ (k : Goal). k ∷ map (λ (x : RunInCells). x.goal) own) are.0.goal ∙ ap (λ (l : List Goal). r.goal ∷ l) (own_goals who rs own are.1)

  run_goals : (some : List Ended) (runs : List RunInCells) → AreAllRuns P first some runs
      → map (λ (x : RunInCells). x.goal) runs ≡ flat_map (λ (who : Ended). map (λ (r : Ran). r.goal) who.0.ran.items) some
  run_goals [] runs are = ap (map (λ (x : RunInCells). x.goal)) are
  run_goals (who ∷ some) runs (own, others, is, owns, rest) =
      ap (map (λ (x : RunInCells). x.goal)) is ∙ map_append (λ (x : RunInCells). x.goal) own others
      ∙ ap (λ (l : List Goal). l ++ map (λ (x : RunInCells). x.goal) others) (own_goals who who.0.ran.items own owns)
      ∙ ap (λ (l : List Goal). map (λ (r : Ran). r.goal) who.0.ran.items ++ l) (run_goals some others rest)

goals_of_one : (rs : List Ran) → goals_run (map (λ (r : Ran). variants.Ran r.goal) rs) ≡ map (λ (r : Ran). r.goal) rs
goals_of_one [] = refl
goals_of_one (r ∷ rs) = ap (λ (l : List Goal). r.goal ∷ l) (goals_of_one rs)

goals_of_all : (P : NamedProgram) (tolds : List HandedOn) (passes : List PassSeen) → AllHandOn P tolds passes
    → flat_map (λ (who : Ended). map (λ (r : Ran). r.goal) who.0.ran.items) (all_ended tolds passes) ≡ goals_run (all_ran tolds)
goals_of_all P [] [] hand = refl
goals_of_all P [] (p ∷ ps) hand = absurd hand
goals_of_all P (t ∷ ts) [] hand = absurd hand
goals_of_all P (t ∷ ts) (p ∷ ps) hand =
    ap (λ (l : List Goal). map (λ (r : Ran). r.goal) t.ran.items ++ l) (goals_of_all P ts ps hand.1)
    ∙ ap (λ (l : List Goal). l ++ goals_run (all_ran ts)) (sym (goals_of_one t.ran.items)) ∙ sym (goals_run_append (ran_by t) (all_ran ts))

pub goals_of_runs : (P : NamedProgram) (first row : List Ref) (tolds : List HandedOn) (h : HasPhased P first row tolds) (runs : List RunInCells)
    → AreAllRuns P first (all_ended tolds h.passes) runs → map (λ (x : RunInCells). x.goal) runs ≡ goals_run (all_ran tolds)
goals_of_runs P first row tolds h runs are = run_goals P first (all_ended tolds h.passes) runs are ∙ goals_of_all P tolds h.passes h.hand_on

-- ---- how much of the journal a worker had seen

-- What was seen when arithmetic was run, but for a `fail`.
pub record IsCut (seen judged : List JournalEntry) (c : Option Cause) (e : JournalEntry) : Type 0 where
  pub front : List JournalEntry
  pub rest : List JournalEntry
  pub is : seen ≡ front ++ rest
  pub long : length front ≡ lesser (length judged) (seen_before_fail (length seen) c)
  pub has : Contains front e

-- An entry that gave a frame by then is in it.
pub cut_at : (P : NamedProgram) (told : HandedOn) (p : PassSeen) (c : Option Cause) → EndsBy P told p c → (judged after : List JournalEntry)
    → p.pass.seen ≡ judged ++ after → (n : ℕ) (f : Frame) → Contains judged (entry n (gives f)) → IsCut p.pass.seen judged c (entry n (gives f))
cut_at P told p None ends judged after is n f has =
    let long = length-append judged after in let same : length p.pass.seen ≡ length (judged ++ after) = ap (λ (l : List JournalEntry). length l) is in
    record { front = judged; rest = after; is = is; long = omega arith; has = has }
cut_at P told p (Some cause) ends judged [] is n f has =
    let before : List JournalEntry = ends.2.0 in
    let last : JournalEntry = entry p.pass.number fails in
    let all : p.pass.seen ≡ before ++ last ∷ [] = ends.2.1 in
    let long = length-append before (last ∷ []) in
    let same : length p.pass.seen ≡ length (before ++ last ∷ []) = ap (λ (l : List JournalEntry). length l) all in
    let too : judged ≡ p.pass.seen = sym (append-nil judged) ∙ sym is in
    let same_too : length judged ≡ length p.pass.seen = ap (λ (l : List JournalEntry). length l) too in
    let there : Contains (before ++ last ∷ []) (entry n (gives f)) = subst (λ (l : List JournalEntry). Contains l (entry n (gives f))) (too ∙ all) has in
    record {
      front = before;
      rest = last ∷ [];
      is = all;
      long = omega arith;
      has = elim (Contains-append_cases before (last ∷ []) (entry n (gives f)) there) [
        | inl front ↦ front
        | inr end ↦ elim (contains_cases last (entry n (gives f)) [] end) [
          | inl it ↦ (let e : gives f ≡ fails = ap (λ (x : JournalEntry). x.made) it in absurd (cc))
          | inr none ↦ absurd (contains_none (entry n (gives f)) none)
        ]
      ];
    }
cut_at P told p (Some cause) ends judged (x ∷ after) is n f has =
    let long = length-append judged (x ∷ after) in
    let same : length p.pass.seen ≡ length (judged ++ x ∷ after) = ap (λ (l : List JournalEntry). length l) is in
    record { front = judged; rest = x ∷ after; is = is; long = omega arith; has = has }
