-- The entries of a store's journal, the newest first, and their acts.
use Rattle.std.proofs.Common.{ℕ, ◌≡◌, ◌+◌, List, [], ◌∷◌, ◌++◌, reverse, Contains}
use Rattle.std.proofs.Common.{refl, ap, sym, ◌∙◌, subst, inl, inr, arith, append_assoc, append-nil}
use Rattle.std.proofs.lemmas.List.{reverse-append}
use Rattle.and_model.specs.Programs.{clause_at, clause_weight}
use Rattle.and_model.specs.Reductions.{Reduction}
use Rattle.and_model.specs.Store.{JournalEntry, Frame, Made, sets, gives, fails, hangs, SideBySide, frames_of}
use Rattle.and_cells.specs.Ranges.{NamedProgram}
use Rattle.and_cells.specs.Meaning.{Words}
use Rattle.and_code.specs.Written.{written}
use Rattle.and_store_laws.proofs.Lists.{contains_first, contains_more}
use Rattle.and_worker_laws.specs.Acts.{Act, weight_taken}
use Rattle.and_closing_laws.specs.Acting.{Ended, IsActOf, AreActsOf}
use Rattle.and_closing_laws.proofs.Entries.{ActFor, act_for}
use Rattle.and_closing_laws.proofs.Numbering.{AreNumbered}

module _ (P : NamedProgram) (w : Words) (ended : List Ended) where
  -- Where each entry has an act, there are acts of all.
  pub all_acts : (js : List JournalEntry) → ((e : JournalEntry) → Contains js e → (a : Act) × IsActOf P w ended e a)
      → (acts : List Act) × AreActsOf P w ended js acts
  all_acts [] each = ([], tt)
  all_acts (e ∷ js) each =
      let a = each e (contains_first e js) in
      let rest = all_acts js (λ x h. each x (contains_more e x js h)) in
      (a.0 ∷ rest.0, (a.1, rest.1))

  -- ---- frames side by side

  -- what the frame weighs that was given
  abbrev pub frame_weight : Made → ℕ
  frame_weight (sets s) = 0
  frame_weight (gives f) = f.weight
  frame_weight fails = 0
  frame_weight (hangs g) = 0

  abbrev pub all_weigh : List JournalEntry → ℕ
  all_weigh [] = 0
  all_weigh (e ∷ js) = frame_weight e.made + all_weigh js

  abbrev pub StartsAt : Made → ℕ → Type 0
  StartsAt (sets s) n = Unit {0}
  StartsAt (gives f) n = f.base ≡ n
  StartsAt fails n = Unit {0}
  StartsAt (hangs g) n = Unit {0}

  -- Each frame begins where those before it end.
  abbrev pub AreBehind : (used : ℕ) → List JournalEntry → Type 0
  AreBehind used [] = Unit {0}
  AreBehind used (e ∷ js) = StartsAt e.made (used + all_weigh js) × AreBehind used js

  first_starts : (n : ℕ) (m : Made) (b : ℕ) (journal : List JournalEntry) → SideBySide b (frames_of (record { pass = n; made = m } ∷ journal))
      → StartsAt m b × SideBySide (b + frame_weight m) (frames_of journal)
  first_starts n (gives f) b journal s = s
  first_starts n (sets x) b journal s = let e : b ≡ b + 0 = omega arith in (tt, subst (λ (k : ℕ). SideBySide k (frames_of journal)) e s)
  first_starts n fails b journal s = let e : b ≡ b + 0 = omega arith in (tt, subst (λ (k : ℕ). SideBySide k (frames_of journal)) e s)
  first_starts n (hangs x) b journal s = let e : b ≡ b + 0 = omega arith in (tt, subst (λ (k : ℕ). SideBySide k (frames_of journal)) e s)

  turned : (e : JournalEntry) (journal js : List JournalEntry) → reverse journal ++ e ∷ js ≡ reverse (e ∷ journal) ++ js
  turned e journal js =
      sym (append_assoc (reverse journal) (e ∷ []) js) ∙ ap (λ (l : List JournalEntry). l ++ js) (sym (reverse-append (e ∷ []) journal))

  behind_onto : (used : ℕ) (journal js : List JournalEntry) → AreBehind used js → SideBySide (used + all_weigh js) (frames_of journal)
      → AreBehind used (reverse journal ++ js)
  behind_onto used [] js behind s = behind
  behind_onto used (e ∷ journal) js behind s =
      let first = first_starts e.pass e.made (used + all_weigh js) journal s in
      let far : used + all_weigh js + frame_weight e.made ≡ used + (frame_weight e.made + all_weigh js) = omega arith in
      subst (AreBehind used) (turned e journal js)
      (behind_onto used journal (e ∷ js) (first.0, behind) (subst (λ (k : ℕ). SideBySide k (frames_of journal)) far first.1))

  pub journal_behind : (used : ℕ) (journal : List JournalEntry) → SideBySide used (frames_of journal) → AreBehind used (reverse journal)
  journal_behind used journal s =
      let e : used ≡ used + 0 = omega arith in
      subst (AreBehind used) (append-nil (reverse journal))
      (behind_onto used journal [] tt (subst (λ (k : ℕ). SideBySide k (frames_of journal)) e s))

  -- So do the acts that take calls.
  one_numbered : (used : ℕ) (n : ℕ) (m : Made) (js : List JournalEntry) (a : Act) (acts : List Act) → ActFor P w ended n m a → StartsAt m (used + all_weigh js)
      → AreNumbered P.program used acts → all_weigh js ≡ weight_taken P.program acts
      → AreNumbered P.program used (a ∷ acts) × (frame_weight m + all_weigh js ≡ weight_taken P.program (a ∷ acts))
  one_numbered used n (gives f) js a acts is starts rest weigh =
      let r : Reduction = written is.made.reduction in
      let base : f.base ≡ r.node = ap (λ (x : Frame). x.base) is.frame in
      let heavy : f.weight ≡ clause_weight (clause_at P.program r.clause) = ap (λ (x : Frame). x.weight) is.frame in
      let at : r.node ≡ used + weight_taken P.program acts = sym base ∙ starts ∙ ap (λ (k : ℕ). used + k) weigh in
      let all : f.weight + all_weigh js ≡ clause_weight (clause_at P.program r.clause) + weight_taken P.program acts = omega arith in
      subst (λ (x : Act). AreNumbered P.program used (x ∷ acts) × (f.weight + all_weigh js ≡ weight_taken P.program (x ∷ acts))) (sym is.is)
      ((at, rest), all)
  one_numbered used n (sets s) js a acts (inl half) starts rest weigh =
      subst (λ (x : Act). AreNumbered P.program used (x ∷ acts) × (0 + all_weigh js ≡ weight_taken P.program (x ∷ acts))) (sym half.1)
      (rest, omega arith)
  one_numbered used n (sets s) js a acts (inr whole) starts rest weigh =
      subst (λ (x : Act). AreNumbered P.program used (x ∷ acts) × (0 + all_weigh js ≡ weight_taken P.program (x ∷ acts))) (sym whole.1.2)
      (rest, omega arith)
  one_numbered used n fails js a acts is starts rest weigh =
      subst (λ (x : Act). AreNumbered P.program used (x ∷ acts) × (0 + all_weigh js ≡ weight_taken P.program (x ∷ acts))) (sym is)
      (rest, omega arith)
  one_numbered used n (hangs x) js a acts is starts rest weigh =
      subst (λ (x : Act). AreNumbered P.program used (x ∷ acts) × (0 + all_weigh js ≡ weight_taken P.program (x ∷ acts))) (sym is)
      (rest, omega arith)

  pub acts_numbered : (used : ℕ) (js : List JournalEntry) (acts : List Act) → AreBehind used js → AreActsOf P w ended js acts
      → AreNumbered P.program used acts × (all_weigh js ≡ weight_taken P.program acts)
  acts_numbered used [] [] behind are = (tt, refl)
  acts_numbered used [] (a ∷ acts) behind are = absurd are
  acts_numbered used (e ∷ js) [] behind are = absurd are
  acts_numbered used (e ∷ js) (a ∷ acts) behind are =
      let rest = acts_numbered used js acts behind.1 are.1 in
      one_numbered used e.pass e.made js a acts (act_for P w ended e a are.0) behind.0 rest.0 rest.1
