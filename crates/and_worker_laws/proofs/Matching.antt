-- Acts and the entries of a journal that are read of them, and runs in the cells and in the tree.
use Rattle.std.proofs.Common.{ℕ, suc, ◌≡◌, ◌≤◌, arith, List, [], ◌∷◌, ◌++◌, refl, ap, sym, subst, ◌∙◌, inl, inr, length, Contains}
use Rattle.std.proofs.lemmas.Bool.Decides.{eqb_tells}
use Rattle.and_model.specs.Terms.{Path, apply}
use Rattle.and_model.specs.Programs.{Program}
use Rattle.and_model.specs.Reductions.{Reduction}
use Rattle.and_laws.specs.Naming.{under}
use Rattle.and_laws.proofs.Ordered.{contains_first, contains_more, contains_cases, contains_none}
use Rattle.and_worker_laws.specs.PhaseCells.{put_apart}
use Rattle.and_phase_laws.specs.Journals.{Entry, Journal, settings}
use Rattle.and_phase_laws.specs.Weaving.{Run}
use Rattle.and_worker_laws.specs.Acts.{Act, takes, sets, fails, RunInCells, stated}
use Rattle.and_worker_laws.specs.Reading.{IsReadAs, AreReadAs, IsRunReadAs, AreRunsReadAs}

-- A list is cut where so many of its elements are left.
pub cut_at : {X : Type 0} (xs : List X) (n : ℕ) → n ≤ length xs → (front : List X) × (before : List X) × (xs ≡ front ++ before) × (n ≡ length before)
cut_at [] n low = let none : n ≡ 0 = omega arith in ([], [], refl, none)
cut_at (x ∷ xs) n low = elim (eqb_tells n (suc (length xs))) [
  | inl all ↦ ([], x ∷ xs, refl, all.1)
  | inr fewer ↦
      let differs = fewer.1 in
      let within : n ≤ length xs = omega arith in
      let r = cut_at xs n within in (x ∷ r.0, r.1, ap (λ ys. x ∷ ys) r.2, r.3)
]

module _ (P : Program) (rs : List Reduction) (apart : Path) where
  pub length_read : (acts : List Act) (j : Journal) → AreReadAs P rs apart acts j → length acts ≡ length j
  length_read [] [] h = refl
  length_read [] (e ∷ j) h = absurd h
  length_read (a ∷ acts) [] h = absurd h
  length_read (a ∷ acts) (e ∷ j) h = ap suc (length_read acts j h.1)

  -- Each act is read as an entry, and each entry is read of an act.
  pub act_read : (acts : List Act) (j : Journal) → AreReadAs P rs apart acts j → (a : Act) → Contains acts a
      → (e : Entry) × Contains j e × IsReadAs P rs apart a e
  act_read [] j h a c = absurd (contains_none a c)
  act_read (x ∷ acts) [] h a c = absurd h
  act_read (x ∷ acts) (e ∷ j) h a c = elim (contains_cases x a acts c) [
    | inl is ↦ (e, contains_first e j, subst (λ y. IsReadAs P rs apart y e) (sym is) h.0)
    | inr before ↦ let r = act_read acts j h.1 a before in (r.0, contains_more e r.0 j r.1, r.2)
  ]

  pub entry_read : (acts : List Act) (j : Journal) → AreReadAs P rs apart acts j → (e : Entry) → Contains j e
      → (a : Act) × Contains acts a × IsReadAs P rs apart a e
  entry_read acts [] h e c = absurd (contains_none e c)
  entry_read [] (d ∷ j) h e c = absurd h
  entry_read (x ∷ acts) (d ∷ j) h e c = elim (contains_cases d e j c) [
    | inl is ↦ (x, contains_first x acts, subst (λ y. IsReadAs P rs apart x y) (sym is) h.0)
    | inr before ↦ let r = entry_read acts j h.1 e before in (r.0, contains_more x r.0 acts r.1, r.2)
  ]

  -- What was done before an entry is read as what stands before it.
  pub read_before : (acts : List Act) (front before : Journal) → AreReadAs P rs apart acts (front ++ before)
      → (later : List Act) × (earlier : List Act) × (acts ≡ later ++ earlier) × AreReadAs P rs apart earlier before
  read_before acts [] before h = ([], acts, refl, h)
  read_before [] (e ∷ front) before h = absurd h
  read_before (a ∷ acts) (e ∷ front) before h =
      let r = read_before acts front before h.1 in (a ∷ r.0, r.1, ap (λ l. a ∷ l) r.2, r.3)

  pub read_last : (acts : List Act) (e : Entry) (before : Journal) → AreReadAs P rs apart acts (e ∷ before)
      → (a : Act) × (earlier : List Act) × (acts ≡ a ∷ earlier) × IsReadAs P rs apart a e × AreReadAs P rs apart earlier before
  read_last [] e before h = absurd h
  read_last (a ∷ earlier) e before h = (a, earlier, refl, h.0, h.1)

  -- The settings state in the frame apart what was set.
  pub settings_read : (acts : List Act) (j : Journal) → AreReadAs P rs apart acts j → settings j ≡ under (put_apart apart) (stated acts)
  settings_read [] [] h = refl
  settings_read [] (e ∷ j) h = absurd h
  settings_read (a ∷ acts) [] h = absurd h
  settings_read (takes w g r ∷ acts) (e ∷ j) h =
      ap (λ (x : Entry). settings (x ∷ j)) h.0.2 ∙ settings_read acts j h.1
  settings_read (sets w d ∷ acts) (e ∷ j) h =
      ap (λ (x : Entry). settings (x ∷ j)) h.0
      ∙ ap (λ ds. (apply (put_apart apart) d.0, apply (put_apart apart) d.1) ∷ ds) (settings_read acts j h.1)
  settings_read (fails w ∷ acts) (e ∷ j) h = ap (λ (x : Entry). settings (x ∷ j)) h.0 ∙ settings_read acts j h.1

-- So it is with runs.
module _ (rs : List Reduction) where
  pub run_in_tree : (runs : List RunInCells) (read : List Run) → AreRunsReadAs rs runs read → (r : RunInCells) → Contains runs r
      → (x : Run) × Contains read x × IsRunReadAs rs r x
  run_in_tree [] read h r c = absurd (contains_none r c)
  run_in_tree (y ∷ runs) [] h r c = absurd h
  run_in_tree (y ∷ runs) (x ∷ read) h r c = elim (contains_cases y r runs c) [
    | inl is ↦ (x, contains_first x read, subst (λ z. IsRunReadAs rs z x) (sym is) h.0)
    | inr later ↦ let f = run_in_tree runs read h.1 r later in (f.0, contains_more x f.0 read f.1, f.2)
  ]

  pub run_in_cells : (runs : List RunInCells) (read : List Run) → AreRunsReadAs rs runs read → (x : Run) → Contains read x
      → (r : RunInCells) × Contains runs r × IsRunReadAs rs r x
  run_in_cells runs [] h x c = absurd (contains_none x c)
  run_in_cells [] (z ∷ read) h x c = absurd h
  run_in_cells (y ∷ runs) (z ∷ read) h x c = elim (contains_cases z x read c) [
    | inl is ↦ (y, contains_first y runs, subst (λ v. IsRunReadAs rs y v) (sym is) h.0)
    | inr later ↦ let f = run_in_cells runs read h.1 x later in (f.0, contains_more y f.0 runs f.1, f.2)
  ]
