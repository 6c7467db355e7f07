-- Pairs that were handed to unification over a worker's cells: what becomes of what the worker did.
use Rattle.std.proofs.Common.{ℕ, ◌≡◌, ◌<◌, ◌≤◌, inl, inr, false, List, [], ◌∷◌, ◌++◌, map, length, None, refl, sym, ap, subst, ◌∙◌}
use Rattle.std.proofs.Common.{append_assoc, All, Contains}
use Rattle.std.proofs.lemmas.List.Elements.{All-nil, All-weaker, All-append, All-contains}
use Rattle.std.proofs.lemmas.Grind.{flat_map-append}
use Rattle.and_model.specs.Terms.{Substitution}
use Rattle.and_model.specs.Solutions.{Solves}
use Rattle.and_model.specs.Store.{JournalEntry, Setting, Known, Pass, sets, is_half}
use Rattle.and_model.specs.declared.reference.Ref.{Ref}
use Rattle.and_model.specs.declared.reference.Ref.TheVariants.{Cell}
use Rattle.and_laws.proofs.Solving.{solves_join, solves_front, solves_back}
use Rattle.and_branch_laws.proofs.Lists.{all_left}
use Rattle.and_cells.specs.Ranges.{NamedProgram, IsInRange}
use Rattle.and_cells.specs.Seen.{Seen, IsWrittenIfNumber}
use Rattle.and_cells.specs.Meaning.{Words, equations_between}
use Rattle.and_cells.specs.Known.{HasKnown, SolvesKnown, SolvesSettings}
use Rattle.and_workers.specs.Waiting.{Waiting}
use Rattle.and_unify.specs.declared.pairs.Pair.{Pair}
use Rattle.and_unify.specs.declared.unifying.Unified.{Unified}
use Rattle.and_unify.specs.declared.unifying.Unified.TheVariants.{Same, Apart, PutOff}
use Rattle.and_unify.specs.Pairs.{equations_of_pairs, AreInRange, AreWritten, NameNoHalf}
use Rattle.and_unify.specs.Following.{OwnFollow}
use Rattle.and_unify.specs.Unifying.{Unifies}
use Rattle.and_store.specs.Passes.{PassSeen}
use Rattle.and_store.specs.Worked.{IsUsed, seen_by}
use Rattle.and_store_laws.proofs.Lists.{map_contains}
use Rattle.and_store_laws.specs.Steps.{entry, setting}
use Rattle.and_workers.specs.AtWork.{IsAtWork}
use Rattle.and_handed.specs.Handed.{settings_from, HasAll, SolvesAll, SolvesAsked, FitsSeen, IsSole, WasRun, SettingsFollow, HasDone, Kills}
use Rattle.and_handed.specs.declared.told.Cause.TheVariants.{NoSolution}
use Rattle.and_handed.specs.declared.told.HandedOn.{HandedOn}
use Rattle.and_handed.specs.declared.told.Ran.{Ran}
use Rattle.and_workers.proofs.Quiet.{later, solves_less, asked_less, front_is_short, fits_before, sole_later, run_later, pairs_later}
use Rattle.and_workers.proofs.Steps.{Works, AllStand, IsKnownAt, made_own, entry_splits, steps_work, fits_used}

-- ---- What stands in a journal

-- words that have all that a journal sets have all that is known of it,
known_is_had : (first : List Ref) (journal : List JournalEntry) (s : Seen) (none : s.told ≡ None) (w : Words) → AllStand first journal s.known
    → HasAll w first journal → HasKnown s w
known_is_had first journal s none w stand has place r knows =
    let among : Contains (map (λ (k : Known). k.setting) s.known) (setting place r) =
    subst (λ told. Rattle.and_cells.specs.Seen.IsAmong told s.known place r) none knows in
    let k = map_contains (λ (k : Known). k.setting) (setting place r) s.known among in
    subst (λ (x : Setting). w x.place ≡ x.value) k.2
    (has k.0.setting (All-contains (λ (k : Known). Contains (settings_from first journal) k.setting) s.known k.0 stand k.1))

-- and a substitution that solves what the journal sets solves what is known of it.
listed_is_solved : (P : NamedProgram) (first : List Ref) (journal : List JournalEntry) (known : List Known) (w : Words) (t : Substitution)
    → AllStand first journal known → SolvesAll P w first journal t → SolvesSettings P w known t
listed_is_solved P first journal known w t stand solves k among half =
    solves k.setting (All-contains (λ (k : Known). Contains (settings_from first journal) k.setting) known k stand among) half

known_is_solved : (P : NamedProgram) (first : List Ref) (journal : List JournalEntry) (s : Seen) (none : s.told ≡ None) (w : Words) (t : Substitution)
    → AllStand first journal s.known → SolvesAll P w first journal t → SolvesKnown P w s t
known_is_solved P first journal s none w t stand solves place r knows half =
    let among : Contains (map (λ (k : Known). k.setting) s.known) (setting place r) =
    subst (λ told. Rattle.and_cells.specs.Seen.IsAmong told s.known place r) none knows in
    let k = map_contains (λ (k : Known). k.setting) (setting place r) s.known among in
    let solved : is_half k.0.setting.value ≡ false → Solves t (equations_between P w (Cell k.0.setting.place) k.0.setting.value) =
    listed_is_solved P first journal s.known w t stand solves k.0 k.1 in
    subst (λ (x : Setting). is_half x.value ≡ false → Solves t (equations_between P w (Cell x.place) x.value)) k.2 solved half

-- ---- Pairs beside others

pairs_of_both : (P : NamedProgram) (w : Words) (xs ys : List Pair) → equations_of_pairs P w (xs ++ ys) ≡ equations_of_pairs P w xs ++ equations_of_pairs P w ys
pairs_of_both P w xs ys = flat_map-append (λ (p : Pair). equations_between P w p.left p.right) xs ys

pub solves_first_pairs : (P : NamedProgram) (w : Words) (t : Substitution) (xs ys : List Pair) → Solves t (equations_of_pairs P w (xs ++ ys))
    → Solves t (equations_of_pairs P w xs)
solves_first_pairs P w t xs ys s =
    solves_front t (equations_of_pairs P w xs) (equations_of_pairs P w ys) (subst (λ es. Solves t es) (pairs_of_both P w xs ys) s)

pub solves_last_pairs : (P : NamedProgram) (w : Words) (t : Substitution) (xs ys : List Pair) → Solves t (equations_of_pairs P w (xs ++ ys))
    → Solves t (equations_of_pairs P w ys)
solves_last_pairs P w t xs ys s = solves_back t (equations_of_pairs P w xs) (equations_of_pairs P w ys) (subst (λ es. Solves t es) (pairs_of_both P w xs ys) s)

pub solves_both_pairs : (P : NamedProgram) (w : Words) (t : Substitution) (xs ys : List Pair) → Solves t (equations_of_pairs P w xs)
    → Solves t (equations_of_pairs P w ys) → Solves t (equations_of_pairs P w (xs ++ ys))
solves_both_pairs P w t xs ys one other =
    subst (λ es. Solves t es) (sym (pairs_of_both P w xs ys)) (solves_join t (equations_of_pairs P w xs) (equations_of_pairs P w ys) one other)

-- ---- The worker's settings follow

module _ (P : NamedProgram) (told : HandedOn) (first_pairs todo : List Pair) (p : PassSeen) (q : Pass) (kept : List ℕ) (since : List JournalEntry)
    (more : List Known) where
  abbrev pub y : PassSeen
  y = later p q kept since more

  settings_solved : HasDone P told (first_pairs ++ todo) p → OwnFollow P todo (seen_by p) (seen_by y)
      → AllStand p.store.about.first (p.pass.seen ++ since) (p.pass.known ++ more)
      → ((before after : List JournalEntry) (s : Setting) → since ≡ before ++ entry p.pass.number (sets s) ∷ after
      → IsKnownAt p.store.about.first p.pass before more s)
      → SettingsFollow P told y
  settings_solved done follow stand own before after s is half w fits t solves asked =
      let first = p.store.about.first in
      let fits_p = fits_before P told p q kept since more w fits in
      elim (entry_splits p.pass.seen since before after (entry p.pass.number (sets s)) is) [
        | inl r ↦ done.settings before r.0 s r.1 half w fits_p t solves asked
        | inr r ↦
            let k = own r.0 after s r.2 in
            let solves_early : SolvesAll P w first (p.pass.seen ++ r.0) t = subst (λ es. SolvesAll P w first es t) r.1 solves in
            let shorter : length p.pass.seen ≤ length before = front_is_short before p.pass.seen r.0 r.1 in
            let pairs : Solves t (equations_of_pairs P w todo) = solves_last_pairs P w t first_pairs todo
            (done.pairs_left.asked w fits_p t (solves_less P w first p.pass.seen r.0 t solves_early)
            (asked_less P first told (length p.pass.seen) (length before) t shorter asked)) in
            follow k.early k.late (made_own s)
            (ap (λ l. p.pass.known ++ l) k.is ∙ sym (append_assoc p.pass.known k.early (made_own s ∷ k.late))) refl w
            (known_is_had first (p.pass.seen ++ since) (seen_by y) refl w stand fits.has) t
            (listed_is_solved P first (p.pass.seen ++ r.0) (p.pass.known ++ k.early) w t k.stand solves_early) pairs
      ]

  done_solved : HasDone P told (first_pairs ++ todo) p → OwnFollow P todo (seen_by p) (seen_by y)
      → AllStand p.store.about.first (p.pass.seen ++ since) (p.pass.known ++ more)
      → ((before after : List JournalEntry) (s : Setting) → since ≡ before ++ entry p.pass.number (sets s) ∷ after
      → IsKnownAt p.store.about.first p.pass before more s)
      → HasDone P told (first_pairs ++ todo) y
  done_solved done follow stand own = record {
    acted = record {
      frames = done.frames;
      made = All-weaker (IsSole P p) (IsSole P y) (sole_later P told p q kept since more) told.made.items done.made;
      ran = All-weaker (WasRun P p.store.about.first told p) (WasRun P p.store.about.first told y) (run_later P told p q kept since more)
          told.ran.items done.ran;
      settings = settings_solved done follow stand own;
    };
    pairs_left = pairs_later P told p q kept since more (first_pairs ++ todo) done;
  }

-- The pass as its steps left it.
works_is : (p q : PassSeen) (store : q.store ≡ p.store) (l : Works p.store.about.first p.pass q.pass) → later p q.pass q.kept l.since l.more ≡ q
works_is p q store l i = record {
  store = sym store i;
  pass = record q.pass { number = sym l.number i; seen = sym l.seen i; frames = sym l.frames i; known = sym l.known i };
  kept = q.kept;
}

works_done : (P : NamedProgram) (told : HandedOn) (first_pairs todo : List Pair) (p q : PassSeen) → q.store ≡ p.store → Works p.store.about.first p.pass q.pass
    → OwnFollow P todo (seen_by p) (seen_by q) → HasDone P told (first_pairs ++ todo) p → HasDone P told (first_pairs ++ todo) q
works_done P told first_pairs todo p q store l follow done =
    let is = works_is p q store l in
    let follow_y = subst (λ (z : PassSeen). OwnFollow P todo (seen_by p) (seen_by z)) (sym is) follow in
    let stand = subst (AllStand p.store.about.first (p.pass.seen ++ l.since)) l.known
    (subst (λ es. AllStand p.store.about.first es q.pass.known) l.seen l.stand) in
    subst (HasDone P told (first_pairs ++ todo)) is (done_solved P told first_pairs todo p q.pass q.kept l.since l.more done follow_y stand l.own)

-- ---- Other pairs that ask for the same

pairs_replaced : (P : NamedProgram) (told : HandedOn) (first_pairs todo left : List Pair) (q : PassSeen)
    → AreInRange P q.store.about.words left → AreWritten (seen_by q) left
    → ((w : Words) → FitsSeen P told q w → (t : Substitution) → SolvesAll P w q.store.about.first q.pass.seen t
    → Solves t (equations_of_pairs P w todo) → Solves t (equations_of_pairs P w left))
    → ((w : Words) → FitsSeen P told q w → (t : Substitution) → SolvesAll P w q.store.about.first q.pass.seen t
    → Solves t (equations_of_pairs P w left) → Solves t (equations_of_pairs P w todo))
    → HasDone P told (first_pairs ++ todo) q → HasDone P told (first_pairs ++ left) q
pairs_replaced P told first_pairs todo left q ranges written there back done = record {
  acted = done.acted;
  pairs_left = record {
    in_range = All-append (λ (e : Pair). IsInRange P q.store.about.words e.left × IsInRange P q.store.about.words e.right) first_pairs left
        (all_left (λ (e : Pair). IsInRange P q.store.about.words e.left × IsInRange P q.store.about.words e.right) first_pairs todo
        done.pairs_left.in_range) ranges;
    written = All-append (λ (e : Pair). IsWrittenIfNumber (seen_by q) e.left × IsWrittenIfNumber (seen_by q) e.right) first_pairs left
        (all_left (λ (e : Pair). IsWrittenIfNumber (seen_by q) e.left × IsWrittenIfNumber (seen_by q) e.right) first_pairs todo
        done.pairs_left.written) written;
    asked = λ w fits t solves asked.
        let old = done.pairs_left.asked w fits t solves asked in
        solves_both_pairs P w t first_pairs left (solves_first_pairs P w t first_pairs todo old)
        (there w fits t solves (solves_last_pairs P w t first_pairs todo old));
    all = λ w fits t solves solved. done.pairs_left.all w fits t solves
        (solves_both_pairs P w t first_pairs todo (solves_first_pairs P w t first_pairs left solved)
        (back w fits t solves (solves_last_pairs P w t first_pairs left solved)));
  };
}

-- ---- What unification came to

module _ (P : NamedProgram) (told : HandedOn) (todo left : List Pair) (waiting : List Waiting) (p q : PassSeen) (answer : Unified)
    (work : IsAtWork P told todo waiting p) (used : IsUsed P p q) (u : Unifies P (seen_by p) (seen_by q) todo left answer) where
  works : Works p.store.about.first p.pass q.pass
  works = steps_work P p.store.about p q work.known used.steps

  -- All that is known now stands in what was seen.
  stand : AllStand q.store.about.first q.pass.seen q.pass.known
  stand = subst (λ s. AllStand s.about.first q.pass.seen q.pass.known) (sym used.store) works.stand

  pub still_done : HasDone P told (told.pairs ++ todo) q
  still_done = works_done P told told.pairs todo p q used.store works u.follows work.done

  pub never_failed : q.pass.fails ≡ []
  never_failed = works.fails ∙ work.no_fail

  has_known : (w : Words) → FitsSeen P told q w → HasKnown (seen_by q) w
  has_known w fits = known_is_had q.store.about.first q.pass.seen (seen_by q) refl w stand fits.has

  knows_solved : (w : Words) (t : Substitution) → SolvesAll P w q.store.about.first q.pass.seen t → SolvesKnown P w (seen_by q) t
  knows_solved w t solves = known_is_solved P q.store.about.first q.pass.seen (seen_by q) refl w t stand solves

  -- Where two are apart what was asked has no solution.
  pub none_solves : (one other : Ref) → answer ≡ Apart one other → Kills P told q NoSolution
  none_solves one other is w fits t solves asked =
      (u.apart one other is).1 w (has_known w fits) t (knows_solved w t solves)
      (solves_last_pairs P w t told.pairs todo (still_done.pairs_left.asked w fits t solves asked))

  fits_old : (w : Words) → FitsSeen P told q w → FitsSeen P told p w
  fits_old w fits = fits_before P told p q.pass q.kept works.since works.more w
      (subst (λ (z : PassSeen). FitsSeen P told z w) (sym (works_is p q used.store works)) fits)

  -- Where no pair is left, all were made equal.
  pub all_same : ((w : Words) → FitsSeen P told p w → NameNoHalf P w todo) → answer ≡ Same → HasDone P told (told.pairs ++ []) q
  all_same whole is =
      pairs_replaced P told told.pairs todo [] q (All-nil (λ (e : Pair). IsInRange P q.store.about.words e.left × IsInRange P q.store.about.words e.right))
      (All-nil (λ (e : Pair). IsWrittenIfNumber (seen_by q) e.left × IsWrittenIfNumber (seen_by q) e.right))
      (λ w fits t solves solved. tt)
      (λ w fits t solves solved. u.equal (inl is) w (has_known w fits) (whole w (fits_old w fits)) t (knows_solved w t solves)
      (subst (λ (ps : List Pair). Solves t (equations_of_pairs P w ps)) (sym (u.same is)) tt)) still_done

  -- Those that are left ask for the same as all did.
  pub some_left : ((w : Words) → FitsSeen P told p w → NameNoHalf P w todo) → answer ≡ PutOff → HasDone P told (told.pairs ++ left) q
  some_left whole is =
      pairs_replaced P told told.pairs todo left q (u.in_range is).0 (u.in_range is).1
      (λ w fits t solves solved. u.still_asked is w (has_known w fits) t (knows_solved w t solves) solved)
      (λ w fits t solves solved. u.equal (inr is) w (has_known w fits) (whole w (fits_old w fits)) t (knows_solved w t solves) solved) still_done

  -- The worker goes on with this told of it.
  pub at_work : (now : HandedOn) → now.cause ≡ told.cause → HasDone P now (now.pairs ++ []) q → IsAtWork P now [] waiting q
  at_work now cause done = record {
    done = done;
    no_fail = never_failed;
    known = stand;
    fit = fits_used P p q used work.fit;
    waits = subst (λ s. All (λ (w : Waiting). w.cell < s.about.words) waiting) (sym used.store) work.waits;
    live = cause ∙ work.live;
  }

-- ---- Pairs that are told of as well

module _ (P : NamedProgram) (told : HandedOn) (pairs : List Pair) (p : PassSeen) where
  -- the same told, with these pairs
  abbrev pub telling : HandedOn
  telling = record told { pairs = pairs }

  fits_telling : (w : Words) → FitsSeen P telling p w → FitsSeen P told p w
  fits_telling w f = record { has = f.has; made = f.made; ran = f.ran }

  asked_telling : (long : ℕ) (t : Substitution) → SolvesAsked P p.store.about.first telling long t → SolvesAsked P p.store.about.first told long t
  asked_telling long t a = record { made = a.made; ran = a.ran }

  told_asked : (long : ℕ) (t : Substitution) → SolvesAsked P p.store.about.first told long t → SolvesAsked P p.store.about.first telling long t
  told_asked long t a = record { made = a.made; ran = a.ran }

  run_telling : (r : Ran) → WasRun P p.store.about.first told p r → WasRun P p.store.about.first telling p r
  run_telling r run = record {
    placed = elim run.placed [
      | inl early ↦ inl early
      | inr f ↦ inr (record { made = f.made; is = f.is; base = f.base; clause = f.clause; before = f.before })
    ];
    known = run.known;
    after = run.after;
    seen = run.seen;
  }

  pub done_telling : (left : List Pair) → HasDone P told left p → HasDone P telling left p
  done_telling left done = record {
    acted = record {
      frames = done.frames;
      made = done.made;
      ran = All-weaker (WasRun P p.store.about.first told p) (WasRun P p.store.about.first telling p) run_telling told.ran.items done.ran;
      settings = λ before after s is half w fits t solves asked.
          done.settings before after s is half w (fits_telling w fits) t solves (asked_telling (length before) t asked);
    };
    pairs_left = record {
      in_range = done.pairs_left.in_range;
      written = done.pairs_left.written;
      asked = λ w fits t solves asked. done.pairs_left.asked w (fits_telling w fits) t solves (asked_telling (length p.pass.seen) t asked);
      all = λ w fits t solves solved. told_asked (length p.pass.seen) t (done.pairs_left.all w (fits_telling w fits) t solves solved);
    };
  }
