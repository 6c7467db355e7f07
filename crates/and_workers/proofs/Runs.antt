-- A worker notes that arithmetic was run, and goes on with what this asks.
use Rattle.std.proofs.Common.{ℕ, ◌≡◌, ◌<◌, ◌≤◌, inl, inr, List, [], ◌∷◌, ◌++◌, append-nil, length, sym, ap, subst, ◌∙◌, arith, All, Contains}
use Rattle.std.proofs.lemmas.List.Concat.{flat_map-append}
use Rattle.std.proofs.lemmas.List.Elements.{All-nil, All-cons, All-weaker, All-append, All-contains, Contains-append_left, Contains-append_right}
use Rattle.std.proofs.lemmas.List.Elements.{Contains-append_cases}
use Rattle.and_model.specs.Closure.{added, needs}
use Rattle.and_model.specs.Programs.{Arithmetic, arithmetic}
use Rattle.and_model.specs.Solutions.{Solves}
use Rattle.and_model.specs.Store.{JournalEntry, gives}
use Rattle.and_model.specs.Terms.{Terms, Substitution, apply_all}
use Rattle.and_model.specs.declared.goal.Goal.{Goal}
use Rattle.and_model.specs.declared.reference.Ref.{Ref}
use Rattle.and_laws.proofs.Solving.{solves_join, solves_front, solves_back}
use Rattle.and_cells.specs.Meaning.{Words, equations_between}
use Rattle.and_cells.specs.Ranges.{NamedProgram, IsInRange}
use Rattle.and_cells.specs.Seen.{IsWrittenIfNumber}
use Rattle.and_unify.specs.declared.pairs.Pair.{Pair}
use Rattle.and_unify.specs.Pairs.{AreInRange, AreWritten, equations_of_pairs}
use Rattle.and_branch_laws.specs.Variables.{cells_from}
use Rattle.and_workers.specs.Waiting.{Waiting}
use Rattle.and_store.specs.Passes.{PassSeen}
use Rattle.and_store.specs.Worked.{seen_by}
use Rattle.and_store_laws.proofs.Lists.{contains_first, contains_cases, contains_none, contains_there}
use Rattle.and_store_laws.specs.Steps.{entry}
use Rattle.and_workers.specs.AtWork.{IsAtWork}
use Rattle.and_handed.specs.Handed.{HasAll, SolvesAll, HasTerms, IsKnownRun, SolvesRun, SolvesAsked, FitsSeen, IsSole, WasRun, PairsLeft, HasActed, frame_of}
use Rattle.and_handed.specs.Handed.{arithmetic_at}
use Rattle.and_workers.specs.Running.{MayRun, NotesRun}
use Rattle.and_handed.specs.declared.told.Ran.{Ran}
use Rattle.and_handed.specs.declared.told.HandedOn.{HandedOn}

-- ---- What a run asks is told by any terms that are known

-- What a run waits for stands for the same terms, however these are found, where what was seen has a solution.
one_way : (P : NamedProgram) (first : List Ref) (r : Ran) (what other : Arithmetic) (ts us : Terms) (w : Words) (t : Substitution)
    → HasAll w first r.judged.value.pass.seen → SolvesAll P w first r.judged.value.pass.seen t
    → HasTerms P first r what ts → HasTerms P first r other us → (what ≡ other) × (ts ≡ us)
one_way P first r what other ts us w t has solves a b =
    let both : arithmetic what ≡ arithmetic other = sym a.is_arithmetic ∙ b.is_arithmetic in
    let same : what ≡ other = cc in
    (same, sym (a.terms w has t solves) ∙ ap (λ (g : Arithmetic). apply_all t (apply_all (cells_from r.goal.base) (needs g))) same ∙ b.terms w has t solves)

pub solves_run : (P : NamedProgram) (first : List Ref) (r : Ran) (what : Arithmetic) (ts : Terms) (w : Words) (t : Substitution)
    → HasAll w first r.judged.value.pass.seen → SolvesAll P w first r.judged.value.pass.seen t
    → HasTerms P first r what ts → Solves t (added (arithmetic_at r.goal.base what) ts) → SolvesRun P first t r
solves_run P first r what ts w t has solves known solved other us h =
    let same = one_way P first r what other ts us w t has solves known h in
    subst (λ (g : Arithmetic). Solves t (added (arithmetic_at r.goal.base g) us)) same.0
    (subst (λ (l : Terms). Solves t (added (arithmetic_at r.goal.base what) l)) same.1 solved)

-- ---- One run more

-- what is told, where the other lists are those of before
abbrev pub noting : (old new : HandedOn) → HandedOn
noting old new = record new { made = old.made; pairs = old.pairs; cause = old.cause }

module _ (P : NamedProgram) (told new : HandedOn) (one : Ran) (more : new.ran.items ≡ told.ran.items ++ one ∷ []) (p : PassSeen) where
  abbrev noted : HandedOn
  noted = noting told new

  abbrev first : List Ref
  first = p.store.about.first

  was_there : (r : Ran) → Contains told.ran.items r → Contains new.ran.items r
  was_there r c = subst (λ l. Contains l r) (sym more) (Contains-append_left told.ran.items (one ∷ []) r c)

  pub is_there : Contains new.ran.items one
  is_there = subst (λ l. Contains l one) (sym more) (Contains-append_right told.ran.items (one ∷ []) one (contains_first one []))

  fits_noted : (w : Words) → FitsSeen P noted p w → FitsSeen P told p w
  fits_noted w fits = record { has = fits.has; made = fits.made; ran = λ r c. fits.ran r (was_there r c) }

  asked_noted : (long : ℕ) (t : Substitution) → SolvesAsked P first noted long t → SolvesAsked P first told long t
  asked_noted long t a = record { made = a.made; ran = λ r c. a.ran r (was_there r c) }

  asked_with : (long : ℕ) (t : Substitution) → SolvesAsked P first told long t → SolvesRun P first t one → SolvesAsked P first noted long t
  asked_with long t a run = record {
    made = a.made;
    ran = λ r c below. elim (Contains-append_cases told.ran.items (one ∷ []) r (subst (λ l. Contains l r) more c)) [
      | inl early ↦ a.ran r early below
      | inr late ↦ elim (contains_cases one r [] late) [
        | inl same ↦ subst (λ r. SolvesRun P first t r) (sym same) run
        | inr none ↦ absurd (contains_none r none)
      ]
    ];
  }

  old_run : (r : Ran) → WasRun P first told p r → WasRun P first noted p r
  old_run r run = record {
    placed = elim run.placed [
      | inl early ↦ inl early
      | inr f ↦ inr (record { made = f.made; is = f.is; base = f.base; clause = f.clause; before = f.before })
    ];
    known = run.known;
    after = run.after;
    seen = run.seen;
  }

  pub acted_noted : HasActed P told p → WasRun P first noted p one → HasActed P noted p
  acted_noted done run = record {
    frames = done.frames;
    made = done.made;
    ran = subst (All (WasRun P first noted p)) (sym more)
        (All-append (WasRun P first noted p) told.ran.items (one ∷ []) (All-weaker (WasRun P first told p)
        (WasRun P first noted p) old_run told.ran.items done.ran)
        (All-cons (WasRun P first noted p) one [] run (All-nil (WasRun P first noted p))));
    settings = λ before after s is half w fits t solves asked. done.settings before after s is half w (fits_noted w fits) t solves (asked_noted
        (length before) t asked);
  }

  -- the worker may run it, and its terms are known by now
  pub was_run : (goal : Goal) → one.goal ≡ goal → one.judged.value ≡ p → MayRun (length first) told.made.items goal → HasActed P told p
      → IsKnownRun P first one
      → WasRun P first noted p one
  was_run goal goal_is judged may done known = record {
    placed = elim may [
      | inl low ↦ inl (subst (λ (g : Goal). g.base < length first) (sym goal_is) low)
      | inr h ↦ inr (
          let sole = All-contains (IsSole P p) told.made.items h.one done.made h.among in
          let e : JournalEntry = entry p.pass.number (gives (frame_of P.program h.one)) in
          record {
            made = h.one;
            is = h.among;
            base = h.node ∙ ap (λ (g : Goal). g.base) (sym goal_is);
            clause = h.clause_is ∙ ap (λ (g : Goal). g.clause) (sym goal_is);
            before = subst (λ (q : PassSeen). Contains q.pass.seen e) (sym judged)
                (subst (λ l. Contains l e) (sym sole.taken) (contains_there (h.one.judged.value.pass.seen ++ sole.since) sole.after e));
          })
    ];
    known = known;
    after = [];
    seen = ap (λ (q : PassSeen). q.pass.seen) (sym judged) ∙ sym (append-nil one.judged.value.pass.seen);
  }

  pub by_now : one.judged.value ≡ p → length one.judged.value.pass.seen ≤ length p.pass.seen
  by_now judged = let e = ap (λ (q : PassSeen). length q.pass.seen) judged in omega arith

  -- where it asks for these pairs, and no more
  module _ (judged : one.judged.value ≡ p) (todo : List Pair)
      (asks : (w : Words) → FitsSeen P noted p w → (t : Substitution) → SolvesAll P w first p.pass.seen t → SolvesRun P first t one
      → Solves t (equations_of_pairs P w todo))
      (alls : (w : Words) → FitsSeen P noted p w → (t : Substitution) → SolvesAll P w first p.pass.seen t → Solves t (equations_of_pairs P w todo)
      → SolvesRun P first t one) where
    split : (w : Words) (pairs : List Pair) → equations_of_pairs P w (pairs ++ todo) ≡ equations_of_pairs P w pairs ++ equations_of_pairs P w todo
    split w pairs = flat_map-append (λ (p : Pair). equations_between P w p.left p.right) pairs todo

    pairs_noted : (pairs : List Pair) → PairsLeft P told pairs p → AreInRange P p.store.about.words todo → AreWritten (seen_by p) todo
        → PairsLeft P noted (pairs ++ todo) p
    pairs_noted pairs left range written = record {
      in_range = All-append (λ (e : Pair). IsInRange P p.store.about.words e.left × IsInRange P p.store.about.words e.right) pairs todo left.in_range range;
      written = All-append (λ (e : Pair). IsWrittenIfNumber (seen_by p) e.left × IsWrittenIfNumber (seen_by p) e.right) pairs todo left.written written;
      asked = λ w fits t solves asked. subst (Solves t) (sym (split w pairs))
          (solves_join t (equations_of_pairs P w pairs) (equations_of_pairs P w todo)
          (left.asked w (fits_noted w fits) t solves (asked_noted (length p.pass.seen) t asked))
          (asks w fits t solves (asked.ran one is_there (by_now judged))));
      all = λ w fits t solves solved.
          let both : Solves t (equations_of_pairs P w pairs ++ equations_of_pairs P w todo) = subst (Solves t) (split w pairs) solved in
          asked_with (length p.pass.seen) t
          (left.all w (fits_noted w fits) t solves (solves_front t (equations_of_pairs P w pairs) (equations_of_pairs P w todo) both))
          (alls w fits t solves (solves_back t (equations_of_pairs P w pairs) (equations_of_pairs P w todo) both));
    }

    pub work_noted : (waiting : List Waiting) → IsAtWork P told [] waiting p → WasRun P first noted p one
        → AreInRange P p.store.about.words todo → AreWritten (seen_by p) todo → IsAtWork P noted todo waiting p
    work_noted waiting work run range written = record {
      done = record {
        acted = acted_noted work.done.acted run;
        pairs_left = pairs_noted told.pairs (subst (λ l. PairsLeft P told l p) (append-nil told.pairs) work.done.pairs_left) range written;
      };
      no_fail = work.no_fail;
      known = work.known;
      fit = work.fit;
      waits = work.waits;
      live = work.live;
    }

-- what is told is just that
pub noting_is : (goal : Goal) (p : PassSeen) (old new : HandedOn) → NotesRun goal p old new → noting old new ≡ new
noting_is goal p old new n i = record new { made = sym n.made i; pairs = sym n.pairs i; cause = sym n.cause i }
