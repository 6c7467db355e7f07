-- A worker that knows why the tree is dead, and says so.
use Rattle.std.proofs.Common.{ℕ, ◌≡◌, inl, inr, [], ◌∷◌, ◌++◌, length, Some, None, sym, ap, subst, ◌∙◌, append-nil}
use Rattle.std.proofs.lemmas.List.{append_assoc}
use Rattle.std.proofs.lemmas.List.Elements.{All-weaker, Contains-append_cases}
use Rattle.and_model.specs.Store.{JournalEntry, Pass, sets, fails}
use Rattle.and_cells.specs.Ranges.{NamedProgram}
use Rattle.and_clause_index.specs.Selecting.{CanBeTried, AreLeft}
use Rattle.and_store.specs.Calls.{Fails}
use Rattle.and_store.specs.Passes.{PassSeen}
use Rattle.and_store.specs.Worked.{seen_by}
use Rattle.and_store_laws.proofs.Lists.{contains_cases, contains_none}
use Rattle.and_store_laws.specs.Steps.{entry}
use Rattle.and_handed.specs.Handed.{HasActed, HandsOn, Kills, FitsSeen, SolvesAsked, WasRun}
use Rattle.and_handed.specs.declared.told.Cause.{Cause}
use Rattle.and_handed.specs.declared.told.Cause.TheVariants.{NoCandidate, NoSolution}
use Rattle.and_handed.specs.declared.told.HandedOn.{HandedOn}
use Rattle.and_handed.specs.declared.told.Ran.{Ran}
use Rattle.and_workers.proofs.Quiet.{SawOnly, saw_acted, saw_none, hanging_sets_halves}
use Rattle.and_workers.proofs.Learning.{others_hang}

-- ---- The cause is told beside what was done

abbrev causing : HandedOn → Cause → HandedOn
causing told cause = record told { cause = Some cause }

module _ (P : NamedProgram) (told : HandedOn) (cause : Cause) (p : PassSeen) where
  fits_causing : (w : _) → FitsSeen P (causing told cause) p w → FitsSeen P told p w
  fits_causing w f = record { has = f.has; made = f.made; ran = f.ran }

  asked_causing : (long : ℕ) (t : _) → SolvesAsked P p.store.about.first (causing told cause) long t → SolvesAsked P p.store.about.first told long t
  asked_causing long t a = record { made = a.made; ran = a.ran }

  kills_causing : (why : Cause) → Kills P told p why → Kills P (causing told cause) p why
  kills_causing (NoCandidate goal) kills = kills
  kills_causing NoSolution kills = λ w fits t solves asked. kills w (fits_causing w fits) t solves (asked_causing _ t asked)

  run_causing : (r : Ran) → WasRun P p.store.about.first told p r → WasRun P p.store.about.first (causing told cause) p r
  run_causing r run = record {
    placed = elim run.placed [
      | inl early ↦ inl early
      | inr f ↦ inr (record { made = f.made; is = f.is; base = f.base; clause = f.clause; before = f.before })
    ];
    known = run.known;
    after = run.after;
    seen = run.seen;
  }

  acted_causing : HasActed P told p → HasActed P (causing told cause) p
  acted_causing done = record {
    frames = done.frames;
    made = done.made;
    ran = All-weaker (WasRun P p.store.about.first told p) (WasRun P p.store.about.first (causing told cause) p) run_causing told.ran.items done.ran;
    settings = λ before after s is half w fits t solves asked. done.settings before after s is half w (fits_causing w fits) t solves (asked_causing
        (length before) t asked);
  }

-- ---- The call of `fail`

saw_failing : (p q : PassSeen) → q.store ≡ p.store → Fails p.pass q.pass → SawOnly p q
saw_failing p q store f = record {
  store = store;
  number = ap (λ (x : Pass). x.number) f.becomes;
  since = f.sees.since ++ entry p.pass.number fails ∷ [];
  seen = f.sees.seen ∙ append_assoc p.pass.seen f.sees.since (entry p.pass.number fails ∷ []);
  sets_halves = λ e among same s is. elim (Contains-append_cases f.sees.since (entry p.pass.number fails ∷ []) e among) [
    | inl early ↦ hanging_sets_halves p.pass.number f.sees.since (others_hang p.pass f.sees.since f.sees.of_others) e early same s is
    | inr late ↦ elim (contains_cases (entry p.pass.number fails) e [] late) [
      | inl here ↦ (let made : fails ≡ sets s = ap (λ (e : JournalEntry). e.made) (sym here) ∙ is in absurd (cc))
      | inr more ↦ absurd (contains_none e more)
    ]
  ];
  frames = ap (λ (x : Pass). x.frames) f.becomes;
  learnt = [];
  known = ap (λ (x : Pass). x.known) f.becomes ∙ sym (append-nil p.pass.known);
}

-- what is seen in the cells stays as it was
failing_sees : (p q : PassSeen) → q.store ≡ p.store → Fails p.pass q.pass → seen_by q ≡ seen_by p
failing_sees p q store f i = record {
  words = (store i).about.words;
  told = None;
  known = (ap (λ (x : Pass). x.known) f.becomes) i;
  missed = (ap (λ (x : Pass). x.missed) f.becomes) i;
}

kills_still : (P : NamedProgram) (told : HandedOn) (cause : Cause) (p q : PassSeen) → q.store ≡ p.store → Fails p.pass q.pass → Kills P told p cause
    → Kills P told q cause
kills_still P told (NoCandidate goal) p q store f kills =
    (subst (λ s. CanBeTried P s.about.words goal) (sym store) kills.0, subst (λ s. AreLeft P s goal []) (sym (failing_sees p q store f)) kills.1)
kills_still P told NoSolution p q store f kills = saw_none P told p q (saw_failing p q store f) kills

pub gives_up : (P : NamedProgram) (told : HandedOn) (cause : Cause) (p q : PassSeen) → q.store ≡ p.store → p.pass.fails ≡ [] → Fails p.pass q.pass
    → HasActed P told p → Kills P told p cause → HandsOn P (record told { cause = Some cause }) q
gives_up P told cause p q store live f done kills spoilt = (
  kills_causing P told cause q cause (kills_still P told cause p q store f kills),
  ap (λ (x : Pass). x.fails) f.becomes ∙ ap (λ l. l ++ tt ∷ []) live,
  (
    p.pass.seen ++ f.sees.since,
    f.sees.seen ∙ ap (λ n. (p.pass.seen ++ f.sees.since) ++ entry n fails ∷ []) (sym (ap (λ (x : Pass). x.number) f.becomes)),
  ),
  acted_causing P told cause q (saw_acted P told p q (saw_failing p q store f) done),
)
