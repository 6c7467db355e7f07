-- The journal by the time of an act.
use Rattle.std.proofs.Common.{◌≡◌, List, [], ◌∷◌, ◌++◌, reverse, length, sym, ap, subst, ◌∙◌}
use Rattle.std.proofs.lemmas.List.{append_assoc, reverse-append, reverse-reverse, length-reverse}
use Rattle.and_model.specs.Store.{JournalEntry}
use Rattle.and_cells.specs.Ranges.{NamedProgram}
use Rattle.and_cells.specs.Meaning.{Words}
use Rattle.and_worker_laws.specs.Acts.{Act}
use Rattle.and_closing_laws.specs.Acting.{Ended, IsActOf, AreActsOf}
use Rattle.and_closing_laws.proofs.Entries.{acts_split, acts_first, acts_long}

module _ (P : NamedProgram) (w : Words) (ended : List Ended) (journal : List JournalEntry) where
  -- These acts are those of the journal by some time.
  pub record ByThen (before : List Act) : Type 0 where
    pub early : List JournalEntry
    pub late : List JournalEntry
    pub cut : journal ≡ early ++ late
    pub are : AreActsOf P w ended (reverse early) before

  -- The act comes next.
  pub record Next (before : List Act) (a : Act) : Type 0 where
    pub early : List JournalEntry
    pub here : JournalEntry
    pub late : List JournalEntry
    pub cut : journal ≡ early ++ here ∷ late
    pub are : AreActsOf P w ended (reverse early) before
    pub act : IsActOf P w ended here a

  pub by_then : (acts front before : List Act) → AreActsOf P w ended (reverse journal) acts → acts ≡ front ++ before → ByThen before
  by_then acts front before are is =
      let (jf, jb, cut, of) = acts_split P w ended (reverse journal) acts front before are is in
      record {
        early = reverse jb;
        late = reverse jf;
        cut = sym (reverse-reverse journal) ∙ ap reverse cut ∙ reverse-append jf jb;
        are = subst (λ l. AreActsOf P w ended l before) (sym (reverse-reverse jb)) of;
      }

  pub next : (acts front before : List Act) (a : Act) → AreActsOf P w ended (reverse journal) acts → acts ≡ front ++ a ∷ before → Next before a
  next acts front before a are is =
      let (jf, jb, cut, of) = acts_split P w ended (reverse journal) acts front (a ∷ before) are is in
      let (e, js, begins, act, rest) = acts_first P w ended jb a before of in
      record {
        early = reverse js;
        here = e;
        late = reverse jf;
        cut = sym (reverse-reverse journal) ∙ ap reverse cut ∙ reverse-append jf jb ∙ ap (λ l. reverse l ++ reverse jf) begins
            ∙ ap (λ l. l ++ reverse jf) (reverse-append (e ∷ []) js) ∙ append_assoc (reverse js) (e ∷ []) (reverse jf);
        are = subst (λ l. AreActsOf P w ended l before) (sym (reverse-reverse js)) rest;
        act = act;
      }

  pub then_long : (before : List Act) (x : ByThen before) → length x.early ≡ length before
  then_long before x = sym (length-reverse x.early) ∙ acts_long P w ended (reverse x.early) before x.are
