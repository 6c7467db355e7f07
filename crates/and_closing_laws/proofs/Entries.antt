-- The acts of a journal, entry by entry.
use Rattle.std.proofs.Common.{ℕ, suc, ◌≡◌, ◌⊎◌, inl, inr, false, List, [], ◌∷◌, ◌++◌, length, refl, sym, ap, subst, ◌∙◌, Contains}
use Rattle.and_model.specs.Terms.{Substitution}
use Rattle.and_model.specs.Solutions.{Equation, Solves}
use Rattle.and_model.specs.Reductions.{Reduction}
use Rattle.and_model.specs.Store.{JournalEntry, Setting, Frame, Made, sets, gives, fails, hangs, settings_of, is_half}
use Rattle.and_model.specs.declared.goal.Goal.{Goal}
use Rattle.and_cells.specs.Ranges.{NamedProgram}
use Rattle.and_cells.specs.Meaning.{Words}
use Rattle.and_store_laws.proofs.Journal.{made_settings}
use Rattle.and_store_laws.proofs.Lists.{contains_first, contains_more, contains_cases, contains_none, contains_flat, flat_contains}
use Rattle.and_worker_laws.specs.Acts
use Rattle.and_worker_laws.specs.Acts.{Act, stated}
use Rattle.and_closing_laws.specs.Acting.{Ended, nothing, IsTaking, IsSetting, IsActOf, AreActsOf}
use Rattle.and_closing_laws.proofs.Words.{said}

-- ---- What an entry made

entry_sets : (m : Made) (s : Setting) → Contains (elim m [ sets s ↦ s ∷ [] | gives f ↦ [] | fails ↦ [] | hangs g ↦ [] ]) s → m ≡ sets s
entry_sets (sets x) s among = elim (contains_cases x s [] among) [ inl same ↦ ap (λ z. sets z) (sym same) | inr none ↦ absurd (contains_none s none) ]
entry_sets (gives f) s among = absurd (contains_none s among)
entry_sets fails s among = absurd (contains_none s among)
entry_sets (hangs g) s among = absurd (contains_none s among)

-- A setting of a journal is that of an entry,
pub setting_entry : (js : List JournalEntry) (s : Setting) → Contains (settings_of js) s → (e : JournalEntry) × Contains js e × (e.made ≡ sets s)
setting_entry js s among = let (e, there, is) = flat_contains made_settings s js among in (e, there, entry_sets e.made s is)

sets_contains : (m : Made) (s : Setting) → m ≡ sets s → Contains (elim m [ sets s ↦ s ∷ [] | gives f ↦ [] | fails ↦ [] | hangs g ↦ [] ]) s
sets_contains m s is =
    subst (λ m. Contains (elim m [ sets s ↦ s ∷ [] | gives f ↦ [] | fails ↦ [] | hangs g ↦ [] ]) s) (sym is) (contains_first s [])

pub made_sets : (e : JournalEntry) (s : Setting) → e.made ≡ sets s → Contains (made_settings e) s
made_sets e s is = sets_contains e.made s is

-- and what an entry sets is one of the settings.
pub entry_setting : (js : List JournalEntry) (e : JournalEntry) (s : Setting) → Contains js e → e.made ≡ sets s → Contains (settings_of js) s
entry_setting js e s among is = contains_flat made_settings e s js among (sets_contains e.made s is)

-- ---- The act of an entry

module _ (P : NamedProgram) (w : Words) (ended : List Ended) where
  -- the same by what was made
  abbrev pub ActFor : (pass : ℕ) → Made → Act → Type 0
  ActFor n (sets s) a = IsSetting P w n s a
  ActFor n (gives f) a = IsTaking P ended n f a
  ActFor n fails a = a ≡ Acts.fails n
  ActFor n (hangs g) a = a ≡ Acts.sets n nothing

  act_is : (n : ℕ) (m : Made) (a : Act)
      → elim m as (λ m. Type 0) [
        | sets s ↦ IsSetting P w n s a
        | gives f ↦ IsTaking P ended n f a
        | fails ↦ a ≡ Acts.fails n
        | hangs g ↦ a ≡ Acts.sets n nothing
      ]
      → ActFor n m a
  act_is n (sets s) a x = x
  act_is n (gives f) a x = x
  act_is n fails a x = x
  act_is n (hangs g) a x = x

  pub act_for : (e : JournalEntry) (a : Act) → IsActOf P w ended e a → ActFor e.pass e.made a
  act_for e a x = act_is e.pass e.made a x

  pub act_by : (e : JournalEntry) (m : Made) (a : Act) → e.made ≡ m → IsActOf P w ended e a → ActFor e.pass m a
  act_by e m a is x = subst (λ m. ActFor e.pass m a) is (act_for e a x)

  -- ---- The entry of an act

  pub record OfTakes (e : JournalEntry) (n : ℕ) (g : Goal) (r : Reduction) : Type 0 where
    pub frame : Frame
    pub gave : e.made ≡ gives frame
    pub taking : IsTaking P ended e.pass frame (Acts.takes n g r)

  takes_by : (p : ℕ) (m : Made) (n : ℕ) (g : Goal) (r : Reduction) → ActFor p m (Acts.takes n g r) → (f : Frame) × (m ≡ gives f)
      × IsTaking P ended p f (Acts.takes n g r)
  takes_by p (sets s) n g r (inl x) = let e = x.1 in absurd (cc)
  takes_by p (sets s) n g r (inr x) = let e = x.1.2 in absurd (cc)
  takes_by p (gives f) n g r x = (f, refl, x)
  takes_by p fails n g r x = absurd (cc)
  takes_by p (hangs h) n g r x = absurd (cc)

  pub of_takes : (e : JournalEntry) (n : ℕ) (g : Goal) (r : Reduction) → IsActOf P w ended e (Acts.takes n g r) → OfTakes e n g r
  of_takes e n g r x =
      let (f, gave, taking) = takes_by e.pass e.made n g r (act_for e (Acts.takes n g r) x) in
      record { frame = f; gave = gave; taking = taking }

  -- It sets a cell, or what it states says nothing.
  abbrev pub SetsFor : (pass : ℕ) → Made → (n : ℕ) → Equation → Type 0
  SetsFor p m n d = (n ≡ p) × ((d ≡ nothing) ⊎ ((s : Setting) × (m ≡ sets s) × (is_half s.value ≡ false) × (said P w s ≡ d ∷ [])))

  sets_by : (p : ℕ) (m : Made) (n : ℕ) (d : Equation) → ActFor p m (Acts.sets n d) → SetsFor p m n d
  sets_by p (sets s) n d (inl x) = let e = x.1 in let same : n ≡ p = cc in let says : d ≡ nothing = cc in (same, inl says)
  sets_by p (sets s) n d (inr x) =
      let e = x.1.2 in
      let same : n ≡ p = cc in
      let says : x.1.0 ≡ d = cc in
      (same, inr (s, refl, x.0, x.1.1 ∙ ap (λ z. z ∷ []) says))
  sets_by p (gives f) n d x = let e = x.is in absurd (cc)
  sets_by p fails n d x = absurd (cc)
  sets_by p (hangs h) n d x = let same : n ≡ p = cc in let says : d ≡ nothing = cc in (same, inl says)

  pub of_sets : (e : JournalEntry) (n : ℕ) (d : Equation) → IsActOf P w ended e (Acts.sets n d) → SetsFor e.pass e.made n d
  of_sets e n d x = sets_by e.pass e.made n d (act_for e (Acts.sets n d) x)

  fails_by : (p : ℕ) (m : Made) (n : ℕ) → ActFor p m (Acts.fails n) → (n ≡ p) × (m ≡ fails)
  fails_by p (sets s) n (inl x) = let e = x.1 in absurd (cc)
  fails_by p (sets s) n (inr x) = let e = x.1.2 in absurd (cc)
  fails_by p (gives f) n x = let e = x.is in absurd (cc)
  fails_by p fails n x = let same : n ≡ p = cc in (same, refl)
  fails_by p (hangs h) n x = absurd (cc)

  pub of_fails : (e : JournalEntry) (n : ℕ) → IsActOf P w ended e (Acts.fails n) → (n ≡ e.pass) × (e.made ≡ fails)
  of_fails e n x = fails_by e.pass e.made n (act_for e (Acts.fails n) x)

  -- ---- Lists of them

  pub acts_split : (js : List JournalEntry) (acts front rest : List Act) → AreActsOf P w ended js acts → acts ≡ front ++ rest
      → (jf jb : List JournalEntry) × (js ≡ jf ++ jb) × AreActsOf P w ended jb rest
  acts_split js acts [] rest are is = ([], js, refl, subst (AreActsOf P w ended js) is are)
  acts_split [] [] (x ∷ front) rest are is = absurd (cc)
  acts_split [] (a ∷ acts) (x ∷ front) rest are is = absurd are
  acts_split (e ∷ js) [] (x ∷ front) rest are is = absurd are
  acts_split (e ∷ js) (a ∷ acts) (x ∷ front) rest are is =
      let tail : acts ≡ front ++ rest = cc in
      let (jf, jb, cut, of) = acts_split js acts front rest are.1 tail in
      (e ∷ jf, jb, ap (λ l. e ∷ l) cut, of)

  pub acts_first : (js : List JournalEntry) (a : Act) (before : List Act) → AreActsOf P w ended js (a ∷ before)
      → (e : JournalEntry) × (jb : List JournalEntry) × (js ≡ e ∷ jb) × IsActOf P w ended e a × AreActsOf P w ended jb before
  acts_first [] a before are = absurd are
  acts_first (e ∷ js) a before are = (e, js, refl, are.0, are.1)

  pub acts_long : (js : List JournalEntry) (acts : List Act) → AreActsOf P w ended js acts → length js ≡ length acts
  acts_long [] [] are = refl
  acts_long [] (a ∷ acts) are = absurd are
  acts_long (e ∷ js) [] are = absurd are
  acts_long (e ∷ js) (a ∷ acts) are = ap (λ n. suc n) (acts_long js acts are.1)

  pub entry_act : (js : List JournalEntry) (acts : List Act) → AreActsOf P w ended js acts → (e : JournalEntry) → Contains js e
      → (a : Act) × Contains acts a × IsActOf P w ended e a
  entry_act [] acts are e among = absurd (contains_none e among)
  entry_act (d ∷ js) [] are e among = absurd are
  entry_act (d ∷ js) (a ∷ acts) are e among = elim (contains_cases d e js among) [
    | inl same ↦ (a, contains_first a acts, subst (λ z. IsActOf P w ended z a) (sym same) are.0)
    | inr more ↦ let (b, there, is) = entry_act js acts are.1 e more in (b, contains_more a b acts there, is)
  ]

  pub act_entry : (js : List JournalEntry) (acts : List Act) → AreActsOf P w ended js acts → (a : Act) → Contains acts a
      → (e : JournalEntry) × Contains js e × IsActOf P w ended e a
  act_entry js [] are a among = absurd (contains_none a among)
  act_entry [] (b ∷ acts) are a among = absurd are
  act_entry (e ∷ js) (b ∷ acts) are a among = elim (contains_cases b a acts among) [
    | inl same ↦ (e, contains_first e js, subst (IsActOf P w ended e) (sym same) are.0)
    | inr more ↦ let (d, there, is) = act_entry js acts are.1 a more in (d, contains_more e d js there, is)
  ]

  -- ---- What they state

  stated_rest : (t : Substitution) (a : Act) (acts : List Act) → Solves t (stated (a ∷ acts)) → Solves t (stated acts)
  stated_rest t (Acts.takes n g r) acts s = s
  stated_rest t (Acts.sets n d) acts s = s.1
  stated_rest t (Acts.fails n) acts s = s

  -- What solves what was stated solves what each entry says,
  pub stated_says : (t : Substitution) (js : List JournalEntry) (acts : List Act) → AreActsOf P w ended js acts → Solves t (stated acts)
      → (e : JournalEntry) (s : Setting) → Contains js e → e.made ≡ sets s → is_half s.value ≡ false → Solves t (said P w s)
  stated_says t [] acts are solves e s among is whole = absurd (contains_none e among)
  stated_says t (d ∷ js) [] are solves e s among is whole = absurd are
  stated_says t (d ∷ js) (a ∷ acts) are solves e s among is whole = elim (contains_cases d e js among) [
    | inl same ↦ elim (act_by d (sets s) a (ap (λ (z : JournalEntry). z.made) (sym same) ∙ is) are.0) [
      | inl x ↦ (let half = x.0 in absurd (cc))
      | inr x ↦
          let states : Solves t (x.1.0 ∷ stated acts) = subst (λ (z : Act). Solves t (stated (z ∷ acts))) x.1.2 solves in
          subst (Solves t) (sym x.1.1) (states.0, tt)
    ]
    | inr more ↦ stated_says t js acts are.1 (stated_rest t a acts solves) e s more is whole
  ]

  says_first : (t : Substitution) (n : ℕ) (m : Made) (a : Act) (acts : List Act) → ActFor n m a
      → ((s : Setting) → m ≡ sets s → is_half s.value ≡ false → Solves t (said P w s)) → Solves t (stated acts) → Solves t (stated (a ∷ acts))
  says_first t n (sets s) a acts (inl x) says rest = subst (λ (z : Act). Solves t (stated (z ∷ acts))) (sym x.1) (refl, rest)
  says_first t n (sets s) a acts (inr x) says rest =
      let one : Solves t (x.1.0 ∷ []) = subst (Solves t) x.1.1 (says s refl x.0) in
      subst (λ (z : Act). Solves t (stated (z ∷ acts))) (sym x.1.2) (one.0, rest)
  says_first t n (gives f) a acts x says rest = subst (λ (z : Act). Solves t (stated (z ∷ acts))) (sym x.is) rest
  says_first t n fails a acts x says rest = subst (λ (z : Act). Solves t (stated (z ∷ acts))) (sym x) rest
  says_first t n (hangs h) a acts x says rest = subst (λ (z : Act). Solves t (stated (z ∷ acts))) (sym x) (refl, rest)

  -- and the other way round.
  pub says_stated : (t : Substitution) (js : List JournalEntry) (acts : List Act) → AreActsOf P w ended js acts
      → ((e : JournalEntry) (s : Setting) → Contains js e → e.made ≡ sets s → is_half s.value ≡ false → Solves t (said P w s)) → Solves t (stated acts)
  says_stated t [] [] are says = tt
  says_stated t [] (a ∷ acts) are says = absurd are
  says_stated t (e ∷ js) [] are says = absurd are
  says_stated t (e ∷ js) (a ∷ acts) are says =
      says_first t e.pass e.made a acts (act_for e a are.0) (λ s is whole. says e s (contains_first e js) is whole)
      (says_stated t js acts are.1 (λ d s among is whole. says d s (contains_more e d js among) is whole))
