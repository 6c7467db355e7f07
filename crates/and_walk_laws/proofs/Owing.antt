-- What a stack owes, and how its steps keep it.
use Rattle.std.proofs.Common.{ℕ, ◌≡◌, ◌+◌, ◌<◌, ◌≤◌, Bool, true, false, ◌||◌, List}
use Rattle.std.proofs.Common.{[], ◌∷◌, ◌++◌, append_assoc, append-nil, refl, ap, sym, ◌∙◌, subst, arith}
use Rattle.and_model.specs.Programs.{Program}
use Rattle.and_model.specs.Trees.{QueryTree, Open, weight}
use Rattle.and_model.specs.Reached.{Step, Steps, Shut, Dead, SplitClauses}
use Rattle.and_model.specs.Listing.{Outcome, Ends, Entry}
use Rattle.and_laws.proofs.Members.{entry}
use Rattle.and_walk_laws.specs.Walks.{Walks, WalksSplits, WalksAll, Owes, SplitsThatFit}

or_assoc : (a b c : Bool) → a || (b || c) ≡ (a || b) || c
or_assoc false b c = refl
or_assoc true b c = refl

or_false : (a : Bool) → a || false ≡ a
or_false false = refl
or_false true = refl

or_true : (a : Bool) → a || true ≡ true
or_true false = refl
or_true true = refl

-- of three, the second and the first may change places
or_swap : (a b c : Bool) → a || (b || c) ≡ b || (a || c)
or_swap false b c = refl
or_swap true false c = refl
or_swap true true c = refl

module _ (P : Program) (limit : ℕ) where
  -- a walk with the same entries, numbers and cut
  alike : (t : QueryTree P) (es ks : List Entry) (f g m n : ℕ) (b d : Bool) → Walks P limit t es f m b → es ≡ ks → f ≡ g → m ≡ n → b ≡ d
      → Walks P limit t ks g n d
  alike t es ks f g m n b d w p q r s =
      subst (λ z. Walks P limit t z g n d) p (subst (λ z. Walks P limit t es z n d) q
      (subst (λ z. Walks P limit t es f z d) r (subst (λ z. Walks P limit t es f m z) s w)))

  -- The walk of a stack of one tree is the tree's.
  one_tree : (t : QueryTree P) (es : List Entry) (f m : ℕ) (b : Bool) → WalksAll P limit (t ∷ []) es f m b → Walks P limit t es f m b
  one_tree t es f m b (WalksAll.one_more t' ts ks js g n f2 m2 d b2 w WalksAll.empty) =
      alike t' ks (ks ++ []) g (g + 0) n (n + 0) d (d || false) w (sym (append-nil ks)) (omega arith) (omega arith) (sym (or_false d))

  pub owed_root : (t : QueryTree P) → Owes P limit t (t ∷ []) [] 0 0 false
  owed_root t js f m c w = alike t js js f (0 + f) m (0 + m) c c (one_tree t js f m c w) refl (omega arith) (omega arith) refl

  -- What Steps lead to is walked from where they begin.
  pub walks_before : (u v : QueryTree P) (es : List Entry) (f m : ℕ) (b : Bool) → Steps u v → Walks P limit v es f m b
      → Walks P limit u es f m b
  walks_before u v es f m b (Steps.none u') w = w
  walks_before u v es f m b (Steps.more u' x n ss st) w = walks_before u' x es f m b ss (Walks.stepped x n es f m b st w)

  top_before : (u v : QueryTree P) (stack : List (QueryTree P)) (es : List Entry) (f m : ℕ) (b : Bool) → Steps u v
      → WalksAll P limit (v ∷ stack) es f m b → WalksAll P limit (u ∷ stack) es f m b
  top_before u v stack es f m b ss (WalksAll.one_more v' ts ks js f1 m1 f2 m2 b1 b2 w x) = WalksAll.one_more u ts ks js f1 m1 f2 m2 b1 b2
      (walks_before u v' ks f1 m1 b1 ss w) x

  -- So the top may be replaced by a tree that it comes to by Steps.
  pub owed_steps : (t u v : QueryTree P) (stack : List (QueryTree P)) (es : List Entry) (f m : ℕ) (b : Bool)
      → Owes P limit t (u ∷ stack) es f m b → Steps u v → Owes P limit t (v ∷ stack) es f m b
  owed_steps t u v stack es f m b o ss js g n d w = o js g n d (top_before u v stack js g n d ss w)

  -- The top is taken off with any walk of it.
  pub owed_pop : (t u : QueryTree P) (stack : List (QueryTree P)) (es ks : List Entry) (f m g n : ℕ) (b d : Bool)
      → Owes P limit t (u ∷ stack) es f m b → Walks P limit u ks g n d
      → Owes P limit t stack (es ++ ks) (f + g) (m + n) (b || d)
  owed_pop t u stack es ks f m g n b d o w js h l c x =
      alike t (es ++ (ks ++ js)) ((es ++ ks) ++ js) (f + (g + h)) ((f + g) + h) (m + (n + l)) ((m + n) + l) (b || (d || c)) ((b || d) || c)
      (o (ks ++ js) (g + h) (n + l) (d || c) (WalksAll.one_more u stack ks js g n h l d c w x))
      (sym (append_assoc es ks js)) (omega arith) (omega arith) (or_assoc b d c)

  -- what is owed with the same entries, numbers and cut so far
  owes_alike : (t : QueryTree P) (stack : List (QueryTree P)) (es ks : List Entry) (f g m n : ℕ) (b d : Bool)
      → Owes P limit t stack es f m b → es ≡ ks → f ≡ g → m ≡ n → b ≡ d → Owes P limit t stack ks g n d
  owes_alike t stack es ks f g m n b d o p q r s js h l c x =
      alike t (es ++ js) (ks ++ js) (f + h) (g + h) (m + l) (n + l) (b || c) (d || c) (o js h l c x)
      (ap (λ z. z ++ js) p) (omega (arith, q)) (omega (arith, r)) (ap (λ z. z || c) s)

  pub owed_dead : (t u : QueryTree P) (stack : List (QueryTree P)) (es : List Entry) (f m : ℕ) (b : Bool)
      → Owes P limit t (u ∷ stack) es f m b → Dead u → Owes P limit t stack es f (m + 1) b
  owed_dead t u stack es f m b o x =
      owes_alike t stack (es ++ []) es (f + 0) f (m + 1) (m + 1) (b || false) b
      (owed_pop t u stack es [] f m 0 1 b false o (Walks.dead u x)) (append-nil es) (omega arith) refl (or_false b)

  pub owed_end : (t u : QueryTree P) (stack : List (QueryTree P)) (es : List Entry) (f m : ℕ) (b : Bool) (r : Outcome)
      → Owes P limit t (u ∷ stack) es f m b
      → weight u ≤ limit → Ends u r → Owes P limit t stack (es ++ entry u r ∷ []) f m b
  owed_end t u stack es f m b r o h x =
      owes_alike t stack (es ++ entry u r ∷ []) (es ++ entry u r ∷ []) (f + 0) f (m + 0) m (b || false) b
      (owed_pop t u stack es (entry u r ∷ []) f m 0 0 b false o (Walks.ended u r h x))
      refl (omega arith) (omega arith) (or_false b)

  pub owed_over : (t u v : QueryTree P) (stack : List (QueryTree P)) (es : List Entry) (f m : ℕ) (b : Bool)
      → Owes P limit t (u ∷ stack) es f m b
      → Step u v → limit < weight v → Owes P limit t stack es f m true
  owed_over t u v stack es f m b o st h =
      owes_alike t stack (es ++ []) es (f + 0) f (m + 0) m (b || true) true
      (owed_pop t u stack es [] f m 0 0 b true o (Walks.over u v st h)) (append-nil es) (omega arith) (omega arith) (or_true b)

  -- A walk of two stacks, one on the other, in its two parts.
  pub record Parted (front back : List (QueryTree P)) (es : List Entry) (f m : ℕ) (b : Bool) : Type 0 where
    pub found : List Entry
    pub others : List Entry
    pub forks : ℕ
    pub failed : ℕ
    pub more_forks : ℕ
    pub more_failed : ℕ
    pub cut : Bool
    pub more_cut : Bool
    pub upper : WalksAll P limit front found forks failed cut
    pub lower : WalksAll P limit back others more_forks more_failed more_cut
    pub entries_are : es ≡ found ++ others
    pub forks_are : f ≡ forks + more_forks
    pub failed_are : m ≡ failed + more_failed
    pub cut_is : b ≡ cut || more_cut

  pub parted : (front back : List (QueryTree P)) (es : List Entry) (f m : ℕ) (b : Bool) → WalksAll P limit (front ++ back) es f m b
      → Parted front back es f m b
  parted [] back es f m b w = record {
    found = [];
    others = es;
    forks = 0;
    failed = 0;
    more_forks = f;
    more_failed = m;
    cut = false;
    more_cut = b;
    upper = WalksAll.empty;
    lower = w;
    entries_are = refl;
    forks_are = omega arith;
    failed_are = omega arith;
    cut_is = refl;
  }
  parted (t ∷ ts) back es f m b (WalksAll.one_more t' us ks js f1 m1 f2 m2 b1 b2 w x) =
      let r : Parted ts back js f2 m2 b2 = parted ts back js f2 m2 b2 x in
      record {
        found = ks ++ r.found;
        others = r.others;
        forks = f1 + r.forks;
        failed = m1 + r.failed;
        more_forks = r.more_forks;
        more_failed = r.more_failed;
        cut = b1 || r.cut;
        more_cut = r.more_cut;
        upper = WalksAll.one_more t ts ks r.found f1 m1 r.forks r.failed b1 r.cut w r.upper;
        lower = r.lower;
        entries_are = ap (λ z. ks ++ z) r.entries_are ∙ sym (append_assoc ks r.found r.others);
        forks_are = omega (arith, r.forks_are);
        failed_are = omega (arith, r.failed_are);
        cut_is = ap (λ z. b1 || z) r.cut_is ∙ or_assoc b1 r.cut r.more_cut;
      }

  -- The walks of the splits that fit, one after another, are those of all splits, with the cut of those that do not fit.
  splits_walked : (u : QueryTree P) (cs : List ℕ) (ts : List (QueryTree P)) (d : Bool) → SplitsThatFit P limit u cs ts d
      → (es : List Entry) (f m : ℕ) (b : Bool) → WalksAll P limit ts es f m b → WalksSplits P limit u cs es f m (d || b)
  splits_walked u cs ts d (SplitsThatFit.no_more u') es f m b WalksAll.empty = WalksSplits.no_more u'
  splits_walked u cs ts d (SplitsThatFit.light u' v c ds us d' sp h fit) es f m b (WalksAll.one_more v' us' ks js f1 m1 f2 m2 b1 b2 w x) =
      subst (λ z. WalksSplits P limit u' (c ∷ ds) (ks ++ js) (f1 + f2) (m1 + m2) z) (or_swap b1 d' b2)
      (WalksSplits.walked u' v c ds ks js f1 m1 f2 m2 b1 (d' || b2) sp w (splits_walked u' ds us d' fit js f2 m2 b2 x))
  splits_walked u cs ts d (SplitsThatFit.too_heavy u' v c ds us d' sp h fit) es f m b w =
      WalksSplits.too_heavy u' v c ds es f m (d' || b) sp h (splits_walked u' ds us d' fit es f m b w)

  -- So the top, a Shut tree with open goals, may be replaced by its splits that fit.
  pub owed_fork : (t u : QueryTree P) (cs : List ℕ) (ts stack : List (QueryTree P)) (es : List Entry) (f m : ℕ) (b d : Bool)
      → Owes P limit t (u ∷ stack) es f m b
      → Shut u → Open u → SplitClauses u cs → SplitsThatFit P limit u cs ts d → Owes P limit t (ts ++ stack) es (f + 1) m (b || d)
  owed_fork t u cs ts stack es f m b d o s any v fit js g n c x =
      let r : Parted ts stack js g n c = parted ts stack js g n c x in
      let top : Walks P limit u r.found (1 + r.forks) r.failed (d || r.cut) =
      Walks.forked u cs r.found r.forks r.failed (d || r.cut) s any v
      (splits_walked u cs ts d fit r.found r.forks r.failed r.cut r.upper) in
      alike t (es ++ (r.found ++ r.others)) (es ++ js) (f + ((1 + r.forks) + r.more_forks)) ((f + 1) + g) (m + (r.failed + r.more_failed))
      (m + n)
      (b || ((d || r.cut) || r.more_cut)) ((b || d) || c)
      (o (r.found ++ r.others) ((1 + r.forks) + r.more_forks) (r.failed + r.more_failed) ((d || r.cut) || r.more_cut)
      (WalksAll.one_more u stack r.found r.others (1 + r.forks) r.failed r.more_forks r.more_failed (d || r.cut) r.more_cut top r.lower))
      (ap (λ z. es ++ z) (sym r.entries_are)) (omega (arith, r.forks_are)) (omega (arith, r.failed_are))
      (ap (λ z. b || z) (sym (or_assoc d r.cut r.more_cut)) ∙ or_assoc b d (r.cut || r.more_cut) ∙ ap (λ z. (b || d) || z) (sym r.cut_is))

  -- Where the stack is empty, the tree was walked.
  pub owed_none : (t : QueryTree P) (es : List Entry) (f m : ℕ) (b : Bool) → Owes P limit t [] es f m b → Walks P limit t es f m b
  owed_none t es f m b o =
      alike t (es ++ []) es (f + 0) f (m + 0) m (b || false) b (o [] 0 0 false WalksAll.empty) (append-nil es) (omega arith) (omega arith)
      (or_false b)
