-- What is owed in any order, and how it goes on.
use Rattle.std.proofs.Common.{ℕ, ◌≡◌, ◌+◌, Bool, false, ◌||◌, List, [], ◌∷◌, ◌++◌, append-nil, refl, ap, sym, ◌∙◌, subst, arith}
use Rattle.std.specs.Prelude.{sum_by}
use Rattle.std.proofs.lemmas.List.Sums.{sum_by-append}
use Rattle.and_model.specs.Programs.{Program}
use Rattle.and_model.specs.Trees.{QueryTree}
use Rattle.and_model.specs.Reached.{Steps}
use Rattle.and_model.specs.Listing.{Entry}
use Rattle.and_walk_laws.specs.Walks.{Walks, WalksAll, Owes, SplitsBy}
use Rattle.and_walk_laws.proofs.Owing.{owed_root, walks_before, owed_steps, Parted, parted}
use Rattle.and_walk_laws.proofs.Forking.{owed_fitting}
use Rattle.and_team_laws.specs.Owed.{SameItems, OwesAnyhow}
use Rattle.and_team_laws.specs.Done.{IsForkedBy}
use Rattle.and_team_laws.proofs.Bools.{or_assoc, or_false, or_swap}

module _ (P : Program) (limit : ℕ) where
  -- a walk with the same numbers and cut
  alike : (t : QueryTree P) (es : List Entry) (f g m n : ℕ) (b d : Bool) → Walks P limit t es f m b → f ≡ g → m ≡ n → b ≡ d
      → Walks P limit t es g n d
  alike t es f g m n b d w q r s =
      subst (λ z. Walks P limit t es z n d) q (subst (λ z. Walks P limit t es f z d) r (subst (λ z. Walks P limit t es f m z) s w))

  all_alike : (ts : List (QueryTree P)) (es : List Entry) (f g m n : ℕ) (b d : Bool) → WalksAll P limit ts es f m b → f ≡ g → m ≡ n → b ≡ d
      → WalksAll P limit ts es g n d
  all_alike ts es f g m n b d w q r s =
      subst (λ z. WalksAll P limit ts es z n d) q (subst (λ z. WalksAll P limit ts es f z d) r (subst (λ z. WalksAll P limit ts es f m z) s w))

  -- a walk of these trees that finds these entries in some order
  record Found (trees : List (QueryTree P)) (entries : List Entry) (forks failed : ℕ) (is_cut : Bool) : Type 0 where
    pub all : List Entry
    pub walks : WalksAll P limit trees all forks failed is_cut
    pub same : SameItems all entries

  -- one more tree, with its walk, anywhere among the others
  one_among : (r : QueryTree P) (ks : List Entry) (g n : ℕ) (d : Bool) → Walks P limit r ks g n d
      → (before behind : List (QueryTree P)) (js : List Entry) (h l : ℕ) (c : Bool) → WalksAll P limit (before ++ behind) js h l c
      → Found (before ++ r ∷ behind) (ks ++ js) (g + h) (n + l) (d || c)
  one_among r ks g n d w [] behind js h l c x = record {
    all = ks ++ js;
    walks = WalksAll.one_more r behind ks js g n h l d c w x;
    same = λ q. refl;
  }
  one_among r ks g n d w (t ∷ ts) behind js h l c (WalksAll.one_more t' us es rest f1 m1 f2 m2 b1 b2 v x) =
      let i : Found (ts ++ r ∷ behind) (ks ++ rest) (g + f2) (n + m2) (d || b2) = one_among r ks g n d w ts behind rest f2 m2 b2 x in
      record {
        all = es ++ i.all;
        walks = all_alike (t ∷ ts ++ r ∷ behind) (es ++ i.all) (f1 + (g + f2)) (g + (f1 + f2)) (m1 + (n + m2)) (n + (m1 + m2))
            (b1 || (d || b2)) (d || (b1 || b2))
            (WalksAll.one_more t (ts ++ r ∷ behind) es i.all f1 m1 (g + f2) (n + m2) b1 (d || b2) v i.walks)
            (omega arith) (omega arith) (or_swap b1 d b2);
        same = λ q.
            let one = sum_by-append q es i.all in
            let two = sum_by-append q ks rest in
            let three = sum_by-append q ks (es ++ rest) in
            let four = sum_by-append q es rest in
            let five = i.same q in
            omega arith;
      }

  -- what the walks of the splits make of the walk of a tree
  abbrev Collects : QueryTree P → List (QueryTree P) → Bool → Type 0
  Collects r splits d =
      (js : List Entry) (h l : ℕ) (c : Bool) → WalksAll P limit splits js h l c → Walks P limit r js (h + 1) l (d || c)

  -- the tree that was forked in the place of its splits
  fork_among : (r : QueryTree P) (splits : List (QueryTree P)) (d : Bool) → Collects r splits d
      → (before behind : List (QueryTree P)) (js : List Entry) (h l : ℕ) (c : Bool) → WalksAll P limit (before ++ splits ++ behind) js h l c
      → Found (before ++ r ∷ behind) js (h + 1) l (d || c)
  fork_among r splits d collects [] behind js h l c x =
      let p : Parted P limit splits behind js h l c = parted P limit splits behind js h l c x in
      record {
        all = p.found ++ p.others;
        walks = all_alike (r ∷ behind) (p.found ++ p.others) ((p.forks + 1) + p.more_forks) (h + 1) (p.failed + p.more_failed) l
            ((d || p.cut) || p.more_cut) (d || c)
            (WalksAll.one_more r behind p.found p.others (p.forks + 1) p.failed p.more_forks p.more_failed (d || p.cut) p.more_cut
            (collects p.found p.forks p.failed p.cut p.upper) p.lower)
            (omega (arith, p.forks_are)) (sym p.failed_are) (sym (or_assoc d p.cut p.more_cut) ∙ ap (λ z. d || z) (sym p.cut_is));
        same = λ q. ap (λ z. sum_by q z) (sym p.entries_are);
      }
  fork_among r splits d collects (t ∷ ts) behind js h l c (WalksAll.one_more t' us es rest f1 m1 f2 m2 b1 b2 v x) =
      let i : Found (ts ++ r ∷ behind) rest (f2 + 1) m2 (d || b2) = fork_among r splits d collects ts behind rest f2 m2 b2 x in
      record {
        all = es ++ i.all;
        walks = all_alike (t ∷ ts ++ r ∷ behind) (es ++ i.all) (f1 + (f2 + 1)) ((f1 + f2) + 1) (m1 + m2) (m1 + m2)
            (b1 || (d || b2)) (d || (b1 || b2))
            (WalksAll.one_more t (ts ++ r ∷ behind) es i.all f1 m1 (f2 + 1) m2 b1 (d || b2) v i.walks)
            (omega arith) refl (or_swap b1 d b2);
        same = λ q.
            let one = sum_by-append q es i.all in
            let two = sum_by-append q es rest in
            let three = i.same q in
            omega arith;
      }

  collected : (r u : QueryTree P) (cs : List ℕ) (splits : List (QueryTree P)) (d : Bool) → Steps r u → IsForkedBy P limit u cs d
      → SplitsBy u cs splits → Collects r splits d
  collected r u cs splits d ss fork made js h l c x =
      let start : Owes P limit r (u ∷ []) [] 0 0 false = owed_steps P limit r r u [] [] 0 0 false (owed_root P limit r) ss in
      let o : Owes P limit r (splits ++ []) [] (0 + 1) 0 d =
      owed_fitting P limit r u cs splits [] [] 0 0 false d start fork.shut fork.open_goal fork.rising fork.fitting made fork.heavy in
      let w : WalksAll P limit (splits ++ []) js h l c = subst (λ z. WalksAll P limit z js h l c) (sym (append-nil splits)) x in
      alike r js ((0 + 1) + h) (h + 1) (0 + l) l (d || c) (d || c) (o js h l c w) (omega arith) (omega arith) refl

  -- ---- the laws

  pub any_root : (t : QueryTree P) → OwesAnyhow P limit t (t ∷ []) [] 0 0 false
  any_root t js f m c w = (js, owed_root P limit t js f m c w, λ q. refl)

  pub any_walked : (t r u : QueryTree P) (before behind : List (QueryTree P)) (es ks : List Entry) (f m g n : ℕ) (b d : Bool)
      → OwesAnyhow P limit t (before ++ r ∷ behind) es f m b → Steps r u → Walks P limit u ks g n d
      → OwesAnyhow P limit t (before ++ behind) (es ++ ks) (f + g) (m + n) (b || d)
  any_walked t r u before behind es ks f m g n b d o ss w js h l c x =
      let i : Found (before ++ r ∷ behind) (ks ++ js) (g + h) (n + l) (d || c) =
      one_among r ks g n d (walks_before P limit r u ks g n d ss w) before behind js h l c x in
      let (all, walks, same) = o i.all (g + h) (n + l) (d || c) i.walks in (
        all,
        alike t all (f + (g + h)) ((f + g) + h) (m + (n + l)) ((m + n) + l) (b || (d || c)) ((b || d) || c) walks (omega arith) (omega arith)
            (or_assoc b d c),
        λ q.
            let one = same q in
            let two = sum_by-append q es i.all in
            let three = i.same q in
            let four = sum_by-append q ks js in
            let five = sum_by-append q (es ++ ks) js in
            let six = sum_by-append q es ks in
            omega arith,
      )

  pub any_forked : (t r u : QueryTree P) (before behind splits : List (QueryTree P)) (es : List Entry) (f m : ℕ) (b d : Bool) (cs : List ℕ)
      → OwesAnyhow P limit t (before ++ r ∷ behind) es f m b → Steps r u → IsForkedBy P limit u cs d → SplitsBy u cs splits
      → OwesAnyhow P limit t (before ++ splits ++ behind) es (f + 1) m (b || d)
  any_forked t r u before behind splits es f m b d cs o ss fork made js h l c x =
      let i : Found (before ++ r ∷ behind) js (h + 1) l (d || c) =
      fork_among r splits d (collected r u cs splits d ss fork made) before behind js h l c x in
      let (all, walks, same) = o i.all (h + 1) l (d || c) i.walks in (
        all,
        alike t all (f + (h + 1)) ((f + 1) + h) (m + l) (m + l) (b || (d || c)) ((b || d) || c) walks (omega arith) refl (or_assoc b d c),
        λ q.
            let one = same q in
            let two = sum_by-append q es i.all in
            let three = i.same q in
            let four = sum_by-append q es js in
            omega arith,
      )

  pub any_none : (t : QueryTree P) (es : List Entry) (f m : ℕ) (b : Bool) → OwesAnyhow P limit t [] es f m b
      → (all : List Entry) × Walks P limit t all f m b × SameItems all es
  any_none t es f m b o =
      let (all, walks, same) = o [] 0 0 false WalksAll.empty in (
        all,
        alike t all (f + 0) f (m + 0) m (b || false) b walks (omega arith) (omega arith) (or_false b),
        λ q. same q ∙ ap (λ z. sum_by q z) (append-nil es),
      )
