-- What is told of a tree is a walk of it.
use Rattle.std.proofs.Common.{ℕ, ◌≡◌, ◌+◌, ◌<◌, ◌≤◌, ◌↔◌, Bool, true, false, ◌||◌, true≢false, List, [], ◌∷◌, ◌++◌, append_assoc, append-nil}
use Rattle.std.proofs.Common.{cond, refl, ap, sym, ◌∙◌, subst, arith, inl, inr, AllPairs, Contains}
use Rattle.and_model.specs.Programs.{Program}
use Rattle.and_model.specs.Trees.{QueryTree, Open, query_agenda, blank, code, reduce, weight}
use Rattle.and_model.specs.Reached.{Step, Steps, Shut, Dead, Split}
use Rattle.and_model.specs.Listing.{Entry, Listing}
use Rattle.and_laws.proofs.Ordered.{contains_none}
use Rattle.and_laws.proofs.Pairwise.{all_pairs_none}
use Rattle.and_laws.proofs.Splitting.{leftmost}
use Rattle.and_walk_laws.specs.Walks.{Walks, WalksAll, Owes, SplitsBy}
use Rattle.and_walk_laws.proofs.Numbering.{alone_over}
use Rattle.and_walk_laws.proofs.Owing.{owed_root, walks_before}
use Rattle.and_walk_laws.proofs.Forking.{owed_fitting}
use Rattle.and_walk_laws.proofs.Rising.{walked_listing}
use Rattle.and_traces.specs.Traces.{Event, Report, Traces, TracesSplits, TracesQuery, FittingClauses, CutOff, IsKept, IsWalkOf}
use Rattle.and_traces.specs.Traces.{is_fork, is_failed, is_cut, count_of, has_cut, entry_of, entries_of}

-- Entries, numbers and cuts of two lists of reports, one behind the other.
pub entries_both : (rs qs : List Report) → entries_of (rs ++ qs) ≡ entries_of rs ++ entries_of qs
entries_both [] qs = refl
entries_both (r ∷ rs) qs =
    ap (λ (es : List Entry). entry_of r.event ++ es) (entries_both rs qs) ∙ sym (append_assoc (entry_of r.event) (entries_of rs) (entries_of qs))

pub counted_both : (is : Event → Bool) (rs qs : List Report) → count_of is (rs ++ qs) ≡ count_of is rs + count_of is qs
counted_both is [] qs = omega arith
counted_both is (r ∷ rs) qs = let e = counted_both is rs qs in omega (arith, e)

or_assoc : (a b c : Bool) → a || (b || c) ≡ (a || b) || c
or_assoc false b c = refl
or_assoc true b c = refl

-- where neither is so, each is not
or_false : (a b : Bool) → a || b ≡ false → (a ≡ false) × (b ≡ false)
or_false false b e = (refl, e)
or_false true b e = absurd (true≢false e)

pub cut_both : (rs qs : List Report) → has_cut (rs ++ qs) ≡ has_cut rs || has_cut qs
cut_both [] qs = refl
cut_both (r ∷ rs) qs = ap (λ b. is_cut r.event || b) (cut_both rs qs) ∙ or_assoc (is_cut r.event) (has_cut rs) (has_cut qs)

module _ (P : Program) (limit : ℕ) where
  -- a walk with the same entries, numbers and cut
  alike : (t : QueryTree P) (es ks : List Entry) (f g m n : ℕ) (b d : Bool) → Walks P limit t es f m b → es ≡ ks → f ≡ g → m ≡ n → b ≡ d
      → Walks P limit t ks g n d
  alike t es ks f g m n b d w p q r s =
      subst (λ z. Walks P limit t z g n d) p (subst (λ z. Walks P limit t es z n d) q
      (subst (λ z. Walks P limit t es f z d) r (subst (λ z. Walks P limit t es f m z) s w)))

  -- walks of the splits by these clauses, one after another
  record AreWalksOf (t : QueryTree P) (cs : List ℕ) (reports : List Report) : Type 0 where
    pub trees : List (QueryTree P)
    pub made : SplitsBy t cs trees
    pub forks : ℕ
    pub walks : WalksAll P limit trees (entries_of reports) forks (count_of is_failed reports) (has_cut reports)
    pub counted : has_cut reports ≡ false → forks ≡ count_of is_fork reports

  -- A Shut tree with open goals is walked with its splits that fit; it is cut where some split does not fit.
  fork_walked : (u : QueryTree P) (cs : List ℕ) (reports : List Report) (d : Bool) → Shut u → Open u → FittingClauses P limit u cs
      → ((d ≡ true) ↔ ((c : ℕ) × (next : QueryTree P) × Split u c next × (limit < weight next)))
      → (x : AreWalksOf u cs reports) → Walks P limit u (entries_of reports) (1 + x.forks) (count_of is_failed reports) (d || has_cut reports)
  fork_walked u cs reports d shut o fit cut x =
      let owes : Owes P limit u (x.trees ++ []) [] (0 + 1) 0 (false || d) =
      owed_fitting P limit u u cs x.trees [] [] 0 0 false d (owed_root P limit u) shut o fit.0 fit.1 x.made cut in
      let all : WalksAll P limit (x.trees ++ []) (entries_of reports) x.forks (count_of is_failed reports) (has_cut reports) =
      subst (λ ts. WalksAll P limit ts (entries_of reports) x.forks (count_of is_failed reports) (has_cut reports)) (sym (append-nil x.trees))
      x.walks in
      alike u (entries_of reports) (entries_of reports) ((0 + 1) + x.forks) (1 + x.forks) (0 + count_of is_failed reports)
      (count_of is_failed reports) (d || has_cut reports) (d || has_cut reports)
      (owes (entries_of reports) x.forks (count_of is_failed reports) (has_cut reports) all) refl (omega arith) (omega arith) refl

  -- A Shut tree with open goals has a split.
  some_split : (u : QueryTree P) → Shut u → Open u → (c : ℕ) × (next : QueryTree P) × Split u c next
  some_split u shut any =
      let (es, gs, x, so, two) = shut in
      let (o, m) = leftmost u any in
      let (c, d, differ, k, other) = two o in
      (c, reduce u o c k.0, (shut, es, gs, x, o, m, k.0, k, refl))

  -- Where the limit keeps all from going on, a walk is cut and finds nothing.
  kept_walked : (t : QueryTree P) → IsKept P limit t → (forks : ℕ) × Walks P limit t [] forks 0 true
  kept_walked t (inl (next, step, heavy)) = (0, Walks.over t next step heavy)
  kept_walked t (inr (shut, o, heavy)) =
      let (c, next, split) = some_split t shut o in
      let owes : Owes P limit t [] [] (0 + 1) 0 (false || true) =
      owed_fitting P limit t t [] [] [] [] 0 0 false true (owed_root P limit t) shut o (all_pairs_none (λ (c d : ℕ). c < d))
      (λ d. (λ i. absurd (contains_none d i), λ s. let h = heavy d s.0 s.1 in let l = s.2 in absurd (omega (arith, h, l))))
      (SplitsBy.no_more t) ((λ e. (c, next, split, heavy c next split)), (λ s. refl)) in
      (1 + 0, owes [] 0 0 false WalksAll.empty)

  mutual
    pub walk_of : (t : QueryTree P) (depth : ℕ) (rs : List Report) → Traces P limit t depth rs → IsWalkOf P limit t rs
    walk_of t depth rs (Traces.over t' end e x comes kept) =
        let (forks, w) = kept_walked end kept in
        record {
          forks = forks;
          walks = walks_before P limit t' end [] forks 0 true comes.0 w;
          counted = λ e. absurd (true≢false e);
        }
    walk_of t depth rs (Traces.dead t' end e comes x) = record {
      forks = 0;
      walks = walks_before P limit t' end [] 0 1 false comes.0 (Walks.dead end x);
      counted = λ e. refl;
    }
    walk_of t depth rs (Traces.whole t' end e o comes x) = record {
      forks = 0;
      walks = walks_before P limit t' end (record { code = code end; outcome = o } ∷ []) 0 0 false comes.0 (Walks.ended end o comes.1 x);
      counted = λ e. refl;
    }
    walk_of t depth rs (Traces.divided t' end e cs cuts ks comes shut o fit (CutOff.all_fit each) splits) =
        let x : AreWalksOf end cs ks = walks_of end cs (e + 1) ks splits in
        let w : Walks P limit end (entries_of ks) (1 + x.forks) (count_of is_failed ks) (false || has_cut ks) =
        fork_walked end cs ks false shut o fit
        ((λ e. absurd (true≢false (sym e))), (λ s. let h = s.3 in let l = each s.0 s.1 s.2 in absurd (omega (arith, h, l)))) x in
        record {
          forks = 1 + x.forks;
          walks = alike t' (entries_of ks) (entries_of ks) (1 + x.forks) (1 + x.forks) (count_of is_failed ks) (0 + count_of is_failed ks)
              (has_cut ks) (has_cut ks) (walks_before P limit t' end (entries_of ks) (1 + x.forks) (count_of is_failed ks) (has_cut ks) comes.0 w)
              refl refl (omega arith) refl;
          counted = λ e. let same = x.counted e in omega (arith, same);
        }
    walk_of t depth rs (Traces.divided t' end e cs cuts ks comes shut o fit (CutOff.some_heavy c next y split heavy) splits) =
        let x : AreWalksOf end cs ks = walks_of end cs (e + 1) ks splits in
        let w : Walks P limit end (entries_of ks) (1 + x.forks) (count_of is_failed ks) (true || has_cut ks) =
        fork_walked end cs ks true shut o fit ((λ e. (c, next, split, heavy)), (λ s. refl)) x in
        record {
          forks = 1 + x.forks;
          walks = alike t' (entries_of ks) (entries_of ks) (1 + x.forks) (1 + x.forks) (count_of is_failed ks)
              (0 + (0 + count_of is_failed ks)) true true
              (walks_before P limit t' end (entries_of ks) (1 + x.forks) (count_of is_failed ks) true comes.0 w)
              refl refl (omega arith) refl;
          counted = λ e. absurd (true≢false e);
        }

    walks_of : (t : QueryTree P) (cs : List ℕ) (depth : ℕ) (rs : List Report) → TracesSplits P limit t cs depth rs → AreWalksOf t cs rs
    walks_of t cs depth rs (TracesSplits.no_more t' e) = record {
      trees = [];
      made = SplitsBy.no_more t';
      forks = 0;
      walks = WalksAll.empty;
      counted = λ e. refl;
    }
    walks_of t cs depth rs (TracesSplits.more t' next c ds e ks js split first rest) =
        let w : IsWalkOf P limit next ks = walk_of next e ks first in
        let x : AreWalksOf t' ds js = walks_of t' ds e js rest in
        let all : WalksAll P limit (next ∷ x.trees) (entries_of ks ++ entries_of js) (w.forks + x.forks)
        (count_of is_failed ks + count_of is_failed js) (has_cut ks || has_cut js) =
        WalksAll.one_more next x.trees (entries_of ks) (entries_of js) w.forks (count_of is_failed ks) x.forks (count_of is_failed js)
        (has_cut ks) (has_cut js) w.walks x.walks in
        record {
          trees = next ∷ x.trees;
          made = SplitsBy.one_more t' next c ds x.trees split x.made;
          forks = w.forks + x.forks;
          walks = subst (λ es. WalksAll P limit (next ∷ x.trees) es (w.forks + x.forks) (count_of is_failed (ks ++ js)) (has_cut (ks ++ js)))
              (sym (entries_both ks js))
              (subst (λ n. WalksAll P limit (next ∷ x.trees) (entries_of ks ++ entries_of js) (w.forks + x.forks) n (has_cut (ks ++ js)))
              (sym (counted_both is_failed ks js))
              (subst (λ b. WalksAll P limit (next ∷ x.trees) (entries_of ks ++ entries_of js) (w.forks + x.forks)
              (count_of is_failed ks + count_of is_failed js) b)
              (sym (cut_both ks js)) all));
          counted = λ e.
              let both = or_false (has_cut ks) (has_cut js) (sym (cut_both ks js) ∙ e) in
              let one = w.counted both.0 in
              let other = x.counted both.1 in
              let sum = counted_both is_fork ks js in
              omega (arith, one, other, sum);
        }

  -- What is told of the query is its listing.
  pub query_listed : (rs : List Report) → TracesQuery P limit rs → Listing P limit (entries_of rs)
  query_listed rs (TracesQuery.alone x heavy) = (alone_over P limit heavy).0
  query_listed rs (TracesQuery.walked ks trace) =
      let w : IsWalkOf P limit (blank (query_agenda P)) ks = walk_of (blank (query_agenda P)) 0 ks trace in
      walked_listing P limit (entries_of ks) w.forks (count_of is_failed ks) (has_cut ks) w.walks
