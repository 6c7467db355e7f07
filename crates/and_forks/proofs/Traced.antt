-- What is told of a tree, where nothing is cut off, is its text.
use Rattle.std.proofs.Common.{ℕ, ◌+◌, ◌≡◌, ◌≤◌, Bool, true, false, ◌||◌, true≢false, List, [], ◌∷◌, ◌++◌, append-nil, refl, sym, ap, ◌∙◌, subst, Contains}
use Rattle.std.specs.Prelude.{Option, Some, None, is_some}
use Rattle.and_model.specs.Programs.{Program}
use Rattle.and_model.specs.Trees.{QueryTree, blank, query_agenda}
use Rattle.and_model.specs.Reached.{Shut}
use Rattle.and_model.specs.Listing.{Outcome, Ends}
use Rattle.and_model.specs.declared.goal.Cut.{Cut}
use Rattle.std.proofs.lemmas.List.Elements.{Contains-append_right}
use Rattle.and_laws.proofs.Order.{whole_has_none}
use Rattle.and_laws.proofs.Ordered.{contains_first, contains_more}
use Rattle.and_traces.specs.Traces
use Rattle.and_traces.specs.Traces.{Report, CutOff, TracesSplits, TracesQuery, MeetsLimit, has_cut, is_cut, cut_report}
use Rattle.and_traces.proofs.Walked.{cut_both}
use Rattle.and_visit.specs.Searched.{IsSearched}
use Rattle.and_fork_texts.specs.Texts.{Line, TreeText, TextOfSplits}
use Rattle.and_forks.specs.Told.{node_of, lines_of, AreLinesOf}
use Rattle.and_forks.specs.Written.{AreWritten}
use Rattle.and_forks.specs.declared.lines.Lines.{Lines}

-- a tree that ends is Shut
ends_shut : {P : Program} (t : QueryTree P) (o : Outcome) → Ends t o → Shut t
ends_shut t o a = (a.1, a.2, a.3, (a.4, a.5.0), λ p. absurd (whole_has_none t a.0 p))

-- where neither is so, each is not
or_false : (a b : Bool) → a || b ≡ false → (a ≡ false) × (b ≡ false)
or_false false b e = (refl, e)
or_false true b e = absurd (true≢false e)

pub lines_both : (rs qs : List Report) → lines_of (rs ++ qs) ≡ lines_of rs ++ lines_of qs
lines_both [] qs = refl
lines_both (r ∷ rs) qs = ap (λ (ls : List Line). record { depth = r.depth; node = node_of r.event } ∷ ls) (lines_both rs qs)

module _ (P : Program) (limit : ℕ) where
  mutual
    pub text_of : (t : QueryTree P) (d : ℕ) (rs : List Report) → Traces.Traces P limit t d rs → has_cut rs ≡ false
        → TreeText P limit t d (lines_of rs)
    text_of t d rs (Traces.over t' end e x comes kept) uncut = absurd (true≢false uncut)
    text_of t d rs (Traces.dead t' end e comes x) uncut = TreeText.dead t' end e comes.0 comes.1 x
    text_of t d rs (Traces.whole t' end e o comes x) uncut = TreeText.whole t' end e o comes.0 comes.1 (ends_shut end o x) x
    text_of t d rs (Traces.divided t' end e cs cuts ks comes shut o fit (CutOff.all_fit each) splits) uncut =
        TreeText.forked t' end e cs (lines_of ks) comes.0 comes.1 shut o (
          fit.0,
          λ c. (λ i. let s = (fit.1 c).0 i in (s.0, s.1), λ s. (fit.1 c).1 (s.0, s.1, each c s.0 s.1)),
        )
        (text_of_splits end cs (e + 1) ks splits uncut)
    text_of t d rs (Traces.divided t' end e cs cuts ks comes shut o fit (CutOff.some_heavy c next x split heavy) splits) uncut =
        absurd (true≢false uncut)

    text_of_splits : (t : QueryTree P) (cs : List ℕ) (d : ℕ) (rs : List Report) → TracesSplits P limit t cs d rs → has_cut rs ≡ false
        → TextOfSplits P limit t cs d (lines_of rs)
    text_of_splits t cs d rs (TracesSplits.no_more t' e) uncut = TextOfSplits.no_more t' e
    text_of_splits t cs d rs (TracesSplits.more t' next c ds e ks js split first rest) uncut =
        let both = or_false (has_cut ks) (has_cut js) (sym (cut_both ks js) ∙ uncut) in
        subst (λ ls. TextOfSplits P limit t' (c ∷ ds) e ls) (sym (lines_both ks js))
        (TextOfSplits.more t' next c ds e (lines_of ks) (lines_of js) split (text_of next e ks first both.0)
        (text_of_splits t' ds e js rest both.1))

  query_text : (rs : List Report) → TracesQuery P limit rs → has_cut rs ≡ false → TreeText P limit (blank (query_agenda P)) 0 (lines_of rs)
  query_text rs (TracesQuery.alone x heavy) uncut = absurd (true≢false uncut)
  query_text rs (TracesQuery.walked ks trace) uncut = text_of (blank (query_agenda P)) 0 ks trace uncut

  -- So the lines are those of the query's tree, where no cut was told;
  pub told_whole : (lines : Lines) (enough : Bool) → IsSearched P limit (λ seen. AreLinesOf None lines seen) enough → enough ≡ false
      → (ls : List Line) × TreeText P limit (blank (query_agenda P)) 0 ls × AreWritten ls lines
  told_whole lines enough x uncut =
      let all : x.seen ++ x.rest ≡ x.seen = ap (λ rs. x.seen ++ rs) (x.whole uncut) ∙ append-nil x.seen in
      (lines_of x.seen, query_text x.seen (subst (λ rs. TracesQuery P limit rs) all x.traces) x.has.0, x.has.1)

  -- and where one was told, the limit was met.
  pub told_cut : (lines : Lines) (cut : Cut) (enough : Bool) → IsSearched P limit (λ seen. AreLinesOf (Some cut) lines seen) enough
      → MeetsLimit P limit cut
  told_cut lines cut enough x = x.cuts x.has.0 cut x.has.1

-- ---- What the writer is told

-- Where it was told of no cut its lines are written,
pub written_of : (met : Option Cut) (lines : Lines) (seen : List Report) → is_some met ≡ false → AreLinesOf met lines seen
    → AreWritten (lines_of seen) lines
written_of None lines seen uncut has = has.1
written_of (Some x) lines seen uncut has = absurd (true≢false uncut)

-- and so they are where it is told of none again;
pub more_told : (met : Option Cut) (old new : Lines) (seen : List Report) (r : Report) → is_some met ≡ false → is_cut r.event ≡ false
    → AreLinesOf met old seen → AreWritten (lines_of seen ++ record { depth = r.depth; node = node_of r.event } ∷ []) new
    → AreLinesOf met new (seen ++ r ∷ [])
more_told None old new seen r uncut plain has written = (
  cut_both seen (r ∷ []) ∙ both_no (has_cut seen) (is_cut r.event) has.0 plain,
  subst (λ ls. AreWritten ls new) (sym (lines_both seen (r ∷ []))) written,
)
  where
    both_no : (a b : Bool) → a ≡ false → b ≡ false → a || (b || false) ≡ false
    both_no false false e f = refl
    both_no false true e f = absurd (true≢false f)
    both_no true b e f = absurd (true≢false e)
more_told (Some x) old new seen r uncut plain has written = absurd (true≢false uncut)

-- else it was told of this one.
pub cut_told : (lines : Lines) (seen : List Report) (d : ℕ) (x : Cut) → AreLinesOf (Some x) lines (seen ++ record { depth = d; event = Traces.cut x } ∷ [])
cut_told lines seen d x = (
  d,
  Contains-append_right seen (record { depth = d; event = Traces.cut x } ∷ []) (record { depth = d; event = Traces.cut x })
      (contains_first (record { depth = d; event = Traces.cut x }) []),
)

pub fork_cut_told : (lines : Lines) (seen : List Report) (r : Report) (d : ℕ) (heavy : Option Cut) (x : Cut) → heavy ≡ Some x
    → AreLinesOf (Some x) lines (seen ++ r ∷ cut_report d heavy)
fork_cut_told lines seen r d heavy x is =
    subst (λ h. AreLinesOf (Some x) lines (seen ++ r ∷ cut_report d h)) (sym is) (
      d,
      Contains-append_right seen (r ∷ record { depth = d; event = Traces.cut x } ∷ []) (record { depth = d; event = Traces.cut x })
          (contains_more r (record { depth = d; event = Traces.cut x }) (record { depth = d; event = Traces.cut x } ∷ [])
          (contains_first (record { depth = d; event = Traces.cut x }) [])),
    )
