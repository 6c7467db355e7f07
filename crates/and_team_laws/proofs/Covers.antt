-- A fork that did something leaves no code out.
use Rattle.std.proofs.Common.{ℕ, ◌≡◌, ◌<◌, Bool, true, false, cond, ◌&&◌, List, [], ◌∷◌, ◌++◌, refl, sym, ap, ◌∙◌, subst, inl, inr}
use Rattle.std.proofs.Common.{arith, All, AllPairs, Contains}
use Rattle.std.proofs.lemmas.Bool.Decides.{Decides-eqb}
use Rattle.std.proofs.lemmas.List.Sums.{sum_by-cons}
use Rattle.std.proofs.lemmas.List.Elements.{All-cons, All-contains}
use Rattle.and_model.specs.Prefixes.{IsPrefix}
use Rattle.and_model.specs.Programs.{Program}
use Rattle.and_model.specs.Trees.{QueryTree, query_agenda, Below, decided}
use Rattle.and_model.specs.Reached.{ReachedBy}
use Rattle.and_model.specs.Listing.{Entry}
use Rattle.and_laws.proofs.Covering.{reached_covers}
use Rattle.and_laws.proofs.Order.{below_weight}
use Rattle.and_laws.proofs.Ordered.{contains_none, contains_cases}
use Rattle.and_laws.proofs.Pairwise.{all_none, all_first, all_rest, all_pairs_first, all_pairs_rest}
use Rattle.and_laws.proofs.PrefixLemmas.{same_after}
use Rattle.and_laws.proofs.Splitting.{split_divides, split_code}
use Rattle.and_histories.specs.PlainTree.{Key, Event, fork, publish, claim, clear, end, look, left, children}
use Rattle.and_histories.specs.Histories.{HistoryEntry}
use Rattle.and_histories.specs.Covering.{HasOutcomeWithin, begins, keys_begun, IsCovering, AreCovering}
use Rattle.and_histories.proofs.CoveringForks.{begins_prefix}
use Rattle.and_team_laws.specs.Done.{IsPassing, IsForkedBy, Did, DidAll}

-- The test finds all prefixes.
prefix_begins : (code key : List ℕ) → IsPrefix key code → begins code key ≡ true
prefix_begins code [] p = refl
prefix_begins [] (k ∷ key) p = let e = p.1 in absurd (cc)
prefix_begins (c ∷ code) (k ∷ key) p =
    let e = p.1 in
    let same : c ≡ k = cc in
    let rest : code ≡ key ++ p.0 = cc in
    ap (λ b. b && begins code key) ((Decides-eqb c k).1 same) ∙ prefix_begins code key (p.0, rest)

-- The code begins with these clauses and then one.
module _ (code longer : List ℕ) (c : ℕ) (is : IsPrefix (longer ++ c ∷ []) code) where
  -- 1 where it begins with these and then that one
  abbrev at_child : ℕ → ℕ
  at_child d = cond (begins code (longer ++ d ∷ [])) 1 0

  own_child : at_child c ≡ 1
  own_child = ap (λ b. cond b 1 0) (prefix_begins code (longer ++ c ∷ []) is)

  other_child : (d : ℕ) → (c ≡ d → ⊥) → at_child d ≡ 0
  other_child d apart = by_test (begins code (longer ++ d ∷ [])) refl
    where
      by_test : (b : Bool) → begins code (longer ++ d ∷ []) ≡ b → cond {A = ℕ} b 1 0 ≡ 0
      by_test true so =
          let p = begins_prefix code (longer ++ d ∷ []) so in
          absurd (apart (same_after longer is.0 p.0 c d (sym is.1 ∙ p.1)))
      by_test false so = refl

  -- (each of the clauses is another)
  no_child : (cs : List ℕ) → All (λ d. c < d) cs → keys_begun code (children longer cs) ≡ 0
  no_child [] apart = refl
  no_child (d ∷ cs) apart =
      let first : c < d = all_first (λ d. c < d) d cs apart in
      let here : at_child d ≡ 0 = other_child d (λ e. absurd (omega (arith, first, e))) in
      let rest : keys_begun code (children longer cs) ≡ 0 = no_child cs (all_rest (λ d. c < d) d cs apart) in
      let whole = sum_by-cons (λ (key : Key). cond (begins code key) 1 0) (longer ++ d ∷ []) (children longer cs) in
      omega arith

  one_child : (cs : List ℕ) → AllPairs (λ (c d : ℕ). c < d) cs → Contains cs c → keys_begun code (children longer cs) ≡ 1
  one_child [] rising has = absurd (contains_none c has)
  one_child (d ∷ cs) rising has =
      let whole = sum_by-cons (λ (key : Key). cond (begins code key) 1 0) (longer ++ d ∷ []) (children longer cs) in
      let first : All (λ e. d < e) cs = all_pairs_first (λ (c d : ℕ). c < d) d cs rising in
      elim (contains_cases d c cs has) [
        | inl e ↦
            (let here : at_child d ≡ 1 = ap at_child (sym e) ∙ own_child in
            let rest = no_child cs (subst (λ n. All (λ e. n < e) cs) (sym e) first) in
            omega arith)
        | inr i ↦
            (let below : d < c = All-contains (λ e. d < e) cs c first i in
            let here : at_child d ≡ 0 = other_child d (λ e. absurd (omega (arith, below, e))) in
            let rest = one_child cs (all_pairs_rest (λ (c d : ℕ). c < d) d cs rising) i in
            omega arith)
      ]

module _ (P : Program) (limit : ℕ) where
  fork_covers : (key : Key) (clauses : List ℕ) (t : QueryTree P) (is_cut : Bool) → ReachedBy P limit key t → IsForkedBy P limit t clauses is_cut
      → (code : List ℕ) → HasOutcomeWithin P limit code → IsPrefix key code → keys_begun code (children (decided t) clauses) ≡ 1
  fork_covers key clauses t is_cut reached is code within begun =
      let (u, out, light, same) = within in
      let above : Below P (query_agenda P) t u = reached_covers P limit key t reached u out (subst (λ z. IsPrefix key z) (sym same) begun) in
      let (c, next, split, under) = split_divides t u above out is.shut is.open_goal in
      let has : Contains clauses c = (is.fitting c).1 (next, split, omega (arith, light, below_weight under)) in
      one_child code (decided t) c (subst (λ z. IsPrefix (decided t ++ c ∷ []) z) same (split_code t u next c split under)) clauses is.rising has

  passing_covers : (event : Event) → IsPassing event → IsCovering P limit event
  passing_covers (fork team key longer clauses) is = absurd is
  passing_covers (publish team cell key) is = tt
  passing_covers (claim team cell serial) is = tt
  passing_covers (clear team cell) is = tt
  passing_covers (end team key how) is = absurd is
  passing_covers (look team cell) is = tt
  passing_covers (left team) is = tt

  event_covers : (event : Event) (es : List Entry) (f m : ℕ) (b : Bool) → Did P limit event es f m b → IsCovering P limit event
  event_covers event es f m b (Did.forked team key clauses t is_cut reached is) = fork_covers key clauses t is_cut reached is
  event_covers event es f m b (Did.told team key t entry reached walks) = tt
  event_covers event es f m b (Did.ended team key t forks failed is_cut reached walks none) = tt
  event_covers event es f m b (Did.passed event' is) = passing_covers event' is

  pub history_covers : (history : List HistoryEntry) (es : List Entry) (f m : ℕ) (b : Bool) → DidAll P limit history es f m b
      → AreCovering P limit history
  history_covers history es f m b DidAll.none = all_none (λ (e : HistoryEntry). IsCovering P limit e.event)
  history_covers history es f m b (DidAll.more e rest ks others f1 m1 f2 m2 b1 b2 did x) =
      All-cons (λ (e : HistoryEntry). IsCovering P limit e.event) e rest (event_covers e.event ks f1 m1 b1 did)
      (history_covers rest others f2 m2 b2 x)
