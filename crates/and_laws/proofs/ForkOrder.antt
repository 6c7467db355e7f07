-- Forks rise by key: what is forked behind a split has keys that begin with what was decided there and the split's clause, and splits go by rising clauses.
use Rattle.std.proofs.Common.{ℕ, ◌<◌, List, [], ◌∷◌, ◌++◌, ap, sym, subst, ◌∙◌, inl, inr, append_assoc, append-nil, get_or, All, AllPairs}
use Rattle.std.proofs.lemmas.List.Elements.{All-append, All-cons}
use Rattle.std.proofs.lemmas.List.Kept.{AllPairs-cons}
use Rattle.and_model.specs.Programs.{Program}
use Rattle.and_model.specs.Trees.{Agenda, Tree, decided}
use Rattle.and_model.specs.Reached.{Fork, Forks, ForksOfSplits, ended, forked, none, more}
use Rattle.and_model.specs.Codes.{IsProperPrefix}
use Rattle.and_model.specs.Prefixes.{IsPrefix}
use Rattle.and_laws.specs.CodeOrder.{Rises}
use Rattle.and_laws.proofs.PrefixLemmas.{prefix_then, prefix_front}
use Rattle.and_laws.proofs.Pairwise.{all_none, all_first, all_rest, all_pairs_none, all_pairs_first, all_pairs_rest, all_pairs_join}
use Rattle.and_laws.proofs.Agreeing.{steps_above}
use Rattle.and_laws.proofs.Keys.{below_decided, reduce_decided}

abbrev BeginsWith : List ℕ → Fork → Type 0
BeginsWith xs f = IsPrefix xs f.key

-- the fork's key begins with these clauses and then one of a list, at any place of it
abbrev BeginsAbove : List ℕ → ℕ → Fork → Type 0
BeginsAbove xs c f = (d : ℕ) × (c < d) × IsPrefix (xs ++ d ∷ []) f.key

abbrev BeginsAfter : List ℕ → Fork → Type 0
BeginsAfter xs f = (d : ℕ) × IsPrefix (xs ++ d ∷ []) f.key

-- what begins with a longer list goes on behind a shorter one
goes_on : (short whole long : List ℕ) (d : ℕ) → IsPrefix short whole → IsPrefix (whole ++ d ∷ []) long → IsProperPrefix short long
goes_on short whole long d ([], e) b = (d, b.0, b.1 ∙ append_assoc whole (d ∷ []) b.0 ∙ ap (λ l. l ++ d ∷ b.0) (e ∙ append-nil short))
goes_on short whole long d (z ∷ zs, e) b =
    (z, zs ++ d ∷ b.0, b.1 ∙ append_assoc whole (d ∷ []) b.0 ∙ ap (λ l. l ++ d ∷ b.0) e ∙ append_assoc short (z ∷ zs) (d ∷ b.0))

mutual
  -- the forks of a tree begin with its key, and rise
  pub forks_rise : {P : Program} {ag : Agenda} (t : Tree P ag) (key : List ℕ) (forks : List Fork) → IsPrefix key (decided t) → Forks t key forks
      → All (BeginsWith key) forks × AllPairs Rises forks
  forks_rise t key forks b (ended t' end key' s e) = (all_none (BeginsWith key'), all_pairs_none Rises)
  forks_rise t key forks b (forked t' end key' cs fs s shut o sc of) =
      let long : IsPrefix key' (decided end) = prefix_then key' (decided t') (decided end) b (below_decided (steps_above t' end s)) in
      let r = splits_rise end cs fs sc.0 of in
      let here : Fork = record { key = key'; decided = decided end; candidates = cs } in
      let each : All (BeginsWith key') fs =
      λ k x h. (let d : BeginsAfter (decided end) (get_or fs k x) = r.1 k x h in
      prefix_then key' (decided end) (get_or fs k x).key long (prefix_front (decided end) (d.0 ∷ []) (get_or fs k x).key d.1)) in
      let before : All (Rises here) fs =
      λ k x h. (let d : BeginsAfter (decided end) (get_or fs k x) = r.1 k x h in inl (goes_on key' (decided end) (get_or fs k x).key d.0 long d.1)) in
      (All-cons (BeginsWith key') here fs ([], sym (append-nil key')) each, AllPairs-cons Rises here fs before r.2)

  -- those of its splits begin with what it has decided and then the split's clause, and rise
  splits_rise : {P : Program} {ag : Agenda} (t : Tree P ag) (cs : List ℕ) (forks : List Fork) → AllPairs (λ c d. c < d) cs → ForksOfSplits t cs forks
      → ((c : ℕ) → All (λ d. c < d) cs → All (BeginsAbove (decided t) c) forks) × All (BeginsAfter (decided t)) forks × AllPairs Rises forks
  splits_rise t cs forks up (none t') = (λ c a. all_none (BeginsAbove (decided t') c), all_none (BeginsAfter (decided t')), all_pairs_none Rises)
  splits_rise t cs forks up (more t' next c cs' fs ms sp f rest) =
      let i = splits_rise t' cs' ms (all_pairs_rest (λ c d. c < d) c cs' up) rest in
      let long : IsPrefix (decided t' ++ c ∷ []) (decided next) =
      subst (λ u. IsPrefix (decided t' ++ c ∷ []) (decided u)) (sym sp.8) (reduce_decided t' sp.4 c sp.6 sp.5) in
      let j = forks_rise next (decided t' ++ c ∷ []) fs long f in
      let above : All (BeginsAbove (decided t') c) ms = i.0 c (all_pairs_first (λ c d. c < d) c cs' up) in
      let first_smaller : All (λ x. All (Rises x) ms) fs =
      λ k x h m y l. (
      let p : IsPrefix (decided t' ++ c ∷ []) (get_or fs k x).key = j.0 k x h in
      let q : BeginsAbove (decided t') c (get_or ms m y) = above m y l in
      inr (decided t', c, q.0, p.0, q.2.0, q.1, p.1 ∙ append_assoc (decided t') (c ∷ []) p.0, q.2.1 ∙ append_assoc (decided t') (q.0 ∷ []) q.2.0)) in (
        λ b a. All-append (BeginsAbove (decided t') b) fs ms (λ k x h. (c, all_first (λ d. b < d) c cs' a, j.0 k x h)) (i.0 b (all_rest (λ d. b < d) c cs' a)),
        All-append (BeginsAfter (decided t')) fs ms (λ k x h. (c, j.0 k x h)) i.1,
        all_pairs_join Rises fs ms j.1 i.2 first_smaller,
      )
