-- The text of a tree counts what the definitions count, and is determined.
use Rattle.std.proofs.Common.{ℕ, ◌+◌, ◌≡◌, ◌<◌, Bool, false, List, [], ◌∷◌, ◌++◌, cond, refl, sym, ap, ◌∙◌, subst, arith}
use Rattle.std.proofs.lemmas.List.Sums.{sum_by-append, sum_by-cons}
use Rattle.and_model.specs.Programs.{Program}
use Rattle.and_model.specs.Trees.{QueryTree, Open, IsWhole, query_agenda, blank}
use Rattle.and_model.specs.Reached.{Steps, Shut, Dead, SplitClauses, Numbers, NumbersOfSplits}
use Rattle.and_model.specs.Listing.{Outcome, Ends, Entry}
use Rattle.and_laws.proofs.Agreeing.{two_ends, one_shut}
use Rattle.and_laws.proofs.Counting.{numbers_same, split_clauses_same}
use Rattle.and_laws.proofs.Listings.{one_outcome}
use Rattle.and_laws.proofs.Order.{whole_has_none}
use Rattle.and_laws.proofs.Splitting.{split_same}
use Rattle.and_fork_texts.specs.Texts.{Node, Line, fork, failed, ended, TreeText, TextOfSplits, is_fork, is_failed, count_of}

counted_more : (is : Node → Bool) (l : Line) (ls : List Line) → count_of is (l ∷ ls) ≡ cond (is l.node) 1 0 + count_of is ls
counted_more is l ls = sum_by-cons (λ (x : Line). cond (is x.node) 1 0) l ls

counted_both : (is : Node → Bool) (ls ks : List Line) → count_of is (ls ++ ks) ≡ count_of is ls + count_of is ks
counted_both is ls ks = sum_by-append (λ (x : Line). cond (is x.node) 1 0) ls ks

-- Lines with `fork` are forks, and lines with `failed` failures.
module _ (P : Program) (limit : ℕ) where
  mutual
    pub text_numbers : (t : QueryTree P) (d : ℕ) (ls : List Line) → TreeText P limit t d ls
        → Numbers t (count_of is_fork ls) (count_of is_failed ls)
    text_numbers t d ls (TreeText.dead t' end e ss light x) = Numbers.dead t' end ss x
    text_numbers t d ls (TreeText.whole t' end e o ss light shut a) = Numbers.whole t' end ss shut a.0
    text_numbers t d ls (TreeText.forked t' end e cs ks ss light shut o by splits) =
        let l : Line = record { depth = e; node = fork cs } in
        subst (λ n. Numbers t' n (count_of is_failed (l ∷ ks))) (sym (counted_more is_fork l ks))
        (subst (λ n. Numbers t' (1 + count_of is_fork ks) n) (sym (counted_more is_failed l ks))
        (Numbers.forked t' end cs (count_of is_fork ks) (0 + count_of is_failed ks) ss shut o by (splits_numbers end cs (e + 1) ks splits)))

    splits_numbers : (t : QueryTree P) (cs : List ℕ) (d : ℕ) (ls : List Line) → TextOfSplits P limit t cs d ls
        → NumbersOfSplits t cs (count_of is_fork ls) (0 + count_of is_failed ls)
    splits_numbers t cs d ls (TextOfSplits.no_more t' e) = NumbersOfSplits.none t'
    splits_numbers t cs d ls (TextOfSplits.more t' next c ds e ks others split text rest) =
        subst (λ n. NumbersOfSplits t' (c ∷ ds) n (0 + count_of is_failed (ks ++ others))) (sym (counted_both is_fork ks others))
        (subst (λ n. NumbersOfSplits t' (c ∷ ds) (count_of is_fork ks + count_of is_fork others) n) (sums)
        (NumbersOfSplits.more t' next c ds (count_of is_fork ks) (count_of is_failed ks) (count_of is_fork others) (0 + count_of is_failed others)
        split (text_numbers next e ks text) (splits_numbers t' ds e others rest)))
      where
        sums : count_of is_failed ks + (0 + count_of is_failed others) ≡ 0 + count_of is_failed (ks ++ others)
        sums = omega (arith, counted_both is_failed ks others)

-- A whole Shut tree and one with open goals are not both reached by Steps.
whole_or_open : {P : Program} (t r s : QueryTree P) → Steps t r → Shut r → IsWhole r → Steps t s → Shut s → Open s → ⊥
whole_or_open t r s a x w b y o = whole_has_none s (subst (λ z. IsWhole z) (one_shut t r s a x b y) w) o

-- A tree has one text, whatever the limits.
module _ (P : Program) (one other : ℕ) where
  mutual
    pub same_text : (t : QueryTree P) (d : ℕ) (ls ks : List Line) → TreeText P one t d ls → TreeText P other t d ks → ls ≡ ks
    same_text t d ls ks (TreeText.dead t' e d' a l x) (TreeText.dead t2 f d2 b m y) = refl
    same_text t d ls ks (TreeText.dead t' e d' a l x) (TreeText.whole t2 s d2 r b m y w) = absurd (two_ends t' e s a x b y)
    same_text t d ls ks (TreeText.dead t' e d' a l x) (TreeText.forked t2 s d2 cs js b m y o v q) = absurd (two_ends t' e s a x b y)
    same_text t d ls ks (TreeText.whole t' s d' r a l x w) (TreeText.dead t2 e d2 b m y) = absurd (two_ends t' e s b y a x)
    same_text t d ls ks (TreeText.whole t' s d' r a l x w) (TreeText.whole t2 u d2 q b m y z) =
        let ends : Ends u r = subst (λ v. Ends v r) (one_shut t' s u a x b y) w in
        ap (λ (o : Outcome). record { depth = d'; node = ended o } ∷ []) (one_outcome u r q ends z)
    same_text t d ls ks (TreeText.whole t' s d' r a l x w) (TreeText.forked t2 u d2 cs js b m y o v q) =
        absurd (whole_or_open t' s u a x w.0 b y o)
    same_text t d ls ks (TreeText.forked t' s d' cs js a l x o v q) (TreeText.dead t2 e d2 b m y) = absurd (two_ends t' e s b y a x)
    same_text t d ls ks (TreeText.forked t' s d' cs js a l x o v q) (TreeText.whole t2 u d2 r b m y w) =
        absurd (whole_or_open t' u s b y w.0 a x o)
    same_text t d ls ks (TreeText.forked t' s d' cs js a l x o v q) (TreeText.forked t2 u d2 ds is b m y p w z) =
        let same : s ≡ u = one_shut t' s u a x b y in
        let clauses : cs ≡ ds = split_clauses_same u cs ds (subst (λ r. SplitClauses r cs) same v) w in
        let moved : TextOfSplits P other s cs (d' + 1) is =
        subst (λ r. TextOfSplits P other s r (d' + 1) is) (sym clauses)
        (subst (λ r. TextOfSplits P other r ds (d' + 1) is) (sym same) z) in
        let rest : js ≡ is = same_splits s cs (d' + 1) js is q moved in
        ap (λ (r : List ℕ). record { depth = d'; node = fork r } ∷ js) clauses
        ∙ ap (λ (r : List Line). record { depth = d'; node = fork ds } ∷ r) rest

    same_splits : (s : QueryTree P) (cs : List ℕ) (d : ℕ) (ls ks : List Line) → TextOfSplits P one s cs d ls → TextOfSplits P other s cs d ks
        → ls ≡ ks
    same_splits s cs d ls ks (TextOfSplits.no_more s' d') (TextOfSplits.no_more s2 d2) = refl
    same_splits s cs d ls ks (TextOfSplits.more s' u c ds d' l1 l2 sp a b) (TextOfSplits.more s2 v c2 ds2 d2 k1 k2 sq x y) =
        let same : v ≡ u = split_same s' v u c sq sp in
        let first : l1 ≡ k1 = same_text u d' l1 k1 a (subst (λ z. TreeText P other z d' k1) same x) in
        let rest : l2 ≡ k2 = same_splits s' ds d' l2 k2 b y in
        cc
