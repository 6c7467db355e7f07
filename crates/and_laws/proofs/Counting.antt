-- The numbers of forks and failures of a tree, and the list of its forks, are determined.
use Rattle.std.proofs.Common.{ℕ, ◌≡◌, ◌+◌, ◌<◌, List, [], ◌∷◌, ◌++◌, refl, ap, sym, subst, inl, inr, ◌⊎◌, arith}
use Rattle.and_model.specs.Programs.{Program}
use Rattle.and_model.specs.Trees.{Agenda, Tree, IsWhole, Open, decided}
use Rattle.and_model.specs.Reached.{Shut, Dead, Steps, SplitClauses, Numbers, NumbersOfSplits, Fork, Forks, ForksOfSplits}
use Rattle.and_laws.proofs.Ordered.{same_elements}
use Rattle.and_laws.proofs.Order.{whole_has_none}
use Rattle.and_laws.proofs.Splitting.{split_same}
use Rattle.and_laws.proofs.Agreeing.{two_ends, one_shut}

-- A tree is split by one list of clauses.
pub split_clauses_same : {P : Program} {ag : Agenda} (t : Tree P ag) (cs ds : List ℕ) → SplitClauses t cs → SplitClauses t ds → cs ≡ ds
split_clauses_same t cs ds a b =
    same_elements (λ c d. c < d) (λ c d h k. absurd (omega arith)) cs ds a.0 b.0 (λ c h. (b.1 c).1 ((a.1 c).0 h)) (λ c h. (a.1 c).1 ((b.1 c).0 h))

-- A whole Shut tree and one with open goals are not both reached by Steps.
whole_or_open : {P : Program} {ag : Agenda} (t r s : Tree P ag) → Steps t r → Shut r → IsWhole r → Steps t s → Shut s → Open s → ⊥
whole_or_open t r s a x w b y o = whole_has_none s (subst (λ z. IsWhole z) (one_shut t r s a x b y) w) o

-- Numbers are determined,
mutual
  pub numbers_same : {P : Program} {ag : Agenda} (t : Tree P ag) (f m g n : ℕ) → Numbers t f m → Numbers t g n → (f ≡ g) × (m ≡ n)
  numbers_same t f m g n (Numbers.dead t' d a x) (Numbers.dead t2 e b y) = (refl, refl)
  numbers_same t f m g n (Numbers.dead t' d a x) (Numbers.whole t2 s b y w) = absurd (two_ends t' d s a x b y)
  numbers_same t f m g n (Numbers.dead t' d a x) (Numbers.forked t2 s cs g' n' b y o v q) = absurd (two_ends t' d s a x b y)
  numbers_same t f m g n (Numbers.whole t' s a x w) (Numbers.dead t2 d b y) = absurd (two_ends t' d s b y a x)
  numbers_same t f m g n (Numbers.whole t' s a x w) (Numbers.whole t2 r b y z) = (refl, refl)
  numbers_same t f m g n (Numbers.whole t' s a x w) (Numbers.forked t2 r cs g' n' b y o v q) = absurd (whole_or_open t' s r a x w b y o)
  numbers_same t f m g n (Numbers.forked t' s cs f' m' a x o v q) (Numbers.dead t2 d b y) = absurd (two_ends t' d s b y a x)
  numbers_same t f m g n (Numbers.forked t' s cs f' m' a x o v q) (Numbers.whole t2 r b y w) = absurd (whole_or_open t' r s b y w a x o)
  numbers_same t f m g n (Numbers.forked t' s cs f' m' a x o v q) (Numbers.forked t2 r ds g' n' b y p u k) =
      let one : s ≡ r = one_shut t' s r a x b y in
      let clauses : cs ≡ ds = split_clauses_same r cs ds (subst (λ z. SplitClauses z cs) one v) u in
      let moved : NumbersOfSplits s cs g' n' = subst (λ z. NumbersOfSplits s z g' n') (sym clauses) (subst (λ z. NumbersOfSplits z ds g' n') (sym one) k) in
      let i : (f' ≡ g') × (m' ≡ n') = split_numbers_same s cs f' m' g' n' q moved in
      (ap (λ (z : ℕ). 1 + z) i.0, i.1)

  split_numbers_same : {P : Program} {ag : Agenda} (s : Tree P ag) (cs : List ℕ) (f m g n : ℕ) → NumbersOfSplits s cs f m
      → NumbersOfSplits s cs g n → (f ≡ g) × (m ≡ n)
  split_numbers_same s cs f m g n (NumbersOfSplits.none s') (NumbersOfSplits.none s2) = (refl, refl)
  split_numbers_same s cs f m g n (NumbersOfSplits.more s' u c ds f1 m1 f2 m2 sp a b) (NumbersOfSplits.more s2 v c2 ds2 g1 n1 g2 n2 sq x y) =
      let one : v ≡ u = split_same s' v u c sq sp in
      let i : (f1 ≡ g1) × (m1 ≡ n1) = numbers_same u f1 m1 g1 n1 a (subst (λ z. Numbers z g1 n1) one x) in
      let j : (f2 ≡ g2) × (m2 ≡ n2) = split_numbers_same s' ds f2 m2 g2 n2 b y in
      let e1 = i.0 in let e2 = i.1 in let e3 = j.0 in let e4 = j.1 in
      (cc, cc)

-- The list of forks is determined,
ended_not_open : {P : Program} {ag : Agenda} (t d s : Tree P ag) → Steps t d → Dead d ⊎ (Shut d × IsWhole d) → Steps t s → Shut s → Open s → ⊥
ended_not_open t d s a (inl x) b y o = two_ends t d s a x b y
ended_not_open t d s a (inr x) b y o = whole_or_open t d s a x.0 x.1 b y o

mutual
  pub forks_same : {P : Program} {ag : Agenda} (t : Tree P ag) (key : List ℕ) (ks ls : List Fork) → Forks t key ks → Forks t key ls → ks ≡ ls
  forks_same t key ks ls (Forks.ended t' d k a x) (Forks.ended t2 e k2 b y) = refl
  forks_same t key ks ls (Forks.ended t' d k a x) (Forks.forked t2 s k2 cs js b y o v q) = absurd (ended_not_open t' d s a x b y o)
  forks_same t key ks ls (Forks.forked t' s k cs js a x o v q) (Forks.ended t2 d k2 b y) = absurd (ended_not_open t' d s b y a x o)
  forks_same t key ks ls (Forks.forked t' s k cs js a x o v q) (Forks.forked t2 r k2 ds is b y p u z) =
      let one : s ≡ r = one_shut t' s r a x b y in
      let clauses : cs ≡ ds = split_clauses_same r cs ds (subst (λ z. SplitClauses z cs) one v) u in
      let moved : ForksOfSplits s cs is = subst (λ w. ForksOfSplits s w is) (sym clauses) (subst (λ w. ForksOfSplits w ds is) (sym one) z) in
      let rest : js ≡ is = split_forks_same s cs js is q moved in
      let dec : decided s ≡ decided r = ap (λ w. decided w) one in
      cc

  split_forks_same : {P : Program} {ag : Agenda} (s : Tree P ag) (cs : List ℕ) (ks ls : List Fork) → ForksOfSplits s cs ks → ForksOfSplits s cs ls → ks ≡ ls
  split_forks_same s cs ks ls (ForksOfSplits.none s') (ForksOfSplits.none s2) = refl
  split_forks_same s cs ks ls (ForksOfSplits.more s' u c ds js1 js2 sp a b) (ForksOfSplits.more s2 v c2 ds2 is1 is2 sq x y) =
      let one : v ≡ u = split_same s' v u c sq sp in
      let i : js1 ≡ is1 = forks_same u (decided s' ++ c ∷ []) js1 is1 a (subst (λ z. Forks z (decided s' ++ c ∷ []) is1) one x) in
      let j : js2 ≡ is2 = split_forks_same s' ds js2 is2 b y in
      cc
