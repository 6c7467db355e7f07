-- A disjunction has no more distinct variables than its clause.
use Rattle.std.proofs.Common.{ℕ, zero, suc, ◌≡◌, ◌<◌, ◌≤◌, ◌||◌, ◌&&◌, Bool, true, false, cond, nat_eq, List, [], ◌∷◌, ◌++◌, length, refl, ap, ◌∙◌}
use Rattle.std.proofs.Common.{arith}
use Rattle.std.specs.Prelude.{All}
use Rattle.std.proofs.lemmas.Bool.Decides.{nat_tests}
use Rattle.std.proofs.lemmas.List.Elements.{All-nil, All-cons, All-head, All-tail}
use Rattle.and_model.specs.Terms.{Path}
use Rattle.and_model.specs.Lines.{same_path, same_variable, has, first_seen}
use Rattle.and_model.specs.OwnVariables.{IsOwn}
use Rattle.and_source.proofs.OwnVariables.{of_seen}

abbrev Variable : Type 0
Variable = Path × ℕ

-- none occurs again
abbrev Fresh : List Variable → Type 0
Fresh [] = Unit {0}
Fresh (v ∷ vs) = (has v vs ≡ false) × Fresh vs

turned_path : (p q : Path) → same_path p q ≡ same_path q p
turned_path [] [] = refl
turned_path [] (j ∷ q) = refl
turned_path (i ∷ p) [] = refl
turned_path (i ∷ p) (j ∷ q) = let e : nat_eq i j ≡ nat_eq j i =
    grind (arith, nat_tests) in ap (λ b. b && same_path p q) e ∙ ap (λ b. nat_eq j i && b) (turned_path p q)

turned : (v w : Variable) → same_variable v w ≡ same_variable w v
turned v w =
    let e : nat_eq v.1 w.1 ≡ nat_eq w.1 v.1 = grind (arith, nat_tests) in
    ap (λ b. b && nat_eq v.1 w.1) (turned_path v.0 w.0) ∙ ap (λ b. same_path w.0 v.0 && b) e

or_false : (a b : Bool) → a || b ≡ false → (a ≡ false) × (b ≡ false)
or_false true b e = absurd cc
or_false false b e = (refl, e)

both_false : (a b : Bool) → a ≡ false → b ≡ false → a || b ≡ false
both_false a b e f = ap (λ c. c || b) e ∙ f

has-push : (w v : Variable) (seen : List Variable) → has w seen ≡ false → same_variable w v ≡ false → has w (seen ++ v ∷ []) ≡ false
has-push w v [] e f = both_false (same_variable w v) false f refl
has-push w v (x ∷ seen) e f =
    let h = or_false (same_variable w x) (has w seen) e in both_false (same_variable w x) (has w (seen ++ v ∷ [])) h.0 (has-push w v seen h.1 f)

fresh-push : (v : Variable) (seen : List Variable) → Fresh seen → has v seen ≡ false → Fresh (seen ++ v ∷ [])
fresh-push v [] f e = (refl, tt)
fresh-push v (x ∷ seen) f e =
    let h = or_false (same_variable v x) (has v seen) e in
    (has-push x v seen f.0 (turned x v ∙ h.0), fresh-push v seen f.1 h.1)

fresh-seen : (seen vs : List Variable) → Fresh seen → Fresh (first_seen seen vs)
fresh-seen seen [] f = f
fresh-seen seen (v ∷ vs) f = fresh-seen (cond (has v seen) seen (seen ++ v ∷ [])) vs (by (has v seen) refl)
  where
    by : (b : Bool) → has v seen ≡ b → Fresh (cond b seen (seen ++ v ∷ []))
    by true e = f
    by false e = fresh-push v seen f e

-- without the variable n
abbrev without : ℕ → List Variable → List Variable
without n [] = []
without n (v ∷ vs) = cond (nat_eq v.1 n) vs (v ∷ without n vs)

shorter : (n : ℕ) (vs : List Variable) → length vs ≤ suc (length (without n vs))
shorter n [] = omega arith
shorter n (v ∷ vs) = by (nat_eq v.1 n) (shorter n vs)
  where
    by : (b : Bool) → length vs ≤ suc (length (without n vs)) → suc (length vs) ≤ suc (length (cond b vs (v ∷ without n vs)))
    by true le = omega arith
    by false le = omega arith

has-without : (n : ℕ) (w : Variable) (vs : List Variable) → has w vs ≡ false → has w (without n vs) ≡ false
has-without n w [] e = refl
has-without n w (v ∷ vs) e = by (nat_eq v.1 n) (or_false (same_variable w v) (has w vs) e) (λ h. has-without n w vs h)
  where
    by : (b : Bool) → (same_variable w v ≡ false) × (has w vs ≡ false) → (has w vs ≡ false → has w (without n vs) ≡ false)
        → has w (cond b vs (v ∷ without n vs)) ≡ false
    by true h k = h.1
    by false h k = both_false (same_variable w v) (has w (without n vs)) h.0 (k h.1)

fresh-without : (n : ℕ) (vs : List Variable) → Fresh vs → Fresh (without n vs)
fresh-without n [] f = tt
fresh-without n (v ∷ vs) f = by (nat_eq v.1 n) (has-without n v vs f.0) (fresh-without n vs f.1)
  where
    by : (b : Bool) → has v (without n vs) ≡ false → Fresh (without n vs) → Fresh (cond b vs (v ∷ without n vs))
    by true h k = f.1
    by false h k = (h, k)

-- a variable that is not the last one
smaller : (n : ℕ) (v : Variable) → IsOwn (suc n) v → nat_eq v.1 n ≡ false → IsOwn n v
smaller n v o e = let lt : v.1 < n = grind (arith, nat_tests, o.1) in (o.0, lt)

same_is : (n : ℕ) (v w : Variable) → IsOwn (suc n) v → IsOwn (suc n) w → nat_eq v.1 n ≡ true → nat_eq w.1 n ≡ true → same_variable v w ≡ true
same_is n v w o u e f =
    let numbers : nat_eq v.1 w.1 ≡ true = grind (arith, nat_tests) in
    ap (λ p. same_path p w.0 && nat_eq v.1 w.1) o.0 ∙ ap (λ p. same_path [] p && nat_eq v.1 w.1) u.0 ∙ numbers

-- where the last one does not occur again
others_smaller : (n : ℕ) (v : Variable) (vs : List Variable) → IsOwn (suc n) v → nat_eq v.1 n ≡ true → has v vs ≡ false
    → All (IsOwn (suc n)) vs → All (IsOwn n) vs
others_smaller n v [] o e h a = All-nil (IsOwn n)
others_smaller n v (w ∷ vs) o e h a =
    let hs = or_false (same_variable v w) (has v vs) h in
    let u : IsOwn (suc n) w = All-head (IsOwn (suc n)) w vs a in
    All-cons (IsOwn n) w vs (by u hs.0 (nat_eq w.1 n) refl) (others_smaller n v vs o e hs.1 (All-tail (IsOwn (suc n)) w vs a))
  where
    by : IsOwn (suc n) w → same_variable v w ≡ false → (b : Bool) → nat_eq w.1 n ≡ b → IsOwn n w
    by u f true g = absurd (cc (same_is n v w o u e g, f))
    by u f false g = smaller n w u g

without_smaller : (n : ℕ) (vs : List Variable) → Fresh vs → All (IsOwn (suc n)) vs → All (IsOwn n) (without n vs)
without_smaller n [] f a = All-nil (IsOwn n)
without_smaller n (v ∷ vs) f a =
    let o : IsOwn (suc n) v = All-head (IsOwn (suc n)) v vs a in
    by o (All-tail (IsOwn (suc n)) v vs a) (without_smaller n vs f.1 (All-tail (IsOwn (suc n)) v vs a)) (nat_eq v.1 n) refl
  where
    by : IsOwn (suc n) v → All (IsOwn (suc n)) vs → All (IsOwn n) (without n vs) → (b : Bool) → nat_eq v.1 n ≡ b → All (IsOwn n) (cond b vs (v ∷ without n vs))
    by o rest less true e = others_smaller n v vs o e f.0 rest
    by o rest less false e = All-cons (IsOwn n) v (without n vs) (smaller n v o e) less

fresh_few : (n : ℕ) (vs : List Variable) → Fresh vs → All (IsOwn n) vs → length vs ≤ n
fresh_few n [] f a = omega arith
fresh_few zero (v ∷ vs) f a = let o : IsOwn 0 v = All-head (IsOwn 0) v vs a in absurd (omega (arith, o.1))
fresh_few (suc n) (v ∷ vs) f a =
    omega (arith, shorter n (v ∷ vs), fresh_few n (without n (v ∷ vs)) (fresh-without n (v ∷ vs) f) (without_smaller n (v ∷ vs) f a))

-- Of a clause's own n variables at most n are distinct.
pub distinct_few : (n : ℕ) (vs : List Variable) → All (IsOwn n) vs → length (first_seen [] vs) ≤ n
distinct_few n vs a = fresh_few n (first_seen [] vs) (fresh-seen [] vs tt) (of_seen (IsOwn n) [] vs (All-nil (IsOwn n)) a)
