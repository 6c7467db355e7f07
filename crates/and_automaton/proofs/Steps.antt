-- Steps of the machine: what they need, and what each of them tells.
use Rattle.std.proofs.Common.{ℕ, ◌≡◌, ◌<◌, Bool, true, false, true≢false, cond, ◌&&◌, ◌||◌, List, [], ◌∷◌, ◌++◌, Option, Some, None, refl, ap, sym, ◌∙◌, arith}
use Rattle.std.specs.Prelude.{leb, codes}
use Rattle.std.specs.Str.{bytes_eq}
use Rattle.std.specs.List.{list_any}
use Rattle.std.proofs.lemmas.Bool.{lt-leb, leb-false}
use Rattle.std.proofs.lemmas.Slice.Eq.{bytes_eq-Decides}
use Rattle.and_model.specs.Lines.{Bytes}
use Rattle.and_language.specs.Words.{Word, Placed, products, sums, relations, is_one_of}
use Rattle.and_language.specs.Grammar.{Neck, turnstile, arrow, symbol_of}
use Rattle.and_automaton.specs.Machine.{State, Role, is_product, is_sum, is_relation, is_neck, is_none, role, go, exceeds, step, run, and_then, words_of}
use Rattle.and_model.specs.declared.limits.TheConstants.{MAX_NESTING}

-- A word that is within the limits leads where it leads without them,
pub stepped : (limited : Bool) (s : State) (x : Word) (t : State) → (limited ≡ true → exceeds s x ≡ false) → go s x ≡ Some t → step limited s x ≡ Some t
stepped limited s x t low e = ap (λ b. cond b None (go s x)) (lowered limited (exceeds s x) low) ∙ e
  where
    lowered : (a b : Bool) → (a ≡ true → b ≡ false) → (a && b) ≡ false
    lowered true b h = h refl
    lowered false b h = refl

-- and so does a run that begins with it.
pub run_step : (limited : Bool) (s : State) (x : Word) (t : State) (xs : List Word) → (limited ≡ true → exceeds s x ≡ false) → go s x ≡ Some t
    → run limited s (x ∷ xs) ≡ run limited t xs
run_step limited s x t xs low e = ap (λ o. and_then o (λ u. run limited u xs)) (stepped limited s x t low e)

-- A step within limits is one without, and its word is within them.
pub step_tells : (limited : Bool) (s : State) (x : Word) (t : State) → step limited s x ≡ Some t → (limited ≡ true → exceeds s x ≡ false) × (go s x ≡ Some t)
step_tells limited s x t e = told limited (exceeds s x) (go s x) e
  where
    told : (a b : Bool) (o : Option State) → cond (a && b) None o ≡ Some t → (a ≡ true → b ≡ false) × (o ≡ Some t)
    told true true o h = absurd (cc)
    told true false o h = ((λ _. refl), h)
    told false b o h = ((λ k. absurd (true≢false (sym k))), h)

-- what is open is within the limit
pub shallow : (limited : Bool) (n k : ℕ) → n ≡ k → (limited ≡ true → n < MAX_NESTING) → limited ≡ true → leb MAX_NESTING k ≡ false
shallow limited n k e h l = lt-leb MAX_NESTING k (let low : n < MAX_NESTING = h l in omega arith)

pub shallow_told : (limited : Bool) (k : ℕ) → (limited ≡ true → leb MAX_NESTING k ≡ false) → limited ≡ true → k < MAX_NESTING
shallow_told limited k h l = leb-false MAX_NESTING k (h l)

-- what each name of a list is, is each name that the list's test finds
abbrev Each : Role → List Bytes → Type 0
Each r [] = Unit {0}
Each r (c ∷ cs) = (role c ≡ r) × Each r cs

role_in : (r : Role) (cs : List Bytes) → Each r cs → (c : Bytes) → is_one_of cs c ≡ true → role c ≡ r
role_in r [] h c e = absurd (true≢false (sym e))
role_in r (d ∷ cs) h c e = by_test (role_in r cs h.1 c) (bytes_eq c d) refl e
  where
    by_test : (is_one_of cs c ≡ true → role c ≡ r) → (b : Bool) → bytes_eq c d ≡ b → (b || list_any (bytes_eq c) cs) ≡ true → role c ≡ r
    by_test later true is k = ap role ((bytes_eq-Decides c d).0 is) ∙ h.0
    by_test later false is k = later k

pub product_role : (c : Bytes) → is_one_of products c ≡ true → role c ≡ is_product
product_role = role_in is_product products (refl, (refl, (refl, (refl, tt))))

pub sum_role : (c : Bytes) → is_one_of sums c ≡ true → role c ≡ is_sum
sum_role = role_in is_sum sums (refl, (refl, tt))

pub relation_role : (c : Bytes) → is_one_of relations c ≡ true → role c ≡ is_relation
relation_role = role_in is_relation relations (refl, (refl, (refl, (refl, (refl, (refl, (refl, (refl, tt))))))))

pub neck_role : (n : Neck) → role (symbol_of n) ≡ is_neck n
neck_role turnstile = refl
neck_role arrow = refl

-- Whatever holds of a role where its test passes, holds of a name's role.
pub by_role : (c : Bytes) (M : Role → Type 0) → (is_one_of products c ≡ true → M is_product) → (is_one_of sums c ≡ true → M is_sum)
    → (is_one_of relations c ≡ true → M is_relation)
    → ((n : Neck) → c ≡ symbol_of n → M (is_neck n)) → M is_none → M (role c)
by_role c M p s r n o = one (is_one_of products c) refl
  where
    five : (b : Bool) → bytes_eq c (codes "-->") ≡ b → M (cond b (is_neck arrow) is_none)
    five true e = n arrow ((bytes_eq-Decides c (codes "-->")).0 e)
    five false e = o

    four : (b : Bool) → bytes_eq c (codes ":-") ≡ b → M (cond b (is_neck turnstile) (cond (bytes_eq c (codes "-->")) (is_neck arrow) is_none))
    four true e = n turnstile ((bytes_eq-Decides c (codes ":-")).0 e)
    four false e = five (bytes_eq c (codes "-->")) refl

    three : (b : Bool) → is_one_of relations c ≡ b
        → M (cond b is_relation (cond (bytes_eq c (codes ":-")) (is_neck turnstile) (cond (bytes_eq c (codes "-->")) (is_neck arrow) is_none)))
    three true e = r e
    three false e = four (bytes_eq c (codes ":-")) refl

    two : (b : Bool) → is_one_of sums c ≡ b
        → M (cond b is_sum (cond (is_one_of relations c) is_relation
        (cond (bytes_eq c (codes ":-")) (is_neck turnstile) (cond (bytes_eq c (codes "-->")) (is_neck arrow) is_none))))
    two true e = s e
    two false e = three (is_one_of relations c) refl

    one : (b : Bool) → is_one_of products c ≡ b
        → M (cond b is_product (cond (is_one_of sums c) is_sum
        (cond (is_one_of relations c) is_relation
        (cond (bytes_eq c (codes ":-")) (is_neck turnstile) (cond (bytes_eq c (codes "-->")) (is_neck arrow) is_none)))))
    one true e = p e
    one false e = two (is_one_of sums c) refl

-- a run that goes on by one word
pub run_more : (limited : Bool) (r : State) (ps : List Placed) (p : Placed) (s t : State) → run limited r (words_of ps) ≡ Some s
    → step limited s p.word ≡ Some t
    → run limited r (words_of (ps ++ p ∷ [])) ≡ Some t
run_more limited r [] p s t e f =
    let same : r ≡ s = cc in
    ap (λ u. run limited u (p.word ∷ [])) same ∙ ap (λ o. and_then o (λ u. Some u)) f
run_more limited r (q ∷ ps) p s t e f = by (step limited r q.word) (λ u h. run_more limited u ps p s t h f) e
  where
    by : (o : Option State) → ((u : State) → run limited u (words_of ps) ≡ Some s → run limited u (words_of (ps ++ p ∷ [])) ≡ Some t)
        → and_then o (λ u. run limited u (words_of ps)) ≡ Some s → and_then o (λ u. run limited u (words_of (ps ++ p ∷ []))) ≡ Some t
    by None h e = absurd cc
    by (Some u) h e = h u e
