-- Clauses that are tested to be the same are equal, and the other way round.
use Rattle.std.proofs.Common.{ℕ, ◌≡◌, Bool, true, false, ◌&&◌, nat_eq, List, [], ◌∷◌, refl, ap, sym, ◌∙◌, arith}
use Rattle.std.specs.Str.{bytes_eq}
use Rattle.std.proofs.lemmas.Bool.Decides.{nat_tests, Decides-int_eq}
use Rattle.std.proofs.lemmas.Slice.Eq.{bytes_eq-Decides}
use Rattle.and_model.specs.Terms.{Path, Term, Terms, variable, number, compound, none, more}
use Rattle.and_model.specs.Arithmetic.{Relation, less, greater, at_most, at_least, same, differs}
use Rattle.and_model.specs.Programs.{Arithmetic, is, compare, Item, call, equal, arithmetic, fail, Clause}
use Rattle.and_model.specs.Lines.{same_path}
use Rattle.and_clauses.specs.Same.{same_term, same_terms, code_of, same_goal, same_item, same_list, same_clause, same_clauses}
use Rattle.and_judging.proofs.SortingSteps.{same_path-is}

both : (a b : Bool) → a && b ≡ true → (a ≡ true) × (b ≡ true)
both true b e = (refl, e)
both false b e = absurd cc

and_true : (a b : Bool) → a ≡ true → b ≡ true → a && b ≡ true
and_true a b e f = ap (λ c. c && b) e ∙ f

nat-is : (m n : ℕ) → nat_eq m n ≡ true → m ≡ n
nat-is m n e = grind (arith, nat_tests)

nat-same : (n : ℕ) → nat_eq n n ≡ true
nat-same n = grind (arith, nat_tests)

path-same : (p : Path) → same_path p p ≡ true
path-same [] = refl
path-same (i ∷ p) = and_true (nat_eq i i) (same_path p p) (nat-same i) (path-same p)

mutual
  term-is : (t u : Term) → same_term t u ≡ true → t ≡ u
  term-is (variable p k) (variable q l) e =
      let h = both (same_path p q) (nat_eq k l) e in ap (λ r. variable r k) (same_path-is p q h.0) ∙ ap (λ m. variable q m) (nat-is k l h.1)
  term-is (variable p k) (number y) e = absurd cc
  term-is (variable p k) (compound d us) e = absurd cc
  term-is (number z) (variable q l) e = absurd cc
  term-is (number z) (number y) e = ap number ((Decides-int_eq z y).0 e)
  term-is (number z) (compound d us) e = absurd cc
  term-is (compound c ts) (variable q l) e = absurd cc
  term-is (compound c ts) (number y) e = absurd cc
  term-is (compound c ts) (compound d us) e =
      let h = both (nat_eq c d) (same_terms ts us) e in ap (λ k. compound k ts) (nat-is c d h.0) ∙ ap (compound d) (terms-are ts us h.1)

  terms-are : (ts us : Terms) → same_terms ts us ≡ true → ts ≡ us
  terms-are none none e = refl
  terms-are none (more u us) e = absurd cc
  terms-are (more t ts) none e = absurd cc
  terms-are (more t ts) (more u us) e =
      let h = both (same_term t u) (same_terms ts us) e in ap (λ v. more v ts) (term-is t u h.0) ∙ ap (more u) (terms-are ts us h.1)

mutual
  term-same : (t : Term) → same_term t t ≡ true
  term-same (variable p k) = and_true (same_path p p) (nat_eq k k) (path-same p) (nat-same k)
  term-same (number z) = (Decides-int_eq z z).1 refl
  term-same (compound c ts) = and_true (nat_eq c c) (same_terms ts ts) (nat-same c) (terms-same ts)

  terms-same : (ts : Terms) → same_terms ts ts ≡ true
  terms-same none = refl
  terms-same (more t ts) = and_true (same_term t t) (same_terms ts ts) (term-same t) (terms-same ts)

code-is : (m n : Relation) → code_of m ≡ code_of n → m ≡ n
code-is less less e = refl
code-is less greater e = absurd (omega (arith, e))
code-is less at_most e = absurd (omega (arith, e))
code-is less at_least e = absurd (omega (arith, e))
code-is less same e = absurd (omega (arith, e))
code-is less differs e = absurd (omega (arith, e))
code-is greater less e = absurd (omega (arith, e))
code-is greater greater e = refl
code-is greater at_most e = absurd (omega (arith, e))
code-is greater at_least e = absurd (omega (arith, e))
code-is greater same e = absurd (omega (arith, e))
code-is greater differs e = absurd (omega (arith, e))
code-is at_most less e = absurd (omega (arith, e))
code-is at_most greater e = absurd (omega (arith, e))
code-is at_most at_most e = refl
code-is at_most at_least e = absurd (omega (arith, e))
code-is at_most same e = absurd (omega (arith, e))
code-is at_most differs e = absurd (omega (arith, e))
code-is at_least less e = absurd (omega (arith, e))
code-is at_least greater e = absurd (omega (arith, e))
code-is at_least at_most e = absurd (omega (arith, e))
code-is at_least at_least e = refl
code-is at_least same e = absurd (omega (arith, e))
code-is at_least differs e = absurd (omega (arith, e))
code-is same less e = absurd (omega (arith, e))
code-is same greater e = absurd (omega (arith, e))
code-is same at_most e = absurd (omega (arith, e))
code-is same at_least e = absurd (omega (arith, e))
code-is same same e = refl
code-is same differs e = absurd (omega (arith, e))
code-is differs less e = absurd (omega (arith, e))
code-is differs greater e = absurd (omega (arith, e))
code-is differs at_most e = absurd (omega (arith, e))
code-is differs at_least e = absurd (omega (arith, e))
code-is differs same e = absurd (omega (arith, e))
code-is differs differs e = refl

goal-is : (j k : Arithmetic) → same_goal j k ≡ true → j ≡ k
goal-is (is a b) (is c d) e = let h = both (same_term a c) (same_term b d) e in ap (λ t. is t b) (term-is a c h.0) ∙ ap (is c) (term-is b d h.1)
goal-is (is a b) (compare n c d) e = absurd cc
goal-is (compare m a b) (is c d) e = absurd cc
goal-is (compare m a b) (compare n c d) e =
    let h = both (nat_eq (code_of m) (code_of n)) (same_term a c && same_term b d) e in
    let g = both (same_term a c) (same_term b d) h.1 in
    ap (λ o. compare o a b) (code-is m n (nat-is (code_of m) (code_of n) h.0)) ∙ ap (λ t. compare n t b) (term-is a c g.0) ∙ ap (compare n c) (term-is b d g.1)

goal-same : (j : Arithmetic) → same_goal j j ≡ true
goal-same (is a b) = and_true (same_term a a) (same_term b b) (term-same a) (term-same b)
goal-same (compare m a b) =
    and_true (nat_eq (code_of m) (code_of m)) (same_term a a && same_term b b) (nat-same (code_of m))
    (and_true (same_term a a) (same_term b b) (term-same a) (term-same b))

item-is : (i j : Item) → same_item i j ≡ true → i ≡ j
item-is (call g) (call h) e = ap call (term-is g h e)
item-is (call g) (equal c d) e = absurd cc
item-is (call g) (arithmetic k) e = absurd cc
item-is (call g) fail e = absurd cc
item-is (equal a b) (call h) e = absurd cc
item-is (equal a b) (equal c d) e = let h = both (same_term a c) (same_term b d) e in ap (λ t. equal t b) (term-is a c h.0) ∙ ap (equal c) (term-is b d h.1)
item-is (equal a b) (arithmetic k) e = absurd cc
item-is (equal a b) fail e = absurd cc
item-is (arithmetic j) (call h) e = absurd cc
item-is (arithmetic j) (equal c d) e = absurd cc
item-is (arithmetic j) (arithmetic k) e = ap arithmetic (goal-is j k e)
item-is (arithmetic j) fail e = absurd cc
item-is fail (call h) e = absurd cc
item-is fail (equal c d) e = absurd cc
item-is fail (arithmetic k) e = absurd cc
item-is fail fail e = refl

item-same : (i : Item) → same_item i i ≡ true
item-same (call g) = term-same g
item-same (equal a b) = and_true (same_term a a) (same_term b b) (term-same a) (term-same b)
item-same (arithmetic j) = goal-same j
item-same fail = refl

module _ {X : Type 0} (e : X → X → Bool) where
  list-is : ((x y : X) → e x y ≡ true → x ≡ y) → (xs ys : List X) → same_list e xs ys ≡ true → xs ≡ ys
  list-is one [] [] h = refl
  list-is one [] (y ∷ ys) h = absurd cc
  list-is one (x ∷ xs) [] h = absurd cc
  list-is one (x ∷ xs) (y ∷ ys) h =
      let g = both (e x y) (same_list e xs ys) h in ap (λ z. z ∷ xs) (one x y g.0) ∙ ap (λ zs. y ∷ zs) (list-is one xs ys g.1)

  list-same : ((x : X) → e x x ≡ true) → (xs : List X) → same_list e xs xs ≡ true
  list-same one [] = refl
  list-same one (x ∷ xs) = and_true (e x x) (same_list e xs xs) (one x) (list-same one xs)

abbrev clause_by : Term → List Item → ℕ → List (List ℕ) → ℕ → Clause
clause_by h b v w l = record { head = h; body = b; variables = v; written = w; line = l }

pub clause-is : (c d : Clause) → same_clause c d ≡ true → c ≡ d
clause-is c d e =
    let h = both (same_term c.head d.head) _ e in
    let b = both (same_list same_item c.body d.body) _ h.1 in
    let v = both (nat_eq c.variables d.variables) _ b.1 in
    let w = both (same_list bytes_eq c.written d.written) (nat_eq c.line d.line) v.1 in
    ap (λ x. clause_by x c.body c.variables c.written c.line) (term-is c.head d.head h.0)
    ∙ ap (λ x. clause_by d.head x c.variables c.written c.line) (list-is same_item item-is c.body d.body b.0)
    ∙ ap (λ x. clause_by d.head d.body x c.written c.line) (nat-is c.variables d.variables v.0)
    ∙ ap (λ x. clause_by d.head d.body d.variables x c.line) (list-is bytes_eq (λ x y h. (bytes_eq-Decides x y).0 h) c.written d.written w.0)
    ∙ ap (λ x. clause_by d.head d.body d.variables d.written x) (nat-is c.line d.line w.1)

pub clause-same : (c : Clause) → same_clause c c ≡ true
clause-same c =
    and_true (same_term c.head c.head) _ (term-same c.head) (and_true (same_list same_item c.body c.body) _ (list-same same_item item-same c.body)
    (and_true (nat_eq c.variables c.variables) _ (nat-same c.variables)
    (and_true (same_list bytes_eq c.written c.written) (nat_eq c.line c.line) (list-same bytes_eq (λ x. (bytes_eq-Decides x x).1 refl) c.written)
    (nat-same c.line))))

pub clauses-are : (cs ds : List Clause) → same_clauses cs ds ≡ true → cs ≡ ds
clauses-are cs ds e = list-is same_clause clause-is cs ds e

pub clauses-same : (cs ds : List Clause) → cs ≡ ds → same_clauses cs ds ≡ true
clauses-same cs ds e = ap (same_clauses cs) (sym e) ∙ list-same same_clause clause-same cs
