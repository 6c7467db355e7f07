-- Names in a table, as more are seen; those of disjunctions among them.
use Rattle.std.proofs.Common.{ℕ, zero, suc, ◌≡◌, ◌+◌, ◌^◌, ◌<◌, ◌||◌, Bool, true, false, not, cond, List, [], ◌∷◌, ◌++◌, get_or, refl, ap}
use Rattle.std.proofs.Common.{sym, ◌∙◌, arith}
use Rattle.std.specs.Prelude.{nat_eq}
use Rattle.std.specs.Str.{bytes_eq}
use Rattle.std.proofs.lemmas.Slice.Eq.{bytes_eq-Decides}
use Rattle.std.proofs.lemmas.Fmt.{decimal_injective}
use Rattle.std.proofs.lemmas.Bool.Decides.{nat_tests}
use Rattle.and_model.specs.Lines.{Bytes}
use Rattle.and_model.specs.Terms
use Rattle.and_model.specs.Terms.{Term, Terms}
use Rattle.and_source.specs.Source.{has_name}
use Rattle.and_syntax.specs.Written
use Rattle.and_syntax.specs.Written.{Written, Many, has, place, including, named, named_all, met_after, term_in, terms_in}
use Rattle.and_syntax.specs.Tables.{disjunction_name, with_disjunctions}

-- What is there is still there, at its place.
abbrev pub Grows : List Bytes → List Bytes → Type 0
Grows xs ys = (x : Bytes) → has x xs ≡ true → (has x ys ≡ true) × (place x ys ≡ place x xs)

pub grows-same : (xs : List Bytes) → Grows xs xs
grows-same xs x h = (h, refl)

pub grows-trans : (xs ys zs : List Bytes) → Grows xs ys → Grows ys zs → Grows xs zs
grows-trans xs ys zs g h x i = let a = g x i in let b = h x a.0 in (b.0, b.1 ∙ a.1)

push-more : (x : Bytes) (xs ys : List Bytes) → has x xs ≡ true → (has x (xs ++ ys) ≡ true) × (place x (xs ++ ys) ≡ place x xs)
push-more x [] ys h = absurd cc
push-more x (y ∷ xs) ys h = by (bytes_eq x y) h (push-more x xs ys)
  where
    by : (b : Bool) → b || has x xs ≡ true → (has x xs ≡ true → (has x (xs ++ ys) ≡ true) × (place x (xs ++ ys) ≡ place x xs))
        → (b || has x (xs ++ ys) ≡ true) × (cond (not b) (1 + place x (xs ++ ys)) 0 ≡ cond (not b) (1 + place x xs) 0)
    by true e k = (refl, refl)
    by false e k = let r = k e in (r.0, ap (λ n. 1 + n) r.1)

pub grows-push : (xs ys : List Bytes) → Grows xs (xs ++ ys)
grows-push xs ys x h = push-more x xs ys h

pub grows-including : (xs : List Bytes) (c : Bytes) → Grows xs (including xs c)
grows-including xs c = by (has c xs)
  where
    by : (b : Bool) → Grows xs (cond b xs (xs ++ c ∷ []))
    by true = grows-same xs
    by false = grows-push xs (c ∷ [])

or_right : (b c : Bool) → c ≡ true → b || c ≡ true
or_right true c e = refl
or_right false c e = e

last-has : (c : Bytes) (xs : List Bytes) → has c (xs ++ c ∷ []) ≡ true
last-has c [] = ap (λ b. b || false) ((bytes_eq-Decides c c).1 refl)
last-has c (x ∷ xs) = or_right (bytes_eq c x) (has c (xs ++ c ∷ [])) (last-has c xs)

pub including-has : (xs : List Bytes) (c : Bytes) → has c (including xs c) ≡ true
including-has xs c = by (has c xs) refl
  where
    by : (b : Bool) → has c xs ≡ b → has c (cond b xs (xs ++ c ∷ [])) ≡ true
    by true e = e
    by false e = last-has c xs

mutual
  pub grows-named : (xs : List Bytes) (w : Written) → Grows xs (named xs w)
  grows-named xs (Written.variable x) = grows-same xs
  grows-named xs (Written.integer z) = grows-same xs
  grows-named xs (Written.compound c ts) =
      grows-trans xs (including xs c) (named_all (including xs c) ts) (grows-including xs c) (grows-named_all (including xs c) ts)

  pub grows-named_all : (xs : List Bytes) (ts : Many) → Grows xs (named_all xs ts)
  grows-named_all xs Written.none = grows-same xs
  grows-named_all xs (Written.more t ts) =
      grows-trans xs (named xs t) (named_all (named xs t) ts) (grows-named xs t) (grows-named_all (named xs t) ts)

pub grows-disjunctions : (d n : ℕ) (xs : List Bytes) → Grows xs (with_disjunctions d n xs)
grows-disjunctions d zero xs = grows-same xs
grows-disjunctions d (suc n) xs =
    let ys : List Bytes = including xs (disjunction_name d) in
    grows-trans xs ys (with_disjunctions (suc d) n ys) (grows-including xs (disjunction_name d)) (grows-disjunctions (suc d) n ys)

-- the names of the disjunctions from d on are there
pub disjunctions-there : (d n : ℕ) (xs : List Bytes) (e k : ℕ) → e ≡ d + k → k < n → has (disjunction_name e) (with_disjunctions d n xs) ≡ true
disjunctions-there d zero xs e k is lt = absurd (omega arith)
disjunctions-there d (suc n) xs e zero is lt =
    let ys : List Bytes = including xs (disjunction_name d) in
    let same : e ≡ d = omega arith in
    ap (λ i. has (disjunction_name i) (with_disjunctions (suc d) n ys)) same
    ∙ (grows-disjunctions (suc d) n ys (disjunction_name d) (including-has xs (disjunction_name d))).0
disjunctions-there d (suc n) xs e (suc k) is lt =
    disjunctions-there (suc d) n (including xs (disjunction_name d)) e k (omega arith) (omega arith)

-- the name at the place of one that is there
pub at-place : (x : Bytes) (xs : List Bytes) → has x xs ≡ true → get_or xs (place x xs) [] ≡ x
at-place x [] h = absurd cc
at-place x (y ∷ xs) h = by (bytes_eq x y) (bytes_eq-Decides x y).0 h (at-place x xs)
  where
    by : (b : Bool) → (b ≡ true → x ≡ y) → b || has x xs ≡ true → (has x xs ≡ true → get_or xs (place x xs) [] ≡ x)
        → get_or (y ∷ xs) (cond (not b) (1 + place x xs) 0) [] ≡ x
    by true is e k = sym (is refl)
    by false is e k = let f : 1 + place x xs ≡ suc (place x xs) = omega arith in ap (λ n. get_or (y ∷ xs) n []) f ∙ k e

-- so no two that are there have one place
pub one-name : (x y : Bytes) (xs : List Bytes) → has x xs ≡ true → has y xs ≡ true → place x xs ≡ place y xs → x ≡ y
one-name x y xs h k e = sym (at-place x xs h) ∙ ap (λ n. get_or xs n []) e ∙ at-place y xs k

abbrev tail_of : Bytes → Bytes
tail_of [] = []
tail_of (b ∷ bs) = bs

pub one-disjunction : (d e : ℕ) → d < 2 ^ 64 → e < 2 ^ 64 → disjunction_name d ≡ disjunction_name e → d ≡ e
one-disjunction d e low high is = decimal_injective d e low high (ap tail_of is)

-- A name that does not begin with the byte FF.
abbrev pub is_writable : Bytes → Bool
is_writable [] = true
is_writable (b ∷ bs) = not (nat_eq b 255)

pub no-disjunction : (x : Bytes) (d : ℕ) → is_writable x ≡ true → x ≡ disjunction_name d → ⊥
no-disjunction x d h e = let f : is_writable (disjunction_name d) ≡ true = ap is_writable (sym e) ∙ h in absurd (cc f)

-- all names of a written term are such
abbrev mutual
  pub AreWritable : Written → Type 0
  AreWritable (Written.variable x) = Unit {0}
  AreWritable (Written.integer z) = Unit {0}
  AreWritable (Written.compound c ts) = (is_writable c ≡ true) × AllWritable ts

  pub AllWritable : Many → Type 0
  AllWritable Written.none = Unit {0}
  AllWritable (Written.more t ts) = AreWritable t × AllWritable ts

-- each name of a term is one of these, and such a one
abbrev mutual
  pub HasWritten : List Bytes → Term → Type 0
  HasWritten names (Terms.variable q k) = Unit {0}
  HasWritten names (Terms.number z) = Unit {0}
  HasWritten names (Terms.compound c ts) =
      ((x : Bytes) × (has x names ≡ true) × (is_writable x ≡ true) × (c ≡ place x names)) × AllWritten names ts

  pub AllWritten : List Bytes → Terms → Type 0
  AllWritten names Terms.none = Unit {0}
  AllWritten names (Terms.more t ts) = HasWritten names t × AllWritten names ts

mutual
  pub term-written : (xs names met : List Bytes) (w : Written) → AreWritable w → Grows (named xs w) names → HasWritten names (term_in names met w)
  term-written xs names met (Written.variable x) a g = tt
  term-written xs names met (Written.integer z) a g = tt
  term-written xs names met (Written.compound c ts) a g =
      let ys : List Bytes = including xs c in
      let there = grows-trans ys (named_all ys ts) names (grows-named_all ys ts) g c (including-has xs c) in
      ((c, there.0, a.0, refl), terms-written ys names met ts a.1 g)

  pub terms-written : (xs names met : List Bytes) (ts : Many) → AllWritable ts → Grows (named_all xs ts) names → AllWritten names (terms_in names met ts)
  terms-written xs names met Written.none a g = tt
  terms-written xs names met (Written.more t ts) a g =
      let ys : List Bytes = named xs t in (
        term-written xs names met t a.0 (grows-trans ys (named_all ys ts) names (grows-named_all ys ts) g),
        terms-written ys names (met_after met t) ts a.1 g,
      )

mutual
  pub written-grows : (xs ys : List Bytes) (t : Term) → Grows xs ys → HasWritten xs t → HasWritten ys t
  written-grows xs ys (Terms.variable q k) g h = tt
  written-grows xs ys (Terms.number z) g h = tt
  written-grows xs ys (Terms.compound c ts) g h =
      let there = g h.0.0 h.0.1 in ((h.0.0, there.0, h.0.2, h.0.3 ∙ sym there.1), all-written-grows xs ys ts g h.1)

  pub all-written-grows : (xs ys : List Bytes) (ts : Terms) → Grows xs ys → AllWritten xs ts → AllWritten ys ts
  all-written-grows xs ys Terms.none g h = tt
  all-written-grows xs ys (Terms.more t ts) g h = (written-grows xs ys t g h.0, all-written-grows xs ys ts g h.1)

not_eq : (n m : ℕ) → (n ≡ m → ⊥) → nat_eq n m ≡ false
not_eq n m h = grind (arith, nat_tests)

-- and no such term has the name of a disjunction
pub unlifted : (names : List Bytes) (d : ℕ) (t : Term) → has (disjunction_name d) names ≡ true → HasWritten names t
    → has_name (place (disjunction_name d) names) t ≡ false
unlifted names d (Terms.variable q k) there h = refl
unlifted names d (Terms.number z) there h = refl
unlifted names d (Terms.compound c ts) there h =
    not_eq (place (disjunction_name d) names) c
    (λ e. no-disjunction h.0.0 d h.0.2 (one-name h.0.0 (disjunction_name d) names h.0.1 there (sym h.0.3 ∙ sym e)))
