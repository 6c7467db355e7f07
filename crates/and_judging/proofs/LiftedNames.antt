-- The names of the predicates to which disjunctions are lifted.
use Rattle.std.proofs.Common.{ℕ, zero, suc, ◌+◌, ◌≡◌, ◌<◌, ◌≤◌, ◌||◌, Bool, true, false, not, cond, List, [], ◌∷◌, ◌++◌, length, refl, ap, sym, ◌∙◌}
use Rattle.std.proofs.Common.{arith, subst}
use Rattle.std.specs.Str.{bytes_eq}
use Rattle.std.proofs.lemmas.List.{length-append, map_push}
use Rattle.and_model.specs.Lines.{Bytes}
use Rattle.and_model.specs.declared.numbers.NameNo.{NameNo}
use Rattle.and_syntax.specs.Written.{has, place, including}
use Rattle.and_syntax.specs.Tables.{disjunction_name, with_disjunctions}
use Rattle.and_drafts.proofs.Naming.{place-le}
use Rattle.and_judging.specs.Places.{places_from, places_in}
use Rattle.std.proofs.lemmas.Slice.Eq.{bytes_eq-Decides}

has-more : (x : Bytes) (names : List Bytes) (c : Bytes) → has x names ≡ true → has x (names ++ c ∷ []) ≡ true
has-more x [] c e = absurd cc
has-more x (y ∷ names) c e = by (bytes_eq x y) (λ h. has-more x names c h) e
  where
    by : (b : Bool) → (has x names ≡ true → has x (names ++ c ∷ []) ≡ true) → b || has x names ≡ true → b || has x (names ++ c ∷ []) ≡ true
    by true k h = refl
    by false k h = k h

place-more : (x : Bytes) (names : List Bytes) (c : Bytes) → has x names ≡ true → place x (names ++ c ∷ []) ≡ place x names
place-more x [] c e = absurd cc
place-more x (y ∷ names) c e = by (bytes_eq x y) (λ h. place-more x names c h) e
  where
    by : (b : Bool) → (has x names ≡ true → place x (names ++ c ∷ []) ≡ place x names) → b || has x names ≡ true
        → cond (not b) (1 + place x (names ++ c ∷ [])) 0 ≡ cond (not b) (1 + place x names) 0
    by true k h = refl
    by false k h = ap (λ n. 1 + n) (k h)

-- names stay where they are as one more is numbered
pub has-including : (x : Bytes) (names : List Bytes) (c : Bytes) → has x names ≡ true → has x (including names c) ≡ true
has-including x names c e = by (has c names)
  where
    by : (b : Bool) → has x (cond b names (names ++ c ∷ [])) ≡ true
    by true = e
    by false = has-more x names c e

pub place-including : (x : Bytes) (names : List Bytes) (c : Bytes) → has x names ≡ true → place x (including names c) ≡ place x names
place-including x names c e = by (has c names)
  where
    by : (b : Bool) → place x (cond b names (names ++ c ∷ [])) ≡ place x names
    by true = refl
    by false = place-more x names c e

has-last : (x : Bytes) (names : List Bytes) → has x (names ++ x ∷ []) ≡ true
has-last x [] = ap (λ b. b || false) ((bytes_eq-Decides x x).1 refl)
has-last x (y ∷ names) = by (bytes_eq x y) (has-last x names)
  where
    by : (b : Bool) → has x (names ++ x ∷ []) ≡ true → b || has x (names ++ x ∷ []) ≡ true
    by true h = refl
    by false h = h

pub has-included : (names : List Bytes) (c : Bytes) → has c (including names c) ≡ true
has-included names c = by (has c names) refl
  where
    by : (b : Bool) → has c names ≡ b → has c (cond b names (names ++ c ∷ [])) ≡ true
    by true e = e
    by false e = has-last c names

-- the names of n disjunctions from d on are there
abbrev pub AreThere : List Bytes → (d n : ℕ) → Type 0
AreThere names d zero = Unit {0}
AreThere names d (suc n) = (has (disjunction_name d) names ≡ true) × AreThere names (suc d) n

there-including : (names : List Bytes) (c : Bytes) (d n : ℕ) → AreThere names d n → AreThere (including names c) d n
there-including names c d zero a = tt
there-including names c d (suc n) a = (has-including (disjunction_name d) names c a.0, there-including names c (suc d) n a.1)

there-last : (names : List Bytes) (d n : ℕ) → AreThere names d n → has (disjunction_name (d + n)) names ≡ true → AreThere names d (suc n)
there-last names d zero a h = let z : d + 0 ≡ d = omega arith in (subst (λ k. has (disjunction_name k) names ≡ true) z h, tt)
there-last names d (suc n) a h =
    let z : d + suc n ≡ suc d + n = omega arith in (a.0, there-last names (suc d) n a.1 (subst (λ k. has (disjunction_name k) names ≡ true) z h))

places-including : (names : List Bytes) (c : Bytes) (d n : ℕ) → AreThere names d n → places_from (including names c) d n ≡ places_from names d n
places-including names c d zero a = refl
places-including names c d (suc n) a =
    ap (λ k. k ∷ places_from (including names c) (suc d) n) (place-including (disjunction_name d) names c a.0)
    ∙ ap (λ ks. place (disjunction_name d) names ∷ ks) (places-including names c (suc d) n a.1)

places-last : (names : List Bytes) (d n : ℕ) → places_from names d (suc n) ≡ places_from names d n ++ place (disjunction_name (d + n)) names ∷ []
places-last names d zero = let z : d ≡ d + 0 = omega arith in ap (λ k. place (disjunction_name k) names ∷ []) z
places-last names d (suc n) =
    let z : suc d + n ≡ d + suc n = omega arith in
    ap (λ ks. place (disjunction_name d) names ∷ ks) (places-last names (suc d) n
    ∙ ap (λ k. places_from names (suc d) n ++ place (disjunction_name k) names ∷ []) z)

disjunctions-last : (d n : ℕ) (names : List Bytes) → with_disjunctions d (suc n) names ≡ including (with_disjunctions d n names) (disjunction_name (d + n))
disjunctions-last d zero names = let z : d ≡ d + 0 = omega arith in ap (λ k. including names (disjunction_name k)) z
disjunctions-last d (suc n) names =
    let z : suc d + n ≡ d + suc n = omega arith in
    disjunctions-last (suc d) n (including names (disjunction_name d))
    ∙ ap (λ k. including (with_disjunctions (suc d) n (including names (disjunction_name d))) (disjunction_name k)) z

-- What was numbered of the disjunctions from d on.
pub record Numbers (d n : ℕ) (first names : List Bytes) (ns : List NameNo) : Type 0 where
  pub names_are : names ≡ with_disjunctions d n first
  pub there : AreThere names d n
  pub places : places_in ns ≡ places_from names d n

pub none_numbered : (d : ℕ) (first : List Bytes) (ns : List NameNo) → ns ≡ [] → Numbers d 0 first first ns
none_numbered d first ns e = record { names_are = refl; there = tt; places = ap places_in e }

-- one disjunction more
pub next_numbered : (d n : ℕ) (first old new : List Bytes) (ns ms : List NameNo) (k : NameNo) → Numbers d n first old ns
    → new ≡ including old (disjunction_name (d + n))
    → k.0 ≡ place (disjunction_name (d + n)) new → ms ≡ ns ++ k ∷ [] → Numbers d (n + 1) first new ms
next_numbered d n first old new ns ms k h e is pushed =
    let c : Bytes = disjunction_name (d + n) in
    let P : List Bytes → Type 0 = λ xs. AreThere xs d (suc n) in
    let z : suc n ≡ n + 1 = omega arith in
    let Q : ℕ → Type 0 = λ m. Numbers d m first new ms in
    subst Q z (record {
      names_are = e ∙ ap (λ xs. including xs c) h.names_are ∙ sym (disjunctions-last d n first);
      there = subst P (sym e) (there-last (including old c) d n (there-including old c d n h.there) (has-included old c));
      places = ap places_in pushed ∙ map_push (λ (m : NameNo). m.0) ns k ∙ ap (λ ks. ks ++ k.0 ∷ []) (h.places ∙ sym (places-including old c d n h.there))
          ∙ ap (λ xs. places_from xs d n ++ k.0 ∷ []) (sym e) ∙ ap (λ j. places_from new d n ++ j ∷ []) is ∙ sym (places-last new d n);
    })

including-le : (names : List Bytes) (c : Bytes) → length (including names c) ≤ length names + 1
including-le names c = by (has c names)
  where
    by : (b : Bool) → length (cond b names (names ++ c ∷ [])) ≤ length names + 1
    by true = omega arith
    by false = omega (arith, length-append names (c ∷ []))

pub disjunctions-le : (d n : ℕ) (names : List Bytes) → length (with_disjunctions d n names) ≤ length names + n
disjunctions-le d zero names = omega arith
disjunctions-le d (suc n) names = omega (arith, disjunctions-le (suc d) n (including names (disjunction_name d)), including-le names (disjunction_name d))

-- all of them
pub all_numbered : (d n m : ℕ) (first names : List Bytes) (ns : List NameNo) → n ≤ m → m ≤ n → Numbers d n first names ns → Numbers d m first names ns
all_numbered d n m first names ns le ge h = let e : n ≡ m = omega arith in subst (λ (k : ℕ). Numbers d k first names ns) e h

-- the number of the next one is small where names are few
pub place_few : (d n m : ℕ) (first old new : List Bytes) (ns : List NameNo) (x c : Bytes) → Numbers d n first old ns → new ≡ including old c
    → n < m → length first + m < 4294967296 → place x new < 4294967296
place_few d n m first old new ns x c h e lt few =
    let all : length old ≤ length first + n = omega (arith, ap length h.names_are, disjunctions-le d n first) in
    omega (arith, place-le x new, ap length e, including-le old c)
