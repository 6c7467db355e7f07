-- Written terms once all names and variables are known: each has the number of its place.
use Rattle.std.proofs.Common.{ℕ, suc, ◌≡◌, ◌+◌, ◌<◌, ◌||◌, Bool, true, false, not, cond, List, [], ◌∷◌, ◌++◌, length, codes, refl, ap, sym}
use Rattle.std.proofs.Common.{◌∙◌, arith, subst}
use Rattle.std.specs.Str.{bytes_eq}
use Rattle.std.proofs.lemmas.Slice.Eq.{bytes_eq-Decides}
use Rattle.and_model.specs.Lines.{Bytes}
use Rattle.and_model.specs.Terms.{Term, Terms, variable, number, compound, none, more}
use Rattle.and_syntax.specs.Written
use Rattle.and_syntax.specs.Written.{Written, Many, has, place, is_new, variable_number, including, named, named_all, met_after, met_after_all, term_in}
use Rattle.and_syntax.specs.Written.{terms_in}
use Rattle.and_syntax.proofs.Names.{Grows, grows-same, grows-trans, grows-push, grows-named_all, including-has}

abbrev mutual
  pub under : (names variables : List Bytes) → Written → Term
  under N M (Written.variable x) = variable [] (place x M)
  under N M (Written.integer z) = number z
  under N M (Written.compound c ts) = compound (place c N) (all_under N M ts)

  pub all_under : (names variables : List Bytes) → Many → Terms
  all_under N M Written.none = none
  all_under N M (Written.more t ts) = more (under N M t) (all_under N M ts)

-- no variable is `_`
abbrev mutual
  pub HasNames : Written → Type 0
  HasNames (Written.variable x) = bytes_eq x (codes "_") ≡ false
  HasNames (Written.integer z) = Unit {0}
  HasNames (Written.compound c ts) = AllHaveNames ts

  pub AllHaveNames : Many → Type 0
  AllHaveNames Written.none = Unit {0}
  AllHaveNames (Written.more t ts) = HasNames t × AllHaveNames ts

last_has : (x : Bytes) (xs : List Bytes) → has x (xs ++ x ∷ []) ≡ true
last_has x [] = ap (λ (b : Bool). b || false) ((bytes_eq-Decides x x).1 refl)
last_has x (y ∷ xs) = by (bytes_eq x y) (last_has x xs)
  where
    by : (b : Bool) → has x (xs ++ x ∷ []) ≡ true → b || has x (xs ++ x ∷ []) ≡ true
    by true e = refl
    by false e = e

last_place : (x : Bytes) (xs : List Bytes) → has x xs ≡ false → place x (xs ++ x ∷ []) ≡ length xs
last_place x [] h = ap (λ (b : Bool). cond (not b) (1 + place x []) 0) ((bytes_eq-Decides x x).1 refl)
last_place x (y ∷ xs) h = by (bytes_eq x y) h (last_place x xs)
  where
    by : (b : Bool) → b || has x xs ≡ false → (has x xs ≡ false → place x (xs ++ x ∷ []) ≡ length xs)
        → cond (not b) (1 + place x (xs ++ x ∷ [])) 0 ≡ suc (length xs)
    by true e k = absurd (cc)
    by false e k = omega (arith, k e)

grows_met-by : (b : Bool) (met : List Bytes) (x : Bytes) → Grows met (cond b (met ++ x ∷ []) met)
grows_met-by true met x = grows-push met (x ∷ [])
grows_met-by false met x = grows-same met

mutual
  pub grows_met : (met : List Bytes) (w : Written) → Grows met (met_after met w)
  grows_met met (Written.variable x) = grows_met-by (is_new x met) met x
  grows_met met (Written.integer z) = grows-same met
  grows_met met (Written.compound c ts) = grows_all_met met ts

  pub grows_all_met : (met : List Bytes) (ts : Many) → Grows met (met_after_all met ts)
  grows_all_met met Written.none = grows-same met
  grows_all_met met (Written.more t ts) =
      grows-trans met (met_after met t) (met_after_all (met_after met t) ts) (grows_met met t) (grows_all_met (met_after met t) ts)

-- a variable that occurs is met
pub variable_met : (x : Bytes) (met : List Bytes) → bytes_eq x (codes "_") ≡ false → has x (met_after met (Written.variable x)) ≡ true
variable_met x met b =
    ap (λ (c : Bool). has x (cond (c || not (has x met)) (met ++ x ∷ []) met)) b ∙ by (has x met) refl
  where
    by : (h : Bool) → has x met ≡ h → has x (cond (not h) (met ++ x ∷ []) met) ≡ true
    by true e = e
    by false e = last_has x met

variable_settled : (x : Bytes) (met M : List Bytes) → bytes_eq x (codes "_") ≡ false → Grows (met_after met (Written.variable x)) M
    → variable_number x met ≡ place x M
variable_settled x met M b g =
    let new : is_new x met ≡ not (has x met) = ap (λ (c : Bool). c || not (has x met)) b in
    ap (λ (n : Bool). cond n (length met) (place x met)) new
    ∙ by (has x met) refl (subst (λ (n : Bool). Grows (cond n (met ++ x ∷ []) met) M) new g)
  where
    by : (h : Bool) → has x met ≡ h → Grows (cond (not h) (met ++ x ∷ []) met) M → cond (not h) (length met) (place x met) ≡ place x M
    by true e k = sym (k x e).1
    by false e k = sym ((k x (last_has x met)).1 ∙ last_place x met e)

mutual
  -- A term under names that are then kept, and variables that are then met, is what it is under all.
  pub settled : (xs names N met M : List Bytes) (w : Written) → HasNames w → Grows (named xs w) names → Grows names N → Grows (met_after met w) M
      → term_in names met w ≡ under N M w
  settled xs names N met M (Written.variable x) b g h m = ap (λ (k : ℕ). variable [] k) (variable_settled x met M b m)
  settled xs names N met M (Written.integer z) b g h m = refl
  settled xs names N met M (Written.compound c ts) b g h m =
      let ys : List Bytes = including xs c in
      let there = grows-trans ys (named_all ys ts) names (grows-named_all ys ts) g c (including-has xs c) in
      ap (λ (k : ℕ). compound k (terms_in names met ts)) (sym (h c there.0).1)
      ∙ ap (compound (place c N)) (all_settled ys names N met M ts b g h m)

  pub all_settled : (xs names N met M : List Bytes) (ts : Many) → AllHaveNames ts → Grows (named_all xs ts) names → Grows names N
      → Grows (met_after_all met ts) M → terms_in names met ts ≡ all_under N M ts
  all_settled xs names N met M Written.none b g h m = refl
  all_settled xs names N met M (Written.more t ts) b g h m =
      let ys : List Bytes = named xs t in
      let after : List Bytes = met_after met t in
      ap (λ (u : Term). more u (terms_in names after ts))
      (settled xs names N met M t b.0 (grows-trans ys (named_all ys ts) names (grows-named_all ys ts) g) h
      (grows-trans after (met_after_all after ts) M (grows_all_met after ts) m))
      ∙ ap (more (under N M t)) (all_settled ys names N after M ts b.1 g h m)

-- what is before the end is there
pub place_has : (x : Bytes) (xs : List Bytes) → place x xs < length xs → has x xs ≡ true
place_has x [] lt = absurd (omega arith)
place_has x (y ∷ xs) lt = by (bytes_eq x y) lt (place_has x xs)
  where
    by : (b : Bool) → cond (not b) (1 + place x xs) 0 < suc (length xs) → (place x xs < length xs → has x xs ≡ true) → b || has x xs ≡ true
    by true e k = refl
    by false e k = k (omega arith)
