-- The clauses of a lifted program name their own variables alone, if those of the program do.
use Rattle.std.proofs.Common.{ℕ, zero, suc, ◌≡◌, ◌+◌, ◌<◌, ◌≤◌, ◌||◌, ◌&&◌, Bool, true, false, cond, List, [], ◌∷◌, ◌++◌, length, get_or}
use Rattle.std.proofs.Common.{refl, ap, ◌∙◌, arith}
use Rattle.std.specs.Prelude.{All, flat_map, nat_eq}
use Rattle.std.proofs.lemmas.Bool.Decides.{nat_tests}
use Rattle.std.proofs.lemmas.List.Elements.{All-nil, All-cons, All-head, All-tail, All-append}
use Rattle.and_model.specs.Terms.{Path, Term, Terms, variable, number, compound, none, more, variables_of, variables_in, apply_all}
use Rattle.and_model.specs.Programs.{call, equal, arithmetic, fail, is, compare, Clause}
use Rattle.and_model.specs.OwnVariables.{terms_of_item, IsOwn, AreOwn, HasOwnVariables, HaveOwnVariables}
use Rattle.and_model.specs.Lines.{same_path, same_variable, has, first_seen, place_of}
use Rattle.and_model.proofs.OwnVariables.{All-front, All-back}
use Rattle.and_source.specs.Source.{SourceItems, no_items, plain, either, Alternatives, no_alternatives, alternative, SourceClause, SourceProgram}
use Rattle.and_source.specs.Source.{variables_of_items, variables_of_alternatives, distinct_variables, HasOwnSourceVariables}
use Rattle.and_source.specs.Lifted.{Numbering, renumbered, as_terms, lifted_call, lifted_items, lifted_clause, numbered_variables}
use Rattle.and_source.specs.Lifted.{numbering_of, lifted_alternative, clauses_of_items, clauses_of_alternatives, clauses_of, lift}

abbrev Variable : Type 0
Variable = Path × ℕ

-- A variable that occurs is among those that were seen,
same_path-self : (q : Path) → same_path q q ≡ true
same_path-self [] = refl
same_path-self (i ∷ q) = let e : nat_eq i i ≡ true = grind (arith, nat_tests) in ap (λ b. b && same_path q q) e ∙ same_path-self q

same_variable-self : (v : Variable) → same_variable v v ≡ true
same_variable-self v =
    let e : nat_eq v.1 v.1 ≡ true = grind (arith, nat_tests) in
    ap (λ b. b && nat_eq v.1 v.1) (same_path-self v.0) ∙ e

or_right : (b c : Bool) → c ≡ true → b || c ≡ true
or_right true c e = refl
or_right false c e = e

or_left : (b c : Bool) → b ≡ true → b || c ≡ true
or_left b c e = ap (λ a. a || c) e

has-more : (v : Variable) (xs ys : List Variable) → has v xs ≡ true → has v (xs ++ ys) ≡ true
has-more v [] ys e = absurd cc
has-more v (x ∷ xs) ys e = by (same_variable v x) e (has-more v xs ys)
  where
    by : (b : Bool) → b || has v xs ≡ true → (has v xs ≡ true → has v (xs ++ ys) ≡ true) → b || has v (xs ++ ys) ≡ true
    by true h k = refl
    by false h k = k h

has-last : (v : Variable) (xs : List Variable) → has v (xs ++ v ∷ []) ≡ true
has-last v [] = or_left (same_variable v v) false (same_variable-self v)
has-last v (x ∷ xs) = or_right (same_variable v x) (has v (xs ++ v ∷ [])) (has-last v xs)

-- the variables seen with one more
abbrev seen_with : List Variable → Variable → List Variable
seen_with seen v = cond (has v seen) seen (seen ++ v ∷ [])

kept : (v w : Variable) (seen : List Variable) → has v seen ≡ true → has v (seen_with seen w) ≡ true
kept v w seen e = by (has w seen)
  where
    by : (b : Bool) → has v (cond b seen (seen ++ w ∷ [])) ≡ true
    by true = e
    by false = has-more v seen (w ∷ []) e

here : (v : Variable) (seen : List Variable) → has v (seen_with seen v) ≡ true
here v seen = by (has v seen) refl
  where
    by : (b : Bool) → has v seen ≡ b → has v (cond b seen (seen ++ v ∷ [])) ≡ true
    by true e = e
    by false e = has-last v seen

still : (v : Variable) (seen vs : List Variable) → has v seen ≡ true → has v (first_seen seen vs) ≡ true
still v seen [] e = e
still v seen (w ∷ vs) e = still v (seen_with seen w) vs (kept v w seen e)

pub all_seen : (seen vs : List Variable) → All (λ v. has v (first_seen seen vs) ≡ true) vs
all_seen seen [] = All-nil (λ v. has v seen ≡ true)
all_seen seen (v ∷ vs) =
    let P : Variable → Type 0 = λ w. has w (first_seen (seen_with seen v) vs) ≡ true in
    All-cons P v vs (still v (seen_with seen v) vs (here v seen)) (all_seen (seen_with seen v) vs)

-- and what holds of those that were seen and of those that occur holds of all that are seen then.
pub of_seen : (P : Variable → Type 0) (seen vs : List Variable) → All P seen → All P vs → All P (first_seen seen vs)
of_seen P seen [] a b = a
of_seen P seen (v ∷ vs) a b = of_seen P (seen_with seen v) vs (by (has v seen)) (All-tail P v vs b)
  where
    by : (b : Bool) → All P (cond b seen (seen ++ v ∷ []))
    by true = a
    by false = All-append P seen (v ∷ []) a (All-cons P v [] (All-head P v vs b) (All-nil P))

pub place-below : (v : Variable) (vs : List Variable) → has v vs ≡ true → place_of v vs < length vs
place-below v [] e = absurd cc
place-below v (w ∷ vs) e = by (same_variable v w) e (place-below v vs)
  where
    by : (b : Bool) → b || has v vs ≡ true → (has v vs ≡ true → place_of v vs < length vs) → cond b 0 (suc (place_of v vs)) < suc (length vs)
    by true h k = omega arith
    by false h k = omega (arith, k h)

-- Under new numbers that are below n the terms are a clause's of n variables.
module _ (new : Numbering) (n : ℕ) (P : Variable → Type 0) (small : (v : Variable) → P v → new v.0 v.1 < n) where
  mutual
    term_own : (t : Term) → All P (variables_of t) → AreOwn n (renumbered new t)
    term_own (variable q k) a =
        All-cons (IsOwn n) ([], new q k) [] (refl, small (q, k) (All-head P (q, k) [] a)) (All-nil (IsOwn n))
    term_own (number z) a = All-nil (IsOwn n)
    term_own (compound c ts) a = terms_own ts a

    terms_own : (ts : Terms) → All P (variables_in ts) → All (IsOwn n) (variables_in (apply_all (λ q k. variable [] (new q k)) ts))
    terms_own none a = All-nil (IsOwn n)
    terms_own (more t ts) a =
        All-append (IsOwn n) (variables_of (renumbered new t)) (variables_in (apply_all (λ q k. variable [] (new q k)) ts))
        (term_own t (All-front P (variables_of t) (variables_in ts) a)) (terms_own ts (All-back P (variables_of t) (variables_in ts) a))

  one : (t : Term) → All P (variables_of t) → All (AreOwn n) (renumbered new t ∷ [])
  one t a = All-cons (AreOwn n) (renumbered new t) [] (term_own t a) (All-nil (AreOwn n))

  two : (t u : Term) → All P (variables_in (more t (more u none))) → All (AreOwn n) (renumbered new t ∷ renumbered new u ∷ [])
  two t u a =
      let others = All-back P (variables_of t) (variables_in (more u none)) a in
      All-cons (AreOwn n) (renumbered new t) (renumbered new u ∷ []) (term_own t (All-front P (variables_of t) (variables_in (more u none)) a))
      (one u (All-front P (variables_of u) [] others))

  as_terms-all : (vs : List Variable) → All P vs → All P (variables_in (as_terms vs))
  as_terms-all [] a = All-nil P
  as_terms-all (v ∷ vs) a =
      All-cons P v (variables_in (as_terms vs)) (All-head P v vs a) (as_terms-all vs (All-tail P v vs a))

  items_own : (items : SourceItems) → All P (variables_of_items items) → All (AreOwn n) (flat_map terms_of_item (lifted_items new items))
  items_own no_items a = All-nil (AreOwn n)
  items_own (plain (call g) items) a =
      All-append (AreOwn n) (renumbered new g ∷ []) (flat_map terms_of_item (lifted_items new items))
      (one g (All-front P (variables_of g) (variables_of_items items) a)) (items_own items (All-back P (variables_of g) (variables_of_items items) a))
  items_own (plain (equal l r) items) a =
      let vs : List Variable = variables_in (more l (more r none)) in
      All-append (AreOwn n) (renumbered new l ∷ renumbered new r ∷ []) (flat_map terms_of_item (lifted_items new items))
      (two l r (All-front P vs (variables_of_items items) a)) (items_own items (All-back P vs (variables_of_items items) a))
  items_own (plain (arithmetic (is l r)) items) a =
      let vs : List Variable = variables_in (more l (more r none)) in
      All-append (AreOwn n) (renumbered new l ∷ renumbered new r ∷ []) (flat_map terms_of_item (lifted_items new items))
      (two l r (All-front P vs (variables_of_items items) a)) (items_own items (All-back P vs (variables_of_items items) a))
  items_own (plain (arithmetic (compare m l r)) items) a =
      let vs : List Variable = variables_in (more l (more r none)) in
      All-append (AreOwn n) (renumbered new l ∷ renumbered new r ∷ []) (flat_map terms_of_item (lifted_items new items))
      (two l r (All-front P vs (variables_of_items items) a)) (items_own items (All-back P vs (variables_of_items items) a))
  items_own (plain fail items) a = items_own items a
  items_own (either name alts items) a =
      let vs : List Variable = variables_of_alternatives alts in
      let own = as_terms-all (distinct_variables alts) (of_seen P [] vs (All-nil P) (All-front P vs (variables_of_items items) a)) in
      All-append (AreOwn n) (renumbered new (lifted_call name alts) ∷ []) (flat_map terms_of_item (lifted_items new items))
      (one (lifted_call name alts) own) (items_own items (All-back P vs (variables_of_items items) a))

-- the variables of the head of an alternative
numbered_own : (k : ℕ) (vs : List Variable) (n : ℕ) → k + length vs ≤ n → All (IsOwn n) (variables_in (numbered_variables k vs))
numbered_own k [] n le = All-nil (IsOwn n)
numbered_own k (v ∷ vs) n le =
    All-cons (IsOwn n) ([], k) (variables_in (numbered_variables (suc k) vs)) (refl, omega arith) (numbered_own (suc k) vs n (omega arith))

alternative_own : (k : SourceClause) (name : ℕ) (alts : Alternatives) (items : SourceItems)
    → All (λ v. has v (distinct_variables alts) ≡ true) (variables_of_items items) → HasOwnVariables (lifted_alternative k name alts items)
alternative_own k name alts items a =
    let vs : List Variable = distinct_variables alts in
    let n : ℕ = length vs in
    All-cons (AreOwn n) (compound name (numbered_variables 0 vs)) (flat_map terms_of_item (lifted_items (numbering_of alts) items))
    (numbered_own 0 vs n (omega arith))
    (items_own (numbering_of alts) n (λ v. has v vs ≡ true) (λ v h. place-below v vs h) items a)

-- each clause of a list
abbrev pub Each : List Clause → Type 0
Each [] = Unit {0}
Each (k ∷ ks) = HasOwnVariables k × Each ks

both : (ks js : List Clause) → Each ks → Each js → Each (ks ++ js)
both [] js a b = b
both (k ∷ ks) js a b = (a.0, both ks js a.1 b)

mutual
  of_items : (k : SourceClause) (items : SourceItems) → Each (clauses_of_items k items)
  of_items k no_items = tt
  of_items k (plain i items) = of_items k items
  of_items k (either name alts items) =
      both (clauses_of_alternatives k name alts alts) (clauses_of_items k items)
      (of_alternatives k name alts alts (all_seen [] (variables_of_alternatives alts))) (of_items k items)

  of_alternatives : (k : SourceClause) (name : ℕ) (alts others : Alternatives)
      → All (λ v. has v (distinct_variables alts) ≡ true) (variables_of_alternatives others) → Each (clauses_of_alternatives k name alts others)
  of_alternatives k name alts no_alternatives a = tt
  of_alternatives k name alts (alternative c items others) a =
      let P : Variable → Type 0 = λ v. has v (distinct_variables alts) ≡ true in (
        alternative_own k name alts items (All-front P (variables_of_items items) (variables_of_alternatives others) a),
        both (clauses_of_items k items) (clauses_of_alternatives k name alts others) (of_items k items)
            (of_alternatives k name alts others (All-back P (variables_of_items items) (variables_of_alternatives others) a)),
      )

pub clause_own : (k : SourceClause) → HasOwnSourceVariables k → HasOwnVariables (lifted_clause k)
clause_own k own =
    let n : ℕ = k.variables in
    All-cons (AreOwn n) k.head (flat_map terms_of_item (lifted_items (λ q v. v) k.body)) own.0
    (items_own (λ q v. v) n (IsOwn n) (λ v h. h.1) k.body own.1)

abbrev pub AllOwn : List SourceClause → Type 0
AllOwn [] = Unit {0}
AllOwn (k ∷ ks) = HasOwnSourceVariables k × AllOwn ks

pub of_clauses : (ks : List SourceClause) → AllOwn ks → Each (clauses_of ks)
of_clauses [] own = tt
of_clauses (k ∷ ks) own = (clause_own k own.0, both (clauses_of_items k k.body) (clauses_of ks) (of_items k k.body) (of_clauses ks own.1))

of_nth : (ks : List Clause) (q : Clause) (c : ℕ) → Each ks → HasOwnVariables q → HasOwnVariables (get_or ks c q)
of_nth [] q c a h = h
of_nth (k ∷ ks) q zero a h = a.0
of_nth (k ∷ ks) q (suc c) a h = of_nth ks q c a.1 h

-- The whole program.
pub lifted_own : (P : SourceProgram) → AllOwn P.earlier → HasOwnSourceVariables P.query → AllOwn P.later
    → HaveOwnVariables (lift P)
lifted_own P earlier query later c =
    let q = clause_own P.query query in
    let inner = both (clauses_of_items P.query P.query.body) (clauses_of P.later) (of_items P.query P.query.body) (of_clauses P.later later) in
    let all : Each (lift P).clauses =
    flat (clauses_of P.earlier) (clauses_of_items P.query P.query.body) (clauses_of P.later) (of_clauses P.earlier earlier) (of_items P.query P.query.body)
    (of_clauses P.later later) in
    of_nth (lifted_clause P.query ∷ (lift P).clauses) (lifted_clause P.query) c (q, all) q
  where
    flat : (xs ys zs : List Clause) → Each xs → Each ys → Each zs → Each (xs ++ ys ++ zs)
    flat xs ys zs a b d = both (xs ++ ys) zs (both xs ys a b) d
