-- The clauses of a predicate are those that a goal of it can be taken by.
use Rattle.std.proofs.Common.{ℕ, zero, suc, ◌+◌, ◌≡◌, ◌<◌, ◌&&◌, ◌||◌, Bool, true, false, cond, List, [], ◌∷◌, length, get_or, refl, sym, ap, ◌∙◌, arith, eqb}
use Rattle.std.proofs.Common.{ltb, leb}
use Rattle.std.proofs.lemmas.Bool.{ne_eqb, eq-eqb, lt-ltb, le-ltb}
use Rattle.std.proofs.lemmas.Bool.Decides.{nat_tests}
use Rattle.std.specs.List.{list_any}
use Rattle.and_model.specs.Terms.{Term, Terms, compound}
use Rattle.and_model.specs.Terms
use Rattle.and_model.specs.Programs.{Program, Clause, same_predicate, same_count, is_of}
use Rattle.and_model.specs.declared.numbers.ClauseNo.{ClauseNo}
use Rattle.and_model.specs.Terms.{width}
use Rattle.and_program.specs.Shown.{has_functor, clauses_with}
use Rattle.and_program.specs.declared.predicates.Predicate.{Predicate}
use Rattle.and_program.specs.Predicates.{predicate_in, is_key_of}
use Rattle.and_program.proofs.LoadedLemmas.{has_functor-key}

zero_suc : (a : ℕ) → false ≡ eqb 0 (suc a)
zero_suc a = grind (arith, nat_tests)

suc_zero : (a : ℕ) → false ≡ eqb (suc a) 0
suc_zero a = grind (arith, nat_tests)

suc_same : (a b : ℕ) → eqb a b ≡ eqb (suc a) (suc b)
suc_same a b = grind (arith, nat_tests)

turned : (a b : ℕ) → eqb a b ≡ eqb b a
turned a b = grind (arith, nat_tests)

same_width : (ts us : Terms) → same_count ts us ≡ eqb (width ts) (width us)
same_width Terms.none Terms.none = refl
same_width Terms.none (Terms.more u us) = zero_suc (width us)
same_width (Terms.more t ts) Terms.none = suc_zero (width ts)
same_width (Terms.more t ts) (Terms.more u us) = same_width ts us ∙ suc_same (width ts) (width us)

abbrev pub key : ℕ → Terms → Predicate
key c ts = record { name = record { 0 = c }; arity = width ts }

pub is_key_of-same : (c : ℕ) (ts : Terms) (h : Term) → is_key_of (predicate_in h) (key c ts) ≡ same_predicate (Terms.compound c ts) h
is_key_of-same c ts (Terms.variable q k) = refl
is_key_of-same c ts (Terms.number z) = refl
is_key_of-same c ts (Terms.compound d us) =
    ap (λ (b : Bool). b && eqb (width us) (width ts)) (turned d c) ∙ ap (λ (b : Bool). eqb c d && b) (turned (width us) (width ts) ∙ sym (same_width ts us))

abbrev has : ℕ → List ClauseNo → Bool
has k xs = list_any (λ m. eqb m.0 k) xs

-- numbers go up from s on
has-before : (c n s : ℕ) (cs : List Clause) (k : ℕ) → k < s → has k (clauses_with c n s cs) ≡ false
has-before c n s [] k lt = refl
has-before c n s (x ∷ cs) k lt =
    let one : ClauseNo = record { 0 = s } in
    let rest : List ClauseNo = clauses_with c n (suc s) cs in
    let later : has k rest ≡ false = has-before c n (suc s) cs k (omega arith) in
    let P : Bool → Type 0 = λ b. has k (cond b (one ∷ rest) rest) ≡ false in
    elim (has_functor c n x.head) as P [ true ↦ ap (λ (b : Bool). b || has k rest) (ne_eqb s k (λ e. omega arith)) ∙ later | false ↦ later ]

ltb-suc : (j l : ℕ) → ltb j l ≡ ltb (suc j) (suc l)
ltb-suc j l = grind (arith, nat_tests)

has-at : (c n s : ℕ) (cs : List Clause) (j : ℕ) (d : Clause) → has (s + j) (clauses_with c n s cs) ≡ ltb j (length cs) && has_functor c n (get_or cs j d).head
has-at c n s [] j d = ap (λ (b : Bool). b && has_functor c n d.head) (sym (le-ltb j 0 (omega arith)))
has-at c n s (x ∷ cs) zero d =
    let one : ClauseNo = record { 0 = s } in
    let rest : List ClauseNo = clauses_with c n (suc s) cs in
    let later : has (s + 0) rest ≡ false = has-before c n (suc s) cs (s + 0) (omega arith) in
    let here : eqb s (s + 0) ≡ true = eq-eqb s (s + 0) (omega arith) in
    let some : ltb 0 (suc (length cs)) ≡ true = lt-ltb 0 (suc (length cs)) (omega arith) in
    let P : Bool → Type 0 = λ b. has (s + 0) (cond b (one ∷ rest) rest) ≡ b in
    (elim (has_functor c n x.head) as P [ true ↦ ap (λ (b : Bool). b || has (s + 0) rest) here | false ↦ later ])
    ∙ sym (ap (λ (b : Bool). b && has_functor c n x.head) some)
has-at c n s (x ∷ cs) (suc j) d =
    let one : ClauseNo = record { 0 = s } in
    let rest : List ClauseNo = clauses_with c n (suc s) cs in
    let off : eqb s (s + suc j) ≡ false = ne_eqb s (s + suc j) (λ e. omega arith) in
    let moved : s + suc j ≡ suc s + j = omega arith in
    let P : Bool → Type 0 = λ b. has (s + suc j) (cond b (one ∷ rest) rest) ≡ has (s + suc j) rest in
    (elim (has_functor c n x.head) as P [ true ↦ ap (λ (b : Bool). b || has (s + suc j) rest) off | false ↦ refl ])
    ∙ ap (λ (k : ℕ). has k rest) moved
    ∙ has-at c n (suc s) cs j d
    ∙ ap (λ (b : Bool). b && has_functor c n (get_or cs j d).head) (ltb-suc j (length cs))

in_range : (j l : ℕ) → ltb j l ≡ (ltb 0 (suc j) && leb (suc j) l)
in_range j l = grind (arith, nat_tests)

named-same : (c n : ℕ) (ts : Terms) (h : Term) → width ts ≡ n → has_functor c n h ≡ same_predicate (compound c ts) h
named-same c n ts h e = ap (λ (m : ℕ). has_functor c m h) (sym e) ∙ sym (has_functor-key (key c ts) h) ∙ is_key_of-same c ts h

pub members : (P : Program) (c n k : ℕ) (ts : Terms) → width ts ≡ n → has k (clauses_with c n 1 P.clauses) ≡ is_of P (compound c ts) k
members P c n zero ts e = has-before c n 1 P.clauses 0 (omega arith)
members P c n (suc j) ts e =
    let h : Term = (get_or P.clauses j P.query).head in
    let one_more : suc j ≡ 1 + j = omega arith in
    ap (λ (k : ℕ). has k (clauses_with c n 1 P.clauses)) one_more
    ∙ has-at c n 1 P.clauses j P.query
    ∙ ap (λ (b : Bool). ltb j (length P.clauses) && b) (named-same c n ts h e)
    ∙ ap (λ (b : Bool). b && same_predicate (compound c ts) h) (in_range j (length P.clauses))
