-- A verdict on some clauses, and on one more.
use Rattle.std.proofs.Common.{ℕ, suc, ◌+◌, ◌≡◌, ◌<◌, ◌≤◌, ◌⊎◌, ◌↔◌, inl, inr, ⊎_elim, length, refl, sym, ap, ◌∙◌, arith, subst, Bool}
use Rattle.std.proofs.Common.{true, ◌||◌}
use Rattle.std.specs.Prelude.{nat_eq, ltb, ◌&&◌}
use Rattle.std.proofs.lemmas.Bool.{ne_eqb, cond-false, and_parts, ltb-true}
use Rattle.std.proofs.lemmas.Bool.Decides.{nat_tests}
use Rattle.and_model.specs.declared.numbers.ClauseNo.{ClauseNo}
use Rattle.and_model.specs.Programs.{Program, clause_at}
use Rattle.and_modes.specs.Modes.{Assignment, Wait, place_waited, query_last, IsEarlier, IsSafe, WaitsFirst}
use Rattle.and_modes.specs.Waiting.{told, IsVerdictAmong, IsTold}
use Rattle.and_modes.specs.declared.verdicts.Verdict.{Verdict}
use Rattle.and_modes.specs.declared.verdicts.Verdict.TheVariants.{Safe, Waits}

-- a clause of which something is told is there
pub told_there : (P : Program) (m : Assignment) (seen : ℕ → Bool) (found : Verdict) → IsVerdictAmong P m seen found → IsTold P found
told_there P m seen Safe is = tt
told_there P m seen (Waits c i k) is = is.1.0

-- by line, clause, item and place
abbrev pub ComesFirst : (l q i p l' q' i' p' : ℕ) → Type 0
ComesFirst l q i p l' q' i' p' = (l < l') ⊎ ((l ≡ l') × (q < q')) ⊎ ((l ≡ l') × (q ≡ q') × (i < i'))
    ⊎ ((l ≡ l') × (q ≡ q') × (i ≡ i') × (p < p'))

not_both_first : (l q i p l' q' i' p' : ℕ) → ComesFirst l q i p l' q' i' p' → ComesFirst l' q' i' p' l q i p → ⊥
not_both_first l q i p l' q' i' p' a b = grind arith

comes_first : (P : Program) (w v : Wait) → IsEarlier P w v
    → ComesFirst (clause_at P w.clause).line (query_last P w.clause) w.item (place_waited P w) (clause_at P v.clause).line
    (query_last P v.clause) v.item (place_waited P v)
comes_first P w v (inl lt) = inl lt
comes_first P w v (inr (inl same)) = inr (inl same)
comes_first P w v (inr (inr (inl same))) = inr (inr (inl (ap (λ (c : ℕ). (clause_at P c).line) same.0, ap (query_last P) same.0, same.1)))
comes_first P w v (inr (inr (inr same))) =
    inr (inr (inr (ap (λ (c : ℕ). (clause_at P c).line) same.0, ap (query_last P) same.0, same.1, same.2)))

one_first : (P : Program) (m : Assignment) (w v : Wait) → WaitsFirst P m w → WaitsFirst P m v → w ≡ v
one_first P m w v first other =
    ⊎_elim
    (λ (same : v ≡ w). sym same)
    (λ (earlier : IsEarlier P w v).
    ⊎_elim
    (λ (same : w ≡ v). same)
    (λ (later : IsEarlier P v w).
    absurd (not_both_first (clause_at P w.clause).line (query_last P w.clause) w.item (place_waited P w) (clause_at P v.clause).line
    (query_last P v.clause) v.item (place_waited P v)
    (comes_first P w v earlier) (comes_first P v w later)))
    (other.1 w first.0))
    (first.1 v other.0)

-- Where each clause was seen, the verdict is that of the program.
pub safe_verdict : (P : Program) (m : Assignment) (seen : ℕ → Bool) (found : Verdict) → ((c : ℕ) → c ≤ length P.clauses → seen c ≡ true)
    → IsVerdictAmong P m seen found
    → found ≡ Safe ↔ IsSafe P m
safe_verdict P m seen Safe all is = (λ e. λ w waits. is w (all w.clause waits.0) waits, λ safe. refl)
safe_verdict P m seen (Waits c i k) all is =
    (λ e. absurd (cc), λ safe. absurd (safe (record { clause = c.0; item = i; variable = k }) is.1))

pub waits_verdict : (P : Program) (m : Assignment) (seen : ℕ → Bool) (found : Verdict) → ((c : ℕ) → c ≤ length P.clauses → seen c ≡ true)
    → IsVerdictAmong P m seen found
    → (w : Wait) → found ≡ told w ↔ WaitsFirst P m w
waits_verdict P m seen Safe all is w = (λ e. absurd (cc), λ first. absurd (is w (all w.clause first.0.0) first.0))
waits_verdict P m seen (Waits c i k) all is w =
    let here : Wait = record { clause = c.0; item = i; variable = k } in
    let first : WaitsFirst P m here = (is.1, λ v waits. is.2 v (all v.clause waits.0) waits) in (
      λ e.
          let is_clause : c ≡ record { 0 = w.clause } = cc in
          let is_item : i ≡ w.item = cc in
          let is_variable : k ≡ w.variable = cc in
          let at : ℕ → ℕ → ℕ → Wait = λ d j n. record { clause = d; item = j; variable = n } in
          let same : here ≡ w =
          ap (λ (d : ClauseNo). at d.0 i k) is_clause ∙ ap (λ (j : ℕ). at w.clause j k) is_item
          ∙ ap (λ (n : ℕ). at w.clause w.item n) is_variable in
          subst (λ (v : Wait). WaitsFirst P m v) same first,
      λ other. ap told (one_first P m here w first other),
    )

-- the clauses from 1 on, of which number n is the next
abbrev pub below : ℕ → ℕ → Bool
below n = λ c. ltb 0 c && ltb c n

pub none_seen : (P : Program) (m : Assignment) → IsVerdictAmong P m (below 1) Safe
none_seen P m = λ v seen w.
    let both = and_parts (ltb 0 v.clause) (ltb v.clause 1) seen in
    let low = ltb-true 0 v.clause both.0 in
    let high = ltb-true v.clause 1 both.1 in
    omega arith

same_seen : (n c : ℕ) → 1 ≤ n → (below n c || nat_eq c n) ≡ below (n + 1) c
same_seen n c some = grind (arith, nat_tests)

pub one_more_seen : (P : Program) (m : Assignment) (n : ℕ) (found : Verdict) → 1 ≤ n
    → IsVerdictAmong P m (λ c. below n c || nat_eq c n) found → IsVerdictAmong P m (below (n + 1)) found
one_more_seen P m n found some is =
    let same : (λ c. below n c || nat_eq c n) ≡ below (n + 1) = λ i c. same_seen n c some i in
    subst (λ (seen : ℕ → Bool). IsVerdictAmong P m seen found) same is

last_of : (P : Program) (n : ℕ) → 1 ≤ n → query_last P n ≡ n
last_of P n some = let other : (n ≡ 0) → ⊥ = λ e. omega arith in cond-false (nat_eq n 0) (suc (length P.clauses)) n (ne_eqb n 0 other)

-- the clauses in order, and the query after them
pub clauses_before : (P : Program) (n : ℕ) → 1 ≤ n → (c : ℕ) → below n c ≡ true → query_last P c < query_last P n
clauses_before P n some c seen =
    let both = and_parts (ltb 0 c) (ltb c n) seen in
    let low = ltb-true 0 c both.0 in
    let high = ltb-true c n both.1 in
    let last = last_of P c low in
    let next = last_of P n some in
    omega arith

pub query_behind : (P : Program) (n c : ℕ) → n ≤ suc (length P.clauses) → below n c ≡ true → query_last P c < query_last P 0
query_behind P n c le seen =
    let both = and_parts (ltb 0 c) (ltb c n) seen in
    let low = ltb-true 0 c both.0 in
    let high = ltb-true c n both.1 in
    let last = last_of P c low in
    omega arith

pub all_seen : (P : Program) (n : ℕ) → suc (length P.clauses) ≤ n → (c : ℕ) → c ≤ length P.clauses → (below n c || nat_eq c 0) ≡ true
all_seen P n le c there = grind (arith, nat_tests)
