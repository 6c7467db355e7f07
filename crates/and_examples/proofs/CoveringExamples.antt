-- Covering forks, tried on p(1). p(2). ?- p(X).
use Rattle.std.proofs.Common.{ℕ, zero, suc, ◌≡◌, ◌&&◌, false, [], ◌∷◌, refl, sym, ap, ◌∙◌, true≢false, inl, pos, arith}
use Rattle.std.specs.Prelude.{leb, ltb}
use Rattle.and_model.specs.Terms.{variable, number}
use Rattle.and_model.specs.Programs.{clause_weight, Of}
use Rattle.and_model.specs.Closure.{Closes}
use Rattle.and_model.specs.Trees.{QueryTree, query_agenda, blank, done, left, by, reduce, equations, IsWhole, HasOutcome, code}
use Rattle.and_histories.specs.PlainTree.{fork}
use Rattle.and_histories.specs.Covering.{HasOutcomeWithin, IsCovering, keys_begun}
use Rattle.and_model.proofs.Tested.{second_true}
use Rattle.and_laws.proofs.Closing.{closing_keeps, closes_anyhow}
use Rattle.and_examples.specs.CoveringExamples.{p, P, one_asked}

-- A fork of the query by both clauses is covering: each code with an outcome is one of them.
one_of_two : (t : QueryTree P) → IsWhole t → keys_begun (code t) ((1 ∷ []) ∷ (2 ∷ []) ∷ []) ≡ 1
one_of_two (left done) whole = elim whole [ ]
one_of_two (by zero h t) whole = absurd (true≢false (sym h))
one_of_two (by (suc zero) h done) whole = refl
one_of_two (by (suc (suc zero)) h done) whole = refl
one_of_two (by (suc (suc (suc c))) h t) whole = absurd (true≢false (sym (second_true (ltb 0 (suc (suc (suc c))) && leb (suc (suc (suc c))) 2) false h)))

pub both_cover : (limit : ℕ) → IsCovering P limit (fork 0 [] [] (1 ∷ 2 ∷ []))
both_cover limit cs (t, has, below, is) begins = ap (λ cs. keys_begun cs ((1 ∷ []) ∷ (2 ∷ []) ∷ [])) (sym is) ∙ one_of_two t has.2

-- A fork by the first alone is not: the second has an outcome too.
abbrev second : QueryTree P
second = reduce (blank (query_agenda P)) (inl tt) 2 refl

second_has_outcome : HasOutcomeWithin P 10 (2 ∷ [])
unfolding clause_weight
second_has_outcome = (
  second,
  (
    (p (variable [] 0), p (number (pos 2))) ∷ [],
    [],
    tt,
    Closes.waiting ((p (variable [] 0), p (number (pos 2))) ∷ []) [] tt,
    ((λ q k. number (pos 2)), (refl, tt)),
  ),
  (omega arith),
  refl,
)

pub first_alone : IsCovering P 10 (fork 0 [] [] (1 ∷ [])) → ⊥
first_alone covers = let e = covers (2 ∷ []) second_has_outcome (2 ∷ [], refl) in cc

-- Neither is one that has a clause twice.
pub second_twice : IsCovering P 10 (fork 0 [] [] (1 ∷ 2 ∷ 2 ∷ [])) → ⊥
second_twice covers = let e = covers (2 ∷ []) second_has_outcome (2 ∷ [], refl) in cc

-- ---- p(1). p(2). ?- p(1). The second clause is no candidate, and its code has no outcome.
abbrev by_second : Of one_asked (p (number (pos 1))) 2 → QueryTree one_asked
by_second h = by 2 h done

second_has_none : (h : Of one_asked (p (number (pos 1))) 2) → HasOutcome (by_second h) → ⊥
second_has_none h out =
    let es = equations (by_second h) in
    let keeps = closing_keeps es [] out.0 out.1 (closes_anyhow es [] out.0 out.1 out.3) in
    let e = (keeps out.4.0 out.4.1).0 in
    cc

only_first : (t : QueryTree one_asked) → HasOutcome t → keys_begun (code t) ((1 ∷ []) ∷ []) ≡ 1
only_first (left done) out = elim out.2 [ ]
only_first (by zero h t) out = absurd (true≢false (sym h))
only_first (by (suc zero) h done) out = refl
only_first (by (suc (suc zero)) h done) out = absurd (second_has_none h out)
only_first (by (suc (suc (suc c))) h t) out = absurd (true≢false (sym (second_true (ltb 0 (suc (suc (suc c))) && leb (suc (suc (suc c))) 2) false h)))

pub candidate_covers : (limit : ℕ) → IsCovering one_asked limit (fork 0 [] [] (1 ∷ []))
candidate_covers limit cs (t, has, below, is) begins = ap (λ cs. keys_begun cs ((1 ∷ []) ∷ [])) (sym is) ∙ only_first t has

-- No proof weighs 0, so that within this limit nothing has to be covered.
pub nothing_within : IsCovering one_asked 0 (fork 0 [] [] [])
unfolding clause_weight
nothing_within cs (t, has, below, is) begins = absurd (omega arith)
