-- Example append-cells: each limit from 10 on lists its two proofs.
use Rattle.std.proofs.Common.{ℕ, zero, suc, ◌≡◌, ◌≤◌, ◌⊎◌, ◌∙◌, [], ◌∷◌, refl, sym, ap, subst, inl, inr, arith, true≢false, codes, Contains}
use Rattle.std.proofs.lemmas.List.Elements.{All-cons}
use Rattle.std.proofs.lemmas.List.Kept.{AllPairs-cons}
use Rattle.std.specs.Prelude.{AllPairs}
use Rattle.and_model.specs.Terms.{Substitution}
use Rattle.and_model.specs.Solutions.{Solves, Solvable}
use Rattle.and_model.specs.Programs.{Program, clause_weight}
use Rattle.and_model.specs.Trees.{QueryTree, done, left, by, equations, arithmetics, HasOutcome, code}
use Rattle.and_model.specs.Listing.{Outcome, Ends, answer, Entry, Listing, Exhausted}
use Rattle.and_model.specs.Output.{OverLeft}
use Rattle.and_laws.specs.CodeOrder.{Before}
use Rattle.and_laws.specs.Entries.{IsWithin}
use Rattle.and_laws.proofs.Closing.{closing_keeps, closes_anyhow}
use Rattle.and_laws.proofs.Order.{code_tree}
use Rattle.and_laws.proofs.Deciding.{of_bounds}
use Rattle.and_laws.proofs.Listings.{one_outcome, ends_outcome}
use Rattle.and_laws.proofs.Members.{entries_listing}
use Rattle.and_laws.proofs.Ordered.{contains_first, contains_more, contains_none, contains_cases}
use Rattle.and_laws.proofs.Pairwise.{all_none, all_pairs_none}
use Rattle.and_examples.specs.Ending.{entry}
use Rattle.and_examples.specs.Texts.{append_text}
use Rattle.and_examples.proofs.AppendCells.{first_tree, second_tree, first_end, second_end}
use Rattle.and_examples.proofs.Exhausting.{settled}

-- A whole tree with an outcome has the code [1] or [2, 1].
solvable : {P : Program} (t : QueryTree P) → HasOutcome t → Solvable (equations t)
solvable t out =
    (out.4.0, closing_keeps (equations t) (arithmetics t) out.0 out.1 (closes_anyhow (equations t) (arithmetics t) out.0 out.1 out.3) out.4.0 out.4.1)

-- By the second clause twice, R would be nil and a cell.
abbrev twice : QueryTree append_text
twice = by 2 refl (by 2 refl (left done))

never_twice : (s : Substitution) → Solves s (equations twice) → ⊥
never_twice s h = let a = h.0 in let b = h.1.0 in cc

codes_of : (u : QueryTree append_text) → HasOutcome u → (code u ≡ 1 ∷ []) ⊎ (code u ≡ 2 ∷ 1 ∷ [])
codes_of (left done) out = elim out.2 [ ]
codes_of (by zero h t) out = absurd (true≢false (sym h))
codes_of (by (suc zero) h done) out = inl refl
codes_of (by (suc (suc zero)) h (left t)) out = elim out.2 [ ]
codes_of (by (suc (suc zero)) h (by zero k t)) out = absurd (true≢false (sym k))
codes_of (by (suc (suc zero)) h (by (suc zero) k done)) out = inr refl
codes_of (by (suc (suc zero)) h (by (suc (suc zero)) k t)) out =
    let solved = solvable (by 2 h (by 2 k t)) out in absurd (never_twice solved.0 (solved.1.0, (solved.1.1.0, tt)))
codes_of (by (suc (suc zero)) h (by {g = g} (suc (suc (suc c))) k t)) out = let b = (of_bounds append_text g (suc (suc (suc c))) k).1 in absurd (omega arith)
codes_of (by {g = g} (suc (suc (suc c))) h t) out = let b = (of_bounds append_text g (suc (suc (suc c))) h).1 in absurd (omega arith)

-- an entry with the code of a proof has its outcome
same_entry : {P : Program} (t u : QueryTree P) (o : Outcome) (e : Entry) → Ends t o → code u ≡ code t → code u ≡ e.code → Ends u e.outcome
    → e ≡ entry (code t) o
same_entry t u o e ends same is others =
    let one : u ≡ t = code_tree u t others.0 ends.0 same in
    let outcome : e.outcome ≡ o = one_outcome t e.outcome o (subst (λ v. Ends v e.outcome) one others) ends in
    ap (λ cs. entry cs e.outcome) (sym is ∙ same) ∙ ap (λ r. entry (code t) r) outcome

abbrev one : Entry
one = entry (1 ∷ []) (answer (codes "X = nil, Y = c(1,nil)"))

abbrev two : Entry
two = entry (2 ∷ 1 ∷ []) (answer (codes "X = c(1,nil), Y = nil"))

in_order : AllPairs Before (one ∷ two ∷ [])
in_order =
    AllPairs-cons Before one (two ∷ []) (All-cons (Before one) two [] (inr ([], 1, 2, [], 1 ∷ [], omega arith, refl, refl)) (all_none (Before one)))
    (AllPairs-cons Before two [] (all_none (Before two)) (all_pairs_none Before))

has_both : (limit : ℕ) → 10 ≤ limit → (e : Entry) → Contains (one ∷ two ∷ []) e → IsWithin append_text limit e
unfolding clause_weight
has_both limit above e has =
    let first : IsWithin append_text limit one = (first_tree, refl, first_end, omega arith) in
    let second : IsWithin append_text limit two = (second_tree, refl, second_end, omega arith) in
    elim (contains_cases one e (two ∷ []) has) [
      | inl is ↦ subst (λ e. IsWithin append_text limit e) (sym is) first
      | inr more ↦ elim (contains_cases two e [] more) [
        | inl is ↦ subst (λ e. IsWithin append_text limit e) (sym is) second
        | inr no_more ↦ absurd (contains_none e no_more)
      ]
    ]

only_both : (limit : ℕ) (e : Entry) → IsWithin append_text limit e → Contains (one ∷ two ∷ []) e
only_both limit e (u, is, ends, fits) = elim (codes_of u (ends_outcome u e.outcome ends)) [
  | inl same ↦ subst (λ e. Contains (one ∷ two ∷ []) e) (sym (same_entry first_tree u (answer (codes "X = nil, Y = c(1,nil)")) e first_end same is ends))
      (contains_first one (two ∷ []))
  | inr same ↦ subst (λ e. Contains (one ∷ two ∷ []) e) (sym (same_entry second_tree u (answer (codes "X = c(1,nil), Y = nil")) e second_end same is ends))
      (contains_more one two (two ∷ []) (contains_first two []))
]

pub listing : (limit : ℕ) → 10 ≤ limit → Listing append_text limit (one ∷ two ∷ [])
listing limit above = entries_listing append_text limit (one ∷ two ∷ []) in_order (λ e. (has_both limit above e, only_both limit e))

pub exhausted : Exhausted append_text 10
exhausted = settled append_text 10 (one ∷ two ∷ []) listing

-- [2, 2] weighs 13, and would outgrow the limit 14 by either clause. But its equations have no solution.
pub not_over : (limit c : ℕ) → OverLeft append_text limit (2 ∷ 2 ∷ []) c → ⊥
not_over limit c (inl (empty, rest, heavy)) = cc
not_over limit c (inr (t, is, fits, es, gs, closed, solved, o, leftmost, of, over)) =
    let same : t ≡ twice = cc in
    let keeps = closing_keeps (equations t) (arithmetics t) es gs (closes_anyhow (equations t) (arithmetics t) es gs closed) solved.0 solved.1 in
    never_twice solved.0 (subst (λ v. Solves solved.0 (equations v)) same keeps)
