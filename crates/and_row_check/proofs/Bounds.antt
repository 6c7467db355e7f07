-- Bounds of the variables under nodes.
use Rattle.std.proofs.Common.{ℕ, zero, suc, ◌+◌, ◌≡◌, ◌<◌, ◌≤◌, List, [], ◌∷◌, ◌++◌, length, get_or, All}
use Rattle.std.proofs.Common.{sym, subst, arith}
use Rattle.std.proofs.lemmas.List.{get_or_append_left, length-append}
use Rattle.std.proofs.Math.Seq.{get_or-append_seam}
use Rattle.std.proofs.lemmas.List.Elements.{All-nil, All-push, All-append}
use Rattle.and_model.specs.Terms.{Path, Term, Terms, variable, number, compound, none, more, variables_of, variables_in, width}
use Rattle.and_program.specs.Shown.{shown_term, argument_of, term_at}
use Rattle.and_program.specs.Skeletons.{Shape, node_term}
use Rattle.and_program.specs.declared.node.NodeKind.TheVariants.{Variable, Number, Compound}
use Rattle.and_model.specs.declared.numbers.NameNo.{NameNo}
use Rattle.and_row_check.specs.Places.{AreBelow, AreSpans}
use Rattle.and_row_check.proofs.Loops.{each_next}

pub below_more : (a b : ℕ) (t : Term) → a ≤ b → AreBelow a t → AreBelow b t
below_more a b t least below = λ k d within. let h = below k d within in omega (arith, h, least)

pub one_below : (t : Term) (k : ℕ) → shown_term t ≡ Variable k → AreBelow (k + 1) t
one_below (variable q j) k is =
    let same : j ≡ k = cc in
    All-push (λ (v : Path × ℕ). v.1 < k + 1) [] (q, j) (All-nil (λ (v : Path × ℕ). v.1 < k + 1)) (omega (arith, same))
one_below (number z) k is = absurd (cc)
one_below (compound c ts) k is = absurd (cc)

pub none_below : (t : Term) (z : _) → shown_term t ≡ Number z → AreBelow 0 t
none_below (variable q j) z is = absurd (cc)
none_below (number y) z is = All-nil (λ (v : Path × ℕ). v.1 < 0)
none_below (compound c ts) z is = absurd (cc)

terms_below : (ts : Terms) (s : ℕ) → ((k : ℕ) → k < width ts → AreBelow s (term_at ts k)) → All (λ v. v.1 < s) (variables_in ts)
terms_below none s each = All-nil (λ (v : Path × ℕ). v.1 < s)
terms_below (more t ts) s each =
    All-append (λ (v : Path × ℕ). v.1 < s) (variables_of t) (variables_in ts) (each zero (omega arith))
    (terms_below ts s (λ k within. each (suc k) (omega (arith, within))))

pub all_below : (t : Term) (c : NameNo) (n s : ℕ) → shown_term t ≡ Compound c n → ((k : ℕ) → k < n → AreBelow s (argument_of t k)) → AreBelow s t
all_below (variable q j) c n s is each = absurd (cc)
all_below (number y) c n s is each = absurd (cc)
all_below (compound d ts) c n s is each =
    let same : width ts ≡ n = cc in terms_below ts s (λ k within. each k (omega (arith, within, same)))

pub spans_more : (ss : List Shape) (spans : List ℕ) (s : ℕ) → AreSpans ss spans → AreBelow s (node_term ss (length spans))
    → AreSpans ss (spans ++ s ∷ [])
spans_more ss spans s are below node d within =
    let long = length-append spans (s ∷ []) in
    each_next (λ (p : ℕ). AreBelow (get_or (spans ++ s ∷ []) p d) (node_term ss p)) (length spans)
    (λ p lower. subst (λ (n : ℕ). AreBelow n (node_term ss p)) (sym (get_or_append_left spans (s ∷ []) d p lower)) (are p d lower))
    (subst (λ (n : ℕ). AreBelow n (node_term ss (length spans))) (sym (get_or-append_seam spans s [] d)) below)
    node (omega (arith, within, long))

pub no_spans : (ss : List Shape) (spans : List ℕ) → length spans ≡ 0 → AreSpans ss spans
no_spans ss spans empty node d within = absurd (omega (arith, empty, within))
