-- Newlines and lines.
use Rattle.std.proofs.Common.{◌≡◌, ℕ, suc, ◌+◌, ◌-◌, ◌≤◌, true, false, cond, eqb, [], ◌∷◌, ◌++◌, length, take, drop, sym, refl, ap, ◌∙◌, arith}
use Rattle.std.specs.List.{count_by, slice_range}
use Rattle.std.proofs.Math.Seq.{take-add}
use Rattle.std.proofs.lemmas.List.Recursion.{is_count_by}
use Rattle.and_model.specs.Lines.{Bytes}
use Rattle.and_language.specs.Tokens.{newlines, line_at}

newlines-cons : (b : ℕ) (bs : Bytes) → newlines (b ∷ bs) ≡ cond (eqb b 10) (1 + newlines bs) (newlines bs)
newlines-cons b bs = elim (eqb b 10) as (λ v. cond v (suc (newlines bs)) (newlines bs) ≡ cond v (1 + newlines bs) (newlines bs)) [
  | true ↦ omega arith
  | false ↦ refl
]

pub newlines-is : (bs : Bytes) → newlines bs ≡ count_by (λ b. eqb b 10) bs
newlines-is bs = is_count_by newlines (λ b. eqb b 10) refl newlines-cons bs

pub newlines-append : (cs bs : Bytes) → newlines (cs ++ bs) ≡ newlines cs + newlines bs
newlines-append [] bs = omega arith
newlines-append (c ∷ cs) bs =
    elim (eqb c 10) as (λ v. cond v (suc (newlines (cs ++ bs))) (newlines (cs ++ bs)) ≡ cond v (suc (newlines cs)) (newlines cs) + newlines bs) [
      | true ↦ omega (arith, newlines-append cs bs)
      | false ↦ newlines-append cs bs
    ]

-- the line of a place, counted on from one before it
pub line_at-on : (bs : Bytes) (p q : ℕ) → p ≤ q → line_at bs p + newlines (slice_range bs p q) ≡ line_at bs q
line_at-on bs p q h =
    let e : p + (q - p) ≡ q = omega arith in
    let t : newlines (take q bs) ≡ newlines (take p bs) + newlines (slice_range bs p q) =
    ap (λ n. newlines (take n bs)) (sym e) ∙ (ap newlines (take-add p (q - p) bs) ∙ newlines-append (take p bs) (take (q - p) (drop p bs))) in
    omega (arith, t)

-- a text has not more lines than it has bytes, and one
pub newlines-le : (bs : Bytes) → newlines bs ≤ length bs
newlines-le [] = omega arith
newlines-le (b ∷ bs) = elim (eqb b 10) as (λ v. cond v (suc (newlines bs)) (newlines bs) ≤ suc (length bs)) [
  | true ↦ omega (arith, newlines-le bs)
  | false ↦ omega (arith, newlines-le bs)
]
