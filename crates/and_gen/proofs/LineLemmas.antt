-- What follows where one line comes after others.
use Rattle.std.proofs.Common.{◌≡◌, ℕ, suc, ◌+◌, ◌≤◌, ◌++◌, arith, ap, sym, ◌∙◌, append_assoc}
use Rattle.and_model.specs.Lines.{Bytes}
use Rattle.and_gen.specs.Layered.{lines}

-- the line of the next number comes last
pub next_line : (line : ℕ → Bytes) (k : ℕ) → lines line (k + 1) ≡ lines line k ++ line k
next_line line k =
    let next : k + 1 ≡ suc k = omega arith in
    ap (lines line) next

-- a text behind which the lines below k stand, and then the line of k
pub goes_on : (line : ℕ → Bytes) (k : ℕ) (old now new : Bytes) → now ≡ old ++ lines line k → new ≡ now ++ line k
    → new ≡ old ++ lines line (k + 1)
goes_on line k old now new before then =
    then ∙ ap (λ t. t ++ line k) before ∙ append_assoc old (lines line k) (line k) ∙ ap (λ t. old ++ t) (sym (next_line line k))

-- at the end of a loop the lines are those of its whole range
pub at_the_end : (line : ℕ → Bytes) (k n : ℕ) (old now : Bytes) → now ≡ old ++ lines line k → k ≤ n → n ≤ k → now ≡ old ++ lines line n
at_the_end line k n old now is below above =
    let same : k ≡ n = omega (arith, below, above) in
    is ∙ ap (λ m. old ++ lines line m) same
