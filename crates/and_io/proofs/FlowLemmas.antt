-- What follows where one call comes after another.
use Rattle.std.proofs.Common.{◌≡◌, ℕ, ◌+◌, ◌≤◌, List, ◌++◌, Option, Some, None, length, take, drop, ◌-◌, arith, ap, sym, ◌∙◌, append_assoc}
use Rattle.std.proofs.lemmas.Grind.{common_steps}
use Rattle.std.proofs.Math.Seq.{take-add}
use Rattle.and_io.specs.Flow.{Stays, Takes}

-- a count that stays in each of two calls stays in both
pub stays_on : (last : Option ℕ) (a b c : ℕ) → Stays last a b → Stays last b c → Stays last a c
stays_on None a b c first then = tt
stays_on (Some last) a b c first then = λ at. then (first at)

-- what two calls add stands in their order
pub adds_more : (a b c xs ys zs : List ℕ) → xs ++ ys ≡ zs → b ≡ a ++ xs → c ≡ b ++ ys → c ≡ a ++ zs
adds_more a b c xs ys zs joined first then =
    then ∙ ap (λ l. l ++ ys) first ∙ append_assoc a xs ys ∙ ap (λ l. a ++ l) joined

-- a piece of what stands behind k goes on behind the first k
pub next_piece : (k n : ℕ) (xs : List ℕ) → n ≤ length (take (length xs - k) (drop k xs)) → k ≤ length xs
    → take k xs ++ take n (take (length xs - k) (drop k xs)) ≡ take (k + n) xs
next_piece k n xs within below =
    let all : take (length xs - k) (drop k xs) ≡ drop k xs = grind (arith, common_steps) in
    ap (λ l. take k xs ++ take n l) all ∙ sym (take-add k n xs)

-- what two calls take stood in their order
pub takes_more : (a b c : Option (List ℕ)) (xs ys zs : List ℕ) → xs ++ ys ≡ zs → Takes a b xs → Takes b c ys → Takes a c zs
takes_more None None c xs ys zs joined first then = then
takes_more None (Some b) c xs ys zs joined first then = absurd (cc)
takes_more (Some a) None c xs ys zs joined first then = let no = first.1 in absurd (cc)
takes_more (Some a) (Some b) c xs ys zs joined first then =
    let same : b ≡ first.0 = cc in
    (then.0, then.1, first.2 ∙ ap (λ l. xs ++ l) (sym same ∙ then.2) ∙ sym (append_assoc xs ys then.0) ∙ ap (λ l. l ++ then.0) joined)
