-- Bounds on the visits that are left: each visit makes them fewer.
use Rattle.std.proofs.Common.{ℕ, zero, suc, ◌≡◌, ◌<◌, ◌≤◌, ◌+◌, ◌*◌, ◌^◌, List, [], ◌∷◌, length, ap, sym, ◌∙◌, arith}
use Rattle.std.specs.Prelude.{Contains}
use Rattle.std.proofs.Math.Nat.{one-le-pow, pow-le-pow_right, mul-suc, suc-mul}
use Rattle.std.proofs.lemmas.Grind.{pow_more}
use Rattle.and_model.specs.declared.numbers.NodeNo.{NodeNo}
use Rattle.and_model.specs.declared.reference.Ref.{Ref}
use Rattle.and_model.specs.declared.reference.Ref.TheVariants.{Free, Cell, Node, Number, Half}
use Rattle.and_cells.specs.Ranges.{NamedProgram, IsInRange}
use Rattle.and_cells.proofs.Among.{among_first, among_more}
use Rattle.and_circles.specs.Walks.{height, weight, weights}
use Rattle.and_circles.specs.declared.walk.Visit.{Visit}
use Rattle.and_circles.specs.declared.walk.Visit.TheVariants.{Enter, Leave}
use Rattle.and_circles.proofs.Walking.{entered}

-- a power of 512 is not 0
power_positive : (h : ℕ) → 1 ≤ 512 ^ h
power_positive h = one-le-pow h 512 (omega arith)

-- and grows with its exponent
power_grows : (h n : ℕ) → h ≤ n → 512 ^ h ≤ 512 ^ n
power_grows h n below = pow-le-pow_right (omega arith) below

-- by 512 at each step
power_more : (n : ℕ) → 512 ^ suc n ≡ 512 ^ n * 512
power_more n = let e : suc n ≡ n + 1 = omega arith in ap (λ (k : ℕ). 512 ^ k) e ∙ pow_more 512 n

-- each visit counts
pub weight_positive : (visit : Visit) → 0 < weight visit
weight_positive (Enter at) = let positive : 1 ≤ 512 ^ height at = power_positive (height at) in omega arith
weight_positive (Leave at) = omega arith

-- no structure in range is higher than there are nodes
pub height_in_range : (P : NamedProgram) (words : ℕ) (r : Ref) → IsInRange P words r → height r ≤ length P.skeleton.nodes
height_in_range P words Free fits = omega arith
height_in_range P words (Cell cell) fits = omega arith
height_in_range P words (Node node base) fits = omega (arith, fits.0.there)
height_in_range P words (Number pair) fits = omega arith
height_in_range P words (Half bits) fits = omega arith

-- the word of a cell that had no mark weighs less than the mark
pub lighter_word : (P : NamedProgram) (n : ℕ) (word at : Ref) (new old : ℕ) (visits : List Visit) → suc new ≡ old → height word ≤ n
    → 512 ^ suc n * new + weights (Enter word ∷ Leave at ∷ visits) < 512 ^ suc n * old + weights (Enter at ∷ visits)
lighter_word P n word at new old visits one low =
    let fewer : 512 ^ suc n * suc new ≡ 512 ^ suc n * new + 512 ^ suc n = mul-suc (512 ^ suc n) new in
    let product : 512 ^ suc n * old ≡ 512 ^ suc n * new + 512 ^ suc n = ap (λ (k : ℕ). 512 ^ suc n * k) (sym one) ∙ fewer in
    let grown : 512 ^ suc n ≡ 512 ^ n * 512 = power_more n in
    let below : 512 ^ height word ≤ 512 ^ n = power_grows (height word) n low in
    let positive : 1 ≤ 512 ^ n = power_positive n in
    let here : 1 ≤ 512 ^ height at = power_positive (height at) in
    bounds (512 ^ suc n * new) (512 ^ suc n * old) (512 ^ suc n) (512 ^ n) (512 ^ height word) (512 ^ height at) (weights visits) product
    grown below positive here
  where
    bounds : (a b c d e f w : ℕ) → b ≡ a + c → c ≡ d * 512 → e ≤ d → 1 ≤ d → 1 ≤ f → a + (e + (1 + w)) < b + (f + w)
    bounds a b c d e f w p q r s t = omega arith

-- so many parts of at most this height
weights_entered : (n h : ℕ) (rs : List Ref) (visits : List Visit) → length rs ≤ n → ((r : Ref) → Contains rs r → height r ≤ h)
    → weights (entered rs visits) ≤ n * 512 ^ h + weights visits
weights_entered n h [] visits few low = omega arith
weights_entered zero h (r ∷ rs) visits few low = absurd (omega arith)
weights_entered (suc n) h (r ∷ rs) visits few low =
    let again : weights (entered rs (Enter r ∷ visits)) ≤ n * 512 ^ h + (512 ^ height r + weights visits) =
    weights_entered n h rs (Enter r ∷ visits) (omega arith) (λ q c. low q (among_more r q rs c)) in
    let first : 512 ^ height r ≤ 512 ^ h = power_grows (height r) h (low r (among_first r rs)) in
    let product : suc n * 512 ^ h ≡ n * 512 ^ h + 512 ^ h = suc-mul n (512 ^ h) in
    bounds (weights (entered rs (Enter r ∷ visits))) (n * 512 ^ h) (suc n * 512 ^ h) (512 ^ height r) (512 ^ h) (weights visits) again first product
  where
    bounds : (a b c d e w : ℕ) → a ≤ b + (d + w) → d ≤ e → c ≡ b + e → a ≤ c + w
    bounds a b c d e w p q r = omega arith

-- the parts of a structure weigh less than it does
pub lighter_parts : (node : NodeNo) (base : ℕ) (parts : List Ref) (visits : List Visit) → length parts ≤ 255
    → ((r : Ref) → Contains parts r → height r < suc node.0)
    → weights (entered parts (Leave (Node node base) ∷ visits)) < weights (Enter (Node node base) ∷ visits)
lighter_parts node base parts visits few low =
    let all : weights (entered parts (Leave (Node node base) ∷ visits)) ≤ 255 * 512 ^ node.0 + (1 + weights visits) =
    weights_entered 255 node.0 parts (Leave (Node node base) ∷ visits) few (λ r c. omega (arith, low r c)) in
    bounds (weights (entered parts (Leave (Node node base) ∷ visits))) (512 ^ node.0) (512 ^ suc node.0) (weights visits) all (power_more node.0)
    (power_positive node.0)
  where
    bounds : (a d c w : ℕ) → a ≤ 255 * d + (1 + w) → c ≡ d * 512 → 1 ≤ d → a < c + w
    bounds a d c w p q r = omega arith
