-- An assignment of which a place falls is lower.
use Rattle.std.proofs.Common.{ℕ, zero, suc, ◌^◌, ◌≡◌, ◌<◌, ◌≤◌, refl, sym, ap, ◌∙◌, arith, subst, true, false, ◌&&◌, ⊎_elim}
use Rattle.std.specs.Prelude.{nat_eq}
use Rattle.std.proofs.lemmas.Bool.{cases_Bool, cases_eq, eqb-true, eq-eqb, and_parts, and_from, cond-true, cond-false}
use Rattle.and_modes.specs.Modes.{rank, Assignment}
use Rattle.and_modes.specs.Totals.{sum_below, of_place, of_predicate, of_name, height}
use Rattle.and_modes.specs.Asked.{level_asked, same_side, is_asked, Lowers}
use Rattle.and_modes.specs.declared.demands.Demand.{Demand}
use Rattle.and_modes.specs.declared.level.Side.{Side}
use Rattle.and_modes.specs.declared.level.Side.TheVariants.{Called, Succeeded}

sum_below-le : (n : ℕ) (f g : ℕ → ℕ) → ((i : ℕ) → f i ≤ g i) → sum_below n f ≤ sum_below n g
unfolding sum_below
sum_below-le zero f g le = omega arith
sum_below-le (suc n) f g le = let a = le n in let b = sum_below-le n f g le in omega arith

sum_below-lt : (n k : ℕ) (f g : ℕ → ℕ) → ((i : ℕ) → f i ≤ g i) → k < n → f k < g k → sum_below n f < sum_below n g
unfolding sum_below
sum_below-lt zero k f g le lt here = absurd (omega arith)
sum_below-lt (suc n) k f g le lt here =
    ⊎_elim
    (λ (e : k ≡ n). let last : f n < g n = subst (λ (j : ℕ). f j < g j) e here in let rest = sum_below-le n f g le in omega arith)
    (λ (ne : k ≡ n → ⊥). let below : k < n = omega arith in let last = le n in let rest = sum_below-lt n k f g le below here in omega arith)
    (cases_eq k n)

-- at every place the one assignment is at most the other
abbrev pub IsBelow : (low high : Assignment) → Type 0
IsBelow low high = (name count place : ℕ) (side : Side) → rank (low name count place side) ≤ rank (high name count place side)

place_le : (m n : Assignment) (name count place : ℕ) → IsBelow n m → of_place n name count place ≤ of_place m name count place
place_le m n name count place below =
    let called = below name count place Called in
    let succeeded = below name count place Succeeded in
    omega arith

predicate_le : (m n : Assignment) (name count : ℕ) → IsBelow n m → of_predicate n name count ≤ of_predicate m name count
predicate_le m n name count below = sum_below-le 256 (of_place n name count) (of_place m name count) (λ place. place_le m n name count place below)

name_le : (m n : Assignment) (name : ℕ) → IsBelow n m → of_name n name ≤ of_name m name
name_le m n name below = sum_below-le 256 (of_predicate n name) (of_predicate m name) (λ count. predicate_le m n name count below)

height_lt : (m n : Assignment) (name count place : ℕ) → IsBelow n m → name < 2 ^ 32 → count < 256 → place < 256
    → of_place n name count place < of_place m name count place → height n < height m
unfolding height
height_lt m n name count place below is_name is_count is_place lower =
    sum_below-lt (2 ^ 32) name (of_name n) (of_name m) (λ a. name_le m n a below) is_name
    (sum_below-lt 256 count (of_predicate n name) (of_predicate m name) (λ b. predicate_le m n name b below) is_count
    (sum_below-lt 256 place (of_place n name count) (of_place m name count) (λ p. place_le m n name count p below) is_place lower))

same_side_is : (s t : Side) → same_side s t ≡ true → s ≡ t
same_side_is Called Called e = refl
same_side_is Called Succeeded e = absurd (cc)
same_side_is Succeeded Called e = absurd (cc)
same_side_is Succeeded Succeeded e = refl

same_side_self : (s : Side) → same_side s s ≡ true
same_side_self Called = refl
same_side_self Succeeded = refl

-- a demand speaks of the place that it names
pub asked_there : (d : Demand) (name count place : ℕ) (side : Side) (m : Assignment) → is_asked d name count place side ≡ true
    → m name count place side ≡ level_asked m d
asked_there d name count place side m e =
    let p = and_parts (nat_eq d.place.name.0 name && (nat_eq d.place.arity count && nat_eq d.place.number place)) (same_side d.side side) e in
    let q = and_parts (nat_eq d.place.name.0 name) (nat_eq d.place.arity count && nat_eq d.place.number place) p.0 in
    let r = and_parts (nat_eq d.place.arity count) (nat_eq d.place.number place) q.1 in
    let is_name : d.place.name.0 ≡ name = eqb-true d.place.name.0 name q.0 in
    let is_count : d.place.arity ≡ count = eqb-true d.place.arity count r.0 in
    let is_place : d.place.number ≡ place = eqb-true d.place.number place r.1 in
    let is_side : d.side ≡ side = same_side_is d.side side p.1 in
    sym (ap (λ (x : ℕ). m x d.place.arity d.place.number d.side) is_name
    ∙ ap (λ (x : ℕ). m name x d.place.number d.side) is_count
    ∙ ap (λ (x : ℕ). m name count x d.side) is_place
    ∙ ap (λ (x : Side). m name count place x) is_side)

asked_self : (d : Demand) → is_asked d d.place.name.0 d.place.arity d.place.number d.side ≡ true
asked_self d =
    and_from (nat_eq d.place.name.0 d.place.name.0 && (nat_eq d.place.arity d.place.arity && nat_eq d.place.number d.place.number)) (same_side d.side d.side)
    (and_from (nat_eq d.place.name.0 d.place.name.0) (nat_eq d.place.arity d.place.arity && nat_eq d.place.number d.place.number)
    (eq-eqb d.place.name.0 d.place.name.0 refl)
    (and_from (nat_eq d.place.arity d.place.arity) (nat_eq d.place.number d.place.number)
    (eq-eqb d.place.arity d.place.arity refl) (eq-eqb d.place.number d.place.number refl)))
    (same_side_self d.side)

pub lowers_below : (d : Demand) (m n : Assignment) → Lowers d m n → IsBelow n m
lowers_below d m n low name count place side =
    let is = low.1 name count place side in
    let strict = low.0 in
    ⊎_elim
    (λ (e : is_asked d name count place side ≡ true).
    let new : n name count place side ≡ d.level = is ∙ cond-true (is_asked d name count place side) d.level (m name count place side) e in
    let old = asked_there d name count place side m e in
    rw (new, old) (omega arith))
    (λ (e : is_asked d name count place side ≡ false).
    let new : n name count place side ≡ m name count place side = is ∙ cond-false (is_asked d name count place side) d.level (m name count place side) e in
    rw new (omega arith))
    (cases_Bool (is_asked d name count place side))

side_lt : (m n : Assignment) (name count place : ℕ) (side : Side) → IsBelow n m → rank (n name count place side) < rank (m name count place side)
    → of_place n name count place < of_place m name count place
side_lt m n name count place Called below lt = let other = below name count place Succeeded in omega arith
side_lt m n name count place Succeeded below lt = let other = below name count place Called in omega arith

pub lowers_height : (d : Demand) (m n : Assignment) → Lowers d m n → d.place.name.0 < 2 ^ 32 → d.place.arity < 256 → d.place.number < 256 → height n < height m
lowers_height d m n low is_name is_count is_place =
    let below = lowers_below d m n low in
    let new : level_asked n d ≡ d.level = low.1 d.place.name.0 d.place.arity d.place.number d.side
    ∙ cond-true (is_asked d d.place.name.0 d.place.arity d.place.number d.side) d.level (level_asked m d) (asked_self d) in
    let strict : rank (level_asked n d) < rank (level_asked m d) = rw new low.0 in
    height_lt m n d.place.name.0 d.place.arity d.place.number below is_name is_count is_place
    (side_lt m n d.place.name.0 d.place.arity d.place.number d.side below strict)
