-- Bytes that are parted at the first of a kind.
use Rattle.std.proofs.Common.{ℕ, zero, suc, ◌≡◌, ◌+◌, ◌<◌, [], ◌∷◌, ◌++◌, length, get_or, take, drop, refl, ap, ◌∙◌, subst}
use Rattle.std.proofs.Common.{arith, Contains}
use Rattle.std.proofs.lemmas.List.{length-append}
use Rattle.and_model.specs.Lines.{Bytes}
use Rattle.and_laws.proofs.Ordered.{contains_first, contains_more}

-- none of the first bytes is this one
abbrev pub NoneBefore : Bytes → (at place : ℕ) → Type 0
NoneBefore bytes at place = (k : ℕ) → k < place → get_or bytes k 0 ≡ at → ⊥

-- The first such byte stands where the part without it ends.
pub first_place : (front back : Bytes) (at place : ℕ) → (Contains front at → ⊥) → NoneBefore (front ++ at ∷ back) at place
    → get_or (front ++ at ∷ back) place 0 ≡ at → place ≡ length front
first_place [] back at zero without none_before here = refl
first_place [] back at (suc place) without none_before here = absurd (none_before 0 (omega arith) refl)
first_place (b ∷ front) back at zero without none_before here = absurd (without (subst (λ x. Contains (b ∷ front) x) here (contains_first b front)))
first_place (b ∷ front) back at (suc place) without none_before here =
    ap suc (first_place front back at place (λ h. without (contains_more b at front h)) (λ k l e. none_before (suc k) (omega arith) e) here)

-- It is there.
pub one_there : (front back : Bytes) (at : ℕ) → get_or (front ++ at ∷ back) (length front) 0 ≡ at
one_there [] back at = refl
one_there (b ∷ front) back at = one_there front back at

taken : (front back : Bytes) → take (length front) (front ++ back) ≡ front
taken [] back = refl
taken (b ∷ front) back = ap (λ l. b ∷ l) (taken front back)

dropped : (front back : Bytes) (at : ℕ) → drop (suc (length front)) (front ++ at ∷ back) ≡ back
dropped [] back at = refl
dropped (b ∷ front) back at = dropped front back at

-- So the bytes are parted there,
pub parts_are : (bytes front back : Bytes) (at place next : ℕ) → bytes ≡ front ++ at ∷ back → (Contains front at → ⊥) → NoneBefore bytes at place
    → get_or bytes place 0 ≡ at → next ≡ suc place → (take place bytes ≡ front) × (drop next bytes ≡ back)
parts_are bytes front back at place next is without none_before here e =
    let place_is : place ≡ length front = first_place front back at place without (subst (λ b. NoneBefore b at place) is none_before)
    (subst (λ b. get_or b place 0 ≡ at) is here) in (
      ap (λ n. take n bytes) place_is ∙ ap (take (length front)) is ∙ taken front (at ∷ back),
      ap (λ n. drop n bytes) (e ∙ ap suc place_is) ∙ ap (drop (suc (length front))) is ∙ dropped front back at,
    )

-- and where none is found, there is none.
pub none_parted : (bytes front back : Bytes) (at : ℕ) → bytes ≡ front ++ at ∷ back → NoneBefore bytes at (length bytes) → ⊥
none_parted bytes front back at is none_before =
    let long : length bytes ≡ length front + suc (length back) = ap length is ∙ length-append front (at ∷ back) in
    none_before (length front) (omega (arith, long)) (ap (λ b. get_or b (length front) 0) is ∙ one_there front back at)
