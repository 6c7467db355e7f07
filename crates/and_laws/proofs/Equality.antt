-- Whether two numbers, paths, variables or integers are the same.
use Rattle.std.proofs.Common.{ℕ, ℤ, pos, negsuc, ◌≡◌, [], ◌∷◌, refl, ap, sym, ◌∙◌, inl, inr, ◌⊎◌, Bool, true, false, true≢false, eqb, eqb-true, eq-eqb}
use Rattle.and_model.specs.Terms.{Path}

-- a truth value is the one or the other
pub bool_cases : (b : Bool) → (b ≡ true) ⊎ (b ≡ false)
bool_cases true = inl refl
bool_cases false = inr refl

-- two numbers are the same or not,
pub number_or : (c d : ℕ) → (c ≡ d) ⊎ (c ≡ d → ⊥)
number_or c d = elim (bool_cases (eqb c d)) [ inl e ↦ inl (eqb-true c d e) | inr e ↦ inr (λ s. true≢false (sym (eq-eqb c d s) ∙ e)) ]

-- and two paths,
pub path_or : (f g : Path) → (f ≡ g) ⊎ (f ≡ g → ⊥)
path_or [] [] = inl refl
path_or [] (y ∷ ys) = inr (λ e. cc)
path_or (x ∷ xs) [] = inr (λ e. cc)
path_or (x ∷ xs) (y ∷ ys) =
    elim (number_or x y) [ inr n ↦ inr (λ e. n (cc)) | inl a ↦ elim (path_or xs ys) [ inr n ↦ inr (λ e. n (cc)) | inl b ↦ inl (cc) ] ]

-- and two variables,
pub variable_or : (f : Path) (n : ℕ) (g : Path) (m : ℕ) → ((f ≡ g) × (n ≡ m)) ⊎ (f ≡ g → n ≡ m → ⊥)
variable_or f n g m = elim (path_or f g) [ inr k ↦ inr (λ a b. k a) | inl a ↦ elim (number_or n m) [ inl b ↦ inl (a, b) | inr k ↦ inr (λ x y. k y) ] ]

-- and two integers
pub integer_or : (a b : ℤ) → (a ≡ b) ⊎ (a ≡ b → ⊥)
integer_or (pos a) (pos b) = elim (number_or a b) [ inl e ↦ inl (ap pos e) | inr n ↦ inr (λ e. n (cc)) ]
integer_or (pos a) (negsuc b) = inr (λ e. cc)
integer_or (negsuc a) (pos b) = inr (λ e. cc)
integer_or (negsuc a) (negsuc b) = elim (number_or a b) [ inl e ↦ inl (ap negsuc e) | inr n ↦ inr (λ e. n (cc)) ]
