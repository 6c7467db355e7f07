-- Prefixes: how they are put together, and what an element after a prefix tells.
use Rattle.std.proofs.Common.{ℕ, ◌≡◌, List, [], ◌∷◌, ◌++◌, append_assoc, refl, ap, ◌∙◌}
use Rattle.and_model.specs.Prefixes.{IsPrefix}

pub prefix_cons : (c : ℕ) (xs ys : List ℕ) → IsPrefix xs ys → IsPrefix (c ∷ xs) (c ∷ ys)
prefix_cons c xs ys b = (b.0, ap (λ l. c ∷ l) b.1)

pub prefix_then : (xs ys zs : List ℕ) → IsPrefix xs ys → IsPrefix ys zs → IsPrefix xs zs
prefix_then xs ys zs a b = (a.0 ++ b.0, b.1 ∙ ap (λ l. l ++ b.0) a.1 ∙ append_assoc xs a.0 b.0)

-- the part after the first of two joined lists is a prefix of what both begin
pub prefix_front : (xs ys zs : List ℕ) → IsPrefix (xs ++ ys) zs → IsPrefix xs zs
prefix_front xs ys zs b = (ys ++ b.0, b.1 ∙ append_assoc xs ys b.0)

-- a prefix stays one when the list goes on
pub prefix_more : (xs ys zs : List ℕ) → IsPrefix xs ys → IsPrefix xs (ys ++ zs)
prefix_more xs ys zs b = (b.0 ++ zs, ap (λ l. l ++ zs) b.1 ∙ append_assoc xs b.0 zs)

-- what comes after one prefix is determined
pub same_after : (xs zs ws : List ℕ) (c d : ℕ) → (xs ++ c ∷ []) ++ zs ≡ (xs ++ d ∷ []) ++ ws → c ≡ d
same_after [] zs ws c d e = cc
same_after (x ∷ xs) zs ws c d e = let f : (xs ++ c ∷ []) ++ zs ≡ (xs ++ d ∷ []) ++ ws = cc in same_after xs zs ws c d f

-- so are the front and the last of a list
pub same_last : (xs ys : List ℕ) (c d : ℕ) → xs ++ c ∷ [] ≡ ys ++ d ∷ [] → (xs ≡ ys) × (c ≡ d)
same_last [] [] c d e = (refl, cc)
same_last [] (y ∷ []) c d e = absurd (cc)
same_last [] (y ∷ z ∷ ys) c d e = absurd (cc)
same_last (x ∷ []) [] c d e = absurd (cc)
same_last (x ∷ z ∷ xs) [] c d e = absurd (cc)
same_last (x ∷ xs) (y ∷ ys) c d e = let r = same_last xs ys c d (cc) in let a = r.0 in ((cc), r.1)

-- a list with a last element is not empty
pub not_empty : (xs : List ℕ) (c : ℕ) → [] ≡ xs ++ c ∷ [] → ⊥
not_empty [] c e = cc
not_empty (x ∷ xs) c e = cc
