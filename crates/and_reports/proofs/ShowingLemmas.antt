-- Lines that are written one after another.
use Rattle.std.proofs.Common.{ℕ, ◌-◌, ◌≡◌, ◌<◌, List, [], ◌∷◌, ◌++◌, length, refl, ap, ◌∙◌, append_assoc}
use Rattle.std.proofs.Common.{arith, codes}
use Rattle.std.specs.Prelude.{get_or}
use Rattle.std.proofs.lemmas.List.{get_or_default}
use Rattle.and_model.specs.Lines.{Bytes}
use Rattle.and_reports.specs.Shown.{last_of, first_and_last}

last_is : (line : Bytes) (lines : List Bytes) (d : Bytes) → get_or (line ∷ lines) (length lines) d ≡ last_of line lines
last_is line [] d = refl
last_is line (next ∷ lines) d = last_is next lines d

-- the first line and the last, as they are found by their places
ends_are : (lines : List Bytes) (i : ℕ) (first last old one two three new : Bytes) → 0 < length lines → i ≡ length lines - 1
    → first ≡ get_or lines 0 first → last ≡ get_or lines i last
    → one ≡ old ++ codes "first " → two ≡ one ++ first ++ 10 ∷ [] → three ≡ two ++ codes "last " → new ≡ three ++ last ++ 10 ∷ []
    → new ≡ old ++ first_and_last lines
ends_are [] i first last old one two three new some at f l a b d e = absurd (omega arith)
ends_are (line ∷ lines) i first last old one two three new some at f l a b d e =
    let here : i ≡ length lines = omega (arith, at) in
    let ending : last ≡ last_of line lines = l ∙ ap (λ k. get_or (line ∷ lines) k last) here ∙ last_is line lines last in
    rw (e, d, b, a, ending, f) (simp append_assoc)

-- and as what was found writes them
pub found_ends : (lines : List Bytes) (i : ℕ) (old one two three new : Bytes) → 0 < length lines → i ≡ length lines - 1
    → one ≡ old ++ codes "first " → two ≡ one ++ get_or lines 0 [] ++ 10 ∷ [] → three ≡ two ++ codes "last "
    → new ≡ three ++ get_or lines i [] ++ 10 ∷ [] → new ≡ old ++ first_and_last lines
found_ends lines i old one two three new some at a b d e =
    let first : Bytes = get_or lines 0 [] in
    let last : Bytes = get_or lines i [] in
    ends_are lines i first last old one two three new some at (get_or_default lines 0 [] first some)
    (get_or_default lines i [] last (omega (arith, some, at))) a b d e
