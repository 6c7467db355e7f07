-- Codes beside entries, as entries come and go.
use Rattle.std.proofs.Common.{◌≡◌, ℕ, List, [], ◌∷◌, ◌++◌, map, refl, ap, sym, ◌∙◌}
use Rattle.std.proofs.lemmas.List.{map-append}
use Rattle.and_model.specs.Listing
use Rattle.std.specs.Prelude.{Option, Some}
use Rattle.and_answers.specs.Kept.{last_code, listed, AreCodesOf}
use Rattle.and_answers.specs.declared.found.Found.{Found}

-- the codes of these
abbrev pub codes_of : List Listing.Entry → List (List ℕ)
codes_of es = map (λ (e : Listing.Entry). e.code) es

-- The same entries have the same codes.
pub kept : (one other : Found) (codes : List (List ℕ)) → listed other ≡ listed one → AreCodesOf one codes → AreCodesOf other codes
kept one other codes same beside = ap codes_of same ∙ beside

-- Those of two are the codes of both.
pub of_both : (one other both : Found) (cs ds : List (List ℕ)) → listed both ≡ listed one ++ listed other → AreCodesOf one cs
    → AreCodesOf other ds → AreCodesOf both (cs ++ ds)
of_both one other both cs ds merged first second =
    ap codes_of merged ∙ map-append (λ (x : Listing.Entry). x.code) (listed one) (listed other)
    ∙ ap (λ (es : List (List ℕ)). es ++ codes_of (listed other)) first ∙ ap (λ (bs : List (List ℕ)). cs ++ bs) second

-- ---- The code of the last one

last_of : (es : List Listing.Entry) (e : Listing.Entry) → last_code (es ++ e ∷ []) ≡ Some e.code
last_of [] e = refl
last_of (d ∷ []) e = refl
last_of (d ∷ c ∷ es) e = last_of (c ∷ es) e

-- an entry more
pub last_more : (old new : Found) (e : Listing.Entry) → listed new ≡ listed old ++ e ∷ [] → Some e.code ≡ last_code (listed new)
last_more old new e more = sym (ap last_code more ∙ last_of (listed old) e)

-- the same entries
pub last_kept : (one other : Found) (code : Option (List ℕ)) → listed other ≡ listed one → code ≡ last_code (listed one)
    → code ≡ last_code (listed other)
last_kept one other code same is = is ∙ ap last_code (sym same)
