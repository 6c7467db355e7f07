-- Codes that are kept as what each has behind the one before it.
use Rattle.std.proofs.Common.{◌≡◌, ◌≢◌, ◌≤◌, ℕ, zero, suc, List, [], ◌∷◌, ◌++◌, take, drop, refl, sym, ap, ◌∙◌, subst}
use Rattle.std.proofs.Common.{arith}
use Rattle.std.proofs.lemmas.List.{take-append-drop}
use Rattle.and_answers.specs.Tails.{MayFollow}
use Rattle.std.specs.Prelude.{Option, Some, None}
use Rattle.and_answers.specs.Pieces.{code_behind, codes_from, last_from, IsInPlace, AreInPlace, HasFrom, IsLastOf}
use Rattle.and_answers.specs.declared.piece.Piece.{Piece}

-- ---- one piece more

pub codes_more : (last : List ℕ) (ps : List Piece) (p : Piece)
    → codes_from last (ps ++ p ∷ []) ≡ codes_from last ps ++ code_behind (last_from last ps) p ∷ []
codes_more last [] p = refl
codes_more last (q ∷ ps) p = ap (λ l. code_behind last q ∷ l) (codes_more (code_behind last q) ps p)

pub last_more : (last : List ℕ) (ps : List Piece) (p : Piece) → last_from last (ps ++ p ∷ []) ≡ code_behind (last_from last ps) p
last_more last [] p = refl
last_more last (q ∷ ps) p = last_more (code_behind last q) ps p

pub places_more : (last : List ℕ) (ps : List Piece) (p : Piece) → AreInPlace last ps → IsInPlace (last_from last ps) p
    → AreInPlace last (ps ++ p ∷ [])
places_more last [] p are is = (is, tt)
places_more last (q ∷ ps) p are is = (are.0, places_more (code_behind last q) ps p are.1 is)

-- The last piece is in place behind the others.
pub places_parted : (last : List ℕ) (ps : List Piece) (p : Piece) → AreInPlace last (ps ++ p ∷ [])
    → AreInPlace last ps × IsInPlace (last_from last ps) p
places_parted last [] p are = (tt, are.0)
places_parted last (q ∷ ps) p are =
    let rest = places_parted (code_behind last q) ps p are.1 in ((are.0, rest.0), rest.1)

-- A code is that of the piece which is what it has behind another one.
pub piece_code : (last code : List ℕ) (p : Piece) → HasFrom last code p.common → p.rest ≡ drop p.common code → code_behind last p ≡ code
piece_code last code p has rest =
    ap (λ l. l ++ p.rest) has.same ∙ ap (λ l. take p.common code ++ l) rest ∙ take-append-drop p.common code

pub piece_place : (last code : List ℕ) (p : Piece) → HasFrom last code p.common → p.rest ≡ drop p.common code → IsInPlace last p
piece_place last code p has rest = record {
  within = has.within;
  follows = λ some. subst (λ l. MayFollow (drop p.common last) l) (sym rest) (has.follows some);
}

-- ---- pieces behind others

pub taken_none : (n : ℕ) (xs : List ℕ) → n ≤ 0 → take n xs ≡ []
taken_none zero xs none = refl
taken_none (suc n) xs none = absurd (omega arith)

-- The first piece of all has nothing from a code before it.
code_anew : (last : List ℕ) (q : Piece) → IsInPlace [] q → code_behind last q ≡ code_behind [] q
code_anew last q is = ap (λ l. l ++ q.rest) (taken_none q.common last is.within ∙ sym (taken_none q.common [] is.within))

place_anew : (last : List ℕ) (q : Piece) → IsInPlace [] q → IsInPlace last q
place_anew last q is =
    let none = is.within in
    record { within = omega (arith, none); follows = λ some. absurd (let zero_is : q.common ≡ 0 = omega (arith, none) in some zero_is) }

pub codes_joined : (last : List ℕ) (ps qs : List Piece) → AreInPlace [] qs → codes_from last (ps ++ qs) ≡ codes_from last ps ++ codes_from [] qs
codes_joined last [] [] are = refl
codes_joined last [] (q ∷ qs) are = ap (λ c. c ∷ codes_from c qs) (code_anew last q are.0)
codes_joined last (p ∷ ps) qs are = ap (λ l. code_behind last p ∷ l) (codes_joined (code_behind last p) ps qs are)

pub last_joined : (last : List ℕ) (ps qs : List Piece) → AreInPlace [] qs → qs ≢ [] → last_from last (ps ++ qs) ≡ last_from [] qs
last_joined last [] [] are some = absurd (some refl)
last_joined last [] (q ∷ qs) are some = ap (λ c. last_from c qs) (code_anew last q are.0)
last_joined last (p ∷ ps) qs are some = last_joined (code_behind last p) ps qs are some

pub last_of_both : (last : Option (List ℕ)) (ps qs all : List Piece) → all ≡ ps ++ qs → AreInPlace [] qs → qs ≢ [] → IsLastOf qs last
    → IsLastOf all last
last_of_both None ps qs all is are some l = tt
last_of_both (Some code) ps qs all is are some l = l ∙ sym (last_joined [] ps qs are some) ∙ ap (last_from []) (sym is)

pub places_joined : (last : List ℕ) (ps qs : List Piece) → AreInPlace last ps → AreInPlace [] qs → AreInPlace last (ps ++ qs)
places_joined last [] [] are others = tt
places_joined last [] (q ∷ qs) are others =
    (place_anew last q others.0, subst (λ c. AreInPlace c qs) (sym (code_anew last q others.0)) others.1)
places_joined last (p ∷ ps) qs are others = (are.0, places_joined (code_behind last p) ps qs are.1 others)
