-- The numbers and the names that a body's alternatives and disjunctions have.
use Rattle.std.proofs.Common.{ℕ, zero, suc, ◌≡◌, ◌+◌, ◌≤◌, List, [], ◌∷◌, ◌++◌, length, map, refl, ap, sym, ◌∙◌, arith}
use Rattle.std.proofs.lemmas.List.{map-append, length-append}
use Rattle.and_source.specs.Source.{SourceItems, Alternatives, numbers_in_items, numbers_in_alternatives, numbers_from}
use Rattle.and_source.specs.Source.{disjunctions_in_items, disjunctions_in_alternatives}
use Rattle.and_syntax.specs.Clauses
use Rattle.and_syntax.specs.Clauses.{Parts, no_parts, item, impure, Choices, no_choices, choice}
use Rattle.and_syntax.specs.Clauses.{alternatives_of, alternatives_in, disjunctions_of, disjunctions_within, numbered, numbered_in}

-- n numbers and then m more
pub from-append : (c n m : ℕ) → numbers_from c n ++ numbers_from (c + n) m ≡ numbers_from c (n + m)
from-append c zero m =
    let e : c + 0 ≡ c = omega arith in
    let f : 0 + m ≡ m = omega arith in
    ap (λ k. numbers_from k m) e ∙ ap (numbers_from c) (sym f)
from-append c (suc n) m =
    let e : c + suc n ≡ suc c + n = omega arith in
    let f : suc n + m ≡ suc (n + m) = omega arith in
    ap (λ k. c ∷ numbers_from (suc c) n ++ numbers_from k m) e
    ∙ ap (λ ks. c ∷ ks) (from-append (suc c) n m) ∙ ap (numbers_from c) (sym f)

pub length-from : (c n : ℕ) → length (numbers_from c n) ≡ n
length-from c zero = refl
length-from c (suc n) = ap suc (length-from (suc c) n)

module _ (name : ℕ → ℕ) where
  mutual
    -- alternatives have the numbers from c on
    pub items_numbers : (c d : ℕ) (ps : Parts) → numbers_in_items (numbered name c d ps) ≡ numbers_from c (alternatives_of ps)
    items_numbers c d no_parts = refl
    items_numbers c d (item i ps) = items_numbers c d ps
    items_numbers c d (impure ps) = items_numbers c d ps
    items_numbers c d (Clauses.either cs ps) =
        let e : ℕ = suc (d + disjunctions_within cs) in
        let m : ℕ = c + alternatives_in cs in
        ap (λ ns. ns ++ numbers_in_items (numbered name m e ps)) (alternatives_numbers c (suc d) cs)
        ∙ ap (λ ns. numbers_from c (alternatives_in cs) ++ ns) (items_numbers m e ps)
        ∙ from-append c (alternatives_in cs) (alternatives_of ps)

    pub alternatives_numbers : (c d : ℕ) (cs : Choices) → numbers_in_alternatives (numbered_in name c d cs) ≡ numbers_from c (alternatives_in cs)
    alternatives_numbers c d no_choices = refl
    alternatives_numbers c d (choice ps cs) =
        let e : ℕ = d + disjunctions_of ps in
        let m : ℕ = suc (c + alternatives_of ps) in
        let k : m ≡ suc c + alternatives_of ps = omega arith in
        ap (λ ns. c ∷ ns ++ numbers_in_alternatives (numbered_in name m e cs)) (items_numbers (suc c) d ps)
        ∙ ap (λ ns. c ∷ numbers_from (suc c) (alternatives_of ps) ++ ns) (alternatives_numbers m e cs)
        ∙ ap (λ j. c ∷ numbers_from (suc c) (alternatives_of ps) ++ numbers_from j (alternatives_in cs)) k
        ∙ ap (λ ns. c ∷ ns) (from-append (suc c) (alternatives_of ps) (alternatives_in cs))

  -- the names of disjunctions
  abbrev pub names_of_disjunctions : List (ℕ × Alternatives) → List ℕ
  names_of_disjunctions ds = map (λ (x : ℕ × Alternatives). x.0) ds

  mutual
    -- disjunctions have those of the numbers from d on
    pub items_names : (c d : ℕ) (ps : Parts)
        → names_of_disjunctions (disjunctions_in_items (numbered name c d ps)) ≡ map name (numbers_from d (disjunctions_of ps))
    items_names c d no_parts = refl
    items_names c d (item i ps) = items_names c d ps
    items_names c d (impure ps) = items_names c d ps
    items_names c d (Clauses.either cs ps) =
        let e : ℕ = suc (d + disjunctions_within cs) in
        let m : ℕ = c + alternatives_in cs in
        let k : e ≡ suc d + disjunctions_within cs = omega arith in
        let inner : List (ℕ × Alternatives) = disjunctions_in_alternatives (numbered_in name c (suc d) cs) in
        let outer : List (ℕ × Alternatives) = disjunctions_in_items (numbered name m e ps) in
        let n : ℕ = disjunctions_within cs in
        let l : ℕ = disjunctions_of ps in
        ap (λ ns. name d ∷ ns) (map-append (λ (x : ℕ × Alternatives). x.0) inner outer)
        ∙ ap (λ ns. name d ∷ ns ++ names_of_disjunctions outer) (alternatives_names c (suc d) cs)
        ∙ ap (λ ns. name d ∷ map name (numbers_from (suc d) n) ++ ns) (items_names m e ps)
        ∙ ap (λ j. name d ∷ map name (numbers_from (suc d) n) ++ map name (numbers_from j l)) k
        ∙ ap (λ ns. name d ∷ ns) (sym (map-append name (numbers_from (suc d) n) (numbers_from (suc d + n) l)))
        ∙ ap (λ ns. name d ∷ map name ns) (from-append (suc d) n l)

    pub alternatives_names : (c d : ℕ) (cs : Choices)
        → names_of_disjunctions (disjunctions_in_alternatives (numbered_in name c d cs)) ≡ map name (numbers_from d (disjunctions_within cs))
    alternatives_names c d no_choices = refl
    alternatives_names c d (choice ps cs) =
        let e : ℕ = d + disjunctions_of ps in
        let m : ℕ = suc (c + alternatives_of ps) in
        let inner : List (ℕ × Alternatives) = disjunctions_in_items (numbered name (suc c) d ps) in
        let outer : List (ℕ × Alternatives) = disjunctions_in_alternatives (numbered_in name m e cs) in
        let n : ℕ = disjunctions_of ps in
        let l : ℕ = disjunctions_within cs in
        map-append (λ (x : ℕ × Alternatives). x.0) inner outer
        ∙ ap (λ ns. ns ++ names_of_disjunctions outer) (items_names (suc c) d ps)
        ∙ ap (λ ns. map name (numbers_from d n) ++ ns) (alternatives_names m e cs)
        ∙ sym (map-append name (numbers_from d n) (numbers_from (d + n) l))
        ∙ ap (map name) (from-append d n l)
