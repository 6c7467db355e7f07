-- References that were joined have one value wherever those that were linked have one, or are structures that were matched.
use Rattle.std.proofs.Common.{ℕ, zero, suc, ◌+◌, ◌≡◌, ◌<◌, ◌⊎◌, inl, inr, List, Option, Some, None, refl, sym, ap, ◌∙◌, arith}
use Rattle.std.proofs.lemmas.Option.{same_Some}
use Rattle.and_model.specs.Terms
use Rattle.and_model.specs.Terms.{Term, Terms, Substitution}
use Rattle.and_model.specs.declared.reference.Ref.{Ref}
use Rattle.and_program.specs.Skeletons.{AllFall}
use Rattle.and_cells.specs.Ranges.{NamedProgram}
use Rattle.and_cells.specs.Meaning.{Words}
use Rattle.and_laws.specs.Sizes.{size, sizes}
use Rattle.and_cells.specs.Parts.{parts_of}
use Rattle.and_cells.specs.Joined.{Joined, link, same, back, then, AllJoined, none, more, AreMatched, value}
use Rattle.and_cell_laws.proofs.Structures.{HaveValues, value_of_structure}

-- the size of a value, if there is one
abbrev pub size_of : Option Term → ℕ
size_of None = 0
size_of (Some u) = size u

-- one of two values is smaller than this
abbrev IsEitherBelow : ℕ → Option Term → Option Term → Type 0
IsEitherBelow n u v = (size_of u < n) ⊎ (size_of v < n)

-- What is shown by the size: joined references of which one has a value below this have one value.
abbrev HoldsBelow : NamedProgram → Words → Substitution → (Ref → Ref → Type 0) → ℕ → Type 0
HoldsBelow P w t Link n = (r q : Ref) → Joined Link r q → IsEitherBelow n (value P w t r) (value P w t q) → value P w t r ≡ value P w t q

-- So lists of joined references have the same values.
parts_agree : (P : NamedProgram) (w : Words) (t : Substitution) (Link : Ref → Ref → Type 0) (n : ℕ) → HoldsBelow P w t Link n
    → (rs qs : List Ref) (us vs : Terms) → AllJoined Link rs qs → HaveValues P w t rs us → HaveValues P w t qs vs
    → (sizes us < n) ⊎ (sizes vs < n) → us ≡ vs
parts_agree P w t Link n below rs qs Terms.none Terms.none none hu hv s = refl
parts_agree P w t Link n below rs qs Terms.none (Terms.more v vs) none hu hv s = absurd hv
parts_agree P w t Link n below rs qs (Terms.more u us) vs none hu hv s = absurd hu
parts_agree P w t Link n below rs qs Terms.none vs (more r q rs' qs' one rest) hu hv s = absurd hu
parts_agree P w t Link n below rs qs (Terms.more u us) Terms.none (more r q rs' qs' one rest) hu hv s = absurd hv
parts_agree P w t Link n below rs qs (Terms.more u us) (Terms.more v vs) (more r q rs' qs' one rest) hu hv s =
    let left : size_of (value P w t r) ≡ size u = ap size_of hu.0 in
    let right : size_of (value P w t q) ≡ size v = ap size_of hv.0 in
    let either : IsEitherBelow n (value P w t r) (value P w t q) = elim s [ inl a ↦ inl (omega arith) | inr b ↦ inr (omega arith) ] in
    let others : (sizes us < n) ⊎ (sizes vs < n) = elim s [ inl a ↦ inl (omega arith) | inr b ↦ inr (omega arith) ] in
    let head : u ≡ v = same_Some u v (sym hu.0 ∙ below r q one either ∙ hv.0) in
    let tail : us ≡ vs = parts_agree P w t Link n below rs' qs' us vs rest hu.1 hv.1 others in
    ap (λ (x : Term). Terms.more x us) head ∙ ap (λ (xs : Terms). Terms.more v xs) tail

-- Matched structures have one value where their parts have.
matched_agree : (P : NamedProgram) (w : Words) (t : Substitution) (Link : Ref → Ref → Type 0) (n : ℕ) → AllFall 0 P.skeleton.nodes → HoldsBelow P w t Link n
    → (r q : Ref) → AreMatched P Link r q → IsEitherBelow (suc n) (value P w t r) (value P w t q) → value P w t r ≡ value P w t q
matched_agree P w t Link n fall below r q m s =
    let (us, ru, hu) = value_of_structure P w t r m.name m.count fall m.left in
    let (vs, qv, hv) = value_of_structure P w t q m.name m.count fall m.right in
    let left : size_of (value P w t r) ≡ 1 + sizes us = ap size_of ru in
    let right : size_of (value P w t q) ≡ 1 + sizes vs = ap size_of qv in
    let either : (sizes us < n) ⊎ (sizes vs < n) = elim s [ inl a ↦ inl (omega arith) | inr b ↦ inr (omega arith) ] in
    let same_parts : us ≡ vs = parts_agree P w t Link n below (parts_of P r) (parts_of P q) us vs m.joined hu hv either in
    ru ∙ ap (λ (xs : Terms). Some (Terms.compound m.name xs)) same_parts ∙ sym qv

-- Linked references have one value, or are matched.
abbrev pub LinksAgree : NamedProgram → Words → Substitution → (Ref → Ref → Type 0) → Type 0
LinksAgree P w t Link = (r q : Ref) → Link r q → (value P w t r ≡ value P w t q) ⊎ AreMatched P Link r q

-- So what holds below a size holds below the next: a chain of joins keeps the value from the end where it is known to be small.
joined_agree : (P : NamedProgram) (w : Words) (t : Substitution) (Link : Ref → Ref → Type 0) (n : ℕ) → AllFall 0 P.skeleton.nodes → LinksAgree P w t Link
    → HoldsBelow P w t Link n → HoldsBelow P w t Link (suc n)
joined_agree P w t Link n fall links below r q (link r' q' l) s =
    elim (links r q l) [ inl e ↦ e | inr m ↦ matched_agree P w t Link n fall below r q m s ]
joined_agree P w t Link n fall links below r q (same r') s = refl
joined_agree P w t Link n fall links below r q (back q' r' j) s =
    sym (joined_agree P w t Link n fall links below q r j (elim s [ inl a ↦ inr a | inr b ↦ inl b ]))
joined_agree P w t Link n fall links below r p (then r' q p' j k) (inl a) =
    let first : value P w t r ≡ value P w t q = joined_agree P w t Link n fall links below r q j (inl a) in
    let still : size_of (value P w t r) ≡ size_of (value P w t q) = ap size_of first in
    first ∙ joined_agree P w t Link n fall links below q p k (inl (omega arith))
joined_agree P w t Link n fall links below r p (then r' q p' j k) (inr b) =
    let second : value P w t q ≡ value P w t p = joined_agree P w t Link n fall links below q p k (inr b) in
    let still : size_of (value P w t q) ≡ size_of (value P w t p) = ap size_of second in
    joined_agree P w t Link n fall links below r q j (inr (omega arith)) ∙ second

-- It holds below each size.
all_below : (P : NamedProgram) (w : Words) (t : Substitution) (Link : Ref → Ref → Type 0) (n : ℕ) → AllFall 0 P.skeleton.nodes → LinksAgree P w t Link
    → HoldsBelow P w t Link n
all_below P w t Link zero fall links r q j s = absurd (elim s [ inl a ↦ omega arith | inr b ↦ omega arith ])
all_below P w t Link (suc n) fall links r q j s = joined_agree P w t Link n fall links (all_below P w t Link n fall links) r q j s

-- Joined references have one value, where each link is between such or between structures of one name with joined parts.
pub joined_have_one_value : (P : NamedProgram) (w : Words) (t : Substitution) (Link : Ref → Ref → Type 0) → AllFall 0 P.skeleton.nodes
    → ((r q : Ref) → Link r q → (value P w t r ≡ value P w t q) ⊎ AreMatched P Link r q)
    → (r q : Ref) → Joined Link r q → value P w t r ≡ value P w t q
joined_have_one_value P w t Link fall links r q j = all_below P w t Link (suc (size_of (value P w t r))) fall links r q j (inl (omega arith))
