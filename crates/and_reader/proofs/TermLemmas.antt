-- What becomes of finished terms.
use Rattle.std.proofs.Common.{ℕ, zero, suc, ◌+◌, ◌-◌, ◌≡◌, ◌<◌, ◌≤◌, List, [], ◌∷◌, ◌++◌, length, take, drop, refl, sym, ap, ◌∙◌, arith, subst, Option, Some}
use Rattle.std.proofs.Common.{None, Result, Ok, Err, OnOk, add-one}
use Rattle.std.specs.Prelude.{reverse, codes}
use mathlib.Core.List.{reverse_aux}
use Rattle.std.proofs.lemmas.List.{reverse-append, reverse-reverse, length-reverse, length-append}
use Rattle.std.proofs.Math.Seq.{take-append_seam, drop-append_seam}
use Rattle.and_model.specs.Lines.{Bytes}
use Rattle.and_syntax.specs.Written.{Written}
use Rattle.and_language.specs.Grammar.{binary, unary, cell}
use Rattle.and_automaton.specs.Machine
use Rattle.and_automaton.specs.Machine.{Half, with_half, negated, conjunction, disjunction, list}
use Rattle.and_drafts.specs.Parts.{many}
use Rattle.and_reader.specs.Standing.{name_in, with_left}
use Rattle.and_reader.specs.Answered.{paired}

pub on_ok : {T E P Q : Type 0} (r : Result T E) → (P → Q) → OnOk r P → OnOk r Q
on_ok (Ok u) f h = f h
on_ok (Err e) f h = tt

front_of : {X : Type 0} (xs ys : List X) (k : ℕ) → k ≡ length xs → take k (xs ++ ys) ≡ xs
front_of xs ys k e = ap (λ (n : ℕ). take n (xs ++ ys)) e ∙ take-append_seam xs ys

back_of : {X : Type 0} (xs ys : List X) (k : ℕ) → k ≡ length xs → drop k (xs ++ ys) ≡ ys
back_of xs ys k e = ap (λ (n : ℕ). drop n (xs ++ ys)) e ∙ drop-append_seam xs ys

-- the finished terms (f before, g behind), the latest first, once a name takes those of ws
pub finished_one : (f g : List Written) (c : Bytes) (count : ℕ) (ws rest : List Written) → reverse f ≡ ws ++ rest → length ws ≡ count
    → g ≡ take (length f - count) f ++ Written.compound c (many (drop (length f - count) f)) ∷ [] → reverse g ≡ Written.compound c (many (reverse ws)) ∷ rest
finished_one f g c count ws rest e n is =
    let k : ℕ = length f - count in
    let split : f ≡ reverse rest ++ reverse ws = sym (reverse-reverse f) ∙ ap reverse e ∙ reverse-append ws rest in
    let few : k ≡ length (reverse rest) = omega (arith, ap length split, length-append (reverse rest) (reverse ws), length-reverse ws, length-reverse rest) in
    let front : take k f ≡ reverse rest = ap (take k) split ∙ front_of (reverse rest) (reverse ws) k few in
    let back : drop k f ≡ reverse ws = ap (drop k) split ∙ back_of (reverse rest) (reverse ws) k few in
    let x : Written = Written.compound c (many (reverse ws)) in
    let now : g ≡ reverse rest ++ x ∷ [] =
    is ∙ ap (λ (us : List Written). us ++ Written.compound c (many (drop k f)) ∷ []) front
    ∙ ap (λ (us : List Written). reverse rest ++ Written.compound c (many us) ∷ []) back in
    ap reverse now ∙ reverse-append (reverse rest) (x ∷ []) ∙ ap (λ (us : List Written). x ∷ us) (reverse-reverse rest)

-- an infix operator takes its operands
pub infix_done : {T E : Type 0} (r : Result T E) (old new : List Written) (c : Bytes) (o : Option Half) (w : Written) (rest : List Written)
    → Some c ≡ name_in o → old ≡ w ∷ with_left o rest
    → ((ws us : List Written) → old ≡ ws ++ us → length ws ≡ 2 → OnOk r (new ≡ Written.compound c (many (reverse ws)) ∷ us))
    → OnOk r (new ≡ with_half o w ∷ rest)
infix_done r old new c None w rest e t f = absurd cc
infix_done r old new c (Some h) w rest e t f =
    let same : c ≡ h.operator = cc in
    subst (λ (b : Bytes). OnOk r (new ≡ binary b h.left w ∷ rest)) same (f (w ∷ h.left ∷ []) rest t refl)

pub infix_missing : (o : Option Half) (w : Written) (old rest : List Written) → None ≡ name_in o → old ≡ w ∷ with_left o rest → old ≡ with_half o w ∷ rest
infix_missing None w old rest e t = t
infix_missing (Some h) w old rest e t = absurd cc

pub negated_out : (n : ℕ) (w : Written) → unary (codes "-") (negated n w) ≡ negated (n + 1) w
negated_out n w = rw add-one (out n w) where
  out : (n : ℕ) (w : Written) → unary (codes "-") (negated n w) ≡ negated (suc n) w
  out zero w = refl
  out (suc n) w = out n (unary (codes "-") w)

-- what some terms begin with
pub one_first : (ws : List Written) → 0 < length ws → (w : Written) × (rest : List Written) × (ws ≡ w ∷ rest)
one_first [] lt = absurd (omega arith)
one_first (w ∷ rest) lt = (w, rest, refl)

-- and with n terms behind that
pub some_first : (n : ℕ) (us : List Written) → n < length us
    → (w : Written) × (ws : List Written) × (rest : List Written) × (us ≡ w ∷ (ws ++ rest)) × (length ws ≡ n)
some_first n [] lt = absurd (omega arith)
some_first n (w ∷ us) lt = let p = split n us (omega arith) in (w, p.0, p.1, ap (λ (vs : List Written). w ∷ vs) p.2, p.3) where
  split : (n : ℕ) (us : List Written) → n ≤ length us → (ws : List Written) × (rest : List Written) × (us ≡ ws ++ rest) × (length ws ≡ n)
  split zero us le = ([], us, refl, refl)
  split (suc n) [] le = absurd (omega arith)
  split (suc n) (w ∷ us) le = let p = split n us (omega arith) in (w ∷ p.0, p.1, ap (λ (vs : List Written). w ∷ vs) p.2, ap suc p.3)

pub conjunction_is : (ws : List Written) (w : Written) → paired (codes ",") ws w ≡ conjunction ws w
conjunction_is [] w = refl
conjunction_is (a ∷ ws) w = conjunction_is ws (binary (codes ",") a w)

pub disjunction_is : (ws : List Written) (w : Written) → paired (codes ";") ws w ≡ disjunction ws w
disjunction_is [] w = refl
disjunction_is (a ∷ ws) w = disjunction_is ws (binary (codes ";") a w)

pub list_is : (ws : List Written) (w : Written) → paired (codes ".") ws w ≡ list ws w
list_is [] w = refl
list_is (a ∷ ws) w = list_is ws (cell a w)

-- one pair more
pub pairs_step : (c : Bytes) (times i : ℕ) (old new ws rest us : List Written) (w v : Written) → i < times → old ≡ v ∷ (us ++ rest) → length us + i ≡ times
    → paired c us v ≡ paired c ws w
    → ((xs ys : List Written) → old ≡ xs ++ ys → length xs ≡ 2 → new ≡ Written.compound c (many (reverse xs)) ∷ ys)
    → (x : Written) × (vs : List Written) × (new ≡ x ∷ (vs ++ rest)) × (length vs + (i + 1) ≡ times) × (paired c vs x ≡ paired c ws w)
pairs_step c times i old new ws rest [] w v lt t n same f = absurd (omega arith)
pairs_step c times i old new ws rest (a ∷ us) w v lt t n same f = (binary c a v, us, f (v ∷ a ∷ []) (us ++ rest) t refl, omega arith, same)

-- and all
pub pairs_end : (c : Bytes) (times i : ℕ) (old ws rest us : List Written) (w v : Written) → times ≤ i → old ≡ v ∷ (us ++ rest) → length us + i ≡ times
    → paired c us v ≡ paired c ws w
    → old ≡ paired c ws w ∷ rest
pairs_end c times i old ws rest [] w v le t n same = t ∙ ap (λ (x : Written). x ∷ rest) same
pairs_end c times i old ws rest (a ∷ us) w v le t n same = absurd (omega arith)

-- arguments in their order, from the latest on
pub arguments_are : (ws us : List Written) → many (reverse_aux ws us) ≡ Machine.many ws (many us)
arguments_are [] us = refl
arguments_are (a ∷ ws) us = arguments_are ws (a ∷ us)
