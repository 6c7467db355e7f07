-- Codes that begin alike.
use Rattle.std.proofs.Common.{◌≡◌, ◌≤◌, ◌+◌, ℕ, List, [], ◌∷◌, ◌++◌, length, take, drop, refl, sym, ap, ◌∙◌, subst, arith, map}
use Rattle.std.proofs.Common.{length-append}
use Rattle.std.proofs.lemmas.List.{take-append-drop, take-append-le, take-take, drop-drop, length-drop}
use lib.Seq.{take-add}
use Rattle.and_model.specs.Listing.{Entry}
use Rattle.and_model.specs.Prefixes.{IsPrefix}
use Rattle.and_answers.specs.Kept.{last_code_or}
use Rattle.and_answers.specs.Pieces.{code_behind, codes_from, last_from, last_or, HasFrom}
use Rattle.and_answers.specs.Tails.{ArePartedAtOnce, BeginAlike, HaveInCommon}
use Rattle.and_answers.specs.declared.piece.Piece.{Piece}

-- No clause is asked of them.
pub none_alike : (one other : List ℕ) → BeginAlike one other 0
none_alike one other = record { within_one = omega arith; within_other = omega arith; same = refl }

-- A code begins as it does itself.
pub whole_alike : (one other : List ℕ) → one ≡ other → BeginAlike one other (length other)
whole_alike one other same =
    let long = ap (λ (l : List ℕ). length l) same in
    record { within_one = omega (arith, long); within_other = omega arith; same = ap (take (length other)) same }

-- So do codes that go on,
pub longer_alike : (last short long : List ℕ) (n : ℕ) → IsPrefix short long → BeginAlike last short n → BeginAlike last long n
longer_alike last short long n (rest, is) a =
    let whole = ap (λ (l : List ℕ). length l) is in
    let parts = length-append short rest in
    let inside = a.within_other in
    record {
      within_one = a.within_one;
      within_other = omega (arith, whole, parts, inside);
      same = a.same ∙ sym (ap (take n) is ∙ take-append-le n short rest a.within_other);
    }

-- and those that are cut off, as far as they are left.
pub shorter_alike : (last short long : List ℕ) (n m : ℕ) → m ≤ n → m ≤ length short → IsPrefix short long → BeginAlike last long n
    → BeginAlike last short m
shorter_alike last short long n m less inside (rest, is) a =
    let wide = a.within_one in
    record {
      within_one = omega (arith, less, wide);
      within_other = inside;
      same = sym (take-take m n last less) ∙ ap (take m) a.same ∙ take-take m n long less ∙ ap (take m) is ∙ take-append-le m short rest inside;
    }

-- ---- compared from there on

pub alike_more : (xs ys : List ℕ) (n k : ℕ) → BeginAlike xs ys n → HaveInCommon (drop n xs) (drop n ys) k → HaveInCommon xs ys (n + k)
alike_more xs ys n k a h =
    let one = length-drop n xs in
    let other = length-drop n ys in
    let here = a.within_one in
    let there = a.within_other in
    let more = h.within_one in
    let far = h.within_other in
    record {
      within_one = omega (arith, one, here, more);
      within_other = omega (arith, other, there, far);
      same = take-add n k xs ∙ ap (λ l. l ++ take k (drop n xs)) a.same ∙ ap (λ l. take n ys ++ l) h.same
          ∙ sym (take-add n k ys);
      parted = subst (λ l. ArePartedAtOnce (drop (n + k) xs) l) (drop-drop k n ys)
          (subst (λ l. ArePartedAtOnce l (drop k (drop n ys))) (drop-drop k n xs) h.parted);
    }

-- A code that is told on is the other one.
pub code_told : (last code new : List ℕ) (n : ℕ) → HasFrom last code n → new ≡ take n last ++ drop n code → new ≡ code
code_told last code new n has is = is ∙ ap (λ l. l ++ drop n code) has.same ∙ take-append-drop n code

-- ---- the last one

pub last_of_pieces : (last : List ℕ) (ps : List Piece) → last_or last (codes_from last ps) ≡ last_from last ps
last_of_pieces last [] = refl
last_of_pieces last (p ∷ ps) = last_of_pieces (code_behind last p) ps

pub last_of_entries : (last : List ℕ) (es : List Entry) → last_code_or last es ≡ last_or last (map (λ (e : Entry). e.code) es)
last_of_entries last [] = refl
last_of_entries last (e ∷ es) = last_of_entries e.code es

last_added : (last : List ℕ) (es : List Entry) (e : Entry) → last_code_or last (es ++ e ∷ []) ≡ e.code
last_added last [] e = refl
last_added last (d ∷ es) e = last_added d.code es e

-- (of entries to which one was added)
pub last_is_added : (last : List ℕ) (es all : List Entry) (e : Entry) → all ≡ es ++ e ∷ [] → last_code_or last all ≡ e.code
last_is_added last es all e is = ap (last_code_or last) is ∙ last_added last es e
