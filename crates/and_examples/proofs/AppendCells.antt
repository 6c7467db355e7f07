-- Example append-cells: app(nil,L,L). app(c(H,T),L,c(H,R)) :- app(T,L,R). ?- app(X,Y,c(1,nil)).
use Rattle.std.proofs.Common.{ℕ, zero, suc, ◌≡◌, [], ◌∷◌, refl, inl, Some, None, codes}
use Rattle.std.specs.Fmt.{digits}
use Rattle.and_model.specs.Terms.{Path, variable, Substitution, apply}
use Rattle.and_model.specs.Solutions.{Solves, MostGeneral}
use Rattle.and_model.specs.Programs.{clause_at, clause_weight}
use Rattle.and_model.specs.Closure.{Closes}
use Rattle.and_model.specs.Trees.{QueryTree, done, left, by, Open, call_of, equations, unfold_code}
use Rattle.and_model.specs.Listing.{Ends, answer}
use Rattle.and_examples.specs.Ending.{UnfoldsTo, CodeEnds}
use Rattle.and_examples.specs.Texts.{own, at, whole, app, nil, cell, append_text}

-- 1 and L; 1 and H, T, L, R; 1 and X, Y
pub weights : (clause_weight (clause_at append_text 1) ≡ 2) × (clause_weight (clause_at append_text 2) ≡ 5) × (clause_weight append_text.query ≡ 3)
unfolding clause_weight
weights = (refl, refl, refl)

abbrev pub first_tree : QueryTree append_text
first_tree = by 1 refl done

abbrev open_tree : QueryTree append_text
open_tree = by 2 refl (left done)

abbrev pub second_tree : QueryTree append_text
second_tree = by 2 refl (by 1 refl done)

-- 3 + 2
pub first : UnfoldsTo append_text (1 ∷ []) ((app (own 0) (own 1) (cell (whole 1) nil), app nil (at (0 ∷ []) 0) (at (0 ∷ []) 0)) ∷ []) 5
unfolding clause_weight
first = (first_tree, refl, refl, refl)

-- 3 + 5 + 2
pub second : UnfoldsTo append_text (2 ∷ 1 ∷ [])
    ((app (own 0) (own 1) (cell (whole 1) nil), app (cell (at (0 ∷ []) 0) (at (0 ∷ []) 1)) (at (0 ∷ []) 2) (cell (at (0 ∷ []) 0) (at (0 ∷ []) 3)))
    ∷ (app (at (0 ∷ []) 1) (at (0 ∷ []) 2) (at (0 ∷ []) 3), app nil (at (0 ∷ 0 ∷ []) 0) (at (0 ∷ 0 ∷ []) 0)) ∷ []) 10
unfolding clause_weight
second = (second_tree, refl, refl, refl)

pub left_open : (t : QueryTree append_text) × (unfold_code append_text (2 ∷ []) ≡ Some t) × (o : Open t)
    × (call_of t o ≡ app (at (0 ∷ []) 1) (at (0 ∷ []) 2) (at (0 ∷ []) 3))
left_open = (open_tree, refl, inl tt, refl)

pub no_tree : (unfold_code append_text (1 ∷ 1 ∷ []) ≡ None) × (unfold_code append_text (3 ∷ []) ≡ None)
no_tree = (refl, refl)

-- X = nil, Y = L = c(1,nil)
abbrev first_answer : Substitution
first_answer [] zero = nil
first_answer [] (suc zero) = cell (whole 1) nil
first_answer [] (suc (suc k)) = variable [] (suc (suc k))
first_answer (zero ∷ []) zero = cell (whole 1) nil
first_answer (zero ∷ []) (suc k) = variable (0 ∷ []) (suc k)
first_answer (zero ∷ j ∷ r) k = variable (0 ∷ j ∷ r) k
first_answer (suc i ∷ r) k = variable (suc i ∷ r) k

first_general : MostGeneral first_answer (equations first_tree)
first_general = ((refl, tt), through)
  where
    through : (t : Substitution) → Solves t (equations first_tree) → (r : Path) (k : ℕ) → t r k ≡ apply t (first_answer r k)
    through t h [] zero = let e = h.0 in cc
    through t h [] (suc zero) = let e = h.0 in cc
    through t h [] (suc (suc k)) = refl
    through t h (zero ∷ []) zero = let e = h.0 in cc
    through t h (zero ∷ []) (suc k) = refl
    through t h (zero ∷ j ∷ r) k = refl
    through t h (suc i ∷ r) k = refl

-- X = c(1,nil), Y = nil, with H = 1 and T = L = R = nil in the frame [0], and L = nil in the frame [0, 0]
abbrev second_answer : Substitution
second_answer [] zero = cell (whole 1) nil
second_answer [] (suc zero) = nil
second_answer [] (suc (suc k)) = variable [] (suc (suc k))
second_answer (zero ∷ []) zero = whole 1
second_answer (zero ∷ []) (suc zero) = nil
second_answer (zero ∷ []) (suc (suc zero)) = nil
second_answer (zero ∷ []) (suc (suc (suc zero))) = nil
second_answer (zero ∷ []) (suc (suc (suc (suc k)))) = variable (0 ∷ []) (suc (suc (suc (suc k))))
second_answer (zero ∷ zero ∷ []) zero = nil
second_answer (zero ∷ zero ∷ []) (suc k) = variable (0 ∷ 0 ∷ []) (suc k)
second_answer (zero ∷ zero ∷ j ∷ r) k = variable (0 ∷ 0 ∷ j ∷ r) k
second_answer (zero ∷ suc j ∷ r) k = variable (0 ∷ suc j ∷ r) k
second_answer (suc i ∷ r) k = variable (suc i ∷ r) k

second_general : MostGeneral second_answer (equations second_tree)
second_general = ((refl, (refl, tt)), through)
  where
    through : (t : Substitution) → Solves t (equations second_tree) → (r : Path) (k : ℕ) → t r k ≡ apply t (second_answer r k)
    through t h [] zero = let e = h.0 in let f = h.1.0 in cc
    through t h [] (suc zero) = let e = h.0 in let f = h.1.0 in cc
    through t h [] (suc (suc k)) = refl
    through t h (zero ∷ []) zero = let e = h.0 in let f = h.1.0 in cc
    through t h (zero ∷ []) (suc zero) = let e = h.0 in let f = h.1.0 in cc
    through t h (zero ∷ []) (suc (suc zero)) = let e = h.0 in let f = h.1.0 in cc
    through t h (zero ∷ []) (suc (suc (suc zero))) = let e = h.0 in let f = h.1.0 in cc
    through t h (zero ∷ []) (suc (suc (suc (suc k)))) = refl
    through t h (zero ∷ zero ∷ []) zero = let e = h.0 in let f = h.1.0 in cc
    through t h (zero ∷ zero ∷ []) (suc k) = refl
    through t h (zero ∷ zero ∷ j ∷ r) k = refl
    through t h (zero ∷ suc j ∷ r) k = refl
    through t h (suc i ∷ r) k = refl

pub first_end : Ends first_tree (answer (codes "X = nil, Y = c(1,nil)"))
unfolding digits
first_end = (tt, equations first_tree, [], Closes.waiting (equations first_tree) [] tt, first_answer, first_general, refl)

pub second_end : Ends second_tree (answer (codes "X = c(1,nil), Y = nil"))
unfolding digits
second_end = (tt, equations second_tree, [], Closes.waiting (equations second_tree) [] tt, second_answer, second_general, refl)

pub first_ends : CodeEnds append_text (1 ∷ []) (answer (codes "X = nil, Y = c(1,nil)"))
first_ends = (first_tree, refl, first_end)

pub second_ends : CodeEnds append_text (2 ∷ 1 ∷ []) (answer (codes "X = c(1,nil), Y = nil"))
second_ends = (second_tree, refl, second_end)
