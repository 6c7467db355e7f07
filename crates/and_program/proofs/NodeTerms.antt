-- The terms of a list of nodes: they depend on the nodes before them alone.
use Rattle.std.proofs.Common.{ℕ, zero, suc, ◌+◌, ◌≡◌, ◌<◌, pos, List, [], ◌∷◌, ◌++◌, length, map, get_or, take, drop, refl, sym, ap, ◌∙◌, arith, subst}
use Rattle.std.proofs.lemmas.List.{length-append, get_or_append_left, get_or_at, take-append-drop, drop_more, length-take-le}
use Rattle.and_model.specs.Terms
use Rattle.and_model.specs.Terms.{Term, Terms}
use Rattle.and_program.specs.Skeletons.{Shape, variable, number, compound, term_list, nth, shape_term, terms_behind, node_term, Falls, IsFalling, AllFall}

pub terms_behind-append : (ts : List Term) (ss us : List Shape) → terms_behind ts (ss ++ us) ≡ terms_behind (terms_behind ts ss) us
terms_behind-append ts [] us = refl
terms_behind-append ts (s ∷ ss) us = terms_behind-append (ts ++ shape_term ts s ∷ []) ss us

pub length-terms_behind : (ts : List Term) (ss : List Shape) → length (terms_behind ts ss) ≡ length ts + length ss
length-terms_behind ts [] = omega arith
length-terms_behind ts (s ∷ ss) = omega (arith, length-terms_behind (ts ++ shape_term ts s ∷ []) ss, length-append ts (shape_term ts s ∷ []))

-- what stands behind changes no term before it
pub nth-terms_behind : (ts : List Term) (ss : List Shape) (n : ℕ) → n < length ts → nth (terms_behind ts ss) n ≡ nth ts n
nth-terms_behind ts [] n lt = refl
nth-terms_behind ts (s ∷ ss) n lt =
    let t : Term = shape_term ts s in
    nth-terms_behind (ts ++ t ∷ []) ss n (omega (arith, length-append ts (t ∷ []))) ∙ get_or_append_left ts (t ∷ []) (Terms.number (pos 0)) n lt

pub node_term_front : (ss us : List Shape) (n : ℕ) → n < length ss → node_term (ss ++ us) n ≡ node_term ss n
node_term_front ss us n lt =
    ap (λ (ts : List Term). nth ts n) (terms_behind-append [] ss us) ∙ nth-terms_behind (terms_behind [] ss) us n (omega (arith, length-terms_behind [] ss))

split_at : (ss : List Shape) (n : ℕ) (d : Shape) → n < length ss → ss ≡ take n ss ++ get_or ss n d ∷ drop (n + 1) ss
split_at ss n d lt = sym (take-append-drop n ss) ∙ ap (λ (us : List Shape). take n ss ++ us) (drop_more ss n d lt)

-- the term of a node, by the nodes before it
pub node_term_at : (ss : List Shape) (n : ℕ) (d : Shape) → n < length ss → node_term ss n ≡ shape_term (terms_behind [] (take n ss)) (get_or ss n d)
node_term_at ss n d lt =
    let front : List Term = terms_behind [] (take n ss) in
    let t : Term = shape_term front (get_or ss n d) in
    let rest : List Shape = drop (n + 1) ss in
    let few : length front ≡ n = omega (arith, length-terms_behind [] (take n ss), length-take-le n ss (omega arith)) in
    ap (λ (us : List Shape). node_term us n) (split_at ss n d lt)
    ∙ ap (λ (ts : List Term). nth ts n) (terms_behind-append [] (take n ss) (get_or ss n d ∷ rest))
    ∙ nth-terms_behind (front ++ t ∷ []) rest n (omega (arith, length-append front (t ∷ [])))
    ∙ get_or_at front t [] (Terms.number (pos 0)) n few

-- arguments that are there have the same terms under more nodes
terms_of_arguments : (ss us : List Shape) (ms : List ℕ) → Falls (length ss) ms
    → term_list (map (nth (terms_behind [] (ss ++ us))) ms) ≡ term_list (map (nth (terms_behind [] ss)) ms)
terms_of_arguments ss us [] f = refl
terms_of_arguments ss us (m ∷ ms) f =
    ap (λ (t : Term). Terms.more t (term_list (map (nth (terms_behind [] (ss ++ us))) ms))) (node_term_front ss us m f.0)
    ∙ ap (λ (ts : Terms). Terms.more (nth (terms_behind [] ss) m) ts) (terms_of_arguments ss us ms f.1)

pub shape_term_front : (ss us : List Shape) (s : Shape) → IsFalling (length ss) s
    → shape_term (terms_behind [] (ss ++ us)) s ≡ shape_term (terms_behind [] ss) s
shape_term_front ss us (variable k) f = refl
shape_term_front ss us (number z) f = refl
shape_term_front ss us (compound c ms) f = ap (λ (ts : Terms). Terms.compound c ts) (terms_of_arguments ss us ms f)

pub AllFall-at : (k : ℕ) (ss : List Shape) (n : ℕ) (d : Shape) → AllFall k ss → n < length ss → IsFalling (k + n) (get_or ss n d)
AllFall-at k [] n d f lt = absurd (omega arith)
AllFall-at k (s ∷ ss) zero d f lt = let e : k ≡ k + 0 = omega arith in subst (λ (m : ℕ). IsFalling m s) e f.0
AllFall-at k (s ∷ ss) (suc n) d f lt =
    let e : suc k + n ≡ k + suc n = omega arith in subst (λ (m : ℕ). IsFalling m (get_or ss n d)) e (AllFall-at (suc k) ss n d f.1 (omega arith))

-- where arguments fall, the term of a node by the terms of all nodes
pub node_term_whole : (ss : List Shape) (n : ℕ) (d : Shape) → AllFall 0 ss → n < length ss → node_term ss n ≡ shape_term (terms_behind [] ss) (get_or ss n d)
node_term_whole ss n d f lt =
    let s : Shape = get_or ss n d in
    let few : 0 + n ≡ length (take n ss) = omega (arith, length-take-le n ss (omega arith)) in
    let falls : IsFalling (length (take n ss)) s = subst (λ (m : ℕ). IsFalling m s) few (AllFall-at 0 ss n d f lt) in
    node_term_at ss n d lt
    ∙ sym (shape_term_front (take n ss) (drop n ss) s falls)
    ∙ ap (λ (us : List Shape). shape_term (terms_behind [] us) s) (take-append-drop n ss)
