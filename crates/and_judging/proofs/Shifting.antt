-- Nodes behind others have the terms that they have alone.
use Rattle.std.proofs.Common.{ℕ, zero, suc, ◌+◌, ◌≡◌, ◌<◌, pos, List, [], ◌∷◌, ◌++◌, length, map, get_or, refl, sym, ap, ◌∙◌, arith, subst}
use Rattle.std.proofs.lemmas.List.{append_assoc, append-nil, length-append, length-map, get_or-append-add}
use Rattle.and_model.specs.Lines.{Bytes}
use Rattle.and_model.specs.Terms
use Rattle.and_model.specs.Terms.{Term, Terms}
use Rattle.and_syntax.specs.Written.{place, variable_number}
use Rattle.and_program.specs.Skeletons.{Shape, variable, number, compound, term_list, nth, shape_term, terms_behind, node_term, Falls, AllFall}
use Rattle.and_drafts.specs.Numbered.{behind, IsRead, shape_in, shapes_in, met_with}
use Rattle.and_drafts.specs.Parts
use Rattle.and_drafts.specs.Parts.{PartShape, PartsFall}
use Rattle.and_program.proofs.NodeTerms.{terms_behind-append, length-terms_behind, node_term_whole}
use Rattle.and_drafts.proofs.Reading.{length-shapes_in, AllFall-shapes_in}

nth-behind : (old us : List Term) (n m : ℕ) → length old ≡ n → nth (old ++ us) (n + m) ≡ nth us m
nth-behind old us n m few = ap (λ (k : ℕ). nth (old ++ us) (k + m)) (sym few) ∙ get_or-append-add old us m (Terms.number (pos 0))

map-behind : (old us : List Term) (n : ℕ) (ms : List ℕ) → length old ≡ n → map (nth (old ++ us)) (map (λ (m : ℕ). n + m) ms) ≡ map (nth us) ms
map-behind old us n [] few = refl
map-behind old us n (m ∷ ms) few =
    ap (λ (t : Term). t ∷ map (nth (old ++ us)) (map (λ (k : ℕ). n + k) ms)) (nth-behind old us n m few)
    ∙ ap (λ (ts : List Term). nth us m ∷ ts) (map-behind old us n ms few)

shape_term-behind : (old us : List Term) (n : ℕ) (s : Shape) → length old ≡ n → shape_term (old ++ us) (behind n s) ≡ shape_term us s
shape_term-behind old us n (variable k) few = refl
shape_term-behind old us n (number z) few = refl
shape_term-behind old us n (compound c ms) few = ap (λ (ts : List Term). Terms.compound c (term_list ts)) (map-behind old us n ms few)

terms_behind-behind : (old us : List Term) (n : ℕ) (ss : List Shape) → length old ≡ n → terms_behind (old ++ us) (map (behind n) ss) ≡ old ++ terms_behind us ss
terms_behind-behind old us n [] few = refl
terms_behind-behind old us n (s ∷ ss) few =
    ap (λ (ts : List Term). terms_behind ts (map (behind n) ss)) (ap (λ (t : Term). (old ++ us) ++ t ∷ []) (shape_term-behind old us n s few)
    ∙ append_assoc old us (shape_term us s ∷ []))
    ∙ terms_behind-behind old (us ++ shape_term us s ∷ []) n ss few

pub node_term-behind : (before ss : List Shape) (n m : ℕ) → length before ≡ n → node_term (before ++ map (behind n) ss) (n + m) ≡ node_term ss m
node_term-behind before ss n m few =
    let old : List Term = terms_behind [] before in
    let size : length old ≡ n = omega (arith, length-terms_behind [] before) in
    ap (λ (ts : List Term). nth ts (n + m)) (terms_behind-append [] before (map (behind n) ss)
    ∙ ap (λ (ts : List Term). terms_behind ts (map (behind n) ss)) (sym (append-nil old)) ∙ terms_behind-behind old [] n ss size)
    ∙ nth-behind old (terms_behind [] ss) n m size

-- the terms of a draft's nodes, wherever they stand
pub node_term_read : (ss : List Shape) (base : ℕ) (names : List Bytes) (ps : List PartShape) (m : ℕ) → IsRead ss base names ps
    → node_term ss (base + m) ≡ node_term (shapes_in names [] ps) m
node_term_read ss base names ps m r = ap (λ (us : List Shape). node_term us (base + m)) r.nodes ∙ node_term-behind r.before (shapes_in names [] ps) base m r.few

pub length_read : (ss : List Shape) (base : ℕ) (names : List Bytes) (ps : List PartShape) → IsRead ss base names ps → length ss ≡ base + length ps
length_read ss base names ps r =
    ap length r.nodes ∙ length-append r.before (map (behind base) (shapes_in names [] ps))
    ∙ (let e : length (map (behind base) (shapes_in names [] ps)) ≡ length ps = length-map (shapes_in names [] ps) (behind base)
    ∙ length-shapes_in names [] ps in omega (arith, r.few))

-- a term of a clause by the terms of its arguments
abbrev pub read_term : List Bytes → (ℕ → Term) → List Bytes → PartShape → Term
read_term names t met (Parts.variable x) = Terms.variable [] (variable_number x met)
read_term names t met (Parts.integer z) = Terms.number z
read_term names t met (Parts.compound c ns) = Terms.compound (place c names) (term_list (map t ns))

shapes_in-at : (names met : List Bytes) (ps : List PartShape) (n : ℕ) (d : Shape) (e : PartShape) → n < length ps
    → (met' : List Bytes) × (get_or (shapes_in names met ps) n d ≡ shape_in names met' (get_or ps n e))
shapes_in-at names met [] n d e lt = absurd (omega arith)
shapes_in-at names met (p ∷ ps) zero d e lt = (met, refl)
shapes_in-at names met (p ∷ ps) (suc n) d e lt = shapes_in-at names (met_with met p) ps n d e (omega arith)

map-same : (f g : ℕ → Term) (ns : List ℕ) → ((n : ℕ) → f n ≡ g n) → map f ns ≡ map g ns
map-same f g [] h = refl
map-same f g (n ∷ ns) h = ap (λ (t : Term). t ∷ map f ns) (h n) ∙ ap (λ (ts : List Term). g n ∷ ts) (map-same f g ns h)

read_shape : (names met : List Bytes) (ts : List Term) (t : ℕ → Term) (p : PartShape) → ((n : ℕ) → nth ts n ≡ t n)
    → shape_term ts (shape_in names met p) ≡ read_term names t met p
read_shape names met ts t (Parts.variable x) h = refl
read_shape names met ts t (Parts.integer z) h = refl
read_shape names met ts t (Parts.compound c ns) h = ap (λ (us : List Term). Terms.compound (place c names) (term_list us)) (map-same (nth ts) t ns h)

-- the term of a part's node
pub part_read : (ss : List Shape) (base : ℕ) (names : List Bytes) (ps : List PartShape) (n : ℕ) (d : PartShape) → IsRead ss base names ps
    → PartsFall 0 ps → n < length ps
    → (met : List Bytes) × (node_term ss (base + n) ≡ read_term names (λ (m : ℕ). node_term ss (base + m)) met (get_or ps n d))
part_read ss base names ps n d r f lt =
    let rel : List Shape = shapes_in names [] ps in
    let at = shapes_in-at names [] ps n (number (pos 0)) d lt in (
      at.0,
      node_term_read ss base names ps n r
          ∙ node_term_whole rel n (number (pos 0)) (AllFall-shapes_in names [] 0 ps f) (omega (arith, length-shapes_in names [] ps))
          ∙ ap (shape_term (terms_behind [] rel)) at.1
          ∙ read_shape names at.0 (terms_behind [] rel) (λ (m : ℕ). node_term ss (base + m)) (get_or ps n d) (λ m. sym (node_term_read ss base names ps m r)),
    )

pub Falls-behind : (n k : ℕ) (ms : List ℕ) → Falls k ms → Falls (n + k) (map (λ (m : ℕ). n + m) ms)
Falls-behind n k [] f = tt
Falls-behind n k (m ∷ ms) f = (omega (arith, f.0), Falls-behind n k ms f.1)

pub AllFall-behind : (n k : ℕ) (ss : List Shape) → AllFall k ss → AllFall (n + k) (map (behind n) ss)
AllFall-behind n k [] f = tt
AllFall-behind n k (variable v ∷ ss) f =
    (tt, let e : n + suc k ≡ suc (n + k) = omega arith in subst (λ (m : ℕ). AllFall m (map (behind n) ss)) e (AllFall-behind n (suc k) ss f.1))
AllFall-behind n k (number z ∷ ss) f =
    (tt, let e : n + suc k ≡ suc (n + k) = omega arith in subst (λ (m : ℕ). AllFall m (map (behind n) ss)) e (AllFall-behind n (suc k) ss f.1))
AllFall-behind n k (compound c ms ∷ ss) f = (
  Falls-behind n k ms f.0,
  let e : n + suc k ≡ suc (n + k) = omega arith in subst (λ (m : ℕ). AllFall m (map (behind n) ss)) e (AllFall-behind n (suc k) ss f.1),
)
