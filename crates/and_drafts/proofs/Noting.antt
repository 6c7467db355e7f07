-- One step of a way through the parts of a term.
use Rattle.std.proofs.Common.{ℕ, zero, suc, ◌+◌, ◌≡◌, ◌<◌, ◌≤◌, pos, List, [], ◌∷◌, ◌++◌, length, map, get_or, take, drop, reverse, refl, sym, ap, ◌∙◌, arith}
use Rattle.std.proofs.Common.{subst}
use Rattle.std.proofs.Math.Seq.{take-length}
use Rattle.std.proofs.lemmas.List.{length-append, get_or_at, take-append-drop, drop_more, length-take-le, length-map, get_or-map, reverse-append}
use Rattle.std.proofs.lemmas.List.{reverse-reverse, map-append, take-take, length-take}
use Rattle.and_model.specs.Lines.{Bytes}
use Rattle.and_syntax.specs.Written.{Written, nodes_of, nodes_in, named, named_all}
use Rattle.and_program.specs.Skeletons.{Falls}
use Rattle.and_drafts.specs.declared.draft.DraftPart.{DraftPart}
use Rattle.and_drafts.specs.Numbered.{named_by, Extends}
use Rattle.and_drafts.specs.Parts.{PartShape, variable, integer, compound, part_shape, part_shapes, many, nth_written, shape_written, written_behind}
use Rattle.and_drafts.specs.Parts.{written_at, arguments_of, PartsFall}
use Rattle.and_drafts.proofs.Drafting.{Falls-more, written_behind-append, length-written_behind, nth-written_behind, written_at_front, nodes_in-many}

split_at : {X : Type 0} (xs : List X) (n : ℕ) (d : X) → n < length xs → xs ≡ take n xs ++ get_or xs n d ∷ drop (n + 1) xs
split_at {X} xs n d lt = sym (take-append-drop n xs) ∙ ap (λ (ys : List X). take n xs ++ ys) (drop_more xs n d lt)

-- the term of a part, by the parts before it
written_at_is : (ps : List PartShape) (n : ℕ) (d : PartShape) → n < length ps → written_at ps n ≡ shape_written (written_behind [] (take n ps)) (get_or ps n d)
written_at_is ps n d lt =
    let front : List Written = written_behind [] (take n ps) in
    let t : Written = shape_written front (get_or ps n d) in
    let rest : List PartShape = drop (n + 1) ps in
    let few : length front ≡ n = omega (arith, length-written_behind [] (take n ps), length-take-le n ps (omega arith)) in
    ap (λ (qs : List PartShape). written_at qs n) (split_at ps n d lt)
    ∙ ap (λ (ws : List Written). nth_written ws n) (written_behind-append [] (take n ps) (get_or ps n d ∷ rest))
    ∙ nth-written_behind (front ++ t ∷ []) rest n (omega (arith, length-append front (t ∷ [])))
    ∙ get_or_at front t [] (Written.integer (pos 0)) n few

written_front : (ps qs : List PartShape) (ns : List ℕ) → Falls (length ps) ns
    → map (nth_written (written_behind [] (ps ++ qs))) ns ≡ map (nth_written (written_behind [] ps)) ns
written_front ps qs [] f = refl
written_front ps qs (n ∷ ns) f =
    ap (λ (t : Written). t ∷ map (nth_written (written_behind [] (ps ++ qs))) ns) (written_at_front ps qs n f.0)
    ∙ ap (λ (ws : List Written). nth_written (written_behind [] ps) n ∷ ws) (written_front ps qs ns f.1)

shape_written_front : (ps qs : List PartShape) (p : PartShape) → Falls (length ps) (arguments_of p)
    → shape_written (written_behind [] (ps ++ qs)) p ≡ shape_written (written_behind [] ps) p
shape_written_front ps qs (variable x) f = refl
shape_written_front ps qs (integer z) f = refl
shape_written_front ps qs (compound c ns) f = ap (λ (ws : List Written). Written.compound c (many ws)) (written_front ps qs ns f)

pub PartsFall-at : (k : ℕ) (ps : List PartShape) (n : ℕ) (d : PartShape) → PartsFall k ps → n < length ps → Falls (k + n) (arguments_of (get_or ps n d))
PartsFall-at k [] n d f lt = absurd (omega arith)
PartsFall-at k (p ∷ ps) zero d f lt = let e : k ≡ k + 0 = omega arith in subst (λ (m : ℕ). Falls m (arguments_of p)) e f.0
PartsFall-at k (p ∷ ps) (suc n) d f lt =
    let e : suc k + n ≡ k + suc n = omega arith in subst (λ (m : ℕ). Falls m (arguments_of (get_or ps n d))) e (PartsFall-at (suc k) ps n d f.1 (omega arith))

-- where arguments fall, the term of a part by those of all parts
pub written_at_whole : (ps : List PartShape) (n : ℕ) (d : PartShape) → PartsFall 0 ps → n < length ps
    → written_at ps n ≡ shape_written (written_behind [] ps) (get_or ps n d)
written_at_whole ps n d f lt =
    let p : PartShape = get_or ps n d in
    let few : 0 + n ≡ length (take n ps) = omega (arith, length-take-le n ps (omega arith)) in
    let falls : Falls (length (take n ps)) (arguments_of p) = subst (λ (m : ℕ). Falls m (arguments_of p)) few (PartsFall-at 0 ps n d f lt) in
    written_at_is ps n d lt
    ∙ sym (shape_written_front (take n ps) (drop n ps) p falls)
    ∙ ap (λ (qs : List PartShape). shape_written (written_behind [] qs) p) (take-append-drop n ps)

named_all-many : (names : List Bytes) (xs ys : List Written) → named_all names (many (xs ++ ys)) ≡ named_all (named_all names (many xs)) (many ys)
named_all-many names [] ys = refl
named_all-many names (x ∷ xs) ys = named_all-many (named names x) xs ys

-- the name of a part and those of its arguments are those of its term
named_part : (ws : List Written) (names : List Bytes) (p : PartShape)
    → named_all (named_by names p) (many (map (nth_written ws) (arguments_of p))) ≡ named names (shape_written ws p)
named_part ws names (variable x) = refl
named_part ws names (integer z) = refl
named_part ws names (compound c ns) = refl

below_part : (ws : List Written) (p : PartShape) → nodes_in (many (map (nth_written ws) (arguments_of p))) < nodes_of (shape_written ws p)
below_part ws (variable x) = omega arith
below_part ws (integer z) = omega arith
below_part ws (compound c ns) = omega arith

-- the term of a part of the code
pub written_part : (parts : List DraftPart) (n : ℕ) (p : DraftPart) → PartsFall 0 (part_shapes parts) → n < length parts → p ≡ get_or parts n p
    → written_at (part_shapes parts) n ≡ shape_written (written_behind [] (part_shapes parts)) (part_shape p)
written_part parts n p f lt at =
    written_at_whole (part_shapes parts) n (part_shape p) f (omega (arith, length-map parts part_shape))
    ∙ ap (shape_written (written_behind [] (part_shapes parts))) (get_or-map part_shape parts n p (part_shape p) lt ∙ ap part_shape (sym at))

pub part_falls : (parts : List DraftPart) (n : ℕ) (p : DraftPart) → PartsFall 0 (part_shapes parts) → n < length parts → p ≡ get_or parts n p
    → Falls n (arguments_of (part_shape p))
part_falls parts n p f lt at =
    let e : get_or (part_shapes parts) n (part_shape p) ≡ part_shape p = get_or-map part_shape parts n p (part_shape p) lt ∙ ap part_shape (sym at) in
    let z : 0 + n ≡ n = omega arith in
    subst (λ (m : ℕ). Falls m (arguments_of (part_shape p))) z
    (subst (λ (q : PartShape). Falls (0 + n) (arguments_of q)) e
    (PartsFall-at 0 (part_shapes parts) n (part_shape p) f (omega (arith, length-map parts part_shape))))

pub Falls-append : (a : ℕ) (ms ns : List ℕ) → Falls a ms → Falls a ns → Falls a (ms ++ ns)
Falls-append a [] ns f g = g
Falls-append a (m ∷ ms) ns f g = (f.0, Falls-append a ms ns f.1 g)

pub Falls-front : (a : ℕ) (ms ns : List ℕ) → Falls a (ms ++ ns) → Falls a ms
Falls-front a [] ns f = tt
Falls-front a (m ∷ ms) ns f = (f.0, Falls-front a ms ns f.1)

pub Falls-back : (a : ℕ) (ms ns : List ℕ) → Falls a (ms ++ ns) → Falls a ns
Falls-back a [] ns f = f
Falls-back a (m ∷ ms) ns f = Falls-back a ms ns f.1

pub Falls-reverse : (a : ℕ) (ns : List ℕ) → Falls a ns → Falls a (reverse ns)
Falls-reverse a [] f = tt
Falls-reverse a (n ∷ ns) f = subst (Falls a) (sym (reverse-append (n ∷ []) ns)) (Falls-append a (reverse ns) (n ∷ []) (Falls-reverse a ns f.1) (f.0, tt))

pub Falls-unreverse : (a : ℕ) (ns ms : List ℕ) → reverse ns ≡ ms → Falls a ms → Falls a ns
Falls-unreverse a ns ms e f = subst (Falls a) (ap reverse (sym e) ∙ reverse-reverse ns) (Falls-reverse a ms f)

-- what a part leaves to be numbered
pub note_owed : (parts : List DraftPart) (names new : List Bytes) (n : ℕ) (p : DraftPart) (before rest after : List ℕ) (total : List Bytes)
    → PartsFall 0 (part_shapes parts) → n < length parts → p ≡ get_or parts n p → before ≡ rest ++ n ∷ []
    → new ≡ named_by names (part_shape p) → reverse after ≡ arguments_of (part_shape p) ++ reverse rest
    → named_all names (many (map (written_at (part_shapes parts)) (reverse before))) ≡ total
    → named_all new (many (map (written_at (part_shapes parts)) (reverse after))) ≡ total
note_owed parts names new n p before rest after total f lt at popped is pushed owed =
    let t : ℕ → Written = written_at (part_shapes parts) in
    let args : List ℕ = arguments_of (part_shape p) in
    let first : named_all new (many (map t (reverse after))) ≡ named_all new (many (map t args ++ map t (reverse rest))) =
    ap (λ (ns : List ℕ). named_all new (many (map t ns))) pushed ∙ ap (λ (ws : List Written). named_all new (many ws)) (map-append t args (reverse rest)) in
    let now : named_all new (many (map t args)) ≡ named names (t n) =
    ap (λ (ms : List Bytes). named_all ms (many (map t args))) is ∙ named_part (written_behind [] (part_shapes parts)) names (part_shape p)
    ∙ ap (named names) (sym (written_part parts n p f lt at)) in
    first ∙ named_all-many new (map t args) (map t (reverse rest)) ∙ ap (λ (ms : List Bytes). named_all ms (many (map t (reverse rest)))) now
    ∙ sym (ap (λ (ns : List ℕ). named_all names (many (map t ns))) (ap reverse popped ∙ reverse-append rest (n ∷ []))) ∙ owed

pub note_less : (parts : List DraftPart) (n : ℕ) (p : DraftPart) (before rest after : List ℕ)
    → PartsFall 0 (part_shapes parts) → n < length parts → p ≡ get_or parts n p → before ≡ rest ++ n ∷ []
    → reverse after ≡ arguments_of (part_shape p) ++ reverse rest
    → nodes_in (many (map (written_at (part_shapes parts)) (reverse after))) < nodes_in (many (map (written_at (part_shapes parts)) (reverse before)))
note_less parts n p before rest after f lt at popped pushed =
    let t : ℕ → Written = written_at (part_shapes parts) in
    let args : List ℕ = arguments_of (part_shape p) in
    let size : List ℕ → ℕ = λ ns. nodes_in (many (map t ns)) in
    let new : size (reverse after) ≡ size args + size (reverse rest) =
    ap size pushed ∙ ap (λ (ws : List Written). nodes_in (many ws)) (map-append t args (reverse rest)) ∙ nodes_in-many (map t args) (map t (reverse rest)) in
    let old : size (reverse before) ≡ nodes_of (t n) + size (reverse rest) = ap size (ap reverse popped ∙ reverse-append rest (n ∷ [])) in
    let less : size args < nodes_of (shape_written (written_behind [] (part_shapes parts)) (part_shape p)) =
    below_part (written_behind [] (part_shapes parts)) (part_shape p) in
    let same : nodes_of (t n) ≡ nodes_of (shape_written (written_behind [] (part_shapes parts)) (part_shape p)) =
    ap nodes_of (written_part parts n p f lt at) in
    omega arith

pub note_there : (parts : List DraftPart) (n : ℕ) (p : DraftPart) (before rest after : List ℕ)
    → PartsFall 0 (part_shapes parts) → n < length parts → p ≡ get_or parts n p → before ≡ rest ++ n ∷ []
    → reverse after ≡ arguments_of (part_shape p) ++ reverse rest
    → Falls (length parts) before → Falls (length parts) after
note_there parts n p before rest after f lt at popped pushed there =
    Falls-unreverse (length parts) after (arguments_of (part_shape p) ++ reverse rest) pushed
    (Falls-append (length parts) (arguments_of (part_shape p)) (reverse rest)
    (Falls-more n (length parts) (arguments_of (part_shape p)) (omega arith) (part_falls parts n p f lt at))
    (Falls-reverse (length parts) rest (Falls-front (length parts) rest (n ∷ []) (subst (Falls (length parts)) popped there))))

pub last_there : (m : ℕ) (before rest : List ℕ) (n : ℕ) → before ≡ rest ++ n ∷ [] → Falls m before → n < m
last_there m before rest n e f = (Falls-back m rest (n ∷ []) (subst (Falls m) e f)).0

pub Extends-again : (a b c : List Bytes) → Extends a b → Extends b c → Extends a c
Extends-again a b c e f =
    let le : length a ≤ length b = omega (arith, ap length e, length-take (length a) b) in
    sym (take-take (length a) (length b) c le) ∙ ap (take (length a)) f ∙ e

pub Extends-self : (a : List Bytes) → Extends a a
Extends-self a = take-length a

-- the arguments of a part have fewer nodes than its term
pub arguments_below : (parts : List DraftPart) (n : ℕ) (p : DraftPart) → PartsFall 0 (part_shapes parts) → n < length parts → p ≡ get_or parts n p
    → nodes_in (many (map (written_at (part_shapes parts)) (arguments_of (part_shape p)))) < nodes_of (written_at (part_shapes parts) n)
arguments_below parts n p f lt at =
    subst (λ (w : Written). nodes_in (many (map (written_at (part_shapes parts)) (arguments_of (part_shape p)))) < nodes_of w)
    (sym (written_part parts n p f lt at)) (below_part (written_behind [] (part_shapes parts)) (part_shape p))
