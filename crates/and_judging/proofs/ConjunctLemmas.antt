-- One step of a way through the conjuncts of a body.
use Rattle.std.proofs.Common.{ℕ, zero, suc, pos, ◌+◌, ◌≡◌, ◌<◌, Bool, true, false, cond, nat_eq, List, [], ◌∷◌, length, map, get_or}
use Rattle.std.proofs.Common.{refl, sym, ap, ◌∙◌, arith, subst, Option, Some, None}
use Rattle.std.proofs.lemmas.List.{length-map, get_or-map, get_or_default}
use Rattle.and_model.specs.Lines.{Bytes}
use Rattle.and_model.specs.Terms
use Rattle.and_model.specs.Terms.{Term, Terms}
use Rattle.and_model.specs.Arithmetic as arithmetic
use Rattle.and_model.specs.Programs as programs
use Rattle.and_syntax.specs.Written.{place}
use Rattle.and_syntax.specs.Clauses
use Rattle.and_syntax.specs.Clauses.{Parts as Body, no_parts, impure, Choices, choice, Reading, joined, alone, disjoined, reading_of, parts_of, compare_or}
use Rattle.and_program.specs.Skeletons.{Shape, term_list, node_term, item_of, IsThere, Falls}
use Rattle.and_program.specs.Items.{node_item}
use Rattle.and_judging.specs.Conjuncts.{call_of, compared_or, conjunct_of, other_conjunct, shape_conjunct, conjunct_at}
use Rattle.and_drafts.specs.Numbered.{IsRead}
use Rattle.and_drafts.specs.Parts
use Rattle.and_drafts.specs.Parts.{PartShape, part_shape, part_shapes, many, written_at, nth_written, shape_written, written_behind, arguments_of, PartsFall}
use Rattle.and_drafts.specs.declared.draft.DraftPart as code
use Rattle.and_drafts.specs.declared.draft.DraftPart.TheVariants as variants
use Rattle.and_judging.specs.declared.items.Conjunct.{Conjunct}
use Rattle.and_judging.specs.declared.items.Conjunct.TheVariants.{Both, Either, Nothing, Item, Refused}
use Rattle.and_model.specs.declared.relation.Relation.{Relation}
use Rattle.and_model.specs.declared.relation.Relation.TheVariants.{Less, Greater, AtMost, AtLeast, Same, Differs}
use Rattle.and_drafts.proofs.Noting.{PartsFall-at, part_falls}
use Rattle.and_judging.proofs.Shifting.{read_term, part_read, length_read}

Falls-at : (m : ℕ) (ns : List ℕ) (k d : ℕ) → Falls m ns → k < length ns → get_or ns k d < m
Falls-at m [] k d f lt = absurd (omega arith)
Falls-at m (n ∷ ns) zero d f lt = f.0
Falls-at m (n ∷ ns) (suc k) d f lt = Falls-at m ns k d f.1 (omega arith)

-- the arguments of a part have numbers that fit
pub arguments_fit : (parts : List code.DraftPart) (n base : ℕ) (p : code.DraftPart) (ns ms : List ℕ) → PartsFall 0 (part_shapes parts) → n < length parts
    → p ≡ get_or parts n p
    → arguments_of (part_shape p) ≡ ns → ms ≡ ns → base + length parts < 4294967296 → (k d : ℕ) → k < length ms → base + get_or ms k d < 4294967296
arguments_fit parts n base p ns ms f lt at is same room k d below =
    let falls : Falls n ms = subst (Falls n) (is ∙ sym same) (part_falls parts n p f lt at) in
    omega (arith, Falls-at n ms k d falls below)

pub conjunct_is : (names : List Bytes) (parts : List code.DraftPart) (base n : ℕ) (p : code.DraftPart) (c : Bytes) (ns ms : List ℕ) (number : ℕ)
    (conjunct : Conjunct) → n < length parts → p ≡ get_or parts n p
    → part_shape p ≡ Parts.compound c ns → ms ≡ ns → number ≡ place c names → conjunct ≡ conjunct_of number ms (base + n) base
    → conjunct ≡ conjunct_at names (part_shapes parts) base n
conjunct_is names parts base n p c ns ms number conjunct lt at is same named made =
    let here : part_shape p ≡ get_or (part_shapes parts) n (Parts.variable []) =
    ap part_shape at ∙ sym (get_or-map part_shape parts n p (Parts.variable []) lt) in
    made ∙ ap (λ (k : ℕ). conjunct_of k ms (base + n) base) named ∙ ap (λ (ks : List ℕ). conjunct_of (place c names) ks (base + n) base) same
    ∙ ap (λ (q : PartShape). shape_conjunct names q (base + n) base) (sym is ∙ here)

-- the relation of the first test that holds, in the definitions and in the code
abbrev relation_by : (b1 b2 b3 b4 b5 b6 : Bool) → Option arithmetic.Relation
relation_by b1 b2 b3 b4 b5 b6 =
    cond b1 (Some arithmetic.less)
    (cond b2 (Some arithmetic.greater)
    (cond b3 (Some arithmetic.at_most)
    (cond b4 (Some arithmetic.at_least)
    (cond b5 (Some arithmetic.same)
    (cond b6 (Some arithmetic.differs) None)))))

abbrev value_by : (b1 b2 b3 b4 b5 b6 : Bool) → Option Relation
value_by b1 b2 b3 b4 b5 b6 =
    cond b1 (Some Less)
    (cond b2 (Some Greater)
    (cond b3 (Some AtMost)
    (cond b4 (Some AtLeast)
    (cond b5 (Some Same)
    (cond b6 (Some Differs) None)))))

-- What a conjunct says of the term of its node.
abbrev pub IsConjunct : List Shape → ℕ → Term → Conjunct → Type 0
IsConjunct ss base t (Both l r) = reading_of t ≡ alone (joined (parts_of (node_term ss (base + l))) (parts_of (node_term ss (base + r))))
IsConjunct ss base t (Either l r) =
    reading_of t ≡ disjoined (choice (parts_of (node_term ss (base + l))) (reading_of (node_term ss (base + r))).last)
IsConjunct ss base t Nothing = reading_of t ≡ alone no_parts
IsConjunct ss base t (Item i) = (reading_of t ≡ alone (Clauses.item (item_of ss (node_item i)) no_parts)) × IsThere ss 0 (node_item i)
IsConjunct ss base t Refused = reading_of t ≡ alone (impure no_parts)

module _ (ss : List Shape) (base : ℕ) (t : Term) where
  split : (b : Bool) (g h : Conjunct) (x y : Reading) → reading_of t ≡ cond b x y → (reading_of t ≡ x → IsConjunct ss base t g)
      → (reading_of t ≡ y → IsConjunct ss base t h) → IsConjunct ss base t (cond b g h)
  split true g h x y e k l = k e
  split false g h x y e k l = l e

  split_alone : (b : Bool) (g h : Conjunct) (x y : Body) → reading_of t ≡ alone (cond b x y) → (reading_of t ≡ alone x → IsConjunct ss base t g)
      → (reading_of t ≡ alone y → IsConjunct ss base t h) → IsConjunct ss base t (cond b g h)
  split_alone true g h x y e k l = k e
  split_alone false g h x y e k l = l e

  -- a comparison of two terms, where one of six tests holds
  module _ (l r : ℕ) (low : l < length ss) (high : r < length ss) (g : Conjunct) (y : Body)
      (k : reading_of t ≡ alone y → IsConjunct ss base t g) where
    split_relation : (b1 b2 b3 b4 b5 b6 : Bool)
        → reading_of t ≡ alone (compare_or (relation_by b1 b2 b3 b4 b5 b6) (node_term ss l) (node_term ss r) y)
        → IsConjunct ss base t (compared_or (value_by b1 b2 b3 b4 b5 b6) l r g)
    split_relation true b2 b3 b4 b5 b6 e = (e, (low, high))
    split_relation false true b3 b4 b5 b6 e = (e, (low, high))
    split_relation false false true b4 b5 b6 e = (e, (low, high))
    split_relation false false false true b5 b6 e = (e, (low, high))
    split_relation false false false false true b6 e = (e, (low, high))
    split_relation false false false false false true e = (e, (low, high))
    split_relation false false false false false false e = k e

-- a conjunct says what it is
pub conjunct_says : (ss : List Shape) (base n : ℕ) (names met : List Bytes) (p : PartShape)
    → node_term ss (base + n) ≡ read_term names (λ (m : ℕ). node_term ss (base + m)) met p
    → base + n < length ss → ((m : ℕ) → m < n → base + m < length ss) → Falls n (arguments_of p)
    → IsConjunct ss base (node_term ss (base + n)) (shape_conjunct names p (base + n) base)
conjunct_says ss base n names met (Parts.variable x) e there below f = ap reading_of e
conjunct_says ss base n names met (Parts.integer z) e there below f = ap reading_of e
conjunct_says ss base n names met (Parts.compound name ns) e there below f = by ns e f
  where
    c : ℕ
    c = place name names

    t : Term
    t = node_term ss (base + n)

    at : ℕ → Term
    at m = node_term ss (base + m)

    called : (u : Term) → t ≡ u → reading_of t ≡ alone (Clauses.item (programs.call u) no_parts) → IsConjunct ss base t (call_of (base + n))
    called u is h = (h ∙ ap (λ (v : Term). alone (Clauses.item (programs.call v) no_parts)) (sym is), there)

    by : (ms : List ℕ) → t ≡ Terms.compound c (term_list (map at ms)) → Falls n ms → IsConjunct ss base t (conjunct_of c ms (base + n) base)
    by [] is g =
        split_alone ss base t (nat_eq c 0) _ _ _ _ (ap reading_of is) (λ k. k) (λ k. split_alone ss base t (nat_eq c 1) _ _ _ _ k (λ j. (j, tt))
        (λ j. split_alone ss base t (nat_eq c 24) _ _ _ _ j (λ i. i) (called (Terms.compound c Terms.none) is)))
    by (a ∷ []) is g =
        split_alone ss base t (nat_eq c 23) _ _ _ _ (ap reading_of is) (λ i. i) (called (Terms.compound c (Terms.more (at a) Terms.none)) is)
    by (a ∷ b ∷ []) is g =
        let low : base + a < length ss = below a g.0 in
        let high : base + b < length ss = below b g.1.0 in
        split ss base t (nat_eq c 2) _ _ _ _ (ap reading_of is) (λ k. k)
        (λ q. split ss base t (nat_eq c 21) _ _ _ _ q (λ k. k)
        (λ k. split_alone ss base t (nat_eq c 3) _ _ _ _ k (λ j. (j, (low, high)))
        (λ j. split_alone ss base t (nat_eq c 4) _ _ _ _ j (λ i. (i, (low, high, refl)))
        (λ i. split_relation ss base t (base + a) (base + b) low high (other_conjunct c (base + n)) _
        (λ h. split_alone ss base t (nat_eq c 22) _ _ _ _ h (λ w. w)
        (called (Terms.compound c (Terms.more (at a) (Terms.more (at b) Terms.none))) is))
        (nat_eq c 5) (nat_eq c 6) (nat_eq c 7) (nat_eq c 8) (nat_eq c 9) (nat_eq c 10) i))))
    by (a ∷ b ∷ d ∷ ms) is g =
        called (Terms.compound c (Terms.more (at a) (Terms.more (at b) (Terms.more (at d) (term_list (map at ms)))))) is (ap reading_of is)

-- a conjunct that has two others has them as its arguments
abbrev pub Has : List ℕ → Conjunct → Type 0
Has ns (Both l r) = ns ≡ l ∷ r ∷ []
Has ns (Either l r) = ns ≡ l ∷ r ∷ []
Has ns Nothing = Unit {0}
Has ns (Item i) = Unit {0}
Has ns Refused = Unit {0}

has_either : (ns : List ℕ) (b : Bool) (g h : Conjunct) → Has ns g → Has ns h → Has ns (cond b g h)
has_either ns true g h k l = k
has_either ns false g h k l = l

has_relation : (ns : List ℕ) (b1 b2 b3 b4 b5 b6 : Bool) (l r : ℕ) (g : Conjunct) → Has ns g
    → Has ns (compared_or (value_by b1 b2 b3 b4 b5 b6) l r g)
has_relation ns true b2 b3 b4 b5 b6 l r g h = tt
has_relation ns false true b3 b4 b5 b6 l r g h = tt
has_relation ns false false true b4 b5 b6 l r g h = tt
has_relation ns false false false true b5 b6 l r g h = tt
has_relation ns false false false false true b6 l r g h = tt
has_relation ns false false false false false true l r g h = tt
has_relation ns false false false false false false l r g h = h

has_arguments : (c : ℕ) (ns : List ℕ) (n base : ℕ) → Has ns (conjunct_of c ns n base)
has_arguments c [] n base = has_either [] (nat_eq c 0) _ _ tt
    (has_either [] (nat_eq c 1) _ _ tt (has_either [] (nat_eq c 24) _ _ tt tt))
has_arguments c (a ∷ []) n base = has_either (a ∷ []) (nat_eq c 23) _ _ tt tt
has_arguments c (a ∷ b ∷ []) n base =
    let ns : List ℕ = a ∷ b ∷ [] in
    let other : Has ns (other_conjunct c n) = has_either ns (nat_eq c 22) _ _ tt tt in
    has_either ns (nat_eq c 2) _ _ refl (has_either ns (nat_eq c 21) _ _ refl (has_either ns (nat_eq c 3) _ _ tt (has_either ns (nat_eq c 4) _ _ tt
    (has_relation ns (nat_eq c 5) (nat_eq c 6) (nat_eq c 7) (nat_eq c 8) (nat_eq c 9) (nat_eq c 10) (base + a) (base + b)
    (other_conjunct c n) other))))
has_arguments c (a ∷ b ∷ d ∷ ns) n base = tt

pub conjunct_has : (names : List Bytes) (p : PartShape) (n base : ℕ) → Has (arguments_of p) (shape_conjunct names p n base)
conjunct_has names (Parts.variable x) n base = tt
conjunct_has names (Parts.integer z) n base = tt
conjunct_has names (Parts.compound c ns) n base = has_arguments (place c names) ns n base

-- what a part says as a conjunct
pub conjunct_at_says : (ss : List Shape) (base n : ℕ) (names : List Bytes) (parts : List code.DraftPart) (g : Conjunct)
    → IsRead ss base names (part_shapes parts) → PartsFall 0 (part_shapes parts) → n < length parts
    → g ≡ conjunct_at names (part_shapes parts) base n → IsConjunct ss base (node_term ss (base + n)) g
conjunct_at_says ss base n names parts g r f lt e =
    let ps : List PartShape = part_shapes parts in
    let d : PartShape = Parts.variable [] in
    let few : length ps ≡ length parts = length-map parts part_shape in
    let all : length ss ≡ base + length ps = length_read ss base names ps r in
    let within : n < length ps = omega arith in
    let is = part_read ss base names ps n d r f within in
    let z : 0 + n ≡ n = omega arith in
    let falls : Falls n (arguments_of (get_or ps n d)) = subst (λ (m : ℕ). Falls m (arguments_of (get_or ps n d))) z (PartsFall-at 0 ps n d f within) in
    subst (IsConjunct ss base (node_term ss (base + n))) (sym e)
    (conjunct_says ss base n names is.0 (get_or ps n d) is.1 (omega arith) (λ m lt'. omega arith) falls)

abbrev pub first_part : code.DraftPart
first_part = variants.Integer (pos 0)

pub part_of : (parts : List code.DraftPart) (n : ℕ) → n < length parts → get_or parts n first_part ≡ get_or parts n (get_or parts n first_part)
part_of parts n lt = get_or_default parts n first_part (get_or parts n first_part) lt

pub conjunct_at_has : (base n : ℕ) (names : List Bytes) (parts : List code.DraftPart) (g : Conjunct) → n < length parts
    → g ≡ conjunct_at names (part_shapes parts) base n → Has (arguments_of (part_shape (get_or parts n first_part))) g
conjunct_at_has base n names parts g lt e =
    let here : get_or (part_shapes parts) n (Parts.variable []) ≡ part_shape (get_or parts n first_part) =
    get_or-map part_shape parts n first_part (Parts.variable []) lt in
    subst (Has (arguments_of (part_shape (get_or parts n first_part)))) (sym e)
    (subst (λ (q : PartShape). Has (arguments_of (part_shape (get_or parts n first_part))) (shape_conjunct names q (base + n) base)) (sym here)
    (conjunct_has names (part_shape (get_or parts n first_part)) (base + n) base))

pub no_more : (ns : List ℕ) → length ns ≡ 0 → ns ≡ []
no_more [] e = refl
no_more (n ∷ ns) e = absurd (omega arith)
