-- A walk over nodes finds the variables of their terms.
use Rattle.std.proofs.Common.{ℕ, ℤ, zero, suc, ◌+◌, ◌≡◌, ◌<◌, ◌≤◌, pos, List, [], ◌∷◌, ◌++◌, length, map, get_or, drop, refl, sym, ap, ◌∙◌, arith, subst}
use Rattle.std.proofs.Common.{append_assoc}
use Rattle.std.specs.Prelude.{reverse}
use Rattle.std.proofs.lemmas.List.{drop_more, map-append, reverse-append, reverse-reverse, append-nil}
use Rattle.and_model.specs.Terms
use Rattle.and_model.specs.Terms.{Path, Term, Terms, variables_of, variables_in}
use Rattle.and_model.specs.declared.numbers.NodeNo.{NodeNo}
use Rattle.and_model.specs.declared.numbers.NameNo.{NameNo}
use Rattle.and_program.specs.Skeletons.{Shape, variable, number, compound, term_list, nth, shape_term, terms_behind, node_term, Falls, IsFalling, AllFall}
use Rattle.and_program.specs.Skeletons.{IsThere, AllThere, after}
use Rattle.and_program.specs.Shown.{arguments_in, shown, argument_of, term_at}
use Rattle.and_program.specs.Items.{node_item}
use Rattle.and_program.specs.declared.item.ItemNode.{ItemNode}
use Rattle.and_modes.specs.Modes.{arguments_of, count_of}
use Rattle.and_program.specs.declared.node.NodeKind.TheVariants.{Variable, Number, Compound}
use Rattle.and_program.proofs.NodeTerms.{node_term_whole, AllFall-at}
use Rattle.and_modes.specs.Walked.{unframed, numbers_of, variables_at, AllBelow, size, sizes, parts_at}

-- the variable that a node is
abbrev pub leaves_in : Shape → List ℕ
leaves_in (variable k) = k ∷ []
leaves_in (number z) = []
leaves_in (compound c ns) = []

variables_in_term_list : (ss : List Shape) (ns : List ℕ) → variables_in (term_list (map (nth (terms_behind [] ss)) ns)) ≡ variables_at ss ns
variables_in_term_list ss [] = refl
variables_in_term_list ss (n ∷ ns) = ap (λ (vs : List (Path × ℕ)). variables_of (node_term ss n) ++ vs) (variables_in_term_list ss ns)

sizes_in_term_list : (ss : List Shape) (ns : List ℕ) → sizes (term_list (map (nth (terms_behind [] ss)) ns)) ≡ parts_at ss ns
sizes_in_term_list ss [] = refl
sizes_in_term_list ss (n ∷ ns) = ap (λ (k : ℕ). size (node_term ss n) + k) (sizes_in_term_list ss ns)

variables_of_shape : (ss : List Shape) (s : Shape) → variables_of (shape_term (terms_behind [] ss) s)
    ≡ map unframed (leaves_in s) ++ variables_at ss (arguments_in s)
variables_of_shape ss (variable k) = refl
variables_of_shape ss (number z) = refl
variables_of_shape ss (compound c ns) = variables_in_term_list ss ns

size_of_shape : (ss : List Shape) (s : Shape) → size (shape_term (terms_behind [] ss) s) ≡ suc (parts_at ss (arguments_in s))
size_of_shape ss (variable k) = refl
size_of_shape ss (number z) = refl
size_of_shape ss (compound c ns) = ap (λ (k : ℕ). suc k) (sizes_in_term_list ss ns)

falls_below : (n m : ℕ) (ns : List ℕ) → n ≤ m → Falls n ns → AllBelow m ns
falls_below n m [] le f = tt
falls_below n m (k ∷ ns) le f = (let first = f.0 in omega arith, falls_below n m ns le f.1)

arguments_below : (n m : ℕ) (s : Shape) → n ≤ m → IsFalling n s → AllBelow m (arguments_in s)
arguments_below n m (variable k) le f = tt
arguments_below n m (number z) le f = tt
arguments_below n m (compound c ns) le f = falls_below n m ns le f

below_append : (m : ℕ) (xs ys : List ℕ) → AllBelow m xs → AllBelow m ys → AllBelow m (xs ++ ys)
below_append m [] ys a b = b
below_append m (x ∷ xs) ys a b = (a.0, below_append m xs ys a.1 b)

variables_at-append : (ss : List Shape) (xs ys : List ℕ) → variables_at ss (xs ++ ys) ≡ variables_at ss xs ++ variables_at ss ys
variables_at-append ss [] ys = refl
variables_at-append ss (x ∷ xs) ys = ap (λ (vs : List (Path × ℕ)). variables_of (node_term ss x) ++ vs) (variables_at-append ss xs ys)
    ∙ sym (append_assoc (variables_of (node_term ss x)) (variables_at ss xs) (variables_at ss ys))

parts_at-append : (ss : List Shape) (xs ys : List ℕ) → parts_at ss (xs ++ ys) ≡ parts_at ss xs + parts_at ss ys
parts_at-append ss [] ys = omega arith
parts_at-append ss (x ∷ xs) ys = omega (arith, parts_at-append ss xs ys)

-- What a walk has found, and the stack of nodes that are left: together they are the variables.
pub record Walks (ss : List Shape) (found : List ℕ) (stack : List NodeNo) (vs : List (Path × ℕ)) : Type 0 where
  pub variables : map unframed found ++ variables_at ss (reverse (numbers_of stack)) ≡ vs
  pub below : AllBelow (length ss) (reverse (numbers_of stack))

reverse_of_popped : (old new : List NodeNo) (n : NodeNo) → old ≡ new ++ n ∷ [] → reverse (numbers_of old) ≡ n.0 ∷ reverse (numbers_of new)
reverse_of_popped old new n e =
    ap (λ (ns : List NodeNo). reverse (numbers_of ns)) e
    ∙ ap (λ (ns : List ℕ). reverse ns) (map-append (λ (m : NodeNo). m.0) new (n ∷ []))
    ∙ reverse-append (numbers_of new) (n.0 ∷ [])

reverse_of_pushed : (old new : List NodeNo) (ns : List ℕ) → numbers_of new ≡ numbers_of old ++ reverse ns
    → reverse (numbers_of new) ≡ ns ++ reverse (numbers_of old)
reverse_of_pushed old new ns e =
    ap (λ (ms : List ℕ). reverse ms) e
    ∙ reverse-append (numbers_of old) (reverse ns)
    ∙ ap (λ (ms : List ℕ). ms ++ reverse (numbers_of old)) (reverse-reverse ns)

-- the shape of a node
abbrev pub at_node : List Shape → ℕ → Shape
at_node ss n = get_or ss n (number (pos 0))

pub variables_of_node : (ss : List Shape) (n : ℕ) → AllFall 0 ss → n < length ss
    → variables_of (node_term ss n) ≡ map unframed (leaves_in (at_node ss n)) ++ variables_at ss (arguments_in (at_node ss n))
variables_of_node ss n fall lt = ap variables_of (node_term_whole ss n (number (pos 0)) fall lt) ∙ variables_of_shape ss (at_node ss n)

size_of_node : (ss : List Shape) (n : ℕ) → AllFall 0 ss → n < length ss → size (node_term ss n) ≡ suc (parts_at ss (arguments_in (at_node ss n)))
size_of_node ss n fall lt = ap size (node_term_whole ss n (number (pos 0)) fall lt) ∙ size_of_shape ss (at_node ss n)

pub starts : (ss : List Shape) (n : NodeNo) (stack : List NodeNo) → stack ≡ n ∷ [] → n.0 < length ss → Walks ss [] stack (variables_of (node_term ss n.0))
starts ss n stack e lt = rw e (record { variables = append-nil (variables_of (node_term ss n.0)); below = (lt, tt) })

pub ends : (ss : List Shape) (found : List ℕ) (stack : List NodeNo) (vs : List (Path × ℕ)) → Walks ss found stack vs → stack ≡ [] → map unframed found ≡ vs
ends ss found stack vs w e = sym (append-nil (map unframed found))
    ∙ ap (λ (ns : List NodeNo). map unframed found ++ variables_at ss (reverse (numbers_of ns))) (sym e) ∙ w.variables

-- One node came off, and its arguments went on, or it was a variable that is found.
pub record Goes (ss : List Shape) (found after : List ℕ) (stack left : List NodeNo) (n : NodeNo) (popped : List NodeNo) : Type 0 where
  pub popped_is : stack ≡ popped ++ n ∷ []
  pub found_is : after ≡ found ++ leaves_in (at_node ss n.0)
  pub left_is : numbers_of left ≡ numbers_of popped ++ reverse (arguments_in (at_node ss n.0))

pub below_top : (ss : List Shape) (found : List ℕ) (stack popped : List NodeNo) (vs : List (Path × ℕ)) (n : NodeNo) → Walks ss found stack vs
    → stack ≡ popped ++ n ∷ [] → n.0 < length ss
below_top ss found stack popped vs n w e = (subst (λ (ns : List ℕ). AllBelow (length ss) ns) (reverse_of_popped stack popped n e) w.below).0

pub goes_on : (ss : List Shape) (found after : List ℕ) (stack left : List NodeNo) (n : NodeNo) (popped : List NodeNo) (vs : List (Path × ℕ))
    → AllFall 0 ss → Walks ss found stack vs → Goes ss found after stack left n popped → Walks ss after left vs
goes_on ss found after stack left n popped vs fall w g =
    let top = reverse_of_popped stack popped n g.popped_is in
    let both : AllBelow (length ss) (n.0 ∷ reverse (numbers_of popped)) = subst (λ (ns : List ℕ). AllBelow (length ss) ns) top w.below in
    let s : Shape = at_node ss n.0 in
    let rest : List ℕ = reverse (numbers_of popped) in
    let pushed : reverse (numbers_of left) ≡ arguments_in s ++ rest = reverse_of_pushed popped left (arguments_in s) g.left_is in
    let falling : IsFalling (0 + n.0) s = AllFall-at 0 ss n.0 (number (pos 0)) fall both.0 in
    record {
      variables =
          ap (λ (ns : List ℕ). map unframed after ++ variables_at ss ns) pushed
          ∙ ap (λ (vs : List (Path × ℕ)). map unframed after ++ vs) (variables_at-append ss (arguments_in s) rest)
          ∙ ap (λ (ks : List ℕ). map unframed ks ++ (variables_at ss (arguments_in s) ++ variables_at ss rest)) g.found_is
          ∙ ap (λ (us : List (Path × ℕ)). us ++ (variables_at ss (arguments_in s) ++ variables_at ss rest)) (map-append unframed found (leaves_in s))
          ∙ append_assoc (map unframed found) (map unframed (leaves_in s)) (variables_at ss (arguments_in s) ++ variables_at ss rest)
          ∙ ap (λ (us : List (Path × ℕ)). map unframed found ++ us)
          (sym (append_assoc (map unframed (leaves_in s)) (variables_at ss (arguments_in s)) (variables_at ss rest)))
          ∙ ap (λ (us : List (Path × ℕ)). map unframed found ++ (us ++ variables_at ss rest)) (sym (variables_of_node ss n.0 fall both.0))
          ∙ ap (λ (ns : List ℕ). map unframed found ++ variables_at ss ns) (sym top)
          ∙ w.variables;
      below = subst (λ (ns : List ℕ). AllBelow (length ss) ns) (sym pushed)
          (below_append (length ss) (arguments_in s) rest (arguments_below (0 + n.0) (length ss) s (let lt = both.0 in omega arith) falling) both.1);
    }

pub fewer : (ss : List Shape) (found after : List ℕ) (stack left : List NodeNo) (n : NodeNo) (popped : List NodeNo) (vs : List (Path × ℕ))
    → AllFall 0 ss → Walks ss found stack vs → Goes ss found after stack left n popped
    → parts_at ss (reverse (numbers_of left)) < parts_at ss (reverse (numbers_of stack))
fewer ss found after stack left n popped vs fall w g =
    let s : Shape = at_node ss n.0 in
    let rest : List ℕ = reverse (numbers_of popped) in
    let lt = below_top ss found stack popped vs n w g.popped_is in
    let new : parts_at ss (reverse (numbers_of left)) ≡ parts_at ss (arguments_in s) + parts_at ss rest =
    ap (λ (ns : List ℕ). parts_at ss ns) (reverse_of_pushed popped left (arguments_in s) g.left_is) ∙ parts_at-append ss (arguments_in s) rest in
    let old : parts_at ss (reverse (numbers_of stack)) ≡ size (node_term ss n.0) + parts_at ss rest =
    ap (λ (ns : List ℕ). parts_at ss ns) (reverse_of_popped stack popped n g.popped_is) in
    let one : size (node_term ss n.0) ≡ suc (parts_at ss (arguments_in s)) = size_of_node ss n.0 fall lt in
    omega arith

-- What is shown of a node says what it is.
pub shown_variable : (s : Shape) (k : ℕ) → Variable k ≡ shown s → (leaves_in s ≡ k ∷ []) × (arguments_in s ≡ [])
shown_variable (variable j) k e = (cc, refl)
shown_variable (number z) k e = absurd (cc)
shown_variable (compound c ns) k e = absurd (cc)

pub shown_number : (s : Shape) (z : ℤ) → Number z ≡ shown s → (leaves_in s ≡ []) × (arguments_in s ≡ [])
shown_number (variable j) z e = absurd (cc)
shown_number (number y) z e = (refl, refl)
shown_number (compound c ns) z e = absurd (cc)

pub shown_compound : (s : Shape) (c : NameNo) (n : ℕ) → Compound c n ≡ shown s → leaves_in s ≡ []
shown_compound (variable j) c n e = absurd (cc)
shown_compound (number y) c n e = absurd (cc)
shown_compound (compound d ns) c n e = refl

-- the arguments from place i on are pushed, the last first
pub one_more_pushed : (first old new : List NodeNo) (args : List ℕ) (i : ℕ) (n : NodeNo)
    → i < length args → n.0 ≡ get_or args i 0 → numbers_of old ≡ numbers_of first ++ reverse (drop (i + 1) args) → new ≡ old ++ n ∷ []
    → numbers_of new ≡ numbers_of first ++ reverse (drop i args)
one_more_pushed first old new args i n lt is before e =
    ap numbers_of e
    ∙ map-append (λ (m : NodeNo). m.0) old (n ∷ [])
    ∙ ap (λ (ns : List ℕ). ns ++ n.0 ∷ []) before
    ∙ append_assoc (numbers_of first) (reverse (drop (i + 1) args)) (n.0 ∷ [])
    ∙ ap (λ (m : ℕ). numbers_of first ++ (reverse (drop (i + 1) args) ++ m ∷ [])) is
    ∙ ap (λ (ns : List ℕ). numbers_of first ++ ns) (sym (reverse-append (get_or args i 0 ∷ []) (drop (i + 1) args)))
    ∙ ap (λ (ns : List ℕ). numbers_of first ++ reverse ns) (sym (drop_more args i 0 lt))

pub variable_goes : (ss : List Shape) (found after : List ℕ) (stack popped : List NodeNo) (n : NodeNo) (k : ℕ)
    → stack ≡ popped ++ n ∷ [] → Variable k ≡ shown (at_node ss n.0) → after ≡ found ++ k ∷ [] → Goes ss found after stack popped n popped
variable_goes ss found after stack popped n k e is more =
    let both = shown_variable (at_node ss n.0) k is in
    record {
      popped_is = e;
      found_is = more ∙ ap (λ (ks : List ℕ). found ++ ks) (sym both.0);
      left_is = sym (append-nil (numbers_of popped)) ∙ ap (λ (ns : List ℕ). numbers_of popped ++ reverse ns) (sym both.1);
    }

pub number_goes : (ss : List Shape) (found : List ℕ) (stack popped : List NodeNo) (n : NodeNo) (z : ℤ)
    → stack ≡ popped ++ n ∷ [] → Number z ≡ shown (at_node ss n.0) → Goes ss found found stack popped n popped
number_goes ss found stack popped n z e is =
    let both = shown_number (at_node ss n.0) z is in
    record {
      popped_is = e;
      found_is = sym (append-nil found) ∙ ap (λ (ks : List ℕ). found ++ ks) (sym both.0);
      left_is = sym (append-nil (numbers_of popped)) ∙ ap (λ (ns : List ℕ). numbers_of popped ++ reverse ns) (sym both.1);
    }

pub compound_goes : (ss : List Shape) (found : List ℕ) (stack left popped : List NodeNo) (n : NodeNo) (c : NameNo) (count : ℕ)
    → stack ≡ popped ++ n ∷ [] → Compound c count ≡ shown (at_node ss n.0) → numbers_of left ≡ numbers_of popped ++ reverse (arguments_in (at_node ss n.0))
    → Goes ss found found stack left n popped
compound_goes ss found stack left popped n c count e is pushed =
    record {
      popped_is = e;
      found_is = sym (append-nil found) ∙ ap (λ (ks : List ℕ). found ++ ks) (sym (shown_compound (at_node ss n.0) c count is));
      left_is = pushed;
    }

-- the term of a node, by what is shown of it
variable_term : (ts : List Term) (s : Shape) (k : ℕ) → Variable k ≡ shown s → shape_term ts s ≡ Terms.variable [] k
variable_term ts (variable j) k e = let same : k ≡ j = cc in ap (λ (i : ℕ). Terms.variable [] i) (sym same)
variable_term ts (number z) k e = absurd (cc)
variable_term ts (compound c ns) k e = absurd (cc)

number_term : (ts : List Term) (s : Shape) (z : ℤ) → Number z ≡ shown s → shape_term ts s ≡ Terms.number z
number_term ts (variable j) z e = absurd (cc)
number_term ts (number y) z e = let same : z ≡ y = cc in ap (λ (i : ℤ). Terms.number i) (sym same)
number_term ts (compound c ns) z e = absurd (cc)

-- a term that has a name
abbrev pub IsCompound : Term → Type 0
IsCompound t = (c : ℕ) × (ts : Terms) × (t ≡ Terms.compound c ts)

compound_term : (ts : List Term) (s : Shape) (c : NameNo) (n : ℕ) → Compound c n ≡ shown s → IsCompound (shape_term ts s)
compound_term ts (variable j) c n e = absurd (cc)
compound_term ts (number y) c n e = absurd (cc)
compound_term ts (compound d ns) c n e = (d, term_list (map (nth ts) ns), refl)

pub term_of_variable : (ss : List Shape) (n k : ℕ) → AllFall 0 ss → n < length ss → Variable k ≡ shown (at_node ss n) → node_term ss n ≡ Terms.variable [] k
term_of_variable ss n k fall lt is = node_term_whole ss n (number (pos 0)) fall lt ∙ variable_term (terms_behind [] ss) (at_node ss n) k is

pub term_of_number : (ss : List Shape) (n : ℕ) (z : ℤ) → AllFall 0 ss → n < length ss → Number z ≡ shown (at_node ss n) → node_term ss n ≡ Terms.number z
term_of_number ss n z fall lt is = node_term_whole ss n (number (pos 0)) fall lt ∙ number_term (terms_behind [] ss) (at_node ss n) z is

pub term_of_compound : (ss : List Shape) (n : ℕ) (c : NameNo) (count : ℕ) → AllFall 0 ss → n < length ss → Compound c count ≡ shown (at_node ss n)
    → IsCompound (node_term ss n)
term_of_compound ss n c count fall lt is =
    let there = compound_term (terms_behind [] ss) (at_node ss n) c count is in
    (there.0, there.1, node_term_whole ss n (number (pos 0)) fall lt ∙ there.2)

-- the arguments of a term from a place on
abbrev pub from_place : ℕ → Terms → Terms
from_place zero ts = ts
from_place (suc n) Terms.none = Terms.none
from_place (suc n) (Terms.more t ts) = from_place n ts

pub from_next : (n : ℕ) (ts : Terms) → n < count_of ts → from_place n ts ≡ Terms.more (term_at ts n) (from_place (n + 1) ts)
from_next n Terms.none lt = absurd (omega arith)
from_next zero (Terms.more t ts) lt = refl
from_next (suc n) (Terms.more t ts) lt = let next : suc n + 1 ≡ suc (n + 1) = omega arith in rw next (from_next n ts (omega arith))

pub from_end : (n : ℕ) (ts : Terms) → count_of ts ≤ n → from_place n ts ≡ Terms.none
from_end zero Terms.none le = refl
from_end (suc n) Terms.none le = refl
from_end zero (Terms.more t ts) le = absurd (omega arith)
from_end (suc n) (Terms.more t ts) le = from_end n ts (omega arith)

pub argument_there : (t : Term) (n : ℕ) → argument_of t n ≡ term_at (arguments_of t) n
argument_there (Terms.variable q k) n = refl
argument_there (Terms.number z) n = refl
argument_there (Terms.compound c ts) n = refl

-- each item of a body is there
pub item_there : (ss : List Shape) (k : ℕ) (items : List ItemNode) (i : ℕ) (d : ItemNode) → AllThere ss k (map node_item items) → i < length items
    → (j : ℕ) × IsThere ss j (node_item (get_or items i d))
item_there ss k [] i d there lt = absurd (omega arith)
item_there ss k (item ∷ items) zero d there lt = (k, there.0)
item_there ss k (item ∷ items) (suc i) d there lt = item_there ss (after k (node_item item)) items i d there.1 (omega arith)
