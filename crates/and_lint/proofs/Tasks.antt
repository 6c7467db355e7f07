-- Terms as they are written, task by task; and what is shown of a node's term.
use Rattle.std.proofs.Common.{ℕ, ℤ, zero, suc, ◌+◌, ◌*◌, ◌-◌, ◌^◌, ◌≡◌, ◌<◌, ◌≤◌, ◌&&◌, pos, Bool, true, false, cond, eqb, List, [], ◌∷◌, ◌++◌}
use Rattle.std.proofs.Common.{length, get_or, refl, sym, ap, ◌∙◌, subst, arith, append_assoc}
use Rattle.std.specs.Prelude.{reverse}
use Rattle.std.specs.List.{flat_map}
use Rattle.std.proofs.lemmas.Bool.{and_parts, and_right, eqb-true, ne_eqb}
use Rattle.std.proofs.lemmas.List.{append-nil, length-append, reverse-append, length_push}
use Rattle.std.proofs.lemmas.List.Concat.{flat_map-append}
use Rattle.and_model.specs.Terms
use Rattle.and_model.specs.Terms.{Path, Term, Terms, width, none, more}
use Rattle.and_model.specs.Lines.{Bytes, is_cell, is_nil, shown, shown_arguments, shown_elements, shown_name, shown_rest}
use Rattle.and_model.specs.Lines.{shown_tail}
use Rattle.and_model.specs.declared.builtins.TheConstants.{NIL, POINT}
use Rattle.and_model.specs.declared.numbers.NodeNo.{NodeNo}
use Rattle.and_model.specs.declared.numbers.NameNo.{NameNo}
use Rattle.and_program.specs.Skeletons.{Shape, node_term, shape_term, terms_behind, AllFall}
use Rattle.and_program.specs.Skeletons
use Rattle.and_program.specs.Shown
use Rattle.and_program.specs.Shown.{argument_of, count_of, shown_term, term_at}
use Rattle.and_program.specs.declared.node.NodeKind.{NodeKind}
use Rattle.and_program.specs.declared.node.NodeKind.TheVariants.{Variable, Number, Compound}
use Rattle.and_program.proofs.NodeTerms.{node_term_whole}
use Rattle.and_lint.specs.Findings.{name_of}
use Rattle.and_lint.specs.Kept.{name_in}
use Rattle.and_lint.specs.Printed.{AreTasksThere, Does, HasPushed, IsTaskThere, arguments_in, from_place, is_cell_by, task_text, texts_ahead}
use Rattle.and_lint.specs.declared.printing.Task.{Task}
use Rattle.and_lint.specs.declared.printing.Task.TheVariants.{Whole, Tail, Rest, Close}

-- the term of a node that is a variable
variable_shaped : (ts : List Term) (s : Shape) (k : ℕ) → Variable k ≡ Shown.shown s → shape_term ts s ≡ Terms.variable [] k
variable_shaped ts (Skeletons.variable j) k e = let same : k ≡ j = cc in ap (λ (i : ℕ). Terms.variable [] i) (sym same)
variable_shaped ts (Skeletons.number z) k e = absurd (cc)
variable_shaped ts (Skeletons.compound c ns) k e = absurd (cc)

pub term_of_variable : (ss : List Shape) (n k : ℕ) → AllFall 0 ss → n < length ss → Variable k ≡ Shown.shown (get_or ss n (Skeletons.number (pos 0)))
    → node_term ss n ≡ Terms.variable [] k
term_of_variable ss n k fall lt is =
    node_term_whole ss n (Skeletons.number (pos 0)) fall lt ∙ variable_shaped (terms_behind [] ss) (get_or ss n (Skeletons.number (pos 0))) k is

pub term_of_number : (t : Term) (z : ℤ) → Number z ≡ shown_term t → t ≡ Terms.number z
term_of_number (Terms.variable q k) z e = absurd (cc)
term_of_number (Terms.number y) z e = let same : z ≡ y = cc in ap (λ (i : ℤ). Terms.number i) (sym same)
term_of_number (Terms.compound c ts) z e = absurd (cc)

-- a term that has this name and so many arguments
pub record IsStructure (name count : ℕ) (t : Term) : Type 0 where
  pub terms : Terms
  pub term_is : t ≡ Terms.compound name terms
  pub width_is : width terms ≡ count

pub term_of_compound : (t : Term) (c : NameNo) (n : ℕ) → Compound c n ≡ shown_term t → IsStructure c.0 n t
term_of_compound (Terms.variable q k) c n e = absurd (cc)
term_of_compound (Terms.number y) c n e = absurd (cc)
term_of_compound (Terms.compound d ts) c n e =
    let names : c.0 ≡ d = ap (λ (k : NodeKind). name_in k) e in
    let counts : n ≡ width ts = ap (λ (k : NodeKind). count_of k) e in
    record { terms = ts; term_is = ap (λ (i : ℕ). Terms.compound i ts) (sym names); width_is = sym counts }

pub name_shown : (t : Term) → name_in (shown_term t) ≡ name_of t
name_shown (Terms.variable q k) = refl
name_shown (Terms.number z) = refl
name_shown (Terms.compound c ts) = refl

pub count_in : (t : Term) → count_of (shown_term t) ≡ width (arguments_in t)
count_in (Terms.variable q k) = refl
count_in (Terms.number z) = refl
count_in (Terms.compound c ts) = refl

and_true : (b : Bool) → b && true ≡ b
and_true true = refl
and_true false = refl

cell_by_none : (c : ℕ) → is_cell_by c 0 ≡ false
cell_by_none c = and_right (eqb c POINT) (eqb 0 2) refl

cell_by : (c : ℕ) (ts : Terms) → is_cell_by c (width ts) ≡ is_cell c ts
cell_by c none = cell_by_none c
cell_by c (more h none) = and_right (eqb c POINT) (eqb 1 2) refl
cell_by c (more h (more t none)) = and_true (eqb c POINT)
cell_by c (more h (more t (more u us))) =
    and_right (eqb c POINT) (eqb (suc (suc (suc (width us)))) 2) (ne_eqb (suc (suc (suc (width us)))) 2 (λ e. omega arith))

-- a list cell has a head and a tail
pub record IsPair (ts : Terms) : Type 0 where
  pub head : Term
  pub tail : Term
  pub terms_are : ts ≡ more head (more tail none)

pair_of_two : (ts : Terms) → width ts ≡ 2 → IsPair ts
pair_of_two none e = absurd (omega arith)
pair_of_two (more h none) e = absurd (omega arith)
pair_of_two (more h (more t none)) e = record { head = h; tail = t; terms_are = refl }
pair_of_two (more h (more t (more u us))) e = absurd (omega arith)

tasks_append : (m : ℕ) (xs ys : List Task) → AreTasksThere m xs → AreTasksThere m ys → AreTasksThere m (xs ++ ys)
tasks_append m [] ys a b = b
tasks_append m (x ∷ xs) ys a b = (a.0, tasks_append m xs ys a.1 b)

pub tasks_popped : (m : ℕ) (ks : List Task) (k : Task) → AreTasksThere m (ks ++ k ∷ []) → AreTasksThere m ks × IsTaskThere m k
tasks_popped m [] k a = (tt, a.0)
tasks_popped m (j ∷ ks) k a = let rest = tasks_popped m ks k a.1 in ((a.0, rest.0), rest.1)

from_end : (place : ℕ) (ts : Terms) → width ts ≤ place → from_place place ts ≡ none
from_end zero none le = refl
from_end (suc n) none le = refl
from_end zero (more t ts) le = absurd (omega arith)
from_end (suc n) (more t ts) le = from_end n ts (omega arith)

from_next : (place : ℕ) (ts : Terms) → place < width ts → from_place place ts ≡ more (term_at ts place) (from_place (place + 1) ts)
from_next place none lt = absurd (omega arith)
from_next zero (more t ts) lt = refl
from_next (suc n) (more t ts) lt = let next : suc n + 1 ≡ suc (n + 1) = omega arith in rw next (from_next n ts (omega arith))

argument_in : (t : Term) (place : ℕ) → argument_of t place ≡ term_at (arguments_in t) place
argument_in (Terms.variable q k) place = refl
argument_in (Terms.number z) place = refl
argument_in (Terms.compound c ts) place = refl

not_nil : (c : ℕ) (ts : Terms) → (c ≡ NIL → width ts ≡ 0 → ⊥) → is_nil c ts ≡ false
not_nil c none other = ne_eqb c NIL (λ e. other e refl)
not_nil c (more t ts) other = refl

pub two_in_cell : (c n : ℕ) → is_cell_by c n ≡ true → n ≡ 2
two_in_cell c n e = eqb-true n 2 (and_parts (eqb c POINT) (eqb n 2) e).1

pub width_of : (t : Term) (c : NameNo) (n : ℕ) → Compound c n ≡ shown_term t → width (arguments_in t) ≡ n
width_of t c n e = sym (ap count_of e ∙ count_in t)

module _ (names : List Bytes) (vs : List (Path × ℕ)) (ss : List Shape) where
  texts-pushed : (before tasks : List Task) → texts_ahead names vs ss (before ++ tasks) ≡ texts_ahead names vs ss tasks ++ texts_ahead names vs ss before
  texts-pushed before tasks =
      ap (λ (ks : List Task). flat_map (task_text names vs ss) ks) (reverse-append before tasks)
      ∙ flat_map-append (task_text names vs ss) (reverse tasks) (reverse before)

  arguments_begun_of : (ts : Terms) → 0 < width ts
      → shown_arguments names vs ts ≡ 40 ∷ (shown names vs (term_at ts 0) ++ shown_rest names vs (from_place 1 ts))
  arguments_begun_of none some = absurd (omega arith)
  arguments_begun_of (more t ts) some = refl

  arguments_begun : (t : Term) → 0 < width (arguments_in t)
      → shown_arguments names vs (arguments_in t) ≡ 40 ∷ (shown names vs (argument_of t 0) ++ shown_rest names vs (from_place 1 (arguments_in t)))
  arguments_begun t some = arguments_begun_of (arguments_in t) some
      ∙ ap (λ (u : Term). 40 ∷ (shown names vs u ++ shown_rest names vs (from_place 1 (arguments_in t)))) (sym (argument_in t 0))

  -- a piece was written, and these tasks were put on the stack
  pub does : (due : Bytes) (before after tasks : List Task) (old new piece : Bytes) → after ≡ before ++ tasks → new ≡ old ++ piece
      → due ≡ piece ++ texts_ahead names vs ss tasks → AreTasksThere (length ss) tasks → length tasks ≤ 3 * length piece
      → Does names vs ss due before after old new
  does due before after tasks old new piece a n d there few = record {
    there = λ b. subst (λ (ks : List Task). AreTasksThere (length ss) ks) (sym a) (tasks_append (length ss) before tasks b there);
    written =
        ap (λ (t : Bytes). t ++ texts_ahead names vs ss after) n
        ∙ append_assoc old piece (texts_ahead names vs ss after)
        ∙ ap (λ (ks : List Task). old ++ (piece ++ texts_ahead names vs ss ks)) a
        ∙ ap (λ (t : Bytes). old ++ (piece ++ t)) (texts-pushed before tasks)
        ∙ ap (λ (t : Bytes). old ++ t) (sym (append_assoc piece (texts_ahead names vs ss tasks) (texts_ahead names vs ss before)))
        ∙ ap (λ (t : Bytes). old ++ (t ++ texts_ahead names vs ss before)) (sym d)
        ∙ sym (append_assoc old due (texts_ahead names vs ss before));
    longer = let two : length new ≡ length old + length piece = ap (λ (t : Bytes). length t) n ∙ length-append old piece in omega arith;
    few =
        let one : length after ≡ length before + length tasks = ap (λ (ks : List Task). length ks) a ∙ length-append before tasks in
        let two : length new ≡ length old + length piece = ap (λ (t : Bytes). length t) n ∙ length-append old piece in
        omega arith;
  }

  -- only a text was written
  pub does_text : (due : Bytes) (work : List Task) (old new : Bytes) → new ≡ old ++ due → Does names vs ss due work work old new
  does_text due work old new n = does due work work [] old new due (sym (append-nil work)) n (sym (append-nil due)) tt (omega arith)

  elements_of_pair : (h u : Term) → shown_elements names vs (more h (more u none)) ≡ shown names vs h ++ shown_tail names vs u
  elements_of_pair h u = refl

  -- the two parts of a list cell, before what closes it
  pub does_cell : (t : Term) (due close : Bytes) (before after : List Task) (old new piece : Bytes) (closing : List Task) (ts : Terms) (c : ℕ)
      → t ≡ Terms.compound c ts → width ts ≡ 2 → HasPushed ss t (before ++ closing) after → new ≡ old ++ piece
      → close ≡ texts_ahead names vs ss closing → due ≡ piece ++ (shown_elements names vs ts ++ close) → AreTasksThere (length ss) closing
      → length closing + 2 ≤ 3 * length piece
      → Does names vs ss due before after old new
  does_cell t due close before after old new piece closing ts c is two p n closes d there few =
      let pair = pair_of_two ts two in
      let pushed : List Task = Tail p.tail ∷ Whole p.head ∷ [] in
      let tasks : List Task = closing ++ pushed in
      let whole : t ≡ Terms.compound c (more pair.head (more pair.tail none)) = is ∙ ap (λ (us : Terms). Terms.compound c us) pair.terms_are in
      let head : node_term ss p.head.0 ≡ pair.head = p.head_is ∙ ap (λ (u : Term). argument_of u 0) whole in
      let tail : node_term ss p.tail.0 ≡ pair.tail = p.tail_is ∙ ap (λ (u : Term). argument_of u 1) whole in
      let texts : texts_ahead names vs ss tasks ≡ shown_elements names vs ts ++ close =
      texts-pushed closing pushed
      ∙ ap (λ (x : Bytes). (shown names vs (node_term ss p.head.0) ++ x) ++ texts_ahead names vs ss closing)
      (append-nil (shown_tail names vs (node_term ss p.tail.0)))
      ∙ ap (λ (u : Term). (shown names vs u ++ shown_tail names vs (node_term ss p.tail.0)) ++ texts_ahead names vs ss closing) head
      ∙ ap (λ (u : Term). (shown names vs pair.head ++ shown_tail names vs u) ++ texts_ahead names vs ss closing) tail
      ∙ ap (λ (x : Bytes). (shown names vs pair.head ++ shown_tail names vs pair.tail) ++ x) (sym closes)
      ∙ ap (λ (us : Terms). shown_elements names vs us ++ close) (sym pair.terms_are) in
      let long : length tasks ≡ length closing + 2 = length-append closing pushed in
      does due before after tasks old new piece (p.after_is ∙ append_assoc before closing pushed) n (d ∙ ap (λ (x : Bytes). piece ++ x) (sym texts))
      (tasks_append (length ss) closing pushed there (p.tail_there, (p.head_there, tt))) (omega arith)

  -- a list cell is begun
  pub does_whole_cell : (t : Term) (before after : List Task) (old new : Bytes) (c : ℕ) (ts : Terms) → t ≡ Terms.compound c ts
      → is_cell_by c (width ts) ≡ true → HasPushed ss t (before ++ Close ∷ []) after → new ≡ old ++ 91 ∷ []
      → Does names vs ss (shown names vs t) before after old new
  does_whole_cell t before after old new c ts is cell p n =
      let two : width ts ≡ 2 = eqb-true (width ts) 2 (and_parts (eqb c POINT) (eqb (width ts) 2) cell).1 in
      let due : shown names vs t ≡ 91 ∷ [] ++ (shown_elements names vs ts ++ 93 ∷ []) =
      ap (λ (u : Term). shown names vs u) is
      ∙ ap (λ (b : Bool). cond b (91 ∷ shown_elements names vs ts ++ 93 ∷ []) (shown_name (get_or names c []) ++ shown_arguments names vs ts))
      (sym (cell_by c ts) ∙ cell) in
      does_cell t (shown names vs t) (93 ∷ []) before after old new (91 ∷ []) (Close ∷ []) ts c is two p n refl due (tt, tt) (omega arith)

  -- a list goes on
  pub does_tail_cell : (t : Term) (before after : List Task) (old new : Bytes) (c : ℕ) (ts : Terms) → t ≡ Terms.compound c ts
      → is_cell_by c (width ts) ≡ true → HasPushed ss t before after → new ≡ old ++ 44 ∷ []
      → Does names vs ss (shown_tail names vs t) before after old new
  does_tail_cell t before after old new c ts is cell p n =
      let two : width ts ≡ 2 = eqb-true (width ts) 2 (and_parts (eqb c POINT) (eqb (width ts) 2) cell).1 in
      let due : shown_tail names vs t ≡ 44 ∷ [] ++ (shown_elements names vs ts ++ []) =
      ap (λ (u : Term). shown_tail names vs u) is
      ∙ ap (λ (b : Bool). cond b (44 ∷ shown_elements names vs ts)
      (cond (is_nil c ts) [] (124 ∷ shown_name (get_or names c []) ++ shown_arguments names vs ts))) (sym (cell_by c ts) ∙ cell)
      ∙ ap (λ (x : Bytes). 44 ∷ x) (sym (append-nil (shown_elements names vs ts))) in
      does_cell t (shown_tail names vs t) [] before after old new (44 ∷ []) [] ts c is two
      (subst (λ (ks : List Task). HasPushed ss t ks after) (sym (append-nil before)) p) n refl due tt (omega arith)

  -- what is no list cell is written by its name and its arguments
  pub shown_structure : (t : Term) (c : ℕ) (ts : Terms) → t ≡ Terms.compound c ts → is_cell_by c (width ts) ≡ false
      → shown names vs t ≡ shown_name (get_or names c []) ++ shown_arguments names vs ts
  shown_structure t c ts is other =
      ap (λ (u : Term). shown names vs u) is
      ∙ ap (λ (b : Bool). cond b (91 ∷ shown_elements names vs ts ++ 93 ∷ []) (shown_name (get_or names c []) ++ shown_arguments names vs ts))
      (sym (cell_by c ts) ∙ other)

  -- an atom
  pub does_atom : (name : Bytes) (ts : Terms) (work : List Task) (old new : Bytes) → width ts ≡ 0 → new ≡ old ++ name
      → Does names vs ss (name ++ shown_arguments names vs ts) work work old new
  does_atom name none work old new e n = does_text (name ++ []) work old new (n ∙ ap (λ (x : Bytes). old ++ x) (sym (append-nil name)))
  does_atom name (more t ts) work old new e n = absurd (omega arith)

  -- the arguments of a structure are begun
  pub does_structure : (name : Bytes) (node first : NodeNo) (before after : List Task) (old new : Bytes) → 0 < width (arguments_in (node_term ss node.0))
      → node.0 < length ss → first.0 < length ss → node_term ss first.0 ≡ argument_of (node_term ss node.0) 0
      → after ≡ before ++ Rest node 1 ∷ Whole first ∷ [] → new ≡ old ++ (name ++ 40 ∷ [])
      → Does names vs ss (name ++ shown_arguments names vs (arguments_in (node_term ss node.0))) before after old new
  does_structure name node first before after old new some there first_there is a n =
      let t : Term = node_term ss node.0 in
      let begun : shown_arguments names vs (arguments_in t) ≡ 40 ∷ (shown names vs (argument_of t 0) ++ shown_rest names vs (from_place 1 (arguments_in t))) =
      arguments_begun t some in
      let long : length (name ++ 40 ∷ []) ≡ length name + 1 = length_push name 40 in
      does (name ++ shown_arguments names vs (arguments_in t)) before after (Rest node 1 ∷ Whole first ∷ []) old new (name ++ 40 ∷ []) a n
      (ap (λ (x : Bytes). name ++ x) begun
      ∙ ap (λ (u : Term). name ++ (40 ∷ (shown names vs u ++ shown_rest names vs (from_place 1 (arguments_in t))))) (sym is)
      ∙ ap (λ (x : Bytes). name ++ (40 ∷ (shown names vs (node_term ss first.0) ++ x))) (sym (append-nil (shown_rest names vs (from_place 1 (arguments_in t)))))
      ∙ sym (append_assoc name (40 ∷ []) (texts_ahead names vs ss (Rest node 1 ∷ Whole first ∷ []))))
      (there, (first_there, tt)) (omega arith)

  -- the bracket behind the last argument
  pub does_bracket : (node : NodeNo) (place : ℕ) (work : List Task) (old new : Bytes) → width (arguments_in (node_term ss node.0)) ≤ place
      → new ≡ old ++ 41 ∷ [] → Does names vs ss (shown_rest names vs (from_place place (arguments_in (node_term ss node.0)))) work work old new
  does_bracket node place work old new le n =
      does_text (shown_rest names vs (from_place place (arguments_in (node_term ss node.0)))) work old new
      (n ∙ ap (λ (ts : Terms). old ++ shown_rest names vs ts) (sym (from_end place (arguments_in (node_term ss node.0)) le)))

  -- one argument more
  pub does_argument : (node next : NodeNo) (place : ℕ) (before after : List Task) (old new : Bytes) → place < width (arguments_in (node_term ss node.0))
      → node.0 < length ss → next.0 < length ss → node_term ss next.0 ≡ argument_of (node_term ss node.0) place
      → after ≡ before ++ Rest node (place + 1) ∷ Whole next ∷ [] → new ≡ old ++ 44 ∷ []
      → Does names vs ss (shown_rest names vs (from_place place (arguments_in (node_term ss node.0)))) before after old new
  does_argument node next place before after old new some there next_there is a n =
      let t : Term = node_term ss node.0 in
      let rest : Bytes = shown_rest names vs (from_place (place + 1) (arguments_in t)) in
      does (shown_rest names vs (from_place place (arguments_in t))) before after (Rest node (place + 1) ∷ Whole next ∷ []) old new (44 ∷ []) a n
      (ap (λ (ts : Terms). shown_rest names vs ts) (from_next place (arguments_in t) some)
      ∙ ap (λ (u : Term). 44 ∷ (shown names vs u ++ rest)) (sym (is ∙ argument_in t place))
      ∙ ap (λ (x : Bytes). 44 ∷ (shown names vs (node_term ss next.0) ++ x)) (sym (append-nil rest)))
      (there, (next_there, tt)) (omega arith)

  -- the end of a list whose tail is no list
  pub does_end : (node : NodeNo) (before after : List Task) (old new : Bytes) → node.0 < length ss
      → shown_tail names vs (node_term ss node.0) ≡ 124 ∷ shown names vs (node_term ss node.0)
      → after ≡ before ++ Whole node ∷ [] → new ≡ old ++ 124 ∷ []
      → Does names vs ss (shown_tail names vs (node_term ss node.0)) before after old new
  does_end node before after old new there is a n =
      does (shown_tail names vs (node_term ss node.0)) before after (Whole node ∷ []) old new (124 ∷ []) a n
      (is ∙ ap (λ (x : Bytes). 124 ∷ x) (sym (append-nil (shown names vs (node_term ss node.0))))) (there, tt) (omega arith)

  -- the end of a list
  pub does_nil : (t : Term) (c : ℕ) (ts : Terms) (work : List Task) (text : Bytes) → t ≡ Terms.compound c ts → is_cell_by c (width ts) ≡ false
      → c ≡ NIL → width ts ≡ 0 → Does names vs ss (shown_tail names vs t) work work text text
  does_nil t c none work text is other nil e =
      let due : shown_tail names vs t ≡ [] =
      ap (λ (u : Term). shown_tail names vs u) is
      ∙ ap (λ (d : ℕ). cond (eqb d NIL) [] (124 ∷ shown_name (get_or names c []) ++ [])) nil in
      does_text (shown_tail names vs t) work text text (sym (append-nil text) ∙ ap (λ (x : Bytes). text ++ x) (sym due))
  does_nil t c (more u us) work text is other nil e = absurd (omega arith)

  pub tail_of_variable : (t : Term) (q : Path) (k : ℕ) → t ≡ Terms.variable q k → shown_tail names vs t ≡ 124 ∷ shown names vs t
  tail_of_variable t q k e = ap (λ (u : Term). shown_tail names vs u) e ∙ ap (λ (u : Term). 124 ∷ shown names vs u) (sym e)

  pub tail_of_number : (t : Term) (z : ℤ) → t ≡ Terms.number z → shown_tail names vs t ≡ 124 ∷ shown names vs t
  tail_of_number t z e = ap (λ (u : Term). shown_tail names vs u) e ∙ ap (λ (u : Term). 124 ∷ shown names vs u) (sym e)

  pub tail_of_structure : (t : Term) (c : ℕ) (ts : Terms) → t ≡ Terms.compound c ts → is_cell_by c (width ts) ≡ false
      → (c ≡ NIL → width ts ≡ 0 → ⊥) → shown_tail names vs t ≡ 124 ∷ shown names vs t
  tail_of_structure t c ts is cell other =
      let rest : Bytes = shown_name (get_or names c []) ++ shown_arguments names vs ts in
      ap (λ (u : Term). shown_tail names vs u) is
      ∙ ap (λ (b : Bool). cond b (44 ∷ shown_elements names vs ts) (cond (is_nil c ts) [] (124 ∷ rest))) (sym (cell_by c ts) ∙ cell)
      ∙ ap (λ (b : Bool). cond b [] (124 ∷ rest)) (not_nil c ts other)
      ∙ ap (λ (x : Bytes). 124 ∷ x) (sym (shown_structure t c ts is cell))

  -- the first task, one that is done, and the last
  pub first_task : (node : NodeNo) (work : List Task) (text : Bytes) → work ≡ Whole node ∷ []
      → text ++ texts_ahead names vs ss work ≡ text ++ shown names vs (node_term ss node.0)
  first_task node work text e =
      ap (λ (ks : List Task). text ++ texts_ahead names vs ss ks) e
      ∙ ap (λ (x : Bytes). text ++ x) (append-nil (shown names vs (node_term ss node.0)))

  pub one_task_done : (before popped after : List Task) (task : Task) (old new all : Bytes) → before ≡ popped ++ task ∷ []
      → Does names vs ss (task_text names vs ss task) popped after old new → old ++ texts_ahead names vs ss before ≡ all
      → new ++ texts_ahead names vs ss after ≡ all
  one_task_done before popped after task old new all e d i =
      d.written
      ∙ append_assoc old (task_text names vs ss task) (texts_ahead names vs ss popped)
      ∙ ap (λ (x : Bytes). old ++ (x ++ texts_ahead names vs ss popped)) (sym (append-nil (task_text names vs ss task)))
      ∙ ap (λ (x : Bytes). old ++ x) (sym (texts-pushed popped (task ∷ [])))
      ∙ ap (λ (ks : List Task). old ++ texts_ahead names vs ss ks) (sym e)
      ∙ i

  pub last_task : (work : List Task) (text all : Bytes) → work ≡ [] → text ++ texts_ahead names vs ss work ≡ all → text ≡ all
  last_task work text all e i = sym (append-nil text) ∙ ap (λ (ks : List Task). text ++ texts_ahead names vs ss ks) (sym e) ∙ i

  pub less_left : (due : Bytes) (before popped after : List Task) (task : Task) (old new : Bytes) → Does names vs ss due popped after old new
      → before ≡ popped ++ task ∷ [] → length new < 2 ^ 64
      → 3 * (2 ^ 64 - length new) + length after < 3 * (2 ^ 64 - length old) + length before
  less_left due before popped after task old new d e short =
      let more : length before ≡ length popped + 1 = ap (λ (ks : List Task). length ks) e ∙ length_push popped task in
      let few = d.few in
      let longer = d.longer in
      omega arith

  -- what is no list cell, by what is seen of it
  pub structure_due : (t : Term) (c n : ℕ) → IsStructure c n t → is_cell_by c n ≡ false
      → shown names vs t ≡ shown_name (get_or names c []) ++ shown_arguments names vs (arguments_in t)
  structure_due t c n s cell =
      shown_structure t c s.terms s.term_is (ap (λ (m : ℕ). is_cell_by c m) s.width_is ∙ cell)
      ∙ ap (λ (u : Term). shown_name (get_or names c []) ++ shown_arguments names vs (arguments_in u)) (sym s.term_is)

  pub tail_due : (t : Term) (c n : ℕ) → IsStructure c n t → is_cell_by c n ≡ false → (c ≡ NIL → n ≡ 0 → ⊥)
      → shown_tail names vs t ≡ 124 ∷ shown names vs t
  tail_due t c n s cell other =
      tail_of_structure t c s.terms s.term_is (ap (λ (m : ℕ). is_cell_by c m) s.width_is ∙ cell) (λ e f. other e (sym s.width_is ∙ f))

  -- a list cell is begun, or goes on, by what is seen of it
  pub whole_cell : (t : Term) (before pushed after : List Task) (old new : Bytes) (c n : ℕ) → IsStructure c n t → is_cell_by c n ≡ true
      → pushed ≡ before ++ Close ∷ [] → HasPushed ss t pushed after → new ≡ old ++ 91 ∷ [] → Does names vs ss (shown names vs t) before after old new
  whole_cell t before pushed after old new c n s cell e p w =
      does_whole_cell t before after old new c s.terms s.term_is (ap (λ (m : ℕ). is_cell_by c m) s.width_is ∙ cell)
      (subst (λ (ks : List Task). HasPushed ss t ks after) e p) w

  pub tail_cell : (t : Term) (before after : List Task) (old new : Bytes) (c n : ℕ) → IsStructure c n t → is_cell_by c n ≡ true
      → HasPushed ss t before after → new ≡ old ++ 44 ∷ [] → Does names vs ss (shown_tail names vs t) before after old new
  tail_cell t before after old new c n s cell p w =
      does_tail_cell t before after old new c s.terms s.term_is (ap (λ (m : ℕ). is_cell_by c m) s.width_is ∙ cell) p w

  pub tail_nil : (t : Term) (c n : ℕ) (work : List Task) (text : Bytes) → IsStructure c n t → is_cell_by c n ≡ false → c ≡ NIL → n ≡ 0
      → Does names vs ss (shown_tail names vs t) work work text text
  tail_nil t c n work text s cell e f =
      does_nil t c s.terms work text s.term_is (ap (λ (m : ℕ). is_cell_by c m) s.width_is ∙ cell) e (s.width_is ∙ f)
