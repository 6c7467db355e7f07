-- What a part is as a body.
use Rattle.std.proofs.Common.{ℕ, zero, suc, ◌+◌, ◌<◌, ◌≤◌, ◌≡◌, Bool, true, false, cond, ◌||◌, List, [], ◌∷◌, length, map, get_or, Option, Some, None, codes}
use Rattle.std.proofs.Common.{refl, sym, ap, ◌∙◌, arith, subst}
use Rattle.std.specs.Str.{bytes_eq}
use Rattle.std.specs.Option.{option_map}
use Rattle.std.proofs.lemmas.Slice.Eq.{bytes_eq-Decides}
use Rattle.and_model.specs.Lines.{Bytes}
use Rattle.and_syntax.specs.Written as written
use Rattle.and_syntax.specs.Written.{Written, Many, compound, none, more, nodes_of, has}
use Rattle.and_program.specs.Skeletons.{Falls}
use Rattle.and_translation.specs.Bodies.{nothing, goals, nonterminal, both, either, impure, or, alternatives, body_of, elements, reserved}
use Rattle.and_translation.specs.Bodies.{terminals_or_impure}
use Rattle.and_drafts.specs.Parts.{PartShape, many, arguments_of}
use Rattle.and_drafts.specs.Parts as shapes
use Rattle.and_drafts.specs.Drafts.{draft_of, shapes_of, read_shape}
use Rattle.and_drafts.specs.declared.draft.ClauseDraft.{ClauseDraft}
use Rattle.and_drafts.proofs.Telling.{variable_read, integer_read, compound_read}
use Rattle.and_grammar.specs.declared.bodies.BodyPart.{BodyPart}
use Rattle.and_grammar.specs.declared.bodies.BodyPart.TheVariants.{Nothing, Goals, Nonterminal, Both, Either, Impure}
use Rattle.and_grammar.specs.Views.{term_at, body_at, Holds, IsBody, arguments_at, atom_part, unary_part, binary_part, named_part, list_part, cell_part}
use Rattle.and_grammar.specs.Views.{nil_part, is_nil, IsCell}

pub below_all : (a b : ℕ) (ns : List ℕ) → Falls a ns → a ≤ b → (k d : ℕ) → k < length ns → get_or ns k d < b
below_all a b [] f le k d lt = absurd (omega arith)
below_all a b (n ∷ ns) f le zero d lt = omega (arith, f.0)
below_all a b (n ∷ ns) f le (suc k) d lt = below_all a b ns f.1 le k d (omega arith)

module _ (d : ClauseDraft) (n : ℕ) where
  two_held : (c : Bytes) (l r : ℕ) → term_at d n ≡ compound c (more (term_at d l) (more (term_at d r) none)) → l < n → r < n → Holds d l r n
  two_held c l r is low high =
      let size : nodes_of (term_at d n) ≡ suc (nodes_of (term_at d l) + (nodes_of (term_at d r) + 0)) = ap nodes_of is in
      record { left = low; right = high; smaller = omega arith }

  called_here : (c : Bytes) (ts : Many) → term_at d n ≡ compound c ts → IsBody d n Nonterminal (nonterminal c ts)
  called_here c ts is = record { name = c; arguments = ts; named = is; same = refl }

  atom_is : (c : Bytes) (b1 b2 : Bool) → term_at d n ≡ compound c none
      → IsBody d n (cond b1 Nothing (cond b2 Impure Nonterminal)) (cond b1 nothing (cond b2 impure (nonterminal c none)))
  atom_is c true b2 is = refl
  atom_is c false true is = refl
  atom_is c false false is = called_here c none is

  unary_is : (c : Bytes) (g : ℕ) (b1 b2 : Bool) → term_at d n ≡ compound c (more (term_at d g) none) → g < n
      → IsBody d n (cond b1 (Goals g) (cond b2 Impure Nonterminal)) (cond b1 (goals (term_at d g)) (cond b2 impure (nonterminal c (more (term_at d g) none))))
  unary_is c g true b2 is lt = (refl, lt)
  unary_is c g false true is lt = refl
  unary_is c g false false is lt = called_here c (more (term_at d g) none) is

  listed_is : (t : Written) (o : Option (List Written)) → elements (term_at d n) ≡ option_map (λ (ts : List Written). t ∷ ts) o
      → IsBody d n (list_part o) (terminals_or_impure (option_map (λ (ts : List Written). t ∷ ts) o))
  listed_is t None e = refl
  listed_is t (Some ts) e = record { items = t ∷ ts; listed = e; same = refl }

  binary_is : (c : Bytes) (l r : ℕ) (b1 b2 b3 b4 : Bool) → term_at d n ≡ compound c (more (term_at d l) (more (term_at d r) none)) → l < n → r < n
      → (b3 ≡ true → elements (term_at d n) ≡ option_map (λ (ts : List Written). term_at d l ∷ ts) (elements (term_at d r)))
      → IsBody d n (cond b1 (Both l r) (cond b2 (Either l r) (cond b3 (list_part (elements (term_at d r))) (cond b4 Impure Nonterminal))))
      (cond b1 (both (body_at d l) (body_at d r)) (cond b2 (either (or (body_at d l) (alternatives (body_at d r))))
      (cond b3 (terminals_or_impure (option_map (λ (ts : List Written). term_at d l ∷ ts) (elements (term_at d r))))
      (cond b4 impure (nonterminal c (more (term_at d l) (more (term_at d r) none)))))))
  binary_is c l r true b2 b3 b4 is low high e = (refl, two_held c l r is low high)
  binary_is c l r false true b3 b4 is low high e = (refl, two_held c l r is low high)
  binary_is c l r false false true b4 is low high e = listed_is (term_at d l) (elements (term_at d r)) (e refl)
  binary_is c l r false false false true is low high e = refl
  binary_is c l r false false false false is low high e = called_here c (more (term_at d l) (more (term_at d r) none)) is

  pub named_is_body : (c : Bytes) (ns : List ℕ) → term_at d n ≡ compound c (many (map (term_at d) ns)) → Falls n ns
      → IsBody d n (named_part d c ns) (body_at d n)
  named_is_body c [] is f =
      subst (IsBody d n (atom_part c)) (sym (ap body_of is)) (atom_is c (bytes_eq c (codes "[]")) (bytes_eq c (codes "!") || has c reserved) is)
  named_is_body c (g ∷ []) is f =
      subst (IsBody d n (unary_part c g)) (sym (ap body_of is)) (unary_is c g (bytes_eq c (codes "{}")) (bytes_eq c (codes "\\+")) is f.0)
  named_is_body c (l ∷ r ∷ []) is f =
      let listed : bytes_eq c (codes ".") ≡ true → elements (term_at d n) ≡ option_map (λ (ts : List Written). term_at d l ∷ ts) (elements (term_at d r)) =
      λ e. ap elements is ∙ ap (λ (b : Bool). cond b (option_map (λ (ts : List Written). term_at d l ∷ ts) (elements (term_at d r))) None) e in
      subst (IsBody d n (binary_part d c l r)) (sym (ap body_of is))
      (binary_is c l r (bytes_eq c (codes ",")) (bytes_eq c (codes ";")) (bytes_eq c (codes ".")) (bytes_eq c (codes "->")) is f.0 f.1.0 listed)
  named_is_body c (l ∷ m ∷ r ∷ ns) is f =
      subst (IsBody d n Nonterminal) (sym (ap body_of is)) (called_here c (many (map (term_at d) (l ∷ m ∷ r ∷ ns))) is)

  pub named_is_nil : (c : Bytes) (ns : List ℕ) → term_at d n ≡ compound c (many (map (term_at d) ns)) → nil_part c ns ≡ is_nil (term_at d n)
  named_is_nil c [] is = sym (ap is_nil is)
  named_is_nil c (m ∷ ns) is = sym (ap is_nil is)

  pub no_cell : (t : Written) → elements t ≡ cond (is_nil t) (Some []) None → term_at d n ≡ t
      → elements (term_at d n) ≡ cond (is_nil (term_at d n)) (Some []) None
  no_cell t e is = subst (λ (u : Written). elements u ≡ cond (is_nil u) (Some []) None) (sym is) e

  pub named_is_cell : (c : Bytes) (ns : List ℕ) → term_at d n ≡ compound c (many (map (term_at d) ns)) → Falls n ns → IsCell d n (cell_part c ns)
  named_is_cell c [] is f = no_cell (compound c none) refl is
  named_is_cell c (g ∷ []) is f = no_cell (compound c (more (term_at d g) none)) refl is
  named_is_cell c (e ∷ r ∷ []) is f = by (bytes_eq c (codes ".")) refl
    where
      by : (b : Bool) → bytes_eq c (codes ".") ≡ b → IsCell d n (cond b (Some (record { element = e; rest = r })) None)
      by true h =
          let point : c ≡ codes "." = (bytes_eq-Decides c (codes ".")).0 h in
          record { named = is ∙ ap (λ (x : Bytes). compound x (more (term_at d e) (more (term_at d r) none))) point; within = two_held c e r is f.0 f.1.0 }
      by false h =
          no_cell (compound c (more (term_at d e) (more (term_at d r) none)))
          (ap (λ (b : Bool). cond b (option_map (λ (ts : List Written). term_at d e ∷ ts) (elements (term_at d r))) None) h) is
  named_is_cell c (e ∷ m ∷ r ∷ ns) is f = no_cell (compound c (many (map (term_at d) (e ∷ m ∷ r ∷ ns)))) refl is

-- whether it is a list is seen at its rest
pub list_part_same : (t : Written) (o : Option (List Written)) → list_part (option_map (λ (ts : List Written). t ∷ ts) o) ≡ list_part o
list_part_same t None = refl
list_part_same t (Some ts) = refl

pub same_arguments : (n : ℕ) (ns ms : List ℕ) → ns ≡ ms → Falls n ms → Falls n ns
same_arguments n ns ms e f = subst (Falls n) (sym e) f

-- a name's arguments are the terms at the parts that are
pub arguments_are : (d : ClauseDraft) (n : ℕ) → n < (draft_of d).parts → (c : Bytes) (ts : Many) → term_at d n ≡ compound c ts
    → many (map (term_at d) (arguments_at d n)) ≡ ts
arguments_are d n lt c ts is = by (get_or (shapes_of d) n (shapes.variable [])) refl
  where
    by : (p : PartShape) → get_or (shapes_of d) n (shapes.variable []) ≡ p → many (map (term_at d) (arguments_of p)) ≡ ts
    by (shapes.variable x) e =
        let other : written.variable x ≡ compound c ts =
        sym (variable_read d n [] lt _ x (sym (ap (read_shape []) e))) ∙ is in
        absurd (cc)
    by (shapes.integer z) e = let other : written.integer z ≡ compound c ts = sym (integer_read d n [] lt z (sym (ap (read_shape []) e))) ∙ is in absurd (cc)
    by (shapes.compound y ns) e =
        let read = compound_read d n [] lt (length ns) y (sym (ap (read_shape []) e)) in
        let same : many (map (term_at d) ns) ≡ many (map (term_at d) (arguments_at d n)) =
        ap (λ (p : PartShape). many (map (term_at d) (arguments_of p))) (sym e) in
        let here : compound y (many (map (term_at d) (arguments_at d n))) ≡ compound c ts = sym read.1 ∙ is in
        let inside : many (map (term_at d) (arguments_at d n)) ≡ ts = cc in
        same ∙ inside

-- a part that is known to be that body
pub known : (d : ClauseDraft) (n : ℕ) (p q : BodyPart) → p ≡ q → IsBody d n p (body_at d n) → IsBody d n q (body_at d n)
known d n p q e h = subst (λ (x : BodyPart). IsBody d n x (body_at d n)) e h
