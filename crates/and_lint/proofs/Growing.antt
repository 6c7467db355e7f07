-- Bodies that grow, and tables of them.
use Rattle.std.proofs.Common.{ℕ, zero, suc, ◌+◌, ◌≡◌, ◌<◌, ◌≤◌, Bool, true, false, cond, List, [], ◌∷◌, ◌++◌, length, map, get_or, drop, set, replicate}
use Rattle.std.proofs.Common.{refl, sym, ap, ◌∙◌, arith, subst, append_assoc, ⊎_elim}
use Rattle.std.specs.List.{flat_map}
use Rattle.std.proofs.lemmas.Bool.{cases_eq, eq-eqb, ne_eqb}
use Rattle.std.proofs.lemmas.List.{append-nil, drop_more, drop_all, map-append, map-set, length-map, get_or-set_same, get_or-set_other, length-replicate}
use Rattle.std.proofs.lemmas.List.Concat.{flat_map-append}
use Rattle.and_model.specs.Terms.{Term, variable, number, compound, width}
use Rattle.and_model.specs.Programs.{Program, Clause, Item, call, clause_at}
use Rattle.and_model.specs.declared.numbers.ClauseNo.{ClauseNo}
use Rattle.and_model.specs.declared.numbers.NameNo.{NameNo}
use Rattle.and_program.specs.Items.{node_item}
use Rattle.and_program.specs.Shown.{count_of, shown_term, term_at, clauses_with}
use Rattle.and_program.specs.Skeletons.{Shape, IsThere, AllThere, item_of, after}
use Rattle.and_program.specs.declared.item.ItemNode.{ItemNode}
use Rattle.and_program.specs.declared.node.NodeKind.TheVariants.{Variable, Number, Compound}
use Rattle.and_lint.specs.Subterms.{subterms}
use Rattle.and_model.specs.Terms.{Terms, none, more}
use Rattle.std.proofs.Common.{ℤ}
use Rattle.and_lint.specs.Bodies.{begins_lifted, is_lifted, clauses_of, given_by, items_of, number_here, variable_for, variables_of_item}
use Rattle.and_lint.specs.Held.{AreItems, Gains, IsBody, Nears, Tells, items_at, items_shown, nodes_in, numbers_of, variables_at}
use Rattle.and_lint.specs.declared.bodies.Body.{Body}
use Rattle.and_lint.proofs.Tasks.{term_of_compound}

pub shown-append : (ss : List Shape) (xs ys : List ItemNode) → items_shown ss (xs ++ ys) ≡ items_shown ss xs ++ items_shown ss ys
shown-append ss xs ys =
    ap (λ is. map (item_of ss) is) (map-append node_item xs ys) ∙ map-append (item_of ss) (map node_item xs) (map node_item ys)

pub there-append : (ss : List Shape) (xs ys : List ItemNode) → AreItems ss xs → AreItems ss ys → AreItems ss (xs ++ ys)
there-append ss [] ys a b = b
there-append ss (x ∷ xs) ys a b = (a.0, there-append ss xs ys a.1 b)

-- each of these items is there
pub item_of_these : (ss : List Shape) (xs : List ItemNode) (i : ℕ) (d : ItemNode) → AreItems ss xs → i < length xs
    → (k : ℕ) × IsThere ss k (node_item (get_or xs i d))
item_of_these ss [] i d a lt = absurd (omega arith)
item_of_these ss (x ∷ xs) zero d a lt = a.0
item_of_these ss (x ∷ xs) (suc i) d a lt = item_of_these ss xs i d a.1 (omega arith)

-- nothing was put behind a body yet
pub nears_first : (ss : List Shape) (b : Body) (items : List Item) (variables : List ℕ) → Nears ss b items variables b items variables
nears_first ss b items variables = record { items_are = refl; variables_are = refl; there = λ a. a }

-- one thing more was
pub nears_on : (ss : List Shape) (first now new : Body) (items xs ys : List Item) (variables vs ws : List ℕ) (before : List Item) (others : List ℕ)
    → Nears ss first items variables now before others → before ≡ xs ++ ys → others ≡ vs ++ ws → Gains ss now new xs vs
    → Nears ss first items variables new ys ws
nears_on ss first now new items xs ys variables vs ws before others n e f g = record {
  items_are = ap (λ is. is ++ ys) g.items_are ∙ append_assoc (items_shown ss now.items.items) xs ys
      ∙ ap (λ is. items_shown ss now.items.items ++ is) (sym e) ∙ n.items_are;
  variables_are = ap (λ is. is ++ ws) g.variables_are ∙ append_assoc now.variables.items vs ws
      ∙ ap (λ is. now.variables.items ++ is) (sym f) ∙ n.variables_are;
  there = λ a. g.there (n.there a);
}

-- and nothing is left
pub nears_end : (ss : List Shape) (first now : Body) (items ys : List Item) (variables ws : List ℕ) → Nears ss first items variables now ys ws → ys ≡ []
    → ws ≡ [] → Gains ss first now items variables
nears_end ss first now items ys variables ws n e f = record {
  items_are = sym (append-nil (items_shown ss now.items.items)) ∙ ap (λ is. items_shown ss now.items.items ++ is) (sym e) ∙ n.items_are;
  variables_are = sym (append-nil now.variables.items) ∙ ap (λ is. now.variables.items ++ is) (sym f) ∙ n.variables_are;
  there = n.there;
}

-- a body that began with nothing
pub body_is : (ss : List Shape) (first now : Body) (items : List Item) (variables : List ℕ) → first.items.items ≡ [] → first.variables.items ≡ []
    → Gains ss first now items variables → IsBody ss now items variables
body_is ss first now items variables e f g = record {
  items_are = g.items_are ∙ ap (λ xs. items_shown ss xs ++ items) e;
  variables_are = g.variables_are ∙ ap (λ vs. vs ++ variables) f;
  there = g.there (subst (AreItems ss) (sym e) tt);
}

-- an item was put behind
pub item_gained : (ss : List Shape) (old new : Body) (item : ItemNode) (vs : List ℕ) → (k : ℕ) × IsThere ss k (node_item item)
    → new.items.items ≡ old.items.items ++ item ∷ [] → new.variables.items ≡ old.variables.items ++ vs
    → Gains ss old new (item_of ss (node_item item) ∷ []) vs
item_gained ss old new item vs there e f = record {
  items_are = ap (items_shown ss) e ∙ shown-append ss old.items.items (item ∷ []);
  variables_are = f;
  there = λ a. subst (AreItems ss) (sym e) (there-append ss old.items.items (item ∷ []) a (there, tt));
}

-- what a table tells of a clause was put behind
pub told_gained : (ss : List Shape) (bs : List Body) (items : ℕ → List Item) (variables : ℕ → List ℕ) (old new : Body) (c : ℕ) (f : ℕ → List ℕ)
    → Tells ss bs items variables → new.items.items ≡ old.items.items ++ items_at bs c
    → new.variables.items ≡ old.variables.items ++ flat_map f (variables_at bs c) → Gains ss old new (items c) (flat_map f (variables c))
told_gained ss bs items variables old new c f t e g = record {
  items_are = ap (items_shown ss) e ∙ shown-append ss old.items.items (items_at bs c)
      ∙ ap (λ is. items_shown ss old.items.items ++ is) (t.items_are c);
  variables_are = g ∙ ap (λ vs. old.variables.items ++ flat_map f vs) (t.variables_are c);
  there = λ a. subst (AreItems ss) (sym e) (there-append ss old.items.items (items_at bs c) a (t.there c));
}

-- a call is that of a disjunction, or it is not
pub lifted_gained : (ss : List Shape) (P : Program) (old new : Body) (items : ℕ → List Item) (variables : ℕ → List ℕ) (g : Term) → is_lifted P g ≡ true
    → Gains ss old new (flat_map (λ (d : ClauseNo). items d.0) (clauses_of P g))
    (flat_map (λ (d : ClauseNo). flat_map (variable_for g) (variables d.0)) (clauses_of P g))
    → Gains ss old new (items_of P items (call g)) (variables_of_item P variables (call g))
lifted_gained ss P old new items variables g e a =
    subst (λ (b : Bool). Gains ss old new (cond b (flat_map (λ (d : ClauseNo). items d.0) (clauses_of P g)) (call g ∷ []))
    (cond b (flat_map (λ (d : ClauseNo). flat_map (variable_for g) (variables d.0)) (clauses_of P g)) (flat_map number_here (flat_map subterms (g ∷ [])))))
    (sym e) a

pub plain_gained : (ss : List Shape) (P : Program) (old new : Body) (items : ℕ → List Item) (variables : ℕ → List ℕ) (g : Term) → is_lifted P g ≡ false
    → Gains ss old new (call g ∷ []) (flat_map number_here (flat_map subterms (g ∷ [])))
    → Gains ss old new (items_of P items (call g)) (variables_of_item P variables (call g))
plain_gained ss P old new items variables g e a =
    subst (λ (b : Bool). Gains ss old new (cond b (flat_map (λ (d : ClauseNo). items d.0) (clauses_of P g)) (call g ∷ []))
    (cond b (flat_map (λ (d : ClauseNo). flat_map (variable_for g) (variables d.0)) (clauses_of P g)) (flat_map number_here (flat_map subterms (g ∷ [])))))
    (sym e) a

-- an argument that a term does not have is no variable
term_beyond : (ts : Terms) (i : ℕ) → width ts ≤ i → number_here (term_at ts i) ≡ []
term_beyond none i le = refl
term_beyond (more t ts) zero le = absurd (omega arith)
term_beyond (more t ts) (suc i) le = term_beyond ts i (omega arith)

pub argument_beyond : (t : Term) (i : ℕ) → count_of (shown_term t) ≤ i → variable_for t i ≡ []
argument_beyond (variable q k) i le = refl
argument_beyond (number z) i le = refl
argument_beyond (compound c ts) i le = term_beyond ts i le

-- what is seen of a node's kind
pub variable_is_here : (t : Term) (k : ℕ) → Variable k ≡ shown_term t → number_here t ≡ k ∷ []
variable_is_here (variable q j) k e = let same : k ≡ j = cc in ap (λ (i : ℕ). i ∷ []) (sym same)
variable_is_here (number z) k e = absurd (cc)
variable_is_here (compound c ts) k e = absurd (cc)

pub number_is_none : (t : Term) (z : ℤ) → Number z ≡ shown_term t → number_here t ≡ []
number_is_none (variable q j) z e = absurd (cc)
number_is_none (number y) z e = refl
number_is_none (compound c ts) z e = absurd (cc)

pub compound_is_none : (t : Term) (d : NameNo) (n : ℕ) → Compound d n ≡ shown_term t → number_here t ≡ []
compound_is_none (variable q j) d n e = absurd (cc)
compound_is_none (number y) d n e = absurd (cc)
compound_is_none (compound c ts) d n e = refl

pub variable_not_lifted : (P : Program) (t : Term) (k : ℕ) → Variable k ≡ shown_term t → (is_lifted P t ≡ false) × (clauses_of P t ≡ [])
variable_not_lifted P (variable q j) k e = (refl, refl)
variable_not_lifted P (number z) k e = absurd (cc)
variable_not_lifted P (compound c ts) k e = absurd (cc)

pub number_not_lifted : (P : Program) (t : Term) (z : ℤ) → Number z ≡ shown_term t → (is_lifted P t ≡ false) × (clauses_of P t ≡ [])
number_not_lifted P (variable q j) z e = absurd (cc)
number_not_lifted P (number y) z e = (refl, refl)
number_not_lifted P (compound c ts) z e = absurd (cc)

pub structure_lifted : (P : Program) (t : Term) (d : NameNo) (n : ℕ) → Compound d n ≡ shown_term t
    → (is_lifted P t ≡ begins_lifted (get_or P.names d.0 [])) × (clauses_of P t ≡ clauses_with d.0 n 1 P.clauses)
structure_lifted P t d n e =
    let s = term_of_compound t d n e in (
      ap (is_lifted P) s.term_is,
      ap (clauses_of P) s.term_is ∙ ap (λ (m : ℕ). clauses_with d.0 m 1 P.clauses) s.width_is,
    )

-- an empty table tells nothing
empty_at : {A : Type 0} (n c : ℕ) → let none : List A = [] in get_or (replicate n none) c none ≡ none
empty_at zero c = refl
empty_at (suc n) zero = refl
empty_at (suc n) (suc c) = empty_at n c

pub none_told : (ss : List Shape) (P : Program) (bs : List Body) (n c : ℕ) → map nodes_in bs ≡ replicate n [] → map numbers_of bs ≡ replicate n []
    → length (P.query ∷ P.clauses) ≤ c
    → Tells ss bs (given_by (items_of P) c (drop c (P.query ∷ P.clauses))) (given_by (variables_of_item P) c (drop c (P.query ∷ P.clauses)))
none_told ss P bs n c e f past =
    let all : List Clause = P.query ∷ P.clauses in
    let behind : drop c all ≡ [] = drop_all c all past in
    let items : (d : ℕ) → items_at bs d ≡ [] = λ d. ap (λ xs. get_or xs d []) e ∙ empty_at n d in
    record {
      items_are = λ d. ap (items_shown ss) (items d) ∙ ap (λ ks. given_by (items_of P) c ks d) (sym behind);
      variables_are = λ d. ap (λ xs. get_or xs d []) f ∙ empty_at n d ∙ ap (λ ks. given_by (variables_of_item P) c ks d) (sym behind);
      there = λ d. subst (AreItems ss) (sym (items d)) tt;
    }

-- a table with one body more
given_here : {A : Type 0} (of_item : (ℕ → List A) → Item → List A) (c : ℕ) (k : Clause) (ks : List Clause)
    → given_by of_item c (k ∷ ks) c ≡ flat_map (of_item (given_by of_item (suc c) ks)) k.body
given_here of_item c k ks =
    ap (λ (b : Bool). cond b (flat_map (of_item (given_by of_item (suc c) ks)) k.body) (given_by of_item (suc c) ks c)) (eq-eqb c c refl)

given_there : {A : Type 0} (of_item : (ℕ → List A) → Item → List A) (c d : ℕ) (k : Clause) (ks : List Clause) → (d ≡ c → ⊥)
    → given_by of_item c (k ∷ ks) d ≡ given_by of_item (suc c) ks d
given_there of_item c d k ks ne =
    ap (λ (b : Bool). cond b (flat_map (of_item (given_by of_item (suc c) ks)) k.body) (given_by of_item (suc c) ks d)) (ne_eqb d c ne)

-- the table holds what stands from number c on
abbrev pub TellsFrom : List Shape → Program → List Body → ℕ → Type 0
TellsFrom ss P bs c =
    Tells ss bs (given_by (items_of P) c (drop c (P.query ∷ P.clauses))) (given_by (variables_of_item P) c (drop c (P.query ∷ P.clauses)))

pub one_told : (ss : List Shape) (P : Program) (bs : List Body) (b : Body) (c : ℕ) → c < length bs → c ≤ length P.clauses
    → Tells ss bs (given_by (items_of P) (suc c) (drop (suc c) (P.query ∷ P.clauses)))
    (given_by (variables_of_item P) (suc c) (drop (suc c) (P.query ∷ P.clauses)))
    → IsBody ss b (flat_map (items_of P (given_by (items_of P) (suc c) (drop (suc c) (P.query ∷ P.clauses)))) (clause_at P c).body)
    (flat_map (variables_of_item P (given_by (variables_of_item P) (suc c) (drop (suc c) (P.query ∷ P.clauses)))) (clause_at P c).body)
    → TellsFrom ss P (set bs c b) c
one_told ss P bs b c lt le t is =
    let all : List Clause = P.query ∷ P.clauses in
    let k : Clause = clause_at P c in
    let ks : List Clause = drop (suc c) all in
    let split : drop c all ≡ k ∷ ks = drop_more all c P.query (omega arith) ∙ ap (λ (n : ℕ). k ∷ drop n all) (let e : c + 1 ≡ suc c = omega arith in e) in
    let fits : c < length (map nodes_in bs) = let e = length-map bs nodes_in in omega arith in
    let fits_too : c < length (map numbers_of bs) = let e = length-map bs numbers_of in omega arith in
    let items_set : (d : ℕ) → items_at (set bs c b) d ≡ get_or (set (map nodes_in bs) c b.items.items) d [] =
    λ d. ap (λ xs. get_or xs d []) (map-set nodes_in bs c b) in
    let numbers_set : (d : ℕ) → variables_at (set bs c b) d ≡ get_or (set (map numbers_of bs) c b.variables.items) d [] =
    λ d. ap (λ xs. get_or xs d []) (map-set numbers_of bs c b) in
    let here : (d : ℕ) → d ≡ c → items_at (set bs c b) d ≡ b.items.items = λ d e.
    ap (items_at (set bs c b)) e ∙ items_set c ∙ get_or-set_same (map nodes_in bs) c b.items.items [] fits in
    let there : (d : ℕ) → (d ≡ c → ⊥) → items_at (set bs c b) d ≡ items_at bs d = λ d ne.
    items_set d ∙ get_or-set_other (map nodes_in bs) c d b.items.items [] ne in
    record {
      items_are = λ d. ⊎_elim
          (λ (e : d ≡ c). ap (items_shown ss) (here d e) ∙ is.items_are ∙ sym (given_here (items_of P) c k ks)
          ∙ ap (given_by (items_of P) c (k ∷ ks)) (sym e) ∙ ap (λ ms. given_by (items_of P) c ms d) (sym split))
          (λ (ne : d ≡ c → ⊥). ap (items_shown ss) (there d ne) ∙ t.items_are d ∙ sym (given_there (items_of P) c d k ks ne)
          ∙ ap (λ ms. given_by (items_of P) c ms d) (sym split)) (cases_eq d c);
      variables_are = λ d. ⊎_elim
          (λ (e : d ≡ c). ap (variables_at (set bs c b)) e ∙ numbers_set c ∙ get_or-set_same (map numbers_of bs) c b.variables.items [] fits_too
          ∙ is.variables_are ∙ sym (given_here (variables_of_item P) c k ks)
          ∙ ap (given_by (variables_of_item P) c (k ∷ ks)) (sym e) ∙ ap (λ ms. given_by (variables_of_item P) c ms d) (sym split))
          (λ (ne : d ≡ c → ⊥). numbers_set d ∙ get_or-set_other (map numbers_of bs) c d b.variables.items [] ne ∙ t.variables_are d
          ∙ sym (given_there (variables_of_item P) c d k ks ne) ∙ ap (λ ms. given_by (variables_of_item P) c ms d) (sym split)) (cases_eq d c);
      there = λ d. ⊎_elim
          (λ (e : d ≡ c). subst (AreItems ss) (sym (here d e)) is.there)
          (λ (ne : d ≡ c → ⊥). subst (AreItems ss) (sym (there d ne)) (t.there d)) (cases_eq d c);
    }

-- the variables of two terms, one after another
pub both_pushed : (old now new : List ℕ) (a b : Term) → now ≡ old ++ flat_map number_here (flat_map subterms (a ∷ []))
    → new ≡ now ++ flat_map number_here (flat_map subterms (b ∷ [])) → new ≡ old ++ flat_map number_here (flat_map subterms (a ∷ b ∷ []))
both_pushed old now new a b x y =
    let one : List ℕ = flat_map number_here (flat_map subterms (a ∷ [])) in
    let two : List ℕ = flat_map number_here (flat_map subterms (b ∷ [])) in
    let both : flat_map number_here (flat_map subterms (a ∷ b ∷ [])) ≡ one ++ two =
    ap (λ (ts : List Term). flat_map number_here ts) (flat_map-append subterms (a ∷ []) (b ∷ []))
    ∙ flat_map-append number_here (flat_map subterms (a ∷ [])) (flat_map subterms (b ∷ [])) in
    y ∙ ap (λ (vs : List ℕ). vs ++ two) x ∙ append_assoc old one two ∙ ap (λ (vs : List ℕ). old ++ vs) (sym both)

-- one more was pushed of what the numbers of a list give
pub pushed_on : (f : ℕ → List ℕ) (first now new all ks : List ℕ) (i : ℕ) → i < length ks → now ++ flat_map f (drop i ks) ≡ first ++ all
    → new ≡ now ++ f (get_or ks i 0) → new ++ flat_map f (drop (i + 1) ks) ≡ first ++ all
pushed_on f first now new all ks i lt e n =
    ap (λ (vs : List ℕ). vs ++ flat_map f (drop (i + 1) ks)) n
    ∙ append_assoc now (f (get_or ks i 0)) (flat_map f (drop (i + 1) ks))
    ∙ ap (λ (js : List ℕ). now ++ flat_map f js) (sym (drop_more ks i 0 lt)) ∙ e

pub pushed_end : (f : ℕ → List ℕ) (first now all ks : List ℕ) (i : ℕ) → length ks ≤ i → now ++ flat_map f (drop i ks) ≡ first ++ all → now ≡ first ++ all
pushed_end f first now all ks i le e =
    sym (append-nil now) ∙ ap (λ (js : List ℕ). now ++ flat_map f js) (sym (drop_all i ks le)) ∙ e

-- a table of one more body
pub one_empty : (bs : List Body) (b : Body) (n : ℕ) → map nodes_in bs ≡ replicate n [] → b.items.items ≡ [] → map nodes_in (bs ++ b ∷ []) ≡ replicate (n + 1) []
one_empty bs b n e f =
    map-append nodes_in bs (b ∷ []) ∙ ap (λ xs. xs ++ b.items.items ∷ []) e ∙ ap (λ x. replicate n [] ++ x ∷ []) f ∙ more n
    ∙ ap (λ (k : ℕ). replicate k []) (let e : suc n ≡ n + 1 = omega arith in e)
  where
    more : (m : ℕ) → let none : List ItemNode = [] in replicate m none ++ none ∷ [] ≡ replicate (suc m) none
    more zero = refl
    more (suc m) = ap (λ xs. [] ∷ xs) (more m)

pub one_unused : (bs : List Body) (b : Body) (n : ℕ) → map numbers_of bs ≡ replicate n [] → b.variables.items ≡ []
    → map numbers_of (bs ++ b ∷ []) ≡ replicate (n + 1) []
one_unused bs b n e f =
    map-append numbers_of bs (b ∷ []) ∙ ap (λ xs. xs ++ b.variables.items ∷ []) e ∙ ap (λ x. replicate n [] ++ x ∷ []) f ∙ more n
    ∙ ap (λ (k : ℕ). replicate k []) (let e : suc n ≡ n + 1 = omega arith in e)
  where
    more : (m : ℕ) → let none : List ℕ = [] in replicate m none ++ none ∷ [] ≡ replicate (suc m) none
    more zero = refl
    more (suc m) = ap (λ xs. [] ∷ xs) (more m)

pub length_empty : (bs : List Body) (n : ℕ) → map nodes_in bs ≡ replicate n [] → length bs ≡ n
length_empty bs n e =
    sym (length-map bs nodes_in) ∙ ap (λ (xs : List (List ItemNode)). length xs) e ∙ length-replicate {A = List ItemNode} n []

-- all items of a body are there
pub all_items : (ss : List Shape) (k : ℕ) (xs : List ItemNode) → AllThere ss k (map node_item xs) → AreItems ss xs
all_items ss k [] a = tt
all_items ss k (x ∷ xs) a = ((k, a.0), all_items ss (after k (node_item x)) xs a.1)
