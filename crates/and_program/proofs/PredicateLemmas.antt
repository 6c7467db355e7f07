-- The predicates of nodes.
use Rattle.std.proofs.Common.{ℕ, suc, ◌+◌, ◌≡◌, ◌<◌, ◌≤◌, Bool, true, false, cond, List, [], ◌∷◌, ◌++◌, length, map, get_or, take, drop, Option, Some, None}
use Rattle.std.proofs.Common.{refl, sym, ap, ◌∙◌, arith, add-one, eqb, Vec, unwrap_or}
use Rattle.std.proofs.lemmas.List.{length-map, get_or-map, get_or_past, drop_more, append_assoc}
use Rattle.std.proofs.lemmas.Bool.{eqb-true}
use Rattle.and_model.proofs.Tested.{first_true, second_true}
use Rattle.and_model.specs.Terms.{Term}
use Rattle.and_model.specs.declared.numbers.ClauseNo.{ClauseNo}
use Rattle.and_model.specs.Terms.{width}
use Rattle.and_program.specs.Skeletons
use Rattle.and_program.specs.Skeletons.{Shape, term_list, nth, shape_term, terms_behind, node_term}
use Rattle.and_program.specs.declared.node.Node.{Node}
use Rattle.and_program.specs.declared.entry.ClauseEntry.{ClauseEntry}
use Rattle.and_program.specs.Nodes.{shape_of, entry_clause}
use Rattle.and_program.specs.declared.predicates.Predicate.{Predicate}
use Rattle.and_program.specs.Predicates.{predicate_in, predicate_in_shape, same_key, is_key_of, numbers_from, items_in}
use Rattle.and_program.proofs.NodeTerms.{node_term_at, length-terms_behind}

pub width-term_list : (ts : List Term) → width (term_list ts) ≡ length ts
width-term_list [] = refl
width-term_list (t ∷ ts) = ap (λ (n : ℕ). suc n) (width-term_list ts)

predicate_in-shape_term : (ts : List Term) (s : Shape) → predicate_in (shape_term ts s) ≡ predicate_in_shape s
predicate_in-shape_term ts (Skeletons.variable k) = refl
predicate_in-shape_term ts (Skeletons.number z) = refl
predicate_in-shape_term ts (Skeletons.compound c ns) =
    let of : ℕ → Option Predicate = λ n. Some (record { name = record { 0 = c }; arity = n }) in
    ap of (width-term_list (map (nth ts) ns) ∙ length-map ns (nth ts))

pub predicate_in-node_term : (nodes : List Node) (n : ℕ) (d : Node) → n < length nodes
    → predicate_in (node_term (map shape_of nodes) n) ≡ predicate_in_shape (shape_of (get_or nodes n d))
predicate_in-node_term nodes n d lt =
    let ss : List Shape = map shape_of nodes in
    let within : n < length ss = omega (arith, length-map nodes shape_of) in
    let e : Shape = shape_of d in
    ap predicate_in (node_term_at ss n e within)
    ∙ predicate_in-shape_term (terms_behind [] (take n ss)) (get_or ss n e)
    ∙ ap predicate_in_shape (get_or-map shape_of nodes n d e lt)

pub predicate_in-past : (nodes : List Node) (n : ℕ) → length nodes ≤ n → predicate_in (node_term (map shape_of nodes) n) ≡ None
predicate_in-past nodes n past =
    let ss : List Shape = map shape_of nodes in
    let ts : List Term = terms_behind [] ss in
    ap predicate_in (get_or_past ts n (nth [] 0) (omega (arith, length-map nodes shape_of, length-terms_behind [] ss)))

-- one clause more, in a loop over clauses
pub numbers_from-step : (p : Predicate) (ss : List Shape) (cs : List ClauseEntry) (i : ℕ) (d : ClauseEntry) (key : Option Predicate)
    (old new total : List ClauseNo) → i < length cs
    → d ≡ get_or cs i d → key ≡ predicate_in (node_term ss d.head.0)
    → new ≡ cond (is_key_of key p) (old ++ record { 0 = i + 1 } ∷ []) old
    → old ++ numbers_from p (i + 1) (map (entry_clause ss) (drop i cs)) ≡ total
    → new ++ numbers_from p (i + 1 + 1) (map (entry_clause ss) (drop (i + 1) cs)) ≡ total
numbers_from-step p ss cs i d key old new total lt at of is now =
    let one : ClauseNo = record { 0 = i + 1 } in
    let rest : List ClauseNo = numbers_from p (i + 1 + 1) (map (entry_clause ss) (drop (i + 1) cs)) in
    let more : ℕ → List ClauseNo = λ n. numbers_from p n (map (entry_clause ss) (drop (i + 1) cs)) in
    let b : Bool = is_key_of (predicate_in (node_term ss (get_or cs i d).head.0)) p in
    let opened : numbers_from p (i + 1) (map (entry_clause ss) (drop i cs)) ≡ cond b (one ∷ rest) rest =
    ap (λ (es : List ClauseEntry). numbers_from p (i + 1) (map (entry_clause ss) es)) (drop_more cs i d lt)
    ∙ ap (λ (n : ℕ). cond b (one ∷ more n) (more n)) (sym (add-one (i + 1))) in
    let P : Bool → Type 0 = λ v. cond v (old ++ one ∷ []) old ++ rest ≡ old ++ cond v (one ∷ rest) rest in
    let is_now : new ≡ cond b (old ++ one ∷ []) old = is
    ∙ ap (λ (o : Option Predicate). cond (is_key_of o p) (old ++ one ∷ []) old) (of ∙ ap (λ (e : ClauseEntry). predicate_in (node_term ss e.head.0)) at) in
    ap (λ (xs : List ClauseNo). xs ++ rest) is_now
    ∙ (elim b as P [ true ↦ append_assoc old (one ∷ []) rest | false ↦ refl ])
    ∙ ap (λ (xs : List ClauseNo). old ++ xs) (sym opened)
    ∙ now

pub same_key-true : (p q : Predicate) → same_key p q ≡ true → p ≡ q
same_key-true p q e =
    let both : (eqb p.name.0 q.name.0 ≡ true) × (eqb p.arity q.arity ≡ true) = (first_true _ _ e, second_true (eqb p.name.0 q.name.0) _ e) in
    let named : ℕ → ℕ → Predicate = λ n a. record { name = record { 0 = n }; arity = a } in
    ap (λ (n : ℕ). named n p.arity) (eqb-true p.name.0 q.name.0 both.0) ∙ ap (λ (a : ℕ). named q.name.0 a) (eqb-true p.arity q.arity both.1)

items-unwrap_or : {Z : Type 0} (o : Option (Vec ClauseNo Z)) (fresh : Vec ClauseNo Z) → fresh.items ≡ [] → (unwrap_or o fresh).items ≡ items_in o
items-unwrap_or None fresh e = e
items-unwrap_or (Some v) fresh e = refl

chosen : {Z : Type 0} (old : Option (Vec ClauseNo Z)) (b : Bool) (pushed : Vec ClauseNo Z) (xs : List ClauseNo) → (b ≡ true → pushed.items ≡ xs)
    → items_in (cond b (Some pushed) (cond b None old)) ≡ cond b xs (items_in old)
chosen old true pushed xs h = h refl
chosen old false pushed xs h = refl

-- what was taken out and put back with one more
pub items-put_back : {Z : Type 0} (at : Predicate → Option (Vec ClauseNo Z)) (p q : Predicate) (mid new : Option (Vec ClauseNo Z))
    (fresh taken pushed : Vec ClauseNo Z) (xs : List ClauseNo)
    → fresh.items ≡ [] → taken ≡ unwrap_or (at p) fresh → pushed.items ≡ taken.items ++ xs
    → mid ≡ cond (same_key p q) None (at q) → new ≡ cond (same_key p q) (Some pushed) mid
    → items_in new ≡ cond (same_key p q) (items_in (at q) ++ xs) (items_in (at q))
items-put_back {Z = Z} at p q mid new fresh taken pushed xs empty took push removed put =
    let pushed_is : same_key p q ≡ true → pushed.items ≡ items_in (at q) ++ xs =
    λ e. push ∙ ap (λ (ys : List ClauseNo). ys ++ xs) (ap (λ (v : Vec ClauseNo Z). v.items) took ∙ items-unwrap_or (at p) fresh empty
    ∙ ap (λ (r : Predicate). items_in (at r)) (same_key-true p q e)) in
    ap items_in put ∙ ap (λ (o : Option (Vec ClauseNo Z)). items_in (cond (same_key p q) (Some pushed) o)) removed
    ∙ chosen (at q) (same_key p q) pushed (items_in (at q) ++ xs) pushed_is
