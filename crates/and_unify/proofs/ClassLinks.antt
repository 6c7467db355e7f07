-- Links of classes, kept in a map from references.
use Rattle.std.proofs.Common.{ℕ, suc, ◌≡◌, ◌≢◌, ◌<◌, ◌≤◌, ◌⊎◌, inl, inr, Bool, true, false, cond, List, [], ◌∷◌, ◌++◌, length, Option, Some, None, Contains}
use Rattle.std.proofs.Common.{refl, sym, ap, subst, ◌∙◌, true≢false, eqb, arith, rules, tests}
use Rattle.std.specs.Option.{IfSome, IsNone}
use Rattle.std.specs.Map.{lookup}
use Rattle.std.proofs.lemmas.Bool.{eqb-true}
use Rattle.std.proofs.lemmas.List.Elements.{All-nil, All-cons, All-head, All-tail, All-push, All-contains, Contains-get_or, Contains-append_right}
use Rattle.std.proofs.lemmas.List.Elements.{Contains-append_cases, Contains-push_cases}
use Rattle.and_model.proofs.Tested.{first_true, second_true}
use Rattle.and_model.specs.declared.reference.Ref.{Ref}
use Rattle.and_model.specs.declared.reference.Ref.TheVariants.{Free, Cell, Node, Number, Half}
use Rattle.and_model.specs.contracts.reference.RefPartialEq.TheImpl as derived
use Rattle.indexmap.specs.IndexMap.{insert_entry}
use Rattle.and_cells.specs.Joined.{back, then}
use Rattle.and_unify.specs.Classes.{Linked, IsRoot, Climbs, InOneClass, Joins}

-- the comparison of references that maps use
abbrev pub is_same : Ref → Ref → Bool
is_same = derived.eq-value.it

-- It finds no difference between a reference and itself,
pub same_itself : (r : Ref) → is_same r r ≡ true
same_itself Free = refl
same_itself (Cell cell) = search (rules, tests)
same_itself (Node node base) = search (rules, tests)
same_itself (Number pair) = search (rules, tests)
same_itself (Half bits) = search (rules, tests)

-- and one between any others.
pub same_is : (r q : Ref) → is_same r q ≡ true → r ≡ q
same_is Free Free e = refl
same_is (Cell cell) (Cell other) e = ap Cell (eqb-true cell other e)
same_is (Node node base) (Node other at) e =
    let nodes : node.0 ≡ other.0 = eqb-true node.0 other.0 (first_true (eqb node.0 other.0) (eqb base at) e) in
    let bases : base ≡ at = eqb-true base at (second_true (eqb node.0 other.0) (eqb base at) e) in
    (λ i. Node (record { 0 = nodes i }) (bases i))
same_is (Number pair) (Number other) e = ap Number (eqb-true pair other e)
same_is (Half bits) (Half other) e = ap Half (eqb-true bits other e)
same_is r q e = absurd (true≢false (sym e))

true_or_false : (b : Bool) → (b ≡ true) ⊎ (b ≡ false)
true_or_false true = inl refl
true_or_false false = inr refl

differ_is : (r q : Ref) → is_same r q ≡ false → r ≢ q
differ_is r q e is = true≢false (sym (same_itself r) ∙ ap (is_same r) is ∙ e)

is_differ : (r q : Ref) → r ≢ q → is_same r q ≡ false
is_differ r q other = by (true_or_false (is_same r q))
  where
    by : (is_same r q ≡ true) ⊎ (is_same r q ≡ false) → is_same r q ≡ false
    by (inl same) = absurd (other (same_is r q same))
    by (inr differ) = differ

-- what is found for a reference is where a link leads from it,
pub found_linked : (ls : List (Ref × Ref)) (r : Ref) → IfSome (lookup (is_same r) ls) (λ p. Linked ls r p)
found_linked [] r = tt
found_linked (l ∷ ls) r = by (is_same r l.0) refl (lookup (is_same r) ls) (found_linked ls r)
  where
    by : (b : Bool) → is_same r l.0 ≡ b → (found : Option Ref) → IfSome found (λ p. Linked ls r p) → IfSome (cond b (Some l.1) found) (λ p. Linked (l ∷ ls) r p)
    by true same found linked = subst (λ q. Contains (l ∷ ls) (q, l.1)) (sym (same_is r l.0 same)) (Contains-get_or (l ∷ ls) 0 l (omega arith))
    by false differ None linked = tt
    by false differ (Some p) linked = Contains-append_right (l ∷ []) ls (r, p) linked

-- and where nothing is found, none leads on.
pub none_root : (ls : List (Ref × Ref)) (r : Ref) → IsNone (lookup (is_same r) ls) → IsRoot ls r
none_root [] r none = All-nil (λ (l : Ref × Ref). l.0 ≢ r)
none_root (l ∷ ls) r none = by (is_same r l.0) refl none (none_root ls r)
  where
    by : (b : Bool) → is_same r l.0 ≡ b → IsNone (cond b (Some l.1) (lookup (is_same r) ls))
        → (IsNone (lookup (is_same r) ls) → IsRoot ls r) → IsRoot (l ∷ ls) r
    by true same found rest = absurd (true≢false found)
    by false differ nothing rest = All-cons (λ (m : Ref × Ref). m.0 ≢ r) l ls (λ e. differ_is r l.0 differ (sym e)) (rest nothing)

-- a root's link goes behind the others
pub root_inserted : (ls : List (Ref × Ref)) (r q : Ref) → IsRoot ls r → insert_entry is_same ls r q ≡ ls ++ (r, q) ∷ []
root_inserted [] r q root = refl
root_inserted (l ∷ ls) r q root =
    let apart : r ≢ l.0 = λ e. All-head (λ (m : Ref × Ref). m.0 ≢ r) l ls root (sym e) in
    ap (λ b. cond b ((l.0, q) ∷ ls) (l ∷ insert_entry is_same ls r q)) (is_differ r l.0 apart)
    ∙ ap (λ ms. l ∷ ms) (root_inserted ls r q (All-tail (λ (m : Ref × Ref). m.0 ≢ r) l ls root))

-- a link from a root to another, behind the others, lets links climb
pub climbs_on : (ls : List (Ref × Ref)) (r q : Ref) → Climbs ls → IsRoot ls q → r ≢ q → Climbs (ls ++ (r, q) ∷ [])
climbs_on [] r q climbs root differ = (λ e. differ (sym e), All-nil (λ (m : Ref × Ref). m.1 ≢ r), tt)
climbs_on (l ∷ ls) r q climbs root differ = (
  climbs.0,
  All-push (λ (m : Ref × Ref). m.1 ≢ l.0) ls (r, q) climbs.1 (λ e. All-head (λ (m : Ref × Ref). m.0 ≢ q) l ls root (sym e)),
  climbs_on ls r q climbs.2 (All-tail (λ (m : Ref × Ref). m.0 ≢ q) l ls root) differ,
)

-- how many links there are from the first that leads on from a reference
abbrev pub links_on : List (Ref × Ref) → Ref → ℕ
links_on [] r = 0
links_on (l ∷ ls) r = cond (is_same r l.0) (suc (length ls)) (links_on ls r)

links_within : (ls : List (Ref × Ref)) (r : Ref) → links_on ls r ≤ length ls
links_within [] r = omega arith
links_within (l ∷ ls) r = by (is_same r l.0) (links_within ls r)
  where
    by : (b : Bool) → links_on ls r ≤ length ls → cond b (suc (length ls)) (links_on ls r) ≤ suc (length ls)
    by true within = omega arith
    by false within = omega arith

links_past : (l : Ref × Ref) (ls : List (Ref × Ref)) (r : Ref) → l.0 ≢ r → links_on (l ∷ ls) r ≡ links_on ls r
links_past l ls r apart = ap (λ b. cond b (suc (length ls)) (links_on ls r)) (is_differ r l.0 (λ e. apart (sym e)))

links_here : (l : Ref × Ref) (ls : List (Ref × Ref)) (r : Ref) → l.0 ≡ r → links_on (l ∷ ls) r ≡ suc (length ls)
links_here l ls r is = ap (λ b. cond b (suc (length ls)) (links_on ls r)) (ap (is_same r) is ∙ same_itself r)

links_more : (l : Ref × Ref) (ls : List (Ref × Ref)) (r : Ref) → links_on ls r ≤ links_on (l ∷ ls) r
links_more l ls r = by (is_same r l.0)
  where
    by : (b : Bool) → links_on ls r ≤ cond b (suc (length ls)) (links_on ls r)
    by true = let within = links_within ls r in omega arith
    by false = omega arith

-- there are fewer from where a link leads
pub links_fall : (ls : List (Ref × Ref)) (r q : Ref) → Climbs ls → Linked ls r q → links_on ls q < links_on ls r
links_fall [] r q climbs linked = let none : linked.0 < 0 = linked.1 in absurd (omega arith)
links_fall (l ∷ ls) r q climbs linked = by (Contains-append_cases (l ∷ []) ls (r, q) linked) (links_fall ls r q climbs.2)
  where
    by : Contains (l ∷ []) (r, q) ⊎ Contains ls (r, q) → (Linked ls r q → links_on ls q < links_on ls r) → links_on (l ∷ ls) q < links_on (l ∷ ls) r
    by (inl first) falls =
        let is : l ≡ (r, q) = elim (Contains-push_cases [] l (r, q) first) [
          | inl none ↦ absurd (let below : none.0 < 0 = none.1 in omega arith)
          | inr same ↦ same
        ] in
        let within = links_within ls q in
        let past = links_past l ls q (λ e. climbs.0 (ap (λ m. m.1) is ∙ sym e)) in
        let whole = links_here l ls r (ap (λ m. m.0) is) in
        omega arith
    by (inr rest) falls =
        let leads : q ≢ l.0 = All-contains (λ (m : Ref × Ref). m.1 ≢ l.0) ls (r, q) climbs.1 rest in
        let past = links_past l ls q (λ e. leads (sym e)) in
        let less = falls rest in
        let more = links_more l ls r in
        omega arith

-- a link from the root of the left side's class to that of the right side's joins the two
pub joins_right : (old links new : List (Ref × Ref)) (left right one other : Ref) → links ≡ old → InOneClass links left one → InOneClass links right other
    → new ≡ links ++ (one, other) ∷ [] → Joins left right old new
joins_right old links new left right one other is first second adds =
    subst (λ ls. Joins left right ls new) is (record { one = one; other = other; adds = adds; between = inl (back left one first, back right other second) })

-- and so does one the other way
pub joins_left : (old links new : List (Ref × Ref)) (left right one other : Ref) → links ≡ old → InOneClass links left one → InOneClass links right other
    → new ≡ links ++ (other, one) ∷ [] → Joins left right old new
joins_left old links new left right one other is first second adds =
    subst (λ ls. Joins left right ls new) is (record { one = other; other = one; adds = adds; between = inr (back right other second, back left one first) })

-- two that have one root are of one class
pub one_root : (old links : List (Ref × Ref)) (left right one other : Ref) → links ≡ old → InOneClass links left one
    → InOneClass links right other → one ≡ other
    → InOneClass old left right
one_root old links left right one other is first second same =
    subst (λ ls. InOneClass ls left right) is (then left one right first (subst (λ r. InOneClass links r right) (sym same) (back right other second)))
