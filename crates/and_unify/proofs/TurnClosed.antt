-- What was made equal, what is known and what is still to do join the sides of all pairs that were asked for.
use Rattle.std.proofs.Common.{ℕ, ℤ, ◌≡◌, ◌⊎◌, Bool, true, false, List, [], ◌∷◌, length, Some, refl, sym, ap, subst, ◌∙◌, inl, inr}
use Rattle.std.specs.Prelude.{Contains}
use Rattle.std.specs.Option.{option_map}
use Rattle.std.proofs.lemmas.Bool.{true≢false}
use Rattle.std.proofs.lemmas.Option.{none-some}
use Rattle.std.proofs.lemmas.List.Elements.{Contains-append_left, Contains-append_right, Contains-push, Contains-push_cases}
use Rattle.and_model.specs.Terms
use Rattle.and_model.specs.Terms.{Substitution, apply}
use Rattle.and_model.specs.Store.{is_half}
use Rattle.and_model.specs.declared.reference.Ref.{Ref}
use Rattle.and_model.specs.declared.reference.Ref.TheVariants.{Free, Cell, Node, Number, Half}
use Rattle.and_model.specs.declared.numbers.NodeNo.{NodeNo}
use Rattle.and_program.specs.Skeletons.{AllFall, compound}
use Rattle.and_program.specs.Loaded.{shape_at}
use Rattle.and_cells.specs.Ranges.{NamedProgram, IsInRange}
use Rattle.and_cells.specs.Seen.{Seen, Knows, Keeps, LeadsTo, here, onward}
use Rattle.and_cells.specs.Meaning.{Words, shallow_term}
use Rattle.and_cells.proofs.Chains.{reads_keeps, keeps_more, sets_keeps, leads_later}
use Rattle.and_cells.specs.Parts.{IsStructure, parts_of}
use Rattle.and_cells.specs.Joined.{Joined, link, same, back, then, AllJoined, none, more, AreMatched, value}
use Rattle.and_cells.specs.Known.{HasKnown, SolvesKnown}
use Rattle.and_laws.proofs.Ordered.{contains_none}
use Rattle.and_cell_laws.proofs.Structures.{shape_of_structure}
use Rattle.and_cell_laws.proofs.Joining.{joined_have_one_value}
use Rattle.and_cell_laws.proofs.Between.{one_value}
use Rattle.and_unify.specs.declared.pairs.Pair.{Pair}
use Rattle.and_unify.specs.Meeting.{AreAlike}
use Rattle.and_unify.specs.Classes.{Linked, InOneClass}
use Rattle.and_unify.specs.Turns
use Rattle.and_unify.specs.Turns.{pairs_of, Steps, sets, one_class, joins}
use Rattle.and_unify.proofs.TurnParts.{parts_joined}

-- the two are one number in all words that have what is known
abbrev pub AreOneNumber : NamedProgram → Seen → Ref → Ref → Type 0
AreOneNumber P s r q = (w : Words) → HasKnown s w → (z : ℤ) × (shallow_term P w r ≡ Some (Terms.number z)) × (shallow_term P w q ≡ Some (Terms.number z))

-- Two are linked that are known to be one, that were made equal, that are the sides of a pair to do, or that are one number.
pub data Link (P : NamedProgram) (s : Seen) (links : List (Ref × Ref)) (Todo : Pair → Type 0) : Ref → Ref → Type 0 where
  known : (cell : ℕ) (r : Ref) → Knows s cell r → is_half r ≡ false → Link P s links Todo (Cell cell) r
  made : (r q : Ref) → Contains links (r, q) → Link P s links Todo r q
  todo : (p : Pair) → Todo p → Link P s links Todo p.left p.right
  alike : (r q : Ref) → AreOneNumber P s r q → Link P s links Todo r q

-- The sides of the pairs that were asked for are joined, and those that were made equal are structures whose parts are joined.
pub record Closed (P : NamedProgram) (s : Seen) (links : List (Ref × Ref)) (Todo Asked : Pair → Type 0) : Type 0 where
  pub asked : (p : Pair) → Asked p → Joined (Link P s links Todo) p.left p.right
  pub matched : (r q : Ref) → Contains links (r, q) → AreMatched P (Link P s links Todo) r q

-- What is joined by links is joined where these are joined.
pub joined_under : (L M : Ref → Ref → Type 0) (r q : Ref) → ((x y : Ref) → L x y → Joined M x y) → Joined L r q → Joined M r q
joined_under L M r q each (link x y l) = each x y l
joined_under L M r q each (same x) = same x
joined_under L M r q each (back x y j) = back x y (joined_under L M x y each j)
joined_under L M r q each (then x y z j k) = then x y z (joined_under L M x y each j) (joined_under L M y z each k)

-- So it is for lists,
all_joined_under : (L M : Ref → Ref → Type 0) (rs qs : List Ref) → ((x y : Ref) → L x y → Joined M x y) → AllJoined L rs qs → AllJoined M rs qs
all_joined_under L M rs qs each none = none
all_joined_under L M rs qs each (more r q rs' qs' j rest) = more r q rs' qs' (joined_under L M r q each j) (all_joined_under L M rs' qs' each rest)

-- and for matched structures.
pub matched_under : (P : NamedProgram) (L M : Ref → Ref → Type 0) (r q : Ref) → ((x y : Ref) → L x y → Joined M x y) → AreMatched P L r q → AreMatched P M r q
matched_under P L M r q each m = record {
  name = m.name;
  count = m.count;
  left = m.left;
  right = m.right;
  joined = all_joined_under L M (parts_of P r) (parts_of P q) each m.joined;
}

-- Lists are joined with themselves, backwards, and in chains.
all_joined_same : (M : Ref → Ref → Type 0) (rs : List Ref) → AllJoined M rs rs
all_joined_same M [] = none
all_joined_same M (r ∷ rs) = more r r rs rs (same r) (all_joined_same M rs)

-- the same backwards
all_joined_back : (M : Ref → Ref → Type 0) (rs qs : List Ref) → AllJoined M rs qs → AllJoined M qs rs
all_joined_back M rs qs none = none
all_joined_back M rs qs (more r q rs' qs' j rest) = more q r qs' rs' (back r q j) (all_joined_back M rs' qs' rest)

-- the first of a list
abbrev head_of : List Ref → Ref
head_of [] = Free
head_of (r ∷ rs) = r

-- all but the first
abbrev tail_of : List Ref → List Ref
tail_of [] = []
tail_of (r ∷ rs) = rs

-- the same in a chain
all_joined_after : (M : Ref → Ref → Type 0) (rs qs os ps : List Ref) → AllJoined M rs qs → qs ≡ os → AllJoined M os ps → AllJoined M rs ps
all_joined_after M rs qs os ps none e none = none
all_joined_after M rs qs os ps none e (more r q rs' qs' j rest) = absurd (cc)
all_joined_after M rs qs os ps (more r q rs' qs' j rest) e none = absurd (cc)
all_joined_after M rs qs os ps (more r q rs' qs' j rest) e (more o p os' ps' k others) =
    let first : q ≡ o = ap head_of e in
    let second : qs' ≡ os' = ap tail_of e in
    more r p rs' ps' (then r q p j (subst (λ x. Joined M x p) (sym first) k)) (all_joined_after M rs' qs' os' ps' rest second others)

-- a structure has one name and one number of arguments
one_name : (P : NamedProgram) (r : Ref) (name count other number : ℕ) → IsStructure P r name count → IsStructure P r other number
    → (name ≡ other) × (count ≡ number)
one_name P r name count other number a b =
    let same_node : a.node ≡ b.node = let e = sym a.reference ∙ b.reference in cc in
    let one : shape_at P.skeleton a.node.0 ≡ compound name a.arguments = shape_of_structure P r name count a in
    let two : shape_at P.skeleton b.node.0 ≡ compound other b.arguments = shape_of_structure P r other number b in
    let same_shape : compound name a.arguments ≡ compound other b.arguments = sym one ∙ ap (λ (n : NodeNo). shape_at P.skeleton n.0) same_node ∙ two in
    let arguments : a.arguments ≡ b.arguments = cc in
    (cc, sym a.counted ∙ ap (λ (ns : List ℕ). length ns) arguments ∙ b.counted)

-- Matched structures are so the other way round,
pub matched_back : (P : NamedProgram) (M : Ref → Ref → Type 0) (r q : Ref) → AreMatched P M r q → AreMatched P M q r
matched_back P M r q m =
    record { name = m.name; count = m.count; left = m.right; right = m.left; joined = all_joined_back M (parts_of P r) (parts_of P q) m.joined }

-- and in chains.
pub matched_then : (P : NamedProgram) (M : Ref → Ref → Type 0) (r q p : Ref) → AreMatched P M r q → AreMatched P M q p → AreMatched P M r p
matched_then P M r q p a b =
    let (name, count) = one_name P q a.name a.count b.name b.count a.right b.left in record {
      name = b.name;
      count = b.count;
      left = subst (λ n. IsStructure P r n b.count) name (subst (λ n. IsStructure P r a.name n) count a.left);
      right = b.right;
      joined = all_joined_after M (parts_of P r) (parts_of P q) (parts_of P q) (parts_of P p) a.joined refl b.joined;
    }

-- a half has no term
half_has_no_term : (P : NamedProgram) (w : Words) (r : Ref) (z : ℤ) → is_half r ≡ true → shallow_term P w r ≡ Some (Terms.number z) → ⊥
half_has_no_term P w Free z e is = absurd (true≢false (sym e))
half_has_no_term P w (Cell cell) z e is = absurd (true≢false (sym e))
half_has_no_term P w (Node node base) z e is = absurd (true≢false (sym e))
half_has_no_term P w (Number pair) z e is = absurd (true≢false (sym e))
half_has_no_term P w (Half bits) z e is = none-some (Terms.number z) is

-- Two of one class are the same, or are matched, where all are that were made equal.
class_matched : (P : NamedProgram) (links : List (Ref × Ref)) (M : Ref → Ref → Type 0) (r q : Ref) → ((x y : Ref) → Contains links (x, y) → AreMatched P M x y)
    → InOneClass links r q → (r ≡ q) ⊎ AreMatched P M r q
class_matched P links M r q each (link x y l) = inr (each x y l)
class_matched P links M r q each (same x) = inl refl
class_matched P links M r q each (back x y j) = elim (class_matched P links M x y each j) [ inl e ↦ inl (sym e) | inr m ↦ inr (matched_back P M x y m) ]
class_matched P links M r q each (then x y z j k) = elim (class_matched P links M x y each j) [
  | inl e ↦ elim (class_matched P links M y z each k) [ inl f ↦ inl (e ∙ f) | inr m ↦ inr (subst (λ n. AreMatched P M n z) (sym e) m) ]
  | inr m ↦ elim (class_matched P links M y z each k) [ inl f ↦ inr (subst (AreMatched P M x) f m) | inr n ↦ inr (matched_then P M x y z m n) ]
]

-- matched structures stay so where the first or the second is replaced by one of its class
pub matched_in_class : (P : NamedProgram) (links : List (Ref × Ref)) (M : Ref → Ref → Type 0) (a b one other : Ref)
    → ((x y : Ref) → Contains links (x, y) → AreMatched P M x y)
    → InOneClass links a one → InOneClass links b other → AreMatched P M one other → AreMatched P M a b
matched_in_class P links M a b one other each left right m =
    let first : AreMatched P M a other =
    elim (class_matched P links M a one each left) [ inl e ↦ subst (λ x. AreMatched P M x other) (sym e) m | inr n ↦ matched_then P M a one other n m ] in
    elim (class_matched P links M b other each right) [
      | inl e ↦ subst (AreMatched P M a) (sym e) first
      | inr n ↦ matched_then P M a other b first (matched_back P M b other n)
    ]

-- What leads to no half is none.
leads_whole : (s : Seen) (r to : Ref) → LeadsTo s r to → is_half to ≡ false → is_half r ≡ false
leads_whole s r to (here x) e = e
leads_whole s r to (onward cell x y knows leads) e = refl

-- A chain that is known joins its ends, unless it ends in a half.
pub leads_joined : (P : NamedProgram) (s : Seen) (links : List (Ref × Ref)) (Todo : Pair → Type 0) (r to : Ref) → LeadsTo s r to → is_half to ≡ false
    → Joined (Link P s links Todo) r to
leads_joined P s links Todo r to (here x) e = same x
leads_joined P s links Todo r to (onward cell x y knows leads) e =
    then (Cell cell) x to (link (Cell cell) x (known cell x knows (leads_whole s x to leads e))) (leads_joined P s links Todo x to leads e)

-- Two of one class are joined.
class_joined : (P : NamedProgram) (s : Seen) (links : List (Ref × Ref)) (Todo : Pair → Type 0) (r q : Ref) → InOneClass links r q
    → Joined (Link P s links Todo) r q
class_joined P s links Todo r q j = joined_under (Linked links) (Link P s links Todo) r q (λ x y l. link x y (made x y l)) j

-- Links stay joined as more is known and made equal, where the sides of what was to do stay so.
link_later : (P : NamedProgram) (old new : Seen) (links more_links : List (Ref × Ref)) (Todo Later : Pair → Type 0) (r q : Ref)
    → ((place : ℕ) (x : Ref) → Knows old place x → Knows new place x) → ((x : Ref × Ref) → Contains links x → Contains more_links x)
    → ((p : Pair) → Todo p → Joined (Link P new more_links Later) p.left p.right) → Link P old links Todo r q → Joined (Link P new more_links Later) r q
link_later P old new links more_links Todo Later r q knows grows todos (known cell x k whole) = link (Cell cell) x (known cell x (knows cell x k) whole)
link_later P old new links more_links Todo Later r q knows grows todos (made x y l) = link x y (made x y (grows (x, y) l))
link_later P old new links more_links Todo Later r q knows grows todos (todo p t) = todos p t
link_later P old new links more_links Todo Later r q knows grows todos (alike x y one) =
    link x y (alike x y (λ w has. one w (λ place z k. has place z (knows place z k))))

-- So pairs stay closed where each link that is new is matched.
closed_later : (P : NamedProgram) (old new : Seen) (links more_links : List (Ref × Ref)) (Todo Later Asked : Pair → Type 0)
    → ((place : ℕ) (x : Ref) → Knows old place x → Knows new place x) → ((x : Ref × Ref) → Contains links x → Contains more_links x)
    → ((p : Pair) → Todo p → Joined (Link P new more_links Later) p.left p.right)
    → ((r q : Ref) → Contains more_links (r, q) → Contains links (r, q) ⊎ AreMatched P (Link P new more_links Later) r q)
    → Closed P old links Todo Asked → Closed P new more_links Later Asked
closed_later P old new links more_links Todo Later Asked knows grows todos fresh c =
    let L = Link P old links Todo in
    let M = Link P new more_links Later in
    let each : (x y : Ref) → L x y → Joined M x y = λ x y l. link_later P old new links more_links Todo Later x y knows grows todos l in record {
      asked = λ p a. joined_under L M p.left p.right each (c.asked p a);
      matched = λ r q l. elim (fresh r q l) [ inl before ↦ matched_under P L M r q each (c.matched r q before) | inr m ↦ m ];
    }

-- Looks keep pairs closed.
pub closed_reads : (P : NamedProgram) (old new : Seen) (links : List (Ref × Ref)) (Todo Asked : Pair → Type 0)
    → ((place : ℕ) (x : Ref) → Knows old place x → Knows new place x) → Closed P old links Todo Asked → Closed P new links Todo Asked
closed_reads P old new links Todo Asked knows c =
    closed_later P old new links links Todo Todo Asked knows (λ x l. l) (λ p t. link p.left p.right (todo p t)) (λ r q l. inl l) c

-- Pairs are closed where what is to do is stated otherwise.
pub closed_renamed : (P : NamedProgram) (s : Seen) (links : List (Ref × Ref)) (Todo Other Asked : Pair → Type 0) → ((p : Pair) → Todo p → Other p)
    → Closed P s links Todo Asked → Closed P s links Other Asked
closed_renamed P s links Todo Other Asked to c =
    closed_later P s s links links Todo Other Asked (λ place x k. k) (λ x l. l) (λ p t. link p.left p.right (todo p (to p t))) (λ r q l. inl l) c

-- Sides that are alike are joined.
alike_joined : (P : NamedProgram) (s : Seen) (links : List (Ref × Ref)) (Todo : Pair → Type 0) (l r one other : Ref) → LeadsTo s l one → LeadsTo s r other
    → AreAlike P s one other → Joined (Link P s links Todo) l r
alike_joined P s links Todo l r one other left right (inl e) =
    let M = Link P s links Todo in
    let back_whole : is_half other ≡ false = ap is_half (sym e.0) ∙ e.1 in
    then l one r (leads_joined P s links Todo l one left e.1)
    (subst (λ x. Joined M x r) (sym e.0) (back r other (leads_joined P s links Todo r other right back_whole)))
alike_joined P s links Todo l r one other left right (inr number) = by_ends (is_half one) (is_half other) refl refl
  where
    by_ends : (b c : Bool) → is_half one ≡ b → is_half other ≡ c → Joined (Link P s links Todo) l r
    by_ends true c e f = link l r (alike l r (λ w has. let is = (number w has).1 in absurd (half_has_no_term P w one (number w has).0 e is)))
    by_ends false true e f = link l r (alike l r (λ w has. let is = (number w has).2 in absurd (half_has_no_term P w other (number w has).0 f is)))
    by_ends false false e f = then l one r (leads_joined P s links Todo l one left e)
        (then one other r (link one other (alike one other number)) (back r other (leads_joined P s links Todo r other right f)))

-- Sides of which one is set to the other are joined.
set_joined : (P : NamedProgram) (s : Seen) (links : List (Ref × Ref)) (Todo : Pair → Type 0) (l r one other to : Ref) (cell : ℕ)
    → LeadsTo s l one → LeadsTo s r other
    → Knows s cell to → is_half to ≡ false → ((one ≡ Cell cell) × (other ≡ to)) ⊎ ((other ≡ Cell cell) × (one ≡ to)) → Joined (Link P s links Todo) l r
set_joined P s links Todo l r one other to cell left right knows whole (inl e) =
    let M = Link P s links Todo in
    let a : Joined M l (Cell cell) = subst (Joined M l) e.0 (leads_joined P s links Todo l one left (ap is_half e.0)) in
    let b : Joined M r to = subst (Joined M r) e.1 (leads_joined P s links Todo r other right (ap is_half e.1 ∙ whole)) in
    then l (Cell cell) r a (then (Cell cell) to r (link (Cell cell) to (known cell to knows whole)) (back r to b))
set_joined P s links Todo l r one other to cell left right knows whole (inr e) =
    let M = Link P s links Todo in
    let a : Joined M r (Cell cell) = subst (Joined M r) e.0 (leads_joined P s links Todo r other right (ap is_half e.0)) in
    let b : Joined M l to = subst (Joined M l) e.1 (leads_joined P s links Todo l one left (ap is_half e.1 ∙ whole)) in
    then l to r b (back r to (then r (Cell cell) to a (link (Cell cell) to (known cell to knows whole))))

-- what is in range is no half
pub range_whole : (P : NamedProgram) (words : ℕ) (r : Ref) → IsInRange P words r → is_half r ≡ false
range_whole P words Free fits = refl
range_whole P words (Cell cell) fits = refl
range_whole P words (Node node base) fits = refl
range_whole P words (Number pair) fits = refl
range_whole P words (Half bits) fits = absurd fits

-- Sides that lead to two of which the links join are joined.
structures_joined : (P : NamedProgram) (s : Seen) (links : List (Ref × Ref)) (Todo : Pair → Type 0) (l r one other : Ref) (name count : ℕ)
    → LeadsTo s l one → LeadsTo s r other
    → IsStructure P one name count → IsStructure P other name count → Joined (Link P s links Todo) one other → Joined (Link P s links Todo) l r
structures_joined P s links Todo l r one other name count left right a b j =
    then l one r (leads_joined P s links Todo l one left (ap is_half a.reference))
    (then one other r j (back r other (leads_joined P s links Todo r other right (ap is_half b.reference))))

-- A step keeps what is known.
pub steps_keep : (P : NamedProgram) (p : Pair) (old new : Seen) (links more_links : List (Ref × Ref)) (list longer : List Pair) (bound further : List ℕ)
    → Steps P p old new links more_links list longer bound further → Keeps old new
steps_keep P p old new links more_links list longer bound further (Turns.alike m e f g) = reads_keeps old new m.lead.reads
steps_keep P p old new links more_links list longer bound further (sets cell m e f g) =
    keeps_more old m.before new (reads_keeps old m.before m.lead.reads) (sets_keeps cell m.to m.before new m.sets)
steps_keep P p old new links more_links list longer bound further (one_class one other m c e f g) = reads_keeps old new m.lead.reads
steps_keep P p old new links more_links list longer bound further (joins one other m c f g) = reads_keeps old new m.lead.reads

-- What a step does to what is to do, and to one list of it: all but its pair stays, and what the list gains is to do.
pub record Leaves (p : Pair) (list longer : List Pair) (Todo Later : Pair → Type 0) : Type 0 where
  pub was : Todo p
  pub list_was : (q : Pair) → Contains list q → Todo q
  pub keeps : (q : Pair) → Todo q → (q ≡ p) ⊎ Later q
  pub takes : (q : Pair) → Contains longer q → Later q
  pub comes : (q : Pair) → Later q → Todo q ⊎ Contains longer q

-- After a step the sides of its pair are joined.
step_joined : (P : NamedProgram) (p : Pair) (old new : Seen) (links more_links : List (Ref × Ref)) (list longer : List Pair) (bound further : List ℕ)
    (Later : Pair → Type 0)
    → ((q : Pair) → Contains longer q → Later q) → Steps P p old new links more_links list longer bound further
    → Joined (Link P new more_links Later) p.left p.right
step_joined P p old new links more_links list longer bound further Later takes (Turns.alike m e f g) =
    alike_joined P new more_links Later p.left p.right m.one m.other m.lead.left_leads m.lead.right_leads m.alike
step_joined P p old new links more_links list longer bound further Later takes (sets cell m e f g) =
    let knows : (place : ℕ) (x : Ref) → Knows m.before place x → Knows new place x = λ place x k. (m.sets.adds place x).1 (inl k) in
    let left : LeadsTo new p.left m.one = leads_later m.before new p.left m.one knows m.lead.left_leads in
    let right : LeadsTo new p.right m.other = leads_later m.before new p.right m.other knows m.lead.right_leads in
    let is_set : Knows new cell m.to = (m.sets.adds cell m.to).1 (inr (refl, refl)) in
    set_joined P new more_links Later p.left p.right m.one m.other m.to cell left right is_set (range_whole P old.words m.to m.in_range) m.ends
step_joined P p old new links more_links list longer bound further Later takes (one_class one other m c e f g) =
    let M = Link P new more_links Later in
    let j : Joined M one other = class_joined P new more_links Later one other (subst (λ ls. InOneClass ls one other) (sym e) c) in
    structures_joined P new more_links Later p.left p.right one other m.shape.name m.shape.count m.lead.left_leads m.lead.right_leads
    m.shape.left_is m.shape.right_is j
step_joined P p old new links more_links list longer bound further Later takes (joins one other m c f g) =
    let M = Link P new more_links Later in
    let class : (x y : Ref) → InOneClass links x y → Joined M x y =
    λ x y j. joined_under (Linked links) M x y
    (λ a b l. link a b (made a b (subst (λ ls. Contains ls (a, b)) (sym c.adds) (Contains-append_left links ((c.one, c.other) ∷ []) (a, b) l)))) j in
    let fresh : Joined M c.one c.other =
    link c.one c.other (made c.one c.other (subst (λ ls. Contains ls (c.one, c.other)) (sym c.adds) (Contains-push links (c.one, c.other)))) in
    let j : Joined M one other = elim c.between [
      | inl straight ↦ then one c.one other (back c.one one (class c.one one straight.0)) (then c.one c.other other fresh (class c.other other straight.1))
      | inr crossed ↦ then one c.other other (back c.other one (class c.other one crossed.1))
          (then c.other c.one other (back c.one c.other fresh) (class c.one other crossed.0))
    ] in
    structures_joined P new more_links Later p.left p.right one other m.shape.name m.shape.count m.lead.left_leads m.lead.right_leads
    m.shape.left_is m.shape.right_is j

-- links only grow
step_grows : (P : NamedProgram) (p : Pair) (old new : Seen) (links more_links : List (Ref × Ref)) (list longer : List Pair) (bound further : List ℕ)
    → Steps P p old new links more_links list longer bound further → (x : Ref × Ref) → Contains links x → Contains more_links x
step_grows P p old new links more_links list longer bound further (Turns.alike m e f g) x l = subst (λ ls. Contains ls x) (sym e) l
step_grows P p old new links more_links list longer bound further (sets cell m e f g) x l = subst (λ ls. Contains ls x) (sym e) l
step_grows P p old new links more_links list longer bound further (one_class one other m c e f g) x l = subst (λ ls. Contains ls x) (sym e) l
step_grows P p old new links more_links list longer bound further (joins one other m c f g) x l =
    subst (λ ls. Contains ls x) (sym c.adds) (Contains-append_left links ((c.one, c.other) ∷ []) x l)

-- A link that is new is matched, where those before it are.
step_matched : (P : NamedProgram) (p : Pair) (old new : Seen) (links more_links : List (Ref × Ref)) (list longer : List Pair) (bound further : List ℕ)
    (Later : Pair → Type 0)
    → ((q : Pair) → Contains longer q → Later q) → ((x y : Ref) → Contains links (x, y) → AreMatched P (Link P new more_links Later) x y)
    → Steps P p old new links more_links list longer bound further → (r q : Ref) → Contains more_links (r, q)
    → Contains links (r, q) ⊎ AreMatched P (Link P new more_links Later) r q
step_matched P p old new links more_links list longer bound further Later takes each (Turns.alike m e f g) r q l = inl (subst (λ ls. Contains ls (r, q)) e l)
step_matched P p old new links more_links list longer bound further Later takes each (sets cell m e f g) r q l = inl (subst (λ ls. Contains ls (r, q)) e l)
step_matched P p old new links more_links list longer bound further Later takes each (one_class one other m c e f g) r q l =
    inl (subst (λ ls. Contains ls (r, q)) e l)
step_matched P p old new links more_links list longer bound further Later takes each (joins one other m c f g) r q l =
    let M = Link P new more_links Later in
    let parts : List Pair = pairs_of (parts_of P one) (parts_of P other) in
    let arguments : (x : Pair) → Contains parts x → Joined M x.left x.right =
    λ x at. link x.left x.right (todo x (takes x (subst (λ xs. Contains xs x) (sym f) (Contains-append_right list parts x at)))) in
    let both : AreMatched P M one other = record {
      name = m.shape.name;
      count = m.shape.count;
      left = m.shape.left_is;
      right = m.shape.right_is;
      joined = parts_joined P M one other m.shape.name m.shape.count m.shape.left_is m.shape.right_is arguments;
    } in
    let fresh : AreMatched P M c.one c.other = elim c.between [
      | inl straight ↦ matched_in_class P links M c.one c.other one other each straight.0 straight.1 both
      | inr crossed ↦ matched_in_class P links M c.one c.other other one each crossed.0 crossed.1 (matched_back P M one other both)
    ] in
    elim (Contains-push_cases links (c.one, c.other) (r, q) (subst (λ ls. Contains ls (r, q)) c.adds l)) [
      | inl before ↦ inl before
      | inr is ↦ inr (subst (λ (x : Ref × Ref). AreMatched P M x.0 x.1) is fresh)
    ]

-- A step keeps the sides of all pairs that were asked for joined.
pub closed_steps : (P : NamedProgram) (p : Pair) (old new : Seen) (links more_links : List (Ref × Ref)) (list longer : List Pair) (bound further : List ℕ)
    (Todo Later Asked : Pair → Type 0)
    → Leaves p list longer Todo Later → Steps P p old new links more_links list longer bound further → Closed P old links Todo Asked
    → Closed P new more_links Later Asked
closed_steps P p old new links more_links list longer bound further Todo Later Asked leaves steps c =
    let M = Link P new more_links Later in
    let knows = (steps_keep P p old new links more_links list longer bound further steps).knows in
    let grows = step_grows P p old new links more_links list longer bound further steps in
    let own : Joined M p.left p.right = step_joined P p old new links more_links list longer bound further Later leaves.takes steps in
    let todos : (q : Pair) → Todo q → Joined M q.left q.right =
    λ q t. elim (leaves.keeps q t) [ inl e ↦ subst (λ (x : Pair). Joined M x.left x.right) (sym e) own | inr l ↦ link q.left q.right (todo q l) ] in
    let each : (x y : Ref) → Link P old links Todo x y → Joined M x y = λ x y l. link_later P old new links more_links Todo Later x y knows grows todos l in
    let before : (x y : Ref) → Contains links (x, y) → AreMatched P M x y = λ x y l. matched_under P (Link P old links Todo) M x y each (c.matched x y l) in
    closed_later P old new links more_links Todo Later Asked knows grows todos
    (step_matched P p old new links more_links list longer bound further Later leaves.takes before steps) c

-- At first nothing is made equal, and all that was asked for is to do.
pub closed_first : (P : NamedProgram) (s : Seen) (Todo Asked : Pair → Type 0) → ((p : Pair) → Asked p → Todo p) → Closed P s [] Todo Asked
closed_first P s Todo Asked all = record {
  asked = λ p a. link p.left p.right (todo p (all p a));
  matched = λ r q l. absurd (contains_none (r, q) l);
}

-- At the end all that was asked for has one value on both sides, where what is known is solved and what is to do has.
pub closed_values : (P : NamedProgram) (s : Seen) (links : List (Ref × Ref)) (Todo Asked : Pair → Type 0) (w : Words) (t : Substitution)
    → AllFall 0 P.skeleton.nodes
    → Closed P s links Todo Asked → HasKnown s w → SolvesKnown P w s t → ((p : Pair) → Todo p → value P w t p.left ≡ value P w t p.right)
    → (p : Pair) → Asked p → value P w t p.left ≡ value P w t p.right
closed_values P s links Todo Asked w t fall c has solves todos p asked = joined_have_one_value P w t L fall each p.left p.right (c.asked p asked)
  where
    L : Ref → Ref → Type 0
    L = Link P s links Todo

    each : (r q : Ref) → Link P s links Todo r q → (value P w t r ≡ value P w t q) ⊎ AreMatched P (Link P s links Todo) r q
    each r q (known cell x k whole) = inl (one_value P w t (Cell cell) x (solves cell x k whole))
    each r q (made x y l) = inr (c.matched x y l)
    each r q (todo x a) = inl (todos x a)
    each r q (alike x y one) =
        let number = one w has in
        inl (ap (λ u. option_map (apply t) u) (number.1 ∙ sym number.2))
