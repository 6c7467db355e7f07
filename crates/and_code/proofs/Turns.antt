-- What one turn through the bodies does.
use Rattle.std.proofs.Common.{ℕ, suc, ◌+◌, ◌-◌, ◌≡◌, ◌≢◌, ◌<◌, ◌≤◌, true, false, true≢false, List, [], ◌∷◌, ◌++◌, append-nil}
use Rattle.std.proofs.Common.{append_assoc, map, length, get_or, refl, sym, ap, ◌∙◌, subst, arith}
use Rattle.std.specs.Prelude.{Option, Some, None, IfSome, take, option_to_list, slice_index_or}
use Rattle.std.proofs.Math.ListN.{get_or-map}
use Rattle.std.proofs.Math.Seq.{take-length}
use Rattle.std.proofs.lemmas.List.{reverse-append, length-map}
use Rattle.std.proofs.lemmas.List.Elements.{All-append, Contains-append_left}
use Rattle.std.proofs.lemmas.List.Sums.{sum_by-cons}
use Rattle.and_laws.proofs.PrefixLemmas.{prefix_more}
use Rattle.and_model.specs.Prefixes.{IsPrefix}
use Rattle.and_model.specs.Terms.{Term}
use Rattle.and_model.specs.Programs
use Rattle.and_model.specs.Programs.{Program, Item, clause_at}
use Rattle.and_model.specs.Reductions.{Reduction}
use Rattle.and_model.specs.declared.goal
use Rattle.and_program.specs.Items.{is_call_node, node_item}
use Rattle.and_program.specs.declared.item.ItemNode.{ItemNode}
use Rattle.and_program.specs.declared.item.ItemNode.TheVariants.{Fail}
use Rattle.and_program.specs.Skeletons
use Rattle.and_program.specs.Skeletons.{Shape, NodeItem, node_term, item_of}
use Rattle.and_code.proofs.Images.{contains_image, contains_origin, default_apart}
use Rattle.and_branch_laws.specs.Visits
use Rattle.and_branch_laws.specs.Visits.{Decides, ended, past, other, taken, not_taken, item_visited, onward, into, at_query}
use Rattle.and_code.proofs.Measures.{later_below, taken_below}
use Rattle.and_code.specs.Places.{IsFound, IsMissing}
use Rattle.and_code.specs.Telling.{IsToldTo}
use Rattle.and_code.specs.Visiting.{visit_of, visits_of, visited, waiting, IsAtCall, AreAtCalls, LeadsTo, AreBehind, above_all}
use Rattle.and_code.specs.Visiting.{turns_below, turns_of, turns_left}
use Rattle.and_code.specs.Written.{written, all_written}
use Rattle.and_code.specs.declared.visiting.Visit.{Visit}

-- The last of a stack is gone through first.
pub top : (vs : List Visit) (v : Visit) → visits_of (vs ++ v ∷ []) ≡ visit_of v ∷ visits_of vs
top vs v = ap (map visit_of) (reverse-append vs (v ∷ []))

-- What waits behind calls is at calls too.
pub waits_too : (P : Program) (vs ws : List Visits.Visit) → AreAtCalls P vs → AreAtCalls P ws → AreAtCalls P (vs ++ ws)
waits_too P vs ws first second = All-append (IsAtCall P) vs ws first second

-- ---- Items

-- the item that is visited is that of its nodes
visited_is : (P : Program) (ss : List Shape) (items : List NodeItem) (v : Visits.Visit)
    → map (item_of ss) items ≡ (clause_at P v.clause).body
    → item_visited P v ≡ item_of ss (get_or items v.item Skeletons.fail)
visited_is P ss items v e =
    ap (λ (body : List Item). get_or body v.item Programs.fail) (sym e) ∙ get_or-map (item_of ss) items v.item Skeletons.fail

is_a_call : (ss : List Shape) (i : NodeItem) → is_call_node i ≡ true → (g : Term) × (item_of ss i ≡ Programs.call g)
is_a_call ss (Skeletons.call n) e = (node_term ss n, refl)
is_a_call ss (Skeletons.equal n m) e = absurd (true≢false (sym e))
is_a_call ss (Skeletons.is n m pair) e = absurd (true≢false (sym e))
is_a_call ss (Skeletons.compare o n m) e = absurd (true≢false (sym e))
is_a_call ss Skeletons.fail e = absurd (true≢false (sym e))

is_no_call : (ss : List Shape) (i : NodeItem) → is_call_node i ≡ false → (g : Term) → item_of ss i ≢ Programs.call g
is_no_call ss (Skeletons.call n) e g f = true≢false e
is_no_call ss (Skeletons.equal n m) e g f = cc
is_no_call ss (Skeletons.is n m pair) e g f = cc
is_no_call ss (Skeletons.compare o n m) e g f = cc
is_no_call ss Skeletons.fail e g f = cc

-- items of the code, by their nodes
nth_node : (items : List ItemNode) (i : ℕ) (d : ItemNode) → i < length items
    → get_or (map node_item items) i Skeletons.fail ≡ node_item (get_or items i d)
nth_node items i d low = get_or-map node_item items i Fail ∙ ap node_item (default_apart items i Fail d low)

module _ (P : Program) (ss : List Shape) (items : List ItemNode) (v : Visits.Visit) (d : ItemNode)
    (body : map (item_of ss) (map node_item items) ≡ (clause_at P v.clause).body) where
  pub body_long : length (clause_at P v.clause).body ≡ length items
  body_long = ap length (sym body) ∙ length-map (map node_item items) (item_of ss) ∙ length-map items node_item

  visited_here : v.item < length items → item_visited P v ≡ item_of ss (node_item (get_or items v.item d))
  visited_here low = visited_is P ss (map node_item items) v body ∙ ap (item_of ss) (nth_node items v.item d low)

  -- the item that is visited is a call,
  pub call_here : v.clause ≤ length P.clauses → v.item < length items → is_call_node (node_item (get_or items v.item d)) ≡ true → IsAtCall P v
  call_here named low e =
      let found = is_a_call ss (node_item (get_or items v.item d)) e in
      record {
        named = named;
        low = let long = body_long in omega arith;
        goal = found.0;
        calls = visited_here low ∙ found.1;
      }

  -- or it is none
  pub no_call_here : v.item < length items → is_call_node (node_item (get_or items v.item d)) ≡ false → (g : Term)
      → item_visited P v ≢ Programs.call g
  no_call_here low e g is = is_no_call ss (node_item (get_or items v.item d)) e g (sym (visited_here low) ∙ is)

-- ---- Steps

-- a visit as the definitions have it, at another item
abbrev pub at_item : Visit → ℕ → Visits.Visit
at_item v i = record { node = v.node; clause = v.clause.0; item = i }

turns_first : (rs : List Reduction) (v : Visits.Visit) (vs : List Visits.Visit) → turns_left rs (v ∷ vs) ≡ turns_of rs v + turns_left rs vs
turns_first rs v vs = sum_by-cons (turns_of rs) v vs

module _ (P : Program) where
  pub leads_nowhere : (vs : List Visits.Visit) → LeadsTo P vs vs
  leads_nowhere vs = record { found = λ rs cs d. d; turns = λ rs. omega arith }

  pub leads_on : (old mid new : List Visits.Visit) → LeadsTo P old mid → LeadsTo P mid new → LeadsTo P old new
  leads_on old mid new near far = record {
    found = λ rs cs d. near.found rs cs (far.found rs cs d);
    turns = λ rs. let a = near.turns rs in let b = far.turns rs in omega arith;
  }

  -- A body that was gone through.
  pub body_ended : (v : Visits.Visit) (vs : List Visits.Visit) → length (clause_at P v.clause).body ≤ v.item → LeadsTo P (v ∷ vs) vs
  body_ended v vs high = record {
    found = λ rs cs d. past v vs cs high d;
    turns = λ rs. let e = turns_first rs v vs in omega arith;
  }

  -- An item that is no call.
  pub item_passed : (v : Visit) (i : ℕ) (vs : List Visits.Visit) → i < length (clause_at P v.clause.0).body
      → ((g : Term) → item_visited P (at_item v i) ≢ Programs.call g) → LeadsTo P (at_item v i ∷ vs) (at_item v (i + 1) ∷ vs)
  item_passed v i vs low none =
      let next : i + 1 ≡ suc i = omega arith in record {
        found = λ rs cs d. other (at_item v i) vs cs low none (subst (λ (j : ℕ). Decides P rs (at_item v j ∷ vs) cs) next d);
        turns = λ rs.
            let e = turns_first rs (at_item v i) vs in
            let f = turns_first rs (at_item v (i + 1)) vs in
            let later = later_below rs (above_all rs - v.node) v.node i in
            omega arith;
      }

-- ---- Behind a call

-- What was popped is the first that waits.
pub popped : (old new : List Visit) (next : Option Visit) (count : ℕ) → count ≡ length old → old ≡ new ++ option_to_list next
    → ((d : Visit) → 0 < count → next ≡ Some (slice_index_or old (count - 1) d)) → waiting new next ≡ visits_of old
popped [] new None count long is last = refl
popped (v ∷ vs) new None count long is last = absurd (let e = last v (omega arith) in cc)
popped old new (Some v) count long is last = sym (ap visits_of is ∙ top new v)

-- Where what waits last leads on, all does.
module _ (P : Program) (rs : List Reduction) (old new : List Visits.Visit) (leads : (cs : List ℕ) → Decides P rs new cs → Decides P rs old cs)
  where
    same_first : (v w : Visits.Visit) (vs ws : List Visits.Visit) → v ∷ vs ≡ w ∷ ws → (v ≡ w) × (vs ≡ ws)
    same_first v w vs ws e = (cc, cc)

    under : (front all : List Visits.Visit) (cs : List ℕ) → Decides P rs all cs → all ≡ front ++ new → Decides P rs (front ++ old) cs
    under [] all cs d e = leads cs (subst (λ (vs : List Visits.Visit). Decides P rs vs cs) e d)
    under (w ∷ ws) all cs ended e = absurd (let none : [] ≡ w ∷ (ws ++ new) = e in cc)
    under (w ∷ ws) all cs (past v vs cs' high d) e =
        let (head, tail) = same_first v w vs (ws ++ new) e in
        subst (λ (x : Visits.Visit). Decides P rs (x ∷ (ws ++ old)) cs') head (past v (ws ++ old) cs' high (under ws vs cs' d tail))
    under (w ∷ ws) all cs (other v vs cs' low none d) e =
        let (head, tail) = same_first v w vs (ws ++ new) e in
        subst (λ (x : Visits.Visit). Decides P rs (x ∷ (ws ++ old)) cs') head (other v (ws ++ old) cs' low none
        (under (onward v ∷ ws) (onward v ∷ vs) cs' d (ap (λ (xs : List Visits.Visit). onward v ∷ xs) tail)))
    under (w ∷ ws) all cs (taken v vs cs' g r is here takes d) e =
        let (head, tail) = same_first v w vs (ws ++ new) e in
        subst (λ (x : Visits.Visit). Decides P rs (x ∷ (ws ++ old)) (r.clause ∷ cs')) head (taken v (ws ++ old) cs' g r is here takes
        (under (into r ∷ onward v ∷ ws) (into r ∷ onward v ∷ vs) cs' d (ap (λ (xs : List Visits.Visit). into r ∷ onward v ∷ xs) tail)))
    under (w ∷ ws) all cs (not_taken v vs g is none) e =
        let (head, tail) = same_first v w vs (ws ++ new) e in
        subst (λ (x : Visits.Visit). Decides P rs (x ∷ (ws ++ old)) []) head (not_taken v (ws ++ old) g is none)

module _ (P : Program) (v w : Visits.Visit) (vs : List Visits.Visit) where
  -- Where one body is gone through, the other comes first.
  pub leads_behind : (child rest new : List Visits.Visit) → LeadsTo P (v ∷ w ∷ vs) (child ++ w ∷ vs) → LeadsTo P (w ∷ vs) (rest ++ vs)
      → child ≡ [] → new ≡ rest ++ vs → LeadsTo P (v ∷ w ∷ vs) new
  leads_behind child rest new first second none is =
      subst (LeadsTo P (v ∷ w ∷ vs)) (sym is) (leads_on P (v ∷ w ∷ vs) (w ∷ vs) (rest ++ vs)
      (subst (λ (front : List Visits.Visit). LeadsTo P (v ∷ w ∷ vs) (front ++ w ∷ vs)) none first) second)

  -- What is reached behind one visit is reached behind another.
  pub leads_under : (x : Visits.Visit) (rest new : List Visits.Visit) → LeadsTo P (v ∷ w ∷ vs) (x ∷ w ∷ vs) → LeadsTo P (w ∷ vs) (rest ++ vs)
      → new ≡ rest ++ vs → LeadsTo P (v ∷ w ∷ vs) (x ∷ new)
  leads_under x rest new first second is =
      leads_on P (v ∷ w ∷ vs) (x ∷ w ∷ vs) (x ∷ new) first (record {
        found = λ rs cs d. under P rs (w ∷ vs) (rest ++ vs) (second.found rs) (x ∷ []) (x ∷ new) cs d (ap (λ (ws : List Visits.Visit). x ∷ ws) is);
        turns = λ rs.
            let e = turns_first rs x (w ∷ vs) in
            let f = turns_first rs x new in
            let g = ap (turns_left rs) is in
            let less = second.turns rs in
            omega arith;
      })

-- ---- The clauses so far

-- What the new visits find comes behind the code.
abbrev pub HasGone : Program → List Reduction → (new : List Visits.Visit) → (code : List ℕ) → Type 0
HasGone P rs new code =
    (more : List Reduction) (cs : List ℕ) → Decides P (rs ++ more) new cs → Decides P (rs ++ more) (at_query ∷ []) (code ++ cs)

-- (where nothing comes behind the reductions)
gone_so_far : (P : Program) (rs : List Reduction) (new : List Visits.Visit) (code cs : List ℕ) → HasGone P rs new code → Decides P rs new cs
    → Decides P rs (at_query ∷ []) (code ++ cs)
gone_so_far P rs new code cs so_far d =
    subst (λ (l : List Reduction). Decides P l (at_query ∷ []) (code ++ cs)) (append-nil rs)
    (so_far [] cs (subst (λ (l : List Reduction). Decides P l new cs) (sym (append-nil rs)) d))

module _ (P : Program) (rs : List goal.Reduction.Reduction) (v : Visit) (vs : List Visits.Visit) (code : List ℕ)
    (so_far : HasGone P (all_written rs) (visit_of v ∷ vs) code) (here : IsAtCall P (visit_of v)) where
  -- A call that a reduction takes.
  pub call_taken : (new : List Visits.Visit) (r : goal.Reduction.Reduction) (after : List ℕ) → IsFound rs v.node v.item r
      → after ≡ code ++ r.clause.0 ∷ [] → LeadsTo P (into (written r) ∷ onward (visit_of v) ∷ vs) new
      → HasGone P (all_written rs) new after
  call_taken new r after found code_is leads more cs d =
      let all : List Reduction = all_written rs ++ more in
      let before = taken (visit_of v) vs cs here.goal (written r) here.calls
      (Contains-append_left (all_written rs) more (written r) (contains_image written rs r found.0)) (found.1, found.2)
      (leads.found all cs d) in
      subst (λ (ds : List ℕ). Decides P all (at_query ∷ []) ds)
      (sym (append_assoc code (r.clause.0 ∷ []) cs) ∙ ap (λ (ds : List ℕ). ds ++ cs) (sym code_is)) (so_far more (r.clause.0 ∷ cs) before)

  -- A call that none takes.
  pub call_open : IsMissing rs v.node v.item → Decides P (all_written rs) (at_query ∷ []) code
  call_open none =
      subst (λ (ds : List ℕ). Decides P (all_written rs) (at_query ∷ []) ds) (append-nil code)
      (gone_so_far P (all_written rs) (visit_of v ∷ vs) code [] so_far (not_taken (visit_of v) vs here.goal here.calls (λ r c takes.
      let (own, at, same_as) = contains_origin written rs r c in
      none own at (ap (λ (x : Reduction). x.parent) (sym same_as) ∙ takes.0) (ap (λ (x : Reduction). x.item) (sym same_as) ∙ takes.1))))

  -- A turn is over.
  pub turn_fewer : (new : List Visits.Visit) (r : goal.Reduction.Reduction) → AreBehind (all_written rs) → IsFound rs v.node v.item r
      → LeadsTo P (into (written r) ∷ onward (visit_of v) ∷ vs) new
      → turns_left (all_written rs) new < turns_left (all_written rs) (visit_of v ∷ vs)
  turn_fewer new r places found leads =
      let all = all_written rs in
      let less = leads.turns all in
      let e = turns_first all (visit_of v) vs in
      let f = turns_first all (into (written r)) (onward (visit_of v) ∷ vs) in
      let g = turns_first all (onward (visit_of v)) vs in
      let h : turns_of all (onward (visit_of v)) ≡ turns_below all (above_all all - v.node) v.node (v.item + 1) =
      ap (λ (i : ℕ). turns_below all (above_all all - v.node) v.node i) (omega arith) in
      let below = taken_below all v.node v.item (written r) places (contains_image written rs r found.0) found.1 found.2 in
      omega arith

-- No visit is left.
pub nothing_left : (P : Program) (rs : List Reduction) (code : List ℕ) → HasGone P rs [] code → Decides P rs (at_query ∷ []) code
nothing_left P rs code so_far =
    subst (λ (ds : List ℕ). Decides P rs (at_query ∷ []) ds) (append-nil code) (gone_so_far P rs [] code [] so_far ended)

-- No visit waits yet.
none_waits : (visits : List Visit) (next : Option Visit) → visits ≡ [] → waiting visits next ≡ visited next
none_waits visits None empty = refl
none_waits visits (Some v) empty = ap (λ (vs : List Visit). visit_of v ∷ visits_of vs) empty

-- The first call of the query's body.
pub begun : (P : Program) (rs : List Reduction) (visits : List Visit) (next : Option Visit) (code : List ℕ) → visits ≡ [] → code ≡ []
    → ((vs : List Visits.Visit) → LeadsTo P (at_query ∷ vs) (visited next ++ vs)) → HasGone P rs (waiting visits next) code
begun P rs visits next code empty none leads = λ more cs d.
    let first = leads [] in
    let all : List Reduction = rs ++ more in
    subst (λ (ds : List ℕ). Decides P all (at_query ∷ []) (ds ++ cs)) (sym none)
    (first.found all cs (subst (λ (vs : List Visits.Visit). Decides P all vs cs) (none_waits visits next empty ∙ sym (append-nil (visited next))) d))

-- What was told of reductions is told of these with more behind them.
pub told_on : (P : Program) (rs more : List Reduction) (left : List Visits.Visit) (code : List ℕ) → IsToldTo P rs left code
    → IsToldTo P (rs ++ more) left code
told_on P rs more left code t = record {
  calls = t.calls;
  goes_on = λ others cs d.
      subst (λ (l : List Reduction). Decides P l (at_query ∷ []) (code ++ cs)) (sym (append_assoc rs more others))
      (t.goes_on (more ++ others) cs (subst (λ (l : List Reduction). Decides P l left cs) (append_assoc rs more others) d));
}

pub begun_at_calls : (P : Program) (visits : List Visit) (next : Option Visit) → visits ≡ [] → AreAtCalls P (visited next)
    → AreAtCalls P (waiting visits next)
begun_at_calls P visits next empty all = subst (AreAtCalls P) (sym (none_waits visits next empty)) all

-- ---- What was told of a code

-- All of it was.
pub all_told : (P : Program) (rs : List Reduction) (left : List Visits.Visit) (code : List ℕ) (n : ℕ) → n ≡ length code
    → IsToldTo P rs left code → IsToldTo P rs left (take n code)
all_told P rs left code n long t =
    subst (λ (cs : List ℕ). IsToldTo P rs left cs) (sym (ap (λ (k : ℕ). take k code) long ∙ take-length code)) t

-- A code with one more clause begins as before.
pub begins_still : (first code more : List ℕ) (c : ℕ) → IsPrefix first code → more ≡ code ++ c ∷ [] → IsPrefix first more
begins_still first code more c begins is =
    subst (λ (cs : List ℕ). IsPrefix first cs) (sym is) (prefix_more first code (c ∷ []) begins)

-- The goal that none takes is visited.
pub is_missing : (rs : List goal.Reduction.Reduction) (open_goal : Option goal.Goal.Goal) (v : Visit)
    → IfSome open_goal (λ g. IsMissing rs g.node g.item)
    → (g : goal.Goal.Goal) × (open_goal ≡ Some g) × (g.node ≡ v.node) × (g.item ≡ v.item) → IsMissing rs v.node v.item
is_missing rs open_goal v none (g, is, node, item) =
    subst (λ (i : ℕ). IsMissing rs v.node i) item
    (subst (λ (n : ℕ). IsMissing rs n g.item) node
    (subst (λ (o : Option goal.Goal.Goal). IfSome o (λ g. IsMissing rs g.node g.item)) is none))
