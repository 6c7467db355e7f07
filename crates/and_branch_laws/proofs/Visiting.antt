-- What is found from the reductions is what the tree has decided.
use Rattle.std.proofs.Common.{ℕ, suc, ◌+◌, ◌≡◌, ◌≢◌, ◌<◌, List, [], ◌∷◌, ◌++◌, length, drop, refl, sym, ap, ◌∙◌, subst, inl, inr, arith}
use Rattle.std.proofs.lemmas.Bool.{cases_lt}
use Rattle.and_model.specs.Terms.{Path, Term, framed}
use Rattle.and_model.specs.Programs.{Program, Item, call, equal, arithmetic, fail, clause_at}
use Rattle.and_model.specs.Trees.{Agenda, end, agenda, Tree, QueryTree, query_agenda, done, left, by, equate, reckon, IsWhole, code}
use Rattle.and_model.specs.Trees.{decided}
use Rattle.and_model.specs.Reductions.{Reduction, PlaceHas, query, reduced, Makes}
use Rattle.and_laws.specs.Paths.{At}
use Rattle.and_laws.proofs.PrefixLemmas.{same_last}
use Rattle.and_laws.proofs.Agreement.{Under, Apart, apart_body, own_body, query_apart}
use Rattle.and_laws.proofs.Placing.{Writes, writes_made, made_writes}
use Rattle.and_laws.proofs.OpenPaths.{own_not_under, body_under}
use Rattle.and_cells.specs.Meaning.{cell_variable}
use Rattle.and_branch_laws.specs.Visits.{Visit, item_visited, onward, into, at_query, Decides, ended, past, other, taken, not_taken}
use Rattle.std.proofs.Common.{append-nil}
use Rattle.std.proofs.lemmas.List.{get_or_past}
use Rattle.std.proofs.Math.Seq.{drop-cons}
use Rattle.std.proofs.Math.ListN.{drop_of_length-le}
use Rattle.and_branch_laws.proofs.Naming.{some_names}

-- A whole tree has decided its code.
pub whole_decided : {P : Program} {ag : Agenda} (t : Tree P ag) → IsWhole t → decided t ≡ code t
whole_decided done w = refl
whole_decided (left t) w = elim w [ ]
whole_decided (by c h t) w = ap (λ (l : List ℕ). c ∷ l) (whole_decided t w)
whole_decided (equate t) w = whole_decided t w
whole_decided (reckon t) w = whole_decided t w

-- One path is that of one place.
pub one_place : (P : Program) (rs : List Reduction) (t : QueryTree P) → Makes P rs t → (n m : ℕ) (q : Path) → PlaceHas rs n q
    → PlaceHas rs m q → n ≡ m
one_place P rs t made n m q one two =
    let (names, named) = some_names P rs t made in
    let e : cell_variable (n + 1 + 0) ≡ cell_variable (m + 1 + 0) = sym (named n q one 0) ∙ named m q two 0 in
    let cells : n + 1 + 0 ≡ m + 1 + 0 = cc in
    omega arith

-- ---- The agenda of visits

-- the items that are still to come
abbrev rest_of : Program → Visit → List Item
rest_of P v = drop v.item (clause_at P v.clause).body

-- each visited body, in the frame of its place's path
data Stands (P : Program) (rs : List Reduction) : List Visit → Agenda → Type 0 where
  none : Stands P rs [] end
  more : (v : Visit) (vs : List Visit) (q : Path) (ag : Agenda) → PlaceHas rs v.node q → Stands P rs vs ag
      → Stands P rs (v ∷ vs) (agenda q v.item (rest_of P v) ag)

-- A tree of that agenda has the clauses that the reductions write down at its paths, and no others.
abbrev Agrees : (P : Program) (rs : List Reduction) {ag : Agenda} → Tree P ag → Type 0
Agrees P rs {ag} t = ((p : Path) (d : ℕ) → Under ag p → Writes rs p d → At t p d) × ((p : Path) (d : ℕ) → At t p d → Writes rs p d)

-- What is to be shown of each such tree.
abbrev HasDecided : (P : Program) (rs : List Reduction) → Agenda → List ℕ → Type 0
HasDecided P rs ag cs = (t : Tree P ag) → Apart ag → Agrees P rs t → decided t ≡ cs

-- where nothing is left, nothing more is decided
nothing_left : (P : Program) (rs : List Reduction) → HasDecided P rs end []
nothing_left P rs done a w = refl

-- ---- One item

-- an item that is no call
other_item : (P : Program) (rs : List Reduction) (q : Path) (i : ℕ) (x : Item) (items : List Item) (ag : Agenda) (cs : List ℕ)
    → ((g : Term) → x ≢ call g) → HasDecided P rs (agenda q (suc i) items ag) cs
    → HasDecided P rs (agenda q i (x ∷ items) ag) cs
other_item P rs q i (call g) items ag cs n h t a w = absurd (n g refl)
other_item P rs q i (equal b c) items ag cs n h (equate t) a w = h t a w
other_item P rs q i (arithmetic b) items ag cs n h (reckon t) a w = h t a w
other_item P rs q i fail items ag cs n h (equate t) a w = h t a w

-- a call that a reduction takes
taken_call : (P : Program) (rs : List Reduction) (q : Path) (i : ℕ) (g : Term) (items : List Item) (ag : Agenda) (cs : List ℕ)
    (r : Reduction) → Writes rs (q ++ i ∷ []) r.clause
    → HasDecided P rs (agenda (q ++ i ∷ []) 0 (clause_at P r.clause).body (agenda q (suc i) items ag)) cs
    → HasDecided P rs (agenda q i (call g ∷ items) ag) (r.clause ∷ cs)
taken_call P rs q i g items ag cs r writes h (left t) a w =
    absurd (own_body (q ++ i ∷ []) (framed q g) (agenda q (suc i) items ag) [] t r.clause a
    (w.0 (q ++ i ∷ []) r.clause (inl ([], sym (append-nil (q ++ i ∷ [])))) writes))
taken_call P rs q i g items ag cs r writes h (by c k t) a w =
    let p : Path = q ++ i ∷ [] in
    let rest : Agenda = agenda q (suc i) items ag in
    let same : r.clause ≡ c = elim (w.0 p r.clause (inl ([], sym (append-nil p))) writes) [
      | inl e ↦ e.1
      | inr b ↦ absurd (own_body p (framed q g) rest (clause_at P c).body t r.clause a b)
    ] in
    let inner : HasDecided P rs (agenda p 0 (clause_at P c).body rest) cs =
    subst (λ (d : ℕ). HasDecided P rs (agenda p 0 (clause_at P d).body rest) cs) same h in
    let agrees : Agrees P rs t = (
      λ x d u y. elim (w.0 x d (body_under p (framed q g) rest (clause_at P c).body x u) y) [
        | inl e ↦ absurd (own_not_under p (framed q g) rest (clause_at P c).body a
            (subst (λ (z : Path). Under (agenda p 0 (clause_at P c).body rest) z) e.0 u))
        | inr b ↦ b
      ],
      λ x d b. w.1 x d (inr b),
    ) in
    ap (λ (l : List ℕ). c ∷ l) (inner t (apart_body p 0 (clause_at P c).body rest a.0 a.1) agrees) ∙ ap (λ (d : ℕ). d ∷ cs) (sym same)

-- a call that none takes
open_call : (P : Program) (rs : List Reduction) (q : Path) (i : ℕ) (g : Term) (items : List Item) (ag : Agenda)
    → ((d : ℕ) → Writes rs (q ++ i ∷ []) d → ⊥) → HasDecided P rs (agenda q i (call g ∷ items) ag) []
open_call P rs q i g items ag n (left t) a w = refl
open_call P rs q i g items ag n (by c k t) a w = absurd (n c (w.1 (q ++ i ∷ []) c (inl (refl, refl))))

-- ---- All visits

-- the items that are left, where one is visited,
visited : (P : Program) (v : Visit) → v.item < length (clause_at P v.clause).body → rest_of P v ≡ item_visited P v ∷ rest_of P (onward v)
visited P v low = drop-cons (clause_at P v.clause).body v.item fail low

-- a call is one of them
call_there : (P : Program) (v : Visit) (g : Term) → item_visited P v ≡ call g → v.item < length (clause_at P v.clause).body
call_there P v g e = elim
    (cases_lt v.item (length (clause_at P v.clause).body))
    [ inl low ↦ low | inr high ↦ absurd (let f = get_or_past (clause_at P v.clause).body v.item fail high in cc) ]

module _ (P : Program) (rs : List Reduction) (tree : QueryTree P) (made : Makes P rs tree) where
  visits_decide : (vs : List Visit) (cs : List ℕ) → Decides P rs vs cs → (ag : Agenda) → Stands P rs vs ag → HasDecided P rs ag cs
  visits_decide vs cs ended ag none = nothing_left P rs
  visits_decide vs cs (past v vs' cs' high rest) ag (more v' vs2 q ag' place st) =
      subst (λ (items : List Item). HasDecided P rs (agenda q v.item items ag') cs')
      (sym (drop_of_length-le (clause_at P v.clause).body high)) (visits_decide vs' cs' rest ag' st)
  visits_decide vs cs (other v vs' cs' low n rest) ag (more v' vs2 q ag' place st) =
      let inner : HasDecided P rs (agenda q (suc v.item) (rest_of P (onward v)) ag') cs' = visits_decide (onward v ∷ vs') cs' rest
      (agenda q (suc v.item) (rest_of P (onward v)) ag') (more (onward v) vs' q ag' place st) in
      subst (λ (items : List Item). HasDecided P rs (agenda q v.item items ag') cs') (sym (visited P v low))
      (other_item P rs q v.item (item_visited P v) (rest_of P (onward v)) ag' cs' n inner)
  visits_decide vs cs (taken v vs' cs' g r e h takes rest) ag (more v' vs2 q ag' place st) =
      let p : Path = q ++ v.item ∷ [] in
      let outer : Agenda = agenda q (suc v.item) (rest_of P (onward v)) ag' in
      let at_parent : PlaceHas rs r.parent q = subst (λ (n : ℕ). PlaceHas rs n q) (sym takes.0) place in
      let paths : q ++ r.item ∷ [] ≡ p = ap (λ (n : ℕ). q ++ n ∷ []) takes.1 in
      let writes : Writes rs p r.clause = (r, h, refl, (q, at_parent, sym paths)) in
      let there : PlaceHas rs r.node p = subst (λ (x : Path). PlaceHas rs r.node x) paths (reduced r q h at_parent) in
      let inner : HasDecided P rs (agenda p 0 (clause_at P r.clause).body outer) cs' =
      visits_decide (into r ∷ onward v ∷ vs') cs' rest (agenda p 0 (clause_at P r.clause).body outer)
      (more (into r) (onward v ∷ vs') p outer there (more (onward v) vs' q ag' place st)) in
      let is_rest : call g ∷ rest_of P (onward v) ≡ rest_of P v = ap (λ (x : Item). x ∷ rest_of P (onward v)) (sym e)
      ∙ sym (visited P v (call_there P v g e)) in
      subst (λ (items : List Item). HasDecided P rs (agenda q v.item items ag') (r.clause ∷ cs')) is_rest
      (taken_call P rs q v.item g (rest_of P (onward v)) ag' cs' r writes inner)
  visits_decide vs cs (not_taken v vs' g e n) ag (more v' vs2 q ag' place st) =
      let none_writes : (d : ℕ) → Writes rs (q ++ v.item ∷ []) d → ⊥ = λ d x. (
      let call = x.3 in
      let same = same_last q call.0 v.item x.0.item call.2 in
      let nodes : x.0.parent ≡ v.node = one_place P rs tree made x.0.parent v.node q
      (subst (λ (y : Path). PlaceHas rs x.0.parent y) (sym same.0) call.1) place in
      n x.0 x.1 (nodes, sym same.1)) in
      let is_rest : call g ∷ rest_of P (onward v) ≡ rest_of P v = ap (λ (x : Item). x ∷ rest_of P (onward v)) (sym e)
      ∙ sym (visited P v (call_there P v g e)) in
      subst (λ (items : List Item). HasDecided P rs (agenda q v.item items ag') []) is_rest
      (open_call P rs q v.item g (rest_of P (onward v)) ag' none_writes)

  -- What is found from the reductions, from the query's body on, is what the tree has decided.
  pub reductions_decide : (cs : List ℕ) → Decides P rs (at_query ∷ []) cs → decided tree ≡ cs
  reductions_decide cs d =
      visits_decide (at_query ∷ []) cs d (query_agenda P) (more at_query [] [] end query none) tree (query_apart P)
      (λ p c u w. writes_made P rs tree made p c w, λ p c a. made_writes P rs tree made p c a)
