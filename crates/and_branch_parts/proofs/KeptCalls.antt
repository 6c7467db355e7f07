-- The kept calls are all open goals of the tree.
use Rattle.std.proofs.Common.{◌≡◌, Bool, true, false, List, [], ◌∷◌, ◌++◌, map, cond, refl, ap, sym, ◌∙◌, subst, inl, inr, Contains}
use Rattle.std.proofs.lemmas.List.Elements.{All-contains}
use Rattle.and_model.specs.Terms.{Path, Term}
use Rattle.and_model.specs.Programs.{Program}
use Rattle.and_model.specs.Trees.{Agenda, Tree, QueryTree, done, left, by, equate, reckon, Open, path, call_of, equations}
use Rattle.and_model.specs.Reductions.{Reduction, PlaceHas}
use Rattle.and_model.specs.Stands.{Framed, IsFramed, call_in_tree, calls_left}
use Rattle.and_model.specs.declared.goal.Goal.{Goal}
use Rattle.and_model.specs.declared.reference.Ref.{Ref}
use Rattle.and_laws.proofs.Ordered.{contains_first, contains_more, contains_cases, contains_none}
use Rattle.and_laws.proofs.PrefixLemmas.{same_last}
use Rattle.and_cells.specs.Ranges.{NamedProgram}
use Rattle.and_branch_laws.specs.Tasks.{tasks}
use Rattle.and_branch_laws.specs.Kept.{task_of, is_call, IsCall, calls_kept, Kept}
use Rattle.and_branch_laws.proofs.Reading
use Rattle.and_branch_laws.proofs.Tasks
use Rattle.and_branch_parts.specs.Branches.{IsOpenGoal}
use Rattle.and_branch_parts.proofs.CallItems.{one_place}

open_left : {P : Program} {ag : Agenda} (t : Tree P ag) (o : Open t) → Contains (calls_left t) (path t o, call_of t o)
open_left done o = elim o [ ]
open_left (left {q = q} {g = g} t) (inl u) = contains_first (q, g) (calls_left t)
open_left (left {q = q} {g = g} t) (inr o) = contains_more (q, g) (path t o, call_of t o) (calls_left t) (open_left t o)
open_left (by c h t) o = open_left t o
open_left (equate t) o = open_left t o
open_left (reckon t) o = open_left t o

-- a kept goal that is a call, with this path
pub record CallAt (P : Program) (kept : List Framed) (q : Path) : Type 0 where
  pub f : Framed
  pub there : Contains kept f
  pub called : IsCall P f
  pub path_is : q ≡ f.frame ++ f.goal.item ∷ []

more_at : (P : Program) (f : Framed) (kept : List Framed) (q : Path) → CallAt P kept q → CallAt P (f ∷ kept) q
more_at P f kept q x = record { f = x.f; there = contains_more f x.f kept x.there; called = x.called; path_is = x.path_is }

-- the first kept goal is a call or not
first_at : (P : Program) (f : Framed) (kept : List Framed) (q : Path) (g : Term) (b : Bool) → is_call (task_of P f) ≡ b
    → Contains (map (call_in_tree P) (cond b (f ∷ calls_kept P kept) (calls_kept P kept))) (q, g)
    → (Contains (map (call_in_tree P) (calls_kept P kept)) (q, g) → CallAt P kept q) → CallAt P (f ∷ kept) q
first_at P f kept q g true e h rest = elim (contains_cases (call_in_tree P f) (q, g) (map (call_in_tree P) (calls_kept P kept)) h) [
  | inl same ↦ record { f = f; there = contains_first f kept; called = e; path_is = ap (λ (x : Path × Term). x.0) same }
  | inr i ↦ more_at P f kept q (rest i)
]
first_at P f kept q g false e h rest = more_at P f kept q (rest h)

call_at : (P : Program) (kept : List Framed) (q : Path) (g : Term) → Contains (map (call_in_tree P) (calls_kept P kept)) (q, g)
    → CallAt P kept q
call_at P [] q g h = absurd (contains_none (q, g) h)
call_at P (f ∷ kept) q g h = first_at P f kept q g (is_call (task_of P f)) refl h (call_at P kept q g)

-- Each open goal is a kept call.
pub open_kept : (P : NamedProgram) (rs : List Reduction) (row : List Ref) (kept : List Framed) (t : QueryTree P.program)
    → Kept P rs row kept t → (o : Open t) → CallAt P.program kept (path t o)
open_kept P rs row kept t k o =
    let calls : map (call_in_tree P.program) (calls_kept P.program kept) ≡ calls_left t =
    Reading.calls_are P.program kept ∙ Tasks.ran_calls (equations t) (tasks t) k.solved (map (task_of P.program) kept) k.ran
    ∙ Tasks.tasks_calls t in
    call_at P.program kept (path t o) (call_of t o)
    (subst (λ (l : List (Path × Term)). Contains l (path t o, call_of t o)) (sym calls) (open_left t o))

-- An open goal that is told by its place and item is a kept call there.
pub record CallOf (P : Program) (kept : List Framed) (g : Goal) : Type 0 where
  pub f : Framed
  pub there : Contains kept f
  pub called : IsCall P f
  pub node_is : f.goal.node ≡ g.node
  pub item_is : f.goal.item ≡ g.item

pub call_of_open : (P : NamedProgram) → (rs : List Reduction) (row : List Ref) (kept : List Framed) (t : QueryTree P.program)
    → Kept P rs row kept t → (o : Open t) (g : Goal) → IsOpenGoal P rs t o g → CallOf P.program kept g
call_of_open P rs row kept t k o g is_open =
    let x = open_kept P rs row kept t k o in
    let ends = same_last is_open.frame x.f.frame g.item x.f.goal.item (sym is_open.path_is ∙ x.path_is) in
    let framed = All-contains (IsFramed rs) kept x.f k.framed x.there in
    let place : PlaceHas rs x.f.goal.node is_open.frame = subst (λ (q : Path). PlaceHas rs x.f.goal.node q) (sym ends.0) framed.0 in
    record {
      f = x.f;
      there = x.there;
      called = x.called;
      node_is = one_place P.program rs t k.made x.f.goal.node g.node is_open.frame place is_open.place;
      item_is = sym ends.1;
    }
