-- Trees that are written down speak of their own variables alone.
use Rattle.std.proofs.Common.{ℕ, suc, ◌<◌, List, [], ◌∷◌, ◌++◌, refl, sym, subst, inl, inr, Contains}
use Rattle.std.specs.Prelude.{All, flat_map}
use Rattle.std.proofs.lemmas.List.Elements.{All-head, All-tail}
use Rattle.and_model.specs.Terms.{Path, Term}
use Rattle.and_model.specs.Solutions.{Equation}
use Rattle.and_model.specs.Programs.{Program, Item, call, equal, arithmetic, fail, Arithmetic, is, compare, clause_at, Of, head_in}
use Rattle.and_model.specs.Closure.{added, here}
use Rattle.and_model.specs.Candidates.{In}
use Rattle.and_model.specs.Trees.{Agenda, Tree, QueryTree, end, done, left, by, equate, reckon, equations, arithmetics, Open, path, call_of}
use Rattle.and_model.specs.Trees.{fresh, reduce}
use Rattle.and_model.specs.Reductions.{Reduction, query, Makes, none, one_more}
use Rattle.and_model.specs.OwnVariables.{terms_of_item, AreOwn}
use Rattle.and_laws.proofs.Bodies.{fresh_blank}
use Rattle.and_laws.proofs.Placing.{place_more}
use Rattle.and_laws.proofs.Ordered.{contains_none, middle_has}
use Rattle.and_cells.specs.Ranges.{NamedProgram}
use Rattle.and_branch_laws.specs.OwnVariables.{OwnVariables}
use Rattle.and_branch_laws.specs.Variables.{SpeaksOf, EquationsSpeakOf, ArithmeticSpeaksOf, IsVariable}
use Rattle.and_branch_laws.specs.Tasks.{Task, take, run, tasks, Drops, here, behind, RanAmong}
use Rattle.and_branch_laws.proofs.Speaking.{speaks_more, arithmetic_speaks_more, equations_speak_join, own_framed, added_speak}
use Rattle.and_branch_laws.proofs.Naming.{OneMore, before, after, still_contains, new_place}
use Rattle.and_branch_laws.proofs.Places.{clause_more}

-- All terms of the tree speak of these variables.
abbrev pub TreeSpeaksOf : (Path × ℕ → Type 0) → {P : Program} {ag : Agenda} → Tree P ag → Type 0
TreeSpeaksOf V done = Unit {0}
TreeSpeaksOf V (left {g = g} t) = SpeaksOf V g × TreeSpeaksOf V t
TreeSpeaksOf V {P} (by {q = q} {g = g} c h t) = SpeaksOf V g × SpeaksOf V (head_in P q c) × TreeSpeaksOf V t
TreeSpeaksOf V (equate {a = a} {b = b} t) = SpeaksOf V a × SpeaksOf V b × TreeSpeaksOf V t
TreeSpeaksOf V (reckon {a = a} t) = ArithmeticSpeaksOf V a × TreeSpeaksOf V t

tree_speaks_more : (V W : Path × ℕ → Type 0) → ((v : Path × ℕ) → V v → W v) → {P : Program} {ag : Agenda} (t : Tree P ag)
    → TreeSpeaksOf V t → TreeSpeaksOf W t
tree_speaks_more V W f done s = tt
tree_speaks_more V W f (left {g = g} t) s = (speaks_more V W f g s.0, tree_speaks_more V W f t s.1)
tree_speaks_more V W f {P} (by {q = q} {g = g} c h t) s =
    (speaks_more V W f g s.0, speaks_more V W f (head_in P q c) s.1, tree_speaks_more V W f t s.2)
tree_speaks_more V W f (equate {a = a} {b = b} t) s = (speaks_more V W f a s.0, speaks_more V W f b s.1, tree_speaks_more V W f t s.2)
tree_speaks_more V W f (reckon {a = a} t) s = (arithmetic_speaks_more V W f a s.0, tree_speaks_more V W f t s.1)

-- ---- The terms of a body

-- all terms of a body have these variables as their own
abbrev pub BodyIsOwn : ℕ → List Item → Type 0
BodyIsOwn n [] = Unit {0}
BodyIsOwn n (call g ∷ items) = AreOwn n g × BodyIsOwn n items
BodyIsOwn n (equal a b ∷ items) = AreOwn n a × AreOwn n b × BodyIsOwn n items
BodyIsOwn n (arithmetic (is l r) ∷ items) = AreOwn n l × AreOwn n r × BodyIsOwn n items
BodyIsOwn n (arithmetic (compare o a b) ∷ items) = AreOwn n a × AreOwn n b × BodyIsOwn n items
BodyIsOwn n (fail ∷ items) = BodyIsOwn n items

body_own : (n : ℕ) (items : List Item) → All (AreOwn n) (flat_map terms_of_item items) → BodyIsOwn n items
body_own n [] h = tt
body_own n (call g ∷ items) h =
    let rest : List Term = flat_map terms_of_item items in
    (All-head (AreOwn n) g rest h, body_own n items (All-tail (AreOwn n) g rest h))
body_own n (equal a b ∷ items) h =
    let rest : List Term = flat_map terms_of_item items in
    let more = All-tail (AreOwn n) a (b ∷ rest) h in
    (All-head (AreOwn n) a (b ∷ rest) h, All-head (AreOwn n) b rest more, body_own n items (All-tail (AreOwn n) b rest more))
body_own n (arithmetic (is a b) ∷ items) h =
    let rest : List Term = flat_map terms_of_item items in
    let more = All-tail (AreOwn n) a (b ∷ rest) h in
    (All-head (AreOwn n) a (b ∷ rest) h, All-head (AreOwn n) b rest more, body_own n items (All-tail (AreOwn n) b rest more))
body_own n (arithmetic (compare o a b) ∷ items) h =
    let rest : List Term = flat_map terms_of_item items in
    let more = All-tail (AreOwn n) a (b ∷ rest) h in
    (All-head (AreOwn n) a (b ∷ rest) h, All-head (AreOwn n) b rest more, body_own n items (All-tail (AreOwn n) b rest more))
body_own n (fail ∷ items) h = body_own n items h

pub head_is_own : (P : NamedProgram) → OwnVariables P → (c : ℕ) → AreOwn (clause_at P.program c).variables (clause_at P.program c).head
head_is_own P own c = let k = clause_at P.program c in All-head (AreOwn k.variables) k.head (flat_map terms_of_item k.body) (own c)

pub body_is_own : (P : NamedProgram) → OwnVariables P → (c : ℕ) → BodyIsOwn (clause_at P.program c).variables (clause_at P.program c).body
body_is_own P own c = let k = clause_at P.program c in
    body_own k.variables k.body (All-tail (AreOwn k.variables) k.head (flat_map terms_of_item k.body) (own c))

-- ---- Trees

pub nothing_said : (V : Path × ℕ → Type 0) (v : Path × ℕ) → Contains [] v → V v
nothing_said V v c = absurd (contains_none v c)

fresh_speaks : (V : Path × ℕ → Type 0) {P : Program} (n : ℕ) (q : Path) (i : ℕ) (items : List Item) {rest : Agenda} (t : Tree P rest)
    → ((k : ℕ) → k < n → V (q, k)) → BodyIsOwn n items → TreeSpeaksOf V t
    → TreeSpeaksOf V (fresh q i items t)
fresh_speaks V n q i [] t f own s = s
fresh_speaks V n q i (call g ∷ items) t f own s = (own_framed V q n g f own.0, fresh_speaks V n q (suc i) items t f own.1 s)
fresh_speaks V n q i (equal a b ∷ items) t f own s =
    (own_framed V q n a f own.0, own_framed V q n b f own.1, fresh_speaks V n q (suc i) items t f own.2 s)
fresh_speaks V n q i (arithmetic (is l r) ∷ items) t f own s =
    ((own_framed V q n l f own.0, own_framed V q n r f own.1), fresh_speaks V n q (suc i) items t f own.2 s)
fresh_speaks V n q i (arithmetic (compare o a b) ∷ items) t f own s =
    ((own_framed V q n a f own.0, own_framed V q n b f own.1), fresh_speaks V n q (suc i) items t f own.2 s)
fresh_speaks V n q i (fail ∷ items) t f own s = (nothing_said V, nothing_said V, fresh_speaks V n q (suc i) items t f own s)

reduce_speaks : (V : Path × ℕ → Type 0) {P : Program} {ag : Agenda} (t : Tree P ag) (o : Open t) (c : ℕ) (h : Of P (call_of t o) c)
    → ((k : ℕ) → k < (clause_at P c).variables → V (path t o, k))
    → AreOwn (clause_at P c).variables (clause_at P c).head → BodyIsOwn (clause_at P c).variables (clause_at P c).body → TreeSpeaksOf V t
    → TreeSpeaksOf V (reduce t o c h)
reduce_speaks V done o c h f head body s = elim o [ ]
reduce_speaks V {P} (left {q = q} {g = g} t) (inl u) c h f head body s =
    let n = (clause_at P c).variables in
    (s.0, own_framed V q n (clause_at P c).head f head, fresh_speaks V n q 0 (clause_at P c).body t f body s.1)
reduce_speaks V (left t) (inr o) c h f head body s = (s.0, reduce_speaks V t o c h f head body s.1)
reduce_speaks V (by d k t) o c h f head body s = (s.0, s.1, reduce_speaks V t o c h f head body s.2)
reduce_speaks V (equate t) o c h f head body s = (s.0, s.1, reduce_speaks V t o c h f head body s.2)
reduce_speaks V (reckon t) o c h f head body s = (s.0, reduce_speaks V t o c h f head body s.1)

-- What was a variable of the tree still is one,
pub variable_stays : (P : NamedProgram) (s : OneMore P.program) (v : Path × ℕ) → IsVariable P (before s) v → IsVariable P (after s) v
variable_stays P s v i = record {
  node = i.node;
  clause = i.clause;
  place = place_more (before s) (after s) (still_contains P.program s) i.node v.0 i.place;
  clause_is = clause_more (before s) (after s) (still_contains P.program s) i.node i.clause i.clause_is;
  own = i.own;
}

-- and so are those of the new clause.
pub new_variable : (P : NamedProgram) (s : OneMore P.program) (k : ℕ) → k < (clause_at P.program s.last.clause).variables
    → IsVariable P (after s) (path s.tree s.goal, k)
new_variable P s k low = record {
  node = s.last.node;
  clause = s.last.clause;
  place = new_place P.program s;
  clause_is = inr (s.last, middle_has s.front s.back s.last, refl, refl);
  own = low;
}

unfoldable pub query_variable : (P : NamedProgram) (rs : List Reduction) (k : ℕ) → k < P.program.query.variables → IsVariable P rs ([], k)
query_variable P rs k low = record { node = 0; clause = 0; place = query; clause_is = inl (refl, refl); own = low }

-- So a tree speaks of its own variables.
pub made_speaks : (P : NamedProgram) → OwnVariables P → (rs : List Reduction) (t : QueryTree P.program) → Makes P.program rs t
    → TreeSpeaksOf (IsVariable P rs) t
made_speaks P own rs t none =
    let V = IsVariable P [] in
    let items : List Item = P.program.query.body in
    subst (λ (u : QueryTree P.program). TreeSpeaksOf V u) (fresh_blank {P = P.program} [] 0 items end)
    (fresh_speaks V P.program.query.variables [] 0 items done (query_variable P []) (body_is_own P own 0) tt)
made_speaks P own rs t (one_more front back all u r o h old taken_call number is_all) =
    let s : OneMore P.program =
    record { front = front; back = back; tree = u; last = r; goal = o; fits = h; made = old; call = taken_call; number = number } in
    let was : TreeSpeaksOf (IsVariable P (before s)) u = made_speaks P own (front ++ back) u old in
    let still : TreeSpeaksOf (IsVariable P (after s)) u = tree_speaks_more (IsVariable P (before s)) (IsVariable P (after s))
    (variable_stays P s) u was in
    subst (λ l. TreeSpeaksOf (IsVariable P l) (reduce u o r.clause h)) (sym is_all)
    (reduce_speaks (IsVariable P (after s)) u o r.clause h (new_variable P s) (head_is_own P own r.clause)
    (body_is_own P own r.clause) still)

-- ---- Its parts

pub equations_speak : (V : Path × ℕ → Type 0) {P : Program} {ag : Agenda} (t : Tree P ag) → TreeSpeaksOf V t
    → EquationsSpeakOf V (equations t)
equations_speak V done s = tt
equations_speak V (left t) s = equations_speak V t s.1
equations_speak V (by c h t) s = (s.0, s.1, equations_speak V t s.2)
equations_speak V (equate t) s = (s.0, s.1, equations_speak V t s.2)
equations_speak V (reckon t) s = equations_speak V t s.1

pub arithmetics_speak : (V : Path × ℕ → Type 0) {P : Program} {ag : Agenda} (t : Tree P ag) → TreeSpeaksOf V t → (a : Arithmetic)
    → In a (arithmetics t) → ArithmeticSpeaksOf V a
arithmetics_speak V done s a i = elim i [ ]
arithmetics_speak V (left t) s a i = arithmetics_speak V t s.1 a i
arithmetics_speak V (by c h t) s a i = arithmetics_speak V t s.2 a i
arithmetics_speak V (equate t) s a i = arithmetics_speak V t s.2 a i
arithmetics_speak V (reckon t) s a (inl e) = subst (λ x. ArithmeticSpeaksOf V x) (sym e) s.0
arithmetics_speak V (reckon t) s a (inr i) = arithmetics_speak V t s.1 a i

pub call_speaks : (V : Path × ℕ → Type 0) {P : Program} {ag : Agenda} (t : Tree P ag) → TreeSpeaksOf V t → (o : Open t)
    → SpeaksOf V (call_of t o)
call_speaks V done s o = elim o [ ]
call_speaks V (left t) s (inl u) = s.0
call_speaks V (left t) s (inr o) = call_speaks V t s.1 o
call_speaks V (by c h t) s o = call_speaks V t s.2 o
call_speaks V (equate t) s o = call_speaks V t s.2 o
call_speaks V (reckon t) s o = call_speaks V t s.1 o

-- The tasks speak of these variables.
abbrev pub TaskSpeaksOf : (Path × ℕ → Type 0) → Task → Type 0
TaskSpeaksOf V (take q g) = SpeaksOf V g
TaskSpeaksOf V (run a) = ArithmeticSpeaksOf V a

abbrev pub TasksSpeakOf : (Path × ℕ → Type 0) → List Task → Type 0
TasksSpeakOf V [] = Unit {0}
TasksSpeakOf V (t ∷ ts) = TaskSpeaksOf V t × TasksSpeakOf V ts

pub tasks_speak : (V : Path × ℕ → Type 0) {P : Program} {ag : Agenda} (t : Tree P ag) → TreeSpeaksOf V t → TasksSpeakOf V (tasks t)
tasks_speak V done s = tt
tasks_speak V (left t) s = (s.0, tasks_speak V t s.1)
tasks_speak V (by c h t) s = tasks_speak V t s.2
tasks_speak V (equate t) s = tasks_speak V t s.2
tasks_speak V (reckon t) s = (s.0, tasks_speak V t s.1)

drop_speaks : (V : Path × ℕ → Type 0) (ts : List Task) (a : Arithmetic) (us : List Task) → Drops ts a us → TasksSpeakOf V ts
    → ArithmeticSpeaksOf V a × TasksSpeakOf V us
drop_speaks V ts a us (here b vs) s = s
drop_speaks V ts a us (behind t vs b ws d) s = let r = drop_speaks V vs b ws d s.1 in (r.0, (s.0, r.1))

-- What was run adds nothing else.
pub ran_speaks : (V : Path × ℕ → Type 0) (es : List Equation) (ts : List Task) (ds : List Equation) (us : List Task)
    → RanAmong es ts ds us → EquationsSpeakOf V es → TasksSpeakOf V ts
    → EquationsSpeakOf V ds × TasksSpeakOf V us
ran_speaks V es ts ds us (RanAmong.none_yet es' ts') s r = (s, r)
ran_speaks V es ts ds us (RanAmong.one es' ts' a vs values ds' us' d k rest) s r =
    let parts = drop_speaks V ts' a vs d r in
    ran_speaks V (added a values ++ es') vs ds' us' rest (equations_speak_join V (added a values) es' (added_speak V a values parts.0) s)
    parts.1

-- What was solved, and the tasks that are left, speak of the tree's variables.
pub left_speaks : (P : NamedProgram) → OwnVariables P → (rs : List Reduction) (tree : QueryTree P.program) → Makes P.program rs tree
    → (solved : List Equation) (ts : List Task)
    → RanAmong (equations tree) (tasks tree) solved ts → EquationsSpeakOf (IsVariable P rs) solved × TasksSpeakOf (IsVariable P rs) ts
left_speaks P own rs tree made solved ts ran =
    let V = IsVariable P rs in
    let t : TreeSpeaksOf V tree = made_speaks P own rs tree made in
    ran_speaks V (equations tree) (tasks tree) solved ts ran (equations_speak V tree t) (tasks_speak V tree t)
