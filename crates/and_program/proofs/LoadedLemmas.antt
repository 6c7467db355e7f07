-- What a loaded program's nodes and entries say of its program.
use Rattle.std.proofs.Common.{ℕ, zero, suc, ◌+◌, ◌≡◌, ◌<◌, ◌≤◌, Bool, true, cond, pos, List, [], ◌∷◌, length, map, get_or, take, Vec, refl, sym, ap, ◌∙◌}
use Rattle.std.proofs.Common.{subst, arith}
use Rattle.std.proofs.lemmas.List.{length-map, get_or-map}
use Rattle.std.proofs.lemmas.Bool.{eqb-true, false≢true}
use Rattle.std.specs.declared.alloc.Global.{Global}
use Rattle.and_model.specs.Lines.{Bytes}
use Rattle.and_model.specs.Candidates.{guard}
use Rattle.and_model.specs.OwnVariables.{HasOwnVariables, HaveOwnVariables}
use Rattle.and_model.specs.Programs.{Clause, is_goals, clause_weight}
use Rattle.and_model.specs.Terms
use Rattle.and_model.specs.Terms.{Term, Terms}
use Rattle.and_model.specs.declared.numbers.ClauseNo.{ClauseNo}
use Rattle.and_model.specs.declared.numbers.NameNo.{NameNo}
use Rattle.and_model.specs.declared.numbers.NodeNo.{NodeNo}
use Rattle.and_program.specs.Skeletons
use Rattle.and_program.specs.Skeletons.{Shape, NodeItem, NodeClause, term_list, nth, shape_term, terms_behind, node_term, item_of, Falls, AllFall, IsFalling}
use Rattle.and_program.specs.Skeletons.{AllThere, IsClause, AllClauses}
use Rattle.and_program.specs.declared.entry.ClauseEntry.{ClauseEntry}
use Rattle.and_program.specs.declared.node.Node.{Node}
use Rattle.and_program.specs.declared.node.Node.TheVariants.{Variable, Compound}
use Rattle.and_program.specs.declared.node.NodeKind as glance
use Rattle.and_program.specs.declared.predicates.Predicate.{Predicate}
use Rattle.and_program.specs.Items.{node_item, pairs, guard_length}
use Rattle.and_program.specs.Kept.{begins_with_true, IsWithin, AllWithin, IsEntry, AllEntries, IsProgram}
use Rattle.and_program.specs.Loaded.{node_clause, program_in}
use Rattle.and_program.specs.Shown.{truth, arguments_in, shown, count_of, shown_term, term_at, argument_of, has_functor, clauses_with}
use Rattle.and_program.specs.Nodes.{shape_of, shapes_of, entry_clause}
use Rattle.and_program.specs.Predicates.{predicate_in, is_key_of, numbers_from}
use Rattle.and_program.proofs.NodeTerms.{node_term_at, node_term_whole, AllFall-at}
use Rattle.and_program.proofs.PredicateLemmas.{width-term_list}

pub get_or-map_default : {A B : Type 0} (f : A → B) (xs : List A) (n : ℕ) (d : A) → get_or (map f xs) n (f d) ≡ f (get_or xs n d)
get_or-map_default f [] n d = refl
get_or-map_default f (x ∷ xs) zero d = refl
get_or-map_default f (x ∷ xs) (suc n) d = get_or-map_default f xs n d

pub AllWithin-at : (m : ℕ) (ss : List Shape) (n : ℕ) (d : Shape) → AllWithin m ss → n < length ss → IsWithin m (get_or ss n d)
AllWithin-at m [] n d w lt = absurd (omega arith)
AllWithin-at m (s ∷ ss) zero d w lt = w.0
AllWithin-at m (s ∷ ss) (suc n) d w lt = AllWithin-at m ss n d w.1 (omega arith)

IsEntry-at : (ss : List Shape) (es : List ClauseEntry) (n : ℕ) (d : ClauseEntry) → AllEntries ss es → IsEntry ss d → IsEntry ss (get_or es n d)
IsEntry-at ss [] n d all here = here
IsEntry-at ss (e ∷ es) zero d all here = all.0
IsEntry-at ss (e ∷ es) (suc n) d all here = IsEntry-at ss es n d all.1 here

-- the nodes of the clause or query of that number are there
pub entry_there : (ss : List Shape) (query : ClauseEntry) (es : List ClauseEntry) (names : List Bytes) (n : ℕ) (e : ClauseEntry) → IsProgram ss query es names
    → e ≡ get_or (query ∷ es) n query → IsEntry ss e
entry_there ss query es names n e kept is =
    let P : ClauseEntry → Type 0 = λ x. IsEntry ss x in subst P (sym is) (IsEntry-at ss (query ∷ es) n query (kept.query_there, kept.entries) kept.query_there)

is_goals-items : (ss : List Shape) (items : List NodeItem) → is_goals (map (item_of ss) items) ≡ pairs items
is_goals-items ss [] = refl
is_goals-items ss (Skeletons.call n ∷ items) = is_goals-items ss items
is_goals-items ss (Skeletons.equal n m ∷ items) = is_goals-items ss items
is_goals-items ss (Skeletons.is n m pair ∷ items) = ap (λ (k : ℕ). suc k) (is_goals-items ss items)
is_goals-items ss (Skeletons.compare r n m ∷ items) = is_goals-items ss items
is_goals-items ss (Skeletons.fail ∷ items) = is_goals-items ss items

pub weight_is : (ss : List Shape) (e : ClauseEntry) → e.weight ≡ clause_weight (entry_clause ss e)
unfolding clause_weight
weight_is ss e = omega (arith, e.weighed, e.variables.ok.0, is_goals-items ss (map node_item e.items.items))

guard-items : (ss : List Shape) (items : List NodeItem) → guard_length items ≡ length (guard [] (map (item_of ss) items))
guard-items ss [] = refl
guard-items ss (Skeletons.call n ∷ items) = refl
guard-items ss (Skeletons.equal n m ∷ items) = refl
guard-items ss (Skeletons.is n m pair ∷ items) = refl
guard-items ss (Skeletons.compare r n m ∷ items) = ap (λ (k : ℕ). suc k) (guard-items ss items)
guard-items ss (Skeletons.fail ∷ items) = refl

pub guard_is : (ss : List Shape) (e : ClauseEntry) → e.guard ≡ length (guard [] (entry_clause ss e).body)
guard_is ss e = e.guarded ∙ guard-items ss (map node_item e.items.items)

pub IsClause-entry : (ss : List Shape) (e : ClauseEntry) → IsEntry ss e → IsClause ss (node_clause e) (entry_clause ss e)
IsClause-entry ss e there = record { head = refl; head_there = there.0; body = refl; body_there = there.1 }

-- the clauses name their own variables alone
pub own_variables : (ss : List Shape) (query : ClauseEntry) (es : List ClauseEntry) (names : List Bytes)
    → IsProgram ss query es names → HaveOwnVariables (program_in ss query es names)
own_variables ss query es names kept c =
    let at = IsEntry-at ss (query ∷ es) c query (kept.query_there, kept.entries) kept.query_there in
    subst HasOwnVariables (sym (get_or-map_default (entry_clause ss) (query ∷ es) c query)) at.2

pub AllClauses-entries : (ss : List Shape) (es : List ClauseEntry) → AllEntries ss es → AllClauses ss (map node_clause es) (map (entry_clause ss) es)
AllClauses-entries ss [] there = tt
AllClauses-entries ss (e ∷ es) there = (IsClause-entry ss e there.0, AllClauses-entries ss es there.1)

-- a node that was read stands within what is kept
pub IsWithin-read : (m : ℕ) (nodes : List Node) (n : ℕ) (node : Node) → AllWithin m (shapes_of nodes) → n < length (shapes_of nodes)
    → node ≡ get_or nodes n node → IsWithin m (shape_of node)
IsWithin-read m nodes n node all lt read =
    let P : Shape → Type 0 = λ s. IsWithin m s in
    let at : get_or (shapes_of nodes) n (shape_of node) ≡ shape_of node = get_or-map_default shape_of nodes n node ∙ ap shape_of (sym read) in
    subst P at (AllWithin-at m (shapes_of nodes) n (shape_of node) all lt)

pub variable_fits : (m : ℕ) (node : Node) (k : ℕ) → IsWithin m (shape_of node) → node ≡ Variable k → k < 255
variable_fits m node k w is = let P : Node → Type 0 = λ x. IsWithin m (shape_of x) in subst P is w

pub count_fits : (m : ℕ) (node : Node) (c : NameNo) (ns : Vec NodeNo Global) → IsWithin m (shape_of node) → node ≡ Compound c ns → length ns.items ≤ 255
count_fits m node c ns w is =
    let P : Node → Type 0 = λ x. IsWithin m (shape_of x) in
    let of : IsWithin m (shape_of (Compound c ns)) = subst P is w in
    omega (arith, of.1, length-map ns.items (λ (n : NodeNo). n.0))

shown-shape_term : (ts : List Term) (s : Shape) → shown s ≡ shown_term (shape_term ts s)
shown-shape_term ts (Skeletons.variable k) = refl
shown-shape_term ts (Skeletons.number z) = refl
shown-shape_term ts (Skeletons.compound c ns) =
    ap (λ (n : ℕ). glance.TheVariants.Compound (record { 0 = c }) n) (sym (width-term_list (map (nth ts) ns) ∙ length-map ns (nth ts)))

pub shown_node : (nodes : List Node) (n : ℕ) (node : Node) → n < length (shapes_of nodes) → node ≡ get_or nodes n node
    → shown (shape_of node) ≡ shown_term (node_term (shapes_of nodes) n)
shown_node nodes n node lt read =
    let ss : List Shape = shapes_of nodes in
    let s : Shape = get_or ss n (shape_of node) in
    let at : s ≡ shape_of node = get_or-map_default shape_of nodes n node ∙ ap shape_of (sym read) in
    ap shown (sym at) ∙ shown-shape_term (terms_behind [] (take n ss)) s ∙ ap shown_term (sym (node_term_at ss n (shape_of node) lt))

Falls-at : (n : ℕ) (ms : List ℕ) (p : ℕ) (d : ℕ) → Falls n ms → p < length ms → get_or ms p d < n
Falls-at n [] p d f lt = absurd (omega arith)
Falls-at n (m ∷ ms) zero d f lt = f.0
Falls-at n (m ∷ ms) (suc p) d f lt = Falls-at n ms p d f.1 (omega arith)

term_at-term_list : (f : ℕ → Term) (ms : List ℕ) (p : ℕ) (d : ℕ) → p < length ms → f (get_or ms p d) ≡ term_at (term_list (map f ms)) p
term_at-term_list f [] p d lt = absurd (omega arith)
term_at-term_list f (m ∷ ms) zero d lt = refl
term_at-term_list f (m ∷ ms) (suc p) d lt = term_at-term_list f ms p d (omega arith)

shape_argument : (ss : List Shape) (n : ℕ) (s : Shape) (p : ℕ) → IsFalling n s → p < length (arguments_in s)
    → (node_term ss (get_or (arguments_in s) p 0) ≡ argument_of (shape_term (terms_behind [] ss) s) p) × (get_or (arguments_in s) p 0 < n)
shape_argument ss n (Skeletons.variable k) p f lt = absurd (omega arith)
shape_argument ss n (Skeletons.number z) p f lt = absurd (omega arith)
shape_argument ss n (Skeletons.compound c ms) p f lt = (term_at-term_list (nth (terms_behind [] ss)) ms p 0 lt, Falls-at n ms p 0 f lt)

-- an argument's node and term
pub node_argument : (ss : List Shape) (n p r : ℕ) → AllFall 0 ss → n < length ss → p < length (arguments_in (get_or ss n (Skeletons.number (pos 0))))
    → r ≡ get_or (arguments_in (get_or ss n (Skeletons.number (pos 0)))) p 0
    → (node_term ss r ≡ argument_of (node_term ss n) p) × (r < n)
node_argument ss n p r fall lt there is =
    let none : Shape = Skeletons.number (pos 0) in
    let s : Shape = get_or ss n none in
    let same : 0 + n ≡ n = omega arith in
    let falls : IsFalling n s = subst (λ (m : ℕ). IsFalling m s) same (AllFall-at 0 ss n none fall lt) in
    let P : ℕ → Type 0 = λ m. (node_term ss m ≡ argument_of (node_term ss n) p) × (m < n) in
    let at : (node_term ss (get_or (arguments_in s) p 0) ≡ argument_of (shape_term (terms_behind [] ss) s) p) × (get_or (arguments_in s) p 0 < n) =
    shape_argument ss n s p falls there in
    subst P (sym is) (at.0 ∙ ap (λ (t : Term). argument_of t p) (sym (node_term_whole ss n none fall lt)), at.1)

-- the node of an argument that was read
pub argument_read : (nodes : List Node) (n p : ℕ) (node : Node) (c : NameNo) (ns : Vec NodeNo Global) (r : NodeNo) → n < length (shapes_of nodes)
    → node ≡ get_or nodes n node → node ≡ Compound c ns
    → p < length (arguments_in (get_or (shapes_of nodes) n (Skeletons.number (pos 0)))) → r ≡ get_or ns.items p r
    → r.0 ≡ get_or (arguments_in (get_or (shapes_of nodes) n (Skeletons.number (pos 0)))) p 0
argument_read nodes n p node c ns r lt read is there argument =
    let number : NodeNo → ℕ = λ m. m.0 in
    let at : get_or (shapes_of nodes) n (Skeletons.number (pos 0)) ≡ shape_of (Compound c ns) =
    get_or-map shape_of nodes n node (Skeletons.number (pos 0)) (omega (arith, length-map nodes shape_of)) ∙ ap shape_of (sym read ∙ is) in
    let within : p < length (map number ns.items) = subst (λ (s : Shape). p < length (arguments_in s)) at there in
    ap number argument
    ∙ sym (get_or-map number ns.items p r 0 (omega (arith, length-map ns.items number)))
    ∙ sym (ap (λ (s : Shape). get_or (arguments_in s) p 0) at)

-- the nodes of all arguments of a node that was read
pub arguments_read : (nodes : List Node) (n : ℕ) (node : Node) → n < length (shapes_of nodes) → node ≡ get_or nodes n node
    → arguments_in (shape_of node) ≡ arguments_in (get_or (shapes_of nodes) n (Skeletons.number (pos 0)))
arguments_read nodes n node lt read =
    ap arguments_in
    (ap shape_of read ∙ sym (get_or-map shape_of nodes n node (Skeletons.number (pos 0)) (omega (arith, length-map nodes shape_of))))

pub has_functor-key : (p : Predicate) (h : Term) → is_key_of (predicate_in h) p ≡ has_functor p.name.0 p.arity h
has_functor-key p (Terms.variable q k) = refl
has_functor-key p (Terms.number z) = refl
has_functor-key p (Terms.compound c ts) = refl

pub clauses_with-key : (p : Predicate) (n : ℕ) (cs : List Clause) → numbers_from p n cs ≡ clauses_with p.name.0 p.arity n cs
clauses_with-key p n [] = refl
clauses_with-key p n (c ∷ cs) =
    let one : ClauseNo = record { 0 = n } in
    ap (λ (b : Bool). cond b (one ∷ numbers_from p (suc n) cs) (numbers_from p (suc n) cs)) (has_functor-key p c.head)
    ∙ ap (λ (xs : List ClauseNo). cond (has_functor p.name.0 p.arity c.head) (one ∷ xs) xs) (clauses_with-key p (suc n) cs)

pub query_head : (ss : List Shape) → begins_with_true ss ≡ true → node_term ss 0 ≡ truth
query_head [] e = absurd (false≢true e)
query_head (Skeletons.variable k ∷ ss) e = absurd (false≢true e)
query_head (Skeletons.number z ∷ ss) e = absurd (false≢true e)
query_head (Skeletons.compound c [] ∷ ss) e =
    node_term_at (Skeletons.compound c [] ∷ ss) 0 (Skeletons.number (pos 0)) (omega arith) ∙ ap (λ (n : ℕ). Terms.compound n Terms.none) (eqb-true c 0 e)
query_head (Skeletons.compound c (n ∷ ns) ∷ ss) e = absurd (false≢true e)

count_of-shown : (s : Shape) → count_of (shown s) ≡ length (arguments_in s)
count_of-shown (Skeletons.variable k) = refl
count_of-shown (Skeletons.number z) = refl
count_of-shown (Skeletons.compound c ns) = refl

pub count_shown : (nodes : List Node) (n : ℕ) (node : Node) → n < length (shapes_of nodes) → node ≡ get_or nodes n node
    → count_of (shown (shape_of node)) ≡ length (arguments_in (get_or (shapes_of nodes) n (Skeletons.number (pos 0))))
count_shown nodes n node lt read =
    count_of-shown (shape_of node)
    ∙ ap (λ (s : Shape). length (arguments_in s))
    (sym (get_or-map shape_of nodes n node (Skeletons.number (pos 0)) (omega (arith, length-map nodes shape_of)) ∙ ap shape_of (sym read)))
