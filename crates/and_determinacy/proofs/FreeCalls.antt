-- A call whose arguments are free cells, each another one, can be made one with each head of its predicate.
use Rattle.std.proofs.Common.{ℕ, ◌+◌, ◌≡◌, ◌≢◌, ◌<◌, ◌≤◌, Bool, true, false, true≢false, cond, ◌&&◌, ltb, leb, nat_eq, List, [], ◌∷◌, ◌++◌, length, map}
use Rattle.std.proofs.Common.{refl, sym, ap, ◌∙◌, subst, arith, eqb, Some, get_or}
use Rattle.std.specs.Prelude.{All, Contains, pos, Option, IfSome}
use Rattle.std.proofs.lemmas.Bool.{eq-eqb, eqb-true}
use Rattle.std.proofs.lemmas.List.Elements.{All-contains, All-weaker, All-head, All-tail, All-nil, All-push}
use Rattle.std.proofs.lemmas.List.{map-append}
use Rattle.std.proofs.lemmas.Option.{get_or_from_slice_get}
use Rattle.and_model.specs.Terms.{Path, Term, Terms, variable, number, compound, none, more, Substitution, apply, apply_all, framed}
use Rattle.and_model.specs.Solutions.{Solves}
use Rattle.and_model.specs.Programs
use Rattle.and_model.specs.Programs.{Program, Item, Of, clause_at, same_count, same_predicate}
use Rattle.and_model.specs.Candidates
use Rattle.and_model.specs.Candidates.{Candidate, guard}
use Rattle.and_model.specs.declared.goal.Goal.{Goal}
use Rattle.and_model.specs.declared.numbers.ClauseNo.{ClauseNo}
use Rattle.and_model.specs.declared.reference.Ref.{Ref}
use Rattle.and_model.specs.declared.reference.Ref.TheVariants.{Free, Cell}
use Rattle.and_program.specs.Skeletons
use Rattle.and_program.specs.Skeletons.{Shape, term_list, nth, node_term, shape_term, terms_behind, AllFall}
use Rattle.and_program.specs.Loaded.{shape_at, arguments_at, program_of}
use Rattle.and_program.specs.declared.loaded.Loaded.{Loaded}
use Rattle.and_program.specs.Shown.{arguments_in, resolved}
use Rattle.and_laws.proofs.Ordered.{contains_first, contains_more}
use Rattle.and_laws.proofs.Solving.{solves_then}
use Rattle.and_laws.proofs.Substitutions.{then, apply_then, and_left, and_right}
use Rattle.and_cells.specs.Ranges.{NamedProgram, IsNoVariable}
use Rattle.and_cells.specs.Rows.{IsSound}
use Rattle.and_cells.specs.Seen.{word_at, AreFree}
use Rattle.and_cells.specs.Meaning.{IsSettled, cell_variable, equations_of}
use Rattle.and_cells.specs.Parts.{part_at, named}
use Rattle.and_cells.specs.Solved.{IsMostGeneral}
use Rattle.and_cells.proofs.OneTerm.{apply_agree}
use Rattle.and_cell_laws.proofs.Settling.{settled_rows_have_terms}
use Rattle.and_cell_laws.proofs.Structures.{node_term_shape}
use Rattle.and_cell_laws.proofs.TermsOfRows.{rows_with_terms_are_solutions}
use Rattle.and_branch_laws.specs.Variables.{cells_from, placed}
use Rattle.and_branch_laws.specs.Judging.{outside}
use Rattle.and_guards.proofs.Widening.{solved_alike}
use Rattle.and_branch_laws.specs.Goals.{IsNodeOf}
use Rattle.and_clause_index.specs.Served.{NodeHas, AreServed}
use Rattle.and_determinacy.specs.Candidates.{IsNarrowed}
use Rattle.and_determinacy.specs.Searches.{IsCount, NodeKeeps}
use Rattle.and_determinacy.specs.declared.judging.Narrowed.TheVariants as narrowed
use Rattle.and_determinacy.specs.declared.judging.Judged.TheVariants.{Several}
use Rattle.and_determinacy.specs.Watching.{AreApart, AreFreeArguments, StaysWhile, TwoStayWhile}
use Rattle.and_determinacy.proofs.Fitted.{variable_given}
use Rattle.and_determinacy.proofs.SureHeads.{is_other}
use Rattle.and_laws.proofs.ClausesOf.{of_applied}
use Rattle.and_determinacy.proofs.Searching.{next_found, counted, as_judged}
use Rattle.and_determinacy.proofs.Told.{two_stay}

-- ---- What cells are given

-- these cells as arguments
abbrev pub cell_terms : List ℕ → Terms
cell_terms [] = none
cell_terms (c ∷ cs) = more (cell_variable c) (cell_terms cs)

-- the variables of the frame outside
abbrev frame : Substitution
frame = λ r k. variable outside k

-- what a cell is given where these cells are to be these terms in the frame outside
abbrev given : List ℕ → Terms → ℕ → Term
given [] hs n = cell_variable n
given (c ∷ cs) none n = cell_variable n
given (c ∷ cs) (more h hs) n = cond (eqb n c) (framed outside h) (given cs hs n)

given_first : (c : ℕ) (cs : List ℕ) (h : Term) (hs : Terms) → given (c ∷ cs) (more h hs) c ≡ framed outside h
given_first c cs h hs = ap (λ (b : Bool). cond b (framed outside h) (given cs hs c)) (eq-eqb c c refl)

given_other : (c : ℕ) (cs : List ℕ) (h : Term) (hs : Terms) (n : ℕ) → n ≢ c → given (c ∷ cs) (more h hs) n ≡ given cs hs n
given_other c cs h hs n other = ap (λ (b : Bool). cond b (framed outside h) (given cs hs n)) (is_other n c other)

all_given : (s : Substitution) (cs : List ℕ) (hs : Terms) → AreApart cs → same_count (cell_terms cs) hs ≡ true
    → ((n : ℕ) → Contains cs n → s [] n ≡ given cs hs n) → apply_all s (cell_terms cs) ≡ apply_all frame hs
all_given s [] none apart same f = refl
all_given s [] (more h hs) apart same f = absurd (true≢false (sym same))
all_given s (c ∷ cs) none apart same f = absurd (true≢false (sym same))
all_given s (c ∷ cs) (more h hs) apart same f =
    let first : s [] c ≡ framed outside h = f c (contains_first c cs) ∙ given_first c cs h hs in
    let rest : apply_all s (cell_terms cs) ≡ apply_all frame hs =
    all_given s cs hs apart.1 same (λ n i. f n (contains_more c n cs i)
    ∙ given_other c cs h hs n (All-contains (λ (other : ℕ). other ≢ c) cs n apart.0 i)) in
    ap (λ (t : Term). more t (apply_all s (cell_terms cs))) first ∙ ap (λ (ts : Terms). more (framed outside h) ts) rest

-- a term of the predicate has as many arguments
head_of : (name : ℕ) (ts : Terms) (h : Term) → same_predicate (compound name ts) h ≡ true
    → (hs : Terms) × (h ≡ compound name hs) × (same_count ts hs ≡ true)
head_of name ts (variable q k) e = absurd (true≢false (sym e))
head_of name ts (number z) e = absurd (true≢false (sym e))
head_of name ts (compound d hs) e =
    let same : name ≡ d = eqb-true name d (and_left (nat_eq name d) (same_count ts hs) e) in
    (hs, ap (λ (n : ℕ). compound n hs) (sym same), and_right (nat_eq name d) (same_count ts hs) e)

-- where a body has no guard, it has none in any frame
pub no_guard : (q : Path) (items : List Item) → guard [] items ≡ [] → guard q items ≡ []
no_guard q [] e = refl
no_guard q (Programs.arithmetic (Programs.compare r a b) ∷ items) e = absurd (cc)
no_guard q (Programs.arithmetic (Programs.is l r) ∷ items) e = refl
no_guard q (Programs.call g ∷ items) e = refl
no_guard q (Programs.equal a b ∷ items) e = refl
no_guard q (Programs.fail ∷ items) e = refl

-- ---- In a settled row

module _ (P : NamedProgram) (row : List Ref) (sound : IsSound P row) (settled : IsSettled P row) (cells : List ℕ)
    (low : All (λ (c : ℕ). c < length row) cells) (free : AreFree row cells) (apart : AreApart cells) where
  general : IsMostGeneral P row (equations_of P row)
  general = rows_with_terms_are_solutions P row sound ((settled_rows_have_terms P row sound).0 settled)

  -- the cells have these terms, under what the row gives them; nothing else is changed
  first : Terms → Substitution
  first hs [] k = given cells hs k
  first hs (n ∷ q) k = variable (n ∷ q) k

  meets : Terms → Substitution
  meets hs [] k = apply (first hs) (general.solution [] k)
  meets hs (n ∷ q) k = variable (n ∷ q) k

  is_given : (hs : Terms) (c : ℕ) → Contains cells c → meets hs [] c ≡ given cells hs c
  unfolding meets first
  is_given hs c i =
      ap (apply (first hs)) (variable_given P row (equations_of P row) general c (All-contains (λ (x : ℕ). x < length row) cells c low i)
      (All-contains (λ (x : ℕ). word_at row x ≡ Free) cells c free i))

  head_stays : (hs : Terms) (t : Term) → apply (meets hs) (framed outside t) ≡ framed outside t
  unfolding meets
  head_stays hs t = apply_then frame (meets hs) t ∙ apply_agree (then frame (meets hs)) frame t (λ v c. refl)

  meets_row : (hs : Terms) → Solves (meets hs) (equations_of P row)
  unfolding meets
  meets_row hs = solved_alike P row (then general.solution (first hs)) (meets hs) sound (λ cell under. refl)
      (solves_then general.solution (first hs) (equations_of P row) general.most_general.0)

  -- Each clause without a guard is a candidate of the call.
  pub free_fits : (base clause name : ℕ) (call : Term) → placed base call ≡ compound name (cell_terms cells) → Of P.program call clause
      → guard [] (clause_at P.program clause).body ≡ [] → Candidate P.program (equations_of P row) outside (placed base call) clause
  free_fits base clause name call is of unguarded =
      let of_it : Of P.program (placed base call) clause = of_applied P.program (cells_from base) call clause of in
      let head : Term = (clause_at P.program clause).head in
      let same : same_predicate (compound name (cell_terms cells)) head ≡ true =
      subst (λ (t : Term). same_predicate t head ≡ true) is
      (and_right (ltb 0 clause && leb clause (length P.program.clauses)) (same_predicate (placed base call) head) of_it) in
      let (hs, head_is, counted) = head_of name (cell_terms cells) head same in
      let s : Substitution = meets hs in
      let one : apply s (placed base call) ≡ apply s (framed outside head) =
      ap (apply s) is
      ∙ ap (λ (ts : Terms). compound name ts) (all_given s cells hs apart counted (is_given hs))
      ∙ sym (ap (framed outside) head_is) ∙ sym (head_stays hs head) in (
        of_it,
        (s, (one, meets_row hs)),
        λ a i r. absurd (subst (λ (goals : List Programs.Arithmetic). Candidates.In a goals) (no_guard outside (clause_at P.program clause).body unguarded) i),
      )

-- ---- Arguments

module _ (P : NamedProgram) (fall : AllFall 0 P.skeleton.nodes) (base : ℕ) where
  abbrev ts : List Term
  ts = terms_behind [] P.skeleton.nodes

  argument_is : (n c : ℕ) (s : Shape) → nth ts n ≡ shape_term ts s → resolved s (record { 0 = n }) base ≡ Cell c
      → apply (cells_from base) (nth ts n) ≡ cell_variable c
  argument_is n c (Skeletons.variable k) term e =
      let cell : base + 1 + k ≡ c = cc in ap (apply (cells_from base)) term ∙ ap cell_variable cell
  argument_is n c (Skeletons.number z) term e = absurd (cc)
  argument_is n c (Skeletons.compound d ns) term e = absurd (cc)

  arguments_are : (ns cs : List ℕ) → map (part_at P base) ns ≡ map (λ (c : ℕ). Cell c) cs
      → apply_all (cells_from base) (term_list (map (nth ts) ns)) ≡ cell_terms cs
  arguments_are [] [] e = refl
  arguments_are [] (c ∷ cs) e = absurd (cc)
  arguments_are (n ∷ ns) [] e = absurd (cc)
  arguments_are (n ∷ ns) (c ∷ cs) e =
      let one : part_at P base n ≡ Cell c = cc in
      let others : map (part_at P base) ns ≡ map (λ (c : ℕ). Cell c) cs = cc in
      let first = argument_is n c (shape_at P.skeleton n) (node_term_shape P.skeleton.nodes n fall) one in
      ap (λ (t : Term). more t (apply_all (cells_from base) (term_list (map (nth ts) ns)))) first
      ∙ ap (λ (us : Terms). more (cell_variable c) us) (arguments_are ns cs others)

  no_call : (t u : Term) (clause : ℕ) → t ≡ u → same_predicate u (clause_at P.program clause).head ≡ false → Of P.program t clause → ⊥
  no_call t u clause is other of =
      true≢false (sym (and_right (ltb 0 clause && leb clause (length P.program.clauses)) (same_predicate t (clause_at P.program clause).head) of)
      ∙ ap (λ (x : Term). same_predicate x (clause_at P.program clause).head) is ∙ other)

  call_is : (node clause : ℕ) (cells : List ℕ) (s : Shape) → node_term P.skeleton.nodes node ≡ shape_term ts s
      → map (part_at P base) (arguments_in s) ≡ map (λ (c : ℕ). Cell c) cells → Of P.program (node_term P.skeleton.nodes node) clause
      → (name : ℕ) × (placed base (node_term P.skeleton.nodes node) ≡ compound name (cell_terms cells))
  call_is node clause cells (Skeletons.variable k) is parts of = absurd (no_call _ (variable [] k) clause is refl of)
  call_is node clause cells (Skeletons.number z) is parts of = absurd (no_call _ (number z) clause is refl of)
  call_is node clause cells (Skeletons.compound name ns) is parts of =
      (name, ap (placed base) is ∙ ap (λ (us : Terms). compound name us) (arguments_are ns cells parts))

  -- The node of a call is no variable.
  pub call_no_variable : (node clause : ℕ) → Of P.program (node_term P.skeleton.nodes node) clause → IsNoVariable P node
  call_no_variable node clause of k is =
      no_call _ (variable [] k) clause (node_term_shape P.skeleton.nodes node fall
      ∙ ap (shape_term ts) (get_or_from_slice_get P.skeleton.nodes node (Skeletons.variable k) (Skeletons.number (pos 0)) is)) refl of

-- ---- While they are free

-- Each clause without a guard is a candidate of such a call, and stays one.
pub free_stays : (P : NamedProgram) → AllFall 0 P.skeleton.nodes → (row : List Ref) (base node clause : ℕ) (cells : List ℕ)
    → AreFreeArguments P row base (arguments_at P.skeleton node) cells → Of P.program (node_term P.skeleton.nodes node) clause
    → guard [] (clause_at P.program clause).body ≡ []
    → StaysWhile P row base (node_term P.skeleton.nodes node) cells clause
free_stays P fall row base node clause cells are of unguarded later grows sound settled free =
    let (name, is) = call_is P fall base node clause cells (shape_at P.skeleton node) (node_term_shape P.skeleton.nodes node fall) are.parts of in
    let longer = grows.longer in
    let low : All (λ (c : ℕ). c < length later) cells =
    All-weaker (λ (c : ℕ). c < length row) (λ (c : ℕ). c < length later) (λ c l. omega arith) cells are.below in
    free_fits P later sound settled cells low free are.apart base clause name (node_term P.skeleton.nodes node) is of unguarded

pub free_now : (P : NamedProgram) → AllFall 0 P.skeleton.nodes → (row : List Ref) (base node clause : ℕ) (cells : List ℕ)
    → AreFreeArguments P row base (arguments_at P.skeleton node) cells → Of P.program (node_term P.skeleton.nodes node) clause
    → guard [] (clause_at P.program clause).body ≡ [] → IsSound P row → IsSettled P row
    → Candidate P.program (equations_of P row) outside (placed base (node_term P.skeleton.nodes node)) clause
free_now P fall row base node clause cells are of unguarded sound settled =
    let (name, is) = call_is P fall base node clause cells (shape_at P.skeleton node) (node_term_shape P.skeleton.nodes node fall) are.parts of in
    free_fits P row sound settled cells are.below are.free are.apart base clause name (node_term P.skeleton.nodes node) is of unguarded

-- ---- One more

apart_more : (cells : List ℕ) (cell : ℕ) → AreApart cells → All (λ (other : ℕ). other ≢ cell) cells → AreApart (cells ++ cell ∷ [])
apart_more [] cell apart new = (All-nil (λ (other : ℕ). other ≢ cell), tt)
apart_more (c ∷ cells) cell apart new = (
  All-push (λ (other : ℕ). other ≢ c) cells cell apart.0 (λ e. All-head (λ (other : ℕ). other ≢ cell) c cells new (sym e)),
  apart_more cells cell apart.1 (All-tail (λ (other : ℕ). other ≢ cell) c cells new),
)

pub none_yet : (P : NamedProgram) (row : List Ref) (base : ℕ) → AreFreeArguments P row base [] []
none_yet P row base = record {
  parts = refl;
  below = All-nil (λ (c : ℕ). c < length row);
  free = All-nil (λ (c : ℕ). word_at row c ≡ Free);
  apart = tt;
}

pub one_more : (P : NamedProgram) (row : List Ref) (base : ℕ) (ns : List ℕ) (n : ℕ) (cells : List ℕ) (cell : ℕ)
    → AreFreeArguments P row base ns cells → part_at P base n ≡ Cell cell → cell < length row → word_at row cell ≡ Free
    → All (λ (other : ℕ). other ≢ cell) cells → AreFreeArguments P row base (ns ++ n ∷ []) (cells ++ cell ∷ [])
one_more P row base ns n cells cell are is under was new = record {
  parts = map-append (part_at P base) ns (n ∷ [])
      ∙ ap (λ (rs : List Ref). rs ++ part_at P base n ∷ []) are.parts
      ∙ ap (λ (r : Ref). map (λ (c : ℕ). Cell c) cells ++ r ∷ []) is
      ∙ sym (map-append (λ (c : ℕ). Cell c) cells (cell ∷ []));
  below = All-push (λ (c : ℕ). c < length row) cells cell are.below under;
  free = All-push (λ (c : ℕ). word_at row c ≡ Free) cells cell are.free was;
  apart = apart_more cells cell are.apart new;
}

-- ---- The first two clauses

-- Where the first two of the clauses are so, there are two.
pub first_two : (Q : ClauseNo → Type 0) (clauses : List ClauseNo) (one two : ClauseNo) → one ≡ get_or clauses 0 one → two ≡ get_or clauses 1 two
    → 2 ≤ length clauses → Q one → Q two → IsCount Q clauses 0 Several
first_two Q clauses one two first second many q r = (
  record { clause = one; behind = 0 + 1 },
  record { clause = two; behind = 1 + 1 },
  next_found Q clauses 0 0 one (omega arith) (omega arith) first q (λ k c after low there is. omega arith),
  next_found Q clauses 1 1 two (omega arith) (omega arith) second r (λ k c after low there is. omega arith),
)

-- no comparison
unguarded : (goals : List Programs.Arithmetic) (n : ℕ) → n ≡ length goals → n ≤ 0 → goals ≡ []
unguarded [] n e l = refl
unguarded (a ∷ goals) n e l = absurd (omega arith)

pub unguarded_by : (P : NamedProgram) (loaded : Loaded) → P ≡ named loaded → (c : ClauseNo) (n : ℕ)
    → n ≡ length (guard [] (clause_at (program_of loaded) c.0).body) → n ≤ 0 → guard [] (clause_at P.program c.0).body ≡ []
unguarded_by P loaded is c n counted few = unguarded (guard [] (clause_at P.program c.0).body) n
    (subst (λ (Q : NamedProgram). n ≡ length (guard [] (clause_at Q.program c.0).body)) (sym is) counted) few

module _ (P : NamedProgram) (fall : AllFall 0 P.skeleton.nodes) (row : List Ref) (sound : IsSound P row) (settled : IsSettled P row) (g : Goal) (node : ℕ)
    (is_node : IsNodeOf P row g node) (clauses : List ClauseNo) (served : AreServed P row node g.base clauses) (one two : ClauseNo)
    (first : one ≡ get_or clauses 0 one) (second : two ≡ get_or clauses 1 two) (many : 2 ≤ length clauses)
    (no_first : guard [] (clause_at P.program one.0).body ≡ []) (no_second : guard [] (clause_at P.program two.0).body ≡ []) (has : List ℕ)
    (are : AreFreeArguments P row g.base (arguments_at P.skeleton node) has) where
  of_place : (i : ℕ) (c : ClauseNo) → i < length clauses → c ≡ get_or clauses i c → Of P.program (node_term P.skeleton.nodes node) c.0
  of_place i c low is = All-contains (λ (d : ClauseNo). Of P.program (node_term P.skeleton.nodes node) d.0) clauses c served.of (i, low, sym is)

  keeps : (c : ClauseNo) → Of P.program (node_term P.skeleton.nodes node) c.0 → guard [] (clause_at P.program c.0).body ≡ []
      → NodeKeeps P row node g.base has c
  keeps c of none_there = (
    free_now P fall row g.base node c.0 has are of none_there sound settled,
    free_stays P fall row g.base node c.0 has are of none_there,
  )

  both_keep : IsCount (NodeKeeps P row node g.base has) clauses 0 Several
  both_keep = first_two (NodeKeeps P row node g.base has) clauses one two first second many
      (keeps one (of_place 0 one (omega (arith, many)) first) no_first) (keeps two (of_place 1 two (omega (arith, many)) second) no_second)

  both_are : IsCount (NodeHas P row node g.base) clauses 0 Several
  both_are = first_two (NodeHas P row node g.base) clauses one two first second many
      (keeps one (of_place 0 one (omega (arith, many)) first) no_first).0 (keeps two (of_place 1 two (omega (arith, many)) second) no_second).0

  -- Both are candidates,
  pub two_free : IsNarrowed P row g narrowed.Several
  two_free = as_judged P row g node is_node clauses served Several (counted P row g node is_node clauses served Several both_are)

  -- and stay so.
  pub two_free_stay : (told : Option (List ℕ)) → told ≡ Some has → IfSome told (TwoStayWhile P row g)
  two_free_stay told e = subst (λ (o : Option (List ℕ)). IfSome o (TwoStayWhile P row g)) (sym e)
      (two_stay P row g node is_node clauses served 0 (Some has) both_keep)
