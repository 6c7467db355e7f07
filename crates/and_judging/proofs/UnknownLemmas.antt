-- Which calls have no clause.
use Rattle.std.proofs.Common.{ℕ, ℤ, suc, ◌+◌, ◌≡◌, ◌<◌, ◌≤◌, ◌||◌, Bool, true, false, not, cond, eqb, List, [], ◌∷◌, ◌++◌, length, map, get_or, drop}
use Rattle.std.proofs.Common.{take}
use Rattle.std.proofs.Common.{Option, Some, None, refl, sym, ap, ◌∙◌, arith, subst}
use Rattle.std.specs.Prelude.{All}
use Rattle.std.specs.Option.{option_map}
use Rattle.std.proofs.lemmas.Bool.Decides.{nat_tests}
use Rattle.std.proofs.lemmas.List.{append_assoc, append-nil, drop_more, drop_all, map-append, length-map, length-take, take-take}
use Rattle.std.proofs.Math.Seq.{take-append_seam, take-length}
use Rattle.std.proofs.lemmas.List.Elements.{All-head, All-tail}
use Rattle.std.specs.List.{list_any}
use Rattle.smallvec.specs.SmallVec.{SmallVec}
use Rattle.and_model.specs.Lines.{Bytes}
use Rattle.and_model.specs.Terms
use Rattle.and_model.specs.Terms.{Term, Terms, width}
use Rattle.and_model.specs.Programs as programs
use Rattle.and_model.specs.Programs.{Clause, same_predicate}
use Rattle.and_model.specs.declared.numbers.NodeNo.{NodeNo}
use Rattle.and_model.specs.declared.numbers.ClauseNo.{ClauseNo}
use Rattle.and_program.specs.Predicates.{predicate_in, is_key_of, numbers_from}
use Rattle.and_program.specs.declared.predicates.Predicate.{Predicate}
use Rattle.and_program.specs.declared.item.ItemNode.TheVariants as items
use Rattle.and_program.specs.Skeletons.{Shape, node_term}
use Rattle.and_program.proofs.PredicateLemmas.{width-term_list}
use Rattle.and_program.proofs.MemberLemmas.{key, is_key_of-same}
use Rattle.and_source.specs.Source.{SourceClause, calls_in_items}
use Rattle.and_syntax.specs.Clauses.{is_named, arity_of}
use Rattle.and_syntax.specs.Tables.{Unknown, first_unknown, unknown_or, unknown_in}
use Rattle.and_judging.specs.Unknown.{call_at, calls_of, unknown_at, first_called, goal_in}
use Rattle.and_drafts.specs.Parts.{part_shapes, PartsFall}
use Rattle.and_judging.specs.Marks as marks
use Rattle.and_judging.specs.Marks.{Mark, mark_of, marks_in, calls_in_marks}
use Rattle.and_judging.specs.Sorts.{shapes_under, TokenThere}
use Rattle.and_judging.specs.declared.data.Called.{Called}
use Rattle.and_judging.specs.declared.body.BodyToken.{BodyToken}
use Rattle.and_judging.specs.declared.body.BodyToken.TheVariants as tokens
use Rattle.and_drafts.specs.declared.draft.DraftPart.{DraftPart}
use Rattle.and_drafts.specs.declared.draft.DraftPart.TheVariants as parts
use Rattle.and_judging.proofs.Noticing.{term_under, part_term}
use Rattle.and_syntax.specs.Written.{place}

suc_zero : (a : ℕ) → false ≡ eqb (suc a) 0
suc_zero a = grind (arith, nat_tests)

-- ---- Whether a predicate has clauses.
abbrev is_none : List ClauseNo → Bool
is_none xs = eqb (length xs) 0

any_number : (p : Predicate) (n : ℕ) (cs : List Clause) → not (is_none (numbers_from p n cs)) ≡ list_any (λ k. is_key_of (predicate_in k.head) p) cs
any_number p n [] = refl
any_number p n (k ∷ cs) =
    let one : ClauseNo = record { 0 = n } in
    let more : List ClauseNo = numbers_from p (suc n) cs in
    let P : Bool → Type 0 = λ b. not (is_none (cond b (one ∷ more) more)) ≡ (b || list_any (λ i. is_key_of (predicate_in i.head) p) cs) in
    elim (is_key_of (predicate_in k.head) p) as P [ true ↦ ap not (sym (suc_zero (length more))) | false ↦ any_number p (suc n) cs ]

turned : (b c : Bool) → not b ≡ c → b ≡ not c
turned true true e = sym e
turned true false e = refl
turned false true e = refl
turned false false e = sym e

-- none of the clauses is of the predicate of the call
abbrev has_clause : List Clause → Called → Bool
has_clause cs k = list_any (λ c. is_key_of (predicate_in c.head) k.predicate) cs

none_is : (cs : List Clause) (k : Called) (xs : List ClauseNo) (b : Bool) → b ≡ eqb (length xs) 0 → xs ≡ numbers_from k.predicate 1 cs
    → b ≡ not (has_clause cs k)
none_is cs k xs b e f =
    e ∙ ap is_none f ∙ turned (is_none (numbers_from k.predicate 1 cs)) (has_clause cs k) (any_number k.predicate 1 cs)

-- ---- The first call of a list without a clause, one call further.
pub found_here : (cs : List Clause) (calls : List Called) (i : ℕ) (d : Called) (xs : List ClauseNo) (b : Bool) (whole : Option Called) → i < length calls
    → b ≡ eqb (length xs) 0 → xs ≡ numbers_from (get_or calls i d).predicate 1 cs → b ≡ true
    → first_called cs (drop i calls) ≡ whole → Some (get_or calls i d) ≡ whole
found_here cs calls i d xs b whole lt e f is owed =
    let k : Called = get_or calls i d in
    let no : has_clause cs k ≡ false = by (has_clause cs k) (sym (none_is cs k xs b e f) ∙ is) in
    sym (ap (λ v. cond v (first_called cs (drop (i + 1) calls)) (Some k)) no) ∙ sym (ap (first_called cs) (drop_more calls i d lt)) ∙ owed
  where
    by : (v : Bool) → not v ≡ true → v ≡ false
    by true h = absurd cc
    by false h = refl

pub found_later : (cs : List Clause) (calls : List Called) (i : ℕ) (d : Called) (xs : List ClauseNo) (b : Bool) (whole : Option Called) → i < length calls
    → b ≡ eqb (length xs) 0 → xs ≡ numbers_from (get_or calls i d).predicate 1 cs → b ≡ false
    → first_called cs (drop i calls) ≡ whole → first_called cs (drop (i + 1) calls) ≡ whole
found_later cs calls i d xs b whole lt e f is owed =
    let k : Called = get_or calls i d in
    let some : has_clause cs k ≡ true = by (has_clause cs k) (sym (none_is cs k xs b e f) ∙ is) in
    sym (ap (λ v. cond v (first_called cs (drop (i + 1) calls)) (Some k)) some) ∙ sym (ap (first_called cs) (drop_more calls i d lt)) ∙ owed
  where
    by : (v : Bool) → not v ≡ false → v ≡ true
    by true h = refl
    by false h = absurd cc

pub found_none : (cs : List Clause) (calls : List Called) (i : ℕ) (whole : Option Called) → length calls ≤ i
    → first_called cs (drop i calls) ≡ whole → None ≡ whole
found_none cs calls i whole le owed = sym (ap (first_called cs) (drop_all i calls le)) ∙ owed

-- ---- What is called, and by a name with at most 255 arguments.
abbrev pub IsCall : Term → Type 0
IsCall g = (is_named g ≡ true) × (arity_of g ≤ 255)

abbrev pub CallsFit : List SourceClause → Type 0
CallsFit [] = Unit {0}
CallsFit (k ∷ ks) = All IsCall (calls_in_items k.body) × CallsFit ks

abbrev pub AreCalls : List Called → Type 0
AreCalls [] = Unit {0}
AreCalls (k ∷ ks) = (k.predicate.arity ≤ 255) × AreCalls ks

pub calls_append : (ks js : List Called) → AreCalls ks → AreCalls js → AreCalls (ks ++ js)
calls_append [] js a b = b
calls_append (k ∷ ks) js a b = (a.0, calls_append ks js a.1 b)

pub calls_narrow : (line : ℕ) (gs : List Term) → All IsCall gs → AreCalls (map (call_at line) gs)
calls_narrow line [] a = tt
calls_narrow line (g ∷ gs) a = let h : IsCall g = All-head IsCall g gs a in (h.1, calls_narrow line gs (All-tail IsCall g gs a))

pub all_narrow : (ks : List SourceClause) → CallsFit ks → AreCalls (calls_of ks)
all_narrow [] f = tt
all_narrow (k ∷ ks) f =
    calls_append (map (call_at k.line) (calls_in_items k.body)) (calls_of ks) (calls_narrow k.line (calls_in_items k.body) f.0) (all_narrow ks f.1)

-- the first without a clause is one of them
pub first_narrow : (cs : List Clause) (ks : List Called) (k : Called) → AreCalls ks → Some k ≡ first_called cs ks → k.predicate.arity ≤ 255
first_narrow cs [] k a e = absurd cc
first_narrow cs (j ∷ ks) k a e = by (has_clause cs j) e (λ h. first_narrow cs ks k a.1 h)
  where
    by : (b : Bool) → Some k ≡ cond b (first_called cs ks) (Some j) → (Some k ≡ first_called cs ks → k.predicate.arity ≤ 255) → k.predicate.arity ≤ 255
    by true h more = more h
    by false h more = let same : k ≡ j = cc in subst (λ (i : Called). i.predicate.arity ≤ 255) (sym same) a.0

-- ---- Calls as they are kept, and as they are told of.
any_key : (c : ℕ) (ts : Terms) (cs : List Clause)
    → list_any (λ k. is_key_of (predicate_in k.head) (key c ts)) cs ≡ list_any (λ k. same_predicate (Terms.compound c ts) k.head) cs
any_key c ts [] = refl
any_key c ts (k ∷ cs) =
    ap (λ (b : Bool). b || list_any (λ i. is_key_of (predicate_in i.head) (key c ts)) cs) (is_key_of-same c ts k.head)
    ∙ ap (λ (b : Bool). same_predicate (Terms.compound c ts) k.head || b) (any_key c ts cs)

called_same : (line : ℕ) (cs : List Clause) (g : Term) → is_named g ≡ true → has_clause cs (call_at line g) ≡ list_any (λ c. same_predicate g c.head) cs
called_same line cs (Terms.variable q k) e = absurd cc
called_same line cs (Terms.number z) e = absurd cc
called_same line cs (Terms.compound c ts) e = any_key c ts cs

-- the call of a term on that line, if there is one, and else the rest
abbrev or_rest : ℕ → Option Term → Option Called → Option Called
or_rest line None rest = rest
or_rest line (Some g) rest = Some (call_at line g)

first_of_one : (cs : List Clause) (line : ℕ) (gs : List Term) (rest : List Called) → All IsCall gs
    → first_called cs (map (call_at line) gs ++ rest) ≡ or_rest line (first_unknown cs gs) (first_called cs rest)
first_of_one cs line [] rest a = refl
first_of_one cs line (g ∷ gs) rest a =
    let h : IsCall g = All-head IsCall g gs a in
    ap (λ b. cond b (first_called cs (map (call_at line) gs ++ rest)) (Some (call_at line g))) (called_same line cs g h.0)
    ∙ by (list_any (λ c. same_predicate g c.head) cs) (first_of_one cs line gs rest (All-tail IsCall g gs a))
  where
    by : (b : Bool) → first_called cs (map (call_at line) gs ++ rest) ≡ or_rest line (first_unknown cs gs) (first_called cs rest)
        → cond b (first_called cs (map (call_at line) gs ++ rest)) (Some (call_at line g))
        ≡ or_rest line (cond b (first_unknown cs gs) (Some g)) (first_called cs rest)
    by true e = e
    by false e = refl

told : (names : List Bytes) (line : ℕ) (o : Option Term) (rest : Option Called) (more : Option Unknown) → option_map (unknown_at names) rest ≡ more
    → option_map (unknown_at names) (or_rest line o rest) ≡ unknown_or names line o more
told names line None rest more e = e
told names line (Some g) rest more e = refl

-- clauses, and what follows them
pub first_of_text : (names : List Bytes) (cs : List Clause) (ks js : List SourceClause) (rest : List Called) → CallsFit ks
    → option_map (unknown_at names) (first_called cs rest) ≡ unknown_in names cs js
    → option_map (unknown_at names) (first_called cs (calls_of ks ++ rest)) ≡ unknown_in names cs (ks ++ js)
first_of_text names cs [] js rest f e = e
first_of_text names cs (k ∷ ks) js rest f e =
    let gs : List Term = calls_in_items k.body in
    ap (λ xs. option_map (unknown_at names) (first_called cs xs)) (append_assoc (map (call_at k.line) gs) (calls_of ks) rest)
    ∙ ap (option_map (unknown_at names)) (first_of_one cs k.line gs (calls_of ks ++ rest) f.0)
    ∙ told names k.line (first_unknown cs gs) (first_called cs (calls_of ks ++ rest)) (unknown_in names cs (ks ++ js)) (first_of_text names cs ks js rest f.1 e)

-- ---- What a part calls.
module _ (names : List Bytes) (ps : List DraftPart) (n : ℕ) (p : DraftPart) (f : PartsFall 0 (part_shapes ps)) (lt : n < length ps) (at : p ≡ get_or ps n p)
    (line : ℕ) where
  abbrev goal_term : Term
  goal_term = node_term (shapes_under names ps) n

  abbrev said : ℕ → ℕ → Called
  said c k = record { predicate = record { name = record { 0 = c }; arity = k }; line = line }

  term_is : (q : DraftPart) → p ≡ q → goal_term ≡ term_under names (node_term (shapes_under names ps)) q
  term_is q e = part_term names ps n p f lt at ∙ ap (term_under names (node_term (shapes_under names ps))) e

  pub variable_called : (x : Bytes) (k : ℕ) → p ≡ parts.Variable x k → said 0 0 ≡ call_at line (node_term (shapes_under names ps) n)
  variable_called x k e = sym (ap (call_at line) (term_is (parts.Variable x k) e))

  pub number_called : (z : ℤ) → p ≡ parts.Integer z → said 0 0 ≡ call_at line (node_term (shapes_under names ps) n)
  number_called z e = sym (ap (call_at line) (term_is (parts.Integer z) e))

  pub compound_called : (c : Bytes) (v : SmallVec ℕ) (x : Bytes) (number k : ℕ) → p ≡ parts.Compound c v → x ≡ c → number ≡ place x names → k ≡ length v.items
      → said number k ≡ call_at line (node_term (shapes_under names ps) n)
  compound_called c v x number k e same named long =
      let us : List Term = map (node_term (shapes_under names ps)) v.items in
      ap (λ m. said m k) (named ∙ ap (λ (y : Bytes). place y names) same)
      ∙ ap (said (place c names)) (long ∙ sym (length-map v.items (node_term (shapes_under names ps))) ∙ sym (width-term_list us))
      ∙ sym (ap (call_at line) (term_is (parts.Compound c v) e))

-- ---- What a token calls.
pub goal_there : (n : ℕ) (t : BodyToken) (o : Option NodeNo) (g : NodeNo) → o ≡ goal_in t → o ≡ Some g → TokenThere n t → g.0 < n
goal_there n (tokens.Item (items.Call m)) o g e is there = let same : m ≡ g = cc in subst (λ (k : NodeNo). k.0 < n) same there
goal_there n (tokens.Item (items.Equal l r)) o g e is there = absurd cc
goal_there n (tokens.Item (items.Is l r pair)) o g e is there = absurd cc
goal_there n (tokens.Item (items.Compare m l r)) o g e is there = absurd cc
goal_there n (tokens.Item items.Fail) o g e is there = absurd cc
goal_there n (tokens.Open d) o g e is there = absurd cc
goal_there n (tokens.Next c) o g e is there = absurd cc
goal_there n tokens.Close o g e is there = absurd cc

goal_marked : (ss : List Shape) (t : BodyToken) (o : Option NodeNo) (g : NodeNo) → o ≡ goal_in t → o ≡ Some g
    → node_term ss g.0 ∷ [] ≡ calls_in_marks (mark_of ss t ∷ [])
goal_marked ss (tokens.Item (items.Call m)) o g e is = let same : g ≡ m = cc in ap (λ (k : NodeNo). node_term ss k.0 ∷ []) same
goal_marked ss (tokens.Item (items.Equal l r)) o g e is = absurd cc
goal_marked ss (tokens.Item (items.Is l r pair)) o g e is = absurd cc
goal_marked ss (tokens.Item (items.Compare m l r)) o g e is = absurd cc
goal_marked ss (tokens.Item items.Fail) o g e is = absurd cc
goal_marked ss (tokens.Open d) o g e is = absurd cc
goal_marked ss (tokens.Next c) o g e is = absurd cc
goal_marked ss tokens.Close o g e is = absurd cc

none_marked : (ss : List Shape) (t : BodyToken) (o : Option NodeNo) → o ≡ goal_in t → o ≡ None → [] ≡ calls_in_marks (mark_of ss t ∷ [])
none_marked ss (tokens.Item (items.Call m)) o e is = absurd cc
none_marked ss (tokens.Item (items.Equal l r)) o e is = refl
none_marked ss (tokens.Item (items.Is l r pair)) o e is = refl
none_marked ss (tokens.Item (items.Compare m l r)) o e is = refl
none_marked ss (tokens.Item items.Fail) o e is = refl
none_marked ss (tokens.Open d) o e is = refl
none_marked ss (tokens.Next c) o e is = refl
none_marked ss tokens.Close o e is = refl

-- one call more, or none
pub one_called : (ss : List Shape) (t : BodyToken) (o : Option NodeNo) (g : NodeNo) (line : ℕ) (k : Called) (old new : List Called) → o ≡ goal_in t → o ≡ Some g
    → k ≡ call_at line (node_term ss g.0) → new ≡ old ++ k ∷ [] → new ≡ old ++ map (call_at line) (calls_in_marks (mark_of ss t ∷ []))
one_called ss t o g line k old new e is same made =
    made ∙ ap (λ (j : Called). old ++ j ∷ []) same ∙ ap (λ gs. old ++ map (call_at line) gs) (goal_marked ss t o g e is)

pub none_called : (ss : List Shape) (t : BodyToken) (o : Option NodeNo) (line : ℕ) (old : List Called) → o ≡ goal_in t → o ≡ None
    → old ≡ old ++ map (call_at line) (calls_in_marks (mark_of ss t ∷ []))
none_called ss t o line old e is = sym (append-nil old) ∙ ap (λ gs. old ++ map (call_at line) gs) (none_marked ss t o e is)

-- ---- One token more of a list.
calls_in-cons : (m : Mark) (ms : List Mark) → calls_in_marks (m ∷ ms) ≡ calls_in_marks (m ∷ []) ++ calls_in_marks ms
calls_in-cons (marks.item (programs.call g)) ms = refl
calls_in-cons (marks.item (programs.equal a b)) ms = refl
calls_in-cons (marks.item (programs.arithmetic a)) ms = refl
calls_in-cons (marks.item programs.fail) ms = refl
calls_in-cons (marks.open_mark d) ms = refl
calls_in-cons (marks.next c) ms = refl
calls_in-cons marks.close ms = refl

pub next_called : (ss : List Shape) (ts : List BodyToken) (i : ℕ) (d : BodyToken) (line : ℕ) (old new whole : List Called) → i < length ts
    → new ≡ old ++ map (call_at line) (calls_in_marks (mark_of ss (get_or ts i d) ∷ []))
    → old ++ map (call_at line) (calls_in_marks (marks_in ss (drop i ts))) ≡ whole
    → new ++ map (call_at line) (calls_in_marks (marks_in ss (drop (i + 1) ts))) ≡ whole
next_called ss ts i d line old new whole lt made owed =
    let here : List Term = calls_in_marks (mark_of ss (get_or ts i d) ∷ []) in
    let later : List Term = calls_in_marks (marks_in ss (drop (i + 1) ts)) in
    ap (λ ks. ks ++ map (call_at line) later) made ∙ append_assoc old (map (call_at line) here) (map (call_at line) later)
    ∙ ap (λ ks. old ++ ks) (sym (map-append (call_at line) here later) ∙ ap (map (call_at line))
    (sym (calls_in-cons (mark_of ss (get_or ts i d)) (marks_in ss (drop (i + 1) ts))) ∙ ap (λ us. calls_in_marks (marks_in ss us)) (sym (drop_more ts i d lt))))
    ∙ owed

pub all_called : (ss : List Shape) (ts : List BodyToken) (i : ℕ) (line : ℕ) (now whole : List Called) → length ts ≤ i
    → now ++ map (call_at line) (calls_in_marks (marks_in ss (drop i ts))) ≡ whole → now ≡ whole
all_called ss ts i line now whole le owed =
    sym (append-nil now) ∙ sym (ap (λ us. now ++ map (call_at line) (calls_in_marks (marks_in ss us))) (drop_all i ts le)) ∙ owed

-- what grew twice
pub grown_again : (old mid new : List Called) → take (length old) mid ≡ old → take (length mid) new ≡ mid → take (length old) new ≡ old
grown_again old mid new e f =
    let le : length old ≤ length mid = omega (arith, ap length e, length-take (length old) mid) in
    sym (take-take (length old) (length mid) new le) ∙ ap (take (length old)) f ∙ e

pub grown_self : (old : List Called) → take (length old) old ≡ old
grown_self old = take-length old

pub grown_push : (old new : List Called) (k : Called) → new ≡ old ++ k ∷ [] → take (length old) new ≡ old
grown_push old new k e = ap (take (length old)) e ∙ take-append_seam old (k ∷ [])
