-- What the clauses of a table call: names with at most 255 arguments.
use Rattle.std.proofs.Common.{ℕ, suc, ◌+◌, ◌≡◌, ◌≤◌, Bool, true, false, cond, nat_eq, List, [], ◌∷◌, ◌++◌, length, map, Option, Some, None, refl, ap, sym}
use Rattle.std.proofs.Common.{◌∙◌, subst}
use Rattle.std.proofs.Common.{arith}
use Rattle.std.specs.Prelude.{All}
use Rattle.std.specs.Option.{option_map}
use Rattle.std.proofs.lemmas.List.{append-nil, append_assoc}
use Rattle.std.proofs.lemmas.List.Elements.{All-nil, All-cons, All-append}
use Rattle.and_model.specs.Lines.{Bytes}
use Rattle.and_model.specs.Terms
use Rattle.and_model.specs.Terms.{Term, Terms, width}
use Rattle.and_model.specs.Arithmetic.{Relation}
use Rattle.and_model.specs.Programs.{Clause, Item, call, equal, arithmetic, fail}
use Rattle.and_source.specs.Source.{SourceClause, calls_in_items, calls_in_alternatives}
use Rattle.and_syntax.specs.Written
use Rattle.and_syntax.specs.Written.{Written, Many, nodes_of, met_after, term_in, terms_in}
use Rattle.and_syntax.specs.Clauses
use Rattle.and_syntax.specs.Clauses.{Parts, no_parts, item, impure, Choices, no_choices, choice, Reading, joined, alone, atom_parts, unary_part, binary_part}
use Rattle.and_syntax.specs.Clauses.{binary_reading, compare_or, relation_of, reading_of, parts_of, alternatives_of, alternatives_in, disjunctions_of}
use Rattle.and_syntax.specs.Clauses.{disjunctions_within, numbered, numbered_in, body_of, asked_of}
use Rattle.and_syntax.specs.Tables.{Table, Unknown, empty, with_clause, with_query, term_with, unknown_in}
use Rattle.and_drafts.specs.Parts
use Rattle.and_drafts.specs.Parts.{PartShape, part_shapes, written_at, many, postfix, postfix_all, roots, AllNarrow, IsNarrow}
use Rattle.and_clauses.specs.Adds.{first_of, term_of, with_added, with_all}
use Rattle.and_judging.specs.Unknown.{calls_of, unknown_at, first_called}
use Rattle.and_clauses.specs.Kept.{asked_calls, called_of}
use Rattle.and_drafts.specs.declared.draft.ClauseDraft.{ClauseDraft}
use Rattle.and_clauses.specs.declared.added.Added.{Added}
use Rattle.and_clauses.specs.declared.added.Added.TheVariants.{Clause as ClauseAdded, Query as QueryAdded}
use Rattle.and_judging.specs.declared.data.Called.{Called}
use Rattle.and_judging.proofs.UnknownLemmas.{IsCall, CallsFit, AreCalls, calls_append, calls_narrow, all_narrow, first_of_text}

-- ---- Terms whose names have at most 255 arguments.
abbrev mutual
  Narrow : Term → Type 0
  Narrow (Terms.variable q k) = Unit {0}
  Narrow (Terms.number z) = Unit {0}
  Narrow (Terms.compound c ts) = (width ts ≤ 255) × Narrows ts

  Narrows : Terms → Type 0
  Narrows Terms.none = Unit {0}
  Narrows (Terms.more t ts) = Narrow t × Narrows ts

narrow_front : (ps qs : List PartShape) → AllNarrow (ps ++ qs) → AllNarrow ps
narrow_front [] qs a = tt
narrow_front (p ∷ ps) qs a = (a.0, narrow_front ps qs a.1)

narrow_back : (ps qs : List PartShape) → AllNarrow (ps ++ qs) → AllNarrow qs
narrow_back [] qs a = a
narrow_back (p ∷ ps) qs a = narrow_back ps qs a.1

roots_width : (n : ℕ) (names met : List Bytes) (ts : Many) → width (terms_in names met ts) ≡ length (roots n ts)
roots_width n names met Written.none = refl
roots_width n names met (Written.more t ts) =
    let e : width (terms_in names (met_after met t) ts) ≡ length (roots (n + nodes_of t) ts) = roots_width (n + nodes_of t) names (met_after met t) ts in
    omega (arith, e)

mutual
  narrow_term : (n : ℕ) (names met : List Bytes) (w : Written) → AllNarrow (postfix n w) → Narrow (term_in names met w)
  narrow_term n names met (Written.variable x) a = tt
  narrow_term n names met (Written.integer z) a = tt
  narrow_term n names met (Written.compound c ts) a =
      let last = narrow_back (postfix_all n ts) (Parts.compound c (roots n ts) ∷ []) a in
      (omega (arith, last.0, roots_width n names met ts), narrow_terms n names met ts (narrow_front (postfix_all n ts) (Parts.compound c (roots n ts) ∷ []) a))

  narrow_terms : (n : ℕ) (names met : List Bytes) (ts : Many) → AllNarrow (postfix_all n ts) → Narrows (terms_in names met ts)
  narrow_terms n names met Written.none a = tt
  narrow_terms n names met (Written.more t ts) a = (
    narrow_term n names met t (narrow_front (postfix n t) (postfix_all (n + nodes_of t) ts) a),
    narrow_terms (n + nodes_of t) names (met_after met t) ts (narrow_back (postfix n t) (postfix_all (n + nodes_of t) ts) a),
  )

-- that of a draft
draft_narrow : (names : List Bytes) (d : ClauseDraft) → Narrow (term_in names [] (term_of d))
draft_narrow names d = by d.finished.items refl
  where
    by : (ns : List ℕ) → d.finished.items ≡ ns → Narrow (term_in names [] (first_of d ns))
    by [] e = tt
    by (n ∷ ns) e =
        let at : ℕ → Written = written_at (part_shapes d.parts.items) in
        let formed : part_shapes d.parts.items ≡ postfix 0 (at n) ++ postfix_all (0 + nodes_of (at n)) (many (map at ns)) =
        d.formed.0 ∙ ap (λ ms. postfix_all 0 (many (map at ms))) e in
        narrow_term 0 names [] (at n) (narrow_front (postfix 0 (at n)) (postfix_all (0 + nodes_of (at n)) (many (map at ns))) (subst AllNarrow formed d.narrow))

-- ---- The calls of such a term.
abbrev ItemFits : Item → Type 0
ItemFits (call g) = IsCall g
ItemFits (equal a b) = Unit {0}
ItemFits (arithmetic a) = Unit {0}
ItemFits fail = Unit {0}

abbrev mutual
  PartsFit : Parts → Type 0
  PartsFit no_parts = Unit {0}
  PartsFit (item i ps) = ItemFits i × PartsFit ps
  PartsFit (impure ps) = PartsFit ps
  PartsFit (Clauses.either cs ps) = ChoicesFit cs × PartsFit ps

  ChoicesFit : Choices → Type 0
  ChoicesFit no_choices = Unit {0}
  ChoicesFit (choice ps cs) = PartsFit ps × ChoicesFit cs

abbrev ReadingFits : Reading → Type 0
ReadingFits r = PartsFit r.body × ChoicesFit r.last

joined_fit : (ps qs : Parts) → PartsFit ps → PartsFit qs → PartsFit (joined ps qs)
joined_fit no_parts qs a b = b
joined_fit (item i ps) qs a b = (a.0, joined_fit ps qs a.1 b)
joined_fit (impure ps) qs a b = joined_fit ps qs a b
joined_fit (Clauses.either cs ps) qs a b = (a.0, joined_fit ps qs a.1 b)

-- a choice of two
chosen : {X : Type 0} (P : X → Type 0) (b : Bool) (x y : X) → P x → P y → P (cond b x y)
chosen P true x y a b = a
chosen P false x y a b = b

compared : (r : Option Relation) (a b : Term) (ps : Parts) → PartsFit ps → PartsFit (compare_or r a b ps)
compared None a b ps h = h
compared (Some r) a b ps h = (tt, tt)

atom_fits : (c : ℕ) → IsCall (Terms.compound c Terms.none) → PartsFit (atom_parts c)
atom_fits c whole = chosen PartsFit (nat_eq c 0) _ _ tt (chosen PartsFit (nat_eq c 1) _ _ (tt, tt) (chosen PartsFit (nat_eq c 24) _ _ tt (whole, tt)))

binary_fits : (c : ℕ) (a b : Term) → IsCall (Terms.compound c (Terms.more a (Terms.more b Terms.none))) → PartsFit (binary_part c a b)
binary_fits c a b whole =
    let called : Parts = item (call (Terms.compound c (Terms.more a (Terms.more b Terms.none)))) no_parts in
    let other : Parts = cond (nat_eq c 22) (impure no_parts) called in
    chosen PartsFit (nat_eq c 3) _ _ (tt, tt)
    (chosen PartsFit (nat_eq c 4) _ _ (tt, tt) (compared (relation_of c) a b other (chosen PartsFit (nat_eq c 22) (impure no_parts) called tt (whole, tt))))

two_fit : (c : ℕ) (a b : Term) (x y : Reading) → IsCall (Terms.compound c (Terms.more a (Terms.more b Terms.none))) → ReadingFits x → ReadingFits y
    → ReadingFits (binary_reading c a b x y)
two_fit c a b x y whole left right =
    let joint = joined_fit x.body y.body left.0 right.0 in
    let single = binary_fits c a b whole in
    chosen ReadingFits (nat_eq c 2) _ _ (joint, (joint, tt))
    (chosen ReadingFits (nat_eq c 21) _ _ (((left.0, right.1), tt), (left.0, right.1)) (single, (single, tt)))

reading_fits : (t : Term) → Narrow t → ReadingFits (reading_of t)
reading_fits (Terms.variable q k) h = (tt, (tt, tt))
reading_fits (Terms.number z) h = (tt, (tt, tt))
reading_fits (Terms.compound c Terms.none) h = let a = atom_fits c (refl, h.0) in (a, (a, tt))
reading_fits (Terms.compound c (Terms.more a Terms.none)) h =
    let one : PartsFit (unary_part c a) = chosen PartsFit (nat_eq c 23) _ _ tt ((refl, h.0), tt) in (one, (one, tt))
reading_fits (Terms.compound c (Terms.more a (Terms.more b Terms.none))) h =
    two_fit c a b (reading_of a) (reading_of b) (refl, h.0) (reading_fits a h.1.0) (reading_fits b h.1.1.0)
reading_fits (Terms.compound c (Terms.more a (Terms.more b (Terms.more d ts)))) h = (((refl, h.0), tt), (((refl, h.0), tt), tt))

body_fits : (t : Term) → Narrow t → PartsFit (body_of t)
body_fits (Terms.variable q k) h = tt
body_fits (Terms.number z) h = tt
body_fits (Terms.compound c Terms.none) h = tt
body_fits (Terms.compound c (Terms.more a Terms.none)) h = tt
body_fits (Terms.compound c (Terms.more a (Terms.more b Terms.none))) h =
    chosen PartsFit (nat_eq c 25) (parts_of b) no_parts (reading_fits b h.1.1.0).0 tt
body_fits (Terms.compound c (Terms.more a (Terms.more b (Terms.more d ts)))) h = tt

asked_fits : (t : Term) → Narrow t → PartsFit (asked_of t)
asked_fits (Terms.variable q k) h = tt
asked_fits (Terms.number z) h = tt
asked_fits (Terms.compound c Terms.none) h = tt
asked_fits (Terms.compound c (Terms.more b Terms.none)) h = (reading_fits b h.1.0).0
asked_fits (Terms.compound c (Terms.more a (Terms.more b ts))) h = tt

mutual
  items_fit : (name : ℕ → ℕ) (c d : ℕ) (ps : Parts) → PartsFit ps → All IsCall (calls_in_items (numbered name c d ps))
  items_fit name c d no_parts h = All-nil IsCall
  items_fit name c d (item (call g) ps) h = All-cons IsCall g (calls_in_items (numbered name c d ps)) h.0 (items_fit name c d ps h.1)
  items_fit name c d (item (equal a b) ps) h = items_fit name c d ps h.1
  items_fit name c d (item (arithmetic a) ps) h = items_fit name c d ps h.1
  items_fit name c d (item fail ps) h = items_fit name c d ps h.1
  items_fit name c d (impure ps) h = items_fit name c d ps h
  items_fit name c d (Clauses.either cs ps) h =
      let m : ℕ = c + alternatives_in cs in
      let e : ℕ = suc (d + disjunctions_within cs) in
      All-append IsCall (calls_in_alternatives (numbered_in name c (suc d) cs)) (calls_in_items (numbered name m e ps))
      (choices_fit name c (suc d) cs h.0) (items_fit name m e ps h.1)

  choices_fit : (name : ℕ → ℕ) (c d : ℕ) (cs : Choices) → ChoicesFit cs → All IsCall (calls_in_alternatives (numbered_in name c d cs))
  choices_fit name c d no_choices h = All-nil IsCall
  choices_fit name c d (choice ps cs) h =
      let m : ℕ = suc (c + alternatives_of ps) in
      let e : ℕ = d + disjunctions_of ps in
      All-append IsCall (calls_in_items (numbered name (suc c) d ps)) (calls_in_alternatives (numbered_in name m e cs))
      (items_fit name (suc c) d ps h.0) (choices_fit name m e cs h.1)

-- ---- Those of a table.
abbrev AskedFit : Option SourceClause → Type 0
AskedFit None = Unit {0}
AskedFit (Some q) = All IsCall (calls_in_items q.body)

pub record TableFits (T : Table) : Type 0 where
  pub earlier : CallsFit T.earlier
  pub asked : AskedFit T.asked
  pub later : CallsFit T.later

fit_more : (ks : List SourceClause) (k : SourceClause) → CallsFit ks → All IsCall (calls_in_items k.body) → CallsFit (ks ++ k ∷ [])
fit_more [] k f a = (a, tt)
fit_more (j ∷ ks) k f a = (f.0, fit_more ks k f.1 a)

abbrev table_by : Option SourceClause → Table → Table
table_by asked T = record T { asked = asked }

clause_fits : (T : Table) (w : Written) (line : ℕ) → TableFits T → Narrow (term_with T w) → TableFits (with_clause T w line)
clause_fits T w line f h = by T.asked f.asked
  where
    by : (a : Option SourceClause) → AskedFit a → TableFits (with_clause (table_by a T) w line)
    by None x = record {
      earlier = fit_more T.earlier _ f.earlier (items_fit _ _ _ (body_of (term_with T w)) (body_fits (term_with T w) h));
      asked = tt;
      later = f.later;
    }
    by (Some q) x = record {
      earlier = f.earlier;
      asked = x;
      later = fit_more T.later _ f.later (items_fit _ _ _ (body_of (term_with T w)) (body_fits (term_with T w) h));
    }

pub query_fits : (T : Table) (d : ClauseDraft) (line : ℕ) → TableFits T → TableFits (with_query T (term_of d) line)
query_fits T d line f = record {
  earlier = f.earlier;
  asked = items_fit _ _ _ (asked_of (term_with T (term_of d))) (asked_fits (term_with T (term_of d)) (draft_narrow _ d));
  later = f.later;
}

added_fits : (T : Table) (a : Added) → TableFits T → TableFits (with_added T a)
added_fits T (ClauseAdded d) f = clause_fits T (term_of d.value) d.value.line f (draft_narrow _ d.value)
added_fits T (QueryAdded d) f = query_fits T d.value d.value.line f

pub all_fit : (T : Table) (xs : List Added) → TableFits T → TableFits (with_all T xs)
all_fit T [] f = f
all_fit T (a ∷ xs) f = all_fit (with_added T a) xs (added_fits T a f)

pub empty_fits : TableFits empty
empty_fits = record { earlier = tt; asked = tt; later = tt }

-- the calls of a table that has a query
pub called_narrow : (T : Table) (q : SourceClause) → TableFits T → T.asked ≡ Some q → AreCalls (called_of T)
called_narrow T q f e =
    let asked : All IsCall (calls_in_items q.body) = subst AskedFit e f.asked in
    subst (λ a. AreCalls ((calls_of T.earlier ++ asked_calls a) ++ calls_of T.later)) (sym e)
    (calls_append (calls_of T.earlier ++ asked_calls (Some q)) (calls_of T.later)
    (calls_append (calls_of T.earlier) (asked_calls (Some q)) (all_narrow T.earlier f.earlier) (calls_narrow q.line (calls_in_items q.body) asked))
    (all_narrow T.later f.later))

-- and the first of them without a clause
pub first_of_table : (names : List Bytes) (cs : List Clause) (T : Table) (q : SourceClause) → TableFits T → T.asked ≡ Some q
    → option_map (unknown_at names) (first_called cs (called_of T)) ≡ unknown_in names cs (T.earlier ++ q ∷ T.later)
first_of_table names cs T q f e =
    let asked : All IsCall (calls_in_items q.body) = subst AskedFit e f.asked in
    let first : List Called → Option Unknown = λ ks. option_map (unknown_at names) (first_called cs ks) in
    ap (λ a. first ((calls_of T.earlier ++ asked_calls a) ++ calls_of T.later)) e
    ∙ ap first (append_assoc (calls_of T.earlier) (asked_calls (Some q)) (calls_of T.later))
    ∙ first_of_text names cs T.earlier (q ∷ T.later) (asked_calls (Some q) ++ calls_of T.later) f.earlier
    (ap (λ ks. first (ks ++ calls_of T.later)) (sym (append-nil (asked_calls (Some q))))
    ∙ first_of_text names cs (q ∷ []) T.later (calls_of T.later) (asked, tt)
    (ap first (sym (append-nil (calls_of T.later)))
    ∙ first_of_text names cs T.later [] [] f.later refl ∙ ap (unknown_in names cs) (append-nil T.later)))
