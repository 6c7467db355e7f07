-- Pairs that are met plainly, one after the other: what is kept, and what they come to.
use Rattle.std.proofs.Common.{ℕ, zero, suc, ◌+◌, ◌≡◌, ◌<◌, ◌≤◌, ◌⊎◌, List, [], ◌∷◌, ◌++◌, length, drop, slice_get, Option, Some, None, refl, sym, ap, subst}
use Rattle.std.proofs.Common.{◌∙◌, inl, inr, arith}
use Rattle.std.specs.Prelude.{Contains}
use Rattle.std.proofs.lemmas.Option.{get_or_from_slice_get, slice_get_within}
use Rattle.std.proofs.lemmas.List.{drop_all}
use Rattle.std.proofs.lemmas.List.Elements.{All-contains, All-contains_itself, All-weaker, Contains-get_or, Contains-append_cases, Contains-append_left}
use Rattle.std.proofs.lemmas.List.Elements.{Contains-append_right}
use Rattle.and_model.specs.declared.reference.Ref.{Ref}
use Rattle.and_program.specs.Skeletons.{AllFall}
use Rattle.and_cells.specs.Ranges.{NamedProgram, IsInRange}
use Rattle.and_cells.specs.Seen.{Seen, OnlyReads, IsWrittenIfNumber}
use Rattle.and_cells.specs.Parts.{IsStructure, parts_of}
use Rattle.and_cells.proofs.Chains.{reads_more}
use Rattle.and_laws.proofs.Ordered.{contains_first, contains_more, contains_cases}
use Rattle.and_unify.specs.declared.pairs.Pair.{Pair}
use Rattle.and_unify.specs.declared.descending.Plainly.{Plainly}
use Rattle.and_unify.specs.declared.descending.Plainly.TheVariants.{Done, Onward, Apart, Memory}
use Rattle.and_unify.specs.Pairs.{AreInRange, AreWritten}
use Rattle.and_unify.specs.Meeting.{AreOfOneShape}
use Rattle.and_unify.specs.Turns.{Steps, alike, sets, one_class, joins, pairs_of}
use Rattle.and_unify.specs.Running.{AreSame, Runs, start, looked, sorted, stepped, arguments_of_both, MeetsPlainly, ComesTo}
use Rattle.and_unify.proofs.MeetingSteps.{lead_here, alike_on, free_on, structures_on, apart_on}
use Rattle.and_unify.proofs.TurnParts.{part_in_range, part_written, parts_counted, sides_of_pairs}
use Rattle.and_unify.proofs.TurnClosed.{Leaves, steps_keep}
use Rattle.and_unify.proofs.TurnPlaces.{IsFit, fit_later, fits_steps}
use Rattle.and_unify.proofs.TurnKept.{kept_same}
use Rattle.and_unify.proofs.TurnStands.{last_cases, last_was, rest_was, step_list}
use Rattle.and_unify.proofs.DescentKept.{Held, IsOutOr, plainly_joins, held_begun, held_steps, held_stopped}

-- Two lists that are joined are joined the other way round,
swapped : (ps qs : List Pair) (p : Pair) → Contains (ps ++ qs) p → Contains (qs ++ ps) p
swapped ps qs p at = elim (Contains-append_cases ps qs p at) [ inl one ↦ Contains-append_right qs ps p one | inr other ↦ Contains-append_left qs ps p other ]

pub same_swapped : (ps qs : List Pair) → AreSame (ps ++ qs) (qs ++ ps)
same_swapped ps qs p = (swapped ps qs p, swapped qs ps p)

-- a list that is put behind two others stands between them,
pub same_between : (ds ws zs : List Pair) → AreSame ((ds ++ ws) ++ zs) (ds ++ (zs ++ ws))
same_between ds ws zs p = (to, from)
  where
    to : Contains ((ds ++ ws) ++ zs) p → Contains (ds ++ (zs ++ ws)) p
    to at = elim (Contains-append_cases (ds ++ ws) zs p at) [
      | inl front ↦ elim (Contains-append_cases ds ws p front) [
        | inl one ↦ Contains-append_left ds (zs ++ ws) p one
        | inr other ↦ Contains-append_right ds (zs ++ ws) p (Contains-append_right zs ws p other)
      ]
      | inr behind ↦ Contains-append_right ds (zs ++ ws) p (Contains-append_left zs ws p behind)
    ]

    from : Contains (ds ++ (zs ++ ws)) p → Contains ((ds ++ ws) ++ zs) p
    from at = elim (Contains-append_cases ds (zs ++ ws) p at) [
      | inl front ↦ Contains-append_left (ds ++ ws) zs p (Contains-append_left ds ws p front)
      | inr behind ↦ elim (Contains-append_cases zs ws p behind) [
        | inl one ↦ Contains-append_right (ds ++ ws) zs p one
        | inr other ↦ Contains-append_left (ds ++ ws) zs p (Contains-append_right ds ws p other)
      ]
    ]

-- the first of a list is put behind it,
pub same_behind : (p : Pair) (ds ws list : List Pair) → AreSame (p ∷ (ds ++ (ws ++ list))) (ds ++ (ws ++ (list ++ p ∷ [])))
same_behind p ds ws list q = (to, from)
  where
    longer : List Pair
    longer = list ++ p ∷ []

    to : Contains (p ∷ (ds ++ (ws ++ list))) q → Contains (ds ++ (ws ++ longer)) q
    to at = elim (contains_cases p q (ds ++ (ws ++ list)) at) [
      | inl is ↦ Contains-append_right ds (ws ++ longer) q (Contains-append_right ws longer q
          (Contains-append_right list (p ∷ []) q (subst (Contains (p ∷ [])) (sym is) (contains_first p []))))
      | inr among ↦ elim (Contains-append_cases ds (ws ++ list) q among) [
        | inl one ↦ Contains-append_left ds (ws ++ longer) q one
        | inr other ↦ elim (Contains-append_cases ws list q other) [
          | inl waits ↦ Contains-append_right ds (ws ++ longer) q (Contains-append_left ws longer q waits)
          | inr listed ↦ Contains-append_right ds (ws ++ longer) q (Contains-append_right ws longer q (Contains-append_left list (p ∷ []) q listed))
        ]
      ]
    ]

    from : Contains (ds ++ (ws ++ longer)) q → Contains (p ∷ (ds ++ (ws ++ list))) q
    from at = elim (Contains-append_cases ds (ws ++ longer) q at) [
      | inl one ↦ contains_more p q (ds ++ (ws ++ list)) (Contains-append_left ds (ws ++ list) q one)
      | inr other ↦ elim (Contains-append_cases ws longer q other) [
        | inl waits ↦ contains_more p q (ds ++ (ws ++ list)) (Contains-append_right ds (ws ++ list) q (Contains-append_left ws list q waits))
        | inr listed ↦ elim (last_cases longer list p q refl listed) [
          | inl is ↦ subst (Contains (p ∷ (ds ++ (ws ++ list)))) (sym is) (contains_first p (ds ++ (ws ++ list)))
          | inr before ↦ contains_more p q (ds ++ (ws ++ list)) (Contains-append_right ds (ws ++ list) q (Contains-append_right ws list q before))
        ]
      ]
    ]

-- and the last of a list is put before it.
pub same_before : (xs rest : List Pair) (p : Pair) → xs ≡ rest ++ p ∷ [] → AreSame xs (p ∷ rest)
same_before xs rest p e q = (to, from)
  where
    to : Contains xs q → Contains (p ∷ rest) q
    to at = elim (last_cases xs rest p q e at) [
      | inl is ↦ subst (Contains (p ∷ rest)) (sym is) (contains_first p rest)
      | inr among ↦ contains_more p q rest among
    ]

    from : Contains (p ∷ rest) q → Contains xs q
    from at = elim (contains_cases p q rest at) [ inl is ↦ subst (Contains xs) (sym is) (last_was xs rest p e) | inr among ↦ rest_was xs rest p q e among ]

-- Runs follow one another.
pub runs_then : (P : NamedProgram) (old mid : Seen) (todo list : List Pair) (bound further : List ℕ) (new : Seen) (left : List Pair) (last : List ℕ)
    → Runs P old todo bound mid list further → Runs P mid list further new left last
    → Runs P old todo bound new left last
runs_then P old mid todo list bound further new left last first start = first
runs_then P old mid todo list bound further new left last first (looked between now kept more runs reads) =
    looked between now kept more (runs_then P old mid todo list bound further between kept more first runs) reads
runs_then P old mid todo list bound further new left last first (sorted now one other more runs same) =
    sorted now one other more (runs_then P old mid todo list bound further now one more first runs) same
runs_then P old mid todo list bound further new left last first (stepped between now p rest kept more most runs step) =
    stepped between now p rest kept more most (runs_then P old mid todo list bound further between (p ∷ rest) more first runs) step

-- No words come to be.
pub runs_words : (P : NamedProgram) (old : Seen) (todo : List Pair) (bound : List ℕ) (new : Seen) (left : List Pair) (last : List ℕ)
    → Runs P old todo bound new left last → new.words ≡ old.words
runs_words P old todo bound new left last start = refl
runs_words P old todo bound new left last (looked mid now kept more runs reads) = reads.words ∙ runs_words P old todo bound mid kept more runs
runs_words P old todo bound new left last (sorted now one other more runs same) = runs_words P old todo bound now one more runs
runs_words P old todo bound new left last (stepped mid now p rest kept more most runs step) =
    let (links, plain) = step [] in
    (steps_keep P p mid now [] links rest kept more most plain).words ∙ runs_words P old todo bound mid (p ∷ rest) more runs

-- all pairs of a list fit
abbrev pub AllFit : NamedProgram → Seen → List Pair → Type 0
AllFit P s list = (p : Pair) → Contains list p → IsFit P s.words s p

-- what was among more is out, or among what is left
out_or : (p : Pair) (rest : List Pair) (q : Pair) → IsOutOr p rest q → Contains (p ∷ rest) q
out_or p rest q (inl is) = subst (Contains (p ∷ rest)) (sym is) (contains_first p rest)
out_or p rest q (inr at) = contains_more p q rest at

-- What is left fits.
pub runs_fit : (P : NamedProgram) (old : Seen) (todo : List Pair) (bound : List ℕ) (new : Seen) (left : List Pair) (last : List ℕ) → AllFall 0 P.skeleton.nodes
    → Runs P old todo bound new left last → AllFit P old todo → AllFit P new left
runs_fit P old todo bound new left last fall start fit = fit
runs_fit P old todo bound new left last fall (looked mid now kept more runs reads) fit = λ q at.
    subst (λ n. IsFit P n now q) (sym reads.words) (fit_later P mid.words mid now q reads.keeps (runs_fit P old todo bound mid kept more fall runs fit q at))
runs_fit P old todo bound new left last fall (sorted now one other more runs same) fit =
    λ q at. runs_fit P old todo bound now one more fall runs fit q ((same q).1 at)
runs_fit P old todo bound new left last fall (stepped mid now p rest kept more most runs step) fit = λ q at.
    let (links, plain) = step [] in
    let before = runs_fit P old todo bound mid (p ∷ rest) more fall runs fit in
    let leaves : Leaves p rest kept (IsOutOr p rest) (Contains kept) = record {
      was = inl refl;
      list_was = λ x listed. inr listed;
      keeps = λ x todo. elim todo [ inl is ↦ inl is | inr among ↦ inr (step_list P p mid now [] links rest kept more most plain x among) ];
      takes = λ x listed. listed;
      comes = λ x later. inr later;
    } in
    subst (λ n. IsFit P n now q) (sym (steps_keep P p mid now [] links rest kept more most plain).words)
    (fits_steps P p mid now [] links rest kept more most (IsOutOr p rest) (Contains kept) mid.words fall refl leaves plain
    (λ x out. before x (out_or p rest x out)) q at)

-- What is kept over some pairs is kept over the same.
held_same : (P : NamedProgram) (first : Seen) (asked : List Pair) (began : List ℕ) (s : Seen) (bound : List ℕ) (Todo Later : Pair → Type 0)
    → ((q : Pair) → Todo q → Later q) → ((q : Pair) → Later q → Todo q) → Held P first asked began s Todo bound → Held P first asked began s Later bound
held_same P first asked began s bound Todo Later to from h = record {
  links = h.links;
  kept = kept_same P first asked began s h.links Todo Later bound to from h.kept;
  lefts = λ q later. h.lefts q (from q later);
}

-- one of some pairs is out,
pub held_first : (P : NamedProgram) (first : Seen) (asked : List Pair) (began : List ℕ) (s : Seen) (bound : List ℕ) (p : Pair) (rest : List Pair)
    → Held P first asked began s (Contains (p ∷ rest)) bound → Held P first asked began s (IsOutOr p rest) bound
held_first P first asked began s bound p rest h =
    held_same P first asked began s bound (Contains (p ∷ rest)) (IsOutOr p rest) (λ q at. contains_cases p q rest at) (λ q out. out_or p rest q out) h

-- and pairs are met.
pub held_runs : (P : NamedProgram) (first : Seen) (asked : List Pair) (began : List ℕ) (old : Seen) (todo : List Pair) (bound : List ℕ) (new : Seen)
    (left : List Pair) (last : List ℕ) → AllFall 0 P.skeleton.nodes
    → Runs P old todo bound new left last → Held P first asked began old (Contains todo) bound → Held P first asked began new (Contains left) last
held_runs P first asked began old todo bound new left last fall start h = h
held_runs P first asked began old todo bound new left last fall (looked mid now kept more runs reads) h =
    held_stopped P first asked began mid now more more (Contains kept) (reads, refl) (held_runs P first asked began old todo bound mid kept more fall runs h)
held_runs P first asked began old todo bound new left last fall (sorted now one other more runs same) h =
    held_same P first asked began now more (Contains one) (Contains other) (λ q. (same q).0) (λ q. (same q).1)
    (held_runs P first asked began old todo bound now one more fall runs h)
held_runs P first asked began old todo bound new left last fall (stepped mid now p rest kept more most runs step) h =
    held_steps P first asked began mid now more most rest kept p fall step
    (held_first P first asked began mid more p rest (held_runs P first asked began old todo bound mid (p ∷ rest) more fall runs h))

-- What runs come to, if then this comes.
pub comes_after : (P : NamedProgram) (old mid new : Seen) (todo list left : List Pair) (bound further last : List ℕ) (r : Plainly)
    → Runs P old todo bound mid list further
    → ComesTo P mid new list left further last r → ComesTo P old new todo left bound last r
comes_after P old mid new todo list left bound further last Done first comes = runs_then P old mid todo list bound further new left last first comes
comes_after P old mid new todo list left bound further last (Onward both) first comes =
    (comes.0, runs_then P old mid todo list bound further new (arguments_of_both P both ++ left) last first comes.1)
comes_after P old mid new todo list left bound further last (Apart one other) first comes = record {
  p = comes.p;
  rest = comes.rest;
  mid = comes.mid;
  runs = runs_then P old mid todo list bound further comes.mid (comes.p ∷ comes.rest) last first comes.runs;
  meets = comes.meets;
}
comes_after P old mid new todo list left bound further last Memory first comes =
    (comes.0, runs_then P old mid todo list bound further new comes.0 last first comes.1)

-- What comes of the first of the pairs that are to do.
pub comes_of_first : (P : NamedProgram) (old mid new : Seen) (todo rest : List Pair) (bound further last : List ℕ) (p : Pair) (r : Plainly)
    → Runs P old todo bound mid (p ∷ rest) further
    → MeetsPlainly P p mid new further last r → ComesTo P old new todo rest bound last r
comes_of_first P old mid new todo rest bound further last p Done runs meets = stepped mid new p rest rest further last runs (meets rest)
comes_of_first P old mid new todo rest bound further last p (Onward both) runs meets =
    let longer : List Pair = rest ++ arguments_of_both P both in (
      subst (λ n. AreOfOneShape P n both.left both.right) (sym meets.0.lead.reads.words) meets.0.shape,
      sorted new longer (arguments_of_both P both ++ rest) last
          (stepped mid new p rest longer further last runs
          (plainly_joins P P p both.left both.right mid new rest longer further last refl meets.0 meets.1 refl))
          (same_swapped rest (arguments_of_both P both)),
    )
comes_of_first P old mid new todo rest bound further last p (Apart one other) runs meets = record {
  p = p;
  rest = rest;
  mid = mid;
  runs = subst (Runs P old todo bound mid (p ∷ rest)) (sym meets.1) runs;
  meets = meets.0;
}
comes_of_first P old mid new todo rest bound further last p Memory runs meets =
    (p ∷ rest, looked mid new (p ∷ rest) last (subst (Runs P old todo bound mid (p ∷ rest)) (sym meets.1) runs) meets.0)

-- A step behind looks is a step.
steps_after : (P : NamedProgram) (p : Pair) (old mid new : Seen) (links more_links : List (Ref × Ref)) (list longer : List Pair) (bound further : List ℕ)
    → OnlyReads old mid
    → Steps P p mid new links more_links list longer bound further → Steps P p old new links more_links list longer bound further
steps_after P p old mid new links more_links list longer bound further reads (alike met a b c) =
    alike (alike_on P p.left p.right p.left p.right old mid new (lead_here p.left p.right old mid reads) met) a b c
steps_after P p old mid new links more_links list longer bound further reads (sets cell met a b c) =
    sets cell (free_on P p.left p.right p.left p.right cell old mid new (lead_here p.left p.right old mid reads) met) a b c
steps_after P p old mid new links more_links list longer bound further reads (one_class one other met class a b c) =
    one_class one other (structures_on P p.left p.right p.left p.right one other old mid new (lead_here p.left p.right old mid reads) met) class a b c
steps_after P p old mid new links more_links list longer bound further reads (joins one other met joined a b) =
    joins one other (structures_on P p.left p.right p.left p.right one other old mid new (lead_here p.left p.right old mid reads) met) joined a b

-- So is what a pair comes to.
pub meets_after : (P : NamedProgram) (p : Pair) (old mid new : Seen) (bound further last : List ℕ) (r : Plainly) → OnlyReads old mid × (further ≡ bound)
    → MeetsPlainly P p mid new further last r
    → MeetsPlainly P p old new bound last r
meets_after P p old mid new bound further last Done looks meets = λ list links.
    let (more, step) = meets list links in
    (more, steps_after P p old mid new links more list list bound last looks.0 (subst (λ b. Steps P p mid new links more list list b last) looks.1 step))
meets_after P p old mid new bound further last (Onward both) looks meets =
    (structures_on P p.left p.right p.left p.right both.left both.right old mid new (lead_here p.left p.right old mid looks.0) meets.0, meets.1 ∙ looks.1)
meets_after P p old mid new bound further last (Apart one other) looks meets =
    (apart_on P p.left p.right p.left p.right one other old mid new (lead_here p.left p.right old mid looks.0) meets.0, meets.1 ∙ looks.1)
meets_after P p old mid new bound further last Memory looks meets = (reads_more old mid new looks.0 meets.0, meets.1 ∙ looks.1)

-- All pairs fit that are in range and written, and the converse.
pub fit_from : (P : NamedProgram) (s : Seen) (list : List Pair) → AreInRange P s.words list → AreWritten s list → AllFit P s list
fit_from P s list range written p at =
    let within = All-contains (λ (p : Pair). IsInRange P s.words p.left × IsInRange P s.words p.right) list p range at in
    let known = All-contains (λ (p : Pair). IsWrittenIfNumber s p.left × IsWrittenIfNumber s p.right) list p written at in
    record { left_in_range = within.0; right_in_range = within.1; left_written = known.0; right_written = known.1 }

pub range_of_fit : (P : NamedProgram) (s : Seen) (list : List Pair) → AllFit P s list → AreInRange P s.words list
range_of_fit P s list fit = All-weaker (Contains list) (λ (p : Pair). IsInRange P s.words p.left × IsInRange P s.words p.right)
    (λ p at. ((fit p at).left_in_range, (fit p at).right_in_range)) list (All-contains_itself list)

pub written_of_fit : (P : NamedProgram) (s : Seen) (list : List Pair) → AllFit P s list → AreWritten s list
written_of_fit P s list fit = All-weaker (Contains list) (λ (p : Pair). IsWrittenIfNumber s p.left × IsWrittenIfNumber s p.right)
    (λ p at. ((fit p at).left_written, (fit p at).right_written)) list (All-contains_itself list)

-- The pairs of the arguments of structures of one shape fit.
pub arguments_fit : (P : NamedProgram) (s : Seen) (both : Pair) → AllFall 0 P.skeleton.nodes → AreOfOneShape P s.words both.left both.right
    → AllFit P s (arguments_of_both P both)
arguments_fit P s both fall shape p at =
    let (left, right) = sides_of_pairs (parts_of P both.left) (parts_of P both.right) p at in record {
      left_in_range = part_in_range P s.words both.left p.left fall shape.left_in_range left;
      right_in_range = part_in_range P s.words both.right p.right fall shape.right_in_range right;
      left_written = part_written P s both.left p.left left;
      right_written = part_written P s both.right p.right right;
    }

-- Two lists fit together.
pub fit_join : (P : NamedProgram) (s : Seen) (ps qs : List Pair) → AllFit P s ps → AllFit P s qs → AllFit P s (ps ++ qs)
fit_join P s ps qs one other p at = elim (Contains-append_cases ps qs p at) [ inl front ↦ one p front | inr behind ↦ other p behind ]

-- Of what fits, some fits.
pub fit_behind : (P : NamedProgram) (s : Seen) (ps qs : List Pair) → AllFit P s (ps ++ qs) → AllFit P s qs
fit_behind P s ps qs fit p at = fit p (Contains-append_right ps qs p at)

-- the arguments of the structures that are gone on with, if there are any
abbrev pub waits : NamedProgram → Option Pair → List Pair
waits P None = []
waits P (Some both) = arguments_of_both P both

-- these structures are of one shape, if there are any
abbrev pub HasShape : NamedProgram → (words : ℕ) → Option Pair → Type 0
HasShape P words None = Unit {0}
HasShape P words (Some both) = AreOfOneShape P words both.left both.right

-- An element of a list is among its elements.
contains_at : (rs : List Ref) (k : ℕ) (r : Ref) → slice_get rs k ≡ Some r → Contains rs r
contains_at rs k r is = subst (Contains rs) (get_or_from_slice_get rs k r r is) (Contains-get_or rs k r (slice_get_within rs k r is))

-- The pair of two arguments fits.
argument_fits : (P : NamedProgram) (s : Seen) (both pair : Pair) (k : ℕ) → AllFall 0 P.skeleton.nodes → AreOfOneShape P s.words both.left both.right
    → slice_get (parts_of P both.left) k ≡ Some pair.left → slice_get (parts_of P both.right) k ≡ Some pair.right → IsFit P s.words s pair
argument_fits P s both pair k fall shape left right =
    let one : Contains (parts_of P both.left) pair.left = contains_at (parts_of P both.left) k pair.left left in
    let other : Contains (parts_of P both.right) pair.right = contains_at (parts_of P both.right) k pair.right right in record {
      left_in_range = part_in_range P s.words both.left pair.left fall shape.left_in_range one;
      right_in_range = part_in_range P s.words both.right pair.right fall shape.right_in_range other;
      left_written = part_written P s both.left pair.left one;
      right_written = part_written P s both.right pair.right other;
    }

-- What is left of pairs begins with the one at this place.
drop_pair : (rs qs : List Ref) (k : ℕ) (p : Pair) → slice_get rs k ≡ Some p.left → slice_get qs k ≡ Some p.right
    → drop k (pairs_of rs qs) ≡ p ∷ drop (suc k) (pairs_of rs qs)
drop_pair [] qs k p left right = let below : k < 0 = slice_get_within [] k p.left left in absurd (omega arith)
drop_pair (r ∷ rs) [] k p left right = let below : k < 0 = slice_get_within [] k p.right right in absurd (omega arith)
drop_pair (r ∷ rs) (q ∷ qs) zero p left right =
    let one : r ≡ p.left = cc in
    let other : q ≡ p.right = cc in
    ap (λ (x : Ref). record { left = x; right = q } ∷ pairs_of rs qs) one ∙ ap (λ (y : Ref). record { left = p.left; right = y } ∷ pairs_of rs qs) other
drop_pair (r ∷ rs) (q ∷ qs) (suc k) p left right = drop_pair rs qs k p left right

pairs_short : (rs qs : List Ref) → length (pairs_of rs qs) ≤ length rs
pairs_short [] qs = omega arith
pairs_short (r ∷ rs) [] = omega arith
pairs_short (r ∷ rs) (q ∷ qs) = let rest = pairs_short rs qs in omega arith

-- At a place, the pair of the arguments there is the first of those that are to do,
first_argument : (P : NamedProgram) (old s : Seen) (todo behind : List Pair) (bound further : List ℕ) (both pair : Pair) (k : ℕ)
    → slice_get (parts_of P both.left) k ≡ Some pair.left → slice_get (parts_of P both.right) k ≡ Some pair.right
    → Runs P old todo bound s (drop k (arguments_of_both P both) ++ behind) further
    → Runs P old todo bound s (pair ∷ (drop (k + 1) (arguments_of_both P both) ++ behind)) further
first_argument P old s todo behind bound further both pair k left right runs =
    let all = arguments_of_both P both in
    let later : suc k ≡ k + 1 = omega arith in
    let is : drop k all ≡ pair ∷ drop (k + 1) all = drop_pair (parts_of P both.left) (parts_of P both.right) k pair left right
    ∙ ap (λ n. pair ∷ drop n all) later in
    subst (λ l. Runs P old todo bound s (l ++ behind) further) is runs

-- and at the end only what waits is left.
pub last_argument : (P : NamedProgram) (old s : Seen) (todo behind : List Pair) (bound further : List ℕ) (both : Pair) (name count k : ℕ)
    → IsStructure P both.left name count → count ≤ k → Runs P old todo bound s (drop k (arguments_of_both P both) ++ behind) further
    → Runs P old todo bound s behind further
last_argument P old s todo behind bound further both name count k structure past runs =
    let counted : length (parts_of P both.left) ≡ count = parts_counted P both.left name count structure in
    let short = pairs_short (parts_of P both.left) (parts_of P both.right) in
    let is : drop k (arguments_of_both P both) ≡ [] = drop_all k (arguments_of_both P both) (omega arith) in
    subst (λ l. Runs P old todo bound s (l ++ behind) further) is runs

-- A turn: a pair fits, and is the first of those that are to do.
pub record PairTurn (P : NamedProgram) (old s : Seen) (todo rest : List Pair) (bound further : List ℕ) (pair : Pair) : Type 0 where
  pub words : s.words ≡ old.words
  pub fit : IsFit P s.words s pair
  pub runs : Runs P old todo bound s (pair ∷ rest) further

-- So it is with the first of the pairs that are left of those that were asked for,
pub asked_turn : (P : NamedProgram) (old s : Seen) (todo rest : List Pair) (bound further : List ℕ) (pair : Pair) → AllFall 0 P.skeleton.nodes
    → AreInRange P old.words todo → AreWritten old todo → Runs P old todo bound s (pair ∷ rest) further → PairTurn P old s todo rest bound further pair
asked_turn P old s todo rest bound further pair fall range written runs = record {
  words = runs_words P old todo bound s (pair ∷ rest) further runs;
  fit = runs_fit P old todo bound s (pair ∷ rest) further fall runs (fit_from P old todo range written) pair (contains_first pair rest);
  runs = runs;
}

-- with the last of a list of them,
pub listed_turn : (P : NamedProgram) (old s : Seen) (todo list rest : List Pair) (bound further : List ℕ) (pair : Pair) → AllFall 0 P.skeleton.nodes
    → AreInRange P old.words todo → AreWritten old todo → list ≡ rest ++ pair ∷ [] → Runs P old todo bound s list further
    → PairTurn P old s todo rest bound further pair
listed_turn P old s todo list rest bound further pair fall range written last runs =
    asked_turn P old s todo rest bound further pair fall range written (sorted s list (pair ∷ rest) further runs (same_before list rest pair last))

-- and with the arguments of two structures.
pub argument_turn : (P Q : NamedProgram) (old s : Seen) (todo behind : List Pair) (bound further : List ℕ) (both pair : Pair) (one other : Ref) (k : ℕ)
    → P ≡ Q → AllFall 0 P.skeleton.nodes → AreOfOneShape P old.words both.left both.right → both.left ≡ one → both.right ≡ other
    → slice_get (parts_of Q one) k ≡ Some pair.left → slice_get (parts_of Q other) k ≡ Some pair.right
    → Runs P old todo bound s (drop k (arguments_of_both P both) ++ behind) further
    → PairTurn P old s todo (drop (k + 1) (arguments_of_both P both) ++ behind) bound further pair
argument_turn P Q old s todo behind bound further both pair one other k same fall shape is_one is_other first second runs =
    let words = runs_words P old todo bound s (drop k (arguments_of_both P both) ++ behind) further runs in
    let left : slice_get (parts_of P both.left) k ≡ Some pair.left =
    subst (λ (p : NamedProgram). slice_get (parts_of p both.left) k ≡ Some pair.left) (sym same)
    (subst (λ r. slice_get (parts_of Q r) k ≡ Some pair.left) (sym is_one) first) in
    let right : slice_get (parts_of P both.right) k ≡ Some pair.right =
    subst (λ (p : NamedProgram). slice_get (parts_of p both.right) k ≡ Some pair.right) (sym same)
    (subst (λ r. slice_get (parts_of Q r) k ≡ Some pair.right) (sym is_other) second) in
    record {
      words = words;
      fit = argument_fits P s both pair k fall (subst (λ n. AreOfOneShape P n both.left both.right) (sym words) shape) left right;
      runs = first_argument P old s todo behind bound further both pair k left right runs;
    }

-- The first structures that arguments lead to are gone on with, and of later ones the pair is put on the list.
pub put_by_runs : (P : NamedProgram) (old mid new : Seen) (todo ds list longer : List Pair) (bound further last : List ℕ) (p both kept : Pair)
    (next : Option Pair)
    → Runs P old todo bound mid (p ∷ (ds ++ (waits P next ++ list))) further → MeetsPlainly P p mid new further last (Onward both)
    → ((next ≡ None) × (kept ≡ both) × (longer ≡ list)) ⊎ ((next ≡ Some kept) × (longer ≡ list ++ p ∷ []))
    → Runs P old todo bound new (ds ++ (waits P (Some kept) ++ longer)) last
put_by_runs P old mid new todo ds list longer bound further last p both kept next runs meets (inl first) =
    let all = arguments_of_both P both in
    let alone : Runs P old todo bound mid (p ∷ (ds ++ list)) further =
    subst (λ n. Runs P old todo bound mid (p ∷ (ds ++ (waits P n ++ list))) further) first.0 runs in
    let step = plainly_joins P P p both.left both.right mid new (ds ++ list) ((ds ++ list) ++ all) further last refl meets.0 meets.1 refl in
    subst (λ l. Runs P old todo bound new (ds ++ (waits P (Some kept) ++ l)) last) (sym first.2)
    (subst (λ b. Runs P old todo bound new (ds ++ (waits P (Some b) ++ list)) last) (sym first.1)
    (sorted new ((ds ++ list) ++ all) (ds ++ (all ++ list)) last (stepped mid new p (ds ++ list) ((ds ++ list) ++ all) further last alone step)
    (same_between ds list all)))
put_by_runs P old mid new todo ds list longer bound further last p both kept next runs meets (inr later) =
    let read = looked mid new (p ∷ (ds ++ (waits P next ++ list))) last
    (subst (Runs P old todo bound mid (p ∷ (ds ++ (waits P next ++ list)))) (sym meets.1) runs) meets.0.lead.reads in
    subst (λ l. Runs P old todo bound new (ds ++ (waits P (Some kept) ++ l)) last) (sym later.1)
    (subst (λ n. Runs P old todo bound new (ds ++ (waits P n ++ (list ++ p ∷ []))) last) later.0
    (sorted new (p ∷ (ds ++ (waits P next ++ list))) (ds ++ (waits P next ++ (list ++ p ∷ []))) last read (same_behind p ds (waits P next) list)))

-- What is gone on with has a shape.
pub put_by_shape : (P : NamedProgram) (words : ℕ) (both kept : Pair) (next : Option Pair) (A B : Type 0) → HasShape P words next
    → AreOfOneShape P words both.left both.right
    → ((next ≡ None) × (kept ≡ both) × A) ⊎ ((next ≡ Some kept) × B) → HasShape P words (Some kept)
put_by_shape P words both kept next A B shape own (inl first) = subst (λ b. HasShape P words (Some b)) (sym first.1) own
put_by_shape P words both kept next A B shape own (inr later) = subst (HasShape P words) later.0 shape

-- What arguments come to at the end.
pub comes_onward : (P : NamedProgram) (old new : Seen) (todo list : List Pair) (bound last : List ℕ) (next : Option Pair) (r : Plainly)
    → HasShape P new.words next
    → Runs P old todo bound new (waits P next ++ list) last → ((both : Pair) → next ≡ Some both → r ≡ Onward both) → (next ≡ None → r ≡ Done)
    → ComesTo P old new todo list bound last r
comes_onward P old new todo list bound last None r shape runs some none = subst (ComesTo P old new todo list bound last) (sym (none refl)) runs
comes_onward P old new todo list bound last (Some both) r shape runs some none =
    subst (ComesTo P old new todo list bound last) (sym (some both refl)) (shape, runs)

-- What is kept, where pairs were asked for.
pub held_asked : (P : NamedProgram) (old : Seen) (asked : List Pair) (began : List ℕ) (new : Seen) (left : List Pair) (last : List ℕ)
    → AllFall 0 P.skeleton.nodes → AreInRange P old.words asked
    → AreWritten old asked → Runs P old asked began new left last → Held P old asked began new (Contains left) last
held_asked P old asked began new left last fall range written runs =
    held_runs P old asked began old asked began new left last fall runs (held_begun P old asked began range written)

-- The arguments of the structures that were gone on with are put on the list.
pub held_put : (P : NamedProgram) (first : Seen) (asked : List Pair) (began : List ℕ) (s : Seen) (bound : List ℕ) (list longer : List Pair) (both : Pair)
    (Q : NamedProgram) → P ≡ Q
    → longer ≡ list ++ pairs_of (parts_of Q both.left) (parts_of Q both.right) → Held P first asked began s (Contains (arguments_of_both P both ++ list)) bound
    → Held P first asked began s (Contains longer) bound
held_put P first asked began s bound list longer both Q named gains h =
    let all = arguments_of_both P both in
    let is : longer ≡ list ++ all = gains ∙ ap (λ (p : NamedProgram). list ++ pairs_of (parts_of p both.left) (parts_of p both.right)) (sym named) in
    subst (λ l. Held P first asked began s (Contains l) bound) (sym is)
    (held_same P first asked began s bound (Contains (all ++ list)) (Contains (list ++ all)) (λ q. (same_swapped all list q).0)
    (λ q. (same_swapped all list q).1) h)
