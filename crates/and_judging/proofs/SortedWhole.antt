-- All tokens of a body sorted, and how many alternatives there may be.
use Rattle.std.proofs.Common.{ℕ, zero, suc, ◌+◌, ◌≡◌, ◌<◌, ◌≤◌, List, [], ◌∷◌, ◌++◌, length, get_or, map, drop, reverse, Option, Some, None, Result, OnOk}
use Rattle.std.proofs.Common.{ap, sym, ◌∙◌, arith, subst}
use Rattle.std.proofs.lemmas.List.{append-nil, reverse-append, drop_more, drop_all}
use Rattle.and_model.specs.Terms.{variables_of}
use Rattle.and_model.specs.Stands.{item_term}
use Rattle.and_syntax.specs.Clauses.{Parts, numbered}
use Rattle.and_judging.specs.Marks
use Rattle.and_judging.specs.Marks.{Mark, open_mark, next, close, mark_of, marks_in}
use Rattle.and_judging.specs.Bodies.{marks_at}
use Rattle.and_judging.specs.Sorted as sorted
use Rattle.and_judging.specs.Sorted.{Local, locals_of, locals_size, pieces_of, outlines_of, alter, alter_in, with_variables, with_alternative}
use Rattle.and_judging.specs.Sorted.{variables_in_scope, ended, step, steps, begun}
use Rattle.and_program.specs.Skeletons.{Shape}
use Rattle.and_judging.specs.Sorts.{AreFew, AreNarrow, IsSorted, TokenThere, TokensThere, place_in, sorting_in, locals_in, outlines_in}
use Rattle.and_program.specs.Skeletons.{item_of}
use Rattle.and_program.specs.Items.{node_item}
use Rattle.and_program.specs.declared.item.ItemNode.{ItemNode}
use Rattle.and_judging.specs.Sorted.{with_piece}
use Rattle.and_judging.specs.Sorts.{piece_in}
use Rattle.and_judging.specs.declared.body.BodyToken.TheVariants as tokens
use Rattle.and_judging.specs.declared.sorting.Piece.TheVariants as pieces
use Rattle.and_judging.specs.declared.sorting.Disjunction.{Disjunction}
use Rattle.and_judging.specs.declared.sorting.Outline.{Outline}
use Rattle.and_judging.specs.declared.sorting.Place.{Place}
use Rattle.and_judging.specs.declared.sorting.Sorting.{Sorting}
use Rattle.and_judging.specs.declared.body.BodyToken.{BodyToken}
use Rattle.and_judging.proofs.SortingSteps.{body_steps}

-- What the marks of a body are sorted into.
pub sorted_whole : (name : ℕ → ℕ) (c d : ℕ) (ps : Parts) (s : sorted.Sorting) → s ≡ steps begun (marks_at c d ps)
    → let items = numbered name c d ps in
    (s.locals ≡ locals_of items) × (s.outlines ≡ record { scope = None; pieces = pieces_of 0 items } ∷ outlines_of 0 items)
sorted_whole name c d ps s e =
    let all = e ∙ ap (steps begun) (sym (append-nil (marks_at c d ps)))
    ∙ body_steps name c d ps [] [] (record { scope = None; pieces = [] } ∷ []) 0 None [] tt (omega arith) in
    (ap (λ (t : sorted.Sorting). t.locals) all, ap (λ (t : sorted.Sorting). t.outlines) all)

-- ---- How many alternatives there are.
pub few-more : (n m : ℕ) (ls : List Local) → n ≤ m → AreFew n ls → AreFew m ls
few-more n m [] le a = tt
few-more n m (l ∷ ls) le a = (omega (arith, a.0), few-more n m ls le a.1)

few-append : (n : ℕ) (ls ks : List Local) → AreFew n ls → AreFew n ks → AreFew n (ls ++ ks)
few-append n [] ks a b = b
few-append n (l ∷ ls) ks a b = (a.0, few-append n ls ks a.1 b)

few-alter : (n m : ℕ) (f : Local → Local) (ls : List Local) → n ≤ m → ((l : Local) → l.count ≤ n → (f l).count ≤ m) → (k : ℕ) → AreFew n ls
    → AreFew m (alter k f ls)
few-alter n m f [] le h k a = tt
few-alter n m f (l ∷ ls) le h zero a = (h l a.0, few-more n m ls le a.1)
few-alter n m f (l ∷ ls) le h (suc k) a = (omega (arith, a.0), few-alter n m f ls le h k a.1)

few-alter_in : (n m : ℕ) (f : Local → Local) (ls : List Local) → n ≤ m → ((l : Local) → l.count ≤ n → (f l).count ≤ m) → (s : Option ℕ) → AreFew n ls
    → AreFew m (alter_in s f ls)
few-alter_in n m f ls le h None a = few-more n m ls le a
few-alter_in n m f ls le h (Some k) a = few-alter n m f ls le h k a

-- one alternative more at each mark, if any
pub few_step : (n : ℕ) (s : sorted.Sorting) (m : Mark) → AreFew n s.locals → AreFew (n + 1) (step s m).locals
few_step n s (Marks.item i) a =
    few-alter_in n (n + 1) (with_variables (variables_of (item_term i))) s.locals (omega arith) (λ l h. omega (arith, h)) s.scope a
few_step n s (open_mark d) a =
    few-append (n + 1) s.locals (record { variables = []; count = 0 } ∷ []) (few-more n (n + 1) s.locals (omega arith) a) (omega arith, tt)
few_step n s (next c) a = few-alter_in n (n + 1) with_alternative s.locals (omega arith) (λ l h. omega (arith, h)) s.scope a
few_step n s close a = by s.around
  where
    by : (ar : List (ℕ × Option ℕ)) → AreFew (n + 1) (ended s ar).locals
    by [] = few-more n (n + 1) s.locals (omega arith) a
    by (p ∷ ar) = few-alter_in n (n + 1) (with_variables (variables_in_scope s.locals s.scope)) s.locals (omega arith) (λ l h. omega (arith, h)) p.1 a

pub few_at : (n : ℕ) (ls : List Local) (k : ℕ) (d : Local) → k < length ls → AreFew n ls → (get_or ls k d).count ≤ n
few_at n [] k d lt a = absurd (omega arith)
few_at n (l ∷ ls) zero d lt a = a.0
few_at n (l ∷ ls) (suc k) d lt a = few_at n ls k d (omega arith) a.1

pub narrow_at : (n : ℕ) (ls : List Local) (k : ℕ) (d : Local) → k < length ls → AreNarrow n ls → length (get_or ls k d).variables ≤ n
narrow_at n [] k d lt a = absurd (omega arith)
narrow_at n (l ∷ ls) zero d lt a = a.0
narrow_at n (l ∷ ls) (suc k) d lt a = narrow_at n ls k d (omega arith) a.1

-- ---- The places to go on.
pub one_around : (ps qs : List Place) (p : Place) → qs ≡ ps ++ p ∷ [] → map place_in (reverse qs) ≡ place_in p ∷ map place_in (reverse ps)
one_around ps qs p e = ap (λ xs. map place_in (reverse xs)) e ∙ ap (map place_in) (reverse-append ps (p ∷ []))

pub ended_is : (s : sorted.Sorting) (ar : List (ℕ × Option ℕ)) → s.around ≡ ar → step s close ≡ ended s ar
ended_is s ar e = ap (ended s) e

-- ---- The end of a disjunction.
pub popped_is : (ss : List Shape) (s : Sorting) (rest : List Place) (p : Place) (ls : List Local) → s.around.items ≡ rest ++ p ∷ []
    → ls ≡ alter_in p.scope (with_variables (variables_in_scope (locals_in s.sorted.disjunctions.items) s.here.scope)) (locals_in s.sorted.disjunctions.items)
    → record { locals = ls; outlines = outlines_in ss s.sorted.outlines.items; outline = p.outline; scope = p.scope; around = map place_in (reverse rest) }
    ≡ step (sorting_in ss s) close
popped_is ss s rest p ls e noted =
    let made : List Local → sorted.Sorting =
    λ ks. record {
      locals = ks;
      outlines = outlines_in ss s.sorted.outlines.items;
      outline = p.outline;
      scope = p.scope;
      around = map place_in (reverse rest);
    } in
    ap made noted ∙ sym (ap (ended (sorting_in ss s)) (one_around rest s.around.items p e))

pub none_around : (ss : List Shape) (s : Sorting) (rest : List Place) → s.around.items ≡ [] → rest ≡ []
    → record (sorting_in ss s) { around = map place_in (reverse rest) } ≡ step (sorting_in ss s) close
none_around ss s rest e f =
    let made : List (ℕ × Option ℕ) → sorted.Sorting = λ ar. record (sorting_in ss s) { around = ar } in
    ap (λ xs. made (map place_in (reverse xs))) (f ∙ sym e) ∙ sym (ap (λ xs. ended (sorting_in ss s) (map place_in (reverse xs))) e)

-- ---- A token of a list.
pub token_there : (n : ℕ) (ts : List BodyToken) (i : ℕ) (d : BodyToken) → i < length ts → TokensThere n ts → TokenThere n (get_or ts i d)
token_there n [] i d lt a = absurd (omega arith)
token_there n (t ∷ ts) zero d lt a = a.0
token_there n (t ∷ ts) (suc i) d lt a = token_there n ts i d (omega arith) a.1

-- one token more
pub next_sorted : (ss : List Shape) (ts : List BodyToken) (i : ℕ) (d : BodyToken) (old new whole : sorted.Sorting) → i < length ts
    → new ≡ step old (mark_of ss (get_or ts i d)) → steps old (marks_in ss (drop i ts)) ≡ whole → steps new (marks_in ss (drop (i + 1) ts)) ≡ whole
next_sorted ss ts i d old new whole lt e owed =
    ap (λ s. steps s (marks_in ss (drop (i + 1) ts))) e ∙ sym (ap (λ xs. steps old (marks_in ss xs)) (drop_more ts i d lt)) ∙ owed

pub next_few : (ss : List Shape) (t : BodyToken) (old new : Sorting) (n : ℕ) → sorting_in ss new ≡ step (sorting_in ss old) (mark_of ss t)
    → AreFew n (locals_in old.sorted.disjunctions.items) → AreFew (n + 1) (locals_in new.sorted.disjunctions.items)
next_few ss t old new n e a =
    subst (λ (s : sorted.Sorting). AreFew (n + 1) s.locals) (sym e) (few_step n (sorting_in ss old) (mark_of ss t) a)

-- the end of the tokens
pub all_sorted : (ss : List Shape) (ts : List BodyToken) (i : ℕ) (s : Sorting) (name : ℕ → ℕ) (c d : ℕ) (ps : Parts) → length ts ≤ i
    → steps (sorting_in ss s) (marks_in ss (drop i ts)) ≡ steps begun (marks_in ss ts) → marks_in ss ts ≡ marks_at c d ps
    → IsSorted ss (numbered name c d ps) s.sorted
all_sorted ss ts i s name c d ps le owed is =
    let e : sorting_in ss s ≡ steps begun (marks_at c d ps) =
    sym (ap (λ xs. steps (sorting_in ss s) (marks_in ss xs)) (drop_all i ts le)) ∙ owed ∙ ap (steps begun) is in
    sorted_whole name c d ps (sorting_in ss s) e

-- ---- One token more, arm by arm.
pub item_sorted : (ss : List Shape) (s : Sorting) (i : ItemNode) (t : BodyToken) (ds : List Disjunction) (os : List Outline)
    → t ≡ tokens.Item i
    → locals_in ds ≡ alter_in s.here.scope (with_variables (variables_of (item_term (item_of ss (node_item i))))) (locals_in s.sorted.disjunctions.items)
    → outlines_in ss os ≡ alter s.here.outline (with_piece (piece_in ss (pieces.Item i))) (outlines_in ss s.sorted.outlines.items)
    → record (sorting_in ss s) { locals = locals_in ds; outlines = outlines_in ss os } ≡ step (sorting_in ss s) (mark_of ss t)
item_sorted ss s i t ds os is noted put =
    let made : List Local → List sorted.Outline → sorted.Sorting = λ ls ps. record (sorting_in ss s) { locals = ls; outlines = ps } in
    ap (λ ls. made ls (outlines_in ss os)) noted
    ∙ ap (made (alter_in s.here.scope (with_variables (variables_of (item_term (item_of ss (node_item i))))) (locals_in s.sorted.disjunctions.items))) put
    ∙ sym (ap (λ x. step (sorting_in ss s) (mark_of ss x)) is)

pub marked : {A E : Type 0} (ss : List Shape) (r : Result A E) (new : Sorting) (old : Sorting) (t : BodyToken) (m : Mark) → mark_of ss t ≡ m
    → OnOk r (sorting_in ss new ≡ step (sorting_in ss old) m) → OnOk r (sorting_in ss new ≡ step (sorting_in ss old) (mark_of ss t))
marked ss r new old t m e h = subst (λ (n : Mark). OnOk r (sorting_in ss new ≡ step (sorting_in ss old) n)) (sym e) h
