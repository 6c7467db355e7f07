-- A term is copied part by part.
use Rattle.std.proofs.Common.{ℕ, zero, suc, ◌+◌, ◌*◌, ◌-◌, ◌≡◌, ◌<◌, ◌≤◌, List, [], ◌∷◌, ◌++◌, length, get_or, map, take, drop}
use Rattle.std.proofs.Common.{refl, ap, sym, ◌∙◌, arith, subst, slice_get, Some}
use Rattle.std.proofs.lemmas.List.{append_assoc, append-nil, length-append, length-map}
use Rattle.std.proofs.lemmas.Option.{slice_get_within, get_or_from_slice_get}
use Rattle.std.proofs.Math.Seq.{take-append_seam, drop-append_seam}
use Rattle.and_model.specs.Terms
use Rattle.and_model.specs.Terms.{Path, Term, Terms, variables_of, variables_in, apply, apply_all}
use Rattle.and_source.specs.Lifted.{Numbering, renumbered}
use Rattle.and_program.specs.Skeletons
use Rattle.and_program.specs.Skeletons.{Shape, node_term, shape_term, terms_behind, term_list, Falls, IsFalling, AllFall}
use Rattle.and_program.specs.Kept.{IsWithin, AllWithin}
use Rattle.and_program.proofs.NodeTerms.{node_term_front, node_term_at}
use Rattle.and_judging.proofs.SortingSteps.{get-last}
use Rattle.and_judging.specs.Outlined.{size_of, size_in}
use Rattle.and_clauses.specs.Copied.{Task, term, name, finish, Fits, tasks_size, tasks_work, tasks_variables, AreTasks, Grown}

module _ (ss : List Shape) (new : Numbering) where
  abbrev copy : ℕ → Term
  copy n = renumbered new (node_term ss n)

  -- the terms of some nodes come next
  terms_next : (ns : List ℕ) (tasks : List Task) (ts : List Term) → finish ss new (map term ns ++ tasks) ts ≡ finish ss new tasks (ts ++ map copy ns)
  terms_next [] tasks ts = ap (finish ss new tasks) (sym (append-nil ts))
  terms_next (n ∷ ns) tasks ts =
      terms_next ns tasks (ts ++ copy n ∷ []) ∙ ap (finish ss new tasks) (append_assoc ts (copy n ∷ []) (map copy ns))

  renumbered_list : (ns : List ℕ) → apply_all (λ q k. Terms.variable [] (new q k)) (term_list (map (node_term ss) ns)) ≡ term_list (map copy ns)
  renumbered_list [] = refl
  renumbered_list (n ∷ ns) = ap (λ ts. Terms.more (copy n) ts) (renumbered_list ns)

  -- a name with its arguments
  pub name_next : (c : ℕ) (ns : List ℕ) (t : Term) (tasks : List Task) (ts : List Term) → t ≡ Terms.compound c (term_list (map (node_term ss) ns))
      → finish ss new (map term ns ++ name c (length ns) ∷ tasks) ts ≡ finish ss new tasks (ts ++ renumbered new t ∷ [])
  name_next c ns t tasks ts e =
      let us : List Term = map copy ns in
      let z : length (ts ++ us) - length ns ≡ length ts = omega (arith, length-append ts us, length-map ns copy) in
      terms_next ns (name c (length ns) ∷ tasks) ts
      ∙ ap (λ k. finish ss new tasks (take k (ts ++ us) ++ Terms.compound c (term_list (drop k (ts ++ us))) ∷ [])) z
      ∙ ap (λ xs. finish ss new tasks (xs ++ Terms.compound c (term_list (drop (length ts) (ts ++ us))) ∷ [])) (take-append_seam ts us)
      ∙ ap (λ xs. finish ss new tasks (ts ++ Terms.compound c (term_list xs) ∷ [])) (drop-append_seam ts us)
      ∙ ap (λ xs. finish ss new tasks (ts ++ Terms.compound c xs ∷ [])) (sym (renumbered_list ns))
      ∙ ap (λ u. finish ss new tasks (ts ++ renumbered new u ∷ [])) (sym e)

Fits-terms : (ns : List ℕ) (tasks : List Task) (n : ℕ) → Fits tasks (n + length ns) → Fits (map term ns ++ tasks) n
Fits-terms [] tasks n f = let z : n + 0 ≡ n = omega arith in subst (Fits tasks) z f
Fits-terms (m ∷ ns) tasks n f = let z : n + suc (length ns) ≡ suc n + length ns = omega arith in Fits-terms ns tasks (suc n) (subst (Fits tasks) z f)

pub Fits-name : (c : ℕ) (ns : List ℕ) (tasks : List Task) (n : ℕ) → Fits tasks (suc n) → Fits (map term ns ++ name c (length ns) ∷ tasks) n
Fits-name c ns tasks n f =
    let z : suc n ≡ suc (n + length ns - length ns) = omega arith in
    Fits-terms ns (name c (length ns) ∷ tasks) n (omega arith, subst (Fits tasks) z f)

module _ (ss : List Shape) where
  sizes_are : (ns : List ℕ) (tasks : List Task) → tasks_size ss (map term ns ++ tasks) ≡ size_in (term_list (map (node_term ss) ns)) + tasks_size ss tasks
  sizes_are [] tasks = omega arith
  sizes_are (n ∷ ns) tasks = omega (arith, sizes_are ns tasks)

  works_are : (ns : List ℕ) (tasks : List Task) → tasks_work ss (map term ns ++ tasks) ≡ 2 * size_in (term_list (map (node_term ss) ns)) + tasks_work ss tasks
  works_are [] tasks = omega arith
  works_are (n ∷ ns) tasks = omega (arith, works_are ns tasks)

  variables_are : (ns : List ℕ) (tasks : List Task) → tasks_variables ss (map term ns ++ tasks)
      ≡ variables_in (term_list (map (node_term ss) ns)) ++ tasks_variables ss tasks
  variables_are [] tasks = refl
  variables_are (n ∷ ns) tasks =
      ap (λ vs. variables_of (node_term ss n) ++ vs) (variables_are ns tasks)
      ∙ sym (append_assoc (variables_of (node_term ss n)) (variables_in (term_list (map (node_term ss) ns))) (tasks_variables ss tasks))

  tasks_there : (ns : List ℕ) (n m : ℕ) (tasks : List Task) → Falls n ns → AreTasks n m tasks → AreTasks n m (map term ns ++ tasks)
  tasks_there [] n m tasks f a = a
  tasks_there (k ∷ ns) n m tasks f a = (f.0, tasks_there ns n m tasks f.1 a)

  -- what a name with its arguments leaves to do
  pub name_size : (c : ℕ) (ns : List ℕ) (t : Term) (tasks : List Task) → t ≡ Terms.compound c (term_list (map (node_term ss) ns))
      → tasks_size ss (map term ns ++ name c (length ns) ∷ tasks) ≡ size_of t + tasks_size ss tasks
  name_size c ns t tasks e = let h : size_of t ≡ suc (size_in (term_list (map (node_term ss) ns))) =
      ap size_of e in omega (arith, sizes_are ns (name c (length ns) ∷ tasks), h)

  pub name_work : (c : ℕ) (ns : List ℕ) (t : Term) (tasks : List Task) → t ≡ Terms.compound c (term_list (map (node_term ss) ns))
      → tasks_work ss (map term ns ++ name c (length ns) ∷ tasks) < 2 * size_of t + tasks_work ss tasks
  name_work c ns t tasks e = let h : size_of t ≡ suc (size_in (term_list (map (node_term ss) ns))) =
      ap size_of e in omega (arith, works_are ns (name c (length ns) ∷ tasks), h)

  pub name_variables : (c : ℕ) (ns : List ℕ) (t : Term) (tasks : List Task) → t ≡ Terms.compound c (term_list (map (node_term ss) ns))
      → tasks_variables ss (map term ns ++ name c (length ns) ∷ tasks) ≡ variables_of t ++ tasks_variables ss tasks
  name_variables c ns t tasks e = variables_are ns (name c (length ns) ∷ tasks) ∙ ap (λ u. variables_of u ++ tasks_variables ss tasks) (sym e)

  pub name_there : (c : ℕ) (ns : List ℕ) (n m : ℕ) (tasks : List Task) → c < m → length ns ≤ 255 → Falls n ns → AreTasks n m tasks
      → AreTasks n m (map term ns ++ name c (length ns) ∷ tasks)
  name_there c ns n m tasks lt few f a = tasks_there ns n m (name c (length ns) ∷ tasks) f (lt, few, a)

-- ---- One node more.
AllFall-push : (n : ℕ) (ss : List Shape) (s : Shape) → AllFall n ss → IsFalling (n + length ss) s → AllFall n (ss ++ s ∷ [])
AllFall-push n [] s f g = let z : n + 0 ≡ n = omega arith in (subst (λ m. IsFalling m s) z g, tt)
AllFall-push n (t ∷ ss) s f g =
    let z : n + suc (length ss) ≡ suc n + length ss = omega arith in (f.0, AllFall-push (suc n) ss s f.1 (subst (λ m. IsFalling m s) z g))

AllWithin-push : (m : ℕ) (ss : List Shape) (s : Shape) → AllWithin m ss → IsWithin m s → AllWithin m (ss ++ s ∷ [])
AllWithin-push m [] s a b = (b, tt)
AllWithin-push m (t ∷ ss) s a b = (a.0, AllWithin-push m ss s a.1 b)

take-push : {X : Type 0} (n : ℕ) (xs : List X) (x : X) → n ≤ length xs → take n (xs ++ x ∷ []) ≡ take n xs
take-push zero xs x le = refl
take-push (suc n) [] x le = absurd (omega arith)
take-push (suc n) (y ∷ xs) x le = ap (λ ys. y ∷ ys) (take-push n xs x (omega arith))

pub take-le : {X : Type 0} (old new : List X) → take (length old) new ≡ old → length old ≤ length new
take-le [] new e = omega arith
take-le (x ∷ old) [] e = absurd cc
take-le (x ∷ old) (y ∷ new) e = let h : take (length old) new ≡ old = cc in omega (arith, take-le old new h)

pub grown_push : (m : ℕ) (old us vs : List Shape) (s : Shape) (n : ℕ) → Grown m old us n → vs ≡ us ++ s ∷ [] → IsFalling (length us) s
    → IsWithin m s → length us + 1 ≤ n
    → Grown m old vs n
grown_push m old us vs s n g e f w few =
    let P : List Shape → Type 0 = λ xs. Grown m old xs n in
    subst P (sym e) (record {
      kept = take-push (length old) us s (take-le old us g.kept) ∙ g.kept;
      falls = AllFall-push 0 us s g.falls (let z : length us ≡ 0 + length us = omega arith in subst (λ k. IsFalling k s) z f);
      within = AllWithin-push m us s g.within w;
      few = omega (arith, length-append us (s ∷ []));
    })

-- its term, by those of the nodes before it
pub pushed_term : (us vs : List Shape) (s : Shape) → vs ≡ us ++ s ∷ [] → node_term vs (length us) ≡ shape_term (terms_behind [] us) s
pushed_term us vs s e =
    let few : length (us ++ s ∷ []) ≡ suc (length us) = omega (arith, length-append us (s ∷ [])) in
    ap (λ xs. node_term xs (length us)) e ∙ node_term_at (us ++ s ∷ []) (length us) s (omega arith)
    ∙ ap (λ xs. shape_term (terms_behind [] xs) (get_or (us ++ s ∷ []) (length us) s)) (take-append_seam us (s ∷ []))
    ∙ ap (shape_term (terms_behind [] us)) (get-last us [] s s)

-- the term of a variable's node that is there
pub found_term : (us : List Shape) (n k : ℕ) → slice_get us n ≡ Some (Skeletons.variable k) → (n < length us) × (node_term us n ≡ Terms.variable [] k)
found_term us n k e =
    let s : Shape = Skeletons.variable k in
    let lt : n < length us = slice_get_within us n s e in
    (lt, node_term_at us n s lt ∙ ap (shape_term (terms_behind [] (take n us))) (get_or_from_slice_get us n s s e))

-- terms that were there stay
pub terms_stay : (us vs : List Shape) (s : Shape) (ns : List ℕ) → vs ≡ us ++ s ∷ [] → Falls (length us) ns → map (node_term vs) ns ≡ map (node_term us) ns
terms_stay us vs s [] e f = refl
terms_stay us vs s (n ∷ ns) e f =
    ap (λ t. t ∷ map (node_term vs) ns) (ap (λ xs. node_term xs n) e ∙ node_term_front us (s ∷ []) n f.0)
    ∙ ap (λ ts. node_term us n ∷ ts) (terms_stay us vs s ns e f.1)
