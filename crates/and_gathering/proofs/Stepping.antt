-- The workers' reductions in the order of their nodes.
use Rattle.std.proofs.Common.{ℕ, suc, zero, ◌+◌, ◌≡◌, ◌<◌, ◌≤◌, List, [], ◌∷◌, ◌++◌, length, Some, None}
use Rattle.std.proofs.Common.{drop, get_or, replicate, set, refl, ap, sym, ◌∙◌, subst, arith, append_assoc, append-nil}
use Rattle.std.specs.Prelude.{slice_get, IsPermutation}
use Rattle.std.proofs.lemmas.List.Sorted.{IsPermutation-refl, IsPermutation-trans, IsPermutation-middle, IsPermutation-append, length_permutation}
use Rattle.std.specs.Option.{option_map}
use Rattle.std.proofs.lemmas.List.{length-append, length-map, get_or_read}
use Rattle.std.proofs.lemmas.Option.{slice_get_within, slice_get_read, slice_get-map}
use Rattle.and_model.specs.Programs.{Program, clause_at, clause_weight}
use Rattle.and_model.specs.declared.goal.Goal.{Goal}
use Rattle.and_model.specs.declared.goal.Reduction.{Reduction}
use Rattle.and_gathering.specs.Gathering.{AreOf, AreTiled, all_made, made_by}
use Rattle.and_gathering.specs.declared.links.Taken.{Taken}
use Rattle.and_gathering.specs.declared.links.Taken.TheVariants.{Reduced, Ran}
use Rattle.and_handed.specs.declared.told.Reduced as making
use Rattle.and_handed.specs.declared.told.HandedOn.{HandedOn}

-- A reduction stands behind the others, where the last frame ends.
pub tiled_on : (P : Program) (node : ℕ) (rs : List Reduction) (till : ℕ) (r : Reduction) → AreTiled P node rs till → r.node ≡ till
    → AreTiled P node (rs ++ r ∷ []) (till + clause_weight (clause_at P r.clause.0))
tiled_on P node [] till r tiled here = (here ∙ tiled, ap (λ (n : ℕ). n + clause_weight (clause_at P r.clause.0)) tiled)
tiled_on P node (q ∷ rs) till r tiled here =
    (tiled.0, tiled_on P (node + clause_weight (clause_at P q.clause.0)) rs till r tiled.1 here)

pub of_on : (steps : List Taken) (rs : List Reduction) (g : Goal) (r : Reduction) → AreOf steps rs
    → AreOf (steps ++ Reduced g r ∷ []) (rs ++ r ∷ [])
of_on [] rs g r are = subst (λ (l : List Reduction). AreOf (Reduced g r ∷ []) (l ++ r ∷ [])) (sym are) (refl, refl)
of_on (Reduced h q ∷ steps) [] g r are = absurd are
of_on (Reduced h q ∷ steps) (p ∷ rs) g r are = (are.0, of_on steps rs g r are.1)
of_on (Ran h ∷ steps) rs g r are = absurd are

-- There are as many reductions as steps.
pub of_long : (steps : List Taken) (rs : List Reduction) → AreOf steps rs → length steps ≡ length rs
of_long [] rs are = sym (ap length are)
of_long (Reduced h q ∷ steps) [] are = absurd are
of_long (Reduced h q ∷ steps) (p ∷ rs) are = ap suc (of_long steps rs are.1)
of_long (Ran h ∷ steps) rs are = absurd are

-- what the workers made from these places on
abbrev pub made_from : List ℕ → List HandedOn → List Taken
made_from [] tolds = []
made_from (p ∷ ps) [] = []
made_from (p ∷ ps) (t ∷ tolds) = drop p (made_by t) ++ made_from ps tolds

-- from the first places on: all
pub made_at_first : (tolds : List HandedOn) → made_from (replicate (length tolds) 0) tolds ≡ all_made tolds
made_at_first [] = refl
made_at_first (t ∷ tolds) = ap (λ (l : List Taken). made_by t ++ l) (made_at_first tolds)

dropped : {A : Type 0} → (xs : List A) (place : ℕ) (x : A) → slice_get xs place ≡ Some x → drop place xs ≡ x ∷ drop (suc place) xs
dropped [] place x is = absurd (let none : None ≡ Some x = is in cc)
dropped (y ∷ xs) zero x is = let same : Some y ≡ Some x = is in let here : y ≡ x = cc in ap (λ z. z ∷ xs) here
dropped (y ∷ xs) (suc place) x is = dropped xs place x is

-- The next one of a worker comes out first.
pub made_next : (places : List ℕ) (tolds : List HandedOn) (worker : ℕ) (told : HandedOn) (place : ℕ) (x : Taken) → slice_get tolds worker ≡ Some told
    → slice_get places worker ≡ Some place → slice_get (made_by told) place ≡ Some x
    → IsPermutation (made_from places tolds) (x ∷ made_from (set places worker (place + 1)) tolds)
made_next [] tolds worker told place x who from step = absurd (let none : None ≡ Some place = from in cc)
made_next (p ∷ ps) [] worker told place x who from step = absurd (let none : None ≡ Some told = who in cc)
made_next (p ∷ ps) (t ∷ tolds) zero told place x who from step =
    let same_told : Some t ≡ Some told = who in
    let same_place : Some p ≡ Some place = from in
    let t_is : told ≡ t = cc in
    let p_is : place ≡ p = cc in
    let there : slice_get (made_by t) p ≡ Some x = subst (λ (u : HandedOn). slice_get (made_by u) p ≡ Some x) t_is
    (subst (λ (n : ℕ). slice_get (made_by told) n ≡ Some x) p_is step) in
    let on : suc p ≡ place + 1 = omega (arith, p_is) in
    let out : drop p (made_by t) ≡ x ∷ drop (place + 1) (made_by t) =
    dropped (made_by t) p x there ∙ ap (λ (n : ℕ). x ∷ drop n (made_by t)) on in
    subst (λ (l : List Taken). IsPermutation (l ++ made_from ps tolds) (x ∷ (drop (place + 1) (made_by t) ++ made_from ps tolds))) (sym out)
    (IsPermutation-refl (x ∷ (drop (place + 1) (made_by t) ++ made_from ps tolds)))
made_next (p ∷ ps) (t ∷ tolds) (suc worker) told place x who from step =
    let front = drop p (made_by t) in
    let rest = made_from (set ps worker (place + 1)) tolds in
    let inner = made_next ps tolds worker told place x who from step in
    IsPermutation-trans (front ++ made_from ps tolds) (front ++ x ∷ rest) (x ∷ (front ++ rest))
    (IsPermutation-append front front (made_from ps tolds) (x ∷ rest) (IsPermutation-refl front) inner)
    (IsPermutation-middle front x rest)

-- What came out of the rest comes behind what was there.
pub moved_over : {A : Type 0} → (all done left rest : List A) (x : A) → IsPermutation all (done ++ left) → IsPermutation left (x ∷ rest)
    → IsPermutation all ((done ++ x ∷ []) ++ rest)
moved_over all done left rest x before out =
    subst (IsPermutation all) (sym (append_assoc done (x ∷ []) rest))
    (IsPermutation-trans all (done ++ left) (done ++ x ∷ rest) before
    (IsPermutation-append done done left (x ∷ rest) (IsPermutation-refl done) out))

-- Where one list has as many items as all, nothing is left beside it.
pub nothing_left : {A : Type 0} → (all done left : List A) → IsPermutation all (done ++ left) → length all ≤ length done
    → IsPermutation all done
nothing_left all done [] are few = subst (IsPermutation all) (append-nil done) are
nothing_left all done (x ∷ left) are few =
    let long = length_permutation all (done ++ x ∷ left) are in
    let sum = length-append done (x ∷ left) in absurd (omega (arith, long, sum, few))

-- The step of a worker at a place.
pub step_is : (told : HandedOn) (place : ℕ) (r q : making.Reduced) → place < length told.made.items → r ≡ get_or told.made.items place r
    → q ≡ get_or told.made.items place q → slice_get (made_by told) place ≡ Some (Reduced r.goal q.reduction)
step_is told place r q below first second =
    let f : making.Reduced → Taken = λ (m : making.Reduced). Reduced m.goal m.reduction in
    let same : r ≡ q = get_or_read told.made.items place r below first q ∙ sym second in
    slice_get-map f told.made.items place
    ∙ ap (option_map f) (slice_get_read told.made.items (length told.made.items) place r refl below first)
    ∙ ap (λ (m : making.Reduced). Some (Reduced r.goal m.reduction)) same

-- A step's place is one of the worker's.
pub place_within : (told : HandedOn) (place : ℕ) (x : Taken) → slice_get (made_by told) place ≡ Some x → place < length told.made.items
place_within told place x is =
    let within = slice_get_within (made_by told) place x is in
    let long = length-map told.made.items (λ (m : making.Reduced). Reduced m.goal m.reduction) in omega (arith, within, long)

-- At the beginning nothing was made, and all is to come.
pub begun_tiled : (P : Program) (node : ℕ) (rs : List Reduction) → rs ≡ [] → AreTiled P node rs node
begun_tiled P node rs none = subst (λ (l : List Reduction). AreTiled P node l node) (sym none) refl

pub begun_of : (steps : List Taken) (rs : List Reduction) → steps ≡ [] → rs ≡ [] → AreOf steps rs
begun_of steps rs none no_more = subst (λ (l : List Taken). AreOf l rs) (sym none) no_more

pub begun_made : (tolds : List HandedOn) (steps : List Taken) (places : List ℕ) → steps ≡ [] → places ≡ replicate (length tolds) 0
    → IsPermutation (all_made tolds) (steps ++ made_from places tolds)
begun_made tolds steps places none first =
    subst (λ (l : List Taken). IsPermutation (all_made tolds) (l ++ made_from places tolds)) (sym none)
    (subst (λ (l : List ℕ). IsPermutation (all_made tolds) (made_from l tolds)) (sym first)
    (subst (IsPermutation (all_made tolds)) (sym (made_at_first tolds)) (IsPermutation-refl (all_made tolds))))
