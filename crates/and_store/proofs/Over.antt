-- What is marked, and what is left over.
use Rattle.std.proofs.Common.{ℕ, zero, suc, ◌+◌, ◌-◌, ◌*◌, ◌≡◌, ◌<◌, ◌≤◌, eq-eqb, ne_eqb, inl, inr, true, false, Bool, cond, List, [], ◌∷◌, ◌++◌, map, length}
use Rattle.std.proofs.Common.{set, take, drop, replicate, get_or, refl, sym, ap, ◌∙◌, arith, append-nil, append_assoc, subst, All}
use Rattle.std.specs.Prelude.{filter, flat_map, not, nat_eq}
use Rattle.std.proofs.lemmas.Bool.{cases_eq}
use Rattle.std.proofs.lemmas.Nat.{row_fits}
use Rattle.std.proofs.lemmas.List.{get_or-set_same, get_or-set_other, take_all}
use Rattle.std.proofs.lemmas.List.Elements.{All-cons, filter-append}
use Rattle.std.proofs.lemmas.List.Concat.{flat_map-append}
use Rattle.and_model.specs.Store.{HungGoal, Pass, all_hung}
use Rattle.and_model.specs.declared.goal.Goal.{Goal}
use Rattle.and_store_laws.proofs.Lists.{map_append}
use Rattle.and_store_laws.proofs.Pairwise.{all_none, all_first, all_rest}
use Rattle.and_store.specs.Ended.{passes_of}
use Rattle.and_store.specs.Kept.{UpperIs, LowerIs}
use Rattle.and_store.specs.Left.{is_among, either_one, handed_by, handed_out, left_numbers, waiters_hung, numbered, in_order, goal_in}
use Rattle.and_store.specs.Passes.{PassSeen, numbers_from}
use Rattle.and_store.specs.Told.{waiters_of}

either_nothing : (a : Bool) → either_one a false ≡ a
either_nothing true = refl
either_nothing false = refl

either_true : (a : Bool) → either_one a true ≡ true
either_true true = refl
either_true false = refl

either_turned : (a b : Bool) → either_one a b ≡ either_one b a
either_turned true b = sym (either_true b)
either_turned false b = sym (either_nothing b)

pub among_append : (n : ℕ) (xs ys : List ℕ) → is_among n (xs ++ ys) ≡ either_one (is_among n xs) (is_among n ys)
among_append n [] ys = refl
among_append n (x ∷ xs) ys = elim (nat_eq x n) as (λ b. cond b true (is_among n (xs ++ ys)) ≡ either_one (cond b true (is_among n xs)) (is_among n ys))
    [ true ↦ refl | false ↦ among_append n xs ys ]

pub take_step : (xs : List ℕ) (i x : ℕ) → i < length xs → x ≡ get_or xs i x → take (i + 1) xs ≡ take i xs ++ x ∷ []
take_step [] i x h e = absurd (omega arith)
take_step (y ∷ ys) zero x h e = ap (λ z. z ∷ []) (sym e)
take_step (y ∷ ys) (suc i) x h e = let next : suc i + 1 ≡ suc (i + 1) =
    omega arith in ap (λ n. take n (y ∷ ys)) next ∙ ap (λ l. y ∷ l) (take_step ys i x (omega arith) e)

-- one waiter is marked
pub marks_one : (old marks : List Bool) (ws : List ℕ) (i x : ℕ) → i < length ws → x ≡ get_or ws i x → length marks ≡ length old
    → ((w : ℕ) → w < length old → get_or marks w false ≡ either_one (is_among w (take i ws)) (get_or old w false))
    → (w : ℕ) → w < length old → get_or (set marks x true) w false ≡ either_one (is_among w (take (i + 1) ws)) (get_or old w false)
marks_one old marks ws i x h e long so w within =
    let grown : is_among w (take (i + 1) ws) ≡ either_one (is_among w (take i ws)) (is_among w (x ∷ [])) =
    ap (is_among w) (take_step ws i x h e) ∙ among_append w (take i ws) (x ∷ []) in
    elim (cases_eq w x) [
      | inl same ↦
          ap (λ n. get_or (set marks x true) n false) same ∙ get_or-set_same marks x true false (omega (arith, within, long, same))
          ∙ sym (ap (λ b. either_one b (get_or old w false))
          (grown ∙ ap (λ b. either_one (is_among w (take i ws)) (cond b true false)) (eq-eqb x w (sym same)) ∙ either_true (is_among w (take i ws))))
      | inr ne ↦
          get_or-set_other marks x w true false ne ∙ so w within
          ∙ ap (λ b. either_one b (get_or old w false))
          (sym (grown ∙ ap (λ b. either_one (is_among w (take i ws)) (cond b true false)) (ne_eqb x w (λ k. ne (sym k)))
          ∙ either_nothing (is_among w (take i ws))))
    ]

-- ---- numbers one after another

pub numbers_more : (first i : ℕ) → numbers_from first (i + 1) ≡ numbers_from first i ++ (first + i) ∷ []
numbers_more first zero = let e : first + 0 ≡ first = omega arith in ap (λ n. n ∷ []) (sym e)
numbers_more first (suc i) =
    let next : suc i + 1 ≡ suc (i + 1) = omega arith in
    let e : first + suc i ≡ suc first + i = omega arith in
    ap (numbers_from first) next ∙ ap (λ l. first ∷ l) (numbers_more (suc first) i ∙ ap (λ n. numbers_from (suc first) i ++ n ∷ []) (sym e))

pub left_more : (marks : List Bool) (first i : ℕ) → left_numbers marks (numbers_from first (i + 1))
    ≡ left_numbers marks (numbers_from first i) ++ cond (not (get_or marks (first + i) false)) ((first + i) ∷ []) []
left_more marks first i =
    ap (left_numbers marks) (numbers_more first i) ∙ filter-append (λ n. not (get_or marks n false)) (numbers_from first i) ((first + i) ∷ [])

pub numbers_below : (first count bound : ℕ) → first + count ≤ bound → All (λ n. n < bound) (numbers_from first count)
numbers_below first zero bound h = all_none (λ n. n < bound)
numbers_below first (suc count) bound h =
    All-cons (λ n. n < bound) first (numbers_from (suc first) count) (omega arith) (numbers_below (suc first) count bound (omega arith))

-- the waiters of a pass that hung no more goals than it may are among those of all
pub fits_before : (number each seats hung first : ℕ) → first ≡ number * each → number < seats → hung ≤ each → first + hung ≤ seats * each
fits_before number each seats hung first is below few =
    let here : ℕ = number * each in
    let past : ℕ = seats * each in
    let none_more : each ≤ each = omega arith in
    let f : here + each ≤ past = row_fits number each seats each below none_more in
    let start : first ≡ here = is in
    omega (arith, f, few, start)

-- ---- what one pass more has handed out

pub handed_is : (p : PassSeen) (taken : List ℕ) (handed : ℕ) → taken ≡ waiters_of p.pass.took → p.kept ≡ drop handed taken → handed ≤ length taken
    → take handed taken ≡ handed_by p
handed_is p taken handed are kept within =
    let long : length p.kept ≡ length taken - handed = ap length kept ∙ length-drop taken handed in
    let count : handed ≡ length taken - length p.kept = omega (arith, long, within) in
    ap (λ n. take n taken) count ∙ ap (λ l. take (length l - length p.kept) l) are
  where
    length-drop : (xs : List ℕ) (n : ℕ) → length (drop n xs) ≡ length xs - n
    length-drop xs zero = omega arith
    length-drop [] (suc n) = omega arith
    length-drop (x ∷ xs) (suc n) = let e = length-drop xs n in omega arith

pub handed_more : (w : ℕ) (ps : List PassSeen) (p : PassSeen)
    → is_among w (handed_out (ps ++ p ∷ [])) ≡ either_one (is_among w (handed_by p)) (is_among w (handed_out ps))
handed_more w ps p =
    ap (is_among w) (flat_map-append handed_by ps (p ∷ []) ∙ ap (λ l. handed_out ps ++ l) (append-nil (handed_by p)))
    ∙ among_append w (handed_out ps) (handed_by p) ∙ either_turned (is_among w (handed_out ps)) (is_among w (handed_by p))

-- ---- the waiters of one pass more

hung_append : (xs ys : List PassSeen) → waiters_hung (xs ++ ys) ≡ waiters_hung xs ++ waiters_hung ys
hung_append xs ys =
    ap (map (λ (g : HungGoal). g.waiter))
    (ap all_hung (map_append (λ (p : PassSeen). p.pass) xs ys) ∙ flat_map-append (λ (p : Pass). p.hung) (passes_of xs) (passes_of ys))
    ∙ map_append (λ (g : HungGoal). g.waiter) (all_hung (passes_of xs)) (all_hung (passes_of ys))

-- what one pass adds for a number
pub own_below : (p : PassSeen) (number own hung each seats : ℕ) → own < seats → hung ≤ each
    → map (λ (g : HungGoal). g.waiter) p.pass.hung ≡ numbers_from (own * each) hung
    → All (λ w. w < seats * each) (waiters_hung (numbered number (p ∷ [])))
own_below p number own hung each seats below few are =
    elim (nat_eq p.pass.number number) as (λ b. All (λ w. w < seats * each) (waiters_hung (cond {A = List PassSeen} b (p ∷ []) []))) [
      | true ↦ subst (All (λ w. w < seats * each)) (sym (ap (map (λ (g : HungGoal). g.waiter)) (append-nil p.pass.hung) ∙ are))
          (numbers_below (own * each) hung (seats * each) (fits_before own each seats hung (own * each) refl below few))
      | false ↦ all_none (λ w. w < seats * each)
    ]

-- one pass more is looked at
pub numbered_more : (number i : ℕ) (ps : List PassSeen) (p : PassSeen) → take (i + 1) ps ≡ take i ps ++ p ∷ []
    → waiters_hung (numbered number (take (i + 1) ps)) ≡ waiters_hung (numbered number (take i ps)) ++ waiters_hung (numbered number (p ∷ []))
numbered_more number i ps p next =
    ap (λ l. waiters_hung (numbered number l)) next
    ∙ ap waiters_hung (filter-append (λ (p : PassSeen). nat_eq p.pass.number number) (take i ps) (p ∷ []))
    ∙ hung_append (numbered number (take i ps)) (numbered number (p ∷ []))

-- one number more
pub order_more : (number : ℕ) (ps : List PassSeen) → waiters_hung (in_order (number + 1) ps)
    ≡ waiters_hung (in_order number ps) ++ waiters_hung (numbered number ps)
order_more number ps =
    let here : 0 + number ≡ number = omega arith in
    ap waiters_hung (ap (λ ns. flat_map (λ n. numbered n ps) ns) (numbers_more 0 number)
    ∙ flat_map-append (λ n. numbered n ps) (numbers_from 0 number) ((0 + number) ∷ [])
    ∙ ap (λ l. in_order number ps ++ l) (append-nil (numbered (0 + number) ps) ∙ ap (λ n. numbered n ps) here))
    ∙ hung_append (in_order number ps) (numbered number ps)

pub left_append : (marks : List Bool) (xs ys : List ℕ) → left_numbers marks (xs ++ ys) ≡ left_numbers marks xs ++ left_numbers marks ys
left_append marks xs ys = filter-append (λ n. not (get_or marks n false)) xs ys

-- one pass more is put behind what the list had
pub pass_put : (marks : List Bool) (number i : ℕ) (ps : List PassSeen) (p : PassSeen) (old before : List ℕ) → take (i + 1) ps ≡ take i ps ++ p ∷ []
    → before ≡ old ++ left_numbers marks (waiters_hung (numbered number (take i ps)))
    → before ++ left_numbers marks (waiters_hung (numbered number (p ∷ []))) ≡ old ++ left_numbers marks (waiters_hung (numbered number (take (i + 1) ps)))
pass_put marks number i ps p old before next e =
    let was : List ℕ = waiters_hung (numbered number (take i ps)) in
    let own : List ℕ = waiters_hung (numbered number (p ∷ [])) in
    ap (λ l. l ++ left_numbers marks own) e ∙ append_assoc old (left_numbers marks was) (left_numbers marks own)
    ∙ ap (λ l. old ++ l) (sym (ap (left_numbers marks) (numbered_more number i ps p next) ∙ left_append marks was own))

-- one number more is put behind what the list had
pub number_put : (marks : List Bool) (number : ℕ) (ps : List PassSeen) (before : List ℕ) → before ≡ left_numbers marks (waiters_hung (in_order number ps))
    → before ++ left_numbers marks (waiters_hung (numbered number ps)) ≡ left_numbers marks (waiters_hung (in_order (number + 1) ps))
number_put marks number ps before e =
    ap (λ l. l ++ left_numbers marks (waiters_hung (numbered number ps))) e
    ∙ sym (ap (left_numbers marks) (order_more number ps) ∙ left_append marks (waiters_hung (in_order number ps)) (waiters_hung (numbered number ps)))

-- the marks say who was handed out
pub left_so : (marks : List Bool) (handed xs : List ℕ) (bound : ℕ) → ((w : ℕ) → w < bound → get_or marks w false ≡ is_among w handed) → All (λ w. w < bound) xs
    → left_numbers marks xs ≡ filter (λ n. not (is_among n handed)) xs
left_so marks handed [] bound so below = refl
left_so marks handed (x ∷ xs) bound so below =
    ap (λ b. cond (not b) (x ∷ left_numbers marks xs) (left_numbers marks xs)) (so x (all_first (λ w. w < bound) x xs below))
    ∙ ap (λ l. cond (not (is_among x handed)) (x ∷ l) l) (left_so marks handed xs bound so (all_rest (λ w. w < bound) x xs below))

-- ---- goals

pub goal_so : (upper lower : ℕ) (g : Goal) → UpperIs upper g → LowerIs lower g → g ≡ goal_in upper lower
goal_so upper lower g u l = λ i. record { node = u.0 i; item = u.1 i; clause = record { 0 = l.0 i }; base = l.1 i }

-- the goals of the waiters that are left
pub goals_left : (f : ℕ → Goal) (p : ℕ → Bool) (hung : List HungGoal) → All (λ (g : HungGoal). f g.waiter ≡ g.goal) hung
    → map f (filter p (map (λ (g : HungGoal). g.waiter) hung)) ≡ map (λ (g : HungGoal). g.goal) (filter (λ (g : HungGoal). p g.waiter) hung)
goals_left f p [] h = refl
goals_left f p (g ∷ hung) h =
    let rest = goals_left f p hung (all_rest (λ (g : HungGoal). f g.waiter ≡ g.goal) g hung h) in
    elim (p g.waiter) as (λ b. map f (cond b (g.waiter ∷ filter p (map (λ (g : HungGoal). g.waiter) hung)) (filter p (map (λ (g : HungGoal). g.waiter) hung)))
    ≡ map (λ (g : HungGoal). g.goal) (cond b (g ∷ filter (λ (g : HungGoal). p g.waiter) hung) (filter (λ (g : HungGoal). p g.waiter) hung))) [
      | true ↦ ap (λ x. x ∷ map f (filter p (map (λ (g : HungGoal). g.waiter) hung))) (all_first (λ (g : HungGoal). f g.waiter ≡ g.goal) g hung h)
          ∙ ap (λ l. g.goal ∷ l) rest
      | false ↦ rest
    ]

-- what was written through a slice of a vector is in the vector
pub written_back : (new items : List Bool) (len : ℕ) → length new ≡ length items → length items ≡ len → take len (new ++ drop (length new) items) ≡ new
written_back new items len same is =
    let none : drop (length new) items ≡ [] = drop_all (length new) items (omega (arith, same)) in
    ap (λ l. take len (new ++ l)) none ∙ ap (take len) (append-nil new) ∙ take_all len new (omega (arith, same, is))
  where
    drop_all : (n : ℕ) (xs : List Bool) → length xs ≤ n → drop n xs ≡ []
    drop_all zero [] h = refl
    drop_all zero (x ∷ xs) h = absurd (omega arith)
    drop_all (suc n) [] h = refl
    drop_all (suc n) (x ∷ xs) h = drop_all n xs (omega arith)

all_false : (n : ℕ) (i : ℕ) → get_or (replicate n false) i false ≡ false
all_false zero i = refl
all_false (suc n) zero = refl
all_false (suc n) (suc i) = all_false n i

pub none_marked : (n : ℕ) (marks : List Bool) (i : ℕ) → marks ≡ replicate n false → get_or marks i false ≡ false
none_marked n marks i e = ap (λ l. get_or l i false) e ∙ all_false n i

pub at_default : (xs : List ℕ) (i : ℕ) → i < length xs → get_or xs i 0 ≡ get_or xs i (get_or xs i 0)
at_default [] i h = absurd (omega arith)
at_default (x ∷ xs) zero h = refl
at_default (x ∷ xs) (suc i) h = any xs i 0 (get_or xs i 0) (omega arith)
  where
    any : (xs : List ℕ) (i d e : ℕ) → i < length xs → get_or xs i d ≡ get_or xs i e
    any [] i d e h = absurd (omega arith)
    any (x ∷ xs) zero d e h = refl
    any (x ∷ xs) (suc i) d e h = any xs i d e (omega arith)

-- one waiter more was looked at
pub pushed : (marks : List Bool) (first i : ℕ) (old before : List ℕ) → before ≡ old ++ left_numbers marks (numbers_from first i)
    → get_or marks (first + i) false ≡ false
    → before ++ (first + i) ∷ [] ≡ old ++ left_numbers marks (numbers_from first (i + 1))
pushed marks first i old before e off =
    ap (λ l. l ++ (first + i) ∷ []) e ∙ append_assoc old (left_numbers marks (numbers_from first i)) ((first + i) ∷ [])
    ∙ ap (λ l. old ++ l) (sym (left_more marks first i ∙ ap (λ b. left_numbers marks (numbers_from first i) ++ cond (not b) ((first + i) ∷ []) []) off))

pub skipped : (marks : List Bool) (first i : ℕ) (old before : List ℕ) → before ≡ old ++ left_numbers marks (numbers_from first i)
    → get_or marks (first + i) false ≡ true
    → before ≡ old ++ left_numbers marks (numbers_from first (i + 1))
skipped marks first i old before e on =
    e ∙ ap (λ l. old ++ l) (sym (left_more marks first i ∙ ap (λ b. left_numbers marks (numbers_from first i) ++ cond (not b) ((first + i) ∷ []) []) on
    ∙ append-nil (left_numbers marks (numbers_from first i))))

pub goals_step : (f : ℕ → Goal) (ws : List ℕ) (i x : ℕ) (goals : List Goal) (g : Goal) → i < length ws → x ≡ get_or ws i x → goals ≡ map f (take i ws)
    → g ≡ f x → goals ++ g ∷ [] ≡ map f (take (i + 1) ws)
goals_step f ws i x goals g h e are is =
    ap (λ l. l ++ g ∷ []) are ∙ ap (λ y. map f (take i ws) ++ y ∷ []) is ∙ sym (map_append f (take i ws) (x ∷ [])) ∙ ap (map f) (sym (take_step ws i x h e))
