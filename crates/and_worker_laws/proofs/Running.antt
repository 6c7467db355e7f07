-- The goals that a journal with its runs ran.
use Rattle.std.proofs.Common.{ℕ, suc, ◌≡◌, ◌≤◌, Bool, true, false, cond, nat_eq, leb, List, [], ◌∷◌, ◌++◌, map, filter, length, refl, ap, sym, ◌∙◌, subst}
use Rattle.std.proofs.Common.{arith, get_or, Contains, IsPermutation}
use Rattle.std.specs.Prelude.{All}
use Rattle.std.proofs.lemmas.Bool.Decides.{nat_tests}
use Rattle.std.proofs.lemmas.List.{append-nil, map-append}
use Rattle.std.proofs.lemmas.List.Elements.{All-contains, All-head, All-map, All-tail, Contains-get_or}
use Rattle.std.proofs.lemmas.List.Sorted.{All-permutation, IsPermutation-sym}
use Rattle.and_model.specs.Terms.{Path}
use Rattle.and_model.specs.Programs.{Program, arithmetic, Arithmetic, arithmetic_in}
use Rattle.and_model.specs.Trees.{QueryTree}
use Rattle.and_model.specs.Reductions.{Reduction, PlaceHas, Makes}
use Rattle.and_model.specs.declared.goal.Goal.{Goal}
use Rattle.and_laws.proofs.Ordered.{contains_first, contains_more}
use Rattle.and_laws.proofs.Placing.{place_once}
use Rattle.and_phase_laws.specs.Journals.{Entry, frame, run, setting, failing, Journal, TakenOut, goals_of_runs}
use Rattle.and_phase_laws.specs.Weaving.{Run, entry_of, runs_at, woven}
use Rattle.and_phase_laws.proofs.Weaving.{of_length}
use Rattle.and_branch_laws.specs.Kept.{item_at}
use Rattle.and_worker_laws.specs.Acts.{Act, takes, sets, fails, RunInCells}
use Rattle.and_worker_laws.specs.Reading.{IsReadAs, AreReadAs, AreRunsReadAs}
use Rattle.and_worker_laws.proofs.Matching.{length_read}
use Rattle.and_worker_laws.proofs.Shuffling.{Shuffled, permutation_shuffled, Pairwise, shuffled_beside, one_beside, shuffled_all_out}

module _ {X Y : Type 0} (f : X → Y) where
  shuffled_map : (xs ys : List X) → Shuffled xs ys → Shuffled (map f xs) (map f ys)
  shuffled_map xs ys (Shuffled.same zs) = Shuffled.same (map f zs)
  shuffled_map xs ys (Shuffled.first x ps bs s) = Shuffled.first (f x) (map f ps) (map f bs) (shuffled_map ps bs s)
  shuffled_map xs ys (Shuffled.flip x y zs) = Shuffled.flip (f x) (f y) (map f zs)
  shuffled_map xs ys (Shuffled.chain ps bs cs s r) = Shuffled.chain (map f ps) (map f bs) (map f cs) (shuffled_map ps bs s) (shuffled_map bs cs r)

module _ {X : Type 0} where
  to_last : (x : X) (ys : List X) → Shuffled (x ∷ ys) (ys ++ x ∷ [])
  to_last x [] = Shuffled.same (x ∷ [])
  to_last x (y ∷ ys) =
      Shuffled.chain (x ∷ y ∷ ys) (y ∷ x ∷ ys) (y ∷ (ys ++ x ∷ [])) (Shuffled.flip x y ys) (Shuffled.first y (x ∷ ys) (ys ++ x ∷ []) (to_last x ys))

  shuffled_behind : (front xs ys : List X) → Shuffled xs ys → Shuffled (front ++ xs) (front ++ ys)
  shuffled_behind [] xs ys s = s
  shuffled_behind (x ∷ front) xs ys s = Shuffled.first x (front ++ xs) (front ++ ys) (shuffled_behind front xs ys s)

  to_middle : (x : X) (front back : List X) → Shuffled (x ∷ (front ++ back)) (front ++ x ∷ back)
  to_middle x [] back = Shuffled.same (x ∷ back)
  to_middle x (y ∷ front) back =
      Shuffled.chain (x ∷ y ∷ (front ++ back)) (y ∷ x ∷ (front ++ back)) (y ∷ (front ++ x ∷ back)) (Shuffled.flip x y (front ++ back))
      (Shuffled.first y (x ∷ (front ++ back)) (front ++ x ∷ back) (to_middle x front back))

abbrev goal_run : Run → Arithmetic
goal_run r = r.goal

-- the runs up to a length
abbrev up_to : ℕ → List Run → List Run
up_to n rs = filter (λ (r : Run). leb r.at n) rs

-- Runs before a journal are run after it.
runs_before : (rs : List Run) (j : Journal) → Shuffled (map goal_run rs ++ goals_of_runs j) (goals_of_runs (map entry_of rs ++ j))
runs_before [] j = Shuffled.same (goals_of_runs j)
runs_before (r ∷ rs) j =
    let old : List Arithmetic = map goal_run rs ++ goals_of_runs j in
    let ran : List Arithmetic = goals_of_runs (map entry_of rs ++ j) in
    Shuffled.chain (r.goal ∷ old) (r.goal ∷ ran) (ran ++ r.goal ∷ []) (Shuffled.first r.goal old ran (runs_before rs j)) (to_last r.goal ran)

-- ---- Runs by their lengths

-- A number that is up to the next one is the next, or up to this one.
data Fits : Bool → Bool → Bool → Type 0 where
  at_once : Fits true true false
  earlier : Fits true false true
  later : Fits false false false

fits_tests : (k n : ℕ) (b d c : Bool) → leb k (suc n) ≡ b → nat_eq k (suc n) ≡ d → leb k n ≡ c → Fits b d c
fits_tests k n true true true p q r = absurd (grind (arith, nat_tests))
fits_tests k n true true false p q r = Fits.at_once
fits_tests k n true false true p q r = Fits.earlier
fits_tests k n true false false p q r = absurd (grind (arith, nat_tests))
fits_tests k n false true true p q r = absurd (grind (arith, nat_tests))
fits_tests k n false true false p q r = absurd (grind (arith, nat_tests))
fits_tests k n false false true p q r = absurd (grind (arith, nat_tests))
fits_tests k n false false false p q r = Fits.later

step_filter : (r : Run) (xs ys zs : List Run) (b d c : Bool) → Fits b d c → Shuffled xs (ys ++ zs)
    → Shuffled (cond b (r ∷ xs) xs) (cond d (r ∷ ys) ys ++ cond c (r ∷ zs) zs)
step_filter r xs ys zs b d c Fits.at_once s = Shuffled.first r xs (ys ++ zs) s
step_filter r xs ys zs b d c Fits.earlier s =
    Shuffled.chain (r ∷ xs) (r ∷ (ys ++ zs)) (ys ++ r ∷ zs) (Shuffled.first r xs (ys ++ zs) s) (to_middle r ys zs)
step_filter r xs ys zs b d c Fits.later s = s

one_longer : (n : ℕ) (rs : List Run) → Shuffled (up_to (suc n) rs) (of_length (suc n) rs ++ up_to n rs)
one_longer n [] = Shuffled.same []
one_longer n (r ∷ rs) =
    step_filter r (up_to (suc n) rs) (of_length (suc n) rs) (up_to n rs) (leb r.at (suc n)) (nat_eq r.at (suc n)) (leb r.at n)
    (fits_tests r.at n (leb r.at (suc n)) (nat_eq r.at (suc n)) (leb r.at n) refl refl refl) (one_longer n rs)

at_nothing : (k : ℕ) (b d : Bool) → leb k 0 ≡ b → nat_eq k 0 ≡ d → b ≡ d
at_nothing k true true p q = refl
at_nothing k true false p q = absurd (grind (arith, nat_tests))
at_nothing k false true p q = absurd (grind (arith, nat_tests))
at_nothing k false false p q = refl

of_nothing : (rs : List Run) → up_to 0 rs ≡ of_length 0 rs
of_nothing [] = refl
of_nothing (r ∷ rs) =
    ap (λ (l : List Run). cond (leb r.at 0) (r ∷ l) l) (of_nothing rs)
    ∙ ap (λ (b : Bool). cond b (r ∷ of_length 0 rs) (of_length 0 rs)) (at_nothing r.at (leb r.at 0) (nat_eq r.at 0) refl refl)

-- ---- The whole journal

-- The journal itself has no runs.
abbrev HasNoRun : Journal → Type 0
HasNoRun [] = Unit {0}
HasNoRun (frame w q g c ∷ before) = HasNoRun before
HasNoRun (run w a ts ∷ before) = ⊥
HasNoRun (setting w e ∷ before) = HasNoRun before
HasNoRun (failing w ∷ before) = HasNoRun before

-- one entry more, which runs nothing
one_entry : (rs : List Run) (n : ℕ) (j : Journal) → Shuffled (map goal_run (up_to n rs)) (goals_of_runs j)
    → Shuffled (map goal_run (up_to (suc n) rs)) (goals_of_runs (runs_at (suc n) rs ++ j))
one_entry rs n j s =
    let now : List Run = of_length (suc n) rs in
    let old : List Run = up_to n rs in
    let parts : Shuffled (map goal_run (up_to (suc n) rs)) (map goal_run now ++ map goal_run old) =
    subst (λ l. Shuffled (map goal_run (up_to (suc n) rs)) l) (map-append goal_run now old)
    (shuffled_map goal_run (up_to (suc n) rs) (now ++ old) (one_longer n rs)) in
    Shuffled.chain (map goal_run (up_to (suc n) rs)) (map goal_run now ++ map goal_run old) (goals_of_runs (map entry_of now ++ j)) parts
    (Shuffled.chain (map goal_run now ++ map goal_run old) (map goal_run now ++ goals_of_runs j) (goals_of_runs (map entry_of now ++ j))
    (shuffled_behind (map goal_run now) (map goal_run old) (goals_of_runs j) s) (runs_before now j))

-- The journal runs the goals of all runs up to its length.
woven_runs : (rs : List Run) (j : Journal) → HasNoRun j → Shuffled (map goal_run (up_to (length j) rs)) (goals_of_runs (woven rs j))
woven_runs rs [] h =
    subst (λ l. Shuffled (map goal_run l) (goals_of_runs (runs_at 0 rs ++ []))) (sym (of_nothing rs))
    (subst (λ l. Shuffled l (goals_of_runs (runs_at 0 rs ++ []))) (append-nil (map goal_run (of_length 0 rs))) (runs_before (of_length 0 rs) []))
woven_runs rs (frame w q g c ∷ b) h = one_entry rs (length b) (frame w q g c ∷ woven rs b) (woven_runs rs b h)
woven_runs rs (run w a ts ∷ b) h = absurd h
woven_runs rs (setting w e ∷ b) h = one_entry rs (length b) (setting w e ∷ woven rs b) (woven_runs rs b h)
woven_runs rs (failing w ∷ b) h = one_entry rs (length b) (failing w ∷ woven rs b) (woven_runs rs b h)

leb_is : (k n : ℕ) → k ≤ n → leb k n ≡ true
leb_is k n l = grind (arith, nat_tests)

-- Those of runs that were in time are all.
in_time : (rs : List Reduction) (runs : List RunInCells) (read : List Run) (n : ℕ) → AreRunsReadAs rs runs read
    → All (λ (r : RunInCells). r.at ≤ n) runs → up_to n read ≡ read
in_time rs [] [] n are all = refl
in_time rs [] (s ∷ read) n are all = absurd are
in_time rs (r ∷ runs) [] n are all = absurd are
in_time rs (r ∷ runs) (s ∷ read) n are all =
    let early : leb s.at n ≡ true = ap (λ (k : ℕ). leb k n) are.0.at ∙ leb_is r.at n (All-head (λ (x : RunInCells). x.at ≤ n) r runs all) in
    ap (λ (b : Bool). cond b (s ∷ up_to n read) (up_to n read)) early
    ∙ ap (λ (l : List Run). s ∷ l) (in_time rs runs read n are.1 (All-tail (λ (x : RunInCells). x.at ≤ n) r runs all))

-- Acts are read as a journal that has no runs.
no_run : (P : Program) (rs : List Reduction) (apart : Path) (a : Act) (e : Entry) (j : Journal) → IsReadAs P rs apart a e → HasNoRun j → HasNoRun (e ∷ j)
no_run P rs apart (takes w g r) e j h n = subst (λ x. HasNoRun (x ∷ j)) (sym h.2) n
no_run P rs apart (sets w d) e j h n = subst (λ x. HasNoRun (x ∷ j)) (sym h) n
no_run P rs apart (fails w) e j h n = subst (λ x. HasNoRun (x ∷ j)) (sym h) n

read_has_no_run : (P : Program) (rs : List Reduction) (apart : Path) (acts : List Act) (j : Journal) → AreReadAs P rs apart acts j → HasNoRun j
read_has_no_run P rs apart [] [] a = tt
read_has_no_run P rs apart [] (e ∷ j) a = absurd a
read_has_no_run P rs apart (x ∷ acts) [] a = absurd a
read_has_no_run P rs apart (x ∷ acts) (e ∷ j) a = no_run P rs apart x e j a.0 (read_has_no_run P rs apart acts j a.1)

-- ---- Runs in the cells and in the tree

-- The goal is arithmetic, and this is it in the tree that is written down.
pub record IsArithmeticAs (P : Program) (all : List Reduction) (g : Goal) (b : Arithmetic) : Type 0 where
  pub path : Path
  pub place : PlaceHas all g.node path
  pub what : Arithmetic
  pub is_arithmetic : item_at P g ≡ arithmetic what
  pub is : b ≡ arithmetic_in path what

-- Runs in cells are, as arithmetic, those of the tree.
runs_beside : (P : Program) (all : List Reduction) (runs : List RunInCells) (read : List Run) → AreRunsReadAs all runs read
    → ((r : RunInCells) → Contains runs r → item_at P r.goal ≡ arithmetic r.what)
    → Pairwise (IsArithmeticAs P all) (map (λ (r : RunInCells). r.goal) runs) (map goal_run read)
runs_beside P all [] [] are item = tt
runs_beside P all [] (s ∷ read) are item = absurd are
runs_beside P all (r ∷ runs) [] are item = absurd are
runs_beside P all (r ∷ runs) (s ∷ read) are item = (
  record { path = are.0.path; place = are.0.place; what = r.what; is_arithmetic = item r (contains_first r runs); is = are.0.goal },
  runs_beside P all runs read are.1 (λ x i. item x (contains_more r x runs i)),
)

-- A goal is one goal of arithmetic in the tree.
one_arithmetic : (P : Program) (all : List Reduction) (u : QueryTree P) → Makes P all u → (g : Goal) (b c : Arithmetic) → IsArithmeticAs P all g b
    → IsArithmeticAs P all g c → b ≡ c
one_arithmetic P all u made g b c x y =
    let paths : x.path ≡ y.path = place_once P all u made g.node g.node refl x.path y.path x.place y.place in
    let items : arithmetic x.what ≡ arithmetic y.what = sym x.is_arithmetic ∙ y.is_arithmetic in
    let whats : x.what ≡ y.what = cc in
    x.is ∙ ap (λ (p : Path). arithmetic_in p x.what) paths ∙ ap (arithmetic_in y.path) whats ∙ sym y.is

-- The goals that were run are arithmetic.
pub ran_arithmetic : (P : Program) (runs : List RunInCells) → ((r : RunInCells) → Contains runs r → item_at P r.goal ≡ arithmetic r.what) → (ran : List Goal)
    → IsPermutation ran (map (λ (r : RunInCells). r.goal) runs) → (g : Goal) → Contains ran g → (a : Arithmetic) × (item_at P g ≡ arithmetic a)
ran_arithmetic P runs item ran same g i =
    let goals : List Goal = map (λ (r : RunInCells). r.goal) runs in
    let Q : Goal → Type 0 = λ h. (a : Arithmetic) × (item_at P h ≡ arithmetic a) in
    let all : All Q goals =
    All-map Q (λ (r : RunInCells). r.goal) runs (λ n d low. let r = get_or runs n d in (r.what, item r (Contains-get_or runs n d low))) in
    All-contains Q ran g (All-permutation Q goals ran (IsPermutation-sym ran goals same) all) i

-- In the tree they are those that the journal runs.
pub runs_out : (P : Program) (all : List Reduction) (u : QueryTree P) → Makes P all u → (apart : Path) (acts : List Act) (j : Journal)
    → AreReadAs P all apart acts j → (runs : List RunInCells) (read : List Run) → AreRunsReadAs all runs read
    → All (λ (r : RunInCells). r.at ≤ length acts) runs → ((r : RunInCells) → Contains runs r → item_at P r.goal ≡ arithmetic r.what)
    → (ran : List Goal) → IsPermutation ran (map (λ (r : RunInCells). r.goal) runs) → (gone : List Arithmetic) → Pairwise (IsArithmeticAs P all) ran gone
    → TakenOut gone (goals_of_runs (woven read j)) []
runs_out P all u made apart acts j are runs read runs_are early item ran same gone were_run =
    let goals : List Goal = map (λ (r : RunInCells). r.goal) runs in
    let whole : List Arithmetic = goals_of_runs (woven read j) in
    let (others, beside, order) = shuffled_beside (IsArithmeticAs P all) ran goals (permutation_shuffled ran goals same) gone were_run in
    let others_are : others ≡ map goal_run read =
    one_beside (IsArithmeticAs P all) (one_arithmetic P all u made) goals others (map goal_run read) beside (runs_beside P all runs read runs_are item) in
    let read_early : All (λ (r : RunInCells). r.at ≤ length j) runs =
    subst (λ (n : ℕ). All (λ (r : RunInCells). r.at ≤ n) runs) (length_read P all apart acts j are) early in
    let last : Shuffled (map goal_run read) whole =
    subst (λ (l : List Run). Shuffled (map goal_run l) whole) (in_time all runs read (length j) runs_are read_early)
    (woven_runs read j (read_has_no_run P all apart acts j are)) in
    shuffled_all_out gone whole (Shuffled.chain gone (map goal_run read) whole (subst (λ l. Shuffled gone l) others_are order) last)
