-- Goals and cells side by side, as one list.
use Rattle.std.proofs.Common.{ℕ, zero, suc, ◌≡◌, ◌+◌, ◌-◌, ◌<◌, ◌≤◌, List, [], ◌∷◌, ◌++◌, ◌∙◌, map, take, take_all, drop, slice_set, get_or, length, refl}
use Rattle.std.proofs.Common.{sym, ap, subst, arith}
use Rattle.std.specs.Prelude.{All, IsPermutation}
use Rattle.std.specs.List.{swap_remove}
use Rattle.std.proofs.lemmas.List.{drop_more, length-drop, take-append-drop}
use Rattle.std.proofs.lemmas.List.Elements.{All-nil, All-cons, All-head, All-tail, All-weaker, All-append}
use Rattle.std.proofs.lemmas.List.Sorted.{IsPermutation-swap_remove}
use Rattle.and_model.specs.declared.goal.Goal.{Goal}
use Rattle.and_cells.specs.Ranges.{NamedProgram}
use Rattle.and_cells.specs.Seen.{Seen, OnlyReads, Misses}
use Rattle.and_cells.proofs.Chains.{reads_nothing, reads_more, misses_reads}
use Rattle.and_workers.specs.Waiting.{Waiting, waiting, waiting_for, LookedFree, LookedSet, Wakes}

pub one_more : (goals : List Goal) (cells : List ℕ) (goal : Goal) (cell : ℕ) → length goals ≡ length cells
    → waiting (goals ++ goal ∷ []) (cells ++ cell ∷ []) ≡ waiting goals cells ++ waiting_for goal cell ∷ []
one_more [] [] goal cell same = refl
one_more [] (c ∷ cs) goal cell same = absurd (omega arith)
one_more (g ∷ gs) [] goal cell same = absurd (omega arith)
one_more (g ∷ gs) (c ∷ cs) goal cell same = ap (λ ws. waiting_for g c ∷ ws) (one_more gs cs goal cell (omega arith))

pub goals_of : (goals : List Goal) (cells : List ℕ) → length goals ≡ length cells → goals ≡ map (λ (w : Waiting). w.goal) (waiting goals cells)
goals_of [] cells same = refl
goals_of (g ∷ gs) [] same = absurd (omega arith)
goals_of (g ∷ gs) (c ∷ cs) same = ap (λ ws. g ∷ ws) (goals_of gs cs (omega arith))

pub all_cells : (P : ℕ → Type 0) (goals : List Goal) (cells : List ℕ) → length goals ≡ length cells
    → All (λ (w : Waiting). P w.cell) (waiting goals cells) → All P cells
all_cells P [] [] same all = All-nil P
all_cells P [] (c ∷ cs) same all = absurd (omega arith)
all_cells P (g ∷ gs) [] same all = All-nil P
all_cells P (g ∷ gs) (c ∷ cs) same all =
    let Q : Waiting → Type 0 = λ w. P w.cell in
    All-cons P c cs (All-head Q (waiting_for g c) (waiting gs cs) all) (all_cells P gs cs (omega arith) (All-tail Q (waiting_for g c) (waiting gs cs) all))

pub all_waiting : (P : ℕ → Type 0) (goals : List Goal) (cells : List ℕ) → All P cells → All (λ (w : Waiting). P w.cell) (waiting goals cells)
all_waiting P [] cells all = All-nil (λ (w : Waiting). P w.cell)
all_waiting P (g ∷ gs) [] all = All-nil (λ (w : Waiting). P w.cell)
all_waiting P (g ∷ gs) (c ∷ cs) all =
    All-cons (λ (w : Waiting). P w.cell) (waiting_for g c) (waiting gs cs) (All-head P c cs all) (all_waiting P gs cs (All-tail P c cs all))

-- a look that found a cell free is followed by more looks
free_later : (shared cell : ℕ) (old mid new : Seen) → OnlyReads mid new → LookedFree shared cell old mid → LookedFree shared cell old new
free_later shared cell old mid new more f =
    record { before = f.before; after = f.after; reads = f.reads; misses = f.misses; reads_on = reads_more f.after mid new f.reads_on more }

pub all_later : (shared : ℕ) (old mid new : Seen) → OnlyReads mid new → (cells : List ℕ)
    → All (λ c. LookedFree shared c old mid) cells → All (λ c. LookedFree shared c old new) cells
all_later shared old mid new more cells =
    All-weaker (λ c. LookedFree shared c old mid) (λ c. LookedFree shared c old new) (λ c. free_later shared c old mid new more) cells

-- one cell more was found free, from the last one on
pub one_more_free : (shared : ℕ) (old mid new : Seen) (cells : List ℕ) (place cell : ℕ) → 0 < place → place ≤ length cells → get_or cells (place - 1) 0 ≡ cell
    → OnlyReads old mid → Misses shared cell mid new
    → All (λ c. LookedFree shared c old mid) (drop place cells) → All (λ c. LookedFree shared c old new) (drop (place - 1) cells)
one_more_free shared old mid new cells place cell some below is reads misses all =
    let F : ℕ → Type 0 = λ c. LookedFree shared c old new in
    let here : F cell = record { before = mid; after = new; reads = reads; misses = misses; reads_on = reads_nothing new } in
    let same : place ≡ place - 1 + 1 = omega arith in
    let behind = subst (λ k. All (λ c. LookedFree shared c old mid) (drop k cells)) same all in
    subst (All F) (sym (drop_more cells (place - 1) 0 (omega arith)))
    (All-cons F (get_or cells (place - 1) 0) (drop (place - 1 + 1) cells) (subst F (sym is) here)
    (all_later shared old mid new (misses_reads shared cell mid new misses) (drop (place - 1 + 1) cells) behind))

-- looks after others
pub free_earlier : (shared : ℕ) (old mid new : Seen) → OnlyReads old mid → (cells : List ℕ)
    → All (λ c. LookedFree shared c mid new) cells → All (λ c. LookedFree shared c old new) cells
free_earlier shared old mid new reads cells = All-weaker (λ c. LookedFree shared c mid new) (λ c. LookedFree shared c old new)
    (λ c f. record { before = f.before; after = f.after; reads = reads_more old mid f.before reads f.reads; misses = f.misses; reads_on = f.reads_on }) cells

pub set_earlier : (P : NamedProgram) (cell : ℕ) (old mid new : Seen) → OnlyReads old mid → LookedSet P cell mid new → LookedSet P cell old new
set_earlier P cell old mid new reads s = record { before = s.before; value = s.value; reads = reads_more old mid s.before reads s.reads; finds = s.finds }

-- both parts were found free
pub both_free : (shared : ℕ) (old mid new : Seen) (cells : List ℕ) (from : ℕ) → OnlyReads old mid → OnlyReads mid new
    → All (λ c. LookedFree shared c old mid) (take from cells) → All (λ c. LookedFree shared c mid new) (drop from cells)
    → All (λ c. LookedFree shared c old new) cells
both_free shared old mid new cells from reads more front back =
    let F : ℕ → Type 0 = λ c. LookedFree shared c old new in
    subst (All F) (take-append-drop from cells) (All-append F (take from cells) (drop from cells)
    (all_later shared old mid new more (take from cells) front) (free_earlier shared old mid new reads (drop from cells) back))

pub rest_is : (cells : List ℕ) (from : ℕ) → take (length cells - from) (drop from cells) ≡ drop from cells
rest_is cells from = let long = length-drop from cells in take_all (length cells - from) (drop from cells) (omega arith)

waiting_at : (goals : List Goal) (cells : List ℕ) (i : ℕ) (g : Goal) (c : ℕ) → length goals ≡ length cells
    → get_or (waiting goals cells) i (waiting_for g c) ≡ waiting_for (get_or goals i g) (get_or cells i c)
waiting_at [] [] i g c same = refl
waiting_at [] (k ∷ cs) i g c same = absurd (omega arith)
waiting_at (h ∷ gs) [] i g c same = absurd (omega arith)
waiting_at (h ∷ gs) (k ∷ cs) zero g c same = refl
waiting_at (h ∷ gs) (k ∷ cs) (suc i) g c same = waiting_at gs cs i g c (omega arith)

waiting_set : (goals : List Goal) (cells : List ℕ) (i : ℕ) (g : Goal) (c : ℕ) → length goals ≡ length cells
    → waiting (slice_set goals i g) (slice_set cells i c) ≡ slice_set (waiting goals cells) i (waiting_for g c)
waiting_set [] [] i g c same = refl
waiting_set [] (k ∷ cs) i g c same = absurd (omega arith)
waiting_set (h ∷ gs) [] i g c same = absurd (omega arith)
waiting_set (h ∷ gs) (k ∷ cs) zero g c same = refl
waiting_set (h ∷ gs) (k ∷ cs) (suc i) g c same = ap (λ ws. waiting_for h k ∷ ws) (waiting_set gs cs i g c (omega arith))

waiting_first : (goals : List Goal) (cells : List ℕ) (n : ℕ) → waiting (take n goals) (take n cells) ≡ take n (waiting goals cells)
waiting_first goals cells zero = refl
waiting_first [] cells (suc n) = refl
waiting_first (g ∷ gs) [] (suc n) = refl
waiting_first (g ∷ gs) (c ∷ cs) (suc n) = ap (λ ws. waiting_for g c ∷ ws) (waiting_first gs cs n)

waiting_length : (goals : List Goal) (cells : List ℕ) → length goals ≡ length cells → length (waiting goals cells) ≡ length goals
waiting_length [] [] same = refl
waiting_length [] (c ∷ cs) same = absurd (omega arith)
waiting_length (g ∷ gs) [] same = absurd (omega arith)
waiting_length (g ∷ gs) (c ∷ cs) same = ap suc (waiting_length gs cs (omega arith))

waiting_removed : (goals : List Goal) (cells : List ℕ) (i : ℕ) (g : Goal) (c : ℕ) → length goals ≡ length cells
    → waiting (swap_remove goals i g) (swap_remove cells i c) ≡ swap_remove (waiting goals cells) i (waiting_for g c)
waiting_removed goals cells i g c same =
    let n = length goals - 1 in
    let last_goal = get_or goals n g in
    let last_cell = get_or cells n c in
    ap (λ m. waiting (take n (slice_set goals i last_goal)) (take (m - 1) (slice_set cells i (get_or cells (m - 1) c)))) (sym same)
    ∙ waiting_first (slice_set goals i last_goal) (slice_set cells i last_cell) n
    ∙ ap (take n) (waiting_set goals cells i last_goal last_cell same)
    ∙ ap (λ w. take n (slice_set (waiting goals cells) i w)) (sym (waiting_at goals cells n g c same))
    ∙ ap (λ m. take (m - 1) (slice_set (waiting goals cells) i (get_or (waiting goals cells) (m - 1) (waiting_for g c))))
    (sym (waiting_length goals cells same))

-- the goal at a place is taken out with its cell
pub wakes_at : (P : NamedProgram) (old new : Seen) (goals : List Goal) (cells : List ℕ) (place cell : ℕ) (goal : Goal)
    → length goals ≡ length cells → place < length cells → goal ≡ get_or goals place goal → cell ≡ get_or cells place cell
    → LookedSet P cell old new
    → Wakes P goal (waiting goals cells) (waiting (swap_remove goals place goal) (swap_remove cells place cell)) old new
wakes_at P old new goals cells place cell goal same below is cell_is set = record {
  cell = cell;
  taken = subst (λ ws. IsPermutation (waiting goals cells) (waiting_for goal cell ∷ ws)) (sym (waiting_removed goals cells place goal cell same))
      (IsPermutation-swap_remove (waiting goals cells) place (waiting_for goal cell)
      (subst (λ n. place < n) (sym (waiting_length goals cells same)) (omega arith))
      (sym (waiting_at goals cells place goal cell same ∙ ap (λ g. waiting_for g (get_or cells place cell)) (sym is) ∙ ap (waiting_for goal) (sym cell_is))));
  set = set;
}
