-- What branches keep in their cells, tried on two small programs.
use Rattle.std.proofs.Common.{ℕ, zero, suc, ◌≡◌, ◌≢◌, ◌<◌, ◌+◌, ◌++◌, false, List, [], ◌∷◌, refl, sym, ap, subst, ◌∙◌, inl, inr, arith}
use Rattle.std.specs.Prelude.{map, AllPairs, Contains}
use Rattle.std.proofs.lemmas.List.Kept.{AllPairs-cons}
use Rattle.and_model.specs.Terms.{Path, Term, Terms, variable, none, more, Substitution, apply}
use Rattle.and_model.specs.Solutions.{Equation, Solves}
use Rattle.and_model.specs.Arithmetic.{less}
use Rattle.and_model.specs.Programs.{Arithmetic, compare, clause_weight}
use Rattle.and_model.specs.Closure.{Known}
use Rattle.and_model.specs.Trees.{equations}
use Rattle.and_model.specs.Reductions.{Reduction, PlaceHas}
use Rattle.and_model.specs.Stands.{Framed, IsFramed}
use Rattle.and_model.specs.Store.{is_half}
use Rattle.and_model.specs.declared.goal.Goal.{Goal}
use Rattle.and_model.specs.declared.reference.Ref.{Ref}
use Rattle.and_model.specs.declared.reference.Ref.TheVariants.{Free, Cell, Number}
use Rattle.and_model.proofs.Tested.{of_one, of_two as both, none_in}
use Rattle.and_laws.proofs.Ordered.{contains_cases}
use Rattle.and_laws.proofs.Pairwise.{all_none, all_pairs_none}
use Rattle.and_laws.specs.Naming.{under}
use Rattle.and_program.specs.Skeletons.{IsSkeleton}
use Rattle.and_cells.specs.Ranges.{CanHold, IsGoalInRange}
use Rattle.and_cells.specs.Seen.{word_at}
use Rattle.and_cells.specs.Rows.{IsSound}
use Rattle.and_cells.specs.Meaning.{unbound, bound, IsSettled, cell_variable, equations_of}
use Rattle.and_cells.specs.Solved.{HasTerm}
use Rattle.and_cell_laws.proofs.Settling.{settled_rows_have_terms}
use Rattle.and_branch_laws.specs.Variables.{AreNames}
use Rattle.and_branch_laws.specs.Tasks.{Task, run, tasks, Drops, RanAmong}
use Rattle.and_branch_laws.specs.Judging.{CandidateInCells}
use Rattle.and_branch_laws.specs.Kept.{Kept, KeptIn, HasFreePair, task_of, node_item_at}
use Rattle.and_examples.specs.Texts.{own, whole}
use Rattle.and_examples.specs.BasesExamples.{P, p, three, tree, by_first}
use Rattle.and_examples.specs.BranchExamples.{taken_by}
use Rattle.and_examples.specs.KeptExamples.{skeleton, text, row, in_first, goals, turned, more_bound, less_bound, view, item_of_first}
use Rattle.and_examples.proofs.BasesExamples.{made}

-- ---- p(X) :- q(X), X < 3. q(1). q(2). ?- p(Y).
pub skeleton_is : IsSkeleton skeleton P
skeleton_is = (
  (tt, ((omega arith, tt), (tt, ((omega arith, tt), (tt, (tt, (tt, ((omega arith, tt), (tt, ((omega arith, tt), (tt, (tt, ((omega arith, tt), tt))))))))))))),
  (
    record { head = refl; head_there = omega arith; body = refl; body_there = (omega arith, tt) },
    (
      record { head = refl; head_there = omega arith; body = refl; body_there = (omega arith, ((omega arith, omega arith), tt)) },
      (
        record { head = refl; head_there = omega arith; body = refl; body_there = tt },
        (record { head = refl; head_there = omega arith; body = refl; body_there = tt }, tt),
      ),
    ),
  ),
)

-- the variable of clause 1, and the comparison, in the tree
abbrev x : Term
x = variable (0 ∷ []) 0

abbrev below : Arithmetic
below = compare less x three

-- The variables of the query, and those of a clause at the place 2 that took its first item, by their cells.
abbrev pub names : Substitution
names [] k = cell_variable (0 + 1 + k)
names (zero ∷ []) k = cell_variable (2 + 1 + k)
names (zero ∷ i ∷ q) k = variable (zero ∷ i ∷ q) k
names (suc i ∷ q) k = variable (suc i ∷ q) k

module _ (clause : ℕ) where
  only : (r : Reduction) → Contains (taken_by clause ∷ []) r → r ≡ taken_by clause
  only r among = elim (contains_cases (taken_by clause) r [] among) [ inl is ↦ is | inr elsewhere ↦ absurd (none_in r elsewhere) ]

  root_path : (n : ℕ) (q : Path) → PlaceHas (taken_by clause ∷ []) n q → n ≡ 0 → q ≡ []
  root_path n q PlaceHas.query is = refl
  root_path n q (PlaceHas.reduced r s among place) is =
      let two : r.node ≡ 2 = ap (λ (r : Reduction). r.node) (only r among) in absurd (omega arith)

  pub are_names : AreNames (taken_by clause ∷ []) names
  are_names node q PlaceHas.query k = refl
  are_names node q (PlaceHas.reduced r s among place) k =
      let is : r ≡ taken_by clause = only r among in
      let begins : s ≡ [] = root_path r.parent s place (ap (λ (r : Reduction). r.parent) is) in
      subst (λ (r : Reduction). names (s ++ r.item ∷ []) k ≡ cell_variable (r.node + 1 + k)) (sym is)
      (subst (λ (s : Path). names (s ++ 0 ∷ []) k ≡ cell_variable (2 + 1 + k)) (sym begins) refl)

is_framed : (item : ℕ) → IsFramed (by_first ∷ []) (in_first item)
is_framed item = (PlaceHas.reduced by_first [] (0, omega arith, refl) PlaceHas.query, inr (by_first, (0, omega arith, refl), refl, refl))

fits : (place : ℕ) → CanHold text 4 place (word_at row place)
fits zero = tt
fits (suc zero) = tt
fits (suc (suc zero)) = tt
fits (suc (suc (suc zero))) = omega arith
fits (suc (suc (suc (suc place)))) = tt

sound : IsSound text row
sound = record { fits = fits; written = no_number; short = omega arith }
  where
    no_number : (place pair : ℕ) → word_at row place ≡ Number pair → (word_at row pair ≢ Free) × (word_at row (suc pair) ≢ Free)
    no_number zero pair is = absurd (cc)
    no_number (suc zero) pair is = absurd (cc)
    no_number (suc (suc zero)) pair is = absurd (cc)
    no_number (suc (suc (suc zero))) pair is = absurd (cc)
    no_number (suc (suc (suc (suc place)))) pair is = absurd (cc)

no_half : (place : ℕ) → is_half (word_at row place) ≡ false
no_half zero = refl
no_half (suc zero) = refl
no_half (suc (suc zero)) = refl
no_half (suc (suc (suc zero))) = refl
no_half (suc (suc (suc (suc place)))) = refl

have_terms : (cell : ℕ) → cell < 4 → is_half (word_at row cell) ≡ false → HasTerm text row (Cell cell)
have_terms zero within half = (cell_variable 0, unbound 0 within refl)
have_terms (suc zero) within half = (cell_variable 1, unbound 1 within refl)
have_terms (suc (suc zero)) within half = (cell_variable 2, unbound 2 within refl)
have_terms (suc (suc (suc zero))) within half = (cell_variable 1, bound 3 (Cell 1) (cell_variable 1) (refl, λ e. cc) (unbound 1 (omega arith) refl))
have_terms (suc (suc (suc (suc cell)))) within half = absurd (omega arith)

settled : IsSettled text row
settled = (settled_rows_have_terms text row sound).1 have_terms

call_in_range : IsGoalInRange text 4 (in_first 0).goal
call_in_range = record {
  clause = _;
  item = _;
  clause_is = refl;
  item_is = refl;
  item_in_range = record {
    there = omega arith;
    nameable = omega arith;
    base_below = omega arith;
    cells = of_one (λ (v : Path × ℕ). 2 + 1 + v.1 < 4) ([], 0) (omega arith);
  };
}

comparison_in_range : IsGoalInRange text 4 (in_first 1).goal
comparison_in_range = record {
  clause = _;
  item = _;
  clause_is = refl;
  item_is = refl;
  item_in_range = (
    record { there = omega arith; nameable = omega arith; base_below = omega arith; cells = of_one (λ (v : Path × ℕ). 2 + 1 + v.1 < 4) ([], 0) (omega arith) },
    record { there = omega arith; nameable = omega arith; base_below = omega arith; cells = all_none (λ (v : Path × ℕ). 2 + 1 + v.1 < 4) },
  );
}

-- goals that are kept once
pub once_alone : (f : Framed) → AllPairs (λ (f g : Framed). f.goal ≢ g.goal) (f ∷ [])
once_alone f =
    AllPairs-cons (λ (f g : Framed). f.goal ≢ g.goal) f [] (all_none (λ (g : Framed). f.goal ≢ g.goal)) (all_pairs_none (λ (f g : Framed). f.goal ≢ g.goal))

pub once_both : (f g : Framed) → f.goal ≢ g.goal → AllPairs (λ (f g : Framed). f.goal ≢ g.goal) (f ∷ g ∷ [])
once_both f g apart = AllPairs-cons (λ (f g : Framed). f.goal ≢ g.goal) f (g ∷ []) (of_one (λ (g : Framed). f.goal ≢ g.goal) g apart) (once_alone g)

items_apart : (in_first 0).goal ≢ (in_first 1).goal
items_apart same = let items : zero ≡ suc zero = ap (λ (g : Goal). g.item) same in omega arith

pub kept : Kept text (by_first ∷ []) row goals tree
unfolding clause_weight
kept = record {
  has = record {
    made = made;
    long = refl;
    sound = sound;
    framed = both (IsFramed (by_first ∷ [])) (in_first 0) (in_first 1) (is_framed 0) (is_framed 1);
    based = both (λ (f : Framed). f.goal.base ≡ f.goal.node) (in_first 0) (in_first 1) refl refl;
    in_range = both (λ (f : Framed). IsGoalInRange text 4 f.goal) (in_first 0) (in_first 1) call_in_range comparison_in_range;
    once = once_both (in_first 0) (in_first 1) items_apart;
    solved = equations tree;
    ran = RanAmong.none_yet (equations tree) (tasks tree);
    names = names;
    named = are_names 1;
    whole = λ v i. no_half (i.node + 1 + v.1);
    free = both (λ (f : Framed). HasFreePair text row f.goal (node_item_at text f.goal)) (in_first 0) (in_first 1) tt tt;
  };
  settled = settled;
  states = λ s h. (ap p (sym h.0), tt);
  stated = λ s h. (let e = h.0 in cc, tt);
}

pub in_view : KeptIn text view tree
in_view = record { kept = goals; keeps = kept; goals = refl; waiting = refl; used = refl; live = refl }

-- Every variable is this number, and each variable of the query's frame is its own.
abbrev all_are : ℕ → Substitution
all_are n q k = whole n

abbrev each_is : Substitution
each_is q k = whole k

-- The comparison can't run: X is 1 under one solution of the tree's equations, and 2 under another.
never_known : (ts : Terms) → Known (equations tree) below ts → ⊥
never_known ts known =
    let one : more (whole 1) (more three none) ≡ ts = known.1 (all_are 1) (refl, tt) in
    let two : more (whole 2) (more three none) ≡ ts = known.1 (all_are 2) (refl, tt) in
    cc

nothing_dropped : (ts : List Task) (a : Arithmetic) (us : List Task) → ts ≡ [] → Drops ts a us → ⊥
nothing_dropped ts a us is (Drops.here _ rest) = cc
nothing_dropped ts a us is (Drops.behind t rest _ vs dropped) = cc

last_dropped : (ts : List Task) (a : Arithmetic) (us : List Task) → ts ≡ run below ∷ [] → Drops ts a us → a ≡ below
last_dropped ts a us is (Drops.here _ rest) = cc
last_dropped ts a us is (Drops.behind t rest _ vs dropped) = let empty : rest ≡ [] = cc in absurd (nothing_dropped rest a vs empty dropped)

dropped : (ts : List Task) (a : Arithmetic) (us : List Task) → ts ≡ tasks tree → Drops ts a us → a ≡ below
dropped ts a us is (Drops.here _ rest) = cc
dropped ts a us is (Drops.behind t rest _ vs later) = let one : rest ≡ run below ∷ [] = cc in last_dropped rest a vs one later

none_run : (es : List Equation) (ts : List Task) (ds : List Equation) (us : List Task) → es ≡ equations tree → ts ≡ tasks tree → RanAmong es ts ds us
    → (ds ≡ es) × (us ≡ ts)
none_run es ts ds us equal same (RanAmong.none_yet _ _) = (refl, refl)
none_run es ts ds us equal same (RanAmong.one _ _ a vs values _ _ drops known later) =
    let first : Known (equations tree) a values = subst (λ (es : List Equation). Known es a values) equal known in
    absurd (never_known values (subst (λ (g : Arithmetic). Known (equations tree) g values) (dropped ts a vs same drops) first))

-- The tree's equations hold wherever the two cells are the same.
same_cells : (row : List Ref) (gs : List Framed) (k : Kept text (by_first ∷ []) row gs tree) (s : Substitution)
    → s [] 1 ≡ s [] 3 → Solves s (under k.names k.solved)
same_cells row gs k s same =
    let y : k.names [] 0 ≡ own 1 = k.named 0 [] PlaceHas.query 0 in
    let x : k.names (0 ∷ []) 0 ≡ own 3 = k.named 2 (0 ∷ []) (PlaceHas.reduced by_first [] (0, omega arith, refl) PlaceHas.query) 0 in
    let is : k.solved ≡ equations tree = (none_run (equations tree) (tasks tree) k.solved (map (task_of P) gs) refl refl k.ran).0 in
    subst (λ (es : List Equation). Solves s (under k.names es)) (sym is)
    (ap (λ (t : Term). p (apply s t)) y ∙ ap p same ∙ sym (ap (λ (t : Term). p (apply s t)) x), tt)

pub says_more : Kept text (by_first ∷ []) more_bound goals tree → ⊥
says_more k =
    let solves : Solves (all_are 5) (equations_of text more_bound) = k.stated (all_are 5) (same_cells more_bound goals k (all_are 5) refl) in
    let clash : whole 5 ≡ whole 1 = solves.0 in
    cc

pub says_less : Kept text (by_first ∷ []) less_bound goals tree → ⊥
says_less k =
    let y : k.names [] 0 ≡ own 1 = k.named 0 [] PlaceHas.query 0 in
    let x : k.names (0 ∷ []) 0 ≡ own 3 = k.named 2 (0 ∷ []) (PlaceHas.reduced by_first [] (0, omega arith, refl) PlaceHas.query) 0 in
    let is : k.solved ≡ equations tree = (none_run (equations tree) (tasks tree) k.solved (map (task_of P) goals) refl refl k.ran).0 in
    let solves : Solves each_is (under k.names (equations tree)) = subst (λ (es : List Equation). Solves each_is (under k.names es)) is (k.states each_is tt) in
    let clash : p (whole 1) ≡ p (whole 3) = sym (ap (λ (t : Term). p (apply each_is t)) y) ∙ solves.0 ∙ ap (λ (t : Term). p (apply each_is t)) x in
    cc

pub out_of_order : Kept text (by_first ∷ []) row turned tree → ⊥
out_of_order k =
    let same : map (task_of P) turned ≡ tasks tree = (none_run (equations tree) (tasks tree) k.solved (map (task_of P) turned) refl refl k.ran).1 in
    cc

-- The candidates of q(X) in the cells are those of its predicate, and where X is 1 the last of them is none.
pub both_are : CandidateInCells text row (item_of_first 0) 2 × CandidateInCells text row (item_of_first 0) 3
both_are = ((refl, (all_are 1, (refl, (refl, tt))), λ a i. elim i [ ]), (refl, (all_are 2, (refl, (refl, tt))), λ a i. elim i [ ]))

pub one_is_none : CandidateInCells text more_bound (item_of_first 0) 3 → ⊥
one_is_none k = let call = k.1.1.0 in let y = k.1.1.1.0 in let x = k.1.1.1.1.0 in cc
