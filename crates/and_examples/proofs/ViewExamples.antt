-- Branches as they are read in their cells, tried on two small programs.
use Rattle.std.proofs.Common.{ℕ, zero, suc, ◌≡◌, ◌⊎◌, ◌<◌, ◌+◌, true, false, [], ◌∷◌, refl, sym, ap, subst, ◌∙◌, inl, inr, true≢false, arith, codes}
use Rattle.std.specs.Prelude.{Contains}
use Rattle.std.specs.Fmt.{digits}
use Rattle.and_model.specs.Terms.{Path, variable, variables_of, apply}
use Rattle.and_model.specs.Solutions.{Solves}
use Rattle.and_model.specs.Programs.{clause_weight}
use Rattle.and_model.specs.Trees.{QueryTree, equations}
use Rattle.and_model.specs.Reached.{Dead}
use Rattle.and_model.specs.Reductions.{PlaceHas, Makes}
use Rattle.and_model.specs.Lines.{line}
use Rattle.and_model.specs.Stands.{Framed, IsLive, term_of}
use Rattle.and_model.specs.declared.goal.Goal.{Goal}
use Rattle.and_model.specs.declared.reference.Ref.TheVariants.{Cell, Node, Number}
use Rattle.and_model.proofs.Tested.{of_one, none_in}
use Rattle.and_laws.proofs.Ordered.{contains_cases}
use Rattle.and_laws.proofs.Pairwise.{all_none}
use Rattle.and_laws.proofs.Placing.{makes_same}
use Rattle.and_program.specs.Skeletons.{IsSkeleton}
use Rattle.and_cells.specs.Meaning.{StandsFor, unbound, bound, structure, integer}
use Rattle.and_cells.proofs.OneTerm.{one_term}
use Rattle.and_branch_laws.specs.Lines.{LineIsRead}
use Rattle.and_branch_laws.specs.Views.{View, IsReadIn, StandsIn, branch_of}
use Rattle.and_examples.specs.Texts.{own, whole}
use Rattle.and_examples.specs.BranchExamples.{item_of_query, taken_by, sum, sum_text, with_sum, without_sum}
use Rattle.and_examples.specs.KeptExamples.{node_of, of_query, summing, summed, not_summed}
use Rattle.and_examples.specs.NumbersExamples.{fails, fails_start}
use Rattle.and_examples.specs.ViewExamples.{fails_skeleton, failing, split_view, bound_row, free_row, sum_view}
use Rattle.and_examples.proofs.BranchExamples.{failed_stands, split_stands, ran_stands}
use Rattle.and_examples.proofs.NumbersExamples.{fails_other}
use Rattle.and_examples.proofs.StandsExamples.{nothing_ran}

pub skeleton_is : IsSkeleton fails_skeleton fails
skeleton_is = (
  (
    tt,
    (
      (omega arith, tt),
      (
        tt,
        ((omega arith, tt), (tt, ((omega arith, tt), (tt, ((omega arith, tt), (tt, (tt, ((omega arith, tt), (tt, ((omega arith, tt), tt)))))))))),
      ),
    ),
  ),
  (
    record { head = refl; head_there = omega arith; body = refl; body_there = (omega arith, (omega arith, tt)) },
    (
      record { head = refl; head_there = omega arith; body = refl; body_there = tt },
      (
        record { head = refl; head_there = omega arith; body = refl; body_there = tt },
        (
          record { head = refl; head_there = omega arith; body = refl; body_there = tt },
          (record { head = refl; head_there = omega arith; body = refl; body_there = tt }, tt),
        ),
      ),
    ),
  ),
)

-- The branch by clause 1 has failed: nothing need be read.
pub failed_stands_in : StandsIn (split_view 1 [] [] true) (1 ∷ []) failing 10
failed_stands_in = record { reading = λ base k. whole 1; stands = failed_stands; read = λ live. absurd (true≢false live) }

-- In that by clause 2, X is read as the 2 of the clause's head.
pub x_is_two : StandsFor failing bound_row (Cell 1) (whole 2)
x_is_two = bound 1 (Node (node_of 2) 2) (whole 2) (refl, λ e. cc) (structure (node_of 2) 2 (λ q k. variable q k) (λ v among. absurd (none_in v among)))

abbrev Reads : Goal → Type 0
Reads g = (v : Path × ℕ) → Contains (variables_of (term_of fails g)) v → StandsFor failing bound_row (Cell (g.base + 1 + v.1)) (whole 2)

split_read : IsReadIn failing bound_row (λ base k. whole 2) (item_of_query 1 ∷ [])
split_read = record { query = query; goals = of_one Reads (item_of_query 1) call }
  where
    query : (k : ℕ) → k < 1 → StandsFor failing bound_row (Cell (0 + 1 + k)) (whole 2)
    query zero below = x_is_two
    query (suc k) below = absurd (omega arith)

    call : (v : Path × ℕ) → Contains (([], 0) ∷ []) v → StandsFor failing bound_row (Cell (0 + 1 + v.1)) (whole 2)
    call v among = elim (contains_cases ([], 0) v [] among) [
      | inl is ↦ subst (λ (v : Path × ℕ). StandsFor failing bound_row (Cell (0 + 1 + v.1)) (whole 2)) (sym is) x_is_two
      | inr elsewhere ↦ absurd (none_in v elsewhere)
    ]

pub split_stands_in : StandsIn (split_view 2 bound_row (item_of_query 1 ∷ []) false) (2 ∷ []) failing 10
split_stands_in = record { reading = λ base k. whole 2; stands = split_stands; read = λ live. split_read }

-- The sum has run: Y is read as 3, and X as its own cell.
abbrev ReadsSum : Goal → Type 0
ReadsSum g = (v : Path × ℕ) → Contains (variables_of (term_of sum_text g)) v → StandsFor summing summed (Cell (g.base + 1 + v.1)) (with_sum g.base v.1)

sum_read : IsReadIn summing summed with_sum (item_of_query 1 ∷ [])
sum_read = record { query = query; goals = of_one ReadsSum (item_of_query 1) call }
  where
    query : (k : ℕ) → k < 2 → StandsFor summing summed (Cell (0 + 1 + k)) (with_sum 0 k)
    query zero below = bound 1 (Number 3) (whole 3) (refl, λ e. cc) (integer 3)
    query (suc zero) below = unbound 2 (omega arith) refl
    query (suc (suc k)) below = absurd (omega arith)

    call : (v : Path × ℕ) → Contains (([], 1) ∷ []) v → StandsFor summing summed (Cell (0 + 1 + v.1)) (with_sum 0 v.1)
    call v among = elim (contains_cases ([], 1) v [] among) [
      | inl is ↦ subst (λ (v : Path × ℕ). StandsFor summing summed (Cell (0 + 1 + v.1)) (with_sum 0 v.1)) (sym is) (unbound 2 (omega arith) refl)
      | inr elsewhere ↦ absurd (none_in v elsewhere)
    ]

pub ran_stands_in : StandsIn sum_view [] summing 10
ran_stands_in = record { reading = with_sum; stands = ran_stands; read = λ live. sum_read }

-- A branch in whose cells X is free does not stand for the split.
pub made_other : Makes fails (taken_by 2 ∷ []) fails_other
unfolding clause_weight
made_other = Makes.one_more [] [] (taken_by 2 ∷ []) fails_start (taken_by 2) (inl tt) refl Makes.none ([], PlaceHas.query, refl) refl refl

abbrev unread : View
unread = split_view 2 free_row (item_of_query 1 ∷ []) false

pub not_read : StandsIn unread (2 ∷ []) failing 10 → ⊥
not_read s = by_state s.stands.state
  where
    by_state : ((false ≡ true) × Dead s.stands.tree) ⊎ ((false ≡ false) × IsLive fails (branch_of unread s.reading) s.stands.tree) → ⊥
    by_state (inl failed) = true≢false (sym failed.0)
    by_state (inr (same, lives)) =
        let first : StandsFor failing free_row (Cell 1) (s.reading 0 0) = (s.read refl).query 0 (omega arith) in
        let reads : s.reading 0 0 ≡ own 1 = one_term failing free_row (Cell 1) (s.reading 0 0) (own 1) first (unbound 1 (omega arith) refl) in
        let rs = taken_by 2 ∷ [] in
        let is : s.stands.tree ≡ fails_other = makes_same fails rs rs s.stands.tree fails_other s.stands.made made_other (λ r. (λ i. i, λ i. i)) in
        let live : IsLive fails (branch_of unread s.reading) fails_other =
        subst (λ (t : QueryTree fails). IsLive fails (branch_of unread s.reading) t) is lives in
        let solved : live.solved ≡ equations fails_other = nothing_ran (equations fails_other) live.solved [] live.waits refl live.ran in
        let solves : Solves live.solution (equations fails_other) = subst (λ es. Solves live.solution es) solved live.general.0 in
        let head = solves.0 in
        let given : live.solution [] 0 ≡ whole 2 = cc in
        let back = live.read.1.1 in
        let to : apply live.read.1.0 (live.solution [] 0) ≡ s.reading 0 0 = cc in
        let clash : whole 2 ≡ own 1 = sym (ap (apply live.read.1.0) given) ∙ to ∙ reads in
        cc

-- The line of cells, before the sum has run and after.
pub line_after : (r : LineIsRead summing summed []) × (line sum_text r.terms r.waits ≡ codes "Y = 3, X = _0")
unfolding digits
line_after = (
  record { terms = λ q k. with_sum 0 k; framed = []; waits = []; goals_are = refl; waits_are = refl; query = sum_read.query; goals = all_none _ },
  refl,
)

free_cell : (k : ℕ) → k < 2 → StandsFor summing not_summed (Cell (0 + 1 + k)) (without_sum 0 k)
free_cell zero below = unbound 1 (omega arith) refl
free_cell (suc zero) below = unbound 2 (omega arith) refl
free_cell (suc (suc k)) below = absurd (omega arith)

pub line_before : (r : LineIsRead summing not_summed (item_of_query 0 ∷ [])) × (line sum_text r.terms r.waits ≡ codes "Y = _0, X = _1 with is(_0,+(1,2))")
unfolding digits
line_before = (
  record {
    terms = λ q k. without_sum 0 k;
    framed = of_query 0 ∷ [];
    waits = sum ∷ [];
    goals_are = refl;
    waits_are = refl;
    query = free_cell;
    goals = of_one (λ (f : Framed). (v : Path × ℕ) → Contains (variables_of (term_of sum_text f.goal)) v
        → StandsFor summing not_summed (Cell (f.goal.base + 1 + v.1)) (without_sum 0 v.1)) (of_query 0) its_cells;
  },
  refl,
)
  where
    its_cells : (v : Path × ℕ) → Contains (([], 0) ∷ []) v → StandsFor summing not_summed (Cell (0 + 1 + v.1)) (without_sum 0 v.1)
    its_cells v among = elim (contains_cases ([], 0) v [] among) [
      | inl is ↦ subst (λ (v : Path × ℕ). StandsFor summing not_summed (Cell (0 + 1 + v.1)) (without_sum 0 v.1)) (sym is) (free_cell 0 (omega arith))
      | inr elsewhere ↦ absurd (none_in v elsewhere)
    ]
