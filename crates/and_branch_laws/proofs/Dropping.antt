-- A branch that ran one of its goals of arithmetic keeps what a branch keeps.
use Rattle.std.proofs.Common.{ℕ, ℤ, suc, ◌≡◌, ◌≢◌, true, false, List, [], ◌∷◌, ◌++◌, length, map, Some, refl, sym, ap, ◌∙◌, subst, inl, inr}
use Rattle.std.proofs.Common.{◌⊎◌, Contains}
use Rattle.std.specs.Prelude.{All, AllPairs}
use Rattle.std.proofs.lemmas.Bool.{true≢false}
use Rattle.std.proofs.lemmas.List.{map-append}
use Rattle.std.proofs.lemmas.List.Elements.{All-nil, All-contains, All-head, Contains-append_left, Contains-append_right}
use Rattle.std.proofs.lemmas.List.Elements.{Contains-append_cases}
use Rattle.and_model.specs.Terms.{Terms, number, Substitution, apply}
use Rattle.and_model.specs.Solutions.{Equation, Solves, Entails}
use Rattle.and_model.specs.Programs.{Item, arithmetic, Arithmetic, arithmetic_in}
use Rattle.and_model.specs.Closure.{added, Known}
use Rattle.and_model.specs.Trees.{QueryTree, equations}
use Rattle.and_model.specs.Reductions.{Reduction}
use Rattle.and_model.specs.Stands.{Framed, IsFramed}
use Rattle.and_laws.proofs.Pairwise.{all_pairs_none, all_pairs_first}
use Rattle.and_laws.proofs.Ordered.{contains_first, contains_more, contains_cases, contains_none}
use Rattle.and_cells.specs.Ranges.{NamedProgram, IsGoalInRange}
use Rattle.and_model.specs.declared.reference.Ref.{Ref}
use Rattle.and_model.specs.Store.{is_half}
use Rattle.and_model.specs.declared.reference.Ref.TheVariants.{Free, Cell, Node, Number, Half}
use Rattle.and_laws.proofs.Equality.{number_or}
use Rattle.and_cells.specs.Rows.{IsSound}
use Rattle.and_cells.specs.Numbers.{number_of}
use Rattle.and_cells.specs.Seen.{word_at, IsSetTo}
use Rattle.and_cells.specs.Meaning.{equations_of, equations_between, shallow_cells}
use Rattle.and_cells.specs.Joined.{value}
use Rattle.and_cell_laws.proofs.Between.{one_value, names_no_half, between_solved}
use Rattle.and_branch_laws.specs.Settling.{IsWritten}
use Rattle.and_branch_laws.proofs.Rows.{words_solved, row_solved}
use Rattle.and_branch_laws.specs.OwnVariables.{OwnVariables}
use Rattle.and_branch_laws.specs.Tasks.{Task, run, tasks, Drops, RanAmong}
use Rattle.and_branch_laws.specs.Kept.{item_at, task_in, task_of, node_item_at, HasFreePair, Kept}
use Rattle.and_branch_laws.proofs.Lists.{all_replaced, pairs_replaced, pairs_right, pairs_across}
use Rattle.and_branch_laws.proofs.Tasks.{ran_more, drop_at}

-- Nothing in the place of an element
pub all_without : {X : Type 0} (Q R : X → Type 0) (front : List X) (x : X) (back : List X) → ((y : X) → Q y → R y)
    → All Q (front ++ x ∷ back) → All R (front ++ back)
all_without Q R front x back f a = all_replaced Q R front x back [] f a (All-nil R)

module _ (P : NamedProgram) (own : OwnVariables P) (rs : List Reduction) (row : List Ref) (front : List Framed) (f : Framed)
    (back : List Framed) (tree : QueryTree P.program)
    (k : Kept P rs row (front ++ f ∷ back) tree) (a : Arithmetic) (item : item_at P.program f.goal ≡ arithmetic a) (us : Terms)
    (known : Known k.solved (arithmetic_in f.frame a) us) where
  pub f_kept : Contains (front ++ f ∷ back) f
  f_kept = Contains-append_right front (f ∷ back) f (contains_first f back)

  -- The goal is run last.
  pub dropped_ran : RanAmong (equations tree) (tasks tree) (added (arithmetic_in f.frame a) us ++ k.solved)
      (map (task_of P.program) (front ++ back))
  dropped_ran =
      let T : Framed → Task = task_of P.program in
      let is_run : T f ≡ run (arithmetic_in f.frame a) = ap (λ (i : Item). task_in P.program f i) item in
      let was : map T (front ++ f ∷ back) ≡ map T front ++ run (arithmetic_in f.frame a) ∷ map T back = map-append T front (f ∷ back)
      ∙ ap (λ (t : Task). map T front ++ t ∷ map T back) is_run in
      let drops : Drops (map T (front ++ f ∷ back)) (arithmetic_in f.frame a) (map T (front ++ back)) =
      subst (λ (l : List Task). Drops l (arithmetic_in f.frame a) (map T (front ++ back))) (sym was)
      (subst (λ (l : List Task). Drops (map T front ++ run (arithmetic_in f.frame a) ∷ map T back) (arithmetic_in f.frame a) l)
      (sym (map-append T front back)) (drop_at (map T front) (arithmetic_in f.frame a) (map T back))) in
      ran_more (equations tree) (tasks tree) k.solved (map T (front ++ f ∷ back)) k.ran (arithmetic_in f.frame a)
      (map T (front ++ back)) us drops known

  pub still_once : AllPairs (λ (y z : Framed). y.goal ≢ z.goal) (front ++ back)
  still_once =
      let R : Framed → Framed → Type 0 = λ y z. y.goal ≢ z.goal in
      pairs_replaced R front f back [] k.once (all_pairs_none R) (λ y z i j. absurd (contains_none z j))
      (λ y z i j. absurd (contains_none y i))

  -- The other goals are not that one.
  pub others_apart : (h : Framed) → Contains (front ++ back) h → h.goal ≢ f.goal
  others_apart h i =
      let R : Framed → Framed → Type 0 = λ y z. y.goal ≢ z.goal in
      elim (Contains-append_cases front back h i) [
        | inl j ↦ All-head (R h) f back
            (All-contains (λ (y : Framed). All (R y) (f ∷ back)) front h (pairs_across R front (f ∷ back) k.once) j)
        | inr j ↦ λ e. All-contains (R f) back h (all_pairs_first R f back (pairs_right R front (f ∷ back) k.once)) j (sym e)
      ]

  pub still_kept : (h : Framed) → Contains (front ++ back) h → Contains (front ++ f ∷ back) h
  still_kept h i = elim (Contains-append_cases front back h i) [
    | inl j ↦ Contains-append_left front (f ∷ back) h j
    | inr j ↦ Contains-append_right front (f ∷ back) h (contains_more f h back j)
  ]

  -- Where it adds nothing, all else stays.
  pub added_nothing : added (arithmetic_in f.frame a) us ≡ [] → Kept P rs row (front ++ back) tree
  added_nothing e = record {
    has = record {
      made = k.made;
      long = k.long;
      sound = k.sound;
      framed = all_without (IsFramed rs) (IsFramed rs) front f back (λ g x. x) k.framed;
      based = all_without (λ (g : Framed). g.goal.base ≡ g.goal.node) (λ (g : Framed). g.goal.base ≡ g.goal.node) front f back
          (λ g x. x) k.based;
      in_range = all_without (λ (g : Framed). IsGoalInRange P (length row) g.goal)
          (λ (g : Framed). IsGoalInRange P (length row) g.goal) front f back (λ g x. x) k.in_range;
      once = still_once;
      solved = k.solved;
      ran = subst (λ (l : List Equation). RanAmong (equations tree) (tasks tree) (l ++ k.solved)
          (map (task_of P.program) (front ++ back))) e dropped_ran;
      names = k.names;
      named = k.named;
      whole = k.whole;
      free = all_without (λ (g : Framed). HasFreePair P row g.goal (node_item_at P g.goal))
          (λ (g : Framed). HasFreePair P row g.goal (node_item_at P g.goal)) front f back (λ g x. x) k.free;
    };
    settled = k.settled;
    states = k.states;
    stated = k.stated;
  }

-- ---- A number that was written into the pair of a goal

-- a pair of words that was free has a number now, and what the row states is as before
module _ (P : NamedProgram) (row mid : List Ref) (pair : ℕ) (z : ℤ) (sound : IsSound P row) (mid_sound : IsSound P mid)
    (w : IsWritten row mid pair z)
    (free : word_at row pair ≡ Free) (free_too : word_at row (suc pair) ≡ Free)
    (unnamed : (m : ℕ) → (m ≡ pair) ⊎ (m ≡ suc pair) → (place : ℕ) (r : Ref) → IsSetTo row place r → is_half r ≡ false → (place ≡ m → ⊥)
    → Contains (shallow_cells P r) m → ⊥) where
  -- the words of the pair are halves,
  pair_is_half : (m : ℕ) → (m ≡ pair) ⊎ (m ≡ suc pair) → is_half (word_at mid m) ≡ true
  pair_is_half m (inl e) = ap (λ (x : ℕ). is_half (word_at mid x)) e ∙ ap is_half w.high
  pair_is_half m (inr e) = ap (λ (x : ℕ). is_half (word_at mid x)) e ∙ ap is_half w.low

  pair_was_free : (m : ℕ) → (m ≡ pair) ⊎ (m ≡ suc pair) → word_at row m ≡ Free
  pair_was_free m (inl e) = ap (word_at row) e ∙ free
  pair_was_free m (inr e) = ap (word_at row) e ∙ free_too

  -- and a word of the row is one of these, or as it was.
  word_cases : (m : ℕ) → ((m ≡ pair) ⊎ (m ≡ suc pair)) ⊎ (word_at mid m ≡ word_at row m)
  word_cases m = elim (number_or m pair) [
    | inl e ↦ inl (inl e)
    | inr one ↦ elim (number_or m (suc pair)) [ inl e ↦ inl (inr e) | inr other ↦ inr (w.others m one other) ]
  ]

  set_word : (m : ℕ) → word_at row m ≢ Free → word_at mid m ≡ word_at row m
  set_word m set = elim (word_cases m) [ inl in_pair ↦ absurd (set (pair_was_free m in_pair)) | inr same ↦ same ]

  -- What is set in the row has the same value.
  same_value : (t : Substitution) (place : ℕ) (r : Ref) → word_at row place ≡ r → value P (word_at mid) t r ≡ value P (word_at row) t r
  same_value t place Free e = refl
  same_value t place (Cell cell) e = refl
  same_value t place (Node node base) e = refl
  same_value t place (Number other) e =
      let both = sound.written place other e in
      ap (λ (x : Ref). Some (apply t (number (number_of x (word_at mid (suc other)))))) (set_word other both.0)
      ∙ ap (λ (x : Ref). Some (apply t (number (number_of (word_at row other) x)))) (set_word (suc other) both.1)
  same_value t place (Half bits) e = refl

  pub mid_states : Entails (equations_of P mid) (equations_of P row)
  mid_states t s =
      row_solved P row t (λ place r set whole.
      let now : word_at mid place ≡ r = set_word place (λ e. set.1 (sym set.0 ∙ e)) ∙ set.0 in
      let solved : Solves t (equations_between P (word_at mid) (Cell place) r) = words_solved P mid t s place r (now, set.1) whole in
      let agree : value P (word_at mid) t (Cell place) ≡ value P (word_at mid) t r = one_value P (word_at mid) t (Cell place) r solved in
      between_solved P (word_at row) t (Cell place) r (t [] place) refl (sym (same_value t place r set.0) ∙ sym agree)
      (λ cell c. elim (word_cases cell) [
        | inl in_pair ↦ ap is_half (pair_was_free cell in_pair)
        | inr same ↦ ap is_half (sym same) ∙ names_no_half P (word_at mid) t (Cell place) r solved cell c
      ]))

  pub mid_stated : Entails (equations_of P row) (equations_of P mid)
  mid_stated t s =
      row_solved P mid t (λ place r set whole.
      elim (word_cases place) [
        | inl in_pair ↦ absurd (true≢false (sym (pair_is_half place in_pair) ∙ ap is_half set.0 ∙ whole))
        | inr same ↦
            let was : word_at row place ≡ r = sym same ∙ set.0 in
            let solved : Solves t (equations_between P (word_at row) (Cell place) r) = words_solved P row t s place r (was, set.1) whole in
            let agree : value P (word_at row) t (Cell place) ≡ value P (word_at row) t r =
            one_value P (word_at row) t (Cell place) r solved in
            between_solved P (word_at mid) t (Cell place) r (t [] place) refl (same_value t place r was ∙ sym agree)
            (λ cell c. elim (word_cases cell) [
              | inl in_pair ↦ absurd (elim (contains_cases place cell (shallow_cells P r) c) [
                | inl at ↦ true≢false
                    (sym (pair_is_half cell in_pair) ∙ ap (λ (x : ℕ). is_half (word_at mid x)) at ∙ ap is_half set.0 ∙ whole)
                | inr named ↦ elim (number_or place cell) [
                  | inl at ↦ true≢false
                      (sym (pair_is_half cell in_pair) ∙ ap (λ (x : ℕ). is_half (word_at mid x)) (sym at) ∙ ap is_half set.0 ∙ whole)
                  | inr apart ↦ unnamed cell in_pair place r (was, set.1) whole apart named
                ]
              ])
              | inr kept ↦ ap is_half kept ∙ names_no_half P (word_at row) t (Cell place) r solved cell c
            ])
      ])
