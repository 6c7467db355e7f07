-- Rounds of running goals of arithmetic.
use Rattle.std.proofs.Common.{ℕ, suc, ◌≡◌, ◌<◌, ◌≤◌, List, [], ◌∷◌, ◌++◌, append-nil, append_assoc, length, reverse, refl, ap, sym, ◌∙◌, subst, inl}
use Rattle.std.proofs.Common.{inr, arith, Contains}
use Rattle.std.proofs.lemmas.List.{length-append, reverse-append}
use Rattle.std.proofs.lemmas.List.Elements.{Contains-append_cases}
use Rattle.and_model.specs.Reductions.{Reduction}
use Rattle.and_model.specs.Trees.{QueryTree}
use Rattle.and_model.specs.declared.goal.Goal.{Goal}
use Rattle.and_model.specs.declared.reference.Ref.{Ref}
use Rattle.and_laws.proofs.Ordered.{contains_first, contains_more, contains_cases, contains_none}
use Rattle.and_cells.specs.Ranges.{NamedProgram}
use Rattle.and_branch_laws.specs.OwnVariables.{IsLoaded}
use Rattle.and_proof.specs.Rounds.{KeepsWhole, HasNone, IsRound}
use Rattle.and_step_laws.specs.Runs.{IsWaiting, CanBeRun, HasRun, CannotHold}
use Rattle.and_proof.specs.Stacks.{in_order, goals_before, goals_behind, NoneBehind, NoneBefore}
use Rattle.and_proof.specs.Unfolding.{IsWholeIn, AllWait}
use Rattle.and_proof.specs.declared.waiting.Round.{Round}
use Rattle.and_proof.specs.declared.waiting.Round.TheVariants.{Still, Changed, False}
use Rattle.and_proof.specs.declared.waiting.Waiting.{Waiting}
use Rattle.and_proof.specs.declared.waiting.Way.{Way}
use Rattle.and_proof.specs.declared.waiting.Way.TheVariants.{Onward, Back}
use Rattle.and_proof.proofs.Stepped.{reverse_last}
use Rattle.and_proof.proofs.WholeRuns.{can_be_run, run_whole, false_none, one_more_waits}

-- all that were passed wait
abbrev pub AllPassedWait : NamedProgram → List Ref → Way → Waiting → Type 0
AllPassedWait P row way w = AllWait P row (goals_behind way w)

reverse_first : (x : Goal) (xs : List Goal) → reverse (x ∷ xs) ≡ reverse xs ++ x ∷ []
reverse_first x xs = reverse-append (x ∷ []) xs

in_reverse : (xs : List Goal) (g : Goal) → Contains (reverse xs) g → Contains xs g
in_reverse [] g h = h
in_reverse (x ∷ xs) g h =
    elim (Contains-append_cases (reverse xs) (x ∷ []) g (subst (λ l. Contains l g) (reverse_first x xs) h)) [
      | inl i ↦ contains_more x g xs (in_reverse xs g i)
      | inr i ↦ elim (contains_cases x g [] i) [
        | inl e ↦ subst (λ y. Contains (x ∷ xs) y) (sym e) (contains_first x xs)
        | inr m ↦ absurd (contains_none g m)
      ]
    ]

-- Where none is left before, those that were passed are all.
pub passed_all : (P : NamedProgram) (row : List Ref) (way : Way) (w : Waiting) → NoneBefore way w → AllPassedWait P row way w → AllWait P row (in_order w)
passed_all P row Onward w none_is all g h =
    all g (subst (λ l. Contains l g) (ap (λ l. w.left.items ++ reverse l) none_is ∙ append-nil w.left.items) h)
passed_all P row Back w none_is all g h =
    all g (in_reverse w.right.items g (subst (λ l. Contains l g) (ap (λ l. l ++ reverse w.right.items) none_is) h))

-- ---- Goals that are taken out and put behind

-- A goal was taken out at the place of work.
abbrev pub IsOut : (old new : Waiting) → Goal → Type 0
IsOut old new g = in_order old ≡ new.left.items ++ g ∷ reverse new.right.items

pub out_of : (way : Way) (old new : Waiting) (g : Goal) → goals_before way old ≡ goals_before way new ++ g ∷ []
    → goals_behind way new ≡ goals_behind way old → IsOut old new g
out_of Onward old new g before behind =
    ap (λ l. l ++ reverse old.right.items) (sym behind) ∙ ap (λ l. new.left.items ++ reverse l) before
    ∙ ap (λ l. new.left.items ++ l) (reverse_last new.right.items g)
out_of Back old new g before behind =
    ap (λ l. l ++ reverse old.right.items) before ∙ ap (λ l. (new.left.items ++ g ∷ []) ++ reverse l) (sym behind)
    ∙ append_assoc new.left.items (g ∷ []) (reverse new.right.items)

other_way : Way → Way
other_way Onward = Back
other_way Back = Onward

-- One that is put behind is the same from the other side.
pub put_in : (way : Way) (old new : Waiting) (g : Goal) → goals_behind way new ≡ goals_behind way old ++ g ∷ []
    → goals_before way new ≡ goals_before way old → IsOut new old g
put_in Onward old new g behind before = out_of Back new old g behind (sym before)
put_in Back old new g behind before = out_of Onward new old g behind (sym before)

same_order : (way : Way) (a b : Waiting) → goals_before way a ≡ goals_before way b → goals_behind way a ≡ goals_behind way b → in_order a ≡ in_order b
same_order Onward a b before behind = ap (λ l. l ++ reverse a.right.items) behind ∙ ap (λ l. b.left.items ++ reverse l) before
same_order Back a b before behind = ap (λ l. l ++ reverse a.right.items) before ∙ ap (λ l. b.left.items ++ reverse l) behind

-- Without it there is one goal less.
one_less : (old mid : Waiting) (g : Goal) → IsOut old mid g → length (in_order old) ≡ suc (length (in_order mid))
one_less old mid g out =
    let a = ap length out ∙ length-append mid.left.items (g ∷ reverse mid.right.items) in
    let b = length-append mid.left.items (reverse mid.right.items) in omega (arith, a, b)

-- ---- A round that is under way

pub record RoundSoFar (P : NamedProgram) (old row : List Ref) (first now : Waiting) (way : Way) (round : Round) : Type 0 where
  pub whole : KeepsWhole P old row first now
  pub not_false : round ≡ False → ⊥
  pub passed : round ≡ Still → AllPassedWait P row way now
  pub same : round ≡ Still → length (in_order now) ≡ length (in_order first)
  pub fewer : round ≡ Changed → length (in_order now) < length (in_order first)

pub begun : (P : NamedProgram) (row : List Ref) (w : Waiting) (way : Way) → NoneBehind way w → RoundSoFar P row row w w way Still
begun P row w way none_is = record {
  whole = λ rs t x. x;
  not_false = λ e. cc;
  passed = λ e g h. absurd (contains_none g (subst (λ l. Contains l g) none_is h));
  same = λ e. refl;
  fewer = λ e. absurd (cc);
}

at_most : (P : NamedProgram) (old row : List Ref) (first now : Waiting) (way : Way) (round : Round) → RoundSoFar P old row first now way round
    → length (in_order now) ≤ length (in_order first)
at_most P old row first now way Still s = let e = s.same refl in omega (arith, e)
at_most P old row first now way Changed s = let e = s.fewer refl in omega (arith, e)
at_most P old row first now way False s = absurd (s.not_false refl)

module _ (P : NamedProgram) (old row : List Ref) (first now : Waiting) (way : Way) (round : Round) (s : RoundSoFar P old row first now way round)
    (mid : Waiting) where
  module _ (g : Goal) (before : goals_before way now ≡ goals_before way mid ++ g ∷ []) (behind : goals_behind way mid ≡ goals_behind way now) where
    abbrev out : IsOut now mid g
    out = out_of way now mid g before behind

    -- The goal that was taken out can be run.
    pub next_can : (rs : List Reduction) (t : QueryTree P.program) → IsLoaded P → IsWholeIn P rs old (in_order first) t → CanBeRun P row g
    next_can rs t loaded x = can_be_run P loaded rs row (in_order now) mid.left.items g (reverse mid.right.items) t (s.whole rs t x) out

    -- It waits and was put behind,
    pub waited : (new : Waiting) → goals_behind way new ≡ goals_behind way mid ++ g ∷ [] → goals_before way new ≡ goals_before way mid
        → IsWaiting P row g → RoundSoFar P old row first new way round
    waited new put same waits =
        let order : in_order new ≡ in_order now = put_in way mid new g put same ∙ sym out in
        let passed_are : goals_behind way new ≡ goals_behind way now ++ g ∷ [] = put ∙ ap (λ l. l ++ g ∷ []) behind in record {
          whole = λ rs t x. subst (λ l. IsWholeIn P rs row l t) (sym order) (s.whole rs t x);
          not_false = s.not_false;
          passed = λ e. subst (AllWait P row) (sym passed_are) (one_more_waits P row (goals_behind way now) g (s.passed e) waits);
          same = λ e. ap length order ∙ s.same e;
          fewer = λ e. subst (λ (n : ℕ). n < length (in_order first)) (sym (ap length order)) (s.fewer e);
        }

    -- or it was run,
    pub ran : IsLoaded P → (new : List Ref) → HasRun P row new g → RoundSoFar P old new first mid way Changed
    ran loaded new run = record {
      whole = λ rs t x.
          run_whole P loaded rs row (in_order now) mid.left.items g (reverse mid.right.items) t (s.whole rs t x) out new run;
      not_false = λ e. cc;
      passed = λ e. absurd (cc);
      same = λ e. absurd (cc);
      fewer = λ e.
          let most = at_most P old row first now way round s in
          let less = one_less now mid g out in omega (arith, most, less);
    }

    -- or it cannot hold.
    pub none_holds : IsLoaded P → CannotHold P row g → HasNone P old first
    none_holds loaded cannot rs t x outcome =
        false_none P loaded rs row (in_order now) mid.left.items g (reverse mid.right.items) t (s.whole rs t x) out cannot outcome

  -- The round ends where no goal is left before.
  pub ended : NoneBefore way now → NoneBefore way mid → goals_behind way mid ≡ goals_behind way now → IsRound P old row first mid way round
  ended none_is still_none behind = at round s
    where
      order : in_order now ≡ in_order mid
      order = same_order way now mid (none_is ∙ sym still_none) (sym behind)

      whole_still : KeepsWhole P old row first mid
      whole_still rs t x = subst (λ l. IsWholeIn P rs row l t) order (s.whole rs t x)

      at : (r : Round) → RoundSoFar P old row first now way r → IsRound P old row first mid way r
      at Still x = (whole_still, still_none, subst (AllWait P row) order (passed_all P row way now none_is (x.passed refl)))
      at Changed x = (whole_still, still_none, subst (λ (n : ℕ). n < length (in_order first)) (ap length order) (x.fewer refl))
      at False x = absurd (x.not_false refl)
