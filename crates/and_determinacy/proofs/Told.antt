-- The cells that are told: how they are gathered, and what stays while they are free.
use Rattle.std.proofs.Common.{ℕ, ◌≡◌, ◌<◌, ◌≤◌, Bool, true, false, List, [], ◌∷◌, ◌++◌, append-nil, append_assoc, length, Option, Some, None}
use Rattle.std.proofs.Common.{refl, sym, ap, ◌∙◌, subst, inl, inr, arith}
use Rattle.std.specs.Prelude.{All, Contains, IfSome}
use Rattle.std.proofs.lemmas.List.Elements.{All-nil, All-append, All-contains, Contains-append_left, Contains-append_cases}
use Rattle.and_model.specs.Terms.{Term}
use Rattle.and_model.specs.Stands.{term_of}
use Rattle.and_model.specs.declared.goal.Goal.{Goal}
use Rattle.and_model.specs.declared.numbers.ClauseNo.{ClauseNo}
use Rattle.and_model.specs.declared.reference.Ref.{Ref}
use Rattle.and_model.specs.declared.reference.Ref.TheVariants.{Free, Cell}
use Rattle.and_program.specs.Skeletons.{node_term}
use Rattle.and_laws.proofs.Ordered.{contains_cases, contains_none}
use Rattle.and_cells.specs.Ranges.{NamedProgram, IsInRange}
use Rattle.and_cells.specs.Seen.{word_at}
use Rattle.and_branch_laws.proofs.Lists.{all_of, all_left, all_right}
use Rattle.and_guards.specs.Goals.{IsNodeOf}
use Rattle.and_clause_index.specs.Served.{NodeHas, AreServed}
use Rattle.and_determinacy.specs.Searches.{NodeKeeps, IsNextOf, IsCount}
use Rattle.and_determinacy.specs.declared.judging.Found.{Found}
use Rattle.and_determinacy.specs.declared.judging.Judged.TheVariants.{Several}
use Rattle.and_determinacy.specs.Watching.{IsWatched, IsListed, IsFollowed, StaysWhile, TwoStayWhile, HaveWhatWasSet, HadBefore}
use Rattle.and_determinacy.specs.Watching.{AreListed, AreAllListed, told_if}
use Rattle.and_determinacy.proofs.Searching.{none_fewer, two_rise}

-- What holds of the cells if they are told holds where they are.
pub where_told : (Q : List ℕ → Type 0) (are : Bool) (cells : List ℕ) → (are ≡ true → Q cells) → IfSome (told_if are cells) Q
where_told Q true cells holds = holds refl
where_told Q false cells holds = tt

-- What follows of the cells follows where they are told.
pub both_told : (A B C : List ℕ → Type 0) (told : Option (List ℕ)) → ((has : List ℕ) → A has → B has → C has) → IfSome told A → IfSome told B
    → IfSome told C
both_told A B C (Some has) follows a b = follows has a b
both_told A B C None follows a b = tt

-- ---- What was set is put on a list, and what it leads to

module _ (P : NamedProgram) (row : List Ref) (floor : ℕ) where
  pub nothing_listed : (visits : List Ref) (old : List ℕ) → visits ≡ [] → AreListed P row [] floor visits old old
  nothing_listed visits old none = record {
    gained = [];
    longer = sym (append-nil old);
    here = λ b c low. absurd (contains_none b c);
    suffices = record {
      in_range = subst (All (IsInRange P (length row))) (sym none) (All-nil (IsInRange P (length row)));
      owes = λ cells sub all b c low. absurd (contains_none b c);
    };
  }

  module _ (bound : List ℕ) (visits : List Ref) (old new : List ℕ) (are : AreListed P row bound floor visits old new) (cell : ℕ) where
    -- a cell below the floor is none of those past it
    was_there : floor ≤ cell → (b : ℕ) → Contains (bound ++ cell ∷ []) b → b < floor → Contains bound b
    was_there past b c low = elim (Contains-append_cases bound (cell ∷ []) b c) [
      | inl before ↦ before
      | inr last ↦ elim (contains_cases cell b [] last) [ inl e ↦ absurd (omega arith) | inr none ↦ absurd (contains_none b none) ]
    ]

    pub past_listed : floor ≤ cell → AreListed P row (bound ++ cell ∷ []) floor visits old new
    past_listed past = record {
      gained = are.gained;
      longer = are.longer;
      here = λ b c low. are.here b (was_there past b c low) low;
      suffices = record {
        in_range = are.suffices.in_range;
        owes = λ cells sub all b c low. are.suffices.owes cells sub all b (was_there past b c low) low;
      };
    }

    module _ (mid newer : List ℕ) (more : List Ref) (l : IsListed cell 0 new mid) (f : IsFollowed P row floor 0 (Cell cell) visits more mid newer) where
      -- what was on the list is on it still
      was_kept : (x : ℕ) → Contains new x → Contains newer x
      was_kept x c =
          subst (λ (xs : List ℕ). Contains xs x) (sym f.listed) (Contains-append_left mid f.gained x
          (subst (λ (xs : List ℕ). Contains xs x) (sym l.longer) (Contains-append_left new l.gained x c)))

      pub one_listed : AreListed P row (bound ++ cell ∷ []) floor more old newer
      one_listed = record {
        gained = (are.gained ++ l.gained) ++ f.gained;
        longer = f.listed ∙ ap (λ (xs : List ℕ). xs ++ f.gained)
            (l.longer ∙ ap (λ (xs : List ℕ). xs ++ l.gained) are.longer ∙ append_assoc old are.gained l.gained)
            ∙ append_assoc old (are.gained ++ l.gained) f.gained;
        here = λ b c low. elim (Contains-append_cases bound (cell ∷ []) b c) [
          | inl before ↦ was_kept b (are.here b before low)
          | inr last ↦ elim (contains_cases cell b [] last) [
            | inl e ↦ subst (λ (x : ℕ). Contains newer x) (sym e)
                (subst (λ (xs : List ℕ). Contains xs cell) (sym f.listed) (Contains-append_left mid f.gained cell l.there))
            | inr none ↦ absurd (contains_none b none)
          ]
        ];
        suffices = record {
          in_range = subst (All (IsInRange P (length row))) (sym f.put)
              (All-append (IsInRange P (length row)) visits f.more are.suffices.in_range f.suffices.in_range);
          owes = λ cells sub all b c low.
              let both = subst (All (IsWatched P row floor cells)) f.put all in
              elim (Contains-append_cases bound (cell ∷ []) b c) [
                | inl before ↦
                    are.suffices.owes cells (λ x i. sub x (was_kept x i)) (all_left (IsWatched P row floor cells) visits f.more both) b before low
                | inr last ↦ elim (contains_cases cell b [] last) [
                  | inl e ↦ subst (λ (x : ℕ). IsWatched P row floor cells (Cell x)) (sym e)
                      (f.suffices.owes cells sub (all_right (IsWatched P row floor cells) visits f.more both))
                  | inr none ↦ absurd (contains_none b none)
                ]
              ];
        };
      }

-- ---- and what they hold is gathered

module _ (P : NamedProgram) (row : List Ref) (floor : ℕ) (bound had listed : List ℕ) (visits : List Ref)
    (are : AreListed P row bound floor visits had listed) where
  module _ (cells gained : List ℕ) (longer : cells ≡ listed ++ gained) where
    pub set_gathered : All (IsWatched P row floor cells) visits → HaveWhatWasSet P row floor bound cells
    set_gathered all b c low =
        let sub : (x : ℕ) → Contains listed x → Contains cells x =
        λ x i. subst (λ (xs : List ℕ). Contains xs x) (sym longer) (Contains-append_left listed gained x i) in (
          sub b (are.here b c low),
          λ v held free below. are.suffices.owes cells sub all b c low v held free below,
        )

    pub had_before : (told : Option (List ℕ)) → told ≡ Some had → HadBefore told cells
    had_before told is = (
      had,
      is,
      λ cell c. subst (λ (xs : List ℕ). Contains xs cell) (sym longer) (Contains-append_left listed gained cell
          (subst (λ (xs : List ℕ). Contains xs cell) (sym are.longer) (Contains-append_left had are.gained cell c))),
    )

-- ---- Cells that are put on a list

pub none_listed : (old : List ℕ) → AreAllListed [] old old
none_listed old = record { gained = []; longer = sym (append-nil old); there = λ cell c. absurd (contains_none cell c) }

pub another_listed : (cells old mid new : List ℕ) (cell : ℕ) → AreAllListed cells old mid → IsListed cell 0 mid new
    → AreAllListed (cells ++ cell ∷ []) old new
another_listed cells old mid new cell are one = record {
  gained = are.gained ++ one.gained;
  longer = one.longer ∙ ap (λ (xs : List ℕ). xs ++ one.gained) are.longer ∙ append_assoc old are.gained one.gained;
  there = λ other c. elim (Contains-append_cases cells (cell ∷ []) other c) [
    | inl before ↦ subst (λ (xs : List ℕ). Contains xs other) (sym one.longer) (Contains-append_left mid one.gained other (are.there other before))
    | inr last ↦ elim (contains_cases cell other [] last) [
      | inl e ↦ subst (Contains new) (sym e) one.there
      | inr none ↦ absurd (contains_none other none)
    ]
  ];
}

pub all_had : (cells old new : List ℕ) → AreAllListed cells old new → (told : Option (List ℕ)) → told ≡ Some old → HadBefore told new
all_had cells old new are told is = (
  old,
  is,
  λ cell c. subst (λ (xs : List ℕ). Contains xs cell) (sym are.longer) (Contains-append_left old are.gained cell c),
)

-- ---- What stays

-- What stays while some cells are free stays while more are.
pub stays_with_more : (P : NamedProgram) (row : List Ref) (base : ℕ) (call : Term) (few many : List ℕ) (c : ℕ)
    → ((cell : ℕ) → Contains few cell → Contains many cell) → StaysWhile P row base call few c → StaysWhile P row base call many c
stays_with_more P row base call few many c more stays later grows sound settled free =
    stays later grows sound settled
    (all_of (λ (cell : ℕ). word_at later cell ≡ Free) few (λ cell i. All-contains (λ (cell : ℕ). word_at later cell ≡ Free) many cell free (more cell i)))

module _ (P : NamedProgram) (row : List Ref) (node base : ℕ) (clauses : List ClauseNo) where
  -- The first that is a candidate is the first that also stays one, if it does.
  next_keeps : (cells : List ℕ) (from : ℕ) (found : Found) → IsNextOf (NodeHas P row node base) clauses from found
      → StaysWhile P row base (node_term P.skeleton.nodes node) cells found.clause.0 → IsNextOf (NodeKeeps P row node base cells) clauses from found
  next_keeps cells from found next stays = record {
    place = next.place;
    behind = next.behind;
    after = next.after;
    there = next.there;
    is_so = (next.is_so, stays);
    first = none_fewer (NodeKeeps P row node base cells) (NodeHas P row node base) clauses from next.place (λ c both. both.0) next.first;
  }

  -- Two that were found one after the other stay while what was told then is free.
  pub both_keep : (from : ℕ) (first second : Option (List ℕ)) (one two : Found) → IsNextOf (NodeHas P row node base) clauses from one
      → IsNextOf (NodeHas P row node base) clauses one.behind two
      → IfSome first (λ has. StaysWhile P row base (node_term P.skeleton.nodes node) has one.clause.0) → IfSome second (HadBefore first)
      → IfSome second (λ has. StaysWhile P row base (node_term P.skeleton.nodes node) has two.clause.0)
      → IfSome second (λ has. IsCount (NodeKeeps P row node base has) clauses from Several)
  both_keep from first (Some has) one two next after stays before stays_too =
      let early : StaysWhile P row base (node_term P.skeleton.nodes node) before.0 one.clause.0 =
      subst (λ (o : Option (List ℕ)). IfSome o (λ had. StaysWhile P row base (node_term P.skeleton.nodes node) had one.clause.0)) before.1 stays in (
        one,
        two,
        next_keeps has from one next
            (stays_with_more P row base (node_term P.skeleton.nodes node) before.0 has one.clause.0 before.2 early),
        next_keeps has one.behind two after stays_too,
      )
  both_keep from first None one two next after stays before stays_too = tt

-- So two candidates of the goal stay.
pub two_stay : (P : NamedProgram) (row : List Ref) (g : Goal) (node : ℕ) → IsNodeOf P row g node → (clauses : List ClauseNo)
    → AreServed P row node g.base clauses → (from : ℕ) (told : Option (List ℕ))
    → IfSome told (λ has. IsCount (NodeKeeps P row node g.base has) clauses from Several) → IfSome told (TwoStayWhile P row g)
two_stay P row g node of clauses served from (Some has) (one, two, first, second) =
    let less = two_rise P row node g.base clauses served (NodeKeeps P row node g.base has) from one two first second in
    let whole : (c : ℕ) → StaysWhile P row g.base (node_term P.skeleton.nodes node) has c → StaysWhile P row g.base (term_of P.program g) has c =
    λ c stays. subst (λ (t : Term). StaysWhile P row g.base t has c) (sym of.term) stays in (
      one.clause.0,
      two.clause.0,
      (λ e. omega arith),
      whole one.clause.0 first.is_so.1,
      whole two.clause.0 second.is_so.1,
    )
two_stay P row g node of clauses served from None none = tt
