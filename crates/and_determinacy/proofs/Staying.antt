-- A clause that was tried and fitted stays a candidate while the cells are free that the trial set, and those that what it set them to holds.
use Rattle.std.proofs.Common.{ℕ, ◌+◌, ◌≡◌, ◌<◌, ◌≤◌, ◌⊎◌, true, List, [], ◌∷◌, append-nil, length, map, sym, ap, ◌∙◌, subst, inl, inr, arith}
use Rattle.std.specs.Prelude.{Contains}
use Rattle.std.proofs.lemmas.List.Elements.{All-contains}
use Rattle.and_model.specs.Terms.{Path, Term, Terms, none, more, variables_of, is_ground, are_ground, Substitution, apply, framed}
use Rattle.and_model.specs.Solutions.{Equation, Solves}
use Rattle.and_model.specs.Arithmetic.{Relation, holds}
use Rattle.and_model.specs.Programs
use Rattle.and_model.specs.Programs.{Item, Arithmetic, Of, clause_at}
use Rattle.and_model.specs.Closure.{refutes}
use Rattle.and_model.specs.Candidates.{guard, In, Refuted}
use Rattle.and_model.specs.Store.{is_half}
use Rattle.and_model.specs.declared.reference.Ref.{Ref}
use Rattle.and_program.specs.Skeletons.{NodeItem, call, equal, is, compare, fail, node_term, item_of, AllFall}
use Rattle.and_program.specs.Loaded.{nodes_at}
use Rattle.and_laws.proofs.Solving.{solves_front, solves_back}
use Rattle.and_laws.proofs.Substitutions.{and_left, and_right}
use Rattle.and_laws.proofs.ClausesOf.{of_applied}
use Rattle.and_cells.specs.Ranges.{NamedProgram}
use Rattle.and_cells.specs.Rows.{IsSound}
use Rattle.and_cells.specs.Seen.{word_at, Grows, AreFree}
use Rattle.and_cells.specs.Meaning.{IsSettled, equations_of, equations_between}
use Rattle.and_cells.specs.Parts.{part_at}
use Rattle.and_cells.specs.Solved.{IsMostGeneral}
use Rattle.and_branch_laws.specs.OwnVariables.{IsLoaded}
use Rattle.and_branch_laws.specs.Variables.{cells_from, placed}
use Rattle.and_branch_laws.specs.Judging.{outside}
use Rattle.and_branch_laws.specs.Running.{IsRead}
use Rattle.and_branch_laws.proofs.Clauses.{clause_nodes}
use Rattle.and_branch_laws.proofs.PairEquations.{nodes_ask}
use Rattle.and_branch_laws.proofs.Rows.{widened_words, widened_states}
use Rattle.and_unify.specs.Pairs.{equations_of_pairs}
use Rattle.and_unify.specs.Setting.{HaveBeenSet}
use Rattle.and_unify.specs.Settling.{equations_with}
use Rattle.and_unify.specs.declared.pairs.Pair.{Pair}
use Rattle.and_guards.specs.Guards.{CanBeRead, IsFalseIn, IsGuardFalse}
use Rattle.and_heads.specs.Calls.{call_and_head}
use Rattle.and_determinacy.specs.Trials.{IsPrepared}
use Rattle.and_determinacy.specs.Watching.{StaysWhile, HaveWhatWasSet}
use Rattle.and_determinacy.proofs.Fitted.{Tried, both, both_solve, both_ground, both_wait}
use Rattle.and_clause_index.proofs.ClauseLists.{clause_there}
use Rattle.and_guards.proofs.Refuting.{not_true}
use Rattle.and_guards.proofs.Widening.{widened_length, free_behind}

-- ---- Guards

-- In the frame at the base the term reads as a ground one,
abbrev pub IsGroundIn : NamedProgram → List Ref → (base : ℕ) → Term → Type 0
IsGroundIn P row base t = (u : Term) × IsRead P row base t u × (is_ground u ≡ true)

-- or as one with a variable whose cell is from the base on, or among the cells.
abbrev pub IsWaitingFor : NamedProgram → List Ref → (base : ℕ) → List ℕ → Term → Type 0
IsWaitingFor P row base cells t = (cell : ℕ) × (u : Term) × IsRead P row base t u × Contains (variables_of u) ([], cell)
    × (cell < base → Contains cells cell)

-- Each comparison of the guard with which these items begin is of ground terms, or a term of it waits for one of the cells.
abbrev pub IsGuardWatched : NamedProgram → List Ref → (base : ℕ) → List ℕ → List NodeItem → Type 0
IsGuardWatched P row base cells [] = Unit {0}
IsGuardWatched P row base cells (compare o n m ∷ items) =
    ((IsGroundIn P row base (node_term P.skeleton.nodes n) × IsGroundIn P row base (node_term P.skeleton.nodes m))
    ⊎ IsWaitingFor P row base cells (node_term P.skeleton.nodes n) ⊎ IsWaitingFor P row base cells (node_term P.skeleton.nodes m))
    × IsGuardWatched P row base cells items
IsGuardWatched P row base cells (call n ∷ items) = Unit {0}
IsGuardWatched P row base cells (equal n m ∷ items) = Unit {0}
IsGuardWatched P row base cells (is n m pair ∷ items) = Unit {0}
IsGuardWatched P row base cells (fail ∷ items) = Unit {0}

-- Where there is no guard, nothing of it is false, and all is watched.
none_false : (P : NamedProgram) (row : List Ref) (base : ℕ) (items : List NodeItem)
    → guard [] (map (item_of P.skeleton.nodes) items) ≡ [] → IsGuardFalse P row base items → ⊥
none_false P row base [] empty f = f
none_false P row base (compare o n m ∷ items) empty f = cc
none_false P row base (call n ∷ items) empty f = f
none_false P row base (equal n m ∷ items) empty f = f
none_false P row base (is n m pair ∷ items) empty f = f
none_false P row base (fail ∷ items) empty f = f

none_watched : (P : NamedProgram) (row : List Ref) (base : ℕ) (cells : List ℕ) (items : List NodeItem)
    → guard [] (map (item_of P.skeleton.nodes) items) ≡ [] → IsGuardWatched P row base cells items
none_watched P row base cells [] empty = tt
none_watched P row base cells (compare o n m ∷ items) empty = absurd (cc)
none_watched P row base cells (call n ∷ items) empty = tt
none_watched P row base cells (equal n m ∷ items) empty = tt
none_watched P row base cells (is n m pair ∷ items) empty = tt
none_watched P row base cells (fail ∷ items) empty = tt

-- A guard that is watched, and not false in the new row, is not refuted in the later one.
module _ (P : NamedProgram) (row wide new : List Ref) (bound cells : List ℕ) (es : List Equation) (base : ℕ) (call_term head_term : Term)
    (tried : Tried P row wide new bound cells es base call_term head_term) (later : List Ref) (grows : Grows row later)
    (later_sound : IsSound P later) (later_settled : IsSettled P later) (free : AreFree later cells) where
  abbrev solution : Substitution
  solution = both P row wide new bound cells es base call_term head_term tried later grows later_sound later_settled free

  abbrev asked : List Equation
  asked = (placed base call_term, framed outside head_term) ∷ equations_of P later

  waits : (t : Term) → IsWaitingFor P new (length row) cells t → is_ground (apply solution (framed outside t)) ≡ true → ⊥
  waits t (cell, u, r, c, among) =
      both_wait P row wide new bound cells es base call_term head_term tried later grows later_sound later_settled free t u cell r c among

  is_ground_term : (t u : Term) → IsRead P new (length row) t u → is_ground u ≡ true → apply solution (framed outside t) ≡ u
  is_ground_term = both_ground P row wide new bound cells es base call_term head_term tried later grows later_sound later_settled free

  not_refuted : (o : Relation) (n m : ℕ) → (IsFalseIn P new (length row) o (node_term P.skeleton.nodes n) (node_term P.skeleton.nodes m) → ⊥)
      → ((IsGroundIn P new (length row) (node_term P.skeleton.nodes n) × IsGroundIn P new (length row) (node_term P.skeleton.nodes m))
      ⊎ IsWaitingFor P new (length row) cells (node_term P.skeleton.nodes n) ⊎ IsWaitingFor P new (length row) cells (node_term P.skeleton.nodes m))
      → Refuted asked (Programs.compare o (framed outside (node_term P.skeleton.nodes n)) (framed outside (node_term P.skeleton.nodes m))) → ⊥
  not_refuted o n m holds_in watched (ts, known, refuted) =
      let a : Term = framed outside (node_term P.skeleton.nodes n) in
      let b : Term = framed outside (node_term P.skeleton.nodes m) in
      let x : Term = apply solution a in
      let y : Term = apply solution b in
      let solves : Solves solution asked =
      both_solve P row wide new bound cells es base call_term head_term tried later grows later_sound later_settled free in
      let same : ts ≡ more x (more y none) = sym (known.1 solution solves) in
      let ground : are_ground (more x (more y none)) ≡ true = subst (λ (us : Terms). are_ground us ≡ true) same known.0 in
      let fails : refutes (Programs.compare o a b) (more x (more y none)) ≡ true =
      subst (λ (us : Terms). refutes (Programs.compare o a b) us ≡ true) same refuted in
      let left : is_ground x ≡ true = and_left (is_ground x) (are_ground (more y none)) ground in
      let right : is_ground y ≡ true = and_left (is_ground y) true (and_right (is_ground x) (are_ground (more y none)) ground) in
      elim watched [
        | inl both_are ↦
            let (one, other) = both_are in
            let x_is : x ≡ one.0 = is_ground_term (node_term P.skeleton.nodes n) one.0 one.1 one.2 in
            let y_is : y ≡ other.0 = is_ground_term (node_term P.skeleton.nodes m) other.0 other.1 other.2 in
            holds_in (record {
              left = one.0;
              right = other.0;
              left_read = one.1;
              right_read = other.1;
              left_ground = one.2;
              right_ground = other.2;
              fails = ap (λ (t : Term). holds o t other.0) (sym x_is) ∙ ap (holds o x) (sym y_is) ∙ not_true (holds o x y) fails;
            })
        | inr (inl w) ↦ waits (node_term P.skeleton.nodes n) w left
        | inr (inr w) ↦ waits (node_term P.skeleton.nodes m) w right
      ]

  none_refuted : (items : List NodeItem) → (IsGuardFalse P new (length row) items → ⊥) → IsGuardWatched P new (length row) cells items
      → (a : Arithmetic) → In a (guard outside (map (item_of P.skeleton.nodes) items)) → Refuted asked a → ⊥
  none_refuted [] holds_in watched a i r = i
  none_refuted (call n ∷ items) holds_in watched a i r = i
  none_refuted (equal n m ∷ items) holds_in watched a i r = i
  none_refuted (is n m pair ∷ items) holds_in watched a i r = i
  none_refuted (fail ∷ items) holds_in watched a i r = i
  none_refuted (compare o n m ∷ items) holds_in watched a (inl e) r =
      not_refuted o n m (λ f. holds_in (inl f)) watched.0 (subst (Refuted asked) e r)
  none_refuted (compare o n m ∷ items) holds_in watched a (inr i) r = none_refuted items (λ f. holds_in (inr f)) watched.1 a i r

-- ---- The law

module _ (P : NamedProgram) (loaded : IsLoaded P) (row wide new : List Ref) (asked node base clause floor : ℕ)
    (bound cells : List ℕ) (made : IsPrepared P row wide asked clause floor) (settled : IsSettled P row)
    (reads : CanBeRead P row base node) (of : Of P.program (node_term P.skeleton.nodes node) clause) where
  abbrev by : ℕ
  by = 1 + (clause_at P.program clause).variables

  abbrev head : ℕ
  head = (nodes_at P.skeleton clause).head

  abbrev pairs : List Pair
  pairs = call_and_head P base node floor asked

  abbrev term : Term
  term = node_term P.skeleton.nodes node

  made_words : (place : ℕ) → word_at wide place ≡ word_at row place
  made_words place = ap (λ (r : List Ref). word_at r place) made.wide_is ∙ widened_words row by place

  made_longer : length row ≤ length wide
  made_longer = let long = ap length made.wide_is ∙ widened_length row by in omega arith

  made_states : (s : Substitution) → Solves s (equations_of P wide) → Solves s (equations_of P row)
  made_states s solves = widened_states P row by s (subst (λ (r : List Ref). Solves s (equations_of P r)) made.wide_is solves)

  head_is : node_term P.skeleton.nodes head ≡ (clause_at P.program clause).head
  head_is = let k = clause_nodes P loaded clause (clause_there P.program term clause of) in k.head

  -- what solves the pair makes the call one with the head
  made_one : (s : Substitution) → Solves s (equations_of_pairs P (word_at wide) pairs)
      → apply s (placed base term) ≡ apply s (placed (length row) (clause_at P.program clause).head)
  made_one s solves =
      let pair : Pair = record { left = part_at P base node; right = part_at P floor head } in
      let fall : AllFall 0 P.skeleton.nodes = loaded.skeleton.0 in
      let one : Solves s (equations_of_pairs P (word_at wide) (pair ∷ [])) =
      subst (λ (ps : List Pair). Solves s (equations_of_pairs P (word_at wide) ps))
      (ap (call_and_head P base node floor) made.head_is) solves in
      let between : equations_of_pairs P (word_at wide) (pair ∷ []) ≡ (placed base term, placed floor (node_term P.skeleton.nodes head)) ∷ [] =
      append-nil (equations_between P (word_at wide) pair.left pair.right)
      ∙ nodes_ask P (word_at wide) base node floor head fall
      (λ v c. ap is_half (made_words (base + 1 + v.1)) ∙ reads.whole v c)
      (λ v c. ap is_half (ap (λ (r : List Ref). word_at r (floor + 1 + v.1)) made.wide_is
      ∙ free_behind row by (floor + 1 + v.1) (let same = made.behind in omega arith))) in
      let equal = subst (λ (ds : List Equation). Solves s ds) between one in
      equal.0
      ∙ ap (λ (m : ℕ). apply s (placed m (node_term P.skeleton.nodes head))) made.behind
      ∙ ap (λ (t : Term). apply s (placed (length row) t)) head_is

  abbrev es : List Equation
  es = equations_with P wide pairs

  was_tried : HaveBeenSet wide new bound → ((cell : ℕ) → is_half (word_at new cell) ≡ true → is_half (word_at wide cell) ≡ true)
      → IsMostGeneral P new es → HaveWhatWasSet P new floor bound cells
      → Tried P row wide new bound cells es base term (clause_at P.program clause).head
  was_tried set halves general has =
      let s : Substitution = general.solution in
      let solves = general.most_general.0 in record {
        sound = made.sound;
        settled = settled;
        longer = made_longer;
        words = made_words;
        whole = λ v c. (
          All-contains (λ (v : Path × ℕ). base + 1 + v.1 < length row) (variables_of term) v reads.in_range.cells c,
          reads.whole v c,
        );
        set = set;
        halves = halves;
        general = general;
        states = made_states s (solves_front s (equations_of P wide) (equations_of_pairs P (word_at wide) pairs) solves);
        one = made_one s (solves_back s (equations_of P wide) (equations_of_pairs P (word_at wide) pairs) solves);
        has = subst (λ (m : ℕ). HaveWhatWasSet P new m bound cells) made.behind has;
      }

-- A clause that fitted, and whose guard is watched, stays a candidate while the cells are free that the trial set, and those that what it set them to holds.
pub guarded_stays : (P : NamedProgram) → IsLoaded P → (row wide new : List Ref) (asked node base clause floor : ℕ)
    (bound cells : List ℕ)
    → IsPrepared P row wide asked clause floor → IsSettled P row → CanBeRead P row base node
    → Of P.program (node_term P.skeleton.nodes node) clause
    → HaveBeenSet wide new bound → ((cell : ℕ) → is_half (word_at new cell) ≡ true → is_half (word_at wide cell) ≡ true)
    → IsMostGeneral P new (equations_with P wide (call_and_head P base node floor asked))
    → (IsGuardFalse P new floor (nodes_at P.skeleton clause).items → ⊥) → IsGuardWatched P new floor cells (nodes_at P.skeleton clause).items
    → HaveWhatWasSet P new floor bound cells
    → StaysWhile P row base (node_term P.skeleton.nodes node) cells clause
guarded_stays P loaded row wide new asked node base clause floor bound cells made settled reads of set halves general holds_in watched has
    later grows later_sound later_settled free =
    let term : Term = node_term P.skeleton.nodes node in
    let head : Term = (clause_at P.program clause).head in
    let es : List Equation = equations_with P wide (call_and_head P base node floor asked) in
    let items : List NodeItem = (nodes_at P.skeleton clause).items in
    let k = clause_nodes P loaded clause (clause_there P.program term clause of) in
    let tried : Tried P row wide new bound cells es base term head =
    was_tried P loaded row wide new asked node base clause floor bound cells made settled reads of set halves general has in (
      of_applied P.program (cells_from base) term clause of,
      (
        both P row wide new bound cells es base term head tried later grows later_sound later_settled free,
        both_solve P row wide new bound cells es base term head tried later grows later_sound later_settled free,
      ),
      λ a i.
          none_refuted P row wide new bound cells es base term head tried later grows later_sound later_settled free items
          (subst (λ (m : ℕ). IsGuardFalse P new m items → ⊥) made.behind holds_in)
          (subst (λ (m : ℕ). IsGuardWatched P new m cells items) made.behind watched) a
          (subst (λ (body : List Item). In a (guard outside body)) (sym k.body) i),
    )

-- So does one without a guard.
pub stays : (P : NamedProgram) → IsLoaded P → (row wide new : List Ref) (asked node base clause floor : ℕ) (bound cells : List ℕ)
    → IsPrepared P row wide asked clause floor → IsSettled P row → CanBeRead P row base node
    → Of P.program (node_term P.skeleton.nodes node) clause
    → HaveBeenSet wide new bound → ((cell : ℕ) → is_half (word_at new cell) ≡ true → is_half (word_at wide cell) ≡ true)
    → IsMostGeneral P new (equations_with P wide (call_and_head P base node floor asked))
    → guard [] (clause_at P.program clause).body ≡ []
    → HaveWhatWasSet P new floor bound cells
    → StaysWhile P row base (node_term P.skeleton.nodes node) cells clause
stays P loaded row wide new asked node base clause floor bound cells made settled reads of set halves general empty has =
    let items : List NodeItem = (nodes_at P.skeleton clause).items in
    let k = clause_nodes P loaded clause (clause_there P.program (node_term P.skeleton.nodes node) clause of) in
    let of_items : guard [] (map (item_of P.skeleton.nodes) items) ≡ [] = ap (guard []) k.body ∙ empty in
    guarded_stays P loaded row wide new asked node base clause floor bound cells made settled reads of set halves general
    (none_false P new floor items of_items) (none_watched P new floor cells items of_items) has
