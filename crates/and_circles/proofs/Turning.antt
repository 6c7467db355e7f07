-- One visit of a walk, and what it answers.
use Rattle.std.proofs.Common.{ℕ, suc, ◌≡◌, ◌≢◌, ◌<◌, ◌≤◌, ◌*◌, ◌^◌, None, Some, set, inl, inr, Bool, List, [], ◌∷◌, length, reverse, refl, ap, sym, subst}
use Rattle.std.proofs.Common.{◌∙◌, arith, true, false}
use Rattle.std.specs.Prelude.{Contains, All, Result, Ok, Err, IfOk}
use Rattle.std.specs.declared.alloc.AllocError.{AllocError}
use Rattle.std.proofs.Math.Nat.{mul-le-mul_left}
use Rattle.std.proofs.lemmas.List.Elements.{All-append}
use Rattle.and_model.specs.Store.{is_half}
use Rattle.and_model.specs.declared.numbers.NodeNo.{NodeNo}
use Rattle.and_model.specs.declared.reference.Ref.{Ref}
use Rattle.and_model.specs.declared.reference.Ref.TheVariants.{Free, Cell, Node}
use Rattle.and_cells.specs.Ranges.{NamedProgram, IsInRange}
use Rattle.and_cells.specs.Seen.{word_at}
use Rattle.and_cells.specs.Meaning.{IsCircle, Holds, here}
use Rattle.and_cells.specs.Parts.{parts_of}
use Rattle.and_cells.specs.Ends.{Ends}
use Rattle.and_cells.proofs.Among.{among_none, among_first, among_cases}
use Rattle.and_circles.specs.Marked.{Listed, mark_at, unmarked}
use Rattle.and_circles.specs.Explored.{AreFinished, finished, done_from}
use Rattle.and_circles.specs.Walks.{IsStep, IsTaking, IsWalking, Walks, Opens, AreEnded, Goes, Answers, Stays, visits_left, weight, weights}
use Rattle.and_circles.specs.declared.marks.Mark.TheVariants.{Open, Done}
use Rattle.and_circles.specs.declared.explorer.Explored.{Explored}
use Rattle.and_circles.specs.declared.explorer.Explored.TheVariants as explored
use Rattle.and_circles.specs.declared.walk.Visit.{Visit}
use Rattle.and_circles.specs.declared.walk.Visit.TheVariants.{Enter, Leave}
use Rattle.and_circles.specs.declared.walk.Walk.{Walk}
use Rattle.and_circles.proofs.Parts.{step_in_range, part_in_range, part_is_lower}
use Rattle.and_circles.proofs.Marking.{Opened, Left, cell_opened, cell_left, none_opened, none_left, one_fewer, no_more}
use Rattle.and_circles.proofs.Weights.{weight_positive, lighter_word, lighter_parts, height_in_range}
use Rattle.and_circles.proofs.Walking.{entered, reverse_opened, passed, opens, leaves, root_holds, ends_all}

module _ (P : NamedProgram) (row : List Ref) where
  -- that all ends answers no circle and no half
  answers_end : (halves : Bool) (root : Ref) → Answers P row halves root (Ok explored.Ends)
  answers_end halves root = record { circle = λ cell e. absurd (cc); half = λ cell e. absurd (cc) }

  -- want of memory answers nothing
  pub goes_without : (visit : Visit) (old new : Walk) (e : AllocError) → Stays old new → Goes P row visit old new (Err e)
  goes_without visit old new e stays = record {
    stays = stays;
    ends = λ is. absurd (cc);
    answers = λ root taking. record { circle = λ cell is. absurd (cc); half = λ cell is. absurd (cc) };
  }

  -- what ends is passed
  pub goes_past : (at : Ref) (w : Walk) → ((root : Ref) → IsTaking P row root (Enter at) w → Ends P row w.floor w.halves at)
      → Goes P row (Enter at) w w (Ok explored.Ends)
  goes_past at w ends = record {
    stays = (refl, refl);
    ends = λ is root taking. (passed P row w.floor w.halves root w.marks at (reverse w.visits.items) taking (ends root taking), fewer);
    answers = λ root taking. answers_end w.halves root;
  }
    where
      fewer : visits_left P w.marks (reverse w.visits.items) < visits_left P w.marks (Enter at ∷ reverse w.visits.items)
      fewer = let positive : 0 < weight (Enter at) = weight_positive (Enter at) in omega arith

  -- a circle is answered
  pub goes_round : (at : Ref) (w : Walk) (c : ℕ) → IsCircle P row c → Goes P row (Enter at) w w (Ok (explored.Circle c))
  goes_round at w c circle = record {
    stays = (refl, refl);
    ends = λ is. absurd (cc);
    answers = λ root taking. record { circle = λ cell is. let same : c ≡ cell = cc in subst (IsCircle P row) same circle; half = λ cell is. absurd (cc) };
  }

  -- and so is a word of a pair
  pub goes_to_half : (c : ℕ) (w : Walk) → is_half (word_at row c) ≡ true → w.halves ≡ false → Goes P row (Enter (Cell c)) w w (Ok (explored.Half c))
  goes_to_half c w is_half_word whole = record {
    stays = (refl, refl);
    ends = λ is. absurd (cc);
    answers = λ root taking. record {
      circle = λ cell is. absurd (cc);
      half = λ cell is.
          let same : c ≡ cell = cc in (
            subst (λ (k : ℕ). Holds P row root k) same
                (root_holds P row w.floor w.halves root taking.falls (reverse w.visits.items) (Cell c) c taking.path.2 taking.path.0 (here c)),
            subst (λ (k : ℕ). is_half (word_at row k) ≡ true) same is_half_word,
            whole,
          );
    };
  }

  -- a place is opened
  pub goes_below : (at : Ref) (parts : List Ref) (old new : Walk) → Opens at parts old new → Opened at old.marks new.marks
      → ((root : Ref) → IsTaking P row root (Enter at) old → (r : Ref) → Contains parts r → IsStep P row at r × IsInRange P (length row) r)
      → ((root : Ref) → IsTaking P row root (Enter at) old
      → visits_left P new.marks (entered parts (Leave at ∷ reverse old.visits.items)) < visits_left P old.marks (Enter at ∷ reverse old.visits.items))
      → (((r : Ref) → Contains parts r → Ends P row old.floor old.halves r) → Ends P row old.floor old.halves at)
      → Goes P row (Enter at) old new (Ok explored.Ends)
  goes_below at parts old new opened marked steps fewer ends = record {
    stays = opened.stays;
    ends = λ is root taking. (
      walking root taking,
      subst (λ (vs : List Visit). visits_left P new.marks vs < visits_left P old.marks (Enter at ∷ reverse old.visits.items)) (sym listed) (fewer root taking),
    );
    answers = λ root taking. answers_end old.halves root;
  }
    where
      listed : reverse new.visits.items ≡ entered parts (Leave at ∷ reverse old.visits.items)
      listed = ap reverse opened.visits ∙ reverse_opened old.visits.items at parts

      walking : (root : Ref) → IsTaking P row root (Enter at) old → IsWalking P row root new
      walking root taking =
          let w : Walks P row old.floor old.halves root new.marks (entered parts (Leave at ∷ reverse old.visits.items)) =
          opens P row old.floor old.halves root old.marks new.marks at (reverse old.visits.items) parts taking marked (steps root taking) ends in
          subst (λ (floor : ℕ). Walks P row floor new.halves root new.marks (reverse new.visits.items)) (sym opened.stays.0)
          (subst (λ (halves : Bool). Walks P row old.floor halves root new.marks (reverse new.visits.items)) (sym opened.stays.1)
          (subst (Walks P row old.floor old.halves root new.marks) (sym listed) w))

  -- a cell is opened that is set to what is no half
  pub goes_to : (c : ℕ) (word : Ref) (old new : Walk) → Opens (Cell c) (word ∷ []) old new → new.marks ≡ set old.marks c (Some Open)
      → mark_at old.marks c ≡ None → c < length old.marks
      → word_at row c ≡ word → word ≢ Free → is_half word ≡ false → Goes P row (Enter (Cell c)) old new (Ok explored.Ends)
  goes_to c word old new opened marked none there is is_set whole =
      goes_below (Cell c) (word ∷ []) old new opened (subst (Opened (Cell c) old.marks) (sym marked) (cell_opened old.marks c there)) steps fewer
      (λ all. Ends.set c word (is, is_set) (all word (among_first word [])))
    where
      steps : (root : Ref) → IsTaking P row root (Enter (Cell c)) old → (r : Ref) → Contains (word ∷ []) r
          → IsStep P row (Cell c) r × IsInRange P (length row) r
      steps root taking r only =
          elim (among_cases word r [] only) [
            | inl e ↦ let step : IsStep P row (Cell c) r = (is ∙ sym e, λ free. is_set (sym e ∙ free)) in
                (step, step_in_range P taking.falls row taking.sound (Cell c) r taking.path.1 step (ap is_half e ∙ whole))
            | inr later ↦ absurd (among_none r later)
          ]

      fewer : (root : Ref) → IsTaking P row root (Enter (Cell c)) old
          → visits_left P new.marks (Enter word ∷ Leave (Cell c) ∷ reverse old.visits.items)
          < visits_left P old.marks (Enter (Cell c) ∷ reverse old.visits.items)
      fewer root taking =
          let step : IsStep P row (Cell c) word = (is, is_set) in
          let fits : IsInRange P (length row) word = step_in_range P taking.falls row taking.sound (Cell c) word taking.path.1 step whole in
          let one : suc (unmarked new.marks) ≡ unmarked old.marks = ap (λ (ms : Listed). suc (unmarked ms)) marked ∙ one_fewer old.marks c Open there none in
          lighter_word P (length P.skeleton.nodes) word (Cell c) (unmarked new.marks) (unmarked old.marks) (reverse old.visits.items) one
          (height_in_range P (length row) word fits)

  -- what a call that opens a cell answers
  pub goes_on : (c : ℕ) (word : Ref) (old new : Walk) (answer : Result Explored AllocError) → Stays old new
      → IfOk answer (λ found. (found ≡ explored.Ends) × Opens (Cell c) (word ∷ []) old new)
      → new.marks ≡ set old.marks c (Some Open) → mark_at old.marks c ≡ None → c < length old.marks
      → word_at row c ≡ word → word ≢ Free → is_half word ≡ false → Goes P row (Enter (Cell c)) old new answer
  goes_on c word old new (Ok found) stays opened marked none there is is_set whole =
      subst (λ (f : Explored). Goes P row (Enter (Cell c)) old new (Ok f)) (sym opened.0) (goes_to c word old new opened.1 marked none there is is_set whole)
  goes_on c word old new (Err e) stays opened marked none there is is_set whole = goes_without (Enter (Cell c)) old new e stays

  -- a structure
  pub goes_inside : (node : NodeNo) (base : ℕ) (old new : Walk) → Opens (Node node base) (parts_of P (Node node base)) old new → new.marks ≡ old.marks
      → Goes P row (Enter (Node node base)) old new (Ok explored.Ends)
  goes_inside node base old new opened same =
      goes_below (Node node base) (parts_of P (Node node base)) old new opened
      (subst (Opened (Node node base) old.marks) (sym same) (none_opened (Node node base) old.marks))
      (λ root taking r c. (c, part_in_range P taking.falls (length row) node base r taking.path.1 c))
      (λ root taking. subst (λ (ms : Listed). visits_left P ms (entered (parts_of P (Node node base)) (Leave (Node node base) ∷ reverse old.visits.items))
      < visits_left P old.marks (Enter (Node node base) ∷ reverse old.visits.items)) (sym same)
      (let less : weights (entered (parts_of P (Node node base)) (Leave (Node node base) ∷ reverse old.visits.items))
      < weights (Enter (Node node base) ∷ reverse old.visits.items) =
      lighter_parts node base (parts_of P (Node node base)) (reverse old.visits.items) opened.short
      (λ r c. part_is_lower P taking.falls row node base r taking.path.1.0.there c) in
      omega arith))
      (λ all. Ends.parts node base all)

  -- a place is left
  goes_back : (at : Ref) (old new : Walk) → ((root : Ref) → IsTaking P row root (Leave at) old → Left at old.marks new.marks)
      → unmarked new.marks ≤ unmarked old.marks
      → new.visits.items ≡ old.visits.items → Stays old new → Goes P row (Leave at) old new (Ok explored.Ends)
  goes_back at old new marked no_more_left same stays = record {
    stays = stays;
    ends = λ is root taking. (
      walking root taking,
      subst (λ (vs : List Visit). visits_left P new.marks (reverse vs) < visits_left P old.marks (Leave at ∷ reverse old.visits.items)) (sym same) fewer,
    );
    answers = λ root taking. answers_end old.halves root;
  }
    where
      fewer : visits_left P new.marks (reverse old.visits.items) < visits_left P old.marks (Leave at ∷ reverse old.visits.items)
      fewer =
          let less : 512 ^ suc (length P.skeleton.nodes) * unmarked new.marks ≤ 512 ^ suc (length P.skeleton.nodes) * unmarked old.marks =
          mul-le-mul_left (512 ^ suc (length P.skeleton.nodes)) no_more_left in
          omega arith

      walking : (root : Ref) → IsTaking P row root (Leave at) old → IsWalking P row root new
      walking root taking =
          subst (λ (floor : ℕ). Walks P row floor new.halves root new.marks (reverse new.visits.items)) (sym stays.0)
          (subst (λ (halves : Bool). Walks P row old.floor halves root new.marks (reverse new.visits.items)) (sym stays.1)
          (subst (λ (visits : List Visit). Walks P row old.floor old.halves root new.marks (reverse visits)) (sym same)
          (leaves P row old.floor old.halves root old.marks new.marks at (reverse old.visits.items) taking (marked root taking))))

  -- a cell is left
  pub cell_back : (c : ℕ) (old new : Walk) → new.marks ≡ set old.marks c (Some Done) → new.visits.items ≡ old.visits.items → Stays old new
      → Goes P row (Leave (Cell c)) old new (Ok explored.Ends)
  cell_back c old new marked same stays =
      goes_back (Cell c) old new
      (λ root taking. subst (Left (Cell c) old.marks) (sym marked) (cell_left old.marks c (omega (arith, taking.path.1, taking.room))))
      (subst (λ (ms : Listed). unmarked ms ≤ unmarked old.marks) (sym marked) (no_more old.marks c Done)) same stays

  -- and what is none
  pub none_back : (at : Ref) (w : Walk) (structures : List Ref) → ((c : ℕ) → at ≢ Cell c)
      → Goes P row (Leave at) w (record w { structures = structures }) (Ok explored.Ends)
  none_back at w structures apart =
      goes_back at w (record w { structures = structures }) (λ root taking. none_left at w.marks apart) (omega arith) refl (refl, refl)

  -- while the structures that are kept stay the same, each path from them ends
  pub still_ended : (old new : Walk) → Stays old new → new.structures ≡ old.structures → AreEnded P row old → AreEnded P row new
  still_ended old new stays same ended =
      subst (λ (floor : ℕ). All (Ends P row floor new.halves) new.structures) (sym stays.0)
      (subst (λ (halves : Bool). All (Ends P row old.floor halves) new.structures) (sym stays.1)
      (subst (All (Ends P row old.floor old.halves)) (sym same) ended))

  -- when nothing is left to be visited, all that was opened is done, and the root ends
  pub at_end : (root : Ref) (old w : Walk) → IsWalking P row root w → AreEnded P row w → Stays old w → w.visits.items ≡ []
      → AreFinished P row (finished w.marks w.structures old.floor old.halves) × ((c : ℕ) → mark_at w.marks c ≡ Some Open → ⊥)
      × Ends P row old.floor old.halves root
  at_end root old w walking ended stays none =
      let empty : Walks P row w.floor w.halves root w.marks [] =
      subst (λ (visits : List Visit). Walks P row w.floor w.halves root w.marks (reverse visits)) none walking in
      let ends : Walks P row old.floor old.halves root w.marks [] =
      subst (λ (floor : ℕ). Walks P row floor old.halves root w.marks []) stays.0
      (subst (λ (halves : Bool). Walks P row w.floor halves root w.marks []) stays.1 empty) in
      let kept : All (Ends P row old.floor old.halves) w.structures =
      subst (λ (floor : ℕ). All (Ends P row floor old.halves) w.structures) stays.0
      (subst (λ (halves : Bool). All (Ends P row w.floor halves) w.structures) stays.1 ended) in
      let done : All (Ends P row old.floor old.halves) (done_from 0 w.marks) = ends_all P row old.floor old.halves root w.marks ends.done in
      (All-append (Ends P row old.floor old.halves) (done_from 0 w.marks) w.structures done kept, (λ c is. among_none (Cell c) (ends.opened c is)), ends.owes)
