-- What a worker does between its turns that reads only: it goes on being at work.
use Rattle.std.proofs.Common.{ℕ, ◌∙◌, refl, ap, ◌≡◌, ◌∷◌, ◌<◌, List, Option, Some, None, sym, subst, All}
use Rattle.std.specs.Prelude.{IfSome, IfNone}
use Rattle.std.proofs.lemmas.List.Elements.{All-tail}
use Rattle.std.proofs.lemmas.List.Sorted.{All-permutation}
use Rattle.and_model.specs.declared.goal.Goal.{Goal}
use Rattle.and_cells.specs.Ranges.{NamedProgram}
use Rattle.and_cells.specs.Seen.{Seen, OnlyReads}
use Rattle.and_workers.specs.Waiting.{Waiting, waiting_for, Wakes}
use Rattle.and_unify.specs.declared.pairs.Pair.{Pair}
use Rattle.and_model.specs.Store.{Pass}
use Rattle.and_model.specs.declared.reference.Ref.{Ref}
use Rattle.and_store.specs.Calls.{HangsGoal, MissesPlace, FindsSet, FindsFailed, HandsOut}
use Rattle.and_store.specs.Passes.{PassSeen, StoreId}
use Rattle.and_store.specs.Worked.{IsUsed, seen_by}
use Rattle.and_workers.specs.AtWork.{IsAtWork}
use Rattle.and_handed.specs.declared.told.HandedOn.{HandedOn}
use Rattle.and_workers.proofs.Quiet.{stays_at_work}
use Rattle.and_workers.proofs.Learning.{reads_learnt, fits_same, fits_looked, hung_learns, missed_learns, set_found_learns, failed_learns, hands_learns}
use Rattle.and_workers.proofs.Steps.{fits_used}

pub reads_at_work : (P : NamedProgram) (told : HandedOn) (todo : List Pair) (waiting : List Waiting) (p q : PassSeen) → IsUsed P p q
    → OnlyReads (seen_by p) (seen_by q)
    → IsAtWork P told todo waiting p → IsAtWork P told todo waiting q
reads_at_work P told todo waiting p q used reads work =
    stays_at_work P told todo waiting p q (reads_learnt P p q used reads) (fits_used P p q used work.fit) work

-- Fewer goals wait.
pub waits_fewer : (P : NamedProgram) (told : HandedOn) (todo : List Pair) (was is : List Waiting) (p : PassSeen)
    → (All (λ (w : Waiting). w.cell < p.store.about.words) was → All (λ (w : Waiting). w.cell < p.store.about.words) is)
    → IsAtWork P told todo was p → IsAtWork P told todo is p
waits_fewer P told todo was is p fewer work = record {
  done = work.done;
  no_fail = work.no_fail;
  known = work.known;
  fit = work.fit;
  waits = fewer work.waits;
  live = work.live;
}

-- a goal that was taken out leaves the others
pub woken_leaves : (Q : Waiting → Type 0) (P : NamedProgram) (result : Option Goal) (was is : List Waiting) (old new : Seen)
    → IfSome result (λ goal. Wakes P goal was is old new) → IfNone result (is ≡ was) → All Q was → All Q is
woken_leaves Q P None was is old new some none all = subst (All Q) (sym none) all
woken_leaves Q P (Some goal) was is old new some none all =
    let first = waiting_for goal some.cell in
    All-tail Q first is (All-permutation Q was (first ∷ is) some.taken all)

-- ---- A goal is to wait

-- whatever became of the wish to hang it
pub hung_at_work : (P : NamedProgram) (told : HandedOn) (todo : List Pair) (waiting : List Waiting) (waiters cell : ℕ) (goal : Goal) (p q : PassSeen)
    → q.store ≡ p.store
    → HangsGoal waiters cell goal p.pass q.pass → IsAtWork P told todo waiting p → IsAtWork P told todo waiting q
hung_at_work P told todo waiting waiters cell goal p q store f work =
    stays_at_work P told todo waiting p q (record { store = store; learns = hung_learns p.store.about.first waiters cell goal p.pass q.pass f })
    (fits_same P p q store (ap (λ (x : Pass). x.known) f.becomes) work.fit) work

pub missed_at_work : (P : NamedProgram) (told : HandedOn) (todo : List Pair) (waiting : List Waiting) (cell : ℕ) (place : _) (p q : PassSeen)
    → q.store ≡ p.store
    → MissesPlace cell place p.pass q.pass → IsAtWork P told todo waiting p → IsAtWork P told todo waiting q
missed_at_work P told todo waiting cell place p q store f work =
    stays_at_work P told todo waiting p q (record { store = store; learns = missed_learns p.store.about.first cell place p.pass q.pass f })
    (fits_same P p q store (ap (λ (x : Pass). x.known) f.becomes) work.fit) work

pub found_at_work : (P : NamedProgram) (told : HandedOn) (todo : List Pair) (waiting : List Waiting) (s : StoreId) (cell : ℕ) (r : Ref)
    (p q : PassSeen) → q.store ≡ s → p.store ≡ s
    → cell < s.about.words → FindsSet P s.about cell r p.pass q.pass → IsAtWork P told todo waiting p → IsAtWork P told todo waiting q
found_at_work P told todo waiting s cell r p q of_s was_of_s below_words found work =
    let store : q.store ≡ p.store = of_s ∙ sym was_of_s in
    let below : cell < p.store.about.words = subst (λ (s : StoreId). cell < s.about.words) (sym was_of_s) below_words in
    let f : FindsSet P p.store.about cell r p.pass q.pass = subst (λ (s : StoreId). FindsSet P s.about cell r p.pass q.pass) (sym was_of_s) found in
    let x : PassSeen = record p { pass = f.between } in
    stays_at_work P told todo waiting p q (record { store = store; learns = set_found_learns P p.store.about cell r p.pass q.pass f })
    (fits_looked P p.store.about cell r x q refl store below f.looks (fits_same P p x refl (ap (λ (x : Pass). x.known) f.misses.becomes) work.fit)) work

pub same_at_work : (P : NamedProgram) (told : HandedOn) (todo : List Pair) (waiting : List Waiting) (p q : PassSeen) → q ≡ p
    → IsAtWork P told todo waiting p → IsAtWork P told todo waiting q
same_at_work P told todo waiting p q same = subst (IsAtWork P told todo waiting) (sym same)

pub failed_at_work : (P : NamedProgram) (told : HandedOn) (todo : List Pair) (waiting : List Waiting) (is_up : _) (p q : PassSeen) → q.store ≡ p.store
    → FindsFailed is_up p.pass q.pass → IsAtWork P told todo waiting p → IsAtWork P told todo waiting q
failed_at_work P told todo waiting is_up p q store f work =
    stays_at_work P told todo waiting p q (record { store = store; learns = failed_learns p.store.about.first is_up p.pass q.pass f })
    (fits_same P p q store (ap (λ (x : Pass). x.known) f.becomes) work.fit) work

pub handed_at_work : (P : NamedProgram) (told : HandedOn) (todo : List Pair) (waiting : List Waiting) (words : ℕ) (goal : Goal) (p q : PassSeen)
    → q.store ≡ p.store
    → HandsOut P words goal p q → IsAtWork P told todo waiting p → IsAtWork P told todo waiting q
handed_at_work P told todo waiting words goal p q store f work =
    stays_at_work P told todo waiting p q (record { store = store; learns = hands_learns p.store.about.first P words goal p q f })
    (fits_same P p q store (ap (λ (x : Pass). x.known) f.becomes) work.fit) work

-- what is told and what waits is the same under other names
pub at_work_also : (P : NamedProgram) (told told_also : HandedOn) (todo : List Pair) (waiting waiting_also : List Waiting) (p : PassSeen)
    → told_also ≡ told → waiting_also ≡ waiting
    → IsAtWork P told todo waiting p → IsAtWork P told_also todo waiting_also p
at_work_also P told told_also todo waiting waiting_also p e f work =
    subst (λ t. IsAtWork P t todo waiting_also p) (sym e) (subst (λ w. IsAtWork P told todo w p) (sym f) work)

-- what holds in one of the two cases
pub some_holds : {X : Type 0} (Q : X → Type 0) (o : Option X) (x : X) → o ≡ Some x → IfSome o Q → Q x
some_holds Q o x is h = let at : IfSome (Some x) Q = subst (λ o. IfSome o Q) is h in at

pub none_holds : {X : Type 0} (Q : Type 0) (o : Option X) → o ≡ None → IfNone o Q → Q
none_holds Q None is h = h
none_holds Q (Some x) is h = absurd (cc)
