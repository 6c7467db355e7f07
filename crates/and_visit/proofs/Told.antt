-- What of the branches that were forked can be had again, and how far their keys are told.
use Rattle.std.proofs.Common.{ℕ, ◌≡◌, List, [], ◌∷◌, ◌++◌, length, take, drop, sym, ap, ◌∙◌, subst, append-nil}
use Rattle.std.proofs.Math.Seq.{take-length, take-append_seam}
use Rattle.std.proofs.lemmas.List.{take-append-drop}
use Rattle.and_model.specs.Prefixes.{IsPrefix}
use Rattle.and_model.specs.Reductions.{Reduction}
use Rattle.and_model.specs.declared.goal.Goal.{Goal}
use Rattle.and_laws.proofs.PrefixLemmas.{prefix_then}
use Rattle.and_cells.specs.Ranges.{NamedProgram}
use Rattle.and_branch_laws.specs.Visits
use Rattle.and_branch.specs.Branches.{Held, SameKey}
use Rattle.and_branch.specs.Children.{Fork, IsChild, IsForkOf}
use Rattle.and_branch.specs.Origins.{GoesBack, GoBackFrom, KeepsBack}
use Rattle.and_branch.proofs.KeptOrigins.{go_back_on}
use Rattle.and_code.specs.Telling.{IsTold, IsToldTo, left_of}
use Rattle.and_code.specs.declared.telling.CodeSoFar.{CodeSoFar}
use Rattle.and_code.proofs.Turns.{told_on}
use Rattle.and_visit.specs.Walking.{IsToldOf, AreTold, parents_of}
use Rattle.and_visit.specs.declared.stack.Level.{Level}

-- ---- What can be had again

-- A branch that was forked can be had again from what is left of it, and those below from it.
pub forked_back : {N : Type 0} (b left : Held) (g : Goal) (clauses : List ℕ) (l : Level N) (ls after : List (Level N))
    → IsForkOf b g clauses l.point → GoesBack b left → GoBackFrom b (parents_of ls) → after ≡ l ∷ ls → GoBackFrom left (parents_of after)
forked_back {N} b left g clauses l ls after is back below top =
    subst (λ (xs : List (Level N)). GoBackFrom left (parents_of xs)) (sym top) (
      subst (λ (h : Held). GoesBack h left) (sym is.parent) back,
      subst (λ (h : Held). GoBackFrom h (parents_of ls)) (sym is.parent) below,
    )

-- So it can from the next child,
pub child_back : {N : Type 0} (P : NamedProgram) (left b : Held) (f : Fork) (l : Level N) (ls after : List (Level N)) → IsChild P f l.point b
    → GoesBack f.parent b → GoesBack f.parent left × GoBackFrom f.parent (parents_of ls) → after ≡ l ∷ ls → GoBackFrom b (parents_of after)
child_back {N} P left b f l ls after is back (has, below) top =
    subst (λ (xs : List (Level N)). GoBackFrom b (parents_of xs)) (sym top) (
      subst (λ (h : Held). GoesBack h b) (sym is.parent) back,
      subst (λ (h : Held). GoBackFrom h (parents_of ls)) (sym is.parent) below,
    )

-- and those below from the last.
pub last_back : {N : Type 0} (left b : Held) (f : Fork) (ls : List (Level N)) → KeepsBack f.parent b
    → GoesBack f.parent left × GoBackFrom f.parent (parents_of ls) → GoBackFrom b (parents_of ls)
last_back left b f ls keeps (has, below) = go_back_on f.parent b (parents_of ls) keeps below

-- ---- What is told

-- What was told of a branch is told of one that has its reductions and more.
pub told_further : (P : NamedProgram) (rs more all : List Reduction) (t : CodeSoFar) (key : List ℕ) → all ≡ rs ++ more
    → IsTold P.program rs t key → IsTold P.program all t key
told_further P rs more all t key e x =
    subst (λ (l : List Reduction). IsTold P.program l t key) (sym e) (told_on P.program rs more (left_of t) (take t.length key) x)

-- The levels stay where the key goes on.
pub levels_longer : {N : Type 0} (P : NamedProgram) (key longer : List ℕ) (ls : List (Level N)) → IsPrefix key longer → AreTold P key ls
    → AreTold P longer ls
levels_longer P key longer [] begins told = tt
levels_longer P key longer (l ∷ ls) begins (here, first, below) = (here, prefix_then l.point.longer key longer first begins, below)

-- (What was told of a key is its beginning.)
pub levels_left : {N : Type 0} (P : NamedProgram) (n : ℕ) (key : List ℕ) (ls : List (Level N)) → AreTold P (take n key) ls → AreTold P key ls
levels_left P n key ls told = levels_longer P (take n key) key ls (drop n key, sym (take-append-drop n key)) told

-- A branch was advanced, which has the same key.
pub told_advanced : (P : NamedProgram) (b d : Held) (t : CodeSoFar) → SameKey b d → KeepsBack b d → IsTold P.program b.reductions t b.key
    → IsTold P.program d.reductions t d.key
told_advanced P b d t same keeps x =
    subst (λ (key : List ℕ). IsTold P.program d.reductions t key) (sym same.key)
    (told_further P b.reductions keeps.made d.reductions t b.key keeps.grows x)

pub levels_advanced : {N : Type 0} (P : NamedProgram) (b d : Held) (n : ℕ) (ls : List (Level N)) → SameKey b d → AreTold P (take n b.key) ls
    → AreTold P (take n d.key) ls
levels_advanced {N} P b d n ls same told = subst (λ (key : List ℕ). AreTold P (take n key) ls) (sym same.key) told

-- A branch that was forked is told of on its level.
pub told_forked : {N : Type 0} (P : NamedProgram) (b left : Held) (told : List ℕ) (g : Goal) (clauses : List ℕ) (l : Level N)
    (ls after : List (Level N)) → IsForkOf b g clauses l.point → IsTold P.program b.reductions l.told l.point.longer
    → l.told.length ≡ length l.point.longer → left.key ≡ l.point.longer → IsPrefix told l.point.longer → AreTold P told ls
    → after ≡ l ∷ ls → AreTold P left.key after
told_forked {N} P b left told g clauses l ls after is x long key begins below top =
    subst (λ (xs : List (Level N)). AreTold P left.key xs) (sym top) (
      record { told = subst (λ (h : Held). IsTold P.program h.reductions l.told l.point.longer) (sym is.parent) x; long = long },
      ([], key ∙ sym (append-nil l.point.longer)),
      levels_longer P told l.point.longer ls begins below,
    )

-- Of a key with one more clause, as much is told as of the beginning.
take_told : (n : ℕ) (longer key : List ℕ) (c : ℕ) → n ≡ length longer → key ≡ longer ++ c ∷ [] → take n key ≡ longer
take_told n longer key c long is =
    ap (λ k. take k key) long ∙ ap (take (length longer)) is ∙ take-append_seam longer (c ∷ [])

module _ {N : Type 0} (P : NamedProgram) (l : Level N) (g : Fork) (b : Held) (t : CodeSoFar) (here : IsToldOf P l) (is : IsChild P l.point g b)
    (same : t.length ≡ l.told.length) (left : left_of t ≡ left_of l.told) where
  key_told : take t.length b.key ≡ l.point.longer
  key_told = take_told t.length l.point.longer b.key is.clause (same ∙ here.long) is.key

  -- The next child is told of as far as the branch that was forked,
  pub child_told : (made : List Reduction) → b.reductions ≡ l.point.parent.reductions ++ made → IsTold P.program b.reductions t b.key
  child_told made grows =
      let rs = l.point.parent.reductions in
      let whole : take l.told.length l.point.longer ≡ l.point.longer =
      ap (λ k. take k l.point.longer) here.long ∙ take-length l.point.longer in
      let all : IsToldTo P.program b.reductions (left_of l.told) (take l.told.length l.point.longer) =
      told_further P rs made b.reductions l.told l.point.longer grows here.told in
      subst (λ (key : List ℕ). IsToldTo P.program b.reductions (left_of t) key) (whole ∙ sym key_told)
      (subst (λ (vs : List Visits.Visit). IsToldTo P.program b.reductions vs (take l.told.length l.point.longer)) (sym left) all)

  -- and so are the levels below it,
  pub below_told : (ls : List (Level N)) → AreTold P l.point.longer ls → AreTold P (take t.length b.key) ls
  below_told ls below = subst (λ (key : List ℕ). AreTold P key ls) (sym key_told) below

  -- where its own is put back too.
  pub levels_told : (m : Level N) (ls after : List (Level N)) → m.point ≡ g → m.told ≡ l.told → AreTold P l.point.longer ls → after ≡ m ∷ ls
      → AreTold P (take t.length b.key) after
  levels_told m ls after point told below top =
      let longer : m.point.longer ≡ l.point.longer = ap (λ (f : Fork). f.longer) point ∙ is.longer in
      let parent : m.point.parent ≡ l.point.parent = ap (λ (f : Fork). f.parent) point ∙ is.parent in
      subst (λ (xs : List (Level N)). AreTold P (take t.length b.key) xs) (sym top) (
        record {
          told = subst (λ (u : CodeSoFar). IsTold P.program m.point.parent.reductions u m.point.longer) (sym told)
              (subst (λ (key : List ℕ). IsTold P.program m.point.parent.reductions l.told key) (sym longer)
              (subst (λ (h : Held). IsTold P.program h.reductions l.told l.point.longer) (sym parent) here.told));
          long = ap (λ (u : CodeSoFar). u.length) told ∙ here.long ∙ ap (λ (cs : List ℕ). length cs) (sym longer);
        },
        ([], key_told ∙ sym longer ∙ sym (append-nil m.point.longer)),
        subst (λ (key : List ℕ). AreTold P key ls) (sym longer) below,
      )
