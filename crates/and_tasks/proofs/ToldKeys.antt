-- How far the key of a branch is told, as it goes on, is forked, and has a child.
use Rattle.std.proofs.Common.{ℕ, ◌≡◌, List, [], ◌∷◌, ◌++◌, length, take, drop, Some, sym, ap, ◌∙◌, subst, append-nil}
use Rattle.std.proofs.Math.Seq.{take-length, take-append_seam}
use Rattle.std.proofs.lemmas.List.{take-append-drop}
use Rattle.and_model.specs.Prefixes.{IsPrefix}
use Rattle.and_model.specs.Reductions.{Reduction}
use Rattle.and_cells.specs.Ranges.{NamedProgram}
use Rattle.and_branch_laws.specs.Visits
use Rattle.and_branch.specs.Branches.{Held, SameKey}
use Rattle.and_branch.specs.Children.{Fork, IsChild}
use Rattle.and_branch.specs.Origins.{GoesBack, KeepsBack}
use Rattle.and_code.specs.Telling.{IsTold, IsToldTo, left_of}
use Rattle.and_code.specs.declared.telling.CodeSoFar.{CodeSoFar}
use Rattle.and_code.proofs.Turns.{told_on}
use Rattle.and_tasks.specs.Working.{AreServed, Serves, as_told, at_fork, forked}
use Rattle.and_tasks.specs.declared.stack.Level.{Level}
use Rattle.and_tasks.specs.declared.stack.Task.{Task}
use Rattle.and_tasks.specs.declared.stack.Task.TheVariants.{Children}
use Rattle.and_tasks.proofs.Serving.{back_keyed, back_unkeyed, served_on, served_put}

take_none : (n : ℕ) (key : List ℕ) → n ≡ 0 → take n key ≡ []
take_none n key e = ap (λ k. take k key) e

-- What was told of a branch is told of one that has its reductions and more.
pub told_further : (P : NamedProgram) (rs more all : List Reduction) (t : CodeSoFar) (key : List ℕ) → all ≡ rs ++ more
    → IsTold P.program rs t key → IsTold P.program all t key
told_further P rs more all t key e x =
    subst (λ (l : List Reduction). IsTold P.program l t key) (sym e) (told_on P.program rs more (left_of t) (take t.length key) x)

-- Where nothing was told, nothing was of any branch.
pub told_anew : (P : NamedProgram) (rs : List Reduction) (t : CodeSoFar) (key : List ℕ) → t.length ≡ 0 → IsTold P.program [] t []
    → IsTold P.program rs t key
told_anew P rs t key none x =
    subst (λ (code : List ℕ). IsToldTo P.program rs (left_of t) code) (take_none t.length [] none ∙ sym (take_none t.length key none))
    (told_on P.program [] rs (left_of t) (take t.length []) x)

-- A branch went on under its key.
pub told_kept : (P : NamedProgram) (b d : Held) (t : CodeSoFar) → SameKey b d → KeepsBack b d → IsTold P.program b.reductions t b.key
    → IsTold P.program d.reductions t d.key
told_kept P b d t same keeps x =
    subst (λ (key : List ℕ). IsTold P.program d.reductions t key) (sym same.key)
    (told_further P b.reductions keeps.made d.reductions t b.key keeps.grows x)

-- The beginning of a key,
pub begins_key : (n : ℕ) (key : List ℕ) → IsPrefix (take n key) key
begins_key n key = (drop n key, sym (take-append-drop n key))

-- and all of it.
pub begins_same : (one two : List ℕ) → two ≡ one → IsPrefix one two
begins_same one two e = ([], e ∙ sym (append-nil one))

-- Of a key with one more clause, as much is told as of the beginning.
take_told : (n : ℕ) (longer key : List ℕ) (c : ℕ) → n ≡ length longer → key ≡ longer ++ c ∷ [] → take n key ≡ longer
take_told n longer key c long is =
    ap (λ k. take k key) long ∙ ap (take (length longer)) is ∙ take-append_seam longer (c ∷ [])

-- ---- a child

module _ (P : NamedProgram) (f g : Fork) (b : Held) (u t : CodeSoFar) (is : IsChild P f g b) (long : u.length ≡ length f.longer)
    (same : t.length ≡ u.length) where
  pub key_told : take t.length b.key ≡ f.longer
  key_told = take_told t.length f.longer b.key is.clause (same ∙ long) is.key

  -- is told of as far as the branch that was forked.
  pub child_told : (made : List Reduction) → left_of t ≡ left_of u → IsTold P.program f.parent.reductions u f.longer
      → b.reductions ≡ f.parent.reductions ++ made → IsTold P.program b.reductions t b.key
  child_told made left told grows =
      let rs = f.parent.reductions in
      let whole : take u.length f.longer ≡ f.longer = ap (λ k. take k f.longer) long ∙ take-length f.longer in
      let all : IsToldTo P.program b.reductions (left_of u) (take u.length f.longer) = told_further P rs made b.reductions u f.longer grows told in
      subst (λ (key : List ℕ). IsToldTo P.program b.reductions (left_of t) key) (whole ∙ sym key_told)
      (subst (λ (vs : List Visits.Visit). IsToldTo P.program b.reductions vs (take u.length f.longer)) (sym left) all)

  module _ {N : Type 0} (l : Level N) (point : l.point ≡ f) (common : ℕ) (xs : List (Task N)) where
    -- The last child goes on on the stack below the fork.
    pub last_served : KeepsBack f.parent b → AreServed (Some (forked l)) xs
        → AreServed (Some (as_told {N = N} (record { branch = b; told = t; common = common }))) xs
    last_served keeps s =
        served_on (at_fork f) (record b { key = take t.length b.key }) (λ m x. record {
          back = back_keyed m.point.parent b (take t.length b.key) (keeps.again m.point.parent (back_unkeyed m.point.parent f.parent f.longer x.back));
          begins = subst (λ (key : List ℕ). IsPrefix m.point.longer key) (sym key_told) x.begins;
        }) xs (subst (λ (h : Fork). AreServed (Some (at_fork h)) xs) point s)

    -- Another one goes on above the fork, with those that come behind it.
    pub child_served : (m : Level N) → m.point ≡ g → GoesBack f.parent b → AreServed (Some (forked l)) xs
        → AreServed (Some (as_told {N = N} (record { branch = b; told = t; common = common }))) (xs ++ Children m ∷ [])
    child_served m next back s =
        let hand : Held = record b { key = take t.length b.key } in
        let parent : m.point.parent ≡ f.parent = ap (λ (h : Fork). h.parent) next ∙ is.parent in
        let longer : m.point.longer ≡ f.longer = ap (λ (h : Fork). h.longer) next ∙ is.longer in
        let here : Serves m hand = record {
          back = subst (λ (d : Held). GoesBack d hand) (sym parent) (back_keyed f.parent b (take t.length b.key) back);
          begins = begins_same m.point.longer hand.key (key_told ∙ sym longer);
        } in
        let same_fork : at_fork f ≡ forked m =
        ap (λ (d : Held). record d { key = f.longer }) (sym parent) ∙ ap (λ (key : List ℕ). record m.point.parent { key = key }) (sym longer) in
        served_put (Some hand) xs (Children m)
        (subst (λ (d : Held). AreServed (Some d) xs) same_fork (subst (λ (h : Fork). AreServed (Some (at_fork h)) xs) point s)) (here, tt)
