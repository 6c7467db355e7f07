-- Copies that are taken down a stack of forks.
use Rattle.std.proofs.Common.{ℕ, suc, zero, ◌+◌, ◌≡◌, ◌≢◌, List, [], ◌∷◌, drop, get_or, Option, Some, None, sym, ap, ◌∙◌, subst, add-one}
use Rattle.std.specs.Prelude.{slice_get, IfSome}
use Rattle.std.specs.List.{remove}
use Rattle.and_model.specs.Prefixes.{IsPrefix}
use Rattle.and_laws.proofs.PrefixLemmas.{prefix_then}
use Rattle.and_cells.specs.Ranges.{NamedProgram}
use Rattle.and_branch.specs.Branches.{Held}
use Rattle.and_branch.specs.Children.{IsChild}
use Rattle.and_branch.specs.Copies.{IsBackAt}
use Rattle.and_branch.specs.Origins.{GoesBack}
use Rattle.and_tasks.specs.Copying.{IsCopyOf, IsCopyAt}
use Rattle.and_tasks.specs.Working.{AreToCome, IsTask, AreTasks, Serves, IsServed, AreServed, above, forked}
use Rattle.and_tasks.specs.declared.stack.Level.{Level}
use Rattle.and_tasks.specs.declared.stack.Task.{Task}
use Rattle.and_tasks.specs.declared.stack.Task.TheVariants.{One, Children, Left}
use Rattle.and_branch.proofs.KeptOrigins.{goes_nowhere}
use Rattle.and_tasks.proofs.Having.{first_removed}
use Rattle.and_tasks.proofs.Serving.{back_unkeyed}

-- the fork that a task is, or this one
abbrev fork_or : {N : Type 0} → Level N → Option (Task N) → Level N
fork_or l None = l
fork_or l (Some (Children m)) = m
fork_or l (Some x) = l

is_item : {A : Type 0} (x y : A) → Some x ≡ Some y → x ≡ y
is_item x y e = cc

module _ {N : Type 0} where
  -- At one place stands one fork.
  pub one_fork : (xs : List (Task N)) (i : ℕ) (l m : Level N) → slice_get xs i ≡ Some (Children l) → slice_get xs i ≡ Some (Children m) → l ≡ m
  one_fork xs i l m e f = ap (fork_or l) (sym e ∙ f)

  -- Without the oldest task a stack is served still.
  pub served_rest : (left : Option Held) (x : Task N) (xs : List (Task N)) → AreServed left (x ∷ xs) → AreServed left xs
  served_rest left (One b) xs s = s
  served_rest left (Children l) xs s = s.1
  served_rest left (Left b) xs s = s

  -- A fork is served by what stands above it.
  pub served_at : (left : Option Held) (xs : List (Task N)) (i : ℕ) (l : Level N) → AreServed left xs → slice_get xs i ≡ Some (Children l)
      → IsServed l (above left (drop (suc i) xs))
  served_at left [] i l s e = absurd (cc)
  served_at left (x ∷ xs) zero l s e = (subst (λ (y : Task N). AreServed left (y ∷ xs)) (is_item x (Children l) e) s).0
  served_at left (x ∷ xs) (suc i) l s e = served_at left xs i l (served_rest left x xs s) e

  pub come_at : (P : NamedProgram) (limit : ℕ) (xs : List (Task N)) (i : ℕ) (l : Level N) → AreTasks P limit xs
      → slice_get xs i ≡ Some (Children l) → AreToCome P limit l
  come_at P limit [] i l are e = absurd (cc)
  come_at P limit (x ∷ xs) zero l are e = subst (λ (y : Task N). IsTask P limit y) (is_item x (Children l) e) are.0
  come_at P limit (x ∷ xs) (suc i) l are e = come_at P limit xs i l are.1 e

  -- A fork itself stands above the one below it.
  pub above_at : (left : Option Held) (xs : List (Task N)) (i : ℕ) (l : Level N) → slice_get xs i ≡ Some (Children l)
      → above left (drop i xs) ≡ Some (forked l)
  above_at left [] i l e = absurd (cc)
  above_at left (x ∷ xs) zero l e = ap (λ (y : Task N). above left (y ∷ xs)) (is_item x (Children l) e)
  above_at left (x ∷ xs) (suc i) l e = above_at left xs i l e

  -- What serves the fork at a place.
  pub serves_at : (left : Option Held) (xs : List (Task N)) (i n : ℕ) (l : Level N) (b : Held) → n ≡ i + 1 → AreServed left xs
      → slice_get xs i ≡ Some (Children l) → above left (drop n xs) ≡ Some b → Serves l b
  serves_at left xs i n l b next s e is =
      let place : n ≡ suc i = next ∙ add-one i in
      subst (λ (o : Option Held). IsServed l o) (ap (λ k. above left (drop k xs)) (sym place) ∙ is) (served_at left xs i l s e)

  -- A copy of the branch that serves the fork at a place.
  pub copy_at : (xs : List (Task N)) (i : ℕ) (l : Level N) (b copy : Held) → slice_get xs i ≡ Some (Children l) → Serves l b
      → IsBackAt l.point.parent copy → copy.key ≡ b.key → IsCopyAt xs i copy
  copy_at xs i l b copy e serves back key m f =
      subst (λ (k : Level N). IsCopyOf k copy) (one_fork xs i l m e f) (record {
        back = back;
        begins = subst (λ k. IsPrefix l.point.longer k) (sym key) serves.begins;
      })

  -- It is taken down to the fork below.
  module _ (left : Option Held) (xs : List (Task N)) (i n : ℕ) (l m : Level N) (next : n ≡ i + 1) (s : AreServed left xs)
      (e : slice_get xs i ≡ Some (Children l)) (f : slice_get xs n ≡ Some (Children m)) where
    pub serves_below : Serves l (forked m)
    serves_below = serves_at left xs i n l (forked m) next s e (above_at left xs n m f)

    pub goes_below : GoesBack l.point.parent m.point.parent
    goes_below = back_unkeyed l.point.parent m.point.parent m.point.longer serves_below.back

    pub copy_below : (copy lower : Held) → IsCopyAt xs n copy → IsBackAt l.point.parent lower → lower.key ≡ copy.key → IsCopyAt xs i lower
    copy_below copy lower is back key k g =
        subst (λ (x : Level N). IsCopyOf x lower) (one_fork xs i l k e g) (record {
          back = back;
          begins = subst (λ (c : List ℕ). IsPrefix l.point.longer c) (sym key)
              (prefix_then l.point.longer m.point.longer copy.key serves_below.begins (is m f).begins);
        })

  -- Of a copy for a fork the next child can be made.
  pub copy_serves : (l : Level N) (copy : Held) → IsCopyOf l copy → Serves l copy
  copy_serves l copy is = record {
    back = goes_nowhere l.point.parent copy is.back.row is.back.reductions is.back.trail;
    begins = is.begins;
  }

  -- The others of a fork are served as it was.
  pub served_next : (P : NamedProgram) (left : Option Held) (l m : Level N) (b : Held) (xs : List (Task N)) → IsChild P l.point m.point b
      → AreServed left (Children l ∷ xs) → AreServed left (Children m ∷ xs)
  served_next P left l m b xs is s = (by_parent (above left xs) s.0, s.1)
    where
      by_parent : (o : Option Held) → IsServed l o → IsServed m o
      by_parent None t = t
      by_parent (Some d) t = record {
        back = subst (λ (e : Held). GoesBack e d) (sym is.parent) t.back;
        begins = subst (λ (key : List ℕ). IsPrefix key d.key) (sym is.longer) t.begins;
      }

  -- The first of the tasks was taken off.
  pub served_off_below : (left : Option Held) (xs rest : List (Task N)) (x y : Task N) → xs ≢ [] → x ≡ get_or xs 0 x → rest ≡ remove xs 0 → x ≡ y
      → AreServed left xs → AreServed left (y ∷ rest)
  served_off_below left xs rest x y some is others same s =
      subst (λ (t : Task N). AreServed left (t ∷ rest)) same
      (subst (λ (ts : List (Task N)). AreServed left ts) (first_removed xs rest x some is others) s)

  pub copy_first : (xs rest : List (Task N)) (x : Task N) (l : Level N) (copy : Option Held) → xs ≢ [] → x ≡ get_or xs 0 x → rest ≡ remove xs 0
      → x ≡ Children l → IfSome copy (IsCopyAt xs 0) → IfSome copy (IsCopyOf l)
  copy_first xs rest x l None some is others same h = tt
  copy_first xs rest x l (Some b) some is others same h =
      h l (ap (λ (ts : List (Task N)). slice_get ts 0) (first_removed xs rest x some is others) ∙ ap (λ (t : Task N). Some t) same)
