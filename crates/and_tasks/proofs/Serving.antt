-- What serves the forks of a stack, as tasks are put on it and taken off it, and as the branch on top of them goes on.
use Rattle.std.proofs.Common.{ℕ, ◌≡◌, List, [], ◌∷◌, ◌++◌, Option, Some, None, refl, sym, subst}
use Rattle.and_model.specs.Prefixes.{IsPrefix}
use Rattle.and_laws.proofs.PrefixLemmas.{prefix_then}
use Rattle.and_branch.specs.Branches.{Held}
use Rattle.and_branch.specs.Origins.{GoesBack, KeepsBack}
use Rattle.and_tasks.specs.Working.{Serves, IsServed, AreServed, above}
use Rattle.and_tasks.specs.declared.stack.Level.{Level}
use Rattle.and_tasks.specs.declared.stack.Task.{Task}
use Rattle.and_tasks.specs.declared.stack.Task.TheVariants.{One, Children, Left}

-- ---- Whichever key a branch has, what it goes back to is the same

module _ (first b : Held) (key : List ℕ) where
  pub back_keyed : GoesBack first b → GoesBack first (record b { key = key })
  back_keyed x = record { row = x.row; made = x.made; reductions = x.reductions }

  pub back_unkeyed : GoesBack first (record b { key = key }) → GoesBack first b
  back_unkeyed x = record { row = x.row; made = x.made; reductions = x.reductions }

module _ {N : Type 0} where
  -- ---- a task on top

  above_on : (left : Option Held) (xs : List (Task N)) (x : Task N) → above left (xs ++ x ∷ []) ≡ above (above left (x ∷ [])) xs
  above_on left [] x = refl
  above_on left (One b ∷ xs) x = refl
  above_on left (Children l ∷ xs) x = refl
  above_on left (Left b ∷ xs) x = refl

  -- A stack is served that is so below its top, where the top is.
  pub served_put : (left : Option Held) (xs : List (Task N)) (x : Task N) → AreServed (above left (x ∷ [])) xs → AreServed left (x ∷ [])
      → AreServed left (xs ++ x ∷ [])
  served_put left [] x below here = here
  served_put left (One b ∷ xs) x below here = served_put left xs x below here
  served_put left (Children l ∷ xs) x below here = (
    subst (λ (o : Option Held). IsServed l o) (sym (above_on left xs x)) below.0,
    served_put left xs x below.1 here,
  )
  served_put left (Left b ∷ xs) x below here = served_put left xs x below here

  pub served_off : (left : Option Held) (xs : List (Task N)) (x : Task N) → AreServed left (xs ++ x ∷ [])
      → AreServed (above left (x ∷ [])) xs × AreServed left (x ∷ [])
  served_off left [] x s = (tt, s)
  served_off left (One b ∷ xs) x s = served_off left xs x s
  served_off left (Children l ∷ xs) x s =
      let rest = served_off left xs x s.1 in ((subst (λ (o : Option Held). IsServed l o) (above_on left xs x) s.0, rest.0), rest.1)
  served_off left (Left b ∷ xs) x s = served_off left xs x s

  -- A fork on top is served by what is left of a branch.
  pub served_top : (left : Option Held) (xs : List (Task N)) (l : Level N) (b : Held) → left ≡ Some b → AreServed left (xs ++ Children l ∷ [])
      → Serves l b
  served_top left xs l b is s = subst (λ (o : Option Held). IsServed l o) is (served_off left xs (Children l) s).1.0

  pub none_served : (left : Option Held) (xs : List (Task N)) (l : Level N) → left ≡ None → AreServed left (xs ++ Children l ∷ []) → ⊥
  none_served left xs l is s = subst (λ (o : Option Held). IsServed l o) is (served_off left xs (Children l) s).1.0

  -- ---- the branch on top

  module _ (b c : Held) (goes : (l : Level N) → Serves l b → Serves l c) where
    on_by : (l : Level N) (xs : List (Task N)) → IsServed l (above (Some b) xs) → IsServed l (above (Some c) xs)
    on_by l [] s = goes l s
    on_by l (One d ∷ xs) s = s
    on_by l (Children m ∷ xs) s = s
    on_by l (Left d ∷ xs) s = s

    -- Another branch serves the stack that serves what the first one does.
    pub served_on : (xs : List (Task N)) → AreServed (Some b) xs → AreServed (Some c) xs
    served_on [] s = tt
    served_on (One d ∷ xs) s = served_on xs s
    served_on (Children l ∷ xs) s = (on_by l xs s.0, served_on xs s.1)
    served_on (Left d ∷ xs) s = served_on xs s

  alone_by : (left : Option Held) (l : Level N) (xs : List (Task N)) → IsServed l (above None xs) → IsServed l (above left xs)
  alone_by left l [] s = absurd s
  alone_by left l (One d ∷ xs) s = s
  alone_by left l (Children m ∷ xs) s = s
  alone_by left l (Left d ∷ xs) s = s

  -- A stack that needs no branch on top may have one.
  pub served_alone : (left : Option Held) (xs : List (Task N)) → AreServed None xs → AreServed left xs
  served_alone left [] s = tt
  served_alone left (One d ∷ xs) s = served_alone left xs s
  served_alone left (Children l ∷ xs) s = (alone_by left l xs s.0, served_alone left xs s.1)
  served_alone left (Left d ∷ xs) s = served_alone left xs s

  -- The branch went on, and its key has the same beginning;
  pub served_kept : (b c : Held) (xs : List (Task N)) → KeepsBack b c → IsPrefix b.key c.key → AreServed (Some b) xs → AreServed (Some c) xs
  served_kept b c xs keeps longer s =
      served_on b c (λ l x. record {
        back = keeps.again l.point.parent x.back;
        begins = prefix_then l.point.longer b.key c.key x.begins longer;
      }) xs s

  -- or it is the same but for its key.
  pub served_keyed : (b : Held) (short long : List ℕ) (xs : List (Task N)) → IsPrefix short long → AreServed (Some (record b { key = short })) xs
      → AreServed (Some (record b { key = long })) xs
  served_keyed b short long xs longer s =
      served_on (record b { key = short }) (record b { key = long }) (λ l x. record {
        back = back_keyed l.point.parent b long (back_unkeyed l.point.parent b short x.back);
        begins = prefix_then l.point.longer short long x.begins longer;
      }) xs s
