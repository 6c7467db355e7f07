-- Where a branch goes from its state: to the next tree, to the splits, or over the limit.
use Rattle.std.proofs.Common.{ℕ, ◌+◌, ◌≡◌, ◌<◌, ◌≤◌, List, [], ◌∷◌, ◌++◌, Option, Some, refl, sym, ◌∙◌, inl, inr, arith, Contains}
use Rattle.std.proofs.lemmas.Bool.{cases_lt}
use Rattle.and_model.specs.Programs.{Program, clause_at, clause_weight, Of}
use Rattle.and_model.specs.Trees.{QueryTree, Open, call_of, reduce, decided, weight}
use Rattle.and_model.specs.Reached.{Step, Dead, Split, ReachedBy}
use Rattle.and_model.specs.Limits.{at_goal, OverLimit}
use Rattle.and_model.specs.Reductions.{Makes}
use Rattle.and_laws.proofs.Agreeing.{dead_below_shut}
use Rattle.and_laws.proofs.Covering.{reached_covers}
use Rattle.and_laws.proofs.Keys.{reached_decided}
use Rattle.and_laws.proofs.Order.{below_self, reduce_weight}
use Rattle.and_cells.specs.Ranges.{NamedProgram}
use Rattle.and_branch_laws.specs.OwnVariables.{IsLoaded}
use Rattle.and_branch_laws.specs.States.{Fits, determinate, over_one, over_all, fork, StateOf}
use Rattle.and_branch_laws.specs.Views.{View, StandsIn}
use Rattle.and_branch_laws.specs.Kept.{KeptIn}
use Rattle.and_branch_laws.proofs.OneState.{lives_not_dead, sole_not_shut}
use Rattle.and_branch_laws.proofs.Reading.{kept_stands}
use Rattle.and_model.specs.Terms.{number}
use Rattle.std.specs.Prelude.{pos, true, false}

-- what does not fit is above the limit
too_heavy : {P : Program} (limit : ℕ) (t : QueryTree P) (c : ℕ) → (Fits limit t c → ⊥) → limit < weight t + clause_weight (clause_at P c)
too_heavy {P} limit t c none_fits =
    elim (cases_lt limit (weight t + clause_weight (clause_at P c))) [ inl above ↦ above | inr fits ↦ absurd (none_fits fits) ]

-- The tree with the clause weighs what both do.
grown_weight : {P : Program} (limit : ℕ) (t : QueryTree P) (o : Open t) (c : ℕ) (h : Of P (call_of t o) c) → Fits limit t c
    → weight (reduce t o c h) ≤ limit
grown_weight {P} limit t o c h fits = let w = reduce_weight t o c h in omega arith

module _ (P : Program) (limit : ℕ) (key : List ℕ) (t : QueryTree P) (reached : ReachedBy P limit key t) where
  -- A determinate goal is reduced: a Step, with the same key.
  pub determinate_goes : (o : Open t) (c : ℕ) → StateOf P limit t (determinate o c) → (h : Of P (call_of t o) c) → Step t (reduce t o c h)
      × ReachedBy P limit key (reduce t o c h)
  determinate_goes o c x h =
      let step : Step t (reduce t o c h) = (x.0, x.1, x.2.0, o, c, h, refl, x.3.1) in
      (step, ReachedBy.stepped key t (reduce t o c h) reached step (grown_weight limit t o c h x.4))

  -- A fork splits the tree by each of its clauses, with the key of what was decided and the clause.
  pub fork_goes : (o : Open t) (cs : List ℕ) (cut : Option ℕ) → StateOf P limit t (fork o cs cut) → (c : ℕ) → Contains cs c
      → (h : Of P (call_of t o) c)
      → Split t c (reduce t o c h) × ReachedBy P limit (decided t ++ c ∷ []) (reduce t o c h)
  fork_goes o cs cut x c i h =
      let k = (x.5 c).0 i in
      let split : Split t c (reduce t o c h) = (x.2.0, x.0, x.1, x.2.2, o, x.2.1, h, k.0, refl) in
      (split, ReachedBy.divided key t c (reduce t o c h) reached split (grown_weight limit t o c h k.1))

  -- What does not fit is over the limit.
  pub over_one_cut : (o : Open t) (c : ℕ) → StateOf P limit t (over_one o c) → OverLimit P limit (at_goal t o c)
  over_one_cut o c x = (
    (key, reached),
    lives_not_dead P limit t x.0 x.1 x.2,
    x.0,
    x.1,
    x.2.0,
    x.4.0,
    inl x.4.1,
    too_heavy limit t c (λ fits. x.3 o c x.4 fits),
    λ p d k only. too_heavy limit t d (λ fits. x.3 p d (k, only) fits),
  )

  pub over_all_cut : (o : Open t) (c : ℕ) → StateOf P limit t (over_all o c) → OverLimit P limit (at_goal t o c)
  over_all_cut o c x = (
    (key, reached),
    λ dead. dead_below_shut t t (below_self t) dead x.2.0,
    x.0,
    x.1,
    x.2.2,
    x.4.0,
    inr (x.2.0, x.2.1),
    too_heavy limit t c (λ fits. x.3 c x.4.0 fits),
    λ p d k only. absurd (sole_not_shut P limit t x.0 x.1 x.2.2 p d (k, only) x.2.0),
  )

  pub fork_cut : (o : Open t) (cs : List ℕ) (c : ℕ) → StateOf P limit t (fork o cs (Some c)) → OverLimit P limit (at_goal t o c)
  fork_cut o cs c x = (
    (key, reached),
    λ dead. dead_below_shut t t (below_self t) dead x.2.0,
    x.0,
    x.1,
    x.2.2,
    x.6.0.0,
    inr (x.2.0, x.2.1),
    too_heavy limit t c x.6.0.1,
    λ p d k only. absurd (sole_not_shut P limit t x.0 x.1 x.2.2 p d (k, only) x.2.0),
  )

-- What a branch keeps makes it stand for the key by which its tree is reached.
pub kept_branches_stand : (P : NamedProgram) → IsLoaded P → (limit : ℕ) (key : List ℕ) (v : View) (tree : QueryTree P.program)
    → KeptIn P v tree → ReachedBy P.program limit key tree
    → v.limit ≡ limit → v.key ≡ key → StandsIn v key P limit
kept_branches_stand P loaded limit key v tree x reached of_limit of_key =
    kept_stands P loaded.own limit key v tree x (reached_decided P.program limit key tree reached) reached
    (reached_covers P.program limit key tree reached) of_limit of_key

-- A branch that is marked failed stands for it where its tree is dead, whatever is in its cells.
pub failed_branches_stand : (P : NamedProgram) (limit : ℕ) (key : List ℕ) (v : View) (tree : QueryTree P.program)
    → Makes P.program v.reductions tree → ReachedBy P.program limit key tree → Dead tree
    → weight tree ≡ v.used → v.limit ≡ limit → v.key ≡ key → v.is_failed ≡ true → StandsIn v key P limit
failed_branches_stand P limit key v tree made reached dead used of_limit of_key marked = record {
  reading = λ base n. number (pos 0);
  stands = record {
    tree = tree;
    made = made;
    decides = reached_decided P.program limit key tree reached;
    reached = reached;
    used = used;
    limit_kept = of_limit;
    key_kept = of_key;
    agrees = reached_covers P.program limit key tree reached;
    state = inl (marked, dead);
  };
  read = λ live. let a = marked in let b = live in absurd (let bad : true ≡ false = sym a ∙ b in cc);
}
