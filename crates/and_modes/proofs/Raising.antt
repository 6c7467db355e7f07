-- Levels of terms, by the variables that they have.
use Rattle.std.proofs.Common.{ℕ, ◌≡◌, List, [], ◌∷◌, ◌++◌, map, refl, sym, ap, ◌∙◌, Bool, true, false, ◌&&◌, ◌||◌, cond, leb}
use Rattle.std.specs.Prelude.{nat_eq}
use Rattle.and_model.specs.Terms.{Path, Term, Terms, variable, number, compound, none, more, variables_of, variables_in}
use Rattle.and_model.specs.Lines.{has}
use Rattle.and_modes.specs.Modes.{rank, higher, Environment, is_ground_in, are_ground_in, level_in, level_within, raised}
use Rattle.and_modes.specs.Known.{raised_at, all_raised_at, are_ground_at}
use Rattle.and_modes.specs.Walked.{unframed}
use Rattle.and_modes.specs.declared.level.Level.{Level}
use Rattle.and_modes.specs.declared.level.Level.TheVariants.{Any, Ground, Integer}

-- each of these variables is at least ground
ground_along : Environment → List (Path × ℕ) → Bool
ground_along e [] = true
ground_along e (v ∷ vs) = leb 1 (rank (e v.1)) && ground_along e vs

and_assoc : (a b c : Bool) → ((a && b) && c) ≡ (a && (b && c))
and_assoc true b c = refl
and_assoc false b c = refl

and_true : (a : Bool) → (a && true) ≡ a
and_true true = refl
and_true false = refl

ground_along-append : (e : Environment) (vs ws : List (Path × ℕ)) → ground_along e (vs ++ ws) ≡ (ground_along e vs && ground_along e ws)
unfolding ground_along
ground_along-append e [] ws = refl
ground_along-append e (v ∷ vs) ws = ap (λ (b : Bool). leb 1 (rank (e v.1)) && b) (ground_along-append e vs ws)
    ∙ sym (and_assoc (leb 1 (rank (e v.1))) (ground_along e vs) (ground_along e ws))

mutual
  unfolding ground_along

  ground_of_term : (e : Environment) (t : Term) → is_ground_in e t ≡ ground_along e (variables_of t)
  ground_of_term e (variable q k) = sym (and_true (leb 1 (rank (e k))))
  ground_of_term e (number z) = refl
  ground_of_term e (compound c ts) = ground_of_terms e ts

  ground_of_terms : (e : Environment) (ts : Terms) → are_ground_in e ts ≡ ground_along e (variables_in ts)
  ground_of_terms e none = refl
  ground_of_terms e (more t ts) =
      ap (λ (b : Bool). b && are_ground_in e ts) (ground_of_term e t)
      ∙ ap (λ (b : Bool). ground_along e (variables_of t) && b) (ground_of_terms e ts)
      ∙ sym (ground_along-append e (variables_of t) (variables_in ts))

ground_unframed : (e : Environment) (ks : List ℕ) → ground_along e (map unframed ks) ≡ are_ground_at e ks
unfolding ground_along
ground_unframed e [] = refl
ground_unframed e (k ∷ ks) = ap (λ (b : Bool). leb 1 (rank (e k)) && b) (ground_unframed e ks)

pub ground_by_variables : (e : Environment) (t : Term) (ks : List ℕ) → map unframed ks ≡ variables_of t → is_ground_in e t ≡ are_ground_at e ks
ground_by_variables e t ks is = ground_of_term e t ∙ ap (ground_along e) (sym is) ∙ ground_unframed e ks

pub level_is_ground : (e : Environment) (t : Term) → is_ground_in e t ≡ leb 1 (rank (level_in e t))
level_is_ground e (variable q k) = refl
level_is_ground e (number z) = refl
level_is_ground e (compound c ts) = elim (are_ground_in e ts) as (λ (b : Bool). b ≡ leb 1 (rank (cond b Ground Any))) [ true ↦ refl | false ↦ refl ]

higher_twice : (l k : Level) → higher (higher l k) k ≡ higher l k
higher_twice Any Any = refl
higher_twice Any Ground = refl
higher_twice Any Integer = refl
higher_twice Ground Any = refl
higher_twice Ground Ground = refl
higher_twice Ground Integer = refl
higher_twice Integer Any = refl
higher_twice Integer Ground = refl
higher_twice Integer Integer = refl

step : (b c : Bool) (x l : Level) → cond c (higher (cond b (higher x l) x) l) (cond b (higher x l) x) ≡ cond (b || c) (higher x l) x
step true true x l = higher_twice x l
step true false x l = refl
step false true x l = refl
step false false x l = refl

raised_along : (ks : List ℕ) (e : Environment) (l : Level) (j : ℕ) → all_raised_at e ks l j ≡ cond (has ([], j) (map unframed ks)) (higher (e j) l) (e j)
raised_along [] e l j = refl
raised_along (k ∷ ks) e l j = raised_along ks (raised_at e k l) l j ∙ step (nat_eq j k) (has ([], j) (map unframed ks)) (e j) l

-- a term is raised where each of its variables is
pub raised_by_variables : (e : Environment) (t : Term) (ks : List ℕ) (l k : Level) → map unframed ks ≡ variables_of t → k ≡ level_within t l
    → all_raised_at e ks k ≡ raised e t l
raised_by_variables e t ks l k is within = λ i j.
    (raised_along ks e k j
    ∙ ap (λ (vs : List (Path × ℕ)). cond (has ([], j) vs) (higher (e j) k) (e j)) is
    ∙ ap (λ (x : Level). cond (has ([], j) (variables_of t)) (higher (e j) x) (e j)) within) i

pub within_variable : (j : ℕ) (l : Level) → l ≡ level_within (variable [] j) l
within_variable j Any = refl
within_variable j Ground = refl
within_variable j Integer = refl
