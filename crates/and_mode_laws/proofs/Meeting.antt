-- What the environment of a clause says of the terms that its variables stand for.
use Rattle.std.proofs.Common.{ℕ, suc, ◌≡◌, ◌⊎◌, inl, inr, ⊎_elim, List, [], ◌∷◌, ◌++◌, refl, sym, ap, arith, subst}
use Rattle.std.proofs.Common.{Bool, true, false, cond, true≢false}
use Rattle.std.specs.Prelude.{leb, nat_eq}
use Rattle.std.proofs.lemmas.Bool.{cases_Bool, and_parts, and_from, or_cases, or_left, or_right, eqb-true, cond-true, cond-false}
use Rattle.and_model.specs.Terms.{Path, Term, Terms, variable, number, compound, none, more}
use Rattle.and_model.specs.Terms.{is_ground, are_ground, variables_of, variables_in, Substitution, apply, apply_all}
use Rattle.and_model.specs.Lines.{has, same_path, same_variable}
use Rattle.and_modes.specs.Modes.{rank, IsAtLeast, higher, Environment, is_ground_in, are_ground_in, level_in, level_within, raised}
use Rattle.and_modes.specs.Modes.{all_raised, HaveLevels}
use Rattle.and_modes.specs.declared.level.Level.{Level}
use Rattle.and_modes.specs.declared.level.Level.TheVariants.{Any, Ground, Integer}
use Rattle.and_mode_laws.specs.Levels.{HasLevel, AllHaveLevels}

-- the substitution that gives the terms f to a clause's variables, by their numbers
abbrev pub under : (ℕ → Term) → Substitution
under f = λ q k. f k

-- Each variable stands for a term of its level.
abbrev pub Meets : (ℕ → Term) → Environment → Type 0
Meets f e = (k : ℕ) → HasLevel (e k) (f k)

pub at_least_ground : (l : Level) (t : Term) → leb 1 (rank l) ≡ true → HasLevel l t → is_ground t ≡ true
at_least_ground Any t high h = absurd (true≢false (sym high))
at_least_ground Ground t high h = h
at_least_ground Integer t high h = ap is_ground h.1

pub has_lower : (high low : Level) (t : Term) → IsAtLeast high low → HasLevel high t → HasLevel low t
has_lower high Any t le h = tt
has_lower Any Ground t le h = absurd (omega arith)
has_lower Ground Ground t le h = h
has_lower Integer Ground t le h = ap is_ground h.1
has_lower Any Integer t le h = absurd (omega arith)
has_lower Ground Integer t le h = absurd (omega arith)
has_lower Integer Integer t le h = h

has_higher : (l k : Level) (t : Term) → HasLevel l t → HasLevel k t → HasLevel (higher l k) t
has_higher l k t one other =
    let P : Bool → Type 0 = λ b. HasLevel (cond b k l) t in
    elim (leb (rank l) (rank k)) as P [ true ↦ other | false ↦ one ]

mutual
  -- A term that is ground in the environment is ground.
  pub ground_met : (f : ℕ → Term) (e : Environment) → Meets f e → (t : Term) → is_ground_in e t ≡ true
      → is_ground (apply (under f) t) ≡ true
  ground_met f e meets (variable q k) high = at_least_ground (e k) (f k) high (meets k)
  ground_met f e meets (number z) high = refl
  ground_met f e meets (compound c ts) high = all_ground_met f e meets ts high

  pub all_ground_met : (f : ℕ → Term) (e : Environment) → Meets f e → (ts : Terms) → are_ground_in e ts ≡ true
      → are_ground (apply_all (under f) ts) ≡ true
  all_ground_met f e meets none high = refl
  all_ground_met f e meets (more t ts) high =
      let both = and_parts (is_ground_in e t) (are_ground_in e ts) high in
      and_from (is_ground (apply (under f) t)) (are_ground (apply_all (under f) ts)) (ground_met f e meets t both.0)
      (all_ground_met f e meets ts both.1)

-- A term has its level in the environment.
pub level_met : (f : ℕ → Term) (e : Environment) → Meets f e → (t : Term) → HasLevel (level_in e t) (apply (under f) t)
level_met f e meets (variable q k) = meets k
level_met f e meets (number z) = (z, refl)
level_met f e meets (compound c ts) =
    let P : Level → Type 0 = λ l. HasLevel l (compound c (apply_all (under f) ts)) in
    ⊎_elim
    (λ (ground : are_ground_in e ts ≡ true). subst P (sym (cond-true (are_ground_in e ts) Ground Any ground))
    (all_ground_met f e meets ts ground))
    (λ (other : are_ground_in e ts ≡ false). subst P (sym (cond-false (are_ground_in e ts) Ground Any other)) tt)
    (cases_Bool (are_ground_in e ts))

has_cases : (v : Path × ℕ) (xs ys : List (Path × ℕ)) → has v (xs ++ ys) ≡ true → (has v xs ≡ true) ⊎ (has v ys ≡ true)
has_cases v [] ys h = inr h
has_cases v (x ∷ xs) ys h =
    ⊎_elim
    (λ (here : same_variable v x ≡ true). inl (or_left (same_variable v x) (has v xs) here))
    (λ (rest : has v (xs ++ ys) ≡ true).
    ⊎_elim (λ (first : has v xs ≡ true). inl (or_right (same_variable v x) (has v xs) first)) (λ (second : has v ys ≡ true). inr second)
    (has_cases v xs ys rest))
    (or_cases (same_variable v x) (has v (xs ++ ys)) h)

only_variable : (q : Path) (j k : ℕ) → has ([], k) ((q, j) ∷ []) ≡ true → k ≡ j
only_variable q j k h =
    ⊎_elim
    (λ (here : same_variable ([], k) (q, j) ≡ true). eqb-true k j (and_parts (same_path [] q) (nat_eq k j) here).1)
    (λ (none : false ≡ true). absurd (true≢false (sym none)))
    (or_cases (same_variable ([], k) (q, j)) false h)

mutual
  -- what a variable of a ground term stands for is ground
  part_ground : (f : ℕ → Term) (t : Term) (k : ℕ) → has ([], k) (variables_of t) ≡ true → is_ground (apply (under f) t) ≡ true
      → is_ground (f k) ≡ true
  part_ground f (variable q j) k h ground = let same = only_variable q j k h in subst (λ (i : ℕ). is_ground (f i) ≡ true) (sym same) ground
  part_ground f (number z) k h ground = absurd (true≢false (sym h))
  part_ground f (compound c ts) k h ground = part_of_ground f ts k h ground

  part_of_ground : (f : ℕ → Term) (ts : Terms) (k : ℕ) → has ([], k) (variables_in ts) ≡ true → are_ground (apply_all (under f) ts) ≡ true
      → is_ground (f k) ≡ true
  part_of_ground f none k h ground = absurd (true≢false (sym h))
  part_of_ground f (more t ts) k h ground =
      let both = and_parts (is_ground (apply (under f) t)) (are_ground (apply_all (under f) ts)) ground in
      ⊎_elim
      (λ (first : has ([], k) (variables_of t) ≡ true). part_ground f t k first both.0)
      (λ (rest : has ([], k) (variables_in ts) ≡ true). part_of_ground f ts k rest both.1)
      (has_cases ([], k) (variables_of t) (variables_in ts) h)

-- A variable of a term has what is left of the term's level within it.
within_met : (f : ℕ → Term) (t : Term) (l : Level) (k : ℕ) → has ([], k) (variables_of t) ≡ true → HasLevel l (apply (under f) t)
    → HasLevel (level_within t l) (f k)
within_met f t Any k h has_level = tt
within_met f t Ground k h has_level = part_ground f t k h has_level
within_met f (variable q j) Integer k h has_level =
    let same = only_variable q j k h in subst (λ (i : ℕ). HasLevel Integer (f i)) (sym same) has_level
within_met f (number z) Integer k h has_level = absurd (true≢false (sym h))
within_met f (compound c ts) Integer k h has_level = let never = has_level.1 in absurd (cc)

-- After a term was raised to a level that it has, the environment is still met.
pub raised_met : (f : ℕ → Term) (e : Environment) → Meets f e → (t : Term) (l : Level) → HasLevel l (apply (under f) t)
    → Meets f (raised e t l)
raised_met f e meets t l level k =
    let P : Level → Type 0 = λ j. HasLevel j (f k) in
    let b : Bool = has ([], k) (variables_of t) in
    ⊎_elim
    (λ (inside : has ([], k) (variables_of t) ≡ true).
    subst P (sym (cond-true b (higher (e k) (level_within t l)) (e k) inside))
    (has_higher (e k) (level_within t l) (f k) (meets k) (within_met f t l k inside level)))
    (λ (outside : has ([], k) (variables_of t) ≡ false). subst P (sym (cond-false b (higher (e k) (level_within t l)) (e k) outside))
    (meets k))
    (cases_Bool (has ([], k) (variables_of t)))

pub all_raised_met : (f : ℕ → Term) (e : Environment) → Meets f e → (levels : ℕ → Level) (i : ℕ) (ts : Terms)
    → AllHaveLevels levels i (apply_all (under f) ts) → Meets f (all_raised e levels i ts)
all_raised_met f e meets levels i none have = meets
all_raised_met f e meets levels i (more t ts) have =
    all_raised_met f (raised e t (levels i)) (raised_met f e meets t (levels i) have.0) levels (suc i) ts have.1

-- What has at least its levels in the environment has them.
pub levels_met : (f : ℕ → Term) (e : Environment) → Meets f e → (levels : ℕ → Level) (i : ℕ) (ts : Terms)
    → HaveLevels e levels i ts → AllHaveLevels levels i (apply_all (under f) ts)
levels_met f e meets levels i none have = tt
levels_met f e meets levels i (more t ts) have =
    (has_lower (level_in e t) (levels i) (apply (under f) t) have.0 (level_met f e meets t), levels_met f e meets levels (suc i) ts have.1)
