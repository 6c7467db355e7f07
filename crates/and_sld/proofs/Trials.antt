-- Computations of the small programs.
use Rattle.std.proofs.Common.{ℕ, zero, suc, ◌≡◌, List, [], ◌∷◌, refl, inl, inr, arith, pos}
use Rattle.and_model.specs.Terms.{Path, Term, variable, number, Substitution, apply}
use Rattle.and_model.specs.Programs.{Program, call, is}
use Rattle.and_laws.proofs.Substitutions.{same}
use Rattle.and_sld.specs.Resolution.{Derives, ended, resolved, equated, passes, settled, assigned, leftmost, Computes, IsRefuted}
use Rattle.and_sld.specs.Resolution.{moved, In, query_goal, query_values}
use Rattle.and_sld.specs.Trials.{p, p_of, f_of, renames, calls_variable, late, waits, nil, cell, app, append}

-- a derivation with nothing passed over
alone : (P : Program) (cs : List ℕ) (answer : List Term) → Derives P ([] ∷ []) [] (query_goal P) (query_values P (moved [])) cs [] answer
    → IsRefuted P cs answer
alone P cs answer d = record { left = []; found = answer; derived = d; reckoned = settled [] answer tt }

-- The query's first variable is given this term,
abbrev first_is : Term → Substitution
first_is t [] zero = t
first_is t [] (suc k) = variable [] (suc k)
first_is t (a ∷ q) k = variable (a ∷ q) k

first_under : (t : Term) (s : Substitution) → s [] 0 ≡ apply s t → (q : Path) (k : ℕ) → s q k ≡ apply s (first_is t q k)
first_under t s e [] zero = e
first_under t s e [] (suc k) = refl
first_under t s e (a ∷ q) k = refl

-- and its second.
abbrev second_is : Term → Substitution
second_is t [] zero = variable [] 0
second_is t [] (suc zero) = t
second_is t [] (suc (suc k)) = variable [] (suc (suc k))
second_is t (a ∷ q) k = variable (a ∷ q) k

second_under : (t : Term) (s : Substitution) → s [] 1 ≡ apply s t → (q : Path) (k : ℕ) → s q k ≡ apply s (second_is t q k)
second_under t s e [] zero = refl
second_under t s e [] (suc zero) = e
second_under t s e [] (suc (suc k)) = refl
second_under t s e (a ∷ q) k = refl

is_new : In (0 ∷ []) ([] ∷ []) → ⊥
is_new i = elim i [ inl e ↦ absurd (cc) | inr n ↦ n ]

pub renamed : IsRefuted renames (1 ∷ []) (f_of (variable (0 ∷ []) 0) ∷ [])
renamed =
    let new : Path = 0 ∷ [] in
    let term : Term = f_of (variable new 0) in
    alone renames (1 ∷ []) (term ∷ []) (
    resolved ([] ∷ []) [] (p_of (variable [] 0)) [] (variable [] 0 ∷ []) 1 [] new (first_is term) [] (term ∷ []) (omega arith) (omega arith)
    (is_new, tt, ((λ e. cc, tt), tt), (λ e. cc, tt))
    (refl, λ t e. (t, first_under term t (cc)))
    (ended (new ∷ [] ∷ []) [] (term ∷ []))
    )

pub called : IsRefuted calls_variable (1 ∷ []) (p ∷ [])
called =
    let new : Path = 0 ∷ [] in
    alone calls_variable (1 ∷ []) (p ∷ []) (
    equated ([] ∷ []) [] (variable [] 0) p (call (variable [] 0) ∷ []) (variable [] 0 ∷ []) (1 ∷ []) (first_is p) [] (p ∷ [])
    (refl, λ t e. (t, first_under p t e))
    (
    resolved ([] ∷ []) [] p [] (p ∷ []) 1 [] new same [] (p ∷ []) (omega arith) (omega arith)
    (is_new, tt, (tt, tt), (tt, tt)) (refl, λ t e. (t, λ q k. refl))
    (ended (new ∷ [] ∷ []) [] (p ∷ []))
    )
    )

pub comes_late : IsRefuted late [] (number (pos 2) ∷ number (pos 2) ∷ [])
comes_late =
    let two : Term = number (pos 2) in
    let x : Term = variable [] 0 in
    let y : Term = variable [] 1 in
    record {
      left = is x two ∷ [];
      found = x ∷ two ∷ [];
      derived =
          passes ([] ∷ []) [] (is x y) _ (x ∷ y ∷ []) [] (is x two ∷ []) (x ∷ two ∷ [])
          (
          equated ([] ∷ []) (is x y ∷ []) y two [] (x ∷ y ∷ []) [] (second_is two) (is x two ∷ []) (x ∷ two ∷ []) (refl, λ t e. (t, second_under two t e))
          (ended ([] ∷ []) (is x two ∷ []) (x ∷ two ∷ []))
          );
      reckoned =
          assigned (is x two ∷ []) (x ∷ two ∷ []) x two [] (pos 2) (first_is two) [] (two ∷ two ∷ []) (leftmost (is x two) [] refl) refl
          (refl, λ t e. (t, first_under two t e))
          (settled [] (two ∷ two ∷ []) tt);
    }

pub flounders : Computes waits [] (variable [] 0 ∷ variable [] 1 ∷ []) (is (variable [] 0) (variable [] 1) ∷ [])
flounders =
    let x : Term = variable [] 0 in
    let y : Term = variable [] 1 in
    record {
      left = is x y ∷ [];
      found = x ∷ y ∷ [];
      derived = passes ([] ∷ []) [] (is x y) [] (x ∷ y ∷ []) [] (is x y ∷ []) (x ∷ y ∷ []) (ended ([] ∷ []) (is x y ∷ []) (x ∷ y ∷ []));
      reckoned = settled (is x y ∷ []) (x ∷ y ∷ []) (refl, tt);
    }

-- The unifier of `app(X, Y, [1])` with the head of the second clause, in the frame [0],
abbrev takes_first : Substitution
takes_first [] zero = cell (number (pos 1)) (variable (0 ∷ []) 1)
takes_first [] (suc k) = variable [] (suc k)
takes_first (zero ∷ []) zero = number (pos 1)
takes_first (zero ∷ []) (suc zero) = variable (0 ∷ []) 1
takes_first (zero ∷ []) (suc (suc zero)) = variable [] 1
takes_first (zero ∷ []) (suc (suc (suc zero))) = nil
takes_first (zero ∷ []) (suc (suc (suc (suc k)))) = variable (0 ∷ []) (suc (suc (suc (suc k))))
takes_first (zero ∷ b ∷ q) k = variable (zero ∷ b ∷ q) k
takes_first (suc a ∷ q) k = variable (suc a ∷ q) k

first_through : (t : Substitution) → t [] 0 ≡ cell (t (0 ∷ []) 0) (t (0 ∷ []) 1) → t [] 1 ≡ t (0 ∷ []) 2
    → cell (number (pos 1)) nil ≡ cell (t (0 ∷ []) 0) (t (0 ∷ []) 3) → (q : Path) (k : ℕ) → t q k ≡ apply t (takes_first q k)
first_through t x y z [] zero = cc
first_through t x y z [] (suc k) = refl
first_through t x y z (zero ∷ []) zero = cc
first_through t x y z (zero ∷ []) (suc zero) = refl
first_through t x y z (zero ∷ []) (suc (suc zero)) = cc
first_through t x y z (zero ∷ []) (suc (suc (suc zero))) = cc
first_through t x y z (zero ∷ []) (suc (suc (suc (suc k)))) = refl
first_through t x y z (zero ∷ b ∷ q) k = refl
first_through t x y z (suc a ∷ q) k = refl

-- and that of `app(T, Y, [])` with the head of the first, in the frame [1].
abbrev takes_rest : Substitution
takes_rest [] zero = variable [] 0
takes_rest [] (suc zero) = nil
takes_rest [] (suc (suc k)) = variable [] (suc (suc k))
takes_rest (zero ∷ []) zero = variable (0 ∷ []) 0
takes_rest (zero ∷ []) (suc zero) = nil
takes_rest (zero ∷ []) (suc (suc k)) = variable (0 ∷ []) (suc (suc k))
takes_rest (zero ∷ b ∷ q) k = variable (zero ∷ b ∷ q) k
takes_rest (suc zero ∷ []) zero = nil
takes_rest (suc zero ∷ []) (suc k) = variable (1 ∷ []) (suc k)
takes_rest (suc zero ∷ b ∷ q) k = variable (suc zero ∷ b ∷ q) k
takes_rest (suc (suc a) ∷ q) k = variable (suc (suc a) ∷ q) k

rest_through : (t : Substitution) → t (0 ∷ []) 1 ≡ nil → t [] 1 ≡ t (1 ∷ []) 0 → nil ≡ t (1 ∷ []) 0
    → (q : Path) (k : ℕ) → t q k ≡ apply t (takes_rest q k)
rest_through t x y z [] zero = refl
rest_through t x y z [] (suc zero) = cc
rest_through t x y z [] (suc (suc k)) = refl
rest_through t x y z (zero ∷ []) zero = refl
rest_through t x y z (zero ∷ []) (suc zero) = cc
rest_through t x y z (zero ∷ []) (suc (suc k)) = refl
rest_through t x y z (zero ∷ b ∷ q) k = refl
rest_through t x y z (suc zero ∷ []) zero = cc
rest_through t x y z (suc zero ∷ []) (suc k) = refl
rest_through t x y z (suc zero ∷ b ∷ q) k = refl
rest_through t x y z (suc (suc a) ∷ q) k = refl

second_is_new : In (1 ∷ []) ((0 ∷ []) ∷ [] ∷ []) → ⊥
second_is_new i = elim i [ inl e ↦ absurd (cc) | inr j ↦ elim j [ inl e ↦ absurd (cc) | inr n ↦ n ] ]

pub appended : IsRefuted append (2 ∷ 1 ∷ []) (cell (number (pos 1)) nil ∷ nil ∷ [])
appended =
    let one : Path = 0 ∷ [] in
    let two : Path = 1 ∷ [] in
    let x : Term = variable [] 0 in
    let y : Term = variable [] 1 in
    let list : Term = cell (number (pos 1)) nil in
    let rest : Term = variable one 1 in
    let middle : List Term = cell (number (pos 1)) rest ∷ y ∷ [] in
    alone append (2 ∷ 1 ∷ []) (list ∷ nil ∷ []) (
    resolved ([] ∷ []) [] (app x y list) [] (x ∷ y ∷ []) 2 (1 ∷ []) one takes_first [] (list ∷ nil ∷ []) (omega arith) (omega arith)
    (is_new, tt, ((λ e. cc, (λ e. cc, ((tt, (tt, tt)), tt))), tt), (λ e. cc, (λ e. cc, tt)))
    (refl, λ t e. (t, first_through t (cc) (cc) (cc)))
    (
    resolved (one ∷ [] ∷ []) [] (app rest y nil) [] middle 1 [] two takes_rest [] (list ∷ nil ∷ []) (omega arith) (omega arith)
    (second_is_new, tt, ((λ e. cc, (λ e. cc, (tt, tt))), tt), ((tt, (λ e. cc, tt)), (λ e. cc, tt)))
    (refl, λ t e. (t, rest_through t (cc) (cc) (cc)))
    (ended (two ∷ one ∷ [] ∷ []) [] (list ∷ nil ∷ []))
    )
    )
