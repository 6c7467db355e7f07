-- What operations give for values that may be none.
use Rattle.std.proofs.Common.{ℕ, ℤ, ◌≡◌, ◌≢◌, ◌≤◌, ◌-◌, List, [], ◌∷◌, ◌++◌, length, reverse, drop, take, Option, Some, None, nat_eq, false, refl, ap, sym}
use Rattle.std.proofs.Common.{◌∙◌, arith}
use Rattle.std.proofs.lemmas.Bool.Decides.{nat_tests}
use Rattle.std.proofs.lemmas.List.{reverse-append, reverse-reverse, length-reverse, length-drop, take-append-drop}
use Rattle.and_model.specs.Arithmetic.{of_two, operated}
use Rattle.and_model.specs.declared.builtins.TheConstants.{PLUS, MINUS, TIMES, DIVIDE, MODULO, REMAINDER, LEAST, GREATEST}
use Rattle.and_arith.specs.Operators.{name_of}
use Rattle.and_arith.specs.declared.operations.Operator.{Operator}
use Rattle.and_arith.specs.declared.operations.Operator.TheVariants.{Add, Subtract, Times, Divide, Modulo, Remainder, Least, Greatest}

pub differs : (c k : ℕ) → (c ≡ k → ⊥) → nat_eq c k ≡ false
differs c k apart = grind (arith, nat_tests, apart)

-- a name that is no operation gives nothing
none_of_two : (c : ℕ) (a b : ℤ) → ((o : Operator) → c ≡ name_of o → ⊥) → of_two c a b ≡ None
unfolding of_two
none_of_two c a b none =
    rw (differs c PLUS (none Add))
    (rw (differs c MINUS (none Subtract))
    (rw (differs c TIMES (none Times))
    (rw (differs c DIVIDE (none Divide))
    (rw (differs c MODULO (none Modulo))
    (rw (differs c REMAINDER (none Remainder))
    (rw (differs c LEAST (none Least))
    (rw (differs c GREATEST (none Greatest))
    refl)))))))

pub none_of_values : (c : ℕ) (v w : Option ℤ) → ((o : Operator) → c ≡ name_of o → ⊥) → operated c (v ∷ w ∷ []) ≡ None
none_of_values c None w none = refl
none_of_values c (Some a) None none = refl
none_of_values c (Some a) (Some b) none = none_of_two c a b none

-- and no operation is of other numbers of values
pub none_of_others : (c : ℕ) (vs : List (Option ℤ)) → length vs ≢ 1 → length vs ≢ 2 → operated c vs ≡ None
none_of_others c [] not_one not_two = refl
none_of_others c (v ∷ []) not_one not_two = absurd (not_one refl)
none_of_others c (v ∷ w ∷ []) not_one not_two = absurd (not_two refl)
none_of_others c (None ∷ w ∷ u ∷ vs) not_one not_two = refl
none_of_others c (Some a ∷ None ∷ u ∷ vs) not_one not_two = refl
none_of_others c (Some a ∷ Some b ∷ u ∷ vs) not_one not_two = refl

-- The last values of a list, the last one first.
pub record Ends (count : ℕ) (old new : List (Option ℤ)) (c : ℕ) : Type 0 where
  pub last : List (Option ℤ)
  pub counted : length last ≡ count
  pub is : reverse old ≡ last ++ reverse new
  pub none : None ≡ operated c (reverse last)

pub truncated : (old new : List (Option ℤ)) (n count c : ℕ) → new ≡ take n old → n ≡ length old - count → count ≤ length old → count ≢ 1 → count ≢ 2
    → Ends count old new c
truncated old new n count c is at within not_one not_two =
    let l : length (drop n old) ≡ count = length-drop n old ∙ omega (arith) in
    record {
      last = reverse (drop n old);
      counted = length-reverse (drop n old) ∙ l;
      is = ap reverse (sym (take-append-drop n old)) ∙ reverse-append (take n old) (drop n old) ∙ ap (λ xs. reverse (drop n old) ++ reverse xs) (sym is);
      none = sym (ap (operated c) (reverse-reverse (drop n old)) ∙ none_of_others c (drop n old) (λ e. not_one (sym l ∙ e)) (λ e. not_two (sym l ∙ e)));
    }
