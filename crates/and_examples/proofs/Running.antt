-- Example overflow: a goal that has no value, and two that have.
use Rattle.std.proofs.Common.{ℕ, zero, suc, ◌≡◌, List, [], ◌∷◌, refl, arith, codes, negsuc}
use Rattle.std.specs.Fmt.{digits}
use Rattle.and_model.specs.Terms.{Path, Terms, variable, number, compound, none, more, Substitution, apply}
use Rattle.and_model.specs.Solutions.{Equation, Solves, MostGeneral, falsehood}
use Rattle.and_model.specs.Arithmetic.{of_two}
use Rattle.and_model.specs.Programs.{clause_weight}
use Rattle.and_model.specs.Closure.{Closes, First, Known}
use Rattle.and_model.specs.Trees.{QueryTree, done, reckon, HasOutcome}
use Rattle.and_model.specs.Listing.{Ends, Outcome, answer, Listing, nothing, of_query}
use Rattle.and_model.specs.declared.builtins.TheConstants.{DIVIDE, MODULO, PLUS}
use Rattle.and_model.specs.declared.limits.TheConstants.{DEFAULT_LIMIT}
use Rattle.and_laws.proofs.Listings.{closed_alike}
use Rattle.and_examples.specs.Ending.{CodeEnds}
use Rattle.and_examples.specs.Texts.{own, whole, x_is_too_much, too_much, x_is_quotient, y_is_modulus, quotients}
use Rattle.and_examples.proofs.Waiting.{never, nothing_given}

-- ?- X is 9223372036854775807 + 1. The sum does not fit, and has no value.
abbrev too_much_terms : Terms
too_much_terms = more (compound PLUS (more (whole 9223372036854775807) (more (whole 1) none))) none

too_much_known : Known [] x_is_too_much too_much_terms
too_much_known = (refl, λ s h. refl)

pub too_much_closes : Closes [] (x_is_too_much ∷ []) (falsehood ∷ []) []
unfolding of_two
too_much_closes =
    Closes.run [] (x_is_too_much ∷ []) x_is_too_much [] too_much_terms (falsehood ∷ []) [] (nothing_given, tt) (First.first x_is_too_much []) too_much_known
    (Closes.waiting (falsehood ∷ []) [] tt)

abbrev too_much_tree : QueryTree too_much
too_much_tree = reckon done

too_much_fails : HasOutcome too_much_tree → ⊥
too_much_fails out = let alike = closed_alike too_much_tree out.0 (falsehood ∷ []) out.1 [] out.3 too_much_closes in never out.4.0 (alike.0 out.4.0 out.4.1)

too_much_ends : (t : QueryTree too_much) (o : Outcome) → Ends t o → ⊥
too_much_ends (reckon done) o e = too_much_fails (e.1, e.2, tt, e.3, (e.4, e.5.0))

pub too_much_no_end : (o : Outcome) → CodeEnds too_much [] o → ⊥
too_much_no_end o e = too_much_ends e.0 o e.2

pub too_much_listing : Listing too_much DEFAULT_LIMIT []
unfolding clause_weight
too_much_listing = of_query [] (omega arith) (nothing too_much_tree tt too_much_fails)

-- ?- X is -7 // 2, Y is -7 mod 2. The quotient is -3.5, truncated; and -7 is -4 times 2, and 1.
abbrev quotient_terms : Terms
quotient_terms = more (compound DIVIDE (more (number (negsuc 6)) (more (whole 2) none))) none

abbrev modulus_terms : Terms
modulus_terms = more (compound MODULO (more (number (negsuc 6)) (more (whole 2) none))) none

abbrev x_added : List Equation
x_added = (own 0, number (negsuc 2)) ∷ []

abbrev both_added : List Equation
both_added = (own 1, whole 1) ∷ (own 0, number (negsuc 2)) ∷ []

abbrev both_given : Substitution
both_given [] zero = number (negsuc 2)
both_given [] (suc zero) = whole 1
both_given [] (suc (suc k)) = variable [] (suc (suc k))
both_given (i ∷ r) k = variable (i ∷ r) k

quotients_general : MostGeneral both_given both_added
quotients_general = ((refl, (refl, tt)), through)
  where
    through : (t : Substitution) → Solves t both_added → (r : Path) (k : ℕ) → t r k ≡ apply t (both_given r k)
    through t h [] zero = h.1.0
    through t h [] (suc zero) = h.0
    through t h [] (suc (suc k)) = refl
    through t h (i ∷ r) k = refl

quotients_close : Closes [] (x_is_quotient ∷ y_is_modulus ∷ []) both_added []
unfolding of_two
quotients_close =
    Closes.run [] (x_is_quotient ∷ y_is_modulus ∷ []) x_is_quotient (y_is_modulus ∷ []) quotient_terms both_added [] (
      nothing_given,
      tt,
    ) (First.first x_is_quotient (y_is_modulus ∷ [])) (refl, λ s h. refl)
    (Closes.run x_added (y_is_modulus ∷ []) y_is_modulus [] modulus_terms both_added [] (
      both_given,
      (refl, tt),
    ) (First.first y_is_modulus []) (refl, λ s h. refl)
    (Closes.waiting both_added [] tt))

abbrev quotients_tree : QueryTree quotients
quotients_tree = reckon (reckon done)

quotients_end : Ends quotients_tree (answer (codes "X = -3, Y = 1"))
unfolding digits
quotients_end = (tt, both_added, [], quotients_close, both_given, quotients_general, refl)

pub quotients_ends : CodeEnds quotients [] (answer (codes "X = -3, Y = 1"))
quotients_ends = (quotients_tree, refl, quotients_end)
