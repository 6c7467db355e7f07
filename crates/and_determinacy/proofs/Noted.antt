-- What is noted of the variables of a head, in what makes it and a call one.
use Rattle.std.proofs.Common.{ℕ, ◌≡◌, List, [], ◌∷◌, ◌++◌, length, get_or}
use Rattle.std.proofs.Common.{sym, subst, inl, inr, arith}
use Rattle.std.proofs.lemmas.Bool.{cases_lt}
use Rattle.std.proofs.lemmas.List.{length-append, get_or_append_left}
use Rattle.std.proofs.Math.Seq.{get_or-append_seam}
use Rattle.and_model.specs.Terms.{Substitution}
use Rattle.and_model.specs.declared.reference.Ref.{Ref}
use Rattle.and_model.specs.declared.reference.Ref.TheVariants.{Free}
use Rattle.and_cells.specs.Ranges.{NamedProgram}
use Rattle.and_determinacy.specs.Seeing.{MayBeNoted, AreNoted}

-- What the next variable is may be noted.
pub pushed_noted : (P : NamedProgram) (given : List Ref) (r : Ref) (s : Substitution) → MayBeNoted P s (length given) r → AreNoted P given s
    → AreNoted P (given ++ r ∷ []) s
pushed_noted P given r s may noted k low = elim (cases_lt k (length given)) [
  | inl before ↦ subst (MayBeNoted P s k) (sym (get_or_append_left given (r ∷ []) Free k before)) (noted k before)
  | inr past ↦
      let last : k ≡ length given = omega (arith, low, past, length-append given (r ∷ [])) in
      subst (λ (j : ℕ). MayBeNoted P s j (get_or (given ++ r ∷ []) j Free)) (sym last)
      (subst (MayBeNoted P s (length given)) (sym (get_or-append_seam given r [] Free)) may)
]
