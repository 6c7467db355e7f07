-- A clause in a frame is a variant of the clause, where that names its own variables alone.
use Rattle.std.proofs.Common.{ℕ, ◌≡◌, List, [], ◌∷◌, map, refl, ap, sym, ◌∙◌}
use Rattle.std.specs.Prelude.{All}
use Rattle.std.proofs.lemmas.List.Elements.{All-head, All-tail}
use Rattle.and_model.specs.Terms.{Path, Term, Terms, variable, number, compound, none, more, variables_in, apply, apply_all}
use Rattle.and_model.specs.Programs.{Program, clause_at}
use Rattle.and_model.specs.OwnVariables.{IsOwn, AreOwn, HasOwnVariables, terms_of_clause}
use Rattle.and_model.specs.Stands.{AreVariants}
use Rattle.and_model.proofs.OwnVariables.{first_own, others_own}
use Rattle.and_sld.specs.Resolution.{moved}

mutual
  back : (n : ℕ) (q : Path) (t : Term) → AreOwn n t → apply (moved []) (apply (moved q) t) ≡ t
  back n q (variable p k) own = ap (λ r. variable r k) (sym (All-head (IsOwn n) (p, k) [] own).0)
  back n q (number z) own = refl
  back n q (compound c ts) own = ap (compound c) (all_back n q ts own)

  all_back : (n : ℕ) (q : Path) (ts : Terms) → All (IsOwn n) (variables_in ts) → apply_all (moved []) (apply_all (moved q) ts) ≡ ts
  all_back n q none own = refl
  all_back n q (more t ts) own =
      ap (λ x. more x (apply_all (moved []) (apply_all (moved q) ts))) (back n q t (first_own n t ts own))
      ∙ ap (more t) (all_back n q ts (others_own n t ts own))

list_back : (n : ℕ) (q : Path) (ts : List Term) → All (AreOwn n) ts → map (apply (moved [])) (map (apply (moved q)) ts) ≡ ts
list_back n q [] own = refl
list_back n q (t ∷ ts) own =
    ap (λ x. x ∷ map (apply (moved [])) (map (apply (moved q)) ts)) (back n q t (All-head (AreOwn n) t ts own))
    ∙ ap (λ xs. t ∷ xs) (list_back n q ts (All-tail (AreOwn n) t ts own))

pub in_frame : (P : Program) (c : ℕ) (q : Path) → HasOwnVariables (clause_at P c)
    → AreVariants (terms_of_clause (clause_at P c)) (map (apply (moved q)) (terms_of_clause (clause_at P c)))
in_frame P c q own = ((moved q, refl), (moved [], list_back (clause_at P c).variables q (terms_of_clause (clause_at P c)) own))
