-- Clauses of a call's predicate, whatever becomes of the call's variables.
use Rattle.std.proofs.Common.{ℕ, ◌≡◌, Bool, true, true≢false, ◌&&◌, leb, ltb, nat_eq, length, refl, ap, sym, ◌∙◌}
use Rattle.and_model.specs.Terms.{Term, Terms, variable, number, compound, none, more, Substitution, apply, apply_all}
use Rattle.and_model.specs.Programs.{Program, Of, clause_at, same_count, same_predicate}
use Rattle.and_laws.proofs.Substitutions.{and_left, and_right}

count_applied : (s : Substitution) (ts us : Terms) → same_count (apply_all s ts) us ≡ same_count ts us
count_applied s none none = refl
count_applied s none (more u us) = refl
count_applied s (more t ts) none = refl
count_applied s (more t ts) (more u us) = count_applied s ts us

predicate_applied : (s : Substitution) (g h : Term) → same_predicate g h ≡ true → same_predicate (apply s g) h ≡ true
predicate_applied s (variable q k) h e = absurd (true≢false (sym e))
predicate_applied s (number z) h e = absurd (true≢false (sym e))
predicate_applied s (compound c ts) (variable q k) e = e
predicate_applied s (compound c ts) (number z) e = e
predicate_applied s (compound c ts) (compound d us) e = ap (λ (x : Bool). nat_eq c d && x) (count_applied s ts us) ∙ e

pub of_applied : (P : Program) (s : Substitution) (g : Term) (c : ℕ) → Of P g c → Of P (apply s g) c
of_applied P s g c e =
    let there : Bool = ltb 0 c && leb c (length P.clauses) in
    let one : there ≡ true = and_left there (same_predicate g (clause_at P c).head) e in
    let two : same_predicate (apply s g) (clause_at P c).head ≡ true =
    predicate_applied s g (clause_at P c).head (and_right there (same_predicate g (clause_at P c).head) e) in
    rw (one, two) refl
