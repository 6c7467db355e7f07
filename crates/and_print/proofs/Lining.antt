-- A line is written of what is given for it.
use Rattle.std.proofs.Common.{ℕ, ◌≡◌, List, [], ◌∷◌, ◌++◌, length, map, refl, sym, ap, ◌∙◌, subst, append_assoc}
use Rattle.std.specs.Prelude.{All}
use Rattle.std.proofs.lemmas.List.Elements.{All-head, All-tail}
use Rattle.and_model.specs.Terms.{Path, Term, Terms, Substitution, variable, number, compound, none, more, variables_of, apply, apply_all}
use Rattle.and_model.specs.Programs.{Program, Arithmetic}
use Rattle.and_model.specs.Lines.{Bytes, first_seen, shown_variables, shown_value, variables_along, values_or_true, with_waiting, goal_term, line}
use Rattle.and_model.specs.Stands.{Framed, term_of, in_tree}
use Rattle.and_model.specs.declared.goal.Goal.{Goal}
use Rattle.and_model.specs.declared.reference.Ref.{Ref}
use Rattle.and_cells.specs.Ranges.{NamedProgram, IsGoalInRange}
use Rattle.and_print.specs.Given.{Given, GivesGoal}
use Rattle.and_print.specs.Goals.{GoalMeans, GoalsMean}
use Rattle.and_print.specs.Writing.{Variable, Writes}
use Rattle.and_print.proofs.Owing.{seen_in_turn}

-- a term in a frame under a substitution
mutual
  apply_framed : (s : Substitution) (q : Path) (t : Term) → apply s (apply (λ r k. variable q k) t) ≡ apply (λ r k. s q k) t
  apply_framed s q (variable p k) = refl
  apply_framed s q (number z) = refl
  apply_framed s q (compound c ts) = ap (compound c) (apply_all_framed s q ts)

  apply_all_framed : (s : Substitution) (q : Path) (ts : Terms) → apply_all s (apply_all (λ r k. variable q k) ts) ≡ apply_all (λ r k. s q k) ts
  apply_all_framed s q none = refl
  apply_all_framed s q (more t ts) = ap (λ (u : Term). more u (apply_all s (apply_all (λ r k. variable q k) ts))) (apply_framed s q t)
      ∙ ap (more (apply (λ r k. s q k) t)) (apply_all_framed s q ts)

-- the terms of goals that wait
abbrev pub terms_waiting : Substitution → List Arithmetic → List Term
terms_waiting s waits = map (λ a. apply s (goal_term a)) waits

first_of_both : (t u : Term) (ts us : List Term) → t ∷ ts ≡ u ∷ us → t ≡ u
first_of_both t u ts us e = cc

others_of_both : (t u : Term) (ts us : List Term) → t ∷ ts ≡ u ∷ us → ts ≡ us
others_of_both t u ts us e = cc

module _ (P : NamedProgram) (row : List Ref) (s : Substitution) where
  given_goal : (f : Framed) (a : Arithmetic) → IsGoalInRange P (length row) f.goal → in_tree P.program f ≡ goal_term a → GivesGoal P row s f
      → GoalMeans P row f.goal (apply s (goal_term a))
  given_goal f a fits e gives = record {
    in_range = fits;
    values = λ q k. s f.frame k;
    cells = gives;
    term = ap (apply s) (sym e) ∙ apply_framed s f.frame (term_of P.program f.goal);
  }

  given_goals : (fs : List Framed) (waits : List Arithmetic) → All (IsGoalInRange P (length row)) (map (λ (f : Framed). f.goal) fs)
      → map (in_tree P.program) fs ≡ map goal_term waits
      → All (GivesGoal P row s) fs → GoalsMean P row (map (λ (f : Framed). f.goal) fs) (terms_waiting s waits)
  given_goals [] [] fits e gives = tt
  given_goals [] (a ∷ waits) fits e gives = absurd (cc)
  given_goals (f ∷ fs) [] fits e gives = absurd (cc)
  given_goals (f ∷ fs) (a ∷ waits) fits e gives =
      let goals : List Goal = map (λ (g : Framed). g.goal) fs in (
        given_goal f a (All-head (IsGoalInRange P (length row)) f.goal goals fits) (first_of_both _ _ _ _ e) (All-head (GivesGoal P row s) f fs gives),
        given_goals fs waits (All-tail (IsGoalInRange P (length row)) f.goal goals fits) (others_of_both _ _ _ _ e) (All-tail (GivesGoal P row s) f fs gives),
      )

-- the goals that are given
pub waiting_mean : (P : NamedProgram) (row : List Ref) (waiting : List Goal) (g : Given P row waiting) → All (IsGoalInRange P (length row)) waiting
    → GoalsMean P row waiting (terms_waiting g.terms g.waits)
waiting_mean P row waiting g fits =
    subst (λ (gs : List Goal). GoalsMean P row gs (terms_waiting g.terms g.waits)) g.goals_are
    (given_goals P row g.terms g.framed g.waits (subst (All (IsGoalInRange P (length row))) (sym g.goals_are) fits) g.waits_are g.goals)

along_both : (ts us : List Term) → variables_along (ts ++ us) ≡ variables_along ts ++ variables_along us
along_both [] us = refl
along_both (t ∷ ts) us = ap (λ (vs : List Variable). variables_of t ++ vs) (along_both ts us)
    ∙ sym (append_assoc (variables_of t) (variables_along ts) (variables_along us))

-- the values and then the goals
pub line_written : (P : Program) (s : Substitution) (waits : List Arithmetic) (first middle now : List Variable) (old between new : Bytes)
    → first ≡ [] → old ≡ []
    → Writes (variables_along (map (λ (v : Bytes × ℕ). s [] v.1) (shown_variables 0 P.query.written)))
    (λ vs. values_or_true (map (shown_value P.names vs s) (shown_variables 0 P.query.written))) first middle old between
    → Writes (variables_along (terms_waiting s waits)) (λ vs. with_waiting P.names vs (terms_waiting s waits)) middle now between new → new ≡ line P s waits
line_written P s waits first middle now old between new unnamed empty v w =
    let ones : List (Bytes × ℕ) = shown_variables 0 P.query.written in
    let terms : List Term = map (λ (x : Bytes × ℕ). s [] x.1) ones in
    let goals : List Term = terms_waiting s waits in
    let all : now ≡ first_seen [] (variables_along (terms ++ goals)) =
    w.seen_now
    ∙ ap (λ (us : List Variable). first_seen us (variables_along goals)) (v.seen_now
    ∙ ap (λ (us : List Variable). first_seen us (variables_along terms)) unnamed)
    ∙ sym (seen_in_turn [] (variables_along terms) (variables_along goals))
    ∙ ap (first_seen []) (sym (along_both terms goals)) in
    let text : List Variable → Bytes = λ us. values_or_true (map (shown_value P.names us s) ones) in
    let values : between ≡ text now = v.written (variables_along goals) ∙ ap (λ (us : List Variable). old ++ text us) (sym w.seen_now)
    ∙ ap (λ (bs : Bytes). bs ++ text now) empty in
    w.written [] ∙ ap (λ (bs : Bytes). bs ++ with_waiting P.names now goals) values
    ∙ ap (λ (us : List Variable). text us ++ with_waiting P.names us goals) all
