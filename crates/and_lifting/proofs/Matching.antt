-- Agendas of a program with disjunctions and of the lifted one that say the same, and what stands in front of their first calls.
use Rattle.std.proofs.Common.{ℕ, ◌≡◌, List, [], ◌∷◌, ◌++◌, append_assoc, append-nil, map, refl, ap, sym, ◌∙◌, subst, suc, inl, inr}
use Rattle.std.specs.Prelude.{Contains}
use Rattle.and_model.specs.Terms.{Path, Term, Terms, variable, compound, framed, variables_of, variables_in, Substitution, apply, apply_all}
use Rattle.and_model.specs.Solutions.{Equation, Solves, falsehood}
use Rattle.and_model.specs.Programs.{call, equal, arithmetic, fail, Arithmetic, arithmetic_in, same_predicate}
use Rattle.and_model.specs.Stands.{item_term}
use Rattle.and_model.specs.Lines.{goal_term}
use Rattle.and_model.specs.Trees.{Agenda, end, goal, equation, reckoning, agenda}
use Rattle.and_laws.proofs.Solving.{solves_join, solves_front, solves_back}
use Rattle.and_laws.proofs.Ordered.{contains_none}
use Rattle.and_source.specs.Source.{SourceItems, no_items, plain, either, Alternatives, SourceProgram, disjunctions_in, distinct_variables}
use Rattle.and_source.specs.Source.{variables_of_items, variables_of_alternatives}
use Rattle.and_source.specs.Unfolding.{SourceAgenda, source_end, source_goal, source_equation, source_reckoning, choice, source_agenda, advanced}
use Rattle.and_source.specs.Lifted.{Numbering, renumbered, renumbered_goal, as_terms, lifted_items}
use Rattle.and_lifting.proofs.Fronts.{front_equations, front_arithmetics, from_call}
use Rattle.and_lifting.proofs.Renaming.{Stand, stand_left, stand_right, renamed_term, renamed_terms, renamed_goal, applied, predicate_kept, name_kept}
use Rattle.and_lifting.proofs.Renaming.{seen_occurs, variables_back}
use Rattle.and_lifting.proofs.Closures.{Extends, extends_more, GoalsStand}
use Rattle.and_lifting.proofs.Avoiding.{Frames, AgreeOutside, Avoids, AllAvoid, GoalAvoids, GoalsAvoid, EquationsAvoid, Narrower, agree_wider, framed_avoids}
use Rattle.and_lifting.proofs.Avoiding.{framed_all_avoid, goal_avoids, goals_avoid_more, equations_avoid_more}
use Rattle.and_lifting.proofs.Inside.{IsUnlifted, Inside, AllInside}

-- The second agenda is the lifted one. Its terms stand for those of the first, and have no variable of the frames U.
pub data Matches (P : SourceProgram) (up : Substitution) (U : Frames) : SourceAgenda → Agenda → Type 0 where
  match_end : Matches P up U source_end end
  match_goal : (p : Path) (g h : Term) (rest : SourceAgenda) (ms : Agenda) → apply up h ≡ g → Avoids U h
      → ((t : Term) → same_predicate h t ≡ same_predicate g t)
      → IsUnlifted P h → Matches P up U rest ms → Matches P up U (source_goal p g rest) (goal p h ms)
  match_equation : (a b c d : Term) (rest : SourceAgenda) (ms : Agenda) → apply up c ≡ a → apply up d ≡ b → Avoids U c → Avoids U d
      → Matches P up U rest ms → Matches P up U (source_equation a b rest) (equation c d ms)
  match_reckoning : (a b : Arithmetic) (rest : SourceAgenda) (ms : Agenda) → a ≡ applied up b → GoalAvoids U b
      → Matches P up U rest ms → Matches P up U (source_reckoning a rest) (reckoning b ms)
  match_choice : (q p : Path) (name : ℕ) (alts : Alternatives) (ts : Terms) (rest : SourceAgenda) (ms : Agenda)
      → apply_all up ts ≡ apply_all (λ f k. variable q k) (as_terms (distinct_variables alts)) → AllAvoid U ts
      → Contains (disjunctions_in P) (name, alts) → AllInside P alts
      → Matches P up U rest ms → Matches P up U (choice q p alts rest) (goal p (compound name ts) ms)

-- They still say the same where fewer frames are avoided, and what stands for variables changes in the others alone.
pub matches_moved : (P : SourceProgram) (up down : Substitution) (V U : Frames) (ag : SourceAgenda) (ms : Agenda) → AgreeOutside U down up → Narrower V U
    → Matches P up U ag ms → Matches P down V ag ms
matches_moved P up down V U ag ms a n match_end = match_end
matches_moved P up down V U ag ms a n (match_goal p g h rest ks e v s u m) =
    match_goal p g h rest ks (v down up a ∙ e) (λ x y b. v x y (agree_wider V U x y n b)) s u (matches_moved P up down V U rest ks a n m)
matches_moved P up down V U ag ms a n (match_equation x y c d rest ks e f v w m) =
    match_equation x y c d rest ks (v down up a ∙ e) (w down up a
    ∙ f) (λ s r b. v s r (agree_wider V U s r n b)) (λ s r b. w s r (agree_wider V U s r n b)) (matches_moved P up down V U rest ks a n m)
matches_moved P up down V U ag ms a n (match_reckoning x y rest ks e v m) =
    match_reckoning x y rest ks (e ∙ sym (v down up a)) (λ s r b. v s r (agree_wider V U s r n b)) (matches_moved P up down V U rest ks a n m)
matches_moved P up down V U ag ms a n (match_choice q p name alts ts rest ks e v i j m) =
    match_choice q p name alts ts rest ks (v down up a ∙ e) (λ s r b. v s r (agree_wider V U s r n b)) i j (matches_moved P up down V U rest ks a n m)

-- the variables of a disjunction's call are the disjunction's
call_stands : (up : Substitution) (new : Numbering) (p q : Path) (alts : Alternatives) → Stand up new p q (variables_of_alternatives alts)
    → Stand up new p q (variables_in (as_terms (distinct_variables alts)))
call_stands up new p q alts h v i =
    let occurs : Contains (distinct_variables alts) v = subst (λ vs. Contains vs v) (variables_back (distinct_variables alts)) i in
    elim (seen_occurs [] (variables_of_alternatives alts) v occurs) [ inl n ↦ absurd (contains_none v n) | inr j ↦ h v j ]

-- Items and the lifted ones say the same, where each variable stands for what it was.
pub body_matches : (P : SourceProgram) (up : Substitution) (U : Frames) (new : Numbering) (q p : Path) (i : ℕ) (items : SourceItems) (rest : SourceAgenda)
    (ms : Agenda)
    → (U p → ⊥) → Inside P items → Stand up new p q (variables_of_items items) → Matches P up U rest ms
    → Matches P up U (source_agenda q p i items rest) (agenda p i (lifted_items new items) ms)
body_matches P up U new q p i no_items rest ms f x h m = m
body_matches P up U new q p i (plain (call g) items) rest ms f x h m =
    match_goal (p ++ i ∷ []) (framed q g) (framed p (renumbered new g)) (source_agenda q p (suc i) items rest) (agenda p (suc i) (lifted_items new items) ms)
    (renamed_term up new p q g (stand_left up new p q (variables_of g) (variables_of_items items) h))
    (framed_avoids U p (renumbered new g) f) (λ t. predicate_kept new p q g t) (λ d j. name_kept new p d.0 g ∙ x.0 d j)
    (body_matches P up U new q p (suc i) items rest ms f x.1 (stand_right up new p q (variables_of g) (variables_of_items items) h) m)
body_matches P up U new q p i (plain (equal a b) items) rest ms f x h m =
    let both : Stand up new p q (variables_of (item_term (equal a b))) = stand_left up new p q (variables_of (item_term (equal a b)))
    (variables_of_items items) h in
    let second : Stand up new p q (variables_of b ++ []) = stand_right up new p q (variables_of a) (variables_of b ++ []) both in
    match_equation (framed q a) (framed q b) (framed p (renumbered new a)) (framed p (renumbered new b)) (source_agenda q p (suc i) items rest)
    (agenda p (suc i) (lifted_items new items) ms)
    (renamed_term up new p q a (stand_left up new p q (variables_of a) (variables_of b ++ []) both))
    (renamed_term up new p q b (stand_left up new p q (variables_of b) [] second))
    (framed_avoids U p (renumbered new a) f) (framed_avoids U p (renumbered new b) f)
    (body_matches P up U new q p (suc i) items rest ms f x (stand_right up new p q (variables_of (item_term (equal a b))) (variables_of_items items) h) m)
body_matches P up U new q p i (plain (arithmetic a) items) rest ms f x h m =
    match_reckoning (arithmetic_in q a) (arithmetic_in p (renumbered_goal new a)) (source_agenda q p (suc i) items rest)
    (agenda p (suc i) (lifted_items new items) ms)
    (sym (renamed_goal up new p q a (stand_left up new p q (variables_of (goal_term a)) (variables_of_items items) h)))
    (goal_avoids U p (renumbered_goal new a) f)
    (body_matches P up U new q p (suc i) items rest ms f x (stand_right up new p q (variables_of (goal_term a)) (variables_of_items items) h) m)
body_matches P up U new q p i (plain fail items) rest ms f x h m =
    match_equation falsehood.0 falsehood.1 falsehood.0 falsehood.1 (source_agenda q p (suc i) items rest) (agenda p (suc i) (lifted_items new items) ms)
    refl refl (λ s r a. refl) (λ s r a. refl) (body_matches P up U new q p (suc i) items rest ms f x h m)
body_matches P up U new q p i (either name alts items) rest ms f x h m =
    let inner : Stand up new p q (variables_of_alternatives alts) = stand_left up new p q (variables_of_alternatives alts) (variables_of_items items) h in
    match_choice q (p ++ i ∷ []) name alts (apply_all (λ r k. variable p k) (apply_all (λ r k. variable [] (new r k)) (as_terms (distinct_variables alts))))
    (source_agenda q p (suc i) items rest) (agenda p (suc i) (lifted_items new items) ms)
    (renamed_terms up new p q (as_terms (distinct_variables alts)) (call_stands up new p q alts inner))
    (framed_all_avoid U p (apply_all (λ r k. variable [] (new r k)) (as_terms (distinct_variables alts))) f) x.0 x.1
    (body_matches P up U new q p (suc i) items rest ms f x.2 (stand_right up new p q (variables_of_alternatives alts) (variables_of_items items) h) m)

-- What was taken off so far, of both: equations and arithmetic. Variables of the frames U do not occur yet.
pub record Base (up : Substitution) (U : Frames) (es : List Equation) (gs : List Arithmetic) (ds : List Equation) (hs : List Arithmetic) : Type 0 where
  pub untouched : (q : Path) (k : ℕ) → U q → up q k ≡ variable q k
  -- the query's variables are its own
  pub own : (k : ℕ) → up [] k ≡ variable [] k
  pub not_query : U [] → ⊥
  pub extends : Extends up es ds
  pub steady : EquationsAvoid U ds
  pub goals : GoalsStand up gs hs
  pub goals_steady : GoalsAvoid U hs

-- equations in another order
pub extends_same : (up : Substitution) (es ds fs : List Equation) → ((s : Substitution) → Solves s ds → Solves s fs)
    → ((s : Substitution) → Solves s fs → Solves s ds) → Extends up es ds → Extends up es fs
extends_same up es ds fs f b x = record
    { entails = λ s p. x.entails s (b s p); solved = λ s p. f (λ q k. apply s (up q k)) (x.solved s p); through = λ s p. x.through s (b s p) }

pub extends_last : (up : Substitution) (es ds : List Equation) (a b c d : Term) → Extends up es ds → apply up c ≡ a → apply up d ≡ b
    → Extends up ((a, b) ∷ es) (ds ++ (c, d) ∷ [])
extends_last up es ds a b c d x e f =
    extends_same up ((a, b) ∷ es) ((c, d) ∷ ds) (ds ++ (c, d) ∷ [])
    (λ s p. solves_join s ds ((c, d) ∷ []) p.1 (p.0, tt))
    (λ s p. ((solves_back s ds ((c, d) ∷ []) p).0, solves_front s ds ((c, d) ∷ []) p))
    (extends_more up es ds a b c d x e f)

goals_last : (up : Substitution) (gs hs : List Arithmetic) (a b : Arithmetic) → GoalsStand up gs hs → a ≡ applied up b
    → GoalsStand up (gs ++ a ∷ []) (hs ++ b ∷ [])
goals_last up gs hs a b e f = ap (λ xs. xs ++ a ∷ []) e ∙ ap (λ x. map (applied up) hs ++ x ∷ []) f ∙ sym (maps hs)
  where
    maps : (xs : List Arithmetic) → map (applied up) (xs ++ b ∷ []) ≡ map (applied up) xs ++ applied up b ∷ []
    maps [] = refl
    maps (x ∷ xs) = ap (λ ys. applied up x ∷ ys) (maps xs)

-- What stands in front of the first calls was taken off both.
pub record Front (P : SourceProgram) (up : Substitution) (U : Frames) (ag : SourceAgenda) (es : List Equation) (gs : List Arithmetic) (w : ℕ) (ms : Agenda)
    (ds : List Equation) (hs : List Arithmetic) : Type 0 where
  pub base : Base up U (advanced ag es gs w).equations (advanced ag es gs w).arithmetics (ds ++ front_equations ms) (hs ++ front_arithmetics ms)
  pub matches : Matches P up U (advanced ag es gs w).agenda (from_call ms)

nothing_more : (up : Substitution) (U : Frames) (es : List Equation) (gs : List Arithmetic) (ds : List Equation) (hs : List Arithmetic)
    → Base up U es gs ds hs → Base up U es gs (ds ++ []) (hs ++ [])
nothing_more up U es gs ds hs b = subst (λ l. Base up U es gs l (hs ++ [])) (sym (append-nil ds)) (subst (λ l. Base up U es gs ds l) (sym (append-nil hs)) b)

pub front : (P : SourceProgram) (up : Substitution) (U : Frames) (ag : SourceAgenda) (es : List Equation) (gs : List Arithmetic) (w : ℕ) (ms : Agenda)
    (ds : List Equation) (hs : List Arithmetic)
    → Matches P up U ag ms → Base up U es gs ds hs → Front P up U ag es gs w ms ds hs
front P up U ag es gs w ms ds hs match_end b = record { base = nothing_more up U es gs ds hs b; matches = match_end }
front P up U ag es gs w ms ds hs (match_goal p g h rest ks e v s u m) b = record
    { base = nothing_more up U es gs ds hs b; matches = match_goal p g h rest ks e v s u m }
front P up U ag es gs w ms ds hs (match_equation x y c d rest ks e f v z m) b =
    let next : Base up U ((x, y) ∷ es) gs (ds ++ (c, d) ∷ []) hs = record {
      untouched = b.untouched;
      own = b.own;
      not_query = b.not_query;
      extends = extends_last up es ds x y c d b.extends e f;
      steady = equations_avoid_more U ds c d b.steady v z;
      goals = b.goals;
      goals_steady = b.goals_steady;
    } in
    let r : Front P up U rest ((x, y) ∷ es) gs w ks (ds ++ (c, d) ∷ []) hs = front P up U rest ((x, y) ∷ es) gs w ks (ds ++ (c, d) ∷ []) hs m next in
    record {
      base = subst (λ l. Base up U (advanced rest ((x, y) ∷ es) gs w).equations (advanced rest ((x, y) ∷ es) gs w).arithmetics l
          (hs ++ front_arithmetics ks)) (append_assoc ds ((c, d) ∷ []) (front_equations ks)) r.base;
      matches = r.matches;
    }
front P up U ag es gs w ms ds hs (match_reckoning x y rest ks e v m) b =
    let next : Base up U es (gs ++ x ∷ []) ds (hs ++ y ∷ []) = record {
      untouched = b.untouched;
      own = b.own;
      not_query = b.not_query;
      extends = b.extends;
      steady = b.steady;
      goals = goals_last up gs hs x y b.goals e;
      goals_steady = goals_avoid_more U hs y b.goals_steady v;
    } in
    let r : Front P up U rest es (gs ++ x ∷ []) w ks ds (hs ++ y ∷ []) = front P up U rest es (gs ++ x ∷ []) w ks ds (hs ++ y ∷ []) m next in
    record {
      base = subst (λ l. Base up U (advanced rest es (gs ++ x ∷ []) w).equations (advanced rest es (gs ++ x ∷ []) w).arithmetics
          (ds ++ front_equations ks) l) (append_assoc hs (y ∷ []) (front_arithmetics ks)) r.base;
      matches = r.matches;
    }
front P up U ag es gs w ms ds hs (match_choice q p name alts ts rest ks e v i j m) b =
    record { base = nothing_more up U es gs ds hs b; matches = match_choice q p name alts ts rest ks e v i j m }
