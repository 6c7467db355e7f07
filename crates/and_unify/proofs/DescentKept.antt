-- What a plain descent keeps: what every turn keeps, under links that are not written down.
use Rattle.std.proofs.Common.{ℕ, ◌≡◌, ◌⊎◌, List, [], ◌∷◌, ◌++◌, Option, Some, None, refl, sym, ap, subst, ◌∙◌, inl, inr}
use Rattle.std.specs.Prelude.{◌↔◌, Contains, IfSome, IsNone, is_some}
use Rattle.std.proofs.lemmas.Bool.{true≢false}
use Rattle.std.proofs.lemmas.List.Elements.{Contains-append_cases}
use Rattle.and_model.specs.declared.reference.Ref.{Ref}
use Rattle.and_program.specs.Skeletons.{AllFall}
use Rattle.and_cells.specs.Ranges.{NamedProgram}
use Rattle.and_cells.specs.Seen.{Seen, OnlyReads}
use Rattle.and_cells.specs.Parts.{parts_of}
use Rattle.and_cells.specs.Joined.{same}
use Rattle.and_laws.proofs.Ordered.{contains_none}
use Rattle.and_cell_laws.proofs.Images.{contains_image, contains_origin}
use Rattle.and_unify.specs.declared.pairs.Pair.{Pair}
use Rattle.and_unify.specs.declared.unifying.Unified.TheVariants.{Same, Apart, Memory}
use Rattle.and_unify.specs.Pairs.{AreInRange, AreWritten, AreApart}
use Rattle.and_unify.specs.Places.{left_sides, sides, IsPlace, root}
use Rattle.and_unify.specs.Meeting.{MeetStructures, MeetApart}
use Rattle.and_unify.specs.Turns.{pairs_of}
use Rattle.and_unify.specs.Unifying.{Unifies}
use Rattle.and_unify.specs.Descending.{StepsPlainly, LeadOnFrom, Descends}
use Rattle.and_unify.proofs.TurnClosed.{Leaves, steps_keep}
use Rattle.and_unify.proofs.TurnPlaces.{place_later, lefts_steps}
use Rattle.and_unify.proofs.TurnKept.{SidesAt, Kept, kept_reads, kept_same, kept_steps}
use Rattle.and_unify.proofs.TurnStands.{IsTodo, begins, stands_first, step_list}
use Rattle.and_unify.proofs.TurnArguments.{steps_down}
use Rattle.and_unify.proofs.TurnAnswers.{follows_end, left_end, suffice_end, equal_end, range_end, apart_kept, apart_at_kept}

-- Where structures of one shape lead to the pairs of their arguments, this is a step that makes them one, whatever links there were.
pub plainly_joins : (P Q : NamedProgram) (p : Pair) (one other : Ref) (old new : Seen) (list longer : List Pair) (bound further : List ℕ) → P ≡ Q
    → MeetStructures P p.left p.right old new one other → further ≡ bound → longer ≡ list ++ pairs_of (parts_of Q one) (parts_of Q other)
    → StepsPlainly P p old new list longer bound further
plainly_joins P Q p one other old new list longer bound further named m stays gains links =
    let more = links ++ (one, other) ∷ [] in (
      more,
      steps_down P Q p one other old new links more list longer bound further named m stays
          (inr (record { one = one; other = other; adds = refl; between = inl (same one, same other) }, gains)),
    )

-- All is kept, whatever links were made, and the left sides of what is to do are places of the left ones that were asked for.
pub record Held (P : NamedProgram) (first : Seen) (asked : List Pair) (began : List ℕ) (s : Seen) (Todo : Pair → Type 0) (bound : List ℕ) : Type 0 where
  pub links : List (Ref × Ref)
  pub kept : Kept P first asked began s links Todo bound
  pub lefts : (p : Pair) → Todo p → IsPlace P s (left_sides asked) p.left

-- the pair that was taken out, or one of those that are left
abbrev pub IsOutOr : Pair → List Pair → Pair → Type 0
IsOutOr p rest q = (q ≡ p) ⊎ Contains rest q

-- the nodes of a program that is named fall
pub named_falls : (P Q : NamedProgram) → P ≡ Q → AllFall 0 Q.skeleton.nodes → AllFall 0 P.skeleton.nodes
named_falls P Q named fall = subst (λ (p : NamedProgram). AllFall 0 p.skeleton.nodes) (sym named) fall

-- A descent begins so,
pub held_begun : (P : NamedProgram) (first : Seen) (asked : List Pair) (began : List ℕ) → AreInRange P first.words asked → AreWritten first asked
    → Held P first asked began first (Contains asked) began
held_begun P first asked began range written = record {
  links = [];
  kept = kept_same P first asked began first [] (IsTodo (begins first asked 0)) (Contains asked) began
      (λ p todo. elim todo [ inl at ↦ at | inr at ↦ absurd (contains_none p at) ]) (λ p at. inl at) (stands_first P first asked 0 began range written).kept;
  lefts = λ p at. root p.left (contains_image (λ (p : Pair). p.left) asked p at);
}

-- and it is kept where a pair steps.
pub held_steps : (P : NamedProgram) (first : Seen) (asked : List Pair) (began : List ℕ) (old new : Seen) (bound further : List ℕ) (rest longer : List Pair)
    (p : Pair) → AllFall 0 P.skeleton.nodes
    → StepsPlainly P p old new rest longer bound further → Held P first asked began old (IsOutOr p rest) bound
    → Held P first asked began new (Contains longer) further
held_steps P first asked began old new bound further rest longer p fall steps h =
    let (more, step) = steps h.links in
    let leaves : Leaves p rest longer (IsOutOr p rest) (Contains longer) = record {
      was = inl refl;
      list_was = λ q at. inr at;
      keeps = λ q todo. elim todo [ inl is ↦ inl is | inr at ↦ inr (step_list P p old new h.links more rest longer bound further step q at) ];
      takes = λ q at. at;
      comes = λ q later. inr later;
    } in
    let knows = (steps_keep P p old new h.links more rest longer bound further step).knows in
    let later : (q : Pair) → IsOutOr p rest q → IsPlace P new (left_sides asked) q.left =
    λ q todo. place_later P old new (left_sides asked) q.left knows (h.lefts q todo) in record {
      links = more;
      kept = kept_steps P p old new h.links more rest longer bound further first asked began (IsOutOr p rest) (Contains longer) fall leaves step h.kept;
      lefts = lefts_steps P p old new h.links more rest longer bound further (left_sides asked) step (later p (inl refl)) (λ q at. later q (inr at));
    }

-- Where the last step stopped, all is kept.
pub held_stopped : (P : NamedProgram) (first : Seen) (asked : List Pair) (began : List ℕ) (old now : Seen) (bound further : List ℕ) (Todo : Pair → Type 0)
    → OnlyReads old now × (further ≡ bound)
    → Held P first asked began old Todo bound → Held P first asked began now Todo further
held_stopped P first asked began old now bound further Todo stopped h = record {
  links = h.links;
  kept = subst (Kept P first asked began now h.links Todo) (sym stopped.1) (kept_reads P first asked began old now h.links Todo bound stopped.0 h.kept);
  lefts = λ p todo. place_later P old now (left_sides asked) p.left stopped.0.keeps (h.lefts p todo);
}

-- a side of a pair that is to do is a place
side_is_place : (P : NamedProgram) (s : Seen) (roots : List Ref) (left : List Pair) (r : Ref) → ((p : Pair) → Contains left p → SidesAt P s roots p)
    → Contains (sides left) r → IsPlace P s roots r
side_is_place P s roots left r each at = elim (Contains-append_cases (left_sides left) _ r at) [
  | inl one ↦ let (p, among, is) = contains_origin (λ (p : Pair). p.left) left r one in subst (IsPlace P s roots) (sym is) (each p among).0
  | inr other ↦ let (p, among, is) = contains_origin (λ (p : Pair). p.right) left r other in subst (IsPlace P s roots) (sym is) (each p among).1
]

-- whether the row is told stays
told_stays : (P : NamedProgram) (first : Seen) (asked : List Pair) (began : List ℕ) (s : Seen) (links : List (Ref × Ref)) (Todo : Pair
    → Type 0) (bound : List ℕ) → Kept P first asked began s links Todo bound
    → IsNone first.told ↔ IsNone s.told
told_stays P first asked began s links Todo bound k = by_row first.told refl
  where
    by_row : (o : Option (List Ref)) → first.told ≡ o → IsNone first.told ↔ IsNone s.told
    by_row (Some row) is =
        let now = k.if_told row is in
        (λ none. absurd (true≢false (sym (ap is_some is) ∙ none)), λ none. absurd (true≢false (sym (ap is_some now.told) ∙ none)))
    by_row None is = (λ none. ap is_some (k.if_untold is).told, λ none. ap is_some is)

-- the sides of what is left, where the row is told
told_sides : (P : NamedProgram) (first : Seen) (asked : List Pair) (began : List ℕ) (s : Seen) (links : List (Ref × Ref)) (left : List Pair) (bound : List ℕ)
    → Kept P first asked began s links (Contains left) bound
    → IfSome first.told (λ row. LeadOnFrom P first left asked)
told_sides P first asked began s links left bound k = by_row first.told refl
  where
    by_row : (o : Option (List Ref)) → first.told ≡ o → IfSome o (λ row. LeadOnFrom P first left asked)
    by_row (Some row) is = λ r at. side_is_place P first (sides asked) left r (k.if_told row is).sides at
    by_row None is = tt

-- What a descent comes to: some pairs are left,
pub descends_end : (P : NamedProgram) (old new : Seen) (asked : List Pair) (began bound : List ℕ) (left : List Pair) → AllFall 0 P.skeleton.nodes
    → Held P old asked began new (Contains left) bound → Descends P old new asked left
descends_end P old new asked began bound left fall h = record {
  follows = follows_end P old asked began new h.links (Contains left) bound h.kept;
  told = told_stays P old asked began new h.links (Contains left) bound h.kept;
  suffice = suffice_end P old asked began new h.links (Contains left) bound left fall h.kept (λ p at. at);
  still_asked = left_end P old asked began new h.links (Contains left) bound left h.kept (λ p at. at);
  in_range = range_end P old asked began new h.links (Contains left) bound left h.kept (λ p at. at);
  leads = λ r at. side_is_place P new (sides asked) left r h.kept.leads at;
  told_leads = told_sides P old asked began new h.links left bound h.kept;
  lefts = λ r at. let (p, among, is) = contains_origin (λ (p : Pair). p.left) left r at in subst (IsPlace P new (left_sides asked)) (sym is) (h.lefts p among);
}

-- none is left,
pub same_end : (P : NamedProgram) (old new : Seen) (asked : List Pair) (began bound : List ℕ) (xs left : List Pair) → AllFall 0 P.skeleton.nodes
    → AreInRange P old.words asked
    → (xs ≡ []) × (left ≡ []) → Held P old asked began new (Contains xs) bound → Unifies P old new asked left Same
same_end P old new asked began bound xs left fall range none h = record {
  follows = follows_end P old asked began new h.links (Contains xs) bound h.kept;
  same = λ is. none.1;
  equal = λ is. equal_end P old asked began new h.links (Contains xs) bound left fall range h.kept
      (λ p at. absurd (contains_none p (subst (λ l. Contains l p) none.0 at)));
  still_asked = λ is. absurd (cc);
  in_range = λ is. absurd (cc);
  apart = λ one other is. absurd (cc);
  apart_at = λ one other is. absurd (cc);
}

-- one pair led to two that are apart,
pub apart_met : (P : NamedProgram) (old mid new : Seen) (asked : List Pair) (began bound : List ℕ) (rest left : List Pair) (p : Pair) (one other : Ref)
    → MeetApart P p.left p.right mid new one other → Held P old asked began mid (IsOutOr p rest) bound → Unifies P old new asked left (Apart one other)
apart_met P old mid new asked began bound rest left p one other meets h =
    let kept = kept_reads P old asked began mid new h.links (IsOutOr p rest) bound meets.lead.reads h.kept in
    let both = apart_kept P old asked began mid new h.links (IsOutOr p rest) bound p one other h.kept (inl refl) meets in
    let places = apart_at_kept P old asked began mid new h.links (IsOutOr p rest) bound p one other h.kept (inl refl) meets in record {
      follows = follows_end P old asked began new h.links (IsOutOr p rest) bound kept;
      same = λ is. absurd (cc);
      equal = λ is. elim is [ inl e ↦ absurd (cc) | inr e ↦ absurd (cc) ];
      still_asked = λ is. absurd (cc);
      in_range = λ is. absurd (cc);
      apart = λ l r is.
          let first : one ≡ l = cc in
          let second : other ≡ r = cc in
          (subst (AreApart P new l) second (subst (λ x. AreApart P new x other) first both.0), both.1);
      apart_at = λ l r is.
          let first : one ≡ l = cc in
          let second : other ≡ r = cc in
          (subst (IsPlace P new (sides asked)) first places.0, subst (IsPlace P new (sides asked)) second places.1);
    }

-- or memory is wanting.
pub memory_end : (P : NamedProgram) (old new : Seen) (asked : List Pair) (began bound : List ℕ) (left : List Pair) (Todo : Pair → Type 0)
    → Held P old asked began new Todo bound → Unifies P old new asked left Memory
memory_end P old new asked began bound left Todo h = record {
  follows = follows_end P old asked began new h.links Todo bound h.kept;
  same = λ is. absurd (cc);
  equal = λ is. elim is [ inl e ↦ absurd (cc) | inr e ↦ absurd (cc) ];
  still_asked = λ is. absurd (cc);
  in_range = λ is. absurd (cc);
  apart = λ one other is. absurd (cc);
  apart_at = λ one other is. absurd (cc);
}
