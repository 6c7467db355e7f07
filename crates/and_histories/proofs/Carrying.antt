-- Histories are carried out one after another, and lead to one state.
use Rattle.std.proofs.Common.{◌≡◌, List, [], ◌∷◌, ◌++◌, ◌↔◌, refl, sym, subst, ◌∙◌}
use Rattle.and_histories.specs.PlainTree.{State}
use Rattle.and_histories.specs.Histories.{HistoryEntry, Carries}
use Rattle.and_histories.proofs.Determined.{one_answer}

pub one_state : (s one other : State) (history : List HistoryEntry) → Carries s history one → Carries s history other → one ≡ other
one_state s one other [] a b = sym a ∙ b
one_state s one other (e ∷ history) (next, does, carries) (after, does_too, carries_too) =
    let same = (one_answer s next after e.event e.reply e.reply does does_too).1 in
    one_state after one other history (subst (λ t. Carries t history one) same carries) carries_too

carried_on : (s after : State) (front back : List HistoryEntry) → Carries s (front ++ back) after
    → (middle : State) × Carries s front middle × Carries middle back after
carried_on s after [] back carries = (s, refl, carries)
carried_on s after (e ∷ front) back (next, does, carries) =
    let (middle, first, second) = carried_on next after front back carries in
    (middle, (next, does, first), second)

joined : (s after : State) (front back : List HistoryEntry) → (middle : State) × Carries s front middle × Carries middle back after
    → Carries s (front ++ back) after
joined s after [] back (middle, first, second) = subst (λ t. Carries t back after) (sym first) second
joined s after (e ∷ front) back (middle, (next, does, first), second) = (next, does, joined next after front back (middle, first, second))

pub carried_in_parts : (s after : State) (front back : List HistoryEntry)
    → Carries s (front ++ back) after ↔ ((middle : State) × Carries s front middle × Carries middle back after)
carried_in_parts s after front back = (carried_on s after front back, joined s after front back)
