-- What is known of goals that were passed over, with more behind.
use Rattle.std.proofs.Common.{ℕ, ◌≡◌, ◌+◌, List, [], ◌∷◌, ◌++◌, take, length, append_assoc, ap, sym, ◌∙◌, subst, inl, inr}
use Rattle.std.specs.Prelude.{Option, None, Some}
use Rattle.std.proofs.lemmas.Bool.{true≢false}
use Rattle.std.proofs.lemmas.List.{length-append}
use Rattle.std.proofs.lemmas.List.Elements.{Contains-append_cases}
use Rattle.std.proofs.Math.Seq.{take-append_seam}
use Rattle.and_model.specs.declared.goal.Goal.{Goal}
use Rattle.and_model.specs.declared.reference.Ref.{Ref}
use Rattle.and_cells.specs.Ranges.{NamedProgram}
use Rattle.and_branch_laws.specs.Kept.{item_at}
use Rattle.and_branch_parts.specs.Branches.{is_arithmetic}
use Rattle.and_branch_parts.specs.Finding.{IsCallGoal, IsCallOrArithmetic, AllCalls, HasOne, HasNoSole, HasNoFitting, IsFirstCall, IsSeveral, HasHeavy, HasSeen}
use Rattle.and_branch_parts.specs.Finding.{with_passed}
use Rattle.and_branch_parts.specs.Watching.{HasTwo, Sleeps}
use Rattle.and_branch_parts.specs.Rounds.{IsIdle}
use Rattle.and_branch_parts.specs.declared.finding.HeavyCall.{HeavyCall}
use Rattle.and_branch_parts.specs.declared.finding.Seen.{Seen}
use Rattle.and_branch_parts.specs.declared.finding.Seen.TheVariants as seen
use Rattle.and_branch_parts.proofs.GoalsFound.{two_one, two_no_sole, two_no_fitting, calls_weaker, calls_push, heavy_more, one_here, heavy_here, first_heavy}

-- ---- A goal that sleeps

pub idle_sleeping : (P : NamedProgram) (limit : ℕ) (row : List Ref) (g : Goal) → Sleeps P row g → IsIdle P limit row g
idle_sleeping P limit row g x = record {
  waits = x.waits;
  several = λ term e c sole room. two_no_fitting P limit row g (x.several term e) c sole room;
}

-- A call that sleeps has two candidates.
pub two_sleeping : (P : NamedProgram) (row : List Ref) (g : Goal) → IsCallOrArithmetic (item_at P.program g) → Sleeps P row g → IsCallGoal P g
    → HasTwo P row g
two_sleeping P row g kind x called = elim kind [
  | inl k ↦ x.several k.0 k.1
  | inr k ↦ absurd (true≢false (sym (ap is_arithmetic k.1) ∙ called))
]

-- ---- One goal behind, of which this was seen

pub heavy_seen : (P : NamedProgram) (limit : ℕ) (row : List Ref) (gs : List Goal) (goal : Goal) (h : Option HeavyCall) (s : Seen)
    → HasHeavy P limit row gs h → HasSeen P limit row goal s → HasHeavy P limit row (gs ++ goal ∷ []) (with_passed h goal s)
heavy_seen P limit row gs goal None seen.Arithmetic x arithmetic =
    calls_push P (HasTwo P row) gs goal x (λ called. absurd (true≢false (sym arithmetic ∙ called)))
heavy_seen P limit row gs goal None seen.Several x (called, two) = calls_push P (HasTwo P row) gs goal x (λ _. two)
heavy_seen P limit row gs goal None (seen.Heavy clause) x (called, sole, heavy) =
    first_heavy P limit row gs goal called clause sole (calls_weaker P (HasTwo P row) (HasNoSole P row) (two_no_sole P row) gs x)
    (calls_weaker P (HasTwo P row) (HasOne P row) (two_one P row) gs x) heavy
heavy_seen P limit row gs goal None seen.NotJudged x h = absurd h
heavy_seen P limit row gs goal (Some first) seen.Arithmetic x arithmetic =
    heavy_more P limit row gs goal first.goal first.clause.0 x (λ called. absurd (true≢false (sym arithmetic ∙ called)))
    (λ called. absurd (true≢false (sym arithmetic ∙ called)))
heavy_seen P limit row gs goal (Some first) seen.Several x (called, two) =
    heavy_more P limit row gs goal first.goal first.clause.0 x (λ _. two_one P row goal two) (λ _. two_no_fitting P limit row goal two)
heavy_seen P limit row gs goal (Some first) (seen.Heavy clause) x (called, sole, heavy) =
    heavy_more P limit row gs goal first.goal first.clause.0 x (one_here P limit row gs goal called clause sole)
    (heavy_here P limit row gs goal called clause sole heavy)
heavy_seen P limit row gs goal (Some first) seen.NotJudged x h = absurd h

-- ---- More goals behind, of which each call has two candidates

calls_append : (P : NamedProgram) (Q : Goal → Type 0) (gs hs : List Goal) → AllCalls P Q gs → AllCalls P Q hs → AllCalls P Q (gs ++ hs)
calls_append P Q gs hs x y g i called = elim (Contains-append_cases gs hs g i) [ inl j ↦ x g j called | inr j ↦ y g j called ]

pub heavy_behind : (P : NamedProgram) (limit : ℕ) (row : List Ref) (gs hs : List Goal) (h : Option HeavyCall) → AllCalls P (HasTwo P row) hs
    → HasHeavy P limit row gs h → HasHeavy P limit row (gs ++ hs) h
heavy_behind P limit row gs hs None two x = calls_append P (HasTwo P row) gs hs x two
heavy_behind P limit row gs hs (Some first) two x =
    let among = x.among in record {
      among = record {
        front = among.front;
        back = among.back ++ hs;
        all = ap (λ (l : List Goal). l ++ hs) among.all ∙ append_assoc among.front (first.goal ∷ among.back) hs;
        called = among.called;
      };
      sole = x.sole;
      first = x.first;
      each = calls_append P (HasOne P row) gs hs x.each (calls_weaker P (HasTwo P row) (HasOne P row) (two_one P row) hs two);
      none = calls_append P (HasNoFitting P limit row) gs hs x.none
          (calls_weaker P (HasTwo P row) (HasNoFitting P limit row) (two_no_fitting P limit row) hs two);
    }

-- ---- The first call

pub several_found : (P : NamedProgram) (row : List Ref) (gs : List Goal) (goal : Goal) → IsFirstCall P gs goal → AllCalls P (HasTwo P row) gs
    → IsSeveral P row gs goal
several_found P row gs goal x two = record { among = x.among; first = x.first; each = two }

-- A goal at a place, and those before it
module _ (gs front : List Goal) (g : Goal) (back : List Goal) (all : gs ≡ front ++ g ∷ back) (place : ℕ) (at : length front ≡ place) where
  pub before_place : take place gs ≡ front
  before_place =
      ap (λ (n : ℕ). take n gs) (sym at) ∙ ap (λ (l : List Goal). take (length front) l) all ∙ take-append_seam front (g ∷ back)

  past_place : take (place + 1) gs ≡ front ++ g ∷ []
  past_place =
      ap (λ (n : ℕ). take n gs) (ap (λ (n : ℕ). n + 1) (sym at) ∙ sym (length-append front (g ∷ [])))
      ∙ ap (λ (l : List Goal). take (length (front ++ g ∷ [])) l) (all ∙ sym (append_assoc front (g ∷ []) back))
      ∙ take-append_seam (front ++ g ∷ []) back

  -- Where the goal is no call, none is so far,
  pub no_call_more : (P : NamedProgram) → AllCalls P (λ h. ⊥) (take place gs) → (IsCallGoal P g → ⊥) → AllCalls P (λ h. ⊥) (take (place + 1) gs)
  no_call_more P x other = subst (λ (l : List Goal). AllCalls P (λ h. ⊥) l) (sym past_place)
      (calls_push P (λ h. ⊥) front g (subst (λ (l : List Goal). AllCalls P (λ h. ⊥) l) before_place x) other)

  -- and where it is one, it is the first.
  pub first_call_here : (P : NamedProgram) → AllCalls P (λ h. ⊥) (take place gs) → IsCallGoal P g → IsFirstCall P gs g
  first_call_here P x called = record {
    among = record { front = front; back = back; all = all; called = called };
    first = subst (λ (l : List Goal). AllCalls P (λ h. ⊥) l) before_place x;
  }
