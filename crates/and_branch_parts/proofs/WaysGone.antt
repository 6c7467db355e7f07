-- Rounds that go on, and back.
use Rattle.std.proofs.Common.{ℕ, ◌≡◌, ◌<◌, ◌≤◌, ◌+◌, ◌-◌, ◌*◌, ◌^◌, Bool, true, false, List, [], ◌∷◌, length, length-append, refl, ap, sym, ◌∙◌, subst, inl}
use Rattle.std.proofs.Common.{inr, arith}
use Rattle.std.specs.Prelude.{Option}
use Rattle.std.proofs.lemmas.Bool.{true≢false, cases_lt}
use Rattle.and_model.specs.declared.goal.Goal.{Goal}
use Rattle.and_cells.specs.Ranges.{NamedProgram}
use Rattle.and_branch_laws.specs.OwnVariables.{IsLoaded}
use Rattle.and_branch_parts.specs.Branches.{Held, SameKey}
use Rattle.and_branch_parts.specs.Next.{IsMoved}
use Rattle.and_branch_parts.specs.Rounds.{StepsOn, AreFew, goal_count, HasProgressed, HasPassed, HasPassedSleepers}
use Rattle.and_branch_parts.specs.Ways.{HasCome, HasNoted}
use Rattle.and_branch_parts.specs.declared.finding.HeavyCall.{HeavyCall}
use Rattle.and_branch_parts.specs.declared.finding.Seen.{Seen}
use Rattle.and_branch_parts.specs.declared.ways.Share.{Share}
use Rattle.and_branch_parts.specs.declared.ways.Way.{Way}
use Rattle.and_branch_parts.specs.declared.ways.Way.TheVariants.{Onward, Back}
use Rattle.and_branch_parts.proofs.LookedGoals.{steps_then, still_branch, moved_steps}
use Rattle.and_branch_parts.proofs.RoundsKept.{RoundStands, same_then, moved_alike, then_alike, same_count, round_slept}

-- A round stands as before, it goes back only once it has changed something, and each goal's share is some.
pub record Goes (P : NamedProgram) (start now : Held) (way : Way) (changed : Bool) (share : Share) (heavy : Option HeavyCall) : Type 0 where
  pub stands : RoundStands P start now changed share.left heavy
  pub back : way ≡ Back → changed ≡ true
  pub some : 1 ≤ share.most

-- The place of work was moved, after something was changed.
pub round_moved : (P : NamedProgram) (start old new : Held) (changed : Bool) (budget : ℕ) (heavy more : Option HeavyCall) → changed ≡ true
    → RoundStands P start old changed budget heavy → SameKey old new → IsMoved old new → RoundStands P start new changed budget more
round_moved P start old new changed budget heavy more is x same m =
    let steps = moved_steps P old new m in record {
      same = same_then start old new x.same same;
      steps = steps_then P start old new x.steps steps;
      branch = still_branch P old new steps x.branch;
      alike = λ e. absurd (true≢false (sym is ∙ e));
      idle = λ e live. absurd (true≢false (sym is ∙ e));
      progress = λ e. then_alike start old new (x.progress e) (moved_alike old new m);
      spent = λ e. is;
    }

-- It came to the next goal.
pub has_come : (P : NamedProgram) → IsLoaded P → (start old new : Held) (way : Way) (there changed : Bool) (share : Share) (heavy : Option HeavyCall)
    → Goes P start old way changed share heavy → SameKey old new → StepsOn P old new → HasCome P way old new there
    → Goes P start new way changed share heavy
has_come P loaded start old new Onward there changed share heavy x same steps come = record {
  stands = round_slept P loaded start old new changed share.left heavy x.stands same steps come.1;
  back = x.back;
  some = x.some;
}
has_come P loaded start old new Back there changed share heavy x same steps come = record {
  stands = round_moved P start old new changed share.left heavy heavy (x.back refl) x.stands same come.0;
  back = x.back;
  some = x.some;
}

-- The next goal's turn may have begun: its share is full then, and else as it was.
turn_begun : (P : NamedProgram) (start now : Held) (way : Way) (changed : Bool) (old new : Share) (heavy : Option HeavyCall)
    → Goes P start now way changed old heavy → (new.left ≡ 0 → old.left ≡ 0) → new.most ≡ old.most → Goes P start now way changed new heavy
turn_begun P start now way changed old new heavy x none most =
    let s = x.stands in record {
      stands = record {
        same = s.same;
        steps = s.steps;
        branch = s.branch;
        alike = s.alike;
        idle = s.idle;
        progress = s.progress;
        spent = λ e. s.spent (none e);
      };
      back = x.back;
      some = let o = x.some in omega arith;
    }

pub share_at : (P : NamedProgram) (start now : Held) (way : Way) (changed : Bool) (old new : Share) (ahead : ℕ) (heavy : Option HeavyCall)
    → Goes P start now way changed old heavy
    → (ahead < old.ahead → new ≡ record { most = old.most; left = old.most; ahead = ahead }) → (old.ahead ≤ ahead → new ≡ old)
    → Goes P start now way changed new heavy
share_at P start now way changed old new ahead heavy x next same =
    elim (cases_lt ahead old.ahead) [
      | inl less ↦
          let left = ap (λ (s : Share). s.left) (next less) in
          let most = ap (λ (s : Share). s.most) (next less) in
          let some = x.some in
          turn_begun P start now way changed old new heavy x (λ e. absurd (omega arith)) most
      | inr not_less ↦
          let left = ap (λ (s : Share). s.left) (same not_less) in
          let most = ap (λ (s : Share). s.most) (same not_less) in
          turn_begun P start now way changed old new heavy x (λ e. sym left ∙ e) most
    ]

-- Where there is none, something was changed.
pub over_back : (P : NamedProgram) (start old new : Held) (way : Way) (there changed : Bool) (share : Share) (heavy : Option HeavyCall)
    → Goes P start old way changed share heavy → HasCome P way old new there → there ≡ false → changed ≡ true
over_back P start old new Onward there changed share heavy x come none = absurd (true≢false (sym come.0 ∙ none))
over_back P start old new Back there changed share heavy x come none = x.back refl

-- A goal was passed, and noted.
pub has_noted : (P : NamedProgram) (start old new : Held) (way : Way) (changed : Bool) (share : Share) (heavy seen more : Option HeavyCall)
    → (way ≡ Back → changed ≡ true) → 1 ≤ share.most → RoundStands P start old changed share.left seen → SameKey old new
    → HasNoted way old new seen more → Goes P start new way changed share more
has_noted P start old new Onward changed share heavy seen more back some x same (is, noted) = record {
  stands = subst (λ (h : Option HeavyCall). RoundStands P start new changed share.left h) (sym noted)
      (subst (λ (b : Held). RoundStands P start b changed share.left seen) (sym is) x);
  back = back;
  some = some;
}
has_noted P start old new Back changed share heavy seen more back some x same (m, fewer) = record {
  stands = round_moved P start old new changed share.left seen more (back refl) x same m;
  back = back;
  some = some;
}

-- ---- Measures

-- how much more a branch may weigh
abbrev room : Held → ℕ
room b = b.limit - b.used

-- a bound on the turns that a round has left
abbrev pub turns_left : Way → Held → ℕ
turns_left Onward b = room b * 2 ^ 130 + 2 ^ 129 + goal_count b + length b.right
turns_left Back b = room b * 2 ^ 130 + goal_count b * 2 ^ 64 + length b.left

moved_count : (old new : Held) → IsMoved old new → goal_count new ≡ goal_count old
moved_count old new m = same_count old new (moved_alike old new m)

-- The place of work was moved: there is as much room as before.
come_alike : (P : NamedProgram) (way : Way) (old new : Held) (there : Bool) → HasCome P way old new there
    → (new.limit ≡ old.limit) × (new.used ≡ old.used)
come_alike P Onward old new there (is, come) = let a = come.alike in (a.limit, a.used)
come_alike P Back old new there (m, before) = (m.limit, m.used)

-- goals before the place of work, and behind it
slept_right : (P : NamedProgram) (old new : Held) → HasPassedSleepers P old new → length new.right ≤ length old.right
slept_right P old new h =
    let e = ap (λ (l : List Goal). length l) h.next in
    let both = length-append h.passed new.right in
    omega arith

passed_right : (P : NamedProgram) (may : Bool) (old new : Held) (goal : Goal) (seen : Seen) → HasPassed P may old new goal seen
    → length new.right < length old.right
passed_right P may old new goal seen h = let e = ap (λ (l : List Goal). length l) h.next in omega arith

passed_left : (P : NamedProgram) (may : Bool) (old new : Held) (goal : Goal) (seen : Seen) → HasPassed P may old new goal seen
    → length new.left ≤ length old.left + 1
passed_left P may old new goal seen h =
    let e = ap (λ (l : List Goal). length l) h.passed in
    let both = length-append old.left (goal ∷ []) in
    omega arith

-- A goal was passed: on the way back the place of work is before it again.
pub fewer_passed : (P : NamedProgram) (may : Bool) (one two three four : Held) (way : Way) (goal : Goal) (seen : Seen)
    (heavy more : Option HeavyCall) → HasCome P way one two true → HasPassed P may two three goal seen
    → HasNoted way three four heavy more → turns_left way four < turns_left way one
fewer_passed P may one two three four Onward goal seen heavy more come passed (is, noted) =
    let a = slept_right P one two come.1 in
    let b = passed_right P may two three goal seen passed in
    let c = ap (λ (h : Held). length h.right) is in
    let moved = come_alike P Onward one two true come in
    let alike = passed.alike in
    let d = come.1 in
    let e = same_count one two d.alike in
    let f = same_count two three alike in
    let same : goal_count four ≡ goal_count three = ap (λ (h : Held). goal_count h) is in
    let limit : four.limit ≡ one.limit = ap (λ (h : Held). h.limit) is ∙ alike.limit ∙ moved.0 in
    let used : four.used ≡ one.used = ap (λ (h : Held). h.used) is ∙ alike.used ∙ moved.1 in
    omega arith
fewer_passed P may one two three four Back goal seen heavy more (m, before) passed (back, fewer) =
    let a = before refl in
    let b = passed_left P may two three goal seen passed in
    let c = moved_count one two m in
    let d = same_count two three passed.alike in
    let e = moved_count three four back in
    let alike = passed.alike in
    let limit : four.limit ≡ one.limit = back.limit ∙ alike.limit ∙ m.limit in
    let used : four.used ≡ one.used = back.used ∙ alike.used ∙ m.used in
    omega arith

-- Arithmetic was run, and the place of work may have been moved back by a goal.
pub fewer_ran : (P : NamedProgram) (one two three four : Held) (way : Way) → HasCome P way one two true → SameKey two three
    → HasProgressed two three × (three.used ≡ two.used) × (length three.right < length two.right)
    → IsMoved three four → length four.right ≤ length three.right + 1 → turns_left way four < turns_left way one
fewer_ran P one two three four Onward come same ((few, how), used, right) m near =
    let a = slept_right P one two come.1 in
    let b = come.1 in
    let c = same_count one two b.alike in
    let d = moved_count three four m in
    let moved = come_alike P Onward one two true come in
    let limits : four.limit ≡ one.limit = m.limit ∙ same.limit ∙ moved.0 in
    let uses : four.used ≡ one.used = m.used ∙ used ∙ moved.1 in
    elim how [ inl grew ↦ absurd (omega arith) | inr less ↦ (let e = less.1 in omega arith) ]
fewer_ran P one two three four Back (m, before) same ((few, how), used, right) back near =
    let c = moved_count one two m in
    let d = moved_count three four back in
    let limits : four.limit ≡ one.limit = back.limit ∙ same.limit ∙ m.limit in
    let uses : four.used ≡ one.used = back.used ∙ used ∙ m.used in
    elim how [ inl grew ↦ absurd (omega arith) | inr less ↦ (let a = less.1 in omega arith) ]

-- A call was reduced: there is less room.
less_room : (P : NamedProgram) (one two three : Held) (way : Way) → HasCome P way one two true → SameKey two three → three.used ≤ three.limit
    → two.used < three.used → room three + 1 ≤ room one
less_room P one two three way come same fits grew =
    let moved = come_alike P way one two true come in
    let limits = same.limit in
    let limit = moved.0 in
    let used = moved.1 in
    omega arith

pub fewer_reduced : (P : NamedProgram) (one two three : Held) (way : Way) → HasCome P way one two true → SameKey two three
    → three.used ≤ three.limit → two.used < three.used → AreFew three → turns_left way three < turns_left way one
fewer_reduced P one two three Onward come same fits grew few = let less = less_room P one two three Onward come same fits grew in omega arith
fewer_reduced P one two three Back come same fits grew few = let less = less_room P one two three Back come same fits grew in omega arith

-- The round turns back.
pub fewer_back : (P : NamedProgram) (one two three : Held) (way : Way) → HasCome P way one two true → three ≡ two → way ≡ Onward → AreFew three
    → turns_left Back three < turns_left way one
fewer_back P one two three way come is onward few =
    let moved = come_alike P way one two true come in
    let limit : three.limit ≡ one.limit = ap (λ (h : Held). h.limit) is ∙ moved.0 in
    let used : three.used ≡ one.used = ap (λ (h : Held). h.used) is ∙ moved.1 in
    let less : turns_left Back three < turns_left Onward one = omega arith in
    subst (λ (w : Way). turns_left Back three < turns_left w one) (sym onward) less
