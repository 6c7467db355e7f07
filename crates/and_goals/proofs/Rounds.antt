-- Ways to other deques are dealt in rounds, and gathered in rounds.
use Rattle.std.proofs.Common.{◌≡◌, ◌≢◌, ℕ, suc, ◌+◌, ◌-◌, ◌<◌, ◌≤◌, inl, inr, List, length, get_or, sym, ap, ◌∙◌, subst, arith}
use Rattle.std.proofs.lemmas.Bool.{cases_eq, cases_lt}
use Rattle.and_goals.specs.Hands.{HandSeen, OtherSeen, IsFurther, IsDealt}

-- no two places are as far before one
pub same_source : (n further i j p : ℕ) → i < n → j < n → IsFurther n i further p → IsFurther n j further p → i ≡ j
same_source n further i j p below below' one two = elim one.1 [
  | inl a ↦ elim two.1 [ inl b ↦ omega arith | inr b ↦ absurd (omega arith) ]
  | inr a ↦ elim two.1 [ inl b ↦ absurd (omega arith) | inr b ↦ omega arith ]
]

pub same_target : (n further i p q : ℕ) → IsFurther n i further p → IsFurther n i further q → p ≡ q
same_target n further i p q one two =
    let x = one.0 in
    let y = two.0 in
    elim one.1 [
      | inl a ↦ elim two.1 [ inl b ↦ omega arith | inr b ↦ absurd (omega arith) ]
      | inr a ↦ elim two.1 [ inl b ↦ absurd (omega arith) | inr b ↦ omega arith ]
    ]

-- each place is so far behind one
pub source : (n further p : ℕ) → p < n → suc further < n → (i : ℕ) × (i < n) × IsFurther n i further p
source n further p below few = elim (cases_lt further p) [
  | inl more ↦ (p - suc further, omega arith, (below, inl (omega arith)))
  | inr less ↦ (p + n - suc further, omega arith, (below, inr (omega arith)))
]

-- In a round, the hands before this place know `after` others and those from it on `before`; so for the deques that they are dealt.
pub record Between (n further after before place : ℕ) (hs : List HandSeen) : Type 0 where
  pub len : length hs ≡ n
  pub given : (i p : ℕ) (d : HandSeen) → i < place → i < n → IsFurther n i further p → (get_or hs p d).own.parts + after ≡ 8
  pub kept : (i p : ℕ) (d : HandSeen) → place ≤ i → i < n → IsFurther n i further p → (get_or hs p d).own.parts + before ≡ 8
  pub done : (p : ℕ) (d : HandSeen) → p < place → p < n → length (get_or hs p d).others ≡ after
  pub due : (p : ℕ) (d : HandSeen) → place ≤ p → p < n → length (get_or hs p d).others ≡ before
  pub others : (p : ℕ) (d : HandSeen) → p < n → (q to : ℕ) (o : OtherSeen) → q < length (get_or hs p d).others → IsFurther n p q to
      → (get_or (get_or hs p d).others q o).deque ≡ (get_or hs to d).deque

pub round_begins : (n further after before : ℕ) (hs : List HandSeen) → length hs ≡ n → IsDealt before hs → Between n further after before 0 hs
round_begins n further after before hs len dealt = record {
  len = len;
  given = λ i p d none. absurd (omega arith);
  kept = λ i p d from below is. dealt.parts p d (subst (λ m. p < m) (sym len) is.0);
  done = λ p d none. absurd (omega arith);
  due = λ p d from below. dealt.count p d (subst (λ m. p < m) (sym len) below);
  others = λ p d below q to o q_below is.
      let below' = subst (λ m. p < m) (sym len) below in
      let count = dealt.count p d below' in
      dealt.others p d below' q to o (omega arith) (subst (λ m. IsFurther m p q to) (sym len) is);
}

pub round_ends : (n further after before place : ℕ) (hs : List HandSeen) → suc further < n → n ≤ place → Between n further after before place hs
    → IsDealt after hs
round_ends n further after before place hs few all b = record {
  parts = λ p d below. (let from = source n further p (subst (λ m. p < m) b.len below) few in let i_below = from.1 in
      b.given from.0 p d (omega arith) from.1 from.2);
  count = λ p d below. (let here = subst (λ m. p < m) b.len below in b.done p d (omega arith) here);
  others = λ p d below q to o q_below is.
      let here = subst (λ m. p < m) b.len below in
      let count = b.done p d (omega arith) here in
      b.others p d here q to o (omega arith) (subst (λ m. IsFurther m p q to) b.len is);
}

-- One hand had its turn with one deque, and all else is as it was.
pub record Turned (n after place of : ℕ) (hs ks : List HandSeen) : Type 0 where
  pub len : length ks ≡ n
  pub deques : (p : ℕ) (d : HandSeen) → p < n → (get_or ks p d).deque ≡ (get_or hs p d).deque
  pub parts : (d : HandSeen) → (get_or ks of d).own.parts + after ≡ 8
  pub parts_kept : (p : ℕ) (d : HandSeen) → p < n → p ≢ of → (get_or ks p d).own.parts ≡ (get_or hs p d).own.parts
  pub count : (d : HandSeen) → length (get_or ks place d).others ≡ after
  pub others : (d : HandSeen) (q to : ℕ) (o : OtherSeen) → q < after → IsFurther n place q to
      → (get_or (get_or ks place d).others q o).deque ≡ (get_or hs to d).deque
  pub others_kept : (p : ℕ) (d : HandSeen) → p < n → p ≢ place → (get_or ks p d).others ≡ (get_or hs p d).others

pub round_goes_on : (n further after before place of : ℕ) (hs ks : List HandSeen) → place < n → suc further < n → IsFurther n place further of
    → Between n further after before place hs → Turned n after place of hs ks → Between n further after before (place + 1) ks
round_goes_on n further after before place of hs ks below few to_of b t = record {
  len = t.len;
  given = λ i p d early i_below is. elim (cases_eq i place) [
    | inl now ↦ (
        let p_is : p ≡ of = same_target n further place p of (subst (λ j. IsFurther n j further p) now is) to_of in
        subst (λ j. (get_or ks j d).own.parts + after ≡ 8) (sym p_is) (t.parts d)
        )
    | inr other ↦ (
        let apart : p ≢ of = λ p_is. other (same_source n further i place p i_below below is (subst (IsFurther n place further) (sym p_is) to_of)) in
        let kept = t.parts_kept p d is.0 apart in
        let was = b.given i p d (before_now i early other) i_below is in
        omega arith
        )
  ];
  kept = λ i p d from i_below is.
      let apart : p ≢ of = λ p_is. (let s = same_source n further i place p i_below below is (subst (IsFurther n place further) (sym p_is) to_of) in
      absurd (omega arith)) in
      let kept = t.parts_kept p d is.0 apart in
      let was = b.kept i p d (omega arith) i_below is in
      omega arith;
  done = λ p d early p_below. elim (cases_eq p place) [
    | inl now ↦ subst (λ j. length (get_or ks j d).others ≡ after) (sym now) (t.count d)
    | inr other ↦ ap (λ os. length os) (t.others_kept p d p_below other) ∙ b.done p d (before_now p early other) p_below
  ];
  due = λ p d from p_below. ap (λ os. length os) (t.others_kept p d p_below (λ now. absurd (omega arith))) ∙ b.due p d (omega arith) p_below;
  others = λ p d p_below q to o q_below is. others_at p d p_below q to o q_below is;
}
  where
    before_now : (i : ℕ) → i < place + 1 → (i ≡ place → ⊥) → i < place
    before_now i early other = elim (cases_lt i place) [ inl less ↦ less | inr from ↦ absurd (other (omega arith)) ]

    others_at : (p : ℕ) (d : HandSeen) → p < n → (q to : ℕ) (o : OtherSeen) → q < length (get_or ks p d).others → IsFurther n p q to
        → (get_or (get_or ks p d).others q o).deque ≡ (get_or ks to d).deque
    others_at p d p_below q to o q_below is = elim (cases_eq p place) [
      | inl now ↦ (
          let count : length (get_or ks p d).others ≡ after = subst (λ j. length (get_or ks j d).others ≡ after) (sym now) (t.count d) in
          subst (λ j. (get_or (get_or ks j d).others q o).deque ≡ (get_or ks to d).deque) (sym now)
          (t.others d q to o (omega arith) (subst (λ j. IsFurther n j q to) now is) ∙ sym (t.deques to d is.0))
          )
      | inr other ↦ (
          let kept = t.others_kept p d p_below other in
          let q_was : q < length (get_or hs p d).others = subst (λ os. q < length os) kept q_below in
          ap (λ os. (get_or os q o).deque) kept ∙ b.others p d p_below q to o q_was is ∙ sym (t.deques to d is.0)
          )
    ]
