-- Sleepers that are passed over, one after another, and gone back over.
use Rattle.std.proofs.Common.{◌≡◌, ◌<◌, ◌≤◌, ◌+◌, Bool, true, false, List, [], ◌∷◌, ◌++◌, length, append_assoc, length-append, refl, sym, ap, ◌∙◌, arith}
use Rattle.std.specs.Prelude.{All}
use Rattle.std.proofs.lemmas.List.{append-nil}
use Rattle.std.proofs.lemmas.List.Elements.{All-nil, All-push, All-cons}
use Rattle.and_model.specs.declared.reference.Ref.{Ref}
use Rattle.and_pending.specs.Pending.{Watched, Pending, Sleeps, HasPassedSleepers, HasGoneBack}

pub none_passed : (row : List Ref) (old : Pending) → HasPassedSleepers row old old
none_passed row old = record { passed = []; right = refl; left = sym (append-nil old.left); asleep = All-nil (Sleeps row) }

module _ (row : List Ref) (old now new : Pending) (w : Watched) (rest : List Watched) (next : now.right ≡ w ∷ rest)
    (passed : new ≡ record { left = now.left ++ w ∷ []; right = rest }) where
  pub one_passed : HasPassedSleepers row old now → Sleeps row w → HasPassedSleepers row old new
  one_passed is sleeps = record {
    passed = is.passed ++ w ∷ [];
    right = is.right
        ∙ ap (λ (ws : List Watched). is.passed ++ ws) next
        ∙ sym (append_assoc is.passed (w ∷ []) rest)
        ∙ ap (λ (p : Pending). (is.passed ++ w ∷ []) ++ p.right) (sym passed);
    left = ap (λ (p : Pending). p.left) passed
        ∙ ap (λ (ws : List Watched). ws ++ w ∷ []) is.left
        ∙ append_assoc old.left is.passed (w ∷ []);
    asleep = All-push (Sleeps row) is.passed w is.asleep sleeps;
  }

  pub fewer : length new.right < length now.right
  fewer =
      let many = ap (λ (ws : List Watched). length ws) next in
      let few = ap (λ (p : Pending). length p.right) passed in
      omega arith

-- Goals before the place of work were gone back over so far.
pub record IsGoneOver (row : List Ref) (old now : Pending) : Type 0 where
  pub passed : List Watched
  pub asleep : All (Sleeps row) passed
  pub left : old.left ≡ now.left ++ passed
  pub right : now.right ≡ passed ++ old.right

pub none_gone : (row : List Ref) (old : Pending) → IsGoneOver row old old
none_gone row old = record { passed = []; asleep = All-nil (Sleeps row); left = sym (append-nil old.left); right = refl }

module _ (row : List Ref) (old now : Pending) (is : IsGoneOver row old now) where
  pub same_goals : now.left ++ now.right ≡ old.left ++ old.right
  same_goals =
      ap (λ (ws : List Watched). now.left ++ ws) is.right ∙ sym (append_assoc now.left is.passed old.right)
      ∙ ap (λ (ws : List Watched). ws ++ old.right) (sym is.left)

  -- all
  pub gone_over_all : now.left ≡ [] → HasGoneBack row old now false
  gone_over_all none = record {
    passed = is.passed;
    asleep = is.asleep;
    one = λ e. absurd (cc);
    all = λ e. (
      is.left ∙ ap (λ (ws : List Watched). ws ++ is.passed) none,
      ap (λ (ws : List Watched). record { left = ws; right = now.right }) none
          ∙ ap (λ (ws : List Watched). record { left = []; right = ws }) is.right,
    );
  }

  module _ (new : Pending) (front : List Watched) (w : Watched) (last : now.left ≡ front ++ w ∷ [])
      (back : new ≡ record { left = front; right = w ∷ now.right }) where
    left_was : old.left ≡ new.left ++ w ∷ is.passed
    left_was =
        is.left ∙ ap (λ (ws : List Watched). ws ++ is.passed) last ∙ append_assoc front (w ∷ []) is.passed
        ∙ ap (λ (p : Pending). p.left ++ w ∷ is.passed) (sym back)

    right_is : new.right ≡ w ∷ is.passed ++ old.right
    right_is = ap (λ (p : Pending). p.right) back ∙ ap (λ (ws : List Watched). w ∷ ws) is.right

    pub fewer_left : length new.left < length now.left
    fewer_left =
        let many = ap (λ (ws : List Watched). length ws) last in
        let both = length-append front (w ∷ []) in
        let few = ap (λ (p : Pending). length p.left) back in
        omega arith

    pub no_more_left : length now.left ≤ length old.left
    no_more_left =
        let many = ap (λ (ws : List Watched). length ws) is.left in
        let both = length-append now.left is.passed in
        omega arith

    -- up to one,
    pub gone_back_to : HasGoneBack row old new true
    gone_back_to = record {
      passed = is.passed;
      asleep = is.asleep;
      one = λ e. (w, left_was, right_is);
      all = λ e. absurd (cc);
    }

    -- or over this one too
    pub gone_over : Sleeps row w → IsGoneOver row old new
    gone_over sleeps = record { passed = w ∷ is.passed; asleep = All-cons (Sleeps row) w is.passed sleeps is.asleep; left = left_was; right = right_is }

-- ---- Back by a goal at most

-- No goal is lost, and at most one more is ahead.
pub one_back_at_most : (old new : Pending) (there : Bool) → (there ≡ false → (old.left ≡ []) × (new ≡ old))
    → (there ≡ true → (front : List Watched) × (w : Watched) × (old.left ≡ front ++ w ∷ []) × (new ≡ record { left = front; right = w ∷ old.right }))
    → (new.left ++ new.right ≡ old.left ++ old.right) × (length new.right ≤ length old.right + 1)
one_back_at_most old new false none back =
    let is = (none refl).1 in
    let same = ap (λ (p : Pending). length p.right) is in
    (ap (λ (p : Pending). p.left ++ p.right) is, omega arith)
one_back_at_most old new true none back =
    let (front, w, last, is) = back refl in
    let one = ap (λ (p : Pending). length p.right) is in (
      ap (λ (p : Pending). p.left ++ p.right) is
          ∙ sym (append_assoc front (w ∷ []) old.right)
          ∙ ap (λ (l : List Watched). l ++ old.right) (sym last),
      omega arith,
    )
