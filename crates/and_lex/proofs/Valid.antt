-- Each text has a longest front that is UTF-8.
use Rattle.std.proofs.Common.{ℕ, zero, suc, ◌≡◌, ◌≤◌, Bool, true, false, true≢false, length, take, refl, sym, subst, ◌∙◌, arith, inl, inr}
use Rattle.std.specs.Prelude.{IsUtf8}
use Rattle.std.specs.Str.{IsValidUpTo, is_utf8}
use Rattle.std.proofs.lemmas.Str.{IsUtf8-from_is_utf8, is_utf8-from_IsUtf8, IsUtf8-nil}
use Rattle.std.proofs.lemmas.List.{take_all}
use Rattle.std.proofs.lemmas.Bool.{cases_lt}
use Rattle.and_model.specs.Lines.{Bytes}
use Rattle.and_language.specs.Tokens.{IsFront}

-- no front of that length or longer is UTF-8
abbrev NoneFrom : Bytes → ℕ → Type 0
NoneFrom bytes m = (k : ℕ) → m ≤ k → IsUtf8 (take k bytes) → ⊥

-- neither is the one that is a byte shorter
one_less : (bytes : Bytes) (m : ℕ) → NoneFrom bytes (suc m) → is_utf8 (take m bytes) ≡ false → NoneFrom bytes m
one_less bytes m none e k l u = elim (cases_lt m k) [
  | inl more ↦ none k (omega arith) u
  | inr less ↦
      let same : k ≡ m = omega arith in
      let v : IsUtf8 (take m bytes) = subst (λ (i : ℕ). IsUtf8 (take i bytes)) same u in
      true≢false (sym (is_utf8-from_IsUtf8 (take m bytes) v) ∙ e)
]

shorter : (bytes : Bytes) (m : ℕ) → m ≤ length bytes → NoneFrom bytes m → (n : ℕ) × IsValidUpTo bytes n
shorter bytes zero small none = absurd (none 0 (omega arith) IsUtf8-nil)
shorter bytes (suc m) small none = by (is_utf8 (take m bytes)) refl (λ f. shorter bytes m (omega arith) f)
  where
    by : (b : Bool) → is_utf8 (take m bytes) ≡ b → (NoneFrom bytes m → (n : ℕ) × IsValidUpTo bytes n) → (n : ℕ) × IsValidUpTo bytes n
    by true e next = (m, record { short = omega arith; front = IsUtf8-from_is_utf8 (take m bytes) e; longest = λ k l. none k (omega arith) })
    by false e next = next (one_less bytes m none e)

pub each_front : (bytes : Bytes) → (n : ℕ) × IsFront bytes n
each_front bytes = by (is_utf8 bytes) refl
  where
    by : (b : Bool) → is_utf8 bytes ≡ b → (n : ℕ) × IsFront bytes n
    by true e = (length bytes, inl (refl, IsUtf8-from_is_utf8 bytes e))
    by false e =
        let v = shorter bytes (length bytes) (omega arith) (λ k l u. true≢false (sym (is_utf8-from_IsUtf8 bytes (subst IsUtf8 (take_all k bytes l) u)) ∙ e)) in
        (v.0, inr v.1)
