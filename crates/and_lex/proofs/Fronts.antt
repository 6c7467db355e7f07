-- The longest front of bytes of one sort.
use Rattle.std.proofs.Common.{ℕ, suc, ◌≡◌, Bool, true, false, [], ◌∷◌, ◌++◌, length, take, drop, refl, sym, ap, ◌∙◌, one-add}
use Rattle.std.specs.List.{prefix_len}
use Rattle.std.proofs.lemmas.List.{take-append-drop}
use Rattle.and_model.specs.Lines.{Bytes, holds_of_all}
use Rattle.and_language.specs.Tokens.{begins}
use Rattle.and_lex.proofs.Choices.{and_true}

abbrev pub front : (ℕ → Bool) → Bytes → Bytes
front p bs = take (prefix_len p bs) bs

abbrev pub behind : (ℕ → Bool) → Bytes → Bytes
behind p bs = drop (prefix_len p bs) bs

pub len_more : (p : ℕ → Bool) (b : ℕ) (bs : Bytes) → p b ≡ true → prefix_len p (b ∷ bs) ≡ suc (prefix_len p bs)
len_more p b bs e = rw (e, one-add) refl

len_none : (p : ℕ → Bool) (b : ℕ) (bs : Bytes) → p b ≡ false → prefix_len p (b ∷ bs) ≡ 0
len_none p b bs e = rw e refl

pub front_more : (p : ℕ → Bool) (b : ℕ) (bs : Bytes) → p b ≡ true → front p (b ∷ bs) ≡ b ∷ front p bs
front_more p b bs e = ap (λ (n : ℕ). take n (b ∷ bs)) (len_more p b bs e)

pub behind_more : (p : ℕ → Bool) (b : ℕ) (bs : Bytes) → p b ≡ true → behind p (b ∷ bs) ≡ behind p bs
behind_more p b bs e = ap (λ (n : ℕ). drop n (b ∷ bs)) (len_more p b bs e)

front_none : (p : ℕ → Bool) (b : ℕ) (bs : Bytes) → p b ≡ false → front p (b ∷ bs) ≡ []
front_none p b bs e = ap (λ (n : ℕ). take n (b ∷ bs)) (len_none p b bs e)

behind_none : (p : ℕ → Bool) (b : ℕ) (bs : Bytes) → p b ≡ false → behind p (b ∷ bs) ≡ b ∷ bs
behind_none p b bs e = ap (λ (n : ℕ). drop n (b ∷ bs)) (len_none p b bs e)

pub parts : (p : ℕ → Bool) (bs : Bytes) → bs ≡ front p bs ++ behind p bs
parts p bs = sym (take-append-drop (prefix_len p bs) bs)

pub all_front : (p : ℕ → Bool) (bs : Bytes) → holds_of_all p (front p bs) ≡ true
all_front p [] = refl
all_front p (b ∷ bs) =
    let P : Bool → Type 0 = λ v. p b ≡ v → holds_of_all p (front p (b ∷ bs)) ≡ true in
    elim (p b) as P [
      | true ↦ λ e. rw (front_more p b bs e, e) (all_front p bs)
      | false ↦ λ e. rw (front_none p b bs e) refl
    ] refl

pub none_behind : (p : ℕ → Bool) (bs : Bytes) → begins p (behind p bs) ≡ false
none_behind p [] = refl
none_behind p (b ∷ bs) =
    let P : Bool → Type 0 = λ v. p b ≡ v → begins p (behind p (b ∷ bs)) ≡ false in
    elim (p b) as P [
      | true ↦ λ e. rw (behind_more p b bs e) (none_behind p bs)
      | false ↦ λ e. rw (behind_none p b bs e) e
    ] refl

-- such bytes, and behind them none
pub len_is : (p : ℕ → Bool) (xs rest : Bytes) → holds_of_all p xs ≡ true → begins p rest ≡ false → prefix_len p (xs ++ rest) ≡ length xs
len_is p [] [] h e = refl
len_is p [] (b ∷ rest) h e = len_none p b rest e
len_is p (x ∷ xs) rest h e =
    let a = and_true (p x) (holds_of_all p xs) h in
    len_more p x (xs ++ rest) a.0 ∙ ap suc (len_is p xs rest a.1 e)
