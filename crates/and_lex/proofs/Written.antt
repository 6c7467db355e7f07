-- The bytes of a token, in the text.
use Rattle.std.proofs.Common.{ℕ, ◌+◌, ◌-◌, ◌≡◌, Bool, ltb, ◌++◌, length, take, drop, refl, sym, ap, subst, ◌∙◌, arith, inl, inr}
use Rattle.std.proofs.lemmas.List.{length-append, length-take, length-drop, take_at, drop_at, drop-drop, drop-take, take-take, nil_from_length}
use Rattle.std.proofs.lemmas.Bool.{cases_lt}
use Rattle.and_model.specs.Lines.{Bytes}
use Rattle.and_language.specs.Tokens.{Token, Answer, one, Next, finished, read, stopped, Comes, IsToken}
use Rattle.and_language.specs.Words.{bytes_of}
use Rattle.and_lex.proofs.Completeness.{one_is}

-- a part of a front is a part of the whole, or is empty
part_of_front : (bytes g w rest : Bytes) (n p : ℕ) → drop p (take n bytes) ≡ g ++ (w ++ rest) → take (length w) (drop (p + length g) bytes) ≡ w
part_of_front bytes g w rest n p e =
    let i = p + length g in
    let k = length w in
    let sizes : length (take n bytes) - p ≡ length g + (length w + length rest) =
    sym (length-drop p (take n bytes)) ∙ ap length e ∙ length-append g (w ++ rest) ∙ ap (λ (m : ℕ). length g + m) (length-append w rest) in
    let behind : drop i (take n bytes) ≡ w ++ rest = sym (drop-drop (length g) p (take n bytes)) ∙ ap (drop (length g)) e
    ∙ drop_at g (w ++ rest) (length g) refl in
    elim (cases_lt n (i + k)) [
      | inl l ↦
          let none : k ≡ 0 = omega (arith, sizes, length-take n bytes) in
          ap (λ (m : ℕ). take m (drop i bytes)) none ∙ sym (nil_from_length w none)
      | inr l ↦
          sym (drop-take i k bytes) ∙ ap (drop i) (sym (take-take (i + k) n bytes l)) ∙ drop-take i k (take n bytes) ∙ ap (take k) behind
          ∙ take_at w rest k refl
    ]

written_next : (bytes : Bytes) (cut : Bool) (n p : ℕ) {a : Answer} → Next cut p (drop p (take n bytes)) a → (t : Token) → a ≡ one t
    → (rest : Bytes) × IsToken cut t.kind (bytes_of bytes t) rest
written_next bytes cut n p (finished s c) t e = absurd cc
written_next bytes cut n p (stopped g rest f w s sep h) t e = absurd cc
written_next bytes cut n p (read g w rest k whole s sep h) t e =
    let P : Token → Type 0 = λ u. (r : Bytes) × IsToken cut u.kind (bytes_of bytes u) r in
    let size : p + length g + length w - (p + length g) ≡ length w = omega arith in
    let same : take (p + length g + length w - (p + length g)) (drop (p + length g) bytes) ≡ w =
    ap (λ (m : ℕ). take m (drop (p + length g) bytes)) size ∙ part_of_front bytes g w rest n p whole in
    subst P (one_is _ t e) (rest, subst (λ (x : Bytes). IsToken cut k x rest) (sym same) h)

pub written : (bytes : Bytes) (p : ℕ) (t : Token) → Comes bytes p (one t) → (cut : Bool) × (rest : Bytes) × IsToken cut t.kind (bytes_of bytes t) rest
written bytes p t h =
    let w = written_next bytes (ltb h.0 (length bytes)) h.0 p h.2 t refl in
    (ltb h.0 (length bytes), w.0, w.1)
