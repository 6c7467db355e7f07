-- A clause ends with its End.
use Rattle.std.proofs.Common.{◌≡◌, ◌⊎◌, inl, inr, ℕ, Bool, true, false, true≢false, List, [], ◌∷◌, ◌++◌, Option, Some, refl, sym, ap, ◌∙◌, subst}
use Rattle.std.proofs.Common.{append_assoc, append-nil}
use Rattle.and_syntax.specs.Written.{Written}
use Rattle.and_language.specs.Words.{Word, Placed}
use Rattle.and_language.specs.Words as words
use Rattle.and_language.specs.Grammar.{Sort, Statement, IsText, CanGoOn}
use Rattle.and_language.specs.Refusals.{NoneEnds}
use Rattle.and_automaton.specs.Machine.{State, start, inside, opened_list, over, is_over, step, and_then, run, words_of}
use Rattle.and_automaton.proofs.Steps.{step_tells}
use Rattle.and_automaton.proofs.Accepted.{and_then_tells}
use Rattle.and_automaton.proofs.Derived.{clause_taken}
use Rattle.and_automaton.proofs.Texts.{none_ends}
use Rattle.and_automaton.proofs.Begun.{goes_on_begun}

abbrev pub is_end : Word → Bool
is_end (words.variable x) = false
is_end (words.integer z) = false
is_end (words.name c) = false
is_end (words.quoted c) = false
is_end (words.minus b) = false
is_end (words.open_bracket b) = false
is_end words.close_bracket = false
is_end words.open_list = false
is_end words.close_list = false
is_end words.open_brace = false
is_end words.close_brace = false
is_end words.comma = false
is_end words.semicolon = false
is_end words.bar = false
is_end words.end = true

not_end : (x : Word) → is_end x ≡ false → x ≡ words.end → ⊥
not_end x other is = true≢false (sym (ap is_end is) ∙ other)

-- the words before the last, and that
pub last_of : (p : Placed) (ps : List Placed) → (front : List Placed) × (last : Placed) × (p ∷ ps ≡ front ++ last ∷ [])
last_of p [] = ([], p, refl)
last_of p (q ∷ ps) = let r = last_of q ps in (p ∷ r.0, r.1, (λ i. p ∷ r.2 i))

some_same : (s t : State) → ◌≡◌ {A = Option State} (Some s) (Some t) → s ≡ t
some_same s t e = cc

run_last : (s t : State) (ps : List Placed) (p : Placed) → run true s (words_of (ps ++ p ∷ [])) ≡ Some t
    → (u : State) × (run true s (words_of ps) ≡ Some u) × (step true u p.word ≡ Some t)
run_last s t [] p e =
    let (u, first, more) = and_then_tells (step true s p.word) (λ z. run true z []) t e in
    let same : u ≡ t = some_same u t more in
    (s, refl, first ∙ ap (λ z. Some z) same)
run_last s t (q ∷ ps) p e =
    let (u, first, more) = and_then_tells (step true s q.word) (λ z. run true z (words_of (ps ++ p ∷ []))) t e in
    let r = run_last u t ps p more in
    (r.0, ap (λ o. and_then o (λ z. run true z (words_of ps))) first ∙ r.1, r.2)

over_stops : (s t : State) (x : Word) → step true s x ≡ Some t → is_over s ≡ false
over_stops start t x e = refl
over_stops (inside l fs p m) t x e = refl
over_stops (opened_list l fs p) t x e = refl
over_stops (over q w) t x e = absurd (let told = (step_tells true (over q w) x t e).1 in cc)

none_more : (ps : List Placed) (p : Placed) → NoneEnds ps → (p.word ≡ words.end → ⊥) → NoneEnds (ps ++ p ∷ [])
none_more [] p none other = (other, tt)
none_more (q ∷ ps) p none other = (none.0, none_more ps p none.1 other)

pub last_ends : (front : List Placed) (last : Placed) (q : Sort) (w : Written) (place : ℕ) → run true start (words_of (front ++ last ∷ [])) ≡ Some (over q w)
    → IsText true (front ++ last ∷ []) (record { sort = q; term = w; place = place } ∷ []) → is_end last.word ≡ true
last_ends front last q w place ran text = by (is_end last.word) refl
  where
    by : (b : Bool) → is_end last.word ≡ b → b ≡ true
    by true e = refl
    by false e =
        let r = run_last start (over q w) front last ran in
        let none = none_more front last (none_ends true start r.0 front r.1 (over_stops r.0 (over q w) last.word r.2)) (not_end last.word e) in
        let goes : CanGoOn true (front ++ last ∷ []) = (
          [],
          record { sort = q; term = w; place = place } ∷ [],
          subst (λ ps. IsText true ps (record { sort = q; term = w; place = place } ∷ []))
              (sym (append-nil (front ++ last ∷ []))) text,
        ) in
        let still = goes_on_begun true [] (front ++ last ∷ []) [] IsText.nothing none goes in
        let same = some_same still.0 (over q w) (sym still.1 ∙ ran) in
        absurd (true≢false (ap is_over (sym same) ∙ still.2))

-- so does a text, where it has a clause
abbrev pub EndsSo : List Placed → Type 0
EndsSo ps = (front : List Placed) × (last : Placed) × (ps ≡ front ++ last ∷ []) × (is_end last.word ≡ true)

pub text_ends : {ps : List Placed} {ss : List Statement} → IsText true ps ss → (ps ≡ []) ⊎ EndsSo ps
text_ends IsText.nothing = inl refl
text_ends (IsText.statement first others rest whole q w ss is clause text) = elim (text_ends text) [
  | inl none ↦
      let l = last_of first others in
      let alone : IsText true (first ∷ others) (record { sort = q; term = w; place = first.place } ∷ []) =
      IsText.statement first others [] (first ∷ others) q w [] (sym (append-nil (first ∷ others))) clause IsText.nothing in
      let ends = last_ends l.0 l.1 q w first.place (subst (λ us. run true start (words_of us) ≡ Some (over q w)) l.2 (clause_taken true clause))
      (subst (λ us. IsText true us (record { sort = q; term = w; place = first.place } ∷ [])) l.2 alone) in
      inr (l.0, l.1, is ∙ ap (λ us. (first ∷ others) ++ us) none ∙ append-nil (first ∷ others) ∙ l.2, ends)
  | inr e ↦
      inr ((first ∷ others) ++ e.0, e.1, is ∙ ap (λ us. (first ∷ others) ++ us) e.2 ∙ sym (append_assoc (first ∷ others) e.0 (e.1 ∷ [])), e.3)
]
