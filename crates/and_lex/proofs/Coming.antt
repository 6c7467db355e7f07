-- From each place of a text something comes next.
use Rattle.std.proofs.Common.{ℕ, zero, suc, ◌+◌, ◌≡◌, ◌≤◌, ◌<◌, Bool, true, ltb, [], ◌∷◌, ◌++◌, length, take, drop, refl, sym, ap, subst, ◌∙◌, arith, inl, inr}
use Rattle.std.proofs.lemmas.List.{take-append-drop, append-nil, length-append, length-take, length-drop, drop_all}
use Rattle.std.proofs.lemmas.Bool.{cases_lt}
use Rattle.and_model.specs.Lines.{Bytes}
use Rattle.and_language.specs.Tokens.{Kind, variable, name, quoted, symbol, integer, open_bracket, close_bracket, open_list, close_list, open_brace}
use Rattle.and_language.specs.Tokens.{close_brace, comma, semicolon, bar, end_of_clause, Separates, is_separated, is_some, Answer, no_more, one, none_for}
use Rattle.and_language.specs.Tokens.{Next, finished, read, stopped, IsFront, Comes, IsToken}
use Rattle.and_language.specs.Tokens as tokens
use Rattle.and_lex.specs.Scanning.{Found, end_of_text, one_token, one_fault, piece_len, found_at}
use Rattle.and_lex.proofs.Separators.{gap_more, separated_where_none}
use Rattle.and_lex.proofs.Soundness.{IsFound, found_sound}

-- the first bytes are a whole gap
abbrev Gap : Bytes → Type 0
Gap bs = (i : ℕ) × Separates (take i bs) (drop i bs) × (is_separated (drop i bs) ≡ true)

gap_from : (bs : Bytes) (bound i : ℕ) → i ≤ length bs → length bs < i + bound → Separates (take i bs) (drop i bs) → Gap bs
gap_from bs zero i small enough s = absurd (omega arith)
gap_from bs (suc bound) i small enough s = by (piece_len (drop i bs)) refl (λ j l m. gap_from bs bound j l m)
  where
    by : (n : ℕ) → n ≡ piece_len (drop i bs) → ((j : ℕ) → j ≤ length bs → length bs < j + bound → Separates (take j bs) (drop j bs) → Gap bs) → Gap bs
    by zero e next = (i, s, separated_where_none (drop i bs) (sym e))
    by (suc n) e next =
        let more = gap_more bs i (suc n) small e s in
        elim (cases_lt (length bs) (i + suc n)) [
          | inl l ↦ (i + suc n, more, ap is_separated (drop_all (i + suc n) bs (omega arith)))
          | inr l ↦ next (i + suc n) l (omega arith) more
        ]

each_gap : (bs : Bytes) → Gap bs
each_gap bs = gap_from bs (suc (length bs)) 0 (omega arith) (omega arith) (tokens.nothing bs)

-- what comes where that is found behind a gap
of_found : (cut : Bool) (p : ℕ) (g r bs : Bytes) → bs ≡ g ++ r → Separates g r → is_separated r ≡ true → (f : Found) → IsFound cut (p + length g) r f
    → (a : Answer) × Next cut p bs a
of_found cut p g r bs e s sep end_of_text h =
    let whole : bs ≡ g = e ∙ ap (λ (x : Bytes). g ++ x) h.0 ∙ append-nil g in
    (no_more, finished (subst (λ (x : Bytes). Separates x []) (sym whole) (subst (Separates g) h.0 s)) h.1)
of_found cut p g r bs e s sep (one_token k n) h =
    let split : r ≡ take n r ++ drop n r = sym (take-append-drop n r) in (
      one (record { kind = k; start = p + length g; end = p + length g + length (take n r); layout_before = is_some g }),
      read g (take n r) (drop n r) k (e ∙ ap (λ (x : Bytes). g ++ x) split) (subst (Separates g) split s) (sym (ap is_separated split) ∙ sep) h,
    )
of_found cut p g r bs e s sep (one_fault f) h = (none_for f, stopped g r f e s sep h)

each_next : (cut : Bool) (p : ℕ) (bs : Bytes) → (a : Answer) × Next cut p bs a
each_next cut p bs =
    let g = each_gap bs in
    let place = p + length (take g.0 bs) in
    of_found cut p (take g.0 bs) (drop g.0 bs) bs (sym (take-append-drop g.0 bs)) g.1 g.2 (found_at cut place (drop g.0 bs))
    (found_sound cut place (drop g.0 bs) g.2)

-- a token has bytes
some_bytes : (cut : Bool) (k : Kind) (t rest : Bytes) → IsToken cut k t rest → 0 < length t
some_bytes cut k (b ∷ t) rest h = omega arith
some_bytes cut variable [] rest h = absurd (cc h.0)
some_bytes cut name [] rest h = absurd (cc h.0)
some_bytes cut quoted [] rest h = absurd (cc h.0.1.1)
some_bytes cut symbol [] rest h = absurd (cc h.0)
some_bytes cut (integer z) [] rest h = absurd (cc h.0)
some_bytes cut open_bracket [] rest h = absurd (cc h)
some_bytes cut close_bracket [] rest h = absurd (cc h)
some_bytes cut open_list [] rest h = absurd (cc h)
some_bytes cut close_list [] rest h = absurd (cc h)
some_bytes cut open_brace [] rest h = absurd (cc h)
some_bytes cut close_brace [] rest h = absurd (cc h)
some_bytes cut comma [] rest h = absurd (cc h)
some_bytes cut semicolon [] rest h = absurd (cc h)
some_bytes cut bar [] rest h = absurd (cc h)
some_bytes cut end_of_clause [] rest h = absurd (cc h.0)

-- if a token comes, it ends behind the one place and up to the other
abbrev pub EndsBetween : ℕ → ℕ → Answer → Type 0
EndsBetween low high no_more = Unit {0}
EndsBetween low high (one t) = (low < t.end) × (t.end ≤ high)
EndsBetween low high (none_for f) = Unit {0}

next_ends : (cut : Bool) (p : ℕ) (bs : Bytes) {a : Answer} → Next cut p bs a → EndsBetween p (p + length bs) a
next_ends cut p bs (finished s c) = tt
next_ends cut p bs (read g t rest k e s sep h) =
    let some = some_bytes cut k t rest h in
    (omega arith, omega (arith, ap length e, length-append g (t ++ rest), length-append t rest))
next_ends cut p bs (stopped g rest f e s sep h) = tt

ends_lower : (low high higher : ℕ) (a : Answer) → high ≤ higher → EndsBetween low high a → EndsBetween low higher a
ends_lower low high higher no_more l e = tt
ends_lower low high higher (one t) l e = (e.0, omega (arith, e.1))
ends_lower low high higher (none_for f) l e = tt

pub each_place : (bytes : Bytes) (n : ℕ) → IsFront bytes n → (p : ℕ) → p ≤ n → (a : Answer) × Comes bytes p a × EndsBetween p n a
each_place bytes n front p small =
    let bs : Bytes = drop p (take n bytes) in
    let cut : Bool = ltb n (length bytes) in
    let next = each_next cut p bs in
    let within : p + length bs ≤ n = omega (arith, length-drop p (take n bytes), length-take n bytes) in
    (next.0, (n, front, next.1), ends_lower p (p + length bs) n next.0 within (next_ends cut p bs next.1))
