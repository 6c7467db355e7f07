-- Tokens of texts that begin with the same bytes.
use Rattle.std.proofs.Common.{ℕ, zero, suc, ◌+◌, ◌-◌, ◌≡◌, ◌≢◌, ◌≤◌, ◌<◌, ◌⊎◌, Bool, true, false, not, true≢false, ltb, nat_eq, ◌&&◌, ◌||◌, List, [], ◌∷◌}
use Rattle.std.proofs.Common.{◌++◌, length, take, drop, get_or, refl, sym, ap, subst, ◌∙◌, arith, inl, inr}
use Rattle.std.proofs.lemmas.Bool.{eqb-true, cases_lt}
use Rattle.std.proofs.lemmas.List.{length-append, length-take, length-drop, take-take, drop-take, drop-drop}
use Rattle.std.proofs.Math.Seq.{drop-append-add, drop-append_seam}
use Rattle.std.proofs.lemmas.Str.{utf8_valid_len-IsUtf8, utf8_valid_len-IsValidUpTo}
use Rattle.std.specs.Str.Lossy.{utf8_valid_len}
use Rattle.and_model.specs.Lines.{Bytes, is_word, is_small, is_symbol, begins_comment}
use Rattle.and_language.specs.Tokens.{Kind, variable, name, quoted, symbol, integer, open_bracket, close_bracket, open_list, close_list, open_brace}
use Rattle.and_language.specs.Tokens.{close_brace, comma, semicolon, bar, end_of_clause}
use Rattle.and_language.specs.Tokens.{Token, Answer, no_more, one, none_for, begins, is_capital, is_digit, is_layout, is_newline, closes_comment, Separates}
use Rattle.and_language.specs.Tokens.{is_separated, is_some, IsToken, goes_on, Next, finished, read, stopped, IsFront, Comes, HasTokens, no_token, token}
use Rattle.and_language.specs.Tokens as tokens
use Rattle.and_beginnings.specs.Beginnings.{behind, is_point, IsValidTo, AreAlike}

nothing_is : (x : ℕ) (xs : Bytes) → x ∷ xs ≡ [] → ⊥
nothing_is x xs e = cc

-- ---- what is shared

-- where the first bytes of the one list are xs, so they are of the other
shared : (xs rest ys : Bytes) (j : ℕ) → take j (xs ++ rest) ≡ take j ys → length xs ≤ j
    → (more : Bytes) × (ys ≡ xs ++ more) × (take (j - length xs) rest ≡ take (j - length xs) more)
shared [] rest ys j e l = let all : j ≡ j - 0 = omega arith in (ys, refl, subst (λ n. take n rest ≡ take n ys) all e)
shared (x ∷ xs) rest ys zero e l = absurd (omega (arith, l))
shared (x ∷ xs) rest [] (suc j) e l = absurd (nothing_is x (take j (xs ++ rest)) e)
shared (x ∷ xs) rest (y ∷ ys) (suc j) e l =
    let first : x ≡ y = cc in
    let others : take j (xs ++ rest) ≡ take j ys = cc in
    let s = shared xs rest ys j others (omega (arith, l)) in
    let left : j - length xs ≡ suc j - suc (length xs) = omega arith in
    (s.0, (λ i. sym first i ∷ s.1 i), subst (λ n. take n rest ≡ take n s.0) left s.2)

-- one byte is shared, or two
one_shared : (b : ℕ) (r ys : Bytes) (i : ℕ) → 0 < i → take i (b ∷ r) ≡ take i ys → (q : Bytes) × (ys ≡ b ∷ q)
one_shared b r ys zero l e = absurd (omega (arith, l))
one_shared b r [] (suc i) l e = absurd (nothing_is b (take i r) e)
one_shared b r (y ∷ ys) (suc i) l e = let first : y ≡ b = cc in (ys, (λ k. first k ∷ ys))

two_shared : (b : ℕ) (r q : Bytes) (i : ℕ) → 1 < i → take i (b ∷ r) ≡ take i (b ∷ q) → goes_on (b ∷ q) ≡ goes_on (b ∷ r)
two_shared b r q zero l e = absurd (omega (arith, l))
two_shared b r q (suc zero) l e = absurd (omega (arith, l))
two_shared b [] [] (suc (suc i)) l e = refl
two_shared b [] (d ∷ q) (suc (suc i)) l e = absurd cc
two_shared b (c ∷ r) [] (suc (suc i)) l e = absurd cc
two_shared b (c ∷ r) (d ∷ q) (suc (suc i)) l e = let same : d ≡ c = cc in (λ k. goes_on (b ∷ same k ∷ q))

and_none : (a b : Bool) → a ≡ false → (a && b) ≡ false
and_none a b e = rw e refl

no_point_shared : (b : ℕ) (r q : Bytes) → is_point b ≡ false → goes_on (b ∷ q) ≡ goes_on (b ∷ r)
no_point_shared b r q e =
    let here = and_none (nat_eq b 46) (begins is_digit q) e in
    let there = and_none (nat_eq b 46) (begins is_digit r) e in
    (λ i. is_word b || nat_eq b 39 || (here ∙ sym there) i)

-- ---- layout and comments before a token

begins_behind : (p : ℕ → Bool) (gap : Bytes) (b : ℕ) (r q : Bytes) → begins p (gap ++ b ∷ r) ≡ begins p (gap ++ b ∷ q)
begins_behind p [] b r q = refl
begins_behind p (g ∷ gap) b r q = refl

not_nothing : (gap : Bytes) (b : ℕ) (r : Bytes) → gap ++ b ∷ r ≡ [] → ⊥
not_nothing [] b r e = cc
not_nothing (g ∷ gap) b r e = cc

separates_alike : (b : ℕ) (r q : Bytes) {gap rest : Bytes} → Separates gap rest → rest ≡ b ∷ r → Separates gap (b ∷ q)
separates_alike b r q (tokens.nothing rest) e = tokens.nothing (b ∷ q)
separates_alike b r q (tokens.layout g gap rest is s) e = tokens.layout g gap (b ∷ q) is (separates_alike b r q s e)
separates_alike b r q (tokens.line_comment c gap rest whole is none (inl ended) s) e =
    absurd (not_nothing gap b r (ap (λ x. gap ++ x) (sym e) ∙ ended))
separates_alike b r q (tokens.line_comment c gap rest whole is none (inr newline) s) e =
    let line : begins is_newline (gap ++ b ∷ q) ≡ true =
    begins_behind is_newline gap b q r ∙ ap (λ x. begins is_newline (gap ++ x)) (sym e) ∙ newline in
    tokens.line_comment c gap (b ∷ q) whole is none (inr line) (separates_alike b r q s e)
separates_alike b r q (tokens.comment c gap rest whole is none s) e =
    tokens.comment c gap (b ∷ q) whole is none (separates_alike b r q s e)

-- ---- a token

-- a token has bytes
no_bytes : (cut : Bool) (k : Kind) (rest : Bytes) → IsToken cut k [] rest → ⊥
no_bytes cut variable rest h = cc h.0
no_bytes cut name rest h = cc h.0
no_bytes cut quoted rest h = cc h.0.1.1
no_bytes cut symbol rest h = cc h.0
no_bytes cut (integer z) rest h = cc h.0
no_bytes cut open_bracket rest h = cc h
no_bytes cut close_bracket rest h = cc h
no_bytes cut open_list rest h = cc h
no_bytes cut close_list rest h = cc h
no_bytes cut open_brace rest h = cc h
no_bytes cut close_brace rest h = cc h
no_bytes cut comma rest h = cc h
no_bytes cut semicolon rest h = cc h
no_bytes cut bar rest h = cc h
no_bytes cut end_of_clause rest h = cc h.0

no_star : (b : ℕ) → is_symbol b ≡ false → nat_eq 42 b ≡ false
no_star b e = by (nat_eq 42 b) refl
  where
    by : (v : Bool) → nat_eq 42 b ≡ v → v ≡ false
    by false f = refl
    by true f = absurd (true≢false (ap is_symbol (eqb-true 42 b f) ∙ e))

star_turned : (y : ℕ) → nat_eq y 42 ≡ false → nat_eq 42 y ≡ false
star_turned y e = by (nat_eq 42 y) refl
  where
    by : (v : Bool) → nat_eq 42 y ≡ v → v ≡ false
    by false f = refl
    by true f = absurd (true≢false (ap (λ x. nat_eq x 42) (eqb-true 42 y f) ∙ e))

and_left : (a b : Bool) → (a && b) ≡ true → a ≡ true
and_left true b e = refl
and_left false b e = absurd cc

and_right : (a b : Bool) → (a && b) ≡ false → a ≡ true → b ≡ false
and_right true b e f = e
and_right false b e f = absurd cc

no_first : (p : ℕ → Bool) (x : ℕ) → p x ≡ true → p 47 ≡ false → x ≡ 47 → ⊥
no_first p x h f e = true≢false (sym h ∙ ap p e ∙ f)

other_first : (x y : ℕ) (xs ys : Bytes) → x ∷ xs ≡ y ∷ ys → y ≢ 47 → x ≡ 47 → ⊥
other_first x y xs ys h f e = let same : x ≡ y = ap (λ (l : Bytes). get_or l 0 0) h in f (sym same ∙ e)

slash_symbol : (x : ℕ) (xs : Bytes) (b : ℕ) (r : Bytes) → begins is_symbol (b ∷ r) ≡ false → begins_comment (x ∷ xs) ≡ false → x ≡ 47
    → begins (nat_eq 42) (xs ++ b ∷ r) ≡ false
slash_symbol x [] b r next none e = no_star b next
slash_symbol x (y ∷ xs) b r next none e = star_turned y (and_right (nat_eq x 47) (nat_eq y 42) none (ap (λ z. nat_eq z 47) e))

-- a token that begins with `/` is no comment
slash : (cut : Bool) (k : Kind) (x : ℕ) (xs : Bytes) (b : ℕ) (r : Bytes) → x ≡ 47 → IsToken cut k (x ∷ xs) (b ∷ r)
    → begins (nat_eq 42) (xs ++ b ∷ r) ≡ false
slash cut variable x xs b r e h = absurd (no_first is_capital x (and_left (is_capital x) _ h.0) refl e)
slash cut name x xs b r e h = absurd (no_first is_small x (and_left (is_small x) _ h.0) refl e)
slash cut quoted x xs b r e h = absurd (other_first x 39 xs (h.0.1.0 ++ 39 ∷ []) h.0.1.1 (λ f. omega (arith, f)) e)
slash cut symbol x xs b r e h = slash_symbol x xs b r h.1 h.2 e
slash cut (integer z) x xs b r e h = absurd (no_first is_digit x (and_left (is_digit x) _ h.0) refl e)
slash cut open_bracket x xs b r e h = absurd (other_first x 40 xs [] h (λ f. omega (arith, f)) e)
slash cut close_bracket x xs b r e h = absurd (other_first x 41 xs [] h (λ f. omega (arith, f)) e)
slash cut open_list x xs b r e h = absurd (other_first x 91 xs [] h (λ f. omega (arith, f)) e)
slash cut close_list x xs b r e h = absurd (other_first x 93 xs [] h (λ f. omega (arith, f)) e)
slash cut open_brace x xs b r e h = absurd (other_first x 123 xs [] h (λ f. omega (arith, f)) e)
slash cut close_brace x xs b r e h = absurd (other_first x 125 xs [] h (λ f. omega (arith, f)) e)
slash cut comma x xs b r e h = absurd (other_first x 44 xs [] h (λ f. omega (arith, f)) e)
slash cut semicolon x xs b r e h = absurd (other_first x 59 xs [] h (λ f. omega (arith, f)) e)
slash cut bar x xs b r e h = absurd (other_first x 124 xs [] h (λ f. omega (arith, f)) e)
slash cut end_of_clause x xs b r e h = absurd (other_first x 46 xs [] h.0 (λ f. omega (arith, f)) e)

no_comment : (cut : Bool) (k : Kind) (x : ℕ) (xs : Bytes) (b : ℕ) (r : Bytes) → IsToken cut k (x ∷ xs) (b ∷ r)
    → (nat_eq x 47 && begins (nat_eq 42) (xs ++ b ∷ r)) ≡ false
no_comment cut k x xs b r h = by (nat_eq x 47) refl
  where
    by : (v : Bool) → nat_eq x 47 ≡ v → (v && begins (nat_eq 42) (xs ++ b ∷ r)) ≡ false
    by false e = refl
    by true e = slash cut k x xs b r (eqb-true x 47 e) h

separated_alike : (x : ℕ) (ys zs : Bytes) → (nat_eq x 47 && begins (nat_eq 42) ys) ≡ false → (nat_eq x 47 && begins (nat_eq 42) zs) ≡ false
    → is_separated (x ∷ ys) ≡ is_separated (x ∷ zs)
separated_alike x ys zs e f =
    let here = and_none (nat_eq x 47 && begins (nat_eq 42) ys) (closes_comment (drop 1 ys)) e in
    let there = and_none (nat_eq x 47 && begins (nat_eq 42) zs) (closes_comment (drop 1 zs)) f in
    (λ i. not (is_layout x || nat_eq x 37 || (here ∙ sym there) i))

token_alike : (cut cut_too : Bool) (k : Kind) (t : Bytes) (b : ℕ) (r q : Bytes) → goes_on (b ∷ q) ≡ goes_on (b ∷ r) → IsToken cut k t (b ∷ r)
    → IsToken cut_too k t (b ∷ q)
token_alike cut cut_too variable t b r q g h = h
token_alike cut cut_too name t b r q g h = h
token_alike cut cut_too quoted t b r q g h = h
token_alike cut cut_too symbol t b r q g h = h
token_alike cut cut_too (integer z) t b r q g h = (h.0, h.1, g ∙ h.2, h.3, h.4)
token_alike cut cut_too open_bracket t b r q g h = h
token_alike cut cut_too close_bracket t b r q g h = h
token_alike cut cut_too open_list t b r q g h = h
token_alike cut cut_too close_list t b r q g h = h
token_alike cut cut_too open_brace t b r q g h = h
token_alike cut cut_too close_brace t b r q g h = h
token_alike cut cut_too comma t b r q g h = h
token_alike cut cut_too semicolon t b r q g h = h
token_alike cut cut_too bar t b r q g h = h
token_alike cut cut_too end_of_clause t b r q g h = h

-- ---- what comes next

-- the token of these bytes behind that gap
abbrev read_token : ℕ → Bytes → Bytes → Kind → Token
read_token p g t k = record { kind = k; start = p + length g; end = p + length g + length t; layout_before = is_some g }

same_next : (cut cut_too : Bool) (p : ℕ) (ys g t : Bytes) (b : ℕ) (r q : Bytes) (k : Kind) → ys ≡ g ++ (t ++ b ∷ q) → Separates g (t ++ b ∷ r)
    → is_separated (t ++ b ∷ r) ≡ true → IsToken cut k t (b ∷ r) → goes_on (b ∷ q) ≡ goes_on (b ∷ r) → Next cut_too p ys (one (read_token p g t k))
same_next cut cut_too p ys g [] b r q k e s sep h o = absurd (no_bytes cut k (b ∷ r) h)
same_next cut cut_too p ys g (x ∷ xs) b r q k e s sep h o =
    let h_too = token_alike cut cut_too k (x ∷ xs) b r q o h in
    let same = separated_alike x (xs ++ b ∷ q) (xs ++ b ∷ r) (no_comment cut_too k x xs b q h_too) (no_comment cut k x xs b r h) in
    read g (x ∷ xs) (b ∷ q) k e (separates_alike x (xs ++ b ∷ r) (xs ++ b ∷ q) s refl) (same ∙ sep) h_too

-- two bytes behind the place are shared, or the one behind it is no point
abbrev IsPlain : ℕ → ℕ → Bytes → Type 0
IsPlain place all bytes = (place + 2 ≤ all) ⊎ (begins is_point (drop place bytes) ≡ false)

-- a token that comes next comes next before other bytes too that begin so
abbrev Carries : ℕ → Bytes → Answer → Type 0
Carries p bs no_more = Unit {0}
Carries p bs (one t) = (p < t.end) × ((cut : Bool) (ys : Bytes) (j : ℕ) → take j bs ≡ take j ys → j ≤ length bs → t.end < p + j
    → IsPlain (t.end - p) j bs → Next cut p ys (one t))
Carries p bs (none_for f) = Unit {0}

at_rest : (cut cut_too : Bool) (p : ℕ) (ys g t rest more : Bytes) (k : Kind) (i : ℕ) → ys ≡ g ++ (t ++ more) → take i rest ≡ take i more → i ≤ length rest
    → 0 < i → (1 < i) ⊎ (begins is_point rest ≡ false) → Separates g (t ++ rest) → is_separated (t ++ rest) ≡ true → IsToken cut k t rest
    → Next cut_too p ys (one (read_token p g t k))
at_rest cut cut_too p ys g t [] more k i e f l some plain s sep h = absurd (omega (arith, l, some))
at_rest cut cut_too p ys g t (b ∷ r) more k i e f l some plain s sep h =
    let o = one_shared b r more i some f in
    let q = o.0 in
    let opened : ys ≡ g ++ (t ++ b ∷ q) = e ∙ ap (λ x. g ++ (t ++ x)) o.1 in
    let goes : goes_on (b ∷ q) ≡ goes_on (b ∷ r) = elim plain [
      | inl two ↦ two_shared b r q i two (f ∙ ap (take i) o.1)
      | inr none ↦ no_point_shared b r q none
    ] in
    same_next cut cut_too p ys g t b r q k opened s sep h goes

some_more : (cut : Bool) (k : Kind) (t rest : Bytes) → IsToken cut k t rest → 0 < length t
some_more cut k [] rest h = absurd (no_bytes cut k rest h)
some_more cut k (x ∷ xs) rest h = omega arith

behind_both : (g t rest : Bytes) → drop (length g + length t) (g ++ (t ++ rest)) ≡ rest
behind_both g t rest = drop-append-add g (t ++ rest) (length t) ∙ drop-append_seam t rest

-- what comes ends behind its start
abbrev Stands : ℕ → Answer → Type 0
Stands p no_more = Unit {0}
Stands p (one t) = (p < t.end) × (t.start ≤ t.end)
Stands p (none_for f) = Unit {0}

next_stands : (cut : Bool) (p : ℕ) (bs : Bytes) {a : Answer} → Next cut p bs a → Stands p a
next_stands cut p bs (finished s c) = tt
next_stands cut p bs (stopped g rest f e s sep h) = tt
next_stands cut p bs (read g t rest k whole s sep h) = let some = some_more cut k t rest h in (omega (arith, some), omega arith)

next_alike : (cut : Bool) (p : ℕ) (bs : Bytes) {a : Answer} → Next cut p bs a → Carries p bs a
next_alike cut p bs (finished s c) = tt
next_alike cut p bs (stopped g rest f e s sep h) = tt
next_alike cut p bs (read g t rest k whole s sep h) =
    let some = some_more cut k t rest h in (
      omega arith,
      λ cut_too ys j e l before plain.
          let long : length bs ≡ length g + (length t + length rest) =
          ap length whole ∙ length-append g (t ++ rest) ∙ ap (λ n. length g + n) (length-append t rest) in
          let one = shared g (t ++ rest) ys j (ap (take j) (sym whole) ∙ e) (omega (arith, before)) in
          let two = shared t rest one.0 (j - length g) one.2 (omega (arith, before)) in
          let i = j - length g - length t in
          let place : p + length g + length t - p ≡ length g + length t = omega arith in
          let there : drop (p + length g + length t - p) bs ≡ rest = ap (λ n. drop n bs) place ∙ ap (drop (length g + length t)) whole ∙ behind_both g t rest in
          let plain_too : (1 < i) ⊎ (begins is_point rest ≡ false) = elim plain [
            | inl small ↦ inl (omega (arith, small))
            | inr none ↦ inr (sym (ap (begins is_point) there) ∙ none)
          ] in
          at_rest cut cut_too p ys g t rest two.0 k i (one.1 ∙ ap (λ x. g ++ x) two.1) two.2 (omega (arith, long, l, before))
          (omega (arith, before)) plain_too s
          sep h,
    )

-- ---- what comes next in a text

front_length : (bytes : Bytes) (n : ℕ) → IsFront bytes n → utf8_valid_len bytes ≡ n
front_length bytes n (inl whole) = utf8_valid_len-IsUtf8 bytes whole.1 ∙ sym whole.0
front_length bytes n (inr valid) = utf8_valid_len-IsValidUpTo bytes n valid

front_within : (bytes : Bytes) (n : ℕ) → IsFront bytes n → n ≤ length bytes
front_within bytes n (inl whole) = omega (arith, whole.0)
front_within bytes n (inr valid) = omega (arith, valid.short)

begins_some : (p : ℕ → Bool) (n : ℕ) (xs : Bytes) → 0 < n → begins p (take n xs) ≡ begins p xs
begins_some p zero xs l = absurd (omega (arith, l))
begins_some p (suc n) [] l = refl
begins_some p (suc n) (x ∷ xs) l = refl

-- a byte of a front is that of the whole
begins_front : (p : ℕ → Bool) (bytes : Bytes) (place n : ℕ) → place < n → begins p (drop place (take n bytes)) ≡ begins p (drop place bytes)
begins_front p bytes place n l =
    let split : n ≡ place + (n - place) = omega (arith, l) in
    ap (λ k. begins p (drop place (take k bytes))) split ∙ ap (begins p) (drop-take place (n - place) bytes)
    ∙ begins_some p (n - place) (drop place bytes) (omega (arith, l))

-- the bytes from a place on, as far as the first m go, are those of the first m
rest_front : (bytes : Bytes) (p m n : ℕ) → p ≤ m → m ≤ n → take (m - p) (drop p (take n bytes)) ≡ drop p (take m bytes)
rest_front bytes p m n l less =
    let split : p + (m - p) ≡ m = omega (arith, l) in
    sym (drop-take p (m - p) (take n bytes)) ∙ ap (λ k. drop p (take k (take n bytes))) split ∙ ap (drop p) (take-take m n bytes less)

comes_alike : (bytes text : Bytes) (m p : ℕ) (t : Token) → take m bytes ≡ take m text → IsValidTo bytes m → IsValidTo text m → t.end < m
    → IsPlain t.end m bytes → Comes bytes p (one t) → (p < t.end) × Comes text p (one t)
comes_alike bytes text m p t same valid valid_too before plain h =
    let n = h.0 in
    let small : m ≤ n = omega (arith, sym (front_length bytes valid.0 valid.1) ∙ front_length bytes n h.1, valid.2) in
    let bs : Bytes = drop p (take n bytes) in
    let c = next_alike (ltb n (length bytes)) p bs h.2 in
    let k = valid_too.0 in
    let ys : Bytes = drop p (take k text) in
    let low : p ≤ m = omega (arith, c.0, before) in
    let shares : take (m - p) bs ≡ take (m - p) ys = rest_front bytes p m n low small ∙ ap (drop p) same ∙ sym (rest_front text p m k low valid_too.2) in
    let long : m - p ≤ length bs = omega (arith, small, front_within bytes n h.1, length-drop p (take n bytes), length-take n bytes) in
    let there : drop (t.end - p) bs ≡ drop t.end (take n bytes) =
    drop-drop (t.end - p) p (take n bytes) ∙ ap (λ i. drop i (take n bytes)) (let e : p + (t.end - p) ≡ t.end = omega (arith, c.0) in e) in
    let plain_too : IsPlain (t.end - p) (m - p) bs = elim plain [
      | inl two ↦ inl (omega (arith, two, c.0))
      | inr none ↦ inr (ap (begins is_point) there ∙ begins_front is_point bytes t.end n (omega (arith, before, small)) ∙ none)
    ] in
    (c.0, (k, valid_too.1, c.1 (ltb k (length text)) ys (m - p) shares long (omega (arith, before, low)) plain_too))

-- ---- the tokens of a text

module _ (bytes text : Bytes) (m : ℕ) (same : take m bytes ≡ take m text) (valid : IsValidTo bytes m) (valid_too : IsValidTo text m) where
  each_alike : (a b : Answer) {p : ℕ} {ts : List Token} → HasTokens bytes a p ts → behind p ts < m → begins is_point (drop (behind p ts) bytes) ≡ false
      → Comes text (behind p ts) b → (p ≤ behind p ts) × HasTokens text b p ts
  each_alike a b (no_token p c) before none d = (omega arith, no_token p d)
  each_alike a b (token p t ts c h) before none d =
      let rest = each_alike a b h before none d in
      let plain : IsPlain t.end m bytes = elim (cases_lt t.end (behind t.end ts)) [
        | inl less ↦ inl (omega (arith, less, before))
        | inr more ↦
            let last : behind t.end ts ≡ t.end = omega (arith, more, rest.0) in
            inr (sym (ap (λ i. begins is_point (drop i bytes)) last) ∙ none)
      ] in
      let here = comes_alike bytes text m p t same valid valid_too (omega (arith, rest.0, before)) plain c in
      (omega (arith, here.0, rest.0), token p t ts here.1 rest.1)

pub tokens_alike : (bytes text : Bytes) (m p : ℕ) (ts : List Token) (a b : Answer) → AreAlike bytes text m (behind p ts) → HasTokens bytes a p ts
    → Comes text (behind p ts) b → HasTokens text b p ts
tokens_alike bytes text m p ts a b w h d = (each_alike bytes text m w.same w.valid w.valid_too a b h w.before w.no_point d).1

-- ---- where tokens end

-- each token ends up to that place, and starts up to it
abbrev pub EndBefore : ℕ → List Token → Type 0
EndBefore m [] = Unit {0}
EndBefore m (t ∷ ts) = (t.end ≤ m) × EndBefore m ts × (t.start ≤ m)

end_rises : {bytes : Bytes} {a : Answer} {p : ℕ} {ts : List Token} → HasTokens bytes a p ts → p ≤ behind p ts
end_rises (no_token p c) = omega arith
end_rises {bytes = bytes} (token p t ts c h) =
    let here = next_stands (ltb c.0 (length bytes)) p (drop p (take c.0 bytes)) c.2 in
    let later = end_rises h in
    omega (arith, here.0, later)

pub ends_before : (m : ℕ) {bytes : Bytes} {a : Answer} {p : ℕ} {ts : List Token} → HasTokens bytes a p ts → behind p ts < m → EndBefore m ts
ends_before m (no_token p c) l = tt
ends_before m {bytes = bytes} (token p t ts c h) l =
    let here = next_stands (ltb c.0 (length bytes)) p (drop p (take c.0 bytes)) c.2 in
    let later = end_rises h in
    (omega (arith, later, l), ends_before m h l, omega (arith, here.1, later, l))
