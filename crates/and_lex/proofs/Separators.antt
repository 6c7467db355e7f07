-- Layout and comments in front of a token.
use Rattle.std.proofs.Common.{ℕ, zero, suc, ◌+◌, ◌≡◌, ◌≤◌, ◌<◌, Bool, true, false, not, cond, ◌&&◌, ◌||◌, [], ◌∷◌, ◌++◌, length, take, drop, get_or, Option}
use Rattle.std.proofs.Common.{Some, None, refl, sym, ap, subst, ◌∙◌, arith, inl, inr, ◌⊎◌, append_assoc}
use Rattle.std.specs.Prelude.{nat_eq}
use Rattle.std.specs.List.{prefix_len}
use Rattle.std.proofs.lemmas.List.{take-append-drop, append-nil, length-append, drop_more, take_at, drop-drop, append_cancel_left}
use Rattle.std.proofs.lemmas.Bool.{eqb-true}
use Rattle.and_model.specs.Lines.{Bytes, holds_of_some}
use Rattle.and_language.specs.Tokens.{begins, is_layout, is_newline, closes_comment, Separates, nothing, layout, line_comment, comment, is_separated}
use Rattle.and_lex.specs.Scanning.{is_no_newline, ends_comment, comment_end, comment_len, piece_len}
use Rattle.and_lex.proofs.Choices.{either_way, first_choice, second_choice, and_true, or_false, both_false, not_true}

-- ---- the end of a comment

pub comment_more : (bs : Bytes) (i : ℕ) → i < length bs → ends_comment (drop i bs) ≡ false → comment_end i (drop i bs) ≡ comment_end (i + 1) (drop (i + 1) bs)
comment_more bs i lt e =
    let opened : drop i bs ≡ get_or bs i 0 ∷ drop (i + 1) bs = drop_more bs i 0 lt in
    let next : suc i ≡ i + 1 = omega arith in
    ap (comment_end i) opened ∙ second_choice (ends_comment (get_or bs i 0 ∷ drop (i + 1) bs)) _ _ (sym (ap ends_comment opened) ∙ e)
    ∙ ap (λ (n : ℕ). comment_end n (drop (i + 1) bs)) next

begins_same : (p : ℕ → Bool) (c x y : Bytes) → begins p (c ++ 42 ∷ x) ≡ begins p (c ++ 42 ∷ y)
begins_same p [] x y = refl
begins_same p (b ∷ c) x y = refl

-- A comment that is closed: its inner bytes, and what is behind it.
abbrev IsClosed : ℕ → Bytes → Option ℕ → Type 0
IsClosed n bs None = closes_comment bs ≡ false
IsClosed n bs (Some m) = (c : Bytes) × (gap : Bytes) × (bs ≡ (c ++ 42 ∷ 47 ∷ []) ++ gap) × (m ≡ n + length (c ++ 42 ∷ 47 ∷ []))
    × (closes_comment (c ++ 42 ∷ []) ≡ false)

closed_now : (n b : ℕ) (bs : Bytes) → ends_comment (b ∷ bs) ≡ true → IsClosed n (b ∷ bs) (Some (suc (suc n)))
closed_now n b [] e = absurd (cc ((and_true (nat_eq b 42) false e).1))
closed_now n b (d ∷ bs) e =
    let a = and_true (nat_eq b 42) (nat_eq 47 d) e in
    let first : b ≡ 42 = eqb-true b 42 a.0 in
    let second : 47 ≡ d = eqb-true 47 d a.1 in
    ([], bs, ap (λ (x : ℕ). x ∷ d ∷ bs) first ∙ ap (λ (x : ℕ). 42 ∷ x ∷ bs) (sym second), omega arith, refl)

closed_later : (n b : ℕ) (bs : Bytes) → ends_comment (b ∷ bs) ≡ false → (o : Option ℕ) → IsClosed (suc n) bs o → IsClosed n (b ∷ bs) o
closed_later n b bs e None h = both_false (ends_comment (b ∷ bs)) (closes_comment bs) e h
closed_later n b bs e (Some m) h =
    let c = h.0 in
    let one : b ∷ bs ≡ ((b ∷ c) ++ 42 ∷ 47 ∷ []) ++ h.1 = ap (λ (x : Bytes). b ∷ x) h.2 in
    let same : begins (nat_eq 47) (c ++ 42 ∷ []) ≡ begins (nat_eq 47) bs =
    begins_same (nat_eq 47) c [] (47 ∷ h.1) ∙ ap (begins (nat_eq 47)) (sym (h.2 ∙ append_assoc c (42 ∷ 47 ∷ []) h.1)) in
    let not_now : nat_eq b 42 && begins (nat_eq 47) (c ++ 42 ∷ []) ≡ false = ap (λ (x : Bool). nat_eq b 42 && x) same ∙ e in
    (b ∷ c, h.1, one, omega (arith, h.3), both_false (nat_eq b 42 && begins (nat_eq 47) (c ++ 42 ∷ [])) (closes_comment (c ++ 42 ∷ [])) not_now h.4)

pub comment_sound : (n : ℕ) (bs : Bytes) → IsClosed n bs (comment_end n bs)
comment_sound n [] = refl
comment_sound n (b ∷ bs) =
    either_way (IsClosed n (b ∷ bs)) (ends_comment (b ∷ bs)) (Some (suc (suc n))) (comment_end (suc n) bs) (closed_now n b bs)
    (λ e. closed_later n b bs e (comment_end (suc n) bs) (comment_sound (suc n) bs))

pub comment_closed : (n : ℕ) (c gap : Bytes) → closes_comment (c ++ 42 ∷ []) ≡ false → comment_end n (c ++ 42 ∷ 47 ∷ gap) ≡ Some (suc (suc (n + length c)))
comment_closed n [] gap e = ap (λ (x : ℕ). Some (suc (suc x))) (omega arith)
comment_closed n (b ∷ c) gap e =
    let a = or_false (nat_eq b 42 && begins (nat_eq 47) (c ++ 42 ∷ [])) (closes_comment (c ++ 42 ∷ [])) e in
    let not_now : ends_comment (b ∷ (c ++ 42 ∷ 47 ∷ gap)) ≡ false = ap (λ (x : Bool). nat_eq b 42 && x) (begins_same (nat_eq 47) c (47 ∷ gap) []) ∙ a.0 in
    let next : suc n + length c ≡ n + suc (length c) = omega arith in
    second_choice (ends_comment (b ∷ (c ++ 42 ∷ 47 ∷ gap))) _ _ not_now ∙ comment_closed (suc n) c gap a.1 ∙ ap (λ (x : ℕ). Some (suc (suc x))) next

pub comment_open : (n : ℕ) (bs : Bytes) → closes_comment bs ≡ false → comment_end n bs ≡ None
comment_open n [] e = refl
comment_open n (b ∷ bs) e =
    let a = or_false (ends_comment (b ∷ bs)) (closes_comment bs) e in
    second_choice (ends_comment (b ∷ bs)) _ _ a.0 ∙ comment_open (suc n) bs a.1

-- ---- the end of a line

abbrev IsLine : Bytes → ℕ → Type 0
IsLine bs n = (holds_of_some is_newline (take n bs) ≡ false) × (drop n bs ≡ [] ⊎ begins is_newline (drop n bs) ≡ true)

line_sound : (bs : Bytes) → IsLine bs (prefix_len is_no_newline bs)
line_sound [] = (refl, inl refl)
line_sound (b ∷ bs) =
    either_way (IsLine (b ∷ bs)) (is_no_newline b) (1 + prefix_len is_no_newline bs) 0
    (λ e. let next : suc (prefix_len is_no_newline bs) ≡ 1 + prefix_len is_no_newline bs = omega arith in
    subst (IsLine (b ∷ bs)) next (
      both_false (is_newline b) (holds_of_some is_newline (take (prefix_len is_no_newline bs) bs)) (not_true (is_newline b) e) (line_sound bs).0,
      (line_sound bs).1,
    ))
    (λ e. (refl, inr (not_false (is_newline b) e)))
  where
    not_false : (b : Bool) → not b ≡ false → b ≡ true
    not_false true e = refl
    not_false false e = absurd cc

line_is : (c rest : Bytes) → holds_of_some is_newline c ≡ false → rest ≡ [] ⊎ begins is_newline rest ≡ true → prefix_len is_no_newline (c ++ rest) ≡ length c
line_is [] [] e h = refl
line_is [] (b ∷ rest) e (inl h) = absurd cc
line_is [] (b ∷ rest) e (inr h) = second_choice (is_no_newline b) _ _ (ap not h)
line_is (b ∷ c) rest e h =
    let a = or_false (is_newline b) (holds_of_some is_newline c) e in
    let next : 1 + length c ≡ suc (length c) = omega arith in
    first_choice (is_no_newline b) _ _ (ap not a.0) ∙ ap (λ (n : ℕ). 1 + n) (line_is c rest a.1 h) ∙ next

-- ---- one piece

abbrev IsPiece : Bytes → ℕ → Type 0
IsPiece bs n = Separates (take n bs) (drop n bs)

comment_piece : (b : ℕ) (bs : Bytes) → nat_eq b 47 && begins (nat_eq 42) bs ≡ true → IsPiece (b ∷ bs) (comment_len (comment_end 0 (drop 1 bs)))
comment_piece b [] e = absurd (cc ((and_true (nat_eq b 47) false e).1))
comment_piece b (d ∷ bs) e =
    let a = and_true (nat_eq b 47) (nat_eq 42 d) e in
    of_end (comment_end 0 bs) (comment_sound 0 bs) (eqb-true b 47 a.0) (eqb-true 42 d a.1)
  where
    of_end : (o : Option ℕ) → IsClosed 0 bs o → b ≡ 47 → 42 ≡ d → IsPiece (b ∷ d ∷ bs) (comment_len o)
    of_end None h p q = nothing (b ∷ d ∷ bs)
    of_end (Some m) h p q =
        let len : length (h.0 ++ 42 ∷ 47 ∷ []) ≡ m = omega (arith, h.3) in
        let taken : take m bs ≡ h.0 ++ 42 ∷ 47 ∷ [] = ap (take m) h.2 ∙ take_at (h.0 ++ 42 ∷ 47 ∷ []) h.1 m len in
        let whole : b ∷ d ∷ take m bs ≡ 47 ∷ 42 ∷ (h.0 ++ 42 ∷ 47 ∷ []) =
        ap (λ (x : ℕ). x ∷ d ∷ take m bs) p ∙ ap (λ (x : ℕ). 47 ∷ x ∷ take m bs) (sym q) ∙ ap (λ (x : Bytes). 47 ∷ 42 ∷ x) taken in
        comment h.0 [] (drop m bs) (b ∷ d ∷ take m bs) whole h.4 (nothing (drop m bs))

piece_sound : (bs : Bytes) → IsPiece bs (piece_len bs)
piece_sound [] = nothing []
piece_sound (b ∷ bs) =
    either_way (IsPiece (b ∷ bs)) (is_layout b) 1 _ (λ e. layout b [] bs e (nothing bs))
    (λ _. either_way (IsPiece (b ∷ bs)) (nat_eq b 37) (suc (prefix_len is_no_newline bs)) _
    (λ e. let n = prefix_len is_no_newline bs in
    let whole : b ∷ take n bs ≡ 37 ∷ (take n bs ++ []) = ap (λ (x : ℕ). x ∷ take n bs) (eqb-true b 37 e)
    ∙ ap (λ (x : Bytes). 37 ∷ x) (sym (append-nil (take n bs))) in
    line_comment (take n bs) [] (drop n bs) (b ∷ take n bs) whole (line_sound bs).0 (line_sound bs).1 (nothing (drop n bs)))
    (λ _. either_way (IsPiece (b ∷ bs)) (nat_eq b 47 && begins (nat_eq 42) bs) (comment_len (comment_end 0 (drop 1 bs))) 0 (comment_piece b bs)
    (λ _. nothing (b ∷ bs))))

-- ---- no piece

no_separator : (l h x c : Bool) → l ≡ false → h ≡ false → x && c ≡ false → not (l || h || (x && c)) ≡ true
no_separator l h x c p q r = rw (p, q, r) refl

and_false : (a b : Bool) → b ≡ false → a && b ≡ false
and_false true b e = e
and_false false b e = refl

then_false : (a b : Bool) → a && b ≡ false → a ≡ true → b ≡ false
then_false true b e t = e
then_false false b e t = absurd cc

left_false : (a b : Bool) → a ≡ false → a && b ≡ false
left_false a b e = rw e refl

unclosed : (bs : Bytes) (o : Option ℕ) → IsClosed 0 bs o → comment_len o ≡ 0 → closes_comment bs ≡ false
unclosed bs None h e = h
unclosed bs (Some m) h e = absurd (omega (arith, e))

pub separated_where_none : (bs : Bytes) → piece_len bs ≡ 0 → is_separated bs ≡ true
separated_where_none [] = λ e. refl
separated_where_none (b ∷ bs) =
    let P : ℕ → Type 0 = λ n. n ≡ 0 → is_separated (b ∷ bs) ≡ true in
    let x = nat_eq b 47 && begins (nat_eq 42) bs in
    let c = closes_comment (drop 1 bs) in
    either_way P (is_layout b) 1 _ (λ _ z. absurd (omega (arith, z)))
    (λ l. either_way P (nat_eq b 37) (suc (prefix_len is_no_newline bs)) _ (λ _ z. absurd (omega (arith, z)))
    (λ h. either_way P x (comment_len (comment_end 0 (drop 1 bs))) 0
    (λ _ z. no_separator (is_layout b) (nat_eq b 37) x c l h (and_false x c (unclosed (drop 1 bs) (comment_end 0 (drop 1 bs)) (comment_sound 0 (drop 1 bs)) z)))
    (λ e _. no_separator (is_layout b) (nat_eq b 37) x c l h (left_false x c e))))

none_where_separated : (bs : Bytes) → is_separated bs ≡ true → piece_len bs ≡ 0
none_where_separated [] e = refl
none_where_separated (b ∷ bs) e =
    let x = nat_eq b 47 && begins (nat_eq 42) bs in
    let c = closes_comment (drop 1 bs) in
    let f = or_false (is_layout b || nat_eq b 37) (x && c) (not_true (is_layout b || nat_eq b 37 || (x && c)) e) in
    let k = or_false (is_layout b) (nat_eq b 37) f.0 in
    let last : cond x (comment_len (comment_end 0 (drop 1 bs))) 0 ≡ 0 =
    either_way (λ (n : ℕ). n ≡ 0) x (comment_len (comment_end 0 (drop 1 bs))) 0
    (λ t. ap comment_len (comment_open 0 (drop 1 bs) (then_false x c f.1 t))) (λ _. refl) in
    second_choice (is_layout b) _ _ k.0 ∙ second_choice (nat_eq b 37) _ _ k.1 ∙ last

-- ---- a whole gap

joined : {g r : Bytes} → Separates g r → (h rest : Bytes) → r ≡ h ++ rest → Separates h rest → Separates (g ++ h) rest
joined (nothing r) h rest e d = d
joined (layout b gap r l s) h rest e d = layout b (gap ++ h) rest l (joined s h rest e d)
joined (line_comment c gap r whole w n o s) h rest e d =
    let moved : gap ++ r ≡ (gap ++ h) ++ rest = ap (λ (x : Bytes). gap ++ x) e ∙ sym (append_assoc gap h rest) in
    let P : Bytes → Type 0 = λ x. x ≡ [] ⊎ begins is_newline x ≡ true in
    line_comment c (gap ++ h) rest (whole ++ h) (ap (λ (x : Bytes). x ++ h) w ∙ append_assoc (37 ∷ c) gap h) n (subst P moved o) (joined s h rest e d)
joined (comment c gap r whole w k s) h rest e d =
    comment c (gap ++ h) rest (whole ++ h) (ap (λ (x : Bytes). x ++ h) w ∙ append_assoc (47 ∷ 42 ∷ c) (42 ∷ 47 ∷ gap) h) k (joined s h rest e d)

-- one more piece behind the gap
pub gap_more : (bs : Bytes) (i n : ℕ) → i ≤ length bs → n ≡ piece_len (drop i bs) → Separates (take i bs) (drop i bs)
    → Separates (take (i + n) bs) (drop (i + n) bs)
gap_more bs i n small e s =
    let piece : Separates (take n (drop i bs)) (drop n (drop i bs)) = subst (IsPiece (drop i bs)) (sym e) (piece_sound (drop i bs)) in
    let behind : drop n (drop i bs) ≡ drop (i + n) bs = drop-drop n i bs in
    let whole = joined s (take n (drop i bs)) (drop n (drop i bs)) (sym (take-append-drop n (drop i bs))) piece in
    let front : take i bs ++ take n (drop i bs) ≡ take (i + n) bs = sym (take-add i n bs) in
    subst (λ (x : Bytes). Separates x (drop (i + n) bs)) front (subst (Separates (take i bs ++ take n (drop i bs))) behind whole)
  where
    take_nil : (n : ℕ) → ◌≡◌ {A = Bytes} (take n []) []
    take_nil zero = refl
    take_nil (suc n) = refl

    take-add : (i n : ℕ) (bs : Bytes) → take (i + n) bs ≡ take i bs ++ take n (drop i bs)
    take-add zero n bs = ap (λ (k : ℕ). take k bs) (omega arith)
    take-add (suc i) n [] = take_nil (suc i + n) ∙ sym (take_nil n)
    take-add (suc i) n (b ∷ bs) = let next : suc i + n ≡ suc (i + n) =
        omega arith in ap (λ (k : ℕ). take k (b ∷ bs)) next ∙ ap (λ (x : Bytes). b ∷ x) (take-add i n bs)

-- ---- there is one gap

-- the first piece of a gap, and the gap behind it
abbrev FirstPiece : Bytes → Bytes → Type 0
FirstPiece g r = (x : Bytes) × (h : Bytes) × (g ≡ x ++ h) × (length x ≡ piece_len (g ++ r)) × (0 < length x) × Separates h r

piece_of : {g r : Bytes} → Separates g r → (g ≡ []) ⊎ FirstPiece g r
piece_of (nothing r) = inl refl
piece_of (layout b gap rest e d) = inr (b ∷ [], gap, refl, sym (first_choice (is_layout b) 1 _ e), omega arith, d)
piece_of (line_comment c gap rest whole w n o d) =
    let opened : whole ++ rest ≡ 37 ∷ (c ++ (gap ++ rest)) = ap (λ (x : Bytes). x ++ rest) w ∙ append_assoc (37 ∷ c) gap rest in
    inr (37 ∷ c, gap, w, sym (ap piece_len opened ∙ ap suc (line_is c (gap ++ rest) n o)), omega arith, d)
piece_of (comment c gap rest whole w k d) =
    let opened : whole ++ rest ≡ 47 ∷ 42 ∷ (c ++ 42 ∷ 47 ∷ (gap ++ rest)) = ap (λ (x : Bytes). x ++ rest) w ∙ append_assoc (47 ∷ 42 ∷ c) (42 ∷ 47 ∷ gap) rest in
    let counted : piece_len (whole ++ rest) ≡ suc (suc (suc (suc (0 + length c)))) =
    ap piece_len opened ∙ ap comment_len (comment_closed 0 c (gap ++ rest) k) in
    let split : whole ≡ (47 ∷ 42 ∷ (c ++ 42 ∷ 47 ∷ [])) ++ gap = w ∙ sym (append_assoc (47 ∷ 42 ∷ c) (42 ∷ 47 ∷ []) gap) in
    inr (47 ∷ 42 ∷ (c ++ 42 ∷ 47 ∷ []), gap, split, omega (arith, counted, length-append c (42 ∷ 47 ∷ [])), omega arith, d)

-- no gap before what is separated
none_before : {h s : Bytes} → Separates h s → is_separated (h ++ s) ≡ true → h ≡ []
none_before {h} {s} d e = elim (piece_of d) [
  | inl q ↦ q
  | inr f ↦ absurd (let z = none_where_separated (h ++ s) e in omega (arith, f.3, f.4, z))
]

gap_step : (x g r : Bytes) {h s : Bytes} → length x ≡ piece_len ((x ++ g) ++ r) → 0 < length x → (x ++ g) ++ r ≡ h ++ s → is_separated s ≡ true → Separates h s
    → ((k : Bytes) → Separates k s → g ++ r ≡ k ++ s → g ≡ k) → x ++ g ≡ h
gap_step x g r {h} {s} len some e sep d more = elim (piece_of d) [
  | inl q ↦
      let z : piece_len ((x ++ g) ++ r) ≡ 0 = ap piece_len (e ∙ ap (λ (y : Bytes). y ++ s) q) ∙ none_where_separated s sep in
      absurd (omega (arith, len, some, z))
  | inr f ↦
      let whole : x ++ (g ++ r) ≡ f.0 ++ (f.1 ++ s) = sym (append_assoc x g r) ∙ e ∙ ap (λ (y : Bytes). y ++ s) f.2 ∙ append_assoc f.0 f.1 s in
      let lens : length f.0 ≡ length x = f.3 ∙ ap piece_len (sym e) ∙ sym len in
      let same : x ≡ f.0 = sym (take_at x (g ++ r) (length x) refl) ∙ ap (take (length x)) whole ∙ take_at f.0 (f.1 ++ s) (length x) lens in
      let rest : g ++ r ≡ f.1 ++ s = append_cancel_left x (g ++ r) (f.1 ++ s) (whole ∙ ap (λ (y : Bytes). y ++ (f.1 ++ s)) (sym same)) in
      ap (λ (y : Bytes). y ++ g) same ∙ ap (λ (y : Bytes). f.0 ++ y) (more f.1 f.5 rest) ∙ sym f.2
]

pub one_gap : {g r : Bytes} → Separates g r → (h s : Bytes) → Separates h s → g ++ r ≡ h ++ s → is_separated r ≡ true → is_separated s ≡ true → g ≡ h
one_gap (nothing r) h s d e p q = sym (none_before d (sym (ap is_separated e) ∙ p))
one_gap (layout b gap rest l c) h s d e p q =
    gap_step (b ∷ []) gap rest (sym (first_choice (is_layout b) 1 _ l)) (omega arith) e q d (λ k f w. one_gap c k s f w p q)
one_gap (line_comment c gap rest whole w n o k) h s d e p q =
    let x : Bytes = 37 ∷ c in
    let opened : (x ++ gap) ++ rest ≡ 37 ∷ (c ++ (gap ++ rest)) = append_assoc x gap rest in
    let len : length x ≡ piece_len ((x ++ gap) ++ rest) = sym (ap piece_len opened ∙ ap suc (line_is c (gap ++ rest) n o)) in
    w ∙ gap_step x gap rest len (omega arith) (ap (λ (y : Bytes). y ++ rest) (sym w) ∙ e) q d (λ j v u. one_gap k j s v u p q)
one_gap (comment c gap rest whole w k m) h s d e p q =
    let x : Bytes = 47 ∷ 42 ∷ (c ++ 42 ∷ 47 ∷ []) in
    let split : whole ≡ x ++ gap = w ∙ sym (append_assoc (47 ∷ 42 ∷ c) (42 ∷ 47 ∷ []) gap) in
    let opened : (x ++ gap) ++ rest ≡ 47 ∷ 42 ∷ (c ++ 42 ∷ 47 ∷ (gap ++ rest)) =
    append_assoc x gap rest ∙ append_assoc (47 ∷ 42 ∷ c) (42 ∷ 47 ∷ []) (gap ++ rest) in
    let counted : piece_len ((x ++ gap) ++ rest) ≡ suc (suc (suc (suc (0 + length c)))) =
    ap piece_len opened ∙ ap comment_len (comment_closed 0 c (gap ++ rest) k) in
    let len : length x ≡ piece_len ((x ++ gap) ++ rest) = omega (arith, counted, length-append c (42 ∷ 47 ∷ [])) in
    split ∙ gap_step x gap rest len (omega arith) (ap (λ (y : Bytes). y ++ rest) (sym split) ∙ e) q d (λ j v u. one_gap m j s v u p q)
