-- The bytes of a text are no FF, so that its words have no name that begins with it.
use Rattle.std.proofs.Common.{ℕ, ◌≡◌, ◌+◌, ◌-◌, ◌/◌, ◌%◌, ◌<◌, ◌≤◌, ◌&&◌, inl, inr, Bool, true, false, not, cond, List, [], ◌∷◌, ◌++◌, length}
use Rattle.std.proofs.Common.{take, drop, refl, ap, arith, subst}
use Rattle.std.specs.Prelude.{All, nat_eq, ltb, IsUtf8}
use lib.Utf8.{scalar, scalars, encode, encodes, scalar_cases}
use Rattle.std.proofs.lemmas.Bool.Decides.{nat_tests}
use Rattle.std.proofs.lemmas.List.Elements.{All-nil, All-cons, All-head, All-tail, All-append, All-take, All-drop}
use Rattle.and_model.proofs.OwnVariables.{All-front}
use Rattle.and_model.specs.Lines.{Bytes}
use Rattle.and_syntax.proofs.Names.{is_writable}
use Rattle.and_language.specs.Tokens.{Kind, Token, Answer, no_more, one, Names, Next, IsFront, Comes, HasTokens}
use Rattle.and_language.specs.Words.{Word, Placed, bytes_of, IsWord, AreWords, Before}
use Rattle.and_language.specs.Words as words

abbrev IsByte : ℕ → Type 0
IsByte b = b < 255

encoded : (c : ℕ) → scalar c ≡ true → All IsByte (encode c)
unfolding encode
encoded c e = by (ltb c 128) refl
  where
    small : c < 1114112
    small = elim (scalar_cases c e) [ inl h ↦ omega arith | inr h ↦ omega (arith, h.1) ]

    one : (b : ℕ) → b < 255 → (bs : Bytes) → All IsByte bs → All IsByte (b ∷ bs)
    one b h bs a = All-cons IsByte b bs h a

    none : All IsByte []
    none = All-nil IsByte

    by : (x : Bool) → ltb c 128 ≡ x → All IsByte (cond x (c ∷ []) (cond (ltb c 2048) ((192 + c / 64) ∷ (128 + c % 64) ∷ [])
        (cond (ltb c 65536) ((224 + c / 4096) ∷ (128 + (c / 64) % 64) ∷ (128 + c % 64) ∷ [])
        ((240 + c / 262144) ∷ (128 + (c / 4096) % 64) ∷ (128 + (c / 64) % 64) ∷ (128 + c % 64) ∷ []))))
    by true h = let l : c < 128 = grind (arith, nat_tests) in one c (omega arith) [] none
    by false h = two (ltb c 2048) refl
      where
        two : (y : Bool) → ltb c 2048 ≡ y → All IsByte (cond y ((192 + c / 64) ∷ (128 + c % 64) ∷ [])
            (cond (ltb c 65536) ((224 + c / 4096) ∷ (128 + (c / 64) % 64) ∷ (128 + c % 64) ∷ [])
            ((240 + c / 262144) ∷ (128 + (c / 4096) % 64) ∷ (128 + (c / 64) % 64) ∷ (128 + c % 64) ∷ [])))
        two true h =
            let l : c < 2048 = grind (arith, nat_tests) in
            one (192 + c / 64) (omega arith) ((128 + c % 64) ∷ []) (one (128 + c % 64) (omega arith) [] none)
        two false h = three (ltb c 65536) refl
          where
            three : (z : Bool) → ltb c 65536 ≡ z → All IsByte (cond z ((224 + c / 4096) ∷ (128 + (c / 64) % 64) ∷ (128 + c % 64) ∷ [])
                ((240 + c / 262144) ∷ (128 + (c / 4096) % 64) ∷ (128 + (c / 64) % 64) ∷ (128 + c % 64) ∷ []))
            three true h =
                let l : c < 65536 = grind (arith, nat_tests) in
                one (224 + c / 4096) (omega arith) ((128 + (c / 64) % 64) ∷ (128 + c % 64) ∷ [])
                (one (128 + (c / 64) % 64) (omega arith) ((128 + c % 64) ∷ []) (one (128 + c % 64) (omega arith) [] none))
            three false h =
                one (240 + c / 262144) (omega (arith, small)) ((128 + (c / 4096) % 64) ∷ (128 + (c / 64) % 64) ∷ (128 + c % 64) ∷ [])
                (one (128 + (c / 4096) % 64) (omega arith) ((128 + (c / 64) % 64) ∷ (128 + c % 64) ∷ [])
                (one (128 + (c / 64) % 64) (omega arith) ((128 + c % 64) ∷ []) (one (128 + c % 64) (omega arith) [] none)))

both_are : (a b : Bool) → a && b ≡ true → (a ≡ true) × (b ≡ true)
both_are true b e = (refl, e)
both_are false b e = absurd cc

all_encoded : (cs : List ℕ) → scalars cs ≡ true → All IsByte (encodes cs)
all_encoded [] e = All-nil IsByte
all_encoded (c ∷ cs) e =
    let h = both_are (scalar c) (scalars cs) e in
    All-append IsByte (encode c) (encodes cs) (encoded c h.0) (all_encoded cs h.1)

utf8-bytes : (bs : Bytes) → IsUtf8 bs → All IsByte bs
utf8-bytes bs u = subst (All IsByte) u.1.1 (all_encoded u.0 u.1.0)

-- a text that ends is UTF-8
ended : (bytes : Bytes) (p : ℕ) (a : Answer) → a ≡ no_more → Comes bytes p a → IsUtf8 bytes
ended bytes p a e c = whole c.0 c.1 (uncut (ltb c.0 (length bytes)) a c.2 e)
  where
    uncut : (cut : Bool) (a : Answer) → Next cut p (drop p (take c.0 bytes)) a → a ≡ no_more → cut ≡ false
    uncut cut a (Next.finished s e) is = e
    uncut cut a (Next.read gap t rest k e s l i) is = absurd (cc)
    uncut cut a (Next.stopped gap rest f e s l i) is = absurd (cc)

    whole : (n : ℕ) → IsFront bytes n → ltb n (length bytes) ≡ false → IsUtf8 bytes
    whole n (inl h) e = h.1
    whole n (inr h) e = let l : n < length bytes = h.short in absurd (let f : length bytes ≤ n = grind (arith, nat_tests) in omega arith)

text-utf8 : (bytes : Bytes) (a : Answer) (p : ℕ) (ts : List Token) → a ≡ no_more → HasTokens bytes a p ts → IsUtf8 bytes
text-utf8 bytes a p [] e (HasTokens.no_token _ c) = ended bytes p a e c
text-utf8 bytes a p (t ∷ ts) e (HasTokens.token _ _ _ c h) = text-utf8 bytes a t.end ts e h

pub text-bytes : (bytes : Bytes) (ts : List Token) → HasTokens bytes no_more 0 ts → All IsByte bytes
text-bytes bytes ts h = utf8-bytes bytes (text-utf8 bytes no_more 0 ts refl h)

-- a name of such bytes can be written
writable : (bs : Bytes) → All IsByte bs → is_writable bs ≡ true
writable [] a = refl
writable (b ∷ bs) a = let h : b < 255 = All-head IsByte b bs a in let e : nat_eq b 255 ≡ false = grind (arith, nat_tests) in ap not e

named-writable : (c t : Bytes) → All IsByte c → Names c t → is_writable t ≡ true
named-writable c t a Names.nothing = refl
named-writable c t a (Names.plain b d u e n) =
    let h : b < 255 = All-head IsByte b d a in let f : nat_eq b 255 ≡ false = grind (arith, nat_tests) in ap not f
named-writable c t a (Names.doubled_quote d u n) = refl
named-writable c t a (Names.escaped_quote d u n) = refl
named-writable c t a (Names.escaped_backslash d u n) = refl
named-writable c t a (Names.escaped_newline d u n) = refl

-- The names among the words can be written.
abbrev pub IsWritableWord : Word → Type 0
IsWritableWord (words.variable x) = Unit {0}
IsWritableWord (words.integer z) = Unit {0}
IsWritableWord (words.name c) = is_writable c ≡ true
IsWritableWord (words.quoted c) = is_writable c ≡ true
IsWritableWord (words.minus b) = Unit {0}
IsWritableWord (words.open_bracket b) = Unit {0}
IsWritableWord words.close_bracket = Unit {0}
IsWritableWord words.open_list = Unit {0}
IsWritableWord words.close_list = Unit {0}
IsWritableWord words.open_brace = Unit {0}
IsWritableWord words.close_brace = Unit {0}
IsWritableWord words.comma = Unit {0}
IsWritableWord words.semicolon = Unit {0}
IsWritableWord words.bar = Unit {0}
IsWritableWord words.end = Unit {0}

abbrev pub AreWritableWords : List Placed → Type 0
AreWritableWords [] = Unit {0}
AreWritableWords (p ∷ ps) = IsWritableWord p.word × AreWritableWords ps

token-bytes : (bytes : Bytes) (t : Token) → All IsByte bytes → All IsByte (bytes_of bytes t)
token-bytes bytes t a = All-take IsByte (t.end - t.start) (drop t.start bytes) (All-drop IsByte t.start bytes a)

word-writable : (bytes : Bytes) (t : Token) (b : Before) (k : Kind) (w : Word) → All IsByte bytes → IsWord bytes t b k w → IsWritableWord w
word-writable bytes t b k w a IsWord.variable_token = tt
word-writable bytes t b k w a (IsWord.integer_token z) = tt
word-writable bytes t b k w a IsWord.name_token = writable (bytes_of bytes t) (token-bytes bytes t a)
word-writable bytes t b k w a (IsWord.symbol_token e) = writable (bytes_of bytes t) (token-bytes bytes t a)
word-writable bytes t b k w a (IsWord.minus_token e n) = tt
word-writable bytes t b k w a (IsWord.functor_token e n) = writable (bytes_of bytes t) (token-bytes bytes t a)
word-writable bytes t b k w a (IsWord.quoted_token text q) =
    let all : All IsByte (39 ∷ q.0 ++ 39 ∷ []) = subst (All IsByte) q.1 (token-bytes bytes t a) in
    named-writable q.0 text (All-front IsByte q.0 (39 ∷ []) (All-tail IsByte 39 (q.0 ++ 39 ∷ []) all)) q.2
word-writable bytes t b k w a IsWord.open_bracket_token = tt
word-writable bytes t b k w a IsWord.close_bracket_token = tt
word-writable bytes t b k w a IsWord.open_list_token = tt
word-writable bytes t b k w a IsWord.close_list_token = tt
word-writable bytes t b k w a IsWord.open_brace_token = tt
word-writable bytes t b k w a IsWord.close_brace_token = tt
word-writable bytes t b k w a IsWord.comma_token = tt
word-writable bytes t b k w a IsWord.semicolon_token = tt
word-writable bytes t b k w a IsWord.bar_token = tt
word-writable bytes t b k w a IsWord.end_token = tt

pub words-writable : (bytes : Bytes) (a : Answer) (ts : List Token) (ws : List Placed) → All IsByte bytes → AreWords bytes a ts ws → AreWritableWords ws
words-writable bytes a ts ws all AreWords.nothing = tt
words-writable bytes a ts ws all (AreWords.more t us w vs i h) =
    (word-writable bytes t (words.before bytes us a) t.kind w all i, words-writable bytes a us vs all h)
