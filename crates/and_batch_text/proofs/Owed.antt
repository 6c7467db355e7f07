-- What is found of a text's queries, and what is still to be found.
use Rattle.std.proofs.Common.{◌≡◌, ℕ, true, List, [], ◌∷◌, ◌++◌, length, sym, refl, ap, ◌∙◌, append_assoc, append-nil, subst}
use Rattle.std.specs.Prelude.{Result, Ok, Err, IfOk}
use Rattle.and_model.specs.Lines.{Bytes}
use Rattle.and_language.specs.Tokens.{Token, Answer, one, HasTokens, no_token, token, Comes, is_last}
use Rattle.and_batch_text.specs.Queries.{Span, Place, fresh, before_end, at_token, behind, queries_among, HasQueries}

-- Whatever tokens come from the place on, with those that are found and those among them all queries are found.
abbrev pub IsOwed : Bytes → ℕ → Place → List Span → Type 0
IsOwed bytes at p found = (ts : List Token) (a : Answer) → HasTokens bytes a at ts → is_last a ≡ true
    → HasQueries bytes (found ++ queries_among bytes p ts)

pub owed_first : (bytes : Bytes) → IsOwed bytes 0 fresh []
owed_first bytes = λ ts a has last. (ts, a, has, last, refl)

pub owed_next : (bytes : Bytes) (at : ℕ) (p q : Place) (found more : List Span) (t : Token) → IsOwed bytes at p found → Comes bytes at (one t)
    → more ≡ found ++ at_token p t → q ≡ behind bytes p t → IsOwed bytes t.end q more
owed_next bytes at p q found more t owed comes noted place = λ ts a has last.
    let all = owed (t ∷ ts) a (token at t ts comes has) last in
    let rest = queries_among bytes (behind bytes p t) ts in
    let joined : found ++ (at_token p t ++ rest) ≡ more ++ queries_among bytes q ts
    = sym (append_assoc found (at_token p t) rest) ∙ ap (λ ss. ss ++ rest) (sym noted) ∙ ap (λ r. more ++ queries_among bytes r ts) (sym place) in
    subst (λ ss. HasQueries bytes ss) joined all

pub owed_last : (bytes : Bytes) (at : ℕ) (p : Place) (found all : List Span) (a : Answer) → IsOwed bytes at p found → Comes bytes at a → is_last a ≡ true
    → all ≡ found ++ before_end p (length bytes) → HasQueries bytes all
owed_last bytes at p found all a owed comes last is =
    subst (λ ss. HasQueries bytes ss) (sym is) (owed [] a (no_token at comes) last)

pub found_all : {V E : Type 0} (r : Result V E) (show : V → List Span) (bytes : Bytes) (at : ℕ) (p : Place) (found : List Span) (a : Answer)
    → IsOwed bytes at p found → Comes bytes at a → is_last a ≡ true → IfOk r (λ v. show v ≡ found ++ before_end p (length bytes))
    → IfOk r (λ v. HasQueries bytes (show v))
found_all (Ok v) show bytes at p found a owed comes last is = owed_last bytes at p found (show v) a owed comes last is
found_all (Err e) show bytes at p found a owed comes last is = tt
