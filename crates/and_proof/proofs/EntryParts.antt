-- The parts of the lines of a proof, as they are read.
use Rattle.std.proofs.Common.{ℕ, ◌≡◌, List, [], ◌∷◌, ◌++◌, append_assoc, append-nil, map, get_or, not, nat_eq, refl, ap}
use Rattle.std.proofs.Common.{sym, ◌∙◌, subst, inl, inr, arith, codes, Contains}
use Rattle.std.specs.Prelude.{All}
use Rattle.std.specs.Fmt.{decimal}
use Rattle.std.proofs.lemmas.List.{map-append}
use Rattle.std.proofs.lemmas.List.Elements.{All-head, All-tail}
use Rattle.and_model.specs.Lines.{Bytes}
use Rattle.and_laws.proofs.Ordered.{contains_first, contains_cases, contains_none}
use Rattle.and_proof.specs.Entries.{Entry, IsEntry, entry_text, entry_line, entry_lines}
use Rattle.and_proof.proofs.PlainBytes.{IsPlain, passed_plain, both_plain, byte_plain, decimal_plain, decimal_digits, decimal_first, no_digit}

-- the text of a line, and what stands behind its mark, behind its depth and behind its clause
pub line_parts : (e : Entry) (tail : Bytes) → entry_line e ++ tail ≡ entry_text e ++ 10 ∷ tail
line_parts e tail = append_assoc (entry_text e) (10 ∷ []) tail

abbrev pub behind_mark : Entry → Bytes
behind_mark e = decimal e.depth ++ 32 ∷ decimal e.clause ++ 32 ∷ e.call

abbrev pub behind_depth : Entry → Bytes
behind_depth e = decimal e.clause ++ 32 ∷ e.call

pub mark_parts : (e : Entry) → entry_text e ≡ codes "%%" ++ 32 ∷ behind_mark e
mark_parts e = refl

pub depth_parts : (e : Entry) → behind_mark e ≡ decimal e.depth ++ 32 ∷ behind_depth e
depth_parts e = append_assoc (decimal e.depth) (32 ∷ decimal e.clause) (32 ∷ e.call)

-- No part but the call has a space, and no text of a line a newline.
pub mark_closed : Contains (codes "%%") 32 → ⊥
mark_closed h = elim (contains_cases 37 32 (37 ∷ []) h) [
  | inl e ↦ absurd (omega (arith, e))
  | inr i ↦ elim (contains_cases 37 32 [] i) [
    | inl e ↦ absurd (omega (arith, e))
    | inr j ↦ contains_none 32 j
  ]
]

pub number_closed : (n : ℕ) → Contains (decimal n) 32 → ⊥
number_closed n = no_digit (decimal n) 32 (decimal_digits n) (omega arith)

pub text_plain : (e : Entry) → IsEntry e → IsPlain (entry_text e)
text_plain e is =
    both_plain (codes "%% " ++ decimal e.depth ++ 32 ∷ decimal e.clause) (32 ∷ e.call)
    (both_plain (codes "%% " ++ decimal e.depth) (32 ∷ decimal e.clause)
    (both_plain (codes "%% ") (decimal e.depth) (passed_plain (λ b. not (nat_eq b 10)) (codes "%% ") refl refl) (decimal_plain e.depth))
    (byte_plain 32 (decimal e.clause) refl (decimal_plain e.clause)))
    (byte_plain 32 e.call refl is.call)

-- The outcome's line is no line of a call.
pub not_last : (e : Entry) (tail other : Bytes) → entry_line e ++ tail ≡ codes "%% line " ++ other → ⊥
not_last e tail other is =
    let (b, rest, first) = decimal_first e.depth in
    let low = (decimal_digits e.depth b (subst (λ l. Contains l b) (sym first) (contains_first b rest))).1 in
    let here : get_or (entry_line e ++ tail) 3 0 ≡ b =
    ap (λ (d : Bytes). get_or (codes "%% " ++ d ++ 32 ∷ decimal e.clause ++ 32 ∷ e.call ++ 10 ∷ [] ++ tail) 3 0) first in
    let same : b ≡ 108 = sym here ∙ ap (λ l. get_or l 3 0) is in omega (arith, same, low)

-- ---- Entries that are read one by one

-- Some of a text's entries were read, and the text goes on with the others.
pub record EntriesLeft (es : List Entry) (code : List ℕ) (now : Bytes) : Type 0 where
  pub done : List Entry
  pub rest : List Entry
  pub last : Bytes
  pub all : es ≡ done ++ rest
  pub code_is : code ≡ map (λ (e : Entry). e.clause) done
  pub entries : All IsEntry rest
  pub now_is : now ≡ entry_lines rest ++ (codes "%% line " ++ last)

-- One more was read.
pub one_read : (es : List Entry) (code new : List ℕ) (now after : Bytes) (n : ℕ) → EntriesLeft es code now
    → ((e : Entry) (tail : Bytes) → IsEntry e → now ≡ entry_line e ++ tail → (n ≡ e.clause) × (after ≡ tail))
    → ((tail : Bytes) → now ≡ codes "%% line " ++ tail → ⊥) → new ≡ code ++ n ∷ [] → EntriesLeft es new after
one_read es code new now after n x call last more = at x.rest x.all x.entries x.now_is
  where
    at : (rest : List Entry) → es ≡ x.done ++ rest → All IsEntry rest → now ≡ entry_lines rest ++ (codes "%% line " ++ x.last) → EntriesLeft es new after
    at [] all entries is = absurd (last x.last is)
    at (e ∷ rest) all entries is =
        let tail : Bytes = entry_lines rest ++ (codes "%% line " ++ x.last) in
        let read = call e tail (All-head IsEntry e rest entries) (is ∙ append_assoc (entry_line e) (entry_lines rest) (codes "%% line " ++ x.last)) in
        let clauses = map-append (λ (d : Entry). d.clause) x.done (e ∷ []) in
        record {
          done = x.done ++ e ∷ [];
          rest = rest;
          last = x.last;
          all = all ∙ sym (append_assoc x.done (e ∷ []) rest);
          code_is = more ∙ ap (λ l. l ++ n ∷ []) x.code_is ∙ ap (λ m. map (λ (d : Entry). d.clause) x.done ++ m ∷ []) read.0 ∙ sym clauses;
          entries = All-tail IsEntry e rest entries;
          now_is = read.1;
        }

-- Where no more is read, all were.
pub all_read : (es : List Entry) (code : List ℕ) (now : Bytes) → EntriesLeft es code now
    → ((e : Entry) (tail : Bytes) → IsEntry e → now ≡ entry_line e ++ tail → ⊥) → code ≡ map (λ (e : Entry). e.clause) es
all_read es code now x none_is = at x.rest x.all x.entries x.now_is
  where
    at : (rest : List Entry) → es ≡ x.done ++ rest → All IsEntry rest → now ≡ entry_lines rest ++ (codes "%% line " ++ x.last)
        → code ≡ map (λ (e : Entry). e.clause) es
    at [] all entries is = x.code_is ∙ ap (map (λ (e : Entry). e.clause)) (sym (all ∙ append-nil x.done))
    at (e ∷ rest) all entries is =
        absurd (none_is e (entry_lines rest ++ (codes "%% line " ++ x.last)) (All-head IsEntry e rest entries)
        (is ∙ append_assoc (entry_line e) (entry_lines rest) (codes "%% line " ++ x.last)))
