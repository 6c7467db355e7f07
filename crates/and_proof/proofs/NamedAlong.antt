-- Names that are given along a line, and lines of calls.
use Rattle.std.proofs.Common.{ℕ, zero, suc, ◌≡◌, ◌+◌, ◌<◌, ◌≤◌, cond, List, [], ◌∷◌, ◌++◌, append_assoc, drop, length, map, get_or, refl, ap, sym}
use Rattle.std.proofs.Common.{◌∙◌, subst, inl, inr, arith}
use Rattle.std.proofs.Math.Seq.{drop-nil}
use Rattle.and_model.specs.Terms.{Path, Term, variables_of, Substitution}
use Rattle.and_model.specs.Programs.{Program}
use Rattle.and_model.specs.Lines.{Bytes, first_seen, variables_along, shown_variables, begins_underscore}
use Rattle.and_model.specs.declared.reference.Ref.{Ref}
use Rattle.and_cells.specs.Ranges.{NamedProgram}
use Rattle.and_laws.proofs.Equality.{bool_cases}
use Rattle.and_print.proofs.Owing.{seen_in_turn}
use Rattle.and_print.proofs.Showing.{shown_from, passed_over, shown_here, shown_end, shown_all}
use Rattle.and_proof.specs.Proofs.{Replaced, is_alternative, named_with, call_line, call_lines}
use Rattle.and_proof.specs.Written.{IsCallRead, AreCallsRead, named_if_shown}
use Rattle.and_proof.specs.declared.goals.Taken.{Taken}

-- the variables of these terms have still to be named
abbrev pub NamesLeft : (all rest : List Term) → (seen now : List (Path × ℕ)) → Type 0
NamesLeft all rest seen now = first_seen now (variables_along rest) ≡ first_seen seen (variables_along all)

-- One more term was named.
pub one_named : (all rest : List Term) (t : Term) (seen now next : List (Path × ℕ)) → NamesLeft all (t ∷ rest) seen now
    → next ≡ first_seen now (variables_of t) → NamesLeft all rest seen next
one_named all rest t seen now next left e =
    ap (λ vs. first_seen vs (variables_along rest)) e ∙ sym (seen_in_turn now (variables_of t) (variables_along rest)) ∙ left

-- A variable of the query was named, if it is shown.
module _ (written : List Bytes) (s : Substitution) where
  abbrev pub values_from : ℕ → List Term
  values_from n = map (λ (v : Bytes × ℕ). s [] v.1) (shown_from written n)

  pub value_named : (n : ℕ) (seen now next : List (Path × ℕ)) → n < length written → NamesLeft (values_from 0) (values_from n) seen now
      → next ≡ named_if_shown (get_or written n []) now (s [] n) → NamesLeft (values_from 0) (values_from (n + 1)) seen next
  value_named n seen now next below left e = elim (bool_cases (begins_underscore (get_or written n []))) [
    | inl is ↦
        let over = passed_over written n (get_or written n []) below refl (begins_underscore (get_or written n [])) refl is in
        let same : next ≡ now = e ∙ ap (λ b. cond b now (first_seen now (variables_of (s [] n)))) is in
        ap (λ vs. first_seen vs (variables_along (values_from (n + 1)))) same
        ∙ sym (ap (λ (l : List (Bytes × ℕ)). first_seen now (variables_along (map (λ (v : Bytes × ℕ). s [] v.1) l))) over) ∙ left
    | inr other ↦
        let opened = shown_here written n (get_or written n []) below refl (begins_underscore (get_or written n [])) refl other in
        let same : next ≡ first_seen now (variables_of (s [] n)) = e ∙ ap (λ b. cond b now (first_seen now (variables_of (s [] n)))) other in
        one_named (values_from 0) (values_from (n + 1)) (s [] n) seen now next
        (subst (λ (l : List (Bytes × ℕ)). NamesLeft (values_from 0) (map (λ (v : Bytes × ℕ). s [] v.1) l) seen now) opened left) same
  ]

  pub values_named : (n : ℕ) (seen now : List (Path × ℕ)) → length written ≤ n → NamesLeft (values_from 0) (values_from n) seen now
      → now ≡ first_seen seen (variables_along (map (λ (v : Bytes × ℕ). s [] v.1) (shown_variables 0 written)))
  values_named n seen now past left =
      sym (ap (λ (l : List (Bytes × ℕ)). first_seen now (variables_along (map (λ (v : Bytes × ℕ). s [] v.1) l))) (shown_end written n past)) ∙ left
      ∙ ap (λ (l : List (Bytes × ℕ)). first_seen seen (variables_along (map (λ (v : Bytes × ℕ). s [] v.1) l))) (shown_all written)

along_both : (ts us : List Term) → variables_along (ts ++ us) ≡ variables_along ts ++ variables_along us
along_both [] us = refl
along_both (t ∷ ts) us =
    ap (λ l. variables_of t ++ l) (along_both ts us) ∙ sym (append_assoc (variables_of t) (variables_along ts) (variables_along us))

-- Names are given along some terms and then along others.
pub named_in_turn : (ts us : List Term) (seen mid now : List (Path × ℕ)) → mid ≡ first_seen seen (variables_along ts)
    → now ≡ first_seen mid (variables_along us) → now ≡ first_seen seen (variables_along (ts ++ us))
named_in_turn ts us seen mid now first second =
    second ∙ ap (λ vs. first_seen vs (variables_along us)) first ∙ sym (seen_in_turn seen (variables_along ts) (variables_along us))
    ∙ ap (first_seen seen) (sym (along_both ts us))

-- ---- Lines of calls

-- what is put behind a text in two steps
pub onto : (old x y mid new : Bytes) → mid ≡ old ++ x → new ≡ mid ++ y → new ≡ old ++ (x ++ y)
onto old x y mid new first second = second ∙ ap (λ (l : Bytes). l ++ y) first ∙ append_assoc old x y

-- the lines of these calls have still to be written
abbrev pub LinesLeft : Program → (all rest : List Replaced) → (seen now : List (Path × ℕ)) → (old new : Bytes) → Type 0
LinesLeft P all rest seen now old new = new ++ call_lines P now rest ≡ old ++ call_lines P seen all

-- One more was written.
pub one_written : (P : Program) (all rest : List Replaced) (r : Replaced) (seen now next : List (Path × ℕ)) (old mid new : Bytes)
    → LinesLeft P all (r ∷ rest) seen now old mid → next ≡ named_with (is_alternative P r.clause) now r.call → new ≡ mid ++ call_line P next r
    → LinesLeft P all rest seen next old new
one_written P all rest r seen now next old mid new left e f =
    ap (λ (b : Bytes). b ++ call_lines P next rest) f ∙ append_assoc mid (call_line P next r) (call_lines P next rest)
    ∙ ap (λ vs. mid ++ (call_line P vs r ++ call_lines P vs rest)) e ∙ left

-- a call that is read, and those behind it
pub record CallAt (P : NamedProgram) (row : List Ref) (e : Taken) (n : ℕ) (rs : List Replaced) : Type 0 where
  pub call : Replaced
  pub left : drop n rs ≡ call ∷ drop (n + 1) rs
  pub read : IsCallRead P row e call

pub call_at : (P : NamedProgram) (row : List Ref) (es : List Taken) (rs : List Replaced) (n : ℕ) (d : Taken) → n < length es
    → AreCallsRead P row es rs → CallAt P row (get_or es n d) n rs
call_at P row [] rs n d l a = absurd (omega arith)
call_at P row (e ∷ es) [] n d l a = elim a [ ]
call_at P row (e ∷ es) (r ∷ rs) zero d l a = record { call = r; left = refl; read = a.0 }
call_at P row (e ∷ es) (r ∷ rs) (suc n) d l a =
    let x = call_at P row es rs n d (omega arith) a.1 in
    let one : suc n + 1 ≡ suc (n + 1) = omega arith in
    record { call = x.call; left = x.left ∙ ap (λ (k : ℕ). x.call ∷ drop k (r ∷ rs)) (sym one); read = x.read }

-- as many calls as were replaced
pub calls_end : (P : NamedProgram) (row : List Ref) (es : List Taken) (rs : List Replaced) (n : ℕ) → length es ≤ n → AreCallsRead P row es rs
    → drop n rs ≡ []
calls_end P row [] [] n l a = drop-nil n
calls_end P row [] (r ∷ rs) n l a = elim a [ ]
calls_end P row (e ∷ es) [] n l a = elim a [ ]
calls_end P row (e ∷ es) (r ∷ rs) zero l a = absurd (omega arith)
calls_end P row (e ∷ es) (r ∷ rs) (suc n) l a = calls_end P row es rs n (omega arith) a.1
