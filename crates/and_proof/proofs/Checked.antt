-- The code of a proof is that of its lines.
use Rattle.std.proofs.Common.{ℕ, ◌≡◌, ◌<◌, ◌≤◌, ◌^◌, List, [], ◌∷◌, ◌++◌, append_assoc, length, map, not, nat_eq, refl, ap, sym, ◌∙◌, arith}
use Rattle.std.proofs.Common.{Bool, true, false, codes, Contains}
use Rattle.std.specs.Prelude.{All}
use Rattle.std.proofs.lemmas.List.Elements.{All-nil, All-cons, All-head, All-tail}
use Rattle.and_model.specs.Terms.{Path, Term}
use Rattle.and_model.specs.Programs.{Program}
use Rattle.and_model.specs.Trees.{Agenda, Tree, done, left, by, equate, reckon, code}
use Rattle.and_model.specs.Lines.{Bytes, goal_term, line_of}
use Rattle.and_model.specs.Terms.{Substitution, apply}
use Rattle.and_laws.proofs.Deciding.{of_bounds}
use Rattle.and_laws.proofs.Unfolding.{unfolding_code}
use Rattle.and_proof.specs.Documents.{mark}
use Rattle.and_proof.specs.Entries.{Entry, IsEntry, entry_lines, HasEntries}
use Rattle.and_proof.specs.Proofs.{Replaced, all_replaced, solved_by, is_alternative, goal_text, named_with, call_line, call_lines, named_along, proof_of}
use Rattle.and_proof.specs.Proofs.{HasProof, ProofText}
use Rattle.and_proof.proofs.PlainBytes.{passed_plain, shown_plain}

-- the lines of calls by their parts
abbrev entries : Program → List (Path × ℕ) → List Replaced → List Entry
entries P seen [] = []
entries P seen (r ∷ rs) =
    let other = is_alternative P r.clause in
    let vs = named_with other seen r.call in
    record { depth = r.depth; clause = r.clause; call = goal_text other P.names vs r.call } ∷ entries P vs rs

lines_are : (P : Program) (seen : List (Path × ℕ)) (rs : List Replaced) → entry_lines (entries P seen rs) ≡ call_lines P seen rs
lines_are P seen [] = refl
lines_are P seen (r ∷ rs) =
    let vs = named_with (is_alternative P r.clause) seen r.call in
    ap (λ (l : Bytes). call_line P vs r ++ l) (lines_are P vs rs)

clauses_are : (P : Program) (seen : List (Path × ℕ)) (rs : List Replaced)
    → map (λ (e : Entry). e.clause) (entries P seen rs) ≡ map (λ (r : Replaced). r.clause) rs
clauses_are P seen [] = refl
clauses_are P seen (r ∷ rs) = ap (λ l. r.clause ∷ l) (clauses_are P (named_with (is_alternative P r.clause) seen r.call) rs)

solved_clauses : (s : Substitution) (rs : List Replaced) → map (λ (r : Replaced). r.clause) (map (solved_by s) rs) ≡ map (λ (r : Replaced). r.clause) rs
solved_clauses s [] = refl
solved_clauses s (r ∷ rs) = ap (λ l. r.clause ∷ l) (solved_clauses s rs)

tree_clauses : {P : Program} {ag : Agenda} (t : Tree P ag) → map (λ (r : Replaced). r.clause) (all_replaced t) ≡ code t
tree_clauses done = refl
tree_clauses (left t) = tree_clauses t
tree_clauses (by c h t) = ap (λ l. c ∷ l) (tree_clauses t)
tree_clauses (equate t) = tree_clauses t
tree_clauses (reckon t) = tree_clauses t

abbrev HasFew : ℕ → Replaced → Type 0
HasFew n r = r.clause ≤ n

tree_few : {P : Program} {ag : Agenda} (t : Tree P ag) → All (HasFew (length P.clauses)) (all_replaced t)
tree_few {P} done = All-nil (HasFew (length P.clauses))
tree_few (left t) = tree_few t
tree_few {P} (by {q = q} {g = g} c h t) =
    All-cons (HasFew (length P.clauses)) (record { depth = length q; clause = c; call = g }) (all_replaced t) (of_bounds P g c h).1 (tree_few t)
tree_few (equate t) = tree_few t
tree_few (reckon t) = tree_few t

solved_few : (n : ℕ) (s : Substitution) (rs : List Replaced) → All (HasFew n) rs → All (HasFew n) (map (solved_by s) rs)
solved_few n s [] all = All-nil (HasFew n)
solved_few n s (r ∷ rs) all =
    All-cons (HasFew n) (solved_by s r) (map (solved_by s) rs) (All-head (HasFew n) r rs all) (solved_few n s rs (All-tail (HasFew n) r rs all))

goal_plain : (other : Bool) (names : List Bytes) (vs : List (Path × ℕ)) (t : Term) → Contains (goal_text other names vs t) 10 → ⊥
goal_plain true names vs t = passed_plain (λ b. not (nat_eq b 10)) (codes ";") refl refl
goal_plain false names vs t = shown_plain names vs t

are_entries : (P : Program) (seen : List (Path × ℕ)) (n : ℕ) (rs : List Replaced) → n < 2 ^ 16 → All (HasFew n) rs
    → All IsEntry (entries P seen rs)
are_entries P seen n [] few all = All-nil IsEntry
are_entries P seen n (r ∷ rs) few all =
    let other = is_alternative P r.clause in
    let vs = named_with other seen r.call in
    let low = All-head (HasFew n) r rs all in
    All-cons IsEntry (record { depth = r.depth; clause = r.clause; call = goal_text other P.names vs r.call }) (entries P vs rs)
    (record { clause = omega (arith, low, few); call = goal_plain other P.names vs r.call })
    (are_entries P vs n rs few (All-tail (HasFew n) r rs all))

mark_plain : Contains mark 10 → ⊥
mark_plain = passed_plain (λ b. not (nat_eq b 10)) mark refl refl

-- The text of a code's proof has lines of calls, whose clauses are the code.
pub text_entries : (P : Program) (cs : List ℕ) (text : Bytes) → length P.clauses < 2 ^ 16 → ProofText P cs text
    → (es : List Entry) × HasEntries text es × (map (λ (e : Entry). e.clause) es ≡ cs)
text_entries P cs text few x =
    let s : Substitution = x.solution in
    let goals : List Term = map (λ g. apply s (goal_term g)) x.waits in
    let rs : List Replaced = map (solved_by s) (all_replaced x.tree) in
    let seen : List (Path × ℕ) = named_along P s goals in
    let es : List Entry = entries P seen rs in
    let last : Bytes = line_of P s goals ++ 10 ∷ [] in
    let lines : Bytes = call_lines P seen rs in
    let inner : lines ++ codes "%% line " ++ line_of P s goals ++ 10 ∷ [] ≡ entry_lines es ++ (codes "%% line " ++ last) =
    append_assoc (lines ++ codes "%% line ") (line_of P s goals) (10 ∷ []) ∙ append_assoc lines (codes "%% line ") last
    ∙ ap (λ (b : Bytes). b ++ (codes "%% line " ++ last)) (sym (lines_are P seen rs)) in
    let parts : proof_of P s goals rs ≡ mark ++ 10 ∷ (entry_lines es ++ (codes "%% line " ++ last)) =
    ap (λ (b : Bytes). mark ++ 10 ∷ b) inner in
    let is : text ≡ mark ++ 10 ∷ (entry_lines es ++ (codes "%% line " ++ last)) = x.text_is ∙ parts in (
      es,
      (
        are_entries P seen (length P.clauses) rs few (solved_few (length P.clauses) s (all_replaced x.tree) (tree_few x.tree)),
        (mark, last, mark_plain, is),
      ),
      clauses_are P seen rs ∙ solved_clauses s (all_replaced x.tree) ∙ tree_clauses x.tree ∙ (unfolding_code P cs x.tree x.unfolds).0,
    )

-- A code with a proof's text has an outcome and is not too heavy.
pub text_has_proof : (P : Program) (cs : List ℕ) (text : Bytes) → ProofText P cs text → HasProof P cs
text_has_proof P cs text x = (x.tree, x.unfolds, (x.solved, x.waits, x.whole, x.closed, (let m = x.general in (x.solution, m.0))), x.fits)
