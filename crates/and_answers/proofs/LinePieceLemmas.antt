-- Lines that are kept as what each has behind the one before it.
use Rattle.std.proofs.Common.{◌≡◌, ◌≤◌, ◌<◌, ◌+◌, ℕ, zero, suc, List, [], ◌∷◌, ◌++◌, length, take, drop, get_or, refl, sym, ap, ◌∙◌, subst, arith}
use Rattle.std.proofs.lemmas.List.{take-append-drop, drop_more}
use Rattle.and_model.specs.Lines.{Bytes}
use Rattle.std.specs.Prelude.{Option, Some, None, IfSome}
use Rattle.and_answers.specs.LinePieces.{line_behind, lines_from, last_line_from, BeginsWhole, IsLastLine}
use Rattle.and_answers.specs.declared.piece.LinePiece.{LinePiece}

pub length_lines : (last : Bytes) (ps : List LinePiece) → length (lines_from last ps) ≡ length ps
length_lines last [] = refl
length_lines last (p ∷ ps) = let rest = length_lines (line_behind last p) ps in omega (arith, rest)

-- ---- one piece more

pub lines_more : (last : Bytes) (ps : List LinePiece) (p : LinePiece)
    → lines_from last (ps ++ p ∷ []) ≡ lines_from last ps ++ line_behind (last_line_from last ps) p ∷ []
lines_more last [] p = refl
lines_more last (q ∷ ps) p = ap (λ l. line_behind last q ∷ l) (lines_more (line_behind last q) ps p)

pub last_line_more : (last : Bytes) (ps : List LinePiece) (p : LinePiece)
    → last_line_from last (ps ++ p ∷ []) ≡ line_behind (last_line_from last ps) p
last_line_more last [] p = refl
last_line_more last (q ∷ ps) p = last_line_more (line_behind last q) ps p

pub begins_more : (ps : List LinePiece) (p : LinePiece) → BeginsWhole ps → p.common ≤ length (last_line_from [] ps) → BeginsWhole (ps ++ p ∷ [])
begins_more [] p begins within = omega (arith, within)
begins_more (q ∷ ps) p begins within = begins

-- A line is that of the piece which is what it has behind another one.
pub piece_line : (last line : Bytes) (p : LinePiece) → take p.common last ≡ take p.common line → p.rest ≡ drop p.common line
    → line_behind last p ≡ line
piece_line last line p same rest =
    ap (λ l. l ++ p.rest) same ∙ ap (λ l. take p.common line ++ l) rest ∙ take-append-drop p.common line

pub line_pushed : (ps new : List LinePiece) (last line : Bytes) (p : LinePiece) → new ≡ ps ++ p ∷ [] → last ≡ last_line_from [] ps
    → line_behind last p ≡ line → lines_from [] new ≡ lines_from [] ps ++ line ∷ []
line_pushed ps new last line p is last_is line_is =
    ap (lines_from []) is ∙ lines_more [] ps p
    ∙ ap (λ (l : Bytes). lines_from [] ps ++ l ∷ []) (ap (λ (l : Bytes). line_behind l p) (sym last_is) ∙ line_is)

pub last_pushed : (ps new : List LinePiece) (last line : Bytes) (p : LinePiece) → new ≡ ps ++ p ∷ [] → last ≡ last_line_from [] ps
    → line_behind last p ≡ line → p.common ≤ length last → BeginsWhole ps → IsLastLine new (Some line) × BeginsWhole new
last_pushed ps new last line p is last_is line_is within begins = (
  sym (ap (last_line_from []) is ∙ last_line_more [] ps p ∙ ap (λ (l : Bytes). line_behind l p) (sym last_is) ∙ line_is),
  subst (λ l. BeginsWhole l) (sym is) (begins_more ps p begins (subst (λ (l : Bytes). p.common ≤ length l) last_is within)),
)

-- ---- pieces behind others

pub whole_behind : (last : Bytes) (p : LinePiece) → p.common ≡ 0 → line_behind last p ≡ p.rest
whole_behind last p whole = ap (λ n. take n last ++ p.rest) whole

pub whole_pushed : (ps new : List LinePiece) (line : Bytes) (p : LinePiece) → new ≡ ps ++ p ∷ [] → p.common ≡ 0 → p.rest ≡ line
    → lines_from [] new ≡ lines_from [] ps ++ line ∷ []
whole_pushed ps new line p is whole rest =
    line_pushed ps new (last_line_from [] ps) line p is refl (whole_behind (last_line_from [] ps) p whole ∙ rest)

pub last_whole : (ps new : List LinePiece) (line : Bytes) (p : LinePiece) (last : Option Bytes) → new ≡ ps ++ p ∷ [] → p.common ≡ 0
    → p.rest ≡ line → IfSome last (λ (copy : Bytes). copy ≡ line) → BeginsWhole ps → IsLastLine new last × BeginsWhole new
last_whole ps new line p last is whole rest same begins = (
  here last same,
  subst (λ l. BeginsWhole l) (sym is) (begins_more ps p begins (omega (arith, whole))),
)
  where
    here : (o : Option Bytes) → IfSome o (λ (copy : Bytes). copy ≡ line) → IsLastLine new o
    here None copied = tt
    here (Some copy) copied =
        copied ∙ sym (ap (last_line_from []) is ∙ last_line_more [] ps p ∙ whole_behind (last_line_from [] ps) p whole ∙ rest)

pub lines_joined : (last : Bytes) (ps qs : List LinePiece) → BeginsWhole qs → lines_from last (ps ++ qs) ≡ lines_from last ps ++ lines_from [] qs
lines_joined last [] [] begins = refl
lines_joined last [] (q ∷ qs) begins = ap (λ l. l ∷ lines_from l qs) (whole_behind last q begins ∙ sym (whole_behind [] q begins))
lines_joined last (p ∷ ps) qs begins = ap (λ l. line_behind last p ∷ l) (lines_joined (line_behind last p) ps qs begins)

pub begins_joined : (ps qs : List LinePiece) → BeginsWhole ps → BeginsWhole qs → BeginsWhole (ps ++ qs)
begins_joined [] qs first second = second
begins_joined (p ∷ ps) qs first second = first

-- ---- a line is told from the last one before it that is whole

pub begins_here : (ps : List LinePiece) (d : LinePiece) → 0 < length ps → BeginsWhole ps → (get_or ps 0 d).common ≡ 0
begins_here [] d some begins = absurd (omega arith)
begins_here (p ∷ ps) d some begins = begins

from_line : (line : Bytes) (ps : List LinePiece) (n : ℕ) → n ≤ length ps → get_or (line ∷ lines_from line ps) n [] ≡ last_line_from line (take n ps)
from_line line ps zero within = refl
from_line line [] (suc n) within = absurd (omega arith)
from_line line (p ∷ ps) (suc n) within = from_line (line_behind line p) ps n (omega arith)

pub whole_told : (last : Bytes) (ps : List LinePiece) (place : ℕ) (d : LinePiece) → place < length ps → (get_or ps place d).common ≡ 0
    → get_or (lines_from last ps) place [] ≡ (get_or ps place d).rest
whole_told last [] place d within whole = absurd (omega arith)
whole_told last (p ∷ ps) zero d within whole = whole_behind last p whole
whole_told last (p ∷ ps) (suc place) d within whole = whole_told (line_behind last p) ps place d (omega arith) whole

pub line_told : (last : Bytes) (ps : List LinePiece) (first next to place : ℕ) (d : LinePiece) → next ≡ first + 1 → to ≡ place + 1
    → first ≤ place → place < length ps → (get_or ps first d).common ≡ 0
    → get_or (lines_from last ps) place [] ≡ last_line_from (get_or ps first d).rest (drop next (take to ps))
line_told last [] first next to place d next_is to_is before within whole = absurd (omega arith)
line_told last (p ∷ ps) zero next zero place d next_is to_is before within whole = absurd (omega (arith, to_is))
line_told last (p ∷ ps) zero next (suc to) place d next_is to_is before within whole =
    let one : next ≡ 1 = omega (arith, next_is) in
    let here : place ≡ to = omega (arith, to_is) in
    ap (λ (l : Bytes). get_or (l ∷ lines_from l ps) place []) (whole_behind last p whole) ∙ from_line p.rest ps place (omega (arith, within))
    ∙ ap (λ k. last_line_from p.rest (take k ps)) here ∙ ap (λ i. last_line_from p.rest (drop i (p ∷ take to ps))) (sym one)
line_told last (p ∷ ps) (suc first) zero to place d next_is to_is before within whole = absurd (omega (arith, next_is))
line_told last (p ∷ ps) (suc first) (suc next) zero place d next_is to_is before within whole = absurd (omega (arith, to_is))
line_told last (p ∷ ps) (suc first) (suc next) (suc to) zero d next_is to_is before within whole = absurd (omega (arith, before))
line_told last (p ∷ ps) (suc first) (suc next) (suc to) (suc place) d next_is to_is before within whole =
    line_told (line_behind last p) ps first next to place d (omega (arith, next_is)) (omega (arith, to_is)) (omega (arith, before))
    (omega (arith, within)) whole

-- one piece more of those behind it
pub one_told : (ps : List LinePiece) (i : ℕ) (p : LinePiece) (line new whole : Bytes) → i < length ps → p ≡ get_or ps i p
    → new ≡ take p.common line ++ p.rest → last_line_from line (drop i ps) ≡ whole → last_line_from new (drop (i + 1) ps) ≡ whole
one_told ps i p line new whole within at is so_far =
    let next : drop i ps ≡ p ∷ drop (i + 1) ps = drop_more ps i p within ∙ ap (λ (q : LinePiece). q ∷ drop (i + 1) ps) (sym at) in
    ap (λ (l : Bytes). last_line_from l (drop (i + 1) ps)) is ∙ ap (last_line_from line) (sym next) ∙ so_far
