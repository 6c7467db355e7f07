-- Lines one after another, as a text of the grammar.
use Rattle.std.proofs.Common.{ℕ, ◌+◌, ◌≡◌, true, List, [], ◌∷◌, ◌++◌, length, refl, sym, ap, subst, ◌∙◌}
use Rattle.and_model.specs.Lines.{Bytes}
use Rattle.and_language.specs.Words.{Placed}
use Rattle.and_language.specs.Grammar.{clause, query, Statement, IsText}
use Rattle.and_automaton.proofs.Texts.{statement, joined, one_clause}
use Rattle.and_gen.proofs.Pieces.{Piece, text_of, AllFit, placed_of, after, text-append, placed-append, fit-append, IsGap, newline}
use Rattle.and_gen.proofs.Lines.{Line, edge, ends, goes_on, asks, line_text, pieces, IsSmall, spelled, fit, line_term, sort_in, runs}

-- the bytes of lines, each with a newline
abbrev pub text : List Line → Bytes
text [] = []
text (l ∷ ls) = line_text l ++ 10 ∷ text ls

-- their pieces: a newline stands before each but the first, and behind the last
abbrev pub all_pieces : Bytes → List Line → List Piece
all_pieces g [] = []
all_pieces g (l ∷ ls) = pieces g l ++ all_pieces (10 ∷ []) ls

others_spelled : (ls : List Line) → text_of (all_pieces (10 ∷ []) ls) (10 ∷ []) ≡ 10 ∷ text ls
others_spelled [] = refl
others_spelled (l ∷ ls) =
    text-append (pieces (10 ∷ []) l) (all_pieces (10 ∷ []) ls) (10 ∷ []) ∙ spelled (10 ∷ []) l (text_of (all_pieces (10 ∷ []) ls) (10 ∷ []))
    ∙ ap (λ bs. 10 ∷ (line_text l ++ bs)) (others_spelled ls)

pub all_spelled : (l : Line) (ls : List Line) → text_of (all_pieces [] (l ∷ ls)) (10 ∷ []) ≡ text (l ∷ ls)
all_spelled l ls =
    text-append (pieces [] l) (all_pieces (10 ∷ []) ls) (10 ∷ []) ∙ spelled [] l (text_of (all_pieces (10 ∷ []) ls) (10 ∷ []))
    ∙ ap (λ bs. line_text l ++ bs) (others_spelled ls)

abbrev pub AllSmall : List Line → Type 0
AllSmall [] = Unit {0}
AllSmall (l ∷ ls) = IsSmall l × AllSmall ls

pub all_fit : (g : Bytes) → IsGap g → (ls : List Line) → AllSmall ls → AllFit (all_pieces g ls) (10 ∷ [])
all_fit g gap [] small = tt
all_fit g gap (l ∷ ls) small =
    fit-append (pieces g l) (all_pieces (10 ∷ []) ls) (10
    ∷ []) (subst (AllFit (pieces g l)) (sym (others_spelled ls)) (fit g gap l (text ls) small.0))
    (all_fit (10 ∷ []) newline ls small.1)

-- a clause or query for each line
abbrev pub statements : ℕ → Bytes → List Line → List Statement
statements p g [] = []
statements p g (l ∷ ls) = statement (sort_in l) (line_term l) (p + length g) ∷ statements (after p (pieces g l)) (10 ∷ []) ls

one_text : (p : ℕ) (g : Bytes) (l : Line) → IsSmall l
    → IsText true (placed_of p (pieces g l)) (statement (sort_in l) (line_term l) (p + length g) ∷ [])
one_text p g (edge e) small = one_clause true _ _ clause (line_term (edge e)) (runs p g (edge e) small)
one_text p g ends small = one_clause true _ _ clause (line_term ends) (runs p g ends small)
one_text p g goes_on small = one_clause true _ _ clause (line_term goes_on) (runs p g goes_on small)
one_text p g (asks n) small = one_clause true _ _ query (line_term (asks n)) (runs p g (asks n) small)

pub is_text : (p : ℕ) (g : Bytes) (ls : List Line) → AllSmall ls → IsText true (placed_of p (all_pieces g ls)) (statements p g ls)
is_text p g [] small = IsText.nothing
is_text p g (l ∷ ls) small =
    let next = after p (pieces g l) in
    subst (λ (ps : List Placed). IsText true ps (statements p g (l ∷ ls))) (sym (placed-append p (pieces g l) (all_pieces (10 ∷ []) ls)))
    (joined true (placed_of p (pieces g l)) (placed_of next (all_pieces (10
    ∷ []) ls)) (statement (sort_in l) (line_term l) (p + length g) ∷ []) (statements next (10 ∷ []) ls)
    (one_text p g l small.0) (is_text next (10 ∷ []) ls small.1))
