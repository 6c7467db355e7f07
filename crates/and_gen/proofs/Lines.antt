-- The lines of the generated text, as pieces, words and terms.
use Rattle.std.proofs.Common.{ℕ, ◌≡◌, ◌<◌, true, false, leb, List, [], ◌∷◌, ◌++◌, refl, sym, ap, ◌∙◌, arith, Some, pos, codes, append_assoc}
use Rattle.std.specs.Fmt.{decimal}
use Rattle.and_model.specs.Lines.{Bytes}
use Rattle.and_syntax.specs.Written as written
use Rattle.and_syntax.specs.Written.{Written, Many}
use Rattle.and_language.specs.Grammar.{Sort, clause, query}
use Rattle.and_automaton.specs.Machine.{start, over, run, words_of}
use Rattle.and_gen.specs.Layered as generated
use Rattle.and_gen.proofs.Pieces.{Piece, text_of, AllFit, placed_of, IsGap, no_gap, blank, named, signed, variable, number, opening, closing, open_list}
use Rattle.and_gen.proofs.Pieces.{close_list, comma, bar, stop, fits_name, fits_variable, fits_symbol, fits_number, fits_open, fits_close}
use Rattle.and_gen.proofs.Pieces.{fits_open_list, fits_close_list, fits_comma, fits_bar, fits_stop}

-- an edge between two places
pub record Edge : Type 0 where
  pub rail : ℕ
  pub at : ℕ
  pub next_rail : ℕ
  pub next : ℕ

-- a line of the text
pub data Line : Type 0 where
  edge : Edge → Line
  ends : Line
  goes_on : Line
  asks : ℕ → Line

-- its bytes, without the newline
abbrev pub line_text : Line → Bytes
line_text (edge e) = codes "edge(" ++ generated.place e.rail e.at ++ codes "," ++ generated.place e.next_rail e.next ++ codes ")."
line_text ends = codes "path(X,X,[X])."
line_text goes_on = codes "path(X,Z,[X|P]) :- edge(X,Y), path(Y,Z,P)."
line_text (asks n) = codes "?- path(" ++ generated.place 0 0 ++ codes "," ++ generated.place 2 n ++ codes ",P)."

-- a place, before other pieces
abbrev place_pieces : ℕ → ℕ → List Piece → List Piece
place_pieces rail at xs = named [] (codes "n") ∷ opening ∷ number rail ∷ comma ∷ number at ∷ closing ∷ xs

-- its pieces, where that stands before it
abbrev pub pieces : Bytes → Line → List Piece
pieces g (edge e) = named g (codes "edge") ∷ opening ∷ place_pieces e.rail e.at (comma ∷ place_pieces e.next_rail e.next (closing
    ∷ stop ∷ []))
pieces g ends =
    named g (codes "path") ∷ opening ∷ variable (codes "X") ∷ comma ∷ variable (codes "X") ∷ comma ∷ open_list ∷ variable (codes "X")
    ∷ close_list ∷ closing ∷ stop ∷ []
pieces g goes_on =
    named g (codes "path") ∷ opening ∷ variable (codes "X") ∷ comma ∷ variable (codes "Z") ∷ comma
    ∷ open_list ∷ variable (codes "X") ∷ bar ∷ variable (codes "P") ∷ close_list ∷ closing
    ∷ signed (codes " ") (codes ":-") ∷ named (codes " ") (codes "edge") ∷ opening ∷ variable (codes "X") ∷ comma
    ∷ variable (codes "Y") ∷ closing ∷ comma
    ∷ named (codes " ") (codes "path") ∷ opening ∷ variable (codes "Y") ∷ comma ∷ variable (codes "Z") ∷ comma ∷ variable (codes "P")
    ∷ closing ∷ stop ∷ []
pieces g (asks n) =
    signed g (codes "?-") ∷ named (codes " ") (codes "path") ∷ opening ∷ place_pieces 0 0 (comma ∷ place_pieces 2 n (comma
    ∷ variable (codes "P") ∷ closing ∷ stop ∷ []))

-- the numbers of a line are small
abbrev pub IsSmall : Line → Type 0
IsSmall (edge e) = (e.rail < 1000) × (e.at < 1000) × (e.next_rail < 1000) × (e.next < 1000)
IsSmall ends = Unit {0}
IsSmall goes_on = Unit {0}
IsSmall (asks n) = n < 1000

five : (a b c d e rest : Bytes) → a ++ b ++ c ++ d ++ e ++ rest ≡ a ++ (b ++ (c ++ (d ++ (e ++ rest))))
five a b c d e rest = simp append_assoc

place_before : (rail at : ℕ) (rest : Bytes) → generated.place rail at ++ rest ≡ 110 ∷ 40 ∷ (decimal rail ++ 44 ∷ (decimal at ++ 41 ∷ rest))
place_before rail at rest = five (codes "n(") (decimal rail) (codes ",") (decimal at) (codes ")") rest

-- two places between other bytes
two_places : (front back : Bytes) (a b c d : ℕ) (rest : Bytes)
    → front ++ generated.place a b ++ codes "," ++ generated.place c d ++ back ++ rest
    ≡ front ++ (110 ∷ 40 ∷ (decimal a ++ 44 ∷ (decimal b ++ 41 ∷ 44 ∷ 110 ∷ 40 ∷ (decimal c ++ 44 ∷ (decimal d ++ 41 ∷ (back ++ rest))))))
two_places front back a b c d rest =
    five front (generated.place a b) (codes ",") (generated.place c d) back rest
    ∙ ap (λ bs. front ++ bs) (place_before a b (44 ∷ (generated.place c d ++ (back ++ rest)))
    ∙ ap (λ bs. 110 ∷ 40 ∷ (decimal a ++ 44 ∷ (decimal b ++ 41 ∷ 44 ∷ bs))) (place_before c d (back ++ rest)))

-- the bytes are those of the pieces
pub spelled : (g : Bytes) (l : Line) (rest : Bytes) → text_of (pieces g l) rest ≡ g ++ (line_text l ++ rest)
spelled g (edge e) rest = ap (λ bs. g ++ bs) (sym (two_places (codes "edge(") (codes ").") e.rail e.at e.next_rail e.next rest))
spelled g ends rest = refl
spelled g goes_on rest = refl
spelled g (asks n) rest = ap (λ bs. g ++ bs) (sym (two_places (codes "?- path(") (codes ",P).") 0 0 2 n rest))

place_fits : (rail at : ℕ) (xs : List Piece) (rest : Bytes) → rail < 1000 → at < 1000 → AllFit xs rest
    → AllFit (place_pieces rail at xs) rest
place_fits rail at xs rest small few h = (
  fits_name [] (codes "n") _ no_gap refl refl refl,
  (
    fits_open _,
    (
      fits_number rail _ small refl refl,
      (
        fits_comma _,
        (fits_number at _ few refl refl, (fits_close _, h)),
      ),
    ),
  ),
)

-- they fit, where a newline follows
pub fit : (g : Bytes) → IsGap g → (l : Line) (rest : Bytes) → IsSmall l → AllFit (pieces g l) (10 ∷ rest)
fit g gap (edge e) rest small =
    let last : List Piece = closing ∷ stop ∷ [] in
    let to : List Piece = comma ∷ place_pieces e.next_rail e.next last in
    let last_fits : AllFit last (10 ∷ rest) = (fits_close _, (fits_stop _ refl, tt)) in
    let to_fits : AllFit to (10 ∷ rest) = (fits_comma _, place_fits e.next_rail e.next last (10 ∷ rest) small.2 small.3 last_fits) in
    (fits_name g (codes "edge") _ gap refl refl refl, (fits_open _, place_fits e.rail e.at to (10 ∷ rest) small.0 small.1 to_fits))
fit g gap ends rest small = (
  fits_name g (codes "path") _ gap refl refl refl,
  (
    fits_open _,
    (
      fits_variable (codes "X") _ refl refl refl,
      (
        fits_comma _,
        (
          fits_variable (codes "X") _ refl refl refl,
          (
            fits_comma _,
            (fits_open_list _, (fits_variable (codes "X") _ refl refl refl, (fits_close_list _, (fits_close _, (fits_stop _ refl, tt))))),
          ),
        ),
      ),
    ),
  ),
)
fit g gap goes_on rest small = (
  fits_name g (codes "path") _ gap refl refl refl,
  (
    fits_open _,
    (
      fits_variable (codes "X") _ refl refl refl,
      (
        fits_comma _,
        (
          fits_variable (codes "Z") _ refl refl refl,
          (
            fits_comma _,
            (
              fits_open_list _,
              (
                fits_variable (codes "X") _ refl refl refl,
                (
                  fits_bar _,
                  (
                    fits_variable (codes "P") _ refl refl refl,
                    (
                      fits_close_list _,
                      (
                        fits_close _,
                        (
                          fits_symbol (codes " ") (codes ":-") _ blank refl refl refl refl (λ e. cc) refl refl,
                          (
                            fits_name (codes " ") (codes "edge") _ blank refl refl refl,
                            (
                              fits_open _,
                              (
                                fits_variable (codes "X") _ refl refl refl,
                                (
                                  fits_comma _,
                                  (
                                    fits_variable (codes "Y") _ refl refl refl,
                                    (
                                      fits_close _,
                                      (
                                        fits_comma _,
                                        (
                                          fits_name (codes " ") (codes "path") _ blank refl refl refl,
                                          (
                                            fits_open _,
                                            (
                                              fits_variable (codes "Y") _ refl refl refl,
                                              (
                                                fits_comma _,
                                                (
                                                  fits_variable (codes "Z") _ refl refl refl,
                                                  (
                                                    fits_comma _,
                                                    (
                                                      fits_variable (codes "P") _ refl refl refl,
                                                      (
                                                        fits_close _,
                                                        (fits_stop _ refl, tt),
                                                      ),
                                                    ),
                                                  ),
                                                ),
                                              ),
                                            ),
                                          ),
                                        ),
                                      ),
                                    ),
                                  ),
                                ),
                              ),
                            ),
                          ),
                        ),
                      ),
                    ),
                  ),
                ),
              ),
            ),
          ),
        ),
      ),
    ),
  ),
)
fit g gap (asks n) rest small =
    let last : List Piece = comma ∷ variable (codes "P") ∷ closing ∷ stop ∷ [] in
    let to : List Piece = comma ∷ place_pieces 2 n last in
    let last_fits : AllFit last (10 ∷ rest) = (
      fits_comma _,
      (
        fits_variable (codes "P") _ refl refl refl,
        (
          fits_close _,
          (fits_stop _ refl, tt),
        ),
      ),
    ) in
    let to_fits : AllFit to (10 ∷ rest) = (fits_comma _, place_fits 2 n last (10 ∷ rest) (omega arith) small last_fits) in (
      fits_symbol g (codes "?-") _ gap refl refl refl refl (λ e. cc) refl refl,
      (
        fits_name (codes " ") (codes "path") _ blank refl refl refl,
        (
          fits_open _,
          place_fits 0 0 to (10 ∷ rest) (omega arith) (omega arith) to_fits,
        ),
      ),
    )

-- The term of a line.
abbrev two : Written → Written → Many
two a b = written.more a (written.more b written.none)

abbrev three : Written → Written → Written → Many
three a b c = written.more a (two b c)

abbrev place_term : ℕ → ℕ → Written
place_term rail at = written.compound (codes "n") (two (written.integer (pos rail)) (written.integer (pos at)))

abbrev x_ : Written
x_ = written.variable (codes "X")

abbrev y_ : Written
y_ = written.variable (codes "Y")

abbrev z_ : Written
z_ = written.variable (codes "Z")

abbrev p_ : Written
p_ = written.variable (codes "P")

abbrev cell : Written → Written → Written
cell a b = written.compound (codes ".") (two a b)

abbrev path : Written → Written → Written → Written
path a b c = written.compound (codes "path") (three a b c)

abbrev pub line_term : Line → Written
line_term (edge e) = written.compound (codes "edge") (two (place_term e.rail e.at) (place_term e.next_rail e.next))
line_term ends = path x_ x_ (cell x_ (written.compound (codes "[]") written.none))
line_term goes_on =
    written.compound (codes ":-") (two (path x_ z_ (cell x_ p_)) (written.compound (codes ",") (two (written.compound (codes "edge")
    (two x_ y_)) (path y_ z_ p_))))
line_term (asks n) = written.compound (codes "?-") (written.more (path (place_term 0 0) (place_term 2 n) p_) written.none)

abbrev pub sort_in : Line → Sort
sort_in (edge e) = clause
sort_in ends = clause
sort_in goes_on = clause
sort_in (asks n) = query

narrow : (n : ℕ) → n < 1000 → leb 9223372036854775808 n ≡ false
narrow n h = grind arith

-- the machine reads it as that term
pub runs : (p : ℕ) (g : Bytes) (l : Line) → IsSmall l
    → run true start (words_of (placed_of p (pieces g l))) ≡ Some (over (sort_in l) (line_term l))
runs p g (edge e) small = rw (narrow e.rail small.0, narrow e.at small.1, narrow e.next_rail small.2, narrow e.next small.3) refl
runs p g ends small = refl
runs p g goes_on small = refl
runs p g (asks n) small = rw (narrow n small) refl
