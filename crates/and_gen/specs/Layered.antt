-- The text of the graph with three rails of places, and of the question for its paths. All of it is
-- this project's own.
use Rattle.std.specs.Prelude.{ℕ, zero, suc, ◌+◌, [], ◌++◌, codes}
use Rattle.std.specs.Fmt.{decimal}
use Rattle.and_model.specs.Lines.{Bytes}

-- a place by its rail and its number on it
abbrev pub place : ℕ → ℕ → Bytes
place rail at = codes "n(" ++ decimal rail ++ codes "," ++ decimal at ++ codes ")"

-- the fact that an edge leads from one place to another
abbrev pub edge : Bytes → Bytes → Bytes
edge from to = codes "edge(" ++ from ++ codes "," ++ to ++ codes ").\n"

-- a line for each number below n, in order
abbrev pub lines : (ℕ → Bytes) → ℕ → Bytes
lines line zero = []
lines line (suc k) = lines line k ++ line k

-- the edges forward along a rail of n + 1 places
abbrev pub along : ℕ → ℕ → Bytes
along n rail = lines (λ at. edge (place rail at) (place rail (at + 1))) n

-- the edges across from a rail of n + 1 places to the next
abbrev pub across : ℕ → ℕ → Bytes
across n rail = lines (λ at. edge (place rail at) (place (rail + 1) at)) (n + 1)

-- what a path is
abbrev pub paths : Bytes
paths = codes "path(X,X,[X]).\n" ++ codes "path(X,Z,[X|P]) :- edge(X,Y), path(Y,Z,P).\n"

-- the question for the paths from the first place of the first rail to the last of the last
abbrev pub question : ℕ → Bytes
question n = codes "?- path(" ++ place 0 0 ++ codes "," ++ place 2 n ++ codes ",P).\n"

-- the whole text
abbrev pub layered : ℕ → Bytes
layered n = lines (along n) 3 ++ lines (across n) 2 ++ paths ++ question n
