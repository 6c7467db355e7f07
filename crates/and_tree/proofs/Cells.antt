-- The cells of a plain tree, as the definitions see them.
use Rattle.std.proofs.Common.{ℕ, zero, suc, ◌+◌, ◌*◌, ◌≡◌, ◌<◌, List, [], ◌∷◌, map, get_or, set, replicate, length, None, Some, refl, sym, subst, ap}
use Rattle.std.proofs.Common.{◌∙◌, arith}
use Rattle.std.proofs.lemmas.List.{get_or-map, map-set, length-map}
use Rattle.and_histories.specs.PlainTree.{Key, Cell, free, opened, opening, with_cell, cell_of, IsTeam, IsCell, Owns}
use Rattle.and_tree.specs.Plain.{Placed, content_of}
use Rattle.and_tree.specs.declared.places.PlainCell.{PlainCell}

abbrev pub cell_seen : {B : Type 0} → (B → Key) → PlainCell B → Cell
cell_seen key_of c = record { serial = c.serial; content = content_of key_of c.branch }

abbrev placed_in : (limit : ℕ) → List (List Key) → List Cell → Placed
placed_in limit hands cells = record { limit = limit; state = record { hands = hands; cells = cells } }

abbrev pub placed_of : {B : Type 0} → (B → Key) → (limit : ℕ) → List (List Key) → List (PlainCell B) → Placed
placed_of key_of limit hands cells = placed_in limit hands (map (cell_seen key_of) cells)

abbrev free_cell : Cell
free_cell = record { serial = 0; content = free }

abbrev root_cell : Key → Cell
root_cell key = record { serial = 1; content = opened key }

map_equal : {X Y : Type 0} (f : X → Y) (n : ℕ) (x : X) → map f (replicate n x) ≡ replicate n (f x)
map_equal f zero x = refl
map_equal f (suc n) x = ap (λ l. f x ∷ l) (map_equal f n x)

module _ {B : Type 0} (key_of : B → Key) (limit : ℕ) (hands : List (List Key)) (cells : List (PlainCell B)) where
  abbrev here : Placed
  here = placed_of key_of limit hands cells

  abbrev seen_cells : List Cell
  seen_cells = map (cell_seen key_of) cells

  pub at_cell : (i : ℕ) (c : PlainCell B) → i < length cells → c ≡ get_or cells i c → cell_of here.state i ≡ cell_seen key_of c
  at_cell i c low is = get_or-map (cell_seen key_of) cells i c _ low ∙ ap (cell_seen key_of) (sym is)

  -- a cell that is replaced
  replaced_cell : (i : ℕ) (c : PlainCell B)
      → placed_of key_of limit hands (set cells i c) ≡ record here { state = with_cell here.state i c.serial (content_of key_of c.branch) }
  replaced_cell i c = ap (placed_in limit hands) (map-set (cell_seen key_of) cells i c)

  pub opened_places : (teams : ℕ) (root : B) → hands ≡ replicate teams [] → cells ≡ replicate (8 * teams) (record { serial = 0; branch = None })
      → key_of root ≡ []
      → placed_of key_of limit hands (set cells 0 (record { serial = 1; branch = Some root })) ≡ record { limit = limit; state = opening teams }
  opened_places teams root hands_are cells_are root_is =
      replaced_cell 0 (record { serial = 1; branch = Some root })
      ∙ ap (λ h. placed_in limit h (set seen_cells 0 (root_cell (key_of root)))) hands_are
      ∙ ap (λ l. placed_in limit (replicate teams []) (set (map (cell_seen key_of) l) 0 (root_cell (key_of root)))) cells_are
      ∙ ap (λ l. placed_in limit (replicate teams []) (set l 0 (root_cell (key_of root)))) (map_equal (cell_seen key_of) (8 * teams) _)
      ∙ ap (λ k. placed_in limit (replicate teams []) (set (replicate (8 * teams) free_cell) 0 (root_cell k))) root_is

  -- a cell from which its branch is taken
  pub cleared_cell : (placed : Placed) (i : ℕ) (c : PlainCell B) → here ≡ placed → i < length cells → c ≡ get_or cells i c
      → placed_of key_of limit hands (set cells i (record { serial = c.serial; branch = None }))
      ≡ record placed { state = with_cell placed.state i (cell_of placed.state i).serial free }
  cleared_cell placed i c view low is =
      replaced_cell i (record { serial = c.serial; branch = None })
      ∙ ap (λ n. record here { state = with_cell here.state i n free }) (sym (ap (λ (x : Cell). x.serial) (at_cell i c low is)))
      ∙ ap (λ (x : Placed). record x { state = with_cell x.state i (cell_of x.state i).serial free }) view

  -- a cell that is opened once more
  pub opened_cell : (placed : Placed) (i serial : ℕ) (c : PlainCell B) (branch : B) → here ≡ placed → i < length cells → c ≡ get_or cells i c
      → serial ≡ c.serial + 1
      → placed_of key_of limit hands (set cells i (record { serial = serial; branch = Some branch }))
      ≡ record placed { state = with_cell placed.state i (suc (cell_of placed.state i).serial) (opened (key_of branch)) }
  opened_cell placed i serial c branch view low is next =
      let same = ap (λ (x : Cell). x.serial) (at_cell i c low is) in
      let counted : serial ≡ suc (cell_of here.state i).serial = omega (arith, next, same) in
      replaced_cell i (record { serial = serial; branch = Some branch })
      ∙ ap (λ n. record here { state = with_cell here.state i n (opened (key_of branch)) }) counted
      ∙ ap (λ (x : Placed). record x { state = with_cell x.state i (suc (cell_of x.state i).serial) (opened (key_of branch)) }) view

  -- a cell of the team's own
  pub own_is_cell : (placed : Placed) (team cell : ℕ) → here ≡ placed → length cells ≡ 8 * length hands → IsTeam placed.state team → Owns team cell
      → cell < length cells
  own_is_cell placed team cell view many is_team owns =
      let is : team < length hands = subst (λ (x : Placed). team < length x.state.hands) (sym view) is_team in
      omega (arith, many, is, owns.0, owns.1)

  pub cell_there : (placed : Placed) (cell : ℕ) → here ≡ placed → cell < length cells → IsCell placed.state cell
  cell_there placed cell view low =
      subst (λ (x : Placed). cell < length x.state.cells) view (subst (λ n. cell < n) (sym (length-map cells (cell_seen key_of))) low)

  pub is_within : (placed : Placed) (cell : ℕ) → here ≡ placed → IsCell placed.state cell → cell < length cells
  is_within placed cell view is_cell =
      subst (λ n. cell < n) (length-map cells (cell_seen key_of)) (subst (λ (x : Placed). cell < length x.state.cells) (sym view) is_cell)

  -- what a cell is seen as
  pub cell_seen_at : (placed : Placed) (i : ℕ) (c : PlainCell B) → here ≡ placed → i < length cells → c ≡ get_or cells i c
      → cell_of placed.state i ≡ cell_seen key_of c
  cell_seen_at placed i c view low is = ap (λ (x : Placed). cell_of x.state i) (sym view) ∙ at_cell i c low is
