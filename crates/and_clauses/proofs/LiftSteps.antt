-- The items of a clause are lifted one by one.
use Rattle.std.proofs.Common.{ℕ, zero, suc, ◌+◌, ◌≡◌, ◌<◌, ◌≤◌, List, [], ◌∷◌, ◌++◌, length, get_or, map, take, drop, All, refl, ap, sym, ◌∙◌, arith, subst}
use Rattle.std.specs.Prelude.{flat_map}
use Rattle.std.proofs.lemmas.List.{length-map, map_push, drop_more, take_more, take_all}
use Rattle.std.proofs.lemmas.List.Elements.{All-head, All-tail}
use Rattle.and_model.specs.Terms.{Term}
use Rattle.and_model.specs.Programs as programs
use Rattle.and_model.specs.Programs.{Item}
use Rattle.and_model.specs.OwnVariables.{AreOwn, terms_of_item}
use Rattle.and_model.proofs.OwnVariables.{All-front, All-back}
use Rattle.and_source.specs.Lifted.{Numbering, renumbered, renumbered_item}
use Rattle.and_program.specs.Skeletons.{Shape, node_term, NodeItem, call, equal, is, compare, fail, item_of, IsThere, AllThere}
use Rattle.and_program.specs.Items.{node_item, pairs, relation}
use Rattle.and_program.proofs.NodeTerms.{node_term_front}
use Rattle.and_program.specs.declared.item.ItemNode.{ItemNode}
use Rattle.and_program.specs.declared.item.ItemNode.TheVariants.{Call, Equal, Is, Compare}
use Rattle.and_model.specs.declared.numbers.NodeNo.{NodeNo}
use Rattle.and_model.specs.declared.relation.Relation.{Relation}
use Rattle.and_judging.specs.Sorts.{piece_in}
use Rattle.and_judging.specs.Sorted
use Rattle.and_judging.specs.Outlined.{Named, item_size, piece_size, pieces_size, piece_item, pieces_items, named_at, call_of}
use Rattle.and_clauses.specs.Copied.{Grown}
use Rattle.and_clauses.specs.Copies.{IsNode, Begins}
use Rattle.and_clauses.specs.Lifts.{HaveRoom, IsPieceThere, ArePiecesThere}
use Rattle.and_judging.specs.declared.sorting.Piece.{Piece}
use Rattle.and_judging.specs.declared.sorting.Piece.TheVariants.{Disjunction}
use Rattle.and_clauses.proofs.Copying.{take-le}
use Rattle.and_clauses.proofs.CopySteps.{grown_again, size-some}
use Rattle.and_clauses.proofs.Placing.{begins_all, begins_self}
use Rattle.and_clauses.proofs.Keeping.{items_front, all_there_front}

-- ---- Room, and what stays.
pub room_less : (m : ℕ) (us : List Shape) (a b : ℕ) → a ≤ b → HaveRoom m us b → HaveRoom m us a
room_less m us a b le h = record { falls = h.falls; within = h.within; room = omega (arith, h.room) }

pub room_left : (m : ℕ) (old us : List Shape) (a b c : ℕ) → a + b ≤ c → HaveRoom m old c → Grown m old us (length old + a) → HaveRoom m us b
room_left m old us a b c le h g = record { falls = g.falls; within = g.within; room = omega (arith, h.room, g.few) }

pub grown_more : (m : ℕ) (old us : List Shape) (a b : ℕ) → a ≤ b → Grown m old us a → Grown m old us b
grown_more m old us a b le g = record { kept = g.kept; falls = g.falls; within = g.within; few = omega (arith, g.few) }

pub grown_both : (m : ℕ) (old mid new : List Shape) (a b c : ℕ) → a + b ≤ c → Grown m old mid (length old + a) → Grown m mid new (length mid + b)
    → Grown m old new (length old + c)
grown_both m old mid new a b c le g h =
    grown_more m old new (length mid + b) (length old + c) (omega (arith, g.few)) (grown_again m old mid new (length old + a) (length mid + b) g h)

pub term_kept : (us vs : List Shape) (n : ℕ) → Begins us vs → n < length us → node_term vs n ≡ node_term us n
term_kept us vs n g lt = ap (λ xs. node_term xs n) (begins_all us vs g) ∙ node_term_front us (drop (length us) vs) n lt

pub node_kept : (us vs : List Shape) (n : ℕ) (t : Term) → Begins us vs → IsNode us n t → IsNode vs n t
node_kept us vs n t g h = (omega (arith, h.0, take-le us vs g), term_kept us vs n g h.0 ∙ h.1)

pub items_kept : (us vs : List Shape) (k : ℕ) (is : List NodeItem) → Begins us vs → AllThere us k is → map (item_of vs) is ≡ map (item_of us) is
items_kept us vs k xs g t = ap (λ ys. map (item_of ys) xs) (begins_all us vs g) ∙ items_front us (drop (length us) vs) k xs t

pub all_there_kept : (us vs : List Shape) (k : ℕ) (is : List NodeItem) → Begins us vs → AllThere us k is → AllThere vs k is
all_there_kept us vs k xs g t =
    subst (λ ys. AllThere ys k xs) (sym (begins_all us vs g)) (all_there_front us (drop (length us) vs) k xs t)

-- ---- One item more.
pairs_push : (xs : List NodeItem) (y : NodeItem) → pairs (xs ++ y ∷ []) ≡ pairs xs + pairs (y ∷ [])
pairs_push [] y = let z : pairs (y ∷ []) ≡ 0 + pairs (y ∷ []) = omega arith in z
pairs_push (call n ∷ xs) y = pairs_push xs y
pairs_push (equal n m ∷ xs) y = pairs_push xs y
pairs_push (is n m p ∷ xs) y = omega (arith, pairs_push xs y)
pairs_push (compare r n m ∷ xs) y = pairs_push xs y
pairs_push (fail ∷ xs) y = pairs_push xs y

there_push : (us : List Shape) (k j : ℕ) (xs : List NodeItem) (y : NodeItem) → k + pairs xs ≡ j → AllThere us k xs → IsThere us j y
    → AllThere us k (xs ++ y ∷ [])
there_push us k j [] y e a t = let z : j ≡ k = omega (arith, e) in (subst (λ i. IsThere us i y) z t, tt)
there_push us k j (call n ∷ xs) y e a t = (a.0, there_push us k j xs y e a.1 t)
there_push us k j (equal n m ∷ xs) y e a t = (a.0, there_push us k j xs y e a.1 t)
there_push us k j (is n m p ∷ xs) y e a t = (a.0, there_push us (suc k) j xs y (omega (arith, e)) a.1 t)
there_push us k j (compare r n m ∷ xs) y e a t = (a.0, there_push us k j xs y e a.1 t)
there_push us k j (fail ∷ xs) y e a t = (a.0, there_push us k j xs y e a.1 t)

-- ---- Pieces by their places.
pub piece_there_at : (n m : ℕ) (ps : List Piece) (i : ℕ) (d : Piece) → i < length ps → ArePiecesThere n m ps → IsPieceThere n m (get_or ps i d)
piece_there_at n m [] i d lt a = absurd (omega arith)
piece_there_at n m (p ∷ ps) zero d lt a = a.0
piece_there_at n m (p ∷ ps) (suc i) d lt a = piece_there_at n m ps i d (omega arith) a.1

module _ (ss : List Shape) (ds : List Named) (new : Numbering) where
  pub piece_own_at : (ps : List Piece) (i : ℕ) (d : Piece) → i < length ps
      → All (AreOwn 255) (flat_map terms_of_item (pieces_items ds new (map (piece_in ss) ps)))
      → All (AreOwn 255) (terms_of_item (piece_item ds new (piece_in ss (get_or ps i d))))
  piece_own_at [] i d lt a = absurd (omega arith)
  piece_own_at (p ∷ ps) zero d lt a =
      All-front (AreOwn 255) (terms_of_item (piece_item ds new (piece_in ss p))) (flat_map terms_of_item (pieces_items ds new (map (piece_in ss) ps))) a
  piece_own_at (p ∷ ps) (suc i) d lt a =
      piece_own_at ps i d (omega arith)
      (All-back (AreOwn 255) (terms_of_item (piece_item ds new (piece_in ss p))) (flat_map terms_of_item (pieces_items ds new (map (piece_in ss) ps))) a)

item-some : (i : Item) → 1 ≤ item_size i
item-some (programs.call g) = size-some g
item-some (programs.equal l r) = omega (arith, size-some l)
item-some (programs.arithmetic (programs.is l r)) = omega (arith, size-some l)
item-some (programs.arithmetic (programs.compare m l r)) = omega (arith, size-some l)
item-some programs.fail = omega arith

piece-some : (ds : List Named) (p : Sorted.Piece) → 1 ≤ piece_size ds p
piece-some ds (Sorted.kept i) = item-some i
piece-some ds (Sorted.called n) = omega arith

-- there are no more pieces than nodes
pub pieces_few : (ds : List Named) (ss : List Shape) (ps : List Piece) → length ps ≤ pieces_size ds (map (piece_in ss) ps)
pieces_few ds ss [] = omega arith
pieces_few ds ss (p ∷ ps) = omega (arith, piece-some ds (piece_in ss p), pieces_few ds ss ps)

-- What was lifted of the first i pieces.
pub record AreSoFar (ss : List Shape) (ds : List Named) (new : Numbering) (m : ℕ) (old us : List Shape) (most : ℕ) (ps : List Piece) (i : ℕ)
    (items : List ItemNode) (count : ℕ) : Type 0 where
  pub grown : Grown m old us most
  pub room : length us + pieces_size ds (map (piece_in ss) (drop i ps)) ≤ most
  pub lifted : map (item_of us) (map node_item items) ≡ pieces_items ds new (map (piece_in ss) (take i ps))
  pub there : AllThere us 0 (map node_item items)
  pub counted : count ≡ pairs (map node_item items)
  pub few : count ≤ i

module _ (ss : List Shape) (ds : List Named) (new : Numbering) (m : ℕ) where
  pub none_so_far : (old : List Shape) (most : ℕ) (ps : List Piece) (items : List ItemNode) → items ≡ []
      → HaveRoom m old (pieces_size ds (map (piece_in ss) ps)) → most ≡ length old + pieces_size ds (map (piece_in ss) ps)
      → AreSoFar ss ds new m old old most ps 0 items 0
  none_so_far old most ps items e h total =
      subst (λ xs. AreSoFar ss ds new m old old most ps 0 xs 0) (sym e) (record {
        grown = record { kept = begins_self old; falls = h.falls; within = h.within; few = omega (arith, total) };
        room = omega (arith, total);
        lifted = refl;
        there = tt;
        counted = refl;
        few = omega arith;
      })

  -- what is left has room
  pub piece_room : (old us : List Shape) (most : ℕ) (ps : List Piece) (i : ℕ) (p : Piece) (items : List ItemNode) (count : ℕ)
      → i < length ps → p ≡ get_or ps i p
      → most ≤ 524289 → AreSoFar ss ds new m old us most ps i items count → HaveRoom m us (piece_size ds (piece_in ss p))
  piece_room old us most ps i p items count lt at le a =
      let next : pieces_size ds (map (piece_in ss) (drop i ps))
      ≡ piece_size ds (piece_in ss p) + pieces_size ds (map (piece_in ss) (drop (i + 1) ps)) =
      ap (λ xs. pieces_size ds (map (piece_in ss) xs)) (drop_more ps i p lt ∙ ap (λ q. q ∷ drop (i + 1) ps) (sym at)) in
      record { falls = a.grown.falls; within = a.grown.within; room = omega (arith, next, a.room) }

  pub one_more : (old us vs : List Shape) (most : ℕ) (ps : List Piece) (i : ℕ) (p : Piece) (items more : List ItemNode) (x : ItemNode) (count counted : ℕ)
      → i < length ps → p ≡ get_or ps i p → AreSoFar ss ds new m old us most ps i items count
      → Grown m us vs (length us + piece_size ds (piece_in ss p)) → item_of vs (node_item x) ≡ piece_item ds new (piece_in ss p)
      → IsThere vs count (node_item x) → more ≡ items ++ x ∷ [] → counted ≡ count + pairs (node_item x ∷ []) → counted ≤ i + 1
      → AreSoFar ss ds new m old vs most ps (i + 1) more counted
  one_more old us vs most ps i p items more x count counted lt at a g same there pushed counts few =
      let next : pieces_size ds (map (piece_in ss) (drop i ps))
      ≡ piece_size ds (piece_in ss p) + pieces_size ds (map (piece_in ss) (drop (i + 1) ps)) =
      ap (λ xs. pieces_size ds (map (piece_in ss) xs)) (drop_more ps i p lt ∙ ap (λ q. q ∷ drop (i + 1) ps) (sym at)) in
      let xs : List NodeItem = map node_item items in
      let taken : take (i + 1) ps ≡ take i ps ++ p ∷ [] = take_more ps i p lt ∙ ap (λ q. take i ps ++ q ∷ []) (sym at) in
      let nodes : map node_item more ≡ xs ++ node_item x ∷ [] = ap (map node_item) pushed ∙ map_push node_item items x in
      record {
        grown = grown_more m old vs (length us + piece_size ds (piece_in ss p)) most (omega (arith, next, a.room))
            (grown_again m old us vs most (length us + piece_size ds (piece_in ss p)) a.grown g);
        room = omega (arith, next, a.room, g.few);
        lifted = ap (map (item_of vs)) nodes ∙ map_push (item_of vs) xs (node_item x)
            ∙ ap (λ ys. ys ++ item_of vs (node_item x) ∷ []) (items_kept us vs 0 xs g.kept a.there ∙ a.lifted)
            ∙ ap (λ y. pieces_items ds new (map (piece_in ss) (take i ps)) ++ y ∷ []) same
            ∙ sym (ap (λ qs. pieces_items ds new (map (piece_in ss) qs)) taken
            ∙ ap (pieces_items ds new) (map_push (piece_in ss) (take i ps) p)
            ∙ map_push (piece_item ds new) (map (piece_in ss) (take i ps)) (piece_in ss p));
        there = subst (AllThere vs 0) (sym nodes)
            (there_push vs 0 count xs (node_item x) (omega (arith, a.counted)) (all_there_kept us vs 0 xs g.kept a.there) there);
        counted = counts ∙ ap (λ k. k + pairs (node_item x ∷ [])) a.counted ∙ sym (ap pairs nodes ∙ pairs_push xs (node_item x));
        few = few;
      }

  -- all of them
  pub all_so_far : (old us : List Shape) (most : ℕ) (ps : List Piece) (i : ℕ) (items : List ItemNode) (count : ℕ) → length ps ≤ i
      → AreSoFar ss ds new m old us most ps i items count
      → map (item_of us) (map node_item items) ≡ pieces_items ds new (map (piece_in ss) ps)
  all_so_far old us most ps i items count le a = a.lifted ∙ ap (λ qs. pieces_items ds new (map (piece_in ss) qs)) (take_all i ps le)

  pub so_far_few : (old us : List Shape) (most : ℕ) (ps : List Piece) (i : ℕ) (items : List ItemNode) (count : ℕ) → length ps ≤ i
      → AreSoFar ss ds new m old us most ps i items count → pieces_size ds (map (piece_in ss) ps) ≤ 524289 → length items ≤ 524289
  so_far_few old us most ps i items count le a few =
      let e : length items ≡ length ps =
      sym (length-map (map node_item items) (item_of us) ∙ length-map items node_item) ∙ ap length (all_so_far old us most ps i items count le a)
      ∙ length-map (map (piece_in ss) ps) (piece_item ds new) ∙ length-map ps (piece_in ss) in
      omega (arith, e, pieces_few ds ss ps)

-- ---- Items by their terms.
abbrev OwnItem : List Shape → Numbering → ItemNode → Type 0
OwnItem ss new i = All (AreOwn 255) (terms_of_item (renumbered_item new (item_of ss (node_item i))))

module _ (ss : List Shape) (new : Numbering) (i : ItemNode) where
  abbrev copy : NodeNo → Term
  copy n = renumbered new (node_term ss n.0)

  both_own : (a b : Term) → All (AreOwn 255) (a ∷ b ∷ []) → AreOwn 255 a × AreOwn 255 b
  both_own a b h = (All-head (AreOwn 255) a (b ∷ []) h, All-head (AreOwn 255) b [] (All-tail (AreOwn 255) a (b ∷ []) h))

  pub call_own : (g : NodeNo) → i ≡ Call g → OwnItem ss new i → AreOwn 255 (copy g)
  call_own g e h = All-head (AreOwn 255) (copy g) [] (subst (OwnItem ss new) e h)

  pub equal_own : (l r : NodeNo) → i ≡ Equal l r → OwnItem ss new i → AreOwn 255 (copy l) × AreOwn 255 (copy r)
  equal_own l r e h = both_own (copy l) (copy r) (subst (OwnItem ss new) e h)

  pub is_own : (l r : NodeNo) (p : ℕ) → i ≡ Is l r p → OwnItem ss new i → AreOwn 255 (copy l) × AreOwn 255 (copy r)
  is_own l r p e h = both_own (copy l) (copy r) (subst (OwnItem ss new) e h)

  pub compare_own : (o : Relation) (l r : NodeNo) → i ≡ Compare o l r → OwnItem ss new i → AreOwn 255 (copy l) × AreOwn 255 (copy r)
  compare_own o l r e h = both_own (copy l) (copy r) (subst (OwnItem ss new) e h)

  module _ (mid us : List Shape) (l r a b : NodeNo) (begins : Begins mid us) (left : IsNode mid a.0 (copy l)) (right : IsNode us b.0 (copy r)) where
    two : node_term us a.0 ≡ copy l
    two = term_kept mid us a.0 begins left.0 ∙ left.1

    pub equal_made : i ≡ Equal l r → item_of us (node_item (Equal a b)) ≡ renumbered_item new (item_of ss (node_item i))
    equal_made e =
        ap (λ t. programs.equal t (node_term us b.0)) two ∙ ap (λ t. programs.equal (copy l) t) right.1
        ∙ sym (ap (λ j. renumbered_item new (item_of ss (node_item j))) e)

    pub is_made : (p q : ℕ) → i ≡ Is l r p → item_of us (node_item (Is a b q)) ≡ renumbered_item new (item_of ss (node_item i))
    is_made p q e =
        ap (λ t. programs.arithmetic (programs.is t (node_term us b.0))) two ∙ ap (λ t. programs.arithmetic (programs.is (copy l) t)) right.1
        ∙ sym (ap (λ j. renumbered_item new (item_of ss (node_item j))) e)

    pub compare_made : (o : Relation) → i ≡ Compare o l r → item_of us (node_item (Compare o a b)) ≡ renumbered_item new (item_of ss (node_item i))
    compare_made o e =
        ap (λ t. programs.arithmetic (programs.compare (relation o) t (node_term us b.0))) two
        ∙ ap (λ t. programs.arithmetic (programs.compare (relation o) (copy l) t)) right.1
        ∙ sym (ap (λ j. renumbered_item new (item_of ss (node_item j))) e)

-- the call of a disjunction
pub called_own : (ss : List Shape) (ds : List Named) (new : Numbering) (p : Piece) (n : ℕ) → p ≡ Disjunction n
    → All (AreOwn 255) (terms_of_item (piece_item ds new (piece_in ss p))) → AreOwn 255 (renumbered new (call_of (named_at ds n)))
called_own ss ds new p n e h =
    All-head (AreOwn 255) (renumbered new (call_of (named_at ds n))) [] (subst (λ q. All (AreOwn 255) (terms_of_item (piece_item ds new (piece_in ss q)))) e h)
