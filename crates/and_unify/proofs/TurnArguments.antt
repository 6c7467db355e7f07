-- The pairs of the arguments of two structures, one after the other.
use Rattle.std.proofs.Common.{ℕ, zero, suc, ◌+◌, ◌≡◌, ◌<◌, ◌≤◌, List, [], ◌∷◌, ◌++◌, length, map, get_or, take, slice_get, Some, refl, sym, ap, subst, ◌∙◌}
use Rattle.std.proofs.Common.{◌⊎◌, inl, inr, arith, append_assoc}
use Rattle.std.proofs.lemmas.Option.{get_or_from_slice_get, slice_get_within}
use Rattle.std.proofs.lemmas.List.{length-append, length-take-le, take_all}
use Rattle.std.proofs.lemmas.List as list
use Rattle.and_model.specs.declared.numbers.NodeNo.{NodeNo}
use Rattle.and_model.specs.declared.reference.Ref.{Ref}
use Rattle.and_model.specs.declared.reference.Ref.TheVariants.{Node}
use Rattle.and_program.specs.Loaded.{shape_at, arguments_at}
use Rattle.and_program.specs.Shown.{resolved}
use Rattle.and_cells.specs.Ranges.{NamedProgram}
use Rattle.and_cells.specs.Parts.{IsStructure, parts_of, part_at}
use Rattle.and_unify.proofs.TurnParts.{parts_counted, length_map}
use Rattle.and_unify.specs.declared.pairs.Pair.{Pair}
use Rattle.and_cells.specs.Seen.{Seen}
use Rattle.and_unify.specs.Meeting.{AreOfOneShape, MeetStructures}
use Rattle.and_unify.specs.Classes.{InOneClass, Joins}
use Rattle.and_unify.specs.Turns.{Steps, one_class, joins, pairs_of}

-- an element of a mapped list
slice_get_map : {X Y : Type 0} (f : X → Y) (xs : List X) (k : ℕ) (d : X) → k < length xs → slice_get (map f xs) k ≡ Some (f (get_or xs k d))
slice_get_map f [] k d h = absurd (omega arith)
slice_get_map f (x ∷ xs) zero d h = refl
slice_get_map f (x ∷ xs) (suc k) d h = slice_get_map f xs k d (omega arith)

-- An argument is found where its node is resolved.
pub argument_found : (P : NamedProgram) (node a : NodeNo) (base place : ℕ) (r : Ref) → place < length (arguments_at P.skeleton node.0)
    → a.0 ≡ get_or (arguments_at P.skeleton node.0) place 0
    → r ≡ resolved (shape_at P.skeleton a.0) a base → slice_get (parts_of P (Node node base)) place ≡ Some r
argument_found P node a base place r within is found =
    slice_get_map (part_at P base) (arguments_at P.skeleton node.0) place 0 within ∙ ap (λ n. Some (part_at P base n)) (sym is) ∙ ap (λ x. Some x) (sym found)

-- One more element of a list is taken.
take_more : (rs : List Ref) (k : ℕ) (r : Ref) → slice_get rs k ≡ Some r → take (k + 1) rs ≡ take k rs ++ r ∷ []
take_more rs k r is =
    let within : k < length rs = slice_get_within rs k r is in
    list.take_more rs k r within ∙ ap (λ x. take k rs ++ x ∷ []) (get_or_from_slice_get rs k r r is)

-- pairs of lists of one length that each gain an element
pairs_push : (rs qs : List Ref) (r q : Ref) → length rs ≡ length qs
    → pairs_of (rs ++ r ∷ []) (qs ++ q ∷ []) ≡ pairs_of rs qs ++ record { left = r; right = q } ∷ []
pairs_push [] [] r q e = refl
pairs_push [] (y ∷ qs) r q e = absurd (omega arith)
pairs_push (x ∷ rs) [] r q e = absurd (omega arith)
pairs_push (x ∷ rs) (y ∷ qs) r q e = ap (λ ps. record { left = x; right = y } ∷ ps) (pairs_push rs qs r q (omega arith))

-- One pair more, where both lists have an element.
pub pairs_more : (rs qs : List Ref) (k : ℕ) (r q : Ref) → slice_get rs k ≡ Some r → slice_get qs k ≡ Some q
    → pairs_of (take (k + 1) rs) (take (k + 1) qs) ≡ pairs_of (take k rs) (take k qs) ++ record { left = r; right = q } ∷ []
pairs_more rs qs k r q hr hq =
    let left : k < length rs = slice_get_within rs k r hr in
    let right : k < length qs = slice_get_within qs k q hq in
    let same : length (take k rs) ≡ length (take k qs) = length-take-le k rs (omega arith) ∙ sym (length-take-le k qs (omega arith)) in
    ap (λ xs. pairs_of xs (take (k + 1) qs)) (take_more rs k r hr) ∙ ap (λ ys. pairs_of (take k rs ++ r ∷ []) ys) (take_more qs k q hq)
    ∙ pairs_push (take k rs) (take k qs) r q same

-- there are no more pairs than elements that were taken
pairs_few : (rs qs : List Ref) (k : ℕ) → length (pairs_of (take k rs) (take k qs)) ≤ k
pairs_few rs qs zero = omega arith
pairs_few [] qs (suc k) = omega arith
pairs_few (r ∷ rs) [] (suc k) = omega arith
pairs_few (r ∷ rs) (q ∷ qs) (suc k) = let rest = pairs_few rs qs k in omega arith

-- So a list grows by no more than were taken.
pub list_few : (before after : List Pair) (rs qs : List Ref) (k : ℕ) → after ≡ before ++ pairs_of (take k rs) (take k qs) → k ≤ 255
    → length after ≤ length before + 255
list_few before after rs qs k is below =
    let len : length after ≡ length (before ++ pairs_of (take k rs) (take k qs)) = ap (λ l. length l) is in
    let one = length-append before (pairs_of (take k rs) (take k qs)) in
    let two = pairs_few rs qs k in
    omega arith

-- A list that gained pairs gains one more.
pub list_more : (before mid after : List Pair) (rs qs : List Ref) (k : ℕ) (r q : Ref) → slice_get rs k ≡ Some r → slice_get qs k ≡ Some q
    → mid ≡ before ++ pairs_of (take k rs) (take k qs)
    → after ≡ mid ++ record { left = r; right = q } ∷ [] → after ≡ before ++ pairs_of (take (k + 1) rs) (take (k + 1) qs)
list_more before mid after rs qs k r q hr hq is gains =
    let p : Pair = record { left = r; right = q } in
    gains ∙ ap (λ l. l ++ p ∷ []) is ∙ append_assoc before (pairs_of (take k rs) (take k qs)) (p ∷ [])
    ∙ ap (λ ps. before ++ ps) (sym (pairs_more rs qs k r q hr hq))

-- A structure is in its frame.
pub argument_of_part : (P : NamedProgram) (whole r : Ref) (node : NodeNo) (base k : ℕ) → whole ≡ Node node base
    → slice_get (parts_of P (Node node base)) k ≡ Some r → slice_get (parts_of P whole) k ≡ Some r
argument_of_part P whole r node base k is at = subst (λ x. slice_get (parts_of P x) k ≡ Some r) (sym is) at

-- All were taken at the end.
pub list_whole : (P : NamedProgram) (before after : List Pair) (one other : Ref) (name count k : ℕ) → IsStructure P one name count
    → IsStructure P other name count → count ≤ k
    → after ≡ before ++ pairs_of (take k (parts_of P one)) (take k (parts_of P other)) → after ≡ before ++ pairs_of (parts_of P one) (parts_of P other)
list_whole P before after one other name count k left right all is =
    let first : length (parts_of P one) ≡ count = parts_counted P one name count left in
    let second : length (parts_of P other) ≡ count = parts_counted P other name count right in
    is ∙ ap (λ xs. before ++ pairs_of xs (take k (parts_of P other))) (take_all k (parts_of P one) (omega arith))
    ∙ ap (λ ys. before ++ pairs_of (parts_of P one) ys) (take_all k (parts_of P other) (omega arith))

-- how many arguments a structure has
pub arguments_counted : (P : NamedProgram) (one : Ref) (node : NodeNo) (base name count : ℕ) → one ≡ Node node base → IsStructure P one name count
    → length (arguments_at P.skeleton node.0) ≡ count
arguments_counted P one node base name count is s =
    sym (length_map (part_at P base) (arguments_at P.skeleton node.0)) ∙ ap (λ r. length (parts_of P r)) (sym is) ∙ parts_counted P one name count s

-- Structures of one shape have as many.
pub as_many : (P Q : NamedProgram) (words : ℕ) (one other : Ref) (left right : NodeNo) (base by : ℕ) → P ≡ Q → AreOfOneShape P words one other
    → one ≡ Node left base → other ≡ Node right by → length (arguments_at Q.skeleton left.0) ≡ length (arguments_at Q.skeleton right.0)
as_many P Q words one other left right base by same shape is_one is_other =
    let s : AreOfOneShape Q words one other = subst (λ (p : NamedProgram). AreOfOneShape p words one other) same shape in
    arguments_counted Q one left base s.name s.count is_one s.left_is ∙ sym (arguments_counted Q other right by s.name s.count is_other s.right_is)

-- Structures to which the sides of a pair led are of one shape.
pub one_shape : (P Q : NamedProgram) (left right one other : Ref) (old new : Seen) → P ≡ Q → MeetStructures P left right old new one other
    → (words : ℕ) × AreOfOneShape Q words one other
one_shape P Q left right one other old new same m = subst (λ p. (words : ℕ) × AreOfOneShape p words one other) same (old.words, m.shape)

-- What descending into structures does is a step.
pub steps_down : (P Q : NamedProgram) (p : Pair) (one other : Ref) (old new : Seen) (links more_links : List (Ref × Ref)) (list longer : List Pair)
    (bound further : List ℕ) → P ≡ Q
    → MeetStructures P p.left p.right old new one other → further ≡ bound
    → (InOneClass links one other × (more_links ≡ links) × (longer ≡ list))
    ⊎ (Joins one other links more_links × (longer ≡ list ++ pairs_of (parts_of Q one) (parts_of Q other)))
    → Steps P p old new links more_links list longer bound further
steps_down P Q p one other old new links more_links list longer bound further same m stays (inl class) = one_class one other m class.0 class.1 class.2 stays
steps_down P Q p one other old new links more_links list longer bound further same m stays (inr joined) =
    joins one other m joined.0 (joined.1 ∙ ap (λ x. list ++ pairs_of (parts_of x one) (parts_of x other)) (sym same)) stays
