-- What one more part makes of a draft.
use Rattle.std.proofs.Common.{ℕ, zero, suc, ◌+◌, ◌-◌, ◌≡◌, ◌<◌, ◌≤◌, pos, List, [], ◌∷◌, ◌++◌, length, map, get_or, take, drop, refl, sym, ap, ◌∙◌, arith}
use Rattle.std.proofs.Common.{subst, Result, Ok, Err, OnOk, OnErr}
use Rattle.std.proofs.lemmas.List.{append_assoc, append-nil, length-append, get_or_append_left, get_or_at, take-append-drop, length-map, map_push, take-map}
use Rattle.std.proofs.lemmas.List.{drop-map, length-take-le, length-drop}
use Rattle.std.proofs.Math.Seq.{take-append_seam, drop-append_seam, take-length}
use Rattle.and_model.specs.Lines.{Bytes}
use Rattle.and_syntax.specs.Written
use Rattle.and_syntax.specs.Written.{Written, Many, nodes_of, nodes_in}
use Rattle.and_program.specs.Skeletons.{Falls}
use Rattle.and_drafts.specs.declared.draft.DraftPart.{DraftPart}
use Rattle.and_drafts.specs.Drafts.{Draft}
use Rattle.and_drafts.specs.Parts.{PartShape, compound, part_shape, part_shapes, IsNarrow, AllNarrow, many, nth_written, shape_written, written_behind}
use Rattle.and_drafts.specs.Parts.{written_at, before_last, roots, postfix, postfix_all, IsFormed, PartsFall}

-- terms of parts depend on the parts before them alone
pub written_behind-append : (ws : List Written) (ps qs : List PartShape) → written_behind ws (ps ++ qs) ≡ written_behind (written_behind ws ps) qs
written_behind-append ws [] qs = refl
written_behind-append ws (p ∷ ps) qs = written_behind-append (ws ++ shape_written ws p ∷ []) ps qs

pub length-written_behind : (ws : List Written) (ps : List PartShape) → length (written_behind ws ps) ≡ length ws + length ps
length-written_behind ws [] = omega arith
length-written_behind ws (p ∷ ps) = omega (arith, length-written_behind (ws ++ shape_written ws p ∷ []) ps, length-append ws (shape_written ws p ∷ []))

pub nth-written_behind : (ws : List Written) (ps : List PartShape) (n : ℕ) → n < length ws → nth_written (written_behind ws ps) n ≡ nth_written ws n
nth-written_behind ws [] n lt = refl
nth-written_behind ws (p ∷ ps) n lt =
    let t : Written = shape_written ws p in
    nth-written_behind (ws ++ t ∷ []) ps n (omega (arith, length-append ws (t ∷ []))) ∙ get_or_append_left ws (t ∷ []) (Written.integer (pos 0)) n lt

pub written_at_front : (ps qs : List PartShape) (n : ℕ) → n < length ps → written_at (ps ++ qs) n ≡ written_at ps n
written_at_front ps qs n lt =
    ap (λ (ws : List Written). nth_written ws n) (written_behind-append [] ps qs)
    ∙ nth-written_behind (written_behind [] ps) qs n (omega (arith, length-written_behind [] ps))

pub written_at_end : (ps : List PartShape) (p : PartShape) → written_at (ps ++ p ∷ []) (length ps) ≡ shape_written (written_behind [] ps) p
written_at_end ps p =
    let ws : List Written = written_behind [] ps in
    ap (λ (us : List Written). nth_written us (length ps)) (written_behind-append [] ps (p ∷ []))
    ∙ get_or_at ws (shape_written ws p) [] (Written.integer (pos 0)) (length ps) (length-written_behind [] ps ∙ omega arith)

-- lists of terms
pub nodes_in-many : (xs ys : List Written) → nodes_in (many (xs ++ ys)) ≡ nodes_in (many xs) + nodes_in (many ys)
nodes_in-many [] ys = omega arith
nodes_in-many (x ∷ xs) ys = omega (arith, nodes_in-many xs ys)

pub postfix_all-many : (n : ℕ) (xs ys : List Written) → postfix_all n (many (xs ++ ys))
    ≡ postfix_all n (many xs) ++ postfix_all (n + nodes_in (many xs)) (many ys)
postfix_all-many n [] ys = let e : n ≡ n + 0 = omega arith in ap (λ (m : ℕ). postfix_all m (many ys)) e
postfix_all-many n (x ∷ xs) ys =
    let e : n + nodes_of x + nodes_in (many xs) ≡ n + (nodes_of x + nodes_in (many xs)) = omega arith in
    ap (λ (ps : List PartShape). postfix n x ++ ps) (postfix_all-many (n + nodes_of x) xs ys)
    ∙ sym (append_assoc (postfix n x) (postfix_all (n + nodes_of x) (many xs)) (postfix_all (n + nodes_of x + nodes_in (many xs)) (many ys)))
    ∙ ap (λ (m : ℕ). (postfix n x ++ postfix_all (n + nodes_of x) (many xs)) ++ postfix_all m (many ys)) e

pub roots-many : (n : ℕ) (xs ys : List Written) → roots n (many (xs ++ ys)) ≡ roots n (many xs) ++ roots (n + nodes_in (many xs)) (many ys)
roots-many n [] ys = let e : n ≡ n + 0 = omega arith in ap (λ (m : ℕ). roots m (many ys)) e
roots-many n (x ∷ xs) ys =
    let e : n + nodes_of x + nodes_in (many xs) ≡ n + (nodes_of x + nodes_in (many xs)) = omega arith in
    ap (λ (ns : List ℕ). (n + before_last x) ∷ ns) (roots-many (n + nodes_of x) xs ys ∙ ap (λ (m : ℕ). roots (n + nodes_of x) (many xs) ++ roots m (many ys)) e)

pub length-roots : (n : ℕ) (xs : List Written) → length (roots n (many xs)) ≡ length xs
length-roots n [] = refl
length-roots n (x ∷ xs) = ap suc (length-roots (n + nodes_of x) xs)

mutual
  pub length-postfix : (n : ℕ) (w : Written) → length (postfix n w) ≡ nodes_of w
  length-postfix n (Written.variable x) = refl
  length-postfix n (Written.integer z) = refl
  length-postfix n (Written.compound c ts) = omega (arith, length-append (postfix_all n ts) (compound c (roots n ts) ∷ []), length-postfix_all n ts)

  pub length-postfix_all : (n : ℕ) (ts : Many) → length (postfix_all n ts) ≡ nodes_in ts
  length-postfix_all n Written.none = refl
  length-postfix_all n (Written.more t ts) =
      omega (arith, length-append (postfix n t) (postfix_all (n + nodes_of t) ts), length-postfix n t, length-postfix_all (n + nodes_of t) ts)

pub before_last-below : (w : Written) → before_last w < nodes_of w
before_last-below (Written.variable x) = omega arith
before_last-below (Written.integer z) = omega arith
before_last-below (Written.compound c ts) = omega arith

pub Falls-more : (a b : ℕ) (ns : List ℕ) → a ≤ b → Falls a ns → Falls b ns
Falls-more a b [] le f = tt
Falls-more a b (n ∷ ns) le f = (omega (arith, f.0), Falls-more a b ns le f.1)

pub Falls-roots : (n m : ℕ) (ts : Many) → n + nodes_in ts ≤ m → Falls m (roots n ts)
Falls-roots n m Written.none le = tt
Falls-roots n m (Written.more t ts) le = (omega (arith, before_last-below t), Falls-roots (n + nodes_of t) m ts (omega arith))

-- parts in postfix order name parts before them
pub PartsFall-append : (n : ℕ) (ps qs : List PartShape) → PartsFall n ps → PartsFall (n + length ps) qs → PartsFall n (ps ++ qs)
PartsFall-append n [] qs f g = let e : n + 0 ≡ n = omega arith in subst (λ (m : ℕ). PartsFall m qs) e g
PartsFall-append n (p ∷ ps) qs f g = let e : n + suc (length ps) ≡ suc n + length ps =
    omega arith in (f.0, PartsFall-append (suc n) ps qs f.1 (subst (λ (m : ℕ). PartsFall m qs) e g))

mutual
  pub PartsFall-postfix : (n : ℕ) (w : Written) → PartsFall n (postfix n w)
  PartsFall-postfix n (Written.variable x) = (tt, tt)
  PartsFall-postfix n (Written.integer z) = (tt, tt)
  PartsFall-postfix n (Written.compound c ts) =
      PartsFall-append n (postfix_all n ts) (compound c (roots n ts) ∷ []) (PartsFall-postfix_all n ts)
      (Falls-roots n (n + length (postfix_all n ts)) ts (omega (arith, length-postfix_all n ts)), tt)

  pub PartsFall-postfix_all : (n : ℕ) (ts : Many) → PartsFall n (postfix_all n ts)
  PartsFall-postfix_all n Written.none = tt
  PartsFall-postfix_all n (Written.more t ts) =
      PartsFall-append n (postfix n t) (postfix_all (n + nodes_of t) ts) (PartsFall-postfix n t)
      (subst (λ (m : ℕ). PartsFall (n + m) (postfix_all (n + nodes_of t) ts)) (sym (length-postfix n t)) (PartsFall-postfix_all (n + nodes_of t) ts))

-- each finished term has its part
Formed-below : (ps : List PartShape) (ns : List ℕ) → IsFormed ps ns → Falls (length ps) ns
Formed-below ps ns f =
    let ws : List Written = map (written_at ps) ns in
    let few : 0 + nodes_in (many ws) ≤ length ps = omega (arith, length-postfix_all 0 (many ws), ap length f.0) in
    subst (λ (ms : List ℕ). Falls (length ps) ms) (sym f.1) (Falls-roots 0 (length ps) (many ws) few)

Falls-take : (n k : ℕ) (ns : List ℕ) → Falls n ns → Falls n (take k ns)
Falls-take n zero ns f = tt
Falls-take n (suc k) [] f = tt
Falls-take n (suc k) (m ∷ ns) f = (f.0, Falls-take n k ns f.1)

written_front : (ps qs : List PartShape) (ns : List ℕ) → Falls (length ps) ns → map (written_at (ps ++ qs)) ns ≡ map (written_at ps) ns
written_front ps qs [] f = refl
written_front ps qs (n ∷ ns) f =
    ap (λ (w : Written). w ∷ map (written_at (ps ++ qs)) ns) (written_at_front ps qs n f.0)
    ∙ ap (λ (ws : List Written). written_at ps n ∷ ws) (written_front ps qs ns f.1)

-- the finished terms once a part follows, to which those from k on belong
pub written_more : (ps : List PartShape) (ns : List ℕ) (p : PartShape) (k : ℕ) → IsFormed ps ns
    → map (written_at (ps ++ p ∷ [])) (take k ns ++ length ps ∷ []) ≡ take k (map (written_at ps) ns) ++ shape_written (written_behind [] ps) p ∷ []
written_more ps ns p k f =
    let new : ℕ → Written = written_at (ps ++ p ∷ []) in
    map_push new (take k ns) (length ps)
    ∙ ap (λ (ws : List Written). ws ++ new (length ps) ∷ []) (written_front ps (p ∷ []) (take k ns) (Falls-take (length ps) k ns (Formed-below ps ns f))
    ∙ sym (take-map (written_at ps) k ns))
    ∙ ap (λ (w : Written). take k (map (written_at ps) ns) ++ w ∷ []) (written_at_end ps p)

take-append-length : {X : Type 0} (xs ys : List X) (k : ℕ) → length xs ≡ k → take k (xs ++ ys) ≡ xs
take-append-length xs ys k e = ap (λ (n : ℕ). take n (xs ++ ys)) (sym e) ∙ take-append_seam xs ys

drop-append-length : {X : Type 0} (xs ys : List X) (k : ℕ) → length xs ≡ k → drop k (xs ++ ys) ≡ ys
drop-append-length xs ys k e = ap (λ (n : ℕ). drop n (xs ++ ys)) (sym e) ∙ drop-append_seam xs ys

take-roots : (k : ℕ) (F G : List Written) → length F ≡ k → take k (roots 0 (many (F ++ G))) ≡ roots 0 (many F)
take-roots k F G e = ap (take k) (roots-many 0 F G) ∙ take-append-length (roots 0 (many F)) (roots (0 + nodes_in (many F)) (many G)) k (length-roots 0 F ∙ e)

drop-roots : (k : ℕ) (F G : List Written) → length F ≡ k → drop k (roots 0 (many (F ++ G))) ≡ roots (0 + nodes_in (many F)) (many G)
drop-roots k F G e = ap (drop k) (roots-many 0 F G) ∙ drop-append-length (roots 0 (many F)) (roots (0 + nodes_in (many F)) (many G)) k (length-roots 0 F ∙ e)

-- the parts are formed again, where a term w takes the finished ones from k on
formed_more : (ps : List PartShape) (ns : List ℕ) (p : PartShape) (w : Written) (F G : List Written) (k : ℕ) → IsFormed ps ns
    → map (written_at ps) ns ≡ F ++ G → length F ≡ k
    → shape_written (written_behind [] ps) p ≡ w
    → ((n : ℕ) → n ≡ 0 + nodes_in (many F) → postfix n w ≡ postfix_all n (many G) ++ p ∷ []) → before_last w ≡ nodes_in (many G)
    → IsFormed (ps ++ p ∷ []) (take k ns ++ length ps ∷ [])
formed_more ps ns p w F G k f split few is opened last =
    let n : ℕ = 0 + nodes_in (many F) in
    let now : map (written_at (ps ++ p ∷ [])) (take k ns ++ length ps ∷ []) ≡ F ++ w ∷ [] =
    written_more ps ns p k f ∙ ap (λ (ws : List Written). take k ws ++ shape_written (written_behind [] ps) p ∷ []) split
    ∙ ap (λ (ws : List Written). ws ++ shape_written (written_behind [] ps) p ∷ []) (take-append-length F G k few) ∙ ap (λ (t : Written). F ++ t ∷ []) is in
    let old : ps ≡ postfix_all 0 (many F) ++ postfix_all n (many G) =
    f.0 ∙ ap (λ (ws : List Written). postfix_all 0 (many ws)) split ∙ postfix_all-many 0 F G in
    let new : postfix_all 0 (many (F ++ w ∷ [])) ≡ postfix_all 0 (many F) ++ (postfix_all n (many G) ++ p ∷ []) =
    postfix_all-many 0 F (w ∷ []) ∙ ap (λ (qs : List PartShape). postfix_all 0 (many F) ++ qs) (append-nil (postfix n w) ∙ opened n refl) in
    let rooted : take k ns ≡ roots 0 (many F) = ap (take k) (f.1 ∙ ap (λ (ws : List Written). roots 0 (many ws)) split) ∙ take-roots k F G few in
    let size : length ps ≡ n + before_last w =
    ap length old ∙ length-append (postfix_all 0 (many F)) (postfix_all n (many G))
    ∙ omega (arith, length-postfix_all 0 (many F), length-postfix_all n (many G), last) in (
      ap (λ (qs : List PartShape). qs ++ p ∷ []) old ∙ append_assoc (postfix_all 0 (many F)) (postfix_all n (many G)) (p ∷ []) ∙ sym new
          ∙ ap (λ (ws : List Written). postfix_all 0 (many ws)) (sym now),
      ap (λ (ms : List ℕ). ms ++ length ps ∷ []) rooted ∙ ap (λ (m : ℕ). roots 0 (many F) ++ m ∷ []) size ∙ sym (roots-many 0 F (w ∷ []))
          ∙ ap (λ (ws : List Written). roots 0 (many ws)) (sym now),
    )

pub formed_leaf : (ps : List PartShape) (ns : List ℕ) (p : PartShape) (w : Written) → IsFormed ps ns → shape_written (written_behind [] ps) p ≡ w
    → ((n : ℕ) → postfix n w ≡ p ∷ []) → before_last w ≡ 0 → IsFormed (ps ++ p ∷ []) (take (length ns) ns ++ length ps ∷ [])
formed_leaf ps ns p w f is opened last =
    formed_more ps ns p w (map (written_at ps) ns) [] (length ns) f (sym (append-nil (map (written_at ps) ns))) (length-map ns (written_at ps)) is
    (λ n e. opened n) last

pub formed_compound : (ps : List PartShape) (ns : List ℕ) (c : Bytes) (k : ℕ) → IsFormed ps ns → k ≤ length ns
    → IsFormed (ps ++ compound c (drop k ns) ∷ []) (take k ns ++ length ps ∷ [])
formed_compound ps ns c k f le =
    let ws : List Written = map (written_at ps) ns in
    let F : List Written = take k ws in
    let G : List Written = drop k ws in
    let few : length F ≡ k = length-take-le k ws (omega (arith, length-map ns (written_at ps))) in
    let split : ws ≡ F ++ G = sym (take-append-drop k ws) in
    let args : drop k ns ≡ roots (0 + nodes_in (many F)) (many G) =
    ap (drop k) (f.1 ∙ ap (λ (us : List Written). roots 0 (many us)) split) ∙ drop-roots k F G few in
    formed_more ps ns (compound c (drop k ns)) (Written.compound c (many G)) F G k f split few
    (ap (λ (us : List Written). Written.compound c (many us)) (sym (drop-map (written_at ps) k ns)))
    (λ n e. ap (λ (ms : List ℕ). postfix_all n (many G) ++ compound c ms ∷ []) (ap (λ (m : ℕ). roots m (many G)) e ∙ sym args)) refl

AllNarrow-push : (ps : List PartShape) (p : PartShape) → AllNarrow ps → IsNarrow p → AllNarrow (ps ++ p ∷ [])
AllNarrow-push [] p a n = (n, tt)
AllNarrow-push (q ∷ ps) p a n = (a.0, AllNarrow-push ps p a.1 n)

-- the last arguments of what takes the terms from `start` on
pub last_arguments : (ps : List PartShape) (ns ms : List ℕ) (c : Bytes) (start : ℕ) → ms ≡ drop start ns
    → shape_written (written_behind [] ps) (compound c ms) ≡ Written.compound c (many (drop start (map (written_at ps) ns)))
last_arguments ps ns ms c start e = ap (λ (ks : List ℕ). Written.compound c (many (map (written_at ps) ks))) e
    ∙ ap (λ (ws : List Written). Written.compound c (many ws)) (sym (drop-map (written_at ps) start ns))

-- A draft after a step, whatever came of it.
pub record Stepped {T E : Type 0} (r : Result T E) (old new : List DraftPart) (ms : List ℕ) (F : List Written) (w : Written) : Type 0 where
  pub few : length new ≤ 4294967295
  pub formed : IsFormed (part_shapes new) ms
  pub narrow : AllNarrow (part_shapes new)
  pub meaning : OnOk r ((map (written_at (part_shapes new)) ms ≡ F ++ w ∷ []) × (length new ≡ length old + 1))

pub stepped : {T E : Type 0} (r : Result T E) (old new : List DraftPart) (ns ms : List ℕ) (p : DraftPart) (F : List Written) (w : Written) (start : ℕ)
    → IsFormed (part_shapes old) ns → AllNarrow (part_shapes old) → length old < 4294967295
    → OnOk r (new ≡ old ++ p ∷ []) → OnOk r (ms ≡ take start ns ++ length old ∷ []) → OnErr r (new ≡ old) → OnErr r (ms ≡ ns)
    → IsFormed (part_shapes old ++ part_shape p ∷ []) (take start ns ++ length (part_shapes old) ∷ []) → IsNarrow (part_shape p)
    → shape_written (written_behind [] (part_shapes old)) (part_shape p) ≡ w → take start (map (written_at (part_shapes old)) ns) ≡ F
    → Stepped r old new ms F w
stepped (Ok u) old new ns ms p F w start f n few parts finished parts_kept finished_kept after narrow is front =
    let e : part_shapes new ≡ part_shapes old ++ part_shape p ∷ [] = ap part_shapes parts ∙ map_push part_shape old p in
    let d : ms ≡ take start ns ++ length (part_shapes old) ∷ [] = finished ∙ ap (λ (k : ℕ). take start ns ++ k ∷ []) (sym (length-map old part_shape)) in
    let one : length new ≡ length old + 1 = ap length parts ∙ length-append old (p ∷ []) in
    record {
      few = omega (arith, one);
      formed = subst (λ (ks : List ℕ). IsFormed (part_shapes new) ks) (sym d)
          (subst (λ (qs : List PartShape). IsFormed qs (take start ns ++ length (part_shapes old) ∷ [])) (sym e) after);
      narrow = subst AllNarrow (sym e) (AllNarrow-push (part_shapes old) (part_shape p) n narrow);
      meaning = (
        ap (λ (qs : List PartShape). map (written_at qs) ms) e ∙ ap (map (written_at (part_shapes old ++ part_shape p ∷ []))) d
            ∙ written_more (part_shapes old) ns (part_shape p) start f
            ∙ ap (λ (t : Written). take start (map (written_at (part_shapes old)) ns) ++ t ∷ []) is ∙ ap (λ (us : List Written). us ++ w ∷ []) front,
        one,
      );
    }
stepped (Err e) old new ns ms p F w start f n few parts finished parts_kept finished_kept after narrow is front =
    record {
      few = subst (λ (qs : List DraftPart). length qs ≤ 4294967295) (sym parts_kept) (omega arith);
      formed = subst (λ (ks : List ℕ). IsFormed (part_shapes new) ks) (sym finished_kept)
          (subst (λ (qs : List DraftPart). IsFormed (part_shapes qs) ns) (sym parts_kept) f);
      narrow = subst (λ (qs : List DraftPart). AllNarrow (part_shapes qs)) (sym parts_kept) n;
      meaning = tt;
    }

pub stepped_leaf : {T E : Type 0} (r : Result T E) (old new : List DraftPart) (ns ms : List ℕ) (p : DraftPart) (w : Written) (start : ℕ)
    → IsFormed (part_shapes old) ns → AllNarrow (part_shapes old) → length old < 4294967295
    → OnOk r (new ≡ old ++ p ∷ []) → OnOk r (ms ≡ take start ns ++ length old ∷ []) → OnErr r (new ≡ old) → OnErr r (ms ≡ ns)
    → start ≡ length ns → IsNarrow (part_shape p) → shape_written (written_behind [] (part_shapes old)) (part_shape p) ≡ w
    → ((n : ℕ) → postfix n w ≡ part_shape p ∷ []) → before_last w ≡ 0
    → Stepped r old new ms (map (written_at (part_shapes old)) ns) w
stepped_leaf r old new ns ms p w start f n few parts finished parts_kept finished_kept whole narrow is opened last =
    let ws : List Written = map (written_at (part_shapes old)) ns in
    let after : IsFormed (part_shapes old ++ part_shape p ∷ []) (take start ns ++ length (part_shapes old) ∷ []) =
    subst (λ (k : ℕ). IsFormed (part_shapes old ++ part_shape p ∷ []) (take k ns ++ length (part_shapes old) ∷ [])) (sym whole)
    (formed_leaf (part_shapes old) ns (part_shape p) w f is opened last) in
    stepped r old new ns ms p ws w start f n few parts finished parts_kept finished_kept after narrow is
    (ap (λ (k : ℕ). take k ws) (whole ∙ sym (length-map ns (written_at (part_shapes old)))) ∙ take-length ws)

pub stepped_compound : {T E : Type 0} (r : Result T E) (old new : List DraftPart) (ns ms : List ℕ) (p : DraftPart) (c : Bytes) (args : List ℕ) (count start : ℕ)
    → IsFormed (part_shapes old) ns → AllNarrow (part_shapes old) → length old < 4294967295
    → OnOk r (new ≡ old ++ p ∷ []) → OnOk r (ms ≡ take start ns ++ length old ∷ []) → OnErr r (new ≡ old) → OnErr r (ms ≡ ns)
    → start ≡ length ns - count → count ≤ length (map (written_at (part_shapes old)) ns) → count ≤ 255 → part_shape p ≡ compound c args → args ≡ drop start ns
    → Stepped r old new ms (take (length (map (written_at (part_shapes old)) ns) - count) (map (written_at (part_shapes old)) ns))
    (Written.compound c (many (drop (length (map (written_at (part_shapes old)) ns) - count) (map (written_at (part_shapes old)) ns))))
stepped_compound r old new ns ms p c args count start f n few parts finished parts_kept finished_kept begins there narrow is takes =
    let ws : List Written = map (written_at (part_shapes old)) ns in
    let same : start ≡ length ws - count = begins ∙ ap (λ (k : ℕ). k - count) (sym (length-map ns (written_at (part_shapes old)))) in
    let named : part_shape p ≡ compound c (drop start ns) = is ∙ ap (compound c) takes in
    let after : IsFormed (part_shapes old ++ part_shape p ∷ []) (take start ns ++ length (part_shapes old) ∷ []) =
    subst (λ (q : PartShape). IsFormed (part_shapes old ++ q ∷ []) (take start ns ++ length (part_shapes old) ∷ [])) (sym named)
    (formed_compound (part_shapes old) ns c start f (omega (arith, length-map ns (written_at (part_shapes old))))) in
    let short : length (drop start ns) ≤ 255 = omega (arith, length-drop start ns, length-map ns (written_at (part_shapes old))) in
    stepped r old new ns ms p (take (length ws - count) ws) (Written.compound c (many (drop (length ws - count) ws))) start f n few parts finished
    parts_kept finished_kept after
    (subst IsNarrow (sym named) short)
    (ap (shape_written (written_behind [] (part_shapes old))) named ∙ last_arguments (part_shapes old) ns (drop start ns) c start refl
    ∙ ap (λ (k : ℕ). Written.compound c (many (drop k ws))) same)
    (ap (λ (k : ℕ). take k ws) same)

abbrev draft : ℕ → List Written → ℕ → Draft
draft line ws n = record { line = line; finished = ws; parts = n }

pub drafted : {T E : Type 0} (r : Result T E) (line : ℕ) (f g : List Written) (n m : ℕ) → OnOk r ((f ≡ g) × (n ≡ m)) → OnOk r (draft line f n ≡ draft line g m)
drafted (Ok u) line f g n m h = ap (λ (ws : List Written). draft line ws n) h.0 ∙ ap (draft line g) h.1
drafted (Err e) line f g n m h = tt

one_item : (ns : List ℕ) (n : ℕ) → length ns ≡ 1 → n ≡ get_or ns 0 n → ns ≡ n ∷ []
one_item [] n e at = absurd (omega arith)
one_item (m ∷ []) n e at = ap (λ (k : ℕ). k ∷ []) (sym at)
one_item (m ∷ k ∷ ns) n e at = absurd (omega arith)

pub root_there : (ps : List DraftPart) (ns : List ℕ) (n : ℕ) → IsFormed (part_shapes ps) ns → length (map (written_at (part_shapes ps)) ns) ≡ 1
    → n ≡ get_or ns 0 n → n < length ps
root_there ps ns n f one at =
    let e : ns ≡ n ∷ [] = one_item ns n (omega (arith, length-map ns (written_at (part_shapes ps)))) at in
    omega (arith, length-map ps part_shape, (subst (Falls (length (part_shapes ps))) e (Formed-below (part_shapes ps) ns f)).0)

pub tail_is : (k : ℕ) (xs ys : List ℕ) → ys ≡ xs → take (length ys - k) (drop k ys) ≡ drop k xs
tail_is k xs ys e = ap (λ (n : ℕ). take n (drop k ys)) (sym (length-drop k ys)) ∙ take-length (drop k ys) ∙ ap (drop k) e
