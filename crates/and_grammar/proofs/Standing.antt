-- What acts make of a body as far as it is translated.
use Rattle.std.proofs.Common.{ℕ, suc, ◌+◌, ◌-◌, ◌≤◌, ◌≡◌, List, [], ◌∷◌, ◌++◌, length, take, drop, reverse, codes}
use Rattle.std.proofs.Common.{refl, ap, ◌∙◌, arith}
use Rattle.std.proofs.lemmas.List.{append_assoc, append-nil, reverse-append, length-append, length-take-le}
use Rattle.std.proofs.Math.Seq.{take-append_seam, drop-append_seam}
use Rattle.and_syntax.specs.Written.{Written, compound, none, more}
use Rattle.and_translation.specs.Bodies.{Body, Alternatives, or, both, either}
use Rattle.and_translation.specs.Translation.{Walk, Choice, state, equation, joined, ended, walk, choose}
use Rattle.and_grammar.specs.Acts.{Act, body, others, ends, join, resume, Stand, whole, done, all_done, two_joined, AreBelow}

abbrev pub stand : List Written → List Written → ℕ → ℕ → Stand
stand below goals s n = record { below = below; goals = goals; state = s; next = n }

pub stand_same : (a b c d : List Written) (s n : ℕ) → a ≡ b → c ≡ d → stand a c s n ≡ stand b d s n
stand_same a b c d s n e f = ap (λ (ws : List Written). stand ws c s n) e ∙ ap (λ (ws : List Written). stand b ws s n) f

-- the last two of some terms as one
pub two_joined-is : (ws : List Written) (u v : Written) → two_joined (ws ++ u ∷ v ∷ []) ≡ ws ++ compound (codes ";") (more u (more v none)) ∷ []
two_joined-is [] u v = refl
two_joined-is (w ∷ []) u v = refl
two_joined-is (w ∷ x ∷ ws) u v = by ws (two_joined-is (x ∷ ws) u v)
  where
    by : (vs : List Written) → two_joined (x ∷ (vs ++ u ∷ v ∷ [])) ≡ x ∷ (vs ++ compound (codes ";") (more u (more v none)) ∷ [])
        → two_joined (w ∷ x ∷ (vs ++ u ∷ v ∷ [])) ≡ w ∷ x ∷ (vs ++ compound (codes ";") (more u (more v none)) ∷ [])
    by [] e = ap (λ (ys : List Written). w ∷ ys) e
    by (y ∷ vs) e = ap (λ (ys : List Written). w ∷ ys) e

pub length-two_joined : (ws : List Written) → 2 ≤ length ws → length (two_joined ws) ≡ length ws - 1
length-two_joined [] le = absurd (omega arith)
length-two_joined (u ∷ []) le = absurd (omega arith)
length-two_joined (u ∷ v ∷ []) le = omega arith
length-two_joined (u ∷ v ∷ w ∷ ws) le = omega (arith, length-two_joined (v ∷ w ∷ ws) (omega arith))

-- what was put below is taken up again
resumed : (below goals : List Written) (x : Written) (s n : ℕ)
    → done (resume (length goals)) (stand ((below ++ goals) ++ x ∷ []) [] s n) ≡ stand below (goals ++ x ∷ []) s n
resumed below goals x s n =
    let all : List Written = ((below ++ goals) ++ x ∷ []) ++ [] in
    let same : all ≡ below ++ (goals ++ x ∷ []) = append-nil ((below ++ goals) ++ x ∷ []) ∙ append_assoc below goals (x ∷ []) in
    let kept : length all - suc (length goals) ≡ length below =
    omega (arith, ap length same, length-append below (goals ++ x ∷ []), length-append goals (x ∷ [])) in
    let at : (k : ℕ) → k ≡ length below → (take k all ≡ below) × (drop k all ≡ goals ++ x ∷ []) =
    λ k e. (
      ap (λ (m : ℕ). take m all) e ∙ ap (take (length below)) same ∙ take-append_seam below (goals ++ x ∷ []),
      ap (λ (m : ℕ). drop m all) e ∙ ap (drop (length below)) same ∙ drop-append_seam below (goals ++ x ∷ []),
    ) in
    stand_same (take (length all - suc (length goals)) all) below (drop (length all - suc (length goals)) all) (goals ++ x ∷ []) s n
    (at (length all - suc (length goals)) kept).0 (at (length all - suc (length goals)) kept).1

two_behind : (ws : List Written) (u v : Written) → (((ws ++ u ∷ []) ++ []) ++ v ∷ []) ++ [] ≡ ws ++ u ∷ v ∷ []
two_behind ws u v =
    append-nil (((ws ++ u ∷ []) ++ []) ++ v ∷ []) ∙ ap (λ (vs : List Written). vs ++ v ∷ []) (append-nil (ws ++ u ∷ [])) ∙ append_assoc ws (u ∷ []) (v ∷ [])

-- a first alternative and others, and then one term of both
alternatives_done : (ws : List Written) (a : Body) (rest : Alternatives) (from i n : ℕ)
    → done join (done (others rest from i) (done (ends i) (done (body a) (stand ws [] from n))))
    ≡ stand (ws ++ (choose (or a rest) from i n).goal ∷ []) [] i (choose (or a rest) from i n).next
alternatives_done ws a rest from i n =
    let w : Walk = walk a from n in
    let e : Written = ended i w in
    let c : Choice = choose rest from i w.next in
    stand_same (two_joined ((((ws ++ e ∷ []) ++ []) ++ c.goal ∷ []) ++ [])) (ws ++ compound (codes ";") (more e (more c.goal none)) ∷ []) [] [] i c.next
    (ap two_joined (two_behind ws e c.goal) ∙ two_joined-is ws e c.goal) refl

-- a disjunction is its first alternative and the others
pub disjunction_done : (a : Body) (rest : Alternatives) (s : Stand) (todo : List Act)
    → all_done (body a ∷ ends s.next ∷ others rest s.state s.next ∷ join ∷ resume (length s.goals) ∷ todo) (stand (whole s) [] s.state (suc s.next))
    ≡ all_done (body (either (or a rest)) ∷ todo) s
disjunction_done a rest s todo =
    let c : Choice = choose (or a rest) s.state s.next (suc s.next) in
    ap (all_done todo)
    (ap (done (resume (length s.goals))) (alternatives_done (whole s) a rest s.state s.next (suc s.next)) ∙ resumed s.below s.goals c.goal s.next c.next)

-- others are one alternative before others
pub others_done : (a : Body) (rest : Alternatives) (from i : ℕ) (s : Stand) (todo : List Act)
    → all_done (body a ∷ ends i ∷ others rest from i ∷ join ∷ todo) (stand (whole s) [] from s.next) ≡ all_done (others (or a rest) from i ∷ todo) s
others_done a rest from i s todo = ap (all_done todo) (alternatives_done (whole s) a rest from i s.next)

-- two bodies one after the other
pub both_done : (a b : Body) (s : Stand) (todo : List Act) → all_done (body a ∷ body b ∷ todo) s ≡ all_done (body (both a b) ∷ todo) s
both_done a b s todo =
    let v : Walk = walk a s.state s.next in
    let w : Walk = walk b v.behind v.next in
    ap (all_done todo) (stand_same s.below s.below ((s.goals ++ v.goals) ++ w.goals) (s.goals ++ (v.goals ++ w.goals)) w.behind w.next refl
    (append_assoc s.goals v.goals w.goals))

pub enough_below : (todo : List Act) (k m : ℕ) → AreBelow todo k → k ≤ m → AreBelow todo m
enough_below [] k m h le = tt
enough_below (body b ∷ todo) k m h le = enough_below todo k m h le
enough_below (others b from i ∷ todo) k m h le = enough_below todo (suc k) (suc m) h (omega arith)
enough_below (ends i ∷ todo) k m h le = enough_below todo (suc k) (suc m) h (omega arith)
enough_below (join ∷ todo) k m h le = (omega (arith, h.0), enough_below todo (k - 1) (m - 1) h.1 (omega arith))
enough_below (resume n ∷ todo) k m h le = (omega (arith, h.0), enough_below todo (k - suc n) (m - suc n) h.1 (omega arith))

-- an act leaves enough
pub below_done : (a : Act) (todo : List Act) (s : Stand) → AreBelow (a ∷ todo) (length s.below) → AreBelow todo (length (done a s).below)
below_done (body b) todo s h = h
below_done (others b from i) todo s h =
    enough_below todo (suc (length s.below)) (length (whole s ++ (choose b from i s.next).goal ∷ [])) h
    (omega (arith, length-append (whole s) ((choose b from i s.next).goal ∷ []), length-append s.below s.goals))
below_done (ends i) todo s h =
    let e : Written = joined (s.goals ++ equation (state i) (state s.state) ∷ []) in
    enough_below todo (suc (length s.below)) (length (s.below ++ e ∷ [])) h (omega (arith, length-append s.below (e ∷ [])))
below_done join todo s h =
    let more_there : length (whole s) ≡ length s.below + length s.goals = length-append s.below s.goals in
    let two : 2 ≤ length s.below = h.0 in
    enough_below todo (length s.below - 1) (length (two_joined (whole s))) h.1 (omega (arith, length-two_joined (whole s) (omega arith)))
below_done (resume n) todo s h =
    let more_there : length (whole s) ≡ length s.below + length s.goals = length-append s.below s.goals in
    let some : suc n ≤ length s.below = h.0 in
    let kept : ℕ = length (whole s) - suc n in
    enough_below todo (length s.below - suc n) (length (take kept (whole s))) h.1 (omega (arith, length-take-le kept (whole s) (omega arith)))

-- what comes of the whole body
pub first_done : (b : Body) → all_done (body b ∷ []) (stand [] [] 0 1) ≡ stand [] (walk b 0 1).goals (walk b 0 1).behind (walk b 0 1).next
first_done b = refl

pub two_last : {X : Type 0} (before : List X) (l r : X) → reverse ((before ++ r ∷ []) ++ l ∷ []) ≡ l ∷ r ∷ reverse before
two_last {X} before l r = reverse-append (before ++ r ∷ []) (l ∷ []) ∙ ap (λ (xs : List X). l ∷ xs) (reverse-append before (r ∷ []))
