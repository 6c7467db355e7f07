-- The marks of a body as they are made part by part.
use Rattle.std.proofs.Common.{ℕ, suc, ◌+◌, ◌≡◌, ◌||◌, Bool, false, List, [], ◌∷◌, ◌++◌, refl, sym, ap, ◌∙◌, arith}
use Rattle.std.proofs.Math.Bool.{or_assoc}
use Rattle.std.proofs.lemmas.List.{append_assoc}
use Rattle.and_syntax.specs.Clauses
use Rattle.and_syntax.specs.Clauses.{Parts, no_parts, item, impure, Choices, no_choices, choice, joined, is_refused, is_refused_in}
use Rattle.and_syntax.specs.Clauses.{alternatives_of, alternatives_in, disjunctions_of, disjunctions_within}
use Rattle.and_judging.specs.Marks
use Rattle.and_judging.specs.Marks.{Mark, open_mark, next, close}
use Rattle.and_judging.specs.Bodies.{marks_at, choices_at, Todo, part, last, finish, owed, refused_of}

-- ---- The parts of two bodies.
pub alternatives_of-joined : (ps qs : Parts) → alternatives_of (joined ps qs) ≡ alternatives_of ps + alternatives_of qs
alternatives_of-joined no_parts qs = omega arith
alternatives_of-joined (item i ps) qs = alternatives_of-joined ps qs
alternatives_of-joined (impure ps) qs = alternatives_of-joined ps qs
alternatives_of-joined (Clauses.either cs ps) qs = omega (arith, alternatives_of-joined ps qs)

pub disjunctions_of-joined : (ps qs : Parts) → disjunctions_of (joined ps qs) ≡ disjunctions_of ps + disjunctions_of qs
disjunctions_of-joined no_parts qs = omega arith
disjunctions_of-joined (item i ps) qs = disjunctions_of-joined ps qs
disjunctions_of-joined (impure ps) qs = disjunctions_of-joined ps qs
disjunctions_of-joined (Clauses.either cs ps) qs = omega (arith, disjunctions_of-joined ps qs)

is_refused-joined : (ps qs : Parts) → is_refused (joined ps qs) ≡ is_refused ps || is_refused qs
is_refused-joined no_parts qs = refl
is_refused-joined (item i ps) qs = is_refused-joined ps qs
is_refused-joined (impure ps) qs = refl
is_refused-joined (Clauses.either cs ps) qs =
    ap (λ b. is_refused_in cs || b) (is_refused-joined ps qs) ∙ sym (or_assoc (is_refused_in cs) (is_refused ps) (is_refused qs))

marks-joined : (c d : ℕ) (ps qs : Parts) → marks_at c d (joined ps qs) ≡ marks_at c d ps ++ marks_at (c + alternatives_of ps) (d + disjunctions_of ps) qs
marks-joined c d no_parts qs =
    let e : c ≡ c + 0 = omega arith in
    let f : d ≡ d + 0 = omega arith in
    ap (λ m. marks_at m d qs) e ∙ ap (λ n. marks_at (c + 0) n qs) f
marks-joined c d (item i ps) qs = ap (λ ms. Marks.item i ∷ ms) (marks-joined c d ps qs)
marks-joined c d (impure ps) qs = marks-joined c d ps qs
marks-joined c d (Clauses.either cs ps) qs =
    let m : ℕ = c + alternatives_in cs in
    let n : ℕ = suc (d + disjunctions_within cs) in
    let e : m + alternatives_of ps ≡ c + (alternatives_in cs + alternatives_of ps) = omega arith in
    let f : n + disjunctions_of ps ≡ d + suc (disjunctions_within cs + disjunctions_of ps) = omega arith in
    let inner : List Mark = choices_at c (suc d) cs in
    ap (λ ms. open_mark d ∷ inner ++ close ∷ ms) (marks-joined m n ps qs)
    ∙ ap (λ k. open_mark d ∷ inner ++ close ∷ (marks_at m n ps ++ marks_at k (n + disjunctions_of ps) qs)) e
    ∙ ap (λ k. open_mark d ∷ inner ++ close ∷ (marks_at m n ps ++ marks_at (c + (alternatives_in cs + alternatives_of ps)) k qs)) f
    ∙ ap (λ ms. open_mark d ∷ ms) (sym (append_assoc inner (close ∷ marks_at m n ps)
    (marks_at (c + (alternatives_in cs + alternatives_of ps)) (d + suc (disjunctions_within cs + disjunctions_of ps)) qs)))

pub owed-joined : (c d : ℕ) (ps qs : Parts) (ts : List Todo) → owed c d (part (joined ps qs) ∷ ts) ≡ owed c d (part ps ∷ part qs ∷ ts)
owed-joined c d ps qs ts =
    let m : ℕ = c + alternatives_of ps in
    let n : ℕ = d + disjunctions_of ps in
    let e : c + alternatives_of (joined ps qs) ≡ m + alternatives_of qs = omega (arith, alternatives_of-joined ps qs) in
    let f : d + disjunctions_of (joined ps qs) ≡ n + disjunctions_of qs = omega (arith, disjunctions_of-joined ps qs) in
    ap (λ ms. ms ++ owed (c + alternatives_of (joined ps qs)) (d + disjunctions_of (joined ps qs)) ts) (marks-joined c d ps qs)
    ∙ ap (λ k. (marks_at c d ps ++ marks_at m n qs) ++ owed k (d + disjunctions_of (joined ps qs)) ts) e
    ∙ ap (λ k. (marks_at c d ps ++ marks_at m n qs) ++ owed (m + alternatives_of qs) k ts) f
    ∙ append_assoc (marks_at c d ps) (marks_at m n qs) (owed (m + alternatives_of qs) (n + disjunctions_of qs) ts)

pub refused-joined : (ps qs : Parts) (ts : List Todo) → refused_of (part (joined ps qs) ∷ ts) ≡ refused_of (part ps ∷ part qs ∷ ts)
refused-joined ps qs ts = ap (λ b. b || refused_of ts) (is_refused-joined ps qs) ∙ or_assoc (is_refused ps) (is_refused qs) (refused_of ts)

-- one more alternative begins
pub owed-choice : (c d : ℕ) (ps : Parts) (cs : Choices) (ts : List Todo)
    → owed c d (last (choice ps cs) ∷ ts) ≡ next c ∷ owed (suc c) d (part ps ∷ last cs ∷ ts)
owed-choice c d ps cs ts =
    let m : ℕ = suc (c + alternatives_of ps) in
    let n : ℕ = d + disjunctions_of ps in
    let e : c + suc (alternatives_of ps + alternatives_in cs) ≡ m + alternatives_in cs = omega arith in
    let f : d + (disjunctions_of ps + disjunctions_within cs) ≡ n + disjunctions_within cs = omega arith in
    let g : m ≡ suc c + alternatives_of ps = omega arith in
    ap (λ k. (next c ∷ marks_at (suc c) d ps ++ choices_at m n cs) ++ owed k (d + (disjunctions_of ps + disjunctions_within cs)) ts) e
    ∙ ap (λ k. (next c ∷ marks_at (suc c) d ps ++ choices_at m n cs) ++ owed (m + alternatives_in cs) k ts) f
    ∙ append_assoc (next c ∷ marks_at (suc c) d ps) (choices_at m n cs) (owed (m + alternatives_in cs) (n + disjunctions_within cs) ts)
    ∙ ap (λ k. next c ∷ marks_at (suc c) d ps ++ (choices_at k n cs ++ owed (k + alternatives_in cs) (n + disjunctions_within cs) ts)) g

-- the last alternative begins
pub owed-last : (c d : ℕ) (ps : Parts) (ts : List Todo) → owed c d (last (choice ps no_choices) ∷ ts) ≡ next c ∷ owed (suc c) d (part ps ∷ ts)
owed-last c d ps ts =
    let m : ℕ = suc c + alternatives_of ps in
    let n : ℕ = d + disjunctions_of ps in
    let e : m + 0 ≡ m = omega arith in
    let f : n + 0 ≡ n = omega arith in
    owed-choice c d ps no_choices ts
    ∙ ap (λ k. next c ∷ marks_at (suc c) d ps ++ owed k (n + 0) ts) e ∙ ap (λ k. next c ∷ marks_at (suc c) d ps ++ owed m k ts) f

-- a disjunction begins
pub owed-either : (c d : ℕ) (ps : Parts) (cs : Choices) (ts : List Todo)
    → owed c d (part (Clauses.either (choice ps cs) no_parts) ∷ ts) ≡ open_mark d ∷ next c ∷ owed (suc c) (suc d) (part ps ∷ last cs ∷ finish ∷ ts)
owed-either c d ps cs ts =
    let a : ℕ = alternatives_in (choice ps cs) in
    let w : ℕ = disjunctions_within (choice ps cs) in
    let e : c + (a + 0) ≡ c + a = omega arith in
    let f : d + suc (w + 0) ≡ suc d + w = omega arith in
    let inner : List Mark = choices_at c (suc d) (choice ps cs) in
    ap (λ k. (open_mark d ∷ inner ++ close ∷ []) ++ owed k (d + suc (w + 0)) ts) e
    ∙ ap (λ k. (open_mark d ∷ inner ++ close ∷ []) ++ owed (c + a) k ts) f
    ∙ ap (λ ms. open_mark d ∷ ms) (append_assoc inner (close ∷ []) (owed (c + a) (suc d + w) ts) ∙ owed-choice c (suc d) ps cs (finish ∷ ts))

pub refused-either : (ps : Parts) (cs : Choices) (ts : List Todo)
    → refused_of (part (Clauses.either (choice ps cs) no_parts) ∷ ts) ≡ refused_of (part ps ∷ last cs ∷ finish ∷ ts)
refused-either ps cs ts =
    let none : (b c : Bool) → (b || false) || c ≡ b || c = λ b c. or_assoc b false c in
    none (is_refused ps || is_refused_in cs) (refused_of ts) ∙ or_assoc (is_refused ps) (is_refused_in cs) (refused_of ts)
