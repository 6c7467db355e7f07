-- The items of a body have no more nodes than its term, and a term as many as what is written.
use Rattle.std.proofs.Common.{ℕ, suc, ◌+◌, ◌≡◌, ◌≤◌, Bool, true, false, cond, nat_eq, List, Option, Some, None, refl, ap}
use Rattle.std.proofs.Common.{arith}
use Rattle.and_model.specs.Terms
use Rattle.and_model.specs.Terms.{Term, Terms}
use Rattle.and_model.specs.Arithmetic.{Relation}
use Rattle.and_model.specs.Lines.{Bytes}
use Rattle.and_syntax.specs.Written
use Rattle.and_syntax.specs.Written.{Written, Many, nodes_of, nodes_in, term_in, terms_in, met_after}
use Rattle.and_syntax.specs.Clauses
use Rattle.and_syntax.specs.Clauses.{Parts, no_parts, impure, Choices, no_choices, choice, Reading, joined, alone, disjoined, reading_of, parts_of}
use Rattle.and_syntax.specs.Clauses.{binary_part, compare_or, relation_of}
use Rattle.and_syntax.specs.Clauses.{numbered, numbered_in, alternatives_of, disjunctions_of, head_of, body_of, asked_of}
use Rattle.and_judging.specs.Outlined.{size_of, size_in, item_size}
use Rattle.and_judging.proofs.Outlining.{plain_size, plain_size_in}

-- the nodes of parts, whatever numbers they get
abbrev mutual
  pub parts_size : Parts → ℕ
  parts_size no_parts = 0
  parts_size (Clauses.item i ps) = item_size i + parts_size ps
  parts_size (impure ps) = parts_size ps
  parts_size (Clauses.either cs ps) = choices_size cs + parts_size ps

  pub choices_size : Choices → ℕ
  choices_size no_choices = 0
  choices_size (choice ps cs) = parts_size ps + choices_size cs

mutual
  pub numbered_size : (name : ℕ → ℕ) (c d : ℕ) (ps : Parts) → plain_size (numbered name c d ps) ≡ parts_size ps
  numbered_size name c d no_parts = refl
  numbered_size name c d (Clauses.item i ps) = ap (λ n. item_size i + n) (numbered_size name c d ps)
  numbered_size name c d (impure ps) = numbered_size name c d ps
  numbered_size name c d (Clauses.either cs ps) =
      omega (arith, numbered_size_in name c (suc d) cs, numbered_size name (c + Clauses.alternatives_in cs) (suc (d + Clauses.disjunctions_within cs)) ps)

  pub numbered_size_in : (name : ℕ → ℕ) (c d : ℕ) (cs : Choices) → plain_size_in (numbered_in name c d cs) ≡ choices_size cs
  numbered_size_in name c d no_choices = refl
  numbered_size_in name c d (choice ps cs) =
      omega (arith, numbered_size name (suc c) d ps, numbered_size_in name (suc (c + alternatives_of ps)) (d + disjunctions_of ps) cs)

joined_size : (ps qs : Parts) → parts_size (joined ps qs) ≡ parts_size ps + parts_size qs
joined_size no_parts qs = omega arith
joined_size (Clauses.item i ps) qs = omega (arith, joined_size ps qs)
joined_size (impure ps) qs = joined_size ps qs
joined_size (Clauses.either cs ps) qs = omega (arith, joined_size ps qs)

-- a reading has at most n nodes
abbrev Few : ℕ → Reading → Type 0
Few n r = (parts_size r.body ≤ n) × (choices_size r.last ≤ n)

few_alone : (n : ℕ) (ps : Parts) → parts_size ps ≤ n → Few n (alone ps)
few_alone n ps le = (le, omega arith)

few_either : (n : ℕ) (b : Bool) (ps qs : Parts) → parts_size ps ≤ n → parts_size qs ≤ n → parts_size (cond b ps qs) ≤ n
few_either n true ps qs h k = h
few_either n false ps qs h k = k

few_relation : (n : ℕ) (o : Option Relation) (a b : Term) (ps : Parts) → size_of a + size_of b ≤ n → parts_size ps ≤ n → parts_size (compare_or o a b ps) ≤ n
few_relation n None a b ps h k = k
few_relation n (Some r) a b ps h k = omega arith

few_binary : (c : ℕ) (a b : Term) → parts_size (binary_part c a b) ≤ suc (size_of a + (size_of b + 0))
few_binary c a b =
    let n : ℕ = suc (size_of a + (size_of b + 0)) in
    few_either n (nat_eq c 3) _ _ (omega arith) (few_either n (nat_eq c 4) _ _ (omega arith) (few_relation n (relation_of c) a b _ (omega arith)
    (few_either n (nat_eq c 22) _ _ (omega arith) (omega arith))))

two_readings : (n : ℕ) (b : Bool) (r s : Reading) → Few n r → Few n s → Few n (cond b r s)
two_readings n true r s h k = h
two_readings n false r s h k = k

pub reading_size : (t : Term) → Few (size_of t) (reading_of t)
reading_size (Terms.variable q k) = (omega arith, omega arith)
reading_size (Terms.number z) = (omega arith, omega arith)
reading_size (Terms.compound c Terms.none) =
    few_alone 1 (Clauses.atom_parts c)
    (few_either 1 (nat_eq c 0) _ _ (omega arith) (few_either 1 (nat_eq c 1) _ _ (omega arith) (few_either 1 (nat_eq c 24) _ _ (omega arith) (omega arith))))
reading_size (Terms.compound c (Terms.more a Terms.none)) =
    let n : ℕ = suc (size_of a + 0) in
    few_alone n (Clauses.unary_part c a) (few_either n (nat_eq c 23) _ _ (omega arith) (omega arith))
reading_size (Terms.compound c (Terms.more a (Terms.more b Terms.none))) =
    let n : ℕ = suc (size_of a + (size_of b + 0)) in
    let x : Few (size_of a) (reading_of a) = reading_size a in
    let y : Few (size_of b) (reading_of b) = reading_size b in
    two_readings n (nat_eq c 2) _ _ (few_alone n (joined (parts_of a) (parts_of b)) (omega (arith, joined_size (parts_of a) (parts_of b), x.0, y.0)))
    (two_readings n (nat_eq c 21) _ _ (omega (arith, x.0, y.1), omega (arith, x.0, y.1)) (few_alone n (binary_part c a b) (few_binary c a b)))
reading_size (Terms.compound c (Terms.more a (Terms.more b (Terms.more d ts)))) = (omega arith, omega arith)

-- the body of a clause and its head, and that of a query, have no more than the whole
pub clause_size : (t : Term) → size_of (head_of t) + parts_size (body_of t) ≤ size_of t
clause_size (Terms.variable q k) = omega arith
clause_size (Terms.number z) = omega arith
clause_size (Terms.compound c Terms.none) = omega arith
clause_size (Terms.compound c (Terms.more a Terms.none)) = omega arith
clause_size (Terms.compound c (Terms.more a (Terms.more b Terms.none))) = by (nat_eq c 25) (reading_size b).0
  where
    t : Term
    t = Terms.compound c (Terms.more a (Terms.more b Terms.none))

    by : (d : Bool) → parts_size (parts_of b) ≤ size_of b → size_of (cond d a t) + parts_size (cond d (parts_of b) no_parts) ≤ size_of t
    by true le = omega arith
    by false le = omega arith
clause_size (Terms.compound c (Terms.more a (Terms.more b (Terms.more d ts)))) = omega arith

pub query_size : (t : Term) → parts_size (asked_of t) ≤ size_of t
query_size (Terms.variable q k) = omega arith
query_size (Terms.number z) = omega arith
query_size (Terms.compound c Terms.none) = omega arith
query_size (Terms.compound c (Terms.more b Terms.none)) = omega (arith, (reading_size b).0)
query_size (Terms.compound c (Terms.more a (Terms.more b ts))) = omega arith

-- a term has as many nodes as what is written
mutual
  pub written_size : (names met : List Bytes) (w : Written) → size_of (term_in names met w) ≡ nodes_of w
  written_size names met (Written.variable x) = refl
  written_size names met (Written.integer z) = refl
  written_size names met (Written.compound c ts) = ap suc (written_sizes names met ts)

  pub written_sizes : (names met : List Bytes) (ts : Many) → size_in (terms_in names met ts) ≡ nodes_in ts
  written_sizes names met Written.none = refl
  written_sizes names met (Written.more t ts) = omega (arith, written_size names met t, written_sizes names (met_after met t) ts)
