-- A frame of 256 words has room for each clause: variables have numbers below 255.
use Rattle.std.proofs.Common.{ℕ, ◌+◌, ◌^◌, ◌≢◌, ◌<◌, ◌≤◌, pos, List, [], ◌∷◌, length, map, sym, subst, inl, inr, arith}
use Rattle.std.specs.Prelude.{All}
use Rattle.std.proofs.lemmas.Bool.{cases_lt}
use Rattle.std.proofs.lemmas.List.{get_or_past}
use Rattle.std.proofs.lemmas.List.Elements.{All-nil, All-cons, All-push, All-append, All-weaker}
use Rattle.std.proofs.lemmas.Option.{get_or_from_slice_get}
use Rattle.and_model.specs.Terms
use Rattle.and_model.specs.Terms.{Path, Term, variables_of, variables_in}
use Rattle.and_program.specs.Skeletons.{Shape, variable, number, compound, term_list, nth, shape_term, terms_behind, node_term}
use Rattle.and_program.specs.Kept.{IsWithin, AllWithin}
use Rattle.and_program.specs.Loaded.{shape_at}
use Rattle.and_cells.specs.Ranges.{NamedProgram, IsNodeInRange, IsNoVariable}

-- the variable has one of 255 numbers
abbrev pub IsSmall : Path × ℕ → Type 0
IsSmall v = v.1 < 255

-- each variable of the term has
abbrev HasSmall : Term → Type 0
HasSmall t = All IsSmall (variables_of t)

-- a term of a list of such is such, or is the number 0
nth_small : (ts : List Term) (n : ℕ) → All HasSmall ts → HasSmall (nth ts n)
nth_small ts n all = elim (cases_lt n (length ts)) [
  | inl below ↦ all n (Terms.number (pos 0)) below
  | inr past ↦ subst HasSmall (sym (get_or_past ts n (Terms.number (pos 0)) past)) (All-nil IsSmall)
]

-- so are the terms of arguments
arguments_small : (ts : List Term) (ns : List ℕ) → All HasSmall ts → All IsSmall (variables_in (term_list (map (nth ts) ns)))
arguments_small ts [] all = All-nil IsSmall
arguments_small ts (n ∷ ns) all =
    let rest = variables_in (term_list (map (nth ts) ns)) in
    All-append IsSmall (variables_of (nth ts n)) rest (nth_small ts n all) (arguments_small ts ns all)

-- and the term of a shape within bounds
shape_small : (m : ℕ) (ts : List Term) (s : Shape) → All HasSmall ts → IsWithin m s → HasSmall (shape_term ts s)
shape_small m ts (variable k) all within = All-cons IsSmall ([], k) [] within (All-nil IsSmall)
shape_small m ts (number z) all within = All-nil IsSmall
shape_small m ts (compound c ns) all within = arguments_small ts ns all

-- and the terms of a list of them
terms_small : (m : ℕ) (ts : List Term) (ss : List Shape) → All HasSmall ts → AllWithin m ss → All HasSmall (terms_behind ts ss)
terms_small m ts [] all within = all
terms_small m ts (s ∷ ss) all within =
    terms_small m _ ss (All-push HasSmall ts (shape_term ts s) all (shape_small m ts s all within.0)) within.1

-- The variables of a node's term have small numbers,
pub node_small : (m : ℕ) (ss : List Shape) (n : ℕ) → AllWithin m ss → All IsSmall (variables_of (node_term ss n))
node_small m ss n within = nth_small (terms_behind [] ss) n (terms_small m [] ss (All-nil HasSmall) within)

-- so a node that is there is in range of 256 words from its base on, for a program with few nodes.
pub node_in_range : (P : NamedProgram) (m words n base : ℕ) → AllWithin m P.skeleton.nodes → length P.skeleton.nodes ≤ 524289
    → n < length P.skeleton.nodes → base + 256 ≤ words → words ≤ 2 ^ 22 + 256 → IsNodeInRange P words n base
node_in_range P m words n base within few there room short = record {
  there = there;
  nameable = omega arith;
  base_below = omega arith;
  cells = All-weaker IsSmall (λ (v : Path × ℕ). base + 1 + v.1 < words) (λ v small. omega arith)
      (variables_of (node_term P.skeleton.nodes n)) (node_small m P.skeleton.nodes n within);
}

-- A node that is no variable by its shape is none.
pub no_variable : (P : NamedProgram) (n : ℕ) → ((k : ℕ) → shape_at P.skeleton n ≢ variable k) → IsNoVariable P n
no_variable P n other k read = other k (get_or_from_slice_get P.skeleton.nodes n (variable k) (number (pos 0)) read)
