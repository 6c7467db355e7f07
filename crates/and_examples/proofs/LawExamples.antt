-- Where the premises of some laws hold, tried on small programs.
use Rattle.std.proofs.Common.{◌≡◌, ◌-◌, ◌++◌, [], ◌∷◌, refl, inl, arith, codes}
use Rattle.std.specs.Prelude.{map}
use Rattle.std.specs.Fmt.{digits}
use Rattle.and_model.specs.Terms.{none, more, Substitution}
use Rattle.and_model.specs.Arithmetic.{of_two}
use Rattle.and_model.specs.Closure.{Without, Ran}
use Rattle.and_model.specs.Candidates.{Candidate}
use Rattle.and_model.specs.Trees.{equations, arithmetics, reduce}
use Rattle.and_model.specs.Lines.{line_of}
use Rattle.and_model.specs.Stands.{AreVariants, numbers_below}
use Rattle.and_laws.specs.Naming.{EquationsOver, IsOver, others}
use Rattle.and_laws.specs.Weaving.{Woven, RanAlike}
use Rattle.and_laws.proofs.FreshFrames.{candidate_fresh, candidate_renamed}
use Rattle.and_laws.proofs.Printing.{variants_line}
use Rattle.and_model.specs.declared.builtins.TheConstants.{PLUS}
use Rattle.and_examples.specs.LineExamples.{asking}
use Rattle.and_examples.specs.ReachedExamples.{early}
use Rattle.and_examples.specs.Texts.{own, whole, binary, p}
use Rattle.and_examples.specs.BranchExamples.{sum}
use Rattle.and_examples.specs.LawExamples.{sum_first, added, below_five, filtered, beginning, to_seven, from_seven, filtered_in_seven, named, moved, below}
use Rattle.and_examples.proofs.ReachedExamples.{all_are}

-- ---- p(X) :- X < 5. ?- Y is 1 + 2, p(Y). The sum has run,
pub sum_ran : Ran (equations sum_first) (arithmetics sum_first) added []
unfolding of_two
sum_ran =
    Ran.one [] (sum ∷ []) sum [] (more (binary PLUS (whole 1) (whole 2)) none) added []
    (Without.here sum []) (refl, λ s h. refl) (Ran.none_yet added [])

-- and once the call was taken it has still run, while the comparison waits.
pub still_ran : RanAlike sum_first (reduce sum_first (inl tt) 1 refl) (below_five ∷ []) added []
unfolding of_two
still_ran =
    let next = reduce sum_first (inl tt) 1 refl in (
      added,
      below_five ∷ [],
      refl,
      Woven.new below_five [] [] [] Woven.none,
      Ran.one (equations next) (sum ∷ below_five ∷ []) sum (below_five ∷ []) (more (binary PLUS (whole 1) (whole 2)) none)
          (added ++ equations next) (below_five ∷ [])
          (Without.here sum (below_five ∷ [])) (refl, λ s h. refl) (Ran.none_yet (added ++ equations next) (below_five ∷ [])),
    )

-- ---- p(1). p(2). q(2). ?- p(X), q(X). Clause 2 is a candidate of p(X), wherever its frame is,
pub in_its_frame : Candidate early filtered (0 ∷ []) (p (own 0)) 2
in_its_frame = (refl, (all_are 2, (refl, (refl, tt))), λ a i. elim i [ ])

pub nothing_in_five : EquationsOver (others (beginning 5)) filtered × IsOver (others (beginning 5)) (p (own 0))
nothing_in_five = (((refl, tt), (tt, tt), tt), (refl, tt))

pub in_frame_five : Candidate early filtered (5 ∷ []) (p (own 0)) 2
in_frame_five =
    candidate_fresh early filtered (beginning 5) (0 ∷ []) (5 ∷ []) (p (own 0)) 2 (λ k. refl)
    nothing_in_five.0 nothing_in_five.1 in_its_frame

-- and whatever the name of X.
pub renamed : Candidate early filtered_in_seven (0 ∷ []) (p (to_seven [] 0)) 2
renamed =
    candidate_renamed early filtered to_seven from_seven (beginning 0) (0 ∷ []) (p (own 0)) 2 (λ k. refl)
    ((refl, tt), (tt, tt), tt) (refl, tt) refl refl in_its_frame

-- ---- X and Y, with X < Y
abbrev back : Substitution
back path k = own (k - 4)

pub variants : AreVariants (map (named []) (numbers_below 2) ++ below named) (map (moved []) (numbers_below 2) ++ below moved)
variants = ((moved, refl), (back, refl))

pub same_line : line_of (asking (codes "X" ∷ codes "Y" ∷ [])) named (below named)
    ≡ line_of (asking (codes "X" ∷ codes "Y" ∷ [])) moved (below moved)
same_line = variants_line (asking (codes "X" ∷ codes "Y" ∷ [])) 2 named moved (below named) (below moved) (omega arith) refl variants

pub that_line : line_of (asking (codes "X" ∷ codes "Y" ∷ [])) moved (below moved) ≡ codes "X = _0, Y = _1 with <(_0,_1)"
unfolding digits
that_line = refl
