-- Words of the laws, tried on small programs.
use Rattle.std.proofs.Common.{inl}
use Rattle.std.specs.Prelude.{refl}
use Rattle.and_model.specs.Trees.{QueryTree, reduce}
use Rattle.and_examples.specs.NumbersExamples.{fails, fails_start}

-- ---- p(1). p(2). q(2). q(3). ?- p(X), q(X). The first call was taken by clause 1, or by clause 2.
abbrev pub by_one : QueryTree fails
by_one = reduce fails_start (inl tt) 1 refl

abbrev pub by_two : QueryTree fails
by_two = reduce fails_start (inl tt) 2 refl
