use Rattle.std.proofs.Common.{subst, refl, false}
use Rattle.std.specs.Prelude.{Some, is_some}
use Rattle.and_visit.specs.Searched.{IsSearched}
use Rattle.and_forks.specs.Told.{AreLinesOf}
use Rattle.and_forks.proofs.Traced.{told_whole, told_cut}
use Rattle.and_forks.proofs.writer.Writer.into_walk.Goals as goal

pub returns-in-Some : goal.returns-in-Some
returns-in-Some c = λ P limit x.
    let lines = c.args.self.lines in
    told_cut P limit lines c.in-Some.cut (is_some (Some c.in-Some.cut))
    (subst (λ m. IsSearched P limit (λ seen. AreLinesOf m lines seen) (is_some m)) c.in-Some.is x)

pub returns-in-None : goal.returns-in-None
returns-in-None c = λ P limit x.
    let lines = c.args.self.lines in
    let (ls, text, written) = told_whole P limit lines false
    (subst (λ m. IsSearched P limit (λ seen. AreLinesOf m lines seen) (is_some m)) c.in-None.is x) refl in
    c.into_walk.ensures P limit ls text written
