use Rattle.std.proofs.Common.{arith, ◌≡◌, ◌++◌, ◌≤◌, List, ap, ◌∙◌, length, subst, Ok}
use Rattle.std.specs.Prelude.{IsPermutation}
use Rattle.and_gathering.specs.Gathering.{all_made, all_ran, unmet}
use Rattle.and_gathering.specs.declared.links.Taken.{Taken}
use Rattle.and_gathering.proofs.Stepping.{nothing_left, of_long}
use Rattle.and_gathering.proofs.gathering.gather.Goals as goal

pub returns : goal.returns
returns c =
    let tolds = c.args.tolds.now in
    let row = c.in_ok-row.row in
    let e = c.in_ok-row.ensures in
    let few : length (all_made tolds) ≤ length row.steps.items =
    let all = c.are_all.ensures c.if-not-are_all.false in
    let count = c.len.ensures in
    let long = of_long row.steps.items row.made e.steps in omega (arith, all, count, long) in
    let linked : unmet c.link_ran.new.links ≡ row.steps.items ++ all_ran tolds =
    c.in_ok-link_ran.ensures (ap (λ b. Ok b) c.if-not-branch-2.false)
    ∙ ap (λ (l : List Taken). l ++ all_ran tolds) (c.in_ok-link_all.ensures (ap (λ b. Ok b) c.if-not-branch.false)
    ∙ ap (λ (l : List Taken). l ++ c.as_slice.result.now) c.in_ok-links.ensures ∙ c.as_slice.ensures.value) in
    let walked = rw c.in-Some.is at c.in_ok-goals.ensures in
    record {
      tiled = e.tiled;
      fits = e.fits;
      steps = row.steps.items;
      made = nothing_left (all_made tolds) row.steps.items e.made.0 e.made.1 few;
      reductions = e.steps;
      met = walked.0;
      walks = walked.1;
      all = subst (λ (l : List Taken). IsPermutation l walked.0) linked walked.2;
      pairs = c.in_ok-all_pairs.ensures;
      failed = c.has_failed.ensures.failed;
      lives = c.has_failed.ensures.lives;
      there = c.are_there.ensures c.if-not-are_there.false;
      unspoilt = c.is_spoilt.ensures c.if-is_spoilt.false;
    }
