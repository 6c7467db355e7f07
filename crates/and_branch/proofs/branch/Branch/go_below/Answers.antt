use Rattle.std.proofs.Common.{ℕ, [], Some, refl, ap, sym, ◌∙◌}
use Rattle.and_code.specs.Written.{all_written}
use Rattle.and_reduction.specs.Trails.{Noted}
use Rattle.and_branch_parts.proofs.CopiedBranches.{row_below, sound_below, reductions_below}
use Rattle.and_branch.proofs.branch.Branch.go_below.Goals as goal

pub take_back-requires : goal.take_back-requires
take_back-requires g c =
    sound_below c.args.first.now.value c.args.above.now.value c.args.self.now _ c.requires.below c.requires.back c.self.view_is
    g.N.Naming.program _ _ (c.cells.ensures ∙ ap (λ (n : Noted). n.cells) (sym c.requires.noted)) c.requires.words c.requires.sound

pub returns-clause-back : goal.returns-clause-back
returns-clause-back g c =
    let first = c.args.first.now.value in
    let up = c.args.above.now.value in record {
      row = c.take_back.ensures ∙ row_below first up c.args.self.now _ c.requires.below c.requires.back c.self.view_is _ _
          (c.cells.ensures ∙ ap (λ (n : Noted). n.cells) (sym c.requires.noted)) c.requires.words;
      reductions = ap all_written c.cut_off.ensures
          ∙ reductions_below first up c.args.self.now _ c.requires.below c.requires.back c.self.view_is c.self.inside.reductions c.args.count refl
          c.requires.count;
      trail = c.begin_again.ensures ∙ ap (λ (n : ℕ). record { mark = Some n; cells = [] }) (sym c.requires.words);
    }
