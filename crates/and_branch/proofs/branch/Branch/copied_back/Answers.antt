use Rattle.std.proofs.Common.{ℕ, [], Some, refl, ap, sym, ◌∙◌}
use Rattle.and_code.specs.Written.{all_written}
use Rattle.and_branch_parts.specs.Branches.{Held}
use Rattle.and_branch_parts.proofs.KeptOrigins.{row_again, row_sound, reductions_back}
use Rattle.and_branch.proofs.branch.Branch.copied_back.Goals as goal

pub take_back-requires : goal.take_back-requires
take_back-requires g c =
    rw (c.in_ok-cells.ensures)
    (row_sound _ c.args.self.now c.args.first.now.value c.self.view_is c.requires.back g.N.Naming.program _ _ c.cells.ensures
    c.requires.words c.requires.sound)

pub returns-clause-back : goal.returns-clause-back
returns-clause-back g c =
    let first = c.args.first.now.value in record {
      row = c.take_back.ensures ∙ (rw (c.in_ok-cells.ensures)
          (row_again _ c.args.self.now first c.self.view_is c.requires.back _ _ c.cells.ensures c.requires.words));
      reductions = ap all_written c.cut_off.ensures ∙ (rw (c.in_ok-reductions.ensures)
          (reductions_back _ c.args.self.now first c.self.view_is c.requires.back c.self.inside.reductions c.args.count refl c.requires.count));
      trail = c.begun.ensures ∙ ap (λ (n : ℕ). record { mark = Some n; cells = [] }) (sym c.requires.words);
    }

pub returns-clause-key : goal.returns-clause-key
returns-clause-key g c = c.in_ok-key.ensures ∙ ap (λ (h : Held). h.key) c.self.view_is
