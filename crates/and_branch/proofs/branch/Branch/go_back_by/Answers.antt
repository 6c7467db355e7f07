use Rattle.std.proofs.Common.{ℕ, [], Some, refl, ap, sym, ◌∙◌}
use Rattle.and_code.specs.Written.{all_written}
use Rattle.and_branch_parts.proofs.KeptOrigins.{row_again, row_sound, reductions_back, gone_back}
use Rattle.and_branch.proofs.branch.Branch.go_back_by.Goals as goal

pub take_back-requires : goal.take_back-requires
take_back-requires g c =
    row_sound _ c.args.self.now c.args.first.now.value c.self.view_is c.requires.back g.N.Naming.program _ _ c.cells.ensures
    c.requires.words c.requires.sound

pub returns : goal.returns
returns g c =
    let first = c.args.first.now.value in
    let row = c.take_back.ensures ∙ row_again _ c.args.self.now first c.self.view_is c.requires.back _ _ c.cells.ensures c.requires.words in
    let reductions = ap all_written c.cut_off.ensures
    ∙ reductions_back _ c.args.self.now first c.self.view_is c.requires.back c.self.inside.reductions c.args.count refl c.requires.count in
    let trail = c.begin_again.ensures ∙ ap (λ (n : ℕ). record { mark = Some n; cells = [] }) (sym c.requires.words) in
    gone_back _ c.args.self.now first c.self.view_is _ _ _ row reductions trail
