use Rattle.std.proofs.Common.{rules, ◌≡◌, take, sym, ◌∙◌}
use Rattle.and_program.proofs.short.ShortText.bytes.Goals as goal

pub returns-in-Short : goal.returns-in-Short
returns-in-Short c =
    let held : c.args.self.now ≡ take c.in-Short.length c.in-Short.bytes = search rules in
    c.first.ensures ∙ sym held
