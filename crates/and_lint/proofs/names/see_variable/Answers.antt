use Rattle.std.proofs.Common.{◌∙◌, ◌≡◌, true, false, sym, ap, map, ℕ, List}
use Rattle.and_model.specs.Lines.{has}
use Rattle.and_lint.specs.Kept.{unframed}
use Rattle.and_lint.proofs.Counts.{seen_before, seen_first}
use Rattle.and_lint.proofs.names.see_variable.Goals as goal

pub returns-then-is_seen : goal.returns-then-is_seen
returns-then-is_seen c =
    let is : has (unframed c.args.number) (map unframed c.args.seen.now.items) ≡ true =
    ap (λ (ks : List ℕ). has (unframed c.args.number) (map unframed ks)) (sym c.deref.ensures.value) ∙ sym c.is_seen.ensures ∙ c.if-is_seen.true in
    seen_before c.args.number c.args.seen.now.items is

pub returns : goal.returns
returns c =
    let is : has (unframed c.args.number) (map unframed c.args.seen.now.items) ≡ false =
    ap (λ (ks : List ℕ). has (unframed c.args.number) (map unframed ks)) (sym c.deref.ensures.value) ∙ sym c.is_seen.ensures ∙ c.if-is_seen.false in
    seen_first c.args.number c.args.seen.now.items c.push.new.self.items is c.in_ok-push.ensures.items
