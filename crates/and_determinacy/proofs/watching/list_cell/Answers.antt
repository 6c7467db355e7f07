use Rattle.std.proofs.Common.{ℕ, ◌∷◌, [], List, drop, sym, subst, ap, ◌∙◌}
use Rattle.std.specs.Prelude.{Contains}
use Rattle.std.proofs.lemmas.List.{drop-append-le}
use Rattle.std.proofs.lemmas.List.Elements.{Contains-push}
use Rattle.and_determinacy.proofs.watching.list_cell.Goals as goal

pub returns-in_ok-push : goal.returns-in_ok-push
returns-in_ok-push c =
    let old = c.args.out.now.items in
    let cell = c.args.cell in
    let begun = c.args.begun in
    record {
      gained = cell ∷ [];
      longer = c.in_ok-push.ensures.items;
      there = subst (λ (l : List ℕ). Contains l cell)
          (sym (ap (drop begun) c.in_ok-push.ensures.items ∙ drop-append-le begun old (cell ∷ []) c.requires)) (Contains-push (drop begun old) cell);
    }
