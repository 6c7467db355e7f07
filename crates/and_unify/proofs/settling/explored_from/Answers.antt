use Rattle.std.proofs.Common.{ℕ, ◌<◌, length, ap, sym, subst}
use Rattle.std.specs.Prelude.{Bool, Ok}
use Rattle.std.proofs.lemmas.List.Elements.{All-contains}
use Rattle.and_unify.proofs.settling.explored_from.Goals as goal

pub returns-clause-below : goal.returns-clause-below
returns-clause-below g c = λ is. c.in_ok-explored_end.ensures.ends (ap (λ (b : Bool). Ok b) c.if-not-branch.false)

pub returns-clause-above : goal.returns-clause-above
returns-clause-above g c = λ is cell listed whole.
    let within : cell < length c.args.cells.now = All-contains (λ (k : ℕ). k < length c.args.cells.now) c.args.bound.now cell c.requires.in_row listed in
    c.explored_end-2.ensures.ends is cell listed (subst (λ n. cell < n) (sym c.len-words.ensures.value) within) whole
