use Rattle.std.proofs.Common.{Bool, ap, sym, ◌∙◌}
use Rattle.std.specs.Prelude.{position}
use Rattle.and_first_argument.specs.Tables.{Table}
use Rattle.and_first_argument.specs.declared.key.Key.{Key}
use Rattle.and_first_argument.proofs.KeysLemmas.{tests_same}
use Rattle.and_first_argument.proofs.TablesLemmas.{clause_added}
use Rattle.and_first_argument.proofs.index.KeyIndex.add.Goals as goal

pub returns-in_ok-add-in-Some-clause-ok : goal.returns-in_ok-add-in-Some-clause-ok
returns-in_ok-add-in-Some-clause-ok c =
    let table : Table = record { keys = c.self.inside.keys.keys; lists = c.self.inside.lists } in
    let tests = ap (λ (p : Key → Bool). position p table.keys) (sym (tests_same c.args.key)) in
    let found = tests ∙ sym c.get_index_of.ensures.index ∙ c.in-Some.is in
    clause_added c.args.key c.args.clause table c.args.self.now c.in-Some.place c.add.new.self
    c.self.view_is c.self.invariant found c.in_ok-add-in-Some.ensures.ok
