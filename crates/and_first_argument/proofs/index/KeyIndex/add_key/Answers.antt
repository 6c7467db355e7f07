use Rattle.std.proofs.Common.{◌≡◌, ℕ, ◌+◌, Bool, None, cond, [], ◌∷◌, ◌++◌, ap, sym, ◌∙◌}
use Rattle.std.specs.Prelude.{position}
use Rattle.std.proofs.lemmas.List.{length_push}
use Rattle.and_first_argument.specs.Keys.{same_key}
use Rattle.and_first_argument.specs.Tables.{Table}
use Rattle.and_first_argument.proofs.KeysLemmas.{not_among, keys_inserted}
use Rattle.and_first_argument.proofs.TablesLemmas.{row_added}
use Rattle.and_first_argument.proofs.index.KeyIndex.add_key.Goals as goal

longer : (c : goal.In-Ok) → c.insert.new.self.keys ≡ c.self.inside.keys.keys ++ c.args.key ∷ []
longer c =
    let keys = c.self.inside.keys.keys in
    let absent : position (same_key c.args.key) keys ≡ None =
    ap (λ (t : Table). position (same_key c.args.key) t.keys) c.self.view_is ∙ c.requires in
    let fresh = not_among (same_key c.args.key) keys absent in
    c.in-Ok.ensures.keys ∙ keys_inserted keys c.args.key ∙ ap (λ (b : Bool). cond b keys (keys ++ c.args.key ∷ [])) fresh

pub invariant_of-self-in-Ok : goal.invariant_of-self-in-Ok
invariant_of-self-in-Ok c =
    let one_more = ap (λ (n : ℕ). n + 1) c.self.invariant ∙ sym (length_push c.self.inside.keys.keys c.args.key) in
    rw (longer c, c.in_ok-add_row.ensures.ok, length_push) one_more

pub returns-in-Ok-clause-ok : goal.returns-in-Ok-clause-ok
returns-in-Ok-clause-ok c =
    let table : Table = record { keys = c.self.inside.keys.keys; lists = c.self.inside.lists } in
    row_added c.args.key c.args.clause table c.args.self.now c.insert.new.self.keys c.add_row.new.self
    c.self.view_is c.self.invariant c.requires (longer c) c.in_ok-add_row.ensures.ok
