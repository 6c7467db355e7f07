use Rattle.std.proofs.Common.{ap, sym, ◌∙◌, refl, length, unwrap_or, is_some, cond, ◌++◌, ◌∷◌, [], ℕ, Option}
use Rattle.and_syntax.specs.Written.{place}
use Rattle.and_program.specs.Nodes.{names_of}
use Rattle.and_drafts.proofs.Naming.{including_known, including_new, number_is, place-included}
use Rattle.and_judging.proofs.numbering.note_name.Goals as goal

pub returns-then-is_named-clause-ok : goal.returns-then-is_named-clause-ok
returns-then-is_named-clause-ok c =
    let names = names_of c.args.names.now.keys in
    sym (ap (λ b. cond b names (names ++ c.args.name.now ∷ [])) (c.is_named.ensures.there c.if-is_named.true))

pub returns-then-is_named-clause-number : goal.returns-then-is_named-clause-number
returns-then-is_named-clause-number c = sym (c.is_named.ensures.number c.if-is_named.true)

pub returns-in-Some-clause-ok : goal.returns-in-Some-clause-ok
returns-in-Some-clause-ok c =
    including_known c.args.name.now c.args.names.now.keys (is_some c.get_index_of.result) c.get_index_of.ensures.found (ap is_some c.in-Some.is)

pub returns-in-Some-clause-number : goal.returns-in-Some-clause-number
returns-in-Some-clause-number c =
    let count = length c.args.names.now.keys in
    number_is c.args.name.now c.args.names.now.keys c.get_index_of.result c.in-Some.number count c.get_index_of.ensures.index
    (sym (ap (λ (o : Option ℕ). unwrap_or o count) c.in-Some.is)) refl

pub returns-clause-ok : goal.returns-clause-ok
returns-clause-ok c = including_new c.args.name.now c.in_ok-from_slice.field-0 c.args.names.now.keys c.insert.new.self.keys c.in_ok-from_slice.ensures.items
    c.in_ok-insert.ensures.keys

pub returns-clause-number : goal.returns-clause-number
returns-clause-number c =
    let keys = c.args.names.now.keys in
    let old = number_is c.args.name.now keys c.get_index_of.result c.len-number.result c.len-number.result c.get_index_of.ensures.index
    (sym (ap (λ (o : Option ℕ). unwrap_or o c.len-number.result) c.in_default.is)) c.len-number.ensures.len in
    let new = including_new c.args.name.now c.in_ok-from_slice.field-0 keys c.insert.new.self.keys c.in_ok-from_slice.ensures.items
    c.in_ok-insert.ensures.keys in
    old ∙ sym (place-included c.args.name.now (names_of keys)) ∙ sym (ap (place c.args.name.now) new)
