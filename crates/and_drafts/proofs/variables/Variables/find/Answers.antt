use Rattle.std.proofs.Common.{rules, ◌≡◌, ◌<◌, ◌∙◌, None, length, ap, sym}
use Rattle.and_drafts.specs.Variables.{number_among}
use Rattle.and_drafts.specs.declared.variables.TheConstants.{FIRST}
use Rattle.and_drafts.proofs.Meeting.{found_first, found_nowhere, found_is}
use Rattle.and_drafts.proofs.variables.Variables.find.Goals as goal

pub returns-in-Some : goal.returns-in-Some
returns-in-Some c = λ met h.
    found_first c.args.self.now met h c.args.name.now c.in-Some.number
    (ap (number_among c.args.name.now) (sym c.deref.ensures.value) ∙ sym c.find_first.ensures ∙ c.in-Some.is)

pub returns-then-len-lt-FIRST : goal.returns-then-len-lt-FIRST
returns-then-len-lt-FIRST c = λ met h.
    let none : number_among c.args.name.now c.args.self.now.first.items ≡ None =
    ap (number_among c.args.name.now) (sym c.deref.ensures.value) ∙ sym c.find_first.ensures ∙ c.in-None.is in
    let few : length c.args.self.now.first.items < FIRST = search rules in
    found_nowhere c.args.self.now met h c.args.name.now few none

pub returns-else-len-lt-FIRST : goal.returns-else-len-lt-FIRST
returns-else-len-lt-FIRST c = λ met h.
    let none : number_among c.args.name.now c.args.self.now.first.items ≡ None =
    ap (number_among c.args.name.now) (sym c.deref.ensures.value) ∙ sym c.find_first.ensures ∙ c.in-None.is in
    found_is c.args.self.now met h c.args.name.now c.copied.result none (c.copied.ensures ∙ c.get.ensures.value)
