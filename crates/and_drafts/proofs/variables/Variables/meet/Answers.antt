use Rattle.std.proofs.Common.{rules, ◌≡◌, ◌+◌, ◌<◌, ◌≤◌, true, false, refl, codes, length}
use Rattle.std.specs.Str.{bytes_eq}
use Rattle.and_drafts.specs.declared.variables.TheConstants.{FIRST}
use Rattle.and_drafts.proofs.Meeting.{bare_met, first_named, named_met, named_kept}
use Rattle.and_drafts.proofs.variables.Variables.meet.Goals as goal

pub returns-then-eq-clause-met : goal.returns-then-eq-clause-met
returns-then-eq-clause-met c = λ met h new.
    let bare : bytes_eq c.args.name.now (codes "_") ≡ true = search rules in
    bare_met c.args.self.now (record c.args.self.now { count = c.args.self.now.count + 1 }) c.args.name.now met h bare refl refl refl

pub returns-then-len-lt-FIRST-clause-met : goal.returns-then-len-lt-FIRST-clause-met
returns-then-len-lt-FIRST-clause-met c = λ met h new.
    let named : bytes_eq c.args.name.now (codes "_") ≡ false = search rules in
    let few : length c.args.self.now.first.items < FIRST = search rules in
    first_named c.args.self.now (record c.args.self.now { first = c.push.new.self; count = c.args.self.now.count + 1 }) c.args.name.now met h new named refl
    c.in_ok-of.field-0 c.in_ok-of.ensures few c.in_ok-push.ensures.items refl

pub returns-clause-met : goal.returns-clause-met
returns-clause-met c = λ met h new.
    let named : bytes_eq c.args.name.now (codes "_") ≡ false = search rules in
    let full : FIRST ≤ length c.args.self.now.first.items = search rules in
    named_met c.args.self.now (record c.args.self.now { named = c.insert.new.self; count = c.args.self.now.count + 1 }) c.args.name.now met h new named refl
    c.in_ok-from_slice.field-0 full c.in_ok-from_slice.ensures.items refl c.in_ok-insert.ensures.entries

pub returns-clause-kept : goal.returns-clause-kept
returns-clause-kept c = λ met h new.
    named_kept c.args.self.now c.args.name.now c.in_ok-from_slice.field-0 c.args.self.now.count met c.insert.new.self.entries h new
    c.in_ok-from_slice.ensures.items c.in_ok-insert.ensures.entries
