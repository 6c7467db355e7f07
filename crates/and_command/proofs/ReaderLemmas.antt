-- The command of clap that is built is the one of specs/Values.
use Rattle.std.proofs.Common.{◌≡◌, Some, ap, ◌∙◌}
use Rattle.std.specs.Borrow.{Bor}
use Rattle.clap.specs.Walk.{Rule, Text, rule_of}
use Rattle.clap.specs.declared.builder.action.ArgAction.{ArgAction}
use Rattle.clap.specs.declared.builder.arg.Arg.{Arg}
use Rattle.clap.specs.declared.builder.value_parser.ValueParser.{ValueParser}
use Rattle.and_command.specs.Values.{IsArg}

pub with_long : (a b : Arg) (r : Rule) (name : Bor Text) → b ≡ record a { long = Some name } → IsArg a r
    → IsArg b (record r { long = Some name.now })
with_long a b r name is was = (
  ap rule_of is ∙ ap (λ (r : Rule). record r { long = Some name.now }) was.0,
  ap (λ (x : Arg). x.global) is ∙ was.1,
)

pub with_action : (a b : Arg) (r : Rule) (action : ArgAction) → b ≡ record a { action = Some action } → IsArg a r
    → IsArg b (record r { action = Some action })
with_action a b r action is was = (
  ap rule_of is ∙ ap (λ (r : Rule). record r { action = Some action }) was.0,
  ap (λ (x : Arg). x.global) is ∙ was.1,
)

pub with_parser : (a b : Arg) (r : Rule) (v p : ValueParser) → b ≡ record a { value_parser = b.value_parser } → b.value_parser ≡ Some v → v ≡ p
    → IsArg a r → IsArg b (record r { parser = Some p })
with_parser a b r v p others given is was = (
  ap rule_of others ∙ ap (λ o. record (rule_of a) { parser = o }) (given ∙ ap Some is) ∙ ap (λ (r : Rule). record r { parser = Some p }) was.0,
  ap (λ (x : Arg). x.global) others ∙ was.1,
)
