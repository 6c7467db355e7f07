-- The values that clap finds in the words of a command. All of it is this project's own.
use Rattle.std.specs.Prelude.{ℕ, ◌≡◌, ◌<◌, ◌^◌, true, false, List, ◌∷◌, length, Option, Some, None, codes, pos}
use Rattle.std.specs.List.{list_all}
use Rattle.std.specs.Char.{is_ascii_digit}
use Rattle.std.specs.Str.Parse.{digits_value}
use Rattle.clap.specs.Words.{App, Rule, new_app, new_rule, with_rule, rule_of, one_text}
use Rattle.clap.specs.Values.{bool_text}
use Rattle.clap.specs.declared.builder.action.ArgAction.TheVariants.{SetTrue}
use Rattle.clap.specs.declared.builder.arg.Arg.{Arg}
use Rattle.clap.specs.declared.builder.value_parser.ValueParser.{ValueParser}
use Rattle.clap.specs.declared.builder.value_parser.ValueParser.TheVariants as parsers
use Rattle.clap.specs.declared.parser.matches.Found.{Found}
use Rattle.and_model.specs.Lines.{Bytes}
use Rattle.and_command.specs.Commands.{Gives}
use Rattle.and_command.specs.Forms.{form_of}
use Rattle.and_command.specs.Given.{nothing}
use Rattle.and_command.specs.declared.options.Name.{Name}
use Rattle.and_command.specs.declared.options.Name.TheVariants.{Limit, Jobs, Teams, Workers}
use Rattle.and_command.specs.declared.forms.Kind.{Kind}
use Rattle.and_command.specs.declared.given.Given.{Given}

-- a number of 32 bits
abbrev pub any_number : ValueParser
any_number = parsers.Signed (pos 0) (pos 4294967295)

abbrev pub number_rule : Rule
number_rule = record (new_rule (codes "number")) { parser = Some any_number }

abbrev pub id_of : Name → Bytes
id_of Limit = codes "limit"
id_of Jobs = codes "jobs"
id_of Teams = codes "teams"
id_of Workers = codes "workers"

-- an option of that name, which has a number
abbrev pub numbered : Bytes → Rule
numbered id = record (new_rule id) { long = Some id; parser = Some any_number }

abbrev pub option_rule : Name → Rule
option_rule name = numbered (id_of name)

-- the argument has this rule, and is not global
abbrev pub IsArg : Arg → Rule → Type 0
IsArg arg rule = (rule_of arg ≡ rule) × (arg.global ≡ false)

abbrev pub flag_rule : Rule
flag_rule = record (new_rule (codes "stats")) { long = Some (codes "stats"); action = Some SetTrue }

-- the command of clap that reads them: a number, the options and the flag
abbrev pub reader : App
reader = with_rule (with_rule (with_rule
    (with_rule (with_rule (with_rule (new_app (codes "andorra")) number_rule) (option_rule Limit))
    (option_rule Jobs)) (option_rule Teams)) (option_rule Workers)) flag_rule

-- the text is digits alone, and they write this number
pub record Writes (text : Bytes) (n : ℕ) : Type 0 where
  pub digits : list_all is_ascii_digit text ≡ true
  pub some : 0 < length text
  pub number : digits_value 10 text ≡ n
  pub small : n < 2 ^ 32

-- the text of a number, where there is one
abbrev pub IsTextOf : Option ℕ → Option Bytes → Type 0
IsTextOf None text = text ≡ None
IsTextOf (Some n) text = (v : Bytes) × (text ≡ Some v) × Writes v n

-- clap found what was given
pub record AreValues (g : Given) (found : Found) : Type 0 where
  pub limit : IsTextOf g.limit (one_text found (codes "limit"))
  pub jobs : IsTextOf g.jobs (one_text found (codes "jobs"))
  pub teams : IsTextOf g.teams (one_text found (codes "teams"))
  pub workers : IsTextOf g.workers (one_text found (codes "workers"))
  pub number : IsTextOf g.number (one_text found (codes "number"))
  pub stats : one_text found (codes "stats") ≡ Some (bool_text g.stats)

-- behind a first word these give this to a command of this kind
abbrev pub Give : Kind → List Bytes → Given → Type 0
Give kind words g = (word : Bytes) × (rest : List Bytes) × (words ≡ word ∷ rest) × Gives (form_of kind) nothing rest g

-- the words give something to a command of some kind
abbrev pub GiveSomething : List Bytes → Type 0
GiveSomething words = (kind : Kind) × (g : Given) × Give kind words g
