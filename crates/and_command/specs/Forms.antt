-- Which words the commands of each form may have. All of it is this project's own.
use Rattle.std.specs.Prelude.{ℕ, Bool, true, false, ◌&&◌, List, [], ◌∷◌, ◌++◌, codes, Option, Some, None, is_some}
use Rattle.std.specs.Prelude.{if◌then◌else◌, find}
use Rattle.std.specs.Option.{option_and_then}
use Rattle.std.specs.Str.{bytes_eq}
use Rattle.and_model.specs.Lines.{Bytes}
use Rattle.and_command.specs.Options as options
use Rattle.and_command.specs.Options.{is_stats, number_in}
use Rattle.and_command.specs.declared.options.Name.{Name}
use Rattle.and_command.specs.declared.options.Name.TheVariants.{Limit, Jobs, Teams, Workers}
use Rattle.and_command.specs.declared.forms.Form.{Form}
use Rattle.and_command.specs.declared.forms.Number.{Number}
use Rattle.and_command.specs.declared.forms.Kind.{Kind}
use Rattle.and_command.specs.declared.forms.Kind.TheVariants.{Run, Check, Demo, Explain, Verify, Tree, Batch, First}
use Rattle.and_command.specs.declared.forms.Kind.TheVariants.{Lint}
use Rattle.and_command.specs.declared.forms.TheConstants.{KINDS}

-- the first word of each command
abbrev pub name_of : Kind → Bytes
name_of Run = codes "run"
name_of Check = codes "check"
name_of Demo = codes "demo"
name_of Explain = codes "explain"
name_of Verify = codes "verify"
name_of Tree = codes "tree"
name_of Batch = codes "batch"
name_of First = codes "first"
name_of Lint = codes "lint"

-- the number of a generated text, called N (78), and that of an answer, called K (75)
abbrev pub demo_number : Number
demo_number = record { letter = 78; digits = 2; least = 0; most = 64 }

abbrev pub answer_number : Number
answer_number = record { letter = 75; digits = 7; least = 1; most = 1000000 }

-- nothing may stand behind the name
abbrev pub bare : Form
bare = record { number = None; limit = false; jobs = None; hands = None; stats = false }

-- the words that each command may have behind its name: a number, `--limit`, `--jobs`, `--teams` and `--workers`, with
-- how many there are where none are given, and `--stats`
abbrev pub form_of : Kind → Form
form_of Run = record bare { limit = true; hands = Some 2; stats = true }
form_of Check = bare
form_of Demo = record bare { number = Some demo_number; hands = Some 2 }
form_of Explain = record bare { number = Some answer_number; limit = true; hands = Some 2 }
form_of Verify = bare
form_of Tree = record bare { limit = true }
form_of Batch = record bare { limit = true; jobs = Some 2; hands = Some 1 }
form_of First = record bare { number = Some answer_number; limit = true; hands = Some 1 }
form_of Lint = bare

-- the command with this name
abbrev pub kind_named : Bytes → Option Kind
kind_named word = find (λ (kind : Kind). bytes_eq (name_of kind) word) KINDS

-- the option may be there
abbrev pub takes : Form → Name → Bool
takes form Limit = form.limit
takes form Jobs = is_some form.jobs
takes form Teams = is_some form.hands
takes form Workers = is_some form.hands

-- the option that a word names, where it may be there
abbrev pub option_of : Form → Bytes → Option Name
option_of form word = option_and_then (λ name. if takes form name then Some name else None) (options.name_of word)

-- the word is the flag `--stats`, and that may be there
abbrev pub is_flag : Form → Bytes → Bool
is_flag form word = is_stats word && form.stats

-- the number that a word writes, where one may be there
abbrev pub number_of : Option Number → Bytes → Option ℕ
number_of None word = None
number_of (Some n) word = number_in n.digits n.least n.most word

-- what the usage line says of a number, and of what may be there
abbrev pub number_text : Option Number → Bytes
number_text None = []
number_text (Some n) = 32 ∷ n.letter ∷ []

abbrev pub text_if : Bool → Bytes → Bytes
text_if true text = text
text_if false text = []

-- what it says of a form
abbrev pub text_of : Form → Bytes
text_of form =
    number_text form.number
    ++ text_if form.limit (codes " [--limit N]")
    ++ text_if (is_some form.jobs) (codes " [--jobs J]")
    ++ text_if (is_some form.hands) (codes " [--teams T] [--workers W]")
    ++ text_if form.stats (codes " [--stats]")

abbrev pub usage_of : Bytes → List Kind → Bytes
usage_of front [] = 10 ∷ []
usage_of front (kind ∷ kinds) =
    front ++ codes "andorra " ++ name_of kind ++ text_of (form_of kind) ++ usage_of (codes " | ") kinds

-- the line that says how to use the program
abbrev pub usage : Bytes
usage = usage_of (codes "usage: ") KINDS
