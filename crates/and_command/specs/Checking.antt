-- How words are checked, one by one from left to right: a function that tells whether specs/Commands has values for
-- them. All of it is this project's own.
use Rattle.std.specs.Prelude.{ℕ, Bool, true, false, ◌||◌, List, [], ◌∷◌, Option, Some, None, is_some, is_none}
use Rattle.std.specs.Prelude.{if◌then◌else◌, nat_eq}
use Rattle.std.specs.Option.{option_and_then, option_map, option_map_or}
use Rattle.and_model.specs.Lines.{Bytes}
use Rattle.and_command.specs.Options.{value_of}
use Rattle.and_command.specs.Forms.{kind_named, form_of, option_of, is_flag, number_of}
use Rattle.and_command.specs.declared.options.Name.{Name}
use Rattle.and_command.specs.declared.options.Name.TheVariants.{Limit, Jobs, Teams, Workers}
use Rattle.and_command.specs.declared.forms.Form.{Form}
use Rattle.and_command.specs.declared.forms.Kind.{Kind}
use Rattle.and_command.specs.declared.given.Given.{Given}
use Rattle.and_command.specs.declared.checking.Seen.{Seen}
use Rattle.and_command.specs.declared.checking.Checked.{Checked}

-- what of this was given, without the values
abbrev pub seen_of : Given → Seen
seen_of g = record {
  limit = is_some g.limit;
  jobs = is_some g.jobs;
  teams = is_some g.teams;
  workers = is_some g.workers;
  number = is_some g.number;
  stats = g.stats;
}

abbrev pub nothing_seen : Seen
nothing_seen = record { limit = false; jobs = false; teams = false; workers = false; number = false; stats = false }

-- the option is among these
abbrev pub has : Name → Seen → Bool
has Limit s = s.limit
has Jobs s = s.jobs
has Teams s = s.teams
has Workers s = s.workers

-- the same, and an option
abbrev pub with : Name → Seen → Seen
with Limit s = record s { limit = true }
with Jobs s = record s { jobs = true }
with Teams s = record s { teams = true }
with Workers s = record s { workers = true }

-- the same, and an option that is not among them, where the word is a value of it
abbrev pub see_value : Name → Bytes → Seen → Option Seen
see_value name word s = option_and_then (λ value. if has name s then None else Some (with name s)) (value_of name word)

-- the same, and a number, where none was given so far
abbrev pub see_number : Seen → Option Seen
see_number s = if s.number then None else Some (record s { number = true })

-- the same, and the flag, where it was not given so far
abbrev pub see_flag : Seen → Option Seen
see_flag s = if s.stats then None else Some (record s { stats = true })

-- no option is without its value
abbrev pub closed : Seen → Checked
closed s = record { seen = s; owed = None }

-- a byte is put before the first part
abbrev pub put_before : ℕ → Bytes × Bytes → Bytes × Bytes
put_before b parts = (b ∷ parts.0, parts.1)

-- what stands before the first `=` of a word, and what stands behind it
abbrev pub cut : Bytes → Option (Bytes × Bytes)
cut [] = None
cut (b ∷ bs) = if nat_eq b 61 then Some ([], bs) else option_map (put_before b) (cut bs)

-- an option with its value in one word
abbrev pub with_joined : Form → Seen → Bytes → Bytes → Option Checked
with_joined form s front back =
    option_and_then (λ name. option_and_then (λ h. Some (closed h)) (see_value name back s)) (option_of form front)

abbrev pub next_joined : Form → Seen → Bytes → Option Checked
next_joined form s word = option_and_then (λ parts. with_joined form s parts.0 parts.1) (cut word)

abbrev pub next_named : Form → Seen → Bytes → Option Name → Option Checked
next_named form s word None = next_joined form s word
next_named form s word (Some name) = Some (record { seen = s; owed = Some name })

abbrev pub next_flagged : Form → Seen → Bytes → Bool → Option Checked
next_flagged form s word false = next_named form s word (option_of form word)
next_flagged form s word true = option_and_then (λ h. Some (closed h)) (see_flag s)

abbrev pub next_numbered : Form → Seen → Bytes → Option ℕ → Option Checked
next_numbered form s word None = next_flagged form s word (is_flag form word)
next_numbered form s word (Some n) = option_and_then (λ h. Some (closed h)) (see_number s)

-- a word where none is owed
abbrev pub next_fresh : Form → Seen → Bytes → Option Checked
next_fresh form s word = next_numbered form s word (number_of form.number word)

abbrev pub next_after : Form → Seen → Bytes → Option Name → Option Checked
next_after form s word None = next_fresh form s word
next_after form s word (Some name) = option_and_then (λ h. Some (closed h)) (see_value name word s)

-- the next word
abbrev pub next : Form → Checked → Bytes → Option Checked
next form r word = next_after form r.seen word r.owed

-- all words
abbrev pub check_from : Form → Checked → List Bytes → Option Checked
check_from form r [] = Some r
check_from form r (word ∷ words) = option_and_then (λ t. check_from form t words) (next form r word)

-- what was seen, where no option is without its value
abbrev pub at_end : Option Name → Seen → Option Seen
at_end None s = Some s
at_end (Some name) s = None

abbrev pub check : Form → List Bytes → Option Seen
check form words = option_and_then (λ r. at_end r.owed r.seen) (check_from form (closed nothing_seen) words)

-- a number is there, if one has to be
abbrev pub is_whole : Form → Seen → Bool
is_whole form s = s.number || is_none form.number

-- the words may stand behind the name of a command of this form
abbrev pub may_follow : Form → List Bytes → Bool
may_follow form words = option_map_or (is_whole form) (check form words) false

abbrev pub kind_if : List Bytes → Kind → Option Kind
kind_if words kind = if may_follow (form_of kind) words then Some kind else None

-- which command has these words
abbrev pub kind_of : List Bytes → Option Kind
kind_of [] = None
kind_of (word ∷ words) = option_and_then (kind_if words) (kind_named word)
