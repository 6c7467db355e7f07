-- What words have given so far. All of it is this project's own.
use Rattle.std.specs.Prelude.{ℕ, true, false, if◌then◌else◌, Option, Some, None, unwrap_or}
use Rattle.std.specs.Option.{option_and_then}
use Rattle.and_model.specs.Lines.{Bytes}
use Rattle.and_model.specs.declared.limits.TheConstants.{DEFAULT_LIMIT}
use Rattle.and_command.specs.Options.{value_of}
use Rattle.and_command.specs.declared.options.Name.{Name}
use Rattle.and_command.specs.declared.options.Name.TheVariants.{Limit, Jobs, Teams, Workers}
use Rattle.and_command.specs.declared.forms.Form.{Form}
use Rattle.and_command.specs.declared.given.Given.{Given}
use Rattle.and_command.specs.declared.given.Settings.{Settings}

abbrev pub nothing : Given
nothing = record { limit = None; jobs = None; teams = None; workers = None; number = None; stats = false }

-- this value, where there is none so far
abbrev pub first_given : ℕ → Option ℕ → Option (Option ℕ)
first_given value None = Some (Some value)
first_given value (Some n) = None

-- the same, and a value for an option that has none so far
abbrev pub with : Name → ℕ → Given → Option Given
with Limit value g = option_and_then (λ v. Some (record g { limit = v })) (first_given value g.limit)
with Jobs value g = option_and_then (λ v. Some (record g { jobs = v })) (first_given value g.jobs)
with Teams value g = option_and_then (λ v. Some (record g { teams = v })) (first_given value g.teams)
with Workers value g = option_and_then (λ v. Some (record g { workers = v })) (first_given value g.workers)

-- the same, and the value that a word gives an option that has none so far
abbrev pub with_value : Name → Bytes → Given → Option Given
with_value name word g = option_and_then (λ value. with name value g) (value_of name word)

-- the same, and a number, where there is none so far
abbrev pub with_number : ℕ → Given → Option Given
with_number value g = option_and_then (λ v. Some (record g { number = v })) (first_given value g.number)

-- the same, and `--stats`, where it was not given so far
abbrev pub with_stats : Given → Option Given
with_stats g = if g.stats then None else Some (record g { stats = true })

-- the limit: what was given, and else the default
abbrev pub limit_of : Given → ℕ
limit_of g = unwrap_or g.limit DEFAULT_LIMIT

-- how many jobs: what was given, and else what the form has
abbrev pub jobs_of : Form → Given → ℕ
jobs_of form g = unwrap_or g.jobs (unwrap_or form.jobs 1)

-- how many teams, and workers in each, the form has where none are given
abbrev pub hands_of : Form → ℕ
hands_of form = unwrap_or form.hands 1

-- the settings: what was given, and else the defaults of the form
abbrev pub settings_of : Form → Given → Settings
settings_of form g = record {
  limit = limit_of g;
  hands = record { teams = unwrap_or g.teams (hands_of form); workers = unwrap_or g.workers (hands_of form) };
  stats = g.stats;
}
