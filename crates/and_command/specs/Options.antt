-- The options, and the values that words give them. All of it is this project's own.
use Rattle.std.specs.Prelude.{ℕ, length, Option, Some, None, if◌then◌else◌, codes, nat_lt, Bool, ◌&&◌, not}
use Rattle.std.specs.Str.{bytes_eq}
use Rattle.std.specs.List.{list_all}
use Rattle.std.specs.Char.{is_ascii_digit}
use Rattle.std.specs.Str.Parse.{digits_value}
use Rattle.and_model.specs.Lines.{Bytes}
use Rattle.and_command.specs.declared.options.Name.{Name}
use Rattle.and_command.specs.declared.options.Name.TheVariants.{Limit, Jobs, Teams, Workers}

-- the word that names an option
abbrev pub name_text : Name → Bytes
name_text Limit = codes "--limit"
name_text Jobs = codes "--jobs"
name_text Teams = codes "--teams"
name_text Workers = codes "--workers"

-- the option that a word names
abbrev pub name_of : Bytes → Option Name
name_of word =
    if bytes_eq word (name_text Limit) then Some Limit
    else if bytes_eq word (name_text Jobs) then Some Jobs
    else if bytes_eq word (name_text Teams) then Some Teams
    else if bytes_eq word (name_text Workers) then Some Workers
    else None

-- the word is the flag `--stats`
abbrev pub is_stats : Bytes → Bool
is_stats word = bytes_eq word (codes "--stats")

-- the largest value of an option
abbrev pub most_of : Name → ℕ
most_of Limit = 4194304
most_of Jobs = 8
most_of Teams = 16
most_of Workers = 8

-- the word has digits and nothing else, one or more and at most so many
abbrev pub is_numeral : ℕ → Bytes → Bool
is_numeral longest word = list_all is_ascii_digit word && nat_lt 0 (length word) && not (nat_lt longest (length word))

-- the number is in the range
abbrev pub is_within : ℕ → ℕ → ℕ → Bool
is_within least most n = not (nat_lt n least) && not (nat_lt most n)

-- the number that such a word writes, where it is in the range; leading zeros are allowed
abbrev pub number_in : ℕ → ℕ → ℕ → Bytes → Option ℕ
number_in longest least most word =
    if is_numeral longest word && is_within least most (digits_value 10 word) then Some (digits_value 10 word) else None

-- the value that a word gives an option: one to seven digits
abbrev pub value_of : Name → Bytes → Option ℕ
value_of name word = number_in 7 1 (most_of name) word
