-- Which lists of words are commands, and with which values. All of it is this project's own.
use Rattle.std.specs.Prelude.{ℕ, true, ◌≡◌, ◌≤◌, List, [], ◌∷◌, ◌++◌, Option, Some, codes}
use Rattle.std.specs.Option.{option_map}
use Rattle.and_model.specs.Limits.{AreInRange}
use Rattle.and_model.specs.Lines.{Bytes}
use Rattle.and_command.specs.Options.{name_text}
use Rattle.and_command.specs.Forms.{kind_named, form_of, takes, number_of}
use Rattle.and_command.specs.Given.{nothing, with_value, with_number, with_stats, limit_of, jobs_of, settings_of}
use Rattle.and_command.specs.declared.options.Name.{Name}
use Rattle.and_command.specs.declared.forms.Form.{Form}
use Rattle.and_command.specs.declared.forms.Kind.{Kind}
use Rattle.and_command.specs.declared.forms.Kind.TheVariants as kinds
use Rattle.and_command.specs.declared.given.Given.{Given}
use Rattle.and_command.specs.declared.given.Settings.{Settings}
use Rattle.and_command.specs.declared.reading.Command.{Command}
use Rattle.and_command.specs.declared.reading.Command.TheVariants.{Run, Check, Demo, Explain, Verify, Tree, Batch}
use Rattle.and_command.specs.declared.reading.Command.TheVariants.{First, Lint}

-- From what was given, these words of a command of this form lead to what is given with them, from left
-- to right: the name of an option that it takes and its value in two words, the two in one word with `=`
-- between them, its number, or the flag `--stats` where it takes that. Nothing is given twice
pub data Gives (form : Form) : Given → List Bytes → Given → Type 0 where
  ends : (g : Given) → Gives form g [] g
  apart : (g h end : Given) (name : Name) (word value : Bytes) (words : List Bytes)
      → takes form name ≡ true → word ≡ name_text name → with_value name value g ≡ Some h → Gives form h words end
      → Gives form g (word ∷ value ∷ words) end
  joined : (g h end : Given) (name : Name) (word value : Bytes) (words : List Bytes)
      → takes form name ≡ true → word ≡ name_text name ++ codes "=" ++ value → with_value name value g ≡ Some h
      → Gives form h words end → Gives form g (word ∷ words) end
  alone : (g h end : Given) (n : ℕ) (word : Bytes) (words : List Bytes)
      → number_of form.number word ≡ Some n → with_number n g ≡ Some h → Gives form h words end
      → Gives form g (word ∷ words) end
  flagged : (g h end : Given) (word : Bytes) (words : List Bytes)
      → form.stats ≡ true → word ≡ codes "--stats" → with_stats g ≡ Some h → Gives form h words end
      → Gives form g (word ∷ words) end

-- the command of this kind with what was given, where its number is among that
abbrev pub made : Kind → Given → Option Command
made kinds.Run g = Some (Run (settings_of (form_of kinds.Run) g))
made kinds.Check g = Some Check
made kinds.Demo g = option_map (λ n. Demo n (settings_of (form_of kinds.Demo) g)) g.number
made kinds.Explain g = option_map (λ n. Explain n (settings_of (form_of kinds.Explain) g)) g.number
made kinds.Verify g = Some Verify
made kinds.Tree g = Some (Tree (limit_of g))
made kinds.Batch g = Some (Batch (jobs_of (form_of kinds.Batch) g) (settings_of (form_of kinds.Batch) g))
made kinds.First g = option_map (λ n. First n (settings_of (form_of kinds.First) g)) g.number
made kinds.Lint g = Some Lint

-- the first word names a command, and those behind it give the rest
abbrev pub IsCommand : List Bytes → Command → Type 0
IsCommand words command = (word : Bytes) × (rest : List Bytes) × (kind : Kind) × (g : Given)
    × (words ≡ word ∷ rest) × (kind_named word ≡ Some kind) × Gives (form_of kind) nothing rest g
    × (made kind g ≡ Some command)

-- some command has these words
abbrev pub HasCommand : List Bytes → Type 0
HasCommand words = (command : Command) × IsCommand words command

-- the number is in the range
abbrev pub IsWithin : ℕ → ℕ → ℕ → Type 0
IsWithin least most n = (least ≤ n) × (n ≤ most)

-- the limit and who explores are in their ranges
abbrev pub AreBounded : Settings → Type 0
AreBounded s = IsWithin 1 4194304 s.limit × AreInRange s.hands

-- what a command names is in its range
abbrev pub IsInRange : Command → Type 0
IsInRange (Run settings) = AreBounded settings
IsInRange Check = Unit {0}
IsInRange (Demo n settings) = (n ≤ 64) × AreBounded settings
IsInRange (Explain n settings) = IsWithin 1 1000000 n × AreBounded settings
IsInRange Verify = Unit {0}
IsInRange (Tree limit) = IsWithin 1 4194304 limit
IsInRange (Batch jobs settings) = IsWithin 1 8 jobs × AreBounded settings
IsInRange (First n settings) = IsWithin 1 1000000 n × AreBounded settings
IsInRange Lint = Unit {0}
