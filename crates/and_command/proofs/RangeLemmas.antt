-- What a command names is in its range.
use Rattle.std.proofs.Common.{◌≡◌, ◌<◌, ℕ, Bool, true, false, if◌then◌else◌, List, Option, Some, None, IfSome, refl, subst, arith}
use Rattle.std.specs.Prelude.{unwrap_or}
use Rattle.std.specs.Option.{option_map}
use Rattle.and_model.specs.Lines.{Bytes}
use Rattle.and_command.specs.Options.{most_of, value_of}
use Rattle.and_command.specs.Forms.{form_of, number_of}
use Rattle.and_command.specs.Given.{nothing, first_given, with, with_value, with_number, with_stats, limit_of, jobs_of, hands_of, settings_of}
use Rattle.and_command.specs.Commands.{Gives, ends, apart, joined, alone, flagged, IsCommand, IsWithin, AreBounded, IsInRange, made}
use Rattle.and_command.specs.declared.options.Name.{Name}
use Rattle.and_command.specs.declared.options.Name.TheVariants.{Limit, Jobs, Teams, Workers}
use Rattle.and_command.specs.declared.forms.Form.{Form}
use Rattle.and_command.specs.declared.forms.Number.{Number}
use Rattle.and_command.specs.declared.forms.Kind.{Kind}
use Rattle.and_command.specs.declared.forms.Kind.TheVariants as kinds
use Rattle.and_command.specs.declared.given.Given.{Given}
use Rattle.and_command.specs.declared.reading.Command.{Command}
use Rattle.and_command.specs.declared.reading.Command.TheVariants.{Run, Check, Demo, Explain, Verify, Tree, Batch, First, Lint}
use Rattle.and_command.proofs.NumberLemmas.{is_in_range}
use Rattle.and_command.proofs.WordLemmas.{after, the_same}

-- a number is in the range, where there is one
abbrev HasRange : ℕ → ℕ → Option ℕ → Type 0
HasRange least most None = Unit {0}
HasRange least most (Some n) = IsWithin least most n

-- a number is one of a form, where there is one
abbrev IsNumber : Option Number → ℕ → Type 0
IsNumber None n = ⊥
IsNumber (Some r) n = IsWithin r.least r.most n

abbrev HasNumber : Option Number → Option ℕ → Type 0
HasNumber o None = Unit {0}
HasNumber o (Some n) = IsNumber o n

module _ (form : Form) where
  abbrev HaveRanges : Given → Type 0
  HaveRanges g = HasRange 1 4194304 g.limit × HasRange 1 8 g.jobs × HasRange 1 16 g.teams × HasRange 1 8 g.workers
      × HasNumber form.number g.number

  given_first : (least most value : ℕ) (o v : Option ℕ) → IsWithin least most value → first_given value o ≡ Some v → HasRange least most v
  given_first least most value None v within is = subst (HasRange least most) (the_same (Some value) v is) within
  given_first least most value (Some n) v within is = absurd (cc)

  with_ranges : (name : Name) (value : ℕ) (g h : Given) → IsWithin 1 (most_of name) value → with name value g ≡ Some h → HaveRanges g
      → HaveRanges h
  with_ranges Limit value g h within is old =
      let made = after (λ v. Some (record g { limit = v })) (first_given value g.limit) h is in
      subst HaveRanges (the_same (record g { limit = made.0 }) h made.2)
      (given_first 1 4194304 value g.limit made.0 within made.1, old.1, old.2, old.3, old.4)
  with_ranges Jobs value g h within is old =
      let made = after (λ v. Some (record g { jobs = v })) (first_given value g.jobs) h is in
      subst HaveRanges (the_same (record g { jobs = made.0 }) h made.2)
      (old.0, given_first 1 8 value g.jobs made.0 within made.1, old.2, old.3, old.4)
  with_ranges Teams value g h within is old =
      let made = after (λ v. Some (record g { teams = v })) (first_given value g.teams) h is in
      subst HaveRanges (the_same (record g { teams = made.0 }) h made.2)
      (old.0, old.1, given_first 1 16 value g.teams made.0 within made.1, old.3, old.4)
  with_ranges Workers value g h within is old =
      let made = after (λ v. Some (record g { workers = v })) (first_given value g.workers) h is in
      subst HaveRanges (the_same (record g { workers = made.0 }) h made.2)
      (old.0, old.1, old.2, given_first 1 8 value g.workers made.0 within made.1, old.4)

  value_ranges : (name : Name) (word : Bytes) (g h : Given) → with_value name word g ≡ Some h → HaveRanges g → HaveRanges h
  value_ranges name word g h is old =
      let made = after (λ value. with name value g) (value_of name word) h is in
      with_ranges name made.0 g h (is_in_range 7 1 (most_of name) word made.0 made.1) made.2 old

  number_range : (o : Option Number) (word : Bytes) (n : ℕ) → number_of o word ≡ Some n → IsNumber o n
  number_range None word n is = absurd (cc)
  number_range (Some r) word n is = is_in_range r.digits r.least r.most word n is

  number_first : (o : Option Number) (value : ℕ) (old v : Option ℕ) → IsNumber o value → first_given value old ≡ Some v → HasNumber o v
  number_first o value None v within is = subst (HasNumber o) (the_same (Some value) v is) within
  number_first o value (Some n) v within is = absurd (cc)

  number_ranges : (word : Bytes) (n : ℕ) (g h : Given) → number_of form.number word ≡ Some n → with_number n g ≡ Some h → HaveRanges g
      → HaveRanges h
  number_ranges word n g h number is old =
      let made = after (λ v. Some (record g { number = v })) (first_given n g.number) h is in
      subst HaveRanges (the_same (record g { number = made.0 }) h made.2)
      (old.0, old.1, old.2, old.3, number_first form.number n g.number made.0 (number_range form.number word n number) made.1)

  stats_ranges : (g h : Given) → with_stats g ≡ Some h → HaveRanges g → HaveRanges h
  stats_ranges g h is old = by g.stats is
    where
      by : (b : Bool) → (if b then None else Some (record g { stats = true })) ≡ Some h → HaveRanges h
      by true e = absurd (cc)
      by false e = subst HaveRanges (the_same (record g { stats = true }) h e) old

  -- all that words give is in its range
  given_ranges : (g end : Given) (words : List Bytes) → Gives form g words end → HaveRanges g → HaveRanges end
  given_ranges g end _ (ends _) old = old
  given_ranges g end _ (apart _ h _ name word value words takes_it is gives rest) old = given_ranges h end words rest
      (value_ranges name value g h gives old)
  given_ranges g end _ (joined _ h _ name word value words takes_it is gives rest) old = given_ranges h end words rest
      (value_ranges name value g h gives old)
  given_ranges g end _ (alone _ h _ n word words is gives rest) old = given_ranges h end words rest (number_ranges word n g h is gives old)
  given_ranges g end _ (flagged _ h _ word words takes_it is gives rest) old = given_ranges h end words rest (stats_ranges g h gives old)

or_else : (least most default : ℕ) (o : Option ℕ) → HasRange least most o → IsWithin least most default
    → IsWithin least most (unwrap_or o default)
or_else least most default None has within = within
or_else least most default (Some n) has within = has

default_hands : (kind : Kind) → IsWithin 1 8 (hands_of (form_of kind))
default_hands kinds.Run = (omega arith, omega arith)
default_hands kinds.Check = (omega arith, omega arith)
default_hands kinds.Demo = (omega arith, omega arith)
default_hands kinds.Explain = (omega arith, omega arith)
default_hands kinds.Verify = (omega arith, omega arith)
default_hands kinds.Tree = (omega arith, omega arith)
default_hands kinds.Batch = (omega arith, omega arith)
default_hands kinds.First = (omega arith, omega arith)
default_hands kinds.Lint = (omega arith, omega arith)

settings_ranges : (form : Form) (g : Given) → IsWithin 1 8 (hands_of form) → HaveRanges form g → AreBounded (settings_of form g)
settings_ranges form g hands have =
    let teams = or_else 1 16 (hands_of form) g.teams have.2 (hands.0, omega (arith, hands.1)) in
    let workers = or_else 1 8 (hands_of form) g.workers have.3 hands in
    let some_team : 0 < unwrap_or g.teams (hands_of form) = omega (arith, teams.0) in
    let some_worker : 0 < unwrap_or g.workers (hands_of form) = omega (arith, workers.0) in
    (or_else 1 4194304 262144 g.limit have.0 (omega arith, omega arith), (some_team, teams.1, some_worker, workers.1))

-- a command with a number
pub numbered : (f : ℕ → Command) (o : Option ℕ) (command : Command) → option_map f o ≡ Some command
    → (n : ℕ) × (o ≡ Some n) × (f n ≡ command)
numbered f None command is = absurd (cc)
numbered f (Some n) command is = (n, refl, the_same (f n) command is)

made_ranges : (kind : Kind) (g : Given) (command : Command) → HaveRanges (form_of kind) g → made kind g ≡ Some command → IsInRange command
made_ranges kinds.Run g command have is =
    let form = form_of kinds.Run in
    subst IsInRange (the_same (Run (settings_of form g)) command is) (settings_ranges form g (default_hands kinds.Run) have)
made_ranges kinds.Check g command have is = subst IsInRange (the_same Check command is) tt
made_ranges kinds.Demo g command have is =
    let form = form_of kinds.Demo in
    let how = numbered (λ n. Demo n (settings_of form g)) g.number command is in
    let number : IsWithin 0 64 how.0 = subst (HasNumber form.number) how.1 have.4 in
    subst IsInRange how.2 (number.1, settings_ranges form g (default_hands kinds.Demo) have)
made_ranges kinds.Explain g command have is =
    let form = form_of kinds.Explain in
    let how = numbered (λ n. Explain n (settings_of form g)) g.number command is in
    let number : IsWithin 1 1000000 how.0 = subst (HasNumber form.number) how.1 have.4 in
    subst IsInRange how.2 (number, settings_ranges form g (default_hands kinds.Explain) have)
made_ranges kinds.Verify g command have is = subst IsInRange (the_same Verify command is) tt
made_ranges kinds.Tree g command have is =
    subst IsInRange (the_same (Tree (limit_of g)) command is) (or_else 1 4194304 262144 g.limit have.0 (omega arith, omega arith))
made_ranges kinds.Batch g command have is =
    let form = form_of kinds.Batch in
    subst IsInRange (the_same (Batch (jobs_of form g) (settings_of form g)) command is)
    (or_else 1 8 2 g.jobs have.1 (omega arith, omega arith), settings_ranges form g (default_hands kinds.Batch) have)
made_ranges kinds.First g command have is =
    let form = form_of kinds.First in
    let how = numbered (λ n. First n (settings_of form g)) g.number command is in
    let number : IsWithin 1 1000000 how.0 = subst (HasNumber form.number) how.1 have.4 in
    subst IsInRange how.2 (number, settings_ranges form g (default_hands kinds.First) have)
made_ranges kinds.Lint g command have is = subst IsInRange (the_same Lint command is) tt

command_ranges : (words : List Bytes) (command : Command) → IsCommand words command → IsInRange command
command_ranges words command (word, rest, kind, g, is, named, gives, makes) =
    made_ranges kind g command (given_ranges (form_of kind) nothing g rest gives (tt, tt, tt, tt, tt)) makes

pub in_ranges : (r : Option Command) (words : List Bytes) → IfSome r (IsCommand words) → IfSome r IsInRange
in_ranges None words is = tt
in_ranges (Some command) words is = command_ranges words command is
