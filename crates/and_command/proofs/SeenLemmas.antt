-- What was seen of what was given.
use Rattle.std.proofs.Common.{◌≡◌, ℕ, Bool, true, false, if◌then◌else◌, Option, Some, None, is_some, refl, ap, sym, ◌∙◌}
use Rattle.std.specs.Option.{option_and_then}
use Rattle.and_model.specs.Lines.{Bytes}
use Rattle.and_command.specs.Options.{value_of}
use Rattle.and_command.specs.Given.{first_given, with, with_value, with_number, with_stats}
use Rattle.and_command.specs.Checking.{seen_of, has, with as with_seen, see_value, see_number, see_flag}
use Rattle.and_command.specs.declared.options.Name.{Name}
use Rattle.and_command.specs.declared.options.Name.TheVariants.{Limit, Jobs, Teams, Workers}
use Rattle.and_command.specs.declared.given.Given.{Given}
use Rattle.and_command.specs.declared.checking.Seen.{Seen}
use Rattle.and_command.proofs.WordLemmas.{the_same}

-- A step of what is seen is one of what is given.
pub record Steps (given : Option Given) (seen : Option Seen) : Type 0 where
  pub sees : (h : Given) → given ≡ Some h → seen ≡ Some (seen_of h)
  pub gives : (s : Seen) → seen ≡ Some s → (h : Given) × (given ≡ Some h) × (seen_of h ≡ s)

first_step : (o : Option ℕ) (n : ℕ) (put : Option ℕ → Given) (s : Seen) → seen_of (put (Some n)) ≡ s
    → Steps (option_and_then (λ v. Some (put v)) (first_given n o)) (if is_some o then None else Some s)
first_step None n put s is = record {
  sees = λ h e. ap Some (sym is ∙ ap seen_of (the_same (put (Some n)) h e));
  gives = λ t e. (put (Some n), refl, is ∙ the_same s t e);
}
first_step (Some m) n put s is = record { sees = λ h e. absurd (cc); gives = λ t e. absurd (cc) }

flag_step : (b : Bool) (h : Given) (s : Seen) → seen_of h ≡ s → Steps (if b then None else Some h) (if b then None else Some s)
flag_step true h s is = record { sees = λ k e. absurd (cc); gives = λ t e. absurd (cc) }
flag_step false h s is = record {
  sees = λ k e. ap Some (sym is ∙ ap seen_of (the_same h k e));
  gives = λ t e. (h, refl, is ∙ the_same s t e);
}

abbrev see : Name → Seen → Option Seen
see name s = if has name s then None else Some (with_seen name s)

name_step : (name : Name) (n : ℕ) (g : Given) → Steps (with name n g) (see name (seen_of g))
name_step Limit n g = first_step g.limit n (λ v. record g { limit = v }) (record (seen_of g) { limit = true }) refl
name_step Jobs n g = first_step g.jobs n (λ v. record g { jobs = v }) (record (seen_of g) { jobs = true }) refl
name_step Teams n g = first_step g.teams n (λ v. record g { teams = v }) (record (seen_of g) { teams = true }) refl
name_step Workers n g = first_step g.workers n (λ v. record g { workers = v }) (record (seen_of g) { workers = true }) refl

value_by : (o : Option ℕ) (name : Name) (g : Given)
    → Steps (option_and_then (λ n. with name n g) o) (option_and_then (λ n. see name (seen_of g)) o)
value_by None name g = record { sees = λ h e. absurd (cc); gives = λ t e. absurd (cc) }
value_by (Some n) name g = name_step name n g

pub value_step : (name : Name) (word : Bytes) (g : Given) → Steps (with_value name word g) (see_value name word (seen_of g))
value_step name word g = value_by (value_of name word) name g

pub number_step : (n : ℕ) (g : Given) → Steps (with_number n g) (see_number (seen_of g))
number_step n g = first_step g.number n (λ v. record g { number = v }) (record (seen_of g) { number = true }) refl

pub stats_step : (g : Given) → Steps (with_stats g) (see_flag (seen_of g))
stats_step g = flag_step g.stats (record g { stats = true }) (record (seen_of g) { stats = true }) refl
