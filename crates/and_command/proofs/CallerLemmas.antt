-- What callers take from a command.
use Rattle.std.proofs.Common.{◌≡◌, ℕ, Bool, true, false, if◌then◌else◌, List, Some, None, refl, ap, sym, ◌∙◌}
use Rattle.std.specs.Prelude.{unwrap_or}
use Rattle.and_model.specs.Lines.{Bytes}
use Rattle.and_model.specs.declared.limits.TheConstants.{DEFAULT_LIMIT}
use Rattle.and_command.specs.Options.{value_of}
use Rattle.and_command.specs.Forms.{form_of, takes}
use Rattle.and_command.specs.Given.{nothing, first_given, with, with_value, with_number, with_stats, settings_of}
use Rattle.and_command.specs.Commands.{Gives, ends, apart, joined, alone, flagged, IsCommand, made}
use Rattle.and_command.specs.declared.options.Name.{Name}
use Rattle.and_command.specs.declared.options.Name.TheVariants.{Limit, Jobs, Teams, Workers}
use Rattle.and_command.specs.declared.forms.Form.{Form}
use Rattle.and_command.specs.declared.forms.Kind.{Kind}
use Rattle.and_command.specs.declared.forms.Kind.TheVariants as kinds
use Rattle.and_command.specs.declared.given.Given.{Given}
use Rattle.and_command.specs.declared.given.Settings.{Settings}
use Rattle.and_command.specs.declared.reading.Command.TheVariants.{Demo, Explain, First}
use Rattle.and_command.proofs.WordLemmas.{after, the_same}
use Rattle.and_command.proofs.RangeLemmas.{numbered}

-- a form that takes no limit is given none
with_limit : (form : Form) (name : Name) (value : ℕ) (g h : Given) → form.limit ≡ false → takes form name ≡ true → with name value g ≡ Some h
    → g.limit ≡ h.limit
with_limit form Limit value g h none takes_it is = let bad : false ≡ true = sym none ∙ takes_it in absurd (cc)
with_limit form Jobs value g h none takes_it is =
    let made = after (λ v. Some (record g { jobs = v })) (first_given value g.jobs) h is in
    ap (λ (g : Given). g.limit) (the_same (record g { jobs = made.0 }) h made.2)
with_limit form Teams value g h none takes_it is =
    let made = after (λ v. Some (record g { teams = v })) (first_given value g.teams) h is in
    ap (λ (g : Given). g.limit) (the_same (record g { teams = made.0 }) h made.2)
with_limit form Workers value g h none takes_it is =
    let made = after (λ v. Some (record g { workers = v })) (first_given value g.workers) h is in
    ap (λ (g : Given). g.limit) (the_same (record g { workers = made.0 }) h made.2)

value_limit : (form : Form) (name : Name) (word : Bytes) (g h : Given) → form.limit ≡ false → takes form name ≡ true
    → with_value name word g ≡ Some h → g.limit ≡ h.limit
value_limit form name word g h none takes_it is =
    let made = after (λ value. with name value g) (value_of name word) h is in
    with_limit form name made.0 g h none takes_it made.2

number_limit : (n : ℕ) (g h : Given) → with_number n g ≡ Some h → g.limit ≡ h.limit
number_limit n g h is =
    let made = after (λ v. Some (record g { number = v })) (first_given n g.number) h is in
    ap (λ (g : Given). g.limit) (the_same (record g { number = made.0 }) h made.2)

stats_limit : (g h : Given) → with_stats g ≡ Some h → g.limit ≡ h.limit
stats_limit g h is = by g.stats is
  where
    by : (b : Bool) → (if b then None else Some (record g { stats = true })) ≡ Some h → g.limit ≡ h.limit
    by true e = absurd (cc)
    by false e = ap (λ (g : Given). g.limit) (the_same (record g { stats = true }) h e)

no_limit : (form : Form) (g end : Given) (words : List Bytes) → form.limit ≡ false → Gives form g words end → g.limit ≡ end.limit
no_limit form g end _ none (ends _) = refl
no_limit form g end _ none (apart _ h _ name word value words takes_it is gives rest) =
    value_limit form name value g h none takes_it gives ∙ no_limit form h end words none rest
no_limit form g end _ none (joined _ h _ name word value words takes_it is gives rest) =
    value_limit form name value g h none takes_it gives ∙ no_limit form h end words none rest
no_limit form g end _ none (alone _ h _ n word words is gives rest) = number_limit n g h gives ∙ no_limit form h end words none rest
no_limit form g end _ none (flagged _ h _ word words takes_it is gives rest) = stats_limit g h gives ∙ no_limit form h end words none rest

same_demo : (n m : ℕ) (a b : Settings) → Demo n a ≡ Demo m b → a ≡ b
same_demo n m a b is = cc

-- a demo has the default limit
demo_made : (kind : Kind) (g : Given) (words : List Bytes) (n : ℕ) (settings : Settings) → Gives (form_of kind) nothing words g
    → made kind g ≡ Some (Demo n settings) → settings.limit ≡ DEFAULT_LIMIT
demo_made kinds.Run g words n settings gives is = absurd (cc)
demo_made kinds.Check g words n settings gives is = absurd (cc)
demo_made kinds.Demo g words n settings gives is =
    let form = form_of kinds.Demo in
    let how = numbered (λ n. Demo n (settings_of form g)) g.number (Demo n settings) is in
    let same = same_demo how.0 n (settings_of form g) settings how.2 in
    ap (λ (s : Settings). s.limit) (sym same) ∙ ap (λ o. unwrap_or o DEFAULT_LIMIT) (sym (no_limit form nothing g words refl gives))
demo_made kinds.Explain g words n settings gives is =
    let how = numbered (λ n. Explain n (settings_of (form_of kinds.Explain) g)) g.number (Demo n settings) is in absurd (cc)
demo_made kinds.Verify g words n settings gives is = absurd (cc)
demo_made kinds.Tree g words n settings gives is = absurd (cc)
demo_made kinds.Batch g words n settings gives is = absurd (cc)
demo_made kinds.First g words n settings gives is =
    let how = numbered (λ n. First n (settings_of (form_of kinds.First) g)) g.number (Demo n settings) is in absurd (cc)
demo_made kinds.Lint g words n settings gives is = absurd (cc)

pub demo_limit : (words : List Bytes) (n : ℕ) (settings : Settings) → IsCommand words (Demo n settings) → settings.limit ≡ DEFAULT_LIMIT
demo_limit words n settings (word, rest, kind, g, is, named, gives, makes) = demo_made kind g rest n settings gives makes
