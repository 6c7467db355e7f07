-- The check finds exactly the words that give something.
use Rattle.std.proofs.Common.{◌≡◌, ℕ, Bool, true, false, ◌||◌, List, [], ◌∷◌, ◌++◌, codes, Option, Some, None, IfSome, is_some, if◌then◌else◌, refl, ap, sym}
use Rattle.std.proofs.Common.{subst, ◌∙◌, append_assoc}
use Rattle.std.specs.Option.{option_and_then, option_map, option_map_or}
use Rattle.and_model.specs.Lines.{Bytes}
use Rattle.and_command.specs.Options.{name_text}
use Rattle.and_command.specs.Forms.{kind_named, form_of, takes, option_of, is_flag, number_of}
use Rattle.and_command.specs.Given.{nothing, with_value, with_number, with_stats, settings_of}
use Rattle.and_command.specs.Checking.{seen_of, nothing_seen, see_value, see_number, see_flag, closed, cut, with_joined, next_joined}
use Rattle.and_command.specs.Checking.{next_named, next_flagged, next_numbered, next_after, next, check_from, at_end, check, is_whole}
use Rattle.and_command.specs.Checking.{may_follow, kind_if, kind_of}
use Rattle.and_command.specs.Commands.{Gives, ends, apart, joined, alone, flagged, IsCommand, HasCommand, made}
use Rattle.and_command.specs.Values.{Give, GiveSomething}
use Rattle.and_command.specs.declared.options.Name.{Name}
use Rattle.and_command.specs.declared.forms.Form.{Form}
use Rattle.and_command.specs.declared.forms.Kind.{Kind}
use Rattle.and_command.specs.declared.forms.Kind.TheVariants as kinds
use Rattle.and_command.specs.declared.given.Given.{Given}
use Rattle.and_command.specs.declared.checking.Seen.{Seen}
use Rattle.and_command.specs.declared.checking.Checked.{Checked}
use Rattle.and_command.specs.declared.reading.Command.{Command}
use Rattle.and_command.specs.declared.reading.Command.TheVariants.{Demo, Explain, First}
use Rattle.and_command.proofs.WordLemmas.{is_cut, is_option, names_option, no_number, no_flag, no_flag_number, flag_is, no_joined_number}
use Rattle.and_command.proofs.WordLemmas.{no_joined_flag, no_joined_name, cut_joined, after, the_same}
use Rattle.and_command.proofs.SeenLemmas.{Steps, value_step, number_step, stats_step}

module _ (form : Form) where
  -- the words lead to something of which this is seen
  abbrev Ends : Given → List Bytes → Seen → Type 0
  Ends g words s = (h : Given) × Gives form g words h × (seen_of h ≡ s)

  -- the same, where an option may still be without its value
  abbrev Leads : Option Name → Given → List Bytes → Seen → Type 0
  Leads None g words s = Ends g words s
  Leads (Some name) g words s =
      (value : Bytes) × (rest : List Bytes) × (h : Given) × (words ≡ value ∷ rest) × (with_value name value g ≡ Some h)
      × Ends h rest s

  abbrev LeadsOn : Checked → List Bytes → Seen → Type 0
  LeadsOn r words s = (g : Given) → seen_of g ≡ r.seen → Leads r.owed g words s

  -- what closes an option
  closes : (given : Option Given) (seen : Option Seen) (r : Checked) (words : List Bytes) (s : Seen) → Steps given seen
      → option_and_then (λ t. Some (closed t)) seen ≡ Some r → LeadsOn r words s
      → (h : Given) × (given ≡ Some h) × Ends h words s
  closes given seen r words s steps is rest =
      let found = after (λ t. Some (closed t)) seen r is in
      let same : r ≡ closed found.0 = sym (the_same (closed found.0) r found.2) in
      let on : LeadsOn (closed found.0) words s = subst (λ r. LeadsOn r words s) same rest in
      let step = steps.gives found.0 found.1 in
      (step.0, step.1, on step.0 step.2)

  joined_word : (g : Given) (word : Bytes) (r : Checked) (words : List Bytes) (s : Seen) → next_joined form (seen_of g) word ≡ Some r
      → LeadsOn r words s → Ends g (word ∷ words) s
  joined_word g word r words s is rest =
      let parts = after (λ p. with_joined form (seen_of g) p.0 p.1) (cut word) r is in
      let front = parts.0.0 in
      let back = parts.0.1 in
      let named = after (λ name. option_and_then (λ t. Some (closed t)) (see_value name back (seen_of g))) (option_of form front) r parts.2 in
      let name = named.0 in
      let value = closes (with_value name back g) (see_value name back (seen_of g)) r words s (value_step name back g) named.2 rest in
      let option = is_option form front name named.1 in
      let cutting : word ≡ front ++ codes "=" ++ back = is_cut word front back parts.1 ∙ sym (append_assoc front (codes "=") back) in
      let naming : front ++ codes "=" ++ back ≡ name_text name ++ codes "=" ++ back = ap (λ w. w ++ codes "=" ++ back) option.0 in
      let end = value.2 in
      (end.0, joined g value.0 end.0 name word back words option.1 (cutting ∙ naming) value.1 end.1, end.2)

  named_word : (g : Given) (word : Bytes) (r : Checked) (words : List Bytes) (s : Seen) (o : Option Name) → option_of form word ≡ o
      → next_named form (seen_of g) word o ≡ Some r → LeadsOn r words s → Ends g (word ∷ words) s
  named_word g word r words s None without is rest = joined_word g word r words s is rest
  named_word g word r words s (Some name) names_it is rest =
      let owed : Checked = record { seen = seen_of g; owed = Some name } in
      let same : r ≡ owed = sym (the_same owed r is) in
      let on : LeadsOn owed words s = subst (λ r. LeadsOn r words s) same rest in
      let option = is_option form word name names_it in
      let lead = on g refl in
      let end = lead.5 in (
        end.0,
        subst (λ ws. Gives form g (word ∷ ws) end.0) (sym lead.3)
            (apart g lead.2 end.0 name word lead.0 lead.1 option.1 option.0 lead.4 end.1),
        end.2,
      )

  flag_word : (g : Given) (word : Bytes) (r : Checked) (words : List Bytes) (s : Seen) (b : Bool) → is_flag form word ≡ b
      → next_flagged form (seen_of g) word b ≡ Some r → LeadsOn r words s → Ends g (word ∷ words) s
  flag_word g word r words s false other is rest = named_word g word r words s (option_of form word) refl is rest
  flag_word g word r words s true here is rest =
      let value = closes (with_stats g) (see_flag (seen_of g)) r words s (stats_step g) is rest in
      let flag = flag_is form word here in
      let end = value.2 in
      (end.0, flagged g value.0 end.0 word words flag.1 flag.0 value.1 end.1, end.2)

  numbered_word : (g : Given) (word : Bytes) (r : Checked) (words : List Bytes) (s : Seen) (o : Option ℕ)
      → number_of form.number word ≡ o → next_numbered form (seen_of g) word o ≡ Some r → LeadsOn r words s → Ends g (word ∷ words) s
  numbered_word g word r words s None without is rest = flag_word g word r words s (is_flag form word) refl is rest
  numbered_word g word r words s (Some n) number is rest =
      let value = closes (with_number n g) (see_number (seen_of g)) r words s (number_step n g) is rest in
      let end = value.2 in
      (end.0, alone g value.0 end.0 n word words number value.1 end.1, end.2)

  one_word : (owed : Option Name) (g : Given) (word : Bytes) (r : Checked) (words : List Bytes) (s : Seen)
      → next_after form (seen_of g) word owed ≡ Some r → LeadsOn r words s → Leads owed g (word ∷ words) s
  one_word None g word r words s is rest = numbered_word g word r words s (number_of form.number word) refl is rest
  one_word (Some name) g word r words s is rest =
      let value = closes (with_value name word g) (see_value name word (seen_of g)) r words s (value_step name word g) is rest in
      (word, words, value.0, refl, value.1, value.2)

  no_word : (owed : Option Name) (t s : Seen) (g : Given) → seen_of g ≡ t → at_end owed t ≡ Some s → Leads owed g [] s
  no_word None t s g same is = (g, ends g, same ∙ the_same t s is)
  no_word (Some name) t s g same is = absurd (cc)

  -- what is checked is given
  finds : (words : List Bytes) (r : Checked) (s : Seen)
      → option_and_then (λ (t : Checked). at_end t.owed t.seen) (check_from form r words) ≡ Some s → LeadsOn r words s
  finds [] r s is = λ g same. no_word r.owed r.seen s g same is
  finds (word ∷ words) r s is =
      let whole = after (λ (t : Checked). at_end t.owed t.seen) (check_from form r (word ∷ words)) s is in
      let first = after (λ t. check_from form t words) (next form r word) whole.0 whole.1 in
      let rest = ap (option_and_then (λ (t : Checked). at_end t.owed t.seen)) first.2 ∙ whole.2 in
      let on = finds words first.0 s rest in
      λ g same. one_word r.owed g word first.0 words s (ap (λ t. next_after form t word r.owed) same ∙ first.1) on

  -- one word, and then the rest
  step : (r t : Checked) (word : Bytes) (words : List Bytes) (o : Option Checked) → next form r word ≡ Some t → check_from form t words ≡ o
      → check_from form r (word ∷ words) ≡ o
  step r t word words o is rest = ap (option_and_then (λ t. check_from form t words)) is ∙ rest

  named_next : (s : Seen) (name : Name) (word : Bytes) → takes form name ≡ true → word ≡ name_text name
      → next form (closed s) word ≡ Some (record { seen = s; owed = Some name })
  named_next s name word takes_it is =
      ap (next form (closed s)) is
      ∙ ap (next_numbered form s (name_text name)) (no_number form.number name)
      ∙ ap (next_flagged form s (name_text name)) (no_flag form name)
      ∙ ap (next_named form s (name_text name)) (names_option form name takes_it)

  joined_next : (s t : Seen) (name : Name) (word value : Bytes) → takes form name ≡ true → word ≡ name_text name ++ codes "=" ++ value
      → see_value name value s ≡ Some t → next form (closed s) word ≡ Some (closed t)
  joined_next s t name word value takes_it is sees =
      let whole : Bytes = name_text name ++ codes "=" ++ value in
      ap (next form (closed s)) is
      ∙ ap (next_numbered form s whole) (no_joined_number form.number name value)
      ∙ ap (next_flagged form s whole) (no_joined_flag form name value)
      ∙ ap (next_named form s whole) (no_joined_name form name value)
      ∙ ap (option_and_then (λ p. with_joined form s p.0 p.1)) (cut_joined name value)
      ∙ ap (option_and_then (λ n. option_and_then (λ t. Some (closed t)) (see_value n value s))) (names_option form name takes_it)
      ∙ ap (option_and_then (λ t. Some (closed t))) sees

  alone_next : (s t : Seen) (n : ℕ) (word : Bytes) → number_of form.number word ≡ Some n → see_number s ≡ Some t
      → next form (closed s) word ≡ Some (closed t)
  alone_next s t n word is sees = ap (next_numbered form s word) is ∙ ap (option_and_then (λ t. Some (closed t))) sees

  flag_next : (s t : Seen) (word : Bytes) → form.stats ≡ true → word ≡ codes "--stats" → see_flag s ≡ Some t
      → next form (closed s) word ≡ Some (closed t)
  flag_next s t word takes_it is sees =
      ap (next form (closed s)) is ∙ ap (next_numbered form s (codes "--stats")) (no_flag_number form.number)
      ∙ ap (next_flagged form s (codes "--stats")) takes_it
      ∙ ap (option_and_then (λ t. Some (closed t))) sees

  -- what is given is checked
  found : (g end : Given) (words : List Bytes) → Gives form g words end
      → check_from form (closed (seen_of g)) words ≡ Some (closed (seen_of end))
  found g end _ (ends _) = refl
  found g end _ (apart _ h _ name word value words takes_it is gives rest) =
      let owed : Checked = record { seen = seen_of g; owed = Some name } in
      let last = Some (closed (seen_of end)) in
      step (closed (seen_of g)) owed word (value ∷ words) last (named_next (seen_of g) name word takes_it is)
      (step owed (closed (seen_of h)) value words last
      (ap (option_and_then (λ t. Some (closed t))) ((value_step name value g).sees h gives))
      (found h end words rest))
  found g end _ (joined _ h _ name word value words takes_it is gives rest) =
      step (closed (seen_of g)) (closed (seen_of h)) word words (Some (closed (seen_of end)))
      (joined_next (seen_of g) (seen_of h) name word value takes_it is ((value_step name value g).sees h gives)) (found h end words rest)
  found g end _ (alone _ h _ n word words is gives rest) =
      step (closed (seen_of g)) (closed (seen_of h)) word words (Some (closed (seen_of end)))
      (alone_next (seen_of g) (seen_of h) n word is ((number_step n g).sees h gives)) (found h end words rest)
  found g end _ (flagged _ h _ word words takes_it is gives rest) =
      step (closed (seen_of g)) (closed (seen_of h)) word words (Some (closed (seen_of end)))
      (flag_next (seen_of g) (seen_of h) word takes_it is ((stats_step g).sees h gives)) (found h end words rest)

  check_found : (words : List Bytes) (g : Given) → Gives form nothing words g → check form words ≡ Some (seen_of g)
  check_found words g gives = ap (option_and_then (λ (t : Checked). at_end t.owed t.seen)) (found nothing g words gives)

  was_checked : (o : Option Seen) → option_map_or (is_whole form) o false ≡ true → (s : Seen) × (o ≡ Some s) × (is_whole form s ≡ true)
  was_checked None is = absurd (cc)
  was_checked (Some s) is = (s, refl, is)

  -- words that may follow give something
  follows : (words : List Bytes) → may_follow form words ≡ true
      → (g : Given) × Gives form nothing words g × (is_whole form (seen_of g) ≡ true)
  follows words is =
      let all = was_checked (check form words) is in
      let end = finds words (closed nothing_seen) all.0 all.1 nothing refl in
      (end.0, end.1, ap (is_whole form) end.2 ∙ all.2)

-- A command is made where a number is there, if one has to be.
has_made : (f : ℕ → Command) (o : Option ℕ) → (is_some o || false) ≡ true → (command : Command) × (option_map f o ≡ Some command)
has_made f None is = absurd (cc)
has_made f (Some n) is = (f n, refl)

makes : (kind : Kind) (g : Given) → is_whole (form_of kind) (seen_of g) ≡ true → (command : Command) × (made kind g ≡ Some command)
makes kinds.Run g is = (_, refl)
makes kinds.Check g is = (_, refl)
makes kinds.Demo g is = has_made (λ n. Demo n (settings_of (form_of kinds.Demo) g)) g.number is
makes kinds.Explain g is = has_made (λ n. Explain n (settings_of (form_of kinds.Explain) g)) g.number is
makes kinds.Verify g is = (_, refl)
makes kinds.Tree g is = (_, refl)
makes kinds.Batch g is = (_, refl)
makes kinds.First g is = has_made (λ n. First n (settings_of (form_of kinds.First) g)) g.number is
makes kinds.Lint g is = (_, refl)

or_true : (b : Bool) → (b || true) ≡ true
or_true true = refl
or_true false = refl

had_number : (f : ℕ → Command) (o : Option ℕ) (command : Command) → option_map f o ≡ Some command → (is_some o || false) ≡ true
had_number f None command is = absurd (cc)
had_number f (Some n) command is = refl

is_whole_by : (kind : Kind) (g : Given) (command : Command) → made kind g ≡ Some command → is_whole (form_of kind) (seen_of g) ≡ true
is_whole_by kinds.Run g command is = or_true (is_some g.number)
is_whole_by kinds.Check g command is = or_true (is_some g.number)
is_whole_by kinds.Demo g command is = had_number (λ n. Demo n (settings_of (form_of kinds.Demo) g)) g.number command is
is_whole_by kinds.Explain g command is = had_number (λ n. Explain n (settings_of (form_of kinds.Explain) g)) g.number command is
is_whole_by kinds.Verify g command is = or_true (is_some g.number)
is_whole_by kinds.Tree g command is = or_true (is_some g.number)
is_whole_by kinds.Batch g command is = or_true (is_some g.number)
is_whole_by kinds.First g command is = had_number (λ n. First n (settings_of (form_of kinds.First) g)) g.number command is
is_whole_by kinds.Lint g command is = or_true (is_some g.number)

-- the words are those of a command of this kind, to which they give this
pub record IsBy (words : List Bytes) (kind : Kind) : Type 0 where
  pub word : Bytes
  pub rest : List Bytes
  pub given : Given
  pub command : Command
  pub is : words ≡ word ∷ rest
  pub named : kind_named word ≡ Some kind
  pub gives : Gives (form_of kind) nothing rest given
  pub makes : made kind given ≡ Some command

kept : (t : Bool) (o k : Kind) → (if t then Some o else None) ≡ Some k → (t ≡ true) × (o ≡ k)
kept true o k is = (refl, the_same o k is)
kept false o k is = absurd (cc)

pub kind_gives : (words : List Bytes) (kind : Kind) → kind_of words ≡ Some kind → IsBy words kind
kind_gives [] kind is = absurd (cc)
kind_gives (word ∷ rest) kind is =
    let named = after (kind_if rest) (kind_named word) kind is in
    let how = kept (may_follow (form_of named.0) rest) named.0 kind named.2 in
    let follow : may_follow (form_of kind) rest ≡ true = subst (λ k. may_follow (form_of k) rest ≡ true) how.1 how.0 in
    let given = follows (form_of kind) rest follow in
    let command = makes kind given.0 given.2 in
    record {
      word = word;
      rest = rest;
      given = given.0;
      command = command.0;
      is = refl;
      named = named.1 ∙ ap Some how.1;
      gives = given.1;
      makes = command.1;
    }

-- a command has its kind
pub kind_there : (words rest : List Bytes) (word : Bytes) (kind : Kind) (g : Given) (command : Command) → words ≡ word ∷ rest
    → kind_named word ≡ Some kind → Gives (form_of kind) nothing rest g → made kind g ≡ Some command → kind_of words ≡ Some kind
kind_there words rest word kind g command is named gives makes =
    let follow : may_follow (form_of kind) rest ≡ true =
    ap (λ o. option_map_or (is_whole (form_of kind)) o false) (check_found (form_of kind) rest g gives)
    ∙ is_whole_by kind g command makes in
    ap kind_of is ∙ ap (option_and_then (kind_if rest)) named ∙ ap (λ b. if b then Some kind else None) follow

-- What the check lets through gives something.
pub gives_something : (words : List Bytes) (kind : Kind) → kind_of words ≡ Some kind → GiveSomething words
gives_something words kind is =
    let by = kind_gives words kind is in
    (kind, by.given, (by.word, by.rest, by.is, by.gives))

pub has_command : (words : List Bytes) (kind : Kind) → kind_of words ≡ Some kind → HasCommand words
has_command words kind is =
    let by = kind_gives words kind is in
    (by.command, (by.word, by.rest, kind, by.given, by.is, by.named, by.gives, by.makes))

-- with the values that were found it makes the command
module _ (words : List Bytes) (kind : Kind) (given : Given) (answer : Option Command) (is : kind_of words ≡ Some kind)
    (found : (k : Kind) (g : Given) → Give k words g → given ≡ g) (made_of : answer ≡ made kind given) where
  pub answer_is : IfSome answer (IsCommand words)
  answer_is =
      let by = kind_gives words kind is in
      let same = found kind by.given (by.word, by.rest, by.is, by.gives) in
      subst (λ o. IfSome o (IsCommand words)) (sym (made_of ∙ ap (made kind) same ∙ by.makes))
      (by.word, by.rest, kind, by.given, by.is, by.named, by.gives, by.makes)

  pub answer_each : (command : Command) → IsCommand words command → answer ≡ Some command
  answer_each command (word, rest, k, g, is_words, named, gives, makes_it) =
      let there = kind_there words rest word k g command is_words named gives makes_it in
      let same_kind : kind ≡ k = the_same kind k (sym is ∙ there) in
      let same = found k g (word, rest, is_words, gives) in
      made_of ∙ ap (λ k. made k given) same_kind ∙ ap (made k) same ∙ makes_it

pub none_each : (words : List Bytes) (command : Command) → kind_of words ≡ None → IsCommand words command → None ≡ Some command
none_each words command none (word, rest, k, g, is_words, named, gives, makes_it) =
    let there = kind_there words rest word k g command is_words named gives makes_it in
    let bad : None ≡ Some k = sym none ∙ there in absurd (cc)
