-- How clap walks over the words of a command.
use Rattle.std.proofs.Common.{◌≡◌, ℕ, Bool, true, false, List, [], ◌∷◌, ◌++◌, ◌&&◌, ◌||◌, ◌==◌, not, codes, Some, None, if◌then◌else◌, refl, ap, ◌∙◌, arith}
use Rattle.std.specs.Option.{option_and_then, option_map_or}
use Rattle.std.specs.Str.{bytes_eq}
use Rattle.clap.specs.Lexer.{long_of, long_of_rest, short_of, short_of_rest, strip_byte}
use Rattle.clap.specs.Walk.{Text, Row, Rule, Held, Walk, Waiting, idle, option, Step, trailing, walked, settled, settled_rows, with_values, without}
use Rattle.clap.specs.Walk.{has_row, finished, with_default, plain_word, long_or_other, short_or_plain, subcommand_or_other, after_step, pushed, is_pending}
use Rattle.clap.specs.Takes.{turn_passes, settle_passes, use_passes, step_passes, other_passes, flag_word_passes, bundle_passes}
use Rattle.clap.specs.Simple.{Shape, built, filled, with_index, help_rule}
use Rattle.clap.specs.declared.builder.value_parser.Reading.TheVariants.{AsWritten, WithoutMinus}
use Rattle.clap.specs.declared.parser.matches.ValueSource.TheVariants.{CommandLine}
use Rattle.clap.proofs.OnLiterals.{clap_on_literals}
use Rattle.and_command.specs.declared.options.Name.{Name}
use Rattle.and_command.specs.declared.options.Name.TheVariants.{Limit, Jobs, Teams, Workers}
use Rattle.and_command.specs.Options.{name_text}
use Rattle.and_command.specs.Values.{reader, id_of, Writes, number_rule, option_rule, flag_rule}
use Rattle.and_command.proofs.Texts.{is_u32, no_minus}

abbrev pub top : Shape
top = (built reader).top

abbrev pub rules : List Rule
rules = top.rules

abbrev pub built_option : Name → Rule
built_option name = filled (option_rule name)

abbrev pub built_number : Rule
built_number = with_index 1 (filled number_rule)

abbrev pub built_flag : Rule
built_flag = filled flag_rule

-- the walk between the words of two settings, and behind the name of an option
abbrev pub at : Held → ℕ → Walk
at h p = record { held = h; waiting = idle; position = p; is_trailing = false; stopped = None }

abbrev pub rows_at : Held → List Row
rows_at h = settled_rows rules h.pending h.rows

abbrev pub named_held : Name → Held → Held
named_held name h = record (settled rules h) { pending = Some (id_of name, []) }

abbrev pub owing : Name → Held → ℕ → Walk
owing name h p = record {
  held = named_held name h;
  waiting = option (id_of name);
  position = p;
  is_trailing = false;
  stopped = None;
}

abbrev pub valued : Text → Text → Held → Held
valued id v h = record (settled rules h) { pending = Some (id, v ∷ []) }

abbrev pub entered : Text → Text → List Row → List Row
entered id v rows = with_values id WithoutMinus CommandLine (v ∷ []) (without id rows)

abbrev pub given : Text → Text → Held → Held
given id v h = record h { rows = entered id v (rows_at h); pending = None }

abbrev pub flagged_held : Held → Held
flagged_held h = record h {
  rows = with_values (codes "stats") AsWritten CommandLine (codes "true" ∷ []) (without (codes "stats") (rows_at h));
  pending = None;
}

-- ---- words that begin with `--`

pub named : (name : Name) (h : Held) (p : ℕ) → walked rules [] (at h p) (name_text name) ≡ owing name h p
unfolding clap_on_literals
named Limit h p = refl
named Jobs h p = refl
named Teams h p = refl
named Workers h p = refl

pub joined_by : (name : Name) (h : Held) (p : ℕ) (v : Text)
    → walked rules [] (at h p) (name_text name ++ codes "=" ++ v) ≡ at (given (id_of name) v h) p
unfolding clap_on_literals
joined_by Limit h p v = refl
joined_by Jobs h p v = refl
joined_by Teams h p v = refl
joined_by Workers h p v = refl

pub flagged_by : (h : Held) (p : ℕ) → walked rules [] (at h p) (codes "--stats") ≡ at (flagged_held h) p
unfolding clap_on_literals
flagged_by h p = refl

-- ---- words that are no flags

dashes : (d : ℕ) (ds : Text) → (d == 45) ≡ false → bytes_eq (d ∷ ds) (45 ∷ 45 ∷ []) ≡ false
dashes d ds e = ap (λ b. b && bytes_eq ds (45 ∷ [])) e

long_none : (d : ℕ) (ds : Text) → (d == 45) ≡ false → long_of (d ∷ ds) ≡ None
long_none d ds e = ap (λ b. option_and_then long_of_rest (option_and_then (strip_byte 45) (if b then Some ds else None))) e

short_none : (d : ℕ) (ds : Text) → (d == 45) ≡ false → short_of (d ∷ ds) ≡ None
short_none d ds e = ap (λ b. option_and_then short_of_rest (if b then Some ds else None)) e

module _ (c : List Rule) (waiting : Waiting) (p d : ℕ) (ds : Text) (h : Held) (e : (d == 45) ≡ false) where
  met : subcommand_or_other c None waiting p (d ∷ ds) h ≡ plain_word c waiting (d ∷ ds) h
  met =
      let v : Text = d ∷ ds in
      ap (λ b. if b then (h, trailing p) else long_or_other c waiting v (long_of v) h) (dashes d ds e)
      ∙ ap (λ o. long_or_other c waiting v o h) (long_none d ds e)
      ∙ ap (λ o. short_or_plain c waiting v o h) (short_none d ds e)

module _ (s : Shape) (d : ℕ) (ds : Text) (h : Held) (e : (d == 45) ≡ false) where
  no_flag_passes : other_passes s None (d ∷ ds) h ≡ true
  no_flag_passes =
      let v : Text = d ∷ ds in
      ap (λ b. b || flag_word_passes s.rules s.args_override_self (long_of v) v h) (dashes d ds e)
      ∙ ap (λ o. flag_word_passes s.rules s.args_override_self o v h) (long_none d ds e)
      ∙ ap (λ o. option_map_or (λ flags. bundle_passes s.rules s.args_override_self flags h) o true) (short_none d ds e)

pub and_both : (a b : Bool) → a ≡ true → b ≡ true → (a && b) ≡ true
and_both a b first second = ap (λ x. x && b) first ∙ second

and_false : (a : Bool) → (a && false) ≡ false
and_false true = refl
and_false false = refl

-- a value behind the name of an option
valued_step : (name : Name) (h : Held) (p : ℕ) (v : Text)
    → after_step rules v (owing name h p) (plain_word rules (option (id_of name)) v (named_held name h)).0
    (plain_word rules (option (id_of name)) v (named_held name h)).1 ≡ at (valued (id_of name) v h) p
valued_step Limit h p v = refl
valued_step Jobs h p v = refl
valued_step Teams h p v = refl
valued_step Workers h p v = refl

valued_by : (name : Name) (h : Held) (p d : ℕ) (ds : Text) → (d == 45) ≡ false
    → walked rules [] (owing name h p) (d ∷ ds) ≡ at (valued (id_of name) (d ∷ ds) h) p
unfolding walked
valued_by name h p d ds e =
    ap (λ (m : Held × Step). after_step rules (d ∷ ds) (owing name h p) m.0 m.1) (met rules (option (id_of name)) p d ds (named_held name h) e)
    ∙ valued_step name h p (d ∷ ds)

valued_step_passes : (name : Name) (h : Held) (p : ℕ) (v : Text)
    → step_passes top p (plain_word rules (option (id_of name)) v (named_held name h)).0
    (plain_word rules (option (id_of name)) v (named_held name h)).1 ≡ true
valued_step_passes Limit h p v = refl
valued_step_passes Jobs h p v = refl
valued_step_passes Teams h p v = refl
valued_step_passes Workers h p v = refl

passes_valued : (name : Name) (h : Held) (p d : ℕ) (ds : Text) → (d == 45) ≡ false
    → turn_passes top [] (owing name h p) (d ∷ ds) ≡ true
passes_valued name h p d ds e =
    let m : Held × Step = subcommand_or_other rules None (option (id_of name)) p (d ∷ ds) (named_held name h) in
    and_both (other_passes top None (d ∷ ds) (named_held name h)) (step_passes top p m.0 m.1)
    (no_flag_passes top d ds (named_held name h) e)
    (ap (λ (m : Held × Step). step_passes top p m.0 m.1) (met rules (option (id_of name)) p d ds (named_held name h) e)
    ∙ valued_step_passes name h p (d ∷ ds))

-- the number of a command
abbrev number_walk : Held → Text → Bool → Walk
number_walk h v b = at (pushed (codes "number") v (if b then h else settled rules h)) 2

numbered_by : (h : Held) (d : ℕ) (ds : Text) → (d == 45) ≡ false
    → walked rules [] (at h 1) (d ∷ ds) ≡ at (valued (codes "number") (d ∷ ds) h) 2
unfolding walked
numbered_by h d ds e =
    ap (λ (m : Held × Step). after_step rules (d ∷ ds) (at h 1) m.0 m.1) (met rules idle 1 d ds h e)
    ∙ ap (number_walk h (d ∷ ds)) (and_false (is_pending built_number h.pending))

passes_numbered : (h : Held) (d : ℕ) (ds : Text) → (d == 45) ≡ false → settle_passes rules false h ≡ true
    → turn_passes top [] (at h 1) (d ∷ ds) ≡ true
passes_numbered h d ds e ok =
    let m : Held × Step = subcommand_or_other rules None idle 1 (d ∷ ds) h in
    and_both (other_passes top None (d ∷ ds) h) (step_passes top 1 m.0 m.1) (no_flag_passes top d ds h e)
    (ap (λ (m : Held × Step). step_passes top 1 m.0 m.1) (met rules idle 1 d ds h e)
    ∙ ap (λ b. b || settle_passes rules false h) (and_false (is_pending built_number h.pending)) ∙ ok)

-- ---- what waits becomes a row

pub valued_rows : (name : Name) (v : Text) (h : Held) → rows_at (valued (id_of name) v h) ≡ entered (id_of name) v (rows_at h)
valued_rows Limit v h = refl
valued_rows Jobs v h = refl
valued_rows Teams v h = refl
valued_rows Workers v h = refl

pub numbered_rows : (v : Text) (h : Held) → rows_at (valued (codes "number") v h) ≡ entered (codes "number") v (rows_at h)
numbered_rows v h = refl

-- ---- what passes

new_passes : (id v : Text) (rows : List Row) → has_row id rows ≡ false → is_u32 v ≡ true
    → ((not (has_row id rows) || false) && (is_u32 v && true)) ≡ true
new_passes id v rows absent is =
    and_both (not (has_row id rows) || false) (is_u32 v && true) (ap (λ b. not b || false) absent) (and_both (is_u32 v) true is refl)

use_new : (name : Name) (v : Text) (rows : List Row) → has_row (id_of name) rows ≡ false → is_u32 v ≡ true
    → use_passes false (built_option name) (v ∷ []) rows ≡ true
use_new name v rows absent is = new_passes (id_of name) v rows absent is

pub passes_named : (name : Name) (h : Held) (p : ℕ) → settle_passes rules false h ≡ true → turn_passes top [] (at h p) (name_text name) ≡ true
passes_named Limit h p ok = and_both (settle_passes rules false h) true ok refl
passes_named Jobs h p ok = and_both (settle_passes rules false h) true ok refl
passes_named Teams h p ok = and_both (settle_passes rules false h) true ok refl
passes_named Workers h p ok = and_both (settle_passes rules false h) true ok refl

joined_passes : (name : Name) (h : Held) (v : Text) → settle_passes rules false h ≡ true → has_row (id_of name) (rows_at h) ≡ false
    → is_u32 v ≡ true → ((settle_passes rules false h && use_passes false (built_option name) (v ∷ []) (rows_at h)) && true) ≡ true
joined_passes name h v ok absent is =
    let used = use_passes false (built_option name) (v ∷ []) (rows_at h) in
    and_both (settle_passes rules false h && used) true (and_both (settle_passes rules false h) used ok (use_new name v (rows_at h) absent is)) refl

pub passes_joined : (name : Name) (h : Held) (p : ℕ) (v : Text) → settle_passes rules false h ≡ true → has_row (id_of name) (rows_at h) ≡ false
    → is_u32 v ≡ true → turn_passes top [] (at h p) (name_text name ++ codes "=" ++ v) ≡ true
passes_joined Limit h p v ok absent is = joined_passes Limit h v ok absent is
passes_joined Jobs h p v ok absent is = joined_passes Jobs h v ok absent is
passes_joined Teams h p v ok absent is = joined_passes Teams h v ok absent is
passes_joined Workers h p v ok absent is = joined_passes Workers h v ok absent is

pub passes_flagged : (h : Held) (p : ℕ) → settle_passes rules false h ≡ true → has_row (codes "stats") (rows_at h) ≡ false
    → turn_passes top [] (at h p) (codes "--stats") ≡ true
passes_flagged h p ok absent =
    let new : ((not (has_row (codes "stats") (rows_at h)) || false) && true) ≡ true =
    ap (λ b. (not b || false) && true) absent in
    let used = use_passes false built_flag [] (rows_at h) in
    and_both (settle_passes rules false h && used) true (and_both (settle_passes rules false h) used ok new) refl

pub valued_passes : (name : Name) (v : Text) (h : Held) → has_row (id_of name) (rows_at h) ≡ false → is_u32 v ≡ true
    → settle_passes rules false (valued (id_of name) v h) ≡ true
valued_passes Limit v h absent is = use_new Limit v (rows_at h) absent is
valued_passes Jobs v h absent is = use_new Jobs v (rows_at h) absent is
valued_passes Teams v h absent is = use_new Teams v (rows_at h) absent is
valued_passes Workers v h absent is = use_new Workers v (rows_at h) absent is

pub numbered_passes : (v : Text) (h : Held) → has_row (codes "number") (rows_at h) ≡ false → is_u32 v ≡ true
    → settle_passes rules false (valued (codes "number") v h) ≡ true
numbered_passes v h absent is = new_passes (codes "number") v (rows_at h) absent is

-- the same of words that write numbers
pub value_met : (name : Name) (h : Held) (p : ℕ) (v : Text) (n : ℕ) → Writes v n
    → walked rules [] (owing name h p) v ≡ at (valued (id_of name) v h) p
value_met name h p [] n w = absurd (omega (arith, w.some))
value_met name h p (d ∷ ds) n w = valued_by name h p d ds (no_minus d ds w.digits)

pub passes_value : (name : Name) (h : Held) (p : ℕ) (v : Text) (n : ℕ) → Writes v n
    → turn_passes top [] (owing name h p) v ≡ true
passes_value name h p [] n w = absurd (omega (arith, w.some))
passes_value name h p (d ∷ ds) n w = passes_valued name h p d ds (no_minus d ds w.digits)

pub number_met : (h : Held) (v : Text) (n : ℕ) → Writes v n → walked rules [] (at h 1) v ≡ at (valued (codes "number") v h) 2
number_met h [] n w = absurd (omega (arith, w.some))
number_met h (d ∷ ds) n w = numbered_by h d ds (no_minus d ds w.digits)

pub passes_number : (h : Held) (v : Text) (n : ℕ) → Writes v n → settle_passes rules false h ≡ true
    → turn_passes top [] (at h 1) v ≡ true
passes_number h [] n w ok = absurd (omega (arith, w.some))
passes_number h (d ∷ ds) n w ok = passes_numbered h d ds (no_minus d ds w.digits) ok

-- only the flag has a default
same : (b : Bool) (rows : List Row) → (if b then rows else rows) ≡ rows
same true rows = refl
same false rows = refl

pub finished_is : (h : Held) → finished rules h ≡ with_default (rows_at h) built_flag
finished_is h =
    let x = rows_at h in
    let l = filled (option_rule Limit) in
    let j = filled (option_rule Jobs) in
    let t = filled (option_rule Teams) in
    let w = filled (option_rule Workers) in
    let e = filled help_rule in
    ap (λ r. with_default (with_default (with_default (with_default (with_default (with_default r l) j) t) w) built_flag) e)
    (same (has_row (codes "number") x) x)
    ∙ ap (λ r. with_default (with_default (with_default (with_default (with_default r j) t) w) built_flag) e) (same (has_row (codes "limit") x) x)
    ∙ ap (λ r. with_default (with_default (with_default (with_default r t) w) built_flag) e) (same (has_row (codes "jobs") x) x)
    ∙ ap (λ r. with_default (with_default (with_default r w) built_flag) e) (same (has_row (codes "teams") x) x)
    ∙ ap (λ r. with_default (with_default r built_flag) e) (same (has_row (codes "workers") x) x)
    ∙ same (has_row (codes "help") (with_default x built_flag)) (with_default x built_flag)
