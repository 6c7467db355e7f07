-- What clap finds in the words of a command is what they give.
use Rattle.std.proofs.Common.{◌≡◌, ℕ, Bool, true, false, if◌then◌else◌, ◌&&◌, List, [], ◌∷◌, ◌++◌, Option, Some, None, codes, fold, refl, ap, sym, subst, ◌∙◌}
use Rattle.std.proofs.Common.{◌<◌, ◌^◌, Result, Ok, Err, arith}
use Rattle.std.specs.Str.Parse.{digits_value, ParsesUnsigned}
use Rattle.std.specs.Option.{option_and_then}
use Rattle.std.specs.List.{list_all}
use Rattle.clap.specs.Walk.{Row, Held, Walk, walked, nothing_held, finished, with_default, one_of, row_text, rows_of, more_values}
use Rattle.clap.specs.Takes.{turn_passes, settle_passes, walk_passes, takes, entered_passes, default_passes, is_valid}
use Rattle.clap.specs.Simple.{App, HasMatchesOf, built, matches_of, is_simple}
use Rattle.clap.specs.Matches.{ReadsOne, found_of}
use Rattle.clap.specs.Values.{bool_text}
use Rattle.clap.specs.declared.builder.value_parser.Reading.TheVariants.{AsWritten, WithoutMinus}
use Rattle.clap.specs.declared.parser.matches.ValueSource.TheVariants.{DefaultValue, CommandLine}
use Rattle.clap.specs.declared.parser.matches.ArgMatches.{ArgMatches}
use Rattle.clap.specs.declared.parser.matches.Found.{Found}
use Rattle.clap.proofs.OnLiterals.{clap_on_literals}
use Rattle.clap.proofs.WalkLemmas.{one_text-rows}
use Rattle.and_model.specs.Lines.{Bytes}
use Rattle.and_command.specs.Options.{name_text, value_of}
use Rattle.and_command.specs.Forms.{form_of, number_of}
use Rattle.and_command.specs.Given.{nothing, first_given, with, with_number, with_stats}
use Rattle.and_command.specs.Commands.{Gives, ends, apart, joined, alone, flagged}
use Rattle.and_command.specs.Values.{reader, id_of, Writes, IsTextOf, AreValues, Give}
use Rattle.and_command.specs.declared.options.Name.{Name}
use Rattle.and_command.specs.declared.options.Name.TheVariants.{Limit, Jobs, Teams, Workers}
use Rattle.and_command.specs.declared.forms.Form.{Form}
use Rattle.and_command.specs.declared.forms.Kind.{Kind}
use Rattle.and_command.specs.declared.forms.Kind.TheVariants as kinds
use Rattle.and_command.specs.declared.given.Given.{Given}
use Rattle.and_command.proofs.WordLemmas.{after, the_same}
use Rattle.and_command.proofs.NumberLemmas.{parses, number_writes, value_writes}
use Rattle.and_command.proofs.Texts.{same_text, accepted}
use Rattle.and_command.proofs.Rows.{look, new_row, entered_is, no_row, a_row, look_new, look_old, new_at_end}
use Rattle.and_command.proofs.Walks as steps
use Rattle.and_command.proofs.Walks.{rules, at, rows_at, owing, valued, given, flagged_held}

-- the rows show the value of an argument
abbrev pub Shows : Bytes → Option ℕ → List Row → Type 0
Shows id None rows = look id rows ≡ None
Shows id (Some n) rows = (v : Bytes) × (look id rows ≡ Some (new_row id WithoutMinus CommandLine v)) × Writes v n

abbrev pub flag_row : Row
flag_row = new_row (codes "stats") AsWritten CommandLine (codes "true")

abbrev pub ShowFlag : Bool → List Row → Type 0
ShowFlag false rows = look (codes "stats") rows ≡ None
ShowFlag true rows = look (codes "stats") rows ≡ Some flag_row

pub record Show (g : Given) (rows : List Row) : Type 0 where
  pub limit : Shows (codes "limit") g.limit rows
  pub jobs : Shows (codes "jobs") g.jobs rows
  pub teams : Shows (codes "teams") g.teams rows
  pub workers : Shows (codes "workers") g.workers rows
  pub number : Shows (codes "number") g.number rows
  pub stats : ShowFlag g.stats rows

-- a row of another argument changes nothing
still : (id : Bytes) (o : Option ℕ) (rows : List Row) (x : Row) → look id (x ∷ []) ≡ None → Shows id o rows → Shows id o (rows ++ x ∷ [])
still id None rows x other shown = look_old id rows x other ∙ shown
still id (Some n) rows x other shown = (shown.0, look_old id rows x other ∙ shown.1, shown.2)

still_flag : (b : Bool) (rows : List Row) (x : Row) → look (codes "stats") (x ∷ []) ≡ None → ShowFlag b rows → ShowFlag b (rows ++ x ∷ [])
still_flag true rows x other shown = look_old (codes "stats") rows x other ∙ shown
still_flag false rows x other shown = look_old (codes "stats") rows x other ∙ shown

first_none : (n : ℕ) (o v : Option ℕ) → first_given n o ≡ Some v → (o ≡ None) × (Some n ≡ v)
first_none n None v is = (refl, the_same (Some n) v is)
first_none n (Some m) v is = absurd (cc)

-- a value comes as a row
comes : (name : Name) (n : ℕ) (g h : Given) (v : Bytes) (rows : List Row) → with name n g ≡ Some h → Writes v n → Show g rows
    → (look (id_of name) rows ≡ None) × Show h (rows ++ new_row (id_of name) WithoutMinus CommandLine v ∷ [])
comes Limit n g h v rows is writes old =
    let x : Row = new_row (codes "limit") WithoutMinus CommandLine v in
    let made = after (λ o. Some (record g { limit = o })) (first_given n g.limit) h is in
    let first = first_none n g.limit made.0 made.1 in
    let none : look (codes "limit") rows ≡ None = subst (λ o. Shows (codes "limit") o rows) first.0 old.limit in
    let new : Shows (codes "limit") (Some n) (rows ++ x ∷ []) = (v, look_new (codes "limit") rows x none, writes) in
    let show : Show (record g { limit = made.0 }) (rows ++ x ∷ []) = record {
      limit = subst (λ o. Shows (codes "limit") o (rows ++ x ∷ [])) first.1 new;
      jobs = still (codes "jobs") g.jobs rows x refl old.jobs;
      teams = still (codes "teams") g.teams rows x refl old.teams;
      workers = still (codes "workers") g.workers rows x refl old.workers;
      number = still (codes "number") g.number rows x refl old.number;
      stats = still_flag g.stats rows x refl old.stats;
    } in
    (none, subst (λ k. Show k (rows ++ x ∷ [])) (the_same (record g { limit = made.0 }) h made.2) show)
comes Jobs n g h v rows is writes old =
    let x : Row = new_row (codes "jobs") WithoutMinus CommandLine v in
    let made = after (λ o. Some (record g { jobs = o })) (first_given n g.jobs) h is in
    let first = first_none n g.jobs made.0 made.1 in
    let none : look (codes "jobs") rows ≡ None = subst (λ o. Shows (codes "jobs") o rows) first.0 old.jobs in
    let new : Shows (codes "jobs") (Some n) (rows ++ x ∷ []) = (v, look_new (codes "jobs") rows x none, writes) in
    let show : Show (record g { jobs = made.0 }) (rows ++ x ∷ []) = record {
      limit = still (codes "limit") g.limit rows x refl old.limit;
      jobs = subst (λ o. Shows (codes "jobs") o (rows ++ x ∷ [])) first.1 new;
      teams = still (codes "teams") g.teams rows x refl old.teams;
      workers = still (codes "workers") g.workers rows x refl old.workers;
      number = still (codes "number") g.number rows x refl old.number;
      stats = still_flag g.stats rows x refl old.stats;
    } in
    (none, subst (λ k. Show k (rows ++ x ∷ [])) (the_same (record g { jobs = made.0 }) h made.2) show)
comes Teams n g h v rows is writes old =
    let x : Row = new_row (codes "teams") WithoutMinus CommandLine v in
    let made = after (λ o. Some (record g { teams = o })) (first_given n g.teams) h is in
    let first = first_none n g.teams made.0 made.1 in
    let none : look (codes "teams") rows ≡ None = subst (λ o. Shows (codes "teams") o rows) first.0 old.teams in
    let new : Shows (codes "teams") (Some n) (rows ++ x ∷ []) = (v, look_new (codes "teams") rows x none, writes) in
    let show : Show (record g { teams = made.0 }) (rows ++ x ∷ []) = record {
      limit = still (codes "limit") g.limit rows x refl old.limit;
      jobs = still (codes "jobs") g.jobs rows x refl old.jobs;
      teams = subst (λ o. Shows (codes "teams") o (rows ++ x ∷ [])) first.1 new;
      workers = still (codes "workers") g.workers rows x refl old.workers;
      number = still (codes "number") g.number rows x refl old.number;
      stats = still_flag g.stats rows x refl old.stats;
    } in
    (none, subst (λ k. Show k (rows ++ x ∷ [])) (the_same (record g { teams = made.0 }) h made.2) show)
comes Workers n g h v rows is writes old =
    let x : Row = new_row (codes "workers") WithoutMinus CommandLine v in
    let made = after (λ o. Some (record g { workers = o })) (first_given n g.workers) h is in
    let first = first_none n g.workers made.0 made.1 in
    let none : look (codes "workers") rows ≡ None = subst (λ o. Shows (codes "workers") o rows) first.0 old.workers in
    let new : Shows (codes "workers") (Some n) (rows ++ x ∷ []) = (v, look_new (codes "workers") rows x none, writes) in
    let show : Show (record g { workers = made.0 }) (rows ++ x ∷ []) = record {
      limit = still (codes "limit") g.limit rows x refl old.limit;
      jobs = still (codes "jobs") g.jobs rows x refl old.jobs;
      teams = still (codes "teams") g.teams rows x refl old.teams;
      workers = subst (λ o. Shows (codes "workers") o (rows ++ x ∷ [])) first.1 new;
      number = still (codes "number") g.number rows x refl old.number;
      stats = still_flag g.stats rows x refl old.stats;
    } in
    (none, subst (λ k. Show k (rows ++ x ∷ [])) (the_same (record g { workers = made.0 }) h made.2) show)

number_comes : (n : ℕ) (g h : Given) (v : Bytes) (rows : List Row) → with_number n g ≡ Some h → Writes v n → Show g rows
    → (g.number ≡ None) × (look (codes "number") rows ≡ None) × (Some n ≡ h.number)
    × Show h (rows ++ new_row (codes "number") WithoutMinus CommandLine v ∷ [])
number_comes n g h v rows is writes old =
    let x : Row = new_row (codes "number") WithoutMinus CommandLine v in
    let made = after (λ o. Some (record g { number = o })) (first_given n g.number) h is in
    let first = first_none n g.number made.0 made.1 in
    let same = the_same (record g { number = made.0 }) h made.2 in
    let none : look (codes "number") rows ≡ None = subst (λ o. Shows (codes "number") o rows) first.0 old.number in
    let new : Shows (codes "number") (Some n) (rows ++ x ∷ []) = (v, look_new (codes "number") rows x none, writes) in
    let show : Show (record g { number = made.0 }) (rows ++ x ∷ []) = record {
      limit = still (codes "limit") g.limit rows x refl old.limit;
      jobs = still (codes "jobs") g.jobs rows x refl old.jobs;
      teams = still (codes "teams") g.teams rows x refl old.teams;
      workers = still (codes "workers") g.workers rows x refl old.workers;
      number = subst (λ o. Shows (codes "number") o (rows ++ x ∷ [])) first.1 new;
      stats = still_flag g.stats rows x refl old.stats;
    } in
    (first.0, none, first.1 ∙ ap (λ (k : Given). k.number) same, subst (λ k. Show k (rows ++ x ∷ [])) same show)

not_given : (b : Bool) (g h : Given) → (if b then None else Some (record g { stats = true })) ≡ Some h
    → (b ≡ false) × (record g { stats = true } ≡ h)
not_given true g h is = absurd (cc)
not_given false g h is = (refl, the_same (record g { stats = true }) h is)

flag_comes : (g h : Given) (rows : List Row) → with_stats g ≡ Some h → Show g rows
    → (look (codes "stats") rows ≡ None) × (g.number ≡ h.number) × Show h (rows ++ flag_row ∷ [])
flag_comes g h rows is old =
    let first = not_given g.stats g h is in
    let none : look (codes "stats") rows ≡ None = subst (λ b. ShowFlag b rows) first.0 old.stats in
    let show : Show (record g { stats = true }) (rows ++ flag_row ∷ []) = record {
      limit = still (codes "limit") g.limit rows flag_row refl old.limit;
      jobs = still (codes "jobs") g.jobs rows flag_row refl old.jobs;
      teams = still (codes "teams") g.teams rows flag_row refl old.teams;
      workers = still (codes "workers") g.workers rows flag_row refl old.workers;
      number = still (codes "number") g.number rows flag_row refl old.number;
      stats = look_new (codes "stats") rows flag_row none;
    } in
    (none, ap (λ (k : Given). k.number) first.1, subst (λ k. Show k (rows ++ flag_row ∷ [])) first.1 show)

same_number : (name : Name) (n : ℕ) (g h : Given) → with name n g ≡ Some h → g.number ≡ h.number
same_number Limit n g h is =
    let made = after (λ o. Some (record g { limit = o })) (first_given n g.limit) h is in
    ap (λ (k : Given). k.number) (the_same (record g { limit = made.0 }) h made.2)
same_number Jobs n g h is =
    let made = after (λ o. Some (record g { jobs = o })) (first_given n g.jobs) h is in
    ap (λ (k : Given). k.number) (the_same (record g { jobs = made.0 }) h made.2)
same_number Teams n g h is =
    let made = after (λ o. Some (record g { teams = o })) (first_given n g.teams) h is in
    ap (λ (k : Given). k.number) (the_same (record g { teams = made.0 }) h made.2)
same_number Workers n g h is =
    let made = after (λ o. Some (record g { workers = o })) (first_given n g.workers) h is in
    ap (λ (k : Given). k.number) (the_same (record g { workers = made.0 }) h made.2)

-- where the walk stands between the words of two settings
pub record Stands (g : Given) (h : Held) (p : ℕ) : Type 0 where
  pub show : Show g (rows_at h)
  pub passes : settle_passes rules false h ≡ true
  pub place : g.number ≡ None → p ≡ 1

-- the walk over these words ends where that was given, and passes
pub record Walks (w : Walk) (words : List Bytes) (end : Given) : Type 0 where
  pub held : Held
  pub place : ℕ
  pub comes_to : fold (walked rules []) w words ≡ at held place
  pub stands : Stands end held place
  pub passes : walk_passes steps.top [] w words ≡ true

-- one word, and then the rest
one : (w v : Walk) (word : Bytes) (words : List Bytes) (end : Given) → walked rules [] w word ≡ v
    → turn_passes steps.top [] w word ≡ true → Walks v words end → Walks w (word ∷ words) end
unfolding walk_passes
one w v word words end goes turn rest = record {
  held = rest.held;
  place = rest.place;
  comes_to = ap (λ x. fold (walked rules []) x words) goes ∙ rest.comes_to;
  stands = rest.stands;
  passes = steps.and_both _ _ turn (ap (λ x. walk_passes steps.top [] x words) goes ∙ rest.passes);
}

nowhere : (h : Held) (p : ℕ) (end : Given) → Stands end h p → Walks (at h p) [] end
unfolding walk_passes
nowhere h p end stands = record { held = h; place = p; comes_to = refl; stands = stands; passes = refl }

module _ (form : Form) (small : (n : ℕ) (word : Bytes) → number_of form.number word ≡ Some n → Writes word n) where
  pub walks : (g end : Given) (words : List Bytes) → Gives form g words end → (h : Held) (p : ℕ) → Stands g h p → Walks (at h p) words end
  walks g end _ (ends _) h p here = nowhere h p g here
  walks g end _ (apart _ k _ name word value words takes_it is gives rest) h p here =
      let n = after (λ n. with name n g) (value_of name value) k gives in
      let writes = value_writes name value n.0 n.1 in
      let more = comes name n.0 g k value (rows_at h) n.2 writes here.show in
      let next_held : Held = valued (id_of name) value h in
      let rows = steps.valued_rows name value h ∙ entered_is (id_of name) WithoutMinus CommandLine value (rows_at h) more.0 in
      let stands : Stands k next_held p = record {
        show = subst (Show k) (sym rows) more.1;
        passes = steps.valued_passes name value h (no_row (id_of name) (rows_at h) more.0) (accepted value n.0 writes);
        place = λ none. here.place (same_number name n.0 g k n.2 ∙ none);
      } in
      subst (λ x. Walks (at h p) (x ∷ value ∷ words) end) (sym is)
      (one (at h p) (owing name h p) (name_text name) (value ∷ words) end (steps.named name h p) (steps.passes_named name h p here.passes)
      (one (owing name h p) (at next_held p) value words end (steps.value_met name h p value n.0 writes)
      (steps.passes_value name h p value n.0 writes) (walks k end words rest next_held p stands)))
  walks g end _ (joined _ k _ name word value words takes_it is gives rest) h p here =
      let n = after (λ n. with name n g) (value_of name value) k gives in
      let writes = value_writes name value n.0 n.1 in
      let more = comes name n.0 g k value (rows_at h) n.2 writes here.show in
      let next_held : Held = given (id_of name) value h in
      let rows = entered_is (id_of name) WithoutMinus CommandLine value (rows_at h) more.0 in
      let stands : Stands k next_held p = record {
        show = subst (Show k) (sym rows) more.1;
        passes = refl;
        place = λ none. here.place (same_number name n.0 g k n.2 ∙ none);
      } in
      subst (λ x. Walks (at h p) (x ∷ words) end) (sym is)
      (one (at h p) (at next_held p) (name_text name ++ codes "=" ++ value) words end (steps.joined_by name h p value)
      (steps.passes_joined name h p value here.passes (no_row (id_of name) (rows_at h) more.0) (accepted value n.0 writes))
      (walks k end words rest next_held p stands))
  walks g end _ (alone _ k _ n word words is gives rest) h p here =
      let writes = small n word is in
      let more = number_comes n g k word (rows_at h) gives writes here.show in
      let next_held : Held = valued (codes "number") word h in
      let rows = steps.numbered_rows word h ∙ entered_is (codes "number") WithoutMinus CommandLine word (rows_at h) more.1 in
      let stands : Stands k next_held 2 = record {
        show = subst (Show k) (sym rows) more.3;
        passes = steps.numbered_passes word h (no_row (codes "number") (rows_at h) more.1) (accepted word n writes);
        place = λ none. let bad : Some n ≡ None = more.2 ∙ none in absurd (cc);
      } in
      subst (λ q. Walks (at h q) (word ∷ words) end) (sym (here.place more.0))
      (one (at h 1) (at next_held 2) word words end (steps.number_met h word n writes) (steps.passes_number h word n writes here.passes)
      (walks k end words rest next_held 2 stands))
  walks g end _ (flagged _ k _ word words takes_it is gives rest) h p here =
      let more = flag_comes g k (rows_at h) gives here.show in
      let next_held : Held = flagged_held h in
      let rows = entered_is (codes "stats") AsWritten CommandLine (codes "true") (rows_at h) more.0 in
      let stands : Stands k next_held p = record {
        show = subst (Show k) (sym rows) more.2;
        passes = refl;
        place = λ none. here.place (more.1 ∙ none);
      } in
      subst (λ x. Walks (at h p) (x ∷ words) end) (sym is)
      (one (at h p) (at next_held p) (codes "--stats") words end (steps.flagged_by h p)
      (steps.passes_flagged h p here.passes (no_row (codes "stats") (rows_at h) more.0)) (walks k end words rest next_held p stands))

begins : Stands nothing nothing_held 1
begins = record { show = record { limit = refl; jobs = refl; teams = refl; workers = refl; number = refl; stats = refl }; passes = refl; place = λ none. refl }

-- What the walk leaves, with the defaults: only the flag has one.
same_rows : (b : Bool) (rows : List Row) → (if b then rows else rows) ≡ rows
same_rows true rows = refl
same_rows false rows = refl

abbrev default_flag : Row
default_flag = new_row (codes "stats") AsWritten DefaultValue (codes "false")

-- the rows at the end
record Ends (g : Given) (rows : List Row) : Type 0 where
  pub limit : Shows (codes "limit") g.limit rows
  pub jobs : Shows (codes "jobs") g.jobs rows
  pub teams : Shows (codes "teams") g.teams rows
  pub workers : Shows (codes "workers") g.workers rows
  pub number : Shows (codes "number") g.number rows
  pub stats : one_of (codes "stats") rows ≡ Some (bool_text g.stats)

with_flag : (g : Given) (rows : List Row) (b : Bool) → g.stats ≡ b → Show g rows → Ends g (with_default rows steps.built_flag)
with_flag g rows true is show =
    let here : look (codes "stats") rows ≡ Some flag_row = subst (λ b. ShowFlag b rows) is show.stats in
    let same : with_default rows steps.built_flag ≡ rows = rw (a_row (codes "stats") rows flag_row here) refl in
    subst (Ends g) (sym same) (record {
      limit = show.limit;
      jobs = show.jobs;
      teams = show.teams;
      workers = show.workers;
      number = show.number;
      stats = ap (option_and_then row_text) here ∙ ap (λ b. Some (bool_text b)) (sym is);
    })
with_flag g rows false is show =
    let none : look (codes "stats") rows ≡ None = subst (λ b. ShowFlag b rows) is show.stats in
    let x = default_flag in
    let same : with_default rows steps.built_flag ≡ rows ++ x ∷ [] =
    rw (no_row (codes "stats") rows none) (new_at_end (codes "stats") (more_values DefaultValue (codes "false" ∷ [])) (x ∷ []) rows none) in
    subst (Ends g) (sym same) (record {
      limit = still (codes "limit") g.limit rows x refl show.limit;
      jobs = still (codes "jobs") g.jobs rows x refl show.jobs;
      teams = still (codes "teams") g.teams rows x refl show.teams;
      workers = still (codes "workers") g.workers rows x refl show.workers;
      number = still (codes "number") g.number rows x refl show.number;
      stats = ap (option_and_then row_text) (look_new (codes "stats") rows x none) ∙ ap (λ b. Some (bool_text b)) (sym is);
    })

end_rows : (g : Given) (h : Held) → Show g (rows_at h) → Ends g (finished rules h)
end_rows g h show =
    let same : finished rules h ≡ with_default (rows_at h) steps.built_flag = steps.finished_is h in
    subst (Ends g) (sym same) (with_flag g (rows_at h) g.stats refl show)

module _ (form : Form) (small : (n : ℕ) (word : Bytes) → number_of form.number word ≡ Some n → Writes word n)
    (g : Given) (word : Bytes) (words : List Bytes) (gives : Gives form nothing words g) where
  walk_of : Walks (at nothing_held 1) words g
  walk_of = walks form small nothing g words gives nothing_held 1 begins

  found_rows : Ends g (matches_of reader (word ∷ words))
  found_rows =
      let w = walk_of in
      subst (λ (x : Walk). Ends g (finished rules x.held)) (sym w.comes_to) (end_rows g w.held w.stands.show)

  -- what a parse makes of where the walk ends
  abbrev passes_by : Walk → Bool
  passes_by w = entered_passes (built reader) w.stopped
      && (walk_passes steps.top [] (at nothing_held 1) words && (settle_passes rules false w.held
      && (list_all default_passes rules && is_valid steps.top (finished rules w.held) false)))

  pub is_taken : takes reader (word ∷ words) ≡ true
  unfolding clap_on_literals
  is_taken =
      let w = walk_of in
      ap (λ (x : Walk). passes_by x) w.comes_to ∙ rw (w.passes, w.stands.passes) refl

simple : is_simple reader ≡ true
unfolding clap_on_literals
simple = refl

text_of : (id : Bytes) (o : Option ℕ) (rows : List Row) → Shows id o rows → IsTextOf o (one_of id rows)
text_of id None rows shown = ap (option_and_then row_text) shown
text_of id (Some n) rows shown =
    (shown.0, ap (option_and_then row_text) shown.1 ∙ ap Some (same_text shown.0 shown.2.digits), shown.2)

-- the number that a typed getter reads
pub read_number : (E : Type 0) (G : Bytes → Result ℕ E → Type 0) → ((u : Bytes) (x : Result ℕ E) → G u x → ParsesUnsigned 32 10 u x)
    → (o : Option ℕ) (r : Option ℕ) (text : Option Bytes) → (text ≡ None → r ≡ None) → ((v : Bytes) → text ≡ Some v → ReadsOne G v r)
    → IsTextOf o text → r ≡ o
read_number E G only None r text none value is = none is
read_number E G only (Some n) r text none value is = by r (value is.0 is.1)
  where
    by : (r : Option ℕ) → ReadsOne G is.0 r → r ≡ Some n
    by (Some m) read =
        let parsed = parses {E = E} is.0 (Ok m) (only is.0 (Ok m) read) is.2.digits in
        ap Some (parsed.1 ∙ is.2.number)
    by None read =
        let small : digits_value 10 is.0 < 2 ^ 32 = omega (arith, is.2.number, is.2.small) in
        absurd (parses {E = E} is.0 (Err read.0) (only is.0 (Err read.0) read.1) is.2.digits (is.2.some, small))

pub read_flag : (b r : Bool) (text : Option Bytes) → (text ≡ Some (codes "true") → r ≡ true) → (text ≡ Some (codes "false") → r ≡ false)
    → text ≡ Some (bool_text b) → r ≡ b
read_flag true r text set unset is = set is
read_flag false r text set unset is = unset is

pub given_is : (g : Given) (l j t w n : Option ℕ) (s : Bool) → l ≡ g.limit → j ≡ g.jobs → t ≡ g.teams → w ≡ g.workers → n ≡ g.number → s ≡ g.stats
    → record { limit = l; jobs = j; teams = t; workers = w; number = n; stats = s } ≡ g
given_is g l j t w n s is_l is_j is_t is_w is_n is_s = rw (is_l, is_j, is_t, is_w, is_n, is_s) refl

-- What a parse finds in the words that give something to a command.
small_number : (kind : Kind) (n : ℕ) (word : Bytes) → number_of (form_of kind).number word ≡ Some n → Writes word n
small_number kinds.Run n word is = absurd (cc)
small_number kinds.Check n word is = absurd (cc)
small_number kinds.Demo n word is = number_writes 2 0 64 word n (omega arith) is
small_number kinds.Explain n word is = number_writes 7 1 1000000 word n (omega arith) is
small_number kinds.Verify n word is = absurd (cc)
small_number kinds.Tree n word is = absurd (cc)
small_number kinds.Batch n word is = absurd (cc)
small_number kinds.First n word is = number_writes 7 1 1000000 word n (omega arith) is
small_number kinds.Lint n word is = absurd (cc)

pub taken : (kind : Kind) (g : Given) (words : List Bytes) → Give kind words g → takes reader words ≡ true
taken kind g words (word, rest, is, gives) =
    ap (takes reader) is ∙ is_taken (form_of kind) (small_number kind) g word rest gives

found_of_words : (kind : Kind) (g : Given) (words : List Bytes) (rows : List Row) → Give kind words g → rows ≡ matches_of reader words → Ends g rows
found_of_words kind g words rows (word, rest, is, gives) matches =
    subst (Ends g) (sym (matches ∙ ap (matches_of reader) is)) (found_rows (form_of kind) (small_number kind) g word rest gives)

values_found : (g : Given) (f : Found) → Ends g (rows_of f) → AreValues g f
values_found g f rows = record {
  limit = subst (IsTextOf g.limit) (sym (one_text-rows f (codes "limit"))) (text_of (codes "limit") g.limit (rows_of f) rows.limit);
  jobs = subst (IsTextOf g.jobs) (sym (one_text-rows f (codes "jobs"))) (text_of (codes "jobs") g.jobs (rows_of f) rows.jobs);
  teams = subst (IsTextOf g.teams) (sym (one_text-rows f (codes "teams"))) (text_of (codes "teams") g.teams (rows_of f) rows.teams);
  workers = subst (IsTextOf g.workers) (sym (one_text-rows f (codes "workers"))) (text_of (codes "workers") g.workers (rows_of f) rows.workers);
  number = subst (IsTextOf g.number) (sym (one_text-rows f (codes "number"))) (text_of (codes "number") g.number (rows_of f) rows.number);
  stats = one_text-rows f (codes "stats") ∙ rows.stats;
}

-- what clap found is what was given
pub values_are : (kind : Kind) (g : Given) (words : List Bytes) (app : App) (m : ArgMatches) → Give kind words g → app ≡ reader
    → HasMatchesOf app words m → AreValues g (found_of m)
values_are kind g words app m gives is matches =
    let rows = (matches (ap is_simple is ∙ simple)).0 ∙ ap (λ a. matches_of a words) is in
    values_found g (found_of m) (found_of_words kind g words (rows_of (found_of m)) gives rows)
