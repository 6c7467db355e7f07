-- What single words say.
use Rattle.std.proofs.Common.{◌≡◌, ◌≢◌, ℕ, suc, ◌<◌, Bool, true, false, List, [], ◌∷◌, ◌++◌, length, Bor, MatchOption, codes, Option}
use Rattle.std.proofs.Common.{Some, None, if◌then◌else◌, nat_eq, ◌&&◌, refl, ap, sym, ◌∙◌, arith}
use Rattle.std.specs.Prelude.{get_or}
use Rattle.std.specs.Option.{option_map, option_and_then}
use Rattle.std.specs.Str.{bytes_eq}
use Rattle.std.proofs.lemmas.Slice.Eq.{bytes_eq-Decides}
use Rattle.std.proofs.lemmas.Bool.Decides.{Decides-eqb}
use Rattle.std.proofs.lemmas.Bool.{ne_eqb}
use Rattle.and_model.specs.Lines.{Bytes}
use Rattle.and_command.specs.Options.{name_text, name_of, is_stats}
use Rattle.and_command.specs.Forms.{takes, option_of, is_flag, number_of}
use Rattle.and_command.specs.Checking.{cut, put_before}
use Rattle.and_command.specs.declared.options.Name.{Name}
use Rattle.and_command.specs.declared.forms.Form.{Form}
use Rattle.and_command.specs.declared.forms.Number.{Number}
use Rattle.and_command.specs.declared.options.Name.TheVariants.{Limit, Jobs, Teams, Workers}

abbrev nothing_before : Bytes → Bytes × Bytes
nothing_before word = ([], word)

-- what stands behind an answer of two steps
pub after : {A B : Type 0} (f : A → Option B) (o : Option A) (y : B) → option_and_then f o ≡ Some y
    → (x : A) × (o ≡ Some x) × (f x ≡ Some y)
after f None y is = absurd (cc)
after f (Some x) y is = (x, refl, is)

pub the_same : {A : Type 0} (x y : A) → Some x ≡ Some y → x ≡ y
the_same x y is = cc

differs : (b c : ℕ) → b ≢ c → nat_eq b c ≡ false
differs b c other = ne_eqb b c other

-- a word is cut at its first `=`
pub cut_at : (front back : Bytes) → ((i : ℕ) → i < length front → get_or front i 0 ≢ 61) → cut (front ++ 61 ∷ back) ≡ Some (front, back)
cut_at [] back none = refl
cut_at (b ∷ front) back none =
    let other : nat_eq b 61 ≡ false = differs b 61 (none 0 (omega arith)) in
    ap (λ t. if t then Some (nothing_before (front ++ 61 ∷ back)) else option_map (put_before b) (cut (front ++ 61 ∷ back))) other
    ∙ ap (option_map (put_before b)) (cut_at front back (λ i below. none (suc i) (omega (arith, below))))

-- a word without `=` is not cut
pub cut_nowhere : (word : Bytes) → ((i : ℕ) → i < length word → get_or word i 0 ≢ 61) → cut word ≡ None
cut_nowhere [] none = refl
cut_nowhere (b ∷ word) none =
    let other : nat_eq b 61 ≡ false = differs b 61 (none 0 (omega arith)) in
    ap (λ t. if t then Some (nothing_before word) else option_map (put_before b) (cut word)) other
    ∙ ap (option_map (put_before b)) (cut_nowhere word (λ i below. none (suc i) (omega (arith, below))))

-- the parts with `=` between them are the word
abbrev HasParts : Bytes → Type 0
HasParts word = (front back : Bytes) → cut word ≡ Some (front, back) → word ≡ front ++ 61 ∷ back

cut_there : (b : ℕ) (word front back : Bytes) (o : Option (Bytes × Bytes)) → HasParts word → cut word ≡ o
    → option_map (put_before b) o ≡ Some (front, back) → b ∷ word ≡ front ++ 61 ∷ back
cut_there b word front back None rest none is = absurd (cc)
cut_there b word front back (Some parts) rest found is =
    let same = the_same (put_before b parts) (front, back) is in
    ap (λ w. b ∷ w) (rest parts.0 parts.1 found) ∙ ap (λ (p : Bytes × Bytes). p.0 ++ 61 ∷ p.1) same

cut_here : (b : ℕ) (word front back : Bytes) (t : Bool) → HasParts word → nat_eq b 61 ≡ t
    → (if t then Some (nothing_before word) else option_map (put_before b) (cut word)) ≡ Some (front, back)
    → b ∷ word ≡ front ++ 61 ∷ back
cut_here b word front back true rest here is =
    let equals : b ≡ 61 = (Decides-eqb b 61).0 here in
    let parts = the_same (nothing_before word) (front, back) is in
    ap (λ c. c ∷ word) equals ∙ ap (λ (p : Bytes × Bytes). p.0 ++ 61 ∷ p.1) parts
cut_here b word front back false rest other is = cut_there b word front back (cut word) rest refl is

pub is_cut : (word : Bytes) → HasParts word
is_cut [] front back is = absurd (cc)
is_cut (b ∷ word) front back is = cut_here b word front back (nat_eq b 61) (is_cut word) refl is

-- what `split_once` finds is what `cut` gives
pub cut_by : (word : Bytes) (r : Option (Bor (List ℕ) × Bor (List ℕ)))
    → MatchOption r ((i : ℕ) → i < length word → get_or word i 0 ≢ 61) (λ x. (word ≡ x.0.now ++ (61 ∷ x.1.now))
    × ((i : ℕ) → i < length x.0.now → get_or x.0.now i 0 ≢ 61))
    → MatchOption r (cut word ≡ None) (λ parts. cut word ≡ Some (parts.0.now, parts.1.now))
cut_by word None none = cut_nowhere word none
cut_by word (Some parts) is = ap cut is.0 ∙ cut_at parts.0.now parts.1.now is.1

chosen : (a b c d : Bool) (word : Bytes) (name : Name) → (a ≡ true → word ≡ name_text Limit) → (b ≡ true → word ≡ name_text Jobs)
    → (c ≡ true → word ≡ name_text Teams) → (d ≡ true → word ≡ name_text Workers)
    → (if a then Some Limit else if b then Some Jobs else if c then Some Teams else if d then Some Workers else None) ≡ Some name
    → word ≡ name_text name
chosen true b c d word name first second third fourth is = let same : Limit ≡ name = cc in first refl ∙ ap name_text same
chosen false true c d word name first second third fourth is = let same : Jobs ≡ name = cc in second refl ∙ ap name_text same
chosen false false true d word name first second third fourth is = let same : Teams ≡ name = cc in third refl ∙ ap name_text same
chosen false false false true word name first second third fourth is = let same : Workers ≡ name = cc in fourth refl ∙ ap name_text same
chosen false false false false word name first second third fourth is = absurd (cc)

-- a word that names an option is its name
is_name : (word : Bytes) (name : Name) → name_of word ≡ Some name → word ≡ name_text name
is_name word name is =
    chosen (bytes_eq word (name_text Limit)) (bytes_eq word (name_text Jobs)) (bytes_eq word (name_text Teams))
    (bytes_eq word (name_text Workers)) word name (bytes_eq-Decides word (name_text Limit)).0 (bytes_eq-Decides word (name_text Jobs)).0
    (bytes_eq-Decides word (name_text Teams)).0 (bytes_eq-Decides word (name_text Workers)).0 is

kept : (t : Bool) (o n : Name) → (if t then Some o else None) ≡ Some n → (t ≡ true) × (o ≡ n)
kept true o n is = (refl, cc)
kept false o n is = absurd (cc)

by_name : (form : Form) (word : Bytes) (name : Name) (o : Option Name) → name_of word ≡ o
    → option_and_then (λ name. if takes form name then Some name else None) o ≡ Some name → (word ≡ name_text name) × (takes form name ≡ true)
by_name form word name None named is = absurd (cc)
by_name form word name (Some other) named is =
    let how = kept (takes form other) other name is in
    (is_name word other named ∙ ap name_text how.1, ap (takes form) (sym how.1) ∙ how.0)

-- a word that names an option that may be there
pub is_option : (form : Form) (word : Bytes) (name : Name) → option_of form word ≡ Some name
    → (word ≡ name_text name) × (takes form name ≡ true)
is_option form word name is = by_name form word name (name_of word) refl is

-- a name names its option
names : (name : Name) → name_of (name_text name) ≡ Some name
names Limit = refl
names Jobs = refl
names Teams = refl
names Workers = refl

pub names_option : (form : Form) (name : Name) → takes form name ≡ true → option_of form (name_text name) ≡ Some name
names_option form name takes_it =
    ap (option_and_then (λ n. if takes form n then Some n else None)) (names name) ∙ ap (λ b. if b then Some name else None) takes_it

-- a name is no number, with and without a value
pub no_number : (o : Option Number) (name : Name) → number_of o (name_text name) ≡ None
no_number None name = refl
no_number (Some n) Limit = refl
no_number (Some n) Jobs = refl
no_number (Some n) Teams = refl
no_number (Some n) Workers = refl

-- nor is it the flag
pub no_flag : (form : Form) (name : Name) → is_flag form (name_text name) ≡ false
no_flag form Limit = refl
no_flag form Jobs = refl
no_flag form Teams = refl
no_flag form Workers = refl

pub no_joined_flag : (form : Form) (name : Name) (value : Bytes) → is_flag form (name_text name ++ codes "=" ++ value) ≡ false
no_joined_flag form Limit value = refl
no_joined_flag form Jobs value = refl
no_joined_flag form Teams value = refl
no_joined_flag form Workers value = refl

-- the flag is no number
pub no_flag_number : (o : Option Number) → number_of o (codes "--stats") ≡ None
no_flag_number None = refl
no_flag_number (Some n) = refl

both : (a b : Bool) → (a && b) ≡ true → (a ≡ true) × (b ≡ true)
both true b is = (refl, is)
both false b is = absurd (cc)

pub flag_is : (form : Form) (word : Bytes) → is_flag form word ≡ true → (word ≡ codes "--stats") × (form.stats ≡ true)
flag_is form word is =
    let how = both (is_stats word) form.stats is in
    ((bytes_eq-Decides word (codes "--stats")).0 how.0, how.1)

pub no_joined_number : (o : Option Number) (name : Name) (value : Bytes) → number_of o (name_text name ++ codes "=" ++ value) ≡ None
no_joined_number None name value = refl
no_joined_number (Some n) Limit value = refl
no_joined_number (Some n) Jobs value = refl
no_joined_number (Some n) Teams value = refl
no_joined_number (Some n) Workers value = refl

-- a name with a value in one word names no option, and is cut behind the name
pub no_joined_name : (form : Form) (name : Name) (value : Bytes) → option_of form (name_text name ++ codes "=" ++ value) ≡ None
no_joined_name form Limit value = refl
no_joined_name form Jobs value = refl
no_joined_name form Teams value = refl
no_joined_name form Workers value = refl

pub cut_joined : (name : Name) (value : Bytes) → cut (name_text name ++ codes "=" ++ value) ≡ Some (name_text name, value)
cut_joined Limit value = refl
cut_joined Jobs value = refl
cut_joined Teams value = refl
cut_joined Workers value = refl
