-- What the making of a body's tokens does, step by step.
use Rattle.std.specs.Prelude.{ℕ, ◌+◌, ◌≡◌, ◌<◌, Bool, true, false, ◌||◌, List, [], ◌∷◌, ◌++◌, map, reverse, Option}
use Rattle.std.specs.Prelude.{Some, None}
use Rattle.and_model.specs.Lines.{Bytes}
use Rattle.and_source.specs.Source.{SourceItems, Alternatives}
use Rattle.and_syntax.specs.Clauses.{Parts, no_parts, Choices, is_refused, is_refused_in, alternatives_of}
use Rattle.and_syntax.specs.Clauses.{alternatives_in, disjunctions_of, disjunctions_within}
use Rattle.and_syntax.specs.Clauses.{numbered, numbered_in, reading_of, parts_of}
use Rattle.and_program.specs.Skeletons.{Shape, node_term}
use Rattle.and_judging.specs.Marks.{Mark, close, marks_in, marks_of, marks_of_alternatives}
use Rattle.and_drafts.specs.Parts.{PartShape}
use Rattle.and_judging.specs.Conjuncts.{conjunct_at}
use Rattle.and_judging.specs.declared.body.BodyToken.{BodyToken}
use Rattle.and_judging.specs.declared.body.BodyToken.TheVariants as tokens
use Rattle.and_judging.specs.declared.body.Body.{Body}
use Rattle.and_judging.specs.declared.body.Pending.{Pending}
use Rattle.and_judging.specs.declared.body.Pending.TheVariants.{Part, Last, End}
use Rattle.and_judging.specs.declared.items.Conjunct.{Conjunct}
use Rattle.and_judging.specs.declared.items.Conjunct.TheVariants.{Both, Either, Nothing, Item, Refused}

-- disjunctions by their numbers
abbrev pub bare : (c d : ℕ) → Parts → SourceItems
bare c d ps = numbered (λ n. n) c d ps

abbrev pub bare_in : (c d : ℕ) → Choices → Alternatives
bare_in c d cs = numbered_in (λ n. n) c d cs

abbrev pub marks_at : (c d : ℕ) → Parts → List Mark
marks_at c d ps = marks_of (bare c d ps)

abbrev pub choices_at : (c d : ℕ) → Choices → List Mark
choices_at c d cs = marks_of_alternatives (bare_in c d cs)

-- What of a body is still to be done: parts, alternatives, or the end of a disjunction.
pub data Todo : Type 0 where
  part : Parts → Todo
  last : Choices → Todo
  finish : Todo

-- the marks that they will be, where c and d are the next numbers
abbrev pub owed : (c d : ℕ) → List Todo → List Mark
owed c d [] = []
owed c d (part ps ∷ ts) = marks_at c d ps ++ owed (c + alternatives_of ps) (d + disjunctions_of ps) ts
owed c d (last cs ∷ ts) = choices_at c d cs ++ owed (c + alternatives_in cs) (d + disjunctions_within cs) ts
owed c d (finish ∷ ts) = close ∷ owed c d ts

-- and whether something of it is refused
abbrev pub refused_of : List Todo → Bool
refused_of [] = false
refused_of (part ps ∷ ts) = is_refused ps || refused_of ts
refused_of (last cs ∷ ts) = is_refused_in cs || refused_of ts
refused_of (finish ∷ ts) = refused_of ts

-- how many alternatives and disjunctions they have
abbrev pub alternatives_left : List Todo → ℕ
alternatives_left [] = 0
alternatives_left (part ps ∷ ts) = alternatives_of ps + alternatives_left ts
alternatives_left (last cs ∷ ts) = alternatives_in cs + alternatives_left ts
alternatives_left (finish ∷ ts) = alternatives_left ts

abbrev pub disjunctions_left : List Todo → ℕ
disjunctions_left [] = 0
disjunctions_left (part ps ∷ ts) = disjunctions_of ps + disjunctions_left ts
disjunctions_left (last cs ∷ ts) = disjunctions_within cs + disjunctions_left ts
disjunctions_left (finish ∷ ts) = disjunctions_left ts

-- what a pending part stands for
abbrev pub todo_of : List Shape → ℕ → Pending → Todo
todo_of ss base (Part n) = part (parts_of (node_term ss (base + n)))
todo_of ss base (Last n) = last (reading_of (node_term ss (base + n))).last
todo_of ss base End = finish

-- the last one comes first
abbrev pub todos : List Shape → ℕ → List Pending → List Todo
todos ss base pending = map (todo_of ss base) (reverse pending)

-- The tokens so far, and the next numbers of an alternative and of a disjunction.
pub record Made : Type 0 where
  pub tokens : List BodyToken
  pub clause : ℕ
  pub disjunction : ℕ

abbrev pub made_of : Body → Made
made_of b = record { tokens = b.tokens.items; clause = b.next_clause; disjunction = b.next_disjunction }

-- one token more
abbrev pub with_token : Made → BodyToken → Made
with_token m t = record m { tokens = m.tokens ++ t ∷ [] }

-- the next alternative begins
abbrev pub with_next : Made → Made
with_next m = record {
  tokens = m.tokens ++ tokens.Next m.clause ∷ [];
  clause = m.clause + 1;
  disjunction = m.disjunction;
}

-- a disjunction and its first alternative begin
abbrev pub with_open : Made → Made
with_open m = record {
  tokens = (m.tokens ++ tokens.Open m.disjunction ∷ []) ++ tokens.Next m.clause ∷ [];
  clause = m.clause + 1;
  disjunction = m.disjunction + 1;
}

-- What comes of a conjunct: whether it is pure, what was made, and what comes next.
abbrev pub TakesPart : Conjunct → Bool → (old new : Made) → (before after : List Pending) → Type 0
TakesPart (Both l r) pure old new before after = (pure ≡ true) × (new ≡ old) × (after ≡ before ++ Part r ∷ Part l ∷ [])
TakesPart (Either l r) pure old new before after =
    (pure ≡ true) × (new ≡ with_open old) × (after ≡ before ++ End ∷ Last r ∷ Part l ∷ [])
TakesPart Nothing pure old new before after = (pure ≡ true) × (new ≡ old) × (after ≡ before)
TakesPart (Item i) pure old new before after = (pure ≡ true) × (new ≡ with_token old (tokens.Item i)) × (after ≡ before)
TakesPart Refused pure old new before after = pure ≡ false

-- What comes of a last operand of `;`, a part that is that conjunct: the next alternative begins. It is the first of
-- more alternatives, or that part.
abbrev pub TakesLast : Conjunct → Bool → (old new : Made) → (before after : List Pending) → Type 0
TakesLast (Either l r) pure old new before after =
    (pure ≡ true) × (new ≡ with_next old) × (after ≡ before ++ Last r ∷ Part l ∷ [])
TakesLast (Both l r) pure old new before after = TakesPart (Both l r) pure (with_next old) new before after
TakesLast Nothing pure old new before after = TakesPart Nothing pure (with_next old) new before after
TakesLast (Item i) pure old new before after = TakesPart (Item i) pure (with_next old) new before after
TakesLast Refused pure old new before after = TakesPart Refused pure (with_next old) new before after

-- What comes of what is pending.
abbrev pub Takes : List Bytes → List PartShape → ℕ → Pending → Bool → (old new : Made)
    → (before after : List Pending) → Type 0
Takes names ps base (Part n) pure old new before after =
    TakesPart (conjunct_at names ps base n) pure old new before after
Takes names ps base (Last n) pure old new before after =
    TakesLast (conjunct_at names ps base n) pure old new before after
Takes names ps base End pure old new before after =
    (pure ≡ true) × (new ≡ with_token old tokens.Close) × (after ≡ before)

-- the part is one of m, if there is one
abbrev pub IsPart : ℕ → Pending → Type 0
IsPart m (Part n) = n < m
IsPart m (Last n) = n < m
IsPart m End = Unit {0}

-- the parts of a body, if there is one
abbrev pub body_parts : List Shape → Option ℕ → Parts
body_parts ss None = no_parts
body_parts ss (Some n) = parts_of (node_term ss n)

-- What is made of a body whose alternatives are numbered from c on, and its disjunctions from d on: its tokens and the
-- next numbers; or nothing, where something of it is refused.
abbrev pub IsBody : List Shape → (c d : ℕ) → Parts → Option Body → Type 0
IsBody ss c d ps None = is_refused ps ≡ true
IsBody ss c d ps (Some b) =
    (is_refused ps ≡ false) × (marks_in ss b.tokens.items ≡ marks_at c d ps) × (b.next_clause ≡ c + alternatives_of ps)
    × (b.next_disjunction ≡ d + disjunctions_of ps)
