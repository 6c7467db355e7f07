-- What the parts of a parser do, piece by piece with the machine.
use Rattle.std.specs.Prelude.{ℕ, ◌≤◌, ◌≡◌, Bool, true, false, IsTrue, List, [], ◌∷◌, ◌++◌, length, reverse, Option}
use Rattle.std.specs.Prelude.{Some, None, Result, Ok, Err, cond, codes}
use Rattle.std.specs.Str.{bytes_eq}
use Rattle.and_model.specs.Lines.{Bytes}
use Rattle.and_syntax.specs.Written.{Written}
use Rattle.and_language.specs.Words
use Rattle.and_language.specs.Words.{Word}
use Rattle.and_language.specs.Refusals
use Rattle.and_language.specs.Refusals.{limit_of}
use Rattle.and_language.specs.Grammar
use Rattle.and_language.specs.Grammar.{binary}
use Rattle.and_automaton.specs.Machine
use Rattle.and_automaton.specs.Machine.{Half, Outermost, State, over, is_over, depth}
use Rattle.and_drafts.specs.Drafts.{draft_of}
use Rattle.and_translation.specs.Bodies.{is_arrow}
use Rattle.and_clauses.specs.Views.{is_asking}
use Rattle.and_judging.specs.Faults.{what_of}
use Rattle.and_drafts.specs.declared.draft.ClauseDraft.{ClauseDraft}
use Rattle.and_judging.specs.declared.data.What.TheVariants as whats
use Rattle.and_reader.specs.declared.state.Pending.{Pending}
use Rattle.and_reader.specs.declared.state.Next.{Next}
use Rattle.and_reader.specs.declared.state.Next.TheVariants as next
use Rattle.and_reader.specs.declared.parser.Parser.{Parser}
use Rattle.and_reader.specs.declared.refusal.Cause.{Cause}
use Rattle.and_reader.specs.declared.refusal.Cause.TheVariants as causes
use Rattle.and_reader.specs.declared.words.First.{First}
use Rattle.and_reader.specs.declared.words.First.TheVariants as firsts
use Rattle.and_reader.specs.Views.{sort_of}
use Rattle.and_reader.specs.Standing.{terms, part_of, name_in, IsPending, AreFrames, with_left, with_lefts, waiting}
use Rattle.and_reader.specs.Standing.{Stands, IsState}
use Rattle.and_model.specs.declared.limits.TheConstants.{MAX_ARGUMENTS, MAX_NESTING}

-- terms (the latest first) and then w, joined by a name from the right
abbrev pub paired : Bytes → List Written → Written → Written
paired c [] w = w
paired c (a ∷ ws) w = paired c ws (binary c a w)

-- the latest finished terms are an operand and, where an operator of that name is pending, its left operand
abbrev pub HasInfix : ClauseDraft → Option Bytes → Type 0
HasInfix d c = (o : Option Half) × (w : Written) × (rest : List Written) × (c ≡ name_in o)
    × (terms d ≡ w ∷ with_left o rest)

-- the latest finished terms are one, those before so many commas, and those before so many semicolons
abbrev pub HasAlternatives : ClauseDraft → ℕ → ℕ → Type 0
HasAlternatives d n m = (w : Written) × (b es rest : List Written) × (terms d ≡ w ∷ (b ++ (es ++ rest)))
    × (length b ≡ m) × (length es ≡ n)

-- the latest finished terms are an operand and the left operands of what is pending
abbrev pub HasOperand : ClauseDraft → Pending → Type 0
HasOperand d P = (p : Machine.Pending) × (w : Written) × (rest : List Written) × IsPending P p
    × (terms d ≡ w ∷ with_lefts p rest)

-- The parser has these brackets open; its latest finished term is a, and nothing is pending with it.
pub record Finished (P : Parser) (l : Outermost) (fs : List Machine.Frame) (a : Written) : Type 0 where
  pub part : P.part ≡ part_of l.part
  pub alternatives : P.alternatives ≡ length l.alternatives
  pub before : P.before ≡ length l.before
  pub frames : AreFrames (reverse P.frames.items) fs
  pub opened : P.depth ≡ depth fs
  pub nesting : depth fs ≤ MAX_NESTING
  pub finished : terms P.draft ≡ a ∷ waiting l fs

-- an operand is wanted; an operand is there; and all that was pending with it is finished
abbrev pub IsBefore : Parser → Type 0
IsBefore P = (l : Outermost) × (fs : List Machine.Frame) × (p : Machine.Pending) × Stands P l fs p []

abbrev pub IsBehind : Parser → Type 0
IsBehind P = (l : Outermost) × (fs : List Machine.Frame) × (p : Machine.Pending) × (w : Written)
    × Stands P l fs p (w ∷ [])

abbrev pub IsFinished : Parser → Type 0
IsFinished P = (l : Outermost) × (fs : List Machine.Frame) × (a : Written) × Finished P l fs a

-- What no limit is asked of leads to s, and b tells whether the word is over one; the cause is that of the word.
abbrev pub IsCaused : Option State → Bool → Word → Cause → Type 0
IsCaused s b x causes.Syntax = s ≡ None
IsCaused s b x causes.NotText = ⊥
IsCaused s b x causes.TooWide = (t : State) × (s ≡ Some t) × (b ≡ true) × (Refusals.too_wide ≡ limit_of x)
IsCaused s b x (causes.TooBig what) = (t : State) × (s ≡ Some t) × (b ≡ true)
    × (Refusals.too_big (what_of what) ≡ limit_of x)
IsCaused s b x causes.NotPure = ⊥
IsCaused s b x (causes.Redefines c n) = ⊥
IsCaused s b x (causes.Unknown c n) = ⊥
IsCaused s b x causes.NoQuery = ⊥
IsCaused s b x causes.SecondQuery = ⊥
IsCaused s b x causes.Memory = Unit {0}

-- The word leads to s where no limit is asked, and b tells whether it is over one; it is answered so.
abbrev pub Answered : Option State → Bool → Word → Result Next Cause → Parser → Type 0
Answered s b x (Ok next.Inside) P = (t : State) × (s ≡ Some t) × (b ≡ false) × (is_over t ≡ false) × IsState P t
Answered s b x (Ok (next.Over sort)) P =
    (w : Written) × (s ≡ Some (over (sort_of sort) w)) × (b ≡ false) × ((draft_of P.draft).finished ≡ w ∷ [])
    × (sort_of sort ≡ Grammar.Sort.query → IsTrue (is_asking w))
    × (sort_of sort ≡ Grammar.Sort.grammar_rule → IsTrue (is_arrow w))
Answered s b x (Err c) P = IsCaused s b x c

-- why no comma stands in a bracket, where n arguments or elements are before it
abbrev pub IsCommaFault : Machine.Bracket → ℕ → Cause → Type 0
IsCommaFault b n causes.Syntax = b ≡ Machine.tail
IsCommaFault b n (causes.TooBig whats.Arguments) = (c : Bytes) × (b ≡ Machine.arguments c) × (MAX_ARGUMENTS ≤ n)
IsCommaFault b n c = ⊥

-- a comma may stand in the bracket
abbrev pub TakesComma : Machine.Bracket → Type 0
TakesComma (Machine.plain es) = Unit {0}
TakesComma (Machine.braces es) = Unit {0}
TakesComma (Machine.arguments c) = Unit {0}
TakesComma Machine.elements = Unit {0}
TakesComma Machine.tail = ⊥

-- a bar may stand in the bracket
abbrev pub takes_bar : Machine.Bracket → Bool
takes_bar (Machine.plain es) = false
takes_bar (Machine.braces es) = false
takes_bar (Machine.arguments c) = false
takes_bar Machine.elements = true
takes_bar Machine.tail = false

-- a semicolon may stand in the bracket
abbrev pub takes_semicolon : Machine.Bracket → Bool
takes_semicolon (Machine.plain es) = true
takes_semicolon (Machine.braces es) = true
takes_semicolon (Machine.arguments c) = false
takes_semicolon Machine.elements = false
takes_semicolon Machine.tail = false

-- what the first word of a clause begins
abbrev pub first_of : Word → First
first_of (Words.name c) =
    cond (bytes_eq c (codes "?-")) firsts.Query (cond (bytes_eq c (codes ":-")) firsts.Directive firsts.Other)
first_of x = firsts.Other

-- the word is a bracket right behind the word before it
abbrev pub is_functor_bracket : Word → Bool
is_functor_bracket (Words.open_bracket behind) = behind
is_functor_bracket x = false
