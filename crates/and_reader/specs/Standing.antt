-- What state of the machine a parser stands for.
use Rattle.std.specs.Prelude.{ℕ, ◌+◌, ◌<◌, ◌≤◌, ◌≡◌, true, false, IsTrue, List, [], ◌∷◌, ◌++◌, length, reverse}
use Rattle.std.specs.Prelude.{Option, Some, None, Result, Ok, Err, codes}
use Rattle.std.specs.Option.{option_copied}
use Rattle.and_model.specs.Lines.{Bytes}
use Rattle.and_syntax.specs.Written
use Rattle.and_syntax.specs.Written.{Written}
use Rattle.and_language.specs.Words
use Rattle.and_language.specs.Grammar
use Rattle.and_language.specs.Refusals
use Rattle.and_language.specs.Refusals.{limit_of}
use Rattle.and_automaton.specs.Machine
use Rattle.and_automaton.specs.Machine.{Half, Outermost, State, start, over, is_over, depth, go, exceeds, step}
use Rattle.and_drafts.specs.Drafts.{draft_of}
use Rattle.and_translation.specs.Bodies.{is_arrow}
use Rattle.and_clauses.specs.Views.{is_asking}
use Rattle.and_judging.specs.Faults.{what_of}
use Rattle.and_drafts.specs.declared.draft.ClauseDraft.{ClauseDraft}
use Rattle.and_reader.specs.declared.state.Pending.{Pending}
use Rattle.and_reader.specs.declared.state.Bracket.{Bracket}
use Rattle.and_reader.specs.declared.state.Bracket.TheVariants.{Plain, Braces, Arguments, Elements, Tail}
use Rattle.and_reader.specs.declared.state.Frame.{Frame}
use Rattle.and_reader.specs.declared.state.ClausePart.{ClausePart}
use Rattle.and_reader.specs.declared.state.ClausePart.TheVariants.{Head, Body, Query}
use Rattle.and_reader.specs.declared.state.Mode.TheVariants.{Start, Wanted, Numeral, OpenedList, Operand, Atom}
use Rattle.and_reader.specs.declared.state.Next.{Next}
use Rattle.and_reader.specs.declared.state.Next.TheVariants as next
use Rattle.and_reader.specs.declared.parser.Parser.{Parser}
use Rattle.and_reader.specs.declared.words.Name.{Name}
use Rattle.and_reader.specs.declared.refusal.Cause.{Cause}
use Rattle.and_reader.specs.declared.refusal.Cause.TheVariants as causes
use Rattle.and_reader.specs.Views.{name_of, neck_in, sort_of}
use Rattle.and_model.specs.declared.limits.TheConstants.{MAX_ARGUMENTS, MAX_NESTING}

-- the finished terms of a draft, the latest first
abbrev pub terms : ClauseDraft → List Written
terms d = reverse (draft_of d).finished

-- the bracket of the machine that an open bracket with those alternatives stands for
abbrev pub bracket_of : Bracket → List Written → Machine.Bracket
bracket_of Plain es = Machine.plain es
bracket_of Braces es = Machine.braces es
bracket_of (Arguments n) es = Machine.arguments (name_of n)
bracket_of Elements es = Machine.elements
bracket_of Tail es = Machine.tail

-- the alternatives before the last semicolon in a bracket
abbrev pub alternatives_in : Machine.Bracket → List Written
alternatives_in (Machine.plain es) = es
alternatives_in (Machine.braces es) = es
alternatives_in (Machine.arguments c) = []
alternatives_in Machine.elements = []
alternatives_in Machine.tail = []

-- the parser's part of a clause, which does not keep the head
abbrev pub part_of : Machine.ClausePart → ClausePart
part_of Machine.head = Head
part_of (Machine.body n h) = Body (neck_in n)
part_of Machine.query = Query

-- the name of an operator that is pending, if there is one
abbrev pub name_in : Option Half → Option Bytes
name_in None = None
name_in (Some h) = Some h.operator

-- The parser's pending operators are the machine's. (Their left operands are among the draft's finished terms.)
pub record IsPending (P : Pending) (p : Machine.Pending) : Type 0 where
  pub relation : option_copied P.relation ≡ name_in p.relation
  pub sum : option_copied P.sum ≡ name_in p.sum
  pub product : option_copied P.product ≡ name_in p.product
  pub minuses : P.minuses ≡ p.minuses

-- A name has fewer than 255 arguments before the last comma.
abbrev pub IsNarrow : Machine.Bracket → ℕ → Type 0
IsNarrow (Machine.plain es) n = Unit {0}
IsNarrow (Machine.braces es) n = Unit {0}
IsNarrow (Machine.arguments c) n = n < MAX_ARGUMENTS
IsNarrow Machine.elements n = Unit {0}
IsNarrow Machine.tail n = Unit {0}

-- an open bracket is one of the machine's frames
pub record IsFrame (F : Frame) (f : Machine.Frame) : Type 0 where
  pub bracket : bracket_of F.bracket (alternatives_in f.bracket) ≡ f.bracket
  pub alternatives : F.alternatives ≡ length (alternatives_in f.bracket)
  pub before : F.before ≡ length f.before
  pub outside : IsPending F.outside f.outside
  pub narrow : IsNarrow f.bracket (length f.before)

-- open brackets are the machine's frames, one by one
abbrev pub AreFrames : List Frame → List Machine.Frame → Type 0
AreFrames [] [] = Unit {0}
AreFrames [] (f ∷ fs) = ⊥
AreFrames (F ∷ Fs) [] = ⊥
AreFrames (F ∷ Fs) (f ∷ fs) = IsFrame F f × AreFrames Fs fs

-- terms, with the left operand of a pending operator before them
abbrev pub with_left : Option Half → List Written → List Written
with_left None ws = ws
with_left (Some h) ws = h.left ∷ ws

-- with the left operands of all pending operators
abbrev pub with_lefts : Machine.Pending → List Written → List Written
with_lefts p ws = with_left p.product (with_left p.sum (with_left p.relation ws))

-- the head that stands before a body
abbrev pub head_in : Machine.ClausePart → List Written
head_in Machine.head = []
head_in (Machine.body n h) = h ∷ []
head_in Machine.query = []

-- the terms that wait outside of what is pending, the latest first
abbrev pub waiting : Outermost → List Machine.Frame → List Written
waiting l [] = l.before ++ (l.alternatives ++ head_in l.part)
waiting l (f ∷ fs) = f.before ++ (alternatives_in f.bracket ++ with_lefts f.outside (waiting l fs))

-- The parser has these brackets open and these operators pending; among its finished terms ws are the latest.
pub record Stands (P : Parser) (l : Outermost) (fs : List Machine.Frame) (p : Machine.Pending)
    (ws : List Written) : Type 0 where
  pub part : P.part ≡ part_of l.part
  pub alternatives : P.alternatives ≡ length l.alternatives
  pub before : P.before ≡ length l.before
  pub frames : AreFrames (reverse P.frames.items) fs
  pub pending : IsPending P.pending p
  pub opened : P.depth ≡ depth fs
  pub nesting : p.minuses + depth fs ≤ MAX_NESTING
  pub finished : terms P.draft ≡ ws ++ with_lefts p (waiting l fs)

-- the same, where nothing of the clause is read
abbrev pub StandsFirst : Parser → Type 0
StandsFirst P = Stands P (record { part = Machine.head; alternatives = []; before = [] }) [] Machine.nothing_pending []

-- The parser stands for the state. (It stands for none behind the end of a clause.)
abbrev pub IsState : Parser → State → Type 0
IsState P start = (P.mode ≡ Start) × StandsFirst P
IsState P (Machine.inside l fs p Machine.wanted) = (P.mode ≡ Wanted) × Stands P l fs p []
IsState P (Machine.inside l fs p Machine.numeral) = (P.mode ≡ Numeral) × Stands P l fs p []
IsState P (Machine.inside l fs p (Machine.operand w None)) = (P.mode ≡ Operand) × Stands P l fs p (w ∷ [])
IsState P (Machine.inside l fs p (Machine.operand w (Some c))) =
    (n : Name) × (P.mode ≡ Atom n) × (name_of n ≡ c) × (w ≡ Written.compound c Written.none) × Stands P l fs p []
IsState P (Machine.opened_list l fs p) = (P.mode ≡ OpenedList) × (p.minuses + depth fs < MAX_NESTING)
    × Stands P l fs p []
IsState P (over q t) = ⊥

-- an integer is at most 2 ^ 63, as that of a token is
abbrev pub IsFit : Words.Word → Type 0
IsFit (Words.integer z) = z ≤ 9223372036854775808
IsFit x = Unit {0}

-- the word is that of a directive
abbrev pub IsDirective : State → Words.Word → Type 0
IsDirective s x = (s ≡ start) × (x ≡ Words.name (codes ":-"))

-- in the state, the word is over a limit of that kind
abbrev pub IsOver : State → Words.Word → Refusals.Cause → Type 0
IsOver s x c = (t : State) × (go s x ≡ Some t) × (exceeds s x ≡ true) × (c ≡ limit_of x)

-- In the state, the word is refused for that cause. (Of want of memory nothing is said; no word is refused for
-- another cause than these.)
abbrev pub Refuses : State → Words.Word → Cause → Type 0
Refuses s x causes.Syntax = (IsDirective s x → ⊥) × (go s x ≡ None)
Refuses s x causes.NotText = ⊥
Refuses s x causes.TooWide = IsOver s x Refusals.too_wide
Refuses s x (causes.TooBig what) = IsOver s x (Refusals.too_big (what_of what))
Refuses s x causes.NotPure = IsDirective s x
Refuses s x (causes.Redefines c n) = ⊥
Refuses s x (causes.Unknown c n) = ⊥
Refuses s x causes.NoQuery = ⊥
Refuses s x causes.SecondQuery = ⊥
Refuses s x causes.Memory = Unit {0}

-- In the state, the word is answered so: the clause goes on, and the parser stands for the state behind the word; it
-- is over, of that sort, and the draft has its term; or the word is refused.
abbrev pub Answers : State → Words.Word → Result Next Cause → Parser → Type 0
Answers s x (Ok next.Inside) P = (t : State) × (step true s x ≡ Some t) × (is_over t ≡ false) × IsState P t
Answers s x (Ok (next.Over sort)) P = (w : Written) × (step true s x ≡ Some (over (sort_of sort) w))
    × ((draft_of P.draft).finished ≡ w ∷ []) × (sort_of sort ≡ Grammar.Sort.query → IsTrue (is_asking w))
    × (sort_of sort ≡ Grammar.Sort.grammar_rule → IsTrue (is_arrow w))
Answers s x (Err c) P = Refuses s x c
