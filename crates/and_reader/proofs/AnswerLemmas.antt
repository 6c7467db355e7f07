-- What the machine makes of a word.
use Rattle.std.proofs.Common.{ℕ, suc, sym, subst, arith, ◌+◌, ◌≡◌, Bool, true, false, cond, leb, List, [], ◌∷◌, length, refl, ap, ◌∙◌, Option, Some, None}
use Rattle.std.proofs.Common.{Result, Ok, Err}
use Rattle.std.specs.Prelude.{codes, ◌&&◌}
use Rattle.std.specs.Str.{bytes_eq}
use Rattle.std.proofs.lemmas.Bool.{lt-leb, le-leb}
use Rattle.and_model.specs.Lines.{Bytes}
use Rattle.and_syntax.specs.Written.{Written}
use Rattle.and_syntax.specs.Tables
use Rattle.and_language.specs.Words
use Rattle.and_language.specs.Words.{is_one_of, products, sums}
use Rattle.and_language.specs.Refusals
use Rattle.and_language.specs.Refusals.{limit_of}
use Rattle.and_language.specs.Grammar.{nil}
use Rattle.and_automaton.specs.Machine
use Rattle.and_automaton.specs.Machine.{Outermost, State, start, inside, opened_list, operand, wanted, in_part, nothing_pending, begins_query, closes_list}
use Rattle.and_automaton.specs.Machine.{go, exceeds, step, take_operand, take_operator, operator_exceeds, comma_exceeds, depth, role}
use Rattle.and_judging.specs.declared.data.What.TheVariants as whats
use Rattle.and_reader.specs.declared.state.Bracket.{Bracket}
use Rattle.and_reader.specs.declared.state.Bracket.TheVariants as brackets
use Rattle.and_reader.specs.declared.state.Next.{Next}
use Rattle.and_reader.specs.declared.state.Next.TheVariants as next
use Rattle.and_reader.specs.declared.parser.Parser.{Parser}
use Rattle.and_reader.specs.declared.refusal.Cause.{Cause}
use Rattle.and_reader.specs.declared.refusal.Cause.TheVariants as causes
use Rattle.and_reader.specs.declared.words.First.TheVariants as firsts
use Rattle.and_reader.specs.Views.{sort_of}
use Rattle.and_reader.specs.Standing.{IsDirective, Answers, IsNarrow, bracket_of, alternatives_in}
use Rattle.and_reader.specs.Answered.{Answered, IsCaused, IsCommaFault, TakesComma, takes_bar, takes_semicolon, first_of, is_functor_bracket}
use Rattle.and_model.specs.declared.limits.TheConstants.{MAX_ARGUMENTS, MAX_NESTING}

kept : (s : State) (x : Words.Word) (r : Option State) → exceeds s x ≡ false → go s x ≡ r → step true s x ≡ r
kept s x r within e = ap (λ (b : Bool). cond (true && b) None (go s x)) within ∙ e

-- an answer piece by piece is one of the whole machine
pub answers : (s : State) (x : Words.Word) (r : Result Next Cause) (P : Parser) → (IsDirective s x → ⊥)
    → Answered (go s x) (exceeds s x) x r P → Answers s x r P
answers s x (Ok next.Inside) P d h = (h.0, kept s x (Some h.0) h.2 h.1, h.3, h.4)
answers s x (Ok (next.Over sort)) P d h = (h.0, kept s x (Some (Machine.over (sort_of sort) h.0)) h.2 h.1, h.3, h.4, h.5)
answers s x (Err causes.Syntax) P d h = (d, h)
answers s x (Err causes.NotText) P d h = h
answers s x (Err causes.TooWide) P d h = h
answers s x (Err (causes.TooBig what)) P d h = h
answers s x (Err causes.NotPure) P d h = absurd h
answers s x (Err (causes.Redefines c n)) P d h = h
answers s x (Err (causes.Unknown c n)) P d h = h
answers s x (Err causes.NoQuery) P d h = h
answers s x (Err causes.SecondQuery) P d h = h
answers s x (Err causes.Memory) P d h = tt

-- only the start is before a directive
pub inside_no_directive : (l : Outermost) (fs : List Machine.Frame) (p : Machine.Pending) (m : Machine.Mode) (x : Words.Word)
    → IsDirective (inside l fs p m) x → ⊥
inside_no_directive l fs p m x d = let e : inside l fs p m ≡ start = d.0 in cc

pub opened_no_directive : (l : Outermost) (fs : List Machine.Frame) (p : Machine.Pending) (x : Words.Word) → IsDirective (opened_list l fs p) x → ⊥
opened_no_directive l fs p x d = let e : opened_list l fs p ≡ start = d.0 in cc

-- a bracket right behind a name
pub functor_step : (l : Outermost) (fs : List Machine.Frame) (p : Machine.Pending) (w : Written) (c : Bytes) (x : Words.Word) → is_functor_bracket x ≡ true
    → take_operator l fs p w (Some c) x ≡ Some (inside l (record { bracket = Machine.arguments c; before = []; outside = p } ∷ fs) nothing_pending wanted)
functor_step l fs p w c (Words.open_bracket true) e = refl
functor_step l fs p w c (Words.open_bracket false) e = absurd cc
functor_step l fs p w c x e = absurd cc

pub functor_exceeds : (fs : List Machine.Frame) (p : Machine.Pending) (x : Words.Word) → is_functor_bracket x ≡ true
    → operator_exceeds fs p x ≡ leb MAX_NESTING (p.minuses + depth fs)
functor_exceeds fs p (Words.open_bracket b) e = refl
functor_exceeds fs p x e = absurd cc

pub functor_limit : (x : Words.Word) → is_functor_bracket x ≡ true → Refusals.too_big Tables.nesting ≡ limit_of x
functor_limit (Words.open_bracket b) e = refl
functor_limit x e = absurd cc

-- any other word
pub other_step : (l : Outermost) (fs : List Machine.Frame) (p : Machine.Pending) (w : Written) (c : Bytes) (x : Words.Word) → is_functor_bracket x ≡ false
    → take_operator l fs p w None x ≡ take_operator l fs p w (Some c) x
other_step l fs p w c (Words.open_bracket true) e = absurd cc
other_step l fs p w c (Words.open_bracket false) e = refl
other_step l fs p w c x e = refl

-- a list that closes at once
pub closing_step : (l : Outermost) (fs : List Machine.Frame) (p : Machine.Pending) (x : Words.Word) → closes_list x ≡ true
    → step true (opened_list l fs p) x ≡ Some (inside l fs p (operand nil None))
closing_step l fs p Words.close_list e = refl
closing_step l fs p x e = absurd cc

-- the first word of a clause
query_in : (b d : Bool) → firsts.Query ≡ cond b firsts.Query (cond d firsts.Directive firsts.Other) → b ≡ true
query_in true d e = refl
query_in false true e = absurd cc
query_in false false e = absurd cc

other_in : (b d : Bool) → firsts.Other ≡ cond b firsts.Query (cond d firsts.Directive firsts.Other) → b ≡ false
other_in true d e = absurd cc
other_in false d e = refl

pub query_step : (x : Words.Word) → firsts.Query ≡ first_of x → step true start x ≡ Some (in_part Machine.query)
query_step (Words.name c) e =
    ap (λ (b : Bool). cond b (Some (in_part Machine.query))
    (take_operand (record { part = Machine.head; alternatives = []; before = [] }) [] nothing_pending (Words.name c)))
    (query_in (bytes_eq c (codes "?-")) (bytes_eq c (codes ":-")) e)
query_step x e = absurd cc

pub other_first : (x : Words.Word) → firsts.Other ≡ first_of x → begins_query x ≡ false
other_first (Words.name c) e = other_in (bytes_eq c (codes "?-")) (bytes_eq c (codes ":-")) e
other_first x e = refl

pub other_no_directive : (x : Words.Word) → firsts.Other ≡ first_of x → IsDirective start x → ⊥
other_no_directive x e d = let f : firsts.Other ≡ firsts.Directive = e ∙ ap first_of d.1 in cc

-- a comma or a bar in a bracket
pub comma_step : (l : Outermost) (fs : List Machine.Frame) (b : Machine.Bracket) (before : List Written) (outside : Machine.Pending) (a : Written)
    → TakesComma b
    → Machine.take_comma l (record { bracket = b; before = before; outside = outside } ∷ fs) a
    ≡ Some (inside l (record { bracket = b; before = a ∷ before; outside = outside } ∷ fs) nothing_pending wanted)
comma_step l fs (Machine.plain es) before outside a h = refl
comma_step l fs (Machine.braces es) before outside a h = refl
comma_step l fs (Machine.arguments c) before outside a h = refl
comma_step l fs Machine.elements before outside a h = refl
comma_step l fs Machine.tail before outside a h = absurd h

pub comma_within : (fs : List Machine.Frame) (b : Machine.Bracket) (before : List Written) (outside : Machine.Pending) → IsNarrow b (suc (length before))
    → comma_exceeds (record { bracket = b; before = before; outside = outside } ∷ fs) ≡ false
comma_within fs (Machine.plain es) before outside h = refl
comma_within fs (Machine.braces es) before outside h = refl
comma_within fs (Machine.arguments c) before outside h = lt-leb MAX_ARGUMENTS (suc (length before)) h
comma_within fs Machine.elements before outside h = refl
comma_within fs Machine.tail before outside h = refl

-- a comma that may not stand there
pub comma_refused : (l : Outermost) (fs : List Machine.Frame) (b : Machine.Bracket) (before : List Written) (outside : Machine.Pending) (a : Written) (n : ℕ)
    (c : Cause) → n ≡ suc (length before) → IsCommaFault b n c
    → IsCaused (Machine.take_comma l (record { bracket = b; before = before; outside = outside } ∷ fs) a)
    (comma_exceeds (record { bracket = b; before = before; outside = outside } ∷ fs)) Words.comma c
comma_refused l fs b before outside a n causes.Syntax e h =
    let P : Machine.Bracket → Type 0 = λ k. Machine.take_comma l (record { bracket = k; before = before; outside = outside } ∷ fs) a ≡ None in
    subst P (sym h) refl
comma_refused l fs b before outside a n causes.NotText e h = absurd h
comma_refused l fs b before outside a n causes.TooWide e h = absurd h
comma_refused l fs b before outside a n (causes.TooBig whats.Source) e h = absurd h
comma_refused l fs b before outside a n (causes.TooBig whats.Clauses) e h = absurd h
comma_refused l fs b before outside a n (causes.TooBig whats.Arguments) e h =
    let d = h.0 in
    let P : Machine.Bracket → Type 0 = λ k. IsCaused (Machine.take_comma l (record { bracket = k; before = before; outside = outside } ∷ fs) a)
    (comma_exceeds (record { bracket = k; before = before; outside = outside } ∷ fs)) Words.comma (causes.TooBig whats.Arguments) in
    subst P (sym h.1) (
      inside l (record { bracket = Machine.arguments d; before = a ∷ before; outside = outside } ∷ fs) nothing_pending wanted,
      refl,
      le-leb MAX_ARGUMENTS (suc (length before)) (let more = h.2 in omega arith),
      refl,
    )
comma_refused l fs b before outside a n (causes.TooBig whats.Variables) e h = absurd h
comma_refused l fs b before outside a n (causes.TooBig whats.Nodes) e h = absurd h
comma_refused l fs b before outside a n (causes.TooBig whats.Nesting) e h = absurd h
comma_refused l fs b before outside a n causes.NotPure e h = absurd h
comma_refused l fs b before outside a n (causes.Redefines c m) e h = absurd h
comma_refused l fs b before outside a n (causes.Unknown c m) e h = absurd h
comma_refused l fs b before outside a n causes.NoQuery e h = absurd h
comma_refused l fs b before outside a n causes.SecondQuery e h = absurd h
comma_refused l fs b before outside a n causes.Memory e h = absurd h

-- a semicolon in a bracket
abbrev pub with_alternative : Machine.Bracket → Written → Machine.Bracket
with_alternative (Machine.plain es) v = Machine.plain (v ∷ es)
with_alternative (Machine.braces es) v = Machine.braces (v ∷ es)
with_alternative (Machine.arguments c) v = Machine.arguments c
with_alternative Machine.elements v = Machine.elements
with_alternative Machine.tail v = Machine.tail

pub semicolon_step : (l : Outermost) (fs : List Machine.Frame) (b : Machine.Bracket) (before : List Written) (outside : Machine.Pending) (a : Written)
    → takes_semicolon b ≡ true
    → Machine.take_semicolon l (record { bracket = b; before = before; outside = outside } ∷ fs) a
    ≡ Some (inside l (record { bracket = with_alternative b (Machine.conjunction before a); before = []; outside = outside } ∷ fs) nothing_pending wanted)
semicolon_step l fs (Machine.plain es) before outside a e = refl
semicolon_step l fs (Machine.braces es) before outside a e = refl
semicolon_step l fs (Machine.arguments c) before outside a e = absurd cc
semicolon_step l fs Machine.elements before outside a e = absurd cc
semicolon_step l fs Machine.tail before outside a e = absurd cc

pub alternatives_with : (b : Machine.Bracket) (v : Written) → takes_semicolon b ≡ true → alternatives_in (with_alternative b v) ≡ v ∷ alternatives_in b
alternatives_with (Machine.plain es) v e = refl
alternatives_with (Machine.braces es) v e = refl
alternatives_with (Machine.arguments c) v e = absurd cc
alternatives_with Machine.elements v e = absurd cc
alternatives_with Machine.tail v e = absurd cc

pub bracket_with : (B : Bracket) (b : Machine.Bracket) (v : Written) → bracket_of B (alternatives_in b) ≡ b → takes_semicolon b ≡ true
    → bracket_of B (alternatives_in (with_alternative b v)) ≡ with_alternative b v
bracket_with brackets.Plain (Machine.plain es) v e t = refl
bracket_with brackets.Braces (Machine.plain es) v e t = absurd cc
bracket_with (brackets.Arguments n) (Machine.plain es) v e t = absurd cc
bracket_with brackets.Elements (Machine.plain es) v e t = absurd cc
bracket_with brackets.Tail (Machine.plain es) v e t = absurd cc
bracket_with brackets.Plain (Machine.braces es) v e t = absurd cc
bracket_with brackets.Braces (Machine.braces es) v e t = refl
bracket_with (brackets.Arguments n) (Machine.braces es) v e t = absurd cc
bracket_with brackets.Elements (Machine.braces es) v e t = absurd cc
bracket_with brackets.Tail (Machine.braces es) v e t = absurd cc
bracket_with B (Machine.arguments c) v e t = absurd cc
bracket_with B Machine.elements v e t = absurd cc
bracket_with B Machine.tail v e t = absurd cc

pub narrow_with : (b : Machine.Bracket) (v : Written) → takes_semicolon b ≡ true → IsNarrow (with_alternative b v) 0
narrow_with (Machine.plain es) v e = tt
narrow_with (Machine.braces es) v e = tt
narrow_with (Machine.arguments c) v e = absurd cc
narrow_with Machine.elements v e = absurd cc
narrow_with Machine.tail v e = absurd cc

pub bar_bracket : (b : Machine.Bracket) → takes_bar b ≡ true → b ≡ Machine.elements
bar_bracket (Machine.plain es) e = absurd cc
bar_bracket (Machine.braces es) e = absurd cc
bar_bracket (Machine.arguments c) e = absurd cc
bar_bracket Machine.elements e = refl
bar_bracket Machine.tail e = absurd cc
