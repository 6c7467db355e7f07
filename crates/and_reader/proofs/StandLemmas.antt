-- Brackets, parts and modes of a parser beside those of the machine.
use Rattle.std.proofs.Common.{suc, IsTrue, ◌≡◌, ◌<◌, true, false, List, [], ◌∷◌, ◌++◌, length, refl, sym, ap, ◌∙◌, arith, subst, Option, Some, None}
use Rattle.std.specs.Prelude.{reverse, nat_lt}
use Rattle.std.proofs.lemmas.Bool.{ltb-true, ltb-false}
use Rattle.std.specs.Option.{option_copied, is_some, MatchOption}
use denote.Ref.{Bor}
use Rattle.std.proofs.lemmas.List.{reverse-append, reverse-reverse, length-reverse, append-nil, length-append}
use Rattle.and_model.specs.Lines.{Bytes}
use Rattle.and_syntax.specs.Written.{Written}
use Rattle.and_automaton.specs.Machine
use Rattle.and_automaton.specs.Machine.{Half}
use Rattle.and_reader.specs.declared.state.Frame.{Frame}
use Rattle.and_reader.specs.declared.state.ClausePart.TheVariants.{Head, Body, Query}
use Rattle.and_automaton.specs.Machine.{at1100}
use Rattle.and_language.specs.Grammar
use Rattle.and_translation.specs.Bodies.{is_arrow}
use Rattle.and_reader.specs.declared.state.Neck.{Neck}
use Rattle.and_reader.specs.declared.state.Neck.TheVariants.{Turnstile, Arrow}
use Rattle.and_reader.specs.Views.{neck_of}
use Rattle.and_reader.specs.declared.parser.Parser.{Parser}
use Rattle.and_reader.specs.Answered.{Finished, HasAlternatives}
use Rattle.and_reader.specs.Standing.{terms, alternatives_in, head_in, part_of, name_in, AreFrames, with_lefts, waiting}

-- the innermost frame taken off, and put on
pub popped : (old new : List Frame) (F : Frame) (fs : List Machine.Frame) → old ≡ new ++ F ∷ [] → AreFrames (reverse old) fs → AreFrames (F ∷ reverse new) fs
popped old new F fs e a = subst (λ (Fs : List Frame). AreFrames Fs fs) (ap reverse e ∙ reverse-append new (F ∷ [])) a

pub popped_none : (old new : List Frame) (fs : List Machine.Frame) → old ≡ new ++ [] → AreFrames (reverse old) fs → AreFrames (reverse new) fs
popped_none old new fs e a = subst (λ (Fs : List Frame). AreFrames (reverse Fs) fs) (e ∙ append-nil new) a

-- there are as many
length_frames : (Fs : List Frame) (fs : List Machine.Frame) → AreFrames Fs fs → length Fs ≡ length fs
length_frames [] [] a = refl
length_frames [] (f ∷ fs) a = absurd a
length_frames (F ∷ Fs) [] a = absurd a
length_frames (F ∷ Fs) (f ∷ fs) a = ap suc (length_frames Fs fs a.1)

pub count_frames : (Fs : List Frame) (fs : List Machine.Frame) → AreFrames (reverse Fs) fs → length Fs ≡ length fs
count_frames Fs fs a = sym (length-reverse Fs) ∙ length_frames (reverse Fs) fs a

-- the parts
pub is_head : (a : Machine.ClausePart) → Head ≡ part_of a → a ≡ Machine.head
is_head Machine.head e = refl
is_head (Machine.body n h) e = absurd cc
is_head Machine.query e = absurd cc

pub is_body : (a : Machine.ClausePart) (k : Neck) → Body k ≡ part_of a → (h : Written) × (a ≡ Machine.body (neck_of k) h)
is_body Machine.head k e = absurd cc
is_body (Machine.body Grammar.turnstile h) Turnstile e = (h, refl)
is_body (Machine.body Grammar.turnstile h) Arrow e = absurd cc
is_body (Machine.body Grammar.arrow h) Turnstile e = absurd cc
is_body (Machine.body Grammar.arrow h) Arrow e = (h, refl)
is_body Machine.query k e = absurd cc

pub body_kept : (k : Neck) (h : Written) → Body k ≡ part_of (Machine.body (neck_of k) h)
body_kept Turnstile h = refl
body_kept Arrow h = refl

pub is_query : (a : Machine.ClausePart) → Query ≡ part_of a → a ≡ Machine.query
is_query Machine.head e = absurd cc
is_query (Machine.body n h) e = absurd cc
is_query Machine.query e = refl

pub no_query_behind : (n : Grammar.Neck) → Grammar.sort_of n ≡ Grammar.Sort.query → ⊥
no_query_behind Grammar.turnstile e = cc e
no_query_behind Grammar.arrow e = cc e

pub rule_behind : (n : Grammar.Neck) (a b : Written) → Grammar.sort_of n ≡ Grammar.Sort.grammar_rule
    → IsTrue (is_arrow (Grammar.binary (Grammar.symbol_of n) a b))
rule_behind Grammar.turnstile a b e = absurd (cc e)
rule_behind Grammar.arrow a b e = refl

-- one finished term
pub whole : (f : List Written) (w : Written) → reverse f ≡ w ∷ [] → f ≡ w ∷ []
whole f w e = sym (reverse-reverse f) ∙ ap reverse e

-- a relation that is pending
pub named_none : (o : Option Half) → None ≡ name_in o → o ≡ None
named_none None e = refl
named_none (Some h) e = absurd cc

pub named_some : (o : Option Half) (c : Bytes) → Some c ≡ name_in o → (h : Half) × (o ≡ Some h)
named_some None c e = absurd cc
named_some (Some h) c e = (h, refl)

pub none_is : {T : Type 0} (o : Option (Bor T)) → is_some o ≡ false → None ≡ option_copied o
none_is None e = refl
none_is (Some x) e = absurd cc

-- some terms stand before the last comma of a bracket
pub few_before : (ts : List Written) (a : Written) (l : Machine.Outermost) (F : Frame) (Fs : List Frame) (fs : List Machine.Frame) → AreFrames (F ∷ Fs) fs
    → ts ≡ a ∷ waiting l fs → F.before < length ts
few_before ts a l F Fs [] h e = absurd h
few_before ts a l F Fs (f ∷ fs) h e = let n =
    h.0.before in omega (arith, ap length e, length-append f.before (alternatives_in f.bracket ++ with_lefts f.outside (waiting l fs)))

-- what is told of an option that is no `Some`
pub none_taken : {T A : Type 0} (o : Option T) (B : T → Type 0) → ((x : T) → o ≡ Some x → ⊥) → MatchOption o A B → A
none_taken None B f h = h
none_taken (Some x) B f h = absurd (f x refl)

-- what stands in the innermost bracket
pub bracket_there : (P : Parser) (new : List Frame) (F : Frame) (l : Machine.Outermost) (fs : List Machine.Frame) (a : Written)
    → P.frames.items ≡ new ++ F ∷ [] → Finished P l fs a
    → HasAlternatives P.draft F.alternatives F.before
bracket_there P new F l [] a e s = absurd (popped P.frames.items new F [] e s.frames)
bracket_there P new F l (f ∷ fs) a e s =
    let q = popped P.frames.items new F (f ∷ fs) e s.frames in
    (a, f.before, alternatives_in f.bracket, with_lefts f.outside (waiting l fs), s.finished, sym q.0.before, sym q.0.alternatives)

-- no brackets
pub none_open : (Fs : List Frame) → length Fs ≡ 0 → AreFrames (reverse Fs) []
none_open [] e = tt
none_open (F ∷ Fs) e = absurd (omega arith)

-- what a test of the frames tells
pub some_frames : (Fs : List Frame) (fs : List Machine.Frame) → true ≡ nat_lt 0 (length Fs) → AreFrames (reverse Fs) fs → fs ≡ [] → ⊥
some_frames Fs fs e h n = let z = ap length n in omega (arith, count_frames Fs fs h, ltb-true 0 (length Fs) (sym e))

pub no_frames : (Fs : List Frame) (fs : List Machine.Frame) → false ≡ nat_lt 0 (length Fs) → AreFrames (reverse Fs) fs → length fs ≡ 0
no_frames Fs fs e h = omega (arith, count_frames Fs fs h, ltb-false 0 (length Fs) (sym e))

-- what is outside of brackets, joined
pub ended : (P : Parser) (ts : List Written) (l : Machine.Outermost) (fs : List Machine.Frame) (a : Written) → Finished P l fs a → length fs ≡ 0
    → ((w : Written) (b es rest : List Written) → terms P.draft ≡ w ∷ (b ++ (es ++ rest)) → length b ≡ P.before → length es ≡ P.alternatives
    → ts ≡ at1100 es b w ∷ rest)
    → ts ≡ at1100 l.alternatives l.before a ∷ head_in l.part
ended P ts l (f ∷ fs) a s n h = absurd (omega arith)
ended P ts l [] a s n h = h a l.before l.alternatives (head_in l.part) s.finished (sym s.before) (sym s.alternatives)

pub at_outermost : (P : Parser) (l : Machine.Outermost) (fs : List Machine.Frame) (a : Written) → Finished P l fs a → length fs ≡ 0 → Finished P l [] a
at_outermost P l (f ∷ fs) a s n = absurd (omega arith)
at_outermost P l [] a s n = s

pub alternatives_there : (P : Parser) (l : Machine.Outermost) (fs : List Machine.Frame) (a : Written) → Finished P l fs a → length fs ≡ 0
    → HasAlternatives P.draft P.alternatives P.before
alternatives_there P l (f ∷ fs) a s n = absurd (omega arith)
alternatives_there P l [] a s n = (a, l.before, l.alternatives, head_in l.part, s.finished, sym s.before, sym s.alternatives)
