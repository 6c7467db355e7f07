-- What is told of results.
use Rattle.std.proofs.Common.{◌≡◌, ℕ, Option, Some, None, Result, Ok, Err, sym, ap, subst}
use Rattle.std.specs.Option.{IfSome, option_map}
use Rattle.std.specs.Result.{IfErr}
use Rattle.and_model.specs.Lines.{Bytes}
use Rattle.and_syntax.specs.Tables.{Table, Fault}
use Rattle.and_language.specs.Words.{Word}
use Rattle.and_language.specs.Tokens.{line_at}
use Rattle.and_language.specs.Grammar.{Statement}
use Rattle.and_language.specs.Refusals
use Rattle.and_language.specs.Refusals.{Refusal, cause_of, statement_fault}
use Rattle.and_automaton.specs.Machine.{State}
use Rattle.and_reader.specs.declared.refusal.ReadRefusal.{ReadRefusal}
use Rattle.and_reader.specs.declared.state.Next.{Next}
use Rattle.and_reader.specs.declared.parser.Parser.{Parser}
use Rattle.and_reader.specs.Causes.{refusal_with, refusal_of}
use Rattle.and_reader.specs.Standing.{Answers}
use Rattle.and_reader.specs.Reading.{IsFaultOf}

pub some_told : {A : Type 0} (P Q : A → Type 0) (o : Option A) → ((a : A) → P a → Q a) → IfSome o P → IfSome o Q
some_told P Q None f h = tt
some_told P Q (Some a) f h = f a h

pub refusal_told : {A : Type 0} (P Q : Refusal → Type 0) (r : Result A ReadRefusal) → ((a : Refusal) → P a → Q a) → IfErr r (λ e. IfSome (refusal_of e) P)
    → IfErr r (λ e. IfSome (refusal_of e) Q)
refusal_told P Q (Ok a) f h = tt
refusal_told P Q (Err e) f h = some_told P Q (refusal_of e) f h

-- the refusal of a table's fault
pub fault_told : (bytes : Bytes) (T : Table) (s : Statement) (line : ℕ) (k : Option Refusals.Cause) (o : Option Fault) → k ≡ option_map cause_of o
    → IfSome o (λ f. statement_fault T s ≡ Some f) → line ≡ line_at bytes s.place → IfSome (refusal_with line k) (IsFaultOf bytes T s)
fault_told bytes T s line k o e h l =
    let P : Option Refusals.Cause → Type 0 = λ j. IfSome (refusal_with line j) (IsFaultOf bytes T s) in
    subst P (sym e) (by o h)
  where
    by : (o : Option Fault) → IfSome o (λ f. statement_fault T s ≡ Some f) → IfSome (refusal_with line (option_map cause_of o)) (IsFaultOf bytes T s)
    by None h = tt
    by (Some f) h = (f, h, ap (λ n. let r : Refusal = record { cause = cause_of f; line = n } in r) l)

-- the answer that is that of the arm
pub answer_told : (s : State) (x : Word) (P : Parser) (n m : Next) → n ≡ m → Answers s x (Ok n) P → Answers s x (Ok m) P
answer_told s x P n m e h = let Q : Next → Type 0 = λ k. Answers s x (Ok k) P in subst Q e h
