-- What causes and refusals stand for.
use Rattle.std.specs.Prelude.{ℕ, ◌≡◌, length, Option, Some, None}
use Rattle.and_model.specs.Lines.{Bytes}
use Rattle.and_language.specs.Refusals
use Rattle.and_language.specs.Refusals.{at}
use Rattle.and_judging.specs.Faults.{what_of}
use Rattle.and_judging.specs.declared.data.SealFault.{SealFault}
use Rattle.and_judging.specs.declared.data.SealFault.TheVariants as seals
use Rattle.and_reader.specs.declared.refusal.Cause.{Cause}
use Rattle.and_reader.specs.declared.refusal.Cause.TheVariants.{Syntax, NotText, TooWide, TooBig, NotPure, Redefines}
use Rattle.and_reader.specs.declared.refusal.Cause.TheVariants.{Unknown, NoQuery, SecondQuery, Memory}
use Rattle.and_reader.specs.declared.refusal.ReadRefusal.{ReadRefusal}

-- why a text is refused, if not for want of memory
abbrev pub cause_of : Cause → Option Refusals.Cause
cause_of Syntax = Some Refusals.syntax
cause_of NotText = Some Refusals.not_text
cause_of TooWide = Some Refusals.too_wide
cause_of (TooBig what) = Some (Refusals.too_big (what_of what))
cause_of NotPure = Some Refusals.not_pure
cause_of (Redefines name arity) = Some (Refusals.redefines name arity)
cause_of (Unknown name arity) = Some (Refusals.unknown name arity)
cause_of NoQuery = Some Refusals.no_query
cause_of SecondQuery = Some Refusals.second_query
cause_of Memory = None

abbrev pub refusal_with : ℕ → Option Refusals.Cause → Option Refusals.Refusal
refusal_with line None = None
refusal_with line (Some cause) = Some (record { cause = cause; line = line })

abbrev pub refusal_of : ReadRefusal → Option Refusals.Refusal
refusal_of r = refusal_with r.line (cause_of r.cause)

-- what a table's want of a query, or an unknown call in it, is refused with
abbrev pub IsSealRefusal : Bytes → SealFault → Refusals.Refusal → Type 0
IsSealRefusal bytes seals.NoQuery r = r ≡ at bytes (length bytes) Refusals.no_query
IsSealRefusal bytes (seals.Unknown name arity line) r = r ≡ record { cause = Refusals.unknown name arity; line = line }
IsSealRefusal bytes seals.Memory r = ⊥
