-- What the calls answer that put a draft into a table.
use Rattle.std.specs.Prelude.{◌≡◌, suc, [], ◌∷◌, None, Some, Result}
use Rattle.std.specs.Result.{IfOk, OnOk, IfErr}
use Rattle.std.specs.Option.{IfSome}
use Rattle.and_model.specs.declared.numbers.ClauseNo.{ClauseNo}
use Rattle.and_syntax.specs.Written.{Written}
use Rattle.and_syntax.specs.Tables.{Table, clause_fault, query_fault, with_clause, with_query}
use Rattle.and_drafts.specs.Drafts.{Draft}
use Rattle.and_judging.specs.Faults.{fault_of}
use Rattle.and_judging.specs.declared.data.TableFault.{TableFault}

-- Where the draft's term is answered as a clause, it has no fault, the one table with it is the other, and the answer
-- is its number.
abbrev pub AddsClause : Table → Table → Draft → Result ClauseNo TableFault → Type 0
AddsClause T U d r = (w : Written) → d.finished ≡ w ∷ []
    → IfOk r (λ n. (clause_fault T w ≡ None) × (U ≡ with_clause T w d.line) × (n.0 ≡ suc T.numbers))

-- Where it is refused as a clause, it is for its fault, if not for want of memory.
abbrev pub RefusesClause : {A : Type 0} → Table → Draft → Result A TableFault → Type 0
RefusesClause T d r = (w : Written) → d.finished ≡ w ∷ []
    → IfErr r (λ e. IfSome (fault_of e) (λ f. clause_fault T w ≡ Some f))

-- Where the draft's term is taken as a query, it has no fault, and the one table with it is the other.
abbrev pub SetsQuery : {A : Type 0} → Table → Table → Draft → Result A TableFault → Type 0
SetsQuery T U d r = (w : Written) → d.finished ≡ w ∷ []
    → OnOk r ((query_fault T w ≡ None) × (U ≡ with_query T w d.line))

-- Where it is refused as a query, it is for its fault, if not for want of memory.
abbrev pub RefusesQuery : {A : Type 0} → Table → Draft → Result A TableFault → Type 0
RefusesQuery T d r = (w : Written) → d.finished ≡ w ∷ []
    → IfErr r (λ e. IfSome (fault_of e) (λ f. query_fault T w ≡ Some f))
