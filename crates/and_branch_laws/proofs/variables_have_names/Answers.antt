use Rattle.and_branch_laws.specs.Variables.{IsVariable}
use Rattle.and_branch_laws.proofs.Places
use Rattle.and_branch_laws.proofs.Naming
use Rattle.and_branch_laws.proofs.Speaking
use Rattle.and_branch_laws.proofs.Growing
use Rattle.and_branch_laws.proofs.variables_have_names.Goals as goal

pub returns-clause-names : goal.returns-clause-names
returns-clause-names c = λ P rs t made. Naming.some_names P.program rs t made

pub returns-clause-back : goal.returns-clause-back
returns-clause-back c = λ P rs t made.
    let (back, leads) = Naming.some_back P.program rs t made in (
      back,
      λ names es named speaks. Speaking.equations_back_again (IsVariable P rs) names back es
          (Naming.names_lead_back P rs names back named leads) speaks,
    )

pub returns-clause-equations : goal.returns-clause-equations
returns-clause-equations c = λ P rs t own made. Growing.equations_speak (IsVariable P rs) t (Growing.made_speaks P own rs t made)

pub returns-clause-arithmetic : goal.returns-clause-arithmetic
returns-clause-arithmetic c = λ P rs t a own made i. Growing.arithmetics_speak (IsVariable P rs) t (Growing.made_speaks P own rs t made) a i

pub returns-clause-calls : goal.returns-clause-calls
returns-clause-calls c = λ P rs t o own made. Growing.call_speaks (IsVariable P rs) t (Growing.made_speaks P own rs t made) o

pub returns-clause-apart : goal.returns-clause-apart
returns-clause-apart c = λ P rs t o v made i e. Places.place_not_open P.program rs t made o i.node v.0 i.place e
