use Rattle.std.proofs.Common.{ℕ, ℤ, ◌≡◌, false, [], List, get_or, refl, ap, sym, ◌∙◌}
use Rattle.and_model.specs.Lines.{Bytes}
use Rattle.and_model.specs.Terms.{Term, variable, number, compound}
use Rattle.and_model.specs.declared.numbers.NameNo.{NameNo}
use Rattle.and_program.specs.Loaded.{program_of, skeleton_of}
use Rattle.and_program.specs.Skeletons.{node_term}
use Rattle.and_program.specs.Shown.{shown_term}
use Rattle.and_program.specs.declared.node.NodeKind.TheVariants.{Variable, Number, Compound}
use Rattle.and_proof.specs.Proofs.{begins_lifted, head_name}
use Rattle.and_proof.proofs.explaining.is_alternative.Goals as goal

-- the name of a head is that of its node
named : (names : List Bytes) (t : Term) (name : NameNo) (count : ℕ) → Compound name count ≡ shown_term t → head_name names t ≡ get_or names name.0 []
named names (variable q n) name count e = absurd (cc)
named names (number z) name count e = absurd (cc)
named names (compound c ts) name count e =
    let same : name ≡ record { 0 = c } = cc in
    ap (λ (n : NameNo). get_or names n.0 []) (sym same)

variable_has_none : (names : List Bytes) (t : Term) (n : ℕ) → Variable n ≡ shown_term t → false ≡ begins_lifted (head_name names t)
variable_has_none names (variable q m) n e = refl
variable_has_none names (number z) n e = refl
variable_has_none names (compound c ts) n e = absurd (cc)

number_has_none : (names : List Bytes) (t : Term) (n : ℤ) → Number n ≡ shown_term t → false ≡ begins_lifted (head_name names t)
number_has_none names (variable q m) n e = refl
number_has_none names (number z) n e = refl
number_has_none names (compound c ts) n e = absurd (cc)

pub returns-in-Compound : goal.returns-in-Compound
returns-in-Compound c =
    let names : List Bytes = (program_of c.args.loaded.now).names in
    let t : Term = node_term (skeleton_of c.args.loaded.now).nodes c.head.result.0 in
    c.begins_lifted.ensures
    ∙ ap begins_lifted (c.name.ensures ∙ sym (named names t c.in-Compound.name _ c.in-Compound.ensures.term))
    ∙ ap (λ (u : Term). begins_lifted (head_name names u)) c.head.ensures.term

pub returns-in-Variable : goal.returns-in-Variable
returns-in-Variable c =
    let names : List Bytes = (program_of c.args.loaded.now).names in
    let t : Term = node_term (skeleton_of c.args.loaded.now).nodes c.head.result.0 in
    variable_has_none names t _ c.in-Variable.ensures.term ∙ ap (λ (u : Term). begins_lifted (head_name names u)) c.head.ensures.term

pub returns-in-Number : goal.returns-in-Number
returns-in-Number c =
    let names : List Bytes = (program_of c.args.loaded.now).names in
    let t : Term = node_term (skeleton_of c.args.loaded.now).nodes c.head.result.0 in
    number_has_none names t _ c.in-Number.ensures.term ∙ ap (λ (u : Term). begins_lifted (head_name names u)) c.head.ensures.term
