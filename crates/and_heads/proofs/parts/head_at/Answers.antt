use Rattle.std.proofs.Common.{ℕ, ◌≡◌, Option, Some, None, false, ap, suc, refl, sym, subst, w64, FitsSigned, rules}
use Rattle.std.proofs.lemmas.Int.{ints, to_z-of_z}
use Rattle.and_cells.specs.Parts.{named}
use Rattle.and_cells.specs.Ranges.{NamedProgram}
use Rattle.and_cells.specs.Rows.{plain}
use Rattle.and_cells.specs.Seen.{Seen, word_at}
use Rattle.and_cells.proofs.PlainRows.{plain_reads_number}
use Rattle.std.specs.Prelude.{IfSome}
use Rattle.and_model.specs.Store.{is_half}
use Rattle.and_model.specs.declared.numbers.NodeNo.{NodeNo}
use Rattle.and_model.specs.declared.reference.Ref.{Ref}
use Rattle.and_model.specs.declared.reference.Ref.TheVariants.{Node}
use Rattle.and_unify.specs.Heads.{HasHead}
use Rattle.and_unify.specs.declared.heads.Head.{Head}
use Rattle.and_unify.proofs.MeetingHeads.{number_head}
use Rattle.and_heads.proofs.parts.head_at.Goals as goal

-- A head that was found is that of a reference to the node.
found : (P Q : NamedProgram) (s : Seen) (at : Ref) (node : NodeNo) (base : ℕ) (head : Option Head) → P ≡ Q → at ≡ Node node base
    → IfSome head (λ h. (s : Seen) (base : ℕ) → HasHead Q s (Node node base) h) → IfSome head (HasHead P s at)
found P Q s at node base (Some h) same is has =
    subst (λ (p : NamedProgram). HasHead p s at h) (sym same) (subst (λ (r : Ref). HasHead Q s r h) (sym is) (has s base))
found P Q s at node base None same is has = tt

-- So it is no half.
no_half : (at : Ref) (node : NodeNo) (base : ℕ) (head : Option Head) → at ≡ Node node base → IfSome head (λ h. is_half at ≡ false)
no_half at node base (Some h) is = ap is_half is
no_half at node base None is = tt

pub returns-in-Node-clause-head : goal.returns-in-Node-clause-head
returns-in-Node-clause-head g c =
    found g.N.Naming.program (named c.args.loaded.now) (plain c.args.cells.now) c.args.at c.in-Node.node c.in-Node.base c.head_of.result
    c.requires.program c.in-Node.is c.head_of.ensures

pub returns-in-Node-clause-whole : goal.returns-in-Node-clause-whole
returns-in-Node-clause-whole g c = no_half c.args.at c.in-Node.node c.in-Node.base c.head_of.result c.in-Node.is

pub returns-in-Number-clause-head : goal.returns-in-Number-clause-head
returns-in-Number-clause-head g c =
    let row = c.args.cells.now in
    let s = plain row in
    let pair = c.in-Number.pair in
    let fits : FitsSigned w64 c.held_number.result = search (rules, ints) in
    number_head g.N.Naming.program pair c.args.at _ c.held_number.result s s c.in-Number.is (to_z-of_z w64 c.held_number.result fits)
    (plain_reads_number g.N.Naming.program row pair (suc pair) (word_at row pair) (word_at row (suc pair)) c.held_number.result c.held_number.ensures.sound refl
    (c.requires.written pair c.in-Number.is) refl refl c.held_number.ensures.value)
