use Rattle.std.proofs.Common.{ℕ, ◌≡◌, ◌++◌, List, append-nil, ap, sym, ◌∙◌, subst}
use Rattle.std.specs.Prelude.{OnOk, Result, Ok, Err}
use Rattle.and_model.specs.Lines.{first_seen}
use Rattle.and_model.specs.Stands.{item_term}
use Rattle.and_model.specs.Terms.{Path, Term, compound, more, none, variables_of, apply}
use Rattle.and_program.specs.Items.{node_item}
use Rattle.and_program.specs.Skeletons.{node_term, item_of}
use Rattle.and_program.specs.declared.item.ItemNode.{ItemNode}
use Rattle.and_cells.specs.Parts.{named}
use Rattle.and_print.specs.Goals.{ItemMeans}
use Rattle.and_print.proofs.Owing.{seen_in_turn}
use Rattle.and_proof.proofs.explaining.name_item.Goals as goal

-- the variables of two sides are those of a term of these two
sides_named : (old new : List (Path × ℕ)) (t a b : Term) (name : ℕ) → t ≡ compound name (more a (more b none))
    → new ≡ first_seen (first_seen old (variables_of a)) (variables_of b) → new ≡ first_seen old (variables_of t)
sides_named old new t a b name is e =
    e ∙ sym (seen_in_turn old (variables_of a) (variables_of b))
    ∙ ap (λ l. first_seen old (variables_of a ++ l)) (sym (append-nil (variables_of b)))
    ∙ ap (λ (u : Term). first_seen old (variables_of u)) (sym is)

both_named : {T E : Type 0} (r : Result T E) (old new : List (Path × ℕ)) (t a b : Term) (name : ℕ) → t ≡ compound name (more a (more b none))
    → OnOk r (new ≡ first_seen (first_seen old (variables_of a)) (variables_of b)) → OnOk r (new ≡ first_seen old (variables_of t))
both_named (Ok x) old new t a b name is e = sides_named old new t a b name is e
both_named (Err x) old new t a b name is e = tt

pub name_term-requires-clause-means : goal.name_term-requires-clause-means
name_term-requires-clause-means g c =
    let P = named c.args.loaded.now in
    let row = c.args.cells.now in
    let (s, means) = c.requires.means in
    (s, subst (λ (i : ItemNode). ItemMeans P row (node_item i) c.args.base s) c.in-Call.is means)

pub returns-in-Call : goal.returns-in-Call
returns-in-Call g c = λ s means t e.
    let P = named c.args.loaded.now in
    let row = c.args.cells.now in
    let m = subst (λ (i : ItemNode). ItemMeans P row (node_item i) c.args.base s) c.in-Call.is means in
    let same = e ∙ ap (λ (i : ItemNode). apply s (item_term (item_of P.skeleton.nodes (node_item i)))) c.in-Call.is in
    subst (λ (u : Term). OnOk c.name_term.result (c.name_term.new.names ≡ first_seen c.args.names.now (variables_of u))) (sym same)
    (c.name_term.ensures s m)

pub name_both-requires-clause-means : goal.name_both-requires-clause-means
name_both-requires-clause-means g c =
    let P = named c.args.loaded.now in
    let row = c.args.cells.now in
    let (s, means) = c.requires.means in
    (s, subst (λ (i : ItemNode). ItemMeans P row (node_item i) c.args.base s) c.in-Equal.is means)

pub returns-in-Equal : goal.returns-in-Equal
returns-in-Equal g c = λ s means t e.
    let P = named c.args.loaded.now in
    let row = c.args.cells.now in
    let m = subst (λ (i : ItemNode). ItemMeans P row (node_item i) c.args.base s) c.in-Equal.is means in
    both_named (c.name_both.result) c.args.names.now c.name_both.new.names t (apply s (node_term P.skeleton.nodes c.in-Equal.left.0))
    (apply s (node_term P.skeleton.nodes c.in-Equal.right.0)) _
    (e ∙ ap (λ (i : ItemNode). apply s (item_term (item_of P.skeleton.nodes (node_item i)))) c.in-Equal.is)
    (c.name_both.ensures s m.0 m.1)

pub name_both-requires-in-Is-clause-means : goal.name_both-requires-in-Is-clause-means
name_both-requires-in-Is-clause-means g c =
    let P = named c.args.loaded.now in
    let row = c.args.cells.now in
    let (s, means) = c.requires.means in
    (s, subst (λ (i : ItemNode). ItemMeans P row (node_item i) c.args.base s) c.in-Is.is means)

pub returns-in-Is : goal.returns-in-Is
returns-in-Is g c = λ s means t e.
    let P = named c.args.loaded.now in
    let row = c.args.cells.now in
    let m = subst (λ (i : ItemNode). ItemMeans P row (node_item i) c.args.base s) c.in-Is.is means in
    both_named (c.name_both-in-Is.result) c.args.names.now c.name_both-in-Is.new.names t (apply s (node_term P.skeleton.nodes c.in-Is.left.0))
    (apply s (node_term P.skeleton.nodes c.in-Is.right.0)) _
    (e ∙ ap (λ (i : ItemNode). apply s (item_term (item_of P.skeleton.nodes (node_item i)))) c.in-Is.is)
    (c.name_both-in-Is.ensures s m.0 m.1)

pub name_both-requires-in-Compare-clause-means : goal.name_both-requires-in-Compare-clause-means
name_both-requires-in-Compare-clause-means g c =
    let P = named c.args.loaded.now in
    let row = c.args.cells.now in
    let (s, means) = c.requires.means in
    (s, subst (λ (i : ItemNode). ItemMeans P row (node_item i) c.args.base s) c.in-Compare.is means)

pub returns-in-Compare : goal.returns-in-Compare
returns-in-Compare g c = λ s means t e.
    let P = named c.args.loaded.now in
    let row = c.args.cells.now in
    let m = subst (λ (i : ItemNode). ItemMeans P row (node_item i) c.args.base s) c.in-Compare.is means in
    both_named (c.name_both-in-Compare.result) c.args.names.now c.name_both-in-Compare.new.names t (apply s (node_term P.skeleton.nodes c.in-Compare.left.0))
    (apply s (node_term P.skeleton.nodes c.in-Compare.right.0)) _
    (e ∙ ap (λ (i : ItemNode). apply s (item_term (item_of P.skeleton.nodes (node_item i)))) c.in-Compare.is)
    (c.name_both-in-Compare.ensures s m.0 m.1)

pub returns-in-Fail : goal.returns-in-Fail
returns-in-Fail g c = λ s means t e.
    let P = named c.args.loaded.now in
    ap (λ (u : Term). first_seen c.args.names.now (variables_of u))
    (sym (e ∙ ap (λ (i : ItemNode). apply s (item_term (item_of P.skeleton.nodes (node_item i)))) c.in-Fail.is))
