use Rattle.std.proofs.Common.{ℕ, ◌≡◌, ◌++◌, ◌∷◌, [], List, length, map, codes, refl, ap, sym, ◌∙◌, subst}
use Rattle.std.specs.Prelude.{All}
use Rattle.and_model.specs.Lines.{Bytes, goal_term, first_seen, variables_along, shown_variables, line}
use Rattle.and_model.specs.Terms.{Term, Substitution, apply}
use Rattle.and_cells.specs.Parts.{named}
use Rattle.and_cells.specs.Ranges.{NamedProgram, IsGoalInRange}
use Rattle.and_branch_laws.proofs.Loading.{loaded_is}
use Rattle.and_print.specs.Given.{Given}
use Rattle.and_print.proofs.Lining.{waiting_mean}
use Rattle.and_proof.specs.Documents.{mark}
use Rattle.and_proof.specs.Proofs.{all_replaced, solved_by, call_lines, named_along}
use Rattle.and_proof.proofs.NamedAlong.{named_in_turn}
use Rattle.and_proof.proofs.Told
use Rattle.and_proof.proofs.explaining.text_of.Goals as goal

pub show_line-requires-clause-in_range : goal.show_line-requires-clause-in_range
show_line-requires-clause-in_range g c =
    let l = c.args.loaded.now in
    let s = c.skeleton_is_of_the_program.ensures in
    let facts = loaded_is (named l) l refl s.skeleton s.own_variables s.few in
    let row = c.args.cells.now in
    let (cs, y) = c.requires.proved in
    subst (λ (Q : NamedProgram). All (IsGoalInRange Q (length row)) c.args.waiting.now) (sym c.requires.program)
    (Told.goals_in_range (named l) facts y.reductions row c.args.waiting.now y.tree y.whole)

pub show_line-requires-clause-given : goal.show_line-requires-clause-given
show_line-requires-clause-given g c =
    let l = c.args.loaded.now in
    let s = c.skeleton_is_of_the_program.ensures in
    let facts = loaded_is (named l) l refl s.skeleton s.own_variables s.few in
    let row = c.args.cells.now in
    let (cs, y) = c.requires.proved in
    subst (λ (Q : NamedProgram). Given Q row c.args.waiting.now) (sym c.requires.program)
    (Told.given (named l) facts y.reductions row c.args.waiting.now y.tree y.whole)

pub name_values-requires-clause-gives : goal.name_values-requires-clause-gives
name_values-requires-clause-gives g c =
    let l = c.args.loaded.now in
    let s = c.skeleton_is_of_the_program.ensures in
    let facts = loaded_is (named l) l refl s.skeleton s.own_variables s.few in
    let (cs, y) = c.requires.proved in
    let given = Told.given (named l) facts y.reductions c.args.cells.now c.args.waiting.now y.tree y.whole in
    (given.terms, given.query)

pub name_goals-requires-clause-means : goal.name_goals-requires-clause-means
name_goals-requires-clause-means g c =
    let l = c.args.loaded.now in
    let s = c.skeleton_is_of_the_program.ensures in
    let facts = loaded_is (named l) l refl s.skeleton s.own_variables s.few in
    let row = c.args.cells.now in
    let waiting = c.args.waiting.now in
    let (cs, y) = c.requires.proved in
    let given = Told.given (named l) facts y.reductions row waiting y.tree y.whole in (
      map (λ a. apply given.terms (goal_term a)) given.waits,
      waiting_mean (named l) row waiting given (Told.goals_in_range (named l) facts y.reductions row waiting y.tree y.whole),
    )

pub write_calls-requires-clause-calls : goal.write_calls-requires-clause-calls
write_calls-requires-clause-calls g c =
    let l = c.args.loaded.now in
    let s = c.skeleton_is_of_the_program.ensures in
    let facts = loaded_is (named l) l refl s.skeleton s.own_variables s.few in
    let row = c.args.cells.now in
    let waiting = c.args.waiting.now in
    let (cs, y) = c.requires.proved in (
      map (solved_by (Told.terms (named l) facts y.reductions row waiting y.tree y.whole)) (all_replaced y.tree),
      Told.calls_read (named l) facts y.reductions row waiting y.tree y.whole c.args.taken.now (all_replaced y.tree) y.replaced,
    )

-- the text by its parts
text_is : (lines last o0 o1 o2 o3 o4 o5 : Bytes) → o0 ≡ mark → o1 ≡ o0 ++ 10 ∷ [] → o2 ≡ o1 ++ lines → o3 ≡ o2 ++ codes "%% line " → o4 ≡ o3 ++ last
    → o5 ≡ o4 ++ 10 ∷ [] → o5 ≡ mark ++ 10 ∷ lines ++ codes "%% line " ++ last ++ 10 ∷ []
text_is lines last o0 o1 o2 o3 o4 o5 one two three four five six =
    let a : o1 ≡ mark ++ 10 ∷ [] = two ∙ ap (λ (l : Bytes). l ++ 10 ∷ []) one in
    let b : o2 ≡ mark ++ 10 ∷ lines = three ∙ ap (λ (l : Bytes). l ++ lines) a in
    let d : o3 ≡ mark ++ 10 ∷ lines ++ codes "%% line " = four ∙ ap (λ (l : Bytes). l ++ codes "%% line ") b in
    let e : o4 ≡ mark ++ 10 ∷ lines ++ codes "%% line " ++ last = five ∙ ap (λ (l : Bytes). l ++ last) d in
    six ∙ ap (λ (l : Bytes). l ++ 10 ∷ []) e

pub returns : goal.returns
returns g c = λ cs y.
    let l = c.args.loaded.now in
    let P = named l in
    let s = c.skeleton_is_of_the_program.ensures in
    let facts = loaded_is P l refl s.skeleton s.own_variables s.few in
    let row = c.args.cells.now in
    let waiting = c.args.waiting.now in
    let rs = y.reductions in
    let terms : Substitution = Told.terms P facts rs row waiting y.tree y.whole in
    let given = Told.given P facts rs row waiting y.tree y.whole in
    let goals : List Term = map (λ a. apply terms (goal_term a)) (Told.waits P facts rs row waiting y.tree y.whole) in
    let values : List Term = map (λ (v : Bytes × ℕ). terms [] v.1) (shown_variables 0 P.program.query.written) in
    let calls = map (solved_by terms) (all_replaced y.tree) in
    let line_is = subst (λ (Q : NamedProgram). (h : Given Q row waiting) → c.in_ok-line.line ≡ line Q.program h.terms h.waits) c.requires.program
    c.in_ok-line.ensures given in
    let first : c.name_values.new.names ≡ first_seen [] (variables_along values) =
    c.in_ok-name_values.ensures terms given.query ∙ ap (λ seen. first_seen seen (variables_along values)) c.new-names.ensures in
    let second = c.in_ok-name_goals.ensures goals
    (waiting_mean P row waiting given (Told.goals_in_range P facts rs row waiting y.tree y.whole)) in
    let along : c.name_goals.new.names ≡ named_along P.program terms goals =
    named_in_turn values goals [] c.name_values.new.names c.name_goals.new.names first second in
    let lines : c.write_calls.new.out ≡ c.append.new.self ++ call_lines P.program (named_along P.program terms goals) calls =
    c.in_ok-write_calls.ensures calls (Told.calls_read P facts rs row waiting y.tree y.whole c.args.taken.now (all_replaced y.tree) y.replaced)
    ∙ ap (λ seen. c.append.new.self ++ call_lines P.program seen calls) along in
    let last : c.append-3.new.self ≡ c.append-2.new.self ++ line P.program terms (Told.waits P facts rs row waiting y.tree y.whole) =
    c.in_ok-append-3.ensures ∙ ap (λ (b : Bytes). c.append-2.new.self ++ b) (c.bytes.ensures ∙ line_is) in
    Told.proof_told P facts row waiting c.args.taken.now cs y c.append-4.new.self
    (text_is (call_lines P.program (named_along P.program terms goals) calls)
    (line P.program terms (Told.waits P facts rs row waiting y.tree y.whole)) c.in_ok-out.out c.append.new.self c.write_calls.new.out c.append-2.new.self
    c.append-3.new.self c.append-4.new.self c.in_ok-out.ensures c.in_ok-append.ensures lines c.in_ok-append-2.ensures last c.in_ok-append-4.ensures)
