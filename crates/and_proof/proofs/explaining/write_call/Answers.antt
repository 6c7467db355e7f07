use Rattle.std.proofs.Common.{ℕ, ◌≡◌, ◌++◌, ◌∷◌, [], codes, ap, sym, ◌∙◌, subst}
use Rattle.std.specs.Fmt.{decimal}
use Rattle.and_model.specs.Lines.{Bytes}
use Rattle.and_model.specs.Programs.{Program}
use Rattle.and_program.specs.Loaded.{program_of}
use Rattle.and_proof.specs.Proofs.{Replaced, is_alternative, goal_text, named_with}
use Rattle.and_proof.proofs.NamedAlong.{onto}
use Rattle.and_proof.proofs.explaining.write_call.Goals as goal

-- the line by its parts
line_is : (r : Replaced) (depth clause : ℕ) (old a b d e f new text : Bytes) → r.depth ≡ depth → r.clause ≡ clause
    → a ≡ old ++ codes "%%" → b ≡ a ++ 32 ∷ decimal depth → d ≡ b ++ 32 ∷ decimal clause → e ≡ d ++ codes " " → f ≡ e ++ text
    → new ≡ f ++ 10 ∷ [] → new ≡ old ++ (codes "%% " ++ decimal r.depth ++ 32 ∷ decimal r.clause ++ 32 ∷ text ++ 10 ∷ [])
line_is r depth clause old a b d e f new text deep numbered one two three four five six =
    let first : b ≡ old ++ (codes "%%" ++ 32 ∷ decimal r.depth) =
    onto old (codes "%%") (32 ∷ decimal r.depth) a b one (two ∙ ap (λ (n : ℕ). a ++ 32 ∷ decimal n) (sym deep)) in
    let second : d ≡ old ++ (codes "%%" ++ 32 ∷ decimal r.depth ++ 32 ∷ decimal r.clause) =
    onto old (codes "%%" ++ 32 ∷ decimal r.depth) (32 ∷ decimal r.clause) b d first (three ∙ ap (λ (n : ℕ). b ++ 32 ∷ decimal n) (sym numbered)) in
    let call : f ≡ d ++ 32 ∷ text = onto d (codes " ") text e f four five in
    let third : f ≡ old ++ (codes "%%" ++ 32 ∷ decimal r.depth ++ 32 ∷ decimal r.clause ++ 32 ∷ text) =
    onto old (codes "%%" ++ 32 ∷ decimal r.depth ++ 32 ∷ decimal r.clause) (32 ∷ text) d f second call in
    onto old (codes "%%" ++ 32 ∷ decimal r.depth ++ 32 ∷ decimal r.clause ++ 32 ∷ text) (10 ∷ []) f new third six

pub returns : goal.returns
returns g c = λ r x.
    let P : Program = program_of c.args.loaded.now in
    let vs = c.write_goal.new.names in
    let taken = c.in_ok-write_goal.ensures r x in
    let written = subst (λ k. (vs ≡ named_with (is_alternative P k) c.args.names.now r.call)
    × (c.write_goal.new.out ≡ c.append-2.new.self ++ goal_text (is_alternative P k) P.names vs r.call)) (sym x.clause) taken in (
      written.0,
      line_is r c.args.taken.depth c.from.result c.args.out.now c.append.new.self c.write_number.new.out c.write_number-2.new.out c.append-2.new.self
          c.write_goal.new.out c.append-3.new.self (goal_text (is_alternative P r.clause) P.names vs r.call) x.depth (x.clause ∙ sym c.from.ensures)
          c.in_ok-append.ensures c.in_ok-write_number.ensures c.in_ok-write_number-2.ensures c.in_ok-append-2.ensures written.1
          c.in_ok-append-3.ensures,
    )
