use Rattle.std.proofs.Common.{ℕ, ◌≡◌, ◌+◌, ◌-◌, List, ◌++◌, length, vec_len, replicate, take, sym, ap, ◌∙◌, subst, arith}
use Rattle.std.proofs.lemmas.List.{take_all}
use Rattle.and_model.specs.declared.reference.Ref.TheVariants.{Free}
use Rattle.and_cells.specs.Rows.{row_of, AreWords, IsSound}
use Rattle.and_cells.specs.Ground.{AreFounded}
use Rattle.and_cells.proofs.PlainRows.{kept_extend, row_extend}
use Rattle.and_cells.proofs.Grounding.{founded_extend}
use Rattle.and_cells.proofs.plain.PlainCells.extend.Goals as goal

-- what the words are after they were filled up
longer : (ws after : List ℕ) (len count by w : ℕ) → len ≡ count → count ≡ length ws → w ≡ 0 → after ≡ take (len + by) ws ++ replicate (len + by - count) w
    → after ≡ ws ++ replicate by 0
longer ws after len count by w is_count is_len zero is =
    let front : take (len + by) ws ≡ ws = take_all (len + by) ws (omega arith) in
    let behind : len + by - count ≡ by = omega arith in
    is ∙ ap (λ xs. xs ++ replicate (len + by - count) w) front ∙ ap (λ n. ws ++ replicate n w) behind ∙ ap (λ v. ws ++ replicate by v) zero

pub invariant_of-self-2 : goal.invariant_of-self-2
invariant_of-self-2 g c =
    let items = longer c.self.inside.words.items c.resize.new.self.items c.len.result (vec_len c.self.inside.words) c.args.by c.to_word.result c.len.ensures
    c.self.inside.words.ok.0 c.to_word.ensures c.in_ok-resize.ensures.items in
    let P = g.N.Naming.program in
    let row = row_of c.self.inside.words.items in
    let kept = kept_extend P c.self.inside.words.items c.args.by (c.self.invariant.0, c.self.invariant.1) (let few = c.requires in
    let view = ap length c.self.view_is in omega arith) in
    subst (λ ws. AreWords ws × IsSound P (row_of ws) × AreFounded P (row_of ws) c.self.inside.known) (sym items) (
      kept.0,
      kept.1,
      subst (λ after. AreFounded P after c.self.inside.known) (sym (row_extend c.self.inside.words.items c.args.by))
          (founded_extend P row c.self.inside.known c.args.by c.self.invariant.2),
    )

pub returns-clause-ok : goal.returns-clause-ok
returns-clause-ok g c =
    let items = longer c.self.inside.words.items c.resize.new.self.items c.len.result (vec_len c.self.inside.words) c.args.by c.to_word.result c.len.ensures
    c.self.inside.words.ok.0 c.to_word.ensures c.in_ok-resize.ensures.items in
    ap row_of items ∙ row_extend c.self.inside.words.items c.args.by ∙ ap (λ row. row ++ replicate c.args.by Free) c.self.view_is
