-- Where the words of a store's table lie.
use Rattle.std.proofs.Common.{ℕ, ◌+◌, ◌*◌, ◌≡◌, ◌<◌, ◌≤◌, arith, mul-le-mul}
use Rattle.atomic_table.specs.Seated.{TableId}
use Rattle.and_store.specs.Passes.{IsStore}
use Rattle.and_store.specs.Sight.{About, IsModest}

-- all waiters of a store
pub waiters_below : (a : About) → IsModest a → a.seats * a.waiters ≤ 262144
waiters_below a m = let h : a.seats * a.waiters ≤ 64 * 4096 = mul-le-mul m.seats m.waiters in omega (arith, h)

module _ (t : TableId) (a : About) (first words seats waiters : ℕ) (s : IsStore t a first words seats waiters) where
  pub cell_in : (cell : ℕ) → cell < a.words → cell < t.words
  cell_in cell within = let n : ℕ = a.seats * a.waiters in let e = s.size in omega (arith, e, within)

  pub place_in : (cell : ℕ) → cell < a.words → words + cell < t.words
  place_in cell within = let e = s.size in let f = s.words_are in omega (arith, e, f, within)

  pub mark_in : (mark : ℕ) → t.words ≡ mark + 2 → (mark < t.words) × (mark + 1 < t.words)
  mark_in mark e = (omega arith, omega arith)

  pub table_some : 0 < t.words
  table_some = let e = s.size in let n : ℕ = a.seats * a.waiters in omega (arith, e)
