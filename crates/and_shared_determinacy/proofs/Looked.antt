-- What a look at a call through an overlay says of the cells below, and of clauses that it tells apart.
use Rattle.std.proofs.Common.{ℕ, ◌≡◌, true, true≢false, List, sym, subst, ◌∙◌}
use Rattle.and_model.specs.declared.numbers.ClauseNo.{ClauseNo}
use Rattle.and_model.specs.declared.reference.Ref.{Ref}
use Rattle.and_cells.specs.Ranges.{NamedProgram}
use Rattle.and_cells.specs.Seen.{Seen, IsSetTo, OnlyReads}
use Rattle.and_overlay.specs.Overlaid.{Own, seen_over, IsOver}
use Rattle.and_clause_index.specs.Looks.{IsSeenIn, IsLookOver}
use Rattle.and_clause_index.specs.Prints.{are_apart}
use Rattle.and_clause_index.specs.Tables.{IsTableOf, print_at}
use Rattle.and_clause_index.specs.declared.looking.Look.{Look}
use Rattle.and_clause_index.specs.declared.table.Determinacy.{Determinacy}
use Rattle.and_clause_index.proofs.Glimpses.{seen_before}
use Rattle.and_clause_index.proofs.Left.{candidate_left}
use Rattle.and_clause_index.specs.Selecting.{IsNoCandidate}
use Rattle.and_shared_determinacy.proofs.Truths.{reads_hold}
use Rattle.and_shared_determinacy.proofs.Falling.{begun_hold, learnt_hold}
use Rattle.and_shared_determinacy.proofs.TrialFalls.{IsTrial}

-- A row that has what is known below has what an overlay knows that only looked.
seen_through : (P : NamedProgram) (below now : Seen) (frame frame_now : ℕ) (own own_now : List Own) (looked looked_now : List ℕ)
    → IsTrial P below now frame frame_now own own_now looked looked_now
    → OnlyReads (seen_over below frame own looked) (seen_over now frame_now own_now looked_now)
    → (row : List Ref) → IsSeenIn now row → IsSeenIn (seen_over now frame_now own_now looked_now) row
seen_through P below now frame frame_now own own_now looked looked_now trial reads row has =
    let begun : IsSeenIn (seen_over below frame own looked) row =
    subst (λ (o : List Own). IsSeenIn (seen_over below frame o looked) row) (sym trial.nothing)
    (begun_hold (IsSetTo row) P now has below frame looked
    (subst (λ (o : List Own). IsOver P below frame o looked) trial.nothing trial.begun) trial.begun_coherent trial.keeps) in
    reads_hold (IsSetTo row) (seen_over below frame own looked) (seen_over now frame_now own_now looked_now) reads begun
    (learnt_hold (IsSetTo row) P now has frame_now own_now looked_now trial.over trial.coherent)

-- What such an overlay shows of a call is so of the cells below.
pub look_below : (P : NamedProgram) (below now : Seen) (frame frame_now : ℕ) (own own_now : List Own) (looked looked_now : List ℕ)
    → IsTrial P below now frame frame_now own own_now looked looked_now
    → OnlyReads (seen_over below frame own looked) (seen_over now frame_now own_now looked_now)
    → (node base : ℕ) (look : Look) → IsLookOver P (seen_over now frame_now own_now looked_now) node base look → IsLookOver P now node base look
look_below P below now frame frame_now own own_now looked looked_now trial reads node base look is row has =
    is row (seen_through P below now frame frame_now own own_now looked looked_now trial reads row has)

-- What was seen stays so once more is known.
pub look_later : (P : NamedProgram) (old new : Seen) (node base : ℕ) (look : Look) → OnlyReads old new → IsLookOver P old node base look
    → IsLookOver P new node base look
look_later P old new node base look reads is row has = is row (seen_before old new row reads has)

-- A clause that a look tells apart is no candidate.
pub apart_none : (P : NamedProgram) (table : Determinacy) → IsTableOf P table → (s : Seen) (node base : ℕ) (look : Look)
    → IsLookOver P s node base look → (c : ClauseNo) → are_apart look.print (print_at table c.0) ≡ true → IsNoCandidate P s node base c
apart_none P table is_of s node base look is c apart row has whole candidate =
    true≢false (sym apart ∙ candidate_left P table is_of row node base look (is row has.set) c candidate)
