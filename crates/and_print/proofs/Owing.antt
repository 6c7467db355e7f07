-- What is owed while tasks are left on the stack.
use Rattle.std.proofs.Common.{◌≡◌, ◌≤◌, cond, List, [], ◌∷◌, ◌++◌, length, refl, sym, ap, ◌∙◌, subst, arith, append_assoc, append-nil}
use Rattle.and_model.specs.Lines.{Bytes, has, first_seen}
use Rattle.and_model.specs.declared.reference.Ref.{Ref}
use Rattle.and_cells.specs.Ranges.{NamedProgram}
use Rattle.and_print.specs.Writing.{Variable, Named, Writes}
use Rattle.and_print.specs.Tasks.{Piece, variables_there, piece_text, TaskMeans, AllMean, variables_ahead, text_ahead, Owes, Does}
use Rattle.and_print.specs.declared.tasks.Task.{Task}

pub seen_in_turn : (seen vs ws : List Variable) → first_seen seen (vs ++ ws) ≡ first_seen (first_seen seen vs) ws
seen_in_turn seen [] ws = refl
seen_in_turn seen (v ∷ vs) ws = seen_in_turn (cond (has v seen) seen (seen ++ v ∷ [])) vs ws

pub variables_behind : (ps qs : List Piece) (later : List Variable) → variables_ahead (ps ++ qs) later ≡ variables_ahead qs (variables_ahead ps later)
variables_behind [] qs later = refl
variables_behind (p ∷ ps) qs later = variables_behind ps qs (variables_there p ++ later)

module _ (names : List Bytes) (vs : List Variable) where
  pub text_behind : (ps qs : List Piece) (later : Bytes) → text_ahead names vs (ps ++ qs) later ≡ text_ahead names vs qs (text_ahead names vs ps later)
  text_behind [] qs later = refl
  text_behind (p ∷ ps) qs later = text_behind ps qs (piece_text names p vs ++ later)

  pub text_later : (ps : List Piece) (soon later : Bytes) → text_ahead names vs ps (soon ++ later) ≡ text_ahead names vs ps soon ++ later
  text_later [] soon later = refl
  text_later (p ∷ ps) soon later = ap (text_ahead names vs ps) (sym (append_assoc (piece_text names p vs) soon later))
      ∙ text_later ps (piece_text names p vs ++ soon) later

  -- a piece on top of others, of which a text was written and other pieces are left
  pub text_top : (ps qs : List Piece) (p : Piece) (old new : Bytes) → new ++ text_ahead names vs qs [] ≡ old ++ piece_text names p vs
      → new ++ text_ahead names vs (ps ++ qs) [] ≡ old ++ text_ahead names vs (ps ++ p ∷ []) []
  text_top ps qs p old new e =
      ap (λ (bs : Bytes). new ++ bs) (text_behind ps qs [] ∙ text_later qs [] (text_ahead names vs ps []))
      ∙ sym (append_assoc new (text_ahead names vs qs []) (text_ahead names vs ps []))
      ∙ ap (λ (bs : Bytes). bs ++ text_ahead names vs ps []) e
      ∙ append_assoc old (piece_text names p vs) (text_ahead names vs ps [])
      ∙ ap (λ (bs : Bytes). old ++ bs) (sym (text_behind ps (p ∷ []) []))

-- One more task was done.
module _ (names : List Bytes) (ps qs : List Piece) (p : Piece) (variables : List Variable) (text : Named) (seen middle now : List Variable)
    (old between new : Bytes) where
  pub owes_on : Owes names (ps ++ p ∷ []) variables text seen middle old between → Owes names qs (variables_there p) (piece_text names p) middle now between new
      → Owes names (ps ++ qs) variables text seen now old new
  owes_on o d =
      let next : (later : List Variable) → first_seen middle (variables_there p ++ variables_ahead ps later) ≡ first_seen seen (variables ++ later) =
      λ later. ap (first_seen middle) (sym (variables_behind ps (p ∷ []) later)) ∙ o.seen_then later in
      record {
        seen_then = λ later. ap (first_seen now) (variables_behind ps qs later) ∙ d.seen_then (variables_ahead ps later) ∙ next later;
        written_then = λ later.
            let vs : List Variable = first_seen seen (variables ++ later) in
            let done : new ++ text_ahead names vs qs [] ≡ between ++ piece_text names p vs =
            subst (λ (ws : List Variable). new ++ text_ahead names ws qs [] ≡ between ++ piece_text names p ws) (next later)
            (d.written_then (variables_ahead ps later)) in
            text_top names vs ps qs p between new done ∙ o.written_then later;
      }

-- nothing is done yet
pub owes_all : (names : List Bytes) (p : Piece) (seen : List Variable) (old : Bytes)
    → Owes names (p ∷ []) (variables_there p) (piece_text names p) seen seen old old
owes_all names p seen old = record {
  seen_then = λ later. refl;
  written_then = λ later. ap (λ (bs : Bytes). old ++ bs) (append-nil (piece_text names p (first_seen seen (variables_there p ++ later))));
}

-- One piece is left, and nothing was put on the stack.
pub record Leaves (names : List Bytes) (piece : Piece) (variables : List Variable) (text : Named) (seen now : List Variable) (old new : Bytes) : Type 0 where
  pub owes : Owes names (piece ∷ []) variables text seen now old new
  pub longer : length old ≤ length new

pub leaves_all : (names : List Bytes) (p : Piece) (seen : List Variable) (old : Bytes)
    → Leaves names p (variables_there p) (piece_text names p) seen seen old old
leaves_all names p seen old = record { owes = owes_all names p seen old; longer = omega arith }

pub leaves_on : (names : List Bytes) (p q : Piece) (variables : List Variable) (text : Named) (seen middle now : List Variable) (old between new : Bytes)
    → Leaves names p variables text seen middle old between → Leaves names q (variables_there p) (piece_text names p) middle now between new
    → Leaves names q variables text seen now old new
leaves_on names p q variables text seen middle now old between new l k = record {
  owes = owes_on names [] (q ∷ []) p variables text seen middle now old between new l.owes k.owes;
  longer = omega (arith, l.longer, k.longer);
}

pub leaves_does : (P : NamedProgram) (row : List Ref) (p : Piece) (variables : List Variable) (text : Named) (seen middle now : List Variable)
    (old between new : Bytes) (before after : List Task)
    → Leaves P.program.names p variables text seen middle old between
    → Does P row (variables_there p) (piece_text P.program.names p) middle now between new before after
    → Does P row variables text seen now old new before after
leaves_does P row p variables text seen middle now old between new before after l d = record {
  tasks = d.tasks;
  pieces = d.pieces;
  pushed = d.pushed;
  mean = d.mean;
  owes = owes_on P.program.names [] d.pieces p variables text seen middle now old between new l.owes d.owes;
  few = omega (arith, l.longer, d.few);
}

-- all is done
pub owes_none : (names : List Bytes) (variables : List Variable) (text : Named) (seen now : List Variable) (old new : Bytes)
    → Owes names [] variables text seen now old new
    → Writes variables text seen now old new
owes_none names variables text seen now old new o =
    let same : now ≡ first_seen seen variables = o.seen_then [] ∙ ap (first_seen seen) (append-nil variables) in record {
      seen_now = same;
      written = λ later.
          let vs : first_seen seen (variables ++ later) ≡ first_seen now later = sym (o.seen_then later) in
          sym (append-nil new) ∙ o.written_then later ∙ ap (λ (ws : List Variable). old ++ text ws) vs;
    }

pub owes_written : (names : List Bytes) (variables : List Variable) (text : Named) (seen now : List Variable) (old new : Bytes)
    → Writes variables text seen now old new
    → Owes names [] variables text seen now old new
owes_written names variables text seen now old new w = record {
  seen_then = λ later. ap (λ (ws : List Variable). first_seen ws later) w.seen_now ∙ sym (seen_in_turn seen variables later);
  written_then = λ later.
      append-nil new ∙ w.written later ∙ ap (λ (ws : List Variable). old ++ text (first_seen ws later)) w.seen_now
      ∙ ap (λ (ws : List Variable). old ++ text ws) (sym (seen_in_turn seen variables later));
}

pub all_mean_append : (P : NamedProgram) (row : List Ref) (ks js : List Task) (ps qs : List Piece) → AllMean P row ks ps → AllMean P row js qs
    → AllMean P row (ks ++ js) (ps ++ qs)
all_mean_append P row [] js [] qs a b = b
all_mean_append P row [] js (p ∷ ps) qs a b = elim a [ ]
all_mean_append P row (k ∷ ks) js [] qs a b = elim a [ ]
all_mean_append P row (k ∷ ks) js (p ∷ ps) qs a b = (a.0, all_mean_append P row ks js ps qs a.1 b)

-- The pieces of a stack, that of its top, and the others.
pub record Tops (P : NamedProgram) (row : List Ref) (below : List Task) (top : Task) (ps : List Piece) : Type 0 where
  pub others : List Piece
  pub piece : Piece
  pub are : ps ≡ others ++ piece ∷ []
  pub below_mean : AllMean P row below others
  pub top_means : TaskMeans P row top piece

pub tops : (P : NamedProgram) (row : List Ref) (ks : List Task) (k : Task) (ps : List Piece) → AllMean P row (ks ++ k ∷ []) ps → Tops P row ks k ps
tops P row [] k [] a = elim a [ ]
tops P row [] k (p ∷ []) a = record { others = []; piece = p; are = refl; below_mean = tt; top_means = a.0 }
tops P row [] k (p ∷ q ∷ ps) a = elim (a.1) [ ]
tops P row (j ∷ ks) k [] a = elim a [ ]
tops P row (j ∷ ks) k (p ∷ ps) a =
    let r = tops P row ks k ps a.1 in
    record { others = p ∷ r.others; piece = r.piece; are = ap (λ (qs : List Piece). p ∷ qs) r.are; below_mean = (a.0, r.below_mean); top_means = r.top_means }

-- no task is left
pub no_pieces : (P : NamedProgram) (row : List Ref) (ps : List Piece) → AllMean P row [] ps → ps ≡ []
no_pieces P row [] a = refl
no_pieces P row (p ∷ ps) a = elim a [ ]
