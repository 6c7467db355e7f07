-- Tasks that are done, or begun and the rest of them put on the stack.
use Rattle.std.proofs.Common.{ℕ, ℤ, ◌≡◌, ◌+◌, ◌-◌, ◌*◌, ◌^◌, ◌<◌, ◌≤◌, true, false, cond, List, [], ◌∷◌, ◌++◌, length, get_or, refl, sym, ap, ◌∙◌, subst}
use Rattle.std.proofs.Common.{arith, append_assoc, append-nil, length-append, nat_eq}
use Rattle.std.specs.Fmt.{signed_decimal}
use Rattle.and_model.specs.Terms.{Term, Terms, variable, number, compound, none, more, variables_of, variables_in}
use Rattle.and_model.specs.Lines.{Bytes, is_cell, point_name, first_seen, shown_name, shown, shown_arguments, shown_rest, shown_tail, shown_elements}
use Rattle.and_model.specs.declared.reference.Ref.{Ref}
use Rattle.and_cells.specs.Ranges.{NamedProgram}
use Rattle.and_print.specs.Writing.{Variable, Named, Writes, shown_cell}
use Rattle.and_print.specs.Roots.{Means, ArgumentsMean, RootMeans, Splits, IsListCell, has_cell_name, is_list_cell, is_empty_list}
use Rattle.and_print.specs.Tasks.{Piece, whole, tail, rest, close, variables_there, piece_text, TaskMeans, variables_ahead, text_ahead, Owes}
use Rattle.and_print.specs.Tasks.{Begins, Does}
use Rattle.and_print.specs.declared.roots.Arguments.{Arguments}
use Rattle.and_print.specs.declared.tasks.Task.{Task}
use Rattle.and_print.specs.declared.tasks.Task.TheVariants.{Whole, Tail, Rest, Close}
use Rattle.and_print.specs.declared.roots.Root.{Root}
use Rattle.and_print.specs.declared.roots.Root.TheVariants as begins
use Rattle.and_print.proofs.Owing.{Leaves, owes_all, owes_on, owes_none, owes_written, no_pieces, text_later}

-- a term's variables, and those of its arguments in a list cell
pair_variables : (vs ws later : List Variable) → vs ++ (ws ++ later) ≡ (vs ++ (ws ++ [])) ++ later
pair_variables vs ws later = simp (append_assoc, append-nil)

-- a list cell as it is written
pub cell_shown : (names : List Bytes) (vs : List Variable) (t h l : Term) → t ≡ compound point_name (more h (more l none))
    → shown names vs t ≡ 91 ∷ (shown names vs h ++ ((shown_tail names vs l ++ 93 ∷ []) ++ []))
cell_shown names vs t h l e =
    ap (shown names vs) e ∙ ap (λ (bs : Bytes). 91 ∷ bs) (append_assoc (shown names vs h) (shown_tail names vs l) (93 ∷ []))
    ∙ ap (λ (bs : Bytes). 91 ∷ (shown names vs h ++ bs)) (sym (append-nil (shown_tail names vs l ++ 93 ∷ [])))

pub cell_shown_after : (names : List Bytes) (vs : List Variable) (t h l : Term) → t ≡ compound point_name (more h (more l none))
    → shown_tail names vs t ++ 93 ∷ [] ≡ 44 ∷ (shown names vs h ++ ((shown_tail names vs l ++ 93 ∷ []) ++ []))
cell_shown_after names vs t h l e =
    ap (λ (u : Term). shown_tail names vs u ++ 93 ∷ []) e
    ∙ ap (λ (bs : Bytes). 44 ∷ bs) (append_assoc (shown names vs h) (shown_tail names vs l) (93 ∷ []))
    ∙ ap (λ (bs : Bytes). 44 ∷ (shown names vs h ++ bs)) (sym (append-nil (shown_tail names vs l ++ 93 ∷ [])))

cell_variables : (t h l : Term) (later : List Variable) → t ≡ compound point_name (more h (more l none))
    → variables_of h ++ (variables_of l ++ later) ≡ variables_of t ++ later
cell_variables t h l later e = pair_variables (variables_of h) (variables_of l) later ∙ ap (λ (u : Term). variables_of u ++ later) (sym e)

-- what is no list cell
pub other_shown : (names : List Bytes) (vs : List Variable) (t : Term) (c : ℕ) (ts : Terms) → t ≡ compound c ts → is_list_cell t ≡ false
    → shown names vs t ≡ shown_name (get_or names c []) ++ shown_arguments names vs ts
other_shown names vs t c ts e other = ap (shown names vs) e
    ∙ ap (λ b. cond b (91 ∷ shown_elements names vs ts ++ 93 ∷ []) (shown_name (get_or names c []) ++ shown_arguments names vs ts))
    (sym (ap is_list_cell e) ∙ other)

-- a tail that is no list has a bar before it
pub bar_shown : (names : List Bytes) (vs : List Variable) (t : Term) → is_list_cell t ≡ false → is_empty_list t ≡ false
    → shown_tail names vs t ≡ 124 ∷ shown names vs t
bar_shown names vs (variable q k) cell nil = refl
bar_shown names vs (number z) cell nil = refl
bar_shown names vs (compound c ts) cell nil = rw (cell, nil) refl

-- and none is written for the empty list
pub nothing_shown : (names : List Bytes) (vs : List Variable) (t : Term) → is_list_cell t ≡ false → is_empty_list t ≡ true → shown_tail names vs t ≡ []
nothing_shown names vs (variable q k) cell nil = absurd (cc)
nothing_shown names vs (number z) cell nil = absurd (cc)
nothing_shown names vs (compound c ts) cell nil = rw (cell, nil) refl

no_variables : (t : Term) → is_empty_list t ≡ true → variables_of t ≡ []
no_variables (variable q k) nil = absurd (cc)
no_variables (number z) nil = absurd (cc)
no_variables (compound c none) nil = refl
no_variables (compound c (more t ts)) nil = absurd (cc)

-- what has another name is no list cell
other_cell : (c : ℕ) (ts : Terms) → nat_eq c point_name ≡ false → is_cell c ts ≡ false
other_cell c none e = refl
other_cell c (more h none) e = refl
other_cell c (more h (more t none)) e = e
other_cell c (more h (more t (more u us))) e = refl

pub other_root : (P : NamedProgram) (row : List Ref) (r : Root) (t : Term) → has_cell_name r ≡ false → RootMeans P row r t → is_list_cell t ≡ false
other_root P row (begins.Variable cell) t e m = ap is_list_cell m
other_root P row (begins.Number z) t e m = ap is_list_cell m
other_root P row (begins.Compound name a) t e (ts, is, m) = ap is_list_cell is ∙ other_cell name.0 ts e

module _ (P : NamedProgram) (row : List Ref) where
  -- bytes were written, and pieces are left
  pub owes_begun : (variables : List Variable) (text : Named) (seen : List Variable) (old new bytes : Bytes) (pieces : List Piece) → new ≡ old ++ bytes
      → ((later : List Variable) → variables_ahead pieces later ≡ variables ++ later)
      → ((vs : List Variable) → text vs ≡ bytes ++ text_ahead P.program.names vs pieces [])
      → Owes P.program.names pieces variables text seen seen old new
  owes_begun variables text seen old new bytes pieces e ahead texts = record {
    seen_then = λ later. ap (first_seen seen) (ahead later);
    written_then = λ later.
        let vs : List Variable = first_seen seen (variables ++ later) in
        ap (λ (bs : Bytes). bs ++ text_ahead P.program.names vs pieces []) e ∙ append_assoc old bytes (text_ahead P.program.names vs pieces [])
        ∙ ap (λ (bs : Bytes). old ++ bs) (sym (texts vs));
  }

  -- all of it was written
  pub written : (variables : List Variable) (text : Named) (seen now : List Variable) (old new : Bytes)
      → Writes variables text seen now old new → Begins P row variables text seen now old new [] 0
  written variables text seen now old new w = record {
    pieces = [];
    mean = tt;
    owes = owes_written P.program.names variables text seen now old new w;
    few = omega (arith, ap length (w.written []), length-append old (text now));
  }

  pub nothing_left : (variables : List Variable) (text : Named) (seen now : List Variable) (old new : Bytes) (n : ℕ)
      → Begins P row variables text seen now old new [] n → Writes variables text seen now old new
  nothing_left variables text seen now old new n b =
      owes_none P.program.names variables text seen now old new
      (subst (λ (ps : List Piece). Owes P.program.names ps variables text seen now old new) (no_pieces P row b.pieces b.mean) b.owes)

  -- bytes were written before it
  pub after_bytes : (variables : List Variable) (text later_text : Named) (seen now : List Variable) (old middle new bytes : Bytes) (tasks : List Task) (n : ℕ)
      → middle ≡ old ++ bytes
      → ((vs : List Variable) → text vs ≡ bytes ++ later_text vs) → Begins P row variables later_text seen now middle new tasks n
      → Begins P row variables text seen now old new tasks n
  after_bytes variables text later_text seen now old middle new bytes tasks n e texts b = record {
    pieces = b.pieces;
    mean = b.mean;
    owes = record {
      seen_then = b.owes.seen_then;
      written_then = λ later.
          let vs : List Variable = first_seen seen (variables ++ later) in
          b.owes.written_then later ∙ ap (λ (bs : Bytes). bs ++ later_text vs) e ∙ append_assoc old bytes (later_text vs)
          ∙ ap (λ (bs : Bytes). old ++ bs) (sym (texts vs));
    };
    few = omega (arith, b.few, ap length e, length-append old bytes);
  }

  -- what was begun is left on the stack
  pub begins_does : (variables : List Variable) (text : Named) (seen now : List Variable) (old new : Bytes) (before after tasks : List Task)
      → Begins P row variables text seen now old new tasks 0 → after ≡ before ++ tasks → Does P row variables text seen now old new before after
  begins_does variables text seen now old new before after tasks b e = record {
    tasks = tasks;
    pieces = b.pieces;
    pushed = e;
    mean = b.mean;
    owes = b.owes;
    few = omega (arith, b.few);
  }

  -- of two pieces the upper one was written
  pub leaves_written : (below top : Piece) (variables : List Variable) (text : Named) (seen now : List Variable) (old between new bytes : Bytes)
      → between ≡ old ++ bytes
      → Owes P.program.names (below ∷ top ∷ []) variables text seen seen old between
      → Writes (variables_there top) (piece_text P.program.names top) seen now between new
      → Leaves P.program.names below variables text seen now old new
  leaves_written below top variables text seen now old between new bytes e o w = record {
    owes = owes_on P.program.names (below ∷ []) [] top variables text seen seen now old between new o
        (owes_written P.program.names (variables_there top) (piece_text P.program.names top) seen now between new w);
    longer = omega (arith, ap length e, length-append old bytes, ap length (w.written []), length-append between (piece_text P.program.names top now));
  }

  -- arguments as far as the first
  module _ (first : Ref) (others : Arguments) (ts : Terms) (s : Splits P row first others ts) where
    split_ahead : (later : List Variable) → variables_ahead (rest s.terms ∷ whole s.term ∷ []) later ≡ variables_in ts ++ later
    split_ahead later = sym (append_assoc (variables_of s.term) (variables_in s.terms) later) ∙ ap (λ (us : Terms). variables_in us ++ later) (sym s.both)

    split_text : (names : List Bytes) (vs : List Variable)
        → shown names vs s.term ++ shown_rest names vs s.terms ≡ text_ahead names vs (rest s.terms ∷ whole s.term ∷ []) []
    split_text names vs = ap (λ (bs : Bytes). shown names vs s.term ++ bs) (sym (append-nil (shown_rest names vs s.terms)))

    rest_owed : (seen : List Variable) (old new : Bytes) → new ≡ old ++ 44 ∷ []
        → Owes P.program.names (rest s.terms ∷ whole s.term ∷ []) (variables_in ts) (λ vs. shown_rest P.program.names vs ts) seen seen old new
    rest_owed seen old new e =
        owes_begun (variables_in ts) (λ vs. shown_rest P.program.names vs ts) seen old new (44 ∷ []) (rest s.terms ∷ whole s.term ∷ []) e split_ahead
        (λ vs. ap (shown_rest P.program.names vs) s.both ∙ ap (λ (bs : Bytes). 44 ∷ bs) (split_text P.program.names vs))

    -- all of them were written as they are after a byte
    after_byte : (text : Named) (seen now : List Variable) (old between new : Bytes) (tasks : List Task) (byte : ℕ) → between ≡ old ++ byte ∷ []
        → ((vs : List Variable) → text vs ≡ byte ∷ (shown P.program.names vs s.term ++ shown_rest P.program.names vs s.terms))
        → Begins P row (variables_of s.term ++ variables_in s.terms)
        (λ vs. shown P.program.names vs s.term ++ shown_rest P.program.names vs s.terms) seen now between new tasks 2
        → Begins P row (variables_in ts) text seen now old new tasks 0
    after_byte text seen now old between new tasks byte e texts b =
        let from : Named = λ vs. shown P.program.names vs s.term ++ shown_rest P.program.names vs s.terms in
        let all = after_bytes (variables_of s.term ++ variables_in s.terms) text from seen now old between new (byte ∷ []) tasks 2 e texts b in
        subst (λ (vs : List Variable). Begins P row vs text seen now old new tasks 0) (sym (ap variables_in s.both)) (record {
          pieces = all.pieces;
          mean = all.mean;
          owes = all.owes;
          few = omega (arith, b.few, ap length e, length-append old (byte ∷ []));
        })

    pub arguments_begun : (seen now : List Variable) (old between new : Bytes) (tasks : List Task) → between ≡ old ++ 40 ∷ []
        → Begins P row (variables_of s.term ++ variables_in s.terms)
        (λ vs. shown P.program.names vs s.term ++ shown_rest P.program.names vs s.terms) seen now between new tasks 2
        → Begins P row (variables_in ts) (λ vs. shown_arguments P.program.names vs ts) seen now old new tasks 0
    arguments_begun seen now old between new tasks e b =
        after_byte (λ vs. shown_arguments P.program.names vs ts) seen now old between new tasks 40 e (λ vs. ap (shown_arguments P.program.names vs) s.both) b

    pub rest_begun : (seen now : List Variable) (old between new : Bytes) (tasks : List Task) → between ≡ old ++ 44 ∷ []
        → Begins P row (variables_of s.term ++ variables_in s.terms)
        (λ vs. shown P.program.names vs s.term ++ shown_rest P.program.names vs s.terms) seen now between new tasks 2
        → Begins P row (variables_in ts) (λ vs. shown_rest P.program.names vs ts) seen now old new tasks 0
    rest_begun seen now old between new tasks e b =
        after_byte (λ vs. shown_rest P.program.names vs ts) seen now old between new tasks 44 e (λ vs. ap (shown_rest P.program.names vs) s.both) b

  -- bytes that no variable stands in
  pub bytes_written : (variables : List Variable) (text : Named) (seen : List Variable) (old new bytes : Bytes) → new ≡ old ++ bytes
      → variables ≡ [] → ((vs : List Variable) → text vs ≡ bytes)
      → Begins P row variables text seen seen old new [] 0
  bytes_written variables text seen old new bytes e f texts = record {
    pieces = [];
    mean = tt;
    owes = owes_begun variables text seen old new bytes [] e (λ later. ap (λ (vs : List Variable). vs ++ later) (sym f))
        (λ vs. texts vs ∙ sym (append-nil bytes));
    few = omega (arith, ap length e, length-append old bytes);
  }

  -- no arguments are left
  pub rest_closed : (ts : Terms) (seen : List Variable) (old new : Bytes) → ts ≡ none → new ≡ old ++ 41 ∷ []
      → Begins P row (variables_in ts) (λ vs. shown_rest P.program.names vs ts) seen seen old new [] 0
  rest_closed ts seen old new e f =
      bytes_written (variables_in ts) (λ vs. shown_rest P.program.names vs ts) seen old new (41 ∷ []) f (ap variables_in e)
      (λ vs. ap (shown_rest P.program.names vs) e)

  -- an argument and those after it: nothing is done yet
  pub from_all : (t : Term) (ts : Terms) (seen : List Variable) (old : Bytes)
      → Owes P.program.names (rest ts ∷ whole t ∷ []) (variables_of t ++ variables_in ts)
      (λ vs. shown P.program.names vs t ++ shown_rest P.program.names vs ts) seen seen old old
  from_all t ts seen old =
      owes_begun (variables_of t ++ variables_in ts) (λ vs. shown P.program.names vs t ++ shown_rest P.program.names vs ts) seen old old []
      (rest ts ∷ whole t ∷ []) (sym (append-nil old)) (λ later. sym (append_assoc (variables_of t) (variables_in ts) later))
      (λ vs. ap (λ (bs : Bytes). shown P.program.names vs t ++ bs) (sym (append-nil (shown_rest P.program.names vs ts))))

  module _ (t : Term) (ts : Terms) (variables : List Variable) (text : Named) (seen middle : List Variable) (old between : Bytes)
      (owed : Owes P.program.names (rest ts ∷ whole t ∷ []) variables text seen middle old between) (longer : length old ≤ length between) where
    -- the argument is a structure
    pub from_begun : (now : List Variable) (new : Bytes) (structure : Ref) (others : Arguments) → Means P row structure t → ArgumentsMean P row others ts
        → (now ≡ middle) × (new ≡ between)
        → Begins P row variables text seen now old new (Rest others ∷ Whole structure ∷ []) 2
    from_begun now new structure others m n same = record {
      pieces = rest ts ∷ whole t ∷ [];
      mean = ((ts, refl, n), ((t, refl, m), tt));
      owes = subst (λ (vs : List Variable). Owes P.program.names (rest ts ∷ whole t ∷ []) variables text seen vs old new) (sym same.0)
          (subst (λ (bs : Bytes). Owes P.program.names (rest ts ∷ whole t ∷ []) variables text seen middle old bs) (sym same.1) owed);
      few = omega (arith, longer, ap length same.1);
    }

    -- it was written
    module _ (now : List Variable) (onward : Bytes) (w : Writes (variables_of t) (λ vs. shown P.program.names vs t) middle now between onward) where
      rest_is_owed : Owes P.program.names (rest ts ∷ []) variables text seen now old onward
      rest_is_owed =
          owes_on P.program.names (rest ts ∷ []) [] (whole t) variables text seen middle now old between onward owed
          (owes_written P.program.names (variables_of t) (λ vs. shown P.program.names vs t) middle now between onward w)

      pub longer_onward : length between ≤ length onward
      longer_onward = omega (arith, ap length (w.written []), length-append between (shown P.program.names now t))

      pub from_closed : (new : Bytes) → ts ≡ none → new ≡ onward ++ 41 ∷ [] → Begins P row variables text seen now old new [] 2
      from_closed new nothing e =
          let b = rest_closed ts now onward new nothing e in
          record {
            pieces = b.pieces;
            mean = b.mean;
            owes = owes_on P.program.names [] b.pieces (rest ts) variables text seen now now old onward new rest_is_owed b.owes;
            few = omega (arith, longer, longer_onward, ap length e, length-append onward (41 ∷ []));
          }

      pub from_on : (next : Ref) (others : Arguments) (s : Splits P row next others ts) (new : Bytes) → new ≡ onward ++ 44 ∷ []
          → Owes P.program.names (rest s.terms ∷ whole s.term ∷ []) variables text seen now old new
      from_on next others s new e =
          owes_on P.program.names [] (rest s.terms ∷ whole s.term ∷ []) (rest ts) variables text seen now now old onward new rest_is_owed
          (rest_owed next others ts s now onward new e)

  -- list cells
  module _ (head rest_of : Ref) (t : Term) (i : IsListCell P row head rest_of t) where
    cell_is : t ≡ compound point_name (more i.pair.one (more i.pair.other none))
    cell_is = i.cell ∙ ap (compound point_name) i.pair.both

    tail_means : TaskMeans P row (Tail rest_of) (tail i.pair.other)
    tail_means = (i.pair.other, refl, i.pair.right_means)

    cell_owed : (seen : List Variable) (old new : Bytes) → new ≡ old ++ 91 ∷ []
        → Owes P.program.names (tail i.pair.other ∷ whole i.pair.one ∷ []) (variables_of t) (λ vs. shown P.program.names vs t) seen seen old new
    cell_owed seen old new e =
        owes_begun (variables_of t) (λ vs. shown P.program.names vs t) seen old new (91 ∷ []) (tail i.pair.other ∷ whole i.pair.one ∷ []) e
        (λ later. cell_variables t i.pair.one i.pair.other later cell_is) (λ vs. cell_shown P.program.names vs t i.pair.one i.pair.other cell_is)

    element_owed : (seen : List Variable) (old new : Bytes) → new ≡ old ++ 44 ∷ []
        → Owes P.program.names (tail i.pair.other ∷ whole i.pair.one ∷ []) (variables_of t) (λ vs. shown_tail P.program.names vs t ++ 93 ∷ []) seen seen old new
    element_owed seen old new e =
        owes_begun (variables_of t) (λ vs. shown_tail P.program.names vs t ++ 93 ∷ []) seen old new (44 ∷ []) (tail i.pair.other ∷ whole i.pair.one ∷ []) e
        (λ later. cell_variables t i.pair.one i.pair.other later cell_is) (λ vs. cell_shown_after P.program.names vs t i.pair.one i.pair.other cell_is)

    -- its head was written
    pub cell_left : (seen now : List Variable) (old between new : Bytes) → between ≡ old ++ 91 ∷ []
        → Begins P row (variables_of i.pair.one) (λ vs. shown P.program.names vs i.pair.one) seen now between new [] 1
        → Leaves P.program.names (tail i.pair.other) (variables_of t) (λ vs. shown P.program.names vs t) seen now old new
    cell_left seen now old between new e b =
        leaves_written (tail i.pair.other) (whole i.pair.one) (variables_of t) (λ vs. shown P.program.names vs t) seen now old between new (91 ∷ []) e
        (cell_owed seen old between e)
        (nothing_left (variables_of i.pair.one) (λ vs. shown P.program.names vs i.pair.one) seen now between new 1 b)

    pub element_left : (seen now : List Variable) (old between new : Bytes) → between ≡ old ++ 44 ∷ []
        → Begins P row (variables_of i.pair.one) (λ vs. shown P.program.names vs i.pair.one) seen now between new [] 1
        → Leaves P.program.names (tail i.pair.other) (variables_of t) (λ vs. shown_tail P.program.names vs t ++ 93 ∷ []) seen now old new
    element_left seen now old between new e b =
        leaves_written (tail i.pair.other) (whole i.pair.one) (variables_of t) (λ vs. shown_tail P.program.names vs t ++ 93 ∷ []) seen now old between new
        (44 ∷ []) e (element_owed seen old between e)
        (nothing_left (variables_of i.pair.one) (λ vs. shown P.program.names vs i.pair.one) seen now between new 1 b)

    -- it was begun, and the tail is below what is left of it
    above_tail : (text : Named) (seen now : List Variable) (old between new bytes : Bytes) (tasks : List Task) → between ≡ old ++ bytes → length bytes ≡ 1
        → Owes P.program.names (tail i.pair.other ∷ whole i.pair.one ∷ []) (variables_of t) text seen seen old between
        → Begins P row (variables_of i.pair.one) (λ vs. shown P.program.names vs i.pair.one) seen now between new tasks 1
        → Begins P row (variables_of t) text seen now old new (Tail rest_of ∷ tasks) 0
    above_tail text seen now old between new bytes tasks e one o b = record {
      pieces = tail i.pair.other ∷ b.pieces;
      mean = (tail_means, b.mean);
      owes = owes_on P.program.names (tail i.pair.other ∷ []) b.pieces (whole i.pair.one) (variables_of t) text seen seen now old between new o b.owes;
      few = omega (arith, b.few, ap length e, length-append old bytes, one);
    }

    pub cell_begun : (seen now : List Variable) (old between new : Bytes) (tasks before middle after : List Task) → between ≡ old ++ 91 ∷ []
        → middle ≡ before ++ Tail rest_of ∷ [] → after ≡ middle ++ tasks
        → Begins P row (variables_of i.pair.one) (λ vs. shown P.program.names vs i.pair.one) seen now between new tasks 1
        → Does P row (variables_of t) (λ vs. shown P.program.names vs t) seen now old new before after
    cell_begun seen now old between new tasks before middle after e f g b =
        begins_does (variables_of t) (λ vs. shown P.program.names vs t) seen now old new before after (Tail rest_of ∷ tasks)
        (above_tail (λ vs. shown P.program.names vs t) seen now old between new (91 ∷ []) tasks e refl (cell_owed seen old between e) b)
        (g ∙ ap (λ (ks : List Task). ks ++ tasks) f ∙ append_assoc before (Tail rest_of ∷ []) tasks)

    pub element_begun : (seen now : List Variable) (old between new : Bytes) (tasks before middle after : List Task) → between ≡ old ++ 44 ∷ []
        → middle ≡ before ++ Tail rest_of ∷ [] → after ≡ middle ++ tasks
        → Begins P row (variables_of i.pair.one) (λ vs. shown P.program.names vs i.pair.one) seen now between new tasks 1
        → Does P row (variables_of t) (λ vs. shown_tail P.program.names vs t ++ 93 ∷ []) seen now old new before after
    element_begun seen now old between new tasks before middle after e f g b =
        begins_does (variables_of t) (λ vs. shown_tail P.program.names vs t ++ 93 ∷ []) seen now old new before after (Tail rest_of ∷ tasks)
        (above_tail (λ vs. shown_tail P.program.names vs t ++ 93 ∷ []) seen now old between new (44 ∷ []) tasks e refl (element_owed seen old between e) b)
        (g ∙ ap (λ (ks : List Task). ks ++ tasks) f ∙ append_assoc before (Tail rest_of ∷ []) tasks)

  -- what is written whole
  pub variable_writes : (t : Term) (cell : ℕ) (seen now : List Variable) (old new : Bytes) → t ≡ variable [] cell
      → Writes (([], cell) ∷ []) (shown_cell cell) seen now old new → Writes (variables_of t) (λ vs. shown P.program.names vs t) seen now old new
  variable_writes t cell seen now old new e w =
      subst (λ (u : Term). Writes (variables_of u) (λ vs. shown P.program.names vs u) seen now old new) (sym e) w

  pub number_writes : (t : Term) (z : ℤ) (seen : List Variable) (old new : Bytes) → t ≡ number z → new ≡ old ++ signed_decimal z
      → Writes (variables_of t) (λ vs. shown P.program.names vs t) seen seen old new
  number_writes t z seen old new e f =
      subst (λ (u : Term). Writes (variables_of u) (λ vs. shown P.program.names vs u) seen seen old new) (sym e)
      (record { seen_now = refl; written = λ later. f })

  pub name_writes : (t : Term) (c : ℕ) (ts : Terms) (seen : List Variable) (old new : Bytes) → t ≡ compound c ts → ts ≡ none
      → new ≡ old ++ shown_name (get_or P.program.names c []) → Writes (variables_of t) (λ vs. shown P.program.names vs t) seen seen old new
  name_writes t c ts seen old new e nothing f =
      subst (λ (u : Term). Writes (variables_of u) (λ vs. shown P.program.names vs u) seen seen old new) (sym (e ∙ ap (compound c) nothing))
      (record { seen_now = refl; written = λ later. f ∙ ap (λ (bs : Bytes). old ++ bs) (sym (append-nil (shown_name (get_or P.program.names c [])))) })

  -- no arguments
  pub nothing_begun : (ts : Terms) (seen : List Variable) (old : Bytes) → ts ≡ none
      → Begins P row (variables_in ts) (λ vs. shown_arguments P.program.names vs ts) seen seen old old [] 0
  nothing_begun ts seen old e =
      bytes_written (variables_in ts) (λ vs. shown_arguments P.program.names vs ts) seen old old [] (sym (append-nil old)) (ap variables_in e)
      (λ vs. ap (shown_arguments P.program.names vs) e)

  -- what is no list cell
  pub named_begun : (t : Term) (c : ℕ) (ts : Terms) (seen now : List Variable) (old middle new : Bytes) (tasks : List Task) → t ≡ compound c ts
      → is_list_cell t ≡ false
      → middle ≡ old ++ shown_name (get_or P.program.names c [])
      → Begins P row (variables_in ts) (λ vs. shown_arguments P.program.names vs ts) seen now middle new tasks 0
      → Begins P row (variables_of t) (λ vs. shown P.program.names vs t) seen now old new tasks 0
  named_begun t c ts seen now old middle new tasks e other f b =
      subst (λ (ws : List Variable). Begins P row ws (λ vs. shown P.program.names vs t) seen now old new tasks 0) (sym (ap variables_of e))
      (after_bytes (variables_in ts) (λ vs. shown P.program.names vs t) (λ vs. shown_arguments P.program.names vs ts) seen now old middle new
      (shown_name (get_or P.program.names c [])) tasks 0 f
      (λ vs. other_shown P.program.names vs t c ts e other) b)

  -- nothing is done yet
  pub whole_left : (structure : Ref) (t : Term) (seen : List Variable) (old : Bytes) → Means P row structure t
      → Begins P row (variables_of t) (λ vs. shown P.program.names vs t) seen seen old old (Whole structure ∷ []) 1
  whole_left structure t seen old m = record {
    pieces = whole t ∷ [];
    mean = ((t, refl, m), tt);
    owes = owes_all P.program.names (whole t) seen old;
    few = omega arith;
  }

  pub begins_sooner : (variables : List Variable) (text : Named) (seen now : List Variable) (old new : Bytes) (tasks : List Task)
      → Begins P row variables text seen now old new tasks 0 → Begins P row variables text seen now old new tasks 1
  begins_sooner variables text seen now old new tasks b = record { pieces = b.pieces; mean = b.mean; owes = b.owes; few = omega (arith, b.few) }

  -- tails that are no list cells
  pub list_closed : (t : Term) (seen : List Variable) (old new : Bytes) (work : List Task) → is_list_cell t ≡ false → is_empty_list t ≡ true
      → new ≡ old ++ 93 ∷ []
      → Does P row (variables_of t) (λ vs. shown_tail P.program.names vs t ++ 93 ∷ []) seen seen old new work (work ++ [])
  list_closed t seen old new work cell nil e =
      begins_does (variables_of t) (λ vs. shown_tail P.program.names vs t ++ 93 ∷ []) seen seen old new work (work ++ []) []
      (bytes_written (variables_of t) (λ vs. shown_tail P.program.names vs t ++ 93 ∷ []) seen old new (93 ∷ []) e (no_variables t nil)
      (λ vs. ap (λ (bs : Bytes). bs ++ 93 ∷ []) (nothing_shown P.program.names vs t cell nil)))
      refl

  pub bar_begun : (t : Term) (seen now : List Variable) (old middle new : Bytes) (before between after : List Task) → is_list_cell t ≡ false
      → is_empty_list t ≡ false
      → middle ≡ old ++ 124 ∷ [] → between ≡ before ++ Close ∷ []
      → Does P row (variables_of t) (λ vs. shown P.program.names vs t) seen now middle new between after
      → Does P row (variables_of t) (λ vs. shown_tail P.program.names vs t ++ 93 ∷ []) seen now old new before after
  bar_begun t seen now old middle new before between after cell nil e f d = record {
    tasks = Close ∷ d.tasks;
    pieces = close ∷ d.pieces;
    pushed = d.pushed ∙ ap (λ (ks : List Task). ks ++ d.tasks) f ∙ append_assoc before (Close ∷ []) d.tasks;
    mean = (refl, d.mean);
    owes = record {
      seen_then = d.owes.seen_then;
      written_then = λ later.
          let names : List Bytes = P.program.names in
          let vs : List Variable = first_seen seen (variables_of t ++ later) in
          let ahead : Bytes = text_ahead names vs d.pieces [] in
          let both : old ++ 124 ∷ shown names vs t ≡ (old ++ 124 ∷ []) ++ shown names vs t = sym (append_assoc old (124 ∷ []) (shown names vs t)) in
          ap (λ (bs : Bytes). new ++ bs) (text_later names vs d.pieces [] (93 ∷ [])) ∙ sym (append_assoc new ahead (93 ∷ []))
          ∙ ap (λ (bs : Bytes). bs ++ 93 ∷ []) (d.owes.written_then later ∙ ap (λ (bs : Bytes). bs ++ shown names vs t) e ∙ sym both)
          ∙ append_assoc old (124 ∷ shown names vs t) (93 ∷ [])
          ∙ ap (λ (bs : Bytes). old ++ (bs ++ 93 ∷ [])) (sym (bar_shown names vs t cell nil));
    };
    few = omega (arith, d.few, ap length e, length-append old (124 ∷ []));
  }

  -- a byte was written, and maybe more
  pub shorter_before : (variables : List Variable) (text : Named) (seen now : List Variable) (old between new : Bytes) (b : ℕ) → between ≡ old ++ b ∷ []
      → Writes variables text seen now between new → length old < length new
  shorter_before variables text seen now old between new b e w =
      omega (arith, ap length e, length-append old (b ∷ []), ap length (w.written []), length-append between (text now))

  -- a task that leaves others leaves less to do, while the text is short
  pub less_left : (variables : List Variable) (text : Named) (seen now : List Variable) (old new : Bytes) (work before after : List Task) (task : Task)
      → Does P row variables text seen now old new before after
      → work ≡ before ++ task ∷ [] → length new < 2 ^ 64 → 3 * (2 ^ 64 - length new) + length after < 3 * (2 ^ 64 - length old) + length work
  less_left variables text seen now old new work before after task d e short =
      omega (arith, d.few, ap length d.pushed, length-append before d.tasks, ap length e, length-append before (task ∷ []))
