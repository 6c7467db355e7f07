-- Lists that grew and are cut again.
use Rattle.std.proofs.Common.{◌≡◌, List, length, take, Option, subst, sym, ap, ◌∙◌}
use Rattle.and_model.specs.Lines.{Bytes}
use Rattle.and_syntax.specs.Tables.{Table}
use Rattle.and_program.specs.Skeletons.{Shape}
use Rattle.and_program.specs.Nodes.{shapes_of, names_of}
use Rattle.and_program.specs.declared.entry.ClauseEntry.{ClauseEntry}
use Rattle.and_judging.specs.declared.data.Called.{Called}
use Rattle.and_judging.specs.declared.judging.Used.{Used}
use Rattle.and_clauses.specs.declared.making.Lists.{Lists}
use Rattle.and_clauses.specs.declared.making.Lengths.{Lengths}
use Rattle.and_clauses.specs.Kept.{IsKept}
use Rattle.and_clauses.specs.Makes.{Keeps, HasRoom, Grows}

-- a table that is kept has room
pub room_of : (ss : List Shape) (es : List ClauseEntry) (query : Option ClauseEntry) (calls : List Called) (names : List Bytes) (used : Used) (T : Table)
    → IsKept ss es query calls names used T → HasRoom ss names used
room_of ss es query calls names used T k = record {
  begins = k.begins;
  falls = k.falls;
  within = k.within;
  few_nodes = k.few_nodes;
  few_used = k.few_used;
  few_clauses = k.few_clauses;
  few_names = k.few_names;
  few_disjunctions = k.few_disjunctions;
}

-- the same lists are those of the same table
pub kept_same : (ss us : List Shape) (es fs : List ClauseEntry) (query : Option ClauseEntry) (calls called : List Called)
    (names named : List Bytes) (used : Used)
    (T : Table) → us ≡ ss → fs ≡ es → called ≡ calls → named ≡ names → IsKept ss es query calls names used T → IsKept us fs query called named used T
kept_same ss us es fs query calls called names named used T a b d e k =
    subst (λ xs. IsKept us fs query called xs used T) (sym e)
    (subst (λ xs. IsKept us fs query xs names used T) (sym d)
    (subst (λ xs. IsKept us xs query calls names used T) (sym b)
    (subst (λ xs. IsKept xs es query calls names used T) (sym a) k)))

-- Cut to what they were, they are those of the table again.
pub cut_back : (old mid new : Lists) (lengths : Lengths) (query : Option ClauseEntry) (used : Used) (T : Table)
    → lengths.names ≡ length (names_of old.names.keys) → lengths.nodes ≡ length (shapes_of old.nodes.items)
    → lengths.clauses ≡ length old.clauses.items → lengths.calls ≡ length old.calls.items → Grows old mid
    → names_of new.names.keys ≡ take lengths.names (names_of mid.names.keys) → shapes_of new.nodes.items ≡ take lengths.nodes (shapes_of mid.nodes.items)
    → new.clauses.items ≡ take lengths.clauses mid.clauses.items → new.calls.items ≡ take lengths.calls mid.calls.items
    → Keeps old query used T → Keeps new query used T
cut_back old mid new lengths query used T names nodes clauses calls g ns us es cs k =
    kept_same (shapes_of old.nodes.items) (shapes_of new.nodes.items) old.clauses.items new.clauses.items query old.calls.items new.calls.items
    (names_of old.names.keys) (names_of new.names.keys) used T
    (us ∙ ap (λ n. take n (shapes_of mid.nodes.items)) nodes ∙ g.nodes) (es ∙ ap (λ n. take n mid.clauses.items) clauses ∙ g.clauses)
    (cs ∙ ap (λ n. take n mid.calls.items) calls ∙ g.calls) (ns ∙ ap (λ n. take n (names_of mid.names.keys)) names ∙ g.names) k
