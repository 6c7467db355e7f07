-- Texts of grammar rules that hold atoms alone, and the query for a word.
use Rattle.std.specs.Prelude.{ℕ, ◌≡◌, List, [], ◌∷◌, ◌++◌, map, None, codes}
use Rattle.and_model.specs.Lines.{Bytes}
use Rattle.and_model.specs.Programs.{Program}
use Rattle.and_source.specs.Lifted.{lift}
use Rattle.and_syntax.specs.Written.{Written, compound, none, more}
use Rattle.and_syntax.specs.Tables.{Table, empty, clause_fault, with_clause, with_query, next_query, program_of}
use Rattle.and_translation.specs.Bodies.{Body, nothing, terminals, goals, nonterminal, both, either, impure, body_of}
use Rattle.and_translation.specs.Translation.{translated, translation_fault, list_before}
use Rattle.and_grammar_laws.specs.Derivations.{Symbol, letters, phrase, Rule, IsNumber}

abbrev pub atom : Bytes → Written
atom c = compound c none

-- A body that holds only lists of atoms, `[]` as the empty list among them, and atoms.
abbrev pub IsBody : Body → List Symbol → Type 0
IsBody nothing symbols = symbols ≡ letters [] ∷ []
IsBody (terminals ts) symbols = (l : Bytes) × (ls : List Bytes) × (ts ≡ map atom (l ∷ ls))
    × (symbols ≡ letters (l ∷ ls) ∷ [])
IsBody (goals t) symbols = ⊥
IsBody (nonterminal c none) symbols = symbols ≡ phrase c ∷ []
IsBody (nonterminal c (more t ts)) symbols = ⊥
IsBody (both a b) symbols = (xs : List Symbol) × (ys : List Symbol) × IsBody a xs × IsBody b ys × (symbols ≡ xs ++ ys)
IsBody (either rest) symbols = ⊥
IsBody impure symbols = ⊥

-- A rule as it is written: its head is an atom.
pub record IsWrittenRule (w : Written) (r : Rule) : Type 0 where
  pub body : Written
  pub written : w ≡ compound (codes "-->") (more (atom r.head) (more body none))
  pub holds : IsBody (body_of body) r.body

-- a rule of a text, with the line of its first token
pub record Line : Type 0 where
  pub rule : Written
  pub line : ℕ

-- the lines of a text are rules of a grammar, in order
abbrev pub AreRules : List Line → List Rule → Type 0
AreRules [] [] = Unit {0}
AreRules [] (r ∷ rs) = ⊥
AreRules (l ∷ ls) [] = ⊥
AreRules (l ∷ ls) (r ∷ rs) = IsWrittenRule l.rule r × AreRules ls rs

-- the table with the clauses for which rules stand
abbrev pub with_rules : Table → List Line → Table
with_rules T [] = T
with_rules T (l ∷ ls) = with_rules (with_clause T (translated l.rule) l.line) ls

-- none of these is refused
abbrev pub AreTaken : Table → List Line → Type 0
AreTaken T [] = Unit {0}
AreTaken T (l ∷ ls) =
    (translation_fault l.rule ≡ None) × (clause_fault T (translated l.rule) ≡ None)
    × AreTaken (with_clause T (translated l.rule) l.line) ls

-- the query for a word: `?- N([w1,..,wn],[])`
abbrev pub asks : Bytes → List Bytes → Written
asks n word = compound (codes "?-")
    (more (compound n (more (list_before (map atom word) (atom (codes "[]"))) (more (atom (codes "[]")) none))) none)

-- A text of rules with one query for a word: the rules before it, its line, and the rules behind it.
pub record Text : Type 0 where
  pub earlier : List Line
  pub line : ℕ
  pub later : List Line

-- the table when the query comes, when it is there, and at the end of the text
abbrev pub table_before : Text → Table
table_before t = with_rules empty t.earlier

abbrev pub table_with : Text → Bytes → List Bytes → Table
table_with t n word = with_query (table_before t) (asks n word) t.line

abbrev pub table_of : Text → Bytes → List Bytes → Table
table_of t n word = with_rules (table_with t n word) t.later

-- the program that runs
abbrev pub program_for : Text → Bytes → List Bytes → Program
program_for t n word = lift (program_of (table_of t n word) (next_query (table_before t) (asks n word) t.line))

-- The text's rules are those of the grammar, none is refused, and the query is for a word from the head of one of them.
pub record IsTextOf (t : Text) (grammar : List Rule) (n : Bytes) (word : List Bytes) : Type 0 where
  pub rules : AreRules (t.earlier ++ t.later) grammar
  pub taken_earlier : AreTaken empty t.earlier
  pub taken_later : AreTaken (table_with t n word) t.later
  pub headed : (c : ℕ) × (r : Rule) × IsNumber c grammar r × (r.head ≡ n)
