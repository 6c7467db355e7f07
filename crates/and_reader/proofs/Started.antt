-- A word leads to no state before the first word of a clause.
use Rattle.std.proofs.Common.{◌≡◌, Bool, true, false, cond, List, [], ◌∷◌, Option, Some, None, subst}
use Rattle.and_model.specs.Lines.{Bytes}
use Rattle.and_syntax.specs.Written
use Rattle.and_syntax.specs.Written.{Written}
use Rattle.and_language.specs.Words.{Word, Before, is_reserved}
use Rattle.and_language.specs.Words as words
use Rattle.and_language.specs.Grammar.{nil, Neck}
use Rattle.and_automaton.specs.Machine.{Half, Pending, Bracket, plain, braces, arguments, elements, tail, Frame, ClausePart, head, body, query, Outermost}
use Rattle.and_automaton.specs.Machine.{wanted, numeral, operand, State, start, inside, opened_list, over, Role, is_product, is_sum, is_relation, is_neck}
use Rattle.and_automaton.specs.Machine.{is_none, role, nothing_pending, take_operand, take_numeral, take_relation, take_neck, take_name, take_comma}
use Rattle.and_automaton.specs.Machine.{take_semicolon, take_bar, take_close_bracket, take_close_brace, take_close_list, take_end, take_functor}
use Rattle.and_automaton.specs.Machine.{take_operator, at700, begins_query, closes_list, in_part, go}

abbrev Past : Option State → Type 0
Past None = Unit {0}
Past (Some start) = ⊥
Past (Some (inside l fs p m)) = Unit {0}
Past (Some (opened_list l fs p)) = Unit {0}
Past (Some (over q w)) = Unit {0}

either : (b : Bool) (o p : Option State) → Past o → Past p → Past (cond b o p)
either true o p h k = h
either false o p h k = k

operand_past : (l : Outermost) (fs : List Frame) (p : Pending) (x : Word) → Past (take_operand l fs p x)
operand_past l fs p (words.name c) = either (is_reserved c) None (Some (inside l fs p (operand (Written.compound c Written.none) (Some c)))) tt tt
operand_past l fs p (words.minus words.integer) = tt
operand_past l fs p (words.minus words.bracket) = tt
operand_past l fs p (words.minus words.stop) = tt
operand_past l fs p (words.minus words.operand) = tt
operand_past l fs p x = tt

numeral_past : (l : Outermost) (fs : List Frame) (p : Pending) (x : Word) → Past (take_numeral l fs p x)
numeral_past l fs p (words.integer z) = tt
numeral_past l fs p x = tt

relation_past : (l : Outermost) (fs : List Frame) (p : Pending) (w : Written) (c : Bytes) (r : Option Half)
    → Past (take_relation l fs (record p { relation = r }) w c)
relation_past l fs p w c None = tt
relation_past l fs p w c (Some h) = tt

neck_past : (l : Outermost) (fs : List Frame) (n : Neck) (a : Written) (k : ClausePart) → Past (take_neck (record l { part = k }) fs n a)
neck_past l (f ∷ fs) n a k = tt
neck_past l [] n a head = tt
neck_past l [] n a (body m h) = tt
neck_past l [] n a query = tt

name_past : (l : Outermost) (fs : List Frame) (p : Pending) (w : Written) (c : Bytes) (r : Role) → Past (take_name l fs p w c r)
name_past l fs p w c is_product = tt
name_past l fs p w c is_sum = tt
name_past l fs p w c is_relation = relation_past l fs p w c p.relation
name_past l fs p w c (is_neck n) = neck_past l fs n (at700 p w) l.part
name_past l fs p w c is_none = tt

bracket_past : (l : Outermost) (f : Frame) (fs : List Frame) (a : Written) (k : Bracket)
    → (Past (take_comma l (record f { bracket = k } ∷ fs) a)) × (Past (take_bar l (record f { bracket = k } ∷ fs) a))
    × (Past (take_close_bracket l (record f { bracket = k } ∷ fs) a)) × (Past (take_close_list l (record f { bracket = k } ∷ fs) a))
bracket_past l f fs a (plain es) = (tt, tt, tt, tt)
bracket_past l f fs a (braces es) = (tt, tt, tt, tt)
bracket_past l f fs a (arguments c) = (tt, tt, tt, tt)
bracket_past l f fs a elements = (tt, tt, tt, tt)
bracket_past l f fs a tail = (tt, tt, tt, tt)

closing_past : (l : Outermost) (fs : List Frame) (a : Written)
    → (Past (take_comma l fs a)) × (Past (take_bar l fs a)) × (Past (take_close_bracket l fs a)) × (Past (take_close_list l fs a))
closing_past l [] a = (tt, tt, tt, tt)
closing_past l (f ∷ fs) a = bracket_past l f fs a f.bracket

alternative_past : (l : Outermost) (f : Frame) (fs : List Frame) (a : Written) (k : Bracket)
    → (Past (take_semicolon l (record f { bracket = k } ∷ fs) a)) × (Past (take_close_brace l (record f { bracket = k } ∷ fs) a))
alternative_past l f fs a (plain es) = (tt, tt)
alternative_past l f fs a (braces es) = (tt, tt)
alternative_past l f fs a (arguments c) = (tt, tt)
alternative_past l f fs a elements = (tt, tt)
alternative_past l f fs a tail = (tt, tt)

alternatives_past : (l : Outermost) (fs : List Frame) (a : Written) → (Past (take_semicolon l fs a)) × (Past (take_close_brace l fs a))
alternatives_past l [] a = (tt, tt)
alternatives_past l (f ∷ fs) a = alternative_past l f fs a f.bracket

end_past : (l : Outermost) (fs : List Frame) (a : Written) (k : ClausePart) → Past (take_end (record l { part = k }) fs a)
end_past l (f ∷ fs) a k = tt
end_past l [] a head = tt
end_past l [] a (body n h) = tt
end_past l [] a query = tt

functor_past : (l : Outermost) (fs : List Frame) (p : Pending) (f : Option Bytes) → Past (take_functor l fs p f)
functor_past l fs p None = tt
functor_past l fs p (Some c) = tt

operator_past : (l : Outermost) (fs : List Frame) (p : Pending) (w : Written) (f : Option Bytes) (x : Word) → Past (take_operator l fs p w f x)
operator_past l fs p w f (words.name c) = name_past l fs p w c (role c)
operator_past l fs p w f (words.open_bracket true) = functor_past l fs p f
operator_past l fs p w f (words.open_bracket false) = tt
operator_past l fs p w f words.close_bracket = (closing_past l fs (at700 p w)).2
operator_past l fs p w f words.close_list = (closing_past l fs (at700 p w)).3
operator_past l fs p w f words.close_brace = (alternatives_past l fs (at700 p w)).1
operator_past l fs p w f words.semicolon = (alternatives_past l fs (at700 p w)).0
operator_past l fs p w f words.comma = (closing_past l fs (at700 p w)).0
operator_past l fs p w f words.bar = (closing_past l fs (at700 p w)).1
operator_past l fs p w f words.end = end_past l fs (at700 p w) l.part
operator_past l fs p w f x = tt

past : (s : State) (x : Word) → Past (go s x)
past start x = either (begins_query x) (Some (in_part query)) (take_operand (record { part = head; alternatives = []; before = [] }) [] nothing_pending x) tt
    (operand_past (record { part = head; alternatives = []; before = [] }) [] nothing_pending x)
past (inside l fs p wanted) x = operand_past l fs p x
past (inside l fs p numeral) x = numeral_past l fs p x
past (inside l fs p (operand w f)) x = operator_past l fs p w f x
past (opened_list l fs p) x = either (closes_list x) (Some (inside l fs p (operand nil None)))
    (take_operand l (record { bracket = elements; before = []; outside = p } ∷ fs) nothing_pending x) tt
    (operand_past l (record { bracket = elements; before = []; outside = p } ∷ fs) nothing_pending x)
past (over q w) x = tt

-- behind a word, the clause is begun
pub started : (s t : State) (x : Word) → go s x ≡ Some t → t ≡ start → ⊥
started s t x e h =
    let P : Option State → Type 0 = λ o. Past o in
    let Q : State → Type 0 = λ u. Past (Some u) in
    subst Q h (subst P e (past s x))
