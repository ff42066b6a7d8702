-- The terms that may stand in place of a hole, or why there are none.
use Rattle.std.specs.Prelude.{◌≡◌, ℕ, zero, suc, ◌&&◌, ◌||◌, ◌==◌, nat_le, Bool, List, [], ◌∷◌, ◌++◌, map, filter, slice_get, codes, Option, Some, None, is_none, Result, Ok, Err, if◌then◌else◌}
use Rattle.text_terms.specs.Bytes.{str_bytes}
use Rattle.text_terms.specs.declared.Span.{Span}
use Rattle.tree_model.specs.Rows.{Row, hole_row}
use Rattle.query_model.specs.TypedNodes.{Typed, innermost_at}
use Rattle.type_nodes.specs.Nodes.{Node}
use Rattle.type_nodes.specs.Links.{reading}
use Rattle.env_table.specs.declared.entries.Entry.{Entry}
use Rattle.syntax_tree.specs.View.{trees_of}
use Rattle.query_engine.specs.declared.asked.Asked.{Asked}
use Rattle.query_engine.specs.declared.trials.Replacement.{Replacement}
use Rattle.type_alternatives.specs.Alternatives.{Outermost, constructor, constant, cons, tuple, record_with, Values, known, functions, literal, untold, OfType}
use Rattle.type_alternatives.specs.Templates.{written, tuple_text, record_text, named_in, first_hidden}
use Rattle.type_alternatives.specs.declared.values.Argument.{Argument}
use Rattle.type_alternatives.specs.declared.values.Argument.TheVariants as argument
use Rattle.asked_node.specs.Rows.{row_at}
use Rattle.asked_node.specs.Node.{typing_at}
use Rattle.construct_terms.specs.declared.holes.Hole.{Hole}
use Rattle.construct_terms.specs.declared.holes.Hole.TheVariants as hole
use Rattle.std.specs.declared.vec.Vec.{Vec}
use Rattle.std.specs.declared.alloc.Global.{Global}
use Rattle.construct_terms.specs.declared.ConstructFault.{ConstructFault}
use Rattle.construct_terms.specs.declared.ConstructFault.TheVariants as fault

-- A, (A _), (A (_, _))
abbrev pub constructor_term : List ℕ → Argument → List ℕ
constructor_term path argument.None = path
constructor_term path argument.One = codes "(" ++ (path ++ codes " _)")
constructor_term path (argument.Tuple parts) = codes "(" ++ (path ++ (codes " " ++ (tuple_text parts ++ codes ")")))

-- an outermost part as an expression
abbrev pub term_text : Outermost → List ℕ
term_text (constructor n a) = constructor_term (written n) a
term_text (constant s) = s
term_text cons = codes "(_ :: _)"
term_text (tuple parts) = tuple_text parts
term_text (record_with ns) = record_text ns

-- each name in an outermost part is reached by a path
abbrev pub is_reached : Outermost → Bool
is_reached o = is_none (first_hidden (named_in o))

-- the terms of outermost parts, of those that are reached and in their order, with something in front of each
abbrev pub terms_of : List ℕ → List Outermost → List (List ℕ)
terms_of front os = map (λ o. front ++ term_text o) (filter is_reached os)

-- the terms of a type with these values
abbrev pub terms_by : List ℕ → Values → List (List ℕ)
terms_by front (known os) = terms_of front os
terms_by front functions = (front ++ codes "(fun _ -> _)") ∷ []
terms_by front (literal s) = (front ++ s) ∷ []
terms_by front untold = []

-- which hole a row is: a written `_`, or, without a row, a missing expression
unfoldable pub hole_in : Row → Option Hole
hole_in hole_row = Some hole.Written
hole_in _ = None

-- which hole a node is, by its row
abbrev pub hole_of : Option Row → Option Hole
hole_of None = Some hole.Missing
hole_of (Some r) = hole_in r

-- a letter, a digit, `_` and `'` go on with a name or a numeral
abbrev pub goes_on : ℕ → Bool
goes_on b = nat_le 97 b && nat_le b 122 || nat_le 65 b && nat_le b 90 || nat_le 48 b && nat_le b 57 || b == 95 || b == 39

-- the blank that keeps a term apart from the byte behind it
abbrev pub blank_behind : Option ℕ → List ℕ
blank_behind None = []
blank_behind (Some b) = if goes_on b then codes " " else []

-- one blank where the byte before a place would go on with a term
abbrev pub blank_before : List ℕ → ℕ → List ℕ
blank_before text zero = []
blank_before text (suc place) = blank_behind (slice_get text place)

-- what stands in front of the terms: behind a name or a numeral one blank, where the expression is missing
abbrev pub in_front : List ℕ → ℕ → Hole → List ℕ
in_front text place hole.Written = []
in_front text place hole.Missing = blank_before text place

-- the terms at a hole, where a type and the names in scope are recorded for it; none where no type is
abbrev pub AreTermsBy : List Node → List ℕ → Option (ℕ × List Entry) → List (List ℕ) → Type 0
AreTermsBy nodes front None ts = ts ≡ []
AreTermsBy nodes front (Some typing) ts = (vs : Values) × OfType nodes typing.1 (reading nodes typing.0) vs × (ts ≡ terms_by front vs)

-- what is answered: terms in place of the node, or why there are none
pub data Answer : Type 0 where
  terms : List (List ℕ) → Answer
  no_node : Answer
  not_a_hole : Answer

-- the answer at a node, by which hole it is
abbrev pub TermsBy : List Node → List ℕ → ℕ → Option Hole → Option (ℕ × List Entry) → Answer → Type 0
TermsBy nodes text place None typing a = a ≡ not_a_hole
TermsBy nodes text place (Some h) typing a = (ts : List (List ℕ)) × (a ≡ terms ts) × AreTermsBy nodes (in_front text place h) typing ts

-- the answer at a typed node of a text, or where there is none
abbrev pub TermsAt : Asked → List ℕ → Option Typed → Answer → Type 0
TermsAt asked text None a = a ≡ no_node
TermsAt asked text (Some t) a = TermsBy asked.store.now.nodes text t.span.start (hole_of (row_at (trees_of asked.tree.now) t.id.item t.id.pre)) (typing_at asked t.id.item t.id.pre) a

-- the answer at an offset
abbrev pub TermsIn : Asked → List ℕ → ℕ → Answer → Type 0
TermsIn asked text offset a = TermsAt asked text (innermost_at offset (trees_of asked.tree.now)) a

-- the texts of candidates
abbrev pub texts_of : List Replacement → List (List ℕ)
texts_of cs = map (λ c. str_bytes c.text) cs

-- an answer is refused by a fault, unless memory is short
abbrev pub IsRefusal : (Answer → Type 0) → ConstructFault → Type 0
IsRefusal Is fault.NoNode = Is no_node
IsRefusal Is fault.NotAHole = Is not_a_hole
IsRefusal Is fault.NoMemory = Unit {0}

-- what is returned gives the answer, unless memory is short
abbrev pub Gives : (Answer → Type 0) → Result (Span × Vec Replacement Global) ConstructFault → Type 0
Gives Is (Ok made) = Is (terms (texts_of made.1.items))
Gives Is (Err e) = IsRefusal Is e
