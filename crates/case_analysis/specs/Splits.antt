-- What stands in place of a node that is split, or why nothing does.
use Rattle.std.specs.Prelude.{◌≡◌, ℕ, ◌-◌, ◌&&◌, nat_le, List, ◌++◌, map, take, drop, length, codes, Option, Some, None, option_and_then, Result, Ok, Err, if◌then◌else◌}
use Rattle.std.specs.Str.{is_utf8}
use Rattle.text_terms.specs.Bytes.{str_bytes}
use Rattle.tree_model.specs.Rows.{Row, pany_row, pname_row, pconst_row, pneg_row, pcon_row, pparen_row, plist_row, precord_row, papp_row, pcons_row, ptuple_row, por_row, pas_row}
use Rattle.tree_model.specs.Trees.{Place}
use Rattle.query_model.specs.TypedNodes.{Typed, innermost_at}
use Rattle.signature_model.specs.Declarations.{Name}
use Rattle.type_nodes.specs.Nodes.{Node}
use Rattle.type_nodes.specs.Links.{reading}
use Rattle.env_table.specs.declared.entries.Entry.{Entry}
use Rattle.syntax_tree.specs.View.{trees_of}
use Rattle.query_engine.specs.declared.asked.Asked.{Asked}
use Rattle.query_engine.specs.declared.trials.Replacement.{Replacement}
use Rattle.type_alternatives.specs.Alternatives.{Outermost, constructor, constant, cons, tuple, record_with, Values, known, functions, literal, untold, OfType}
use Rattle.type_alternatives.specs.Templates.{written, before_each, separated, tuple_text, record_text, hidden_among}
use Rattle.type_alternatives.specs.declared.values.Argument.{Argument}
use Rattle.type_alternatives.specs.declared.values.Argument.TheVariants as argument
use Rattle.asked_node.specs.Rows.{row_at}
use Rattle.asked_node.specs.Node.{typing_at}
use Rattle.case_analysis.specs.declared.subjects.Subject.{Subject}
use Rattle.case_analysis.specs.declared.subjects.Subject.TheVariants as subject
use Rattle.case_analysis.specs.declared.SplitFault.{SplitFault}
use Rattle.case_analysis.specs.declared.SplitFault.TheVariants as fault

-- what is split at a row: `_`, a name, an expression; of another pattern nothing
unfoldable pub subject_of : Row → Option Subject
subject_of pany_row = Some subject.Any
subject_of pname_row = Some subject.Name
subject_of pconst_row = None
subject_of pneg_row = None
subject_of pcon_row = None
subject_of pparen_row = None
subject_of plist_row = None
subject_of precord_row = None
subject_of papp_row = None
subject_of pcons_row = None
subject_of ptuple_row = None
subject_of por_row = None
subject_of pas_row = None
subject_of _ = Some subject.Expression

-- A, A _
abbrev pub constructor_pattern : List ℕ → Argument → List ℕ
constructor_pattern path argument.None = path
constructor_pattern path argument.One = path ++ codes " _"
constructor_pattern path (argument.Tuple parts) = path ++ codes " _"

-- an outermost part as a pattern
abbrev pub pattern_text : Outermost → List ℕ
pattern_text (constructor n a) = constructor_pattern (written n) a
pattern_text (constant s) = s
pattern_text cons = codes "_ :: _"
pattern_text (tuple parts) = tuple_text parts
pattern_text (record_with ns) = record_text ns

-- A _ -> _
abbrev pub case_text : Outermost → List ℕ
case_text o = pattern_text o ++ codes " -> _"

-- (match e with | A -> _ | B _ -> _), (A | B _), ((A | B _) as x)
abbrev pub split_text : Subject → List ℕ → List Outermost → List ℕ
split_text subject.Expression source os = codes "(match " ++ (source ++ (codes " with" ++ (before_each (codes " | ") (map case_text os) ++ codes ")")))
split_text subject.Any source os = codes "(" ++ (separated (codes " | ") (map pattern_text os) ++ codes ")")
split_text subject.Name source os = codes "((" ++ (separated (codes " | ") (map pattern_text os) ++ (codes ") as " ++ (source ++ codes ")")))

-- the source text at a place, where the place stands in the text and has whole characters

-- bytes that are whole characters
abbrev pub whole : List ℕ → Option (List ℕ)
whole bytes = if is_utf8 bytes then Some bytes else None

-- the bytes of a place, where it stands in the text and has whole characters
abbrev pub source_at : List ℕ → Place → Option (List ℕ)
source_at text x = if nat_le x.start x.end && nat_le x.end (length text) then whole (take (x.end - x.start) (drop x.start text)) else None

-- what is answered: a text in place of the node, or why there is none
pub data Answer : Type 0 where
  replaced : List ℕ → Answer
  no_node : Answer
  nothing_to_split : Answer
  hidden_constructor : Name → Answer

-- by the outermost parts and the first hidden name among them
abbrev pub answer_of : Subject → Option (List ℕ) → List Outermost → Option Name → Answer
answer_of s source os (Some name) = hidden_constructor name
answer_of s None os None = nothing_to_split
answer_of s (Some bytes) os None = replaced (split_text s bytes os)

-- by what is told of the values of the subject's type
abbrev pub answer_by : Subject → Option (List ℕ) → Values → Answer
answer_by s source (known os) = answer_of s source os (hidden_among os)
answer_by s source functions = nothing_to_split
answer_by s source (literal text) = nothing_to_split
answer_by s source untold = nothing_to_split

-- the answer at what is split, of this source text, where a type and the names in scope are recorded for it
abbrev pub SplitBy : List Node → Option (List ℕ) → Option Subject → Option (ℕ × List Entry) → Answer → Type 0
SplitBy nodes source None typing a = a ≡ nothing_to_split
SplitBy nodes source (Some s) None a = a ≡ nothing_to_split
SplitBy nodes source (Some s) (Some typing) a = (vs : Values) × OfType nodes typing.1 (reading nodes typing.0) vs × (a ≡ answer_by s source vs)

-- the answer at a typed node of a text, or where there is none
abbrev pub SplitAt : Asked → List ℕ → Option Typed → Answer → Type 0
SplitAt asked text None a = a ≡ no_node
SplitAt asked text (Some t) a =
    SplitBy asked.store.now.nodes (source_at text t.span) (option_and_then subject_of (row_at (trees_of asked.tree.now) t.id.item t.id.pre)) (typing_at asked t.id.item t.id.pre) a

-- the answer at an offset
abbrev pub Splits : Asked → List ℕ → ℕ → Answer → Type 0
Splits asked text offset a = SplitAt asked text (innermost_at offset (trees_of asked.tree.now)) a

-- an answer is refused by a fault, unless memory is short
abbrev pub IsRefusal : (Answer → Type 0) → SplitFault → Type 0
IsRefusal Is fault.NoNode = Is no_node
IsRefusal Is fault.NothingToSplit = Is nothing_to_split
IsRefusal Is (fault.HiddenConstructor name) = Is (hidden_constructor (str_bytes name))
IsRefusal Is (fault.WouldFault at) = ⊥
IsRefusal Is fault.NoMemory = Unit {0}

-- what is returned gives the answer, unless memory is short
abbrev pub Gives : (Answer → Type 0) → Result Replacement SplitFault → Type 0
Gives Is (Ok made) = Is (replaced (str_bytes made.text))
Gives Is (Err e) = IsRefusal Is e

-- the fault tells this name as hidden, unless memory is short
abbrev pub IsHidden : Name → SplitFault → Type 0
IsHidden name fault.NoNode = ⊥
IsHidden name fault.NothingToSplit = ⊥
IsHidden name (fault.HiddenConstructor other) = str_bytes other ≡ name
IsHidden name (fault.WouldFault at) = ⊥
IsHidden name fault.NoMemory = Unit {0}
